-- What a `switch` of the code means: its cases, and the statements of its `default`, are in one box, through which the
-- fold passes by formers of its own.
use Rattle.std.proofs.Common.{◌≡◌, List, Option, Some, None, refl, sym, ap, ◌∙◌}
use Rattle.std.specs.Prelude.{map}
use Rattle.std.specs.Option.{option_map}
use Rattle.std.specs.Global.{Vec, Box}
use Rattle.meaning.specs.declared.resolved.Span.{Span}
use Rattle.meaning.specs.declared.resolved.Value as code_value
use Rattle.meaning.specs.declared.resolved.Action as code_action
use Rattle.meaning.specs.declared.resolved.Action.TheVariants as done
use Rattle.meaning.specs.declared.resolved.Action.TheFolds.{fold-roll-Action}
use Rattle.meaning.specs.Resolved.{Action, switch_on}
use Rattle.meaning.specs.Views.{boxed_value, range_of, actions_of, cases_of, action_layer, action_of, case_of, other_of}
use Rattle.meaning.proofs.Mapped.{mapped_twice}

folded_cases : (cases : List (Vec Span × Vec code_action.Action)) (other : Option (Vec code_action.Action))
    → cases_of (map (λ c. (map range_of c.0.items, actions_of c.1.items))
    (map (code_action.TheShapes.former-Action-Switch-1-at-3.map _ Action action_of) cases))
    (option_map (λ xs. xs.items) (code_action.TheShapes.former-Action-Switch-1-at-7.map _ Action action_of other))
    ≡ cases_of (map case_of cases) (other_of other)
unfolding case_of
folded_cases cases None = ap (λ cs. cases_of cs None) (mapped_twice _ _ case_of (λ c. refl) cases)
folded_cases cases (Some xs) =
    ap (λ cs. cases_of cs (other_of (Some xs))) (mapped_twice _ _ case_of (λ c. refl) cases)

pub made_switch : (v : Box code_value.Value)
    (cases : Box (Vec (Vec Span × Vec code_action.Action) × Option (Vec code_action.Action)))
    → action_of (done.Switch v cases)
    ≡ switch_on (boxed_value v) (cases_of (map case_of cases.value.0.items) (other_of cases.value.1))
made_switch v cases = ap action_of (sym (done.rolls-Switch v cases))
    ∙ fold-roll-Action Action action_layer _
    ∙ ap (λ cs. switch_on (boxed_value v) cs) (folded_cases cases.value.0.items cases.value.1)
