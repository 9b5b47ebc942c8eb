-- What a statement of the code stands for, a variant at a time.
use Rattle.std.proofs.Common.{◌≡◌, map, ap, sym, ◌∙◌, Option}
use Rattle.std.specs.Option.{option_map}
use Rattle.std.specs.Global.{Vec, Box}
use Rattle.meaning.specs.declared.resolved.Span.{Span}
use Rattle.meaning.specs.declared.resolved.Variable.{Variable}
use Rattle.meaning.specs.declared.resolved.Value as code_value
use Rattle.meaning.specs.declared.resolved.Action as code_action
use Rattle.meaning.specs.declared.resolved.Action.TheVariants as s
use Rattle.meaning.specs.declared.resolved.Action.TheFolds.{fold-roll-Action}
use Rattle.meaning.specs.Resolved.{give_to, move_to, remove_from, each_object, each_where, each_in, Action}
use Rattle.meaning.specs.Resolved.{while_do, do_until, for_loop, switch_on, return_value}
use Rattle.meaning.specs.Views.{cases_of, value_of, case_of, boxed_value, other_of, action_of, action_layer}
use Rattle.meaning.proofs.Switches.{made_switch}

pub while_is : (t : code_action.Action) (e : Box code_value.Value) (x : Box code_action.Action) → t ≡ s.While e x
    → action_of t
    ≡ while_do (value_of e.value) (action_of x.value)
while_is t e x is = ap action_of is ∙ ap action_of (sym (s.rolls-While e x)) ∙ fold-roll-Action Action action_layer _

pub do_is : (t : code_action.Action) (x : Box code_action.Action) (e : Box code_value.Value) → t ≡ s.Do x e
    → action_of t ≡ do_until (action_of x.value) (value_of e.value)
do_is t x e is = ap action_of is ∙ ap action_of (sym (s.rolls-Do x e)) ∙ fold-roll-Action Action action_layer _

pub for_is : (t : code_action.Action) (a b c : Option (Box code_value.Value)) (x : Box code_action.Action)
    → t ≡ s.For a b c x
    → action_of t ≡ for_loop (option_map boxed_value a) (option_map boxed_value b) (option_map boxed_value c)
    (action_of x.value)
for_is t a b c x is =
    ap action_of is ∙ ap action_of (sym (s.rolls-For a b c x)) ∙ fold-roll-Action Action action_layer _

pub switch_is : (t : code_action.Action) (e : Box code_value.Value)
    (cases : Box (Vec (Vec Span × Vec code_action.Action) × Option (Vec code_action.Action)))
    → t ≡ s.Switch e cases → action_of t
    ≡ switch_on (value_of e.value) (cases_of (map case_of cases.value.0.items) (other_of cases.value.1))
switch_is t e cases is = ap action_of is ∙ made_switch e cases

pub return_is : (t : code_action.Action) (e : code_value.Value) → t ≡ s.ReturnValue e
    → action_of t ≡ return_value (value_of e)
return_is t e is = ap action_of is ∙ ap action_of (sym (s.rolls-ReturnValue e)) ∙ fold-roll-Action Action action_layer _

pub give_is : (t : code_action.Action) (e : Box code_value.Value) (changes : _) → t ≡ s.Give e changes
    → action_of t ≡ give_to (value_of e.value) changes.items
give_is t e changes is =
    ap action_of is ∙ ap action_of (sym (s.rolls-Give e changes)) ∙ fold-roll-Action Action action_layer _

pub move_is : (t : code_action.Action) (e d : Box code_value.Value) → t ≡ s.Move e d
    → action_of t ≡ move_to (value_of e.value) (value_of d.value)
move_is t e d is = ap action_of is ∙ ap action_of (sym (s.rolls-Move e d)) ∙ fold-roll-Action Action action_layer _

pub remove_is : (t : code_action.Action) (e : code_value.Value) → t ≡ s.Remove e
    → action_of t ≡ remove_from (value_of e)
remove_is t e is = ap action_of is ∙ ap action_of (sym (s.rolls-Remove e)) ∙ fold-roll-Action Action action_layer _

pub each_is : (t : code_action.Action) (x : Variable) (a : Box code_action.Action) → t ≡ s.EachObject x a
    → action_of t ≡ each_object x (action_of a.value)
each_is t x a is =
    ap action_of is ∙ ap action_of (sym (s.rolls-EachObject x a)) ∙ fold-roll-Action Action action_layer _

pub each_where_is : (t : code_action.Action) (x : Variable) (e : Box code_value.Value) (a : Box code_action.Action)
    → t ≡ s.EachWhere x e a → action_of t ≡ each_where x (value_of e.value) (action_of a.value)
each_where_is t x e a is =
    ap action_of is ∙ ap action_of (sym (s.rolls-EachWhere x e a)) ∙ fold-roll-Action Action action_layer _

pub each_in_is : (t : code_action.Action) (x : Variable) (e : Box code_value.Value) (a : Box code_action.Action)
    → t ≡ s.EachIn x e a → action_of t ≡ each_in x (value_of e.value) (action_of a.value)
each_in_is t x e a is =
    ap action_of is ∙ ap action_of (sym (s.rolls-EachIn x e a)) ∙ fold-roll-Action Action action_layer _
