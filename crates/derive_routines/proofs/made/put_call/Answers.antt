use Rattle.std.proofs.Common.{◌∙◌, map}
use Rattle.std.proofs.lemmas.Result.{on_ok_weaker}
use Rattle.derive_constants.specs.Held.{known_of}
use Rattle.derive_tokens.specs.Held.{names_of}
use Rattle.derive_values.specs.Values.{first_routine}
use Rattle.derive_routines.specs.Held.{arm_of, search_of}
use Rattle.derive_routines.specs.Made.{call_search, routine_arms}
use Rattle.derive_routines.proofs.Levels.{searched}
use Rattle.derive_routines.proofs.made.put_call.Goals as goal

pub returns : goal.returns
returns c = on_ok_weaker c.put_search.result
    (λ e. e ∙ searched c.args.text.now.items (search_of c.call_search.result) call_search first_routine
    (map arm_of c.in_ok-arms.arms.items) (routine_arms (known_of c.args.arities.now) first_routine (names_of c.args.routines.now))
    c.call_search.ensures c.in_ok-arms.ensures.value)
    c.put_search.ensures
