use Rattle.std.proofs.Common.{◌∙◌, ◌++◌, ℕ, List, ap, sym}
use Rattle.std.proofs.lemmas.Result.{on_ok_weaker}
use Rattle.derive_tokens.specs.Pieces.{derived_all}
use Rattle.derive_entries.specs.Entries.{call_of, routine_called}
use Rattle.derive_entries.specs.Operands.{Look}
use Rattle.derive_entries.specs.Views.{look_held}
use Rattle.derive_entries.proofs.entries.put_routine.Goals as goal

pub returns-in-Assigned : goal.returns-in-Assigned
returns-in-Assigned c =
    on_ok_weaker c.put_call-in-Assigned.result
    (λ e. e
    ∙ ap (λ (routine : List ℕ). derived_all c.args.out.now.items ++ call_of c.args.position routine)
    c.word_or_byte-in-Assigned.ensures
    ∙ ap (λ (look : Look). derived_all c.args.out.now.items ++ routine_called c.args.position look)
    (sym (ap look_held c.in-Assigned.is)))
    c.put_call-in-Assigned.ensures
