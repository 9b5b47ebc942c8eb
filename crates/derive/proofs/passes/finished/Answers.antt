use Rattle.std.proofs.Common.{List, Ok, ap, sym, ◌∙◌}
use Rattle.derive_tokens.specs.declared.piece.Piece.{Piece}
use Rattle.derive_tokens.specs.Pieces.{derived_all}
use Rattle.derive_tokens.specs.Tokens.{Outcome}
use Rattle.derive_tokens.specs.Held.{names_of}
use Rattle.derive_statements.specs.Views.{file_names}
use Rattle.derive_values.specs.Views.{numbers_held}
use Rattle.derive_addresses.specs.Views.{placed_of}
use Rattle.derive.specs.Held.{signatures_held}
use Rattle.derive.proofs.Finishing.{finished_on, finished_stop, gives_no_memory}
use Rattle.derive.proofs.passes.finished.Goals as goal

abbrev outcome_of : List Piece → Outcome
outcome_of pieces = Ok (derived_all pieces)

pub returns-in_ok-text-in-Ok : goal.returns-in_ok-text-in-Ok
returns-in_ok-text-in-Ok c =
    finished_on (numbers_held c.args.numbers.now) (signatures_held c.args.given.now) (derived_all c.args.entries.items)
    (derived_all c.as_slice-row.result.now) (derived_all c.deref.result.now) (file_names c.in_ok-file.file)
    (names_of c.in_ok-messages.messages) (names_of c.args.keys.now) (placed_of c.args.placed.now)
    c.in_ok-text-in-Ok.text.items (ap derived_all c.as_slice-row.ensures.value)
    (c.in-Ok.ensures ∙ ap outcome_of (sym c.deref.ensures.value)) c.in_ok-file.ensures c.in_ok-messages.ensures
    c.in_ok-text-in-Ok.ensures

pub returns-in-Err : goal.returns-in-Err
returns-in-Err c =
    finished_stop (numbers_held c.args.numbers.now) (signatures_held c.args.given.now)
    (derived_all c.args.entries.items) (derived_all c.as_slice-row.result.now) (names_of c.args.keys.now)
    (placed_of c.args.placed.now) c.in-Err.fault (ap derived_all c.as_slice-row.ensures.value) c.in-Err.ensures

pub returns-in_err-text-in-Ok : goal.returns-in_err-text-in-Ok
returns-in_err-text-in-Ok c =
    gives_no_memory c.from_residual-in_err-text-in-Ok.result _ c.from_residual-in_err-text-in-Ok.ensures.1
