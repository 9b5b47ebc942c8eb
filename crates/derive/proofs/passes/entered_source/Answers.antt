use Rattle.std.proofs.Common.{ap, ◌∙◌}
use Rattle.derive_tokens.specs.Pieces.{derived_all}
use Rattle.derive_tokens.specs.Held.{names_of}
use Rattle.derive_values.specs.Views.{numbers_held}
use Rattle.derive_addresses.specs.Views.{placed_of}
use Rattle.derive_operands.specs.Alternatives.{keys_of}
use Rattle.derive.specs.Held.{signatures_held}
use Rattle.derive.proofs.Finishing.{entered_on, gives_no_memory}
use Rattle.derive.proofs.passes.entered_source.Goals as goal

pub operands-requires : goal.operands-requires
operands-requires c = c.in_ok-keys.ensures ∙ ap keys_of (ap derived_all c.deref.ensures.value)

pub returns : goal.returns
returns c =
    entered_on c.finished.result (numbers_held c.args.numbers.now) (signatures_held c.args.given.now)
    (derived_all c.args.statements.items) (derived_all c.as_slice-row.result.now)
    (derived_all c.in_ok-entries.entries.items) (names_of c.in_ok-keys.keys) (placed_of c.in_ok-placed.placed)
    (ap derived_all c.as_slice-row.ensures.value ∙ c.in_ok-stepping.ensures)
    (c.in_ok-keys.ensures ∙ ap keys_of (ap derived_all c.deref.ensures.value))
    c.in_ok-placed.ensures.value c.in_ok-entries.ensures c.finished.ensures

pub returns-in_err-entries : goal.returns-in_err-entries
returns-in_err-entries c =
    gives_no_memory c.from_residual-in_err-entries.result _ c.from_residual-in_err-entries.ensures.1
