use Rattle.std.proofs.Common.{◌≡◌, ◌<◌, ◌^◌, false, sym, subst, arith}
use Rattle.derive_tokens.specs.Pieces.{derived, derived_of}
use Rattle.derive_tokens.specs.Tokens.{is_named}
use Rattle.derive_tokens.proofs.Numbered.{no_name}
use Rattle.derive_tokens.proofs.names.is_called.Goals as goal

-- src/names.rt: a name with a number
pub returns-in-Numbered : goal.returns-in-Numbered
returns-in-Numbered c =
    sym (subst (λ k. is_named c.args.name.now (derived_of k c.args.piece.position) ≡ false) (sym c.in-Numbered.is)
    (no_name c.in-Numbered.field-0.now c.in-Numbered.field-1 c.args.name.now (grind (arith, c.well_formed)) c.requires))
