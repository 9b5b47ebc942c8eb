use Rattle.std.proofs.Common.{◌≡◌, drop}
use Rattle.derive_tokens.specs.Pieces.{derived_all}
use Rattle.derive_values.specs.Places.{routines_from, routines_of}
use Rattle.derive_tokens.specs.Held as held
use Rattle.derive_statements.specs.FileNames.{names_of, others_from}
use Rattle.derive_statements.proofs.file_names.names_of.Given as goal

abbrev pub invariant-loop-piece : goal.invariant-loop-piece
invariant-loop-piece l = record {
  routines : routines_from (held.names_of l.routines) l.scope (derived_all (drop l.piece-index l.pieces))
      ≡ routines_of (derived_all l.pieces);
  others : others_from (held.names_of l.others) l.scope l.met (derived_all (drop l.piece-index l.pieces))
      ≡ (names_of (derived_all l.pieces)).others;
}
