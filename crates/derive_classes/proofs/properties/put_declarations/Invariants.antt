use Rattle.std.proofs.Common.{◌≡◌, ◌++◌, drop}
use Rattle.std.specs.List.{fold}
use Rattle.derive_tokens.specs.Pieces.{derived_all}
use Rattle.derive_tokens.specs.Held.{names_of}
use Rattle.derive_tokens.specs.Names.{with_name_of}
use Rattle.derive_classes.specs.Properties.{declarations}
use Rattle.derive_classes.proofs.properties.put_declarations.Given as goal

abbrev pub invariant-loop-piece : goal.invariant-loop-piece
invariant-loop-piece l = record {
  writes : derived_all l.out.items ++ declarations (names_of l.names) (derived_all (drop l.piece-index l.pieces))
      ≡ derived_all l.initial.out.items ++ declarations (names_of l.initial.names) (derived_all l.pieces);
  notes : fold with_name_of (names_of l.names) (derived_all (drop l.piece-index l.pieces))
      ≡ fold with_name_of (names_of l.initial.names) (derived_all l.pieces);
}
