use Rattle.std.proofs.Common.{◌≡◌, true, take}
use Rattle.std.specs.List.{list_all}
use Rattle.derive_tokens.specs.Pieces.{derived_all}
use Rattle.derive_tokens.specs.Held.{names_of}
use Rattle.derive_entries.specs.Plain.{is_apart}
use Rattle.derive_entries.proofs.statements.bare_length.Given as goal

abbrev pub invariant-loop-at : goal.invariant-loop-at
invariant-loop-at l = record {
  apart : list_all (is_apart (names_of l.arrays)) (derived_all (take l.at l.pieces)) ≡ true;
}
