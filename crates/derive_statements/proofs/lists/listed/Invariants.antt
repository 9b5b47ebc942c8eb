use Rattle.std.proofs.Common.{◌≡◌, ◌≤◌, ◌++◌, ◌-◌, drop, length}
use Rattle.derive_tokens.specs.Pieces.{derived_all}
use Rattle.derive_values.specs.Places.{opened_within}
use Rattle.derive_statements.specs.Lists.{listed, listed_from}
use Rattle.derive_statements.specs.Views.{listing_of}
use Rattle.derive_statements.proofs.lists.listed.Given as goal

abbrev pub invariant-loop-at : goal.invariant-loop-at
invariant-loop-at l = record {
  within : l.at ≤ length l.pieces;
  few : opened_within l.listing.scope ≤ l.at;
  rest : derived_all l.out.items ++ listed_from (listing_of l.listing) (derived_all (drop l.at l.pieces))
      ≡ listed (derived_all l.pieces);
}

abbrev pub decreases-loop-at : goal.decreases-loop-at
decreases-loop-at l = length l.pieces - l.at
