use Rattle.std.proofs.Common.{◌≡◌, ◌≤◌, ◌+◌, drop, fold}
use Rattle.derive_tokens.specs.Pieces.{derived, derived_all}
use Rattle.derive_entries.specs.Operands.{depth_of, look_after, look_of}
use Rattle.derive_entries.specs.Views.{look_held}
use Rattle.derive_entries.proofs.operands.look_of.Given as goal

abbrev pub invariant-loop-next : goal.invariant-loop-next
invariant-loop-next l = record {
  few : depth_of (look_held l.look) ≤ l.next-index + 1;
  rest : fold look_after (look_held l.look) (derived_all (drop l.next-index l.rest))
      ≡ look_of l.fn.is_array (derived l.fn.piece) (derived_all l.rest);
}
