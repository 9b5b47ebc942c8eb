use Rattle.std.proofs.Common.{◌≡◌, ◌≤◌, ◌+◌, ◌-◌, ◌*◌, ◌++◌, List, ℕ, drop, length, vec_capacity, vec_len}
use Rattle.iff_files.specs.Differences.{packed}
use Rattle.iff_files.proofs.differences.fill_room.Given as goal

abbrev pub invariant-loop-i : goal.invariant-loop-i
invariant-loop-i l = record {
  few : l.left ≤ l.equal + l.i;
  room : vec_len l.out + 3 * (length l.was - l.i) ≤ vec_capacity l.out;
  put : (base bytes : List ℕ) → l.out.items ++ packed l.left (drop l.i l.was ++ base) (drop l.i l.now ++ bytes)
      ≡ l.initial.out.items ++ packed l.equal (l.was ++ base) (l.now ++ bytes);
}
