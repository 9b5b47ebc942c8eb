use Rattle.std.proofs.Common.{◌≡◌, ◌≤◌, ◌+◌, ◌++◌, List, ℕ, drop}
use Rattle.iff_files.specs.Differences.{packed}
use Rattle.iff_files.proofs.differences.put_bytes.Given as goal

abbrev pub invariant-loop-i : goal.invariant-loop-i
invariant-loop-i l = record {
  few : l.left ≤ l.equal + l.i;
  put : (base bytes : List ℕ) → l.out.items ++ packed l.left (drop l.i l.was ++ base) (drop l.i l.now ++ bytes)
      ≡ l.initial.out.items ++ packed l.equal (l.was ++ base) (l.now ++ bytes);
}
