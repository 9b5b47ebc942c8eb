-- How long parts of a save file are at most.
use Rattle.std.proofs.Common.{◌≡◌, ℕ, zero, suc, ◌+◌, ◌*◌, ◌/◌, ◌%◌, ◌≤◌, List, [], ◌∷◌, length, ap, arith}
use Rattle.std.proofs.Common.{inl, inr}
use Rattle.std.specs.Int.Bits.{bit_xor}
use Rattle.std.proofs.Math.Nat.{div-add-mod}
use Rattle.std.proofs.lemmas.Bool.{cases_eq}
use Rattle.iff_files.specs.Differences.{full_runs, packed, short_run, with_equal}
use Rattle.iff_files.proofs.PackedBytes.{packed_equal, packed_other}

length-full_runs : (runs : ℕ) (ds : List ℕ) → length (full_runs runs ds) ≡ runs * 2 + length ds
length-full_runs zero ds = omega arith
length-full_runs (suc runs) ds = omega (arith, length-full_runs runs ds)

length-short_run : (more : ℕ) (ds : List ℕ) → length (short_run more ds) ≤ more * 2 + length ds
length-short_run zero ds = omega arith
length-short_run (suc more) ds = omega arith

length-with_equal : (n : ℕ) (ds : List ℕ) → length (with_equal n ds) ≤ n * 2 + length ds
unfolding with_equal
length-with_equal n ds = omega (
  arith,
  length-full_runs (n / 256) (short_run (n % 256) ds),
  length-short_run (n % 256) ds,
  div-add-mod n 256,
)

pub length-packed : (equal : ℕ) (base bytes : List ℕ) → length (packed equal base bytes) ≤ equal * 2 + length base * 3
unfolding packed
length-packed equal [] bytes = omega arith
length-packed equal (b ∷ base) [] = omega arith
length-packed equal (b ∷ base) (c ∷ bytes) = elim (cases_eq b c) [
  | inl same ↦ omega (
    arith,
    ap (λ (t : List ℕ). length t) (packed_equal equal b c base bytes same),
    length-packed (equal + 1) base bytes,
  )
  | inr other ↦ omega (
    arith,
    ap (λ (t : List ℕ). length t) (packed_other equal b c base bytes other),
    length-with_equal equal (bit_xor b c ∷ packed 0 base bytes),
    length-packed 0 base bytes,
  )
]
