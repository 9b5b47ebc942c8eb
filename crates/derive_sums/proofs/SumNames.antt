-- Names of sums, one more.
use Rattle.std.proofs.Common.{◌≡◌, ◌<◌, ◌+◌, ◌-◌, ◌∙◌, ◌++◌, ℕ, zero, suc, List, ap, append_assoc, append-nil, arith}
use Rattle.std.specs.Prelude.{codes}
use Rattle.std.specs.Fmt.{decimal}
use Rattle.derive_sums.specs.Sums.{sums_named}

regroup : (a b c d : List ℕ) → a ++ ((b ++ c) ++ d) ≡ ((a ++ b) ++ c) ++ d
regroup a b c d = simp append_assoc

pub sums_on : (key : List ℕ) (count k : ℕ) → k < count
    → key ++ sums_named (k + 1) (count - k)
    ≡ ((key ++ codes " x__a") ++ decimal (k + 1)) ++ sums_named (k + 1 + 1) (count - (k + 1))
sums_on key count k lt =
    let more : count - k ≡ suc (count - (k + 1)) = omega (arith, lt) in
    ap (λ n. key ++ sums_named (k + 1) n) more
    ∙ regroup key (codes " x__a") (decimal (k + 1)) (sums_named (k + 1 + 1) (count - (k + 1)))

pub sums_end : (key : List ℕ) (k n : ℕ) → n ≡ 0 → key ++ sums_named k n ≡ key
sums_end key k zero none = append-nil key
sums_end key k (suc n) none = absurd (omega arith)
