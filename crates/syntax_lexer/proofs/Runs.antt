-- Runs of bytes.
use Rattle.std.proofs.Common.{◌≡◌, ℕ, zero, suc, ◌+◌, ◌*◌, ◌<◌, ◌≤◌, Bool, true, false, cond, List, [], ◌∷◌, length}
use Rattle.std.proofs.Common.{get_or, drop, refl, arith, drop-cons, add-one}
use Rattle.syntax_lexer.specs.declared.bytes.Base.{Base}
use Rattle.syntax_lexer.specs.declared.bytes.Base.TheVariants as bases
use Rattle.syntax_lexer.specs.Bytes.{run, value_from, base_of, digit_value}

pub run_within : (p : ℕ → Bool) (bs : List ℕ) → run p bs ≤ length bs
unfolding run
run_within p [] = omega arith
run_within p (b ∷ bs) = go (p b) (run_within p bs)
  where
    go : (t : Bool) → run p bs ≤ length bs → cond t (suc (run p bs)) 0 ≤ suc (length bs)
    go true le = omega arith
    go false le = omega arith

-- one more byte of the run
pub run_more : (p : ℕ → Bool) (bs : List ℕ) (n : ℕ) → n < length bs → p (get_or bs n 0) ≡ true
    → run p (drop n bs) ≡ suc (run p (drop (n + 1) bs))
unfolding run
run_more p bs n lt e = rw (drop-cons bs n 0, e, add-one) refl

pub run_stop : (p : ℕ → Bool) (bs : List ℕ) (n : ℕ) → n < length bs → p (get_or bs n 0) ≡ false
    → run p (drop n bs) ≡ 0
unfolding run
run_stop p bs n lt e = rw (drop-cons bs n 0, e) refl

pub run_end : (p : ℕ → Bool) (bs : List ℕ) (n : ℕ) → length bs ≤ n → run p (drop n bs) ≡ 0
unfolding run
run_end p [] zero le = refl
run_end p [] (suc n) le = refl
run_end p (b ∷ bs) zero le = absurd (omega arith)
run_end p (b ∷ bs) (suc n) le = run_end p bs n (omega arith)

-- ---- the value of digits

times : (base : Base) (n d : ℕ) → n ≤ base_of base * n + d
times bases.Decimal n d = omega arith
times bases.Hexadecimal n d = omega arith
times bases.Binary n d = omega arith

pub value_grows : (base : Base) (n : ℕ) (bs : List ℕ) → n ≤ value_from base n bs
unfolding value_from
value_grows base n [] = omega arith
value_grows base n (b ∷ bs) = omega
    (arith, times base n (digit_value b), value_grows base (base_of base * n + digit_value b) bs)

pub value_more : (base : Base) (n : ℕ) (bs : List ℕ) (i : ℕ) → i < length bs
    → value_from base n (drop i bs) ≡ value_from base (base_of base * n + digit_value (get_or bs i 0))
    (drop (i + 1) bs)
unfolding value_from
value_more base n bs i lt = rw (drop-cons bs i 0, add-one) refl

pub value_end : (base : Base) (n : ℕ) (bs : List ℕ) (i : ℕ) → length bs ≤ i → value_from base n (drop i bs) ≡ n
unfolding value_from
value_end base n [] zero le = refl
value_end base n [] (suc i) le = refl
value_end base n (b ∷ bs) zero le = absurd (omega arith)
value_end base n (b ∷ bs) (suc i) le = value_end base n bs i (omega arith)
