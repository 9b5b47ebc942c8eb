-- Which characters the tests of a printed character let through.
use Rattle.std.proofs.Common.{◌≡◌, ◌⊎◌, inl, inr, ℕ, ◌<◌, ◌≤◌, [], ◌∷◌, Bool, true, false, refl, arith}
use Rattle.std.specs.Prelude.{nat_lt, nat_le, nat_eq, not, ◌||◌, ◌&&◌}
use Rattle.std.proofs.lemmas.Bool.{cases_lt, lt-ltb, le-ltb, le-leb, lt-leb}
use Rattle.zcore.specs.Arithmetic.{signed_less}
use Rattle.zcore.specs.Execution.{equals_any}
use Rattle.meaning.specs.Meaning.{is_character}

either_same : (x y z w : Bool) → z ≡ w → (x || y || z) ≡ ((x || (y || false)) || w)
either_same true y z w e = refl
either_same false true z w e = refl
either_same false false z w e = e

by_order : (v : ℕ) → (v < 32) ⊎ (32 ≤ v) → (126 < v) ⊎ (v ≤ 126) → (v < 32768) ⊎ (32768 ≤ v)
    → (nat_le 32 v && nat_le v 126) ≡ (not (signed_less v 32) && not (signed_less 126 v))
by_order v (inl h) k l =
    let e : nat_le 32 v ≡ false = lt-leb 32 v h in
    let f : nat_le 32768 v ≡ false = lt-leb 32768 v (omega (arith, h)) in
    let g : nat_lt v 32 ≡ true = lt-ltb v 32 h in
    rw (e, f, g) refl
by_order v (inr h) (inr k) l =
    let e : nat_le 32 v ≡ true = le-leb 32 v h in
    let d : nat_le v 126 ≡ true = le-leb v 126 k in
    let f : nat_le 32768 v ≡ false = lt-leb 32768 v (omega (arith, k)) in
    let g : nat_lt v 32 ≡ false = le-ltb v 32 h in
    let i : nat_lt 126 v ≡ false = le-ltb 126 v k in
    rw (e, d, f, g, i) refl
by_order v (inr h) (inl k) (inl l) =
    let e : nat_le 32 v ≡ true = le-leb 32 v h in
    let d : nat_le v 126 ≡ false = lt-leb v 126 k in
    let f : nat_le 32768 v ≡ false = lt-leb 32768 v l in
    let g : nat_lt v 32 ≡ false = le-ltb v 32 h in
    let i : nat_lt 126 v ≡ true = lt-ltb 126 v k in
    rw (e, d, f, g, i) refl
by_order v (inr h) (inl k) (inr l) =
    let e : nat_le 32 v ≡ true = le-leb 32 v h in
    let d : nat_le v 126 ≡ false = lt-leb v 126 k in
    let f : nat_le 32768 v ≡ true = le-leb 32768 v l in
    rw (e, d, f) refl

pub character_tests : (v : ℕ) → is_character v
    ≡ (equals_any v (0 ∷ 13 ∷ []) || (not (signed_less v 32) && not (signed_less 126 v)))
character_tests v =
    either_same (nat_eq v 0) (nat_eq v 13) (nat_le 32 v && nat_le v 126)
    (not (signed_less v 32) && not (signed_less 126 v))
    (by_order v (cases_lt v 32) (cases_lt 126 v) (cases_lt v 32768))
