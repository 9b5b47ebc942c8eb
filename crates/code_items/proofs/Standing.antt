-- Items that stand in the code, from one place to another.
use Rattle.std.proofs.Common.{◌≡◌, ℕ, ◌+◌, ◌<◌, List, [], ◌∷◌, ◌++◌, length, Some, refl, sym, ap, ◌∙◌, subst, arith}
use Rattle.std.proofs.Common.{append_assoc, append-nil, length-append}
use Rattle.std.specs.Prelude.{slice_get}
use Rattle.std.proofs.Math.Seq.{get_or-append_seam}
use Rattle.std.proofs.lemmas.Option.{slice_get-get_or}
use Rattle.code_drafts.specs.Items.{Item}

-- the items stand in the code from one place to another
abbrev pub HasAt : List Item → ℕ → List Item → ℕ → Type 0
HasAt code pc [] q = pc ≡ q
HasAt code pc (i ∷ is) q = (slice_get code pc ≡ Some i) × HasAt code (pc + 1) is q

moved_has : (code : List Item) (pc pc' : ℕ) (is : List Item) (q : ℕ) → pc ≡ pc' → HasAt code pc is q
    → HasAt code pc' is q
moved_has code pc pc' is q e h = subst (λ x. HasAt code x is q) e h

-- the first of them have a known number
pub split : (code : List Item) (pc : ℕ) (a b : List Item) (q n : ℕ) → length a ≡ n → HasAt code pc (a ++ b) q
    → HasAt code pc a (pc + n) × HasAt code (pc + n) b q
split code pc [] b q n e h = (omega (arith, e), moved_has code pc (pc + n) b q (omega (arith, e)) h)
split code pc (i ∷ a) b q n e h =
    let rest = split code (pc + 1) a b q (length a) refl h.1 in
    let there : pc + 1 + length a ≡ pc + n = omega (arith, e) in (
      (h.0, subst (λ x. HasAt code (pc + 1) a x) there rest.0),
      moved_has code (pc + 1 + length a)
          (pc + n) b q there rest.1,
    )

pub long : (code : List Item) (pc : ℕ) (a : List Item) (q n : ℕ) → length a ≡ n → HasAt code pc a q
    → pc + n ≡ q
long code pc [] q n e h = omega (arith, e, h)
long code pc (i ∷ a) q n e h =
    let rest = long code (pc + 1) a q (length a) refl h.1 in omega (arith, rest, e)

pub all_at : (is before : List Item) → HasAt (before ++ is) (length before) is (length (before ++ is))
all_at [] before = ap length (sym (append-nil before))
all_at (i ∷ is) before =
    let inside : length before < length (before ++ i ∷ is) = omega (arith, length-append before (i ∷ is)) in
    let here = slice_get-get_or (before ++ i ∷ is) (length before) i inside
    ∙ ap Some (get_or-append_seam before i is i) in
    let n : length (before ++ i ∷ []) ≡ length before + 1 = omega (arith, length-append before (i ∷ [])) in
    let rest = all_at is (before ++ i ∷ []) in
    let rest' = subst (λ l. HasAt l (length (before ++ i ∷ [])) is (length l)) (append_assoc before (i ∷ []) is) rest in
    (here, subst (λ m. HasAt (before ++ i ∷ is) m is (length (before ++ i ∷ is))) n rest')
