-- Where bytes are cut.
use Rattle.std.proofs.Common.{◌≡◌, ◌<◌, ◌≤◌, ◌+◌, ◌-◌, ◌==◌, ℕ, suc, List, [], ◌∷◌, ◌++◌, length, take, drop, cond, not}
use Rattle.std.proofs.Common.{false, refl, ap, ◌∙◌, arith, eq-eqb, ne_eqb}
use Rattle.std.specs.List.{All, slice_index_or}
use Rattle.std.proofs.lemmas.List.{length-drop, take_all}
use Rattle.std.proofs.lemmas.List.Elements.{All-head, All-tail}
use Rattle.std.proofs.lemmas.List.Sums.{fails_before_first, position_or_len_is}
use Rattle.std.proofs.lemmas.List.Splits.{length-slice_split, slice_split_first, slice_split_none}
use Rattle.map_text.specs.Text.{line_feed}
use Rattle.map_text.specs.Reading.{after, before, cut_lines, place}

pub place_is : (d : ℕ) (bytes : List ℕ) (at : ℕ) → at ≤ length bytes
    → ((k : ℕ) → k < at → slice_index_or bytes k 0 ≡ d → ⊥)
    → (at < length bytes → slice_index_or bytes at 0 ≡ d) → place d bytes ≡ at
place_is d bytes at le none is =
    position_or_len_is (λ b. b == d) bytes at 0 le (λ k lt. ne_eqb (slice_index_or bytes k 0) d (none k lt))
    (λ lt. eq-eqb (slice_index_or bytes at 0) d (is lt))

-- the first divider is after the front, all bytes of which are greater
pub place_at : (d : ℕ) (front back : List ℕ) → All (λ b. d < b) front → place d (front ++ d ∷ back) ≡ length front
place_at d [] back above = ap (λ t. cond (not t) (1 + place d back) 0) (eq-eqb d d refl)
place_at d (x ∷ xs) back above =
    let high = All-head (λ b. d < b) x xs above in
    let other : (x == d) ≡ false = ne_eqb x d (λ q. omega (arith, high, q)) in
    let here : place d (x ∷ xs ++ d ∷ back) ≡ 1 + place d (xs ++ d ∷ back) =
    ap (λ t. cond (not t) (1 + place d (xs ++ d ∷ back)) 0) other in
    let more = place_at d xs back (All-tail (λ b. d < b) x xs above) in
    omega (arith, here, more)

front_of : (d : ℕ) (front back : List ℕ) → take (length front) (front ++ d ∷ back) ≡ front
front_of d [] back = refl
front_of d (x ∷ xs) back = ap (λ ys. x ∷ ys) (front_of d xs back)

back_of : (d : ℕ) (front back : List ℕ) → drop (suc (length front)) (front ++ d ∷ back) ≡ back
back_of d [] back = refl
back_of d (x ∷ xs) back = back_of d xs back

-- what is before and after it
pub parts_at : (d : ℕ) (front back : List ℕ) → All (λ b. d < b) front
    → (before d (front ++ d ∷ back) ≡ front) × (after d (front ++ d ∷ back) ≡ back)
parts_at d front back above =
    let at = place_at d front back above in
    let next : place d (front ++ d ∷ back) + 1 ≡ suc (length front) = omega (arith, at) in (
      ap (λ n. take n (front ++ d ∷ back)) at ∙ front_of d front back,
      ap (λ n. drop n (front ++ d ∷ back)) next ∙ back_of d front back,
    )

-- a slice to the end
pub to_end : (n : ℕ) (xs : List ℕ) → take (length xs - n) (drop n xs) ≡ drop n xs
to_end n xs = take_all (length xs - n) (drop n xs) (omega (arith, length-drop n xs))

-- Lines

pub line_cut : (bytes : List ℕ) → place line_feed bytes < length bytes
    → cut_lines bytes ≡ before line_feed bytes ∷ cut_lines (after line_feed bytes)
line_cut bytes lt = slice_split_first (λ b. b == line_feed) bytes 0 lt

pub one_part : (bytes : List ℕ) → place line_feed bytes ≡ length bytes → cut_lines bytes ≡ bytes ∷ []
one_part bytes e =
    slice_split_none (λ b. b == line_feed) bytes
    (λ k d lt. fails_before_first (λ b. b == line_feed) bytes k d (omega (arith, lt, e)))

pub some_part : (bytes : List ℕ) → (length (cut_lines bytes) == 0) ≡ false
some_part bytes =
    let count = length-slice_split (λ b. b == line_feed) bytes in
    ne_eqb (length (cut_lines bytes)) 0 (λ q. omega (arith, count, q))
