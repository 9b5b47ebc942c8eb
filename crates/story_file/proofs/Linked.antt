-- The links of objects, from the last one on.
use Rattle.std.proofs.Common.{◌≡◌, inl, inr, ◌+◌, ◌<◌, ◌≤◌, ℕ, zero, suc, List, [], ◌∷◌, length}
use Rattle.std.proofs.Common.{drop, slice_index_or, slice_set, refl, ap, sym, subst, ◌∙◌, arith}
use Rattle.std.proofs.lemmas.Bool.{cases_eq}
use Rattle.std.proofs.lemmas.List.{length-set, get_or-set_same, get_or-set_other}
use Rattle.meaning.specs.Objects.{ObjectOf, no_object, first_of, standing_in}
use Rattle.meaning.proofs.ObjectLists.{if_same, if_other}
use Rattle.story_file.specs.Linked.{AreLinked}

-- those from a place on begin with the object there
drop_here : (xs : List ObjectOf) (i : ℕ) → i < length xs
    → drop i xs ≡ slice_index_or xs i no_object ∷ drop (i + 1) xs
drop_here [] i lt = absurd (omega (arith, lt))
drop_here (x ∷ xs) zero lt = refl
drop_here (x ∷ xs) (suc i) lt =
    let next : suc i + 1 ≡ suc (i + 1) = omega arith in
    drop_here xs i (omega (arith, lt)) ∙ ap (λ n. slice_index_or xs i no_object ∷ drop n (x ∷ xs)) (sym next)

-- the first one in a number, where the object at a place stands in it
first_here : (xs : List ObjectOf) (i p : ℕ) → i < length xs → (slice_index_or xs i no_object).parent ≡ p
    → first_of (standing_in p (i + 1) (drop i xs)) ≡ i + 1
first_here xs i p lt e =
    let x : ObjectOf = slice_index_or xs i no_object in
    let rest : List ℕ = standing_in p (suc (i + 1)) (drop (i + 1) xs) in
    ap (λ ys. first_of (standing_in p (i + 1) ys)) (drop_here xs i lt)
    ∙ ap first_of (if_same x.parent p ((i + 1) ∷ rest) rest e)

-- and where it does not
first_later : (xs : List ObjectOf) (i p : ℕ) → i < length xs → ((slice_index_or xs i no_object).parent ≡ p → ⊥)
    → first_of (standing_in p (i + 1) (drop i xs)) ≡ first_of (standing_in p (i + 1 + 1) (drop (i + 1) xs))
first_later xs i p lt other =
    let x : ObjectOf = slice_index_or xs i no_object in
    let rest : List ℕ = standing_in p (suc (i + 1)) (drop (i + 1) xs) in
    let next : suc (i + 1) ≡ i + 1 + 1 = omega arith in
    ap (λ ys. first_of (standing_in p (i + 1) ys)) (drop_here xs i lt)
    ∙ ap first_of (if_other x.parent p ((i + 1) ∷ rest) rest other)
    ∙ ap (λ n. first_of (standing_in p n (drop (i + 1) xs))) next

-- within a list what would stand after its end does not matter
same_here : (xs : List ℕ) (i d e : ℕ) → i < length xs → slice_index_or xs i d ≡ slice_index_or xs i e
same_here [] i d e h = absurd (omega (arith, h))
same_here (y ∷ xs) zero d e h = refl
same_here (y ∷ xs) (suc i) d e h = same_here xs i d e (omega (arith, h))

-- one more object is known, the one before
pub linked_more : (xs : List ObjectOf) (left i q w : ℕ) (first next : List ℕ) → left ≡ i + 1 → i < length xs
    → (slice_index_or xs i no_object).parent ≡ q → q ≤ length xs → w ≡ slice_index_or first q w
    → AreLinked xs left first next → AreLinked xs i (slice_set first q (i + 1)) (slice_set next i w)
linked_more xs left i q w first next back lt there within found before =
    let known : AreLinked xs (i + 1) first next = subst (λ n. AreLinked xs n first next) back before in
    let inside : q < length first = omega (arith, within, known.numbers) in
    let same : w ≡ slice_index_or first q 0 = found ∙ same_here first q w 0 inside in
    record {
      numbers = length-set first q (i + 1) ∙ known.numbers;
      places = length-set next i w ∙ known.places;
      first_in = λ p h. elim (cases_eq q p) [
        | inl e ↦
            ap (λ n. slice_index_or (slice_set first q (i + 1)) n 0) (sym e)
            ∙ get_or-set_same first q (i + 1) 0 inside
            ∙ sym (first_here xs i p lt (there ∙ e))
        | inr other ↦
            get_or-set_other first q p (i + 1) 0 (λ e. other (sym e)) ∙ known.first_in p h
            ∙ sym (first_later xs i p lt (λ e. other (sym there ∙ e)))
      ];
      after = λ k from small. elim (cases_eq i k) [
        | inl e ↦
            ap (λ n. slice_index_or (slice_set next i w) n 0) (sym e)
            ∙ get_or-set_same next i w 0 (omega (arith, lt, known.places))
            ∙ same ∙ known.first_in q within
            ∙ ap (λ p. first_of (standing_in p (i + 1 + 1) (drop (i + 1) xs))) (sym there)
            ∙ ap (λ n. first_of (standing_in (slice_index_or xs n no_object).parent (n + 1 + 1) (drop (n + 1) xs))) e
        | inr other ↦
            get_or-set_other next i k w 0 (λ e. other (sym e))
            ∙ known.after k (later i k from other) small
      ];
    }
  where
    later : (i k : ℕ) → i ≤ k → (i ≡ k → ⊥) → i + 1 ≤ k
    later zero zero h not = absurd (not refl)
    later zero (suc k) h not = omega arith
    later (suc i) zero h not = absurd (omega (arith, h))
    later (suc i) (suc k) h not =
        let more = later i k (omega (arith, h)) (λ e. not (ap suc e)) in omega (arith, more)
