-- Texts with marks, as far as their marks were taken out.
use Rattle.std.proofs.Common.{◌≡◌, ℕ, ◌+◌, ◌<◌, ◌≤◌, ◌==◌, Bool, true, false, List, [], ◌∷◌, ◌++◌, drop, length, refl, ap}
use Rattle.std.proofs.Common.{slice_index, sym, ◌∙◌, ◌≢◌, add-one, drop-cons, inl, inr}
use Rattle.std.specs.Prelude.{bit_or, not}
use Rattle.std.proofs.lemmas.Bool.Decides.{eqb_tells}
use Rattle.std.proofs.lemmas.List.{drop_all}
use Rattle.machine_picture.specs.Marks.{escape, without_marks}
use Rattle.screen.specs.Marked.{style_of, styles_from}
use Rattle.screen.proofs.Adding.{all_added, goes_on}

next_at : (k : ℕ) (text : List ℕ) → k < length text → drop k text ≡ slice_index text k ∷ drop (k + 1) text
next_at k text lt = rw add-one (drop-cons text k 0 lt)

pub differs : (a b : ℕ) → a ≢ b → (a == b) ≡ false
differs a b other = elim (eqb_tells a b) [
  | inl same ↦ absurd (other same.1)
  | inr different ↦ different.0
]

-- in a mark

pub text_marked : (now text whole : List ℕ) (k : ℕ) → k < length text
    → now ++ without_marks true (drop k text) ≡ whole
    → now ++ without_marks (not (slice_index text k == 109)) (drop (k + 1) text) ≡ whole
unfolding without_marks
text_marked now text whole k lt so =
    sym (ap (λ (t : List ℕ). now ++ without_marks true t) (next_at k text lt)) ∙ so

pub each_marked : (now text whole : List ℕ) (k style : ℕ) → k < length text
    → now ++ styles_from true style (drop k text) ≡ whole
    → now ++ styles_from (not (slice_index text k == 109)) (bit_or style (style_of (slice_index text k))) (drop (k + 1) text)
    ≡ whole
unfolding styles_from
each_marked now text whole k style lt so =
    sym (ap (λ (t : List ℕ). now ++ styles_from true style t) (next_at k text lt)) ∙ so

-- where a mark begins

pub text_at_mark : (now text whole : List ℕ) (k : ℕ) → k < length text → (slice_index text k == escape) ≡ true
    → now ++ without_marks false (drop k text) ≡ whole → now ++ without_marks true (drop (k + 1) text) ≡ whole
unfolding without_marks
text_at_mark now text whole k lt is so =
    sym (ap (λ (t : List ℕ). now ++ without_marks false t) (next_at k text lt) ∙ rw is refl) ∙ so

pub each_at_mark : (now text whole : List ℕ) (k style : ℕ) → k < length text → (slice_index text k == escape) ≡ true
    → now ++ styles_from false style (drop k text) ≡ whole → now ++ styles_from true 0 (drop (k + 1) text) ≡ whole
unfolding styles_from
each_at_mark now text whole k style lt is so =
    sym (ap (λ (t : List ℕ). now ++ styles_from false style t) (next_at k text lt) ∙ rw is refl) ∙ so

-- in the text

text_further : (text : List ℕ) (k : ℕ) → k < length text → (slice_index text k == escape) ≡ false
    → without_marks false (drop k text) ≡ slice_index text k ∷ without_marks false (drop (k + 1) text)
unfolding without_marks
text_further text k lt is = ap (without_marks false) (next_at k text lt) ∙ rw is refl

each_further : (text : List ℕ) (k style : ℕ) → k < length text → (slice_index text k == escape) ≡ false
    → styles_from false style (drop k text) ≡ style ∷ styles_from false style (drop (k + 1) text)
unfolding styles_from
each_further text k style lt is = ap (styles_from false style) (next_at k text lt) ∙ rw is refl

pub text_more : (now new text whole : List ℕ) (k : ℕ) → k < length text → (slice_index text k == escape) ≡ false
    → new ≡ now ++ slice_index text k ∷ [] → now ++ without_marks false (drop k text) ≡ whole
    → new ++ without_marks false (drop (k + 1) text) ≡ whole
text_more now new text whole k lt is put so =
    goes_on now new (slice_index text k ∷ []) (without_marks false (drop (k + 1) text)) whole put
    (sym (ap (λ (t : List ℕ). now ++ t) (text_further text k lt is)) ∙ so)

pub each_more : (now new text whole : List ℕ) (k style : ℕ) → k < length text
    → (slice_index text k == escape) ≡ false
    → new ≡ now ++ style ∷ [] → now ++ styles_from false style (drop k text) ≡ whole
    → new ++ styles_from false style (drop (k + 1) text) ≡ whole
each_more now new text whole k style lt is put so =
    goes_on now new (style ∷ []) (styles_from false style (drop (k + 1) text)) whole put
    (sym (ap (λ (t : List ℕ). now ++ t) (each_further text k style lt is)) ∙ so)

-- at the end

pub text_all : (now text whole : List ℕ) (k : ℕ) (in_mark : Bool) → length text ≤ k
    → now ++ without_marks in_mark (drop k text) ≡ whole → now ≡ whole
unfolding without_marks
text_all now text whole k in_mark le so =
    all_added now (without_marks in_mark (drop k text)) whole (ap (without_marks in_mark) (drop_all k text le)) so

pub each_all : (now text whole : List ℕ) (k style : ℕ) (in_mark : Bool) → length text ≤ k
    → now ++ styles_from in_mark style (drop k text) ≡ whole → now ≡ whole
unfolding styles_from
each_all now text whole k style in_mark le so =
    all_added now (styles_from in_mark style (drop k text)) whole
    (ap (styles_from in_mark style) (drop_all k text le)) so
