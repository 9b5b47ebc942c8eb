-- The spelling of characters.
use Rattle.std.proofs.Common.{◌≡◌, ℕ, zero, suc, ◌+◌, ◌-◌, ◌<◌, ◌≤◌, ◌&&◌, ◌||◌, not, Bool, true, false}
use Rattle.std.proofs.Common.{eqb, leb, List, [], ◌∷◌, refl, eqb-true}
use Rattle.std.proofs.Common.{subst, arith, ◌⊎◌, inl, inr}
use Rattle.std.specs.Prelude.{replicate}
use Rattle.std.proofs.lemmas.Bool.{leb-true, cases_lt, and_parts}
use Rattle.std.proofs.lemmas.Bool.Decides.{nat_tests}
use Rattle.ztext.specs.Alphabets.{is_printable, punctuation, place_in, spelling_in_punctuation, spelling_of, spelled}
use Rattle.ztext.specs.TextParts.{AreSmall}
use Rattle.ztext.proofs.Packing.{small_append}

-- ---- finite facts, by computing at each character

abbrev pub each_below : (ℕ → Bool) → ℕ → Bool
each_below f zero = true
each_below f (suc n) = f n && each_below f n

pub below_at : (f : ℕ → Bool) (n b : ℕ) → each_below f n ≡ true → b < n → f b ≡ true
below_at f zero b e lt = absurd (omega arith)
below_at f (suc n) b e lt =
    let parts = and_parts (f n) (each_below f n) e in
    elim (cases_lt b n)
    [ inl less ↦ below_at f n b parts.1 less | inr le ↦ let is : b ≡ n = omega arith in rw is parts.0 ]

abbrev all_small : List ℕ → Bool
all_small [] = true
all_small (z ∷ zs) = leb (suc z) 32 && all_small zs

small_from : (zs : List ℕ) → all_small zs ≡ true → AreSmall zs
small_from [] e = tt
small_from (z ∷ zs) e = let p = and_parts (leb (suc z) 32) (all_small zs) e in
    (leb-true (suc z) 32 p.0, small_from zs p.1)

-- ---- letters by arithmetic

abbrev same : List ℕ → List ℕ → Bool
same [] [] = true
same (x ∷ xs) (y ∷ ys) = eqb x y && same xs ys
same _ _ = false

same_is : (xs ys : List ℕ) → same xs ys ≡ true → xs ≡ ys
same_is [] [] e = refl
same_is [] (y ∷ ys) e = cc
same_is (x ∷ xs) [] e = cc
same_is (x ∷ xs) (y ∷ ys) e =
    let p = and_parts (eqb x y) (same xs ys) e in
    rw (eqb-true x y p.0, same_is xs ys p.1) refl

-- two spellings agree at each character from a first to a last
abbrev agree_from : (ℕ → List ℕ) → ℕ → ℕ → Bool
agree_from f first last = each_below (λ n. same (f (first + n)) (spelling_of (first + n))) (suc last - first)

agree_at : (f : ℕ → List ℕ) (first last c : ℕ) → agree_from f first last ≡ true → first ≤ c → c ≤ last
    → f c ≡ spelling_of c
agree_at f first last c e low high =
    let there : first + (c - first) ≡ c = omega arith in
    subst (λ n. f n ≡ spelling_of n) there
    (same_is _ _
    (below_at (λ n. same (f (first + n)) (spelling_of (first + n))) (suc last - first) (c - first) e
    (omega arith)))

lower_agree : agree_from (λ c. (c - 97 + 6) ∷ []) 97 122 ≡ true
unfolding spelling_of
lower_agree = refl

upper_agree : agree_from (λ c. 4 ∷ (c - 65 + 6) ∷ []) 65 90 ≡ true
unfolding spelling_of
upper_agree = refl

pub lower_spelling : (c : ℕ) → 97 ≤ c → c ≤ 122 → (c - 97 + 6) ∷ [] ≡ spelling_of c
lower_spelling c low high = agree_at (λ c. (c - 97 + 6) ∷ []) 97 122 c lower_agree low high

pub upper_spelling : (c : ℕ) → 65 ≤ c → c ≤ 90 → 4 ∷ (c - 65 + 6) ∷ [] ≡ spelling_of c
upper_spelling c low high = agree_at (λ c. 4 ∷ (c - 65 + 6) ∷ []) 65 90 c upper_agree low high

pub space_spelling : 0 ∷ [] ≡ spelling_of 32
unfolding spelling_of
space_spelling = refl

pub line_spelling : 5 ∷ 7 ∷ [] ≡ spelling_of 13
unfolding spelling_of
line_spelling = refl

abbrev is_sign : ℕ → Bool
is_sign c = not ((leb 97 c && leb c 122) || (leb 65 c && leb c 90) || eqb c 32 || eqb c 13)

signs_agree : each_below
    (λ c. not (is_sign c) || same (spelling_in_punctuation (place_in punctuation c) c) (spelling_of c)) 256 ≡ true
unfolding spelling_of
signs_agree = refl

sign_same : (b s : Bool) → not b || s ≡ true → b ≡ true → s ≡ true
sign_same true s e h = e
sign_same false s e h = cc

pub is_sign_by : (c : ℕ) → ((97 ≤ c) × (122 < c)) ⊎ (c < 97) →
    ((65 ≤ c) × (90 < c)) ⊎ (c < 65) → (c ≡ 32 → ⊥) → (c ≡ 13 → ⊥) → is_sign c ≡ true
is_sign_by c (inl a) (inl b) s l = let x = a.1 in let y = b.1 in grind (arith, nat_tests)
is_sign_by c (inl a) (inr b) s l = let x = a.1 in grind (arith, nat_tests)
is_sign_by c (inr a) (inl b) s l = let y = b.1 in grind (arith, nat_tests)
is_sign_by c (inr a) (inr b) s l = grind (arith, nat_tests)

pub sign_spelling : (c : ℕ) → c < 256 → is_sign c ≡ true
    → spelling_in_punctuation (place_in punctuation c) c ≡ spelling_of c
sign_spelling c lt is = same_is _ _
    (sign_same (is_sign c) _
    (below_at (λ c. not (is_sign c) || same (spelling_in_punctuation (place_in punctuation c) c) (spelling_of c)) 256
    c signs_agree lt) is)

all_spelled_small : each_below (λ c. all_small (spelling_of c)) 256 ≡ true
unfolding spelling_of
all_spelled_small = refl

pub spelling_small : (c : ℕ) → c < 256 → AreSmall (spelling_of c)
spelling_small c lt = small_from (spelling_of c)
    (below_at (λ c. all_small (spelling_of c)) 256 c all_spelled_small lt)

-- every element is a byte
abbrev pub AreBytes : List ℕ → Type 0
AreBytes [] = Unit {0}
AreBytes (c ∷ cs) = (c < 256) × AreBytes cs

pub bytes_from_index : (text : List ℕ) → ((i : ℕ) → Rattle.std.proofs.Common.get_or text i 0 < 256) → AreBytes text
bytes_from_index [] h = tt
bytes_from_index (c ∷ cs) h = (h 0, bytes_from_index cs (λ i. h (suc i)))

pub spelled_small : (text : List ℕ) → AreBytes text → AreSmall (spelled text)
spelled_small [] h = tt
spelled_small (c ∷ cs) h = small_append (spelling_of c) (spelled cs) (spelling_small c h.0) (spelled_small cs h.1)

pub fives_small : (k : ℕ) → AreSmall (replicate k 5)
fives_small zero = tt
fives_small (suc k) = (omega arith, fives_small k)

pub printable_below : (c : ℕ) → is_printable c ≡ true → c < 127
printable_below c e = grind (arith, nat_tests)
