-- The longest abbreviation that stands at the beginning of a text, and how it is found and spelled.
use Rattle.std.proofs.Common.{◌≡◌, ℕ, zero, suc, ◌+◌, ◌-◌, ◌<◌, ◌≤◌, ◌&&◌, Bool, true, false, eqb, ltb}
use Rattle.std.proofs.Common.{List, [], ◌∷◌, ◌++◌, length, take, drop, Option, Some, None, refl, sym, ap, subst, ◌∙◌}
use Rattle.std.proofs.Common.{arith, ◌⊎◌, inl, inr, get_or, append_assoc}
use Rattle.std.specs.Prelude.{if◌then◌else◌}
use Rattle.std.specs.Cmp.Lexicographic.{pointwise}
use Rattle.std.proofs.lemmas.Bool.{eqb-true, lt-ltb, le-ltb, cases_lt}
use Rattle.std.proofs.lemmas.List.{length-take, drop_more}
use Rattle.ztext.specs.Abbreviations.{abbreviation_at, begins, Found, longer, longest_from, longest, spelling_or}
use Rattle.ztext.specs.Abbreviations.{more_of, spelled_behind}
use Rattle.ztext.specs.Bytes.{most_abbreviations}
use Rattle.ztext.specs.TextParts.{at_front}

-- Where a text begins with another

chosen_same : (b r s : Bool) → r ≡ s → (b && r) ≡ (if b then s else false)
chosen_same true r s e = e
chosen_same false r s e = refl

pub begins_pointwise : (a text : List ℕ) → pointwise eqb a (take (length a) text) ≡ begins a text
begins_pointwise [] text = refl
begins_pointwise (c ∷ a) [] = refl
begins_pointwise (c ∷ a) (d ∷ text) = chosen_same (eqb c d) _ _ (begins_pointwise a text)

chosen_true : (b r : Bool) → (if b then r else false) ≡ true → (b ≡ true) × (r ≡ true)
chosen_true true r e = (refl, e)
chosen_true false r e = absurd cc

pub begins_is : (a text : List ℕ) → begins a text ≡ true → text ≡ a ++ drop (length a) text
begins_is [] text e = refl
begins_is (c ∷ a) [] e = absurd cc
begins_is (c ∷ a) (d ∷ text) e =
    let p = chosen_true (eqb c d) (begins a text) e in
    let head = eqb-true c d p.0 in
    let tail = begins_is a text p.1 in
    ap (λ x. x ∷ text) (sym head) ∙ ap (λ xs. c ∷ xs) tail

-- What is found

-- one of the abbreviations, the first of which has this number, stands at the beginning of a text
pub record IsAt (first : ℕ) (texts : List (List ℕ)) (text : List ℕ) (x : Found) : Type 0 where
  pub place : ℕ
  pub number : x.number ≡ first + place
  pub within : place < length texts
  pub size : x.length ≡ length (abbreviation_at texts place)
  pub stands : begins (abbreviation_at texts place) text ≡ true

one_of : (t : Bool) (x y z : Found) → (if t then Some y else Some x) ≡ Some z → (Some x ≡ Some z) ⊎ (Some y ≡ Some z)
one_of true x y z e = inr e
one_of false x y z e = inl e

longer_one : (a b : Option Found) (z : Found) → longer a b ≡ Some z → (a ≡ Some z) ⊎ (b ≡ Some z)
longer_one None b z e = inr e
longer_one (Some x) None z e = inl e
longer_one (Some x) (Some y) z e = one_of (ltb x.length y.length) x y z e

first_at : (b : Bool) (first : ℕ) (a text : List ℕ) (rest : List (List ℕ)) (x : Found) → begins a text ≡ b
    → (if b then Some (record { number = first; length = length a }) else None) ≡ Some x
    → IsAt first (a ∷ rest) text x
first_at true first a text rest x h e =
    let is : ◌≡◌ {A = Found} (record { number = first; length = length a }) x = cc in
    subst (IsAt first (a ∷ rest) text) is
    (record { place = 0; number = omega arith; within = omega arith; size = refl; stands = h })
first_at false first a text rest x h e = absurd cc

pub found_is : (first : ℕ) (texts : List (List ℕ)) (text : List ℕ) (x : Found)
    → longest_from first texts text ≡ Some x → IsAt first texts text x
found_is first [] text x e = absurd cc
found_is first (a ∷ rest) text x e =
    elim (longer_one (if begins a text then Some (record { number = first; length = length a }) else None)
    (longest_from (first + 1) rest text) x e) [
      | inl h ↦ first_at (begins a text) first a text rest x refl h
      | inr h ↦
          let p = found_is (first + 1) rest text x h in
          record {
            place = suc p.place;
            number = omega (arith, p.number);
            within = omega (arith, p.within);
            size = p.size;
            stands = p.stands;
          }
    ]

-- an abbreviation that a story's table has, at the beginning of a text
pub record StandsInText (texts : List (List ℕ)) (text : List ℕ) (x : Found) : Type 0 where
  pub few : x.number < 96
  pub within : x.number < length texts
  pub size : x.length ≡ length (abbreviation_at texts x.number)
  pub front : text ≡ abbreviation_at texts x.number ++ drop x.length text

taken_at : (n : ℕ) (texts : List (List ℕ)) (i : ℕ) → i < n → abbreviation_at (take n texts) i ≡ abbreviation_at texts i
taken_at zero texts i lt = absurd (omega arith)
taken_at (suc n) [] i lt = refl
taken_at (suc n) (a ∷ texts) zero lt = refl
taken_at (suc n) (a ∷ texts) (suc i) lt = taken_at n texts i (omega arith)

pub longest_is : (texts : List (List ℕ)) (text : List ℕ) (x : Found) → longest texts text ≡ Some x
    → StandsInText texts text x
longest_is texts text x e =
    let p = found_is 0 (take most_abbreviations texts) text x e in
    let many = length-take most_abbreviations texts in
    let number : p.place ≡ x.number = omega (arith, p.number) in
    let few : p.place < 96 = omega (arith, p.within) in
    let same : abbreviation_at (take most_abbreviations texts) p.place ≡ abbreviation_at texts x.number =
    taken_at most_abbreviations texts p.place few ∙ ap (abbreviation_at texts) number in
    let size : x.length ≡ length (abbreviation_at texts x.number) = p.size ∙ ap length same in
    record {
      few = omega arith;
      within = omega (arith, p.within);
      size = size;
      front =
          begins_is (abbreviation_at texts x.number) text (subst (λ a. begins a text ≡ true) same p.stands)
          ∙ ap (λ n. abbreviation_at texts x.number ++ drop n text) (sym size);
    }

-- The longer one of three

pub longer_none : (a : Option Found) → longer a None ≡ a
longer_none None = refl
longer_none (Some x) = refl

pub longer_more : (a b c : Option Found) → longer (longer a b) c ≡ longer a (longer b c)
longer_more None b c = refl
longer_more (Some x) None c = refl
longer_more (Some x) (Some y) None = longer_none (longer (Some x) (Some y))
longer_more (Some x) (Some y) (Some z) =
    elim (cases_lt x.length y.length) [
      | inl p ↦ elim (cases_lt y.length z.length) [
        | inl q ↦ rw (lt-ltb _ _ p, lt-ltb _ _ q, lt-ltb x.length z.length (omega arith)) refl
        | inr q ↦ rw (lt-ltb _ _ p, le-ltb _ _ q, lt-ltb _ _ p) refl
      ]
      | inr p ↦ elim (cases_lt y.length z.length) [
        | inl q ↦ rw (le-ltb _ _ p, lt-ltb _ _ q) refl
        | inr q ↦ rw (le-ltb _ _ p, le-ltb _ _ q, le-ltb x.length z.length (omega arith), le-ltb _ _ p) refl
      ]
    ]

-- one abbreviation further
pub longest_more : (texts : List (List ℕ)) (text a : List ℕ) (best found both : Option Found) (n : ℕ)
    → n < length texts → get_or texts n [] ≡ a → found ≡ at_front n a text → both ≡ longer best found
    → longer both (longest_from (n + 1) (drop (n + 1) texts) text) ≡ longer best (longest_from n (drop n texts) text)
longest_more texts text a best found both n lt here is e =
    let rest = longest_from (n + 1) (drop (n + 1) texts) text in
    ap (λ x. longer x rest) (e ∙ ap (longer best) is) ∙ longer_more best (at_front n a text) rest
    ∙ ap (λ (b : List ℕ). longer best (longer (at_front n b text) rest)) (sym here)
    ∙ ap (λ xs. longer best (longest_from n xs text)) (sym (drop_more texts n [] lt))

-- What is spelled

-- a character that is spelled already
behind_spelled : (texts : List (List ℕ)) (spelled c : ℕ) (cs : List ℕ) → 0 < spelled
    → spelled_behind texts spelled (c ∷ cs) ≡ spelled_behind texts (spelled - 1) cs
behind_spelled texts spelled c cs lt = rw (lt-ltb 0 spelled lt) refl

-- what is found at a character, or else the character
behind_found : (texts : List (List ℕ)) (spelled c : ℕ) (cs : List ℕ) → spelled ≤ 0
    → spelled_behind texts spelled (c ∷ cs)
    ≡ spelling_or (longest texts (c ∷ cs)) c ++ spelled_behind texts (more_of (longest texts (c ∷ cs))) cs
behind_found texts spelled c cs le = rw (le-ltb 0 spelled le) refl

-- the same within a text, behind Z-characters
pub spelled_already : (texts : List (List ℕ)) (zs text : List ℕ) (spelled place : ℕ) → place < length text
    → 0 < spelled
    → zs ++ spelled_behind texts (spelled - 1) (drop (place + 1) text)
    ≡ zs ++ spelled_behind texts spelled (drop place text)
spelled_already texts zs text spelled place within lt =
    ap (λ xs. zs ++ xs)
    (sym (ap (spelled_behind texts spelled) (drop_more text place 0 within)
    ∙ behind_spelled texts spelled (get_or text place 0) (drop (place + 1) text) lt))

pub spelled_here : (texts : List (List ℕ)) (zs more text : List ℕ) (found : Option Found) (spelled left place : ℕ)
    → place < length text → spelled ≤ 0 → found ≡ longest texts (drop place text)
    → more ≡ zs ++ spelling_or found (get_or text place 0) → left ≡ more_of found
    → more ++ spelled_behind texts left (drop (place + 1) text) ≡ zs ++ spelled_behind texts spelled (drop place text)
spelled_here texts zs more text found spelled left place within le is e follows =
    let cs = drop (place + 1) text in
    let c = get_or text place 0 in
    let whole = drop_more text place 0 within in
    let same = is ∙ ap (longest texts) whole in
    ap (λ xs. xs ++ spelled_behind texts left cs) e
    ∙ ap (λ n. (zs ++ spelling_or found c) ++ spelled_behind texts n cs) follows
    ∙ append_assoc zs (spelling_or found c) (spelled_behind texts (more_of found) cs)
    ∙ ap (λ x. zs ++ (spelling_or x c ++ spelled_behind texts (more_of x) cs)) same
    ∙ ap (λ xs. zs ++ xs) (sym (behind_found texts spelled c cs le))
    ∙ ap (λ xs. zs ++ spelled_behind texts spelled xs) (sym whole)

-- each of the ways in which the Z-characters of a text go on
pub spelled_cases : (P : List ℕ → Type 0) (texts : List (List ℕ)) (c : ℕ) (cs : List ℕ) (spelled : ℕ)
    → ((k : ℕ) → spelled ≡ suc k → P (spelled_behind texts k cs))
    → (spelled ≡ 0 → P (spelling_or None c ++ spelled_behind texts 0 cs))
    → (spelled ≡ 0 → (x : Found) → StandsInText texts (c ∷ cs) x
    → P (spelling_or (Some x) c ++ spelled_behind texts (x.length - 1) cs))
    → P (spelled_behind texts spelled (c ∷ cs))
spelled_cases P texts c cs zero skip none some =
    subst P (sym (behind_found texts 0 c cs (omega arith))) (go (longest texts (c ∷ cs)) refl)
  where
    go : (found : Option Found) → longest texts (c ∷ cs) ≡ found
        → P (spelling_or found c ++ spelled_behind texts (more_of found) cs)
    go None e = none refl
    go (Some x) e = some refl x (longest_is texts (c ∷ cs) x e)
spelled_cases P texts c cs (suc k) skip none some =
    let e : suc k - 1 ≡ k = omega arith in
    subst P (sym (behind_spelled texts (suc k) c cs (omega arith)))
    (subst (λ n. P (spelled_behind texts n cs)) (sym e) (skip k refl))
