-- Abbreviations: which of them stand earlier, and the rules that each breaks.
use Rattle.std.proofs.Common.{◌≡◌, ℕ, zero, suc, ◌+◌, ◌<◌, ◌≤◌, nat_lt, nat_le, Bool, true, false, ◌&&◌, ◌||◌, ◌==◌}
use Rattle.std.proofs.Common.{List, [], ◌∷◌, ◌++◌, length, take, drop, slice_index_or, cond, refl, sym, ap, ◌∙◌}
use Rattle.std.proofs.Common.{arith}
use Rattle.std.specs.Prelude.{map}
use Rattle.std.specs.Str.{bytes_eq}
use Rattle.std.proofs.lemmas.Bool.Decides.{nat_tests}
use Rattle.std.proofs.lemmas.List.{length-map}
use Rattle.syntax_lexer.specs.declared.token.Position.{Position}
use Rattle.syntax_directives.specs.declared.tree.Text.{Text}
use Rattle.syntax_directives.specs.Tree.{TextTree}
use Rattle.syntax_directives.specs.Views.{text_tree}
use Rattle.checker_values.specs.declared.breach.Breach.{Breach}
use Rattle.checker_values.specs.declared.noting.Tally.{Tally}
use Rattle.checker_values.specs.Breaches.{at}
use Rattle.checker_values.specs.Noted.{noted}
use Rattle.checker_values.proofs.Noted.{noted_none, noted_two}
use Rattle.checker_values.proofs.Dropped.{drop_end}
use Rattle.checker.specs.Programs.{same_bytes, has_text, abbreviation_breaches, abbreviations_breaches}

-- What stands earlier

both : (s t u : Bool) → t ≡ u → cond s t false ≡ (s && u)
both true t u h = h
both false t u h = refl

pub same_is : (xs ys : List ℕ) → same_bytes xs ys ≡ bytes_eq xs ys
same_is [] [] = refl
same_is [] (d ∷ ds) = refl
same_is (c ∷ cs) [] = refl
same_is (c ∷ cs) (d ∷ ds) = both (c == d) (same_bytes cs ds) (bytes_eq cs ds) (same_is cs ds)

or_next : (s t : Bool) → s ≡ false → (s || t) ≡ t
or_next true t h = absurd cc
or_next false t h = refl

or_here : (s t : Bool) → s ≡ true → (s || t) ≡ true
or_here true t h = refl
or_here false t h = absurd cc

there : (ts : List Text) (i : ℕ) (d : Text) (bytes : List ℕ) → i < length ts
    → has_text (map text_tree (drop i ts)) bytes
    ≡ (same_bytes (slice_index_or ts i d).bytes.now bytes || has_text (map text_tree (drop (suc i) ts)) bytes)
there [] i d bytes lt = absurd (omega (arith, lt))
there (t ∷ ts) zero d bytes lt = refl
there (t ∷ ts) (suc i) d bytes lt = there ts i d bytes (omega (arith, lt))

pub has_here : (ts : List Text) (i : ℕ) (d : Text) (bytes : List ℕ) → i < length ts
    → bytes_eq (slice_index_or ts i d).bytes.now bytes ≡ true → has_text (map text_tree (drop i ts)) bytes ≡ true
has_here ts i d bytes lt same =
    let t = slice_index_or ts i d in
    there ts i d bytes lt
    ∙ or_here (same_bytes t.bytes.now bytes) (has_text (map text_tree (drop (suc i) ts)) bytes)
    (same_is t.bytes.now bytes ∙ same)

pub has_next : (ts : List Text) (i : ℕ) (d : Text) (bytes : List ℕ) → i < length ts
    → bytes_eq (slice_index_or ts i d).bytes.now bytes ≡ false
    → has_text (map text_tree (drop i ts)) bytes ≡ has_text (map text_tree (drop (i + 1) ts)) bytes
has_next ts i d bytes lt same =
    let t = slice_index_or ts i d in
    let j : i + 1 ≡ suc i = omega arith in
    rw j (there ts i d bytes lt
    ∙ or_next (same_bytes t.bytes.now bytes) (has_text (map text_tree (drop (suc i) ts)) bytes)
    (same_is t.bytes.now bytes ∙ same))

-- An abbreviation that breaks no rule

no_breach : (m : Tally) (c s t : Bool) (p : Position) → c ≡ false → s ≡ false → t ≡ false
    → m ≡ noted m (cond c (at p 24) (cond (s || t) (at p 33) []))
no_breach m true s t p x y z = absurd cc
no_breach m false true t p x y z = absurd cc
no_breach m false false true p x y z = absurd cc
no_breach m false false false p x y z = sym (noted_none m)

not_le : (limit n : ℕ) → n < limit → nat_le limit n ≡ false
not_le limit n h = grind (arith, nat_tests)

not_lt : (limit n : ℕ) → limit ≤ n → nat_lt n limit ≡ false
not_lt limit n h = grind (arith, nat_tests)

pub text_kept : (m : Tally) (before : List Text) (t : Text) → length before < 96 → 2 ≤ length t.bytes.now
    → has_text (map text_tree before) t.bytes.now ≡ false
    → m ≡ noted m (abbreviation_breaches (map text_tree before) (text_tree t))
text_kept m before t few long new =
    no_breach m (nat_le 96 (length (map text_tree before))) (nat_lt (length t.bytes.now) 2)
    (has_text (map text_tree before) t.bytes.now) t.position
    (not_le 96 (length (map text_tree before)) (omega (arith, few, length-map before text_tree)))
    (not_lt 2 (length t.bytes.now) long) new

-- The rules, one abbreviation after another

take_more : (ts : List Text) (i : ℕ) (d : Text) → i < length ts
    → map text_tree (take (suc i) ts) ≡ map text_tree (take i ts) ++ text_tree (slice_index_or ts i d) ∷ []
take_more [] i d h = absurd (omega (arith, h))
take_more (x ∷ xs) zero d h = refl
take_more (x ∷ xs) (suc i) d h = ap (λ r. text_tree x ∷ r) (take_more xs i d (omega (arith, h)))

left : (ts : List Text) (i : ℕ) (d : Text) → i < length ts
    → map text_tree (drop i ts) ≡ text_tree (slice_index_or ts i d) ∷ map text_tree (drop (suc i) ts)
left [] i d h = absurd (omega (arith, h))
left (x ∷ xs) zero d h = refl
left (x ∷ xs) (suc i) d h = left xs i d (omega (arith, h))

pub texts_next : (m o : Tally) (ts : List Text) (i : ℕ) (d : Text) → i < length ts
    → o ≡ noted m (abbreviation_breaches (map text_tree (take i ts)) (text_tree (slice_index_or ts i d)))
    → noted o (abbreviations_breaches (map text_tree (take (i + 1) ts)) (map text_tree (drop (i + 1) ts)))
    ≡ noted m (abbreviations_breaches (map text_tree (take i ts)) (map text_tree (drop i ts)))
texts_next m o ts i d lt a =
    let j : i + 1 ≡ suc i = omega arith in
    let x : TextTree = text_tree (slice_index_or ts i d) in
    let before : List TextTree = map text_tree (take i ts) in
    let rest : List Breach = abbreviations_breaches (before ++ x ∷ []) (map text_tree (drop (suc i) ts)) in
    rw (j, take_more ts i d lt, left ts i d lt)
    (noted_two m o (noted o rest) (abbreviation_breaches before x) rest a refl)

pub texts_end : (m : Tally) (ts : List Text) (i : ℕ) (before : List TextTree) → length ts ≤ i
    → noted m (abbreviations_breaches before (map text_tree (drop i ts))) ≡ m
texts_end m ts i before end =
    ap (λ (xs : List Text). noted m (abbreviations_breaches before (map text_tree xs))) (drop_end ts i end)
    ∙ noted_none m
