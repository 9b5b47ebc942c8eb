-- A text that is cut at the first byte of a kind.
use Rattle.std.proofs.Common.{◌≡◌, ◌≢◌, ◌+◌, ◌<◌, ◌==◌, ◌++◌, ◌∙◌, ℕ, Bool, true, false, if◌then◌else◌, List, [], ◌∷◌}
use Rattle.std.proofs.Common.{Some, None, length, get_or, take, drop, ap, sym, refl, append_assoc, append-nil}
use Rattle.std.proofs.lemmas.Bool.{ne_eqb}
use Rattle.std.proofs.lemmas.List.{drop_more, take_more, take-append-drop}
use Rattle.session_keeping.specs.Answers.{after_space, before_space, digits_after, with_digit}
use Rattle.session_keeping.specs.Kept.{kept_lines, lines_from}

-- a place whose byte is known
pub at_place : (xs : List ℕ) (i b : ℕ) → i < length xs → get_or xs i 0 ≡ b → drop i xs ≡ b ∷ drop (i + 1) xs
at_place xs i b h e = drop_more xs i 0 h ∙ ap (λ n. n ∷ drop (i + 1) xs) e

-- the end of a line
pub line_found : (xs : List ℕ) (i : ℕ) → i < length xs → get_or xs i 0 ≡ 10
    → kept_lines xs ≡ lines_from (take i xs) (drop i xs)
    → (xs ≡ take i xs ++ 10 ∷ drop (i + 1) xs) × (kept_lines xs ≡ take i xs ∷ kept_lines (drop (i + 1) xs))
line_found xs i h e so = (
  sym (take-append-drop i xs) ∙ ap (λ l. take i xs ++ l) (at_place xs i 10 h e),
  so ∙ ap (lines_from (take i xs)) (at_place xs i 10 h e),
)

pub line_goes_on : (xs : List ℕ) (i : ℕ) → i < length xs → get_or xs i 0 ≢ 10
    → kept_lines xs ≡ lines_from (take i xs) (drop i xs)
    → kept_lines xs ≡ lines_from (take (i + 1) xs) (drop (i + 1) xs)
line_goes_on xs i h e so =
    so ∙ ap (lines_from (take i xs)) (drop_more xs i 0 h)
    ∙ ap (λ b. if b then take i xs ∷ lines_from [] (drop (i + 1) xs)
    else lines_from (take i xs ++ get_or xs i 0 ∷ []) (drop (i + 1) xs)) (ne_eqb (get_or xs i 0) 10 e)
    ∙ ap (λ l. lines_from l (drop (i + 1) xs)) (sym (take_more xs i 0 h))

-- a space
pub before_found : (xs : List ℕ) (i : ℕ) → i < length xs → get_or xs i 0 ≡ 32
    → before_space xs ≡ take i xs ++ before_space (drop i xs) → take i xs ≡ before_space xs
before_found xs i h e so =
    sym (so ∙ ap (λ l. take i xs ++ before_space l) (at_place xs i 32 h e) ∙ append-nil (take i xs))

pub after_found : (xs : List ℕ) (i : ℕ) → i < length xs → get_or xs i 0 ≡ 32
    → after_space xs ≡ after_space (drop i xs) → drop (i + 1) xs ≡ after_space xs
after_found xs i h e so = sym (so ∙ ap after_space (at_place xs i 32 h e))

pub before_goes_on : (xs : List ℕ) (i : ℕ) → i < length xs → get_or xs i 0 ≢ 32
    → before_space xs ≡ take i xs ++ before_space (drop i xs)
    → before_space xs ≡ take (i + 1) xs ++ before_space (drop (i + 1) xs)
before_goes_on xs i h e so =
    so ∙ ap (λ l. take i xs ++ before_space l) (drop_more xs i 0 h)
    ∙ ap (λ b. take i xs ++ (if b then [] else get_or xs i 0 ∷ before_space (drop (i + 1) xs)))
    (ne_eqb (get_or xs i 0) 32 e)
    ∙ sym (append_assoc (take i xs) (get_or xs i 0 ∷ []) (before_space (drop (i + 1) xs)))
    ∙ ap (λ l. l ++ before_space (drop (i + 1) xs)) (sym (take_more xs i 0 h))

pub after_goes_on : (xs : List ℕ) (i : ℕ) → i < length xs → get_or xs i 0 ≢ 32
    → after_space xs ≡ after_space (drop i xs) → after_space xs ≡ after_space (drop (i + 1) xs)
after_goes_on xs i h e so =
    so ∙ ap after_space (drop_more xs i 0 h)
    ∙ ap (λ b. if b then drop (i + 1) xs else after_space (drop (i + 1) xs)) (ne_eqb (get_or xs i 0) 32 e)

-- a digit
pub digit_read : (n : ℕ) (xs : List ℕ) (i : ℕ) → i < length xs
    → digits_after (Some n) (drop i xs) ≡ digits_after (with_digit n (get_or xs i 0)) (drop (i + 1) xs)
digit_read n xs i h = ap (digits_after (Some n)) (drop_more xs i 0 h)
