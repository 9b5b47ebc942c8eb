-- How directives are cut, and rows without their last.
use Rattle.std.proofs.Common.{◌≡◌, ℕ, ◌+◌, ◌-◌, ◌<◌, Bool, true, false, List, [], ◌∷◌, ◌++◌, length, get_or, take, drop}
use Rattle.std.proofs.Common.{refl, ap, sym, ◌∙◌, arith, if◌then◌else◌}
use Rattle.std.proofs.lemmas.List.{map-append, length-map, take-map, drop-map, at_drop_more}
use Rattle.std.proofs.Math.Seq.{drop-length}
use Rattle.syntax_lexer.specs.declared.token.Token.{Token}
use Rattle.syntax_lexer.specs.Token.{Lexeme, lexeme, lexemes}
use Rattle.derive_constants.specs.Constants.{before_last, last_alone}
use Rattle.derive_constants.specs.Cutting.{cut_from, depth_after, directives, ends_directive}
use Rattle.derive_constants.proofs.Rows.{take_push}

pub front_lexemes : (ts : List Token) → lexemes (take (length ts - 1) ts) ≡ before_last (lexemes ts)
front_lexemes ts =
    sym (take-map lexeme (length ts - 1) ts) ∙ ap (λ n. take (n - 1) (lexemes ts)) (sym (length-map ts lexeme))

pub back_lexemes : (ts : List Token) → lexemes (drop (length ts - 1) ts) ≡ last_alone (lexemes ts)
back_lexemes ts =
    sym (drop-map lexeme (length ts - 1) ts) ∙ ap (λ n. drop (n - 1) (lexemes ts)) (sym (length-map ts lexeme))

-- the directives, at a place in the first
abbrev pub cut_at : ℕ → ℕ → List Token → List (List Lexeme)
cut_at depth at ts = cut_from depth (lexemes (take at ts)) (lexemes (drop at ts))

step : (depth : ℕ) (ts : List Token) (at : ℕ) (d : Token) → at < length ts
    → cut_at depth at ts
    ≡ cut_from depth (lexemes (take at ts)) (lexeme (get_or ts at d) ∷ lexemes (drop (at + 1) ts))
step depth ts at d lt = at_drop_more (λ xs. cut_from depth (lexemes (take at ts)) (lexemes xs)) ts at d lt

front : (ts : List Token) (at : ℕ) (d : Token) → at < length ts
    → lexemes (take at ts) ++ lexeme (get_or ts at d) ∷ [] ≡ lexemes (take (at + 1) ts)
front ts at d lt =
    sym (map-append lexeme (take at ts) (get_or ts at d ∷ [])) ∙ ap lexemes (sym (take_push ts at d lt))

abbrev cases : ℕ → ℕ → List Token → Lexeme → Bool → List (List Lexeme)
cases depth at ts t ends =
    if ends then (lexemes (take at ts) ++ t ∷ []) ∷ cut_from 0 [] (lexemes (drop (at + 1) ts))
    else cut_from (depth_after depth t) (lexemes (take at ts) ++ t ∷ []) (lexemes (drop (at + 1) ts))

-- a `;` outside of brackets ends it
pub cut_here : (depth : ℕ) (ts : List Token) (at : ℕ) (d : Token) → at < length ts
    → ends_directive depth (lexeme (get_or ts at d)) ≡ true
    → cut_at depth at ts ≡ lexemes (take (at + 1) ts) ∷ directives (lexemes (drop (at + 1) ts))
cut_here depth ts at d lt e =
    step depth ts at d lt ∙ ap (cases depth at ts (lexeme (get_or ts at d))) e
    ∙ ap (λ xs. xs ∷ directives (lexemes (drop (at + 1) ts))) (front ts at d lt)

pub cut_on : (depth : ℕ) (ts : List Token) (at : ℕ) (d : Token) → at < length ts
    → ends_directive depth (lexeme (get_or ts at d)) ≡ false
    → cut_at (depth_after depth (lexeme (get_or ts at d))) (at + 1) ts ≡ cut_at depth at ts
cut_on depth ts at d lt e =
    sym (step depth ts at d lt ∙ ap (cases depth at ts (lexeme (get_or ts at d))) e
    ∙ ap (λ xs. cut_from (depth_after depth (lexeme (get_or ts at d))) xs (lexemes (drop (at + 1) ts)))
    (front ts at d lt))

none_left : (depth : ℕ) (t : Token) (before rest : List Token) → rest ≡ []
    → cut_from depth (lexemes (t ∷ before)) (lexemes rest) ≡ lexemes (t ∷ before) ∷ directives (lexemes rest)
none_left depth t before [] e = refl
none_left depth t before (r ∷ rest) e = absurd (cc)

-- without one, it is all
pub cut_all : (depth : ℕ) (ts : List Token) → 0 < length ts
    → cut_at depth (length ts) ts ≡ lexemes (take (length ts) ts) ∷ directives (lexemes (drop (length ts) ts))
cut_all depth [] lt = absurd (omega arith)
cut_all depth (t ∷ ts) lt = none_left depth t (take (length ts) ts) (drop (length ts) ts) (drop-length ts)
