-- How a condition is divided at the first sign that compares.
use Rattle.std.proofs.Common.{◌≡◌, ℕ, ◌+◌, ◌<◌, Bool, true, false, List, [], ◌∷◌, ◌++◌, Option, length, get_or, take, drop}
use Rattle.std.proofs.Common.{ap, sym, ◌∙◌, arith, if◌then◌else◌}
use Rattle.std.proofs.lemmas.List.{map-append, at_drop_more, take_all}
use Rattle.std.proofs.Math.Seq.{drop-length}
use Rattle.syntax_lexer.specs.declared.token.Token.{Token}
use Rattle.syntax_lexer.specs.Token.{Lexeme, lexeme, lexemes}
use Rattle.derive_constants.specs.Values.{Known, value_in}
use Rattle.derive_constants.proofs.Rows.{take_push}
use Rattle.derive_branches.specs.Conditions.{compared, compares, divided, is_not_zero}

-- the condition, at a place
abbrev pub divided_at : Known → ℕ → List Token → Option Bool
divided_at known at ts = divided known (lexemes (take at ts)) (lexemes (drop at ts))

step : (known : Known) (ts : List Token) (at : ℕ) (d : Token) → at < length ts
    → divided_at known at ts
    ≡ divided known (lexemes (take at ts)) (lexeme (get_or ts at d) ∷ lexemes (drop (at + 1) ts))
step known ts at d lt = at_drop_more (λ xs. divided known (lexemes (take at ts)) (lexemes xs)) ts at d lt

front : (ts : List Token) (at : ℕ) (d : Token) → at < length ts
    → lexemes (take at ts) ++ lexeme (get_or ts at d) ∷ [] ≡ lexemes (take (at + 1) ts)
front ts at d lt =
    sym (map-append lexeme (take at ts) (get_or ts at d ∷ [])) ∙ ap lexemes (sym (take_push ts at d lt))

abbrev cases : Known → ℕ → List Token → Lexeme → Bool → Option Bool
cases known at ts t here =
    if here then compared t (value_in known (lexemes (take at ts))) (value_in known (lexemes (drop (at + 1) ts)))
    else divided known (lexemes (take at ts) ++ t ∷ []) (lexemes (drop (at + 1) ts))

pub divided_here : (known : Known) (ts : List Token) (at : ℕ) (d : Token) → at < length ts
    → compares (lexeme (get_or ts at d)) ≡ true
    → divided_at known at ts
    ≡ compared (lexeme (get_or ts at d)) (value_in known (lexemes (take at ts)))
    (value_in known (lexemes (drop (at + 1) ts)))
divided_here known ts at d lt e = step known ts at d lt ∙ ap (cases known at ts (lexeme (get_or ts at d))) e

pub divided_on : (known : Known) (ts : List Token) (at : ℕ) (d : Token) → at < length ts
    → compares (lexeme (get_or ts at d)) ≡ false → divided_at known (at + 1) ts ≡ divided_at known at ts
divided_on known ts at d lt e =
    sym (step known ts at d lt ∙ ap (cases known at ts (lexeme (get_or ts at d))) e
    ∙ ap (λ xs. divided known xs (lexemes (drop (at + 1) ts))) (front ts at d lt))

none_left : (known : Known) (before rest : List Token) → rest ≡ []
    → divided known (lexemes before) (lexemes rest) ≡ is_not_zero (value_in known (lexemes before))
none_left known before rest e = ap (λ xs. divided known (lexemes before) (lexemes xs)) e

pub divided_all : (known : Known) (ts : List Token)
    → divided_at known (length ts) ts ≡ is_not_zero (value_in known (lexemes ts))
divided_all known ts =
    none_left known (take (length ts) ts) (drop (length ts) ts) (drop-length ts)
    ∙ ap (λ xs. is_not_zero (value_in known (lexemes xs))) (take_all (length ts) ts (omega arith))
