-- How directives are cut, and rows without their last.
use Rattle.std.proofs.Common.{◌≡◌, ℕ, ◌+◌, ◌-◌, ◌<◌, Bool, true, false, List, [], ◌∷◌, ◌++◌, length, get_or, take, drop, reverse}
use Rattle.std.proofs.Common.{refl, ap, sym, ◌∙◌, arith, if◌then◌else◌}
use Rattle.std.proofs.lemmas.List.{map-append, length-map, take-map, drop-map, at_drop_more, reverse-append}
use Rattle.std.proofs.Math.Seq.{drop-length}
use Rattle.syntax_lexer.specs.Token.{Lexeme, tail}
use Rattle.derive_tokens.specs.declared.piece.Piece.{Piece}
use Rattle.derive_tokens.specs.Pieces.{derived, derived_all}
use Rattle.derive_constants.specs.Cutting.{cut_from, depth_after, directives, ends_directive}
use Rattle.derive_constants.proofs.Rows.{take_push}
use Rattle.derive_classes.specs.Directives.{before_last, last_alone}

pub front : (ts : List Piece) → derived_all (take (length ts - 1) ts) ≡ before_last (derived_all ts)
front ts =
    sym (take-map derived (length ts - 1) ts) ∙ ap (λ n. take (n - 1) (derived_all ts)) (sym (length-map ts derived))

pub back : (ts : List Piece) → derived_all (drop (length ts - 1) ts) ≡ last_alone (derived_all ts)
back ts =
    sym (drop-map derived (length ts - 1) ts) ∙ ap (λ n. drop (n - 1) (derived_all ts)) (sym (length-map ts derived))

pub derived_reverse : (ts : List Piece) → derived_all (reverse ts) ≡ reverse (derived_all ts)
derived_reverse [] = refl
derived_reverse (t ∷ ts) =
    ap derived_all (reverse-append (t ∷ []) ts) ∙ map-append derived (reverse ts) (t ∷ [])
    ∙ ap (λ l. l ++ derived t ∷ []) (derived_reverse ts) ∙ sym (reverse-append (derived t ∷ []) (derived_all ts))

pub drop_one : (ts : List Piece) → derived_all (drop 1 ts) ≡ tail (derived_all ts)
drop_one [] = refl
drop_one (t ∷ ts) = refl

-- the directives, at a place in the first
abbrev pub cut_at : ℕ → ℕ → List Piece → List (List Lexeme)
cut_at depth at ts = cut_from depth (derived_all (take at ts)) (derived_all (drop at ts))

step : (depth : ℕ) (ts : List Piece) (at : ℕ) (d : Piece) → at < length ts
    → cut_at depth at ts
    ≡ cut_from depth (derived_all (take at ts)) (derived (get_or ts at d) ∷ derived_all (drop (at + 1) ts))
step depth ts at d lt = at_drop_more (λ xs. cut_from depth (derived_all (take at ts)) (derived_all xs)) ts at d lt

begun : (ts : List Piece) (at : ℕ) (d : Piece) → at < length ts
    → derived_all (take at ts) ++ derived (get_or ts at d) ∷ [] ≡ derived_all (take (at + 1) ts)
begun ts at d lt =
    sym (map-append derived (take at ts) (get_or ts at d ∷ [])) ∙ ap derived_all (sym (take_push ts at d lt))

abbrev cases : ℕ → ℕ → List Piece → Lexeme → Bool → List (List Lexeme)
cases depth at ts t ends =
    if ends then (derived_all (take at ts) ++ t ∷ []) ∷ cut_from 0 [] (derived_all (drop (at + 1) ts))
    else cut_from (depth_after depth t) (derived_all (take at ts) ++ t ∷ []) (derived_all (drop (at + 1) ts))

-- a `;` outside of brackets ends it
pub cut_here : (depth : ℕ) (ts : List Piece) (at : ℕ) (d : Piece) → at < length ts
    → ends_directive depth (derived (get_or ts at d)) ≡ true
    → cut_at depth at ts ≡ derived_all (take (at + 1) ts) ∷ directives (derived_all (drop (at + 1) ts))
cut_here depth ts at d lt e =
    step depth ts at d lt ∙ ap (cases depth at ts (derived (get_or ts at d))) e
    ∙ ap (λ xs. xs ∷ directives (derived_all (drop (at + 1) ts))) (begun ts at d lt)

pub cut_on : (depth : ℕ) (ts : List Piece) (at : ℕ) (d : Piece) → at < length ts
    → ends_directive depth (derived (get_or ts at d)) ≡ false
    → cut_at (depth_after depth (derived (get_or ts at d))) (at + 1) ts ≡ cut_at depth at ts
cut_on depth ts at d lt e =
    sym (step depth ts at d lt ∙ ap (cases depth at ts (derived (get_or ts at d))) e
    ∙ ap (λ xs. cut_from (depth_after depth (derived (get_or ts at d))) xs (derived_all (drop (at + 1) ts)))
    (begun ts at d lt))

none_left : (depth : ℕ) (t : Piece) (before rest : List Piece) → rest ≡ []
    → cut_from depth (derived_all (t ∷ before)) (derived_all rest)
    ≡ derived_all (t ∷ before) ∷ directives (derived_all rest)
none_left depth t before [] e = refl
none_left depth t before (r ∷ rest) e = absurd (cc)

-- without one, it is all
pub cut_all : (depth : ℕ) (ts : List Piece) → 0 < length ts
    → cut_at depth (length ts) ts
    ≡ derived_all (take (length ts) ts) ∷ directives (derived_all (drop (length ts) ts))
cut_all depth [] lt = absurd (omega arith)
cut_all depth (t ∷ ts) lt = none_left depth t (take (length ts) ts) (drop (length ts) ts) (drop-length ts)
