-- The tokens of fronts and rests.
use Rattle.std.proofs.Common.{◌≡◌, ◌<◌, ◌+◌, ◌-◌, ◌∙◌, ℕ, List, [], ◌∷◌, ◌++◌, append_assoc, length, get_or, take, drop}
use Rattle.std.proofs.Common.{refl, ap, sym, arith}
use Rattle.std.proofs.lemmas.List.{drop-take, map-append, take-append-drop, take-map, take-take, drop-map, length-map}
use Rattle.syntax_lexer.specs.Token.{Lexeme, head, tail}
use Rattle.derive_tokens.specs.declared.piece.Piece.{Piece}
use Rattle.derive_tokens.specs.Pieces.{derived, derived_all}

pub derived_drop : (pieces : List Piece) (n : ℕ) → drop n (derived_all pieces) ≡ derived_all (drop n pieces)
derived_drop pieces n = drop-map derived n pieces

pub derived_take : (pieces : List Piece) (n : ℕ) → take n (derived_all pieces) ≡ derived_all (take n pieces)
derived_take pieces n = take-map derived n pieces

pub derived_length : (pieces : List Piece) → length (derived_all pieces) ≡ length pieces
derived_length pieces = length-map pieces derived

-- all but the last
pub derived_front : (pieces : List Piece) (n : ℕ) → n ≡ length pieces - 1
    → derived_all (take n pieces) ≡ take (length (derived_all pieces) - 1) (derived_all pieces)
derived_front pieces n e =
    sym (derived_take pieces n)
    ∙ ap (λ k. take k (derived_all pieces)) (e ∙ ap (λ k. k - 1) (sym (derived_length pieces)))

-- the first and the others
pub derived_first : (pieces : List Piece) (d : Piece) → 0 < length pieces
    → derived (get_or pieces 0 d) ≡ head (derived_all pieces)
derived_first [] d some = absurd (omega arith)
derived_first (p ∷ ps) d some = refl

pub derived_one : (pieces : List Piece) (d : Piece) → 0 < length pieces
    → derived (get_or pieces 0 d) ∷ [] ≡ take 1 (derived_all pieces)
derived_one [] d some = absurd (omega arith)
derived_one (p ∷ ps) d some = refl

pub derived_others : (pieces : List Piece) → derived_all (drop 1 pieces) ≡ tail (derived_all pieces)
derived_others [] = refl
derived_others (p ∷ ps) = refl

-- tokens that are put as they are, and what follows
pub quiet_rows : (f : List Lexeme → List Lexeme) (pieces : List Piece) (old new : List Lexeme) (count : ℕ)
    (whole : List Lexeme) → new ≡ old ++ take count (derived_all pieces)
    → take count (derived_all pieces) ++ f (drop count (derived_all pieces)) ≡ whole
    → new ++ f (derived_all (drop count pieces)) ≡ old ++ whole
quiet_rows f pieces old new count whole is e =
    ap (λ (ts : List Lexeme). ts ++ f (derived_all (drop count pieces))) is
    ∙ append_assoc old (take count (derived_all pieces)) (f (derived_all (drop count pieces)))
    ∙ ap (λ (ts : List Lexeme). old ++ (take count (derived_all pieces) ++ f ts)) (sym (derived_drop pieces count))
    ∙ ap (λ (ts : List Lexeme). old ++ ts) e
