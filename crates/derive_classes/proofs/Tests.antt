-- Tests in place: what they become before a place, and what is to be tested from there on.
use Rattle.std.proofs.Common.{◌≡◌, ℕ, ◌+◌, ◌<◌, List, [], ◌∷◌, ◌++◌, length, get_or, take, drop, set}
use Rattle.std.proofs.Common.{ap, sym, ◌∙◌, arith, append_assoc}
use Rattle.std.proofs.lemmas.List.{map-append, at_drop_more, take_more_set, drop-set-lt, set-get_or}
use Rattle.std.specs.Prelude.{◌&&◌, false, if◌then◌else◌, codes}
use Rattle.syntax_lexer.specs.declared.token.Word.TheVariants as w
use Rattle.syntax_lexer.specs.Token.{reserved, head, position_of}
use Rattle.derive_tokens.specs.declared.piece.Piece.{Piece}
use Rattle.derive_tokens.specs.Pieces.{derived, derived_all}
use Rattle.derive_tokens.specs.Tokens.{is_named}
use Rattle.derive_tokens.specs.Names.{is_name}
use Rattle.derive_classes.specs.Classed.{test_of, tested}

pub test_step : (ts : List Piece) (at : ℕ) (d p : Piece) → at < length ts
    → derived p ≡ test_of (derived (get_or ts at d)) (derived_all (drop (at + 1) ts))
    → derived_all (take (at + 1) (set ts at p)) ++ tested (derived_all (drop (at + 1) (set ts at p)))
    ≡ derived_all (take at ts) ++ tested (derived_all (drop at ts))
test_step ts at d p lt e =
    ap (λ xs. derived_all xs ++ tested (derived_all (drop (at + 1) (set ts at p)))) (take_more_set ts at p lt)
    ∙ ap (λ xs. derived_all (take at ts ++ p ∷ []) ++ tested (derived_all xs))
    (drop-set-lt (at + 1) ts at p (omega arith))
    ∙ ap (λ xs. xs ++ tested (derived_all (drop (at + 1) ts))) (map-append derived (take at ts) (p ∷ []))
    ∙ append_assoc (derived_all (take at ts)) (derived p ∷ []) (tested (derived_all (drop (at + 1) ts)))
    ∙ ap (λ x. derived_all (take at ts) ++ x ∷ tested (derived_all (drop (at + 1) ts))) e
    ∙ sym (at_drop_more (λ xs. derived_all (take at ts) ++ tested (derived_all xs)) ts at d lt)

-- a token that is no test
pub test_kept : (ts : List Piece) (at : ℕ) (d : Piece) → at < length ts
    → is_named (codes "ofclass") (derived (get_or ts at d)) ≡ false
    → derived_all (take (at + 1) ts) ++ tested (derived_all (drop (at + 1) ts))
    ≡ derived_all (take at ts) ++ tested (derived_all (drop at ts))
test_kept ts at d lt e =
    ap (λ xs. derived_all (take (at + 1) xs) ++ tested (derived_all (drop (at + 1) xs))) (sym (set-get_or ts at d))
    ∙ test_step ts at d (get_or ts at d) lt
    (sym (ap (λ b. if b && is_name (head (derived_all (drop (at + 1) ts)))
    then reserved w.Has (position_of (derived (get_or ts at d))) else derived (get_or ts at d)) e))
