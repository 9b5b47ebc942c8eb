-- Rows that are read from their end.
use Rattle.std.proofs.Common.{◌≡◌, ℕ, zero, suc, ◌+◌, ◌<◌, List, [], ◌∷◌, ◌++◌, reverse, length, get_or, take, refl, ap}
use Rattle.std.proofs.Common.{◌∙◌, arith}
use Rattle.std.proofs.lemmas.List.{reverse-append}
use Rattle.syntax_lexer.specs.declared.token.Kind.{Kind}
use Rattle.syntax_lexer.specs.declared.token.Kind.TheVariants as kinds
use Rattle.syntax_lexer.specs.declared.token.Position.{Position}
use Rattle.syntax_lexer.specs.Token.{lexeme_of, position_of}

-- a row whose last is put at the front
pub reverse_push : {X : Type 0} (xs : List X) (x : X) → reverse (xs ++ x ∷ []) ≡ x ∷ reverse xs
reverse_push xs x = reverse-append xs (x ∷ [])

pub take_push : {X : Type 0} (xs : List X) (n : ℕ) (d : X) → n < length xs
    → take (n + 1) xs ≡ take n xs ++ get_or xs n d ∷ []
take_push [] n d lt = absurd (omega arith)
take_push (x ∷ xs) zero d lt = refl
take_push (x ∷ xs) (suc n) d lt =
    let more : suc n + 1 ≡ suc (n + 1) = omega arith in
    ap (λ k. take k (x ∷ xs)) more ∙ ap (λ ys. x ∷ ys) (take_push xs n d (omega arith))

-- ---- positions

pub position_is : (kind : Kind) (p : Position) → position_of (lexeme_of kind p) ≡ p
position_is (kinds.Name s) p = refl
position_is (kinds.Number n) p = refl
position_is (kinds.Text s) p = refl
position_is (kinds.Character c) p = refl
position_is (kinds.DictionaryWord s) p = refl
position_is (kinds.Reserved w) p = refl
position_is (kinds.Sign s) p = refl
position_is kinds.End p = refl
