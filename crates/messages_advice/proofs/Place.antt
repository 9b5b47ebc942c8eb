-- The place of a fault of the grammar, and the place at which kinds are expected, are one.
use Rattle.std.proofs.Common.{◌≡◌, ℕ, List, [], ◌∷◌, ◌++◌, inl, inr, sym, ap, subst, ◌∙◌}
use Rattle.std.proofs.Common.{append_assoc}
use Rattle.syntax_lexer.specs.Token.{Lexeme, position_of}
use Rattle.syntax.specs.Places.{Begins, IsFirstUnfit}
use Rattle.messages_advice.specs.declared.kinds.TokenKind.{TokenKind}
use Rattle.messages_advice.specs.Listed.{AreExpected}
use Rattle.messages_advice.proofs.SameKind.{prefix}
use Rattle.messages_advice.proofs.Trial.{Splits, splits, head_is}

-- what begins a program begins none with a token less that does not fit
not_before : (f g : List Lexeme) (t : Lexeme) (more : List Lexeme) → g ≡ f ++ t ∷ more → Begins g
    → (Begins (f ++ t ∷ []) → ⊥) → ⊥
not_before f g t more is fits never =
    let again : Begins ((f ++ t ∷ []) ++ more) = subst (λ us. Begins us) (is ∙ sym (append_assoc f (t ∷ []) more)) fits in
    never (prefix (f ++ t ∷ []) more again)

one_token : (f g : List Lexeme) (t u : Lexeme) (b d : List Lexeme) → f ++ t ∷ b ≡ g ++ u ∷ d → Begins f → Begins g
    → (Begins (f ++ t ∷ []) → ⊥) → (Begins (g ++ u ∷ []) → ⊥) → t ≡ u
one_token f g t u b d e fits gits never other = go (splits f (t ∷ b) g u d e)
  where
    at : (rest : List Lexeme) → g ≡ f ++ rest → t ∷ b ≡ rest ++ u ∷ d → t ≡ u
    at [] is are = head_is t u b d are
    at (r ∷ rest) is are =
        let same = head_is t r b (rest ++ u ∷ d) are in
        absurd (not_before f g t rest (is ∙ ap (λ x. f ++ x ∷ rest) (sym same)) gits never)

    go : Splits f (t ∷ b) g u d → t ≡ u
    go (inl (more, is)) = absurd (not_before g f u more is fits other)
    go (inr (rest, is, are)) = at rest is are

pub one_place : (most : ℕ) (ts : List Lexeme) (kinds : List TokenKind) (offset : ℕ) (a : AreExpected ts kinds)
    → IsFirstUnfit most ts (λ p. p.offset ≡ offset) → (position_of a.token).offset ≡ offset
one_place most ts kinds offset a h =
    let same = one_token a.front h.front a.token h.token a.after h.after (sym a.is ∙ h.is) a.fits h.fits a.does_not
    h.does_not in
    ap (λ t. (position_of t).offset) same ∙ h.stands
