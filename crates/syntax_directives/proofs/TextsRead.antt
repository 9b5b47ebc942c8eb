-- The texts after `abbreviate`: what is read derives, and what derives is read. In them no token stands too deep.
use Rattle.std.proofs.Common.{◌≡◌, ℕ, zero, suc, ◌<◌, ◌≤◌, false, List, ◌∷◌, length, Ok, refl, sym, subst, arith}
use Rattle.syntax_lexer.specs.declared.token.Position.{Position}
use Rattle.syntax_lexer.specs.declared.token.Sign.TheVariants as s
use Rattle.syntax_lexer.specs.Token.{Lexeme, text, sign}
use Rattle.syntax_trees.specs.Parse.{head, expect, as_long, repeated}
use Rattle.syntax_expressions.proofs.Judged.{Judged, judged_read, judged_grammar, judged_then}
use Rattle.syntax_statements.proofs.SoundRows.{repeated_judged}
use Rattle.syntax_directives.specs.Tree.{TextTree}
use Rattle.syntax_directives.specs.Grammar.{IsTexts, texts_stop, texts_next}
use Rattle.syntax_directives.specs.Parse.{is_text, one_text, texts, abbreviate_after}

one_text_judged : (ts : List Lexeme) → Judged (λ x r. ts ≡ text x.bytes x.position ∷ r) (λ i. ⊥) (one_text ts)
unfolding one_text
one_text_judged (text bytes p ∷ ts) = judged_read (record { bytes = bytes; position = p }) ts refl
one_text_judged _ = judged_grammar

texts_made : (ts : List Lexeme) (x : TextTree) (m : List Lexeme) (xs : List TextTree) (r : List Lexeme)
    → ts ≡ text x.bytes x.position ∷ m → IsTexts m xs r → IsTexts ts (x ∷ xs) r
texts_made ts x m xs r q a = subst (λ v. IsTexts v (x ∷ xs) r) (sym q) (texts_next a)

pub texts_judged : (ts : List Lexeme) → Judged (λ xs r. IsTexts ts xs r × (0 < length xs)) (λ i. ⊥) (texts ts)
unfolding texts
texts_judged ts = judged_then _ (one_text_judged ts)
    (λ x m q. judged_then _
    (repeated_judged is_text one_text (λ us y r. us ≡ text y.bytes y.position ∷ r) IsTexts (λ us i. ⊥) (λ us i. ⊥)
    (λ r. texts_stop)
    (λ us y n ys r h l. texts_made us y n ys r h l)
    (λ us i e z. z)
    (λ us y n i h z. z)
    one_text_judged (length m) m)
    (λ xs r l. judged_read (x ∷ xs) r (texts_made ts x m xs r q l, omega arith)) (λ i z. z))
    (λ i z. z)

-- ---- what derives is read

pub short_Texts : {ts r : List Lexeme} {xs : List TextTree} → IsTexts ts xs r → length r ≤ length ts
short_Texts texts_stop = omega arith
short_Texts (texts_next a) = omega (arith, short_Texts a)

turns_Texts : {ts r : List Lexeme} {xs : List TextTree} → IsTexts ts xs r → is_text (head r) ≡ false → (n : ℕ)
    → length ts ≤ n → repeated is_text one_text n ts ≡ Ok (xs, r)
unfolding repeated as_long one_text
turns_Texts texts_stop e zero le = refl
turns_Texts texts_stop e (suc n) le = rw e refl
turns_Texts (texts_next a) e zero le = absurd (omega arith)
turns_Texts (texts_next a) e (suc n) le = rw (turns_Texts a e n (omega arith)) refl

texts_read : {ts r : List Lexeme} {xs : List TextTree} → IsTexts ts xs r → 0 < length xs → is_text (head r) ≡ false
    → texts ts ≡ Ok (xs, r)
unfolding texts one_text
texts_read texts_stop lt e = absurd (omega arith)
texts_read (texts_next {m = m} a) lt e = rw (turns_Texts a e (length m) (omega arith)) refl

pub abbreviate_read : {m r : List Lexeme} {o : Position} {xs : List TextTree} → IsTexts m xs (sign s.Semicolon o ∷ r)
    → 0 < length xs → abbreviate_after m ≡ Ok (xs, r)
unfolding abbreviate_after expect
abbreviate_read a lt = rw (texts_read a lt refl) refl
