-- In the statements of a case: what begins as a value begins a statement or the next case, by what follows the
-- value. Reading looks two or three tokens ahead, the machine at none.
use Rattle.std.proofs.Common.{◌≡◌, ℕ, Bool, true, false, cond, List, [], ◌∷◌, refl, ◌∙◌}
use Rattle.std.specs.Prelude.{if◌then◌else◌, not}
use Rattle.syntax_lexer.specs.declared.token.Sign.TheVariants as s
use Rattle.syntax_lexer.specs.declared.token.Word.TheVariants as w
use Rattle.syntax_lexer.specs.Token.{Lexeme, name, number, character, dictionary_word, reserved, sign}
use Rattle.syntax_trees.specs.Parse.{head}
use Rattle.syntax_statements.specs.PartNesting.{goes_on_in_case, begins_case}
use Rattle.syntax_statements.specs.Nesting.{begins_statement, begins_in_case}
use Rattle.syntax.proofs.Frames.{token, upper_left, ranges_left, statement, cases_left, body_left}
use Rattle.syntax.proofs.Frames.{case_after, Stack, less}
use Rattle.syntax.proofs.Machine.{shift, accepts, stop}

-- after a value, over the rest of the statement that it begins
after : (n : ℕ) (j k : Stack) (m : List Lexeme) → less n j ≡ k → stop false (case_after n ∷ j) m
    ≡ (if goes_on_in_case (head m)
    then stop false (upper_left ∷ ranges_left ∷ token s.Colon ∷ body_left ∷ k) m else stop false j m)
unfolding stop shift accepts
after n j k [] e = refl
after n j k (sign s.Comma p ∷ m) e = rw e refl
after n j k (sign s.Colon p ∷ m) e = rw e refl
after n j k (reserved w.To p ∷ m) e = rw e refl
after n j k (name x p ∷ m) e = refl
after n j k (number x p ∷ m) e = refl
after n j k _ e = refl

turned : {A : Type 0} (g : Bool) (x y : A) → cond g x y ≡ cond (not g) y x
turned true x y = refl
turned false x y = refl

abbrev Splits : Stack → List Lexeme → Type 0
Splits k ts = stop false (body_left ∷ cases_left ∷ k) ts ≡ cond (begins_in_case ts)
    (stop false (statement ∷ body_left ∷ cases_left ∷ k) ts) (stop false (cases_left ∷ k) ts)

pub splits : (k : Stack) (ts : List Lexeme) → Splits k ts
unfolding stop shift accepts less begins_statement begins_case
splits k [] = refl
splits k (number n p ∷ m) = after _ _ _ m refl ∙ turned (goes_on_in_case (head m)) _ _
splits k (character n p ∷ m) = after _ _ _ m refl ∙ turned (goes_on_in_case (head m)) _ _
splits k (dictionary_word n p ∷ m) = after _ _ _ m refl ∙ turned (goes_on_in_case (head m)) _ _
splits k (name n p ∷ m) = after _ _ _ m refl ∙ turned (goes_on_in_case (head m)) _ _
splits k (reserved w.True p ∷ m) = after _ _ _ m refl ∙ turned (goes_on_in_case (head m)) _ _
splits k (reserved w.False p ∷ m) = after _ _ _ m refl ∙ turned (goes_on_in_case (head m)) _ _
splits k (reserved w.Nothing p ∷ m) = after _ _ _ m refl ∙ turned (goes_on_in_case (head m)) _ _
splits k (sign s.Minus p ∷ m) = signed m
  where
    signed : (m : List Lexeme) → Splits k (sign s.Minus p ∷ m)
    signed [] = refl
    signed (number n q ∷ m) = after _ _ _ m refl ∙ turned (goes_on_in_case (head m)) _ _
    signed (t ∷ m) = refl
splits k (t ∷ m) = refl
