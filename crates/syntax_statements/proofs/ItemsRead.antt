-- What `print` prints is read as it derives.
use Rattle.std.proofs.Common.{◌≡◌, ◌&&◌, ℕ, zero, suc, max, true, false, List, [], ◌∷◌, Result, Ok, refl, arith}
use Rattle.std.proofs.Common.{length, ◌≤◌}
use Rattle.syntax_lexer.specs.declared.token.Position.{Position}
use Rattle.syntax_lexer.specs.declared.token.Sign.TheVariants as s
use Rattle.syntax_lexer.specs.declared.token.Word.TheVariants as w
use Rattle.syntax_lexer.specs.Token.{Lexeme, text, reserved, sign, position_of}
use Rattle.syntax_trees.specs.Tree.{ExpressionTree}
use Rattle.syntax_trees.specs.Stop.{Stop}
use Rattle.syntax_trees.specs.Parse.{◌>>=◌, head, tail, is_sign, is_word, expect}
use Rattle.syntax_expressions.proofs.Short.{short_E}
use Rattle.syntax_expressions.specs.Operators.{begins_expression}
use Rattle.syntax_expressions.specs.Parse.{nested, expression}
use Rattle.syntax_expressions.proofs.Follow.{Stops}
use Rattle.syntax_expressions.proofs.Begins.{first_E}
use Rattle.syntax_expressions.proofs.Limited.{Limited, then, at_once, same, Listed, listed_last, listed_next}
use Rattle.syntax_expressions.proofs.Limited.{listed_all}
use Rattle.syntax_expressions.proofs.Complete.{at_E}
use Rattle.syntax_statements.specs.PartTree.{PrintItemTree, text_item, character_item, number_item, object_item}
use Rattle.syntax_statements.specs.PartGrammar.{IsItem, item_text, item_character, item_number, IsItems, items_last}
use Rattle.syntax_statements.specs.PartGrammar.{items_comma, item_nesting, items_nesting, item_object}
use Rattle.syntax_statements.specs.PartParse.{cast, value, item, items}
use Rattle.syntax_statements.proofs.Follow.{short_Item, no_cast, no_object_cast}

-- ---- what `print` prints

weaken : {A : Type 0} {R : Result (A × List Lexeme) Stop} {d n : ℕ} {a : A} {r : List Lexeme}
    → Limited R (suc d) n a r → Limited R (suc d) (max 1 n) a r
weaken p = record { within = λ h. p.within (omega arith); beyond = λ h. p.beyond (omega arith) }

step_character : {n : ℕ} {e : ExpressionTree} (d : ℕ) (p q o : Position) (ts r : List Lexeme)
    → length r ≤ length ts → Limited (expression (nested d) ts) d n e r
    → Limited (item d (sign s.OpenParenthesis p ∷ reserved w.Char q ∷ sign s.CloseParenthesis o ∷ ts)) d (max 1 n)
    (character_item (position_of (head ts)) e) r
unfolding item value cast expect
step_character {n} zero p q o ts r short a = record {
  within = λ h. absurd (omega arith);
  beyond = λ h. record { left = _; stops = refl; enough = omega (arith, short) };
}
step_character (suc d) p q o ts r short a = weaken (then _ a (omega arith) refl)

step_object : {n : ℕ} {e : ExpressionTree} (d : ℕ) (p q o : Position) (ts r : List Lexeme)
    → length r ≤ length ts → Limited (expression (nested d) ts) d n e r
    → Limited (item d (sign s.OpenParenthesis p ∷ reserved w.Object q ∷ sign s.CloseParenthesis o ∷ ts)) d (max 1 n)
    (object_item (position_of (head ts)) e) r
unfolding item value cast expect
step_object {n} zero p q o ts r short a = record {
  within = λ h. absurd (omega arith);
  beyond = λ h. record { left = _; stops = refl; enough = omega (arith, short) };
}
step_object (suc d) p q o ts r short a = weaken (then _ a (omega arith) refl)

pub item_of : (d : ℕ) (ts : List Lexeme) → begins_expression (head ts) ≡ true → item d ts ≡ value d ts
unfolding item
item_of d [] e = absurd cc
item_of d (text bytes p ∷ ts) e = absurd cc
item_of d (t ∷ ts) e = refl

step_number : {n : ℕ} {e : ExpressionTree} (d : ℕ) (ts r : List Lexeme) → begins_expression (head ts) ≡ true
    → (is_sign s.OpenParenthesis (head ts) && is_word w.Char (head (tail ts))) ≡ false
    → (is_sign s.OpenParenthesis (head ts) && is_word w.Object (head (tail ts))) ≡ false
    → Limited (expression (nested d) ts) d n e r → Limited (item d ts) d n (number_item (position_of (head ts)) e) r
unfolding value
step_number d ts r b c o a = same (item_of d ts b)
    (same {S = expression (nested d) ts >>= λ x. Ok (number_item (position_of (head ts)) x.0, x.1)} (rw (c, o) refl)
    (then _ a (omega arith) refl))

step_text_item : (d : ℕ) (bytes : List ℕ) (p : Position) (r : List Lexeme)
    → Limited (item d (text bytes p ∷ r)) d 0 (text_item bytes) r
unfolding item
step_text_item d bytes p r = at_once refl

pub at_Item : {ts r : List Lexeme} {i : PrintItemTree} → IsItem ts i r → (d : ℕ) → Stops 1 r
    → Limited (item d ts) d (item_nesting i) i r
at_Item (item_text {r = r} {p = p} {bytes = bytes}) d st = step_text_item d bytes p r
at_Item (item_character {m = m} {r = r} {t = t} {p = p} {q = q} {o = o} a) d st = step_character d p q o (t ∷ m) r
    (omega (arith, short_E a)) (at_E a d st)
at_Item (item_object {m = m} {r = r} {t = t} {p = p} {q = q} {o = o} a) d st = step_object d p q o (t ∷ m) r
    (omega (arith, short_E a)) (at_E a d st)
at_Item {ts} {r} (item_number a) d st = step_number d ts r (first_E a) (no_cast a) (no_object_cast a) (at_E a d st)

listed_Items : {ts r : List Lexeme} {is : List PrintItemTree} {q : Position} → IsItems ts is (sign s.Semicolon q ∷ r)
    → (d : ℕ) → Listed (is_sign s.Comma) (item d) d (items_nesting is) ts is (sign s.Semicolon q ∷ r)
listed_Items {ts} (items_last a) d = listed_last (is_sign s.Comma) (item d) d ts (at_Item a d (omega arith))
    (short_Item a) refl
listed_Items {ts} (items_comma {p = p} a b) d = listed_next (is_sign s.Comma) (item d) d ts (sign s.Comma p)
    (at_Item a d (omega arith)) (short_Item a) refl (listed_Items b d)

pub at_Items : {ts r : List Lexeme} {is : List PrintItemTree} {q : Position} → IsItems ts is (sign s.Semicolon q ∷ r)
    → (d : ℕ) → Limited (items d ts) d (items_nesting is) is (sign s.Semicolon q ∷ r)
unfolding items
at_Items {ts} a d = listed_all (is_sign s.Comma) (item d) d ts (listed_Items a d)
