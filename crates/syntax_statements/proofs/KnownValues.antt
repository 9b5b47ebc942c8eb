-- Values that are known before a story runs, and the ranges of a case: what is read derives, and what has a tree is
-- read as that tree. In them no token stands too deep.
use Rattle.std.proofs.Common.{◌≡◌, ◌-◌, ◌%◌, ℕ, zero, suc, ◌<◌, ◌≤◌, true, false, List, ◌∷◌, length, Some, None, Result}
use Rattle.std.proofs.Common.{Ok, refl, subst, arith}
use Rattle.syntax_lexer.specs.declared.token.Position.{Position}
use Rattle.syntax_lexer.specs.declared.token.Sign.TheVariants as s
use Rattle.syntax_lexer.specs.declared.token.Word.TheVariants as w
use Rattle.syntax_lexer.specs.Token.{Lexeme, name, number, character, dictionary_word, reserved, sign}
use Rattle.syntax_trees.specs.Stop.{Stop}
use Rattle.syntax_trees.specs.Parse.{◌>>=◌, head, tail, is_sign, is_word, further, list}
use Rattle.syntax_expressions.proofs.Judged.{Judged, judged_read, judged_grammar, judged_then, judged_by}
use Rattle.syntax_expressions.proofs.Repeated.{list_judged}
use Rattle.syntax_expressions.proofs.Tokens.{at_word, is_that_sign}
use Rattle.syntax_statements.specs.PartTree.{LiteralTree, number_value, word_value, named_value, RangeTree}
use Rattle.syntax_statements.specs.PartGrammar.{IsK, k_number, k_negative, k_character, k_word, k_true, k_false}
use Rattle.syntax_statements.specs.PartGrammar.{k_nothing, k_name, IsRange, range_alone, range_to, IsRanges}
use Rattle.syntax_statements.specs.PartGrammar.{ranges_last, ranges_comma}
use Rattle.syntax_statements.specs.PartNesting.{goes_on_in_case, begins_case}
use Rattle.syntax_statements.specs.PartParse.{known_value, begins_value, range, ranges}

-- ---- what is read derives

pub known_judged : (ts : List Lexeme) → Judged (λ k r. IsK ts k r) (λ v. ⊥) (known_value ts)
unfolding known_value
known_judged (number n p ∷ ts) = judged_read (number_value n) ts k_number
known_judged (character c p ∷ ts) = judged_read (number_value c) ts k_character
known_judged (dictionary_word f p ∷ ts) = judged_read (word_value f) ts k_word
known_judged (reserved w.True p ∷ ts) = judged_read (number_value 1) ts k_true
known_judged (reserved w.False p ∷ ts) = judged_read (number_value 0) ts k_false
known_judged (reserved w.Nothing p ∷ ts) = judged_read (number_value 0) ts k_nothing
known_judged (name n p ∷ ts) = judged_read (named_value (record { text = n; position = p })) ts k_name
known_judged (sign s.Minus p ∷ number n q ∷ ts) = judged_read (number_value ((65536 - n) % 65536)) ts k_negative
known_judged _ = judged_grammar

range_judged : (ts : List Lexeme) → Judged (λ g r. IsRange ts g r) (λ v. ⊥) (range ts)
unfolding range
range_judged ts =
    judged_then _ (known_judged ts)
    (λ k r h. judged_by (is_word w.To (head r)) _ _
    (λ e. judged_then _ (known_judged (tail r))
    (λ l u g. judged_read (record { low = k; high = Some l }) u
    (range_to (subst (λ v. IsK ts k v) (at_word w.To r e) h) g)) (λ v x. x))
    (λ e. judged_read (record { low = k; high = None }) r (range_alone h)))
    (λ v x. x)

pub ranges_judged : (ts : List Lexeme) → Judged (λ gs r. IsRanges ts gs r) (λ v. ⊥) (ranges ts)
unfolding ranges
ranges_judged ts =
    list_judged (is_sign s.Comma) range IsRange IsRanges (λ us v. ⊥) (λ us v. ⊥)
    refl
    (λ us g r h. ranges_last h)
    (λ us g t m gs r h e l. ranges_comma (subst (λ x. IsRange us g (x ∷ m)) (is_that_sign s.Comma t e) h) l)
    (λ us v x. x)
    (λ us g t m v h e x. x)
    range_judged ts

-- ---- each derivation takes a token

pub short_K : {ts r : List Lexeme} {k : LiteralTree} → IsK ts k r → length r < length ts
short_K k_number = omega arith
short_K k_negative = omega arith
short_K k_character = omega arith
short_K k_word = omega arith
short_K k_true = omega arith
short_K k_false = omega arith
short_K k_nothing = omega arith
short_K k_name = omega arith

pub short_Range : {ts r : List Lexeme} {g : RangeTree} → IsRange ts g r → length r < length ts
short_Range (range_alone a) = short_K a
short_Range (range_to a b) = omega (arith, short_K a, short_K b)

pub short_Ranges : {ts r : List Lexeme} {gs : List RangeTree} → IsRanges ts gs r → length r < length ts
short_Ranges (ranges_last a) = short_Range a
short_Ranges (ranges_comma a b) = omega (arith, short_Range a, short_Ranges b)

-- ---- what has a tree is read as that tree

pub known_read : {ts r : List Lexeme} {k : LiteralTree} → IsK ts k r → known_value ts ≡ Ok (k, r)
unfolding known_value
known_read k_number = refl
known_read k_negative = refl
known_read k_character = refl
known_read k_word = refl
known_read k_true = refl
known_read k_false = refl
known_read k_nothing = refl
known_read k_name = refl

range_read : {ts r : List Lexeme} {g : RangeTree} → IsRange ts g r → is_word w.To (head r) ≡ false
    → range ts ≡ Ok (g, r)
unfolding range
range_read (range_alone a) e = rw (known_read a, e) refl
range_read (range_to a b) e = rw (known_read a, known_read b) refl

abbrev with_first : RangeTree → List RangeTree × List Lexeme → Result (List RangeTree × List Lexeme) Stop
with_first g y = Ok (g ∷ y.0, y.1)

turns_Ranges : {ts r : List Lexeme} {gs : List RangeTree} {p : Position} → IsRanges ts gs (sign s.Colon p ∷ r)
    → (n : ℕ) → length ts ≤ n
    → (range ts >>= λ x. further (is_sign s.Comma) range n x.1 >>= with_first x.0) ≡ Ok (gs, sign s.Colon p ∷ r)
unfolding further
turns_Ranges (ranges_last a) zero le = rw (range_read a refl) refl
turns_Ranges (ranges_last a) (suc n) le = rw (range_read a refl) refl
turns_Ranges (ranges_comma a b) zero le = absurd (omega (arith, short_Range a))
turns_Ranges (ranges_comma a b) (suc n) le =
    let rest = turns_Ranges b n (omega (arith, short_Range a)) in
    rw (range_read a refl, rest) refl

pub ranges_read : {ts r : List Lexeme} {gs : List RangeTree} {p : Position} → IsRanges ts gs (sign s.Colon p ∷ r)
    → ranges ts ≡ Ok (gs, sign s.Colon p ∷ r)
unfolding ranges list further
ranges_read (ranges_last a) = rw (range_read a refl) refl
ranges_read (ranges_comma {m = m} a b) =
    let rest = turns_Ranges b (length m) (omega arith) in
    rw (range_read a refl, rest) refl

-- ---- tokens with which they begin

pub begins_K : {ts r : List Lexeme} {k : LiteralTree} → IsK ts k r → begins_value (head ts) ≡ true
begins_K k_number = refl
begins_K k_negative = refl
begins_K k_character = refl
begins_K k_word = refl
begins_K k_true = refl
begins_K k_false = refl
begins_K k_nothing = refl
begins_K k_name = refl

pub begins_Ranges : {ts r : List Lexeme} {gs : List RangeTree} → IsRanges ts gs r → begins_value (head ts) ≡ true
begins_Ranges (ranges_last (range_alone a)) = begins_K a
begins_Ranges (ranges_last (range_to a b)) = begins_K a
begins_Ranges (ranges_comma (range_alone a) b) = begins_K a
begins_Ranges (ranges_comma (range_to a c) b) = begins_K a

-- a case is known by its first tokens

case_K : {ts r : List Lexeme} {k : LiteralTree} → IsK ts k r → goes_on_in_case (head r) ≡ true
    → begins_case ts ≡ true
unfolding begins_case
case_K k_number e = e
case_K k_negative e = e
case_K k_character e = e
case_K k_word e = e
case_K k_true e = e
case_K k_false e = e
case_K k_nothing e = e
case_K k_name e = e

case_Range : {ts r : List Lexeme} {g : RangeTree} → IsRange ts g r → goes_on_in_case (head r) ≡ true
    → begins_case ts ≡ true
case_Range (range_alone a) e = case_K a e
case_Range (range_to a b) e = case_K a refl

pub case_Ranges : {ts r : List Lexeme} {gs : List RangeTree} {p : Position} → IsRanges ts gs (sign s.Colon p ∷ r)
    → begins_case ts ≡ true
case_Ranges (ranges_last a) = case_Range a refl
case_Ranges (ranges_comma a b) = case_Range a refl
