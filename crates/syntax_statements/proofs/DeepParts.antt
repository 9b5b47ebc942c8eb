-- Reading what statements are made of comes no further than a token that stands deeper than the nestings that are left.
use Rattle.std.proofs.Common.{◌≡◌, ◌&&◌, ℕ, zero, suc, ◌<◌, ◌≤◌, Bool, true, false, cond, List, ◌∷◌, length, Option}
use Rattle.std.proofs.Common.{Some}
use Rattle.std.proofs.Common.{Result, Ok, Err, refl, arith}
use Rattle.syntax_lexer.specs.declared.token.Position.{Position}
use Rattle.syntax_lexer.specs.declared.token.Sign.{Sign}
use Rattle.syntax_lexer.specs.declared.token.Sign.TheVariants as s
use Rattle.syntax_lexer.specs.declared.token.Word.TheVariants as w
use Rattle.syntax_lexer.specs.Token.{Lexeme, reserved, sign, position_of}
use Rattle.syntax_trees.specs.Tree.{ExpressionTree}
use Rattle.syntax_trees.specs.Stop.{Stop, deep, TooDeep}
use Rattle.syntax_trees.specs.Parse.{◌>>=◌, Parse, head, tail, is_sign, is_word, expect, as_long}
use Rattle.syntax_expressions.specs.Operators.{begins_expression}
use Rattle.syntax_expressions.specs.Nesting.{DeepE, deep_e_left, deep_e_first, deep_e_right, DeepE1, deep_e1_first}
use Rattle.syntax_expressions.specs.Nesting.{deep_e1_next, DeepN1, deep_n1_plain, deep_n1_not, deep_n1_in, DeepE2}
use Rattle.syntax_expressions.specs.Nesting.{deep_e2_left, deep_e2_compare, deep_e2_equal, deep_e2_contained, DeepE3}
use Rattle.syntax_expressions.specs.Nesting.{deep_e3_first, deep_e3_next, DeepE4, deep_e4_first, deep_e4_next, DeepN4}
use Rattle.syntax_expressions.specs.Nesting.{deep_n4_plain, deep_n4_complement, deep_n4_in, DeepE5, deep_e5_plain}
use Rattle.syntax_expressions.specs.Nesting.{deep_e5_index, deep_e5_entry, DeepU, deep_u_plain, deep_u_minus}
use Rattle.syntax_expressions.specs.Nesting.{deep_u_minus_in, deep_u_before, deep_u_before_in, DeepP, deep_p_call}
use Rattle.syntax_expressions.specs.Nesting.{deep_p_arguments, deep_p_relative, deep_p_relative_in, deep_p_parenthesis}
use Rattle.syntax_expressions.specs.Nesting.{deep_p_in}
use Rattle.syntax_expressions.specs.Parse.{nested, expression}
use Rattle.syntax_expressions.proofs.Limited.{Limited, deep_before, deep_as}
use Rattle.syntax_expressions.proofs.Deepened.{Deepened, deep_in, deep_after, deep_same, deep_opened, DeepListed}
use Rattle.syntax_expressions.proofs.Deepened.{deep_first_item, deep_next_item, deep_list}
use Rattle.syntax_expressions.proofs.DeepBeginnings.{deep_starts_E}
use Rattle.syntax_expressions.proofs.DeepExpressions.{deep_E}
use Rattle.syntax_statements.specs.PartTree.{number_item}
use Rattle.syntax_statements.specs.PartNesting.{DeepItem, deep_item_parenthesis, deep_item_character}
use Rattle.syntax_statements.specs.PartNesting.{deep_item_object_parenthesis, deep_item_object, deep_item_number}
use Rattle.syntax_statements.specs.PartNesting.{DeepItems, deep_items_first, deep_items_next, DeepHeading}
use Rattle.syntax_statements.specs.PartNesting.{deep_heading_before, deep_heading_test, deep_heading_after}
use Rattle.syntax_statements.specs.PartParse.{cast, value, item, items, optional, optional_effect, heading}
use Rattle.syntax_statements.proofs.Follow.{stepping_opens, relating_opens, second_P, second_E1, second_E3, second_E4}
use Rattle.syntax_statements.proofs.Follow.{no_character, no_object, either, short_Item, short_Optional}
use Rattle.syntax_statements.proofs.ItemsRead.{item_of, at_Item}
use Rattle.syntax_statements.proofs.Alternatives.{step_effect}
use Rattle.syntax_statements.proofs.PartsRead.{expression_colon, expression_close, at_Optional}

-- ---- items, as long as one begins

module _ {A : Type 0} (begins : List Lexeme → Bool) (p : Parse A) (d : ℕ) where
  pub deep_first_turn : {n : ℕ} {ts u : List Lexeme} (turns : ℕ) → begins ts ≡ true → Deepened (p ts) d n ts u
      → Deepened (as_long begins p (suc turns) ts) d n ts u
  unfolding as_long
  deep_first_turn {ts = ts} turns e h =
      deep_same {S = p ts >>= λ x. as_long begins p turns x.1 >>= λ y. Ok (x.0 ∷ y.0, y.1)} (rw e refl)
      (omega arith) (deep_in _ h)

  pub deep_later_turn : {l n : ℕ} {x : A} {ts m u : List Lexeme} (turns : ℕ) → begins ts ≡ true
      → Limited (p ts) d l x m → length m ≤ length ts → Deepened (as_long begins p turns m) d n m u
      → Deepened (as_long begins p (suc turns) ts) d n ts u
  unfolding as_long
  deep_later_turn {ts = ts} {m = m} turns e a less h =
      deep_same {S = p ts >>= λ x. as_long begins p turns x.1 >>= λ y. Ok (x.0 ∷ y.0, y.1)} {us = ts} (rw e refl)
      (omega arith) (deep_after {us = m} _ a less (omega arith) (deep_in _ h))

-- ---- after a parenthesis before a token that is too deep an expression begins

deep_second_P : {n : ℕ} {ts u : List Lexeme} → DeepP n ts u → 1 < n → is_sign s.OpenParenthesis (head ts) ≡ true
    → begins_expression (head (tail ts)) ≡ true
deep_second_P deep_p_call two h = absurd cc
deep_second_P (deep_p_arguments x) two h = absurd cc
deep_second_P (deep_p_relative o) two h = absurd (omega (arith, two))
deep_second_P (deep_p_relative_in {t = t} {which = which} o x) two h = let no = relating_opens t which o in absurd cc
deep_second_P deep_p_parenthesis two h = absurd (omega (arith, two))
deep_second_P (deep_p_in x) two h = deep_starts_E x

deep_second_U : {n : ℕ} {ts u : List Lexeme} → DeepU n ts u → 1 < n → is_sign s.OpenParenthesis (head ts) ≡ true
    → begins_expression (head (tail ts)) ≡ true
deep_second_U (deep_u_plain x) two h = deep_second_P x two h
deep_second_U deep_u_minus two h = absurd cc
deep_second_U (deep_u_minus_in x) two h = absurd cc
deep_second_U (deep_u_before o) two h = absurd (omega (arith, two))
deep_second_U (deep_u_before_in {t = t} {op = op} o x) two h = let no = stepping_opens t op o in absurd cc

deep_second_E5 : {n : ℕ} {ts u : List Lexeme} → DeepE5 n ts u → 1 < n → is_sign s.OpenParenthesis (head ts) ≡ true
    → begins_expression (head (tail ts)) ≡ true
deep_second_E5 (deep_e5_plain x) two h = deep_second_U x two h
deep_second_E5 (deep_e5_index o x) two h = absurd cc
deep_second_E5 (deep_e5_entry a x) two h = second_P a h

deep_second_N4 : {n : ℕ} {ts u : List Lexeme} → DeepN4 n ts u → 1 < n → is_sign s.OpenParenthesis (head ts) ≡ true
    → begins_expression (head (tail ts)) ≡ true
deep_second_N4 (deep_n4_plain x) two h = deep_second_E5 x two h
deep_second_N4 deep_n4_complement two h = absurd cc
deep_second_N4 (deep_n4_in x) two h = absurd cc

deep_second_E4 : {n : ℕ} {ts u : List Lexeme} → DeepE4 n ts u → 1 < n → is_sign s.OpenParenthesis (head ts) ≡ true
    → begins_expression (head (tail ts)) ≡ true
deep_second_E4 (deep_e4_first x) two h = deep_second_N4 x two h
deep_second_E4 (deep_e4_next a o x) two h = second_E4 a h

deep_second_E3 : {n : ℕ} {ts u : List Lexeme} → DeepE3 n ts u → 1 < n → is_sign s.OpenParenthesis (head ts) ≡ true
    → begins_expression (head (tail ts)) ≡ true
deep_second_E3 (deep_e3_first x) two h = deep_second_E4 x two h
deep_second_E3 (deep_e3_next a o x) two h = second_E3 a h

deep_second_E2 : {n : ℕ} {ts u : List Lexeme} → DeepE2 n ts u → 1 < n → is_sign s.OpenParenthesis (head ts) ≡ true
    → begins_expression (head (tail ts)) ≡ true
deep_second_E2 (deep_e2_left x) two h = deep_second_E3 x two h
deep_second_E2 (deep_e2_compare a o x) two h = second_E3 a h
deep_second_E2 (deep_e2_equal a o x) two h = second_E3 a h
deep_second_E2 (deep_e2_contained a o x) two h = second_E3 a h

deep_second_N1 : {n : ℕ} {ts u : List Lexeme} → DeepN1 n ts u → 1 < n → is_sign s.OpenParenthesis (head ts) ≡ true
    → begins_expression (head (tail ts)) ≡ true
deep_second_N1 (deep_n1_plain x) two h = deep_second_E2 x two h
deep_second_N1 deep_n1_not two h = absurd cc
deep_second_N1 (deep_n1_in x) two h = absurd cc

deep_second_E1 : {n : ℕ} {ts u : List Lexeme} → DeepE1 n ts u → 1 < n → is_sign s.OpenParenthesis (head ts) ≡ true
    → begins_expression (head (tail ts)) ≡ true
deep_second_E1 (deep_e1_first x) two h = deep_second_N1 x two h
deep_second_E1 (deep_e1_next a o x) two h = second_E1 a h

deep_second_E : {n : ℕ} {ts u : List Lexeme} → DeepE n ts u → 1 < n → is_sign s.OpenParenthesis (head ts) ≡ true
    → begins_expression (head (tail ts)) ≡ true
deep_second_E (deep_e_left x) two h = deep_second_E1 x two h
deep_second_E (deep_e_first a b) two h = second_E1 a h
deep_second_E (deep_e_right a x) two h = second_E1 a h

-- ---- what `print` prints

-- without a nesting the parenthesis of `(char)` or `(object)` is too deep
none_left : {A : Type 0} (b c : Bool) (k left : ℕ) (R : Result A Stop) → k ≤ left → TooDeep k R
    → TooDeep k (cond b (Err (deep left)) (cond c (Err (deep left)) R))
none_left true c k left R le h = record { left = left; stops = refl; enough = le }
none_left false true k left R le h = record { left = left; stops = refl; enough = le }
none_left false false k left R le h = h

number_deep : {n : ℕ} {ts u : List Lexeme} → DeepE n ts u → (d : ℕ) → Deepened (value d ts) d n ts u
unfolding value cast
number_deep {ts = ts} {u = u} x zero =
    let h = deep_E x 0 in
    record {
      fewer = h.fewer;
      stops = λ lt. none_left (is_sign s.OpenParenthesis (head ts) && is_word w.Char (head (tail ts)))
          (is_sign s.OpenParenthesis (head ts) && is_word w.Object (head (tail ts))) (length u) (length ts) _ h.fewer
          (deep_before _ (h.stops lt));
    }
number_deep {ts = ts} x (suc d) =
    let h = deep_E x (suc d) in
    record {
      fewer = h.fewer;
      stops = λ lt.
          deep_as {S = expression (nested (suc d)) ts >>= λ x. Ok (number_item (position_of (head ts)) x.0, x.1)}
          (rw (
            either (is_sign s.OpenParenthesis (head ts)) (is_word w.Char (head (tail ts)))
                (λ o. no_character (head (tail ts)) (deep_second_E x (omega (arith, lt)) o)),
            either (is_sign s.OpenParenthesis (head ts)) (is_word w.Object (head (tail ts)))
                (λ o. no_object (head (tail ts)) (deep_second_E x (omega (arith, lt)) o)),
          ) refl) (deep_before _ (h.stops lt));
    }

module _ (d : ℕ) (m : List Lexeme) (p q : Position) where
  open_character : Deepened (item d (sign s.OpenParenthesis p ∷ reserved w.Char q ∷ m)) d 1
      (sign s.OpenParenthesis p ∷ reserved w.Char q ∷ m) (sign s.OpenParenthesis p ∷ reserved w.Char q ∷ m)
  unfolding item value cast
  open_character = deep_opened (λ k. item k (sign s.OpenParenthesis p ∷ reserved w.Char q ∷ m)) d (omega arith) refl

  open_object : Deepened (item d (sign s.OpenParenthesis p ∷ reserved w.Object q ∷ m)) d 1
      (sign s.OpenParenthesis p ∷ reserved w.Object q ∷ m) (sign s.OpenParenthesis p ∷ reserved w.Object q ∷ m)
  unfolding item value cast
  open_object = deep_opened (λ k. item k (sign s.OpenParenthesis p ∷ reserved w.Object q ∷ m)) d (omega arith) refl

module _ {n : ℕ} {m u : List Lexeme} (p q o : Position) where
  in_character : (d : ℕ) → Deepened (expression (nested d) m) d n m u
      → Deepened (item d (sign s.OpenParenthesis p ∷ reserved w.Char q ∷ sign s.CloseParenthesis o ∷ m)) d n
      (sign s.OpenParenthesis p ∷ reserved w.Char q ∷ sign s.CloseParenthesis o ∷ m) u
  unfolding item value cast expect
  in_character zero h = record {
    fewer = omega (arith, h.fewer);
    stops = λ lt. record { left = _; stops = refl; enough = omega (arith, h.fewer) };
  }
  in_character (suc d) h = deep_same refl (omega arith) (deep_in _ h)

  in_object : (d : ℕ) → Deepened (expression (nested d) m) d n m u
      → Deepened (item d (sign s.OpenParenthesis p ∷ reserved w.Object q ∷ sign s.CloseParenthesis o ∷ m)) d n
      (sign s.OpenParenthesis p ∷ reserved w.Object q ∷ sign s.CloseParenthesis o ∷ m) u
  unfolding item value cast expect
  in_object zero h = record {
    fewer = omega (arith, h.fewer);
    stops = λ lt. record { left = _; stops = refl; enough = omega (arith, h.fewer) };
  }
  in_object (suc d) h = deep_same refl (omega arith) (deep_in _ h)

deep_Item : {n : ℕ} {ts u : List Lexeme} → DeepItem n ts u → (d : ℕ) → Deepened (item d ts) d n ts u
deep_Item (deep_item_parenthesis {m = m} {p = p} {q = q}) d = open_character d m p q
deep_Item (deep_item_character {p = p} {q = q} {o = o} x) d = in_character p q o d (deep_E x d)
deep_Item (deep_item_object_parenthesis {m = m} {p = p} {q = q}) d = open_object d m p q
deep_Item (deep_item_object {p = p} {q = q} {o = o} x) d = in_object p q o d (deep_E x d)
deep_Item {ts = ts} (deep_item_number x) d = deep_same (item_of d ts (deep_starts_E x)) (omega arith) (number_deep x d)

listed_deep : {n : ℕ} {ts u : List Lexeme} → DeepItems n ts u → (d : ℕ)
    → DeepListed (is_sign s.Comma) (item d) d n ts u
listed_deep (deep_items_first x) d = deep_first_item (is_sign s.Comma) (item d) d (deep_Item x d)
listed_deep (deep_items_next a x) d = deep_next_item (is_sign s.Comma) (item d) d (at_Item a d (omega arith))
    (short_Item a) refl (listed_deep x d)

pub deep_Items : {n : ℕ} {ts u : List Lexeme} → DeepItems n ts u → (d : ℕ) → Deepened (items d ts) d n ts u
unfolding items
deep_Items x d = deep_list (is_sign s.Comma) (item d) d (listed_deep x d)

-- ---- the parts of a `for`

module _ (d : ℕ) {n : ℕ} {ts u : List Lexeme} where
  in_optional : (z : Sign) → is_sign z (head ts) ≡ false → Deepened (expression (nested d) ts) d n ts u
      → Deepened (optional d z ts) d n ts u
  unfolding optional
  in_optional z e h = deep_same {S = expression (nested d) ts >>= λ x. Ok (Some x.0, x.1)} (rw e refl) (omega arith)
      (deep_in _ h)

  in_effect : (z : Sign) → is_sign z (head ts) ≡ false → Deepened (expression (nested d) ts) d n ts u
      → Deepened (optional_effect d z ts) d n ts u
  unfolding optional_effect
  in_effect z e h = deep_in _ (in_optional z e h)

  in_before : Deepened (optional_effect d s.Colon ts) d n ts u → Deepened (heading d ts) d n ts u
  unfolding heading
  in_before h = deep_in _ h

module _ (d : ℕ) {n l : ℕ} {a : Option ExpressionTree} {k ts u : List Lexeme} (i : Position)
    (before : Limited (optional_effect d s.Colon ts) d l a (sign s.Colon i ∷ k)) (less : length k < length ts) where
  in_test : Deepened (optional d s.Colon k) d n k u → Deepened (heading d ts) d n ts u
  unfolding heading expect
  in_test h = deep_after {us = k} _ before (omega (arith, less)) (omega arith) (deep_in _ h)

  in_after : {j : ℕ} {b : Option ExpressionTree} {m : List Lexeme} (q : Position)
      → Limited (optional d s.Colon k) d j b (sign s.Colon q ∷ m) → length m < length k
      → Deepened (optional_effect d s.CloseParenthesis m) d n m u → Deepened (heading d ts) d n ts u
  unfolding heading expect
  in_after {m = m} q test fewer h = deep_after {us = k} _ before (omega (arith, less)) (omega arith)
      (deep_after {us = m} _ test (omega (arith, fewer)) (omega arith) (deep_in _ h))

pub deep_Heading : {n : ℕ} {ts u : List Lexeme} → DeepHeading n ts u → (d : ℕ) → Deepened (heading d ts) d n ts u
deep_Heading {ts = ts} (deep_heading_before x) d = in_before d
    (in_effect d s.Colon (expression_colon (head ts) (deep_starts_E x)) (deep_E x d))
deep_Heading {ts = ts} (deep_heading_test {k = k} {p = p} a f x) d = in_test d p
    (step_effect d s.Colon ts f (at_Optional s.Colon expression_colon a d refl (omega arith)))
    (omega (arith, short_Optional a))
    (in_optional d s.Colon (expression_colon (head k) (deep_starts_E x)) (deep_E x d))
deep_Heading {ts = ts} (deep_heading_after {k = k} {l = l} {p = p} {q = q} a f b x) d = in_after d p
    (step_effect d s.Colon ts f (at_Optional s.Colon expression_colon a d refl (omega arith)))
    (omega (arith, short_Optional a)) q (at_Optional s.Colon expression_colon b d refl (omega arith))
    (omega (arith, short_Optional b))
    (in_effect d s.CloseParenthesis (expression_close (head l) (deep_starts_E x)) (deep_E x d))
