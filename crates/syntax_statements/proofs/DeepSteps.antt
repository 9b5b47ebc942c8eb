-- One step for each place of a statement in which a token may be too deep.
use Rattle.std.proofs.Common.{◌≡◌, ◌&&◌, not, ℕ, zero, suc, ◌<◌, ◌≤◌, Bool, true, false, List, [], ◌∷◌, length}
use Rattle.std.proofs.Common.{refl, arith}
use Rattle.syntax_lexer.specs.declared.token.Position.{Position}
use Rattle.syntax_lexer.specs.declared.token.Sign.TheVariants as s
use Rattle.syntax_lexer.specs.declared.token.Word.TheVariants as w
use Rattle.syntax_lexer.specs.Token.{Lexeme, name, reserved, sign}
use Rattle.syntax_trees.specs.Tree.{ExpressionTree}
use Rattle.syntax_trees.specs.Parse.{◌>>=◌, head, is_sign, expect, expect_word, as_long, repeated}
use Rattle.syntax_expressions.specs.Operators.{begins_expression}
use Rattle.syntax_expressions.specs.PartParse.{expect_name}
use Rattle.syntax_expressions.specs.Parse.{whole, nested, condition, expression}
use Rattle.syntax_expressions.proofs.Limited.{Limited}
use Rattle.syntax_expressions.proofs.Deepened.{Deepened, deep_in, deep_after, deep_same, deep_opened}
use Rattle.syntax_expressions.proofs.DeepBeginnings.{deep_starts_E}
use Rattle.syntax_statements.specs.PartTree.{LoopTree}
use Rattle.syntax_statements.specs.PartViews.{HeadingTree}
use Rattle.syntax_statements.specs.PartParse.{items, enclosed_condition, heading, heading_in}
use Rattle.syntax_statements.specs.PartParse.{enclosed_heading, looped, looped_in, enclosed_loop}
use Rattle.syntax_statements.specs.Tree.{StatementTree, return_value}
use Rattle.syntax_statements.specs.Nesting.{begins_statement, begins_in_case, DeepS, deep_s_brace, deep_s_block}
use Rattle.syntax_statements.specs.Nesting.{deep_s_print, deep_s_print_ret, deep_s_if, deep_s_if_condition}
use Rattle.syntax_statements.specs.Nesting.{deep_s_if_then, deep_s_if_else, deep_s_while, deep_s_while_condition}
use Rattle.syntax_statements.specs.Nesting.{deep_s_while_do, deep_s_do_begins, deep_s_do, deep_s_until}
use Rattle.syntax_statements.specs.Nesting.{deep_s_until_condition, deep_s_for, deep_s_for_parts, deep_s_for_body}
use Rattle.syntax_statements.specs.Nesting.{deep_s_objectloop, deep_s_objectloop_head, deep_s_objectloop_body}
use Rattle.syntax_statements.specs.Nesting.{deep_s_switch, deep_s_switch_value, deep_s_switch_brace}
use Rattle.syntax_statements.specs.Nesting.{deep_s_switch_cases, deep_s_return, deep_s_give, deep_s_move}
use Rattle.syntax_statements.specs.Nesting.{deep_s_move_to, deep_s_remove, deep_s_effect}
use Rattle.syntax_statements.specs.Nesting.{DeepCases}
use Rattle.syntax_statements.specs.Nesting.{deep_cases_first, deep_cases_next, deep_cases_default}
use Rattle.syntax_statements.specs.Parse.{printed, returned, given, moved, removed, alone, braced, do_body, choice}
use Rattle.syntax_statements.specs.Parse.{repetition, until, iteration, traversal, selection}
use Rattle.syntax_statements.specs.Parse.{statement_over, inside, braces, bodies, statement, ended}
use Rattle.syntax_statements.proofs.KnownValues.{case_Ranges}
use Rattle.syntax_statements.proofs.Alternatives.{statement_of}
use Rattle.syntax_statements.proofs.Complete.{expression_statement}

-- ---- the token with which what is read begins

pub deep_first_S : {n : ℕ} {ts u : List Lexeme} → DeepS n ts u → begins_statement (head ts) ≡ true
unfolding begins_statement
deep_first_S deep_s_brace = refl
deep_first_S (deep_s_block x) = refl
deep_first_S (deep_s_print x) = refl
deep_first_S (deep_s_print_ret x) = refl
deep_first_S deep_s_if = refl
deep_first_S (deep_s_if_condition x) = refl
deep_first_S (deep_s_if_then a x) = refl
deep_first_S (deep_s_if_else a b x) = refl
deep_first_S deep_s_while = refl
deep_first_S (deep_s_while_condition x) = refl
deep_first_S (deep_s_while_do a x) = refl
deep_first_S (deep_s_do_begins b) = refl
deep_first_S (deep_s_do x) = refl
deep_first_S (deep_s_until a) = refl
deep_first_S (deep_s_until_condition a x) = refl
deep_first_S deep_s_for = refl
deep_first_S (deep_s_for_parts x) = refl
deep_first_S (deep_s_for_body a f b c g x) = refl
deep_first_S deep_s_objectloop = refl
deep_first_S (deep_s_objectloop_head x) = refl
deep_first_S (deep_s_objectloop_body a x) = refl
deep_first_S deep_s_switch = refl
deep_first_S (deep_s_switch_value x) = refl
deep_first_S (deep_s_switch_brace a) = refl
deep_first_S (deep_s_switch_cases a x) = refl
deep_first_S (deep_s_return x) = refl
deep_first_S (deep_s_give x) = refl
deep_first_S (deep_s_move x) = refl
deep_first_S (deep_s_move_to a x) = refl
deep_first_S (deep_s_remove x) = refl
deep_first_S {ts = ts} (deep_s_effect x) = expression_statement (head ts) (deep_starts_E x)

pub some_statement : (ts : List Lexeme) → begins_statement (head ts) ≡ true → 0 < length ts
unfolding begins_statement
some_statement [] e = absurd cc
some_statement (t ∷ ts) e = omega arith

pub some_in_case : (ts : List Lexeme) → begins_in_case ts ≡ true → 0 < length ts
unfolding begins_statement
some_in_case [] e = absurd cc
some_in_case (t ∷ ts) e = omega arith

not_both : (a : Bool) → (a && not true) ≡ false
not_both true = refl
not_both false = refl

-- a case, or `default`, ends the statements of a case
pub deep_case_ends : {n : ℕ} {ts u : List Lexeme} → DeepCases n ts u → begins_in_case ts ≡ false
unfolding begins_statement
deep_case_ends {ts = ts} (deep_cases_first g x) = rw (case_Ranges g) (not_both (begins_statement (head ts)))
deep_case_ends {ts = ts} (deep_cases_next g a x) = rw (case_Ranges g) (not_both (begins_statement (head ts)))
deep_case_ends (deep_cases_default x) = refl

-- ---- one nesting further in

module _ {n : ℕ} {ts u : List Lexeme} where
  pub statement_in : (d : ℕ) → ((k : ℕ) → Deepened (statement k ts) k n ts u) → Deepened (inside d ts) d (suc n) ts u
  unfolding inside statement
  statement_in zero h = record {
    fewer = (h 0).fewer;
    stops = λ lt. record { left = length ts; stops = refl; enough = (h 0).fewer };
  }
  statement_in (suc d) h = record { fewer = (h d).fewer; stops = λ lt. (h d).stops (omega arith) }

  pub braces_in : (left d : ℕ) → length ts ≤ left
      → ((k : ℕ) → Deepened (repeated begins_statement (inside k) (length ts) ts) k n ts u)
      → Deepened (braces d left ts) d (suc n) ts u
  unfolding braces
  braces_in left zero le h = record {
    fewer = (h 0).fewer;
    stops = λ lt. record { left = left; stops = refl; enough = omega (arith, le, (h 0).fewer) };
  }
  braces_in left (suc d) le h = record { fewer = (h d).fewer; stops = λ lt. (h d).stops (omega arith) }

  pub bodies_in : (d : ℕ) → Deepened (as_long begins_in_case (inside d) (length ts) ts) d n ts u
      → Deepened (bodies (suc d) ts) (suc d) (suc n) ts u
  unfolding bodies
  bodies_in d h = record { fewer = h.fewer; stops = λ lt. h.stops (omega arith) }

  pub heading_inside : (left d : ℕ) → length ts ≤ left → ((k : ℕ) → Deepened (heading k ts) k n ts u)
      → Deepened (heading_in d left ts) d (suc n) ts u
  heading_inside left zero le h = record {
    fewer = (h 0).fewer;
    stops = λ lt. record { left = left; stops = refl; enough = omega (arith, le, (h 0).fewer) };
  }
  heading_inside left (suc d) le h = record { fewer = (h d).fewer; stops = λ lt. (h d).stops (omega arith) }

  pub loop_inside : (left d : ℕ) → length ts ≤ left → ((k : ℕ) → Deepened (looped k ts) k n ts u)
      → Deepened (looped_in d left ts) d (suc n) ts u
  loop_inside left zero le h = record {
    fewer = (h 0).fewer;
    stops = λ lt. record { left = left; stops = refl; enough = omega (arith, le, (h 0).fewer) };
  }
  loop_inside left (suc d) le h = record { fewer = (h d).fewer; stops = λ lt. (h d).stops (omega arith) }

-- ---- the tokens that open a nesting

module _ (d : ℕ) (m : List Lexeme) where
  pub open_brace : (p : Position) → Deepened (statement d (sign s.OpenBrace p ∷ m)) d 1 (sign s.OpenBrace p ∷ m)
      (sign s.OpenBrace p ∷ m)
  unfolding statement statement_over braced braces
  open_brace p = deep_opened (λ k. statement k (sign s.OpenBrace p ∷ m)) d (omega arith) refl

  pub open_condition : (q : Position) → Deepened (enclosed_condition d (sign s.OpenParenthesis q ∷ m)) d 1
      (sign s.OpenParenthesis q ∷ m) (sign s.OpenParenthesis q ∷ m)
  unfolding enclosed_condition expect nested
  open_condition q = deep_opened (λ k. enclosed_condition k (sign s.OpenParenthesis q ∷ m)) d (omega arith) refl

  pub open_heading : (q : Position) → Deepened (enclosed_heading d (sign s.OpenParenthesis q ∷ m)) d 1
      (sign s.OpenParenthesis q ∷ m) (sign s.OpenParenthesis q ∷ m)
  unfolding enclosed_heading expect
  open_heading q = deep_opened (λ k. enclosed_heading k (sign s.OpenParenthesis q ∷ m)) d (omega arith) refl

  pub open_loop : (q : Position) → Deepened (enclosed_loop d (sign s.OpenParenthesis q ∷ m)) d 1
      (sign s.OpenParenthesis q ∷ m) (sign s.OpenParenthesis q ∷ m)
  unfolding enclosed_loop expect
  open_loop q = deep_opened (λ k. enclosed_loop k (sign s.OpenParenthesis q ∷ m)) d (omega arith) refl

  pub open_inside : Deepened (inside d m) d 1 m m
  unfolding inside
  open_inside = deep_opened (λ k. inside k m) d (omega arith) refl

-- ---- one step for each place in an alternative

module _ (d : ℕ) {n : ℕ} {m u : List Lexeme} where
  pub step_block : (p : Position) → Deepened (braces d (suc (length m)) m) d n m u
      → Deepened (statement d (sign s.OpenBrace p ∷ m)) d n (sign s.OpenBrace p ∷ m) u
  unfolding statement statement_over braced
  step_block p h = deep_same refl (omega arith) (deep_in _ h)

  pub step_print : (p : Position) → Deepened (items d m) d n m u
      → Deepened (statement d (reserved w.Print p ∷ m)) d n (reserved w.Print p ∷ m) u
  unfolding statement statement_over printed
  step_print p h = deep_same refl (omega arith) (deep_in _ h)

  pub step_print_ret : (p : Position) → Deepened (items d m) d n m u
      → Deepened (statement d (reserved w.PrintRet p ∷ m)) d n (reserved w.PrintRet p ∷ m) u
  unfolding statement statement_over printed
  step_print_ret p h = deep_same refl (omega arith) (deep_in _ h)

  pub condition_in : (q : Position) → Deepened (nested d whole (suc (length m)) m) d n m u
      → Deepened (enclosed_condition d (sign s.OpenParenthesis q ∷ m)) d n (sign s.OpenParenthesis q ∷ m) u
  unfolding enclosed_condition expect
  condition_in q h = deep_same refl (omega arith) (deep_in _ h)

  pub enclosed_heading_in : (q : Position) → Deepened (heading_in d (suc (length m)) m) d n m u
      → Deepened (enclosed_heading d (sign s.OpenParenthesis q ∷ m)) d n (sign s.OpenParenthesis q ∷ m) u
  unfolding enclosed_heading expect
  enclosed_heading_in q h = deep_same refl (omega arith) h

  pub enclosed_loop_in : (q : Position) → Deepened (looped_in d (suc (length m)) m) d n m u
      → Deepened (enclosed_loop d (sign s.OpenParenthesis q ∷ m)) d n (sign s.OpenParenthesis q ∷ m) u
  unfolding enclosed_loop expect
  enclosed_loop_in q h = deep_same refl (omega arith) h

  pub loop_head : (o : Position) (x : List ℕ) → Deepened (condition (nested d) (name x o ∷ m)) d n (name x o ∷ m) u
      → Deepened (looped d (name x o ∷ m)) d n (name x o ∷ m) u
  unfolding looped expect_name
  loop_head o x h = deep_in _ h

  pub step_return : (p : Position) → is_sign s.Semicolon (head m) ≡ false → Deepened (expression (nested d) m) d n m u
      → Deepened (statement d (reserved w.Return p ∷ m)) d n (reserved w.Return p ∷ m) u
  unfolding statement statement_over returned
  step_return p e h = deep_same {S = expression (nested d) m >>= λ x. ended (return_value p x.0) x.1} (rw e refl)
      (omega arith) (deep_in _ h)

  pub step_give : (p : Position) → Deepened (expression (nested d) m) d n m u
      → Deepened (statement d (reserved w.Give p ∷ m)) d n (reserved w.Give p ∷ m) u
  unfolding statement statement_over given
  step_give p h = deep_same refl (omega arith) (deep_in _ h)

  pub step_move : (p : Position) → Deepened (expression (nested d) m) d n m u
      → Deepened (statement d (reserved w.Move p ∷ m)) d n (reserved w.Move p ∷ m) u
  unfolding statement statement_over moved
  step_move p h = deep_same refl (omega arith) (deep_in _ h)

  pub step_remove : (p : Position) → Deepened (expression (nested d) m) d n m u
      → Deepened (statement d (reserved w.Remove p ∷ m)) d n (reserved w.Remove p ∷ m) u
  unfolding statement statement_over removed
  step_remove p h = deep_same refl (omega arith) (deep_in _ h)

  pub step_alone : begins_expression (head m) ≡ true → Deepened (expression (nested d) m) d n m u
      → Deepened (statement d m) d n m u
  unfolding alone
  step_alone e h = deep_same {S = alone d m} (statement_of d m e) (omega arith) (deep_in _ h)

  pub step_if : (p : Position) → Deepened (enclosed_condition d m) d n m u
      → Deepened (statement d (reserved w.If p ∷ m)) d n (reserved w.If p ∷ m) u
  unfolding statement statement_over choice
  step_if p h = deep_same refl (omega arith) (deep_in _ h)

  pub step_while : (p : Position) → Deepened (enclosed_condition d m) d n m u
      → Deepened (statement d (reserved w.While p ∷ m)) d n (reserved w.While p ∷ m) u
  unfolding statement statement_over repetition
  step_while p h = deep_same refl (omega arith) (deep_in _ h)

  pub step_for : (p : Position) → Deepened (enclosed_heading d m) d n m u
      → Deepened (statement d (reserved w.For p ∷ m)) d n (reserved w.For p ∷ m) u
  unfolding statement statement_over iteration
  step_for p h = deep_same refl (omega arith) (deep_in _ h)

  pub step_objectloop : (p : Position) → Deepened (enclosed_loop d m) d n m u
      → Deepened (statement d (reserved w.Objectloop p ∷ m)) d n (reserved w.Objectloop p ∷ m) u
  unfolding statement statement_over traversal
  step_objectloop p h = deep_same refl (omega arith) (deep_in _ h)

  pub step_switch : (p : Position) → Deepened (enclosed_condition d m) d n m u
      → Deepened (statement d (reserved w.Switch p ∷ m)) d n (reserved w.Switch p ∷ m) u
  unfolding statement statement_over selection
  step_switch p h = deep_same refl (omega arith) (deep_in _ h)

  pub do_in : (p : Position) → begins_statement (head m) ≡ true → Deepened (inside d m) d n m u
      → Deepened (statement d (reserved w.Do p ∷ m)) d n (reserved w.Do p ∷ m) u
  unfolding statement statement_over until do_body
  do_in p e h =
      let body : Deepened (do_body (inside d) m) d n m u = deep_same (rw e refl) (omega arith) h in
      deep_same refl (omega arith) (deep_in _ body)

module _ (d : ℕ) {n l : ℕ} {m k u : List Lexeme} (p : Position) where
  pub step_move_to : {o : Position} {a : ExpressionTree} → Limited (expression (nested d) m) d l a (reserved w.To o ∷ k)
      → length k < length m → Deepened (expression (nested d) k) d n k u
      → Deepened (statement d (reserved w.Move p ∷ m)) d n (reserved w.Move p ∷ m) u
  unfolding statement statement_over moved expect_word
  step_move_to a less h = deep_same {us = m} refl (omega arith)
      (deep_after {us = k} _ a (omega (arith, less)) (omega arith) (deep_in _ h))

  module _ {c : ExpressionTree} (t : Limited (enclosed_condition d m) d l c k) (less : length k < length m) where
    pub step_if_then : Deepened (inside d k) d n k u
        → Deepened (statement d (reserved w.If p ∷ m)) d n (reserved w.If p ∷ m) u
    unfolding statement statement_over choice
    step_if_then h = deep_same {us = m} refl (omega arith)
        (deep_after {us = k} _ t (omega (arith, less)) (omega arith) (deep_in _ h))

    pub step_if_else : {j : ℕ} {x : StatementTree} {e : Position} {q : List Lexeme}
        → Limited (inside d k) d j x (reserved w.Else e ∷ q) → length q < length k → Deepened (inside d q) d n q u
        → Deepened (statement d (reserved w.If p ∷ m)) d n (reserved w.If p ∷ m) u
    unfolding statement statement_over choice
    step_if_else {q = q} a fewer h = deep_same {us = m} refl (omega arith)
        (deep_after {us = k} _ t (omega (arith, less)) (omega arith)
        (deep_after {us = q} _ a (omega (arith, fewer)) (omega arith) (deep_in _ h)))

    pub step_while_do : Deepened (inside d k) d n k u
        → Deepened (statement d (reserved w.While p ∷ m)) d n (reserved w.While p ∷ m) u
    unfolding statement statement_over repetition
    step_while_do h = deep_same {us = m} refl (omega arith)
        (deep_after {us = k} _ t (omega (arith, less)) (omega arith) (deep_in _ h))

  pub step_until : {x : StatementTree} {e : Position} → Limited (do_body (inside d) m) d l x (reserved w.Until e ∷ k)
      → length k < length m → Deepened (enclosed_condition d k) d n k u
      → Deepened (statement d (reserved w.Do p ∷ m)) d n (reserved w.Do p ∷ m) u
  unfolding statement statement_over until expect_word
  step_until a less h = deep_same {us = m} refl (omega arith)
      (deep_after {us = k} _ a (omega (arith, less)) (omega arith) (deep_in _ h))

  pub step_for_body : {x : HeadingTree} → Limited (enclosed_heading d m) d l x k → length k < length m
      → Deepened (inside d k) d n k u → Deepened (statement d (reserved w.For p ∷ m)) d n (reserved w.For p ∷ m) u
  unfolding statement statement_over iteration
  step_for_body t less h = deep_same {us = m} refl (omega arith)
      (deep_after {us = k} _ t (omega (arith, less)) (omega arith) (deep_in _ h))

  pub step_objectloop_body : {x : LoopTree} → Limited (enclosed_loop d m) d l x k → length k < length m
      → Deepened (inside d k) d n k u
      → Deepened (statement d (reserved w.Objectloop p ∷ m)) d n (reserved w.Objectloop p ∷ m) u
  unfolding statement statement_over traversal
  step_objectloop_body t less h = deep_same {us = m} refl (omega arith)
      (deep_after {us = k} _ t (omega (arith, less)) (omega arith) (deep_in _ h))
