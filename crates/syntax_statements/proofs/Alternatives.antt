-- How each alternative of a statement is read, from how its parts are read.
use Rattle.std.proofs.Common.{◌≡◌, ℕ, max, true, false, List, [], ◌∷◌, Option, Some, None, Ok, refl, ap, suc, arith}
use Rattle.std.proofs.Common.{length, ◌≤◌}
use Rattle.syntax_lexer.specs.declared.token.Position.{Position}
use Rattle.syntax_lexer.specs.declared.token.Sign.{Sign}
use Rattle.syntax_lexer.specs.declared.token.Sign.TheVariants as s
use Rattle.syntax_lexer.specs.declared.token.Word.TheVariants as w
use Rattle.syntax_lexer.specs.Token.{Lexeme, name, number, text, character, dictionary_word, reserved, sign}
use Rattle.syntax_lexer.specs.Token.{position_of}
use Rattle.syntax_trees.specs.Tree.{ExpressionTree}
use Rattle.syntax_trees.specs.Parse.{◌>>=◌, head, is_sign, is_word, expect, expect_word}
use Rattle.syntax_expressions.specs.Operators.{begins_expression}
use Rattle.syntax_expressions.specs.PartParse.{expect_name}
use Rattle.syntax_expressions.specs.Parse.{whole, nested, expression}
use Rattle.syntax_expressions.proofs.Limited.{Limited, bound, then, at_once, same}
use Rattle.syntax_statements.specs.PartTree.{RangeTree, PrintItemTree, FlagTree, LoopTree}
use Rattle.syntax_statements.specs.PartViews.{HeadingTree}
use Rattle.syntax_statements.specs.PartGrammar.{has_effect, effect_or_none}
use Rattle.syntax_statements.specs.PartParse.{ranges, items, enclosed_condition, optional, optional_effect, heading}
use Rattle.syntax_statements.specs.PartParse.{heading_in, enclosed_heading, flags, looped_in, enclosed_loop}
use Rattle.syntax_statements.specs.Tree.{StatementTree, StatementTrees, CaseTrees, empty, block, text_alone, print}
use Rattle.syntax_statements.specs.Tree.{print_return, new_line, if_then, if_else, while_do, do_until, for_loop}
use Rattle.syntax_statements.specs.Tree.{switch_on, break_at, continue_at, return_alone, return_value, return_true}
use Rattle.syntax_statements.specs.Tree.{return_false, quit, read_line, effect, give, move, remove, loop_over}
use Rattle.syntax_statements.specs.Grammar.{else_follows}
use Rattle.syntax_statements.specs.Nesting.{begins_statement}
use Rattle.syntax_statements.specs.Parse.{ended, line_read, printed, returned, alone, choice, repetition, do_body}
use Rattle.syntax_statements.specs.Parse.{until, iteration, one_case, cases, otherwise, selection, braced}
use Rattle.syntax_statements.specs.Parse.{statement_over, inside, braces, bodies, statement, given, moved, removed}
use Rattle.syntax_statements.specs.Parse.{traversal}
use Rattle.syntax_statements.proofs.Deepest.{step_ended, listed, listed_back, case_list, default_list, cases_back}

module _ (d : ℕ) where
  pub step_empty : (p : Position) (r : List Lexeme) → Limited (statement d (sign s.Semicolon p ∷ r)) d 0 empty r
  unfolding statement statement_over
  step_empty p r = at_once refl

  pub step_block : {n : ℕ} (xs : StatementTrees) (p q : Position) (m r : List Lexeme)
      → Limited (braces d (suc (length m)) m) d n (listed xs) (sign s.CloseBrace q ∷ r)
      → Limited (statement d (sign s.OpenBrace p ∷ m)) d n (block xs) r
  unfolding statement statement_over braced expect
  step_block xs p q m r a = then _ a (omega arith) (ap (λ ys. Ok (block ys, r)) (listed_back xs))

  pub step_text : (bytes : List ℕ) (p q : Position) (r : List Lexeme)
      → Limited (statement d (text bytes p ∷ sign s.Semicolon q ∷ r)) d 0 (text_alone bytes) r
  unfolding statement statement_over
  step_text bytes p q r = at_once (step_ended (text_alone bytes) q r)

  pub step_print : {n : ℕ} (is : List PrintItemTree) (p q : Position) (m r : List Lexeme)
      → Limited (items d m) d n is (sign s.Semicolon q ∷ r)
      → Limited (statement d (reserved w.Print p ∷ m)) d n (print is) r
  unfolding statement statement_over printed
  step_print is p q m r a = then _ a (omega arith) (step_ended (print is) q r)

  pub step_print_ret : {n : ℕ} (is : List PrintItemTree) (p q : Position) (m r : List Lexeme)
      → Limited (items d m) d n is (sign s.Semicolon q ∷ r)
      → Limited (statement d (reserved w.PrintRet p ∷ m)) d n (print_return is) r
  unfolding statement statement_over printed
  step_print_ret is p q m r a = then _ a (omega arith) (step_ended (print_return is) q r)

  pub step_new_line : (p q : Position) (r : List Lexeme)
      → Limited (statement d (reserved w.NewLine p ∷ sign s.Semicolon q ∷ r)) d 0 new_line r
  unfolding statement statement_over
  step_new_line p q r = at_once (step_ended new_line q r)

  pub step_rtrue : (p q : Position) (r : List Lexeme)
      → Limited (statement d (reserved w.Rtrue p ∷ sign s.Semicolon q ∷ r)) d 0 return_true r
  unfolding statement statement_over
  step_rtrue p q r = at_once (step_ended return_true q r)

  pub step_rfalse : (p q : Position) (r : List Lexeme)
      → Limited (statement d (reserved w.Rfalse p ∷ sign s.Semicolon q ∷ r)) d 0 return_false r
  unfolding statement statement_over
  step_rfalse p q r = at_once (step_ended return_false q r)

  pub step_quit : (p q : Position) (r : List Lexeme)
      → Limited (statement d (reserved w.Quit p ∷ sign s.Semicolon q ∷ r)) d 0 quit r
  unfolding statement statement_over
  step_quit p q r = at_once (step_ended quit q r)

  pub step_read : (p q o j : Position) (a b : List ℕ) (r : List Lexeme)
      → Limited (statement d (reserved w.Read p ∷ name a q ∷ name b o ∷ sign s.Semicolon j ∷ r)) d 0
      (read_line (record { text = a; position = q }) (record { text = b; position = o })) r
  unfolding statement statement_over line_read expect_name
  step_read p q o j a b r = at_once
      (step_ended (read_line (record { text = a; position = q }) (record { text = b; position = o })) j r)

  pub step_return : (p q : Position) (r : List Lexeme)
      → Limited (statement d (reserved w.Return p ∷ sign s.Semicolon q ∷ r)) d 0 return_alone r
  unfolding statement statement_over returned
  step_return p q r = at_once refl

  pub step_return_value : {n : ℕ} {e : ExpressionTree} (p q : Position) (m r : List Lexeme)
      → is_sign s.Semicolon (head m) ≡ false → Limited (expression (nested d) m) d n e (sign s.Semicolon q ∷ r)
      → Limited (statement d (reserved w.Return p ∷ m)) d n (return_value p e) r
  unfolding statement statement_over returned
  step_return_value {e = e} p q m r h a = same {S = expression (nested d) m >>= λ x. ended (return_value p x.0) x.1}
      (rw h refl) (then _ a (omega arith) (step_ended (return_value p e) q r))

  pub step_condition : {n : ℕ} {c : ExpressionTree} (q o : Position) (m k : List Lexeme)
      → Limited (nested d whole (suc (length m)) m) d n c (sign s.CloseParenthesis o ∷ k)
      → Limited (enclosed_condition d (sign s.OpenParenthesis q ∷ m)) d n c k
  unfolding enclosed_condition expect
  step_condition q o m k a = then _ a (omega arith) refl

  pub step_if : {n l : ℕ} {c : ExpressionTree} {x : StatementTree} {k r : List Lexeme} (p : Position) (ts : List Lexeme)
      → Limited (enclosed_condition d ts) d n c k → length r ≤ length k → Limited (inside d k) d l x r
      → else_follows r ≡ false
      → Limited (statement d (reserved w.If p ∷ ts)) d (max n l) (if_then p c x) r
  unfolding statement statement_over choice
  step_if p ts t short a e = bound _ t short (then _ a (omega arith) (rw e refl))

  pub step_if_else : {n l j : ℕ} {c : ExpressionTree} {x y : StatementTree} {k r : List Lexeme} (p e : Position)
      (ts q : List Lexeme) → Limited (enclosed_condition d ts) d n c k → length q ≤ length k → length r ≤ length q
      → Limited (inside d k) d l x (reserved w.Else e ∷ q) → Limited (inside d q) d j y r
      → Limited (statement d (reserved w.If p ∷ ts)) d (max n (max l j)) (if_else p c x y) r
  unfolding statement statement_over choice
  step_if_else p e ts q t first second a b = bound _ t (omega (arith, first, second))
      (bound _ a (omega (arith, second)) (then _ b (omega arith) refl))

  pub step_while : {n l : ℕ} {c : ExpressionTree} {x : StatementTree} {k r : List Lexeme} (p : Position)
      (ts : List Lexeme) → Limited (enclosed_condition d ts) d n c k → length r ≤ length k
      → Limited (inside d k) d l x r
      → Limited (statement d (reserved w.While p ∷ ts)) d (max n l) (while_do p c x) r
  unfolding statement statement_over repetition
  step_while p ts t short a = bound _ t short (then _ a (omega arith) refl)

  pub step_optional_none : (z : Sign) (r : List Lexeme) → is_sign z (head r) ≡ true
      → Limited (optional d z r) d 0 None r
  unfolding optional
  step_optional_none z r e = at_once (rw e refl)

  pub step_optional_some : {n : ℕ} {e : ExpressionTree} {r : List Lexeme} (z : Sign) (ts : List Lexeme)
      → is_sign z (head ts) ≡ false → Limited (expression (nested d) ts) d n e r
      → Limited (optional d z ts) d n (Some e) r
  unfolding optional
  step_optional_some z ts e a = same {S = expression (nested d) ts >>= λ x. Ok (Some x.0, x.1)} (rw e refl)
      (then _ a (omega arith) refl)

  pub step_effect : {n : ℕ} {e : Option ExpressionTree} {r : List Lexeme} (z : Sign) (ts : List Lexeme)
      → effect_or_none e ≡ true → Limited (optional d z ts) d n e r → Limited (optional_effect d z ts) d n e r
  unfolding optional_effect
  step_effect z ts f a = then _ a (omega arith) (rw f refl)

  pub step_heading : {n l j : ℕ} {a b c : Option ExpressionTree} {k m r : List Lexeme} (i q o : Position)
      (ts : List Lexeme) → length m ≤ length k → length r ≤ length m
      → Limited (optional_effect d s.Colon ts) d n a (sign s.Colon i ∷ k)
      → Limited (optional d s.Colon k) d l b (sign s.Colon q ∷ m)
      → Limited (optional_effect d s.CloseParenthesis m) d j c (sign s.CloseParenthesis o ∷ r)
      → Limited (heading d ts) d (max n (max l j)) (record { before = a; test = b; after = c }) r
  unfolding heading expect
  step_heading i q o ts first second a b c = bound _ a (omega (arith, first, second))
      (bound _ b (omega (arith, second)) (then _ c (omega arith) refl))

  pub step_enclosed : {n : ℕ} {h : HeadingTree} {r : List Lexeme} (q : Position) (m : List Lexeme)
      → Limited (heading_in d (suc (length m)) m) d n h r
      → Limited (enclosed_heading d (sign s.OpenParenthesis q ∷ m)) d n h r
  unfolding enclosed_heading expect
  step_enclosed q m a = a

  pub step_for : {n l : ℕ} {a b c : Option ExpressionTree} {x : StatementTree} {k r : List Lexeme} (p : Position)
      (ts : List Lexeme) → Limited (enclosed_heading d ts) d n (record { before = a; test = b; after = c }) k
      → length r ≤ length k → Limited (inside d k) d l x r
      → Limited (statement d (reserved w.For p ∷ ts)) d (max n l) (for_loop p a b c x) r
  unfolding statement statement_over iteration
  step_for p ts t short a = bound _ t short (then _ a (omega arith) refl)

  pub step_enclosed_loop : {n : ℕ} {l : LoopTree} {r : List Lexeme} (q : Position) (m : List Lexeme)
      → Limited (looped_in d (suc (length m)) m) d n l r
      → Limited (enclosed_loop d (sign s.OpenParenthesis q ∷ m)) d n l r
  unfolding enclosed_loop expect
  step_enclosed_loop q m a = a

  pub step_objectloop : {n j : ℕ} {l : LoopTree} {x : StatementTree} {k r : List Lexeme} (p : Position)
      (ts : List Lexeme)
      → Limited (enclosed_loop d ts) d n l k → length r ≤ length k → Limited (inside d k) d j x r
      → Limited (statement d (reserved w.Objectloop p ∷ ts)) d (max n j) (loop_over p l x) r
  unfolding statement statement_over traversal
  step_objectloop p ts t short a = bound _ t short (then _ a (omega arith) refl)

  pub step_entered : {n : ℕ} {x : StatementTree} {r : List Lexeme} (ts : List Lexeme)
      → begins_statement (head ts) ≡ true
      → Limited (inside d ts) d n x r → Limited (do_body (inside d) ts) d n x r
  unfolding do_body
  step_entered ts e a = same {S = inside d ts} (rw e refl) a

  pub step_do : {n l : ℕ} {x : StatementTree} {c : ExpressionTree} (p u q : Position) (ts m r : List Lexeme)
      → length r ≤ length m
      → Limited (do_body (inside d) ts) d n x (reserved w.Until u ∷ m)
      → Limited (enclosed_condition d m) d l c (sign s.Semicolon q ∷ r)
      → Limited (statement d (reserved w.Do p ∷ ts)) d (max n l) (do_until p x c) r
  unfolding statement statement_over until expect_word
  step_do {x = x} {c = c} p u q ts m r short a b = bound _ a (omega (arith, short))
      (then _ b (omega arith) (step_ended (do_until p x c) q r))

  pub step_break : (p q : Position) (r : List Lexeme)
      → Limited (statement d (reserved w.Break p ∷ sign s.Semicolon q ∷ r)) d 0 (break_at p) r
  unfolding statement statement_over
  step_break p q r = at_once (step_ended (break_at p) q r)

  pub step_continue : (p q : Position) (r : List Lexeme)
      → Limited (statement d (reserved w.Continue p ∷ sign s.Semicolon q ∷ r)) d 0 (continue_at p) r
  unfolding statement statement_over
  step_continue p q r = at_once (step_ended (continue_at p) q r)

  pub step_case : {n : ℕ} {r : List Lexeme} (gs : List RangeTree) (xs : StatementTrees) (q : Position)
      (ts m : List Lexeme) → ranges ts ≡ Ok (gs, sign s.Colon q ∷ m) → Limited (bodies d m) d n (listed xs) r
      → Limited (one_case (bodies d) ts) d n (gs, xs) r
  unfolding one_case expect
  step_case {r = r} gs xs q ts m e a = rw e (then _ a (omega arith) (ap (λ ys. Ok ((gs, ys), r)) (listed_back xs)))

  pub step_no_default : (r : List Lexeme) → is_word w.Default (head r) ≡ false
      → Limited (otherwise (braces d) r) d 0 None r
  unfolding otherwise
  step_no_default r e = at_once (rw e refl)

  pub step_default : {n : ℕ} {xs : List StatementTree} {r : List Lexeme} (p q : Position) (m : List Lexeme)
      → Limited (braces d (suc (length m)) m) d n xs r
      → Limited (otherwise (braces d) (reserved w.Default p ∷ sign s.Colon q ∷ m)) d n (Some xs) r
  unfolding otherwise expect
  step_default p q m a = then _ a (omega arith) refl

  pub step_switch : {n l j : ℕ} {e : ExpressionTree} {k m : List Lexeme} (p i q : Position) (cs : CaseTrees)
      (ts r : List Lexeme) → length m ≤ length k → length r ≤ length m
      → Limited (enclosed_condition d ts) d n e (sign s.OpenBrace i ∷ k)
      → Limited (cases (bodies d) k) d l (case_list cs) m
      → Limited (otherwise (braces d) m) d j (default_list cs) (sign s.CloseBrace q ∷ r)
      → Limited (statement d (reserved w.Switch p ∷ ts)) d (max n (max l j)) (switch_on p e cs) r
  unfolding statement statement_over selection expect
  step_switch {e = e} p i q cs ts r first second t a b = bound _ t (omega (arith, first, second))
      (bound _ a (omega (arith, second)) (then _ b (omega arith) (ap (λ c. Ok (switch_on p e c, r)) (cases_back cs))))

  pub step_give : {n l : ℕ} {e : ExpressionTree} {xs : List FlagTree} {k : List Lexeme} (p q : Position)
      (m r : List Lexeme) → length r ≤ length k → Limited (expression (nested d) m) d n e k
      → Limited (flags k) d l xs (sign s.Semicolon q ∷ r)
      → Limited (statement d (reserved w.Give p ∷ m)) d (max n l) (give p e xs) r
  unfolding statement statement_over given
  step_give {e = e} {xs = xs} p q m r short a b = bound _ a short
      (then _ b (omega arith) (step_ended (give p e xs) q r))

  pub step_move : {n l : ℕ} {x y : ExpressionTree} (p o q : Position) (m k r : List Lexeme) → length r ≤ length k
      → Limited (expression (nested d) m) d n x (reserved w.To o ∷ k)
      → Limited (expression (nested d) k) d l y (sign s.Semicolon q ∷ r)
      → Limited (statement d (reserved w.Move p ∷ m)) d (max n l) (move p x y) r
  unfolding statement statement_over moved expect_word
  step_move {x = x} {y = y} p o q m k r short a b = bound _ a (omega (arith, short))
      (then _ b (omega arith) (step_ended (move p x y) q r))

  pub step_remove : {n : ℕ} {e : ExpressionTree} (p q : Position) (m r : List Lexeme)
      → Limited (expression (nested d) m) d n e (sign s.Semicolon q ∷ r)
      → Limited (statement d (reserved w.Remove p ∷ m)) d n (remove p e) r
  unfolding statement statement_over removed
  step_remove {e = e} p q m r a = then _ a (omega arith) (step_ended (remove p e) q r)

  -- where no nesting may be opened, the parenthesis of a `switch` is too deep
  pub step_switch_none : {n : ℕ} {x : StatementTree} (p q : Position) (m r : List Lexeme) → d ≡ 0
      → length r ≤ length m
      → Limited (statement d (reserved w.Switch p ∷ sign s.OpenParenthesis q ∷ m)) d (suc n) x r
  unfolding statement statement_over selection enclosed_condition expect nested
  step_switch_none p q m r none short = record {
    within = λ le. absurd (omega (arith, none));
    beyond = λ lt. record { left = suc (length m); stops = rw none refl; enough = omega (arith, short) };
  }

  -- what begins an expression begins no other statement
  pub statement_of : (ts : List Lexeme) → begins_expression (head ts) ≡ true → statement d ts ≡ alone d ts
  unfolding statement statement_over
  statement_of [] e = absurd cc
  statement_of (name f p ∷ ts) e = refl
  statement_of (number n p ∷ ts) e = refl
  statement_of (character c p ∷ ts) e = refl
  statement_of (dictionary_word f p ∷ ts) e = refl
  statement_of (reserved w.True p ∷ ts) e = refl
  statement_of (reserved w.False p ∷ ts) e = refl
  statement_of (reserved w.Nothing p ∷ ts) e = refl
  statement_of (reserved w.Parent p ∷ ts) e = refl
  statement_of (reserved w.Child p ∷ ts) e = refl
  statement_of (reserved w.Sibling p ∷ ts) e = refl
  statement_of (sign s.OpenParenthesis p ∷ ts) e = refl
  statement_of (sign s.Minus p ∷ ts) e = refl
  statement_of (sign s.Tilde p ∷ ts) e = refl
  statement_of (sign s.Not p ∷ ts) e = refl
  statement_of (sign s.Increment p ∷ ts) e = refl
  statement_of (sign s.Decrement p ∷ ts) e = refl
  statement_of (t ∷ ts) e = absurd cc

  pub step_alone : {n : ℕ} {e : ExpressionTree} (q : Position) (ts r : List Lexeme) → has_effect e ≡ true
      → Limited (expression (nested d) ts) d n e (sign s.Semicolon q ∷ r)
      → Limited (alone d ts) d n (effect (position_of (head ts)) e) r
  unfolding alone
  step_alone {e = e} q ts r f a = then _ a (omega arith) (rw f (step_ended (effect (position_of (head ts)) e) q r))
