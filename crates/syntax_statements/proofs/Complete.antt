-- What has a tree is read as that tree, unless it is nested too deep.
use Rattle.std.proofs.Common.{◌≡◌, ◌&&◌, not, ℕ, zero, suc, ◌≤◌, Bool, true, false, List, ◌∷◌, length, refl, arith}
use Rattle.syntax_lexer.specs.declared.token.Position.{Position}
use Rattle.syntax_lexer.specs.declared.token.Sign.TheVariants as s
use Rattle.syntax_lexer.specs.declared.token.Word.TheVariants as w
use Rattle.syntax_lexer.specs.Token.{Lexeme, name, number, character, dictionary_word, reserved, sign}
use Rattle.syntax_trees.specs.Parse.{head, is_sign, as_long, repeated}
use Rattle.syntax_expressions.specs.Grammar.{nesting}
use Rattle.syntax_expressions.specs.Operators.{begins_expression}
use Rattle.syntax_expressions.proofs.Begins.{first_E}
use Rattle.syntax_expressions.proofs.Limited.{Limited, same, in_whole}
use Rattle.syntax_expressions.proofs.Short.{short_E}
use Rattle.syntax_expressions.proofs.Complete.{at_E}
use Rattle.syntax_statements.specs.PartParse.{begins_value}
use Rattle.syntax_statements.specs.Tree.{StatementTree, StatementTrees, CaseTrees}
use Rattle.syntax_statements.specs.Grammar.{IsS, s_empty, s_block, s_text, s_print, s_print_ret, s_new_line, s_if}
use Rattle.syntax_statements.specs.Grammar.{s_if_else, s_while, s_do, s_for, s_switch, s_break, s_continue, s_return}
use Rattle.syntax_statements.specs.Grammar.{s_return_value, s_rtrue, s_rfalse, s_quit, s_read, s_effect, IsSs, ss_stop}
use Rattle.syntax_statements.specs.Grammar.{ss_next, IsCases, cases_none, cases_default, cases_next, statement_nesting}
use Rattle.syntax_statements.specs.Grammar.{inside_nesting, body_nesting, s_give, s_move, s_remove, s_objectloop}
use Rattle.syntax_statements.specs.Nesting.{begins_statement, begins_in_case}
use Rattle.syntax_statements.specs.Parse.{one_case, cases, otherwise, inside, braces, bodies, statement, statements}
use Rattle.syntax_statements.proofs.Follow.{short_S, short_Ss, short_Cases, short_Optional, short_Given}
use Rattle.syntax_statements.proofs.KnownValues.{short_Ranges, ranges_read, begins_Ranges, case_Ranges}
use Rattle.syntax_statements.proofs.Labels.{case_S}
use Rattle.syntax_statements.proofs.LoopHeads.{at_Loop, nests_over, short_Loop}
use Rattle.syntax_statements.proofs.ItemsRead.{at_Items}
use Rattle.syntax_statements.proofs.Deepest.{up, in_statement, in_block, listed, in_bodies, in_heading, in_loop}
use Rattle.syntax_statements.proofs.Deepest.{case_list, default_list, list_nesting, default_nesting, deepest_case}
use Rattle.syntax_statements.proofs.Alternatives.{step_empty, step_block, step_text, step_print, step_print_ret}
use Rattle.syntax_statements.proofs.Alternatives.{step_new_line, step_rtrue, step_rfalse, step_quit, step_read}
use Rattle.syntax_statements.proofs.Alternatives.{step_return, step_return_value, step_condition, step_if, step_if_else}
use Rattle.syntax_statements.proofs.Alternatives.{step_while, step_enclosed, step_for, step_enclosed_loop}
use Rattle.syntax_statements.proofs.Alternatives.{step_objectloop, step_entered, step_do, step_break, step_continue}
use Rattle.syntax_statements.proofs.Alternatives.{step_case, step_no_default, step_default, step_switch}
use Rattle.syntax_statements.proofs.Alternatives.{step_switch_none, step_give}
use Rattle.syntax_statements.proofs.Alternatives.{step_move, step_remove, statement_of, step_alone}
use Rattle.syntax_statements.proofs.PartsRead.{as_long_stop, as_long_next, repeated_stop, repeated_next, at_Given}
use Rattle.syntax_statements.proofs.PartsRead.{stops_Given, at_Heading}

pub expression_semicolon : (t : Lexeme) → begins_expression t ≡ true → is_sign s.Semicolon t ≡ false
expression_semicolon (sign s.Semicolon p) e = absurd cc
expression_semicolon _ e = refl

pub expression_statement : (t : Lexeme) → begins_expression t ≡ true → begins_statement t ≡ true
unfolding begins_statement
expression_statement (name f p) e = refl
expression_statement (number n p) e = refl
expression_statement (character c p) e = refl
expression_statement (dictionary_word f p) e = refl
expression_statement (reserved w.True p) e = refl
expression_statement (reserved w.False p) e = refl
expression_statement (reserved w.Nothing p) e = refl
expression_statement (reserved w.Parent p) e = refl
expression_statement (reserved w.Child p) e = refl
expression_statement (reserved w.Sibling p) e = refl
expression_statement (sign s.OpenParenthesis p) e = refl
expression_statement (sign s.Minus p) e = refl
expression_statement (sign s.Tilde p) e = refl
expression_statement (sign s.Not p) e = refl
expression_statement (sign s.Increment p) e = refl
expression_statement (sign s.Decrement p) e = refl
expression_statement t e = absurd cc

pub first_S : {ts r : List Lexeme} {x : StatementTree} → IsS ts x r → begins_statement (head ts) ≡ true
unfolding begins_statement
first_S s_empty = refl
first_S (s_block a) = refl
first_S s_text = refl
first_S (s_print a) = refl
first_S (s_print_ret a) = refl
first_S s_new_line = refl
first_S (s_if c a e) = refl
first_S (s_if_else c a b) = refl
first_S (s_while c a) = refl
first_S (s_do a c) = refl
first_S (s_for a f b c g x) = refl
first_S (s_objectloop a x) = refl
first_S (s_switch e a) = refl
first_S s_break = refl
first_S s_continue = refl
first_S s_return = refl
first_S (s_return_value c) = refl
first_S s_rtrue = refl
first_S s_rfalse = refl
first_S s_quit = refl
first_S s_read = refl
first_S (s_give c a) = refl
first_S (s_move a b) = refl
first_S (s_remove c) = refl
first_S {ts} (s_effect c f) = expression_statement (head ts) (first_E c)

-- ---- statements

brace_stops : (q : Position) → begins_statement (sign s.CloseBrace q) ≡ false
unfolding begins_statement
brace_stops q = refl

-- a statement of a case goes on with it; the next case, `default` and a brace end it

pub in_case : {ts r : List Lexeme} {x : StatementTree} → IsS ts x r → begins_in_case ts ≡ true
in_case a = rw (first_S a, case_S a) refl

not_both : (a : Bool) → (a && not true) ≡ false
not_both true = refl
not_both false = refl

case_ends : {ts r : List Lexeme} {cs : CaseTrees} {q : Position} → IsCases ts cs (sign s.CloseBrace q ∷ r)
    → begins_in_case ts ≡ false
unfolding begins_statement
case_ends cases_none = refl
case_ends (cases_default a) = refl
case_ends {ts} (cases_next g a b) = rw (case_Ranges g) (not_both (begins_statement (head ts)))

-- the cases of a tree are read from ts on, and its `default` after them
record Cased (d n : ℕ) (ts : List Lexeme) (cs : CaseTrees) (r : List Lexeme) : Type 0 where
  rest : List Lexeme
  fewer : length rest ≤ length ts
  last : length r ≤ length rest
  list : Limited (repeated begins_value (one_case (bodies d)) n ts) d (list_nesting cs) (case_list cs) rest
  default : Limited (otherwise (braces d) rest) d (default_nesting cs) (default_list cs) r

all_cases : {d : ℕ} {ts : List Lexeme} {cs : CaseTrees} {r : List Lexeme} (c : Cased d (length ts) ts cs r)
    → Limited (cases (bodies d) ts) d (list_nesting cs) (case_list cs) c.rest
unfolding cases
all_cases c = c.list

mutual
  pub at_S : {ts r : List Lexeme} {x : StatementTree} → IsS ts x r → (d : ℕ)
      → Limited (statement d ts) d (statement_nesting x) x r
  at_S (s_empty {r = r} {p = p}) d = step_empty d p r
  at_S (s_block {m = m} {r = r} {p = p} {q = q} {xs = xs} a) d = step_block d xs p q m r
      (in_block (suc (length m)) m d (omega (arith, short_Ss a)) (λ k. at_block a k (length m) (omega arith)))
  at_S (s_text {r = r} {p = p} {q = q} {bytes = bytes}) d = step_text d bytes p q r
  at_S (s_print {m = m} {r = r} {p = p} {q = q} {is = is} a) d = step_print d is p q m r (at_Items a d)
  at_S (s_print_ret {m = m} {r = r} {p = p} {q = q} {is = is} a) d = step_print_ret d is p q m r (at_Items a d)
  at_S (s_new_line {r = r} {p = p} {q = q}) d = step_new_line d p q r
  at_S (s_if {m = m} {k = k} {p = p} {q = q} {o = o} c a e) d = up
      (step_if d p (sign s.OpenParenthesis q ∷ m)
      (step_condition d q o m k
      (in_whole (suc (length m)) m d (omega (arith, short_E c)) (λ j. at_E c j (omega arith))))
      (omega (arith, short_S a)) (in_statement k d (short_S a) (λ j. at_S a j)) e)
      (omega arith)
  at_S (s_if_else {m = m} {k = k} {l = l} {p = p} {q = q} {o = o} {e = e} c a b) d = up
      (step_if_else d p e (sign s.OpenParenthesis q ∷ m) l
      (step_condition d q o m k
      (in_whole (suc (length m)) m d (omega (arith, short_E c)) (λ j. at_E c j (omega arith))))
      (omega (arith, short_S a)) (omega (arith, short_S b))
      (in_statement k d (short_S a) (λ j. at_S a j)) (in_statement l d (short_S b) (λ j. at_S b j))) (omega arith)
  at_S (s_while {m = m} {k = k} {p = p} {q = q} {o = o} c a) d = up
      (step_while d p (sign s.OpenParenthesis q ∷ m)
      (step_condition d q o m k
      (in_whole (suc (length m)) m d (omega (arith, short_E c)) (λ j. at_E c j (omega arith))))
      (omega (arith, short_S a))
      (in_statement k d (short_S a) (λ j. at_S a j)))
      (omega arith)
  at_S (s_do {m = m} {k = k} {r = r} {p = p} {q = q} {o = o} {u = u} {j = j} a c) d = up
      (step_do d p u j m (sign s.OpenParenthesis q ∷ k) r (omega (arith, short_E c))
      (step_entered d m (first_S a) (in_statement m d (short_S a) (λ i. at_S a i)))
      (step_condition d q o k (sign s.Semicolon j ∷ r)
      (in_whole (suc (length k)) k d (omega (arith, short_E c)) (λ i. at_E c i (omega arith)))))
      (omega arith)
  at_S (s_for {m = m} {n = n} {p = p} {q = q} a f b c g x) d = up
      (step_for d p (sign s.OpenParenthesis q ∷ m)
      (step_enclosed d q m (in_heading (suc (length m)) m d
      (omega (arith, short_Optional a, short_Optional b, short_Optional c)) (λ i. at_Heading a f b c g i)))
      (omega (arith, short_S x)) (in_statement n d (short_S x) (λ i. at_S x i)))
      (omega arith)
  at_S (s_objectloop {m = m} {k = k} {p = p} {q = q} {l = l} {x = x} a b) d = up
      (step_objectloop d p (sign s.OpenParenthesis q ∷ m)
      (step_enclosed_loop d q m (in_loop (suc (length m)) m d (omega (arith, short_Loop a)) (λ i. at_Loop a i)))
      (omega (arith, short_S b)) (in_statement k d (short_S b) (λ i. at_S b i)))
      (omega (arith, nests_over p l x))
  at_S (s_switch {m = m} {r = r} {p = p} {q = q} a b) zero = step_switch_none zero p q m r refl
      (omega (arith, short_E a, short_Cases b))
  at_S (s_switch {m = m} {k = k} {r = r} {p = p} {q = q} {o = o} {i = i} {j = j} {e = e} {cs = cs} a b) (suc d) =
      let c = at_cases b d (length k) (omega arith) in
      up
      (step_switch (suc d) p i j cs (sign s.OpenParenthesis q ∷ m) r c.fewer (omega (arith, c.last))
      (step_condition (suc d) q o m (sign s.OpenBrace i ∷ k)
      (in_whole (suc (length m)) m (suc d) (omega (arith, short_E a)) (λ z. at_E a z (omega arith))))
      (all_cases c) c.default) (deepest_case (nesting e) cs)
  at_S (s_break {r = r} {p = p} {q = q}) d = step_break d p q r
  at_S (s_continue {r = r} {p = p} {q = q}) d = step_continue d p q r
  at_S (s_return {r = r} {p = p} {q = q}) d = step_return d p q r
  at_S (s_return_value {m = m} {r = r} {p = p} {q = q} c) d = step_return_value d p q m r
      (expression_semicolon (head m) (first_E c)) (at_E c d (omega arith))
  at_S (s_rtrue {r = r} {p = p} {q = q}) d = step_rtrue d p q r
  at_S (s_rfalse {r = r} {p = p} {q = q}) d = step_rfalse d p q r
  at_S (s_quit {r = r} {p = p} {q = q}) d = step_quit d p q r
  at_S (s_read {r = r} {p = p} {q = q} {o = o} {j = j} {a = a} {b = b}) d = step_read d p q o j a b r
  at_S (s_give {m = m} {r = r} {p = p} {q = q} c a) d = up
      (step_give d p q m r (omega (arith, short_Given a)) (at_E c d (stops_Given a)) (at_Given a d)) (omega arith)
  at_S (s_move {m = m} {k = k} {r = r} {p = p} {q = q} {o = o} a b) d = step_move d p o q m k r
      (omega (arith, short_E b))
      (at_E a d (omega arith)) (at_E b d (omega arith))
  at_S (s_remove {m = m} {r = r} {p = p} {q = q} c) d = step_remove d p q m r (at_E c d (omega arith))
  at_S {ts} (s_effect {r = r} {q = q} c f) d = same (statement_of d ts (first_E c))
      (step_alone d q ts r f (at_E c d (omega arith)))

  pub at_block : {ts r : List Lexeme} {xs : StatementTrees} {q : Position} → IsSs ts xs (sign s.CloseBrace q ∷ r)
      → (d n : ℕ) → length ts ≤ n → Limited (repeated begins_statement (inside d) n ts) d (inside_nesting xs)
      (listed xs) (sign s.CloseBrace q ∷ r)
  at_block {r = r} {q = q} ss_stop d n le = repeated_stop begins_statement (inside d) d n (sign s.CloseBrace q ∷ r)
      (brace_stops q)
  at_block (ss_next a b) d zero le = absurd (omega (arith, short_S a))
  at_block {ts} (ss_next a b) d (suc n) le = repeated_next begins_statement (inside d) d n ts (first_S a)
      (in_statement ts d (short_S a) (λ j. at_S a j)) (short_Ss b) (at_block b d n (omega (arith, short_S a)))

  pub at_body : {ts r : List Lexeme} {xs : StatementTrees} → IsSs ts xs r → begins_in_case r ≡ false → (d n : ℕ)
      → length ts ≤ n → Limited (as_long begins_in_case (inside d) n ts) d (inside_nesting xs) (listed xs) r
  at_body {r = r} ss_stop e d n le = as_long_stop begins_in_case (inside d) d n r e
  at_body (ss_next a b) e d zero le = absurd (omega (arith, short_S a))
  at_body {ts} (ss_next a b) e d (suc n) le = as_long_next begins_in_case (inside d) d n ts (in_case a)
      (in_statement ts d (short_S a) (λ j. at_S a j)) (short_Ss b) (at_body b e d n (omega (arith, short_S a)))

  at_cases : {ts r : List Lexeme} {cs : CaseTrees} {q : Position} → IsCases ts cs (sign s.CloseBrace q ∷ r)
      → (d n : ℕ) → length ts ≤ n → Cased (suc d) n ts cs (sign s.CloseBrace q ∷ r)
  at_cases {r = r} {q = q} cases_none d n le = record {
    rest = sign s.CloseBrace q ∷ r;
    fewer = omega arith;
    last = omega arith;
    list = repeated_stop begins_value (one_case (bodies (suc d))) (suc d) n (sign s.CloseBrace q ∷ r) refl;
    default = step_no_default (suc d) (sign s.CloseBrace q ∷ r) refl;
  }
  at_cases (cases_default {m = m} {p = p} {q = o} a) d n le = record {
    rest = reserved w.Default p ∷ sign s.Colon o ∷ m;
    fewer = omega arith;
    last = omega (arith, short_Ss a);
    list =
        repeated_stop begins_value (one_case (bodies (suc d))) (suc d) n
        (reserved w.Default p ∷ sign s.Colon o ∷ m) refl;
    default = step_default (suc d) p o m
        (in_block (suc (length m)) m (suc d) (omega (arith, short_Ss a)) (λ k. at_block a k (length m) (omega arith)));
  }
  at_cases (cases_next g a b) d zero le = absurd (omega (arith, short_Ranges g))
  at_cases {ts} (cases_next {m = m} {p = p} {gs = gs} {xs = xs} g a b) d (suc n) le =
      let c = at_cases b d n (omega (arith, short_Ranges g, short_Ss a)) in
      record {
        rest = c.rest;
        fewer = omega (arith, short_Ranges g, short_Ss a, c.fewer);
        last = c.last;
        list =
            repeated_next begins_value (one_case (bodies (suc d))) (suc d) n ts (begins_Ranges g)
            (step_case (suc d) gs xs p ts m (ranges_read g)
            (in_bodies m d (at_body a (case_ends b) d (length m) (omega arith)))) c.fewer c.list;
        default = c.default;
      }

-- statements directly in a routine, up to a token that begins none
pub turns_Ss : {ts r : List Lexeme} {xs : StatementTrees} → IsSs ts xs r → begins_statement (head r) ≡ false → (d n : ℕ)
    → length ts ≤ n → Limited (repeated begins_statement (statement d) n ts) d (body_nesting xs) (listed xs) r
turns_Ss {r = r} ss_stop e d n le = repeated_stop begins_statement (statement d) d n r e
turns_Ss (ss_next a b) e d zero le = absurd (omega (arith, short_S a))
turns_Ss {ts} (ss_next a b) e d (suc n) le = repeated_next begins_statement (statement d) d n ts (first_S a)
    (at_S a d) (short_Ss b) (turns_Ss b e d n (omega (arith, short_S a)))

pub at_Ss : {r : List Lexeme} {xs : StatementTrees} (ts : List Lexeme) → IsSs ts xs r
    → begins_statement (head r) ≡ false → (d : ℕ) → Limited (statements d ts) d (body_nesting xs) (listed xs) r
unfolding statements
at_Ss ts a e d = turns_Ss a e d (length ts) (omega arith)
