-- Reading a statement comes no further than a token that stands deeper than the nestings that are left.
use Rattle.std.proofs.Common.{◌≡◌, ℕ, zero, suc, ◌<◌, ◌≤◌, ◌⊎◌, true, List, [], ◌∷◌, length}
use Rattle.std.proofs.Common.{refl, inl, inr, arith, Ok}
use Rattle.syntax_lexer.specs.declared.token.Position.{Position}
use Rattle.syntax_lexer.specs.declared.token.Sign.TheVariants as s
use Rattle.syntax_lexer.specs.declared.token.Word.TheVariants as w
use Rattle.syntax_lexer.specs.Token.{Lexeme, reserved, sign}
use Rattle.syntax_trees.specs.Tree.{ExpressionTree}
use Rattle.syntax_trees.specs.Parse.{◌>>=◌, head, expect, as_long, repeated}
use Rattle.syntax_expressions.specs.Grammar.{IsE, nesting}
use Rattle.syntax_expressions.specs.Parse.{nested}
use Rattle.syntax_expressions.proofs.Limited as limited
use Rattle.syntax_expressions.proofs.Limited.{Limited}
use Rattle.syntax_expressions.proofs.Short.{short_E}
use Rattle.syntax_expressions.proofs.Complete.{at_E}
use Rattle.syntax_expressions.proofs.Deepened.{Deepened, deep_in, deep_after, deep_same}
use Rattle.syntax_expressions.proofs.DeepBeginnings.{deep_starts_E}
use Rattle.syntax_expressions.proofs.DeepExpressions.{in_whole, deep_E, deep_E1}
use Rattle.syntax_statements.specs.PartTree.{RangeTree}
use Rattle.syntax_statements.specs.PartParse.{begins_value, ranges, enclosed_condition}
use Rattle.syntax_statements.specs.Tree.{StatementTree}
use Rattle.syntax_statements.specs.Views.{CaseTree, trees_of}
use Rattle.syntax_statements.specs.Nesting.{begins_statement, begins_in_case, DeepS, deep_s_brace, deep_s_block}
use Rattle.syntax_statements.specs.Nesting.{deep_s_print, deep_s_print_ret, deep_s_if, deep_s_if_condition}
use Rattle.syntax_statements.specs.Nesting.{deep_s_if_then, deep_s_if_else, deep_s_while, deep_s_while_condition}
use Rattle.syntax_statements.specs.Nesting.{deep_s_while_do, deep_s_do_begins, deep_s_do, deep_s_until}
use Rattle.syntax_statements.specs.Nesting.{deep_s_until_condition, deep_s_for, deep_s_for_parts, deep_s_for_body}
use Rattle.syntax_statements.specs.Nesting.{deep_s_objectloop, deep_s_objectloop_head, deep_s_objectloop_body}
use Rattle.syntax_statements.specs.Nesting.{deep_s_switch, deep_s_switch_value, deep_s_switch_brace}
use Rattle.syntax_statements.specs.Nesting.{deep_s_switch_cases, deep_s_return, deep_s_give, deep_s_move}
use Rattle.syntax_statements.specs.Nesting.{deep_s_move_to, deep_s_remove, deep_s_effect, DeepInside}
use Rattle.syntax_statements.specs.Nesting.{deep_inside_begins, deep_inside_first, deep_inside_next, DeepCases}
use Rattle.syntax_statements.specs.Nesting.{deep_cases_first, deep_cases_next, deep_cases_default, DeepInCase}
use Rattle.syntax_statements.specs.Nesting.{deep_in_case_begins, deep_in_case_first, deep_in_case_next, DeepSs}
use Rattle.syntax_statements.specs.Nesting.{deep_ss_first, deep_ss_next}
use Rattle.syntax_statements.specs.Parse.{one_case, cases, otherwise, selection}
use Rattle.syntax_statements.specs.Parse.{statement_over, inside, braces, bodies, statement, statements}
use Rattle.syntax_statements.proofs.Follow.{short_S, short_Ss, short_Optional}
use Rattle.syntax_statements.proofs.KnownValues.{short_Ranges, ranges_read, begins_Ranges}
use Rattle.syntax_statements.proofs.LoopHeads.{at_Loop, short_Loop}
use Rattle.syntax_statements.proofs.Deepest.{in_statement, in_heading, in_loop, in_bodies}
use Rattle.syntax_statements.proofs.Alternatives.{step_condition, step_enclosed, step_enclosed_loop, step_entered}
use Rattle.syntax_statements.proofs.Alternatives.{step_case}
use Rattle.syntax_statements.proofs.PartsRead.{repeated_stop, repeated_next, at_Heading}
use Rattle.syntax_statements.proofs.Complete.{expression_semicolon, first_S, in_case, at_S, at_body}
use Rattle.syntax_statements.proofs.DeepParts.{deep_first_turn, deep_later_turn, deep_Items, deep_Heading}
use Rattle.syntax_statements.proofs.DeepSteps.{deep_first_S, some_statement, some_in_case, deep_case_ends}
use Rattle.syntax_statements.proofs.DeepSteps.{statement_in, braces_in, bodies_in, heading_inside, loop_inside}
use Rattle.syntax_statements.proofs.DeepSteps.{open_brace, open_condition, open_heading, open_loop, open_inside}
use Rattle.syntax_statements.proofs.DeepSteps.{step_block, step_print, step_print_ret, condition_in}
use Rattle.syntax_statements.proofs.DeepSteps.{enclosed_heading_in, enclosed_loop_in, loop_head, step_return}
use Rattle.syntax_statements.proofs.DeepSteps.{step_give, step_move, step_remove, step_alone, step_if, step_while}
use Rattle.syntax_statements.proofs.DeepSteps.{step_for, step_objectloop, step_switch, do_in, step_move_to}
use Rattle.syntax_statements.proofs.DeepSteps.{step_if_then, step_if_else, step_while_do, step_until, step_for_body}
use Rattle.syntax_statements.proofs.DeepSteps.{step_objectloop_body}

-- ---- cases

-- a token of the cases from ts on is too deep: in one of them, or in the `default` after them
abbrev InCases : ℕ → ℕ → ℕ → List Lexeme → List Lexeme → Type 0
InCases d n turns ts u = Deepened (repeated begins_value (one_case (bodies d)) turns ts) d n ts u

record InDefault (d n turns : ℕ) (ts u : List Lexeme) : Type 0 where
  nests : ℕ
  list : List CaseTree
  rest : List Lexeme
  fewer : length rest ≤ length ts
  before : Limited (repeated begins_value (one_case (bodies d)) turns ts) d nests list rest
  within : Deepened (otherwise (braces d) rest) d n rest u

module _ (d : ℕ) {n : ℕ} {ts u : List Lexeme} where
  case_in : {m : List Lexeme} {q : Position} {gs : List RangeTree} → ranges ts ≡ Ok (gs, sign s.Colon q ∷ m)
      → length m < length ts → Deepened (bodies d m) d n m u → Deepened (one_case (bodies d) ts) d n ts u
  unfolding one_case expect
  case_in {m = m} {gs = gs} e less h = deep_same {S = bodies d m >>= λ xs. Ok ((gs, trees_of xs.0), xs.1)} {us = m}
      (rw e refl) (omega (arith, less)) (deep_in _ h)

  in_first_case : (turns : ℕ) → begins_value (head ts) ≡ true → Deepened (one_case (bodies d) ts) d n ts u
      → InCases d n (suc turns) ts u
  unfolding repeated
  in_first_case turns e h = deep_first_turn (λ us. begins_value (head us)) (one_case (bodies d)) d turns e h

  in_later_case : {l : ℕ} {c : CaseTree} {m : List Lexeme} (turns : ℕ) → begins_value (head ts) ≡ true
      → Limited (one_case (bodies d) ts) d l c m → length m ≤ length ts → InCases d n turns m u
      → InCases d n (suc turns) ts u
  unfolding repeated
  in_later_case turns e a less h = deep_later_turn (λ us. begins_value (head us)) (one_case (bodies d)) d turns e a
      less h

  later_default : {l : ℕ} {c : CaseTree} {m : List Lexeme} (turns : ℕ) → begins_value (head ts) ≡ true
      → Limited (one_case (bodies d) ts) d l c m → length m ≤ length ts → InDefault d n turns m u
      → InDefault d n (suc turns) ts u
  later_default {c = c} turns e a less h = record {
    nests = _;
    list = c ∷ h.list;
    rest = h.rest;
    fewer = omega (arith, less, h.fewer);
    before = repeated_next begins_value (one_case (bodies d)) d turns ts e a h.fewer h.before;
    within = h.within;
  }

either_fewer : {d n turns : ℕ} {ts u : List Lexeme} → InCases d n turns ts u ⊎ InDefault d n turns ts u
    → length u ≤ length ts
either_fewer (inl h) = h.fewer
either_fewer (inr h) = omega (arith, h.fewer, h.within.fewer)

default_in : (d : ℕ) {n : ℕ} {m u : List Lexeme} (p q : Position) → Deepened (braces d (suc (length m)) m) d n m u
    → Deepened (otherwise (braces d) (reserved w.Default p ∷ sign s.Colon q ∷ m)) d n
    (reserved w.Default p ∷ sign s.Colon q ∷ m) u
unfolding otherwise expect
default_in d p q h = deep_same refl (omega arith) (deep_in _ h)

at_default : (d : ℕ) {n : ℕ} {m u : List Lexeme} (p q : Position) (turns : ℕ)
    → Deepened (braces d (suc (length m)) m) d n m u
    → InDefault d n turns (reserved w.Default p ∷ sign s.Colon q ∷ m) u
at_default d {m = m} p q turns h = record {
  nests = 0;
  list = [];
  rest = reserved w.Default p ∷ sign s.Colon q ∷ m;
  fewer = omega arith;
  before = repeated_stop begins_value (one_case (bodies d)) d turns (reserved w.Default p ∷ sign s.Colon q ∷ m) refl;
  within = default_in d p q h;
}

module _ (d : ℕ) {n l : ℕ} {m k u : List Lexeme} (p i : Position) {e : ExpressionTree}
    (t : Limited (enclosed_condition d m) d l e (sign s.OpenBrace i ∷ k)) (less : length k < length m) where
  switch_case : InCases d n (length k) k u
      → Deepened (statement d (reserved w.Switch p ∷ m)) d n (reserved w.Switch p ∷ m) u
  unfolding statement statement_over selection expect cases
  switch_case h = deep_same {us = m} refl (omega arith)
      (deep_after {us = k} _ t (omega (arith, less)) (omega arith) (deep_in _ h))

  switch_default : InDefault d n (length k) k u
      → Deepened (statement d (reserved w.Switch p ∷ m)) d n (reserved w.Switch p ∷ m) u
  unfolding statement statement_over selection expect cases
  switch_default h = deep_same {us = m} refl (omega arith)
      (deep_after {us = k} _ t (omega (arith, less)) (omega arith)
      (deep_after {us = h.rest} _ h.before h.fewer (omega arith) (deep_in _ h.within)))

-- where no nesting may be opened, the parenthesis of a `switch` is too deep
switch_none : {n : ℕ} {m u : List Lexeme} (p q : Position) → length u ≤ length m
    → Deepened (statement 0 (reserved w.Switch p ∷ sign s.OpenParenthesis q ∷ m)) 0 n
    (reserved w.Switch p ∷ sign s.OpenParenthesis q ∷ m) u
unfolding statement statement_over selection enclosed_condition expect nested
switch_none {m = m} p q le = record {
  fewer = omega (arith, le);
  stops = λ lt. record { left = suc (length m); stops = refl; enough = omega (arith, le) };
}

module _ (d : ℕ) {n : ℕ} {ts u : List Lexeme} where
  first_inside : (turns : ℕ) → begins_statement (head ts) ≡ true → Deepened (inside d ts) d n ts u
      → Deepened (repeated begins_statement (inside d) (suc turns) ts) d n ts u
  unfolding repeated
  first_inside turns e h = deep_first_turn (λ us. begins_statement (head us)) (inside d) d turns e h

  later_inside : {l : ℕ} {x : StatementTree} {m : List Lexeme} (turns : ℕ) → begins_statement (head ts) ≡ true
      → Limited (inside d ts) d l x m → length m ≤ length ts
      → Deepened (repeated begins_statement (inside d) turns m) d n m u
      → Deepened (repeated begins_statement (inside d) (suc turns) ts) d n ts u
  unfolding repeated
  later_inside turns e a less h = deep_later_turn (λ us. begins_statement (head us)) (inside d) d turns e a less h

  first_direct : (turns : ℕ) → begins_statement (head ts) ≡ true → Deepened (statement d ts) d n ts u
      → Deepened (repeated begins_statement (statement d) (suc turns) ts) d n ts u
  unfolding repeated
  first_direct turns e h = deep_first_turn (λ us. begins_statement (head us)) (statement d) d turns e h

  later_direct : {l : ℕ} {x : StatementTree} {m : List Lexeme} (turns : ℕ) → begins_statement (head ts) ≡ true
      → Limited (statement d ts) d l x m → length m ≤ length ts
      → Deepened (repeated begins_statement (statement d) turns m) d n m u
      → Deepened (repeated begins_statement (statement d) (suc turns) ts) d n ts u
  unfolding repeated
  later_direct turns e a less h = deep_later_turn (λ us. begins_statement (head us)) (statement d) d turns e a less h

-- the brace of a `switch` stands as deep as its parenthesis
switch_brace : {m k : List Lexeme} {o i : Position} {e : ExpressionTree} (d : ℕ) (p q : Position)
    → IsE m e (sign s.CloseParenthesis o ∷ sign s.OpenBrace i ∷ k)
    → Deepened (statement d (reserved w.Switch p ∷ sign s.OpenParenthesis q ∷ m)) d 1
    (reserved w.Switch p ∷ sign s.OpenParenthesis q ∷ m) (sign s.OpenBrace i ∷ k)
switch_brace zero p q a = switch_none p q (omega (arith, short_E a))
switch_brace (suc d) p q a = record { fewer = omega (arith, short_E a); stops = λ lt. absurd (omega arith) }

-- ---- statements

condition_read : {m k : List Lexeme} {o : Position} {c : ExpressionTree} (q : Position)
    → IsE m c (sign s.CloseParenthesis o ∷ k) → (d : ℕ)
    → Limited (enclosed_condition d (sign s.OpenParenthesis q ∷ m)) d (suc (nesting c)) c k
condition_read {m = m} {k = k} {o = o} q a d = step_condition d q o m k
    (limited.in_whole (suc (length m)) m d (omega (arith, short_E a)) (λ j. at_E a j (omega arith)))

mutual
  pub deep_S : {n : ℕ} {ts u : List Lexeme} → DeepS n ts u → (d : ℕ) → Deepened (statement d ts) d n ts u
  deep_S (deep_s_brace {m = m} {p = p}) d = open_brace d m p
  deep_S (deep_s_block {m = m} {p = p} x) d = step_block d p
      (braces_in (suc (length m)) d (omega arith) (λ k. deep_Inside x k (length m) (omega arith)))
  deep_S (deep_s_print {p = p} x) d = step_print d p (deep_Items x d)
  deep_S (deep_s_print_ret {p = p} x) d = step_print_ret d p (deep_Items x d)
  deep_S (deep_s_if {m = m} {p = p} {q = q}) d = step_if d p (open_condition d m q)
  deep_S (deep_s_if_condition {m = m} {p = p} {q = q} x) d = step_if d p
      (condition_in d q (in_whole (suc (length m)) d (omega arith) (λ k. deep_E x k)))
  deep_S (deep_s_if_then {p = p} {q = q} a x) d = step_if_then d p (condition_read q a d) (omega (arith, short_E a))
      (statement_in d (λ k. deep_S x k))
  deep_S (deep_s_if_else {k = k} {p = p} {q = q} a b x) d = step_if_else d p (condition_read q a d)
      (omega (arith, short_E a)) (in_statement k d (short_S b) (λ j. at_S b j)) (omega (arith, short_S b))
      (statement_in d (λ j. deep_S x j))
  deep_S (deep_s_while {m = m} {p = p} {q = q}) d = step_while d p (open_condition d m q)
  deep_S (deep_s_while_condition {m = m} {p = p} {q = q} x) d = step_while d p
      (condition_in d q (in_whole (suc (length m)) d (omega arith) (λ k. deep_E x k)))
  deep_S (deep_s_while_do {p = p} {q = q} a x) d = step_while_do d p (condition_read q a d) (omega (arith, short_E a))
      (statement_in d (λ k. deep_S x k))
  deep_S (deep_s_do_begins {m = m} {t = t} {p = p} b) d = do_in d p b (open_inside d (t ∷ m))
  deep_S (deep_s_do {p = p} x) d = do_in d p (deep_first_S x) (statement_in d (λ k. deep_S x k))
  deep_S (deep_s_until {m = m} {k = k} {p = p} {q = q} a) d = step_until d p
      (step_entered d m (first_S a) (in_statement m d (short_S a) (λ j. at_S a j))) (omega (arith, short_S a))
      (open_condition d k q)
  deep_S (deep_s_until_condition {m = m} {k = k} {p = p} {q = q} a x) d = step_until d p
      (step_entered d m (first_S a) (in_statement m d (short_S a) (λ j. at_S a j))) (omega (arith, short_S a))
      (condition_in d q (in_whole (suc (length k)) d (omega arith) (λ j. deep_E x j)))
  deep_S (deep_s_for {m = m} {p = p} {q = q}) d = step_for d p (open_heading d m q)
  deep_S (deep_s_for_parts {m = m} {p = p} {q = q} x) d = step_for d p
      (enclosed_heading_in d q (heading_inside (suc (length m)) d (omega arith) (λ k. deep_Heading x k)))
  deep_S (deep_s_for_body {m = m} {p = p} {q = q} a f b c g x) d = step_for_body d p
      (step_enclosed d q m (in_heading (suc (length m)) m d
      (omega (arith, short_Optional a, short_Optional b, short_Optional c)) (λ j. at_Heading a f b c g j)))
      (omega (arith, short_Optional a, short_Optional b, short_Optional c)) (statement_in d (λ k. deep_S x k))
  deep_S (deep_s_objectloop {m = m} {p = p} {q = q}) d = step_objectloop d p (open_loop d m q)
  deep_S (deep_s_objectloop_head {m = m} {p = p} {q = q} {o = o} {x = f} x) d = step_objectloop d p
      (enclosed_loop_in d q
      (loop_inside (suc (suc (length m))) d (omega arith) (λ k. loop_head k o f (deep_E1 x k))))
  deep_S (deep_s_objectloop_body {m = m} {p = p} {q = q} a x) d = step_objectloop_body d p
      (step_enclosed_loop d q m (in_loop (suc (length m)) m d (omega (arith, short_Loop a)) (λ j. at_Loop a j)))
      (omega (arith, short_Loop a)) (statement_in d (λ k. deep_S x k))
  deep_S (deep_s_switch {m = m} {p = p} {q = q}) d = step_switch d p (open_condition d m q)
  deep_S (deep_s_switch_value {m = m} {p = p} {q = q} x) d = step_switch d p
      (condition_in d q (in_whole (suc (length m)) d (omega arith) (λ k. deep_E x k)))
  deep_S (deep_s_switch_brace {p = p} {q = q} a) d = switch_brace d p q a
  deep_S (deep_s_switch_cases {k = k} {p = p} {q = q} a x) zero = switch_none p q
      (omega (arith, short_E a, either_fewer (deep_Cases x 0 (length k) (omega arith))))
  deep_S (deep_s_switch_cases {k = k} {p = p} {q = q} {i = i} a x) (suc d) =
      elim (deep_Cases x d (length k) (omega arith)) [
        | inl h ↦ switch_case (suc d) p i (condition_read q a (suc d)) (omega (arith, short_E a)) h
        | inr h ↦ switch_default (suc d) p i (condition_read q a (suc d)) (omega (arith, short_E a)) h
      ]
  deep_S (deep_s_return {m = m} {p = p} x) d = step_return d p (expression_semicolon (head m) (deep_starts_E x))
      (deep_E x d)
  deep_S (deep_s_give {p = p} x) d = step_give d p (deep_E x d)
  deep_S (deep_s_move {p = p} x) d = step_move d p (deep_E x d)
  deep_S (deep_s_move_to {p = p} a x) d = step_move_to d p (at_E a d (omega arith)) (omega (arith, short_E a))
      (deep_E x d)
  deep_S (deep_s_remove {p = p} x) d = step_remove d p (deep_E x d)
  deep_S (deep_s_effect x) d = step_alone d (deep_starts_E x) (deep_E x d)

  deep_Inside : {n : ℕ} {ts u : List Lexeme} → DeepInside n ts u → (d turns : ℕ) → length ts ≤ turns
      → Deepened (repeated begins_statement (inside d) turns ts) d n ts u
  deep_Inside (deep_inside_begins b) d zero le = absurd (omega (arith, le))
  deep_Inside (deep_inside_begins {m = m} {t = t} b) d (suc turns) le = first_inside d turns b (open_inside d (t ∷ m))
  deep_Inside {ts = ts} (deep_inside_first x) d zero le = absurd
      (omega (arith, le, some_statement ts (deep_first_S x)))
  deep_Inside (deep_inside_first x) d (suc turns) le = first_inside d turns (deep_first_S x)
      (statement_in d (λ k. deep_S x k))
  deep_Inside (deep_inside_next a x) d zero le = absurd (omega (arith, le, short_S a))
  deep_Inside {ts = ts} (deep_inside_next a x) d (suc turns) le = later_inside d turns (first_S a)
      (in_statement ts d (short_S a) (λ j. at_S a j)) (omega (arith, short_S a))
      (deep_Inside x d turns (omega (arith, le, short_S a)))

  deep_InCase : {n : ℕ} {ts u : List Lexeme} → DeepInCase n ts u → (d turns : ℕ) → length ts ≤ turns
      → Deepened (as_long begins_in_case (inside d) turns ts) d n ts u
  deep_InCase {ts = ts} (deep_in_case_begins b) d zero le = absurd (omega (arith, le, some_in_case ts b))
  deep_InCase {ts = ts} (deep_in_case_begins b) d (suc turns) le = deep_first_turn begins_in_case (inside d) d turns b
      (open_inside d ts)
  deep_InCase {ts = ts} (deep_in_case_first b x) d zero le = absurd (omega (arith, le, some_in_case ts b))
  deep_InCase (deep_in_case_first b x) d (suc turns) le = deep_first_turn begins_in_case (inside d) d turns b
      (statement_in d (λ k. deep_S x k))
  deep_InCase (deep_in_case_next a x) d zero le = absurd (omega (arith, le, short_S a))
  deep_InCase {ts = ts} (deep_in_case_next a x) d (suc turns) le = deep_later_turn begins_in_case (inside d) d turns
      (in_case a) (in_statement ts d (short_S a) (λ j. at_S a j)) (omega (arith, short_S a))
      (deep_InCase x d turns (omega (arith, le, short_S a)))

  deep_Cases : {n : ℕ} {ts u : List Lexeme} → DeepCases n ts u → (d turns : ℕ) → length ts ≤ turns
      → InCases (suc d) (suc n) turns ts u ⊎ InDefault (suc d) (suc n) turns ts u
  deep_Cases (deep_cases_first g x) d zero le = absurd (omega (arith, le, short_Ranges g))
  deep_Cases (deep_cases_first {m = m} g x) d (suc turns) le = inl
      (in_first_case (suc d) turns (begins_Ranges g)
      (case_in (suc d) (ranges_read g) (omega (arith, short_Ranges g))
      (bodies_in d (deep_InCase x d (length m) (omega arith)))))
  deep_Cases (deep_cases_next g a x) d zero le = absurd (omega (arith, le, short_Ranges g))
  deep_Cases {ts = ts} (deep_cases_next {m = m} {p = p} {gs = gs} {xs = xs} g a x) d (suc turns) le =
      let one = step_case (suc d) gs xs p ts m (ranges_read g)
      (in_bodies m d (at_body a (deep_case_ends x) d (length m) (omega arith))) in
      elim (deep_Cases x d turns (omega (arith, le, short_Ranges g, short_Ss a))) [
        | inl h ↦ inl (in_later_case (suc d) turns (begins_Ranges g) one (omega (arith, short_Ranges g, short_Ss a)) h)
        | inr h ↦ inr (later_default (suc d) turns (begins_Ranges g) one (omega (arith, short_Ranges g, short_Ss a)) h)
      ]
  deep_Cases (deep_cases_default {m = m} {p = p} {q = q} x) d turns le = inr
      (at_default (suc d) p q turns
      (braces_in (suc (length m)) (suc d) (omega arith) (λ k. deep_Inside x k (length m) (omega arith))))

-- statements directly in a routine
direct_Ss : {n : ℕ} {ts u : List Lexeme} → DeepSs n ts u → (d turns : ℕ) → length ts ≤ turns
    → Deepened (repeated begins_statement (statement d) turns ts) d n ts u
direct_Ss {ts = ts} (deep_ss_first x) d zero le = absurd (omega (arith, le, some_statement ts (deep_first_S x)))
direct_Ss (deep_ss_first x) d (suc turns) le = first_direct d turns (deep_first_S x) (deep_S x d)
direct_Ss (deep_ss_next a x) d zero le = absurd (omega (arith, le, short_S a))
direct_Ss (deep_ss_next a x) d (suc turns) le = later_direct d turns (first_S a) (at_S a d)
    (omega (arith, short_S a)) (direct_Ss x d turns (omega (arith, le, short_S a)))

pub deep_Ss : {n : ℕ} {ts u : List Lexeme} → DeepSs n ts u → (d : ℕ) → Deepened (statements d ts) d n ts u
unfolding statements
deep_Ss {ts = ts} x d = direct_Ss x d (length ts) (omega arith)
