-- The loop over a chain, a turn at a time.
use Rattle.std.proofs.Common.{◌≡◌, ℕ, zero, suc, ◌+◌, ◌-◌, ◌<◌, ◌≤◌, List, length, Option, Some, None}
use Rattle.std.proofs.Common.{Result, Ok, Err, refl, sym, ap, ◌∙◌, arith}
use Rattle.syntax_lexer.specs.Token.{Lexeme}
use Rattle.syntax_trees.specs.declared.tree.Binary.{Binary}
use Rattle.syntax_trees.specs.Tree.{ExpressionTree, binary}
use Rattle.syntax_trees.specs.Stop.{Stop, stop_of}
use Rattle.syntax_trees.specs.declared.error.ParseError.{ParseError}
use Rattle.syntax_trees.specs.declared.error.ParseError.TheVariants as errors
use Rattle.syntax_trees.specs.Parse.{◌>>=◌, Fails, Parse, head, tail}
use Rattle.syntax_expressions.specs.declared.operators.Operators.{Operators}
use Rattle.syntax_expressions.specs.declared.operators.Operators.TheVariants as operators
use Rattle.syntax_expressions.specs.Parse.{Level, chain, condition, sum, product}
use Rattle.syntax_expressions.specs.LevelOperators.{operator_of}
use Rattle.syntax_expressions.specs.Levels.{operand_of, chain_of}

module _ (ops : Lexeme → Option Binary) (p : Parse ExpressionTree) where
  pub chain_stop : (n : ℕ) (left : ExpressionTree) (ts : List Lexeme) → ops (head ts) ≡ None
      → chain ops p n left ts ≡ Ok (left, ts)
  unfolding chain
  chain_stop zero left ts e = refl
  chain_stop (suc n) left ts e = rw e refl

  pub chain_done : (n i : ℕ) (left : ExpressionTree) (ts : List Lexeme) → n ≤ i
      → chain ops p (n - i) left ts ≡ Ok (left, ts)
  unfolding chain
  chain_done n i left ts le = let k : n - i ≡ 0 = omega arith in rw k refl

  pub chain_err : (n i : ℕ) (left : ExpressionTree) (ts : List Lexeme) (op : Binary) (f : Stop) → i < n
      → ops (head ts) ≡ Some op → p (tail ts) ≡ Err f → chain ops p (n - i) left ts ≡ Err f
  unfolding chain
  chain_err n i left ts op f lt e h = let k : n - i ≡ suc (n - (i + 1)) = omega arith in rw (k, e, h) refl

  pub chain_fails : (e : ParseError) (n i : ℕ) (left : ExpressionTree) (ts : List Lexeme) (op : Binary)
      (total : Result (ExpressionTree × List Lexeme) Stop) → i < n → ops (head ts) ≡ Some op → Fails e (p (tail ts))
      → chain ops p (n - i) left ts ≡ total → Fails e total
  chain_fails errors.Memory n i left ts op total lt o h so_far = tt
  chain_fails (errors.Fault f count) n i left ts op total lt o h so_far = sym so_far
      ∙ chain_err n i left ts op (stop_of f count) lt o h

  pub chain_more : (n i : ℕ) (left : ExpressionTree) (ts : List Lexeme) (op : Binary) (b : ExpressionTree)
      (rest : List Lexeme) (longer : ExpressionTree) (us : List Lexeme)
      (made : Result (ExpressionTree × List Lexeme) Stop) → i < n → ops (head ts) ≡ Some op
      → p (tail ts) ≡ Ok (b, rest) → made ≡ Ok (binary op left b, rest) → made ≡ Ok (longer, us)
      → chain ops p (n - i) left ts ≡ chain ops p (n - (i + 1)) longer us
  unfolding chain
  chain_more n i left ts op b rest longer us made lt e h is seen =
      let k : n - i ≡ suc (n - (i + 1)) = omega arith in
      rw (k, e, h)
      (ap (λ (x : Result (ExpressionTree × List Lexeme) Stop). x >>= λ y. chain ops p (n - (i + 1)) y.0 y.1)
      (sym is ∙ seen))

-- ---- the levels of chains

module _ (below : Level → ℕ → Parse ExpressionTree) (l : Operators) where
  level_is : (ts : List Lexeme) → chain_of below l ts
      ≡ (operand_of below l ts >>= λ x. chain (operator_of l) (operand_of below l) (length x.1) x.0 x.1)
  unfolding condition sum product
  level_is ts = elim l as
      (λ o. chain_of below o ts
      ≡ (operand_of below o ts >>= λ x. chain (operator_of o) (operand_of below o) (length x.1) x.0 x.1))
      [ operators.Logical ↦ refl | operators.Adding ↦ refl | operators.Scaling ↦ refl ]

  pub level_chain : (ts : List Lexeme) (a : ExpressionTree) (r : List Lexeme) → operand_of below l ts ≡ Ok (a, r)
      → chain_of below l ts ≡ chain (operator_of l) (operand_of below l) (length r) a r
  level_chain ts a r h = level_is ts ∙ rw h refl

  pub level_fails : (e : ParseError) (ts : List Lexeme) → Fails e (operand_of below l ts)
      → Fails e (chain_of below l ts)
  level_fails errors.Memory ts h = tt
  level_fails (errors.Fault f count) ts h = level_is ts ∙ rw h refl
