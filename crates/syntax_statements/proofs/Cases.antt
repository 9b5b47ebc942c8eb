-- What is read after `if`, the words of loops and `switch`, by what reading their parts gave.
use Rattle.std.proofs.Common.{◌≡◌, ℕ, true, false, List, length, Option, Some, Result, Ok, Err, refl, sym, ap, ◌∙◌}
use Rattle.syntax_lexer.specs.declared.token.Position.{Position}
use Rattle.syntax_lexer.specs.declared.token.Sign.TheVariants as s
use Rattle.syntax_lexer.specs.declared.token.Word.TheVariants as w
use Rattle.syntax_lexer.specs.Token.{Lexeme}
use Rattle.syntax_trees.specs.Tree.{ExpressionTree}
use Rattle.syntax_trees.specs.Stop.{Stop, unfit}
use Rattle.syntax_trees.specs.declared.error.ParseError.{ParseError}
use Rattle.syntax_trees.specs.declared.error.ParseError.TheVariants as errors
use Rattle.syntax_trees.specs.Parse.{◌>>=◌, Fails, Parse, head, tail, is_sign, is_word, expect}
use Rattle.syntax_statements.specs.PartTree.{LoopTree}
use Rattle.syntax_statements.specs.PartViews.{HeadingTree}
use Rattle.syntax_statements.specs.PartParse.{enclosed_condition, enclosed_heading, enclosed_loop}
use Rattle.syntax_statements.specs.Tree.{StatementTree, while_do, for_loop, loop_over}
use Rattle.syntax_statements.specs.Views.{CaseTree}
use Rattle.syntax_statements.specs.Parse.{block_of, braced, repetition, iteration, traversal, cases, switch_of}
use Rattle.syntax_statements.specs.Parse.{otherwise, selection}

module _ (d : ℕ) (inside : Parse StatementTree) (p : Position) (ts m : List Lexeme) (c : ExpressionTree)
    (read : enclosed_condition d ts ≡ Ok (c, m)) where
  pub repetition_made : (x : StatementTree) (r : List Lexeme) → inside m ≡ Ok (x, r)
      → repetition d inside p ts ≡ Ok (while_do p c x, r)
  unfolding repetition
  repetition_made x r h = rw (read, h) refl

module _ (d : ℕ) (inside : Parse StatementTree) (p : Position) (ts : List Lexeme) where
  pub iteration_made : (h : HeadingTree) (x : StatementTree) (m r : List Lexeme) → enclosed_heading d ts ≡ Ok (h, m)
      → inside m ≡ Ok (x, r) → iteration d inside p ts ≡ Ok (for_loop p h.before h.test h.after x, r)
  unfolding iteration
  iteration_made h x m r read g = rw (read, g) refl

  pub traversal_made : (l : LoopTree) (x : StatementTree) (m r : List Lexeme) → enclosed_loop d ts ≡ Ok (l, m)
      → inside m ≡ Ok (x, r) → traversal d inside p ts ≡ Ok (loop_over p l x, r)
  unfolding traversal
  traversal_made l x m r read g = rw (read, g) refl

pub block_after : (braces : ℕ → Parse (List StatementTree)) (left : ℕ) (ts : List Lexeme)
    → braced braces left ts ≡ (braces left ts >>= λ x. block_of x.0 x.1)
unfolding braced
block_after braces left ts = refl

pub block_read : (braces : ℕ → Parse (List StatementTree)) (left : ℕ) (ts m : List Lexeme)
    (xs : List StatementTree) → braces left ts ≡ Ok (xs, m) → braced braces left ts ≡ block_of xs m
unfolding braced
block_read braces left ts m xs h = rw h refl

pub selection_made : (d : ℕ) (braces : ℕ → Parse (List StatementTree)) (bodies : Parse (List StatementTree))
    (p : Position) (ts m us r k : List Lexeme) (e : ExpressionTree) (cs : List CaseTree)
    (o : Option (List StatementTree))
    → enclosed_condition d ts ≡ Ok (e, m)
    → expect s.OpenBrace m ≡ Ok us → cases bodies us ≡ Ok (cs, r) → otherwise braces r ≡ Ok (o, k)
    → selection d braces bodies p ts ≡ switch_of p e cs o k
unfolding selection
selection_made d braces bodies p ts m us r k e cs o read h c g = rw (read, h, c, g) refl

-- what follows `default`, whose colon is looked at before its statements are read

module _ (braces : ℕ → Parse (List StatementTree)) (ts us : List Lexeme) (is : is_word w.Default (head ts) ≡ true)
    (after : us ≡ tail ts) where
  pub otherwise_default : is_sign s.Colon (head us) ≡ true
      → otherwise braces ts ≡ (braces (length us) (tail us) >>= λ xs. Ok (Some xs.0, xs.1))
  unfolding otherwise expect
  otherwise_default colon = rw (is, ← after, colon) refl

  pub otherwise_made : (k : List Lexeme) (xs : List StatementTree) → is_sign s.Colon (head us) ≡ true
      → braces (length us) (tail us) ≡ Ok (xs, k) → otherwise braces ts ≡ Ok (Some xs, k)
  otherwise_made k xs colon read = otherwise_default colon ∙ rw read refl

  pub otherwise_uncoloned : is_sign s.Colon (head us) ≡ false → otherwise braces ts ≡ Err (unfit (length us))
  unfolding otherwise expect
  otherwise_uncoloned none = rw (is, ← after, none) refl

-- ---- a statement in its box, and the sign that ends it

abbrev tree_in : Result (StatementTree × List Lexeme) Stop → StatementTree → StatementTree
tree_in (Ok r) x = r.0
tree_in (Err e) x = x

-- the tree in the box is that of the statement
pub in_its_box : {x y z : StatementTree} {ts us : List Lexeme} (made : Result (StatementTree × List Lexeme) Stop)
    → made ≡ Ok (x, ts) → made ≡ Ok (y, us) → x ≡ z → y ≡ z
in_its_box {x = x} made p q h = ap (λ r. tree_in r x) (sym q ∙ p) ∙ h

-- no box is made where memory is refused
pub no_box : {A B : Type 0} (e : ParseError) (x : A) (read : Result B Stop) → Fails e (Ok x) → Fails e read
no_box errors.Memory x read h = tt
no_box (errors.Fault f count) x read h = absurd (cc h)
