-- The code of loops over objects is no longer than their trees weigh.
use Rattle.std.proofs.Common.{◌≤◌, ◌+◌, ℕ, false, List, [], ◌∷◌, ◌++◌, arith}
use Rattle.syntax_lexer.specs.declared.token.Position.{Position}
use Rattle.syntax_lexer.specs.Token.{Lexeme}
use Rattle.syntax_trees.specs.declared.tree.Relative.TheVariants as relatives
use Rattle.syntax_trees.specs.Tree.{NameTree, ExpressionTree}
use Rattle.syntax_statements.specs.PartTree.{LoopTree}
use Rattle.syntax_statements.specs.PartGrammar.{IsLoop, loop_all, loop_in, loop_where}
use Rattle.syntax_statements.specs.Tree.{StatementTree, loop_over}
use Rattle.syntax_statements.specs.Tree as statements
use Rattle.syntax_directives.specs.Weight.{expression_weight, statement_weight}
use Rattle.meaning.specs.declared.resolved.Variable.{Variable}
use Rattle.checker_values.specs.Names.{Seen}
use Rattle.checker_values.specs.Expressions.{resolve}
use Rattle.checker_statements.specs.Statements.{loop_variable, resolve_statement}
use Rattle.code_drafts.specs.Items.{Item, operand_count, branch_count, alone, branch_items, alone_items, Operand}
use Rattle.code_drafts.specs.Items as items
use Rattle.code_items.specs.Statements.{action_count, Exits, exits_to, action_items, each_items, relative_items}
use Rattle.code_items.specs.Statements.{children_items}
use Rattle.story.proofs.Most.{most_of, most_append}
use Rattle.story.proofs.SizesOfExpressions.{fits_E1, fits_E3, few_branch, few_alone, FitsExpression}
use Rattle.story.proofs.SizesOfStatements.{StatementFits}

-- The loops over objects, whose body has at most so many bytes

each_few : (at : ℕ) (x : Variable) (body n : ℕ) (run : Exits → ℕ → List Item) → ((e : Exits) (m : ℕ)
    → most_of (run e m) ≤ n)
    → most_of (each_items at x body run) ≤ n + 21
each_few at x body n run few =
    let end = at + 1 + body + 2 in
    let inside = exits_to (at + 1 + body) end in
    omega (
      arith,
      most_append (run inside (at + 1)) (items.next_object x end ∷ items.back (at + 1) ∷ []),
      few inside (at + 1),
    )

children_few : (at : ℕ) (x : Variable) (o : Operand) (body n : ℕ) (run : Exits → ℕ → List Item) → ((e : Exits) (m : ℕ)
    → most_of (run e m) ≤ n)
    → most_of (children_items at x o body run) ≤ n + 75
children_few at x o body n run few =
    let end = at + 3 + body + 4 in
    let inside = exits_to (at + 3 + body) end in
    let rest = relative_items relatives.Sibling (items.variable x) x end ++ items.back (at + 3) ∷ [] in
    omega (
      arith,
      most_append (relative_items relatives.Child o x end) (run inside (at + 3) ++ rest),
      most_append (run inside (at + 3)) rest,
      few inside (at + 3),
    )

-- in a routine that sees so much of the file
module _ (seen : Seen) where
  each_fits : {n : NameTree} {x : StatementTree} → StatementFits seen x → StatementFits seen (statements.each n x)
  each_fits {n} {x} g =
      let a = resolve_statement seen x in
      record {
        within = λ e at. omega (
          arith,
          each_few at (loop_variable seen n) (action_count a) (statement_weight x)
              (λ inside place. action_items inside place a) (λ inside place. g.within inside place),
        );
      }

  each_in_fits : {p : Position} {n : NameTree} {c : ExpressionTree} {x : StatementTree} → FitsExpression seen c
      → StatementFits seen x
      → StatementFits seen (statements.each_in p n c x)
  each_in_fits {n = n} {c = c} {x = x} f g =
      let v = resolve seen c in
      let a = resolve_statement seen x in
      let y = loop_variable seen n in
      let run = λ (inside : Exits) (place : ℕ). action_items inside place a in
      record {
        within = λ e at.
            let m = at + operand_count v (alone v) in
            omega (
              arith,
              most_append (alone_items at v) (children_items m y (alone v) (action_count a) run),
              few_alone seen c f at,
              children_few m y (alone v) (action_count a) (statement_weight x) run
                  (λ inside place. g.within inside place),
            );
      }

  each_where_fits : {p : Position} {n : NameTree} {c : ExpressionTree} {x : StatementTree} → FitsExpression seen c
      → StatementFits seen x
      → StatementFits seen (statements.each_where p n c x)
  each_where_fits {n = n} {c = c} {x = x} f g =
      let v = resolve seen c in
      let a = resolve_statement seen x in
      let run = λ (inside : Exits) (place : ℕ).
      branch_items place v false (place + branch_count v false + action_count a)
      ++ action_items inside (place + branch_count v false) a in
      record {
        within = λ e at. omega (
          arith,
          each_few at (loop_variable seen n) (branch_count v false + action_count a)
              (expression_weight c + statement_weight x) run (λ inside place. omega (
                arith,
                most_append (branch_items place v false (place + branch_count v false + action_count a))
                    (action_items inside (place + branch_count v false) a),
                few_branch seen c f false place (place + branch_count v false + action_count a),
                g.within inside (place + branch_count v false),
              )),
        );
      }

  pub loop_fits : {ts r : List Lexeme} {l : LoopTree} {x : StatementTree} (p : Position) → IsLoop ts l r
      → StatementFits seen x
      → StatementFits seen (loop_over p l x)
  loop_fits p loop_all g = each_fits g
  loop_fits p (loop_in a) g = each_in_fits (fits_E3 seen a) g
  loop_fits p (loop_where a t) g = each_where_fits (fits_E1 seen a) g
