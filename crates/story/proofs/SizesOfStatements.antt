-- The code of statements that branch or print is no longer than their trees weigh.
use Rattle.std.proofs.Common.{◌≤◌, ◌+◌, ◌-◌, ℕ, true, false, List, [], ◌∷◌, ◌++◌, map, Option, arith}
use Rattle.std.specs.Option.{option_map}
use Rattle.syntax_lexer.specs.declared.token.Position.{Position}
use Rattle.syntax_lexer.specs.Token.{Lexeme}
use Rattle.syntax_trees.specs.Tree.{ExpressionTree}
use Rattle.syntax_statements.specs.PartTree.{PrintItemTree}
use Rattle.syntax_statements.specs.PartGrammar.{IsItem, item_text, item_character, item_object, item_number, IsItems}
use Rattle.syntax_statements.specs.PartGrammar.{items_last, items_comma, IsOptional, optional_none, optional_some}
use Rattle.syntax_statements.specs.Tree.{StatementTree, StatementTrees}
use Rattle.syntax_statements.specs.Tree as statements
use Rattle.syntax_directives.specs.Weight.{item_weight, item_weights, optional_weight, statement_weight}
use Rattle.syntax_directives.specs.Weight.{statement_weights, expression_weight}
use Rattle.checker_values.specs.Names.{Seen}
use Rattle.checker_values.specs.Expressions.{resolve}
use Rattle.checker_statements.specs.Statements.{resolve_item, resolve_statement, resolve_statements}
use Rattle.code_drafts.specs.Items.{nowhere, branch_count, alone, branch_items, alone_items}
use Rattle.code_drafts.specs.Items as items
use Rattle.code_items.specs.Statements.{printed_count, printed_items, prints_items, once_count, test_count, once_items}
use Rattle.code_items.specs.Statements.{test_items, return_true, action_count, Exits, exits_to, action_items}
use Rattle.code_items.specs.Statements.{actions_items, until_count, until_items}
use Rattle.story.proofs.Most.{most_of, most_append, until_small}
use Rattle.story.proofs.SizesOfExpressions.{fits_E, few_value, few_branch, few_alone, FitsExpression}

-- in a routine that sees so much of the file
module _ (seen : Seen) where
  pub record PrintedFits (i : PrintItemTree) : Type 0 where
    pub within : (at : ℕ) → most_of (printed_items at (resolve_item seen i)) ≤ item_weight i

  pub record PrintedFit (is : List PrintItemTree) : Type 0 where
    pub within : (at : ℕ) → most_of (prints_items at (map (resolve_item seen) is)) ≤ item_weights is

  fits_Item : {ts r : List Lexeme} {i : PrintItemTree} → IsItem ts i r → PrintedFits i
  fits_Item item_text = record { within = λ at. omega arith }
  fits_Item (item_character {e = e} a) =
      record {
        within = λ at. omega (
          arith,
          most_append (alone_items at (resolve seen e)) (items.print_character (alone (resolve seen e)) ∷ []),
          few_alone seen e (fits_E seen a) at,
        );
      }
  fits_Item (item_number {e = e} a) =
      record {
        within = λ at. omega (
          arith,
          most_append (alone_items at (resolve seen e)) (items.print_number (alone (resolve seen e)) ∷ []),
          few_alone seen e (fits_E seen a) at,
        );
      }
  fits_Item (item_object {e = e} a) =
      record {
        within = λ at. omega (
          arith,
          most_append (alone_items at (resolve seen e)) (items.print_name (alone (resolve seen e)) ∷ []),
          few_alone seen e (fits_E seen a) at,
        );
      }

  none_printed : PrintedFit []
  none_printed = record { within = λ at. omega arith }

  more_printed : {i : PrintItemTree} {is : List PrintItemTree} → PrintedFits i → PrintedFit is → PrintedFit (i ∷ is)
  more_printed {i} {is} a b =
      let first = resolve_item seen i in
      let rest = map (resolve_item seen) is in
      record {
        within = λ at. omega (
          arith,
          most_append (printed_items at first) (prints_items (at + printed_count first) rest),
          a.within at,
          b.within (at + printed_count first),
        );
      }

  pub fits_Items : {ts r : List Lexeme} {is : List PrintItemTree} → IsItems ts is r → PrintedFit is
  fits_Items (items_last a) = more_printed (fits_Item a) none_printed
  fits_Items (items_comma a b) = more_printed (fits_Item a) (fits_Items b)

  pub record StatementFits (x : StatementTree) : Type 0 where
    pub within : (e : Exits) (at : ℕ) → most_of (action_items e at (resolve_statement seen x)) ≤ statement_weight x

  pub record BodyFits (xs : StatementTrees) : Type 0 where
    pub within : (e : Exits) (at : ℕ)
        → most_of (actions_items e at (resolve_statements seen xs)) ≤ statement_weights xs

  pub text_fits : {bytes : List ℕ} → StatementFits (statements.text_alone bytes)
  text_fits = record { within = λ e at. omega arith }

  pub print_return_fits : {is : List PrintItemTree} → PrintedFit is → StatementFits (statements.print_return is)
  print_return_fits {is} a = record {
    within =
        λ e at. omega (
          arith,
          most_append (prints_items at (map (resolve_item seen) is)) (items.new_line ∷ return_true ∷ []),
          a.within at,
        );
  }

  pub if_fits : {p : Position} {c : ExpressionTree} {x : StatementTree} → FitsExpression seen c → StatementFits x
      → StatementFits (statements.if_then p c x)
  if_fits {c = c} {x = x} f g =
      let v = resolve seen c in
      let a = resolve_statement seen x in
      record {
        within = λ e at.
            let n = at + branch_count v false in
            let end = n + action_count a in
            omega (
              arith,
              most_append (branch_items at v false end) (action_items e n a),
              few_branch seen c f false at end,
              g.within e n,
            );
      }

  pub if_else_fits : {p : Position} {c : ExpressionTree} {x y : StatementTree} → FitsExpression seen c → StatementFits x
      → StatementFits y
      → StatementFits (statements.if_else p c x y)
  if_else_fits {c = c} {x = x} {y = y} f g h =
      let v = resolve seen c in
      let a = resolve_statement seen x in
      let b = resolve_statement seen y in
      record {
        within = λ e at.
            let n = at + branch_count v false in
            let second = n + action_count a + 1 in
            let rest = items.jump (second + action_count b) ∷ action_items e second b in
            omega (
              arith,
              most_append (branch_items at v false second) (action_items e n a ++ rest),
              most_append (action_items e n a) rest,
              few_branch seen c f false at second,
              g.within e n,
              h.within e second,
            );
      }

  pub while_fits : {p : Position} {c : ExpressionTree} {x : StatementTree} → FitsExpression seen c → StatementFits x
      → StatementFits (statements.while_do p c x)
  while_fits {c = c} {x = x} f g =
      let v = resolve seen c in
      let a = resolve_statement seen x in
      record {
        within = λ e at.
            let n = at + branch_count v false in
            let end = n + action_count a + 1 in
            let inside = exits_to (n + action_count a) end in
            omega (
              arith,
              most_append (branch_items at v false end) (action_items inside n a ++ items.back at ∷ []),
              most_append (action_items inside n a) (items.back at ∷ []),
              few_branch seen c f false at end,
              g.within inside n,
            );
      }

  pub do_fits : {p : Position} {x : StatementTree} {c : ExpressionTree} → StatementFits x → FitsExpression seen c
      → StatementFits (statements.do_until p x c)
  do_fits {x = x} {c = c} g f =
      let v = resolve seen c in
      let a = resolve_statement seen x in
      record {
        within = λ e at.
            let n = at + action_count a in
            let inside = exits_to n (n + until_count v) in
            let tests = few_branch seen c f true n in
            omega (
              arith,
              most_append (action_items inside at a) (until_items n at v),
              tests n,
              until_small v n at (expression_weight c - 20) (λ end. omega (arith, tests end)),
              g.within inside at,
            );
      }

  -- a part of a `for`, if it is there
  pub record PartFits (c : Option ExpressionTree) : Type 0 where
    pub once : (at : ℕ) → most_of (once_items at (option_map (resolve seen) c)) ≤ optional_weight c
    pub test : (at end : ℕ) → most_of (test_items at (option_map (resolve seen) c) end) ≤ optional_weight c

  pub fits_Optional : {ts r : List Lexeme} {c : Option ExpressionTree} → IsOptional ts c r → PartFits c
  fits_Optional optional_none = record { once = λ at. omega arith; test = λ at end. omega arith }
  fits_Optional (optional_some {e = c} a) =
      let f = fits_E seen a in
      record {
        once = λ at. omega (arith, few_value seen c f nowhere at);
        test = λ at end. omega (arith, few_branch seen c f false at end);
      }

  pub for_fits : {p : Position} {a b c : Option ExpressionTree} {x : StatementTree} → PartFits a → PartFits b
      → PartFits c → StatementFits x → StatementFits (statements.for_loop p a b c x)
  for_fits {a = a} {b = b} {c = c} {x = x} f g h k =
      let before = option_map (resolve seen) a in
      let test = option_map (resolve seen) b in
      let behind = option_map (resolve seen) c in
      let body = resolve_statement seen x in
      record {
        within = λ e at.
            let top = at + once_count before in
            let n = top + test_count test in
            let done = n + action_count body in
            let end = done + once_count behind + 1 in
            let inside = exits_to done end in
            let last = once_items done behind ++ items.back top ∷ [] in
            omega (
              arith,
              most_append (once_items at before)
                  (test_items top test end ++ (action_items inside n body ++ last)),
              most_append (test_items top test end) (action_items inside n body ++ last),
              most_append (action_items inside n body) last,
              most_append (once_items done behind) (items.back top ∷ []),
              f.once at,
              g.test top end,
              h.once done,
              k.within inside n,
            );
      }
