-- Which tree a `switch` of the code stands for.
use Rattle.std.proofs.Common.{◌≡◌, List, [], ◌∷◌, Option, Some, None, refl, sym, ap, ◌∙◌}
use Rattle.std.specs.Prelude.{map}
use Rattle.std.specs.Global.{Vec, Box}
use Rattle.std.specs.Option.{option_map}
use Rattle.syntax_lexer.specs.declared.token.Position.{Position}
use Rattle.syntax_trees.specs.declared.tree.Expression.{Expression}
use Rattle.syntax_trees.specs.Views.{expression_tree}
use Rattle.syntax_statements.specs.declared.part_tree.Range.{Range}
use Rattle.syntax_statements.specs.PartViews.{range_tree}
use Rattle.syntax_statements.specs.declared.tree.Statement as code
use Rattle.syntax_statements.specs.declared.tree.Statement.{Statement}
use Rattle.syntax_statements.specs.declared.tree.Statement.TheVariants as said
use Rattle.syntax_statements.specs.declared.tree.Statement.TheFolds.{fold-roll-Statement}
use Rattle.syntax_statements.specs.Tree.{StatementTree, switch_on}
use Rattle.syntax_statements.specs.Views.{cases_of, trees_of, layer, statement_tree, case_tree, other_tree}

-- ---- lists, mapped twice

pub mapped_twice : {A B C : Type 0} (f : A → B) (g : B → C) (h : A → C) → ((x : A) → g (f x) ≡ h x) → (xs : List A)
    → map g (map f xs) ≡ map h xs
mapped_twice f g h same [] = refl
mapped_twice f g h same (x ∷ xs) = rw (same x, mapped_twice f g h same xs) refl

-- Cases, and the statements of `default`: they are in one box, through which the fold passes by formers of its own.
folded_cases : (cases : List (Vec Range × Vec Statement)) (other : Option (Vec Statement))
    → cases_of (map (λ c. (map range_tree c.0.items, trees_of c.1.items))
    (map (code.TheShapes.former-Statement-Switch-2-at-3.map _ StatementTree statement_tree) cases))
    (option_map (λ xs. xs.items)
    (code.TheShapes.former-Statement-Switch-2-at-7.map _ StatementTree statement_tree other))
    ≡ cases_of (map case_tree cases) (other_tree other)
unfolding case_tree
folded_cases cases None = ap (λ cs. cases_of cs None) (mapped_twice _ _ case_tree (λ c. refl) cases)
folded_cases cases (Some xs) =
    ap (λ cs. cases_of cs (other_tree (Some xs))) (mapped_twice _ _ case_tree (λ c. refl) cases)

pub is_switch : (p : Position) (e : Box Expression)
    (cases : Box (Vec (Vec Range × Vec Statement) × Option (Vec Statement)))
    → statement_tree (said.Switch p e cases) ≡ switch_on p (expression_tree e.value)
    (cases_of (map case_tree cases.value.0.items) (other_tree cases.value.1))
is_switch p e cases = ap statement_tree (sym (said.rolls-Switch p e cases))
    ∙ fold-roll-Statement StatementTree layer _
    ∙ ap (λ cs. switch_on p (expression_tree e.value) cs) (folded_cases cases.value.0.items cases.value.1)
