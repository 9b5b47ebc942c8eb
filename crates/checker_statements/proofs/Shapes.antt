-- Which tree a statement of the code stands for, by its variant.
use Rattle.std.proofs.Common.{◌≡◌, Option, sym, ap, ◌∙◌}
use Rattle.std.specs.Prelude.{map}
use Rattle.std.specs.Global.{Vec, Box}
use Rattle.syntax_lexer.specs.declared.token.Position.{Position}
use Rattle.syntax_trees.specs.declared.tree.Expression.{Expression}
use Rattle.syntax_trees.specs.Views.{expression_tree}
use Rattle.syntax_statements.specs.declared.part_tree.Heading.{Heading}
use Rattle.syntax_statements.specs.declared.part_tree.Loop.{Loop}
use Rattle.syntax_statements.specs.declared.part_tree.Range.{Range}
use Rattle.syntax_statements.specs.PartViews.{heading_tree, loop_tree}
use Rattle.syntax_statements.specs.declared.tree.SimpleStatement.{SimpleStatement}
use Rattle.syntax_statements.specs.declared.tree.Statement.{Statement}
use Rattle.syntax_statements.specs.declared.tree.Statement.TheVariants as said
use Rattle.syntax_statements.specs.declared.tree.Statement.TheFolds.{fold-roll-Statement}
use Rattle.syntax_statements.specs.Tree as written
use Rattle.syntax_statements.specs.Tree.{StatementTree}
use Rattle.syntax_statements.specs.Views.{statement_tree, simple_tree, case_tree, other_tree, layer, trees_of, cases_of}
use Rattle.syntax_statements.proofs.Shapes.{is_switch}

pub is_empty_statement : (s : Statement) → s ≡ said.Empty → statement_tree s ≡ written.empty
is_empty_statement s same = ap statement_tree (same ∙ sym said.rolls-Empty)
    ∙ fold-roll-Statement StatementTree layer _

pub is_simple_statement : (s : Statement) (x : SimpleStatement) → s ≡ said.Simple x
    → statement_tree s ≡ simple_tree x
is_simple_statement s x same = ap statement_tree (same ∙ sym (said.rolls-Simple x))
    ∙ fold-roll-Statement StatementTree layer _

pub is_block_statement : (s : Statement) (all : Vec Statement) → s ≡ said.Block all
    → statement_tree s ≡ written.block (trees_of (map statement_tree all.items))
is_block_statement s all same = ap statement_tree (same ∙ sym (said.rolls-Block all))
    ∙ fold-roll-Statement StatementTree layer _

pub is_if_statement : (s : Statement) (p : Position) (c : Box Expression) (x : Box Statement) → s ≡ said.If p c x
    → statement_tree s ≡ written.if_then p (expression_tree c.value) (statement_tree x.value)
is_if_statement s p c x same = ap statement_tree (same ∙ sym (said.rolls-If p c x))
    ∙ fold-roll-Statement StatementTree layer _

pub is_if_else_statement : (s : Statement) (p : Position) (c : Box Expression) (x y : Box Statement)
    → s ≡ said.IfElse p c x y → statement_tree s
    ≡ written.if_else p (expression_tree c.value) (statement_tree x.value) (statement_tree y.value)
is_if_else_statement s p c x y same = ap statement_tree (same ∙ sym (said.rolls-IfElse p c x y))
    ∙ fold-roll-Statement StatementTree layer _

pub is_while_statement : (s : Statement) (p : Position) (c : Box Expression) (x : Box Statement)
    → s ≡ said.While p c x → statement_tree s ≡ written.while_do p (expression_tree c.value) (statement_tree x.value)
is_while_statement s p c x same = ap statement_tree (same ∙ sym (said.rolls-While p c x))
    ∙ fold-roll-Statement StatementTree layer _

pub is_do_statement : (s : Statement) (p : Position) (x : Box Statement) (c : Box Expression) → s ≡ said.Do p x c
    → statement_tree s ≡ written.do_until p (statement_tree x.value) (expression_tree c.value)
is_do_statement s p x c same = ap statement_tree (same ∙ sym (said.rolls-Do p x c))
    ∙ fold-roll-Statement StatementTree layer _

pub is_for_statement : (s : Statement) (p : Position) (h : Box Heading) (x : Box Statement) → s ≡ said.For p h x
    → statement_tree s ≡ written.for_loop p (heading_tree h.value).before (heading_tree h.value).test
    (heading_tree h.value).after (statement_tree x.value)
is_for_statement s p h x same = ap statement_tree (same ∙ sym (said.rolls-For p h x))
    ∙ fold-roll-Statement StatementTree layer _

pub is_objectloop_statement : (s : Statement) (p : Position) (l : Box Loop) (x : Box Statement)
    → s ≡ said.Objectloop p l x
    → statement_tree s ≡ written.loop_over p (loop_tree l.value) (statement_tree x.value)
is_objectloop_statement s p l x same = ap statement_tree (same ∙ sym (said.rolls-Objectloop p l x))
    ∙ fold-roll-Statement StatementTree layer _

pub is_switch_statement : (s : Statement) (p : Position) (e : Box Expression)
    (cases : Box (Vec (Vec Range × Vec Statement) × Option (Vec Statement))) → s ≡ said.Switch p e cases
    → statement_tree s ≡ written.switch_on p (expression_tree e.value)
    (cases_of (map case_tree cases.value.0.items) (other_tree cases.value.1))
is_switch_statement s p e cases same = ap statement_tree same ∙ is_switch p e cases
