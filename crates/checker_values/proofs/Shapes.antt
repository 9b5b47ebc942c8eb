-- Which tree an expression of the code stands for, by its variant.
use Rattle.std.proofs.Common.{◌≡◌, ℕ, List, Bor, sym, ap, ◌∙◌}
use Rattle.std.specs.Prelude.{map}
use Rattle.std.specs.Global.{Vec, Box}
use Rattle.syntax_lexer.specs.declared.token.Position.{Position}
use Rattle.syntax_trees.specs.declared.tree.Name.{Name}
use Rattle.syntax_trees.specs.declared.tree.Binary.{Binary}
use Rattle.syntax_trees.specs.declared.tree.Comparison.{Comparison}
use Rattle.syntax_trees.specs.declared.tree.Containment.{Containment}
use Rattle.syntax_trees.specs.declared.tree.Equality.{Equality}
use Rattle.syntax_trees.specs.declared.tree.ObjectTest.{ObjectTest}
use Rattle.syntax_trees.specs.declared.tree.Prefix.{Prefix}
use Rattle.syntax_trees.specs.declared.tree.Relative.{Relative}
use Rattle.syntax_trees.specs.declared.tree.Step.{Step}
use Rattle.syntax_trees.specs.declared.tree.Width.{Width}
use Rattle.syntax_trees.specs.declared.tree.Expression.{Expression}
use Rattle.syntax_trees.specs.declared.tree.Expression.TheVariants as from
use Rattle.syntax_trees.specs.declared.tree.Expression.TheFolds.{fold-roll-Expression}
use Rattle.syntax_trees.specs.Tree as trees
use Rattle.syntax_trees.specs.Tree.{ExpressionTree}
use Rattle.syntax_trees.specs.Views.{expression_tree, name_tree, trees_of, propertied, link, layer, chained}

pub is_constant : (e : Expression) (n : ℕ) → e ≡ from.Constant n → expression_tree e ≡ trees.constant n
is_constant e n same = ap expression_tree (same ∙ sym (from.rolls-Constant n))
    ∙ fold-roll-Expression ExpressionTree layer _

pub is_word : (e : Expression) (s : Bor (List ℕ)) → e ≡ from.Word s → expression_tree e ≡ trees.word s.now
is_word e s same = ap expression_tree (same ∙ sym (from.rolls-Word s)) ∙ fold-roll-Expression ExpressionTree layer _

pub is_named : (e : Expression) (n : Name) → e ≡ from.Named n → expression_tree e ≡ trees.named (name_tree n)
is_named e n same = ap expression_tree (same ∙ sym (from.rolls-Named n)) ∙ fold-roll-Expression ExpressionTree layer _

pub is_call : (e : Expression) (n : Box Name) (es : Vec Expression) → e ≡ from.Call n es
    → expression_tree e ≡ trees.call (name_tree n.value) (trees_of (map expression_tree es.items))
is_call e n es same = ap expression_tree (same ∙ sym (from.rolls-Call n es))
    ∙ fold-roll-Expression ExpressionTree layer _

pub is_index : (e : Expression) (n : Name) (w : Width) (i : Box Expression) → e ≡ from.Index n w i
    → expression_tree e ≡ trees.index (name_tree n) w (expression_tree i.value)
is_index e n w i same = ap expression_tree (same ∙ sym (from.rolls-Index n w i))
    ∙ fold-roll-Expression ExpressionTree layer _

pub is_parenthesised : (e : Expression) (i : Box Expression) → e ≡ from.Parenthesised i
    → expression_tree e ≡ trees.parenthesised (expression_tree i.value)
is_parenthesised e i same = ap expression_tree (same ∙ sym (from.rolls-Parenthesised i))
    ∙ fold-roll-Expression ExpressionTree layer _

pub is_relative_of : (e : Expression) (r : Relative) (i : Box Expression) → e ≡ from.RelativeOf r i
    → expression_tree e ≡ trees.relative_of r (expression_tree i.value)
is_relative_of e r i same = ap expression_tree (same ∙ sym (from.rolls-RelativeOf r i))
    ∙ fold-roll-Expression ExpressionTree layer _

pub is_property : (e : Expression) (o : Box Expression) (n : Box Name) (ns : Vec Name) → e ≡ from.Property o n ns
    → expression_tree e ≡ propertied (trees.property (expression_tree o.value) (name_tree n.value)) ns.items
is_property e o n ns same = ap expression_tree (same ∙ sym (from.rolls-Property o n ns))
    ∙ fold-roll-Expression ExpressionTree layer _

pub is_property_length : (e : Expression) (o : Box Expression) (n : Name) → e ≡ from.PropertyLength o n
    → expression_tree e ≡ trees.property_length (expression_tree o.value) (name_tree n)
is_property_length e o n same = ap expression_tree (same ∙ sym (from.rolls-PropertyLength o n))
    ∙ fold-roll-Expression ExpressionTree layer _

pub is_property_entry : (e : Expression) (o : Box Expression) (n : Name) (i : Box Expression)
    → e ≡ from.PropertyEntry o n i → expression_tree e
    ≡ trees.property_entry (expression_tree o.value) (name_tree n) (expression_tree i.value)
is_property_entry e o n i same = ap expression_tree (same ∙ sym (from.rolls-PropertyEntry o n i))
    ∙ fold-roll-Expression ExpressionTree layer _

pub is_prefixed : (e : Expression) (op : Prefix) (i : Box Expression) → e ≡ from.Prefixed op i
    → expression_tree e ≡ trees.prefixed op (expression_tree i.value)
is_prefixed e op i same = ap expression_tree (same ∙ sym (from.rolls-Prefixed op i))
    ∙ fold-roll-Expression ExpressionTree layer _

pub is_step_before : (e : Expression) (op : Step) (p : Position) (i : Box Expression) → e ≡ from.StepBefore op p i
    → expression_tree e ≡ trees.step_before op p (expression_tree i.value)
is_step_before e op p i same = ap expression_tree (same ∙ sym (from.rolls-StepBefore op p i))
    ∙ fold-roll-Expression ExpressionTree layer _

pub is_step_after : (e : Expression) (i : Box Expression) (op : Step) (p : Position) → e ≡ from.StepAfter i op p
    → expression_tree e ≡ trees.step_after (expression_tree i.value) op p
is_step_after e i op p same = ap expression_tree (same ∙ sym (from.rolls-StepAfter i op p))
    ∙ fold-roll-Expression ExpressionTree layer _

pub is_chain : (e : Expression) (a : Box Expression) (op : Binary) (b : Box Expression)
    (ls : Vec (Binary × Expression)) → e ≡ from.Chain a op b ls
    → expression_tree e ≡ chained (trees.binary op (expression_tree a.value) (expression_tree b.value))
    (map link ls.items)
is_chain e a op b ls same = ap expression_tree (same ∙ sym (from.rolls-Chain a op b ls))
    ∙ fold-roll-Expression ExpressionTree layer _

pub is_compare : (e : Expression) (a : Box Expression) (op : Comparison) (b : Box Expression)
    → e ≡ from.Compare a op b → expression_tree e
    ≡ trees.compare op (expression_tree a.value) (expression_tree b.value)
is_compare e a op b same = ap expression_tree (same ∙ sym (from.rolls-Compare a op b))
    ∙ fold-roll-Expression ExpressionTree layer _

pub is_equal : (e : Expression) (a : Box Expression) (op : Equality) (b : Box Expression) (es : Vec Expression)
    → e ≡ from.Equal a op b es → expression_tree e
    ≡ trees.equal op (expression_tree a.value)
    (trees.more (expression_tree b.value) (trees_of (map expression_tree es.items)))
is_equal e a op b es same = ap expression_tree (same ∙ sym (from.rolls-Equal a op b es))
    ∙ fold-roll-Expression ExpressionTree layer _

pub is_contained : (e : Expression) (a : Box Expression) (op : Containment) (b : Box Expression)
    → e ≡ from.Contained a op b → expression_tree e
    ≡ trees.contained op (expression_tree a.value) (expression_tree b.value)
is_contained e a op b same = ap expression_tree (same ∙ sym (from.rolls-Contained a op b))
    ∙ fold-roll-Expression ExpressionTree layer _

pub is_tested : (e : Expression) (o : Box Expression) (test : ObjectTest) (n : Name) → e ≡ from.Tested o test n
    → expression_tree e ≡ trees.tested test (expression_tree o.value) (name_tree n)
is_tested e o test n same = ap expression_tree (same ∙ sym (from.rolls-Tested o test n))
    ∙ fold-roll-Expression ExpressionTree layer _

pub is_assign : (e : Expression) (a : Box Expression) (p : Position) (b : Box Expression) → e ≡ from.Assign a p b
    → expression_tree e ≡ trees.assign (expression_tree a.value) p (expression_tree b.value)
is_assign e a p b same = ap expression_tree (same ∙ sym (from.rolls-Assign a p b))
    ∙ fold-roll-Expression ExpressionTree layer _
