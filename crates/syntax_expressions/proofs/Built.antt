-- Trees of what the code builds.
use Rattle.std.proofs.Common.{◌≡◌, List, ◌∷◌, [], ◌++◌, refl, sym, ap, ◌∙◌}
use Rattle.std.specs.Prelude.{map}
use Rattle.std.specs.Global.{Box, Vec}
use Rattle.syntax_trees.specs.declared.tree.Name.{Name}
use Rattle.syntax_trees.specs.declared.tree.Binary.{Binary}
use Rattle.syntax_trees.specs.declared.tree.Expression.{Expression}
use Rattle.syntax_trees.specs.declared.tree.Expression.TheVariants as from
use Rattle.syntax_trees.specs.declared.tree.Expression.TheFolds.{fold-roll-Expression}
use Rattle.syntax_trees.specs.Tree as trees
use Rattle.syntax_trees.specs.Tree.{ExpressionTree, binary}
use Rattle.syntax_trees.specs.Views.{expression_tree, name_tree, propertied, layer, chained, link}

pub properties_built : (e : Box Expression) (n : Box Name) (ns : Vec Name)
    → expression_tree (from.Property e n ns)
    ≡ propertied (trees.property (expression_tree e.value) (name_tree n.value)) ns.items
properties_built e n ns = ap expression_tree (sym (from.rolls-Property e n ns))
    ∙ fold-roll-Expression ExpressionTree layer _

chain_built : (a : Box Expression) (op : Binary) (b : Box Expression) (ls : Vec (Binary × Expression))
    → expression_tree (from.Chain a op b ls)
    ≡ chained (binary op (expression_tree a.value) (expression_tree b.value)) (map link ls.items)
chain_built a op b ls = ap expression_tree (sym (from.rolls-Chain a op b ls))
    ∙ fold-roll-Expression ExpressionTree layer _

-- a chain with one more operator and operand
chained_push : (e : ExpressionTree) (ls : List (Binary × Expression)) (op : Binary) (x : Expression)
    → chained e (map link (ls ++ (op, x) ∷ [])) ≡ binary op (chained e (map link ls)) (expression_tree x)
chained_push e [] op x = refl
chained_push e (l ∷ ls) op x = chained_push (binary l.0 e (expression_tree l.1)) ls op x

pub longer_built : (e x : Expression) (a b : Box Expression) (op next : Binary) (ls ms : Vec (Binary × Expression))
    → e ≡ from.Chain a op b ls → ms.items ≡ ls.items ++ (next, x) ∷ []
    → expression_tree (from.Chain a op b ms) ≡ binary next (expression_tree e) (expression_tree x)
longer_built e x a b op next ls ms same more = chain_built a op b ms
    ∙ (rw more
    (chained_push (binary op (expression_tree a.value) (expression_tree b.value)) ls.items next x)
    ∙ ap (λ (t : ExpressionTree). binary next t (expression_tree x))
    (sym (ap expression_tree same ∙ chain_built a op b ls)))
