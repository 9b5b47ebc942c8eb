-- What looks at the root of a tree alone finds the same in each chain of operators, and in each row of properties.
use Rattle.std.proofs.Common.{◌≡◌, map, List, [], ◌∷◌, sym, ap, ◌∙◌}
use Rattle.std.specs.Global.{Box, Vec}
use Rattle.syntax_trees.specs.declared.tree.Binary.{Binary}
use Rattle.syntax_trees.specs.declared.tree.Name.{Name}
use Rattle.syntax_trees.specs.declared.tree.Expression.{Expression}
use Rattle.syntax_trees.specs.declared.tree.Expression.TheVariants as from
use Rattle.syntax_trees.specs.declared.tree.Expression.TheFolds.{fold-roll-Expression}
use Rattle.syntax_trees.specs.Tree.{NameTree, ExpressionTree, binary, property}
use Rattle.syntax_trees.specs.Views.{chained, propertied, expression_tree, name_tree, layer, link}
use Rattle.syntax_expressions.proofs.Built.{properties_built}

module _ {A : Type 0} (f : ExpressionTree → A) (x : A) where
  chained_root : ((op : Binary) (a b : ExpressionTree) → x ≡ f (binary op a b)) → (op : Binary) (a b : ExpressionTree)
      (ls : List (Binary × ExpressionTree)) → x ≡ f (chained (binary op a b) ls)
  chained_root same op a b [] = same op a b
  chained_root same op a b (l ∷ ls) = chained_root same l.0 (binary op a b) l.1 ls

  propertied_root : ((e : ExpressionTree) (n : NameTree) → x ≡ f (property e n)) → (e : ExpressionTree) (n : NameTree)
      (ns : List Name) → x ≡ f (propertied (property e n) ns)
  propertied_root same e n [] = same e n
  propertied_root same e n (m ∷ ns) = propertied_root same (property e n) (name_tree m) ns

  pub at_chain : ((op : Binary) (a b : ExpressionTree) → x ≡ f (binary op a b)) → (e : Expression) (a : Box Expression)
      (op : Binary) (b : Box Expression) (ls : Vec (Binary × Expression)) → e ≡ from.Chain a op b ls
      → x ≡ f (expression_tree e)
  at_chain same e a op b ls is = rw (is, built) (chained_root same op (expression_tree a.value)
      (expression_tree b.value) (map link ls.items))
    where
      built : expression_tree (from.Chain a op b ls)
          ≡ chained (binary op (expression_tree a.value) (expression_tree b.value)) (map link ls.items)
      built = ap expression_tree (sym (from.rolls-Chain a op b ls)) ∙ fold-roll-Expression ExpressionTree layer _

  pub at_property : ((e : ExpressionTree) (n : NameTree) → x ≡ f (property e n)) → (e : Expression)
      (o : Box Expression) (n : Box Name) (ns : Vec Name) → e ≡ from.Property o n ns → x ≡ f (expression_tree e)
  at_property same e o n ns is = rw (is, properties_built o n ns)
      (propertied_root same (expression_tree o.value) (name_tree n.value) ns.items)
