-- What is printed and what a `give` sets: what they break and what they resolve to, part by part.
use Rattle.std.proofs.Common.{◌≡◌, ℕ, List, [], ◌∷◌, ◌++◌, Bool, refl, sym, ap, ◌∙◌}
use Rattle.std.specs.Prelude.{map}
use Rattle.std.specs.List.{flat_map}
use Rattle.syntax_trees.specs.declared.tree.Name.{Name}
use Rattle.syntax_statements.specs.declared.part_tree.PrintItem.{PrintItem}
use Rattle.syntax_statements.specs.PartViews.{flag_tree, item_tree}
use Rattle.meaning.proofs.Mapped.{mapped_twice}
use Rattle.meaning.specs.Resolved.{Printed}
use Rattle.checker_values.specs.declared.noting.Tally.{Tally}
use Rattle.checker_values.specs.Noted.{noted}
use Rattle.checker_values.specs.Names.{Seen}
use Rattle.checker_values.specs.Walk.{IsWalked}
use Rattle.checker_statements.specs.Statements.{flag_breaches, resolve_flag, item_breaches, resolve_item}
use Rattle.checker_statements.specs.Walk.{AreItems, own_item_breaches, resolved_item, own_flag_breaches, resolved_flag}
use Rattle.checker_statements.specs.Walk.{AreFlags}

module _ (seen : Seen) where
  flags_break : (xs : List (Bool × Name)) → flat_map (flag_breaches seen.look) (map flag_tree xs)
      ≡ flat_map (own_flag_breaches seen) xs
  flags_break [] = refl
  flags_break (x ∷ xs) = ap (λ b. own_flag_breaches seen x ++ b) (flags_break xs)

  pub flags_walked : (xs : List (Bool × Name)) (found : List (Bool × ℕ)) {m n : Tally}
      → AreFlags seen xs m n found
      → IsWalked (flat_map (flag_breaches seen.look) (map flag_tree xs)) m n found
      (map (resolve_flag seen) (map flag_tree xs))
  flags_walked xs found {m = m} w = record {
    value = w.value ∙ sym (mapped_twice flag_tree (resolve_flag seen) (resolved_flag seen) (λ x. refl) xs);
    breaches = w.breaches ∙ ap (λ b. noted m b) (sym (flags_break xs));
  }

  pub items_break : (xs : List PrintItem) → flat_map (item_breaches seen.look) (map item_tree xs)
      ≡ flat_map (own_item_breaches seen) xs
  items_break [] = refl
  items_break (x ∷ xs) = ap (λ b. own_item_breaches seen x ++ b) (items_break xs)

  pub items_resolve : (xs : List PrintItem) → map (resolve_item seen) (map item_tree xs) ≡ map (resolved_item seen) xs
  items_resolve [] = refl
  items_resolve (x ∷ xs) = ap (λ r. resolved_item seen x ∷ r) (items_resolve xs)

  pub items_walked : (xs : List PrintItem) (found : List Printed) {m n : Tally} → AreItems seen xs m n found
      → IsWalked (flat_map (item_breaches seen.look) (map item_tree xs)) m n found
      (map (resolve_item seen) (map item_tree xs))
  items_walked xs found {m = m} w = record {
    value = w.value ∙ sym (items_resolve xs);
    breaches = w.breaches ∙ ap (λ b. noted m b) (sym (items_break xs));
  }
