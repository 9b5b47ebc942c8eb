use Rattle.std.proofs.Common.{sym, ap, ◌∙◌, List}
use Rattle.std.specs.Prelude.{◌||◌, map}
use Rattle.syntax_trees.specs.declared.tree.Binary.{Binary}
use Rattle.meaning.specs.declared.resolved.Value as code_value
use Rattle.meaning.specs.Views.{value_of}
use Rattle.code_drafts.specs.Items as items
use Rattle.code_drafts.specs.Writing.{change_links, link_of}
use Rattle.code_drafts.proofs.Trees.{chain_changes, property_changes}
use Rattle.code_drafts.proofs.operand.+changes.Goals as goal

pub changes-returns-in-Chain : goal.changes-returns-in-Chain
changes-returns-in-Chain t c =
    let z = c.args.variable in
    let first = c.changes-first.ensures
    ∙ ap (λ (e : code_value.Value). items.changes z (value_of e)) c.deref-in-Chain.ensures in
    let second = c.changes-second.ensures
    ∙ ap (λ (e : code_value.Value). items.changes z (value_of e)) c.deref-in-Chain-2.ensures in
    let behind = c.links_change-after.ensures
    ∙ ap (λ (ls : List (Binary × code_value.Value)). change_links z (map link_of ls))
    c.deref-in-Chain-3.ensures.value in
    c.any_of.ensures ∙ ap (λ b. (b || c.changes-second.result) || c.links_change-after.result) first
    ∙ ap (λ b. (items.changes z (value_of c.in-Chain.first.value) || b) || c.links_change-after.result) second
    ∙ ap (λ b. (items.changes z (value_of c.in-Chain.first.value) || items.changes z
    (value_of c.in-Chain.second.value)) || b) behind ∙ sym (chain_changes z _ _ _ _ _ c.in-Chain.is)

pub changes-returns-in-Property : goal.changes-returns-in-Property
changes-returns-in-Property t c =
    let z = c.args.variable in
    c.changes-in-Property.ensures
    ∙ ap (λ (e : code_value.Value). items.changes z (value_of e)) c.deref-in-Property.ensures
    ∙ sym (property_changes z _ _ _ _ c.in-Property.is)
