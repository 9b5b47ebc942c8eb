use Rattle.std.proofs.Common.{◌≡◌, map, drop}
use Rattle.meaning.specs.Views.{value_of, values_of}
use Rattle.code_drafts.specs.Items as items
use Rattle.code_drafts.specs.Writing.{change_links, link_of}
use Rattle.code_drafts.proofs.operand.+changes.Given as goal

abbrev pub invariant-change-loop-value : goal.invariant-change-loop-value
invariant-change-loop-value l = items.change l.variable (values_of (map value_of l.values))
    ≡ items.change l.variable (values_of (map value_of (drop l.value-index l.values)))

abbrev pub invariant-links_change-loop-operand : goal.invariant-links_change-loop-operand
invariant-links_change-loop-operand l = change_links l.variable (map link_of l.links)
    ≡ change_links l.variable (map link_of (drop l.operand-index l.links))
