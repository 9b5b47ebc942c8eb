use Rattle.std.proofs.Common.{ap, sym, ◌∙◌, ◌<◌, ◌≤◌, length, subst}
use Rattle.machine_frames.specs.Contents.{memory_of}
use Rattle.zcore.specs.Entries.{Child}
use Rattle.zcore_versions.specs.SmallObjects.{named_from, small_place_of}
use Rattle.machine_small_entries.proofs.SmallEntries.{no_parent, parent_missing, link_missing, link_there, end_inside, link_inside}
use Rattle.machine_versions.proofs.links.test_link.Goals as goal

pub returns-then-parent-eq0 : goal.returns-then-parent-eq0
returns-then-parent-eq0 c = no_parent _ c.args.object c.args.parent c.requires.sound c.if-parent-eq0.true

pub returns-then-not-has_entry : goal.returns-then-not-has_entry
returns-then-not-has_entry c =
    parent_missing c.args.header.now _ c.args.object c.args.parent c.requires c.if-parent-eq0.false
    (sym c.has_entry.ensures ∙ c.if-not-has_entry.true)

pub named_from-requires-clause-end : goal.named_from-requires-clause-end
named_from-requires-clause-end c =
    let memory = c.memory.ensures ∙ ap memory_of c.store.ensures in
    let inside = end_inside c.args.header.now _ c.requires in
    subst (λ m. c.args.header.now.static_base ≤ length m) (sym memory) inside

pub named_from-requires-clause-from : goal.named_from-requires-clause-from
named_from-requires-clause-from c =
    subst (λ a. a < c.args.header.now.static_base) (sym c.link_place-child.ensures)
    (link_inside c.args.header.now.defaults c.args.header.now.static_base (Child c.args.parent)
    (sym c.has_entry.ensures ∙ c.if-not-has_entry.false))

pub returns-in-Some : goal.returns-in-Some
returns-in-Some c =
    let h = c.args.header.now in
    let memory = c.memory.ensures ∙ ap memory_of c.store.ensures in
    link_there h _ c.args.object c.args.parent c.requires c.if-parent-eq0.false c.in-Some.at
    (sym c.has_entry.ensures ∙ c.if-not-has_entry.false)
    (ap (λ m. named_from m h.defaults h.static_base c.args.object (small_place_of h.defaults (Child c.args.parent)) 256)
    (sym memory)
    ∙ ap (λ a. named_from c.memory.result.now h.defaults h.static_base c.args.object a 256)
    (sym c.link_place-child.ensures) ∙ sym c.named_from.ensures.same ∙ c.in-Some.is)

pub returns-in-None : goal.returns-in-None
returns-in-None c =
    let h = c.args.header.now in
    let memory = c.memory.ensures ∙ ap memory_of c.store.ensures in
    link_missing h _ c.args.object c.args.parent c.requires c.if-parent-eq0.false
    (sym c.has_entry.ensures ∙ c.if-not-has_entry.false)
    (ap (λ m. named_from m h.defaults h.static_base c.args.object (small_place_of h.defaults (Child c.args.parent)) 256)
    (sym memory)
    ∙ ap (λ a. named_from c.memory.result.now h.defaults h.static_base c.args.object a 256)
    (sym c.link_place-child.ensures) ∙ sym c.named_from.ensures.same ∙ c.in-None.is)
