use Rattle.std.proofs.Common.{ap, sym, ◌∙◌, arith, ◌-◌, ◌+◌, ◌<◌, subst}
use Rattle.zcore.specs.Entries.{Sibling}
use Rattle.zcore_versions.specs.SmallObjects.{named_from}
use Rattle.machine_small_entries.proofs.SmallEntries.{link_inside}
use Rattle.machine_small_entries.proofs.Naming.{named_here, named_none, named_on, named_last, left}
use Rattle.machine_small_entries.proofs.named.named_from.Goals as goal

pub returns-then-named-object-clause-same : goal.returns-then-named-object-clause-same
returns-then-named-object-clause-same c =
    let i = c.loop-step in
    sym (named_here c.args.memory.now c.args.table c.args.end c.args.object i.at _ _ c.number-named.ensures
    c.if-named-object.true)
    ∙ ap (named_from c.args.memory.now c.args.table c.args.end c.args.object i.at)
    (sym (left 256 i.step c.loop-step-test.true)) ∙ i.invariant.same

pub returns-then-not-has_entry-clause-same : goal.returns-then-not-has_entry-clause-same
returns-then-not-has_entry-clause-same c =
    let i = c.loop-step in
    sym (named_none c.args.memory.now c.args.table c.args.end c.args.object i.at _ _ c.number-named.ensures
    c.if-named-object.false (sym c.has_entry.ensures ∙ c.if-not-has_entry.true))
    ∙ ap (named_from c.args.memory.now c.args.table c.args.end c.args.object i.at)
    (sym (left 256 i.step c.loop-step-test.true)) ∙ i.invariant.same

pub loop-step-preserved : goal.loop-step-preserved
loop-step-preserved c =
    let i = c.loop-step in
    let there = sym c.has_entry.ensures ∙ c.if-not-has_entry.false in
    let on = named_on c.args.memory.now c.args.table c.args.end c.args.object i.at (256 - (i.step + 1)) _
    c.number-named.ensures c.if-named-object.false there in
    record {
      inside = subst (λ a. a < c.args.end) (sym c.link_place-at.ensures)
          (link_inside c.args.table c.args.end (Sibling c.number-named.result) there);
      same = ap (λ a. named_from c.args.memory.now c.args.table c.args.end c.args.object a (256 - (i.step + 1)))
          c.link_place-at.ensures
          ∙ sym on ∙ ap (named_from c.args.memory.now c.args.table c.args.end c.args.object i.at)
          (sym (left 256 i.step c.loop-step-test.true)) ∙ i.invariant.same;
    }

pub returns-clause-same : goal.returns-clause-same
returns-clause-same c =
    let i = c.loop-step in
    sym (named_last c.args.memory.now c.args.table c.args.end c.args.object i.at (256 - i.step)
    (omega (arith, c.loop-step-test.false))) ∙ i.invariant.same
