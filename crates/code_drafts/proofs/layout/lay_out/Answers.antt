use Rattle.std.proofs.Common.{rules, ◌<◌, ◌-◌, ◌∙◌, length, reverse, slice_index_or, refl, subst, sym, ap, arith}
use Rattle.code_drafts.specs.Layout.{bytes_limit, first, part_size}
use Rattle.code_drafts.proofs.Offsets.{no_part, none_placed, next_part, one_placed}
use Rattle.code_drafts.proofs.layout.lay_out.Goals as goal

pub loop-done-init : goal.loop-done-init
loop-done-init c = none_placed c.args.parts.now c.push.new.self.items (search rules)

pub size_of-end-requires-clause-small : goal.size_of-end-requires-clause-small
size_of-end-requires-clause-small c =
    let next = next_part c.args.parts.now c.loop-done.left.items c.loop-done.end c.loop-done.done _
    c.loop-done.invariant c.loop-done-test.true c.requires refl in
    subst (λ l. first (reverse l) < bytes_limit) (sym c.deref.ensures.value) next.small

pub size_of-end-requires-clause-fits : goal.size_of-end-requires-clause-fits
size_of-end-requires-clause-fits c =
    let number = length c.args.parts.now - 1 - c.loop-done.done in
    let next = next_part c.args.parts.now c.loop-done.left.items c.loop-done.end c.loop-done.done number
    c.loop-done.invariant c.loop-done-test.true c.requires refl in
    subst (λ l. part_size number (slice_index_or c.args.parts.now number no_part) (reverse l) < bytes_limit)
    (sym c.deref.ensures.value) (omega (arith, next.fits))

pub overflow_add-end : goal.overflow_add-end
overflow_add-end c =
    let number = length c.args.parts.now - 1 - c.loop-done.done in
    let next = next_part c.args.parts.now c.loop-done.left.items c.loop-done.end c.loop-done.done number
    c.loop-done.invariant c.loop-done-test.true c.requires refl in
    let size = c.size_of-end.ensures
    ∙ ap (λ l. part_size number (slice_index_or c.args.parts.now number no_part) (reverse l))
    c.deref.ensures.value in
    omega (arith, next.fits, size)

pub loop-done-preserved : goal.loop-done-preserved
loop-done-preserved c =
    let number = length c.args.parts.now - 1 - c.loop-done.done in
    let size = c.size_of-end.ensures
    ∙ ap (λ l. part_size number (slice_index_or c.args.parts.now number no_part) (reverse l))
    c.deref.ensures.value in
    one_placed c.args.parts.now c.loop-done.left.items c.push-in-loop-done.new.self.items c.loop-done.end
    c.size_of-end.result c.loop-done.done c.loop-done.invariant c.loop-done-test.true c.requires size
    (search rules)
