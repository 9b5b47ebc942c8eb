use Rattle.std.proofs.Common.{◌≤◌, ◌+◌, ◌-◌, ◌^◌, ◌∙◌, min, ap, reverse, arith}
use Rattle.code_instructions.specs.Places.{place_in}
use Rattle.map_lines.proofs.Rising.{mark_more, marks_end, no_marks}
use Rattle.map_lines.proofs.routine.put_marks.Goals as goal

pub loop-mark-init : goal.loop-mark-init
loop-mark-init c = (
  omega arith,
  no_marks c.args.beginning.name.text.now (reverse c.args.left.now) c.args.beginning.address
      (place_in (reverse c.args.left.now) 0) c.args.rows.now.items,
)

pub loop-mark-preserved : goal.loop-mark-preserved
loop-mark-preserved c =
    let item = c.loop-mark.item in
    let next = c.saturating_add-item.result in
    let few = c.loop-mark.invariant.0 in
    let later : c.loop-mark.item ≤ c.saturating_add-item.result = omega (arith, c.saturating_add-item.ensures, few) in (
      omega (arith, c.saturating_add-item.ensures),
      mark_more c.args.beginning.name.text.now (reverse c.args.left.now) c.args.beginning.address
          (place_in (reverse c.args.left.now) item) next c.saturating_add-after.result c.loop-mark.mark-index
          c.args.rows.now.items c.loop-mark.rows.items _ c.row_of.result c.loop-mark.invariant.1
          (c.requires item next later)
          (c.saturating_add-after.ensures ∙ ap (λ n. min (n + 1) (2 ^ 64 - 1)) c.place.ensures.value)
          c.row_of.ensures.routine c.row_of.ensures.address c.in_ok-push.ensures.items,
    )

pub returns : goal.returns
returns c =
    marks_end c.args.beginning.name.text.now (reverse c.args.left.now) c.args.beginning.address _ _ _ _ _ _
    c.loop-mark.invariant.1 (c.requires c.loop-mark.item (2 ^ 64 - 1) c.loop-mark.invariant.0)
    (omega (arith, c.loop-mark-test.false))
