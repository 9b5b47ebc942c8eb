use Rattle.std.proofs.Common.{◌≡◌, ◌∙◌, ◌+◌, ◌-◌, ◌++◌, List, ℕ, take, drop, length, sym, ap, arith}
use Rattle.code_drafts.specs.Code.{item_of, items_of}
use Rattle.code_drafts.specs.Written.{sizes_in}
use Rattle.code.specs.Bytes.{least_sum}
use Rattle.code.proofs.BackForms.{lefts_low}
use Rattle.code.proofs.Codes.{part_next, items_length, parts_count, all_sum}
use Rattle.code.proofs.Copies.{settled_kept, other_kept, all_kept}
use Rattle.code.proofs.routine.put_parts.Goals as goal

pub returns-clause-fits : goal.returns-clause-fits
returns-clause-fits c =
    let xs = c.args.items.now in
    let sizes = sizes_in c.args.sizes.now in
    let low = lefts_low sizes c.args.near 0 (items_of xs) in
    let sum = all_sum sizes (length c.loop-item.scratch.bytes.items) (least_sum sizes (items_of xs)) xs
    c.loop-item.item-index c.loop-item-test.false c.loop-item.invariant.1 in
    let count = parts_count sizes c.args.near c.loop-item.scratch.parts.items xs c.loop-item.item-index
    c.loop-item-test.false c.loop-item.invariant.0 in
    omega (
      arith,
      low,
      sum,
      count,
      items_length xs,
      c.loop-item.scratch.bytes.small,
      c.loop-item.scratch.bytes.ok.0,
      c.loop-item.scratch.bytes.ok.1,
      c.loop-item.scratch.parts.small,
      c.loop-item.scratch.parts.ok.0,
      c.loop-item.scratch.parts.ok.1,
    )

pub returns-clause-kept : goal.returns-clause-kept
returns-clause-kept c =
    all_kept (sizes_in c.args.sizes.now) c.args.items.now c.loop-item.kept.items c.loop-item.scratch.bytes.items _
    c.extend_from_slice-2.new.self.items c.loop-item.start c.loop-item.item-index c.loop-item.invariant.2
    c.loop-item-test.false
    (c.in_ok-extend_from_slice-2.ensures.items
    ∙ ap (λ (l : List ℕ). c.loop-item.kept.items ++ l)
    (c.from.ensures ∙ ap (drop c.loop-item.start) c.deref-2.ensures.value))

-- the part and the sum, in both cases, are those of `part_next`; what is kept is by `settled_kept` or `other_kept`
pub loop-item-preserved : goal.loop-item-preserved
loop-item-preserved c =
    let x = c.item-item.result in
    let xs = c.args.items.now in
    let sizes = sizes_in c.args.sizes.now in
    let i = c.loop-item.item-index in
    let b = c.loop-item.scratch.bytes.items in
    let b1 = c.put_item.new.bytes.items in
    let within = c.loop-item-test.true in
    let is = ap item_of c.item-item.is in
    let written = c.in_ok-put_item.ensures in
    let before : c.len-before.result ≡ length b = omega (
      arith,
      c.len-before.ensures,
      c.loop-item.scratch.bytes.ok.0,
    ) in
    let parts = part_next sizes c.args.near b b1 c.loop-item.scratch.parts.items c.push.new.self.items xs i x
    (item_of x) (c.saturating_sub-least.result + c.back_size.result) c.target_of-target.result _ _ within is
    c.loop-item.invariant.0 c.loop-item.invariant.1 written c.target_of-target.ensures
    (omega (
      arith,
      c.saturating_sub-least.ensures,
      c.back_size.ensures,
      c.len.ensures,
      c.len-before.ensures,
      c.label_size.ensures,
      c.loop-item.scratch.bytes.ok.0,
      c.put_item.new.bytes.ok.0,
    )) c.in_ok-push.ensures.items in (
      parts.0,
      parts.1,
      other_kept sizes xs c.loop-item.kept.items b _ b1 c.extend_from_slice.new.self.items c.between.result.now
          c.loop-item.start i c.len-before.result c.len-start.result x (item_of x) c.loop-item.invariant.2 within is
          written (sym c.is_settled.ensures ∙ c.if-is_settled.false) before
          (c.between.ensures
          ∙ ap (λ (l : List ℕ). take (c.len-before.result - c.loop-item.start) (drop c.loop-item.start l))
          c.deref.ensures.value)
          c.in_ok-extend_from_slice.ensures.items
          (omega (arith, c.len-start.ensures, c.put_item.new.bytes.ok.0)),
    )

pub loop-item-preserved-then-is_settled : goal.loop-item-preserved-then-is_settled
loop-item-preserved-then-is_settled c =
    let x = c.item-item.result in
    let xs = c.args.items.now in
    let sizes = sizes_in c.args.sizes.now in
    let i = c.loop-item.item-index in
    let b = c.loop-item.scratch.bytes.items in
    let b1 = c.put_item.new.bytes.items in
    let within = c.loop-item-test.true in
    let is = ap item_of c.item-item.is in
    let written = c.in_ok-put_item.ensures in
    let parts = part_next sizes c.args.near b b1 c.loop-item.scratch.parts.items c.push.new.self.items xs i x
    (item_of x) (c.saturating_sub-least.result + c.back_size.result) c.target_of-target.result _ _ within is
    c.loop-item.invariant.0 c.loop-item.invariant.1 written c.target_of-target.ensures
    (omega (
      arith,
      c.saturating_sub-least.ensures,
      c.back_size.ensures,
      c.len.ensures,
      c.len-before.ensures,
      c.label_size.ensures,
      c.loop-item.scratch.bytes.ok.0,
      c.put_item.new.bytes.ok.0,
    )) c.in_ok-push.ensures.items in (
      parts.0,
      parts.1,
      settled_kept sizes xs c.loop-item.kept.items b _ b1 c.loop-item.start i x (item_of x) c.loop-item.invariant.2
          within is written (sym c.is_settled.ensures ∙ c.if-is_settled.true),
    )

pub returns-clause-sum : goal.returns-clause-sum
returns-clause-sum c =
    let xs = c.args.items.now in
    let sizes = sizes_in c.args.sizes.now in
    all_sum sizes (length c.loop-item.scratch.bytes.items) (least_sum sizes (items_of xs)) xs
    c.loop-item.item-index c.loop-item-test.false c.loop-item.invariant.1
