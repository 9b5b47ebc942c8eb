use Rattle.std.proofs.Common.{List, ℕ, ◌++◌, sym, ap, ◌∙◌, arith}
use Rattle.code_drafts.specs.Code.{item_of, items_of}
use Rattle.code_drafts.specs.Written.{addresses_of, sizes_in}
use Rattle.code.proofs.Codes.{left_count, offset_is}
use Rattle.code.proofs.Copies.{between_is, none_copied, settled_copied, other_copied, all_copied}
use Rattle.code.proofs.routine.put_items.Goals as goal

pub offset_of-offset-requires-clause-few : goal.offset_of-offset-requires-clause-few
offset_of-offset-requires-clause-few c =
    let n = left_count (sizes_in c.args.sizes.now) c.args.left.now c.args.items.now c.requires.left in
    omega (arith, n, c.loop-number-test.true)

pub size_between-run-requires-clause-first : goal.size_between-run-requires-clause-first
size_between-run-requires-clause-first c =
    let n = left_count (sizes_in c.args.sizes.now) c.args.left.now c.args.items.now c.requires.left in
    omega (arith, n, c.loop-number-test.true, c.loop-number.invariant.low)

pub size_between-run-requires-clause-end : goal.size_between-run-requires-clause-end
size_between-run-requires-clause-end c =
    let n = left_count (sizes_in c.args.sizes.now) c.args.left.now c.args.items.now c.requires.left in
    omega (arith, n, c.loop-number-test.true)

pub loop-number-init : goal.loop-number-init
loop-number-init c =
    none_copied (sizes_in c.args.sizes.now) (addresses_of c.args.addresses.now) c.args.items.now c.args.bytes.now.items
    c.args.kept.now c.requires.kept

pub returns : goal.returns
returns c =
    all_copied (sizes_in c.args.sizes.now) (addresses_of c.args.addresses.now) c.args.items.now
    c.loop-number.bytes.items c.loop-number.rest.now _ c.extend_from_slice-2.new.self.items c.loop-number.start
    c.loop-number.number c.loop-number.invariant c.loop-number-test.false c.in_ok-extend_from_slice-2.ensures.items

pub loop-number-preserved : goal.loop-number-preserved
loop-number-preserved c =
    let x = c.index-items-number.result in
    let xs = c.args.items.now in
    let sizes = sizes_in c.args.sizes.now in
    other_copied sizes (addresses_of c.args.addresses.now) xs c.loop-number.bytes.items c.loop-number.rest.now _
    c.extend_from_slice.new.self.items c.put_item.new.bytes.items c.from-rest.result.now c.loop-number.start
    c.loop-number.number c.size_between-run.result c.offset_of-offset.result x (item_of x) c.loop-number.invariant
    c.loop-number-test.true (ap item_of c.index-items-number.is)
    (sym c.is_settled.ensures ∙ c.if-is_settled.false)
    (c.size_between-run.ensures ∙ between_is sizes c.args.left.now (items_of xs) c.loop-number.start
    c.loop-number.number c.requires.left)
    (c.in_ok-extend_from_slice.ensures.items ∙ ap (λ (l : List ℕ). c.loop-number.bytes.items ++ l) c.front.ensures)
    (c.offset_of-offset.ensures ∙ offset_is sizes c.args.near c.args.left.now (items_of xs) c.loop-number.number
    (item_of x) c.requires.near c.requires.left)
    c.in_ok-put_item.ensures c.from-rest.ensures

pub loop-number-preserved-then-is_settled : goal.loop-number-preserved-then-is_settled
loop-number-preserved-then-is_settled c =
    let x = c.index-items-number.result in
    settled_copied (sizes_in c.args.sizes.now) (addresses_of c.args.addresses.now) c.args.items.now
    c.loop-number.bytes.items c.loop-number.rest.now _ c.loop-number.start c.loop-number.number x (item_of x)
    c.loop-number.invariant c.loop-number-test.true (ap item_of c.index-items-number.is)
    (sym c.is_settled.ensures ∙ c.if-is_settled.true)
