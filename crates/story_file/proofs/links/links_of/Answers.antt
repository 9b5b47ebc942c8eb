use Rattle.std.proofs.Common.{◌-◌, ◌<◌, length, sym, arith}
use Rattle.std.specs.Prelude.{map}
use Rattle.std.proofs.lemmas.List.{length-map}
use Rattle.meaning.specs.Views.{object_of}
use Rattle.story_file.proofs.Linked.{linked_more}
use Rattle.story_file.proofs.links.links_of.Goals as goal

pub index-requires : goal.index-requires
index-requires c =
    let xs = c.args.objects.now in
    let i = c.loop-left.left - 1 in
    let lt : i < length xs = omega (arith, c.loop-left-test.true, c.loop-left.invariant.within) in
    let all = length-map xs object_of in
    let earlier = c.requires.placed i (omega (arith, lt, all)) in
    omega (
      arith,
      lt,
      all,
      earlier,
      c.parent_at-parent.ensures,
      c.loop-left.invariant.linked.numbers,
      c.loop-left.first.ok.0,
    )

pub index_mut-requires-in-loop-left : goal.index_mut-requires-in-loop-left
index_mut-requires-in-loop-left c =
    let xs = c.args.objects.now in
    let i = c.loop-left.left - 1 in
    let lt : i < length xs = omega (arith, c.loop-left-test.true, c.loop-left.invariant.within) in
    let all = length-map xs object_of in
    let earlier = c.requires.placed i (omega (arith, lt, all)) in
    omega (
      arith,
      lt,
      all,
      earlier,
      c.parent_at-parent.ensures,
      c.loop-left.invariant.linked.numbers,
      c.loop-left.first.ok.0,
    )

pub loop-left-preserved : goal.loop-left-preserved
loop-left-preserved c =
    let xs = c.args.objects.now in
    let i = c.loop-left.left - 1 in
    let lt : i < length xs = omega (arith, c.loop-left-test.true, c.loop-left.invariant.within) in
    let all = length-map xs object_of in
    let earlier = c.requires.placed i (omega (arith, lt, all)) in
    record {
      within = omega (arith, lt);
      linked = linked_more (map object_of xs) c.loop-left.left i c.parent_at-parent.result c.index.result.now
          c.loop-left.first.items c.loop-left.next.items (omega (arith, c.loop-left-test.true))
          (omega (arith, lt, all)) (sym c.parent_at-parent.ensures)
          (omega (arith, lt, all, earlier, c.parent_at-parent.ensures)) c.index.ensures
          c.loop-left.invariant.linked;
    }
