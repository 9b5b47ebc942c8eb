use Rattle.std.proofs.Common.{List, map, reverse, slice_index_or, ap, sym, ◌∙◌}
use Rattle.std.specs.Prelude.{◌==◌}
use Rattle.code_items.specs.declared.group.Group as code_group
use Rattle.code_items.specs.Code.{group_of}
use Rattle.code_items.proofs.Tests.{not_empty, test_next, tests_whole}
use Rattle.code_items.proofs.cases.put_tests.Goals as goal

pub loop-group-init : goal.loop-group-init
loop-group-init c = λ d g w. w

pub loop-group-preserved : goal.loop-group-preserved
loop-group-preserved c = λ d g w. test_next d _ _ _ c.loop-group.group-index _ g c.args.inside c.args.after
    c.loop-group-test.true c.group-item.is (c.loop-group.invariant d g w) c.in-Ok-put_group.ensures

pub returns : goal.returns
returns c =
    let xs = c.deref.result.now in
    let some = not_empty _ _ (c.is_empty.ensures ∙ ap (λ n. n == 0) (sym c.deref.ensures.len)) c.if-is_empty.false in
    let first = c.index.ensures
    ∙ ap (λ (l : List code_group.Group). slice_index_or l 0 c.index.result.now) (sym c.deref.ensures.value) in
    let same = ap (λ (l : List code_group.Group). reverse (map group_of l)) c.deref.ensures.value
    ∙ c.in-Ok.ensures in
    tests_whole _ _ xs c.index.result.now _ c.loop-group.group-index c.args.inside c.args.after some first same
    c.loop-group-test.false (c.loop-group.invariant _ _ c.in-Ok-put_last.ensures)
