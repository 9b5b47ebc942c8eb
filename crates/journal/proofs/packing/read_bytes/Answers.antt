use Rattle.std.proofs.Common.{◌≡◌, ◌+◌, ◌*◌, ◌≤◌, [], slice_index, ap, arith, ◌∙◌}
use Rattle.std.proofs.lemmas.List.{take_more_set}
use Rattle.journal.proofs.Pages.{below_next, run_more}
use Rattle.journal.proofs.packing.read_bytes.Goals as goal

pub cell_of-requires-clause-within : goal.cell_of-requires-clause-within
cell_of-requires-clause-within g c = omega (arith, c.len-len.ensures.count, c.requires.cells)

pub offsets-preserved : goal.offsets-preserved
offsets-preserved g c =
    let f = slice_index (g.C.Cells.cells c.args.store.now) in
    let b = g.C.Cells.bounds c.args.store.now in
    let first = c.args.page * 64 in
    let offset = c.offsets.offset in
    let value : c.get.result ≡ f (first + offset) = c.get.ensures.value ∙ ap f c.cell_of.ensures in
    let here : f (first + offset) ≤ b (first + offset) = rw (value, c.cell_of.ensures) at c.get.ensures.within in
    record {
      upto = omega arith;
      read = take_more_set c.offsets.row offset c.get.result (omega arith)
          ∙ run_more f first offset c.get.result [] _ c.offsets.invariant.read value;
      within = below_next f b first offset c.offsets.invariant.within here;
    }
