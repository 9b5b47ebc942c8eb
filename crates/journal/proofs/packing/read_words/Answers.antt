use Rattle.std.proofs.Common.{◌≡◌, ◌+◌, ◌*◌, ◌≤◌, ℕ, slice_index, ap, arith, refl, ◌∙◌}
use Rattle.journal.proofs.Packed.{words_more}
use Rattle.journal.proofs.Pages.{below_next}
use Rattle.journal.proofs.packing.read_words.Goals as goal

pub cell_of-requires-clause-within : goal.cell_of-requires-clause-within
cell_of-requires-clause-within g c = omega (arith, c.len-len.ensures.count, c.requires.cells)

pub offsets-preserved : goal.offsets-preserved
offsets-preserved g c =
    let f = slice_index (g.C.Cells.cells c.args.store.now) in
    let b = g.C.Cells.bounds c.args.store.now in
    let first = c.args.page * 64 in
    let offset = c.offsets.offset in
    let value : c.get-word.result ≡ f (first + offset) = c.get-word.ensures.value ∙ ap f c.cell_of.ensures in
    let here : f (first + offset) ≤ b (first + offset) = rw (value, c.cell_of.ensures) at c.get-word.ensures.within in
    record {
      upto = omega arith;
      read = words_more (λ (k : ℕ). f (first + k)) c.offsets.row _ offset (2 * offset) c.get-word.result
          (omega (arith, c.requires.page)) (omega arith) c.offsets.invariant.read value refl;
      within = below_next f b first offset c.offsets.invariant.within here;
    }
