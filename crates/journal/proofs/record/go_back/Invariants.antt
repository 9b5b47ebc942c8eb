use Rattle.std.proofs.Common.{◌≡◌, ◌≤◌, length, take}
use Rattle.journal.specs.Pages.{cells_of, packed_size, values_of}
use Rattle.journal.proofs.PackedSwaps.{start_of}
use Rattle.journal.proofs.Steps.{GoneBack}
use Rattle.journal.proofs.record.go_back.Given as goal

abbrev pub invariant-pages : goal.invariant-pages
invariant-pages g l =
    let cells = g.C.Cells.cells in
    let bounds = g.C.Cells.bounds in
    record {
      upto : l.slot ≤ length l.pages;
      at : l.at ≡ packed_size l.len (take l.slot l.pages);
      long : length l.packed.items ≡ packed_size l.len l.pages;
      back : GoneBack (length (cells l.fn.store)) (bounds l.fn.store) (cells_of l.len l.pages)
          (values_of l.len l.pages l.fn.packed.items) (cells l.fn.store) (start_of l.len l.pages l.slot)
          (cells l.store) (values_of l.len l.pages l.packed.items);
      same_len : length (cells l.store) ≡ length (cells l.fn.store);
      same_bounds : bounds l.store ≡ bounds l.fn.store;
      same_fixed : g.C.Cells.fixed l.store ≡ g.C.Cells.fixed l.fn.store;
    }

abbrev pub decreases-pages : goal.decreases-pages
decreases-pages g l = l.slot
