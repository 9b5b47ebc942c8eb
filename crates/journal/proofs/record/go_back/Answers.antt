use Rattle.std.proofs.Common.{◌≡◌, ◌+◌, ◌-◌, ℕ, List, ◌++◌, length, get_or, take, drop, refl, ap, sym, subst}
use Rattle.std.proofs.Common.{◌∙◌, arith}
use Rattle.std.proofs.lemmas.List.{take_all, with_items_is}
use Rattle.journal.specs.Swap.{Fits}
use Rattle.journal.specs.Pages.{cells_of, packed_size, page_entries, page_unpacked, values_of}
use Rattle.journal.proofs.Packed.{length-values_of}
use Rattle.journal.proofs.PackedSwaps.{length-packed_row, length-packed_with}
use Rattle.journal.proofs.PackedSwaps.{packed_back_ends, packed_before, packed_fits}
use Rattle.journal.proofs.PackedSwaps.{packed_gone_back, packed_inside, start_of}
use Rattle.journal.proofs.Steps.{GoneBack, back_starts}
use Rattle.journal.proofs.record.go_back.Goals as goal

pub pages-init : goal.pages-init
pages-init g c =
    let all = length-values_of c.args.len c.args.pages.now c.args.packed.now.items c.requires.paged.size in
    let whole = take_all (length c.args.pages.now) c.args.pages.now (omega arith) in
    record {
      upto = omega arith;
      at = omega (arith, c.requires.paged.size, ap (λ (t : List ℕ). packed_size c.args.len t) whole);
      long = c.requires.paged.size;
      back = back_starts (length (g.C.Cells.cells c.args.store.now)) (g.C.Cells.bounds c.args.store.now) (cells_of c.args.len c.args.pages.now)
          (values_of c.args.len c.args.pages.now c.args.packed.now.items) (g.C.Cells.cells c.args.store.now)
          (start_of c.args.len c.args.pages.now (length c.args.pages.now)) all
          (ap (λ (t : List ℕ). length (cells_of c.args.len t)) whole ∙ sym all) c.requires.fits;
      same_len = refl;
      same_bounds = refl;
      same_fixed = refl;
    }

pub overflow_sub-at : goal.overflow_sub-at
overflow_sub-at g c =
    (packed_before c.args.len c.args.pages.now c.pages.packed.items c.pages.packed.items c.pages.slot c.pages.at
    c.packed_size-width.result c.page_size-size.result (omega arith) c.pages.invariant.upto c.pages.invariant.at
    c.pages.invariant.long c.page_size-size.ensures.result c.packed_size-width.ensures refl).0

pub slice_bounds-exchange_page-end : goal.slice_bounds-exchange_page-end
slice_bounds-exchange_page-end g c =
    let here = packed_before c.args.len c.args.pages.now c.pages.packed.items c.deref_mut.result.now c.pages.slot
    c.pages.at c.packed_size-width.result c.page_size-size.result (omega arith) c.pages.invariant.upto c.pages.invariant.at
    c.pages.invariant.long c.page_size-size.ensures.result c.packed_size-width.ensures c.deref_mut.ensures.value in
    let there = here.1 in
    omega (
      arith,
      packed_inside c.args.len c.args.pages.now c.deref_mut.result.now (c.pages.slot - 1) (c.pages.at - c.packed_size-width.result) _ there,
      c.deref_mut.type_inv.1,
      here.0,
    )

pub exchange_page-requires-clause-packed : goal.exchange_page-requires-clause-packed
exchange_page-requires-clause-packed g c =
    let size : ℕ = c.page_size-size.result in
    let s : ℕ = (c.pages.slot - 1) in
    let at : ℕ = (c.pages.at - c.packed_size-width.result) in
    let count : ℕ = at + c.packed_size-width.result - at in
    let packed : List ℕ = c.deref_mut.result.now in
    let n : ℕ = length (g.C.Cells.cells c.args.store.now) in
    let b : ℕ → ℕ = g.C.Cells.bounds c.args.store.now in
    let here = packed_before c.args.len c.args.pages.now c.pages.packed.items c.deref_mut.result.now c.pages.slot
    c.pages.at c.packed_size-width.result c.page_size-size.result (omega arith) c.pages.invariant.upto c.pages.invariant.at
    c.pages.invariant.long c.page_size-size.ensures.result c.packed_size-width.ensures c.deref_mut.ensures.value in
    let there = here.1 in
    omega (
      arith,
      length-packed_row c.args.len c.args.pages.now packed s at count there,
      c.packed_size-width.ensures,
    )

pub exchange_page-requires-clause-cells : goal.exchange_page-requires-clause-cells
exchange_page-requires-clause-cells g c =
    let size : ℕ = c.page_size-size.result in
    let s : ℕ = (c.pages.slot - 1) in
    let at : ℕ = (c.pages.at - c.packed_size-width.result) in
    let count : ℕ = at + c.packed_size-width.result - at in
    let packed : List ℕ = c.deref_mut.result.now in
    let n : ℕ = length (g.C.Cells.cells c.args.store.now) in
    let b : ℕ → ℕ = g.C.Cells.bounds c.args.store.now in
    let here = packed_before c.args.len c.args.pages.now c.pages.packed.items c.deref_mut.result.now c.pages.slot
    c.pages.at c.packed_size-width.result c.page_size-size.result (omega arith) c.pages.invariant.upto c.pages.invariant.at
    c.pages.invariant.long c.page_size-size.ensures.result c.packed_size-width.ensures c.deref_mut.ensures.value in
    let there = here.1 in
    let fit = packed_fits c.args.len n b c.args.pages.now packed s at count size there c.requires.paged.named
    c.page_size-size.ensures.result
    (subst (λ (t : List ℕ). GoneBack n b (cells_of c.args.len c.args.pages.now)
    (values_of c.args.len c.args.pages.now c.args.packed.now.items) (g.C.Cells.cells c.args.store.now)
    (start_of c.args.len c.args.pages.now c.pages.slot) (g.C.Cells.cells c.pages.store)
    (values_of c.args.len c.args.pages.now t)) (sym c.deref_mut.ensures.value) c.pages.invariant.back).fits in
    omega (arith, fit.1, c.pages.invariant.same_len)

pub exchange_page-requires-clause-fits : goal.exchange_page-requires-clause-fits
exchange_page-requires-clause-fits g c =
    let size : ℕ = c.page_size-size.result in
    let s : ℕ = (c.pages.slot - 1) in
    let at : ℕ = (c.pages.at - c.packed_size-width.result) in
    let count : ℕ = at + c.packed_size-width.result - at in
    let packed : List ℕ = c.deref_mut.result.now in
    let n : ℕ = length (g.C.Cells.cells c.args.store.now) in
    let b : ℕ → ℕ = g.C.Cells.bounds c.args.store.now in
    let here = packed_before c.args.len c.args.pages.now c.pages.packed.items c.deref_mut.result.now c.pages.slot
    c.pages.at c.packed_size-width.result c.page_size-size.result (omega arith) c.pages.invariant.upto c.pages.invariant.at
    c.pages.invariant.long c.page_size-size.ensures.result c.packed_size-width.ensures c.deref_mut.ensures.value in
    let there = here.1 in
    let fit = packed_fits c.args.len n b c.args.pages.now packed s at count size there c.requires.paged.named
    c.page_size-size.ensures.result
    (subst (λ (t : List ℕ). GoneBack n b (cells_of c.args.len c.args.pages.now)
    (values_of c.args.len c.args.pages.now c.args.packed.now.items) (g.C.Cells.cells c.args.store.now)
    (start_of c.args.len c.args.pages.now c.pages.slot) (g.C.Cells.cells c.pages.store)
    (values_of c.args.len c.args.pages.now t)) (sym c.deref_mut.ensures.value) c.pages.invariant.back).fits in
    rw (c.pages.invariant.same_len, c.pages.invariant.same_bounds) fit.0

pub pages-preserved : goal.pages-preserved
pages-preserved g c =
    let size : ℕ = c.page_size-size.result in
    let s : ℕ = (c.pages.slot - 1) in
    let at : ℕ = (c.pages.at - c.packed_size-width.result) in
    let count : ℕ = at + c.packed_size-width.result - at in
    let packed : List ℕ = c.deref_mut.result.now in
    let n : ℕ = length (g.C.Cells.cells c.args.store.now) in
    let b : ℕ → ℕ = g.C.Cells.bounds c.args.store.now in
    let row : List ℕ = c.exchange_page.new.packed in
    let whole : List ℕ = take at packed ++ (row ++ drop count (drop at packed)) in
    let cs : List ℕ = cells_of c.args.len c.args.pages.now in
    let was : List ℕ = values_of c.args.len c.args.pages.now c.args.packed.now.items in
    let c0 : List ℕ = g.C.Cells.cells c.args.store.now in
    let here = packed_before c.args.len c.args.pages.now c.pages.packed.items c.deref_mut.result.now c.pages.slot
    c.pages.at c.packed_size-width.result c.page_size-size.result (omega arith) c.pages.invariant.upto c.pages.invariant.at
    c.pages.invariant.long c.page_size-size.ensures.result c.packed_size-width.ensures c.deref_mut.ensures.value in
    let there = here.1 in
    let gone_so_far = subst (λ (t : List ℕ). GoneBack n b cs was c0 (start_of c.args.len c.args.pages.now c.pages.slot)
    (g.C.Cells.cells c.pages.store) (values_of c.args.len c.args.pages.now t)) (sym c.deref_mut.ensures.value)
    c.pages.invariant.back in
    let len : n ≡ length (g.C.Cells.cells c.exchange_page.new.store) = cc in
    let bounds : b ≡ g.C.Cells.bounds c.exchange_page.new.store = cc in
    let fits : Fits n b (page_entries (get_or c.args.pages.now s 0) (page_unpacked (get_or c.args.pages.now s 0) size row)) =
    rw (len, bounds) c.exchange_page.ensures.fits in
    let same : length row ≡ count = c.exchange_page.ensures.size
    ∙ length-packed_row c.args.len c.args.pages.now packed s at count there in
    let all = length-values_of c.args.len c.args.pages.now c.args.packed.now.items c.requires.paged.size in
    let gone = packed_gone_back c.args.len n b was c0 c.args.pages.now packed c.pages.slot s at count size
    (g.C.Cells.cells c.pages.store) (g.C.Cells.cells c.exchange_page.new.store) row gone_so_far all
    (omega arith) there same c.page_size-size.ensures.result c.exchange_page.ensures.back c.exchange_page.ensures.back_entries fits in
    let long : length whole ≡ length packed =
    length-packed_with c.args.len c.args.pages.now packed s at count row there same in
    let items = with_items_is c.pages.packed whole (omega (arith, long, c.deref_mut.ensures.len)) in
    record {
      upto = omega (arith, c.pages.invariant.upto);
      at = there.start;
      long = ap (λ (t : List ℕ). length t) items ∙ long ∙ there.long;
      back = subst (λ (t : List ℕ). GoneBack n b cs was c0 (start_of c.args.len c.args.pages.now s)
          (g.C.Cells.cells c.exchange_page.new.store) (values_of c.args.len c.args.pages.now t)) (sym items) gone;
      same_len = cc;
      same_bounds = cc;
      same_fixed = cc;
    }

pub returns-clause-cells : goal.returns-clause-cells
returns-clause-cells g c =
    (packed_back_ends c.args.len c.args.pages.now c.pages.slot c.pages.invariant.back (omega arith)).0

pub returns-clause-entries : goal.returns-clause-entries
returns-clause-entries g c =
    (packed_back_ends c.args.len c.args.pages.now c.pages.slot c.pages.invariant.back (omega arith)).1

pub returns-clause-paged : goal.returns-clause-paged
returns-clause-paged g c = record {
  distinct = c.requires.paged.distinct;
  named = c.requires.paged.named;
  size = c.pages.invariant.long;
}
