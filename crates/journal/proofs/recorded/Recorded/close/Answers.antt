use Rattle.std.proofs.Common.{◌∙◌, ap, arith, length, map, slice_index}
use Rattle.journal.specs.Pages.{cells_of}
use Rattle.journal.proofs.Held.{nothing_held}
use Rattle.journal.proofs.HandedOut.{handed_out}
use Rattle.journal.proofs.recorded.Recorded.close.Goals as goal

pub invariant_of-self : goal.invariant_of-self
invariant_of-self g c = nothing_held (length (g.C.Cells.cells c.self.inside.store))
    (g.C.Cells.bounds c.self.inside.store) c.unmark.new.flags c.replace-pages.new.dest
    c.replace-packed.new.dest.items (c.replace-pages.ensures.after ∙ c.new.ensures)
    (ap (λ v. v.items) c.replace-packed.ensures.after ∙ c.new-2.ensures.items) c.unmark.ensures

pub returns-clause-cells : goal.returns-clause-cells
returns-clause-cells g c =
    let handed = handed_out (g.C.Cells.cells c.self.inside.store) c.self.inside.pages
    c.self.inside.packed.items c.len-len.result c.replace-pages.result c.replace-packed.result.items
    c.of.result c.self.invariant.paged
    c.of.ensures c.len-len.ensures.count c.replace-pages.ensures.value
    (ap (λ v. v.items) c.replace-packed.ensures.value) in
    handed.cells ∙ ap (λ r. cells_of (length (g.C.Cells.cells r.store)) r.kept) c.self.view_is

pub returns-clause-values : goal.returns-clause-values
returns-clause-values g c =
    let handed = handed_out (g.C.Cells.cells c.self.inside.store) c.self.inside.pages
    c.self.inside.packed.items c.len-len.result c.replace-pages.result c.replace-packed.result.items
    c.of.result c.self.invariant.paged
    c.of.ensures c.len-len.ensures.count c.replace-pages.ensures.value
    (ap (λ v. v.items) c.replace-packed.ensures.value) in
    handed.values ∙ ap (λ r. map (slice_index r.beginning) (cells_of (length (g.C.Cells.cells r.store)) r.kept))
    c.self.view_is

pub returns-clause-distinct : goal.returns-clause-distinct
returns-clause-distinct g c =
    let handed = handed_out (g.C.Cells.cells c.self.inside.store) c.self.inside.pages
    c.self.inside.packed.items c.len-len.result c.replace-pages.result c.replace-packed.result.items
    c.of.result c.self.invariant.paged
    c.of.ensures c.len-len.ensures.count c.replace-pages.ensures.value
    (ap (λ v. v.items) c.replace-packed.ensures.value) in
    handed.distinct

pub returns-clause-kept : goal.returns-clause-kept
returns-clause-kept g c =
    let handed = handed_out (g.C.Cells.cells c.self.inside.store) c.self.inside.pages
    c.self.inside.packed.items c.len-len.result c.replace-pages.result c.replace-packed.result.items
    c.of.result c.self.invariant.paged
    c.of.ensures c.len-len.ensures.count c.replace-pages.ensures.value
    (ap (λ v. v.items) c.replace-packed.ensures.value) in
    handed.kept ∙ ap (λ r. length (cells_of (length (g.C.Cells.cells r.store)) r.kept)) c.self.view_is

pub returns-clause-bound : goal.returns-clause-bound
returns-clause-bound g c =
    let handed = handed_out (g.C.Cells.cells c.self.inside.store) c.self.inside.pages
    c.self.inside.packed.items c.len-len.result c.replace-pages.result c.replace-packed.result.items
    c.of.result c.self.invariant.paged
    c.of.ensures c.len-len.ensures.count c.replace-pages.ensures.value
    (ap (λ v. v.items) c.replace-packed.ensures.value) in
    omega (arith, handed.bound, ap (λ r. length (g.C.Cells.cells r.store)) c.self.view_is)
