use Rattle.std.proofs.Common.{◌*◌, ℕ, length, arith, subst, sym}
use Rattle.journal.specs.Pages.{AreWithin}
use Rattle.journal.proofs.Runs.{are_within, exchanged, fit_within}
use Rattle.journal.proofs.record.exchange_bytes.Goals as goal

pub exchange_bytes-requires-clause-within : goal.exchange_bytes-requires-clause-within
exchange_bytes-requires-clause-within g c =
    are_within (length (g.C.Cells.cells c.args.store.now)) (g.C.Cells.bounds c.args.store.now) c.args.page
    c.args.values.now c.requires.fits

pub returns-clause-back : goal.returns-clause-back
returns-clause-back g c =
    (exchanged (g.C.Cells.cells c.args.store.now) c.args.page c.args.values.now
    (g.C.Cells.cells c.exchange_bytes.new.self) c.exchange_bytes.new.values c.requires.cells
    c.exchange_bytes.ensures.cells c.exchange_bytes.ensures.values).back_cells

pub returns-clause-back_entries : goal.returns-clause-back_entries
returns-clause-back_entries g c =
    (exchanged (g.C.Cells.cells c.args.store.now) c.args.page c.args.values.now
    (g.C.Cells.cells c.exchange_bytes.new.self) c.exchange_bytes.new.values c.requires.cells
    c.exchange_bytes.ensures.cells c.exchange_bytes.ensures.values).back_entries

pub returns-clause-forward : goal.returns-clause-forward
returns-clause-forward g c =
    (exchanged (g.C.Cells.cells c.args.store.now) c.args.page c.args.values.now
    (g.C.Cells.cells c.exchange_bytes.new.self) c.exchange_bytes.new.values c.requires.cells
    c.exchange_bytes.ensures.cells c.exchange_bytes.ensures.values).forward_cells

pub returns-clause-forward_entries : goal.returns-clause-forward_entries
returns-clause-forward_entries g c =
    (exchanged (g.C.Cells.cells c.args.store.now) c.args.page c.args.values.now
    (g.C.Cells.cells c.exchange_bytes.new.self) c.exchange_bytes.new.values c.requires.cells
    c.exchange_bytes.ensures.cells c.exchange_bytes.ensures.values).forward_entries

pub returns-clause-fits : goal.returns-clause-fits
returns-clause-fits g c =
    let done = exchanged (g.C.Cells.cells c.args.store.now) c.args.page c.args.values.now
    (g.C.Cells.cells c.exchange_bytes.new.self) c.exchange_bytes.new.values c.requires.cells
    c.exchange_bytes.ensures.cells c.exchange_bytes.ensures.values in
    fit_within (length (g.C.Cells.cells c.exchange_bytes.new.self)) (g.C.Cells.bounds c.exchange_bytes.new.self)
    c.args.page c.exchange_bytes.new.values
    (omega (arith, c.requires.cells, done.size, c.exchange_bytes.auto.values))
    (subst (λ (t : ℕ → ℕ). AreWithin t (c.args.page * 64) c.exchange_bytes.new.values)
    (sym c.exchange_bytes.ensures.bounds) c.exchange_bytes.ensures.within)
