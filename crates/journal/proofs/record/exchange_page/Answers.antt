use Rattle.std.proofs.Common.{◌∙◌, ℕ, List, length, arith, ap, sym, subst}
use Rattle.journal.specs.Swap.{Fits, back, forward}
use Rattle.journal.specs.Pages.{page_entries}
use Rattle.journal.proofs.Packed.{packed_len_bytes, packed_len_words, unpacked_bytes, unpacked_words}
use Rattle.journal.proofs.record.exchange_page.Goals as goal

pub exchange_words-requires-clause-packed : goal.exchange_words-requires-clause-packed
exchange_words-requires-clause-packed g c = c.requires.packed ∙ packed_len_words c.args.page c.args.size (omega arith)

pub exchange_words-requires-clause-fits : goal.exchange_words-requires-clause-fits
exchange_words-requires-clause-fits g c =
    subst (λ (t : List ℕ). Fits (length (g.C.Cells.cells c.args.store.now)) (g.C.Cells.bounds c.args.store.now) (page_entries c.args.page t)) (unpacked_words c.args.page c.args.size c.args.packed.now (omega arith)) c.requires.fits

pub exchange_bytes-requires-clause-page : goal.exchange_bytes-requires-clause-page
exchange_bytes-requires-clause-page g c =
    omega (arith, c.requires.packed, packed_len_bytes c.args.page c.args.size (omega arith), c.requires.page)

pub exchange_bytes-requires-clause-within : goal.exchange_bytes-requires-clause-within
exchange_bytes-requires-clause-within g c =
    omega (arith, c.requires.packed, packed_len_bytes c.args.page c.args.size (omega arith), c.requires.within)

pub exchange_bytes-requires-clause-cells : goal.exchange_bytes-requires-clause-cells
exchange_bytes-requires-clause-cells g c =
    omega (arith, c.requires.packed, packed_len_bytes c.args.page c.args.size (omega arith), c.requires.cells)

pub exchange_bytes-requires-clause-fits : goal.exchange_bytes-requires-clause-fits
exchange_bytes-requires-clause-fits g c =
    subst (λ (t : List ℕ). Fits (length (g.C.Cells.cells c.args.store.now)) (g.C.Cells.bounds c.args.store.now) (page_entries c.args.page t)) (unpacked_bytes c.args.page c.args.size c.args.packed.now (omega arith)) c.requires.fits

pub returns-then-page-lt-WORD_PAGES-clause-back : goal.returns-then-page-lt-WORD_PAGES-clause-back
returns-then-page-lt-WORD_PAGES-clause-back g c =
    c.exchange_words.ensures.back
    ∙ sym (ap (λ (t : List ℕ). (back (g.C.Cells.cells c.args.store.now) (page_entries c.args.page t)).cells) (unpacked_words c.args.page c.args.size c.args.packed.now (omega arith)))

pub returns-then-page-lt-WORD_PAGES-clause-forward : goal.returns-then-page-lt-WORD_PAGES-clause-forward
returns-then-page-lt-WORD_PAGES-clause-forward g c =
    c.exchange_words.ensures.forward
    ∙ sym (ap (λ (t : List ℕ). (forward (g.C.Cells.cells c.args.store.now) (page_entries c.args.page t)).cells) (unpacked_words c.args.page c.args.size c.args.packed.now (omega arith)))

pub returns-then-page-lt-WORD_PAGES-clause-back_entries : goal.returns-then-page-lt-WORD_PAGES-clause-back_entries
returns-then-page-lt-WORD_PAGES-clause-back_entries g c =
    ap (λ (t : List ℕ). page_entries c.args.page t) (unpacked_words c.args.page c.args.size c.exchange_words.new.packed (omega arith))
    ∙ c.exchange_words.ensures.back_entries
    ∙ sym (ap (λ (t : List ℕ). (back (g.C.Cells.cells c.args.store.now) (page_entries c.args.page t)).entries) (unpacked_words c.args.page c.args.size c.args.packed.now (omega arith)))

pub returns-then-page-lt-WORD_PAGES-clause-forward_entries : goal.returns-then-page-lt-WORD_PAGES-clause-forward_entries
returns-then-page-lt-WORD_PAGES-clause-forward_entries g c =
    ap (λ (t : List ℕ). page_entries c.args.page t) (unpacked_words c.args.page c.args.size c.exchange_words.new.packed (omega arith))
    ∙ c.exchange_words.ensures.forward_entries
    ∙ sym (ap (λ (t : List ℕ). (forward (g.C.Cells.cells c.args.store.now) (page_entries c.args.page t)).entries) (unpacked_words c.args.page c.args.size c.args.packed.now (omega arith)))

pub returns-then-page-lt-WORD_PAGES-clause-fits : goal.returns-then-page-lt-WORD_PAGES-clause-fits
returns-then-page-lt-WORD_PAGES-clause-fits g c =
    subst (λ (t : List ℕ). Fits (length (g.C.Cells.cells c.exchange_words.new.store)) (g.C.Cells.bounds c.exchange_words.new.store)
    (page_entries c.args.page t)) (sym (unpacked_words c.args.page c.args.size c.exchange_words.new.packed (omega arith))) c.exchange_words.ensures.fits

pub returns-else-page-lt-WORD_PAGES-clause-back : goal.returns-else-page-lt-WORD_PAGES-clause-back
returns-else-page-lt-WORD_PAGES-clause-back g c =
    c.exchange_bytes.ensures.back
    ∙ sym (ap (λ (t : List ℕ). (back (g.C.Cells.cells c.args.store.now) (page_entries c.args.page t)).cells) (unpacked_bytes c.args.page c.args.size c.args.packed.now (omega arith)))

pub returns-else-page-lt-WORD_PAGES-clause-forward : goal.returns-else-page-lt-WORD_PAGES-clause-forward
returns-else-page-lt-WORD_PAGES-clause-forward g c =
    c.exchange_bytes.ensures.forward
    ∙ sym (ap (λ (t : List ℕ). (forward (g.C.Cells.cells c.args.store.now) (page_entries c.args.page t)).cells) (unpacked_bytes c.args.page c.args.size c.args.packed.now (omega arith)))

pub returns-else-page-lt-WORD_PAGES-clause-back_entries : goal.returns-else-page-lt-WORD_PAGES-clause-back_entries
returns-else-page-lt-WORD_PAGES-clause-back_entries g c =
    ap (λ (t : List ℕ). page_entries c.args.page t) (unpacked_bytes c.args.page c.args.size c.exchange_bytes.new.values (omega arith))
    ∙ c.exchange_bytes.ensures.back_entries
    ∙ sym (ap (λ (t : List ℕ). (back (g.C.Cells.cells c.args.store.now) (page_entries c.args.page t)).entries) (unpacked_bytes c.args.page c.args.size c.args.packed.now (omega arith)))

pub returns-else-page-lt-WORD_PAGES-clause-forward_entries : goal.returns-else-page-lt-WORD_PAGES-clause-forward_entries
returns-else-page-lt-WORD_PAGES-clause-forward_entries g c =
    ap (λ (t : List ℕ). page_entries c.args.page t) (unpacked_bytes c.args.page c.args.size c.exchange_bytes.new.values (omega arith))
    ∙ c.exchange_bytes.ensures.forward_entries
    ∙ sym (ap (λ (t : List ℕ). (forward (g.C.Cells.cells c.args.store.now) (page_entries c.args.page t)).entries) (unpacked_bytes c.args.page c.args.size c.args.packed.now (omega arith)))

pub returns-else-page-lt-WORD_PAGES-clause-fits : goal.returns-else-page-lt-WORD_PAGES-clause-fits
returns-else-page-lt-WORD_PAGES-clause-fits g c =
    subst (λ (t : List ℕ). Fits (length (g.C.Cells.cells c.exchange_bytes.new.store)) (g.C.Cells.bounds c.exchange_bytes.new.store)
    (page_entries c.args.page t)) (sym (unpacked_bytes c.args.page c.args.size c.exchange_bytes.new.values (omega arith))) c.exchange_bytes.ensures.fits
