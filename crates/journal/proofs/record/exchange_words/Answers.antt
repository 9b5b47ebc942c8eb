use Rattle.std.proofs.Common.{◌≡◌, ◌*◌, ◌∙◌, ℕ, List, length, take, drop, ap, arith, subst, sym}
use Rattle.std.proofs.lemmas.List.{length-take-le}
use Rattle.journal.specs.Swap.{Fits, back, forward}
use Rattle.journal.specs.Pages.{AreWithin, page_entries, words_of}
use Rattle.journal.proofs.Runs.{are_within, exchanged, fit_within, packed_front, unpacked_front}
use Rattle.journal.proofs.record.exchange_words.Goals as goal

pub exchange_words-requires-clause-within : goal.exchange_words-requires-clause-within
exchange_words-requires-clause-within g c =
    let n : ℕ = length (g.C.Cells.cells c.args.store.now) in
    let b = g.C.Cells.bounds c.args.store.now in
    let front : take c.args.size c.unpack.new.words ≡ words_of c.args.size c.args.packed.now =
    unpacked_front c.unpack.new.words c.args.packed.now c.args.size
    (omega (arith, c.requires.page)) c.unpack.ensures.front in
    subst (λ (t : List ℕ). AreWithin b (c.args.page * 64) t) (sym front)
    (are_within n b c.args.page (words_of c.args.size c.args.packed.now) c.requires.fits)

pub returns-clause-back : goal.returns-clause-back
returns-clause-back g c =
    let words : List ℕ = c.unpack.new.words in
    let was : List ℕ = words_of c.args.size c.args.packed.now in
    let front : take c.args.size words ≡ was = unpacked_front words c.args.packed.now c.args.size
    (omega (arith, c.requires.page)) c.unpack.ensures.front in
    let size : length c.exchange_words.new.values ≡ c.args.size = c.exchange_words.auto.values
    ∙ length-take-le c.args.size words (omega (arith, c.requires.page)) in
    let behind : words_of c.args.size c.pack.new.packed ≡ c.exchange_words.new.values = packed_front
    c.exchange_words.new.values (drop c.args.size words) c.pack.new.packed c.args.size size c.pack.ensures in
    let done = exchanged (g.C.Cells.cells c.args.store.now) c.args.page (take c.args.size words)
    (g.C.Cells.cells c.exchange_words.new.self) c.exchange_words.new.values
    (omega (arith, c.requires.cells, size, c.exchange_words.auto.values)) c.exchange_words.ensures.cells
    c.exchange_words.ensures.values in
    done.back_cells
    ∙ ap (λ (t : List ℕ). (back (g.C.Cells.cells c.args.store.now) (page_entries c.args.page t)).cells) front

pub returns-clause-back_entries : goal.returns-clause-back_entries
returns-clause-back_entries g c =
    let words : List ℕ = c.unpack.new.words in
    let was : List ℕ = words_of c.args.size c.args.packed.now in
    let front : take c.args.size words ≡ was = unpacked_front words c.args.packed.now c.args.size
    (omega (arith, c.requires.page)) c.unpack.ensures.front in
    let size : length c.exchange_words.new.values ≡ c.args.size = c.exchange_words.auto.values
    ∙ length-take-le c.args.size words (omega (arith, c.requires.page)) in
    let behind : words_of c.args.size c.pack.new.packed ≡ c.exchange_words.new.values = packed_front
    c.exchange_words.new.values (drop c.args.size words) c.pack.new.packed c.args.size size c.pack.ensures in
    let done = exchanged (g.C.Cells.cells c.args.store.now) c.args.page (take c.args.size words)
    (g.C.Cells.cells c.exchange_words.new.self) c.exchange_words.new.values
    (omega (arith, c.requires.cells, size, c.exchange_words.auto.values)) c.exchange_words.ensures.cells
    c.exchange_words.ensures.values in
    ap (λ (t : List ℕ). page_entries c.args.page t) behind ∙ done.back_entries
    ∙ ap (λ (t : List ℕ). (back (g.C.Cells.cells c.args.store.now) (page_entries c.args.page t)).entries) front

pub returns-clause-forward : goal.returns-clause-forward
returns-clause-forward g c =
    let words : List ℕ = c.unpack.new.words in
    let was : List ℕ = words_of c.args.size c.args.packed.now in
    let front : take c.args.size words ≡ was = unpacked_front words c.args.packed.now c.args.size
    (omega (arith, c.requires.page)) c.unpack.ensures.front in
    let size : length c.exchange_words.new.values ≡ c.args.size = c.exchange_words.auto.values
    ∙ length-take-le c.args.size words (omega (arith, c.requires.page)) in
    let behind : words_of c.args.size c.pack.new.packed ≡ c.exchange_words.new.values = packed_front
    c.exchange_words.new.values (drop c.args.size words) c.pack.new.packed c.args.size size c.pack.ensures in
    let done = exchanged (g.C.Cells.cells c.args.store.now) c.args.page (take c.args.size words)
    (g.C.Cells.cells c.exchange_words.new.self) c.exchange_words.new.values
    (omega (arith, c.requires.cells, size, c.exchange_words.auto.values)) c.exchange_words.ensures.cells
    c.exchange_words.ensures.values in
    done.forward_cells
    ∙ ap (λ (t : List ℕ). (forward (g.C.Cells.cells c.args.store.now) (page_entries c.args.page t)).cells) front

pub returns-clause-forward_entries : goal.returns-clause-forward_entries
returns-clause-forward_entries g c =
    let words : List ℕ = c.unpack.new.words in
    let was : List ℕ = words_of c.args.size c.args.packed.now in
    let front : take c.args.size words ≡ was = unpacked_front words c.args.packed.now c.args.size
    (omega (arith, c.requires.page)) c.unpack.ensures.front in
    let size : length c.exchange_words.new.values ≡ c.args.size = c.exchange_words.auto.values
    ∙ length-take-le c.args.size words (omega (arith, c.requires.page)) in
    let behind : words_of c.args.size c.pack.new.packed ≡ c.exchange_words.new.values = packed_front
    c.exchange_words.new.values (drop c.args.size words) c.pack.new.packed c.args.size size c.pack.ensures in
    let done = exchanged (g.C.Cells.cells c.args.store.now) c.args.page (take c.args.size words)
    (g.C.Cells.cells c.exchange_words.new.self) c.exchange_words.new.values
    (omega (arith, c.requires.cells, size, c.exchange_words.auto.values)) c.exchange_words.ensures.cells
    c.exchange_words.ensures.values in
    ap (λ (t : List ℕ). page_entries c.args.page t) behind ∙ done.forward_entries
    ∙ ap (λ (t : List ℕ). (forward (g.C.Cells.cells c.args.store.now) (page_entries c.args.page t)).entries) front

pub returns-clause-fits : goal.returns-clause-fits
returns-clause-fits g c =
    let words : List ℕ = c.unpack.new.words in
    let was : List ℕ = words_of c.args.size c.args.packed.now in
    let front : take c.args.size words ≡ was = unpacked_front words c.args.packed.now c.args.size
    (omega (arith, c.requires.page)) c.unpack.ensures.front in
    let size : length c.exchange_words.new.values ≡ c.args.size = c.exchange_words.auto.values
    ∙ length-take-le c.args.size words (omega (arith, c.requires.page)) in
    let behind : words_of c.args.size c.pack.new.packed ≡ c.exchange_words.new.values = packed_front
    c.exchange_words.new.values (drop c.args.size words) c.pack.new.packed c.args.size size c.pack.ensures in
    let done = exchanged (g.C.Cells.cells c.args.store.now) c.args.page (take c.args.size words)
    (g.C.Cells.cells c.exchange_words.new.self) c.exchange_words.new.values
    (omega (arith, c.requires.cells, size, c.exchange_words.auto.values)) c.exchange_words.ensures.cells
    c.exchange_words.ensures.values in
    let n : ℕ = length (g.C.Cells.cells c.exchange_words.new.self) in
    let b = g.C.Cells.bounds c.exchange_words.new.self in
    let fits : Fits n b (page_entries c.args.page c.exchange_words.new.values) = fit_within n b c.args.page
    c.exchange_words.new.values (omega (arith, c.requires.cells, done.size, size))
    (subst (λ (t : ℕ → ℕ). AreWithin t (c.args.page * 64) c.exchange_words.new.values)
    (sym c.exchange_words.ensures.bounds) c.exchange_words.ensures.within) in
    subst (λ (t : List ℕ). Fits n b (page_entries c.args.page t)) (sym behind) fits
