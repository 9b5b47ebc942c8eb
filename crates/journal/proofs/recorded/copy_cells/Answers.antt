use Rattle.std.proofs.Common.{◌*◌, ◌≤◌, ℕ, List, arith, length, slice_index, take}
use Rattle.std.proofs.lemmas.List.FromFn.{length-map-range_with_len}
use Rattle.std.proofs.lemmas.Result.{on_ok_weaker}
use Rattle.journal.specs.Pages.{page_values}
use Rattle.journal.proofs.Packed.{added, appended, bytes_read, packed_len_bytes, packed_len_words, words_read}
use Rattle.journal.proofs.recorded.copy_cells.Goals as goal

pub returns-then-page-lt-WORD_PAGES-clause-ok : goal.returns-then-page-lt-WORD_PAGES-clause-ok
returns-then-page-lt-WORD_PAGES-clause-ok g c =
    let cells : List ℕ = g.C.Cells.cells c.args.store.now in
    let page : ℕ = c.args.page in
    let count : ℕ = c.args.count in
    let values : List ℕ = page_values cells page count in
    let row : List ℕ = c.read_words.new.row in
    let long : 2 * count ≤ length row = omega (arith, c.requires.page, c.read_words.array_long) in
    let read = words_read cells row page count (omega arith) (omega (arith, long)) c.read_words.ensures.read in
    on_ok_weaker c.extend_from_slice.result (λ is. added page count (2 * count) c.args.packed.now.items
    c.extend_from_slice.new.self.items row values long (omega (arith, packed_len_words page count (omega arith)))
    (length-map-range_with_len (slice_index cells) (page * 64) count) read is)
    (appended c.extend_from_slice.result c.extend_from_slice.new.self.items c.args.packed.now.items
    (take (2 * count) row) c.extend_from_slice.ensures.items)

pub returns-else-page-lt-WORD_PAGES-clause-ok : goal.returns-else-page-lt-WORD_PAGES-clause-ok
returns-else-page-lt-WORD_PAGES-clause-ok g c =
    let cells : List ℕ = g.C.Cells.cells c.args.store.now in
    let page : ℕ = c.args.page in
    let count : ℕ = c.args.count in
    let values : List ℕ = page_values cells page count in
    let row : List ℕ = c.read_bytes.new.row in
    let long : count ≤ length row = omega (arith, c.requires.page, c.read_bytes.array_long) in
    let read = bytes_read cells row page count (omega arith) c.read_bytes.ensures.read in
    let was : List ℕ = c.args.packed.now.items in
    let now : List ℕ = c.extend_from_slice-else-page-lt-WORD_PAGES.new.self.items in
    on_ok_weaker c.extend_from_slice-else-page-lt-WORD_PAGES.result (λ is. added page count count was now row values
    long (omega (arith, packed_len_bytes page count (omega arith)))
    (length-map-range_with_len (slice_index cells) (page * 64) count) read is)
    (appended c.extend_from_slice-else-page-lt-WORD_PAGES.result now was (take count row)
    c.extend_from_slice-else-page-lt-WORD_PAGES.ensures.items)
