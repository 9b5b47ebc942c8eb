-- The pages of a store: page p has the cells 64p to 64p + 63, as far as the store goes.
use Rattle.std.specs.Prelude.{◌≡◌, ℕ, ◌+◌, ◌-◌, ◌*◌, ◌/◌, ◌<◌, ◌≤◌, min, nat_lt, Bool, true, false, eqb, List, [], ◌∷◌}
use Rattle.std.specs.Prelude.{◌++◌, length, map, take, drop, slice_index, slice_index_or, if◌then◌else◌}
use Rattle.std.specs.List.{All, IsDistinct, filter, flat_map, list_any, range_with_len, zip}
use Rattle.journal.specs.Swap.{Fits}

-- how many cells a page has, where the store goes on behind it
abbrev pub whole_page : ℕ
whole_page = 64

-- how many cells page p has, in a store of n cells
unfoldable pub page_len : ℕ → ℕ → ℕ
page_len n p = min whole_page (n - p * whole_page)

-- the cells of page p, in a store of n cells
abbrev pub page_cells : ℕ → ℕ → List ℕ
page_cells n p = range_with_len (p * whole_page) (page_len n p)

-- the cells of pages, in a store of n cells
abbrev pub cells_of : ℕ → List ℕ → List ℕ
cells_of n pages = flat_map (page_cells n) pages

-- how many pages may hold words; in all pages behind them each cell is a byte
abbrev pub word_pages : ℕ
word_pages = 1134

-- no cell behind those pages holds more than a byte
abbrev pub HoldsBytes : (ℕ → ℕ) → Type 0
HoldsBytes bounds = (i : ℕ) → word_pages * whole_page ≤ i → bounds i ≤ 255

-- the values of so many cells, from one on
abbrev pub run_of : List ℕ → ℕ → ℕ → List ℕ
run_of cells first count = take count (drop first cells)

-- cells with these values from one on
abbrev pub put_run : List ℕ → ℕ → List ℕ → List ℕ
put_run cells first values = take first cells ++ (values ++ drop (length values) (drop first cells))

-- each value is within the bound of its cell, where the first cell is this
abbrev pub AreWithin : (ℕ → ℕ) → ℕ → List ℕ → Type 0
AreWithin bounds first values = (k : ℕ) → k < length values → slice_index values k ≤ bounds (first + k)

-- how many bytes a record holds for page p, of which the store has so many cells
unfoldable pub packed_len : ℕ → ℕ → ℕ
packed_len p count = if nat_lt p word_pages then count * 2 else count

-- how many it holds for pages, in a store of n cells
abbrev pub packed_size : ℕ → List ℕ → ℕ
packed_size n [] = 0
packed_size n (p ∷ pages) = packed_len p (page_len n p) + packed_size n pages

-- the word at an offset, its low byte first
abbrev pub word_at : List ℕ → ℕ → ℕ
word_at packed k = slice_index packed (k * 2) + slice_index packed (k * 2 + 1) * 256

-- the first words that bytes stand for
abbrev pub words_of : ℕ → List ℕ → List ℕ
words_of count packed = map (word_at packed) (range_with_len 0 count)

-- the values of the first cells of page p, for which a record holds these bytes
unfoldable pub page_unpacked : ℕ → ℕ → List ℕ → List ℕ
page_unpacked p count packed = if nat_lt p word_pages then words_of count packed else packed

-- the values of pages, for which a record holds these bytes, one page behind the other
abbrev pub values_of : ℕ → List ℕ → List ℕ → List ℕ
values_of n [] packed = []
values_of n (p ∷ pages) packed =
    let size : ℕ = packed_len p (page_len n p) in
    page_unpacked p (page_len n p) (take size packed) ++ values_of n pages (drop size packed)

-- behind what a record held, it holds the values of the first cells of page p too
pub record IsAdded (p : ℕ) (was now values : List ℕ) : Type 0 where
  pub front : now ≡ was ++ drop (length was) now
  pub size : length (drop (length was) now) ≡ packed_len p (length values)
  pub values_are : page_unpacked p (length values) (drop (length was) now) ≡ values

-- pages with the values of their cells, as entries
abbrev pub entries_of : ℕ → List ℕ → List ℕ → List (ℕ × ℕ)
entries_of n pages packed = zip (cells_of n pages) (values_of n pages packed)

-- the values of the first cells of page p
abbrev pub page_values : List ℕ → ℕ → ℕ → List ℕ
page_values cells p count = map (slice_index cells) (range_with_len (p * whole_page) count)

-- the first cells of a page with these values, as entries
abbrev pub page_entries : ℕ → List ℕ → List (ℕ × ℕ)
page_entries p values = zip (range_with_len (p * whole_page) (length values)) values

-- whether a page is among them
abbrev pub keeps : List ℕ → ℕ → Bool
keeps pages p = list_any (eqb p) pages

-- the page of each of so many cells, from one on, is among them
abbrev pub KeepsCells : List ℕ → ℕ → ℕ → Type 0
KeepsCells pages first count = (k : ℕ) → first ≤ k → k < first + count → keeps pages (k / whole_page) ≡ true

-- the first pages, whose flags stand in place
abbrev pub pages_in_place : ℕ
pages_in_place = 2176

-- how many numbers of pages a list has in place
abbrev pub numbers_in_place : ℕ
numbers_in_place = 6

-- with page p among them
abbrev pub with_page : List ℕ → ℕ → List ℕ
with_page pages p = if keeps pages p then pages else pages ++ p ∷ []

-- distinct pages of a store of n cells, with all that a record holds of their values
pub record IsPaged (n : ℕ) (pages packed : List ℕ) : Type 0 where
  pub distinct : IsDistinct eqb pages
  pub named : All (λ p. p * whole_page < n) pages
  pub size : length packed ≡ packed_size n pages

-- the flags tell which pages are kept
abbrev pub IsMarked : List Bool → List ℕ → Type 0
IsMarked flags pages = (p : ℕ) → slice_index_or flags p false ≡ keeps pages p

-- the same pages are flagged as before; those behind the end of the flags are not
abbrev pub IsMarkedAs : List Bool → List Bool → Type 0
IsMarkedAs was now = (p : ℕ) → slice_index_or now p false ≡ slice_index_or was p false

-- what a turn holds: distinct pages with a value for each cell, each value within its cell's bound, and flags that
-- tell which pages these are
pub record IsHeld (n : ℕ) (bounds : ℕ → ℕ) (flags : List Bool) (pages packed : List ℕ) : Type 0 where
  pub paged : IsPaged n pages packed
  pub fits : Fits n bounds (entries_of n pages packed)
  pub marked : IsMarked flags pages

-- whether flags mark a page
abbrev pub is_flagged : List Bool → ℕ → Bool
is_flagged flags p = slice_index_or flags p false

-- the pages that flags mark
abbrev pub flagged : List Bool → List ℕ
flagged flags = filter (is_flagged flags) (range_with_len 0 (length flags))

-- only cells of pages that are kept may have other values than before
pub record WritesKept (is_kept : ℕ → Bool) (was now : List ℕ) : Type 0 where
  pub size : length now ≡ length was
  pub others : (i : ℕ) → is_kept (i / whole_page) ≡ false → slice_index now i ≡ slice_index was i

-- cells with 0 in place of each whose page is kept: so much of them stays as long as no other page is written
unfoldable pub outside : (ℕ → Bool) → List ℕ → List ℕ
outside is_kept cells =
    map (λ i. if is_kept (i / whole_page) then 0 else slice_index cells i) (range_with_len 0 (length cells))
