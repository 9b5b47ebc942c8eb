-- The text of rows, one after another.
use Rattle.std.proofs.Common.{◌≡◌, ℕ, ◌+◌, ◌-◌, ◌*◌, ◌<◌, ◌≤◌, List, [], ◌∷◌, ◌++◌, length, take, drop, ap, sym, ◌∙◌}
use Rattle.std.proofs.Common.{append_assoc, append-nil, arith, slice_index, suc, min}
use Rattle.std.specs.List.{flat_map, suffix_len}
use Rattle.std.proofs.lemmas.Grind.{flat_map-append}
use Rattle.std.proofs.lemmas.List.{length-drop, take_all, take_min, take_more}
use Rattle.std.proofs.Math.Seq.{drop-drop}
use Rattle.zcore_standard.specs.Windows.{is_new_line, is_space, without_spaces}
use Rattle.machine_picture.specs.Picture.{Picture, picture_text, row_count, row_text, rows_text, without_lines}

-- characters, one more

pub characters_more : (f : ℕ → List ℕ) (old now new cs : List ℕ) (i c : ℕ) → i < length cs → c ≡ slice_index cs i
    → now ≡ old ++ flat_map f (take i cs) → new ≡ now ++ f c → new ≡ old ++ flat_map f (take (i + 1) cs)
characters_more f old now new cs i c lt is so put =
    let x = slice_index cs i in
    let more : flat_map f (take (i + 1) cs) ≡ flat_map f (take i cs) ++ f x =
    ap (flat_map f) (take_more cs i 0 lt) ∙ flat_map-append f (take i cs) (x ∷ [])
    ∙ ap (λ l. flat_map f (take i cs) ++ l) (append-nil (f x)) in
    put ∙ ap (λ l. l ++ f c) so ∙ append_assoc old (flat_map f (take i cs)) (f c)
    ∙ ap (λ k. old ++ (flat_map f (take i cs) ++ f k)) is
    ∙ ap (λ l. old ++ l) (sym more)

pub characters_all : (f : ℕ → List ℕ) (old now cs : List ℕ) (i : ℕ) → length cs ≤ i
    → now ≡ old ++ flat_map f (take i cs) → now ≡ old ++ flat_map f cs
characters_all f old now cs i le so = so ∙ ap (λ l. old ++ flat_map f l) (take_all i cs le)

-- one row of some

row_at : (count row : ℕ) (cells : List ℕ) → row < count
    → rows_text (count - row) (drop (row * 255) cells)
    ≡ row_text (take 255 (drop (row * 255) cells)) ++ rows_text (count - (row + 1)) (drop ((row + 1) * 255) cells)
unfolding rows_text
row_at count row cells lt =
    let rest = drop (row * 255) cells in
    let left : count - row ≡ suc (count - (row + 1)) = omega (arith, lt) in
    let further : row * 255 + 255 ≡ (row + 1) * 255 = omega arith in
    ap (λ n. rows_text n rest) left
    ∙ ap (λ l. row_text (take 255 rest) ++ rows_text (count - (row + 1)) l)
    (drop-drop 255 (row * 255) cells ∙ ap (λ n. drop n cells) further)

-- the cells of a row, of which there may be fewer
row_cells : (from to : ℕ) (cells : List ℕ) → from ≤ length cells → to ≡ min (from + 255) (length cells)
    → take (to - from) (drop from cells) ≡ take 255 (drop from cells)
row_cells from to cells le e =
    let long = length-drop from cells in
    let n : to - from ≡ min 255 (length (drop from cells)) = omega (arith, e, le, long) in
    ap (λ k. take k (drop from cells)) n ∙ take_min 255 (drop from cells)

pub rows_more : (text now all cells row_cells_now : List ℕ) (count row from to : ℕ) → row < count → from ≡ row * 255
    → from ≤ length cells → to ≡ min (from + 255) (length cells) → row_cells_now ≡ take (to - from) (drop from cells)
    → text ++ rows_text (count - row) (drop (row * 255) cells) ≡ all
    → now ≡ text ++ row_text row_cells_now
    → now ++ rows_text (count - (row + 1)) (drop ((row + 1) * 255) cells) ≡ all
rows_more text now all cells part count row from to lt at le e is so put =
    let rest = drop (row * 255) cells in
    let after = rows_text (count - (row + 1)) (drop ((row + 1) * 255) cells) in
    let same : part ≡ take 255 rest = is ∙ row_cells from to cells le e ∙ ap (λ n. take 255 (drop n cells)) at in
    ap (λ l. l ++ after) (put ∙ ap (λ l. text ++ row_text l) same)
    ∙ append_assoc text (row_text (take 255 rest)) after
    ∙ ap (λ l. text ++ l) (sym (row_at count row cells lt)) ∙ so

pub rows_all : (text all cells : List ℕ) (count row : ℕ) → count ≤ row
    → text ++ rows_text (count - row) (drop (row * 255) cells) ≡ all → text ≡ all
unfolding rows_text
rows_all text all cells count row le so =
    let none : count - row ≡ 0 = omega (arith, le) in
    sym (append-nil text) ∙ sym (ap (λ n. text ++ rows_text n (drop (row * 255) cells)) none) ∙ so

pub no_rows_yet : (text cells : List ℕ) (count : ℕ) → text ≡ [] → text ++ rows_text (count - 0) cells ≡ rows_text count cells
no_rows_yet text cells count none =
    let all : count - 0 ≡ count = omega arith in
    ap (λ n. text ++ rows_text n cells) all ∙ ap (λ l. l ++ rows_text count cells) none

-- the text without the newlines at its end

pub trimmed : (text now : List ℕ) (p : Picture) (n k : ℕ) → text ≡ rows_text (row_count p.cells) p.cells → n ≡ length text
    → k ≡ suffix_len is_new_line text → now ≡ take (n - k) text → now ≡ picture_text p
unfolding picture_text without_lines
trimmed text now p n k is long few cut =
    cut ∙ ap (λ m. take (m - k) text) long ∙ ap (λ m. take (length text - m) text) few ∙ ap without_lines is

-- a row without the spaces at its end

pub bare_is : (text : List ℕ) (n : ℕ) → n ≡ length text - suffix_len is_space text → take n text ≡ without_spaces text
unfolding without_spaces
bare_is text n e = ap (λ k. take k text) e
