-- Plain characters that are drawn together.
use Rattle.std.proofs.Common.{◌≡◌, ◌≤◌, ◌<◌, ℕ, ◌+◌, ◌-◌, ◌*◌, ◌==◌, ◌&&◌, Bool, true, false, List, [], ◌∷◌, ◌++◌}
use Rattle.std.proofs.Common.{append_assoc, ap, arith, drop, inl, inr, length, min, refl, slice_index, suc, sym, take, zero, ◌∙◌}
use Rattle.std.specs.Prelude.{if◌then◌else◌, nat_le, nat_lt, replicate, slice_set}
use Rattle.std.specs.List.{list_all, prefix_len}
use Rattle.std.proofs.lemmas.Bool.{and_parts, cases_Bool, le-leb, leb-true, lt-ltb, ltb-true, ne_eqb}
use Rattle.std.proofs.lemmas.List.{drop_all, length-append, length-drop, length-replicate, length-set, length-take-le}
use Rattle.std.proofs.lemmas.List.Sums.{prefix_len-le-length}
use Rattle.std.proofs.lemmas.List.{replicate-append-replicate, set-append_left, take-append-drop, take_all}
use Rattle.zcore_standard.specs.Streams.{between, characters_in}
use Rattle.zcore_standard.specs.Windows.{is_place}
use Rattle.machine_picture.specs.Drawing.{IsRun, is_plain, with_cells}
use Rattle.machine_picture.specs.Picture.{Picture, cell_at, drawn, is_inside, next, padded, put, with_cell, written}
use Rattle.machine_picture.proofs.Cells.{padded_still}
use Rattle.machine_picture.proofs.Putting.{at_byte}

-- The characters of their bytes

plain_is : (byte : ℕ) → is_plain byte ≡ true → (32 ≤ byte) × (byte < 127)
plain_is byte e =
    let h = and_parts (nat_le 32 byte) (nat_lt byte 127) e in (leb-true 32 byte h.0, ltb-true byte 127 h.1)

plain_byte : (byte : ℕ) (bytes : List ℕ) → is_plain byte ≡ true
    → characters_in between (byte ∷ bytes) ≡ byte ∷ characters_in between bytes
unfolding characters_in
plain_byte byte bytes e = rw (lt-ltb byte 128 (omega (arith, (plain_is byte e).1))) refl

plain_bytes : (run rest : List ℕ) → list_all is_plain run ≡ true
    → characters_in between (run ++ rest) ≡ run ++ characters_in between rest
plain_bytes [] rest e = refl
plain_bytes (byte ∷ run) rest e =
    let h = and_parts (is_plain byte) (list_all is_plain run) e in
    plain_byte byte (run ++ rest) h.0 ∙ ap (λ l. byte ∷ l) (plain_bytes run rest h.1)

drawn_append : (xs ys : List ℕ) (p : Picture) → drawn (xs ++ ys) p ≡ drawn ys (drawn xs p)
unfolding drawn
drawn_append [] ys p = refl
drawn_append (x ∷ xs) ys p = drawn_append xs ys (put x p)

-- a run, and the bytes after it
pub run_then : (bytes run rest : List ℕ) (count : ℕ) (p q r : Picture) → IsRun p run → run ≡ take count bytes
    → rest ≡ take (length bytes - count) (drop count bytes) → q ≡ drawn run p
    → r ≡ drawn (characters_in between rest) q → r ≡ drawn (characters_in between bytes) p
run_then bytes run rest count p q r is e f one two =
    let after : rest ≡ drop count bytes = f
    ∙ take_all (length bytes - count) (drop count bytes) (omega (arith, length-drop count bytes)) in
    let all : run ++ rest ≡ bytes = ap (λ l. l ++ rest) e ∙ ap (λ l. take count bytes ++ l) after
    ∙ take-append-drop count bytes in
    two ∙ ap (drawn (characters_in between rest)) one ∙ sym (drawn_append run (characters_in between rest) p)
    ∙ ap (λ l. drawn l p) (sym (plain_bytes run rest is.plain)) ∙ ap (λ l. drawn (characters_in between l) p) all

-- as many bytes as are plain, or fewer

none_plain : (p : ℕ → Bool) (byte : ℕ) (bytes : List ℕ) → p byte ≡ false → prefix_len p (byte ∷ bytes) ≡ 0
none_plain p byte bytes e = rw e refl

one_plain : (p : ℕ → Bool) (byte : ℕ) (bytes : List ℕ) → p byte ≡ true
    → prefix_len p (byte ∷ bytes) ≡ 1 + prefix_len p bytes
one_plain p byte bytes e = rw e refl

both : (x y : Bool) → x ≡ true → y ≡ true → (x && y) ≡ true
both x y e f = ap (λ (t : Bool). t && y) e ∙ f

plain_take : (p : ℕ → Bool) (n : ℕ) (bytes : List ℕ) → n ≤ prefix_len p bytes → list_all p (take n bytes) ≡ true
plain_take p n [] le = ap (list_all p) (take_all n [] (omega arith))
plain_take p zero (byte ∷ bytes) le = refl
plain_take p (suc n) (byte ∷ bytes) le = elim (cases_Bool (p byte)) [
  | inl e ↦ both (p byte) (list_all p (take n bytes)) e
      (plain_take p n bytes (omega (arith, le, one_plain p byte bytes e)))
  | inr e ↦ absurd (omega (arith, le, none_plain p byte bytes e))
]

-- Their cells

abbrev by_line : Bool → ℕ → Picture → Picture
by_line is_new_line character p =
    if is_new_line then record p { row = next p.row; column = 1 } else written character p

abbrev by_place : Bool → ℕ → Picture → Picture
by_place inside character p = record (
    if inside then record p { cells = with_cell (cell_at p) character p.cells } else p) { column = next p.column }

abbrev in_row : Picture → List ℕ → ℕ → Picture
in_row p cells column = record p { cells = cells; column = column }

one_put : (character : ℕ) (p : Picture) → is_plain character ≡ true → is_inside p ≡ true
    → put character p ≡ in_row p (with_cell (cell_at p) character p.cells) (next p.column)
one_put character p e inside =
    let h = plain_is character e in
    ap (λ (t : Bool). by_line t character p) (ne_eqb character 10 (λ same. omega (arith, h.0, same)))
    ∙ ap (λ (t : Bool). by_place t character p) inside

run_drawn : (run : List ℕ) (p : Picture) → IsRun p run
    → drawn run p ≡ in_row p (with_cells (cell_at p) run p.cells) (p.column + length run)
unfolding drawn
run_drawn [] p is = ap (in_row p p.cells) (omega arith)
run_drawn (character ∷ run) p is =
    let plain = and_parts (is_plain character) (list_all is_plain run) is.plain in
    let inside = is.inside (omega arith) in
    let fits = is.fits (omega arith) in
    let places = and_parts (is_place p.row) (is_place p.column) inside in
    let column = and_parts (nat_le 1 p.column) (nat_le p.column 255) places.1 in
    let first = leb-true 1 p.column column.0 in
    let cells = with_cell (cell_at p) character p.cells in
    let q : Picture = in_row p cells (p.column + 1) in
    let step : put character p ≡ q =
    one_put character p plain.0 inside ∙ ap (in_row p cells) (omega (arith, fits)) in
    let more : IsRun q run = record {
      plain = plain.1;
      inside = λ some. both (is_place p.row) (is_place (p.column + 1)) places.0
          (both (nat_le 1 (p.column + 1)) (nat_le (p.column + 1) 255) (le-leb 1 (p.column + 1) (omega arith))
          (le-leb (p.column + 1) 255 (omega (arith, some, fits))));
      fits = λ some. omega (arith, fits);
    } in
    let at : cell_at q ≡ cell_at p + 1 = omega (arith, first) in
    let end : p.column + 1 + length run ≡ p.column + length (character ∷ run) = omega arith in
    ap (drawn run) step ∙ run_drawn run q more
    ∙ ap (λ n. in_row p (with_cells n run cells) (p.column + 1 + length run)) at
    ∙ ap (in_row p (with_cells (cell_at p + 1) run cells)) end

pub run_taken : (bytes : List ℕ) (count : ℕ) (p : Picture) → is_inside p ≡ true → count ≤ prefix_len is_plain bytes
    → count ≤ 256 - p.column → IsRun p (take count bytes)
run_taken bytes count p inside le fits =
    let places = and_parts (is_place p.row) (is_place p.column) inside in
    let column = and_parts (nat_le 1 p.column) (nat_le p.column 255) places.1 in
    let last = leb-true p.column 255 column.1 in
    let long = length-take-le count bytes (omega (arith, le, prefix_len-le-length is_plain bytes)) in
    record {
      plain = plain_take is_plain count bytes le;
      inside = λ some. inside;
      fits = λ some. omega (arith, long, fits, last);
    }

pub none_drawn : (run : List ℕ) (p : Picture) → length run ≡ 0 → p ≡ drawn run p
unfolding drawn
none_drawn [] p e = refl
none_drawn (character ∷ run) p e = absurd (omega (arith, e))

pub run_put : (run now : List ℕ) (at : ℕ) (p : Picture) → IsRun p run → at ≡ cell_at p → now ≡ with_cells at run p.cells
    → in_row p now (p.column + length run) ≡ drawn run p
run_put run now at p is same put =
    ap (λ l. in_row p l (p.column + length run)) (put ∙ ap (λ n. with_cells n run p.cells) same)
    ∙ sym (run_drawn run p is)

-- Blank cells that are added before they are written

length_padded : (m : ℕ) (cells : List ℕ) → m ≤ length (padded m cells)
length_padded m cells =
    omega (arith, length-append cells (replicate (m - length cells) 32), length-replicate {A = ℕ} (m - length cells) 32)

padded_twice : (k m : ℕ) (cells : List ℕ) → k ≤ m → padded m (padded k cells) ≡ padded m cells
padded_twice k m cells le =
    let a = k - length cells in
    let q = padded k cells in
    let n : a + (m - length q) ≡ m - length cells =
    omega (arith, le, length-append cells (replicate a 32), length-replicate {A = ℕ} a 32) in
    append_assoc cells (replicate a 32) (replicate (m - length q) 32)
    ∙ ap (λ l. cells ++ l) (replicate-append-replicate {A = ℕ} a (m - length q) 32)
    ∙ ap (λ b. cells ++ replicate b 32) n

set_padded : (at character m : ℕ) (cells : List ℕ) → at + 1 ≤ m
    → with_cell at character (padded m cells) ≡ padded m (with_cell at character cells)
set_padded at character m cells le =
    let q = padded (at + 1) cells in
    let long = length_padded (at + 1) cells in
    ap (λ l. slice_set l at character)
    (sym (padded_still (at + 1) (padded m cells) (omega (arith, le, length_padded m cells)))
    ∙ sym (padded_twice (at + 1) m cells le))
    ∙ set-append_left q (replicate (m - length q) 32) at character (omega (arith, long))
    ∙ ap (λ n. slice_set q at character ++ replicate (m - n) 32) (sym (length-set q at character))

padded_first : (at m character : ℕ) (run cells : List ℕ) → m ≡ at + length (character ∷ run)
    → with_cells at (character ∷ run) (padded m cells) ≡ with_cells at (character ∷ run) cells
padded_first at m character [] cells e =
    ap (λ l. slice_set l at character)
    (sym (padded_still (at + 1) (padded m cells) (omega (arith, e, length_padded m cells))))
    ∙ ap (λ n. slice_set (padded n cells) at character) (omega (arith, e))
padded_first at m character (second ∷ run) cells e =
    ap (with_cells (at + 1) (second ∷ run)) (set_padded at character m cells (omega (arith, e)))
    ∙ padded_first (at + 1) m second run (with_cell at character cells) (omega (arith, e))

pub padded_run : (at m : ℕ) (run cells : List ℕ) → 1 ≤ length run → m ≡ at + length run
    → with_cells at run (padded m cells) ≡ with_cells at run cells
padded_run at m [] cells some e = absurd (omega (arith, some))
padded_run at m (character ∷ run) cells some e = padded_first at m character run cells e

-- one cell of them is written
pub set_more : (at i byte : ℕ) (run now all : List ℕ) → i < length run → at + length run ≤ length now
    → byte ≡ slice_index run i → with_cells (at + i) (drop i run) now ≡ all
    → with_cells (at + (i + 1)) (drop (i + 1) run) (slice_set now (at + i) byte) ≡ all
set_more at i byte run now all lt long is so =
    let rest = drop (i + 1) run in
    let n : at + (i + 1) ≡ at + i + 1 = omega arith in
    ap (λ k. with_cells k rest (slice_set now (at + i) byte)) n
    ∙ ap (λ l. with_cells (at + i + 1) rest (slice_set l (at + i) byte))
    (padded_still (at + i + 1) now (omega (arith, lt, long)))
    ∙ sym (ap (λ l. with_cells (at + i) l now) (at_byte run i byte lt is)) ∙ so

pub set_all : (at i : ℕ) (run now all : List ℕ) → length run ≤ i → with_cells (at + i) (drop i run) now ≡ all → now ≡ all
set_all at i run now all le so = sym (ap (λ l. with_cells (at + i) l now) (drop_all i run le)) ∙ so
