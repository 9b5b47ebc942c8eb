-- Cells of a picture, and the text that was looked at.
use Rattle.std.proofs.Common.{◌≡◌, ◌≤◌, ℕ, ◌+◌, ◌-◌, Bool, true, false, List, [], ◌∷◌, ◌++◌, length, take, drop, ap, sym, ◌∙◌}
use Rattle.std.proofs.Common.{append-nil, arith, min, max, refl, Result, Ok, Err}
use Rattle.std.specs.Prelude.{OnOk, if◌then◌else◌, replicate}
use Rattle.std.proofs.lemmas.List.{drop-drop, drop_min, length-drop, take_all, take_min}
use Rattle.zcore_standard.specs.Streams.{between, characters_in}
use Rattle.machine_picture.specs.Picture.{Picture, at_cursor, blank_picture, cell_at, drawn, drawn_beside, is_inside, padded}
use Rattle.machine_picture.specs.Picture.{picture_from, with_cell, with_character, with_text}

pub padded_still : (count : ℕ) (cells : List ℕ) → count ≤ length cells → cells ≡ padded count cells
padded_still count cells le =
    let none : count - length cells ≡ 0 = omega (arith, le) in
    sym (ap (λ n. cells ++ replicate n 32) none ∙ append-nil cells)

pub padded_grown : (count n : ℕ) (cells now : List ℕ) → length cells ≤ count → n ≡ length cells
    → now ≡ take count cells ++ replicate (count - n) 32 → now ≡ padded count cells
padded_grown count n cells now le e is =
    is ∙ ap (λ l. l ++ replicate (count - n) 32) (take_all count cells le)
    ∙ ap (λ k. cells ++ replicate (count - k) 32) e

-- the text

pub looks_from : (seen from : ℕ) (text : List ℕ) → from ≡ min seen (length text) → drop from text ≡ drop seen text
looks_from seen from text e = ap (λ n. drop n text) e ∙ drop_min seen text

-- the part that is of a table, and the rest

first_part : (seen until from to : ℕ) (text : List ℕ) → from ≡ min seen (length text)
    → to ≡ min (max until from) (length text) → take (to - from) (drop from text) ≡ take (until - seen) (drop seen text)
first_part seen until from to text e f =
    let part = drop from text in
    let size : to - from ≡ min (until - seen) (length part) = omega (arith, e, f, length-drop from text) in
    ap (λ n. take n part) size ∙ take_min (until - seen) part ∙ ap (take (until - seen)) (looks_from seen from text e)

rest_part : (seen until from to : ℕ) (text : List ℕ) → from ≡ min seen (length text)
    → to ≡ min (max until from) (length text)
    → take (length text - to) (drop to text) ≡ drop (until - seen) (drop seen text)
rest_part seen until from to text e f =
    let place : to ≡ min (seen + (until - seen)) (length text) = omega (arith, e, f) in
    take_all (length text - to) (drop to text) (omega (arith, length-drop to text)) ∙ ap (λ n. drop n text) place
    ∙ drop_min (seen + (until - seen)) text ∙ sym (drop-drop (until - seen) seen text)

pub looked_away : (is_drawn : Bool) (text : List ℕ) (p q : Picture) → is_drawn ≡ false
    → q ≡ record p { seen = length text } → q ≡ with_text is_drawn text p
unfolding with_text
looked_away false text p q e is = is
looked_away true text p q e is = absurd (cc)

pub looked : (is_drawn : Bool) (text : List ℕ) (from to : ℕ) (first rest : List ℕ) (p mid last q : Picture)
    → is_drawn ≡ true → from ≡ min p.seen (length text) → to ≡ min (max p.until from) (length text)
    → first ≡ take (to - from) (drop from text) → rest ≡ take (length text - to) (drop to text)
    → mid ≡ drawn_beside p.margin (characters_in between first) p → last ≡ drawn (characters_in between rest) mid
    → q ≡ record last { seen = length text } → q ≡ with_text is_drawn text p
unfolding with_text
looked true text from to first rest p mid last q e begin end one two drew more is =
    let with_seen : Picture → Picture = λ r. record r { seen = length text } in
    let table : first ≡ take (p.until - p.seen) (drop p.seen text) = one ∙ first_part p.seen p.until from to text begin end in
    let after : rest ≡ drop (p.until - p.seen) (drop p.seen text) = two ∙ rest_part p.seen p.until from to text begin end in
    is ∙ ap with_seen (more ∙ ap (λ l. drawn (characters_in between l) mid) after
    ∙ ap (drawn (characters_in between (drop (p.until - p.seen) (drop p.seen text))))
    (drew ∙ ap (λ l. drawn_beside p.margin (characters_in between l) p) table))
looked false text from to first rest p mid last q e begin end one two drew more is = absurd (cc)

-- the text with which a picture begins

pub begins_with_nothing : (drawing : List ℕ) (seen : ℕ) (p : Picture) → length drawing ≡ 0 → p ≡ blank_picture seen
    → p ≡ picture_from drawing seen
unfolding drawn characters_in
begins_with_nothing [] seen p e blank = blank
begins_with_nothing (byte ∷ bytes) seen p e blank = absurd (omega (arith, e))

pub begins_with : (drawing : List ℕ) (seen : ℕ) (p q r : Picture) → p ≡ blank_picture seen
    → q ≡ drawn (characters_in between drawing) p → r ≡ at_cursor 1 1 q → r ≡ picture_from drawing seen
begins_with drawing seen p q r blank drew went =
    went ∙ ap (at_cursor 1 1) (drew ∙ ap (drawn (characters_in between drawing)) blank)

-- One character

-- what follows from what holds where no memory was refused
pub on_ok : {E P Q : Type 0} (r : Result (Unit {0}) E) → (P → Q) → OnOk r P → OnOk r Q
on_ok (Ok a) f p = f p
on_ok (Err e) f p = tt

either : (inside : Bool) (b : Bool) (x y : Picture) → b ≡ inside → b ≡ false → y ≡ (if inside then x else y)
either true true x y e f = absurd (cc)
either true false x y e f = absurd (cc)
either false b x y e f = refl

other : (inside : Bool) (b : Bool) (x y : Picture) → b ≡ inside → b ≡ true → x ≡ (if inside then x else y)
other true b x y e f = refl
other false true x y e f = absurd (cc)
other false false x y e f = absurd (cc)

pub drops : (b : Bool) (character : ℕ) (p : Picture) → b ≡ is_inside p → b ≡ false → p ≡ with_character character p
drops b character p e f =
    either (is_inside p) b (record p { cells = with_cell (cell_at p) character p.cells }) p e f

pub puts : (b : Bool) (character at : ℕ) (p : Picture) (now : List ℕ) → b ≡ is_inside p → b ≡ true → at ≡ cell_at p
    → now ≡ with_cell at character p.cells → record p { cells = now } ≡ with_character character p
puts b character at p now e f same is =
    let with_cells : List ℕ → Picture = λ l. record p { cells = l } in
    ap with_cells (is ∙ ap (λ k. with_cell k character p.cells) same)
    ∙ other (is_inside p) b (record p { cells = with_cell (cell_at p) character p.cells }) p e f
