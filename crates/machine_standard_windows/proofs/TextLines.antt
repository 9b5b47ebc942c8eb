-- The lines of a text.
use Rattle.std.proofs.Common.{◌≡◌, ℕ, ◌+◌, ◌-◌, ◌<◌, ◌≤◌, List, [], ◌∷◌, ◌++◌, length, take, drop, reverse, replicate}
use Rattle.std.proofs.Common.{refl, ap, sym, ◌∙◌, arith, Bool, true, false, cond, slice_index}
use Rattle.std.specs.Prelude.{◌==◌, ◌&&◌, nat_lt, not}
use Rattle.std.specs.List.{count_by, prefix_len, suffix_len}
use Rattle.std.proofs.lemmas.Bool.{eqb-true, eq-eqb, ne_eqb, lt-ltb, le-ltb}
use Rattle.std.proofs.lemmas.List.{append-nil, append_assoc, length-append, length-drop, nil_from_length, reverse-append}
use Rattle.std.proofs.lemmas.List.{take_all}
use Rattle.std.proofs.lemmas.List.Sums.{suffix_len-le-length, suffix_len-take_yes, suffix_len-take_no}
use Rattle.std.proofs.Math.Seq.{drop-append-add}
use Rattle.zcore_standard.specs.Windows.{begins_character, is_new_line, is_space, without_spaces, last_line, width}
use Rattle.zcore_standard.specs.Windows.{with_cursor, with_new_line}

-- a byte that ends no line
abbrev pub is_in_line : ℕ → Bool
is_in_line byte = not (is_new_line byte)

-- How many pass from the end back

prefix_stops : (p : ℕ → Bool) (xs ys : List ℕ) → prefix_len p ys ≡ 0 → prefix_len p (xs ++ ys) ≡ prefix_len p xs
prefix_stops p [] ys e = e
prefix_stops p (x ∷ xs) ys e = ap (λ n. cond (p x) (1 + n) 0) (prefix_stops p xs ys e)

suffix_after : (p : ℕ → Bool) (xs ys : List ℕ) → suffix_len p xs ≡ 0 → suffix_len p (xs ++ ys) ≡ suffix_len p ys
suffix_after p xs ys e = ap (prefix_len p) (reverse-append xs ys) ∙ prefix_stops p (reverse ys) (reverse xs) e

-- A walk from the end back, as far as bytes pass

pub record IsPassed (p : ℕ → Bool) (text : List ℕ) (at : ℕ) : Type 0 where
  pub within : at ≤ length text
  pub passed : suffix_len p text ≡ length text - at + suffix_len p (take at text)

-- the walk ends at the front, or at a byte that does not pass
pub passed_front : (p : ℕ → Bool) (text : List ℕ) (at : ℕ) → at ≡ 0 → IsPassed p text at
    → at ≡ length text - suffix_len p text
passed_front p text at e w =
    let none : suffix_len p (take at text) ≡ 0 = ap (λ n. suffix_len p (take n text)) e in
    omega (arith, w.within, w.passed, none)

pub passed_all : (p : ℕ → Bool) (text : List ℕ) (at : ℕ) → 0 < at → p (slice_index text (at - 1)) ≡ false
    → IsPassed p text at → at ≡ length text - suffix_len p text
passed_all p text at some e w =
    let none = suffix_len-take_no p text at 0 some w.within e in
    omega (arith, w.within, w.passed, none)

-- The spaces at the end

pub bare_is : (text : List ℕ) (n : ℕ) → n ≡ length text - suffix_len is_space text → take n text ≡ without_spaces text
unfolding without_spaces
bare_is text n e = ap (λ k. take k text) e

-- The last line

pub last_is : (text : List ℕ) (n : ℕ) → n ≡ length text - suffix_len is_in_line text → drop n text ≡ last_line text
unfolding last_line
last_is text n e = ap (λ k. drop k text) e

length-last_line : (text : List ℕ) → length (last_line text) ≡ suffix_len is_in_line text
unfolding last_line
length-last_line text =
    let le : suffix_len is_in_line text ≤ length text = suffix_len-le-length is_in_line text in
    omega (arith, le, length-drop (length text - suffix_len is_in_line text) text)

-- how many characters it has
pub width_is : (text : List ℕ) (at count : ℕ) → count ≡ count_by begins_character (drop at text)
    → at ≡ length text - suffix_len is_in_line text → count ≡ width text
unfolding width
width_is text at count e last = e ∙ ap (count_by begins_character) (last_is text at last)

-- whether it is empty
pub line_of_none : (text : List ℕ) → length text ≡ 0 → length (last_line text) ≡ 0
line_of_none text e = omega (arith, length-last_line text, suffix_len-le-length is_in_line text, e)

whole_suffix : (text : List ℕ) → suffix_len is_in_line (take (length text) text) ≡ suffix_len is_in_line text
whole_suffix text = ap (suffix_len is_in_line) (take_all (length text) text (omega arith))

pub line_over : (text : List ℕ) → 0 < length text → slice_index text (length text - 1) ≡ 10 → length (last_line text) ≡ 0
line_over text some e =
    let none = suffix_len-take_no is_in_line text (length text) 0 some (omega arith) (ap is_in_line e) in
    omega (arith, length-last_line text, whole_suffix text, none)

pub line_goes_on : (text : List ℕ) → 0 < length text → (slice_index text (length text - 1) ≡ 10 → ⊥)
    → length (last_line text) ≡ 0 → ⊥
line_goes_on text some other e =
    let more = suffix_len-take_yes is_in_line text (length text) 0 some (omega arith)
    (ap not (ne_eqb (slice_index text (length text - 1)) 10 other)) in
    omega (arith, length-last_line text, whole_suffix text, more, e)

-- the last line of a text after one that ends with a line
last_after : (xs ys : List ℕ) → length (last_line xs) ≡ 0 → last_line (xs ++ ys) ≡ last_line ys
unfolding last_line
last_after xs ys e =
    let none : suffix_len is_in_line xs ≡ 0 = sym (length-last_line xs) ∙ e in
    let same : suffix_len is_in_line (xs ++ ys) ≡ suffix_len is_in_line ys = suffix_after is_in_line xs ys none in
    let le : suffix_len is_in_line ys ≤ length ys = suffix_len-le-length is_in_line ys in
    let n : length (xs ++ ys) - suffix_len is_in_line (xs ++ ys) ≡ length xs + (length ys - suffix_len is_in_line ys) =
    omega (arith, same, le, length-append xs ys) in
    ap (λ k. drop k (xs ++ ys)) n ∙ drop-append-add xs ys (length ys - suffix_len is_in_line ys)

last_of_line : (xs : List ℕ) → length (last_line (xs ++ 10 ∷ [])) ≡ 0
last_of_line xs =
    length-last_line (xs ++ 10 ∷ []) ∙ ap (prefix_len is_in_line) (reverse-append xs (10 ∷ []))

line_ended : (b : Bool) (xs : List ℕ) → (length (last_line xs) == 0) ≡ b
    → length (last_line (cond b xs (xs ++ 10 ∷ []))) ≡ 0
line_ended true xs e = eqb-true (length (last_line xs)) 0 e
line_ended false xs e = last_of_line xs

pub ended : (xs : List ℕ) → length (last_line (with_new_line xs)) ≡ 0
unfolding with_new_line
ended xs = line_ended (length (last_line xs) == 0) xs refl

pub ended_already : (xs : List ℕ) → length (last_line xs) ≡ 0 → with_new_line xs ≡ xs ++ replicate 0 10
unfolding with_new_line
ended_already xs e = rw (eq-eqb (length (last_line xs)) 0 e) (sym (append-nil xs))

pub ended_now : (xs : List ℕ) → (length (last_line xs) ≡ 0 → ⊥) → with_new_line xs ≡ xs ++ replicate 1 10
unfolding with_new_line
ended_now xs not = rw (ne_eqb (length (last_line xs)) 0 not) refl

-- a text of which the last line begins after another text
line_apart : (b : Bool) (xs ys : List ℕ)
    → cond b (xs ++ ys) (xs ++ ys ++ 10 ∷ []) ≡ xs ++ cond b ys (ys ++ 10 ∷ [])
line_apart true xs ys = refl
line_apart false xs ys = append_assoc xs ys (10 ∷ [])

pub lines_apart : (xs ys : List ℕ) → with_new_line (with_new_line xs ++ ys) ≡ with_new_line xs ++ with_new_line ys
unfolding with_new_line
lines_apart xs ys =
    ap (λ (l : List ℕ). cond (length l == 0) (with_new_line xs ++ ys) (with_new_line xs ++ ys ++ 10 ∷ []))
    (last_after (with_new_line xs) ys (ended xs))
    ∙ line_apart (length (last_line ys) == 0) (with_new_line xs) ys

-- The way of the cursor

no_width : (xs : List ℕ) → width (with_new_line xs) ≡ 0
unfolding width
no_width xs = ap (count_by begins_character) (nil_from_length (last_line (with_new_line xs)) (ended xs))

pub way_stays : (is_in_row : Bool) (column n : ℕ) (bare : List ℕ) → is_in_row ≡ true → width bare < column
    → n ≡ column - 1 - width bare
    → with_cursor is_in_row column bare ≡ bare ++ (replicate 0 10 ++ replicate n 32)
unfolding with_cursor
way_stays is_in_row column n bare here lt e = rw (here, lt-ltb (width bare) column lt, e) refl

pub way_new : (is_in_row : Bool) (column lines n : ℕ) (bare : List ℕ)
    → (is_in_row && nat_lt (width bare) column) ≡ false → with_new_line bare ≡ bare ++ replicate lines 10
    → n ≡ column - 1 → with_cursor is_in_row column bare ≡ bare ++ (replicate lines 10 ++ replicate n 32)
unfolding with_cursor
way_new is_in_row column lines n bare not new e =
    let count : column - 1 - width (with_new_line bare) ≡ n = omega (arith, no_width bare, e) in
    rw (not, count, new) (append_assoc bare (replicate lines 10) (replicate n 32))

either_false : (a b : Bool) → b ≡ false → (a && b) ≡ false
either_false true b e = e
either_false false b e = refl

pub way_full : (is_in_row : Bool) (column lines : ℕ) (bare : List ℕ) → column ≤ width bare
    → with_new_line bare ≡ bare ++ replicate lines 10
    → with_cursor is_in_row column bare ≡ bare ++ (replicate lines 10 ++ replicate (column - 1) 32)
way_full is_in_row column lines bare le new =
    way_new is_in_row column lines (column - 1) bare (either_false is_in_row _ (le-ltb (width bare) column le)) new refl

pub way_other : (is_in_row : Bool) (column lines : ℕ) (bare : List ℕ) → is_in_row ≡ false
    → with_new_line bare ≡ bare ++ replicate lines 10
    → with_cursor is_in_row column bare ≡ bare ++ (replicate lines 10 ++ replicate (column - 1) 32)
way_other is_in_row column lines bare out new =
    way_new is_in_row column lines (column - 1) bare (ap (λ b. b && nat_lt (width bare) column) out) new refl
