-- The upper window in a text, and what a read leaves of styles.
use Rattle.std.proofs.Common.{◌≡◌, ◌≢◌, ◌==◌, ◌≤◌, ◌+◌, ◌-◌, ◌∙◌, ℕ, List, ◌++◌, length, take, drop, replicate, ap, subst, sym, arith}
use Rattle.std.proofs.Common.{Bool, Option, Some, append_assoc, inl, inr}
use Rattle.std.specs.List.{count_by, suffix_len}
use Rattle.std.specs.Prelude.{◌&&◌, if◌then◌else◌, min, OnOk, Result, Ok, Err}
use Rattle.std.proofs.lemmas.Bool.{cases_lt, eq-eqb, ne_eqb}
use Rattle.std.proofs.lemmas.List.{drop-take, drop_all, length-append, length-drop, length-replicate, length-take, length-take-le}
use Rattle.std.proofs.lemmas.List.{take-take, take_all, take_min}
use Rattle.zcore_standard.specs.declared.windows.Upper.{Upper}
use Rattle.zcore_standard.specs.Windows.{is_new_line, is_space, row_of, with_new_line, without_spaces}
use Rattle.machine_picture.specs.Represented.{IsLine, is_same, left_in, shown}
use Rattle.machine_picture.specs.Styles.{Styles, as_long, bare, left_by, no_part, part_shown, shown_by, without_part}
use Rattle.machine_picture.specs.declared.lines.Drawn.{Drawn}
use Rattle.machine_picture.specs.declared.lines.Line.{Line}
use Rattle.machine_picture.specs.declared.lines.Part.{Part}

-- how much of a text comes before the spaces at its end
pub bare_is : (text : List ℕ) (n : ℕ) → n ≡ length text - suffix_len is_space text → n ≡ length (without_spaces text)
unfolding without_spaces
bare_is text n e =
    let le : length text - suffix_len is_space text ≤ length text = omega arith in
    e ∙ sym (length-take-le (length text - suffix_len is_space text) text le)

-- Parts of a text

pub take_both : (kept from now : ℕ) (text : List ℕ) → now ≡ min kept from → take now text ≡ take from (take kept text)
take_both kept from now text e =
    elim (cases_lt kept from) [
      | inl lt ↦
          let n : now ≡ kept = omega (arith, e, lt) in
          let le : length (take kept text) ≤ from = omega (arith, lt, length-take kept text) in
          ap (λ k. take k text) n ∙ sym (take_all from (take kept text) le)
      | inr ge ↦
          let n : now ≡ from = omega (arith, e, ge) in
          ap (λ k. take k text) n ∙ sym (take-take from kept text ge)
    ]

take_part : (n m : ℕ) (text : List ℕ) → m ≡ min n (length text) → take m text ≡ take n text
take_part n m text e = ap (λ k. take k text) e ∙ take_min n text

drop_part : (n m : ℕ) (text : List ℕ) → m ≡ min n (length text) → drop m text ≡ drop n text
drop_part n m text e =
    elim (cases_lt n (length text)) [
      | inl lt ↦
          let same : m ≡ n = omega (arith, e, lt) in
          ap (λ k. drop k text) same
      | inr ge ↦
          let all : length text ≤ m = omega (arith, e, ge) in
          drop_all m text all ∙ sym (drop_all n text ge)
    ]

-- all that comes after a place
pub rest_of : (n : ℕ) (text : List ℕ) → take (length text - n) (drop n text) ≡ drop n text
rest_of n text = take_all (length text - n) (drop n text) (omega (arith, length-drop n text))

-- The line of the cursor

pub lines_after : (place at : ℕ) (text : List ℕ) (count : ℕ) → at ≡ min place (length text)
    → count ≡ count_by is_new_line (take (length text - at) (drop at text)) → count ≡ count_by is_new_line (drop place text)
lines_after place at text count e is = is ∙ ap (count_by is_new_line) (rest_of at text ∙ drop_part place at text e)

pub row_at : (upper : Upper) (text : List ℕ) (below : ℕ) → below ≡ count_by is_new_line (drop upper.mark text)
    → upper.row + below ≡ row_of upper text
unfolding row_of
row_at upper text below is = ap (λ k. upper.row + k) is

pub bare_at : (upper : Upper) (text : List ℕ) (from count : ℕ) → from ≡ min upper.from (length text)
    → count ≡ length (without_spaces (take (length text - from) (drop from text))) → upper.from + count ≡ bare upper text
bare_at upper text from count e is =
    ap (λ k. upper.from + k)
    (is ∙ ap (λ (l : List ℕ). length (without_spaces l)) (rest_of from text ∙ drop_part upper.from from text e))

-- where the cursor has gone on
pub gone_on : (upper to : Upper) (was text each : List ℕ) (line : Line) (row new_lines : ℕ) → IsLine upper was line
    → row ≡ row_of to text → new_lines ≡ count_by is_new_line (drop line.bare text)
    → (if is_same line row new_lines then each else take line.bare each) ≡ left_by (Some upper) was (Some to) text each
gone_on upper to was text each line row new_lines is row_is lines_are =
    ap (λ b. if (line.row == b) && (new_lines == 0) then each else take line.bare each) row_is
    ∙ ap (λ b. if (line.row == row_of to text) && (b == 0) then each else take line.bare each) lines_are
    ∙ ap (λ b. if (b == row_of to text) && (count_by is_new_line (drop line.bare text) == 0) then each
    else take line.bare each) is.row
    ∙ ap (λ b. if (row_of upper was == row_of to text) && (count_by is_new_line (drop b text) == 0) then each
    else take b each) is.bare

-- A read

-- A text of so many bytes to which newlines were added: its styles go on plain.
pub with_lines : (from new_lines : ℕ) (before each : List ℕ) → length before ≡ from → from ≤ length each
    → with_new_line before ≡ before ++ replicate new_lines 10
    → as_long (length (with_new_line before)) 0 (take from each) ≡ take from each ++ replicate new_lines 0
with_lines from new_lines before each long within is =
    let some : length (take from each) ≡ from = length-take-le from each within in
    let all : length (with_new_line before) ≡ from + new_lines =
    ap length is ∙ length-append before (replicate new_lines 10)
    ∙ omega (arith, long, length-replicate {A = ℕ} new_lines 10) in
    let more : length (with_new_line before) - length (take from each) ≡ new_lines = omega (arith, all, some) in
    ap (λ (l : List ℕ). l ++ replicate (length (with_new_line before) - length (take from each)) 0)
    (take_all (length (with_new_line before)) (take from each) (omega (arith, all, some)))
    ∙ ap (λ n. take from each ++ replicate n 0) more

-- a read in the lower window drops the upper one
pub shown_below : (upper : Upper) (window from : ℕ) (text each : List ℕ) → from ≡ min upper.from (length text)
    → window ≡ 0 → take from each ≡ shown_by (Some upper) window text (take (length text) each)
shown_below upper window from text each is e =
    take_both (length text) upper.from from each (omega (arith, is))
    ∙ ap (λ (b : Bool). if b then take upper.from (take (length text) each)
    else as_long (length (with_new_line (take upper.from text))) 0 (take upper.from (take (length text) each))
    ++ take (length (without_spaces (drop upper.from text))) (drop upper.from (take (length text) each)))
    (sym (eq-eqb window 0 e))

-- what is shown, by the parts of a text and of its styles
abbrev parts : List ℕ → List ℕ → List ℕ → List ℕ → List ℕ
parts before after each rest =
    as_long (length (with_new_line before)) 0 each ++ take (length (without_spaces after)) rest

parts_shown : (from new_lines count : ℕ) (text each : List ℕ) → from ≤ length text → length each ≡ length text
    → with_new_line (take from text) ≡ take from text ++ replicate new_lines 10
    → count ≡ length (without_spaces (drop from text))
    → shown from new_lines count each ≡ parts (take from text) (drop from text) (take from each) (drop from each)
parts_shown from new_lines count text each le same is e =
    let before : List ℕ = take from each in
    let rest : List ℕ = drop from each in
    let long : length (take from text) ≡ from = length-take-le from text le in
    sym (append_assoc before (replicate new_lines 0) (take count rest))
    ∙ ap (λ (l : List ℕ). l ++ take count rest)
    (sym (with_lines from new_lines (take from text) each long (omega (arith, le, same)) is))
    ∙ ap (λ n. as_long (length (with_new_line (take from text))) 0 before ++ take n rest) e

-- and one in the upper window shows it
pub shown_above : (upper : Upper) (window from new_lines count : ℕ) (text each : List ℕ)
    → from ≡ min upper.from (length text) → window ≢ 0 → length each ≡ length text
    → with_new_line (take from text) ≡ take from text ++ replicate new_lines 10
    → count ≡ length (without_spaces (take (length text - from) (drop from text)))
    → shown from new_lines count each ≡ shown_by (Some upper) window text each
shown_above upper window from new_lines count text each at above same is e =
    let n = upper.from in
    let here : from ≡ min n (length each) = omega (arith, at, same) in
    parts_shown from new_lines count text each (omega (arith, at)) same is
    (e ∙ ap (λ (l : List ℕ). length (without_spaces l)) (rest_of from text))
    ∙ ap (λ (l : List ℕ). parts l (drop from text) (take from each) (drop from each)) (take_part n from text at)
    ∙ ap (λ (l : List ℕ). parts (take n text) l (take from each) (drop from each)) (drop_part n from text at)
    ∙ ap (λ (l : List ℕ). parts (take n text) (drop n text) l (drop from each)) (take_part n from each here)
    ∙ ap (λ (l : List ℕ). parts (take n text) (drop n text) (take n each) l) (drop_part n from each here)
    ∙ ap (λ (b : Bool). if b then take n each else parts (take n text) (drop n text) (take n each) (drop n each))
    (sym (ne_eqb window 0 above))

-- The part in which it is shown

-- what comes before the spaces at the end of a text
bare_taken : (text : List ℕ) → take (length (without_spaces text)) text ≡ without_spaces text
unfolding without_spaces
bare_taken text =
    let n : ℕ = length text - suffix_len is_space text in
    take_part n (length (take n text)) text (omega (arith, length-take n text))

abbrev part_to : ℕ → ℕ → Part
part_to from to = record { from = from; to = to }

abbrev part_from : ℕ → ℕ → Part
part_from from long = part_to from (from + long)

-- by the parts of a text
abbrev part_in : List ℕ → List ℕ → Part
part_in before after = part_from (length (with_new_line before)) (length (with_new_line (without_spaces after)))

added_lines : (count more : ℕ) (text : List ℕ) → length text ≡ count
    → with_new_line text ≡ text ++ replicate more 10 → length (with_new_line text) ≡ count + more
added_lines count more text long is =
    ap length is ∙ length-append text (replicate more 10) ∙ omega (arith, long, length-replicate {A = ℕ} more 10)

part_by : (from new_lines count more : ℕ) (before after : List ℕ) → length before ≡ from
    → with_new_line before ≡ before ++ replicate new_lines 10 → count ≡ length (without_spaces after)
    → with_new_line (take count after) ≡ take count after ++ replicate more 10
    → record { from = from + new_lines; to = from + new_lines + count + more } ≡ part_in before after
part_by from new_lines count more before after long is e last =
    let same : take count after ≡ without_spaces after = ap (λ n. take n after) e ∙ bare_taken after in
    let first : length (with_new_line before) ≡ from + new_lines = added_lines from new_lines before long is in
    let rest : length (with_new_line (without_spaces after)) ≡ count + more =
    added_lines count more (without_spaces after) (sym e)
    (subst (λ (l : List ℕ). with_new_line l ≡ l ++ replicate more 10) same last) in
    let to : from + new_lines + count + more ≡ from + new_lines + (count + more) = omega arith in
    ap (λ n. part_to (from + new_lines) n) to
    ∙ ap (λ n. part_from n (count + more)) (sym first)
    ∙ ap (part_from (length (with_new_line before))) (sym rest)

-- a read in the lower window shows none
pub part_below : (upper : Upper) (window : ℕ) (text : List ℕ) → window ≡ 0
    → no_part ≡ part_shown (Some upper) window text
part_below upper window text e =
    ap (λ (b : Bool). if b then no_part else part_in (take upper.from text) (drop upper.from text))
    (sym (eq-eqb window 0 e))

pub part_above : (upper : Upper) (window from new_lines count more : ℕ) (text : List ℕ)
    → from ≡ min upper.from (length text) → window ≢ 0
    → with_new_line (take from text) ≡ take from text ++ replicate new_lines 10
    → count ≡ length (without_spaces (take (length text - from) (drop from text)))
    → with_new_line (take count (take (length text - from) (drop from text)))
    ≡ take count (take (length text - from) (drop from text)) ++ replicate more 10
    → record { from = from + new_lines; to = from + new_lines + count + more } ≡ part_shown (Some upper) window text
part_above upper window from new_lines count more text at above is e last =
    part_by from new_lines count more (take from text) (take (length text - from) (drop from text))
    (length-take-le from text (omega (arith, at))) is e last
    ∙ ap (part_in (take from text)) (rest_of from text ∙ drop_part upper.from from text at)
    ∙ ap (λ (l : List ℕ). part_in l (drop upper.from text)) (take_part upper.from from text at)
    ∙ ap (λ (b : Bool). if b then no_part else part_in (take upper.from text) (drop upper.from text))
    (sym (ne_eqb window 0 above))

-- a text or styles without a part, where it has so many bytes
pub without_parts : (part : Part) (from to : ℕ) (bytes before rest : List ℕ) → from ≡ min part.from (length bytes)
    → to ≡ min part.to (length bytes) → before ≡ take from bytes
    → rest ≡ before ++ take (length bytes - to) (drop to bytes) → rest ≡ without_part part bytes
without_parts part from to bytes before rest e f first put =
    put ∙ ap (λ (l : List ℕ). l ++ take (length bytes - to) (drop to bytes)) (first ∙ take_part part.from from bytes e)
    ∙ ap (λ (l : List ℕ). take part.from bytes ++ l) (rest_of to bytes ∙ drop_part part.to to bytes f)

-- Styles that are cut, with those of newlines put between them

pub shown_cut : (from new_lines count : ℕ) (each cut now : List ℕ) → cut ≡ take (from + count) each
    → now ≡ take from cut ++ (replicate new_lines 0 ++ drop from cut) → now ≡ shown from new_lines count each
shown_cut from new_lines count each cut now e put =
    let le : from ≤ from + count = omega arith in
    put ∙ ap (λ (l : List ℕ). take from l ++ (replicate new_lines 0 ++ drop from l)) e
    ∙ ap (λ (l : List ℕ). l ++ (replicate new_lines 0 ++ drop from (take (from + count) each)))
    (take-take from (from + count) each le)
    ∙ ap (λ (l : List ℕ). take from each ++ (replicate new_lines 0 ++ l)) (drop-take from count each)

-- what a read has shown, and what the player has added
pub waited : {E : Type 0} (result : Result (Unit {0}) E) (window : Option Drawn) (part : Part) (kept long : ℕ)
    (p cut shown now : Styles) → cut ≡ record p { each = take kept p.each; part = part }
    → shown ≡ record cut { each = left_in window cut.each }
    → OnOk result (now ≡ record shown { each = as_long long 0 shown.each })
    → OnOk result (now ≡ record p { each = as_long long 0 (left_in window (take kept p.each)); part = part })
waited (Ok x) window part kept long p cut shown now c s h =
    h ∙ ap (λ (q : Styles). record q { each = as_long long 0 q.each })
    (s ∙ ap (λ (q : Styles). record q { each = left_in window q.each }) c)
waited (Err x) window part kept long p cut shown now c s h = tt

pub shown_put : {E : Type 0} (result : Result (Unit {0}) E) (drawn : Drawn) (p : Styles) (cut now : List ℕ)
    → cut ≡ take (drawn.from + drawn.bare) p.each
    → OnOk result (now ≡ take drawn.from cut ++ (replicate drawn.new_lines 0 ++ drop drawn.from cut))
    → OnOk result (record p { each = now } ≡ record p { each = left_in (Some drawn) p.each })
shown_put (Ok x) drawn p cut now e h =
    ap (λ (l : List ℕ). record p { each = l }) (shown_cut drawn.from drawn.new_lines drawn.bare p.each cut now e h)
shown_put (Err x) drawn p cut now e h = tt
