-- What is written without sequences and the upper window.
use Rattle.std.proofs.Common.{◌≡◌, ℕ, zero, suc, ◌+◌, ◌/◌, ◌%◌, ◌<◌, ◌==◌, Bool, true, false, List, [], ◌∷◌, ◌++◌}
use Rattle.std.proofs.Common.{refl, ap, sym, ◌∙◌, inl, inr, nat_le, replicate, arith, append_assoc, codes, drop, take, take-append-drop, max}
use Rattle.std.specs.List.{prefix_len}
use Rattle.std.proofs.lemmas.Bool.{cases_Bool, lt-leb}
use Rattle.terminal.specs.Broken.{IsBroken}
use Rattle.screen.specs.declared.size.Size.{Size}
use Rattle.screen.specs.Sequences.{in_numbers, in_text, carriage_return, counted, deleted, fed, inserted, is_upper_after}
use Rattle.screen.specs.Sequences.{above_last, plain, plain_from, sequence, to_row, upper_ended}
use Rattle.screen.specs.Upper.{first_line, fitting, height, is_in_line, later_lines, row, rows_from, upper}
use Rattle.screen.specs.Marked.{styles_in, unmarked}
use Rattle.screen.specs.Shown.{shown}
use Rattle.machine_picture.specs.Marks.{changed, mark, marked, marked_after, part}
use Rattle.screen.specs.Replies.{AddsText, drawn, last_line, last_line_at, lines_before, prompted, room_made, text_part}
use Rattle.screen.specs.Replies.{prompt_part, upper_removed, window_part}
use Rattle.screen.proofs.Calm.{IsCalm, IsCalmByte, blanks_are_calm, broken_is_calm, fitting_is_calm, left_is_calm, rest_is_calm}
use Rattle.screen.proofs.Calm.{shown_is_calm, taken_is_calm}

-- texts

plain_text : (text later : List ℕ) → IsCalm text → plain (text ++ later) ≡ text ++ plain later
unfolding plain_from
plain_text [] later calm = refl
plain_text (byte ∷ bytes) later calm = rw ((calm 0).no_escape, (calm 0).no_return)
    (ap (λ (t : List ℕ). byte ∷ t) (plain_text bytes later (rest_is_calm byte bytes calm)))

byte_is_plain : (byte : ℕ) (later : List ℕ) → IsCalmByte byte → plain (byte ∷ later) ≡ byte ∷ plain later
unfolding plain_from
byte_is_plain byte later calm = rw (calm.no_escape, calm.no_return) refl

upper_text : (text later : List ℕ) → IsCalm text
    → plain_from true in_text (text ++ later) ≡ plain_from true in_text later
unfolding plain_from
upper_text [] later calm = refl
upper_text (byte ∷ bytes) later calm = rw (calm 0).no_escape (upper_text bytes later (rest_is_calm byte bytes calm))

-- sequences

sequence_is_plain : (is_upper : Bool) (number letter : ℕ) (later : List ℕ) → number < 1000 → nat_le 64 letter ≡ true
    → is_upper_after letter is_upper ≡ is_upper
    → plain_from is_upper in_text (sequence number letter ++ later) ≡ plain_from is_upper in_text later
unfolding plain_from
sequence_is_plain is_upper number letter later small ends keeps =
    let hundreds : nat_le 64 (48 + number / 100) ≡ false = lt-leb 64 (48 + number / 100) (omega (arith, small)) in
    let tens : nat_le 64 (48 + number / 10 % 10) ≡ false = lt-leb 64 (48 + number / 10 % 10) (omega (arith, small)) in
    let ones : nat_le 64 (48 + number % 10) ≡ false = lt-leb 64 (48 + number % 10) (omega (arith, small)) in
    rw (hundreds, tens, ones, ends, keeps) refl

row_is_plain_to : (is_upper : Bool) (number : ℕ) (later : List ℕ) → number < 1000
    → plain_from is_upper in_text (to_row number ++ later) ≡ plain_from is_upper in_text later
row_is_plain_to is_upper number later small = sequence_is_plain is_upper number 72 later small refl refl

counted_is_plain : (number letter : ℕ) (later : List ℕ) → number < 1000 → nat_le 64 letter ≡ true
    → is_upper_after letter false ≡ false → plain (counted number letter ++ later) ≡ plain later
counted_is_plain number letter later small ends keeps = elim (cases_Bool (number == 0)) [
  | inl none ↦ rw none refl
  | inr some ↦ rw some (sequence_is_plain false number letter later small ends keeps)
]

pub fed_is_plain : (rows : ℕ) (later : List ℕ) → plain (fed rows ++ later) ≡ plain later
unfolding plain_from
fed_is_plain zero later = refl
fed_is_plain (suc rows) later = fed_is_plain rows later

-- marks of styles

-- what has no last letter of a sequence is skipped in one
skips : List ℕ → Type 0
skips text = (is_upper : Bool) (rest : List ℕ)
    → plain_from is_upper in_numbers (text ++ rest) ≡ plain_from is_upper in_numbers rest

part_is_skipped : (value style : ℕ) (text : List ℕ) → skips text → skips (part value text style)
unfolding skips
part_is_skipped value style text h = λ is_upper rest. elim (cases_Bool (style / value % 2 == 1)) [
  | inl has ↦ rw has (h is_upper rest)
  | inr lacks ↦ rw lacks refl
]

reverse_skips : skips (codes ";7")
unfolding skips plain_from
reverse_skips = λ is_upper rest. refl

bold_skips : skips (codes ";1")
unfolding skips plain_from
bold_skips = λ is_upper rest. refl

italic_skips : skips (codes ";3")
unfolding skips plain_from
italic_skips = λ is_upper rest. refl

fixed_skips : skips (codes ";50")
unfolding skips plain_from
fixed_skips = λ is_upper rest. refl

-- five parts, and what follows them
five_parts : (a b c d e rest : List ℕ) → (a ++ (b ++ (c ++ (d ++ e)))) ++ rest ≡ a ++ (b ++ (c ++ (d ++ (e ++ rest))))
five_parts a b c d e rest =
    append_assoc a (b ++ (c ++ (d ++ e))) rest
    ∙ ap (λ (t : List ℕ). a ++ t) (append_assoc b (c ++ (d ++ e)) rest
    ∙ ap (λ (t : List ℕ). b ++ t) (append_assoc c (d ++ e) rest
    ∙ ap (λ (t : List ℕ). c ++ t) (append_assoc d e rest)))

mark_is_plain : (style : ℕ) (later : List ℕ) → plain (mark style ++ later) ≡ plain later
unfolding skips plain_from
mark_is_plain style later =
    let a = part 1 (codes ";7") style in
    let b = part 2 (codes ";1") style in
    let c = part 4 (codes ";3") style in
    let d = part 8 (codes ";50") style in
    let e : List ℕ = codes "m" in
    ap (plain_from false in_numbers) (five_parts a b c d e later)
    ∙ part_is_skipped 1 style (codes ";7") reverse_skips false (b ++ (c ++ (d ++ (e ++ later))))
    ∙ part_is_skipped 2 style (codes ";1") bold_skips false (c ++ (d ++ (e ++ later)))
    ∙ part_is_skipped 4 style (codes ";3") italic_skips false (d ++ (e ++ later))
    ∙ part_is_skipped 8 style (codes ";50") fixed_skips false (e ++ later)

changed_is_plain : (before now : ℕ) (later : List ℕ) → plain (changed before now ++ later) ≡ plain later
changed_is_plain before now later = elim (cases_Bool (now == before)) [
  | inl same ↦ rw same refl
  | inr other ↦ rw other (mark_is_plain now later)
]

-- a text with marks, without them
marked_is_plain : (before : ℕ) (text each later : List ℕ) → IsCalm text
    → plain (marked_after before text each ++ later) ≡ text ++ plain later
unfolding marked_after
marked_is_plain before [] each later calm = changed_is_plain before 0 later
marked_is_plain before (byte ∷ bytes) [] later calm =
    ap plain (append_assoc (changed before 0) (byte ∷ marked_after 0 bytes []) later)
    ∙ changed_is_plain before 0 (byte ∷ (marked_after 0 bytes [] ++ later))
    ∙ byte_is_plain byte (marked_after 0 bytes [] ++ later) (calm 0)
    ∙ ap (λ (t : List ℕ). byte ∷ t) (marked_is_plain 0 bytes [] later (rest_is_calm byte bytes calm))
marked_is_plain before (byte ∷ bytes) (now ∷ each) later calm =
    ap plain (append_assoc (changed before now) (byte ∷ marked_after now bytes each) later)
    ∙ changed_is_plain before now (byte ∷ (marked_after now bytes each ++ later))
    ∙ byte_is_plain byte (marked_after now bytes each ++ later) (calm 0)
    ∙ ap (λ (t : List ℕ). byte ∷ t) (marked_is_plain now bytes each later (rest_is_calm byte bytes calm))

-- the upper window

row_is_plain : (columns at : ℕ) (line later : List ℕ) → at < 1000 → IsCalm line
    → plain_from true in_text (row columns at line ++ later) ≡ plain_from true in_text later
unfolding plain_from
row_is_plain columns at line later small calm =
    let blanks : List ℕ = replicate columns 32 in
    let rest : List ℕ = carriage_return ∷ fitting columns line in
    ap (plain_from true in_text) (append_assoc (to_row at) (blanks ++ rest) later)
    ∙ row_is_plain_to true at ((blanks ++ rest) ++ later) small
    ∙ ap (plain_from true in_text) (append_assoc blanks rest later)
    ∙ upper_text blanks (rest ++ later) (blanks_are_calm columns)
    ∙ upper_text (fitting columns line) later (fitting_is_calm columns line calm)

rows_are_plain : (columns at count : ℕ) (text later : List ℕ) → at + count < 1000 → IsCalm text
    → plain_from true in_text (rows_from columns at count text ++ later) ≡ plain_from true in_text later
unfolding rows_from
rows_are_plain columns at zero text later small calm = refl
rows_are_plain columns at (suc count) text later small calm =
    let first : List ℕ = row columns at (first_line text) in
    let others : List ℕ = rows_from columns (at + 1) count (later_lines text) in
    ap (plain_from true in_text) (append_assoc first others later)
    ∙ row_is_plain columns at (first_line text) (others ++ later) (omega (arith, small)) (taken_is_calm (prefix_len is_in_line text) text calm)
    ∙ rows_are_plain columns (at + 1) count (later_lines text) later (omega (arith, small)) (left_is_calm (prefix_len is_in_line text + 1) text calm)

upper_is_plain : (columns count : ℕ) (text later : List ℕ) → count < 900 → IsCalm text
    → plain (upper columns count text ++ later) ≡ plain later
unfolding plain_from
upper_is_plain columns count text later small calm =
    let rows : List ℕ = rows_from columns 1 count text in
    ap (plain_from true in_text) (append_assoc rows upper_ended later)
    ∙ rows_are_plain columns 1 count text (upper_ended ++ later) (omega (arith, small)) calm

-- a reply

above_last_is_plain : (rows : ℕ) (later : List ℕ) → rows < 900 → plain (above_last rows ++ later) ≡ plain later
above_last_is_plain rows later few =
    ap plain (append_assoc (to_row 255) (counted rows 65) later)
    ∙ row_is_plain_to false 255 (counted rows 65 ++ later) (omega arith)
    ∙ counted_is_plain rows 65 later (omega (arith, few)) refl refl

removed_is_plain : (before : ℕ) (later : List ℕ) → before < 900
    → plain (upper_removed before ++ later) ≡ plain later
removed_is_plain before later few =
    let target : List ℕ = above_last before in
    ap plain (append_assoc (to_row 1) (deleted before ++ target) later)
    ∙ row_is_plain_to false 1 ((deleted before ++ target) ++ later) (omega arith)
    ∙ ap plain (append_assoc (deleted before) target later)
    ∙ counted_is_plain before 77 (target ++ later) (omega (arith, few)) refl refl
    ∙ above_last_is_plain before later few

room_is_plain : (rows : ℕ) (later : List ℕ) → rows < 900 → plain (room_made rows ++ later) ≡ plain later
room_is_plain rows later small =
    ap plain (append_assoc (fed (rows + 1)) (to_row 1 ++ inserted rows) later)
    ∙ fed_is_plain (rows + 1) ((to_row 1 ++ inserted rows) ++ later)
    ∙ ap plain (append_assoc (to_row 1) (inserted rows) later)
    ∙ row_is_plain_to false 1 (inserted rows ++ later) (omega arith)
    ∙ counted_is_plain rows 76 later (omega (arith, small)) refl refl

prompt_is_plain : (prompt each later : List ℕ) → IsCalm prompt
    → plain (prompted (marked prompt each) ++ later) ≡ prompt ++ plain later
unfolding plain_from
prompt_is_plain prompt each later calm =
    let rest : List ℕ = carriage_return ∷ marked prompt each in
    ap plain (append_assoc (above_last 1) rest later)
    ∙ above_last_is_plain 1 (rest ++ later) (omega arith)
    ∙ marked_is_plain 0 prompt each later calm

window_is_plain : (size : Size) (before high : ℕ) (status prompt each later : List ℕ) → before < 900 → high < 900
    → IsCalm status → IsCalm prompt
    → plain (drawn size before high status (marked prompt each) ++ later) ≡ prompt ++ plain later
window_is_plain size before high status prompt each later few low calm_status calm =
    let most : ℕ = max before high in
    let last : List ℕ = prompted (marked prompt each) in
    let window : List ℕ = upper size.columns high status in
    let room : List ℕ = room_made most in
    ap plain (append_assoc room (window ++ last) later)
    ∙ room_is_plain most ((window ++ last) ++ later) (omega (arith, low, few))
    ∙ ap plain (append_assoc window last later)
    ∙ upper_is_plain size.columns high status (last ++ later) low calm_status
    ∙ prompt_is_plain prompt each later calm

text_is_plain : (before : ℕ) (text each later : List ℕ) → before < 900 → IsCalm text
    → plain (text_part before text each ++ later) ≡ lines_before text ++ plain later
text_is_plain before text each later few calm =
    let lines : List ℕ = lines_before text in
    let styles : List ℕ = take (last_line_at text) each in
    ap plain (append_assoc (upper_removed before) (marked lines styles) later)
    ∙ removed_is_plain before (marked lines styles ++ later) few
    ∙ marked_is_plain 0 lines styles later (taken_is_calm (last_line_at text) text calm)

reply_is_plain : (size : Size) (before : ℕ) (status text each later : List ℕ) → size.rows < 900 → before < 900
    → IsCalm status → IsCalm text
    → plain (text_part before text each ++ (window_part size before status (prompt_part text each) ++ later))
    ≡ text ++ plain later
reply_is_plain size before status text each later small few calm_status calm =
    let window : List ℕ = window_part size before status (prompt_part text each) in
    text_is_plain before text each (window ++ later) few calm
    ∙ ap (λ (t : List ℕ). lines_before text ++ t) (window_is_plain size before (height size.rows status) status
    (last_line text) (drop (last_line_at text) each) later few (omega (arith, small)) calm_status
    (left_is_calm (last_line_at text) text calm))
    ∙ sym (append_assoc (lines_before text) (last_line text) (plain later))
    ∙ ap (λ (t : List ℕ). t ++ plain later) (take-append-drop (last_line_at text) text)

pub adds_text : (size : Size) (before : ℕ) (text broken old new prompt : List ℕ) → size.rows < 900 → before < 900
    → IsBroken (shown (unmarked text)) broken → new ≡ old ++ text_part before broken (styles_in text)
    → prompt ≡ prompt_part broken (styles_in text) → AddsText size before text old new prompt
adds_text size before text broken old new prompt small few kept put is = record {
  broken = broken;
  kept = kept;
  added = put;
  last = is;
  is_plain = λ status later.
      ap (λ (p : List ℕ). plain (text_part before broken (styles_in text)
      ++ (window_part size before (shown status) p ++ later))) is
      ∙ reply_is_plain size before (shown status) broken (styles_in text) later small few (shown_is_calm 0 status)
      (broken_is_calm (shown (unmarked text)) broken (shown_is_calm 0 (unmarked text)) kept);
}
