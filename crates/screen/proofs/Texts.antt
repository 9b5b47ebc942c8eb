-- Texts as far as they were added.
use Rattle.std.proofs.Common.{◌≡◌, ℕ, suc, ◌+◌, ◌-◌, ◌<◌, ◌≤◌, ◌==◌, true, false, List, [], ◌∷◌, ◌++◌, drop, length}
use Rattle.std.proofs.Common.{refl, ap, sym, subst, ◌∙◌, ◌*◌, replicate, nat_le, slice_index, arith, min, drop-cons, add-one, Option, Some, None}
use Rattle.std.specs.List.{count_by}
use Rattle.std.proofs.lemmas.List.{drop_all, replicate-append-replicate}
use Rattle.std.proofs.lemmas.Bool.{eq-eqb, eqb-false, le-leb, lt-leb, ne_eqb}
use Rattle.screen.specs.Sequences.{fed}
use Rattle.screen.specs.Shown.{shown_after, shown_byte}
use Rattle.screen.specs.Sizes.{is_digit, number_after, number_in}
use Rattle.screen.specs.Upper.{first_line, fitting, height, is_new_line, later_lines, row, rows_from, width}
use Rattle.screen.proofs.Adding.{all_added, goes_on, then_more}

pub fed_further : (rows done : ℕ) → done < rows → fed (rows - done) ≡ 27 ∷ 68 ∷ fed (rows - (done + 1))
fed_further rows done lt =
    let more : rows - done ≡ suc (rows - (done + 1)) = omega (arith, lt) in
    ap fed more

pub shown_further : (before k : ℕ) (text : List ℕ) → k < length text
    → shown_after before (drop k text)
    ≡ shown_byte before (slice_index text k) ∷ shown_after (slice_index text k) (drop (k + 1) text)
unfolding shown_after
shown_further before k text lt =
    let next : drop k text ≡ slice_index text k ∷ drop (k + 1) text = rw add-one (drop-cons text k 0 lt) in
    ap (shown_after before) next

pub shown_end : (before k : ℕ) (text : List ℕ) → length text ≤ k → shown_after before (drop k text) ≡ []
unfolding shown_after
shown_end before k text le = ap (shown_after before) (drop_all k text le)

pub fitting_further : (room k : ℕ) (line : List ℕ) → k < length line → width (slice_index line k) ≤ room
    → fitting room (drop k line)
    ≡ slice_index line k ∷ fitting (room - width (slice_index line k)) (drop (k + 1) line)
unfolding fitting
fitting_further room k line lt fits =
    let next : drop k line ≡ slice_index line k ∷ drop (k + 1) line = rw add-one (drop-cons line k 0 lt) in
    let le : nat_le (width (slice_index line k)) room ≡ true = le-leb (width (slice_index line k)) room fits in
    ap (fitting room) next ∙ rw le refl

pub fitting_full : (room k : ℕ) (line : List ℕ) → k < length line → room < width (slice_index line k)
    → fitting room (drop k line) ≡ []
unfolding fitting
fitting_full room k line lt full =
    let next : drop k line ≡ slice_index line k ∷ drop (k + 1) line = rw add-one (drop-cons line k 0 lt) in
    let more : nat_le (width (slice_index line k)) room ≡ false = lt-leb (width (slice_index line k)) room full in
    ap (fitting room) next ∙ rw more refl

pub fitting_end : (room k : ℕ) (line : List ℕ) → length line ≤ k → fitting room (drop k line) ≡ []
unfolding fitting
fitting_end room k line le = ap (fitting room) (drop_all k line le)

pub rows_further : (columns count done : ℕ) (text : List ℕ) → done < count
    → rows_from columns (done + 1) (count - done) text
    ≡ row columns (done + 1) (first_line text) ++ rows_from columns (done + 1 + 1) (count - (done + 1)) (later_lines text)
unfolding rows_from
rows_further columns count done text lt =
    let more : count - done ≡ suc (count - (done + 1)) = omega (arith, lt) in
    ap (λ (n : ℕ). rows_from columns (done + 1) n text) more

pub rows_end : (columns at count done : ℕ) (text : List ℕ) → count ≤ done → rows_from columns at (count - done) text ≡ []
unfolding rows_from
rows_end columns at count done text le =
    let none : count - done ≡ 0 = omega (arith, le) in
    ap (λ (n : ℕ). rows_from columns at n text) none

pub number_further : (number k : ℕ) (digits : List ℕ) → k < length digits → is_digit (slice_index digits k) ≡ true
    → number_after number (drop k digits)
    ≡ number_after (min (number * 10 + (slice_index digits k - 48)) 1000) (drop (k + 1) digits)
unfolding number_after
number_further number k digits lt is =
    let next : drop k digits ≡ slice_index digits k ∷ drop (k + 1) digits = rw add-one (drop-cons digits k 0 lt) in
    ap (number_after number) next ∙ rw is refl

pub number_none : (number k : ℕ) (digits : List ℕ) → k < length digits → is_digit (slice_index digits k) ≡ false
    → number_after number (drop k digits) ≡ None
unfolding number_after
number_none number k digits lt is =
    let next : drop k digits ≡ slice_index digits k ∷ drop (k + 1) digits = rw add-one (drop-cons digits k 0 lt) in
    ap (number_after number) next ∙ rw is refl

pub number_end : (number k : ℕ) (digits : List ℕ) → length digits ≤ k → number_after number (drop k digits) ≡ Some number
unfolding number_after
number_end number k digits le = ap (number_after number) (drop_all k digits le)

pub number_some : (digits : List ℕ) → 0 < length digits → number_in digits ≡ number_after 0 digits
number_some [] lt = absurd (omega (arith, lt))
number_some (byte ∷ bytes) lt = refl

-- the number that a loop has come to

pub number_more : (digits : List ℕ) (number k next : ℕ) (whole : Option ℕ) → k < length digits
    → is_digit (slice_index digits k) ≡ true → next ≡ min (number * 10 + (slice_index digits k - 48)) 1000
    → number_after number (drop k digits) ≡ whole → number_after next (drop (k + 1) digits) ≡ whole
number_more digits number k next whole lt is next_is so =
    ap (λ (n : ℕ). number_after n (drop (k + 1) digits)) next_is ∙ sym (number_further number k digits lt is) ∙ so

pub number_fails : (digits : List ℕ) (number k : ℕ) → k < length digits → is_digit (slice_index digits k) ≡ false
    → number_after number (drop k digits) ≡ number_after 0 digits → None ≡ number_in digits
number_fails digits number k lt is so =
    sym (number_none number k digits lt is) ∙ so ∙ sym (number_some digits (omega (arith, lt)))

pub number_all : (digits : List ℕ) (number k : ℕ) → (length digits == 0) ≡ false → length digits ≤ k
    → number_after number (drop k digits) ≡ number_after 0 digits → Some number ≡ number_in digits
number_all digits number k some le so =
    let not_empty : length digits ≡ 0 → ⊥ = eqb-false (length digits) 0 some in
    sym (number_end number k digits le) ∙ so ∙ sym (number_some digits (omega (arith, not_empty)))

pub fed_end : (rows done : ℕ) → rows ≤ done → fed (rows - done) ≡ []
fed_end rows done le =
    let none : rows - done ≡ 0 = omega (arith, le) in
    ap fed none

-- one step further, in what was added

goes_on_by : (now new part later rest whole : List ℕ) → rest ≡ part ++ later → new ≡ now ++ part → now ++ rest ≡ whole
    → new ++ later ≡ whole
goes_on_by now new part later rest whole is put so =
    goes_on now new part later whole put (ap (λ (t : List ℕ). now ++ t) (sym is) ∙ so)

pub fed_more : (now new whole : List ℕ) (rows done : ℕ) → done < rows → new ≡ now ++ (27 ∷ 68 ∷ [])
    → now ++ fed (rows - done) ≡ whole → new ++ fed (rows - (done + 1)) ≡ whole
fed_more now new whole rows done lt put so =
    goes_on_by now new (27 ∷ 68 ∷ []) (fed (rows - (done + 1))) (fed (rows - done)) whole (fed_further rows done lt) put so

pub shown_more : (now new whole text : List ℕ) (before k byte as_shown : ℕ) → k < length text
    → byte ≡ slice_index text k → as_shown ≡ shown_byte before byte → new ≡ now ++ (as_shown ∷ [])
    → now ++ shown_after before (drop k text) ≡ whole → new ++ shown_after byte (drop (k + 1) text) ≡ whole
shown_more now new whole text before k byte as_shown lt is shows put so =
    let later = shown_after byte (drop (k + 1) text) in
    let same : as_shown ∷ later ≡ shown_after before (drop k text) =
    ap (λ (b : ℕ). b ∷ later) shows
    ∙ ap (λ (b : ℕ). shown_byte before b ∷ shown_after b (drop (k + 1) text)) is
    ∙ sym (shown_further before k text lt) in
    goes_on_by now new (as_shown ∷ []) later (shown_after before (drop k text)) whole (sym same) put so

pub fitting_more : (now new whole line : List ℕ) (room k byte w : ℕ) → k < length line → byte ≡ slice_index line k
    → w ≡ width byte → w ≤ room → new ≡ now ++ (byte ∷ [])
    → now ++ fitting room (drop k line) ≡ whole → new ++ fitting (room - w) (drop (k + 1) line) ≡ whole
fitting_more now new whole line room k byte w lt is wide fits put so =
    let rest = drop (k + 1) line in
    let width_is : w ≡ width (slice_index line k) = wide ∙ ap width is in
    let room_for : width (slice_index line k) ≤ room = subst (λ (n : ℕ). n ≤ room) width_is fits in
    let same : byte ∷ fitting (room - w) rest ≡ fitting room (drop k line) =
    ap (λ (b : ℕ). b ∷ fitting (room - w) rest) is
    ∙ ap (λ (n : ℕ). slice_index line k ∷ fitting (room - n) rest) width_is
    ∙ sym (fitting_further room k line lt room_for) in
    goes_on_by now new (byte ∷ []) (fitting (room - w) rest) (fitting room (drop k line)) whole (sym same) put so

pub fitting_stops : (now whole line : List ℕ) (room k byte w : ℕ) → k < length line → byte ≡ slice_index line k
    → w ≡ width byte → room < w → now ++ fitting room (drop k line) ≡ whole → now ≡ whole
fitting_stops now whole line room k byte w lt is wide full so =
    let too_wide : room < width (slice_index line k) = subst (λ (n : ℕ). room < n) (wide ∙ ap width is) full in
    all_added now (fitting room (drop k line)) whole (fitting_full room k line lt too_wide) so

pub rows_more : (now new whole text line later : List ℕ) (columns count done at : ℕ) → done < count → at ≡ done + 1
    → line ≡ first_line text → later ≡ later_lines text → new ≡ now ++ row columns at line
    → now ++ rows_from columns (done + 1) (count - done) text ≡ whole
    → new ++ rows_from columns (done + 1 + 1) (count - (done + 1)) later ≡ whole
rows_more now new whole text line later columns count done at lt at_is line_is later_is put so =
    let others = rows_from columns (done + 1 + 1) (count - (done + 1)) later in
    let same : row columns at line ++ others ≡ rows_from columns (done + 1) (count - done) text =
    ap (λ (n : ℕ). row columns n line ++ others) at_is
    ∙ ap (λ (l : List ℕ). row columns (done + 1) l ++ others) line_is
    ∙ ap (λ (l : List ℕ). row columns (done + 1) (first_line text)
    ++ rows_from columns (done + 1 + 1) (count - (done + 1)) l) later_is
    ∙ sym (rows_further columns count done text lt) in
    goes_on_by now new (row columns at line) others (rows_from columns (done + 1) (count - done) text) whole (sym same)
    put so

-- blanks

pub blanks_more : (old now new : List ℕ) (done : ℕ) → now ≡ old ++ replicate done 32 → new ≡ now ++ (32 ∷ [])
    → new ≡ old ++ replicate (done + 1) 32
blanks_more old now new done so put =
    then_more old now new (replicate done 32) (32 ∷ []) so put
    ∙ ap (λ (t : List ℕ). old ++ t) (replicate-append-replicate done 1 32)

-- the height of the upper window

pub height_none : (rows : ℕ) (text : List ℕ) → length text ≡ 0 → 0 ≡ height rows text
height_none rows text none =
    let empty : (length text == 0) ≡ true = eq-eqb (length text) 0 none in
    rw empty (omega arith)

pub height_some : (rows most breaks : ℕ) (text : List ℕ) → (length text ≡ 0 → ⊥) → most ≡ rows - 4
    → breaks ≡ count_by is_new_line text → min most (breaks + 1) ≡ height rows text
height_some rows most breaks text some most_is breaks_is =
    let full : (length text == 0) ≡ false = ne_eqb (length text) 0 some in
    rw full (ap (λ (n : ℕ). min n (breaks + 1)) most_is ∙ ap (λ (n : ℕ). min (rows - 4) (n + 1)) breaks_is)
