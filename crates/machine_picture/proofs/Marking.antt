-- Marks are left out, and what is between them stays.
use Rattle.std.proofs.Common.{◌≡◌, ◌==◌, ◌/◌, ◌%◌, ◌+◌, ◌<◌, ◌≤◌, ◌∙◌, ℕ, zero, suc, Bool, true, false, List, [], ◌∷◌, ◌++◌}
use Rattle.std.proofs.Common.{ap, append-nil, append_assoc, drop, length, refl, slice_index, sym}
use Rattle.std.specs.Prelude.{◌&&◌, codes, if◌then◌else◌, not, slice_index_or}
use Rattle.std.proofs.lemmas.List.{drop_all, drop_more}
use Rattle.std.proofs.Math.Seq.{drop-drop}
use Rattle.machine_picture.specs.Marks.{changed, is_free, mark, marked, marked_after, part, without_marks}

-- Marks

-- within a mark this is left out
abbrev Inside : List ℕ → Type 0
Inside text = (rest : List ℕ) → without_marks true (text ++ rest) ≡ without_marks true rest

inside_by : (b : Bool) (text : List ℕ) → Inside text → Inside (if b then text else [])
inside_by true text h rest = h rest
inside_by false text h rest = refl

inside_then : (text more rest : List ℕ) → Inside text
    → without_marks true ((text ++ more) ++ rest) ≡ without_marks true (more ++ rest)
inside_then text more rest h = ap (without_marks true) (append_assoc text more rest) ∙ h (more ++ rest)

reverse_inside : Inside (codes ";7")
unfolding without_marks
reverse_inside rest = refl

bold_inside : Inside (codes ";1")
unfolding without_marks
bold_inside rest = refl

italic_inside : Inside (codes ";3")
unfolding without_marks
italic_inside rest = refl

fixed_inside : Inside (codes ";50")
unfolding without_marks
fixed_inside rest = refl

-- after ESC `[0`
parts_left_out : (style : ℕ) (rest : List ℕ)
    → without_marks true ((part 1 (codes ";7") style ++ (part 2 (codes ";1") style ++ (part 4 (codes ";3") style
    ++ (part 8 (codes ";50") style ++ codes "m")))) ++ rest) ≡ without_marks false rest
unfolding without_marks
parts_left_out style rest =
    inside_then (part 1 (codes ";7") style)
    (part 2 (codes ";1") style ++ (part 4 (codes ";3") style ++ (part 8 (codes ";50") style ++ codes "m"))) rest
    (inside_by (style / 1 % 2 == 1) (codes ";7") reverse_inside)
    ∙ inside_then (part 2 (codes ";1") style)
    (part 4 (codes ";3") style ++ (part 8 (codes ";50") style ++ codes "m")) rest
    (inside_by (style / 2 % 2 == 1) (codes ";1") bold_inside)
    ∙ inside_then (part 4 (codes ";3") style) (part 8 (codes ";50") style ++ codes "m") rest
    (inside_by (style / 4 % 2 == 1) (codes ";3") italic_inside)
    ∙ inside_then (part 8 (codes ";50") style) (codes "m") rest
    (inside_by (style / 8 % 2 == 1) (codes ";50") fixed_inside)

mark_left_out : (style : ℕ) (rest : List ℕ) → without_marks false (mark style ++ rest) ≡ without_marks false rest
unfolding without_marks
mark_left_out style rest = parts_left_out style rest

changed_by : (b : Bool) (now : ℕ) (rest : List ℕ)
    → without_marks false ((if b then [] else mark now) ++ rest) ≡ without_marks false rest
changed_by true now rest = refl
changed_by false now rest = mark_left_out now rest

change_left_out : (before now : ℕ) (rest : List ℕ)
    → without_marks false (changed before now ++ rest) ≡ without_marks false rest
change_left_out before now rest = changed_by (now == before) now rest

-- The text

both : (b c : Bool) → (not b && c) ≡ true → (b ≡ false) × (c ≡ true)
both false true h = (refl, refl)
both false false h = absurd (cc)
both true c h = absurd (cc)

byte_stays : (byte : ℕ) (rest : List ℕ) → (byte == 27) ≡ false
    → without_marks false (byte ∷ rest) ≡ byte ∷ without_marks false rest
unfolding without_marks
byte_stays byte rest e =
    ap (λ (b : Bool). if b then without_marks true rest else byte ∷ without_marks false rest) e

text_stays : (before : ℕ) (text each : List ℕ) → is_free text ≡ true
    → without_marks false (marked_after before text each) ≡ text
unfolding without_marks marked_after
text_stays before [] each free =
    ap (without_marks false) (sym (append-nil (changed before 0))) ∙ change_left_out before 0 []
text_stays before (byte ∷ bytes) [] free =
    let h = both (byte == 27) (is_free bytes) free in
    change_left_out before 0 (byte ∷ marked_after 0 bytes [])
    ∙ byte_stays byte (marked_after 0 bytes []) h.0 ∙ ap (λ l. byte ∷ l) (text_stays 0 bytes [] h.1)
text_stays before (byte ∷ bytes) (now ∷ each) free =
    let h = both (byte == 27) (is_free bytes) free in
    change_left_out before now (byte ∷ marked_after now bytes each)
    ∙ byte_stays byte (marked_after now bytes each) h.0 ∙ ap (λ l. byte ∷ l) (text_stays now bytes each h.1)

pub without_marks_is_text : (text each : List ℕ) → is_free text ≡ true
    → without_marks false (marked text each) ≡ text
without_marks_is_text text each free = text_stays 0 text each free

-- One byte after another

one_more : (before byte : ℕ) (bytes each : List ℕ)
    → marked_after before (byte ∷ bytes) each
    ≡ changed before (slice_index_or each 0 0) ++ byte ∷ marked_after (slice_index_or each 0 0) bytes (drop 1 each)
unfolding marked_after
one_more before byte bytes [] = refl
one_more before byte bytes (now ∷ each) = refl

first_of : (each : List ℕ) (i : ℕ) → slice_index_or (drop i each) 0 0 ≡ slice_index_or each i 0
first_of [] zero = refl
first_of [] (suc i) = refl
first_of (now ∷ each) zero = refl
first_of (now ∷ each) (suc i) = first_of each i

at_byte : (text each : List ℕ) (i before byte style : ℕ) → i < length text → byte ≡ slice_index text i
    → style ≡ slice_index_or each i 0
    → marked_after before (drop i text) (drop i each)
    ≡ changed before style ++ byte ∷ marked_after style (drop (i + 1) text) (drop (i + 1) each)
at_byte text each i before byte style lt is has =
    let rest = drop (i + 1) text in
    let e : slice_index_or (drop i each) 0 0 ≡ style = first_of each i ∙ sym has in
    ap (λ l. marked_after before l (drop i each)) (drop_more text i 0 lt ∙ ap (λ b. b ∷ rest) (sym is))
    ∙ one_more before byte rest (drop i each)
    ∙ ap (λ n. changed before n ++ byte ∷ marked_after n rest (drop 1 (drop i each))) e
    ∙ ap (λ l. changed before style ++ byte ∷ marked_after style rest l) (drop-drop 1 i each)

pub marked_next : (text each old out changing now : List ℕ) (i before byte style : ℕ) → i < length text
    → byte ≡ slice_index text i → style ≡ slice_index_or each i 0
    → out ++ marked_after before (drop i text) (drop i each) ≡ old ++ marked text each
    → changing ≡ out ++ changed before style → now ≡ changing ++ byte ∷ []
    → now ++ marked_after style (drop (i + 1) text) (drop (i + 1) each) ≡ old ++ marked text each
marked_next text each old out changing now i before byte style lt is has so mark_put byte_put =
    let rest = marked_after style (drop (i + 1) text) (drop (i + 1) each) in
    ap (λ l. l ++ rest) byte_put ∙ append_assoc changing (byte ∷ []) rest
    ∙ ap (λ l. l ++ byte ∷ rest) mark_put ∙ append_assoc out (changed before style) (byte ∷ rest)
    ∙ ap (λ l. out ++ l) (sym (at_byte text each i before byte style lt is has)) ∙ so

at_end : (before : ℕ) (each : List ℕ) → marked_after before [] each ≡ changed before 0
unfolding marked_after
at_end before each = refl

pub marked_all : (text each old out now : List ℕ) (i before : ℕ) → length text ≤ i
    → out ++ marked_after before (drop i text) (drop i each) ≡ old ++ marked text each
    → now ≡ out ++ changed before 0 → now ≡ old ++ marked text each
marked_all text each old out now i before le so put =
    put ∙ ap (λ l. out ++ l) (sym (at_end before (drop i each)))
    ∙ ap (λ l. out ++ marked_after before l (drop i each)) (sym (drop_all i text le)) ∙ so

-- A mark

more_put : (x y a rest : List ℕ) → y ≡ x ++ a → y ++ rest ≡ x ++ (a ++ rest)
more_put x y a rest e = ap (λ l. l ++ rest) e ∙ append_assoc x a rest

pub mark_put : (style : ℕ) (old head first second third fourth last : List ℕ) → head ≡ old ++ 27 ∷ codes "[0"
    → first ≡ head ++ part 1 (codes ";7") style → second ≡ first ++ part 2 (codes ";1") style
    → third ≡ second ++ part 4 (codes ";3") style → fourth ≡ third ++ part 8 (codes ";50") style
    → last ≡ fourth ++ codes "m" → last ≡ old ++ mark style
mark_put style old head first second third fourth last a b c d e f =
    let five : List ℕ = part 8 (codes ";50") style ++ codes "m" in
    let four : List ℕ = part 4 (codes ";3") style ++ five in
    let three : List ℕ = part 2 (codes ";1") style ++ four in
    let two : List ℕ = part 1 (codes ";7") style ++ three in
    f ∙ more_put third fourth (part 8 (codes ";50") style) (codes "m") e
    ∙ more_put second third (part 4 (codes ";3") style) five d
    ∙ more_put first second (part 2 (codes ";1") style) four c
    ∙ more_put head first (part 1 (codes ";7") style) three b
    ∙ more_put old head (27 ∷ codes "[0") two a
