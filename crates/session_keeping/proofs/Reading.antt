-- Of a whole file the lines that were taken read back, and what the story was given for them.
use Rattle.std.proofs.Common.{◌≡◌, ◌+◌, ◌==◌, ◌++◌, ◌∙◌, ℕ, Bool, true, false, not, if◌then◌else◌, List, [], ◌∷◌, Option, Some, None}
use Rattle.std.proofs.Common.{ap, sym, refl, append_assoc, append-nil}
use Rattle.std.specs.Prelude.{option_map}
use Rattle.session_keeping.specs.Answers.{Told, answer_text, answers_of, given_of, told_before}
use Rattle.session_keeping.specs.Entries.{AreEntries, Entry, IsEntry, entry_line, entry_lines, given, given_after, is_left_out, kept_of}
use Rattle.session_keeping.specs.Entries.{lacks, passed, taken, typed, typed_of}
use Rattle.session_keeping.specs.Heading.{ended}
use Rattle.session_keeping.specs.Kept.{is_passed, kept_lines, lines_from, taken_lines, taken_text, text_of}
use Rattle.session_keeping.specs.Lines.{begins_line, unmarked, unmarked_in}
use Rattle.session_keeping.proofs.Digits.{answer_lacks, given_read, lacks_both}

-- The lines of the text are those of the entries

line_read : (begun line rest : List ℕ) → lacks 10 line ≡ true
    → lines_from begun (line ++ 10 ∷ rest) ≡ (begun ++ line) ∷ kept_lines rest
line_read begun [] rest p = ap (λ l. l ∷ kept_lines rest) (sym (append-nil begun))
line_read begun (b ∷ bs) rest p =
    let both = lacks_both 10 b bs p in
    ap (λ x. if x then begun ∷ lines_from [] (bs ++ 10 ∷ rest) else lines_from (begun ++ b ∷ []) (bs ++ 10 ∷ rest)) both.0
    ∙ line_read (begun ++ b ∷ []) bs rest both.1
    ∙ ap (λ l. l ∷ kept_lines rest) (append_assoc begun (b ∷ []) bs)

entry_lacks : (entry : Entry) → IsEntry entry → lacks 10 (entry_line entry) ≡ true
entry_lacks (typed line) h = h
entry_lacks (given bytes) h = answer_lacks bytes h
entry_lacks passed h = refl

lines_read : (entries : List Entry) → AreEntries entries → kept_lines (kept_of entries) ≡ entry_lines entries
lines_read [] h = refl
lines_read (entry ∷ entries) h =
    ap kept_lines (append_assoc (entry_line entry) (10 ∷ []) (kept_of entries))
    ∙ line_read [] (entry_line entry) (kept_of entries) (entry_lacks entry h.0)
    ∙ ap (λ l. entry_line entry ∷ l) (lines_read entries h.1)

-- Those that were taken are the lines of the entries that were taken

left_out : (entries : List Entry) → is_passed (entry_lines entries) ≡ is_left_out entries
left_out [] = refl
left_out (typed line ∷ entries) = refl
left_out (given bytes ∷ entries) = left_out entries
left_out (passed ∷ entries) = refl

pick : (b : Bool) (entry : Entry) (rest : List Entry)
    → (if b then entry_lines rest else entry_line entry ∷ entry_lines rest) ≡ entry_lines (if b then rest else entry ∷ rest)
pick true entry rest = refl
pick false entry rest = refl

taken_read : (entries : List Entry) → taken_lines (entry_lines entries) ≡ entry_lines (taken entries)
taken_read [] = refl
taken_read (typed line ∷ entries) =
    ap (λ b. if b then taken_lines (entry_lines entries) else entry_line (typed line) ∷ taken_lines (entry_lines entries))
    (left_out entries)
    ∙ ap (λ l. if is_left_out entries then l else entry_line (typed line) ∷ l) (taken_read entries)
    ∙ pick (is_left_out entries) (typed line) (taken entries)
taken_read (given bytes ∷ entries) =
    ap (λ b. if b then taken_lines (entry_lines entries) else entry_line (given bytes) ∷ taken_lines (entry_lines entries))
    (left_out entries)
    ∙ ap (λ l. if is_left_out entries then l else entry_line (given bytes) ∷ l) (taken_read entries)
    ∙ pick (is_left_out entries) (given bytes) (taken entries)
taken_read (passed ∷ entries) = taken_read entries

keep_or_not : (b : Bool) (entry : Entry) (rest : List Entry) → IsEntry entry → AreEntries rest
    → AreEntries (if b then rest else entry ∷ rest)
keep_or_not true entry rest h p = p
keep_or_not false entry rest h p = (h, p)

taken_are : (entries : List Entry) → AreEntries entries → AreEntries (taken entries)
taken_are [] h = tt
taken_are (typed line ∷ entries) h =
    keep_or_not (is_left_out entries) (typed line) (taken entries) h.0 (taken_are entries h.1)
taken_are (given bytes ∷ entries) h =
    keep_or_not (is_left_out entries) (given bytes) (taken entries) h.0 (taken_are entries h.1)
taken_are (passed ∷ entries) h = taken_are entries h.1

text_taken : (entries : List Entry) → AreEntries entries → taken_text (kept_of entries) ≡ kept_of (taken entries)
text_taken entries h =
    ap (λ lines. text_of (taken_lines lines)) (lines_read entries h) ∙ ap text_of (taken_read entries)

-- What the story was given

answers_read : (lines : ℕ) (entries : List Entry) → AreEntries entries
    → answers_of lines (entry_lines entries) ≡ Some (given_after lines entries)
answers_read lines [] h = refl
answers_read lines (typed line ∷ entries) h = answers_read (lines + 1) entries h.1
answers_read lines (given bytes ∷ entries) h =
    ap (λ o. told_before lines o (answers_of lines (entry_lines entries))) (given_read bytes h.0)
    ∙ ap (told_before lines (Some bytes)) (answers_read lines entries h.1)
answers_read lines (passed ∷ entries) h = answers_read lines entries h.1

-- What was typed

-- no entry says that a line was not taken
abbrev are_all_taken : List Entry → Bool
are_all_taken [] = true
are_all_taken (typed line ∷ entries) = are_all_taken entries
are_all_taken (given bytes ∷ entries) = are_all_taken entries
are_all_taken (passed ∷ entries) = false

all_or_not : (b : Bool) (entry : Entry) (rest : List Entry) → are_all_taken (entry ∷ rest) ≡ true → are_all_taken rest ≡ true
    → are_all_taken (if b then rest else entry ∷ rest) ≡ true
all_or_not true entry rest p q = q
all_or_not false entry rest p q = p

all_taken : (entries : List Entry) → are_all_taken (taken entries) ≡ true
all_taken [] = refl
all_taken (typed line ∷ entries) =
    all_or_not (is_left_out entries) (typed line) (taken entries) (all_taken entries) (all_taken entries)
all_taken (given bytes ∷ entries) =
    all_or_not (is_left_out entries) (given bytes) (taken entries) (all_taken entries) (all_taken entries)
all_taken (passed ∷ entries) = all_taken entries

option_twice : (b : ℕ) (line : List ℕ) (o : Option (List ℕ)) → option_map (λ l. b ∷ l) (option_map (λ l. ended line ++ l) o)
    ≡ option_map (λ l. ended (b ∷ line) ++ l) o
option_twice b line None = refl
option_twice b line (Some rest) = refl

typed_read : (line rest : List ℕ) → lacks 10 line ≡ true
    → unmarked_in true false (line ++ 10 ∷ rest) ≡ option_map (λ l. ended line ++ l) (unmarked_in false false rest)
typed_read [] rest p = refl
typed_read (b ∷ bs) rest p =
    let both = lacks_both 10 b bs p in
    ap (λ x. option_map (λ l. b ∷ l) (unmarked_in (not x) false (bs ++ 10 ∷ rest))) both.0
    ∙ ap (option_map (λ l. b ∷ l)) (typed_read bs rest both.1)
    ∙ option_twice b bs (unmarked_in false false rest)

none_begun : (rest : List ℕ) → unmarked_in false true rest ≡ unmarked_in false false rest
none_begun [] = refl
none_begun (b ∷ bs) = refl

given_skipped : (line rest : List ℕ) → lacks 10 line ≡ true
    → unmarked_in true true (line ++ 10 ∷ rest) ≡ unmarked_in false false rest
given_skipped [] rest p = none_begun rest
given_skipped (b ∷ bs) rest p =
    let both = lacks_both 10 b bs p in
    ap (λ x. unmarked_in (not x) true (bs ++ 10 ∷ rest)) both.0 ∙ given_skipped bs rest both.1

lines_typed : (entries : List Entry) → AreEntries entries → are_all_taken entries ≡ true
    → unmarked false (kept_of entries) ≡ Some (typed_of entries)
lines_typed [] h p = refl
lines_typed (typed line ∷ entries) h p =
    ap (unmarked_in true false) (append_assoc line (10 ∷ []) (kept_of entries))
    ∙ typed_read line (kept_of entries) h.0
    ∙ ap (option_map (λ l. ended line ++ l)) (lines_typed entries h.1 p)
lines_typed (given bytes ∷ entries) h p =
    ap (unmarked_in true true) (append_assoc (answer_text bytes) (10 ∷ []) (kept_of entries))
    ∙ given_skipped (answer_text bytes) (kept_of entries) (answer_lacks bytes h.0) ∙ lines_typed entries h.1 p
lines_typed (passed ∷ entries) h p = let no : false ≡ true = p in absurd (cc no)

pub taken_read_back : (entries : List Entry) → AreEntries entries
    → (unmarked false (taken_text (kept_of entries)) ≡ Some (typed_of (taken entries)))
    × (answers_of 0 (kept_lines (taken_text (kept_of entries))) ≡ Some (given_after 0 (taken entries)))
taken_read_back entries h =
    let text = text_taken entries h in
    let are = taken_are entries h in (
      ap (unmarked false) text ∙ lines_typed (taken entries) are (all_taken entries),
      ap (λ l. answers_of 0 (kept_lines l)) text ∙ ap (answers_of 0) (lines_read (taken entries) are)
          ∙ answers_read 0 (taken entries) are,
    )
