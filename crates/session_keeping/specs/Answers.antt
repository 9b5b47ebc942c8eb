-- What a story was given for names of saved games, as a session's file has it.
use Rattle.std.specs.Prelude.{◌≡◌, ℕ, ◌+◌, ◌-◌, ◌*◌, Bool, List, [], ◌∷◌, ◌++◌, drop, map, ◌==◌, nat_lt, nat_le, ◌&&◌, if◌then◌else◌, ⊤}
use Rattle.std.specs.Prelude.{Option, Some, None, option_map}
use Rattle.std.specs.Fmt.{decimal}
use Rattle.std.specs.Result.{result_ok}
use Rattle.base64.specs.Engines.{standard}
use Rattle.base64.specs.GeneralPurpose.{decode_of, encode_of}
use Rattle.session_keeping.specs.Heading.{ended}
use Rattle.session_keeping.specs.Kept.{has_mark}
use Rattle.session_keeping.specs.Lines.{answer_mark, typed_mark}
use Rattle.session_keeping.specs.declared.answers.Answer.{Answer}
use Rattle.session_keeping.specs.declared.lines.LinesFault.{LinesFault}
use Rattle.session_keeping.specs.declared.lines.LinesFault.TheVariants.{Unmarked, Memory}

-- What is written

-- the text of what is given: its number, and where bytes follow, a space and these in base64
abbrev pub bytes_text : List ℕ → List ℕ
bytes_text [] = []
bytes_text (b ∷ bs) = 32 ∷ encode_of standard (b ∷ bs)

abbrev pub answer_text : List ℕ → List ℕ
answer_text [] = []
answer_text (number ∷ bytes) = decimal number ++ bytes_text bytes

-- the line of it, with its mark and its end
abbrev pub answer_line : List ℕ → List ℕ
answer_line given = ended (answer_mark ∷ answer_text given)

-- What is read

-- what is before the first space of a text, and what is after it
abbrev pub before_space : List ℕ → List ℕ
before_space [] = []
before_space (b ∷ bs) = if b == 32 then [] else b ∷ before_space bs

abbrev pub after_space : List ℕ → List ℕ
after_space [] = []
after_space (b ∷ bs) = if b == 32 then bs else after_space bs

-- a number below 256 with one digit more, if it is one and the number stays below
abbrev pub with_digit : ℕ → ℕ → Option ℕ
with_digit number digit =
    if nat_le 48 digit && nat_le digit 57 && nat_lt (10 * number + (digit - 48)) 256
    then Some (10 * number + (digit - 48))
    else None

abbrev pub digits_after : Option ℕ → List ℕ → Option ℕ
digits_after None text = None
digits_after (Some number) [] = Some number
digits_after (Some number) (b ∷ bs) = digits_after (with_digit number b) bs

-- the number below 256 of a text in decimal digits
abbrev pub number_of : List ℕ → Option ℕ
number_of [] = None
number_of (b ∷ bs) = digits_after (Some 0) (b ∷ bs)

abbrev pub given_by : Option ℕ → Option (List ℕ) → Option (List ℕ)
given_by (Some number) (Some bytes) = Some (number ∷ bytes)
given_by _ _ = None

-- what was given, by its text; `None` where that is malformed
abbrev pub given_of : List ℕ → Option (List ℕ)
given_of [] = Some []
given_of (b ∷ bs) =
    given_by (number_of (before_space (b ∷ bs))) (result_ok (decode_of standard (after_space (b ∷ bs))))

-- what was given for a line that was typed, by its number from 1
pub record Told : Type 0 where
  pub line : ℕ
  pub given : List ℕ

abbrev pub told_before : ℕ → Option (List ℕ) → Option (List Told) → Option (List Told)
told_before line (Some given) (Some answers) = Some (record { line = line; given = given } ∷ answers)
told_before _ _ _ = None

-- the answers in lines, in order, after so many lines that were typed; `None` where one is malformed
abbrev pub answers_of : ℕ → List (List ℕ) → Option (List Told)
answers_of typed [] = Some []
answers_of typed (line ∷ lines) =
    if has_mark typed_mark line then answers_of (typed + 1) lines
    else (if has_mark answer_mark line then told_before typed (given_of (drop 1 line)) (answers_of typed lines)
    else answers_of typed lines)

-- what the code has of them
abbrev pub told_of : Answer → Told
told_of answer = record { line = answer.line; given = answer.given.items }

abbrev pub told : List Answer → List Told
told answers = map told_of answers

-- answers, and then those that are still to be read
abbrev pub and_then : List Told → Option (List Told) → Option (List Told)
and_then answers rest = option_map (λ more. answers ++ more) rest

-- a line was read: what is to be read of it and of lines after it is what was added, and what is to be read of these
abbrev pub IsRead : ℕ → List ℕ → List Answer → List Answer → ℕ → Type 0
IsRead typed line before after count =
    (lines : List (List ℕ)) → and_then (told before) (answers_of typed (line ∷ lines)) ≡ and_then (told after) (answers_of count lines)

-- why nothing is read
abbrev pub Faults : {X : Type 0} → Option X → LinesFault → Type 0
Faults read (Unmarked number) = read ≡ None
Faults read Memory = ⊤
