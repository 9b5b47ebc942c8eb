-- Answers, as they are read.
use Rattle.std.proofs.Common.{◌≡◌, ◌≢◌, ◌+◌, ◌++◌, ◌∙◌, ℕ, Bool, true, false, if◌then◌else◌, List, [], ◌∷◌, length, drop, map}
use Rattle.std.proofs.Common.{Option, Some, None, Result, Ok, Err, ap, sym, refl, append_assoc, append-nil}
use Rattle.std.proofs.lemmas.List.{map-append}
use Rattle.std.specs.Prelude.{option_map}
use Rattle.base64.specs.Engines.{standard}
use Rattle.base64.specs.GeneralPurpose.{encode_of}
use Rattle.session_keeping.specs.Answers.{IsRead, Told, and_then, answers_of, bytes_text, digits_after, given_of, number_of}
use Rattle.session_keeping.specs.Answers.{Faults, told, told_before, told_of}
use Rattle.session_keeping.specs.Kept.{has_mark}
use Rattle.session_keeping.specs.Lines.{IsUnmarked, answer_mark, typed_mark}
use Rattle.session_keeping.specs.declared.answers.Answer.{Answer}
use Rattle.session_keeping.specs.declared.lines.LinesFault.{LinesFault}
use Rattle.session_keeping.specs.declared.lines.LinesFault.TheVariants.{Unmarked, Memory}

-- what is read of a line and those after it, by the marks
abbrev view : Bool → Bool → ℕ → List ℕ → List (List ℕ) → Option (List Told)
view has_typed has_answer typed line lines =
    if has_typed then answers_of (typed + 1) lines
    else (if has_answer then told_before typed (given_of (drop 1 line)) (answers_of typed lines)
    else answers_of typed lines)

pub typed_read : (typed : ℕ) (line : List ℕ) (before : List Answer) → has_mark typed_mark line ≡ true
    → IsRead typed line before before (typed + 1)
typed_read typed line before e = λ lines.
    ap (λ b. and_then (told before) (view b (has_mark answer_mark line) typed line lines)) e

pub other_read : (typed : ℕ) (line : List ℕ) (before : List Answer) → has_mark typed_mark line ≡ false
    → has_mark answer_mark line ≡ false → IsRead typed line before before typed
other_read typed line before e d = λ lines.
    ap (λ b. and_then (told before) (view b (has_mark answer_mark line) typed line lines)) e
    ∙ ap (λ b. and_then (told before) (view false b typed line lines)) d

-- one answer more
one_more : (before : List Answer) (answer : Answer) (rest : Option (List Told))
    → and_then (told before) (told_before answer.line (Some answer.given.items) rest)
    ≡ and_then (told (before ++ answer ∷ [])) rest
one_more before answer None = refl
one_more before answer (Some rest) =
    ap (λ (l : List Told). Some l) (sym (append_assoc (told before) (told_of answer ∷ []) rest)
    ∙ ap (λ (l : List Told). l ++ rest) (sym (map-append told_of before (answer ∷ []))))

at_answer : (typed : ℕ) (line : List ℕ) (lines : List (List ℕ)) (given : Option (List ℕ))
    → has_mark typed_mark line ≡ false → has_mark answer_mark line ≡ true → given_of (drop 1 line) ≡ given
    → answers_of typed (line ∷ lines) ≡ told_before typed given (answers_of typed lines)
at_answer typed line lines given e d f =
    ap (λ b. view b (has_mark answer_mark line) typed line lines) e
    ∙ ap (λ b. view false b typed line lines) d
    ∙ ap (λ o. told_before typed o (answers_of typed lines)) f

pub answer_read : (typed : ℕ) (line : List ℕ) (before : List Answer) (answer : Answer)
    → has_mark typed_mark line ≡ false → has_mark answer_mark line ≡ true
    → given_of (drop 1 line) ≡ Some answer.given.items → answer.line ≡ typed
    → IsRead typed line before (before ++ answer ∷ []) typed
answer_read typed line before answer e d f same = λ lines.
    ap (and_then (told before)) (at_answer typed line lines (Some answer.given.items) e d f)
    ∙ ap (λ n. and_then (told before) (told_before n (Some answer.given.items) (answers_of typed lines))) (sym same)
    ∙ one_more before answer (answers_of typed lines)

pub malformed_read : (typed : ℕ) (line : List ℕ) → has_mark typed_mark line ≡ false → has_mark answer_mark line ≡ true
    → given_of (drop 1 line) ≡ None → (lines : List (List ℕ)) → answers_of typed (line ∷ lines) ≡ None
malformed_read typed line e d f = λ lines. at_answer typed line lines None e d f

-- why nothing is read
pub fault_read : (all : Option (List Told)) (answers : List Told) (rest : Option (List Told)) (fault : LinesFault)
    → all ≡ and_then answers rest → Faults rest fault → Faults all fault
fault_read all answers rest (Unmarked number) e none = e ∙ ap (and_then answers) none
fault_read all answers rest Memory e none = tt

pub no_memory : (given : Option (List ℕ)) → IsUnmarked given (Err Memory)
no_memory None = tt
no_memory (Some given) = tt

-- all are read
pub all_read : (answers : List Told) → and_then answers (Some []) ≡ Some answers
all_read answers = ap (λ (l : List Told). Some l) (append-nil answers)

pub none_read : (rest : Option (List Told)) → rest ≡ and_then [] rest
none_read None = refl
none_read (Some rest) = refl

-- a text that is not empty
pub number_begun : (text : List ℕ) → length text ≢ 0 → number_of text ≡ digits_after (Some 0) text
number_begun [] h = absurd (h refl)
number_begun (b ∷ bs) h = refl

pub text_of_bytes : (bytes : List ℕ) → length bytes ≢ 0 → bytes_text bytes ≡ 32 ∷ encode_of standard bytes
text_of_bytes [] h = absurd (h refl)
text_of_bytes (b ∷ bs) h = refl
