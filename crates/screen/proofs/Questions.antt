-- What a reader gives on that asks for the status line after each line.
use Rattle.std.proofs.Common.{◌≡◌, ℕ, ◌+◌, ◌<◌, ◌==◌, Bool, true, false, List, [], ◌∷◌, ◌++◌, drop, take, length}
use Rattle.std.proofs.Common.{Option, Some, None, refl, ap, sym, ◌∙◌, add-one, drop-cons, slice_index, slice_set}
use Rattle.std.proofs.lemmas.Bool.{both_ways}
use Rattle.std.specs.Io.KnownBytes.{Consumes}
use Rattle.screen.specs.Asked.{GivesByte, asked_after, left_to_give, question}

-- a byte of the question
pub question_given : (asked : ℕ) (is_begun : Bool) (typed : Option (List ℕ)) → asked < 9
    → Consumes (left_to_give asked is_begun typed) (left_to_give (asked + 1) is_begun typed)
    (slice_index question asked ∷ [])
question_given asked is_begun None lt = tt
question_given asked is_begun (Some bytes) lt =
    let next : drop asked question ≡ slice_index question asked ∷ drop (asked + 1) question =
    rw add-one (drop-cons question asked 0 lt) in
    ap (λ (t : List ℕ). t ++ asked_after is_begun bytes) next

-- a byte that was typed, where the question was given

pub line_ended : (asked : ℕ) (is_begun : Bool) (old new : Option (List ℕ)) → drop asked question ≡ []
    → Consumes old new (10 ∷ []) → Consumes (left_to_give asked is_begun old) (left_to_give 1 false new) (10 ∷ [])
unfolding asked_after
line_ended asked is_begun None new none given = tt
line_ended asked is_begun (Some xs) None none given = absurd given
line_ended asked is_begun (Some xs) (Some ys) none given =
    ap (λ (t : List ℕ). t ++ asked_after is_begun xs) none ∙ ap (asked_after is_begun) given

pub line_goes_on : (asked byte : ℕ) (is_begun : Bool) (old new : Option (List ℕ)) → drop asked question ≡ []
    → (byte == 10) ≡ false → Consumes old new (byte ∷ [])
    → Consumes (left_to_give asked is_begun old) (left_to_give asked true new) (byte ∷ [])
unfolding asked_after
line_goes_on asked byte is_begun None new none other given = tt
line_goes_on asked byte is_begun (Some xs) None none other given = absurd given
line_goes_on asked byte is_begun (Some xs) (Some ys) none other given =
    let one : asked_after is_begun (byte ∷ ys) ≡ byte ∷ asked_after true ys = rw other refl in
    ap (λ (t : List ℕ). t ++ asked_after is_begun xs) none
    ∙ ap (asked_after is_begun) given
    ∙ one
    ∙ ap (λ (t : List ℕ). byte ∷ (t ++ asked_after true ys)) (sym none)

-- the end of what is typed

pub last_line_ended : (asked : ℕ) (old new : Option (List ℕ)) → drop asked question ≡ [] → GivesByte old new None
    → Consumes (left_to_give asked true old) (left_to_give 1 false new) (10 ∷ [])
unfolding asked_after
last_line_ended asked None new none ended = tt
last_line_ended asked (Some xs) None none ended = absurd ended.0
last_line_ended asked (Some xs) (Some ys) none ended =
    ap (λ (t : List ℕ). t ++ asked_after true xs) none
    ∙ ap (asked_after true) (sym ended.0 ∙ ended.1)
    ∙ ap (λ (t : List ℕ). 10 ∷ (drop 1 question ++ asked_after false t)) (sym ended.1)

pub nothing_left : (asked : ℕ) (old new : Option (List ℕ)) → drop asked question ≡ [] → GivesByte old new None
    → GivesByte (left_to_give asked false old) (left_to_give asked false new) None
unfolding asked_after
nothing_left asked None None none ended = (tt, tt)
nothing_left asked None (Some ys) none ended =
    (tt, ap (λ (t : List ℕ). t ++ asked_after false ys) none ∙ ap (asked_after false) ended.1)
nothing_left asked (Some xs) None none ended = absurd ended.0
nothing_left asked (Some xs) (Some ys) none ended = (
  ap (λ (t : List ℕ). drop asked question ++ asked_after false t) ended.0,
  ap (λ (t : List ℕ). t ++ asked_after false ys) none ∙ ap (asked_after false) ended.1,
)

-- a buffer for bytes in whose first place a byte is written
pub first_written : (buffer : List ℕ) (byte : ℕ) → (length buffer == 0) ≡ false
    → take 1 (slice_set buffer 0 byte) ≡ byte ∷ []
first_written [] byte some = absurd (both_ways true some refl)
first_written (x ∷ xs) byte some = refl
