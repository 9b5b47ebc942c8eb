-- What a whole run comes to. No line stands before it; of the marks of its lines and of what stands after them `P` holds.
use Rattle.std.specs.Prelude.{Option, ◌≡◌, ◌⊎◌, ℕ, List, [], ◌∷◌, ◌++◌, Result, Ok, Err}
use Rattle.std.specs.Io.KnownBytes.{Appends, Consumes, IsAtEnd, Keeps}
use Rattle.zcore.specs.declared.place.Place.{Place}
use Rattle.session_run.specs.declared.fault.RunFault.{RunFault}
use Rattle.session_run.specs.declared.fault.RunFault.TheVariants.{Reading, Writing}
use Rattle.session_lines.specs.Input.{lines_of, whole_lines}
use Rattle.session_lines.specs.Standing.{Standing, nothing}
use Rattle.session_lines.specs.Transcript.{Telling, Typed, lines_typed, Answer, answer_of, standing_after, transcript_of}
use Rattle.session_lines.specs.Wrote.{WroteSome}

-- what a run did to its reader and its writer, where that is known
pub record Streams : Type 0 where
  -- the bytes that the reader had still to give before, and those that it has still to give after
  pub unread_before : Option (List ℕ)
  pub unread_after : Option (List ℕ)
  -- the bytes that the writer held before, and those that it holds after
  pub held_before : Option (List ℕ)
  pub held_after : Option (List ℕ)

-- The sentence: for one list of marks, what was written is the transcript of the lines, and `P` holds of them
-- and of the lines that stand after them.
pub record Played (telling : Telling) (keep : Option ℕ) (lines : List (List ℕ)) (written : List ℕ)
    (P : List Typed → Standing → Type 0) : Type 0 where
  pub typed : List Typed
  pub said : lines_typed typed ≡ lines
  pub wrote : written ≡ transcript_of telling keep typed
  pub stands : P typed (standing_after telling keep nothing typed)

-- all input was read and its lines were played, and the place is that of the lines that stand
pub record RanWhole (telling : Telling) (keep : Option ℕ) (io : Streams) (P : List Typed → Standing → Type 0)
    (place : Place) : Type 0 where
  pub input : List ℕ
  pub written : List ℕ
  pub took : Consumes io.unread_before io.unread_after input
  pub ended : IsAtEnd io.unread_after
  pub wrote : Appends io.held_before io.held_after written
  pub played : Played telling keep (lines_of input) written (λ typed s. P typed s × (place ≡ telling.place s.done))

-- a read failed, and the lines that were read whole were played
pub record RanToRead (telling : Telling) (keep : Option ℕ) (io : Streams) (P : List Typed → Standing → Type 0) : Type 0 where
  pub input : List ℕ
  pub written : List ℕ
  pub took : Consumes io.unread_before io.unread_after input
  pub wrote : Appends io.held_before io.held_after written
  pub played : Played telling keep (whole_lines input) written P

-- writing failed in the opening
pub record BrokeInOpening (telling : Telling) (io : Streams) (P : List Typed → Standing → Type 0) : Type 0 where
  pub unread : Keeps io.unread_before io.unread_after
  pub wrote : WroteSome io.held_before io.held_after (telling.text [])
  pub stands : P [] nothing

-- the lines that were read of an input: a last line without its end only where the input has ended
abbrev pub LinesRead : Option (List ℕ) → List ℕ → List (List ℕ) → Type 0
LinesRead unread input lines = (lines ≡ whole_lines input) ⊎ (IsAtEnd unread × (lines ≡ lines_of input))

-- the answer to a line after others
abbrev pub next_answer : Telling → Option ℕ → List Typed → Typed → Answer
next_answer telling keep typed last = answer_of telling keep (standing_after telling keep nothing typed) last

-- writing failed in the reply to the last of the lines that were answered; more lines may have been read
pub record BrokeInReply (telling : Telling) (keep : Option ℕ) (io : Streams) (P : List Typed → Standing → Type 0) : Type 0 where
  pub input : List ℕ
  pub typed : List Typed
  pub last : Typed
  pub more : List (List ℕ)
  pub took : Consumes io.unread_before io.unread_after input
  pub said : LinesRead io.unread_after input (lines_typed typed ++ last.line ∷ more)
  pub part : List ℕ
  pub rest : List ℕ
  pub whole : part ++ rest ≡ (next_answer telling keep typed last).reply
  pub wrote : Appends io.held_before io.held_after (transcript_of telling keep typed ++ part)
  pub stands : P (typed ++ last ∷ []) (next_answer telling keep typed last).standing

pub data RanToWrite (telling : Telling) (keep : Option ℕ) (io : Streams) (P : List Typed → Standing → Type 0) : Type 0 where
  in_opening : BrokeInOpening telling io P → RanToWrite telling keep io P
  in_reply : BrokeInReply telling keep io P → RanToWrite telling keep io P

abbrev pub RanToFault : Telling → Option ℕ → Streams → (List Typed → Standing → Type 0) → RunFault → Type 0
RanToFault telling keep io P Reading = RanToRead telling keep io P
RanToFault telling keep io P Writing = RanToWrite telling keep io P

abbrev pub Ran : Telling → Option ℕ → Streams → (List Typed → Standing → Type 0) → Result Place RunFault → Type 0
Ran telling keep io P (Ok place) = RanWhole telling keep io P place
Ran telling keep io P (Err fault) = RanToFault telling keep io P fault
