-- As much of a text as a turn can print of it, added to a transcript.
use Rattle.std.specs.Prelude.{◌≡◌, ◌≢◌, ◌≤◌, ℕ, List, length, take, drop, Result, Ok, Err}
use Rattle.std.specs.List.{All}
use Rattle.journal.specs.Recording.{Recording}
use Rattle.zcore.specs.State.{State, Out}
use Rattle.zcore.specs.Parts.{print}
use Rattle.machine_frames.specs.Contents.{Contents}
use Rattle.machine_frames.specs.Went.{Went}
use Rattle.machine_frames.specs.declared.end.End.{End}

-- characters that print as those of a text do, and are not more than it takes to pass the limit of text
pub record StandsFor (characters text : List ℕ) : Type 0 where
  pub few : length characters ≤ 65537
  pub same : (s : State) → print characters s ≡ print text s

-- Behind a transcript stand characters for a text, as they are. Each has a byte of its own.
pub record HasAdded (was now text : List ℕ) : Type 0 where
  pub longer : length was ≤ length now
  pub stays : take (length was) now ≡ was
  pub stands : StandsFor (drop (length was) now) text
  pub bytes : All (λ c. c ≢ 0) (drop (length was) now)

-- a text was added, and the address after it is answered; or nothing was added
abbrev pub Adds : Result ℕ End → List ℕ → List ℕ → Recording Contents → Recording Contents
    → (State → Out (List ℕ × ℕ)) → Type 0
Adds (Ok after) was now old new f = (text : List ℕ) × HasAdded was now text × Went (Ok (text, after)) old new f
Adds (Err end) was now old new f = (now ≡ was) × Went (Err end) old new f
