-- What a story that asks for a name is given for a line, and what that does to files.
use Rattle.std.specs.Prelude.{◌≡◌, ◌++◌, ℕ, Bool, true, false, List, [], ◌∷◌, Option, Some, None, ⊤, Result, IfOk}
use Rattle.std.specs.Global.{Vec}
use Rattle.session.specs.Game.{Game, given_on}
use Rattle.session_lines.specs.Files.{FileAct, LogsActs, looked, may_be_written}
use Rattle.session_lines.specs.declared.answers.GivenFault.{GivenFault}
use Rattle.session_run.specs.Acts.{acts_on, is_own_on}

-- What a story is given for a line after others, and what the line did: for one answer of the outside. It is given,
-- unless memory was refused or the answer could not be kept.
pub record IsGiven (game : Game) (lines : List (List ℕ)) (line : List ℕ) (before after : Option (List FileAct))
    (result : Result (Vec ℕ) GivenFault) : Type 0 where
  pub answer : List ℕ
  pub given : IfOk result (λ given. given.items
      ≡ given_on game lines (record { line = line; answer = answer; refused = false }))
  pub logged : LogsActs (is_own_on game) before after
      (acts_on game lines (record { line = line; answer = answer; refused = false }))

-- What the outside answered for a name, and what was done then, by which files are the story's own.
pub record IsAnsweredFor (is_own : List ℕ → Bool) (acts : List ℕ → List FileAct) (before after : Option (List FileAct))
    (result : Result (Vec ℕ) GivenFault) : Type 0 where
  pub answer : List ℕ
  pub given : IfOk result (λ given. given.items ≡ answer)
  pub logged : LogsActs is_own before after (acts answer)

-- Where a log is known, it ends with a look at a name, which found what may be written over.
abbrev pub MayWrite : (List ℕ → Bool) → Option (List FileAct) → List ℕ → Type 0
MayWrite is_own None name = ⊤
MayWrite is_own (Some log) name =
    (before : List FileAct) × ((seen : Option (List ℕ))
    × ((log ≡ before ++ looked name seen ∷ []) × (may_be_written is_own seen ≡ true)))
