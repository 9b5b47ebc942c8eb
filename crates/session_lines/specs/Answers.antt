-- What the outside answers for the name of a saved game.
use Rattle.std.specs.Prelude.{◌≡◌, ℕ, List, Option, Result, IfOk}
use Rattle.std.specs.Global.{Vec}
use Rattle.session_lines.specs.Files.{FileAct, Logs}
use Rattle.session_lines.specs.declared.answers.GivenFault.{GivenFault}

-- What the outside answered for a name, and what was done then. It is given, unless memory was refused or it could not
-- be kept.
pub record IsAnswered (acts : List ℕ → List FileAct) (before after : Option (List FileAct))
    (result : Result (Vec ℕ) GivenFault) : Type 0 where
  pub answer : List ℕ
  pub given : IfOk result (λ given. given.items ≡ answer)
  pub logged : Logs before after (acts answer)
