-- What a step makes of the picture of the upper window.
use Rattle.std.specs.Prelude.{◌≡◌, ℕ, Bool, if◌then◌else◌, List, Option, Result, Ok, Err}
use Rattle.zcore.specs.declared.next.Next.{Next}
use Rattle.zcore.specs.State.{State}
use Rattle.zcore_standard.specs.declared.operations.StandardOperation.{StandardOperation}
use Rattle.zcore_standard.specs.Place.{Here}
use Rattle.machine_frames.specs.declared.end.End.{End}
use Rattle.machine_frames.specs.declared.end.End.TheVariants as ends
use Rattle.machine_picture.specs.Picture.{Picture, after, after_values, before}

abbrev pub redrawn_if : Bool → ℕ → StandardOperation → ℕ → List ℕ → ℕ → Picture → Picture
redrawn_if is_done version operation window values long p =
    if is_done then after_values version operation window values long p else p

-- what an operation, if there is one, draws that was done; one that was not done draws nothing
abbrev pub Redraws : Result Next End → ℕ → Option StandardOperation → Here → State → List ℕ → Picture → Picture → Type 0
Redraws (Ok next) version o here s text old new = new ≡ after version o here s text old
Redraws (Err end) version o here s text old new = new ≡ old

-- the picture after a step by an operation, if there is one; where memory was refused it can be anything
abbrev pub Pictures : Result Next End → ℕ → Option StandardOperation → Here → State → List ℕ → Picture → Picture → Type 0
Pictures (Ok next) version o here s text old new = new ≡ after version o here s text (before o here s.text old)
Pictures (Err (ends.Stop place)) version o here s text old new = new ≡ before o here s.text old
Pictures (Err ends.Memory) version o here s text old new = Unit {0}
