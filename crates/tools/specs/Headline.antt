-- From a source to what is written: the source is compiled, its story opened, and the lines of a reader are played.
use Rattle.std.specs.Prelude.{◌≡◌, ◌⊎◌, ℕ, List, [], ◌∷◌, Option, None, Result, Ok, Err}
use Rattle.std.specs.Io.KnownBytes.{Keeps}
use Rattle.zcore.specs.declared.header.Version.{Version}
use Rattle.zcore.specs.declared.place.Place.{Place}
use Rattle.checker.specs.Programs.{resolve_program}
use Rattle.meaning.specs.Resolved.{ProgramOf}
use Rattle.meaning.specs.Meaning.{meaning}
use Rattle.story.specs.Playable.{IsPlayableBy}
use Rattle.story.specs.Refused.{Limits, RefusesBy, tree_size_fault}
use Rattle.machine.specs.declared.load.LoadFault.TheVariants as loads
use Rattle.zcore.specs.Turn.{by_profile}
use Rattle.session.specs.declared.fault.OpenFault.{OpenFault}
use Rattle.session.specs.declared.fault.OpenFault.TheVariants as opens
use Rattle.session.specs.Session.{Session}
use Rattle.session.specs.Sessions.{IsSession}
use Rattle.session_run.specs.declared.fault.RunFault.{RunFault}
use Rattle.session_lines.specs.Standing.{is_typable}
use Rattle.session_lines.specs.Transcript.{Telling}
use Rattle.session_run.specs.Ran.{Streams, Ran}
use Rattle.tools.specs.declared.pair.PairFault.{PairFault}
use Rattle.tools.specs.declared.pair.PairFault.TheVariants as faults

-- the last of some texts
abbrev pub last_of : List (List ℕ) → List ℕ
last_of [] = []
last_of (t ∷ []) = t
last_of (t ∷ u ∷ ts) = last_of (u ∷ ts)

-- what a program means, run afresh on lines: the text of its last turn, and where it then stands
abbrev pub meant_by : ProgramOf → ℕ → Telling
meant_by p fuel =
    record {
      text = λ lines. last_of (meaning p fuel lines).texts;
      place = λ lines. (meaning p fuel lines).place;
      takes = is_typable;
      given = λ lines x. x.line;
      asked = λ line. None;
    }

-- By some limits, the source has a story of the version; what a run of its lines wrote, the opening first, is what the source means on
-- the lines that stand; and the session is that of the story on these lines, with the machine's whole states.
pub record PlaysSource (limits : Limits) (source : List ℕ) (version : Version) (fuel : ℕ) (keep : Option ℕ)
    (io : Streams) (session : Session) (result : Result Place RunFault) : Type 0 where
  pub story : List ℕ
  pub compiled : IsPlayableBy limits version source story
  pub ran : Ran (meant_by (resolve_program compiled.tree) fuel) keep io
      (λ typed s. IsSession story fuel (by_profile story fuel) keep s session) result

-- memory was refused while the story was loaded or opened
abbrev pub WantsMemory : OpenFault → Type 0
WantsMemory fault = (fault ≡ opens.Load loads.Memory) ⊎ (fault ≡ opens.Memory)

-- nothing was read, and nothing was written
abbrev pub IsUntouched : Streams → Type 0
IsUntouched io = Keeps io.unread_before io.unread_after × Keeps io.held_before io.held_after

-- What compiling and playing come to, where some limits say which programs are too large. Where reading or writing
-- failed, the session goes.
abbrev pub PairsBy : Limits → List ℕ → Version → ℕ → Option ℕ → Streams → Result Session PairFault → Type 0
PairsBy limits source version fuel keep io (Ok session) =
    (place : Place) × PlaysSource limits source version fuel keep io session (Ok place)
PairsBy limits source version fuel keep io (Err (faults.Source fault)) =
    RefusesBy limits version source fault × IsUntouched io
PairsBy limits source version fuel keep io (Err (faults.Open fault)) =
    ((story : List ℕ) × IsPlayableBy limits version source story) × WantsMemory fault × IsUntouched io
PairsBy limits source version fuel keep io (Err (faults.Run fault)) =
    (session : Session) × PlaysSource limits source version fuel keep io session (Err fault)

-- by the limits of weight
abbrev pub Pairs : List ℕ → Version → ℕ → Option ℕ → Streams → Result Session PairFault → Type 0
Pairs source version fuel keep io result = PairsBy tree_size_fault source version fuel keep io result
