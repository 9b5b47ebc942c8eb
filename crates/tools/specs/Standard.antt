-- From a source to what `play --standard` writes: the source is compiled, the Standard's machine opens its story, and the
-- lines of a reader are played.
use Rattle.std.specs.Prelude.{◌≡◌, ◌⊎◌, ℕ, Bool, not, if◌then◌else◌, bytes_eq, codes, List, [], ◌∷◌, ◌++◌, Option, Result}
use Rattle.std.specs.Prelude.{Ok, Err}
use Rattle.std.specs.List.{All, filter}
use Rattle.std.specs.Str.{IsAscii}
use Rattle.zcore.specs.declared.header.Version.{Version}
use Rattle.zcore.specs.declared.place.Place.{Place}
use Rattle.zcore_standard_loading.specs.declared.options.StandardOptions.{StandardOptions}
use Rattle.zcore_standard_loading.specs.Loading.{memory_for, story_of}
use Rattle.zcore_versions.specs.Machine.{by_version}
use Rattle.checker.specs.Programs.{resolve_program}
use Rattle.meaning.specs.Resolved.{ProgramOf}
use Rattle.story.specs.Playable.{IsPlayableBy}
use Rattle.story.specs.Refused.{Limits, RefusesBy, tree_size_fault}
use Rattle.machine_standard.specs.declared.load.StandardFault.TheVariants as loads
use Rattle.session.specs.declared.fault.OpenFault.{OpenFault}
use Rattle.session.specs.declared.fault.OpenFault.TheVariants as opens
use Rattle.session.specs.declared.mode.Mode.TheVariants.{Standard}
use Rattle.session.specs.Game.{Game, game_of, telling_of}
use Rattle.session.specs.Session.{Session}
use Rattle.session.specs.Sessions.{IsSession}
use Rattle.session_run.specs.declared.fault.RunFault.{RunFault}
use Rattle.session_lines.specs.Standing.{Standing, nothing}
use Rattle.session_lines.specs.Transcript.{Telling, Typed, answer_of, standing_after, transcript_of}
use Rattle.session_run.specs.Ran.{Streams, Ran}
use Rattle.tools.specs.declared.pair.PairFault.{PairFault}
use Rattle.tools.specs.declared.pair.PairFault.TheVariants as faults
use Rattle.tools.specs.Headline.{IsUntouched, meant_by}

-- By the whole Standard `/status` asks for the status line, which leaves all as it is; in the profile it is a line for the
-- story.
abbrev pub asks_status : Typed → Bool
asks_status x = bytes_eq x.line (codes "/status")

-- the lines that do not ask for it
abbrev pub without_status : List Typed → List Typed
without_status typed = filter (λ x. not (asks_status x)) typed

-- the replies in order, but for those to the lines that ask for it
abbrev pub replies_without_status : Telling → Option ℕ → Standing → List Typed → List ℕ
replies_without_status telling keep s [] = []
replies_without_status telling keep s (x ∷ xs) =
    (if asks_status x then [] else (answer_of telling keep s x).reply)
    ++ replies_without_status telling keep (answer_of telling keep s x).standing xs

-- the transcript of the lines, in which those replies are left out
abbrev pub transcript_without_status : Telling → Option ℕ → List Typed → List ℕ
transcript_without_status telling keep typed = telling.text [] ++ replies_without_status telling keep nothing typed

-- By the whole Standard a story also takes characters outside ASCII, which the profile refuses.
abbrev pub AreAscii : List Typed → Type 0
AreAscii typed = All (λ (x : Typed). IsAscii x.line) typed

-- what stands after some lines, by the meaning of a program
abbrev pub meant_after : ProgramOf → ℕ → Option ℕ → List Typed → Standing
meant_after p fuel keep typed = standing_after (meant_by p fuel) keep nothing (without_status typed)

-- What is told of lines of ASCII is what the program means on them without `/status`: the transcript but for the replies to
-- `/status`, which lines stand after them, and the place.
pub record TellsMeaning (p : ProgramOf) (fuel : ℕ) (keep : Option ℕ) (telling : Telling) : Type 0 where
  pub transcript : (typed : List Typed) → AreAscii typed
      → transcript_without_status telling keep typed ≡ transcript_of (meant_by p fuel) keep (without_status typed)
  pub standing : (typed : List Typed) → AreAscii typed
      → standing_after telling keep nothing typed ≡ meant_after p fuel keep typed
  pub place : (typed : List Typed) → AreAscii typed
      → telling.place (meant_after p fuel keep typed).done ≡ (meant_by p fuel).place (meant_after p fuel keep typed).done

-- a story as the Standard's machine plays it, with these options
abbrev pub standard_game : StandardOptions → List ℕ → ℕ → Option ℕ → Game
standard_game options story fuel keep = game_of (Standard options) story fuel keep

-- By some limits, the source has a story of the version. What a run of its lines wrote is what the Standard's machine
-- tells, and the session is that of the story on the lines that stand, with this machine's whole states; and what it
-- tells of lines of ASCII is what the source means.
pub record PlaysSourceByStandard (limits : Limits) (options : StandardOptions) (source : List ℕ) (version : Version) (fuel : ℕ)
    (keep : Option ℕ) (io : Streams) (session : Session) (result : Result Place RunFault) : Type 0 where
  pub story : List ℕ
  pub compiled : IsPlayableBy limits version source story
  pub ran : Ran (telling_of (standard_game options story fuel keep)) keep io
      (λ typed s. IsSession (memory_for options.capabilities story) fuel
      (by_version (story_of story options) (memory_for options.capabilities story) fuel) keep s session) result
  pub meant : TellsMeaning (resolve_program compiled.tree) fuel keep (telling_of (standard_game options story fuel keep))

-- memory was refused while the story was loaded or opened
abbrev pub WantsMemory : OpenFault → Type 0
WantsMemory fault = (fault ≡ opens.Standard loads.Memory) ⊎ (fault ≡ opens.Memory)

-- What compiling and playing come to, where some limits say which programs are too large. Where reading or writing
-- failed, the session goes.
abbrev pub PairsStandardBy : Limits → StandardOptions → List ℕ → Version → ℕ → Option ℕ → Streams
    → Result Session PairFault → Type 0
PairsStandardBy limits options source version fuel keep io (Ok session) =
    (place : Place) × PlaysSourceByStandard limits options source version fuel keep io session (Ok place)
PairsStandardBy limits options source version fuel keep io (Err (faults.Source fault)) =
    RefusesBy limits version source fault × IsUntouched io
PairsStandardBy limits options source version fuel keep io (Err (faults.Open fault)) =
    ((story : List ℕ) × IsPlayableBy limits version source story) × WantsMemory fault × IsUntouched io
PairsStandardBy limits options source version fuel keep io (Err (faults.Run fault)) =
    (session : Session) × PlaysSourceByStandard limits options source version fuel keep io session (Err fault)

-- by the limits of weight
abbrev pub PairsStandard : StandardOptions → List ℕ → Version → ℕ → Option ℕ → Streams
    → Result Session PairFault → Type 0
PairsStandard options source version fuel keep io result =
    PairsStandardBy tree_size_fault options source version fuel keep io result
