-- The laws of stories that functions of `laws` carry as their contracts.
use Rattle.std.specs.Prelude.{◌≡◌, ◌⊎◌, ◌<◌, ◌≤◌, ℕ, List, length, Result, Ok, Err}
use Rattle.std.specs.List.{All}
use Rattle.zcore.specs.declared.header.Version.{Version}
use Rattle.zcore.specs.declared.header.Header.{Header}
use Rattle.zcore.specs.Header.{Reads, scale_of}
use Rattle.meaning.specs.Resolved.{RoutineOf, ProgramOf}
use Rattle.meaning.specs.Accepted.{IsAccepted}
use Rattle.meaning.specs.Sizes.{greatest_weight, greatest_routine_weight}
use Rattle.meaning.specs.Places.{routines_place}
use Rattle.code_items.specs.Statements.{routine_items}
use Rattle.code_drafts.specs.Addresses.{Sizes}
use Rattle.code.specs.Bytes.{code_size}
use Rattle.code.specs.Sizes.{routines_size}
use Rattle.code.specs.HeldProgram.{sizes_of, HoldsProgram}
use Rattle.story_file.specs.Layout.{addresses_in, greatest_length, story_of}
use Rattle.zcore.specs.Layout.{greatest_word}
use Rattle.syntax_lexer.specs.declared.fault.SourceFault.{SourceFault}
use Rattle.syntax_lexer.specs.FaultNumbers.{no_memory}
use Rattle.story.specs.Compiled.{CompilesBy, IsStoryOf, IsStoryOfBy}
use Rattle.story.specs.Large.{tree_length_fault}

-- the code of a routine of a program of these sizes can be reached by jumps
abbrev pub IsShortRoutine : Sizes → RoutineOf → Type 0
IsShortRoutine sizes r = code_size sizes (routine_items r) ≤ greatest_routine_weight

-- a story whose addresses and packed addresses are words, and whose bytes are bytes
pub record IsStory (version : Version) (p : ProgramOf) : Type 0 where
  pub accepted : IsAccepted p
  pub short : All (IsShortRoutine (sizes_of p)) p.routines
  pub placed : routines_place p ≤ greatest_word
  pub within : length (story_of version p) ≤ greatest_length version
  pub bytes : All (λ b. b < 256) (story_of version p)

-- such a story is read, and holds its program
abbrev pub StoriesHold : Type 0
StoriesHold =
    (version : Version) (p : ProgramOf) → IsStory version p
    → ((header : Header) × Reads (story_of version p) (Ok header))
    × HoldsProgram (story_of version p) (addresses_in (scale_of version) p) p

-- the packed addresses of an accepted program's story are words where the addresses of all that stands before its
-- routines are, and its code weighs no more than a source may
abbrev pub StoriesAreShort : Type 0
StoriesAreShort =
    (version : Version) (p : ProgramOf) → IsAccepted p → routines_place p ≤ greatest_word
    → routines_size (sizes_of p) p.routines ≤ greatest_weight version
    → length (story_of version p) ≤ greatest_length version

-- what the limit of weight accepts, that of length accepts with the same bytes, and refuses for want of memory alone
abbrev pub LightStoriesFit : Type 0
LightStoriesFit =
    (version : Version) (source bytes : List ℕ) → IsStoryOf version source bytes
    → IsStoryOfBy tree_length_fault version source bytes
    × ((result : Result (List ℕ) SourceFault) → CompilesBy tree_length_fault version source result
    → (result ≡ Ok bytes) ⊎ (result ≡ Err no_memory))
