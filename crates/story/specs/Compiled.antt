-- What a source is compiled to.
use Rattle.std.specs.Prelude.{◌≡◌, ◌≢◌, ℕ, List, Result, Ok, Err}
use Rattle.zcore.specs.declared.header.Version.{Version}
use Rattle.zcore.specs.Header.{dictionary_of}
use Rattle.zcore.specs.Dictionary.{entry_of}
use Rattle.syntax_lexer.specs.declared.fault.SourceFault.{SourceFault}
use Rattle.meaning.specs.Places.{number_in}
use Rattle.meaning.specs.Resolved.{ProgramOf}
use Rattle.checker_values.specs.Keys as keys
use Rattle.checker.specs.Programs.{resolve_program}
use Rattle.story_file.specs.Layout.{story_of}
use Rattle.story.specs.Playable.{IsPlayableBy}
use Rattle.story.specs.Refused.{Limits, RefusesBy, tree_size_fault}

-- The dictionary of a story gives each key its number in a program, 0 to those that are not a program's. Those that are
-- have numbers that are not 0, and differ.
pub record NumbersKeys (story : List ℕ) (p : ProgramOf) : Type 0 where
  pub numbers : (key : ℕ) → entry_of story (dictionary_of story) key ≡ number_in p key
  pub there : (key : ℕ) → keys.IsKeyAmong key p.keys → number_in p key ≢ 0
  pub different : (k l : ℕ) → keys.IsKeyAmong k p.keys → keys.IsKeyAmong l p.keys → number_in p k ≡ number_in p l
      → k ≡ l

-- the story of a source: it plays it, and its bytes are those of the layout
pub record IsStoryOfBy (limits : Limits) (version : Version) (source bytes : List ℕ) : Type 0 where
  pub playable : IsPlayableBy limits version source bytes
  pub laid_out : bytes ≡ story_of version (resolve_program playable.tree)
  pub dictionary : NumbersKeys bytes (resolve_program playable.tree)

-- what the compiler answers, where some limits say which programs are too large
abbrev pub CompilesBy : Limits → Version → List ℕ → Result (List ℕ) SourceFault → Type 0
CompilesBy limits version source (Ok bytes) = IsStoryOfBy limits version source bytes
CompilesBy limits version source (Err f) = RefusesBy limits version source f

-- by the limits of weight
abbrev pub IsStoryOf : Version → List ℕ → List ℕ → Type 0
IsStoryOf version source bytes = IsStoryOfBy tree_size_fault version source bytes

abbrev pub Compiles : Version → List ℕ → Result (List ℕ) SourceFault → Type 0
Compiles version source result = CompilesBy tree_size_fault version source result
