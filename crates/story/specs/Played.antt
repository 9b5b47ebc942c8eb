-- What a compiled story is to the Standard's player.
use Rattle.std.specs.Prelude.{◌≡◌, ◌<◌, ◌||◌, ℕ, Bool, true, not, List, map, Ok}
use Rattle.std.specs.List.{All, list_all}
use Rattle.std.specs.Option.{is_none}
use Rattle.zcore.specs.declared.header.Version.{Version}
use Rattle.zcore.specs.Turn.{Whole, plays_of, last_place, is_waiting}
use Rattle.zcore_standard_loading.specs.Capabilities.{HasByteSize}
use Rattle.zcore_standard_loading.specs.declared.options.StandardOptions.{StandardOptions}
use Rattle.zcore_standard.specs.Saving.{asked_by}
use Rattle.zcore_versions.specs.StandardLaws.{is_plain_line}
use Rattle.zcore_standard_loading.specs.declared.loading.LoadedStory.{LoadedStory}
use Rattle.zcore_standard_loading.specs.Loading.{ReadsFile, memory_for, story_of}
use Rattle.zcore_versions.specs.Machine.{by_version}
use Rattle.meaning.specs.Resolved.{ProgramOf}
use Rattle.meaning.specs.Meaning.{meaning}
use Rattle.checker.specs.Programs.{resolve_program}
use Rattle.story.specs.declared.sized.Limit.{Limit}
use Rattle.story.specs.Compiled.{IsStoryOfBy}
use Rattle.story.specs.Large.{limits_by}

-- a whole state that does not wait for the name of a saved game
abbrev pub asks_no_name : Whole → Bool
asks_no_name w = not (is_waiting w.place) || is_none (asked_by w.state.pending)

-- the whole states after the opening and the turns of lines, by the Standard's machine
abbrev pub runs_by_standard : StandardOptions → List ℕ → ℕ → List (List ℕ) → List Whole
runs_by_standard options story full lines =
    plays_of (by_version (story_of story options) (memory_for options.capabilities story) full) lines

-- The turns of the Standard's machine on a story print what a program means, end where it ends, and ask for no name of a
-- saved game.
pub record PlaysByStandard (options : StandardOptions) (story : List ℕ) (p : ProgramOf) (full : ℕ)
    (lines : List (List ℕ)) : Type 0 where
  pub texts : map (λ (w : Whole). w.text) (runs_by_standard options story full lines)
      ≡ (meaning p full lines).texts
  pub place : last_place (runs_by_standard options story full lines)
      ≡ (meaning p full lines).place
  pub asks : list_all asks_no_name (runs_by_standard options story full lines) ≡ true

-- its file is read, and on any fuel and on all lines of ASCII it plays the program
pub record IsPlayableByStandard (options : StandardOptions) (story : List ℕ) (p : ProgramOf) : Type 0 where
  pub read : (loaded : LoadedStory) × ReadsFile options.capabilities story (Ok loaded)
  pub plays : (full : ℕ) (lines : List (List ℕ)) → list_all is_plain_line lines ≡ true
      → PlaysByStandard options story p full lines

-- So is every compiled story, whatever the seed of the dice is, whether there are save files, a transcript and text styles,
-- and whatever the size of the screen is.
abbrev pub StoriesPlayByStandard : Type 0
StoriesPlayByStandard =
    (limit : Limit) (version : Version) (source story : List ℕ) (is : IsStoryOfBy (limits_by limit) version source story)
    → All (λ b. b < 256) story → (options : StandardOptions) → HasByteSize options.capabilities
    → IsPlayableByStandard options story (resolve_program is.playable.tree)
