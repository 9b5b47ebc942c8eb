-- Whether a file loads, and why not; and what is said of it in a word.
use Rattle.std.specs.Prelude.{◌≡◌, ◌==◌, ◌||◌, ℕ, Bool, true, false, not, if◌then◌else◌, List, Option, Some, None}
use Rattle.std.specs.Prelude.{Result, Ok, Err}
use Rattle.std.specs.List.{list_any}
use Rattle.zcore.specs.declared.header.Header.{Header}
use Rattle.zcore.specs.declared.header.HeaderFault.{HeaderFault}
use Rattle.zcore.specs.Header.{Reads, dictionary_of}
use Rattle.zcore.specs.Dictionary.{entries_in}
use Rattle.zcore_standard_loading.specs.Capabilities.{plain}
use Rattle.zcore_standard_loading.specs.declared.loading.LoadedStory.{LoadedStory}
use Rattle.zcore_standard_loading.specs.Loading.{ReadsFile, memory_for, is_played}
use Rattle.survey.specs.Measures.{is_damaged}
use Rattle.survey.specs.declared.measures.Measures.{Measures}
use Rattle.survey.specs.declared.contents.Contents.{Contents}
use Rattle.survey.specs.declared.survey.Survey.{Survey}
use Rattle.survey.specs.declared.unplayed.Unplayed.{Unplayed}
use Rattle.survey.specs.declared.verdict.Verdict.{Verdict}
use Rattle.survey.specs.declared.verdict.Verdict.TheVariants as verdicts
use Rattle.survey.specs.declared.mode.Mode.{Mode}
use Rattle.survey.specs.declared.mode.Mode.TheVariants.{Profile, Standard}

-- The contents have as many words as the dictionary in a memory, whatever their order.
abbrev pub HasWordsOf : List ℕ → Contents → Type 0
HasWordsOf memory contents = contents.words ≡ entries_in memory (dictionary_of memory)

-- the versions whose headers the survey for a machine tells of: those that it plays
abbrev pub plays : Mode → ℕ → Bool
plays Profile number = (number == 5) || (number == 8)
plays Standard number = is_played number

-- For the profile a story loads where its header is read, and has the words of its dictionary; else the cause is the one
-- for which it is not read. For the whole Standard a file loads where it is read so, by a player without a screen.
abbrev pub IsVerdict : Mode → List ℕ → Result Contents HeaderFault → Type 0
IsVerdict Profile story (Ok contents) = ((header : Header) × Reads story (Ok header)) × HasWordsOf story contents
IsVerdict Profile story (Err fault) = Reads story (Err fault)
IsVerdict Standard file (Ok contents) =
    ((story : LoadedStory) × ReadsFile plain file (Ok story)) × HasWordsOf (memory_for plain file) contents
IsVerdict Standard file (Err fault) = ReadsFile plain file (Err fault)

-- An opcode that a machine does not play is needed. What stands only where no direct call leads may be no code: the
-- whole Standard's machine is not said to lack it.
abbrev pub is_needed : Mode → Unplayed → Bool
is_needed Profile unplayed = true
is_needed Standard unplayed = not unplayed.is_swept

-- Only for the whole Standard, whose machine loads a story with a wrong sum, a file is told to be damaged.
abbrev pub tells_damage : Mode → Option Measures → Bool
tells_damage Standard (Some measures) = is_damaged measures
tells_damage _ _ = false

-- why the file is not loaded; else that what its header states is not so; else whether the story needs more than the
-- machine plays
abbrev pub verdict_by : Mode → Option Measures → Result Contents HeaderFault → Verdict
verdict_by mode measures (Err fault) = verdicts.Refused fault
verdict_by mode measures (Ok contents) =
    if tells_damage mode measures then verdicts.Damaged
    else (if list_any (is_needed mode) contents.unplayed.items then verdicts.Needs else verdicts.Loads)

abbrev pub verdict_of : Survey → Verdict
verdict_of survey = verdict_by survey.mode survey.measures survey.found
