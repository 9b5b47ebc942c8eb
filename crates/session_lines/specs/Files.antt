-- What is done to files of saved games, and to the transcript of the story.
use Rattle.std.specs.Prelude.{◌≡◌, ◌++◌, ℕ, zero, Bool, true, if◌then◌else◌, List, [], ◌∷◌, Option, Some, None, ⊤}
use Rattle.std.specs.Option.{option_map}
use Rattle.zcore_standard.specs.declared.save_form.Purpose.{Purpose}
use Rattle.zcore_standard.specs.declared.save_form.Purpose.TheVariants.{Saving, Restoring}

pub data FileAct : Type 0 where
  -- what has a name was looked at: it was nothing, or something with these first bytes
  looked : List ℕ → Option (List ℕ) → FileAct
  -- a file of a name was written with these bytes, or read
  wrote : List ℕ → List ℕ → FileAct
  read : List ℕ → List ℕ → FileAct
  -- this was given for a name again, as in an earlier run, in which files were written and read
  recalled : List ℕ → FileAct
  -- these bytes were given to the transcript of the story
  scripted : List ℕ → FileAct

-- where a log is known, it has these acts more
abbrev pub Logs : Option (List FileAct) → Option (List FileAct) → List FileAct → Type 0
Logs before after acts = after ≡ option_map (λ log. log ++ acts) before

-- where a log is known, it ends with a look at a name
abbrev pub EndsWithLook : Option (List FileAct) → List ℕ → Type 0
EndsWithLook None name = ⊤
EndsWithLook (Some log) name =
    (before : List FileAct) × ((seen : Option (List ℕ)) × (log ≡ before ++ looked name seen ∷ []))

-- what a look finds
abbrev pub seen_by : Bool → List ℕ → Option (List ℕ)
seen_by is_there head = if is_there then Some head else None

-- what was recalled, if anything was
abbrev pub recalled_if : Bool → List ℕ → List FileAct
recalled_if is_known given = if is_known then recalled given ∷ [] else []

-- What a name did to files, by what was given for it: where a game was saved, this file was written; where one was
-- restored, those bytes were read.
abbrev pub acts_for : Option Purpose → List ℕ → List ℕ → List ℕ → List FileAct
acts_for (Some Saving) name file (zero ∷ bytes) = wrote name file ∷ []
acts_for (Some Restoring) name file (zero ∷ bytes) = read name bytes ∷ []
acts_for _ name file given = []

-- Which files may be written

-- what a look found may be written over: nothing, or a file that is a story's own by its first bytes
abbrev pub may_be_written : (List ℕ → Bool) → Option (List ℕ) → Bool
may_be_written is_own None = true
may_be_written is_own (Some head) = is_own head

-- How acts are logged. Just before each file that is written, what had its name was looked at, and may be written over.
-- Other looks stand anywhere. For what a name did in an earlier run stands what is recalled of it.
pub data AreLogged (is_own : List ℕ → Bool) : List FileAct → List FileAct → Type 0 where
  no_act : AreLogged is_own [] []
  a_look : {acts log : List FileAct} (name : List ℕ) (seen : Option (List ℕ)) → AreLogged is_own acts log
      → AreLogged is_own acts (looked name seen ∷ log)
  a_write : {acts log : List FileAct} (name bytes : List ℕ) (seen : Option (List ℕ))
      → may_be_written is_own seen ≡ true → AreLogged is_own acts log
      → AreLogged is_own (wrote name bytes ∷ acts) (looked name seen ∷ wrote name bytes ∷ log)
  a_read : {acts log : List FileAct} (name bytes : List ℕ) → AreLogged is_own acts log
      → AreLogged is_own (read name bytes ∷ acts) (read name bytes ∷ log)
  a_recall : {acts log : List FileAct} (purpose : Option Purpose) (name file given : List ℕ)
      → AreLogged is_own acts log
      → AreLogged is_own (acts_for purpose name file given ++ acts) (recalled given ∷ log)
  a_script : {acts log : List FileAct} (bytes : List ℕ) → AreLogged is_own acts log
      → AreLogged is_own (scripted bytes ∷ acts) (scripted bytes ∷ log)

-- where a log is known, these acts are logged in what it has more
abbrev pub LogsActs : (List ℕ → Bool) → Option (List FileAct) → Option (List FileAct) → List FileAct → Type 0
LogsActs is_own before after acts = (more : List FileAct) × (AreLogged is_own acts more × Logs before after more)
