-- What lines do to files of saved games, and to the transcript of their story.
use Rattle.std.specs.Prelude.{◌==◌, ◌++◌, ℕ, Bool, if◌then◌else◌, List, [], ◌∷◌, length, bytes_eq, codes, Option}
use Rattle.session.specs.Files.{file_on, is_on_after, script_after}
use Rattle.session.specs.Game.{Game, IsSessionOf, answer, asked_for_on, given_on, text_on}
use Rattle.session.specs.Given.{is_own_with}
use Rattle.session.specs.Modes.{loaded_in}
use Rattle.session.specs.Session.{Session}
use Rattle.session_lines.specs.Standing.{Standing, redo_of}
use Rattle.session_lines.specs.Transcript.{Typed}
use Rattle.session_lines.specs.Files.{FileAct, LogsActs, acts_for, scripted}
use Rattle.session_lines.specs.Names.{file_name}

-- what a line did to files after others
abbrev pub acts_on : Game → List (List ℕ) → Typed → List FileAct
acts_on game lines x =
    acts_for (asked_for_on game lines) (file_name x.line) (file_on game lines) (given_on game lines x)

-- The transcript

-- no byte is no act
abbrev pub adding : List ℕ → List FileAct
adding [] = []
adding (b ∷ bs) = scripted (b ∷ bs) ∷ []

-- bytes that are added if the transcript is on
abbrev pub adding_if : Bool → List ℕ → List FileAct
adding_if is_on bytes = if is_on then scripted bytes ∷ [] else []

-- A turn that is taken back, or done again, is told there, if the transcript is on before. Nothing is cut.
abbrev pub script_undo : Game → Standing → List FileAct
script_undo game s =
    if s.kept == 0 then [] else adding_if (is_on_after game s.done) (codes "/undo\n[Undone.]\n")

abbrev pub script_redo : Game → Standing → List FileAct
script_redo game s =
    if length s.undone == 0 then []
    else adding_if (is_on_after game s.done) (codes "/redo\n[Redone.]\n")
    ++ adding_if (is_on_after game s.done) (text_on game (redo_of s).done)

-- of other lines those that were taken add what their turns add: a line more is done then
abbrev pub script_line : Game → Standing → Typed → List FileAct
script_line game s x =
    if length (answer game s x).standing.done == length s.done then []
    else adding (script_after game s.done (given_on game s.done x))

unfoldable pub script_acts : Game → Standing → Typed → List FileAct
script_acts game s x =
    if bytes_eq x.line (codes "/undo") then script_undo game s
    else (if bytes_eq x.line (codes "/redo") then script_redo game s
    else script_line game s x)

-- What a line did: first what became of a name, then what the line adds to the transcript
abbrev pub line_acts : Game → Standing → Typed → List FileAct
line_acts game s x = acts_on game s.done x ++ script_acts game s x

-- and what many lines did
abbrev pub acts_of : Game → Standing → List Typed → List FileAct
acts_of game s [] = []
acts_of game s (x ∷ xs) = line_acts game s x ++ acts_of game (answer game s x).standing xs

-- whether bytes begin as the save files of the game's story do
abbrev pub is_own_on : Game → List ℕ → Bool
is_own_on game bytes = is_own_with (loaded_in game.mode game.story) bytes

-- The session plays the game and these lines stand; and the log has what the lines did that were answered from `s` on.
-- A file was written only where a look at its name just before found nothing, or a save file of the story.
abbrev pub Leaves : Game → Standing → Session → Option (List FileAct) → Option (List FileAct) → List Typed → Standing
    → Type 0
Leaves game s session before after typed t =
    IsSessionOf game t session × LogsActs (is_own_on game) before after (acts_of game s typed)
