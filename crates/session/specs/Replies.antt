-- What opening a session, and replying to a line, come to.
use Rattle.std.specs.Prelude.{◌≡◌, ◌++◌, ◌∷◌, [], ℕ, List, true, false, Result, Ok, Err}
use Rattle.zcore.specs.Turn.{is_waiting}
use Rattle.session.specs.declared.fault.OpenFault.{OpenFault}
use Rattle.session.specs.declared.fault.OpenFault.TheVariants as faults
use Rattle.session.specs.declared.reply.Reply.{Reply}
use Rattle.session.specs.declared.reply.Reply.TheVariants as replies
use Rattle.session_lines.specs.Standing.{Standing, nothing, taken}
use Rattle.session.specs.Session.{Session}
use Rattle.session.specs.Loads.{RefusesToLoad, CanBeLoaded}
use Rattle.session.specs.Files.{script_after}
use Rattle.session.specs.Game.{Game, IsSessionOf, InEach, text_on, place_on, is_typable_on}

-- A session of the game at its beginning, or a story that is not loaded, or memory that was refused later.
abbrev pub OpensSession : Game → Result Session OpenFault → Type 0
OpensSession game (Ok session) = CanBeLoaded game.mode game.story × IsSessionOf game nothing session
OpensSession game (Err faults.Memory) = CanBeLoaded game.mode game.story
OpensSession game (Err fault) = RefusesToLoad game.mode game.story fault

-- what a reply says of a line, and the text that it lends
abbrev pub RepliesWith : Game → Standing → List ℕ → Reply → Type 0
RepliesWith game s line (replies.Taken text) =
    (is_typable_on game line ≡ true) × (is_waiting (place_on game s.done) ≡ true)
    × (text.now ≡ text_on game (s.done ++ line ∷ []))
RepliesWith game s line replies.Refused = is_typable_on game line ≡ false
RepliesWith game s line replies.Over = (is_typable_on game line ≡ true) × (is_waiting (place_on game s.done) ≡ false)
RepliesWith game s line replies.NoMemory = (is_typable_on game line ≡ true) × (is_waiting (place_on game s.done) ≡ true)

-- what a reply says of what is given for a name, and the text that it lends
abbrev pub RepliesGiven : Game → Standing → List ℕ → Reply → Type 0
RepliesGiven game s given (replies.Taken text) =
    (is_waiting (place_on game s.done) ≡ true) × (text.now ≡ text_on game (s.done ++ given ∷ []))
RepliesGiven game s given replies.NoMemory = is_waiting (place_on game s.done) ≡ true
RepliesGiven game s given _ = ⊥

-- what a turn adds to the transcript of the story, where its line was taken
abbrev pub ScriptsReply : Game → Standing → List ℕ → Reply → List ℕ → Type 0
ScriptsReply game s line (replies.Taken text) script = script ≡ script_after game s.done line
ScriptsReply game s line _ script = Unit {0}

-- what the session is after a reply: as it was, but for a line that was taken
abbrev pub After : List ℕ → Reply → Session → Session → Type 0
After line (replies.Taken text) old new = InEach old (λ game s. IsSessionOf game (taken game.keep line s) new)
After line replies.Refused old new = new ≡ old
After line replies.Over old new = new ≡ old
After line replies.NoMemory old new = new ≡ old
