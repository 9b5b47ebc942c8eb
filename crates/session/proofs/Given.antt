-- What a session tells of a story that asks for the name of a saved game.
use Rattle.std.proofs.Common.{◌≡◌, ℕ, Bool, List, Option, None, Some, Result, Ok, Err, inl, refl, ap, sym, ◌∙◌, subst}
use Rattle.std.proofs.Common.{get_or}
use Rattle.std.specs.Prelude.{IfOk}
use Rattle.std.specs.Global.{Vec}
use Rattle.journal.specs.declared.recorded.NoMemory.{NoMemory}
use Rattle.zcore.specs.State.{Pending}
use Rattle.zcore.specs.Turn.{StateOfPlay, resumed}
use Rattle.zcore_standard.specs.Machine.{play_keeping}
use Rattle.zcore_standard.specs.Saving.{asked_by, place_of}
use Rattle.zcore_standard.specs.declared.save_form.Purpose.{Purpose}
use Rattle.zcore_versions.specs.Versions.{Story}
use Rattle.session.specs.Files.{file_on, file_with}
use Rattle.session.specs.Game.{Game, IsSessionOf, asked_for_on, bytes_of, play_on}
use Rattle.session.specs.Given.{IsAskedFor, IsPossibleIn, IsSaveIn, IsSaveOf}
use Rattle.session.specs.Modes.{loaded_in}
use Rattle.session.specs.Naming.{asked_with}
use Rattle.session.specs.Session.{Session}
use Rattle.session_lines.specs.Standing.{Standing}
use Rattle.session.proofs.Sessions.{session_asked, session_file}
use Rattle.session.proofs.Views.{asked_keeping}

-- where nothing is asked
pub nothing_asked : (game : Game) (s : Standing) (line : List ℕ) (asked : Option Purpose)
    → None ≡ asked_for_on game s.done → asked ≡ None → IsAskedFor game s line asked
nothing_asked game s line asked e none = subst (IsAskedFor game s line) (sym none) (inl (sym e))

-- what the lines that stand ask for, by a store of the present state
pub now_asked : (game : Game) (s : Standing) (v : Session) (known : Option Story) (kept : List (List ℕ))
    (play e : StateOfPlay) (asked : Option Purpose) → IsSessionOf game s v → v.loaded ≡ known
    → asked ≡ asked_with known play → get_or v.states v.present e ≡ play_keeping kept play
    → asked ≡ asked_for_on game s.done
now_asked game s v known kept play e asked h loaded is state =
    is ∙ ap (λ l. asked_with l play) (sym loaded ∙ h.loaded)
    ∙ sym (asked_keeping (loaded_in game.mode game.story) kept play)
    ∙ ap (asked_with (loaded_in game.mode game.story)) (sym state)
    ∙ session_asked (loaded_in game.mode game.story) (bytes_of game) game.fuel (play_on game) game.keep s v e h.session

-- what a story has kept does not matter
pub save_keeping : (loaded : Option Story) (kept : List (List ℕ)) (play : StateOfPlay) (file : Option (Vec ℕ))
    → IsSaveIn loaded play file → IsSaveIn loaded (play_keeping kept play) file
save_keeping None kept play file h = h
save_keeping (Some story) kept play file h = h

possible_keeping : (loaded : Option Story) (kept : List (List ℕ)) (play : StateOfPlay) (can : Bool)
    → IsPossibleIn loaded play can → IsPossibleIn loaded (play_keeping kept play) can
possible_keeping None kept play can h = h
possible_keeping (Some story) kept play can h = h

pub possible_if : (loaded : Option Story) (kept : List (List ℕ)) (play : StateOfPlay) (can : Result Bool NoMemory)
    → IfOk can (IsPossibleIn loaded play) → IfOk can (IsPossibleIn loaded (play_keeping kept play))
possible_if loaded kept play (Ok can) h = possible_keeping loaded kept play can h
possible_if loaded kept play (Err fault) h = h

file_at : (story : Story) (play : StateOfPlay) (file : Vec ℕ) (purpose : Purpose) (pending : Option Pending)
    → asked_by pending ≡ Some purpose
    → ((p : Pending) → pending ≡ Some p → IsSaveOf story.loaded (place_of p) (resumed play) (Some file))
    → file.items ≡ file_with (Some story) play pending
file_at story play file purpose None e h = cc
file_at story play file purpose (Some p) e h = (h p refl).1

file_in : (loaded : Option Story) (play : StateOfPlay) (file : Vec ℕ) (purpose : Purpose)
    → asked_with loaded play ≡ Some purpose → IsSaveIn loaded play (Some file)
    → file.items ≡ file_with loaded play play.pending
file_in None play file purpose e h = cc
file_in (Some story) play file purpose e h = file_at story play file purpose play.pending e h

-- and so that of the lines that stand
pub saved_file : (game : Game) (s : Standing) (v : Session) (state : StateOfPlay) (file : Vec ℕ) (purpose : Purpose)
    → IsSessionOf game s v → asked_for_on game s.done ≡ Some purpose
    → IsSaveIn v.loaded (get_or v.states v.present state) (Some file) → file.items ≡ file_on game s.done
saved_file game s v state file purpose h e is =
    let loaded = loaded_in game.mode game.story in
    let play = get_or v.states v.present state in
    file_in loaded play file purpose
    (session_asked loaded (bytes_of game) game.fuel (play_on game) game.keep s v state h.session ∙ e)
    (subst (λ l. IsSaveIn l play (Some file)) h.loaded is)
    ∙ session_file loaded (bytes_of game) game.fuel (play_on game) game.keep s v state h.session
