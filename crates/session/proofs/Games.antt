-- What undo, redo and a line make of the session of a game.
use Rattle.std.proofs.Common.{◌≡◌, ℕ, ◌+◌, Bool, true, false, List, [], ◌∷◌, ◌++◌, Option, None, Some, ap, ◌∙◌, refl, get_or}
use Rattle.std.proofs.Common.{if◌then◌else◌, nat_lt, length}
use Rattle.zcore.specs.declared.place.Place.TheVariants as places
use Rattle.zcore.specs.Turn.{StateOfPlay, is_waiting}
use Rattle.session.specs.Modes.{loaded_in, turn_with}
use Rattle.session_lines.specs.Standing.{Standing, undo_of, reached, redo_of, taken}
use Rattle.session.specs.Session.{Session}
use Rattle.session.specs.Stepped.{stepped_back, stepped_forward, with_turn, without_oldest, bounded, bounded_by}
use Rattle.session.specs.Stepped.{latest_text}
use Rattle.session.specs.Showing.{nothing_shown, turn_shown}
use Rattle.session.specs.Shown.{Shown}
use Rattle.session.specs.Game.{Game, bytes_of, is_typable_on, play_on, shown_on, IsSessionOf, text_on, place_on}
use Rattle.session.specs.Replies.{RepliesGiven, RepliesWith}
use Rattle.session.specs.declared.reply.Reply.{Reply}
use Rattle.session.specs.declared.reply.Reply.TheVariants as replies
use Rattle.session.specs.Sessions.{all_lines}
use Rattle.session.specs.Turned.{Turned}
use Rattle.session.specs.Files.{script_after}
use Rattle.session.specs.Scripts.{turn_script}
use Rattle.session.proofs.Sessions.{session_redo, session_script, session_undo}
use Rattle.session.proofs.Sessions.{Unbounded, present_of, present_state, some_whole, unbounded}
use Rattle.session.proofs.Taking.{longer, present_turn, present_waits, session_taken}
use Rattle.session.proofs.Showings.{bounded_shown, redone_reach, shows_longer, undone_reach}

forward_loaded_by : (b : Bool) (v : Session)
    → (if b then (record v { present = v.present + 1 }) else v).loaded ≡ v.loaded
forward_loaded_by true v = refl
forward_loaded_by false v = refl

forward_shown_by : (b : Bool) (v : Session)
    → (if b then (record v { present = v.present + 1 }) else v).shown ≡ v.shown
forward_shown_by true v = refl
forward_shown_by false v = refl

forward_showing_by : (b : Bool) (v : Session)
    → (if b then (record v { present = v.present + 1 }) else v).showing ≡ v.showing
forward_showing_by true v = refl
forward_showing_by false v = refl

oldest_showing_by : (b : Bool) (v : Session) → (if b then without_oldest v else v).showing ≡ v.showing
oldest_showing_by true v = refl
oldest_showing_by false v = refl

bounded_showing : (keep : Option ℕ) (v : Session) → (bounded_by keep v).showing ≡ v.showing
bounded_showing None v = refl
bounded_showing (Some most) v = oldest_showing_by (nat_lt most v.present) v

oldest_loaded_by : (b : Bool) (v : Session) → (if b then without_oldest v else v).loaded ≡ v.loaded
oldest_loaded_by true v = refl
oldest_loaded_by false v = refl

bounded_loaded : (keep : Option ℕ) (v : Session) → (bounded_by keep v).loaded ≡ v.loaded
bounded_loaded None v = refl
bounded_loaded (Some most) v = oldest_loaded_by (nat_lt most v.present) v

pub game_undo : (game : Game) (s : Standing) (v : Session) → IsSessionOf game s v
    → IsSessionOf game (undo_of s) (stepped_back v)
game_undo game s v h = record {
  loaded = h.loaded;
  session = session_undo (bytes_of game) game.fuel (play_on game) game.keep s v h.session;
  showing = h.showing;
  shown = h.shown ∙ undone_reach (shown_on game) s h.session.reach;
}

pub game_redo : (game : Game) (s : Standing) (v : Session) → IsSessionOf game s v
    → IsSessionOf game (redo_of s) (stepped_forward v)
game_redo game s v h = record {
  loaded = forward_loaded_by (nat_lt v.present (length v.lines)) v ∙ h.loaded;
  session = session_redo (bytes_of game) game.fuel (play_on game) game.keep s v h.session;
  showing = forward_showing_by (nat_lt v.present (length v.lines)) v ∙ h.showing;
  shown = forward_shown_by (nat_lt v.present (length v.lines)) v ∙ h.shown
      ∙ redone_reach (shown_on game) s h.session.reach;
}

-- a line that is taken
pub record IsGameTaken (game : Game) (line : List ℕ) (s : Standing) (new : Session) : Type 0 where
  pub waited : is_waiting (place_on game s.done) ≡ true
  pub session : IsSessionOf game (taken game.keep line s) new
  pub lent : latest_text new ≡ text_on game (s.done ++ line ∷ [])

-- what is shown of the turn of the line comes to what was shown before
taken_shown : (game : Game) (line : List ℕ) (s : Standing) (v mid new : Session)
    → ((l : List ℕ) (p : StateOfPlay)
    → turn_with v.loaded l game.fuel p ≡ turn_with (loaded_in game.mode game.story) l game.fuel p)
    → IsSessionOf game s v → get_or v.places v.present places.Quit ≡ places.Waiting → Turned line v mid → new ≡ bounded mid
    → new.shown ≡ reached (taken game.keep line s) (shown_on game (all_lines (taken game.keep line s)))
taken_shown game line s v mid new means h waits t e =
    let f : Unbounded (bytes_of game) game.fuel (play_on game) s v = unbounded h.session in
    let w : Session = with_turn line t.size t.whole t.shown v in
    let state : StateOfPlay = (present_of (bytes_of game) game.fuel (play_on game) s).state in
    let loaded = loaded_in game.mode game.story in
    let now = get_or v.states v.present some_whole.state in
    let before : Shown = get_or v.shown v.present nothing_shown in
    let shows : t.shown ≡ turn_shown loaded game.showing line game.fuel before state =
    t.shows some_whole.state ∙ ap (λ o. turn_shown o v.showing line v.fuel before now) h.loaded
    ∙ ap (λ n. turn_shown loaded v.showing line n before now) f.fuel
    ∙ ap (λ b. turn_shown loaded b line game.fuel before now) h.showing
    ∙ ap (turn_shown loaded game.showing line game.fuel before)
    (present_state (bytes_of game) game.fuel (play_on game) s v some_whole.state f) in
    let more : w.shown ≡ reached (longer line s) (shown_on game (all_lines (taken game.keep line s))) =
    shows_longer game line s v t.whole t.shown f
    (present_waits (bytes_of game) game.fuel (play_on game) s v f waits)
    (present_turn (bytes_of game) game.fuel (play_on game) line s v mid means f t) shows h.shown in
    ap (λ (x : Session). x.shown) (e ∙ ap {A = Session} bounded t.is)
    ∙ bounded_shown game.keep line s w (shown_on game (all_lines (taken game.keep line s))) h.session.keep
    (ap (λ k. k + 1) f.present) h.session.bound f.reach more

pub game_taken : (game : Game) (line : List ℕ) (s : Standing) (v mid new : Session) → IsSessionOf game s v
    → get_or v.places v.present places.Quit ≡ places.Waiting → Turned line v mid → new ≡ bounded mid
    → IsGameTaken game line s new
game_taken game line s v mid new h waits t e =
    let means : (l : List ℕ) (p : StateOfPlay)
    → turn_with v.loaded l game.fuel p ≡ turn_with (loaded_in game.mode game.story) l game.fuel p =
    λ l p. ap (λ o. turn_with o l game.fuel p) h.loaded in
    let r = session_taken (bytes_of game) game.fuel (play_on game) game.keep line s v mid new means h.session waits t e in
    record {
      waited = r.0;
      session = record {
        loaded = ap (λ (w : Session). w.loaded) e ∙ bounded_loaded mid.keep mid
            ∙ ap (λ (w : Session). w.loaded) t.is ∙ h.loaded;
        session = r.1;
        showing = ap (λ (w : Session). w.showing) e ∙ bounded_showing mid.keep mid
            ∙ ap (λ (w : Session). w.showing) t.is ∙ h.showing;
        shown = taken_shown game line s v mid new means h waits t e;
      };
      lent = r.2;
    }

-- what the turn of a line adds to the transcript
pub script_taken : (game : Game) (line : List ℕ) (s : Standing) (v : Session) (script : List ℕ) → IsSessionOf game s v
    → ((d : StateOfPlay) → script ≡ turn_script v.loaded line v.fuel (get_or v.states v.present d))
    → script ≡ script_after game s.done line
script_taken game line s v script h e =
    let d : StateOfPlay = some_whole.state in
    e d ∙ ap (λ l. turn_script l line v.fuel (get_or v.states v.present d)) h.loaded
    ∙ ap (λ (n : ℕ). turn_script (loaded_in game.mode game.story) line n (get_or v.states v.present d)) h.session.fuel
    ∙ session_script (loaded_in game.mode game.story) line (bytes_of game) game.fuel game.fuel (play_on game) game.keep s v
    d h.session

-- a reply to what is given is one to a line that can be typed
pub given_with : (game : Game) (s : Standing) (line : List ℕ) (reply : Reply) → is_typable_on game line ≡ true
    → RepliesGiven game s line reply → RepliesWith game s line reply
given_with game s line (replies.Taken text) typable h = (typable, h.0, h.1)
given_with game s line replies.Refused typable h = absurd h
given_with game s line replies.Over typable h = absurd h
given_with game s line replies.NoMemory typable h = (typable, h)
