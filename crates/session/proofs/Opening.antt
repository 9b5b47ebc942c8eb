-- What the opening turn makes of the fields of a session.
use Rattle.std.proofs.Common.{◌≡◌, ℕ, ◌+◌, ◌≤◌, List, [], ◌∷◌, length, get_or, drop, map, refl, ap, sym}
use Rattle.std.proofs.Common.{◌∙◌, subst, arith, Option, Some, None}
use Rattle.std.specs.Prelude.{IfSome, IsTrue}
use Rattle.journal.specs.Recording.{Recording, IsNothingKept}
use Rattle.zcore.specs.declared.place.Place.TheVariants as places
use Rattle.zcore.specs.Header.{static_base_of}
use Rattle.zcore.specs.State.{State}
use Rattle.zcore.specs.Turn.{Whole, entries, plays_of, last_text}
use Rattle.machine_frames.specs.Contents.{Contents, memory_of}
use Rattle.machine_frames.specs.Playing.{whole_of}
use Rattle.machine_frames.specs.States.{IsStoreOf}
use Rattle.session.specs.declared.mode.Keep.{Keep}
use Rattle.session.specs.Reached.{Reached}
use Rattle.session.specs.declared.turns.Turn.{Turn}
use Rattle.zcore_standard.specs.Machine.{keeping}
use Rattle.session.specs.Times.{all_cells}
use Rattle.session.specs.Inside.{with_cells, places_of, view_of, IsReady, IsBetweenTurns}
use Rattle.session.specs.Showing.{opening_drawing_with, opening_shown, opening_styles_with, shown_of, shown_with, text_in}
use Rattle.session.specs.Game.{Game, bytes_of, play_on, IsSessionOf}
use Rattle.session.specs.Modes.{Known, IsSettled, CanTake, loaded_in, bytes_in, opening_with}
use Rattle.session.specs.Players.{IsPlayerOf, PlayerDrawing, PlayerScript, PlayerStyles, PlayerTurn}
use Rattle.session.specs.Showing.{showing_of}
use Rattle.session.specs.Shown.{Showing, Shown}
use Rattle.machine_picture.specs.Styles.{Styles}
use Rattle.session.proofs.Views.{shown_as}
use Rattle.session.specs.Files.{script_on_opening}
use Rattle.session.specs.Scripts.{opening_script_with}
use Rattle.session_lines.specs.Standing.{nothing}
use Rattle.session.proofs.Moves.{present_cells}

pub opened_between : (known : Known) (new : Recording Contents) (first : Reached) (turns : List Turn) → turns ≡ []
    → IsSettled known → IsStoreOf known.header new.store → (first.place ≡ places.Waiting → CanTake known.loaded new.store) → IsNothingKept new
    → new.beginning ≡ new.store.cells
    → IsBetweenTurns known new first turns 0
opened_between known new first turns e settled o waits idle begun =
    let now : IsReady known new.store first.place = record { store = o; waits = waits } in
    let start : IsReady known (with_cells new.store (get_or (all_cells new.store.cells [] 0) 0 [])) first.place = subst
    (λ c. IsReady known (with_cells new.store c) first.place)
    (sym (present_cells new.store.cells [] 0 [] (omega arith))) now in
    let result : IsBetweenTurns known new first [] 0 = record {
      settled = settled;
      within = omega arith;
      idle = idle;
      begun = begun;
      fits = λ k d lt. absurd (omega arith);
      small = λ k d lt. absurd (omega arith);
      ready = λ k le.
          let z : k ≡ 0 = omega arith in
          subst (λ n. IsReady known (with_cells new.store (get_or (all_cells new.store.cells [] 0) n []))
          (get_or (places_of first []) n places.Quit)) (sym z) start;
    } in
    subst (λ ts. IsBetweenTurns known new first ts 0) (sym e) result

bound_start : (keep : Option ℕ) → IfSome keep (λ n. 0 + 0 ≤ n)
bound_start None = tt
bound_start (Some n) = omega arith

-- what a session keeps is what its game tells
abbrev pub Keeping : Game → Keep → Type 0
Keeping game keep = (keep.turns ≡ game.keep) × (showing_of keep ≡ game.showing)

opened_by : (game : Game) (keep : Keep) (known : Known) (new : Contents) (first : Reached) (text given_up : List ℕ)
    → Keeping game keep → (play_on game).opening ≡ Some (keeping first.kept (whole_of new first.place text)) → known.loaded ≡ loaded_in game.mode game.story
    → known.header.static_base ≡ static_base_of (bytes_of game)
    → first.shown ≡ opening_shown (loaded_in game.mode game.story) game.showing (bytes_of game) game.fuel
    → IsSessionOf game nothing (view_of keep game.fuel known text new first [] 0 given_up)
unfolding view_of all_cells
opened_by game keep known new first text given_up kept e loaded base shows =
    let all : plays_of (play_on game) [] ≡ keeping first.kept (whole_of new first.place text) ∷ [] = ap (λ o. entries o (λ w. [])) e in
    record {
      loaded = loaded;
      session = record {
        whole = ap length all;
        reach = omega arith;
        bound = bound_start game.keep;
        keep = kept.0;
        fuel = refl;
        static_base = base;
        opening = sym (ap last_text all);
        states = sym (ap (map (λ (w : Whole). w.state)) all);
        places = sym (ap (map (λ (w : Whole). w.place)) all);
        texts = sym (ap (λ ws. map (λ (w : Whole). w.text) (drop 1 ws)) all);
        lines = refl;
        records = refl;
        small = λ k d lt. absurd (omega arith);
        present = refl;
      };
      showing = kept.1;
      shown = ap (λ (d : Shown). d ∷ []) shows
          ∙ sym (ap (λ ws. shown_with (loaded_in game.mode game.story) game.showing (bytes_of game) game.fuel ws [])
          all);
    }

-- the session of a story that was opened
pub session_opened : (game : Game) (keep : Keep) (known : Known) (old new : Contents) (first : Reached) (turns : List Turn)
    (text words given_up drawing : List ℕ) (p : Styles) → Keeping game keep → turns ≡ [] → IsPlayerOf game.mode game.story known old
    → PlayerTurn known None [] old game.fuel (keeping first.kept (whole_of new first.place text))
    → PlayerDrawing known None [] old game.fuel [] drawing
    → (IsTrue keep.styles → PlayerStyles known None [] old game.fuel 0 p)
    → first.shown ≡ shown_of keep.rows keep.styles drawing words p → text ≡ words
    → IsSessionOf game nothing (view_of keep game.fuel known words new first turns 0 given_up)
session_opened game keep known old new first turns text words given_up drawing p kept none o opens draws styles shows is =
    let memory : memory_of old ≡ bytes_in game.mode game.story = ap (λ (s : State). s.memory) o.state in
    let turn : (play_on game).opening ≡ Some (keeping first.kept (whole_of new first.place words)) =
    sym (ap (λ l. opening_with l (memory_of old) game.fuel) o.loaded
    ∙ ap (λ m. opening_with (loaded_in game.mode game.story) m game.fuel) memory)
    ∙ opens refl ∙ ap (λ x. Some (keeping first.kept (whole_of new first.place x))) is in
    let loaded = loaded_in game.mode game.story in
    let drawn : drawing ≡ opening_drawing_with loaded (bytes_of game) game.fuel =
    draws refl refl ∙ ap (λ l. opening_drawing_with l (memory_of old) game.fuel) o.loaded
    ∙ ap (λ m. opening_drawing_with loaded m game.fuel) memory in
    let styled : IsTrue keep.styles → p ≡ opening_styles_with loaded (bytes_of game) game.fuel = λ kept.
    styles kept refl refl ∙ ap (λ l. opening_styles_with l (memory_of old) game.fuel) o.loaded
    ∙ ap (λ m. opening_styles_with loaded m game.fuel) memory in
    let now : first.shown ≡ opening_shown loaded game.showing (bytes_of game) game.fuel =
    shows ∙ shown_as keep.rows keep.styles drawing (opening_drawing_with loaded (bytes_of game) game.fuel) words
    (text_in (opening_with loaded (bytes_of game) game.fuel)) p (opening_styles_with loaded (bytes_of game) game.fuel)
    drawn (ap text_in (sym turn)) styled
    ∙ ap (λ (b : Showing). opening_shown loaded b (bytes_of game) game.fuel) kept.1 in
    subst (λ ts. IsSessionOf game nothing (view_of keep game.fuel known words new first ts 0 given_up)) (sym none)
    (opened_by game keep known new first words given_up kept turn o.loaded o.static_base now)

-- what the opening adds to the transcript
pub opened_script : (game : Game) (known : Known) (old : Contents) (script : List ℕ)
    → IsPlayerOf game.mode game.story known old → PlayerScript known None [] old game.fuel script
    → script ≡ script_on_opening game
opened_script game known old script o adds =
    adds refl ∙ ap (λ l. opening_script_with l (memory_of old) game.fuel) o.loaded
    ∙ ap (λ m. opening_script_with (loaded_in game.mode game.story) m game.fuel) (ap (λ (s : State). s.memory) o.state)
