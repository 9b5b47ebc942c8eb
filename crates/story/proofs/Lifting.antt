-- What a memory plays by the profile's machine, the Standard's machine plays alike, on lines of ASCII.
use Rattle.std.proofs.Common.{◌≡◌, ℕ, List, [], ◌∷◌, map, refl, ap, ◌∙◌, Bool, true, false, cond, Option, Some, None}
use Rattle.std.specs.Prelude.{◌≢◌, not}
use Rattle.std.specs.List.{list_all}
use Rattle.zcore.specs.declared.standard_state.StandardState.{StandardState}
use Rattle.zcore.specs.declared.place.Fault.{Fault}
use Rattle.zcore.specs.declared.place.Place.{Place}
use Rattle.zcore.specs.declared.place.Place.TheVariants as places
use Rattle.zcore.specs.Turn.{StateOfPlay, Whole, entries, follow, is_waiting, opening, plays, plays_of, turn_on, last_place}
use Rattle.zcore_standard.specs.Loaded.{Loaded}
use Rattle.zcore_standard.specs.Machine.{by_standard, standard_opening, standard_turn_on, with_standard_state}
use Rattle.zcore_versions.specs.StandardLaws.{is_fault, have_no_fault, is_plain_line}
use Rattle.zcore_versions.proofs.Running.{standard_runs_keep}
use Rattle.zcore_versions.specs.Laws.{IsStandard}
use Rattle.zcore_versions.specs.Machine.{any_opening, any_turn_on, by_version}
use Rattle.zcore_versions.specs.Versions.{Story}
use Rattle.meaning.specs.Resolved.{ProgramOf}
use Rattle.meaning.specs.Plays.{Plays}

-- A run that does not end in a fault has none: all its turns but the last wait

waiting_is_no_fault : (p : Place) → is_waiting p ≡ true → not (is_fault p) ≡ true
waiting_is_no_fault places.Waiting e = refl
waiting_is_no_fault places.Quit e = absurd (cc)
waiting_is_no_fault (places.Limit limit) e = absurd (cc)
waiting_is_no_fault (places.Fault cause) e = absurd (cc)

alone : (w : Whole) → is_fault w.place ≡ false → have_no_fault (w ∷ []) ≡ true
alone w h = rw h refl

abbrev Turning : Type 0
Turning = List ℕ → StateOfPlay → Option Whole

abbrev IsSound : List Whole → Type 0
IsSound ws = is_fault (last_place ws) ≡ false → have_no_fault ws ≡ true

step_sound : (turn : Turning) (w : Whole) (waits : Bool) (o : Option Whole) (lines : List (List ℕ))
    → is_waiting w.place ≡ waits → ((next : Whole) → IsSound (next ∷ follow turn next lines))
    → IsSound (w ∷ cond waits (entries o (λ next. follow turn next lines)) [])
step_sound turn w false o lines e rest h = alone w h
step_sound turn w true None lines e rest h = alone w h
step_sound turn w true (Some next) lines e rest h = rw (waiting_is_no_fault w.place e) (rest next h)

follow_sound : (turn : Turning) (w : Whole) (lines : List (List ℕ)) → IsSound (w ∷ follow turn w lines)
follow_sound turn w [] h = alone w h
follow_sound turn w (line ∷ lines) h =
    step_sound turn w (is_waiting w.place) (turn line w.state) lines refl (λ next. follow_sound turn next lines) h

opening_sound : (turn : Turning) (o : Option Whole) (lines : List (List ℕ))
    → IsSound (entries o (λ w. follow turn w lines))
opening_sound turn None lines h = refl
opening_sound turn (Some w) lines h = follow_sound turn w lines h

not_fault : (p q : Place) → p ≡ q → ((fault : Fault) → q ≢ places.Fault fault) → is_fault p ≡ false
not_fault places.Waiting q e n = refl
not_fault places.Quit q e n = refl
not_fault (places.Limit limit) q e n = refl
not_fault (places.Fault fault) q e n = absurd (n fault (cc))

pub same_run : (loaded : Loaded) (memory : List ℕ) (p : ProgramOf) (full : ℕ) (lines : List (List ℕ))
    → loaded.own_alphabets ≡ None → loaded.dice.window ≡ 0 → list_all is_plain_line lines ≡ true
    → Plays memory p full lines
    → plays_of (by_standard loaded memory full) lines
    ≡ map (with_standard_state loaded.dice []) (plays memory full lines)
same_run loaded memory p full lines own window plain h =
    standard_runs_keep loaded memory full lines own window plain
    (opening_sound (λ line play. turn_on line full play) (opening memory full) lines (not_fault _ _ h.place h.no_fault))

-- Window, dice and kept states are not seen

pub same_texts : (beside : StandardState) (ws : List Whole)
    → map (λ (w : Whole). w.text) (map (with_standard_state beside []) ws) ≡ map (λ (w : Whole). w.text) ws
same_texts beside [] = refl
same_texts beside (w ∷ ws) = ap (λ ts. w.text ∷ ts) (same_texts beside ws)

pub same_place : (beside : StandardState) (ws : List Whole)
    → last_place (map (with_standard_state beside []) ws) ≡ last_place ws
same_place beside [] = refl
same_place beside (w ∷ []) = refl
same_place beside (w ∷ v ∷ ws) = same_place beside (v ∷ ws)

-- A machine whose turns are those of another

entries_same : (o p : Option Whole) (f g : Whole → List Whole) → o ≡ p → ((w : Whole) → f w ≡ g w)
    → entries o f ≡ entries p g
entries_same None p f g e same = ap (λ q. entries q g) e
entries_same (Some w) p f g e same = ap (λ ws. w ∷ ws) (same w) ∙ ap (λ q. entries q g) e

follow_same : (turn other : Turning) → ((line : List ℕ) (play : StateOfPlay) → turn line play ≡ other line play)
    → (lines : List (List ℕ)) (w : Whole) → follow turn w lines ≡ follow other w lines
follow_same turn other same [] w = refl
follow_same turn other same (line ∷ lines) w =
    ap (λ ws. cond (is_waiting w.place) ws [])
    (entries_same (turn line w.state) (other line w.state) (λ next. follow turn next lines) (λ next. follow other next lines)
    (same line w.state) (λ next. follow_same turn other same lines next))

opening_same : (story : Story) → IsStandard story → (memory : List ℕ) (full : ℕ)
    → any_opening story memory full ≡ standard_opening story.loaded memory full
unfolding any_opening standard_opening
opening_same story is memory full = is.turns _ _

-- in versions 5 and 8
pub version_run : (story : Story) → IsStandard story → (memory : List ℕ) (full : ℕ) (lines : List (List ℕ))
    → plays_of (by_version story memory full) lines ≡ plays_of (by_standard story.loaded memory full) lines
version_run story is memory full lines =
    entries_same (any_opening story memory full) (standard_opening story.loaded memory full) _ _
    (opening_same story is memory full)
    (λ w. follow_same (λ line play. any_turn_on story line full play)
    (λ line play. standard_turn_on story.loaded line full play) (λ line play. is.answers line full play) lines w)
