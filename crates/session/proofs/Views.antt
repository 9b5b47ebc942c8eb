-- The parts of a session, as its view tells them.
use Rattle.std.proofs.Common.{◌≡◌, ℕ, suc, ◌+◌, ◌-◌, ◌≤◌, ◌<◌, List, [], length, get_or, ap, sym, ◌∙◌}
use Rattle.std.proofs.Common.{arith, Bool, true, false, Option, None, Some, Result, Ok, Err, refl, ◌∷◌, ◌++◌, append_assoc}
use Rattle.std.specs.Prelude.{if◌then◌else◌, IsTrue, OnOk}
use Rattle.machine_picture.specs.Picture.{joined}
use Rattle.std.proofs.lemmas.List.{get_or-map, length-drop, length-map, nil_from_length}
use Rattle.zcore.specs.declared.place.Place.TheVariants as places
use Rattle.zcore.specs.Turn.{StateOfPlay}
use Rattle.machine_frames.specs.Contents.{Contents}
use Rattle.machine_frames.specs.States.{play_of}
use Rattle.zcore_versions.specs.Versions.{Story}
use Rattle.session.specs.Asking.{line_with}
use Rattle.session.specs.Naming.{asked_with}
use Rattle.session.specs.Scripts.{is_on_with}
use Rattle.session.specs.declared.mode.Keep.{Keep}
use Rattle.session.specs.Reached.{Reached}
use Rattle.session.specs.declared.turns.Turn.{Turn}
use Rattle.session.specs.Modes.{Known}
use Rattle.session.specs.Session.{Session}
use Rattle.session.specs.Times.{all_cells}
use Rattle.session.specs.Inside.{all_shown, kept_of, play_at, records_of, places_of, shown_at, view_of}
use Rattle.session.specs.Showing.{begun_with, is_drawn_whole, marked_beside, nothing_shown, shown_of, showing_of}
use Rattle.machine_picture.specs.Marks.{marked}
use Rattle.machine_picture.specs.Styles.{Styles, without_part}
use Rattle.session.proofs.Zips.{length-zip, zip_at}
use Rattle.std.specs.List.{zip}
use Rattle.zcore_standard.specs.Keeping.{newest}
use Rattle.zcore_standard.specs.Machine.{play_keeping}
use Rattle.session_lines.specs.Written.{text_of, line_of}
use Rattle.session.proofs.Moves.{present_cells, length-all_cells}

pub first_place : (first : Reached) (turns : List Turn) (done : ℕ) → done ≡ 0
    → first.place ≡ get_or (places_of first turns) done places.Quit
first_place first turns done e = sym (ap (λ k. get_or (places_of first turns) k places.Quit) e)

pub later_place : (first : Reached) (turns : List Turn) (done : ℕ) (t : Turn) → 0 < done → done ≤ length turns
    → t ≡ get_or turns (done - 1) t → t.reached.place ≡ get_or (places_of first turns) done places.Quit
later_place first turns done t some le is =
    let e : suc (done - 1) ≡ done = omega arith in
    ap (λ (x : Turn). x.reached.place) is ∙ sym (get_or-map (λ x. x.reached.place) turns (done - 1) t places.Quit (omega arith))
    ∙ ap (λ k. get_or (places_of first turns) k places.Quit) e

pub first_kept : (first : Reached) (turns : List Turn) (done : ℕ) → done ≡ 0
    → first.kept ≡ get_or (kept_of first turns) done []
first_kept first turns done e = sym (ap (λ k. get_or (kept_of first turns) k []) e)

pub later_kept : (first : Reached) (turns : List Turn) (done : ℕ) (t : Turn) → 0 < done → done ≤ length turns
    → t ≡ get_or turns (done - 1) t → t.reached.kept ≡ get_or (kept_of first turns) done []
later_kept first turns done t some le is =
    let e : suc (done - 1) ≡ done = omega arith in
    ap (λ (x : Turn). x.reached.kept) is
    ∙ sym (get_or-map (λ x. x.reached.kept) turns (done - 1) t [] (omega arith))
    ∙ ap (λ k. get_or (kept_of first turns) k []) e

pub first_shown : (first : Reached) (turns : List Turn) (done : ℕ) → done ≡ 0 → first.shown ≡ shown_at first turns done
first_shown first turns done e = sym (ap (λ k. get_or (all_shown first turns) k nothing_shown) e)

pub later_shown : (first : Reached) (turns : List Turn) (done : ℕ) (t : Turn) → 0 < done → done ≤ length turns
    → t ≡ get_or turns (done - 1) t → t.reached.shown ≡ shown_at first turns done
later_shown first turns done t some le is =
    let e : suc (done - 1) ≡ done = omega arith in
    ap (λ (x : Turn). x.reached.shown) is
    ∙ sym (get_or-map (λ x. x.reached.shown) turns (done - 1) t nothing_shown (omega arith))
    ∙ ap (λ k. get_or (all_shown first turns) k nothing_shown) e

-- where the view says how many turns are done, and how many there are
pub record Counted (v : Session) (turns : List Turn) (done : ℕ) : Type 0 where
  pub present : done ≡ v.present
  pub size : length turns ≡ length v.lines

pub counted : (keep : Keep) (fuel : ℕ) (known : Known) (opening : List ℕ) (store : Contents) (first : Reached)
    (turns : List Turn) (done : ℕ) (given_up : List ℕ) (v : Session)
    → view_of keep fuel known opening store first turns done given_up ≡ v → Counted v turns done
unfolding view_of
counted keep fuel known opening store first turns done given_up v is = record {
  present = ap (λ (w : Session). w.present) is;
  size = sym (length-map turns (λ (t : Turn). line_of t.written)) ∙ ap (λ (w : Session). length w.lines) is;
}

-- the text of a turn
pub turn_text : (keep : Keep) (fuel : ℕ) (known : Known) (opening : List ℕ) (store : Contents) (first : Reached)
    (turns : List Turn) (done : ℕ) (given_up : List ℕ) (v : Session) (k : ℕ) (t : Turn)
    → view_of keep fuel known opening store first turns done given_up ≡ v → k < length turns → t ≡ get_or turns k t
    → (text_of t.written) ≡ get_or v.texts k []
unfolding view_of
turn_text keep fuel known opening store first turns done given_up v k t is lt at =
    ap (λ (x : Turn). text_of x.written) at ∙ sym (get_or-map (λ x. text_of x.written) turns k t [] lt)
    ∙ ap (λ (w : Session). get_or w.texts k []) is

-- the size of a turn's record
pub turn_size : (keep : Keep) (fuel : ℕ) (known : Known) (opening : List ℕ) (store : Contents) (first : Reached)
    (turns : List Turn) (done : ℕ) (given_up : List ℕ) (v : Session) (k : ℕ) (t : Turn)
    → view_of keep fuel known opening store first turns done given_up ≡ v → k < length turns → t ≡ get_or turns k t
    → length t.overwritten ≡ get_or v.sizes k 0
unfolding view_of
turn_size keep fuel known opening store first turns done given_up v k t is lt at =
    ap (λ (x : Turn). length x.overwritten) at ∙ sym (get_or-map (λ x. length x.overwritten) turns k t 0 lt)
    ∙ ap (λ (w : Session). get_or w.sizes k 0) is

pub header_base : (keep : Keep) (fuel : ℕ) (known : Known) (opening : List ℕ) (store : Contents)
    (first : Reached) (turns : List Turn) (done : ℕ) (given_up : List ℕ) (v : Session)
    → view_of keep fuel known opening store first turns done given_up ≡ v → known.header.static_base ≡ v.static_base
unfolding view_of
header_base keep fuel known opening store first turns done given_up v is = ap (λ (w : Session). w.static_base) is

pub view_place : (keep : Keep) (fuel : ℕ) (known : Known) (opening : List ℕ) (store : Contents) (first : Reached)
    (turns : List Turn) (done : ℕ) (given_up : List ℕ) (v : Session)
    → view_of keep fuel known opening store first turns done given_up ≡ v
    → get_or (places_of first turns) done places.Quit ≡ get_or v.places v.present places.Quit
unfolding view_of
view_place keep fuel known opening store first turns done given_up v is = ap
    (λ (w : Session). get_or w.places w.present places.Quit) is

pub view_shown : (keep : Keep) (fuel : ℕ) (known : Known) (opening : List ℕ) (store : Contents) (first : Reached)
    (turns : List Turn) (done : ℕ) (given_up : List ℕ) (v : Session)
    → view_of keep fuel known opening store first turns done given_up ≡ v
    → shown_at first turns done ≡ get_or v.shown v.present nothing_shown
unfolding view_of
view_shown keep fuel known opening store first turns done given_up v is = ap
    (λ (w : Session). get_or w.shown w.present nothing_shown) is

pub view_state : (keep : Keep) (fuel : ℕ) (known : Known) (opening : List ℕ) (store : Contents) (first : Reached)
    (turns : List Turn) (done : ℕ) (given_up : List ℕ) (v : Session) (d : StateOfPlay)
    → view_of keep fuel known opening store first turns done given_up ≡ v → done ≤ length turns
    → get_or v.states v.present d ≡ play_keeping (get_or (kept_of first turns) done []) (play_of store)
unfolding view_of
view_state keep fuel known opening store first turns done given_up v d is le =
    let rs = records_of turns in
    let kept : List (List (List ℕ)) = kept_of first turns in
    let in_reach : done ≤ length rs = omega (arith, length-map turns (λ (x : Turn). x.overwritten)) in
    let cells : List (List ℕ) = all_cells store.cells rs done in
    let many : length cells ≡ length turns + 1 = length-all_cells store.cells rs done in_reach
    ∙ ap (λ m. m + 1) (length-map turns (λ (x : Turn). x.overwritten)) in
    let as_many : length kept ≡ length turns + 1 = omega (arith, length-map turns (λ (x : Turn). x.reached.kept)) in
    ap (λ (w : Session). get_or w.states w.present d) (sym is)
    ∙ get_or-map (play_at store) (zip cells kept) done ([], []) d
    (omega (arith, length-zip cells kept (many ∙ sym as_many), many))
    ∙ ap (play_at store) (zip_at cells kept done [] [] (omega (arith, many)) (omega (arith, as_many)))
    ∙ ap (λ c. play_keeping (get_or kept done []) (play_of (record { cells = c; fixed = store.fixed })))
    (present_cells store.cells rs done [] in_reach)

pub view_fuel : (keep : Keep) (fuel : ℕ) (known : Known) (opening : List ℕ) (store : Contents) (first : Reached)
    (turns : List Turn) (done : ℕ) (given_up : List ℕ) (v : Session)
    → view_of keep fuel known opening store first turns done given_up ≡ v → v.fuel ≡ fuel
unfolding view_of
view_fuel keep fuel known opening store first turns done given_up v is = ap (λ (w : Session). w.fuel) (sym is)

pub view_loaded : (keep : Keep) (fuel : ℕ) (known : Known) (opening : List ℕ) (store : Contents) (first : Reached)
    (turns : List Turn) (done : ℕ) (given_up : List ℕ) (v : Session)
    → view_of keep fuel known opening store first turns done given_up ≡ v → v.loaded ≡ known.loaded
unfolding view_of
view_loaded keep fuel known opening store first turns done given_up v is = ap (λ (w : Session). w.loaded) (sym is)

pub view_keep : (keep : Keep) (fuel : ℕ) (known : Known) (opening : List ℕ) (store : Contents) (first : Reached)
    (turns : List Turn) (done : ℕ) (given_up : List ℕ) (v : Session)
    → view_of keep fuel known opening store first turns done given_up ≡ v → v.keep ≡ keep.turns
unfolding view_of
view_keep keep fuel known opening store first turns done given_up v is = ap (λ (w : Session). w.keep) (sym is)

pub view_showing : (keep : Keep) (fuel : ℕ) (known : Known) (opening : List ℕ) (store : Contents)
    (first : Reached) (turns : List Turn) (done : ℕ) (given_up : List ℕ) (v : Session)
    → view_of keep fuel known opening store first turns done given_up ≡ v → showing_of keep ≡ v.showing
unfolding view_of
view_showing keep fuel known opening store first turns done given_up v is = ap (λ (w : Session). w.showing) is

pub view_given_up : (keep : Keep) (fuel : ℕ) (known : Known) (opening : List ℕ) (store : Contents)
    (first : Reached) (turns : List Turn) (done : ℕ) (given_up : List ℕ) (v : Session)
    → view_of keep fuel known opening store first turns done given_up ≡ v → given_up ≡ v.given_up
unfolding view_of
view_given_up keep fuel known opening store first turns done given_up v is = ap (λ (w : Session). w.given_up) is

-- the status line does not depend on what a story has kept
pub status_keeping : (loaded : Option Story) (kept : List (List ℕ)) (play : StateOfPlay)
    → line_with loaded (play_keeping kept play) ≡ line_with loaded play
status_keeping None kept play = refl
status_keeping (Some story) kept play = refl

-- nor does what it asks for
pub asked_keeping : (loaded : Option Story) (kept : List (List ℕ)) (play : StateOfPlay)
    → asked_with loaded (play_keeping kept play) ≡ asked_with loaded play
asked_keeping None kept play = refl
asked_keeping (Some story) kept play = refl

-- nor whether the transcript is on
pub is_on_keeping : (loaded : Option Story) (kept : List (List ℕ)) (play : StateOfPlay)
    → is_on_with loaded (play_keeping kept play) ≡ is_on_with loaded play
is_on_keeping None kept play = refl
is_on_keeping (Some story) kept play = refl

-- two texts in lines of their own
pub joined_alone : (line drawing : List ℕ) → length drawing ≡ 0 → line ≡ joined line drawing
joined_alone [] [] e = refl
joined_alone (b ∷ bs) [] e = refl
joined_alone line (d ∷ ds) e = absurd (omega (arith, e))

pub joined_first : (line drawing : List ℕ) → length line ≡ 0 → line ++ drawing ≡ joined line drawing
joined_first [] drawing e = refl
joined_first (b ∷ bs) drawing e = absurd (omega (arith, e))

pub joined_both : (line drawing : List ℕ) → 0 < length line → 0 < length drawing
    → (line ++ 10 ∷ []) ++ drawing ≡ joined line drawing
joined_both [] drawing l d = absurd (omega arith)
joined_both (b ∷ bs) [] l d = absurd (omega arith)
joined_both (b ∷ bs) (c ∷ cs) l d = append_assoc (b ∷ bs) (10 ∷ []) (c ∷ cs)

-- a picture with which a turn begins
pub begun_blank : (keeps : Bool) (now drawing : List ℕ) → keeps ≡ false → now ≡ [] → now ≡ begun_with keeps drawing
begun_blank false now drawing e blank = blank
begun_blank true now drawing e blank = absurd (cc)

pub begun_kept : {A E : Type 0} (result : Result A E) (keeps : Bool) (old now bytes drawing : List ℕ) → keeps ≡ true
    → old ≡ [] → bytes ≡ drawing → OnOk result (now ≡ old ++ bytes) → OnOk result (now ≡ begun_with keeps drawing)
begun_kept (Ok x) true old now bytes drawing e none is added = added ∙ ap (λ l. l ++ bytes) none ∙ is
begun_kept (Ok x) false old now bytes drawing e none is added = absurd (cc)
begun_kept (Err f) keeps old now bytes drawing e none is added = tt

-- where none is the newest, no state is kept
pub no_newest : (kept : List (List ℕ)) → newest kept ≡ [] → kept ≡ []
no_newest kept none =
    nil_from_length kept
    (omega (arith, ap {A = List (List ℕ)} {B = ℕ} length none, length-drop (length kept - 1) kept))

-- a text with marks, where a screen shows the whole drawing, and where none does
pub beside_whole : (rows : Option ℕ) (drawing text : List ℕ) (p : Styles) → is_drawn_whole rows drawing ≡ true
    → marked (without_part p.part text) (without_part p.part p.each) ≡ marked_beside rows drawing text p
beside_whole rows drawing text p e =
    sym (ap (λ b. if b then marked (without_part p.part text) (without_part p.part p.each) else marked text p.each) e)

pub beside_none : (rows : Option ℕ) (drawing text : List ℕ) (p : Styles) → is_drawn_whole rows drawing ≡ false
    → marked text p.each ≡ marked_beside rows drawing text p
beside_none rows drawing text p e =
    sym (ap (λ b. if b then marked (without_part p.part text) (without_part p.part p.each) else marked text p.each) e)

-- what is shown, where styles count only if they are kept
pub shown_as : (rows : Option ℕ) (b : Bool) (drawing drawing' text text' : List ℕ) (p p' : Styles) → drawing ≡ drawing' → text ≡ text'
    → (IsTrue b → p ≡ p') → shown_of rows b drawing text p ≡ shown_of rows b drawing' text' p'
shown_as rows false drawing drawing' text text' p p' d t h = ap (λ x. shown_of rows false x text p) d
shown_as rows true drawing drawing' text text' p p' d t h =
    ap (λ x. shown_of rows true x text p) d ∙ ap (λ x. shown_of rows true drawing' x p) t
    ∙ ap (λ x. shown_of rows true drawing' text' x) (h refl)
