-- What a turn makes of the fields of a session.
use Rattle.std.proofs.Common.{◌≡◌, ℕ, ◌+◌, ◌≤◌, List, [], ◌∷◌, ◌++◌, length, get_or, take, drop, map, refl, ap}
use Rattle.std.proofs.Common.{sym, ◌∙◌, subst, arith, Bool, Result, Ok, Err, Some, IsTrue, add-one, inl, inr}
use Rattle.std.specs.Result.{OnErr}
use Rattle.std.specs.List.{All}
use Rattle.std.proofs.lemmas.List.{take-map, map_push, length-map, length-take-le, length_push, get_or-take}
use Rattle.std.proofs.lemmas.List.{get_or_append_left, get_or_push}
use Rattle.std.proofs.Math.Nat.{eq-or-lt_of_le}
use Rattle.journal.specs.Recording.{Recording, IsNothingKept}
use Rattle.journal.specs.Swap.{back, Fits}
use Rattle.journal.proofs.Recordings.{same_recording}
use Rattle.zcore.specs.declared.header.Header.{Header}
use Rattle.zcore.specs.declared.place.Place.{Place}
use Rattle.zcore.specs.declared.place.Place.TheVariants as places
use Rattle.zcore.specs.Turn.{StateOfPlay, Whole}
use Rattle.machine_frames.specs.Contents.{Contents, bound_of}
use Rattle.machine_frames.specs.Playing.{whole_of}
use Rattle.std.specs.List.{zip}
use Rattle.zcore_standard.specs.Machine.{keeping, play_keeping}
use Rattle.machine_frames.specs.States.{play_of, IsStoreOf}
use Rattle.machine_frames.specs.Went.{GivenUp, GoesOn}
use Rattle.machine_frames.proofs.Steps.{given_up_after, store_after}
use Rattle.machine.specs.Ended.{TurnEndsBy}
use Rattle.session.specs.declared.mode.Keep.{Keep}
use Rattle.session.specs.Reached.{Reached}
use Rattle.session.specs.declared.turns.Turn.{Turn}
use Rattle.session.specs.Session.{Session, largest_record}
use Rattle.session.specs.Stepped.{with_turn}
use Rattle.session.specs.Times.{all_cells}
use Rattle.session.specs.Showing.{shown_of, turn_drawing, turn_shown, turn_styles}
use Rattle.session.specs.Shown.{Shown}
use Rattle.session.specs.Showing.{begun_with, showing_of, text_in}
use Rattle.machine_picture.specs.Styles.{Styles}
use Rattle.session.specs.Scripts.{turn_script}
use Rattle.session.specs.Inside.{all_shown, kept_of, records_of, shown_at, with_cells, places_of, view_of}
use Rattle.session.specs.Inside.{IsReady, IsBetweenTurns}
use Rattle.session.specs.Turned.{Turned, shown_before}
use Rattle.session.specs.Modes.{Known, CanTake, turn_with}
use Rattle.session.specs.Players.{LineTurn}
use Rattle.session.proofs.Views.{shown_as, view_shown, view_showing, view_state, view_fuel, view_loaded, header_base}
use Rattle.session_lines.specs.Written.{text_of, line_of}
use Rattle.session.proofs.Insides.{play_with, states_with}
use Rattle.session.proofs.Zips.{zip_push, zip_take}
use Rattle.session.proofs.Moves.{cells_taken, length-all_cells}

-- a list cut behind its entry k, and one entry more
pub all_taken : {X : Type 0} (P : X → Type 0) (xs : List X) (k : ℕ) (x : X) → k ≤ length xs → All P xs → P x
    → All P (take k xs ++ x ∷ [])
all_taken P xs k x le all p n d lt =
    let long : length (take k xs) ≡ k = length-take-le k xs le in
    let most : n ≤ k = omega (arith, long, length_push (take k xs) x) in
    elim (eq-or-lt_of_le most) [
      | inl e ↦ subst P (sym (get_or_push (take k xs) x d n (omega (arith, long)))) p
      | inr less ↦ subst P
          (sym (get_or_append_left (take k xs) (x ∷ []) d n (omega (arith, long)) ∙ get_or-take k xs n d less))
          (all n d (omega arith))
    ]

-- a turn whose line was given to a waiting store
pub record IsPlayed (known : Known) (kept : List (List ℕ)) (old new : Recording Contents) (line : List ℕ) (fuel : ℕ)
    (t : Turn) : Type 0
  where
    pub turn : LineTurn known line kept old.store fuel (keeping t.reached.kept (whole_of new.store t.reached.place (text_of t.written)))
    pub waits : t.reached.place ≡ places.Waiting → CanTake known.loaded new.store
    pub line_is : (line_of t.written) ≡ line
    pub store : IsStoreOf known.header new.store
    pub fixed : new.store.fixed ≡ old.store.fixed
    pub size : length new.store.cells ≡ length old.store.cells
    pub back_is : (back new.store.cells t.overwritten).cells ≡ old.store.cells
    pub fits : Fits (length new.store.cells) bound_of t.overwritten
    pub small : length t.overwritten ≤ largest_record known.header.static_base
    pub idle : IsNothingKept new
    pub begun : new.beginning ≡ new.store.cells

map_taken : {X : Type 0} (f : Turn → X) (turns : List Turn) (k : ℕ) (t : Turn)
    → map f (take k turns ++ t ∷ []) ≡ take k (map f turns) ++ f t ∷ []
map_taken f turns k t = map_push f (take k turns) t ∙ ap (λ xs. xs ++ f t ∷ []) (sym (take-map f k turns))

taken_cells : (known : Known) (kept_before : List (List ℕ)) (old new : Recording Contents) (line : List ℕ) (fuel : ℕ) (turns : List Turn) (k : ℕ)
    (t : Turn) → k ≤ length turns → IsPlayed known kept_before old new line fuel t
    → all_cells new.store.cells (records_of (take k turns ++ t ∷ [])) (k + 1)
    ≡ take (k + 1) (all_cells old.store.cells (records_of turns) k) ++ new.store.cells ∷ []
taken_cells known kept_before old new line fuel turns k t le h =
    ap (λ rs. all_cells new.store.cells rs (k + 1)) (map_taken (λ x. x.overwritten) turns k t)
    ∙ cells_taken old.store.cells new.store.cells t.overwritten (records_of turns) k
    (omega (arith, length-map turns (λ (x : Turn). x.overwritten))) h.back_is

taken_places : (first : Reached) (turns : List Turn) (k : ℕ) (t : Turn)
    → places_of first (take k turns ++ t ∷ []) ≡ take (k + 1) (places_of first turns) ++ t.reached.place ∷ []
taken_places first turns k t =
    ap (λ ps. first.place ∷ ps) (map_taken (λ x. x.reached.place) turns k t)
    ∙ ap (λ n. take n (places_of first turns) ++ t.reached.place ∷ []) (sym (add-one k))

taken_shown : (first : Reached) (turns : List Turn) (k : ℕ) (t : Turn)
    → all_shown first (take k turns ++ t ∷ []) ≡ take (k + 1) (all_shown first turns) ++ t.reached.shown ∷ []
taken_shown first turns k t =
    ap (λ ds. first.shown ∷ ds) (map_taken (λ x. x.reached.shown) turns k t)
    ∙ ap (λ n. take n (all_shown first turns) ++ t.reached.shown ∷ []) (sym (add-one k))

taken_kept : (first : Reached) (turns : List Turn) (k : ℕ) (t : Turn)
    → kept_of first (take k turns ++ t ∷ []) ≡ take (k + 1) (kept_of first turns) ++ t.reached.kept ∷ []
taken_kept first turns k t =
    ap (λ ks. first.kept ∷ ks) (map_taken (λ x. x.reached.kept) turns k t)
    ∙ ap (λ n. take n (kept_of first turns) ++ t.reached.kept ∷ []) (sym (add-one k))

taken_states : (known : Known) (kept_before : List (List ℕ)) (old new : Recording Contents) (first : Reached) (line : List ℕ) (fuel : ℕ)
    (turns : List Turn) (k : ℕ) (t : Turn) → k ≤ length turns → IsPlayed known kept_before old new line fuel t
    → states_with new.store.fixed (all_cells new.store.cells (records_of (take k turns ++ t ∷ [])) (k + 1))
    (kept_of first (take k turns ++ t ∷ []))
    ≡ take (k + 1) (states_with old.store.fixed (all_cells old.store.cells (records_of turns) k) (kept_of first turns))
    ++ play_keeping t.reached.kept (play_of new.store) ∷ []
taken_states known kept_before old new first line fuel turns k t le h =
    let cells : List (List ℕ) = all_cells old.store.cells (records_of turns) k in
    let kept : List (List (List ℕ)) = kept_of first turns in
    let many : length cells ≡ length turns + 1 = length-all_cells old.store.cells (records_of turns) k
    (omega (arith, length-map turns (λ (x : Turn). x.overwritten)))
    ∙ ap (λ m. m + 1) (length-map turns (λ (x : Turn). x.overwritten)) in
    let same : length (take (k + 1) cells) ≡ length (take (k + 1) kept) =
    length-take-le (k + 1) cells (omega arith)
    ∙ sym (length-take-le (k + 1) kept (omega (arith, length-map turns (λ (x : Turn). x.reached.kept)))) in
    ap (λ cs. states_with new.store.fixed cs (kept_of first (take k turns ++ t ∷ [])))
    (taken_cells known kept_before old new line fuel turns k t le h)
    ∙ ap (states_with new.store.fixed (take (k + 1) cells ++ new.store.cells ∷ [])) (taken_kept first turns k t)
    ∙ ap (map (play_with new.store.fixed))
    (zip_push (take (k + 1) cells) (take (k + 1) kept) new.store.cells t.reached.kept same)
    ∙ map_push (play_with new.store.fixed) (zip (take (k + 1) cells) (take (k + 1) kept))
    (new.store.cells, t.reached.kept)
    ∙ ap (λ f. map (play_with f) (zip (take (k + 1) cells) (take (k + 1) kept))
    ++ play_keeping t.reached.kept (play_of new.store) ∷ []) h.fixed
    ∙ ap (λ xs. map (play_with old.store.fixed) xs ++ play_keeping t.reached.kept (play_of new.store) ∷ [])
    (sym (zip_take (k + 1) cells kept))
    ∙ ap (λ xs. xs ++ play_keeping t.reached.kept (play_of new.store) ∷ [])
    (sym (take-map (play_with old.store.fixed) (k + 1) (zip cells kept)))

pub taken_view : (keep : Keep) (units : ℕ) (known : Known) (kept_before : List (List ℕ)) (opening : List ℕ) (old new : Recording Contents)
    (first : Reached) (line : List ℕ) (turns : List Turn) (k : ℕ) (t : Turn) (given_up : List ℕ) → k ≤ length turns
    → IsPlayed known kept_before old new line units t
    → view_of keep units known opening new.store first (take k turns ++ t ∷ []) (k + 1) given_up
    ≡ with_turn line (length t.overwritten)
    (keeping t.reached.kept (whole_of new.store t.reached.place (text_of t.written))) t.reached.shown
    (view_of keep units known opening old.store first turns k given_up)
unfolding view_of
taken_view keep units known kept_before opening old new first line turns k t given_up le h =
    let more = take k turns ++ t ∷ [] in
    let v : Session = with_turn line (length t.overwritten)
    (keeping t.reached.kept (whole_of new.store t.reached.place (text_of t.written))) t.reached.shown
    (view_of keep units known opening old.store first turns k given_up) in
    let texts : List (List ℕ) = map (λ x. text_of x.written) more in
    let lines : List (List ℕ) = map (λ x. line_of x.written) more in
    let sizes : List ℕ = map (λ x. length x.overwritten) more in
    let shown : List Shown = all_shown first more in
    ap {A = List StateOfPlay}
    (λ x. record v {
      states = x;
      places = places_of first more;
      shown = shown;
      texts = texts;
      lines = lines;
      sizes = sizes;
    })
    (taken_states known kept_before old new first line units turns k t le h)
    ∙ ap {A = List Place}
    (λ x. record v { places = x; shown = shown; texts = texts; lines = lines; sizes = sizes })
    (taken_places first turns k t)
    ∙ ap {A = List Shown} (λ x. record v { shown = x; texts = texts; lines = lines; sizes = sizes })
    (taken_shown first turns k t)
    ∙ ap {A = List (List ℕ)} (λ x. record v { texts = x; lines = lines; sizes = sizes })
    (map_taken (λ x. text_of x.written) turns k t)
    ∙ ap {A = List (List ℕ)} (λ x. record v { lines = x; sizes = sizes })
    (map_taken (λ x. line_of x.written) turns k t
    ∙ ap (λ l. take k (map (λ x. line_of x.written) turns) ++ l ∷ []) h.line_is)
    ∙ ap {A = List ℕ} (λ x. record v { sizes = x }) (map_taken (λ x. length x.overwritten) turns k t)

taken_ready : (known : Known) (kept_before : List (List ℕ)) (old new : Recording Contents) (first : Reached) (line : List ℕ) (units : ℕ)
    (turns : List Turn) (k : ℕ) (t : Turn) → IsBetweenTurns known old first turns k
    → IsPlayed known kept_before old new line units t
    → (n : ℕ) → n ≤ k + 1
    → IsReady known
    (with_cells new.store
    (get_or (take (k + 1) (all_cells old.store.cells (records_of turns) k) ++ new.store.cells ∷ []) n []))
    (get_or (take (k + 1) (places_of first turns) ++ t.reached.place ∷ []) n places.Quit)
taken_ready known kept_before old new first line units turns k t i h n le =
    let cells = all_cells old.store.cells (records_of turns) k in
    let ps = places_of first turns in
    let within = i.within in
    let all : length cells ≡ length turns + 1 = length-all_cells old.store.cells (records_of turns) k
    (omega (arith, length-map turns (λ (x : Turn). x.overwritten)))
    ∙ ap (λ m. m + 1) (length-map turns (λ (x : Turn). x.overwritten)) in
    let long : length (take (k + 1) cells) ≡ k + 1 = length-take-le (k + 1) cells (omega arith) in
    let spots : length (take (k + 1) ps) ≡ k + 1 = length-take-le (k + 1) ps
    (omega (arith, length-map turns (λ (x : Turn). x.reached.place))) in
    elim (eq-or-lt_of_le le) [
      | inl e ↦
          let c : get_or (take (k + 1) cells ++ new.store.cells ∷ []) n []
          ≡ new.store.cells = get_or_push (take (k + 1) cells) new.store.cells [] n (omega arith) in
          let p : get_or (take (k + 1) ps ++ t.reached.place ∷ []) n places.Quit
          ≡ t.reached.place = get_or_push (take (k + 1) ps) t.reached.place places.Quit n (omega arith) in
          let now : IsReady known new.store t.reached.place = record { store = h.store; waits = h.waits } in
          subst (λ x. IsReady known (with_cells new.store x)
          (get_or (take (k + 1) ps ++ t.reached.place ∷ []) n places.Quit)) (sym c)
          (subst (λ x. IsReady known new.store x) (sym p) now)
      | inr less ↦
          let c : get_or (take (k + 1) cells ++ new.store.cells ∷ []) n []
          ≡ get_or cells n [] = get_or_append_left (take (k + 1) cells) (new.store.cells ∷ []) [] n (omega arith)
          ∙ get_or-take (k + 1) cells n [] less in
          let p : get_or (take (k + 1) ps ++ t.reached.place ∷ []) n places.Quit
          ≡ get_or ps n places.Quit = get_or_append_left (take (k + 1) ps) (t.reached.place ∷ []) places.Quit n
          (omega arith) ∙ get_or-take (k + 1) ps n places.Quit less in
          let before : IsReady known (with_cells old.store (get_or cells n [])) (get_or ps n places.Quit) = i.ready
          n (omega arith) in
          let fixed : IsReady known (with_cells new.store (get_or cells n [])) (get_or ps n places.Quit) = subst
          (λ f. IsReady known (record { cells = get_or cells n []; fixed = f }) (get_or ps n places.Quit))
          (sym h.fixed) before in
          subst (λ x. IsReady known (with_cells new.store x)
          (get_or (take (k + 1) ps ++ t.reached.place ∷ []) n places.Quit)) (sym c)
          (subst (λ x. IsReady known (with_cells new.store (get_or cells n [])) x) (sym p) fixed)
    ]

pub taken_between : (known : Known) (kept_before : List (List ℕ)) (old new : Recording Contents) (first : Reached) (line : List ℕ) (units : ℕ)
    (turns : List Turn) (k : ℕ) (t : Turn) → IsBetweenTurns known old first turns k
    → IsPlayed known kept_before old new line units t
    → IsBetweenTurns known new first (take k turns ++ t ∷ []) (k + 1)
taken_between known kept_before old new first line units turns k t i h =
    let long : length (take k turns ++ t ∷ []) ≡ k + 1 = length_push (take k turns) t
    ∙ ap (λ m. m + 1) (length-take-le k turns i.within) in
    let rs = records_of turns in
    let le : k ≤ length rs = omega (arith, i.within, length-map turns (λ (x : Turn). x.overwritten)) in
    let records : records_of (take k turns ++ t ∷ []) ≡ take k rs ++ t.overwritten
    ∷ [] = map_taken (λ x. x.overwritten) turns k t in
    record {
      settled = i.settled;
      within = omega (arith, long);
      idle = h.idle;
      begun = h.begun;
      fits = subst (λ xs. All (Fits (length new.store.cells) bound_of) xs) (sym records)
          (all_taken (Fits (length new.store.cells) bound_of) rs k t.overwritten le
          (subst (λ n. All (Fits n bound_of) rs) (sym h.size) i.fits) h.fits);
      small = subst (λ xs. All (λ r. length r ≤ largest_record known.header.static_base) xs) (sym records)
          (all_taken (λ r. length r ≤ largest_record known.header.static_base) rs k t.overwritten le i.small h.small);
      ready = λ n small.
          subst (λ cs. IsReady known (with_cells new.store (get_or cs n []))
          (get_or (places_of first (take k turns ++ t ∷ [])) n places.Quit))
          (sym (taken_cells known kept_before old new line units turns k t i.within h))
          (subst (λ ps. IsReady known
          (with_cells new.store
          (get_or (take (k + 1) (all_cells old.store.cells rs k) ++ new.store.cells ∷ []) n []))
          (get_or ps n places.Quit)) (sym (taken_places first turns k t))
          (taken_ready known kept_before old new first line units turns k t i h n (omega (arith, long))));
    }

-- the session then is one turn on
pub taken_turned : (keep : Keep) (units : ℕ) (known : Known) (kept_before : List (List ℕ)) (opening : List ℕ) (old new : Recording Contents)
    (first : Reached) (line : List ℕ) (turns more : List Turn) (k : ℕ) (t : Turn) (given_up : List ℕ) (v : Session)
    → view_of keep units known opening old.store first turns k given_up ≡ v → k ≤ length turns
    → IsPlayed known kept_before old new line units t → more ≡ take k turns ++ t ∷ []
    → get_or (kept_of first turns) k [] ≡ kept_before
    → t.reached.shown ≡ turn_shown known.loaded (showing_of keep) line units (shown_at first turns k)
    (play_keeping kept_before (play_of old.store))
    → Turned line v (view_of keep units known opening new.store first more (k + 1) given_up)
taken_turned keep units known kept_before opening old new first line turns more k t given_up v is le h e before shows =
    let state = play_keeping kept_before (play_of old.store) in
    let was : Shown = shown_before v in
    record {
      whole = keeping t.reached.kept (whole_of new.store t.reached.place (text_of t.written));
      size = length t.overwritten;
      turn = λ d.
          ap (λ p. turn_with v.loaded line v.fuel p)
          (view_state keep units known opening old.store first turns k given_up v d is le
          ∙ ap (λ kept. play_keeping kept (play_of old.store)) before)
          ∙ ap (λ n. turn_with v.loaded line n state)
          (view_fuel keep units known opening old.store first turns k given_up v is)
          ∙ ap (λ l. turn_with l line units state)
          (view_loaded keep units known opening old.store first turns k given_up v is)
          ∙ h.turn;
      small = omega (arith, h.small, header_base keep units known opening old.store first turns k given_up v is);
      shown = t.reached.shown;
      shows = λ d. sym
          (ap (λ p. turn_shown v.loaded v.showing line v.fuel was p)
          (view_state keep units known opening old.store first turns k given_up v d is le
          ∙ ap (λ kept. play_keeping kept (play_of old.store)) before)
          ∙ ap (λ n. turn_shown v.loaded v.showing line n was state)
          (view_fuel keep units known opening old.store first turns k given_up v is)
          ∙ ap (λ l. turn_shown l v.showing line units was state)
          (view_loaded keep units known opening old.store first turns k given_up v is)
          ∙ ap (λ b. turn_shown known.loaded b line units was state)
          (sym (view_showing keep units known opening old.store first turns k given_up v is))
          ∙ ap (λ b. turn_shown known.loaded (showing_of keep) line units b state)
          (sym (view_shown keep units known opening old.store first turns k given_up v is))
          ∙ sym shows);
      is = ap (λ ts. view_of keep units known opening new.store first ts (k + 1) given_up) e
          ∙ taken_view keep units known kept_before opening old new first line turns k t given_up le h
          ∙ ap {A = Session} (λ w. with_turn line (length t.overwritten)
          (keeping t.reached.kept (whole_of new.store t.reached.place (text_of t.written))) t.reached.shown w) is;
    }

-- how long stores of one machine are
pub store_size : (header : Header) (s : Contents) → IsStoreOf header s
    → length s.cells ≡ largest_record header.static_base
store_size header s h = h.sound.size ∙ ap (λ n. 72559 + n) (sym h.headed.static_base)

-- a text that begins with a line, as it is kept
kept_text : (before text bytes line : List ℕ) (n : ℕ) → before ≡ line → n ≡ length line → bytes ≡ text
    → drop (length before) text ≡ drop n bytes
kept_text before text bytes line n is size all =
    ap (λ (x : List ℕ). drop (length x) text) is ∙ ap (λ (k : ℕ). drop k text) (sym size)
    ∙ ap (λ (x : List ℕ). drop n x) (sym all)

kept_line : (before text bytes line : List ℕ) (n : ℕ) → before ≡ line → n ≡ length line → bytes ≡ text
    → take (length before) text ≡ before → take n bytes ≡ line
kept_line before text bytes line n is size all front =
    ap (λ (k : ℕ). take k bytes) size ∙ ap (λ (x : List ℕ). take (length line) x) all
    ∙ ap (λ (x : List ℕ). take (length x) text) (sym is) ∙ front ∙ is

-- what `turn`, `keep_written` and `close` say, as a turn that was played
pub played : (known : Known) (kept_before : List (List ℕ)) (old ran mid new : Recording Contents) (line : List ℕ) (units : ℕ) (t : Turn)
    (before text : List ℕ) → IsStoreOf known.header old.store
    → TurnEndsBy (CanTake known.loaded) (λ w. LineTurn known line kept_before old.store units (keeping t.reached.kept w)) old before ran text (Ok t.reached.place)
    → mid ≡ ran → before ≡ line → t.written.line ≡ length line → t.written.bytes ≡ text → old.beginning ≡ old.store.cells
    → (back mid.store.cells t.overwritten).cells ≡ mid.beginning
    → Fits (length mid.store.cells) bound_of t.overwritten
    → length t.overwritten ≤ length mid.store.cells
    → new ≡ record { store = mid.store; beginning = mid.store.cells; kept = [] }
    → IsPlayed known kept_before old new line units t
played known kept_before old ran mid new line units t before text o ended same first long all begun was fits small e =
    let ends : TurnEndsBy (CanTake known.loaded) (λ w. LineTurn known line kept_before old.store units (keeping t.reached.kept w)) old before mid text (Ok t.reached.place) =
    subst (λ (r : Recording Contents). TurnEndsBy (CanTake known.loaded) (λ w. LineTurn known line kept_before old.store units (keeping t.reached.kept w)) old before r text (Ok t.reached.place))
    (sym same) ended in
    let words : drop (length before) text ≡ text_of t.written =
    kept_text before text t.written.bytes line t.written.line first long all in
    let is : line_of t.written ≡ line =
    kept_line before text t.written.bytes line t.written.line first long all ends.front in
    let store : IsStoreOf known.header mid.store = store_after o ends.goes_on in
    let size : length mid.store.cells ≡ largest_record known.header.static_base = store_size known.header mid.store store in
    let result : IsPlayed known kept_before old (record { store = mid.store; beginning = mid.store.cells; kept = [] }) line
    units t = record {
      turn = subst (λ x. LineTurn known line kept_before old.store units
          (keeping t.reached.kept (whole_of mid.store t.reached.place x))) words ends.whole;
      waits = ends.waits;
      line_is = is;
      store = store;
      fixed = ends.goes_on.fixed;
      size = size ∙ sym (store_size known.header old.store o);
      back_is = was ∙ ends.goes_on.beginning ∙ begun;
      fits = fits;
      small = omega arith;
      idle = refl;
      begun = refl;
    } in
    subst (λ r. IsPlayed known kept_before old r line units t) (sym e) result

-- a turn that is given up leaves the store as it was between turns
as_before : (old new : Recording Contents) → GivenUp old new → old.beginning ≡ old.store.cells → IsNothingKept old
    → new ≡ old
as_before old new g begun idle =
    let cells : new.store.cells ≡ old.store.cells = g.cells ∙ begun in
    let store : new.store ≡ old.store =
    ap {A = List ℕ} {B = Contents} (λ x. record { cells = x; fixed = new.store.fixed }) cells
    ∙ ap {A = List ℕ} {B = Contents} (λ x. record { cells = old.store.cells; fixed = x }) g.fixed in
    same_recording new.store old.store new.beginning old.beginning new.kept old.kept store g.beginning
    (g.kept ∙ sym idle)

pub given_up_between : (known : Known) (old ran new : Recording Contents) (first : Reached) (turns more : List Turn)
    (k : ℕ) → IsBetweenTurns known old first turns k → GoesOn old ran → GivenUp ran new → more ≡ turns
    → IsBetweenTurns known new first more k
given_up_between known old ran new first turns more k i on g e =
    subst (λ (ts : List Turn). IsBetweenTurns known new first ts k) (sym e)
    (subst (λ (r : Recording Contents). IsBetweenTurns known r first turns k)
    (sym (as_before old new (given_up_after on g) i.begun i.idle)) i)

pub given_up_view : (keep : Keep) (units : ℕ) (known : Known) (opening : List ℕ)
    (old ran new : Recording Contents) (first : Reached) (turns more : List Turn) (k : ℕ) (given_up : List ℕ)
    (v : Session) → IsBetweenTurns known old first turns k → GoesOn old ran → GivenUp ran new → more ≡ turns
    → view_of keep units known opening old.store first turns k given_up ≡ v
    → view_of keep units known opening new.store first more k given_up ≡ v
given_up_view keep units known opening old ran new first turns more k given_up v i on g e is =
    ap (λ (ts : List Turn). view_of keep units known opening new.store first ts k given_up) e
    ∙ ap (λ (r : Recording Contents). view_of keep units known opening r.store first turns k given_up)
    (as_before old new (given_up_after on g) i.begun i.idle) ∙ is

pub at_err : {A E : Type 0} {P : Type 0} (result : Result A E) → P → OnErr result P
at_err (Ok a) p = tt
at_err (Err e) p = p

-- what a turn adds to the transcript, by the session before it
pub script_turned : (keep : Keep) (fuel : ℕ) (known : Known) (kept : List (List ℕ)) (opening : List ℕ)
    (store : Contents) (first : Reached) (line : List ℕ) (turns : List Turn) (k : ℕ) (given_up : List ℕ) (v : Session)
    (script : List ℕ) → view_of keep fuel known opening store first turns k given_up ≡ v → k ≤ length turns
    → get_or (kept_of first turns) k [] ≡ kept
    → script ≡ turn_script known.loaded line fuel (play_keeping kept (play_of store)) → (d : StateOfPlay)
    → script ≡ turn_script v.loaded line v.fuel (get_or v.states v.present d)
script_turned keep fuel known kept opening store first line turns k given_up v script is le same e d =
    e ∙ ap (λ (q : List (List ℕ)). turn_script known.loaded line fuel (play_keeping q (play_of store))) (sym same)
    ∙ ap (turn_script known.loaded line fuel)
    (sym (view_state keep fuel known opening store first turns k given_up v d is le))
    ∙ ap (λ l. turn_script l line fuel (get_or v.states v.present d))
    (sym (view_loaded keep fuel known opening store first turns k given_up v is))
    ∙ ap (λ (n : ℕ). turn_script v.loaded line n (get_or v.states v.present d))
    (sym (view_fuel keep fuel known opening store first turns k given_up v is))

-- What a turn shows, from the styles that the player has gathered
pub turn_shows : (known : Known) (keep : Keep) (styled : Bool) (line : List ℕ) (units : ℕ) (before : Shown)
    (play : StateOfPlay) (drawing text : List ℕ) (whole : Whole) (p : Styles) → styled ≡ keep.styles
    → drawing ≡ turn_drawing known.loaded line units (begun_with keep.picture before.drawing) play
    → turn_with known.loaded line units play ≡ Some whole → whole.text ≡ text
    → (IsTrue styled → p ≡ turn_styles known.loaded line units before.style play)
    → shown_of keep.rows styled drawing text p ≡ turn_shown known.loaded (showing_of keep) line units before play
turn_shows known keep styled line units before play drawing text whole p same drawn turn is styles =
    ap (λ b. shown_of keep.rows b drawing text p) same
    ∙ shown_as keep.rows keep.styles drawing
    (turn_drawing known.loaded line units (begun_with keep.picture before.drawing) play) text
    (text_in (turn_with known.loaded line units play)) p (turn_styles known.loaded line units before.style play) drawn
    (sym is ∙ ap text_in (sym turn)) (λ asked. styles (same ∙ asked))
