-- What undo, redo, a turn and a bound make of the fields of a session.
use Rattle.std.proofs.Common.{◌≡◌, ℕ, zero, suc, ◌+◌, ◌-◌, ◌≤◌, ◌<◌, List, [], ◌∷◌, length, get_or, set, drop, map}
use Rattle.std.proofs.Common.{ap, sym, ◌∙◌, subst, arith}
use Rattle.std.specs.List.{All}
use Rattle.std.proofs.lemmas.List.{map-set, set-get_or, get_or-map, length-set, length-map, get_or-set_same, drop-map}
use Rattle.std.proofs.lemmas.List.{get_or-drop}
use Rattle.journal.specs.Recording.{Recording, IsNothingKept}
use Rattle.journal.specs.Swap.{back, forward, Fits}
use Rattle.zcore.specs.declared.place.Place.{Place}
use Rattle.zcore.specs.declared.place.Place.TheVariants as places
use Rattle.zcore.specs.Turn.{StateOfPlay}
use Rattle.machine_frames.specs.Contents.{Contents, bound_of}
use Rattle.std.specs.List.{zip}
use Rattle.zcore_standard.specs.Machine.{play_keeping}
use Rattle.machine_frames.specs.States.{play_of}
use Rattle.session.specs.declared.mode.Keep.{Keep}
use Rattle.session.specs.Reached.{Reached}
use Rattle.session.specs.declared.turns.Turn.{Turn}
use Rattle.session.specs.Modes.{Known}
use Rattle.session.specs.Session.{Session, largest_record}
use Rattle.session.specs.Shown.{Shown}
use Rattle.session.specs.Stepped.{without_oldest}
use Rattle.session.specs.Times.{all_cells}
use Rattle.session.specs.Inside.{all_shown, kept_of, records_of, with_cells, places_of, view_of}
use Rattle.session.specs.Inside.{Swaps, IsReady, IsBetweenTurns}
use Rattle.session_lines.specs.Written.{text_of, line_of}
use Rattle.session.proofs.Zips.{zip_past_one}
use Rattle.session.proofs.Moves.{cells_undo, cells_redo, cells_older, present_cells, length-back, length-forward}

-- a turn that is exchanged for one with the same part
pub kept_by : {X : Type 0} (f : Turn → X) (turns : List Turn) (k : ℕ) (t u : Turn) → k < length turns
    → t ≡ get_or turns k t → f u ≡ f t → map f (set turns k u) ≡ map f turns
kept_by f turns k t u lt is same =
    map-set f turns k u ∙ ap (λ x. set (map f turns) k x) (same ∙ ap f is ∙ sym (get_or-map f turns k t (f t) lt))
    ∙ set-get_or (map f turns) k (f t)

pub all_set : {X : Type 0} (P : X → Type 0) (xs : List X) (i : ℕ) (x : X) → All P xs → P x → All P (set xs i x)
all_set P [] i x all p k d lt = absurd (omega arith)
all_set P (y ∷ ys) zero x all p zero d lt = p
all_set P (y ∷ ys) zero x all p (suc k) d lt = all (suc k) d lt
all_set P (y ∷ ys) (suc i) x all p zero d lt = all 0 d (omega arith)
all_set P (y ∷ ys) (suc i) x all p (suc k) d lt = all_set P ys i x (λ n e l. all (suc n) e (omega arith)) p k d
    (omega arith)

-- the record of a turn
pub record_at : (turns : List Turn) (k : ℕ) (t : Turn) → k < length turns → t ≡ get_or turns k t
    → t.overwritten ≡ get_or (records_of turns) k t.overwritten
record_at turns k t lt is = ap (λ (x : Turn). x.overwritten) is
    ∙ sym (get_or-map (λ x. x.overwritten) turns k t t.overwritten lt)

pub turn_fits : (P : List (ℕ × ℕ) → Type 0) (turns : List Turn) (k : ℕ) (t : Turn) → k < length turns
    → t ≡ get_or turns k t → All P (records_of turns) → P t.overwritten
turn_fits P turns k t lt is all = subst P (sym (record_at turns k t lt is))
    (all k t.overwritten (omega (arith, length-map turns (λ (x : Turn). x.overwritten))))

-- a state of play, by what a store holds and what the story has kept
abbrev pub play_with : List ℕ → List ℕ × List (List ℕ) → StateOfPlay
play_with fixed x = play_keeping x.1 (play_of (record { cells = x.0; fixed = fixed }))

abbrev pub states_with : List ℕ → List (List ℕ) → List (List (List ℕ)) → List StateOfPlay
states_with fixed cells kept = map (play_with fixed) (zip cells kept)

-- the same session, in other fields
same_view : (v : Session) (states : List StateOfPlay) (places : List Place) (shown : List Shown)
    (texts lines : List (List ℕ))
    (sizes : List ℕ) (present : ℕ) → states ≡ v.states → places ≡ v.places → shown ≡ v.shown → texts ≡ v.texts
    → lines ≡ v.lines → sizes ≡ v.sizes
    → record v {
      states = states;
      places = places;
      shown = shown;
      texts = texts;
      lines = lines;
      sizes = sizes;
      present = present;
    } ≡ record v { present = present }
same_view v states places shown texts lines sizes present a b f c d e =
    ap (λ x. record v {
      states = x;
      places = places;
      shown = shown;
      texts = texts;
      lines = lines;
      sizes = sizes;
      present = present;
    }) a
    ∙ ap (λ x. record v {
      places = x;
      shown = shown;
      texts = texts;
      lines = lines;
      sizes = sizes;
      present = present;
    }) b
    ∙ ap (λ x. record v { shown = x; texts = texts; lines = lines; sizes = sizes; present = present }) f
    ∙ ap (λ x. record v { texts = x; lines = lines; sizes = sizes; present = present }) c
    ∙ ap (λ x. record v { lines = x; sizes = sizes; present = present }) d
    ∙ ap (λ x. record v { sizes = x; present = present }) e

-- an exchanged turn, whose other parts stay
pub record Exchanged (t u : Turn) (entries : List (ℕ × ℕ)) : Type 0 where
  pub is : u ≡ record t { overwritten = entries }
  pub size : length entries ≡ length t.overwritten

exchanged_view : (keep : Keep) (fuel : ℕ) (known : Known) (opening : List ℕ) (store new : Contents)
    (first : Reached) (turns : List Turn) (t u : Turn) (entries : List (ℕ × ℕ)) (k from to : ℕ) (given_up : List ℕ)
    → k < length turns → t ≡ get_or turns k t → Exchanged t u entries → new.fixed ≡ store.fixed
    → all_cells new.cells (records_of (set turns k u)) to ≡ all_cells store.cells (records_of turns) from
    → view_of keep fuel known opening new first (set turns k u) to given_up
    ≡ record (view_of keep fuel known opening store first turns from given_up) { present = to }
unfolding view_of
exchanged_view keep fuel known opening store new first turns t u entries k from to given_up lt is x fixed cells =
    same_view (view_of keep fuel known opening store first turns from given_up)
    (states_with new.fixed (all_cells new.cells (records_of (set turns k u)) to) (kept_of first (set turns k u)))
    (places_of first (set turns k u)) (all_shown first (set turns k u))
    (map (λ y. text_of y.written) (set turns k u)) (map (λ y. line_of y.written) (set turns k u))
    (map (λ y. length y.overwritten) (set turns k u)) to
    (ap (λ f. states_with f (all_cells new.cells (records_of (set turns k u)) to) (kept_of first (set turns k u))) fixed
    ∙ ap (λ cs. states_with store.fixed cs (kept_of first (set turns k u))) cells
    ∙ ap (λ kept. states_with store.fixed (all_cells store.cells (records_of turns) from) (first.kept ∷ kept))
    (kept_by (λ y. y.reached.kept) turns k t u lt is (ap (λ (y : Turn). y.reached.kept) x.is)))
    (ap (λ ps. first.place ∷ ps)
    (kept_by (λ y. y.reached.place) turns k t u lt is (ap (λ (y : Turn). y.reached.place) x.is)))
    (ap (λ ds. first.shown ∷ ds)
    (kept_by (λ y. y.reached.shown) turns k t u lt is (ap (λ (y : Turn). y.reached.shown) x.is)))
    (kept_by (λ y. text_of y.written) turns k t u lt is (ap (λ (y : Turn). text_of y.written) x.is))
    (kept_by (λ y. line_of y.written) turns k t u lt is (ap (λ (y : Turn). line_of y.written) x.is))
    (kept_by (λ y. length y.overwritten) turns k t u lt is (ap (λ (y : Turn). length y.overwritten) x.is ∙ x.size))

ready_as : (known : Known) (f g : List ℕ) (cs ds : List (List ℕ)) (ps qs : List Place) (k : ℕ) → g ≡ f → ds ≡ cs
    → qs ≡ ps
    → IsReady known (record { cells = get_or cs k []; fixed = f }) (get_or ps k places.Quit)
    → IsReady known (record { cells = get_or ds k []; fixed = g }) (get_or qs k places.Quit)
ready_as known f g cs ds ps qs k a b c s =
    let at = subst (λ x. IsReady known (record { cells = get_or cs k []; fixed = x }) (get_or ps k places.Quit))
    (sym a) s in
    let then_at = subst (λ x. IsReady known (record { cells = get_or x k []; fixed = g }) (get_or ps k places.Quit))
    (sym b) at in
    subst (λ x. IsReady known (record { cells = get_or ds k []; fixed = g }) (get_or x k places.Quit)) (sym c)
    then_at

exchanged_between : (known : Known) (store new : Recording Contents) (first : Reached) (turns : List Turn)
    (t u : Turn) (entries : List (ℕ × ℕ)) (k from to : ℕ)
    → k < length turns → t ≡ get_or turns k t → Exchanged t u entries → new.store.fixed ≡ store.store.fixed
    → all_cells new.store.cells (records_of (set turns k u)) to
    ≡ all_cells store.store.cells (records_of turns) from
    → to ≤ length turns → IsNothingKept new → new.beginning ≡ new.store.cells
    → length new.store.cells ≡ length store.store.cells → Fits (length new.store.cells) bound_of u.overwritten
    → IsBetweenTurns known store first turns from → IsBetweenTurns known new first (set turns k u) to
exchanged_between known store new first turns t u entries k from to lt is x fixed cells within idle begun size fits
    i =
    let records : records_of (set turns k u) ≡ set (records_of turns) k u.overwritten = map-set
    (λ (y : Turn). y.overwritten) turns k u in
    let long = length-set turns k u in
    let small : length u.overwritten ≤ largest_record known.header.static_base =
    let e : length u.overwritten ≡ length t.overwritten = ap (λ (y : Turn). length y.overwritten) x.is ∙ x.size in
    omega (arith, e, turn_fits (λ r. length r ≤ largest_record known.header.static_base) turns k t lt is i.small) in
    record {
      settled = i.settled;
      within = omega (arith, long);
      idle = idle;
      begun = begun;
      fits = subst (λ rs. All (Fits (length new.store.cells) bound_of) rs) (sym records)
          (all_set (Fits (length new.store.cells) bound_of) (records_of turns) k u.overwritten
          (subst (λ n. All (Fits n bound_of) (records_of turns)) (sym size) i.fits) fits);
      small = subst (λ rs. All (λ r. length r ≤ largest_record known.header.static_base) rs) (sym records)
          (all_set (λ r. length r ≤ largest_record known.header.static_base) (records_of turns) k u.overwritten i.small
          small);
      ready = λ n le. ready_as known store.store.fixed new.store.fixed _ _ (places_of first turns)
          (places_of first (set turns k u)) n fixed cells
          (ap (λ ps. first.place ∷ ps) (kept_by (λ y. y.reached.place) turns k t u lt is (ap (λ (y : Turn). y.reached.place) x.is)))
          (i.ready n (omega (arith, long)));
    }

-- the turn at a place
pub record StandsAt (turns : List Turn) (k : ℕ) (t : Turn) : Type 0 where
  pub here : k < length turns
  pub is : t ≡ get_or turns k t

back_cells : (store new : Recording Contents) (turns : List Turn) (k : ℕ) (t u : Turn)
    → StandsAt turns k t → Swaps back forward store new t u
    → all_cells new.store.cells (records_of (set turns k u)) k
    ≡ all_cells store.store.cells (records_of turns) (k + 1)
back_cells store new turns k t u stands h =
    ap (λ rs. all_cells new.store.cells rs k) (map-set (λ (y : Turn). y.overwritten) turns k u)
    ∙ cells_undo store.store.cells new.store.cells t.overwritten u.overwritten (records_of turns) k
    (omega (arith, stands.here, length-map turns (λ (x : Turn). x.overwritten))) (record_at turns k t stands.here stands.is)
    (ap (λ (s : Contents). s.cells) h.store) h.inverse

again_cells : (store new : Recording Contents) (turns : List Turn) (k : ℕ) (t u : Turn)
    → StandsAt turns k t → Swaps forward back store new t u
    → all_cells new.store.cells (records_of (set turns k u)) (k + 1)
    ≡ all_cells store.store.cells (records_of turns) k
again_cells store new turns k t u stands h =
    ap (λ rs. all_cells new.store.cells rs (k + 1)) (map-set (λ (y : Turn). y.overwritten) turns k u)
    ∙ cells_redo store.store.cells new.store.cells t.overwritten u.overwritten (records_of turns) k
    (omega (arith, stands.here, length-map turns (λ (x : Turn). x.overwritten))) (record_at turns k t stands.here stands.is)
    (ap (λ (s : Contents). s.cells) h.store) h.inverse

back_turn : (store new : Recording Contents) (t u : Turn) → Swaps back forward store new t u
    → Exchanged t u (back store.store.cells t.overwritten).entries
back_turn store new t u h = record { is = h.turn; size = length-back store.store.cells t.overwritten }

again_turn : (store new : Recording Contents) (t u : Turn) → Swaps forward back store new t u
    → Exchanged t u (forward store.store.cells t.overwritten).entries
again_turn store new t u h = record { is = h.turn; size = length-forward store.store.cells t.overwritten }

pub undo_view : (keep : Keep) (fuel : ℕ) (known : Known) (opening : List ℕ) (store new : Recording Contents)
    (first : Reached) (turns : List Turn) (t u : Turn) (k done : ℕ) (given_up : List ℕ) → k + 1 ≡ done
    → StandsAt turns k t → Swaps back forward store new t u
    → view_of keep fuel known opening new.store first (set turns k u) k given_up
    ≡ record (view_of keep fuel known opening store.store first turns done given_up) { present = k }
undo_view keep fuel known opening store new first turns t u k done given_up e stands h =
    exchanged_view keep fuel known opening store.store new.store first turns t u
    (back store.store.cells t.overwritten).entries k done k given_up stands.here stands.is
    (back_turn store new t u h) (ap (λ (s : Contents). s.fixed) h.store)
    (back_cells store new turns k t u stands h ∙ ap (all_cells store.store.cells (records_of turns)) e)

pub undo_between : (known : Known) (store new : Recording Contents) (first : Reached) (turns : List Turn)
    (t u : Turn) (k done : ℕ) → k + 1 ≡ done → StandsAt turns k t → Swaps back forward store new t u
    → IsBetweenTurns known store first turns done → IsBetweenTurns known new first (set turns k u) k
undo_between known store new first turns t u k done e stands h i =
    exchanged_between known store new first turns t u (back store.store.cells t.overwritten).entries k done k stands.here
    stands.is (back_turn store new t u h) (ap (λ (s : Contents). s.fixed) h.store)
    (back_cells store new turns k t u stands h ∙ ap (all_cells store.store.cells (records_of turns)) e)
    (omega (arith, stands.here)) h.idle h.begun h.size h.fits i

pub redo_view : (keep : Keep) (fuel : ℕ) (known : Known) (opening : List ℕ) (store new : Recording Contents)
    (first : Reached) (turns : List Turn) (t u : Turn) (k : ℕ) (given_up : List ℕ) → StandsAt turns k t
    → Swaps forward back store new t u
    → view_of keep fuel known opening new.store first (set turns k u) (k + 1) given_up
    ≡ record (view_of keep fuel known opening store.store first turns k given_up) { present = k + 1 }
redo_view keep fuel known opening store new first turns t u k given_up stands h =
    exchanged_view keep fuel known opening store.store new.store first turns t u
    (forward store.store.cells t.overwritten).entries k k (k + 1) given_up stands.here stands.is
    (again_turn store new t u h) (ap (λ (s : Contents). s.fixed) h.store)
    (again_cells store new turns k t u stands h)

pub redo_between : (known : Known) (store new : Recording Contents) (first : Reached) (turns : List Turn)
    (t u : Turn) (k : ℕ) → StandsAt turns k t → Swaps forward back store new t u
    → IsBetweenTurns known store first turns k → IsBetweenTurns known new first (set turns k u) (k + 1)
redo_between known store new first turns t u k stands h i =
    exchanged_between known store new first turns t u (forward store.store.cells t.overwritten).entries k k (k + 1)
    stands.here stands.is (again_turn store new t u h) (ap (λ (s : Contents). s.fixed) h.store)
    (again_cells store new turns k t u stands h) (omega (arith, stands.here)) h.idle h.begun h.size h.fits i

-- the text of a turn that was exchanged
pub redone_text : (turns : List Turn) (k j : ℕ) (t u x : Turn) (entries : List (ℕ × ℕ)) → k < length turns → j ≡ k
    → x ≡ get_or (set turns k u) j x → u ≡ record t { overwritten = entries } → (text_of x.written) ≡ (text_of t.written)
redone_text turns k j t u x entries lt e at is =
    ap (λ (y : Turn). text_of y.written)
    (at ∙ ap (λ n. get_or (set turns k u) n x) e ∙ get_or-set_same turns k u x lt ∙ is)

-- The oldest turn is given up

pub oldest_view : (keep : Keep) (fuel : ℕ) (known : Known) (opening : List ℕ) (store : Contents)
    (first : Reached) (turns rest : List Turn) (t : Turn) (done : ℕ) (given_up : List ℕ) → turns ≡ t ∷ rest → 0 < done
    → view_of keep fuel known opening store t.reached rest (done - 1) (text_of t.written)
    ≡ without_oldest (view_of keep fuel known opening store first turns done given_up)
unfolding view_of
oldest_view keep fuel known opening store first turns rest t done given_up is some =
    let cells : all_cells store.cells (records_of rest) (done - 1)
    ≡ drop 1 (all_cells store.cells (records_of (t ∷ rest)) done) = cells_older store.cells t.overwritten
    (records_of rest) done some in
    ap {A = List StateOfPlay}
    (λ x. record
    (without_oldest (view_of keep fuel known opening store first (t ∷ rest) done given_up)) { states = x })
    (ap (λ cs. states_with store.fixed cs (kept_of t.reached rest)) cells
    ∙ ap (map (play_with store.fixed))
    (zip_past_one (all_cells store.cells (records_of (t ∷ rest)) done) (kept_of first (t ∷ rest)))
    ∙ sym (drop-map (play_with store.fixed) 1
    (zip (all_cells store.cells (records_of (t ∷ rest)) done) (kept_of first (t ∷ rest)))))
    ∙ ap (λ ts. without_oldest (view_of keep fuel known opening store first ts done given_up)) (sym is)

oldest_by : (known : Known) (store : Recording Contents) (first : Reached) (rest : List Turn) (t : Turn) (done : ℕ)
    → 0 < done → IsBetweenTurns known store first (t ∷ rest) done
    → IsBetweenTurns known store t.reached rest (done - 1)
oldest_by known store first rest t done some i =
    let cells : all_cells store.store.cells (records_of rest) (done - 1)
    ≡ drop 1 (all_cells store.store.cells (records_of (t ∷ rest)) done) = cells_older store.store.cells
    t.overwritten (records_of rest) done some in
    record {
      settled = i.settled;
      within = omega (arith, i.within);
      idle = i.idle;
      begun = i.begun;
      fits = λ k d lt. i.fits (suc k) d (omega arith);
      small = λ k d lt. i.small (suc k) d (omega arith);
      ready = λ k le.
          let e : 1 + k ≡ suc k = omega arith in
          let at : get_or (all_cells store.store.cells (records_of rest) (done - 1)) k []
          ≡ get_or (all_cells store.store.cells (records_of (t ∷ rest)) done) (suc k) [] =
          ap (λ cs. get_or cs k []) cells ∙ get_or-drop 1 (all_cells store.store.cells (records_of (t ∷ rest)) done)
          k [] ∙ ap (λ n. get_or (all_cells store.store.cells (records_of (t ∷ rest)) done) n []) e in
          subst (λ c. IsReady known (with_cells store.store c) (get_or (places_of t.reached rest) k places.Quit))
          (sym at) (i.ready (suc k) (omega arith));
    }

pub oldest_between : (known : Known) (store : Recording Contents) (first : Reached) (turns rest : List Turn)
    (t : Turn) (done : ℕ) → turns ≡ t ∷ rest → 0 < done → IsBetweenTurns known store first turns done
    → IsBetweenTurns known store t.reached rest (done - 1)
oldest_between known store first turns rest t done is some i = oldest_by known store first rest t done some
    (subst (λ ts. IsBetweenTurns known store first ts done) is i)

-- The present

pub ready_now : (known : Known) (store : Recording Contents) (first : Reached) (turns : List Turn) (done : ℕ)
    → IsBetweenTurns known store first turns done
    → IsReady known store.store (get_or (places_of first turns) done places.Quit)
ready_now known store first turns done i =
    subst (λ c. IsReady known (with_cells store.store c) (get_or (places_of first turns) done places.Quit))
    (present_cells store.store.cells (records_of turns) done []
    (omega (arith, i.within, length-map turns (λ (x : Turn). x.overwritten)))) (i.ready done i.within)
