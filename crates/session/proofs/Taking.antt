-- What a line that is taken makes of a session.
use Rattle.std.proofs.Common.{Option, None, Some, ◌≡◌, ℕ, zero, suc, ◌+◌, ◌-◌, ◌≤◌, min, List, [], ◌∷◌, ◌++◌, length}
use Rattle.std.proofs.Common.{get_or, take, drop, map, refl, ap, sym, ◌∙◌, subst, arith, append-nil, length-append}
use Rattle.std.proofs.Common.{add-one, true, inl, inr}
use Rattle.std.specs.Prelude.{IfSome}
use Rattle.std.proofs.lemmas.List.{length-take-le, length-drop, length-map, map_push, take-map, drop-map, drop-drop}
use Rattle.std.proofs.lemmas.List.{drop-take, drop-append-le, take_at, get_or_push, get_or-drop, length_push}
use Rattle.std.proofs.lemmas.List.Elements.{All-drop}
use Rattle.std.proofs.Math.Nat.{eq-or-lt_of_le}
use Rattle.zcore.specs.Header.{static_base_of}
use Rattle.zcore.specs.declared.place.Place.TheVariants as places
use Rattle.zcore.specs.Turn.{StateOfPlay, Whole, Play, plays_of, is_waiting, last_text, last_place}
use Rattle.session.specs.Modes.{turn_with}
use Rattle.session_lines.specs.Standing.{Standing, taken, reached}
use Rattle.session.specs.Session.{Session, largest_record}
use Rattle.session.specs.Shown.{Shown}
use Rattle.session.specs.Stepped.{with_turn, without_oldest, bounded, latest_text}
use Rattle.session.specs.Sessions.{all_lines, IsSession}
use Rattle.session.specs.Turned.{Turned}
use Rattle.session.proofs.Turning.{all_taken}
use Rattle.session.proofs.Plays.{plays_more, last_of, last_at}
use Rattle.session.proofs.Sessions.{Unbounded, unbounded, with_bound, present_of, present_state, present_place}
use Rattle.session.proofs.Sessions.{place_is, done_plays, some_whole, text_none, text_some, bound_none, bound_over}
use Rattle.session.proofs.Sessions.{bound_under}

-- the lines that stand once one is taken, before the oldest turn may go
abbrev pub longer : List ℕ → Standing → Standing
longer line s = record { done = s.done ++ line ∷ []; undone = []; kept = s.kept + 1 }

-- the whole states then
pub longer_plays : (story : List ℕ) (units : ℕ) (play : Play) (s : Standing) (v : Session) (line : List ℕ) (whole : Whole)
    → Unbounded story units play s v → is_waiting (present_of story units play s).place ≡ true
    → play.turn_on line (present_of story units play s).state ≡ Some whole
    → plays_of play (all_lines (longer line s)) ≡ take (suc (length s.done)) (plays_of play (all_lines s))
    ++ whole ∷ []
unfolding present_of
longer_plays story units play s v line whole h waits turn =
    let ws = plays_of play (all_lines s) in
    let n = length s.done in
    let front : plays_of play s.done ≡ take (suc n) ws = done_plays story units play s v h in
    let size : length (take (suc n) ws) ≡ suc n = length-take-le (suc n) ws (omega (arith, h.whole)) in
    let last : last_of some_whole (plays_of play s.done) ≡ get_or ws n some_whole = ap (last_of some_whole) front
    ∙ last_at ws n some_whole (omega (arith, h.whole)) in
    ap (plays_of play) (append-nil (s.done ++ line ∷ []))
    ∙ plays_more play s.done line some_whole whole (get_or ws n some_whole)
    (ap length front ∙ size ∙ sym (add-one n)) last waits turn
    ∙ ap (λ xs. xs ++ whole ∷ []) front

-- the front of what is reached
pub reached_front : {A : Type 0} (ws : List A) (b kept n : ℕ) (x : A) → b + (kept + 1) ≡ suc n → suc n ≤ length ws
    → drop b (take (suc n) ws ++ x ∷ []) ≡ take (kept + 1) (drop b ws) ++ x ∷ []
reached_front ws b kept n x is le =
    drop-append-le b (take (suc n) ws) (x ∷ []) (omega (arith, length-take-le (suc n) ws le))
    ∙ ap (λ m. drop b (take m ws) ++ x ∷ []) (sym is) ∙ ap (λ xs. xs ++ x ∷ []) (drop-take b (kept + 1) ws)

reached_map : {A B : Type 0} (f : A → B) (xs : List B) (ws : List A) (p kept : ℕ) (x : A) → xs ≡ map f ws → p ≡ kept
    → take p xs ++ f x ∷ [] ≡ map f (take kept ws ++ x ∷ [])
reached_map f xs ws p kept x e is =
    ap (λ ys. take p ys ++ f x ∷ []) e ∙ ap (λ k. take k (map f ws) ++ f x ∷ []) is
    ∙ ap (λ ys. ys ++ f x ∷ []) (take-map f kept ws) ∙ sym (map_push f (take kept ws) x)

pub session_longer : (story : List ℕ) (units : ℕ) (play : Play) (s : Standing) (v : Session) (line : List ℕ) (size : ℕ)
    (whole : Whole) (shown : Shown) → Unbounded story units play s v → is_waiting (present_of story units play s).place ≡ true
    → play.turn_on line (present_of story units play s).state ≡ Some whole
    → size ≤ largest_record (static_base_of story)
    → Unbounded story units play (longer line s) (with_turn line size whole shown v)
session_longer story units play s v line size whole shown h waits turn small =
    let ws = plays_of play (all_lines s) in
    let n = length s.done in
    let b = n - s.kept in
    let more : length (s.done ++ line ∷ []) ≡ n + 1 = length-append s.done (line ∷ []) in
    let reach = h.reach in
    let split : b + (s.kept + 1) ≡ suc n = omega arith in
    let le : suc n ≤ length ws = omega (arith, h.whole) in
    let long : length (take (suc n) ws) ≡ suc n = length-take-le (suc n) ws le in
    let all : plays_of play (all_lines (longer line s)) ≡ take (suc n) ws
    ++ whole ∷ [] = longer_plays story units play s v line whole h waits turn in
    let back : length (s.done ++ line ∷ []) - (s.kept + 1) ≡ b = omega arith in
    let states : reached (longer line s) (plays_of play (all_lines (longer line s)))
    ≡ take (s.kept + 1) (drop b ws) ++ whole ∷ [] =
    ap (λ k. drop k (plays_of play (all_lines (longer line s)))) back ∙ ap (drop b) all
    ∙ reached_front ws b s.kept n whole split le in
    let wide : length (take (s.kept + 1) (drop b ws))
    ≡ s.kept + 1 = length-take-le (s.kept + 1) (drop b ws) (omega (arith, length-drop b ws)) in
    let one : 1 + s.kept ≡ s.kept + 1 = omega arith in
    let texts : drop 1 (reached (longer line s) (plays_of play (all_lines (longer line s))))
    ≡ take s.kept (drop 1 (drop b ws)) ++ whole ∷ [] =
    ap (drop 1) states ∙ drop-append-le 1 (take (s.kept + 1) (drop b ws)) (whole ∷ []) (omega arith)
    ∙ ap (λ k. drop 1 (take k (drop b ws)) ++ whole ∷ []) (sym one)
    ∙ ap (λ xs. xs ++ whole ∷ []) (drop-take 1 s.kept (drop b ws)) in
    let kept : b + s.kept ≡ n = omega arith in
    let old : take s.kept (reached s (all_lines s)) ≡ drop b s.done =
    sym (drop-take b s.kept (s.done ++ s.undone)) ∙ ap (λ k. drop b (take k (s.done ++ s.undone))) kept
    ∙ ap (drop b) (take_at s.done s.undone n refl) in
    let lines : reached (longer line s) (all_lines (longer line s)) ≡ drop b s.done ++ line ∷ [] =
    ap (λ k. drop k (all_lines (longer line s))) back ∙ ap (drop b) (append-nil (s.done ++ line ∷ []))
    ∙ drop-append-le b s.done (line ∷ []) (omega arith) in
    let present : v.present + 1 ≡ s.kept + 1 = ap (λ k. k + 1) h.present in
    let room : v.present ≤ length v.sizes = omega (arith, h.records, h.present) in
    let sizes : length (take v.present v.sizes ++ size ∷ [])
    ≡ v.present + 1 = length_push (take v.present v.sizes) size
    ∙ ap (λ k. k + 1) (length-take-le v.present v.sizes room) in
    record {
      whole = ap length all ∙ omega (arith, length-append (take (suc n) ws) (whole ∷ []));
      reach = omega arith;
      fuel = h.fuel;
      static_base = h.static_base;
      opening = h.opening;
      states = reached_map (λ (w : Whole). w.state) v.states (drop b ws) (v.present + 1) (s.kept + 1) whole h.states
          present ∙ ap (map (λ (w : Whole). w.state)) (sym states);
      places = reached_map (λ (w : Whole). w.place) v.places (drop b ws) (v.present + 1) (s.kept + 1) whole h.places
          present ∙ ap (map (λ (w : Whole). w.place)) (sym states);
      texts = reached_map (λ (w : Whole). w.text) v.texts (drop 1 (drop b ws)) v.present s.kept whole h.texts
          h.present ∙ ap (map (λ (w : Whole). w.text)) (sym texts);
      lines = ap (λ xs. take v.present xs ++ line ∷ []) h.lines
          ∙ ap (λ k. take k (reached s (all_lines s)) ++ line ∷ []) h.present ∙ ap (λ xs. xs ++ line ∷ []) old
          ∙ sym lines;
      records = omega arith;
      small = all_taken (λ n. n ≤ largest_record (static_base_of story)) v.sizes v.present size room h.small small;
      present = present;
    }

-- the oldest turn is given up
pub session_older : (story : List ℕ) (units : ℕ) (play : Play) (s : Standing) (v : Session) (kept : ℕ)
    → kept + 1 ≡ s.kept → Unbounded story units play s v → Unbounded story units play (record s { kept = kept }) (without_oldest v)
session_older story units play s v kept e h =
    let ws = plays_of play (all_lines s) in
    let b = length s.done - s.kept in
    let reach = h.reach in
    let back : b + 1 ≡ length s.done - kept = omega arith in
    let states : drop 1 (drop b ws) ≡ drop (length s.done - kept) ws = drop-drop 1 b ws ∙ ap (λ k. drop k ws) back in
    record {
      whole = h.whole;
      reach = omega arith;
      fuel = h.fuel;
      static_base = h.static_base;
      opening = h.opening;
      states = ap (drop 1) h.states ∙ drop-map (λ (w : Whole). w.state) 1 (drop b ws)
          ∙ ap (map (λ (w : Whole). w.state)) states;
      places = ap (drop 1) h.places ∙ drop-map (λ (w : Whole). w.place) 1 (drop b ws)
          ∙ ap (map (λ (w : Whole). w.place)) states;
      texts = ap (drop 1) h.texts ∙ drop-map (λ (w : Whole). w.text) 1 (drop 1 (drop b ws))
          ∙ ap (λ xs. map (λ (w : Whole). w.text) (drop 1 xs)) states;
      lines = ap (drop 1) h.lines ∙ drop-drop 1 b (all_lines s) ∙ ap (λ k. drop k (all_lines s)) back;
      records = omega (arith, length-drop 1 v.sizes, h.records);
      small = All-drop (λ size. size ≤ largest_record (static_base_of story)) 1 v.sizes h.small;
      present = omega (arith, h.present);
    }

-- the session and the text that is lent, under a bound
pub record IsTaken (story : List ℕ) (units : ℕ) (play : Play) (most : Option ℕ) (line : List ℕ) (s : Standing)
    (v : Session) (text : List ℕ) : Type 0 where
  pub session : IsSession story units play most (taken most line s) v
  pub lent : latest_text v ≡ text

-- the text of the turn of the line
longer_text : (v : Session) (line : List ℕ) (size : ℕ) (whole : Whole) → v.present ≤ length v.texts
    → get_or (take v.present v.texts ++ whole.text ∷ []) v.present [] ≡ whole.text
longer_text v line size whole le = get_or_push (take v.present v.texts) whole.text [] v.present
    (length-take-le v.present v.texts le)

taken_free : (story : List ℕ) (units : ℕ) (play : Play) (line : List ℕ) (s : Standing) (v : Session) (size : ℕ)
    (whole : Whole) (shown : Shown) → v.keep ≡ None → v.present ≤ length v.texts
    → Unbounded story units play (longer line s) (with_turn line size whole shown v)
    → IsTaken story units play None line s (bounded (with_turn line size whole shown v)) whole.text
taken_free story units play line s v size whole shown keep le h =
    let w : Session = with_turn line size whole shown v in
    let result : IsTaken story units play None line s w whole.text = record {
      session = with_bound keep tt h;
      lent = sym (text_some w v.present refl) ∙ longer_text v line size whole le;
    } in
    subst (λ x. IsTaken story units play None line s x whole.text) (bound_none w keep) result

taken_within : (story : List ℕ) (units : ℕ) (play : Play) (n : ℕ) (line : List ℕ) (s : Standing) (v : Session)
    (size : ℕ) (whole : Whole) (shown : Shown)
    → v.keep ≡ Some n → v.present ≡ s.kept → s.kept + 1 ≤ n → v.present ≤ length v.texts
    → Unbounded story units play (longer line s) (with_turn line size whole shown v)
    → IsTaken story units play (Some n) line s (bounded (with_turn line size whole shown v)) whole.text
taken_within story units play n line s v size whole shown keep p room le h =
    let w : Session = with_turn line size whole shown v in
    let least : min (s.kept + 1) n ≡ s.kept + 1 = omega arith in
    let result : IsTaken story units play (Some n) line s w whole.text = record {
      session = subst
          (λ k. IsSession story units play (Some n) (record { done = s.done ++ line ∷ []; undone = []; kept = k }) w)
          (sym least) (with_bound keep (omega arith) h);
      lent = sym (text_some w v.present refl) ∙ longer_text v line size whole le;
    } in
    subst (λ x. IsTaken story units play (Some n) line s x whole.text) (bound_under w n keep (omega arith)) result

-- where the oldest turn goes, the text is that of the turn before it, or it is the one that goes
older_text : (v : Session) (present : ℕ) (text : List ℕ) → v.present ≡ present + 1 → get_or v.texts present [] ≡ text
    → latest_text (without_oldest v) ≡ text
older_text v zero text p e =
    let none : v.present - 1 ≡ 0 = omega arith in
    sym (text_none (without_oldest v) none) ∙ e
older_text v (suc k) text p e =
    let some : k + 1 ≡ v.present - 1 = omega arith in
    let at : 1 + k ≡ suc k = omega arith in
    sym (text_some (without_oldest v) k some) ∙ get_or-drop 1 v.texts k [] ∙ ap (λ n. get_or v.texts n []) at ∙ e

taken_over : (story : List ℕ) (units : ℕ) (play : Play) (n : ℕ) (line : List ℕ) (s : Standing) (v : Session) (size : ℕ)
    (whole : Whole) (shown : Shown)
    → v.keep ≡ Some n → v.present ≡ s.kept → s.kept ≡ n → v.present ≤ length v.texts
    → Unbounded story units play (longer line s) (with_turn line size whole shown v)
    → IsTaken story units play (Some n) line s (bounded (with_turn line size whole shown v)) whole.text
taken_over story units play n line s v size whole shown keep p full le h =
    let w : Session = with_turn line size whole shown v in
    let least : min (s.kept + 1) n ≡ s.kept = omega arith in
    let result : IsTaken story units play (Some n) line s (without_oldest w) whole.text = record {
      session = subst
          (λ k. IsSession story units play (Some n) (record { done = s.done ++ line ∷ []; undone = []; kept = k })
          (without_oldest w)) (sym least)
          (with_bound keep (omega arith) (session_older story units play (longer line s) w s.kept refl h));
      lent = older_text w v.present whole.text refl (longer_text v line size whole le);
    } in
    subst (λ x. IsTaken story units play (Some n) line s x whole.text) (bound_over w n keep (omega arith)) result

taken_by : (story : List ℕ) (units : ℕ) (play : Play) (most : Option ℕ) (line : List ℕ) (s : Standing) (v : Session)
    (size : ℕ) (whole : Whole) (shown : Shown) → v.keep ≡ most → IfSome most (λ n. s.kept + length s.undone ≤ n) → v.present ≡ s.kept
    → v.present ≤ length v.texts
    → Unbounded story units play (longer line s) (with_turn line size whole shown v)
    → IsTaken story units play most line s (bounded (with_turn line size whole shown v)) whole.text
taken_by story units play None line s v size whole shown keep bound p le h =
    taken_free story units play line s v size whole shown keep le h
taken_by story units play (Some n) line s v size whole shown keep bound p le h =
    let at : s.kept ≤ n = omega arith in
    elim (eq-or-lt_of_le at) [
      | inl e ↦ taken_over story units play n line s v size whole shown keep p e le h
      | inr less ↦ taken_within story units play n line s v size whole shown keep p (omega arith) le h
    ]

kept_texts : (story : List ℕ) (units : ℕ) (play : Play) (s : Standing) (v : Session) → Unbounded story units play s v
    → v.present ≤ length v.texts
kept_texts story units play s v h =
    let ws = plays_of play (all_lines s) in
    let b = length s.done - s.kept in
    let size : length v.texts ≡ length (drop 1 (drop b ws)) = ap length h.texts
    ∙ length-map (drop 1 (drop b ws)) (λ (w : Whole). w.text) in
    omega (arith, size, length-drop 1 (drop b ws), length-drop b ws, h.whole, h.reach, h.present)

last_push : (ws : List Whole) (w : Whole) → last_text (ws ++ w ∷ []) ≡ w.text
last_push [] w = refl
last_push (v ∷ []) w = refl
last_push (v ∷ u ∷ us) w = last_push (u ∷ us) w

-- the present waits, and the turn of the line goes from it
pub present_waits : (story : List ℕ) (units : ℕ) (play : Play) (s : Standing) (v : Session)
    → Unbounded story units play s v → get_or v.places v.present places.Quit ≡ places.Waiting
    → is_waiting (present_of story units play s).place ≡ true
present_waits story units play s v f waits =
    let here : (present_of story units play s).place ≡ places.Waiting =
    sym (present_place story units play s v places.Quit f) ∙ waits in
    ap is_waiting here

pub present_turn : (story : List ℕ) (units : ℕ) (play : Play) (line : List ℕ) (s : Standing) (v mid : Session)
    → ((l : List ℕ) (p : StateOfPlay) → turn_with v.loaded l units p ≡ play.turn_on l p)
    → Unbounded story units play s v → (t : Turned line v mid)
    → play.turn_on line (present_of story units play s).state ≡ Some t.whole
present_turn story units play line s v mid means f t =
    sym (means line (present_of story units play s).state)
    ∙ sym (ap (λ n. turn_with v.loaded line n (get_or v.states v.present some_whole.state)) f.fuel
    ∙ ap (turn_with v.loaded line units) (present_state story units play s v some_whole.state f))
    ∙ t.turn some_whole.state

-- a line that is taken
pub session_taken : (story : List ℕ) (units : ℕ) (play : Play) (most : Option ℕ) (line : List ℕ) (s : Standing)
    (v mid new : Session) → ((l : List ℕ) (p : StateOfPlay) → turn_with v.loaded l units p ≡ play.turn_on l p)
    → IsSession story units play most s v → get_or v.places v.present places.Quit ≡ places.Waiting
    → Turned line v mid → new ≡ bounded mid
    → (is_waiting (last_place (plays_of play s.done)) ≡ true)
    × IsSession story units play most (taken most line s) new
    × (latest_text new ≡ last_text (plays_of play (s.done ++ line ∷ [])))
session_taken story units play most line s v mid new means h waits t e =
    let f : Unbounded story units play s v = unbounded h in
    let waiting = present_waits story units play s v f waits in
    let turn = present_turn story units play line s v mid means f t in
    let long = session_longer story units play s v line t.size t.whole t.shown f waiting turn
    (omega (arith, t.small, h.static_base)) in
    let result = taken_by story units play most line s v t.size t.whole t.shown h.keep h.bound h.present
    (kept_texts story units play s v f) long in
    let is : new ≡ bounded (with_turn line t.size t.whole t.shown v) = e ∙ ap {A = Session} bounded t.is in
    let ws = plays_of play (all_lines s) in
    let n = length s.done in
    let size : length (take (suc n) ws) ≡ suc n = length-take-le (suc n) ws (omega (arith, f.whole)) in
    let text : last_text (plays_of play (s.done ++ line ∷ [])) ≡ t.whole.text =
    ap (λ ls. last_text (plays_of play ls)) (sym (append-nil (s.done ++ line ∷ [])))
    ∙ ap last_text (longer_plays story units play s v line t.whole f waiting turn)
    ∙ last_push (take (suc n) ws) t.whole in (
      ap is_waiting (place_is story units play s v f) ∙ waiting,
      subst (IsSession story units play most (taken most line s)) (sym is) result.session,
      ap {A = Session} latest_text is ∙ result.lent ∙ sym text,
    )
