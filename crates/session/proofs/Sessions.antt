-- What undo, redo, a line taken and a bound make of a session.
use Rattle.std.proofs.Common.{Option, None, Some, ◌≡◌, ℕ, zero, suc, ◌+◌, ◌-◌, ◌≤◌, ◌<◌, true, false, List, [], ◌∷◌}
use Rattle.std.proofs.Common.{◌++◌, length, get_or, take, drop, map, refl, ap, sym, ◌∙◌, subst, arith, append_assoc}
use Rattle.std.proofs.Common.{take-append-drop, length-append, add-one, if◌then◌else◌, lt-ltb, le-ltb}
use Rattle.std.specs.Prelude.{IfSome, IsTrue, ◌↔◌}
use Rattle.std.specs.List.{All}
use Rattle.std.proofs.lemmas.List.{length-take-le, length-drop, get_or-map, get_or-drop, drop-drop}
use Rattle.zcore.specs.Header.{static_base_of}
use Rattle.zcore.specs.declared.place.Place.{Place}
use Rattle.zcore.specs.declared.place.Place.TheVariants as places
use Rattle.zcore.specs.Turn.{StateOfPlay, Whole, Play, plays_of, last_text, last_place, at_rest}
use Rattle.session_lines.specs.Standing.{Standing, undo_of, undo_from, redo_of, redo_from, reached}
use Rattle.session.specs.Session.{Session, largest_record}
use Rattle.session.specs.Stepped.{stepped_back, stepped_forward, without_oldest, bounded}
use Rattle.session.specs.Stepped.{bounded_by, latest_text, text_before, latest_size, size_before}
use Rattle.session.specs.Sessions.{all_lines, IsSession}
use Rattle.zcore_versions.specs.Versions.{Story}
use Rattle.session.specs.Files.{file_with, last_file}
use Rattle.session.specs.Naming.{asked_with, last_asked}
use Rattle.session.specs.Scripts.{is_on_with, last_is_on, last_script, turn_script}
use Rattle.session.proofs.Plays.{plays_front, last_text_at, last_asked_at, last_file_at, last_is_on_at, last_place_at}
use Rattle.session.proofs.Plays.{last_script_at}

-- any whole state
abbrev pub some_whole : Whole
some_whole =
    record {
      state = record { memory = []; frames = []; pending = None; program_counter = 0; standard_state = at_rest; kept = [] };
      place = places.Quit;
      text = [];
    }

-- the entry of the lines done
unfoldable pub present_of : List ℕ → ℕ → Play → Standing → Whole
present_of story units play s = get_or (plays_of play (all_lines s)) (length s.done) some_whole

-- a session, but for the bound
pub record Unbounded (story : List ℕ) (units : ℕ) (play : Play) (s : Standing) (v : Session) : Type 0 where
  pub whole : length (plays_of play (all_lines s)) ≡ length s.done + length s.undone + 1
  pub reach : s.kept ≤ length s.done
  pub fuel : v.fuel ≡ units
  pub static_base : v.static_base ≡ static_base_of story
  pub opening : v.opening ≡ last_text (plays_of play [])
  pub states : v.states ≡ map (λ (w : Whole). w.state) (reached s (plays_of play (all_lines s)))
  pub places : v.places ≡ map (λ (w : Whole). w.place) (reached s (plays_of play (all_lines s)))
  pub texts : v.texts ≡ map (λ (w : Whole). w.text) (drop 1 (reached s (plays_of play (all_lines s))))
  pub lines : v.lines ≡ reached s (all_lines s)
  pub records : length v.sizes ≡ s.kept + length s.undone
  pub small : All (λ size. size ≤ largest_record (static_base_of story)) v.sizes
  pub present : v.present ≡ s.kept

pub unbounded : {story : List ℕ} {units : ℕ} {play : Play} {most : Option ℕ} {s : Standing} {v : Session}
    → IsSession story units play most s v → Unbounded story units play s v
unbounded h = record {
  whole = h.whole;
  reach = h.reach;
  fuel = h.fuel;
  static_base = h.static_base;
  opening = h.opening;
  states = h.states;
  places = h.places;
  texts = h.texts;
  lines = h.lines;
  records = h.records;
  small = h.small;
  present = h.present;
}

pub with_bound : {story : List ℕ} {units : ℕ} {play : Play} {most : Option ℕ} {s : Standing} {v : Session}
    → v.keep ≡ most → IfSome most (λ n. s.kept + length s.undone ≤ n) → Unbounded story units play s v
    → IsSession story units play most s v
with_bound keep bound h = record {
  whole = h.whole;
  reach = h.reach;
  bound = bound;
  keep = keep;
  fuel = h.fuel;
  static_base = h.static_base;
  opening = h.opening;
  states = h.states;
  places = h.places;
  texts = h.texts;
  lines = h.lines;
  records = h.records;
  small = h.small;
  present = h.present;
}

-- What the present is

reached_at : {A B : Type 0} (f : A → B) (ws : List A) (b kept n : ℕ) (d : A) (e : B) → b + kept ≡ n → n < length ws
    → get_or (map f (drop b ws)) kept e ≡ f (get_or ws n d)
reached_at f ws b kept n d e is lt =
    get_or-map f (drop b ws) kept d e (omega (arith, length-drop b ws))
    ∙ ap f (get_or-drop b ws kept d ∙ ap (λ k. get_or ws k d) is)

pub present_state : (story : List ℕ) (units : ℕ) (play : Play) (s : Standing) (v : Session) (e : StateOfPlay)
    → Unbounded story units play s v → get_or v.states v.present e ≡ (present_of story units play s).state
unfolding present_of
present_state story units play s v e h =
    ap (λ k. get_or v.states k e) h.present ∙ ap (λ xs. get_or xs s.kept e) h.states
    ∙ reached_at (λ (w : Whole). w.state) (plays_of play (all_lines s)) (length s.done - s.kept) s.kept
    (length s.done) some_whole e (omega (arith, h.reach)) (omega (arith, h.whole))

pub present_place : (story : List ℕ) (units : ℕ) (play : Play) (s : Standing) (v : Session) (e : Place)
    → Unbounded story units play s v
    → get_or v.places v.present e ≡ (present_of story units play s).place
unfolding present_of
present_place story units play s v e h =
    ap (λ k. get_or v.places k e) h.present ∙ ap (λ xs. get_or xs s.kept e) h.places
    ∙ reached_at (λ (w : Whole). w.place) (plays_of play (all_lines s)) (length s.done - s.kept) s.kept
    (length s.done) some_whole e (omega (arith, h.reach)) (omega (arith, h.whole))

pub done_plays : (story : List ℕ) (units : ℕ) (play : Play) (s : Standing) (v : Session)
    → Unbounded story units play s v
    → plays_of play s.done ≡ take (suc (length s.done)) (plays_of play (all_lines s))
done_plays story units play s v h = plays_front play s.done s.undone h.whole
    ∙ ap (λ k. take k (plays_of play (all_lines s))) (add-one (length s.done))

pub place_is : (story : List ℕ) (units : ℕ) (play : Play) (s : Standing) (v : Session) → Unbounded story units play s v
    → last_place (plays_of play s.done) ≡ (present_of story units play s).place
unfolding present_of
place_is story units play s v h = ap last_place (done_plays story units play s v h)
    ∙ last_place_at (plays_of play (all_lines s)) (length s.done) some_whole (omega (arith, h.whole))

pub text_is : (story : List ℕ) (units : ℕ) (play : Play) (s : Standing) (v : Session) → Unbounded story units play s v
    → last_text (plays_of play s.done) ≡ (present_of story units play s).text
unfolding present_of
text_is story units play s v h = ap last_text (done_plays story units play s v h)
    ∙ last_text_at (plays_of play (all_lines s)) (length s.done) some_whole (omega (arith, h.whole))

-- the place that a session answers
pub session_place : (story : List ℕ) (units : ℕ) (play : Play) (most : Option ℕ) (s : Standing) (v : Session)
    (p : Place) → p ≡ get_or v.places v.present places.Quit → IsSession story units play most s v
    → p ≡ last_place (plays_of play s.done)
session_place story units play most s v p e h = e ∙ present_place story units play s v places.Quit (unbounded h)
    ∙ sym (place_is story units play s v (unbounded h))

pub session_asked : (loaded : Option Story) (story : List ℕ) (units : ℕ) (play : Play) (most : Option ℕ) (s : Standing)
    (v : Session) (e : StateOfPlay) → IsSession story units play most s v
    → asked_with loaded (get_or v.states v.present e) ≡ last_asked loaded (plays_of play s.done)
unfolding present_of
session_asked loaded story units play most s v e h =
    ap (asked_with loaded) (present_state story units play s v e (unbounded h))
    ∙ sym (last_asked_at loaded (plays_of play (all_lines s)) (length s.done) some_whole (omega (arith, h.whole)))
    ∙ sym (ap (last_asked loaded) (done_plays story units play s v (unbounded h)))

pub session_file : (loaded : Option Story) (story : List ℕ) (units : ℕ) (play : Play) (most : Option ℕ) (s : Standing)
    (v : Session) (e : StateOfPlay) → IsSession story units play most s v
    → file_with loaded (get_or v.states v.present e) (get_or v.states v.present e).pending
    ≡ last_file loaded (plays_of play s.done)
unfolding present_of
session_file loaded story units play most s v e h =
    ap (λ (p : StateOfPlay). file_with loaded p p.pending) (present_state story units play s v e (unbounded h))
    ∙ sym (last_file_at loaded (plays_of play (all_lines s)) (length s.done) some_whole (omega (arith, h.whole)))
    ∙ sym (ap (last_file loaded) (done_plays story units play s v (unbounded h)))

pub session_is_on : (loaded : Option Story) (story : List ℕ) (units : ℕ) (play : Play) (most : Option ℕ) (s : Standing)
    (v : Session) (e : StateOfPlay) → IsSession story units play most s v
    → is_on_with loaded (get_or v.states v.present e) ≡ last_is_on loaded (plays_of play s.done)
unfolding present_of
session_is_on loaded story units play most s v e h =
    ap (is_on_with loaded) (present_state story units play s v e (unbounded h))
    ∙ sym (last_is_on_at loaded (plays_of play (all_lines s)) (length s.done) some_whole (omega (arith, h.whole)))
    ∙ sym (ap (last_is_on loaded) (done_plays story units play s v (unbounded h)))

pub session_script : (loaded : Option Story) (line story : List ℕ) (units fuel : ℕ) (play : Play) (most : Option ℕ)
    (s : Standing) (v : Session) (e : StateOfPlay) → IsSession story units play most s v
    → turn_script loaded line fuel (get_or v.states v.present e) ≡ last_script loaded fuel line (plays_of play s.done)
unfolding present_of
session_script loaded line story units fuel play most s v e h =
    ap (turn_script loaded line fuel) (present_state story units play s v e (unbounded h))
    ∙ sym (last_script_at loaded fuel line (plays_of play (all_lines s)) (length s.done) some_whole (omega (arith, h.whole)))
    ∙ sym (ap (last_script loaded fuel line) (done_plays story units play s v (unbounded h)))

-- the text of the latest turn that is done
pub session_text : (story : List ℕ) (units : ℕ) (play : Play) (s : Standing) (v : Session) (k : ℕ) → k + 1 ≡ v.present
    → Unbounded story units play s v → get_or v.texts k [] ≡ last_text (plays_of play s.done)
unfolding present_of
session_text story units play s v k e h =
    let ws = plays_of play (all_lines s) in
    let b = length s.done - s.kept in
    let twice : drop 1 (drop b ws) ≡ drop (b + 1) ws = drop-drop 1 b ws in
    ap (λ xs. get_or xs k []) (h.texts ∙ ap (map (λ (w : Whole). w.text)) twice)
    ∙ reached_at (λ (w : Whole). w.text) ws (b + 1) k (length s.done) some_whole []
    (omega (arith, h.reach, h.present)) (omega (arith, h.whole))
    ∙ sym (text_is story units play s v h)

-- how many turns are kept or undone
pub session_turns : (story : List ℕ) (units : ℕ) (play : Play) (most : Option ℕ) (s : Standing) (v : Session)
    → IsSession story units play most s v → length v.lines ≡ s.kept + length s.undone
session_turns story units play most s v h =
    ap length h.lines
    ∙ omega (arith, length-drop (length s.done - s.kept) (all_lines s), length-append s.done s.undone, h.reach)

-- Undo and redo

pub back_none : (v : Session) → v.present ≡ 0 → v ≡ stepped_back v
back_none v e = ap {A = ℕ} (λ k. record v { present = k }) (omega arith)

pub forward_none : (v : Session) → length v.lines ≤ v.present → v ≡ stepped_forward v
forward_none v le = sym
    (ap (λ b. if b then record v { present = v.present + 1 } else v) (le-ltb v.present (length v.lines) le))

pub forward_some : (v : Session) → v.present < length v.lines
    → record v { present = v.present + 1 } ≡ stepped_forward v
forward_some v lt = sym
    (ap (λ b. if b then record v { present = v.present + 1 } else v) (lt-ltb v.present (length v.lines) lt))

-- what is reached of a list that follows from all lines stays
pub same_reach : {A : Type 0} (f : List (List ℕ) → List A) (s t : Standing) → all_lines t ≡ all_lines s
    → length t.done - t.kept ≡ length s.done - s.kept → reached s (f (all_lines s)) ≡ reached t (f (all_lines t))
same_reach f s t lines back = ap (λ n. drop n (f (all_lines s))) (sym back)
    ∙ ap (λ ls. drop (length t.done - t.kept) (f ls)) (sym lines)

moved : (story : List ℕ) (units : ℕ) (play : Play) (most : Option ℕ) (s t : Standing) (v : Session) (present : ℕ)
    → all_lines t ≡ all_lines s → length t.done - t.kept ≡ length s.done - s.kept
    → length t.done + length t.undone ≡ length s.done + length s.undone → t.kept ≤ length t.done
    → t.kept + length t.undone ≡ s.kept + length s.undone → present ≡ t.kept
    → IsSession story units play most s v → IsSession story units play most t (record v { present = present })
moved story units play most s t v present lines back long reach bound p h =
    record {
      whole = ap (λ ls. length (plays_of play ls)) lines ∙ h.whole ∙ ap (λ n. n + 1) (sym long);
      reach = reach;
      bound = subst (λ k. IfSome most (λ n. k ≤ n)) (sym bound) h.bound;
      keep = h.keep;
      fuel = h.fuel;
      static_base = h.static_base;
      opening = h.opening;
      states = h.states ∙ ap (map (λ (w : Whole). w.state)) (same_reach (plays_of play) s t lines back);
      places = h.places ∙ ap (map (λ (w : Whole). w.place)) (same_reach (plays_of play) s t lines back);
      texts = h.texts ∙ ap (λ ws. map (λ (w : Whole). w.text) (drop 1 ws))
          (same_reach (plays_of play) s t lines back);
      lines = h.lines ∙ same_reach (λ ls. ls) s t lines back;
      records = h.records ∙ sym bound;
      small = h.small;
      present = p;
    }

undo_by : (story : List ℕ) (units : ℕ) (play : Play) (most : Option ℕ) (done undone : List (List ℕ)) (kept : ℕ)
    (v : Session)
    → IsSession story units play most (record { done = done; undone = undone; kept = kept }) v
    → IsSession story units play most (undo_from kept (record { done = done; undone = undone; kept = kept }))
    (stepped_back v)
undo_by story units play most done undone zero v h = subst
    (IsSession story units play most (record { done = done; undone = undone; kept = 0 })) (back_none v h.present) h
undo_by story units play most done undone (suc kept) v h =
    let n = length done - 1 in
    let front : length (take n done) ≡ n = length-take-le n done (omega arith) in
    let rest : length (drop n done) ≡ length done - n = length-drop n done in
    let both : length (drop n done ++ undone) ≡ length (drop n done) + length undone = length-append (drop n done)
    undone in
    let some = h.reach in
    moved story units play most (record { done = done; undone = undone; kept = suc kept })
    (record { done = take n done; undone = drop n done ++ undone; kept = kept }) v (v.present - 1)
    (sym (append_assoc (take n done) (drop n done) undone) ∙ ap (λ x. x ++ undone) (take-append-drop n done))
    (omega arith) (omega arith) (omega arith) (omega arith) (omega (arith, h.present)) h

pub session_undo : (story : List ℕ) (units : ℕ) (play : Play) (most : Option ℕ) (s : Standing) (v : Session)
    → IsSession story units play most s v → IsSession story units play most (undo_of s) (stepped_back v)
session_undo story units play most s v h = undo_by story units play most s.done s.undone s.kept v h

redo_by : (story : List ℕ) (units : ℕ) (play : Play) (most : Option ℕ) (done undone : List (List ℕ)) (kept : ℕ)
    (v : Session)
    → IsSession story units play most (record { done = done; undone = undone; kept = kept }) v
    → IsSession story units play most (redo_from undone (record { done = done; undone = undone; kept = kept }))
    (stepped_forward v)
redo_by story units play most done [] kept v h =
    let turns = session_turns story units play most (record { done = done; undone = []; kept = kept }) v h in
    subst (IsSession story units play most (record { done = done; undone = []; kept = kept }))
    (forward_none v (omega (arith, h.present))) h
redo_by story units play most done (line ∷ lines) kept v h =
    let more = length-append done (line ∷ []) in
    let some = h.reach in
    let turns = session_turns story units play most (record { done = done; undone = line ∷ lines; kept = kept }) v h in
    subst (IsSession story units play most (record { done = done ++ line ∷ []; undone = lines; kept = kept + 1 }))
    (forward_some v (omega (arith, h.present)))
    (moved story units play most (record { done = done; undone = line ∷ lines; kept = kept })
    (record { done = done ++ line ∷ []; undone = lines; kept = kept + 1 }) v (v.present + 1)
    (append_assoc done (line ∷ []) lines)
    (omega arith) (omega arith) (omega arith) (omega arith) (omega (arith, h.present)) h)

pub session_redo : (story : List ℕ) (units : ℕ) (play : Play) (most : Option ℕ) (s : Standing) (v : Session)
    → IsSession story units play most s v → IsSession story units play most (redo_of s) (stepped_forward v)
session_redo story units play most s v h = redo_by story units play most s.done s.undone s.kept v h

-- Answers that say whether there is a turn

pub found_none : (count : ℕ) → count ≡ 0 → IsTrue false ↔ (0 < count)
found_none count e = ((λ t. let no_turn : ⊥ = cc in absurd no_turn), (λ lt. absurd (omega arith)))

pub found_some : (count : ℕ) → 0 < count → IsTrue true ↔ (0 < count)
found_some count lt = ((λ t. lt), (λ l. refl))

-- the turns of a session are those kept and those undone
pub session_undone : (story : List ℕ) (units : ℕ) (play : Play) (most : Option ℕ) (s : Standing) (v : Session)
    (done count : ℕ) → done ≡ v.present → count ≡ length v.lines → IsSession story units play most s v
    → (done ≡ s.kept) × (count ≡ s.kept + length s.undone)
session_undone story units play most s v done count d e h =
    (d ∙ h.present, e ∙ session_turns story units play most s v h)

-- the text of a turn that is done again
pub session_again : (story : List ℕ) (units : ℕ) (play : Play) (most : Option ℕ) (s : Standing) (v : Session) (k : ℕ)
    (text : List ℕ) → k ≡ v.present → 0 < length s.undone → text ≡ get_or v.texts k []
    → IsSession story units play most s v
    → text ≡ last_text (plays_of play (redo_of s).done)
session_again story units play most s v k text e some is h =
    let turns = session_turns story units play most s v h in
    let more = subst (IsSession story units play most (redo_of s)) (sym (forward_some v (omega (arith, h.present))))
    (session_redo story units play most s v h) in
    is ∙ session_text story units play (redo_of s) (record v { present = v.present + 1 }) k (ap (λ n. n + 1) e)
    (unbounded more)

pub size_none : (v : Session) → v.present ≡ 0 → 0 ≡ latest_size v
size_none v e = sym (ap (λ n. size_before n v) e)

pub size_some : (v : Session) (k : ℕ) → k + 1 ≡ v.present → get_or v.sizes k 0 ≡ latest_size v
size_some v k e = let f : suc k ≡ v.present = omega arith in ap (λ n. size_before n v) f

pub text_none : (v : Session) → v.present ≡ 0 → v.given_up ≡ latest_text v
text_none v e = sym (ap (λ n. text_before n v) e)

pub text_some : (v : Session) (k : ℕ) → k + 1 ≡ v.present → get_or v.texts k [] ≡ latest_text v
text_some v k e = let f : suc k ≡ v.present = omega arith in ap (λ n. text_before n v) f

-- The bound

pub bound_none : (v : Session) → v.keep ≡ None → v ≡ bounded v
bound_none v e = sym (ap (λ k. bounded_by k v) e)

pub bound_over : (v : Session) (most : ℕ) → v.keep ≡ Some most → most < v.present → without_oldest v ≡ bounded v
bound_over v most e lt = sym
    (ap (λ k. bounded_by k v) e ∙ ap (λ b. if b then without_oldest v else v) (lt-ltb most v.present lt))

pub bound_under : (v : Session) (most : ℕ) → v.keep ≡ Some most → v.present ≤ most → v ≡ bounded v
bound_under v most e le = sym
    (ap (λ k. bounded_by k v) e ∙ ap (λ b. if b then without_oldest v else v) (le-ltb most v.present le))
