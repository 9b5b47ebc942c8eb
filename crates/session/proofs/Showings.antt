-- What was shown on the way to the states that a session reaches.
use Rattle.std.proofs.Common.{Option, None, Some, ◌≡◌, ℕ, zero, suc, ◌+◌, ◌-◌, ◌≤◌, ◌<◌, min, List, [], ◌∷◌, ◌++◌}
use Rattle.std.proofs.Common.{length, get_or, take, drop, refl, ap, sym, ◌∙◌, arith, append-nil, append_assoc}
use Rattle.std.proofs.Common.{take-append-drop, length-append, true, inl, inr}
use Rattle.std.specs.Prelude.{IfSome}
use Rattle.std.specs.List.{zip}
use Rattle.std.proofs.lemmas.List.{length-take-le, drop-drop, get_or-drop, get_or-take}
use Rattle.std.proofs.Math.Nat.{eq-or-lt_of_le}
use Rattle.zcore.specs.Turn.{StateOfPlay, Whole, is_waiting, plays_of}
use Rattle.zcore_versions.specs.Versions.{Story}
use Rattle.machine_picture.specs.Picture.{joined}
use Rattle.session.specs.Asking.{last_status, line_with}
use Rattle.session.specs.Showing.{nothing_shown, opening_shown, shown_from, shown_with, turn_shown}
use Rattle.session.specs.Shown.{Showing, Shown}
use Rattle.session.specs.Game.{Game, IsSessionOf, bytes_of, marked_on, play_on, shown_on, status_on}
use Rattle.session.specs.Modes.{loaded_in}
use Rattle.session.specs.Session.{Session}
use Rattle.session.specs.Sessions.{all_lines}
use Rattle.session.specs.Stepped.{bounded}
use Rattle.session_lines.specs.Standing.{Standing, reached, redo_from, redo_of, taken, undo_from, undo_of}
use Rattle.session.proofs.Sessions.{Unbounded, bound_none, bound_over, bound_under, done_plays, present_of, present_state}
use Rattle.session.proofs.Sessions.{same_reach, some_whole, unbounded}
use Rattle.session.proofs.Taking.{longer, longer_plays, reached_front}

-- Undo and redo

undone_by : {A : Type 0} (f : List (List ℕ) → List A) (done undone : List (List ℕ)) (kept : ℕ) → kept ≤ length done
    → reached (record { done = done; undone = undone; kept = kept }) (f (done ++ undone))
    ≡ reached (undo_from kept (record { done = done; undone = undone; kept = kept }))
    (f (all_lines (undo_from kept (record { done = done; undone = undone; kept = kept }))))
undone_by f done undone zero le = refl
undone_by f done undone (suc kept) le =
    let n = length done - 1 in
    let front : length (take n done) ≡ n = length-take-le n done (omega arith) in
    same_reach f (record { done = done; undone = undone; kept = suc kept })
    (record { done = take n done; undone = drop n done ++ undone; kept = kept })
    (sym (append_assoc (take n done) (drop n done) undone) ∙ ap (λ x. x ++ undone) (take-append-drop n done))
    (omega arith)

pub undone_reach : {A : Type 0} (f : List (List ℕ) → List A) (s : Standing) → s.kept ≤ length s.done
    → reached s (f (all_lines s)) ≡ reached (undo_of s) (f (all_lines (undo_of s)))
undone_reach f s le = undone_by f s.done s.undone s.kept le

redone_by : {A : Type 0} (f : List (List ℕ) → List A) (done undone : List (List ℕ)) (kept : ℕ) → kept ≤ length done
    → reached (record { done = done; undone = undone; kept = kept }) (f (done ++ undone))
    ≡ reached (redo_from undone (record { done = done; undone = undone; kept = kept }))
    (f (all_lines (redo_from undone (record { done = done; undone = undone; kept = kept }))))
redone_by f done [] kept le = refl
redone_by f done (line ∷ lines) kept le =
    let more = length-append done (line ∷ []) in
    same_reach f (record { done = done; undone = line ∷ lines; kept = kept })
    (record { done = done ++ line ∷ []; undone = lines; kept = kept + 1 }) (append_assoc done (line ∷ []) lines)
    (omega arith)

pub redone_reach : {A : Type 0} (f : List (List ℕ) → List A) (s : Standing) → s.kept ≤ length s.done
    → reached s (f (all_lines s)) ≡ reached (redo_of s) (f (all_lines (redo_of s)))
redone_reach f s le = redone_by f s.done s.undone s.kept le

-- Whole states beside lines

-- as much was shown as there are lines, and once before them
length-shown : (loaded : Option Story) (showing : Showing) (fuel : ℕ) (shown : Shown) (ws : List Whole)
    (lines : List (List ℕ)) → length lines ≤ length ws
    → length (shown_from loaded showing fuel shown (zip ws lines)) ≡ suc (length lines)
length-shown loaded showing fuel shown [] [] le = refl
length-shown loaded showing fuel shown [] (line ∷ lines) le = absurd (omega arith)
length-shown loaded showing fuel shown (w ∷ ws) [] le = refl
length-shown loaded showing fuel shown (w ∷ ws) (line ∷ lines) le = ap suc
    (length-shown loaded showing fuel (turn_shown loaded showing line fuel shown w.state) ws lines
    (omega arith))

-- what is shown of a line more
abbrev line_shown : Option Story → Showing → ℕ → Shown → List ℕ → Whole → Shown
line_shown loaded showing fuel shown line w = turn_shown loaded showing line fuel shown w.state

shown_longer : (loaded : Option Story) (showing : Showing) (fuel : ℕ) (shown : Shown) (ws : List Whole)
    (done undone : List (List ℕ)) (line : List ℕ) (whole d : Whole) → length done < length ws
    → shown_from loaded showing fuel shown (zip (take (suc (length done)) ws ++ whole ∷ []) (done ++ line ∷ []))
    ≡ take (suc (length done)) (shown_from loaded showing fuel shown (zip ws (done ++ undone)))
    ++ line_shown loaded showing fuel
    (get_or (shown_from loaded showing fuel shown (zip ws (done ++ undone))) (length done) nothing_shown) line
    (get_or ws (length done) d) ∷ []
shown_longer loaded showing fuel shown [] done undone line whole d lt = absurd (omega arith)
shown_longer loaded showing fuel shown (w ∷ ws) [] [] line whole d lt = refl
shown_longer loaded showing fuel shown (w ∷ ws) [] (l ∷ undone) line whole d lt = refl
shown_longer loaded showing fuel shown (w ∷ ws) (l ∷ done) undone line whole d lt = ap (λ t. shown ∷ t)
    (shown_longer loaded showing fuel (line_shown loaded showing fuel shown l w) ws done undone line whole d
    (omega arith))

shown_front : (loaded : Option Story) (showing : Showing) (fuel : ℕ) (shown : Shown) (ws : List Whole)
    (done undone : List (List ℕ)) → length done < length ws
    → shown_from loaded showing fuel shown (zip (take (suc (length done)) ws) done)
    ≡ take (suc (length done)) (shown_from loaded showing fuel shown (zip ws (done ++ undone)))
shown_front loaded showing fuel shown [] done undone lt = absurd (omega arith)
shown_front loaded showing fuel shown (w ∷ ws) [] [] lt = refl
shown_front loaded showing fuel shown (w ∷ ws) [] (l ∷ undone) lt = refl
shown_front loaded showing fuel shown (w ∷ ws) (l ∷ done) undone lt = ap (λ t. shown ∷ t)
    (shown_front loaded showing fuel (line_shown loaded showing fuel shown l w) ws done undone (omega arith))

-- A line that is taken

-- what was shown on the way to the present is what its lines drew among all that stand
shown_present : (game : Game) (s : Standing) (v : Session) → Unbounded (bytes_of game) game.fuel (play_on game) s v
    → v.shown ≡ reached s (shown_on game (all_lines s))
    → get_or v.shown v.present nothing_shown ≡ get_or (shown_on game (all_lines s)) (length s.done) nothing_shown
shown_present game s v h is =
    let ds : List Shown = shown_on game (all_lines s) in
    let b = length s.done - s.kept in
    let reach = h.reach in
    let at : b + s.kept ≡ length s.done = omega arith in
    ap (λ k. get_or v.shown k nothing_shown) h.present ∙ ap (λ xs. get_or xs s.kept nothing_shown) is ∙ get_or-drop b ds s.kept nothing_shown
    ∙ ap (λ k. get_or ds k nothing_shown) at

pub shows_longer : (game : Game) (line : List ℕ) (s : Standing) (v : Session) (whole : Whole) (shown : Shown)
    → Unbounded (bytes_of game) game.fuel (play_on game) s v
    → is_waiting (present_of (bytes_of game) game.fuel (play_on game) s).place ≡ true
    → (play_on game).turn_on line (present_of (bytes_of game) game.fuel (play_on game) s).state ≡ Some whole
    → shown ≡ turn_shown (loaded_in game.mode game.story) game.showing line game.fuel
    (get_or v.shown v.present nothing_shown) (present_of (bytes_of game) game.fuel (play_on game) s).state
    → v.shown ≡ reached s (shown_on game (all_lines s))
    → take (v.present + 1) v.shown ++ shown ∷ []
    ≡ reached (longer line s) (shown_on game (all_lines (longer line s)))
unfolding present_of
shows_longer game line s v whole shown h waits turn shows is =
    let loaded = loaded_in game.mode game.story in
    let showing = game.showing in
    let first = opening_shown loaded showing (bytes_of game) game.fuel in
    let ws = plays_of (play_on game) (all_lines s) in
    let ds : List Shown = shown_on game (all_lines s) in
    let n = length s.done in
    let b = n - s.kept in
    let reach = h.reach in
    let split : b + (s.kept + 1) ≡ suc n = omega arith in
    let lines : length (all_lines s) ≡ n + length s.undone = length-append s.done s.undone in
    let many : length ds ≡ suc (length (all_lines s)) =
    length-shown loaded showing game.fuel first ws (all_lines s) (omega (arith, h.whole)) in
    let back : length (s.done ++ line ∷ []) - (s.kept + 1) ≡ b = omega (arith, length-append s.done (line ∷ [])) in
    let all : shown_on game (all_lines (longer line s)) ≡ take (suc n) ds ++ shown ∷ [] =
    ap (λ xs. shown_with loaded showing (bytes_of game) game.fuel xs (all_lines (longer line s)))
    (longer_plays (bytes_of game) game.fuel (play_on game) s v line whole h waits turn)
    ∙ ap (shown_with loaded showing (bytes_of game) game.fuel (take (suc n) ws ++ whole ∷ []))
    (append-nil (s.done ++ line ∷ []))
    ∙ shown_longer loaded showing game.fuel first ws s.done s.undone line whole some_whole (omega (arith, h.whole))
    ∙ ap (λ d. take (suc n) ds ++ line_shown loaded showing game.fuel d line (get_or ws n some_whole) ∷ [])
    (sym (shown_present game s v h is))
    ∙ ap (λ d. take (suc n) ds ++ d ∷ []) (sym shows) in
    ap (λ xs. take (v.present + 1) xs ++ shown ∷ []) is
    ∙ ap (λ k. take (k + 1) (drop b ds) ++ shown ∷ []) h.present
    ∙ sym (reached_front ds b s.kept n shown split (omega arith))
    ∙ ap (drop b) (sym all)
    ∙ ap (λ k. drop k (shown_on game (all_lines (longer line s)))) (sym back)

-- the oldest may go then
over_shown : (n : ℕ) (line : List ℕ) (s : Standing) (w : Session) (all : List Shown) → w.keep ≡ Some n
    → w.present ≡ s.kept + 1 → s.kept ≡ n → s.kept ≤ length s.done → w.shown ≡ reached (longer line s) all
    → (bounded w).shown ≡ reached (taken (Some n) line s) all
over_shown n line s w all keep present full reach is =
    let more : length (s.done ++ line ∷ []) ≡ length s.done + 1 = length-append s.done (line ∷ []) in
    let least : min (s.kept + 1) n ≡ s.kept = omega arith in
    let back : length (s.done ++ line ∷ []) - (s.kept + 1) + 1 ≡ length (s.done ++ line ∷ []) - min (s.kept + 1) n =
    omega arith in
    ap (λ (x : Session). x.shown) (sym (bound_over w n keep (omega arith))) ∙ ap (drop 1) is
    ∙ drop-drop 1 (length (s.done ++ line ∷ []) - (s.kept + 1)) all ∙ ap (λ k. drop k all) back

within_shown : (n : ℕ) (line : List ℕ) (s : Standing) (w : Session) (all : List Shown) → w.keep ≡ Some n
    → w.present ≡ s.kept + 1 → s.kept + 1 ≤ n → w.shown ≡ reached (longer line s) all
    → (bounded w).shown ≡ reached (taken (Some n) line s) all
within_shown n line s w all keep present room is =
    let least : min (s.kept + 1) n ≡ s.kept + 1 = omega arith in
    ap (λ (x : Session). x.shown) (sym (bound_under w n keep (omega arith))) ∙ is
    ∙ ap (λ k. drop (length (s.done ++ line ∷ []) - k) all) (sym least)

pub bounded_shown : (most : Option ℕ) (line : List ℕ) (s : Standing) (w : Session) (all : List Shown)
    → w.keep ≡ most → w.present ≡ s.kept + 1 → IfSome most (λ n. s.kept + length s.undone ≤ n) → s.kept ≤ length s.done
    → w.shown ≡ reached (longer line s) all → (bounded w).shown ≡ reached (taken most line s) all
bounded_shown None line s w all keep present bound reach is =
    ap (λ (x : Session). x.shown) (sym (bound_none w keep)) ∙ is
bounded_shown (Some n) line s w all keep present bound reach is =
    let at : s.kept ≤ n = omega arith in
    elim (eq-or-lt_of_le at) [
      | inl e ↦ over_shown n line s w all keep present e reach is
      | inr less ↦ within_shown n line s w all keep present (omega arith) is
    ]

-- The status text of the present

last_status_at : (loaded : Option Story) (ws : List Whole) (ds : List Shown) (k : ℕ) (d : Whole) → k < length ws
    → last_status loaded (take (suc k) ws) ds
    ≡ joined (line_with loaded (get_or ws k d).state) (get_or ds k nothing_shown).drawing
last_status_at loaded [] ds k d lt = absurd (omega arith)
last_status_at loaded (w ∷ ws) ds zero d lt = refl
last_status_at loaded (w ∷ []) ds (suc k) d lt = absurd (omega arith)
last_status_at loaded (w ∷ v ∷ ws) ds (suc k) d lt =
    let at : 1 + k ≡ suc k = omega arith in
    last_status_at loaded (v ∷ ws) (drop 1 ds) k d (omega arith)
    ∙ ap (λ (x : Shown). joined (line_with loaded (get_or (v ∷ ws) k d).state) x.drawing)
    (get_or-drop 1 ds k nothing_shown ∙ ap (λ n. get_or ds n nothing_shown) at)

-- what was shown on the way to the present, as the lines done tell it
shown_at_present : (game : Game) (s : Standing) (v : Session) → Unbounded (bytes_of game) game.fuel (play_on game) s v
    → v.shown ≡ reached s (shown_on game (all_lines s))
    → get_or v.shown v.present nothing_shown ≡ get_or (shown_on game s.done) (length s.done) nothing_shown
shown_at_present game s v h is =
    let loaded = loaded_in game.mode game.story in
    let showing = game.showing in
    let ws = plays_of (play_on game) (all_lines s) in
    let ds : List Shown = shown_on game (all_lines s) in
    let n = length s.done in
    let front : shown_on game s.done ≡ take (suc n) ds =
    ap (λ xs. shown_with loaded showing (bytes_of game) game.fuel xs s.done)
    (done_plays (bytes_of game) game.fuel (play_on game) s v h)
    ∙ shown_front loaded showing game.fuel (opening_shown loaded showing (bytes_of game) game.fuel) ws s.done s.undone
    (omega (arith, h.whole)) in
    shown_present game s v h is ∙ sym (get_or-take (suc n) ds n nothing_shown (omega arith)) ∙ ap (λ xs. get_or xs n nothing_shown) (sym front)

pub status_text : (game : Game) (s : Standing) (v : Session) (e : StateOfPlay) → IsSessionOf game s v
    → joined (line_with (loaded_in game.mode game.story) (get_or v.states v.present e))
    (get_or v.shown v.present nothing_shown).drawing
    ≡ status_on game s.done
unfolding present_of
status_text game s v e h =
    let loaded = loaded_in game.mode game.story in
    let f : Unbounded (bytes_of game) game.fuel (play_on game) s v = unbounded h.session in
    let ws = plays_of (play_on game) (all_lines s) in
    let n = length s.done in
    ap (λ p. joined (line_with loaded p) (get_or v.shown v.present nothing_shown).drawing)
    (present_state (bytes_of game) game.fuel (play_on game) s v e f)
    ∙ ap (λ (x : Shown). joined (line_with loaded (get_or ws n some_whole).state) x.drawing)
    (shown_at_present game s v f h.shown)
    ∙ sym (last_status_at loaded ws (shown_on game s.done) n some_whole (omega (arith, f.whole)))
    ∙ ap (λ xs. last_status loaded xs (shown_on game s.done))
    (sym (done_plays (bytes_of game) game.fuel (play_on game) s v f))

-- what the story has printed last, with marks
pub marked_text : (game : Game) (s : Standing) (v : Session) → IsSessionOf game s v
    → (get_or v.shown v.present nothing_shown).marked ≡ marked_on game s.done
marked_text game s v h =
    ap (λ (x : Shown). x.marked) (shown_at_present game s v (unbounded h.session) h.shown)
