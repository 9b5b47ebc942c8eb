-- What undo, redo, a line and a mark make of the lines that stand.
use Rattle.std.proofs.Common.{◌≡◌, ℕ, zero, suc, ◌+◌, ◌-◌, ◌<◌, ◌≤◌, List, [], ◌∷◌, ◌++◌, length, take, drop, refl, ap, sym, ◌∙◌}
use Rattle.std.proofs.Common.{subst, arith, append_assoc, append-nil, take-append-drop, length-append, lt-ltb, nat_lt}
use Rattle.std.proofs.Common.{if◌then◌else◌, Bool, true, false}
use Rattle.std.proofs.lemmas.List.{length-take-le}
use Rattle.std.proofs.Math.Seq.{take-append_seam}
use Rattle.session.specs.Game.{Game, IsSessionOf}
use Rattle.session.specs.Session.{Session}
use Rattle.session.specs.Sessions.{all_lines}
use Rattle.session_lines.specs.Standing.{Standing, redo_from, redo_of, taken, undo_from, undo_of}
use Rattle.play_json.specs.Lines.{Lines, back, forward, with_line, with_mark}
use Rattle.play_json.specs.Answers.{Answer}
use Rattle.play_json.specs.Said.{Leaves, Stands, held}

-- Undo

pub undone_all : (done undone : List (List ℕ)) (kept : ℕ)
    → all_lines (undo_from kept (record { done = done; undone = undone; kept = kept })) ≡ done ++ undone
undone_all done undone zero = refl
undone_all done undone (suc kept) =
    let n = length done - 1 in
    sym (append_assoc (take n done) (drop n done) undone) ∙ ap (λ x. x ++ undone) (take-append-drop n done)

pub undone_length : (done undone : List (List ℕ)) (kept : ℕ) → 0 < kept → kept ≤ length done
    → length (undo_from kept (record { done = done; undone = undone; kept = kept })).done + 1 ≡ length done
undone_length done undone zero some within = absurd (omega (arith, some))
undone_length done undone (suc kept) some within =
    omega (arith, within, length-take-le (length done - 1) done (omega arith))

pub undone_kept : (done undone : List (List ℕ)) (kept : ℕ) → 0 < kept
    → (undo_from kept (record { done = done; undone = undone; kept = kept })).kept + 1 ≡ kept
undone_kept done undone zero some = absurd (omega (arith, some))
undone_kept done undone (suc kept) some = omega arith

pub undone_none : (s : Standing) → s.kept ≤ 0 → undo_of s ≡ s
undone_none s none =
    let e : s.kept ≡ 0 = omega (arith, none) in
    ap (λ k. undo_from k s) e

-- Redo

pub redone_all : (done undone : List (List ℕ)) (kept : ℕ)
    → all_lines (redo_from undone (record { done = done; undone = undone; kept = kept })) ≡ done ++ undone
redone_all done [] kept = refl
redone_all done (line ∷ lines) kept = append_assoc done (line ∷ []) lines

pub redone_length : (done undone : List (List ℕ)) (kept : ℕ) → 0 < length undone
    → length (redo_from undone (record { done = done; undone = undone; kept = kept })).done ≡ length done + 1
redone_length done [] kept some = absurd (omega (arith, some))
redone_length done (line ∷ lines) kept some = length-append done (line ∷ [])

redone_none_by : (done undone : List (List ℕ)) (kept : ℕ) → length undone ≤ 0
    → redo_from undone (record { done = done; undone = undone; kept = kept })
    ≡ record { done = done; undone = undone; kept = kept }
redone_none_by done [] kept none = refl
redone_none_by done (line ∷ lines) kept none = absurd (omega (arith, none))

pub redone_none : (s : Standing) → length s.undone ≤ 0 → redo_of s ≡ s
redone_none s none = redone_none_by s.done s.undone s.kept none

-- The lines that are held

pub stands_back : (game : Game) (s : Standing) (v v' : Session) (l : Lines) → Stands game s (held v l) → 0 < s.kept
    → IsSessionOf game (undo_of s) v' → Stands game (undo_of s) (held v' (back l))
stands_back game s v v' l h some p =
    let at : l.at ≡ length s.done = h.at in
    let less : length (undo_of s).done + 1 ≡ length s.done =
    undone_length s.done s.undone s.kept some h.session.session.reach in
    record {
      session = p;
      all = h.all ∙ sym (undone_all s.done s.undone s.kept);
      at = omega (arith, at, less);
    }

pub stands_same : (game : Game) (s t : Standing) (v v' : Session) (l : Lines) → Stands game s (held v l) → t ≡ s
    → IsSessionOf game t v' → Stands game t (held v' l)
stands_same game s t v v' l h e p = record {
  session = p;
  all = h.all ∙ ap all_lines (sym e);
  at = h.at ∙ ap (λ (x : Standing). length x.done) (sym e);
}

pub stands_forward : (game : Game) (s : Standing) (v v' : Session) (l : Lines) → Stands game s (held v l)
    → 0 < length s.undone → IsSessionOf game (redo_of s) v' → Stands game (redo_of s) (held v' (forward l))
stands_forward game s v v' l h some p =
    let at : l.at ≡ length s.done = h.at in
    let whole : length l.all ≡ length s.done + length s.undone = ap length h.all ∙ length-append s.done s.undone in
    let longer : length (redo_of s).done ≡ length s.done + 1 = redone_length s.done s.undone s.kept some in
    let room : l.at < length l.all = omega (arith, at, whole, some) in
    let more : Lines = record { all = l.all; at = l.at + 1; marks = l.marks } in
    let is : forward l ≡ more =
    ap (λ b. if b then more else l) (lt-ltb l.at (length l.all) room) in
    subst (λ x. Stands game (redo_of s) (held v' x)) (sym is)
    (record {
      session = p;
      all = h.all ∙ sym (redone_all s.done s.undone s.kept);
      at = omega (arith, at, longer);
    })

-- those that stand are the first of all
pub done_is : (game : Game) (s : Standing) (v : Session) (l : Lines) → Stands game s (held v l)
    → take l.at l.all ≡ s.done
done_is game s v l h = ap (λ n. take n l.all) h.at ∙ ap (take (length s.done)) h.all
    ∙ take-append_seam s.done s.undone

pub stands_taken : (game : Game) (s : Standing) (line : List ℕ) (v v' : Session) (l : Lines)
    → Stands game s (held v l) → IsSessionOf game (taken game.keep line s) v'
    → Stands game (taken game.keep line s) (held v' (with_line line l))
stands_taken game s line v v' l h p =
    let at : l.at ≡ length s.done = h.at in
    record {
      session = p;
      all = ap (λ x. x ++ line ∷ []) (done_is game s v l h) ∙ sym (append-nil (s.done ++ line ∷ []));
      at = omega (arith, at, length-append s.done (line ∷ []));
    }

pub stands_marked : (game : Game) (s : Standing) (v : Session) (l : Lines) → Stands game s (held v l)
    → Stands game s (held v (with_mark l))
stands_marked game s v l h = record { session = h.session; all = h.all; at = h.at }

pub marked_is : (game : Game) (s : Standing) (v : Session) (l : Lines) → Stands game s (held v l)
    → (with_mark l).marks ≡ l.marks ++ s.done ∷ []
marked_is game s v l h = ap (λ x. l.marks ++ x ∷ []) (done_is game s v l h)

-- a step leaves the marks
marks_by : (b : Bool) (m l : Lines) → m.marks ≡ l.marks → (if b then m else l).marks ≡ l.marks
marks_by true m l e = e
marks_by false m l e = refl

pub forward_marks : (l : Lines) → (forward l).marks ≡ l.marks
forward_marks l =
    marks_by (nat_lt l.at (length l.all)) (record { all = l.all; at = l.at + 1; marks = l.marks }) l refl

-- what a turn that is done again leaves
pub leaves_redone : (game : Game) (s : Standing) (a : Answer) (v v' : Session) (l l' : Lines) → Stands game s (held v l)
    → 0 < length s.undone → IsSessionOf game (redo_of s) v' → l' ≡ forward l → a.standing ≡ redo_of s
    → a.marks ≡ l.marks → Leaves game a (held v' l')
leaves_redone game s a v v' l l' p some after e standing marks = record {
  stands = subst (λ t. Stands game t (held v' l')) (sym standing)
      (subst (λ x. Stands game (redo_of s) (held v' x)) (sym e) (stands_forward game s v v' l p some after));
  marks = ap (λ (x : Lines). x.marks) e ∙ forward_marks l ∙ sym marks;
}

-- the session is as it was
pub stands_as : (game : Game) (s : Standing) (v v' : Session) (l : Lines) → Stands game s (held v l) → v' ≡ v
    → Stands game s (held v' l)
stands_as game s v v' l p e = subst (λ x. Stands game s (held x l)) (sym e) p
