-- The way to the lines of a mark, step by step.
use Rattle.std.proofs.Common.{◌≡◌, ℕ, zero, suc, ◌+◌, ◌-◌, ◌<◌, ◌≤◌, List, [], ◌∷◌, ◌++◌, length, get_or, take, drop, map, refl, ap, sym, ◌∙◌}
use Rattle.std.proofs.Common.{subst, arith, append_assoc, append-nil, take-append-drop, length-append, Option, None, Some, Result, Ok, Err}
use Rattle.std.proofs.Common.{Bool, true, false, if◌then◌else◌}
use Rattle.std.specs.Str.{bytes_eq}
use Rattle.std.proofs.Math.Seq.{take-append_seam}
use Rattle.std.proofs.lemmas.List.{take_all}
use Rattle.std.proofs.lemmas.Slice.Eq.{bytes_eq-Decides}
use Rattle.session.specs.Game.{Game, IsSessionOf}
use Rattle.session.specs.Session.{Session}
use Rattle.session.specs.Sessions.{all_lines}
use Rattle.session_lines.specs.Standing.{Standing, redo_of, taken, undo_of}
use Rattle.play_json.specs.Answers.{Answer, MayGo, MayGoTo, common, gone, none, saying, short}
use Rattle.play_json.specs.Going.{Holds, IsWayTo, PlaysLine, PlaysAll, SteppedBack, SteppedForward, Steps}
use Rattle.play_json.specs.Lines.{Lines, with_line}
use Rattle.play_json.specs.Said.{Held, Stands, held}
use Rattle.play_json.specs.declared.kind.Kind.TheVariants as kinds
use Rattle.play_json.specs.declared.lines.Way.{Way}
use Rattle.play_json.specs.declared.returning.Unplayed.{Unplayed}
use Rattle.play_json.specs.declared.returning.Unplayed.TheVariants.{Turn, Line}
use Rattle.play_json.proofs.Stands.{redone_all, redone_length, stands_taken, undone_all, undone_kept, undone_length}

-- so many turns were taken back
pub record Back (game : Game) (s : Standing) (count : ℕ) (old new : Held) : Type 0 where
  pub to : Standing
  pub stands : Stands game to new
  pub all : all_lines to ≡ all_lines s
  pub less : length to.done + count ≡ length s.done
  pub kept : to.kept + count ≡ s.kept
  pub marks : new.lines.marks ≡ old.lines.marks

pub back_none : (game : Game) (s : Standing) (h : Held) → Stands game s h → Back game s 0 h h
back_none game s h p =
    record { to = s; stands = p; all = refl; less = omega arith; kept = omega arith; marks = refl }

pub back_more : (game : Game) (s : Standing) (count : ℕ) (old mid new : Held) → Back game s count old mid
    → count < s.kept → ((t : Standing) → Stands game t mid → Stands game (undo_of t) new)
    → new.lines.marks ≡ mid.lines.marks → Back game s (count + 1) old new
back_more game s count old mid new b lt step marks =
    let t = b.to in
    let some : 0 < t.kept = omega (arith, b.kept, lt) in
    let less : length (undo_of t).done + 1 ≡ length t.done =
    undone_length t.done t.undone t.kept some b.stands.session.session.reach in
    let kept : (undo_of t).kept + 1 ≡ t.kept = undone_kept t.done t.undone t.kept some in
    record {
      to = undo_of t;
      stands = step t b.stands;
      all = undone_all t.done t.undone t.kept ∙ b.all;
      less = omega (arith, b.less, less);
      kept = omega (arith, b.kept, kept);
      marks = marks ∙ b.marks;
    }

pub back_all : (game : Game) (s : Standing) (count most : ℕ) (old new : Held) → Back game s count old new
    → count ≡ length s.done - most → Steps game s (length s.done - (length s.done - most)) old new
back_all game s count most old new b is = record {
  to = b.to;
  stands = b.stands;
  all = b.all;
  count = omega (arith, b.less, is);
  marks = b.marks;
}

-- so many turns were done again
pub record Forth (game : Game) (s : Standing) (count : ℕ) (old new : Held) : Type 0 where
  pub to : Standing
  pub stands : Stands game to new
  pub all : all_lines to ≡ all_lines s
  pub more : length to.done ≡ length s.done + count
  pub marks : new.lines.marks ≡ old.lines.marks

pub forth_none : (game : Game) (s : Standing) (h : Held) → Stands game s h → Forth game s 0 h h
forth_none game s h p = record { to = s; stands = p; all = refl; more = omega arith; marks = refl }

pub forth_more : (game : Game) (s : Standing) (count : ℕ) (old mid new : Held) → Forth game s count old mid
    → length s.done + count < length (all_lines s) → ((t : Standing) → Stands game t mid → Stands game (redo_of t) new)
    → new.lines.marks ≡ mid.lines.marks → Forth game s (count + 1) old new
forth_more game s count old mid new b lt step marks =
    let t = b.to in
    let whole : length (all_lines s) ≡ length t.done + length t.undone =
    ap length (sym b.all) ∙ length-append t.done t.undone in
    let some : 0 < length t.undone = omega (arith, b.more, lt, whole) in
    let more : length (redo_of t).done ≡ length t.done + 1 = redone_length t.done t.undone t.kept some in
    record {
      to = redo_of t;
      stands = step t b.stands;
      all = redone_all t.done t.undone t.kept ∙ b.all;
      more = omega (arith, b.more, more);
      marks = marks ∙ b.marks;
    }

pub forth_all : (game : Game) (s : Standing) (count fewest : ℕ) (old new : Held) → Forth game s count old new
    → count ≡ fewest - length s.done → Steps game s (length s.done + (fewest - length s.done)) old new
forth_all game s count fewest old new b is = record {
  to = b.to;
  stands = b.stands;
  all = b.all;
  count = omega (arith, b.more, is);
  marks = b.marks;
}

within_by : (b : Bool) (n a c : ℕ) → n ≤ a → n ≤ c
    → ((if b then suc n else 0) ≤ suc a) × ((if b then suc n else 0) ≤ suc c)
within_by true n a c h k = (omega (arith, h), omega (arith, k))
within_by false n a c h k = (omega arith, omega arith)

-- both lists begin with their common lines
common_by : (x y : List ℕ) (n : ℕ) (xs ys : List (List ℕ)) (b : Bool) → (b ≡ true → x ≡ y)
    → take n xs ≡ take n ys
    → take (if b then suc n else 0) (x ∷ xs) ≡ take (if b then suc n else 0) (y ∷ ys)
common_by x y n xs ys true same e = ap (λ z. z ∷ take n xs) (same refl) ∙ ap (λ zs. y ∷ zs) e
common_by x y n xs ys false same e = refl

pub common_is : (xs ys : List (List ℕ)) → take (common xs ys) xs ≡ take (common xs ys) ys
common_is [] [] = refl
common_is [] (y ∷ ys) = refl
common_is (x ∷ xs) [] = refl
common_is (x ∷ xs) (y ∷ ys) =
    common_by x y (common xs ys) xs ys (bytes_eq x y) (λ e. (bytes_eq-Decides x y).0 e) (common_is xs ys)

pub common_within : (xs ys : List (List ℕ)) → (common xs ys ≤ length xs) × (common xs ys ≤ length ys)
common_within [] ys = (omega arith, omega arith)
common_within (x ∷ xs) [] = (omega arith, omega arith)
common_within (x ∷ xs) (y ∷ ys) =
    let h = common_within xs ys in
    within_by (bytes_eq x y) (common xs ys) (length xs) (length ys) h.0 h.1

-- what stands after the way back and forth
pub begins : (s t : Standing) (all whole : List (List ℕ)) (count : ℕ) → length t.done ≡ count
    → all_lines t ≡ all_lines s → all ≡ all_lines s → count ≡ common all whole → t.done ≡ take count whole
begins s t all whole count size same is e =
    sym (take-append_seam t.done t.undone) ∙ ap (λ n. take n (all_lines t)) size ∙ ap (take count) (same ∙ sym is)
    ∙ ap (λ n. take n all) e ∙ common_is all whole ∙ ap (λ n. take n whole) (sym e)

-- Lines that are played

-- these lines were played after those that stood
pub record Along (game : Game) (s : Standing) (marks : List (List (List ℕ))) (lines : List (List ℕ)) (h : Held)
    : Type 0 where
  pub to : Standing
  pub done : to.done ≡ s.done ++ lines
  pub holds : Holds game to marks h

pub along_none : (game : Game) (s : Standing) (h : Held) → Stands game s h → Along game s h.lines.marks [] h
along_none game s h p = record {
  to = s;
  done = sym (append-nil s.done);
  holds = record { stands = p; marks = refl };
}

pub along_more : (game : Game) (s : Standing) (marks : List (List (List ℕ))) (some more : List (List ℕ)) (line : List ℕ)
    (mid new : Held) (r : Result (Unit {0}) Unplayed) → Along game s marks some mid → more ≡ some ++ line ∷ []
    → r ≡ Ok tt → ((t : Standing) → Stands game t mid → PlaysLine game t mid.lines.marks line new r)
    → Along game s marks more new
along_more game s marks some more line mid new r a is ok plays =
    let played : Holds game (taken game.keep line a.to) mid.lines.marks new =
    subst (λ x. PlaysLine game a.to mid.lines.marks line new x) ok (plays a.to a.holds.stands) in
    record {
      to = taken game.keep line a.to;
      done = ap (λ x. x ++ line ∷ []) a.done ∙ append_assoc s.done some (line ∷ []) ∙ ap (λ x. s.done ++ x) (sym is);
      holds = record { stands = played.stands; marks = played.marks ∙ a.holds.marks };
    }

-- the lines up to one and that one
taken_suc : {X : Type 0} (f : X → List ℕ) (xs : List X) (i : ℕ) (x : X) → i < length xs → x ≡ get_or xs i x
    → take (suc i) (map f xs) ≡ take i (map f xs) ++ f x ∷ []
taken_suc f [] i x lt e = absurd (omega (arith, lt))
taken_suc f (y ∷ ys) zero x lt e = ap (λ z. f z ∷ []) (sym e)
taken_suc f (y ∷ ys) (suc i) x lt e = ap (λ zs. f y ∷ zs) (taken_suc f ys i x (omega (arith, lt)) e)

pub taken_next : {X : Type 0} (f : X → List ℕ) (xs : List X) (i : ℕ) (x : X) → i < length xs → x ≡ get_or xs i x
    → take (i + 1) (map f xs) ≡ take i (map f xs) ++ f x ∷ []
taken_next f xs i x lt e =
    let n : i + 1 ≡ suc i = omega arith in
    ap (λ n. take n (map f xs)) n ∙ taken_suc f xs i x lt e

pub whole_next : {X : Type 0} (f : X → List ℕ) (xs : List X) (i : ℕ) (x : X) → i < length xs → x ≡ get_or xs i x
    → take i (map f xs) ++ f x ∷ drop (i + 1) (map f xs) ≡ map f xs
whole_next f xs i x lt e =
    sym (append_assoc (take i (map f xs)) (f x ∷ []) (drop (i + 1) (map f xs)))
    ∙ ap (λ zs. zs ++ drop (i + 1) (map f xs)) (sym (taken_next f xs i x lt e)) ∙ take-append-drop (i + 1) (map f xs)

-- all of them were played
pub along_all : (game : Game) (s : Standing) (marks : List (List (List ℕ))) (i : ℕ) (lines : List (List ℕ)) (h : Held)
    → Along game s marks (take i lines) h → length lines ≤ i → PlaysAll game s marks lines h (Ok tt)
along_all game s marks i lines h a le = (a.to, a.done ∙ ap (λ x. s.done ++ x) (take_all i lines le), a.holds)

-- a line that is not played ends it
pub along_short : (game : Game) (s : Standing) (marks : List (List (List ℕ))) (some rest lines : List (List ℕ))
    (line : List ℕ) (mid new : Held) (e : Unplayed) → Along game s marks some mid → some ++ line ∷ rest ≡ lines
    → ((t : Standing) → Stands game t mid → PlaysLine game t mid.lines.marks line new (Err e))
    → PlaysAll game s marks lines new (Err e)
along_short game s marks some rest lines line mid new Turn a is plays =
    let p : Holds game a.to mid.lines.marks new = plays a.to a.holds.stands in (
      a.to,
      line ∷ rest,
      ap (λ x. x ++ line ∷ rest) a.done ∙ append_assoc s.done some (line ∷ rest) ∙ ap (λ x. s.done ++ x) is,
      record { stands = p.stands; marks = p.marks ∙ a.holds.marks },
    )
along_short game s marks some rest lines line mid new Line a is plays = (
  taken game.keep line a.to,
  rest,
  append_assoc a.to.done (line ∷ []) rest ∙ ap (λ x. x ++ line ∷ rest) a.done ∙ append_assoc s.done some (line ∷ rest)
      ∙ ap (λ x. s.done ++ x) is,
  plays a.to a.holds.stands,
)

pub plays_kept : (game : Game) (s : Standing) (line slice : List ℕ) (v v' : Session) (l l' : Lines)
    → Stands game s (held v l) → slice ≡ line → IsSessionOf game (taken game.keep slice s) v' → l' ≡ with_line line l
    → Holds game (taken game.keep line s) l.marks (held v' l')
plays_kept game s line slice v v' l l' p is after e =
    subst (λ x. Holds game (taken game.keep line s) l.marks (held v' x)) (sym e)
    (record {
      stands = stands_taken game s line v v' l p (subst (λ x. IsSessionOf game (taken game.keep x s) v') is after);
      marks = refl;
    })

pub plays_lost : (game : Game) (s : Standing) (line slice : List ℕ) (v' : Session) → slice ≡ line
    → IsSessionOf game (taken game.keep slice s) v' → IsSessionOf game (taken game.keep line s) v'
plays_lost game s line slice v' is after = subst (λ x. IsSessionOf game (taken game.keep x s) v') is after

-- The whole way

-- what `follow` says, by what playing the rest came to
abbrev pub ComesBy : Game → Standing → List (List (List ℕ)) → List (List ℕ) → Held → Result (Unit {0}) Unplayed → Type 0
ComesBy game s marks lines h (Ok done) = (t : Standing) × MayGo s marks lines (saying kinds.Gone t marks)
    × Holds game t marks h
ComesBy game s marks lines h (Err Turn) = (t : Standing) × MayGo s marks lines (saying kinds.NoMemory t marks)
    × Holds game t marks h
ComesBy game s marks lines h (Err Line) = (t : Standing) × MayGo s marks lines (saying kinds.NoMemory t marks)
    × IsSessionOf game t h.session

joined : (t : Standing) (whole rest : List (List ℕ)) (count : ℕ) → t.done ≡ take count whole → rest ≡ drop count whole
    → t.done ++ rest ≡ whole
joined t whole rest count front is = ap (λ x. x ++ rest) front ∙ ap (λ x. take count whole ++ x) is
    ∙ take-append-drop count whole

pub comes : (game : Game) (s t : Standing) (marks : List (List (List ℕ))) (whole rest : List (List ℕ)) (count : ℕ) (h : Held)
    (r : Result (Unit {0}) Unplayed) → t.done ≡ take count whole → rest ≡ drop count whole
    → PlaysAll game t marks rest h r → ComesBy game s marks whole h r
comes game s t marks whole rest count h (Ok done) front is p =
    (p.0, gone p.0 (p.1 ∙ joined t whole rest count front is) refl, p.2)
comes game s t marks whole rest count h (Err Turn) front is p =
    (p.0, short p.0 p.1 (p.2 ∙ joined t whole rest count front is) refl, p.3)
comes game s t marks whole rest count h (Err Line) front is p =
    (p.0, short p.0 p.1 (p.2 ∙ joined t whole rest count front is) refl, p.3)

-- the way back and forth
pub record Walked (game : Game) (s : Standing) (whole : List (List ℕ)) (count : ℕ) (old new : Held) : Type 0 where
  pub to : Standing
  pub stands : Stands game to new
  pub front : to.done ≡ take count whole
  pub marks : new.lines.marks ≡ old.lines.marks

pub walked : (game : Game) (s : Standing) (whole : List (List ℕ)) (way : Way) (h0 h1 h2 : Held) → Stands game s h0
    → IsWayTo h0.lines whole way → length s.done - way.common ≤ s.kept → SteppedBack way.common h0 h1
    → SteppedForward way.common h1 h2 → Walked game s whole way.common h0 h2
walked game s whole way h0 h1 h2 p w few back forth =
    let b = back game s p few in
    let all : length (all_lines b.to) ≡ length h0.lines.all = ap length (b.all ∙ sym p.all) in
    let f = forth game b.to b.stands (omega (arith, all, w.common, (common_within h0.lines.all whole).0)) in
    record {
      to = f.to;
      stands = f.stands;
      front = begins s f.to h0.lines.all whole way.common (omega (arith, f.count, b.count)) (f.all ∙ b.all) p.all w.common;
      marks = f.marks ∙ b.marks;
    }

pub follows : (game : Game) (s : Standing) (whole rest : List (List ℕ)) (count : ℕ) (old mid new : Held)
    (r : Result (Unit {0}) Unplayed) → Walked game s whole count old mid → rest ≡ drop count whole
    → ((t : Standing) → Stands game t mid → PlaysAll game t mid.lines.marks rest new r)
    → ComesBy game s old.lines.marks whole new r
follows game s whole rest count old mid new r w is plays =
    comes game s w.to old.lines.marks whole rest count new r w.front is
    (subst (λ m. PlaysAll game w.to m rest new r) w.marks (plays w.to w.stands))

-- where memory is refused before any step
pub refused_go : (s : Standing) (marks : List (List (List ℕ))) (o : Option (List (List ℕ)))
    → (a : Answer) × MayGoTo s marks o a × (a.standing ≡ s)
refused_go s marks None = (saying kinds.NoMark s marks, refl, refl)
refused_go s marks (Some lines) = (saying kinds.NoMemory s marks, none refl, refl)
