-- What is said to a line, case by case.
use Rattle.std.proofs.Common.{◌≡◌, ℕ, ◌<◌, ◌≤◌, zero, suc, Bool, true, false, List, [], ◌∷◌, ◌++◌, length, refl, ap, sym, ◌∙◌, subst}
use Rattle.std.proofs.Common.{Option, None, Some, Result, Ok, Err, IfOk, arith, inl, inr, nat_le, ◌==◌, if◌then◌else◌}
use Rattle.std.proofs.lemmas.Bool.Decides.{nat_tests}
use Rattle.std.specs.Prelude.{option_map, string_bytes}
use Rattle.std.specs.Str.Lossy.{utf8_lossy}
use Rattle.serde_json.specs.Data.{number, unsigned}
use Rattle.serde_json.specs.View.{view}
use Rattle.zcore.specs.Turn.{is_waiting}
use Rattle.session.specs.Session.{Session}
use Rattle.session.specs.Game.{Game, IsSessionOf, given_on, telling_of, text_on, place_on, is_typable_on}
use Rattle.session.specs.Given.{IsAskedFor}
use Rattle.session_lines.specs.Names.{given_after}
use Rattle.session_lines.specs.Standing.{Standing, longest_line, redo_of, taken, undo_of}
use Rattle.zcore_standard.specs.declared.save_form.Purpose.{Purpose}
use Rattle.play_json.specs.Requests.{request_of}
use Rattle.play_json.specs.declared.kind.Kind.{Kind}
use Rattle.play_json.specs.declared.kind.Kind.TheVariants as kinds
use Rattle.play_json.specs.declared.request.Request.{Request}
use Rattle.play_json.specs.declared.request.Request.TheVariants.{Show}
use Rattle.play_json.specs.declared.request.Topic.{Topic}
use Rattle.play_json.specs.Answers.{Answer, AnswersTo, IsAnswer, answer_given, answer_mark, answer_redo, answer_turn, answer_undo}
use Rattle.play_json.specs.Answers.{kind_shown, printing, saying, typed}
use Rattle.play_json.specs.Lines.{Lines, with_line, with_mark}
use Rattle.play_json.specs.Said.{Held, IsGiven, IsSaid, IsSaying, IsShown, IsTaken, Leaves, Matches, MayBeSaid, Stands, held}
use Rattle.play_json.specs.declared.said.Said.{Said}
use Rattle.play_json.proofs.Stands.{marked_is, stands_marked, stands_taken}

lossy_nothing : utf8_lossy [] ≡ []
unfolding utf8_lossy
lossy_nothing = refl

shows_mark : true ≡ false → ⊥
shows_mark e = cc

-- what says no more than its kind
pub matches_saying : (kind : Kind) (s : Standing) (marks : List (List (List ℕ))) (said : Said) → IsSaying kind said
    → Matches (saying kind s marks) said
matches_saying kind s marks said h =
    record { kind = h.is; text = h.text ∙ sym lossy_nothing; shown = h.shown; mark = tt }

-- nothing is changed by an answer
pub leaves_all : (game : Game) (kind : Kind) (s : Standing) (h : Held) (said : Said) → Stands game s h
    → IsSaying kind said → IsSaid game (saying kind s h.lines.marks) h said
leaves_all game kind s h said p is =
    (matches_saying kind s h.lines.marks said is, record { stands = p; marks = refl })

-- the same, where memory may be refused for it
pub may_say : {E : Type 0} (game : Game) (kind : Kind) (s : Standing) (h : Held) (r : Result Said E)
    → IfOk r (IsSaying kind) → Stands game s h → MayBeSaid game (saying kind s h.lines.marks) h r
may_say game kind s h (Ok said) is p = leaves_all game kind s h said p is
may_say game kind s h (Err e) is p = p.session

-- the answer to a line of at most 1,000 bytes goes by what it asks for
pub at_request : (game : Game) (s : Standing) (marks : List (List (List ℕ))) (line : List ℕ) (a : Answer)
    (request : Request) → length line ≤ longest_line → request ≡ request_of line
    → AnswersTo game s marks line request a → IsAnswer game s marks line a
at_request game s marks line a request short is h = record {
  short = λ _. subst (λ r. AnswersTo game s marks line r a) is h;
  long = λ long. absurd (omega (arith, short, long));
}

-- a longer one is refused
pub at_long : (game : Game) (s : Standing) (marks : List (List (List ℕ))) (line : List ℕ)
    → longest_line < length line → IsAnswer game s marks line (saying kinds.TooLong s marks)
at_long game s marks line long = record {
  short = λ short. absurd (omega (arith, short, long));
  long = λ _. refl;
}

-- a topic is shown
pub shown_says : {E : Type 0} (game : Game) (s : Standing) (line : List ℕ) (h : Held) (topic : Topic)
    (result : Result Said E) → length line ≤ longest_line → Show topic ≡ request_of line
    → Stands game s h → IfOk result (IsShown topic)
    → (a : Answer) × IsAnswer game s h.lines.marks line a × MayBeSaid game a h result
shown_says game s line h topic (Ok said) short is p shows =
    let a = saying (kind_shown topic shows.0) s h.lines.marks in (
      a,
      at_request game s h.lines.marks line a (Show topic) short is (shows.0, refl),
      leaves_all game (kind_shown topic shows.0) s h said p shows.1,
    )
shown_says game s line h topic (Err e) short is p shows =
    let a = saying (kind_shown topic false) s h.lines.marks in
    (a, at_request game s h.lines.marks line a (Show topic) short is (false, refl), p.session)

some : (n : ℕ) → 0 < n → (n == 0) ≡ false
some n h = grind (arith, nat_tests)

none_of : (n : ℕ) → n ≤ 0 → (n == 0) ≡ true
none_of n h = grind (arith, nat_tests)

pub undo_some : (s : Standing) (marks : List (List (List ℕ))) → 0 < s.kept
    → answer_undo s marks ≡ saying kinds.Undone (undo_of s) marks
undo_some s marks h =
    ap (λ b. saying (if b then kinds.NothingToUndo else kinds.Undone) (undo_of s) marks) (some s.kept h)

pub undo_none : (s : Standing) (marks : List (List (List ℕ))) → s.kept ≤ 0
    → answer_undo s marks ≡ saying kinds.NothingToUndo (undo_of s) marks
undo_none s marks h =
    ap (λ b. saying (if b then kinds.NothingToUndo else kinds.Undone) (undo_of s) marks) (none_of s.kept h)

-- the answer to a turn that is done again
abbrev pub redone : Game → Standing → List (List (List ℕ)) → Answer
redone game s marks = printing kinds.Redone (text_on game (redo_of s).done) (redo_of s) marks

pub redo_some : (game : Game) (s : Standing) (marks : List (List (List ℕ))) → 0 < length s.undone
    → answer_redo (telling_of game) s marks ≡ redone game s marks
redo_some game s marks h =
    ap (λ b. if b then saying kinds.NothingToRedo (redo_of s) marks else redone game s marks) (some (length s.undone) h)

pub redo_none : (game : Game) (s : Standing) (marks : List (List (List ℕ))) → length s.undone ≤ 0
    → answer_redo (telling_of game) s marks ≡ saying kinds.NothingToRedo (redo_of s) marks
redo_none game s marks h =
    ap (λ b. if b then saying kinds.NothingToRedo (redo_of s) marks else redone game s marks)
    (none_of (length s.undone) h)

-- the answer to a line for which the story is given this
abbrev pub turned : Game → Standing → List (List (List ℕ)) → List ℕ → Answer
turned game s marks given = answer_given (telling_of game) game.keep s marks given

-- and what it leaves
pub leaves_taken : (game : Game) (s : Standing) (line : List ℕ) (v v' : Session) (l l' : Lines)
    → Stands game s (held v l) → IsSessionOf game (taken game.keep line s) v' → l' ≡ with_line line l
    → Leaves game (turned game s l.marks line) (held v' l')
leaves_taken game s line v v' l l' p after e =
    subst (λ x. Leaves game (turned game s l.marks line) (held v' x)) (sym e)
    (record { stands = stands_taken game s line v v' l p after; marks = refl })

-- what a mark leaves
pub leaves_marked : (game : Game) (s : Standing) (v : Session) (l l' : Lines) → Stands game s (held v l)
    → l' ≡ with_mark l → Leaves game (answer_mark s l.marks) (held v l')
leaves_marked game s v l l' p e =
    subst (λ x. Leaves game (answer_mark s l.marks) (held v x)) (sym e)
    (record { stands = stands_marked game s v l p; marks = marked_is game s v l p })

-- a mark is said
pub matches_mark : (s : Standing) (marks : List (List (List ℕ))) (said : Said) → said.kind ≡ kinds.Mark
    → string_bytes said.text ≡ [] → option_map view said.shown ≡ Some (number (unsigned (length marks)))
    → Matches (answer_mark s marks) said
matches_mark s marks said kind text shown = record {
  kind = kind;
  text = text ∙ sym lossy_nothing;
  shown = λ e. absurd (shows_mark e);
  mark = shown;
}

pub given_taken : (game : Game) (s : Standing) (marks : List (List (List ℕ))) (line answered given : List ℕ)
    → is_typable_on game line ≡ true → is_waiting (place_on game s.done) ≡ true
    → given_on game s.done (typed line answered false) ≡ given
    → answer_turn (telling_of game) game.keep s marks (typed line answered false) ≡ turned game s marks given
given_taken game s marks line answered given d e g = rw (d, e) (ap (turned game s marks) g)

pub line_unmet : (game : Game) (s : Standing) (marks : List (List (List ℕ))) (line answered : List ℕ)
    → is_typable_on game line ≡ true → is_waiting (place_on game s.done) ≡ true
    → answer_turn (telling_of game) game.keep s marks (typed line answered true) ≡ saying kinds.NoMemory s marks
line_unmet game s marks line answered d e = rw (d, e) refl

pub line_over : (game : Game) (s : Standing) (marks : List (List (List ℕ))) (line answered : List ℕ) (m : Bool)
    → is_typable_on game line ≡ true → is_waiting (place_on game s.done) ≡ false
    → answer_turn (telling_of game) game.keep s marks (typed line answered m) ≡ saying kinds.Over s marks
line_over game s marks line answered m d e = rw (d, e) refl

pub line_refused : (game : Game) (s : Standing) (marks : List (List (List ℕ))) (line answered : List ℕ) (m : Bool)
    → is_typable_on game line ≡ false
    → answer_turn (telling_of game) game.keep s marks (typed line answered m) ≡ saying kinds.Refused s marks
line_refused game s marks line answered m d = rw d refl

-- a line that is no name is given as it is
given_plain : (game : Game) (s : Standing) (line : List ℕ) → IsAskedFor game s line None
    → is_typable_on game line ≡ true → is_waiting (place_on game s.done) ≡ true
    → given_on game s.done (typed line [] false) ≡ line
given_plain game s line (inl e) d w = ap (λ p. given_after p line []) e
given_plain game s line (inr (inl e)) d w = let no : false ≡ true = sym e ∙ d in cc
given_plain game s line (inr (inr e)) d w = let no : false ≡ true = sym e ∙ w in cc

pub line_taken : (game : Game) (s : Standing) (marks : List (List (List ℕ))) (line : List ℕ)
    → IsAskedFor game s line None → is_typable_on game line ≡ true → is_waiting (place_on game s.done) ≡ true
    → answer_turn (telling_of game) game.keep s marks (typed line [] false) ≡ turned game s marks line
line_taken game s marks line asked d e =
    given_taken game s marks line [] line d e (given_plain game s line asked d e)

-- a name for which the story is given this, or that is not taken
pub name_given : {E : Type 0} (game : Game) (s : Standing) (marks : List (List (List ℕ))) (line answered given : List ℕ)
    (purpose : Purpose) (h : Held) (r : Result Said E) → IsAskedFor game s line (Some purpose)
    → given ≡ given_on game s.done (typed line answered false) → IsGiven game s marks given h r
    → IsTaken game s marks line h r
name_given game s marks line answered given purpose h r asked is (true, said) = (
  answered,
  true,
  subst (λ a. MayBeSaid game a h r) (sym (line_unmet game s marks line answered asked.1 asked.2)) said,
)
name_given game s marks line answered given purpose h r asked is (false, said) = (
  answered,
  false,
  subst (λ a. MayBeSaid game a h r)
      (sym (given_taken game s marks line answered given asked.1 asked.2 (sym is))) said,
)

pub name_unmet : {E : Type 0} (game : Game) (s : Standing) (marks : List (List (List ℕ))) (line : List ℕ)
    (purpose : Purpose) (h : Held) (r : Result Said E) → IsAskedFor game s line (Some purpose)
    → MayBeSaid game (saying kinds.NoMemory s marks) h r → IsTaken game s marks line h r
name_unmet game s marks line purpose h r asked said =
    ([], true, subst (λ a. MayBeSaid game a h r) (sym (line_unmet game s marks line [] asked.1 asked.2)) said)

-- the same, where all that is known is the session
pub name_lost : (game : Game) (s : Standing) (marks : List (List (List ℕ))) (line : List ℕ) (purpose : Purpose)
    (v : Session) → IsAskedFor game s line (Some purpose) → IsSessionOf game s v
    → (answered : List ℕ) × (refused : Bool)
    × IsSessionOf game (answer_turn (telling_of game) game.keep s marks (typed line answered refused)).standing v
name_lost game s marks line purpose v asked p = (
  [],
  true,
  subst (λ a. IsSessionOf game a.standing v) (sym (line_unmet game s marks line [] asked.1 asked.2)) p,
)
