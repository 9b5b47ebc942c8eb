-- What a line adds to the transcript of its story, case by case.
use Rattle.std.proofs.Common.{◌≡◌, ℕ, ◌<◌, ◌≤◌, ◌+◌, Bool, true, false, List, [], ◌∷◌, ◌++◌, length, ap, sym, ◌∙◌}
use Rattle.std.proofs.Common.{arith, bytes_eq, codes, ◌==◌, if◌then◌else◌, length-append}
use Rattle.std.proofs.lemmas.Bool.Decides.{nat_tests}
use Rattle.session.specs.Files.{is_on_after, script_after}
use Rattle.session.specs.Game.{Game, answer, given_on, text_on}
use Rattle.session_lines.specs.Standing.{Standing, redo_of}
use Rattle.session_lines.specs.Transcript.{Answer, Typed}
use Rattle.session_lines.specs.Files.{FileAct}
use Rattle.session_run.specs.Acts.{adding, adding_if, script_acts, script_line, script_redo, script_undo}

pub some : (n : ℕ) → 0 < n → (n == 0) ≡ false
some n h = grind (arith, nat_tests)

pub none_of : (n : ℕ) → n ≤ 0 → (n == 0) ≡ true
none_of n h = grind (arith, nat_tests)

pub untrue : (n m : ℕ) → (n ≡ m → ⊥) → (n == m) ≡ false
untrue n m h = grind (arith, nat_tests)

equal : (n m : ℕ) → n ≡ m → (n == m) ≡ true
equal n m h = grind (arith, nat_tests)

-- by the line

pub acts_undo : (game : Game) (s : Standing) (x : Typed) → bytes_eq x.line (codes "/undo") ≡ true
    → script_acts game s x ≡ script_undo game s
unfolding script_acts
acts_undo game s x e =
    ap (λ b. if b then script_undo game s
    else (if bytes_eq x.line (codes "/redo") then script_redo game s else script_line game s x)) e

pub acts_redo : (game : Game) (s : Standing) (x : Typed) → bytes_eq x.line (codes "/undo") ≡ false
    → bytes_eq x.line (codes "/redo") ≡ true → script_acts game s x ≡ script_redo game s
unfolding script_acts
acts_redo game s x d e =
    ap (λ b. if b then script_undo game s
    else (if bytes_eq x.line (codes "/redo") then script_redo game s else script_line game s x)) d
    ∙ ap (λ b. if b then script_redo game s else script_line game s x) e

pub acts_other : (game : Game) (s : Standing) (x : Typed) → bytes_eq x.line (codes "/undo") ≡ false
    → bytes_eq x.line (codes "/redo") ≡ false → script_acts game s x ≡ script_line game s x
unfolding script_acts
acts_other game s x d e =
    ap (λ b. if b then script_undo game s
    else (if bytes_eq x.line (codes "/redo") then script_redo game s else script_line game s x)) d
    ∙ ap (λ b. if b then script_redo game s else script_line game s x) e

-- of an undo and a redo

pub undo_adds : (game : Game) (s : Standing) (is_on : Bool) → 0 < s.kept → is_on ≡ is_on_after game s.done
    → script_undo game s ≡ adding_if is_on (codes "/undo\n[Undone.]\n")
undo_adds game s is_on h e =
    ap (λ b. if b then [] else adding_if (is_on_after game s.done) (codes "/undo\n[Undone.]\n")) (some s.kept h)
    ∙ ap (λ b. adding_if b (codes "/undo\n[Undone.]\n")) (sym e)

pub undo_quiet : (game : Game) (s : Standing) → s.kept ≤ 0 → script_undo game s ≡ []
undo_quiet game s h =
    ap (λ b. if b then [] else adding_if (is_on_after game s.done) (codes "/undo\n[Undone.]\n")) (none_of s.kept h)

-- what a redo adds with this text
redo_by : Bool → List ℕ → List FileAct
redo_by is_on text = adding_if is_on (codes "/redo\n[Redone.]\n") ++ adding_if is_on text

pub redo_adds : (game : Game) (s : Standing) (is_on : Bool) (text : List ℕ) → 0 < length s.undone
    → is_on ≡ is_on_after game s.done → text ≡ text_on game (redo_of s).done
    → script_redo game s ≡ adding_if is_on (codes "/redo\n[Redone.]\n") ++ adding_if is_on text
unfolding redo_by
redo_adds game s is_on text h e f =
    ap (λ b. if b then [] else redo_by (is_on_after game s.done) (text_on game (redo_of s).done))
    (some (length s.undone) h)
    ∙ ap (λ b. redo_by b (text_on game (redo_of s).done)) (sym e)
    ∙ ap (redo_by is_on) (sym f)

pub redo_quiet : (game : Game) (s : Standing) → length s.undone ≤ 0 → script_redo game s ≡ []
unfolding redo_by
redo_quiet game s h =
    ap (λ b. if b then [] else redo_by (is_on_after game s.done) (text_on game (redo_of s).done))
    (none_of (length s.undone) h)

-- of a line for the story: nothing where it is not taken

line_by : Game → Standing → Typed → Bool → List FileAct
line_by game s x same = if same then [] else adding (script_after game s.done (given_on game s.done x))

pub quiet_line : (game : Game) (s : Standing) (x : Typed) (a : Answer) → bytes_eq x.line (codes "/undo") ≡ false
    → bytes_eq x.line (codes "/redo") ≡ false → answer game s x ≡ a → a.standing ≡ s → script_acts game s x ≡ []
unfolding line_by
quiet_line game s x a d e at same =
    acts_other game s x d e
    ∙ ap (line_by game s x)
    (equal (length (answer game s x).standing.done) (length s.done)
    (ap (λ (b : Answer). length b.standing.done) at ∙ ap (λ (t : Standing). length t.done) same))

longer : (s : Standing) (given : List ℕ) (done : List (List ℕ)) → done ≡ s.done ++ given ∷ []
    → (length done == length s.done) ≡ false
longer s given done e =
    untrue (length done) (length s.done) (λ same. omega (arith, ap length e, length-append s.done (given ∷ [])))

pub line_adds : (game : Game) (s : Standing) (x : Typed) (given : List ℕ) (a : Answer) → answer game s x ≡ a
    → a.standing.done ≡ s.done ++ given ∷ [] → given_on game s.done x ≡ given
    → script_line game s x ≡ adding (script_after game s.done given)
unfolding line_by
line_adds game s x given a at more is =
    ap (line_by game s x)
    (longer s given (answer game s x).standing.done (ap (λ (b : Answer). b.standing.done) at ∙ more))
    ∙ ap (λ (l : List ℕ). adding (script_after game s.done l)) is
