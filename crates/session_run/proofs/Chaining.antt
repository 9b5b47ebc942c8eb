-- What was heard, one part of the input after the other.
use Rattle.std.proofs.Common.{◌≡◌, ℕ, ◌+◌, ◌<◌, ◌≤◌, false, Option, List, [], ◌∷◌}
use Rattle.std.proofs.Common.{◌++◌, length, get_or, take, drop}
use Rattle.std.proofs.Common.{refl, ap, sym, ◌∙◌, subst, append_assoc, take-append-drop, ◌==◌}
use Rattle.std.proofs.lemmas.List.{take_all, map-append}
use Rattle.std.specs.Io.KnownBytes.{Appends}
use Rattle.std.proofs.KnownBytes.{Appends-nil, Appends-trans}
use Rattle.session_lines.specs.Input.{whole_from, rest_from}
use Rattle.session_run.specs.Acts.{Leaves, acts_of, is_own_on, line_acts}
use Rattle.session_lines.specs.Files.{FileAct, LogsActs}
use Rattle.session_lines.proofs.Answering.{acts_none, acts_then}
use Rattle.session.specs.Game.{Game, IsSessionOf, answer, replies, after}
use Rattle.session.specs.Session.{Session}
use Rattle.session_lines.specs.Standing.{Standing}
use Rattle.session_lines.specs.Transcript.{Typed, lines_typed}
use Rattle.session_run.specs.Heard.{Heard, Broke}
use Rattle.session_lines.proofs.Cutting.{whole_from-append, whole_ended, whole_going}

pub replies-append : (game : Game) (s : Standing) (xs ys : List Typed)
    → replies game s (xs ++ ys) ≡ replies game s xs ++ replies game (after game s xs) ys
replies-append game s [] ys = refl
replies-append game s (x ∷ xs) ys = ap (λ t. (answer game s x).reply ++ t)
    (replies-append game (answer game s x).standing xs ys)
    ∙ sym (append_assoc (answer game s x).reply (replies game (answer game s x).standing xs)
    (replies game (after game (answer game s x).standing xs) ys))

pub after-append : (game : Game) (s : Standing) (xs ys : List Typed)
    → after game s (xs ++ ys) ≡ after game (after game s xs) ys
after-append game s [] ys = refl
after-append game s (x ∷ xs) ys = after-append game (answer game s x).standing xs ys

-- acts of files

pub acts-append : (game : Game) (s : Standing) (xs ys : List Typed)
    → acts_of game s (xs ++ ys) ≡ acts_of game s xs ++ acts_of game (after game s xs) ys
acts-append game s [] ys = refl
acts-append game s (x ∷ xs) ys = ap (λ t. line_acts game s x ++ t)
    (acts-append game (answer game s x).standing xs ys)
    ∙ sym (append_assoc (line_acts game s x) (acts_of game (answer game s x).standing xs)
    (acts_of game (after game (answer game s x).standing xs) ys))

-- what was done for lines, and then for more
leaves_then : (game : Game) (s : Standing) (a b c : Option (List FileAct)) (xs ys : List Typed)
    → LogsActs (is_own_on game) a b (acts_of game s xs)
    → LogsActs (is_own_on game) b c (acts_of game (after game s xs) ys)
    → LogsActs (is_own_on game) a c (acts_of game s (xs ++ ys))
leaves_then game s a b c xs ys h k = subst (LogsActs (is_own_on game) a c) (sym (acts-append game s xs ys))
    (acts_then (is_own_on game) a b c (acts_of game s xs) (acts_of game (after game s xs) ys) h k)

pub heard_none : (game : Game) (w : Option (List ℕ)) (s : Standing) (v : Session) (l : Option (List FileAct))
    → IsSessionOf game s v → Heard game w w s (Leaves game s v l l) []
heard_none game w s v l p = record {
  typed = [];
  said = refl;
  wrote = Appends-nil w;
  stands = (p, acts_none (is_own_on game) l);
}

-- lines were heard, and then more
pub heard_then : (game : Game) (w w1 w2 : Option (List ℕ)) (s : Standing) (v1 v2 : Session)
    (l l1 l2 : Option (List FileAct)) (ls ms : List (List ℕ))
    → Heard game w w1 s (Leaves game s v1 l l1) ls
    → ((t : Standing) → IsSessionOf game t v1 → Heard game w1 w2 t (Leaves game t v2 l1 l2) ms)
    → Heard game w w2 s (Leaves game s v2 l l2) (ls ++ ms)
heard_then game w w1 w2 s v1 v2 l l1 l2 ls ms h f =
    let k : Heard game w1 w2 (after game s h.typed) (Leaves game (after game s h.typed) v2 l1 l2) ms
    = f (after game s h.typed) h.stands.0 in
    record {
      typed = h.typed ++ k.typed;
      said = map-append (λ (x : Typed). x.line) h.typed k.typed ∙ ap (λ t. t ++ lines_typed k.typed) h.said
          ∙ ap (λ t. ls ++ t) k.said;
      wrote = subst (Appends w w2) (sym (replies-append game s h.typed k.typed))
          (Appends-trans w w1 w2 (replies game s h.typed) (replies game (after game s h.typed) k.typed) h.wrote
          k.wrote);
      stands = (
        subst (λ t. IsSessionOf game t v2) (sym (after-append game s h.typed k.typed)) k.stands.0,
        leaves_then game s l l1 l2 h.typed k.typed h.stands.1 k.stands.1,
      );
    }

-- lines were heard, and then writing failed
pub heard_broke : (game : Game) (w w1 w2 : Option (List ℕ)) (s : Standing) (v1 v2 : Session)
    (l l1 l2 : Option (List FileAct)) (ls ms : List (List ℕ))
    → Heard game w w1 s (Leaves game s v1 l l1) ls
    → ((t : Standing) → IsSessionOf game t v1 → Broke game w1 w2 t (Leaves game t v2 l1 l2) ms)
    → Broke game w w2 s (Leaves game s v2 l l2) (ls ++ ms)
heard_broke game w w1 w2 s v1 v2 l l1 l2 ls ms h f =
    let k : Broke game w1 w2 (after game s h.typed) (Leaves game (after game s h.typed) v2 l1 l2) ms
    = f (after game s h.typed) h.stands.0 in
    let there : after game (after game s h.typed) k.typed
    ≡ after game s (h.typed ++ k.typed) = sym (after-append game s h.typed k.typed) in
    record {
      typed = h.typed ++ k.typed;
      last = k.last;
      more = k.more;
      said =
          ap (λ t. t ++ k.last.line ∷ k.more) (map-append (λ (x : Typed). x.line) h.typed k.typed)
          ∙ append_assoc (lines_typed h.typed) (lines_typed k.typed) (k.last.line ∷ k.more)
          ∙ ap (λ t. t ++ (lines_typed k.typed ++ k.last.line ∷ k.more)) h.said
          ∙ ap (λ t. ls ++ t) k.said;
      part = k.part;
      rest = k.rest;
      whole = k.whole ∙ ap (λ t. (answer game t k.last).reply) there;
      wrote = subst (Appends w w2)
          (sym (append_assoc (replies game s h.typed) (replies game (after game s h.typed) k.typed) k.part)
          ∙ ap (λ t. t ++ k.part) (sym (replies-append game s h.typed k.typed)))
          (Appends-trans w w1 w2 (replies game s h.typed) (replies game (after game s h.typed) k.typed ++ k.part)
          h.wrote k.wrote);
      stands = (
        subst (λ t. IsSessionOf game (answer game t k.last).standing v2) there k.stands.0,
        subst (λ ts. LogsActs (is_own_on game) l l2 (acts_of game s ts))
            (sym (append_assoc h.typed k.typed (k.last ∷ [])))
            (leaves_then game s l l1 l2 h.typed (k.typed ++ k.last ∷ []) h.stands.1 k.stands.1),
      );
    }

-- more lines were there
pub broke_more : {game : Game} {w w' : Option (List ℕ)} {s : Standing} {P : List Typed → Standing → Type 0}
    {ls : List (List ℕ)} (ms : List (List ℕ))
    → Broke game w w' s P ls → Broke game w w' s P (ls ++ ms)
broke_more {game} {w} {w'} {s} {P} {ls} ms k = record {
  typed = k.typed;
  last = k.last;
  more = k.more ++ ms;
  said = sym (append_assoc (lines_typed k.typed) (k.last.line ∷ k.more) ms) ∙ ap (λ t. t ++ ms) k.said;
  part = k.part;
  rest = k.rest;
  whole = k.whole;
  wrote = k.wrote;
  stands = k.stands;
}

-- ---- a chunk, byte by byte; `full` stands before it

-- the next byte ends a line
pub heard_end : (game : Game) (w w1 w2 : Option (List ℕ)) (s : Standing) (v1 v2 : Session)
    (l l1 l2 : Option (List FileAct)) (full chunk : List ℕ) (i d : ℕ)
    → Heard game w w1 s (Leaves game s v1 l l1) (whole_from full (take i chunk)) → i < length chunk
    → get_or chunk i d ≡ 10
    → ((t : Standing) → IsSessionOf game t v1
    → Heard game w1 w2 t (Leaves game t v2 l1 l2) (rest_from full (take i chunk) ∷ []))
    → Heard game w w2 s (Leaves game s v2 l l2) (whole_from full (take (i + 1) chunk))
heard_end game w w1 w2 s v1 v2 l l1 l2 full chunk i d h lt e k =
    subst (Heard game w w2 s (Leaves game s v2 l l2)) (whole_ended full chunk i d lt e)
    (heard_then game w w1 w2 s v1 v2 l l1 l2 (whole_from full (take i chunk)) (rest_from full (take i chunk) ∷ []) h k)

-- the next byte goes to the line
pub heard_byte : (game : Game) (w w1 : Option (List ℕ)) (s : Standing) (P : List Typed → Standing → Type 0)
    (full chunk : List ℕ) (i d : ℕ)
    → Heard game w w1 s P (whole_from full (take i chunk)) → i < length chunk → (get_or chunk i d == 10) ≡ false
    → Heard game w w1 s P (whole_from full (take (i + 1) chunk))
heard_byte game w w1 s P full chunk i d h lt e = subst (Heard game w w1 s P) (whole_going full chunk i d lt e) h

-- all bytes of the chunk were heard
pub heard_all : (game : Game) (w w1 : Option (List ℕ)) (s : Standing) (P : List Typed → Standing → Type 0)
    (full chunk : List ℕ) (i : ℕ)
    → Heard game w w1 s P (whole_from full (take i chunk)) → length chunk ≤ i
    → Heard game w w1 s P (whole_from full chunk)
heard_all game w w1 s P full chunk i h le = subst (λ x. Heard game w w1 s P (whole_from full x))
    (take_all i chunk le) h

-- the next byte ends a line, and writing fails
pub heard_break : (game : Game) (w w1 w2 : Option (List ℕ)) (s : Standing) (v1 v2 : Session)
    (l l1 l2 : Option (List FileAct)) (full chunk : List ℕ) (i d : ℕ)
    → Heard game w w1 s (Leaves game s v1 l l1) (whole_from full (take i chunk)) → i < length chunk
    → get_or chunk i d ≡ 10
    → ((t : Standing) → IsSessionOf game t v1
    → Broke game w1 w2 t (Leaves game t v2 l1 l2) (rest_from full (take i chunk) ∷ []))
    → Broke game w w2 s (Leaves game s v2 l l2) (whole_from full chunk)
heard_break game w w1 w2 s v1 v2 l l1 l2 full chunk i d h lt e k =
    let later = whole_from (rest_from full (take (i + 1) chunk)) (drop (i + 1) chunk) in
    let all : whole_from full (take (i + 1) chunk) ++ later ≡ whole_from full chunk
    = sym (whole_from-append full (take (i + 1) chunk) (drop (i + 1) chunk))
    ∙ ap (whole_from full) (take-append-drop (i + 1) chunk) in
    subst (Broke game w w2 s (Leaves game s v2 l l2)) (ap (λ x. x ++ later) (whole_ended full chunk i d lt e) ∙ all)
    (broke_more later
    (heard_broke game w w1 w2 s v1 v2 l l1 l2 (whole_from full (take i chunk)) (rest_from full (take i chunk) ∷ []) h k))
