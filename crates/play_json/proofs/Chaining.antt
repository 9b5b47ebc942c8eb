-- What was heard, one part of the input after the other.
use Rattle.std.proofs.Common.{◌≡◌, ℕ, ◌+◌, ◌<◌, ◌≤◌, false, true, Option, List, [], ◌∷◌, ◌++◌, length, get_or, take, drop}
use Rattle.std.proofs.Common.{refl, ap, sym, ◌∙◌, subst, append_assoc, take-append-drop, ◌==◌, Result, Ok, Err, IsErr}
use Rattle.std.proofs.lemmas.List.{take_all}
use Rattle.session_lines.specs.Input.{whole_from, rest_from}
use Rattle.session_lines.proofs.Cutting.{whole_from-append, whole_ended, whole_going}
use Rattle.play_json.specs.Heard.{Answers, BrokeIn, Heard, Hears, IsBroken, IsHeard}
use Rattle.play_json.specs.Said.{Held}

-- lines were heard, and then more
pub heard_then : (ls ms : List (List ℕ)) (w w1 w2 : Option (List ℕ)) (v v1 v2 : Held)
    → Heard ls w v w1 v1 → Heard ms w1 v1 w2 v2 → Heard (ls ++ ms) w v w2 v2
heard_then [] ms w w1 w2 v v1 v2 h k =
    subst (λ x. Heard ms x v w2 v2) h.0 (subst (λ u. Heard ms w1 u w2 v2) h.1 k)
heard_then (l ∷ ls) ms w w1 w2 v v1 v2 h k = (h.0, h.1, h.2, heard_then ls ms h.0 w1 w2 h.1 v1 v2 h.3 k)

pub heard_one : (l : List ℕ) (w w' : Option (List ℕ)) (v v' : Held) → IsHeard l w v w' v'
    → Heard (l ∷ []) w v w' v'
heard_one l w w' v v' h = (w', v', h, (refl, refl))

-- lines were heard, and then writing failed
pub broke_then : (ls ms : List (List ℕ)) (w w1 w2 : Option (List ℕ)) (v v1 v2 : Held)
    → Heard ls w v w1 v1 → BrokeIn ms w1 v1 w2 v2 → BrokeIn (ls ++ ms) w v w2 v2
broke_then ls ms w w1 w2 v v1 v2 h k = record {
  heard = ls ++ k.heard;
  last = k.last;
  more = k.more;
  all = append_assoc ls k.heard (k.last ∷ k.more) ∙ ap (λ t. ls ++ t) k.all;
  holds = k.holds;
  before = k.before;
  went = heard_then ls k.heard w w1 k.holds v v1 k.before h k.went;
  broke = k.broke;
}

-- writing failed in the reply to a line, and more lines were left
pub broke_one : (l : List ℕ) (ms : List (List ℕ)) (w w' : Option (List ℕ)) (v v' : Held) → IsBroken l w v w' v'
    → BrokeIn (l ∷ ms) w v w' v'
broke_one l ms w w' v v' h = record {
  heard = [];
  last = l;
  more = ms;
  all = refl;
  holds = w;
  before = v;
  went = (refl, refl);
  broke = h;
}

no_err : false ≡ true → ⊥
no_err h = cc

pub answered_err : {A : Type 0} (l : List ℕ) (w w' : Option (List ℕ)) (v v' : Held) (r : Result (Unit {0}) A)
    → IsErr r → IsBroken l w v w' v' → Answers l w v w' v' r
answered_err l w w' v v' (Ok done) h p = absurd (no_err h)
answered_err l w w' v v' (Err x) h p = p

pub hears_err : {A : Type 0} (ls : List (List ℕ)) (w w' : Option (List ℕ)) (v v' : Held)
    (r : Result (Unit {0}) A) → IsErr r → BrokeIn ls w v w' v' → Hears ls w v w' v' r
hears_err ls w w' v v' (Ok done) h p = absurd (no_err h)
hears_err ls w w' v v' (Err x) h p = p

-- ---- a chunk, byte by byte; `full` is before it

-- the next byte ends a line
pub heard_end : (w w1 w2 : Option (List ℕ)) (v v1 v2 : Held) (full chunk : List ℕ) (i d : ℕ)
    → Heard (whole_from full (take i chunk)) w v w1 v1 → i < length chunk → get_or chunk i d ≡ 10
    → IsHeard (rest_from full (take i chunk)) w1 v1 w2 v2
    → Heard (whole_from full (take (i + 1) chunk)) w v w2 v2
heard_end w w1 w2 v v1 v2 full chunk i d h lt e k =
    subst (λ ls. Heard ls w v w2 v2) (whole_ended full chunk i d lt e)
    (heard_then (whole_from full (take i chunk)) (rest_from full (take i chunk) ∷ []) w w1 w2 v v1 v2 h
    (heard_one (rest_from full (take i chunk)) w1 w2 v1 v2 k))

-- the next byte goes to the line
pub heard_byte : (w w1 : Option (List ℕ)) (v v1 : Held) (full chunk : List ℕ) (i d : ℕ)
    → Heard (whole_from full (take i chunk)) w v w1 v1 → i < length chunk → (get_or chunk i d == 10) ≡ false
    → Heard (whole_from full (take (i + 1) chunk)) w v w1 v1
heard_byte w w1 v v1 full chunk i d h lt e =
    subst (λ ls. Heard ls w v w1 v1) (whole_going full chunk i d lt e) h

-- all bytes of the chunk were heard
pub heard_all : (w w1 : Option (List ℕ)) (v v1 : Held) (full chunk : List ℕ) (i : ℕ)
    → Heard (whole_from full (take i chunk)) w v w1 v1 → length chunk ≤ i → Heard (whole_from full chunk) w v w1 v1
heard_all w w1 v v1 full chunk i h le = subst (λ x. Heard (whole_from full x) w v w1 v1) (take_all i chunk le) h

-- the next byte ends a line, and writing fails
pub heard_break : (w w1 w2 : Option (List ℕ)) (v v1 v2 : Held) (full chunk : List ℕ) (i d : ℕ)
    → Heard (whole_from full (take i chunk)) w v w1 v1 → i < length chunk → get_or chunk i d ≡ 10
    → IsBroken (rest_from full (take i chunk)) w1 v1 w2 v2 → BrokeIn (whole_from full chunk) w v w2 v2
heard_break w w1 w2 v v1 v2 full chunk i d h lt e k =
    let line = rest_from full (take i chunk) in
    let later = whole_from (rest_from full (take (i + 1) chunk)) (drop (i + 1) chunk) in
    let all : whole_from full (take (i + 1) chunk) ++ later ≡ whole_from full chunk
    = sym (whole_from-append full (take (i + 1) chunk) (drop (i + 1) chunk))
    ∙ ap (whole_from full) (take-append-drop (i + 1) chunk) in
    subst (λ ls. BrokeIn ls w v w2 v2)
    (sym (append_assoc (whole_from full (take i chunk)) (line ∷ []) later)
    ∙ ap (λ x. x ++ later) (whole_ended full chunk i d lt e) ∙ all)
    (broke_then (whole_from full (take i chunk)) (line ∷ later) w w1 w2 v v1 v2 h
    (broke_one line later w1 w2 v1 v2 k))
