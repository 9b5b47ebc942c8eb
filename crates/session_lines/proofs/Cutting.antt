-- Lines of input, one part of it after the other.
use Rattle.std.proofs.Common.{◌≡◌, ℕ, ◌+◌, ◌<◌, ◌≤◌, Bool, true, false, List, [], ◌∷◌, ◌++◌, length, get_or, take}
use Rattle.std.proofs.Common.{refl, ap, sym, ◌∙◌, subst, append-nil, arith, if◌then◌else◌, ◌==◌}
use Rattle.std.proofs.lemmas.List.{take_all, take_more}
use Rattle.session_lines.specs.Input.{whole_from, rest_from, last_line}
use Rattle.session_lines.specs.Kept.{IsKept}
use Rattle.session_lines.specs.declared.line.Line.{Line}

whole_step : (line : List ℕ) (b : ℕ) (bs ys : List ℕ) (t : Bool)
    → whole_from [] (bs ++ ys) ≡ whole_from [] bs ++ whole_from (rest_from [] bs) ys
    → whole_from (line ++ b ∷ []) (bs ++ ys) ≡ whole_from (line ++ b ∷ []) bs
    ++ whole_from (rest_from (line ++ b ∷ []) bs) ys
    → (if t then line ∷ whole_from [] (bs ++ ys) else whole_from (line ++ b ∷ []) (bs ++ ys))
    ≡ (if t then line ∷ whole_from [] bs else whole_from (line ++ b ∷ []) bs)
    ++ whole_from (if t then rest_from [] bs else rest_from (line ++ b ∷ []) bs) ys
whole_step line b bs ys true p q = ap (λ x. line ∷ x) p
whole_step line b bs ys false p q = q

pub whole_from-append : (line xs ys : List ℕ) → whole_from line (xs ++ ys) ≡ whole_from line xs
    ++ whole_from (rest_from line xs) ys
whole_from-append line [] ys = refl
whole_from-append line (b ∷ bs) ys = whole_step line b bs ys (b == 10) (whole_from-append [] bs ys)
    (whole_from-append (line ++ b ∷ []) bs ys)

rest_step : (line : List ℕ) (b : ℕ) (bs ys : List ℕ) (t : Bool)
    → rest_from [] (bs ++ ys) ≡ rest_from (rest_from [] bs) ys
    → rest_from (line ++ b ∷ []) (bs ++ ys) ≡ rest_from (rest_from (line ++ b ∷ []) bs) ys
    → (if t then rest_from [] (bs ++ ys) else rest_from (line ++ b ∷ []) (bs ++ ys))
    ≡ rest_from (if t then rest_from [] bs else rest_from (line ++ b ∷ []) bs) ys
rest_step line b bs ys true p q = p
rest_step line b bs ys false p q = q

pub rest_from-append : (line xs ys : List ℕ) → rest_from line (xs ++ ys) ≡ rest_from (rest_from line xs) ys
rest_from-append line [] ys = refl
rest_from-append line (b ∷ bs) ys = rest_step line b bs ys (b == 10) (rest_from-append [] bs ys)
    (rest_from-append (line ++ b ∷ []) bs ys)

pub whole_end : (line : List ℕ) (b : ℕ) → b ≡ 10 → whole_from line (b ∷ []) ≡ line ∷ []
whole_end line b e = ap (λ x. whole_from line (x ∷ [])) e

pub rest_end : (line : List ℕ) (b : ℕ) → b ≡ 10 → rest_from line (b ∷ []) ≡ []
rest_end line b e = ap (λ x. rest_from line (x ∷ [])) e

pub whole_byte : (line : List ℕ) (b : ℕ) → (b == 10) ≡ false → whole_from line (b ∷ []) ≡ []
whole_byte line b e = ap (λ t. if t then line ∷ [] else []) e

pub rest_byte : (line : List ℕ) (b : ℕ) → (b == 10) ≡ false → rest_from line (b ∷ []) ≡ line ++ b ∷ []
rest_byte line b e = ap (λ t. if t then [] else line ++ b ∷ []) e

-- ---- a chunk, byte by byte; `line` stands before it

pub whole_ended : (line chunk : List ℕ) (i d : ℕ) → i < length chunk → get_or chunk i d ≡ 10
    → whole_from line (take i chunk) ++ (rest_from line (take i chunk) ∷ []) ≡ whole_from line (take (i + 1) chunk)
whole_ended line chunk i d lt e =
    ap (λ x. whole_from line (take i chunk) ++ x)
    (sym (whole_end (rest_from line (take i chunk)) (get_or chunk i d) e))
    ∙ sym (whole_from-append line (take i chunk) (get_or chunk i d ∷ []))
    ∙ ap (whole_from line) (sym (take_more chunk i d lt))

pub whole_going : (line chunk : List ℕ) (i d : ℕ) → i < length chunk → (get_or chunk i d == 10) ≡ false
    → whole_from line (take i chunk) ≡ whole_from line (take (i + 1) chunk)
whole_going line chunk i d lt e =
    sym (append-nil (whole_from line (take i chunk)))
    ∙ ap (λ x. whole_from line (take i chunk) ++ x)
    (sym (whole_byte (rest_from line (take i chunk)) (get_or chunk i d) e))
    ∙ sym (whole_from-append line (take i chunk) (get_or chunk i d ∷ []))
    ∙ ap (whole_from line) (sym (take_more chunk i d lt))

pub kept_end : (full chunk : List ℕ) (line : Line) (i d : ℕ) → i < length chunk → get_or chunk i d ≡ 10
    → IsKept line [] → IsKept line (rest_from full (take (i + 1) chunk))
kept_end full chunk line i d lt e = subst (IsKept line)
    (sym (rest_end (rest_from full (take i chunk)) (get_or chunk i d) e)
    ∙ sym (rest_from-append full (take i chunk) (get_or chunk i d ∷ []))
    ∙ ap (rest_from full) (sym (take_more chunk i d lt)))

pub kept_byte : (full chunk : List ℕ) (line : Line) (i d : ℕ) → i < length chunk → (get_or chunk i d == 10) ≡ false
    → IsKept line (rest_from full (take i chunk) ++ get_or chunk i d ∷ [])
    → IsKept line (rest_from full (take (i + 1) chunk))
kept_byte full chunk line i d lt e = subst (IsKept line)
    (sym (rest_byte (rest_from full (take i chunk)) (get_or chunk i d) e)
    ∙ sym (rest_from-append full (take i chunk) (get_or chunk i d ∷ []))
    ∙ ap (rest_from full) (sym (take_more chunk i d lt)))

pub kept_all : (full chunk : List ℕ) (line : Line) (i : ℕ) → length chunk ≤ i
    → IsKept line (rest_from full (take i chunk)) → IsKept line (rest_from full chunk)
kept_all full chunk line i le = subst (λ x. IsKept line (rest_from full x)) (take_all i chunk le)

-- ---- the end of the input

last_some : (xs : List ℕ) → 0 < length xs → last_line xs ≡ xs ∷ []
last_some [] h = absurd (omega arith)
last_some (x ∷ xs) h = refl

last_none : (xs : List ℕ) → length xs ≤ 0 → last_line xs ≡ []
last_none [] h = refl
last_none (x ∷ xs) h = absurd (omega arith)

-- the buffer says whether a last line is there
pub kept_some : (line : Line) (full : List ℕ) → IsKept line full → 0 < line.len → last_line full ≡ full ∷ []
kept_some line full kept h = last_some full (let e = kept.size in omega arith)

pub kept_none : (line : Line) (full : List ℕ) → IsKept line full → line.len ≤ 0 → last_line full ≡ []
kept_none line full kept h = last_none full (let e = kept.size in omega arith)
