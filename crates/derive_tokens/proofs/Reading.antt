-- The lexer reads again what is written.
use Rattle.std.proofs.Common.{◌≡◌, ℕ, zero, suc, ◌+◌, ◌-◌, ◌<◌, ◌≤◌, ◌⊎◌, Bool, true, false, cond, List, [], ◌∷◌, ◌++◌}
use Rattle.std.proofs.Common.{length, take, drop, get_or, Ok, refl, sym, ap, ◌∙◌, subst, arith, inl, inr, max, length-append}
use Rattle.std.proofs.Common.{append-nil, append_assoc, decimal}
use Rattle.std.specs.Prelude.{nat_lt, replicate}
use Rattle.std.proofs.Math.Seq.{drop-append_seam}
use Rattle.std.proofs.lemmas.List.Elements.{All-head, All-tail}
use Rattle.std.proofs.lemmas.Bool.{ltb-true, ltb-false}
use Rattle.std.proofs.lemmas.Bool.Decides.{nat_tests}
use Rattle.std.proofs.lemmas.List.{length-replicate}
use Rattle.std.specs.List.{All}
use Rattle.syntax_lexer.specs.declared.token.Position.{Position}
use Rattle.syntax_lexer.specs.Bytes.{is_divider, is_name_byte}
use Rattle.syntax_lexer.specs.Spelling.{Spells}
use Rattle.syntax_lexer.specs.Token.{Lexeme, name, number, text, character, dictionary_word, reserved, sign, end, position_of}
use Rattle.syntax_lexer.specs.Tokens.{IsLongest, IsAllowed, Lexes, TokenOutcome, SourceToken, EndsOnce, at_end, divider}
use Rattle.syntax_lexer.specs.Tokens.{token}
use Rattle.derive_tokens.specs.Spelled.{spelling}
use Rattle.derive_tokens.specs.Written.{gap, line_of, written_from, written}
use Rattle.derive_tokens.specs.ReadBack.{IsWritable, at_position, found_at, found_from, AreWritable}
use Rattle.derive_tokens.proofs.Ends.{ends_there}
use Rattle.derive_tokens.proofs.Numbers.{spells_number}

-- nothing follows, or a byte that divides tokens
pub data Follows : List ℕ → Type 0 where
  nothing : Follows []
  divides : {b : ℕ} {bs : List ℕ} → is_divider b ≡ true → Follows (b ∷ bs)

front : (xs ys : List ℕ) → take (length xs) (xs ++ ys) ≡ xs
front [] ys = refl
front (x ∷ xs) ys = ap (λ zs. x ∷ zs) (front xs ys)

longer : (xs ys : List ℕ) (m : ℕ) → length xs ≤ m → take m (xs ++ ys) ≡ xs ++ take (m - length xs) ys
longer [] ys m le = let same : m ≡ m - 0 = omega arith in ap (λ k. take k ys) same
longer (x ∷ xs) ys zero le = absurd (omega arith)
longer (x ∷ xs) ys (suc m) le =
    let same : m - length xs ≡ suc m - length (x ∷ xs) = omega arith in
    ap (λ zs. x ∷ zs) (longer xs ys m (omega arith)) ∙ ap (λ k. x ∷ (xs ++ take k ys)) same

longest : (x : Lexeme) (s rest : List ℕ) → Spells x s → Follows rest → IsLongest (s ++ rest) x (length s)
longest x s rest h f = record {
  within = omega (arith, length-append s rest);
  spelled = subst (Spells x) (sym (front s rest)) h;
  no_longer = λ other m lt le t. go other rest f m lt le t;
}
  where
    go : (other : Lexeme) (rest : List ℕ) → Follows rest → (m : ℕ) → length s < m → m ≤ length (s ++ rest)
        → Spells other (take m (s ++ rest)) → ⊥
    go other [] nothing m lt le t = omega (arith, length-append s [], lt, le)
    go other (b ∷ bs) (divides d) m lt le t = past (m - length s) (omega (arith, lt))
        (subst (Spells other) (longer s (b ∷ bs) m (omega (arith, lt))) t)
      where
        past : (k : ℕ) → 0 < k → Spells other (s ++ take k (b ∷ bs)) → ⊥
        past zero some t = omega (arith, some)
        past (suc k) some t = ends_there x other s b (take k bs) d h t

first_byte : (rest : List ℕ) → Follows rest → is_name_byte (get_or rest 0 0) ≡ false
first_byte [] f = refl
first_byte (b ∷ bs) (divides d) = go b d
  where
    go : (b : ℕ) → is_divider b ≡ true → is_name_byte b ≡ false
    go b d = grind (arith, nat_tests)

allowed : (p : Position) (t : Lexeme) (rest : List ℕ) → IsWritable t → Follows rest → IsAllowed (at_position p t) rest
allowed p (name s q) rest w f = w.1
allowed p (number n q) rest w f = (w, first_byte rest f)
allowed p (text s q) rest w f = tt
allowed p (character c q) rest w f = tt
allowed p (dictionary_word s q) rest w f = tt
allowed p (reserved v q) rest w f = tt
allowed p (sign s q) rest w f = tt
allowed p (end q) rest w f = tt

spelled : (p : Position) (t : Lexeme) → IsWritable t → ((q : Position) → t ≡ end q → ⊥)
    → Spells (at_position p t) (spelling t)
spelled p (name s q) w n = w.0
spelled p (number v q) w n = spells_number v w
spelled p (text s q) w n = w
spelled p (character c q) w n = w
spelled p (dictionary_word s q) w n = w
spelled p (reserved v q) w n = w
spelled p (sign s q) w n = w
spelled p (end q) w n = absurd (n q refl)

placed : (p : Position) (t : Lexeme) → position_of (at_position p t) ≡ p
placed p (name s q) = refl
placed p (number v q) = refl
placed p (text s q) = refl
placed p (character c q) = refl
placed p (dictionary_word s q) = refl
placed p (reserved v q) = refl
placed p (sign s q) = refl
placed p (end q) = refl

-- ---- gaps

lines : (n at line : ℕ) (rest : List ℕ) (o : TokenOutcome) → Lexes (at + n) (line + n) rest o
    → Lexes at line (replicate n 10 ++ rest) o
lines zero at line rest o h =
    let here : at + 0 ≡ at = omega arith in
    let same : line + 0 ≡ line = omega arith in
    subst (λ k. Lexes k line rest o) here (subst (λ k. Lexes (at + 0) k rest o) same h)
lines (suc n) at line rest o h =
    let after : at + suc n ≡ at + 1 + n = omega arith in
    let below : line + suc n ≡ line + 1 + n = omega arith in
    divider refl
    (lines n (at + 1) (line + 1) rest o
    (subst (λ k. Lexes k (line + 1 + n) rest o) after (subst (λ k. Lexes (at + suc n) k rest o) below h)))

abbrev gap_if : Bool → ℕ → ℕ → List ℕ
gap_if t line wanted = cond t (replicate (wanted - line) 10) (32 ∷ [])

over_gap : (at line wanted : ℕ) (rest : List ℕ) (o : TokenOutcome)
    → Lexes (at + length (gap line wanted)) (max line wanted) rest o → Lexes at line (gap line wanted ++ rest) o
over_gap at line wanted rest o = go (nat_lt line wanted) refl
  where
    go : (t : Bool) → nat_lt line wanted ≡ t
        → Lexes (at + length (gap_if t line wanted)) (max line wanted) rest o
        → Lexes at line (gap_if t line wanted ++ rest) o
    go true e h =
        let lt = ltb-true line wanted e in
        let size : length (gap_if true line wanted) ≡ wanted - line = length-replicate (wanted - line) 10 in
        let whole : max line wanted ≡ line + (wanted - line) = omega (arith, lt) in
        lines (wanted - line) at line rest o
        (subst (λ k. Lexes (at + k) (line + (wanted - line)) rest o) size
        (subst (λ k. Lexes (at + length (gap_if true line wanted)) k rest o) whole h))
    go false e h =
        let le = ltb-false line wanted e in
        let whole : max line wanted ≡ line = omega (arith, le) in
        divider refl (subst (λ k. Lexes (at + 1) k rest o) whole h)

gap_divides : (line wanted : ℕ) (more : List ℕ) → Follows (gap line wanted ++ more)
gap_divides line wanted more = go (nat_lt line wanted) refl
  where
    some : (n : ℕ) → 0 < n → Follows (replicate n 10 ++ more)
    some zero lt = absurd (omega (arith, lt))
    some (suc n) lt = divides refl

    go : (t : Bool) → nat_lt line wanted ≡ t → Follows (gap_if t line wanted ++ more)
    go true e = some (wanted - line) (let lt = ltb-true line wanted e in omega (arith, lt))
    go false e = divides refl

follows : (line : ℕ) (ts : List Lexeme) → Follows (written_from line ts)
follows line [] = nothing
follows line (t ∷ ts) = gap_divides line (line_of t) (spelling t ++ written_from (max line (line_of t)) ts)

-- ---- tokens

one_token : (at line : ℕ) (t : Lexeme) (rest : List ℕ) (ts : List SourceToken) → IsWritable t
    → ((q : Position) → t ≡ end q → ⊥) → Follows rest → Lexes (at + length (spelling t)) line rest (Ok ts)
    → Lexes at line (spelling t ++ rest) (Ok (found_at at line t ∷ ts))
one_token at line t rest ts w n f h =
    let p : Position = record { offset = at; line = line } in
    let s = spelling t in
    let behind : drop (length s) (s ++ rest) ≡ rest = drop-append_seam s rest in
    subst (λ xs. Lexes at line (s ++ rest)
    (Ok (record { lexeme = at_position p t; text = xs; end = at + length s } ∷ ts))) (front s rest)
    (token (placed p t) (longest (at_position p t) s rest (spelled p t w n) f)
    (allowed p t (drop (length s) (s ++ rest)) w (subst Follows (sym behind) f))
    (subst (λ xs. Lexes (at + length s) line xs (Ok ts)) (sym behind) h))

no_end : (t : Lexeme) (ts : List Lexeme) → EndsOnce (t ∷ ts)
    → ((q : Position) × (t ≡ end q) × (ts ≡ [])) ⊎ (((q : Position) → t ≡ end q → ⊥) × EndsOnce ts)
no_end (name s p) ts e = inr (λ q r. cc r, e)
no_end (number v p) ts e = inr (λ q r. cc r, e)
no_end (text s p) ts e = inr (λ q r. cc r, e)
no_end (character c p) ts e = inr (λ q r. cc r, e)
no_end (dictionary_word s p) ts e = inr (λ q r. cc r, e)
no_end (reserved w p) ts e = inr (λ q r. cc r, e)
no_end (sign s p) ts e = inr (λ q r. cc r, e)
no_end (end p) ts e = inl (p, refl, e)

the_end : (at line : ℕ) (q : Position) → Lexes at line (written_from line (end q ∷ [])) (Ok (found_from at line (end q ∷ [])))
the_end at line q =
    let start : ℕ = at + length (gap line q.line) in
    let same : start ≡ start + 0 = omega arith in
    over_gap at line q.line [] _
    (subst (λ k. Lexes start (max line q.line) []
    (Ok (record {
      lexeme = end (record { offset = start; line = max line q.line });
      text = [];
      end = k;
    } ∷ []))) same at_end)

reads_from : (at line : ℕ) (ts : List Lexeme) → All IsWritable ts → EndsOnce ts
    → Lexes at line (written_from line ts) (Ok (found_from at line ts))
reads_from at line [] w e = absurd e
reads_from at line (t ∷ ts) w e = elim (no_end t ts e) [
  | inl h ↦ rw (h.1, h.2) (the_end at line h.0)
  | inr h ↦
      over_gap at line (line_of t) _ _
      (one_token (at + length (gap line (line_of t))) (max line (line_of t)) t
      (written_from (max line (line_of t)) ts) _ (All-head IsWritable t ts w) h.0
      (follows (max line (line_of t)) ts)
      (reads_from (at + length (gap line (line_of t)) + length (spelling t)) (max line (line_of t)) ts
      (All-tail IsWritable t ts w) h.1))
]

pub reads_back : (ts : List Lexeme) → AreWritable ts → Lexes 0 1 (written ts) (Ok (found_from 0 1 ts))
reads_back ts h = reads_from 0 1 ts h.0 h.1
