-- The bytes have one outcome.
use Rattle.std.proofs.Common.{◌≡◌, ℕ, zero, suc, ◌+◌, ◌<◌, ◌≤◌, ◌⊎◌, Bool, true, false, List, [], ◌∷◌, ◌++◌, length}
use Rattle.std.proofs.Common.{get_or, take, drop, Some, Err, refl, sym, ap, subst, ◌∙◌, arith, inl, inr}
use lib.Chars.{codes}
use Rattle.std.proofs.Math.Seq.{drop-append_seam, take-length}
use Rattle.std.proofs.lemmas.Bool.{cases_order, eqb-false}
use Rattle.syntax_lexer.specs.declared.bytes.Base.TheVariants as bases
use Rattle.syntax_lexer.specs.declared.fault.LexicalFault.{LexicalFault}
use Rattle.syntax_lexer.specs.declared.fault.LexicalFault.TheVariants as f
use Rattle.syntax_lexer.specs.declared.token.Position.{Position}
use Rattle.syntax_lexer.specs.declared.token.Word.{Word}
use Rattle.syntax_lexer.specs.Token.{Lexeme, name, number, text, character, dictionary_word, reserved, sign, end}
use Rattle.syntax_lexer.specs.Token.{position_of}
use Rattle.syntax_lexer.specs.Bytes.{is_divider, value_from}
use Rattle.syntax_lexer.specs.Spelling.{IsName, IsReserved, IsNumber, IsDictionaryWord, prefix, quoted, Spells}
use Rattle.syntax_lexer.specs.Tokens.{IsLongest, IsAllowed, Breaks, number_of, put, Lexes, at_end, divider}
use Rattle.syntax_lexer.specs.Tokens.{TokenOutcome, comment, token, fault}
use Rattle.syntax_lexer.proofs.SignTables.{same_sign}
use Rattle.syntax_lexer.proofs.WordTables.{same_word}
use Rattle.syntax_lexer.proofs.Beginnings.{class_of, class_at, begins, takes, divider_class, comment_class, text_class}
use Rattle.syntax_lexer.proofs.Beginnings.{quoted_class}
use Rattle.syntax_lexer.proofs.NumberTokens.{base_is}
use Rattle.syntax_lexer.proofs.Contents.{same_front, long_word, not_plain}

-- ---- one spelling is of one token

same_number : (v w : ℕ) (bs : List ℕ) → IsNumber v bs → IsNumber w bs → v ≡ w
same_number v w bs p q =
    let whole : take (length bs) bs ≡ bs = take-length bs in
    let base : p.0 ≡ q.0 = base_is bs p.1 p.0 (length bs) (whole ∙ p.2) p.3 p.4
    ∙ sym (base_is bs q.1 q.0 (length bs) (whole ∙ q.2) q.3 q.4) in
    let digits : p.1 ≡ q.1 = sym (drop-append_seam (prefix p.0) p.1)
    ∙ ap (drop (length (prefix p.0))) (sym p.2 ∙ q.2)
    ∙ ap (λ b. drop (length (prefix b)) (prefix q.0 ++ q.1)) base ∙ drop-append_seam (prefix q.0) q.1 in
    p.5 ∙ ap (λ b. value_from b 0 p.1) base ∙ ap (value_from q.0 0) digits ∙ sym q.5

same_quoted : (s t bs : List ℕ) → bs ≡ quoted s → bs ≡ quoted t → s ≡ t
same_quoted s t bs p q = let e : s ++ 39 ∷ [] ≡ t ++ 39 ∷ [] = cc (sym p ∙ q) in same_front s t (39 ∷ []) e

same_text : (s t bs : List ℕ) → bs ≡ 34 ∷ (s ++ 34 ∷ []) → bs ≡ 34 ∷ (t ++ 34 ∷ []) → s ≡ t
same_text s t bs p q = let e : s ++ 34 ∷ [] ≡ t ++ 34 ∷ [] = cc (sym p ∙ q) in same_front s t (34 ∷ []) e

same_dictionary_word : (s t content : List ℕ) → IsDictionaryWord s content → IsDictionaryWord t content → s ≡ t
same_dictionary_word s t content p q = go p.1 q.1
  where
    go : ((2 ≤ length s) × (content ≡ s)) ⊎ (content ≡ s ++ codes "//")
        → ((2 ≤ length t) × (content ≡ t)) ⊎ (content ≡ t ++ codes "//") → s ≡ t
    go (inl a) (inl b) = sym a.1 ∙ b.1
    go (inl a) (inr b) = absurd (not_plain t s (sym a.1 ∙ b) p.0)
    go (inr a) (inl b) = absurd (not_plain s t (sym b.1 ∙ a) q.0)
    go (inr a) (inr b) = same_front s t (codes "//") (sym a ∙ b)

named_reserved : (bs : List ℕ) (w : Word) → IsName bs → IsReserved w bs → ⊥
named_reserved [] w h r = h
named_reserved (b ∷ bs) w h r = h.2 w r

same_lexeme : (b : ℕ) (bs : List ℕ) (x y : Lexeme) → Spells x (b ∷ bs) → Spells y (b ∷ bs)
    → position_of x ≡ position_of y → x ≡ y
same_lexeme b bs x y p q at = go x y p q at (sym (begins x b bs p) ∙ begins y b bs q)
  where
    go : (x y : Lexeme) → Spells x (b ∷ bs) → Spells y (b ∷ bs) → position_of x ≡ position_of y
        → class_of x ≡ class_of y → x ≡ y
    go (name s i) (name t j) p q at e = let same : s ≡ t = p.0 ∙ sym q.0 in rw (same, at) refl
    go (name s i) (reserved w j) p q at e = absurd (named_reserved (b ∷ bs) w p.1 q)
    go (reserved w i) (name s j) p q at e = absurd (named_reserved (b ∷ bs) w q.1 p)
    go (reserved w i) (reserved v j) p q at e = let same : w ≡ v = same_word w v (b ∷ bs) p q in rw (same, at) refl
    go (number v i) (number w j) p q at e = let same : v ≡ w = same_number v w (b ∷ bs) p q in rw (same, at) refl
    go (text s i) (text t j) p q at e = let same : s ≡ t = same_text s t (b ∷ bs) p.1 q.1 in rw (same, at) refl
    go (character c i) (character d j) p q at e =
        let content = same_quoted p.0 q.0 (b ∷ bs) p.2 q.2 in
        let same : c ≡ d = ap (λ xs. get_or xs 0 0) (sym p.1.1 ∙ content ∙ q.1.1) in
        rw (same, at) refl
    go (character c i) (dictionary_word s j) p q at e =
        let content = same_quoted p.0 q.0 (b ∷ bs) p.2 q.2 in
        absurd (omega (arith, ap length (sym p.1.1 ∙ content), long_word s q.0 q.1))
    go (dictionary_word s i) (character c j) p q at e =
        let content = same_quoted p.0 q.0 (b ∷ bs) p.2 q.2 in
        absurd (omega (arith, ap length (content ∙ q.1.1), long_word s p.0 p.1))
    go (dictionary_word s i) (dictionary_word t j) p q at e =
        let content = same_quoted p.0 q.0 (b ∷ bs) p.2 q.2 in
        let same : s ≡ t = same_dictionary_word s t q.0 (subst (IsDictionaryWord s) content p.1) q.1 in
        rw (same, at) refl
    go (sign s i) (sign t j) p q at e = let same : s ≡ t = same_sign s t (sym p ∙ q) in rw (same, at) refl
    go (end i) y p q at e = absurd p
    go x y p q at e = absurd (omega arith)

-- ---- longest tokens

pub same_length : (bs : List ℕ) (x y : Lexeme) (m n : ℕ) → IsLongest bs x m → IsLongest bs y n → m ≡ n
same_length bs x y m n p q =
    elim (cases_order m n) [
      | inl e ↦ e
      | inr o ↦ elim o [
        | inl lt ↦ absurd (p.no_longer y n lt q.within q.spelled)
        | inr lt ↦ absurd
            (q.no_longer x m lt p.within p.spelled)
      ]
    ]

-- a token takes a byte
some_byte : (bs : List ℕ) (x : Lexeme) (n : ℕ) → IsLongest bs x n → 0 < length bs
some_byte bs x zero p = absurd (omega (arith, takes x [] p.spelled))
some_byte bs x (suc n) p = omega (arith, p.within)

same_token : (bs : List ℕ) (x y : Lexeme) (m n : ℕ) → IsLongest bs x m → IsLongest bs y n
    → position_of x ≡ position_of y → x ≡ y
same_token bs x y m n p q at = go bs m p.spelled
    (subst (λ k. Spells y (take k bs)) (sym (same_length bs x y m n p q)) q.spelled)
  where
    go : (bs : List ℕ) (m : ℕ) → Spells x (take m bs) → Spells y (take m bs) → x ≡ y
    go bs zero s t = absurd (omega (arith, takes x [] s))
    go [] (suc m) s t = absurd (omega (arith, takes x [] s))
    go (b ∷ bs) (suc m) s t = same_lexeme b (take m bs) x y s t at

class_small : (x : Lexeme) → class_of x < 6
class_small (name s p) = omega arith
class_small (number v p) = omega arith
class_small (text s p) = omega arith
class_small (character c p) = omega arith
class_small (dictionary_word s p) = omega arith
class_small (reserved w p) = omega arith
class_small (sign s p) = omega arith
class_small (end p) = omega arith

token_class : (b : ℕ) (bs : List ℕ) (x : Lexeme) (n : ℕ) → IsLongest (b ∷ bs) x n → class_at b ≡ class_of x
token_class b bs x zero p = absurd (omega (arith, takes x [] p.spelled))
token_class b bs x (suc n) p = begins x b (take n bs) p.spelled

abbrev pub Apart : ℕ → Type 0
Apart b = (is_divider b ≡ true → ⊥) × (b ≡ 33 → ⊥)

token_apart : (b : ℕ) (bs : List ℕ) (x : Lexeme) (n : ℕ) → IsLongest (b ∷ bs) x n → Apart b
token_apart b bs x n p =
    let e = token_class b bs x n p in
    (λ d. omega (arith, e, divider_class b d, class_small x), λ c. omega (arith, e, comment_class b c, class_small x))

-- ---- faults

clash : (t : Bool) → t ≡ true → t ≡ false → ⊥
clash t p q = cc

fault_apart : (b : ℕ) (bs : List ℕ) (g : LexicalFault) → Breaks g (b ∷ bs) → Apart b
fault_apart b bs f.StrayByte h = (λ d. clash (is_divider b) d h.0, eqb-false b 33 h.1)
fault_apart b bs f.BadText h = elim h.0 [
  | inl e ↦ (λ d. clash (is_divider b) d (rw e refl), λ c. omega (arith, e, c))
  | inr e ↦
      (λ d. clash (is_divider b) d (rw e refl), λ c. omega (arith, e, c))
]
fault_apart b bs f.BadNumber h = elim h [
  | inl e ↦ (λ d. clash (is_divider b) d (rw e.0 refl), λ c. omega (arith, e.0, c))
  | inr e ↦ token_apart b bs
      (number e.0 e.2) e.1 e.3
]
fault_apart b bs f.NameTooLong h = token_apart b bs (name h.0 h.2) h.1 h.3

fault_some : (g : LexicalFault) → Breaks g [] → ⊥
fault_some f.StrayByte h = h
fault_some f.BadText h = h
fault_some f.BadNumber h = elim h [ inl e ↦ cc (e.0) | inr e ↦ omega (arith, some_byte [] (number e.0 e.2) e.1 e.3) ]
fault_some f.NameTooLong h = omega (arith, some_byte [] (name h.0 h.2) h.1 h.3)

-- a fault stands at a byte that divides no tokens
pub fault_begins : (bs : List ℕ) (g : LexicalFault) → Breaks g bs → is_divider (get_or bs 0 0) ≡ false
fault_begins [] g h = absurd (fault_some g h)
fault_begins (b ∷ bs) g h = go (is_divider b) refl
  where
    go : (t : Bool) → is_divider b ≡ t → is_divider b ≡ false
    go false q = q
    go true q = absurd ((fault_apart b bs g h).0 q)

number_moved : (bs : List ℕ) (v n : ℕ) (p q : Position) → IsLongest bs (number v p) n → IsLongest bs (number v q) n
number_moved bs v n p q h = record { within = h.within; spelled = h.spelled; no_longer = h.no_longer }

name_moved : (bs s : List ℕ) (n : ℕ) (p q : Position) → IsLongest bs (name s p) n → IsLongest bs (name s q) n
name_moved bs s n p q h = record { within = h.within; spelled = h.spelled; no_longer = h.no_longer }

-- a token that is allowed breaks no rule
no_break : (b : ℕ) (bs : List ℕ) (x : Lexeme) (n : ℕ) (g : LexicalFault) → IsLongest (b ∷ bs) x n
    → IsAllowed x (drop n (b ∷ bs)) → Breaks g (b ∷ bs) → ⊥
no_break b bs x zero g p good h = omega (arith, takes x [] p.spelled)
no_break b bs x (suc n) f.StrayByte p good h = h.2 x (take n bs) p.spelled
no_break b bs x (suc n) f.BadText p good h = h.1 x (suc n) p.spelled
no_break b bs x (suc n) f.BadNumber p good (inl h) = h.1 x (suc n) p.spelled
no_break b bs x (suc n) f.BadNumber p good (inr h) =
    let long = number_moved (b ∷ bs) h.0 h.1 h.2 (position_of x) h.3 in
    let size : suc n ≡ h.1 = same_length (b ∷ bs) x (number h.0 (position_of x)) (suc n) h.1 p long in
    let same : x ≡ number h.0 (position_of x) = same_token (b ∷ bs) x (number h.0 (position_of x)) (suc n) h.1 p long
    refl in
    let allowed = subst (λ k. IsAllowed (number h.0 (position_of x)) (drop k (b ∷ bs))) size
    (subst (λ y. IsAllowed y (drop (suc n) (b ∷ bs))) same good) in
    elim h.4 [ inl lt ↦ omega (arith, lt, allowed.0) | inr more ↦ clash _ more allowed.1 ]
no_break b bs x (suc n) f.NameTooLong p good h =
    let long = name_moved (b ∷ bs) h.0 h.1 h.2 (position_of x) h.3 in
    let same : x ≡ name h.0 (position_of x) = same_token (b ∷ bs) x (name h.0 (position_of x)) (suc n) h.1
    p long refl in
    let allowed : length h.0 ≤ 32 = subst (λ y. IsAllowed y (drop (suc n) (b ∷ bs))) same good in
    omega (arith, allowed, h.4)

-- a longest token, however refused, is no stray byte, no quote, and no `$` without digits
token_no_stray : (b : ℕ) (bs : List ℕ) (x : Lexeme) (n : ℕ) → IsLongest (b ∷ bs) x n → Breaks f.StrayByte (b ∷ bs) → ⊥
token_no_stray b bs x zero p h = omega (arith, takes x [] p.spelled)
token_no_stray b bs x (suc n) p h = h.2 x (take n bs) p.spelled

quote_no_stray : (b : ℕ) (bs : List ℕ) → (b ≡ 34) ⊎ (b ≡ 39) → Breaks f.StrayByte (b ∷ bs) → ⊥
quote_no_stray b bs (inl e) h = h.2 (text [] (record { offset = 0; line = 0 })) (34 ∷ []) (tt, rw e refl)
quote_no_stray b bs (inr e) h = h.2 (character 97 (record { offset = 0; line = 0 })) (97 ∷ 39 ∷ [])
    (97 ∷ [], (refl, refl), rw e refl)

dollar_no_stray : (b : ℕ) (bs : List ℕ) → b ≡ 36 → Breaks f.StrayByte (b ∷ bs) → ⊥
unfolding value_from
dollar_no_stray b bs e h = h.2 (number 1 (record { offset = 0; line = 0 })) (49 ∷ []) dollar_one
  where
    dollar_one : IsNumber 1 (b ∷ 49 ∷ [])
    dollar_one = (bases.Hexadecimal, 49 ∷ [], rw e refl, omega arith, (refl, tt), refl)

quote_class : (b : ℕ) → (b ≡ 34) ⊎ (b ≡ 39) → 2 < class_at b
quote_class b (inl e) = omega (arith, text_class b e)
quote_class b (inr e) = omega (arith, quoted_class b e)

number_no_stray : (b : ℕ) (bs : List ℕ) → Breaks f.BadNumber (b ∷ bs) → Breaks f.StrayByte (b ∷ bs) → ⊥
number_no_stray b bs (inl e) h = dollar_no_stray b bs e.0 h
number_no_stray b bs (inr e) h = token_no_stray b bs (number e.0 e.2) e.1 e.3 h

number_no_quote : (b : ℕ) (bs : List ℕ) → Breaks f.BadNumber (b ∷ bs) → (b ≡ 34) ⊎ (b ≡ 39) → ⊥
number_no_quote b bs (inl e) h = elim h [ inl q ↦ omega (arith, e.0, q) | inr q ↦ omega (arith, e.0, q) ]
number_no_quote b bs (inr e) h = omega (arith, token_class b bs (number e.0 e.2) e.1 e.3, quote_class b h)

number_no_name : (b : ℕ) (bs : List ℕ) → Breaks f.BadNumber (b ∷ bs) → Breaks f.NameTooLong (b ∷ bs) → ⊥
number_no_name b bs (inl e) h = e.1 (name h.0 h.2) h.1 h.3.spelled
number_no_name b bs (inr e) h = omega
    (arith, token_class b bs (number e.0 e.2) e.1 e.3, token_class b bs (name h.0 h.2) h.1 h.3)

same_fault : (bs : List ℕ) (g h : LexicalFault) → Breaks g bs → Breaks h bs → g ≡ h
same_fault [] g h p q = absurd (fault_some g p)
same_fault (b ∷ bs) f.StrayByte f.StrayByte p q = refl
same_fault (b ∷ bs) f.StrayByte f.BadText p q = absurd (quote_no_stray b bs q.0 p)
same_fault (b ∷ bs) f.StrayByte f.BadNumber p q = absurd (number_no_stray b bs q p)
same_fault (b ∷ bs) f.StrayByte f.NameTooLong p q = absurd (token_no_stray b bs (name q.0 q.2) q.1 q.3 p)
same_fault (b ∷ bs) f.BadText f.StrayByte p q = absurd (quote_no_stray b bs p.0 q)
same_fault (b ∷ bs) f.BadText f.BadText p q = refl
same_fault (b ∷ bs) f.BadText f.BadNumber p q = absurd (number_no_quote b bs q p.0)
same_fault (b ∷ bs) f.BadText f.NameTooLong p q = absurd (p.1 (name q.0 q.2) q.1 q.3.spelled)
same_fault (b ∷ bs) f.BadNumber f.StrayByte p q = absurd (number_no_stray b bs p q)
same_fault (b ∷ bs) f.BadNumber f.BadText p q = absurd (number_no_quote b bs p q.0)
same_fault (b ∷ bs) f.BadNumber f.BadNumber p q = refl
same_fault (b ∷ bs) f.BadNumber f.NameTooLong p q = absurd (number_no_name b bs p q)
same_fault (b ∷ bs) f.NameTooLong f.StrayByte p q = absurd (token_no_stray b bs (name p.0 p.2) p.1 p.3 q)
same_fault (b ∷ bs) f.NameTooLong f.BadText p q = absurd (q.1 (name p.0 p.2) p.1 p.3.spelled)
same_fault (b ∷ bs) f.NameTooLong f.BadNumber p q = absurd (number_no_name b bs q p)
same_fault (b ∷ bs) f.NameTooLong f.NameTooLong p q = refl

-- ---- the whole

no_token_at_end : (x : Lexeme) (n : ℕ) → IsLongest [] x n → ⊥
no_token_at_end x n p = omega (arith, some_byte [] x n p)

-- a token begins with a byte that divides no tokens and begins no comment
pub token_front : (bs : List ℕ) (x : Lexeme) (n : ℕ) → IsLongest bs x n → (0 < length bs) × Apart (get_or bs 0 0)
token_front [] x n p = absurd (no_token_at_end x n p)
token_front (b ∷ bs) x n p = (omega arith, token_apart b bs x n p)

pub no_break_at : (bs : List ℕ) (x : Lexeme) (n : ℕ) (g : LexicalFault) → IsLongest bs x n → IsAllowed x (drop n bs)
    → Breaks g bs → ⊥
no_break_at [] x n g p good h = no_token_at_end x n p
no_break_at (b ∷ bs) x n g p good h = no_break b bs x n g p good h

pub one_outcome : {at line : ℕ} {bs : List ℕ} {o q : TokenOutcome} → Lexes at line bs o → Lexes at line bs q → o ≡ q
one_outcome at_end at_end = refl
one_outcome at_end (token {n = n} {lexeme = x} place p good h) = absurd (no_token_at_end x n p)
one_outcome at_end (fault g p) = absurd (fault_some g p)
one_outcome (divider e h) (divider e2 h2) = one_outcome h h2
one_outcome (divider {b = b} e h) (comment e2 h2) = absurd (clash (is_divider b) e (rw e2 refl))
one_outcome (divider {b = b} {bs = bs} e h) (token {n = n} {lexeme = x} place p good h2) = absurd
    ((token_apart b bs x n p).0 e)
one_outcome (divider {b = b} {bs = bs} e h) (fault g p) = absurd ((fault_apart b bs g p).0 e)
one_outcome (comment {b = b} e h) (divider e2 h2) = absurd (clash (is_divider b) e2 (rw e refl))
one_outcome (comment e h) (comment e2 h2) = one_outcome h h2
one_outcome (comment {b = b} {bs = bs} e h) (token {n = n} {lexeme = x} place p good h2) = absurd
    ((token_apart b bs x n p).1 e)
one_outcome (comment {b = b} {bs = bs} e h) (fault g p) = absurd ((fault_apart b bs g p).1 e)
one_outcome (token {n = n} {lexeme = x} place p good h) at_end = absurd (no_token_at_end x n p)
one_outcome (token {n = n} {lexeme = x} place p good h) (divider {b = b} {bs = bs} e2 h2) = absurd
    ((token_apart b bs x n p).0 e2)
one_outcome (token {n = n} {lexeme = x} place p good h) (comment {b = b} {bs = bs} e2 h2) = absurd
    ((token_apart b bs x n p).1 e2)
one_outcome (token {at = at} {line = line} {n = n} {bs = bs} {lexeme = x} {o = o} place p good h)
    (token {n = m} {lexeme = y} {o = q} place2 p2 good2 h2) =
    let sizes = same_length bs x y n m p p2 in
    let same = same_token bs x y n m p p2 (place ∙ sym place2) in
    let rest = one_outcome h (subst (λ i. Lexes (at + i) line (drop i bs) q) (sym sizes) h2) in
    ap (λ r. put (record { lexeme = x; text = take n bs; end = at + n }) r) rest
    ∙ ap (λ z. put (record { lexeme = z; text = take n bs; end = at + n }) q) same
    ∙ ap (λ i. put (record { lexeme = y; text = take i bs; end = at + i }) q) sizes
one_outcome (token {n = n} {bs = bs} {lexeme = x} place p good h) (fault g p2) = absurd
    (no_break_at bs x n g p good p2)
one_outcome (fault g p) at_end = absurd (fault_some g p)
one_outcome (fault g p) (divider {b = b} {bs = bs} e2 h2) = absurd ((fault_apart b bs g p).0 e2)
one_outcome (fault g p) (comment {b = b} {bs = bs} e2 h2) = absurd ((fault_apart b bs g p).1 e2)
one_outcome (fault g p) (token {n = n} {bs = bs} {lexeme = x} place p2 good2 h2) = absurd
    (no_break_at bs x n g p2 good2 p)
one_outcome (fault {at = at} {line = line} {bs = bs} g p) (fault h p2) = ap
    (λ k. Err (record { fault = record { number = number_of k; line = line }; offset = Some at }))
    (same_fault bs g h p p2)
