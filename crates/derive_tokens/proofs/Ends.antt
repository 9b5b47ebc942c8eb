-- A token ends before a byte that divides tokens.
use Rattle.std.proofs.Common.{◌≡◌, ℕ, ◌<◌, ◌≤◌, ◌⊎◌, Bool, true, false, List, [], ◌∷◌, ◌++◌, length, codes}
use Rattle.std.proofs.Common.{refl, sym, ap, ◌∙◌, subst, arith, inl, inr, not, append_assoc}
use Rattle.std.proofs.lemmas.Bool.Decides.{nat_tests}
use Rattle.syntax_lexer.specs.declared.bytes.Base.{Base}
use Rattle.syntax_lexer.specs.declared.bytes.Base.TheVariants as bases
use Rattle.syntax_lexer.specs.declared.token.Sign.{Sign}
use Rattle.syntax_lexer.specs.declared.token.Sign.TheVariants as s
use Rattle.syntax_lexer.specs.Bytes.{is_divider, is_name_byte, is_digit_of, is_text_byte, is_quoted_byte, is_word_byte, Each}
use Rattle.syntax_lexer.specs.Bytes.{is_character, is_letter}
use Rattle.syntax_lexer.specs.Spelling.{Spells, IsName, IsNumber, IsCharacter, IsDictionaryWord, prefix, quoted, sign_spelling}
use Rattle.syntax_lexer.specs.Token.{Lexeme, name, number, text, character, dictionary_word, reserved, sign, end}
use Rattle.syntax_lexer.proofs.Beginnings.{class_of, begins, takes}
use Rattle.syntax_lexer.proofs.WordTables.{reserved_each}

abbrev pub divides_none : ℕ → Bool
divides_none b = not (is_divider b)

each_of : (p q : ℕ → Bool) → ((b : ℕ) → p b ≡ true → q b ≡ true) → (bs : List ℕ) → Each p bs → Each q bs
each_of p q f [] h = tt
each_of p q f (b ∷ bs) h = (f b h.0, each_of p q f bs h.1)

each_append : (p : ℕ → Bool) (xs ys : List ℕ) → Each p xs → Each p ys → Each p (xs ++ ys)
each_append p [] ys h k = k
each_append p (x ∷ xs) ys h k = (h.0, each_append p xs ys h.1 k)

-- a byte that fails the test is not among them
not_among : (p : ℕ → Bool) (xs : List ℕ) (b : ℕ) (more : List ℕ) → p b ≡ false → Each p (xs ++ b ∷ more) → ⊥
not_among p [] b more e h = cc (h.0)
not_among p (x ∷ xs) b more e h = not_among p xs b more e h.1

name_byte : (b : ℕ) → is_name_byte b ≡ true → divides_none b ≡ true
name_byte b e = grind (arith, nat_tests)

digit_byte : (base : Base) (b : ℕ) → is_digit_of base b ≡ true → divides_none b ≡ true
digit_byte bases.Decimal b e = grind (arith, nat_tests)
digit_byte bases.Hexadecimal b e = grind (arith, nat_tests)
digit_byte bases.Binary b e = grind (arith, nat_tests)

prefix_bytes : (base : Base) → Each divides_none (prefix base)
prefix_bytes bases.Decimal = tt
prefix_bytes bases.Hexadecimal = (refl, tt)
prefix_bytes bases.Binary = (refl, (refl, tt))

sign_bytes : (x : Sign) → Each divides_none (sign_spelling x)
sign_bytes s.LongArrow = (refl, (refl, (refl, tt)))
sign_bytes s.DotAmpersand = (refl, (refl, tt))
sign_bytes s.DotHash = (refl, (refl, tt))
sign_bytes s.Equal = (refl, (refl, tt))
sign_bytes s.NotEqual = (refl, (refl, tt))
sign_bytes s.Not = (refl, (refl, tt))
sign_bytes s.GreaterOrEqual = (refl, (refl, tt))
sign_bytes s.LessOrEqual = (refl, (refl, tt))
sign_bytes s.AndAlso = (refl, (refl, tt))
sign_bytes s.OrElse = (refl, (refl, tt))
sign_bytes s.Increment = (refl, (refl, tt))
sign_bytes s.Decrement = (refl, (refl, tt))
sign_bytes s.Arrow = (refl, (refl, tt))
sign_bytes _ = (refl, tt)

letter_byte : (b : ℕ) → is_letter b ≡ true → divides_none b ≡ true
letter_byte b e = grind (arith, nat_tests)

name_bytes : (bs : List ℕ) → IsName bs → Each divides_none bs
name_bytes [] h = tt
name_bytes (b ∷ bs) h = (letter_byte b h.0, each_of is_name_byte divides_none name_byte bs h.1)

number_bytes : (v : ℕ) (bs : List ℕ) → IsNumber v bs → Each divides_none bs
number_bytes v bs h = subst (Each divides_none) (sym h.2)
    (each_append divides_none (prefix h.0) h.1 (prefix_bytes h.0)
    (each_of (is_digit_of h.0) divides_none (digit_byte h.0) h.1 h.4))

-- between quotes that stand first and last nothing is a quote
one_close : (p : ℕ → Bool) (q : ℕ) → p q ≡ false → (xs ys more : List ℕ) → Each p xs → Each p ys
    → xs ++ q ∷ more ≡ ys ++ q ∷ [] → more ≡ []
one_close p q never [] [] more h k e = cc
one_close p q never [] (y ∷ ys) more h k e = let same : q ≡ y = cc in absurd (cc (same, k.0, never))
one_close p q never (x ∷ xs) [] more h k e = let same : x ≡ q = cc in absurd (cc (same, h.0, never))
one_close p q never (x ∷ xs) (y ∷ ys) more h k e =
    let rest : xs ++ q ∷ more ≡ ys ++ q ∷ [] = cc in
    one_close p q never xs ys more h.1 k.1 rest

-- ---- what stands between quotes

character_byte : (c : ℕ) → is_character c ≡ true → is_quoted_byte c ≡ true
character_byte c e = grind (arith, nat_tests)

word_byte : (b : ℕ) → is_word_byte b ≡ true → is_quoted_byte b ≡ true
word_byte b e = grind (arith, nat_tests)

word_bytes : (s content : List ℕ) → IsDictionaryWord s content → Each is_quoted_byte content
word_bytes s content h = go h.1
  where
    plain : Each is_quoted_byte s
    plain = each_of is_word_byte is_quoted_byte word_byte s h.0.1

    go : ((2 ≤ length s) × (content ≡ s)) ⊎ (content ≡ s ++ codes "//") → Each is_quoted_byte content
    go (inl q) = subst (Each is_quoted_byte) (sym q.1) plain
    go (inr q) = subst (Each is_quoted_byte) (sym q)
        (each_append is_quoted_byte s (codes "//") plain (refl, (refl, tt)))

abbrev Inner : List ℕ → Type 0
Inner bs = (content : List ℕ) × Each is_quoted_byte content × (bs ≡ quoted content)

inner : (x : Lexeme) (bs : List ℕ) → class_of x ≡ 4 → Spells x bs → Inner bs
inner (character c p) bs e h =
    (h.0, subst (Each is_quoted_byte) (sym h.1.1) (character_byte c h.1.0, tt), h.2)
inner (dictionary_word s p) bs e h = (h.0, word_bytes s h.0 h.1, h.2)
inner x bs e h = absurd (omega arith)

two_quoted : (bs more : List ℕ) (b : ℕ) → Inner bs → Inner (bs ++ b ∷ more) → ⊥
two_quoted bs more b h k =
    let e : 39 ∷ (h.0 ++ 39 ∷ []) ++ b ∷ more ≡ 39 ∷ (k.0 ++ 39 ∷ []) =
    ap (λ xs. xs ++ b ∷ more) (sym h.2) ∙ k.2 in
    let rest : h.0 ++ 39 ∷ b ∷ more ≡ k.0 ++ 39 ∷ [] = sym (append_assoc h.0 (39 ∷ []) (b ∷ more)) ∙ cc e in
    cc (one_close is_quoted_byte 39 refl h.0 k.0 (b ∷ more) h.1 k.1 rest)

-- ---- texts

two_texts : (s t bs more : List ℕ) (b : ℕ) → Each is_text_byte s → Each is_text_byte t → bs ≡ 34 ∷ (s ++ 34 ∷ [])
    → bs ++ b ∷ more ≡ 34 ∷ (t ++ 34 ∷ []) → ⊥
two_texts s t bs more b h k p q =
    let e : 34 ∷ (s ++ 34 ∷ []) ++ b ∷ more ≡ 34 ∷ (t ++ 34 ∷ []) = ap (λ xs. xs ++ b ∷ more) (sym p) ∙ q in
    let rest : s ++ 34 ∷ b ∷ more ≡ t ++ 34 ∷ [] = sym (append_assoc s (34 ∷ []) (b ∷ more)) ∙ cc e in
    cc (one_close is_text_byte 34 refl s t (b ∷ more) h k rest)

-- ---- all tokens

divider_fails : (b : ℕ) → is_divider b ≡ true → divides_none b ≡ false
divider_fails b e = rw e refl

same_class : (x y : Lexeme) (bs more : List ℕ) → Spells x bs → Spells y (bs ++ more) → class_of x ≡ class_of y
same_class x y [] more h k = absurd (omega (arith, takes x [] h))
same_class x y (c ∷ bs) more h k = sym (begins x c bs h) ∙ begins y c (bs ++ more) k

-- no token goes on over a byte that divides tokens, but one between quotes, which have closed before it
pub ends_there : (x y : Lexeme) (bs : List ℕ) (b : ℕ) (more : List ℕ) → is_divider b ≡ true → Spells x bs
    → Spells y (bs ++ b ∷ more) → ⊥
ends_there x y bs b more d h k = go x y h k (same_class x y bs (b ∷ more) h k)
  where
    fails : Each divides_none (bs ++ b ∷ more) → ⊥
    fails = not_among divides_none bs b more (divider_fails b d)

    go : (x y : Lexeme) → Spells x bs → Spells y (bs ++ b ∷ more) → class_of x ≡ class_of y → ⊥
    go x (name s p) h k e = fails (name_bytes (bs ++ b ∷ more) k.1)
    go x (reserved w p) h k e = fails
        (each_of is_name_byte divides_none name_byte (bs ++ b ∷ more) (reserved_each w (bs ++ b ∷ more) k))
    go x (number v p) h k e = fails (number_bytes v (bs ++ b ∷ more) k)
    go x (sign s p) h k e = fails (subst (Each divides_none) (sym k) (sign_bytes s))
    go (text s p) (text t q) h k e = two_texts s t bs more b h.0 k.0 h.1 k.1
    go x (text t q) h k e = absurd (omega (arith, e))
    go x (character c q) h k e =
        two_quoted bs more b (inner x bs e h) (inner (character c q) (bs ++ b ∷ more) refl k)
    go x (dictionary_word s q) h k e =
        two_quoted bs more b (inner x bs e h) (inner (dictionary_word s q) (bs ++ b ∷ more) refl k)
    go x (end q) h k e = k
