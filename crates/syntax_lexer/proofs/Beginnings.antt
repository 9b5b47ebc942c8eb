-- What the first byte of a token says of it.
use Rattle.std.proofs.Common.{◌≡◌, ℕ, ◌<◌, true, false, cond, eqb, ◌||◌, List, [], ◌∷◌, ◌++◌, length, get_or, refl}
use Rattle.std.proofs.Common.{ap, ◌∙◌, arith}
use Rattle.std.proofs.lemmas.Bool.Decides.{nat_tests}
use Rattle.syntax_lexer.specs.declared.bytes.Base.{Base}
use Rattle.syntax_lexer.specs.declared.bytes.Base.TheVariants as bases
use Rattle.syntax_lexer.specs.declared.token.Sign.{Sign}
use Rattle.syntax_lexer.specs.declared.token.Sign.TheVariants as s
use Rattle.syntax_lexer.specs.Token.{Lexeme, name, number, text, character, dictionary_word, reserved, sign, end}
use Rattle.syntax_lexer.specs.Bytes.{is_letter, is_digit, is_divider, is_digit_of, Each}
use Rattle.syntax_lexer.specs.Spelling.{sign_spelling, prefix, Spells}
use Rattle.syntax_lexer.proofs.SignTables.{sign_size}
use Rattle.syntax_lexer.proofs.WordTables.{reserved_first, word_sizes}

-- 1: names and reserved words, 2: numbers, 3: texts, 4: characters and dictionary words, 5: signs
abbrev pub class_of : Lexeme → ℕ
class_of (name s p) = 1
class_of (number v p) = 2
class_of (text s p) = 3
class_of (character c p) = 4
class_of (dictionary_word s p) = 4
class_of (reserved w p) = 1
class_of (sign s p) = 5
class_of (end p) = 0

-- the class of the tokens that a byte begins
pub class_at : ℕ → ℕ
class_at b = cond (is_letter b) 1
    (cond (is_digit b || eqb b 36) 2
    (cond (eqb b 34) 3 (cond (eqb b 39) 4 (cond (is_divider b) 6 (cond (eqb b 33) 7 5)))))

pub letter_class : (b : ℕ) → is_letter b ≡ true → class_at b ≡ 1
unfolding class_at
letter_class b e = rw e refl

number_class_tests : (b : ℕ) → (is_digit b || eqb b 36) ≡ true → is_letter b ≡ false
number_class_tests b e = grind (arith, nat_tests)

pub number_class : (b : ℕ) → (is_digit b || eqb b 36) ≡ true → class_at b ≡ 2
unfolding class_at
number_class b e = rw (number_class_tests b e, e) refl

pub text_class : (b : ℕ) → b ≡ 34 → class_at b ≡ 3
unfolding class_at
text_class b e = rw e refl

pub quoted_class : (b : ℕ) → b ≡ 39 → class_at b ≡ 4
unfolding class_at
quoted_class b e = rw e refl

pub divider_class : (b : ℕ) → is_divider b ≡ true → class_at b ≡ 6
unfolding class_at
divider_class b e = let l : is_letter b ≡ false = grind (arith, nat_tests) in
    let n : (is_digit b || eqb b 36) ≡ false = grind (arith, nat_tests) in
    let t : eqb b 34 ≡ false = grind (arith, nat_tests) in let q : eqb b 39 ≡ false = grind (arith, nat_tests) in
    rw (l, n, t, q, e) refl

pub comment_class : (b : ℕ) → b ≡ 33 → class_at b ≡ 7
unfolding class_at
comment_class b e = rw e refl

pub sign_class : (b : ℕ) → is_letter b ≡ false → (is_digit b || eqb b 36) ≡ false → eqb b 34 ≡ false
    → eqb b 39 ≡ false → is_divider b ≡ false → eqb b 33 ≡ false → class_at b ≡ 5
unfolding class_at
sign_class b l n t q d c = rw (l, n, t, q, d, c) refl

pub cons_is : (a c : ℕ) (x y : List ℕ) → a ∷ x ≡ c ∷ y → a ≡ c
cons_is a c x y e = cc

sign_begins : (x : Sign) → class_at (get_or (sign_spelling x) 0 0) ≡ 5
unfolding class_at
sign_begins s.OpenParenthesis = refl
sign_begins s.CloseParenthesis = refl
sign_begins s.OpenBrace = refl
sign_begins s.CloseBrace = refl
sign_begins s.OpenBracket = refl
sign_begins s.CloseBracket = refl
sign_begins s.Semicolon = refl
sign_begins s.Comma = refl
sign_begins s.Colon = refl
sign_begins s.Dot = refl
sign_begins s.DotAmpersand = refl
sign_begins s.DotHash = refl
sign_begins s.Assign = refl
sign_begins s.Equal = refl
sign_begins s.NotEqual = refl
sign_begins s.Not = refl
sign_begins s.Tilde = refl
sign_begins s.Greater = refl
sign_begins s.GreaterOrEqual = refl
sign_begins s.Less = refl
sign_begins s.LessOrEqual = refl
sign_begins s.AndAlso = refl
sign_begins s.Ampersand = refl
sign_begins s.OrElse = refl
sign_begins s.Bar = refl
sign_begins s.Plus = refl
sign_begins s.Increment = refl
sign_begins s.Minus = refl
sign_begins s.Decrement = refl
sign_begins s.Arrow = refl
sign_begins s.LongArrow = refl
sign_begins s.Star = refl
sign_begins s.Slash = refl
sign_begins s.Percent = refl

digit_begins : (b : ℕ) → is_digit_of bases.Decimal b ≡ true → (is_digit b || eqb b 36) ≡ true
digit_begins b e = grind (arith, nat_tests)

number_begins : (base : Base) (digits : List ℕ) (b : ℕ) (bs : List ℕ) → b ∷ bs ≡ prefix base ++ digits
    → 0 < length digits → Each (is_digit_of base) digits → (is_digit b || eqb b 36) ≡ true
number_begins bases.Decimal [] b bs e lt h = absurd (omega arith)
number_begins bases.Decimal (d ∷ ds) b bs e lt h = rw (cons_is b d bs ds e) (digit_begins d h.0)
number_begins bases.Hexadecimal digits b bs e lt h = rw (cons_is b 36 bs _ e) refl
number_begins bases.Binary digits b bs e lt h = rw (cons_is b 36 bs _ e) refl

-- a token is of the class of its first byte
pub begins : (x : Lexeme) (b : ℕ) (bs : List ℕ) → Spells x (b ∷ bs) → class_at b ≡ class_of x
begins (name s p) b bs h = letter_class b h.1.0
begins (number v p) b bs h = number_class b (number_begins h.0 h.1 b bs h.2 h.3 h.4)
begins (text s p) b bs h = text_class b (cons_is b 34 bs _ h.1)
begins (character c p) b bs h = quoted_class b (cons_is b 39 bs _ h.2)
begins (dictionary_word s p) b bs h = quoted_class b (cons_is b 39 bs _ h.2)
begins (reserved w p) b bs h = letter_class b (reserved_first w b bs h)
begins (sign s p) b bs h = ap (λ xs. class_at (get_or xs 0 0)) h ∙ sign_begins s
begins (end p) b bs h = absurd h

-- a token takes a byte
pub takes : (x : Lexeme) (bs : List ℕ) → Spells x bs → 0 < length bs
takes x (b ∷ bs) h = omega arith
takes x [] h = absurd (go x h)
  where
    go : (x : Lexeme) → Spells x [] → ⊥
    go (name s p) h = h.1
    go (number v p) h = number_none h.0 h.1 h.2 h.3
      where
        number_none : (base : Base) (digits : List ℕ) → [] ≡ prefix base ++ digits → 0 < length digits → ⊥
        number_none bases.Decimal [] e lt = omega arith
        number_none bases.Decimal (d ∷ ds) e lt = cc
        number_none bases.Hexadecimal ds e lt = cc
        number_none bases.Binary ds e lt = cc
    go (text s p) h = cc (h.1)
    go (character c p) h = cc (h.2)
    go (dictionary_word s p) h = cc (h.2)
    go (reserved w p) h = omega (arith, word_sizes w, ap length h)
    go (sign s p) h = omega (arith, sign_size s, ap length h)
    go (end p) h = h
