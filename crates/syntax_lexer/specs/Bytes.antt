-- Classes of bytes, and runs of bytes of a class.
use Rattle.std.specs.Prelude.{◌≡◌, ◌==◌, ◌&&◌, ◌||◌, ◌+◌, ◌-◌, ◌*◌, not, ℕ, suc, nat_le, nat_lt, Bool, true}
use Rattle.std.specs.Prelude.{if◌then◌else◌, List, [], ◌∷◌}
use Rattle.syntax_lexer.specs.declared.bytes.Base.{Base}
use Rattle.syntax_lexer.specs.declared.bytes.Base.TheVariants as bases
use Rattle.syntax_lexer.specs.declared.bytes.Class.{Class}
use Rattle.syntax_lexer.specs.declared.bytes.Class.TheVariants as c

-- a byte that may stand in a source: tab, line feed, carriage return, and 32 to 126
abbrev pub is_source_byte : ℕ → Bool
is_source_byte b = b == 9 || (b == 10 || (b == 13 || (nat_le 32 b && nat_le b 126)))

-- a byte that divides tokens
abbrev pub is_divider : ℕ → Bool
is_divider b = b == 32 || (b == 9 || (b == 10 || b == 13))

-- a byte after `!` that the comment goes on with
abbrev pub is_comment_byte : ℕ → Bool
is_comment_byte b = is_source_byte b && not (b == 10)

-- a letter or underscore
abbrev pub is_letter : ℕ → Bool
is_letter b = (nat_le 65 b && nat_le b 90) || ((nat_le 97 b && nat_le b 122) || b == 95)

abbrev pub is_digit : ℕ → Bool
is_digit b = nat_le 48 b && nat_le b 57

-- a byte of a name after its first
abbrev pub is_name_byte : ℕ → Bool
is_name_byte b = is_letter b || is_digit b

-- a byte between the quotes of a text: 32 to 126 without `"`, `@` and `\`
abbrev pub is_text_byte : ℕ → Bool
is_text_byte b = nat_le 32 b && (nat_le b 126 && not (b == 34 || (b == 64 || b == 92)))

-- a byte of a dictionary word: 33 to 126 without `'`, `~`, `@` and `\`
abbrev pub is_word_byte : ℕ → Bool
is_word_byte b = nat_le 33 b && (nat_le b 126 && not (b == 39 || (b == 126 || (b == 64 || b == 92))))

-- a byte that stands between single quotes: of a dictionary word, or a space
abbrev pub is_quoted_byte : ℕ → Bool
is_quoted_byte b = b == 32 || is_word_byte b

-- a byte that is a character, alone between single quotes; `^` is none
abbrev pub is_character : ℕ → Bool
is_character b = is_quoted_byte b && not (b == 94)

-- ---- numbers

abbrev pub base_of : Base → ℕ
base_of bases.Decimal = 10
base_of bases.Hexadecimal = 16
base_of bases.Binary = 2

-- the value of a digit of any base, with `a` and `A` for ten; 16 where the byte is none
abbrev pub digit_value : ℕ → ℕ
digit_value b =
    if nat_le 48 b && nat_le b 57 then b - 48
    else (if nat_le 65 b && nat_le b 70 then b - 55
    else (if nat_le 97 b && nat_le b 102 then b - 87
    else 16))

abbrev pub is_digit_of : Base → ℕ → Bool
is_digit_of base b = nat_lt (digit_value b) (base_of base)

-- the number that digits spell, after those of n
unfoldable pub value_from : Base → ℕ → List ℕ → ℕ
value_from base n [] = n
value_from base n (b ∷ bs) = value_from base (base_of base * n + digit_value b) bs

-- ---- runs

abbrev pub passes : Class → ℕ → Bool
passes c.Name b = is_name_byte b
passes (c.Digit base) b = is_digit_of base b
passes c.Text b = is_text_byte b
passes c.Quoted b = is_quoted_byte b
passes c.Word b = is_word_byte b
passes c.Comment b = is_comment_byte b

-- how many bytes at the front pass the test
unfoldable pub run : (ℕ → Bool) → List ℕ → ℕ
run p [] = 0
run p (b ∷ bs) = if p b then suc (run p bs) else 0

-- each byte passes the test
abbrev pub Each : (ℕ → Bool) → List ℕ → Type 0
Each p [] = Unit {0}
Each p (b ∷ bs) = (p b ≡ true) × Each p bs
