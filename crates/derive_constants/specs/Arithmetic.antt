-- Arithmetic of computed constants, which is that of a program that runs: numbers of 16 bits, of which 32,768 and more
-- count as negative where they are divided.
use Rattle.std.specs.Prelude.{◌+◌, ◌-◌, ◌*◌, ◌/◌, ◌%◌, ◌==◌, ℕ, Bool, true, false, nat_lt, if◌then◌else◌, Option, Some, None}
use Rattle.std.specs.Prelude.{bit_and, bit_or}
use Rattle.syntax_lexer.specs.declared.token.Sign.{Sign}
use Rattle.syntax_lexer.specs.declared.token.Sign.TheVariants as s

abbrev pub words : ℕ
words = 65536

abbrev pub opposite : ℕ → ℕ
opposite a = (words - a) % words

abbrev pub is_negative : ℕ → Bool
is_negative a = nat_lt 32767 a

abbrev pub magnitude : ℕ → ℕ
magnitude a = if is_negative a then words - a else a

abbrev pub signed : Bool → ℕ → ℕ
signed negative a = if negative then opposite a else a

-- the quotient is rounded towards 0, and the remainder has the sign of what is divided (15, `div` and `mod`)
abbrev pub quotient : ℕ → ℕ → ℕ
quotient a b =
    signed (if is_negative a then (if is_negative b then false else true) else is_negative b)
    (magnitude a / magnitude b)

abbrev pub remainder : ℕ → ℕ → ℕ
remainder a b = signed (is_negative a) (magnitude a % magnitude b)

-- the number that a sign between two makes of them; none where it divides by 0
abbrev pub apply : Sign → ℕ → ℕ → Option ℕ
apply s.Plus a b = Some ((a + b) % words)
apply s.Minus a b = Some ((a + opposite b) % words)
apply s.Star a b = Some (a * b % words)
apply s.Slash a b = if b == 0 then None else Some (quotient a b)
apply s.Percent a b = if b == 0 then None else Some (remainder a b)
apply s.Ampersand a b = Some (bit_and a b)
apply s.Bar a b = Some (bit_or a b)
apply _ a b = None

-- the number that `-` or `~` before one makes of it
abbrev pub prefixed : Sign → ℕ → ℕ
prefixed s.Tilde a = 65535 - a
prefixed _ a = opposite a
