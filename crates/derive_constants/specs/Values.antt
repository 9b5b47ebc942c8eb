-- The number that a computed constant is. Its tokens are read from the first on. What waits for a number lies in a row, the
-- last first: a sum and its sign, a product and its sign, a prefix, or a bracket.
use Rattle.std.specs.Prelude.{ℕ, List, [], ◌∷◌, ◌++◌, Option, Some, None, slice_get, if◌then◌else◌}
use Rattle.std.specs.List.{fold}
use Rattle.syntax_lexer.specs.declared.token.Sign.{Sign}
use Rattle.syntax_lexer.specs.declared.token.Sign.TheVariants as s
use Rattle.syntax_lexer.specs.declared.token.Word.{Word}
use Rattle.syntax_lexer.specs.declared.token.Word.TheVariants as w
use Rattle.syntax_lexer.specs.Token.{Lexeme, name, number, character, reserved, sign}
use Rattle.derive_tokens.specs.Names.{small, is_among, place_in}
use Rattle.derive_constants.specs.declared.pending.Pending.{Pending}
use Rattle.derive_constants.specs.declared.pending.Pending.TheVariants as p
use Rattle.derive_constants.specs.Arithmetic.{apply, prefixed}

-- the constants that are known: their names in small letters, each once, and their numbers in the same order
pub record Known : Type 0 where
  pub names : List (List ℕ)
  pub numbers : List ℕ

abbrev pub nothing_known : Known
nothing_known = record { names = []; numbers = [] }

abbrev pub number_at : List ℕ → Option ℕ → Option ℕ
number_at numbers None = None
number_at numbers (Some k) = slice_get numbers k

-- the number of a name, in small letters or in capitals
abbrev pub number_of : Known → List ℕ → Option ℕ
number_of known n = number_at known.numbers (place_in known.names (small n))

-- A name, in small letters, and its number: the first of a name counts. The profile refuses the second (E22).
abbrev pub with_number : Known → List ℕ → ℕ → Known
with_number known n v =
    if is_among known.names n then known
    else record { names = known.names ++ n ∷ []; numbers = known.numbers ++ v ∷ [] }

-- A number is wanted, or there is one; or the tokens are no computed constant.
pub data Reading : Type 0 where
  wants : List Pending → Reading
  has : ℕ → List Pending → Reading
  none : Reading

-- the number of a reserved word
abbrev pub word_number : Word → Option ℕ
word_number w.True = Some 1
word_number w.False = Some 0
word_number w.Nothing = Some 0
word_number _ = None

-- the number of one token
abbrev pub operand : Known → Lexeme → Option ℕ
operand known (number n q) = Some n
operand known (character c q) = Some c
operand known (reserved t q) = word_number t
operand known (name bytes q) = number_of known bytes
operand known _ = None

-- a number after prefixes and the sign of a product
abbrev pub tight : Option ℕ → List Pending → Reading
tight None waiting = none
tight (Some v) (p.Prefix by ∷ waiting) = tight (Some (prefixed by v)) waiting
tight (Some v) (p.Times before by ∷ waiting) = tight (apply by before v) waiting
tight (Some v) waiting = has v waiting

-- a product after the sign of a sum
abbrev pub loose : ℕ → List Pending → Reading
loose v (p.Adds before by ∷ waiting) = tight (apply by before v) waiting
loose v waiting = has v waiting

abbrev pub adds : Sign → Reading → Reading
adds by (has v waiting) = wants (p.Adds v by ∷ waiting)
adds by _ = none

abbrev pub closes : Reading → Reading
closes (has v (p.Bracket ∷ waiting)) = tight (Some v) waiting
closes _ = none

-- a sign where a number is wanted
abbrev pub before_operand : List Pending → Sign → Reading
before_operand waiting s.Minus = wants (p.Prefix s.Minus ∷ waiting)
before_operand waiting s.Tilde = wants (p.Prefix s.Tilde ∷ waiting)
before_operand waiting s.OpenParenthesis = wants (p.Bracket ∷ waiting)
before_operand waiting _ = none

abbrev pub wanted : Known → List Pending → Lexeme → Reading
wanted known waiting (sign by q) = before_operand waiting by
wanted known waiting t = tight (operand known t) waiting

abbrev pub after_sign : ℕ → List Pending → Sign → Reading
after_sign v waiting s.Plus = adds s.Plus (loose v waiting)
after_sign v waiting s.Minus = adds s.Minus (loose v waiting)
after_sign v waiting s.CloseParenthesis = closes (loose v waiting)
after_sign v waiting s.Star = wants (p.Times v s.Star ∷ waiting)
after_sign v waiting s.Slash = wants (p.Times v s.Slash ∷ waiting)
after_sign v waiting s.Percent = wants (p.Times v s.Percent ∷ waiting)
after_sign v waiting s.Ampersand = wants (p.Times v s.Ampersand ∷ waiting)
after_sign v waiting s.Bar = wants (p.Times v s.Bar ∷ waiting)
after_sign v waiting _ = none

abbrev pub after_value : ℕ → List Pending → Lexeme → Reading
after_value v waiting (sign by q) = after_sign v waiting by
after_value v waiting _ = none

-- one token more
abbrev pub reads : Known → Reading → Lexeme → Reading
reads known (wants waiting) t = wanted known waiting t
reads known (has v waiting) t = after_value v waiting t
reads known none t = none

abbrev pub whole : Reading → Option ℕ
whole (has v []) = Some v
whole _ = None

abbrev pub at_end : Reading → Option ℕ
at_end (has v waiting) = whole (loose v waiting)
at_end _ = None

-- the number that all these tokens are, or none
abbrev pub value_in : Known → List Lexeme → Option ℕ
value_in known ts = at_end (fold (reads known) (wants []) ts)
