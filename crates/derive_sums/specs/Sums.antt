-- Sums, and the alternatives after them: a sum is what is between two signs that no sum contains, and the names or sums after
-- its operator are alternatives where `or` is between them.
use Rattle.std.specs.Prelude.{◌==◌, ◌&&◌, ◌||◌, ◌+◌, ℕ, zero, suc, Bool, true, false, not, List, [], ◌∷◌, ◌++◌}
use Rattle.std.specs.Prelude.{if◌then◌else◌, codes, Option, Some, None}
use Rattle.std.specs.Fmt.{decimal}
use Rattle.std.specs.List.{fold}
use Rattle.syntax_lexer.specs.declared.token.Sign.{Sign}
use Rattle.syntax_lexer.specs.declared.token.Sign.TheVariants as s
use Rattle.syntax_lexer.specs.declared.token.Word.TheVariants as w
use Rattle.syntax_lexer.specs.Token.{Lexeme, reserved, sign, end}
use Rattle.derive_tokens.specs.Tokens.{is_sign, is_word}
use Rattle.derive_tokens.specs.Spelled.{spelling}
use Rattle.derive_tokens.specs.Names.{is_name, small}
use Rattle.derive_values.specs.Values.{is_operand_word}
use Rattle.derive_statements.specs.Lists.{deeper, ends_statement}
use Rattle.derive_sums.specs.declared.counting.Part.{Part}
use Rattle.derive_sums.specs.declared.counting.Part.TheVariants as parts

-- ---- the signs between sums

-- before the names of attributes or properties
abbrev pub takes_names : Lexeme → Bool
takes_names t = is_word w.Has t || (is_word w.Hasnt t || is_word w.Provides t)

-- before a sum after which `or` is derived
abbrev pub takes_sums : Lexeme → Bool
takes_sums t = is_word w.In t || (is_word w.Notin t || (is_sign s.Less t || is_sign s.Greater t))

abbrev pub is_operator : Lexeme → Bool
is_operator t = takes_names t || takes_sums t

abbrev pub is_or : Lexeme → Bool
is_or t = is_word w.Or t

-- no sum contains the sign
abbrev pub is_sum_end : Sign → Bool
is_sum_end s.Less = true
is_sum_end s.Greater = true
is_sum_end s.Assign = true
is_sum_end s.AndAlso = true
is_sum_end s.OrElse = true
is_sum_end s.Not = true
is_sum_end s.Equal = true
is_sum_end s.NotEqual = true
is_sum_end s.LessOrEqual = true
is_sum_end s.GreaterOrEqual = true
is_sum_end s.Semicolon = true
is_sum_end s.Comma = true
is_sum_end s.CloseParenthesis = true
is_sum_end s.Colon = true
is_sum_end s.OpenBrace = true
is_sum_end s.CloseBrace = true
is_sum_end s.CloseBracket = true
is_sum_end _ = false

-- no sum contains it, and no `or` is it
abbrev pub ends_sum : Lexeme → Bool
ends_sum (end p) = true
ends_sum (reserved t p) = not (is_operand_word (reserved t p) || is_or (reserved t p))
ends_sum (sign t p) = is_sum_end t
ends_sum _ = false

-- a sum may begin after it
abbrev pub precedes_sum : Lexeme → Bool
precedes_sum t = is_or t || (is_sign s.OpenParenthesis t || (ends_sum t && not (is_sign s.CloseParenthesis t)))

-- ---- looking ahead from the first token of a sum

pub data Shape : Type 0 where
  before : ℕ → Shape  -- no operator was met; so many brackets are open
  after : Lexeme → ℕ → Shape  -- one before sums was met
  names_begin : Lexeme → Shape  -- one before names
  name_read : Lexeme → Shape  -- and a name after it
  or_read : Lexeme → Shape  -- and `or` after that
  found : Lexeme → Shape  -- `or` with an alternative after it
  none : Shape

abbrev pub operator_met : Lexeme → Shape
operator_met t = if takes_names t then names_begin t else after t 0

abbrev pub shape_before : ℕ → Lexeme → Shape
shape_before n t =
    if ends_statement t then none
    else if (n == 0) && is_operator t then operator_met t
    else if (n == 0) && (ends_sum t || is_or t) then none else before (deeper n t)

abbrev pub shape_later : Lexeme → ℕ → Lexeme → Shape
shape_later operator n t =
    if ends_statement t then none
    else if (n == 0) && is_or t then found operator
    else if (n == 0) && ends_sum t then none else after operator (deeper n t)

abbrev pub shape_if : Bool → Shape → Shape
shape_if holds shape = if holds then shape else none

abbrev pub shape_after : Shape → Lexeme → Shape
shape_after (before n) t = shape_before n t
shape_after (after operator n) t = shape_later operator n t
shape_after (names_begin operator) t = shape_if (is_name t) (name_read operator)
shape_after (name_read operator) t = shape_if (is_or t) (or_read operator)
shape_after (or_read operator) t = shape_if (is_name t) (found operator)
shape_after shape t = shape

-- how many brackets are open
abbrev pub depth_of : Shape → ℕ
depth_of (before n) = n
depth_of (after operator n) = n
depth_of _ = 0

-- no token changes it
abbrev pub is_settled : Shape → Bool
is_settled (found operator) = true
is_settled none = true
is_settled _ = false

abbrev pub operator_in : Shape → Option Lexeme
operator_in (found operator) = Some operator
operator_in _ = None

-- the operator of these tokens, if alternatives are after it
abbrev pub operator_of : List Lexeme → Option Lexeme
operator_of ts = operator_in (fold shape_after (before 0) ts)

-- ---- the alternatives

-- what is read of the alternatives: the part, how many names or how many `or` there are, and the names
pub record Count : Type 0 where
  pub part : Part
  pub met : ℕ
  pub names : List ℕ

abbrev pub part_sought : ℕ → Lexeme → Part
part_sought n t =
    if (n == 0) && is_operator t then (if takes_names t then parts.Name else parts.Sums 0)
    else parts.Sought (deeper n t)

abbrev pub part_after : Part → Lexeme → Part
part_after (parts.Sought n) t = part_sought n t
part_after parts.Name t = parts.Or
part_after parts.Or t = parts.Name
part_after (parts.Sums n) t = parts.Sums (deeper n t)

-- the alternatives end before the token
abbrev pub ends_count : Part → Lexeme → Bool
ends_count (parts.Sought n) t = ends_statement t
ends_count parts.Name t = not (is_name t)
ends_count parts.Or t = not (is_or t)
ends_count (parts.Sums n) t = ends_statement t || ((n == 0) && ends_sum t)

-- the token is counted: a name, or an `or` between sums
abbrev pub is_counted : Part → Lexeme → Bool
is_counted parts.Name t = true
is_counted (parts.Sums n) t = (n == 0) && is_or t
is_counted _ t = false

abbrev pub is_at_name : Part → Bool
is_at_name parts.Name = true
is_at_name _ = false

abbrev pub met_after : Part → ℕ → Lexeme → ℕ
met_after part met t = if is_counted part t then met + 1 else met

abbrev pub names_after : Part → List ℕ → Lexeme → List ℕ
names_after part names t = if is_at_name part then names ++ 32 ∷ spelling t else names

abbrev pub count_after : Count → Lexeme → Count
count_after c t = record {
  part = part_after c.part t;
  met = met_after c.part c.met t;
  names = names_after c.part c.names t;
}

abbrev pub count_from : Count → List Lexeme → Count
count_from c [] = c
count_from c (t ∷ ts) = if ends_count c.part t then c else count_from (count_after c t) ts

abbrev pub uncounted : Count
uncounted = record { part = parts.Sought 0; met = 0; names = [] }

abbrev pub count_of : List Lexeme → Count
count_of ts = count_from uncounted ts

-- a name for each of so many sums, as ` x__a1 x__a2`
abbrev pub sums_named : ℕ → ℕ → List ℕ
sums_named k zero = []
sums_named k (suc count) = codes " x__a" ++ decimal k ++ sums_named (k + 1) count

abbrev pub listed : Lexeme → Count → List ℕ
listed operator c = if takes_names operator then c.names else sums_named 1 (c.met + 1)

-- which alternatives they are, in small letters: the operator, and its names, or names for its sums
abbrev pub key : Lexeme → List Lexeme → List ℕ
key operator ts = small (spelling operator ++ listed operator (count_of ts))
