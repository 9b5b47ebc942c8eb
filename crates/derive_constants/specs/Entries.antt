-- What becomes of the tokens of a directive outside of its routines: each computed constant in parentheses, and each number
-- or constant after a minus, becomes its number.
use Rattle.std.specs.Prelude.{◌+◌, ◌-◌, ◌==◌, ℕ, List, [], ◌∷◌, ◌++◌, Option, Some, None, nat_le, if◌then◌else◌}
use Rattle.syntax_lexer.specs.declared.token.Sign.TheVariants as s
use Rattle.syntax_lexer.specs.Token.{Lexeme, number, sign, position_of, head}
use Rattle.derive_constants.specs.Values.{Known, value_in}
use Rattle.derive_constants.specs.Cutting.{depth_after}

-- tokens that are still to be written: a minus, or what follows from a parenthesis on, of which so many are open
pub data Group : Type 0 where
  nothing : Group
  minus : Lexeme → Group
  opened : ℕ → List Lexeme → Group

-- tokens, or the number that they are, where the first of them stands
abbrev pub as_number : List Lexeme → Option ℕ → List Lexeme
as_number ts None = ts
as_number ts (Some v) = number v (position_of (head ts)) ∷ []

abbrev pub folded : Known → List Lexeme → List Lexeme
folded known ts = as_number ts (value_in known ts)

-- what is written at a token, and the group after it
abbrev pub Turn : Type 0
Turn = List Lexeme × Group

-- the tokens of a group at a parenthesis that closes
abbrev pub closed : Known → ℕ → List Lexeme → Turn
closed known depth ts = if nat_le depth 1 then (folded known ts, nothing) else ([], opened (depth - 1) ts)

-- the tokens of a group, the last of which is this one
abbrev pub in_group : Known → ℕ → List Lexeme → Lexeme → Turn
in_group known depth ts (sign s.OpenParenthesis p) = ([], opened (depth + 1) ts)
in_group known depth ts (sign s.CloseParenthesis p) = closed known depth ts
in_group known depth ts (sign s.OpenBracket p) = (ts, nothing)
in_group known depth ts t = ([], opened depth ts)

abbrev pub alone : Lexeme → Turn
alone (sign s.OpenParenthesis p) = ([], opened 1 (sign s.OpenParenthesis p ∷ []))
alone (sign s.Minus p) = ([], minus (sign s.Minus p))
alone t = (t ∷ [], nothing)

-- after a minus: parentheses and another minus begin anew
abbrev pub after_minus : Known → Lexeme → Lexeme → Turn
after_minus known m (sign s p) = (m ∷ (alone (sign s p)).0, (alone (sign s p)).1)
after_minus known m t = (folded known (m ∷ t ∷ []), nothing)

abbrev pub turn : Known → Group → Lexeme → Turn
turn known nothing t = alone t
turn known (minus m) t = after_minus known m t
turn known (opened depth ts) t = in_group known depth (ts ++ t ∷ []) t

-- tokens within brackets stay; `depth` of them are open
abbrev pub turn_at : Known → ℕ → Group → Lexeme → Turn
turn_at known depth group t = if depth == 0 then turn known group t else (t ∷ [], group)

-- what is left of a group at the end
abbrev pub left : Group → List Lexeme
left nothing = []
left (minus m) = m ∷ []
left (opened depth ts) = ts

abbrev pub entries_from : Known → ℕ → Group → List Lexeme → List Lexeme
entries_from known depth group [] = left group
entries_from known depth group (t ∷ ts) =
    (turn_at known depth group t).0 ++ entries_from known (depth_after depth t) (turn_at known depth group t).1 ts

abbrev pub entries : Known → List Lexeme → List Lexeme
entries known ts = entries_from known 0 nothing ts
