-- Entries that are looked for ahead from the first token of an operand: `x-->i`, and `x-->i = e`.
use Rattle.std.specs.Prelude.{◌&&◌, ◌||◌, ℕ, Bool, true, false, List, [], ◌∷◌, if◌then◌else◌, nat_lt}
use Rattle.std.specs.List.{fold}
use Rattle.syntax_lexer.specs.declared.token.Sign.TheVariants as s
use Rattle.syntax_lexer.specs.Token.{Lexeme, reserved, sign, end}
use Rattle.derive_tokens.specs.Tokens.{is_sign}
use Rattle.derive_values.specs.Values.{is_operand_word}
use Rattle.derive_statements.specs.Lists.{deeper, ends_statement}
use Rattle.derive_entries.specs.declared.operands.Part.{Part}
use Rattle.derive_entries.specs.declared.operands.Part.TheVariants as parts
use Rattle.derive_entries.specs.Arrays.{is_arrow}

-- an operand that is one token, or a name with which it begins
abbrev pub is_operand : Lexeme → Bool
is_operand (reserved t p) = is_operand_word (reserved t p)
is_operand (sign t p) = false
is_operand (end p) = false
is_operand _ = true

-- before an operand
abbrev pub is_prefix : Lexeme → Bool
is_prefix t = is_sign s.Minus t || (is_sign s.Increment t || is_sign s.Decrement t)

-- ---- parts of an operand

-- where an operand may begin; the entry after an array's name is one of the profile
abbrev pub part_begun : Bool → Lexeme → Part
part_begun array t =
    if array then parts.Kept else if is_operand t then parts.Read else if is_prefix t then parts.Signed else parts.Before

abbrev pub part_signed : Lexeme → Part
part_signed t = if is_operand t then parts.Kept else if is_prefix t then parts.Signed else parts.Before

-- after an operand
abbrev pub part_on : Bool → Lexeme → Part
part_on array t =
    if is_sign s.Dot t || is_sign s.DotHash t then parts.Dotted
    else if is_sign s.DotAmpersand t then parts.Words
    else if is_sign s.Increment t || is_sign s.Decrement t then parts.Read
    else if is_sign s.Minus t then parts.Before
    else part_begun array t

-- after a token that is no bracket, and an array's name or not
abbrev pub part_after : Bool → Part → Lexeme → Part
part_after array parts.Before t = part_begun array t
part_after array parts.Signed t = part_signed t
part_after array parts.Read t = part_on array t
part_after array parts.Kept t = part_on array t
part_after array parts.Dotted t = parts.Read
part_after array parts.Words t = parts.Kept

-- after a bracket
abbrev pub part_closed : Part → Part
part_closed parts.Signed = parts.Kept
part_closed _ = parts.Read

-- an operand is read, and an entry may be behind it
abbrev pub is_done : Part → Bool
is_done parts.Read = true
is_done parts.Kept = true
is_done _ = false

abbrev pub takes_entry : Part → Bool
takes_entry parts.Read = true
takes_entry _ = false

-- the token belongs to an operand that was read
abbrev pub goes_on : Lexeme → Bool
goes_on t =
    is_sign s.Dot t || (is_sign s.DotHash t || (is_sign s.DotAmpersand t || (is_sign s.Increment t
    || (is_sign s.Decrement t || is_sign s.OpenParenthesis t))))

-- the token belongs to an operand
abbrev pub belongs : Part → Lexeme → Bool
belongs parts.Before t = is_operand t || is_prefix t
belongs parts.Signed t = is_operand t || is_prefix t
belongs parts.Read t = goes_on t
belongs parts.Kept t = goes_on t
belongs _ t = true

-- ---- looking ahead

pub data Look : Type 0 where
  sought : Part → ℕ → Look  -- no entry was met; so many brackets are open
  indexed : Lexeme → Part → ℕ → Look  -- its sign was met
  taken : Lexeme → Look  -- an entry of this sign
  assigned : Lexeme → Look  -- one with `=` behind it
  none : Look

-- in brackets, or behind them
abbrev pub part_within : Part → ℕ → Lexeme → Part
part_within part n t =
    if nat_lt 0 n then part else if is_sign s.OpenParenthesis t then part_closed part else part_after false part t

abbrev pub look_sought : Part → ℕ → Lexeme → Look
look_sought part n t =
    if ends_statement t then none
    else if nat_lt 0 n || belongs part t then sought (part_within part n t) (deeper n t)
    else if takes_entry part && is_arrow t then indexed t parts.Before 0
    else none

abbrev pub look_indexed : Lexeme → Part → ℕ → Lexeme → Look
look_indexed arrow part n t =
    if ends_statement t then taken arrow
    else if nat_lt 0 n || (belongs part t || is_sign s.OpenParenthesis t)
    then indexed arrow (part_within part n t) (deeper n t)
    else if is_sign s.Assign t then assigned arrow else taken arrow

abbrev pub look_after : Look → Lexeme → Look
look_after (sought part n) t = look_sought part n t
look_after (indexed arrow part n) t = look_indexed arrow part n t
look_after look t = look

-- after the first token, which is an array's name or not
abbrev pub look_begun : Bool → Lexeme → Look
look_begun array t =
    if is_sign s.OpenParenthesis t then sought parts.Read 1 else sought (part_begun array t) 0

-- how many brackets are open
abbrev pub depth_of : Look → ℕ
depth_of (sought part n) = n
depth_of (indexed arrow part n) = n
depth_of _ = 0

-- no token changes it
abbrev pub is_settled : Look → Bool
is_settled (taken arrow) = true
is_settled (assigned arrow) = true
is_settled none = true
is_settled _ = false

abbrev pub look_of : Bool → Lexeme → List Lexeme → Look
look_of array t rest = fold look_after (look_begun array t) rest

-- the sign of an entry comes before the end of the statement
abbrev pub arrow_ahead : List Lexeme → Bool
arrow_ahead [] = false
arrow_ahead (t ∷ ts) = if ends_statement t then false else if is_arrow t then true else arrow_ahead ts
