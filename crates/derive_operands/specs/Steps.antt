-- Steps of what is no variable: `o.p++` stands for `((o.p = o.p + 1) - 1)`, and as a statement for `o.p = o.p + 1`. What is
-- stepped is a name with properties after it, or a bracket of names and numbers, as `(a-->i)`.
use Rattle.std.specs.Prelude.{◌==◌, ◌&&◌, ◌||◌, ◌+◌, ◌-◌, ℕ, Bool, true, false, not, List, [], ◌∷◌, ◌++◌, length}
use Rattle.std.specs.Prelude.{if◌then◌else◌, nat_lt, drop, take, Option, Some, None}
use Rattle.syntax_lexer.specs.declared.token.Position.{Position}
use Rattle.syntax_lexer.specs.declared.token.Sign.{Sign}
use Rattle.syntax_lexer.specs.declared.token.Sign.TheVariants as s
use Rattle.syntax_lexer.specs.declared.token.Word.TheVariants as w
use Rattle.syntax_lexer.specs.Token.{Lexeme, name, number, character, sign}
use Rattle.syntax_lexer.specs.Token.{head, tail, position_of}
use Rattle.derive_tokens.specs.Tokens.{is_sign, is_word}
use Rattle.derive_values.specs.declared.places.Scope.{Scope}
use Rattle.derive_tokens.specs.Names.{is_name}
use Rattle.derive_statements.specs.FileNames.{FileNames, names_of}
use Rattle.derive_statements.specs.Lists.{deeper, at_statement, is_before_header, is_in_header}
use Rattle.derive_expressions.specs.declared.roles.Role.{Role}
use Rattle.derive_expressions.specs.declared.roles.Role.TheVariants as roles
use Rattle.derive_operands.specs.declared.targets.Chain.{Chain}
use Rattle.derive_operands.specs.declared.targets.Chain.TheVariants as chains
use Rattle.derive_expressions.specs.Roles.{Calling, role_now, calling_after, uncalled, is_in_body}

-- ---- what is stepped

-- the sign may be in a bracket that is stepped: it is written twice
abbrev pub is_simple_sign : Sign → Bool
is_simple_sign s.OpenParenthesis = true
is_simple_sign s.CloseParenthesis = true
is_simple_sign s.Dot = true
is_simple_sign s.Arrow = true
is_simple_sign s.LongArrow = true
is_simple_sign s.Plus = true
is_simple_sign s.Minus = true
is_simple_sign s.Star = true
is_simple_sign _ = false

abbrev pub is_simple : Lexeme → Bool
is_simple (name n p) = true
is_simple (number n p) = true
is_simple (character c p) = true
is_simple (sign t p) = is_simple_sign t
is_simple _ = false

-- the token belongs to what is stepped
abbrev pub belongs : Chain → Lexeme → Bool
belongs chains.AtName t = is_name t
belongs chains.AtDot t = is_sign s.Dot t
belongs (chains.InBrackets n) t = is_simple t
belongs _ t = false

-- in so many brackets
abbrev pub in_brackets : ℕ → Chain
in_brackets n = if n == 0 then chains.Closed else chains.InBrackets n

-- a call is not written twice
abbrev pub bracket_after : ℕ → Lexeme → Lexeme → Chain
bracket_after n t next =
    if is_name t && is_sign s.OpenParenthesis next then chains.Over else in_brackets (deeper n t)

-- after a token that belongs, before another
abbrev pub chain_after : Chain → Lexeme → Lexeme → Chain
chain_after chains.AtName t next = chains.AtDot
chain_after chains.AtDot t next = chains.AtName
chain_after (chains.InBrackets n) t next = bracket_after n t next
chain_after c t next = c

-- how many tokens are stepped, where so many were met; a variable alone is nothing
abbrev pub target_met : ℕ → Chain → ℕ
target_met count chains.AtDot = if nat_lt 1 count then count else 0
target_met count chains.Closed = count
target_met count _ = 0

abbrev pub target_from : ℕ → Chain → List Lexeme → ℕ
target_from count c [] = target_met count c
target_from count c (t ∷ ts) =
    if belongs c t then target_from (count + 1) (chain_after c t (head ts)) ts else target_met count c

-- from the first token on
abbrev pub target_length : List Lexeme → ℕ
target_length [] = 0
target_length (t ∷ ts) =
    if is_sign s.OpenParenthesis t then target_from 1 (chains.InBrackets 1) ts
    else target_from 0 chains.AtName (t ∷ ts)

abbrev pub is_step : Lexeme → Bool
is_step t = is_sign s.Increment t || is_sign s.Decrement t

-- what is stepped at the front of tokens: nothing, so many tokens with this sign after them, or so many after a sign
pub data Found : Type 0 where
  nothing : Found
  postfix : ℕ → Lexeme → Found
  prefix : ℕ → Found

abbrev pub prefix_of : ℕ → Found
prefix_of count = if nat_lt 0 count then prefix count else nothing

abbrev pub prefix_in : List Lexeme → Found
prefix_in ts = if is_step (head ts) then prefix_of (target_length (tail ts)) else nothing

abbrev pub step_in : Lexeme → Option Lexeme
step_in t = if is_step t then Some t else None

abbrev pub found_by : ℕ → Option Lexeme → List Lexeme → Found
found_by count (Some step) ts = postfix count step
found_by count None ts = prefix_in ts

abbrev pub found_after : ℕ → List Lexeme → Found
found_after count ts = if nat_lt 0 count then found_by count (step_in (head (drop count ts))) ts else prefix_in ts

abbrev pub found_in : List Lexeme → Found
found_in ts = found_after (target_length ts) ts

-- ---- what it stands for

abbrev pub up : Lexeme → Position → Lexeme
up step p = if is_sign s.Increment step then sign s.Plus p else sign s.Minus p

abbrev pub down : Lexeme → Position → Lexeme
down step p = if is_sign s.Increment step then sign s.Minus p else sign s.Plus p

-- without its outer brackets
abbrev pub bare : List Lexeme → List Lexeme
bare [] = []
bare (t ∷ ts) = if is_sign s.OpenParenthesis t then take (length ts - 1) ts else t ∷ ts

abbrev pub bracketed : Position → List Lexeme → List Lexeme
bracketed p ts = sign s.OpenParenthesis p ∷ ts ++ sign s.CloseParenthesis p ∷ []

-- `o.p = o.p + 1`
abbrev pub assigned : List Lexeme → Lexeme → List Lexeme
assigned target step =
    bare target ++ sign s.Assign (position_of step) ∷ target ++ up step (position_of step)
    ∷ number 1 (position_of step) ∷ []

-- `(o.p = o.p + 1) - 1`: its value is what was there before
abbrev pub taken_back : List Lexeme → Lexeme → List Lexeme
taken_back target step =
    bracketed (position_of step) (assigned target step) ++ down step (position_of step)
    ∷ number 1 (position_of step) ∷ []

abbrev pub undone : List Lexeme → Lexeme → List Lexeme
undone target step = bracketed (position_of step) (taken_back target step)

-- ---- the pass

-- what is read: whether the statement is a `for`, whether its second part is read, whether a part of it begins
pub record Stepping : Type 0 where
  pub calling : Calling
  pub loop : Bool
  pub middle : Bool
  pub fresh : Bool
  pub passed : ℕ

-- an action begins with the token: a statement, or the first or last part of a `for`
abbrev pub is_action : Stepping → Bool
is_action q = at_statement q.calling.reading.scope || (q.loop && (q.fresh && not q.middle))

abbrev pub is_operand : Role → Bool
is_operand roles.Operand = true
is_operand _ = false

-- what is stepped at the front of the tokens that come next
abbrev pub found_now : Stepping → List Lexeme → Found
found_now q ts =
    if is_in_body q.calling.reading.scope && is_operand (role_now q.calling) then found_in ts else nothing

abbrev pub postfix_as : Bool → List Lexeme → Lexeme → List Lexeme
postfix_as action target step = if action then assigned target step else undone target step

abbrev pub prefix_as : Bool → List Lexeme → Lexeme → List Lexeme
prefix_as action target step =
    if action then assigned target step else bracketed (position_of step) (assigned target step)

-- the first of these tokens
abbrev pub found_as : Bool → Found → List Lexeme → List Lexeme
found_as action nothing ts = take 1 ts
found_as action (postfix count step) ts = postfix_as action (take count ts) step
found_as action (prefix count) ts = prefix_as action (take count (tail ts)) (head ts)

abbrev pub stepped_as : Stepping → List Lexeme → List Lexeme
stepped_as q ts = if nat_lt 0 q.passed then [] else found_as (is_action q) (found_now q ts) ts

abbrev pub found_length : Found → ℕ
found_length nothing = 0
found_length (postfix count step) = count
found_length (prefix count) = count

abbrev pub passed_after : Stepping → List Lexeme → ℕ
passed_after q ts = if nat_lt 0 q.passed then q.passed - 1 else found_length (found_now q ts)

-- a colon in the brackets of a header
abbrev pub is_colon : Scope → Lexeme → Bool
is_colon scope t = is_in_header scope && is_sign s.Colon t

abbrev pub is_loop_after : Scope → Bool → Lexeme → Bool
is_loop_after scope loop t = if at_statement scope then is_word w.For t else loop

abbrev pub is_middle_after : Scope → Bool → Lexeme → Bool
is_middle_after scope middle t =
    if at_statement scope then false else if is_colon scope t then not middle else middle

abbrev pub is_fresh_after : Scope → Lexeme → Bool
is_fresh_after scope t = is_colon scope t || (is_before_header scope && is_sign s.OpenParenthesis t)

abbrev pub stepping_after : FileNames → Stepping → Lexeme → List Lexeme → Stepping
stepping_after names q t rest = record {
  calling = calling_after names q.calling t rest;
  loop = is_loop_after q.calling.reading.scope q.loop t;
  middle = is_middle_after q.calling.reading.scope q.middle t;
  fresh = is_fresh_after q.calling.reading.scope t;
  passed = passed_after q (t ∷ rest);
}

abbrev pub stepped_from : FileNames → Stepping → List Lexeme → List Lexeme
stepped_from names q [] = []
stepped_from names q (t ∷ ts) = stepped_as q (t ∷ ts) ++ stepped_from names (stepping_after names q t ts) ts

abbrev pub unstepped : Stepping
unstepped = record { calling = uncalled; loop = false; middle = false; fresh = false; passed = 0 }

abbrev pub stepped : List Lexeme → List Lexeme
stepped ts = stepped_from (names_of ts) unstepped ts
