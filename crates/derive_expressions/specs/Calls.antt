-- Calls by value, messages, `random` and kin, `self`. A primary is read from its first token on: `o.p(x)` stands for
-- `x__send1(o, x)`, and `f(x)` of no routine `f` for `x__call(f, x)`.
use Rattle.std.specs.Prelude.{◌==◌, ◌&&◌, ◌||◌, ◌+◌, ℕ, Bool, not, List, [], ◌∷◌, ◌++◌, if◌then◌else◌}
use Rattle.std.specs.Prelude.{codes, nat_lt, drop, reverse, Ok, Err, Option, Some, None}
use Rattle.std.specs.List.{flat_map}
use Rattle.std.specs.Str.{bytes_eq}
use Rattle.syntax_lexer.specs.declared.token.Position.{Position}
use Rattle.syntax_lexer.specs.declared.token.Sign.TheVariants as s
use Rattle.syntax_lexer.specs.FaultNumbers.{too_many}
use Rattle.syntax_lexer.specs.Token.{Lexeme, name, sign, head, position_of}
use Rattle.derive_tokens.specs.Tokens.{Outcome, is_sign, numbered, refused}
use Rattle.derive_tokens.specs.Names.{is_name, small_name, with_name, number_in}
use Rattle.derive_values.specs.Places.{Reading}
use Rattle.derive_statements.specs.FileNames.{FileNames, names_of, is_defined}
use Rattle.derive_statements.specs.Lists.{deeper, ends_statement}
use Rattle.derive_expressions.specs.declared.roles.Role.{Role}
use Rattle.derive_expressions.specs.declared.roles.Role.TheVariants as roles
use Rattle.derive_expressions.specs.Heads.{Head, heads_of}
use Rattle.derive_expressions.specs.Roles.{Calling, routine_of, is_in_body, is_sent, role_now, calling_after, uncalled}

-- ---- arguments

abbrev pub ends_arguments : ℕ → Lexeme → Bool
ends_arguments opened t = (opened == 0) || ends_statement t

abbrev pub commas_after : ℕ → ℕ → Lexeme → ℕ
commas_after commas opened t = if (opened == 1) && is_sign s.Comma t then commas + 1 else commas

-- commas between arguments, up to the bracket that closes
abbrev pub commas_from : ℕ → ℕ → List Lexeme → ℕ
commas_from commas opened [] = commas
commas_from commas opened (t ∷ ts) =
    if ends_arguments opened t then commas else commas_from (commas_after commas opened t) (deeper opened t) ts

-- how many arguments are after an opening bracket
abbrev pub arguments_in : List Lexeme → ℕ
arguments_in ts = if is_sign s.CloseParenthesis (head ts) then 0 else commas_from 0 1 ts + 1

abbrev pub most_of_call : ℕ
most_of_call = 6

abbrev pub most_of_message : ℕ
most_of_message = 5

abbrev pub most_of_random : ℕ
most_of_random = 7

-- ---- the properties to which messages are sent, in small letters

abbrev pub messages_after : List (List ℕ) → Role → Lexeme → List Lexeme → List (List ℕ)
messages_after messages roles.Dotted t rest =
    if is_sent t rest then with_name messages (small_name t) else messages
messages_after messages _ t rest = messages

abbrev pub messages_from : FileNames → List (List ℕ) → Calling → List Lexeme → List (List ℕ)
messages_from names messages c [] = messages
messages_from names messages c (t ∷ ts) =
    messages_from names (messages_after messages (role_now c) t ts) (calling_after names c t ts) ts

abbrev pub messages_of : FileNames → List Lexeme → List (List ℕ)
messages_of names ts = messages_from names [] uncalled ts

-- ---- what a token stands for

-- The k-th property to which a message is sent, counted from 1, has the routine `x__send` k.
abbrev pub head_name : List (List ℕ) → Head → List ℕ
head_name messages (Some t) = numbered (codes "x__send") (number_in messages (small_name t))
head_name messages None = codes "x__call"

abbrev pub head_written : List (List ℕ) → Position → Head → List Lexeme
head_written messages p h = name (head_name messages h) p ∷ sign s.OpenParenthesis p ∷ []

-- the last call first
abbrev pub heads_written : List (List ℕ) → Position → List Head → List Lexeme
heads_written messages p hs = flat_map (head_written messages p) (reverse hs)

-- the comma before the arguments of a call, if there are any and not too many
abbrev pub comma_before : ℕ → Position → List Lexeme → Outcome
comma_before most p rest =
    if nat_lt most (arguments_in rest) then Err (refused too_many p)
    else Ok (if arguments_in rest == 0 then [] else sign s.Comma p ∷ [])

-- one of so many values at random
abbrev pub random_as : Position → ℕ → Outcome
random_as p count =
    if nat_lt most_of_random count then Err (refused too_many p)
    else Ok (name (if nat_lt 1 count then numbered (codes "x__one") count else codes "x__random") p ∷ [])

-- a function, in small letters, before its bracket: the routine that is made for it, or one for so many values
abbrev pub function_as : List ℕ → List ℕ → Position → List Lexeme → Outcome
function_as n routine p rest =
    if bytes_eq n (codes "random") then random_as p (arguments_in (drop 1 rest)) else Ok (name routine p ∷ [])

abbrev pub is_self : FileNames → Reading → List ℕ → Bool
is_self names r n = bytes_eq n (codes "self") && not (is_defined names r.own n)

abbrev pub self_as : FileNames → Reading → List ℕ → Lexeme → Lexeme
self_as names r n t = if is_self names r n then name (codes "x__self") (position_of t) else t

-- a name, in small letters, before a bracket: of a function, or of something else
abbrev pub called_name : FileNames → Reading → Option (List ℕ) → List ℕ → Lexeme → List Lexeme → Outcome
called_name names r (Some routine) n t rest = function_as n routine (position_of t) rest
called_name names r None n t rest = Ok (self_as names r n t ∷ [])

-- a name, in small letters, with which a primary begins
abbrev pub name_as : FileNames → Reading → List ℕ → Lexeme → List Lexeme → Outcome
name_as names r n t rest =
    if is_sign s.OpenParenthesis (head rest) then called_name names r (routine_of names r n) n t rest
    else Ok (self_as names r n t ∷ [])

-- an outcome after these tokens
abbrev pub after_tokens : List Lexeme → Outcome → Outcome
after_tokens ts (Ok others) = Ok (ts ++ others)
after_tokens ts (Err fault) = Err fault

-- the first token of a primary
abbrev pub first_as : FileNames → Reading → Lexeme → List Lexeme → Outcome
first_as names r t rest = if is_name t then name_as names r (small_name t) t rest else Ok (t ∷ [])

abbrev pub begun_as : FileNames → List (List ℕ) → Reading → Lexeme → List Lexeme → Outcome
begun_as names messages r t rest =
    after_tokens (heads_written messages (position_of t) (heads_of names r t rest)) (first_as names r t rest)

-- a dot, a property and a bracket
abbrev pub is_message : Lexeme → List Lexeme → Bool
is_message t rest = is_sent (head rest) (drop 1 rest) && is_sign s.Dot t

-- a token that a primary is before
abbrev pub following_as : Lexeme → List Lexeme → Outcome
following_as t rest =
    if is_sign s.OpenParenthesis t then comma_before most_of_call (position_of t) rest
    else Ok (if is_message t rest then [] else t ∷ [])

-- the name of a property
abbrev pub property_as : Lexeme → List Lexeme → Outcome
property_as t rest = Ok (if is_sent t rest then [] else t ∷ [])

abbrev pub called_as : FileNames → List (List ℕ) → Reading → Role → Lexeme → List Lexeme → Outcome
called_as names messages r roles.Operand t rest = begun_as names messages r t rest
called_as names messages r roles.Follows t rest = following_as t rest
called_as names messages r roles.Dotted t rest = property_as t rest
called_as names messages r roles.Sent t rest = comma_before most_of_message (position_of t) rest
called_as names messages r _ t rest = Ok (t ∷ [])

-- tokens, and then those of the rest
abbrev pub put_all : Outcome → Outcome → Outcome
put_all (Ok ts) others = after_tokens ts others
put_all (Err fault) others = Err fault

abbrev pub called_now : FileNames → List (List ℕ) → Calling → Lexeme → List Lexeme → Outcome
called_now names messages c t rest =
    if is_in_body c.reading.scope then called_as names messages c.reading (role_now c) t rest else Ok (t ∷ [])

abbrev pub called_from : FileNames → List (List ℕ) → Calling → List Lexeme → Outcome
called_from names messages c [] = Ok []
called_from names messages c (t ∷ ts) =
    put_all (called_now names messages c t ts) (called_from names messages (calling_after names c t ts) ts)

abbrev pub called : List Lexeme → Outcome
called ts = called_from (names_of ts) (messages_of (names_of ts) ts) uncalled ts
