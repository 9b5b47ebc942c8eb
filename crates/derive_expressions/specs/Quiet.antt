-- Statements and directives that a pass leaves as they are: in which no bracket may call, or none may be that of a message.
use Rattle.std.specs.Prelude.{◌&&◌, ◌||◌, ◌+◌, ℕ, Bool, true, false, List, [], ◌∷◌, codes, take, if◌then◌else◌}
use Rattle.syntax_lexer.specs.declared.token.Sign.TheVariants as s
use Rattle.syntax_lexer.specs.Token.{Lexeme}
use Rattle.derive_tokens.specs.Tokens.{is_named, is_sign}
use Rattle.derive_tokens.specs.Names.{is_name}
use Rattle.derive_values.specs.Places.{is_at_rest}
use Rattle.derive_expressions.specs.declared.quiet.Behind.{Behind}
use Rattle.derive_expressions.specs.declared.quiet.Behind.TheVariants as behinds
use Rattle.derive_expressions.specs.declared.roles.Role.{Role}
use Rattle.derive_expressions.specs.declared.roles.Role.TheVariants as roles
use Rattle.derive_expressions.specs.Roles.{Calling, is_kin, role_now}

abbrev pub is_operand : Role → Bool
is_operand roles.Operand = true
is_operand _ = false

abbrev pub is_dotted : Behind → Bool
is_dotted behinds.Dot = true
is_dotted _ = false

-- a bracket may call what is behind, or else may be that of a message
abbrev pub may_call : Bool → Behind → Bool
may_call calls behinds.Nothing = false
may_call calls behinds.Property = true
may_call calls _ = calls

abbrev pub is_dot : Lexeme → Bool
is_dot t = is_sign s.Dot t || (is_sign s.DotAmpersand t || is_sign s.DotHash t)

abbrev pub behind_after : Behind → Lexeme → Behind
behind_after behind t =
    if is_dot t then behinds.Dot else if is_dotted behind then behinds.Property
    else if is_name t || is_sign s.CloseParenthesis t then behinds.Primary
    else behinds.Nothing

-- a bracket of a routine, or of a message; or else of a call too, `parent` and kin, or `self`
abbrev pub is_met : Bool → Behind → Lexeme → Bool
is_met calls behind t =
    is_sign s.OpenBracket t || (is_sign s.CloseBracket t || ((is_sign s.OpenParenthesis t && may_call calls behind)
    || (calls && (is_kin t || is_named (codes "self") t))))

-- After so many tokens: those up to the last end of a statement before a token that matters, where those up to the last
-- such end are known.
abbrev pub quiet_from : Bool → ℕ → ℕ → Behind → List Lexeme → ℕ
quiet_from calls last count behind [] = last
quiet_from calls last count behind (t ∷ ts) =
    if is_met calls behind t then last
    else quiet_from calls (if is_sign s.Semicolon t then count + 1 else last) (count + 1) (behind_after behind t) ts

abbrev pub quiet_length : Bool → List Lexeme → ℕ
quiet_length calls ts = quiet_from calls 0 0 behinds.Nothing ts

-- how many tokens are looked through at once
abbrev pub most_ahead : ℕ
most_ahead = 42

-- A statement or a directive begins, and no primary is before it.
abbrev pub quiet_ahead : Bool → Calling → List Lexeme → ℕ
quiet_ahead calls c ts =
    if is_at_rest c.reading.scope && is_operand (role_now c) then quiet_length calls (take most_ahead ts) else 0
