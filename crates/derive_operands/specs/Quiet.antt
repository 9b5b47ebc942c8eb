-- Statements and directives that a pass leaves as they are: those without `or`, or without steps.
use Rattle.std.specs.Prelude.{◌==◌, ◌&&◌, ◌||◌, ◌+◌, ℕ, Bool, true, false, List, [], ◌∷◌, if◌then◌else◌}
use Rattle.syntax_lexer.specs.declared.token.Sign.TheVariants as s
use Rattle.syntax_lexer.specs.Token.{Lexeme}
use Rattle.derive_tokens.specs.Tokens.{is_sign}
use Rattle.derive_values.specs.declared.places.Place.TheVariants as places
use Rattle.derive_values.specs.declared.places.Scope.{Scope}
use Rattle.derive_values.specs.declared.places.Scope.TheVariants as scopes
use Rattle.derive_values.specs.Places.{is_at_rest}
use Rattle.derive_statements.specs.Lists.{deeper}
use Rattle.derive_sums.specs.Sums.{is_or}
use Rattle.derive_operands.specs.Alternatives.{Choosing, is_closed}
use Rattle.derive_operands.specs.declared.alternatives.Frame.{Frame}
use Rattle.derive_operands.specs.declared.quiet.Area.{Area}
use Rattle.derive_operands.specs.declared.quiet.Area.TheVariants as areas
use Rattle.derive_operands.specs.Steps.{Stepping, is_step}

-- where a token stands, by the brackets of routines and the ends of statements alone
abbrev pub area_after : Area → Lexeme → Area
area_after areas.Between t =
    if is_sign s.OpenBracket t then areas.Header else if is_sign s.Semicolon t then areas.Between else areas.Directive
area_after areas.Directive t = if is_sign s.Semicolon t then areas.Between else areas.Directive
area_after areas.Header t = if is_sign s.Semicolon t then areas.Body else areas.Header
area_after areas.Body t = if is_sign s.CloseBracket t then areas.Directive else areas.Body

abbrev pub area_of : Scope → Area
area_of scopes.Between = areas.Between
area_of scopes.Named = areas.Header
area_of scopes.Locals = areas.Header
area_of (scopes.Body place) = areas.Body
area_of _ = areas.Directive

-- where a statement or a directive begins
abbrev pub scope_at : Area → Scope
scope_at areas.Body = scopes.Body places.Statement
scope_at _ = scopes.Between

-- a step, or a bracket of a routine; or else `or`
abbrev pub is_met : Bool → Lexeme → Bool
is_met steps t =
    if steps then is_sign s.OpenBracket t || (is_sign s.CloseBracket t || is_step t) else is_or t

-- so many tokens, and the area after them
pub record Run : Type 0 where
  pub length : ℕ
  pub area : Area

abbrev pub run : ℕ → Area → Run
run length area = record { length = length; area = area }

-- After so many tokens, in so many brackets: the tokens up to the last end of a statement before a token that matters, where
-- those up to the last such end are known.
abbrev pub quiet_from : Bool → Run → ℕ → ℕ → Area → List Lexeme → Run
quiet_from steps last count depth area [] = last
quiet_from steps last count depth area (t ∷ ts) =
    if is_met steps t then last
    else quiet_from steps (if (depth == 0) && is_sign s.Semicolon t then run (count + 1) (area_after area t) else last)
    (count + 1) (deeper depth t) (area_after area t) ts

abbrev pub quiet_run : Bool → Area → List Lexeme → Run
quiet_run steps area ts = quiet_from steps (run 0 area) 0 0 area ts

abbrev pub is_none : List Frame → Bool
is_none [] = true
is_none (f ∷ fs) = false

-- no alternatives are read
abbrev pub is_plain : Choosing → Bool
is_plain c = is_closed c.frame && ((c.passed == 0) && is_none c.outer)

-- after tokens that stay as they are, in a scope
abbrev pub passed_over : Choosing → Scope → Choosing
passed_over c scope =
    record { scope = scope; begins = true; frame = c.frame; outer = c.outer; passed = c.passed }

-- no step is passed
abbrev pub is_unstepped : Stepping → Bool
is_unstepped q = is_at_rest q.calling.reading.scope && (q.passed == 0)
