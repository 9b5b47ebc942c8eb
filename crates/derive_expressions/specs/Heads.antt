-- The calls after a primary, looked for ahead from its first token on: `o.p(x)(y)` has two, a message `p` and a call.
use Rattle.std.specs.Prelude.{◌==◌, ◌&&◌, ℕ, Bool, true, false, not, List, [], ◌∷◌, ◌++◌, if◌then◌else◌}
use Rattle.std.specs.Prelude.{Option, Some, None}
use Rattle.syntax_lexer.specs.declared.token.Sign.TheVariants as s
use Rattle.syntax_lexer.specs.Token.{Lexeme}
use Rattle.derive_tokens.specs.Tokens.{is_sign}
use Rattle.derive_tokens.specs.Names.{is_name}
use Rattle.derive_values.specs.Places.{Reading}
use Rattle.derive_statements.specs.FileNames.{FileNames}
use Rattle.derive_statements.specs.Lists.{deeper, ends_statement}
use Rattle.derive_expressions.specs.declared.heads.Ahead.{Ahead}
use Rattle.derive_expressions.specs.declared.heads.Ahead.TheVariants as aheads
use Rattle.derive_expressions.specs.Roles.{is_callee, is_cast}

-- the property of a message, or a call
abbrev pub Head : Type 0
Head = Option Lexeme

-- what is looked ahead, the brackets that are open, and the property after a dot
pub record Chain : Type 0 where
  pub ahead : Ahead
  pub depth : ℕ
  pub property : Head

-- where nothing is open
abbrev pub at : Ahead → Chain
at ahead = record { ahead = ahead; depth = 0; property = None }

-- so many brackets are open
abbrev pub inside : ℕ → Chain
inside depth = record { ahead = aheads.Inside; depth = depth; property = None }

abbrev pub chain_ended : Lexeme → Chain
chain_ended t =
    if is_sign s.Dot t then at aheads.AtProperty else if is_sign s.OpenParenthesis t then inside 1
    else at aheads.Over

abbrev pub chain_named : Lexeme → Chain
chain_named t =
    if is_name t then record { ahead = aheads.AtBracket; depth = 0; property = Some t } else at aheads.Over

abbrev pub chain_inside : ℕ → Chain
chain_inside depth = if depth == 0 then at aheads.Ended else inside depth

abbrev pub chain_on : Ahead → ℕ → Lexeme → Chain
chain_on aheads.Ended depth t = chain_ended t
chain_on aheads.AtProperty depth t = chain_named t
chain_on aheads.AtBracket depth t = chain_ended t
chain_on aheads.Inside depth t = chain_inside (deeper depth t)
chain_on aheads.Over depth t = at aheads.Over

-- A primary does not leave its statement.
abbrev pub chain_after : Chain → Lexeme → Chain
chain_after c t = if ends_statement t then at aheads.Over else chain_on c.ahead c.depth t

-- a bracket calls, or sends a message
abbrev pub takes_bracket : Ahead → Bool
takes_bracket aheads.Ended = true
takes_bracket aheads.AtBracket = true
takes_bracket _ = false

abbrev pub is_over : Ahead → Bool
is_over aheads.Over = true
is_over _ = false

abbrev pub heads_with : List Head → Chain → Lexeme → List Head
heads_with heads c t =
    if takes_bracket c.ahead && is_sign s.OpenParenthesis t then heads ++ c.property ∷ [] else heads

abbrev pub heads_from : List Head → Chain → List Lexeme → List Head
heads_from heads c [] = heads
heads_from heads c (t ∷ ts) = heads_from (heads_with heads c t) (chain_after c t) ts

-- the calls after a primary, in order, from its first token on
abbrev pub heads_of : FileNames → Reading → Lexeme → List Lexeme → List Head
heads_of names r t rest =
    if is_callee names r t rest then heads_from [] (inside 0) rest
    else if is_name t then heads_from [] (at aheads.Ended) rest
    else if is_sign s.OpenParenthesis t && not (is_cast rest) then heads_from [] (inside 1) rest
    else []
