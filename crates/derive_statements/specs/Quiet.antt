-- Statements and directives that a pass leaves as they are.
use Rattle.std.specs.Prelude.{◌&&◌, ◌||◌, ◌+◌, ℕ, Bool, true, false, List, [], ◌∷◌, if◌then◌else◌, codes}
use Rattle.syntax_lexer.specs.declared.token.Sign.TheVariants as s
use Rattle.syntax_lexer.specs.declared.token.Word.TheVariants as w
use Rattle.syntax_lexer.specs.Token.{Lexeme, head}
use Rattle.derive_tokens.specs.Tokens.{is_named, is_sign, is_word}
use Rattle.derive_values.specs.declared.places.Scope.{Scope}
use Rattle.derive_values.specs.Places.{is_text}
use Rattle.derive_statements.specs.declared.quiet.Seek.{Seek}
use Rattle.derive_statements.specs.declared.quiet.Seek.TheVariants as seeks
use Rattle.derive_statements.specs.Lists.{at_statement}

-- what a pass looks for in statements
abbrev pub is_sought : Seek → Lexeme → List Lexeme → Bool
is_sought seeks.Introduction t rest = is_text t && is_sign s.Comma (head rest)
is_sought seeks.List t rest = is_sign s.Comma t
is_sought seeks.Loop t rest = is_word w.Objectloop t || is_named (codes "spaces") t

-- that, or a bracket of a routine, after the beginning of a statement or a directive
abbrev pub is_met : Seek → Scope → Lexeme → List Lexeme → Bool
is_met seek scope t rest =
    is_sign s.OpenBracket t || (is_sign s.CloseBracket t || (at_statement scope && is_sought seek t rest))

-- How many tokens there are up to the last end before a token that is met; up to the last one so far there are `last`.
abbrev pub quiet_from : Seek → Scope → ℕ → ℕ → List Lexeme → ℕ
quiet_from seek scope last count [] = last
quiet_from seek scope last count (t ∷ ts) =
    if is_met seek scope t ts then last
    else quiet_from seek scope (if is_sign s.Semicolon t then count + 1 else last) (count + 1) ts

abbrev pub quiet_run : Seek → Scope → List Lexeme → ℕ
quiet_run seek scope ts = quiet_from seek scope 0 0 ts
