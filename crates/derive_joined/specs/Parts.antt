-- The parts of a file: its Include directives, and the bytes around them. A directive `Include` with a text and `;` stands
-- at the beginning of the file or behind the `;` of another directive, outside routines.
use Rattle.std.specs.Prelude.{◌-◌, ℕ, List, [], ◌∷◌, ◌++◌, length, codes, if◌then◌else◌}
use Rattle.std.specs.Str.{str_eq_ignore_ascii_case}
use Rattle.syntax_lexer.specs.declared.token.Sign.TheVariants as g
use Rattle.syntax_lexer.specs.Token.{Lexeme, name, text, sign, position_of}
use Rattle.syntax_lexer.specs.Tokens.{SourceToken}
use Rattle.derive_joined.specs.declared.inclusion.Mode.{Mode}
use Rattle.derive_joined.specs.declared.inclusion.Mode.TheVariants as m
use Rattle.derive_joined.specs.declared.inclusion.Role.{Role}
use Rattle.derive_joined.specs.declared.inclusion.Role.TheVariants as r
use Rattle.derive_joined.specs.declared.part.Part.{Part}
use Rattle.derive_joined.specs.declared.part.Part.TheVariants as p
use Rattle.derive_joined.specs.declared.part.Run.{Run}

-- what a token is to a reader of directives
abbrev pub role : Lexeme → Role
role (name s at) = if str_eq_ignore_ascii_case s (codes "include") then r.Include else r.Other
role (text s at) = r.Text
role (sign g.Semicolon at) = r.Semicolon
role (sign g.OpenBracket at) = r.Open
role (sign g.CloseBracket at) = r.Close
role _ = r.Other

-- what follows a token that is no part of an Include directive: outside of routines, and in one
abbrev pub after : Role → Mode
after r.Semicolon = m.Start
after r.Open = m.Routine
after _ = m.Directive

abbrev pub after_inside : Role → Mode
after_inside r.Close = m.Directive
after_inside _ = m.Routine

abbrev pub begin_of : SourceToken → ℕ
begin_of t = (position_of t.lexeme).offset

-- the bytes of a file from an offset to another
abbrev pub run_to : ℕ → ℕ → ℕ → Run
run_to file begin end = record { file = file; begin = begin; length = end - begin }

-- the bytes of a token
abbrev pub run_of : ℕ → SourceToken → Run
run_of file t = record { file = file; begin = begin_of t; length = length t.text }

abbrev pub mode_after : ℕ → Mode → SourceToken → Role → Mode
mode_after file m.Start t r.Include = m.Include (begin_of t)
mode_after file m.Behind t r.Include = m.Include (begin_of t)
mode_after file (m.Include at) t r.Text = m.Named at (run_of file t)
mode_after file (m.Named at named) t r.Semicolon = m.Behind
mode_after file m.Routine t found = after_inside found
mode_after file _ t found = after found

-- where the bytes begin that are in no part yet, and where the next token stands
pub record State : Type 0 where
  pub file : ℕ
  pub at : ℕ
  pub mode : Mode

-- behind an Include directive the bytes go on with the next token
abbrev pub at_after : ℕ → Mode → SourceToken → ℕ
at_after at m.Behind t = begin_of t
at_after at _ t = at

abbrev pub state_after : State → SourceToken → State
state_after s t = record {
  file = s.file;
  at = at_after s.at s.mode t;
  mode = mode_after s.file s.mode t (role t.lexeme);
}

-- the parts that end with a token: those of an Include directive with its `;`
abbrev pub parts_in : ℕ → ℕ → Mode → Role → List Part
parts_in file at (m.Named begin named) r.Semicolon = p.Bytes (run_to file at begin) ∷ p.Asked named ∷ []
parts_in file at _ _ = []

abbrev pub parts_at : State → Role → List Part
parts_at s found = parts_in s.file s.at s.mode found

abbrev pub parts_from : ℕ → State → List SourceToken → List Part
parts_from end s [] = p.Bytes (run_to s.file s.at end) ∷ []
parts_from end s (t ∷ ts) = parts_at s (role t.lexeme) ++ parts_from end (state_after s t) ts

-- the parts of a file of so many bytes, with these tokens
abbrev pub parts_of : ℕ → ℕ → List SourceToken → List Part
parts_of file end ts = parts_from end (record { file = file; at = 0; mode = m.Start }) ts
