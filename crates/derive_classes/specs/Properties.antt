-- A property that no directive defines is declared behind the first object or class that provides it.
use Rattle.std.specs.Prelude.{ℕ, List, [], ◌∷◌, ◌++◌, if◌then◌else◌, codes}
use Rattle.std.specs.List.{fold}
use Rattle.syntax_lexer.specs.declared.token.Sign.TheVariants as s
use Rattle.syntax_lexer.specs.declared.token.Word.TheVariants as w
use Rattle.syntax_lexer.specs.Token.{Lexeme, reserved, sign, head, tail, position_of}
use Rattle.derive_tokens.specs.Names.{is_among, small_name, with_name_of}
use Rattle.derive_constants.specs.Cutting.{directives}
use Rattle.derive_classes.specs.Directives.{is_additive, provided}

-- the name that a directive defines, behind its first word
abbrev pub defined_in : List Lexeme → Lexeme
defined_in d = if is_additive d then head (tail (tail d)) else head (tail d)

abbrev pub defined_from : List (List ℕ) → List (List Lexeme) → List (List ℕ)
defined_from names [] = names
defined_from names (d ∷ ds) = defined_from (with_name_of names (defined_in d)) ds

-- the names that are defined, with `name`, which always is
abbrev pub defined : List (List Lexeme) → List (List ℕ)
defined ds = defined_from (codes "name" ∷ []) ds

abbrev pub declaration : Lexeme → List Lexeme
declaration t = reserved w.Property (position_of t) ∷ t ∷ sign s.Semicolon (position_of t) ∷ []

-- the declaration of a property, if it is not defined
abbrev pub missing : List (List ℕ) → Lexeme → List Lexeme
missing names t = if is_among names (small_name t) then [] else declaration t

abbrev pub declarations : List (List ℕ) → List Lexeme → List Lexeme
declarations names [] = []
declarations names (t ∷ ts) = missing names t ++ declarations (with_name_of names t) ts

-- a directive, with what declares its properties
abbrev pub with_declarations : List (List ℕ) → List Lexeme → List Lexeme
with_declarations names d = d ++ declarations names (provided d)

abbrev pub names_after : List (List ℕ) → List Lexeme → List (List ℕ)
names_after names d = fold with_name_of names (provided d)

abbrev pub declared_from : List (List ℕ) → List (List Lexeme) → List Lexeme
declared_from names [] = []
declared_from names (d ∷ ds) = with_declarations names d ++ declared_from (names_after names d) ds

abbrev pub declared : List Lexeme → List Lexeme
declared ts = declared_from (defined (directives ts)) (directives ts)
