-- What a directive is: tokens up to a `;`, which only the last of a file may lack.
use Rattle.std.specs.Prelude.{◌-◌, ◌&&◌, ◌||◌, ℕ, Bool, List, [], ◌∷◌, length, take, drop, if◌then◌else◌, codes}
use Rattle.syntax_lexer.specs.declared.token.Sign.TheVariants as s
use Rattle.syntax_lexer.specs.declared.token.Word.TheVariants as w
use Rattle.syntax_lexer.specs.Token.{Lexeme, head, tail}
use Rattle.derive_tokens.specs.Tokens.{is_sign, is_word, is_named}
use Rattle.derive_tokens.specs.Names.{is_name, with_name_of}
use Rattle.derive_classes.specs.declared.parts.Row.TheVariants as rows
use Rattle.derive_classes.specs.Heads.{body_of}
use Rattle.derive_classes.specs.Parts.{begins_classes, row_of}

-- tokens without their last, and the last alone
abbrev pub before_last : List Lexeme → List Lexeme
before_last ts = take (length ts - 1) ts

abbrev pub last_alone : List Lexeme → List Lexeme
last_alone ts = drop (length ts - 1) ts

abbrev pub is_ended : List Lexeme → Bool
is_ended d = is_sign s.Semicolon (head (last_alone d))

-- an object, a class, or an object of a class: it begins with `Object` or a name
abbrev pub is_object : List Lexeme → Bool
is_object d = is_ended d && (is_word w.Object (head d) || is_name (head d))

-- `Class` and a name
abbrev pub is_class : List Lexeme → Bool
is_class d = is_ended d && (begins_classes (head d) && is_name (head (tail d)))

-- the names of the properties that it provides itself
abbrev pub provided : List Lexeme → List Lexeme
provided d = if is_object d then row_of rows.Names (body_of (tail d)) else []

-- the classes that it names
abbrev pub mentions : List Lexeme → List Lexeme
mentions d = if is_object d then row_of rows.Mentions (body_of (tail d)) else []

-- `Property additive` and a name
abbrev pub is_additive : List Lexeme → Bool
is_additive d =
    is_word w.Property (head d) && (is_named (codes "additive") (head (tail d)) && is_name (head (tail (tail d))))

-- the additive properties, with `name`
abbrev pub additive_from : List (List ℕ) → List (List Lexeme) → List (List ℕ)
additive_from names [] = names
additive_from names (d ∷ ds) =
    additive_from (if is_additive d then with_name_of names (head (tail (tail d))) else names) ds

abbrev pub additive_of : List (List Lexeme) → List (List ℕ)
additive_of ds = additive_from (codes "name" ∷ []) ds
