-- The definitions at worked examples.
use Rattle.std.proofs.Common.{◌≡◌, ℕ, List, [], ◌∷◌, ◌++◌, Some, refl}
use Rattle.std.specs.Prelude.{codes}
use Rattle.syntax_lexer.specs.declared.token.Position.{Position}
use Rattle.syntax_lexer.specs.declared.token.Sign.TheVariants as g
use Rattle.syntax_lexer.specs.declared.token.Word.TheVariants as w
use Rattle.syntax_lexer.specs.Token.{Lexeme, name, reserved, sign, text, end}
use Rattle.syntax_lexer.specs.Tokens.{SourceToken}
use Rattle.derive_joined.specs.declared.part.Part.{Part}
use Rattle.derive_joined.specs.declared.part.Part.TheVariants as p
use Rattle.derive_joined.specs.declared.part.Run.{Run}
use Rattle.derive_joined.specs.declared.texts.Spot.{Spot}
use Rattle.derive_joined.specs.Included.{included}
use Rattle.derive_joined.specs.Parts.{parts_of}
use Rattle.derive_joined.specs.Texts.{spot_of, text_of}

abbrev at : ℕ → Position
at offset = record { offset = offset; line = 1 }

abbrev token : Lexeme → List ℕ → ℕ → SourceToken
token lexeme bytes behind = record { lexeme = lexeme; text = bytes; end = behind }

abbrev quoted : List ℕ → List ℕ
quoted s = 34 ∷ s ++ 34 ∷ []

abbrev run : ℕ → ℕ → ℕ → Run
run file begin count = record { file = file; begin = begin; length = count }

-- `Include "b";Global g;`, its tokens and its parts
abbrev main_text : List ℕ
main_text = codes "Include " ++ quoted (codes "b") ++ codes ";Global g;"

abbrev main_tokens : List SourceToken
main_tokens =
    token (name (codes "Include") (at 0)) (codes "Include") 7
    ∷ token (text (codes "b") (at 8)) (quoted (codes "b")) 11
    ∷ token (sign g.Semicolon (at 11)) (codes ";") 12
    ∷ token (reserved w.Global (at 12)) (codes "Global") 18
    ∷ token (name (codes "g") (at 19)) (codes "g") 20
    ∷ token (sign g.Semicolon (at 20)) (codes ";") 21
    ∷ token (end (at 21)) [] 21 ∷ []

abbrev main_parts : List Part
main_parts = p.Bytes (run 0 0 0) ∷ p.Asked (run 0 8 3) ∷ p.Bytes (run 0 12 9) ∷ []

a_file_is_asked_for : parts_of 0 21 main_tokens ≡ main_parts
a_file_is_asked_for = refl

-- in a routine it is no directive
abbrev routine_tokens : List SourceToken
routine_tokens =
    token (sign g.OpenBracket (at 0)) (codes "[") 1
    ∷ token (name (codes "F") (at 1)) (codes "F") 2
    ∷ token (sign g.Semicolon (at 2)) (codes ";") 3
    ∷ token (name (codes "Include") (at 4)) (codes "Include") 11
    ∷ token (text (codes "b") (at 11)) (quoted (codes "b")) 14
    ∷ token (sign g.Semicolon (at 14)) (codes ";") 15
    ∷ token (sign g.CloseBracket (at 15)) (codes "]") 16
    ∷ token (sign g.Semicolon (at 16)) (codes ";") 17
    ∷ token (end (at 17)) [] 17 ∷ []

none_is_asked_for_in_a_routine : parts_of 0 17 routine_tokens ≡ p.Bytes (run 0 0 17) ∷ []
none_is_asked_for_in_a_routine = refl

-- the file `! b` stands in the place of the directive, and its comment ends there
abbrev whole : List Part
whole = included (p.Bytes (run 1 0 3) ∷ []) main_parts

abbrev files : List (List ℕ)
files = main_text ∷ codes "! b" ∷ []

a_file_is_included : text_of files whole ≡ 10 ∷ codes "! b" ++ 10 ∷ codes "Global g;" ++ 10 ∷ []
a_file_is_included = refl

-- the bytes `b` and `G` of that text
a_byte_of_the_second_file : spot_of files whole 3 ≡ Some (record { file = 1; offset = 2 })
a_byte_of_the_second_file = refl

a_byte_behind_it : spot_of files whole 5 ≡ Some (record { file = 0; offset = 12 })
a_byte_behind_it = refl
