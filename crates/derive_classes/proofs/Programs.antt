-- One directive of a program more.
use Rattle.std.proofs.Common.{◌≡◌, ℕ, List, ◌∷◌, ◌++◌, ap, sym, ◌∙◌, append_assoc}
use Rattle.syntax_lexer.specs.Token.{Lexeme}
use Rattle.derive_classes.specs.Classes.{Known, directive, known_after, program_from}

pub program_step : (additive : List (List ℕ)) (known after : Known) (out more whole d : List Lexeme)
    (ds rest : List (List Lexeme))
    → more ≡ out ++ directive additive known d
    → after ≡ known_after additive known d
    → ds ≡ d ∷ rest
    → out ++ program_from additive known ds ≡ whole
    → more ++ program_from additive after rest ≡ whole
program_step additive known after out more whole d ds rest puts learns cuts before =
    ap (λ (l : List Lexeme). l ++ program_from additive after rest) puts
    ∙ ap (λ (k : Known). (out ++ directive additive known d) ++ program_from additive k rest) learns
    ∙ append_assoc out (directive additive known d) (program_from additive (known_after additive known d) rest)
    ∙ ap (λ (xs : List (List Lexeme)). out ++ program_from additive known xs) (sym cuts)
    ∙ before
