-- One nesting further in.
use Rattle.std.proofs.Common.{◌≡◌, ℕ, zero, suc, ◌+◌, ◌-◌, ◌<◌, true, false, List, [], ◌∷◌, length, Ok, Err, refl, ap}
use Rattle.std.proofs.Common.{arith}
use Rattle.std.specs.Prelude.{map}
use Rattle.syntax_lexer.specs.declared.token.Token.{Token}
use Rattle.syntax_lexer.specs.Token.{Lexeme, lexemes}
use Rattle.syntax_trees.specs.Stop.{deep}
use Rattle.syntax_trees.specs.Parse.{head, as_long, repeated}
use Rattle.syntax_trees.proofs.Loops.{joined, joined_none}
use Rattle.syntax_statements.specs.declared.tree.Statement.{Statement}
use Rattle.syntax_statements.specs.Views.{statement_tree}
use Rattle.syntax_statements.specs.Nesting.{begins_statement, begins_in_case}
use Rattle.syntax_statements.specs.Parse.{inside, braces, bodies, statement, statements}

pub inside_zero : (d : ℕ) (ts : List Lexeme) → d ≡ 0 → inside d ts ≡ Err (deep (length ts))
unfolding inside
inside_zero zero ts e = refl
inside_zero (suc d) ts e = absurd (omega arith)

pub inside_more : (d k : ℕ) (ts : List Lexeme) → d ≡ k + 1 → inside d ts ≡ statement k ts
unfolding inside statement
inside_more zero k ts e = absurd (omega arith)
inside_more (suc d) k ts e = let same : d ≡ k = omega arith in ap (λ j. statement j ts) same

pub bodies_zero : (d : ℕ) (ts : List Lexeme) → d ≡ 0 → bodies d ts ≡ Err (deep (length ts))
unfolding bodies
bodies_zero zero ts e = refl
bodies_zero (suc d) ts e = absurd (omega arith)

count : (ts : List Token) → length (lexemes ts) ≡ length ts
count [] = refl
count (t ∷ ts) = ap suc (count ts)

-- nothing is read yet
pub bodies_begun : (d k : ℕ) (found : List Statement) (ts : List Token) → d ≡ k + 1 → found ≡ []
    → joined (map statement_tree found) (as_long begins_in_case (inside k) (length ts - 0) (lexemes ts))
    ≡ bodies d (lexemes ts)
unfolding bodies
bodies_begun zero k found ts more none = absurd (omega arith)
bodies_begun (suc d) k found ts more none =
    let same : k ≡ d = omega arith in
    let all : length ts - 0 ≡ length (lexemes ts) = omega (arith, count ts) in
    rw (none, all, same) (joined_none _)

-- after a brace: no nesting is left for it, or none for the statement that begins; nothing begins; a statement
-- begins

pub braces_zero : (d left : ℕ) (ts : List Lexeme) → d ≡ 0 → braces d left ts ≡ Err (deep left)
unfolding braces
braces_zero zero left ts e = refl
braces_zero (suc d) left ts e = absurd (omega arith)

pub braces_last : (d left : ℕ) (ts : List Lexeme) → d ≡ 1 → begins_statement (head ts) ≡ true
    → braces d left ts ≡ Err (deep (length ts))
unfolding braces repeated as_long begins_statement
braces_last d left [] e b = absurd cc
braces_last zero left (t ∷ ts) e b = absurd (omega arith)
braces_last (suc zero) left (t ∷ ts) e b = rw b refl
braces_last (suc (suc d)) left (t ∷ ts) e b = absurd (omega arith)

pub braces_empty : (d left : ℕ) (ts : List Lexeme) → 0 < d → begins_statement (head ts) ≡ false
    → braces d left ts ≡ Ok ([], ts)
unfolding braces repeated as_long
braces_empty zero left ts e b = absurd (omega arith)
braces_empty (suc d) left [] e b = refl
braces_empty (suc d) left (t ∷ ts) e b = rw b refl

pub braces_below : (d left : ℕ) (ts : List Lexeme) → 1 < d → braces d left ts ≡ statements (d - 2) ts
unfolding braces statements inside statement
braces_below zero left ts h = absurd (omega arith)
braces_below (suc zero) left ts h = absurd (omega arith)
braces_below (suc (suc d)) left ts h = let same : d ≡ suc (suc d) - 2 = omega arith in ap (λ j. statements j ts) same
