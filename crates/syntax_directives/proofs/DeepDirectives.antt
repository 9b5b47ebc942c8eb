-- Reading a directive comes no further than a token that stands deeper than the nestings that are left.
use Rattle.std.proofs.Common.{◌≡◌, ℕ, ◌≤◌, List, ◌∷◌, length, Ok, refl, arith}
use Rattle.syntax_lexer.specs.declared.token.Position.{Position}
use Rattle.syntax_lexer.specs.declared.token.Sign.TheVariants as s
use Rattle.syntax_lexer.specs.Token.{Lexeme, name, sign}
use Rattle.syntax_trees.specs.Tree.{NameTree}
use Rattle.syntax_trees.specs.Parse.{expect}
use Rattle.syntax_expressions.specs.PartParse.{expect_name}
use Rattle.syntax_expressions.proofs.Deepened.{Deepened, deep_in, deep_same}
use Rattle.syntax_statements.specs.Parse.{statements}
use Rattle.syntax_statements.proofs.DeepStatements.{deep_Ss}
use Rattle.syntax_directives.specs.Nesting.{DeepDirective, deep_d_routine}
use Rattle.syntax_directives.specs.Parse.{names, routine_at, directive}
use Rattle.syntax_directives.proofs.Lists.{names_read, short_Names}

in_routine : (d : ℕ) {n : ℕ} {m k u : List Lexeme} (p q o : Position) (f : List ℕ) (ns : List NameTree)
    → names m ≡ Ok (ns, sign s.Semicolon o ∷ k) → length k ≤ length m → Deepened (statements d k) d n k u
    → Deepened (directive d (sign s.OpenBracket p ∷ name f q ∷ m)) d n (sign s.OpenBracket p ∷ name f q ∷ m) u
unfolding directive routine_at expect_name expect
in_routine d {k = k} p q o f ns e less h = rw e (deep_same {us = k} refl (omega (arith, less)) (deep_in _ (deep_in _ h)))

pub deep_Directive : {n : ℕ} {ts u : List Lexeme} → DeepDirective n ts u → (d : ℕ)
    → Deepened (directive d ts) d n ts u
deep_Directive (deep_d_routine {m = m} {p = p} {q = q} {o = o} {f = f} {ns = ns} a x) d = in_routine d p q o f ns
    (names_read m a refl) (omega (arith, short_Names a)) (deep_Ss x d)
