-- Names that must stand where they do, read one by one.
use Rattle.std.proofs.Common.{◌≡◌, false, List, [], ◌∷◌, length, Ok, Err, refl, sym, subst, ap, ◌∙◌}
use Rattle.syntax_lexer.specs.declared.token.Sign.TheVariants as s
use Rattle.syntax_lexer.specs.Token.{Lexeme, name, sign, position_of}
use Rattle.syntax_trees.specs.declared.tree.Name.{Name}
use Rattle.syntax_trees.specs.Views.{name_tree}
use Rattle.syntax_trees.specs.Stop.{unfit}
use Rattle.syntax_trees.specs.Parse.{head, tail, expect}
use Rattle.syntax_expressions.specs.PartParse.{is_name, name_on, expect_name, entry_of}
use Rattle.syntax_expressions.proofs.Judged.{Judged, judged_read, judged_grammar, judged_then, judged_after}
use Rattle.syntax_expressions.proofs.Tokens.{expect_ok, expect_not_deep}

pub name_found : (ts : List Lexeme) (n : Name) → head ts ≡ name n.text.now n.position
    → expect_name ts ≡ Ok (name_tree n, tail ts)
unfolding expect_name
name_found ts n e = ap (λ t. name_on t ts) e

pub no_name : (ts : List Lexeme) → is_name (head ts) ≡ false → expect_name ts ≡ Err (unfit (length ts))
unfolding expect_name
no_name [] e = refl
no_name (name s p ∷ ts) e = absurd cc
no_name (t ∷ ts) e = refl

-- in a name no token stands too deep
pub name_judged : (ts : List Lexeme) → Judged (λ n r. ts ≡ name n.text n.position ∷ r) (λ u. ⊥) (expect_name ts)
unfolding expect_name
name_judged (name n p ∷ ts) = judged_read (record { text = n; position = p }) ts refl
name_judged _ = judged_grammar

-- ---- a name with an arrow after it

pub entry_judged : (ts : List Lexeme)
    → Judged (λ n r. ts ≡ name n.text n.position ∷ sign s.LongArrow (position_of (head (tail ts))) ∷ r)
    (λ u. ⊥) (entry_of ts)
unfolding entry_of
entry_judged ts =
    judged_then _ (name_judged ts)
    (λ n u e. judged_after (expect s.LongArrow u) _
    (λ r g. judged_read n r
    (subst (λ v. ts ≡ name n.text n.position ∷ sign s.LongArrow (position_of (head v)) ∷ r) (sym (ap tail e))
    (e ∙ ap (λ v. name n.text n.position ∷ v) (expect_ok s.LongArrow u r g))))
    (λ k g. absurd (expect_not_deep s.LongArrow u k g)))
    (λ v never. never)
