use Rattle.std.proofs.Common.{◌≡◌, ◌∙◌, List, [], ◌∷◌, ◌++◌, Result, ap, append_assoc}
use Rattle.std.specs.Prelude.{OnOk, codes}
use Rattle.std.proofs.lemmas.Result.{on_ok_weaker}
use Rattle.syntax_lexer.specs.Token.{Lexeme, name, sign}
use Rattle.syntax_lexer.specs.declared.token.Sign.TheVariants as s
use Rattle.derive_tokens.specs.Pieces.{derived_all}
use Rattle.derive_statements.proofs.loops.put_spaces.Goals as goal

two : (before middle after : List Lexeme) (t u : Lexeme) → middle ≡ before ++ t ∷ [] → after ≡ middle ++ u ∷ []
    → after ≡ before ++ t ∷ u ∷ []
two before middle after t u e h =
    h ∙ ap (λ (ts : List Lexeme). ts ++ u ∷ []) e ∙ append_assoc before (t ∷ []) (u ∷ [])

two_on_ok : {T E : Type 0} (r : Result T E) (before middle after : List Lexeme) (t u : Lexeme)
    → middle ≡ before ++ t ∷ [] → OnOk r (after ≡ middle ++ u ∷ []) → OnOk r (after ≡ before ++ t ∷ u ∷ [])
two_on_ok r before middle after t u e h = on_ok_weaker r (two before middle after t u e) h

-- src/loops.rt: the name and the bracket
pub returns : goal.returns
returns c =
    two_on_ok c.put_kind-2.result (derived_all c.args.out.now.items) (derived_all c.put_kind.new.out.items)
    (derived_all c.put_kind-2.new.out.items) (name (codes "x__spaces") c.args.position)
    (sign s.OpenParenthesis c.args.position) c.in_ok-put_kind.ensures c.put_kind-2.ensures
