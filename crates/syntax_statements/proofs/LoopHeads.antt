-- What an `objectloop` goes over: what is read derives, and what has a tree is read as that tree. It is read as one
-- expression without an assignment at its root, and told by its tree.
use Rattle.std.proofs.Common.{◌≡◌, ℕ, zero, suc, ◌<◌, ◌≤◌, max, List, ◌∷◌, length, Option, Some, None, refl, sym}
use Rattle.std.proofs.Common.{subst, inr, arith}
use Rattle.syntax_lexer.specs.declared.token.Position.{Position}
use Rattle.syntax_lexer.specs.declared.token.Sign.TheVariants as s
use Rattle.syntax_lexer.specs.declared.token.Word.TheVariants as w
use Rattle.syntax_lexer.specs.Token.{Lexeme, name, reserved, sign, position_of}
use Rattle.syntax_trees.specs.Tree as tree
use Rattle.syntax_trees.specs.Tree.{NameTree, ExpressionTree}
use Rattle.syntax_trees.specs.Parse.{head, expect}
use Rattle.syntax_expressions.specs.Grammar.{IsE1, e1_plain, n1_plain, e2_plain, e2_contained, IsE3, e3_plain, e4_plain}
use Rattle.syntax_expressions.specs.Grammar.{n4_plain, e5_plain, u_plain, p_name, nesting}
use Rattle.syntax_expressions.specs.Nesting.{DeepE1}
use Rattle.syntax_expressions.specs.PartParse.{expect_name}
use Rattle.syntax_expressions.specs.Parse.{condition, nested}
use Rattle.syntax_expressions.proofs.Complete.{at_E1}
use Rattle.syntax_expressions.proofs.Judged.{Judged, judged_read, judged_deep, judged_then, judged_after}
use Rattle.syntax_expressions.proofs.Judged.{judged_as}
use Rattle.syntax_expressions.proofs.Limited.{Limited, then}
use Rattle.syntax_expressions.proofs.Short.{short_E1, short_E3}
use Rattle.syntax_expressions.proofs.Sound.{judged_E1, no_more}
use Rattle.syntax_expressions.proofs.SoundOperands.{Within}
use Rattle.syntax_expressions.proofs.Tokens.{expect_ok, expect_not_deep}
use Rattle.syntax_expressions.proofs.NamesRead.{name_judged}
use Rattle.syntax_statements.specs.PartTree.{LoopTree, over_all, over_in, over_where}
use Rattle.syntax_statements.specs.PartGrammar.{IsLoop, loop_all, loop_in, loop_where}
use Rattle.syntax_statements.specs.PartParse.{name_alone, member, holder, loop_on, loop_of, looped, looped_in}
use Rattle.syntax_statements.specs.PartParse.{enclosed_loop}
use Rattle.syntax_statements.specs.Tree.{loop_over, StatementTree}
use Rattle.syntax_statements.specs.Grammar.{statement_nesting}
use Rattle.syntax_statements.proofs.LoopForms.{alone_E1, member_E1, held_member, alone_nesting, member_nesting}
use Rattle.syntax_statements.proofs.LoopForms.{tells_none, tells_where}

abbrev pub loop_nesting : LoopTree → ℕ
loop_nesting (over_all n) = 0
loop_nesting (over_in n e) = nesting e
loop_nesting (over_where n e) = nesting e

pub nests_over : (p : Position) (l : LoopTree) (x : StatementTree)
    → statement_nesting (loop_over p l x) ≡ suc (max (loop_nesting l) (statement_nesting x))
nests_over p (over_all n) x = omega arith
nests_over p (over_in n e) x = refl
nests_over p (over_where n e) x = refl

pub short_Loop : {ts r : List Lexeme} {l : LoopTree} → IsLoop ts l r → length r < length ts
short_Loop loop_all = omega arith
short_Loop (loop_in a) = omega (arith, short_E3 a)
short_Loop (loop_where a f) = short_E1 a

-- ---- what is read derives

record Told (ts : List Lexeme) (l : LoopTree) (n : ℕ) (r : List Lexeme) : Type 0 where
  derives : IsLoop ts l r
  nests : loop_nesting l ≡ n

module _ (x : NameTree) (m r : List Lexeme) (e : ExpressionTree) (is : IsE1 (name x.text x.position ∷ m) e r) where
  told_by : (a b : Option NameTree) (c : Option ExpressionTree) → name_alone e ≡ a → member e ≡ b → holder e ≡ c
      → Told (name x.text x.position ∷ m) (loop_on x e a b c) (nesting e) r
  told_by (Some n) b c h i j = record {
    derives = subst (λ us. IsLoop us (over_all n) r) (sym (alone_E1 n is h)) loop_all;
    nests = sym (alone_nesting e n h);
  }
  told_by None (Some n) (Some b) h i j =
      let t = member_E1 n is i j in
      record {
        derives = subst (λ us. IsLoop us (over_in n b) r) (sym t.at) (loop_in t.derives);
        nests = sym (member_nesting e b n i j);
      }
  told_by None (Some n) None h i j = absurd (held_member e n i j)
  told_by None None c h i j = record { derives = loop_where is (tells_none e h i); nests = refl }

  told : Told (name x.text x.position ∷ m) (loop_of x e) (nesting e) r
  told = told_by (name_alone e) (member e) (holder e) refl refl refl

-- the variable comes first
pub record DeepLoop (n : ℕ) (ts u : List Lexeme) : Type 0 where
  pub variable : NameTree
  pub from : List Lexeme
  pub at : ts ≡ name variable.text variable.position ∷ from
  pub deep : DeepE1 n (name variable.text variable.position ∷ from) u

pub record IsLooped (ts : List Lexeme) (l : LoopTree) (n : ℕ) (r : List Lexeme) : Type 0 where
  pub closes : Position
  pub derives : IsLoop ts l (sign s.CloseParenthesis closes ∷ r)
  pub within : loop_nesting l ≤ n

looped_judged : (d : ℕ) (ts : List Lexeme) → Judged (λ l r. IsLooped ts l d r) (DeepLoop (suc d) ts) (looped d ts)
unfolding looped
looped_judged d ts =
    judged_then _ (name_judged ts)
    (λ x m at. judged_then _ (judged_E1 d ts)
    (λ e u h. judged_after (expect s.CloseParenthesis u) _
    (λ r f.
    let v = sign s.CloseParenthesis (position_of (head u)) ∷ r in
    let is = subst (λ us. IsE1 us e v) at (subst (λ us. IsE1 ts e us) (expect_ok s.CloseParenthesis u r f) h.0) in
    let t = told x m v e is in
    judged_read (loop_of x e) r (record {
      closes = position_of (head u);
      derives = subst (λ us. IsLoop us (loop_of x e) v) (sym at) t.derives;
      within = omega (arith, h.1, t.nests);
    }))
    (λ n f. absurd (expect_not_deep s.CloseParenthesis u n f)))
    (λ w z. record { variable = x; from = m; at = at; deep = subst (λ us. DeepE1 (suc d) us w) at z }))
    (λ v z. absurd z)

pub record IsEnclosedLoop (d : ℕ) (ts : List Lexeme) (l : LoopTree) (r : List Lexeme) : Type 0 where
  pub opens : Position
  pub closes : Position
  pub from : List Lexeme
  pub at : ts ≡ sign s.OpenParenthesis opens ∷ from
  pub derives : IsLoop from l (sign s.CloseParenthesis closes ∷ r)
  pub within : loop_nesting l < d

pub record DeepEnclosedLoop (d : ℕ) (ts u : List Lexeme) : Type 0 where
  pub opens : Position
  pub from : List Lexeme
  pub at : ts ≡ sign s.OpenParenthesis opens ∷ from
  pub deep : Within d DeepLoop ts from u

looped_in_judged : (d : ℕ) (o ts : List Lexeme) → Judged (λ l r. IsLooped ts l d r × (loop_nesting l < d))
    (Within d DeepLoop o ts) (looped_in d (length o) ts)
looped_in_judged zero o ts = judged_deep (no_more DeepLoop o ts)
looped_in_judged (suc d) o ts = judged_as (looped_judged d ts)
    (λ l r q. (
      record { closes = q.closes; derives = q.derives; within = omega (arith, q.within) },
      omega (arith, q.within),
    ))
    (λ v x. inr x)

pub enclosed_loop_judged : (d : ℕ) (ts : List Lexeme) → Judged (IsEnclosedLoop d ts) (DeepEnclosedLoop d ts)
    (enclosed_loop d ts)
unfolding enclosed_loop
enclosed_loop_judged d ts =
    judged_after (expect s.OpenParenthesis ts) _
    (λ m e. judged_as (looped_in_judged d ts m)
    (λ l r q. record {
      opens = position_of (head ts);
      closes = q.0.closes;
      from = m;
      at = expect_ok s.OpenParenthesis ts m e;
      derives = q.0.derives;
      within = q.1;
    })
    (λ v x. record { opens = position_of (head ts); from = m; at = expect_ok s.OpenParenthesis ts m e; deep = x }))
    (λ n e. absurd (expect_not_deep s.OpenParenthesis ts n e))

-- ---- what has a tree is read as that tree

just_name : {r : List Lexeme} {p : Position} {n : List ℕ}
    → IsE3 (name n p ∷ r) (tree.named (record { text = n; position = p })) r
just_name = e3_plain (e4_plain (n4_plain (e5_plain (u_plain p_name))))

step_looped : {n : ℕ} {e : ExpressionTree} (d : ℕ) (x : List ℕ) (p q : Position) (m r : List Lexeme)
    → Limited (condition (nested d) (name x p ∷ m)) d n e (sign s.CloseParenthesis q ∷ r)
    → Limited (looped d (name x p ∷ m)) d n (loop_of (record { text = x; position = p }) e) r
unfolding looped expect_name expect
step_looped d x p q m r a = then _ a (omega arith) refl

at_condition : {ts r : List Lexeme} {e : ExpressionTree} {q : Position} → IsE1 ts e (sign s.CloseParenthesis q ∷ r)
    → (d : ℕ) → Limited (condition (nested d) ts) d (nesting e) e (sign s.CloseParenthesis q ∷ r)
at_condition a d = at_E1 a d (omega arith)

pub at_Loop : {ts r : List Lexeme} {l : LoopTree} {q : Position} → IsLoop ts l (sign s.CloseParenthesis q ∷ r) → (d : ℕ)
    → Limited (looped d ts) d (loop_nesting l) l r
at_Loop {r = r} {q = q} (loop_all {p = p} {n = n}) d = step_looped d n p q (sign s.CloseParenthesis q ∷ r) r
    (at_condition (e1_plain (n1_plain (e2_plain just_name))) d)
at_Loop {r = r} {q = q} (loop_in {m = m} {p = p} {q = o} {n = n} {e = e} a) d =
    let a = step_looped d n p q (reserved w.In o ∷ m) r
    (at_condition (e1_plain (n1_plain (e2_contained just_name refl a))) d) in
    record { within = λ h. a.within (omega arith); beyond = λ h. a.beyond (omega arith) }
at_Loop {r = r} {q = q} (loop_where {m = m} {p = p} {n = n} {e = e} a f) d =
    subst (λ l. Limited (looped d (name n p ∷ m)) d (nesting e) l r)
    (tells_where (record { text = n; position = p }) e f) (step_looped d n p q m r (at_condition a d))
