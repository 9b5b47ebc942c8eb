-- Chains and lists, judged: generic in the relation that their tokens meet.
use Rattle.std.proofs.Common.{◌≡◌, ℕ, zero, suc, Bool, true, false, List, [], ◌∷◌, length, Option, Some, None, refl}
use Rattle.syntax_lexer.specs.Token.{Lexeme}
use Rattle.syntax_trees.specs.declared.tree.Binary.{Binary}
use Rattle.syntax_trees.specs.Tree.{ExpressionTree, binary}
use Rattle.syntax_trees.specs.Parse.{Parse, head, further, list}
use Rattle.syntax_expressions.specs.Parse.{chain_on, chain}
use Rattle.syntax_expressions.proofs.Judged.{Judged, judged_read, judged_then, judged_by}

-- after a left side that meets Q
module _ (ops : Lexeme → Option Binary) (p : Parse ExpressionTree) (Q : ExpressionTree → List Lexeme → Type 0)
    (D : List Lexeme → Type 0) (at_end : ops (head []) ≡ None)
    (step : (a : ExpressionTree) (t : Lexeme) (op : Binary) (m : List Lexeme) → Q a (t ∷ m) → ops t ≡ Some op
    → Judged (λ b r. Q (binary op a b) r) D (p m)) where
  pub chain_judged : (n : ℕ) (a : ExpressionTree) (ts : List Lexeme) → Q a ts → Judged Q D (chain ops p n a ts)
  unfolding chain
  chain_judged zero a ts q = judged_read a ts q
  chain_judged (suc n) a [] q = rw at_end (judged_read a [] q)
  chain_judged (suc n) a (t ∷ m) q = go (λ b u h. chain_judged n b u h) (ops t) refl
    where
      go : ((b : ExpressionTree) (u : List Lexeme) → Q b u → Judged Q D (chain ops p n b u)) → (o : Option Binary)
          → ops t ≡ o → Judged Q D (chain_on (chain ops p n) p a (t ∷ m) o)
      go again None o = judged_read a (t ∷ m) q
      go again (Some op) o = judged_then _ (step a t op m q o) (λ b r h. again (binary op a b) r h) (λ v x. x)

module _ {A : Type 0} (sep : Lexeme → Bool) (p : Parse A) (Q : List Lexeme → A → List Lexeme → Type 0)
    (L : List Lexeme → List A → List Lexeme → Type 0) (DQ DL : List Lexeme → List Lexeme → Type 0)
    (at_end : sep (head []) ≡ false)
    (last : (ts : List Lexeme) (a : A) (r : List Lexeme) → Q ts a r → L ts (a ∷ []) r)
    (next : (ts : List Lexeme) (a : A) (t : Lexeme) (m : List Lexeme) (xs : List A) (r : List Lexeme)
    → Q ts a (t ∷ m) → sep t ≡ true → L m xs r → L ts (a ∷ xs) r)
    (deep_first : (ts v : List Lexeme) → DQ ts v → DL ts v)
    (deep_next : (ts : List Lexeme) (a : A) (t : Lexeme) (m v : List Lexeme) → Q ts a (t ∷ m) → sep t ≡ true
    → DL m v → DL ts v)
    (item : (ts : List Lexeme) → Judged (Q ts) (DQ ts) (p ts)) where
  further_judged : (n : ℕ) (us ts : List Lexeme) (a : A) → Q us a ts
      → Judged (λ xs r. L us (a ∷ xs) r) (DL us) (further sep p n ts)
  unfolding further
  further_judged zero us ts a q = judged_read [] ts (last us a ts q)
  further_judged (suc n) us [] a q = rw at_end (judged_read [] [] (last us a [] q))
  further_judged (suc n) us (t ∷ m) a q =
      judged_by (sep t) _ _
      (λ e. judged_then _ (item m)
      (λ b r h. judged_then _ (further_judged n m r b h)
      (λ bs u l. judged_read (b ∷ bs) u (next us a t m (b ∷ bs) u q e l)) (λ v d. deep_next us a t m v q e d))
      (λ v d. deep_next us a t m v q e (deep_first m v d)))
      (λ e. judged_read [] (t ∷ m) (last us a (t ∷ m) q))

  pub list_judged : (ts : List Lexeme) → Judged (L ts) (DL ts) (list sep p ts)
  unfolding list
  list_judged ts = judged_then _ (item ts)
      (λ a r q. judged_then _ (further_judged (length r) ts r a q) (λ xs u l. judged_read (a ∷ xs) u l) (λ v d. d))
      (λ v d. deep_first ts v d)
