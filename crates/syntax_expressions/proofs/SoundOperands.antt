-- What is read of an operand, with what stands before and after it, derives in the grammar and is nested no deeper
-- than was allowed; and where the fault is that a token stands too deep, one does.
use Rattle.std.proofs.Common.{◌≡◌, ℕ, zero, suc, ◌<◌, ◌≤◌, ◌⊎◌, true, List, [], ◌∷◌, length, Option, Some, None, refl}
use Rattle.std.proofs.Common.{sym, ap, ◌∙◌, subst, inl, inr, arith}
use Rattle.syntax_lexer.specs.declared.token.Position.{Position}
use Rattle.syntax_lexer.specs.declared.token.Sign.TheVariants as s
use Rattle.syntax_lexer.specs.declared.token.Word.{Word}
use Rattle.syntax_lexer.specs.declared.token.Word.TheVariants as w
use Rattle.syntax_lexer.specs.Token.{Lexeme, name, number, character, dictionary_word, reserved, sign, position_of}
use Rattle.syntax_trees.specs.declared.tree.Prefix.TheVariants as op
use Rattle.syntax_trees.specs.declared.tree.Relative.{Relative}
use Rattle.syntax_trees.specs.declared.tree.Step.{Step}
use Rattle.syntax_trees.specs.declared.tree.Width.{Width}
use Rattle.syntax_trees.specs.Tree.{ExpressionTree, constant, word, index, parenthesised, relative_of, property}
use Rattle.syntax_trees.specs.Tree.{property_length, property_entry, prefixed, step_before, step_after}
use Rattle.syntax_trees.specs.Parse.{head, tail, is_sign, expect}
use Rattle.syntax_expressions.specs.Operators.{stepping, prefixes, relating_word, relating, indexing}
use Rattle.syntax_expressions.specs.Nesting.{DeepE, DeepN1, DeepN4, DeepE5, deep_e5_plain, deep_e5_index, deep_e5_entry}
use Rattle.syntax_expressions.specs.Nesting.{DeepU, deep_u_plain, deep_u_minus, deep_u_minus_in, deep_u_before}
use Rattle.syntax_expressions.specs.Nesting.{deep_u_before_in, DeepP, deep_p_call, deep_p_arguments, deep_p_relative}
use Rattle.syntax_expressions.specs.Nesting.{deep_p_relative_in, deep_p_parenthesis, deep_p_in, DeepArguments}
use Rattle.syntax_expressions.specs.PartParse.{property_next, properties, with_length, word_value, constant_on, step_on}
use Rattle.syntax_expressions.specs.PartParse.{after_operand, array_of, array_at}
use Rattle.syntax_expressions.specs.Parse.{whole, negation, complement, prefix, operand, arguments, nested, after_name}
use Rattle.syntax_expressions.specs.Parse.{in_parentheses, object_relative, word_on, atom, primary, postfix, unary_on, unary, entry}
use Rattle.syntax_expressions.specs.Parse.{after_owner, object_entry, array_entry_on, array_entry}
use Rattle.syntax_expressions.specs.Grammar.{IsE, IsN1, IsN4, IsE5, e5_plain, e5_index, e5_entry, IsU, u_plain, u_minus}
use Rattle.syntax_expressions.specs.Grammar.{u_before, u_after, u_length, IsP, p_property, p_number, p_character}
use Rattle.syntax_expressions.specs.Grammar.{p_word, p_true, p_false, p_nothing, p_name, p_relative, p_parenthesised}
use Rattle.syntax_expressions.specs.Grammar.{nesting}
use Rattle.syntax_expressions.proofs.Judged.{Judged, judged_read, judged_grammar, judged_then, judged_after}
use Rattle.syntax_expressions.proofs.Judged.{judged_by, judged_as}
use Rattle.syntax_expressions.proofs.Tokens.{at_sign, expect_ok, expect_not_deep}
use Rattle.syntax_expressions.proofs.NamesRead.{name_judged, entry_judged}

-- one nesting further in, which the first of the opening tokens opens: too deep there, or no nesting is left
abbrev pub Within : ℕ → (ℕ → List Lexeme → List Lexeme → Type 0) → List Lexeme → List Lexeme → List Lexeme → Type 0
Within d D opening ts u = ((d ≡ 0) × (u ≡ opening)) ⊎ D d ts u

pub deeper : (D E : ℕ → List Lexeme → Type 0) (d : ℕ) (opening u : List Lexeme) → E 1 opening
    → ((n : ℕ) → D n u → E (suc n) u) → ((d ≡ 0) × (u ≡ opening)) ⊎ D d u → E (suc d) u
deeper D E d opening u first onward (inl e) =
    subst (λ n. E (suc n) u) (sym e.0) (subst (λ v. E 1 v) (sym e.1) first)
deeper D E d opening u first onward (inr h) = onward d h

pub record Inner (d : ℕ) : Type 0 where
  pub in_whole : (o ts : List Lexeme) → Judged (λ e r. IsE ts e r × (nesting e < d)) (Within d DeepE o ts)
      (nested d whole (length o) ts)
  pub in_negation : (o ts : List Lexeme) → Judged (λ e r. IsN1 ts e r × (nesting e < d)) (Within d DeepN1 o ts)
      (nested d negation (length o) ts)
  pub in_complement : (o ts : List Lexeme) → Judged (λ e r. IsN4 ts e r × (nesting e < d)) (Within d DeepN4 o ts)
      (nested d complement (length o) ts)
  pub in_prefix : (o ts : List Lexeme) → Judged (λ e r. IsU ts e r × (nesting e < d)) (Within d DeepU o ts)
      (nested d prefix (length o) ts)
  pub in_operand : (o ts : List Lexeme) → Judged (λ e r. IsP ts e r × (nesting e < d)) (Within d DeepP o ts)
      (nested d operand (length o) ts)
  pub in_arguments : (f : List ℕ) (p q : Position) (o ts : List Lexeme)
      → Judged (λ e r. IsP (name f p ∷ sign s.OpenParenthesis q ∷ ts) e r × (nesting e ≤ d))
      (Within d DeepArguments o ts) (nested d (arguments (record { text = f; position = p })) (length o) ts)

module _ (d : ℕ) (inner : Inner d) where
  after_name_judged : (f : List ℕ) (p : Position) (ts : List Lexeme)
      → Judged (λ e r. IsP (name f p ∷ ts) e r × (nesting e ≤ d)) (DeepP (suc d) (name f p ∷ ts))
      (after_name (nested d) (record { text = f; position = p }) ts)
  unfolding after_name
  after_name_judged f p ts =
      judged_by (is_sign s.OpenParenthesis (head ts)) _ _
      (λ e.
      let at = at_sign s.OpenParenthesis ts e in
      let q = position_of (head ts) in
      judged_as (inner.in_arguments f p q ts (tail ts))
      (λ a r h. (subst (λ u. IsP (name f p ∷ u) a r) (sym at) h.0, h.1))
      (λ u h. deeper (λ n. DeepArguments n (tail ts)) (λ n. DeepP n (name f p ∷ ts)) d ts u
      (subst (λ v. DeepP 1 (name f p ∷ v) v) (sym at) deep_p_call)
      (λ n x. subst (λ v. DeepP (suc n) (name f p ∷ v) u) (sym at) (deep_p_arguments x)) h))
      (λ e. judged_read _ ts (p_name, omega arith))

  enclosed_judged : (p : Position) (ts : List Lexeme)
      → Judged (λ e r. IsP (sign s.OpenParenthesis p ∷ ts) e r × (nesting e ≤ d))
      (DeepP (suc d) (sign s.OpenParenthesis p ∷ ts)) (in_parentheses (nested d) (suc (length ts)) ts)
  unfolding in_parentheses
  enclosed_judged p ts =
      judged_then _ (inner.in_whole (sign s.OpenParenthesis p ∷ ts) ts)
      (λ a r h. judged_after (expect s.CloseParenthesis r) _
      (λ u e. judged_read (parenthesised a) u
      (p_parenthesised (subst (λ x. IsE ts a x) (expect_ok s.CloseParenthesis r u e) h.0), omega (arith, h.1)))
      (λ n e. absurd (expect_not_deep s.CloseParenthesis r n e)))
      (λ u h. deeper (λ n. DeepE n ts) (λ n. DeepP n (sign s.OpenParenthesis p ∷ ts)) d
      (sign s.OpenParenthesis p ∷ ts) u deep_p_parenthesis (λ n x. deep_p_in x) h)

  related_judged : (t : Lexeme) (which : Relative) → relating t ≡ Some which → (ts : List Lexeme)
      → Judged (λ e r. IsP (t ∷ ts) e r × (nesting e ≤ d)) (DeepP (suc d) (t ∷ ts)) (object_relative (nested d) which ts)
  unfolding object_relative
  related_judged t which o ts =
      judged_by (is_sign s.OpenParenthesis (head ts)) _ _
      (λ e.
      let at = at_sign s.OpenParenthesis ts e in
      let q = position_of (head ts) in
      judged_then _ (inner.in_whole ts (tail ts))
      (λ a r h. judged_after (expect s.CloseParenthesis r) _
      (λ u g. judged_read (relative_of which a) u (
        subst (λ v. IsP (t ∷ v) (relative_of which a) u) (sym at)
            (p_relative o (subst (λ x. IsE (tail ts) a x) (expect_ok s.CloseParenthesis r u g) h.0)),
        omega (arith, h.1),
      ))
      (λ n g. absurd (expect_not_deep s.CloseParenthesis r n g)))
      (λ u h. deeper (λ n. DeepE n (tail ts)) (λ n. DeepP n (t ∷ ts)) d ts u
      (subst (λ v. DeepP 1 (t ∷ v) v) (sym at) (deep_p_relative o))
      (λ n x. subst (λ v. DeepP (suc n) (t ∷ v) u) (sym at) (deep_p_relative_in o x)) h))
      (λ e. judged_grammar)

  valued_judged : (r : Word) (p : Position) (ts : List Lexeme)
      → Judged (λ e u. IsP (reserved r p ∷ ts) e u × (nesting e ≤ d)) (DeepP (suc d) (reserved r p ∷ ts))
      (constant_on (word_value r) (reserved r p ∷ ts))
  valued_judged w.True p ts = judged_read (constant 1) ts (p_true, omega arith)
  valued_judged w.False p ts = judged_read (constant 0) ts (p_false, omega arith)
  valued_judged w.Nothing p ts = judged_read (constant 0) ts (p_nothing, omega arith)
  valued_judged _ p ts = judged_grammar

  word_judged : (r : Word) (p : Position) (ts : List Lexeme) (o : Option Relative) → relating_word r ≡ o
      → Judged (λ e u. IsP (reserved r p ∷ ts) e u × (nesting e ≤ d)) (DeepP (suc d) (reserved r p ∷ ts))
      (word_on (nested d) r o (reserved r p ∷ ts))
  word_judged r p ts None o = valued_judged r p ts
  word_judged r p ts (Some which) o = related_judged (reserved r p) which o ts

  atom_judged : (ts : List Lexeme) → Judged (λ e r. IsP ts e r × (nesting e ≤ d)) (DeepP (suc d) ts)
      (atom (nested d) ts)
  unfolding atom
  atom_judged (number n p ∷ ts) = judged_read (constant n) ts (p_number, omega arith)
  atom_judged (character c p ∷ ts) = judged_read (constant c) ts (p_character, omega arith)
  atom_judged (dictionary_word f p ∷ ts) = judged_read (word f) ts (p_word, omega arith)
  atom_judged (reserved r p ∷ ts) = word_judged r p ts (relating_word r) refl
  atom_judged (name f p ∷ ts) = after_name_judged f p ts
  atom_judged (sign s.OpenParenthesis p ∷ ts) = enclosed_judged p ts
  atom_judged _ = judged_grammar

  property_judged : (us : List Lexeme) (e : ExpressionTree) (ts : List Lexeme) → IsP us e ts → nesting e ≤ d
      → is_sign s.Dot (head ts) ≡ true
      → Judged (λ a r. IsP us a r × (nesting a ≤ d)) (DeepP (suc d) us) (property_next e (tail ts))
  unfolding property_next
  property_judged us e ts h b t =
      judged_then _ (name_judged (tail ts))
      (λ x r q. judged_read (property e x) r (
        p_property (subst (λ v. IsP us e v)
            (at_sign s.Dot ts t ∙ ap (λ v. sign s.Dot (position_of (head ts)) ∷ v) q) h),
        b,
      ))
      (λ v never. absurd never)

  properties_judged : (us : List Lexeme) (n : ℕ) (e : ExpressionTree) (ts : List Lexeme) → IsP us e ts
      → nesting e ≤ d → Judged (λ a r. IsP us a r × (nesting a ≤ d)) (DeepP (suc d) us) (properties n e ts)
  unfolding properties
  properties_judged us zero e ts h b = judged_read e ts (h, b)
  properties_judged us (suc n) e ts h b =
      judged_by (is_sign s.Dot (head ts)) _ _
      (λ t. judged_then _ (property_judged us e ts h b t) (λ a r g. properties_judged us n a r g.0 g.1) (λ v g. g))
      (λ t. judged_read e ts (h, b))

  pub primary_judged : (ts : List Lexeme) → Judged (λ e r. IsP ts e r × (nesting e ≤ d)) (DeepP (suc d) ts)
      (primary (nested d) ts)
  unfolding primary
  primary_judged ts = judged_then _ (atom_judged ts) (λ a r h. properties_judged ts (length r) a r h.0 h.1) (λ v h. h)

  lengthened_judged : (ts : List Lexeme) (a : ExpressionTree) (r : List Lexeme) → IsP ts a r → nesting a ≤ d
      → Judged (λ e u. IsU ts e u × (nesting e ≤ d)) (DeepU (suc d) ts) (with_length a r)
  unfolding with_length
  lengthened_judged ts a r h b =
      judged_by (is_sign s.DotHash (head r)) _ _
      (λ t. judged_then _ (name_judged (tail r))
      (λ x u q. judged_read (property_length a x) u (
        u_length (subst (λ v. IsP ts a v)
            (at_sign s.DotHash r t ∙ ap (λ v. sign s.DotHash (position_of (head r)) ∷ v) q) h),
        b,
      ))
      (λ v never. absurd never))
      (λ t. judged_read a r (u_plain h, b))

  suffixed_judged : (ts : List Lexeme) (a : ExpressionTree) (r : List Lexeme) → IsP ts a r → nesting a ≤ d
      → Judged (λ e u. IsU ts e u × (nesting e ≤ d)) (DeepU (suc d) ts) (after_operand a r)
  unfolding after_operand
  suffixed_judged ts a r h b = go r h (stepping (head r)) refl
    where
      go : (u : List Lexeme) → IsP ts a u → (o : Option Step) → stepping (head u) ≡ o
          → Judged (λ e v. IsU ts e v × (nesting e ≤ d)) (DeepU (suc d) ts) (step_on a u o)
      go u h None o = lengthened_judged ts a u h b
      go [] h (Some op) o = absurd cc
      go (t ∷ m) h (Some op) o = judged_read (step_after a op (position_of t)) m (u_after h o, b)

  stepped_judged : (ts : List Lexeme) → Judged (λ e r. IsU ts e r × (nesting e ≤ d)) (DeepU (suc d) ts)
      (postfix (nested d) ts)
  unfolding postfix
  stepped_judged ts = judged_then _ (primary_judged ts) (λ a r h. suffixed_judged ts a r h.0 h.1)
      (λ v h. deep_u_plain h)

  before_judged : (ts : List Lexeme) (o : Option Step) → stepping (head ts) ≡ o
      → Judged (λ e r. IsU ts e r × (nesting e ≤ d)) (DeepU (suc d) ts) (unary_on (nested d) ts o)
  before_judged ts None o = stepped_judged ts
  before_judged [] (Some op) o = absurd cc
  before_judged (t ∷ m) (Some op) o =
      judged_then _ (inner.in_operand (t ∷ m) m)
      (λ a r h. judged_read (step_before op (position_of t) a) r (u_before o h.0, omega (arith, h.1)))
      (λ u h. deeper (λ n. DeepP n m) (λ n. DeepU n (t ∷ m)) d (t ∷ m) u (deep_u_before o)
      (λ n x. deep_u_before_in o x) h)

  pub unary_judged : (ts : List Lexeme) → Judged (λ e r. IsU ts e r × (nesting e ≤ d)) (DeepU (suc d) ts)
      (unary (nested d) ts)
  unfolding unary
  unary_judged ts =
      judged_by (is_sign s.Minus (head ts)) _ _
      (λ e.
      let at = at_sign s.Minus ts e in
      let p = position_of (head ts) in
      judged_then _ (inner.in_prefix ts (tail ts))
      (λ a r h. judged_read (prefixed op.Minus a) r
      (subst (λ u. IsU u (prefixed op.Minus a) r) (sym at) (u_minus h.0), omega (arith, h.1)))
      (λ u h. deeper (λ n. DeepU n (tail ts)) (λ n. DeepU n ts) d ts u
      (subst (λ v. DeepU 1 v v) (sym at) deep_u_minus)
      (λ n x. subst (λ v. DeepU (suc n) v u) (sym at) (deep_u_minus_in x)) h))
      (λ e. before_judged ts (stepping (head ts)) refl)

  entry_read : (ts : List Lexeme) (a : ExpressionTree) (r : List Lexeme) → IsP ts a r → nesting a ≤ d
      → is_sign s.DotAmpersand (head r) ≡ true
      → Judged (λ e u. IsE5 ts e u × (nesting e ≤ d)) (DeepE5 (suc d) ts) (entry (nested d) a (tail r))
  unfolding entry
  entry_read ts a r h b t =
      judged_then _ (entry_judged (tail r))
      (λ x u q.
      let owner = subst (λ v. IsP ts a v)
      (at_sign s.DotAmpersand r t ∙ ap (λ v. sign s.DotAmpersand (position_of (head r)) ∷ v) q) h in
      judged_then _ (unary_judged u)
      (λ i v g. judged_read (property_entry a x i) v (e5_entry owner g.0, omega (arith, b, g.1)))
      (λ w g. deep_e5_entry owner g))
      (λ v never. absurd never)

  owned_judged : (ts : List Lexeme) (a : ExpressionTree) (r : List Lexeme) → IsP ts a r → nesting a ≤ d
      → Judged (λ e u. IsE5 ts e u × (nesting e ≤ d)) (DeepE5 (suc d) ts) (after_owner (nested d) a r)
  unfolding after_owner
  owned_judged ts a r h b =
      judged_by (is_sign s.DotAmpersand (head r)) _ _ (λ t. entry_read ts a r h b t)
      (λ t. judged_as (suffixed_judged ts a r h b) (λ c u g. (e5_plain g.0, g.1)) (λ v g. deep_e5_plain g))

  no_array_judged : (ts : List Lexeme) → Judged (λ e r. IsE5 ts e r × (nesting e ≤ d)) (DeepE5 (suc d) ts)
      (object_entry (nested d) ts)
  unfolding object_entry
  no_array_judged ts =
      judged_by (prefixes (head ts)) _ _
      (λ e. judged_as (unary_judged ts) (λ a r h. (e5_plain h.0, h.1)) (λ v h. deep_e5_plain h))
      (λ e. judged_then _ (primary_judged ts) (λ a r h. owned_judged ts a r h.0 h.1)
      (λ v h. deep_e5_plain (deep_u_plain h)))

  pub indexed_judged : (ts : List Lexeme) → Judged (λ e r. IsE5 ts e r × (nesting e ≤ d)) (DeepE5 (suc d) ts)
      (array_entry (nested d) ts)
  unfolding array_entry array_at
  indexed_judged (name n p ∷ t ∷ m) = go (indexing t) refl
    where
      go : (o : Option Width) → indexing t ≡ o
          → Judged (λ e r. IsE5 (name n p ∷ t ∷ m) e r × (nesting e ≤ d)) (DeepE5 (suc d) (name n p ∷ t ∷ m))
          (array_entry_on (nested d) (name n p ∷ t ∷ m) (array_of (name n p) o))
      go None o = no_array_judged (name n p ∷ t ∷ m)
      go (Some width) o = judged_then _ (unary_judged m)
          (λ a r h. judged_read (index (record { text = n; position = p }) width a) r (e5_index o h.0, h.1))
          (λ v h. deep_e5_index o h)
  indexed_judged ts = no_array_judged ts
