-- What has a tree is read as that tree, unless it is nested too deep.
use Rattle.std.proofs.Common.{◌≡◌, ℕ, ◌-◌, ◌<◌, true, false, List, ◌∷◌, length, Some, None, Result, Ok, refl, ap, arith}
use Rattle.syntax_lexer.specs.declared.token.Position.{Position}
use Rattle.syntax_lexer.specs.declared.token.Sign.TheVariants as s
use Rattle.syntax_lexer.specs.declared.token.Word.TheVariants as w
use Rattle.syntax_lexer.specs.Token.{Lexeme, name, reserved, sign}
use Rattle.syntax_trees.specs.Tree.{NameTree}
use Rattle.syntax_trees.specs.Stop.{Stop}
use Rattle.syntax_trees.specs.Parse.{head, expect}
use Rattle.syntax_expressions.proofs.Limited.{Limited, then, at_once}
use Rattle.syntax_expressions.specs.PartParse.{expect_name}
use Rattle.syntax_statements.specs.PartTree.{LiteralTree}
use Rattle.syntax_statements.specs.PartParse.{known_value, begins_value}
use Rattle.syntax_statements.specs.Tree.{StatementTrees}
use Rattle.syntax_statements.specs.Nesting.{begins_statement}
use Rattle.syntax_statements.specs.Parse.{statements}
use Rattle.syntax_statements.proofs.Deepest.{listed, listed_back}
use Rattle.syntax_statements.proofs.Complete.{at_Ss}
use Rattle.syntax_statements.proofs.Follow.{short_Ss}
use Rattle.syntax_statements.proofs.KnownValues.{known_read, short_K, begins_K}
use Rattle.syntax_directives.specs.declared.tree.ArrayKind.{ArrayKind}
use Rattle.syntax_directives.specs.Tree.{ValueTree, ObjectTree, RoutineTree, DirectiveTree, global, constant, array}
use Rattle.syntax_directives.specs.Tree.{attribute, property, object, routine}
use Rattle.syntax_directives.specs.Grammar.{weight_of, kind_of, IsDirective, d_global, d_global_value, d_constant}
use Rattle.syntax_directives.specs.Grammar.{d_array, d_attribute, d_property, d_property_value, d_object, d_routine}
use Rattle.syntax_directives.specs.Grammar.{directive_nesting}
use Rattle.syntax_directives.specs.Parse.{names, values, kind, array_after, ended, global_after, constant_after}
use Rattle.syntax_directives.specs.Parse.{attribute_after, property_after, object_after, directive_of, routine_at}
use Rattle.syntax_directives.specs.Parse.{directive}
use Rattle.syntax_directives.proofs.Lists.{names_read, short_Names, short_Values, values_read}
use Rattle.syntax_directives.proofs.ObjectsRead.{short_Head, short_Properties, short_Attributes}
use Rattle.syntax_directives.proofs.ObjectsComplete.{object_read}

-- ---- directives

pub short_Directive : {ts r : List Lexeme} {x : DirectiveTree} → IsDirective ts x r → length r < length ts
short_Directive d_global = omega arith
short_Directive (d_global_value k) = omega (arith, short_K k)
short_Directive (d_constant k) = omega (arith, short_K k)
short_Directive (d_array o a lt) = omega (arith, short_Values a)
short_Directive d_attribute = omega arith
short_Directive d_property = omega arith
short_Directive (d_property_value k) = omega (arith, short_K k)
short_Directive (d_object h a b) = omega (arith, short_Head h, short_Properties a, short_Attributes b)
short_Directive (d_routine n a) = omega (arith, short_Names n, short_Ss a)

bracket_stops : (p : Position) → begins_statement (sign s.CloseBracket p) ≡ false
unfolding begins_statement
bracket_stops p = refl

-- ---- what is read

module _ (d : ℕ) where
  step_global : (p q o : Position) (n : List ℕ) (r : List Lexeme)
      → Limited (directive d (reserved w.Global p ∷ name n q ∷ sign s.Semicolon o ∷ r)) d 0
      (global (record { text = n; position = q }) None) r
  unfolding directive directive_of global_after expect_name ended expect
  step_global p q o n r = at_once refl

  step_global_value : (p q o l : Position) (n : List ℕ) (k : LiteralTree) (m r : List Lexeme)
      → known_value m ≡ Ok (k, sign s.Semicolon l ∷ r)
      → Limited (directive d (reserved w.Global p ∷ name n q ∷ sign s.Assign o ∷ m)) d 0
      (global (record { text = n; position = q }) (Some k)) r
  unfolding directive directive_of global_after expect_name ended expect
  step_global_value p q o l n k m r e = at_once (rw e refl)

  step_constant : (p q o l : Position) (n : List ℕ) (k : LiteralTree) (m r : List Lexeme)
      → known_value m ≡ Ok (k, sign s.Semicolon l ∷ r)
      → Limited (directive d (reserved w.Constant p ∷ name n q ∷ sign s.Assign o ∷ m)) d 0
      (constant (record { text = n; position = q }) k) r
  unfolding directive directive_of constant_after expect_name ended expect
  step_constant p q o l n k m r e = at_once (rw e refl)

  step_array : (p q l : Position) (t : Lexeme) (n : List ℕ) (a : ArrayKind) (vs : List ValueTree) (m r : List Lexeme)
      → kind_of t ≡ Some a → values m ≡ Ok (vs, sign s.Semicolon l ∷ r)
      → Limited (directive d (reserved w.Array p ∷ name n q ∷ t ∷ m)) d 0
      (array (record { name = record { text = n; position = q }; kind = a; values = vs })) r
  unfolding directive directive_of array_after expect_name kind expect
  step_array p q l t n a vs m r o e = at_once (rw (o, e) refl)

  step_attribute : (p q o : Position) (n : List ℕ) (r : List Lexeme)
      → Limited (directive d (reserved w.Attribute p ∷ name n q ∷ sign s.Semicolon o ∷ r)) d 0
      (attribute (record { text = n; position = q })) r
  unfolding directive directive_of attribute_after expect_name ended expect
  step_attribute p q o n r = at_once refl

  step_property : (p q o : Position) (n : List ℕ) (r : List Lexeme)
      → Limited (directive d (reserved w.Property p ∷ name n q ∷ sign s.Semicolon o ∷ r)) d 0
      (property (record { text = n; position = q }) None) r
  unfolding directive directive_of property_after expect_name ended expect
  step_property p q o n r = at_once refl

  step_property_value : (p q o : Position) (n : List ℕ) (k : LiteralTree) (m r : List Lexeme)
      → begins_value (head m) ≡ true → known_value m ≡ Ok (k, sign s.Semicolon o ∷ r)
      → Limited (directive d (reserved w.Property p ∷ name n q ∷ m)) d 0
      (property (record { text = n; position = q }) (Some k)) r
  unfolding directive directive_of property_after expect_name ended expect
  step_property_value p q o n k m r b e = at_once (rw (b, e) refl)

  step_object : (p : Position) (x : ObjectTree) (m r : List Lexeme) → object_after m ≡ Ok (x, r)
      → Limited (directive d (reserved w.Object p ∷ m)) d 0 (object x) r
  unfolding directive directive_of
  step_object p x m r e = at_once (rw e refl)

  step_routine : {j : ℕ} (p q o l i : Position) (n : List ℕ) (ns : List NameTree) (xs : StatementTrees)
      (m k r : List Lexeme) → names m ≡ Ok (ns, sign s.Semicolon o ∷ k)
      → Limited (statements d k) d j (listed xs) (sign s.CloseBracket l ∷ sign s.Semicolon i ∷ r)
      → Limited (routine_at d (sign s.OpenBracket p ∷ name n q ∷ m)) d j
      (record {
        name = record { text = n; position = q };
        locals = ns;
        body = xs;
        weight = weight_of (sign s.OpenBracket p ∷ name n q ∷ m) - weight_of r;
      }) r
  unfolding routine_at expect_name expect
  step_routine p q o l i n ns xs m k r e a =
      let made : StatementTrees → Result (RoutineTree × List Lexeme) Stop = λ ys. Ok (
        record {
          name = record { text = n; position = q };
          locals = ns;
          body = ys;
          weight = weight_of (sign s.OpenBracket p ∷ name n q ∷ m) - weight_of r;
        },
        r,
      ) in
      rw e (then _ a (omega arith) (ap made (listed_back xs)))

  step_directive : {j : ℕ} {x : RoutineTree} {r : List Lexeme} (p : Position) (m : List Lexeme)
      → Limited (routine_at d (sign s.OpenBracket p ∷ m)) d j x r
      → Limited (directive d (sign s.OpenBracket p ∷ m)) d j (routine x) r
  unfolding directive
  step_directive p m a = then _ a (omega arith) refl

  pub at_Directive : {ts r : List Lexeme} {x : DirectiveTree} → IsDirective ts x r
      → Limited (directive d ts) d (directive_nesting x) x r
  at_Directive (d_global {r = r} {p = p} {q = q} {o = o} {n = n}) = step_global p q o n r
  at_Directive (d_global_value {m = m} {r = r} {p = p} {q = q} {o = o} {l = l} {n = n} {k = k} a) = step_global_value
      p q o l n k m r (known_read a)
  at_Directive (d_constant {m = m} {r = r} {p = p} {q = q} {o = o} {l = l} {n = n} {k = k} a) = step_constant p q o l
      n k m r (known_read a)
  at_Directive (d_array {m = m} {r = r} {p = p} {q = q} {o = o} {t = t} {n = n} {k = k} {vs = vs} e a lt) = step_array
      p q o t n k vs m r e (values_read a lt refl)
  at_Directive (d_attribute {r = r} {p = p} {q = q} {o = o} {n = n}) = step_attribute p q o n r
  at_Directive (d_property {r = r} {p = p} {q = q} {o = o} {n = n}) = step_property p q o n r
  at_Directive (d_property_value {m = m} {r = r} {p = p} {q = q} {o = o} {n = n} {k = k} a) = step_property_value p q o
      n k m r (begins_K a) (known_read a)
  at_Directive (d_object {m = m} {r = r} {p = p} h a b) = step_object p _ m r (object_read h a b)
  at_Directive
      (d_routine {m = m} {k = k} {r = r} {p = p} {q = q} {o = o} {l = l} {j = j} {n = n} {ns = ns} {xs = xs} b a) =
      step_directive p (name n q ∷ m)
      (step_routine p q o l j n ns xs m k r (names_read m b refl) (at_Ss k a (bracket_stops l) d))
