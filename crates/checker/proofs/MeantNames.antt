-- Names that break no rule: what they resolve to is within the limits, where each stands for what the program has.
use Rattle.std.proofs.Common.{◌≡◌, ℕ, ◌<◌, ◌≤◌, nat_lt, [], length, Option, Some, None, cond, arith}
use Rattle.syntax_lexer.specs.declared.token.Position.{Position}
use Rattle.syntax_trees.specs.declared.tree.ObjectTest.{ObjectTest}
use Rattle.syntax_trees.specs.declared.tree.ObjectTest.TheVariants as tests
use Rattle.meaning.specs.Resolved.{Value, ProgramOf}
use Rattle.meaning.specs.Meaning.{routine_at}
use Rattle.meaning.specs.Accepted.{IsVariable, IsValue, IsProperty}
use Rattle.checker_values.specs.declared.binding.Binding.{Binding}
use Rattle.checker_values.specs.declared.binding.Binding.TheVariants as bindings
use Rattle.checker_values.specs.Breaches.{at}
use Rattle.checker_values.proofs.Kept.{left_empty, right_empty, kept, at_most}
use Rattle.checker_values.specs.Expressions.{value_breaches, call_breaches, target_breaches, value_of_binding}
use Rattle.checker_values.specs.Expressions.{variable_of_binding, routine_of_binding, array_name_breaches}
use Rattle.checker_values.specs.Expressions.{array_of_binding, assigned, attribute_breaches, property_breaches}
use Rattle.checker_values.specs.Expressions.{tested_breaches, attribute_of_binding, property_of_binding, tested_for}
use Rattle.checker_statements.specs.Buffers.{buffer_breaches}
use Rattle.checker_statements.specs.Statements.{loop_breaches}

-- What names stand for

-- in a routine with so many locals of this program
module _ (p : ProgramOf) (locals : ℕ) where
  abbrev pub IsMeant : Option Binding → Type 0
  IsMeant None = Unit {0}
  IsMeant (Some (bindings.Constant n)) = Unit {0}
  IsMeant (Some (bindings.Global g)) = g < length p.globals
  IsMeant (Some (bindings.Array a kind)) = a < length p.arrays
  IsMeant (Some (bindings.Routine r n)) = (r < length p.routines) × ((routine_at p.routines r).locals ≡ n)
  IsMeant (Some (bindings.Attribute a)) = a < 48
  IsMeant (Some (bindings.Property n)) = IsProperty n
  IsMeant (Some (bindings.Object o)) = Unit {0}
  IsMeant (Some (bindings.Local l)) = l < locals

  pub named_within : (numbers : ℕ → ℕ) (position : Position) (o : Option Binding) → IsMeant o
      → value_breaches position o ≡ []
      → IsValue p locals (value_of_binding numbers o)
  named_within numbers position None m h = absurd cc
  named_within numbers position (Some (bindings.Constant n)) m h = tt
  named_within numbers position (Some (bindings.Global g)) m h = m
  named_within numbers position (Some (bindings.Array a kind)) m h = absurd cc
  named_within numbers position (Some (bindings.Routine r n)) m h = absurd cc
  named_within numbers position (Some (bindings.Attribute x)) m h = absurd cc
  named_within numbers position (Some (bindings.Property x)) m h = absurd cc
  named_within numbers position (Some (bindings.Object x)) m h = tt
  named_within numbers position (Some (bindings.Local l)) m h = m

  pub target_within : (position operator : Position) (o : Option Binding) → IsMeant o
      → target_breaches position operator o ≡ [] → IsVariable p locals (variable_of_binding o)
  target_within position operator None m h = absurd cc
  target_within position operator (Some (bindings.Constant n)) m h = absurd cc
  target_within position operator (Some (bindings.Global g)) m h = m
  target_within position operator (Some (bindings.Array a kind)) m h = absurd cc
  target_within position operator (Some (bindings.Routine r n)) m h = absurd cc
  target_within position operator (Some (bindings.Attribute x)) m h = absurd cc
  target_within position operator (Some (bindings.Property x)) m h = absurd cc
  target_within position operator (Some (bindings.Object x)) m h = absurd cc
  target_within position operator (Some (bindings.Local l)) m h = m

  pub array_within : (position : Position) (o : Option Binding) → IsMeant o → array_name_breaches position o ≡ []
      → array_of_binding o < length p.arrays
  array_within position None m h = absurd cc
  array_within position (Some (bindings.Constant n)) m h = absurd cc
  array_within position (Some (bindings.Global g)) m h = absurd cc
  array_within position (Some (bindings.Array a kind)) m h = m
  array_within position (Some (bindings.Routine r n)) m h = absurd cc
  array_within position (Some (bindings.Attribute x)) m h = absurd cc
  array_within position (Some (bindings.Property x)) m h = absurd cc
  array_within position (Some (bindings.Object x)) m h = absurd cc
  array_within position (Some (bindings.Local l)) m h = absurd cc

  pub buffer_within : (position : Position) (o : Option Binding) → IsMeant o → buffer_breaches position o ≡ []
      → array_of_binding o < length p.arrays
  buffer_within position None m h = absurd cc
  buffer_within position (Some (bindings.Constant n)) m h = absurd cc
  buffer_within position (Some (bindings.Global g)) m h = absurd cc
  buffer_within position (Some (bindings.Array a kind)) m h = m
  buffer_within position (Some (bindings.Routine r n)) m h = absurd cc
  buffer_within position (Some (bindings.Attribute x)) m h = absurd cc
  buffer_within position (Some (bindings.Property x)) m h = absurd cc
  buffer_within position (Some (bindings.Object x)) m h = absurd cc
  buffer_within position (Some (bindings.Local l)) m h = absurd cc

  pub attribute_within : (position : Position) (o : Option Binding) → IsMeant o → attribute_breaches position o ≡ []
      → attribute_of_binding o < 48
  attribute_within position None m h = absurd cc
  attribute_within position (Some (bindings.Constant n)) m h = absurd cc
  attribute_within position (Some (bindings.Global g)) m h = absurd cc
  attribute_within position (Some (bindings.Array a kind)) m h = absurd cc
  attribute_within position (Some (bindings.Routine r n)) m h = absurd cc
  attribute_within position (Some (bindings.Attribute x)) m h = m
  attribute_within position (Some (bindings.Property x)) m h = absurd cc
  attribute_within position (Some (bindings.Object x)) m h = absurd cc
  attribute_within position (Some (bindings.Local l)) m h = absurd cc

  pub property_within : (position : Position) (o : Option Binding) → IsMeant o → property_breaches position o ≡ []
      → IsProperty (property_of_binding o)
  property_within position None m h = absurd cc
  property_within position (Some (bindings.Constant n)) m h = absurd cc
  property_within position (Some (bindings.Global g)) m h = absurd cc
  property_within position (Some (bindings.Array a kind)) m h = absurd cc
  property_within position (Some (bindings.Routine r n)) m h = absurd cc
  property_within position (Some (bindings.Attribute x)) m h = absurd cc
  property_within position (Some (bindings.Property x)) m h = m
  property_within position (Some (bindings.Object x)) m h = absurd cc
  property_within position (Some (bindings.Local l)) m h = absurd cc

  pub tested_within : (test : ObjectTest) (v : Value) (position : Position) (o : Option Binding) → IsMeant o
      → tested_breaches test position o ≡ [] → IsValue p locals v → IsValue p locals (tested_for test v o)
  tested_within tests.Has v position o m h k = (attribute_within position o m h, k)
  tested_within tests.HasNot v position o m h k = (attribute_within position o m h, k)
  tested_within tests.Provides v position o m h k = (property_within position o m h, k)

  -- the variable of an `objectloop`
  pub loop_within : (position : Position) (o : Option Binding) → IsMeant o → loop_breaches position o ≡ []
      → IsVariable p locals (variable_of_binding o)
  loop_within position None m h = absurd cc
  loop_within position (Some (bindings.Constant n)) m h = absurd cc
  loop_within position (Some (bindings.Global g)) m h = m
  loop_within position (Some (bindings.Array a kind)) m h = absurd cc
  loop_within position (Some (bindings.Routine r n)) m h = absurd cc
  loop_within position (Some (bindings.Attribute x)) m h = absurd cc
  loop_within position (Some (bindings.Property x)) m h = absurd cc
  loop_within position (Some (bindings.Object x)) m h = absurd cc
  loop_within position (Some (bindings.Local l)) m h = m

  -- an assignment to a name
  pub name_assigned : (numbers : ℕ → ℕ) (position operator : Position) (o : Option Binding) (v : Value) → IsMeant o
      → target_breaches position operator o ≡ [] → IsValue p locals v
      → IsValue p locals (assigned (value_of_binding numbers o) v)
  name_assigned numbers position operator None v m h k = absurd cc
  name_assigned numbers position operator (Some (bindings.Constant n)) v m h k = absurd cc
  name_assigned numbers position operator (Some (bindings.Global g)) v m h k = (m, k)
  name_assigned numbers position operator (Some (bindings.Array a kind)) v m h k = absurd cc
  name_assigned numbers position operator (Some (bindings.Routine r n)) v m h k = absurd cc
  name_assigned numbers position operator (Some (bindings.Attribute x)) v m h k = absurd cc
  name_assigned numbers position operator (Some (bindings.Property x)) v m h k = absurd cc
  name_assigned numbers position operator (Some (bindings.Object x)) v m h k = absurd cc
  name_assigned numbers position operator (Some (bindings.Local l)) v m h k = (m, k)

  pub record IsCall (r given : ℕ) : Type 0 where
    pub there : r < length p.routines
    pub seven : given ≤ 7
    pub taken : given ≤ (routine_at p.routines r).locals

  pub call_within : (position : Position) (given : ℕ) (o : Option Binding) → IsMeant o
      → call_breaches position given o ≡ [] → IsCall (routine_of_binding o) given
  call_within position given None m h = absurd cc
  call_within position given (Some (bindings.Constant n)) m h = absurd cc
  call_within position given (Some (bindings.Global g)) m h = absurd cc
  call_within position given (Some (bindings.Array a kind)) m h = absurd cc
  call_within position given (Some (bindings.Routine r n)) m h =
      let seven = at_most 7 given
      (kept (nat_lt 7 given) position 24
      (left_empty (cond (nat_lt 7 given) (at position 24) []) (cond (nat_lt n given) (at position 25) []) h)) in
      let taken = at_most n given
      (kept (nat_lt n given) position 25
      (right_empty (cond (nat_lt 7 given) (at position 24) []) (cond (nat_lt n given) (at position 25) []) h)) in
      let same = m.1 in
      record { there = m.0; seven = seven; taken = omega arith }
  call_within position given (Some (bindings.Attribute x)) m h = absurd cc
  call_within position given (Some (bindings.Property x)) m h = absurd cc
  call_within position given (Some (bindings.Object x)) m h = absurd cc
  call_within position given (Some (bindings.Local l)) m h = absurd cc
