-- How much the value weighs of a name, an assignment and a test of an object.
use Rattle.std.proofs.Common.{◌≡◌, ◌≤◌, ◌+◌, ℕ, Option, Some, None, refl, arith}
use Rattle.syntax_trees.specs.declared.tree.ObjectTest.{ObjectTest}
use Rattle.syntax_trees.specs.declared.tree.ObjectTest.TheVariants as tests
use Rattle.meaning.specs.Resolved.{Value}
use Rattle.meaning.specs.Resolved as source
use Rattle.checker_values.specs.declared.binding.Binding.{Binding}
use Rattle.checker_values.specs.declared.binding.Binding.TheVariants as bindings
use Rattle.checker_values.specs.Expressions.{value_of_binding, tested_for, assigned}
use Rattle.story.proofs.Most.{tokens, alternatives_are}

-- what a name stands for
pub binding_few : (numbers : ℕ → ℕ) (b : Option Binding) → tokens (value_of_binding numbers b) ≤ 1
binding_few numbers None = omega arith
binding_few numbers (Some (bindings.Constant known)) = omega arith
binding_few numbers (Some (bindings.Global g)) = omega arith
binding_few numbers (Some (bindings.Array a kind)) = omega arith
binding_few numbers (Some (bindings.Local l)) = omega arith
binding_few numbers (Some (bindings.Routine r n)) = omega arith
binding_few numbers (Some (bindings.Attribute a)) = omega arith
binding_few numbers (Some (bindings.Property n)) = omega arith
binding_few numbers (Some (bindings.Object o)) = omega arith

some_tokens : (v : Value) → 1 ≤ tokens v
some_tokens (source.number n) = omega arith
some_tokens (source.read x) = omega arith
some_tokens (source.call r vs) = omega arith
some_tokens (source.prefixed op v) = omega arith
some_tokens (source.step_before op x) = omega arith
some_tokens (source.step_after x op) = omega arith
some_tokens (source.binary op a b) = omega arith
some_tokens (source.compare op a b) = omega arith
some_tokens (source.equal op a bs) = omega (arith, alternatives_are bs)
some_tokens (source.assign x v) = omega arith
some_tokens (source.entry width a i) = omega arith
some_tokens (source.assign_entry width a i v) = omega arith
some_tokens (source.relative r v) = omega arith
some_tokens (source.contained op a b) = omega arith
some_tokens (source.has positive v n) = omega arith
some_tokens (source.provides v p) = omega arith
some_tokens (source.property v p) = omega arith
some_tokens (source.property_size v p) = omega arith
some_tokens (source.property_word v p i) = omega arith
some_tokens (source.assign_property v p w) = omega arith
some_tokens (source.assign_property_word v p i w) = omega arith

-- an assignment, by its left side
pub assigned_tokens : (w v : Value) → tokens (assigned w v) ≤ tokens w + (1 + tokens v)
assigned_tokens (source.entry width a i) v = omega arith
assigned_tokens (source.number n) v = omega arith
assigned_tokens (source.read x) v = omega arith
assigned_tokens (source.call r vs) v = omega arith
assigned_tokens (source.prefixed op w) v = omega (arith, some_tokens w)
assigned_tokens (source.step_before op x) v = omega arith
assigned_tokens (source.step_after x op) v = omega arith
assigned_tokens (source.binary op a b) v = omega (arith, some_tokens a)
assigned_tokens (source.compare op a b) v = omega (arith, some_tokens a)
assigned_tokens (source.equal op a bs) v = omega (arith, some_tokens a)
assigned_tokens (source.assign x w) v = omega arith
assigned_tokens (source.assign_entry width a i w) v = omega arith
assigned_tokens (source.relative r w) v = omega arith
assigned_tokens (source.contained op a b) v = omega (arith, some_tokens a)
assigned_tokens (source.has positive w n) v = omega arith
assigned_tokens (source.provides w p) v = omega arith
assigned_tokens (source.property w p) v = omega arith
assigned_tokens (source.property_size w p) v = omega arith
assigned_tokens (source.property_word w p i) v = omega arith
assigned_tokens (source.assign_property w p x) v = omega arith
assigned_tokens (source.assign_property_word w p i x) v = omega arith

-- what an object is tested for
pub tested_tokens : (test : ObjectTest) (v : Value) (found : Option Binding)
    → tokens (tested_for test v found) ≡ tokens v + 2
tested_tokens tests.Has v found = refl
tested_tokens tests.HasNot v found = refl
tested_tokens tests.Provides v found = refl
