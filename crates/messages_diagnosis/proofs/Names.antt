-- The rules that a name can break, by what it stands for: each is broken at a position that is handed in.
use Rattle.std.proofs.Common.{ℕ, nat_lt, nat_le, List, [], ◌∷◌, ◌++◌, Option, Some, None, refl}
use Rattle.std.specs.Prelude.{is_some}
use Rattle.syntax_lexer.specs.declared.token.Position.{Position}
use Rattle.syntax_trees.specs.declared.tree.ObjectTest.{ObjectTest}
use Rattle.syntax_trees.specs.declared.tree.ObjectTest.TheVariants as tests
use Rattle.syntax_trees.specs.Tree.{NameTree}
use Rattle.meaning.specs.Limits.{most_arguments}
use Rattle.checker_values.specs.declared.binding.Binding.{Binding}
use Rattle.checker_values.specs.declared.binding.Binding.TheVariants as bindings
use Rattle.checker_values.specs.Names.{Table, key_of, in_table, has_name, repeated_breaches, twice}
use Rattle.checker_values.specs.Expressions.{value_breaches, argument_breaches, call_breaches, array_name_breaches}
use Rattle.checker_values.specs.Expressions.{attribute_breaches, property_breaches, tested_breaches, target_breaches}
use Rattle.checker_values.specs.Literals.{constant_breaches, later_breaches, earlier_breaches}
use Rattle.checker_statements.specs.Statements.{loop_breaches}
use Rattle.checker_statements.specs.Buffers.{is_of_bytes, is_array, buffer_breaches, same_breaches}
use Rattle.checker_statements.specs.Objects.{parent_breaches}
use Rattle.messages_diagnosis.proofs.Sounds.{Sounds, nothing, one, join, if_then}

module _ {P : Position → Type 0} (p : Position) (h : P p) where
  pub value_sounds : (o : Option Binding) → Sounds P (value_breaches p o)
  value_sounds None = one h refl
  value_sounds (Some (bindings.Constant n)) = nothing
  value_sounds (Some (bindings.Global g)) = nothing
  value_sounds (Some (bindings.Object n)) = nothing
  value_sounds (Some (bindings.Local l)) = nothing
  value_sounds (Some _) = one h refl

  argument_sounds : (given locals : ℕ) → Sounds P (argument_breaches p given locals)
  argument_sounds given locals = join (if_then (nat_lt most_arguments given) (one h refl) nothing)
      (if_then (nat_lt locals given) (one h refl) nothing)

  pub call_sounds : (given : ℕ) (o : Option Binding) → Sounds P (call_breaches p given o)
  call_sounds given None = one h refl
  call_sounds given (Some (bindings.Routine r locals)) = argument_sounds given locals
  call_sounds given (Some _) = one h refl

  pub array_sounds : (o : Option Binding) → Sounds P (array_name_breaches p o)
  array_sounds None = one h refl
  array_sounds (Some (bindings.Array a kind)) = nothing
  array_sounds (Some _) = one h refl

  pub attribute_sounds : (o : Option Binding) → Sounds P (attribute_breaches p o)
  attribute_sounds None = one h refl
  attribute_sounds (Some (bindings.Attribute a)) = nothing
  attribute_sounds (Some _) = one h refl

  pub property_sounds : (o : Option Binding) → Sounds P (property_breaches p o)
  property_sounds None = one h refl
  property_sounds (Some (bindings.Property n)) = nothing
  property_sounds (Some _) = one h refl

  pub tested_sounds : (test : ObjectTest) (o : Option Binding) → Sounds P (tested_breaches test p o)
  tested_sounds tests.Has o = attribute_sounds o
  tested_sounds tests.HasNot o = attribute_sounds o
  tested_sounds tests.Provides o = property_sounds o

  pub target_sounds : (q : Position) → P q → (o : Option Binding) → Sounds P (target_breaches p q o)
  target_sounds q k None = one h refl
  target_sounds q k (Some (bindings.Constant n)) = one k refl
  target_sounds q k (Some (bindings.Global g)) = nothing
  target_sounds q k (Some (bindings.Object n)) = one k refl
  target_sounds q k (Some (bindings.Local l)) = nothing
  target_sounds q k (Some (bindings.Array a kind)) = join (one h refl) (one k refl)
  target_sounds q k (Some (bindings.Routine r locals)) = join (one h refl) (one k refl)
  target_sounds q k (Some (bindings.Attribute a)) = join (one h refl) (one k refl)
  target_sounds q k (Some (bindings.Property n)) = join (one h refl) (one k refl)

  pub constant_sounds : (o : Option Binding) → Sounds P (constant_breaches p o)
  constant_sounds None = one h refl
  constant_sounds (Some (bindings.Constant n)) = nothing
  constant_sounds (Some (bindings.Object n)) = nothing
  constant_sounds (Some _) = one h refl

  later_sounds : (o : Option Binding) → Sounds P (later_breaches p o)
  later_sounds None = one h refl
  later_sounds (Some (bindings.Object n)) = nothing
  later_sounds (Some _) = one h refl

  pub earlier_sounds : (o anywhere : Option Binding) → Sounds P (earlier_breaches p o anywhere)
  earlier_sounds None anywhere = later_sounds anywhere
  earlier_sounds (Some (bindings.Constant n)) anywhere = nothing
  earlier_sounds (Some (bindings.Object n)) anywhere = nothing
  earlier_sounds (Some (bindings.Global g)) anywhere = later_sounds anywhere
  earlier_sounds (Some (bindings.Array a kind)) anywhere = later_sounds anywhere
  earlier_sounds (Some (bindings.Routine r locals)) anywhere = later_sounds anywhere
  earlier_sounds (Some (bindings.Attribute a)) anywhere = later_sounds anywhere
  earlier_sounds (Some (bindings.Property n)) anywhere = later_sounds anywhere
  earlier_sounds (Some (bindings.Local l)) anywhere = later_sounds anywhere

  pub loop_sounds : (o : Option Binding) → Sounds P (loop_breaches p o)
  loop_sounds None = one h refl
  loop_sounds (Some (bindings.Global g)) = nothing
  loop_sounds (Some (bindings.Local l)) = nothing
  loop_sounds (Some _) = one h refl

  pub buffer_sounds : (o : Option Binding) → Sounds P (buffer_breaches p o)
  buffer_sounds None = one h refl
  buffer_sounds (Some (bindings.Array a kind)) = if_then (is_of_bytes kind) nothing (one h refl)
  buffer_sounds (Some _) = one h refl

  pub same_sounds : (o second : Option Binding) → Sounds P (same_breaches p o second)
  same_sounds None second = nothing
  same_sounds (Some (bindings.Array a kind)) second = if_then (is_array a second) (one h refl) nothing
  same_sounds (Some _) second = nothing

  pub parent_sounds : (before : ℕ) (o : Option Binding) → Sounds P (parent_breaches p before o)
  parent_sounds before None = one h refl
  parent_sounds before (Some (bindings.Object n)) = if_then (nat_le n before) nothing (one h refl)
  parent_sounds before (Some _) = one h refl

pub twice_sounds : {P : Position → Type 0} (table : Table) (n : NameTree) → P n.position → Sounds P (twice table n)
twice_sounds table n h = if_then (is_some (in_table table (key_of n.text))) (one h refl) nothing

-- names, each at such a position
abbrev pub EachName : (Position → Type 0) → List NameTree → Type 0
EachName P [] = Unit {0}
EachName P (n ∷ ns) = P n.position × EachName P ns

pub record Names (P : Position → Type 0) (ns : List NameTree) : Type 0 where
  pub each : EachName P ns

pub repeated_each : (P : Position → Type 0) (before ns : List NameTree) → EachName P ns
    → Sounds P (repeated_breaches before ns)
repeated_each P before [] h = nothing
repeated_each P before (n ∷ ns) h = join (if_then (has_name before n) (one h.0 refl) nothing)
    (repeated_each P (before ++ n ∷ []) ns h.1)
