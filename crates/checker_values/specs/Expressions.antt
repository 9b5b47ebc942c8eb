-- The rules that an expression can break, and what it resolves to.
use Rattle.std.specs.Prelude.{◌+◌, ◌%◌, ℕ, nat_lt, Bool, true, false, if◌then◌else◌, List, [], ◌++◌, Option, Some, None}
use Rattle.syntax_lexer.specs.FaultNumbers.{not_assignable, too_many, too_many_arguments, unknown_name, wrong_kind}
use Rattle.syntax_lexer.specs.declared.token.Position.{Position}
use Rattle.syntax_trees.specs.declared.tree.ObjectTest.{ObjectTest}
use Rattle.syntax_trees.specs.declared.tree.ObjectTest.TheVariants as tests
use Rattle.syntax_trees.specs.Tree as trees
use Rattle.syntax_trees.specs.Tree.{NameTree, ExpressionTree, ExpressionTrees}
use Rattle.meaning.specs.declared.resolved.Variable.{Variable}
use Rattle.meaning.specs.declared.resolved.Variable.TheVariants as variables
use Rattle.meaning.specs.Resolved.{Value, Values, number, read, call, prefixed, step_before, step_after, binary}
use Rattle.meaning.specs.Resolved.{compare, equal, assign, entry, assign_entry, relative, contained, has, provides}
use Rattle.meaning.specs.Resolved.{property, property_size, property_word, assign_property, assign_property_word, none}
use Rattle.meaning.specs.Resolved.{more}
use Rattle.meaning.specs.Limits.{most_arguments}
use Rattle.checker_values.specs.declared.binding.Binding.{Binding}
use Rattle.checker_values.specs.declared.binding.Binding.TheVariants as bindings
use Rattle.checker_values.specs.declared.breach.Breach.{Breach}
use Rattle.checker_values.specs.Breaches.{at}
use Rattle.checker_values.specs.Keys.{key_of_word, value_of_known, or_zero}
use Rattle.checker_values.specs.Names.{name_of, is_place, Seen}

-- a name as a value: E20 where it is unknown, E23 where it is an array, a routine, an attribute or a property
abbrev pub value_breaches : Position → Option Binding → List Breach
value_breaches p None = at p unknown_name
value_breaches p (Some (bindings.Constant n)) = []
value_breaches p (Some (bindings.Global g)) = []
value_breaches p (Some (bindings.Object o)) = []
value_breaches p (Some (bindings.Local l)) = []
value_breaches p (Some _) = at p wrong_kind

-- more than seven arguments are E24; more than the routine has locals are E25
abbrev pub argument_breaches : Position → ℕ → ℕ → List Breach
argument_breaches p given locals = (if nat_lt most_arguments given then at p too_many else [])
    ++ (if nat_lt locals given then at p too_many_arguments else [])

-- a name that is called: E20 where it is unknown, E23 where it is no routine
abbrev pub call_breaches : Position → ℕ → Option Binding → List Breach
call_breaches p given None = at p unknown_name
call_breaches p given (Some (bindings.Routine r locals)) = argument_breaches p given locals
call_breaches p given (Some _) = at p wrong_kind

-- a name before `->` or `-->`: E20 where it is unknown, E23 where it is no array
abbrev pub array_name_breaches : Position → Option Binding → List Breach
array_name_breaches p None = at p unknown_name
array_name_breaches p (Some (bindings.Array a kind)) = []
array_name_breaches p (Some _) = at p wrong_kind

-- a name after `has` or `hasnt`, and in a `give`: E20 where it is unknown, E23 where it is no attribute
abbrev pub attribute_breaches : Position → Option Binding → List Breach
attribute_breaches p None = at p unknown_name
attribute_breaches p (Some (bindings.Attribute a)) = []
attribute_breaches p (Some _) = at p wrong_kind

-- a name after `.`, `.#`, `.&` or `provides`: E20 where it is unknown, E23 where it is no property
abbrev pub property_breaches : Position → Option Binding → List Breach
property_breaches p None = at p unknown_name
property_breaches p (Some (bindings.Property n)) = []
property_breaches p (Some _) = at p wrong_kind

-- what an object is tested for
abbrev pub tested_breaches : ObjectTest → Position → Option Binding → List Breach
tested_breaches tests.Has p found = attribute_breaches p found
tested_breaches tests.HasNot p found = attribute_breaches p found
tested_breaches tests.Provides p found = property_breaches p found

-- A name that is assigned to or stepped, with the operator's position: E20 where it is unknown; E26 at the operator
-- where it is no variable, and E23 at an array, a routine, an attribute or a property too.
abbrev pub target_breaches : Position → Position → Option Binding → List Breach
target_breaches p operator None = at p unknown_name
target_breaches p operator (Some (bindings.Constant n)) = at operator not_assignable
target_breaches p operator (Some (bindings.Global g)) = []
target_breaches p operator (Some (bindings.Object o)) = at operator not_assignable
target_breaches p operator (Some (bindings.Local l)) = []
target_breaches p operator (Some _) = at p wrong_kind ++ at operator not_assignable

abbrev pub count : ExpressionTrees → ℕ
count trees.none = 0
count (trees.more e es) = count es + 1

-- What a name resolves to. Where a rule is broken any value will do.

-- where keys have these numbers
abbrev pub value_of_binding : (ℕ → ℕ) → Option Binding → Value
value_of_binding numbers (Some (bindings.Constant known)) = number (value_of_known numbers (or_zero known))
value_of_binding numbers (Some (bindings.Global g)) = read (variables.Global g)
value_of_binding numbers (Some (bindings.Object o)) = number (o % 65536)
value_of_binding numbers (Some (bindings.Local l)) = read (variables.Local l)
value_of_binding numbers _ = number 0

abbrev pub variable_of_binding : Option Binding → Variable
variable_of_binding (Some (bindings.Global g)) = variables.Global g
variable_of_binding (Some (bindings.Local l)) = variables.Local l
variable_of_binding _ = variables.Local 0

abbrev pub routine_of_binding : Option Binding → ℕ
routine_of_binding (Some (bindings.Routine r locals)) = r
routine_of_binding _ = 0

abbrev pub array_of_binding : Option Binding → ℕ
array_of_binding (Some (bindings.Array a kind)) = a
array_of_binding _ = 0

abbrev pub attribute_of_binding : Option Binding → ℕ
attribute_of_binding (Some (bindings.Attribute a)) = a
attribute_of_binding _ = 0

abbrev pub property_of_binding : Option Binding → ℕ
property_of_binding (Some (bindings.Property n)) = n
property_of_binding _ = 0

abbrev pub tested_for : ObjectTest → Value → Option Binding → Value
tested_for tests.Has v found = has true v (attribute_of_binding found)
tested_for tests.HasNot v found = has false v (attribute_of_binding found)
tested_for tests.Provides v found = provides v (property_of_binding found)

-- an assignment, by what its left side resolves to
abbrev pub assigned : Value → Value → Value
assigned (read x) v = assign x v
assigned (entry width a i) v = assign_entry width a i v
assigned (property o n) v = assign_property o n v
assigned (property_word o n i) v = assign_property_word o n i v
assigned _ v = assign (variables.Local 0) v

-- `look` tells what a name stands for
module _ (look : List ℕ → Option Binding) where
  -- What is stepped, by the name that it is; `inside` are the rules that it breaks as an expression.
  abbrev pub left_breaches : Position → Option NameTree → List Breach → List Breach
  left_breaches operator (Some n) inside = target_breaches n.position operator (look n.text)
  left_breaches operator None inside = inside ++ at operator not_assignable

  -- What is assigned to, by the name that it is, and by whether it is an entry, a property or a word of a property.
  abbrev pub assigned_breaches : Position → Option NameTree → Bool → List Breach → List Breach
  assigned_breaches operator (Some n) is_one inside = target_breaches n.position operator (look n.text)
  assigned_breaches operator None true inside = inside
  assigned_breaches operator None false inside = inside ++ at operator not_assignable

  abbrev mutual
    pub breaches : ExpressionTree → List Breach
    breaches (trees.constant n) = []
    breaches (trees.word s) = []
    breaches (trees.named n) = value_breaches n.position (look n.text)
    breaches (trees.call n es) = call_breaches n.position (count es) (look n.text) ++ all_breaches es
    breaches (trees.index n width e) = array_name_breaches n.position (look n.text) ++ breaches e
    breaches (trees.parenthesised e) = breaches e
    breaches (trees.relative_of r e) = breaches e
    breaches (trees.property e n) = breaches e ++ property_breaches n.position (look n.text)
    breaches (trees.property_length e n) = breaches e ++ property_breaches n.position (look n.text)
    breaches (trees.property_entry e n i) = breaches e ++ (property_breaches n.position (look n.text) ++ breaches i)
    breaches (trees.prefixed op e) = breaches e
    breaches (trees.step_before op p e) = left_breaches p (name_of e) (breaches e)
    breaches (trees.step_after e op p) = left_breaches p (name_of e) (breaches e)
    breaches (trees.binary op a b) = breaches a ++ breaches b
    breaches (trees.compare op a b) = breaches a ++ breaches b
    breaches (trees.equal op a bs) = breaches a ++ all_breaches bs
    breaches (trees.contained op a b) = breaches a ++ breaches b
    breaches (trees.tested test e n) = breaches e ++ tested_breaches test n.position (look n.text)
    breaches (trees.assign a p b) = assigned_breaches p (name_of a) (is_place a) (breaches a) ++ breaches b

    pub all_breaches : ExpressionTrees → List Breach
    all_breaches trees.none = []
    all_breaches (trees.more e es) = breaches e ++ all_breaches es

-- Resolving, in a routine that sees so much of the file
module _ (seen : Seen) where
  abbrev pub target : Option NameTree → Variable
  target (Some n) = variable_of_binding (seen.look n.text)
  target None = variables.Local 0

  abbrev mutual
    pub resolve : ExpressionTree → Value
    resolve (trees.constant n) = number n
    resolve (trees.word s) = number (seen.number (key_of_word s))
    resolve (trees.named n) = value_of_binding seen.number (seen.look n.text)
    resolve (trees.call n es) = call (routine_of_binding (seen.look n.text)) (resolve_all es)
    resolve (trees.index n width e) = entry width (array_of_binding (seen.look n.text)) (resolve e)
    resolve (trees.parenthesised e) = resolve e
    resolve (trees.relative_of r e) = relative r (resolve e)
    resolve (trees.property e n) = property (resolve e) (property_of_binding (seen.look n.text))
    resolve (trees.property_length e n) = property_size (resolve e) (property_of_binding (seen.look n.text))
    resolve (trees.property_entry e n i) = property_word (resolve e) (property_of_binding (seen.look n.text))
        (resolve i)
    resolve (trees.prefixed op e) = prefixed op (resolve e)
    resolve (trees.step_before op p e) = step_before op (target (name_of e))
    resolve (trees.step_after e op p) = step_after (target (name_of e)) op
    resolve (trees.binary op a b) = binary op (resolve a) (resolve b)
    resolve (trees.compare op a b) = compare op (resolve a) (resolve b)
    resolve (trees.equal op a bs) = equal op (resolve a) (resolve_all bs)
    resolve (trees.contained op a b) = contained op (resolve a) (resolve b)
    resolve (trees.tested test e n) = tested_for test (resolve e) (seen.look n.text)
    resolve (trees.assign a p b) = assigned (resolve a) (resolve b)

    pub resolve_all : ExpressionTrees → Values
    resolve_all trees.none = none
    resolve_all (trees.more e es) = more (resolve e) (resolve_all es)
