-- What the code's resolved trees stand for, without where they lie in memory; and checked programs, whose objects and
-- routines are the code's.
use Rattle.std.specs.Prelude.{◌≡◌, ℕ, List, [], ◌∷◌, length, map, take, drop, Option, Some, None}
use Rattle.std.specs.Global.{Box, Vec}
use Rattle.std.specs.List.{concat}
use Rattle.std.specs.Option.{option_map}
use Rattle.syntax_trees.specs.declared.tree.Binary.{Binary}
use Rattle.syntax_trees.specs.Tree.{NameTree}
use Rattle.syntax_trees.specs.Views.{name_tree}
use Rattle.meaning.specs.Objects.{ObjectOf}
use Rattle.meaning.specs.declared.resolved.Span.{Span}
use Rattle.meaning.specs.declared.resolved.Span.TheVariants as spans
use Rattle.meaning.specs.declared.resolved.Value as code_value
use Rattle.meaning.specs.declared.resolved.Value.TheOpen.{Value-F}
use Rattle.meaning.specs.declared.resolved.Printed as code_printed
use Rattle.meaning.specs.declared.resolved.Printed.TheVariants as items
use Rattle.meaning.specs.declared.resolved.Action as code_action
use Rattle.meaning.specs.declared.resolved.Action.TheOpen.{Action-F}
use Rattle.meaning.specs.declared.checked.CheckedObject.{CheckedObject}
use Rattle.meaning.specs.declared.checked.CheckedRoutine.{CheckedRoutine}
use Rattle.meaning.specs.Resolved.{Value, number, read, call, prefixed, step_before, step_after, binary, compare, equal}
use Rattle.meaning.specs.Resolved.{assign, entry, assign_entry, relative, contained, has, provides, property}
use Rattle.meaning.specs.Resolved.{property_size, property_word, assign_property, assign_property_word, Values, none}
use Rattle.meaning.specs.Resolved.{more, Printed, text, character_of, number_of, name_of, RangeOf, one, between, Action}
use Rattle.meaning.specs.Resolved.{empty, block, text_alone, print, print_return, new_line, if_then, if_else, while_do}
use Rattle.meaning.specs.Resolved.{do_until, for_loop, switch_on, break_out, continue_on, read_line, give_to, move_to}
use Rattle.meaning.specs.Resolved.{remove_from, each_object, each_where, each_in, return_value, quit, effect, Actions}
use Rattle.meaning.specs.Resolved.{stop, next, CasesOf, no_case, default_case, case, RoutineOf, ProgramOf}

abbrev pub values_of : List Value → Values
values_of [] = none
values_of (v ∷ vs) = more v (values_of vs)

abbrev pub chained : Value → List (Binary × Value) → Value
chained v [] = v
chained v (l ∷ ls) = chained (binary l.0 v l.1) ls

-- properties, each of the word of the one before it
abbrev pub propertied : Value → List ℕ → Value
propertied v [] = v
propertied v (p ∷ ps) = propertied (property v p) ps

abbrev pub value_layer : Value-F Value → Value
value_layer (Value-F.Number n) = number n
value_layer (Value-F.Read x) = read x
value_layer (Value-F.Call r vs) = call r (values_of vs.items)
value_layer (Value-F.Prefixed op v) = prefixed op v.value
value_layer (Value-F.StepBefore op x) = step_before op x
value_layer (Value-F.StepAfter x op) = step_after x op
value_layer (Value-F.Chain a op b ls) = chained (binary op a.value b.value) ls.items
value_layer (Value-F.Compare a op b) = compare op a.value b.value
value_layer (Value-F.Equal a op b vs) = equal op a.value (more b.value (values_of vs.items))
value_layer (Value-F.Assign x v) = assign x v.value
value_layer (Value-F.Entry width a i) = entry width a i.value
value_layer (Value-F.AssignEntry width a i v) = assign_entry width a i.value v.value
value_layer (Value-F.Relative r v) = relative r v.value
value_layer (Value-F.Contained a op b) = contained op a.value b.value
value_layer (Value-F.Has positive v a) = has positive v.value a
value_layer (Value-F.Provides v p) = provides v.value p
value_layer (Value-F.Property v p ps) = propertied (property v.value p) ps.items
value_layer (Value-F.PropertySize v p) = property_size v.value p
value_layer (Value-F.PropertyWord v p i) = property_word v.value p i.value
value_layer (Value-F.AssignProperty v p w) = assign_property v.value p w.value
value_layer (Value-F.AssignPropertyWord v p i w) = assign_property_word v.value p i.value w.value

abbrev pub value_of : code_value.Value → Value
value_of = code_value.fold-Value Value value_layer

abbrev pub boxed_value : Box code_value.Value → Value
boxed_value b = value_of b.value

abbrev pub printed_of : code_printed.Printed → Printed
printed_of (items.Text s) = text s.now
printed_of (items.Character v) = character_of (value_of v)
printed_of (items.Number v) = number_of (value_of v)
printed_of (items.Name v) = name_of (value_of v)

abbrev pub actions_of : List Action → Actions
actions_of [] = stop
actions_of (a ∷ rest) = next a (actions_of rest)

abbrev pub range_of : Span → RangeOf
range_of (spans.One n) = one n
range_of (spans.Between low high) = between low high

-- cases, and the statements of `default`
abbrev pub cases_of : List (List RangeOf × Actions) → Option (List Action) → CasesOf
cases_of [] None = no_case
cases_of [] (Some xs) = default_case (actions_of xs)
cases_of (c ∷ cs) other = case c.0 c.1 (cases_of cs other)

-- `return` alone, `rtrue` and `rfalse` return a value
abbrev pub action_layer : Action-F Action → Action
action_layer Action-F.Empty = empty
action_layer (Action-F.Block xs) = block (actions_of xs.items)
action_layer (Action-F.Text s) = text_alone s.now
action_layer (Action-F.Print is) = print (map printed_of is.items)
action_layer (Action-F.PrintReturn is) = print_return (map printed_of is.items)
action_layer Action-F.NewLine = new_line
action_layer (Action-F.If v x) = if_then (boxed_value v) x.value
action_layer (Action-F.IfElse v x y) = if_else (boxed_value v) x.value y.value
action_layer (Action-F.While v x) = while_do (boxed_value v) x.value
action_layer (Action-F.Do x v) = do_until x.value (boxed_value v)
action_layer (Action-F.For a b c x) = for_loop (option_map boxed_value a) (option_map boxed_value b)
    (option_map boxed_value c) x.value
action_layer (Action-F.Switch v cases) = switch_on (boxed_value v)
    (cases_of (map (λ c. (map range_of c.0.items, actions_of c.1.items)) cases.value.0.items)
    (option_map (λ xs. xs.items) cases.value.1))
action_layer Action-F.Break = break_out
action_layer Action-F.Continue = continue_on
action_layer (Action-F.Read t p) = read_line t p
action_layer (Action-F.Give v changes) = give_to (boxed_value v) changes.items
action_layer (Action-F.Move v w) = move_to (boxed_value v) (boxed_value w)
action_layer (Action-F.Remove v) = remove_from (value_of v)
action_layer (Action-F.EachObject x a) = each_object x a.value
action_layer (Action-F.EachWhere x v a) = each_where x (boxed_value v) a.value
action_layer (Action-F.EachIn x v a) = each_in x (boxed_value v) a.value
action_layer (Action-F.ReturnValue v) = return_value (value_of v)
action_layer Action-F.Quit = quit
action_layer (Action-F.Effect v) = effect (value_of v)

abbrev pub action_of : code_action.Action → Action
action_of = code_action.fold-Action Action action_layer

-- a case of the code, and the statements of `default`

unfoldable pub case_of : Vec Span × Vec code_action.Action → List RangeOf × Actions
case_of c = (map range_of c.0.items, actions_of (map action_of c.1.items))

abbrev pub other_of : Option (Vec code_action.Action) → Option (List Action)
other_of other = option_map (λ xs. map action_of xs.items) other

abbrev pub routine_of : CheckedRoutine → RoutineOf
routine_of r = record { locals = r.locals; body = actions_of (map action_of r.body.items) }

abbrev pub title_of : CheckedRoutine → NameTree × ℕ
title_of r = (name_tree r.name, r.weight)

-- bytes that arrays of these sizes have, one after another
abbrev pub AreArrays : List ℕ → List ℕ → Type 0
AreArrays sizes bytes = (arrays : List (List ℕ)) × (sizes ≡ map length arrays) × (bytes ≡ concat arrays)

abbrev pub property_of : ℕ × Vec ℕ → ℕ × List ℕ
property_of x = (x.0, x.1.items)

abbrev pub object_of : CheckedObject → ObjectOf
object_of o = record {
  parent = o.parent;
  name = o.name.now;
  attributes = o.attributes.items;
  properties = map property_of o.properties.items;
}

-- pieces of these sizes, which follow one another
abbrev pub cut : List ℕ → List ℕ → List (List ℕ)
cut [] bytes = []
cut (n ∷ ns) bytes = take n bytes ∷ cut ns (drop n bytes)

-- a checked program: what its globals and its arrays begin with, the keys of its words, its abbreviations, its routines
-- in order of definition, the number of Main, and the source's weight and the line where it ends
pub record CheckedProgram : Type 0 where
  pub globals : List ℕ
  pub arrays : List (List ℕ)
  pub defaults : List ℕ
  pub objects : List CheckedObject
  pub keys : List ℕ
  pub abbreviations : List (List ℕ)
  pub routines : List CheckedRoutine
  pub main : ℕ
  pub weight : ℕ
  pub end_line : ℕ

abbrev pub program_of : CheckedProgram → ProgramOf
program_of c = record {
  globals = c.globals;
  arrays = c.arrays;
  defaults = c.defaults;
  objects = map object_of c.objects;
  keys = c.keys;
  abbreviations = c.abbreviations;
  routines = map routine_of c.routines;
  main = c.main;
}
