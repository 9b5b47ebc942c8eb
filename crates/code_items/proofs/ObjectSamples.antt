-- What stands for expressions and statements on objects, and runs of items on programs with objects, computed.
use Rattle.std.proofs.Common.{◌≡◌, ℕ, List, [], ◌∷◌, ◌++◌, Some, true, false, refl}
use Rattle.std.specs.Prelude.{codes, replicate}
use Rattle.zcore.specs.Arithmetic.{signed_text, decimal, quotient, remainder}
use Rattle.zcore.specs.declared.place.Place.TheVariants as places
use Rattle.zcore.specs.declared.place.Limit.TheVariants as limits
use Rattle.syntax_trees.specs.declared.tree.Containment.TheVariants as containments
use Rattle.syntax_trees.specs.declared.tree.Relative.TheVariants as relatives
use Rattle.meaning.specs.declared.resolved.Variable.{Variable}
use Rattle.meaning.specs.declared.resolved.Variable.TheVariants.{Local, Global}
use Rattle.meaning.specs.Objects.{ObjectOf}
use Rattle.meaning.specs.Resolved.{Value, Action, ProgramOf, none, read, number, call, assign, relative, contained, has}
use Rattle.meaning.specs.Resolved.{provides, property, property_size, property_word, assign_property}
use Rattle.meaning.specs.Resolved.{assign_property_word, effect, if_then, Printed, print, text, number_of, name_of}
use Rattle.meaning.specs.Resolved.{give_to, move_to, remove_from, each_object, each_where, each_in}
use Rattle.meaning.specs.Views.{actions_of}
use Rattle.meaning.specs.Resolved as source
use Rattle.meaning.specs.World.{Outcome}
use Rattle.code_drafts.specs.Items.{pushed, push, into, nowhere, is_zero, branch, keep, back, print_number, print_name}
use Rattle.code_drafts.specs.Items.{move, move_object, remove_object, give, is_in, first_object, next_object}
use Rattle.code_drafts.specs.Items as items
use Rattle.code_items.specs.Statements.{Exits, exits_to, action_items}
use Rattle.code_items.specs.Stack.{from, exec, start}

abbrev x : Variable
x = Local 0

abbrev y : Variable
y = Local 1

abbrev g : Variable
g = Global 0

-- outside of loops
abbrev outside : Exits
outside = exits_to 0 0

-- F();
abbrev called : Value
called = call 7 none

-- x = child(y);
child_read : action_items outside 0 (effect (assign x (relative relatives.Child (read y))))
    ≡ items.relative relatives.Child (items.variable y) (into x) ∷ []
child_read = refl

-- if (x in y) quit;
contained_tested : action_items outside 0 (if_then (contained containments.In (read x) (read y)) source.quit)
    ≡ is_in (items.variable x) (items.variable y) false 2 ∷ items.quit ∷ []
contained_tested = refl

-- do F(); until (x in y); the item of an object leads out, over a jump
contained_behind : action_items outside 3
    (source.do_until (effect called) (contained containments.In (read x) (read y)))
    ≡ items.call 7 [] nowhere ∷ is_in (items.variable x) (items.variable y) true 6 ∷ back 3 ∷ []
contained_behind = refl

-- if (g notin F()) quit; where the call may change g
contained_changed : action_items outside 0 (if_then (contained containments.NotIn (read g) called) source.quit)
    ≡ move (items.variable g) push ∷ items.call 7 [] push ∷ is_in pushed pushed true 4 ∷ items.quit ∷ []
contained_changed = refl

-- if (x has 5) quit;
attribute_tested : action_items outside 0 (if_then (has true (read x) 5) source.quit)
    ≡ items.has (items.variable x) 5 false 2 ∷ items.quit ∷ []
attribute_tested = refl

-- x = y hasnt 5;
attribute_word : action_items outside 0 (effect (assign x (has false (read y) 5)))
    ≡ items.has (items.variable y) 5 false 3
    ∷ move (items.number 0) (into x)
    ∷ items.jump 4
    ∷ move (items.number 1) (into x)
    ∷ []
attribute_word = refl

-- if (x provides 2) quit;
property_tested : action_items outside 0 (if_then (provides (read x) 2) source.quit)
    ≡ items.provides (items.variable x) 2 false 2 ∷ items.quit ∷ []
property_tested = refl

-- x = y.2;
property_read : action_items outside 0 (effect (assign x (property (read y) 2)))
    ≡ items.property (items.variable y) 2 (into x) ∷ []
property_read = refl

-- x = y.#2;
size_read : action_items outside 0 (effect (assign x (property_size (read y) 2)))
    ≡ items.property_size (items.variable y) 2 (into x) ∷ []
size_read = refl

-- x = g.&2-->F(); where the call may change g
word_read : action_items outside 0 (effect (assign x (property_word (read g) 2 called)))
    ≡ move (items.variable g) push ∷ items.call 7 [] push ∷ items.property_word 2 pushed pushed (into x) ∷ []
word_read = refl

-- x.2 = 9;
property_assigned : action_items outside 0 (effect (assign_property (read x) 2 (number 9)))
    ≡ items.assign_property 2 (items.variable x) (items.number 9) nowhere ∷ []
property_assigned = refl

-- x.&2-->g = F(); where the call may change g, and cannot change x
word_assigned : action_items outside 0 (effect (assign_property_word (read x) 2 (read g) called))
    ≡ move (items.variable g) push
    ∷ items.call 7 [] push
    ∷ items.assign_property_word 2 (items.variable x) pushed pushed nowhere
    ∷ []
word_assigned = refl

-- give F() 3 ~4;
given : action_items outside 0 (give_to called ((true, 3) ∷ (false, 4) ∷ []))
    ≡ items.call 7 [] push ∷ give pushed ((true, 3) ∷ (false, 4) ∷ []) ∷ []
given = refl

-- move x to F(); remove y; print (object) x;
object_moved : action_items outside 0 (move_to (read x) called)
    ≡ items.call 7 [] push ∷ move_object (items.variable x) pushed ∷ []
object_moved = refl

object_removed : action_items outside 0 (remove_from (read y)) ≡ remove_object (items.variable y) ∷ []
object_removed = refl

object_printed : action_items outside 0 (print (name_of (read x) ∷ [])) ≡ print_name (items.variable x) ∷ []
object_printed = refl

-- objectloop (x) print x;
all_objects : action_items outside 0 (each_object x (print (number_of (read x) ∷ [])))
    ≡ first_object x 4 ∷ print_number (items.variable x) ∷ next_object x 4 ∷ back 1 ∷ []
all_objects = refl

-- objectloop (x has 5) print x;
some_objects : action_items outside 0 (each_where x (has true (read x) 5) (print (number_of (read x) ∷ [])))
    ≡ first_object x 5
    ∷ items.has (items.variable x) 5 false 3
    ∷ print_number (items.variable x)
    ∷ next_object x 5
    ∷ back 1
    ∷ []
some_objects = refl

-- objectloop (x in F()) { if (y) break; print x; }
children : action_items outside 0 (each_in x called (source.block (actions_of
    (if_then (read y) source.break_out ∷ print (number_of (read x) ∷ []) ∷ []))))
    ≡ items.call 7 [] push
    ∷ items.relative relatives.Child pushed push
    ∷ keep x
    ∷ branch is_zero (pushed ∷ []) true 11
    ∷ branch is_zero (items.variable y ∷ []) true 6
    ∷ items.jump 11
    ∷ print_number (items.variable x)
    ∷ items.relative relatives.Sibling (items.variable x) push
    ∷ keep x
    ∷ branch is_zero (pushed ∷ []) true 11
    ∷ back 4
    ∷ []
children = refl

-- Runs: the items come to what the program means

-- Global x; the objects; [ Main; S ];
abbrev with_objects : List ObjectOf → List Action → ProgramOf
with_objects objects xs = record {
  globals = 0 ∷ [];
  arrays = [];
  defaults = replicate 63 0;
  objects = objects;
  keys = [];
  abbreviations = [];
  routines = record { locals = 0; body = actions_of xs } ∷ [];
  main = 0;
}

abbrev within : ℕ → ObjectOf
within parent = record { parent = parent; name = []; attributes = []; properties = [] }

abbrev says : List ℕ → Outcome
says words = record { texts = words ∷ []; place = places.Quit }

abbrev space : Printed
space = text (codes " ")

abbrev line : Printed
line = text (codes "^")

abbrev parent : Value → Printed
parent v = number_of (relative relatives.Parent v)

abbrev child : Value → Printed
child v = number_of (relative relatives.Child v)

abbrev sibling : Value → Printed
sibling v = number_of (relative relatives.Sibling v)

-- Object box; Object -> a; Object -> b; [ Main; move b to box; print child(box), " ", sibling(child(box)), " ",
-- parent(a), "^"; remove b; print child(box), " ", sibling(a), " ", parent(b), "^"; ];
abbrev moves : ProgramOf
moves = with_objects (within 0 ∷ within 1 ∷ within 1 ∷ [])
    (move_to (number 3) (number 1)
    ∷ print (child (number 1) ∷ space ∷ sibling (relative relatives.Child (number 1)) ∷ space ∷ parent (number 2)
    ∷ line ∷ [])
    ∷ remove_from (number 3)
    ∷ print (child (number 1) ∷ space ∷ sibling (number 2) ∷ space ∷ parent (number 3) ∷ line ∷ [])
    ∷ [])

moves_run : from (start moves 1000 []) (exec moves 1000 30)
    ≡ Some (says (codes "3 2 1" ++ 10 ∷ codes "2 0 0" ++ 10 ∷ []))
unfolding signed_text decimal quotient remainder
moves_run = refl

-- Global x; Object a; Object b; Object c; [ Main; objectloop (x) print x; ]; with three units, and with two
abbrev counted : ProgramOf
counted = with_objects (within 0 ∷ within 0 ∷ within 0 ∷ [])
    (each_object g (print (number_of (read g) ∷ [])) ∷ [])

counted_runs : from (start counted 3 []) (exec counted 3 20) ≡ Some (says (codes "123"))
unfolding signed_text decimal quotient remainder
counted_runs = refl

counted_in_short : from (start counted 2 []) (exec counted 2 20) ≡ Some (record {
  texts = (codes "12" ++ 10 ∷ codes "[Limit: turn too long]" ++ 10 ∷ []) ∷ [];
  place = places.Limit limits.Fuel;
})
unfolding signed_text decimal quotient remainder
counted_in_short = refl

-- Global x; Object box; Object -> a; Object -> b; [ Main; objectloop (x in box) print x, " "; move b to box;
-- objectloop (x in box) print x, " "; ];
abbrev visits : ProgramOf
visits = with_objects (within 0 ∷ within 1 ∷ within 1 ∷ [])
    (each_in g (number 1) (print (number_of (read g) ∷ space ∷ []))
    ∷ move_to (number 3) (number 1)
    ∷ each_in g (number 1) (print (number_of (read g) ∷ space ∷ []))
    ∷ [])

visits_run : from (start visits 1000 []) (exec visits 1000 60) ≡ Some (says (codes "2 3 3 2 "))
unfolding signed_text decimal quotient remainder
visits_run = refl

-- Object a "lamp" with property 2 of words 1 2 3, attribute 0; Object b; [ Main; a.&2-->2 = 9; print (object) a,
-- a.&2-->2, " ", a.#2, " ", b.2, " ", a has 0, " ", a provides 3, "^"; give a ~0; if (a hasnt 0) print "dark"; ];
abbrev lamp : ProgramOf
lamp = with_objects
    (record { parent = 0; name = codes "lamp "; attributes = 0 ∷ []; properties = (2, 1 ∷ 2 ∷ 3 ∷ []) ∷ [] }
    ∷ within 0 ∷ [])
    (effect (assign_property_word (number 1) 2 (number 2) (number 9))
    ∷ print (name_of (number 1) ∷ number_of (property_word (number 1) 2 (number 2)) ∷ space
    ∷ number_of (property_size (number 1) 2) ∷ space ∷ number_of (property (number 2) 2) ∷ space
    ∷ number_of (has true (number 1) 0) ∷ space ∷ number_of (provides (number 1) 3) ∷ line ∷ [])
    ∷ give_to (number 1) ((false, 0) ∷ [])
    ∷ if_then (has false (number 1) 0) (print (text (codes "dark") ∷ []))
    ∷ [])

lamp_runs : from (start lamp 1000 []) (exec lamp 1000 60) ≡ Some (says (codes "lamp 9 6 0 1 0" ++ 10 ∷ codes "dark"))
unfolding signed_text decimal quotient remainder
lamp_runs = refl

-- Object box; Object -> a; [ Main; a.2 = 1; ]; and [ Main; move box to a; ];
abbrev none_provided : ProgramOf
none_provided = with_objects (within 0 ∷ within 1 ∷ []) (effect (assign_property (number 2) 2 (number 1)) ∷ [])

no_property : from (start none_provided 1000 []) (exec none_provided 1000 9)
    ≡ Some (says (10 ∷ codes "[Fault: no such property]" ++ 10 ∷ []))
no_property = refl

abbrev moved_inside : ProgramOf
moved_inside = with_objects (within 0 ∷ within 1 ∷ []) (move_to (number 1) (number 2) ∷ [])

inside_itself : from (start moved_inside 1000 []) (exec moved_inside 1000 9)
    ≡ Some (says (10 ∷ codes "[Fault: object inside itself]" ++ 10 ∷ []))
inside_itself = refl
