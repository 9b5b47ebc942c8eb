-- Resolved programs with objects, and what they mean, computed.
use Rattle.std.proofs.Common.{◌≡◌, ℕ, true, List, [], ◌∷◌, ◌++◌, refl}
use Rattle.std.specs.Prelude.{codes, replicate}
use Rattle.zcore.specs.Arithmetic.{signed_text, decimal, quotient, remainder}
use Rattle.zcore.specs.declared.place.Place.TheVariants as places
use Rattle.zcore.specs.declared.place.Limit.TheVariants as limits
use Rattle.syntax_trees.specs.declared.tree.Containment.TheVariants as containment
use Rattle.syntax_trees.specs.declared.tree.Equality.TheVariants as equality
use Rattle.syntax_trees.specs.declared.tree.Relative.TheVariants as relatives
use Rattle.meaning.specs.declared.cause.Cause.TheVariants as causes
use Rattle.meaning.specs.declared.resolved.Variable.TheVariants as variables
use Rattle.meaning.specs.Objects.{ObjectOf}
use Rattle.meaning.specs.Resolved.{Value, Action, ProgramOf, number, read, relative, contained, has, property}
use Rattle.meaning.specs.Resolved.{property_size, equal, more, none, block, if_then, property_word}
use Rattle.meaning.specs.Resolved.{assign_property_word, Printed, text, number_of, name_of, print, new_line, effect}
use Rattle.meaning.specs.Resolved.{move_to, remove_from, each_object, each_in}
use Rattle.meaning.specs.Views.{actions_of}
use Rattle.meaning.specs.World.{Outcome, Situation, test_word, fault}
use Rattle.meaning.specs.Meaning.{meaning}

-- Global x; the objects; [ Main; S ];
abbrev with_objects : List ObjectOf → List Action → ProgramOf
with_objects objects xs = record {
  globals = 0 ∷ [];
  arrays = [];
  defaults = replicate 63 0;
  objects = objects;
  keys = [];
  routines = record { locals = 0; body = actions_of xs } ∷ [];
  main = 0;
  abbreviations = [];
}

abbrev within : ℕ → ObjectOf
within parent = record { parent = parent; name = []; attributes = []; properties = [] }

abbrev says : List ℕ → Outcome
says words = record { texts = words ∷ []; place = places.Quit }

abbrev space : Printed
space = text (codes " ")

abbrev line : Printed
line = text (codes "^")

abbrev fault_line : List ℕ → List ℕ
fault_line words = 10 ∷ codes "[Fault: " ++ words ++ codes "]" ++ 10 ∷ []

abbrev parent : Value → Printed
parent v = number_of (relative relatives.Parent v)

abbrev child : Value → Printed
child v = number_of (relative relatives.Child v)

abbrev sibling : Value → Printed
sibling v = number_of (relative relatives.Sibling v)

-- Object box; Object -> a; Object -> b; [ Main; move b to box; print child(box), " ", sibling(child(box)), " ",
-- parent(a), "^"; remove b; print child(box), " ", sibling(a), " ", parent(b), "^"; ];
abbrev moves : ProgramOf
moves = with_objects (within 0 ∷ within 1 ∷ within 1 ∷ [])
    (move_to (number 3) (number 1)
    ∷ print (child (number 1) ∷ space ∷ sibling (relative relatives.Child (number 1)) ∷ space ∷ parent (number 2) ∷ line
    ∷ [])
    ∷ remove_from (number 3)
    ∷ print (child (number 1) ∷ space ∷ sibling (number 2) ∷ space ∷ parent (number 3) ∷ line ∷ [])
    ∷ [])

moves_mean : meaning moves 1000 [] ≡ says (codes "3 2 1" ++ 10 ∷ codes "2 0 0" ++ 10 ∷ [])
unfolding meaning signed_text decimal quotient remainder
moves_mean = refl

-- Object box; Object -> bag; Object -> -> cup; Object hat; [ Main; move hat to cup; print parent(hat); ];
abbrev climbs : ProgramOf
climbs = with_objects (within 0 ∷ within 1 ∷ within 2 ∷ within 0 ∷ [])
    (move_to (number 4) (number 3) ∷ print (parent (number 4) ∷ []) ∷ [])

-- Main's call, and two steps to parents
climbs_mean : meaning climbs 3 [] ≡ says (codes "3")
unfolding meaning signed_text decimal quotient remainder
climbs_mean = refl

climbs_in_short : meaning climbs 2 [] ≡ record {
  texts = (10 ∷ codes "[Limit: turn too long]" ++ 10 ∷ []) ∷ [];
  place = places.Limit limits.Fuel;
}
unfolding meaning signed_text decimal quotient remainder
climbs_in_short = refl

-- Object box; Object -> bag; Object -> -> cup; Object hat; [ Main; move hat to cup; move hat to cup; ];
abbrev climbs_again : ProgramOf
climbs_again = with_objects (within 0 ∷ within 1 ∷ within 2 ∷ within 0 ∷ [])
    (move_to (number 4) (number 3) ∷ move_to (number 4) (number 3) ∷ [])

-- Main's call, and twice two steps to parents
climbs_again_mean : meaning climbs_again 5 [] ≡ says []
unfolding meaning
climbs_again_mean = refl

climbs_again_in_short : meaning climbs_again 4 [] ≡ record {
  texts = (10 ∷ codes "[Limit: turn too long]" ++ 10 ∷ []) ∷ [];
  place = places.Limit limits.Fuel;
}
unfolding meaning
climbs_again_in_short = refl

-- Object box; Object -> a; [ Main; print a in box, a notin box, box in a, box notin 0; ];
contained_mean : meaning (with_objects (within 0 ∷ within 1 ∷ [])
    (print (number_of (contained containment.In (number 2) (number 1))
    ∷ number_of (contained containment.NotIn (number 2) (number 1))
    ∷ number_of (contained containment.In (number 1) (number 2))
    ∷ number_of (contained containment.NotIn (number 1) (number 0)) ∷ [])
    ∷ [])) 1000 []
    ≡ says (codes "1000")
unfolding meaning signed_text decimal quotient remainder
contained_mean = refl

-- Object box; Object -> a; [ Main; move box to a; ];
inside_itself : meaning (with_objects (within 0 ∷ within 1 ∷ []) (move_to (number 1) (number 2) ∷ [])) 1000 []
    ≡ says (fault_line (codes "object inside itself"))
unfolding meaning
inside_itself = refl

-- Property size 7; Attribute light; Object lamp "brass lamp" with size 3, name 'lamp' 'brass', has light; Object rock;
-- with 9 and 8 as the words' numbers. `size` is property 2
abbrev lamp_and_rock : List Action → ProgramOf
lamp_and_rock xs = record (with_objects
    (record {
      parent = 0;
      name = codes "brass lamp";
      attributes = 0 ∷ [];
      properties = (2, 3 ∷ []) ∷ (1, 9 ∷ 8 ∷ []) ∷ [];
    } ∷ within 0 ∷ []) xs) { defaults = 0 ∷ 7 ∷ replicate 61 0 }

-- print (object) lamp, " ", lamp.size, " ", rock.size, " ", lamp.#name, " ", lamp has light, " ", rock has light, "^";
-- print lamp.name;
lamp_means : meaning (lamp_and_rock
    (print (name_of (number 1) ∷ space ∷ number_of (property (number 1) 2) ∷ space ∷ number_of (property (number 2) 2)
    ∷ space ∷ number_of (property_size (number 1) 1) ∷ space ∷ number_of (has true (number 1) 0) ∷ space
    ∷ number_of (has true (number 2) 0) ∷ line ∷ [])
    ∷ print (number_of (property (number 1) 1) ∷ [])
    ∷ [])) 1000 []
    ≡ says (codes "brass lamp 3 7 4 1 0" ++ 10 ∷ fault_line (codes "property of many words"))
unfolding meaning signed_text decimal quotient remainder
lamp_means = refl

-- Property size 7; Object a with size 1 2 3; Object b; [ Main; a.&size-->2 = 9; print a.&size-->2, " ", a.#size, " ",
-- b.#size, "^"; print b.&size-->0; ];
words_mean : meaning (with_objects
    (record { parent = 0; name = []; attributes = []; properties = (2, 1 ∷ 2 ∷ 3 ∷ []) ∷ [] } ∷ within 0 ∷ [])
    (effect (assign_property_word (number 1) 2 (number 2) (number 9))
    ∷ print (number_of (property_word (number 1) 2 (number 2)) ∷ space ∷ number_of (property_size (number 1) 2) ∷ space
    ∷ number_of (property_size (number 2) 2) ∷ line ∷ [])
    ∷ print (number_of (property_word (number 2) 2 (number 0)) ∷ [])
    ∷ [])) 1000 []
    ≡ says (codes "9 6 0" ++ 10 ∷ fault_line (codes "no such property"))
unfolding meaning signed_text decimal quotient remainder
words_mean = refl

-- Global x; Object a; Object b; Object c; [ Main; objectloop (x) print x; ];
abbrev counted : ProgramOf
counted = with_objects (within 0 ∷ within 0 ∷ within 0 ∷ [])
    (each_object (variables.Global 0) (print (number_of (read (variables.Global 0)) ∷ [])) ∷ [])

counted_mean : meaning counted 3 [] ≡ says (codes "123")
unfolding meaning signed_text decimal quotient remainder
counted_mean = refl

counted_in_short : meaning counted 2 [] ≡ record {
  texts = (codes "12" ++ 10 ∷ codes "[Limit: turn too long]" ++ 10 ∷ []) ∷ [];
  place = places.Limit limits.Fuel;
}
unfolding meaning signed_text decimal quotient remainder
counted_in_short = refl

-- Object box; Object -> a; Object -> b; [ Show x; objectloop (x in box) print x, " "; ..]: as the tree then is
children_mean : meaning (with_objects (within 0 ∷ within 1 ∷ within 1 ∷ [])
    (each_in (variables.Global 0) (number 1) (print (number_of (read (variables.Global 0)) ∷ space ∷ []))
    ∷ new_line
    ∷ move_to (number 3) (number 1)
    ∷ each_in (variables.Global 0) (number 1) (print (number_of (read (variables.Global 0)) ∷ space ∷ []))
    ∷ [])) 1000 []
    ≡ says (codes "2 3 " ++ 10 ∷ codes "3 2 ")
unfolding meaning signed_text decimal quotient remainder
children_mean = refl

-- Object a; Object -> b; Object -> c; Object d; Object -> e;
-- [ Main; objectloop (x in a) { print x; if (x == b) move x to d; } ];: the loop goes on where the object now stands
moved_away_mean : meaning (with_objects (within 0 ∷ within 1 ∷ within 1 ∷ within 0 ∷ within 4 ∷ [])
    (each_in (variables.Global 0) (number 1) (block (actions_of
    (print (number_of (read (variables.Global 0)) ∷ [])
    ∷ if_then (equal equality.Equal (read (variables.Global 0)) (more (number 2) none))
    (move_to (read (variables.Global 0)) (number 4))
    ∷ [])))
    ∷ [])) 1000 []
    ≡ says (codes "25")
unfolding meaning signed_text decimal quotient remainder
moved_away_mean = refl

-- an index of 32,768 is negative, however many words a property has
index_is_signed : (words : List ℕ) (s : Situation) → test_word 32768 words s ≡ fault causes.IndexOutOfRange s
index_is_signed words s = refl
