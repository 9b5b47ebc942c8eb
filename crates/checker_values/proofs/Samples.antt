-- Rules of expressions on objects, what these resolve to and how many temporaries they need, computed.
use Rattle.std.proofs.Common.{◌≡◌, false, [], ◌++◌, refl}
use Rattle.std.specs.Prelude.{codes}
use Rattle.syntax_trees.specs.declared.tree.Containment.TheVariants as containments
use Rattle.syntax_trees.specs.declared.tree.ObjectTest.TheVariants as tests
use Rattle.syntax_trees.specs.declared.tree.Relative.TheVariants as relatives
use Rattle.syntax_trees.specs.declared.tree.Step.TheVariants as steps
use Rattle.syntax_trees.specs.Tree.{constant, named, parenthesised, relative_of, property, property_length}
use Rattle.syntax_trees.specs.Tree.{property_entry, step_before, step_after, contained, tested, assign}
use Rattle.meaning.specs.declared.resolved.Variable.TheVariants as variables
use Rattle.meaning.specs.Resolved as values
use Rattle.checker_values.specs.Breaches.{at}
use Rattle.checker_values.specs.Names.{key_of}
use Rattle.checker_values.specs.Expressions.{breaches, resolve}
use Rattle.checker_values.specs.Temporaries.{need}
use Rattle.checker_values.proofs.SampleFile.{p, the, look, seen, box}

-- Names

-- box.size
size_of_box : resolve seen (property (box 0) (the 1 (codes "size"))) ≡ values.property (values.number 1) 2
unfolding key_of
size_of_box = refl

-- box.size.Size: case is ignored
twice : breaches look (property (property (box 0) (the 1 (codes "size"))) (the 2 (codes "Size"))) ≡ []
unfolding key_of
twice = refl

-- box.open, and box.nothing_there
no_property : breaches look (property (box 0) (the 1 (codes "open"))) ≡ at (p 1) 23
unfolding key_of
no_property = refl

unknown_property : breaches look (property_length (box 0) (the 1 (codes "nothing_there"))) ≡ at (p 1) 20
unfolding key_of
unknown_property = refl

-- box hasnt open, and box provides size
hasnt_open : resolve seen (tested tests.HasNot (box 0) (the 1 (codes "open"))) ≡ values.has false (values.number 1) 0
unfolding key_of
hasnt_open = refl

provides_size : resolve seen (tested tests.Provides (box 0) (the 1 (codes "size")))
    ≡ values.provides (values.number 1) 2
unfolding key_of
provides_size = refl

-- box has size, and box provides box
no_attribute : breaches look (tested tests.Has (box 0) (the 1 (codes "size"))) ≡ at (p 1) 23
unfolding key_of
no_attribute = refl

object_provided : breaches look (tested tests.Provides (box 0) (the 1 (codes "box"))) ≡ at (p 1) 23
unfolding key_of
object_provided = refl

-- parent(box) in open: an attribute is no value
no_value : breaches look
    (contained containments.In (relative_of relatives.Parent (box 0)) (named (the 1 (codes "open"))))
    ≡ at (p 1) 23
unfolding key_of
no_value = refl

-- Assignments, with `=` as token 5

-- (box.size) = 7
size_is_7 : resolve seen (assign (parenthesised (property (box 0) (the 1 (codes "size")))) (p 5) (constant 7))
    ≡ values.assign_property (values.number 1) 2 (values.number 7)
unfolding key_of
size_is_7 = refl

size_may_be_7 : breaches look (assign (parenthesised (property (box 0) (the 1 (codes "size")))) (p 5) (constant 7)) ≡ []
unfolding key_of
size_may_be_7 = refl

-- box.&size-->g = 7
word_is_7 : resolve seen
    (assign (property_entry (box 0) (the 1 (codes "size")) (named (the 2 (codes "g")))) (p 5) (constant 7))
    ≡ values.assign_property_word (values.number 1) 2 (values.read (variables.Global 0)) (values.number 7)
unfolding key_of
word_is_7 = refl

-- box.#size = 7, and child(box) = 7
length_is_none : breaches look (assign (property_length (box 0) (the 1 (codes "size"))) (p 5) (constant 7))
    ≡ at (p 5) 26
unfolding key_of
length_is_none = refl

child_is_none : breaches look (assign (relative_of relatives.Child (box 0)) (p 5) (constant 7)) ≡ at (p 5) 26
unfolding key_of
child_is_none = refl

-- box = 7, and open = 7
object_is_none : breaches look (assign (box 0) (p 5) (constant 7)) ≡ at (p 5) 26
unfolding key_of
object_is_none = refl

attribute_is_none : breaches look (assign (named (the 0 (codes "open"))) (p 5) (constant 7))
    ≡ at (p 0) 23 ++ at (p 5) 26
unfolding key_of
attribute_is_none = refl

-- box.size++, and ++box
no_step : breaches look (step_after (property (box 0) (the 1 (codes "size"))) steps.Increment (p 5)) ≡ at (p 5) 26
unfolding key_of
no_step = refl

no_object_steps : breaches look (step_before steps.Increment (p 0) (box 1)) ≡ at (p 0) 26
unfolding key_of
no_object_steps = refl

-- Temporaries

-- box.size = 7, box.&size-->1 = 7, and g = 7
two_needed : need (assign (property (box 0) (the 1 (codes "size"))) (p 5) (constant 7)) ≡ 2
two_needed = refl

three_needed : need (assign (property_entry (box 0) (the 1 (codes "size")) (constant 1)) (p 5) (constant 7)) ≡ 3
three_needed = refl

one_needed : need (assign (named (the 0 (codes "g"))) (p 5) (constant 7)) ≡ 1
one_needed = refl
