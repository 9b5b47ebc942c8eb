-- The objects of a running source: who stands in whom, attributes, and the words of properties. Objects are numbered
-- from 1; 0 is none.
use Rattle.std.specs.Prelude.{◌==◌, ◌&&◌, ℕ, zero, suc, Bool, if◌then◌else◌, List, [], ◌∷◌, Option, Some, None}
use Rattle.std.specs.Prelude.{slice_index_or}
use Rattle.std.specs.List.{list_any}
use Rattle.syntax_trees.specs.declared.tree.Relative.{Relative}
use Rattle.syntax_trees.specs.declared.tree.Relative.TheVariants as relatives

-- The tree: the parent of each object, 0 for none, and the list of its children.
pub record Tree : Type 0 where
  pub parent : ℕ → ℕ
  pub children : ℕ → List ℕ

-- Lists of children

abbrev pub without : ℕ → List ℕ → List ℕ
without o [] = []
without o (x ∷ xs) = if x == o then without o xs else x ∷ without o xs

-- the first one, 0 for none
abbrev pub first_of : List ℕ → ℕ
first_of [] = 0
first_of (x ∷ xs) = x

-- the one after an object, 0 for none
abbrev pub after_in : ℕ → List ℕ → ℕ
after_in o [] = 0
after_in o (x ∷ xs) = if x == o then first_of xs else after_in o xs

abbrev pub relative_in : Relative → ℕ → Tree → ℕ
relative_in relatives.Parent o t = t.parent o
relative_in relatives.Child o t = first_of (t.children o)
relative_in relatives.Sibling o t = after_in o (t.children (t.parent o))

-- without parent and sibling
abbrev pub removed : ℕ → Tree → Tree
removed o t = record {
  parent = λ x. if x == o then 0 else t.parent x;
  children = λ p. without o (t.children p);
}

-- an object without parent becomes the first child of another
abbrev pub inserted : ℕ → ℕ → Tree → Tree
inserted o into t = record {
  parent = λ x. if x == o then into else t.parent x;
  children = λ p. if p == into then o ∷ t.children p else t.children p;
}

abbrev pub moved : ℕ → ℕ → Tree → Tree
moved o into t = inserted o into (removed o t)

-- The test of a move goes from the target up to its parents: none may be the object. A step to a parent costs a unit.

pub data Climbed : Type 0 where
  -- the object is none of them, and so many units are left
  clear : ℕ → Climbed
  -- the object would lie inside itself
  inside : Climbed
  -- no unit is left
  spent : Climbed

abbrev pub climb : (ℕ → ℕ) → ℕ → ℕ → ℕ → Climbed
climb parent o at zero =
    if at == o then inside
    else (if parent at == 0 then clear zero
    else spent)
climb parent o at (suc fuel) =
    if at == o then inside
    else (if parent at == 0 then clear (suc fuel)
    else climb parent o (parent at) fuel)

-- All that a running source changes of its objects: the tree, whether an object has an attribute, and the words of an
-- object's property, where it provides that.
pub record Objects : Type 0 where
  pub tree : Tree
  pub attributes : ℕ → ℕ → Bool
  pub properties : ℕ → ℕ → Option (List ℕ)

abbrev pub with_attribute : ℕ → ℕ → Bool → Objects → Objects
with_attribute o a has objects = record
    objects { attributes = λ x b. if x == o && b == a then has else objects.attributes x b }

abbrev pub with_words : ℕ → ℕ → List ℕ → Objects → Objects
with_words o p words objects = record
    objects { properties = λ x q. if x == o && q == p then Some words else objects.properties x q }

-- What a source begins with

-- an object as it is defined: its parent, the bytes between the quotes of its short name, its attributes, and its
-- properties, each with its words
pub record ObjectOf : Type 0 where
  pub parent : ℕ
  pub name : List ℕ
  pub attributes : List ℕ
  pub properties : List (ℕ × List ℕ)

abbrev pub no_object : ObjectOf
no_object = record { parent = 0; name = []; attributes = []; properties = [] }

-- the object of a number
abbrev pub object_at : List ObjectOf → ℕ → ObjectOf
object_at objects zero = no_object
object_at objects (suc o) = slice_index_or objects o no_object

-- those that stand in one, in order of definition, where the first has this number
abbrev pub standing_in : ℕ → ℕ → List ObjectOf → List ℕ
standing_in p o [] = []
standing_in p o (x ∷ xs) = if x.parent == p then o ∷ standing_in p (suc o) xs else standing_in p (suc o) xs

abbrev pub words_in : ℕ → List (ℕ × List ℕ) → Option (List ℕ)
words_in p [] = None
words_in p (x ∷ xs) = if x.0 == p then Some x.1 else words_in p xs

abbrev pub first_objects : List ObjectOf → Objects
first_objects objects = record {
  tree = record {
    parent = λ o. (object_at objects o).parent;
    children = λ p. if p == 0 then [] else standing_in p 1 objects;
  };
  attributes = λ o a. list_any (λ b. b == a) (object_at objects o).attributes;
  properties = λ o p. words_in p (object_at objects o).properties;
}
