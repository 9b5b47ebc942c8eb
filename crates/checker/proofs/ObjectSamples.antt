-- Definitions of objects, computed: the rules that they break, and what they are.
use Rattle.std.proofs.Common.{◌≡◌, ℕ, zero, suc, ◌+◌, List, [], ◌∷◌, ◌++◌, Some, None, refl}
use Rattle.std.specs.Prelude.{codes}
use Rattle.ztext.specs.Text.{encoded}
use Rattle.ztext.specs.Words.{packed}
use Rattle.ztext.specs.Alphabets.{spelling_of}
use Rattle.syntax_lexer.specs.declared.token.Position.{Position}
use Rattle.syntax_trees.specs.Tree.{NameTree}
use Rattle.syntax_statements.specs.PartTree as s
use Rattle.syntax_directives.specs.Tree as d
use Rattle.syntax_directives.specs.Tree.{DirectiveTree, ObjectTree}
use Rattle.syntax.specs.Tree.{ProgramTree}
use Rattle.meaning.specs.Objects.{ObjectOf}
use Rattle.checker_values.specs.Breaches.{at}
use Rattle.checker_values.specs.Names.{table_of, key_of, look_up}
use Rattle.checker.specs.Programs.{program_breaches, resolve_with, file_of, resolve_program}
use Rattle.checker.proofs.Samples.{p, the, routine, program}

-- an object that stands alone, and one below so many arrows at these positions

abbrev alone : ℕ → List ℕ → ObjectTree
alone n name = record {
  arrows = [];
  name = the n name;
  short = None;
  parent = None;
  properties = [];
  attributes = [];
}

abbrev below : List Position → ℕ → List ℕ → ObjectTree
below arrows n name = record (alone n name) { arrows = arrows }

abbrev inside : NameTree → ℕ → List ℕ → ObjectTree
inside parent n name = record (alone n name) { parent = Some parent }

abbrev value : ℕ → ℕ → d.ValueTree
value n v = record { position = p n; value = s.number_value v }

abbrev with : NameTree → List d.ValueTree → d.PropertyTree
with name values = record { name = name; values = values }

abbrev whole : List DirectiveTree → ProgramTree
whole ds = program (ds ++ routine (codes "Main") [] [] ∷ [])

-- Where objects stand

-- Object -> a;
no_object_above : program_breaches (whole (d.object (below (p 1 ∷ []) 2 (codes "a")) ∷ [])) ≡ at (p 1) 20
unfolding program_breaches table_of key_of look_up
no_object_above = refl

-- Object a; Object -> -> b;
one_arrow_too_many : program_breaches
    (whole (d.object (alone 1 (codes "a")) ∷ d.object (below (p 2 ∷ p 3 ∷ []) 4 (codes "b")) ∷ [])) ≡ at (p 2) 20
unfolding program_breaches table_of key_of look_up
one_arrow_too_many = refl

-- Object b a; Object a;
later_parent : program_breaches
    (whole (d.object (inside (the 2 (codes "a")) 1 (codes "b")) ∷ d.object (alone 3 (codes "a")) ∷ [])) ≡ at (p 2) 20
unfolding program_breaches table_of key_of look_up
later_parent = refl

-- Object a; Constant c = a; Object b c;
no_parent : program_breaches
    (whole
    (d.object (alone 1 (codes "a")) ∷ d.constant (the 2 (codes "c")) (s.named_value (the 3 (codes "a")))
    ∷ d.object (inside (the 5 (codes "c")) 4 (codes "b")) ∷ [])) ≡ at (p 5) 23
unfolding program_breaches table_of key_of look_up
no_parent = refl

-- What objects provide

-- Object a with name 1, NAME 2;
twice_provided : program_breaches
    (whole (d.object (record (alone 1 (codes "a")) {
      properties = with (the 2 (codes "name")) (value 3 1 ∷ [])
          ∷ with (the 4 (codes "NAME")) (value 5 2 ∷ []) ∷ [];
    }) ∷ [])) ≡ at (p 4) 22
unfolding program_breaches table_of key_of look_up
twice_provided = refl

-- Attribute light; Object a with light 1 has name dark;
wrong_kinds : program_breaches
    (whole
    (d.attribute (the 1 (codes "light"))
    ∷ d.object (record (alone 2 (codes "a")) {
      properties = with (the 3 (codes "light")) (value 4 1 ∷ []) ∷ [];
      attributes = the 5 (codes "name") ∷ the 6 (codes "dark") ∷ [];
    }) ∷ []))
    ≡ at (p 3) 23 ++ at (p 5) 23 ++ at (p 6) 20
unfolding program_breaches table_of key_of look_up
wrong_kinds = refl

abbrev values : ℕ → ℕ → List d.ValueTree
values zero n = []
values (suc k) n = value n 7 ∷ values k (n + 1)

-- Object a with name and 33 values
many_words : program_breaches
    (whole
    (d.object (record (alone 1 (codes "a")) { properties = with (the 2 (codes "name")) (values 33 3) ∷ [] }) ∷ []))
    ≡ at (p 35) 24
unfolding program_breaches table_of key_of look_up
many_words = refl

-- What they are

-- Constant first = box; Property size 7; Attribute light; Object box "box" with name 1 2, size first has light;
-- Object -> a; Object -> b; Object c a;
abbrev box : ProgramTree
box = whole
    (d.constant (the 0 (codes "first")) (s.named_value (the 1 (codes "box")))
    ∷ d.property (the 2 (codes "size")) (Some (s.number_value 7)) ∷ d.attribute (the 3 (codes "light"))
    ∷ d.object (record (alone 4 (codes "box")) {
      short = Some (record { bytes = codes "box"; position = p 5 });
      properties = with (the 6 (codes "name")) (value 7 1 ∷ value 8 2 ∷ [])
          ∷ with (the 9 (codes "size"))
          (record { position = p 10; value = s.named_value (the 10 (codes "first")) } ∷ []) ∷ [];
      attributes = the 11 (codes "light") ∷ [];
    })
    ∷ d.object (below (p 12 ∷ []) 13 (codes "a")) ∷ d.object (below (p 14 ∷ []) 15 (codes "b"))
    ∷ d.object (inside (the 17 (codes "a")) 16 (codes "c")) ∷ [])

box_fine : program_breaches box ≡ []
unfolding program_breaches table_of key_of look_up encoded packed spelling_of
box_fine = refl

abbrev empty_in : ℕ → ObjectOf
empty_in parent = record { parent = parent; name = []; attributes = []; properties = [] }

-- properties descend by their numbers, and a constant may name an object that stands later
box_resolves : (resolve_program box).objects ≡ record {
  parent = 0;
  name = codes "box";
  attributes = 0 ∷ [];
  properties = (2, 1 ∷ []) ∷ (1, 1 ∷ 2 ∷ []) ∷ [];
} ∷ empty_in 1 ∷ empty_in 1 ∷ empty_in 2 ∷ []
unfolding resolve_program resolve_with file_of table_of key_of look_up
box_resolves = refl
