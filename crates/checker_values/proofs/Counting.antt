-- What directives define, counted.
use Rattle.std.proofs.Common.{ℕ, ◌+◌, ◌≤◌, ◌<◌, arith}
use Rattle.syntax_directives.specs.Tree.{DirectiveTree, global, constant, array, attribute, property, object, routine}
use Rattle.checker_values.specs.declared.counts.Counts.{Counts}
use Rattle.checker_values.specs.Names.{AreFewer, counts_after}

-- one more of a kind, or none
up : (a i : ℕ) → a < i + 1 → a + 1 < i + 1 + 1
up a i h = omega (arith, h)

on : (a i : ℕ) → a < i + 1 → a < i + 1 + 1
on a i h = omega (arith, h)

-- one directive defines one name
pub counts_fit : (d : DirectiveTree) (counts : Counts) (i : ℕ) → AreFewer (i + 1) counts
    → AreFewer (i + 1 + 1) (counts_after counts d)
counts_fit (global n v) counts i h = record {
  globals = up counts.globals i h.globals;
  arrays = on counts.arrays i h.arrays;
  attributes = on counts.attributes i h.attributes;
  properties = on counts.properties i h.properties;
  objects = on counts.objects i h.objects;
  routines = on counts.routines i h.routines;
}
counts_fit (constant n v) counts i h = record {
  globals = on counts.globals i h.globals;
  arrays = on counts.arrays i h.arrays;
  attributes = on counts.attributes i h.attributes;
  properties = on counts.properties i h.properties;
  objects = on counts.objects i h.objects;
  routines = on counts.routines i h.routines;
}
counts_fit (array x) counts i h = record {
  globals = on counts.globals i h.globals;
  arrays = up counts.arrays i h.arrays;
  attributes = on counts.attributes i h.attributes;
  properties = on counts.properties i h.properties;
  objects = on counts.objects i h.objects;
  routines = on counts.routines i h.routines;
}
counts_fit (attribute n) counts i h = record {
  globals = on counts.globals i h.globals;
  arrays = on counts.arrays i h.arrays;
  attributes = up counts.attributes i h.attributes;
  properties = on counts.properties i h.properties;
  objects = on counts.objects i h.objects;
  routines = on counts.routines i h.routines;
}
counts_fit (property n v) counts i h = record {
  globals = on counts.globals i h.globals;
  arrays = on counts.arrays i h.arrays;
  attributes = on counts.attributes i h.attributes;
  properties = up counts.properties i h.properties;
  objects = on counts.objects i h.objects;
  routines = on counts.routines i h.routines;
}
counts_fit (object x) counts i h = record {
  globals = on counts.globals i h.globals;
  arrays = on counts.arrays i h.arrays;
  attributes = on counts.attributes i h.attributes;
  properties = on counts.properties i h.properties;
  objects = up counts.objects i h.objects;
  routines = on counts.routines i h.routines;
}
counts_fit (routine x) counts i h = record {
  globals = on counts.globals i h.globals;
  arrays = on counts.arrays i h.arrays;
  attributes = on counts.attributes i h.attributes;
  properties = on counts.properties i h.properties;
  objects = on counts.objects i h.objects;
  routines = up counts.routines i h.routines;
}

rise : (a m n : ℕ) → m ≤ n → a < m → a < n
rise a m n le h = omega (arith, le, h)

pub fewer : (m n : ℕ) (counts : Counts) → m ≤ n → AreFewer m counts → AreFewer n counts
fewer m n counts le h = record {
  globals = rise counts.globals m n le h.globals;
  arrays = rise counts.arrays m n le h.arrays;
  attributes = rise counts.attributes m n le h.attributes;
  properties = rise counts.properties m n le h.properties;
  objects = rise counts.objects m n le h.objects;
  routines = rise counts.routines m n le h.routines;
}
