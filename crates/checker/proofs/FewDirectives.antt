-- How many locals a routine has, and how many directives of each kind there are, where no rule is broken.
use Rattle.std.proofs.Common.{◌≡◌, ◌+◌, ◌≤◌, nat_le, List, [], ◌∷◌, ◌++◌, length, cond, length-append, arith}
use Rattle.syntax_trees.specs.Tree.{NameTree}
use Rattle.syntax_directives.specs.Tree.{DirectiveTree, global, constant, array, attribute, property, object, routine}
use Rattle.checker_values.specs.Breaches.{at}
use Rattle.checker_values.specs.declared.counts.Counts.{Counts}
use Rattle.checker_values.specs.Names.{Table, counts_after, with_directive, File, has_name, twice}
use Rattle.checker_values.proofs.Kept.{left_empty, right_empty, kept, below}
use Rattle.checker_values.specs.Literals.{initial_breaches}
use Rattle.checker_statements.specs.Objects.{object_breaches, objects_in}
use Rattle.checker.specs.Programs.{limit_breaches, defaults_in, locals_breaches, directive_breaches}
use Rattle.checker.specs.Programs.{directives_breaches, globals_of}
use Rattle.checker.proofs.Bindings.{attributes_in}

-- the directives after one break no rule
pub after_kept : (file : File) (t : Table) (counts : Counts) (d : DirectiveTree) (ds : List DirectiveTree)
    → directives_breaches file.table t counts (d ∷ ds) ≡ []
    → directives_breaches file.table (with_directive file.table t counts d) (counts_after counts d) ds ≡ []
after_kept file t counts d ds h = right_empty (directive_breaches file.table t counts d)
    (directives_breaches file.table (with_directive file.table t counts d) (counts_after counts d) ds) h

pub locals_few : (before ls : List NameTree) → length before ≤ 15 → locals_breaches before ls ≡ []
    → length before + length ls ≤ 15
locals_few before [] few h = omega (arith, few)
locals_few before (l ∷ ls) few h =
    let same = cond (has_name before l) (at l.position 22) [] in
    let many = cond (nat_le 15 (length before)) (at l.position 24) [] in
    let rest = right_empty same (many ++ locals_breaches (before ++ l ∷ []) ls) h in
    let room = below 15 (length before)
    (kept (nat_le 15 (length before)) l.position 24 (left_empty many (locals_breaches (before ++ l ∷ []) ls) rest)) in
    let longer = length-append before (l ∷ []) in
    let all = locals_few (before ++ l ∷ []) ls (omega (arith, room, longer))
    (right_empty many (locals_breaches (before ++ l ∷ []) ls) rest) in
    omega (arith, all, longer)

pub globals_few : (file : File) (t : Table) (counts : Counts) (ds : List DirectiveTree) → counts.globals ≤ 232
    → directives_breaches file.table t counts ds ≡ [] → counts.globals + length (globals_of file ds) ≤ 232
globals_few file t counts [] few h = omega (arith, few)
globals_few file t counts (global n v ∷ ds) few h =
    let d = global n v in
    let own = directive_breaches file.table t counts d in
    let rest = directives_breaches file.table (with_directive file.table t counts d) (counts_after counts d) ds in
    let many = limit_breaches 232 counts.globals n in
    let here = left_empty many (initial_breaches file.table v)
    (right_empty (twice t n) (many ++ initial_breaches file.table v) (left_empty own rest h)) in
    let room = below 232 counts.globals (kept (nat_le 232 counts.globals) (n).position 24 here) in
    let all = globals_few file (with_directive file.table t counts d) (counts_after counts d) ds (omega (arith, room))
    (right_empty own rest h) in
    omega (arith, all)
globals_few file t counts (constant n v ∷ ds) few h =
    let d = constant n v in
    globals_few file (with_directive file.table t counts d) (counts_after counts d) ds few
    (after_kept file t counts d ds h)
globals_few file t counts (array a ∷ ds) few h =
    let d = array a in
    globals_few file (with_directive file.table t counts d) (counts_after counts d) ds few
    (after_kept file t counts d ds h)
globals_few file t counts (attribute n ∷ ds) few h =
    let d = attribute n in
    globals_few file (with_directive file.table t counts d) (counts_after counts d) ds few
    (after_kept file t counts d ds h)
globals_few file t counts (property n v ∷ ds) few h =
    let d = property n v in
    globals_few file (with_directive file.table t counts d) (counts_after counts d) ds few
    (after_kept file t counts d ds h)
globals_few file t counts (object o ∷ ds) few h =
    let d = object o in
    globals_few file (with_directive file.table t counts d) (counts_after counts d) ds few
    (after_kept file t counts d ds h)
globals_few file t counts (routine r ∷ ds) few h =
    let d = routine r in
    globals_few file (with_directive file.table t counts d) (counts_after counts d) ds few
    (after_kept file t counts d ds h)

pub attributes_few : (file : File) (t : Table) (counts : Counts) (ds : List DirectiveTree) → counts.attributes ≤ 48
    → directives_breaches file.table t counts ds ≡ [] → counts.attributes + attributes_in ds ≤ 48
attributes_few file t counts [] few h = omega (arith, few)
attributes_few file t counts (global n v ∷ ds) few h =
    let d = global n v in
    attributes_few file (with_directive file.table t counts d) (counts_after counts d) ds few
    (after_kept file t counts d ds h)
attributes_few file t counts (constant n v ∷ ds) few h =
    let d = constant n v in
    attributes_few file (with_directive file.table t counts d) (counts_after counts d) ds few
    (after_kept file t counts d ds h)
attributes_few file t counts (array a ∷ ds) few h =
    let d = array a in
    attributes_few file (with_directive file.table t counts d) (counts_after counts d) ds few
    (after_kept file t counts d ds h)
attributes_few file t counts (attribute n ∷ ds) few h =
    let d = attribute n in
    let own = directive_breaches file.table t counts d in
    let rest = directives_breaches file.table (with_directive file.table t counts d) (counts_after counts d) ds in
    let many = limit_breaches 48 counts.attributes n in
    let here = right_empty (twice t n) many (left_empty own rest h) in
    let room = below 48 counts.attributes (kept (nat_le 48 counts.attributes) (n).position 24 here) in
    let all = attributes_few file (with_directive file.table t counts d) (counts_after counts d) ds
    (omega (arith, room))
    (right_empty own rest h) in
    omega (arith, all)
attributes_few file t counts (property n v ∷ ds) few h =
    let d = property n v in
    attributes_few file (with_directive file.table t counts d) (counts_after counts d) ds few
    (after_kept file t counts d ds h)
attributes_few file t counts (object o ∷ ds) few h =
    let d = object o in
    attributes_few file (with_directive file.table t counts d) (counts_after counts d) ds few
    (after_kept file t counts d ds h)
attributes_few file t counts (routine r ∷ ds) few h =
    let d = routine r in
    attributes_few file (with_directive file.table t counts d) (counts_after counts d) ds few
    (after_kept file t counts d ds h)

pub properties_few : (file : File) (t : Table) (counts : Counts) (ds : List DirectiveTree) → counts.properties ≤ 62
    → directives_breaches file.table t counts ds ≡ [] → counts.properties + length (defaults_in file ds) ≤ 62
properties_few file t counts [] few h = omega (arith, few)
properties_few file t counts (global n v ∷ ds) few h =
    let d = global n v in
    properties_few file (with_directive file.table t counts d) (counts_after counts d) ds few
    (after_kept file t counts d ds h)
properties_few file t counts (constant n v ∷ ds) few h =
    let d = constant n v in
    properties_few file (with_directive file.table t counts d) (counts_after counts d) ds few
    (after_kept file t counts d ds h)
properties_few file t counts (array a ∷ ds) few h =
    let d = array a in
    properties_few file (with_directive file.table t counts d) (counts_after counts d) ds few
    (after_kept file t counts d ds h)
properties_few file t counts (attribute n ∷ ds) few h =
    let d = attribute n in
    properties_few file (with_directive file.table t counts d) (counts_after counts d) ds few
    (after_kept file t counts d ds h)
properties_few file t counts (property n v ∷ ds) few h =
    let d = property n v in
    let own = directive_breaches file.table t counts d in
    let rest = directives_breaches file.table (with_directive file.table t counts d) (counts_after counts d) ds in
    let many = limit_breaches 62 counts.properties n in
    let here = left_empty many (initial_breaches file.table v)
    (right_empty (twice t n) (many ++ initial_breaches file.table v) (left_empty own rest h)) in
    let room = below 62 counts.properties (kept (nat_le 62 counts.properties) (n).position 24 here) in
    let all = properties_few file (with_directive file.table t counts d) (counts_after counts d) ds
    (omega (arith, room))
    (right_empty own rest h) in
    omega (arith, all)
properties_few file t counts (object o ∷ ds) few h =
    let d = object o in
    properties_few file (with_directive file.table t counts d) (counts_after counts d) ds few
    (after_kept file t counts d ds h)
properties_few file t counts (routine r ∷ ds) few h =
    let d = routine r in
    properties_few file (with_directive file.table t counts d) (counts_after counts d) ds few
    (after_kept file t counts d ds h)

pub objects_few : (file : File) (t : Table) (counts : Counts) (ds : List DirectiveTree) → counts.objects ≤ 2000
    → directives_breaches file.table t counts ds ≡ [] → counts.objects + length (objects_in file ds) ≤ 2000
objects_few file t counts [] few h = omega (arith, few)
objects_few file t counts (global n v ∷ ds) few h =
    let d = global n v in
    objects_few file (with_directive file.table t counts d) (counts_after counts d) ds few
    (after_kept file t counts d ds h)
objects_few file t counts (constant n v ∷ ds) few h =
    let d = constant n v in
    objects_few file (with_directive file.table t counts d) (counts_after counts d) ds few
    (after_kept file t counts d ds h)
objects_few file t counts (array a ∷ ds) few h =
    let d = array a in
    objects_few file (with_directive file.table t counts d) (counts_after counts d) ds few
    (after_kept file t counts d ds h)
objects_few file t counts (attribute n ∷ ds) few h =
    let d = attribute n in
    objects_few file (with_directive file.table t counts d) (counts_after counts d) ds few
    (after_kept file t counts d ds h)
objects_few file t counts (property n v ∷ ds) few h =
    let d = property n v in
    objects_few file (with_directive file.table t counts d) (counts_after counts d) ds few
    (after_kept file t counts d ds h)
objects_few file t counts (object o ∷ ds) few h =
    let d = object o in
    let own = directive_breaches file.table t counts d in
    let rest = directives_breaches file.table (with_directive file.table t counts d) (counts_after counts d) ds in
    let many = limit_breaches 2000 counts.objects o.name in
    let here = left_empty many (object_breaches file.table o)
    (right_empty (twice t o.name) (many ++ object_breaches file.table o) (left_empty own rest h)) in
    let room = below 2000 counts.objects (kept (nat_le 2000 counts.objects) (o.name).position 24 here) in
    let all = objects_few file (with_directive file.table t counts d) (counts_after counts d) ds (omega (arith, room))
    (right_empty own rest h) in
    omega (arith, all)
objects_few file t counts (routine r ∷ ds) few h =
    let d = routine r in
    objects_few file (with_directive file.table t counts d) (counts_after counts d) ds few
    (after_kept file t counts d ds h)
