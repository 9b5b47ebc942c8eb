-- Programs with loops and `switch`: what they resolve to, and the rules that they break, computed.
use Rattle.std.proofs.Common.{◌≡◌, ℕ, List, [], ◌∷◌, ◌++◌, Some, None, refl}
use Rattle.std.specs.Prelude.{codes}
use Rattle.syntax_trees.specs.Tree.{constant, named, step_after, compare, assign}
use Rattle.syntax_trees.specs.declared.tree.Comparison.TheVariants as comparison
use Rattle.syntax_trees.specs.declared.tree.Step.TheVariants as steps
use Rattle.syntax_statements.specs.PartTree as parts
use Rattle.syntax_statements.specs.PartTree.{RangeTree}
use Rattle.syntax_statements.specs.Tree as s
use Rattle.syntax_directives.specs.Tree as d
use Rattle.syntax.specs.Tree.{ProgramTree}
use Rattle.meaning.specs.declared.resolved.Variable.TheVariants as variables
use Rattle.meaning.specs.Resolved as r
use Rattle.meaning.specs.Views.{actions_of}
use Rattle.checker_values.specs.Breaches.{at}
use Rattle.checker_values.specs.Names.{table_of, key_of, look_up}
use Rattle.checker_statements.specs.Objects.{all_defaults}
use Rattle.checker.specs.Programs.{program_breaches, resolve_with, file_of, resolve_program}
use Rattle.checker.proofs.Samples.{p, the, routine, program}

abbrev one_value : ℕ → RangeTree
one_value n = record { low = parts.number_value n; high = None }

abbrev from_to : ℕ → ℕ → RangeTree
from_to a b = record { low = parts.number_value a; high = Some (parts.number_value b) }

-- Global g; Global i;
-- [ Main; for (i = 0 : i < 5 : i++) continue; do break; until (i);
--   switch (i) { 1, 2 to 4: break; default: new_line; } ];
abbrev loops : ProgramTree
loops = program
    (d.global (the 0 (codes "g")) None ∷ d.global (the 1 (codes "i")) None
    ∷ routine (codes "Main") []
    (s.for_loop (p 2) (Some (assign (named (the 3 (codes "i"))) (p 4) (constant 0)))
    (Some (compare comparison.Less (named (the 5 (codes "i"))) (constant 5)))
    (Some (step_after (named (the 6 (codes "i"))) steps.Increment (p 7))) (s.continue_at (p 8))
    ∷ s.do_until (p 9) (s.break_at (p 10)) (named (the 11 (codes "i")))
    ∷ s.switch_on (p 12) (named (the 13 (codes "i")))
    (s.case (one_value 1 ∷ from_to 2 4 ∷ []) (s.next (s.break_at (p 14)) s.stop)
    (s.default_case (s.next s.new_line s.stop)))
    ∷ [])
    ∷ [])

loops_fine : program_breaches loops ≡ []
unfolding program_breaches table_of key_of look_up
loops_fine = refl

abbrev the_i : r.Value
the_i = r.read (variables.Global 1)

loops_resolve : resolve_program loops ≡ record {
  globals = 0 ∷ 0 ∷ [];
  arrays = [];
  defaults = all_defaults [];
  objects = [];
  keys = [];
  abbreviations = [];
  routines = record {
    locals = 0;
    body = actions_of
        (r.for_loop (Some (r.assign (variables.Global 1) (r.number 0)))
        (Some (r.compare comparison.Less the_i (r.number 5)))
        (Some (r.step_after (variables.Global 1) steps.Increment)) r.continue_on
        ∷ r.do_until r.break_out the_i
        ∷ r.switch_on the_i
        (r.case (r.one 1 ∷ r.between 2 4 ∷ []) (actions_of (r.break_out ∷ []))
        (r.default_case (actions_of (r.new_line ∷ []))))
        ∷ []);
  } ∷ [];
  main = 0;
}
unfolding resolve_program resolve_with file_of table_of key_of look_up
loops_resolve = refl

-- rules

-- [ Main; break; continue; switch (1) { 1: continue; } ]; `continue` needs a loop
stray : program_breaches
    (program
    (routine (codes "Main") []
    (s.break_at (p 1) ∷ s.continue_at (p 2)
    ∷ s.switch_on (p 3) (constant 1)
    (s.case (one_value 1 ∷ []) (s.next (s.break_at (p 4)) (s.next (s.continue_at (p 5)) s.stop)) s.no_case)
    ∷ []) ∷ []))
    ≡ at (p 1) 27 ++ at (p 2) 27 ++ at (p 5) 27
unfolding program_breaches table_of key_of look_up
stray = refl

abbrev the_range : List ℕ → RangeTree
the_range name = record { low = parts.named_value (the 4 name); high = None }

-- Constant c = 1; Global g; [ F c; switch (1) { c, g, d: } ]; [ Main; switch (1) { c: } ]; a local hides a constant
labels : program_breaches
    (program
    (d.constant (the 0 (codes "c")) (parts.number_value 1) ∷ d.global (the 1 (codes "g")) None
    ∷ routine (codes "F") (the 2 (codes "c") ∷ [])
    (s.switch_on (p 3) (constant 1)
    (s.case (the_range (codes "c") ∷ the_range (codes "g") ∷ the_range (codes "d") ∷ []) s.stop s.no_case) ∷ [])
    ∷ routine (codes "Main") []
    (s.switch_on (p 3) (constant 1) (s.case (the_range (codes "c") ∷ []) s.stop s.no_case) ∷ []) ∷ []))
    ≡ at (p 4) 23 ++ at (p 4) 23 ++ at (p 4) 20
unfolding program_breaches table_of key_of look_up
labels = refl
