-- Resolved programs with loops and `switch`, and what they mean, computed.
use Rattle.std.proofs.Common.{◌≡◌, ℕ, List, [], ◌∷◌, ◌++◌, Some, None, refl}
use Rattle.std.specs.Prelude.{codes}
use Rattle.zcore.specs.Arithmetic.{signed_text, decimal, quotient, remainder}
use Rattle.zcore.specs.declared.place.Place.TheVariants as places
use Rattle.zcore.specs.declared.place.Limit.TheVariants as limits
use Rattle.syntax_trees.specs.declared.tree.Comparison.TheVariants as comparison
use Rattle.syntax_trees.specs.declared.tree.Equality.TheVariants as equality
use Rattle.syntax_trees.specs.declared.tree.Step.TheVariants as steps
use Rattle.meaning.specs.declared.resolved.Variable.TheVariants as variables
use Rattle.meaning.specs.Resolved.{Value, Action, ProgramOf, number, read, step_after, compare, equal, none, more, text}
use Rattle.meaning.specs.Resolved.{number_of, one, between, block, print, while_do, do_until, for_loop, switch_on}
use Rattle.meaning.specs.Resolved.{break_out, continue_on, effect, no_case, default_case, case}
use Rattle.meaning.specs.Views.{actions_of}
use Rattle.meaning.specs.World.{Outcome}
use Rattle.meaning.specs.Meaning.{meaning}

-- Global i; [ Main; S ];
abbrev with_i : List Action → ProgramOf
with_i xs = record {
  globals = 0 ∷ [];
  arrays = [];
  defaults = [];
  objects = [];
  keys = [];
  routines = record { locals = 0; body = actions_of xs } ∷ [];
  main = 0;
  abbreviations = [];
}

-- the transcript of one turn
abbrev says : List ℕ → Outcome
says words = record { texts = words ∷ []; place = places.Quit }

abbrev i : Value
i = read (variables.Global 0)

abbrev step : Value
step = step_after (variables.Global 0) steps.Increment

abbrev below : ℕ → Value
below n = compare comparison.Less i (number n)

abbrev print_i : Action
print_i = print (number_of i ∷ [])

abbrev print_text : List ℕ → Action
print_text words = print (text words ∷ [])

-- while (i < 2) { print i; i++; }
abbrev counts : ProgramOf
counts = with_i (while_do (below 2) (block (actions_of (print_i ∷ effect step ∷ []))) ∷ [])

-- going back is charged before the test: Main's call, and two units for going back
counts_mean : meaning counts 3 [] ≡ says (codes "01")
unfolding meaning signed_text decimal quotient remainder
counts_mean = refl

counts_in_short : meaning counts 2 [] ≡ record {
  texts = (codes "01" ++ 10 ∷ codes "[Limit: turn too long]" ++ 10 ∷ []) ∷ [];
  place = places.Limit limits.Fuel;
}
unfolding meaning signed_text decimal quotient remainder
counts_in_short = refl

-- in a `do` a `continue` leads to the test: do { i++; continue; } until (i == 2); print i;
abbrev tests : ProgramOf
tests = with_i
    (do_until (block (actions_of (effect step ∷ continue_on ∷ []))) (equal equality.Equal i (more (number 2) none))
    ∷ print_i ∷ [])

tests_mean : meaning tests 2 [] ≡ says (codes "2")
unfolding meaning signed_text decimal quotient remainder
tests_mean = refl

-- the first case that holds runs alone, both ends of a range belong to it, and are read signed:
-- switch (-1) { 1: print "a"; -2 to -1: print "b"; } switch (2) { -1 to 2: print "c"; default: print "d"; }
abbrev chooses : ProgramOf
chooses = with_i
    (switch_on (number 65535)
    (case (one 1 ∷ []) (actions_of (print_text (codes "a") ∷ []))
    (case (between 65534 65535 ∷ []) (actions_of (print_text (codes "b") ∷ [])) no_case))
    ∷ switch_on (number 2)
    (case (between 65535 2 ∷ []) (actions_of (print_text (codes "c") ∷ []))
    (default_case (actions_of (print_text (codes "d") ∷ []))))
    ∷ [])

chooses_means : meaning chooses 1 [] ≡ says (codes "bc")
unfolding meaning signed_text decimal quotient remainder
chooses_means = refl

-- `break` in a case ends the `switch` and no more, `continue` in one is the loop's:
-- for (: i < 3 : i++) { switch (i) { 0: break; 1: continue; } print i; }
abbrev nested : ProgramOf
nested = with_i
    (for_loop None (Some (below 3)) (Some step)
    (block
    (actions_of
    (switch_on i
    (case (one 0 ∷ []) (actions_of (break_out ∷ []))
    (case (one 1 ∷ []) (actions_of (continue_on ∷ [])) no_case))
    ∷ print_i ∷ [])))
    ∷ [])

nested_means : meaning nested 4 [] ≡ says (codes "02")
unfolding meaning signed_text decimal quotient remainder
nested_means = refl
