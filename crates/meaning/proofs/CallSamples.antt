-- Resolved programs with calls and arrays, and what they mean, computed.
use Rattle.std.proofs.Common.{◌≡◌, ℕ, List, [], ◌∷◌, ◌++◌, refl}
use Rattle.std.specs.Prelude.{codes, replicate}
use Rattle.zcore.specs.Arithmetic.{signed_text, decimal, quotient, remainder}
use Rattle.zcore.specs.declared.place.Place.TheVariants as places
use Rattle.zcore.specs.declared.place.Limit.{Limit}
use Rattle.zcore.specs.declared.place.Limit.TheVariants as limits
use Rattle.syntax_trees.specs.declared.tree.Binary.TheVariants as op
use Rattle.syntax_trees.specs.declared.tree.Width.TheVariants as widths
use Rattle.meaning.specs.declared.resolved.Variable.TheVariants as variables
use Rattle.meaning.specs.Resolved.{Action, Printed, ProgramOf, number, read, call, binary, assign, entry, assign_entry}
use Rattle.meaning.specs.Resolved.{none, more, text, number_of, print, return_value, effect}
use Rattle.meaning.specs.Views.{actions_of}
use Rattle.meaning.specs.World.{Outcome}
use Rattle.meaning.specs.Meaning.{meaning}

-- Global g; Array b -> 4; [ F x y; S ]; [ Main; T ];
abbrev with_routine : List Action → List Action → ProgramOf
with_routine xs ys = record {
  globals = 0 ∷ [];
  arrays = replicate 4 0 ∷ [];
  defaults = [];
  objects = [];
  keys = [];
  routines = record { locals = 2; body = actions_of xs } ∷ record { locals = 0; body = actions_of ys } ∷ [];
  main = 1;
  abbreviations = [];
}

-- the transcript of one turn
abbrev says : List ℕ → Outcome
says words = record { texts = words ∷ []; place = places.Quit }

-- that of one that a limit stops
abbrev stopped : List ℕ → Limit → Outcome
stopped words limit = record { texts = (10 ∷ words ++ 10 ∷ []) ∷ []; place = places.Limit limit }

abbrev space : Printed
space = text (codes " ")

-- [ F; F(); ]; [ Main; F(); ];
abbrev deep : ProgramOf
deep = with_routine (effect (call 0 none) ∷ []) (effect (call 0 none) ∷ [])

deep_means : meaning deep 1000000 [] ≡ stopped (codes "[Limit: calls too deep]") limits.Calls
unfolding meaning
deep_means = refl

deep_in_short : meaning deep 10 [] ≡ stopped (codes "[Limit: turn too long]") limits.Fuel
unfolding meaning
deep_in_short = refl

-- missing arguments are 0: [ F x y; return x - y; ]; [ Main; print F(5, 2), " ", F(1), "^"; ];
abbrev missing : ProgramOf
missing = with_routine
    (return_value (binary op.Subtract (read (variables.Local 0)) (read (variables.Local 1))) ∷ [])
    (print
    (number_of (call 0 (more (number 5) (more (number 2) none))) ∷ space ∷ number_of (call 0 (more (number 1) none))
    ∷ text (codes "^") ∷ []) ∷ [])

missing_means : meaning missing 3 [] ≡ says (codes "3 1" ++ 10 ∷ [])
unfolding meaning signed_text decimal quotient remainder
missing_means = refl

-- from left to right: [ F; g = g + 1; return g; ]; [ Main; print F() - F() * 10, "^"; ];
abbrev in_order : ProgramOf
in_order = with_routine
    (effect (assign (variables.Global 0) (binary op.Add (read (variables.Global 0)) (number 1)))
    ∷ return_value (read (variables.Global 0)) ∷ [])
    (print
    (number_of (binary op.Subtract (call 0 none) (binary op.Multiply (call 0 none) (number 10))) ∷ text (codes "^")
    ∷ []) ∷ [])

in_order_means : meaning in_order 3 [] ≡ says (codes "-19" ++ 10 ∷ [])
unfolding meaning signed_text decimal quotient remainder
in_order_means = refl

-- an assignment's value is the value assigned, and a byte keeps its low eight bits:
-- [ Main; print b->1 = 511, " ", b-->0, " ", b-->2; ];
abbrev written : ProgramOf
written = with_routine []
    (print
    (number_of (assign_entry widths.Byte 0 (number 1) (number 511)) ∷ space
    ∷ number_of (entry widths.Word 0 (number 0)) ∷ space ∷ number_of (entry widths.Word 0 (number 2)) ∷ []) ∷ [])

written_means : meaning written 1 []
    ≡ says (codes "511 255 " ++ 10 ∷ codes "[Fault: index out of range]" ++ 10 ∷ [])
unfolding meaning signed_text decimal quotient remainder
written_means = refl
