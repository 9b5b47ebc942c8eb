-- What the code holds of steps.
use Rattle.std.specs.Prelude.{ℕ}
use Rattle.derive_tokens.specs.Pieces.{derived}
use Rattle.derive_operands.specs.declared.targets.Chain.{Chain}
use Rattle.derive_operands.specs.declared.targets.Chain.TheVariants as chains
use Rattle.derive_operands.specs.declared.targets.Found.{Found as FoundHeld}
use Rattle.derive_operands.specs.declared.targets.Found.TheVariants as founds
use Rattle.derive_operands.specs.declared.steps.Stepping.{Stepping as SteppingHeld}
use Rattle.derive_operands.specs.Steps.{Found, nothing, postfix, prefix, Stepping}
use Rattle.derive_expressions.specs.Views.{calling_of}

-- how many brackets are open
abbrev pub depth_in : Chain → ℕ
depth_in (chains.InBrackets depth) = depth
depth_in _ = 0

abbrev pub found_held : FoundHeld → Found
found_held founds.Nothing = nothing
found_held (founds.Postfix count step) = postfix count (derived step)
found_held (founds.Prefix count) = prefix count

abbrev pub stepping_of : SteppingHeld → Stepping
stepping_of q = record {
  calling = calling_of q.calling;
  loop = q.is_loop;
  middle = q.is_middle;
  fresh = q.is_fresh;
  passed = q.passed;
}
