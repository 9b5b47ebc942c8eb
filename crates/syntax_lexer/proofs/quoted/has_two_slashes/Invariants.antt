use Rattle.std.proofs.Common.{◌≡◌, ◌<◌, ◌+◌, ℕ}
use Rattle.std.specs.Prelude.{slice_index}
use Rattle.syntax_lexer.proofs.quoted.has_two_slashes.Given as goal

abbrev pub invariant-loop-at : goal.invariant-loop-at
invariant-loop-at l = (i : ℕ) → i + 1 < l.at → slice_index l.bytes i ≡ 47 → slice_index l.bytes (i + 1) ≡ 47 → ⊥
