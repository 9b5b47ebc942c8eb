-- Each value needs a word of the stack at least.
use Rattle.std.proofs.Common.{ℕ, ◌+◌, ◌≤◌, List, [], ◌∷◌, arith}
use Rattle.meaning.specs.Limits.{operands}
use Rattle.meaning.specs.Resolved.{Value}
use Rattle.meaning.specs.Resolved as source
use Rattle.meaning.specs.Accepted.{need_of, needs_of}

-- each needs one word at least
pub some_needed : (before : ℕ) (ns : List ℕ) → 1 ≤ operands before ns
some_needed before [] = omega arith
some_needed before (n ∷ ns) = let rest = some_needed (before + 1) ns in omega (arith, rest)

pub some_needed_of : (v : Value) → 1 ≤ need_of v
some_needed_of (source.number n) = omega arith
some_needed_of (source.read x) = omega arith
some_needed_of (source.call r vs) = some_needed 0 (needs_of vs)
some_needed_of (source.prefixed op v) = some_needed 0 (need_of v ∷ [])
some_needed_of (source.step_before op x) = omega arith
some_needed_of (source.step_after x op) = omega arith
some_needed_of (source.binary op a b) = some_needed 0 (need_of a ∷ need_of b ∷ [])
some_needed_of (source.compare op a b) = some_needed 0 (need_of a ∷ need_of b ∷ [])
some_needed_of (source.equal op a bs) = some_needed 0 (need_of a ∷ needs_of bs)
some_needed_of (source.assign x v) = some_needed 0 (need_of v ∷ [])
some_needed_of (source.entry width a i) = some_needed 0 (need_of i ∷ [])
some_needed_of (source.assign_entry width a i v) = some_needed 0 (need_of i ∷ need_of v ∷ [])
some_needed_of (source.relative r v) = some_needed 0 (need_of v ∷ [])
some_needed_of (source.contained op a b) = some_needed 0 (need_of a ∷ need_of b ∷ [])
some_needed_of (source.has positive v a) = some_needed 0 (need_of v ∷ [])
some_needed_of (source.provides v p) = some_needed 0 (need_of v ∷ [])
some_needed_of (source.property v p) = some_needed 0 (need_of v ∷ [])
some_needed_of (source.property_size v p) = some_needed 0 (need_of v ∷ [])
some_needed_of (source.property_word v p i) = some_needed 0 (need_of v ∷ need_of i ∷ [])
some_needed_of (source.assign_property v p w) = some_needed 0 (need_of v ∷ need_of w ∷ [])
some_needed_of (source.assign_property_word v p i w) = some_needed 0 (need_of v ∷ need_of i ∷ need_of w ∷ [])
