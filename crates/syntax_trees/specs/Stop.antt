-- Words of contracts and proofs: why reading a list of tokens gives nothing, and where it stops.
use Rattle.std.specs.Prelude.{◌≡◌, ◌≤◌, ℕ, Result, Err}
use Rattle.syntax_trees.specs.declared.error.Fault.{Fault}
use Rattle.syntax_trees.specs.declared.error.Fault.TheVariants.{Grammar, Deep}

pub data Stop : Type 0 where
  -- no derivation goes on with the token from which on so many are left
  unfit : ℕ → Stop
  -- the token from which on so many are left stands deeper than the nestings that are left
  deep : ℕ → Stop

-- the fault of the code, with so many tokens left
abbrev pub stop_of : Fault → ℕ → Stop
stop_of Grammar left = unfit left
stop_of Deep left = deep left

-- reading stops where a token stands too deep: from there on that many tokens are left, or more
pub record TooDeep {A : Type 0} (least : ℕ) (read : Result A Stop) : Type 0 where
  pub left : ℕ
  pub stops : read ≡ Err (deep left)
  pub enough : least ≤ left
