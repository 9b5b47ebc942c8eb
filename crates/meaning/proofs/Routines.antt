-- The routine of a number.
use Rattle.std.proofs.Common.{◌≡◌, ◌<◌, ℕ, zero, suc, List, [], ◌∷◌, length, slice_index_or, ap, arith}
use Rattle.std.specs.Prelude.{map}
use Rattle.meaning.specs.Views.{routine_of}
use Rattle.meaning.specs.declared.checked.CheckedRoutine.{CheckedRoutine}
use Rattle.meaning.specs.Meaning.{routine_at}

pub routine_found : (rs : List CheckedRoutine) (r : ℕ) (x : CheckedRoutine) → r < length rs
    → x ≡ slice_index_or rs r x → routine_of x ≡ routine_at (map routine_of rs) r
routine_found [] r x h e = absurd (omega arith)
routine_found (y ∷ rs) zero x h e = ap routine_of e
routine_found (y ∷ rs) (suc r) x h e = routine_found rs r x (omega arith) e
