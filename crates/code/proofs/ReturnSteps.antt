-- What the machine does at a return, by where the result goes.
use Rattle.std.proofs.Common.{◌≡◌, ℕ, ◌<◌, ◌≤◌, List, ◌∷◌, length, Option, Some, None, true, false, refl, arith}
use Rattle.std.specs.Prelude.{nat_lt, nat_le, nat_eq, ◌||◌}
use Rattle.std.proofs.lemmas.Bool.{lt-ltb, le-leb, ne_eqb}
use Rattle.zcore.specs.State.{Frame, done, bound}
use Rattle.zcore.specs.State as state
use Rattle.zcore.specs.Parts.{push, goes_on, test_return, leave, give_back, store_result, write_variable}
use Rattle.code.proofs.Parts.{Around, machine as at_words}
use Rattle.code.proofs.Steps.{point}
use Rattle.code.proofs.Entering.{in_frames}

abbrev pub inner : ℕ → ℕ → Option ℕ → List Frame → Around
inner count back result others = record { count = count; back = back; result = result; others = others }

-- What a return does, by where its result goes
module _ (m l s t : List ℕ) (fuel v count back : ℕ) (g : Frame) (fs : List Frame) (above : 64 ≤ back)
    (within : back < length m) where
  pub back_none : give_back fuel v (at_words (inner count back None (g ∷ fs)) m l s t)
      ≡ done (point back fuel) (in_frames m (g ∷ fs) t)
  unfolding give_back test_return leave store_result
  back_none =
      let a : nat_le 64 back ≡ true = le-leb _ _ above in
      let b : nat_lt back (length m) ≡ true = lt-ltb _ _ within in
      rw a (rw b refl)

  pub back_top : state.words (g ∷ fs) < 65536
      → give_back fuel v (at_words (inner count back (Some 0) (g ∷ fs)) m l s t)
      ≡ bound (push v (in_frames m (g ∷ fs) t)) (λ _ u. goes_on back fuel u)
  unfolding give_back test_return leave store_result write_variable
  back_top room =
      let a : nat_le 64 back ≡ true = le-leb _ _ above in
      let b : nat_lt back (length m) ≡ true = lt-ltb _ _ within in
      let d : nat_lt (state.words (g ∷ fs)) 65536 ≡ true = lt-ltb _ _ room in
      rw d (rw a (rw b refl))

  pub back_into : (n : ℕ) → 0 < n → (nat_le n (length g.locals) || nat_le 16 n) ≡ true
      → give_back fuel v (at_words (inner count back (Some n) (g ∷ fs)) m l s t)
      ≡ bound (write_variable n v (in_frames m (g ∷ fs) t)) (λ _ u. goes_on back fuel u)
  unfolding give_back test_return leave store_result
  back_into n named can =
      let a : nat_le 64 back ≡ true = le-leb _ _ above in
      let b : nat_lt back (length m) ≡ true = lt-ltb _ _ within in
      let d : nat_eq n 0 ≡ false = ne_eqb _ _ (λ h. omega (arith, h, named)) in
      rw d (rw can (rw a (rw b refl)))
