-- The steps of single instructions, with words and variables as they are.
use Rattle.std.proofs.Common.{◌≡◌, ℕ, ◌+◌, ◌-◌, ◌%◌, ◌<◌, ◌≤◌, List, [], ◌∷◌, length, Some, None, Bool, true, false}
use Rattle.std.proofs.Common.{refl, ◌∙◌, subst, arith}
use Rattle.std.specs.Prelude.{nat_lt, nat_le, nat_eq, if◌then◌else◌}
use Rattle.std.specs.List.{flat_map}
use Rattle.std.proofs.lemmas.Bool.{lt-ltb, le-leb, ne_eqb}
use Rattle.zcore.specs.declared.instruction.Operand.{Operand}
use Rattle.zcore.specs.declared.instruction.Operand.TheVariants.{Large, Small}
use Rattle.zcore.specs.declared.instruction.Operation.{Operation}
use Rattle.zcore.specs.declared.instruction.Operation.TheVariants as operations
use Rattle.zcore.specs.declared.next.Next.{Next}
use Rattle.zcore.specs.Instruction.{Instruction}
use Rattle.zcore.specs.InstructionBytes.{bytes_of, IsEncodable, FitsOperand}
use Rattle.zcore.specs.State.{State, done}
use Rattle.zcore.specs.State as state
use Rattle.zcore.specs.Parts as parts
use Rattle.zcore.specs.Parts.{test_pull, operand_value, operand_values, test_target, go, branch_on}
use Rattle.zcore.specs.Execution as machine
use Rattle.zcore.specs.Execution.{load, increment, decrement, push_word, jump, perform, step}
use Rattle.code_drafts.specs.Instructions.{plain, branching, push, pull, copy}
use Rattle.code_instructions.specs.Instructions.{flag}
use Rattle.code.proofs.Behind.{Holds}
use Rattle.code.proofs.Play.{Leads, moves}
use Rattle.code.proofs.Parts.{Around, machine as at_words, pushes, pops, tops, writes_top, can_pull_top, Writes}
use Rattle.code.proofs.Parts.{ReadsVariable}
use Rattle.code.proofs.Steps.{point, one_step, first_held, others_held, step_is, fits_one, one_operand, small_value}
use Rattle.code.proofs.Steps.{large_value, reads_in_place, writes_in_place, named_variable, gives_variable}
use Rattle.code.proofs.Steps.{landing, branches}

module _ (e : Around) (fuel : ℕ) where
  -- Words that are pushed

  push_fits : (o : Operand) → FitsOperand o → IsEncodable (push o)
  push_fits o fits = record {
    least = omega arith;
    most = omega arith;
    operands_fit = fits_one o fits;
    result_fits = tt;
    branch_fits = tt;
  }

  pub push_step : (m l s t : List ℕ) (q x : ℕ) (o : Operand) → FitsOperand o
      → operand_value o (at_words e m l s t) ≡ done x (at_words e m l s t)
      → length l + length s + state.words e.others < 65536 → Holds m q (bytes_of (push o))
      → step (point q fuel) (at_words e m l s t) ≡ done (point (q + length (bytes_of (push o))) fuel)
      (at_words e m l (x ∷ s) t)
  unfolding perform push_word
  push_step m l s t q x o fits v room h =
      step_is (point q fuel) (at_words e m l s t) (at_words e m l s t) (push o) (x ∷ []) (push_fits o fits) h
      (one_operand (at_words e m l s t) (at_words e m l s t) o x v)
      ∙ rw (pushes e m l t s x room) refl

  -- Words that are pulled

  pull_fits : (v : ℕ) → v < 256 → IsEncodable (pull v)
  pull_fits v small = record {
    least = omega arith;
    most = omega arith;
    operands_fit = fits_one (Small v) small;
    result_fits = tt;
    branch_fits = tt;
  }

  pub pull_step : (m l s t m1 l1 : List ℕ) (q v x : ℕ) → Writes e m l v x m1 l1 → Holds m q (bytes_of (pull v))
      → step (point q fuel) (at_words e m l (x ∷ s) t) ≡ done (point (q + length (bytes_of (pull v))) fuel)
      (at_words e m1 l1 s t)
  unfolding perform machine.pull test_pull
  pull_step m l s t m1 l1 q v x w h =
      let st = at_words e m l (x ∷ s) t in
      let a : nat_eq v 0 ≡ false = ne_eqb _ _ (λ h. omega (arith, h, w.named)) in
      step_is (point q fuel) st st (pull v) (v ∷ []) (pull_fits v w.small) h
      (one_operand st st (Small v) v (small_value st v))
      ∙ rw (
        named_variable st v w.small,
        tops e m l t s x,
        a,
        w.can,
        pops e m l t s x,
        writes_in_place e m l s t m1 l1 v x w,
      ) refl

  -- the top goes below
  pub pull_below_step : (m l s t : List ℕ) (q x y : ℕ) → Holds m q (bytes_of (pull 0))
      → step (point q fuel) (at_words e m l (y ∷ x ∷ s) t) ≡ done (point (q + length (bytes_of (pull 0))) fuel)
      (at_words e m l (y ∷ s) t)
  unfolding perform machine.pull
  pull_below_step m l s t q x y h =
      let st = at_words e m l (y ∷ x ∷ s) t in
      step_is (point q fuel) st st (pull 0) (0 ∷ []) (pull_fits 0 (omega arith)) h
      (one_operand st st (Small 0) 0 (small_value st 0))
      ∙ rw (
        named_variable st 0 (omega arith),
        tops e m l t (x ∷ s) y,
        can_pull_top e m l t s x y,
        pops e m l t (x ∷ s) y,
        writes_top e m l t s x y,
      ) refl

  -- Variables

  copy_fits : (v : ℕ) → v < 256 → IsEncodable (copy v)
  copy_fits v small = record {
    least = omega arith;
    most = omega arith;
    operands_fit = fits_one (Small 0) (omega arith);
    result_fits = small;
    branch_fits = tt;
  }

  pub copy_step : (m l s t m1 l1 : List ℕ) (q v x : ℕ) → Writes e m l v x m1 l1 → Holds m q (bytes_of (copy v))
      → step (point q fuel) (at_words e m l (x ∷ s) t) ≡ done (point (q + length (bytes_of (copy v))) fuel)
      (at_words e m1 l1 (x ∷ s) t)
  unfolding perform load
  copy_step m l s t m1 l1 q v x w h =
      let st = at_words e m l (x ∷ s) t in
      step_is (point q fuel) st st (copy v) (0 ∷ []) (copy_fits v w.small) h
      (one_operand st st (Small 0) 0 (small_value st 0))
      ∙ rw (
        named_variable st 0 (omega arith),
        tops e m l t s x,
      ) (gives_variable (point q fuel) (q + length (bytes_of (copy v))) v x e m l (x ∷ s) t m1 l1 w)

  abbrev pub increase : ℕ → Instruction
  increase v = plain operations.Increment (Small v ∷ [])

  abbrev pub decrease : ℕ → Instruction
  decrease v = plain operations.Decrement (Small v ∷ [])

  pub increment_step : (m l s t m1 l1 : List ℕ) (q v x : ℕ) → ReadsVariable e m l v x
      → Writes e m l v ((x + 1) % 65536) m1 l1
      → Holds m q (bytes_of (increase v))
      → step (point q fuel) (at_words e m l s t) ≡ done (point (q + length (bytes_of (increase v))) fuel)
      (at_words e m1 l1 s t)
  unfolding perform increment
  increment_step m l s t m1 l1 q v x r w h =
      let st = at_words e m l s t in
      step_is (point q fuel) st st (increase v) (v ∷ [])
      (record {
        least = omega arith;
        most = omega arith;
        operands_fit = fits_one (Small v) w.small;
        result_fits = tt;
        branch_fits = tt;
      }) h (one_operand st st (Small v) v (small_value st v))
      ∙ rw (
        named_variable st v w.small,
        reads_in_place e m l s t v x r,
        writes_in_place e m l s t m1 l1 v ((x + 1) % 65536) w,
      ) refl

  pub decrement_step : (m l s t m1 l1 : List ℕ) (q v x : ℕ) → ReadsVariable e m l v x
      → Writes e m l v ((x + 65535) % 65536) m1 l1 → Holds m q (bytes_of (decrease v))
      → step (point q fuel) (at_words e m l s t) ≡ done (point (q + length (bytes_of (decrease v))) fuel)
      (at_words e m1 l1 s t)
  unfolding perform decrement
  decrement_step m l s t m1 l1 q v x r w h =
      let st = at_words e m l s t in
      step_is (point q fuel) st st (decrease v) (v ∷ [])
      (record {
        least = omega arith;
        most = omega arith;
        operands_fit = fits_one (Small v) w.small;
        result_fits = tt;
        branch_fits = tt;
      }) h (one_operand st st (Small v) v (small_value st v))
      ∙ rw (
        named_variable st v w.small,
        reads_in_place e m l s t v x r,
        writes_in_place e m l s t m1 l1 v ((x + 65535) % 65536) w,
      ) refl

  -- Results that are pushed

  -- Branches ahead

  pub branch_here_step : (m l s s1 t : List ℕ) (q d : ℕ) (op : Operation) (operands : List Operand) (values : List ℕ)
      (when holds : Bool) → IsEncodable (branching op operands when (2 + d))
      → operand_values operands (at_words e m l s t) ≡ done values (at_words e m l s1 t)
      → ((after : ℕ)
      → perform op (point q fuel) after None (Some (record { when = when; offset = 2 + d })) values
      (at_words e m l s1 t)
      ≡ branch_on (point q fuel) after (Some (record { when = when; offset = 2 + d })) holds (at_words e m l s1 t))
      → d < 8190 → 64 ≤ q → 0 < length (bytes_of (branching op operands when (2 + d)))
      → q + length (bytes_of (branching op operands when (2 + d))) + d < length m
      → Holds m q (bytes_of (branching op operands when (2 + d)))
      → step (point q fuel) (at_words e m l s t)
      ≡ done (point (landing when holds (q + length (bytes_of (branching op operands when (2 + d)))) d) fuel)
      (at_words e m l s1 t)
  branch_here_step m l s s1 t q d op operands values when holds fits v is near above some within h =
      let n = q + length (bytes_of (branching op operands when (2 + d))) in
      step_is (point q fuel) (at_words e m l s t) (at_words e m l s1 t) (branching op operands when (2 + d)) values
      fits
      h v
      ∙ is n
      ∙ branches (point q fuel) n d when holds (at_words e m l s1 t) near (omega (arith, some)) (omega (arith, above))
      within

  -- of an operation that branches in the same way in each state
  pub branch_step : (m l s s1 t : List ℕ) (q d : ℕ) (op : Operation) (operands : List Operand) (values : List ℕ)
      (when holds : Bool) → IsEncodable (branching op operands when (2 + d))
      → operand_values operands (at_words e m l s t) ≡ done values (at_words e m l s1 t)
      → ((here : Next) (after : ℕ) (st : State)
      → perform op here after None (Some (record { when = when; offset = 2 + d })) values st
      ≡ branch_on here after (Some (record { when = when; offset = 2 + d })) holds st)
      → d < 8190 → 64 ≤ q → 0 < length (bytes_of (branching op operands when (2 + d)))
      → q + length (bytes_of (branching op operands when (2 + d))) + d < length m
      → Holds m q (bytes_of (branching op operands when (2 + d)))
      → step (point q fuel) (at_words e m l s t)
      ≡ done (point (landing when holds (q + length (bytes_of (branching op operands when (2 + d)))) d) fuel)
      (at_words e m l s1 t)
  branch_step m l s s1 t q d op operands values when holds fits v is near above some within h =
      branch_here_step m l s s1 t q d op operands values when holds fits v
      (λ after. is (point q fuel) after (at_words e m l s1 t)) near above some within h

  -- a jump ahead
  pub jump_step : (m l s t : List ℕ) (q offset target : ℕ) → offset < 65536
      → parts.jump_target (q + 3) offset ≡ target
      → 64 ≤ q → q < target → target < length m
      → Holds m q (bytes_of (plain operations.Jump (Large offset ∷ [])))
      → step (point q fuel) (at_words e m l s t) ≡ done (point target fuel) (at_words e m l s t)
  unfolding perform jump test_target go bytes_of
  jump_step m l s t q offset target fits is above ahead within h =
      let st = at_words e m l s t in
      let a : nat_le 64 target ≡ true = le-leb _ _ (omega (arith, above, ahead)) in
      let b : nat_lt target (length m) ≡ true = lt-ltb _ _ within in
      let c : nat_lt q target ≡ true = lt-ltb _ _ ahead in
      step_is (point q fuel) st st (plain operations.Jump (Large offset ∷ [])) (offset ∷ [])
      (record {
        least = omega arith;
        most = omega arith;
        operands_fit = fits_one (Large offset) fits;
        result_fits = tt;
        branch_fits = tt;
      }) h (one_operand st st (Large offset) offset (large_value st offset))
      ∙ rw (is, a, b, c) refl

  -- 1 is pushed where a branch leads to the last of these, and else 0
  pub flag_leads : (m l s t : List ℕ) (q : ℕ) (b : Bool) → length l + length s + state.words e.others < 65536 → 64 ≤ q
      → q + 9 < length m → Holds m q (flat_map bytes_of flag)
      → Leads (point (if b then q + 6 else q) fuel) (at_words e m l s t) (point (q + 9) fuel)
      (at_words e m l ((if b then 1 else 0) ∷ s) t)
  unfolding bytes_of
  flag_leads m l s t q true room above within h =
      let h1 = others_held m q (push (Small 0)) (plain operations.Jump (Large 5 ∷ []) ∷ push (Small 1) ∷ []) h in
      let h2 = others_held m (q + 3) (plain operations.Jump (Large 5 ∷ [])) (push (Small 1) ∷ []) h1 in
      let n : q + 3 + 3 ≡ q + 6 = omega arith in
      let h3 = subst (λ x. Holds m x (bytes_of (push (Small 1)))) n (first_held m (q + 3 + 3) (push (Small 1)) [] h2) in
      let p : q + 6 + 3 ≡ q + 9 = omega arith in
      subst (λ x. Leads (point (q + 6) fuel) (at_words e m l s t) (point x fuel) (at_words e m l (1 ∷ s) t)) p
      (one_step (point (q + 6) fuel) (point (q + 6 + 3) fuel) (at_words e m l s t) (at_words e m l (1 ∷ s) t)
      (push_step m l s t (q + 6) 1 (Small 1) (omega arith) (small_value (at_words e m l s t) 1) room h3))
  flag_leads m l s t q false room above within h =
      let h1 = first_held m q (push (Small 0)) (plain operations.Jump (Large 5 ∷ []) ∷ push (Small 1) ∷ []) h in
      let h2 = others_held m q (push (Small 0)) (plain operations.Jump (Large 5 ∷ []) ∷ push (Small 1) ∷ []) h in
      let h3 = first_held m (q + 3) (plain operations.Jump (Large 5 ∷ [])) (push (Small 1) ∷ []) h2 in
      let to : q + 3 + 3 + 5 - 2 ≡ q + 9 = omega arith in
      moves (point q fuel) (point (q + 3) fuel) (point (q + 9) fuel) (at_words e m l s t) (at_words e m l (0 ∷ s) t)
      (at_words e m l (0 ∷ s) t)
      (push_step m l s t q 0 (Small 0) (omega arith) (small_value (at_words e m l s t) 0) room h1)
      (one_step (point (q + 3) fuel) (point (q + 9) fuel) (at_words e m l (0 ∷ s) t) (at_words e m l (0 ∷ s) t)
      (jump_step m l (0 ∷ s) t (q + 3) 5 (q + 9) (omega arith) to (omega (arith, above)) (omega arith) within h3))
