-- A branch back, in whatever form: it goes on, or back for a unit of fuel.
use Rattle.std.proofs.Common.{◌≡◌, ℕ, suc, ◌+◌, ◌-◌, ◌%◌, ◌<◌, ◌≤◌, List, [], ◌∷◌, length, Some, Bool, true}
use Rattle.std.proofs.Common.{false, refl, sym, ap, ◌∙◌, subst, arith, length-append}
use Rattle.std.specs.Prelude.{not, nat_lt, nat_le, nat_eq, if◌then◌else◌}
use Rattle.std.specs.List.{flat_map}
use Rattle.std.proofs.lemmas.Bool.{lt-ltb, le-ltb, le-leb, ne_eqb, ltb-true, ltb-false}
use Rattle.zcore.specs.declared.instruction.Operand.{Operand}
use Rattle.zcore.specs.declared.instruction.Operand.TheVariants.{Large}
use Rattle.zcore.specs.declared.instruction.Operation.{Operation}
use Rattle.zcore.specs.declared.instruction.Operation.TheVariants as operations
use Rattle.zcore.specs.declared.next.Next.{Next}
use Rattle.zcore.specs.declared.place.Limit.TheVariants as limits
use Rattle.zcore.specs.declared.place.Place.TheVariants as places
use Rattle.zcore.specs.Instruction.{Instruction}
use Rattle.zcore.specs.InstructionBytes.{bytes_of}
use Rattle.zcore.specs.State.{State, done, halt}
use Rattle.zcore.specs.Parts.{branch_on, branch_target, jump_target, take_branch, test_target, go, spend}
use Rattle.zcore.specs.Execution.{step}
use Rattle.code_drafts.specs.Items.{agrees}
use Rattle.code_drafts.specs.Instructions.{plain, branching}
use Rattle.code_instructions.specs.Instructions.{labelled_below, back_limit}
use Rattle.code.proofs.Behind.{Holds}
use Rattle.code.proofs.Play.{Leads, stays}
use Rattle.code.proofs.Parts.{Around, machine as at_words}
use Rattle.code.proofs.Steps.{point, leads_then, one_step, step_is, first_held, others_held, landing}
use Rattle.code.proofs.SingleSteps.{branch_here_step}
use Rattle.code.proofs.Jumping.{back_step, back_ends}
use Rattle.code.proofs.Labels.{Branching, jump_length}

-- a branch that is taken, to a target that does not lie ahead
takes_back : (here : Next) (after offset target : ℕ) (s : State) → 2 ≤ offset → branch_target after offset ≡ target
    → 64 ≤ target → target < length s.memory → take_branch here after offset s ≡ go here target s
unfolding take_branch test_target
takes_back here after offset target s some is above within =
    let a : nat_eq offset 0 ≡ false = ne_eqb _ _ (λ h. omega (arith, h, some)) in
    let b : nat_eq offset 1 ≡ false = ne_eqb _ _ (λ h. omega (arith, h, some)) in
    let c : nat_le 64 target ≡ true = le-leb _ _ above in
    let d : nat_lt target (length s.memory) ≡ true = lt-ltb _ _ within in
    rw (a, b, is, c, d) refl

goes_back : (q fuel target : ℕ) (s : State) → target ≤ q → go (point q (suc fuel)) target s
    ≡ done (point target fuel) s
unfolding go spend
goes_back q fuel target s behind =
    let a : nat_lt q target ≡ false = le-ltb _ _ behind in
    let b : nat_eq (suc fuel) 0 ≡ false = ne_eqb _ _ (λ f. omega (arith, f)) in
    let c : suc fuel - 1 ≡ fuel = omega arith in
    rw a (rw b (rw c refl))

goes_out : (q target : ℕ) (s : State) → target ≤ q → go (point q 0) target s ≡ halt (places.Limit limits.Fuel) s
unfolding go spend
goes_out q target s behind = let a : nat_lt q target ≡ false = le-ltb _ _ behind in rw a refl

-- a branch by a condition: to the next instruction, or taken
branches_by : (here : Next) (after offset : ℕ) (when holds : Bool) (s : State)
    → branch_on here after (Some (record { when = when; offset = offset })) holds s
    ≡ (if agrees holds when then take_branch here after offset s else done (point after here.fuel) s)
unfolding branch_on
branches_by here after offset true true s = refl
branches_by here after offset true false s = refl
branches_by here after offset false true s = refl
branches_by here after offset false false s = refl

-- what code does that leads back where something is so: it goes on; or it goes back with a unit less, or ends the turn
-- where none is left
pub record GoesBack (e : Around) (m l s s1 t : List ℕ) (q next target : ℕ) (so : Bool) : Type 0 where
  pub on : (fuel : ℕ) → so ≡ false
      → Leads (point q fuel) (at_words e m l s t) (point next fuel) (at_words e m l s1 t)
  pub back : (fuel : ℕ) → so ≡ true
      → Leads (point q (suc fuel)) (at_words e m l s t) (point target fuel) (at_words e m l s1 t)
  pub last : ℕ
  pub last_stack : List ℕ
  pub out : so ≡ true → Leads (point q 0) (at_words e m l s t) (point last 0) (at_words e m l last_stack t)
  pub ends : so ≡ true
      → step (point last 0) (at_words e m l last_stack t) ≡ halt (places.Limit limits.Fuel) (at_words e m l s1 t)

module _ (e : Around) (m l s s1 t : List ℕ) (q next target : ℕ) (op : Operation) (os : List Operand)
    (when holds : Bool) (b : Branching e m l s s1 t op os holds) (above_here : 64 ≤ q) (above : 64 ≤ target)
    (behind : target ≤ q) (within : target < length m) (next_within : next < length m) where
  -- the branch itself
  near : (offset : ℕ) → 64 ≤ offset → offset < 16384
      → next ≡ q + length (bytes_of (branching op os when offset)) → branch_target next offset ≡ target
      → Holds m q (bytes_of (branching op os when offset)) → GoesBack e m l s s1 t q next target (agrees holds when)
  near offset some few end is h = record {
    on = λ fuel f. one_step (point q fuel) (point next fuel) (at_words e m l s t) (at_words e m l s1 t)
        (made fuel ∙ ap (λ (c : Bool). if c then take_branch (point q fuel) next offset (at_words e m l s1 t)
        else done (point next fuel) (at_words e m l s1 t)) f);
    back = λ fuel f. one_step (point q (suc fuel)) (point target fuel) (at_words e m l s t) (at_words e m l s1 t)
        (taken (suc fuel) f ∙ goes_back q fuel target (at_words e m l s1 t) behind);
    last = q;
    last_stack = s;
    out = λ f. stays (point q 0) (at_words e m l s t);
    ends = λ f. taken 0 f ∙ goes_out q target (at_words e m l s1 t) behind;
  }
    where
      made : (fuel : ℕ) → step (point q fuel) (at_words e m l s t)
          ≡ (if agrees holds when then take_branch (point q fuel) next offset (at_words e m l s1 t)
          else done (point next fuel) (at_words e m l s1 t))
      made fuel =
          step_is (point q fuel) (at_words e m l s t) (at_words e m l s1 t) (branching op os when offset) b.values
          (b.fits when offset few) h b.taken
          ∙ b.branches when offset (point q fuel) (q + length (bytes_of (branching op os when offset)))
          ∙ branches_by (point q fuel) (q + length (bytes_of (branching op os when offset))) offset when holds
          (at_words e m l s1 t)
          ∙ ap (λ n. if agrees holds when then take_branch (point q fuel) n offset (at_words e m l s1 t)
          else done (point n fuel) (at_words e m l s1 t)) (sym end)

      taken : (fuel : ℕ) → agrees holds when ≡ true
          → step (point q fuel) (at_words e m l s t) ≡ go (point q fuel) target (at_words e m l s1 t)
      taken fuel f =
          made fuel
          ∙ ap (λ (c : Bool). if c then take_branch (point q fuel) next offset (at_words e m l s1 t)
          else done (point next fuel) (at_words e m l s1 t)) f
          ∙ takes_back (point q fuel) next offset target (at_words e m l s1 t) (omega (arith, some)) is above within

  -- where the opposite branch leads
  over : (w c : Bool) (after d : ℕ) → landing (not w) c after d ≡ (if agrees c w then after else after + d)
  over true true after d = refl
  over true false after d = refl
  over false true after d = refl
  over false false after d = refl

  -- the opposite branch, over a jump
  far : (offset : ℕ) → offset < 65536 → next ≡ q + length (bytes_of (branching op os (not when) 5)) + 3
      → jump_target next offset ≡ target
      → Holds m q (flat_map bytes_of (branching op os (not when) 5 ∷ plain operations.Jump (Large offset ∷ []) ∷ []))
      → GoesBack e m l s s1 t q next target (agrees holds when)
  far offset few end is h = record {
    on = λ fuel f. subst (λ n. Leads (point q fuel) (at_words e m l s t) (point n fuel) (at_words e m l s1 t))
        (ap (λ (c : Bool). if c then after else after + 3) f ∙ sym end) (first fuel);
    back = λ fuel f.
        leads_then (point q (suc fuel)) (point after (suc fuel)) (point target fuel) (at_words e m l s t)
        (at_words e m l s1 t) (at_words e m l s1 t) (to_jump (suc fuel) f)
        (one_step (point after (suc fuel)) (point target fuel) (at_words e m l s1 t) (at_words e m l s1 t)
        (back_step e m l s1 t after offset target few jumps above (omega (arith, behind)) within jump fuel));
    last = after;
    last_stack = s1;
    out = λ f. to_jump 0 f;
    ends = λ f. back_ends e m l s1 t after offset target few jumps above (omega (arith, behind)) within jump;
  }
    where
      i : Instruction
      i = branching op os (not when) 5

      j : Instruction
      j = plain operations.Jump (Large offset ∷ [])

      after : ℕ
      after = q + length (bytes_of i)

      jump : Holds m after (bytes_of j)
      jump = first_held m after j [] (others_held m q i (j ∷ []) h)

      jumps : jump_target (after + 3) offset ≡ target
      jumps = ap (λ n. jump_target n offset) (sym end) ∙ is

      first : (fuel : ℕ) → Leads (point q fuel) (at_words e m l s t)
          (point (if agrees holds when then after else after + 3) fuel) (at_words e m l s1 t)
      first fuel =
          subst (λ n. Leads (point q fuel) (at_words e m l s t) (point n fuel) (at_words e m l s1 t))
          (over when holds after 3)
          (one_step (point q fuel) (point (landing (not when) holds after 3) fuel) (at_words e m l s t)
          (at_words e m l s1 t)
          (branch_here_step e fuel m l s s1 t q 3 op os b.values (not when) holds
          (b.fits (not when) 5 (omega arith)) b.taken (λ n. b.branches (not when) 5 (point q fuel) n) (omega arith)
          above_here (b.some (not when) 5) (omega (arith, end, next_within)) (first_held m q i (j ∷ []) h)))

      to_jump : (fuel : ℕ) → agrees holds when ≡ true
          → Leads (point q fuel) (at_words e m l s t) (point after fuel) (at_words e m l s1 t)
      to_jump fuel f =
          subst (λ n. Leads (point q fuel) (at_words e m l s t) (point n fuel) (at_words e m l s1 t))
          (ap (λ (c : Bool). if c then after else after + 3) f) (first fuel)

  -- in both forms: by an offset of 14 bits, or by one of 65,536 more than that of a jump
  pub label_back : (offset : ℕ) → next ≡ q + length (flat_map bytes_of (labelled_below back_limit op os when offset))
      → ((offset < 16384) → (64 ≤ offset) × (branch_target next offset ≡ target))
      → ((16384 ≤ offset) → jump_target next (offset % 65536) ≡ target)
      → Holds m q (flat_map bytes_of (labelled_below back_limit op os when offset))
      → GoesBack e m l s s1 t q next target (agrees holds when)
  label_back offset end small large h = split (nat_lt offset 16384) refl end h
    where
      form : Bool → List Instruction
      form c = if c then branching op os when offset ∷ [] else branching op os (not when) 5 ∷ plain operations.Jump
          (Large (offset % 65536) ∷ []) ∷ []

      split : (c : Bool) → nat_lt offset 16384 ≡ c → next ≡ q + length (flat_map bytes_of (form c))
          → Holds m q (flat_map bytes_of (form c)) → GoesBack e m l s s1 t q next target (agrees holds when)
      split true f end h =
          let i = branching op os when offset in
          let lt : offset < 16384 = ltb-true _ _ f in
          near offset (small lt).0 lt (omega (arith, end, length-append (bytes_of i) [])) (small lt).1
          (first_held m q i [] h)
      split false f end h =
          let i = branching op os (not when) 5 in
          let j = plain operations.Jump (Large (offset % 65536) ∷ []) in
          far (offset % 65536) (omega arith) (omega (
            arith,
            end,
            length-append (bytes_of i) (flat_map bytes_of (j ∷ [])),
            length-append (bytes_of j) [],
            jump_length (offset % 65536),
          )) (large (ltb-false _ _ f)) h
