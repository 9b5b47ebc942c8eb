-- The jumps of a routine, forward and back.
use Rattle.std.proofs.Common.{◌≡◌, ℕ, zero, suc, ◌+◌, ◌-◌, ◌%◌, ◌<◌, ◌≤◌, List, [], ◌∷◌, length, Bool, true, false}
use Rattle.std.proofs.Common.{Option, None, refl, sym, ap, ◌∙◌, arith}
use Rattle.std.specs.Prelude.{nat_lt, nat_le, nat_eq, if◌then◌else◌}
use Rattle.std.proofs.lemmas.Bool.{lt-ltb, le-ltb, le-leb, ltb-true, leb-true, ne_eqb}
use Rattle.zcore.specs.declared.instruction.Operand.TheVariants.{Large}
use Rattle.zcore.specs.declared.instruction.Operation.TheVariants as operations
use Rattle.zcore.specs.declared.place.Limit.TheVariants as limits
use Rattle.zcore.specs.declared.place.Place.TheVariants as places
use Rattle.zcore.specs.Instruction.{Instruction}
use Rattle.zcore.specs.InstructionBytes.{bytes_of}
use Rattle.zcore.specs.State.{State, done, halt}
use Rattle.zcore.specs.Parts.{jump_target, test_target, go, spend}
use Rattle.zcore.specs.Execution.{step, perform, jump}
use Rattle.meaning.specs.Sizes.{greatest_routine_weight}
use Rattle.meaning.specs.World.{spend_from}
use Rattle.code_drafts.specs.Items.{Item}
use Rattle.code_drafts.specs.Items as items
use Rattle.code_items.specs.Stack as stack
use Rattle.code_drafts.specs.Instructions.{plain, jump_offset}
use Rattle.code.specs.Bytes.{code_size, place_of}
use Rattle.code.specs.HeldProgram.{sizes_of}
use Rattle.code.proofs.Behind.{Holds}
use Rattle.code.proofs.Play.{Leads, stays, items_in, address, base, Good, Led, HoldsAside, none_aside}
use Rattle.code.proofs.Parts.{Around, machine as at_words}
use Rattle.code.proofs.Steps.{point, leads_then, one_step, step_is, fits_one, one_operand, large_value}
use Rattle.code.proofs.SingleSteps.{jump_step}
use Rattle.code.proofs.Ends.{does_halt}
use Rattle.code.proofs.Places.{rises, ends_by, offset_leads}
use Rattle.code.proofs.Arriving.{Running, at, at_aside, around, here, LedFrom, above, ArrivesAt}
use Rattle.code.proofs.Alone.{Single, single}

-- A jump that does not lead ahead costs a unit
module _ (e : Around) (m l s t : List ℕ) (q offset target : ℕ) (fits : offset < 65536)
    (is : jump_target (q + 3) offset
    ≡ target) (above_header : 64 ≤ target) (behind : target ≤ q) (within : target < length m)
    (h : Holds m q (bytes_of (plain operations.Jump (Large offset ∷ [])))) where
  pub back_step : (fuel : ℕ) → step (point q (suc fuel)) (at_words e m l s t)
      ≡ done (point target fuel) (at_words e m l s t)
  unfolding perform jump test_target go spend bytes_of
  back_step fuel =
      let st = at_words e m l s t in
      let a : nat_le 64 target ≡ true = le-leb _ _ above_header in
      let b : nat_lt target (length m) ≡ true = lt-ltb _ _ within in
      let c : nat_lt q target ≡ false = le-ltb _ _ behind in
      let d : nat_eq (suc fuel) 0 ≡ false = ne_eqb _ _ (λ f. omega (arith, f)) in
      let g : suc fuel - 1 ≡ fuel = omega arith in
      step_is (point q (suc fuel)) st st (plain operations.Jump (Large offset ∷ [])) (offset ∷ [])
      (record {
        least = omega arith;
        most = omega arith;
        operands_fit = fits_one (Large offset) fits;
        result_fits = tt;
        branch_fits = tt;
      }) h (one_operand st st (Large offset) offset (large_value st offset))
      ∙ rw (is, a, b, c) (rw d (rw g refl))

  pub back_ends : step (point q 0) (at_words e m l s t) ≡ halt (places.Limit limits.Fuel) (at_words e m l s t)
  unfolding perform jump test_target go spend bytes_of
  back_ends =
      let st = at_words e m l s t in
      let a : nat_le 64 target ≡ true = le-leb _ _ above_header in
      let b : nat_lt target (length m) ≡ true = lt-ltb _ _ within in
      let c : nat_lt q target ≡ false = le-ltb _ _ behind in
      step_is (point q 0) st st (plain operations.Jump (Large offset ∷ [])) (offset ∷ [])
      (record {
        least = omega arith;
        most = omega arith;
        operands_fit = fits_one (Large offset) fits;
        result_fits = tt;
        branch_fits = tt;
      }) h (one_operand st st (Large offset) offset (large_value st offset))
      ∙ rw (is, a, b, c) refl

jump_length : (offset : ℕ) → length (bytes_of (plain operations.Jump (Large offset ∷ []))) ≡ 3
unfolding bytes_of
jump_length offset = refl

module _ (c : Running) where
  open c use {story, a, p, accepted, holds, full, m, count, counts, routine, place, callers, locals, world, good}

  abbrev pub is_in : List Item
  is_in = items_in story a p routine

  -- code is short, and bytes follow it
  pub short : code_size (sizes_of p) is_in ≤ greatest_routine_weight
  short = (holds.routines routine good.known).short

  pub target_within : (n : ℕ) → address story a p routine n < length m
  target_within n = omega
      (arith, (holds.routines routine good.known).followed, ends_by (sizes_of p) is_in n, good.stored.size)

  pub target_above : (n : ℕ) → 64 ≤ address story a p routine n
  target_above n = omega (arith, (holds.routines routine good.known).above, holds.globals_above, holds.globals_below)

  good_there : (n : ℕ) (stack : List ℕ) (aside : Option ℕ) (fuel : ℕ) → length stack ≤ 48
      → HoldsAside story m aside
      → Good story a p (record {
        routine = routine;
        place = n;
        stack = stack;
        put_aside = aside;
        callers = callers;
        situation = record { locals = locals; world = record world { fuel = fuel } };
      }) m
  good_there n stack aside fuel room kept = record {
    known = good.known;
    locals = good.locals;
    room = room;
    callers = good.callers;
    few = good.few;
    globals = good.globals;
    sizes = good.sizes;
    stored = good.stored;
    put_aside = kept;
  }

  -- the jump of an item that leads from the next one
  abbrev pub offset_to : ℕ → ℕ
  offset_to target = jump_offset (place_of (sizes_of p) is_in (place + 1)) (place_of (sizes_of p) is_in target) %
      65536

  abbrev pub jump_to : ℕ → Instruction
  jump_to target = plain operations.Jump (Large (offset_to target) ∷ [])

  small_offset : (target : ℕ) → offset_to target < 65536
  small_offset target = omega arith

  leads_there : (target : ℕ) → Single c (jump_to target)
      → jump_target (here c + 3) (offset_to target) ≡ address story a p routine target
  leads_there target there =
      let b = base story a p routine in
      let e : b + place_of (sizes_of p) is_in (place + 1)
      ≡ here c + 3 = omega (arith, there.end, jump_length (offset_to target)) in
      let word : offset_to target ≡ jump_offset (place_of (sizes_of p) is_in (place + 1))
      (place_of (sizes_of p) is_in target) = omega arith in
      ap (λ (n : ℕ). jump_target n (offset_to target)) (sym e)
      ∙ ap (λ (n : ℕ). jump_target (b + place_of (sizes_of p) is_in (place + 1)) n) word
      ∙ offset_leads b (place_of (sizes_of p) is_in (place + 1)) (place_of (sizes_of p) is_in target)
      (omega (arith, short, ends_by (sizes_of p) is_in (place + 1)))
      (omega (arith, short, ends_by (sizes_of p) is_in target))

  -- a jump ahead from after some steps; a word of a `switch` stays where it is
  pub jumps_led : (q offset target : ℕ) (aside : Option ℕ) (before words : List ℕ) → length words ≤ 48
      → HoldsAside story m aside → offset < 65536
      → jump_target (q + 3) offset ≡ address story a p routine target → here c ≤ q
      → q < address story a p routine (place + 1) → Holds m q (bytes_of (plain operations.Jump (Large offset ∷ [])))
      → Leads (point (here c) world.fuel) (at_words (around c) m locals before world.text) (point q world.fuel)
      (at_words (around c) m locals words world.text)
      → LedFrom c before (stack.jump_forward target (at_aside c aside words))
  jumps_led q offset target aside before words room kept small to from low h leads = go (nat_lt place target) refl
    where
      st : State
      st = at_words (around c) m locals words world.text

      go : (b : Bool) → nat_lt place target ≡ b
          → LedFrom c before (if b then stack.goes (record (at_aside c aside words) { place = target })
          else stack.stuck)
      go false e = tt
      go true e =
          let ahead : place < target = ltb-true _ _ e in
          let up = rises (sizes_of p) is_in (place + 1) target (omega (arith, ahead)) in
          record {
            memory = m;
            count = count;
            counts = counts;
            good = good_there target words aside world.fuel room kept;
            leads = leads_then (point (here c) world.fuel) (point q world.fuel)
                (point (address story a p routine target) world.fuel)
                (at_words (around c) m locals before world.text) st st leads
                (one_step (point q world.fuel) (point (address story a p routine target) world.fuel) st st
                (jump_step (around c) world.fuel m locals words world.text q offset
                (address story a p routine target) small to (omega (arith, above c, from)) (omega (arith, up, low))
                (target_within target) h));
          }

  -- where the jump is all that an item does
  pub jump_alone_led : (target : ℕ) (aside : Option ℕ) (words : List ℕ) → length words ≤ 48
      → HoldsAside story m aside
      → Single c (jump_to target) → LedFrom c words (stack.jump_forward target (at_aside c aside words))
  jump_alone_led target aside words room kept there =
      jumps_led (here c) (offset_to target) target aside words words room kept (small_offset target)
      (leads_there target there) (omega arith) (omega (arith, there.end, jump_length (offset_to target))) there.held
      (stays (point (here c) world.fuel) (at_words (around c) m locals words world.text))

  pub jump_led : (target : ℕ) (aside : Option ℕ) (words : List ℕ) → length words ≤ 48 → HoldsAside story m aside
      → ArrivesAt c (items.jump target) → LedFrom c words (stack.jump_forward target (at_aside c aside words))
  jump_led target aside words room kept stands =
      jump_alone_led target aside words room kept
      (single c (items.jump target) (jump_to target) refl refl stands)

  pub back_led : (target : ℕ) (words : List ℕ) → length words ≤ 48 → ArrivesAt c (items.back target)
      → LedFrom c words (stack.go_back target (at c words))
  back_led target words room stands = go (nat_le target place) refl
    where
      there : Single c (jump_to target)
      there = single c (items.back target) (jump_to target) refl refl stands

      st : State
      st = at_words (around c) m locals words world.text

      small : offset_to target < 65536
      small = small_offset target

      -- with so much fuel
      LedWith : ℕ → Type 0
      LedWith fuel =
          Led story a p full (point (here c) fuel) st world
          (stack.after_part (spend_from fuel (record { locals = locals; world = world }))
          (λ _ situation. stack.goes (record (at c words) { place = target; situation = situation })))

      behind : target ≤ place → address story a p routine target ≤ here c
      behind below = let up = rises (sizes_of p) is_in target place below in omega (arith, up)

      goes_back : (fuel : ℕ) → target ≤ place → LedWith fuel
      goes_back zero below =
          does_halt full world (point (here c) 0) st st (places.Limit limits.Fuel) refl
          (back_ends (around c) m locals words world.text (here c) (offset_to target)
          (address story a p routine target)
          small (leads_there target there) (target_above target) (behind below) (target_within target) there.held)
      goes_back (suc fuel) below = record {
        memory = m;
        count = count;
        counts = counts;
        good = good_there target words None fuel room (none_aside story m);
        leads = one_step (point (here c) (suc fuel)) (point (address story a p routine target) fuel) st st
            (back_step (around c) m locals words world.text (here c) (offset_to target)
            (address story a p routine target) small (leads_there target there) (target_above target) (behind below)
            (target_within target) there.held fuel);
      }

      go : (b : Bool) → nat_le target place ≡ b
          → LedFrom c words (if b then stack.after_part
          (spend_from world.fuel (record { locals = locals; world = world }))
          (λ _ situation. stack.goes (record (at c words) { place = target; situation = situation }))
          else stack.stuck)
      go false e = tt
      go true e = goes_back world.fuel (leb-true _ _ e)
