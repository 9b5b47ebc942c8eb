-- The loop of a move: from the object into which another is to go up to its parents, a unit for each step.
use Rattle.std.proofs.Common.{◌≡◌, ◌≢◌, ℕ, zero, suc, ◌+◌, ◌<◌, ◌≤◌, List, [], ◌∷◌, length, Bool, true, false, refl}
use Rattle.std.proofs.Common.{◌∙◌, arith}
use Rattle.std.specs.Prelude.{◌==◌, if◌then◌else◌}
use Rattle.std.specs.List.{flat_map}
use Rattle.zcore.specs.declared.instruction.Operand.TheVariants.{Large}
use Rattle.zcore.specs.declared.instruction.Operation.TheVariants as operations
use Rattle.zcore.specs.declared.place.Limit.TheVariants as limits
use Rattle.zcore.specs.declared.place.Place.TheVariants as places
use Rattle.zcore.specs.Instruction.{Instruction}
use Rattle.zcore.specs.InstructionBytes.{bytes_of}
use Rattle.zcore.specs.Parts.{jump_target}
use Rattle.zcore.specs.State.{State, done, halt}
use Rattle.zcore.specs.Execution.{step}
use Rattle.meaning.specs.Objects.{Climbed, clear, inside, spent, climb}
use Rattle.code.specs.Region.{HasObjects}
use Rattle.code.specs.Tables.{PropertyTable}
use Rattle.code_drafts.specs.Instructions.{plain}
use Rattle.code.proofs.Behind.{Holds}
use Rattle.code.proofs.Play.{Leads}
use Rattle.code.proofs.Memory.{word_of, with_variable}
use Rattle.code.proofs.Parts.{machine as at_words}
use Rattle.code.proofs.Steps.{point, leads_then, one_step}
use Rattle.code.proofs.Jumping.{back_step, back_ends}
use Rattle.code.proofs.Arriving.{Running, around, here, above}
use Rattle.code.proofs.Temporaries.{Scratch, scratch_with, held_in}
use Rattle.code.proofs.TestedObjects.{IsObjectHere}
use Rattle.code.proofs.ClimbingSteps.{refuel, scratch_in, turning, Turns, turns, next, meets, ends_up, goes_on}
use Rattle.code.proofs.ClimbingSteps.{parent_known, next_has, next_object, next_at, next_others}

-- The loop

module _ (c : Running) (rest : List ℕ) (q o : ℕ) (is : List Instruction)
    (h : Holds c.m q (flat_map bytes_of (turning c is))) (from : here c ≤ q) (within : q + 17 < length c.m)
    (tables : List PropertyTable) where
  open c use {story, a, p, accepted, holds, full, m, count, counts, routine, place, callers, locals, world, good}

  abbrev words_in : List ℕ → State
  words_in memory = at_words (around c) memory locals rest world.text

  -- the loop's end is reached, and so much fuel is left
  pub record Rose (fuel left : ℕ) (old : List ℕ) : Type 0 where
    pub memory : List ℕ
    pub scratch : Scratch c memory
    pub has : HasObjects p.objects p.defaults world.objects tables memory
    pub object : word_of memory 250 ≡ o
    pub others : (x : ℕ) → 248 ≤ x → x ≢ 251 → word_of memory x ≡ word_of old x
    pub leads : Leads (point q fuel) (words_in old) (point (q + 17) left) (words_in memory)

  -- the object is met, and the fault comes next
  pub record Met (fuel : ℕ) (old : List ℕ) : Type 0 where
    pub memory : List ℕ
    pub left : ℕ
    pub scratch : Scratch c memory
    pub leads : Leads (point q fuel) (words_in old) (point (q + 13) left) (words_in memory)

  -- no unit is left for a jump back
  pub record Stopped (fuel : ℕ) (old : List ℕ) : Type 0 where
    pub memory : List ℕ
    pub there : ℕ
    pub leads : Leads (point q fuel) (words_in old) (point there 0) (words_in memory)
    pub stops : step (point there 0) (words_in memory) ≡ halt (places.Limit limits.Fuel) (words_in memory)

  abbrev pub Climbs : Climbed → ℕ → List ℕ → Type 0
  Climbs (clear left) fuel old = Rose fuel left old
  Climbs inside fuel old = Met fuel old
  Climbs spent fuel old = Stopped fuel old

  -- a turn before the others
  climbs_after : (result : Climbed) (fuel less : ℕ) (old next : List ℕ)
      → Leads (point q fuel) (words_in old) (point q less) (words_in next)
      → ((x : ℕ) → 248 ≤ x → x ≢ 251 → word_of next x ≡ word_of old x) → Climbs result less next
      → Climbs result fuel old
  climbs_after (clear left) fuel less old next first others r = record {
    memory = r.memory;
    scratch = r.scratch;
    has = r.has;
    object = r.object;
    others = λ x low differs. r.others x low differs ∙ others x low differs;
    leads = leads_then (point q fuel) (point q less) (point (q + 17) left) (words_in old) (words_in next)
        (words_in r.memory) first r.leads;
  }
  climbs_after inside fuel less old next first others r = record {
    memory = r.memory;
    left = r.left;
    scratch = r.scratch;
    leads = leads_then (point q fuel) (point q less) (point (q + 13) r.left) (words_in old) (words_in next)
        (words_in r.memory) first r.leads;
  }
  climbs_after spent fuel less old next first others r = record {
    memory = r.memory;
    there = r.there;
    leads = leads_then (point q fuel) (point q less) (point r.there 0) (words_in old) (words_in next)
        (words_in r.memory) first r.leads;
    stops = r.stops;
  }

  -- a turn with so much fuel, in memory where the loop's variable names an object
  module _ (fuel : ℕ) (memory : List ℕ) (at : ℕ) (scratch : Scratch c memory)
      (has : HasObjects p.objects p.defaults world.objects tables memory)
      (object_there : word_of memory 250 ≡ o) (at_there : word_of memory 251 ≡ at) (known : IsObjectHere c at) where
    abbrev d : Running
    d = refuel c fuel

    held : Turns d q is
    held = turns d q is h

    inner : Scratch d memory
    inner = scratch_in c fuel memory scratch

    abbrev above_at : ℕ
    above_at = world.objects.tree.parent at

    abbrev later : List ℕ
    later = with_variable memory 251 above_at

    later_scratch : Scratch c later
    later_scratch = scratch_with c memory 251 above_at scratch (omega arith) (omega arith)

    others_later : (x : ℕ) → 248 ≤ x → x ≢ 251 → word_of later x ≡ word_of memory x
    others_later = next_others d rest q o is held from within tables memory at inner has object_there at_there known

    met : (at == o) ≡ true → Met fuel memory
    met e = record {
      memory = memory;
      left = fuel;
      scratch = scratch;
      leads = meets d rest q o is held from within tables memory at inner has object_there at_there known e;
    }

    rose : (at == o) ≡ false → (above_at == 0) ≡ true → Rose fuel fuel memory
    rose e f = record {
      memory = later;
      scratch = later_scratch;
      has = next_has d rest q o is held from within tables memory at inner has object_there at_there known;
      object = next_object d rest q o is held from within tables memory at inner has object_there at_there known;
      others = others_later;
      leads = ends_up d rest q o is held from within tables memory at inner has object_there at_there known e f;
    }

    on : (at == o) ≡ false → (above_at == 0) ≡ false
        → Leads (point q fuel) (words_in memory) (point (q + 10) fuel) (words_in later)
    on e f = goes_on d rest q o is held from within tables memory at inner has object_there at_there known e f

    -- the jump back
    fits_back : 65525 < 65536
    fits_back = omega arith

    leads_back : jump_target (q + 10 + 3) 65525 ≡ q
    leads_back = omega arith

    header_below : 64 ≤ q
    header_below = omega (arith, from, above c)

    q_within : q < length later
    q_within = omega (arith, within, later_scratch.stored.size, good.stored.size)

    jump_held : Holds later (q + 10) (bytes_of (plain operations.Jump (Large 65525 ∷ [])))
    jump_held = held_in c later (bytes_of (plain operations.Jump (Large 65525 ∷ []))) (q + 10) later_scratch
        (omega (arith, from)) held.jump

    pub jumps : (less : ℕ)
        → step (point (q + 10) (suc less)) (words_in later) ≡ done (point q less) (words_in later)
    jumps less =
        back_step (around c) later locals rest world.text (q + 10) 65525 q fits_back leads_back header_below
        (omega arith) q_within jump_held less

    stopped : step (point (q + 10) 0) (words_in later) ≡ halt (places.Limit limits.Fuel) (words_in later)
    stopped =
        back_ends (around c) later locals rest world.text (q + 10) 65525 q fits_back leads_back header_below
        (omega arith) q_within jump_held

  pub climbs : (fuel at : ℕ) (memory : List ℕ) → Scratch c memory
      → HasObjects p.objects p.defaults world.objects tables memory
      → word_of memory 250 ≡ o → word_of memory 251 ≡ at → IsObjectHere c at
      → Climbs (climb world.objects.tree.parent o at fuel) fuel memory
  climbs zero at memory scratch has object_there at_there known =
      go (at == o) refl (world.objects.tree.parent at == 0) refl
    where
      go : (b : Bool) → (at == o) ≡ b → (t : Bool) → (world.objects.tree.parent at == 0) ≡ t
          → Climbs (if b then inside else (if t then clear zero else spent)) zero memory
      go true e t f = met zero memory at scratch has object_there at_there known e
      go false e true f = rose zero memory at scratch has object_there at_there known e f
      go false e false f = record {
        memory = later zero memory at scratch has object_there at_there known;
        there = q + 10;
        leads = on zero memory at scratch has object_there at_there known e f;
        stops = stopped zero memory at scratch has object_there at_there known;
      }
  climbs (suc fuel) at memory scratch has object_there at_there known =
      go (at == o) refl (world.objects.tree.parent at == 0) refl (climbs fuel)
    where
      up : ℕ
      up = world.objects.tree.parent at

      next : List ℕ
      next = with_variable memory 251 up

      go : (b : Bool) → (at == o) ≡ b → (t : Bool) → (world.objects.tree.parent at == 0) ≡ t
          → ((x : ℕ) (memory : List ℕ) → Scratch c memory
          → HasObjects p.objects p.defaults world.objects tables memory
          → word_of memory 250 ≡ o → word_of memory 251 ≡ x → IsObjectHere c x
          → Climbs (climb world.objects.tree.parent o x fuel) fuel memory)
          → Climbs (if b then inside
          else (if t then clear (suc fuel) else climb world.objects.tree.parent o (world.objects.tree.parent at) fuel))
          (suc fuel) memory
      go true e t f more = met (suc fuel) memory at scratch has object_there at_there known e
      go false e true f more = rose (suc fuel) memory at scratch has object_there at_there known e f
      go false e false f more =
          let d = refuel c (suc fuel) in
          let held = turns d q is h in
          let inner = scratch_in c (suc fuel) memory scratch in
          climbs_after (climb world.objects.tree.parent o up fuel) (suc fuel) fuel memory next
          (leads_then (point q (suc fuel)) (point (q + 10) (suc fuel)) (point q fuel) (words_in memory) (words_in next)
          (words_in next)
          (on (suc fuel) memory at scratch has object_there at_there known e f)
          (one_step (point (q + 10) (suc fuel)) (point q fuel) (words_in next) (words_in next)
          (jumps (suc fuel) memory at scratch has object_there at_there known fuel)))
          (next_others d rest q o is held from within tables memory at inner has object_there at_there known)
          (more up next (scratch_with c memory 251 up scratch (omega arith) (omega arith))
          (next_has d rest q o is held from within tables memory at inner has object_there at_there known)
          (next_object d rest q o is held from within tables memory at inner has object_there at_there known)
          (next_at d rest q o is held from within tables memory at inner has object_there at_there known)
          (parent_known d rest q o is held from within tables memory at inner has object_there at_there known f))
