-- A running routine where memory holds other objects, and a word that goes on there.
use Rattle.std.proofs.Common.{◌≡◌, ℕ, ◌+◌, ◌-◌, ◌*◌, ◌<◌, ◌≤◌, List, [], ◌∷◌, length, drop, slice_index, refl, sym, ap}
use Rattle.std.proofs.Common.{Some, ◌∙◌, arith}
use Rattle.std.specs.Prelude.{map}
use Rattle.std.specs.List.{flat_map}
use Rattle.zcore.specs.declared.instruction.Operand.TheVariants.{Small}
use Rattle.zcore.specs.Header.{defaults_of, globals_of, static_base_of}
use Rattle.zcore.specs.InstructionBytes.{bytes_of}
use Rattle.zcore.specs.Execution.{perform, push_word}
use Rattle.meaning.specs.declared.resolved.Variable.TheVariants as variables
use Rattle.meaning.specs.Objects.{Objects}
use Rattle.meaning.specs.World.{Situation, with_value, with_objects}
use Rattle.code_drafts.specs.Items.{Destination}
use Rattle.code_drafts.specs.Items as items
use Rattle.code_items.specs.Stack as stack
use Rattle.code.specs.Region.{HasObjects, KeepsRest}
use Rattle.code.specs.Tables.{PropertyTable}
use Rattle.code_drafts.specs.Instructions.{number_of, aside_variable, push, store}
use Rattle.code_instructions.specs.ObjectCode.{assigned_word, passed_on}
use Rattle.code.proofs.Behind.{Holds, holds_on}
use Rattle.code.proofs.Play.{Leads, Stored, none_aside}
use Rattle.code.proofs.Memory.{word_of, with_variable}
use Rattle.code.proofs.Parts.{machine as at_words, pushes, global_writes}
use Rattle.code.proofs.Steps.{point, leads_then, one_step, first_held, one_operand, two_operands, small_value}
use Rattle.code.proofs.StoredEntries.{defaults_same, static_same}
use Rattle.code.proofs.AddressLengths.{one_length}
use Rattle.code.proofs.Fitting.{Shaped}
use Rattle.code.proofs.Arriving.{Running, at, around, here, high, LedFrom, room_for, situation_here}
use Rattle.code.proofs.Variables.{memory_with, variable_held}
use Rattle.code.proofs.Temporaries.{Scratch, scratch_here, scratch_with, made}
use Rattle.code.proofs.Delivering.{held_aside, stored_step}
use Rattle.code.proofs.Alone.{IsOperandHere, IsHere, next_place}
use Rattle.code.proofs.Moving.{fuel_same, text_same, written_with, written_led, within_led}
use Rattle.code.proofs.Working.{HoldsWord, word_value}

module _ (c : Running) where
  open c use {story, a, p, accepted, holds, full, m, count, counts, routine, place, callers, locals, world, good}

  -- the routine where memory holds other objects
  abbrev pub runs_in : (memory : List ℕ) (objects : Objects)
      → Stored story a p world.globals world.arrays objects memory → Running
  runs_in memory objects stored = record {
    story = story;
    a = a;
    p = p;
    accepted = accepted;
    holds = holds;
    full = full;
    m = memory;
    count = count;
    counts = counts;
    routine = routine;
    place = place;
    callers = callers;
    locals = locals;
    world = record world { objects = objects };
    good = record {
      known = good.known;
      locals = good.locals;
      room = omega arith;
      callers = good.callers;
      few = good.few;
      globals = good.globals;
      sizes = good.sizes;
      stored = stored;
      put_aside = none_aside story memory;
    };
  }

  -- Memory in which the region of objects is another

  globals_in : (other : List ℕ) → Scratch c other → globals_of other ≡ globals_of story
  globals_in other scratch =
      ap (λ x. x * 256 + slice_index other 13) (scratch.stored.header 12 (omega arith))
      ∙ ap (λ x. slice_index story 12 * 256 + x) (scratch.stored.header 13 (omega arith))

  -- bytes before the objects are as before
  module _ (other memory : List ℕ) (scratch : Scratch c other) (keeps : KeepsRest other memory) where
    below : (q : ℕ) → q < defaults_of story → slice_index memory q ≡ slice_index other q
    below q lt = keeps.before q (omega (arith, lt, defaults_same story other scratch.stored.header))

    header_low : 64 ≤ defaults_of story
    header_low =
        let start = scratch.stored.has.entries.start in
        omega (arith, start, defaults_same story other scratch.stored.header)

    globals_low : globals_of story + 480 ≤ defaults_of story
    globals_low =
        let r = scratch.stored.regions in
        omega (arith, r.above, r.below)

    -- a variable from 16 on is the same
    pub variable_same : (v : ℕ) → 16 ≤ v → v < 256 → word_of memory v ≡ word_of other v
    variable_same v low small =
        let at = globals_of other + 2 * (v - 16) in
        let same : globals_of memory ≡ globals_of other =
        ap (λ x. x * 256 + slice_index memory 13) (below 12 (omega (arith, header_low)))
        ∙ ap (λ x. slice_index other 12 * 256 + x) (below 13 (omega (arith, header_low))) in
        let first = globals_in other scratch in
        ap (λ g. slice_index memory (g + 2 * (v - 16)) * 256 + slice_index memory (g + 2 * (v - 16) + 1)) same
        ∙ ap (λ x. x * 256 + slice_index memory (at + 1)) (below at (omega (arith, low, small, first, globals_low)))
        ∙ ap (λ x. slice_index other at * 256 + x) (below (at + 1) (omega (arith, low, small, first, globals_low)))

    pub high_same : drop (static_base_of story) memory ≡ drop (static_base_of story) m
    high_same =
        ap (λ n. drop n memory) (sym (static_same story other scratch.stored.header)) ∙ keeps.after
        ∙ ap (λ n. drop n other) (static_same story other scratch.stored.header) ∙ scratch.kept

    pub stored_objects : (objects : Objects) (tables : List PropertyTable)
        → HasObjects p.objects p.defaults objects tables memory
        → Stored story a p world.globals world.arrays objects memory
    stored_objects objects tables has =
        let r = scratch.stored.regions in
        let few = accepted.globals in
        record {
          size = keeps.size ∙ scratch.stored.size;
          header = λ q h. below q (omega (arith, h, header_low)) ∙ scratch.stored.header q h;
          below = λ q h. below q (omega (arith, h, globals_low)) ∙ scratch.stored.below q h;
          kept = high_same ∙ good.stored.kept;
          values = λ g h.
              let at = globals_of story + 2 * g in
              ap (λ x. x * 256 + slice_index memory (at + 1))
              (below at (omega (arith, h, good.globals, few, globals_low)))
              ∙ ap (λ x. slice_index other at * 256 + x)
              (below (at + 1) (omega (arith, h, good.globals, few, globals_low)))
              ∙ scratch.stored.values g h;
          regions = record {
            first = r.first;
            above = r.above;
            below = r.below;
            places = r.places;
            stands = record {
              within = omega (arith, r.stands.within, keeps.size);
              each = λ j h. below (r.first + j) (omega (arith, h, r.below)) ∙ r.stands.each j h;
            };
          };
          tables = tables;
          has = has;
        }

  -- a word is still where it was
  word_there : (memory : List ℕ) (objects : Objects)
      (stored : Stored story a p world.globals world.arrays objects memory) (o : items.Operand) (v : ℕ)
      → HoldsWord c 1 o v memory → HoldsWord (runs_in memory objects stored) 1 o v memory
  word_there memory objects stored items.pushed v h = h
  word_there memory objects stored (items.number k) v h = h
  word_there memory objects stored (items.variable (variables.Local i)) v h = h
  word_there memory objects stored (items.variable (variables.Global g)) v h = h

  -- A word goes on

  module _ (memory : List ℕ) (objects : Objects)
      (stored : Stored story a p world.globals world.arrays objects memory)
      (same : drop (static_base_of story) memory ≡ drop (static_base_of story) m) where
    abbrev next_runs : Running
    next_runs = runs_in memory objects stored

    abbrev next_situation : Situation
    next_situation = with_objects objects (situation_here c)

    held_next : (bytes : List ℕ) (there : ℕ) → here c ≤ there → Holds m there bytes → Holds memory there bytes
    held_next bytes there from h =
        holds_on (static_base_of story) there m memory bytes same (omega (arith, high c, from)) h

    pub passed_led : (o : items.Operand) (v : ℕ) (d : Destination) (before rest : List ℕ) (there : ℕ)
        → IsOperandHere c o → HoldsWord c 1 o v memory → IsHere c d → length rest ≤ 48 → here c ≤ there
        → Holds m there (flat_map bytes_of (passed_on d (assigned_word o)))
        → there + length (flat_map bytes_of (passed_on d (assigned_word o))) ≡ next_place c
        → Leads (point (here c) world.fuel) (at_words (around c) m locals before world.text) (point there world.fuel)
        (at_words (around c) memory locals rest world.text)
        → LedFrom c before (stack.deliver d v (stack.after (at c before) rest next_situation))
    unfolding perform push_word
    passed_led o v items.push before rest there is word is_d room from h end leads =
        let k = push (assigned_word o) in
        let shaped : Shaped k =
        record { least = omega arith; most = omega arith; result_fits = tt; branch_fits = tt } in
        let st = at_words (around c) memory locals rest world.text in
        let last = there + length (bytes_of k) in
        let to = at_words (around c) memory locals (v ∷ rest) world.text in
        let makes = made next_runs memory rest rest world.text there k (v ∷ []) (scratch_here next_runs) from shaped
        (held_next (bytes_of k) there from (first_held m there k [] h))
        (one_operand st st (assigned_word o) v
        (word_value next_runs 1 o v memory rest (omega arith) (scratch_here next_runs) is
        (word_there memory objects stored o v word))) in
        within_led c before (v ∷ rest) memory next_situation last (omega (arith, end, one_length k)) stored refl refl
        refl refl refl
        (leads_then (point (here c) world.fuel) (point there world.fuel) (point last world.fuel)
        (at_words (around c) m locals before world.text) st to leads
        (one_step (point there world.fuel) (point last world.fuel) st to
        (makes ∙ rw (pushes (around c) memory locals world.text rest v (room_for c rest (omega (arith, room))))
        refl)))
    passed_led o v (items.into x) before rest there is word is_d room from h end leads =
        let k = store (number_of x) (assigned_word o) in
        let shaped : Shaped k =
        record { least = omega arith; most = omega arith; result_fits = tt; branch_fits = tt } in
        let st = at_words (around c) memory locals rest world.text in
        let last = there + length (bytes_of k) in
        let held = variable_held next_runs memory x (scratch_here next_runs) is_d in
        let situation = with_value x v next_situation in
        let m1 = memory_with next_runs memory x v in
        let to = at_words (around c) m1 situation.locals rest world.text in
        let makes = made next_runs memory rest rest world.text there k (number_of x ∷ v ∷ [])
        (scratch_here next_runs) from shaped (held_next (bytes_of k) there from (first_held m there k [] h))
        (two_operands st st st (Small (number_of x)) (assigned_word o) (number_of x) v
        (small_value st (number_of x))
        (word_value next_runs 1 o v memory rest (omega arith) (scratch_here next_runs) is
        (word_there memory objects stored o v word))) in
        written_led c before rest m1 situation last (omega (arith, end, one_length k)) room (held.stored v)
        (held.locals_same v) (held.globals_same v) (ap (map length) (held.arrays_same v))
        (fuel_same x v next_situation) (text_same x v next_situation)
        (leads_then (point (here c) world.fuel) (point there world.fuel) (point last world.fuel)
        (at_words (around c) m locals before world.text) st to leads
        (one_step (point there world.fuel) (point last world.fuel) st to
        (makes ∙ stored_step next_runs (point there world.fuel) last (number_of x) v rest world.text memory m1
        situation.locals (held.writes v))))
    passed_led o v items.aside before rest there is word is_d room from h end leads =
        let k = store aside_variable (assigned_word o) in
        let shaped : Shaped k =
        record { least = omega arith; most = omega arith; result_fits = tt; branch_fits = tt } in
        let st = at_words (around c) memory locals rest world.text in
        let last = there + length (bytes_of k) in
        let m1 = with_variable memory aside_variable v in
        let to = at_words (around c) m1 locals rest world.text in
        let after = scratch_with next_runs memory aside_variable v (scratch_here next_runs) (omega arith) (omega arith)
        in
        let makes = made next_runs memory rest rest world.text there k (aside_variable ∷ v ∷ [])
        (scratch_here next_runs) from shaped (held_next (bytes_of k) there from (first_held m there k [] h))
        (two_operands st st st (Small aside_variable) (assigned_word o) aside_variable v
        (small_value st aside_variable)
        (word_value next_runs 1 o v memory rest (omega arith) (scratch_here next_runs) is
        (word_there memory objects stored o v word))) in
        written_with c (Some v) before rest m1 next_situation last (held_aside next_runs memory v (scratch_here next_runs))
        (omega (arith, end, one_length k)) room after.stored refl refl refl refl refl
        (leads_then (point (here c) world.fuel) (point there world.fuel) (point last world.fuel)
        (at_words (around c) m locals before world.text) st to leads
        (one_step (point there world.fuel) (point last world.fuel) st to
        (makes ∙ stored_step next_runs (point there world.fuel) last aside_variable v rest world.text memory m1 locals
        (global_writes (around c) memory locals aside_variable v (omega arith) (omega arith)))))
    passed_led o v items.nowhere before rest there is word is_d room from h end leads =
        written_led c before rest memory next_situation there (omega (arith, end)) room stored refl refl refl refl refl
        leads
