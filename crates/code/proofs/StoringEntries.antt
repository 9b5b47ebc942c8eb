-- The code that assigns an entry of an array, where the index is one of it.
use Rattle.std.proofs.Common.{◌≡◌, ℕ, ◌+◌, ◌<◌, ◌≤◌, List, [], ◌∷◌, length, slice_index, Some, true, refl, ap, ◌∙◌}
use Rattle.std.proofs.Common.{arith, length-append}
use Rattle.std.specs.Prelude.{map}
use Rattle.std.specs.List.{flat_map}
use Rattle.zcore.specs.declared.instruction.Operand.{Operand}
use Rattle.zcore.specs.declared.instruction.Operand.TheVariants.{Large, Small}
use Rattle.zcore.specs.Header.{defaults_of, static_base_of}
use Rattle.zcore.specs.Instruction.{Instruction}
use Rattle.zcore.specs.InstructionBytes.{bytes_of}
use Rattle.zcore.specs.State.{done}
use Rattle.zcore.specs.Parts.{operand_value}
use Rattle.zcore.specs.Execution.{perform, push_word}
use Rattle.syntax_trees.specs.declared.tree.Width.{Width}
use Rattle.syntax_trees.specs.declared.tree.Width.TheVariants as widths
use Rattle.meaning.specs.World.{Situation, with_value, is_index, with_entry, with_array}
use Rattle.code_drafts.specs.Items.{Destination}
use Rattle.code_drafts.specs.Items as items
use Rattle.code_items.specs.Stack as stack
use Rattle.code_drafts.specs.Instructions.{number_of, aside_variable, plain, push, store, word_in}
use Rattle.code_instructions.specs.ObjectCode.{passed_on}
use Rattle.code.specs.ItemCode.{store_operation}
use Rattle.code.proofs.Behind.{Holds, holds_on}
use Rattle.code.proofs.Play.{Leads, Stored, none_aside}
use Rattle.code.proofs.Regions.{KeepsOutside}
use Rattle.code.proofs.StoredEntries.{entry_address, written_at, last_byte, Inside, entry_inside, entry_keeps}
use Rattle.code.proofs.StoredEntries.{sizes_kept, stored_entry, variable_kept, high_kept}
use Rattle.code.proofs.Memory.{with_variable}
use Rattle.code.proofs.Parts.{machine as at_words, pushes, global_writes}
use Rattle.code.proofs.Steps.{point, leads_then, one_step, first_held, others_held, one_operand, two_operands}
use Rattle.code.proofs.Steps.{three_operands, small_value, large_value}
use Rattle.code.proofs.AddressLengths.{one_length}
use Rattle.code.proofs.Fitting.{Shaped}
use Rattle.code.proofs.Arriving.{Running, at, around, here, high, few, LedFrom, room_for, situation_here}
use Rattle.code.proofs.Variables.{memory_with, variable_held}
use Rattle.code.proofs.Temporaries.{Scratch, scratch_here, scratch_with, made}
use Rattle.code.proofs.Delivering.{held_aside, stored_step}
use Rattle.code.proofs.Alone.{IsOperandHere, IsHere, next_place}
use Rattle.code.proofs.Moving.{fuel_same, text_same, written_with, written_led, within_led}
use Rattle.code.proofs.Loading.{bytes_in, array_there, static_small}
use Rattle.code.proofs.StoringSteps.{stores, static_same, value_same}
use Rattle.code.proofs.Working.{HoldsWord, word_value}

-- An entry is assigned

module _ (c : Running) where
  open c use {story, a, p, accepted, holds, full, m, count, counts, routine, place, callers, locals, world, good}

  module _ (width : Width) (n i v : ℕ) (known : n < length p.arrays) (index : is_index width (bytes_in c n) i ≡ true)
      (t : ℕ) (small : t < 8) (q : items.Operand) (is : IsOperandHere c q) (other : List ℕ)
      (scratch : Scratch c other) (holding : HoldsWord c t q v other) where
    abbrev address : ℕ
    address = entry_address width (slice_index a.arrays n) i

    abbrev next_memory : List ℕ
    next_memory = written_at width other address v

    abbrev next_situation : Situation
    next_situation = with_array n (with_entry width (bytes_in c n) i v) (situation_here c)

    lies : Inside story a p world.globals world.arrays world.objects other scratch.stored n (array_there c n known)
        address
        (last_byte width address)
    lies = entry_inside story a p world.globals world.arrays world.objects other scratch.stored n
        (array_there c n known) width i
        index

    keeps : KeepsOutside scratch.stored.regions.first (defaults_of story) other next_memory
    keeps = entry_keeps story a p world.globals world.arrays world.objects other scratch.stored n
        (array_there c n known) width i v
        index

    next_stored : Stored story a p world.globals next_situation.world.arrays world.objects next_memory
    next_stored = stored_entry story a p world.globals world.arrays world.objects other scratch.stored n
        (array_there c n known) width
        i v index holds.globals_above (few c)

    same_sizes : map length next_situation.world.arrays ≡ map length world.arrays
    same_sizes = sizes_kept story a p world.globals world.arrays world.objects other scratch.stored n
        (array_there c n known) width i
        v

    -- the routine where the entry is another
    abbrev next_runs : Running
    next_runs = record {
      story = story;
      a = a;
      p = p;
      accepted = accepted;
      holds = holds;
      full = full;
      m = next_memory;
      count = count;
      counts = counts;
      routine = routine;
      place = place;
      callers = callers;
      locals = locals;
      world = next_situation.world;
      good = record {
        known = good.known;
        locals = good.locals;
        room = omega arith;
        callers = good.callers;
        few = good.few;
        globals = good.globals;
        sizes = same_sizes ∙ good.sizes;
        stored = next_stored;
        put_aside = none_aside story next_memory;
      };
    }

    held_next : (bytes : List ℕ) (there : ℕ) → here c ≤ there → Holds m there bytes → Holds next_memory there bytes
    held_next bytes there from h =
        holds_on (static_base_of story) there m next_memory bytes
        (high_kept story a p world.globals world.arrays world.objects other next_memory scratch.stored keeps.after
        ∙ scratch.kept)
        (omega (arith, high c, from)) h

    -- the word is still where it was
    holding_next : (q : items.Operand) → HoldsWord c t q v other → HoldsWord next_runs t q v next_memory
    holding_next items.pushed h =
        variable_kept story a p world.globals world.arrays next_situation.world.arrays world.objects other next_memory
        scratch.stored.regions.first (defaults_of story) (248 + t) scratch.stored next_stored keeps
        scratch.stored.regions.above (omega arith) (omega (arith, small)) ∙ h
    holding_next (items.number k) h = h
    holding_next (items.variable x) h =
        value_same x n (with_entry width (bytes_in c n) i v) (situation_here c) ∙ h

    next_word : (s : List ℕ) → operand_value (word_in t q) (at_words (around c) next_memory locals s world.text)
        ≡ done v (at_words (around c) next_memory locals s world.text)
    next_word s =
        word_value next_runs t q v next_memory s small (scratch_here next_runs) is (holding_next q holding)

    -- it goes on
    passed : (d : Destination) (before rest : List ℕ) (there : ℕ) → IsHere c d → length rest ≤ 48 → here c ≤ there
        → Holds m there (flat_map bytes_of (passed_on d (word_in t q)))
        → there + length (flat_map bytes_of (passed_on d (word_in t q))) ≡ next_place c
        → Leads (point (here c) world.fuel) (at_words (around c) m locals before world.text) (point there world.fuel)
        (at_words (around c) next_memory locals rest world.text)
        → LedFrom c before (stack.deliver d v (stack.after (at c before) rest next_situation))
    unfolding perform push_word
    passed items.push before rest there is_d room from h end leads =
        let k = push (word_in t q) in
        let shaped : Shaped k = record { least = omega arith; most = omega arith; result_fits = tt; branch_fits = tt }
        in
        let st = at_words (around c) next_memory locals rest world.text in
        let last = there + length (bytes_of k) in
        let to = at_words (around c) next_memory locals (v ∷ rest) world.text in
        let makes = made next_runs next_memory rest rest world.text there k (v ∷ []) (scratch_here next_runs) from
        shaped
        (held_next (bytes_of k) there from (first_held m there k [] h))
        (one_operand st st (word_in t q) v (next_word rest)) in
        within_led c before (v ∷ rest) next_memory next_situation last (omega (arith, end, one_length k)) next_stored
        refl refl same_sizes refl refl
        (leads_then (point (here c) world.fuel) (point there world.fuel) (point last world.fuel)
        (at_words (around c) m locals before world.text) st to leads
        (one_step (point there world.fuel) (point last world.fuel) st to
        (makes ∙ rw (pushes (around c) next_memory locals world.text rest v (room_for c rest (omega (arith, room))))
        refl)))
    passed (items.into x) before rest there is_d room from h end leads =
        let k = store (number_of x) (word_in t q) in
        let shaped : Shaped k = record { least = omega arith; most = omega arith; result_fits = tt; branch_fits = tt }
        in
        let st = at_words (around c) next_memory locals rest world.text in
        let last = there + length (bytes_of k) in
        let held = variable_held next_runs next_memory x (scratch_here next_runs) is_d in
        let situation = with_value x v next_situation in
        let m1 = memory_with next_runs next_memory x v in
        let to = at_words (around c) m1 situation.locals rest world.text in
        let makes = made next_runs next_memory rest rest world.text there k (number_of x ∷ v ∷ [])
        (scratch_here next_runs) from shaped (held_next (bytes_of k) there from (first_held m there k [] h))
        (two_operands st st st (Small (number_of x)) (word_in t q) (number_of x) v
        (small_value st (number_of x)) (next_word rest)) in
        written_led c before rest m1 situation last (omega (arith, end, one_length k)) room (held.stored v)
        (held.locals_same v) (held.globals_same v) (ap (map length) (held.arrays_same v) ∙ same_sizes)
        (fuel_same x v next_situation) (text_same x v next_situation)
        (leads_then (point (here c) world.fuel) (point there world.fuel) (point last world.fuel)
        (at_words (around c) m locals before world.text) st to leads
        (one_step (point there world.fuel) (point last world.fuel) st to
        (makes ∙ stored_step next_runs (point there world.fuel) last (number_of x) v rest world.text next_memory m1
        situation.locals (held.writes v))))
    passed items.aside before rest there is_d room from h end leads =
        let k = store aside_variable (word_in t q) in
        let shaped : Shaped k = record { least = omega arith; most = omega arith; result_fits = tt; branch_fits = tt }
        in
        let st = at_words (around c) next_memory locals rest world.text in
        let last = there + length (bytes_of k) in
        let m1 = with_variable next_memory aside_variable v in
        let to = at_words (around c) m1 locals rest world.text in
        let after = scratch_with next_runs next_memory aside_variable v (scratch_here next_runs) (omega arith)
        (omega arith) in
        let makes = made next_runs next_memory rest rest world.text there k (aside_variable ∷ v ∷ [])
        (scratch_here next_runs) from shaped (held_next (bytes_of k) there from (first_held m there k [] h))
        (two_operands st st st (Small aside_variable) (word_in t q) aside_variable v
        (small_value st aside_variable) (next_word rest)) in
        written_with c (Some v) before rest m1 next_situation last
        (held_aside next_runs next_memory v (scratch_here next_runs)) (omega (arith, end, one_length k)) room
        after.stored refl refl same_sizes refl refl
        (leads_then (point (here c) world.fuel) (point there world.fuel) (point last world.fuel)
        (at_words (around c) m locals before world.text) st to leads
        (one_step (point there world.fuel) (point last world.fuel) st to
        (makes ∙ stored_step next_runs (point there world.fuel) last aside_variable v rest world.text next_memory m1
        locals (global_writes (around c) next_memory locals aside_variable v (omega arith) (omega arith)))))
    passed items.nowhere before rest there is_d room from h end leads =
        written_led c before rest next_memory next_situation there (omega (arith, end)) room next_stored refl refl
        same_sizes refl refl leads

    abbrev assign : Operand → Instruction
    assign o = plain (store_operation width) (Large (slice_index a.arrays n) ∷ o ∷ word_in t q ∷ [])

    assign_shaped : (o : Operand) → Shaped (assign o)
    assign_shaped o = go width
      where
        go : (width : Width)
            → Shaped (plain (store_operation width) (Large (slice_index a.arrays n) ∷ o ∷ word_in t q ∷ []))
        go widths.Byte = record { least = omega arith; most = omega arith; result_fits = tt; branch_fits = tt }
        go widths.Word = record { least = omega arith; most = omega arith; result_fits = tt; branch_fits = tt }

    -- the entry is stored, and the word goes on
    pub assigned : (d : Destination) (before rest : List ℕ) (there : ℕ) (o : Operand) → IsHere c d → length rest ≤ 48
        → here c ≤ there → Holds m there (flat_map bytes_of (assign o ∷ passed_on d (word_in t q)))
        → there + length (flat_map bytes_of (assign o ∷ passed_on d (word_in t q))) ≡ next_place c
        → operand_value o (at_words (around c) other locals rest world.text)
        ≡ done i (at_words (around c) other locals rest world.text)
        → Leads (point (here c) world.fuel) (at_words (around c) m locals before world.text) (point there world.fuel)
        (at_words (around c) other locals rest world.text)
        → LedFrom c before (stack.deliver d v (stack.after (at c before) rest next_situation))
    assigned d before rest there o is_d room from h end value leads =
        let k = assign o in
        let base = slice_index a.arrays n in
        let st = at_words (around c) other locals rest world.text in
        let to = at_words (around c) next_memory locals rest world.text in
        let after = there + length (bytes_of k) in
        let same = static_same story other scratch.stored.header in
        let makes = made c other rest rest world.text there k (base ∷ i ∷ v ∷ []) scratch from (assign_shaped o)
        (first_held m there k (passed_on d (word_in t q)) h)
        (three_operands st st st st (Large base) o (word_in t q) base i v (large_value st base) value
        (word_value c t q v other rest small scratch is holding)) in
        passed d before rest after is_d room (omega (arith, from))
        (others_held m there k (passed_on d (word_in t q)) h)
        (omega (
          arith,
          end,
          length-append (bytes_of k) (flat_map bytes_of (passed_on d (word_in t q))),
        ))
        (leads_then (point (here c) world.fuel) (point there world.fuel) (point after world.fuel)
        (at_words (around c) m locals before world.text) st to leads
        (one_step (point there world.fuel) (point after world.fuel) st to
        (makes ∙ stores width (point there world.fuel) after base i v st
        (omega (arith, lies.behind, holds.globals_above)) (omega (arith, lies.below, same))
        (omega (arith, lies.below, static_small c)))))
