-- The turn of a line: byte 1 of the text array is cleared, and the story waits until a line is given.
use Rattle.std.proofs.Common.{◌≡◌, ◌≢◌, ℕ, ◌+◌, ◌<◌, ◌≤◌, List, [], ◌∷◌, ◌++◌, length, slice_index, set, Some, true}
use Rattle.std.proofs.Common.{refl, sym, ap, ◌∙◌, subst, arith, append-nil}
use Rattle.std.specs.Prelude.{nat_le, map}
use Rattle.std.specs.List.{flat_map}
use Rattle.std.proofs.lemmas.List.{length-set, get_or-set_same}
use Rattle.std.proofs.lemmas.Bool.{lt-ltb, and_parts, leb-true}
use Rattle.zcore.specs.declared.instruction.Operand.TheVariants.{Large, Small}
use Rattle.zcore.specs.declared.instruction.Operation.TheVariants as operations
use Rattle.zcore.specs.declared.place.Place.TheVariants as places
use Rattle.zcore.specs.declared.next.Next.{Next}
use Rattle.zcore.specs.Instruction.{Instruction}
use Rattle.zcore.specs.InstructionBytes.{bytes_of}
use Rattle.zcore.specs.State.{Pending, State, Out, done, halt}
use Rattle.zcore.specs.Parts.{is_text_buffer, is_parse_buffer, test_result, store_result}
use Rattle.zcore.specs.Header.{defaults_of, static_base_of}
use Rattle.zcore.specs.Execution.{perform, step}
use Rattle.zcore.specs.Turn.{Whole, Turns, ended, given, resumed, turn_on, turn_from, after_step, plays_from}
use Rattle.zcore.specs.Turn.{last_place}
use Rattle.zcore.proofs.Turning.{turns_stop}
use Rattle.syntax_trees.specs.declared.tree.Width.TheVariants as widths
use Rattle.meaning.specs.Places.{number_in}
use Rattle.meaning.specs.Reading.{holds_letters, holds_words, next_line, with_line}
use Rattle.meaning.specs.World.{Situation, array_at, is_index}
use Rattle.meaning.specs.World as source
use Rattle.code_items.specs.Stack as stack
use Rattle.code_drafts.specs.Instructions.{plain, giving}
use Rattle.code.specs.ItemCode.{line_code}
use Rattle.code.proofs.Behind.{Holds, holds_on}
use Rattle.code.proofs.Play.{Stored, Good, next_of, state_of, none_aside, PlaysAs}
use Rattle.code.proofs.Memory.{with_variable, stored_temporary}
use Rattle.code.proofs.Regions.{KeepsOutside}
use Rattle.code.proofs.StoredEntries.{high_kept, Inside, entry_inside, entry_keeps, stored_entry}
use Rattle.code.proofs.StoredLines.{line_sizes, text_passes, parse_passes, memory_with_line, stored_line}
use Rattle.code.proofs.Alike.{cleared, letters_cleared, words_cleared, line_cleared}
use Rattle.code.proofs.Parts.{machine as at_words, global_writes}
use Rattle.code.proofs.Steps.{point, leads_then, one_step, first_held, others_held, step_is, two_operands}
use Rattle.code.proofs.Steps.{three_operands, small_value, large_value}
use Rattle.code.proofs.Fitting.{Shaped, held_bytes, encodable}
use Rattle.code.proofs.HeldRoutines.{ground_is}
use Rattle.code.proofs.Arriving.{Running, at, around, here, high, few, kept, situation_here}
use Rattle.code.proofs.Temporaries.{made}
use Rattle.code.proofs.Alone.{next_place}
use Rattle.code.proofs.TestedWords.{Reached}
use Rattle.code.proofs.Loading.{bytes_in, array_there, static_small}
use Rattle.code.proofs.StoringSteps.{stores, static_same}
use Rattle.code.proofs.FirstBytes.{LedOnFrom, place_in}
use Rattle.code.proofs.Waits.{leads_turns, waits_for}

module _ (c : Running) where
  open c use {story, a, p, accepted, holds, full, m, count, counts, routine, place, callers, locals, world, good}

  -- The line

  module _ (t q : ℕ) (text : t < length p.arrays) (parse : q < length p.arrays) (apart : t ≢ q)
      (letters : holds_letters (bytes_in c t) ≡ true) (words : holds_words (bytes_in c q) ≡ true) (s : List ℕ)
      (room : length s ≤ 48) (followed : next_place c < length m)
      (r : Reached c s s m (line_code (place_in c t) (place_in c q)))
      (end : r.q + length (flat_map bytes_of (line_code (place_in c t) (place_in c q))) ≡ next_place c) where
    abbrev other : List ℕ
    other = r.memory

    abbrev stored : Stored story a p world.globals world.arrays world.objects other
    stored = r.scratch.stored

    text_there : t < length world.arrays
    text_there = array_there c t text

    parse_there : q < length world.arrays
    parse_there = array_there c q parse

    other_way : q ≢ t
    other_way e = apart (sym e)

    index : is_index widths.Byte (bytes_in c t) 1 ≡ true
    index =
        let both = and_parts (nat_le 1 (slice_index (bytes_in c t) 0))
        (nat_le (slice_index (bytes_in c t) 0 + 2) (length (bytes_in c t))) letters in
        lt-ltb 1 (length (bytes_in c t)) (omega (arith, leb-true _ _ both.0, leb-true _ _ both.1))

    -- byte 1 of the text array is cleared
    abbrev arrays0 : List (List ℕ)
    arrays0 = cleared (number_in p) world.arrays t q text_there other_way

    abbrev memory0 : List ℕ
    memory0 = set other (place_in c t + 1) 0

    stored0 : Stored story a p world.globals arrays0 world.objects memory0
    stored0 = stored_entry story a p world.globals world.arrays world.objects other stored t text_there widths.Byte 1
        0 index holds.globals_above (few c)

    keeps0 : KeepsOutside stored.regions.first (defaults_of story) other memory0
    keeps0 = entry_keeps story a p world.globals world.arrays world.objects other stored t text_there widths.Byte 1 0
        index

    lies : Inside story a p world.globals world.arrays world.objects other stored t text_there (place_in c t + 1)
        (place_in c t + 1)
    lies = entry_inside story a p world.globals world.arrays world.objects other stored t text_there widths.Byte 1 index

    text0 : t < length arrays0
    text0 = omega (arith, text_there, length-set world.arrays t (set (bytes_in c t) 1 0))

    parse0 : q < length arrays0
    parse0 = omega (arith, parse_there, length-set world.arrays t (set (bytes_in c t) 1 0))

    letters0 : holds_letters (array_at arrays0 t) ≡ true
    letters0 = letters_cleared (number_in p) world.arrays t q text_there other_way letters

    words0 : holds_words (array_at arrays0 q) ≡ true
    words0 = words_cleared (number_in p) world.arrays t q text_there other_way words

    text_ok : is_text_buffer memory0 (place_in c t) ≡ true
    text_ok = text_passes story a p holds world.globals arrays0 world.objects memory0 stored0 (few c) t q text0 parse0
        other_way letters0 words0 (get_or-set_same other (place_in c t + 1) 0 0 lies.long)

    parse_ok : is_parse_buffer memory0 (place_in c q) ≡ true
    parse_ok = parse_passes story a p holds world.globals arrays0 world.objects memory0 stored0 (few c) t q text0
        parse0 other_way letters0 words0

    abbrev clears : Instruction
    clears = plain operations.StoreByte (Large (place_in c t) ∷ Small 1 ∷ Small 0 ∷ [])

    abbrev reads : Instruction
    reads = giving operations.Read (Large (place_in c t) ∷ Large (place_in c q) ∷ []) 248

    clears_held : Holds m r.q (bytes_of clears)
    clears_held = first_held m r.q clears (reads ∷ []) r.held

    reads_held : Holds m (r.q + 6) (bytes_of reads)
    unfolding bytes_of
    reads_held = first_held m (r.q + 6) reads [] (others_held m r.q clears (reads ∷ []) r.held)

    abbrev st0 : State
    st0 = at_words (around c) memory0 locals s world.text

    clear_step : step (point r.q world.fuel) (at_words (around c) other locals s world.text)
        ≡ done (point (r.q + 6) world.fuel) st0
    unfolding bytes_of
    clear_step =
        let st = at_words (around c) other locals s world.text in
        let shaped : Shaped clears =
        record { least = omega arith; most = omega arith; result_fits = tt; branch_fits = tt } in
        let same = static_same story other stored.header in
        made c other s s world.text r.q clears (place_in c t ∷ 1 ∷ 0 ∷ []) r.scratch r.from shaped clears_held
        (three_operands st st st st (Large (place_in c t)) (Small 1) (Small 0) (place_in c t) 1 0
        (large_value st (place_in c t)) (small_value st 1) (small_value st 0))
        ∙ stores widths.Byte (point r.q world.fuel) (r.q + 6) (place_in c t) 1 0 st
        (omega (arith, lies.behind, holds.globals_above)) (omega (arith, lies.below, same))
        (omega (arith, lies.below, static_small c))

    abbrev pending : Pending
    pending = record {
      text_buffer = place_in c t;
      parse_buffer = place_in c q;
      result = Some 248;
      return_address = r.q + 6 + 7;
    }

    abbrev waiting : State
    waiting = record st0 { pending = Some pending }

    can_store : test_result (Some 248) st0 ≡ done tt st0
    unfolding test_result
    can_store = rw ((global_writes (around c) memory0 locals 248 13 (omega arith) (omega arith)).can) refl

    wait_step : step (point (r.q + 6) world.fuel) st0 ≡ halt places.Waiting waiting
    unfolding bytes_of perform
    wait_step =
        let shaped : Shaped reads =
        record { least = omega arith; most = omega arith; result_fits = omega arith; branch_fits = tt } in
        let from : static_base_of story ≤ r.q + 6 = omega (arith, high c, r.from) in
        step_is (point (r.q + 6) world.fuel) st0 st0 reads (place_in c t ∷ place_in c q ∷ [])
        (encodable reads shaped (held_bytes (static_base_of story) (r.q + 6) story m (bytes_of reads) holds.byte_each
        (kept c) from reads_held))
        (holds_on (static_base_of story) (r.q + 6) m memory0 (bytes_of reads)
        (high_kept story a p world.globals world.arrays world.objects other memory0 stored keeps0.after
        ∙ r.scratch.kept) from
        reads_held)
        (two_operands st0 st0 st0 (Large (place_in c t)) (Large (place_in c q)) (place_in c t) (place_in c q)
        (large_value st0 (place_in c t)) (large_value st0 (place_in c q)))
        ∙ waits_for (point (r.q + 6) world.fuel) (r.q + 6 + 7) (Some 248) (place_in c t) (place_in c q) st0 text_ok
        parse_ok
        can_store

    abbrev whole : Whole
    whole = ended (point (r.q + 6) world.fuel) places.Waiting waiting

    turns : Turns (point (here c) world.fuel) (at_words (around c) m locals s world.text) whole
    turns =
        let st = at_words (around c) m locals s world.text in
        let mid = at_words (around c) other locals s world.text in
        leads_turns (point (here c) world.fuel) (point (r.q + 6) world.fuel) st st0 whole
        (leads_then (point (here c) world.fuel) (point r.q world.fuel) (point (r.q + 6) world.fuel) st mid st0 r.leads
        (one_step (point r.q world.fuel) (point (r.q + 6) world.fuel) mid st0 clear_step))
        (turns_stop (point (r.q + 6) world.fuel) st0 waiting places.Waiting wait_step)

    -- where no line is left, the story waits
    no_line : world.lines ≡ []
        → PlaysAs full (point (here c) world.fuel) (at_words (around c) m locals s world.text) world
        (source.ended places.Waiting world)
    no_line e = record {
      whole = whole;
      turns = turns;
      texts = sym (ap (λ ls. world.texts ++ map (λ (v : Whole). v.text) (whole ∷ plays_from full whole ls)) e);
      place = sym (ap (λ ls. last_place (whole ∷ plays_from full whole ls)) e);
    }

    abbrev arrays_with : List ℕ → List (List ℕ)
    arrays_with line = with_line (number_in p) t q line world.arrays

    abbrev line_memory : List ℕ → List ℕ
    line_memory line = memory_with_line story a p holds world.globals arrays0 world.objects memory0 stored0 (few c) t
        q text0 parse0
        other_way letters0 words0 line

    abbrev last_memory : List ℕ → List ℕ
    last_memory line = with_variable (line_memory line) 248 13

    line_stored : (line : List ℕ) → Stored story a p world.globals (arrays_with line) world.objects (line_memory line)
    line_stored line =
        subst (λ xs. Stored story a p world.globals xs world.objects (line_memory line))
        (line_cleared (number_in p) world.arrays t q text_there other_way line)
        (stored_line story a p holds world.globals arrays0 world.objects memory0 stored0 (few c) t q text0 parse0
        other_way letters0 words0 line)

    last_stored : (line : List ℕ) → Stored story a p world.globals (arrays_with line) world.objects (last_memory line)
    last_stored line =
        stored_temporary story a p world.globals (arrays_with line) world.objects (line_memory line)
        (ground_is story a p accepted holds (line_memory line) world.globals (arrays_with line) world.objects
        (line_stored line))
        (few c) (line_stored line) 248 13 (omega arith) (omega arith)

    given_is : (line : List ℕ) → given pending line full (resumed whole.state)
        ≡ done (point (r.q + 6 + 7) full) (at_words (around c) (last_memory line) locals s [])
    unfolding given store_result
    given_is line =
        rw ((global_writes (around c) (line_memory line) locals 248 13 (omega arith) (omega arith)).done_so s []) refl

    abbrev next_situation : List ℕ → List (List ℕ) → Situation
    next_situation line lines = record {
      locals = locals;
      world = record world {
        arrays = arrays_with line;
        fuel = full;
        lines = lines;
        text = [];
        texts = world.texts ++ world.text ∷ [];
      };
    }

    abbrev next_state : List ℕ → List (List ℕ) → stack.ItemState
    next_state line lines = stack.after (at c s) s (next_situation line lines)

    next_good : (line : List ℕ) (lines : List (List ℕ)) → Good story a p (next_state line lines) (last_memory line)
    next_good line lines = record {
      known = good.known;
      locals = good.locals;
      room = room;
      callers = good.callers;
      few = good.few;
      globals = good.globals;
      sizes = line_sizes (number_in p) world.arrays t q line other_way ∙ good.sizes;
      stored = last_stored line;
      put_aside = none_aside story (last_memory line);
    }

    next_end : r.q + 6 + 7 ≡ next_place c
    unfolding bytes_of
    next_end = omega (arith, end)

    -- the turn of the next line goes on with the next item
    goes_on : (line : List ℕ) (lines : List (List ℕ)) → turn_on line full whole.state
        ≡ turn_from (next_of story a p (next_state line lines))
        (state_of story a p (next_state line lines) (last_memory line) count counts)
    unfolding turn_on
    goes_on line lines =
        ap (λ (o : Out Next). after_step o turn_from
        (λ place u. Some (ended (record { program_counter = r.q + 6; fuel = full }) place u))) (given_is line)
        ∙ ap (λ n. turn_from (point n full) (at_words (around c) (last_memory line) locals s [])) next_end

    pub line_led : (lines : List (List ℕ)) → world.lines ≡ lines
        → LedOnFrom c s (stack.after_part (next_line (number_in p) full t q (situation_here c) lines)
        (λ _ situation. stack.goes (stack.after (at c s) s situation)))
    line_led [] e = no_line e
    line_led (line ∷ lines) e = record {
      line = line;
      lines = e;
      whole = whole;
      turns = turns;
      waits = refl;
      texts = ap (λ bytes. world.texts ++ bytes ∷ []) (sym (append-nil world.text));
      memory = last_memory line;
      count = count;
      counts = counts;
      good = next_good line lines;
      given = goes_on line lines;
    }
