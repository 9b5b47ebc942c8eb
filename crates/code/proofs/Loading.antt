-- Items that read an entry of an array, with the fault of an index out of range.
use Rattle.std.proofs.Common.{◌≡◌, ℕ, ◌+◌, ◌*◌, ◌%◌, ◌<◌, ◌≤◌, List, [], ◌∷◌, length, slice_index, Option, Some, None}
use Rattle.std.proofs.Common.{Bool, true, false, refl, sym, ap, ◌∙◌, subst, arith}
use Rattle.std.specs.Prelude.{nat_lt, if◌then◌else◌}
use Rattle.std.proofs.lemmas.Bool.{lt-ltb}
use Rattle.std.proofs.lemmas.List.{length-map}
use Rattle.zcore.specs.declared.instruction.Operand.{Operand}
use Rattle.zcore.specs.declared.instruction.Operand.TheVariants.{Large}
use Rattle.zcore.specs.declared.next.Next.{Next}
use Rattle.zcore.specs.Header.{static_base_of}
use Rattle.zcore.specs.Instruction.{Instruction}
use Rattle.zcore.specs.State.{State}
use Rattle.zcore.specs.Parts.{read_byte, read_word}
use Rattle.zcore.specs.Execution.{perform, give_result, load_word, load_byte}
use Rattle.syntax_trees.specs.declared.tree.Width.{Width}
use Rattle.syntax_trees.specs.declared.tree.Width.TheVariants as widths
use Rattle.meaning.specs.declared.cause.Cause.TheVariants as causes
use Rattle.meaning.specs.Limits.{most_array_bytes}
use Rattle.meaning.specs.World.{to, array_at, entry_count, is_index, entry_at, read_entry}
use Rattle.meaning.specs.World as source
use Rattle.code_drafts.specs.Items.{Destination}
use Rattle.code_drafts.specs.Items as items
use Rattle.code_items.specs.Stack as stack
use Rattle.code_drafts.specs.Addresses.{fault_address}
use Rattle.code_drafts.specs.Instructions.{giving, result_in}
use Rattle.code.specs.ItemCode.{entries_in, is_entry, load_operation}
use Rattle.code.specs.HeldProgram.{sizes_of}
use Rattle.code.proofs.Play.{HoldsAside}
use Rattle.code.proofs.Flat.{size_at}
use Rattle.code.proofs.StoredEntries.{entry_address, read_at, last_byte, entry_inside, entry_is}
use Rattle.code.proofs.Parts.{machine as at_words}
use Rattle.code.proofs.Steps.{point, first_held, two_operands, large_value}
use Rattle.code.proofs.AddressLengths.{one_length}
use Rattle.code.proofs.Texts.{cause_line}
use Rattle.code.proofs.Fitting.{Shaped}
use Rattle.code.proofs.Arriving.{Running, at, around, here, LedFrom, situation_here, ArrivesAt}
use Rattle.code.proofs.Delivering.{result_small}
use Rattle.code.proofs.Alone.{by_operand, alone_count, IsOperandHere, IsHere, gives_here_led}
use Rattle.code.proofs.ItemsThatPrint.{fails_led}
use Rattle.code.proofs.TestedWords.{AtIndex, Indexed}
use Rattle.code.proofs.Indexing.{indexed, indexed_aside}
use Rattle.code.proofs.TestedObjects.{begins, begun_end}

-- an entry is loaded
pub loads : (width : Width) (here : Next) (after : ℕ) (result : Option ℕ) (place i : ℕ) (st : State)
    → last_byte width (entry_address width place i) < length st.memory
    → last_byte width (entry_address width place i) < 65536
    → perform (load_operation width) here after result None (place ∷ i ∷ []) st
    ≡ give_result here after result (read_at width st.memory (entry_address width place i)) st
unfolding perform load_word load_byte read_byte read_word
loads widths.Byte here after result place i st within small =
    let whole : (place + i) % 65536 ≡ place + i = omega (arith, small) in
    let e : nat_lt (place + i) (length st.memory) ≡ true = lt-ltb _ _ within in
    let f : nat_lt (place + i) 65536 ≡ true = lt-ltb _ _ small in
    rw (whole, e, f) refl
loads widths.Word here after result place i st within small =
    let whole : (place + 2 * i) % 65536 ≡ place + 2 * i = omega (arith, small) in
    let e : nat_lt (place + 2 * i) (length st.memory) ≡ true = lt-ltb _ _ (omega (arith, within)) in
    let f : nat_lt (place + 2 * i) 65536 ≡ true = lt-ltb _ _ (omega (arith, small)) in
    let g : nat_lt (place + 2 * i + 1) (length st.memory) ≡ true = lt-ltb _ _ within in
    let h : nat_lt (place + 2 * i + 1) 65536 ≡ true = lt-ltb _ _ small in
    rw (whole, e, f, g, h) refl

-- as many entries as the array has
entries_is : (width : Width) (bytes : List ℕ) → entries_in width (length bytes) ≡ entry_count width bytes
entries_is widths.Byte bytes = refl
entries_is widths.Word bytes = refl

entries_few : (width : Width) (size : ℕ) → size ≤ most_array_bytes → entries_in width size < 32768
entries_few widths.Byte size h = omega (arith, h)
entries_few widths.Word size h = omega (arith, h)

module _ (c : Running) where
  open c use {story, a, p, accepted, holds, full, m, count, counts, routine, place, callers, locals, world, good}

  abbrev pub bytes_in : ℕ → List ℕ
  bytes_in n = array_at world.arrays n

  abbrev pub size_in : ℕ → ℕ
  size_in n = slice_index (sizes_of p).arrays n % 65536

  pub array_there : (n : ℕ) → n < length p.arrays → n < length world.arrays
  array_there n known =
      omega (arith, known, ap length good.sizes, length-map world.arrays length, length-map p.arrays length)

  pub array_size : (n : ℕ) → slice_index (sizes_of p).arrays n ≡ length (bytes_in n)
  array_size n = ap (λ ns. slice_index ns n) (sym good.sizes) ∙ size_at world.arrays n

  pub array_short : (n : ℕ) → n < length p.arrays → slice_index (sizes_of p).arrays n ≤ most_array_bytes
  array_short n known = omega (arith, size_at p.arrays n, accepted.arrays n [] known)

  pub few_entries : (width : Width) (n : ℕ) → n < length p.arrays → entries_in width (size_in n) < 32768
  few_entries width n known = entries_few width (size_in n) (omega (arith, array_short n known))

  -- the test of the code is that of the source
  pub index_same : (width : Width) (n i : ℕ) → n < length p.arrays
      → is_entry (entries_in width (size_in n)) i ≡ is_index width (bytes_in n) i
  index_same width n i known =
      let size : size_in n ≡ length (bytes_in n) = omega (arith, array_short n known, array_size n) in
      ap (λ (k : ℕ). is_entry k i) (ap (entries_in width) size ∙ entries_is width (bytes_in n))

  -- static memory begins at a word
  pub static_small : static_base_of story < 65536
  static_small =
      let high = holds.byte_each 14 0 (omega (arith, holds.globals_above, holds.globals_below, holds.static_below)) in
      let low = holds.byte_each 15 0 (omega (arith, holds.globals_above, holds.globals_below, holds.static_below)) in
      omega (arith, high, low)

  -- Reading

  abbrev place_in : ℕ → ℕ
  place_in n = slice_index a.arrays n

  abbrev load : Width → ℕ → Destination → Operand → Instruction
  load width n d i = giving (load_operation width) (Large (place_in n) ∷ i ∷ []) (result_in d)

  load_shaped : (width : Width) (n : ℕ) (d : Destination) (i : Operand) → Shaped (load width n d i)
  load_shaped widths.Byte n d i =
      record { least = omega arith; most = omega arith; result_fits = result_small d; branch_fits = tt }
  load_shaped widths.Word n d i =
      record { least = omega arith; most = omega arith; result_fits = result_small d; branch_fits = tt }

  abbrev Read : Bool → Width → ℕ → ℕ → Destination → List ℕ → List ℕ → stack.Next
  Read b width n i d before rest =
      stack.after_part
      (if b then to (entry_at width (bytes_in n) i) (situation_here c)
      else source.fault causes.IndexOutOfRange (situation_here c))
      (λ v situation. stack.deliver d v (stack.after (at c before) rest situation))

  -- at an index that is one
  loads_led : (width : Width) (n i : ℕ) (d : Destination) (before rest : List ℕ) → n < length p.arrays → IsHere c d
      → length rest ≤ 48 → is_index width (bytes_in n) i ≡ true
      → AtIndex c i before rest m (λ i. load width n d i ∷ []) → LedFrom c before (Read true width n i d before rest)
  loads_led width n i d before rest known is_d room index t =
      let other = t.reached.memory in
      let k = load width n d t.operand in
      let st = at_words (around c) other locals rest world.text in
      let stored = t.reached.scratch.stored in
      let inside = entry_inside story a p world.globals world.arrays world.objects other stored n
      (array_there n known) width i index in
      let value = entry_is story a p world.globals world.arrays world.objects other stored n (array_there n known)
      width i index in
      gives_here_led c (load_operation width) (Large (place_in n) ∷ t.operand ∷ []) d (entry_at width (bytes_in n) i)
      t.reached.q before rest rest other (place_in n ∷ i ∷ []) is_d t.reached.scratch room t.reached.from
      (load_shaped width n d t.operand) (first_held m t.reached.q k [] t.reached.held)
      (omega (arith, t.end, one_length k))
      (two_operands st st st (Large (place_in n)) t.operand (place_in n) i (large_value st (place_in n)) t.value)
      (λ after. loads width (point t.reached.q world.fuel) after (Some (result_in d)) (place_in n) i st inside.long
      (omega (arith, inside.below, static_small))
      ∙ ap (λ (w : ℕ). give_result (point t.reached.q world.fuel) after (Some (result_in d)) w st) value)
      t.reached.leads

  read_led : (b : Bool) (width : Width) (n i : ℕ) (d : Destination) (before rest : List ℕ) → n < length p.arrays
      → IsHere c d → length rest ≤ 48 → is_index width (bytes_in n) i ≡ b
      → Indexed c b i before rest m (λ i. load width n d i ∷ []) → LedFrom c before (Read b width n i d before rest)
  read_led true width n i d before rest known is_d room index t =
      loads_led width n i d before rest known is_d room index t
  read_led false width n i d before rest known is_d room index r =
      fails_led c causes.IndexOutOfRange (fault_address a causes.IndexOutOfRange) r.q before rest r.memory
      (λ v situation. stack.deliver d v (stack.after (at c before) rest situation))
      (cause_line causes.IndexOutOfRange) (holds.faults causes.IndexOutOfRange) r.from r.scratch r.held r.leads

  pub entry_led : (width : Width) (n : ℕ) (o : items.Operand) (d : Destination) (s : List ℕ) → n < length p.arrays
      → IsOperandHere c o → IsHere c d → length s ≤ 48 → ArrivesAt c (items.entry width n o d)
      → LedFrom c s (stack.with_operand o (situation_here c) s
      (λ i rest. stack.gives (read_entry width n i) d rest (at c s)))
  entry_led width n o d s known is is_d short stands =
      by_operand o (situation_here c) s (LedFrom c s) (λ i rest. stack.gives (read_entry width n i) d rest (at c s))
      tt
      (λ i rest alone.
      let item = items.entry width n o d in
      let same = index_same width n i known in
      let there = indexed c (entries_in width (size_in n)) o (λ i. load width n d i ∷ []) s s m i rest
      (few_entries width n known) is alone (begins c item s stands)
      (begun_end c item s refl stands) stands.followed in
      read_led (is_index width (bytes_in n) i) width n i d s rest known is_d
      (omega (arith, short, alone_count o (situation_here c) s i rest alone)) refl
      (subst (λ b. Indexed c b i s rest m (λ i. load width n d i ∷ [])) same there))

  -- at an index that was put aside
  pub entry_aside_led : (width : Width) (n : ℕ) (d : Destination) (aside : Option ℕ) (s : List ℕ)
      → n < length p.arrays → IsHere c d → length s ≤ 48 → HoldsAside story m aside
      → ArrivesAt c (items.entry_aside width n d)
      → LedFrom c s (stack.with_aside aside (λ i. stack.gives (read_entry width n i) d s (at c s)))
  entry_aside_led width n d None s known is_d short held stands = tt
  entry_aside_led width n d (Some i) s known is_d short held stands =
      let item = items.entry_aside width n d in
      let there = indexed_aside c (entries_in width (size_in n)) i (λ i. load width n d i ∷ []) s s
      (few_entries width n known) held (begins c item s stands) (begun_end c item s refl stands) stands.followed in
      read_led (is_index width (bytes_in n) i) width n i d s s known is_d short refl
      (subst (λ b. Indexed c b i s s m (λ i. load width n d i ∷ [])) (index_same width n i known) there)
