-- The first byte of an array into which a line is read, and its tests: they are those of the source.
use Rattle.std.proofs.Common.{◌≡◌, ◌⊎◌, inl, inr, ℕ, ◌+◌, ◌*◌, ◌<◌, ◌≤◌, List, [], ◌∷◌, ◌++◌, length, slice_index, Some}
use Rattle.std.proofs.Common.{Bool, true, false, refl, sym, ◌∙◌, arith}
use Rattle.std.specs.Prelude.{nat_lt, nat_le, not, ◌&&◌}
use Rattle.std.specs.List.{flat_map}
use Rattle.std.proofs.lemmas.Bool.{cases_lt, lt-ltb, le-ltb, le-leb, lt-leb, and_parts, and_from, leb-true, ltb-true}
use Rattle.zcore.specs.declared.instruction.Operand.TheVariants.{Large, Small}
use Rattle.zcore.specs.Arithmetic.{signed_less}
use Rattle.zcore.specs.Instruction.{Instruction}
use Rattle.zcore.specs.InstructionBytes.{bytes_of}
use Rattle.zcore.specs.Header.{static_base_of}
use Rattle.syntax_trees.specs.declared.tree.Width.TheVariants as widths
use Rattle.meaning.specs.declared.cause.Cause.TheVariants as causes
use Rattle.meaning.specs.Limits.{most_array_bytes}
use Rattle.meaning.specs.Reading.{holds_letters, holds_words}
use Rattle.code_drafts.specs.Items as items
use Rattle.code_items.specs.Stack as stack
use Rattle.code.specs.ItemCode.{first_byte, letters_in, words_in, tested_first}
use Rattle.code.proofs.Play.{LedOn, next_of, state_of}
use Rattle.code.proofs.Memory.{with_variable}
use Rattle.code.proofs.Flat.{array_within}
use Rattle.code.proofs.StoredEntries.{entry_is}
use Rattle.code.proofs.Parts.{machine as at_words}
use Rattle.code.proofs.Steps.{point, leads_then, one_step, first_held, others_held, two_operands, small_value}
use Rattle.code.proofs.Steps.{large_value}
use Rattle.code.proofs.Fitting.{Shaped}
use Rattle.code.proofs.HeldRoutines.{address_high}
use Rattle.code.proofs.Arriving.{Running, at, around, here}
use Rattle.code.proofs.Temporaries.{Scratch, scratch_with, reads_written, word_unwritten, made}
use Rattle.code.proofs.Delivering.{given as gives}
use Rattle.code.proofs.Alone.{next_place}
use Rattle.code.proofs.TestedWords.{Reached, Tested, tested, reads_still}
use Rattle.code.proofs.Loading.{loads, bytes_in, array_there, static_small}

-- The tests of a first byte are those of the source

same_truth : (b d : Bool) → (b ≡ true → d ≡ true) → (d ≡ true → b ≡ true) → b ≡ d
same_truth true d f g = sym (f refl)
same_truth false true f g = g refl
same_truth false false f g = refl

-- from 1 on and below an end
some_below : (end v : ℕ) → end < 32768 → (v < 32768) ⊎ (32768 ≤ v) → (v < 1) ⊎ (1 ≤ v)
    → (not (signed_less v 1) && signed_less v end) ≡ (nat_le 1 v && nat_lt v end)
some_below end v small (inl h) (inl l) =
    let f : nat_le 32768 v ≡ false = lt-leb 32768 v h in
    let g : nat_lt v 1 ≡ true = lt-ltb v 1 l in
    let k : nat_le 1 v ≡ false = lt-leb 1 v l in
    rw (f, g, k) refl
some_below end v small (inl h) (inr l) =
    let f : nat_le 32768 v ≡ false = lt-leb 32768 v h in
    let g : nat_lt v 1 ≡ false = le-ltb v 1 l in
    let k : nat_le 1 v ≡ true = le-leb 1 v l in
    let e : nat_le 32768 end ≡ false = lt-leb 32768 end small in
    rw (f, g, k, e) refl
some_below end v small (inr h) l =
    let f : nat_le 32768 v ≡ true = le-leb 32768 v h in
    let k : nat_le 1 v ≡ true = le-leb 1 v (omega (arith, h)) in
    let e : nat_lt v end ≡ false = le-ltb v end (omega (arith, h, small)) in
    rw (f, k, e) refl

-- what is known of a byte that is read where an array begins
abbrev IsFirst : List ℕ → ℕ → Type 0
IsFirst bytes v = 0 < length bytes → v ≡ slice_index bytes 0

abbrev pub passes : ℕ → ℕ → Bool
passes most v = not (signed_less v 1) && signed_less v (most + 1)

pub letters_pass : (text : List ℕ) (v : ℕ) → length text ≤ most_array_bytes → IsFirst text v
    → passes (letters_in (length text)) v ≡ holds_letters text
letters_pass text v short first =
    let most = letters_in (length text) in
    let w = slice_index text 0 in
    some_below (most + 1) v (omega (arith, short)) (cases_lt v 32768) (cases_lt v 1)
    ∙ same_truth (nat_le 1 v && nat_lt v (most + 1)) (holds_letters text)
    (λ e.
    let both = and_parts (nat_le 1 v) (nat_lt v (most + 1)) e in
    let low = leb-true 1 v both.0 in
    let below = ltb-true v (most + 1) both.1 in
    let is = first (omega (arith, low, below)) in
    and_from _ _ (le-leb 1 w (omega (arith, is, low))) (le-leb (w + 2) (length text) (omega (arith, is, low, below))))
    (λ e.
    let both = and_parts (nat_le 1 w) (nat_le (w + 2) (length text)) e in
    let low = leb-true 1 w both.0 in
    let room = leb-true (w + 2) (length text) both.1 in
    let is = first (omega (arith, room)) in
    and_from _ _ (le-leb 1 v (omega (arith, is, low))) (lt-ltb v (most + 1) (omega (arith, is, room))))

pub words_pass : (parse : List ℕ) (v : ℕ) → length parse ≤ most_array_bytes → IsFirst parse v
    → passes (words_in (length parse)) v ≡ holds_words parse
words_pass parse v short first =
    let most = words_in (length parse) in
    let w = slice_index parse 0 in
    some_below (most + 1) v (omega (arith, short)) (cases_lt v 32768) (cases_lt v 1)
    ∙ same_truth (nat_le 1 v && nat_lt v (most + 1)) (holds_words parse)
    (λ e.
    let both = and_parts (nat_le 1 v) (nat_lt v (most + 1)) e in
    let low = leb-true 1 v both.0 in
    let below = ltb-true v (most + 1) both.1 in
    let is = first (omega (arith, low, below)) in
    and_from _ _ (le-leb 1 w (omega (arith, is, low)))
    (le-leb (4 * w + 2) (length parse) (omega (arith, is, low, below))))
    (λ e.
    let both = and_parts (nat_le 1 w) (nat_le (4 * w + 2) (length parse)) e in
    let low = leb-true 1 w both.0 in
    let room = leb-true (4 * w + 2) (length parse) both.1 in
    let is = first (omega (arith, room)) in
    and_from _ _ (le-leb 1 v (omega (arith, is, low))) (lt-ltb v (most + 1) (omega (arith, is, room))))

module _ (c : Running) where
  open c use {story, a, p, accepted, holds, full, m, count, counts, routine, place, callers, locals, world, good}

  abbrev pub LedOnFrom : List ℕ → stack.Next → Type 0
  LedOnFrom words next =
      LedOn story a p full (next_of story a p (at c words)) (state_of story a p (at c words) m count counts) world next

  -- where an array begins
  abbrev pub place_in : ℕ → ℕ
  place_in n = slice_index a.arrays n

  -- it is below static memory, or where that begins
  array_low : (n : ℕ) → n < length p.arrays → place_in n ≤ static_base_of story
  array_low n known =
      let r = good.stored.regions in
      let there = array_there c n known in
      omega (arith, r.places n there, r.below, array_within world.arrays n there)

  static_within : next_place c < length m → static_base_of story < length m
  static_within followed =
      omega (arith, address_high story a p accepted holds routine (place + 1) good.known, followed)

  -- A first byte

  -- it goes to a temporary
  abbrev pub byte_in : ℕ → List ℕ → ℕ
  byte_in n other = slice_index other (place_in n + 0)

  loaded : (n : ℕ) (s : List ℕ) (is : List Instruction) → n < length p.arrays → length s ≤ 48
      → next_place c < length m → Reached c s s m (first_byte (place_in n) ∷ is) → Reached c s s m is
  unfolding bytes_of
  loaded n s is known room followed r =
      let i = first_byte (place_in n) in
      let v = byte_in n r.memory in
      let m1 = with_variable r.memory 248 v in
      let st = at_words (around c) r.memory locals s world.text in
      let to = at_words (around c) m1 locals s world.text in
      let shaped : Shaped i =
      record { least = omega arith; most = omega arith; result_fits = omega arith; branch_fits = tt } in
      let low = array_low n known in
      let makes = made c r.memory s s world.text r.q i (place_in n ∷ 0 ∷ []) r.scratch r.from shaped
      (first_held m r.q i is r.held)
      (two_operands st st st (Large (place_in n)) (Small 0) (place_in n) 0 (large_value st (place_in n))
      (small_value st 0)) in
      let does = loads widths.Byte (point r.q world.fuel) (r.q + 6) (Some 248) (place_in n) 0 st
      (omega (arith, low, static_within followed, r.scratch.stored.size, good.stored.size))
      (omega (arith, low, static_small c)) in
      let gone = gives c items.nowhere v (r.q + 6) r.q s r.memory world.text tt r.scratch room in
      record {
        memory = m1;
        scratch = scratch_with c r.memory 248 v r.scratch (omega arith) (omega arith);
        q = r.q + 6;
        from = omega (arith, r.from);
        held = others_held m r.q i is r.held;
        leads = leads_then (point (here c) world.fuel) (point r.q world.fuel) (point (r.q + 6) world.fuel)
            (at_words (around c) m locals s world.text) st to r.leads
            (one_step (point r.q world.fuel) (point (r.q + 6) world.fuel) st to (makes ∙ does ∙ gone));
        unwritten = λ x lowest small. word_unwritten c r.memory 248 v x r.scratch (omega arith) (omega arith)
            (omega (arith, lowest)) (λ f. omega (arith, f, lowest)) ∙ r.unwritten x lowest small;
      }

  -- it is that of the array, where there is one
  pub byte_is : (n : ℕ) (other : List ℕ) → n < length p.arrays → Scratch c other
      → IsFirst (bytes_in c n) (byte_in n other)
  byte_is n other known scratch some =
      entry_is story a p world.globals world.arrays world.objects other scratch.stored n (array_there c n known)
      widths.Byte 0
      (lt-ltb 0 (length (bytes_in c n)) some)

  -- a first byte, and its tests
  pub first_tested : (n most : ℕ) (s : List ℕ) (rest : List Instruction) → n < length p.arrays → length s ≤ 48
      → next_place c < length m
      → (r : Reached c s s m (first_byte (place_in n) ∷ (tested_first a most ++ rest)))
      → r.q + length (flat_map bytes_of (first_byte (place_in n) ∷ (tested_first a most ++ rest))) ≡ next_place c
      → Tested c causes.BufferTooSmall (passes most (byte_in n r.memory)) (byte_in n r.memory) s s m (λ _. rest)
  unfolding bytes_of loaded
  first_tested n most s rest known room followed r end =
      tested c causes.BufferTooSmall 1 248 (byte_in n r.memory) (most + 1) (λ _. rest) s s m
      (loaded n s (tested_first a most ++ rest) known room followed r)
      (reads_written c r.memory 248 (byte_in n r.memory) r.scratch (omega arith) (omega arith))
      (reads_still c r.memory (byte_in n r.memory) r.scratch) (omega (arith, end)) followed
