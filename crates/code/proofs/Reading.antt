-- The item that reads a line: its tests, and the turn of the line.
use Rattle.std.proofs.Common.{◌≡◌, ◌≢◌, ℕ, ◌<◌, ◌≤◌, List, ◌∷◌, ◌++◌, length, Bool, true, false, refl, sym, ap, ◌∙◌}
use Rattle.std.proofs.Common.{subst, arith}
use Rattle.std.specs.Prelude.{if◌then◌else◌, ◌&&◌}
use Rattle.zcore.specs.declared.place.Place.TheVariants as places
use Rattle.zcore.specs.Instruction.{Instruction}
use Rattle.meaning.specs.declared.cause.Cause.{Cause}
use Rattle.meaning.specs.declared.cause.Cause.TheVariants as causes
use Rattle.meaning.specs.Limits.{most_array_bytes}
use Rattle.meaning.specs.Places.{number_in}
use Rattle.meaning.specs.Reading.{holds_letters, holds_words, next_line, read_next}
use Rattle.meaning.specs.World.{Situation, Outcome, Comes, to, over, Part, bound}
use Rattle.meaning.specs.World as source
use Rattle.code_drafts.specs.Items as items
use Rattle.code_items.specs.Stack as stack
use Rattle.code_drafts.specs.Addresses.{fault_address}
use Rattle.code_drafts.specs.Instructions.{fail}
use Rattle.code.specs.ItemCode.{first_byte, letters_in, words_in, tested_first, line_code}
use Rattle.code.proofs.Play.{stays, next_of, state_of, PlaysAs}
use Rattle.code.proofs.Parts.{machine as at_words}
use Rattle.code.proofs.Steps.{point}
use Rattle.code.proofs.Texts.{cause_line}
use Rattle.code.proofs.Arriving.{Running, at, around, here, LedFrom, code_held, situation_here, ArrivesAt}
use Rattle.code.proofs.Temporaries.{scratch_here}
use Rattle.code.proofs.Alone.{next_place, plain_length}
use Rattle.code.proofs.ItemsThatPrint.{fails_led}
use Rattle.code.proofs.TestedWords.{Reached, Tested}
use Rattle.code.proofs.Loading.{bytes_in, size_in, array_size, array_short}
use Rattle.code.proofs.FirstBytes.{passes, letters_pass, words_pass, LedOnFrom, place_in, byte_in, byte_is}
use Rattle.code.proofs.FirstBytes.{first_tested}
use Rattle.code.proofs.ReadLines.{line_led}

-- a fault ends the run

over_bound : {A B : Type 0} (c : Comes A) (k : A → Part B)
    → ((x : A) (s : Situation) → (o : Outcome) × (k x s ≡ over o)) → (o : Outcome) × (bound c k ≡ over o)
over_bound (to x s) k h = h x s
over_bound (over o) k h = (o, refl)

fault_over : (cause : Cause) (s : Situation) → (o : Outcome) × (source.fault {A = Unit {0}} cause s ≡ over o)
fault_over cause s = over_bound (source.put _ s) (λ _. source.ends places.Quit)
    (λ _ t. (source.ended places.Quit t.world, refl))

module _ (c : Running) where
  open c use {story, a, p, accepted, holds, full, m, count, counts, routine, place, callers, locals, world, good}

  -- the fault, as an item that reads comes to it
  too_small : (s : List ℕ) → Reached c s s m (fail (fault_address a causes.BufferTooSmall))
      → LedOnFrom c s (stack.after_part (source.fault {A = Unit {0}} causes.BufferTooSmall (situation_here c))
      (λ _ situation. stack.goes (stack.after (at c s) s situation)))
  too_small s r =
      let k : Unit {0} → Situation → stack.Next = λ _ situation. stack.goes (stack.after (at c s) s situation) in
      let ends = fault_over causes.BufferTooSmall (situation_here c) in
      let led = fails_led c causes.BufferTooSmall (fault_address a causes.BufferTooSmall) r.q s s r.memory k
      (cause_line causes.BufferTooSmall) (holds.faults causes.BufferTooSmall) r.from r.scratch r.held r.leads in
      let over_led : PlaysAs full (next_of story a p (at c s)) (state_of story a p
      (at c s) m count counts) world ends.0 =
      subst (λ (x : Comes (Unit {0})). LedFrom c s (stack.after_part x k)) ends.1 led in
      subst (λ (x : Comes (Unit {0})). LedOnFrom c s (stack.after_part x k)) (sym ends.1) over_led

  -- Both tests, and the line

  size_is : (n : ℕ) → n < length p.arrays → size_in c n ≡ length (bytes_in c n)
  size_is n known = omega (arith, array_short c n known, array_size c n)

  short_array : (n : ℕ) → n < length p.arrays → length (bytes_in c n) ≤ most_array_bytes
  short_array n known = omega (arith, array_short c n known, array_size c n)

  module _ (t q : ℕ) (text : t < length p.arrays) (parse : q < length p.arrays) (apart : t ≢ q) (s : List ℕ)
      (room : length s ≤ 48) (followed : next_place c < length m) where
    abbrev behind_text : List Instruction
    behind_text =
        first_byte (place_in c q) ∷ (tested_first a (words_in (size_in c q)) ++ line_code (place_in c t) (place_in c q))

    abbrev reading : Bool → stack.Next
    reading b =
        stack.after_part (if b then next_line (number_in p) full t q (situation_here c) world.lines
        else source.fault causes.BufferTooSmall (situation_here c))
        (λ _ situation. stack.goes (stack.after (at c s) s situation))

    second_led : holds_letters (bytes_in c t) ≡ true → (v : ℕ) (b : Bool) → holds_words (bytes_in c q) ≡ b
        → Tested c causes.BufferTooSmall b v s s m (λ _. line_code (place_in c t) (place_in c q))
        → LedOnFrom c s (reading b)
    second_led letters v false e r = too_small s r
    second_led letters v true e there =
        line_led c t q text parse apart letters e s room followed there.reached there.end world.lines refl

    first_led : (v : ℕ) (b : Bool) → holds_letters (bytes_in c t) ≡ b
        → Tested c causes.BufferTooSmall b v s s m (λ _. behind_text)
        → LedOnFrom c s (reading (b && holds_words (bytes_in c q)))
    first_led v false e r = too_small s r
    first_led v true e there =
        let w = byte_in c q there.reached.memory in
        let same = ap (λ (n : ℕ). passes (words_in n) w) (size_is q parse)
        ∙ words_pass (bytes_in c q) w (short_array q parse)
        (byte_is c q there.reached.memory parse there.reached.scratch) in
        second_led e w (holds_words (bytes_in c q)) refl
        (subst (λ b. Tested c causes.BufferTooSmall b w s s m (λ _. line_code (place_in c t) (place_in c q))) same
        (first_tested c q (words_in (size_in c q)) s (line_code (place_in c t) (place_in c q)) parse room followed
        there.reached there.end))

  pub read_led : (t q : ℕ) (s : List ℕ) → t < length p.arrays → q < length p.arrays → t ≢ q → length s ≤ 48
      → ArrivesAt c (items.read_line t q)
      → LedOnFrom c s (stack.prints (read_next (number_in p) full t q) s (at c s))
  read_led t q s text parse apart room stands =
      let item = items.read_line t q in
      let rest = behind_text t q text parse apart s room stands.followed in
      let begin : Reached c s s m (first_byte (place_in c t) ∷ (tested_first a (letters_in (size_in c t)) ++ rest)) =
      record {
        memory = m;
        scratch = scratch_here c;
        q = here c;
        from = omega arith;
        held = code_held c item stands;
        leads = stays (point (here c) world.fuel) (at_words (around c) m locals s world.text);
        unwritten = λ v low small. refl;
      } in
      let v = byte_in c t m in
      let same = ap (λ (n : ℕ). passes (letters_in n) v) (size_is t text)
      ∙ letters_pass (bytes_in c t) v (short_array t text) (byte_is c t m text (scratch_here c)) in
      first_led t q text parse apart s room stands.followed v (holds_letters (bytes_in c t)) refl
      (subst (λ b. Tested c causes.BufferTooSmall b v s s m (λ _. rest)) same
      (first_tested c t (letters_in (size_in c t)) s rest text room stands.followed begin
      (omega (arith, stands.next, plain_length c item refl))))
