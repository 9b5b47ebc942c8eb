-- The item that goes on to the next object, in a loop over all objects.
use Rattle.std.proofs.Common.{◌≡◌, ℕ, ◌+◌, ◌-◌, ◌%◌, ◌<◌, ◌≤◌, ◌⊎◌, inl, inr, List, [], ◌∷◌, length, Option, None, Bool}
use Rattle.std.proofs.Common.{true, false, refl, sym, ap, ◌∙◌, subst, arith}
use Rattle.std.specs.Prelude.{nat_le, nat_lt, not, ◌&&◌, if◌then◌else◌}
use Rattle.std.specs.List.{flat_map}
use Rattle.std.proofs.lemmas.Bool.{cases_lt, lt-ltb, le-ltb, ltb-true, and_parts}
use Rattle.zcore.specs.declared.instruction.Operand.{Operand}
use Rattle.zcore.specs.declared.instruction.Operand.TheVariants.{Large, Small, Variable}
use Rattle.zcore.specs.declared.instruction.Operation.TheVariants as operations
use Rattle.zcore.specs.Arithmetic.{signed_less}
use Rattle.zcore.specs.Instruction.{Instruction}
use Rattle.zcore.specs.InstructionBytes.{bytes_of}
use Rattle.zcore.specs.Parts.{jump_target, operand_value}
use Rattle.zcore.specs.State.{State, done}
use Rattle.zcore.specs.Execution.{perform}
use Rattle.meaning.specs.declared.resolved.Variable as resolved
use Rattle.meaning.specs.Sizes.{greatest_routine_weight}
use Rattle.meaning.specs.World.{value_in, with_value, write_variable, give, ◌>>=◌}
use Rattle.code_drafts.specs.Items.{agrees}
use Rattle.code_drafts.specs.Items as items
use Rattle.code_items.specs.Stack as stack
use Rattle.code_drafts.specs.Instructions.{branching, number_of, jump_offset}
use Rattle.code_instructions.specs.Instructions.{is_between}
use Rattle.code_instructions.specs.ObjectCode.{jump_by}
use Rattle.code.specs.Bytes.{place_of}
use Rattle.code.specs.HeldProgram.{sizes_of}
use Rattle.code.proofs.Behind.{Holds}
use Rattle.code.proofs.Play.{Leads, address, base, none_aside}
use Rattle.code.proofs.Parts.{machine as at_words, Writes}
use Rattle.code.proofs.Steps.{point, leads_then, one_step, first_held, others_held, two_operands, small_value}
use Rattle.code.proofs.Steps.{large_value, variable_value, landing}
use Rattle.code.proofs.SingleSteps.{increase, increment_step}
use Rattle.code.proofs.Places.{ends_by, offset_leads}
use Rattle.code.proofs.Arriving.{Running, at_aside, around, here, LedFrom, code_held, situation_here, ArrivesAt}
use Rattle.code.proofs.Variables.{memory_with, Held, variable_held}
use Rattle.code.proofs.Temporaries.{scratch_here}
use Rattle.code.proofs.Alone.{next_place, plain_length}
use Rattle.code.proofs.Moving.{IsVariableHere}
use Rattle.code.proofs.Jumping.{is_in, short, jumps_led}
use Rattle.code.proofs.TestedWords.{between_tests}
use Rattle.code.proofs.TestedObjects.{never, objects_here, objects_are}
use Rattle.code.proofs.Working.{branch_leads}
use Rattle.code.proofs.FirstObject.{variable_led}

-- the object after it is one
next_by : (n o : ℕ) → n ≤ 2000 → (o < n) ⊎ (n ≤ o) → is_between 1 n o ≡ (nat_le 1 o && nat_lt o n)
next_by n o few (inl h) =
    let e : nat_lt o 32768 ≡ true = lt-ltb o 32768 (omega (arith, few, h)) in
    rw e refl
next_by n o few (inr h) =
    let f : nat_lt o n ≡ false = le-ltb o n h in
    rw (f, never (nat_le 1 o), never (nat_lt o 32768)) refl

-- the offset of a jump from two bytes before a place
two_before : (next there : ℕ) → 2 ≤ next → next ≤ greatest_routine_weight
    → (jump_offset next there + 2) % 65536 ≡ jump_offset (next - 2) there
two_before next there long low = omega (arith, long, low)

module _ (c : Running) where
  open c use {story, a, p, accepted, holds, full, m, count, counts, routine, place, callers, locals, world, good}

  -- The next object

  abbrev Second : Bool → resolved.Variable → ℕ → Option ℕ → List ℕ → stack.Next
  Second b x target aside words =
      stack.after_part
      ((if b then (write_variable x (value_in x (situation_here c) + 1) >>= λ _. give true) else give false)
      (situation_here c))
      (λ so situation. stack.branch (agrees so false) target words
      (record (at_aside c aside words) { situation = situation }))

  -- two tests, of which the first leads to the jump between the second and what is after it
  next_leads : (below within : Bool) (st : State) (q away : ℕ)
      → Leads (point q world.fuel) st (point (landing true below (q + 4) away) world.fuel) st
      → Leads (point (q + 4) world.fuel) st (point (landing true within (q + 4 + away) 3) world.fuel) st
      → Leads (point q world.fuel) st
      (point (if not below && within then q + 4 + away + 3 else q + 4 + away) world.fuel) st
  next_leads true within st q away e f = e
  next_leads false true st q away e f =
      leads_then (point q world.fuel) (point (q + 4) world.fuel) (point (q + 4 + away + 3) world.fuel) st st st e f
  next_leads false false st q away e f =
      leads_then (point q world.fuel) (point (q + 4) world.fuel) (point (q + 4 + away) world.fuel) st st st e f

  module _ (x : resolved.Variable) (target : ℕ) (aside : Option ℕ) (words : List ℕ) (is : IsVariableHere c x)
      (room : length words ≤ 48) (stands : ArrivesAt c (items.next_object x target)) where
    abbrev variable : ℕ
    variable = number_of x

    abbrev object : ℕ
    object = value_in x (situation_here c)

    abbrev st : State
    st = at_words (around c) m locals words world.text

    abbrev over : ℕ
    over = jump_offset (place_of (sizes_of p) (is_in c) (place + 1)) (place_of (sizes_of p) (is_in c) target)

    abbrev jump : Instruction
    jump = jump_by (over + 2)

    abbrev test : Operand → ℕ → Instruction
    test o offset = branching operations.JumpIfLess (Variable variable ∷ o ∷ []) true offset

    -- by whether the number of objects is a small constant
    abbrev form : Bool → List Instruction
    form small =
        test (Small 1) (if small then 6 else 8)
        ∷ test (if small then Small (objects_here c) else Large (objects_here c)) 5
        ∷ jump
        ∷ increase (around c) world.fuel variable
        ∷ []

    held : Held c m x
    held = variable_held c m x (scratch_here c) is

    abbrev is_next : Bool
    is_next = not (signed_less object 1) && signed_less object (objects_here c)

    one_test : (o : Operand) (n d there : ℕ) → operand_value o st ≡ done n st → d < 8190 → here c ≤ there
        → 0 < length (bytes_of (test o (2 + d))) → there + length (bytes_of (test o (2 + d))) + d < length m
        → Holds m there (bytes_of (test o (2 + d)))
        → Leads (point there world.fuel) st
        (point (landing true (signed_less object n) (there + length (bytes_of (test o (2 + d)))) d) world.fuel) st
    unfolding perform
    one_test o n d there value near behind some within h =
        branch_leads c words m there d operations.JumpIfLess (Variable variable ∷ o ∷ []) (object ∷ n ∷ []) true
        (signed_less object n) (scratch_here c) behind
        (record { least = omega arith; most = omega arith; result_fits = tt; branch_fits = omega (arith, near) })
        (two_operands st st st (Variable variable) o object n
        (variable_value (around c) m locals words world.text variable object held.reads) value)
        (λ after. refl) near some within h

    -- what stands here, where the second test has so many bytes
    record Pieces (away : ℕ) : Type 0 where
      tests : Leads (point (here c) world.fuel) st
          (point (if is_next then here c + 4 + away + 3 else here c + 4 + away) world.fuel) st
      jumps : Holds m (here c + 4 + away) (bytes_of jump)
      steps : Holds m (here c + 4 + away + 3) (bytes_of (increase (around c) world.fuel variable))
      end : here c + 4 + away + 3 + 2 ≡ next_place c

    small_pieces : Holds m (here c) (flat_map bytes_of (form true))
        → here c + length (flat_map bytes_of (form true)) ≡ next_place c → Pieces 4
    unfolding bytes_of
    small_pieces h end =
        let lower = test (Small 1) 6 in
        let upper = test (Small (objects_here c)) 5 in
        let inc = increase (around c) world.fuel variable in
        let h1 = others_held m (here c) lower (upper ∷ jump ∷ inc ∷ []) h in
        let h2 = others_held m (here c + 4) upper (jump ∷ inc ∷ []) h1 in
        let h3 = others_held m (here c + 4 + 4) jump (inc ∷ []) h2 in
        record {
          tests = next_leads (signed_less object 1) (signed_less object (objects_here c)) st (here c) 4
              (one_test (Small 1) 1 4 (here c) (small_value st 1) (omega arith) (omega arith) (omega arith)
              (omega (arith, end, stands.followed)) (first_held m (here c) lower (upper ∷ jump ∷ inc ∷ []) h))
              (one_test (Small (objects_here c)) (objects_here c) 3 (here c + 4) (small_value st (objects_here c))
              (omega arith) (omega arith) (omega arith) (omega (arith, end, stands.followed))
              (first_held m (here c + 4) upper (jump ∷ inc ∷ []) h1));
          jumps = first_held m (here c + 4 + 4) jump (inc ∷ []) h2;
          steps = first_held m (here c + 4 + 4 + 3) inc [] h3;
          end = omega (arith, end);
        }

    large_pieces : Holds m (here c) (flat_map bytes_of (form false))
        → here c + length (flat_map bytes_of (form false)) ≡ next_place c → Pieces 6
    unfolding bytes_of
    large_pieces h end =
        let lower = test (Small 1) 8 in
        let upper = test (Large (objects_here c)) 5 in
        let inc = increase (around c) world.fuel variable in
        let h1 = others_held m (here c) lower (upper ∷ jump ∷ inc ∷ []) h in
        let h2 = others_held m (here c + 4) upper (jump ∷ inc ∷ []) h1 in
        let h3 = others_held m (here c + 4 + 6) jump (inc ∷ []) h2 in
        record {
          tests = next_leads (signed_less object 1) (signed_less object (objects_here c)) st (here c) 6
              (one_test (Small 1) 1 6 (here c) (small_value st 1) (omega arith) (omega arith) (omega arith)
              (omega (arith, end, stands.followed)) (first_held m (here c) lower (upper ∷ jump ∷ inc ∷ []) h))
              (one_test (Large (objects_here c)) (objects_here c) 3 (here c + 4) (large_value st (objects_here c))
              (omega arith) (omega arith) (omega arith) (omega (arith, end, stands.followed))
              (first_held m (here c + 4) upper (jump ∷ inc ∷ []) h1));
          jumps = first_held m (here c + 4 + 6) jump (inc ∷ []) h2;
          steps = first_held m (here c + 4 + 6 + 3) inc [] h3;
          end = omega (arith, end);
        }

    -- the jump leads to the target, two bytes before the next item
    jump_there : (q : ℕ) → here c ≤ q → q + 3 + 2 ≡ next_place c
        → jump_target (q + 3) ((over + 2) % 65536) ≡ address story a p routine target
    jump_there q from end =
        let b = base story a p routine in
        let next = place_of (sizes_of p) (is_in c) (place + 1) in
        let there = place_of (sizes_of p) (is_in c) target in
        let n = next - 2 in
        let long : 2 ≤ next = omega (arith, end, from) in
        let low : next ≤ greatest_routine_weight = omega (arith, short c, ends_by (sizes_of p) (is_in c) (place + 1)) in
        let number : b + n ≡ q + 3 = omega (arith, end, long) in
        let same : (over + 2) % 65536 ≡ jump_offset n there = two_before next there long low in
        ap (λ (k : ℕ). jump_target k ((over + 2) % 65536)) (sym number)
        ∙ ap (λ (k : ℕ). jump_target (b + n) k) same
        ∙ offset_leads b n there (omega (arith, low))
        (omega (arith, short c, ends_by (sizes_of p) (is_in c) target))

    next_by_pieces : (away : ℕ) → Pieces away → (b : Bool) → is_next ≡ b
        → (b ≡ true → object < 2000)
        → LedFrom c words (Second b x target aside words)
    unfolding bytes_of
    next_by_pieces away t true e few =
        let q = here c + 4 + away + 3 in
        let word = object + 1 in
        let same : word ≡ word % 65536 = omega (arith, few refl) in
        let to = at_words (around c) (memory_with c m x word) (with_value x word (situation_here c)).locals words
        world.text in
        let leads = subst (λ b. Leads (point (here c) world.fuel) st
        (point (if b then q else here c + 4 + away) world.fuel) st) e t.tests in
        variable_led c x word (q + 2) words is room t.end
        (leads_then (point (here c) world.fuel) (point q world.fuel) (point (q + 2) world.fuel) st st to leads
        (one_step (point q world.fuel) (point (q + 2) world.fuel) st to
        (increment_step (around c) world.fuel m locals words world.text (memory_with c m x word)
        (with_value x word (situation_here c)).locals q variable object held.reads
        (subst (λ w. Writes (around c) m locals variable w (memory_with c m x word)
        (with_value x word (situation_here c)).locals) same (held.writes word)) t.steps)))
    next_by_pieces away t false e few =
        let q = here c + 4 + away in
        let leads = subst (λ b. Leads (point (here c) world.fuel) st
        (point (if b then q + 3 else q) world.fuel) st) e t.tests in
        jumps_led c q ((over + 2) % 65536) target None words words room (none_aside story m) (omega arith)
        (jump_there q (omega arith) (omega (arith, t.end))) (omega arith) (omega (arith, t.end)) t.jumps leads

    stepped : LedFrom c words
        (Second (nat_le 1 object && nat_lt object (length p.objects)) x target aside words)
    stepped =
        subst (λ b. LedFrom c words (Second b x target aside words)) same
        (go (nat_lt (objects_here c) 256) (code_held c (items.next_object x target) stands)
        (omega (arith, stands.next, plain_length c (items.next_object x target) refl)))
      where
        few : length p.objects ≤ 2000
        few = accepted.few

        same : is_next ≡ (nat_le 1 object && nat_lt object (length p.objects))
        same =
            sym (between_tests 1 (objects_here c) object (omega arith) (omega (arith, objects_are c, few)))
            ∙ ap (λ (n : ℕ). is_between 1 n object) (objects_are c)
            ∙ next_by (length p.objects) object few (cases_lt object (length p.objects))

        low : is_next ≡ true → object < 2000
        low e =
            let both = and_parts (nat_le 1 object) (nat_lt object (length p.objects)) (sym same ∙ e) in
            omega (arith, ltb-true _ _ both.1, few)

        go : (small : Bool) → Holds m (here c) (flat_map bytes_of (form small))
            → here c + length (flat_map bytes_of (form small)) ≡ next_place c
            → LedFrom c words (Second is_next x target aside words)
        go true h end = next_by_pieces 4 (small_pieces h end) is_next refl low
        go false h end = next_by_pieces 6 (large_pieces h end) is_next refl low

  pub next_object_led : (x : resolved.Variable) (target : ℕ) (aside : Option ℕ) (words : List ℕ)
      → IsVariableHere c x → length words ≤ 48 → ArrivesAt c (items.next_object x target)
      → LedFrom c words (stack.decides (stack.steps_object p x) false target words (at_aside c aside words))
  next_object_led x target aside words is room stands = stepped x target aside words is room stands
