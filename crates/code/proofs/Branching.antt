-- The branches of a routine.
use Rattle.std.proofs.Common.{◌≡◌, ℕ, ◌+◌, ◌-◌, ◌<◌, ◌≤◌, List, [], ◌∷◌, ◌++◌, length, Bool, true, false, refl, sym, ap}
use Rattle.std.proofs.Common.{◌∙◌, Option, None, subst, arith}
use Rattle.std.specs.Prelude.{nat_lt, if◌then◌else◌}
use Rattle.std.specs.List.{All, flat_map}
use Rattle.std.proofs.lemmas.Bool.{ltb-true}
use Rattle.std.proofs.lemmas.List.{take_all}
use Rattle.zcore.specs.declared.instruction.Operand.{Operand}
use Rattle.zcore.specs.declared.instruction.Operation.{Operation}
use Rattle.zcore.specs.Instruction.{Instruction}
use Rattle.zcore.specs.InstructionBytes.{bytes_of, FitsOperand}
use Rattle.zcore.specs.State.{done}
use Rattle.zcore.specs.Parts.{operand_values}
use Rattle.meaning.specs.Meaning.{routine_at}
use Rattle.code_drafts.specs.Items.{Item, Test, agrees}
use Rattle.code_drafts.specs.Items as items
use Rattle.code_items.specs.Laws.{IsTestedValue}
use Rattle.code_items.specs.Stack as stack
use Rattle.code_drafts.specs.Instructions.{operands, takes, top, most_tested}
use Rattle.code_instructions.specs.Instructions.{ahead_limit, labelled, test_operation, ordered_code, reverse_test}
use Rattle.code_instructions.specs.Instructions.{are_both_pushed, tested_code, branch_code}
use Rattle.code.specs.ItemBytes.{text_bytes}
use Rattle.code.specs.Bytes.{place_of}
use Rattle.code.specs.HeldProgram.{sizes_of}
use Rattle.code.proofs.Behind.{Holds}
use Rattle.code.proofs.Play.{Leads, address, HoldsAside, none_aside, stays}
use Rattle.code.proofs.Parts.{machine as at_words}
use Rattle.code.proofs.Steps.{point, leads_then, landing, two_operands}
use Rattle.code.proofs.Fitting.{held_bytes}
use Rattle.code.proofs.ItemOperands.{with_first, by_operands, gives_count, gives_length, few_pushed, GivesOperands}
use Rattle.code.proofs.ItemOperands.{operands_length}
use Rattle.code.proofs.Labels.{Branching, label_leads}
use Rattle.code.proofs.Places.{rises, ends_by}
use Rattle.code.proofs.Arriving.{Running, at, at_aside, around, here, high, above, kept, LedFrom, code_here, ArrivesAt}
use Rattle.code.proofs.Arriving.{code_held, arrives_with, situation_here}
use Rattle.code.proofs.Temporaries.{Scratch, scratch_here, held_in}
use Rattle.code.proofs.Taking.{after_takes, taken, apart}
use Rattle.code.proofs.Alone.{IsOperandHere, next_place, plain_length, alone_value}
use Rattle.code.proofs.Jumping.{is_in, short}
use Rattle.code.proofs.Tests.{labelled_fit, branching_some, TestOf, Counted, few_tested, few_given, asked, test_of}
use Rattle.code.proofs.Tests.{holds_turned, counted_turned}
use Rattle.code.proofs.BranchLengths.{both_pushed}

module _ (c : Running) where
  open c use {story, a, p, accepted, holds, full, m, count, counts, routine, place, callers, locals, world, good}

  -- how far a branch of this item leads
  abbrev pub over : ℕ → ℕ
  over target = place_of (sizes_of p) (is_in c) target - place_of (sizes_of p) (is_in c) (place + 1)

  -- After a branch the machine is at the next item, or at the target; what there is of a word of a `switch` is there
  -- still.
  pub lands_led : (aside : Option ℕ) (target : ℕ) (words rest memory : List ℕ) (when holds_so : Bool)
      → length rest ≤ 48 → Scratch c memory → HoldsAside story memory aside
      → Leads (point (here c) world.fuel) (at_words (around c) m locals words world.text)
      (point (landing when holds_so (next_place c) (over target)) world.fuel)
      (at_words (around c) memory locals rest world.text)
      → LedFrom c words (stack.by_case (agrees holds_so when) target (at_aside c aside rest))
  lands_led aside target words rest memory when holds_so left scratch still = go when holds_so
    where
      d : ℕ
      d = over target

      -- it goes on with the next item, or leads to the target
      passes : Leads (point (here c) world.fuel) (at_words (around c) m locals words world.text)
          (point (next_place c) world.fuel) (at_words (around c) memory locals rest world.text)
          → LedFrom c words (stack.goes (record (at_aside c aside rest) { place = place + 1 }))
      passes l = arrives_with c aside words rest memory (situation_here c) (next_place c) still refl left
          scratch.stored refl refl refl l

      jumps : (b : Bool) → nat_lt place target ≡ b
          → Leads (point (here c) world.fuel) (at_words (around c) m locals words world.text)
          (point (next_place c + d) world.fuel) (at_words (around c) memory locals rest world.text)
          → LedFrom c words (if b then stack.goes (record (at_aside c aside rest) { place = target })
          else stack.stuck)
      jumps false e l = tt
      jumps true e l =
          let before : place < target = ltb-true _ _ e in
          let up = rises (sizes_of p) (is_in c) (place + 1) target (omega (arith, before)) in
          let to : next_place c + d ≡ address story a p routine target = omega (arith, up) in
          record {
            memory = memory;
            count = count;
            counts = counts;
            good = record {
              known = good.known;
              locals = good.locals;
              room = left;
              callers = good.callers;
              few = good.few;
              globals = good.globals;
              sizes = good.sizes;
              stored = scratch.stored;
              put_aside = still;
            };
            leads = subst (λ k. Leads (point (here c) world.fuel) (at_words (around c) m locals words world.text)
                (point k world.fuel) (at_words (around c) memory locals rest world.text)) to l;
          }

      go : (w h : Bool) → Leads (point (here c) world.fuel) (at_words (around c) m locals words world.text)
          (point (landing w h (next_place c) d) world.fuel) (at_words (around c) memory locals rest world.text)
          → LedFrom c words (stack.by_case (agrees h w) target (at_aside c aside rest))
      go true true l = jumps (nat_lt place target) refl l
      go true false l = passes l
      go false true l = passes l
      go false false l = jumps (nat_lt place target) refl l

  -- a branch by the words that its operands come to, after what takes them from the stack
  labelled_led : (test : Test) (os : List Operand) (when : Bool) (target : ℕ) (aside : Option ℕ)
      (words before vs rest memory : List ℕ) (q : ℕ) → TestOf test os vs → length rest ≤ 48 → Scratch c memory
      → here c ≤ q
      → Holds m q (flat_map bytes_of (labelled (test_operation test) os when (2 + over target)))
      → next_place c ≡ q + length (flat_map bytes_of (labelled (test_operation test) os when (2 + over target)))
      → operand_values os (at_words (around c) memory locals before world.text)
      ≡ done vs (at_words (around c) memory locals rest world.text)
      → Leads (point (here c) world.fuel) (at_words (around c) m locals words world.text)
      (point q world.fuel) (at_words (around c) memory locals before world.text)
      → LedFrom c words (stack.branch (agrees (stack.holds test vs) when) target rest (at_aside c aside words))
  labelled_led test os when target aside words before vs rest memory q kinds left scratch from held next values leads =
      branches_to (agrees (stack.holds test vs) when)
      (lands_led None target words rest memory when (stack.holds test vs) left scratch (none_aside story memory) there)
    where
      -- a branch takes its operands, and leaves no word of a `switch`
      branches_to : (b : Bool) → LedFrom c words (stack.by_case b target (at c rest))
          → LedFrom c words (stack.branch b target rest (at_aside c aside words))
      branches_to true led = led
      branches_to false led = led

      op : Operation
      op = test_operation test

      d : ℕ
      d = over target

      fit : All FitsOperand os
      fit = labelled_fit ahead_limit op os when (2 + d)
          (held_bytes _ q story m (flat_map bytes_of (labelled op os when (2 + d))) holds.byte_each (kept c)
          (omega (arith, high c, from)) held)

      branching_is : Branching (around c) memory locals before rest world.text op os (stack.holds test vs)
      branching_is = record {
        values = vs;
        fits = λ when offset small. record {
          least = kinds.least;
          most = kinds.most;
          operands_fit = fit;
          result_fits = kinds.result;
          branch_fits = kinds.branch when offset small;
        };
        some = branching_some op os;
        taken = values;
        branches = λ when offset from after.
            kinds.does when offset from after (at_words (around c) memory locals rest world.text);
      }

      within : next_place c + d < length memory
      within = omega (
        arith,
        (holds.routines routine good.known).followed,
        ends_by (sizes_of p) (is_in c) target,
        ends_by (sizes_of p) (is_in c) (place + 1),
        good.stored.size,
        scratch.stored.size,
      )

      there : Leads (point (here c) world.fuel) (at_words (around c) m locals words world.text)
          (point (landing when (stack.holds test vs) (next_place c) d) world.fuel)
          (at_words (around c) memory locals rest world.text)
      there =
          leads_then (point (here c) world.fuel) (point q world.fuel)
          (point (landing when (stack.holds test vs) (next_place c) d) world.fuel)
          (at_words (around c) m locals words world.text) (at_words (around c) memory locals before world.text)
          (at_words (around c) memory locals rest world.text) leads
          (label_leads (around c) world.fuel memory locals before rest world.text q d op os when (stack.holds test vs)
          branching_is (omega (arith, above c, from))
          (omega (arith, short c, ends_by (sizes_of p) (is_in c) target)) (next_place c) next within
          (held_in c memory (flat_map bytes_of (labelled op os when (2 + d))) q scratch from held))

  -- the place after the instructions of the item
  pub item_ends : (item : Item) (is : List Instruction) → ArrivesAt c item → text_bytes p.abbreviations item ≡ []
      → code_here c item ≡ is → next_place c ≡ here c + length (flat_map bytes_of is)
  item_ends item is stands none code =
      omega (arith, stands.next, plain_length c item none, ap (λ is. length (flat_map bytes_of is)) code)

  ordered_led : (item : Item) (test : Test) (os : List items.Operand) (when : Bool) (target : ℕ)
      (aside : Option ℕ) (words vs rest : List ℕ) → All (IsOperandHere c) os → Counted test (length os)
      → length words ≤ 48 → ArrivesAt c item → text_bytes p.abbreviations item ≡ []
      → code_here c item ≡ ordered_code test os when (2 + over target)
      → GivesOperands os (situation_here c) words vs rest
      → LedFrom c words (stack.branch (agrees (stack.holds test vs) when) target rest (at_aside c aside words))
  ordered_led item test os when target aside words vs rest all is room stands none code g =
      let op = test_operation test in
      let code1 = labelled op (operands os) when (2 + over target) in
      let parts = apart c os code1 (subst (λ is. Holds m (here c) (flat_map bytes_of is)) code
      (code_held c item stands)) in
      let few = few_tested test (length os) is in
      let t = taken c os words vs rest all (omega (arith, few, few_pushed os)) g parts.takes_held in
      let count = gives_count os (situation_here c) words vs rest g in
      let ends = item_ends item (takes os ++ code1) stands none code in
      labelled_led test (operands os) when target aside words (with_first os vs rest) vs rest t.memory
      (after_takes c os)
      (test_of test (operands os) vs
      (gives_length os (situation_here c) words vs rest g ∙ sym (operands_length os))
      (subst (Counted test) (sym (operands_length os)) is))
      (omega (arith, room, count)) t.scratch (omega arith) parts.others (omega (arith, ends, parts.sizes))
      (t.values world.text) t.leads

  -- two pushed words, which are taken as they stand
  turned_led : (item : Item) (test : Test) (when : Bool) (target : ℕ) (aside : Option ℕ)
      (words vs rest : List ℕ) → Counted test 2 → length words ≤ 48 → ArrivesAt c item
      → text_bytes p.abbreviations item ≡ []
      → code_here c item ≡ labelled (test_operation (reverse_test test)) (top ∷ top ∷ []) when (2 + over target)
      → GivesOperands (items.pushed ∷ items.pushed ∷ []) (situation_here c) words vs rest
      → LedFrom c words (stack.branch (agrees (stack.holds test vs) when) target rest (at_aside c aside words))
  turned_led item test when target aside words [] rest is room stands none code g = absurd g
  turned_led item test when target aside words (v ∷ []) rest is room stands none code g = absurd g
  turned_led item test when target aside words (v ∷ w ∷ u ∷ vs) rest is room stands none code g = absurd g
  turned_led item test when target aside words (v ∷ w ∷ []) rest is room stands none code g =
      let st = at_words (around c) m locals words world.text in
      let st1 = at_words (around c) m locals (v ∷ rest) world.text in
      let st2 = at_words (around c) m locals rest world.text in
      let code1 = labelled (test_operation (reverse_test test)) (top ∷ top ∷ []) when (2 + over target) in
      subst (λ b. LedFrom c words (stack.branch (agrees b when) target rest (at_aside c aside words)))
      (holds_turned test v w)
      (labelled_led (reverse_test test) (top ∷ top ∷ []) when target aside words words (w ∷ v ∷ []) rest m (here c)
      (test_of (reverse_test test) (top ∷ top ∷ []) (w ∷ v ∷ []) refl (counted_turned test 2 is))
      (omega (arith, room, ap length g)) (scratch_here c) (omega arith)
      (subst (λ is. Holds m (here c) (flat_map bytes_of is)) code (code_held c item stands))
      (item_ends item code1 stands none code)
      (two_operands st st1 st2 top top w v
      (alone_value c items.pushed m world.text words w (v ∷ rest) (scratch_here c) tt g)
      (alone_value c items.pushed m world.text (v ∷ rest) v rest (scratch_here c) tt refl))
      (stays (point (here c) world.fuel) st))

  branches_led : (item : Item) (test : Test) (os : List items.Operand) (when : Bool) (target : ℕ)
      (aside : Option ℕ) (words vs rest : List ℕ) → All (IsOperandHere c) os → Counted test (length os)
      → length words ≤ 48 → ArrivesAt c item → text_bytes p.abbreviations item ≡ []
      → code_here c item ≡ tested_code test os when (2 + over target)
      → GivesOperands os (situation_here c) words vs rest
      → LedFrom c words (stack.branch (agrees (stack.holds test vs) when) target rest (at_aside c aside words))
  branches_led item test os when target aside words vs rest all is room stands none code g =
      go (are_both_pushed os) refl code
    where
      go : (b : Bool) → are_both_pushed os ≡ b
          → code_here c item
          ≡ (if b then labelled (test_operation (reverse_test test)) (top ∷ top ∷ []) when (2 + over target)
          else ordered_code test os when (2 + over target))
          → LedFrom c words (stack.branch (agrees (stack.holds test vs) when) target rest (at_aside c aside words))
      go true e code =
          let both = both_pushed os e in
          turned_led item test when target aside words vs rest (subst (λ os. Counted test (length os)) both is) room
          stands none code (subst (λ os. GivesOperands os (situation_here c) words vs rest) both g)
      go false e code = ordered_led item test os when target aside words vs rest all is room stands none code g

  pub branch_led : (test : Test) (os : List items.Operand) (when : Bool) (target : ℕ) (aside : Option ℕ)
      (words : List ℕ) → All (IsOperandHere c) os → IsTestedValue test (length os) → length words ≤ 48
      → ArrivesAt c (items.branch test os when target)
      → LedFrom c words (stack.with_operands os (situation_here c) words
      (λ vs rest. stack.branch (agrees (stack.holds test vs) when) target rest (at_aside c aside words)))
  branch_led test os when target aside words all is room stands =
      by_operands os (situation_here c) words (LedFrom c words)
      (λ vs rest. stack.branch (agrees (stack.holds test vs) when) target rest (at_aside c aside words)) tt
      (λ vs rest g.
      let few = few_given test (length os) is in
      let k = asked p (routine_at p.routines routine).locals (situation_here c) test os words vs rest is all g in
      let item = items.branch test os when target in
      let code : code_here c item ≡ tested_code k.test1 k.os1 when (2 + over target) =
      ap (λ os. branch_code test os when (2 + over target)) (take_all most_tested os few)
      ∙ k.code ahead_limit when (2 + over target) in
      subst (λ b. LedFrom c words (stack.branch (agrees b when) target rest (at_aside c aside words))) k.holds
      (branches_led item k.test1 k.os1 when target aside words k.vs1 rest k.all k.counted room stands refl code
      k.gives))
