-- The branches of a routine that lead back.
use Rattle.std.proofs.Common.{◌≡◌, ℕ, zero, suc, ◌+◌, ◌-◌, ◌%◌, ◌<◌, ◌≤◌, List, [], ◌∷◌, ◌++◌, length, Bool, true}
use Rattle.std.proofs.Common.{false, Option, None, refl, sym, ap, ◌∙◌, subst, arith, length-append}
use Rattle.std.specs.Prelude.{not, nat_lt, nat_le, if◌then◌else◌}
use Rattle.std.specs.List.{All, flat_map}
use Rattle.std.proofs.lemmas.Bool.{leb-true, le-leb, le-ltb, lt-ltb}
use Rattle.std.proofs.lemmas.List.{take_all}
use Rattle.zcore.specs.declared.instruction.Operand.{Operand}
use Rattle.zcore.specs.declared.instruction.Operand.TheVariants.{Large, Small, Variable}
use Rattle.zcore.specs.declared.instruction.Operation.{Operation}
use Rattle.zcore.specs.declared.place.Limit.TheVariants as limits
use Rattle.zcore.specs.declared.place.Place.TheVariants as places
use Rattle.zcore.specs.declared.instruction.Operation.TheVariants as operations
use Rattle.zcore.specs.Operations.{count_of, has_more_types}
use Rattle.zcore.specs.Operations as numbers
use Rattle.zcore.specs.InstructionBytes.{bytes_of, FitsOperand, operand_bytes, opcode_bytes}
use Rattle.zcore.specs.State.{State, done}
use Rattle.zcore.specs.Parts.{operand_values, branch_target, jump_target}
use Rattle.meaning.specs.Meaning.{routine_at}
use Rattle.meaning.specs.World.{spend_from}
use Rattle.code_drafts.specs.Items.{Item, Test, agrees}
use Rattle.code_drafts.specs.Items as items
use Rattle.code_items.specs.Laws.{IsTestedValue}
use Rattle.code_items.specs.Stack as stack
use Rattle.code_drafts.specs.Instructions.{plain, branching, operands, takes, top, most_tested, jump_offset}
use Rattle.code_instructions.specs.Instructions.{labelled_below, back_limit, test_operation, ordered_below, reverse_test}
use Rattle.code_instructions.specs.Instructions.{are_both_pushed, tested_below, branch_below}
use Rattle.code_instructions.specs.Places.{back_offset}
use Rattle.code.specs.ItemBytes.{text_bytes}
use Rattle.code.specs.Bytes.{place_of, code_size, is_near}
use Rattle.code.specs.HeldProgram.{sizes_of}
use Rattle.code.proofs.Behind.{Holds}
use Rattle.code.proofs.Play.{Leads, Led, address, base, none_aside, stays}
use Rattle.code.proofs.Parts.{machine as at_words}
use Rattle.code.proofs.Steps.{point, leads_then, two_operands}
use Rattle.code.proofs.Ends.{does_halt, does_after}
use Rattle.code.proofs.Fitting.{held_bytes}
use Rattle.code.proofs.ItemOperands.{with_first, by_operands, gives_count, gives_length, few_pushed, GivesOperands}
use Rattle.code.proofs.ItemOperands.{operands_length}
use Rattle.code.proofs.Labels.{Branching}
use Rattle.code.proofs.BackSteps.{GoesBack, label_back}
use Rattle.code.proofs.Places.{rises, ends_by, offset_leads}
use Rattle.code.proofs.Arriving.{Running, at, at_aside, around, here, high, above, kept, LedFrom, code_here, ArrivesAt}
use Rattle.code.proofs.Arriving.{code_held, arrives_with, situation_here}
use Rattle.code.proofs.Temporaries.{Scratch, scratch_here, held_in}
use Rattle.code.proofs.Taking.{after_takes, taken, apart}
use Rattle.code.proofs.Alone.{IsOperandHere, next_place, alone_value}
use Rattle.code.proofs.Branching.{item_ends}
use Rattle.code.proofs.Jumping.{is_in, short, target_within, target_above}
use Rattle.code.proofs.Tests.{labelled_fit, branching_some, TestOf, Counted, few_tested, few_given, asked, test_of}
use Rattle.code.proofs.Tests.{holds_turned, counted_turned}
use Rattle.code.proofs.BranchLengths.{both_pushed, beside, branching_length}

-- an operand has a byte at least
operands_some : (os : List Operand) → 1 ≤ length os → 1 ≤ length (flat_map operand_bytes os)
operands_some [] h = absurd (omega (arith, h))
operands_some (Large n ∷ os) h = omega arith
operands_some (Small n ∷ os) h = omega arith
operands_some (Variable n ∷ os) h = omega arith

-- the least that a branch back leads over
least_back : (op : Operation) (os : List Operand) (when : Bool) (offset : ℕ) → 1 ≤ length os → 64 ≤ offset
    → offset < 16384 → 3 ≤ length (flat_map bytes_of (labelled_below back_limit op os when offset))
least_back op os when offset some low few =
    let i = branching op os when offset in
    let near : nat_lt offset 16384 ≡ true = lt-ltb _ _ few in
    let two : nat_lt offset 64 ≡ false = le-ltb _ _ low in
    let form : flat_map bytes_of (labelled_below back_limit op os when offset) ≡ bytes_of i ++ [] =
    ap (λ (b : Bool). flat_map bytes_of (if b then i ∷ [] else branching op os (not when) 5 ∷ plain operations.Jump
    (Large (offset % 65536) ∷ []) ∷ [])) near in
    let long : length (bytes_of i) ≡ beside op os + 2 =
    branching_length op os when offset ∙ ap (λ (b : Bool). beside op os + (if b then 1 else 2)) two in
    let opcode = opcode_bytes (count_of op) (numbers.number_of op) (has_more_types op) os in
    let whole : beside op os ≡ length (opcode ++ flat_map operand_bytes os) + 0 =
    length-append (opcode ++ flat_map operand_bytes os) [] in
    omega (
      arith,
      ap length form,
      length-append (bytes_of i) [],
      long,
      whole,
      length-append opcode (flat_map operand_bytes os),
      operands_some os some,
    )

counted_some : (test : Test) (n : ℕ) → Counted test n → 1 ≤ n
counted_some items.is_zero n is = omega (arith, is)
counted_some items.less n is = omega (arith, is)
counted_some items.greater n is = omega (arith, is)
counted_some items.same n is = let two = is.0 in omega (arith, two)

module _ (c : Running) where
  open c use {story, a, p, accepted, holds, full, m, count, counts, routine, place, callers, locals, world, good}

  abbrev pub nearness : Bool
  nearness = is_near (sizes_of p) (is_in c)

  -- the offset of a branch back of this item
  abbrev pub offset_back : ℕ → ℕ
  offset_back target =
      back_offset nearness (place_of (sizes_of p) (is_in c) (place + 1)) (place_of (sizes_of p) (is_in c) target)

  -- where it leads in two bytes of branch data, and by a jump
  near_leads : (target : ℕ) → nearness ≡ true → code_size (sizes_of p) (is_in c) ≤ 8190
      → address story a p routine target + 3 ≤ next_place c
      → (64 ≤ offset_back target) × (branch_target (next_place c) (offset_back target)
      ≡ address story a p routine target)
  near_leads target near few long =
      let after = place_of (sizes_of p) (is_in c) (place + 1) in
      let there = place_of (sizes_of p) (is_in c) target in
      let is : offset_back target ≡ 16383 - (after - there - 3) = ap (λ b. back_offset b after there) near in
      let large : nat_lt (offset_back target) 8192 ≡ false =
      le-ltb _ _ (omega (arith, is, few, ends_by (sizes_of p) (is_in c) (place + 1))) in (
        omega (arith, is, few, ends_by (sizes_of p) (is_in c) (place + 1)),
        ap (λ (b : Bool). if b then next_place c + offset_back target - 2
            else next_place c + offset_back target - 16386) large
            ∙ omega (arith, is, long),
      )

  far_leads : (target : ℕ) → nearness ≡ false
      → jump_target (next_place c) (offset_back target % 65536) ≡ address story a p routine target
  far_leads target far =
      let b = base story a p routine in
      let after = place_of (sizes_of p) (is_in c) (place + 1) in
      let there = place_of (sizes_of p) (is_in c) target in
      let word : offset_back target % 65536 ≡ jump_offset after there =
      ap (λ k. back_offset k after there % 65536) far ∙ omega arith in
      ap (λ (n : ℕ). jump_target (next_place c) n) word
      ∙ offset_leads b after there
      (omega (arith, short c, ends_by (sizes_of p) (is_in c) (place + 1)))
      (omega (arith, short c, ends_by (sizes_of p) (is_in c) target))

  -- a branch by the words that its operands come to, after what takes them from the stack
  labelled_back_led : (test : Test) (os : List Operand) (when : Bool) (target : ℕ) (aside : Option ℕ)
      (words before vs rest memory : List ℕ) (q : ℕ) → TestOf test os vs → 1 ≤ length os → length rest ≤ 48
      → Scratch c memory → here c ≤ q → (nearness ≡ true → code_size (sizes_of p) (is_in c) ≤ 8190)
      → Holds m q (flat_map bytes_of (labelled_below back_limit (test_operation test) os when (offset_back target)))
      → next_place c ≡ q + length
      (flat_map bytes_of (labelled_below back_limit (test_operation test) os when (offset_back target)))
      → operand_values os (at_words (around c) memory locals before world.text)
      ≡ done vs (at_words (around c) memory locals rest world.text)
      → Leads (point (here c) world.fuel) (at_words (around c) m locals words world.text)
      (point q world.fuel) (at_words (around c) memory locals before world.text)
      → LedFrom c words (stack.branch_back (agrees (stack.holds test vs) when) target rest (at_aside c aside words))
  labelled_back_led test os when target aside words before vs rest memory q kinds some left scratch from few held next
      values leads = split (nat_le target place) refl
    where
      op : Operation
      op = test_operation test

      so : Bool
      so = agrees (stack.holds test vs) when

      there : ℕ
      there = address story a p routine target

      first : State
      first = at_words (around c) m locals words world.text

      mid : State
      mid = at_words (around c) memory locals before world.text

      end : State
      end = at_words (around c) memory locals rest world.text

      fit : All FitsOperand os
      fit = labelled_fit back_limit op os when (offset_back target)
          (held_bytes _ q story m (flat_map bytes_of (labelled_below back_limit op os when (offset_back target)))
          holds.byte_each (kept c) (omega (arith, high c, from)) held)

      branching_is : Branching (around c) memory locals before rest world.text op os (stack.holds test vs)
      branching_is = record {
        values = vs;
        fits = λ when offset small. record {
          least = kinds.least;
          most = kinds.most;
          operands_fit = fit;
          result_fits = kinds.result;
          branch_fits = kinds.branch when offset small;
        };
        some = branching_some op os;
        taken = values;
        branches = λ when offset from after. kinds.does when offset from after end;
      }

      size : length memory ≡ length m
      size = omega (arith, good.stored.size, scratch.stored.size)

      by_near : (b : Bool) → nearness ≡ b → target ≤ place → offset_back target < 16384
          → (64 ≤ offset_back target) × (branch_target (next_place c) (offset_back target) ≡ there)
      by_near true near below small =
          let most = few near in
          let after = place_of (sizes_of p) (is_in c) (place + 1) in
          let is : offset_back target
          ≡ 16383 - (after - place_of (sizes_of p) (is_in c) target - 3) =
          ap (λ b. back_offset b after (place_of (sizes_of p) (is_in c) target)) near in
          let low : 64 ≤ offset_back target =
          omega (arith, is, most, ends_by (sizes_of p) (is_in c) (place + 1)) in
          let up = rises (sizes_of p) (is_in c) target place below in
          near_leads target near most
          (omega (arith, up, from, next, least_back op os when (offset_back target) some low small))
      by_near false far below small =
          let is : offset_back target ≡ 65536 + jump_offset (place_of (sizes_of p) (is_in c) (place + 1))
          (place_of (sizes_of p) (is_in c) target) =
          ap (λ b. back_offset b (place_of (sizes_of p) (is_in c) (place + 1))
          (place_of (sizes_of p) (is_in c) target)) far in
          absurd (omega (arith, is, small))

      by_far : (b : Bool) → nearness ≡ b → 16384 ≤ offset_back target
          → jump_target (next_place c) (offset_back target % 65536) ≡ there
      by_far true near large =
          let is : offset_back target ≡ 16383 - (place_of (sizes_of p) (is_in c) (place + 1)
          - place_of (sizes_of p) (is_in c) target - 3) =
          ap (λ b. back_offset b (place_of (sizes_of p) (is_in c) (place + 1))
          (place_of (sizes_of p) (is_in c) target)) near in
          absurd (omega (arith, is, large))
      by_far false far large = far_leads target far

      goes : target ≤ place
          → GoesBack (around c) memory locals before rest world.text q (next_place c) there so
      goes below =
          let up = rises (sizes_of p) (is_in c) target place below in
          label_back (around c) memory locals before rest world.text q (next_place c) there op os when
          (stack.holds test vs) branching_is (omega (arith, above c, from)) (target_above c target)
          (omega (arith, up, from)) (omega (arith, size, target_within c target))
          (omega (arith, size, target_within c (place + 1))) (offset_back target) next
          (λ small. by_near nearness refl below small) (λ large. by_far nearness refl large)
          (held_in c memory (flat_map bytes_of (labelled_below back_limit op os when (offset_back target))) q scratch
          from held)

      -- with so much fuel
      LedWith : ℕ → Type 0
      LedWith fuel =
          Led story a p full (point (here c) fuel) first world
          (stack.after_part (spend_from fuel (record { locals = locals; world = world }))
          (λ _ situation. stack.goes (record (at c rest) { place = target; situation = situation })))

      leads_at : (fuel : ℕ) → world.fuel ≡ fuel → Leads (point (here c) fuel) first (point q fuel) mid
      leads_at fuel e = subst (λ n. Leads (point (here c) n) first (point q n) mid) e leads

      goes_back : (fuel : ℕ) → world.fuel ≡ fuel → target ≤ place → so ≡ true → LedWith fuel
      goes_back zero e below f =
          let g = goes below in
          does_after full world _ (point (here c) 0) (point g.last 0) first
          (at_words (around c) memory locals g.last_stack world.text)
          (leads_then (point (here c) 0) (point q 0) (point g.last 0) first mid
          (at_words (around c) memory locals g.last_stack world.text) (leads_at 0 e) (g.out f))
          (does_halt full world (point g.last 0) (at_words (around c) memory locals g.last_stack world.text) end
          (places.Limit limits.Fuel) refl (g.ends f))
      goes_back (suc fuel) e below f = record {
        memory = memory;
        count = count;
        counts = counts;
        good = record {
          known = good.known;
          locals = good.locals;
          room = left;
          callers = good.callers;
          few = good.few;
          globals = good.globals;
          sizes = good.sizes;
          stored = scratch.stored;
          put_aside = none_aside story memory;
        };
        leads = leads_then (point (here c) (suc fuel)) (point q (suc fuel)) (point there fuel) first mid end
            (leads_at (suc fuel) e) ((goes below).back fuel f);
      }

      asks : (b : Bool) → so ≡ b → target ≤ place
          → LedFrom c words (if b then stack.go_back target (record (at_aside c aside words) { stack = rest })
          else stack.goes (stack.after (at_aside c aside words) rest (situation_here c)))
      asks false f below =
          arrives_with c None words rest memory (situation_here c) (next_place c) (none_aside story memory) refl left
          scratch.stored refl refl refl
          (leads_then (point (here c) world.fuel) (point q world.fuel) (point (next_place c) world.fuel) first mid end
          leads ((goes below).on world.fuel f))
      asks true f below =
          subst (λ b. LedFrom c words (if b then stack.after_part
          (spend_from world.fuel (record { locals = locals; world = world }))
          (λ _ situation. stack.goes (record (at c rest) { place = target; situation = situation }))
          else stack.stuck)) (sym (le-leb target place below)) (goes_back world.fuel refl below f)

      split : (b : Bool) → nat_le target place ≡ b
          → LedFrom c words (if b then (if so
          then stack.go_back target (record (at_aside c aside words) { stack = rest })
          else stack.goes (stack.after (at_aside c aside words) rest (situation_here c))) else stack.stuck)
      split false e = tt
      split true e = asks so refl (leb-true _ _ e)

  ordered_back_led : (item : Item) (test : Test) (os : List items.Operand) (when : Bool) (target : ℕ)
      (aside : Option ℕ) (words vs rest : List ℕ) → All (IsOperandHere c) os → Counted test (length os)
      → length words ≤ 48 → (nearness ≡ true → code_size (sizes_of p) (is_in c) ≤ 8190)
      → ArrivesAt c item → text_bytes p.abbreviations item ≡ []
      → code_here c item ≡ ordered_below back_limit test os when (offset_back target)
      → GivesOperands os (situation_here c) words vs rest
      → LedFrom c words (stack.branch_back (agrees (stack.holds test vs) when) target rest (at_aside c aside words))
  ordered_back_led item test os when target aside words vs rest all is room few stands none code g =
      let op = test_operation test in
      let code1 = labelled_below back_limit op (operands os) when (offset_back target) in
      let parts = apart c os code1 (subst (λ is. Holds m (here c) (flat_map bytes_of is)) code
      (code_held c item stands)) in
      let most = few_tested test (length os) is in
      let t = taken c os words vs rest all (omega (arith, most, few_pushed os)) g parts.takes_held in
      let count = gives_count os (situation_here c) words vs rest g in
      let ends = item_ends c item (takes os ++ code1) stands none code in
      labelled_back_led test (operands os) when target aside words (with_first os vs rest) vs rest t.memory
      (after_takes c os)
      (test_of test (operands os) vs
      (gives_length os (situation_here c) words vs rest g ∙ sym (operands_length os))
      (subst (Counted test) (sym (operands_length os)) is))
      (omega (arith, operands_length os, counted_some test (length os) is))
      (omega (arith, room, count)) t.scratch (omega arith) few parts.others (omega (arith, ends, parts.sizes))
      (t.values world.text) t.leads

  -- two pushed words, which are taken as they stand
  turned_back_led : (item : Item) (test : Test) (when : Bool) (target : ℕ) (aside : Option ℕ)
      (words vs rest : List ℕ) → Counted test 2 → length words ≤ 48
      → (nearness ≡ true → code_size (sizes_of p) (is_in c) ≤ 8190) → ArrivesAt c item
      → text_bytes p.abbreviations item ≡ []
      → code_here c item
      ≡ labelled_below back_limit (test_operation (reverse_test test)) (top ∷ top ∷ []) when (offset_back target)
      → GivesOperands (items.pushed ∷ items.pushed ∷ []) (situation_here c) words vs rest
      → LedFrom c words (stack.branch_back (agrees (stack.holds test vs) when) target rest (at_aside c aside words))
  turned_back_led item test when target aside words [] rest is room few stands none code g = absurd g
  turned_back_led item test when target aside words (v ∷ []) rest is room few stands none code g = absurd g
  turned_back_led item test when target aside words (v ∷ w ∷ u ∷ vs) rest is room few stands none code g = absurd g
  turned_back_led item test when target aside words (v ∷ w ∷ []) rest is room few stands none code g =
      let st = at_words (around c) m locals words world.text in
      let st1 = at_words (around c) m locals (v ∷ rest) world.text in
      let st2 = at_words (around c) m locals rest world.text in
      let code1 = labelled_below back_limit (test_operation (reverse_test test)) (top ∷ top ∷ []) when
      (offset_back target) in
      subst (λ b. LedFrom c words (stack.branch_back (agrees b when) target rest (at_aside c aside words)))
      (holds_turned test v w)
      (labelled_back_led (reverse_test test) (top ∷ top ∷ []) when target aside words words (w ∷ v ∷ []) rest m (here c)
      (test_of (reverse_test test) (top ∷ top ∷ []) (w ∷ v ∷ []) refl (counted_turned test 2 is)) (omega arith)
      (omega (arith, room, ap length g)) (scratch_here c) (omega arith) few
      (subst (λ is. Holds m (here c) (flat_map bytes_of is)) code (code_held c item stands))
      (item_ends c item code1 stands none code)
      (two_operands st st1 st2 top top w v
      (alone_value c items.pushed m world.text words w (v ∷ rest) (scratch_here c) tt g)
      (alone_value c items.pushed m world.text (v ∷ rest) v rest (scratch_here c) tt refl))
      (stays (point (here c) world.fuel) st))

  branches_back_led : (item : Item) (test : Test) (os : List items.Operand) (when : Bool) (target : ℕ)
      (aside : Option ℕ) (words vs rest : List ℕ) → All (IsOperandHere c) os → Counted test (length os)
      → length words ≤ 48 → (nearness ≡ true → code_size (sizes_of p) (is_in c) ≤ 8190) → ArrivesAt c item
      → text_bytes p.abbreviations item ≡ []
      → code_here c item ≡ tested_below back_limit test os when (offset_back target)
      → GivesOperands os (situation_here c) words vs rest
      → LedFrom c words (stack.branch_back (agrees (stack.holds test vs) when) target rest (at_aside c aside words))
  branches_back_led item test os when target aside words vs rest all is room few stands none code g =
      go (are_both_pushed os) refl code
    where
      go : (b : Bool) → are_both_pushed os ≡ b
          → code_here c item
          ≡ (if b then labelled_below back_limit (test_operation (reverse_test test)) (top ∷ top ∷ []) when
          (offset_back target) else ordered_below back_limit test os when (offset_back target))
          → LedFrom c words (stack.branch_back (agrees (stack.holds test vs) when) target rest (at_aside c aside words))
      go true e code =
          let both = both_pushed os e in
          turned_back_led item test when target aside words vs rest (subst (λ os. Counted test (length os)) both is)
          room few stands none code (subst (λ os. GivesOperands os (situation_here c) words vs rest) both g)
      go false e code =
          ordered_back_led item test os when target aside words vs rest all is room few stands none code g

  pub branch_back_led : (test : Test) (os : List items.Operand) (when : Bool) (target : ℕ) (aside : Option ℕ)
      (words : List ℕ) → All (IsOperandHere c) os → IsTestedValue test (length os) → length words ≤ 48
      → (nearness ≡ true → code_size (sizes_of p) (is_in c) ≤ 8190)
      → ArrivesAt c (items.branch_back test os when target)
      → LedFrom c words (stack.with_operands os (situation_here c) words
      (λ vs rest. stack.branch_back (agrees (stack.holds test vs) when) target rest (at_aside c aside words)))
  branch_back_led test os when target aside words all is room few stands =
      by_operands os (situation_here c) words (LedFrom c words)
      (λ vs rest. stack.branch_back (agrees (stack.holds test vs) when) target rest (at_aside c aside words)) tt
      (λ vs rest g.
      let given = few_given test (length os) is in
      let k = asked p (routine_at p.routines routine).locals (situation_here c) test os words vs rest is all g in
      let item = items.branch_back test os when target in
      let code : code_here c item ≡ tested_below back_limit k.test1 k.os1 when (offset_back target) =
      ap (λ os. branch_below back_limit test os when (offset_back target)) (take_all most_tested os given)
      ∙ k.code back_limit when (offset_back target) in
      subst (λ b. LedFrom c words (stack.branch_back (agrees b when) target rest (at_aside c aside words))) k.holds
      (branches_back_led item k.test1 k.os1 when target aside words k.vs1 rest k.all k.counted room few stands refl
      code k.gives))
