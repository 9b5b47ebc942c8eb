-- Items that branch by what holds of an object.
use Rattle.std.proofs.Common.{◌≡◌, ℕ, ◌+◌, ◌%◌, ◌<◌, ◌≤◌, List, [], ◌∷◌, length, Option, Some, None, Bool, true, false}
use Rattle.std.proofs.Common.{refl, sym, ap, ◌∙◌, subst, arith}
use Rattle.std.specs.Prelude.{not, ◌==◌, is_some}
use Rattle.std.specs.List.{All, flat_map}
use Rattle.std.proofs.lemmas.Bool.{ne_eqb}
use Rattle.zcore.specs.declared.instruction.Operand.{Operand}
use Rattle.zcore.specs.declared.instruction.Operand.TheVariants.{Small, Variable}
use Rattle.zcore.specs.declared.instruction.Operation.{Operation}
use Rattle.zcore.specs.declared.instruction.Operation.TheVariants as operations
use Rattle.zcore.specs.declared.next.Next.{Next}
use Rattle.zcore.specs.Operations.{least_operands, most_operands, has_result, has_branch}
use Rattle.zcore.specs.Instruction.{Instruction}
use Rattle.zcore.specs.InstructionBytes.{bytes_of, FitsOperand, FitsResult, FitsBranch}
use Rattle.zcore.specs.State.{State, done}
use Rattle.zcore.specs.ObjectProperties.{get_property_address}
use Rattle.zcore.specs.Parts.{operand_values, branch_on}
use Rattle.zcore.specs.Execution.{perform, give_result}
use Rattle.syntax_trees.specs.declared.tree.Relative.TheVariants as relatives
use Rattle.meaning.specs.Accepted.{IsProperty}
use Rattle.meaning.specs.Objects.{relative_in}
use Rattle.meaning.specs.World as source
use Rattle.code_drafts.specs.Items.{agrees}
use Rattle.code_drafts.specs.Items as items
use Rattle.code_items.specs.Stack as stack
use Rattle.code.specs.Region.{tables_base}
use Rattle.code.specs.Tables.{words_place}
use Rattle.code.proofs.Together.{region_laws}
use Rattle.code_instructions.specs.Instructions.{ahead_limit, labelled}
use Rattle.code_instructions.specs.ObjectCode.{assigned_word, at_label, property_address}
use Rattle.code.specs.HeldProgram.{sizes_of}
use Rattle.code.proofs.Play.{Leads, none_aside}
use Rattle.code.proofs.Memory.{with_variable}
use Rattle.code.proofs.Parts.{machine as at_words}
use Rattle.code.proofs.Steps.{point, leads_then, landing, one_operand, two_operands, small_value, variable_value}
use Rattle.code.proofs.Fitting.{Shaped, held_bytes}
use Rattle.code.proofs.Labels.{Branching, label_leads}
use Rattle.code.proofs.Places.{ends_by}
use Rattle.code.proofs.Arriving.{Running, at, at_aside, around, here, high, above, kept, LedFrom, situation_here}
use Rattle.code.proofs.Arriving.{ArrivesAt}
use Rattle.code.proofs.Temporaries.{reads_written, held_in}
use Rattle.code.proofs.Alone.{by_operand, alone_count, IsOperandHere, next_place}
use Rattle.code.proofs.Jumping.{is_in, short}
use Rattle.code.proofs.Tests.{labelled_fit, branching_some}
use Rattle.code.proofs.Branching.{over, lands_led}
use Rattle.code.proofs.TestedWords.{Reached, AtIndex}
use Rattle.code.proofs.TestedObjects.{acts_in, begins, begun_end, label_tests, tests_led, objects_here, IsObjectHere}
use Rattle.code.proofs.Working.{writes, word_value, word_still}
use Rattle.code.proofs.Pulling.{pulls, works_at}

module _ (c : Running) where
  open c use {story, a, p, accepted, holds, full, m, count, counts, routine, place, callers, locals, world, good}

  -- the machine comes to a branch to a label, and goes on with the next item or at the target
  pub label_led : (op : Operation) (os : List Operand) (values : List ℕ) (when so : Bool) (target : ℕ)
      (aside : Option ℕ) (before rest other : List ℕ)
      (r : Reached c before rest other (labelled op os when (2 + over c target)))
      → r.q + length (flat_map bytes_of (labelled op os when (2 + over c target))) ≡ next_place c → length rest ≤ 48
      → least_operands op ≤ length os → length os ≤ most_operands op → FitsResult (has_result op) None
      → ((w : Bool) (offset : ℕ) → offset < 16384
      → FitsBranch (has_branch op) (Some (record { when = w; offset = offset })))
      → operand_values os (at_words (around c) r.memory locals rest world.text)
      ≡ done values (at_words (around c) r.memory locals rest world.text)
      → ((w : Bool) (offset : ℕ) (from : Next) (after : ℕ)
      → perform op from after None (Some (record { when = w; offset = offset })) values
      (at_words (around c) r.memory locals rest world.text)
      ≡ branch_on from after (Some (record { when = w; offset = offset })) so
      (at_words (around c) r.memory locals rest world.text))
      → LedFrom c before (stack.branch (agrees so when) target rest (at_aside c aside before))
  label_led op os values when so target aside before rest other r end room least most result branch taken performs =
      branches_to (agrees so when)
      (lands_led c None target before rest r.memory when so room r.scratch (none_aside story r.memory) there)
    where
      branches_to : (b : Bool) → LedFrom c before (stack.by_case b target (at c rest))
          → LedFrom c before (stack.branch b target rest (at_aside c aside before))
      branches_to true led = led
      branches_to false led = led

      d : ℕ
      d = over c target

      fit : All FitsOperand os
      fit = labelled_fit ahead_limit op os when (2 + d)
          (held_bytes _ r.q story m (flat_map bytes_of (labelled op os when (2 + d))) holds.byte_each (kept c)
          (omega (arith, high c, r.from)) r.held)

      branching_is : Branching (around c) r.memory locals rest rest world.text op os so
      branching_is = record {
        values = values;
        fits = λ w offset small. record {
          least = least;
          most = most;
          operands_fit = fit;
          result_fits = result;
          branch_fits = branch w offset small;
        };
        some = branching_some op os;
        taken = taken;
        branches = performs;
      }

      within : next_place c + d < length r.memory
      within = omega (
        arith,
        (holds.routines routine good.known).followed,
        ends_by (sizes_of p) (is_in c) target,
        ends_by (sizes_of p) (is_in c) (place + 1),
        good.stored.size,
        r.scratch.stored.size,
      )

      there : Leads (point (here c) world.fuel) (at_words (around c) m locals before world.text)
          (point (landing when so (next_place c) d) world.fuel) (at_words (around c) r.memory locals rest world.text)
      there =
          let st = at_words (around c) r.memory locals rest world.text in
          leads_then (point (here c) world.fuel) (point r.q world.fuel)
          (point (landing when so (next_place c) d) world.fuel) (at_words (around c) m locals before world.text) st st
          r.leads
          (label_leads (around c) world.fuel r.memory locals rest rest world.text r.q d op os when so branching_is
          (omega (arith, above c, r.from)) (omega (arith, short c, ends_by (sizes_of p) (is_in c) target))
          (next_place c) (sym end) within
          (held_in c r.memory (flat_map bytes_of (labelled op os when (2 + d))) r.q r.scratch r.from r.held))

  -- whether an object has an attribute
  pub has_led : (o : items.Operand) (n : ℕ) (when : Bool) (target : ℕ) (aside : Option ℕ) (s : List ℕ) → n < 48
      → IsOperandHere c o → length s ≤ 48 → ArrivesAt c (items.has o n when target)
      → LedFrom c s (stack.with_operand o (situation_here c) s
      (λ v rest. stack.decides (stack.tested_attribute p v n) when target rest (at_aside c aside s)))
  unfolding perform
  has_led o n when target aside s few is room stands =
      let item = items.has o n when target in
      let act : Operand → List _ =
      λ x. labelled operations.TestAttribute (x ∷ Small (n % 256) ∷ []) when (2 + over c target) in
      let same : n % 256 ≡ n = omega (arith, few) in
      tests_led c o s s m act (λ v. source.has_attribute v n)
      (λ rest so situation. stack.branch (agrees so when) target rest
      (record (at_aside c aside s) { situation = situation }))
      (label_tests c o act s s m is (begins c item s stands) (begun_end c item s refl stands) stands.followed)
      (λ v rest alone object t.
      let r = t.reached in
      let st = at_words (around c) r.memory locals rest world.text in
      label_led operations.TestAttribute (t.operand ∷ Small (n % 256) ∷ []) (v ∷ n % 256 ∷ []) when
      (world.objects.attributes v n) target aside s rest m r t.end
      (omega (arith, room, alone_count o (situation_here c) s v rest alone)) (omega arith) (omega arith) tt
      (λ w offset h. h)
      (two_operands st st st t.operand (Small (n % 256)) v (n % 256) t.value (small_value st (n % 256)))
      (λ w offset from after.
      (acts_in c r.memory rest world.text r.scratch).attribute from after
      (Some (record { when = w; offset = offset })) v (n % 256) object (omega (arith, same, few))
      ∙ ap (λ (k : ℕ). branch_on from after (Some (record { when = w; offset = offset }))
      (world.objects.attributes v k) st) same))

  -- whether an object stands in another
  pub is_in_led : (o q : items.Operand) (when : Bool) (target : ℕ) (aside : Option ℕ) (s : List ℕ)
      → IsOperandHere c o → IsOperandHere c q → length s ≤ 48 → ArrivesAt c (items.is_in o q when target)
      → LedFrom c s (stack.with_operand q (situation_here c) s
      (λ w left. stack.with_operand o (situation_here c) left
      (λ v rest. stack.decides (stack.stands_in p v w) when target rest (at_aside c aside s))))
  unfolding perform
  is_in_led o q when target aside s is is_q room stands =
      let item = items.is_in o q when target in
      let act : Operand → List _ =
      λ x. labelled operations.JumpIfIn (x ∷ assigned_word q ∷ []) when (2 + over c target) in
      by_operand q (situation_here c) s (LedFrom c s)
      (λ w left. stack.with_operand o (situation_here c) left
      (λ v rest. stack.decides (stack.stands_in p v w) when target rest (at_aside c aside s))) tt
      (λ w left first.
      let b = pulls c 1 q (at_label a (objects_here c) o act) s s m w left (omega arith) (omega arith) first
      (begins c item s stands) (begun_end c item s refl stands) in
      tests_led c o s left b.memory act
      (λ v situation. source.to (relative_in relatives.Parent v situation.world.objects.tree == w) situation)
      (λ rest so situation. stack.branch (agrees so when) target rest
      (record (at_aside c aside s) { situation = situation }))
      (label_tests c o act s left b.memory is b.reached b.end stands.followed)
      (λ v rest second object t.
      let r = t.reached in
      let st = at_words (around c) r.memory locals rest world.text in
      let word = word_still c 1 q w b.memory r.memory (r.unwritten 249 (omega arith) (omega arith)) b.word in
      label_led operations.JumpIfIn (t.operand ∷ assigned_word q ∷ []) (v ∷ w ∷ []) when
      (world.objects.tree.parent v == w) target aside s rest b.memory r t.end
      (omega (
        arith,
        room,
        alone_count q (situation_here c) s w left first,
        alone_count o (situation_here c) left v rest second,
      )) (omega arith) (omega arith) tt (λ w offset h. h)
      (two_operands st st st t.operand (assigned_word q) v w t.value
      (word_value c 1 q w r.memory rest (omega arith) r.scratch is_q word))
      (λ w1 offset from after.
      (acts_in c r.memory rest world.text r.scratch).stands_in from after
      (Some (record { when = w1; offset = offset })) v w object)))

  -- whether an object provides a property
  module _ (n : ℕ) (when : Bool) (target : ℕ) (aside : Option ℕ) (before rest : List ℕ) (v : ℕ) (named : IsProperty n)
      (room : length rest ≤ 48) (object : IsObjectHere c v)
      (t : AtIndex c v before rest m (λ x. property_address x (n % 256) 248
      ∷ labelled operations.JumpIfZero (Variable 248 ∷ []) (not when) (2 + over c target))) where
    abbrev old : State
    old = at_words (around c) t.reached.memory locals rest world.text

    abbrev test : List Instruction
    test = labelled operations.JumpIfZero (Variable 248 ∷ []) (not when) (2 + over c target)

    -- by the address
    addressed : (w : ℕ)
        → ((after : ℕ) → get_property_address (point t.reached.q world.fuel) after (Some 248) v n old
        ≡ give_result (point t.reached.q world.fuel) after (Some 248) w old)
        → LedFrom c before (stack.branch (agrees (w == 0) (not when)) target rest (at_aside c aside before))
    unfolding perform
    addressed w does =
        let r = t.reached in
        let same : n % 256 ≡ n = omega (arith, named.1) in
        let i = property_address t.operand (n % 256) 248 in
        let shaped : Shaped i = record {
          least = omega arith;
          most = omega arith;
          result_fits = omega arith;
          branch_fits = tt;
        } in
        let next = writes c r.scratch.stored.tables before rest r.memory r.q 248 w operations.GetPropertyAddress
        (t.operand ∷ Small (n % 256) ∷ []) (v ∷ n % 256 ∷ []) test (omega arith) (omega arith) shaped
        (two_operands old old old t.operand (Small (n % 256)) v (n % 256) t.value (small_value old (n % 256)))
        (λ after. ap (λ (k : ℕ). get_property_address (point r.q world.fuel) after (Some 248) v k old) same
        ∙ does after) (works_at c v before rest m (λ x. property_address x (n % 256) 248 ∷ test) t) in
        let m1 = with_variable r.memory 248 w in
        let st = at_words (around c) m1 locals rest world.text in
        label_led operations.JumpIfZero (Variable 248 ∷ []) (w ∷ []) (not when) (w == 0) target aside before rest m1
        (record {
          memory = m1;
          scratch = next.scratch;
          q = r.q + length (bytes_of i);
          from = next.from;
          held = next.held;
          leads = next.leads;
          unwritten = λ x low small. refl;
        }) next.end room (omega arith) (omega arith) tt (λ w offset h. h)
        (one_operand st st (Variable 248) w
        (variable_value (around c) m1 locals rest world.text 248 w
        (reads_written c r.memory 248 w r.scratch (omega arith) (omega arith))))
        (λ w1 offset from after. refl)

    -- a branch where there is no address is one where the object does not provide it
    opposite : (b : Bool) → agrees false (not b) ≡ agrees true b
    opposite true = refl
    opposite false = refl

    provides_by : (words : Option (List ℕ)) → world.objects.properties v n ≡ words
        → LedFrom c before (stack.branch (agrees (is_some words) when) target rest (at_aside c aside before))
    provides_by None e =
        addressed 0 (λ after. (acts_in c t.reached.memory rest world.text t.reached.scratch).absent
        (point t.reached.q world.fuel) after (Some 248) v n object named.0 named.1 e)
    provides_by (Some words) e =
        let r = t.reached in
        let w = words_place (tables_base (length p.objects) r.memory) r.scratch.stored.tables v n in
        let low = ((region_laws.placed p.objects p.defaults world.objects r.scratch.stored.tables r.memory
        r.scratch.stored.has).within v n words object e).2 in
        let some : (w == 0) ≡ false = ne_eqb w 0 (λ f. omega (arith, f, low)) in
        subst (λ b. LedFrom c before (stack.branch b target rest (at_aside c aside before)))
        (ap (λ b. agrees b (not when)) some ∙ opposite when)
        (addressed w (λ after. (acts_in c r.memory rest world.text r.scratch).present
        (point r.q world.fuel) after (Some 248) v n words object e))

  pub provides_led : (o : items.Operand) (n : ℕ) (when : Bool) (target : ℕ) (aside : Option ℕ) (s : List ℕ)
      → IsProperty n → IsOperandHere c o → length s ≤ 48 → ArrivesAt c (items.provides o n when target)
      → LedFrom c s (stack.with_operand o (situation_here c) s
      (λ v rest. stack.decides (stack.is_provided p v n) when target rest (at_aside c aside s)))
  provides_led o n when target aside s named is room stands =
      let item = items.provides o n when target in
      let act : Operand → List Instruction =
      λ x. property_address x (n % 256) 248
      ∷ labelled operations.JumpIfZero (Variable 248 ∷ []) (not when) (2 + over c target) in
      tests_led c o s s m act
      (λ v situation. source.to (is_some (situation.world.objects.properties v n)) situation)
      (λ rest so situation. stack.branch (agrees so when) target rest
      (record (at_aside c aside s) { situation = situation }))
      (label_tests c o act s s m is (begins c item s stands) (begun_end c item s refl stands) stands.followed)
      (λ v rest alone object t.
      provides_by n when target aside s rest v named
      (omega (arith, room, alone_count o (situation_here c) s v rest alone)) object t
      (world.objects.properties v n) refl)
