-- Instructions of an item that works on an object, one after another: some write variables of the compiler, some
-- branch.
use Rattle.std.proofs.Common.{◌≡◌, ℕ, ◌+◌, ◌*◌, ◌<◌, ◌≤◌, List, [], ◌∷◌, length, Some, None, Bool, slice_index}
use Rattle.std.proofs.Common.{length-append, ap, ◌∙◌, subst, arith}
use Rattle.std.specs.List.{flat_map}
use Rattle.zcore.specs.declared.instruction.Operand.{Operand}
use Rattle.zcore.specs.declared.instruction.Operand.TheVariants.{Small}
use Rattle.zcore.specs.declared.instruction.Operation.{Operation}
use Rattle.zcore.specs.Header.{defaults_of}
use Rattle.zcore.specs.Instruction.{Instruction}
use Rattle.zcore.specs.InstructionBytes.{bytes_of}
use Rattle.zcore.specs.State.{done}
use Rattle.zcore.specs.Parts.{global_address, operand_value, operand_values, branch_on}
use Rattle.zcore.specs.Execution.{perform, give_result}
use Rattle.meaning.specs.declared.cause.Cause.{Cause}
use Rattle.meaning.specs.World.{Situation, value_in}
use Rattle.meaning.specs.World as source
use Rattle.code_drafts.specs.Items as items
use Rattle.code_items.specs.Stack as stack
use Rattle.code.specs.Region.{HasObjects, tables_base}
use Rattle.code.specs.Tables.{PropertyTable}
use Rattle.code.proofs.Frames.{keeps}
use Rattle.code_drafts.specs.Addresses.{fault_address}
use Rattle.code_drafts.specs.Instructions.{giving, branching, fail, word_in, number_of, store}
use Rattle.code.proofs.Behind.{Holds}
use Rattle.code.proofs.Play.{Leads}
use Rattle.code.proofs.Memory.{word_of, with_variable, length_with, byte_other}
use Rattle.code.proofs.Parts.{machine as at_words, global_reads, global_writes, ReadsVariable}
use Rattle.code.proofs.Steps.{point, leads_then, one_step, first_held, others_held, gives_variable, landing}
use Rattle.code.proofs.Steps.{variable_value, two_operands, small_value}
use Rattle.code.proofs.SingleSteps.{branch_here_step}
use Rattle.code.proofs.StoredEntries.{defaults_same}
use Rattle.code.proofs.Texts.{cause_line}
use Rattle.code.proofs.Fitting.{Shaped, held_bytes, encodable}
use Rattle.code.proofs.ItemOperands.{constant_value}
use Rattle.code.proofs.Arriving.{Running, around, here, high, above, kept, LedFrom, situation_here}
use Rattle.code.proofs.Variables.{variable_held}
use Rattle.code.proofs.Temporaries.{Scratch, scratch_with, made, held_in}
use Rattle.code.proofs.Delivering.{stored_step}
use Rattle.code.proofs.Alone.{next_place, IsOperandHere}
use Rattle.code.proofs.ItemsThatPrint.{fails_led}

module _ (c : Running) where
  open c use {story, a, p, accepted, holds, full, m, count, counts, routine, place, callers, locals, world, good}

  -- The machine comes to these instructions, the last of an item, with this memory and this of the stack. The words of
  -- objects' properties stand in these tables.
  pub record Works (tables : List PropertyTable) (before rest memory : List ℕ) (q : ℕ)
      (is : List Instruction) : Type 0 where
    pub scratch : Scratch c memory
    pub has : HasObjects p.objects p.defaults world.objects tables memory
    pub from : here c ≤ q
    pub held : Holds m q (flat_map bytes_of is)
    pub end : q + length (flat_map bytes_of is) ≡ next_place c
    pub leads : Leads (point (here c) world.fuel) (at_words (around c) m locals before world.text)
        (point q world.fuel) (at_words (around c) memory locals rest world.text)

  -- the machine comes to a fault
  pub record FailsWith (cause : Cause) (before : List ℕ) : Type 0 where
    pub rest : List ℕ
    pub memory : List ℕ
    pub q : ℕ
    pub scratch : Scratch c memory
    pub from : here c ≤ q
    pub held : Holds m q (flat_map bytes_of (fail (fault_address a cause)))
    pub leads : Leads (point (here c) world.fuel) (at_words (around c) m locals before world.text)
        (point q world.fuel) (at_words (around c) memory locals rest world.text)

  pub fault_led : {A : Type 0} (cause : Cause) (before : List ℕ) (next : A → Situation → stack.Next)
      → FailsWith cause before
      → LedFrom c before (stack.after_part (source.fault cause (situation_here c)) next)
  fault_led cause before next f =
      fails_led c cause (fault_address a cause) f.q before f.rest f.memory next (cause_line cause)
      (holds.faults cause) f.from f.scratch f.held f.leads

  -- The compiler's variables

  -- the property tables begin where they do in the story
  pub same_base : (n : ℕ) (memory : List ℕ) → Scratch c memory → tables_base n memory ≡ tables_base n story
  same_base n memory scratch = ap (λ t. t + 126 + 14 * n) (defaults_same story memory scratch.stored.header)

  -- the objects stay where one of the compiler's variables is written
  pub objects_with : (tables : List PropertyTable) (memory : List ℕ) (v w : ℕ) → Scratch c memory → 248 ≤ v → v < 256
      → HasObjects p.objects p.defaults world.objects tables memory
      → HasObjects p.objects p.defaults world.objects tables (with_variable memory v w)
  objects_with tables memory v w scratch low small has =
      let at = global_address memory v in
      let r = scratch.stored.regions in
      let ground = scratch.ground in
      let first = ap (λ x. x * 256 + slice_index memory 13) (scratch.stored.header 12 (omega arith))
      ∙ ap (λ x. slice_index story 12 * 256 + x) (scratch.stored.header 13 (omega arith)) in
      let before : at + 1 < defaults_of memory =
      omega (arith, low, small, first, r.above, r.below, defaults_same story memory scratch.stored.header) in
      keeps p.objects p.defaults world.objects tables memory (with_variable memory v w) has
      (record {
        size = length_with memory at w;
        header = λ q h. byte_other memory at w q (λ e. omega (arith, h, e, ground.above))
            (λ e. omega (arith, h, e, ground.above));
        above = λ q h _. byte_other memory at w q (λ e. omega (arith, e, h, before))
            (λ e. omega (arith, e, h, before));
      })

  pub reads_word : (memory : List ℕ) (v w : ℕ) → 248 ≤ v → v < 256 → word_of memory v ≡ w
      → ReadsVariable (around c) memory locals v w
  reads_word memory v w low small is =
      subst (λ x. ReadsVariable (around c) memory locals v x) is
      (global_reads (around c) memory locals v (omega (arith, low)) small)

  -- a word is in a variable of the compiler, or is what an operand that is not pushed comes to
  abbrev pub HoldsWord : ℕ → items.Operand → ℕ → List ℕ → Type 0
  HoldsWord n items.pushed w memory = word_of memory (248 + n) ≡ w
  HoldsWord n (items.number k) w memory = k ≡ w
  HoldsWord n (items.variable x) w memory = value_in x (situation_here c) ≡ w

  pub word_value : (n : ℕ) (o : items.Operand) (w : ℕ) (memory s : List ℕ) → n < 8 → Scratch c memory
      → IsOperandHere c o → HoldsWord n o w memory
      → operand_value (word_in n o) (at_words (around c) memory locals s world.text)
      ≡ done w (at_words (around c) memory locals s world.text)
  word_value n items.pushed w memory s few scratch is h =
      variable_value (around c) memory locals s world.text (248 + n) w
      (reads_word memory (248 + n) w (omega arith) (omega (arith, few)) h)
  word_value n (items.number k) w memory s few scratch is h =
      constant_value (at_words (around c) memory locals s world.text) k
      ∙ ap (λ (x : ℕ). done x (at_words (around c) memory locals s world.text)) h
  word_value n (items.variable x) w memory s few scratch is h =
      variable_value (around c) memory locals s world.text (number_of x) (value_in x (situation_here c))
      (variable_held c memory x scratch is).reads
      ∙ ap (λ (y : ℕ). done y (at_words (around c) memory locals s world.text)) h

  pub word_still : (n : ℕ) (o : items.Operand) (w : ℕ) (memory other : List ℕ)
      → word_of other (248 + n) ≡ word_of memory (248 + n) → HoldsWord n o w memory → HoldsWord n o w other
  word_still n items.pushed w memory other same h = same ∙ h
  word_still n (items.number k) w memory other same h = h
  word_still n (items.variable x) w memory other same h = h

  -- Steps

  -- an instruction gives a word to one of the compiler's variables
  pub writes : (tables : List PropertyTable) (before rest memory : List ℕ) (q v w : ℕ) (op : Operation)
      (os : List Operand)
      (values : List ℕ) (is : List Instruction) → 248 ≤ v → v < 256 → Shaped (giving op os v)
      → operand_values os (at_words (around c) memory locals rest world.text)
      ≡ done values (at_words (around c) memory locals rest world.text)
      → ((after : ℕ)
      → perform op (point q world.fuel) after (Some v) None values (at_words (around c) memory locals rest world.text)
      ≡ give_result (point q world.fuel) after (Some v) w (at_words (around c) memory locals rest world.text))
      → Works tables before rest memory q (giving op os v ∷ is)
      → Works tables before rest (with_variable memory v w) (q + length (bytes_of (giving op os v))) is
  writes tables before rest memory q v w op os values is low small shaped taken performs t =
      let i = giving op os v in
      let after = q + length (bytes_of i) in
      let st = at_words (around c) memory locals rest world.text in
      let to = at_words (around c) (with_variable memory v w) locals rest world.text in
      record {
        scratch = scratch_with c memory v w t.scratch low small;
        has = objects_with tables memory v w t.scratch low small t.has;
        from = omega (arith, t.from);
        held = others_held m q i is t.held;
        end = omega (arith, t.end, length-append (bytes_of i) (flat_map bytes_of is));
        leads = leads_then (point (here c) world.fuel) (point q world.fuel) (point after world.fuel)
            (at_words (around c) m locals before world.text) st to t.leads
            (one_step (point q world.fuel) (point after world.fuel) st to
            (made c memory rest rest world.text q i values t.scratch t.from shaped (first_held m q i is t.held) taken
            ∙ performs after
            ∙ gives_variable (point q world.fuel) after v w (around c) memory locals rest world.text
            (with_variable memory v w) locals
            (global_writes (around c) memory locals v w (omega (arith, low)) small)));
      }

  -- one of them is set to the word of an operand
  pub sets : (tables : List PropertyTable) (before rest memory : List ℕ) (q v w : ℕ) (x : Operand)
      (is : List Instruction)
      → 248 ≤ v → v < 256
      → operand_value x (at_words (around c) memory locals rest world.text)
      ≡ done w (at_words (around c) memory locals rest world.text)
      → Works tables before rest memory q (store v x ∷ is)
      → Works tables before rest (with_variable memory v w) (q + length (bytes_of (store v x))) is
  unfolding perform
  sets tables before rest memory q v w x is low small value t =
      let i = store v x in
      let after = q + length (bytes_of i) in
      let st = at_words (around c) memory locals rest world.text in
      let to = at_words (around c) (with_variable memory v w) locals rest world.text in
      record {
        scratch = scratch_with c memory v w t.scratch low small;
        has = objects_with tables memory v w t.scratch low small t.has;
        from = omega (arith, t.from);
        held = others_held m q i is t.held;
        end = omega (arith, t.end, length-append (bytes_of i) (flat_map bytes_of is));
        leads = leads_then (point (here c) world.fuel) (point q world.fuel) (point after world.fuel)
            (at_words (around c) m locals before world.text) st to t.leads
            (one_step (point q world.fuel) (point after world.fuel) st to
            (made c memory rest rest world.text q i (v ∷ w ∷ []) t.scratch t.from
            (record { least = omega arith; most = omega arith; result_fits = tt; branch_fits = tt })
            (first_held m q i is t.held)
            (two_operands st st st (Small v) x v w (small_value st v) value)
            ∙ stored_step c (point q world.fuel) after v w rest world.text memory (with_variable memory v w) locals
            (global_writes (around c) memory locals v w (omega (arith, low)) small)));
      }

  -- a branch ahead
  pub branch_leads : (rest memory : List ℕ) (q d : ℕ) (op : Operation) (os : List Operand) (values : List ℕ)
      (when b : Bool) → Scratch c memory → here c ≤ q → Shaped (branching op os when (2 + d))
      → operand_values os (at_words (around c) memory locals rest world.text)
      ≡ done values (at_words (around c) memory locals rest world.text)
      → ((after : ℕ)
      → perform op (point q world.fuel) after None (Some (record { when = when; offset = 2 + d })) values
      (at_words (around c) memory locals rest world.text)
      ≡ branch_on (point q world.fuel) after (Some (record { when = when; offset = 2 + d })) b
      (at_words (around c) memory locals rest world.text))
      → d < 8190 → 0 < length (bytes_of (branching op os when (2 + d)))
      → q + length (bytes_of (branching op os when (2 + d))) + d < length m
      → Holds m q (bytes_of (branching op os when (2 + d)))
      → Leads (point q world.fuel) (at_words (around c) memory locals rest world.text)
      (point (landing when b (q + length (bytes_of (branching op os when (2 + d)))) d) world.fuel)
      (at_words (around c) memory locals rest world.text)
  branch_leads rest memory q d op os values when b scratch from shaped taken performs near some within h =
      let i = branching op os when (2 + d) in
      let st = at_words (around c) memory locals rest world.text in
      one_step (point q world.fuel) (point (landing when b (q + length (bytes_of i)) d) world.fuel) st st
      (branch_here_step (around c) world.fuel memory locals rest rest world.text q d op os values when b
      (encodable i shaped (held_bytes _ q story m (bytes_of i) holds.byte_each (kept c)
      (omega (arith, high c, from)) h))
      taken performs near (omega (arith, above c, from)) some
      (omega (arith, within, good.stored.size, scratch.stored.size))
      (held_in c memory (bytes_of i) q scratch from h))
