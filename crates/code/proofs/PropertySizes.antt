-- Items that give how many bytes the words of a property have.
use Rattle.std.proofs.Common.{◌≡◌, ℕ, ◌+◌, ◌*◌, ◌%◌, ◌≤◌, List, [], ◌∷◌, length, Option, Some, None, false, refl, sym}
use Rattle.std.proofs.Common.{◌≢◌, ap, ◌∙◌, arith}
use Rattle.std.specs.Prelude.{◌==◌}
use Rattle.std.proofs.lemmas.Bool.{ne_eqb}
use Rattle.zcore.specs.declared.instruction.Operand.{Operand}
use Rattle.zcore.specs.declared.instruction.Operand.TheVariants.{Small, Variable}
use Rattle.zcore.specs.declared.instruction.Operation.TheVariants as operations
use Rattle.zcore.specs.declared.next.Next.{Next}
use Rattle.zcore.specs.Instruction.{Instruction}
use Rattle.zcore.specs.InstructionBytes.{bytes_of}
use Rattle.zcore.specs.ObjectProperties.{get_property_address, get_property_length, property_length}
use Rattle.zcore.specs.State.{State}
use Rattle.zcore.specs.Execution.{perform, give_result}
use Rattle.meaning.specs.Accepted.{IsProperty}
use Rattle.meaning.specs.World.{Situation, size_of}
use Rattle.meaning.specs.World as source
use Rattle.code_drafts.specs.Items.{Destination}
use Rattle.code_drafts.specs.Items as items
use Rattle.code_items.specs.Stack as stack
use Rattle.code.specs.Region.{tables_base}
use Rattle.code.specs.Tables.{words_place, PropertyTable}
use Rattle.code_drafts.specs.Instructions.{result_in}
use Rattle.code_instructions.specs.ObjectCode.{property_address, length_at}
use Rattle.code.proofs.Memory.{word_of, with_variable}
use Rattle.code.proofs.Parts.{machine as at_words}
use Rattle.code.proofs.Steps.{point, first_held, one_operand, two_operands, small_value, variable_value}
use Rattle.code.proofs.AddressLengths.{one_length}
use Rattle.code.proofs.Fitting.{Shaped}
use Rattle.code.proofs.Arriving.{Running, at, around, here, LedFrom, situation_here, ArrivesAt}
use Rattle.code.proofs.Temporaries.{reads_written, word_unwritten}
use Rattle.code.proofs.Delivering.{result_small}
use Rattle.code.proofs.Alone.{alone_count, IsOperandHere, IsHere, gives_here_led}
use Rattle.code.proofs.TestedWords.{AtIndex}
use Rattle.code.proofs.TestedObjects.{IsObjectHere, begins, begun_end, object_tests, tests_led}
use Rattle.code.proofs.Working.{Works, writes, same_base}
use Rattle.code.proofs.Pulling.{works_at}
use Rattle.code.proofs.Providing.{words_at, acts_on, placed_on}

-- no bytes stand at no address
none_long : (here : Next) (after : ℕ) (result : Option ℕ) (s : State)
    → get_property_length here after result 0 s ≡ give_result here after result 0 s
unfolding get_property_length property_length
none_long here after result s = refl

module _ (c : Running) where
  open c use {story, a, p, accepted, holds, full, m, count, counts, routine, place, callers, locals, world, good}

  abbrev pub Delivered : Destination → List ℕ → List ℕ → ℕ → Situation → stack.Next
  Delivered d before rest w situation = stack.deliver d w (stack.after (at c before) rest situation)

  -- An object's property is found: its address is in a variable of the compiler
  module _ (n : ℕ) (before rest : List ℕ) (v : ℕ) (named : IsProperty n) (object : IsObjectHere c v)
      (next : Operand → List Instruction)
      (t : AtIndex c v before rest m (λ x. property_address x (n % 256) 249 ∷ next x)) where
    abbrev pub tables : List PropertyTable
    tables = t.reached.scratch.stored.tables

    abbrev pub old : List ℕ
    old = t.reached.memory

    abbrev st : State
    st = at_words (around c) old locals rest world.text

    abbrev pub behind : ℕ
    behind = t.reached.q + length (bytes_of (property_address t.operand (n % 256) 249))

    address_written : (w : ℕ)
        → ((after : ℕ) → get_property_address (point t.reached.q world.fuel) after (Some 249) v n st
        ≡ give_result (point t.reached.q world.fuel) after (Some 249) w st)
        → Works c tables before rest (with_variable old 249 w) behind (next t.operand)
    unfolding perform
    address_written w does =
        let r = t.reached in
        let same : n % 256 ≡ n = omega (arith, named.1) in
        let i = property_address t.operand (n % 256) 249 in
        let shaped : Shaped i = record {
          least = omega arith;
          most = omega arith;
          result_fits = omega arith;
          branch_fits = tt;
        } in
        writes c tables before rest old r.q 249 w operations.GetPropertyAddress
        (t.operand ∷ Small (n % 256) ∷ []) (v ∷ n % 256 ∷ []) (next t.operand) (omega arith) (omega arith) shaped
        (two_operands st st st t.operand (Small (n % 256)) v (n % 256) t.value (small_value st (n % 256)))
        (λ after. ap (λ (k : ℕ). get_property_address (point r.q world.fuel) after (Some 249) v k st) same ∙ does after)
        (works_at c v before rest m (λ x. property_address x (n % 256) 249 ∷ next x) t)

    -- there is none
    pub none_found : world.objects.properties v n ≡ None
        → Works c tables before rest (with_variable old 249 0) behind (next t.operand)
    none_found e = address_written 0 (λ after.
        (acts_on c tables old rest t.reached.scratch.stored.has).absent (point t.reached.q world.fuel) after (Some 249)
        v n object named.0 named.1 e)

    pub some_found : (words : List ℕ) → world.objects.properties v n ≡ Some words
        → Works c tables before rest (with_variable old 249 (words_at c tables v n)) behind (next t.operand)
    some_found words e =
        let r = t.reached in
        let same : words_place (tables_base (length p.objects) old) tables v n ≡ words_at c tables v n =
        ap (λ k. words_place k tables v n) (same_base c (length p.objects) old r.scratch) in
        address_written (words_at c tables v n) (λ after.
        (acts_on c tables old rest r.scratch.stored.has).present (point r.q world.fuel) after (Some 249) v n words
        object
        e ∙ ap (λ (k : ℕ). give_result (point r.q world.fuel) after (Some 249) k st) same)

    -- it is not 0
    pub some_there : (words : List ℕ) → world.objects.properties v n ≡ Some words
        → (words_at c tables v n == 0) ≡ false
    some_there words e =
        let r = t.reached in
        let same : words_place (tables_base (length p.objects) old) tables v n ≡ words_at c tables v n =
        ap (λ k. words_place k tables v n) (same_base c (length p.objects) old r.scratch) in
        let low = ((placed_on c tables old r.scratch.stored.has).within v n words object e).2 in
        ne_eqb _ _ (λ f. omega (arith, f, same, low))

    -- another of the compiler's variables is what it was
    pub other_stays : (w x : ℕ) → 248 ≤ x → x ≢ 249 → word_of (with_variable old 249 w) x ≡ word_of old x
    other_stays w x low differs =
        word_unwritten c old 249 w x t.reached.scratch (omega arith) (omega arith) (omega (arith, low)) differs

  -- how many bytes the words have
  pub bytes_counted : (tables : List PropertyTable) (before rest memory : List ℕ) (q : ℕ) (is : List Instruction)
      (v n : ℕ) (words : List ℕ) → Works c tables before rest memory q is → IsObjectHere c v
      → world.objects.properties v n ≡ Some words → (after : ℕ) (result : Option ℕ)
      → get_property_length (point q world.fuel) after result (words_at c tables v n)
      (at_words (around c) memory locals rest world.text)
      ≡ give_result (point q world.fuel) after result (2 * length words)
      (at_words (around c) memory locals rest world.text)
  bytes_counted tables before rest memory q is v n words w object e after result =
      let st = at_words (around c) memory locals rest world.text in
      let same : words_place (tables_base (length p.objects) memory) tables v n ≡ words_at c tables v n =
      ap (λ k. words_place k tables v n) (same_base c (length p.objects) memory w.scratch) in
      ap (λ k. get_property_length (point q world.fuel) after result k st) (sym same)
      ∙ (acts_on c tables memory rest w.has).long (point q world.fuel) after result v n words object e

  -- How many bytes

  module _ (n : ℕ) (d : Destination) (before rest : List ℕ) (v : ℕ) (named : IsProperty n) (is_d : IsHere c d)
      (room : length rest ≤ 48) (object : IsObjectHere c v)
      (t : AtIndex c v before rest m (λ x. property_address x (n % 256) 249 ∷ length_at 249 (result_in d) ∷ [])) where
    abbrev then_size : Operand → List Instruction
    then_size x = length_at 249 (result_in d) ∷ []

    abbrev size_tables : List PropertyTable
    size_tables = tables n before rest v named object then_size t

    size_given : (w size : ℕ)
        → Works c size_tables before rest (with_variable t.reached.memory 249 w)
        (behind n before rest v named object then_size t) (then_size t.operand)
        → ((after : ℕ) → get_property_length (point (behind n before rest v named object then_size t) world.fuel) after
        (Some (result_in d)) w (at_words (around c) (with_variable t.reached.memory 249 w) locals rest world.text)
        ≡ give_result (point (behind n before rest v named object then_size t) world.fuel) after (Some (result_in d))
        size (at_words (around c) (with_variable t.reached.memory 249 w) locals rest world.text))
        → LedFrom c before (Delivered d before rest size (situation_here c))
    unfolding perform
    size_given w size next does =
        let m1 = with_variable t.reached.memory 249 w in
        let q = behind n before rest v named object then_size t in
        let i = length_at 249 (result_in d) in
        let st1 = at_words (around c) m1 locals rest world.text in
        gives_here_led c operations.GetPropertyLength (Variable 249 ∷ []) d size q before rest rest m1 (w ∷ []) is_d
        next.scratch room next.from
        (record { least = omega arith; most = omega arith; result_fits = result_small d; branch_fits = tt })
        (first_held m q i [] next.held) (omega (arith, next.end, one_length i))
        (one_operand st1 st1 (Variable 249) w
        (variable_value (around c) m1 locals rest world.text 249 w
        (reads_written c t.reached.memory 249 w t.reached.scratch (omega arith) (omega arith)))) does next.leads

    size_by : (words : Option (List ℕ)) → world.objects.properties v n ≡ words
        → LedFrom c before (Delivered d before rest (size_of words) (situation_here c))
    size_by None e =
        size_given 0 0 (none_found n before rest v named object then_size t e)
        (λ after. none_long (point (behind n before rest v named object then_size t) world.fuel) after
        (Some (result_in d))
        (at_words (around c) (with_variable t.reached.memory 249 0) locals rest world.text))
    size_by (Some words) e =
        let w = words_at c size_tables v n in
        let next = some_found n before rest v named object then_size t words e in
        size_given w (2 * length words) next
        (λ after. bytes_counted size_tables before rest (with_variable t.reached.memory 249 w)
        (behind n before rest v named object then_size t) (then_size t.operand) v n words next object e after
        (Some (result_in d)))

  pub property_size_led : (o : items.Operand) (n : ℕ) (d : Destination) (s : List ℕ) → IsProperty n → IsOperandHere c o
      → IsHere c d → length s ≤ 48 → ArrivesAt c (items.property_size o n d)
      → LedFrom c s (stack.with_operand o (situation_here c) s
      (λ v rest. stack.gives (stack.property_bytes p v n) d rest (at c s)))
  property_size_led o n d s named is is_d room stands =
      let item = items.property_size o n d in
      let act : Operand → List Instruction =
      λ x. property_address x (n % 256) 249 ∷ length_at 249 (result_in d) ∷ [] in
      tests_led c o s s m act
      (λ v situation. source.to (size_of (situation.world.objects.properties v n)) situation)
      (λ rest w situation. Delivered d s rest w situation)
      (object_tests c o act s s m is (begins c item s stands) (begun_end c item s refl stands) stands.followed)
      (λ v rest alone object t.
      size_by n d s rest v named is_d (omega (arith, room, alone_count o (situation_here c) s v rest alone)) object t
      (world.objects.properties v n) refl)
