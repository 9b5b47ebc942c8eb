-- Items that read a property of one word.
use Rattle.std.proofs.Common.{◌≡◌, ◌≢◌, ℕ, suc, ◌+◌, ◌-◌, ◌*◌, ◌%◌, ◌<◌, ◌≤◌, List, [], ◌∷◌, ◌++◌, length, Option}
use Rattle.std.proofs.Common.{slice_index, Some, None, Bool, true, false, refl, sym, ap, ◌∙◌, subst, arith}
use Rattle.std.specs.Prelude.{◌==◌, ◌||◌, if◌then◌else◌}
use Rattle.std.specs.List.{flat_map}
use Rattle.std.proofs.lemmas.Bool.{eqb-true}
use Rattle.zcore.specs.declared.instruction.Operand.{Operand}
use Rattle.zcore.specs.declared.instruction.Operand.TheVariants.{Small, Variable}
use Rattle.zcore.specs.declared.instruction.Operation.TheVariants as operations
use Rattle.zcore.specs.Instruction.{Instruction}
use Rattle.zcore.specs.InstructionBytes.{bytes_of}
use Rattle.zcore.specs.ObjectProperties.{get_property}
use Rattle.zcore.specs.Execution.{perform, give_result}
use Rattle.meaning.specs.declared.cause.Cause.TheVariants as causes
use Rattle.meaning.specs.Accepted.{IsProperty}
use Rattle.meaning.specs.World.{bound, single_word}
use Rattle.meaning.specs.World as source
use Rattle.code_drafts.specs.Items.{Destination}
use Rattle.code_drafts.specs.Items as items
use Rattle.code_items.specs.Stack as stack
use Rattle.code.specs.Tables.{PropertyTable}
use Rattle.code_drafts.specs.Addresses.{fault_address, has_one_word}
use Rattle.code_drafts.specs.Instructions.{giving, branching, fail, aside_variable, result_in}
use Rattle.code_instructions.specs.ObjectCode.{property_address, length_at, property_value}
use Rattle.code.specs.HeldProgram.{sizes_of}
use Rattle.code.proofs.Behind.{Holds, holds_append}
use Rattle.code.proofs.Play.{Leads}
use Rattle.code.proofs.Memory.{word_of, with_variable}
use Rattle.code.proofs.Parts.{machine as at_words}
use Rattle.code.proofs.Steps.{point, leads_then, first_held, others_held, one_operand, two_operands, small_value}
use Rattle.code.proofs.Steps.{variable_value, landing}
use Rattle.code.proofs.AddressLengths.{one_length}
use Rattle.code.proofs.Arriving.{Running, at, around, here, LedFrom, situation_here, ArrivesAt}
use Rattle.code.proofs.Temporaries.{reads_written, word_unwritten}
use Rattle.code.proofs.Delivering.{result_small}
use Rattle.code.proofs.Alone.{alone_count, IsOperandHere, IsHere, next_place, gives_here_led}
use Rattle.code.proofs.StoringSteps.{after_bound}
use Rattle.code.proofs.TestedWords.{AtIndex}
use Rattle.code.proofs.TestedObjects.{IsObjectHere, acts_in, begins, begun_end, object_tests, single_here, tests_led}
use Rattle.code.proofs.Working.{Works, writes, branch_leads, fault_led}
use Rattle.code.proofs.FaultTests.{Passed, tests}
use Rattle.code.proofs.Providing.{words_at}
use Rattle.code.proofs.Pulling.{works_at}
use Rattle.code.proofs.CountedWords.{double_single}
use Rattle.code.proofs.PropertySizes.{Delivered, tables, behind, none_found, some_found, some_there, other_stays}
use Rattle.code.proofs.PropertySizes.{bytes_counted}

-- words of which there is one
only_word : (words : List ℕ) → (length words == 1) ≡ true → words ≡ slice_index words 0 ∷ []
only_word [] e = absurd (omega (arith, eqb-true 0 1 e))
only_word (w ∷ []) e = refl
only_word (w ∷ x ∷ ws) e = absurd (omega (arith, eqb-true (suc (suc (length ws))) 1 e))

module _ (c : Running) where
  open c use {story, a, p, accepted, holds, full, m, count, counts, routine, place, callers, locals, world, good}

  -- A property of one word

  abbrev zero_test : Instruction
  zero_test = branching operations.JumpIfZero (Variable 249 ∷ []) true 13

  abbrev single_test : Instruction
  single_test = branching operations.JumpIfEqual (Variable 249 ∷ Small 2 ∷ []) true 6

  abbrev many_fault : List Instruction
  many_fault = fail (fault_address a causes.PropertyOfManyWords)

  abbrev last_read : ℕ → Destination → Operand → Instruction
  last_read n d x = giving operations.GetProperty (x ∷ Small (n % 256) ∷ []) (result_in d)

  abbrev counting : ℕ → Destination → Operand → List Instruction
  counting n d x = length_at 249 249 ∷ single_test ∷ (many_fault ++ last_read n d x ∷ [])

  -- what a property of these words comes to
  abbrev Single : Destination → List ℕ → List ℕ → Bool → List ℕ → stack.Next
  Single d before rest b words =
      stack.after_part
      (bound {A = Unit {0}}
      ((if b then source.give tt else source.fault causes.PropertyOfManyWords) (situation_here c))
      (λ _. source.give (slice_index words 0))) (λ w situation. Delivered c d before rest w situation)

  module _ (n : ℕ) (d : Destination) (before rest : List ℕ) (v : ℕ) (named : IsProperty n) (is_d : IsHere c d)
      (room : length rest ≤ 48) (followed : next_place c < length m) (object : IsObjectHere c v)
      (t : AtIndex c v before rest m (λ x. property_address x (n % 256) 249 ∷ zero_test ∷ counting n d x)) where
    abbrev then_read : Operand → List Instruction
    then_read x = zero_test ∷ counting n d x

    abbrev read_tables : List PropertyTable
    read_tables = tables c n before rest v named object then_read t

    abbrev from_here : ℕ
    from_here = behind c n before rest v named object then_read t

    -- the last instruction gives the word
    read_given : (memory : List ℕ) (q w : ℕ) → word_of memory 248 ≡ word_of t.reached.memory 248
        → word_of memory aside_variable ≡ word_of t.reached.memory aside_variable
        → Works c read_tables before rest memory q (last_read n d t.operand ∷ [])
        → ((after : ℕ) → get_property (point q world.fuel) after (Some (result_in d)) v n
        (at_words (around c) memory locals rest world.text)
        ≡ give_result (point q world.fuel) after (Some (result_in d)) w
        (at_words (around c) memory locals rest world.text))
        → LedFrom c before (Delivered c d before rest w (situation_here c))
    unfolding perform
    read_given memory q w still still_aside next does =
        let same : n % 256 ≡ n = omega (arith, named.1) in
        let i = last_read n d t.operand in
        let st1 = at_words (around c) memory locals rest world.text in
        gives_here_led c operations.GetProperty (t.operand ∷ Small (n % 256) ∷ []) d w q before rest rest memory
        (v ∷ n % 256 ∷ []) is_d next.scratch room next.from
        (record { least = omega arith; most = omega arith; result_fits = result_small d; branch_fits = tt })
        (first_held m q i [] next.held) (omega (arith, next.end, one_length i))
        (two_operands st1 st1 st1 t.operand (Small (n % 256)) v (n % 256) (t.stays memory rest next.scratch still still_aside)
        (small_value st1 (n % 256)))
        (λ after. ap (λ (k : ℕ). get_property (point q world.fuel) after (Some (result_in d)) v k st1) same
        ∙ does after)
        next.leads

    -- a branch over the count where there is no address
    zero_leads : (w : ℕ) → Works c read_tables before rest (with_variable t.reached.memory 249 w) from_here
        (then_read t.operand)
        → Leads (point (here c) world.fuel) (at_words (around c) m locals before world.text)
        (point (landing true (w == 0) (from_here + 3) 11) world.fuel)
        (at_words (around c) (with_variable t.reached.memory 249 w) locals rest world.text)
    unfolding perform bytes_of
    zero_leads w next =
        let m1 = with_variable t.reached.memory 249 w in
        let st1 = at_words (around c) m1 locals rest world.text in
        leads_then (point (here c) world.fuel) (point from_here world.fuel)
        (point (landing true (w == 0) (from_here + 3) 11) world.fuel) (at_words (around c) m locals before world.text)
        st1 st1 next.leads
        (branch_leads c rest m1 from_here 11 operations.JumpIfZero (Variable 249 ∷ []) (w ∷ []) true (w == 0)
        next.scratch next.from
        (record { least = omega arith; most = omega arith; result_fits = tt; branch_fits = omega arith })
        (one_operand st1 st1 (Variable 249) w
        (variable_value (around c) m1 locals rest world.text 249 w
        (reads_written c t.reached.memory 249 w t.reached.scratch (omega arith) (omega arith))))
        (λ after. refl) (omega arith) (omega arith) (omega (arith, next.end, followed))
        (first_held m from_here zero_test (counting n d t.operand) next.held))

    -- what stands after it
    last_held : (w : ℕ) → Works c read_tables before rest (with_variable t.reached.memory 249 w) from_here
        (then_read t.operand)
        → Holds m (from_here + 3 + 11) (flat_map bytes_of (last_read n d t.operand ∷ []))
    unfolding bytes_of
    last_held w next =
        let last = last_read n d t.operand ∷ [] in
        let h1 = others_held m from_here zero_test (counting n d t.operand) next.held in
        let h2 = others_held m (from_here + 3) (length_at 249 249) (single_test ∷ (many_fault ++ last)) h1 in
        let h3 = others_held m (from_here + 3 + 3) single_test (many_fault ++ last) h2 in
        let both = holds_append m (from_here + 3 + 3 + 4) (flat_map bytes_of many_fault) (flat_map bytes_of last) h3 in
        let number : from_here + 3 + 3 + 4 + 4 ≡ from_here + 3 + 11 = omega arith in
        subst (λ k. Holds m k (flat_map bytes_of last)) number both.1

    none_read : world.objects.properties v n ≡ None
        → LedFrom c before (Delivered c d before rest (slice_index p.defaults (n - 1)) (situation_here c))
    unfolding bytes_of
    none_read e =
        let next = none_found c n before rest v named object then_read t e in
        let m1 = with_variable t.reached.memory 249 0 in
        read_given m1 (from_here + 3 + 11) (slice_index p.defaults (n - 1))
        (other_stays c n before rest v named object then_read t 0 248 (omega arith) (λ f. omega (arith, f)))
        (other_stays c n before rest v named object then_read t 0 aside_variable (omega arith) (λ f. omega (arith, f)))
        (record {
          scratch = next.scratch;
          has = next.has;
          from = omega (arith, next.from);
          held = last_held 0 next;
          end = omega (arith, next.end);
          leads = zero_leads 0 next;
        })
        (λ after. (acts_in c m1 rest world.text next.scratch).default (point (from_here + 3 + 11) world.fuel) after
        (Some (result_in d)) v n object named.0 named.1 e)

    -- there is one word, or the fault
    words_counted : (words : List ℕ) → world.objects.properties v n ≡ Some words
        → Passed c (length words == 1) causes.PropertyOfManyWords read_tables before rest
        (with_variable (with_variable t.reached.memory 249 (words_at c read_tables v n)) 249 (2 * length words))
        (from_here + 3 + 3 + 4 + 4) (last_read n d t.operand ∷ [])
    unfolding perform bytes_of
    words_counted words e =
        let w = words_at c read_tables v n in
        let k = 2 * length words in
        let m1 = with_variable t.reached.memory 249 w in
        let m2 = with_variable m1 249 k in
        let next = some_found c n before rest v named object then_read t words e in
        let st1 = at_words (around c) m1 locals rest world.text in
        let st2 = at_words (around c) m2 locals rest world.text in
        let some = some_there c n before rest v named object then_read t words e in
        let there : Works c read_tables before rest m1 (from_here + 3) (counting n d t.operand) = record {
          scratch = next.scratch;
          has = next.has;
          from = omega (arith, next.from);
          held = others_held m from_here zero_test (counting n d t.operand) next.held;
          end = omega (arith, next.end);
          leads = subst (λ b. Leads (point (here c) world.fuel) (at_words (around c) m locals before world.text)
              (point (landing true b (from_here + 3) 11) world.fuel) st1) some (zero_leads w next);
        } in
        let counted = writes c read_tables before rest m1 (from_here + 3) 249 k operations.GetPropertyLength
        (Variable 249 ∷ []) (w ∷ []) (single_test ∷ (many_fault ++ last_read n d t.operand ∷ [])) (omega arith)
        (omega arith)
        (record { least = omega arith; most = omega arith; result_fits = omega arith; branch_fits = tt })
        (one_operand st1 st1 (Variable 249) w
        (variable_value (around c) m1 locals rest world.text 249 w
        (reads_written c t.reached.memory 249 w t.reached.scratch (omega arith) (omega arith))))
        (λ after. bytes_counted c read_tables before rest m1 (from_here + 3) (counting n d t.operand) v n words there
        object e after (Some 249)) there in
        subst (λ b. Passed c b causes.PropertyOfManyWords read_tables before rest m2 (from_here + 3 + 3 + 4 + 4)
        (last_read n d t.operand ∷ [])) (double_single c (length words))
        (tests c causes.PropertyOfManyWords read_tables before rest m2 (from_here + 3 + 3) operations.JumpIfEqual
        (Variable 249 ∷ Small 2 ∷ []) (k ∷ 2 ∷ []) true ((k == 2) || false) (last_read n d t.operand ∷ []) followed
        (record { least = omega arith; most = omega arith; result_fits = tt; branch_fits = omega arith })
        (two_operands st2 st2 st2 (Variable 249) (Small 2) k 2
        (variable_value (around c) m2 locals rest world.text 249 k
        (reads_written c m1 249 k next.scratch (omega arith) (omega arith))) (small_value st2 2))
        (λ after. refl) (omega arith) counted)

    single_by : (b : Bool) (words : List ℕ) → (length words == 1) ≡ b → world.objects.properties v n ≡ Some words
        → Passed c b causes.PropertyOfManyWords read_tables before rest
        (with_variable (with_variable t.reached.memory 249 (words_at c read_tables v n)) 249 (2 * length words))
        (from_here + 3 + 3 + 4 + 4) (last_read n d t.operand ∷ [])
        → LedFrom c before (Single d before rest b words)
    single_by true words one e next =
        let w = words_at c read_tables v n in
        let k = 2 * length words in
        let m1 = with_variable t.reached.memory 249 w in
        let m2 = with_variable m1 249 k in
        let found = some_found c n before rest v named object then_read t words e in
        let kept : (x : ℕ) → 248 ≤ x → x ≢ 249 → word_of m2 x ≡ word_of t.reached.memory x =
        λ x low differs. word_unwritten c m1 249 k x found.scratch (omega arith) (omega arith) low differs
        ∙ other_stays c n before rest v named object then_read t w x (omega (arith, low)) differs in
        read_given m2 (from_here + 3 + 3 + 4 + 4) (slice_index words 0) (kept 248 (omega arith) (λ f. omega (arith, f)))
        (kept aside_variable (omega arith) (λ f. omega (arith, f))) next
        (λ after. (acts_in c m2 rest world.text next.scratch).single (point (from_here + 3 + 3 + 4 + 4) world.fuel)
        after (Some (result_in d)) v n (slice_index words 0) object (e ∙ ap Some (only_word words one)))
    single_by false words one e next =
        subst (LedFrom c before)
        (sym (after_bound {A = Unit {0}} (source.fault causes.PropertyOfManyWords (situation_here c))
        (λ _. source.give (slice_index words 0)) (λ w situation. Delivered c d before rest w situation)))
        (fault_led c causes.PropertyOfManyWords before
        (λ _ situation. Delivered c d before rest (slice_index words 0) situation) next)

    read_by : (words : Option (List ℕ)) → world.objects.properties v n ≡ words
        → LedFrom c before (stack.after_part
        (single_word (slice_index p.defaults (n - 1)) words (situation_here c))
        (λ w situation. Delivered c d before rest w situation))
    read_by None e = none_read e
    read_by (Some words) e = single_by (length words == 1) words refl e (words_counted words e)

  -- A property that has one word wherever it is provided is read at once

  module _ (n : ℕ) (d : Destination) (before rest : List ℕ) (v : ℕ) (named : IsProperty n) (is_d : IsHere c d)
      (room : length rest ≤ 48) (object : IsObjectHere c v)
      (single : has_one_word (sizes_of p) (n % 256) ≡ true)
      (t : AtIndex c v before rest m (λ x. last_read n d x ∷ [])) where
    at_once : (w : ℕ)
        → ((after : ℕ) → get_property (point t.reached.q world.fuel) after (Some (result_in d)) v n
        (at_words (around c) t.reached.memory locals rest world.text)
        ≡ give_result (point t.reached.q world.fuel) after (Some (result_in d)) w
        (at_words (around c) t.reached.memory locals rest world.text))
        → LedFrom c before (Delivered c d before rest w (situation_here c))
    unfolding perform
    at_once w does =
        let same : n % 256 ≡ n = omega (arith, named.1) in
        let q = t.reached.q in
        let memory = t.reached.memory in
        let st = at_words (around c) memory locals rest world.text in
        let i = last_read n d t.operand in
        let works = works_at c v before rest m (λ x. last_read n d x ∷ []) t in
        gives_here_led c operations.GetProperty (t.operand ∷ Small (n % 256) ∷ []) d w q before rest rest memory
        (v ∷ n % 256 ∷ []) is_d works.scratch room works.from
        (record { least = omega arith; most = omega arith; result_fits = result_small d; branch_fits = tt })
        (first_held m q i [] works.held) (omega (arith, works.end, one_length i))
        (two_operands st st st t.operand (Small (n % 256)) v (n % 256) t.value (small_value st (n % 256)))
        (λ after. ap (λ (k : ℕ). get_property (point q world.fuel) after (Some (result_in d)) v k st) same ∙ does after)
        works.leads

    once_by : (words : Option (List ℕ)) → world.objects.properties v n ≡ words
        → LedFrom c before (stack.after_part
        (single_word (slice_index p.defaults (n - 1)) words (situation_here c))
        (λ w situation. Delivered c d before rest w situation))
    once_by None e =
        at_once (slice_index p.defaults (n - 1)) (λ after.
        (acts_in c t.reached.memory rest world.text t.reached.scratch).default (point t.reached.q world.fuel) after
        (Some (result_in d)) v n object named.0 named.1 e)
    once_by (Some words) e =
        let one = single_here c v n words named object single e in
        subst (λ b. LedFrom c before (Single d before rest b words)) (sym one)
        (at_once (slice_index words 0) (λ after.
        (acts_in c t.reached.memory rest world.text t.reached.scratch).single (point t.reached.q world.fuel) after
        (Some (result_in d)) v n (slice_index words 0) object (e ∙ ap Some (only_word words one))))

  abbrev reading : Bool → ℕ → Destination → Operand → List Instruction
  reading single n d x = property_value a single x (n % 256) (result_in d)

  read_either : (n : ℕ) (d : Destination) (before rest : List ℕ) (v : ℕ) → IsProperty n → IsHere c d
      → length rest ≤ 48 → next_place c < length m → IsObjectHere c v
      → (single : Bool) → has_one_word (sizes_of p) (n % 256) ≡ single
      → AtIndex c v before rest m (reading single n d)
      → LedFrom c before (stack.after_part
      (single_word (slice_index p.defaults (n - 1)) (world.objects.properties v n) (situation_here c))
      (λ w situation. Delivered c d before rest w situation))
  read_either n d before rest v named is_d room followed object true single t =
      once_by n d before rest v named is_d room object single t (world.objects.properties v n) refl
  read_either n d before rest v named is_d room followed object false single t =
      read_by n d before rest v named is_d room followed object t (world.objects.properties v n) refl

  pub property_led : (o : items.Operand) (n : ℕ) (d : Destination) (s : List ℕ) → IsProperty n → IsOperandHere c o
      → IsHere c d → length s ≤ 48 → ArrivesAt c (items.property o n d)
      → LedFrom c s (stack.with_operand o (situation_here c) s
      (λ v rest. stack.gives (stack.property_of p v n) d rest (at c s)))
  property_led o n d s named is is_d room stands =
      let item = items.property o n d in
      let single = has_one_word (sizes_of p) (n % 256) in
      let act : Operand → List Instruction = reading single n d in
      tests_led c o s s m act
      (λ v situation. single_word (slice_index p.defaults (n - 1)) (situation.world.objects.properties v n) situation)
      (λ rest w situation. Delivered c d s rest w situation)
      (object_tests c o act s s m is (begins c item s stands) (begun_end c item s refl stands) stands.followed)
      (λ v rest alone object t.
      read_either n d s rest v named is_d (omega (arith, room, alone_count o (situation_here c) s v rest alone))
      stands.followed object single refl t)
