-- Items that operate on words, without a fault.
use Rattle.std.proofs.Common.{◌≡◌, ◌≢◌, ℕ, ◌-◌, ◌%◌, ◌≤◌, List, [], ◌∷◌, ◌++◌, length, Some, None, true, refl, sym, ap, ◌∙◌}
use Rattle.std.proofs.Common.{subst, arith}
use Rattle.std.specs.List.{All, flat_map}
use Rattle.std.proofs.lemmas.List.Elements.{All-cons, All-nil}
use Rattle.zcore.specs.declared.instruction.Operand.{Operand}
use Rattle.zcore.specs.declared.instruction.Operand.TheVariants.{Small}
use Rattle.zcore.specs.declared.instruction.Operation.{Operation}
use Rattle.zcore.specs.declared.instruction.Operation.TheVariants as operations
use Rattle.zcore.specs.declared.next.Next.{Next}
use Rattle.zcore.specs.Operations.{least_operands, most_operands, has_result, has_branch}
use Rattle.zcore.specs.Instruction.{Instruction}
use Rattle.zcore.specs.InstructionBytes.{FitsBranch, FitsResult, bytes_of}
use Rattle.zcore.specs.State.{State}
use Rattle.zcore.specs.Execution.{give_result, perform}
use Rattle.syntax_trees.specs.declared.tree.Prefix.{Prefix}
use Rattle.syntax_trees.specs.declared.tree.Prefix.TheVariants as prefixes
use Rattle.meaning.specs.Meaning.{with_prefix}
use Rattle.code_drafts.specs.Items.{Item, Destination}
use Rattle.code_drafts.specs.Items as items
use Rattle.code_items.specs.Stack as stack
use Rattle.code_drafts.specs.Instructions.{giving, in_place, result_in, operands, takes, top}
use Rattle.code_instructions.specs.Instructions.{commuting}
use Rattle.code.specs.ItemBytes.{text_bytes}
use Rattle.code.proofs.Behind.{Holds}
use Rattle.code.proofs.Play.{stays}
use Rattle.code.proofs.Parts.{machine as at_words}
use Rattle.code.proofs.Steps.{point, first_held, one_operand, two_operands, small_value}
use Rattle.code.proofs.Fitting.{Shaped}
use Rattle.code.proofs.ItemOperands.{with_first, by_operands, gives_count, gives_length, few_pushed, GivesOperands}
use Rattle.code.proofs.ItemOperands.{operands_length}
use Rattle.code.proofs.AddressLengths.{one_length}
use Rattle.code.proofs.Arriving.{Running, at, around, here, LedFrom, code_here, code_held, situation_here, ArrivesAt}
use Rattle.code.proofs.Temporaries.{scratch_here}
use Rattle.code.proofs.Taking.{after_takes, taken, apart}
use Rattle.code.proofs.Delivering.{result_small}
use Rattle.code.proofs.Alone.{by_operand, alone_count, alone_value, IsOperandHere, IsHere, plain_length, single}
use Rattle.code.proofs.Alone.{gives_led}

-- what is done with two words
abbrev pub of_two : (ℕ → ℕ → List ℕ → stack.Next) → List ℕ → List ℕ → stack.Next
of_two f (x ∷ y ∷ []) rest = f x y rest
of_two f _ rest = stack.stuck

pub shaped_result : (op : Operation) (os : List Operand) (d : Destination) → least_operands op ≤ length os
    → length os ≤ most_operands op → has_result op ≡ true → FitsBranch (has_branch op) None
    → Shaped (giving op os (result_in d))
shaped_result op os d least most is branch = record {
  least = least;
  most = most;
  result_fits = subst (λ b. FitsResult b (Some (result_in d))) (sym is) (result_small d);
  branch_fits = branch;
}

module _ (c : Running) where
  open c use {story, a, p, accepted, holds, full, m, count, counts, routine, place, callers, locals, world, good}

  -- where a word that operands give goes
  abbrev pub to : Destination → ℕ → List ℕ → List ℕ → stack.Next
  to d w before rest = stack.deliver d w (stack.after (at c before) rest (situation_here c))

  -- Prefixes

  pub prefix_led : (op : Prefix) (o : items.Operand) (d : Destination) (s : List ℕ) → IsOperandHere c o → IsHere c d
      → op ≢ prefixes.Not → length s ≤ 48 → ArrivesAt c (items.apply_prefix op o d)
      → LedFrom c s (stack.with_operand o (situation_here c) s (λ v rest. to d (with_prefix op v) s rest))
  unfolding perform
  prefix_led prefixes.Minus o d s is is_d other short stands =
      by_operand o (situation_here c) s (LedFrom c s) (λ v rest. to d (with_prefix prefixes.Minus v) s rest) tt
      (λ v rest h.
      let st = at_words (around c) m locals s world.text in
      let os = Small 0 ∷ in_place o ∷ [] in
      let there = single c (items.apply_prefix prefixes.Minus o d) (giving operations.Sub os (result_in d)) refl refl
      stands in
      gives_led c operations.Sub os d ((65536 - v) % 65536) (here c) s s rest m (0 ∷ v ∷ []) is_d (scratch_here c)
      (omega (arith, short, alone_count o (situation_here c) s v rest h)) (omega arith)
      (shaped_result operations.Sub os d (omega arith) (omega arith) refl tt) there.held there.end
      (two_operands st st (at_words (around c) m locals rest world.text) (Small 0) (in_place o) 0 v (small_value st 0)
      (alone_value c o m world.text s v rest (scratch_here c) is h))
      (λ before after u. refl) (stays (point (here c) world.fuel) st))
  prefix_led prefixes.Complement o d s is is_d other short stands =
      by_operand o (situation_here c) s (LedFrom c s) (λ v rest. to d (with_prefix prefixes.Complement v) s rest) tt
      (λ v rest h.
      let st = at_words (around c) m locals s world.text in
      let os = in_place o ∷ [] in
      let there = single c (items.apply_prefix prefixes.Complement o d) (giving operations.Not os (result_in d)) refl
      refl stands in
      gives_led c operations.Not os d (65535 - v) (here c) s s rest m (v ∷ []) is_d (scratch_here c)
      (omega (arith, short, alone_count o (situation_here c) s v rest h)) (omega arith)
      (shaped_result operations.Not os d (omega arith) (omega arith) refl tt) there.held there.end
      (one_operand st (at_words (around c) m locals rest world.text) (in_place o) v
      (alone_value c o m world.text s v rest (scratch_here c) is h))
      (λ before after u. refl) (stays (point (here c) world.fuel) st))
  prefix_led prefixes.Not o d s is is_d other short stands = absurd (other refl)

  -- Arithmetic

  pub pair_here : (x y : items.Operand) → IsOperandHere c x → IsOperandHere c y → All (IsOperandHere c) (x ∷ y ∷ [])
  pair_here x y is is_y =
      All-cons (IsOperandHere c) x (y ∷ []) is (All-cons (IsOperandHere c) y [] is_y (All-nil (IsOperandHere c)))

  pub reckons_led : (item : Item) (op : Operation) (f : ℕ → ℕ → ℕ) (x y : items.Operand) (d : Destination)
      (s : List ℕ)
      → IsOperandHere c x → IsOperandHere c y → IsHere c d → length s ≤ 48 → ArrivesAt c item
      → code_here c item ≡ takes (x ∷ y ∷ []) ++ giving op (operands (x ∷ y ∷ [])) (result_in d) ∷ []
      → text_bytes p.abbreviations item ≡ []
      → least_operands op ≤ 2 → 2 ≤ most_operands op → has_result op ≡ true → FitsBranch (has_branch op) None
      → ((v w : ℕ) (before : Next) (after : ℕ) (st : State)
      → perform op before after (Some (result_in d)) None (v ∷ w ∷ []) st
      ≡ give_result before after (Some (result_in d)) (f v w) st)
      → LedFrom c s (stack.with_operand y (situation_here c) s
      (λ w left. stack.with_operand x (situation_here c) left (λ v rest. to d (f v w) s rest)))
  reckons_led item op f x y d s is is_y is_d short stands code none least most result branch performs =
      by_operands os (situation_here c) s (LedFrom c s) (of_two (λ v w rest. to d (f v w) s rest)) tt
      (λ vs rest g. go vs rest g (gives_length os (situation_here c) s vs rest g))
    where
      os : List items.Operand
      os = x ∷ y ∷ []

      i : Instruction
      i = giving op (operands os) (result_in d)

      go : (vs rest : List ℕ) → GivesOperands os (situation_here c) s vs rest → length vs ≡ 2
          → LedFrom c s (of_two (λ v w rest. to d (f v w) s rest) vs rest)
      go [] rest g two = absurd (cc)
      go (v ∷ []) rest g two = absurd (cc)
      go (v ∷ w ∷ u ∷ vs) rest g two = absurd (omega (arith, two))
      go (v ∷ w ∷ []) rest g two =
          let parts = apart c os (i ∷ []) (subst (λ is. Holds m (here c) (flat_map bytes_of is)) code
          (code_held c item stands)) in
          let t = taken c os s (v ∷ w ∷ []) rest (pair_here x y is is_y) (omega (arith, few_pushed os)) g
          parts.takes_held in
          let count = gives_count os (situation_here c) s (v ∷ w ∷ []) rest g in
          let size = plain_length c item none in
          let same = ap (λ is. length (flat_map bytes_of is)) code in
          gives_led c op (operands os) d (f v w) (after_takes c os) s (with_first os (v ∷ w ∷ []) rest) rest t.memory
          (v ∷ w ∷ []) is_d t.scratch (omega (arith, count, short)) (omega arith)
          (shaped_result op (operands os) d (omega (arith, least, operands_length os))
          (omega (arith, most, operands_length os)) result branch)
          (first_held m (after_takes c os) i [] parts.others)
          (omega (arith, stands.next, size, same, parts.sizes, one_length i)) (t.values world.text)
          (performs v w) t.leads

  -- where it does not matter which stands first, words that are both pushed are taken as they stand
  pub commutes_led : (item : Item) (op : Operation) (f : ℕ → ℕ → ℕ) (x y : items.Operand) (d : Destination)
      (s : List ℕ)
      → IsOperandHere c x → IsOperandHere c y → IsHere c d → length s ≤ 48 → ArrivesAt c item
      → code_here c item ≡ commuting op x y d → text_bytes p.abbreviations item ≡ []
      → least_operands op ≤ 2 → 2 ≤ most_operands op → has_result op ≡ true → FitsBranch (has_branch op) None
      → ((v w : ℕ) → f w v ≡ f v w)
      → ((v w : ℕ) (before : Next) (after : ℕ) (st : State)
      → perform op before after (Some (result_in d)) None (v ∷ w ∷ []) st
      ≡ give_result before after (Some (result_in d)) (f v w) st)
      → LedFrom c s (stack.with_operand y (situation_here c) s
      (λ w left. stack.with_operand x (situation_here c) left (λ v rest. to d (f v w) s rest)))
  commutes_led item op f (items.number n) y d s is is_y is_d short stands code none least most result branch turned
      performs =
      reckons_led item op f (items.number n) y d s is is_y is_d short stands code none least most result branch performs
  commutes_led item op f (items.variable x) y d s is is_y is_d short stands code none least most result branch turned
      performs =
      reckons_led item op f (items.variable x) y d s is is_y is_d short stands code none least most result branch
      performs
  commutes_led item op f items.pushed (items.number n) d s is is_y is_d short stands code none least most result branch
      turned performs =
      reckons_led item op f items.pushed (items.number n) d s is is_y is_d short stands code none least most result
      branch performs
  commutes_led item op f items.pushed (items.variable x) d s is is_y is_d short stands code none least most result
      branch turned performs =
      reckons_led item op f items.pushed (items.variable x) d s is is_y is_d short stands code none least most result
      branch performs
  commutes_led item op f items.pushed items.pushed d [] is is_y is_d short stands code none least most result branch
      turned performs = tt
  commutes_led item op f items.pushed items.pushed d (w ∷ []) is is_y is_d short stands code none least most result
      branch turned performs = tt
  commutes_led item op f items.pushed items.pushed d (w ∷ v ∷ s) is is_y is_d short stands code none least most result
      branch turned performs =
      let st = at_words (around c) m locals (w ∷ v ∷ s) world.text in
      let st1 = at_words (around c) m locals (v ∷ s) world.text in
      let st2 = at_words (around c) m locals s world.text in
      let there = single c item (giving op (top ∷ top ∷ []) (result_in d)) code none stands in
      gives_led c op (top ∷ top ∷ []) d (f v w) (here c) (w ∷ v ∷ s) (w ∷ v ∷ s) s m (w ∷ v ∷ []) is_d
      (scratch_here c) (omega (arith, short)) (omega arith)
      (shaped_result op (top ∷ top ∷ []) d least most result branch) there.held there.end
      (two_operands st st1 st2 top top w v
      (alone_value c items.pushed m world.text (w ∷ v ∷ s) w (v ∷ s) (scratch_here c) is_y refl)
      (alone_value c items.pushed m world.text (v ∷ s) v s (scratch_here c) is refl))
      (λ before after u. performs w v before after u
      ∙ ap (λ n. give_result before after (Some (result_in d)) n u) (turned v w))
      (stays (point (here c) world.fuel) st)
