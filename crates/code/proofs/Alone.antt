-- Items of one instruction: where it stands, its operand, and the word that it gives.
use Rattle.std.proofs.Common.{◌≡◌, ℕ, ◌+◌, ◌≤◌, List, [], ◌∷◌, ◌++◌, length, Some, None, refl, ap, ◌∙◌, subst, arith}
use Rattle.std.proofs.Common.{append-nil}
use Rattle.std.specs.List.{flat_map}
use Rattle.zcore.specs.declared.instruction.Operand.{Operand}
use Rattle.zcore.specs.declared.instruction.Operation.{Operation}
use Rattle.zcore.specs.declared.next.Next.{Next}
use Rattle.zcore.specs.Instruction.{Instruction}
use Rattle.zcore.specs.InstructionBytes.{bytes_of}
use Rattle.zcore.specs.State.{State, done}
use Rattle.zcore.specs.Parts.{operand_value, operand_values}
use Rattle.zcore.specs.Execution.{give_result, perform}
use Rattle.meaning.specs.World.{Situation, value_in}
use Rattle.meaning.specs.Meaning.{routine_at}
use Rattle.code_drafts.specs.Items.{Item, Destination}
use Rattle.code_drafts.specs.Items as items
use Rattle.code_items.specs.Laws.{IsOperand, IsDestination}
use Rattle.code_items.specs.Stack as stack
use Rattle.code_drafts.specs.Instructions.{giving, in_place, result_in}
use Rattle.code.specs.ItemBytes.{text_bytes}
use Rattle.code.proofs.Behind.{Holds}
use Rattle.code.proofs.Play.{Leads, address}
use Rattle.code.proofs.Parts.{machine as at_words}
use Rattle.code.proofs.Steps.{point, leads_then, one_step, top_value, variable_value}
use Rattle.code.proofs.Fitting.{Shaped}
use Rattle.code.proofs.ItemOperands.{constant_value}
use Rattle.code.proofs.Arriving.{Running, at, around, here, LedFrom, code_here, bytes_here, code_held, ArrivesAt}
use Rattle.code.proofs.Arriving.{situation_here}
use Rattle.code.proofs.Variables.{variable_held}
use Rattle.code.proofs.Temporaries.{Scratch, made}
use Rattle.code.proofs.Delivering.{memory_after, locals_after, stack_after, delivered_led, given}

-- one operand comes to a word, and leaves this of the stack
abbrev pub Alone : items.Operand → Situation → List ℕ → ℕ → List ℕ → Type 0
Alone items.pushed s words v rest = words ≡ v ∷ rest
Alone (items.number n) s words v rest = (n ≡ v) × (words ≡ rest)
Alone (items.variable x) s words v rest = (value_in x s ≡ v) × (words ≡ rest)

pub by_operand : (o : items.Operand) (s : Situation) (words : List ℕ) (P : stack.Next → Type 0) (k : ℕ → List ℕ
    → stack.Next)
    → P stack.stuck → ((v : ℕ) (rest : List ℕ) → Alone o s words v rest → P (k v rest))
    → P (stack.with_operand o s words k)
by_operand items.pushed s [] P k lacks f = lacks
by_operand items.pushed s (v ∷ words) P k lacks f = f v words refl
by_operand (items.number n) s words P k lacks f = f n words (refl, refl)
by_operand (items.variable x) s words P k lacks f = f (value_in x s) words (refl, refl)

pub alone_count : (o : items.Operand) (s : Situation) (words : List ℕ) (v : ℕ) (rest : List ℕ)
    → Alone o s words v rest
    → length rest ≤ length words
alone_count items.pushed s words v rest h = let n = ap length h in omega (arith, n)
alone_count (items.number n) s words v rest h = let n = ap length h.1 in omega (arith, n)
alone_count (items.variable x) s words v rest h = let n = ap length h.1 in omega (arith, n)

module _ (c : Running) where
  open c use {story, a, p, accepted, holds, full, m, count, counts, routine, place, callers, locals, world, good}

  abbrev pub IsOperandHere : items.Operand → Type 0
  IsOperandHere o = IsOperand p (routine_at p.routines routine).locals o

  abbrev pub IsHere : Destination → Type 0
  IsHere d = IsDestination p (routine_at p.routines routine).locals d

  abbrev pub next_place : ℕ
  next_place = address story a p routine (place + 1)

  -- an operand in its place in an instruction
  pub alone_value : (o : items.Operand) (other text words : List ℕ) (v : ℕ) (rest : List ℕ) → Scratch c other
      → IsOperandHere o → Alone o (situation_here c) words v rest
      → operand_value (in_place o) (at_words (around c) other locals words text)
      ≡ done v (at_words (around c) other locals rest text)
  alone_value items.pushed other text words v rest scratch is h =
      ap (λ ws. operand_value (in_place items.pushed) (at_words (around c) other locals ws text)) h
      ∙ top_value (around c) other locals rest text v
  alone_value (items.number n) other text words v rest scratch is h =
      constant_value (at_words (around c) other locals words text) n
      ∙ ap (λ (x : ℕ). done x (at_words (around c) other locals words text)) h.0
      ∙ ap (λ ws. done v (at_words (around c) other locals ws text)) h.1
  alone_value (items.variable x) other text words v rest scratch is h =
      variable_value (around c) other locals words text _ (value_in x (situation_here c))
      (variable_held c other x scratch is).reads
      ∙ ap (λ (w : ℕ). done w (at_words (around c) other locals words text)) h.0
      ∙ ap (λ ws. done v (at_words (around c) other locals ws text)) h.1

  -- the bytes of an item without a text are those of its instructions
  pub plain_length : (i : Item) → text_bytes p.abbreviations i ≡ []
      → length (bytes_here c i) ≡ length (flat_map bytes_of (code_here c i))
  plain_length i none = ap (λ t. length (flat_map bytes_of (code_here c i) ++ t)) none
      ∙ ap length (append-nil (flat_map bytes_of (code_here c i)))

  -- the one instruction of an item stands here, and the next item after it
  pub record Single (i : Instruction) : Type 0 where
    pub held : Holds m (here c) (bytes_of i)
    pub end : here c + length (bytes_of i) ≡ next_place

  pub single : (item : Item) (i : Instruction) → code_here c item ≡ i ∷ [] → text_bytes p.abbreviations item ≡ []
      → ArrivesAt c item → Single i
  single item i is none stands =
      let same : flat_map bytes_of (code_here c item) ≡ bytes_of i =
      ap (flat_map bytes_of) is ∙ append-nil (bytes_of i) in
      let size = plain_length item none ∙ ap length same in
      record {
        held = subst (Holds m (here c)) same (code_held c item stands);
        end = omega (arith, stands.next, size);
      }

  -- an instruction gives a word in this state, which goes to its destination
  pub gives_here_led : (op : Operation) (os : List Operand) (d : Destination) (w q : ℕ)
      (before mid rest other values : List ℕ) → IsHere d → Scratch c other → length rest ≤ 48 → here c ≤ q
      → Shaped (giving op os (result_in d)) → Holds m q (bytes_of (giving op os (result_in d)))
      → q + length (bytes_of (giving op os (result_in d))) ≡ next_place
      → operand_values os (at_words (around c) other locals mid world.text)
      ≡ done values (at_words (around c) other locals rest world.text)
      → ((after : ℕ)
      → perform op (point q world.fuel) after (Some (result_in d)) None values
      (at_words (around c) other locals rest world.text)
      ≡ give_result (point q world.fuel) after (Some (result_in d)) w
      (at_words (around c) other locals rest world.text))
      → Leads (point (here c) world.fuel) (at_words (around c) m locals before world.text) (point q world.fuel)
      (at_words (around c) other locals mid world.text)
      → LedFrom c before (stack.deliver d w (stack.after (at c before) rest (situation_here c)))
  gives_here_led op os d w q before mid rest other values is scratch room from shaped h end taken performs leads =
      let i = giving op os (result_in d) in
      let after = q + length (bytes_of i) in
      let st = at_words (around c) other locals mid world.text in
      let to = at_words (around c) (memory_after c d w other) (locals_after c d w) (stack_after c d w rest)
      world.text in
      delivered_led c d w after before rest other is scratch room end
      (leads_then (point (here c) world.fuel) (point q world.fuel) (point after world.fuel)
      (at_words (around c) m locals before world.text) st to leads
      (one_step (point q world.fuel) (point after world.fuel) st to
      (made c other mid rest world.text q i values scratch from shaped h taken ∙ performs after
      ∙ given c d w after q rest other world.text is scratch room)))

  -- and in each state
  pub gives_led : (op : Operation) (os : List Operand) (d : Destination) (w q : ℕ)
      (before mid rest other values : List ℕ) → IsHere d → Scratch c other → length rest ≤ 48 → here c ≤ q
      → Shaped (giving op os (result_in d)) → Holds m q (bytes_of (giving op os (result_in d)))
      → q + length (bytes_of (giving op os (result_in d))) ≡ next_place
      → operand_values os (at_words (around c) other locals mid world.text)
      ≡ done values (at_words (around c) other locals rest world.text)
      → ((before : Next) (after : ℕ) (st : State)
      → perform op before after (Some (result_in d)) None values st
      ≡ give_result before after (Some (result_in d)) w st)
      → Leads (point (here c) world.fuel) (at_words (around c) m locals before world.text) (point q world.fuel)
      (at_words (around c) other locals mid world.text)
      → LedFrom c before (stack.deliver d w (stack.after (at c before) rest (situation_here c)))
  gives_led op os d w q before mid rest other values is scratch room from shaped h end taken performs leads =
      gives_here_led op os d w q before mid rest other values is scratch room from shaped h end taken
      (λ after. performs (point q world.fuel) after (at_words (around c) other locals rest world.text)) leads
