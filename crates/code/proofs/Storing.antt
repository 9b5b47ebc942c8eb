-- Items that assign an entry of an array, with the fault of an index out of range.
use Rattle.std.proofs.Common.{◌≡◌, ℕ, ◌+◌, ◌<◌, ◌≤◌, List, [], ◌∷◌, length, slice_index, Bool, true, false, refl, sym}
use Rattle.std.proofs.Common.{◌++◌, Option, Some, None, subst, arith}
use Rattle.std.specs.Prelude.{if◌then◌else◌}
use Rattle.zcore.specs.declared.instruction.Operand.{Operand}
use Rattle.zcore.specs.declared.instruction.Operand.TheVariants.{Large, Variable}
use Rattle.zcore.specs.Instruction.{Instruction}
use Rattle.syntax_trees.specs.declared.tree.Width.{Width}
use Rattle.meaning.specs.declared.cause.Cause.TheVariants as causes
use Rattle.meaning.specs.World.{Situation, to, bound, value_in, is_index, with_entry, with_array}
use Rattle.meaning.specs.World as source
use Rattle.code_drafts.specs.Items.{Destination, is_any_pushed}
use Rattle.code_drafts.specs.Items as items
use Rattle.code_items.specs.Stack as stack
use Rattle.code_drafts.specs.Addresses.{fault_address}
use Rattle.code_drafts.specs.Instructions.{plain, word_in, aside_variable}
use Rattle.code_instructions.specs.ObjectCode.{assigned_word, passed_on}
use Rattle.code.specs.ItemCode.{entries_in, store_operation, at_index, tested_index}
use Rattle.code.proofs.Play.{HoldsAside}
use Rattle.code.proofs.Texts.{cause_line}
use Rattle.code.proofs.Arriving.{Running, at, LedFrom, situation_here, ArrivesAt}
use Rattle.code.proofs.Delivering.{word_put_aside}
use Rattle.code.proofs.Alone.{by_operand, alone_count, IsOperandHere, IsHere, next_place}
use Rattle.code.proofs.ItemsThatPrint.{fails_led}
use Rattle.code.proofs.TestedWords.{Indexed}
use Rattle.code.proofs.Indexing.{indexed, indexed_aside}
use Rattle.code.proofs.Loading.{bytes_in, size_in, few_entries, index_same}
use Rattle.code.proofs.StoringSteps.{after_bound}
use Rattle.code.proofs.Working.{HoldsWord, word_still}
use Rattle.code.proofs.Pulling.{Opened, opens, pulls}
use Rattle.code.proofs.StoringEntries.{assigned}

module _ (c : Running) where
  open c use {story, a, p, accepted, holds, full, m, count, counts, routine, place, callers, locals, world, good}

  -- what is done at an index
  abbrev assigns : Width → ℕ → Destination → Operand → Operand → List Instruction
  assigns width n d word i =
      plain (store_operation width) (Large (slice_index a.arrays n) ∷ i ∷ word ∷ []) ∷ passed_on d word

  -- what the assignment comes to
  abbrev Assigns : Bool → Width → ℕ → ℕ → ℕ → Destination → List ℕ → List ℕ → stack.Next
  Assigns b width n i v d before rest =
      stack.after_part
      (bound {A = Unit {0}} (if b then to tt (with_array n (with_entry width (bytes_in c n) i v) (situation_here c))
      else source.fault causes.IndexOutOfRange (situation_here c)) (λ _. source.give v))
      (λ w situation. stack.deliver d w (stack.after (at c before) rest situation))

  -- a pushed word is in the temporary of this number
  assigns_led : (b : Bool) (width : Width) (n i v t : ℕ) (q : items.Operand) (d : Destination)
      (before rest other : List ℕ) → n < length p.arrays → 1 ≤ t → t < 8 → IsOperandHere c q → IsHere c d
      → length rest ≤ 48 → is_index width (bytes_in c n) i ≡ b → HoldsWord c t q v other
      → Indexed c b i before rest other (assigns width n d (word_in t q))
      → LedFrom c before (Assigns b width n i v d before rest)
  assigns_led true width n i v t q d before rest other known some small is is_d room index h there =
      let r = there.reached in
      assigned c width n i v known index t small q is r.memory r.scratch
      (word_still c t q v other r.memory (r.unwritten (248 + t) (omega (arith, some)) (omega (arith, small))) h) d before
      rest r.q there.operand is_d room r.from r.held there.end there.value r.leads
  assigns_led false width n i v t q d before rest other known some small is is_d room index h r =
      let k : ℕ → Situation → stack.Next = λ w situation. stack.deliver d w
      (stack.after (at c before) rest situation) in
      subst (LedFrom c before)
      (sym (after_bound {A = Unit {0}} (source.fault causes.IndexOutOfRange (situation_here c)) (λ _. source.give v)
      k))
      (fails_led c causes.IndexOutOfRange (fault_address a causes.IndexOutOfRange) r.q before rest r.memory
      (λ _ situation. k v situation) (cause_line causes.IndexOutOfRange) (holds.faults causes.IndexOutOfRange)
      r.from r.scratch r.held r.leads)

  pub assign_entry_led : (width : Width) (n : ℕ) (o q : items.Operand) (d : Destination) (s : List ℕ)
      → n < length p.arrays → IsOperandHere c o → IsOperandHere c q → IsHere c d → length s ≤ 48
      → ArrivesAt c (items.assign_entry width n o q d)
      → LedFrom c s (stack.with_operand q (situation_here c) s
      (λ v left. stack.with_operand o (situation_here c) left
      (λ i rest. stack.gives (stack.assigned_entry width n i v) d rest (at c s))))
  assign_entry_led width n o q d s known is is_q is_d short stands =
      let act = assigns width n d (assigned_word q) in
      let count = entries_in width (size_in c n) in
      let h = opens c (items.assign_entry width n o q d) s refl stands in
      by_operand q (situation_here c) s (LedFrom c s)
      (λ v left. stack.with_operand o (situation_here c) left
      (λ i rest. stack.gives (stack.assigned_entry width n i v) d rest (at c s))) tt
      (λ v left first.
      let b = pulls c 1 q (at_index a count o act) s s m v left (omega arith) (omega arith) first h.reached h.end in
      by_operand o (situation_here c) left (LedFrom c s)
      (λ i rest. stack.gives (stack.assigned_entry width n i v) d rest (at c s)) tt
      (λ i rest second.
      let there = indexed c count o act s left b.memory i rest (few_entries c width n known) is second b.reached b.end
      stands.followed in
      assigns_led (is_index width (bytes_in c n) i) width n i v 1 q d s rest b.memory known (omega arith) (omega arith)
      is_q is_d
      (omega (
        arith,
        short,
        alone_count q (situation_here c) s v left first,
        alone_count o (situation_here c) left i rest second,
      )) refl b.word (subst (λ x. Indexed c x i s rest b.memory act) (index_same c width n i known) there)))

  -- the index was put aside, and the word stands in place
  index_aside : (width : Width) (n i v : ℕ) (q : items.Operand) (d : Destination) (s : List ℕ) → n < length p.arrays
      → IsOperandHere c q → IsHere c d → length s ≤ 48 → HoldsAside story m (Some i) → HoldsWord c 1 q v m
      → next_place c < length m
      → Opened c s (tested_index a (entries_in width (size_in c n)) aside_variable
      ++ assigns width n d (assigned_word q) (Variable aside_variable))
      → LedFrom c s (stack.gives (stack.assigned_entry width n i v) d s (at c s))
  index_aside width n i v q d s known is is_d short held word followed h =
      let act = assigns width n d (assigned_word q) in
      let there = indexed_aside c (entries_in width (size_in c n)) i act s s (few_entries c width n known) held h.reached
      h.end followed in
      assigns_led (is_index width (bytes_in c n) i) width n i v 1 q d s s m known (omega arith) (omega arith) is is_d
      short refl word (subst (λ x. Indexed c x i s s m act) (index_same c width n i known) there)

  -- the word was put aside, and the index is pushed or stands in place
  word_aside : (width : Width) (n v : ℕ) (o : items.Operand) (d : Destination) (s : List ℕ) → n < length p.arrays
      → IsOperandHere c o → IsHere c d → length s ≤ 48 → HoldsAside story m (Some v)
      → ArrivesAt c (items.assign_entry_aside width n o items.pushed d)
      → LedFrom c s (stack.with_operand o (situation_here c) s
      (λ i rest. stack.gives (stack.assigned_entry width n i v) d rest (at c s)))
  word_aside width n v o d s known is is_d short held stands =
      let act = assigns width n d (Variable aside_variable) in
      let h = opens c (items.assign_entry_aside width n o items.pushed d) s refl stands in
      by_operand o (situation_here c) s (LedFrom c s)
      (λ i rest. stack.gives (stack.assigned_entry width n i v) d rest (at c s)) tt
      (λ i rest alone.
      let there = indexed c (entries_in width (size_in c n)) o act s s m i rest (few_entries c width n known) is alone
      h.reached h.end stands.followed in
      assigns_led (is_index width (bytes_in c n) i) width n i v 7 items.pushed d s rest m known
      (omega arith) (omega arith) tt is_d (omega (arith, short, alone_count o (situation_here c) s i rest alone)) refl
      (word_put_aside c v held) (subst (λ x. Indexed c x i s rest m act) (index_same c width n i known) there))

  -- the last of both that is pushed was put aside
  pub assign_entry_aside_led : (width : Width) (n : ℕ) (o q : items.Operand) (d : Destination) (aside : Option ℕ)
      (s : List ℕ) → n < length p.arrays → IsOperandHere c o → IsOperandHere c q → is_any_pushed (o ∷ q ∷ []) ≡ true
      → IsHere c d → length s ≤ 48 → HoldsAside story m aside → ArrivesAt c (items.assign_entry_aside width n o q d)
      → LedFrom c s (stack.with_aside aside (λ y. stack.with_operand q (situation_here c) (y ∷ s)
      (λ v left. stack.with_operand o (situation_here c) left
      (λ i rest. stack.gives (stack.assigned_entry width n i v) d rest (at c s)))))
  assign_entry_aside_led width n o q d None s known is is_q some is_d short held stands = tt
  assign_entry_aside_led width n o items.pushed d (Some y) s known is is_q some is_d short held stands =
      word_aside width n y o d s known is is_d short held stands
  assign_entry_aside_led width n items.pushed (items.number k) d (Some y) s known is is_q some is_d short held stands =
      index_aside width n y k (items.number k) d s known is_q is_d short held refl stands.followed
      (opens c (items.assign_entry_aside width n items.pushed (items.number k) d) s refl stands)
  assign_entry_aside_led width n items.pushed (items.variable x) d (Some y) s known is is_q some is_d short held
      stands =
      index_aside width n y (value_in x (situation_here c)) (items.variable x) d s known is_q is_d short held refl stands.followed
      (opens c (items.assign_entry_aside width n items.pushed (items.variable x) d) s refl stands)
  assign_entry_aside_led width n (items.number j) (items.number k) d (Some y) s known is is_q some is_d short held
      stands = absurd (cc)
  assign_entry_aside_led width n (items.number j) (items.variable x) d (Some y) s known is is_q some is_d short held
      stands = absurd (cc)
  assign_entry_aside_led width n (items.variable z) (items.number k) d (Some y) s known is is_q some is_d short held
      stands = absurd (cc)
  assign_entry_aside_led width n (items.variable z) (items.variable x) d (Some y) s known is is_q some is_d short held
      stands = absurd (cc)
