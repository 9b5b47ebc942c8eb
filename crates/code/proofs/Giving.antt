-- Items that give attributes to an object, one after another.
use Rattle.std.proofs.Common.{◌≡◌, ℕ, ◌+◌, ◌-◌, ◌%◌, ◌<◌, ◌≤◌, inl, inr, List, [], ◌∷◌, length, None, Bool, true, false}
use Rattle.std.proofs.Common.{slice_index, length-append, refl, sym, ap, ◌∙◌, subst, arith}
use Rattle.std.specs.Prelude.{nat_lt, nat_eq, if◌then◌else◌, map}
use Rattle.std.specs.List.{All, flat_map}
use Rattle.std.proofs.lemmas.Bool.{cases_lt, cases_eq, lt-ltb, ne_eqb}
use Rattle.std.proofs.lemmas.List.Elements.{All-head, All-tail}
use Rattle.zcore.specs.declared.instruction.Operand.{Operand}
use Rattle.zcore.specs.declared.instruction.Operand.TheVariants.{Large, Small, Variable}
use Rattle.zcore.specs.declared.instruction.Operation.TheVariants as operations
use Rattle.zcore.specs.Instruction.{Instruction}
use Rattle.zcore.specs.InstructionBytes.{bytes_of, FitsOperand}
use Rattle.zcore.specs.declared.place.Fault.TheVariants as faults
use Rattle.zcore.specs.Parts.{operand_value, read_variable, read_local, pop, fault}
use Rattle.zcore.specs.State.{State, done}
use Rattle.zcore.specs.Execution.{perform}
use Rattle.meaning.specs.Objects.{Objects, with_attribute}
use Rattle.meaning.specs.Meaning.{give_all}
use Rattle.meaning.specs.World.{Situation, to, with_objects}
use Rattle.meaning.specs.World as source
use Rattle.code_drafts.specs.Items as items
use Rattle.code_items.specs.Stack as stack
use Rattle.code.specs.TableLaws.{Changes}
use Rattle.code.specs.Region.{HasObjects}
use Rattle.code.specs.Tables.{PropertyTable}
use Rattle.code_drafts.specs.Instructions.{plain}
use Rattle.code_instructions.specs.ObjectCode.{changing}
use Rattle.code.proofs.Behind.{Holds, holds_on}
use Rattle.code.proofs.Play.{Leads, Stored, stays}
use Rattle.code.proofs.Memory.{word_of}
use Rattle.code.proofs.Parts.{Around, machine as at_words, reads_global}
use Rattle.code.proofs.Steps.{point, leads_then, one_step, first_held, others_held, two_operands, small_value}
use Rattle.code.proofs.Steps.{large_value}
use Rattle.code.proofs.Fitting.{Shaped, held_bytes, all_fit}
use Rattle.code.proofs.Arriving.{Running, at, around, here, high, kept, LedFrom, situation_here, ArrivesAt}
use Rattle.code.proofs.Temporaries.{scratch_here, held_in, made}
use Rattle.code.proofs.Alone.{alone_count, IsOperandHere}
use Rattle.code.proofs.Moving.{written_led}
use Rattle.code.proofs.TestedObjects.{IsObjectHere, object_tests, tests_led}
use Rattle.code.proofs.Changing.{runs_in, variable_same, high_same, stored_objects}
use Rattle.code.proofs.Providing.{acts_on}
use Rattle.code.proofs.Pulling.{opens}

-- An operand that takes nothing from the stack is the same word where the variables from 16 on are the same
module _ (e : Around) (l t old new : List ℕ) (w : ℕ) where
  abbrev Comes : List ℕ → Operand → Type 0
  Comes memory x =
      (words : List ℕ) → operand_value x (at_words e memory l words t) ≡ done w (at_words e memory l words t)

  same_word : {s u : State} (x y : ℕ) → done x s ≡ done y u → x ≡ y
  same_word x y f = cc

  -- the stack may be empty, and then it gives no word
  not_top : Comes old (Variable 0) → ⊥
  unfolding operand_value read_variable pop
  not_top comes = let f = comes [] in absurd (cc)

  not_beyond : (i : ℕ) → i < 16 → (i ≡ 0 → ⊥) → nat_lt (i - 1) (length l) ≡ false
      → operand_value (Variable i) (at_words e old l [] t) ≡ done w (at_words e old l [] t) → ⊥
  unfolding operand_value read_variable read_local
  not_beyond i small some h f =
      let first : nat_eq i 0 ≡ false = ne_eqb _ _ some in
      let few : nat_lt i 16 ≡ true = lt-ltb _ _ small in
      let g : fault faults.Read (at_words e old l [] t) ≡ done w (at_words e old l [] t) =
      sym (rw (first, few, h) refl) ∙ f in
      absurd (cc)

  local_is : (memory words : List ℕ) (i : ℕ) → i < 16 → (i ≡ 0 → ⊥) → nat_lt (i - 1) (length l) ≡ true
      → operand_value (Variable i) (at_words e memory l words t)
      ≡ done (slice_index l (i - 1)) (at_words e memory l words t)
  unfolding operand_value read_variable read_local
  local_is memory words i small some h =
      let first : nat_eq i 0 ≡ false = ne_eqb _ _ some in
      let few : nat_lt i 16 ≡ true = lt-ltb _ _ small in
      rw (first, few, h) refl

  local_same : (i : ℕ) → i < 16 → (i ≡ 0 → ⊥) → Comes old (Variable i) → (b : Bool)
      → nat_lt (i - 1) (length l) ≡ b → Comes new (Variable i)
  local_same i small some comes true h words =
      let is : slice_index l (i - 1) ≡ w =
      same_word (slice_index l (i - 1)) w (sym (local_is old words i small some h) ∙ comes words) in
      local_is new words i small some h ∙ ap (λ (x : ℕ). done x (at_words e new l words t)) is
  local_same i small some comes false h words = absurd (not_beyond i small some h (comes []))

  global_is : (memory words : List ℕ) (v : ℕ) → 16 ≤ v
      → operand_value (Variable v) (at_words e memory l words t)
      ≡ done (word_of memory v) (at_words e memory l words t)
  unfolding operand_value
  global_is memory words v from = reads_global e memory l t words v from

  pub comes_still : ((v : ℕ) → 16 ≤ v → v < 256 → word_of new v ≡ word_of old v) → (x : Operand) → FitsOperand x
      → Comes old x → Comes new x
  comes_still same (Large n) fits comes words =
      let is : n ≡ w = same_word n w (sym (large_value (at_words e old l [] t) n) ∙ comes []) in
      large_value (at_words e new l words t) n ∙ ap (λ (x : ℕ). done x (at_words e new l words t)) is
  comes_still same (Small n) fits comes words =
      let is : n ≡ w = same_word n w (sym (small_value (at_words e old l [] t) n) ∙ comes []) in
      small_value (at_words e new l words t) n ∙ ap (λ (x : ℕ). done x (at_words e new l words t)) is
  comes_still same (Variable v) fits comes words = elim (cases_lt v 16) [
    | inl small ↦ elim (cases_eq v 0) [
      | inl zero_is ↦ absurd (not_top (subst (λ i. Comes old (Variable i)) zero_is comes))
      | inr some ↦ local_same v small some comes (nat_lt (v - 1) (length l)) refl words
    ]
    | inr from ↦
        let is : word_of old v ≡ w = same_word (word_of old v) w (sym (global_is old [] v from) ∙ comes []) in
        global_is new words v from
        ∙ ap (λ (x : ℕ). done x (at_words e new l words t)) (same v from fits ∙ is)
  ]

shaped_change : (x : Operand) (y : Bool × ℕ) → Shaped (changing x y)
shaped_change x y = go y.0
  where
    go : (b : Bool)
        → Shaped (plain (if b then operations.SetAttribute else operations.ClearAttribute)
        (x ∷ Small (y.1 % 256) ∷ []))
    go true = record { least = omega arith; most = omega arith; result_fits = tt; branch_fits = tt }
    go false = record { least = omega arith; most = omega arith; result_fits = tt; branch_fits = tt }

-- what the changes make of the objects
abbrev all_given : ℕ → List (Bool × ℕ) → Objects → Objects
all_given o [] objects = objects
all_given o (x ∷ xs) objects = all_given o xs (with_attribute o x.1 x.0 objects)

gives_all : (o : ℕ) (changes : List (Bool × ℕ)) (s : Situation)
    → give_all o changes s ≡ to tt (with_objects (all_given o changes s.world.objects) s)
gives_all o [] s = refl
gives_all o (x ∷ xs) s = gives_all o xs (with_objects (with_attribute o x.1 x.0 s.world.objects) s)

module _ (c : Running) where
  open c use {story, a, p, accepted, holds, full, m, count, counts, routine, place, callers, locals, world, good}

  -- one attribute is set or cleared
  changes_by : (tables : List PropertyTable) (has : HasObjects p.objects p.defaults world.objects tables m)
      (rest : List ℕ)
      (q after o n : ℕ) (b : Bool) → IsObjectHere c o → n < 48
      → Changes p.objects p.defaults (with_attribute o n b world.objects)
      (perform (if b then operations.SetAttribute else operations.ClearAttribute) (point q world.fuel) after None None
      (o ∷ n ∷ [])) (point after world.fuel) (at_words (around c) m locals rest world.text)
  unfolding perform
  changes_by tables has rest q after o n true known small =
      (acts_on c tables m rest has).sets (point q world.fuel) after o n known small
  changes_by tables has rest q after o n false known small =
      (acts_on c tables m rest has).clears (point q world.fuel) after o n known small

  -- all of them have been
  record Given (rest : List ℕ) (q : ℕ) (objects : Objects) (is : List Instruction) : Type 0 where
    memory : List ℕ
    stored : Stored story a p world.globals world.arrays objects memory
    leads : Leads (point q world.fuel) (at_words (around c) m locals rest world.text)
        (point (q + length (flat_map bytes_of is)) world.fuel) (at_words (around c) memory locals rest world.text)

given : (changes : List (Bool × ℕ)) (c : Running) (rest : List ℕ) (q o : ℕ) (x : Operand) (tables : List PropertyTable)
    → HasObjects c.p.objects c.p.defaults c.world.objects tables c.m → here c ≤ q
    → Holds c.m q (flat_map bytes_of (map (changing x) changes)) → IsObjectHere c o
    → All (λ (y : Bool × ℕ). y.1 < 48) changes
    → ((words : List ℕ) → operand_value x (at_words (around c) c.m c.locals words c.world.text)
    ≡ done o (at_words (around c) c.m c.locals words c.world.text))
    → Given c rest q (all_given o changes c.world.objects) (map (changing x) changes)
given [] c rest q o x tables has from h known small value = record {
  memory = c.m;
  stored = c.good.stored;
  leads =
      let e : q ≡ q + 0 = omega arith in
      subst (λ (n : ℕ). Leads (point q c.world.fuel) (at_words (around c) c.m c.locals rest c.world.text)
      (point n c.world.fuel) (at_words (around c) c.m c.locals rest c.world.text)) e
      (stays (point q c.world.fuel) (at_words (around c) c.m c.locals rest c.world.text));
}
given (y ∷ ys) c rest q o x tables has from h known small value =
    let i = changing x y in
    let others = map (changing x) ys in
    let n : y.1 % 256 ≡ y.1 = omega (arith, All-head (λ (z : Bool × ℕ). z.1 < 48) y ys small) in
    let after = q + length (bytes_of i) in
    let st = at_words (around c) c.m c.locals rest c.world.text in
    let first = first_held c.m q i others h in
    let change = changes_by c tables has rest q after o y.1 y.0 known
    (All-head (λ (z : Bool × ℕ). z.1 < 48) y ys small) in
    let objects = with_attribute o y.1 y.0 c.world.objects in
    let stored = stored_objects c c.m change.memory (scratch_here c) change.keeps objects change.tables change.has in
    let next = runs_in c change.memory objects stored in
    let same = high_same c c.m change.memory (scratch_here c) change.keeps in
    let fits = all_fit i
    (held_bytes _ q c.story c.m (bytes_of i) c.holds.byte_each (kept c) (omega (arith, high c, from)) first) in
    let fits_x : FitsOperand x = fits 0 x (omega arith) in
    let makes = made c c.m rest rest c.world.text q i (o ∷ y.1 % 256 ∷ []) (scratch_here c) from
    (shaped_change x y)
    first
    (two_operands st st st x (Small (y.1 % 256)) o (y.1 % 256) (value rest) (small_value st (y.1 % 256))) in
    let step_is = makes
    ∙ ap (λ (k : ℕ). perform (if y.0 then operations.SetAttribute else operations.ClearAttribute)
    (point q c.world.fuel) after None None (o ∷ k ∷ []) st) n ∙ change.does in
    let more = given ys next rest after o x change.tables change.has (omega (arith, from))
    (holds_on _ after c.m change.memory (flat_map bytes_of others) same (omega (arith, high c, from))
    (others_held c.m q i others h))
    known (All-tail (λ (z : Bool × ℕ). z.1 < 48) y ys small)
    (comes_still (around c) c.locals c.world.text c.m change.memory o
    (λ v low few. variable_same c c.m change.memory (scratch_here c) change.keeps v low few) x fits_x value) in
    let end : after + length (flat_map bytes_of others) ≡ q + length (flat_map bytes_of (i ∷ others)) =
    omega (arith, length-append (bytes_of i) (flat_map bytes_of others)) in
    record {
      memory = more.memory;
      stored = more.stored;
      leads = leads_then (point q c.world.fuel) (point after c.world.fuel)
          (point (q + length (flat_map bytes_of (i ∷ others))) c.world.fuel) st
          (at_words (around c) change.memory c.locals rest c.world.text)
          (at_words (around c) more.memory c.locals rest c.world.text)
          (one_step (point q c.world.fuel) (point after c.world.fuel) st
          (at_words (around c) change.memory c.locals rest c.world.text) step_is)
          (subst (λ (k : ℕ). Leads (point after c.world.fuel)
          (at_words (around c) change.memory c.locals rest c.world.text)
          (point k c.world.fuel) (at_words (around c) more.memory c.locals rest c.world.text)) end more.leads);
    }

module _ (c : Running) where
  open c use {story, a, p, accepted, holds, full, m, count, counts, routine, place, callers, locals, world, good}

  pub give_led : (o : items.Operand) (changes : List (Bool × ℕ)) (s : List ℕ) → IsOperandHere c o
      → All (λ (y : Bool × ℕ). y.1 < 48) changes → length s ≤ 48 → ArrivesAt c (items.give o changes)
      → LedFrom c s (stack.with_operand o (situation_here c) s
      (λ v rest. stack.prints (stack.gives_attributes p v changes) rest (at c s)))
  give_led o changes s is small short stands =
      let item = items.give o changes in
      let act : Operand → List Instruction = λ x. map (changing x) changes in
      let h = opens c item s refl stands in
      tests_led c o s s m act (λ v. give_all v changes)
      (λ rest _ situation. stack.goes (stack.after (at c s) rest situation))
      (object_tests c o act s s m is h.reached h.end stands.followed)
      (λ v rest alone known t.
      let other = t.reached.memory in
      let scratch = t.reached.scratch in
      let next = runs_in c other world.objects scratch.stored in
      let all = given changes next rest t.reached.q v t.operand scratch.stored.tables scratch.stored.has t.reached.from
      (held_in c other (flat_map bytes_of (act t.operand)) t.reached.q scratch t.reached.from t.reached.held) known
      small (λ words. t.stays other words scratch refl refl) in
      let end = t.reached.q + length (flat_map bytes_of (act t.operand)) in
      let situation = with_objects (all_given v changes world.objects) (situation_here c) in
      subst (λ (f : source.Comes (Unit {0})). LedFrom c s
      (stack.after_part f (λ _ after. stack.goes (stack.after (at c s) rest after))))
      (sym (gives_all v changes (situation_here c)))
      (written_led c s rest all.memory situation end t.end
      (omega (arith, short, alone_count o (situation_here c) s v rest alone)) all.stored refl refl refl refl refl
      (leads_then (point (here c) world.fuel) (point t.reached.q world.fuel) (point end world.fuel)
      (at_words (around c) m locals s world.text) (at_words (around c) other locals rest world.text)
      (at_words (around c) all.memory locals rest world.text) t.reached.leads all.leads)))
