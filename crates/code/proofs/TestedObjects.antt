-- An object is tested, and memory then holds it; else the fault is printed.
use Rattle.std.proofs.Common.{◌≡◌, ℕ, ◌+◌, ◌%◌, ◌<◌, ◌≤◌, ◌⊎◌, inl, inr, List, [], length, Bool, true, false, refl, sym}
use Rattle.std.proofs.Common.{ap, ◌∙◌, subst, arith, Some}
use Rattle.std.specs.Prelude.{nat_lt, nat_le, if◌then◌else◌, ◌&&◌, ◌==◌}
use Rattle.std.specs.List.{flat_map}
use Rattle.std.proofs.lemmas.Bool.{cases_lt, lt-ltb, le-ltb, le-leb, lt-leb, leb-true, and_parts}
use Rattle.zcore.specs.declared.instruction.Operand.{Operand}
use Rattle.zcore.specs.Instruction.{Instruction}
use Rattle.zcore.specs.InstructionBytes.{bytes_of}
use Rattle.meaning.specs.declared.cause.Cause.TheVariants as causes
use Rattle.meaning.specs.Accepted.{IsProperty}
use Rattle.meaning.specs.Forests.{IsObjectNumber}
use Rattle.meaning.specs.World.{Situation, Part, bound}
use Rattle.meaning.specs.World as source
use Rattle.code_drafts.specs.Items.{Item}
use Rattle.code_drafts.specs.Items as items
use Rattle.code_items.specs.Stack as stack
use Rattle.code.specs.TableLaws.{Acts}
use Rattle.code.proofs.Together.{region_laws}
use Rattle.code_drafts.specs.Addresses.{fault_address, has_one_word}
use Rattle.code_instructions.specs.Instructions.{is_between}
use Rattle.code_instructions.specs.ObjectCode.{at_object, at_label, objects_of}
use Rattle.code.specs.ItemBytes.{text_bytes}
use Rattle.code.specs.HeldProgram.{sizes_of}
use Rattle.code.proofs.Play.{stays}
use Rattle.code.proofs.Parts.{machine as at_words}
use Rattle.code.proofs.Singles.{one_word, single_at}
use Rattle.code.proofs.Steps.{point}
use Rattle.code.proofs.Texts.{cause_line}
use Rattle.code.proofs.Arriving.{Running, around, here, LedFrom, code_here, code_held, situation_here, ArrivesAt}
use Rattle.code.proofs.Temporaries.{Scratch, scratch_here}
use Rattle.code.proofs.Alone.{Alone, by_operand, IsOperandHere, next_place, plain_length}
use Rattle.code.proofs.ItemsThatPrint.{fails_led}
use Rattle.code.proofs.TestedWords.{Reached, AtIndex, Tested}
use Rattle.code.proofs.Indexing.{between, between_labelled}
use Rattle.code.proofs.StoringSteps.{after_bound}

-- the test of the code is that of the source

pub never : (b : Bool) → (b && false) ≡ false
never true = refl
never false = refl

object_by : (n v : ℕ) → n ≤ 2000 → (v < n + 1) ⊎ (n + 1 ≤ v) → is_between 1 (n + 1) v ≡ source.is_object n v
object_by n v few (inl h) =
    let e : nat_lt v 32768 ≡ true = lt-ltb v 32768 (omega (arith, few, h)) in
    let f : nat_lt v (n + 1) ≡ true = lt-ltb v (n + 1) h in
    let g : nat_le v n ≡ true = le-leb v n (omega (arith, h)) in
    rw (e, f, g) refl
object_by n v few (inr h) =
    let f : nat_lt v (n + 1) ≡ false = le-ltb v (n + 1) h in
    let g : nat_le v n ≡ false = lt-leb v n (omega (arith, h)) in
    rw (f, g, never (nat_le 1 v), never (nat_lt v 32768)) refl

module _ (c : Running) where
  open c use {story, a, p, accepted, holds, full, m, count, counts, routine, place, callers, locals, world, good}

  -- how many objects there are, in code
  abbrev pub objects_here : ℕ
  objects_here = objects_of (sizes_of p)

  pub objects_are : objects_here ≡ length p.objects
  objects_are = omega (arith, accepted.few)

  abbrev pub IsObjectHere : ℕ → Type 0
  IsObjectHere = IsObjectNumber (length p.objects)

  pub object_same : (v : ℕ) → is_between 1 (objects_here + 1) v ≡ source.is_object (length p.objects) v
  object_same v =
      ap (λ (n : ℕ). is_between 1 (n + 1) v) objects_are
      ∙ object_by (length p.objects) v accepted.few (cases_lt v (length p.objects + 1))

  pub object_is : (v : ℕ) → source.is_object (length p.objects) v ≡ true → IsObjectHere v
  object_is v e =
      let both = and_parts (nat_le 1 v) (nat_le v (length p.objects)) e in
      record { low = leb-true _ _ both.0; high = leb-true _ _ both.1 }

  -- what the opcodes on objects do here
  pub acts_in : (other words text : List ℕ) (scratch : Scratch c other)
      → Acts p.objects p.defaults world.objects scratch.stored.tables (at_words (around c) other locals words text)
      scratch.stored.has
  acts_in other words text scratch =
      region_laws.acts p.objects p.defaults world.objects scratch.stored.tables
      (at_words (around c) other locals words text) scratch.stored.has

  -- the words of a property that has one wherever it is provided
  pub single_here : (o q : ℕ) (words : List ℕ) → IsProperty q → IsObjectHere o
      → has_one_word (sizes_of p) (q % 256) ≡ true → world.objects.properties o q ≡ Some words
      → (length words == 1) ≡ true
  single_here o q words named known single is =
      let same : q % 256 ≡ q = omega (arith, named.1) in
      one_word p.objects p.defaults world.objects good.stored.tables m good.stored.has o q known
      (single_at p.objects q (omega (arith, named.1))
      (subst (λ (k : ℕ). has_one_word (sizes_of p) k ≡ true) same single)) words is

  -- an item begins
  pub begins : (item : Item) (s : List ℕ) → ArrivesAt c item → Reached c s s m (code_here c item)
  begins item s stands = record {
    memory = m;
    scratch = scratch_here c;
    q = here c;
    from = omega arith;
    held = code_held c item stands;
    leads = stays (point (here c) world.fuel) (at_words (around c) m locals s world.text);
    unwritten = λ v low small. refl;
  }

  pub begins_end : (item : Item) → text_bytes p.abbreviations item ≡ [] → ArrivesAt c item
      → here c + length (flat_map bytes_of (code_here c item)) ≡ next_place c
  begins_end item none stands = omega (arith, stands.next, plain_length c item none)

  pub begun_end : (item : Item) (s : List ℕ) → text_bytes p.abbreviations item ≡ [] → (stands : ArrivesAt c item)
      → (begins item s stands).q + length (flat_map bytes_of (code_here c item)) ≡ next_place c
  unfolding begins
  begun_end item s none stands = begins_end item none stands

  -- The tests of an object

  abbrev pub ObjectTested : ℕ → List ℕ → List ℕ → List ℕ → (Operand → List Instruction) → Type 0
  ObjectTested v before rest other act =
      Tested c causes.NotAnObject (source.is_object (length p.objects) v) v before rest other act

  pub object_tests : (o : items.Operand) (act : Operand → List Instruction) (before mid other : List ℕ)
      → IsOperandHere c o → (r : Reached c before mid other (at_object a objects_here o act))
      → r.q + length (flat_map bytes_of (at_object a objects_here o act)) ≡ next_place c → next_place c < length m
      → (v : ℕ) (rest : List ℕ) → Alone o (situation_here c) mid v rest → ObjectTested v before rest other act
  object_tests o act before mid other is r end followed v rest alone =
      subst (λ b. Tested c causes.NotAnObject b v before rest other act) (object_same v)
      (between c causes.NotAnObject 1 (objects_here + 1) o act before mid other v rest (omega arith)
      (omega (arith, objects_are, accepted.few)) is alone r end followed)

  pub label_tests : (o : items.Operand) (act : Operand → List Instruction) (before mid other : List ℕ)
      → IsOperandHere c o → (r : Reached c before mid other (at_label a objects_here o act))
      → r.q + length (flat_map bytes_of (at_label a objects_here o act)) ≡ next_place c → next_place c < length m
      → (v : ℕ) (rest : List ℕ) → Alone o (situation_here c) mid v rest → ObjectTested v before rest other act
  label_tests o act before mid other is r end followed v rest alone =
      subst (λ b. Tested c causes.NotAnObject b v before rest other act) (object_same v)
      (between_labelled c causes.NotAnObject 1 (objects_here + 1) o act before mid other v rest (omega arith)
      (omega (arith, objects_are, accepted.few)) is alone r end followed)

  -- a part that begins with the test of an object
  abbrev pub TestedPart : {A : Type 0} → Bool → Part A → (A → Situation → stack.Next) → stack.Next
  TestedPart b f k =
      stack.after_part
      (bound {A = Unit {0}}
      ((if b then source.give tt else source.fault causes.NotAnObject) (situation_here c)) (λ _. f)) k

  object_led : {A : Type 0} (b : Bool) (v : ℕ) (before rest other : List ℕ) (act : Operand → List Instruction)
      (f : Part A) (k : A → Situation → stack.Next) → source.is_object (length p.objects) v ≡ b
      → Tested c causes.NotAnObject b v before rest other act
      → (IsObjectHere v → AtIndex c v before rest other act
      → LedFrom c before (stack.after_part (f (situation_here c)) k))
      → LedFrom c before (TestedPart b f k)
  object_led true v before rest other act f k is t next = next (object_is v is) t
  object_led {A} false v before rest other act f k is r next =
      subst (LedFrom c before)
      (sym (after_bound {A = Unit {0}} (source.fault causes.NotAnObject (situation_here c)) (λ _. f) k))
      (fails_led c causes.NotAnObject (fault_address a causes.NotAnObject) r.q before rest r.memory
      (λ _ situation. stack.after_part (f situation) k) (cause_line causes.NotAnObject)
      (holds.faults causes.NotAnObject) r.from r.scratch r.held r.leads)

  -- an operand that is to be an object
  pub tests_led : {A : Type 0} (o : items.Operand) (before mid other : List ℕ) (act : Operand → List Instruction)
      (f : ℕ → Part A) (k : List ℕ → A → Situation → stack.Next)
      → ((v : ℕ) (rest : List ℕ) → Alone o (situation_here c) mid v rest → ObjectTested v before rest other act)
      → ((v : ℕ) (rest : List ℕ) → Alone o (situation_here c) mid v rest → IsObjectHere v
      → AtIndex c v before rest other act → LedFrom c before (stack.after_part (f v (situation_here c)) (k rest)))
      → LedFrom c before (stack.with_operand o (situation_here c) mid
      (λ v rest. TestedPart (source.is_object (length p.objects) v) (f v) (k rest)))
  tests_led o before mid other act f k tests next =
      by_operand o (situation_here c) mid (LedFrom c before)
      (λ v rest. TestedPart (source.is_object (length p.objects) v) (f v) (k rest)) tt
      (λ v rest alone.
      object_led (source.is_object (length p.objects) v) v before rest other act (f v) (k rest) refl
      (tests v rest alone) (next v rest alone))
