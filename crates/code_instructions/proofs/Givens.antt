-- The first of some operands, as a slice.
use Rattle.std.proofs.Common.{◌≡◌, ℕ, zero, suc, min, List, [], ◌∷◌, ◌++◌, length, take, refl, sym, ap, ◌∙◌, arith}
use Rattle.std.specs.Prelude.{nat_eq, Bool, false, if◌then◌else◌, Option, None, Some, Result, Ok, Err, OnOk}
use Rattle.std.proofs.lemmas.Bool.{ne_eqb}
use Rattle.zcore.specs.declared.instruction.Operand.{Operand}
use Rattle.zcore.specs.declared.instruction.Operand.TheVariants.{Large}
use Rattle.zcore.specs.declared.instruction.Operation.{Operation}
use Rattle.zcore.specs.InstructionBytes.{bytes_of}
use Rattle.code_drafts.specs.Items.{Destination, Test}
use Rattle.code_drafts.specs.Items as items
use Rattle.code_drafts.specs.declared.item.Operand as code_operand
use Rattle.code_drafts.specs.Code.{as_operand, as_operands}
use Rattle.code_drafts.specs.Instructions.{takes, operands, in_place, giving, result_in}
use Rattle.code_instructions.specs.Instructions.{calling, call_code, call_operation, call_result, asks_none}
use Rattle.code_instructions.specs.Instructions.{labelled_below, test_operation, least_word, ordered_below}
use Rattle.code_instructions.specs.Instructions.{tested_below, branch_below, arithmetic}
use Rattle.code_drafts.specs.Bytes.{bytes_of_all}
use Rattle.code_drafts.proofs.Chains.{one_joined, all_joined}
use Rattle.code_drafts.proofs.Naming.{one_named}

as_taken : (xs : List code_operand.Operand) (n : ℕ) → as_operands (take n xs) ≡ take n (as_operands xs)
as_taken xs zero = refl
as_taken [] (suc n) = refl
as_taken (x ∷ xs) (suc n) = ap (λ os. as_operand x ∷ os) (as_taken xs n)

taken_by : (xs : List code_operand.Operand) (n k : ℕ) → k ≡ min (length xs) n → take k xs ≡ take n xs
taken_by xs zero k e = let none : k ≡ 0 = omega (arith, e) in ap (λ j. take j xs) none
taken_by [] (suc n) zero e = refl
taken_by [] (suc n) (suc k) e = refl
taken_by (x ∷ xs) (suc n) zero e = absurd (omega (arith, e))
taken_by (x ∷ xs) (suc n) (suc k) e = ap (λ ys. x ∷ ys) (taken_by xs n k (omega (arith, e)))

-- at most so many operands
pub given_is : (xs : List code_operand.Operand) (n k : ℕ) → k ≡ min (length xs) n
    → as_operands (take k xs) ≡ take n (as_operands xs)
given_is xs n k e = ap as_operands (taken_by xs n k e) ∙ as_taken xs n

as_length : (xs : List code_operand.Operand) → length (as_operands xs) ≡ length xs
as_length [] = refl
as_length (x ∷ xs) = ap suc (as_length xs)

-- the bytes of a call
pub call_written : (address : ℕ) (given : List code_operand.Operand) (os : List items.Operand) (d : Destination)
    (op : Operation) (result : Option ℕ) (b b1 b2 : List ℕ) (n1 n2 n3 : List Operand)
    → as_operands given ≡ os → op ≡ call_operation (length given) d → result ≡ call_result d
    → n1 ≡ [] ++ Large address ∷ [] → n2 ≡ n1 ++ operands (as_operands given) → n3 ≡ n2
    → b1 ≡ b ++ bytes_of_all (takes (as_operands given))
    → b2 ≡ b1 ++ bytes_of (record { operation = op; operands = n3; result = result; branch = None })
    → b2 ≡ b ++ bytes_of_all (call_code address os d)
call_written address given os d op result b b1 b2 n1 n2 n3 same o r e1 e2 e3 f1 f2 =
    let count : length given ≡ length os = sym (as_length given) ∙ ap length same in
    let named : n3 ≡ Large address ∷ operands os =
    e3 ∙ e2 ∙ ap (λ n. n ++ operands (as_operands given)) e1 ∙ ap (λ xs. Large address ∷ operands xs) same in
    let operation : op ≡ call_operation (length os) d = o ∙ ap (λ n. call_operation n d) count in
    one_joined (takes os) (calling address os d) b b1 b2 (f1 ∙ ap (λ xs. b ++ bytes_of_all (takes xs)) same)
    (f2 ∙ ap (λ (x : Operation). b1 ++ bytes_of
    (record { operation = x; operands = n3; result = result; branch = None })) operation
    ∙ ap (λ (x : List Operand). b1 ++ bytes_of
    (record { operation = call_operation (length os) d; operands = x; result = result; branch = None })) named
    ∙ ap (λ (x : Option ℕ). b1 ++ bytes_of (record {
      operation = call_operation (length os) d;
      operands = Large address ∷ operands os;
      result = x;
      branch = None;
    })) r)

-- one of none
pub asks_one : (xs : List code_operand.Operand) → nat_eq (length xs) 1 ≡ asks_none items.same (as_operands xs)
asks_one [] = refl
asks_one (x ∷ []) = refl
asks_one (x ∷ y ∷ xs) = ne_eqb _ _ (λ e. omega (arith, e))

-- the bytes of an operation on two words
pub arithmetic_joined : (o q : items.Operand) (d : Destination) (op : Operation) (result : ℕ) (name other : Operand)
    (b b1 b2 : List ℕ) → name ≡ in_place o → in_place o ∷ other ∷ [] ≡ operands (o ∷ q ∷ [])
    → result ≡ result_in d → b1 ≡ b ++ bytes_of_all (takes (o ∷ q ∷ []))
    → b2 ≡ b1 ++ bytes_of
    (record { operation = op; operands = name ∷ other ∷ []; result = Some result; branch = None })
    → b2 ≡ b ++ bytes_of_all (arithmetic op o q d)
arithmetic_joined o q d op result name other b b1 b2 is both r f1 f2 =
    let named : name ∷ other ∷ [] ≡ operands (o ∷ q ∷ []) = ap (λ (x : Operand). x ∷ other ∷ []) is ∙ both in
    one_joined (takes (o ∷ q ∷ [])) (giving op (operands (o ∷ q ∷ [])) (result_in d)) b b1 b2 f1
    (f2 ∙ ap (λ (x : List Operand). b1 ++ bytes_of
    (record { operation = op; operands = x; result = Some result; branch = None })) named
    ∙ ap (λ (x : ℕ). b1 ++ bytes_of
    (record { operation = op; operands = operands (o ∷ q ∷ []); result = Some x; branch = None })) r)

-- the bytes of a branch by one operand, by two, and by any
labelled_as : (limit : ℕ) (op : Operation) (when : Bool) (offset : ℕ) (b b1 : List ℕ) (names others : List Operand)
    → names ≡ others → b1 ≡ b ++ bytes_of_all (labelled_below limit op names when offset)
    → b1 ≡ b ++ bytes_of_all (labelled_below limit op others when offset)
labelled_as limit op when offset b b1 names others same e =
    e ∙ ap (λ (x : List Operand). b ++ bytes_of_all (labelled_below limit op x when offset)) same

pub one_labelled : (limit : ℕ) (op : Operation) (when : Bool) (offset : ℕ) (o : items.Operand) (name : Operand)
    (b b1 : List ℕ) → name ≡ in_place o → b1 ≡ b ++ bytes_of_all (labelled_below limit op (name ∷ []) when offset)
    → b1 ≡ b ++ bytes_of_all (labelled_below limit op (operands (o ∷ [])) when offset)
one_labelled limit op when offset o name b b1 is e =
    labelled_as limit op when offset b b1 (name ∷ []) (operands (o ∷ []))
    (ap (λ (x : Operand). x ∷ []) is ∙ one_named o) e

pub two_labelled : (limit : ℕ) (op : Operation) (when : Bool) (offset : ℕ) (o q : items.Operand) (name other : Operand)
    (b b1 : List ℕ) → name ≡ in_place o → in_place o ∷ other ∷ [] ≡ operands (o ∷ q ∷ [])
    → b1 ≡ b ++ bytes_of_all (labelled_below limit op (name ∷ other ∷ []) when offset)
    → b1 ≡ b ++ bytes_of_all (labelled_below limit op (operands (o ∷ q ∷ [])) when offset)
two_labelled limit op when offset o q name other b b1 is both e =
    labelled_as limit op when offset b b1 (name ∷ other ∷ []) (operands (o ∷ q ∷ []))
    (ap (λ (x : Operand). x ∷ other ∷ []) is ∙ both) e

pub all_labelled : (limit : ℕ) (op : Operation) (when : Bool) (offset : ℕ) (os : List items.Operand) (b b1 : List ℕ)
    (n1 n2 n3 : List Operand) → n1 ≡ [] → n2 ≡ n1 ++ operands os → n3 ≡ n2
    → b1 ≡ b ++ bytes_of_all (labelled_below limit op n3 when offset)
    → b1 ≡ b ++ bytes_of_all (labelled_below limit op (operands os) when offset)
all_labelled limit op when offset os b b1 n1 n2 n3 e1 e2 e3 e =
    labelled_as limit op when offset b b1 n3 (operands os) (e3 ∙ e2 ∙ ap (λ n. n ++ operands os) e1) e

-- the bytes of a branch by a test, after those that take its operands
pub ordered_joined : (limit : ℕ) (test : Test) (os : List items.Operand) (op : Operation) (when : Bool) (offset : ℕ)
    (b b1 b2 : List ℕ) → op ≡ test_operation test → b1 ≡ b ++ bytes_of_all (takes os)
    → b2 ≡ b1 ++ bytes_of_all (labelled_below limit op (operands os) when offset)
    → b2 ≡ b ++ bytes_of_all (ordered_below limit test os when offset)
ordered_joined limit test os op when offset b b1 b2 o f1 f2 =
    all_joined (takes os) (labelled_below limit (test_operation test) (operands os) when offset) b b1 b2 f1
    (f2 ∙ ap (λ (x : Operation). b1 ++ bytes_of_all (labelled_below limit x (operands os) when offset)) o)

-- a branch that is asked as it is
pub branch_otherwise : (limit : ℕ) (test : Test) (os given : List items.Operand) (asks when : Bool) (offset : ℕ)
    (b b1 : List ℕ) → given ≡ os → asks ≡ asks_none test given → asks ≡ false
    → b1 ≡ b ++ bytes_of_all (tested_below limit test given when offset)
    → b1 ≡ b ++ bytes_of_all (branch_below limit test os when offset)
branch_otherwise limit test os given asks when offset b b1 same is isnt e =
    let none : asks_none test os ≡ false = sym (is ∙ ap (λ xs. asks_none test xs) same) ∙ isnt in
    e ∙ ap (λ xs. b ++ bytes_of_all (tested_below limit test xs when offset)) same
    ∙ ap (λ (x : Bool). b ++ bytes_of_all (if x
    then tested_below limit items.less (os ++ items.number least_word ∷ []) when offset
    else tested_below limit test os when offset))
    (sym none)

pub on_ok : {A E P Q : Type 0} (r : Result A E) → (P → Q) → OnOk r P → OnOk r Q
on_ok (Ok x) f h = f h
on_ok (Err e) f h = tt
