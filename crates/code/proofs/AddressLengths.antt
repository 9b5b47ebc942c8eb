-- How long code is with an address in it: as long with one address as with another. Calls, faults, tests of words,
-- arrays and lines.
use Rattle.std.proofs.Common.{◌≡◌, ℕ, ◌+◌, List, [], ◌∷◌, ◌++◌, length, Option, Some, None, Bool, true, false, refl}
use Rattle.std.proofs.Common.{sym, ap, ◌∙◌, arith, length-append, append_assoc, append-nil}
use Rattle.std.specs.Prelude.{◌==◌, if◌then◌else◌}
use Rattle.std.specs.List.{flat_map}
use Rattle.zcore.specs.declared.instruction.Operand.{Operand}
use Rattle.zcore.specs.declared.instruction.Operand.TheVariants.{Large, Small, Variable}
use Rattle.zcore.specs.declared.instruction.Operation.{Operation}
use Rattle.zcore.specs.declared.instruction.Operation.TheVariants as operations
use Rattle.zcore.specs.declared.operations.OperandCount.{OperandCount}
use Rattle.zcore.specs.declared.operations.OperandCount.TheVariants.{Two, One, Zero, Several}
use Rattle.zcore.specs.Operations.{count_of, has_more_types}
use Rattle.zcore.specs.Operations as numbers
use Rattle.zcore.specs.Instruction.{Instruction}
use Rattle.zcore.specs.InstructionBytes.{opcode_bytes, operand_bytes, result_bytes, bytes_of}
use Rattle.syntax_trees.specs.declared.tree.Width.{Width}
use Rattle.meaning.specs.Meaning.{is_character}
use Rattle.meaning.specs.declared.cause.Cause.{Cause}
use Rattle.meaning.specs.declared.cause.Cause.TheVariants as causes
use Rattle.code_drafts.specs.Items.{Destination}
use Rattle.code_drafts.specs.Items as items
use Rattle.code_drafts.specs.Addresses.{Addresses, fault_address}
use Rattle.code_drafts.specs.Instructions.{plain, branching, fail, takes, operands, number_of, temporary, constant}
use Rattle.code_drafts.specs.Instructions.{giving, result_in, pulled_into, aside_variable}
use Rattle.code_drafts.specs.Bytes.{bytes_of_all}
use Rattle.code_instructions.specs.Instructions.{calling, call_operation, call_result, call_code, divided}
use Rattle.code_instructions.specs.Instructions.{aside_global, character_code, offset_over_comparison, tested_between, is_between}
use Rattle.code_instructions.specs.ObjectCode.{tests_in, tested_in, at_tested, assigned_takes, assigned_word, passed_on}
use Rattle.code.specs.ItemCode.{entries_in, load_operation, store_operation, at_index, first_byte}
use Rattle.code.specs.ItemCode.{tested_first, letters_in, words_in, line_code, read_code, entry_code}
use Rattle.code.specs.ItemCode.{assign_entry_code, entry_aside_code, assign_entry_aside_code}

-- Lists of instructions

pub all_append : (xs ys : List Instruction) → bytes_of_all (xs ++ ys) ≡ bytes_of_all xs ++ bytes_of_all ys
all_append [] ys = refl
all_append (x ∷ xs) ys =
    ap (λ z. bytes_of x ++ z) (all_append xs ys) ∙ sym (append_assoc (bytes_of x) (bytes_of_all xs) (bytes_of_all ys))

pub all_length : (xs ys : List Instruction)
    → length (bytes_of_all (xs ++ ys)) ≡ length (bytes_of_all xs) + length (bytes_of_all ys)
all_length xs ys = ap length (all_append xs ys) ∙ length-append (bytes_of_all xs) (bytes_of_all ys)

pub one_length : (i : Instruction) → length (bytes_of_all (i ∷ [])) ≡ length (bytes_of i)
one_length i = ap length (append-nil (bytes_of i))

-- Addresses are large constants

same_opcode : (k : OperandCount) (n : ℕ) (more : Bool) (x y : ℕ) (os : List Operand)
    → opcode_bytes k n more (Large x ∷ os) ≡ opcode_bytes k n more (Large y ∷ os)
same_opcode Two n more x y [] = refl
same_opcode Two n more x y (o ∷ []) = refl
same_opcode Two n more x y (o ∷ p ∷ os) = refl
same_opcode One n more x y [] = refl
same_opcode One n more x y (o ∷ os) = refl
same_opcode Zero n more x y os = refl
same_opcode Several n true x y os = refl
same_opcode Several n false x y os = refl

-- the instruction with this first operand
abbrev naming : Operation → List Operand → Option ℕ → ℕ → Instruction
naming op os result x = record { operation = op; operands = Large x ∷ os; result = result; branch = None }

same_call : (op : Operation) (os : List Operand) (result : Option ℕ) (x y : ℕ)
    → length (bytes_of (naming op os result x)) ≡ length (bytes_of (naming op os result y))
unfolding bytes_of
same_call op os result x y =
    let first = λ (a : ℕ). opcode_bytes (count_of op) (numbers.number_of op) (has_more_types op) (Large a ∷ os) in
    let given = λ (a : ℕ). flat_map operand_bytes (Large a ∷ os) in
    let e : length (first x) ≡ length (first y) =
    ap length (same_opcode (count_of op) (numbers.number_of op) (has_more_types op) x y os) in
    omega (
      arith,
      e,
      length-append (first x ++ given x ++ result_bytes result) [],
      length-append (first x ++ given x) (result_bytes result),
      length-append (first x) (given x),
      length-append (first y ++ given y ++ result_bytes result) [],
      length-append (first y ++ given y) (result_bytes result),
      length-append (first y) (given y),
    )

pub call_same : (os : List items.Operand) (d : Destination) (x y : ℕ)
    → length (bytes_of_all (call_code x os d)) ≡ length (bytes_of_all (call_code y os d))
call_same os d x y =
    let e = same_call (call_operation (length os) d) (operands os) (call_result d) x y in
    omega (
      arith,
      e,
      all_length (takes os) (calling x os d ∷ []),
      all_length (takes os) (calling y os d ∷ []),
      one_length (calling x os d),
      one_length (calling y os d),
    )

pub fail_same : (x y : ℕ) → length (bytes_of_all (fail x)) ≡ length (bytes_of_all (fail y))
unfolding bytes_of
fail_same x y = refl

either_same : (b : Bool) (xs ys zs : List Instruction) → length (bytes_of_all xs) ≡ length (bytes_of_all ys)
    → length (bytes_of_all (if b then xs else zs)) ≡ length (bytes_of_all (if b then ys else zs))
either_same true xs ys zs e = e
either_same false xs ys zs e = refl

or_same : (b : Bool) (xs ys zs : List Instruction) → length (bytes_of_all xs) ≡ length (bytes_of_all ys)
    → length (bytes_of_all (if b then zs else xs)) ≡ length (bytes_of_all (if b then zs else ys))
or_same true xs ys zs e = refl
or_same false xs ys zs e = e

pub divided_same : (a b : Addresses) (op : Operation) (x y : items.Operand) (d : Destination)
    → length (bytes_of_all (divided a op x y d)) ≡ length (bytes_of_all (divided b op x y d))
unfolding bytes_of
divided_same a b op x items.pushed d = refl
divided_same a b op x (items.number n) d =
    either_same (n == 0) (fail (fault_address a causes.DivisionByZero))
    (fail (fault_address b causes.DivisionByZero)) _
    (fail_same (fault_address a causes.DivisionByZero) (fault_address b causes.DivisionByZero))
divided_same a b op x (items.variable v) d = refl

pub character_same : (a b : Addresses) (o : items.Operand)
    → length (bytes_of_all (character_code a o)) ≡ length (bytes_of_all (character_code b o))
unfolding bytes_of
character_same a b items.pushed = refl
character_same a b (items.number n) =
    or_same (is_character n) (fail (fault_address a causes.NotACharacter))
    (fail (fault_address b causes.NotACharacter)) _
    (fail_same (fault_address a causes.NotACharacter) (fault_address b causes.NotACharacter))
character_same a b (items.variable x) = refl

-- Arrays

-- the tests of a word, without the fault
abbrev two_tests : ℕ → ℕ → ℕ → List Instruction
two_tests low end v =
    branching operations.JumpIfLess (Variable v ∷ Small low ∷ []) true (offset_over_comparison end)
    ∷ branching operations.JumpIfLess (Variable v ∷ constant end ∷ []) true 6
    ∷ []

between_same : (a b : Addresses) (cause : Cause) (low end v : ℕ)
    → length (bytes_of_all (tested_between a cause low end v))
    ≡ length (bytes_of_all (tested_between b cause low end v))
between_same a b cause low end v =
    let fa = fault_address a cause in
    let fb = fault_address b cause in
    omega (
      arith,
      all_length (two_tests low end v) (fail fa),
      all_length (two_tests low end v) (fail fb),
      fail_same fa fb,
    )

-- what is done with a word is as long as something else that is done with it
abbrev pub AsLong : (Operand → List Instruction) → (Operand → List Instruction) → Type 0
AsLong act other = (i : Operand) → length (bytes_of_all (act i)) ≡ length (bytes_of_all (other i))

-- an operand that is tested
module _ (a b : Addresses) (cause : Cause) (low end : ℕ) where
  behind_tests : (v : ℕ) (act other : Operand → List Instruction) → AsLong act other
      → length (bytes_of_all (tested_between a cause low end v ++ act (Variable v)))
      ≡ length (bytes_of_all (tested_between b cause low end v ++ other (Variable v)))
  behind_tests v act other same = omega (
    arith,
    all_length (tested_between a cause low end v) (act (Variable v)),
    all_length (tested_between b cause low end v) (other (Variable v)),
    between_same a b cause low end v,
    same (Variable v),
  )

  pub in_same : (n : ℕ) (o : items.Operand) (act other : Operand → List Instruction) → AsLong act other
      → length (bytes_of_all (tested_in n a cause low end o act))
      ≡ length (bytes_of_all (tested_in n b cause low end o other))
  in_same n items.pushed act other same = behind_tests (temporary n) act other same
  in_same n (items.number k) act other same =
      let fa = fault_address a cause in
      let fb = fault_address b cause in
      either_same (is_between low end k) (act (constant k)) (other (constant k)) (fail fa) (same (constant k))
      ∙ or_same (is_between low end k) (fail fa) (fail fb) (other (constant k)) (fail_same fa fb)
  in_same n (items.variable x) act other same = behind_tests (number_of x) act other same

  pub at_same : (o : items.Operand) (act other : Operand → List Instruction) → AsLong act other
      → length (bytes_of_all (at_tested a cause low end o act))
      ≡ length (bytes_of_all (at_tested b cause low end o other))
  at_same o act other same = omega (
    arith,
    all_length (pulled_into 0 o) (tested_in 0 a cause low end o act),
    all_length (pulled_into 0 o) (tested_in 0 b cause low end o other),
    in_same 0 o act other same,
  )

  pub tests_same : (n : ℕ) (o : items.Operand)
      → length (bytes_of_all (tests_in n a cause low end o)) ≡ length (bytes_of_all (tests_in n b cause low end o))
  tests_same n items.pushed = between_same a b cause low end (temporary n)
  tests_same n (items.number k) =
      or_same (is_between low end k) (fail (fault_address a cause)) (fail (fault_address b cause)) []
      (fail_same (fault_address a cause) (fault_address b cause))
  tests_same n (items.variable x) = between_same a b cause low end (number_of x)

pub entry_same : (a b : Addresses) (width : Width) (size x y : ℕ) (o : items.Operand) (d : Destination)
    → length (bytes_of_all (entry_code a width size x o d)) ≡ length (bytes_of_all (entry_code b width size y o d))
entry_same a b width size x y o d =
    at_same a b causes.IndexOutOfRange 0 (entries_in width size) o (load x) (load y) (λ i. omega (
      arith,
      one_length (giving (load_operation width) (Large x ∷ i ∷ []) (result_in d)),
      one_length (giving (load_operation width) (Large y ∷ i ∷ []) (result_in d)),
      same_call (load_operation width) (i ∷ []) (Some (result_in d)) x y,
    ))
  where
    load : ℕ → Operand → List Instruction
    load place i = giving (load_operation width) (Large place ∷ i ∷ []) (result_in d) ∷ []

-- an index that was put aside is a variable of the compiler
pub entry_aside_same : (a b : Addresses) (width : Width) (size x y : ℕ) (d : Destination)
    → length (bytes_of_all (entry_aside_code a width size x d)) ≡ length (bytes_of_all (entry_aside_code b width size y d))
entry_aside_same a b width size x y d = entry_same a b width size x y (items.variable aside_global) d

stored_same : (a b : Addresses) (width : Width) (size x y : ℕ) (o : items.Operand) (word : Operand) (d : Destination)
    → length (bytes_of_all (at_index a (entries_in width size) o (λ i.
    plain (store_operation width) (Large x ∷ i ∷ word ∷ []) ∷ passed_on d word)))
    ≡ length (bytes_of_all (at_index b (entries_in width size) o (λ i.
    plain (store_operation width) (Large y ∷ i ∷ word ∷ []) ∷ passed_on d word)))
stored_same a b width size x y o word d =
    at_same a b causes.IndexOutOfRange 0 (entries_in width size) o (store x) (store y) stores
  where
    store : ℕ → Operand → List Instruction
    store place i = plain (store_operation width) (Large place ∷ i ∷ word ∷ []) ∷ passed_on d word

    stores : AsLong (store x) (store y)
    stores i = omega (
      arith,
      all_length (plain (store_operation width) (Large x ∷ i ∷ word ∷ []) ∷ []) (passed_on d word),
      all_length (plain (store_operation width) (Large y ∷ i ∷ word ∷ []) ∷ []) (passed_on d word),
      one_length (plain (store_operation width) (Large x ∷ i ∷ word ∷ [])),
      one_length (plain (store_operation width) (Large y ∷ i ∷ word ∷ [])),
      same_call (store_operation width) (i ∷ word ∷ []) None x y,
    )

pub assign_same : (a b : Addresses) (width : Width) (size x y : ℕ) (o q : items.Operand) (d : Destination)
    → length (bytes_of_all (assign_entry_code a width size x o q d))
    ≡ length (bytes_of_all (assign_entry_code b width size y o q d))
assign_same a b width size x y o q d =
    omega (
      arith,
      all_length (assigned_takes q) (at_index a (entries_in width size) o (store x)),
      all_length (assigned_takes q) (at_index b (entries_in width size) o (store y)),
      stored_same a b width size x y o (assigned_word q) d,
    )
  where
    store : ℕ → Operand → List Instruction
    store place i =
        plain (store_operation width) (Large place ∷ i ∷ assigned_word q ∷ []) ∷ passed_on d (assigned_word q)

pub assign_aside_same : (a b : Addresses) (width : Width) (size x y : ℕ) (o q : items.Operand) (d : Destination)
    → length (bytes_of_all (assign_entry_aside_code a width size x o q d))
    ≡ length (bytes_of_all (assign_entry_aside_code b width size y o q d))
assign_aside_same a b width size x y o items.pushed d = stored_same a b width size x y o (Variable aside_variable) d
assign_aside_same a b width size x y o (items.number k) d =
    stored_same a b width size x y (items.variable aside_global) (constant k) d
assign_aside_same a b width size x y o (items.variable z) d =
    stored_same a b width size x y (items.variable aside_global) (Variable (number_of z)) d

-- Lines

first_same : (a b : Addresses) (most x y : ℕ)
    → length (bytes_of_all (first_byte x ∷ tested_first a most))
    ≡ length (bytes_of_all (first_byte y ∷ tested_first b most))
first_same a b most x y = omega (
  arith,
  all_length (first_byte x ∷ []) (tested_first a most),
  all_length (first_byte y ∷ []) (tested_first b most),
  one_length (first_byte x),
  one_length (first_byte y),
  same_call operations.LoadByte (Small 0 ∷ []) (Some (temporary 0)) x y,
  between_same a b causes.BufferTooSmall 1 (most + 1) (temporary 0),
)

line_same : (x y z w : ℕ) → length (bytes_of_all (line_code x y)) ≡ length (bytes_of_all (line_code z w))
unfolding bytes_of
line_same x y z w = refl

pub read_same : (a b : Addresses) (text_size parse_size x y z w : ℕ)
    → length (bytes_of_all (read_code a text_size x parse_size y))
    ≡ length (bytes_of_all (read_code b text_size z parse_size w))
read_same a b text_size parse_size x y z w =
    let letters = letters_in text_size in
    let words = words_in parse_size in
    omega (
      arith,
      all_length (first_byte x ∷ tested_first a letters) (first_byte y ∷ (tested_first a words ++ line_code x y)),
      all_length (first_byte z ∷ tested_first b letters) (first_byte w ∷ (tested_first b words ++ line_code z w)),
      all_length (first_byte y ∷ tested_first a words) (line_code x y),
      all_length (first_byte w ∷ tested_first b words) (line_code z w),
      first_same a b letters x z,
      first_same a b words y w,
      line_same x y z w,
    )
