-- The bytes of operands, of their types and of each form of an opcode are read back.
use Rattle.std.proofs.Common.{◌≡◌, ◌≢◌, ℕ, zero, suc, ◌+◌, ◌-◌, ◌*◌, ◌/◌, ◌%◌, ◌<◌, ◌≤◌, List, [], ◌∷◌, ◌++◌, map}
use Rattle.std.proofs.Common.{take, drop, replicate, length, refl, ap, sym, ◌∙◌, arith, Bool, true, false}
use Rattle.std.proofs.Common.{Some, Result, Ok, Err}
use Rattle.std.specs.Prelude.{◌==◌, nat_lt, if◌then◌else◌, slice_index_or}
use Rattle.std.specs.List.{All, flat_map, list_all}
use Rattle.std.proofs.lemmas.Bool.{lt-ltb, le-ltb, le-leb, eq-eqb, ne_eqb, and_from}
use Rattle.std.proofs.lemmas.List.{length-map, length-append, length-drop}
use Rattle.std.proofs.lemmas.List.Elements.{All-append, All-map, All-replicate, All-drop}
use Rattle.std.proofs.Math.Seq.{take-add}
use Rattle.zcore.specs.declared.place.Fault.{Fault}
use Rattle.zcore.specs.declared.place.Fault.TheVariants as faults
use Rattle.zcore.specs.declared.instruction.Operation.{Operation}
use Rattle.zcore.specs.declared.instruction.Operand.{Operand}
use Rattle.zcore.specs.declared.instruction.Operand.TheVariants.{Large, Small, Variable}
use Rattle.ztext.specs.Text.{Holds}
use Rattle.zcore.specs.Operations.{two_operand, one_operand, no_operand, several_operand}
use Rattle.zcore.specs.Operations.{least_operands, most_operands, has_more_types}
use Rattle.ztext.specs.Results.{◌>>=◌}
use Rattle.zcore.specs.Instruction.{Opcode, byte, large, operand, operands, types_of, given_types, opcode_of, long_form}
use Rattle.zcore.specs.Instruction.{short_form, variable_types, variable_form, opcode}
use Rattle.zcore.specs.InstructionBytes.{type_of, operand_bytes, types_byte, types_to_write, types_bytes}
use Rattle.zcore.specs.InstructionBytes.{variable_bytes}
use Rattle.ztext.proofs.Holding.{holds_byte, holds_append}

-- a part that was read, and what is read after it
pub then_ok : {A B : Type 0} (r : Result A Fault) (a : A) (k : A → Result B Fault) (z : Result B Fault) → r ≡ Ok a
    → k a ≡ z → (r >>= k) ≡ z
then_ok r a k z e h = ap (λ x. x >>= k) e ∙ h

-- Bytes, operands

-- a byte is read back
pub byte_is : (memory : List ℕ) (at b : ℕ) (bytes : List ℕ) → Holds memory at (b ∷ bytes)
    → byte memory at ≡ Ok (b, at + 1)
unfolding byte
byte_is memory at b bytes h =
    let f = holds_byte memory at b bytes h in
    rw (lt-ltb at (length memory) f.within, f.here) refl

-- a large constant is read back
large_is : (memory : List ℕ) (at n : ℕ) → Holds memory at ((n / 256) ∷ (n % 256) ∷ [])
    → large memory at ≡ Ok (n, at + 2)
unfolding large
large_is memory at n h =
    let f = holds_byte memory at (n / 256) ((n % 256) ∷ []) h in
    let e : n / 256 * 256 + n % 256 ≡ n = omega arith in
    let next : at + 1 + 1 ≡ at + 2 = omega arith in
    then_ok (byte memory at) (n / 256, at + 1) _ _ (byte_is memory at (n / 256) ((n % 256) ∷ []) h)
    (then_ok (byte memory (at + 1)) (n % 256, at + 1 + 1) (λ low. Ok (n / 256 * 256 + low.0, low.1)) _
    (byte_is memory (at + 1) (n % 256) [] f.rest) (rw (e, next) refl))

-- an operand is read back
operand_is : (memory : List ℕ) (at : ℕ) (o : Operand) → Holds memory at (operand_bytes o)
    → operand memory (type_of o) at ≡ Ok (o, at + length (operand_bytes o))
unfolding operand
operand_is memory at (Large n) h = then_ok (large memory at) (n, at + 2) _ _ (large_is memory at n h) refl
operand_is memory at (Small n) h = then_ok (byte memory at) (n, at + 1) _ _ (byte_is memory at n [] h) refl
operand_is memory at (Variable n) h = then_ok (byte memory at) (n, at + 1) _ _ (byte_is memory at n [] h) refl

-- operands are read back
pub operands_are : (memory : List ℕ) (at : ℕ) (os : List Operand) → Holds memory at (flat_map operand_bytes os)
    → operands memory (map type_of os) at ≡ Ok (os, at + length (flat_map operand_bytes os))
unfolding operands
operands_are memory at [] h = let e : at ≡ at + 0 = omega arith in ap (λ a. Ok ([], a)) e
operands_are memory at (o ∷ os) h =
    let p = holds_append memory at (operand_bytes o) (flat_map operand_bytes os) h in
    let rest = operands_are memory (at + length (operand_bytes o)) os p.1 in
    let size = length-append (operand_bytes o) (flat_map operand_bytes os) in
    let e : at + length (operand_bytes o) + length (flat_map operand_bytes os)
    ≡ at + length (operand_bytes o ++ flat_map operand_bytes os) = omega arith in
    then_ok (operand memory (type_of o) at) (o, at + length (operand_bytes o)) _ _ (operand_is memory at o p.0)
    (then_ok (operands memory (map type_of os) (at + length (operand_bytes o)))
    (os, at + length (operand_bytes o) + length (flat_map operand_bytes os)) (λ xs. Ok (o ∷ xs.0, xs.1)) _ rest
    (ap (λ a. Ok (o ∷ os, a)) e))

-- Types of operands

-- no operand has the type of an omitted one
type_small : (o : Operand) → type_of o < 3
type_small (Large n) = omega arith
type_small (Small n) = omega arith
type_small (Variable n) = omega arith

-- omitted types are all omitted, however many of them are taken
taken_omitted : (n m : ℕ) → list_all (λ other. other == 3) (take n (replicate m 3)) ≡ true
taken_omitted zero m = refl
taken_omitted (suc n) zero = refl
taken_omitted (suc n) (suc m) = taken_omitted n m

-- the types before the omitted ones are the operands'
given_are : (os : List Operand) (n m : ℕ) → length os ≤ n
    → given_types (take n (map type_of os ++ replicate m 3)) ≡ Ok (map type_of os)
given_are [] zero m le = refl
given_are [] (suc n) zero le = refl
given_are [] (suc n) (suc m) le = rw (taken_omitted n m) refl
given_are (o ∷ os) zero m le = absurd (omega arith)
given_are (o ∷ os) (suc n) m le =
    let small = type_small o in
    rw (ne_eqb (type_of o) 3 (omega arith))
    (then_ok (given_types (take n (map type_of os ++ replicate m 3))) (map type_of os)
    (λ more. Ok (type_of o ∷ more)) _ (given_are os n m (omega arith)) refl)

-- four types in a byte
types_are : (a b c d : ℕ) → a < 4 → b < 4 → c < 4 → d < 4
    → types_of (64 * a + 16 * b + 4 * c + d) ≡ a ∷ b ∷ c ∷ d ∷ []
types_are a b c d p q r s =
    let n = 64 * a + 16 * b + 4 * c + d in
    let one : n / 64 ≡ a = omega arith in
    let two : n / 16 % 4 ≡ b = omega arith in
    let three : n / 4 % 4 ≡ c = omega arith in
    let four : n % 4 ≡ d = omega arith in
    rw (one, two, three, four) refl

-- the byte of the first four of some types
types_byte_is : (types : List ℕ) → All (λ t. t < 4) types → 4 ≤ length types
    → types_of (types_byte types) ≡ take 4 types
types_byte_is [] small le = absurd (omega arith)
types_byte_is (a ∷ []) small le = absurd (omega arith)
types_byte_is (a ∷ b ∷ []) small le = absurd (omega arith)
types_byte_is (a ∷ b ∷ c ∷ []) small le = absurd (omega arith)
types_byte_is (a ∷ b ∷ c ∷ d ∷ types) small le = types_are a b c d (small 0 0 (omega arith))
    (small 1 0 (omega arith)) (small 2 0 (omega arith)) (small 3 0 (omega arith))

-- the types that are written fit two bits each
written_small : (os : List Operand) → All (λ t. t < 4) (types_to_write os)
written_small os =
    All-append (λ t. t < 4) (map type_of os) (replicate 8 3)
    (All-map (λ t. t < 4) type_of os (λ k d lt. let small = type_small (slice_index_or os k d) in omega arith))
    (All-replicate (λ t. t < 4) 8 3 (omega arith))

-- how many operands the types in one byte or two have room for
abbrev pub room : Bool → ℕ
room false = 4
room true = 8

-- the byte of types, or the two bytes, read back
variable_types_are : (more : Bool) (memory : List ℕ) (at : ℕ) (os : List Operand)
    → Holds memory at (types_bytes more os)
    → variable_types memory more at ≡ Ok (take (room more) (types_to_write os), at + length (types_bytes more os))
variable_types_are false memory at os h =
    let types = types_to_write os in
    let size = length-append (map type_of os) (replicate 8 3) in
    let first = types_byte_is types (written_small os) (omega arith) in
    then_ok (byte memory at) (types_byte types, at + 1) _ _ (byte_is memory at (types_byte types) [] h)
    (ap (λ l. Ok (l, at + 1)) first)
variable_types_are true memory at os h =
    let types = types_to_write os in
    let size = length-append (map type_of os) (replicate 8 3) in
    let left = length-drop 4 types in
    let first = types_byte_is types (written_small os) (omega arith) in
    let second = types_byte_is (drop 4 types) (All-drop (λ t. t < 4) 4 types (written_small os)) (omega arith) in
    let rest = (holds_byte memory at (types_byte types) (types_byte (drop 4 types) ∷ []) h).rest in
    let next : at + 1 + 1 ≡ at + 2 = omega arith in
    let whole : types_of (types_byte types) ++ types_of (types_byte (drop 4 types)) ≡ take 8 types =
    ap (λ l. l ++ types_of (types_byte (drop 4 types))) first ∙ ap (λ l. take 4 types ++ l) second
    ∙ sym (take-add 4 4 types) in
    then_ok (byte memory at) (types_byte types, at + 1) _ _
    (byte_is memory at (types_byte types) (types_byte (drop 4 types) ∷ []) h)
    (then_ok (byte memory (at + 1)) (types_byte (drop 4 types), at + 1 + 1)
    (λ read. Ok (types_of (types_byte types) ++ types_of read.0, read.1)) _
    (byte_is memory (at + 1) (types_byte (drop 4 types)) [] rest)
    (ap (λ l. Ok (l, at + 1 + 1)) whole ∙ ap (λ a. Ok (take 8 types, a)) next))

-- Opcodes

-- an operation takes a number of operands within its bounds
opcode_of_is : (operation : Operation) (types : List ℕ) (at : ℕ) → least_operands operation ≤ length types
    → length types ≤ most_operands operation → opcode_of (Some operation) types at
    ≡ Ok (record { operation = operation; types = types }, at)
opcode_of_is operation types at least most =
    rw (and_from _ _ (le-leb (least_operands operation) (length types) least)
    (le-leb (length types) (most_operands operation) most)) refl

-- what the first byte says
opcode_first : (memory : List ℕ) (at first : ℕ) (bytes : List ℕ) (z : Result (Opcode × ℕ) Fault)
    → Holds memory at (first ∷ bytes)
    → (if first == 190 then Err faults.Opcode
    else (if nat_lt first 128 then long_form first (at + 1)
    else (if nat_lt first 192 then short_form first (at + 1)
    else variable_form memory first (at + 1)))) ≡ z → opcode memory at ≡ z
unfolding opcode
opcode_first memory at first bytes z h e = then_ok (byte memory at) (first, at + 1) _ z
    (byte_is memory at first bytes h) e

-- long form
opcode_long : (memory : List ℕ) (at first : ℕ) (bytes : List ℕ) (z : Result (Opcode × ℕ) Fault)
    → Holds memory at (first ∷ bytes) → first < 128 → long_form first (at + 1) ≡ z → opcode memory at ≡ z
opcode_long memory at first bytes z h lt e = opcode_first memory at first bytes z h
    (rw (ne_eqb first 190 (omega arith), lt-ltb first 128 lt) e)

-- short form
opcode_short : (memory : List ℕ) (at first : ℕ) (bytes : List ℕ) (z : Result (Opcode × ℕ) Fault)
    → Holds memory at (first ∷ bytes) → 128 ≤ first → first < 192 → first ≢ 190 → short_form first (at + 1) ≡ z
    → opcode memory at ≡ z
opcode_short memory at first bytes z h le lt other e =
    opcode_first memory at first bytes z h (rw (ne_eqb first 190 other, le-ltb first 128 le, lt-ltb first 192 lt) e)

-- variable form
opcode_variable : (memory : List ℕ) (at first : ℕ) (bytes : List ℕ) (z : Result (Opcode × ℕ) Fault)
    → Holds memory at (first ∷ bytes) → 192 ≤ first → variable_form memory first (at + 1) ≡ z → opcode memory at ≡ z
opcode_variable memory at first bytes z h le e =
    opcode_first memory at first bytes z h
    (rw (ne_eqb first 190 (omega arith), le-ltb first 128 (omega arith), le-ltb first 192 le) e)

-- an opcode without operands is read back; 14 is the number of the byte that begins an extended opcode
pub none_is : (memory : List ℕ) (at number : ℕ) (operation : Operation) → number < 16 → number ≢ 14
    → no_operand number ≡ Some operation → least_operands operation ≤ 0 → Holds memory at ((176 + number) ∷ [])
    → opcode memory at ≡ Ok (record { operation = operation; types = [] }, at + 1)
none_is memory at number operation lt other found least h =
    let first = 176 + number in
    let kind : first / 16 % 4 ≡ 3 = omega arith in
    let low : first % 16 ≡ number = omega arith in
    opcode_short memory at first [] _ h (omega arith) (omega arith) (λ e. other (omega arith))
    (rw (eq-eqb (first / 16 % 4) 3 kind, low, found) (opcode_of_is operation [] (at + 1) least (omega arith)))

-- an opcode of one operand is read back
pub one_is : (memory : List ℕ) (at number : ℕ) (operation : Operation) (o : Operand) → number < 16
    → one_operand number ≡ Some operation → least_operands operation ≤ 1 → 1 ≤ most_operands operation
    → Holds memory at ((128 + 16 * type_of o + number) ∷ [])
    → opcode memory at ≡ Ok (record { operation = operation; types = type_of o ∷ [] }, at + 1)
one_is memory at number operation o lt found least most h =
    let small = type_small o in
    let first = 128 + 16 * type_of o + number in
    let kind : first / 16 % 4 ≡ type_of o = omega arith in
    let low : first % 16 ≡ number = omega arith in
    opcode_short memory at first [] _ h (omega arith) (omega arith) (λ e. omega arith)
    (rw (kind, ne_eqb (type_of o) 3 (omega arith), low, found)
    (opcode_of_is operation (type_of o ∷ []) (at + 1) least most))

-- an opcode of two operands in long form is read back
pub long_is : (memory : List ℕ) (at number a b : ℕ) (operation : Operation) → number < 32 → 1 ≤ a → a < 3 → 1 ≤ b
    → b < 3 → two_operand number ≡ Some operation → least_operands operation ≤ 2 → 2 ≤ most_operands operation
    → Holds memory at ((64 * (a - 1) + 32 * (b - 1) + number) ∷ [])
    → opcode memory at ≡ Ok (record { operation = operation; types = a ∷ b ∷ [] }, at + 1)
long_is memory at number a b operation lt p q r s found least most h =
    let first = 64 * (a - 1) + 32 * (b - 1) + number in
    let low : first % 32 ≡ number = omega arith in
    let one : first / 64 % 2 + 1 ≡ a = omega arith in
    let two : first / 32 % 2 + 1 ≡ b = omega arith in
    opcode_long memory at first [] _ h (omega arith)
    (rw (low, one, two, found) (opcode_of_is operation (a ∷ b ∷ []) (at + 1) least most))

-- what is to be shown of an opcode in variable form
abbrev pub VariableIs : List ℕ → ℕ → ℕ → Operation → List Operand → Bool → Type 0
VariableIs memory at first operation os more =
    Holds memory at (variable_bytes first more os)
    → opcode memory at
    ≡ Ok (record { operation = operation; types = map type_of os }, at + length (variable_bytes first more os))

-- an opcode in variable form is read back
pub variable_is : (memory : List ℕ) (at first : ℕ) (operation : Operation) (os : List Operand) → 192 ≤ first
    → (if nat_lt first 224 then two_operand (first % 32) else several_operand (first % 32)) ≡ Some operation
    → most_operands operation ≤ room (has_more_types operation) → least_operands operation ≤ length os
    → length os ≤ most_operands operation → VariableIs memory at first operation os (has_more_types operation)
variable_is memory at first operation os le found few least most h =
    let more = has_more_types operation in
    let bytes = types_bytes more os in
    let rest = (holds_byte memory at first bytes h).rest in
    let size = length-map os type_of in
    let next : at + 1 + length bytes ≡ at + length (first ∷ bytes) = omega arith in
    let last : opcode_of (Some operation) (map type_of os) (at + 1 + length bytes)
    ≡ Ok (record { operation = operation; types = map type_of os }, at + length (first ∷ bytes)) =
    opcode_of_is operation (map type_of os) (at + 1 + length bytes) (omega arith) (omega arith)
    ∙ ap (λ a. Ok (record { operation = operation; types = map type_of os }, a)) next in
    opcode_variable memory at first bytes _ h le
    (rw found
    (then_ok (variable_types memory more (at + 1)) (take (room more) (types_to_write os), at + 1 + length bytes)
    (λ read. given_types read.0 >>= λ kept. opcode_of (Some operation) kept read.1) _
    (variable_types_are more memory (at + 1) os rest)
    (then_ok (given_types (take (room more) (types_to_write os))) (map type_of os)
    (λ kept. opcode_of (Some operation) kept (at + 1 + length bytes)) _
    (given_are os (room more) 8 (omega arith)) last)))
