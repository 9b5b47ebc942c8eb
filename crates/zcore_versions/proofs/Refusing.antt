-- At a further operation the profile knows no instruction, but for `aread`, which both read the same way.
use Rattle.std.proofs.Common.{◌≡◌, ℕ, ◌+◌, ◌/◌, ◌%◌, ◌<◌, ◌⊎◌, inl, inr, List, [], ◌∷◌, length, refl, ap, ◌∙◌}
use Rattle.std.proofs.Common.{arith, slice_index, Bool, true, false, cond, Option, Some, None, Result, Err}
use Rattle.std.specs.Prelude.{◌==◌, nat_lt, if◌then◌else◌}
use Rattle.std.specs.List.{list_all}
use Rattle.std.specs.Option.{is_none}
use Rattle.std.proofs.lemmas.Bool.{eqb-true, ltb-true, ltb-false, lt-ltb, and_parts}
use Rattle.zcore.specs.declared.place.Fault.{Fault}
use Rattle.zcore.specs.declared.place.Fault.TheVariants as faults
use Rattle.zcore.specs.declared.place.Place.TheVariants as places
use Rattle.zcore.specs.declared.instruction.Operation.{Operation}
use Rattle.zcore.specs.declared.next.Next.{Next}
use Rattle.zcore.specs.Operations as profile
use Rattle.zcore.specs.Instruction as profile_instruction
use Rattle.zcore.specs.Instruction.{byte, long_form, short_form, variable_form, opcode, decode}
use Rattle.zcore.specs.State.{State, halt}
use Rattle.zcore.specs.Parts.{is_code}
use Rattle.zcore.specs.Execution.{step}
use Rattle.zcore_standard.specs.declared.operations.StandardOperation.{StandardOperation}
use Rattle.zcore_standard.specs.declared.operations.StandardOperation.TheVariants.{Restart, Catch, ShowStatus, Verify}
use Rattle.zcore_standard.specs.declared.operations.StandardOperation.TheVariants.{Piracy, SetColour, Throw, Read}
use Rattle.zcore_standard.specs.declared.operations.StandardOperation.TheVariants.{Random, SplitWindow, SetWindow}
use Rattle.zcore_standard.specs.declared.operations.StandardOperation.TheVariants.{EraseWindow, EraseLine, SetCursor}
use Rattle.zcore_standard.specs.declared.operations.StandardOperation.TheVariants.{GetCursor, SetTextStyle, BufferMode}
use Rattle.zcore_standard.specs.declared.operations.StandardOperation.TheVariants.{OutputStream, InputStream}
use Rattle.zcore_standard.specs.declared.operations.StandardOperation.TheVariants.{SoundEffect, ReadChar, ScanTable}
use Rattle.zcore_standard.specs.declared.operations.StandardOperation.TheVariants.{Tokenise, EncodeText, CopyTable}
use Rattle.zcore_standard.specs.declared.operations.StandardOperation.TheVariants.{PrintTable}
use Rattle.zcore_standard.specs.Operations.{row_of, numbered, no_operand, two_operand, of_bytes}
use Rattle.zcore_standard.specs.declared.opcode.Opcode.{Opcode}
use Rattle.zcore_standard.specs.Operations.{further_at, standard_of}

-- The profile has no opcode of a number that a further one has

-- one of two operations
one_way : {P : Type 0} (b : Bool) (p q : Option StandardOperation) (x : StandardOperation) → (b ≡ true → p ≡ Some x → P)
    → (b ≡ false → q ≡ Some x → P) → cond b p q ≡ Some x → P
one_way true p q x v w h = v refl h
one_way false p q x v w h = w refl h

none_at : {P : Type 0} (x : StandardOperation) → None ≡ Some x → P
none_at x h = absurd (cc)

pub is_no_some : {A : Type 0} (o : Option A) → is_none o ≡ true → o ≡ None
is_no_some None e = refl
is_no_some (Some a) e = absurd (cc)

-- none of the numbers of these is one that the profile knows
abbrev are_unknown : (ℕ → Option Operation) → List StandardOperation → Bool
are_unknown known operations = list_all (λ o. is_none (known (row_of o).number)) operations

unknown_number : (known : ℕ → Option Operation) (operations : List StandardOperation) (n : ℕ) (x : StandardOperation)
    → are_unknown known operations ≡ true → numbered n operations ≡ Some x → known n ≡ None
unknown_number known [] n x all h = none_at x h
unknown_number known (o ∷ others) n x all h =
    let parts = and_parts (is_none (known (row_of o).number)) (are_unknown known others) all in
    one_way (n == (row_of o).number) (Some o) (numbered n others) x
    (λ b _. ap known (eqb-true n (row_of o).number b) ∙ is_no_some (known (row_of o).number) parts.0)
    (λ _ e. unknown_number known others n x parts.1 e) h

-- The first byte

-- what the profile makes of it
abbrev of_first : List ℕ → ℕ → ℕ → Result (profile_instruction.Opcode × ℕ) Fault
of_first memory first at =
    if first == 190 then Err faults.Opcode
    else (if nat_lt first 128 then long_form first at
    else (if nat_lt first 192 then short_form first at
    else variable_form memory first at))

-- the first byte of `aread`
pub record IsReadByte (first : ℕ) : Type 0 where
  pub no_extended : (first == 190) ≡ false
  pub no_long : nat_lt first 128 ≡ false
  pub no_short : nat_lt first 192 ≡ false
  pub no_two : nat_lt first 224 ≡ false
  pub number : first % 32 ≡ 4

-- the profile refuses an opcode, or it is `aread`
abbrev RefusedOrRead : Result (profile_instruction.Opcode × ℕ) Fault → ℕ → StandardOperation → Type 0
RefusedOrRead r first x = (r ≡ Err faults.Opcode) ⊎ ((x ≡ Read) × IsReadByte first)

-- two choices by one test
both_ways : (b : Bool) (p q : Opcode) (r s : Result (profile_instruction.Opcode × ℕ) Fault) (first : ℕ)
    (x : StandardOperation) → (b ≡ true → standard_of p ≡ Some x → RefusedOrRead r first x)
    → (b ≡ false → standard_of q ≡ Some x → RefusedOrRead s first x)
    → standard_of (cond b p q) ≡ Some x → RefusedOrRead (cond b r s) first x
both_ways true p q r s first x v w h = v refl h
both_ways false p q r s first x v w h = w refl h

-- two opcodes by one test
one_opcode : {P : Type 0} (b : Bool) (p q : Opcode) (x : StandardOperation)
    → (b ≡ true → standard_of p ≡ Some x → P) → (b ≡ false → standard_of q ≡ Some x → P)
    → standard_of (cond b p q) ≡ Some x → P
one_opcode true p q x v w h = v refl h
one_opcode false p q x v w h = w refl h

long_refused : (first at : ℕ) (x : StandardOperation) → two_operand (first % 32) ≡ Some x
    → long_form first at ≡ Err faults.Opcode
long_refused first at x h =
    rw (unknown_number profile.two_operand (SetColour ∷ Throw ∷ []) (first % 32) x refl h) refl

short_refused : (first at : ℕ) (x : StandardOperation) → first / 16 % 4 ≡ 3 → no_operand (first % 16) ≡ Some x
    → short_form first at ≡ Err faults.Opcode
short_refused first at x form h =
    rw (
      form,
      unknown_number profile.no_operand (Restart ∷ Catch ∷ ShowStatus ∷ Verify ∷ Piracy ∷ []) (first % 16) x refl
          h,
    ) refl

variable_two_refused : (memory : List ℕ) (first at : ℕ) (x : StandardOperation) → nat_lt first 224 ≡ true
    → two_operand (first % 32) ≡ Some x → variable_form memory first at ≡ Err faults.Opcode
variable_two_refused memory first at x b h =
    rw (b, unknown_number profile.two_operand (SetColour ∷ Throw ∷ []) (first % 32) x refl h) refl

-- those of the several-operand opcodes that the profile does not know with two operands
abbrev others_than_read : List StandardOperation
others_than_read =
    Random ∷ SplitWindow ∷ SetWindow ∷ EraseWindow ∷ EraseLine ∷ SetCursor ∷ GetCursor ∷ SetTextStyle ∷ BufferMode ∷
    OutputStream ∷ InputStream ∷ SoundEffect ∷ ReadChar ∷ ScanTable ∷ Tokenise ∷ EncodeText ∷ CopyTable ∷
    PrintTable ∷ []

several_refused : (memory : List ℕ) (first at : ℕ) (x : StandardOperation) → nat_lt first 224 ≡ false
    → numbered (first % 32) others_than_read ≡ Some x → variable_form memory first at ≡ Err faults.Opcode
several_refused memory first at x b h =
    rw (b, unknown_number profile.several_operand others_than_read (first % 32) x refl h) refl

is_read : (x : StandardOperation) → Some Read ≡ Some x → x ≡ Read
is_read x e = cc

first_refused : (memory : List ℕ) (first second at : ℕ) (x : StandardOperation) → of_bytes first second ≡ Some x
    → RefusedOrRead (of_first memory first at) first x
first_refused memory first second at x h =
    both_ways (first == 190) _ _ _ _ first x (λ _ _. inl refl)
    (λ extended h. both_ways (nat_lt first 128) _ _ _ _ first x
    (λ _ e. inl (long_refused first at x e))
    (λ long h. one_opcode (nat_lt first 176) _ _ x (λ _ e. none_at x e)
    (λ low h. both_ways (nat_lt first 192) _ _ _ _ first x
    (λ high e.
    let above = ltb-false first 176 low in
    let below = ltb-true first 192 high in
    inl (short_refused first at x (omega arith) e))
    (λ short h. one_opcode (nat_lt first 224) _ _ x
    (λ b e. inl (variable_two_refused memory first at x b e))
    (λ b e. one_way (first % 32 == 4) (Some Read) (numbered (first % 32) others_than_read) x
    (λ number f. inr (
      is_read x f,
      record {
        no_extended = extended;
        no_long = long;
        no_short = short;
        no_two = b;
        number = eqb-true (first % 32) 4 number;
      },
    ))
    (λ _ f. inl (several_refused memory first at x b f)) e) h) h) h) h) h

-- The instruction

-- a further operation at an address
pub record Stands (memory : List ℕ) (at : ℕ) (x : StandardOperation) : Type 0 where
  pub code : is_code memory at ≡ true
  pub within : at < length memory
  pub bytes : of_bytes (slice_index memory at) (slice_index memory (at + 1)) ≡ Some x

pub stands : (memory : List ℕ) (at : ℕ) (x : StandardOperation) → further_at memory at ≡ Some x → Stands memory at x
stands memory at x h =
    one_way (is_code memory at) _ None x
    (λ code e. record { code = code; within = ltb-true at (length memory) (and_parts _ _ code).1; bytes = e })
    (λ _ e. none_at x e) h

-- the profile's opcode
pub opcode_is : (memory : List ℕ) (at : ℕ) → at < length memory
    → opcode memory at ≡ of_first memory (slice_index memory at) (at + 1)
unfolding opcode byte
opcode_is memory at within = rw (lt-ltb at (length memory) within) refl

decode_refused : (memory : List ℕ) (at : ℕ) → opcode memory at ≡ Err faults.Opcode → decode memory at ≡ Err faults.Opcode
unfolding decode
decode_refused memory at e = rw e refl

step_of : (here : Next) (s : State) → is_code s.memory here.program_counter ≡ true
    → decode s.memory here.program_counter ≡ Err faults.Opcode → step here s ≡ halt (places.Fault faults.Opcode) s
unfolding step
step_of here s code e = rw (code, e) refl

refused_or_read : (here : Next) (s : State) (x : StandardOperation) → Stands s.memory here.program_counter x
    → RefusedOrRead (of_first s.memory (slice_index s.memory here.program_counter) (here.program_counter + 1))
    (slice_index s.memory here.program_counter) x
    → (step here s ≡ halt (places.Fault faults.Opcode) s)
    ⊎ ((x ≡ Read) × IsReadByte (slice_index s.memory here.program_counter))
refused_or_read here s x a (inl e) =
    let at = here.program_counter in
    inl (step_of here s a.code (decode_refused s.memory at (opcode_is s.memory at a.within ∙ e)))
refused_or_read here s x a (inr r) = inr r

-- M1, or `aread`
pub step_refused : (here : Next) (s : State) (x : StandardOperation) → further_at s.memory here.program_counter ≡ Some x
    → (step here s ≡ halt (places.Fault faults.Opcode) s)
    ⊎ ((x ≡ Read) × IsReadByte (slice_index s.memory here.program_counter))
step_refused here s x h =
    let memory = s.memory in
    let at = here.program_counter in
    let a = stands memory at x h in
    refused_or_read here s x a
    (first_refused memory (slice_index memory at) (slice_index memory (at + 1)) (at + 1) x a.bytes)
