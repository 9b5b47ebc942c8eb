-- Steps that units do in a story of a version are steps of its machine: they are the profile's where the version has no
-- operation of its own, and its calls.
use Rattle.std.proofs.Common.{◌≡◌, ◌⊎◌, ◌<◌, ◌≤◌, ◌+◌, ◌%◌, ◌∙◌, ℕ, zero, suc, inl, inr, Bool, true, false, refl, List}
use Rattle.std.proofs.Common.{ap, subst, sym, arith, Option, Some, None, Err, Ok, Result, true≢false, drop}
use Rattle.std.specs.Prelude.{◌==◌, ◌&&◌, ◌||◌, nat_le, nat_lt, not, if◌then◌else◌, slice_index}
use Rattle.std.proofs.lemmas.Bool.{and_parts, cases_eq, eqb-true, leb-true, or_cases}
use Rattle.std.proofs.lemmas.Option.{same_Some}
use Rattle.zcore.specs.declared.instruction.Operation.{Operation}
use Rattle.zcore.specs.Instruction.{Instruction, decode}
use Rattle.zcore.specs.declared.next.Next.{Next}
use Rattle.zcore.specs.declared.place.Fault.{Fault}
use Rattle.zcore.specs.declared.place.Fault.TheVariants as faults
use Rattle.zcore.specs.Execution.{execute, first, perform, step}
use Rattle.zcore.specs.Parts.{fault, is_code, operand_values}
use Rattle.zcore.specs.State.{Out, State, bound, done, halt}
use Rattle.zcore_standard.specs.declared.opcode.Opcode.{Opcode}
use Rattle.zcore_standard.specs.declared.opcode.Numbering.TheVariants.{Two, One, Zero, Several, Extended}
use Rattle.zcore_standard.specs.Opcodes.{numbered, plain, opcode_of}
use Rattle.zcore_standard.specs.Operations.{profile_of}
use Rattle.zcore_versions.specs.declared.operations.VersionOperation.{VersionOperation}
use Rattle.zcore_versions.specs.declared.operations.VersionOperation.TheVariants.{Known, Older, SplitWindow, Missing}
use Rattle.zcore_versions.specs.declared.version.StoryVersion.{StoryVersion}
use Rattle.zcore_versions.specs.Calls.{call_older}
use Rattle.zcore_versions.specs.Machine.{any_step}
use Rattle.zcore_versions.specs.Operations.{is_call, uses_objects, of_opcode, older_at}
use Rattle.zcore_versions.specs.Performing.{perform_small}
use Rattle.zcore_versions.specs.Versions.{Story, is_late, is_small}
use Rattle.zcore_versions.proofs.Finding.{known_profile}
use Rattle.zcore_versions.proofs.KnownDecoding.{decoded_profile, decoded_result}
use Rattle.zcore_versions.proofs.SmallSteps.{objects_are_steps}
use Rattle.zcore_versions.proofs.VersionCalls.{calls_are_steps}
use Rattle.zcore_standard.specs.Place.{Here, within}
use Rattle.zcore_standard_loading.specs.Loading.{is_played}
use Rattle.machine_units.specs.Left.{decode_for, is_left, told_from, two_operand_from, one_operand_from}
use Rattle.machine_units.specs.Left.{no_operand_from, several_operand_from}
use Rattle.machine_arms.specs.Passed.{execute_in, flown, perform_in}
use Rattle.machine_arms.proofs.Flown.{decoded_for, flown_goes_on, flown_silent, flown_steps, performs_older}
use Rattle.machine_arms.proofs.Flown.{performs_other, performs_small}

-- What is performed of an opcode

-- it is on an object that is small in a version
abbrev is_on_small : StoryVersion → Operation → Bool
is_on_small version operation = uses_objects operation && is_small version

-- An opcode of which units tell the operation that the profile has: the version calls otherwise, and so it does what is on
-- small objects; it does the rest so.
abbrev agrees : StoryVersion → Option Operation → Option VersionOperation → Bool
agrees version None o = true
agrees version (Some operation) None = not (is_call operation) && not (is_on_small version operation)
agrees version (Some operation) (Some (Known other)) = is_call operation || is_on_small version operation
agrees version (Some operation) (Some _) = false

abbrev pub IsDoneAs : StoryVersion → Operation → Option VersionOperation → Type 0
IsDoneAs version operation o =
    ((o ≡ None) × (is_call operation ≡ false) × (is_on_small version operation ≡ false))
    ⊎ (((o ≡ Some (Known operation)) × (is_call operation ≡ true))
    ⊎ ((o ≡ Some (Known operation)) × (is_call operation ≡ false) × (is_on_small version operation ≡ true)))

either_so : (call object : Bool) → (call || object) ≡ true → (call ≡ true) ⊎ ((call ≡ false) × (object ≡ true))
either_so true object e = inl refl
either_so false object e = inr (refl, e)

not_true : (b : Bool) → not b ≡ true → b ≡ false
not_true true e = absurd (cc)
not_true false e = refl

agreed : (version : StoryVersion) (p : Option Operation) (o : Option VersionOperation) (operation : Operation)
    → p ≡ Some operation → ((other : Operation) → o ≡ Some (Known other) → p ≡ Some other)
    → agrees version p o ≡ true → IsDoneAs version operation o
agreed version None o operation e known a = absurd (cc)
agreed version (Some q) None operation e known a =
    let parts = and_parts (not (is_call q)) (not (is_on_small version q)) a in
    inl (
      refl,
      subst (λ (k : Operation). is_call k ≡ false) (same_Some _ _ e) (not_true (is_call q) parts.0),
      subst (λ (k : Operation). is_on_small version k ≡ false) (same_Some _ _ e)
          (not_true (is_on_small version q) parts.1),
    )
agreed version (Some q) (Some (Known other)) operation e known a =
    let same : other ≡ operation = same_Some _ _ (sym (known other refl) ∙ e) in
    elim (either_so (is_call q) (is_on_small version q) a) [
      | inl call ↦ inr (inl (
        ap (λ (k : Operation). Some (Known k)) same,
        subst (λ (k : Operation). is_call k ≡ true) (same_Some _ _ e) call,
      ))
      | inr object ↦ inr (inr (
        ap (λ (k : Operation). Some (Known k)) same,
        subst (λ (k : Operation). is_call k ≡ false) (same_Some _ _ e) object.0,
        subst (λ (k : Operation). is_on_small version k ≡ true) (same_Some _ _ e) object.1,
      ))
    ]
agreed version (Some q) (Some (Older other)) operation e known a = absurd (true≢false (sym a))
agreed version (Some q) (Some SplitWindow) operation e known a = absurd (true≢false (sym a))
agreed version (Some q) (Some Missing) operation e known a = absurd (true≢false (sym a))

-- The table

-- so it is of all numbers below one
all_below : ℕ → (ℕ → Bool) → Bool
all_below zero f = true
all_below (suc n) f = f n && all_below n f

below_by : (n k : ℕ) (f : ℕ → Bool) → all_below n f ≡ true → k < n → f k ≡ true
unfolding all_below
below_by zero k f e lt = absurd (omega (arith, lt))
below_by (suc n) k f e lt =
    let parts = and_parts (f n) (all_below n f) e in
    elim (cases_eq k n) [
      | inl same ↦ subst (λ i. f i ≡ true) (sym same) parts.0
      | inr other ↦ below_by n k f parts.1 (omega (arith, lt, other))
    ]

-- an opcode is performed so, or is left
told_alike : StoryVersion → ℕ → Opcode → Bool
told_alike version from opcode =
    nat_lt version.number from || agrees version (profile_of opcode) (of_opcode version opcode)

Alike : StoryVersion → Opcode → Type 0
Alike version opcode = agrees version (profile_of opcode) (of_opcode version opcode) ≡ true

alike_is : (version : StoryVersion) (from : ℕ) (opcode : Opcode) → told_alike version from opcode ≡ true
    → nat_lt version.number from ≡ false → Alike version opcode
unfolding told_alike Alike
alike_is version from opcode e late =
    subst (λ b. (b || agrees version (profile_of opcode) (of_opcode version opcode)) ≡ true) late e

-- this is so of all opcodes of a version
record IsAlike (version : StoryVersion) : Type 0 where
  two : all_below 32 (λ number. told_alike version (two_operand_from number) (numbered Two number)) ≡ true
  one : all_below 16 (λ number. told_alike version (one_operand_from number) (numbered One number)) ≡ true
  none : all_below 16 (λ number. told_alike version (no_operand_from number) (numbered Zero number)) ≡ true
  several : all_below 32 (λ number. told_alike version (several_operand_from number) (numbered Several number)) ≡ true

abbrev version_of : ℕ → ℕ → ℕ → StoryVersion
version_of number routines texts = record { number = number; routine_offset = routines; text_offset = texts }

first_alike : (routines texts : ℕ) → IsAlike (version_of 1 routines texts)
unfolding all_below told_alike
first_alike routines texts = record { two = refl; one = refl; none = refl; several = refl }

second_alike : (routines texts : ℕ) → IsAlike (version_of 2 routines texts)
unfolding all_below told_alike
second_alike routines texts = record { two = refl; one = refl; none = refl; several = refl }

third_alike : (routines texts : ℕ) → IsAlike (version_of 3 routines texts)
unfolding all_below told_alike
third_alike routines texts = record { two = refl; one = refl; none = refl; several = refl }

fourth_alike : (routines texts : ℕ) → IsAlike (version_of 4 routines texts)
unfolding all_below told_alike
fourth_alike routines texts = record { two = refl; one = refl; none = refl; several = refl }

seventh_alike : (routines texts : ℕ) → IsAlike (version_of 7 routines texts)
unfolding all_below told_alike
seventh_alike routines texts = record { two = refl; one = refl; none = refl; several = refl }

-- First bytes

-- the opcode of a first byte, by its form
alike_by : (version : StoryVersion) (first : ℕ) (long short without two : Bool) → IsAlike version
    → nat_lt version.number
    (if long then two_operand_from (first % 32)
    else (if short then one_operand_from (first % 16)
    else (if without then no_operand_from (first % 16)
    else (if two then two_operand_from (first % 32)
    else several_operand_from (first % 32))))) ≡ false
    → Alike version
    (if long then numbered Two (first % 32)
    else (if short then numbered One (first % 16)
    else (if without then numbered Zero (first % 16)
    else (if two then numbered Two (first % 32)
    else numbered Several (first % 32)))))
alike_by version first true short without two all late =
    alike_is version (two_operand_from (first % 32)) (numbered Two (first % 32))
    (below_by 32 (first % 32) (λ number. told_alike version (two_operand_from number) (numbered Two number)) all.two
    (omega arith)) late
alike_by version first false true without two all late =
    alike_is version (one_operand_from (first % 16)) (numbered One (first % 16))
    (below_by 16 (first % 16) (λ number. told_alike version (one_operand_from number) (numbered One number)) all.one
    (omega arith)) late
alike_by version first false false true two all late =
    alike_is version (no_operand_from (first % 16)) (numbered Zero (first % 16))
    (below_by 16 (first % 16) (λ number. told_alike version (no_operand_from number) (numbered Zero number)) all.none
    (omega arith)) late
alike_by version first false false false true all late =
    alike_is version (two_operand_from (first % 32)) (numbered Two (first % 32))
    (below_by 32 (first % 32) (λ number. told_alike version (two_operand_from number) (numbered Two number)) all.two
    (omega arith)) late
alike_by version first false false false false all late =
    alike_is version (several_operand_from (first % 32)) (numbered Several (first % 32))
    (below_by 32 (first % 32) (λ number. told_alike version (several_operand_from number) (numbered Several number))
    all.several (omega arith)) late

-- byte 190 is that of extended opcodes
bytes_by : (version : StoryVersion) (first second : ℕ) (extended : Bool) → (first == 190) ≡ extended → IsAlike version
    → nat_lt version.number 8 ≡ true → nat_lt version.number (told_from first) ≡ false
    → Alike version (if extended then numbered Extended second else plain first)
unfolding told_from
bytes_by version first second true e all early late =
    let is : first ≡ 190 = eqb-true first 190 e in
    absurd (true≢false (sym early ∙ subst (λ n. nat_lt version.number (told_from n) ≡ false) is late))
bytes_by version first second false e all early late =
    alike_by version first (nat_lt first 128) (nat_lt first 176) (nat_lt first 192) (nat_lt first 224) all late

-- an instruction that is not left does what the version does
done_by : (version : StoryVersion) (memory : List ℕ) (at : ℕ) (x : Instruction × ℕ) → IsAlike version
    → nat_lt version.number 8 ≡ true → nat_lt version.number (told_from (slice_index memory at)) ≡ false
    → is_code memory at ≡ true → decode memory at ≡ Ok x → IsDoneAs version x.0.operation (older_at version memory at)
unfolding Alike
done_by version memory at x all early late code read =
    let second = slice_index memory (at + 1) in
    let opcode = opcode_of (slice_index memory at) second in
    let alike = bytes_by version (slice_index memory at) second (slice_index memory at == 190) refl all early late in
    subst (λ (b : Bool). IsDoneAs version x.0.operation (if b then of_opcode version opcode else None)) (sym code)
    (agreed version (profile_of opcode) (of_opcode version opcode) x.0.operation (decoded_profile memory at second x read)
    (λ other e. known_profile version opcode other e) alike)

-- Versions

played_cases : (number : ℕ) → is_played number ≡ true
    → ((1 ≤ number) × (number ≤ 5)) ⊎ ((7 ≤ number) × (number ≤ 8))
played_cases number e =
    elim (or_cases (nat_le 1 number && nat_le number 5) (nat_le 7 number && nat_le number 8) e) [
      | inl p ↦
          let parts = and_parts (nat_le 1 number) (nat_le number 5) p in
          inl (leb-true 1 number parts.0, leb-true number 5 parts.1)
      | inr p ↦
          let parts = and_parts (nat_le 7 number) (nat_le number 8) p in
          inr (leb-true 7 number parts.0, leb-true number 8 parts.1)
    ]

not_played : (number : ℕ) → is_played number ≡ true → (number ≡ 0) ⊎ ((number ≡ 6) ⊎ (9 ≤ number)) → ⊥
not_played number e (inl q) = elim (played_cases number e) [
  | inl p ↦ omega (arith, p.0, q)
  | inr p ↦ omega (arith, p.0, q)
]
not_played number e (inr (inl q)) = elim (played_cases number e) [
  | inl p ↦ omega (arith, p.1, q)
  | inr p ↦ omega (arith, p.0, q)
]
not_played number e (inr (inr q)) = elim (played_cases number e) [
  | inl p ↦ omega (arith, p.1, q)
  | inr p ↦ omega (arith, p.1, q)
]

by_number : (number routines texts : ℕ) (memory : List ℕ) (at : ℕ) (x : Instruction × ℕ) → is_played number ≡ true
    → is_late (version_of number routines texts) ≡ false
    → is_left (version_of number routines texts) (slice_index memory at) ≡ false → is_code memory at ≡ true
    → decode memory at ≡ Ok x
    → IsDoneAs (version_of number routines texts) x.0.operation (older_at (version_of number routines texts) memory at)
unfolding is_left
by_number zero routines texts memory at x e early late code read = absurd (not_played 0 e (inl refl))
by_number (suc zero) routines texts memory at x e early late code read =
    done_by (version_of 1 routines texts) memory at x (first_alike routines texts) refl late code read
by_number (suc (suc zero)) routines texts memory at x e early late code read =
    done_by (version_of 2 routines texts) memory at x (second_alike routines texts) refl late code read
by_number (suc (suc (suc zero))) routines texts memory at x e early late code read =
    done_by (version_of 3 routines texts) memory at x (third_alike routines texts) refl late code read
by_number (suc (suc (suc (suc zero)))) routines texts memory at x e early late code read =
    done_by (version_of 4 routines texts) memory at x (fourth_alike routines texts) refl late code read
by_number (suc (suc (suc (suc (suc zero))))) routines texts memory at x e early late code read =
    absurd (true≢false early)
by_number (suc (suc (suc (suc (suc (suc zero)))))) routines texts memory at x e early late code read =
    absurd (not_played 6 e (inr (inl refl)))
by_number (suc (suc (suc (suc (suc (suc (suc zero))))))) routines texts memory at x e early late code read =
    done_by (version_of 7 routines texts) memory at x (seventh_alike routines texts) refl late code read
by_number (suc (suc (suc (suc (suc (suc (suc (suc zero)))))))) routines texts memory at x e early late code read =
    absurd (true≢false early)
by_number (suc (suc (suc (suc (suc (suc (suc (suc (suc number))))))))) routines texts memory at x e early late code
    read =
    absurd (not_played (suc (suc (suc (suc (suc (suc (suc (suc (suc number))))))))) e (inr (inr (omega arith))))

-- Steps

-- what a step that goes on has decoded, and what it performed
record HasDone (version : StoryVersion) (code : Bool) (r : Result (Instruction × ℕ) Fault) (here next : Next)
    (s t : State) : Type 0 where
  is_there : code ≡ true
  x : Instruction × ℕ
  read : r ≡ Ok x
  performed : bound (operand_values x.0.operands s) (perform_in version x.0.operation here x.1 x.0.result x.0.branch)
      ≡ done next t

has_done : (version : StoryVersion) (code : Bool) (r : Result (Instruction × ℕ) Fault) (here next : Next) (s t : State)
    → (if code then execute_in version here r s else fault faults.Code s) ≡ done next t
    → HasDone version code r here next s t
has_done version true (Ok x) here next s t e = record { is_there = refl; x = x; read = refl; performed = e }
has_done version true (Err cause) here next s t e = absurd (cc)
has_done version false r here next s t e = absurd (cc)

-- values on which two performances agree
bound_alike : (o : Out (List ℕ)) (f g : List ℕ → State → Out Next) → ((values : List ℕ) → f values ≡ g values)
    → bound o f ≡ bound o g
bound_alike (done values s) f g same = ap (λ (k : State → Out Next). k s) (same values)
bound_alike (halt place s) f g same = refl

-- a step that units do in a version that has calls of its own: one of the profile that the version does too, or a call
pub flown_early : (story : Story) (here : Here) (next : Next) (s t : State) → is_played story.version.number ≡ true
    → is_late story.version ≡ false → flown story.version here.next s ≡ done next t
    → ((step here.next s ≡ done next t) × (older_at story.version s.memory here.next.program_counter ≡ None))
    ⊎ ((any_step story here s ≡ within here (done next t))
    × ((operation : Operation) × (older_at story.version s.memory here.next.program_counter ≡ Some (Known operation))))
unfolding step
flown_early story here next s t played early e =
    let version = story.version in
    let memory = s.memory in
    let at = here.next.program_counter in
    let p = has_done version (is_code memory at) (decode_for version memory at) here.next next s t
    (flown_silent version here.next next s t e).0 in
    let read = decoded_for version memory at p.x p.read in
    let operation = p.x.0.operation in
    elim (by_number version.number version.routine_offset version.text_offset memory at p.x played early
    (flown_goes_on version here.next next s t e) p.is_there read) [
      | inl other ↦ inl (
        ap (λ (b : Bool). if b then execute here.next (decode memory at) s else fault faults.Code s) p.is_there
            ∙ ap (λ r. execute here.next r s) read
            ∙ bound_alike (operand_values p.x.0.operands s)
            (perform operation here.next p.x.1 p.x.0.result p.x.0.branch)
            (perform_in version operation here.next p.x.1 p.x.0.result p.x.0.branch)
            (λ values. sym (performs_other version operation here.next p.x.1 p.x.0.result p.x.0.branch values other.1
            other.2))
            ∙ p.performed,
        other.0,
      )
      | inr (inl call) ↦ inr (
        calls_are_steps story here s p.x call.0 read call.1 (decoded_result memory at p.x read)
            ∙ ap (within here) (bound_alike (operand_values p.x.0.operands s)
            (λ values. call_older version here.next p.x.1 p.x.0.result (first values) (drop 1 values))
            (perform_in version operation here.next p.x.1 p.x.0.result p.x.0.branch)
            (λ values. sym (performs_older version operation here.next p.x.1 p.x.0.result p.x.0.branch values call.1
            early)) ∙ p.performed),
        (operation, call.0),
      )
      | inr (inr object) ↦ inr (
        objects_are_steps story here next s t p.x object.0 read
            (bound_alike (operand_values p.x.0.operands s)
            (perform_small operation here.next p.x.1 p.x.0.result p.x.0.branch)
            (perform_in version operation here.next p.x.1 p.x.0.result p.x.0.branch)
            (λ values. sym (performs_small version operation here.next p.x.1 p.x.0.result p.x.0.branch values object.1
            object.2)) ∙ p.performed),
        (operation, object.0),
      )
    ]

none_there : {A : Type 0} (code : Bool) (o : Option A) → o ≡ None → (if code then o else None) ≡ None
none_there true o e = e
none_there false o e = refl

late_none : {A : Type 0} (late : Bool) (o : Option A) → late ≡ true → (if late then None else o) ≡ None
late_none true o e = refl
late_none false o e = absurd (cc)

-- in versions 5 and 8 each is one of the profile, and no operation is performed otherwise
pub flown_late_elsewhere : (version : StoryVersion) (here next : Next) (s t : State) → is_late version ≡ true
    → flown version here s ≡ done next t
    → (step here s ≡ done next t) × (older_at version s.memory here.program_counter ≡ None)
flown_late_elsewhere version here next s t late e =
    let at = here.program_counter in (
      flown_steps version here next s t late e,
      none_there (is_code s.memory at)
          (of_opcode version (opcode_of (slice_index s.memory at) (slice_index s.memory (at + 1))))
          (late_none (is_late version) _ late),
    )
