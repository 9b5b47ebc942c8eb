-- What the machine decodes at an address, by the first byte there.
use Rattle.std.proofs.Common.{◌≡◌, ℕ, arith, true, false, Some, None, ◌%◌, ◌/◌, ◌≤◌, ◌+◌, ◌<◌, List, [], ◌∷◌, length}
use Rattle.std.proofs.Common.{refl, ◌≢◌, sym, ◌∙◌, ◌⊎◌, inl, inr, Option, Result, Ok, Err, Bool, cond, not, slice_index}
use Rattle.std.proofs.Common.{take}
use Rattle.std.specs.Prelude.{nat_lt, if◌then◌else◌}
use Rattle.std.proofs.lemmas.List.{length-take-le}
use Rattle.std.proofs.lemmas.Bool.{lt-ltb, le-ltb, ne_eqb, cases_lt}
use Rattle.zcore.specs.declared.instruction.Operation.{Operation}
use Rattle.zcore.specs.Operations.{row_of, two_operand, one_operand, no_operand, several_operand, has_more_types}
use Rattle.zcore.specs.Instruction.{byte, opcode, opcode_of, given_types, variable_types, variable_form}
use Rattle.ztext.specs.Results.{◌>>=◌}
use Rattle.zcore.specs.declared.operations.OpcodeRow.{OpcodeRow}
use Rattle.zcore.specs.declared.place.Fault.{Fault}
use Rattle.zcore.specs.declared.place.Fault.TheVariants as faults
use Rattle.zcore_standard.specs.Instruction.{types_at, row_types, counted}
use Rattle.zcore_standard.specs.Opcodes.{plain}
use Rattle.zcore_standard.specs.Operations.{profile_of}
use Rattle.survey.specs.declared.refusal.Refusal.{Refusal}
use Rattle.survey.specs.Refusals.{is_refused, is_said, takes, counted_at}

-- The first byte

pub past : (story : List ℕ) (at : ℕ) → length story ≤ at → false ≡ is_refused (opcode story at)
unfolding opcode byte
past story at le = rw (le-ltb at (length story) le) refl

pub extended : (story : List ℕ) (at : ℕ) → at < length story → slice_index story at ≡ 190
    → true ≡ is_refused (opcode story at)
unfolding opcode byte
extended story at lt e = rw (lt-ltb at (length story) lt, e) refl

long_decodes : (story : List ℕ) (at : ℕ) → at < length story → slice_index story at < 128
    → opcode story at ≡ opcode_of (two_operand (slice_index story at % 32))
    ((slice_index story at / 64 % 2 + 1) ∷ (slice_index story at / 32 % 2 + 1) ∷ []) (at + 1)
unfolding opcode byte
long_decodes story at lt long =
    rw (
      lt-ltb at (length story) lt,
      ne_eqb (slice_index story at) 190 (λ q. omega arith),
      lt-ltb (slice_index story at) 128 long,
    ) refl

one_decodes : (story : List ℕ) (at : ℕ) → at < length story → 128 ≤ slice_index story at → slice_index story at < 176
    → opcode story at ≡ opcode_of (one_operand (slice_index story at % 16)) ((slice_index story at / 16 % 4) ∷ []) (at + 1)
unfolding opcode byte
one_decodes story at lt from to =
    rw (
      lt-ltb at (length story) lt,
      ne_eqb (slice_index story at) 190 (λ q. omega arith),
      le-ltb (slice_index story at) 128 from,
      lt-ltb (slice_index story at) 192 (omega arith),
      ne_eqb (slice_index story at / 16 % 4) 3 (λ q. omega arith),
    ) refl

none_decodes : (story : List ℕ) (at : ℕ) → at < length story → (slice_index story at ≡ 190 → ⊥)
    → 176 ≤ slice_index story at → slice_index story at < 192
    → opcode story at ≡ opcode_of (no_operand (slice_index story at % 16)) [] (at + 1)
unfolding opcode byte
none_decodes story at lt plain from to =
    let given : slice_index story at / 16 % 4 ≡ 3 = omega arith in
    rw (
      lt-ltb at (length story) lt,
      ne_eqb (slice_index story at) 190 plain,
      le-ltb (slice_index story at) 128 (omega arith),
      lt-ltb (slice_index story at) 192 to,
      given,
    ) refl

variable_decodes : (story : List ℕ) (at : ℕ) → at < length story → 192 ≤ slice_index story at
    → opcode story at ≡ variable_form story (slice_index story at) (at + 1)
unfolding opcode byte
variable_decodes story at lt from =
    rw (
      lt-ltb at (length story) lt,
      ne_eqb (slice_index story at) 190 (λ q. omega arith),
      le-ltb (slice_index story at) 128 (omega arith),
      le-ltb (slice_index story at) 192 from,
    ) refl

-- The operation that it stands for

long_plain : (first : ℕ) → first < 128 → profile_of (plain first) ≡ two_operand (first % 32)
long_plain first lt = rw (lt-ltb first 128 lt) refl

one_plain : (first : ℕ) → 128 ≤ first → first < 176 → profile_of (plain first) ≡ one_operand (first % 16)
one_plain first from to = rw (le-ltb first 128 from, lt-ltb first 176 to) refl

none_plain : (first : ℕ) → 176 ≤ first → first < 192 → profile_of (plain first) ≡ no_operand (first % 16)
none_plain first from to = rw (le-ltb first 128 (omega arith), le-ltb first 176 from, lt-ltb first 192 to) refl

abbrev variable_operation : ℕ → Option Operation
variable_operation first = if nat_lt first 224 then two_operand (first % 32) else several_operand (first % 32)

variable_plain_by : (first : ℕ) → (first < 224) ⊎ (224 ≤ first) → 192 ≤ first
    → profile_of (plain first) ≡ variable_operation first
variable_plain_by first (inl lt) from = rw (
  le-ltb first 128 (omega arith),
  le-ltb first 176 (omega arith),
  le-ltb first 192 from,
  lt-ltb first 224 lt,
) refl
variable_plain_by first (inr le) from = rw (
  le-ltb first 128 (omega arith),
  le-ltb first 176 (omega arith),
  le-ltb first 192 from,
  le-ltb first 224 le,
) refl

variable_plain : (first : ℕ) → 192 ≤ first → profile_of (plain first) ≡ variable_operation first
variable_plain first from = variable_plain_by first (cases_lt first 224) from

-- An opcode outside the profile

unknown_by : (story : List ℕ) (at : ℕ) → at < length story → (slice_index story at ≡ 190 → ⊥)
    → None ≡ profile_of (plain (slice_index story at))
    → (slice_index story at < 128) ⊎ (128 ≤ slice_index story at)
    → (slice_index story at < 176) ⊎ (176 ≤ slice_index story at)
    → (slice_index story at < 192) ⊎ (192 ≤ slice_index story at)
    → true ≡ is_refused (opcode story at)
unknown_by story at lt plain e (inl a) b c =
    rw (long_decodes story at lt a, sym (e ∙ long_plain (slice_index story at) a)) refl
unknown_by story at lt plain e (inr a) (inl b) c =
    rw (one_decodes story at lt a b, sym (e ∙ one_plain (slice_index story at) a b)) refl
unknown_by story at lt plain e (inr a) (inr b) (inl c) =
    rw (none_decodes story at lt plain b c, sym (e ∙ none_plain (slice_index story at) b c)) refl
unknown_by story at lt plain e (inr a) (inr b) (inr c) =
    rw (variable_decodes story at lt c, sym (e ∙ variable_plain (slice_index story at) c)) refl

pub unknown : (story : List ℕ) (at : ℕ) → at < length story → (slice_index story at ≡ 190 → ⊥)
    → None ≡ profile_of (plain (slice_index story at)) → true ≡ is_refused (opcode story at)
unknown story at lt plain e = unknown_by story at lt plain e (cases_lt (slice_index story at) 128)
    (cases_lt (slice_index story at) 176) (cases_lt (slice_index story at) 192)

-- An opcode of the profile

-- the profile's decoding and that by a row refuse a number of operands alike
both_refused : {X Y : Type 0} (b : Bool) (x : X) (y : Y)
    → is_refused (cond b (Ok x) (Err faults.Opcode)) ≡ is_refused (cond b (Ok y) (Err faults.Opcode))
both_refused true x y = refl
both_refused false x y = refl

counts_alike : (operation : Operation) (types : List ℕ) (at place : ℕ)
    → is_refused (opcode_of (Some operation) types at) ≡ is_refused (counted (row_of operation) (types, place))
counts_alike operation types at place = both_refused (takes (row_of operation) (length types)) _ _

given_alike : (operation : Operation) (given : Result (List ℕ) Fault) (at : ℕ)
    → is_refused (given >>= λ kept. opcode_of (Some operation) kept at)
    ≡ is_refused ((given >>= λ kept. Ok (kept, at)) >>= λ types. counted (row_of operation) types)
given_alike operation (Ok kept) at = counts_alike operation kept at at
given_alike operation (Err fault) at = refl

typed_alike : (operation : Operation) (types : Result (List ℕ × ℕ) Fault)
    → is_refused (types >>= λ x. given_types x.0 >>= λ kept. opcode_of (Some operation) kept x.1)
    ≡ is_refused ((types >>= λ x. given_types x.0 >>= λ given. Ok (given, x.1))
    >>= λ x. counted (row_of operation) x)
typed_alike operation (Ok types) = given_alike operation (given_types types.0) types.1
typed_alike operation (Err fault) = refl

-- what is decoded is refused exactly if the operands are not as the row says
abbrev AreAlike : List ℕ → ℕ → Operation → Type 0
AreAlike story at operation = is_refused (opcode story at) ≡ is_refused (counted_at story at (row_of operation))

known_by : (story : List ℕ) (at : ℕ) (operation : Operation) → at < length story → (slice_index story at ≡ 190 → ⊥)
    → Some operation ≡ profile_of (plain (slice_index story at))
    → (slice_index story at < 128) ⊎ (128 ≤ slice_index story at)
    → (slice_index story at < 176) ⊎ (176 ≤ slice_index story at)
    → (slice_index story at < 192) ⊎ (192 ≤ slice_index story at) → AreAlike story at operation
unfolding types_at
known_by story at operation lt other e (inl a) b c =
    let first = slice_index story at in
    rw (
      long_decodes story at lt a,
      sym (e ∙ long_plain first a),
      ne_eqb first 190 (λ q. omega arith),
      lt-ltb first 128 a,
    ) (counts_alike operation ((first / 64 % 2 + 1) ∷ (first / 32 % 2 + 1) ∷ []) (at + 1) (at + 1))
known_by story at operation lt other e (inr a) (inl b) c =
    let first = slice_index story at in
    rw (
      one_decodes story at lt a b,
      sym (e ∙ one_plain first a b),
      ne_eqb first 190 (λ q. omega arith),
      le-ltb first 128 a,
      lt-ltb first 192 (omega arith),
      ne_eqb (first / 16 % 4) 3 (λ q. omega arith),
    ) (counts_alike operation ((first / 16 % 4) ∷ []) (at + 1) (at + 1))
known_by story at operation lt other e (inr a) (inr b) (inl c) =
    let first = slice_index story at in
    let given : first / 16 % 4 ≡ 3 = omega arith in
    rw (
      none_decodes story at lt other b c,
      sym (e ∙ none_plain first b c),
      ne_eqb first 190 other,
      le-ltb first 128 a,
      lt-ltb first 192 c,
      given,
    ) (counts_alike operation [] (at + 1) (at + 1))
known_by story at operation lt other e (inr a) (inr b) (inr c) =
    let first = slice_index story at in
    rw (
      variable_decodes story at lt c,
      sym (e ∙ variable_plain first c),
      ne_eqb first 190 other,
      le-ltb first 128 a,
      le-ltb first 192 c,
    ) (typed_alike operation (variable_types story (has_more_types operation) (at + 1)))

pub known : (story : List ℕ) (at : ℕ) (operation : Operation) → at < length story → (slice_index story at ≡ 190 → ⊥)
    → Some operation ≡ profile_of (plain (slice_index story at)) → AreAlike story at operation
known story at operation lt other e = known_by story at operation lt other e (cases_lt (slice_index story at) 128)
    (cases_lt (slice_index story at) 176) (cases_lt (slice_index story at) 192)
