-- The instruction of an opcode by its row, part by part.
use Rattle.std.proofs.Common.{◌≡◌, ◌<◌, ◌≤◌, ◌⊎◌, inl, inr, ℕ, Bool, true, false, List, length, take, refl, ap, sym}
use Rattle.std.proofs.Common.{◌∙◌, Option, Result, Ok, Err}
use Rattle.std.specs.Prelude.{◌&&◌}
use Rattle.std.proofs.lemmas.Bool.{le-leb, lt-leb}
use Rattle.std.proofs.lemmas.List.{length-take-le}
use Rattle.ztext.specs.Results.{◌>>=◌}
use Rattle.zcore.specs.declared.instruction.Branch.{Branch}
use Rattle.zcore.specs.declared.instruction.Operand.{Operand}
use Rattle.zcore.specs.declared.operations.OpcodeRow.{OpcodeRow}
use Rattle.zcore.specs.declared.place.Fault.{Fault}
use Rattle.zcore.specs.declared.place.Fault.TheVariants as faults
use Rattle.zcore.specs.Instruction.{operands}
use Rattle.zcore_standard.specs.Instruction.{Instruction, row_types, counted, result_at, branch_after, decode_row}
use Rattle.zcore_standard.specs.Endings.{ends}

-- an instruction with what follows its operands
abbrev pub with_ending : List Operand → Option ℕ × Option Branch × ℕ → Instruction × ℕ
with_ending os e = (record { operands = os; result = e.0; branch = e.1 }, e.2)

branch_split : (os : List Operand) (into : Option ℕ) (r : Result (Option Branch × ℕ) Fault)
    → (r >>= λ to. Ok (with_ending os (into, to.0, to.1)))
    ≡ ((r >>= λ to. Ok (into, to.0, to.1)) >>= λ e. Ok (with_ending os e))
branch_split os into (Ok to) = refl
branch_split os into (Err cause) = refl

ends_split : (os : List Operand) (r : Result (Option ℕ × ℕ) Fault) (f : ℕ → Result (Option Branch × ℕ) Fault)
    → (r >>= λ into. f into.1 >>= λ to. Ok (with_ending os (into.0, to.0, to.1)))
    ≡ ((r >>= λ into. f into.1 >>= λ to. Ok (into.0, to.0, to.1)) >>= λ e. Ok (with_ending os e))
ends_split os (Ok into) f = branch_split os into.0 (f into.1)
ends_split os (Err cause) f = refl

counted_ok : (row : OpcodeRow) (types : List ℕ) (count after : ℕ) → count ≤ length types
    → row.least_operands ≤ count → count ≤ row.most_operands
    → counted row (take count types, after) ≡ Ok (take count types, after)
counted_ok row types count after le least most =
    let long : length (take count types) ≡ count = length-take-le count types le in
    rw (long, le-leb row.least_operands count least, le-leb count row.most_operands most) refl

pub decoded_types : (memory : List ℕ) (at : ℕ) (row : OpcodeRow) (e : Fault)
    → Err e ≡ row_types memory at row → Err e ≡ decode_row memory at row
unfolding decode_row
decoded_types memory at row e h = rw (sym h) refl

and_false : (a b : Bool) → b ≡ false → (a && b) ≡ false
and_false true b e = e
and_false false b e = refl

pub decoded_counted : (memory : List ℕ) (at : ℕ) (row : OpcodeRow) (types : List ℕ) (count after : ℕ)
    → count ≤ length types → (count < row.least_operands) ⊎ (row.most_operands < count)
    → Ok (take count types, after) ≡ row_types memory at row → Err faults.Opcode ≡ decode_row memory at row
unfolding decode_row
decoded_counted memory at row types count after le wrong h =
    let long : length (take count types) ≡ count = length-take-le count types le in
    elim wrong [
      | inl few ↦ rw (sym h, long, lt-leb row.least_operands count few) refl
      | inr many ↦ rw (sym h, long, and_false _ _ (lt-leb count row.most_operands many)) refl
    ]

-- the types of the operands, of which there are as many as the row says
pub record Typed (memory : List ℕ) (at : ℕ) (row : OpcodeRow) (types : List ℕ) (count after : ℕ) : Type 0 where
  pub few : count ≤ length types
  pub least : row.least_operands ≤ count
  pub most : count ≤ row.most_operands
  pub types_are : Ok (take count types, after) ≡ row_types memory at row

each_given : (g : Result (List Operand × ℕ) Fault) (r : ℕ → Result (Option ℕ × ℕ) Fault)
    (f : ℕ → Result (Option Branch × ℕ) Fault)
    → (g >>= λ given. r given.1 >>= λ into. f into.1 >>= λ to. Ok (with_ending given.0 (into.0, to.0, to.1)))
    ≡ (g >>= λ given. ((r given.1 >>= λ into. f into.1 >>= λ to. Ok (into.0, to.0, to.1))
    >>= λ e. Ok (with_ending given.0 e)))
each_given (Ok given) r f = ends_split given.0 (r given.1) f
each_given (Err cause) r f = refl

decoded_from : (memory : List ℕ) (at : ℕ) (row : OpcodeRow) (types : List ℕ) (count after : ℕ)
    → Typed memory at row types count after
    → decode_row memory at row
    ≡ (operands memory (take count types) after >>= λ given.
    (ends memory row given.1 >>= λ e. Ok (with_ending given.0 e)))
unfolding decode_row
decoded_from memory at row types count after t =
    let counting = counted_ok row types count after t.few t.least t.most in
    rw (sym t.types_are, counting)
    (each_given (operands memory (take count types) after)
    (λ n. result_at memory row.has_result n) (λ n. branch_after memory row.has_branch n))

pub decoded_operands : (memory : List ℕ) (at : ℕ) (row : OpcodeRow) (types : List ℕ)
    (count after : ℕ) (e : Fault) → Typed memory at row types count after
    → Err e ≡ operands memory (take count types) after → Err e ≡ decode_row memory at row
decoded_operands memory at row types count after e t o =
    sym (decoded_from memory at row types count after t
    ∙ ap (λ (x : Result (List Operand × ℕ) Fault). x >>= λ given. (ends memory row given.1
    >>= λ e. Ok (with_ending given.0 e))) (sym o))

pub decoded_ending : (memory : List ℕ) (at : ℕ) (row : OpcodeRow) (types : List ℕ)
    (count after behind : ℕ) (os : List Operand) (e : Fault) → Typed memory at row types count after
    → Ok (os, behind) ≡ operands memory (take count types) after → Err e ≡ ends memory row behind
    → Err e ≡ decode_row memory at row
decoded_ending memory at row types count after behind os e t o r =
    sym (decoded_from memory at row types count after t
    ∙ ap (λ (x : Result (List Operand × ℕ) Fault). x >>= λ given. (ends memory row given.1
    >>= λ e. Ok (with_ending given.0 e))) (sym o)
    ∙ ap (λ (x : Result (Option ℕ × Option Branch × ℕ) Fault). x >>= λ e. Ok (with_ending os e)) (sym r))

pub decoded_whole : (memory : List ℕ) (at : ℕ) (row : OpcodeRow) (types : List ℕ)
    (count after behind last : ℕ) (os : List Operand) (into : Option ℕ) (to : Option Branch)
    → Typed memory at row types count after
    → Ok (os, behind) ≡ operands memory (take count types) after → Ok (into, to, last) ≡ ends memory row behind
    → Ok (record { operands = os; result = into; branch = to }, last) ≡ decode_row memory at row
decoded_whole memory at row types count after behind last os into to t o r =
    sym (decoded_from memory at row types count after t
    ∙ ap (λ (x : Result (List Operand × ℕ) Fault). x >>= λ given. (ends memory row given.1
    >>= λ e. Ok (with_ending given.0 e))) (sym o)
    ∙ ap (λ (x : Result (Option ℕ × Option Branch × ℕ) Fault). x >>= λ e. Ok (with_ending os e)) (sym r))
