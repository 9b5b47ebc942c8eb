-- The value that `set_text_style` is given: read in place it is what the machine takes.
use Rattle.std.proofs.Common.{◌≡◌, ◌∙◌, ◌<◌, ◌≤◌, ℕ, zero, suc, Bool, true, false, List, [], ◌∷◌, length, take, get_or, ap, sym, refl}
use Rattle.std.proofs.Common.{Option, Some, None, Result, Ok, Err, arith}
use Rattle.std.specs.Prelude.{◌==◌, ◌-◌, if◌then◌else◌, nat_lt, IfOk}
use Rattle.zcore.specs.declared.instruction.Operand.{Operand}
use Rattle.zcore.specs.declared.instruction.Operand.TheVariants.{Large, Small, Variable}
use Rattle.zcore.specs.declared.operations.OpcodeRow.{OpcodeRow}
use Rattle.zcore.specs.declared.place.Fault.{Fault}
use Rattle.zcore.specs.declared.place.Fault.TheVariants as faults
use Rattle.zcore.specs.declared.place.Place.{Place}
use Rattle.zcore.specs.Parts.{fault, operand_value, pop, popped, read_global, read_in_place, read_local, read_variable, top_of}
use Rattle.zcore.specs.State.{Frame, Out, State, done, halt}
use Rattle.zcore.specs.Turn.{after_step}
use Rattle.zcore_standard.specs.declared.operations.OlderOperation.TheVariants as older
use Rattle.zcore_standard.specs.declared.operations.StandardOperation.{StandardOperation}
use Rattle.zcore_standard.specs.declared.operations.StandardOperation.TheVariants.{SetTextStyle}
use Rattle.zcore_standard.specs.Instruction.{Instruction, decode_row}
use Rattle.zcore_standard.specs.Operations.{row_of}
use Rattle.zcore_standard.specs.Rows.{with_row}
use Rattle.zcore_versions.specs.declared.operations.VersionOperation.{VersionOperation}
use Rattle.zcore_versions.specs.declared.operations.VersionOperation.TheVariants as versions
use Rattle.machine_picture.specs.Picture.{by_name}
use Rattle.machine_picture.specs.Styles.{first_value}

-- Which operation

-- no older operation has this name
pub further_named : (o : Option VersionOperation) (further : Option StandardOperation)
    → by_name o further ≡ Some SetTextStyle → further ≡ Some SetTextStyle
further_named None further e = e
further_named (Some (versions.Known operation)) further e = absurd (cc)
further_named (Some (versions.Older older.Not)) further e = absurd (cc)
further_named (Some (versions.Older older.Pop)) further e = absurd (cc)
further_named (Some (versions.Older older.Save)) further e = absurd (cc)
further_named (Some (versions.Older older.Restore)) further e = absurd (cc)
further_named (Some (versions.Older older.Read)) further e = absurd (cc)
further_named (Some versions.SplitWindow) further e = absurd (cc)
further_named (Some versions.Missing) further e = absurd (cc)

same_pair : (x y : StandardOperation × OpcodeRow) → Some x ≡ Some y → x ≡ y
same_pair x y e = cc

pub row_found : (o : Option StandardOperation) (operation : StandardOperation) (row : OpcodeRow)
    → Some (operation, row) ≡ with_row o → o ≡ Some SetTextStyle → row ≡ row_of SetTextStyle
row_found o operation row e is =
    ap (λ x. x.1) (same_pair (operation, row) (SetTextStyle, row_of SetTextStyle) (e ∙ ap with_row is))

pub none_found : (o : Option StandardOperation) → None ≡ with_row o → o ≡ Some SetTextStyle → ⊥
none_found None e is = absurd (cc)
none_found (Some operation) e is = absurd (cc)

-- the instruction that is read is the one of the definition
pub row_decoded : (read memory : List ℕ) (at : ℕ) (row : OpcodeRow) (d : Result (Instruction × ℕ) Fault)
    → d ≡ decode_row read at row → read ≡ memory → row ≡ row_of SetTextStyle → d ≡ decode_row memory at (row_of SetTextStyle)
row_decoded read memory at row d e is by =
    e ∙ ap (λ (l : List ℕ). decode_row l at row) is ∙ ap (decode_row memory at) by

-- Its operand

pub some_operand : (row : OpcodeRow) (count : ℕ) → row ≡ row_of SetTextStyle → row.least_operands ≤ count → 0 < count
some_operand row count e least =
    let one : row.least_operands ≡ 1 = ap (λ (r : OpcodeRow). r.least_operands) e in
    omega (arith, one, least)

-- what is known of a value by one name is known by another
pub value_named : {E : Type 0} (result : Result ℕ E) (f g : List ℕ → ℕ) → ((text : List ℕ) → f text ≡ g text)
    → IfOk result (λ value. (text : List ℕ) → value ≡ f text) → IfOk result (λ value. (text : List ℕ) → value ≡ g text)
value_named (Ok value) f g same h = λ text. h text ∙ same text
value_named (Err e) f g same h = tt

pub first_taken : (s : State) (count : ℕ) (operands : List Operand) (other : Operand) → 0 < count → 0 < length operands
    → first_value s (get_or operands 0 other ∷ []) ≡ first_value s (take count operands)
first_taken s zero operands other some more = absurd (omega (arith, some))
first_taken s (suc count) [] other some more = absurd (omega (arith, more))
first_taken s (suc count) (operand ∷ operands) other some more = refl

-- the value of an operand, by what reading it comes to
abbrev value_taken : Out ℕ → ℕ
value_taken o = after_step o (λ value t. value) (λ place t. 0)

pub large_value : (s : State) (n : ℕ) → n ≡ first_value s (Large n ∷ [])
unfolding operand_value
large_value s n = refl

pub small_value : (s : State) (n : ℕ) → n ≡ first_value s (Small n ∷ [])
unfolding operand_value
small_value s n = refl

top_or_popped : (b : Bool) (s : State) (f : Frame) (fs : List Frame) (word : ℕ) (t : State)
    → value_taken (if b then fault faults.StackEmpty s else done word s)
    ≡ value_taken (if b then fault faults.StackEmpty s else done word t)
top_or_popped true s f fs word t = refl
top_or_popped false s f fs word t = refl

top_as_popped : (s : State) (frames : List Frame) → value_taken (top_of s frames) ≡ value_taken (popped s frames)
top_as_popped s [] = refl
top_as_popped s (f ∷ fs) = top_or_popped (length f.stack == 0) s f fs _ _

in_place_by : (b : Bool) (s : State) (other : State → Out ℕ)
    → value_taken ((if b then (λ (t : State). top_of t t.frames) else (if b then pop else other)) s)
    ≡ value_taken ((if b then pop else other) s)
unfolding pop
in_place_by true s other = top_as_popped s s.frames
in_place_by false s other = refl

in_place : (variable : ℕ) (s : State) → value_taken (read_in_place variable s) ≡ first_value s (Variable variable ∷ [])
unfolding read_in_place read_variable operand_value
in_place variable s =
    in_place_by (variable == 0) s (if nat_lt variable 16 then read_local (variable - 1) else read_global variable)

pub variable_value : (variable : ℕ) (s t : State) (word : ℕ) → read_in_place variable s ≡ done word t
    → word ≡ first_value s (Variable variable ∷ [])
variable_value variable s t word e = sym (ap value_taken e) ∙ in_place variable s

pub no_value : (variable : ℕ) (s t : State) (place : Place) → read_in_place variable s ≡ halt place t
    → 0 ≡ first_value s (Variable variable ∷ [])
no_value variable s t place e = sym (ap value_taken e) ∙ in_place variable s
