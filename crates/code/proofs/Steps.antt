-- Runs of steps, and what is common to the steps of single instructions.
use Rattle.std.proofs.Common.{◌≡◌, ℕ, zero, suc, ◌+◌, ◌-◌, ◌<◌, ◌≤◌, List, [], ◌∷◌, length, Some, Bool, true, false, Ok}
use Rattle.std.proofs.Common.{refl, ap, ◌∙◌, arith}
use Rattle.std.specs.Prelude.{nat_lt, nat_le, nat_eq}
use Rattle.std.specs.List.{All, flat_map}
use Rattle.std.proofs.lemmas.Bool.{lt-ltb, le-leb, ne_eqb}
use Rattle.zcore.specs.declared.instruction.Operand.{Operand}
use Rattle.zcore.specs.declared.instruction.Operand.TheVariants.{Large, Small, Variable}
use Rattle.zcore.specs.declared.next.Next.{Next}
use Rattle.zcore.specs.Instruction.{Instruction}
use Rattle.zcore.specs.InstructionBytes.{bytes_of, IsEncodable, FitsOperand}
use Rattle.zcore.specs.State.{State, done, bound}
use Rattle.zcore.specs.State as state
use Rattle.zcore.specs.Parts.{read_variable, write_variable, read_in_place, write_in_place, test_variable}
use Rattle.zcore.specs.Parts.{operand_value, operand_values, test_result, store_result, test_target, go, take_branch}
use Rattle.zcore.specs.Parts.{branch_on}
use Rattle.zcore.specs.Execution.{give_result, perform, execute, step}
use Rattle.zcore.proofs.Encoding.{decode_bytes}
use Rattle.zcore.proofs.Ahead.{decode_ahead}
use Rattle.code_drafts.specs.Instructions.{top}
use Rattle.code.proofs.Behind.{Holds, holds_append}
use Rattle.code.proofs.Play.{Leads, stays, moves}
use Rattle.code.proofs.Parts.{room_is, Around, machine as at_words, pushes, pops, Writes, ReadsVariable}

-- a point of a turn
abbrev pub point : ℕ → ℕ → Next
point place fuel = record { program_counter = place; fuel = fuel }

-- Runs of steps

pub leads_then : (here mid next : Next) (s t u : State) → Leads here s mid t → Leads mid t next u
    → Leads here s next u
leads_then here mid next s t u (stays h x) l = l
leads_then here mid next s t u (moves h m n x y z e rest) l =
    moves h m next x y u e (leads_then m mid next y t u rest l)

pub one_step : (here next : Next) (s t : State) → step here s ≡ done next t → Leads here s next t
one_step here next s t e = moves here next next s t t e (stays next t)

-- Instructions that stand one after another

pub first_held : (memory : List ℕ) (q : ℕ) (i : Instruction) (is : List Instruction)
    → Holds memory q (flat_map bytes_of (i ∷ is)) → Holds memory q (bytes_of i)
first_held memory q i is h = (holds_append memory q (bytes_of i) (flat_map bytes_of is) h).0

pub others_held : (memory : List ℕ) (q : ℕ) (i : Instruction) (is : List Instruction)
    → Holds memory q (flat_map bytes_of (i ∷ is)) → Holds memory (q + length (bytes_of i)) (flat_map bytes_of is)
others_held memory q i is h = (holds_append memory q (bytes_of i) (flat_map bytes_of is) h).1

-- An instruction that stands at the program counter is the step that is made

pub step_at : (here : Next) (s : State) (i : Instruction) → IsEncodable i
    → Holds s.memory here.program_counter (bytes_of i)
    → step here s ≡ execute here (Ok (i, here.program_counter + length (bytes_of i))) s
unfolding step
step_at here s i fits h =
    let above : nat_le 64 here.program_counter ≡ true = le-leb _ _ h.0 in
    let ahead = decode_ahead s.memory here.program_counter (i, here.program_counter + length (bytes_of i))
    (decode_bytes s.memory here.program_counter i fits h.1) in
    let within : nat_lt here.program_counter (length s.memory) ≡ true = lt-ltb _ _ ahead.1 in
    rw (above, within) (ap (λ r. execute here r s) (decode_bytes s.memory here.program_counter i fits h.1))

-- and where its operands have values, it does what its operation does with them
pub step_is : (here : Next) (s t : State) (i : Instruction) (values : List ℕ) → IsEncodable i
    → Holds s.memory here.program_counter (bytes_of i) → operand_values i.operands s ≡ done values t
    → step here s ≡ perform i.operation here (here.program_counter + length (bytes_of i)) i.result i.branch values t
step_is here s t i values fits h v =
    step_at here s i fits h
    ∙ ap (λ r. bound r (perform i.operation here (here.program_counter + length (bytes_of i)) i.result i.branch)) v

-- Operands that can be written

pub fits_none : All FitsOperand []
fits_none k d h = absurd (omega (arith, h))

pub fits_more : (o : Operand) (os : List Operand) → FitsOperand o → All FitsOperand os → All FitsOperand (o ∷ os)
fits_more o os f fs zero d h = f
fits_more o os f fs (suc k) d h = fs k d (omega (arith, h))

pub fits_one : (o : Operand) → FitsOperand o → All FitsOperand (o ∷ [])
fits_one o f = fits_more o [] f fits_none

pub fits_two : (o o1 : Operand) → FitsOperand o → FitsOperand o1 → All FitsOperand (o ∷ o1 ∷ [])
fits_two o o1 f f1 = fits_more o (o1 ∷ []) f (fits_one o1 f1)

-- Operands

pub no_operand : (s : State) → operand_values [] s ≡ done [] s
unfolding operand_values
no_operand s = refl

pub one_operand : (s t : State) (o : Operand) (x : ℕ) → operand_value o s ≡ done x t
    → operand_values (o ∷ []) s ≡ done (x ∷ []) t
unfolding operand_values
one_operand s t o x e = rw e refl

pub two_operands : (s t u : State) (o o1 : Operand) (x y : ℕ) → operand_value o s ≡ done x t
    → operand_value o1 t ≡ done y u → operand_values (o ∷ o1 ∷ []) s ≡ done (x ∷ y ∷ []) u
unfolding operand_values
two_operands s t u o o1 x y e e1 = rw (e, e1) refl

pub three_operands : (s t u v : State) (o o1 o2 : Operand) (x y z : ℕ) → operand_value o s ≡ done x t
    → operand_value o1 t ≡ done y u → operand_value o2 u ≡ done z v
    → operand_values (o ∷ o1 ∷ o2 ∷ []) s ≡ done (x ∷ y ∷ z ∷ []) v
unfolding operand_values
three_operands s t u v o o1 o2 x y z e e1 e2 = rw (e, e1, e2) refl

pub small_value : (s : State) (n : ℕ) → operand_value (Small n) s ≡ done n s
unfolding operand_value
small_value s n = refl

pub large_value : (s : State) (n : ℕ) → operand_value (Large n) s ≡ done n s
unfolding operand_value
large_value s n = refl

pub top_value : (e : Around) (m l s t : List ℕ) (x : ℕ)
    → operand_value top (at_words e m l (x ∷ s) t) ≡ done x (at_words e m l s t)
unfolding operand_value read_variable
top_value e m l s t x = pops e m l t s x

pub variable_value : (e : Around) (m l s t : List ℕ) (v x : ℕ) → ReadsVariable e m l v x
    → operand_value (Variable v) (at_words e m l s t) ≡ done x (at_words e m l s t)
unfolding operand_value
variable_value e m l s t v x r = r.value s t

-- a variable from 1 on is the same in place
pub reads_in_place : (e : Around) (m l s t : List ℕ) (v x : ℕ) → ReadsVariable e m l v x
    → read_in_place v (at_words e m l s t) ≡ done x (at_words e m l s t)
unfolding read_in_place
reads_in_place e m l s t v x r =
    let a : nat_eq v 0 ≡ false = ne_eqb _ _ (λ h. omega (arith, h, r.named)) in
    rw a (r.value s t)

pub writes_in_place : (e : Around) (m l s t m1 l1 : List ℕ) (v x : ℕ) → Writes e m l v x m1 l1
    → write_in_place v x (at_words e m l s t) ≡ done tt (at_words e m1 l1 s t)
unfolding write_in_place
writes_in_place e m l s t m1 l1 v x r =
    let a : nat_eq v 0 ≡ false = ne_eqb _ _ (λ h. omega (arith, h, r.named)) in
    rw a (r.done_so s t)

pub named_variable : (s : State) (v : ℕ) → v < 256 → test_variable v s ≡ done tt s
unfolding test_variable
named_variable s v small = let a : nat_lt v 256 ≡ true = lt-ltb _ _ small in rw a refl

-- Results

-- a result is pushed
pub gives_top : (here : Next) (after w : ℕ) (e : Around) (m l s t : List ℕ)
    → length l + length s + state.words e.others < 65536
    → give_result here after (Some 0) w (at_words e m l s t) ≡ done (point after here.fuel) (at_words e m l (w ∷ s) t)
unfolding give_result test_result store_result write_variable
gives_top here after w e m l s t room =
    let a = room_is e m l t s room in
    rw (a, pushes e m l t s w room) refl

-- a result goes to a variable
pub gives_variable : (here : Next) (after v w : ℕ) (e : Around) (m l s t m1 l1 : List ℕ) → Writes e m l v w m1 l1
    → give_result here after (Some v) w (at_words e m l s t) ≡ done (point after here.fuel) (at_words e m1 l1 s t)
unfolding give_result test_result store_result
gives_variable here after v w e m l s t m1 l1 r =
    let a : nat_eq v 0 ≡ false = ne_eqb _ _ (λ h. omega (arith, h, r.named)) in
    rw (a, r.can, r.done_so s t) refl

-- Where a branch of offset 2 + d leads, which asks for a condition
abbrev pub landing : Bool → Bool → ℕ → ℕ → ℕ
landing true true after d = after + d
landing true false after d = after
landing false true after d = after
landing false false after d = after + d

takes : (here : Next) (after d : ℕ) (s : State) → d < 8190 → here.program_counter < after → 64 ≤ after
    → after + d < length s.memory
    → take_branch here after (2 + d) s ≡ done (point (after + d) here.fuel) s
unfolding take_branch test_target go
takes here after d s near ahead above within =
    let a : nat_eq (2 + d) 0 ≡ false = ne_eqb _ _ (λ h. omega (arith, h)) in
    let b : nat_eq (2 + d) 1 ≡ false = ne_eqb _ _ (λ h. omega (arith, h)) in
    let c : nat_lt (2 + d) 8192 ≡ true = lt-ltb _ _ (omega (arith, near)) in
    let f : after + (2 + d) - 2 ≡ after + d = omega arith in
    let g : nat_le 64 (after + d) ≡ true = le-leb _ _ (omega (arith, above)) in
    let h : nat_lt (after + d) (length s.memory) ≡ true = lt-ltb _ _ within in
    let i : nat_lt here.program_counter (after + d) ≡ true = lt-ltb _ _ (omega (arith, ahead)) in
    rw (a, b, c, f, g, h, i) refl

pub branches : (here : Next) (after d : ℕ) (when holds : Bool) (s : State) → d < 8190 → here.program_counter < after
    → 64 ≤ after → after + d < length s.memory
    → branch_on here after (Some (record { when = when; offset = 2 + d })) holds s
    ≡ done (point (landing when holds after d) here.fuel) s
unfolding branch_on
branches here after d true true s near ahead above within = takes here after d s near ahead above within
branches here after d true false s near ahead above within = refl
branches here after d false true s near ahead above within = refl
branches here after d false false s near ahead above within = takes here after d s near ahead above within
