-- Items that compare with more than three words, one after another.
use Rattle.std.proofs.Common.{◌≡◌, ℕ, zero, suc, ◌+◌, ◌<◌, ◌≤◌, List, [], ◌∷◌, length, Bool, true, false, refl, sym}
use Rattle.std.proofs.Common.{Option, ap, ◌∙◌, subst, arith}
use Rattle.std.specs.Prelude.{nat_lt, nat_eq, if◌then◌else◌, not, ◌||◌}
use Rattle.std.specs.List.{flat_map}
use Rattle.std.proofs.lemmas.Bool.{ne_eqb, lt-ltb}
use Rattle.zcore.specs.declared.instruction.Operand.{Operand}
use Rattle.zcore.specs.declared.instruction.Operand.TheVariants.{Variable}
use Rattle.zcore.specs.declared.instruction.Operation.TheVariants as operations
use Rattle.zcore.specs.InstructionBytes.{bytes_of, IsEncodable, FitsOperand}
use Rattle.zcore.specs.Execution.{perform}
use Rattle.meaning.specs.Meaning.{truth, is_true}
use Rattle.code_drafts.specs.Items as items
use Rattle.code_items.specs.Stack as stack
use Rattle.code_drafts.specs.Instructions.{branching, pull, copy}
use Rattle.code_instructions.specs.Instructions.{flag}
use Rattle.code.proofs.Behind.{Holds}
use Rattle.code.proofs.Play.{Leads, moves}
use Rattle.code.proofs.Memory.{with_variable}
use Rattle.code.proofs.Parts.{machine as at_words, ReadsVariable}
use Rattle.code.proofs.Steps.{point, first_held, others_held, fits_one, fits_two, one_operand, two_operands}
use Rattle.code.proofs.Steps.{variable_value, landing}
use Rattle.code.proofs.SingleSteps.{branch_step, flag_leads}
use Rattle.code.proofs.Flags.{test_leads}
use Rattle.code.proofs.Arriving.{Running, at_aside, around, here, LedFrom, above, room_for, code_held, arrives}
use Rattle.code.proofs.Arriving.{ArrivesAt, situation_here}
use Rattle.code.proofs.Temporaries.{scratch_here, scratch_with, reads_written, reads_other, word_written}
use Rattle.code.proofs.Temporaries.{word_unwritten, held_in, pull_temporary, copy_temporary}

-- the word of a condition
truth_is : (b : Bool) → (if b then 1 else 0) ≡ truth b
truth_is true = refl
truth_is false = refl

-- a word is true where it is not 0
pub not_zero : (v : ℕ) → not (nat_eq v 0) ≡ is_true v
not_zero zero = refl
not_zero (suc v) =
    let some : nat_eq (suc v) 0 ≡ false = ne_eqb (suc v) 0 (λ h. omega (arith, h)) in
    let more : nat_lt 0 (suc v) ≡ true = lt-ltb 0 (suc v) (omega arith) in
    ap not some ∙ sym more

or_none : (b : Bool) → (b || false) ≡ b
or_none true = refl
or_none false = refl

or_true : (b : Bool) → true ≡ (b || true)
or_true true = refl
or_true false = refl

zero_fits : (o : Operand) (when : Bool) → FitsOperand o
    → IsEncodable (branching operations.JumpIfZero (o ∷ []) when 8)
zero_fits o when f = record {
  least = omega arith;
  most = omega arith;
  operands_fit = fits_one o f;
  result_fits = tt;
  branch_fits = omega arith;
}

module _ (c : Running) where
  open c use {story, a, p, accepted, holds, full, m, count, counts, routine, place, callers, locals, world, good}

  -- Several right sides

  equal_fits : (u v : ℕ) (when : Bool) (offset : ℕ) → u < 256 → v < 256 → offset < 16384
      → IsEncodable (branching operations.JumpIfEqual (Variable u ∷ Variable v ∷ []) when offset)
  equal_fits u v when offset small small1 fits =
      record {
        least = omega arith;
        most = omega arith;
        operands_fit = fits_two (Variable u) (Variable v) small small1;
        result_fits = tt;
        branch_fits = fits;
      }

  -- whatever word of a `switch` there is
  pub first_equal_led : (aside : Option ℕ) (s : List ℕ) → length s ≤ 48 → ArrivesAt c items.first_equal
      → LedFrom c s (stack.first_equal s (at_aside c aside s))
  unfolding bytes_of perform
  first_equal_led aside [] short stands = tt
  first_equal_led aside (y ∷ []) short stands = tt
  first_equal_led aside (y ∷ x ∷ s) short stands =
      let q0 = here c in
      let test = branching operations.JumpIfEqual (Variable 249 ∷ Variable 248 ∷ []) true 8 in
      let m1 = with_variable m 248 y in
      let sc1 = scratch_with c m 248 y (scratch_here c) (omega arith) (omega arith) in
      let m2 = with_variable m1 249 x in
      let sc2 = scratch_with c m1 249 x sc1 (omega arith) (omega arith) in
      let all = code_held c items.first_equal stands in
      let h1 = others_held m q0 (pull 248) (copy 249 ∷ test ∷ flag) all in
      let h2 = others_held m (q0 + 3) (copy 249) (test ∷ flag) h1 in
      let h3 = held_in c m2 (flat_map bytes_of (test ∷ flag)) (q0 + 3 + 3) sc2 (omega arith) h2 in
      let r0 = reads_other c m1 249 x 248 y sc1 (omega arith) (omega arith) (omega arith) (omega arith)
      (λ e. omega (arith, e)) (word_written c m 248 y (scratch_here c) (omega arith) (omega arith)) in
      let r1 = reads_written c m1 249 x sc1 (omega arith) (omega arith) in
      let w = around c in
      let t = world.text in
      let f = world.fuel in
      let st = at_words w m2 locals (x ∷ s) t in
      arrives c (y ∷ x ∷ s) (truth (nat_eq x y) ∷ x ∷ s) m2 (situation_here c) (q0 + 3 + 3 + 4 + 9)
      (omega (arith, stands.next)) sc2.stored refl refl refl
      (moves (point q0 f) (point (q0 + 3) f) (point (q0 + 3 + 3 + 4 + 9) f) (at_words w m locals (y ∷ x ∷ s) t)
      (at_words w m1 locals (x ∷ s) t) (at_words w m2 locals (truth (nat_eq x y) ∷ x ∷ s) t)
      (pull_temporary c m (x ∷ s) t q0 248 y (scratch_here c) (omega arith) (omega arith) (omega arith)
      (first_held m q0 (pull 248) (copy 249 ∷ test ∷ flag) all))
      (moves (point (q0 + 3) f) (point (q0 + 3 + 3) f) (point (q0 + 3 + 3 + 4 + 9) f) (at_words w m1 locals (x ∷ s) t)
      (at_words w m2 locals (x ∷ s) t) (at_words w m2 locals (truth (nat_eq x y) ∷ x ∷ s) t)
      (copy_temporary c m1 s t (q0 + 3) 249 x sc1 (omega arith) (omega arith) (omega arith)
      (first_held m (q0 + 3) (copy 249) (test ∷ flag) h1))
      (subst (λ v. Leads (point (q0 + 3 + 3) f) st (point (q0 + 3 + 3 + 4 + 9) f)
      (at_words w m2 locals (v ∷ x ∷ s) t))
      (truth_is (nat_eq x y || false) ∙ ap truth (or_none (nat_eq x y)))
      (test_leads w f m2 locals (x ∷ s) (x ∷ s) t (q0 + 3 + 3) operations.JumpIfEqual
      (Variable 249 ∷ Variable 248 ∷ [])
      (x ∷ y ∷ []) true (nat_eq x y || false) (equal_fits 249 248 true 8 (omega arith) (omega arith) (omega arith))
      (two_operands st st st (Variable 249) (Variable 248) x y (variable_value w m2 locals (x ∷ s) t 249 x r1)
      (variable_value w m2 locals (x ∷ s) t 248 y r0))
      (λ here after st. refl) (room_for c (x ∷ s) (omega (arith, short))) (omega (arith, above c)) (omega arith)
      (omega (arith, stands.next, stands.followed, good.stored.size, sc2.stored.size)) h3))))

  -- where the alternative is equal, 1 is pushed; else the flag so far decides
  also_rest : (b : Bool) (m1 : List ℕ) (q flag_word x : ℕ) (s : List ℕ) → length (x ∷ s) ≤ 47
      → ReadsVariable (around c) m1 locals 249 flag_word → 64 ≤ q → q + 3 + 9 < length m1
      → Holds m1 q (flat_map bytes_of (branching operations.JumpIfZero (Variable 249 ∷ []) false 8 ∷ flag))
      → Leads (point (landing true b q 9) world.fuel) (at_words (around c) m1 locals (x ∷ s) world.text)
      (point (q + 3 + 9) world.fuel)
      (at_words (around c) m1 locals (truth (is_true flag_word || b) ∷ x ∷ s) world.text)
  unfolding bytes_of perform
  also_rest true m1 q flag_word x s short reads above within h =
      let e : q + 3 + 6 ≡ q + 9 = omega arith in
      subst (λ k. Leads (point k world.fuel) (at_words (around c) m1 locals (x ∷ s) world.text)
      (point (q + 3 + 9) world.fuel) (at_words (around c) m1 locals (truth (is_true flag_word || true) ∷ x ∷ s)
      world.text)) e
      (subst (λ v. Leads (point (q + 3 + 6) world.fuel) (at_words (around c) m1 locals (x ∷ s) world.text)
      (point (q + 3 + 9) world.fuel) (at_words (around c) m1 locals (v ∷ x ∷ s) world.text))
      (ap truth (or_true (is_true flag_word)))
      (flag_leads (around c) world.fuel m1 locals (x ∷ s) world.text (q + 3) true
      (room_for c (x ∷ s) (omega (arith, short))) (omega (arith, above)) within
      (others_held m1 q (branching operations.JumpIfZero (Variable 249 ∷ []) false 8) flag h)))
  also_rest false m1 q flag_word x s short reads above within h =
      let st = at_words (around c) m1 locals (x ∷ s) world.text in
      subst (λ v. Leads (point q world.fuel) st (point (q + 3 + 9) world.fuel)
      (at_words (around c) m1 locals (v ∷ x ∷ s) world.text))
      (truth_is (not (nat_eq flag_word 0)) ∙ ap truth (not_zero flag_word ∙ sym (or_none (is_true flag_word))))
      (test_leads (around c) world.fuel m1 locals (x ∷ s) (x ∷ s) world.text q operations.JumpIfZero
      (Variable 249 ∷ [])
      (flag_word ∷ []) false (nat_eq flag_word 0) (zero_fits (Variable 249) false (omega arith))
      (one_operand st st (Variable 249) flag_word
      (variable_value (around c) m1 locals (x ∷ s) world.text 249 flag_word reads))
      (λ here after st. refl) (room_for c (x ∷ s) (omega (arith, short))) above (omega arith) within h)

  pub also_equal_led : (aside : Option ℕ) (s : List ℕ) → length s ≤ 48 → ArrivesAt c items.also_equal
      → LedFrom c s (stack.also_equal s (at_aside c aside s))
  unfolding bytes_of perform
  also_equal_led aside [] short stands = tt
  also_equal_led aside (y ∷ []) short stands = tt
  also_equal_led aside (y ∷ v ∷ []) short stands = tt
  also_equal_led aside (y ∷ v ∷ x ∷ s) short stands =
      let q0 = here c in
      let last = branching operations.JumpIfZero (Variable 249 ∷ []) false 8 ∷ flag in
      let test = branching operations.JumpIfEqual (Variable 250 ∷ Variable 248 ∷ []) true 11 in
      let m1 = with_variable m 248 y in
      let sc1 = scratch_with c m 248 y (scratch_here c) (omega arith) (omega arith) in
      let m2 = with_variable m1 249 v in
      let sc2 = scratch_with c m1 249 v sc1 (omega arith) (omega arith) in
      let m3 = with_variable m2 250 x in
      let sc3 = scratch_with c m2 250 x sc2 (omega arith) (omega arith) in
      let all = code_held c items.also_equal stands in
      let h1 = others_held m q0 (pull 248) (pull 249 ∷ copy 250 ∷ test ∷ last) all in
      let h2 = others_held m (q0 + 3) (pull 249) (copy 250 ∷ test ∷ last) h1 in
      let h3 = others_held m (q0 + 3 + 3) (copy 250) (test ∷ last) h2 in
      let h4 = held_in c m3 (flat_map bytes_of (test ∷ last)) (q0 + 3 + 3 + 3) sc3 (omega arith) h3 in
      let y1 = word_unwritten c m1 249 v 248 sc1 (omega arith) (omega arith) (omega arith) (λ e. omega (arith, e))
      ∙ word_written c m 248 y (scratch_here c) (omega arith) (omega arith) in
      let r0 = reads_other c m2 250 x 248 y sc2 (omega arith) (omega arith) (omega arith) (omega arith)
      (λ e. omega (arith, e)) y1 in
      let r1 = reads_other c m2 250 x 249 v sc2 (omega arith) (omega arith) (omega arith) (omega arith)
      (λ e. omega (arith, e)) (word_written c m1 249 v sc1 (omega arith) (omega arith)) in
      let r2 = reads_written c m2 250 x sc2 (omega arith) (omega arith) in
      let w = around c in
      let t = world.text in
      let f = world.fuel in
      let st = at_words w m3 locals (x ∷ s) t in
      let q4 = q0 + 3 + 3 + 3 + 4 in
      let within : q4 + 3 + 9 < length m3 =
      omega (arith, stands.next, stands.followed, good.stored.size, sc3.stored.size) in
      let result = truth (is_true v || nat_eq x y) in
      let end = at_words w m3 locals (result ∷ x ∷ s) t in
      arrives c (y ∷ v ∷ x ∷ s) (result ∷ x ∷ s) m3 (situation_here c) (q4 + 3 + 9) (omega (arith, stands.next))
      sc3.stored refl refl refl
      (moves (point q0 f) (point (q0 + 3) f) (point (q4 + 3 + 9) f) (at_words w m locals (y ∷ v ∷ x ∷ s) t)
      (at_words w m1 locals (v ∷ x ∷ s) t) end
      (pull_temporary c m (v ∷ x ∷ s) t q0 248 y (scratch_here c) (omega arith) (omega arith) (omega arith)
      (first_held m q0 (pull 248) (pull 249 ∷ copy 250 ∷ test ∷ last) all))
      (moves (point (q0 + 3) f) (point (q0 + 3 + 3) f) (point (q4 + 3 + 9) f) (at_words w m1 locals (v ∷ x ∷ s) t)
      (at_words w m2 locals (x ∷ s) t) end
      (pull_temporary c m1 (x ∷ s) t (q0 + 3) 249 v sc1 (omega arith) (omega arith) (omega arith)
      (first_held m (q0 + 3) (pull 249) (copy 250 ∷ test ∷ last) h1))
      (moves (point (q0 + 3 + 3) f) (point (q0 + 3 + 3 + 3) f) (point (q4 + 3 + 9) f) (at_words w m2 locals (x ∷ s) t)
      st end
      (copy_temporary c m2 s t (q0 + 3 + 3) 250 x sc2 (omega arith) (omega arith) (omega arith)
      (first_held m (q0 + 3 + 3) (copy 250) (test ∷ last) h2))
      (moves (point (q0 + 3 + 3 + 3) f) (point (landing true (nat_eq x y || false) q4 9) f) (point (q4 + 3 + 9) f) st
      st
      end
      (branch_step w f m3 locals (x ∷ s) (x ∷ s) t (q0 + 3 + 3 + 3) 9 operations.JumpIfEqual
      (Variable 250 ∷ Variable 248 ∷ []) (x ∷ y ∷ []) true (nat_eq x y || false)
      (equal_fits 250 248 true 11 (omega arith) (omega arith) (omega arith))
      (two_operands st st st (Variable 250) (Variable 248) x y (variable_value w m3 locals (x ∷ s) t 250 x r2)
      (variable_value w m3 locals (x ∷ s) t 248 y r0))
      (λ here after st. refl) (omega arith) (omega (arith, above c)) (omega arith) (omega (arith, within))
      (first_held m3 (q0 + 3 + 3 + 3) test last h4))
      (subst (λ b. Leads (point (landing true b q4 9) f) st (point (q4 + 3 + 9) f) end) (sym (or_none (nat_eq x y)))
      (also_rest (nat_eq x y) m3 q4 v x s (omega (arith, short)) r1 (omega (arith, above c)) within
      (others_held m3 (q0 + 3 + 3 + 3) test last h4)))))))
