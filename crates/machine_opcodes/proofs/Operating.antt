-- Operations, from their parts.
use Rattle.std.proofs.Common.{◌≡◌, ℕ, List, ap, sym, ◌∙◌, subst, Bool, true, false, Option, Result, Ok, Err}
use Rattle.journal.specs.Recording.{Recording}
use Rattle.zcore.specs.declared.next.Next.{Next}
use Rattle.zcore.specs.declared.place.Place.TheVariants as places
use Rattle.ztext.specs.Reading.{Cause}
use Rattle.zcore.specs.State.{State, Out, bound, ◌>>=◌}
use Rattle.zcore.specs.declared.place.Fault.{Fault}
use Rattle.zcore.specs.Parts.{test, test_target, go, jump_target}
use Rattle.zcore.specs.declared.instruction.Branch.{Branch}
use Rattle.zcore.specs.Execution.{give_result, write_and_branch, jump, text_at, read_text, text_fault}
use Rattle.ztext.specs.Text.{decoded}
use Rattle.machine_frames.specs.Contents.{Contents, memory_of}
use Rattle.machine_frames.specs.States.{state_of, IsSound}
use Rattle.machine_frames.specs.Went.{Went}
use Rattle.machine_frames.specs.declared.end.End.{End}
use Rattle.machine_frames.specs.declared.end.End.TheVariants as ends
use Rattle.machine_frames.proofs.Steps.{went_then, went_no_further, went_still, went_halt, went_as}

pub jump_went : (here : Next) (after offset target : ℕ) (r : Result Next End) (s : Recording Contents)
    → target ≡ jump_target after offset → Went (Ok tt) s s (test_target target) → Went r s s (go here target)
    → Went r s s (jump here after offset)
unfolding jump
jump_went here after offset target r s e v w = went_then _ (subst (λ t. Went (Ok tt) s s (test_target t)) e v)
    (subst (λ t. Went r s s (go here t)) e w)

pub jump_stops : (here : Next) (after offset target : ℕ) (x : End) (s : Recording Contents)
    → target ≡ jump_target after offset → Went {A = Unit {0}} (Err x) s s (test_target target)
    → Went {A = Next} (Err x) s s (jump here after offset)
unfolding jump
jump_stops here after offset target x s e v = went_no_further _
    (subst (λ t. Went {A = Unit {0}} (Err x) s s (test_target t)) e v)

pub text_read : (s : Recording Contents) (story : List ℕ) (address : ℕ) (x : List ℕ × ℕ) → IsSound s.store
    → story ≡ memory_of s.store → decoded story address ≡ Ok x → Went (Ok x) s s (text_at address)
unfolding text_at
text_read s story address x sound m e = went_still s (text_at address) sound
    (λ t. ap (λ r. read_text r (state_of s.store t)) (ap (λ l. decoded l address) (sym m) ∙ e))

pub text_unread : (s : Recording Contents) (story : List ℕ) (address : ℕ) (cause : Cause) → IsSound s.store
    → story ≡ memory_of s.store → decoded story address ≡ Err cause
    → Went {A = List ℕ × ℕ} (Err (ends.Stop (places.Fault (text_fault cause)))) s s (text_at address)
unfolding text_at
text_unread s story address cause sound m e = went_halt s (text_at address) sound
    (λ t. ap (λ r. read_text r (state_of s.store t)) (ap (λ l. decoded l address) (sym m) ∙ e))

-- a test that passes
pub test_passed : {B : Type 0} {r : Result B End} {s t : Recording Contents} (b : Bool) (cause : Fault)
    (k : Unit {0} → State → Out B) → b ≡ true → Went r s t (k tt) → Went r s t (test b cause >>= k)
test_passed {r = r} {s = s} b cause k e w = went_as r (test b cause >>= k)
    (λ x. ap (λ (a : Bool). bound (test a cause (state_of s.store x)) k) e) w

-- a test that fails
pub test_failed : {B : Type 0} (s : Recording Contents) (b : Bool) (cause : Fault) (k : Unit {0} → State → Out B)
    → IsSound s.store → b ≡ false → Went {A = B} (Err (ends.Stop (places.Fault cause))) s s (test b cause >>= k)
test_failed s b cause k sound e = went_halt s (test b cause >>= k) sound
    (λ x. ap (λ (a : Bool). bound (test a cause (state_of s.store x)) k) e)

pub result_as : {r : Result Next End} {s t : Recording Contents} (here : Next) (after : ℕ) (v : Option ℕ) (q p : ℕ)
    → q ≡ p → Went r s t (give_result here after v q) → Went r s t (give_result here after v p)
result_as {r} {s} {t} here after v q p e w = subst (λ n. Went r s t (give_result here after v n)) e w

pub branch_as : {r : Result Next End} {s t : Recording Contents} (here : Next) (after : ℕ) (branch : Option Branch)
    (variable word : ℕ) (q p : Bool) → q ≡ p → Went r s t (write_and_branch here after branch variable word q)
    → Went r s t (write_and_branch here after branch variable word p)
branch_as {r} {s} {t} here after branch variable word q p e w = subst
    (λ b. Went r s t (write_and_branch here after branch variable word b)) e w
