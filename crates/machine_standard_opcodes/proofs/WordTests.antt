-- Tests of two words that are written.
use Rattle.std.proofs.Common.{◌≡◌, ℕ, ◌+◌, ◌&&◌, true, false}
use Rattle.std.proofs.Common.{Ok, Err, ap, sym, ◌∙◌}
use Rattle.journal.specs.Recording.{Recording}
use Rattle.zcore.specs.declared.header.Header.{Header}
use Rattle.zcore.specs.declared.place.Fault.TheVariants as faults
use Rattle.zcore.specs.declared.place.Place.TheVariants as places
use Rattle.zcore.specs.Parts.{test, is_writable}
use Rattle.machine_frames.specs.Contents.{Contents, memory_of}
use Rattle.machine_frames.specs.States.{state_of, IsStoreOf}
use Rattle.machine_frames.specs.Went.{Went}
use Rattle.machine_frames.specs.declared.end.End.TheVariants as ends
use Rattle.machine_frames.proofs.Steps.{went_halt, went_still}
use Rattle.machine_standard_opcodes.specs.Left.{are_writable, words_before}

both_writable : (h : Header) (s : Contents) (at : ℕ) → IsStoreOf h s
    → (is_writable (memory_of s) at && is_writable (memory_of s) (at + 3)) ≡ words_before h.static_base at
both_writable h s at o = ap (λ b. words_before b at) (sym o.headed.static_base)

pub words_tested : (h : Header) (s : Recording Contents) (at : ℕ) → IsStoreOf h s.store
    → words_before h.static_base at ≡ true → Went (Ok tt) s s (are_writable at)
words_tested h s at o e = went_still s (are_writable at) o.sound
    (λ t. ap (λ b. test b faults.Write (state_of s.store t)) (both_writable h s.store at o ∙ e))

pub words_refused : (h : Header) (s : Recording Contents) (at : ℕ) → IsStoreOf h s.store
    → words_before h.static_base at ≡ false
    → Went {A = Unit {0}} (Err (ends.Stop (places.Fault faults.Write))) s s (are_writable at)
words_refused h s at o e = went_halt s (are_writable at) o.sound
    (λ t. ap (λ b. test b faults.Write (state_of s.store t)) (both_writable h s.store at o ∙ e))
