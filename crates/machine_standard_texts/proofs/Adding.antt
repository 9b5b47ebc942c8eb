-- Operations that print, from their parts.
use Rattle.std.proofs.Common.{◌≡◌, ℕ, ◌+◌, List, [], ◌∷◌, ◌++◌, drop, length, refl, ap, sym, ◌∙◌, subst, Option, Some, None}
use Rattle.std.proofs.Common.{Result, Ok, Err}
use Rattle.std.specs.Prelude.{nat_le}
use Rattle.std.specs.List.{flat_map}
use Rattle.journal.specs.Recording.{Recording}
use Rattle.ztext.specs.Reading.{Cause}
use Rattle.zcore.specs.declared.next.Next.{Next}
use Rattle.zcore.specs.declared.place.Limit.TheVariants as limits
use Rattle.zcore.specs.declared.place.Place.TheVariants as places
use Rattle.zcore.specs.Effects.{read_text, text_fault, print_address}
use Rattle.zcore.specs.Execution.{print_packed}
use Rattle.zcore.specs.Parts.{unpacked}
use Rattle.zcore.specs.State.{State, Out, done, halt, bound}
use Rattle.zcore.specs.Layout.{text_limit}
use Rattle.zcore.proofs.KeepingReads.{chosen, done_state, never}
use Rattle.zcore_standard.specs.Characters.{shown_by, print_each, print_codes}
use Rattle.zcore_standard.specs.Unicode.{print_whole}
use Rattle.zcore_standard.specs.Loaded.{Loaded}
use Rattle.zcore_standard.specs.Printing.{by_alphabets, print_any_address, print_any_packed}
use Rattle.machine_frames.specs.Contents.{Contents, memory_of}
use Rattle.machine_frames.specs.States.{state_of, IsSound}
use Rattle.machine_frames.specs.Went.{Went, Told}
use Rattle.machine_frames.specs.declared.end.End.{End}
use Rattle.machine_frames.specs.declared.end.End.TheVariants as ends
use Rattle.machine_frames.proofs.Steps.{goes_on_still, went_still, went_halt, told_as, told_no_further, told_still}
use Rattle.machine_frames.proofs.Steps.{told_then}
use Rattle.machine_standard_texts.specs.declared.characters.Halt.{Halt}
use Rattle.machine_standard_texts.specs.declared.characters.Halt.TheVariants as halts
use Rattle.machine_standard_texts.specs.Put.{Prints}
use Rattle.machine_standard_texts.proofs.Printed.{codes_append}

pub text_read : (s : Recording Contents) (read : List ℕ → Result (List ℕ × ℕ) Cause) (story : List ℕ) (x : List ℕ × ℕ)
    → IsSound s.store → story ≡ memory_of s.store → read story ≡ Ok x
    → Went (Ok x) s s (λ t. read_text (read t.memory) t)
text_read s read story x sound m e = went_still s (λ t. read_text (read t.memory) t) sound
    (λ t. ap (λ r. read_text r (state_of s.store t)) (ap read (sym m) ∙ e))

pub text_unread : (s : Recording Contents) (read : List ℕ → Result (List ℕ × ℕ) Cause) (cause : Cause)
    → IsSound s.store → read (memory_of s.store) ≡ Err cause
    → Went {A = List ℕ × ℕ} (Err (ends.Stop (places.Fault (text_fault cause)))) s s (λ t. read_text (read t.memory) t)
text_unread s read cause sound e = went_halt s (λ t. read_text (read t.memory) t) sound
    (λ t. ap (λ r. read_text r (state_of s.store t)) e)

-- nothing was added
pub told_back : {A : Type 0} {r : Result A End} {s t : Recording Contents} {f : State → Out A} (start : ℕ)
    (was now : List ℕ) → now ≡ was → Told r s (drop start was) t (drop start was) f
    → Told r s (drop start was) t (drop start now) f
told_back {A} {r} {s} {t} {f} start was now e w =
    subst (λ l. Told r s (drop start was) t (drop start l) f) (sym e) w

-- print_paddr
packed_is : (loaded : Loaded) (own : Option (List ℕ)) (here : Next) (after packed : ℕ) (s : State)
    → by_alphabets own (print_packed here after packed) (print_any_packed loaded here after packed) s
    ≡ by_alphabets own (print_address here after (unpacked s.memory packed))
    (print_any_address loaded here after (unpacked s.memory packed)) s
unfolding print_packed print_any_packed print_address
packed_is loaded None here after packed s = refl
packed_is loaded (Some alphabets) here after packed s = refl

pub packed_told : {s t : Recording Contents} {x y : List ℕ} {r : Result Next End} (loaded : Loaded) (here : Next)
    (after packed address : ℕ) → address ≡ unpacked (memory_of s.store) packed
    → Told r s x t y
    (by_alphabets loaded.own_alphabets (print_address here after address) (print_any_address loaded here after address))
    → Told r s x t y
    (by_alphabets loaded.own_alphabets (print_packed here after packed) (print_any_packed loaded here after packed))
packed_told {s} {t} {x} {y} {r} loaded here after packed address e w =
    let own = loaded.own_alphabets in
    told_as r (by_alphabets own (print_packed here after packed) (print_any_packed loaded here after packed))
    (packed_is loaded own here after packed (state_of s.store x))
    (subst (λ (a : ℕ). Told r s x t y
    (by_alphabets own (print_address here after a) (print_any_address loaded here after a))) e w)

-- where printing came to its end, and where it halted at the limit

pub finished : (s : Recording Contents) (h : Option Halt) → h ≡ None → IsSound s.store → (was now : List ℕ)
    (f : State → Out (Unit {0})) → Prints h was now f → Told (Ok tt) s was s now f
finished s h e sound was now f p = record {
  told = (goes_on_still s sound, (subst (λ k. Prints k was now f) e p).by (state_of s.store was));
}

pub full : (s : Recording Contents) (h : Option Halt) → h ≡ Some halts.Full → IsSound s.store → (was now : List ℕ)
    (f : State → Out (Unit {0})) → Prints h was now f
    → Told {A = Unit {0}} (Err (ends.Stop (places.Limit limits.Text))) s was s now f
full s h e sound was now f p = record {
  told = (goes_on_still s sound, (subst (λ k. Prints k was now f) e p).by (state_of s.store was));
}

-- Codes that are printed one after the other

pub codes_none : (characters : List ℕ) (s : Recording Contents) (x : List ℕ) → IsSound s.store
    → Told (Ok tt) s x s x (print_codes characters [])
unfolding print_each
codes_none characters s x sound = told_still s (print_codes characters []) x sound refl

pub codes_two : {r : Result (Unit {0}) End} {s t u : Recording Contents} {x y z : List ℕ} (characters a b : List ℕ)
    → Told (Ok tt) s x t y (print_codes characters a) → Told r t y u z (print_codes characters b)
    → Told r s x u z (print_codes characters (a ++ b))
codes_two {r} {s} {x = x} characters a b v w =
    told_as r (print_codes characters (a ++ b)) (codes_append characters a b (state_of s.store x))
    (told_then (λ _. print_codes characters b) v w)

pub codes_first : {e : End} {s t : Recording Contents} {x y : List ℕ} (characters a b : List ℕ)
    → Told {A = Unit {0}} (Err e) s x t y (print_codes characters a)
    → Told {A = Unit {0}} (Err e) s x t y (print_codes characters (a ++ b))
codes_first {e} {s} {x = x} characters a b v =
    told_as (Err e) (print_codes characters (a ++ b)) (codes_append characters a b (state_of s.store x))
    (told_no_further (λ _. print_codes characters b) v)

-- memory stays

whole_memory : (bytes : List ℕ) (a : Unit {0}) (s t : State) → print_whole bytes s ≡ done a t → t.memory ≡ s.memory
unfolding print_whole
whole_memory bytes a s t h =
    chosen (t.memory ≡ s.memory) (nat_le (length s.text + length bytes) text_limit) _ _ a t
    (λ _ e. ap (λ (x : State). x.memory) (done_state tt a _ t e)) (λ _ e. absurd (never _ a _ t e)) h

each_bound : (o : Out (Unit {0})) (cs : List (List ℕ)) (m : List ℕ) (b : Unit {0}) (t : State)
    → ((a : Unit {0}) (u : State) → o ≡ done a u → u.memory ≡ m)
    → ((u : State) → print_each cs u ≡ done b t → t.memory ≡ u.memory)
    → bound o (λ _. print_each cs) ≡ done b t → t.memory ≡ m
each_bound (done a u) cs m b t first rest h = rest u h ∙ first a u refl
each_bound (halt place u) cs m b t first rest h = absurd (never _ b _ t h)

each_memory : (cs : List (List ℕ)) (a : Unit {0}) (s t : State) → print_each cs s ≡ done a t → t.memory ≡ s.memory
unfolding print_each
each_memory [] a s t h = ap (λ (x : State). x.memory) (done_state tt a s t h)
each_memory (c ∷ cs) a s t h = each_bound (print_whole c s) cs s.memory a t (λ b u e. whole_memory c b s u e)
    (λ u e. each_memory cs a u t e) h

pub told_memory : (r s : Recording Contents) (x y characters codes : List ℕ)
    → Told (Ok tt) r x s y (print_codes characters codes) → memory_of s.store ≡ memory_of r.store
told_memory r s x y characters codes w =
    each_memory (flat_map (shown_by characters) codes) tt (state_of r.store x) (state_of s.store y) w.told.1
