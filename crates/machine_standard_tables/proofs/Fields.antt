-- The search of a table, field by field.
use Rattle.std.proofs.Common.{◌≡◌, ℕ, zero, suc, ◌+◌, ◌-◌, ◌<◌, ◌≤◌, List, length, refl, ap, ◌∙◌, arith, Bool, true, false}
use Rattle.std.proofs.Common.{cond, Option, Some, None, Result, Ok, Err, subst}
use Rattle.std.specs.Prelude.{◌==◌, ◌&&◌, nat_lt}
use Rattle.std.proofs.lemmas.Bool.{le-ltb}
use Rattle.std.proofs.Math.Bool.{and-false}
use Rattle.std.specs.Option.{is_some, unwrap_or}
use Rattle.journal.specs.Recording.{Recording}
use Rattle.zcore.specs.declared.instruction.Branch.{Branch}
use Rattle.zcore.specs.declared.next.Next.{Next}
use Rattle.zcore.specs.declared.place.Fault.TheVariants as faults
use Rattle.zcore.specs.declared.place.Place.TheVariants as places
use Rattle.zcore.specs.Parts.{is_readable, read_byte, read_word, test_result, test_branch, store_result, branch_on}
use Rattle.zcore.specs.State.{State, Out, done, bound, ◌>>=◌}
use Rattle.zcore_standard.specs.Tables.{has_words, field_length, read_field, find_field, give_found}
use Rattle.machine_frames.specs.Contents.{Contents, memory_of}
use Rattle.machine_frames.specs.States.{IsSound, state_of}
use Rattle.machine_frames.specs.Went.{Went}
use Rattle.machine_frames.specs.declared.end.End.{End}
use Rattle.machine_frames.specs.declared.end.End.TheVariants as ends
use Rattle.machine_frames.proofs.Bytes.{read_byte_none, read_word_none}
use Rattle.machine_frames.proofs.Steps.{went_as, went_no_further, went_still, went_sound}

-- What a field begins with

pub field_word : (r : Result ℕ End) (s : Recording Contents) (form at : ℕ) → has_words form ≡ true
    → Went r s s (read_word at) → Went r s s (read_field form at)
unfolding read_field
field_word r s form at e w = went_as r (read_field form at)
    (λ t. ap (λ (b : Bool). cond b (read_word at) (read_byte at) (state_of s.store t)) e) w

pub field_byte : (r : Result ℕ End) (s : Recording Contents) (form at : ℕ) → has_words form ≡ false
    → Went r s s (read_byte at) → Went r s s (read_field form at)
unfolding read_field
field_byte r s form at e w = went_as r (read_field form at)
    (λ t. ap (λ (b : Bool). cond b (read_word at) (read_byte at) (state_of s.store t)) e) w

-- after the last byte that can be read
past : (m : List ℕ) (at : ℕ) → 65536 ≤ at → is_readable m at ≡ false
past m at le = ap (λ b. nat_lt at (length m) && b) (le-ltb at 65536 le) ∙ and-false (nat_lt at (length m))

field_of_either : (b : Bool) (form at : ℕ) (s : Recording Contents) → has_words form ≡ b → IsSound s.store
    → 65536 ≤ at → Went {A = ℕ} (Err (ends.Stop (places.Fault faults.Read))) s s (read_field form at)
field_of_either true form at s e sound le = field_word _ s form at e
    (read_word_none s at sound (ap (λ b. b && is_readable (memory_of s.store) (at + 1)) (past (memory_of s.store) at le)))
field_of_either false form at s e sound le = field_byte _ s form at e
    (read_byte_none s at sound (past (memory_of s.store) at le))

pub field_past : (form at : ℕ) (s : Recording Contents) → IsSound s.store → 65536 ≤ at
    → Went {A = ℕ} (Err (ends.Stop (places.Fault faults.Read))) s s (read_field form at)
field_past form at s sound le = field_of_either (has_words form) form at s refl sound le

-- The fields that a search has left

pub left : (n i : ℕ) → i < n → n - i ≡ suc (n - (i + 1))
left n i lt = omega arith

-- a search from a later field finds what the whole search finds
abbrev pub FindsFrom : Recording Contents → ℕ → ℕ → ℕ → ℕ → ℕ → ℕ → Type 0
FindsFrom s form word table count at rest =
    (text : List ℕ) → find_field form word table count (state_of s.store text)
    ≡ find_field form word at rest (state_of s.store text)

module _ (s : Recording Contents) (form word table count at : ℕ) where
  after_field : (v n : ℕ) → Went (Ok v) s s (read_field form at) → (text : List ℕ)
      → find_field form word at (suc n) (state_of s.store text)
      ≡ cond (v == word) (done (Some at)) (find_field form word (at + field_length form) n) (state_of s.store text)
  unfolding find_field
  after_field v n w text = ap
      (λ o. bound o
      (λ value. cond (value == word) (done (Some at)) (find_field form word (at + field_length form) n)))
      (w.did.1 text)

  -- the field cannot be read
  pub find_stops : (e : End) (n rest : ℕ) → rest ≡ suc n → FindsFrom s form word table count at rest
      → Went {A = ℕ} (Err e) s s (read_field form at)
      → Went {A = Option ℕ} (Err e) s s (find_field form word table count)
  unfolding find_field
  find_stops e n rest is same w = went_as (Err e) (find_field form word table count)
      (λ t. same t ∙ ap (λ k. find_field form word at k (state_of s.store t)) is) (went_no_further _ w)

  -- it is the one
  pub find_here : (v n rest : ℕ) → rest ≡ suc n → FindsFrom s form word table count at rest
      → Went (Ok v) s s (read_field form at) → (v == word) ≡ true
      → Went (Ok (Some at)) s s (find_field form word table count)
  find_here v n rest is same w e = went_still s (find_field form word table count) (went_sound w)
      (λ t. same t ∙ ap (λ k. find_field form word at k (state_of s.store t)) is ∙ after_field v n w t
      ∙ ap (λ (b : Bool). cond b (done (Some at)) (find_field form word (at + field_length form) n)
      (state_of s.store t)) e)

  -- it is another
  pub find_on : (v n rest : ℕ) → rest ≡ suc n → FindsFrom s form word table count at rest
      → Went (Ok v) s s (read_field form at) → (v == word) ≡ false
      → FindsFrom s form word table count (at + field_length form) n
  find_on v n rest is same w e t =
      same t ∙ ap (λ k. find_field form word at k (state_of s.store t)) is ∙ after_field v n w t
      ∙ ap (λ (b : Bool). cond b (done (Some at)) (find_field form word (at + field_length form) n)
      (state_of s.store t)) e

  -- fields of no bytes are all the same one
  others_alike : (v n : ℕ) → Went (Ok v) s s (read_field form at) → (v == word) ≡ false → field_length form ≡ 0
      → (t : List ℕ) → find_field form word at n (state_of s.store t) ≡ done None (state_of s.store t)
  unfolding find_field
  others_alike v zero w e empty t = refl
  others_alike v (suc n) w e empty t =
      let same : at + field_length form ≡ at = omega (arith, empty) in
      after_field v n w t
      ∙ ap (λ (b : Bool). cond b (done (Some at)) (find_field form word (at + field_length form) n)
      (state_of s.store t)) e
      ∙ ap (λ k. find_field form word k n (state_of s.store t)) same ∙ others_alike v n w e empty t

  pub find_alike : (v rest : ℕ) → FindsFrom s form word table count at rest
      → Went (Ok v) s s (read_field form at) → (v == word) ≡ false → field_length form ≡ 0
      → Went (Ok None) s s (find_field form word table count)
  find_alike v rest same w e empty = went_still s (find_field form word table count) (went_sound w)
      (λ t. same t ∙ others_alike v rest w e empty t)

  -- no field is left
  pub find_none : (rest : ℕ) → rest ≡ 0 → IsSound s.store → FindsFrom s form word table count at rest
      → Went (Ok None) s s (find_field form word table count)
  unfolding find_field
  find_none rest is sound same = went_still s (find_field form word table count) sound
      (λ t. same t ∙ ap (λ k. find_field form word at k (state_of s.store t)) is)

-- What is given for a field that was found, or for none

abbrev pub giving : Next → ℕ → Option ℕ → Option Branch → Bool → ℕ → State → Out Next
giving here after result branch holds word = do
  _ ← test_result result
  _ ← test_branch after branch holds
  _ ← store_result result word
  branch_on here after branch holds

pub gives : {r : Result Next End} {s t : Recording Contents} (here : Next) (after : ℕ) (result : Option ℕ)
    (branch : Option Branch) (found : Option ℕ) (holds : Bool) (word : ℕ) → holds ≡ is_some found
    → word ≡ unwrap_or found 0 → Went r s t (giving here after result branch holds word)
    → Went r s t (give_found here after result branch found)
unfolding give_found
gives {r} {s} {t} here after result branch found holds word e q w =
    subst (λ b. Went r s t (giving here after result branch b (unwrap_or found 0))) e
    (subst (λ n. Went r s t (giving here after result branch holds n)) q w)
