-- Parts of instructions, one after another, and those that read and write memory.
use Rattle.std.proofs.Common.{◌≡◌, ◌≤◌, ◌<◌, ◌+◌, ℕ, nat_le, nat_lt, Bool, true, if◌then◌else◌, List, length}
use Rattle.std.proofs.Common.{slice_index, slice_set, ap, ◌∙◌, arith}
use Rattle.std.proofs.lemmas.Bool.{and_from, lt-ltb, le-leb}
use Rattle.ztext.specs.Bytes.{word_at}
use Rattle.zcore.specs.Entries.{Link, owner, place_of}
use Rattle.zcore.specs.Header.{defaults_of, static_base_of}
use Rattle.zcore.specs.declared.place.Fault.TheVariants as faults
use Rattle.zcore.specs.State.{State, Out, done, bound, ◌>>=◌}
use Rattle.zcore.specs.Parts.{fault, test, is_readable, is_writable, read_byte, read_word, write_byte, write_word}
use Rattle.zcore.specs.Parts.{with_word}
use Rattle.zcore.specs.Objects.{test_object, read_link}
use Rattle.meaning.specs.Forests.{IsObjectNumber}
use Rattle.code.specs.Links.{links_of}
use Rattle.code.specs.Region.{HasEntries}
use Rattle.code.proofs.TablePlaces.{place_room, object_has_entry}

-- a part is done, with an answer, and leads from one state to another
pub record Acts {A : Type 0} (f : State → Out A) (answer : A) (s t : State) : Type 0 where
  pub is : f s ≡ done answer t

pub does_then : {A B : Type 0} {a : A} {b : B} {s t u : State} {f : State → Out A} (k : A → State → Out B)
    → Acts f a s t → Acts (k a) b t u → Acts (f >>= k) b s u
does_then k p q = record { is = ap (λ x. bound x k) p.is ∙ q.is }

-- a part that is done, and what comes after it
pub then_is : {A B : Type 0} {a : A} {s t : State} {f : State → Out A} (k : A → State → Out B) → Acts f a s t
    → (f >>= k) s ≡ k a t
then_is k p = ap (λ x. bound x k) p.is

-- Memory

readable : (m : List ℕ) (at : ℕ) → at < length m → at < 65536 → is_readable m at ≡ true
readable m at inside low =
    and_from (nat_lt at (length m)) (nat_lt at 65536) (lt-ltb at (length m) inside) (lt-ltb at 65536 low)

writable : (m : List ℕ) (at : ℕ) → 64 ≤ at → at < static_base_of m → is_writable m at ≡ true
writable m at past before =
    and_from (nat_le 64 at) (nat_lt at (static_base_of m)) (le-leb 64 at past) (lt-ltb at (static_base_of m) before)

module _ (s : State) (at : ℕ) where
  pub reads_byte : at < length s.memory → at < 65536 → Acts (read_byte at) (slice_index s.memory at) s s
  unfolding read_byte
  reads_byte inside low = record {
    is = ap (λ (b : Bool). if b then done (slice_index s.memory at) s else fault faults.Read s)
        (readable s.memory at inside low);
  }

  pub reads_word : at + 1 < length s.memory → at + 1 < 65536 → Acts (read_word at) (word_at s.memory at) s s
  unfolding read_word
  reads_word inside low = record {
    is = ap (λ (b : Bool). if b then done (word_at s.memory at) s else fault faults.Read s)
        (and_from (is_readable s.memory at) (is_readable s.memory (at + 1))
        (readable s.memory at (omega (arith, inside)) (omega (arith, low)))
        (readable s.memory (at + 1) inside low));
  }

  pub writes_byte : (byte : ℕ) → 64 ≤ at → at < static_base_of s.memory
      → Acts (write_byte at byte) tt s (record s { memory = slice_set (s.memory) at byte })
  unfolding write_byte
  writes_byte byte past before = record {
    is = ap
        (λ (b : Bool). if b then done tt (record s { memory = slice_set (s.memory) at byte }) else fault faults.Write s)
        (writable s.memory at past before);
  }

  pub writes_word : (word : ℕ) → 64 ≤ at → at + 1 < static_base_of s.memory
      → Acts (write_word at word) tt s (record s { memory = with_word (s.memory) at word })
  unfolding write_word
  writes_word word past before = record {
    is = ap
        (λ (b : Bool). if b then done tt (record s { memory = with_word (s.memory) at word }) else fault faults.Write s)
        (and_from (is_writable s.memory at) (is_writable s.memory (at + 1))
        (writable s.memory at past (omega (arith, before)))
        (writable s.memory (at + 1) (omega (arith, past)) before));
  }

-- Objects

module _ (n : ℕ) (s : State) (entries : HasEntries n s.memory) where
  pub tests_object : (o : ℕ) → IsObjectNumber n o → Acts (test_object o) tt s s
  unfolding test_object
  tests_object o i =
      record { is = ap (λ (b : Bool). test b faults.Object s) (object_has_entry n s.memory o entries i) }

  pub reads_link : (c : Link) → IsObjectNumber n (owner c) → Acts (read_link c) (links_of s.memory c) s s
  unfolding read_link
  reads_link c i =
      let room = place_room n s.memory c entries i in
      record { is = (reads_word s (place_of (defaults_of s.memory) c) room.inside room.low).is }
