-- A look-up in memory that keeps a story's static part finds what one in the story finds: a word.
use Rattle.std.proofs.Common.{◌≡◌, ℕ, zero, suc, ◌+◌, ◌-◌, ◌*◌, ◌==◌, ◌<◌, ◌≤◌, Bool, true, false, cond, List, take}
use Rattle.std.proofs.Common.{drop, length, slice_index, refl, sym, ap, ◌∙◌, subst, arith}
use Rattle.std.specs.Prelude.{if◌then◌else◌}
use Rattle.std.proofs.Math.Nat.{suc-mul}
use Rattle.std.proofs.lemmas.List.{get_or-drop, length-drop}
use Rattle.byteorder.specs.Endian.{big_number}
use Rattle.ztext.specs.Bytes.{word_at}
use Rattle.zcore.specs.Header.{key_at, first_entry, entry_length_of, entry_count, IsDictionary}
use Rattle.zcore.specs.Dictionary.{entry_in, entry_of}
use Rattle.zcore.proofs.Searching.{dictionary_same, entry_listed}
use Rattle.zcore.specs.Parsing.{separators_of}
use Rattle.code.proofs.Regions.{same_on}

-- an entry stands before the end of all

one_low : (found : Bool) (at rest end : ℕ) → at < end → rest < end → cond found at rest < end
one_low true at rest end a b = a
one_low false at rest end a b = b

low_in : (story : List ℕ) (at bytes count key end : ℕ) → 1 ≤ bytes → 0 < end → at + count * bytes ≤ end
    → entry_in story at bytes count key < end
low_in story at bytes zero key end some room fits = room
low_in story at bytes (suc count) key end some room fits =
    let more = suc-mul count bytes in
    one_low (key_at story at == key) at (entry_in story (at + bytes) bytes count key) end
    (omega (arith, more, fits, some))
    (low_in story (at + bytes) bytes count key end some room (omega (arith, more, fits)))

pub entry_word : (story : List ℕ) (dictionary key : ℕ) → IsDictionary story dictionary
    → entry_of story dictionary key < 65536
entry_word story dictionary key is =
    let whole = is.whole in
    let long = is.entry_length in
    subst (λ n. n < 65536) (sym (entry_listed story dictionary key is))
    (low_in story (first_entry story dictionary) (entry_length_of story dictionary) (entry_count story dictionary) key
    65536 (omega (arith, long)) (omega arith) (omega (arith, whole)))

module _ (base : ℕ) (story m : List ℕ) (kept : drop base m ≡ drop base story) where
  byte_same : (q : ℕ) → base ≤ q → slice_index m q ≡ slice_index story q
  byte_same q high =
      let e : base + (q - base) ≡ q = omega (arith, high) in
      ap (slice_index m) (sym e) ∙ sym (get_or-drop base m (q - base) 0) ∙ ap (λ bs. slice_index bs (q - base)) kept
      ∙ get_or-drop base story (q - base) 0 ∙ ap (slice_index story) e

  word_same : (q : ℕ) → base ≤ q → word_at m q ≡ word_at story q
  word_same q high =
      ap (λ x. x * 256 + slice_index m (q + 1)) (byte_same q high)
      ∙ ap (λ x. slice_index story q * 256 + x) (byte_same (q + 1) (omega (arith, high)))

  key_same : (at : ℕ) → base ≤ at → key_at m at ≡ key_at story at
  unfolding key_at
  key_same at high = ap (big_number 6) (same_on base at story m kept high)

  entries_same : (at bytes count key : ℕ) → base ≤ at
      → entry_in m at bytes count key ≡ entry_in story at bytes count key
  entries_same at bytes zero key high = refl
  entries_same at bytes (suc count) key high =
      ap (λ (k : ℕ). if k == key then at else entry_in m (at + bytes) bytes count key) (key_same at high)
      ∙ ap (λ (x : ℕ). if key_at story at == key then at else x)
      (entries_same (at + bytes) bytes count key (omega (arith, high)))

  -- what lies from static base on is as long in the one as in the other
  long_same : (dictionary : ℕ) → base ≤ dictionary → IsDictionary story dictionary → length m ≡ length story
  long_same dictionary high is =
      let whole = is.whole in
      omega (arith, high, whole, length-drop base m, length-drop base story, ap length kept)

  pub entry_same : (dictionary key : ℕ) → base ≤ dictionary → IsDictionary story dictionary
      → entry_of m dictionary key ≡ entry_of story dictionary key
  entry_same dictionary key high is =
      let n = slice_index story dictionary in
      let at = dictionary + 4 + n in
      let long = long_same dictionary high is in
      entry_listed m dictionary key (dictionary_same story m base kept dictionary high long is)
      ∙ ap (λ (k : ℕ). entry_in m (dictionary + 4 + k) (slice_index m (dictionary + 1 + k))
      (word_at m (dictionary + 2 + k)) key) (byte_same dictionary high)
      ∙ ap (λ (k : ℕ). entry_in m at k (word_at m (dictionary + 2 + n)) key)
      (byte_same (dictionary + 1 + n) (omega (arith, high)))
      ∙ ap (λ (k : ℕ). entry_in m at (slice_index story (dictionary + 1 + n)) k key)
      (word_same (dictionary + 2 + n) (omega (arith, high)))
      ∙ entries_same at (slice_index story (dictionary + 1 + n)) (word_at story (dictionary + 2 + n)) key
      (omega (arith, high))
      ∙ sym (entry_listed story dictionary key is)

  pub separators_same : (dictionary : ℕ) → base ≤ dictionary
      → separators_of m dictionary ≡ separators_of story dictionary
  separators_same dictionary high =
      let n = slice_index story dictionary in
      ap (λ (k : ℕ). take (dictionary + 1 + k - (dictionary + 1)) (drop (dictionary + 1) m)) (byte_same dictionary high)
      ∙ ap (take (dictionary + 1 + n - (dictionary + 1))) (same_on base (dictionary + 1) story m kept
      (omega (arith, high)))
