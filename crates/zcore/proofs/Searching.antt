-- A dictionary is a fact of the bytes from its address on.
use Rattle.std.proofs.Common.{◌≡◌, ◌==◌, ◌&&◌, ◌||◌, ℕ, zero, suc, nat_le, ◌+◌, ◌-◌, ◌*◌, ◌≤◌, Bool, true, false, List, length}
use Rattle.std.proofs.Common.{drop, slice_index, refl, ap, sym, ◌∙◌, subst, arith}
use Rattle.std.proofs.lemmas.Bool.{le-leb, lt-leb}
use Rattle.std.proofs.lemmas.List.{get_or-drop, drop-drop}
use Rattle.std.proofs.Math.Nat.{suc-mul}
use Rattle.byteorder.specs.Endian.{big_number}
use Rattle.zcore.specs.Header.{separator_count, entry_length_of, entry_count, first_entry, key_at, static_end}
use Rattle.zcore.specs.Header.{HasDictionaryHead, IsDictionary}
use Rattle.zcore.specs.Dictionary.{entries_in, entry_in, entry_of, is_dictionary}

or_true : (b : Bool) → (b || true) ≡ true
or_true true = refl
or_true false = refl

-- entries that are whole have keys that can be read
keys_readable : (first bytes count end : ℕ) → 6 ≤ bytes → first + count * bytes ≤ end
    → (nat_le first end && ((count == 0) || nat_le (first + (count - 1) * bytes + 6) end)) ≡ true
keys_readable first bytes zero end long whole = rw (le-leb first end (omega (arith, whole))) refl
keys_readable first bytes (suc count) end long whole =
    let more = suc-mul count bytes in
    let before : suc count - 1 ≡ count = omega arith in
    let head = le-leb first end (omega (arith, more, whole)) in
    let last = le-leb (first + count * bytes + 6) end (omega (arith, more, whole, long)) in
    rw (head, before, last) (or_true (suc count == 0))

-- a dictionary that can be searched by halving can be read
pub ordered_readable : (story : List ℕ) (at : ℕ) → IsDictionary story at → is_dictionary story at ≡ true
ordered_readable story at d =
    let positive = lt-leb 32768 (entry_count story at) (omega (arith, d.count)) in
    rw positive (keys_readable (first_entry story at) (entry_length_of story at) (entry_count story at)
    (static_end story) d.entry_length d.whole)

-- and its number of entries is not negative
pub entry_listed : (story : List ℕ) (at key : ℕ) → IsDictionary story at
    → entry_of story at key
    ≡ entry_in story (first_entry story at) (entry_length_of story at) (entry_count story at) key
unfolding entry_of
entry_listed story at key d =
    let readable = ordered_readable story at d in
    let positive = lt-leb 32768 (entry_count story at) (omega (arith, d.count)) in
    let count : entries_in story at ≡ entry_count story at = rw positive refl in
    rw readable (ap (λ n. entry_in story (first_entry story at) (entry_length_of story at) n key) count)

-- two stories with the same bytes from an address on
module _ (m n : List ℕ) (base : ℕ) (same : drop base n ≡ drop base m) where
  byte_same : (q : ℕ) → base ≤ q → slice_index n q ≡ slice_index m q
  byte_same q le =
      let z : base + (q - base) ≡ q = omega (arith, le) in
      ap (slice_index n) (sym z) ∙ sym (get_or-drop base n (q - base) 0) ∙ ap (λ l. slice_index l (q - base)) same
      ∙ get_or-drop base m (q - base) 0 ∙ ap (slice_index m) z

  key_same : (q : ℕ) → base ≤ q → key_at n q ≡ key_at m q
  unfolding key_at
  key_same q le =
      let z : base + (q - base) ≡ q = omega (arith, le) in
      let e : drop q n ≡ drop q m = subst (λ x. drop x n ≡ drop x m) z (sym (drop-drop (q - base) base n)
      ∙ ap (drop (q - base)) same ∙ drop-drop (q - base) base m) in
      ap (big_number 6) e

  -- what comes before the entries in the one does so in the other
  pub head_same : (at : ℕ) → base ≤ at → length n ≡ length m → HasDictionaryHead m at → HasDictionaryHead n at
  head_same at le long head =
      let separators : separator_count n at ≡ separator_count m at = byte_same at le in
      omega (arith, separators, long, head)

  -- what is a dictionary in the one is a dictionary in the other
  pub dictionary_same : (at : ℕ) → base ≤ at → length n ≡ length m → IsDictionary m at → IsDictionary n at
  dictionary_same at le long d =
      let separators : separator_count n at ≡ separator_count m at = byte_same at le in
      let place : at + 1 + separator_count n at ≡ at + 1 + separator_count m at = ap (λ x. at + 1 + x) separators in
      let bytes : entry_length_of n at ≡ entry_length_of m at = ap (slice_index n) place
      ∙ byte_same (at + 1 + separator_count m at) (omega (arith, le)) in
      let high : slice_index n (at + 2 + separator_count n at) ≡ slice_index m (at + 2 + separator_count m at) =
      ap (λ x. slice_index n (at + 2 + x)) separators ∙ byte_same (at + 2 + separator_count m at) (omega (arith, le))
      in
      let low : slice_index n (at + 2 + separator_count n at + 1) ≡ slice_index m (at + 2 + separator_count m at + 1)
      =
      ap (λ x. slice_index n (at + 2 + x + 1)) separators ∙ byte_same (at + 2 + separator_count m at + 1)
      (omega (arith, le)) in
      let count : entry_count n at ≡ entry_count m at = omega (arith, high, low) in
      let first : first_entry n at ≡ first_entry m at = ap (λ x. at + 4 + x) separators in
      let key : (k : ℕ) → key_at n (first_entry n at + k * entry_length_of n at)
      ≡ key_at m (first_entry m at + k * entry_length_of m at) =
      λ k. ap (λ f. key_at n (f + k * entry_length_of n at)) first ∙ ap (λ b. key_at n (first_entry m at + k * b))
      bytes ∙ key_same (first_entry m at + k * entry_length_of m at) (omega (arith, le)) in
      record {
        whole = rw (first, count, bytes, long) d.whole;
        entry_length = rw bytes d.entry_length;
        count = rw count d.count;
        ascending = λ k lt. rw (key k, key (k + 1)) (d.ascending k (omega (arith, lt, count)));
      }
