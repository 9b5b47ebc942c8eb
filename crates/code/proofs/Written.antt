-- What a story reads where a dictionary was written.
use Rattle.std.proofs.Common.{◌≡◌, ◌==◌, ℕ, zero, suc, ◌+◌, ◌-◌, ◌*◌, ◌/◌, ◌%◌, ◌^◌, ◌<◌, ◌≤◌, if◌then◌else◌}
use Rattle.std.proofs.Common.{List, [], ◌∷◌, length, take, drop, get_or, slice_index, refl, ap, sym, ◌∙◌, subst, arith}
use Rattle.std.specs.Prelude.{map, slice_range}
use Rattle.std.specs.List.{AllByRecursion, flat_map}
use Rattle.std.specs.List.Sorted.{IsStrictlyIncreasing}
use Rattle.std.proofs.lemmas.List.{get_or-take, get_or-drop, length-map, get_or_append_left, length-append}
use Rattle.byteorder.specs.Endian.{big_from}
use Rattle.ztext.specs.Bytes.{word_at}
use Rattle.zcore.specs.Header.{separator_count, entry_length_of, entry_count, first_entry, static_end, key_at}
use Rattle.zcore.specs.Header.{IsDictionary}
use Rattle.ztext.specs.Text.{Holds}
use Rattle.ztext.proofs.Holding.{holds_append}
use Rattle.zcore.specs.Dictionary.{number_of_key, entry_in}
use Rattle.zcore.proofs.Searching.{entry_listed}
use Rattle.tables.specs.Dictionary.{head_bytes, entry_bytes, dictionary_bytes, ReadsKeys}
use Rattle.tables.specs.KeyNumbers.{place_in}

-- a byte of those that stand at an address
pub byte_of : (story : List ℕ) (at : ℕ) (bytes : List ℕ) (k : ℕ) → Holds story at bytes → k < length bytes
    → slice_index story (at + k) ≡ slice_index bytes k
byte_of story at bytes k h lt = sym (get_or-drop at story k 0)
    ∙ sym (get_or-take (length bytes) (drop at story) k 0 lt) ∙ ap (λ l. slice_index l k) h

big_same : (count from : ℕ) (xs ys : List ℕ) → ((k : ℕ) → k < from + count → slice_index xs k ≡ slice_index ys k)
    → big_from from count xs ≡ big_from from count ys
big_same zero from xs ys h = refl
big_same (suc count) from xs ys h =
    ap (λ x. x * 256 ^ count + big_from (suc from) count xs) (h from (omega arith))
    ∙ ap (λ x. slice_index ys from * 256 ^ count + x)
    (big_same count (suc from) xs ys (λ k lt. h k (omega (arith, lt))))

-- the key of an entry that stands at an address
key_of_entry : (story : List ℕ) (at : ℕ) (key : List ℕ) → length key ≡ 6 → Holds story at (entry_bytes key)
    → key_at story at ≡ number_of_key key
unfolding key_at number_of_key
key_of_entry story at key six h =
    big_same 6 0 (drop at story) key
    (λ k lt. get_or-drop at story k 0 ∙ byte_of story at (entry_bytes key) k h
    (omega (arith, length-append key (0 ∷ 0 ∷ 0 ∷ []), six, lt))
    ∙ get_or_append_left key (0 ∷ 0 ∷ 0 ∷ []) 0 k (omega (arith, six, lt)))

abbrev pub AreKeys : List (List ℕ) → Type 0
AreKeys keys = AllByRecursion (λ (k : List ℕ). length k ≡ 6) keys

-- the entries, one after another
entries_read : (story : List ℕ) (keys : List (List ℕ)) (at : ℕ) → AreKeys keys
    → Holds story at (flat_map entry_bytes keys)
    → (k : ℕ) → k < length keys → key_at story (at + k * 9) ≡ slice_index (map number_of_key keys) k
entries_read story [] at six h k lt = absurd (omega (arith, lt))
entries_read story (key ∷ keys) at six h zero lt =
    let p = holds_append story at (entry_bytes key) (flat_map entry_bytes keys) h in
    let z : at + 0 * 9 ≡ at = omega arith in
    ap (key_at story) z ∙ key_of_entry story at key six.0 p.0
entries_read story (key ∷ keys) at six h (suc k) lt =
    let p = holds_append story at (entry_bytes key) (flat_map entry_bytes keys) h in
    let z : at + suc k * 9 ≡ at + length (entry_bytes key) + k * 9 = omega
    (arith, length-append key (0 ∷ 0 ∷ 0 ∷ []), six.0) in
    ap (key_at story) z ∙ entries_read story keys (at + length (entry_bytes key)) six.1 p.1 k (omega (arith, lt))

numbers_read : (story : List ℕ) (keys : List (List ℕ)) (at key : ℕ) → AreKeys keys
    → Holds story at (flat_map entry_bytes keys)
    → entry_in story at 9 (length keys) key ≡ place_in at (map number_of_key keys) key
numbers_read story [] at key six h = refl
numbers_read story (k ∷ ks) at key six h =
    let p = holds_append story at (entry_bytes k) (flat_map entry_bytes ks) h in
    let z : at + length (entry_bytes k) ≡ at + 9 = omega (arith, length-append k (0 ∷ 0 ∷ 0 ∷ []), six.0) in
    ap (λ x. if x == key then at else entry_in story (at + 9) 9 (length ks) key) (key_of_entry story at k six.0 p.0)
    ∙ ap (λ y. if number_of_key k == key then at else y)
    (numbers_read story ks (at + 9) key six.1 (subst (λ a. Holds story a (flat_map entry_bytes ks)) z p.1))

length_entries : (keys : List (List ℕ)) → AreKeys keys → length (flat_map entry_bytes keys) ≡ 9 * length keys
length_entries [] six = refl
length_entries (k ∷ ks) six =
    omega (
      arith,
      length-append (entry_bytes k) (flat_map entry_bytes ks),
      length-append k (0 ∷ 0 ∷ 0 ∷ []),
      six.0,
      length_entries ks six.1,
    )

pub length_dictionary : (keys : List (List ℕ)) → AreKeys keys → length (dictionary_bytes keys) ≡ 7 + 9 * length keys
length_dictionary keys six =
    length-append (head_bytes (length keys)) (flat_map entry_bytes keys) ∙ ap (λ x. 7 + x) (length_entries keys six)

-- each of so many has six bytes
pub keys_each : (keys : List (List ℕ)) → ((k : ℕ) → k < length keys → length (get_or keys k []) ≡ 6) → AreKeys keys
keys_each [] h = tt
keys_each (k ∷ ks) h = (h 0 (omega arith), keys_each ks (λ i lt. h (suc i) (omega (arith, lt))))

pub reads_back : (story : List ℕ) (at : ℕ) (keys : List (List ℕ)) → AreKeys keys
    → IsStrictlyIncreasing (map number_of_key keys) → length keys ≤ 7281
    → Holds story at (dictionary_bytes keys) → at + length (dictionary_bytes keys) ≤ static_end story
    → ReadsKeys story at (map number_of_key keys)
reads_back story at keys six ascending few h within =
    let n = length keys in
    let p = holds_append story at (head_bytes n) (flat_map entry_bytes keys) h in
    let zero_th : at + 0 ≡ at = omega arith in
    let separators : separator_count story at ≡ 3 = ap (slice_index story) (sym zero_th)
    ∙ byte_of story at (head_bytes n) 0 p.0 (omega arith) in
    let three : at + 1 + separator_count story at - (at + 1) ≡ 3 = omega (arith, separators) in
    let behind = holds_append story at (3 ∷ []) (46 ∷ 44 ∷ 34 ∷ 9 ∷ (n / 256) ∷ (n % 256) ∷ []) p.0 in
    let named : slice_range story (at + 1) (at + 1 + separator_count story at) ≡ 46 ∷ 44 ∷ 34 ∷ [] =
    ap (λ k. take k (drop (at + 1) story)) three
    ∙ (holds_append story (at + 1) (46 ∷ 44 ∷ 34 ∷ []) (9 ∷ (n / 256) ∷ (n % 256) ∷ []) behind.1).0 in
    let at_length : at + 1 + separator_count story at ≡ at + 4 = omega (arith, separators) in
    let bytes : entry_length_of story at ≡ 9 = ap (slice_index story) at_length
    ∙ byte_of story at (head_bytes n) 4 p.0 (omega arith) in
    let at_count : at + 2 + separator_count story at ≡ at + 5 = omega (arith, separators) in
    let at_low : at + 5 + 1 ≡ at + 6 = omega arith in
    let high : slice_index story (at + 5) ≡ n / 256 = byte_of story at (head_bytes n) 5 p.0 (omega arith) in
    let low : slice_index story (at + 5 + 1) ≡ n % 256 = ap (slice_index story) at_low
    ∙ byte_of story at (head_bytes n) 6 p.0 (omega arith) in
    let count : entry_count story at ≡ n = ap (word_at story) at_count ∙ omega (arith, high, low) in
    let first : first_entry story at ≡ at + 7 = omega (arith, separators) in
    let size : length (dictionary_bytes keys) ≡ 7 + 9 * n = length_dictionary keys six in
    let key : (k : ℕ) → k < n → key_at story (first_entry story at + k * entry_length_of story at)
    ≡ slice_index (map number_of_key keys) k =
    λ k lt. ap (λ a. key_at story (a + k * entry_length_of story at)) first
    ∙ ap (λ b. key_at story (at + 7 + k * b)) bytes ∙ entries_read story keys (at + 7) six p.1 k lt in
    let dictionary : IsDictionary story at = record {
      whole = rw (first, count, bytes) (omega (arith, within, size));
      entry_length = rw bytes (omega arith);
      count = rw count (omega (arith, few));
      ascending = λ k lt.
          rw (key k (omega (arith, lt, count)), key (k + 1) (omega (arith, lt, count)))
          (ascending k (omega (arith, lt, count, length-map keys number_of_key)));
    } in
    record {
      dictionary = dictionary;
      separators = named;
      numbers = λ x. entry_listed story at x dictionary
          ∙ ap (λ a. entry_in story a (entry_length_of story at) (entry_count story at) x) first
          ∙ ap (λ b. entry_in story (at + 7) b (entry_count story at) x) bytes
          ∙ ap (λ c. entry_in story (at + 7) 9 c x) count ∙ numbers_read story keys (at + 7) x six p.1;
    }
