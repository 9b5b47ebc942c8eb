-- The search of entries with keys of four bytes, one after the other.
use Rattle.std.proofs.Common.{◌≡◌, ◌≢◌, ◌==◌, ◌||◌, ℕ, zero, suc, ◌+◌, ◌-◌, ◌*◌, ◌<◌, ◌≤◌, List, Bool, true, false, nat_le, refl}
use Rattle.std.proofs.Common.{sym, ap, ◌∙◌, arith, drop}
use Rattle.std.proofs.lemmas.Bool.{eq-eqb, ne_eqb, le-leb, leb-true, eqb-true}
use Rattle.std.proofs.Math.Nat.{suc-mul, mul-le-mul_right}
use Rattle.byteorder.specs.Endian.{big_number}
use Rattle.zcore.specs.Dictionary.{entries_in}
use Rattle.zcore.specs.Header.{HasDictionaryHead, entry_length_of, first_entry, static_end}
use Rattle.zcore_versions.specs.Keys.{entry_in, entry_of, is_dictionary, keys_end}
use Rattle.machine_versions_words.specs.declared.keys.Entries.{Entries}
use Rattle.machine_versions_words.specs.Parts.{AreEntriesOf, AreKeysWithin}

entry_here : (memory : List ℕ) (at bytes count key : ℕ) → 0 < count → (big_number 4 (drop at memory) == key) ≡ true
    → entry_in 4 memory at bytes count key ≡ at
entry_here memory at bytes zero key some h = absurd (omega arith)
entry_here memory at bytes (suc count) key some h = rw h refl

entry_further : (memory : List ℕ) (at bytes count key : ℕ) → 0 < count
    → (big_number 4 (drop at memory) == key) ≡ false
    → entry_in 4 memory at bytes count key ≡ entry_in 4 memory (at + bytes) bytes (count - 1) key
entry_further memory at bytes zero key some h = absurd (omega arith)
entry_further memory at bytes (suc count) key some h =
    let e : suc count - 1 ≡ count = omega arith in
    rw (h, e) refl

-- all before entry k have other keys
abbrev pub IsLeft : List ℕ → ℕ → ℕ → ℕ → ℕ → ℕ → Type 0
IsLeft memory first bytes count key k =
    entry_in 4 memory first bytes count key ≡ entry_in 4 memory (first + k * bytes) bytes (count - k) key

pub all_left : (memory : List ℕ) (first bytes count key : ℕ) → IsLeft memory first bytes count key 0
all_left memory first bytes count key =
    let e : first ≡ first + 0 * bytes = omega arith in
    let f : count ≡ count - 0 = omega arith in
    ap (λ a. entry_in 4 memory a bytes count key) e ∙ ap (λ n. entry_in 4 memory (first + 0 * bytes) bytes n key) f

pub found_here : (memory : List ℕ) (first bytes count key k found : ℕ) → k < count
    → IsLeft memory first bytes count key k → found ≡ big_number 4 (drop (first + k * bytes) memory) → found ≡ key
    → first + k * bytes ≡ entry_in 4 memory first bytes count key
found_here memory first bytes count key k found some left is e =
    let here = entry_here memory (first + k * bytes) bytes (count - k) key (omega (arith, some))
    (eq-eqb _ key (sym is ∙ e)) in
    sym (left ∙ here)

pub one_less : (memory : List ℕ) (first bytes count key k found : ℕ) → k < count
    → IsLeft memory first bytes count key k → found ≡ big_number 4 (drop (first + k * bytes) memory) → found ≢ key
    → IsLeft memory first bytes count key (k + 1)
one_less memory first bytes count key k found some left is other =
    let none : (big_number 4 (drop (first + k * bytes) memory) == key) ≡ false = rw is at (ne_eqb found key other) in
    let next : first + k * bytes + bytes ≡ first + (k + 1) * bytes = omega (arith, suc-mul k bytes) in
    let fewer : count - k - 1 ≡ count - (k + 1) = omega arith in
    left ∙ entry_further memory (first + k * bytes) bytes (count - k) key (omega (arith, some)) none
    ∙ ap (λ a. entry_in 4 memory a bytes (count - k - 1) key) next
    ∙ ap (λ n. entry_in 4 memory (first + (k + 1) * bytes) bytes n key) fewer

pub none_left : (memory : List ℕ) (first bytes count key k : ℕ) → count ≤ k
    → IsLeft memory first bytes count key k → 0 ≡ entry_in 4 memory first bytes count key
none_left memory first bytes count key k all left =
    let e : count - k ≡ 0 = omega (arith, all) in
    sym (left ∙ ap (λ n. entry_in 4 memory (first + k * bytes) bytes n key) e)

-- The entries of a dictionary, and the entry that the definition gives

abbrev end_with : ℕ → ℕ → ℕ → ℕ → ℕ
end_with first bytes count size = first + (count - 1) * bytes + size

pub dictionary_is : (size : ℕ) (memory : List ℕ) (dictionary end : ℕ) (entries : Entries) (b : Bool)
    → HasDictionaryHead memory dictionary → AreEntriesOf memory dictionary entries → end ≡ static_end memory
    → b ≡ (entries.count == 0 || nat_le (entries.first + (entries.count - 1) * entries.bytes + size) end)
    → b ≡ is_dictionary size memory dictionary
dictionary_is size memory dictionary end entries b head are is e =
    let readable : nat_le (first_entry memory dictionary) (static_end memory) ≡ true = le-leb _ _ head in
    e ∙ ap (λ n. entries.count == 0 || nat_le (end_with entries.first entries.bytes entries.count size) n) is
    ∙ ap (λ n. entries.count == 0 || nat_le (end_with n entries.bytes entries.count size) (static_end memory)) are.first
    ∙ ap (λ n. entries.count == 0
    || nat_le (end_with (first_entry memory dictionary) n entries.count size) (static_end memory)) are.bytes
    ∙ ap (λ n. n == 0 || nat_le (end_with (first_entry memory dictionary) (entry_length_of memory dictionary) n size)
    (static_end memory)) are.count
    ∙ (rw readable refl)

key_within : (first bytes count end k : ℕ) (b : Bool) → (count == 0) ≡ b
    → (b || nat_le (first + (count - 1) * bytes + 4) end) ≡ true → k < count → first + k * bytes + 4 ≤ end
key_within first bytes count end k true none h lt = absurd (omega (arith, lt, eqb-true count 0 none))
key_within first bytes count end k false some h lt =
    let before : k * bytes ≤ (count - 1) * bytes = mul-le-mul_right bytes (omega (arith, lt)) in
    omega (arith, before, leb-true (first + (count - 1) * bytes + 4) end h)

pub keys_within : (memory : List ℕ) (dictionary end : ℕ) (entries : Entries) → AreEntriesOf memory dictionary entries
    → end ≡ static_end memory
    → (entries.count == 0 || nat_le (entries.first + (entries.count - 1) * entries.bytes + 4) end) ≡ true
    → AreKeysWithin memory entries
keys_within memory dictionary end entries are is h = record {
  within = λ k lt. omega (
    arith,
    is,
    key_within entries.first entries.bytes entries.count end k (entries.count == 0) refl h lt,
  );
  short = are.short;
  few = are.few;
}

pub first_found : (memory : List ℕ) (dictionary : ℕ) (entries : Entries) (key number result : ℕ)
    → AreEntriesOf memory dictionary entries → is_dictionary 4 memory dictionary ≡ true → key ≡ number
    → result ≡ entry_in 4 memory entries.first entries.bytes entries.count key
    → result ≡ entry_of 4 memory dictionary number
unfolding entry_of
first_found memory dictionary entries key number result are readable is found =
    rw readable (found
    ∙ ap (entry_in 4 memory entries.first entries.bytes entries.count) is
    ∙ ap (λ a. entry_in 4 memory a entries.bytes entries.count number) are.first
    ∙ ap (λ b. entry_in 4 memory (first_entry memory dictionary) b entries.count number) are.bytes
    ∙ ap (λ n. entry_in 4 memory (first_entry memory dictionary) (entry_length_of memory dictionary) n number) are.count)

pub none_readable : (memory : List ℕ) (dictionary number : ℕ) → is_dictionary 4 memory dictionary ≡ false
    → 0 ≡ entry_of 4 memory dictionary number
unfolding entry_of
none_readable memory dictionary number none = rw none refl
