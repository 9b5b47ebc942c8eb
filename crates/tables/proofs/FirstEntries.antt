-- The search of entries, one after the other.
use Rattle.std.proofs.Common.{◌≡◌, ◌≢◌, ◌==◌, ℕ, zero, suc, ◌+◌, ◌-◌, ◌*◌, ◌<◌, ◌≤◌, List, true, false, refl, sym, ap}
use Rattle.std.proofs.Common.{◌∙◌, arith}
use Rattle.std.proofs.lemmas.Bool.{eq-eqb, ne_eqb}
use Rattle.std.proofs.Math.Nat.{suc-mul}
use Rattle.zcore.specs.Dictionary.{entry_in, entry_of, is_dictionary}
use Rattle.zcore.specs.Header.{key_at, entry_length_of, first_entry}
use Rattle.tables.specs.declared.dictionary.Entries.{Entries}
use Rattle.tables.specs.Unordered.{AreEntriesOf}

entry_here : (memory : List ℕ) (at bytes count key : ℕ) → 0 < count → (key_at memory at == key) ≡ true
    → entry_in memory at bytes count key ≡ at
entry_here memory at bytes zero key some h = absurd (omega arith)
entry_here memory at bytes (suc count) key some h = rw h refl

entry_further : (memory : List ℕ) (at bytes count key : ℕ) → 0 < count → (key_at memory at == key) ≡ false
    → entry_in memory at bytes count key ≡ entry_in memory (at + bytes) bytes (count - 1) key
entry_further memory at bytes zero key some h = absurd (omega arith)
entry_further memory at bytes (suc count) key some h =
    let e : suc count - 1 ≡ count = omega arith in
    rw (h, e) refl

-- all before entry k have other keys
abbrev pub IsLeft : List ℕ → ℕ → ℕ → ℕ → ℕ → ℕ → Type 0
IsLeft memory first bytes count key k =
    entry_in memory first bytes count key ≡ entry_in memory (first + k * bytes) bytes (count - k) key

pub all_left : (memory : List ℕ) (first bytes count key : ℕ) → IsLeft memory first bytes count key 0
all_left memory first bytes count key =
    let e : first ≡ first + 0 * bytes = omega arith in
    let f : count ≡ count - 0 = omega arith in
    ap (λ a. entry_in memory a bytes count key) e ∙ ap (λ n. entry_in memory (first + 0 * bytes) bytes n key) f

pub found_here : (memory : List ℕ) (first bytes count key k found : ℕ) → k < count
    → IsLeft memory first bytes count key k → found ≡ key_at memory (first + k * bytes) → found ≡ key
    → first + k * bytes ≡ entry_in memory first bytes count key
found_here memory first bytes count key k found some left is e =
    let here = entry_here memory (first + k * bytes) bytes (count - k) key (omega (arith, some))
    (eq-eqb _ key (sym is ∙ e)) in
    sym (left ∙ here)

pub one_less : (memory : List ℕ) (first bytes count key k found : ℕ) → k < count
    → IsLeft memory first bytes count key k → found ≡ key_at memory (first + k * bytes) → found ≢ key
    → IsLeft memory first bytes count key (k + 1)
one_less memory first bytes count key k found some left is other =
    let none : (key_at memory (first + k * bytes) == key) ≡ false = rw is at (ne_eqb found key other) in
    let next : first + k * bytes + bytes ≡ first + (k + 1) * bytes = omega (arith, suc-mul k bytes) in
    let fewer : count - k - 1 ≡ count - (k + 1) = omega arith in
    left ∙ entry_further memory (first + k * bytes) bytes (count - k) key (omega (arith, some)) none
    ∙ ap (λ a. entry_in memory a bytes (count - k - 1) key) next
    ∙ ap (λ n. entry_in memory (first + (k + 1) * bytes) bytes n key) fewer

pub none_left : (memory : List ℕ) (first bytes count key k : ℕ) → count ≤ k
    → IsLeft memory first bytes count key k → 0 ≡ entry_in memory first bytes count key
none_left memory first bytes count key k all left =
    let e : count - k ≡ 0 = omega (arith, all) in
    sym (left ∙ ap (λ n. entry_in memory (first + k * bytes) bytes n key) e)

-- The entry that the definition gives

pub first_found : (story : List ℕ) (dictionary : ℕ) (entries : Entries) (key number result : ℕ)
    → AreEntriesOf story dictionary entries → key ≡ number
    → result ≡ entry_in story entries.first entries.bytes entries.count key
    → result ≡ entry_of story dictionary number
unfolding entry_of
first_found story dictionary entries key number result are is found =
    rw are.readable (found
    ∙ ap (entry_in story entries.first entries.bytes entries.count) is
    ∙ ap (λ a. entry_in story a entries.bytes entries.count number) are.first
    ∙ ap (λ b. entry_in story (first_entry story dictionary) b entries.count number) are.bytes
    ∙ ap (λ n. entry_in story (first_entry story dictionary) (entry_length_of story dictionary) n number) are.count)

pub none_readable : (story : List ℕ) (dictionary number : ℕ) → is_dictionary story dictionary ≡ false
    → 0 ≡ entry_of story dictionary number
unfolding entry_of
none_readable story dictionary number none = rw none refl
