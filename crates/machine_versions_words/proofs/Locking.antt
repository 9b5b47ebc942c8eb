-- How a word is spelled in versions 1 and 2, a code at a time.
use Rattle.std.proofs.Common.{◌≡◌, ◌≢◌, ◌==◌, ◌+◌, ◌<◌, ◌≤◌, ℕ, suc, List, ◌∷◌, ◌++◌, length, get_or, drop}
use Rattle.std.proofs.Common.{true, false, refl, sym, ap, ◌∙◌, subst, drop-cons, arith}
use Rattle.std.proofs.Common.{append-nil, append_assoc, ◌*◌, ◌-◌, Option, Some, None}
use Rattle.std.specs.Prelude.{option_map, slice_range}
use Rattle.std.proofs.lemmas.Bool.{eq-eqb, ne_eqb}
use Rattle.std.proofs.lemmas.List.{drop_all}
use Rattle.ztext.specs.Alphabets.{place_in}
use Rattle.ztext.specs.TextParts.{AreSmall, filled, IsFilledKey}
use Rattle.ztext.proofs.Packing.{small_append}
use Rattle.ztext.proofs.Keys.{filled_small}
use Rattle.zcore_versions.specs.LockedTexts.{alphabet_by, alphabet_of, alphabets_in, begins_in, first_letter}
use Rattle.zcore_versions.specs.LockedTexts.{letter_of, letter_or_escape, lock_to, shift_to}
use Rattle.zcore_versions.specs.LockedTexts.{spelled_within, spelled_with_locks}

module _ (version : ℕ) (word : List ℕ) (place code : ℕ) (lt : place < length word) (is : code ≡ get_or word place 0)
  where
    on : drop place word ≡ code ∷ drop (place + 1) word
    on =
        let more : suc place ≡ place + 1 = omega arith in
        drop-cons word place 0 lt ∙ ap (λ (c : ℕ). c ∷ drop (suc place) word) (sym is)
        ∙ ap (λ (k : ℕ). code ∷ drop k word) more

    -- a code of the alphabet that is locked
    pub spelled_same : (lock : ℕ) → alphabet_of version code ≡ lock
        → spelled_with_locks version lock (drop place word)
        ≡ spelled_within version code ++ spelled_with_locks version lock (drop (place + 1) word)
    unfolding spelled_with_locks
    spelled_same lock e = rw (on, eq-eqb (alphabet_of version code) lock e) refl

    -- one before another of its alphabet
    pub spelled_locked : (lock : ℕ) → alphabet_of version code ≢ lock
        → begins_in version (alphabet_of version code) (drop (place + 1) word) ≡ true
        → spelled_with_locks version lock (drop place word)
        ≡ (lock_to lock (alphabet_of version code) ∷ spelled_within version code)
        ++ spelled_with_locks version (alphabet_of version code) (drop (place + 1) word)
    unfolding spelled_with_locks
    spelled_locked lock other begins = rw (on, ne_eqb (alphabet_of version code) lock other, begins) refl

    -- one alone
    pub spelled_shifted : (lock : ℕ) → alphabet_of version code ≢ lock
        → begins_in version (alphabet_of version code) (drop (place + 1) word) ≡ false
        → spelled_with_locks version lock (drop place word)
        ≡ (shift_to lock (alphabet_of version code) ∷ spelled_within version code)
        ++ spelled_with_locks version lock (drop (place + 1) word)
    unfolding spelled_with_locks
    spelled_shifted lock other begins = rw (on, ne_eqb (alphabet_of version code) lock other, begins) refl

    module _ (alphabet : ℕ) (is_alphabet : alphabet ≡ alphabet_of version code) where
      letters : List ℕ
      letters = letter_or_escape (letter_of version alphabet code) code

      letters_are : spelled_within version code ≡ letters
      unfolding letters
      letters_are = ap (λ (a : ℕ). letter_or_escape (letter_of version a code) code) (sym is_alphabet)

      rest : ℕ → List ℕ
      rest lock = spelled_with_locks version lock (drop (place + 1) word)

      -- the same three, from what the code computes
      pub rest_same : (lock next : ℕ) (zs : List ℕ) → alphabet ≡ lock
          → zs ≡ letter_or_escape (letter_of version alphabet code) code → next ≡ lock
          → spelled_with_locks version lock (drop place word) ≡ zs ++ spelled_with_locks version next (drop (place + 1) word)
      unfolding letters rest
      rest_same lock next zs same e stays = spelled_same lock (sym is_alphabet ∙ same)
          ∙ ap (λ ys. ys ++ rest lock) (letters_are ∙ sym e) ∙ ap (λ (l : ℕ). zs ++ rest l) (sym stays)

      pub rest_locked : (lock next z : ℕ) (zs : List ℕ) → alphabet ≢ lock
          → begins_in version alphabet (drop (place + 1) word) ≡ true → z ≡ lock_to lock alphabet
          → zs ≡ z ∷ letter_or_escape (letter_of version alphabet code) code → next ≡ alphabet
          → spelled_with_locks version lock (drop place word) ≡ zs ++ spelled_with_locks version next (drop (place + 1) word)
      unfolding letters rest
      rest_locked lock next z zs other begins is_lock e moves =
          spelled_locked lock (λ same. other (is_alphabet ∙ same))
          (ap (λ (a : ℕ). begins_in version a (drop (place + 1) word)) (sym is_alphabet) ∙ begins)
          ∙ ap (λ (a : ℕ). (lock_to lock a ∷ spelled_within version code) ++ rest a) (sym is_alphabet)
          ∙ ap (λ ys. (lock_to lock alphabet ∷ ys) ++ rest alphabet) letters_are
          ∙ ap (λ (k : ℕ). (k ∷ letters) ++ rest alphabet) (sym is_lock)
          ∙ ap (λ ys. ys ++ rest alphabet) (sym e) ∙ ap (λ (l : ℕ). zs ++ rest l) (sym moves)

      pub rest_shifted : (lock next z : ℕ) (zs : List ℕ) → alphabet ≢ lock
          → begins_in version alphabet (drop (place + 1) word) ≡ false → z ≡ shift_to lock alphabet
          → zs ≡ z ∷ letter_or_escape (letter_of version alphabet code) code → next ≡ lock
          → spelled_with_locks version lock (drop place word) ≡ zs ++ spelled_with_locks version next (drop (place + 1) word)
      unfolding letters rest
      rest_shifted lock next z zs other begins is_shift e stays =
          spelled_shifted lock (λ same. other (is_alphabet ∙ same))
          (ap (λ (a : ℕ). begins_in version a (drop (place + 1) word)) (sym is_alphabet) ∙ begins)
          ∙ ap (λ (a : ℕ). (shift_to lock a ∷ spelled_within version code) ++ rest lock) (sym is_alphabet)
          ∙ ap (λ ys. (shift_to lock alphabet ∷ ys) ++ rest lock) letters_are
          ∙ ap (λ (k : ℕ). (k ∷ letters) ++ rest lock) (sym is_shift)
          ∙ ap (λ ys. ys ++ rest lock) (sym e) ∙ ap (λ (l : ℕ). zs ++ rest l) (sym stays)

-- the code at a place of a word, and none past its end

pub begins_at : (version alphabet found : ℕ) (word : List ℕ) (place : ℕ) → place < length word
    → found ≡ alphabet_of version (get_or word place 0)
    → (found == alphabet) ≡ begins_in version alphabet (drop place word)
begins_at version alphabet found word place lt is =
    ap (λ (a : ℕ). a == alphabet) is
    ∙ sym (ap (begins_in version alphabet) (on version word place (get_or word place 0) lt refl))

pub begins_past : (version alphabet : ℕ) (word : List ℕ) (place : ℕ) → length word ≤ place
    → false ≡ begins_in version alphabet (drop place word)
begins_past version alphabet word place le =
    sym (ap (begins_in version alphabet) (drop_all place word le))

-- A letter by its place

module _ (version alphabet code first : ℕ) (table : List ℕ) (found : Option ℕ)
    (is_first : first ≡ first_letter version alphabet) (is_table : table ≡ alphabets_in version)
    (is_found : found ≡ place_in (slice_range table (26 * alphabet + (first - 6)) (26 * alphabet + 26)) code)
  where
    place_is : found
        ≡ place_in (slice_range (alphabets_in version) (26 * alphabet + (first_letter version alphabet - 6))
        (26 * alphabet + 26)) code
    place_is = is_found
        ∙ ap (λ (t : List ℕ). place_in (slice_range t (26 * alphabet + (first - 6)) (26 * alphabet + 26)) code) is_table
        ∙ ap (λ (f : ℕ). place_in (slice_range (alphabets_in version) (26 * alphabet + (f - 6)) (26 * alphabet + 26)) code)
        is_first

    pub letter_found : (place : ℕ) → found ≡ Some place → Some (place + first) ≡ letter_of version alphabet code
    letter_found place some =
        ap (λ (f : ℕ). Some (place + f)) is_first
        ∙ ap (option_map (λ (p : ℕ). p + first_letter version alphabet)) (sym some ∙ place_is)

    pub no_letter : found ≡ None → None ≡ letter_of version alphabet code
    no_letter none = ap (option_map (λ (p : ℕ). p + first_letter version alphabet)) (sym none ∙ place_is)

-- the alphabet of a code, by what was found in the first two

pub first_alphabet : (version code z : ℕ) (o : Option ℕ) → o ≡ letter_of version 0 code → o ≡ Some z
    → 0 ≡ alphabet_of version code
first_alphabet version code z o is some =
    sym (ap (λ (k : Option ℕ). alphabet_by k (letter_of version 1 code)) (sym is ∙ some))

pub second_alphabet : (version code z : ℕ) (o p : Option ℕ) → o ≡ letter_of version 0 code → o ≡ None
    → p ≡ letter_of version 1 code → p ≡ Some z → 1 ≡ alphabet_of version code
second_alphabet version code z o p is none also some =
    sym (ap (λ (k : Option ℕ). alphabet_by k (letter_of version 1 code)) (sym is ∙ none)
    ∙ ap (alphabet_by None) (sym also ∙ some))

pub third_alphabet : (version code : ℕ) (o p : Option ℕ) → o ≡ letter_of version 0 code → o ≡ None
    → p ≡ letter_of version 1 code → p ≡ None → 2 ≡ alphabet_of version code
third_alphabet version code o p is none also neither =
    sym (ap (λ (k : Option ℕ). alphabet_by k (letter_of version 1 code)) (sym is ∙ none)
    ∙ ap (alphabet_by None) (sym also ∙ neither))

-- What is in a key so far, and what is still to be spelled

pub record SpellsFrom (version : ℕ) (word : List ℕ) (place lock count : ℕ) (key : List ℕ) : Type 0 where
  pub zs : List ℕ
  pub small : AreSmall zs
  pub filled_so_far : IsFilledKey zs count key
  pub rest : zs ++ spelled_with_locks version lock (drop place word) ≡ spelled_with_locks version 0 word

pub spells_on : (version : ℕ) (word : List ℕ) (place lock next count more : ℕ) (key after zs : List ℕ)
    → SpellsFrom version word place lock count key → AreSmall zs
    → spelled_with_locks version lock (drop place word) ≡ zs ++ spelled_with_locks version next (drop (place + 1) word)
    → ((so_far : List ℕ) → IsFilledKey so_far count key → IsFilledKey (so_far ++ zs) more after)
    → SpellsFrom version word (place + 1) next more after
spells_on version word place lock next count more key after zs h small e fills = record {
  zs = h.zs ++ zs;
  small = small_append h.zs zs h.small small;
  filled_so_far = fills h.zs h.filled_so_far;
  rest = append_assoc h.zs zs (spelled_with_locks version next (drop (place + 1) word))
      ∙ ap (λ l. h.zs ++ l) (sym e) ∙ h.rest;
}

all_spelled : (version : ℕ) (word : List ℕ) (place lock count : ℕ) (key : List ℕ) → length word ≤ place
    → (h : SpellsFrom version word place lock count key) → h.zs ≡ spelled_with_locks version 0 word
unfolding spelled_with_locks
all_spelled version word place lock count key le h =
    sym (append-nil h.zs) ∙ ap (λ l. h.zs ++ spelled_with_locks version lock l) (sym (drop_all place word le)) ∙ h.rest

pub spelled_is : (version : ℕ) (word : List ℕ) (place lock count : ℕ) (key : List ℕ) → length word ≤ place
    → SpellsFrom version word place lock count key → key ≡ filled (spelled_with_locks version 0 word)
spelled_is version word place lock count key le h =
    h.filled_so_far.characters ∙ ap filled (all_spelled version word place lock count key le h)

pub key_small : (version : ℕ) (word : List ℕ) (place lock count : ℕ) (key : List ℕ)
    → SpellsFrom version word place lock count key → AreSmall key
key_small version word place lock count key h =
    subst AreSmall (sym h.filled_so_far.characters) (filled_small h.zs h.small)
