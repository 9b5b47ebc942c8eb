-- What the dictionary of a story numbers.
use Rattle.std.proofs.Common.{◌≡◌, ◌≢◌, ◌+◌, ◌*◌, ◌<◌, ◌≤◌, ◌==◌, inl, inr, ℕ, suc, Bool, true, false, List, [], ◌∷◌}
use Rattle.std.proofs.Common.{cond, length, refl, sym, ap, ◌∙◌, arith}
use Rattle.std.proofs.lemmas.Bool.Decides.{nat_tests}
use Rattle.std.proofs.Math.Nat.{mod-eq_of_lt}
use Rattle.checker_values.specs.Keys.{IsKeyAmong}
use Rattle.tables.specs.KeyNumbers.{key_number, place_in}
use Rattle.meaning.specs.Resolved.{ProgramOf}
use Rattle.meaning.specs.Places.{dictionary_place, routines_place, number_in}
use Rattle.code_drafts.specs.Addresses.{Addresses}
use Rattle.code.specs.HeldProgram.{HoldsProgram}
use Rattle.story.specs.Compiled.{NumbersKeys}
use Rattle.zcore.specs.Layout.{greatest_word}

-- Entries from a place on

record StandsInDictionary (at count place : ℕ) : Type 0 where
  behind : at ≤ place
  before : place < at + 9 * count

rest_of : (k key : ℕ) (ks : List ℕ) → IsKeyAmong key (k ∷ ks) → (k == key) ≡ false → IsKeyAmong key ks
rest_of k key ks m n = elim m [
  | inl e ↦ absurd (grind (arith, n, e, nat_tests))
  | inr more ↦ more
]

-- a key stands among the entries
stands_in : (at : ℕ) (ks : List ℕ) (key : ℕ) → IsKeyAmong key ks
    → StandsInDictionary at (length ks) (place_in at ks key)
stands_in at [] key m = absurd m
stands_in at (k ∷ ks) key m = here (k == key) refl (λ more. stands_in (at + 9) ks key more)
  where
    here : (b : Bool) → (k == key) ≡ b
        → (IsKeyAmong key ks → StandsInDictionary (at + 9) (length ks) (place_in (at + 9) ks key))
        → StandsInDictionary at (suc (length ks)) (cond b at (place_in (at + 9) ks key))
    here true e behind_it = record { behind = omega arith; before = omega arith }
    here false e behind_it =
        let s = behind_it (rest_of k key ks m e) in
        let low = s.behind in
        let high = s.before in
        record { behind = omega (arith, low); before = omega (arith, high) }

-- no place lies after them, also of a key that is not there
place_before : (at : ℕ) (ks : List ℕ) (key : ℕ) → place_in at ks key ≤ at + 9 * length ks
place_before at [] key = omega arith
place_before at (k ∷ ks) key = here (k == key) (place_before (at + 9) ks key)
  where
    here : (b : Bool) → place_in (at + 9) ks key ≤ at + 9 + 9 * length ks
        → cond b at (place_in (at + 9) ks key) ≤ at + 9 * (suc (length ks))
    here true below = omega arith
    here false below = omega (arith, below)

-- the first entry is no later one
is_first : (at : ℕ) (ks : List ℕ) (key : ℕ) → IsKeyAmong key ks → at ≢ place_in (at + 9) ks key
is_first at ks key m e = let low = (stands_in (at + 9) ks key m).behind in omega (arith, low, e)

-- keys at one place are one key
same_place : (at : ℕ) (ks : List ℕ) (k l : ℕ) → IsKeyAmong k ks → IsKeyAmong l ks → place_in at ks k ≡ place_in at ks l
    → k ≡ l
same_place at [] k l m n e = absurd m
same_place at (j ∷ js) k l m n e =
    here (j == k) (j == l) refl refl e (λ more_k more_l same. same_place (at + 9) js k l more_k more_l same)
  where
    here : (a b : Bool) → (j == k) ≡ a → (j == l) ≡ b
        → cond a at (place_in (at + 9) js k) ≡ cond b at (place_in (at + 9) js l)
        → (IsKeyAmong k js → IsKeyAmong l js → place_in (at + 9) js k ≡ place_in (at + 9) js l → k ≡ l)
        → k ≡ l
    here true true is_k is_l same rest = grind (arith, is_k, is_l, nat_tests)
    here true false is_k is_l same rest = absurd (is_first at js l (rest_of j l js n is_l) same)
    here false true is_k is_l same rest = absurd (is_first at js k (rest_of j k js m is_k) (sym same))
    here false false is_k is_l same rest = rest (rest_of j k js m is_k) (rest_of j l js n is_l) same

-- The numbers of a program's keys

module _ (p : ProgramOf) (placed : routines_place p ≤ greatest_word) where
  -- they are words
  number_is : (key : ℕ) → number_in p key ≡ key_number (dictionary_place p) p.keys key
  number_is key =
      let before = place_before (dictionary_place p + 7) p.keys key in
      mod-eq_of_lt (omega (arith, before, placed))

  number_there : (key : ℕ) → IsKeyAmong key p.keys → number_in p key ≢ 0
  number_there key m e =
      let low = (stands_in (dictionary_place p + 7) p.keys key m).behind in
      let zero_there = sym (number_is key) ∙ e in
      omega (arith, low, zero_there)

  numbers_differ : (k l : ℕ) → IsKeyAmong k p.keys → IsKeyAmong l p.keys → number_in p k ≡ number_in p l → k ≡ l
  numbers_differ k l m n e =
      same_place (dictionary_place p + 7) p.keys k l m n (sym (number_is k) ∙ e ∙ number_is l)

-- what the dictionary of a story that holds a program numbers
pub keys_numbered : (story : List ℕ) (p : ProgramOf) (a : Addresses) → routines_place p ≤ greatest_word
    → HoldsProgram story a p → NumbersKeys story p
keys_numbered story p a placed held = record {
  numbers = λ key. held.keys.numbers key
      ∙ ap (λ at. key_number at p.keys key) held.dictionary_there
      ∙ sym (number_is p placed key);
  there = number_there p placed;
  different = numbers_differ p placed;
}
