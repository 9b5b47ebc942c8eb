-- Property lists that stand in memory.
use Rattle.std.proofs.Common.{◌≡◌, ◌==◌, ◌+◌, ◌-◌, ◌*◌, ◌/◌, ◌%◌, ◌≤◌, ◌<◌, ℕ, zero, suc, nat_lt, Bool, true, false}
use Rattle.std.proofs.Common.{if◌then◌else◌, List, [], ◌∷◌, length, slice_index, Some, None, refl, ap, sym, ◌∙◌, arith}
use Rattle.std.proofs.Common.{subst, inl, inr}
use Rattle.std.specs.List.{All, flat_map}
use Rattle.std.proofs.lemmas.Bool.{cases_eq, ne_eqb, lt-ltb, le-ltb}
use Rattle.std.proofs.lemmas.List.{length-append}
use Rattle.std.proofs.lemmas.List.Elements.{All-head, All-tail}
use Rattle.ztext.specs.Text.{Holds}
use Rattle.ztext.proofs.Holding.{holds_byte, holds_append}
use Rattle.zcore.specs.ObjectProperties.{size_before}
use Rattle.zcore.specs.Properties.{Property, Standing, Terminator, Listed, long_size, standing, found_at, found_in}
use Rattle.tables.specs.Rows.{word}
use Rattle.code.proofs.Listed.{length_words}
use Rattle.meaning.specs.Objects.{words_in}
use Rattle.meaning.proofs.ObjectLists.{if_same, if_other}
use Rattle.code.specs.Tables.{size_bytes, property_bytes, list_bytes, IsListed, data_place}

-- The sizes of a property

size_two : (words : ℕ) → 1 ≤ words → words ≤ 32 → long_size (128 + 2 * words % 64) ≡ 2 * words
size_two words some few = elim (cases_eq words 32) [
  | inl e ↦
      let z : (128 + 2 * words % 64) % 64 ≡ 0 = omega arith in
      if_same ((128 + 2 * words % 64) % 64) 0 64 ((128 + 2 * words % 64) % 64) z ∙ omega arith
  | inr other ↦
      let z : (128 + 2 * words % 64) % 64 ≡ 2 * words = omega arith in
      if_other ((128 + 2 * words % 64) % 64) 0 64 ((128 + 2 * words % 64) % 64) (λ e. omega arith) ∙ z
]

module _ (memory : List ℕ) (end at : ℕ) where
  pub standing_last : at < end → slice_index memory at ≡ 0 → standing memory end at ≡ Terminator
  standing_last inside is =
      let a : nat_lt at end ≡ true = lt-ltb at end inside in
      rw (a, is) refl

  standing_one : (number : ℕ) → at < end → 1 ≤ number → number ≤ 63 → slice_index memory at ≡ 64 + number
      → standing memory end at ≡ Listed (record { number = number; address = at + 1; size = 2 })
  standing_one number inside low high is =
      let a : nat_lt at end ≡ true = lt-ltb at end inside in
      let b : (64 + number == 0) ≡ false = ne_eqb (64 + number) 0 (λ e. omega arith) in
      let c : nat_lt (64 + number) 128 ≡ true = lt-ltb (64 + number) 128 (omega arith) in
      let d : (64 + number) % 64 ≡ number = omega arith in
      let e : (64 + number) / 64 + 1 ≡ 2 = omega arith in
      rw (a, is, b, c, d, e) refl

  standing_two : (number words : ℕ) → at + 1 < end → 1 ≤ number → number ≤ 63 → 1 ≤ words → words ≤ 32
      → slice_index memory at ≡ 128 + number → slice_index memory (at + 1) ≡ 128 + 2 * words % 64
      → standing memory end at ≡ Listed (record { number = number; address = at + 2; size = 2 * words })
  standing_two number words inside low high some few is second =
      let a : nat_lt at end ≡ true = lt-ltb at end (omega arith) in
      let b : (128 + number == 0) ≡ false = ne_eqb (128 + number) 0 (λ e. omega arith) in
      let c : nat_lt (128 + number) 128 ≡ false = le-ltb (128 + number) 128 (omega arith) in
      let d : (128 + number) % 64 ≡ number = omega arith in
      let e : nat_lt (at + 1) end ≡ true = lt-ltb (at + 1) end inside in
      rw (a, is, b, c, e, d, second, size_two words some few) refl

-- The first property of a list

pub length_property : (x : ℕ × List ℕ) → length (property_bytes x) ≡ length (size_bytes x) + 2 * length x.1
length_property x =
    length-append (size_bytes x) (flat_map word x.1) ∙ ap (λ n. length (size_bytes x) + n) (length_words x.1)

-- the property that stands at an address
abbrev pub property_at : ℕ → ℕ × List ℕ → Property
property_at at x = record { number = x.0; address = at + length (size_bytes x); size = 2 * length x.1 }

pub record First (memory : List ℕ) (end at : ℕ) (x : ℕ × List ℕ) (xs : List (ℕ × List ℕ)) : Type 0 where
  pub stands : at + length (list_bytes (x ∷ xs)) ≤ end → standing memory end at ≡ Listed (property_at at x)
  pub words : Holds memory (at + length (size_bytes x)) (flat_map word x.1)
  pub rest : Holds memory (at + length (property_bytes x)) (list_bytes xs)
  pub some : 1 ≤ length (size_bytes x)
  pub before : size_before (slice_index memory (at + length (size_bytes x) - 1)) ≡ 2 * length x.1

pub first_property : (memory : List ℕ) (end at : ℕ) (x : ℕ × List ℕ) (xs : List (ℕ × List ℕ)) → IsListed x
    → Holds memory at (list_bytes (x ∷ xs)) → First memory end at x xs
first_property memory end at x xs is held =
    let long = length-append (property_bytes x) (list_bytes xs) in
    let size = length_property x in
    let whole = holds_append memory at (property_bytes x) (list_bytes xs) held in
    let parts = holds_append memory at (size_bytes x) (flat_map word x.1) whole.0 in
    elim (cases_eq (length x.1) 1) [
      | inl one ↦
          let bytes : size_bytes x ≡ (64 + x.0) ∷ [] =
          if_same (length x.1) 1 ((64 + x.0) ∷ []) ((128 + x.0) ∷ (128 + 2 * length x.1 % 64) ∷ []) one in
          let count : length (size_bytes x) ≡ 1 = ap (λ l. length l) bytes in
          let a = holds_byte memory at (64 + x.0) [] (subst (λ l. Holds memory at l) bytes parts.0) in
          let two : 2 ≡ 2 * length x.1 = omega arith in
          let back : at + length (size_bytes x) - 1 ≡ at = omega (arith, count) in
          let low : nat_lt (64 + x.0) 128 ≡ true = lt-ltb (64 + x.0) 128 (omega (arith, is.high)) in
          record {
            stands = λ fits.
                standing_one memory end at x.0 (omega (arith, fits, long, size, count)) is.low is.high a.here
                ∙ ap (λ n. Listed (record { number = x.0; address = at + n; size = 2 })) (sym count)
                ∙ ap (λ n. Listed (record { number = x.0; address = at + length (size_bytes x); size = n })) two;
            words = parts.1;
            rest = whole.1;
            some = omega (arith, count);
            before = ap (λ k. size_before (slice_index memory k)) back ∙ ap size_before a.here
                ∙ ap (λ (b : Bool). if b then (64 + x.0) / 64 + 1 else long_size (64 + x.0)) low
                ∙ omega (arith, one, is.low, is.high);
          }
      | inr more ↦
          let bytes : size_bytes x ≡ (128 + x.0) ∷ (128 + 2 * length x.1 % 64) ∷ [] =
          if_other (length x.1) 1 ((64 + x.0) ∷ []) ((128 + x.0) ∷ (128 + 2 * length x.1 % 64) ∷ []) more in
          let count : length (size_bytes x) ≡ 2 = ap (λ l. length l) bytes in
          let a = holds_byte memory at (128 + x.0) ((128 + 2 * length x.1 % 64) ∷ [])
          (subst (λ l. Holds memory at l) bytes parts.0) in
          let b = holds_byte memory (at + 1) (128 + 2 * length x.1 % 64) [] a.rest in
          let back : at + length (size_bytes x) - 1 ≡ at + 1 = omega (arith, count) in
          let high : nat_lt (128 + 2 * length x.1 % 64) 128 ≡ false =
          le-ltb (128 + 2 * length x.1 % 64) 128 (omega arith) in
          record {
            stands = λ fits.
                standing_two memory end at x.0 (length x.1) (omega (arith, fits, long, size, count)) is.low is.high
                is.some is.few a.here b.here
                ∙ ap (λ n. Listed (record { number = x.0; address = at + n; size = 2 * length x.1 })) (sym count);
            words = parts.1;
            rest = whole.1;
            some = omega (arith, count);
            before = ap (λ k. size_before (slice_index memory k)) back ∙ ap size_before b.here
                ∙ ap (λ (t : Bool). if t then (128 + 2 * length x.1 % 64) / 64 + 1
                else long_size (128 + 2 * length x.1 % 64)) high
                ∙ size_two (length x.1) is.some is.few;
          }
    ]

-- A property of a number

-- where it stands, and what stands there
pub record StandsListed (memory : List ℕ) (q at : ℕ) (xs : List (ℕ × List ℕ)) (ws : List ℕ) : Type 0 where
  pub low : 1 ≤ q
  pub high : q ≤ 63
  pub some : 1 ≤ length ws
  pub few : length ws ≤ 32
  pub words : Holds memory (data_place q at xs) (flat_map word ws)
  pub above : at < data_place q at xs
  pub below : data_place q at xs + 2 * length ws < at + length (list_bytes xs)
  pub before : size_before (slice_index memory (data_place q at xs - 1)) ≡ 2 * length ws

-- what the search of a list comes to
abbrev outcome : ℕ → ℕ → List (ℕ × List ℕ) → Standing
outcome q at [] = Terminator
outcome q at (x ∷ xs) =
    if x.0 == q then Listed (property_at at x)
    else outcome q (at + length (property_bytes x)) xs

some_last : (xs : List (ℕ × List ℕ)) → 1 ≤ length (list_bytes xs)
some_last [] = omega arith
some_last (x ∷ xs) =
    let long = length-append (property_bytes x) (list_bytes xs) in
    let rest = some_last xs in
    omega (arith, long, rest)

module _ (memory : List ℕ) (q : ℕ) where
  pub stands : (xs : List (ℕ × List ℕ)) (ws : List ℕ) (at : ℕ) → All IsListed xs → Holds memory at (list_bytes xs)
      → words_in q xs ≡ Some ws → StandsListed memory q at xs ws
  stands [] ws at are held is = absurd (cc)
  stands (x ∷ xs) ws at are held is = elim (cases_eq x.0 q) [
    | inl same ↦
        let one = All-head IsListed x xs are in
        let f = first_property memory 0 at x xs one held in
        let here : Some x.1 ≡ Some ws = sym (if_same x.0 q (Some x.1) (words_in q xs) same) ∙ is in
        let words : x.1 ≡ ws = some_same here in
        let place : at + length (size_bytes x) ≡ data_place q at (x ∷ xs) = sym (if_same x.0 q
        (at + length (size_bytes x)) (data_place q (at + length (property_bytes x)) xs) same) in
        let long = length-append (property_bytes x) (list_bytes xs) in
        let size = length_property x in
        let last = some_last xs in
        let some = f.some in
        subst (StandsListed memory q at (x ∷ xs)) words
        (record {
          low = subst (λ (n : ℕ). 1 ≤ n) same one.low;
          high = subst (λ (n : ℕ). n ≤ 63) same one.high;
          some = one.some;
          few = one.few;
          words = subst (λ k. Holds memory k (flat_map word x.1)) place f.words;
          above = omega (arith, place, some);
          below = omega (arith, place, long, size, last);
          before = subst (λ k. size_before (slice_index memory (k - 1)) ≡ 2 * length x.1) place f.before;
        })
    | inr other ↦
        let f = first_property memory 0 at x xs (All-head IsListed x xs are) held in
        let later : words_in q xs ≡ Some ws = sym (if_other x.0 q (Some x.1) (words_in q xs) other) ∙ is in
        let r = stands xs ws (at + length (property_bytes x)) (All-tail IsListed x xs are) f.rest later in
        let place : data_place q (at + length (property_bytes x)) xs ≡ data_place q at (x ∷ xs) = sym (if_other x.0 q
        (at + length (size_bytes x)) (data_place q (at + length (property_bytes x)) xs) other) in
        let long = length-append (property_bytes x) (list_bytes xs) in
        let above = r.above in
        let below = r.below in
        record {
          low = r.low;
          high = r.high;
          some = r.some;
          few = r.few;
          words = subst (λ k. Holds memory k (flat_map word ws)) place r.words;
          above = omega (arith, place, above);
          below = omega (arith, place, below, long);
          before = subst (λ k. size_before (slice_index memory (k - 1)) ≡ 2 * length ws) place r.before;
        }
  ]
    where
      some_same : {A : Type 0} {y z : A} → Some y ≡ Some z → y ≡ z
      some_same e = cc

  -- the search
  searched : (end : ℕ) (xs : List (ℕ × List ℕ)) (at steps : ℕ) → All IsListed xs → Holds memory at (list_bytes xs)
      → at + length (list_bytes xs) ≤ end → end ≤ at + steps → found_in memory end q at steps ≡ outcome q at xs
  unfolding found_in
  searched end [] at zero are held fits room = absurd (omega arith)
  searched end [] at (suc steps) are held fits room =
      let a = holds_byte memory at 0 [] held in
      ap (λ s. found_at q s (λ next. found_in memory end q next steps))
      (standing_last memory end at (omega (arith, fits)) a.here)
  searched end (x ∷ xs) at zero are held fits room =
      let last = some_last (x ∷ xs) in
      absurd (omega (arith, fits, room, last))
  searched end (x ∷ xs) at (suc steps) are held fits room =
      let f = first_property memory end at x xs (All-head IsListed x xs are) held in
      let on : ℕ → Standing = λ next. found_in memory end q next steps in
      let step : found_at q (standing memory end at) on ≡ found_at q (Listed (property_at at x)) on =
      ap (λ s. found_at q s on) (f.stands fits) in
      let long = length-append (property_bytes x) (list_bytes xs) in
      let size = length_property x in
      let some = f.some in
      let next : at + length (size_bytes x) + 2 * length x.1 ≡ at + length (property_bytes x) = omega (arith, size) in
      let rest = searched end xs (at + length (property_bytes x)) steps (All-tail IsListed x xs are) f.rest
      (omega (arith, fits, long)) (omega (arith, room, size, some)) in
      step
      ∙ ap (λ s. if x.0 == q then Listed (property_at at x) else s) (ap on next ∙ rest)

  outcome_none : (xs : List (ℕ × List ℕ)) (at : ℕ) → words_in q xs ≡ None → outcome q at xs ≡ Terminator
  outcome_none [] at is = refl
  outcome_none (x ∷ xs) at is = elim (cases_eq x.0 q) [
    | inl same ↦
        let no : Some x.1 ≡ None = sym (if_same x.0 q (Some x.1) (words_in q xs) same) ∙ is in
        absurd (cc)
    | inr other ↦
        if_other x.0 q (Listed (property_at at x)) (outcome q (at + length (property_bytes x)) xs) other
        ∙ outcome_none xs (at + length (property_bytes x))
        (sym (if_other x.0 q (Some x.1) (words_in q xs) other) ∙ is)
  ]

  outcome_some : (xs : List (ℕ × List ℕ)) (ws : List ℕ) (at : ℕ) → words_in q xs ≡ Some ws
      → outcome q at xs ≡ Listed (record { number = q; address = data_place q at xs; size = 2 * length ws })
  outcome_some [] ws at is = absurd (cc)
  outcome_some (x ∷ xs) ws at is = elim (cases_eq x.0 q) [
    | inl same ↦
        let here : Some x.1 ≡ Some ws = sym (if_same x.0 q (Some x.1) (words_in q xs) same) ∙ is in
        let size : 2 * length x.1 ≡ 2 * length ws = ap (λ l. 2 * length l) (some_same here) in
        let place : at + length (size_bytes x) ≡ data_place q at (x ∷ xs) = sym (if_same x.0 q
        (at + length (size_bytes x)) (data_place q (at + length (property_bytes x)) xs) same) in
        if_same x.0 q (Listed (property_at at x)) (outcome q (at + length (property_bytes x)) xs) same
        ∙ ap (λ n. Listed (record { number = n; address = at + length (size_bytes x); size = 2 * length x.1 })) same
        ∙ ap (λ n. Listed (record { number = q; address = n; size = 2 * length x.1 })) place
        ∙ ap (λ n. Listed (record { number = q; address = data_place q at (x ∷ xs); size = n })) size
    | inr other ↦
        let later : words_in q xs ≡ Some ws = sym (if_other x.0 q (Some x.1) (words_in q xs) other) ∙ is in
        let place : data_place q (at + length (property_bytes x)) xs ≡ data_place q at (x ∷ xs) = sym (if_other x.0 q
        (at + length (size_bytes x)) (data_place q (at + length (property_bytes x)) xs) other) in
        if_other x.0 q (Listed (property_at at x)) (outcome q (at + length (property_bytes x)) xs) other
        ∙ outcome_some xs ws (at + length (property_bytes x)) later
        ∙ ap (λ n. Listed (record { number = q; address = n; size = 2 * length ws })) place
  ]
    where
      some_same : {A : Type 0} {y z : A} → Some y ≡ Some z → y ≡ z
      some_same e = cc

  pub found_none : (end : ℕ) (xs : List (ℕ × List ℕ)) (at steps : ℕ) → All IsListed xs
      → Holds memory at (list_bytes xs) → at + length (list_bytes xs) ≤ end → end ≤ at + steps
      → words_in q xs ≡ None → found_in memory end q at steps ≡ Terminator
  found_none end xs at steps are held fits room is =
      searched end xs at steps are held fits room ∙ outcome_none xs at is

  pub found_some : (end : ℕ) (xs : List (ℕ × List ℕ)) (ws : List ℕ) (at steps : ℕ) → All IsListed xs
      → Holds memory at (list_bytes xs) → at + length (list_bytes xs) ≤ end → end ≤ at + steps
      → words_in q xs ≡ Some ws
      → found_in memory end q at steps
      ≡ Listed (record { number = q; address = data_place q at xs; size = 2 * length ws })
  found_some end xs ws at steps are held fits room is =
      searched end xs at steps are held fits room ∙ outcome_some xs ws at is
