-- Property lists that were written are read back.
use Rattle.std.proofs.Common.{◌≡◌, ◌==◌, ◌+◌, ◌-◌, ◌*◌, ◌/◌, ◌%◌, ◌≤◌, ◌<◌, ℕ, zero, suc, nat_lt, Bool, true, false}
use Rattle.std.proofs.Common.{if◌then◌else◌, List, [], ◌∷◌, ◌++◌, length, take, drop, slice_index, Some, Ok, Err}
use Rattle.std.proofs.Common.{refl, ap, sym, ◌∙◌, arith, subst, inl, inr}
use Rattle.std.specs.Prelude.{slice_range}
use Rattle.std.specs.List.{All, flat_map}
use Rattle.std.proofs.lemmas.Bool.{cases_eq, eq-eqb, ne_eqb, lt-ltb, le-ltb, le-leb}
use Rattle.std.proofs.lemmas.List.{length-take, length-drop}
use Rattle.std.proofs.lemmas.List.Elements.{All-head, All-tail}
use Rattle.ztext.specs.Bytes.{word_at}
use Rattle.ztext.specs.Text.{Holds}
use Rattle.zcore.specs.Properties.{Property, Standing, Terminator, Listed, Beyond, long_size, standing, found_at}
use Rattle.zcore.specs.Properties.{found_in}
use Rattle.ztext.proofs.Holding.{holds_byte, holds_append}
use Rattle.tables.specs.declared.fault.TableRead.TheVariants.{Outside}
use Rattle.tables.specs.Objects.{data_of, counted_at, counted_in}
use Rattle.tables.specs.Rows.{RowProperty, word, property_bytes, list_bytes, IsProperty, data_written}

-- bytes that stand in a story end within it
holds_inside : (story : List ℕ) (at : ℕ) (bytes : List ℕ) → 0 < length bytes → Holds story at bytes
    → at + length bytes ≤ length story
holds_inside story at bytes some h =
    let n = ap length h in
    let a = length-take (length bytes) (drop at story) in
    let b = length-drop at story in
    omega arith

-- a word that stands in a story
pub word_held : (story : List ℕ) (at w : ℕ) → Holds story at (word w) → word_at story at ≡ w
word_held story at w h =
    let a = holds_byte story at (w / 256) (w % 256 ∷ []) h in
    let b = holds_byte story (at + 1) (w % 256) [] a.rest in
    let whole : w / 256 * 256 + w % 256 ≡ w = omega arith in
    ap (λ x. x * 256 + slice_index story (at + 1)) a.here ∙ ap (λ x. w / 256 * 256 + x) b.here ∙ whole

pub length_words : (ws : List ℕ) → length (flat_map word ws) ≡ 2 * length ws
length_words [] = refl
length_words (w ∷ ws) = let rest = length_words ws in omega arith

-- The sizes of a property

standing_last : (story : List ℕ) (at : ℕ) → at < length story → slice_index story at ≡ 0
    → standing story (length story) at ≡ Terminator
standing_last story at inside is =
    let a : nat_lt at (length story) ≡ true = lt-ltb at (length story) inside in
    rw (a, is) refl

standing_one : (story : List ℕ) (at number : ℕ) → at < length story → 1 ≤ number → number ≤ 63
    → slice_index story at ≡ 64 + number
    → standing story (length story) at ≡ Listed (record { number = number; address = at + 1; size = 2 })
standing_one story at number inside low high is =
    let a : nat_lt at (length story) ≡ true = lt-ltb at (length story) inside in
    let b : (64 + number == 0) ≡ false = ne_eqb (64 + number) 0 (λ e. omega arith) in
    let c : nat_lt (64 + number) 128 ≡ true = lt-ltb (64 + number) 128 (omega arith) in
    let d : (64 + number) % 64 ≡ number = omega arith in
    let e : (64 + number) / 64 + 1 ≡ 2 = omega arith in
    rw (a, is, b, c, d, e) refl

size_two : (words : ℕ) → 1 ≤ words → words ≤ 32 → long_size (128 + 2 * words % 64) ≡ 2 * words
size_two words some few = elim (cases_eq words 32) [
  | inl e ↦
      let z : (128 + 2 * words % 64) % 64 ≡ 0 = omega arith in
      ap (λ (b : Bool). if b then 64 else (128 + 2 * words % 64) % 64) (eq-eqb _ 0 z) ∙ omega arith
  | inr other ↦
      let z : (128 + 2 * words % 64) % 64 ≡ 2 * words = omega arith in
      ap (λ (b : Bool). if b then 64 else (128 + 2 * words % 64) % 64) (ne_eqb _ 0 (λ e. omega arith)) ∙ z
]

standing_two : (story : List ℕ) (at number words : ℕ) → at + 1 < length story → 1 ≤ number → number ≤ 63 → 1 ≤ words
    → words ≤ 32 → slice_index story at ≡ 128 + number → slice_index story (at + 1) ≡ 128 + 2 * words % 64
    → standing story (length story) at ≡ Listed (record { number = number; address = at + 2; size = 2 * words })
standing_two story at number words inside low high some few is second =
    let a : nat_lt at (length story) ≡ true = lt-ltb at (length story) (omega arith) in
    let b : (128 + number == 0) ≡ false = ne_eqb (128 + number) 0 (λ e. omega arith) in
    let c : nat_lt (128 + number) 128 ≡ false = le-ltb (128 + number) 128 (omega arith) in
    let d : (128 + number) % 64 ≡ number = omega arith in
    let e : nat_lt (at + 1) (length story) ≡ true = lt-ltb (at + 1) (length story) inside in
    rw (a, is, b, c, e, d, second, size_two words some few) refl

-- A property list

-- the first property of a list, and where the list goes on
record First (story : List ℕ) (at : ℕ) (p : RowProperty) (ps : List RowProperty) : Type 0 where
  placed : ℕ
  stands : standing story (length story) at ≡ Listed
      (record { number = p.0; address = placed; size = 2 * length p.1.items })
  words : Holds story placed (flat_map word p.1.items)
  rest : Holds story (placed + 2 * length p.1.items) (list_bytes ps)
  on : at + 1 ≤ placed

first_property : (story : List ℕ) (at : ℕ) (p : RowProperty) (ps : List RowProperty) → IsProperty p
    → Holds story at (list_bytes (p ∷ ps)) → First story at p ps
first_property story at p ps is held = elim (cases_eq (length p.1.items) 1) [
  | inl one ↦
      let bytes : property_bytes p ++ list_bytes ps ≡ (64 + p.0) ∷ (flat_map word p.1.items ++ list_bytes ps) =
      ap (λ (b : Bool).
      ((if b then (64 + p.0) ∷ [] else (128 + p.0) ∷ (128 + 2 * length p.1.items % 64) ∷ [])
      ++ flat_map word p.1.items) ++ list_bytes ps) (eq-eqb _ 1 one) in
      let a = holds_byte story at (64 + p.0) (flat_map word p.1.items ++ list_bytes ps)
      (subst (Holds story at) bytes held) in
      let b = holds_append story (at + 1) (flat_map word p.1.items) (list_bytes ps) a.rest in
      let size : 2 ≡ 2 * length p.1.items = omega arith in
      record {
        placed = at + 1;
        stands = standing_one story at p.0 a.within is.low is.high a.here
            ∙ ap (λ n. Listed (record { number = p.0; address = at + 1; size = n })) size;
        words = b.0;
        rest = subst (λ n. Holds story (at + 1 + n) (list_bytes ps)) (length_words p.1.items) b.1;
        on = omega arith;
      }
  | inr more ↦
      let bytes : property_bytes p ++ list_bytes ps ≡ (128 + p.0) ∷ (128 + 2 * length p.1.items % 64)
      ∷ (flat_map word p.1.items ++ list_bytes ps) =
      ap (λ (b : Bool).
      ((if b then (64 + p.0) ∷ [] else (128 + p.0) ∷ (128 + 2 * length p.1.items % 64) ∷ [])
      ++ flat_map word p.1.items) ++ list_bytes ps) (ne_eqb _ 1 more) in
      let a = holds_byte story at (128 + p.0)
      ((128 + 2 * length p.1.items % 64) ∷ (flat_map word p.1.items ++ list_bytes ps))
      (subst (Holds story at) bytes held) in
      let s = holds_byte story (at + 1) (128 + 2 * length p.1.items % 64) (flat_map word p.1.items ++ list_bytes ps)
      a.rest in
      let two : at + 1 + 1 ≡ at + 2 = omega arith in
      let b = holds_append story (at + 2) (flat_map word p.1.items) (list_bytes ps)
      (subst (λ k. Holds story k (flat_map word p.1.items ++ list_bytes ps)) two s.rest) in
      record {
        placed = at + 2;
        stands = standing_two story at p.0 (length p.1.items) s.within is.low is.high is.some is.few a.here s.here;
        words = b.0;
        rest = subst (λ n. Holds story (at + 2 + n) (list_bytes ps)) (length_words p.1.items) b.1;
        on = omega arith;
      }
]

-- a list is past every end that leaves it no room
no_steps : (story : List ℕ) (at : ℕ) (q : Property) → length story ≤ at → standing story (length story) at ≡ Listed q
    → ⊥
no_steps story at q past e =
    let a : standing story (length story) at ≡ Beyond = rw (le-ltb at (length story) past) refl in
    cc

-- the data of the first property
data_back : (story : List ℕ) (placed : ℕ) (p : RowProperty) → IsProperty p
    → Holds story placed (flat_map word p.1.items)
    → data_of story (Listed (record { number = p.0; address = placed; size = 2 * length p.1.items }))
    ≡ Ok (Some (flat_map word p.1.items))
data_back story placed p is held =
    let long = length_words p.1.items in
    let inside : placed + 2 * length p.1.items ≤ length story = omega
    (arith, holds_inside story placed (flat_map word p.1.items) (omega (arith, is.some)) held, long) in
    let range : slice_range story placed (placed + 2 * length p.1.items) ≡ flat_map word p.1.items =
    (let n : placed + 2 * length p.1.items - placed ≡ length (flat_map word p.1.items) = omega arith in
    ap (λ k. take k (drop placed story)) n ∙ held) in
    ap (λ (b : Bool). if b then Ok (Some (slice_range story placed (placed + 2 * length p.1.items)))
    else Err Outside) (le-leb (placed + 2 * length p.1.items) (length story) inside)
    ∙ ap (λ bytes. Ok (Some bytes)) range

pub found_back : (story : List ℕ) (number : ℕ) (ps : List RowProperty) (at steps : ℕ) → All IsProperty ps
    → Holds story at (list_bytes ps) → length story ≤ at + steps
    → data_of story (found_in story (length story) number at steps) ≡ Ok (data_written number ps)
unfolding found_in
found_back story number [] at zero are held room = let a = holds_byte story at 0 [] held in
    absurd (omega (arith, a.within))
found_back story number [] at (suc steps) are held room =
    let a = holds_byte story at 0 [] held in
    ap (λ s. data_of story (found_at number s (λ next. found_in story (length story) number next steps)))
    (standing_last story at a.within a.here)
found_back story number (p ∷ ps) at zero are held room =
    let f = first_property story at p ps (All-head IsProperty p ps are) held in
    absurd (no_steps story at _ (omega (arith, room)) f.stands)
found_back story number (p ∷ ps) at (suc steps) are held room =
    let is = All-head IsProperty p ps are in
    let f = first_property story at p ps is held in
    let here : Property = record { number = p.0; address = f.placed; size = 2 * length p.1.items } in
    let on : ℕ → Standing = λ next. found_in story (length story) number next steps in
    let step : data_of story (found_at number (standing story (length story) at) on)
    ≡ data_of story (if p.0 == number then Listed here else on (f.placed + 2 * length p.1.items)) = ap
    (λ s. data_of story (found_at number s on)) f.stands in
    elim (cases_eq p.0 number) [
      | inl same ↦
          step ∙ ap (λ (t : Bool). data_of story (if t then Listed here else on (f.placed + 2 * length p.1.items)))
          (eq-eqb p.0 number same)
          ∙ data_back story f.placed p is f.words
          ∙ sym (ap (λ (b : Bool). Ok (if b then Some (flat_map word p.1.items) else data_written number ps))
          (eq-eqb p.0 number same))
      | inr other ↦
          let later = found_back story number ps (f.placed + 2 * length p.1.items) steps
          (All-tail IsProperty p ps are) f.rest (omega (arith, f.on, room)) in
          step ∙ ap (λ (t : Bool). data_of story (if t then Listed here else on (f.placed + 2 * length p.1.items)))
          (ne_eqb p.0 number other)
          ∙ later
          ∙ sym (ap (λ (b : Bool). Ok (if b then Some (flat_map word p.1.items) else data_written number ps))
          (ne_eqb p.0 number other))
    ]

pub counted_back : (story : List ℕ) (count : ℕ) (ps : List RowProperty) (at steps : ℕ) → All IsProperty ps
    → Holds story at (list_bytes ps) → length story ≤ at + steps
    → counted_in story count at steps ≡ Ok (count + length ps)
unfolding counted_in
counted_back story count [] at zero are held room = let a = holds_byte story at 0 [] held in
    absurd (omega (arith, a.within))
counted_back story count [] at (suc steps) are held room =
    let a = holds_byte story at 0 [] held in
    let z : count ≡ count + 0 = omega arith in
    ap (λ s. counted_at count s (λ next. counted_in story (count + 1) next steps))
    (standing_last story at a.within a.here) ∙ ap (λ n. Ok n) z
counted_back story count (p ∷ ps) at zero are held room =
    let f = first_property story at p ps (All-head IsProperty p ps are) held in
    absurd (no_steps story at _ (omega (arith, room)) f.stands)
counted_back story count (p ∷ ps) at (suc steps) are held room =
    let f = first_property story at p ps (All-head IsProperty p ps are) held in
    let later = counted_back story (count + 1) ps (f.placed + 2 * length p.1.items) steps
    (All-tail IsProperty p ps are) f.rest (omega (arith, f.on, room)) in
    let z : count + 1 + length ps ≡ count + length (p ∷ ps) = omega arith in
    ap (λ s. counted_at count s (λ next. counted_in story (count + 1) next steps)) f.stands ∙ later ∙ ap (λ n. Ok n) z
