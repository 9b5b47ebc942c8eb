-- Rows whose addresses ascend.
use Rattle.std.proofs.Common.{◌≡◌, ◌<◌, ◌≤◌, ◌+◌, ◌-◌, ◌%◌, ◌^◌, ℕ, min, List, [], ◌∷◌, ◌++◌, map}
use Rattle.std.proofs.Common.{reverse, refl, sym, ap, ◌∙◌, subst, arith, append_assoc, append-nil, length-append}
use Rattle.std.proofs.Common.{mod-lt, inl, inr, Result, Ok, Err, OkIff, slice_index, length, suc, zero}
use Rattle.std.specs.Result.{result_unwrap_or}
use Rattle.std.proofs.lemmas.Bool.{cases_lt}
use Rattle.std.specs.List.{All}
use Rattle.std.proofs.lemmas.List.{map-append, reverse-reverse}
use Rattle.std.proofs.lemmas.List.Elements.{All-nil, All-cons, All-append}
use Rattle.zcore.specs.declared.header.Version.{Version}
use Rattle.zcore.specs.declared.header.Version.TheVariants.{V5, V8}
use Rattle.zcore.specs.Header.{scale_of}
use Rattle.code_instructions.specs.Places.{place_in}
use Rattle.code_drafts.specs.Items.{Item}
use Rattle.code_drafts.specs.Addresses.{Sizes}
use Rattle.code.specs.Bytes.{lefts_of}
use Rattle.code.proofs.Places.{rises}
use Rattle.map_text.specs.declared.row.Row.{Row}
use Rattle.map_text.specs.Text.{Ascend, RowOf, row_of}
use Rattle.map_lines.specs.Rows.{AddsMarks, address_at, IsOtherOf, Rise}

-- places whose rows have the same address
pub same_behind : (a b k : ℕ) → address_at a 0 ≡ address_at b 0 → address_at a k ≡ address_at b k
same_behind a b k same = omega (arith, same)

pub rise_later : (a : ℕ) (rs : List RowOf) (m n : ℕ) → Rise a rs m → m ≤ n → Rise a rs n
rise_later a [] m n up le = omega (arith, up, le)
rise_later a (r ∷ rs) m n up le = (up.0, rise_later r.address rs m n up.1 le)

rise_earlier : (a b : ℕ) (rs : List RowOf) (m : ℕ) → a ≤ b → Rise b rs m → Rise a rs m
rise_earlier a b [] m le up = omega (arith, up, le)
rise_earlier a b (r ∷ rs) m le up = (omega (arith, up.0, le), up.1)

pub rise_both : (a b c : ℕ) (xs ys : List RowOf) → Rise a xs b → Rise b ys c → Rise a (xs ++ ys) c
rise_both a b c [] ys up more = rise_earlier a b ys c up more
rise_both a b c (x ∷ xs) ys up more = (up.0, rise_both x.address b c xs ys up.1 more)

pub rise_ascend : (a : ℕ) (rs : List RowOf) (m : ℕ) → Rise a rs m → Ascend a rs
rise_ascend a [] m up = tt
rise_ascend a (r ∷ rs) m up = (up.0, rise_ascend r.address rs m up.1)

-- places of items rise
pub places_rise : (sizes : Sizes) (items : List Item) (left : List ℕ) → left ≡ reverse (lefts_of sizes items)
    → (m n : ℕ) → m ≤ n → place_in (reverse left) m ≤ place_in (reverse left) n
places_rise sizes items left is =
    let same : lefts_of sizes items ≡ reverse left =
    sym (ap (λ (xs : List ℕ). reverse xs) is ∙ reverse-reverse (lefts_of sizes items)) in
    subst (λ (lefts : List ℕ). (m n : ℕ) → m ≤ n → place_in lefts m ≤ place_in lefts n) same (rises sizes items)

pub left_is : (sizes sizes2 : Sizes) (items items2 : List Item) (left : List ℕ) → left ≡ reverse (lefts_of sizes items)
    → sizes ≡ sizes2 → items ≡ items2 → reverse left ≡ lefts_of sizes2 items2
left_is sizes sizes2 items items2 left is same_sizes same_items =
    ap (λ (xs : List ℕ). reverse xs) is ∙ reverse-reverse (lefts_of sizes items)
    ∙ ap (λ (s : Sizes). lefts_of s items) same_sizes ∙ ap (λ (xs : List Item). lefts_of sizes2 xs) same_items

-- there is nothing past the end
pub past_end : (xs : List ℕ) (n : ℕ) → length xs ≤ n → slice_index xs n ≡ 0
past_end [] zero le = refl
past_end [] (suc n) le = refl
past_end (x ∷ xs) zero le = absurd (omega (arith, le))
past_end (x ∷ xs) (suc n) le = past_end xs n (omega (arith, le))

pub scale_few : (version : Version) (s : ℕ) → s ≡ scale_of version → (0 < s) × (s ≤ 8)
scale_few V5 s is = (omega (arith, is), omega (arith, is))
scale_few V8 s is = (omega (arith, is), omega (arith, is))

-- a place to which a packed address leads
pub aligned_up : (at s x : ℕ) → 0 < s → s ≤ 8 → x ≡ min (at + (s - 1)) (2 ^ 64 - 1)
    → address_at at 0 ≤ address_at (x - x % s) 0
aligned_up at s x some few is =
    let rest = mod-lt x some in
    omega (arith, rest, some, few, is)

-- the same place, where rows have the same address before it
pub aligned_same : (at s x last : ℕ) → 0 < s → s ≤ 8 → last ≡ min (at + (s - 1)) (2 ^ 64 - 1)
    → address_at at 0 ≡ address_at x 0
    → address_at (last - last % s) 0 ≡ address_at (x + (s - 1) - (x + (s - 1)) % s) 0
aligned_same at s x last some few is same = elim (cases_lt at (2 ^ 32 - 1)) [
  | inl lt ↦
      let there : last ≡ x + (s - 1) = omega (arith, lt, few, is, same) in
      ap (λ n. address_at (n - n % s) 0) there
  | inr ge ↦ omega (arith, mod-lt last some, mod-lt (x + (s - 1)) some, some, few, is, same, ge)
]

-- an address that has 32 bits
pub clamped : {E : Type 0} (place behind x : ℕ) (r : Result ℕ E) → x ≡ min (place + behind) (2 ^ 64 - 1)
    → OkIff r (x < 2 ^ 32) x → result_unwrap_or r (2 ^ 32 - 1) ≡ address_at place behind
clamped place behind x (Ok y) is low = omega (arith, is, low.0, low.1)
clamped place behind x (Err e) is high = elim (cases_lt x (2 ^ 32)) [
  | inl lt ↦ absurd (high lt)
  | inr ge ↦ omega (arith, is, ge)
]

-- no marks yet
pub no_marks : (name lefts : List ℕ) (place p : ℕ) (rows : List Row)
    → AddsMarks name lefts place rows rows 0 (address_at place (p + 1))
no_marks name lefts place p rows =
    ([], sym (append-nil rows), refl, omega arith, All-nil (IsOtherOf name lefts place))

-- the row of one mark more
pub mark_more : (name lefts : List ℕ) (place p item behind count : ℕ) (old one new : List Row) (row : Row)
    → AddsMarks name lefts place old one count (address_at place (p + 1)) → p ≤ place_in lefts item
    → behind ≡ min (place_in lefts item + 1) (2 ^ 64 - 1) → row.routine.now ≡ name
    → row.address ≡ address_at place behind → new ≡ one ++ row ∷ []
    → AddsMarks name lefts place old new (count + 1) (address_at place (place_in lefts item + 1))
mark_more name lefts place p item behind count old one new row adds le is named address more =
    let q = place_in lefts item in
    let low : address_at place (p + 1) ≤ row.address = omega (arith, le, is, address) in
    let high : row.address ≤ address_at place (q + 1) = omega (arith, le, is, address) in
    let there : row.address ≡ address_at place (q + 1) = omega (arith, is, address) in (
      adds.0 ++ row ∷ [],
      more ∙ ap (λ (rows : List Row). rows ++ row ∷ []) adds.1 ∙ append_assoc old adds.0 (row ∷ []),
      omega (arith, adds.2, length-append adds.0 (row ∷ [])),
      subst (λ (rows : List RowOf). Rise (address_at place 0) rows (address_at place (q + 1)))
          (sym (map-append row_of adds.0 (row ∷ [])))
          (rise_both (address_at place 0) (address_at place (p + 1)) (address_at place (q + 1)) (map row_of adds.0)
          (row_of row ∷ []) adds.3 (low, high)),
      subst (λ (rows : List RowOf). All (IsOtherOf name lefts place) rows) (sym (map-append row_of adds.0 (row ∷ [])))
          (All-append (IsOtherOf name lefts place) (map row_of adds.0) (row_of row ∷ []) adds.4
          (All-cons (IsOtherOf name lefts place) (row_of row) [] (named, (item, there))
          (All-nil (IsOtherOf name lefts place)))),
    )

pub marks_end : (name lefts : List ℕ) (place p q count all : ℕ) (old new : List Row)
    → AddsMarks name lefts place old new count (address_at place (p + 1)) → p ≤ q → count ≡ all
    → AddsMarks name lefts place old new all (address_at place (q + 1))
marks_end name lefts place p q count all old new adds le same = (
  adds.0,
  adds.1,
  adds.2 ∙ same,
  rise_later (address_at place 0) (map row_of adds.0) (address_at place (p + 1)) (address_at place (q + 1)) adds.3
      (omega (arith, le)),
  adds.4,
)

-- where the code ends
pub routine_ends : (place p l end length_is : ℕ) → length_is ≡ min (p + 1) (2 ^ 64 - 1)
    → end ≡ min (place + length_is) (2 ^ 64 - 1) → p ≡ l → address_at end 0 ≡ address_at place (1 + l)
routine_ends place p l end length_is long is same = omega (arith, long, is, same)

-- the first row, and those of the marks
pub routine_rises : (place p end length_is : ℕ) (row : Row) (others : List RowOf) → row.address ≡ address_at place 0
    → Rise (address_at place 0) others (address_at place (p + 1)) → length_is ≡ min (p + 1) (2 ^ 64 - 1)
    → end ≡ min (place + length_is) (2 ^ 64 - 1) → Rise (address_at place 0) (row_of row ∷ others) (address_at end 0)
routine_rises place p end length_is row others at up long is =
    let low : address_at place 0 ≤ row.address = omega (arith, at) in
    let high : address_at place (p + 1) ≤ address_at end 0 = omega (arith, long, is) in (
      low,
      rise_earlier row.address (address_at place 0) others (address_at end 0) (omega (arith, at))
          (rise_later (address_at place 0) others (address_at place (p + 1)) (address_at end 0) up high),
    )
