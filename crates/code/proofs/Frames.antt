-- What stands in memory as before where its bytes are as before.
use Rattle.std.proofs.Common.{◌≡◌, ◌≤◌, ◌<◌, ◌+◌, ◌-◌, ◌*◌, ℕ, List, length, slice_index, ap, sym, ◌∙◌, arith, subst}
use Rattle.std.proofs.Common.{inl, inr, ◌⊎◌}
use Rattle.std.specs.List.{flat_map}
use Rattle.std.proofs.lemmas.Bool.{cases_order}
use Rattle.ztext.specs.Bytes.{word_at}
use Rattle.ztext.specs.Text.{Holds}
use Rattle.zcore.specs.Entries.{owner, object_entry, place_of, properties_place, attribute_place, is_set}
use Rattle.zcore.specs.Header.{defaults_of, static_base_of}
use Rattle.meaning.specs.Forests.{IsObjectNumber}
use Rattle.meaning.specs.Objects.{Objects, ObjectOf}
use Rattle.code.specs.Links.{links_of}
use Rattle.code.specs.Region.{HasTables, HasObjects, KeepsRest, KeepsRegion, tables_base}
use Rattle.code.specs.Tables.{table_bytes, table_place, PropertyTable}
use Rattle.code.proofs.Bytes.{word_same, drop_same, holds_same}
use Rattle.code.proofs.TablePlaces.{IsNoLink, place_in, entry_in, entries_kept}
use Rattle.code.proofs.TableReading.{tree_kept}

-- memory whose header names the same places
pub record SameHead (old new : List ℕ) : Type 0 where
  pub size : length new ≡ length old
  pub defaults : defaults_of new ≡ defaults_of old
  pub base : static_base_of new ≡ static_base_of old

pub head_from : (old new : List ℕ) → length new ≡ length old
    → ((q : ℕ) → q < 64 → slice_index new q ≡ slice_index old q) → SameHead old new
head_from old new size same = record {
  size = size;
  defaults = word_same old new 10 (same 10 (omega arith)) (same 11 (omega arith));
  base = word_same old new 14 (same 14 (omega arith)) (same 15 (omega arith));
}

-- The parts of a region

module _ (old new : List ℕ) (head : SameHead old new) where
  -- a word at a place that counts from the defaults
  pub word_stays : (place : ℕ → ℕ)
      → slice_index new (place (defaults_of old)) ≡ slice_index old (place (defaults_of old))
      → slice_index new (place (defaults_of old) + 1) ≡ slice_index old (place (defaults_of old) + 1)
      → word_at new (place (defaults_of new)) ≡ word_at old (place (defaults_of old))
  word_stays place high low =
      ap (λ t. word_at new (place t)) head.defaults ∙ word_same old new (place (defaults_of old)) high low

  pub attribute_stays : (o a : ℕ)
      → slice_index new (attribute_place (defaults_of old) o a)
      ≡ slice_index old (attribute_place (defaults_of old) o a)
      → is_set (slice_index new (attribute_place (defaults_of new) o a)) a
      ≡ is_set (slice_index old (attribute_place (defaults_of old) o a)) a
  attribute_stays o a same =
      ap (λ t. is_set (slice_index new (attribute_place t o a)) a) head.defaults ∙ ap (λ b. is_set b a) same

  pub tables_stay : (n : ℕ) (tables : List PropertyTable) → HasTables n tables old
      → ((k : ℕ) → tables_base n old ≤ k → k < static_base_of old → slice_index new k ≡ slice_index old k)
      → ((o : ℕ) → IsObjectNumber n o
      → word_at new (properties_place (defaults_of new) o) ≡ word_at old (properties_place (defaults_of old) o))
      → HasTables n tables new
  tables_stay n tables has same places =
      let bytes : List ℕ = flat_map table_bytes tables in
      let base : tables_base n new ≡ tables_base n old = ap (λ t. t + 126 + 14 * n) head.defaults in
      let below = has.below in
      record {
        count = has.count;
        proper = has.proper;
        below = subst (λ (x : ℕ). x + length bytes ≤ static_base_of new) (sym base)
            (subst (λ (x : ℕ). tables_base n old + length bytes ≤ x) (sym head.base) below);
        stand = subst (λ k. Holds new k bytes) (sym base)
            (holds_same old new (tables_base n old) bytes has.stand head.size
            (λ q low high. same q low (omega (arith, high, below))));
        places = λ o i. places o i ∙ has.places o i ∙ ap (λ k. table_place k tables o) (sym base);
      }

-- A byte of an entry that is not among its links belongs to none.

pub in_entry : (n : ℕ) (m : List ℕ) (o d : ℕ) → IsObjectNumber n o → (d < 6) ⊎ ((12 ≤ d) × (d < 14))
    → IsNoLink n m (object_entry (defaults_of m) o + d)
in_entry n m o d i where_ c j = elim (cases_order (owner c) o) [
  | inl same ↦
      let e : object_entry (defaults_of m) (owner c) ≡ object_entry (defaults_of m) o = ap
      (object_entry (defaults_of m)) same in
      within e where_
  | inr (inl lt) ↦
      let low = j.low in
      let next : object_entry (defaults_of m) (owner c) + 14 ≤ object_entry (defaults_of m) o = omega arith in
      inr (omega (arith, p.1, next))
  | inr (inr lt) ↦
      let low = i.low in
      let next : object_entry (defaults_of m) o + 14 ≤ object_entry (defaults_of m) (owner c) = omega arith in
      let short = less where_ in
      inl (omega (arith, p.0, next, short))
]
  where
    p : (object_entry (defaults_of m) (owner c) + 6 ≤ place_of (defaults_of m) c)
        × (place_of (defaults_of m) c + 4 ≤ object_entry (defaults_of m) (owner c) + 14)
    p = place_in (defaults_of m) c

    less : (d < 6) ⊎ ((12 ≤ d) × (d < 14)) → d < 14
    less (inl lt) = omega arith
    less (inr both) = both.1

    within : object_entry (defaults_of m) (owner c) ≡ object_entry (defaults_of m) o
        → (d < 6) ⊎ ((12 ≤ d) × (d < 14))
        → (object_entry (defaults_of m) o + d < place_of (defaults_of m) c)
        ⊎ (place_of (defaults_of m) c + 2 ≤ object_entry (defaults_of m) o + d)
    within e (inl lt) = inl (omega (arith, p.0, e, lt))
    within e (inr both) = inr (omega (arith, p.1, e, both.0))

pub before_entries : (n : ℕ) (m : List ℕ) (k : ℕ) → k < defaults_of m + 126 → IsNoLink n m k
before_entries n m k lt c j =
    let p = place_in (defaults_of m) c in
    let e = entry_in n (defaults_of m) (owner c) j in
    inl (omega (arith, lt, p.0, e.0))

pub behind_entries : (n : ℕ) (m : List ℕ) (k : ℕ) → tables_base n m ≤ k → IsNoLink n m k
behind_entries n m k le c j =
    let p = place_in (defaults_of m) c in
    let e = entry_in n (defaults_of m) (owner c) j in
    inr (omega (arith, le, p.1, e.1))

-- Where what is no part of the region is as before

pub rest_kept : (old new : List ℕ) → length new ≡ length old
    → ((k : ℕ) → k < defaults_of old → slice_index new k ≡ slice_index old k)
    → ((k : ℕ) → static_base_of old ≤ k → slice_index new k ≡ slice_index old k) → KeepsRest old new
rest_kept old new size before behind = record {
  size = size;
  before = before;
  after = drop_same old new (static_base_of old) size behind;
}

-- Other parts of memory may change.

pub keeps : (definitions : List ObjectOf) (defaults : List ℕ) (objects : Objects) (tables : List PropertyTable)
    (old new : List ℕ) → HasObjects definitions defaults objects tables old → KeepsRegion old new
    → HasObjects definitions defaults objects tables new
keeps definitions defaults objects tables old new has kept =
    let n = length definitions in
    let head = head_from old new kept.size kept.header in
    let start = has.entries.start in
    let below = has.entries.below in
    record {
      entries = entries_kept n old new has.entries head.size head.defaults head.base;
      forest = has.forest;
      links = tree_kept n objects.tree (links_of old) (links_of new) has.forest has.links
          (λ c i.
          let p = place_in (defaults_of old) c in
          let e = entry_in n (defaults_of old) (owner c) i in
          word_stays old new head (λ t. place_of t c)
          (kept.above _ (omega (arith, p.0, e.0)) (omega (arith, p.1, e.1, below)))
          (kept.above _ (omega (arith, p.0, e.0)) (omega (arith, p.1, e.1, below))));
      attributes = λ o a i lt.
          let e = entry_in n (defaults_of old) o i in
          attribute_stays old new head o a
          (kept.above _ (omega (arith, e.0)) (omega (arith, lt, e.1, below)))
          ∙ has.attributes o a i lt;
      defaults_there = λ q low high.
          word_stays old new head (λ t. t + 2 * (q - 1))
          (kept.above _ (omega arith) (omega (arith, low, high, below)))
          (kept.above _ (omega arith) (omega (arith, low, high, below)))
          ∙ has.defaults_there q low high;
      listed = tables_stay old new head n tables has.listed
          (λ k low high. kept.above k (omega (arith, low)) high)
          (λ o i.
          let e = entry_in n (defaults_of old) o i in
          word_stays old new head (λ t. properties_place t o)
          (kept.above _ (omega (arith, e.0)) (omega (arith, e.1, below)))
          (kept.above _ (omega (arith, e.0)) (omega (arith, e.1, below))));
      provided = has.provided;
      names = has.names;
      shaped = has.shaped;
    }
