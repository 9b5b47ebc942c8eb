-- Places of links in the bytes of entries.
use Rattle.std.proofs.Common.{◌≡◌, ◌==◌, ◌≤◌, ◌<◌, ◌+◌, ◌*◌, ℕ, zero, suc, nat_le, Bool, true, false, if◌then◌else◌}
use Rattle.std.proofs.Common.{List, length, slice_index, Option, Some, None, refl, ap, sym, ◌∙◌, arith, subst, inl, inr}
use Rattle.std.proofs.Common.{◌⊎◌}
use Rattle.std.proofs.lemmas.Bool.{cases_order, and_from, le-leb}
use Rattle.ztext.specs.Bytes.{word_at}
use Rattle.zcore.specs.Entries.{Link, Parent, Sibling, Child, owner, object_entry, has_entry, place_of, named_from}
use Rattle.zcore.specs.Header.{defaults_of, static_base_of}
use Rattle.zcore.specs.Parts.{with_word}
use Rattle.meaning.specs.Forests.{IsObjectNumber}
use Rattle.code.specs.Links.{links_of}
use Rattle.code.specs.Region.{HasEntries}
use Rattle.code.proofs.Bytes.{length_with, byte_other, word_other, word_here}
use Rattle.code.proofs.Chains.{found, WroteLink}

-- a byte that belongs to no link
abbrev pub IsNoLink : ℕ → List ℕ → ℕ → Type 0
IsNoLink n memory k = (link : Link) → IsObjectNumber n (owner link)
    → (k < place_of (defaults_of memory) link) ⊎ (place_of (defaults_of memory) link + 2 ≤ k)

-- other memory that differs in links alone
pub record Relinked (n : ℕ) (old new : List ℕ) : Type 0 where
  pub entries : HasEntries n new
  pub size : length new ≡ length old
  pub defaults : defaults_of new ≡ defaults_of old
  pub base : static_base_of new ≡ static_base_of old
  pub kept : (k : ℕ) → IsNoLink n old k → slice_index new k ≡ slice_index old k

-- A link's two bytes lie in the entry of its object.

pub place_in : (table : ℕ) (c : Link)
    → (object_entry table (owner c) + 6 ≤ place_of table c) × (place_of table c + 4 ≤ object_entry table (owner c) + 14)
place_in table (Parent o) = (omega arith, omega arith)
place_in table (Sibling o) = (omega arith, omega arith)
place_in table (Child o) = (omega arith, omega arith)

pub entry_in : (n : ℕ) (table o : ℕ) → IsObjectNumber n o
    → (table + 126 ≤ object_entry table o) × (object_entry table o + 14 ≤ table + 126 + 14 * n)
entry_in n table o i = let low = i.low in let high = i.high in (omega arith, omega arith)

abbrev pub Apart : ℕ → ℕ → Type 0
Apart p q = (p + 1 < q) ⊎ (q + 1 < p)

-- Links of two objects lie apart, and so do two links of one.
pub places_apart : (n table : ℕ) (c d : Link) → IsObjectNumber n (owner c) → IsObjectNumber n (owner d) → (d ≡ c → ⊥)
    → Apart (place_of table d) (place_of table c)
places_apart n table c d i j not = elim (cases_order (owner d) (owner c)) [
  | inl e ↦ within c d e not
  | inr (inl lt) ↦
      let a = place_in table c in
      let b = place_in table d in
      let low = j.low in
      let next : object_entry table (owner d) + 14 ≤ object_entry table (owner c) = omega arith in
      inl (omega (arith, a.0, b.1, next))
  | inr (inr lt) ↦
      let a = place_in table c in
      let b = place_in table d in
      let low = i.low in
      let next : object_entry table (owner c) + 14 ≤ object_entry table (owner d) = omega arith in
      inr (omega (arith, b.0, a.1, next))
]
  where
    within : (x y : Link) → owner y ≡ owner x → (y ≡ x → ⊥) → Apart (place_of table y) (place_of table x)
    within (Parent o) (Parent p) e other = absurd (other (ap (λ z. Parent z) e))
    within (Sibling o) (Sibling p) e other = absurd (other (ap (λ z. Sibling z) e))
    within (Child o) (Child p) e other = absurd (other (ap (λ z. Child z) e))
    within (Parent o) (Sibling p) e other = inr (rw e (omega arith))
    within (Parent o) (Child p) e other = inr (rw e (omega arith))
    within (Sibling o) (Child p) e other = inr (rw e (omega arith))
    within (Sibling o) (Parent p) e other = inl (rw e (omega arith))
    within (Child o) (Parent p) e other = inl (rw e (omega arith))
    within (Child o) (Sibling p) e other = inl (rw e (omega arith))

-- A link that is written

pub record Room (n : ℕ) (m : List ℕ) (at : ℕ) : Type 0 where
  pub past : 64 ≤ at
  pub before : at + 1 < static_base_of m
  pub inside : at + 1 < length m
  pub low : at + 1 < 65536

pub place_room : (n : ℕ) (m : List ℕ) (c : Link) → HasEntries n m → IsObjectNumber n (owner c)
    → Room n m (place_of (defaults_of m) c)
place_room n m c table i =
    let p = place_in (defaults_of m) c in
    let e = entry_in n (defaults_of m) (owner c) i in
    let start = table.start in
    let entries = table.below in
    let inside = table.inside in
    let low = table.low in
    let before : place_of (defaults_of m) c + 1 < static_base_of m = omega (arith, p.1, e.1) in
    record { past = omega (arith, p.0, e.0); before = before; inside = omega arith; low = omega arith }

-- no write after the header moves the entries
pub header_kept : (m : List ℕ) (at word k : ℕ) → 64 ≤ at → k < 63 → word_at (with_word m at word) k ≡ word_at m k
header_kept m at word k past low = word_other m at word k (inl (omega arith))

pub entries_kept : (n : ℕ) (old new : List ℕ) → HasEntries n old → length new ≡ length old
    → defaults_of new ≡ defaults_of old → static_base_of new ≡ static_base_of old → HasEntries n new
entries_kept n old new has size defaults base =
    let start = has.start in
    let below = has.below in
    let inside = has.inside in
    let low = has.low in
    record {
      start = subst (λ (x : ℕ). 64 ≤ x) (sym defaults) start;
      below = subst (λ (x : ℕ). x + 126 + 14 * n ≤ static_base_of new) (sym defaults)
          (subst (λ (x : ℕ). defaults_of old + 126 + 14 * n ≤ x) (sym base) below);
      inside = subst (λ (x : ℕ). x ≤ length new) (sym base)
          (subst (λ (x : ℕ). static_base_of old ≤ x) (sym size) inside);
      low = subst (λ (x : ℕ). x ≤ 65535) (sym base) low;
    }

pub relinked : (n : ℕ) (m : List ℕ) (c : Link) (word : ℕ) → HasEntries n m → IsObjectNumber n (owner c)
    → Relinked n m (with_word m (place_of (defaults_of m) c) word)
relinked n m c word table i =
    let at : ℕ = place_of (defaults_of m) c in
    let room = place_room n m c table i in
    let defaults : defaults_of (with_word m at word)
    ≡ defaults_of m = header_kept m at word 10 room.past (omega arith) in
    let base : static_base_of (with_word m at word)
    ≡ static_base_of m = header_kept m at word 14 room.past (omega arith) in
    let size = length_with m at word in
    record {
      entries = entries_kept n m (with_word m at word) table size defaults base;
      size = size;
      defaults = defaults;
      base = base;
      kept = λ k no. byte_other m at word k (not_here k (no c i)) (not_next k (no c i));
    }
  where
    not_here : (k : ℕ) → (k < place_of (defaults_of m) c) ⊎ (place_of (defaults_of m) c + 2 ≤ k)
        → k ≡ place_of (defaults_of m) c → ⊥
    not_here k (inl lt) e = omega arith
    not_here k (inr le) e = omega arith

    not_next : (k : ℕ) → (k < place_of (defaults_of m) c) ⊎ (place_of (defaults_of m) c + 2 ≤ k)
        → k ≡ place_of (defaults_of m) c + 1 → ⊥
    not_next k (inl lt) e = omega arith
    not_next k (inr le) e = omega arith

pub link_wrote : (n : ℕ) (m : List ℕ) (c : Link) (word : ℕ) → HasEntries n m → IsObjectNumber n (owner c)
    → WroteLink n (links_of m) c word (links_of (with_word m (place_of (defaults_of m) c) word))
link_wrote n m c word table i =
    let at : ℕ = place_of (defaults_of m) c in
    let w : List ℕ = with_word m at word in
    let room = place_room n m c table i in
    let defaults : defaults_of w ≡ defaults_of m = header_kept m at word 10 room.past (omega arith) in
    record {
      here = ap (λ t. word_at w (place_of t c)) defaults ∙ word_here m at word room.inside;
      there = λ d j not. ap (λ t. word_at w (place_of t d)) defaults
          ∙ word_other m at word (place_of (defaults_of m) d) (places_apart n (defaults_of m) c d i j not);
    }

pub relinked_after : {n : ℕ} {a b c : List ℕ} → Relinked n a b → Relinked n b c → Relinked n a c
relinked_after {n} {a} r s = record {
  entries = s.entries;
  size = s.size ∙ r.size;
  defaults = s.defaults ∙ r.defaults;
  base = s.base ∙ r.base;
  kept = λ k no.
      s.kept k
      (λ link i. subst (λ (t : ℕ). (k < place_of t link) ⊎ (place_of t link + 2 ≤ k)) (sym r.defaults) (no link i))
      ∙ r.kept k no;
}

-- Objects that have entries

pub object_has_entry : (n : ℕ) (m : List ℕ) (o : ℕ) → HasEntries n m → IsObjectNumber n o
    → has_entry (defaults_of m) (static_base_of m) o ≡ true
object_has_entry n m o table i =
    let e = entry_in n (defaults_of m) o i in
    let entries = table.below in
    and_from (nat_le 1 o) (nat_le (object_entry (defaults_of m) o + 14) (static_base_of m)) (le-leb 1 o i.low)
    (le-leb (object_entry (defaults_of m) o + 14) (static_base_of m) (omega (arith, e.1)))

-- the walk in memory is the walk along links
abbrev pub placed : ℕ → Option Link → Option ℕ
placed table None = None
placed table (Some c) = Some (place_of table c)

placed_if : (table : ℕ) (b : Bool) (x y : Option Link)
    → placed table (if b then x else y) ≡ (if b then placed table x else placed table y)
placed_if table true x y = refl
placed_if table false x y = refl

pub named_found : (m : List ℕ) (end o : ℕ) (c : Link) (steps : ℕ)
    → named_from m (defaults_of m) end o (place_of (defaults_of m) c) steps
    ≡ placed (defaults_of m) (found (has_entry (defaults_of m) end) (links_of m) o c steps)
unfolding named_from
named_found m end o c zero = refl
named_found m end o c (suc steps) =
    let t : ℕ = defaults_of m in
    let word : ℕ = links_of m c in
    let rest : Option Link = found (has_entry t end) (links_of m) o (Sibling word) steps in
    ap (λ (r : Option ℕ). if word == o then Some (place_of t c) else (if has_entry t end word then r else None))
    (named_found m end o (Sibling word) steps)
    ∙ ap (λ (r : Option ℕ). if word == o then Some (place_of t c) else r)
    (sym (placed_if t (has_entry t end word) rest None))
    ∙ sym (placed_if t (word == o) (Some c) (if has_entry t end word then rest else None))
