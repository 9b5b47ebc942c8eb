-- Bytes that stand in memory, and what writes leave of them.
use Rattle.std.proofs.Common.{◌≡◌, ℕ, ◌+◌, ◌-◌, ◌/◌, ◌%◌, ◌<◌, ◌≤◌, ◌⊎◌, inl, inr, List, [], ◌∷◌, length, set, drop}
use Rattle.std.proofs.Common.{slice_index, refl, ap, sym, ◌∙◌, subst, arith}
use Rattle.std.proofs.lemmas.Bool.{cases_eq}
use Rattle.std.proofs.lemmas.List.{get_or-set_same, get_or-set_other, length-set, drop-set-lt, get_or-drop, drop-drop}
use Rattle.std.proofs.lemmas.List.{get_or-take}
use Rattle.ztext.specs.Text.{Holds}
use Rattle.zcore.specs.Parts.{with_word}
use Rattle.zcore.specs.Turn.{with_bytes}

-- these bytes stand in memory from an address on
pub record StandsIn (memory : List ℕ) (base : ℕ) (bytes : List ℕ) : Type 0 where
  pub within : base + length bytes ≤ length memory
  pub each : (j : ℕ) → j < length bytes → slice_index memory (base + j) ≡ slice_index bytes j

-- one of them is written
pub stands_set : (memory : List ℕ) (base : ℕ) (bytes : List ℕ) (j v : ℕ) → StandsIn memory base bytes
    → j < length bytes → StandsIn (set memory (base + j) v) base (set bytes j v)
stands_set memory base bytes j v s lt = record {
  within = omega (arith, s.within, length-set memory (base + j) v, length-set bytes j v);
  each = λ k h. go k (omega (arith, h, length-set bytes j v)) (cases_eq k j);
}
  where
    go : (k : ℕ) → k < length bytes → (k ≡ j) ⊎ (k ≡ j → ⊥)
        → slice_index (set memory (base + j) v) (base + k) ≡ slice_index (set bytes j v) k
    go k h (inl e) =
        ap (λ n. slice_index (set memory (base + j) v) (base + n)) e
        ∙ get_or-set_same memory (base + j) v 0 (omega (arith, s.within, lt))
        ∙ sym (ap (slice_index (set bytes j v)) e ∙ get_or-set_same bytes j v 0 lt)
    go k h (inr ne) =
        get_or-set_other memory (base + j) (base + k) v 0 (λ e. ne (omega (arith, e))) ∙ s.each k h
        ∙ sym (get_or-set_other bytes j k v 0 ne)

-- a word of two of them is written
pub stands_word : (memory : List ℕ) (base : ℕ) (bytes : List ℕ) (j v : ℕ) → StandsIn memory base bytes
    → j + 1 < length bytes → StandsIn (with_word memory (base + j) v) base (with_word bytes j v)
stands_word memory base bytes j v s lt =
    let z : base + (j + 1) ≡ base + j + 1 = omega arith in
    let m1 = set memory (base + j) (v / 256) in
    let b1 = set bytes j (v / 256) in
    subst (λ n. StandsIn (set m1 n (v % 256)) base (set b1 (j + 1) (v % 256))) z
    (stands_set m1 base b1 (j + 1) (v % 256) (stands_set memory base bytes j (v / 256) s (omega (arith, lt)))
    (omega (arith, lt, length-set bytes j (v / 256))))

-- bytes are written one after another
pub stands_bytes : (memory : List ℕ) (base : ℕ) (bytes : List ℕ) (j : ℕ) (vs : List ℕ) → StandsIn memory base bytes
    → j + length vs ≤ length bytes → StandsIn (with_bytes memory (base + j) vs) base (with_bytes bytes j vs)
stands_bytes memory base bytes j [] s room = s
stands_bytes memory base bytes j (v ∷ vs) s room =
    let z : base + (j + 1) ≡ base + j + 1 = omega arith in
    subst (λ n. StandsIn (with_bytes (set memory (base + j) v) n vs) base (with_bytes (set bytes j v) (j + 1) vs)) z
    (stands_bytes (set memory (base + j) v) base (set bytes j v) (j + 1) vs
    (stands_set memory base bytes j v s (omega (arith, room))) (omega (arith, room, length-set bytes j v)))

-- bytes before them are written
pub stands_on : (memory other : List ℕ) (base : ℕ) (bytes : List ℕ) → StandsIn memory base bytes
    → length other ≡ length memory → ((q : ℕ) → base ≤ q → slice_index other q ≡ slice_index memory q)
    → StandsIn other base bytes
stands_on memory other base bytes s size same = record {
  within = omega (arith, s.within, size);
  each = λ j h. same (base + j) (omega arith) ∙ s.each j h;
}

-- memory that is the same from an address on
pub same_on : (base q : ℕ) (memory other : List ℕ) → drop base other ≡ drop base memory → base ≤ q
    → drop q other ≡ drop q memory
same_on base q memory other kept high =
    let e : base + (q - base) ≡ q = omega (arith, high) in
    subst (λ x. drop x other ≡ drop x memory) e (sym (drop-drop (q - base) base other) ∙ ap (drop (q - base)) kept
    ∙ drop-drop (q - base) base memory)

-- bytes before one address, and from another on, are the same
pub record KeepsOutside (from to : ℕ) (old new : List ℕ) : Type 0 where
  pub size : length new ≡ length old
  pub before : (q : ℕ) → q < from → slice_index new q ≡ slice_index old q
  pub after : drop to new ≡ drop to old

-- and more bytes may differ
pub keeps_wider : (from to end : ℕ) (l m : List ℕ) → to ≤ end → KeepsOutside from to l m → KeepsOutside from end l m
keeps_wider from to end l m le k = record { size = k.size; before = k.before; after = same_on to end l m k.after le }

-- a byte after them
pub byte_behind : (from to : ℕ) (l m : List ℕ) (q : ℕ) → KeepsOutside from to l m → to ≤ q
    → slice_index m q ≡ slice_index l q
byte_behind from to l m q k high =
    let e : to + (q - to) ≡ q = omega (arith, high) in
    ap (slice_index m) (sym e) ∙ sym (get_or-drop to m (q - to) 0) ∙ ap (λ bs. slice_index bs (q - to)) k.after
    ∙ get_or-drop to l (q - to) 0 ∙ ap (slice_index l) e

pub keeps_then : (from to : ℕ) (l m n : List ℕ) → KeepsOutside from to l m → KeepsOutside from to m n
    → KeepsOutside from to l n
keeps_then from to l m n a b = record {
  size = b.size ∙ a.size;
  before = λ q h. b.before q h ∙ a.before q h;
  after = b.after ∙ a.after;
}

pub keeps_set : (from to at v : ℕ) (m : List ℕ) → from ≤ at → at < to → KeepsOutside from to m (set m at v)
keeps_set from to at v m low high = record {
  size = length-set m at v;
  before = λ q h. get_or-set_other m at q v 0 (λ e. omega (arith, e, h, low));
  after = drop-set-lt to m at v high;
}

pub keeps_word : (from to at v : ℕ) (m : List ℕ) → from ≤ at → at + 1 < to → KeepsOutside from to m (with_word m at v)
keeps_word from to at v m low high =
    keeps_then from to m (set m at (v / 256)) (with_word m at v)
    (keeps_set from to at (v / 256) m low (omega (arith, high)))
    (keeps_set from to (at + 1) (v % 256) (set m at (v / 256)) (omega (arith, low)) high)

pub keeps_bytes : (from to at : ℕ) (vs m : List ℕ) → from ≤ at → at + length vs ≤ to
    → KeepsOutside from to m (with_bytes m at vs)
keeps_bytes from to at [] m low high = record { size = refl; before = λ q h. refl; after = refl }
keeps_bytes from to at (v ∷ vs) m low high =
    keeps_then from to m (set m at v) (with_bytes (set m at v) (at + 1) vs)
    (keeps_set from to at v m low (omega (arith, high)))
    (keeps_bytes from to (at + 1) vs (set m at v) (omega (arith, low)) (omega (arith, high)))

-- bytes that stand as a run
pub held_stands : (memory : List ℕ) (base : ℕ) (bytes : List ℕ) → base + length bytes ≤ length memory
    → Holds memory base bytes → StandsIn memory base bytes
held_stands memory base bytes long h = record { within = long; each = λ j lt. go j lt }
  where
    go : (j : ℕ) → j < length bytes → slice_index memory (base + j) ≡ slice_index bytes j
    go j lt =
        sym (get_or-drop base memory j 0) ∙ sym (get_or-take (length bytes) (drop base memory) j 0 lt)
        ∙ ap (λ xs. slice_index xs j) h
