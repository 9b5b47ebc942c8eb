-- A word of a property that is stored, in the bytes of property tables.
use Rattle.std.proofs.Common.{◌≡◌, ◌≢◌, ◌==◌, ◌+◌, ◌*◌, ◌<◌, ℕ, zero, suc, if◌then◌else◌, List, [], ◌∷◌, ◌++◌, length}
use Rattle.std.proofs.Common.{slice_index_or, slice_set, Some, refl, ap, sym, ◌∙◌, arith, subst, inl, inr}
use Rattle.std.specs.Prelude.{take}
use Rattle.std.specs.List.{All, flat_map}
use Rattle.std.proofs.lemmas.Bool.{cases_eq}
use Rattle.std.proofs.lemmas.List.{length-append, length-set}
use Rattle.std.proofs.lemmas.List.Elements.{All-head, All-tail, All-cons}
use Rattle.zcore.specs.Parts.{with_word}
use Rattle.tables.specs.Rows.{word, sizes, name_bytes, name_words}
use Rattle.code.proofs.Listed.{length_words}
use Rattle.meaning.specs.Objects.{words_in}
use Rattle.meaning.proofs.ObjectLists.{if_same, if_other}
use Rattle.code.specs.Tables.{no_table, size_bytes, property_bytes, list_bytes, table_bytes}
use Rattle.code.specs.Tables.{PropertyTable, IsListed, data_place}
use Rattle.code.proofs.Bytes.{with_behind, with_before}
use Rattle.code.proofs.PropertyLists.{length_property}

-- the first property of a number has other words
abbrev pub stored : ℕ → List ℕ → List (ℕ × List ℕ) → List (ℕ × List ℕ)
stored q ws [] = []
stored q ws (x ∷ xs) = if x.0 == q then (x.0, ws) ∷ xs else x ∷ stored q ws xs

some_same : {A : Type 0} {y z : A} → Some y ≡ Some z → y ≡ z
some_same e = cc

module _ (q : ℕ) (new : List ℕ) where
  stored_here : (x : ℕ × List ℕ) (xs : List (ℕ × List ℕ)) → x.0 ≡ q → stored q new (x ∷ xs) ≡ (x.0, new) ∷ xs
  stored_here x xs same = if_same x.0 q ((x.0, new) ∷ xs) (x ∷ stored q new xs) same

  stored_later : (x : ℕ × List ℕ) (xs : List (ℕ × List ℕ)) → x.0 ≢ q
      → stored q new (x ∷ xs) ≡ x ∷ stored q new xs
  stored_later x xs other = if_other x.0 q ((x.0, new) ∷ xs) (x ∷ stored q new xs) other

  -- what is read of it, and of the others
  pub read_stored : (xs : List (ℕ × List ℕ)) (ws : List ℕ) → words_in q xs ≡ Some ws
      → words_in q (stored q new xs) ≡ Some new
  read_stored [] ws is = absurd (cc)
  read_stored (x ∷ xs) ws is = elim (cases_eq x.0 q) [
    | inl same ↦ ap (words_in q) (stored_here x xs same) ∙ if_same x.0 q (Some new) (words_in q xs) same
    | inr other ↦
        ap (words_in q) (stored_later x xs other)
        ∙ if_other x.0 q (Some x.1) (words_in q (stored q new xs)) other
        ∙ read_stored xs ws (sym (if_other x.0 q (Some x.1) (words_in q xs) other) ∙ is)
  ]

  pub read_other : (p : ℕ) (xs : List (ℕ × List ℕ)) → p ≢ q → words_in p (stored q new xs) ≡ words_in p xs
  read_other p [] apart = refl
  read_other p (x ∷ xs) apart = elim (cases_eq x.0 q) [
    | inl same ↦
        let not : x.0 ≢ p = λ e. apart (sym e ∙ same) in
        ap (words_in p) (stored_here x xs same) ∙ if_other x.0 p (Some new) (words_in p xs) not
        ∙ sym (if_other x.0 p (Some x.1) (words_in p xs) not)
    | inr other ↦
        ap (words_in p) (stored_later x xs other)
        ∙ ap (λ r. if x.0 == p then Some x.1 else r) (read_other p xs apart)
  ]

  pub stored_listed : (xs : List (ℕ × List ℕ)) (ws : List ℕ) → words_in q xs ≡ Some ws → length new ≡ length ws
      → All IsListed xs → All IsListed (stored q new xs)
  stored_listed [] ws is size are = absurd (cc)
  stored_listed (x ∷ xs) ws is size are =
      let one = All-head IsListed x xs are in
      let rest = All-tail IsListed x xs are in
      elim (cases_eq x.0 q) [
        | inl same ↦
            let there : Some x.1 ≡ Some ws = sym (if_same x.0 q (Some x.1) (words_in q xs) same) ∙ is in
            let long : length x.1 ≡ length ws = ap (λ l. length l) (some_same there) in
            let some = one.some in
            let few = one.few in
            let listed : IsListed (x.0, new) = record {
              low = one.low;
              high = one.high;
              some = omega (arith, size, long, some);
              few = omega (arith, size, long, few);
            } in
            subst (All IsListed) (sym (stored_here x xs same)) (All-cons IsListed (x.0, new) xs listed rest)
        | inr other ↦
            let later = stored_listed xs ws (sym (if_other x.0 q (Some x.1) (words_in q xs) other) ∙ is) size rest in
            subst (All IsListed) (sym (stored_later x xs other)) (All-cons IsListed x (stored q new xs) one later)
      ]

-- The bytes

words_with : (ws : List ℕ) (i v : ℕ) → i < length ws
    → flat_map word (slice_set ws i v) ≡ with_word (flat_map word ws) (2 * i) v
words_with [] i v lt = absurd (omega (arith, lt))
words_with (w ∷ ws) zero v lt = refl
words_with (w ∷ ws) (suc i) v lt =
    let next : 2 + 2 * i ≡ 2 * suc i = omega arith in
    ap (λ l. word w ++ l) (words_with ws i v (omega (arith, lt)))
    ∙ sym (with_behind (word w) (flat_map word ws) (2 * i) v)
    ∙ ap (λ n. with_word (word w ++ flat_map word ws) n v) next

-- a place counts from where the list begins
pub data_from : (q a b : ℕ) (xs : List (ℕ × List ℕ)) (ws : List ℕ) → words_in q xs ≡ Some ws
    → data_place q (a + b) xs ≡ a + data_place q b xs
data_from q a b [] ws is = absurd (cc)
data_from q a b (x ∷ xs) ws is = elim (cases_eq x.0 q) [
  | inl same ↦
      let e = if_same x.0 q (a + b + length (size_bytes x))
      (data_place q (a + b + length (property_bytes x)) xs) same in
      let f = if_same x.0 q (b + length (size_bytes x)) (data_place q (b + length (property_bytes x)) xs) same in
      omega (arith, e, f)
  | inr other ↦
      let e = if_other x.0 q (a + b + length (size_bytes x)) (data_place q (a + b + length (property_bytes x)) xs)
      other in
      let f = if_other x.0 q (b + length (size_bytes x)) (data_place q (b + length (property_bytes x)) xs) other in
      let z : a + b + length (property_bytes x) ≡ a + (b + length (property_bytes x)) = omega arith in
      let later : words_in q xs ≡ Some ws = sym (if_other x.0 q (Some x.1) (words_in q xs) other) ∙ is in
      e ∙ ap (λ n. data_place q n xs) z ∙ data_from q a (b + length (property_bytes x)) xs ws later
      ∙ ap (λ n. a + n) (sym f)
]

module _ (q i v : ℕ) where
  pub list_with : (xs : List (ℕ × List ℕ)) (ws : List ℕ) → words_in q xs ≡ Some ws → i < length ws
      → list_bytes (stored q (slice_set ws i v) xs) ≡ with_word (list_bytes xs) (data_place q 0 xs + 2 * i) v
  list_with [] ws is lt = absurd (cc)
  list_with (x ∷ xs) ws is lt =
      let new : List ℕ = slice_set ws i v in
      elim (cases_eq x.0 q) [
        | inl same ↦
            let there : Some x.1 ≡ Some ws = sym (if_same x.0 q (Some x.1) (words_in q xs) same) ∙ is in
            let words : x.1 ≡ ws = some_same there in
            let size : sizes x.0 (length new) ≡ size_bytes x = ap (λ n. sizes x.0 n)
            (length-set ws i v ∙ ap (λ l. length l) (sym words)) in
            let place : length (size_bytes x) ≡ data_place q 0 (x ∷ xs) = omega
            (arith, if_same x.0 q (0 + length (size_bytes x)) (data_place q (0 + length (property_bytes x)) xs) same) in
            let put : flat_map word new ≡ with_word (flat_map word x.1) (2 * i) v =
            words_with ws i v lt ∙ ap (λ l. with_word (flat_map word l) (2 * i) v) (sym words) in
            let long = length_words x.1 in
            let count : length x.1 ≡ length ws = ap (λ l. length l) words in
            ap list_bytes (stored_here q new x xs same)
            ∙ ap (λ l. (l ++ flat_map word new) ++ list_bytes xs) size
            ∙ ap (λ l. (size_bytes x ++ l) ++ list_bytes xs) put
            ∙ ap (λ l. l ++ list_bytes xs) (sym (with_behind (size_bytes x) (flat_map word x.1) (2 * i) v))
            ∙ sym (with_before (property_bytes x) (list_bytes xs) (length (size_bytes x) + 2 * i) v
            (omega (arith, length_property x, count, lt)))
            ∙ ap (λ n. with_word (list_bytes (x ∷ xs)) (n + 2 * i) v) place
        | inr other ↦
            let left : words_in q xs ≡ Some ws = sym (if_other x.0 q (Some x.1) (words_in q xs) other) ∙ is in
            let later = list_with xs ws left lt in
            let pass : data_place q (0 + length (property_bytes x)) xs ≡ data_place q 0 (x ∷ xs) =
            sym (if_other x.0 q (0 + length (size_bytes x)) (data_place q (0 + length (property_bytes x)) xs) other) in
            let z : 0 + length (property_bytes x) ≡ length (property_bytes x) + 0 = omega arith in
            let place : length (property_bytes x) + (data_place q 0 xs + 2 * i) ≡ data_place q 0 (x ∷ xs) + 2 * i =
            omega (arith, ap (λ n. data_place q n xs) z ∙ data_from q (length (property_bytes x)) 0 xs ws left, pass) in
            ap list_bytes (stored_later q new x xs other)
            ∙ ap (λ l. property_bytes x ++ l) later
            ∙ sym (with_behind (property_bytes x) (list_bytes xs) (data_place q 0 xs + 2 * i) v)
            ∙ ap (λ n. with_word (list_bytes (x ∷ xs)) n v) place
      ]

-- a table in which a property has other words
abbrev pub stored_in : ℕ → List ℕ → PropertyTable → PropertyTable
stored_in q ws t = record { name = t.name; properties = stored q ws t.properties }

-- where the words of a property stand in a table
abbrev pub place_within : ℕ → PropertyTable → ℕ
place_within q t = 1 + (length (name_bytes t.name) + data_place q 0 t.properties)

pub table_with : (q i v : ℕ) (t : PropertyTable) (ws : List ℕ) → words_in q t.properties ≡ Some ws → i < length ws
    → table_bytes (stored_in q (slice_set ws i v) t) ≡ with_word (table_bytes t) (place_within q t + 2 * i) v
table_with q i v t ws is lt =
    let front : List ℕ = name_words t.name ∷ [] in
    let list : List ℕ = list_bytes t.properties in
    let name : List ℕ = name_bytes t.name in
    let k : ℕ = data_place q 0 t.properties + 2 * i in
    let place : length front + (length name + k) ≡ place_within q t + 2 * i = omega arith in
    ap (λ l. front ++ (name ++ l)) (list_with q i v t.properties ws is lt)
    ∙ ap (λ l. front ++ l) (sym (with_behind name list k v))
    ∙ sym (with_behind front (name ++ list) (length name + k) v)
    ∙ ap (λ n. with_word (table_bytes t) n v) place

-- Tables one after another

pub tables_with : (p v : ℕ) (new : PropertyTable) (tables : List PropertyTable) (k : ℕ) → k < length tables
    → table_bytes new ≡ with_word (table_bytes (slice_index_or tables k no_table)) p v
    → p + 1 < length (table_bytes (slice_index_or tables k no_table))
    → flat_map table_bytes (slice_set tables k new)
    ≡ with_word (flat_map table_bytes tables) (length (flat_map table_bytes (take k tables)) + p) v
tables_with p v new [] k lt is short = absurd (omega arith)
tables_with p v new (t ∷ ts) zero lt is short =
    let z : p ≡ 0 + p = omega arith in
    ap (λ l. l ++ flat_map table_bytes ts) is
    ∙ sym (with_before (table_bytes t) (flat_map table_bytes ts) p v short)
    ∙ ap (λ n. with_word (table_bytes t ++ flat_map table_bytes ts) n v) z
tables_with p v new (t ∷ ts) (suc k) lt is short =
    let long = length-append (table_bytes t) (flat_map table_bytes (take k ts)) in
    let there : length (table_bytes t) + (length (flat_map table_bytes (take k ts)) + p)
    ≡ length (table_bytes t ++ flat_map table_bytes (take k ts)) + p = omega (arith, long) in
    ap (λ l. table_bytes t ++ l) (tables_with p v new ts k (omega arith) is short)
    ∙ sym (with_behind (table_bytes t) (flat_map table_bytes ts) (length (flat_map table_bytes (take k ts)) + p) v)
    ∙ ap (λ n. with_word (table_bytes t ++ flat_map table_bytes ts) n v) there

-- they stand where they stood
pub same_places : (new : PropertyTable) (tables : List PropertyTable) (k j : ℕ)
    → length (table_bytes new) ≡ length (table_bytes (slice_index_or tables k no_table)) → k < length tables
    → length (flat_map table_bytes (take j (slice_set tables k new))) ≡ length (flat_map table_bytes (take j tables))
same_places new [] k j size lt = absurd (omega arith)
same_places new (t ∷ ts) k zero size lt = refl
same_places new (t ∷ ts) zero (suc j) size lt =
    let a = length-append (table_bytes new) (flat_map table_bytes (take j ts)) in
    let b = length-append (table_bytes t) (flat_map table_bytes (take j ts)) in
    omega (arith, a, b, size)
same_places new (t ∷ ts) (suc k) (suc j) size lt =
    let a = length-append (table_bytes t) (flat_map table_bytes (take j (slice_set ts k new))) in
    let b = length-append (table_bytes t) (flat_map table_bytes (take j ts)) in
    let rest = same_places new ts k j size (omega arith) in
    omega (arith, a, b, rest)
