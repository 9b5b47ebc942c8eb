-- A word of a property that is stored, in memory that holds objects.
use Rattle.std.proofs.Common.{◌≡◌, ◌≢◌, ◌≤◌, ◌<◌, ◌+◌, ◌-◌, ◌*◌, ◌%◌, ℕ, List, length, slice_index, slice_set, Some, ap}
use Rattle.std.proofs.Common.{sym, ◌∙◌, arith, subst, inl, inr}
use Rattle.std.specs.Prelude.{take, option_map}
use Rattle.std.specs.List.{flat_map}
use Rattle.std.proofs.lemmas.Bool.{cases_eq}
use Rattle.std.proofs.lemmas.List.{length-append, length-set, get_or-set_same, get_or-set_other}
use Rattle.std.proofs.lemmas.List.Elements.{All-set}
use Rattle.std.proofs.lemmas.List.Folds.{length-flat_map-take}
use Rattle.ztext.specs.Text.{Holds}
use Rattle.zcore.specs.declared.next.Next.{Next}
use Rattle.zcore.specs.Entries.{owner, place_of, properties_place}
use Rattle.zcore.specs.Execution.{store_word}
use Rattle.zcore.specs.Header.{defaults_of, static_base_of}
use Rattle.zcore.specs.Parts.{write_word, with_word}
use Rattle.zcore.specs.State.{State}
use Rattle.tables.specs.Rows.{name_bytes}
use Rattle.code.proofs.Names.{name_even}
use Rattle.meaning.specs.Forests.{IsObjectNumber}
use Rattle.meaning.specs.Objects.{Objects, ObjectOf, object_at, words_in, with_words}
use Rattle.code.specs.TableLaws.{Changes, on}
use Rattle.code.specs.Links.{links_of}
use Rattle.code.specs.Region.{HasObjects, HasTables, KeepsRest, tables_base}
use Rattle.code.specs.Tables.{no_table, list_bytes, table_bytes, IsTable, table_at, table_place}
use Rattle.code.specs.Tables.{PropertyTable, list_place, data_place, words_place}
use Rattle.code.proofs.AttributeBits.{if_both, if_not_first, if_not_second}
use Rattle.code.proofs.Bytes.{length_with, byte_other, holds_with}
use Rattle.code.proofs.Doing.{then_is, writes_word, Acts}
use Rattle.code.proofs.Frames.{SameHead, head_from, word_stays, attribute_stays, rest_kept}
use Rattle.code.proofs.HeldTables.{Held, table, provided}
use Rattle.code.proofs.PropertyLists.{StandsListed}
use Rattle.code.proofs.TablePlaces.{place_in, entry_in, entries_kept}
use Rattle.code.proofs.TableReading.{tree_kept}
use Rattle.code.proofs.StoredWords.{stored, read_stored, read_other, stored_listed, data_from, stored_in}
use Rattle.code.proofs.StoredWords.{place_within, table_with, tables_with, same_places}

module _ (definitions : List ObjectOf) (defaults : List ℕ) (objects : Objects) (tables : List PropertyTable)
    (m : List ℕ)
    (has : HasObjects definitions defaults objects tables m) (o q k v : ℕ) (words : List ℕ)
    (i : IsObjectNumber (length definitions) o) (is : objects.properties o q ≡ Some words) (lt : k < length words)
  where
    abbrev base : ℕ
    base = tables_base (length definitions) m

    abbrev here : PropertyTable
    here = table_at tables o

    abbrev others : List ℕ
    others = slice_set words k v

    abbrev after : List PropertyTable
    after = slice_set tables (o - 1) (stored_in q others here)

    abbrev at : ℕ
    at = words_place base tables o q + 2 * k

    abbrev new : List ℕ
    new = with_word m at v

    held : Held (length definitions) tables m o
    held = table definitions defaults objects tables m has o i

    stands : StandsListed m q (list_place base tables o) here.properties words
    stands = provided definitions defaults objects tables m has o i q words is

    listed : words_in q here.properties ≡ Some words
    listed = has.provided o q i ∙ is

    index : o - 1 < length tables
    index =
        let count = has.listed.count in
        let low = i.low in
        let high = i.high in
        omega (arith, count, low, high)

    -- the word lies among the tables
    low : base ≤ at
    low =
        let a = held.above in
        let b = stands.above in
        omega (arith, a, b)

    high : at + 1 < static_base_of m
    high =
        let a = held.below in
        let b = stands.below in
        omega (arith, a, b, lt)

    -- where it is, in its table and among all of them
    counted : words_place base tables o q ≡ list_place base tables o + data_place q 0 here.properties
    counted =
        let z : list_place base tables o ≡ list_place base tables o + 0 = omega arith in
        ap (λ n. data_place q n here.properties) z
        ∙ data_from q (list_place base tables o) 0 here.properties words listed

    abbrev offset : ℕ
    offset = length (flat_map table_bytes (take (o - 1) tables)) + (place_within q here + 2 * k)

    placed : base + offset ≡ at
    placed = omega (arith, counted, name_even here.name)

    short : place_within q here + 2 * k + 1 < length (table_bytes here)
    short =
        let a = length-append (name_bytes here.name) (list_bytes here.properties) in
        let b = stands.below in
        omega (arith, counted, a, b, lt)

    bytes : flat_map table_bytes after ≡ with_word (flat_map table_bytes tables) offset v
    bytes = tables_with (place_within q here + 2 * k) v (stored_in q others here) tables (o - 1) index
        (table_with q k v here words listed lt) short

    elsewhere : (p : ℕ) → p ≢ at → p ≢ (at + 1) → slice_index new p ≡ slice_index m p
    elsewhere p a b = byte_other m at v p a b

    -- below the tables nothing changes
    before : (p : ℕ) → p < base → slice_index new p ≡ slice_index m p
    before p less =
        let first = low in
        elsewhere p (λ e. omega (arith, e, less, first)) (λ e. omega (arith, e, less, first))

    head : SameHead m new
    head = let start = has.entries.start in
        head_from m new (length_with m at v) (λ p less. before p (omega (arith, less, start)))

    same_base : tables_base (length definitions) new ≡ base
    same_base = ap (λ t. t + 126 + 14 * length definitions) head.defaults

    same_size : length (flat_map table_bytes after) ≡ length (flat_map table_bytes tables)
    same_size = ap (λ l. length l) bytes ∙ length_with (flat_map table_bytes tables) offset v

    size : length others ≡ length words
    size = length-set words k v

    stand : Holds new (tables_base (length definitions) new) (flat_map table_bytes after)
    stand =
        let fits = length-flat_map-take table_bytes tables (o - 1) no_table index in
        let inner = short in
        let written : Holds (with_word m (base + offset) v) base (with_word (flat_map table_bytes tables) offset v) =
        holds_with m base (flat_map table_bytes tables) offset v has.listed.stand (omega (arith, fits, inner)) in
        subst (λ n. Holds new n (flat_map table_bytes after)) (sym same_base)
        (subst (λ l. Holds new base l) (sym bytes)
        (subst (λ n. Holds (with_word m n v) base (with_word (flat_map table_bytes tables) offset v)) placed written))

    places : (x : ℕ) → table_place (tables_base (length definitions) new) after x ≡ table_place base tables x
    places x =
        let long = ap (λ l. length l) (table_with q k v here words listed lt)
        ∙ length_with (table_bytes here) (place_within q here + 2 * k) v in
        ap (λ n. table_place n after x) same_base
        ∙ ap (λ n. base + n) (same_places (stored_in q others here) tables (o - 1) (x - 1) long index)

    -- the tables, one of which has other words
    table_here : (x : ℕ) → x ≡ o → table_at after x ≡ stored_in q others here
    table_here x e =
        ap (λ y. table_at after y) e ∙ get_or-set_same tables (o - 1) (stored_in q others here) no_table index

    table_there : (x : ℕ) → IsObjectNumber (length definitions) x → x ≢ o → table_at after x ≡ table_at tables x
    table_there x j apart =
        let a = i.low in
        let b = j.low in
        get_or-set_other tables (o - 1) (x - 1) (stored_in q others here) no_table
        (λ e. apart (omega (arith, e, a, b)))

    tables_after : HasTables (length definitions) after new
    tables_after =
        let below = has.listed.below in
        let proper : IsTable (stored_in q others here) = record {
          name = held.proper.name;
          properties = stored_listed q others here.properties words listed size held.proper.properties;
        } in
        record {
          count = length-set tables (o - 1) (stored_in q others here) ∙ has.listed.count;
          proper = All-set IsTable tables (o - 1) (stored_in q others here) proper has.listed.proper;
          below = omega (arith, below, same_base, same_size, head.base);
          stand = stand;
          places = λ x j.
              let e = entry_in (length definitions) (defaults_of m) x j in
              word_stays m new head (λ t. properties_place t x) (before _ (omega (arith, e.1)))
              (before _ (omega (arith, e.1)))
              ∙ has.listed.places x j ∙ sym (places x);
        }

    provided_after : (x p : ℕ) → IsObjectNumber (length definitions) x
        → words_in p ((table_at after x).properties) ≡ (with_words o q others objects).properties x p
    provided_after x p j = elim (cases_eq x o) [
      | inl same ↦ elim (cases_eq p q) [
        | inl it ↦
            ap (λ t. words_in p t.properties) (table_here x same)
            ∙ ap (λ n. words_in n (stored q others here.properties)) it
            ∙ read_stored q others here.properties words listed
            ∙ sym (if_both x o p q (Some others) (objects.properties x p) same it)
        | inr other ↦
            ap (λ t. words_in p t.properties) (table_here x same)
            ∙ read_other q others p here.properties other
            ∙ ap (λ y. words_in p ((table_at tables y).properties)) (sym same)
            ∙ has.provided x p j
            ∙ sym (if_not_second x o p q (Some others) (objects.properties x p) same other)
      ]
      | inr other ↦
          ap (λ t. words_in p t.properties) (table_there x j other) ∙ has.provided x p j
          ∙ sym (if_not_first x o p q (Some others) (objects.properties x p) other)
    ]

    -- as many words as before
    shaped_after : (x p : ℕ) → IsObjectNumber (length definitions) x
        → option_map length ((with_words o q others objects).properties x p)
        ≡ option_map length (words_in p (object_at definitions x).properties)
    shaped_after x p j = elim (cases_eq x o) [
      | inl same ↦ elim (cases_eq p q) [
        | inl it ↦
            ap (option_map length) (if_both x o p q (Some others) (objects.properties x p) same it)
            ∙ ap (λ (n : ℕ). Some n) size
            ∙ sym (ap (option_map length) is)
            ∙ ap (λ y. option_map length (objects.properties y q)) (sym same)
            ∙ ap (λ r. option_map length (objects.properties x r)) (sym it)
            ∙ has.shaped x p j
        | inr other ↦
            ap (option_map length) (if_not_second x o p q (Some others) (objects.properties x p) same other)
            ∙ has.shaped x p j
      ]
      | inr other ↦
          ap (option_map length) (if_not_first x o p q (Some others) (objects.properties x p) other)
          ∙ has.shaped x p j
    ]

    pub stored_objects : HasObjects definitions defaults (with_words o q others objects) after new
    stored_objects =
        let n = length definitions in
        record {
          entries = entries_kept n m new has.entries head.size head.defaults head.base;
          forest = has.forest;
          links = tree_kept n objects.tree (links_of m) (links_of new) has.forest has.links
              (λ c j.
              let p = place_in (defaults_of m) c in
              let e = entry_in n (defaults_of m) (owner c) j in
              word_stays m new head (λ t. place_of t c) (before _ (omega (arith, p.1, e.1)))
              (before _ (omega (arith, p.1, e.1))));
          attributes = λ x a j less.
              let e = entry_in n (defaults_of m) x j in
              attribute_stays m new head x a (before _ (omega (arith, less, e.1))) ∙ has.attributes x a j less;
          defaults_there = λ p first last.
              word_stays m new head (λ t. t + 2 * (p - 1)) (before _ (omega (arith, first, last)))
              (before _ (omega (arith, first, last)))
              ∙ has.defaults_there p first last;
          listed = tables_after;
          provided = provided_after;
          names = λ x j. elim (cases_eq x o) [
            | inl same ↦
                ap (λ t. t.name) (table_here x same) ∙ ap (λ y. (table_at tables y).name) (sym same) ∙ has.names x j
            | inr other ↦ ap (λ t. t.name) (table_there x j other) ∙ has.names x j
          ];
          shaped = shaped_after;
        }

    pub stored_rest : KeepsRest m new
    stored_rest =
        let first = low in
        let last = high in
        rest_kept m new head.size (λ p less. before p (omega (arith, less)))
        (λ p more. elsewhere p (λ e. omega (arith, e, more, last)) (λ e. omega (arith, e, more, last)))

-- The opcode

pub stores : (definitions : List ObjectOf) (defaults : List ℕ) (objects : Objects) (tables : List PropertyTable)
    (s : State)
    → HasObjects definitions defaults objects tables s.memory → (next : Next) (behind : ℕ) (o q k v : ℕ)
    (words : List ℕ) → IsObjectNumber (length definitions) o → objects.properties o q ≡ Some words
    → k < length words
    → Changes definitions defaults (with_words o q (slice_set words k v) objects)
    (store_word next behind (words_place (tables_base (length definitions) s.memory) tables o q) k v)
    (on definitions defaults next behind) s
unfolding store_word
stores definitions defaults objects tables s has next behind o q k v words i is lt =
    let place : ℕ = words_place (tables_base (length definitions) s.memory) tables o q + 2 * k in
    let first = low definitions defaults objects tables s.memory has o q k v words i is lt in
    let last = high definitions defaults objects tables s.memory has o q k v words i is lt in
    let start = has.entries.start in
    let end = has.entries.low in
    let same : place ≡ place % 65536 = omega (arith, last, end) in
    let writes = writes_word s place v (omega (arith, first, start)) last in
    let memory : List ℕ = with_word (s.memory) place v in
    let there : Acts (write_word (place % 65536) v) tt s (record s { memory = memory }) =
    subst (λ n. Acts (write_word n v) tt s (record s { memory = memory })) same writes in
    record {
      memory = memory;
      tables = after definitions defaults objects tables s.memory has o q k v words i is lt;
      does = then_is _ there;
      has = stored_objects definitions defaults objects tables s.memory has o q k v words i is lt;
      keeps = stored_rest definitions defaults objects tables s.memory has o q k v words i is lt;
    }
