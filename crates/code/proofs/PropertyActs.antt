-- The opcodes that read properties, in memory that holds objects.
use Rattle.std.proofs.Common.{◌≡◌, ◌==◌, ◌≤◌, ◌<◌, ◌+◌, ◌-◌, ◌*◌, ◌%◌, ℕ, nat_le, Bool, false, List, if◌then◌else◌, []}
use Rattle.std.proofs.Common.{◌∷◌, length, slice_index, Option, Some, None, ap, sym, ◌∙◌, arith, subst, zero, suc}
use Rattle.std.proofs.lemmas.Bool.{ne_eqb, le-leb, and_from}
use Rattle.std.specs.List.{flat_map}
use Rattle.ztext.specs.Bytes.{word_at}
use Rattle.ztext.specs.Text.{Holds}
use Rattle.ztext.proofs.Holding.{holds_append}
use Rattle.zcore.specs.declared.next.Next.{Next}
use Rattle.zcore.specs.declared.place.Fault.TheVariants as faults
use Rattle.zcore.specs.Effects.{give_result}
use Rattle.zcore.specs.Entries.{properties_place}
use Rattle.zcore.specs.Execution.{load_word}
use Rattle.zcore.specs.Header.{defaults_of, static_base_of, static_end}
use Rattle.zcore.specs.ObjectProperties.{test_property_number, property_list, listed, search_list, find_property}
use Rattle.zcore.specs.ObjectProperties.{tested_property, default_place, property_value, get_property}
use Rattle.zcore.specs.ObjectProperties.{get_property_address, size_before, property_length, get_property_length}
use Rattle.zcore.specs.Objects.{property_table}
use Rattle.zcore.specs.Parts.{test, read_byte, read_word}
use Rattle.zcore.specs.Properties.{Property, list_start}
use Rattle.zcore.specs.State.{State, done, ◌>>=◌}
use Rattle.tables.specs.Rows.{word}
use Rattle.code.proofs.Listed.{word_held}
use Rattle.meaning.specs.Forests.{IsObjectNumber}
use Rattle.meaning.specs.Objects.{Objects, ObjectOf}
use Rattle.code.specs.Region.{HasObjects, tables_base}
use Rattle.code.specs.Tables.{table_at, table_place, list_place, words_place, list_bytes, PropertyTable}
use Rattle.code.proofs.Doing.{then_is, tests_object, reads_byte, reads_word, Acts}
use Rattle.code.proofs.HeldTables.{Held, table, provided}
use Rattle.code.proofs.PropertyLists.{found_none, found_some, StandsListed}
use Rattle.code.proofs.TablePlaces.{entry_in}

-- a word among those that stand at an address
pub word_among : (memory : List ℕ) (at : ℕ) (ws : List ℕ) (i : ℕ) → Holds memory at (flat_map word ws)
    → i < length ws → word_at memory (at + 2 * i) ≡ slice_index ws i
word_among memory at [] i held lt = absurd (omega (arith, lt))
word_among memory at (w ∷ ws) zero held lt =
    let z : at + 2 * 0 ≡ at = omega arith in
    ap (word_at memory) z ∙ word_held memory at w (holds_append memory at (word w) (flat_map word ws) held).0
word_among memory at (w ∷ ws) (suc i) held lt =
    let z : at + 2 * suc i ≡ at + 2 + 2 * i = omega arith in
    ap (word_at memory) z
    ∙ word_among memory (at + 2) ws i (holds_append memory at (word w) (flat_map word ws) held).1 (omega (arith, lt))

module _ (definitions : List ObjectOf) (defaults : List ℕ) (objects : Objects) (tables : List PropertyTable) (s : State)
    (has : HasObjects definitions defaults objects tables s.memory)
  where
    abbrev base : ℕ
    base = tables_base (length definitions) s.memory

    module _ (o : ℕ) (i : IsObjectNumber (length definitions) o) where
      held : Held (length definitions) tables s.memory o
      held = table definitions defaults objects tables s.memory has o i

      pub reads_table : Acts (property_table o) (table_place base tables o) s s
      unfolding property_table
      reads_table =
          let e = entry_in (length definitions) (defaults_of s.memory) o i in
          let below = has.entries.below in
          let inside = has.entries.inside in
          let low = has.entries.low in
          let read = reads_word s (properties_place (defaults_of s.memory) o) (omega (arith, e.1, below, inside))
          (omega (arith, e.1, below, low)) in
          record { is = read.is ∙ ap (λ w. done w s) held.place }

      -- the byte of the name's length
      pub reads_count : Acts (read_byte (table_place base tables o))
          (slice_index s.memory (table_place base tables o)) s s
      reads_count =
          let inside = has.entries.inside in
          let low = has.entries.low in
          let end = held.below in
          reads_byte s (table_place base tables o) (omega (arith, end, inside)) (omega (arith, end, low))

      starts : Acts (property_list o) (list_place base tables o) s s
      unfolding property_list
      starts =
          let at : ℕ = table_place base tables o in
          let start : list_start s.memory at ≡ list_place base tables o = ap (λ n. at + 1 + 2 * n) held.count in
          record { is = then_is _ reads_table ∙ then_is _ reads_count ∙ ap (λ n. done n s) start }

      -- the whole list can be read
      fits : list_place base tables o + length (list_bytes ((table_at tables o).properties)) ≤ static_end s.memory
      fits =
          let inside = has.entries.inside in
          let low = has.entries.low in
          let end = held.below in
          omega (arith, end, inside, low)

      module _ (q : ℕ) where
        -- what a search finds
        finds_none : objects.properties o q ≡ None → Acts (find_property o q) None s s
        unfolding find_property search_list
        finds_none is = record {
          is = then_is _ starts
              ∙ ap (λ x. listed x s)
              (found_none s.memory q (static_end s.memory) ((table_at tables o).properties) (list_place base tables o)
              (static_end s.memory) held.proper.properties held.list fits (omega arith) (has.provided o q i ∙ is));
        }

        finds_some : (ws : List ℕ) → objects.properties o q ≡ Some ws
            → Acts (find_property o q)
            (Some (record { number = q; address = words_place base tables o q; size = 2 * length ws })) s s
        unfolding find_property search_list
        finds_some ws is = record {
          is = then_is _ starts
              ∙ ap (λ x. listed x s)
              (found_some s.memory q (static_end s.memory) ((table_at tables o).properties) ws
              (list_place base tables o)
              (static_end s.memory) held.proper.properties held.list fits (omega arith) (has.provided o q i ∙ is));
        }

        tested : (found : Option Property) → 1 ≤ q → q ≤ 63 → Acts (find_property o q) found s s
            → Acts (tested_property o q) found s s
        unfolding tested_property test_property_number
        tested found low high finds = record {
          is = then_is _ (tests_object (length definitions) s has.entries o i)
              ∙ ap (λ (b : Bool). (test b faults.Property >>= λ _. find_property o q) s)
              (and_from (nat_le 1 q) (nat_le q 63) (le-leb 1 q low) (le-leb q 63 high))
              ∙ finds.is;
        }

        module _ (ws : List ℕ) (is : objects.properties o q ≡ Some ws) where
          abbrev place : ℕ
          place = words_place base tables o q

          stands : StandsListed s.memory q (list_place base tables o) ((table_at tables o).properties) ws
          stands = provided definitions defaults objects tables s.memory has o i q ws is

          tested_some : Acts (tested_property o q)
              (Some (record { number = q; address = place; size = 2 * length ws })) s s
          tested_some = tested _ stands.low stands.high (finds_some ws is)

          -- all the words lie in dynamic memory
          pub above : 64 ≤ place
          above =
              let start = has.entries.start in
              let table = held.above in
              let list = stands.above in
              omega (arith, start, table, list)

          pub below : place + 2 * length ws ≤ static_base_of s.memory
          below =
              let end = held.below in
              let last = stands.below in
              omega (arith, end, last)

          pub reads_at : (k : ℕ) → k < length ws → Acts (read_word (place + 2 * k)) (slice_index ws k) s s
          reads_at k lt =
              let inside = has.entries.inside in
              let low = has.entries.low in
              let end = below in
              let read = reads_word s (place + 2 * k) (omega (arith, end, inside, lt)) (omega (arith, end, low, lt)) in
              record { is = read.is ∙ ap (λ w. done w s) (word_among s.memory place ws k stands.words lt) }

    module _ (here : Next) (after : ℕ) (result : Option ℕ) where
      pub absent : (o q : ℕ) → IsObjectNumber (length definitions) o → 1 ≤ q → q ≤ 63 → objects.properties o q ≡ None
          → get_property_address here after result o q s ≡ give_result here after result 0 s
      unfolding get_property_address
      absent o q i low high is = then_is _ (tested o i q None low high (finds_none o i q is))

      pub default : (o q : ℕ) → IsObjectNumber (length definitions) o → 1 ≤ q → q ≤ 63 → objects.properties o q ≡ None
          → get_property here after result o q s ≡ give_result here after result (slice_index defaults (q - 1)) s
      unfolding get_property property_value
      default o q i low high is =
          let start = has.entries.start in
          let below = has.entries.below in
          let inside = has.entries.inside in
          let end = has.entries.low in
          let read = reads_word s (default_place (defaults_of s.memory) q) (omega (arith, below, inside, high, low))
          (omega (arith, below, end, high, low)) in
          then_is _ (tested o i q None low high (finds_none o i q is)) ∙ then_is _ read
          ∙ ap (λ w. give_result here after result w s) (has.defaults_there q low high)

      pub present : (o q : ℕ) (words : List ℕ) → IsObjectNumber (length definitions) o
          → objects.properties o q ≡ Some words
          → get_property_address here after result o q s
          ≡ give_result here after result (words_place base tables o q) s
      unfolding get_property_address
      present o q words i is =
          let last = below o i q words is in
          let low = has.entries.low in
          let same : words_place base tables o q % 65536 ≡ words_place base tables o q = omega (arith, last, low) in
          then_is _ (tested_some o i q words is) ∙ ap (λ w. give_result here after result w s) same

      pub single : (o q w : ℕ) → IsObjectNumber (length definitions) o → objects.properties o q ≡ Some (w ∷ [])
          → get_property here after result o q s ≡ give_result here after result w s
      unfolding get_property property_value
      single o q w i is =
          let at : ℕ = words_place base tables o q in
          let z : at + 2 * 0 ≡ at = omega arith in
          let read : Acts (read_word at) w s s = subst (λ k. Acts (read_word k) w s s) z
          (reads_at o i q (w ∷ []) is 0 (omega arith)) in
          then_is _ (tested_some o i q (w ∷ []) is) ∙ then_is _ read

      pub long : (o q : ℕ) (words : List ℕ) → IsObjectNumber (length definitions) o
          → objects.properties o q ≡ Some words
          → get_property_length here after result (words_place base tables o q) s
          ≡ give_result here after result (2 * length words) s
      unfolding get_property_length property_length
      long o q words i is =
          let at : ℕ = words_place base tables o q in
          let first = above o i q words is in
          let last = below o i q words is in
          let inside = has.entries.inside in
          let low = has.entries.low in
          let some : (at == 0) ≡ false = ne_eqb at 0 (λ e. omega (arith, e, first)) in
          let read = reads_byte s (at - 1) (omega (arith, first, last, inside)) (omega (arith, first, last, low)) in
          let before = (stands o i q words is).before in
          let sized : Acts (property_length at) (2 * length words) s s = record {
            is = ap (λ (b : Bool). (if b then done 0 else (read_byte (at - 1) >>= λ b. done (size_before b))) s) some
                ∙ then_is _ read ∙ ap (λ n. done n s) before;
          } in
          then_is _ sized

      pub loads : (o q k : ℕ) (words : List ℕ) → IsObjectNumber (length definitions) o
          → objects.properties o q ≡ Some words → k < length words
          → load_word here after result (words_place base tables o q) k s
          ≡ give_result here after result (slice_index words k) s
      unfolding load_word
      loads o q k words i is lt =
          let at : ℕ = words_place base tables o q in
          let last = below o i q words is in
          let low = has.entries.low in
          let same : (at + 2 * k) % 65536 ≡ at + 2 * k = omega (arith, last, low, lt) in
          then_is _ (subst (λ n. Acts (read_word n) (slice_index words k) s s) (sym same)
          (reads_at o i q words is k lt))
