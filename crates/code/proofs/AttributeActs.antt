-- The opcodes on attributes, in memory that holds objects.
use Rattle.std.proofs.Common.{◌≡◌, ◌≢◌, ◌≤◌, ◌<◌, ◌+◌, ◌-◌, ◌*◌, ◌/◌, ℕ, Bool, true, false, List, length, slice_index}
use Rattle.std.proofs.Common.{slice_set, Option, ap, sym, ◌∙◌, arith, subst, inl, inr, ◌⊎◌}
use Rattle.std.proofs.lemmas.Bool.{cases_eq, lt-ltb}
use Rattle.std.proofs.lemmas.List.{length-set, get_or-set_same, get_or-set_other}
use Rattle.zcore.specs.declared.instruction.Branch.{Branch}
use Rattle.zcore.specs.declared.next.Next.{Next}
use Rattle.zcore.specs.declared.place.Fault.TheVariants as faults
use Rattle.zcore.specs.Entries.{Link, object_entry, place_of, properties_place, attribute_place, is_set}
use Rattle.zcore.specs.Header.{defaults_of}
use Rattle.zcore.specs.Objects.{test_attribute_number, read_attributes, write_attributes, tested_attributes}
use Rattle.zcore.specs.Objects.{test_attribute, set_attribute, clear_attribute, with_bit, without_bit}
use Rattle.zcore.specs.Parts.{test, branch_on}
use Rattle.zcore.specs.State.{State}
use Rattle.meaning.specs.Forests.{IsObjectNumber}
use Rattle.meaning.specs.Objects.{Objects, ObjectOf, with_attribute}
use Rattle.code.specs.TableLaws.{Changes, on}
use Rattle.code.specs.Links.{links_of}
use Rattle.code.specs.Region.{HasObjects, KeepsRest, tables_base}
use Rattle.code.specs.Tables.{PropertyTable}
use Rattle.code.proofs.Doing.{then_is, tests_object, reads_byte, writes_byte, Acts}
use Rattle.code.proofs.Frames.{SameHead, head_from, word_stays, tables_stay, in_entry, rest_kept}
use Rattle.code.proofs.TablePlaces.{entry_in, entries_kept}
use Rattle.code.proofs.TableReading.{tree_kept}
use Rattle.code.proofs.AttributeBits.{bit_of, set_here, set_other, clear_here, clear_other, if_both}
use Rattle.code.proofs.AttributeBits.{if_not_first, if_not_second, entries_apart}

-- A byte of attributes that is written

module _ (definitions : List ObjectOf) (defaults : List ℕ) (objects : Objects) (tables : List PropertyTable)
    (m : List ℕ)
    (has : HasObjects definitions defaults objects tables m) (o a : ℕ)
    (i : IsObjectNumber (length definitions) o) (short : a < 48)
  where
    abbrev at : ℕ
    at = attribute_place (defaults_of m) o a

    -- the byte lies among the entries
    above : defaults_of m + 126 ≤ at
    above = let e = entry_in (length definitions) (defaults_of m) o i in omega (arith, e.0)

    within : at + 6 ≤ tables_base (length definitions) m
    within = let e = entry_in (length definitions) (defaults_of m) o i in omega (arith, e.1, short)

    module _ (byte : ℕ) (value : Bool) (here : is_set byte a ≡ value)
        (there : (b : ℕ) → bit_of b ≢ bit_of a → is_set byte b ≡ is_set (slice_index m at) b)
      where
        abbrev new : List ℕ
        new = slice_set m at byte

        elsewhere : (q : ℕ) → q ≢ at → slice_index new q ≡ slice_index m q
        elsewhere q apart = get_or-set_other m at q byte 0 apart

        head : SameHead m new
        head = let start = has.entries.start in
            let low = above in
            head_from m new (length-set m at byte) (λ q lt. elsewhere q (λ e. omega (arith, e, lt, low, start)))

        written : slice_index new at ≡ byte
        written =
            let below = has.entries.below in
            let inside = has.entries.inside in
            let high = within in
            get_or-set_same m at byte 0 (omega (arith, high, below, inside))

        attribute_is : (x b : ℕ) → IsObjectNumber (length definitions) x → b < 48
            → is_set (slice_index new (attribute_place (defaults_of m) x b)) b
            ≡ (with_attribute o a value objects).attributes x b
        attribute_is x b j low = elim (cases_eq x o) [
          | inl same ↦ elim (cases_eq b a) [
            | inl it ↦
                let place : attribute_place (defaults_of m) x b ≡ at =
                ap (λ y. attribute_place (defaults_of m) y b) same ∙ ap (λ y. attribute_place (defaults_of m) o y) it in
                ap (λ k. is_set (slice_index new k) b) place ∙ ap (λ y. is_set y b) written ∙ ap (is_set byte) it ∙ here
                ∙ sym (if_both x o b a value (objects.attributes x b) same it)
            | inr other ↦ elim (cases_eq (b / 8) (a / 8)) [
              | inl near ↦
                  let place : attribute_place (defaults_of m) x b ≡ at =
                  ap (λ y. attribute_place (defaults_of m) y b) same
                  ∙ ap (λ y. object_entry (defaults_of m) o + y) near in
                  let apart : bit_of b ≢ bit_of a = λ e. other (omega (arith, near, e)) in
                  ap (λ k. is_set (slice_index new k) b) place ∙ ap (λ y. is_set y b) written ∙ there b apart
                  ∙ ap (λ k. is_set (slice_index m k) b) (sym place) ∙ has.attributes x b j low
                  ∙ sym (if_not_second x o b a value (objects.attributes x b) same other)
              | inr far ↦
                  ap (λ y. is_set y b)
                  (elsewhere (attribute_place (defaults_of m) x b)
                  (entries_apart (length definitions) (defaults_of m) x o (b / 8) (a / 8) j i (omega (arith, low))
                  (omega (arith, short)) (λ e. far)))
                  ∙ has.attributes x b j low
                  ∙ sym (if_not_second x o b a value (objects.attributes x b) same other)
            ]
          ]
          | inr other ↦
              ap (λ y. is_set y b)
              (elsewhere (attribute_place (defaults_of m) x b)
              (entries_apart (length definitions) (defaults_of m) x o (b / 8) (a / 8) j i (omega (arith, low))
              (omega (arith, short)) (λ e. absurd (other e))))
              ∙ has.attributes x b j low
              ∙ sym (if_not_first x o b a value (objects.attributes x b) other)
        ]

        -- a word of another place in an entry
        word_elsewhere : (x d : ℕ) → IsObjectNumber (length definitions) x → 6 ≤ d → d < 14
            → slice_index new (object_entry (defaults_of m) x + d)
            ≡ slice_index m (object_entry (defaults_of m) x + d)
        word_elsewhere x d j low high =
            elsewhere (object_entry (defaults_of m) x + d)
            (entries_apart (length definitions) (defaults_of m) x o d (a / 8) j i high (omega (arith, short))
            (λ e f. omega (arith, f, low, short)))

        marked : HasObjects definitions defaults (with_attribute o a value objects) tables new
        marked =
            let n = length definitions in
            let low = above in
            let high = within in
            record {
              entries = entries_kept n m new has.entries head.size head.defaults head.base;
              forest = has.forest;
              links = tree_kept n objects.tree (links_of m) (links_of new) has.forest has.links
                  (λ c j.
                  let side = in_entry n m o (a / 8) i (inl (omega (arith, short))) c j in
                  word_stays m new head (λ t. place_of t c) (elsewhere _ (not_it c side))
                  (elsewhere _ (not_next c side)));
              attributes = λ x b j lt.
                  ap (λ t. is_set (slice_index new (attribute_place t x b)) b) head.defaults ∙ attribute_is x b j lt;
              defaults_there = λ q first last.
                  word_stays m new head (λ t. t + 2 * (q - 1))
                  (elsewhere _ (λ e. omega (arith, e, first, last, low)))
                  (elsewhere _ (λ e. omega (arith, e, first, last, low)))
                  ∙ has.defaults_there q first last;
              listed = tables_stay m new head n tables has.listed
                  (λ k base end. elsewhere k (λ e. omega (arith, e, base, high)))
                  (λ x j.
                  let next : object_entry (defaults_of m) x + 13 ≡ properties_place (defaults_of m) x + 1 =
                  omega arith in
                  word_stays m new head (λ t. properties_place t x)
                  (word_elsewhere x 12 j (omega arith) (omega arith))
                  (subst (λ k. slice_index new k ≡ slice_index m k) next
                  (word_elsewhere x 13 j (omega arith) (omega arith))));
              provided = has.provided;
              names = has.names;
              shaped = has.shaped;
            }
          where
            not_it : (c : Link) → (at < place_of (defaults_of m) c) ⊎ (place_of (defaults_of m) c + 2 ≤ at)
                → place_of (defaults_of m) c ≢ at
            not_it c (inl lt) e = omega (arith, lt, e)
            not_it c (inr le) e = omega (arith, le, e)

            not_next : (c : Link) → (at < place_of (defaults_of m) c) ⊎ (place_of (defaults_of m) c + 2 ≤ at)
                → (place_of (defaults_of m) c + 1) ≢ at
            not_next c (inl lt) e = omega (arith, lt, e)
            not_next c (inr le) e = omega (arith, le, e)

        marked_rest : KeepsRest m new
        marked_rest =
            let low = above in
            let high = within in
            let below = has.entries.below in
            rest_kept m new head.size (λ k lt. elsewhere k (λ e. omega (arith, e, lt, low)))
            (λ k le. elsewhere k (λ e. omega (arith, e, le, high, below)))

-- The opcodes

module _ (definitions : List ObjectOf) (defaults : List ℕ) (objects : Objects) (tables : List PropertyTable) (s : State)
    (has : HasObjects definitions defaults objects tables s.memory) (here : Next) (after : ℕ)
  where
    module _ (o a : ℕ) (i : IsObjectNumber (length definitions) o) (short : a < 48) where
      abbrev place : ℕ
      place = attribute_place (defaults_of s.memory) o a

      abbrev byte : ℕ
      byte = slice_index s.memory place

      tests_number : Acts (test_attribute_number a) tt s s
      unfolding test_attribute_number
      tests_number = record { is = ap (λ (b : Bool). test b faults.Object s) (lt-ltb a 48 short) }

      reads : Acts (read_attributes o a) byte s s
      unfolding read_attributes
      reads =
          let high = within definitions defaults objects tables s.memory has o a i short in
          let below = has.entries.below in
          let inside = has.entries.inside in
          let low = has.entries.low in
          record { is = (reads_byte s place (omega (arith, high, below, inside)) (omega (arith, high, below, low))).is }

      tested : Acts (tested_attributes o a) byte s s
      unfolding tested_attributes
      tested = record {
        is = then_is _ (tests_object (length definitions) s has.entries o i) ∙ then_is _ tests_number ∙ reads.is;
      }

      writes : (b : ℕ) → Acts (write_attributes o a b) tt s (record s { memory = slice_set (s.memory) place b })
      unfolding write_attributes
      writes b =
          let first = above definitions defaults objects tables s.memory has o a i short in
          let high = within definitions defaults objects tables s.memory has o a i short in
          let start = has.entries.start in
          let below = has.entries.below in
          record { is = (writes_byte s place b (omega (arith, first, start)) (omega (arith, high, below))).is }

    pub attribute : (branch : Option Branch) (o a : ℕ) → IsObjectNumber (length definitions) o → a < 48
        → test_attribute here after branch o a s ≡ branch_on here after branch (objects.attributes o a) s
    unfolding test_attribute
    attribute branch o a i short =
        then_is _ (tested o a i short)
        ∙ ap (λ v. branch_on here after branch v s) (has.attributes o a i short)

    pub sets : (o a : ℕ) → IsObjectNumber (length definitions) o → a < 48
        → Changes definitions defaults (with_attribute o a true objects) (set_attribute here after o a)
        (on definitions defaults here after) s
    unfolding set_attribute
    sets o a i short =
        let old = byte o a i short in
        let b = with_bit a old in
        record {
          memory = slice_set (s.memory) (place o a i short) b;
          tables = tables;
          does = then_is _ (tested o a i short) ∙ then_is _ (writes o a i short b);
          has = marked definitions defaults objects tables s.memory has o a i short b true (set_here a old)
              (λ c apart. set_other a c old apart);
          keeps = marked_rest definitions defaults objects tables s.memory has o a i short b true (set_here a old)
              (λ c apart. set_other a c old apart);
        }

    pub clears : (o a : ℕ) → IsObjectNumber (length definitions) o → a < 48
        → Changes definitions defaults (with_attribute o a false objects) (clear_attribute here after o a)
        (on definitions defaults here after) s
    unfolding clear_attribute
    clears o a i short =
        let old = byte o a i short in
        let b = without_bit a old in
        record {
          memory = slice_set (s.memory) (place o a i short) b;
          tables = tables;
          does = then_is _ (tested o a i short) ∙ then_is _ (writes o a i short b);
          has = marked definitions defaults objects tables s.memory has o a i short b false (clear_here a old)
              (λ c apart. clear_other a c old apart);
          keeps = marked_rest definitions defaults objects tables s.memory has o a i short b false (clear_here a old)
              (λ c apart. clear_other a c old apart);
        }
