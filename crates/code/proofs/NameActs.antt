-- The opcode that prints a short name, in memory that holds objects.
use Rattle.std.proofs.Common.{◌≡◌, ◌≤◌, ◌<◌, ◌+◌, ◌*◌, ◌-◌, ◌%◌, ◌^◌, ℕ, nat_le, Bool, true, if◌then◌else◌, List, []}
use Rattle.std.proofs.Common.{◌∷◌, ◌++◌, length, slice_index, Ok, refl, ap, sym, ◌∙◌, arith, append-nil, inl, inr}
use Rattle.std.specs.Prelude.{map, replicate, take}
use Rattle.std.specs.List.{list_all}
use Rattle.std.proofs.lemmas.Bool.{eq-eqb, ne_eqb, le-leb, cases_eq}
use Rattle.std.proofs.lemmas.List.{length-append, length-replicate}
use Rattle.ztext.specs.Alphabets.{is_printable, spelled}
use Rattle.ztext.specs.Text.{Holds, encoded, decoded}
use Rattle.ztext.specs.Words.{missing, packed, padded}
use Rattle.zcore.specs.declared.next.Next.{Next}
use Rattle.zcore.specs.declared.place.Limit.TheVariants as limits
use Rattle.zcore.specs.declared.place.Place.TheVariants as places
use Rattle.zcore.specs.Effects.{read_text, text_at, print_characters, print_address}
use Rattle.zcore.specs.Objects.{print_name, print_object}
use Rattle.zcore.specs.Parts.{goes_on, print}
use Rattle.zcore.specs.State.{State, done, halt, bound}
use Rattle.tables.specs.Rows.{name_bytes, name_words}
use Rattle.code.proofs.Names.{name_read, name_even}
use Rattle.meaning.specs.Forests.{IsObjectNumber}
use Rattle.meaning.specs.Objects.{Objects, ObjectOf, object_at}
use Rattle.meaning.specs.Places.{machine_character}
use Rattle.code.specs.Region.{HasObjects, tables_base}
use Rattle.code.specs.Tables.{table_at, table_place, PropertyTable}
use Rattle.code.proofs.Doing.{then_is, tests_object}
use Rattle.code.proofs.HeldTables.{Held, table}
use Rattle.code.proofs.PropertyActs.{reads_table, reads_count}

-- a text has a word at least

packed_some : (zs : List ℕ) → 3 ≤ length zs → 2 ≤ length (packed zs)
unfolding packed
packed_some [] long = absurd (omega arith)
packed_some (a ∷ []) long = absurd (omega arith)
packed_some (a ∷ b ∷ []) long = absurd (omega arith)
packed_some (a ∷ b ∷ c ∷ zs) long = omega arith

filled : (n : ℕ) → 3 ≤ n + missing n
filled n = elim (cases_eq n 0) [
  | inl e ↦
      let m : missing n ≡ 3 = ap (λ (b : Bool). if b then 3 else (3 - n % 3) % 3) (eq-eqb n 0 e) in
      omega (arith, m)
  | inr some ↦
      let m : missing n ≡ (3 - n % 3) % 3 = ap (λ (b : Bool). if b then 3 else (3 - n % 3) % 3) (ne_eqb n 0 some) in
      omega (arith, m)
]

encoded_some : (text : List ℕ) → 2 ≤ length (encoded text)
unfolding encoded
encoded_some text =
    let zs : List ℕ = spelled text in
    let long = length-append zs (replicate (missing (length zs)) 5) in
    let fives = length-replicate {A = ℕ} (missing (length zs)) 5 in
    packed_some (padded zs) (omega (arith, long, fives, filled (length zs)))

-- Printing

-- nothing is printed, and that has room
prints_nothing : (here : Next) (after : ℕ) (s : State) → length s.text ≤ 65536
    → print_characters here after [] s ≡ goes_on after here.fuel s
unfolding print_characters print
prints_nothing here after s room =
    let fits : nat_le (length s.text + 0) 65536 ≡ true = le-leb (length s.text + 0) 65536 (omega (arith, room)) in
    ap (λ (b : Bool). bound (if b then done tt (record s { text = s.text ++ [] })
    else halt (places.Limit limits.Text) (record s { text = take 65536 (s.text ++ []) }))
    (λ _. goes_on after here.fuel)) fits
    ∙ ap (λ t. goes_on after here.fuel (record s { text = t })) (append-nil s.text)

-- the text at an address is printed
prints_text : (here : Next) (after address behind : ℕ) (text : List ℕ) (s : State)
    → decoded s.memory address ≡ Ok (text, behind)
    → print_address here after address s ≡ print_characters here after text s
unfolding print_address text_at
prints_text here after address behind text s is =
    ap (λ r. bound (read_text r s) (λ t. print_characters here after t.0)) is

-- a short name is printed, of which memory holds the length and the text
named : (here : Next) (after at : ℕ) (name : List ℕ) (s : State) → list_all is_printable name ≡ true
    → slice_index s.memory at ≡ name_words name → Holds s.memory (at + 1) (name_bytes name)
    → at + 1 + length (name_bytes name) < 2 ^ 32 → (name ≡ [] → length s.text ≤ 65536)
    → print_name here after (slice_index s.memory at) (at + 1) s ≡ print_characters here after name s
named here after at [] s printable count held low room =
    ap (λ n. print_name here after n (at + 1) s) count ∙ sym (prints_nothing here after s (room refl))
named here after at (c ∷ cs) s printable count held low room =
    let some : name_words (c ∷ cs) ≡ 0 → ⊥ = λ e. omega (arith, e, encoded_some (c ∷ cs), name_even (c ∷ cs)) in
    let read = name_read s.memory at (c ∷ cs) printable count held low in
    ap (λ n. print_name here after n (at + 1) s) count
    ∙ ap (λ (b : Bool). (if b then goes_on after here.fuel else print_address here after (at + 1)) s)
    (ne_eqb (name_words (c ∷ cs)) 0 some)
    ∙ prints_text here after (at + 1) (at + 1 + 2 * name_words (c ∷ cs)) (c ∷ cs) s read.1

module _ (definitions : List ObjectOf) (defaults : List ℕ) (objects : Objects) (tables : List PropertyTable) (s : State)
    (has : HasObjects definitions defaults objects tables s.memory)
  where
    pub prints : (here : Next) (after o : ℕ) → IsObjectNumber (length definitions) o
        → ((object_at definitions o).name ≡ [] → length s.text ≤ 65536)
        → print_object here after o s
        ≡ print_characters here after (map machine_character ((object_at definitions o).name)) s
    unfolding print_object
    prints here after o i room =
        let n = length definitions in
        let h : Held n tables s.memory o = table definitions defaults objects tables s.memory has o i in
        let at : ℕ = table_place (tables_base n s.memory) tables o in
        let name : List ℕ = (table_at tables o).name in
        let end = h.below in
        let low = has.entries.low in
        let even = name_even name in
        let empty : name ≡ [] → length s.text ≤ 65536 = λ e.
        room (unmapped ((object_at definitions o).name) (sym (has.names o i) ∙ e)) in
        then_is _ (tests_object n s has.entries o i)
        ∙ then_is _ (reads_table definitions defaults objects tables s has o i)
        ∙ then_is _ (reads_count definitions defaults objects tables s has o i)
        ∙ named here after at name s h.proper.name h.count h.name (omega (arith, end, low, even)) empty
        ∙ ap (λ t. print_characters here after t s) (has.names o i)
      where
        unmapped : (bytes : List ℕ) → map machine_character bytes ≡ [] → bytes ≡ []
        unmapped [] e = refl
        unmapped (b ∷ bytes) e = absurd (cc)
