-- The rounds in which lines become rows.
use Rattle.std.proofs.Common.{◌≡◌, ◌<◌, ◌≤◌, ◌+◌, ◌==◌, ℕ, List, [], ◌∷◌, ◌++◌, length, map, true, false, drop}
use Rattle.std.proofs.Common.{if◌then◌else◌, nat_eq, nat_lt, refl, sym, ap, ◌∙◌, subst, arith, inl, inr, append_assoc}
use Rattle.std.proofs.Common.{append-nil, length-append, take, le-ltb, lt-ltb, ltb-false, ne_eqb, drop_at}
use Rattle.std.proofs.Common.{Option, Some, None, Result, Ok, Err, IfOk, IsErr, IsErrAnd}
use Rattle.std.specs.List.{starts_with}
use Rattle.std.specs.Cmp.Lexicographic.{pointwise}
use Rattle.std.specs.Global.{Vec}
use Rattle.std.proofs.lemmas.Bool.{cond-false, cond-true, cond_both}
use Rattle.std.proofs.lemmas.Bool.Decides.{Decides-eqb, Decides-like, same_from_decides}
use Rattle.std.proofs.lemmas.List.{map-append}
use Rattle.std.proofs.lemmas.List.Elements.{All-head, All-tail, All-weaker}
use Rattle.std.proofs.lemmas.List.Splits.{slice_split_at}
use Rattle.std.proofs.lemmas.Slice.Eq.{bytes_eq-Decides, starts_is}
use Rattle.map_text.specs.declared.row.Row.{Row}
use Rattle.map_text.specs.declared.fault.MapFault.{MapFault}
use Rattle.map_text.specs.declared.fault.MapFault.TheVariants.{Line, Memory, NoMap, OtherStory}
use Rattle.map_text.specs.Text.{Ascend, AreRows, GivesRows, IsRow, RowOf, line_feed, row_of, row_text, rows_text}
use Rattle.map_text.specs.Reading.{after, before, cut_lines, first_line, from_row, Gives, map_in, not_below, place}
use Rattle.map_text.specs.Reading.{row_in, rows_from, rows_in, then_rows}
use Rattle.map_text.proofs.Cuts.{line_cut, one_part, some_part}
use Rattle.map_text.proofs.Lines.{row_above, row_of_text}

abbrev these : List RowOf → Result (List RowOf) MapFault
these rows = Ok rows

abbrev refused : MapFault → Result (List RowOf) MapFault
refused fault = Err fault

abbrev line_fault : ℕ → Result (List RowOf) MapFault
line_fault number = Err (Line number)

-- The rounds

then_twice : (xs ys : List RowOf) (x : Result (List RowOf) MapFault)
    → then_rows xs (then_rows ys x) ≡ then_rows (xs ++ ys) x
then_twice xs ys (Ok rows) = ap these (sym (append_assoc xs ys rows))
then_twice xs ys (Err fault) = refl

-- these rows were read, and the last has this address; the rest follows
pub record Reads (lines rest : List ℕ) (least : ℕ) (rows : List RowOf) : Type 0 where
  pub is : rows_in lines ≡ then_rows rows (rows_from (length rows + 3) least (cut_lines rest))

-- all are read
nothing_left : (number least : ℕ) (rest : List ℕ) → length rest ≡ 0 → rows_from number least (cut_lines rest) ≡ Ok []
nothing_left number least [] none = refl
nothing_left number least (x ∷ xs) none = absurd (omega (arith, none))

pub ended : (lines rest : List ℕ) (least : ℕ) (rows : List RowOf) → Reads lines rest least rows → length rest ≡ 0
    → rows_in lines ≡ Ok rows
ended lines rest least rows reads none =
    reads.is ∙ ap (then_rows rows) (nothing_left (length rows + 3) least rest none)
    ∙ ap these (append-nil rows)

-- the rest is no line
pub no_line : (lines rest : List ℕ) (least number : ℕ) (rows : List RowOf) → Reads lines rest least rows
    → 0 < length rest → place line_feed rest ≡ length rest → number ≡ length rows + 3
    → rows_in lines ≡ Err (Line number)
no_line lines rest least number rows reads some none is =
    reads.is
    ∙ ap (λ (parts : List (List ℕ)). then_rows rows (rows_from (length rows + 3) least parts)) (one_part rest none)
    ∙ ap (λ t. then_rows rows (if t then these [] else line_fault (length rows + 3)))
    (ne_eqb (length rest) 0 (λ q. omega (arith, q, some)))
    ∙ ap line_fault (sym is)

-- the line that is cut off
next : (number least : ℕ) (rest : List ℕ) → place line_feed rest < length rest
    → rows_from number least (cut_lines rest)
    ≡ from_row number (not_below least (row_in (before line_feed rest)))
    (λ address. rows_from (number + 1) address (cut_lines (after line_feed rest)))
next number least rest lt =
    ap (rows_from number least) (line_cut rest lt)
    ∙ cond-false (length (cut_lines (after line_feed rest)) == 0)
    (if length (before line_feed rest) == 0 then these [] else line_fault number)
    (from_row number (not_below least (row_in (before line_feed rest)))
    (λ address. rows_from (number + 1) address (cut_lines (after line_feed rest))))
    (some_part (after line_feed rest))

-- it is no row, or below the one before it
pub no_row : (lines rest line : List ℕ) (least number : ℕ) (rows : List RowOf) → Reads lines rest least rows
    → place line_feed rest < length rest → line ≡ before line_feed rest → not_below least (row_in line) ≡ None
    → number ≡ length rows + 3 → rows_in lines ≡ Err (Line number)
no_row lines rest line least number rows reads lt is none count =
    let follow = λ (address : ℕ). rows_from (length rows + 3 + 1) address (cut_lines (after line_feed rest)) in
    reads.is ∙ ap (then_rows rows) (next (length rows + 3) least rest lt)
    ∙ ap (λ (l : List ℕ). then_rows rows (from_row (length rows + 3) (not_below least (row_in l)) follow)) (sym is)
    ∙ ap (λ (o : Option RowOf). then_rows rows (from_row (length rows + 3) o follow)) none
    ∙ ap line_fault (sym count)

-- it is a row
pub goes_on : (lines rest line later : List ℕ) (least address : ℕ) (old new : List RowOf) (r : RowOf)
    → Reads lines rest least old → place line_feed rest < length rest → line ≡ before line_feed rest
    → later ≡ after line_feed rest → not_below least (row_in line) ≡ Some r → address ≡ r.address
    → new ≡ old ++ r ∷ [] → Reads lines later address new
goes_on lines rest line later least address old new r reads lt line_is later_is some same more =
    let follow = λ (a : ℕ). rows_from (length old + 3 + 1) a (cut_lines (after line_feed rest)) in
    let count : length old + 3 + 1 ≡ length new + 3 = omega (arith, ap length more, length-append old (r ∷ [])) in
    record {
      is = reads.is ∙ ap (then_rows old) (next (length old + 3) least rest lt)
          ∙ ap (λ (l : List ℕ). then_rows old (from_row (length old + 3) (not_below least (row_in l)) follow)) (sym line_is)
          ∙ ap (λ (o : Option RowOf). then_rows old (from_row (length old + 3) o follow)) some
          ∙ then_twice old (r ∷ []) (follow r.address)
          ∙ ap (λ (xs : List RowOf). then_rows xs (follow r.address)) (sym more)
          ∙ ap (λ n. then_rows new (rows_from n r.address (cut_lines (after line_feed rest)))) count
          ∙ ap (λ a. then_rows new (rows_from (length new + 3) a (cut_lines (after line_feed rest)))) (sym same)
          ∙ ap (λ (t : List ℕ). then_rows new (rows_from (length new + 3) address (cut_lines t))) (sym later_is);
    }

pub out_of_memory : (r : Result (Vec Row) MapFault) (x : Result (List RowOf) MapFault)
    → IsErr r × IsErrAnd r (λ e. e ≡ Memory) → Gives r x
out_of_memory (Ok found) x h = absurd h.1
out_of_memory (Err fault) x h = inl h.1

-- The row of a line

pub below : (least : ℕ) (o : Option RowOf) (r : RowOf) → Some r ≡ o → r.address < least → not_below least o ≡ None
below least o r is lt =
    ap (not_below least) (sym is) ∙ cond-true {A = Option RowOf} (nat_lt r.address least) None (Some r) (lt-ltb r.address least lt)

pub above : (least : ℕ) (o : Option RowOf) (r : RowOf) → Some r ≡ o → least ≤ r.address → not_below least o ≡ Some r
above least o r is le =
    ap (not_below least) (sym is) ∙ cond-false {A = Option RowOf} (nat_lt r.address least) None (Some r) (le-ltb r.address least le)

pub added : (old new : List Row) (q : Row) → new ≡ old ++ q ∷ [] → map row_of new ≡ map row_of old ++ row_of q ∷ []
added old new q is = ap (map row_of) is ∙ map-append row_of old (q ∷ [])

-- The text of rows

row_first : (r : RowOf) (rest : List ℕ) → IsRow r
    → cut_lines (row_text r ++ line_feed ∷ rest) ≡ row_text r ∷ cut_lines rest
row_first r rest ok =
    slice_split_at (λ b. b == line_feed) (row_text r) line_feed rest
    (All-weaker (λ (b : ℕ). line_feed < b) (λ (b : ℕ). (b == line_feed) ≡ false)
    (λ b lt. ne_eqb b line_feed (λ q. omega (arith, q, lt))) (row_text r) (row_above r ok)) refl

pub all_rows : (rs : List RowOf) (number least : ℕ) → AreRows rs → Ascend least rs
    → rows_from number least (cut_lines (rows_text rs)) ≡ Ok rs
all_rows [] number least are up = refl
all_rows (r ∷ rs) number least are up =
    let ok = All-head IsRow r rs are in
    let rest = rows_text rs in
    let follow = λ (a : ℕ). rows_from (number + 1) a (cut_lines (rows_text rs)) in
    ap (rows_from number least) (row_first r rest ok)
    ∙ cond-false (length (cut_lines rest) == 0) (if length (row_text r) == 0 then these [] else line_fault number)
    (from_row number (not_below least (row_in (row_text r))) follow) (some_part rest)
    ∙ ap (λ (o : Option RowOf). from_row number o follow)
    (above least (row_in (row_text r)) r (sym (row_of_text r ok)) up.0)
    ∙ ap (then_rows (r ∷ [])) (all_rows rs (number + 1) r.address (All-tail IsRow r rs are) up.1)

-- Addresses ascend

abbrev Up : ℕ → Result (List RowOf) MapFault → Type 0
Up least x = IfOk x (λ rs. Ascend least rs)

up_before : (r : RowOf) (least : ℕ) (x : Result (List RowOf) MapFault) → least ≤ r.address → Up r.address x
    → Up least (then_rows (r ∷ []) x)
up_before r least (Ok rs) le up = (le, up)
up_before r least (Err fault) le up = tt

up_row : (number least : ℕ) (o : Option RowOf) (follow : ℕ → Result (List RowOf) MapFault)
    → ((a : ℕ) → Up a (follow a)) → Up least (from_row number (not_below least o) follow)
up_row number least None follow up = tt
up_row number least (Some r) follow up =
    cond_both {A = Option RowOf} (nat_lt r.address least) None (Some r) (λ (o : Option RowOf). Up least (from_row number o follow))
    (λ e. tt) (λ e. up_before r least (follow r.address) (ltb-false r.address least e) (up r.address))

rising : (parts : List (List ℕ)) (number least : ℕ) → Up least (rows_from number least parts)
rising [] number least = tt
rising (part ∷ parts) number least =
    let last = if length part == 0 then these [] else line_fault number in
    let row = from_row number (not_below least (row_in part)) (λ a. rows_from (number + 1) a parts) in
    cond_both (length parts == 0) last row (Up least)
    (λ e. cond_both (length part == 0) (these []) (line_fault number) (Up least) (λ e. tt) (λ e. tt))
    (λ e. up_row number least (row_in part) (λ a. rows_from (number + 1) a parts)
    (λ a. rising parts (number + 1) a))

-- The whole text

swapped : (xs ys : List ℕ) → pointwise nat_eq xs ys ≡ pointwise nat_eq ys xs
swapped xs ys =
    same_from_decides (pointwise nat_eq xs ys) (pointwise nat_eq ys xs) (bytes_eq-Decides xs ys)
    (Decides-like {P = ys ≡ xs} {Q = xs ≡ ys} (pointwise nat_eq ys xs) (λ e. sym e) (λ e. sym e)
    (bytes_eq-Decides ys xs))

pub begins : (heading text lines : List ℕ) → pointwise nat_eq (take (length heading) text) heading ≡ true
    → lines ≡ drop (length heading) text → map_in heading text ≡ rows_in lines
begins heading text lines is rest =
    cond-true (starts_with nat_eq text heading) (rows_in (drop (length heading) text))
    (if starts_with nat_eq text first_line then refused OtherStory else refused NoMap)
    (swapped heading (take (length heading) text) ∙ is)
    ∙ ap rows_in (sym rest)

other : (heading text : List ℕ) → pointwise nat_eq (take (length heading) text) heading ≡ false
    → map_in heading text ≡ (if starts_with nat_eq text first_line then refused OtherStory else refused NoMap)
other heading text is =
    cond-false (starts_with nat_eq text heading) (rows_in (drop (length heading) text))
    (if starts_with nat_eq text first_line then refused OtherStory else refused NoMap)
    (swapped heading (take (length heading) text) ∙ is)

pub other_story : (heading text : List ℕ) → pointwise nat_eq (take (length heading) text) heading ≡ false
    → starts_with nat_eq text first_line ≡ true → map_in heading text ≡ Err OtherStory
other_story heading text is first =
    other heading text is ∙ cond-true (starts_with nat_eq text first_line) (refused OtherStory) (refused NoMap) first

pub no_map : (heading text : List ℕ) → pointwise nat_eq (take (length heading) text) heading ≡ false
    → starts_with nat_eq text first_line ≡ false → map_in heading text ≡ Err NoMap
no_map heading text is first =
    other heading text is ∙ cond-false (starts_with nat_eq text first_line) (refused OtherStory) (refused NoMap) first

written : (heading text : List ℕ) (rs : List RowOf) → AreRows rs → Ascend 0 rs → text ≡ heading ++ rows_text rs
    → map_in heading text ≡ Ok rs
written heading text rs are up is =
    let starts = starts_is {E = nat_eq} Decides-eqb text heading (starts_with nat_eq text heading) refl in
    cond-true (starts_with nat_eq text heading) (rows_in (drop (length heading) text))
    (if starts_with nat_eq text first_line then refused OtherStory else refused NoMap) (starts.1 (rows_text rs) is)
    ∙ ap (λ (t : List ℕ). rows_in (drop (length heading) t)) is
    ∙ ap rows_in (drop_at heading (rows_text rs) (length heading) refl)
    ∙ all_rows rs 3 0 are up

pub given_rows : (heading text : List ℕ) (result : Result (Vec Row) MapFault) (rs : List RowOf)
    → Gives result (map_in heading text) → AreRows rs → Ascend 0 rs → text ≡ heading ++ rows_text rs
    → GivesRows result rs
given_rows heading text (Ok found) rs gives are up is =
    let same : these (map row_of found.items) ≡ these rs =
    sym gives ∙ written heading text rs are up is in cc
given_rows heading text (Err fault) rs gives are up is = elim gives [
  | inl memory ↦ memory
  | inr wrong ↦
      let bad : these rs ≡ refused fault = sym (written heading text rs are up is) ∙ wrong in absurd (cc)
]

in_map : (heading text : List ℕ) → Up 0 (map_in heading text)
in_map heading text =
    cond_both (starts_with nat_eq text heading) (rows_in (drop (length heading) text))
    (if starts_with nat_eq text first_line then refused OtherStory else refused NoMap) (Up 0)
    (λ e. rising (cut_lines (drop (length heading) text)) 3 0)
    (λ e. cond_both (starts_with nat_eq text first_line) (refused OtherStory) (refused NoMap) (Up 0) (λ e. tt) (λ e. tt))

pub given_up : (heading text : List ℕ) (result : Result (Vec Row) MapFault) → Gives result (map_in heading text)
    → IfOk result (λ v. Ascend 0 (map row_of v.items))
given_up heading text (Ok found) gives = subst (Up 0) gives (in_map heading text)
given_up heading text (Err fault) gives = tt
