-- Why properties are read as they are: what stands in their list.
use Rattle.std.proofs.Common.{◌≡◌, ◌==◌, ◌+◌, ◌/◌, ◌%◌, ◌≤◌, ◌<◌, inl, inr, ℕ, zero, suc, nat_lt, Bool, true, false}
use Rattle.std.proofs.Common.{if◌then◌else◌, List, [], ◌∷◌, length, slice_index, Some, Result, Ok, Err, refl, ap, sym}
use Rattle.std.proofs.Common.{◌∙◌, arith, subst}
use Rattle.std.specs.Prelude.{slice_range}
use Rattle.std.proofs.lemmas.Bool.{cases_eq, cases_lt, eq-eqb, ne_eqb, lt-ltb, le-ltb, le-leb, lt-leb}
use Rattle.std.proofs.lemmas.List.Elements.{All-nil, All-cons}
use Rattle.zcore.specs.Entries.{has_entry}
use Rattle.zcore.specs.Properties.{Property, Standing, Terminator, Listed, Beyond, long_size, standing, list_start}
use Rattle.zcore.specs.Properties.{found_at, found_in}
use Rattle.tables.specs.declared.fault.TableRead.{TableRead}
use Rattle.tables.specs.declared.fault.TableRead.TheVariants.{Object, Outside}
use Rattle.tables.specs.Objects.{data_of, property_from, counted_at, counted_in, count_from, start_at, start_of}
use Rattle.tables.specs.Found.{Lists, FindsIn, CountsIn, PropertiesAre, properties_of, ReachesInList}
use Rattle.tables.specs.Laws.{PropertiesAreRead}

-- A property ends behind the address at which it stands

picked : Bool → Bool → Bool → Bool → Property → Property → Standing
picked inside ends short second a b =
    if inside then (if ends then Terminator else (if short then Listed a else (if second then Listed b else Beyond)))
    else Beyond

picked_ahead : (inside ends short second : Bool) (a b p : Property) (at : ℕ) → at < a.address + a.size
    → at < b.address + b.size → picked inside ends short second a b ≡ Listed p → at < p.address + p.size
unfolding picked
picked_ahead true true short second a b p at m n e = absurd (cc)
picked_ahead true false true second a b p at m n e = let same : a ≡ p = cc in
    subst (λ (q : Property). at < q.address + q.size) same m
picked_ahead true false false true a b p at m n e = let same : b ≡ p = cc in
    subst (λ (q : Property). at < q.address + q.size) same n
picked_ahead true false false false a b p at m n e = absurd (cc)
picked_ahead false ends short second a b p at m n e = absurd (cc)

ahead : (story : List ℕ) (end at : ℕ) (p : Property) → standing story end at ≡ Listed p → at < p.address + p.size
unfolding picked
ahead story end at p e =
    let first : ℕ = slice_index story at in
    picked_ahead (nat_lt at end) (first == 0) (nat_lt first 128) (nat_lt (at + 1) end)
    (record { number = first % 64; address = at + 1; size = first / 64 + 1 })
    (record { number = first % 64; address = at + 2; size = long_size (slice_index story (at + 1)) }) p at
    (omega arith) (omega arith) e

past : (story : List ℕ) (at : ℕ) → length story ≤ at → standing story (length story) at ≡ Beyond
past story at le = rw (le-ltb at (length story) le) refl

here : (story : List ℕ) (at : ℕ) (s : Standing) → standing story (length story) at ≡ s → Lists story at [] s
here story at s e = record { address = at; listed = refl; stands = e }

one_more : (story : List ℕ) (at : ℕ) (p : Property) (ps : List Property) (s : Standing)
    → standing story (length story) at ≡ Listed p → Lists story (p.address + p.size) ps s → Lists story at (p ∷ ps) s
one_more story at p ps s e l = record { address = l.address; listed = (e, l.listed); stands = l.stands }

-- The first property of a number

module _ (story : List ℕ) (number : ℕ) where
  reaches_past : (at : ℕ) → length story ≤ at → ReachesInList story number at Beyond
  reaches_past at le =
      record { before = []; others = All-nil _; lists = here story at Beyond (past story at le); numbered = tt }

  reaches_by : (at : ℕ) (on : ℕ → Standing) (s : Standing) → standing story (length story) at ≡ s
      → ((next : ℕ) → at < next → ReachesInList story number next (on next))
      → ReachesInList story number at (found_at number s on)
  reaches_by at on Terminator e later =
      record { before = []; others = All-nil _; lists = here story at Terminator e; numbered = tt }
  reaches_by at on Beyond e later =
      record { before = []; others = All-nil _; lists = here story at Beyond e; numbered = tt }
  reaches_by at on (Listed p) e later = elim (cases_eq p.number number) [
    | inl same ↦
        subst (λ (b : Bool). ReachesInList story number at (if b then Listed p else on (p.address + p.size)))
        (sym (eq-eqb p.number number same))
        (record { before = []; others = All-nil _; lists = here story at (Listed p) e; numbered = same })
    | inr other ↦
        let r = later (p.address + p.size) (ahead story (length story) at p e) in
        subst (λ (b : Bool). ReachesInList story number at (if b then Listed p else on (p.address + p.size)))
        (sym (ne_eqb p.number number other))
        (record {
          before = p ∷ r.before;
          others = All-cons (λ (q : Property). q.number ≡ number → ⊥) p r.before other r.others;
          lists = one_more story at p r.before (on (p.address + p.size)) e r.lists;
          numbered = r.numbered;
        })
  ]

  found_reaches : (steps at : ℕ) → length story ≤ at + steps
      → ReachesInList story number at (found_in story (length story) number at steps)
  unfolding found_in
  found_reaches zero at room = reaches_past at (omega (arith, room))
  found_reaches (suc steps) at room =
      reaches_by at (λ next. found_in story (length story) number next steps) (standing story (length story) at) refl
      (λ next lt. found_reaches steps next (omega (arith, room, lt)))

  data_found : (start : ℕ) (s : Standing) → ReachesInList story number start s
      → FindsIn story number start (data_of story s)
  data_found start Terminator r = r
  data_found start Beyond r = inl r
  data_found start (Listed p) r = elim (cases_lt (length story) (p.address + p.size)) [
    | inl outside ↦
        subst (λ (b : Bool). FindsIn story number start
        (if b then Ok (Some (slice_range story p.address (p.address + p.size))) else Err Outside))
        (sym (lt-leb (p.address + p.size) (length story) outside)) (inr (p, r, outside))
    | inr inside ↦
        subst (λ (b : Bool). FindsIn story number start
        (if b then Ok (Some (slice_range story p.address (p.address + p.size))) else Err Outside))
        (sym (le-leb (p.address + p.size) (length story) inside)) (p, r, inside, refl)
  ]

-- The number of properties

counts_more : (story : List ℕ) (before at : ℕ) (p : Property) (r : Result ℕ TableRead)
    → standing story (length story) at ≡ Listed p → CountsIn story (before + 1) (p.address + p.size) r
    → CountsIn story before at r
counts_more story before at p (Ok count) e h = (p ∷ h.0, one_more story at p h.0 Terminator e h.1, omega (arith, h.2))
counts_more story before at p (Err Object) e h = absurd h
counts_more story before at p (Err Outside) e h = (p ∷ h.0, one_more story at p h.0 Beyond e h.1)

counts_by : (story : List ℕ) (before at : ℕ) (on : ℕ → Result ℕ TableRead) (s : Standing)
    → standing story (length story) at ≡ s → ((next : ℕ) → at < next → CountsIn story (before + 1) next (on next))
    → CountsIn story before at (counted_at before s on)
counts_by story before at on Terminator e later = ([], here story at Terminator e, omega arith)
counts_by story before at on Beyond e later = ([], here story at Beyond e)
counts_by story before at on (Listed p) e later =
    counts_more story before at p (on (p.address + p.size)) e
    (later (p.address + p.size) (ahead story (length story) at p e))

counts_in : (story : List ℕ) (steps before at : ℕ) → length story ≤ at + steps
    → CountsIn story before at (counted_in story before at steps)
unfolding counted_in
counts_in story zero before at room = ([], here story at Beyond (past story at (omega (arith, room))))
counts_in story (suc steps) before at room =
    counts_by story before at (λ next. counted_in story (before + 1) next steps) (standing story (length story) at)
    refl
    (λ next lt. counts_in story steps (before + 1) next (omega (arith, room, lt)))

-- An object's properties

module _ (story : List ℕ) (table object : ℕ) where
  no_start : has_entry table (length story) object ≡ false → start_of story table object ≡ Err Object
  no_start e = ap (λ (b : Bool). if b then start_at story (properties_of story table object) else Err Object) e

  start_by : (b : Bool) → has_entry table (length story) object ≡ true
      → nat_lt (properties_of story table object) (length story) ≡ b
      → start_of story table object
      ≡ (if b then Ok (list_start story (properties_of story table object)) else Err Outside)
  start_by b e f =
      ap (λ (c : Bool). if c then start_at story (properties_of story table object) else Err Object) e
      ∙ ap (λ (c : Bool). if c then Ok (list_start story (properties_of story table object)) else Err Outside) f

  pub properties_are : (number : ℕ) → PropertiesAre story table object number
  properties_are number =
      let start : ℕ = list_start story (properties_of story table object) in
      record {
        no_object = λ e. (ap (property_from story number) (no_start e), ap (count_from story) (no_start e));
        no_table = λ e le.
            let s = start_by false e (le-ltb (properties_of story table object) (length story) le) in
            (ap (property_from story number) s, ap (count_from story) s);
        found = λ e lt.
            let s = start_by true e (lt-ltb (properties_of story table object) (length story) lt) in
            subst (λ r. FindsIn story number start (property_from story number r)) (sym s)
            (data_found story number start _ (found_reaches story number (length story) start (omega arith)));
        counted = λ e lt.
            let s = start_by true e (lt-ltb (properties_of story table object) (length story) lt) in
            subst (λ r. CountsIn story 0 start (count_from story r)) (sym s)
            (counts_in story (length story) 0 start (omega arith));
      }

pub properties_read : PropertiesAreRead
properties_read story table object number = properties_are story table object number
