-- The rows of the object table of a program, one after another.
use Rattle.std.proofs.Common.{◌≡◌, ◌≢◌, ◌⊎◌, inl, inr, ◌+◌, ◌<◌, ◌==◌, ℕ, zero, suc, List, [], ◌∷◌, ◌++◌, length}
use Rattle.std.proofs.Common.{drop, slice_index_or, if◌then◌else◌, refl, ap, sym, ◌∙◌, arith, append_assoc}
use Rattle.std.specs.Prelude.{map}
use Rattle.std.specs.Global.{Vec}
use Rattle.std.proofs.lemmas.Bool.{cases_eq}
use Rattle.std.proofs.lemmas.List.{length-map, get_or-map, map_push}
use Rattle.tables.specs.declared.row.ObjectRow.{ObjectRow}
use Rattle.meaning.specs.declared.checked.CheckedObject.{CheckedObject}
use Rattle.meaning.specs.Objects.{ObjectOf, object_at, no_object, standing_in, first_of, after_in}
use Rattle.meaning.specs.Places.{machine_character}
use Rattle.meaning.specs.Views.{CheckedProgram, object_of, program_of, property_of}
use Rattle.meaning.proofs.ObjectLists.{if_same, if_other}
use Rattle.code.specs.TableLaws.{AreProper}
use Rattle.code.specs.Rows.{RowOf, view_of, row_of, rows_from, rows_of, attribute_byte, attribute_bytes}
use Rattle.story_file.specs.Linked.{AreLinked, ArePlaced}

-- Siblings

-- past an object that stands earlier
passed_by : (p o : ℕ) (x : ObjectOf) (xs : List ObjectOf) (i : ℕ) → (x.parent ≡ p) ⊎ (x.parent ≢ p)
    → after_in (suc o + i) (standing_in p (suc o) xs) ≡ first_of (standing_in p (suc o + i + 1) (drop (i + 1) xs))
    → after_in (o + suc i) (standing_in p o (x ∷ xs))
    ≡ first_of (standing_in p (o + suc i + 1) (drop (suc i + 1) (x ∷ xs)))
passed_by p o x xs i which follows =
    let rest : List ℕ = standing_in p (suc o) xs in
    let at : suc o + i ≡ o + suc i = omega arith in
    let index : suc (i + 1) ≡ suc i + 1 = omega arith in
    let later : after_in (o + suc i) rest ≡ first_of (standing_in p (o + suc i + 1) (drop (suc i + 1) (x ∷ xs))) =
    ap (λ n. after_in n rest) (sym at) ∙ follows
    ∙ ap (λ n. first_of (standing_in p (n + 1) (drop (i + 1) xs))) at
    ∙ ap (λ n. first_of (standing_in p (o + suc i + 1) (drop n (x ∷ xs)))) index in
    elim which [
      | inl e ↦
          ap (after_in (o + suc i)) (if_same x.parent p (o ∷ rest) rest e)
          ∙ if_other o (o + suc i) (first_of rest) (after_in (o + suc i) rest) (λ f. omega (arith, f)) ∙ later
      | inr e ↦ ap (after_in (o + suc i)) (if_other x.parent p (o ∷ rest) rest e) ∙ later
    ]

-- the one after an object is the first of those that follow it
pub behind_is : (p o : ℕ) (xs : List ObjectOf) (i : ℕ) → i < length xs
    → (slice_index_or xs i no_object).parent ≡ p
    → after_in (o + i) (standing_in p o xs) ≡ first_of (standing_in p (o + i + 1) (drop (i + 1) xs))
behind_is p o [] i lt same = absurd (omega (arith, lt))
behind_is p o (x ∷ xs) zero lt same =
    let rest : List ℕ = standing_in p (suc o) xs in
    let at : o ≡ o + zero = omega arith in
    let next : suc o ≡ o + zero + 1 = omega arith in
    ap (after_in (o + zero)) (if_same x.parent p (o ∷ rest) rest same)
    ∙ if_same o (o + zero) (first_of rest) (after_in (o + zero) rest) at
    ∙ ap (λ n. first_of (standing_in p n xs)) next
behind_is p o (x ∷ xs) (suc i) lt same =
    passed_by p o x xs i (cases_eq x.parent p) (behind_is p (suc o) xs i (omega (arith, lt)) same)

-- Rows

pub object_found : (xs : List CheckedObject) (i : ℕ) (x : CheckedObject) → i < length xs → x ≡ slice_index_or xs i x
    → object_at (map object_of xs) (i + 1) ≡ object_of x
object_found xs i x lt is =
    let next : i + 1 ≡ suc i = omega arith in
    ap (object_at (map object_of xs)) next ∙ get_or-map object_of xs i x no_object lt ∙ ap object_of (sym is)

-- of the object of a number
abbrev row_in : List CheckedObject → ℕ → RowOf
row_in xs o = row_of (map object_of xs) o (object_at (map object_of xs) o)

abbrev made : List ℕ → ℕ → ℕ → ℕ → List ℕ → List (ℕ × List ℕ) → RowOf
made a p s c n ps = record { attributes = a; parent = p; sibling = s; child = c; name = n; properties = ps }

made_same : {a b : List ℕ} {p q s t c d : ℕ} {n m : List ℕ} {ps qs : List (ℕ × List ℕ)} → a ≡ b → p ≡ q → s ≡ t
    → c ≡ d → n ≡ m → ps ≡ qs → made a p s c n ps ≡ made b q t d m qs
made_same u v w x y z = rw (u, v, w, x, y, z) refl

module _ (xs : List CheckedObject) (i : ℕ) (x : CheckedObject) (lt : i < length xs) (is : x ≡ slice_index_or xs i x)
  where
    abbrev objects : List ObjectOf
    objects = map object_of xs

    abbrev children : ℕ → List ℕ
    children p = if p == 0 then [] else standing_in p 1 objects

    parent_is : (object_at objects (i + 1)).parent ≡ x.parent
    parent_is = ap (λ o. o.parent) (object_found xs i x lt is)

    sibling_is : x.parent ≢ 0
        → first_of (standing_in x.parent (i + 1 + 1) (drop (i + 1) objects)) ≡ (row_in xs (i + 1)).sibling
    sibling_is some =
        let at : 1 + i ≡ i + 1 = omega arith in
        let there : (slice_index_or objects i no_object).parent ≡ x.parent =
        ap (λ o. o.parent) (get_or-map object_of xs i x no_object lt ∙ ap object_of (sym is)) in
        let within : i < length objects = omega (arith, lt, length-map xs object_of) in
        sym (ap (λ p. after_in (i + 1) (children p)) parent_is
        ∙ ap (after_in (i + 1)) (if_other x.parent 0 [] (standing_in x.parent 1 objects) some)
        ∙ ap (λ n. after_in n (standing_in x.parent 1 objects)) (sym at)
        ∙ behind_is x.parent 1 objects i within there
        ∙ ap (λ n. first_of (standing_in x.parent (n + 1) (drop (i + 1) objects))) at)

    pub next_is : (first next : List ℕ) (w : ℕ) → AreLinked objects 0 first next → w ≡ slice_index_or next i 0
        → x.parent ≢ 0 → w ≡ (row_in xs (i + 1)).sibling
    next_is first next w links e some =
        let there : (slice_index_or objects i no_object).parent ≡ x.parent =
        ap (λ o. o.parent) (get_or-map object_of xs i x no_object lt ∙ ap object_of (sym is)) in
        let within : i < length objects = omega (arith, lt, length-map xs object_of) in
        e ∙ links.after i (omega arith) within
        ∙ ap (λ p. first_of (standing_in p (i + 1 + 1) (drop (i + 1) objects))) there ∙ sibling_is some

    pub first_is : (first next : List ℕ) (w : ℕ) → AreLinked objects 0 first next → w ≡ slice_index_or first (i + 1) 0
        → w ≡ first_of (standing_in (i + 1) 1 objects)
    first_is first next w links e = e ∙ links.first_in (i + 1) (omega (arith, lt, length-map xs object_of))

    child_is : first_of (standing_in (i + 1) 1 objects) ≡ (row_in xs (i + 1)).child
    child_is = ap first_of (sym (if_other (i + 1) 0 [] (standing_in (i + 1) 1 objects) (λ e. omega (arith, e))))

    pub row_made : (a : List ℕ) (p s c : ℕ) (n : List ℕ) (ps : List (ℕ × Vec ℕ))
        → a ≡ attribute_bytes x.attributes.items → p ≡ x.parent → s ≡ (row_in xs (i + 1)).sibling
        → c ≡ first_of (standing_in (i + 1) 1 objects)
        → n ≡ map machine_character x.name.now → map property_of ps ≡ map property_of x.properties.items
        → made a p s c n (map property_of ps) ≡ row_in xs (i + 1)
    row_made a p s c n ps ea ep es ec en eps =
        let o = object_found xs i x lt is in
        made_same (ea ∙ ap (λ z. attribute_bytes z.attributes) (sym o)) (ep ∙ sym parent_is) es (ec ∙ child_is)
        (en ∙ ap (λ z. map machine_character z.name) (sym o)) (eps ∙ ap (λ z. z.properties) (sym o))

-- each object of a program stands in an earlier one, or nowhere
pub placed_in : (c : CheckedProgram) (objects : List CheckedObject) → objects ≡ c.objects
    → AreProper (program_of c).objects → ArePlaced (map object_of objects)
placed_in c objects same proper =
    rw same (λ k lt.
    let next : suc k ≡ k + 1 = omega arith in
    let at : (slice_index_or (map object_of c.objects) k no_object).parent
    ≡ (object_at (map object_of c.objects) (k + 1)).parent =
    ap (λ n. (object_at (map object_of c.objects) n).parent) next in
    omega (arith, at, (proper.each k lt).parent))

-- the bytes of attributes
pub attributes_are : (xs : List ℕ) (a b c d e f : ℕ) → a ≡ attribute_byte xs 0 → b ≡ attribute_byte xs 8
    → c ≡ attribute_byte xs 16 → d ≡ attribute_byte xs 24 → e ≡ attribute_byte xs 32 → f ≡ attribute_byte xs 40
    → a ∷ b ∷ c ∷ d ∷ e ∷ f ∷ [] ≡ attribute_bytes xs
attributes_are xs a b c d e f u v w x y z = rw (u, v, w, x, y, z) refl

-- Lists of rows

-- one more row
pub rows_step : (objects : List ObjectOf) (i : ℕ) (rows more : List ObjectRow) (row : ObjectRow) → i < length objects
    → more ≡ rows ++ row ∷ [] → view_of row ≡ row_of objects (i + 1) (object_at objects (i + 1))
    → map view_of rows ++ rows_from objects (i + 1) (drop i objects) ≡ rows_of objects
    → map view_of more ++ rows_from objects (i + 1 + 1) (drop (i + 1) objects) ≡ rows_of objects
rows_step objects i rows more row lt e is all =
    let next : i + 1 ≡ suc i = omega arith in
    let rest : List RowOf = rows_from objects (i + 1 + 1) (drop (i + 1) objects) in
    let first : view_of row ∷ rest ≡ rows_from objects (i + 1) (drop i objects) =
    ap (λ r. r ∷ rest) (is ∙ ap (λ n. row_of objects (i + 1) (object_at objects n)) next)
    ∙ sym (from_here objects (i + 1) i lt) in
    ap (λ rs. map view_of rs ++ rest) e ∙ ap (λ rs. rs ++ rest) (map_push view_of rows row)
    ∙ append_assoc (map view_of rows) (view_of row ∷ []) rest ∙ ap (λ rs. map view_of rows ++ rs) first ∙ all
  where
    from_here : (xs : List ObjectOf) (o i : ℕ) → i < length xs
        → rows_from objects o (drop i xs)
        ≡ row_of objects o (slice_index_or xs i no_object) ∷ rows_from objects (o + 1) (drop (i + 1) xs)
    from_here [] o i lt = absurd (omega (arith, lt))
    from_here (x ∷ xs) o zero lt =
        let next : suc o ≡ o + 1 = omega arith in ap (λ n. row_of objects o x ∷ rows_from objects n xs) next
    from_here (x ∷ xs) o (suc i) lt =
        let next : suc (i + 1) ≡ suc i + 1 = omega arith in
        from_here xs o i (omega (arith, lt))
        ∙ ap (λ n. row_of objects o (slice_index_or xs i no_object) ∷ rows_from objects (o + 1) (drop n (x ∷ xs))) next
