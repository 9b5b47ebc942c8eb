-- The rows of one routine more.
use Rattle.std.proofs.Common.{◌≡◌, ◌<◌, ◌≤◌, ◌+◌, ℕ, zero, suc, List, [], ◌∷◌, ◌++◌, length, map, take, refl, sym}
use Rattle.std.proofs.Common.{ap, ◌∙◌, subst, arith, append_assoc, append-nil, Option, Some, slice_get}
use Rattle.std.specs.List.{All}
use Rattle.std.proofs.lemmas.List.{length-map, length-take-le, map-append, take_all}
use Rattle.zcore.specs.declared.header.Version.{Version}
use Rattle.meaning.specs.Resolved.{ProgramOf}
use Rattle.code_drafts.specs.Layout.{first}
use Rattle.code_instructions.specs.Places.{place_in}
use Rattle.meaning.specs.declared.checked.CheckedRoutine.{CheckedRoutine}
use Rattle.meaning.specs.Views.{title_of}
use Rattle.map_text.specs.declared.row.Row.{Row}
use Rattle.map_text.specs.Text.{Ascend, RowOf, row_of}
use Rattle.map_lines.specs.Rows.{AddsRoutine, address_at, aligned, AreOf, end_of, IsFirstOf, IsOtherOf, lefts_at}
use Rattle.map_lines.specs.Rows.{Rise, Title}
use Rattle.map_lines.proofs.Rising.{rise_ascend, rise_both, rise_later, same_behind}

pub added : (old one new : List Row) (row : Row) (others : List Row) → one ≡ old ++ row ∷ [] → new ≡ one ++ others
    → map row_of new ≡ map row_of old ++ row_of row ∷ map row_of others
added old one new row others first rest =
    ap (map row_of) (rest ∙ ap (λ (rows : List Row). rows ++ others) first ∙ append_assoc old (row ∷ []) others)
    ∙ map-append row_of old (row ∷ others)

pub first_of : (r x : CheckedRoutine) (o : Option CheckedRoutine) (row : Row) (at : ℕ) → Some r ≡ o → Some x ≡ o
    → row.routine.now ≡ x.name.text.now → row.line ≡ x.name.position.line → row.address ≡ address_at at 0
    → IsFirstOf (title_of r) at (row_of row)
first_of r x o row at is given name line address =
    let same : x ≡ r = cc in (
      name ∙ ap (λ (y : CheckedRoutine). y.name.text.now) same,
      line ∙ ap (λ (y : CheckedRoutine). y.name.position.line) same,
      address,
    )

-- the name of its other rows
pub others_of : (r x : CheckedRoutine) (o : Option CheckedRoutine) (lefts lefts2 : List ℕ) (at : ℕ)
    (others : List RowOf) → Some r ≡ o → Some x ≡ o → lefts ≡ lefts2
    → All (IsOtherOf x.name.text.now lefts at) others → All (IsOtherOf r.name.text.now lefts2 at) others
others_of r x o lefts lefts2 at others is given left all =
    let same : x ≡ r = cc in
    subst (λ (y : CheckedRoutine). All (IsOtherOf y.name.text.now lefts2 at) others) same
    (subst (λ (l : List ℕ). All (IsOtherOf x.name.text.now l at) others) left all)

-- at another place with the same addresses
moved : (name lefts : List ℕ) (a b : ℕ) (others : List RowOf) → address_at a 0 ≡ address_at b 0
    → All (IsOtherOf name lefts a) others → All (IsOtherOf name lefts b) others
moved name lefts a b others same all k d lt =
    let one = all k d lt in
    (one.0, (one.1.0, one.1.1 ∙ same_behind a b (place_in lefts one.1.0 + 1) same))

-- where routines end of which the first has this number
abbrev end_from : Version → ProgramOf → ℕ → ℕ → List Title → ℕ
end_from version p at number [] = at
end_from version p at number (t ∷ ts) = end_from version p (end_of p number (aligned version at)) (number + 1) ts

ends_more : (version : Version) (p : ProgramOf) (at number last : ℕ) (ts : List Title) (t : Title)
    → last ≡ number + length ts
    → end_from version p at number (ts ++ t ∷ []) ≡ end_of p last (aligned version (end_from version p at number ts))
ends_more version p at number last [] t count =
    let same : number ≡ last = omega (arith, count) in ap (λ n. end_of p n (aligned version at)) same
ends_more version p at number last (x ∷ ts) t count =
    ends_more version p (end_of p number (aligned version at)) (number + 1) last ts t (omega (arith, count))

are_more : (version : Version) (p : ProgramOf) (at number last : ℕ) (ts : List Title) (t : Title)
    (old new : List RowOf) (row : RowOf) (others : List RowOf) → last ≡ number + length ts
    → AreOf version p at number ts old → new ≡ old ++ row ∷ others
    → IsFirstOf t (aligned version (end_from version p at number ts)) row
    → All (IsOtherOf t.0.text (lefts_at p last) (aligned version (end_from version p at number ts))) others
    → AreOf version p at number (ts ++ t ∷ []) new
are_more version p at number last [] t old new row others count are is top each =
    let same : last ≡ number = omega (arith, count) in (
      row,
      others,
      [],
      is ∙ ap (λ (rows : List RowOf). rows ++ row ∷ others) are ∙ sym (append-nil (row ∷ others)),
      top,
      subst (λ n. All (IsOtherOf t.0.text (lefts_at p n) (aligned version at)) others) same each,
      refl,
    )
are_more version p at number last (x ∷ ts) t old new row others count are is top each = (
  are.0,
  are.1,
  are.2 ++ row ∷ others,
  is ∙ ap (λ (rows : List RowOf). rows ++ row ∷ others) are.3 ∙ append_assoc (are.0 ∷ are.1) are.2 (row ∷ others),
  are.4,
  are.5,
  are_more version p (end_of p number (aligned version at)) (number + 1) last ts t are.2 (are.2 ++ row ∷ others) row
      others (omega (arith, count)) are.6 refl top each,
)

title_next : (rs : List CheckedRoutine) (i : ℕ) (r : CheckedRoutine) → Some r ≡ slice_get rs i
    → map title_of (take (suc i) rs) ≡ map title_of (take i rs) ++ title_of r ∷ []
title_next [] i r is = absurd cc
title_next (x ∷ rs) zero r is = let same : r ≡ x = cc in ap (λ (y : CheckedRoutine). title_of y ∷ []) (sym same)
title_next (x ∷ rs) (suc i) r is = ap (λ ts. title_of x ∷ ts) (title_next rs i r is)

found : (rs : List CheckedRoutine) (i : ℕ) → i < length rs → (r : CheckedRoutine) × (Some r ≡ slice_get rs i)
found [] i lt = absurd (omega (arith, lt))
found (x ∷ rs) zero lt = (x, refl)
found (x ∷ rs) (suc i) lt = found rs i (omega (arith, lt))

-- so many routines have rows, and those end before this place
pub record Mapped (version : Version) (p : ProgramOf) (start : ℕ) (rs : List CheckedRoutine) (i : ℕ)
    (rows : List RowOf) (at : ℕ) : Type 0 where
  pub routines : AreOf version p start 0 (map title_of (take i rs)) rows
  pub ends : address_at at 0 ≡ address_at (end_from version p start 0 (map title_of (take i rs))) 0
  pub rise : Rise 0 rows (address_at at 0)

pub one_more : (version : Version) (p : ProgramOf) (start : ℕ) (rs : List CheckedRoutine) (i at place end : ℕ)
    (old new : List RowOf) → i < length rs → Mapped version p start rs i old at
    → address_at at 0 ≤ address_at place 0
    → ((x : ℕ) → address_at at 0 ≡ address_at x 0 → address_at place 0 ≡ address_at (aligned version x) 0)
    → ((r : CheckedRoutine) → Some r ≡ slice_get rs i → AddsRoutine (title_of r) (lefts_at p i) place old new end)
    → Mapped version p start rs (i + 1) new end
one_more version p start rs i at place end old new lt mapped le same more =
    let r = found rs i lt in
    let adds = more r.0 r.1 in
    let ts = map title_of (take i rs) in
    let begins = aligned version (end_from version p start 0 ts) in
    let there : address_at place 0 ≡ address_at begins 0 = same (end_from version p start 0 ts) mapped.ends in
    let count : i ≡ 0 + length ts = omega
    (arith, length-map (take i rs) title_of, length-take-le i rs (omega (arith, lt))) in
    let next : i + 1 ≡ suc i = omega arith in
    let titles : map title_of (take (i + 1) rs) ≡ ts ++ title_of r.0 ∷ [] =
    ap (λ n. map title_of (take n rs)) next ∙ title_next rs i r.0 r.1 in
    let behind : address_at begins (1 + first (lefts_at p i)) ≡ address_at (end_of p i begins) 0 = omega arith in
    record {
      routines = subst (λ (xs : List Title). AreOf version p start 0 xs new) (sym titles)
          (are_more version p start 0 i ts (title_of r.0) old new adds.0 adds.1 count mapped.routines adds.2
          (adds.3.0, adds.3.1, adds.3.2 ∙ there)
          (moved (title_of r.0).0.text (lefts_at p i) place begins adds.1 there adds.4));
      ends = adds.6 ∙ same_behind place begins (1 + first (lefts_at p i)) there ∙ behind
          ∙ ap (λ n. address_at n 0) (sym (ends_more version p start 0 i ts (title_of r.0) count))
          ∙ ap (λ (xs : List Title). address_at (end_from version p start 0 xs) 0) (sym titles);
      rise = subst (λ (rows : List RowOf). Rise 0 rows (address_at end 0)) (sym adds.2)
          (rise_both 0 (address_at place 0) (address_at end 0) old (adds.0 ∷ adds.1)
          (rise_later 0 old (address_at at 0) (address_at place 0) mapped.rise le) adds.5);
    }

pub all_mapped : (version : Version) (p : ProgramOf) (start : ℕ) (rs : List CheckedRoutine) (i at : ℕ)
    (rows : List RowOf) → length rs ≤ i → Mapped version p start rs i rows at
    → AreOf version p start 0 (map title_of rs) rows × Ascend 0 rows
all_mapped version p start rs i at rows le mapped = (
  subst (λ (xs : List CheckedRoutine). AreOf version p start 0 (map title_of xs) rows) (take_all i rs le)
      mapped.routines,
  rise_ascend 0 rows (address_at at 0) mapped.rise,
)
