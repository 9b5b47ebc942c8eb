-- What the tests of sizes say, where the weight of a source is limited, and where the length of its story is.
use Rattle.std.proofs.Common.{◌≡◌, ℕ, ◌<◌, ◌≤◌, Bool, true, false, nat_lt, length, Option, Some, None}
use Rattle.std.proofs.Common.{refl, sym, ap, ◌∙◌, arith, zero, suc, ◌+◌, List, [], ◌∷◌, drop}
use Rattle.std.specs.Prelude.{if◌then◌else◌}
use Rattle.std.specs.List.{slice_get}
use Rattle.std.specs.Option.{option_or}
use Rattle.std.proofs.lemmas.Bool.{le-ltb, lt-ltb, ltb-false}
use Rattle.zcore.specs.declared.header.Version.{Version}
use Rattle.syntax_lexer.specs.declared.fault.SourceFault.{SourceFault}
use Rattle.syntax_lexer.specs.declared.fault.PlacedFault.{PlacedFault}
use Rattle.syntax_lexer.specs.declared.token.Position.{Position}
use Rattle.meaning.specs.Places.{routines_place}
use Rattle.meaning.specs.Resolved.{ProgramOf}
use Rattle.meaning.specs.Sizes.{fault, first_heavy, greatest_routine_weight, greatest_weight, heavy_fault, size_fault}
use Rattle.meaning.specs.declared.checked.CheckedRoutine.{CheckedRoutine}
use Rattle.meaning.specs.Views.{CheckedProgram, program_of}
use Rattle.meaning.specs.CheckedSizes.{heavy_place, name_place_of, routine_weight}
use Rattle.story_file.specs.Layout.{greatest_length, story_of}
use Rattle.story.specs.declared.sized.Limit.{Limit}
use Rattle.story.specs.declared.sized.Limit.TheVariants as limit
use Rattle.story.specs.Large.{checked_fault_by, length_fault}

-- The outcomes of the tests as plain truth values

abbrev weighed : Bool → Bool → Option Position → Option SourceFault
weighed large heavy first =
    if large then Some (fault 30 0) else (if heavy then Some (fault 31 0) else heavy_fault first)

abbrev measured : Bool → Option Position → Bool → Option SourceFault
measured large first long =
    if large then Some (fault 30 0) else option_or (heavy_fault first) (if long then Some (fault 31 0) else None)

no_heavy : (first : Option Position) → heavy_fault first ≡ None → first ≡ None
no_heavy None e = refl
no_heavy (Some name) e = absurd cc

none_weighed : (large heavy : Bool) (first : Option Position) → weighed large heavy first ≡ None
    → (large ≡ false) × (heavy ≡ false) × (first ≡ None)
none_weighed true heavy first e = absurd cc
none_weighed false true first e = absurd cc
none_weighed false false first e = (refl, refl, no_heavy first e)

none_measured : (large : Bool) (first : Option Position) (long : Bool) → measured large first long ≡ None
    → (large ≡ false) × (first ≡ None)
none_measured true first long e = absurd cc
none_measured false None long e = (refl, refl)
none_measured false (Some name) long e = absurd cc

-- The first routine that is too heavy, of those from one on

abbrev heavy_from : List CheckedRoutine → ℕ → Option Position
heavy_from rs k = first_heavy routine_weight name_place_of (drop k rs)

heavy_next : (rs : List CheckedRoutine) (k : ℕ) (r : CheckedRoutine) → Some r ≡ slice_get rs k
    → heavy_from rs k ≡ (if nat_lt greatest_routine_weight r.weight then Some r.name.position else heavy_from rs (k + 1))
heavy_next [] k r e = absurd cc
heavy_next (x ∷ rs) zero r e =
    let is : x ≡ r = cc in
    ap (λ (y : CheckedRoutine). if nat_lt greatest_routine_weight y.weight then Some y.name.position else heavy_from rs 0) is
heavy_next (x ∷ rs) (suc k) r e =
    let next : suc k + 1 ≡ suc (k + 1) = omega arith in
    heavy_next rs k r e
    ∙ ap (λ j. if nat_lt greatest_routine_weight r.weight then Some r.name.position else heavy_from (x ∷ rs) j) (sym next)

pub heavy_here : (rs : List CheckedRoutine) (k : ℕ) (r : CheckedRoutine) → Some r ≡ slice_get rs k
    → greatest_routine_weight < r.weight → first_heavy routine_weight name_place_of (drop k rs) ≡ Some r.name.position
heavy_here rs k r e heavy =
    heavy_next rs k r e ∙ ap (λ b. if b then Some r.name.position else heavy_from rs (k + 1))
    (lt-ltb greatest_routine_weight r.weight heavy)

pub heavy_later : (rs : List CheckedRoutine) (k : ℕ) (r : CheckedRoutine) → Some r ≡ slice_get rs k
    → r.weight ≤ greatest_routine_weight
    → first_heavy routine_weight name_place_of (drop (k + 1) rs) ≡ first_heavy routine_weight name_place_of (drop k rs)
heavy_later rs k r e light =
    sym (heavy_next rs k r e ∙ ap (λ b. if b then Some r.name.position else heavy_from rs (k + 1))
    (le-ltb greatest_routine_weight r.weight light))

-- Of a program of a weight, whose first routine that is too heavy stands there

module _ (version : Version) (p : ProgramOf) (weight : ℕ) (first : Option Position)
    (sized : size_fault version (routines_place p) weight first ≡ None) where
  abbrev heavy : Bool
  heavy = nat_lt (greatest_weight version) weight

  pub weight_passed : (routines_place p ≤ 65535) × (weight ≤ greatest_weight version)
  weight_passed =
      let none = none_weighed (nat_lt 65535 (routines_place p)) heavy first sized in
      (ltb-false 65535 (routines_place p) none.0, ltb-false (greatest_weight version) weight none.1)

  pub none_by_length : length (story_of version p) ≤ greatest_length version → length_fault version p first ≡ None
  none_by_length within =
      let long = nat_lt (greatest_length version) (length (story_of version p)) in
      let none = none_weighed (nat_lt 65535 (routines_place p)) heavy first sized in
      ap (λ b. measured b first long) none.0 ∙ ap (λ h. measured false h long) none.2
      ∙ ap (measured false None) (le-ltb (greatest_length version) (length (story_of version p)) within)

-- Of a checked program

module _ (version : Version) (c : CheckedProgram) where
  abbrev large : Bool
  large = nat_lt 65535 (routines_place (program_of c))

  abbrev long : Bool
  long = nat_lt (greatest_length version) (length (story_of version (program_of c)))

  -- the parts of what is not too large fit, and each of its routines
  pub parts_fit : (by : Limit) → checked_fault_by by version c ≡ None
      → (routines_place (program_of c) ≤ 65535) × (heavy_place c ≡ None)
  parts_fit limit.Weight e =
      let none = none_weighed large (nat_lt (greatest_weight version) c.weight) (heavy_place c) e in
      (ltb-false 65535 (routines_place (program_of c)) none.0, none.2)
  parts_fit limit.Length e =
      let none = none_measured large (heavy_place c) long e in
      (ltb-false 65535 (routines_place (program_of c)) none.0, none.1)
