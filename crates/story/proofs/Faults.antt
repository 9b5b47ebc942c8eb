-- The limits of size of a checked program are those of its tree.
use Rattle.std.proofs.Common.{◌≡◌, ◌⊎◌, inl, inr, ℕ, ◌<◌, ◌≤◌, List, [], ◌∷◌, length, drop, Option, Some, None, true}
use Rattle.std.proofs.Common.{refl, sym, ap, ◌∙◌, arith}
use Rattle.std.specs.Prelude.{map, nat_lt, if◌then◌else◌, slice_index_or}
use Rattle.std.proofs.lemmas.Bool.{cases_lt, lt-ltb}
use Rattle.syntax_lexer.specs.declared.fault.SourceFault.{SourceFault}
use Rattle.syntax_lexer.specs.declared.token.Position.{Position}
use Rattle.zcore.specs.declared.header.Version.{Version}
use Rattle.syntax_directives.specs.Tree.{RoutineTree}
use Rattle.syntax.specs.Tree.{ProgramTree}
use Rattle.meaning.specs.declared.checked.CheckedRoutine.{CheckedRoutine}
use Rattle.meaning.specs.Places.{routines_place}
use Rattle.meaning.specs.Resolved.{ProgramOf}
use Rattle.meaning.specs.Views.{CheckedProgram, title_of}
use Rattle.checker.specs.Checked.{IsCheckedOf, title}
use Rattle.checker.specs.Programs.{resolve_program, routine_trees}
use Rattle.meaning.specs.Sizes.{greatest_routine_weight, first_heavy, size_fault}
use Rattle.meaning.specs.CheckedSizes.{checked_size_fault}
use Rattle.meaning.specs.CheckedSizes as checked
use Rattle.story.specs.declared.sized.Limit.{Limit}
use Rattle.story.specs.declared.sized.Limit.TheVariants as limit
use Rattle.story.specs.FaultPlaces.{heavy_place}
use Rattle.story.specs.Large.{checked_fault_by, length_fault, limits_by}
use Rattle.story.specs.Refused.{tree_name_place, tree_size_fault, tree_weight}

-- the first heavy routine of a checked program is that of its tree
abbrev checked_heavy : List CheckedRoutine → Option Position
checked_heavy cs = first_heavy checked.routine_weight checked.name_place_of cs

abbrev tree_heavy : List RoutineTree → Option Position
tree_heavy rs = first_heavy tree_weight tree_name_place rs

heavy_same : (rs : List RoutineTree) (cs : List CheckedRoutine) → map title_of cs ≡ map title rs
    → checked_heavy cs ≡ tree_heavy rs
heavy_same [] [] e = refl
heavy_same [] (c ∷ cs) e = let h : length (map title_of (c ∷ cs)) ≡ 0 = ap length e in absurd (omega (arith, h))
heavy_same (r ∷ rs) [] e = let h : 0 ≡ length (map title (r ∷ rs)) = ap length e in absurd (omega (arith, h))
heavy_same (r ∷ rs) (c ∷ cs) e =
    let first : title_of c ≡ title r = ap (λ ts. slice_index_or ts 0 (title r)) e in
    let weight : c.weight ≡ r.weight = ap (λ t. t.1) first in
    let position : c.name.position ≡ r.name.position = ap (λ t. t.0.position) first in
    ap (λ w. if nat_lt greatest_routine_weight w then Some c.name.position else checked_heavy cs) weight
    ∙ ap (λ q. if nat_lt greatest_routine_weight r.weight then Some q else checked_heavy cs) position
    ∙ ap (λ q. if nat_lt greatest_routine_weight r.weight then Some r.name.position else q) (heavy_same rs cs (ap (drop 1) e))

pub heavy_places : (p : ProgramTree) (c : CheckedProgram) → IsCheckedOf p c → checked.heavy_place c ≡ heavy_place p
heavy_places p c is = heavy_same (routine_trees p.directives) c.routines is.titles

pub size_faults : (version : Version) (p : ProgramTree) (c : CheckedProgram) → IsCheckedOf p c
    → checked_size_fault c version ≡ tree_size_fault version p
size_faults version p c is =
    ap (λ (q : ProgramOf). size_fault version (routines_place q) c.weight (checked_heavy c.routines)) is.program
    ∙ ap (λ w. size_fault version (routines_place (resolve_program p)) w (checked_heavy c.routines)) is.weight
    ∙ ap (size_fault version (routines_place (resolve_program p)) p.weight)
    (heavy_same (routine_trees p.directives) c.routines is.titles)

pub faults_by : (by : Limit) (version : Version) (p : ProgramTree) (c : CheckedProgram) → IsCheckedOf p c
    → checked_fault_by by version c ≡ limits_by by version p
faults_by limit.Weight version p c is = size_faults version p c is
faults_by limit.Length version p c is =
    ap (λ (q : ProgramOf). length_fault version q (checked.heavy_place c)) is.program
    ∙ ap (length_fault version (resolve_program p)) (heavy_places p c is)

-- a program that has none stands below the routines in addresses that are words
pub placed_of : (n : ℕ) (f : SourceFault) (rest : Option SourceFault)
    → (if nat_lt 65535 n then Some f else rest) ≡ None → n ≤ 65535
placed_of n f rest e = go (cases_lt 65535 n)
  where
    go : (65535 < n) ⊎ (n ≤ 65535) → n ≤ 65535
    go (inl h) =
        let large : nat_lt 65535 n ≡ true = lt-ltb _ _ h in
        let none : Some f ≡ None = sym (ap (λ b. if b then Some f else rest) large) ∙ e in
        absurd (cc)
    go (inr h) = h
