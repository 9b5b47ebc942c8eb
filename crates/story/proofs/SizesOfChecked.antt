-- The code of a checked program that is not too large.
use Rattle.std.proofs.Common.{◌≡◌, ◌≤◌, ◌+◌, ℕ, Bool, true, false, List, [], ◌∷◌, map, Option, Some, None, refl, ap}
use Rattle.std.proofs.Common.{◌∙◌, arith}
use Rattle.std.specs.Prelude.{nat_lt, if◌then◌else◌}
use Rattle.std.specs.List.{All}
use Rattle.std.proofs.lemmas.List.Elements.{All-nil, All-cons, All-head, All-tail}
use Rattle.std.proofs.lemmas.Bool.{ltb-false}
use Rattle.zcore.specs.declared.header.Version.{Version}
use Rattle.syntax_lexer.specs.declared.token.Position.{Position}
use Rattle.syntax_lexer.specs.declared.fault.SourceFault.{SourceFault}
use Rattle.syntax_lexer.specs.Token.{Lexeme}
use Rattle.syntax_trees.specs.Tree.{NameTree}
use Rattle.syntax_directives.specs.Tree.{RoutineTree, DirectiveTree}
use Rattle.syntax_directives.specs.Tree as trees
use Rattle.syntax.specs.Grammar.{IsProgram}
use Rattle.syntax.specs.Tree.{ProgramTree}
use Rattle.meaning.specs.declared.checked.CheckedRoutine.{CheckedRoutine}
use Rattle.meaning.specs.Places.{routines_place}
use Rattle.meaning.specs.Resolved.{RoutineOf, ProgramOf}
use Rattle.meaning.specs.Views.{CheckedProgram, program_of, routine_of, title_of}
use Rattle.meaning.specs.Sizes.{greatest_weight, greatest_routine_weight, first_heavy, heavy_fault, fault}
use Rattle.meaning.specs.CheckedSizes.{checked_size_fault, name_place_of, routine_weight}
use Rattle.checker_values.specs.Names.{File}
use Rattle.checker.specs.Programs.{resolve_routine, resolve_with, file_of, resolve_program, routines_of, routine_trees}
use Rattle.checker.specs.Checked.{title, IsCheckedOf}
use Rattle.code_drafts.specs.Addresses.{Sizes}
use Rattle.code.specs.HeldProgram.{sizes_of}
use Rattle.code.specs.Sizes.{routine_size, routines_size}
use Rattle.story.specs.CodeSizes.{SmallSourcesHaveSmallCode}
use Rattle.story.proofs.SizesOfPrograms.{IsRoutineShort, code_is_short}

-- the tests of sizes

light_first : (heavy : Bool) (p : Position) (rest : Option Position) → (if heavy then Some p else rest) ≡ None
    → (heavy ≡ false) × (rest ≡ None)
light_first true p rest e = absurd cc
light_first false p rest e = (refl, e)

light : (cs : List CheckedRoutine) → first_heavy routine_weight name_place_of cs ≡ None
    → All (λ (c : CheckedRoutine). c.weight ≤ greatest_routine_weight) cs
light [] e = All-nil (λ (c : CheckedRoutine). c.weight ≤ greatest_routine_weight)
light (c ∷ cs) e =
    let f = light_first (nat_lt greatest_routine_weight c.weight) c.name.position (first_heavy routine_weight name_place_of cs) e in
    All-cons (λ (c : CheckedRoutine). c.weight ≤ greatest_routine_weight) c cs (ltb-false greatest_routine_weight c.weight f.0) (light cs f.1)

record Tests (c : CheckedProgram) (version : Version) : Type 0 where
  weight : c.weight ≤ greatest_weight version
  light : first_heavy routine_weight name_place_of c.routines ≡ None

small_first : (large : Bool) (f : SourceFault) (rest : Option SourceFault) → (if large then Some f else rest) ≡ None
    → (large ≡ false) × (rest ≡ None)
small_first true f rest e = absurd cc
small_first false f rest e = (refl, e)

no_heavy : (p : Option Position) → heavy_fault p ≡ None → p ≡ None
no_heavy None e = refl
no_heavy (Some p) e = absurd cc

tests : (c : CheckedProgram) (version : Version) → checked_size_fault c version ≡ None → Tests c version
tests c version e =
    let heavy = heavy_fault (first_heavy routine_weight name_place_of c.routines) in
    let large = nat_lt (greatest_weight version) c.weight in
    let parts = small_first (nat_lt 65535 (routines_place (program_of c))) (fault 30 0) (if large then Some (fault 31 0)
    else heavy) e in
    let whole = small_first large (fault 31 0) heavy parts.1 in
    record {
      weight = ltb-false (greatest_weight version) c.weight whole.0;
      light = no_heavy (first_heavy routine_weight name_place_of c.routines) whole.1;
    }

-- the routines of a checked program

module _ (file : File) (sizes : Sizes) where
  resolved_trees : (ds : List DirectiveTree) → routines_of file ds ≡ map (resolve_routine file) (routine_trees ds)
  resolved_trees [] = refl
  resolved_trees (trees.global n v ∷ ds) = resolved_trees ds
  resolved_trees (trees.constant n v ∷ ds) = resolved_trees ds
  resolved_trees (trees.array a ∷ ds) = resolved_trees ds
  resolved_trees (trees.attribute n ∷ ds) = resolved_trees ds
  resolved_trees (trees.property n v ∷ ds) = resolved_trees ds
  resolved_trees (trees.object o ∷ ds) = resolved_trees ds
  resolved_trees (trees.routine r ∷ ds) = ap (λ rs. resolve_routine file r ∷ rs) (resolved_trees ds)

  one_small : (c : CheckedRoutine) (r : RoutineTree) → routine_of c ≡ resolve_routine file r → title_of c ≡ title r
      → IsRoutineShort file sizes r → c.weight ≤ greatest_routine_weight → routine_size sizes (routine_of c) + 7 ≤ greatest_routine_weight
  one_small c r e t h k =
      let size : routine_size sizes (routine_of c) ≡ routine_size sizes (resolve_routine file r) =
      ap (routine_size sizes) e in
      let weight : c.weight ≡ r.weight = ap (λ (x : NameTree × ℕ). x.1) t in
      omega arith

  all_small : (cs : List CheckedRoutine) (rs : List RoutineTree) → map routine_of cs ≡ map (resolve_routine file) rs
      → map title_of cs ≡ map title rs
      → All (IsRoutineShort file sizes) rs → All (λ (c : CheckedRoutine). c.weight ≤ greatest_routine_weight) cs
      → All (λ (r : RoutineOf). routine_size sizes r + 7 ≤ greatest_routine_weight) (map routine_of cs)
  all_small [] rs e t h k = All-nil (λ (r : RoutineOf). routine_size sizes r + 7 ≤ greatest_routine_weight)
  all_small (c ∷ cs) [] e t h k = absurd cc
  all_small (c ∷ cs) (r ∷ rs) e t h k =
      let P = λ (c : CheckedRoutine). c.weight ≤ greatest_routine_weight in
      let first : routine_of c ≡ resolve_routine file r = cc in
      let more : map routine_of cs ≡ map (resolve_routine file) rs = cc in
      let name : title_of c ≡ title r = cc in
      let names : map title_of cs ≡ map title rs = cc in
      All-cons (λ (r : RoutineOf). routine_size sizes r + 7 ≤ greatest_routine_weight) (routine_of c) (map routine_of cs)
      (one_small c r first name (All-head (IsRoutineShort file sizes) r rs h) (All-head P c cs k))
      (all_small cs rs more names (All-tail (IsRoutineShort file sizes) r rs h) (All-tail P c cs k))

routines_are : (p : ProgramTree) (c : CheckedProgram) → IsCheckedOf p c
    → map routine_of c.routines ≡ routines_of (file_of p) p.directives
unfolding resolve_program resolve_with
routines_are p c h = ap (λ (x : ProgramOf). x.routines) h.program

-- if no routine is too heavy, the code of each is short, whatever the source weighs
pub small_routines : (tokens : List Lexeme) (p : ProgramTree) (c : CheckedProgram) → IsProgram tokens p
    → IsCheckedOf p c → first_heavy routine_weight name_place_of c.routines ≡ None
    → All (λ (r : RoutineOf). routine_size (sizes_of (program_of c)) r + 7 ≤ greatest_routine_weight)
    (program_of c).routines
small_routines tokens p c g h e =
    let file = file_of p in
    let sizes = sizes_of (program_of c) in
    all_small file sizes c.routines (routine_trees p.directives)
    (routines_are p c h ∙ resolved_trees file sizes p.directives) h.titles
    (code_is_short tokens p g file sizes).each (light c.routines e)

pub small_sources_have_small_code : SmallSourcesHaveSmallCode
small_sources_have_small_code tokens p c version g h e =
    let file = file_of p in
    let sizes = sizes_of (program_of c) in
    let short = code_is_short tokens p g file sizes in
    let t = tests c version e in
    let size = ap (routines_size sizes) (routines_are p c h) in
    let weight = h.weight in
    record {
      each = small_routines tokens p c g h t.light;
      all = omega (arith, short.all, t.weight, size, weight);
    }
