-- The program of a source that was compiled has a story whose addresses are words.
use Rattle.std.proofs.Common.{◌≡◌, ℕ, ◌+◌, ◌<◌, ◌≤◌, Bool, true, false, nat_lt, List, [], ◌∷◌, length, refl, sym, ap}
use Rattle.std.proofs.Common.{subst, arith, Option, Some, None}
use Rattle.std.specs.Prelude.{if◌then◌else◌}
use Rattle.std.specs.List.{All}
use Rattle.std.specs.Option.{option_or}
use Rattle.std.proofs.lemmas.Bool.{ltb-false}
use Rattle.std.proofs.lemmas.List.Elements.{All-nil, All-cons, All-head, All-tail}
use Rattle.zcore.specs.declared.header.Version.{Version}
use Rattle.zcore.specs.Layout.{greatest_word}
use Rattle.syntax_lexer.specs.declared.token.Position.{Position}
use Rattle.syntax_directives.specs.Tree.{RoutineTree, DirectiveTree}
use Rattle.syntax_directives.specs.Tree as trees
use Rattle.syntax.specs.Tree.{ProgramTree}
use Rattle.meaning.specs.Places.{routines_place}
use Rattle.meaning.specs.Resolved.{RoutineOf, ProgramOf}
use Rattle.meaning.specs.Sizes.{fault, first_heavy, greatest_routine_weight, greatest_weight, heavy_fault}
use Rattle.checker_values.specs.Names.{File}
use Rattle.checker.specs.Laws.{AcceptedPrograms}
use Rattle.checker.specs.Programs.{file_of, program_breaches, resolve_program, resolve_with, resolve_routine}
use Rattle.checker.specs.Programs.{routine_trees, routines_of}
use Rattle.code_drafts.specs.Addresses.{Sizes}
use Rattle.code.specs.HeldProgram.{sizes_of}
use Rattle.code.specs.Sizes.{routine_size, routines_size}
use Rattle.story_file.specs.Layout.{greatest_length, story_of}
use Rattle.story.specs.declared.sized.Limit.{Limit}
use Rattle.story.specs.declared.sized.Limit.TheVariants as limit
use Rattle.story.specs.CodeSizes.{CodeIsShort}
use Rattle.story.specs.FaultPlaces.{heavy_place}
use Rattle.story.specs.Large.{limits_by, tree_length_fault}
use Rattle.story.specs.Laws.{IsShortRoutine, IsStory}
use Rattle.story.specs.Refused.{IsTreeOf, lexemes_of, tree_name_place, tree_weight}
use Rattle.story.proofs.SizeTests.{none_by_length, weight_passed}
use Rattle.story.proofs.Sizes.{all_short, stories_are_short}

-- What the limit of length says

none_heavy : (p : Option Position) → heavy_fault p ≡ None → p ≡ None
none_heavy None e = refl
none_heavy (Some p) e = absurd cc

none_measured : (large : Bool) (first : Option Position) (long : Bool)
    → (if large then Some (fault 30 0) else option_or (heavy_fault first) (if long then Some (fault 31 0) else None)) ≡ None
    → (large ≡ false) × (first ≡ None) × (long ≡ false)
none_measured true first long e = absurd cc
none_measured false (Some place) long e = absurd cc
none_measured false None true e = absurd cc
none_measured false None false e = (refl, refl, refl)

-- Routines that are not too heavy have short code

light_first : (heavy : Bool) (p : Position) (rest : Option Position) → (if heavy then Some p else rest) ≡ None
    → (heavy ≡ false) × (rest ≡ None)
light_first true p rest e = absurd cc
light_first false p rest e = (refl, e)

module _ (file : File) (sizes : Sizes) where
  abbrev IsBelow : RoutineTree → Type 0
  IsBelow r = routine_size sizes (resolve_routine file r) + 7 ≤ r.weight

  abbrev IsLight : RoutineOf → Type 0
  IsLight r = routine_size sizes r + 7 ≤ greatest_routine_weight

  all_light : (ds : List DirectiveTree) → All IsBelow (routine_trees ds)
      → first_heavy tree_weight tree_name_place (routine_trees ds) ≡ None → All IsLight (routines_of file ds)
  all_light [] h e = All-nil IsLight
  all_light (trees.global n v ∷ ds) h e = all_light ds h e
  all_light (trees.constant n v ∷ ds) h e = all_light ds h e
  all_light (trees.array a ∷ ds) h e = all_light ds h e
  all_light (trees.attribute n ∷ ds) h e = all_light ds h e
  all_light (trees.property n v ∷ ds) h e = all_light ds h e
  all_light (trees.object o ∷ ds) h e = all_light ds h e
  all_light (trees.routine r ∷ ds) h e =
      let f = light_first (nat_lt greatest_routine_weight r.weight) r.name.position
      (first_heavy tree_weight tree_name_place (routine_trees ds)) e in
      let weight : r.weight ≤ greatest_routine_weight = ltb-false greatest_routine_weight r.weight f.0 in
      let below : routine_size sizes (resolve_routine file r) + 7 ≤ r.weight =
      All-head IsBelow r (routine_trees ds) h in
      All-cons IsLight (resolve_routine file r) (routines_of file ds) (omega (arith, weight, below))
      (all_light ds (All-tail IsBelow r (routine_trees ds) h) f.1)

routines_are : (p : ProgramTree) → (resolve_program p).routines ≡ routines_of (file_of p) p.directives
unfolding resolve_program resolve_with
routines_are p = refl

module _ (accepted_programs : AcceptedPrograms) (code_is_short : CodeIsShort) (version : Version) (source : List ℕ)
    (p : ProgramTree) (tree : IsTreeOf source p) (lawful : program_breaches p ≡ []) where
  abbrev q : ProgramOf
  q = resolve_program p

  abbrev sizes : Sizes
  sizes = sizes_of q

  -- what the limit of weight accepts, that of length accepts
  by_length : (by : Limit) → limits_by by version p ≡ None → tree_length_fault version p ≡ None
  by_length limit.Length sized = sized
  by_length limit.Weight sized =
      let tests = weight_passed version q p.weight (heavy_place p) sized in
      let code = (code_is_short (lexemes_of tree.tokens) p tree.parsed (file_of p) sizes).all in
      let same : routines_size sizes q.routines ≡ routines_size sizes (routines_of (file_of p) p.directives) =
      ap (routines_size sizes) (routines_are p) in
      let light : routines_size sizes q.routines ≤ greatest_weight version = omega (arith, same, code, tests.1) in
      none_by_length version q p.weight (heavy_place p) sized
      (stories_are_short version q (accepted_programs p lawful) tests.0 light)

  short : heavy_place p ≡ None → All (IsShortRoutine sizes) q.routines
  short none =
      all_short sizes q.routines
      (subst (All (λ (r : RoutineOf). routine_size sizes r + 7 ≤ greatest_routine_weight)) (sym (routines_are p))
      (all_light (file_of p) sizes p.directives
      (code_is_short (lexemes_of tree.tokens) p tree.parsed (file_of p) sizes).each none))

  pub is_story : (by : Limit) → limits_by by version p ≡ None → All (λ b. b < 256) (story_of version q)
      → IsStory version q
  is_story by sized bytes =
      let none = none_measured (nat_lt greatest_word (routines_place q)) (heavy_place p)
      (nat_lt (greatest_length version) (length (story_of version q))) (by_length by sized) in
      record {
        accepted = accepted_programs p lawful;
        short = short none.1;
        placed = ltb-false greatest_word (routines_place q) none.0;
        within = ltb-false (greatest_length version) (length (story_of version q)) none.2;
        bytes = bytes;
      }
