-- The code of a program is no longer than its source weighs.
use Rattle.std.proofs.Common.{◌≡◌, ◌≤◌, ◌+◌, ◌-◌, ℕ, List, [], ◌∷◌, ◌++◌, arith}
use Rattle.std.specs.List.{All}
use Rattle.std.proofs.lemmas.List.Elements.{All-nil, All-cons}
use Rattle.syntax_lexer.specs.declared.token.Position.{Position}
use Rattle.syntax_lexer.specs.declared.token.Sign.TheVariants as s
use Rattle.syntax_lexer.specs.Token.{Lexeme, name, sign}
use Rattle.syntax_trees.specs.Tree.{NameTree}
use Rattle.syntax_statements.specs.Tree.{StatementTrees}
use Rattle.syntax_statements.specs.Grammar.{IsSs}
use Rattle.syntax_directives.specs.Tree.{RoutineTree, TextTree, DirectiveTree}
use Rattle.syntax_directives.specs.Grammar.{weight_of, IsNames, IsDirective, d_global, d_global_value, d_constant}
use Rattle.syntax_directives.specs.Grammar.{d_array, d_attribute, d_property, d_property_value, d_object, d_routine}
use Rattle.syntax_directives.specs.Grammar.{IsTexts, texts_stop, texts_next}
use Rattle.syntax_directives.proofs.SpelledStatements.{weight_Ss, spelled_Names}
use Rattle.syntax_directives.proofs.Spelled.{weighs}
use Rattle.syntax.specs.Tree.{EntryTree, directives_of, ProgramTree}
use Rattle.syntax.specs.Grammar.{e_directive, e_abbreviate, IsEntries, entries_stop, entries_next, IsProgram, program}
use Rattle.checker_values.specs.Names.{File, seen_from}
use Rattle.checker_statements.specs.Statements.{resolve_statements}
use Rattle.checker.specs.Programs.{resolve_routine, routines_of, routine_trees}
use Rattle.code_items.specs.Statements.{return_true, actions_count, exits_to, actions_items}
use Rattle.code_drafts.specs.Addresses.{Sizes}
use Rattle.code.specs.Sizes.{routine_size, routines_size}
use Rattle.story.specs.CodeSizes.{CodeIsShort, HasShortCode}
use Rattle.story.proofs.Most.{most_append}
use Rattle.story.proofs.SizesOfItems.{code_few}
use Rattle.story.proofs.SizesOfDirectives.{value_weight, values_weight, head_weight, properties_weight}
use Rattle.story.proofs.SizesOfDirectives.{attributes_weight}
use Rattle.story.proofs.SizesOfTrees.{fits_Ss}

-- names and words stand for what a file tells, and the program has these sizes
module _ (file : File) (sizes : Sizes) where
  abbrev pub IsRoutineShort : RoutineTree → Type 0
  IsRoutineShort r = routine_size sizes (resolve_routine file r) + 7 ≤ r.weight

  record AreShort (ts : List Lexeme) (ds : List DirectiveTree) (r : List Lexeme) : Type 0 where
    pub each : All IsRoutineShort (routine_trees ds)
    pub all : routines_size sizes (routines_of file ds) + weight_of r ≤ weight_of ts

  record Weighed (ts : List Lexeme) (routine : RoutineTree) (r : List Lexeme) : Type 0 where
    pub short : IsRoutineShort routine
    pub weight : routine.weight + weight_of r ≡ weight_of ts

  routine_short : {m k r : List Lexeme} {p q o l j : Position} {n : List ℕ} {ns : List NameTree} {xs : StatementTrees}
      → IsNames m ns (sign s.Semicolon o ∷ k) → IsSs k xs (sign s.CloseBracket l ∷ sign s.Semicolon j ∷ r)
      → Weighed (sign s.OpenBracket p ∷ name n q ∷ m)
      (record {
        name = record { text = n; position = q };
        locals = ns;
        body = xs;
        weight = weight_of (sign s.OpenBracket p ∷ name n q ∷ m) - weight_of r;
      }) r
  routine_short {m} {r = r} {ns = ns} {xs = xs} a b =
      let seen = seen_from file ns in
      let actions = resolve_statements seen xs in
      let exits = exits_to (actions_count actions) (actions_count actions) in
      let code = (fits_Ss seen b).within exits 0 in
      let body = weight_Ss b in
      let locals = weighs (spelled_Names a) in
      record {
        short = omega (
          arith,
          code_few sizes (actions_items exits 0 actions ++ return_true ∷ []),
          most_append (actions_items exits 0 actions) (return_true ∷ []),
          code,
          body,
          locals,
        );
        weight = omega (arith, body, locals);
      }

  first_short : {ts m r : List Lexeme} {d : DirectiveTree} {ds : List DirectiveTree} → IsDirective ts d m
      → AreShort m ds r → AreShort ts (d ∷ ds) r
  first_short d_global b = record { each = b.each; all = omega (arith, b.all) }
  first_short (d_global_value k) b = record { each = b.each; all = omega (arith, b.all, value_weight k) }
  first_short (d_constant k) b = record { each = b.each; all = omega (arith, b.all, value_weight k) }
  first_short (d_array t vs n) b = record { each = b.each; all = omega (arith, b.all, values_weight vs) }
  first_short d_attribute b = record { each = b.each; all = omega (arith, b.all) }
  first_short d_property b = record { each = b.each; all = omega (arith, b.all) }
  first_short (d_property_value k) b = record { each = b.each; all = omega (arith, b.all, value_weight k) }
  first_short (d_object h xs ns) b = record {
    each = b.each;
    all = omega (arith, b.all, head_weight h, properties_weight xs, attributes_weight ns);
  }
  first_short {ds = ds} (d_routine {p = p} {q = q} {n = n} ns xs) b =
      let f = routine_short {p = p} {q = q} {n = n} ns xs in
      record {
        each = All-cons IsRoutineShort _ (routine_trees ds) f.short b.each;
        all = omega (arith, b.all, f.short, f.weight);
      }

  texts_weight : {ts r : List Lexeme} {xs : List TextTree} → IsTexts ts xs r → weight_of r ≤ weight_of ts
  texts_weight texts_stop = omega arith
  texts_weight (texts_next a) = omega (arith, texts_weight a)

  are_short : {ts r : List Lexeme} {es : List EntryTree} → IsEntries ts es r → AreShort ts (directives_of es) r
  are_short entries_stop = record { each = All-nil IsRoutineShort; all = omega arith }
  are_short (entries_next (e_directive a) b) = first_short a (are_short b)
  are_short (entries_next (e_abbreviate a some) b) =
      let f = are_short b in
      record { each = f.each; all = omega (arith, f.all, texts_weight a) }

  program_short : {ts : List Lexeme} {p : ProgramTree} → IsProgram ts p → HasShortCode p file sizes
  program_short (program a) = let f = are_short a in record { each = f.each; all = omega (arith, f.all) }

pub code_is_short : CodeIsShort
code_is_short tokens p a file sizes = program_short file sizes a
