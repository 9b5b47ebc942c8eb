-- A source that the limit of weight accepts is accepted by that of length, with the same bytes.
use Rattle.std.proofs.Common.{◌≡◌, ◌⊎◌, inl, inr, ℕ, ◌<◌, ◌≤◌, List, [], Some, None, Result, Ok, Err}
use Rattle.std.proofs.Common.{refl, sym, ap, ◌∙◌, subst, arith}
use Rattle.zcore.specs.declared.header.Version.{Version}
use Rattle.syntax_lexer.specs.declared.fault.SourceFault.{SourceFault}
use Rattle.syntax_lexer.specs.FaultNumbers.{no_memory}
use Rattle.syntax_lexer.specs.Token.{Lexeme}
use Rattle.syntax_lexer.specs.Tokens.{TokenOutcome, Lexes, SourceToken}
use Rattle.syntax.specs.Tree.{ProgramTree}
use Rattle.syntax.specs.Grammar.{IsProgram, program_nesting}
use Rattle.meaning.specs.Resolved.{ProgramOf}
use Rattle.meaning.specs.Sizes.{greatest_weight}
use Rattle.checker_values.specs.Breaches.{IsAmong}
use Rattle.checker.specs.Laws.{AcceptedPrograms}
use Rattle.checker.specs.Programs.{file_of, program_breaches, resolve_program, resolve_with, routines_of}
use Rattle.code.specs.HeldProgram.{sizes_of}
use Rattle.code.specs.Sizes.{routines_size}
use Rattle.story.specs.CodeSizes.{CodeIsShort}
use Rattle.story_file.specs.Layout.{story_of}
use Rattle.story.specs.Compiled.{CompilesBy}
use Rattle.story.specs.FaultPlaces.{heavy_place}
use Rattle.story.specs.Large.{tree_length_fault}
use Rattle.story.specs.Laws.{LightStoriesFit}
use Rattle.story.specs.Refused.{IsTreeOf, RefusesBy, lexemes_of, tree_size_fault}
use Rattle.story.specs.Refused as spec
use Rattle.story.proofs.SizeTests.{weight_passed, none_by_length}
use Rattle.story.proofs.Sizes.{stories_are_short}

routines_are : (p : ProgramTree) → (resolve_program p).routines ≡ routines_of (file_of p) p.directives
unfolding resolve_program resolve_with
routines_are p = refl

-- the story of a source that weighs little is short
fits : AcceptedPrograms → CodeIsShort → (version : Version) (source : List ℕ) (p : ProgramTree) → IsTreeOf source p
    → program_breaches p ≡ [] → tree_size_fault version p ≡ None → tree_length_fault version p ≡ None
fits accepted_programs code_is_short version source p tree lawful sized =
    let q : ProgramOf = resolve_program p in
    let tests = weight_passed version q p.weight (heavy_place p) sized in
    let code = (code_is_short (lexemes_of tree.tokens) p tree.parsed (file_of p) (sizes_of q)).all in
    let same : routines_size (sizes_of q) q.routines ≡ routines_size (sizes_of q) (routines_of (file_of p) p.directives) =
    ap (routines_size (sizes_of q)) (routines_are p) in
    let light : routines_size (sizes_of q) q.routines ≤ greatest_weight version = omega (arith, same, code, tests.1) in
    none_by_length version q p.weight (heavy_place p) sized
    (stories_are_short version q (accepted_programs p lawful) tests.0 light)

module _ (one_outcome : (bytes : List ℕ) (o q : TokenOutcome) → Lexes 0 1 bytes o → Lexes 0 1 bytes q → o ≡ q)
    (one_tree : (ts : List Lexeme) (a b : ProgramTree) → IsProgram ts a → IsProgram ts b → a ≡ b)
    (source : List ℕ) (p : ProgramTree) (tree : IsTreeOf source p) where
  same_tokens : (tokens : List SourceToken) → Lexes 0 1 source (Ok tokens) → tokens ≡ tree.tokens
  same_tokens tokens lexed =
      let one : TokenOutcome = Ok tokens in
      let other : TokenOutcome = Ok tree.tokens in
      let same : one ≡ other = one_outcome source one other lexed tree.lexed in
      cc

  same_tree : (q : ProgramTree) → IsTreeOf source q → q ≡ p
  same_tree q other =
      one_tree (lexemes_of tree.tokens) q p
      (subst (λ ts. IsProgram (lexemes_of ts) q) (same_tokens other.tokens other.lexed) other.parsed) tree.parsed

  -- a source of which this is the tree is refused for want of memory alone
  refused : (version : Version) → program_breaches p ≡ [] → tree_length_fault version p ≡ None → (f : SourceFault)
      → RefusesBy tree_length_fault version source f → f ≡ no_memory
  refused version lawful sized f (spec.no_memory is) = is
  refused version lawful sized f (spec.in_tokens placed lexed is) =
      let one : TokenOutcome = Err placed in
      let other : TokenOutcome = Ok tree.tokens in
      let same : one ≡ other = one_outcome source one other lexed tree.lexed in
      absurd cc
  refused version lawful sized f (spec.not_in_grammar tokens lexed none place number) =
      absurd (none p (subst (λ ts. IsProgram (lexemes_of ts) p) (sym (same_tokens tokens lexed)) tree.parsed))
  refused version lawful sized f (spec.too_deep tokens lexed deep place number) =
      let deeper : 100 < program_nesting p =
      deep p (subst (λ ts. IsProgram (lexemes_of ts) p) (sym (same_tokens tokens lexed)) tree.parsed) in
      absurd (omega (arith, deeper, tree.nested))
  refused version lawful sized f (spec.rule_broken q other b among first number line) =
      let none : program_breaches q ≡ [] = ap program_breaches (same_tree q other) ∙ lawful in
      absurd (subst (λ bs. IsAmong b bs) none among)
  refused version lawful sized f (spec.too_large q other none fault) =
      let some : tree_length_fault version p ≡ Some f =
      ap (tree_length_fault version) (sym (same_tree q other)) ∙ fault in
      let both : None ≡ Some f = sym sized ∙ some in
      absurd cc

  answers : (version : Version) (bytes : List ℕ) → bytes ≡ story_of version (resolve_program p)
      → program_breaches p ≡ [] → tree_length_fault version p ≡ None → (result : Result (List ℕ) SourceFault)
      → CompilesBy tree_length_fault version source result → (result ≡ Ok bytes) ⊎ (result ≡ Err no_memory)
  answers version bytes laid lawful sized (Ok other) h =
      inl (ap Ok (h.laid_out ∙ ap (λ q. story_of version (resolve_program q))
      (same_tree h.playable.tree h.playable.is_tree) ∙ sym laid))
  answers version bytes laid lawful sized (Err f) h = inr (ap Err (refused version lawful sized f h))

pub light_stories_fit : AcceptedPrograms → CodeIsShort
    → ((bytes : List ℕ) (o q : TokenOutcome) → Lexes 0 1 bytes o → Lexes 0 1 bytes q → o ≡ q)
    → ((ts : List Lexeme) (a b : ProgramTree) → IsProgram ts a → IsProgram ts b → a ≡ b) → LightStoriesFit
light_stories_fit accepted_programs code_is_short one_outcome one_tree version source bytes h =
    let play = h.playable in
    let sized = fits accepted_programs code_is_short version source play.tree play.is_tree play.lawful play.fits in (
      record {
        playable = record {
          tree = play.tree;
          is_tree = play.is_tree;
          lawful = play.lawful;
          fits = sized;
          of_version = play.of_version;
          reads = play.reads;
          plays = play.plays;
        };
        laid_out = h.laid_out;
        dictionary = h.dictionary;
      },
      answers one_outcome one_tree source play.tree play.is_tree version bytes h.laid_out play.lawful sized,
    )
