-- What a source is compiled to, from what each part answers.
use Rattle.std.proofs.Common.{◌≡◌, ◌⊎◌, inl, inr, ℕ, ◌≤◌, ◌<◌, List, [], ◌∷◌, length, Some, None, Result, Ok, Err}
use Rattle.std.proofs.Common.{ap, ◌∙◌, refl, subst, sym}
use Rattle.std.specs.Prelude.{◌++◌}
use Rattle.std.specs.List.{All}
use Rattle.std.specs.Result.{IsErr, IsErrAnd}
use Rattle.zcore.specs.declared.header.Version.{Version}
use Rattle.zcore.specs.Header.{IsOfVersion, scale_of, Reads}
use Rattle.zcore.specs.declared.header.Header.{Header}
use Rattle.syntax_lexer.specs.declared.fault.SourceFault.{SourceFault}
use Rattle.syntax_lexer.specs.declared.fault.PlacedFault.{PlacedFault}
use Rattle.syntax_lexer.specs.declared.token.Token.{Token}
use Rattle.syntax_lexer.specs.Token.{lexemes}
use Rattle.syntax_lexer.specs.Tokens.{Lexes}
use Rattle.syntax_lexer.specs.Placed.{nowhere, unplaced}
use Rattle.syntax_lexer.specs.Results.{source_tokens}
use Rattle.syntax_lexer.specs.FaultNumbers.{no_memory}
use Rattle.syntax_lexer.specs.Printable.{PrintableTokens}
use Rattle.syntax.specs.Tree.{ProgramTree}
use Rattle.syntax.specs.Grammar.{IsProgram, program_nesting}
use Rattle.syntax.specs.Places.{IsFirstUnfit, IsFirstDeep}
use Rattle.syntax.specs.Laws.{PrintableTrees}
use Rattle.meaning.specs.Accepted.{IsAccepted}
use Rattle.meaning.specs.Printable.{HasPrintableTexts}
use Rattle.meaning.specs.Places.{routines_place}
use Rattle.meaning.specs.Views.{CheckedProgram, program_of}
use Rattle.meaning.specs.CheckedSizes.{checked_size_fault}
use Rattle.checker_values.specs.declared.breach.Breach.{Breach}
use Rattle.checker_values.specs.Breaches.{IsAmong, IsFirst}
use Rattle.checker.specs.Programs.{program_breaches}
use Rattle.checker.specs.Checked.{IsCheckedOf}
use Rattle.checker.specs.Laws.{AcceptedPrograms, PrintablePrograms}
use Rattle.code.specs.HeldProgram.{sizes_of}
use Rattle.code.specs.Laws.{CodePlays}
use Rattle.meaning.specs.Plays.{Plays}
use Rattle.story.specs.CodeSizes.{SmallSourcesHaveSmallCode}
use Rattle.story.proofs.SizesOfChecked.{small_routines}
use Rattle.story_file.specs.Layout.{addresses_in, greatest_length, story_of}
use Rattle.story.specs.declared.sized.Limit.{Limit}
use Rattle.story.specs.Compiled.{IsStoryOfBy, CompilesBy, NumbersKeys}
use Rattle.story.specs.Large.{checked_fault_by, limits_by}
use Rattle.story.specs.Refused.{IsTreeOf, Limits, RefusesBy, lexemes_of}
use Rattle.story.specs.Refused as spec
use Rattle.story.specs.Laws.{IsStory, StoriesHold}
use Rattle.story.proofs.Faults.{faults_by, placed_of}
use Rattle.story.proofs.SizeTests.{parts_fit}
use Rattle.story.proofs.Sizes.{all_short, stories_are_short}
use Rattle.story.proofs.Numbered.{keys_numbered}
use Rattle.story.proofs.Reading.{version_told}

-- Faults

pub answered : (limits : Limits) (version : Version) (source : List ℕ) (r : Result (List ℕ) PlacedFault)
    (f : PlacedFault) → IsErr r × IsErrAnd r (λ e. e ≡ f) → RefusesBy limits version source f.fault
    → CompilesBy limits version source (unplaced r)
answered limits version source (Ok bytes) f h refused = absurd h.1
answered limits version source (Err e) f h refused =
    subst (λ (x : PlacedFault). RefusesBy limits version source x.fault) (sym h.1) refused

pub unlexed : (source : List ℕ) (limits : Limits) (version : Version) (f : PlacedFault)
    → (f ≡ nowhere no_memory) ⊎ Lexes 0 1 source (Err f) → RefusesBy limits version source f.fault
unlexed source limits version f answer = elim answer [
  | inl refused ↦ spec.no_memory (ap (λ (x : PlacedFault). x.fault) refused)
  | inr lexed ↦ spec.in_tokens f lexed refl
]

-- Trees

pub same_lexemes : (ts : List Token) → lexemes_of (source_tokens ts) ≡ lexemes ts
same_lexemes [] = refl
same_lexemes (t ∷ ts) = ap (λ ls. (lexemes (t ∷ [])) ++ ls) (same_lexemes ts)

module _ (source : List ℕ) (ts : List Token) (lexed : Lexes 0 1 source (Ok (source_tokens ts))) where
  program_of_lexemes : (p : ProgramTree) → IsProgram (lexemes ts) p → IsProgram (lexemes_of (source_tokens ts)) p
  program_of_lexemes p parsed = subst (λ ls. IsProgram ls p) (sym (same_lexemes ts)) parsed

  program_of_tokens : (p : ProgramTree) → IsProgram (lexemes_of (source_tokens ts)) p → IsProgram (lexemes ts) p
  program_of_tokens p parsed = subst (λ ls. IsProgram ls p) (same_lexemes ts) parsed

  pub is_tree : (p : ProgramTree) → IsProgram (lexemes ts) p → program_nesting p ≤ 100 → IsTreeOf source p
  is_tree p parsed nested =
      record { tokens = source_tokens ts; lexed = lexed; parsed = program_of_lexemes p parsed; nested = nested }

  -- what is not parsed
  pub unparsed : (limits : Limits) (version : Version) (f : SourceFault)
      → (f.number ≡ 10 → ((p : ProgramTree) → IsProgram (lexemes ts) p → ⊥))
      → (f.number ≡ 10 → IsFirstUnfit 100 (lexemes ts) (λ place. place.line ≡ f.line))
      → (f.number ≡ 5 → ((p : ProgramTree) → IsProgram (lexemes ts) p → 100 < program_nesting p))
      → (f.number ≡ 5 → IsFirstDeep 100 (lexemes ts) (λ place. place.line ≡ f.line))
      → (f.number ≡ 5) ⊎ (f.number ≡ 10) ⊎ (f ≡ no_memory)
      → RefusesBy limits version source f
  unparsed limits version f grammar place deep deep_place number = elim number [
    | inl five ↦ spec.too_deep (source_tokens ts) lexed (λ p parsed. deep five p (program_of_tokens p parsed))
        (subst (λ ls. IsFirstDeep 100 ls (λ place. place.line ≡ f.line)) (sym (same_lexemes ts)) (deep_place five)) five
    | inr others ↦ elim others [
      | inl ten ↦ spec.not_in_grammar (source_tokens ts) lexed
          (λ p parsed. grammar ten p (program_of_tokens p parsed))
          (subst (λ ls. IsFirstUnfit 100 ls (λ place. place.line ≡ f.line)) (sym (same_lexemes ts)) (place ten)) ten
      | inr refused ↦ spec.no_memory refused
    ]
  ]

-- Rules and sizes

pub unchecked : (limits : Limits) (version : Version) (source : List ℕ) (p : ProgramTree) (f : SourceFault) → IsTreeOf source p
    → (f ≡ no_memory) ⊎ ((b : Breach) × IsAmong b (program_breaches p) × IsFirst b (program_breaches p)
    × (f.number ≡ b.number) × (f.line ≡ b.position.line))
    → RefusesBy limits version source f
unchecked limits version source p f tree answer = elim answer [
  | inl refused ↦ spec.no_memory refused
  | inr broken ↦ spec.rule_broken p tree broken.0 broken.1 broken.2 broken.3 broken.4
]

pub too_large : (by : Limit) (version : Version) (source : List ℕ) (p : ProgramTree) (c : CheckedProgram)
    (f : SourceFault) → IsTreeOf source p → program_breaches p ≡ [] → IsCheckedOf p c
    → checked_fault_by by version c ≡ Some f → RefusesBy (limits_by by) version source f
too_large by version source p c f tree lawful is e =
    spec.too_large p tree lawful (sym (faults_by by version p c is) ∙ e)

-- Stories

module _ (accepted_programs : AcceptedPrograms) (printable_tokens : PrintableTokens)
    (printable_trees : PrintableTrees)
    (printable_programs : PrintablePrograms)
    (source : List ℕ) (ts : List Token) (p : ProgramTree) (c : CheckedProgram)
    (lexed : Lexes 0 1 source (Ok (source_tokens ts))) (parsed : IsProgram (lexemes ts) p)
    (lawful : program_breaches p
    ≡ []) (is : IsCheckedOf p c) where
  pub accepted : IsAccepted (program_of c)
  accepted = subst IsAccepted (sym is.program) (accepted_programs p lawful)

  pub printable : HasPrintableTexts (program_of c)
  printable = subst HasPrintableTexts (sym is.program)
      (printable_programs p (printable_trees (lexemes ts) p parsed (printable_tokens source ts lexed)))

  pub light : SmallSourcesHaveSmallCode → (version : Version) → checked_size_fault c version ≡ None
      → length (story_of version (program_of c)) ≤ greatest_length version
  light small_sources version sized =
      stories_are_short version (program_of c) accepted (placed_of (routines_place (program_of c)) _ _ sized)
      (small_sources (lexemes ts) p c version parsed is sized).all

  pub compiled : StoriesHold → CodePlays → (by : Limit) (version : Version) → checked_fault_by by version c ≡ None
      → length (story_of version (program_of c)) ≤ greatest_length version
      → (bytes : List ℕ) → All (λ b. b < 256) bytes → bytes ≡ story_of version (program_of c)
      → program_nesting p ≤ 100 → IsStoryOfBy (limits_by by) version source bytes
  compiled stories_hold code_plays by version sized within bytes are_bytes laid nested =
      let q = program_of c in
      let parts = parts_fit version c by sized in
      let story : IsStory version q = record {
        accepted = accepted;
        short = all_short (sizes_of q) q.routines (small_routines (lexemes ts) p c parsed is parts.1);
        placed = parts.0;
        within = within;
        bytes = subst (All (λ b. b < 256)) laid are_bytes;
      } in
      let held = stories_hold version q story in
      let plays : (full : ℕ) (lines : List (List ℕ)) → Plays (story_of version q) q full lines =
      code_plays (story_of version q) (addresses_in (scale_of version) q) q accepted printable held.1 in
      record {
        playable = record {
          tree = p;
          is_tree = is_tree source ts lexed p parsed nested;
          lawful = lawful;
          fits = sym (faults_by by version p c is) ∙ sized;
          of_version = subst (λ b. IsOfVersion b version) (sym laid) (version_told version q);
          reads = subst (λ b. (header : Header) × Reads b (Ok header)) (sym laid) held.0;
          plays = λ full lines. subst (λ r. Plays bytes r full lines) is.program
              (subst (λ b. Plays b q full lines) (sym laid) (plays full lines));
        };
        laid_out = laid ∙ ap (story_of version) is.program;
        dictionary = subst (λ r. NumbersKeys bytes r) is.program
            (subst (λ b. NumbersKeys b q) (sym laid)
            (keys_numbered (story_of version q) q (addresses_in (scale_of version) q) parts.0 held.1));
      }
