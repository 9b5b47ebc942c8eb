-- Why a source has no figures: it is refused, and not as too large.
use Rattle.std.proofs.Common.{◌≡◌, ◌⊎◌, inl, inr, ℕ, ◌<◌, List, [], ◌∷◌, Ok, Err, refl, sym, ap, subst}
use Rattle.std.specs.Prelude.{◌++◌}
use Rattle.zcore.specs.declared.header.Version.{Version}
use Rattle.syntax_lexer.specs.declared.fault.PlacedFault.{PlacedFault}
use Rattle.syntax_lexer.specs.declared.fault.SourceFault.{SourceFault}
use Rattle.syntax_lexer.specs.declared.token.Token.{Token}
use Rattle.syntax_lexer.specs.Token.{lexemes}
use Rattle.syntax_lexer.specs.Tokens.{Lexes}
use Rattle.syntax_lexer.specs.Results.{source_tokens}
use Rattle.syntax_lexer.specs.FaultNumbers.{no_memory}
use Rattle.syntax.specs.Tree.{ProgramTree}
use Rattle.syntax.specs.Grammar.{IsProgram, program_nesting}
use Rattle.syntax.specs.Places.{IsFirstUnfit, IsFirstDeep}
use Rattle.checker_values.specs.declared.breach.Breach.{Breach}
use Rattle.checker_values.specs.Breaches.{IsAmong, IsFirst}
use Rattle.checker.specs.Programs.{program_breaches}
use Rattle.story.specs.Refused.{IsTreeOf, Limits, RefusesBy, lexemes_of}
use Rattle.story.specs.Refused as spec
use Rattle.messages_diagnosis.specs.Measured.{IsNotBySize}

abbrev pub IsRefused : Limits → Version → List ℕ → SourceFault → Type 0
IsRefused limits version source f =
    (because : RefusesBy limits version source f) × IsNotBySize limits version source f because

pub without_memory : (limits : Limits) (version : Version) (source : List ℕ) (f : SourceFault) → f ≡ no_memory
    → IsRefused limits version source f
without_memory limits version source f is = (spec.no_memory is, tt)

pub unlexed : (limits : Limits) (version : Version) (source : List ℕ) (f : SourceFault)
    → (f ≡ no_memory) ⊎ ((placed : PlacedFault) × (placed.fault ≡ f) × Lexes 0 1 source (Err placed))
    → IsRefused limits version source f
unlexed limits version source f answer = elim answer [
  | inl refused ↦ without_memory limits version source f refused
  | inr placed ↦ (spec.in_tokens placed.0 placed.2 placed.1, tt)
]

same_lexemes : (ts : List Token) → lexemes_of (source_tokens ts) ≡ lexemes ts
same_lexemes [] = refl
same_lexemes (t ∷ ts) = ap (λ ls. (lexemes (t ∷ [])) ++ ls) (same_lexemes ts)

module _ (source : List ℕ) (ts : List Token) (lexed : Lexes 0 1 source (Ok (source_tokens ts))) where
  program_of_tokens : (p : ProgramTree) → IsProgram (lexemes_of (source_tokens ts)) p → IsProgram (lexemes ts) p
  program_of_tokens p parsed = subst (λ ls. IsProgram ls p) (same_lexemes ts) parsed

  pub unparsed : (limits : Limits) (version : Version) (f : SourceFault)
      → (f.number ≡ 10 → ((p : ProgramTree) → IsProgram (lexemes ts) p → ⊥))
      → (f.number ≡ 10 → IsFirstUnfit 100 (lexemes ts) (λ place. place.line ≡ f.line))
      → (f.number ≡ 5 → ((p : ProgramTree) → IsProgram (lexemes ts) p → 100 < program_nesting p))
      → (f.number ≡ 5 → IsFirstDeep 100 (lexemes ts) (λ place. place.line ≡ f.line))
      → (f.number ≡ 5) ⊎ (f.number ≡ 10) ⊎ (f ≡ no_memory)
      → IsRefused limits version source f
  unparsed limits version f grammar place deep deep_place number = elim number [
    | inl five ↦ (
      spec.too_deep (source_tokens ts) lexed (λ p parsed. deep five p (program_of_tokens p parsed))
          (subst (λ ls. IsFirstDeep 100 ls (λ place. place.line ≡ f.line)) (sym (same_lexemes ts)) (deep_place five))
          five,
      tt,
    )
    | inr others ↦ elim others [
      | inl ten ↦ (
        spec.not_in_grammar (source_tokens ts) lexed
            (λ p parsed. grammar ten p (program_of_tokens p parsed))
            (subst (λ ls. IsFirstUnfit 100 ls (λ place. place.line ≡ f.line)) (sym (same_lexemes ts)) (place ten)) ten,
        tt,
      )
      | inr refused ↦ without_memory limits version source f refused
    ]
  ]

pub unchecked : (limits : Limits) (version : Version) (source : List ℕ) (p : ProgramTree) (f : SourceFault) → IsTreeOf source p
    → (f ≡ no_memory) ⊎ ((b : Breach) × IsAmong b (program_breaches p) × IsFirst b (program_breaches p)
    × (f.number ≡ b.number) × (f.line ≡ b.position.line))
    → IsRefused limits version source f
unchecked limits version source p f tree answer = elim answer [
  | inl refused ↦ without_memory limits version source f refused
  | inr broken ↦ (spec.rule_broken p tree broken.0 broken.1 broken.2 broken.3 broken.4, tt)
]
