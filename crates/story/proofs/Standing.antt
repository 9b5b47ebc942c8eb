-- Where the fault of a source stands, from what each part answers.
use Rattle.std.proofs.Common.{◌≡◌, ◌⊎◌, inl, inr, ℕ, List, Result, Ok, Err, refl, sym, ap, ◌∙◌, subst}
use Rattle.std.specs.Prelude.{IfErr}
use Rattle.std.specs.Result.{IsErr, IsErrAnd}
use Rattle.syntax_lexer.specs.declared.fault.PlacedFault.{PlacedFault}
use Rattle.syntax_lexer.specs.declared.token.Token.{Token}
use Rattle.syntax_lexer.specs.FaultNumbers.{no_memory}
use Rattle.syntax_lexer.specs.Placed.{nowhere}
use Rattle.syntax_lexer.specs.Results.{source_tokens}
use Rattle.syntax_lexer.specs.Token.{lexemes}
use Rattle.syntax_lexer.specs.Tokens.{Lexes}
use Rattle.syntax.specs.Tree.{ProgramTree}
use Rattle.syntax.specs.Places.{IsFirstUnfit, IsFirstDeep}
use Rattle.meaning.specs.Views.{CheckedProgram}
use Rattle.meaning.specs.CheckedSizes.{IsOfWhole, StandsBySize}
use Rattle.checker.specs.Places.{StandsAtFirst}
use Rattle.checker.specs.Checked.{IsCheckedOf}
use Rattle.checker.specs.Programs.{program_breaches}
use Rattle.story.specs.Refused.{IsTreeOf}
use Rattle.story.specs.FaultPlaces.{StandsAt, Stands}
use Rattle.story.specs.FaultPlaces as spec
use Rattle.story.proofs.Compiling.{same_lexemes}
use Rattle.story.proofs.Faults.{heavy_places}

pub stands_answered : {A : Type 0} (source : List ℕ) (r : Result A PlacedFault) (f : PlacedFault)
    → IsErr r × IsErrAnd r (λ e. e ≡ f) → Stands source f → IfErr r (Stands source)
stands_answered source (Ok x) f h stands = absurd h.1
stands_answered source (Err e) f h stands = subst (Stands source) (sym h.1) stands

pub refused_stands : (source : List ℕ) (f : PlacedFault) → f ≡ nowhere no_memory → Stands source f
refused_stands source f is = subst (Stands source) (sym is) (spec.nowhere (inr (inr refl)) refl)

pub unlexed_stands : (source : List ℕ) (f : PlacedFault) → (f ≡ nowhere no_memory) ⊎ Lexes 0 1 source (Err f)
    → Stands source f
unlexed_stands source f answer = elim answer [
  | inl refused ↦ refused_stands source f refused
  | inr broken ↦ spec.in_tokens broken
]

pub unparsed_stands : (source : List ℕ) (ts : List Token) → Lexes 0 1 source (Ok (source_tokens ts)) → (f : PlacedFault)
    → (f.fault.number ≡ 10 → IsFirstUnfit 100 (lexemes ts) (StandsAt f))
    → (f.fault.number ≡ 5 → IsFirstDeep 100 (lexemes ts) (StandsAt f))
    → (f.fault.number ≡ 5) ⊎ (f.fault.number ≡ 10) ⊎ (f ≡ nowhere no_memory) → Stands source f
unparsed_stands source ts lexed f unfit deep number = elim number [
  | inl five ↦ spec.too_deep (source_tokens ts) lexed
      (subst (λ ls. IsFirstDeep 100 ls (StandsAt f)) (sym (same_lexemes ts)) (deep five)) five
  | inr others ↦ elim others [
    | inl ten ↦ spec.not_in_grammar (source_tokens ts) lexed
        (subst (λ ls. IsFirstUnfit 100 ls (StandsAt f)) (sym (same_lexemes ts)) (unfit ten)) ten
    | inr refused ↦ refused_stands source f refused
  ]
]

pub unchecked_stands : (source : List ℕ) (p : ProgramTree) (f : PlacedFault) → IsTreeOf source p
    → (f ≡ nowhere no_memory) ⊎ StandsAtFirst f (program_breaches p) → Stands source f
unchecked_stands source p f tree answer = elim answer [
  | inl refused ↦ refused_stands source f refused
  | inr broken ↦ spec.rule_broken p tree broken
]

whole_unplaced : (number : ℕ) → IsOfWhole number → spec.IsUnplaced number
whole_unplaced number whole = elim whole [
  | inl tables ↦ inl tables
  | inr story ↦ inr (inl story)
]

pub too_large_stands : (source : List ℕ) (p : ProgramTree) (c : CheckedProgram) (f : PlacedFault) → IsTreeOf source p
    → IsCheckedOf p c → StandsBySize f c → Stands source f
too_large_stands source p c f tree is answer = elim answer [
  | inl whole ↦ spec.nowhere (whole_unplaced f.fault.number whole.0) whole.1
  | inr heavy ↦ spec.routine_too_large p tree heavy.0 (sym (heavy_places p c is) ∙ heavy.1)
      (sym (ap (λ x. x.line) heavy.2), heavy.3) (ap (λ x. x.number) heavy.2)
]
