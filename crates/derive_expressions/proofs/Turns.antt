-- Calls, one token more.
use Rattle.std.proofs.Common.{◌⊎◌, ◌≡◌, ◌+◌, ◌<◌, ◌∙◌, ℕ, List, Ok, Err, length, get_or, drop, subst, sym}
use Rattle.std.proofs.lemmas.List.{at_drop_more}
use Rattle.syntax_lexer.specs.declared.fault.PlacedFault.{PlacedFault}
use Rattle.syntax_lexer.specs.FaultNumbers.{no_memory}
use Rattle.syntax_lexer.specs.Placed.{nowhere}
use Rattle.syntax_lexer.specs.Token.{Lexeme}
use Rattle.derive_tokens.specs.declared.piece.Piece.{Piece}
use Rattle.derive_tokens.specs.Pieces.{derived, derived_all}
use Rattle.derive_tokens.specs.Tokens.{Outcome}
use Rattle.derive_statements.specs.FileNames.{FileNames}
use Rattle.derive_expressions.specs.Calls.{after_tokens, called_from, called_now, put_all}
use Rattle.derive_expressions.specs.Roles.{Calling, calling_after}
use Rattle.derive_expressions.proofs.Outcomes.{put_on, put_stop}

-- the tokens after the one at a place, which are these
abbrev pub later : FileNames → List (List ℕ) → Calling → List Piece → List Piece → ℕ → Piece → Outcome
later names messages c pieces rest at d =
    called_from names messages (calling_after names c (derived (get_or pieces at d)) (derived_all rest))
    (derived_all (drop (at + 1) pieces))

abbrev pub called_at : FileNames → List (List ℕ) → Calling → List Piece → List Piece → ℕ → Piece → Outcome
called_at names messages c pieces rest at d =
    called_now names messages c (derived (get_or pieces at d)) (derived_all rest)

one : (names : FileNames) (messages : List (List ℕ)) (c : Calling) (pieces rest : List Piece) (at : ℕ) (d : Piece)
    (ts : List Lexeme) (whole : Outcome) → at < length pieces
    → after_tokens ts (called_from names messages c (derived_all (drop at pieces))) ≡ whole → rest ≡ drop (at + 1) pieces
    → after_tokens ts (put_all (called_at names messages c pieces rest at d) (later names messages c pieces rest at d)) ≡ whole
one names messages c pieces rest at d ts whole lt e after =
    let P : List Piece → Type 0 =
    λ xs. after_tokens ts (put_all (called_at names messages c pieces xs at d) (later names messages c pieces xs at d)) ≡ whole in
    subst P (sym after)
    (sym (at_drop_more (λ (xs : List Piece). after_tokens ts (called_from names messages c (derived_all xs))) pieces at d lt)
    ∙ e)

pub call_on : (names : FileNames) (messages : List (List ℕ)) (c : Calling) (pieces rest : List Piece) (at : ℕ) (d : Piece)
    (ts new : List Lexeme) (whole : Outcome) → at < length pieces
    → after_tokens ts (called_from names messages c (derived_all (drop at pieces))) ≡ whole → rest ≡ drop (at + 1) pieces
    → after_tokens ts (called_at names messages c pieces rest at d) ≡ Ok new
    → after_tokens new (later names messages c pieces rest at d) ≡ whole
call_on names messages c pieces rest at d ts new whole lt e after h =
    sym (put_on ts new (called_at names messages c pieces rest at d) (later names messages c pieces rest at d) h)
    ∙ one names messages c pieces rest at d ts whole lt e after

pub call_stop : (names : FileNames) (messages : List (List ℕ)) (c : Calling) (pieces rest : List Piece) (at : ℕ) (d : Piece)
    (ts : List Lexeme) (fault : PlacedFault) (whole : Outcome) → at < length pieces
    → after_tokens ts (called_from names messages c (derived_all (drop at pieces))) ≡ whole → rest ≡ drop (at + 1) pieces
    → (fault ≡ nowhere no_memory) ⊎ (called_at names messages c pieces rest at d ≡ Err fault)
    → (fault ≡ nowhere no_memory) ⊎ (whole ≡ Err fault)
call_stop names messages c pieces rest at d ts fault whole lt e after h =
    put_stop fault ts (called_at names messages c pieces rest at d) (later names messages c pieces rest at d) whole
    (one names messages c pieces rest at d ts whole lt e after) h
