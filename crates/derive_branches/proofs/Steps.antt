-- One token more of a source.
use Rattle.std.proofs.Common.{◌≡◌, ◌⊎◌, inl, inr, ℕ, true, false, None, if◌then◌else◌, ◌+◌, ◌<◌, List, [], ◌∷◌}
use Rattle.std.proofs.Common.{Ok, Err, length, get_or, drop, ap, sym, refl, ◌∙◌}
use Rattle.std.proofs.lemmas.List.{at_drop_more}
use Rattle.syntax_lexer.specs.declared.fault.PlacedFault.{PlacedFault}
use Rattle.syntax_lexer.specs.declared.token.Token.{Token}
use Rattle.syntax_lexer.specs.FaultNumbers.{no_memory}
use Rattle.syntax_lexer.specs.Placed.{nowhere}
use Rattle.syntax_lexer.specs.Token.{Lexeme, lexeme, lexemes}
use Rattle.derive_tokens.specs.Tokens.{Outcome}
use Rattle.derive_branches.specs.declared.branch.Branch.{Branch}
use Rattle.derive_branches.specs.declared.branch.Mode.{Mode}
use Rattle.derive_branches.specs.declared.branch.Mode.TheVariants as m
use Rattle.derive_branches.specs.Branches.{State, Step, at_end, directive_of, directive_or_token, in_mode, is_end}
use Rattle.derive_branches.specs.Branches.{is_kept, is_whole, keeps, outcome, step, steps}

on : (s : State) (ts : List Token) (at : ℕ) (d : Token) (one : Step) (whole : Outcome) → at < length ts
    → step s (lexeme (get_or ts at d)) ≡ one → outcome (steps (Ok s) (lexemes (drop at ts))) ≡ whole
    → outcome (steps one (lexemes (drop (at + 1) ts))) ≡ whole
on s ts at d one whole lt h e =
    ap (λ (o : Step). outcome (steps o (lexemes (drop (at + 1) ts)))) (sym h)
    ∙ sym (at_drop_more (λ (xs : List Token). outcome (steps (Ok s) (lexemes xs))) ts at d lt)
    ∙ e

pub step_on : (s more : State) (ts : List Token) (at : ℕ) (d : Token) (whole : Outcome) → at < length ts
    → step s (lexeme (get_or ts at d)) ≡ Ok more → outcome (steps (Ok s) (lexemes (drop at ts))) ≡ whole
    → outcome (steps (Ok more) (lexemes (drop (at + 1) ts))) ≡ whole
step_on s more ts at d whole lt h e = on s ts at d (Ok more) whole lt h e

-- at a fault, or where memory is refused
pub step_stop : (s : State) (ts : List Token) (at : ℕ) (d : Token) (fault : PlacedFault) (whole : Outcome)
    → at < length ts → outcome (steps (Ok s) (lexemes (drop at ts))) ≡ whole
    → (fault ≡ nowhere no_memory) ⊎ (step s (lexeme (get_or ts at d)) ≡ Err fault)
    → (fault ≡ nowhere no_memory) ⊎ (whole ≡ Err fault)
step_stop s ts at d fault whole lt e (inl h) = inl h
step_stop s ts at d fault whole lt e (inr h) = inr (sym (on s ts at d (Err fault) whole lt h e))

kept_whole : (mode : Mode) (bs : List Branch) (s : State) (t : Lexeme) → is_whole mode bs ≡ true → directive_of t ≡ None
    → s.branches ≡ bs → in_mode mode s t ≡ Ok (keeps s t)
kept_whole m.Tokens [] s t w d e =
    ap (directive_or_token s t) d ∙ ap (λ bs. Ok (if is_kept bs then keeps s t else s)) e
kept_whole m.Tokens (b ∷ bs) s t w d e = absurd (cc)
kept_whole (m.Name wanted) bs s t w d e = absurd (cc)
kept_whole (m.Condition wanted) bs s t w d e = absurd (cc)
kept_whole m.Semicolon bs s t w d e = absurd (cc)

-- a token that is no directive and not the end, where no branch is open
pub plainly : (s : State) (t : Lexeme) → is_whole s.mode s.branches ≡ true → is_end t ≡ false → directive_of t ≡ None
    → step s t ≡ Ok (keeps s t)
plainly s t w e d =
    ap (λ b. if b then at_end s t else in_mode s.mode s t) e ∙ kept_whole s.mode s.branches s t w d refl
