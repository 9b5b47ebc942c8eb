-- Tokens put before an outcome.
use Rattle.std.proofs.Common.{◌⊎◌, inl, inr, ◌∙◌, ◌≡◌, List, [], ◌++◌, Result, Ok, Err, refl, ap, sym, append_assoc}
use Rattle.syntax_lexer.specs.declared.fault.PlacedFault.{PlacedFault}
use Rattle.syntax_lexer.specs.FaultNumbers.{no_memory}
use Rattle.syntax_lexer.specs.Placed.{nowhere}
use Rattle.syntax_lexer.specs.Token.{Lexeme}
use Rattle.derive_tokens.specs.Tokens.{Outcome}
use Rattle.derive_expressions.specs.Calls.{after_tokens, put_all}
use Rattle.derive_expressions.specs.Views.{PutsAll}

pub after_both : (ts us : List Lexeme) (outcome : Outcome)
    → after_tokens ts (after_tokens us outcome) ≡ after_tokens (ts ++ us) outcome
after_both ts us (Ok vs) = ap Ok (sym (append_assoc ts us vs))
after_both ts us (Err fault) = refl

-- the tokens of one are put
pub put_on : (ts new : List Lexeme) (one others : Outcome) → after_tokens ts one ≡ Ok new
    → after_tokens ts (put_all one others) ≡ after_tokens new others
put_on ts new (Ok us) others e = after_both ts us others ∙ ap (λ (o : Outcome). put_all o others) e
put_on ts new (Err fault) others e = absurd cc

-- where one token has a fault, or memory is refused
pub put_stop : (fault : PlacedFault) (ts : List Lexeme) (one others whole : Outcome)
    → after_tokens ts (put_all one others) ≡ whole → (fault ≡ nowhere no_memory) ⊎ (one ≡ Err fault)
    → (fault ≡ nowhere no_memory) ⊎ (whole ≡ Err fault)
put_stop fault ts one others whole e (inl h) = inl h
put_stop fault ts one others whole e (inr h) =
    inr (sym e ∙ ap (λ (o : Outcome). after_tokens ts (put_all o others)) h)

-- none are put before
pub after_none : (outcome : Outcome) → after_tokens [] outcome ≡ outcome
after_none (Ok us) = refl
after_none (Err fault) = refl

-- tokens are put before those that are wanted
pub puts_after : (result : Result (Unit {0}) PlacedFault) (old middle new us : List Lexeme) (wanted : Outcome)
    → middle ≡ old ++ us → PutsAll result middle new wanted → PutsAll result old new (after_tokens us wanted)
puts_after (Ok u) old middle new us wanted e h =
    after_both old us wanted ∙ ap (λ (ts : List Lexeme). after_tokens ts wanted) (sym e) ∙ h
puts_after (Err fault) old middle new us wanted e (inl h) = inl h
puts_after (Err fault) old middle new us wanted e (inr h) = inr (ap (after_tokens us) h)
