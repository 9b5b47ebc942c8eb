-- Tokens put before an outcome.
use Rattle.std.proofs.Common.{◌⊎◌, inl, inr, Result, ◌∙◌, ◌≡◌, List, [], ◌∷◌, ◌++◌, Ok, Err, refl, ap, sym, append_assoc}
use Rattle.syntax_lexer.specs.declared.fault.PlacedFault.{PlacedFault}
use Rattle.syntax_lexer.specs.FaultNumbers.{no_memory}
use Rattle.syntax_lexer.specs.Placed.{nowhere}
use Rattle.syntax_lexer.specs.Token.{Lexeme}
use Rattle.derive_tokens.specs.Tokens.{Outcome}
use Rattle.derive_values.specs.Values.{put_first}

abbrev pub put_all : List Lexeme → Outcome → Outcome
put_all ts (Ok us) = Ok (ts ++ us)
put_all ts (Err fault) = Err fault

pub put_on : (ts : List Lexeme) (t : Lexeme) (outcome : Outcome)
    → put_all ts (put_first (Ok t) outcome) ≡ put_all (ts ++ t ∷ []) outcome
put_on ts t (Ok us) = ap Ok (sym (append_assoc ts (t ∷ []) us))
put_on ts t (Err fault) = refl

-- where one token has a fault, or memory is refused
pub put_stop : (fault : PlacedFault) (ts : List Lexeme) (one : Result Lexeme PlacedFault) (others whole : Outcome)
    → put_all ts (put_first one others) ≡ whole → (fault ≡ nowhere no_memory) ⊎ (one ≡ Err fault)
    → (fault ≡ nowhere no_memory) ⊎ (whole ≡ Err fault)
put_stop fault ts one others whole e (inl h) = inl h
put_stop fault ts one others whole e (inr h) =
    inr (sym e ∙ ap (λ (o : Result Lexeme PlacedFault). put_all ts (put_first o others)) h)

-- none are put before
pub put_none : (outcome : Outcome) → put_all [] outcome ≡ outcome
put_none (Ok us) = refl
put_none (Err fault) = refl
