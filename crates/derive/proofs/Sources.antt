-- What a source stands for, by what its tokens stand for.
use Rattle.std.proofs.Common.{◌⊎◌, inl, inr, ◌≡◌, ◌∙◌, ℕ, List, [], ◌∷◌, map, Result, Ok, Err, refl, sym, ap, subst}
use Rattle.std.specs.Global.{Vec}
use Rattle.syntax_lexer.specs.declared.fault.PlacedFault.{PlacedFault}
use Rattle.syntax_lexer.specs.declared.token.Token.{Token}
use Rattle.syntax_lexer.specs.FaultNumbers.{no_memory}
use Rattle.syntax_lexer.specs.Placed.{nowhere}
use Rattle.syntax_lexer.specs.Results.{source_tokens}
use Rattle.syntax_lexer.specs.Token.{Lexeme, lexeme, lexemes}
use Rattle.syntax_lexer.specs.Tokens.{Lexes}
use Rattle.derive_joined.specs.Joined.{joined}
use Rattle.derive_joined.specs.Origin.{fault_in}
use Rattle.derive.specs.Extended.{DerivesJoined, Extends, lexeme_in, placed_in}
use Rattle.derive.specs.Held.{GivesBytes, MeetsDerived}
use Rattle.derive.specs.Passes.{Derived, passed}

same_lexemes : (tokens : List Token) → lexemes tokens ≡ map lexeme_in (source_tokens tokens)
same_lexemes [] = refl
same_lexemes (t ∷ ts) = ap (λ (us : List Lexeme). lexeme t ∷ us) (same_lexemes ts)

-- tokens that are passed on
by_tokens : (text : List ℕ) (tokens : List Token) (derived : Derived) → Lexes 0 1 text (Ok (source_tokens tokens))
    → passed (lexemes tokens) ≡ derived → DerivesJoined text derived
by_tokens text tokens derived lexed e = record {
  outcome = Ok (source_tokens tokens);
  lexes = lexed;
  derives = sym e ∙ ap passed (same_lexemes tokens);
}

pub derives_joined : (text : List ℕ) (tokens : List Token) (result : Result (Vec ℕ) PlacedFault)
    → Lexes 0 1 text (Ok (source_tokens tokens)) → GivesBytes result (passed (lexemes tokens))
    → MeetsDerived result (DerivesJoined text)
derives_joined text tokens (Ok bytes) lexed e = by_tokens text tokens (Ok bytes.items) lexed e
derives_joined text tokens (Err fault) lexed (inl e) = inl e
derives_joined text tokens (Err fault) lexed (inr e) = inr (by_tokens text tokens (Err fault) lexed e)

pub refuses_joined : (text : List ℕ) (fault : PlacedFault) → (fault ≡ nowhere no_memory) ⊎ Lexes 0 1 text (Err fault)
    → (fault ≡ nowhere no_memory) ⊎ DerivesJoined text (Err fault)
refuses_joined text fault (inl e) = inl e
refuses_joined text fault (inr lexed) = inr (record { outcome = Err fault; lexes = lexed; derives = refl })

-- what is derived of the joined source, at its place in the source that was written
at_place : (source text : List ℕ) (derived : Derived) → text ≡ joined source → DerivesJoined text derived
    → Extends source (placed_in source derived)
at_place source text derived e d = record {
  outcome = d.outcome;
  lexes = subst (λ (bytes : List ℕ). Lexes 0 1 bytes d.outcome) e d.lexes;
  derives = ap (placed_in source) d.derives;
}

pub extends_source : (source text : List ℕ) (bytes : List ℕ) → text ≡ joined source → DerivesJoined text (Ok bytes)
    → Extends source (Ok bytes)
extends_source source text bytes e d = at_place source text (Ok bytes) e d

pub refuses_source : (source text : List ℕ) (fault placed : PlacedFault) → text ≡ joined source
    → placed ≡ fault_in source fault → (fault ≡ nowhere no_memory) ⊎ DerivesJoined text (Err fault)
    → (placed ≡ nowhere no_memory) ⊎ Extends source (Err placed)
refuses_source source text fault placed e p (inl h) = inl (p ∙ ap (fault_in source) h)
refuses_source source text fault placed e p (inr d) =
    inr (subst (λ (x : PlacedFault). Extends source (Err x)) (sym p) (at_place source text (Err fault) e d))
