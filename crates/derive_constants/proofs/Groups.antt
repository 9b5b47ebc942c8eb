-- A token after a parenthesis that is open.
use Rattle.std.proofs.Common.{◌≡◌, ◌≤◌, ◌+◌, ℕ, List, [], ◌∷◌, ◌++◌, ap, sym, subst, ◌∙◌}
use Rattle.std.proofs.lemmas.List.{map-append}
use Rattle.syntax_lexer.specs.declared.token.Token.{Token}
use Rattle.syntax_lexer.specs.Token.{Lexeme, lexeme, lexemes}
use Rattle.derive_tokens.specs.declared.piece.Piece.{Piece}
use Rattle.derive_tokens.specs.Pieces.{derived_all}
use Rattle.derive_constants.specs.declared.group.Group.{Group}
use Rattle.derive_constants.specs.declared.group.Waiting.{Waiting}
use Rattle.derive_constants.specs.declared.group.Waiting.TheVariants as wt
use Rattle.derive_constants.specs.Entries.{Turn, in_group, turn}
use Rattle.derive_constants.specs.Held.{Takes, group_in, group_of, opened_in}
use Rattle.derive_constants.specs.Values.{Known}

-- the token is held, and then taken as the last of what is held
pub take_opened : (old new : List Piece) (before held after : Group) (known : Known) (depth : ℕ) (t : Token)
    → before.waiting ≡ wt.Opened depth → held.waiting ≡ before.waiting
    → held.held.items ≡ before.held.items ++ t ∷ []
    → Takes old new held after (in_group known depth (lexemes held.held.items) (lexeme t))
    → Takes old new before after (turn known (group_of before) (lexeme t))
take_opened old new before held after known depth t w p h k =
    let same : turn known (group_of before) (lexeme t) ≡ in_group known depth (lexemes held.held.items) (lexeme t) =
    ap (λ (x : Waiting). turn known (group_in x before.held.items) (lexeme t)) w
    ∙ ap (λ (ts : List Lexeme). in_group known depth ts (lexeme t))
    (sym (map-append lexeme before.held.items (t ∷ [])) ∙ ap lexemes (sym h)) in
    let P : Waiting → Type 0 = λ x. opened_in after.waiting ≤ opened_in x + 1 in
    record {
      writes = k.writes ∙ ap (λ (x : Turn). derived_all old ++ x.0) (sym same);
      waits = k.waits ∙ ap (λ (x : Turn). x.1) (sym same);
      opens = subst P p k.opens;
    }
