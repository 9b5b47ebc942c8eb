use Rattle.std.proofs.Common.{◌≡◌, sym, ap, ◌∙◌}
use Rattle.syntax_lexer.specs.declared.token.Kind.TheVariants as kinds
use Rattle.derive_tokens.specs.declared.piece.PieceKind.TheVariants as pieces
use Rattle.derive_tokens.specs.Pieces.{derived_of}
use Rattle.derive_tokens.specs.Tokens as spec
use Rattle.derive_tokens.proofs.Spellings.{one_word}
use Rattle.derive_tokens.proofs.questions.is_word.Goals as goal

pub returns-in-Read-Reserved : goal.returns-in-Read-Reserved
returns-in-Read-Reserved c =
    let read : c.in-Read-Reserved.field-0 ≡ kinds.Reserved c.in-Read-Reserved.found =
    rw c.in-Read-Reserved.is at c.in-Read-Reserved.field-0-is in
    let kind = c.in-Read-Reserved.is ∙ ap pieces.Read read in
    c.eq.ensures ∙ one_word c.in-Read-Reserved.found c.args.word
    ∙ sym (ap (λ k. spec.is_word c.args.word (derived_of k c.args.piece.position)) kind)
