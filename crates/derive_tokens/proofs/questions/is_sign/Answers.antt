use Rattle.std.proofs.Common.{◌≡◌, sym, ap, ◌∙◌}
use Rattle.syntax_lexer.specs.declared.token.Kind.TheVariants as kinds
use Rattle.derive_tokens.specs.declared.piece.PieceKind.TheVariants as pieces
use Rattle.derive_tokens.specs.Pieces.{derived_of}
use Rattle.derive_tokens.specs.Tokens as spec
use Rattle.derive_tokens.proofs.Spellings.{one_sign}
use Rattle.derive_tokens.proofs.questions.is_sign.Goals as goal

pub returns-in-Read-Sign : goal.returns-in-Read-Sign
returns-in-Read-Sign c =
    let read : c.in-Read-Sign.field-0 ≡ kinds.Sign c.in-Read-Sign.found =
    rw c.in-Read-Sign.is at c.in-Read-Sign.field-0-is in
    let kind = c.in-Read-Sign.is ∙ ap pieces.Read read in
    c.eq.ensures ∙ one_sign c.in-Read-Sign.found c.args.sign
    ∙ sym (ap (λ k. spec.is_sign c.args.sign (derived_of k c.args.piece.position)) kind)
