use Rattle.std.proofs.Common.{◌≡◌, ◌≤◌, ◌∙◌, ℕ, ap, sym, arith, List, Bool, true, length, min, take, if◌then◌else◌}
use Rattle.std.proofs.lemmas.List.{length-take}
use Rattle.std.proofs.lemmas.Bool.{and_from}
use Rattle.syntax_lexer.specs.Token.{Lexeme}
use Rattle.derive_tokens.specs.declared.piece.Piece.{Piece}
use Rattle.derive_tokens.specs.Pieces.{derived_all}
use Rattle.derive_values.specs.Places.{is_at_rest}
use Rattle.derive_expressions.specs.Quiet.{is_operand, most_ahead, quiet_length}
use Rattle.derive_expressions.specs.Roles.{role_now}
use Rattle.derive_expressions.specs.Views.{calling_of}
use Rattle.derive_tokens.proofs.Rows.{derived_take}
use Rattle.derive_expressions.proofs.quiet.quiet_ahead.Goals as goal

within : (n k : ℕ) (ps front : List Piece) → front ≡ take n ps → k ≤ length front → k ≤ length ps
within n k ps front e le =
    let size : length front ≡ min n (length ps) = ap (λ (xs : List Piece). length xs) e ∙ length-take n ps in
    omega (arith, le, size)

pub returns-then-is_operand-clause-value : goal.returns-then-is_operand-clause-value
returns-then-is_operand-clause-value c =
    let calls : Bool = c.args.calls in
    let ts : List Lexeme = take most_ahead (derived_all c.args.pieces.now) in
    let rests : is_at_rest c.args.calling.now.reading.scope ≡ true = sym c.is_at_rest.ensures ∙ c.if-is_at_rest.true in
    let begins : is_operand (role_now (calling_of c.args.calling.now)) ≡ true =
    ap is_operand (sym c.role_now.ensures) ∙ sym c.is_operand.ensures ∙ c.if-is_operand.true in
    c.quiet_length.ensures.value
    ∙ ap (λ (ps : List Piece). quiet_length calls (derived_all ps)) c.front.ensures
    ∙ ap (quiet_length calls) (derived_take c.args.pieces.now most_ahead)
    ∙ sym
    (ap (λ b. if b then quiet_length calls ts else 0)
    (and_from (is_at_rest c.args.calling.now.reading.scope) (is_operand (role_now (calling_of c.args.calling.now))) rests
    begins))

pub returns-then-is_operand-clause-within : goal.returns-then-is_operand-clause-within
returns-then-is_operand-clause-within c =
    within most_ahead c.quiet_length.result c.args.pieces.now c.front.result.now c.front.ensures
    c.quiet_length.ensures.within
