use Rattle.std.proofs.Common.{sym, ap, ◌∙◌}
use Rattle.syntax_lexer.specs.declared.token.Sign.TheVariants as s
use Rattle.syntax_trees.specs.Parse.{is_sign}
use Rattle.syntax_trees.specs.Returned.{ahead}
use Rattle.syntax_statements.proofs.Rows.{after_fails, flat_empty, flat_plain}
use Rattle.syntax_statements.proofs.parts.add_flat.Goals as goal

pub returns-then-is_sign : goal.returns-then-is_sign
returns-then-is_sign c = rw
    (flat_empty c.args.depth (ahead c.args.parser.now) _
    (ap (is_sign s.Semicolon) (sym c.peek.ensures) ∙ sym c.is_sign.ensures ∙ c.if-is_sign.true) c.pass.ensures)
    c.add_empty.ensures

pub returns-in-Ok : goal.returns-in-Ok
returns-in-Ok c = rw (
  flat_plain c.args.depth (ahead c.args.parser.now)
      (ap (is_sign s.Semicolon) (sym c.peek.ensures) ∙ sym c.is_sign.ensures ∙ c.if-is_sign.false),
  c.in-Ok.ensures,
)
    c.add_simple.ensures

pub returns-in-Err : goal.returns-in-Err
returns-in-Err c = rw
    (flat_plain c.args.depth (ahead c.args.parser.now)
    (ap (is_sign s.Semicolon) (sym c.peek.ensures) ∙ sym c.is_sign.ensures ∙ c.if-is_sign.false))
    (after_fails c.in-Err.e _ _ c.in-Err.ensures)
