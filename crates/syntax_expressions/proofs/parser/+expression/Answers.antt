use Rattle.std.proofs.Common.{refl, sym, ap, ◌∙◌, arith, ◌∷◌}
use Rattle.std.proofs.lemmas.Result.{err_from_is_err_and}
use Rattle.syntax_lexer.specs.declared.token.Sign.TheVariants as s
use Rattle.syntax_lexer.specs.declared.token.Word.TheVariants as w
use Rattle.syntax_trees.specs.Views.{expression_tree}
use Rattle.syntax_trees.specs.Parse.{is_sign, is_word}
use Rattle.syntax_trees.specs.Returned.{ahead}
use Rattle.syntax_trees.proofs.Loops.{further_out, further_done, further_more, further_fails, list_fails, list_begins}
use Rattle.syntax_expressions.specs.Parse.{nested, expression, sum}
use Rattle.syntax_expressions.specs.LevelOperators.{operator_of}
use Rattle.syntax_expressions.specs.Levels.{operand_of}
use Rattle.syntax_expressions.specs.Single.{is_single}
use Rattle.syntax_expressions.proofs.Chain.{chain_fails, chain_more, level_fails}
use Rattle.syntax_expressions.proofs.Singles.{chain_single, complemented_single}
use Rattle.syntax_expressions.proofs.parser.+expression.Goals.{values-else-loop-turn-test}
use Rattle.syntax_expressions.proofs.parser.+expression.Goals.{values-then-loop-turn-test+then-not-is_word}
use Rattle.syntax_expressions.proofs.parser.+expression.Goals as goal

-- ---- chains

pub chain-returns-then-is_single : goal.chain-returns-then-is_single
chain-returns-then-is_single t c = rw
    (chain_single (nested c.args.depth) c.args.operators (ahead c.args.parser.now)
    (ap (λ w. is_single w (ahead c.args.parser.now)) (sym c.width.ensures) ∙ sym c.is_single.ensures
    ∙ c.if-is_single.true))
    c.atom.ensures

pub factor-returns-then-is_single : goal.factor-returns-then-is_single
factor-returns-then-is_single t c = rw
    (complemented_single (nested c.args.depth) (ahead c.args.parser.now)
    (sym c.is_single.ensures ∙ c.if-is_single.true))
    c.atom.ensures

pub chain-returns-in-Err : goal.chain-returns-in-Err
chain-returns-in-Err t c = level_fails (nested c.args.depth) c.args.operators c.in-Err.e (ahead c.args.parser.now)
    c.in-Err.ensures

pub read_links-returns-in-Err : goal.read_links-returns-in-Err
read_links-returns-in-Err t c = chain_fails (operator_of c.args.operators)
    (operand_of (nested c.args.depth) c.args.operators) c.in-Err.e _ c.loop-turn._turn _
    (ahead c.loop-turn.parser) c.in-Some.joining _ c.loop-turn-test.true (grind arith)
    (rw c.pass.ensures at c.in-Err.ensures) c.loop-turn.invariant

pub read_links-loop-turn-preserved : goal.read_links-loop-turn-preserved
read_links-loop-turn-preserved t c =
    sym (chain_more (operator_of c.args.operators) (operand_of (nested c.args.depth) c.args.operators) _
    c.loop-turn._turn _ (ahead c.loop-turn.parser) c.in-Some.joining _ _ _ _ _ c.loop-turn-test.true (grind arith)
    (rw c.pass.ensures at c.in-Ok.ensures) refl c.in-Ok-link.ensures)
    ∙ c.loop-turn.invariant

-- ---- values with `or` between them

pub values-returns-in-Err : goal.values-returns-in-Err
values-returns-in-Err t c = list_fails expression_tree (is_word w.Or) (sum (nested c.args.depth)) c.in-Err.e
    (ahead c.args.parser.now) c.in-Err.ensures

pub values-loop-turn-init : goal.values-loop-turn-init
values-loop-turn-init t c =
    rw c.new-others.ensures.items
    (list_begins expression_tree (is_word w.Or) (sum (nested c.args.depth)) (ahead c.args.parser.now) _
    c.in-Ok.first.value c.in-Ok.ensures)

pub values-returns-in-Err-chain : goal.values-returns-in-Err-chain
values-returns-in-Err-chain t c = further_fails expression_tree (is_word w.Or) (sum (nested c.args.depth))
    c.in-Err-chain.e _ c.loop-turn._turn (c.in-Ok.first.value ∷ c.loop-turn.others.items) (ahead c.loop-turn.parser) _
    c.loop-turn-test.true (grind arith) (rw c.pass.ensures at c.in-Err-chain.ensures) c.loop-turn.invariant

pub values-loop-turn-preserved : goal.values-loop-turn-preserved
values-loop-turn-preserved t c =
    rw c.in-Ok-add.ensures.ok
    (sym (further_more expression_tree (is_word w.Or) (sum (nested c.args.depth)) _ c.loop-turn._turn
    (c.in-Ok.first.value ∷ c.loop-turn.others.items) (ahead c.loop-turn.parser) c.in-Ok-chain.next.value _
    c.loop-turn-test.true (grind arith) (rw c.pass.ensures at c.in-Ok-chain.ensures))
    ∙ c.loop-turn.invariant)

pub values-returns-after-loop-turn : goal.values-returns-after-loop-turn
values-returns-after-loop-turn t c =
    elim c.loop-turn-test.branch [
      | values-else-loop-turn-test q ↦ sym c.loop-turn.invariant
          ∙ further_out expression_tree (is_word w.Or) (sum (nested c.args.depth)) _ c.loop-turn._turn
          (c.in-Ok.first.value ∷ c.loop-turn.others.items) (ahead c.loop-turn.parser) q.loop-turn-test.false
      | values-then-loop-turn-test+then-not-is_word q ↦ sym c.loop-turn.invariant
          ∙ further_done expression_tree (is_word w.Or) (sum (nested c.args.depth)) _
          (c.in-Ok.first.value ∷ c.loop-turn.others.items) (ahead c.loop-turn.parser) (grind arith)
    ]

-- ---- arguments

pub arguments-returns-in_err-first : goal.arguments-returns-in_err-first
arguments-returns-in_err-first t c =
    let p = err_from_is_err_and c.from_residual.result c.from_residual.ensures.1 in
    rw (p.1, p.2)
    (list_fails expression_tree (is_sign s.Comma) (expression (nested c.args.depth)) c.in_err-first.field-0.0
    (ahead c.args.parser.now) c.in_err-first.ensures)

pub arguments-loop-turn-init : goal.arguments-loop-turn-init
arguments-loop-turn-init t c =
    rw c.in_ok-arguments.ensures.ok
    (list_begins expression_tree (is_sign s.Comma) (expression (nested c.args.depth)) (ahead c.args.parser.now) _
    c.in_ok-first.first.value c.in_ok-first.ensures)

pub arguments-returns-in-Err : goal.arguments-returns-in-Err
arguments-returns-in-Err t c = further_fails expression_tree (is_sign s.Comma)
    (expression (nested c.args.depth)) c.in-Err.e _ c.loop-turn._turn c.loop-turn.arguments.items
    (ahead c.loop-turn.parser) _ c.loop-turn-test.true (grind arith)
    (rw c.pass.ensures at c.in-Err.ensures) c.loop-turn.invariant

pub arguments-loop-turn-preserved : goal.arguments-loop-turn-preserved
arguments-loop-turn-preserved t c =
    rw c.in-Ok-add.ensures.ok
    (sym (further_more expression_tree (is_sign s.Comma) (expression (nested c.args.depth)) _ c.loop-turn._turn
    c.loop-turn.arguments.items (ahead c.loop-turn.parser) c.in-Ok.next.value _
    c.loop-turn-test.true (grind arith) (rw c.pass.ensures at c.in-Ok.ensures))
    ∙ c.loop-turn.invariant)
