use Rattle.std.proofs.Common.{length, ◌*◌, ◌-◌, ◌≡◌, ◌∙◌, ap, sym, arith}
use Rattle.syntax_lexer.specs.Token.{lexemes}
use Rattle.syntax.specs.Views.{program_tree}
use Rattle.syntax.proofs.FirstUnfit.{answers_none, answers_unfit, as_many}
use Rattle.syntax.proofs.unfit.first_unfit.Goals as goal

pub returns-in-Ok : goal.returns-in-Ok
returns-in-Ok c = λ once.
    answers_none (length c.args.tokens.now * 2) (program_tree c.in-Ok.program) (lexemes c.args.tokens.now)
    c.in-Ok.ensures

pub returns-in-Err-Fault : goal.returns-in-Err-Fault
returns-in-Err-Fault c = λ once.
    let many = as_many c.args.tokens.now in
    answers_unfit (length c.args.tokens.now * 2) c.saturating_sub.result c.in-Err-Fault.left c.in-Err-Fault.field-0-0
    c.in-Err-Fault.field-0 (lexemes c.args.tokens.now) many c.in-Err-Fault.field-0-is c.in-Err-Fault.ensures
    (c.saturating_sub.ensures ∙ ap (λ n. n - c.in-Err-Fault.left) (omega (arith, many))) once
