use Rattle.std.proofs.Common.{ap, ◌∙◌}
use Rattle.syntax_lexer.specs.Token.{lexemes}
use Rattle.derive_tokens.specs.Own.{own_fault}
use Rattle.derive_branches.specs.Branches.{branched}
use Rattle.derive.specs.Passes.{branched_source}
use Rattle.derive.proofs.Finishing.{or_fault_none, or_fault_some}
use Rattle.derive.proofs.passes.passed.Goals as goal

pub returns-in-Some : goal.returns-in-Some
returns-in-Some c =
    or_fault_some c.in-Some.fault (own_fault (lexemes c.args.tokens.items))
    (branched_source (branched (lexemes c.args.tokens.items)))
    (c.in-Some.ensures ∙ ap own_fault (ap lexemes c.deref.ensures.value))

pub returns-in-None : goal.returns-in-None
returns-in-None c =
    or_fault_none c.branched_source.result (own_fault (lexemes c.args.tokens.items))
    (branched_source (branched (lexemes c.args.tokens.items)))
    (c.in-None.ensures ∙ ap own_fault (ap lexemes c.deref.ensures.value)) c.branched_source.ensures
