use Rattle.std.proofs.Common.{List, sym, ap, ◌∙◌}
use Rattle.syntax_lexer.specs.declared.token.Token.{Token}
use Rattle.syntax_lexer.specs.Token.{lexemes}
use Rattle.derive_tokens.specs.Tokens.{Outcome}
use Rattle.derive_branches.specs.Branches.{branched}
use Rattle.derive.proofs.Finishing.{branched_on, branched_stop, stops_alike}
use Rattle.derive.proofs.passes.branched_source.Goals as goal

abbrev branched_of : List Token → Outcome
branched_of tokens = branched (lexemes tokens)

pub returns-in-Ok : goal.returns-in-Ok
returns-in-Ok c =
    branched_on c.computed_source.result (lexemes c.in-Ok.taken.items) (branched (lexemes c.args.tokens.items))
    (sym (ap branched_of c.deref.ensures.value) ∙ c.in-Ok.ensures) c.computed_source.ensures

pub returns-in-Err : goal.returns-in-Err
returns-in-Err c =
    branched_stop c.in-Err.fault (branched (lexemes c.args.tokens.items))
    (stops_alike c.in-Err.fault branched (lexemes c.deref.result.now) (lexemes c.args.tokens.items)
    (ap lexemes c.deref.ensures.value) c.in-Err.ensures)
