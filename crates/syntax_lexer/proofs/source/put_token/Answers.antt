use Rattle.std.proofs.Common.{inr}
use Rattle.syntax_lexer.proofs.Loop.{token_first, fault_first}
use Rattle.syntax_lexer.proofs.source.put_token.Goals as goal

pub returns-in_ok-push-in-Ok-clause-puts : goal.returns-in_ok-push-in-Ok-clause-puts
returns-in_ok-push-in-Ok-clause-puts c = (
  _,
  c.in_ok-push-in-Ok.ensures.items,
  token_first c.args.source.now c.from-rest.result.now c.front.result.now c.args.position c.in-Ok.kind c.in-Ok.length
      c.from-rest.ensures c.front.ensures c.in-Ok.ensures.scanned,
)

pub returns-in-Err-clause-broken : goal.returns-in-Err-clause-broken
returns-in-Err-clause-broken c = inr
    (fault_first c.args.source.now c.from-rest.result.now c.args.position c.in-Err.fault c.number.result
    c.from-rest.ensures c.number.ensures c.in-Err.ensures.scanned)
