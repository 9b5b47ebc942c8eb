use Rattle.std.specs.Prelude.{map}
use Rattle.meaning.specs.Resolved as values
use Rattle.meaning.specs.Views.{printed_of}
use Rattle.checker_values.specs.Scope.{seen_in}
use Rattle.checker_values.proofs.Walks.{one}
use Rattle.checker_statements.proofs.Forms.{items_walked}
use Rattle.checker_statements.proofs.MadeActions.{made_print, made_print_return}
use Rattle.checker_statements.proofs.simple_rules.print.Goals as goal

pub returns-then-returns : goal.returns-then-returns
returns-then-returns c around = rw (c.if-returns.true, made_print_return c.in-Ok.found, ← c.deref.ensures.value)
    (one values.print_return
    (items_walked (seen_in c.args.scope.now) c.deref.result.now (map printed_of c.in-Ok.found.items) c.in-Ok.ensures))

pub returns : goal.returns
returns c around = rw (c.if-returns.false, made_print c.in-Ok.found, ← c.deref.ensures.value)
    (one values.print
    (items_walked (seen_in c.args.scope.now) c.deref.result.now (map printed_of c.in-Ok.found.items) c.in-Ok.ensures))
