use Rattle.std.proofs.Common.{sym, ◌∙◌}
use Rattle.syntax_expressions.proofs.Built.{longer_built}
use Rattle.syntax_expressions.proofs.parts.lengthen_chain.Goals as goal

pub returns-in-Ok : goal.returns-in-Ok
returns-in-Ok c =
    rw (longer_built c.args.chain.value c.args.right.value c.in-Chain.first c.in-Chain.second c.in-Chain.joining
    c.args.operator c.in-Chain.links c.add_link.new.links (sym c.into_inner.ensures ∙ c.in-Chain.is)
    c.in-Ok.ensures.ok) at c.in_box.ensures
