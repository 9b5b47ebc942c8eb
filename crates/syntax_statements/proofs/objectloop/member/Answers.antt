use Rattle.std.proofs.Common.{None, refl}
use Rattle.syntax_statements.specs.PartParse.{member}
use Rattle.syntax_statements.proofs.Roots.{at_chain, at_property}
use Rattle.syntax_statements.proofs.objectloop.member.Goals as goal

pub returns-in-Chain : goal.returns-in-Chain
returns-in-Chain c = at_chain member None (λ op a b. refl) _ _ _ _ _ c.in-Chain.is

pub returns-in-Property : goal.returns-in-Property
returns-in-Property c = at_property member None (λ e n. refl) _ _ _ _ c.in-Property.is
