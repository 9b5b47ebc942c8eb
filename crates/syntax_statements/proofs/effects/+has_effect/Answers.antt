use Rattle.std.proofs.Common.{false, refl}
use Rattle.syntax_statements.specs.PartGrammar.{has_effect}
use Rattle.syntax_statements.proofs.Roots.{at_chain, at_property}
use Rattle.syntax_statements.proofs.effects.+has_effect.Goals as goal

pub returns-in-Chain : goal.returns-in-Chain
returns-in-Chain t c = at_chain has_effect false (λ op a b. refl) _ _ _ _ _ c.in-Chain.is

pub returns-in-Property : goal.returns-in-Property
returns-in-Property t c = at_property has_effect false (λ e n. refl) _ _ _ _ c.in-Property.is
