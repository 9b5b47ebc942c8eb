use Rattle.code_drafts.proofs.Trees.{chain_pushed, property_pushed}
use Rattle.code_drafts.proofs.operand.+alone.Goals as goal

pub returns-in-Chain : goal.returns-in-Chain
returns-in-Chain t c = chain_pushed _ _ _ _ _ c.in-Chain.is

pub returns-in-Property : goal.returns-in-Property
returns-in-Property t c = property_pushed _ _ _ _ c.in-Property.is
