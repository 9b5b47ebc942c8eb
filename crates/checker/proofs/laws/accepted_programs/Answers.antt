use Rattle.checker.proofs.Acceptance as acceptance
use Rattle.checker.proofs.laws.accepted_programs.Goals as goal

pub returns : goal.returns
returns c = acceptance.accepted_programs
