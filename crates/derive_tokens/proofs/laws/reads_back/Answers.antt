use Rattle.derive_tokens.proofs.Reading as reading
use Rattle.derive_tokens.proofs.laws.reads_back.Goals as goal

pub returns : goal.returns
returns c = reading.reads_back
