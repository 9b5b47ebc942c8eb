use Rattle.session_keeping.proofs.Reading as reading
use Rattle.session_keeping.proofs.laws.taken_read_back.Goals as goal

pub returns : goal.returns
returns c = λ entries h. reading.taken_read_back entries h
