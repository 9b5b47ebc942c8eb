use Rattle.messages_advice.proofs.Place.{one_place}
use Rattle.messages_advice.proofs.laws.one_place.Goals as goal

pub returns : goal.returns
returns c = one_place
