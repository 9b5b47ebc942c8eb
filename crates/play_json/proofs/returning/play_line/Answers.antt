use Rattle.std.proofs.Common.{refl, sym, ◌∙◌}
use Rattle.play_json.proofs.returning.play_line.Goals as goal

pub play_waited-requires : goal.play_waited-requires
play_waited-requires c = sym c.place.ensures.present ∙ c.in-Waiting.is

pub returns-in_default : goal.returns-in_default
returns-in_default c = λ game s p. record { stands = p; marks = refl }

pub returns-in-Waiting : goal.returns-in-Waiting
returns-in-Waiting c = c.play_waited.ensures
