use Rattle.derive_sums.proofs.Read.{read_more, room_more}
use Rattle.derive_sums.proofs.counting.Count.step.Goals as goal

pub met_after-self-requires : goal.met_after-self-requires
met_after-self-requires c = room_more c.args.self.now.part c.args.self.now.met c.requires.room

pub returns-clause-grows : goal.returns-clause-grows
returns-clause-grows c = read_more _ _ _ _ _ c.part_after-self.ensures.value c.met_after-self.ensures.value
