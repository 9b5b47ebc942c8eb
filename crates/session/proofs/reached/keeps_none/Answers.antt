use Rattle.session.proofs.Views.{no_newest}
use Rattle.session.proofs.reached.keeps_none.Goals as goal

pub returns-in-None : goal.returns-in-None
returns-in-None c = λ _. no_newest c.args.kept.now c.in-None.ensures
