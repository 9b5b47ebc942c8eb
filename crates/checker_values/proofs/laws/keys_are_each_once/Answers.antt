use Rattle.checker_values.proofs.Gathered.{each_once}
use Rattle.checker_values.proofs.laws.keys_are_each_once.Goals as goal

pub returns : goal.returns
returns c = each_once
