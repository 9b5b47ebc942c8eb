use Rattle.std.proofs.Common.{◌++◌, List, ℕ, ap, ◌∙◌}
use Rattle.iff_files.specs.Differences.{packed}
use Rattle.iff_files.proofs.differences.put_others.Goals as goal

pub returns-clause-put : goal.returns-clause-put
returns-clause-put c = λ base bytes.
    c.fill_room.ensures.put base bytes
    ∙ ap (λ (t : List ℕ). t ++ packed c.args.equal (c.args.was.now ++ base) (c.args.now.now ++ bytes)) c.reserve.ensures.items
