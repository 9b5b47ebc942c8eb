use Rattle.std.proofs.Common.{ap, ◌∙◌, length}
use Rattle.journal.proofs.Lending.{beginning_kept, held_still, kept_by_flags}
use Rattle.journal.proofs.recorded.Recorded.lend.Goals as goal

pub invariant_of-self : goal.invariant_of-self
invariant_of-self g c = held_still (length (g.C.Cells.cells c.self.inside.store))
    (length (g.C.Cells.cells c.overwrite.new.store)) (g.C.Cells.bounds c.self.inside.store)
    (g.C.Cells.bounds c.overwrite.new.store) c.self.inside.flags c.self.inside.pages c.self.inside.packed.items
    c.overwrite.ensures.kept.size c.overwrite.ensures.bounds c.self.invariant

pub returns-clause-beginning : goal.returns-clause-beginning
returns-clause-beginning g c =
    beginning_kept (g.C.Cells.cells c.self.inside.store) (g.C.Cells.cells c.overwrite.new.store) c.self.inside.pages
    c.self.inside.packed.items c.self.invariant.paged.size
    (kept_by_flags c.self.inside.flags c.self.inside.pages (g.C.Cells.cells c.self.inside.store)
    (g.C.Cells.cells c.overwrite.new.store) c.self.invariant.marked c.overwrite.ensures.kept)
    ∙ ap (λ r. r.beginning) c.self.view_is
