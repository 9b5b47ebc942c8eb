use Rattle.std.proofs.Common.{◌∙◌, ap, sym, arith, set}
use Rattle.std.proofs.lemmas.List.{set-append_left, set-append_right}
use Rattle.journal.specs.Pages.{pages_in_place}
use Rattle.journal.proofs.page_flags.PageFlags.set.Goals as goal

pub returns-then-page-lt-IN_PLACE : goal.returns-then-page-lt-IN_PLACE
returns-then-page-lt-IN_PLACE c =
    sym (set-append_left c.self.inside.first c.self.inside.more.items c.args.page c.args.kept
    (omega (arith, c.self.invariant, c.if-page-lt-IN_PLACE.true)))
    ∙ ap (λ flags. set flags c.args.page c.args.kept) c.self.view_is

pub returns-else-page-lt-IN_PLACE : goal.returns-else-page-lt-IN_PLACE
returns-else-page-lt-IN_PLACE c =
    sym (set-append_right c.self.inside.first c.self.inside.more.items pages_in_place c.args.page c.args.kept
    c.self.invariant (omega (arith, c.if-page-lt-IN_PLACE.false)))
    ∙ ap (λ flags. set flags c.args.page c.args.kept) c.self.view_is
