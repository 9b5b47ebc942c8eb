use Rattle.std.proofs.Common.{◌≡◌, arith, subst}
use Rattle.std.specs.Prelude.{OnOk}
use Rattle.session.proofs.Views.{first_kept, later_kept}
use Rattle.session.proofs.turns.begin_kept.Goals as goal

pub returns-then-done-eq0 : goal.returns-then-done-eq0
returns-then-done-eq0 c =
    subst (λ k. OnOk c.share_kept.result (c.share_kept.new.kept ≡ k))
    (first_kept c.args.first.now c.args.turns.now.items c.args.done c.if-done-eq0.true) c.share_kept.ensures

pub returns-else-done-eq0 : goal.returns-else-done-eq0
returns-else-done-eq0 c =
    subst (λ k. OnOk c.share_kept-else-done-eq0.result (c.share_kept-else-done-eq0.new.kept ≡ k))
    (later_kept c.args.first.now c.args.turns.now.items c.args.done c.index.result.now
    (omega (arith, c.if-done-eq0.false)) c.requires c.index.ensures) c.share_kept-else-done-eq0.ensures
