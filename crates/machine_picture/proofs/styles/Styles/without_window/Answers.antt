use Rattle.std.proofs.Common.{arith}
use Rattle.machine_picture.proofs.Showing.{without_parts}
use Rattle.machine_picture.proofs.styles.Styles.without_window.Goals as goal

pub returns : goal.returns
returns c =
    without_parts c.args.self.now.part c.min.result c.min-2.result c.args.bytes.now _ _ (omega (arith, c.min.ensures))
    (omega (arith, c.min-2.ensures)) c.in_ok-rest.ensures.items c.in_ok-extend_from_slice.ensures.items
