use Rattle.std.proofs.Common.{◌∷◌, [], ap, max}
use Rattle.screen.specs.Sequences.{above_last}
use Rattle.screen.specs.Replies.{room_made}
use Rattle.screen.specs.Upper.{upper}
use Rattle.screen.proofs.Adding.{added_five, put_by}
use Rattle.screen.proofs.screen.Screen.put_drawn.Goals as goal

pub returns : goal.returns
returns c = added_five _ _ _ _ _ _ (room_made (max c.args.self.upper c.args.height))
    (upper c.args.self.size.columns c.args.height c.args.status.now) (above_last 1) (13 ∷ [])
    c.args.prompt.now (put_by _ _ _ _ c.in_ok-put_room.ensures (ap room_made c.max.ensures)) c.in_ok-put_upper.ensures
    c.in_ok-put_above_last.ensures c.in_ok-push.ensures.items
    c.in_ok-extend_from_slice.ensures.items
