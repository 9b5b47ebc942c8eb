use Rattle.std.proofs.Common.{refl}
use Rattle.derive_constants.specs.Held.{known_of}
use Rattle.derive_constants.proofs.Groups.{take_opened}
use Rattle.derive_constants.proofs.group.Group.take.Goals as goal

-- src/group.rt: after a parenthesis that is open
pub returns-in_ok-go_on-in-Opened : goal.returns-in_ok-go_on-in-Opened
returns-in_ok-go_on-in-Opened c =
    take_opened _ _ _ _ _ (known_of c.args.known.now) _ _ c.in-Opened.is refl c.in_ok-push-in-Opened.ensures.items
    (c.in_ok-go_on-in-Opened.ensures c.args.token.position)
