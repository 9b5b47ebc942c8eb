use Rattle.std.proofs.Common.{sym}
use Rattle.story_file.proofs.Laid.{size_within, found_at}
use Rattle.story_file.proofs.packed.packed_addresses.Goals as goal

pub add_address-requires : goal.add_address-requires
add_address-requires c =
    size_within c.args.version c.loop-size.at _ c.args.sizes.now c.loop-size.size-index _ c.loop-size-test.true
    (sym (found_at c.args.sizes.now c.loop-size.size-index _ c.loop-size-test.true)) c.loop-size.invariant.1 c.requires
