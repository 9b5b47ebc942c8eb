use Rattle.std.proofs.Common.{ap, ◌∙◌}
use Rattle.machine_frames.specs.Contents.{memory_of}
use Rattle.machine_small_entries.proofs.Listing.{property_read}
use Rattle.machine_versions.proofs.properties.property_at.Goals as goal

pub returns : goal.returns
returns c =
    property_read _ _ _ c.requires (c.memory.ensures ∙ ap memory_of c.store.ensures) c.readable.ensures _ _
    c.listed.ensures.says c.args.at c.stands_at.ensures.same
