use Rattle.std.proofs.Common.{rules}
use Rattle.zcore_standard_loading.proofs.loading.read_header.Goals as goal

pub returns : goal.returns
returns c = record {
  version_read = c.of_story.ensures.version;
  played = search rules;
  near = c.of_story.ensures.near;
  read = c.header_of.ensures;
  placed = c.if-not-is_placed.ensures.0 (search rules);
  dictionary = search rules;
}
