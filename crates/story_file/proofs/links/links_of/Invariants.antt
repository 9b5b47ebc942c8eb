use Rattle.std.proofs.Common.{◌≤◌, length}
use Rattle.std.specs.Prelude.{map}
use Rattle.meaning.specs.Views.{object_of}
use Rattle.story_file.specs.Linked.{AreLinked}
use Rattle.story_file.proofs.links.links_of.Given as goal

abbrev pub decreases-loop-left : goal.decreases-loop-left
decreases-loop-left l = l.left

abbrev pub invariant-loop-left : goal.invariant-loop-left
invariant-loop-left l = record {
  within : l.left ≤ length l.objects;
  linked : AreLinked (map object_of l.objects) l.left l.first.items l.next.items;
}
