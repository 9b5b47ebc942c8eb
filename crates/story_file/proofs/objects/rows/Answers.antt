use Rattle.std.proofs.Common.{map, arith}
use Rattle.std.proofs.lemmas.List.{length-map}
use Rattle.meaning.specs.Views.{object_of}
use Rattle.story_file.proofs.ObjectRows.{rows_step}
use Rattle.story_file.proofs.objects.rows.Goals as goal

pub loop-index-preserved : goal.loop-index-preserved
loop-index-preserved c =
    rows_step (map object_of c.args.objects.now) c.loop-index.index c.loop-index.rows.items c.push.new.self.items
    c.in_ok-row.field-0 (omega (arith, c.loop-index-test.true, length-map c.args.objects.now object_of))
    c.in_ok-push.ensures.items c.in_ok-row.ensures c.loop-index.invariant
