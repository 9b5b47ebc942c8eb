use Rattle.code_drafts.specs.Written.{addresses_of}
use Rattle.story_file.proofs.Joined.{routine_joined}
use Rattle.story_file.proofs.high.put_routines.Goals as goal

pub loop-code-preserved : goal.loop-code-preserved
loop-code-preserved c =
    routine_joined c.args.version (addresses_of c.args.addresses.now) c.args.codes.now c.loop-code.code-index
    c.code-item.result c.args.story.now.items c.loop-code.story.items c.put_filling.new.story.items
    c.put_code.new.story.items c.loop-code-test.true c.code-item.is c.in_ok-put_filling.ensures
    c.in_ok-put_code.ensures c.loop-code.invariant
