use Rattle.story_file.proofs.Joined.{start_joined}
use Rattle.story_file.proofs.below.put_start.Goals as goal

pub returns : goal.returns
returns c =
    start_joined c.args.main c.args.bytes.now.items c.push.new.self.items c.put_word.new.bytes.items
    c.push-2.new.self.items
    c.in-Ok.ensures.items c.in-Ok-put_word.ensures c.in-Ok-push.ensures.items
