use Rattle.story_file.proofs.Joined.{globals_joined}
use Rattle.story_file.proofs.below.put_globals.Goals as goal

pub returns : goal.returns
returns c =
    globals_joined c.args.globals.now c.args.bytes.now.items c.put_words.new.bytes.items c.put_zeros.new.bytes.items
    c.requires
    c.in-Ok.ensures c.in-Ok-put_zeros.ensures
