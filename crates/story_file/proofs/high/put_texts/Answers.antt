use Rattle.story_file.proofs.Joined.{texts_joined}
use Rattle.story_file.proofs.high.put_texts.Goals as goal

pub returns : goal.returns
returns c =
    texts_joined c.args.version c.args.texts.now c.loop-text.text-index c.args.story.now.items c.loop-text.story.items
    c.put_filling.new.story.items c.loop-text-test.false c.loop-text.invariant c.in_ok-put_filling.ensures
