use Rattle.story_file.proofs.Joined.{text_added}
use Rattle.story_file.proofs.high.add_text.Goals as goal

pub returns : goal.returns
returns c = text_added c.args.texts.now.items c.push.new.self.items c.in_ok-text.text _ c.in_ok-push.ensures.items
    c.in_ok-text.ensures
