use Rattle.story_file.proofs.Joined.{header_joined}
use Rattle.story_file.proofs.header.put_header.Goals as goal

pub returns : goal.returns
returns c =
    header_joined c.args.version c.args.places c.args.body.now c.args.story.now.items c.push.new.self.items
    c.push-2.new.self.items
    c.put_words.new.bytes.items
    c.extend_from_slice.new.self.items c.put_words-2.new.bytes.items c.put_zeros.new.bytes.items c.number_of.result
    c.stated_length.result c.sum_of.result
    c.number_of.ensures c.stated_length.ensures c.sum_of.ensures
    c.in-Ok.ensures.items c.in-Ok-push.ensures.items c.in-Ok-put_words.ensures
    c.in-Ok-extend_from_slice.ensures.items c.in-Ok-put_words-2.ensures c.in-Ok-put_zeros.ensures
