use Rattle.ztext.proofs.Keys.{packed_nine}
use Rattle.ztext.proofs.words.key_bytes.Goals as goal

pub returns : goal.returns
returns c = packed_nine c.args.key.now c.word_bytes.result c.word_bytes-2.result c.word_bytes-3.result c.told-key
    c.word_bytes.ensures c.word_bytes-2.ensures c.word_bytes-3.ensures
