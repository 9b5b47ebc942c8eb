use Rattle.ztext.proofs.Keys.{packed_nine}
use Rattle.machine_standard_words.proofs.form.packed.Goals as goal

pub returns : goal.returns
returns c = packed_nine c.args.characters.now c.word_bytes.result c.word_bytes-2.result c.word_bytes-3.result
    c.told-characters c.word_bytes.ensures c.word_bytes-2.ensures c.word_bytes-3.ensures
