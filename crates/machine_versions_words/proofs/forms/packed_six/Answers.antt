use Rattle.machine_versions_words.proofs.Packing.{packed_is}
use Rattle.machine_versions_words.proofs.forms.packed_six.Goals as goal

pub returns : goal.returns
returns c = packed_is c.args.characters.now c.word_bytes.result c.word_bytes-2.result c.told-characters
    c.word_bytes.ensures c.word_bytes-2.ensures
