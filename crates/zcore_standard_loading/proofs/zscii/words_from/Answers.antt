use Rattle.std.proofs.Common.{rules}
use Rattle.zcore_standard_loading.proofs.Tables.{word_read}
use Rattle.zcore_standard_loading.proofs.zscii.words_from.Goals as goal

pub loop-i-preserved : goal.loop-i-preserved
loop-i-preserved c = search (word_read, rules)
