use Rattle.std.proofs.Common.{arith}
use Rattle.machine_versions_words.proofs.SmallEntries.{all_left, found_here, one_less, none_left}
use Rattle.machine_versions_words.proofs.keys.find_first.Goals as goal

pub loop-k-init : goal.loop-k-init
loop-k-init c = all_left c.args.memory.now c.args.entries.first c.args.entries.bytes c.args.entries.count c.args.key

pub loop-k-preserved : goal.loop-k-preserved
loop-k-preserved c = one_less c.args.memory.now c.args.entries.first c.args.entries.bytes c.args.entries.count
    c.args.key c.loop-k.k c.read_key.result c.loop-k-test.true c.loop-k.invariant c.read_key.ensures
    c.if-read_key-key.false

pub returns-then-read_key-key : goal.returns-then-read_key-key
returns-then-read_key-key c = found_here c.args.memory.now c.args.entries.first c.args.entries.bytes
    c.args.entries.count c.args.key c.loop-k.k c.read_key.result c.loop-k-test.true c.loop-k.invariant
    c.read_key.ensures c.if-read_key-key.true

pub returns : goal.returns
returns c = none_left c.args.memory.now c.args.entries.first c.args.entries.bytes c.args.entries.count c.args.key
    c.loop-k.k (omega (arith, c.loop-k-test.false)) c.loop-k.invariant
