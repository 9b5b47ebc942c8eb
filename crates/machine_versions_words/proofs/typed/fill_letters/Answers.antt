use Rattle.zcore_versions.specs.Versions.{versioned}
use Rattle.machine_versions_words.proofs.Typing.{none_parsed}
use Rattle.machine_versions_words.proofs.typed.fill_letters.Goals as goal

pub returns-then-parse-eq0-clause-filled : goal.returns-then-parse-eq0-clause-filled
returns-then-parse-eq0-clause-filled c = none_parsed c.args.store.now c.fill_ended.new.store
    (versioned c.args.loaded.now c.args.version) c.args.text c.args.parse c.args.letters.now c.fill_ended.result
    c.if-parse-eq0.true c.fill_ended.ensures.filled
