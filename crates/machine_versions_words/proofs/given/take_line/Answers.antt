use Rattle.std.proofs.Common.{ap, ◌∙◌}
use Rattle.zcore_standard.specs.Reading.{key_of_line}
use Rattle.zcore_versions.specs.Versions.{versioned}
use Rattle.machine_standard_words.proofs.Giving.{key_result, line_result}
use Rattle.machine_versions_words.proofs.Handing.{key_filled}
use Rattle.machine_versions_words.proofs.given.take_line.Goals as goal

pub returns-then-text-eq0-clause-word : goal.returns-then-text-eq0-clause-word
returns-then-text-eq0-clause-word c =
    key_result c.args.loaded.now.characters c.args.text _ c.args.line.now c.if-text-eq0.true
    (c.key_of_line.ensures ∙ ap (λ x. key_of_line x c.args.line.now) c.characters.ensures)

pub returns-then-text-eq0-clause-filled : goal.returns-then-text-eq0-clause-filled
returns-then-text-eq0-clause-filled c = key_filled c.args.store.now (versioned c.args.loaded.now c.args.version)
    c.args.text c.args.parse c.args.line.now c.requires.store.sound c.if-text-eq0.true

pub returns-clause-word : goal.returns-clause-word
returns-clause-word c = line_result c.args.loaded.now.characters c.args.text c.args.line.now c.if-text-eq0.false
