use Rattle.std.proofs.Common.{ap, ◌∙◌}
use Rattle.zcore_standard.specs.Reading.{key_of_line}
use Rattle.machine_standard_words.proofs.Giving.{takes_letters, key_filled, key_result, line_result, line_taken}
use Rattle.machine_standard_words.proofs.given.take_typed.Goals as goal

pub returns-then-text-eq0-clause-word : goal.returns-then-text-eq0-clause-word
returns-then-text-eq0-clause-word c =
    key_result c.args.loaded.now.characters c.args.text _ c.args.line.now c.if-text-eq0.true
    (c.key_of_line.ensures ∙ ap (λ x. key_of_line x c.args.line.now) c.characters.ensures)

pub returns-then-text-eq0-clause-filled : goal.returns-then-text-eq0-clause-filled
returns-then-text-eq0-clause-filled c = key_filled c.args.store.now c.args.loaded.now c.args.text c.args.parse c.args.line.now
    c.requires.store.sound c.if-text-eq0.true

pub fill_line-requires-clause-room : goal.fill_line-requires-clause-room
fill_line-requires-clause-room c = (takes_letters _ c.args.text c.args.parse c.requires.given c.if-text-eq0.false).room

pub fill_line-requires-clause-slots : goal.fill_line-requires-clause-slots
fill_line-requires-clause-slots c = (takes_letters _ c.args.text c.args.parse c.requires.given c.if-text-eq0.false).slots

pub returns-clause-word : goal.returns-clause-word
returns-clause-word c = line_result c.args.loaded.now.characters c.args.text c.args.line.now c.if-text-eq0.false

pub returns-clause-filled : goal.returns-clause-filled
returns-clause-filled c = line_taken c.args.store.now c.fill_line.new.store c.args.loaded.now c.args.text c.args.parse c.args.line.now
    c.if-text-eq0.false c.in_ok-fill_line.ensures.filled
