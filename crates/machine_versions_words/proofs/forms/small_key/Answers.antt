use Rattle.std.proofs.Common.{ap, sym, ◌∙◌}
use Rattle.std.proofs.lemmas.Bool.{leb-true}
use Rattle.ztext.specs.TextParts.{filled}
use Rattle.zcore_standard.specs.Texts.{spelled_by}
use Rattle.zcore_versions.specs.Versions.{versioned}
use Rattle.machine_versions_words.proofs.Packing.{key_is, locked_spelled, not_locked}
use Rattle.machine_versions_words.proofs.forms.small_key.Goals as goal

pub locked_characters-requires : goal.locked_characters-requires
locked_characters-requires c =
    leb-true c.args.version.number 2 (sym c.locks_alphabets.ensures ∙ c.if-locks_alphabets.true)

pub returns-then-locks_alphabets : goal.returns-then-locks_alphabets
returns-then-locks_alphabets c = key_is (versioned c.args.loaded.now c.args.version) c.args.word.now
    c.locked_characters.result _ c.requires.small
    (locked_spelled (versioned c.args.loaded.now c.args.version) c.args.word.now _
    (sym c.locks_alphabets.ensures ∙ c.if-locks_alphabets.true) c.locked_characters.ensures.nine)
    c.packed_six.ensures

pub returns-else-locks_alphabets : goal.returns-else-locks_alphabets
returns-else-locks_alphabets c = key_is (versioned c.args.loaded.now c.args.version) c.args.word.now
    c.nine_characters.result _ c.requires.small
    (not_locked (versioned c.args.loaded.now c.args.version) c.args.word.now _
    (sym c.locks_alphabets.ensures ∙ c.if-locks_alphabets.false)
    (c.nine_characters.ensures.nine ∙ ap (λ a. filled (spelled_by a c.args.word.now)) c.alphabets.ensures))
    c.packed_six-else-locks_alphabets.ensures
