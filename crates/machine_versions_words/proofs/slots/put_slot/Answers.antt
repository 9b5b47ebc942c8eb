use Rattle.std.proofs.Common.{ap, ◌∙◌, ◌/◌, ◌%◌, ◌+◌, ◌∷◌, ◌++◌, [], take, length}
use Rattle.tables.specs.Placed.{word_of}
use Rattle.zcore_versions.specs.Keys.{entry_for}
use Rattle.zcore_versions.specs.Versions.{versioned}
use Rattle.machine_versions_words.proofs.slots.put_slot.Goals as goal

pub returns : goal.returns
returns c =
    let w = word_of c.args.word in
    let found = c.entry_for-entry.ensures
    ∙ ap (λ d. entry_for (versioned c.args.loaded.now c.args.version) c.args.memory.now d w.bytes) c.requires.own in
    c.put_four.ensures
    ∙ ap (λ n. take c.args.place c.args.bytes.now
    ++ ((n / 256) ∷ (n % 256) ∷ length w.bytes ∷ ((w.place + 1) % 256) ∷ [])) found
