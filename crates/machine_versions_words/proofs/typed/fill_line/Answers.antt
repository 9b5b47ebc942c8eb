use Rattle.std.proofs.Common.{◌≡◌, ◌+◌, ◌-◌, ap, ◌∙◌, arith, length, map, take, slice_index}
use Rattle.std.proofs.lemmas.List.{length-take}
use Rattle.zcore_standard.specs.Input.{codes_typed, small}
use Rattle.zcore_versions.specs.Reading.{letters_for}
use Rattle.zcore_versions.specs.Versions.{versioned}
use Rattle.machine_frames.specs.Contents.{memory_of}
use Rattle.machine_frames.proofs.Kept.{length-memory}
use Rattle.machine_standard_words.proofs.TypedLines.{slots_given}
use Rattle.machine_versions_words.proofs.Typing.{takes_letters, line_taken}
use Rattle.machine_versions_words.proofs.typed.fill_line.Goals as goal

pub bounds-memory-text : goal.bounds-memory-text
bounds-memory-text c =
    let s = c.args.store.now.store in
    let r = takes_letters (memory_of s) c.args.text c.args.parse c.requires.right c.requires.given in
    omega (
      arith,
      r.room,
      ap length (c.memory-memory.ensures ∙ ap memory_of c.store.ensures),
      length-memory s c.requires.store.sound,
    )

pub overflow_sub-most : goal.overflow_sub-most
overflow_sub-most c =
    let r = takes_letters (memory_of c.args.store.now.store) c.args.text c.args.parse c.requires.right c.requires.given in
    omega (arith, r.some, ap (λ m. slice_index m c.args.text) (c.memory-memory.ensures ∙ ap memory_of c.store.ensures))

pub fill_letters-requires-clause-few : goal.fill_letters-requires-clause-few
fill_letters-requires-clause-few c =
    let size : length c.put_small_letters-count.new.letters ≡ 255 = c.put_small_letters-count.array_long in
    let long = length-take c.put_small_letters-count.result c.put_small_letters-count.new.letters in
    omega (arith, long, size)

pub fill_letters-requires-clause-past_header : goal.fill_letters-requires-clause-past_header
fill_letters-requires-clause-past_header c =
    (takes_letters (memory_of c.args.store.now.store) c.args.text c.args.parse c.requires.right c.requires.given).past

pub fill_letters-requires-clause-room : goal.fill_letters-requires-clause-room
fill_letters-requires-clause-room c =
    let is = c.memory-memory.ensures ∙ ap memory_of c.store.ensures in
    let r = takes_letters (memory_of c.args.store.now.store) c.args.text c.args.parse c.requires.right c.requires.given in
    let long = length-take c.put_small_letters-count.result c.put_small_letters-count.new.letters in
    omega (
      arith,
      r.room,
      r.some,
      long,
      c.put_small_letters-count.ensures.most,
      ap (λ m. slice_index m c.args.text) is,
    )

pub fill_letters-requires-clause-words_past_header : goal.fill_letters-requires-clause-words_past_header
fill_letters-requires-clause-words_past_header c = λ some.
    let m = memory_of c.args.store.now.store in
    let r = takes_letters m c.args.text c.args.parse c.requires.right c.requires.given in
    (slots_given m c.args.parse r.slots some).past

pub fill_letters-requires-clause-words_room : goal.fill_letters-requires-clause-words_room
fill_letters-requires-clause-words_room c = λ some.
    let m = memory_of c.args.store.now.store in
    let r = takes_letters m c.args.text c.args.parse c.requires.right c.requires.given in
    (slots_given m c.args.parse r.slots some).room

pub returns-clause-filled : goal.returns-clause-filled
returns-clause-filled c =
    line_taken c.args.store.now c.fill_letters.new.store (versioned c.args.loaded.now c.args.version) c.args.text
    c.args.parse _ c.args.line.now c.fill_letters.result c.requires.given
    (c.put_small_letters-count.ensures.letters
    ∙ ap (λ x. map (small x) (take (slice_index c.memory-memory.result.now c.args.text - 1) (codes_typed x c.args.line.now)))
    c.characters-extra.ensures
    ∙ ap (λ m. letters_for c.args.loaded.now.characters m c.args.text c.args.line.now)
    (c.memory-memory.ensures ∙ ap memory_of c.store.ensures))
    c.fill_letters.ensures.filled
