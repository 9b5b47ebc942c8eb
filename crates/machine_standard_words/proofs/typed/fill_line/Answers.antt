use Rattle.std.proofs.Common.{◌≡◌, ◌+◌, ap, ◌∙◌, arith, length, slice_index}
use Rattle.std.proofs.lemmas.List.{length-take-le}
use Rattle.zcore_standard.specs.Texts.{alphabets_of}
use Rattle.zcore_standard.specs.Reading.{letters_with}
use Rattle.machine_frames.specs.Contents.{memory_of}
use Rattle.machine_frames.proofs.Kept.{length-memory}
use Rattle.machine_standard_words.proofs.TypedLines.{room_numbers, slots_given, line_as}
use Rattle.machine_standard_words.proofs.typed.fill_line.Goals as goal

pub put_letters-count-requires-clause-within : goal.put_letters-count-requires-clause-within
put_letters-count-requires-clause-within c =
    let s = c.args.store.now.store in
    let is = c.memory-memory.ensures ∙ ap memory_of c.store.ensures in
    let r = room_numbers (memory_of s) c.args.text c.requires.room in
    omega (
      arith,
      r.room,
      ap length is,
      ap (λ m. slice_index m c.args.text) is,
      length-memory s c.requires.store.sound,
    )

pub put_letters-count-requires-clause-left : goal.put_letters-count-requires-clause-left
put_letters-count-requires-clause-left c =
    let is = c.memory-memory.ensures ∙ ap memory_of c.store.ensures in
    let r = room_numbers (memory_of c.args.store.now.store) c.args.text c.requires.room in
    omega (arith, r.left, ap (λ m. slice_index m (c.args.text + 1)) is, ap (λ m. slice_index m c.args.text) is)

pub fill_letters-requires-clause-past_header : goal.fill_letters-requires-clause-past_header
fill_letters-requires-clause-past_header c =
    (room_numbers (memory_of c.args.store.now.store) c.args.text c.requires.room).past

pub fill_letters-requires-clause-room : goal.fill_letters-requires-clause-room
fill_letters-requires-clause-room c =
    let is = c.memory-memory.ensures ∙ ap memory_of c.store.ensures in
    let r = room_numbers (memory_of c.args.store.now.store) c.args.text c.requires.room in
    let size : length c.put_letters-count.new.letters ≡ 255 = c.put_letters-count.array_long in
    let long = length-take-le c.put_letters-count.result c.put_letters-count.new.letters
    (omega (arith, size, c.put_letters-count.ensures.most)) in
    omega (arith, r.room, long, c.put_letters-count.ensures.few, ap (λ m. slice_index m c.args.text) is)

pub fill_letters-requires-clause-words_past_header : goal.fill_letters-requires-clause-words_past_header
fill_letters-requires-clause-words_past_header c = λ some.
    (slots_given (memory_of c.args.store.now.store) c.args.parse c.requires.slots some).past

pub fill_letters-requires-clause-words_room : goal.fill_letters-requires-clause-words_room
fill_letters-requires-clause-words_room c = λ some.
    (slots_given (memory_of c.args.store.now.store) c.args.parse c.requires.slots some).room

pub returns-clause-filled : goal.returns-clause-filled
returns-clause-filled c =
    line_as c.args.store.now c.fill_letters.new.store (alphabets_of c.args.loaded.now) c.args.text c.args.parse _ _ c.fill_letters.result
    (c.put_letters-count.ensures.letters
    ∙ ap (λ x. letters_with x c.memory-memory.result.now c.args.text c.args.line.now) c.characters-extra.ensures
    ∙ ap (λ m. letters_with c.args.loaded.now.characters m c.args.text c.args.line.now)
    (c.memory-memory.ensures ∙ ap memory_of c.store.ensures))
    c.fill_letters.ensures.filled
