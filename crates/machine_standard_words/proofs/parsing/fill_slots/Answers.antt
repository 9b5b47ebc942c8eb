use Rattle.std.proofs.Common.{◌≡◌, ◌*◌, ap, sym, subst, ◌∙◌, arith, length, slice_index}
use Rattle.std.proofs.lemmas.List.{length-take-le}
use Rattle.zcore.specs.Header.{HasDictionaryHead, IsDictionary}
use Rattle.zcore_standard.specs.Texts.{alphabets_of}
use Rattle.machine_frames.specs.Contents.{memory_of}
use Rattle.machine_frames.proofs.Kept.{length-memory}
use Rattle.machine_standard_words.proofs.Tokens.{slots_numbers, slots_filled}
use Rattle.machine_standard_words.proofs.parsing.fill_slots.Goals as goal

pub bounds-memory-at : goal.bounds-memory-at
bounds-memory-at c =
    let s = c.args.store.now.store in
    let h = slots_numbers (memory_of s) c.args.parse c.requires.slots in
    let long = ap length (c.memory-memory.ensures ∙ ap memory_of c.store.ensures) in
    omega (arith, h.room, long, length-memory s c.requires.store.sound)

pub slots-words-requires-clause-head : goal.slots-words-requires-clause-head
slots-words-requires-clause-head c =
    subst (λ k. HasDictionaryHead k c.args.search.dictionary)
    (sym (c.memory-memory.ensures ∙ ap memory_of c.store.ensures)) c.requires.head

pub slots-words-requires-clause-room : goal.slots-words-requires-clause-room
slots-words-requires-clause-room c =
    let s = c.args.store.now.store in
    let is = c.memory-memory.ensures ∙ ap memory_of c.store.ensures in
    let h = slots_numbers (memory_of s) c.args.parse c.requires.slots in
    let room = ap (λ m. slice_index m c.args.parse) is in
    let high = ap (λ m. slice_index m 14) is in
    let low = ap (λ m. slice_index m 15) is in
    omega (
      arith,
      h.room,
      room,
      high,
      low,
      c.type_inv.memory 14,
      c.type_inv.memory 15,
      ap length is,
      length-memory s c.requires.store.sound,
    )

pub slots-words-requires-clause-ordered : goal.slots-words-requires-clause-ordered
slots-words-requires-clause-ordered c =
    let headed = c.requires.store.headed in
    λ ordered.
    subst (λ m. IsDictionary m c.args.search.dictionary)
    (sym (c.memory-memory.ensures ∙ ap memory_of c.store.ensures))
    (subst (IsDictionary (memory_of c.args.store.now.store)) (sym (c.requires.own ordered ∙ headed.dictionary))
    (headed.searchable (c.requires.ordered ordered)))

pub fill_counted-requires-clause-after_header : goal.fill_counted-requires-clause-after_header
fill_counted-requires-clause-after_header c =
    let h = slots_numbers (memory_of c.args.store.now.store) c.args.parse c.requires.slots in
    omega (arith, h.past)

pub fill_counted-requires-clause-room : goal.fill_counted-requires-clause-room
fill_counted-requires-clause-room c =
    let size : length c.slots-words.new.bytes ≡ 1020 = c.slots-words.array_long in
    let long = length-take-le (4 * c.slots-words.result) c.slots-words.new.bytes
    (omega (arith, c.slots-words.type_inv)) in
    let h = slots_numbers (memory_of c.args.store.now.store) c.args.parse c.requires.slots in
    let room = ap (λ m. slice_index m c.args.parse) (c.memory-memory.ensures ∙ ap memory_of c.store.ensures) in
    omega (arith, long, h.room, room, c.slots-words.ensures.few)

pub returns-clause-filled : goal.returns-clause-filled
returns-clause-filled c =
    slots_filled c.args.store.now c.fill_counted.new.store (alphabets_of c.args.loaded.now) c.memory-memory.result.now c.text_in.result.now
    _
    c.args.search.dictionary c.args.search.flag c.args.text c.args.parse c.slots-words.result c.fill_counted.result
    (c.memory-memory.ensures ∙ ap memory_of c.store.ensures) c.text_in.ensures.letters c.slots-words.ensures.count
    c.slots-words.ensures.bytes c.fill_counted.ensures.filled
