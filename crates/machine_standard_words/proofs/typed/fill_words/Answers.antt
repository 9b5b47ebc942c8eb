use Rattle.std.proofs.Common.{◌≡◌, ◌*◌, ap, sym, subst, ◌∙◌, arith, length, slice_index}
use Rattle.std.proofs.lemmas.List.{length-take-le}
use Rattle.zcore.specs.Header.{HasDictionaryHead, IsDictionary}
use Rattle.zcore_standard.specs.Texts.{alphabets_of}
use Rattle.machine_frames.specs.Contents.{memory_of}
use Rattle.machine_frames.proofs.Kept.{length-memory}
use Rattle.machine_lines.proofs.Lines.{base_kept}
use Rattle.machine_standard_words.proofs.TypedLines.{typed_filled}
use Rattle.machine_standard_words.proofs.typed.fill_words.Goals as goal

pub bounds-memory-parse : goal.bounds-memory-parse
bounds-memory-parse c =
    let s = c.args.store.now.store in
    let long = ap length (c.memory-memory.ensures ∙ ap memory_of c.store.ensures) in
    omega (arith, c.requires.words_room c.requires.given, long, length-memory s c.requires.store.sound)

pub slots-words-requires-clause-head : goal.slots-words-requires-clause-head
slots-words-requires-clause-head c =
    let headed = c.requires.store.headed in
    subst (λ m. HasDictionaryHead m c.args.header.now.dictionary.address)
    (sym (c.memory-memory.ensures ∙ ap memory_of c.store.ensures))
    (subst (HasDictionaryHead (memory_of c.args.store.now.store)) (sym headed.dictionary) headed.head)

pub slots-words-requires-clause-ordered : goal.slots-words-requires-clause-ordered
slots-words-requires-clause-ordered c =
    let headed = c.requires.store.headed in
    λ ordered.
    subst (λ m. IsDictionary m c.args.header.now.dictionary.address)
    (sym (c.memory-memory.ensures ∙ ap memory_of c.store.ensures))
    (subst (IsDictionary (memory_of c.args.store.now.store)) (sym headed.dictionary) (headed.searchable ordered))

pub slots-words-requires-clause-room : goal.slots-words-requires-clause-room
slots-words-requires-clause-room c =
    let s = c.args.store.now.store in
    let is = c.memory-memory.ensures ∙ ap memory_of c.store.ensures in
    omega (
      arith,
      c.requires.words_room c.requires.given,
      ap (λ m. slice_index m c.args.parse) is,
      ap (λ m. slice_index m 14) is,
      ap (λ m. slice_index m 15) is,
      c.type_inv.memory 14,
      c.type_inv.memory 15,
      ap length is,
      length-memory s c.requires.store.sound,
    )

pub fill_counted-requires-2-clause-room : goal.fill_counted-requires-2-clause-room
fill_counted-requires-2-clause-room c =
    let base = base_kept c.args.store.now c.fill_counted.new.store c.in_ok-fill_counted.ensures.filled.goes_on in
    let e = ap (λ m. slice_index m c.args.parse) (c.memory-memory.ensures ∙ ap memory_of c.store.ensures) in
    let size : length c.slots-words.new.bytes ≡ 1020 = c.slots-words.array_long in
    let long = length-take-le (4 * c.slots-words.result) c.slots-words.new.bytes
    (omega (arith, c.slots-words.type_inv)) in
    omega (arith, base, long, e, c.slots-words.ensures.few, c.requires.words_room c.requires.given)

pub returns-clause-filled : goal.returns-clause-filled
returns-clause-filled c =
    typed_filled c.args.store.now c.fill_counted.new.store c.fill_counted-2.new.store (alphabets_of c.args.loaded.now)
    c.memory-memory.result.now
    c.args.header.now.dictionary.address c.args.text c.args.parse _ c.args.letters.now _
    c.fill_counted-2.result
    c.requires.given (c.memory-memory.ensures ∙ ap memory_of c.store.ensures)
    c.requires.store.headed.dictionary c.slots-words.ensures.count c.slots-words.ensures.bytes
    c.in_ok-fill_counted.ensures.filled c.fill_counted-2.ensures.filled
