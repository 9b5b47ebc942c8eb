use Rattle.std.proofs.Common.{◌≡◌, ◌*◌, ap, sym, subst, ◌∙◌, arith, length, slice_index}
use Rattle.std.proofs.lemmas.List.{length-take-le}
use Rattle.zcore.specs.Header.{HasDictionaryHead, IsDictionary}
use Rattle.machine_frames.specs.Contents.{memory_of}
use Rattle.machine_lines.proofs.Lines.{base_kept}
use Rattle.machine_lines.proofs.Buffers.{line_filled}
use Rattle.machine_lines.proofs.line.fill_words.Goals as goal

pub parse-words-requires-clause-head : goal.parse-words-requires-clause-head
parse-words-requires-clause-head c =
    let headed = c.requires.store.headed in
    subst (λ m. HasDictionaryHead m c.args.header.now.dictionary.address)
    (sym (c.memory-memory.ensures ∙ ap memory_of c.store.ensures))
    (subst (HasDictionaryHead (memory_of c.args.store.now.store)) (sym headed.dictionary) headed.head)

pub parse-words-requires-clause-ordered : goal.parse-words-requires-clause-ordered
parse-words-requires-clause-ordered c =
    let headed = c.requires.store.headed in
    λ ordered.
    subst (λ m. IsDictionary m c.args.header.now.dictionary.address)
    (sym (c.memory-memory.ensures ∙ ap memory_of c.store.ensures))
    (subst (IsDictionary (memory_of c.args.store.now.store)) (sym headed.dictionary) (headed.searchable ordered))

pub fill_counted-requires-2-clause-room : goal.fill_counted-requires-2-clause-room
fill_counted-requires-2-clause-room c =
    let base = base_kept c.args.store.now c.fill_counted.new.store c.in_ok-fill_counted.ensures.filled.goes_on in
    let e = ap (λ m. slice_index m c.args.parse_buffer) (c.memory-memory.ensures ∙ ap memory_of c.store.ensures) in
    let parse = c.parse-words.ensures in
    let long = length-take-le (4 * c.parse-words.result) c.parse-words.new.bytes
    (omega (arith, parse.size, parse.few, c.requires.bytes_room, e)) in
    omega (arith, base, long, e, parse.few, c.requires.words_room c.requires.given)

pub returns-clause-filled : goal.returns-clause-filled
returns-clause-filled c =
    line_filled c.args.store.now c.fill_counted.new.store c.fill_counted-2.new.store c.memory-memory.result.now
    c.args.header.now.dictionary.address c.args.text_buffer c.args.parse_buffer _ c.args.letters.now _
    c.fill_counted-2.result
    c.requires.given (c.memory-memory.ensures ∙ ap memory_of c.store.ensures)
    c.requires.store.headed.dictionary c.parse-words.ensures.count c.parse-words.ensures.bytes
    c.in_ok-fill_counted.ensures.filled c.fill_counted-2.ensures.filled
