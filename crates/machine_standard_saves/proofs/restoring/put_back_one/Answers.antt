use Rattle.std.proofs.Common.{◌≡◌, List, ℕ, ap, ◌∙◌, arith, drop, length}
use Rattle.std.proofs.lemmas.List.{length-drop}
use Rattle.iff_files.specs.Frames.{words_from, words_of}
use Rattle.machine_standard_saves.proofs.CallsBack.{call_back, length-words_from, main_back, read_values}
use Rattle.machine_standard_saves.proofs.restoring.put_back_one.Goals as goal

pub read_words-requires : goal.read_words-requires
read_words-requires c = omega (
  arith,
  c.requires.whole,
  ap length c.bytes_after.ensures,
  length-drop 8 c.args.bytes.now,
  c.word_count.ensures,
)

pub returns-then-is_main : goal.returns-then-is_main
returns-then-is_main c =
    main_back c.begin_frames.result c.args.is_main c.args.head c.as_slice.result.now _ c.if-is_main.true
    (c.as_slice.ensures.value
    ∙ read_values _ _ _ _ c.args.head c.args.bytes.now c.in-Ok.ensures c.clear.ensures.items c.word_count.ensures
    c.bytes_after.ensures)
    c.begin_frames.ensures

pub begin_frames-requires-clause-room : goal.begin_frames-requires-clause-room
begin_frames-requires-clause-room c =
    let values = c.as_slice.ensures.value
    ∙ read_values _ _ _ _ c.args.head c.args.bytes.now c.in-Ok.ensures c.clear.ensures.items c.word_count.ensures
    c.bytes_after.ensures in
    omega (
      arith,
      ap (λ (l : List ℕ). length l) values,
      length-words_from (words_of c.args.head) (drop 8 c.args.bytes.now),
      c.requires.few,
    )

pub push_frame-requires-clause-locals : goal.push_frame-requires-clause-locals
push_frame-requires-clause-locals c =
    let values = c.as_slice-else-is_main.ensures.value
    ∙ read_values _ _ _ _ c.args.head c.args.bytes.now c.in-Ok.ensures c.clear.ensures.items c.word_count.ensures
    c.bytes_after.ensures in
    omega (
      arith,
      ap (λ (l : List ℕ). length l) values,
      length-words_from (words_of c.args.head) (drop 8 c.args.bytes.now),
    )

pub push_frame-requires-clause-room : goal.push_frame-requires-clause-room
push_frame-requires-clause-room c =
    let values = c.as_slice-else-is_main.ensures.value
    ∙ read_values _ _ _ _ c.args.head c.args.bytes.now c.in-Ok.ensures c.clear.ensures.items c.word_count.ensures
    c.bytes_after.ensures in
    omega (
      arith,
      ap (λ (l : List ℕ). length l) values,
      length-words_from (words_of c.args.head) (drop 8 c.args.bytes.now),
      c.requires.room c.if-is_main.false,
    )

pub returns-else-is_main : goal.returns-else-is_main
returns-else-is_main c =
    call_back c.push_frame.result c.args.is_main c.args.head c.as_slice-else-is_main.result.now _ c.if-is_main.false
    (c.as_slice-else-is_main.ensures.value
    ∙ read_values _ _ _ _ c.args.head c.args.bytes.now c.in-Ok.ensures c.clear.ensures.items c.word_count.ensures
    c.bytes_after.ensures)
    c.push_frame.ensures
