use Rattle.std.proofs.Common.{◌≡◌, true, false, refl, ap, sym, ◌∙◌, arith, length}
use Rattle.iff_files.specs.Frames.{size_of, words_of}
use Rattle.iff_files.specs.declared.frames.FrameHead.{FrameHead}
use Rattle.machine_frames.specs.Contents.{memory_of}
use Rattle.machine_frames.proofs.Steps.{went_err, went_sound}
use Rattle.machine_standard_saves.proofs.CallsBack.{all_back, are_read, calls_follow, frame_parts, main_gives_up, main_room}
use Rattle.machine_standard_saves.proofs.CallsBack.{main_values}
use Rattle.machine_standard_saves.proofs.restoring.put_back.Goals as goal

pub returns-in_default : goal.returns-in_default
returns-in_default c = λ read are.
    let b = are_read (length c.memory.result.now) _ c.args.stacks.now read
    (ap length (c.memory.ensures ∙ ap memory_of c.store.ensures)) are in
    let clash : true ≡ false = sym b.is ∙ c.in_default.ensures in
    absurd (cc)

pub put_back_one-requires-clause-whole : goal.put_back_one-requires-clause-whole
put_back_one-requires-clause-whole c =
    let p = frame_parts (length c.memory.result.now) 65536 c.args.stacks.now c.in-Some.ensures.0 in
    omega (arith, p.end, ap (λ (h : FrameHead). size_of h) c.in-Some.ensures.1)

pub put_back_one-requires-clause-few : goal.put_back_one-requires-clause-few
put_back_one-requires-clause-few c =
    let p = frame_parts (length c.memory.result.now) 65536 c.args.stacks.now c.in-Some.ensures.0 in
    omega (arith, p.words, ap (λ (h : FrameHead). words_of h) c.in-Some.ensures.1)

pub overflow_sub-most : goal.overflow_sub-most
overflow_sub-most c =
    let p = frame_parts (length c.memory.result.now) 65536 c.args.stacks.now c.in-Some.ensures.0 in
    omega (arith, p.words, ap (λ (h : FrameHead). words_of h) c.in-Some.ensures.1, c.word_count-most.ensures)

pub bytes_after-calls-requires : goal.bytes_after-calls-requires
bytes_after-calls-requires c =
    let p = frame_parts (length c.memory.result.now) 65536 c.args.stacks.now c.in-Some.ensures.0 in
    omega (arith, p.end, ap (λ (h : FrameHead). size_of h) c.in-Some.ensures.1, c.size.ensures)

pub returns-in_err-put_back_one : goal.returns-in_err-put_back_one
returns-in_err-put_back_one c = λ read are.
    went_err _ c.from_residual.ensures.1
    (main_gives_up c.in-Some.head _ read c.requires.sound c.in_err-put_back_one.ensures)

pub put_back_calls-requires-clause-sound : goal.put_back_calls-requires-clause-sound
put_back_calls-requires-clause-sound c = went_sound c.in_ok-put_back_one.ensures

pub put_back_calls-requires-clause-main : goal.put_back_calls-requires-clause-main
put_back_calls-requires-clause-main c =
    let b = are_read (length c.memory.result.now) _ c.args.stacks.now c.requires.stacks.0
    (ap length (c.memory.ensures ∙ ap memory_of c.store.ensures)) c.requires.stacks.1 in
    (main_room _ _ (length c.memory.result.now) _ c.word_count-most.result c.args.stacks.now c.in-Some.head c.requires.stacks.0 b
    c.in-Some.ensures.1 refl c.word_count-most.ensures c.in_ok-put_back_one.ensures).0

pub put_back_calls-requires-clause-room : goal.put_back_calls-requires-clause-room
put_back_calls-requires-clause-room c =
    let b = are_read (length c.memory.result.now) _ c.args.stacks.now c.requires.stacks.0
    (ap length (c.memory.ensures ∙ ap memory_of c.store.ensures)) c.requires.stacks.1 in
    (main_room _ _ (length c.memory.result.now) _ c.word_count-most.result c.args.stacks.now c.in-Some.head c.requires.stacks.0 b
    c.in-Some.ensures.1 refl c.word_count-most.ensures c.in_ok-put_back_one.ensures).1

pub put_back_calls-requires-clause-calls : goal.put_back_calls-requires-clause-calls
put_back_calls-requires-clause-calls c =
    let b = are_read (length c.memory.result.now) _ c.args.stacks.now c.requires.stacks.0
    (ap length (c.memory.ensures ∙ ap memory_of c.store.ensures)) c.requires.stacks.1 in (
      c.requires.stacks.0.calls,
      calls_follow (length c.memory.result.now) _ c.word_count-most.result c.size.result c.args.stacks.now _ c.in-Some.head
          c.requires.stacks.0 b c.in-Some.ensures.1 refl c.word_count-most.ensures c.size.ensures
          c.bytes_after-calls.ensures,
    )

pub returns : goal.returns
returns c = λ read are.
    let b = are_read (length c.memory.result.now) _ c.args.stacks.now read
    (ap length (c.memory.ensures ∙ ap memory_of c.store.ensures)) are in
    all_back c.put_back_calls.result read _ read.calls c.in_ok-put_back_one.ensures
    (c.put_back_calls.ensures read.calls
    (calls_follow (length c.memory.result.now) _ c.word_count-most.result c.size.result c.args.stacks.now _ c.in-Some.head
    read b c.in-Some.ensures.1 refl c.word_count-most.ensures c.size.ensures c.bytes_after-calls.ensures))
    (main_values (length c.memory.result.now) c.args.stacks.now read c.in-Some.head b c.in-Some.ensures.1) refl
