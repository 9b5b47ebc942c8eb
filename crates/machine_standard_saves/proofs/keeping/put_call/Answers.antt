use Rattle.std.proofs.Common.{◌≡◌, ◌-◌, List, ℕ, ap, sym, ◌∙◌, arith, length, ◌++◌}
use Rattle.zcore.specs.State.{Frame}
use Rattle.iff_files.specs.Frames.{frame_bytes}
use Rattle.iff_files.specs.declared.frames.FrameHead.{FrameHead}
use Rattle.machine_frames.specs.Contents.{memory_of}
use Rattle.machine_standard_saves.specs.Written.{frame_at}
use Rattle.machine_standard_saves.proofs.WrittenFrames.{bounded, frame_is, has_words}
use Rattle.machine_standard_saves.proofs.keeping.put_call.Goals as goal

pub overflow_sub-bottom : goal.overflow_sub-bottom
overflow_sub-bottom c =
    let h = has_words c.args.store.now.store c.args.number c.in-Some.head c.requires.sound c.requires.number
    c.in-Some.ensures.1 in
    omega (arith, h.words, c.end_of-top.ensures)

pub overflow_sub-base : goal.overflow_sub-base
overflow_sub-base c =
    let h = has_words c.args.store.now.store c.args.number c.in-Some.head c.requires.sound c.requires.number
    c.in-Some.ensures.1 in
    omega (arith, h.words, c.end_of-top.ensures)

pub words_of-locals-requires-clause-most : goal.words_of-locals-requires-clause-most
words_of-locals-requires-clause-most c =
    let h = has_words c.args.store.now.store c.args.number c.in-Some.head c.requires.sound c.requires.number
    c.in-Some.ensures.1 in
    omega (arith, h.most, c.end_of-top.ensures)

pub words_of-stack-requires-clause-most : goal.words_of-stack-requires-clause-most
words_of-stack-requires-clause-most c =
    let h = has_words c.args.store.now.store c.args.number c.in-Some.head c.requires.sound c.requires.number
    c.in-Some.ensures.1 in
    omega (arith, h.most, c.end_of-top.ensures)

pub put_frame-requires : goal.put_frame-requires
put_frame-requires c =
    let s = c.args.store.now.store in
    let b = bounded (length (memory_of s)) (frame_at s c.args.number) c.in-Some.head c.in-Some.ensures.0
    c.in-Some.ensures.1 in
    let f = frame_is s c.args.number c.end_of-top.result c.in-Some.head c.words_of-locals.result.now
    c.words_of-stack.result.now c.requires.sound c.requires.number c.in-Some.ensures.1 c.end_of-top.ensures
    c.words_of-locals.ensures c.words_of-stack.ensures in
    record {
      return_address = omega (arith, b.address, c.requires.sound.short);
      arguments = b.arguments;
      locals = ap (λ (x : Frame). length x.locals) f ∙ sym (ap (λ (h : FrameHead). h.locals) c.in-Some.ensures.1);
      few = b.locals;
      words = ap (λ (x : Frame). length x.stack) f ∙ sym (ap (λ (h : FrameHead). h.words) c.in-Some.ensures.1);
    }

pub returns : goal.returns
returns c =
    let s = c.args.store.now.store in
    let frame = frame_is s c.args.number c.end_of-top.result c.in-Some.head c.words_of-locals.result.now
    c.words_of-stack.result.now c.requires.sound c.requires.number c.in-Some.ensures.1 c.end_of-top.ensures
    c.words_of-locals.ensures c.words_of-stack.ensures in (
      c.in-Some.ensures.0,
      c.in_ok-put_frame.ensures ∙ ap (λ (f : Frame). c.args.out.now.items ++ frame_bytes f) frame,
    )
