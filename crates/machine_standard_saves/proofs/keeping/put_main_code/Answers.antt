use Rattle.std.proofs.Common.{◌≡◌, ◌-◌, List, ℕ, ap, sym, ◌∙◌, arith, length, ◌++◌}
use Rattle.iff_files.specs.Frames.{frame_bytes, main_frame}
use Rattle.iff_files.specs.declared.frames.FrameHead.{FrameHead}
use Rattle.machine_frames.specs.Contents.{memory_of}
use Rattle.machine_standard_saves.specs.Written.{frame_at}
use Rattle.machine_standard_saves.proofs.WrittenFrames.{bounded, has_words, main_stack}
use Rattle.machine_standard_saves.proofs.keeping.put_main_code.Goals as goal

pub overflow_sub-bottom : goal.overflow_sub-bottom
overflow_sub-bottom c =
    let h = has_words c.args.store.now.store 0 c.in-Some.head c.requires c.requires.some c.in-Some.ensures.1 in
    omega (arith, h.words, c.end_of-top.ensures)

pub words_of-stack-requires-clause-most : goal.words_of-stack-requires-clause-most
words_of-stack-requires-clause-most c =
    let h = has_words c.args.store.now.store 0 c.in-Some.head c.requires c.requires.some c.in-Some.ensures.1 in
    omega (arith, h.most, c.end_of-top.ensures)

pub put_main-requires : goal.put_main-requires
put_main-requires c =
    let s = c.args.store.now.store in
    let b = bounded (length (memory_of s)) (frame_at s 0) c.in-Some.head c.in-Some.ensures.0 c.in-Some.ensures.1 in
    let stack = main_stack s c.end_of-top.result c.in-Some.head c.words_of-stack.result.now c.requires c.in-Some.ensures.1
    c.end_of-top.ensures c.words_of-stack.ensures in
    omega (
      arith,
      b.words,
      ap (λ (l : List ℕ). length l) stack,
      ap (λ (h : FrameHead). h.words) c.in-Some.ensures.1,
    )

pub returns : goal.returns
returns c =
    let s = c.args.store.now.store in
    let stack = main_stack s c.end_of-top.result c.in-Some.head c.words_of-stack.result.now c.requires c.in-Some.ensures.1
    c.end_of-top.ensures c.words_of-stack.ensures in (
      c.in-Some.ensures.0,
      c.in_ok-put_main.ensures
          ∙ ap (λ (t : List ℕ). c.args.out.now.items ++ frame_bytes (main_frame t)) stack,
    )
