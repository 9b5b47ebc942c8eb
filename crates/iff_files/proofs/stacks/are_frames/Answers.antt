use Rattle.std.proofs.Common.{◌≡◌, ◌<◌, ◌-◌, ℕ, suc, List, Option, length, drop, ap, sym, ◌∙◌, arith}
use Rattle.std.specs.Option.{is_some}
use Rattle.std.proofs.lemmas.Bool.{eqb-true}
use Rattle.iff_files.specs.declared.frames.FrameHead.{FrameHead}
use Rattle.zcore.specs.State.{Frame}
use Rattle.iff_files.specs.Frames.{frames_in, head_of, size_of, words_of}
use Rattle.iff_files.proofs.ReadFrames.{frame_fits, frames_done, no_frames_left, not_frames, some_more}
use Rattle.iff_files.proofs.stacks.are_frames.Goals as goal

pub returns-then-frames-eq0 : goal.returns-then-frames-eq0
returns-then-frames-eq0 c =
    let size : ℕ = c.args.size in
    let words : ℕ = c.loop-rest.words in
    let rest : List ℕ = c.loop-rest.rest.now in
    let some : 0 < length rest = grind (arith, c.is_empty.ensures, c.loop-rest-test.true) in
    sym (ap (λ (t : ℕ). is_some (frames_in size t words rest)) c.if-frames-eq0.true
    ∙ ap (λ (t : Option (List Frame)). is_some t) (no_frames_left size words rest some))
    ∙ c.loop-rest.invariant

pub returns-in_default : goal.returns-in_default
returns-in_default c =
    let size : ℕ = c.args.size in
    let words : ℕ = c.loop-rest.words in
    let rest : List ℕ = c.loop-rest.rest.now in
    let some : 0 < length rest = grind (arith, c.is_empty.ensures, c.loop-rest-test.true) in
    let one : c.loop-rest.frames ≡ suc (c.loop-rest.frames - 1) = omega (arith, c.if-frames-eq0.false) in
    sym (ap (λ (t : ℕ). is_some (frames_in size t words rest)) one
    ∙ ap (λ (t : Option (List Frame)). is_some t)
    (not_frames size (c.loop-rest.frames - 1) words rest some c.in_default.ensures))
    ∙ c.loop-rest.invariant

pub overflow_sub-words : goal.overflow_sub-words
overflow_sub-words c =
    let count : words_of c.in-Some.head ≡ words_of (head_of c.loop-rest.rest.now) =
    ap (λ (t : FrameHead). words_of t) c.in-Some.ensures.1 in
    omega (
      arith,
      c.word_count-words.ensures,
      count,
      frame_fits c.args.size c.loop-rest.words c.loop-rest.rest.now c.in-Some.ensures.0,
    )

pub loop-rest-preserved : goal.loop-rest-preserved
loop-rest-preserved c =
    let size : ℕ = c.args.size in
    let words : ℕ = c.loop-rest.words in
    let rest : List ℕ = c.loop-rest.rest.now in
    let some : 0 < length rest = grind (arith, c.is_empty.ensures, c.loop-rest-test.true) in
    let one : c.loop-rest.frames ≡ suc (c.loop-rest.frames - 1) = omega (arith, c.if-frames-eq0.false) in
    let count : c.word_count-words.result ≡ words_of (head_of rest) =
    c.word_count-words.ensures ∙ ap (λ (t : FrameHead). words_of t) c.in-Some.ensures.1 in
    let after : c.bytes_after-rest.result.now ≡ drop (size_of (head_of rest)) rest =
    c.bytes_after-rest.ensures ∙ ap (λ (t : ℕ). drop t rest)
    (c.size.ensures ∙ ap (λ (t : FrameHead). size_of t) c.in-Some.ensures.1) in
    ap (λ (t : ℕ). is_some (frames_in size (c.loop-rest.frames - 1) (words - t) c.bytes_after-rest.result.now)) count
    ∙ ap (λ (t : List ℕ). is_some (frames_in size (c.loop-rest.frames - 1) (words - words_of (head_of rest)) t)) after
    ∙ sym (ap (λ (t : ℕ). is_some (frames_in size t words rest)) one
    ∙ some_more size (c.loop-rest.frames - 1) words rest some c.in-Some.ensures.0)
    ∙ c.loop-rest.invariant

pub returns : goal.returns
returns c =
    let rest : List ℕ = c.loop-rest.rest.now in
    let none : length rest ≡ 0 = eqb-true (length rest) 0 (sym c.is_empty.ensures ∙ c.loop-rest-test.false) in
    sym (ap (λ (t : Option (List Frame)). is_some t)
    (frames_done c.args.size c.loop-rest.frames c.loop-rest.words rest none))
    ∙ c.loop-rest.invariant
