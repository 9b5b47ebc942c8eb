use Rattle.std.proofs.Common.{◌≡◌, ◌-◌, ℕ, List, ap, sym, ◌∙◌, arith, drop, length, subst}
use Rattle.std.proofs.lemmas.List.{length-drop}
use Rattle.iff_files.specs.Frames.{head_of, size_of, words_of}
use Rattle.iff_files.specs.declared.frames.FrameHead.{FrameHead}
use Rattle.machine_frames.proofs.Steps.{went_err}
use Rattle.machine_standard_saves.proofs.CallsBack.{call_gives_up, frame_parts, has_room, puts_none, puts_one}
use Rattle.machine_standard_saves.proofs.CallsBack.{put_all_back, PutsBack}
use Rattle.machine_standard_saves.proofs.restoring.put_back_calls.Goals as goal

pub loop-head-init : goal.loop-head-init
loop-head-init c = puts_none c.args.store.now c.args.size c.args.most c.args.bytes.now c.requires.sound c.requires.main
    c.requires.room c.requires.calls

pub put_back_one-requires-clause-sound : goal.put_back_one-requires-clause-sound
put_back_one-requires-clause-sound c = c.loop-head.invariant.goes_on.sound

pub put_back_one-requires-clause-whole : goal.put_back_one-requires-clause-whole
put_back_one-requires-clause-whole c =
    let p = frame_parts c.args.size c.loop-head.left c.loop-head.rest.now c.in-Some.ensures.0 in
    omega (arith, p.end, ap (λ (h : FrameHead). size_of h) c.in-Some.ensures.1)

pub put_back_one-requires-clause-few : goal.put_back_one-requires-clause-few
put_back_one-requires-clause-few c =
    (has_room _ _ _ _ _ _ _ _ c.loop-head.invariant c.in-Some.ensures.0 c.in-Some.ensures.1).few

pub put_back_one-requires-clause-calls : goal.put_back_one-requires-clause-calls
put_back_one-requires-clause-calls c = λ e.
    (has_room _ _ _ _ _ _ _ _ c.loop-head.invariant c.in-Some.ensures.0 c.in-Some.ensures.1).calls

pub put_back_one-requires-clause-room : goal.put_back_one-requires-clause-room
put_back_one-requires-clause-room c = λ e.
    (has_room _ _ _ _ _ _ _ _ c.loop-head.invariant c.in-Some.ensures.0 c.in-Some.ensures.1).room

pub overflow_sub-left : goal.overflow_sub-left
overflow_sub-left c =
    let p = frame_parts c.args.size c.loop-head.left c.loop-head.rest.now c.in-Some.ensures.0 in
    omega (arith, p.words, ap (λ (h : FrameHead). words_of h) c.in-Some.ensures.1, c.word_count-left.ensures)

pub bytes_after-rest-requires : goal.bytes_after-rest-requires
bytes_after-rest-requires c =
    let p = frame_parts c.args.size c.loop-head.left c.loop-head.rest.now c.in-Some.ensures.0 in
    omega (arith, p.end, ap (λ (h : FrameHead). size_of h) c.in-Some.ensures.1, c.size.ensures)

pub loop-head-smaller : goal.loop-head-smaller
loop-head-smaller c =
    let p = frame_parts c.args.size c.loop-head.left c.loop-head.rest.now c.in-Some.ensures.0 in
    omega (
      arith,
      p.end,
      p.head,
      ap (λ (h : FrameHead). size_of h) c.in-Some.ensures.1,
      c.size.ensures,
      ap length c.bytes_after-rest.ensures,
      length-drop c.size.result c.loop-head.rest.now,
    )

pub loop-head-preserved : goal.loop-head-preserved
loop-head-preserved c =
    subst (λ (r : List ℕ). PutsBack c.args.store.now c.put_back_one.new.store c.args.size c.args.most
    (c.loop-head.left - c.word_count-left.result) c.args.bytes.now r)
    (sym (c.bytes_after-rest.ensures ∙ ap (λ (n : ℕ). drop n c.loop-head.rest.now) c.size.ensures))
    (subst (λ (n : ℕ). PutsBack c.args.store.now c.put_back_one.new.store c.args.size c.args.most
    (c.loop-head.left - n) c.args.bytes.now (drop (size_of c.in-Some.head) c.loop-head.rest.now)) (sym c.word_count-left.ensures)
    (puts_one _ _ _ _ _ _ _ _ c.in-Some.head c.loop-head.invariant c.in-Some.ensures.0 c.in-Some.ensures.1
    c.in_ok-put_back_one.ensures))

pub returns-in_err-put_back_one : goal.returns-in_err-put_back_one
returns-in_err-put_back_one c = λ calls are.
    went_err _ c.from_residual.ensures.1
    (call_gives_up _ _ _ _ _ c.in-Some.head _ calls c.loop-head.invariant c.in_err-put_back_one.ensures)

pub returns : goal.returns
returns c = put_all_back c.args.store.now c.loop-head.store c.args.size c.args.most c.loop-head.left c.args.bytes.now
    c.loop-head.rest.now c.loop-head.invariant c.in_default.ensures
