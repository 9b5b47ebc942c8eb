use Rattle.std.proofs.Common.{◌≡◌, ℕ, Bool, true, [], subst, arith, ◌∙◌}
use Rattle.machine_standard_saves.specs.Written.{WritesCall, WritesFrames, WritesMain}
use Rattle.machine_standard_saves.proofs.WrittenFrames.{call_written, main_written, not_all}
use Rattle.machine_standard_saves.proofs.keeping.put_frames.Goals as goal

pub returns-then-not-is_main_told : goal.returns-then-not-is_main_told
returns-then-not-is_main_told c =
    not_all c.args.store.now.store 0 [] [] c.requires.some
    (subst (λ (b : Bool). WritesMain c.args.store.now.store c.args.out.now.items c.put_main_code.new.out.items b)
    c.if-not-is_main_told.true c.in_ok-is_main_told.ensures)

pub loop-number-init : goal.loop-number-init
loop-number-init c =
    main_written c.args.store.now.store c.args.out.now.items c.put_main_code.new.out.items
    (subst (λ (b : Bool). WritesMain c.args.store.now.store c.args.out.now.items c.put_main_code.new.out.items b)
    c.if-not-is_main_told.false c.in_ok-is_main_told.ensures)

pub returns-then-not-is_call_told : goal.returns-then-not-is_call_told
returns-then-not-is_call_told c =
    not_all c.args.store.now.store c.loop-number.number [] [] (omega (arith, c.loop-number-test.true, c.cell-frames.ensures))
    (subst (λ (b : Bool). WritesCall c.args.store.now.store c.loop-number.number c.loop-number.out.items
    c.put_call.new.out.items b) c.if-not-is_call_told.true c.in_ok-is_call_told.ensures)

pub loop-number-preserved : goal.loop-number-preserved
loop-number-preserved c =
    call_written c.args.store.now.store c.loop-number.number c.args.out.now.items c.loop-number.out.items
    c.put_call.new.out.items (omega (arith, c.loop-number.auto.number))
    (omega (arith, c.loop-number-test.true, c.cell-frames.ensures)) c.loop-number.invariant
    (subst (λ (b : Bool). WritesCall c.args.store.now.store c.loop-number.number c.loop-number.out.items
    c.put_call.new.out.items b) c.if-not-is_call_told.false c.in_ok-is_call_told.ensures)

pub returns : goal.returns
returns c =
    let all : c.loop-number.number ≡ c.cell-frames.result = omega
    (arith, c.loop-number-test.false, c.loop-number.auto.number-end, c.cell-frames.ensures, c.requires.some) in
    subst (λ (x : ℕ). WritesFrames c.args.store.now.store x c.args.out.now.items c.loop-number.out.items true)
    (all ∙ c.cell-frames.ensures) c.loop-number.invariant
