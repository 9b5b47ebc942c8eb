use Rattle.std.proofs.Common.{◌∙◌, ap, drop, length, subst, arith}
use Rattle.std.proofs.lemmas.List.{length-drop}
use Rattle.ztext.specs.Bytes.{word_at}
use Rattle.machine_frames.specs.Contents.{memory_of}
use Rattle.zcore_standard.specs.Flags.{with_kept_bits}
use Rattle.machine_lines.specs.Lines.{Filled, Fills}
use Rattle.machine_frames.proofs.Kept.{length-memory}
use Rattle.machine_standard_windows.specs.TurnState.{place}
use Rattle.machine_standard_opcodes.proofs.Anew.{no_fuel, begun_anew, memory_restored, unpaid}
use Rattle.machine_standard_windows.proofs.TurnTexts.{keeps_still, told_seen_err}
use Rattle.machine_standard_opcodes.proofs.beginning.restart.Goals as goal

pub returns-then-here-eq0-clause-told : goal.returns-then-here-eq0-clause-told
returns-then-here-eq0-clause-told c = no_fuel _ _ c.args.loaded.now (place c.args.turn.now c.args.here)
    c.requires.sound c.if-here-eq0.true

pub returns-then-here-eq0-clause-text : goal.returns-then-here-eq0-clause-text
returns-then-here-eq0-clause-text c = keeps_still _ _ c.requires.text

pub returns-in_err-fuel-clause-told : goal.returns-in_err-fuel-clause-told
returns-in_err-fuel-clause-told c = told_seen_err (place c.args.turn.now) _ c.from_residual.ensures.1
    (unpaid _ _ c.args.loaded.now (place c.args.turn.now c.args.here) c.requires.sound c.if-here-eq0.false
    (rw (ap length c.dynamic-dynamic.ensures ∙ c.requires.dynamic) at c.in_err-fuel.ensures))

pub returns-in_err-fuel-clause-text : goal.returns-in_err-fuel-clause-text
returns-in_err-fuel-clause-text c = keeps_still _ _ c.requires.text

pub bounds-memory-6 : goal.bounds-memory-6
bounds-memory-6 c =
    let memory = ap length (c.memory-memory.ensures ∙ ap memory_of c.store.ensures) in
    omega (arith, memory, length-memory c.args.store.now.store c.requires.sound, c.requires.sound.static_base)

pub bounds-memory-7 : goal.bounds-memory-7
bounds-memory-7 c =
    let memory = ap length (c.memory-memory.ensures ∙ ap memory_of c.store.ensures) in
    omega (arith, memory, length-memory c.args.store.now.store c.requires.sound, c.requires.sound.static_base)

pub fill-requires-clause-room : goal.fill-requires-clause-room
fill-requires-clause-room c =
    let long = ap length c.after_header.ensures ∙ length-drop 64 c.dynamic-dynamic.result.now in
    omega (
      arith,
      long,
      ap length c.dynamic-dynamic.ensures,
      c.requires.dynamic,
      length-memory c.args.store.now.store c.requires.sound,
      c.requires.sound.static_base,
    )

pub returns-clause-told : goal.returns-clause-told
returns-clause-told c =
    let memory = c.memory-memory.ensures ∙ ap memory_of c.store.ensures in
    begun_anew c.args.store.now c.restore_flags.new.store c.empty.new.store _ _ c.args.loaded.now
    (place c.args.turn.now c.args.here) _ c.dice-turn.result c.clear.new.self.items _ c.dice-turn.ensures
    c.clear.ensures c.if-here-eq0.false
    (rw (ap length c.dynamic-dynamic.ensures ∙ c.requires.dynamic) at c.in_ok-fuel.ensures)
    (ap (λ m. word_at m 6) memory)
    (memory_restored c.args.store.now c.fill.new.store c.restore_flags.new.store c.args.loaded.now
    (subst (λ bytes. Fills c.args.store.now c.fill.new.store 64 bytes)
    (c.after_header.ensures ∙ ap (drop 64) c.dynamic-dynamic.ensures) c.in_ok-fill.ensures.filled)
    (subst (λ bytes. Filled c.fill.new.store c.restore_flags.new.store
    (with_kept_bits bytes (memory_of c.fill.new.store.store))) c.dynamic-dynamic.ensures
    c.in_ok-restore_flags.ensures.restored))
    c.in_ok-empty.ensures.emptied
    (c.cut_to_heard.ensures.heard c.args.here)
