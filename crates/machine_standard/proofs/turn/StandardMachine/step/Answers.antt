use Rattle.std.proofs.Common.{ap, subst, sym, ◌∙◌, length, arith, drop, List, ℕ, refl}
use Rattle.std.specs.Prelude.{◌&&◌}
use Rattle.machine_frames.specs.Contents.{memory_of}
use Rattle.machine_frames.specs.States.{state_of}
use Rattle.machine.proofs.Turning.{long_memory}
use Rattle.machine_standard_windows.specs.TurnState.{place}
use Rattle.machine_standard.specs.Script.{is_heard, is_on}
use Rattle.machine_standard.specs.Scripts.{AddsPrinted}
use Rattle.machine_standard.proofs.Scripting.{adds_nothing, adds_printed, refused}
use Rattle.machine_standard.proofs.turn.StandardMachine.step.Goals as goal

pub is_scripted-is_scripted-requires : goal.is_scripted-is_scripted-requires
is_scripted-is_scripted-requires c =
    let e = ap length (c.memory.ensures ∙ ap memory_of c.store.ensures) in
    omega (arith, e, long_memory c.args.store.now.store c.requires.store.store.sound)

pub step_any-done-requires-clause-store : goal.step_any-done-requires-clause-store
step_any-done-requires-clause-store c = c.requires.store.store

pub step_any-done-requires-clause-dynamic : goal.step_any-done-requires-clause-dynamic
step_any-done-requires-clause-dynamic c = c.requires.store.dynamic

pub step_any-done-requires-clause-version : goal.step_any-done-requires-clause-version
step_any-done-requires-clause-version c = c.requires.store.version

pub returns-then-not-is_scripted-clause-script : goal.returns-then-not-is_scripted-clause-script
returns-then-not-is_scripted-clause-script c =
    let here = place c.args.turn.now c.args.here in
    let memory = c.memory.ensures ∙ ap memory_of c.store.ensures in
    adds_nothing c.step_any-done.result c.args.self.now.loaded here
    (state_of c.args.store.now.store (drop c.args.start c.args.text.now.items)) _ c.args.script.now.items
    (sym (c.is_scripted-is_scripted.ensures c.args.here
    ∙ ap (λ (m : List ℕ). is_on c.args.self.now.loaded m && is_heard here) memory)
    ∙ c.if-not-is_scripted.true)

pub returns-in-Ok-clause-script : goal.returns-in-Ok-clause-script
returns-in-Ok-clause-script c =
    let here = place c.args.turn.now c.args.here in
    let memory = c.memory.ensures ∙ ap memory_of c.store.ensures in
    adds_printed c.step_any-done.result c.args.self.now.loaded here
    (state_of c.args.store.now.store (drop c.args.start c.args.text.now.items)) c.args.start c.len-long.result
    c.args.text.now.items c.step_any-done.new.text.items c.args.script.now.items c.add_printed.new.script.items
    c.requires.text.begun (omega arith) refl
    (sym (c.is_scripted-is_scripted.ensures c.args.here
    ∙ ap (λ (m : List ℕ). is_on c.args.self.now.loaded m && is_heard here) memory)
    ∙ c.if-not-is_scripted.false)
    (subst (λ (l : List ℕ). AddsPrinted c.step_any-done.result (drop c.len-long.result l) c.args.script.now.items
    c.add_printed.new.script.items) c.deref.ensures.value c.in-Ok.ensures)

-- memory for the transcript was refused
pub returns-in-Err-clause-told : goal.returns-in-Err-clause-told
returns-in-Err-clause-told c = record {
  told = refused _ c.step_any-done.ensures.told
      (record {
        cells = c.abandon.ensures.cells;
        beginning = c.abandon.ensures.beginning;
        kept = c.abandon.ensures.kept;
        fixed = c.abandon.ensures.fixed;
      });
}
