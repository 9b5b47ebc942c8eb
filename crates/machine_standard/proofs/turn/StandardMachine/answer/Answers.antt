use Rattle.std.proofs.Common.{refl}
use Rattle.machine.proofs.Turning.{ends_given_up, front_still}
use Rattle.machine_standard.specs.Loads.{story_of}
use Rattle.machine_standard.proofs.turn.StandardMachine.answer.Goals as goal

pub put_typed-requires-clause-store : goal.put_typed-requires-clause-store
put_typed-requires-clause-store c = c.requires.store.store.sound

pub answer_typed-requires-clause-typed : goal.answer_typed-requires-clause-typed
answer_typed-requires-clause-typed c = c.in-Ok.ensures (story_of c.args.self.now) refl

pub returns-in-Err-clause-ends : goal.returns-in-Err-clause-ends
returns-in-Err-clause-ends c =
    ends_given_up _ _ refl
    (record {
      cells = c.abandon.ensures.cells;
      beginning = c.abandon.ensures.beginning;
      kept = c.abandon.ensures.kept;
      fixed = c.abandon.ensures.fixed;
    })
    (front_still c.args.text.now.items c.args.text.now.items refl)
