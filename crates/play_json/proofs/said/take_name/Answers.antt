use Rattle.std.proofs.Common.{◌∙◌}
use Rattle.play_json.specs.declared.kind.Kind.TheVariants as kinds
use Rattle.play_json.specs.Said.{held}
use Rattle.play_json.proofs.Saying.{may_say, name_given, name_lost, name_unmet}
use Rattle.play_json.proofs.said.take_name.Goals as goal

pub given_for-requires : goal.given_for-requires
given_for-requires g c = λ game s p. (c.requires.asked game s p).0

pub returns-in-Ok : goal.returns-in-Ok
returns-in-Ok g c = λ game s p.
    let given = c.in-Ok.ensures game s p.session in
    name_given game s c.args.lines.now.marks c.args.line.now given.answer c.deref.result.now c.args.purpose
    (held c.give.new.session c.give.new.lines) c.give.result (c.requires.asked game s p.session)
    (c.deref.ensures.value ∙ given.given) (c.give.ensures game s p)

pub returns-in-Err-Memory : goal.returns-in-Err-Memory
returns-in-Err-Memory g c = λ game s p.
    let h = held c.args.session.now c.args.lines.now in
    name_unmet game s c.args.lines.now.marks c.args.line.now c.args.purpose h c.pass.result
    (c.requires.asked game s p.session) (may_say game kinds.NoMemory s h c.pass.result c.pass.ensures p)

pub returns-in-Err-Unkept : goal.returns-in-Err-Unkept
returns-in-Err-Unkept g c = λ game s p.
    name_lost game s c.args.lines.now.marks c.args.line.now c.args.purpose c.args.session.now
    (c.requires.asked game s p.session) p.session
