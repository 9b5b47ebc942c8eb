use Rattle.std.proofs.Common.{sym, ◌∙◌}
use Rattle.zcore_standard.proofs.Room.{goes, stay}
use Rattle.zcore_standard.proofs.kept_states.count_too_old.Goals as goal

pub returns-then-has_room-clause-left : goal.returns-then-has_room-clause-left
returns-then-has_room-clause-left c =
    stay (λ rc. rc.value.items) c.args.bytes c.args.files.now c.loop-count.count
    (sym c.has_room.ensures ∙ c.if-has_room.true) c.loop-count.invariant

pub loop-count-preserved : goal.loop-count-preserved
loop-count-preserved c =
    goes (λ rc. rc.value.items) c.args.bytes c.args.files.now c.loop-count.count c.loop-count-test.true
    (sym c.has_room.ensures ∙ c.if-has_room.false) c.loop-count.invariant
