use Rattle.std.proofs.Common.{sym, subst}
use Rattle.story.specs.Large.{limits_by}
use Rattle.story.specs.Refused.{RefusesBy}
use Rattle.messages_diagnosis.proofs.Located.{diagnosed}
use Rattle.messages_diagnosis.proofs.diagnosis.diagnose.Goals as goal

pub returns-in-Err : goal.returns-in-Err
returns-in-Err c =
    let told = diagnosed c.args.source.now c.in-Err.placed c.located.result c.located.ensures.fault
    c.located.ensures.begins c.located.ensures.there c.in-Err.ensures.stands in (
      subst (RefusesBy (limits_by c.args.limit) c.args.version c.args.source.now) (sym c.located.ensures.fault) c.in-Err.ensures.compiles,
      c.located.ensures.place,
      told.0,
      told.1,
    )
