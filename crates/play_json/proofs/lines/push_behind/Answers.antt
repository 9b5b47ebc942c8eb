use Rattle.std.proofs.Common.{ap}
use Rattle.play_json.proofs.Keeping.{kept_behind}
use Rattle.play_json.proofs.lines.push_behind.Goals as goal
use Rattle.play_json.proofs.lines.push_behind.Goals.{in-Ok, in-Err}

pub returns-clause-added : goal.returns-clause-added
returns-clause-added c = elim c.match-push.branch [
  | in-Ok w ↦ rw w.result-is
      (kept_behind _ c.args.lines.now.items c.truncate.new.self.items c.push.new.self.items c.in_ok-line.line
      c.args.line.now.value.given.items c.args.done c.truncate.ensures.items
      (ap (λ v. v.given.items) c.in_ok-line.ensures.cases) w.in-Ok.ensures.items)
  | in-Err w ↦ rw w.result-is tt
]
