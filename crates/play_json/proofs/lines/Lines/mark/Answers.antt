use Rattle.play_json.proofs.Keeping.{kept_mark}
use Rattle.play_json.proofs.lines.Lines.mark.Goals as goal
use Rattle.play_json.proofs.lines.Lines.mark.Goals.{in-Ok, in-Err}

pub returns-clause-mark : goal.returns-clause-mark
returns-clause-mark c = elim c.match-push_mark.branch [
  | in-Ok w ↦ rw w.result-is
      (kept_mark _ _ c.self.inside.lines.items c.deref.result.now c.self.inside.marks.items c.push_mark.new.marks.items
      c.self.inside.done _ c.args.self.now c.self.view_is c.deref.ensures.value c.in_ok-marked.ensures w.in-Ok.ensures)
  | in-Err w ↦ rw w.result-is tt
]
