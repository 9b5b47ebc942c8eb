use Rattle.std.proofs.Common.{refl, sym, subst}
use Rattle.play_json.specs.declared.kind.Kind.TheVariants.{NothingToUndo, Undone}
use Rattle.session_run.proofs.Replying.{absent}
use Rattle.session_lines.specs.Standing.{undo_of}
use Rattle.play_json.specs.Said.{IsSaid, held}
use Rattle.play_json.proofs.Saying.{matches_saying, undo_none, undo_some}
use Rattle.play_json.proofs.said.undo.Goals as goal

pub returns-then-step_back : goal.returns-then-step_back
returns-then-step_back c = λ game s p.
    let marks = c.args.lines.now.marks in
    subst (λ a. IsSaid game a (held c.step_back.new.session c.step_back.new.lines) c.of.result)
    (sym (undo_some s marks ((c.if-step_back.ensures.found game s p).0 refl))) (
      matches_saying Undone (undo_of s) marks c.of.result c.of.ensures,
      record { stands = c.step_back.ensures.stands game s p; marks = c.step_back.ensures.marks },
    )

pub returns-else-step_back : goal.returns-else-step_back
returns-else-step_back c = λ game s p.
    let marks = c.args.lines.now.marks in
    subst (λ a. IsSaid game a (held c.step_back.new.session c.step_back.new.lines) c.of-else-step_back.result)
    (sym (undo_none s marks (absent _ ((c.if-step_back.ensures.found game s p).1)))) (
      matches_saying NothingToUndo (undo_of s) marks c.of-else-step_back.result c.of-else-step_back.ensures,
      record { stands = c.step_back.ensures.stands game s p; marks = c.step_back.ensures.marks },
    )
