use Rattle.std.proofs.Common.{arith, sym, refl, ℕ, [], subst, take}
use Rattle.std.specs.Io.KnownBytes.{Consumes}
use Rattle.session_lines.specs.Input.{rest_from, last_line}
use Rattle.session_lines.proofs.Cutting.{kept_some, kept_none}
use Rattle.play_json.specs.Heard.{Heard}
use Rattle.play_json.specs.Lines.{no_lines}
use Rattle.play_json.specs.Ran.{IsOpened}
use Rattle.play_json.specs.Said.{held}
use Rattle.play_json.proofs.Going.{Going, going_on, going_start, opening_broke, ran_broke_in, ran_broke_last, ran_err, ran_long}
use Rattle.play_json.proofs.Going.{ran_read, ran_whole, streams}
use Rattle.play_json.proofs.Chaining.{heard_one}
use Rattle.play_json.proofs.running.run.Goals as goal
use Rattle.play_json.proofs.running.run.Goals.{then-line-gt0+in_ok-finish-in-Ok-eq0, else-line-gt0}

pub returns-in_err-tell_opening : goal.returns-in_err-tell_opening
returns-in_err-tell_opening g c =
    opening_broke c.args.first (g.R.Read.remaining c.args.reader.now) (g.W.Write.contents c.args.writer.now)
    (g.W.Write.contents c.tell_opening.new.writer) c.args.session.now c.tell_opening.new.session c.from_residual.result
    c.from_residual.ensures.1 c.tell_opening.ensures.same c.in_err-tell_opening.ensures.told

pub loop-init : goal.loop-init
loop-init g c =
    let r = g.R.Read.remaining c.args.reader.now in
    let w = g.W.Write.contents c.args.writer.now in
    let w1 = g.W.Write.contents c.tell_opening.new.writer in
    let v = c.args.session.now in
    record {
      within = c.new-line.ensures.within;
      going = subst (λ x. Going c.args.first r r w w1 v (held x c.new-lines.result) c.new-line.result) (sym c.tell_opening.ensures.same)
          (subst (λ x. Going c.args.first r r w w1 v (held v x) c.new-line.result) (sym c.new-lines.ensures)
          (going_start c.args.first r w w1 v c.new-line.result c.in_ok-tell_opening.ensures.told c.new-line.ensures.kept));
    }

pub returns-in_err-finish-in-Ok-eq0 : goal.returns-in_err-finish-in-Ok-eq0
returns-in_err-finish-in-Ok-eq0 g c =
    let h = c.loop.invariant.going in
    let r = g.R.Read.remaining c.args.reader.now in
    let r2 = g.R.Read.remaining c.read.new.self in
    let w = g.W.Write.contents c.args.writer.now in
    let w2 = g.W.Write.contents c.finish.new.writer in
    ran_err c.args.first (streams r r2 w w2) c.args.session.now c.finish.new.session
    c.from_residual-in_err-finish-in-Ok-eq0.result c.from_residual-in_err-finish-in-Ok-eq0.ensures.1
    (ran_broke_last c.args.first r (g.R.Read.remaining c.loop.reader) r2 w (g.W.Write.contents c.loop.writer) w2
    c.args.session.now (held c.loop.session c.loop.lines) c.finish.new.session c.finish.new.lines c.loop.line h
    (subst (λ (n : ℕ). Consumes (g.R.Read.remaining c.loop.reader) r2 (take n c.read.new.buf))
    c.in-Ok-eq0.field-0-test c.in-Ok-eq0.ensures.bytes.0)
    (c.in-Ok-eq0.ensures.bytes.1 c.in-Ok-eq0.field-0-test (omega arith)) c.if-line-gt0.true
    (c.in_err-finish-in-Ok-eq0.ensures.answers (rest_from [] h.input) h.kept))

pub returns-in_err-hear-in-Ok : goal.returns-in_err-hear-in-Ok
returns-in_err-hear-in-Ok g c =
    let h = c.loop.invariant.going in
    let r = g.R.Read.remaining c.args.reader.now in
    let r2 = g.R.Read.remaining c.read.new.self in
    let w = g.W.Write.contents c.args.writer.now in
    let w2 = g.W.Write.contents c.hear.new.writer in
    ran_err c.args.first (streams r r2 w w2) c.args.session.now c.hear.new.session c.from_residual-in_err-hear-in-Ok.result
    c.from_residual-in_err-hear-in-Ok.ensures.1
    (ran_broke_in c.args.first r (g.R.Read.remaining c.loop.reader) r2 w (g.W.Write.contents c.loop.writer) w2 c.args.session.now
    (held c.loop.session c.loop.lines) c.hear.new.session c.hear.new.lines c.loop.line (take c.in-Ok.n c.read.new.buf) h c.in-Ok.ensures.bytes.0
    (c.in_err-hear-in-Ok.ensures.hears (rest_from [] h.input) h.kept))

pub loop-preserved : goal.loop-preserved
loop-preserved g c = record {
  within = c.hear.ensures.within;
  going =
      let h = c.loop.invariant.going in
      going_on c.args.first (g.R.Read.remaining c.args.reader.now) (g.R.Read.remaining c.loop.reader)
      (g.R.Read.remaining c.read.new.self) (g.W.Write.contents c.args.writer.now)
      (g.W.Write.contents c.loop.writer) (g.W.Write.contents c.hear.new.writer) c.args.session.now
      (held c.loop.session c.loop.lines) (held c.hear.new.session c.hear.new.lines) c.loop.line c.hear.new.line (take c.in-Ok.n c.read.new.buf) h
      c.in-Ok.ensures.bytes.0 (c.in_ok-hear-in-Ok.ensures.hears (rest_from [] h.input) h.kept)
      (c.in_ok-hear-in-Ok.ensures.line (rest_from [] h.input) h.kept);
}

pub returns-in-Ok-eq0 : goal.returns-in-Ok-eq0
returns-in-Ok-eq0 g c =
    let h = c.loop.invariant.going in
    let now = c.if-line-gt0 in
    let r1 = g.R.Read.remaining c.loop.reader in
    let r2 = g.R.Read.remaining c.read.new.self in
    let w1 = g.W.Write.contents c.loop.writer in
    let v1 = c.loop.session in
    let h1 = held v1 c.loop.lines in
    let last = last_line (rest_from [] h.input) in
    let heard : Heard last w1 h1 (g.W.Write.contents now.writer) (held now.session now.lines)
    = elim c.if-line-gt0.branch [
      | then-line-gt0+in_ok-finish-in-Ok-eq0 t ↦
          let w2 = g.W.Write.contents t.finish.new.writer in
          let v2 = t.finish.new.session in
          subst (λ x. Heard last w1 h1 (g.W.Write.contents x) (held now.session now.lines)) (sym t.writer-is)
          (subst (λ x. Heard last w1 h1 w2 (held x now.lines)) (sym t.session-is)
          (subst (λ x. Heard last w1 h1 w2 (held v2 x)) (sym t.lines-is)
          (subst (λ ls. Heard ls w1 h1 w2 (held v2 t.finish.new.lines))
          (sym (kept_some c.loop.line (rest_from [] h.input) h.kept t.if-line-gt0.true))
          (heard_one (rest_from [] h.input) w1 w2 h1 (held v2 t.finish.new.lines)
          (t.in_ok-finish-in-Ok-eq0.ensures.answers (rest_from [] h.input) h.kept)))))
      | else-line-gt0 t ↦
          subst (λ x. Heard last w1 h1 (g.W.Write.contents x) (held now.session now.lines)) (sym t.writer-is)
          (subst (λ x. Heard last w1 h1 w1 (held x now.lines)) (sym t.session-is)
          (subst (λ x. Heard last w1 h1 w1 (held v1 x)) (sym t.lines-is)
          (subst (λ ls. Heard ls w1 h1 w1 h1)
          (sym (kept_none c.loop.line (rest_from [] h.input) h.kept t.if-line-gt0.false)) (refl, refl))))
    ] in
    ran_whole c.args.first (g.R.Read.remaining c.args.reader.now) r1 r2 (g.W.Write.contents c.args.writer.now) w1
    (g.W.Write.contents now.writer) c.args.session.now h1 now.session now.lines c.loop.line c.place.result h
    (subst (λ (n : ℕ). Consumes r1 r2 (take n c.read.new.buf)) c.in-Ok-eq0.field-0-test c.in-Ok-eq0.ensures.bytes.0)
    (c.in-Ok-eq0.ensures.bytes.1 c.in-Ok-eq0.field-0-test (omega arith)) heard c.place.ensures.place

pub returns-in-Err : goal.returns-in-Err
returns-in-Err g c =
    ran_read c.args.first (g.R.Read.remaining c.args.reader.now) (g.R.Read.remaining c.loop.reader)
    (g.R.Read.remaining c.read.new.self) (g.W.Write.contents c.args.writer.now)
    (g.W.Write.contents c.loop.writer) c.args.session.now c.loop.session c.loop.lines c.loop.line
    c.loop.invariant.going c.in-Err.ensures.bytes

pub returns : goal.returns
returns g c =
    ran_long c.args.first (g.R.Read.remaining c.args.reader.now) (g.R.Read.remaining c.loop.reader)
    (g.W.Write.contents c.args.writer.now) (g.W.Write.contents c.loop.writer) c.args.session.now c.loop.session
    c.loop.lines c.loop.line c.loop.invariant.going
