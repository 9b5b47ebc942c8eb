use Rattle.session_run.specs.Acts.{Leaves, is_own_on}
use Rattle.session.specs.Game.{IsSessionOf}
use Rattle.std.proofs.Common.{arith, sym, ℕ, [], subst, take}
use Rattle.std.specs.Io.KnownBytes.{Consumes}
use Rattle.session_lines.specs.Input.{rest_from, last_line}
use Rattle.session_run.specs.Heard.{Heard}
use Rattle.session_lines.specs.Standing.{Standing, nothing}
use Rattle.session_lines.proofs.Cutting.{kept_some, kept_none}
use Rattle.session_run.proofs.Chaining.{heard_none}
use Rattle.session_lines.proofs.Answering.{acts_none}
use Rattle.session_run.proofs.Going.{going_start, going_on, ran_whole, ran_read, ran_long, ran_broke_in, ran_broke_last}
use Rattle.session_run.proofs.Going.{ran_err, opening_broke}
use Rattle.session_run.proofs.running.run_telling.Goals as goal
use Rattle.session_run.proofs.running.run_telling.Goals.{then-line-gt0+in_ok-hear-in-Ok-eq0, else-line-gt0}

pub returns-in_err-tell_opening : goal.returns-in_err-tell_opening
returns-in_err-tell_opening g c = λ game p.
    let w = g.W.Write.contents c.args.writer.now in
    let w2 = g.W.Write.contents c.tell_opening.new.writer in
    let l = g.F.Files.log c.args.files.now in
    opening_broke game (g.R.Read.remaining c.args.reader.now) w w2 (Leaves game nothing c.args.session.now l l)
    c.from_residual.result c.from_residual.ensures.1
    (c.in_err-tell_opening.ensures game p) (p, acts_none (is_own_on game) l)

pub loop-init : goal.loop-init
loop-init g c = record {
  within = c.new-line.ensures.within;
  going = λ game p.
      going_start game (g.R.Read.remaining c.args.reader.now) (g.W.Write.contents c.args.writer.now)
      (g.W.Write.contents c.tell_opening.new.writer) c.args.session.now (g.F.Files.log c.args.files.now) c.new-line.result
      p (c.in_ok-tell_opening.ensures game p)
      c.new-line.ensures.kept;
}

pub returns-in_err-hear-in-Ok-eq0 : goal.returns-in_err-hear-in-Ok-eq0
returns-in_err-hear-in-Ok-eq0 g c = λ game p.
    let h = c.loop.invariant.going game p in
    let r = g.R.Read.remaining c.args.reader.now in
    let r2 = g.R.Read.remaining c.read.new.self in
    let w = g.W.Write.contents c.args.writer.now in
    let w2 = g.W.Write.contents c.hear.new.writer in
    let l = g.F.Files.log c.args.files.now in
    let l2 = g.F.Files.log c.hear.new.files in
    ran_err game r r2 w w2 (Leaves game nothing c.hear.new.session l l2)
    c.from_residual-in_err-hear-in-Ok-eq0.result c.from_residual-in_err-hear-in-Ok-eq0.ensures.1
    (ran_broke_last game r (g.R.Read.remaining c.loop.reader) r2 w (g.W.Write.contents c.loop.writer) w2
    c.loop.session c.hear.new.session l (g.F.Files.log c.loop.files) l2 c.loop.line h
    (subst (λ (n : ℕ). Consumes (g.R.Read.remaining c.loop.reader) r2 (take n c.read.new.buf))
    c.in-Ok-eq0.field-0-test c.in-Ok-eq0.ensures.bytes.0)
    (c.in-Ok-eq0.ensures.bytes.1 c.in-Ok-eq0.field-0-test (omega arith)) c.if-line-gt0.true
    (λ t q. c.in_err-hear-in-Ok-eq0.ensures.hears game t (rest_from [] h.input) q h.kept))

pub returns-in_err-hear-in-Ok : goal.returns-in_err-hear-in-Ok
returns-in_err-hear-in-Ok g c = λ game p.
    let h = c.loop.invariant.going game p in
    let r = g.R.Read.remaining c.args.reader.now in
    let r2 = g.R.Read.remaining c.read.new.self in
    let w = g.W.Write.contents c.args.writer.now in
    let w2 = g.W.Write.contents c.hear-in-Ok.new.writer in
    let l = g.F.Files.log c.args.files.now in
    let l2 = g.F.Files.log c.hear-in-Ok.new.files in
    ran_err game r r2 w w2 (Leaves game nothing c.hear-in-Ok.new.session l l2) c.from_residual-in_err-hear-in-Ok.result
    c.from_residual-in_err-hear-in-Ok.ensures.1
    (ran_broke_in game r (g.R.Read.remaining c.loop.reader) r2 w (g.W.Write.contents c.loop.writer) w2
    c.loop.session c.hear-in-Ok.new.session l (g.F.Files.log c.loop.files) l2 c.loop.line
    (take c.in-Ok.n c.read.new.buf) h
    c.in-Ok.ensures.bytes.0 (λ t q. c.in_err-hear-in-Ok.ensures.hears game t (rest_from [] h.input) q h.kept))

pub loop-preserved : goal.loop-preserved
loop-preserved g c = record {
  within = c.hear-in-Ok.ensures.within;
  going = λ game p.
      let h = c.loop.invariant.going game p in
      going_on game (g.R.Read.remaining c.args.reader.now) (g.R.Read.remaining c.loop.reader)
      (g.R.Read.remaining c.read.new.self) (g.W.Write.contents c.args.writer.now)
      (g.W.Write.contents c.loop.writer) (g.W.Write.contents c.hear-in-Ok.new.writer)
      c.loop.session c.hear-in-Ok.new.session (g.F.Files.log c.args.files.now) (g.F.Files.log c.loop.files)
      (g.F.Files.log c.hear-in-Ok.new.files) c.loop.line
      c.hear-in-Ok.new.line (take c.in-Ok.n c.read.new.buf) h
      c.in-Ok.ensures.bytes.0 (λ t q. c.in_ok-hear-in-Ok.ensures.hears game t (rest_from [] h.input) q h.kept)
      (c.in_ok-hear-in-Ok.ensures.line (rest_from [] h.input) h.kept);
}

pub returns-in-Ok-eq0 : goal.returns-in-Ok-eq0
returns-in-Ok-eq0 g c = λ game p.
    let h = c.loop.invariant.going game p in
    let now = c.if-line-gt0 in
    let r1 = g.R.Read.remaining c.loop.reader in
    let r2 = g.R.Read.remaining c.read.new.self in
    let w1 = g.W.Write.contents c.loop.writer in
    let l1 = g.F.Files.log c.loop.files in
    let last = last_line (rest_from [] h.input) in
    let heard : (t : Standing) → IsSessionOf game t c.loop.session
    → Heard game w1 (g.W.Write.contents now.writer) t (Leaves game t now.session l1 (g.F.Files.log now.files)) last
    = λ t q. elim c.if-line-gt0.branch [
      | then-line-gt0+in_ok-hear-in-Ok-eq0 v ↦
          subst (λ x. Heard game w1 (g.W.Write.contents x) t
          (Leaves game t now.session l1 (g.F.Files.log now.files)) last)
          (sym v.writer-is)
          (subst (λ x. Heard game w1 (g.W.Write.contents v.hear.new.writer) t
          (Leaves game t x l1 (g.F.Files.log now.files)) last) (sym v.session-is)
          (subst (λ x. Heard game w1 (g.W.Write.contents v.hear.new.writer) t
          (Leaves game t v.hear.new.session l1 (g.F.Files.log x)) last) (sym v.files-is)
          (subst (Heard game w1 (g.W.Write.contents v.hear.new.writer) t
          (Leaves game t v.hear.new.session l1 (g.F.Files.log v.hear.new.files)))
          (sym (kept_some c.loop.line (rest_from [] h.input) h.kept v.if-line-gt0.true))
          (v.in_ok-hear-in-Ok-eq0.ensures.hears game t (rest_from [] h.input) q h.kept))))
      | else-line-gt0 v ↦
          subst (λ x. Heard game w1 (g.W.Write.contents x) t
          (Leaves game t now.session l1 (g.F.Files.log now.files)) last)
          (sym v.writer-is)
          (subst (λ x. Heard game w1 w1 t (Leaves game t x l1 (g.F.Files.log now.files)) last) (sym v.session-is)
          (subst (λ x. Heard game w1 w1 t (Leaves game t c.loop.session l1 (g.F.Files.log x)) last) (sym v.files-is)
          (subst (Heard game w1 w1 t (Leaves game t c.loop.session l1 l1))
          (sym (kept_none c.loop.line (rest_from [] h.input) h.kept v.if-line-gt0.false))
          (heard_none game w1 t c.loop.session l1 q))))
    ] in
    ran_whole game (g.R.Read.remaining c.args.reader.now) r1 r2 (g.W.Write.contents c.args.writer.now) w1
    (g.W.Write.contents now.writer) c.loop.session now.session (g.F.Files.log c.args.files.now) l1
    (g.F.Files.log now.files) c.loop.line c.place.result h
    (subst (λ (n : ℕ). Consumes r1 r2 (take n c.read.new.buf)) c.in-Ok-eq0.field-0-test c.in-Ok-eq0.ensures.bytes.0)
    (c.in-Ok-eq0.ensures.bytes.1 c.in-Ok-eq0.field-0-test (omega arith)) heard
    (λ t q. c.place.ensures.place game t q)

pub returns-in-Err : goal.returns-in-Err
returns-in-Err g c = λ game p.
    ran_read game (g.R.Read.remaining c.args.reader.now) (g.R.Read.remaining c.loop.reader)
    (g.R.Read.remaining c.read.new.self) (g.W.Write.contents c.args.writer.now)
    (g.W.Write.contents c.loop.writer) c.loop.session (g.F.Files.log c.args.files.now) (g.F.Files.log c.loop.files)
    c.loop.line (c.loop.invariant.going game p) c.in-Err.ensures.bytes

pub returns : goal.returns
returns g c = λ game p.
    ran_long game (g.R.Read.remaining c.args.reader.now) (g.R.Read.remaining c.loop.reader)
    (g.W.Write.contents c.args.writer.now) (g.W.Write.contents c.loop.writer)
    c.loop.session (g.F.Files.log c.args.files.now) (g.F.Files.log c.loop.files) c.loop.line
    (c.loop.invariant.going game p)
