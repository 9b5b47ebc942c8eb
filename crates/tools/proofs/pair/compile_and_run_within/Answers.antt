use Rattle.std.proofs.Common.{sym, subst, Ok, Err, None}
use Rattle.session_run.specs.Acts.{Leaves}
use Rattle.zcore.specs.Header.{Reads}
use Rattle.checker.specs.Programs.{resolve_program}
use Rattle.zcore.specs.Turn.{by_profile}
use Rattle.session.specs.Sessions.{IsSession}
use Rattle.session.specs.declared.mode.Mode.TheVariants.{Profile}
use Rattle.session_lines.specs.Standing.{nothing}
use Rattle.session.specs.Game.{Game, game_of, telling_of, IsSessionOf}
use Rattle.session_run.proofs.Going.{streams}
use Rattle.session_run.proofs.Said.{ran_same}
use Rattle.tools.specs.Headline.{meant_by}
use Rattle.tools.proofs.Pairing.{agrees, wants_memory, keeps_all, ran_so}
use Rattle.tools.proofs.pair.compile_and_run_within.Goals as goal

pub returns-in-Err : goal.returns-in-Err
returns-in-Err g c = (c.in-Err.ensures.compiles, (keeps_all _, keeps_all _))

pub returns-in-Err-open_with : goal.returns-in-Err-open_with
returns-in-Err-open_with g c =
    let playable = c.in-Ok.ensures.compiles.playable in (
      (c.in-Ok.story, playable),
      wants_memory c.into_bytes-bytes.result.items c.args.fuel c.args.keep playable.reads.0 c.in-Err-open_with.fault
          (subst (λ b. Reads b (Ok playable.reads.0)) (sym c.into_bytes-bytes.ensures) playable.reads.1)
          c.in-Err-open_with.ensures,
      (keeps_all _, keeps_all _),
    )

pub returns-in-Ok-run : goal.returns-in-Ok-run
returns-in-Ok-run g c =
    let playable = c.in-Ok.ensures.compiles.playable in
    let io = streams (g.R.Read.remaining c.args.reader.now) (g.R.Read.remaining c.run.new.reader)
    (g.W.Write.contents c.args.writer.now) (g.W.Write.contents c.run.new.writer) in
    let game : Game = game_of Profile c.in-Ok.story c.args.fuel c.args.keep in
    let opened = subst (λ b. IsSessionOf (game_of Profile b c.args.fuel c.args.keep) nothing c.in-Ok-open_with.session)
    c.into_bytes-bytes.ensures c.in-Ok-open_with.ensures.1 in (
      c.in-Ok-run._place,
      record {
        story = c.in-Ok.story;
        compiled = playable;
        ran = ran_same (telling_of game) (meant_by (resolve_program playable.tree) c.args.fuel) c.args.keep
            (agrees c.in-Ok.story c.args.fuel c.args.keep (resolve_program playable.tree) (playable.plays c.args.fuel))
            io (λ typed s. IsSession c.in-Ok.story c.args.fuel (by_profile c.in-Ok.story c.args.fuel) c.args.keep s
            c.run.new.session) (Ok c.in-Ok-run._place)
            (ran_so (telling_of game) c.args.keep io (Leaves game nothing c.run.new.session None None) _
            (λ typed s h. h.0.session) (Ok c.in-Ok-run._place) (c.in-Ok-run.ensures game opened));
      },
    )

pub returns-in-Err-run : goal.returns-in-Err-run
returns-in-Err-run g c =
    let playable = c.in-Ok.ensures.compiles.playable in
    let io = streams (g.R.Read.remaining c.args.reader.now) (g.R.Read.remaining c.run.new.reader)
    (g.W.Write.contents c.args.writer.now) (g.W.Write.contents c.run.new.writer) in
    let game : Game = game_of Profile c.in-Ok.story c.args.fuel c.args.keep in
    let opened = subst (λ b. IsSessionOf (game_of Profile b c.args.fuel c.args.keep) nothing c.in-Ok-open_with.session)
    c.into_bytes-bytes.ensures c.in-Ok-open_with.ensures.1 in (
      c.run.new.session,
      record {
        story = c.in-Ok.story;
        compiled = playable;
        ran = ran_same (telling_of game) (meant_by (resolve_program playable.tree) c.args.fuel) c.args.keep
            (agrees c.in-Ok.story c.args.fuel c.args.keep (resolve_program playable.tree) (playable.plays c.args.fuel))
            io (λ typed s. IsSession c.in-Ok.story c.args.fuel (by_profile c.in-Ok.story c.args.fuel) c.args.keep s
            c.run.new.session) (Err c.in-Err-run.fault)
            (ran_so (telling_of game) c.args.keep io (Leaves game nothing c.run.new.session None None) _
            (λ typed s h. h.0.session) (Err c.in-Err-run.fault) (c.in-Err-run.ensures game opened));
      },
    )
