use Rattle.std.proofs.Common.{◌<◌, subst, Ok, Err, None}
use Rattle.std.specs.List.{All}
use Rattle.checker.specs.Programs.{resolve_program}
use Rattle.session.specs.Game.{Game, IsSessionOf, telling_of}
use Rattle.session.specs.Replies.{OpensSession}
use Rattle.session_lines.specs.Standing.{nothing}
use Rattle.session_run.specs.Acts.{Leaves}
use Rattle.session_run.proofs.Going.{streams}
use Rattle.story.specs.Played.{IsPlayableByStandard}
use Rattle.tools.specs.Standard.{standard_game}
use Rattle.tools.proofs.ByStandard.{agrees_by_standard, wants_memory_by_standard}
use Rattle.tools.proofs.Pairing.{keeps_all, ran_so}
use Rattle.tools.proofs.Plain.{tells_meaning}
use Rattle.tools.proofs.standard.compile_and_run_by_standard_within.Goals as goal

pub returns-in-Err : goal.returns-in-Err
returns-in-Err g c = (c.in-Err.ensures.compiles, (keeps_all _, keeps_all _))

pub returns-in-Err-open_with : goal.returns-in-Err-open_with
returns-in-Err-open_with g c =
    let is = c.in-Ok.ensures.compiles in
    let p = resolve_program is.playable.tree in
    let bytes = subst (All (λ b. b < 256)) c.into_bytes-bytes.ensures c.are_bytes.ensures in
    let h : IsPlayableByStandard c.args.options c.in-Ok.story p =
    c.stories_play_by_standard.ensures c.args.limit c.args.version c.args.source.now c.in-Ok.story is bytes c.args.options
    c.are_bytes_of_screen.ensures in (
      (c.in-Ok.story, is.playable),
      wants_memory_by_standard c.args.options c.in-Ok.story p h c.args.fuel c.args.keep c.in-Err-open_with.fault
          (subst (λ b. OpensSession (standard_game c.args.options b c.args.fuel c.args.keep) (Err c.in-Err-open_with.fault))
          c.into_bytes-bytes.ensures c.in-Err-open_with.ensures),
      (keeps_all _, keeps_all _),
    )

pub returns-in-Ok-run : goal.returns-in-Ok-run
returns-in-Ok-run g c =
    let is = c.in-Ok.ensures.compiles in
    let p = resolve_program is.playable.tree in
    let io = streams (g.R.Read.remaining c.args.reader.now) (g.R.Read.remaining c.run.new.reader)
    (g.W.Write.contents c.args.writer.now) (g.W.Write.contents c.run.new.writer) in
    let game : Game = standard_game c.args.options c.in-Ok.story c.args.fuel c.args.keep in
    let bytes = subst (All (λ b. b < 256)) c.into_bytes-bytes.ensures c.are_bytes.ensures in
    let h : IsPlayableByStandard c.args.options c.in-Ok.story p =
    c.stories_play_by_standard.ensures c.args.limit c.args.version c.args.source.now c.in-Ok.story is bytes c.args.options
    c.are_bytes_of_screen.ensures in
    let opened = subst (λ b. IsSessionOf (standard_game c.args.options b c.args.fuel c.args.keep) nothing
    c.in-Ok-open_with.session) c.into_bytes-bytes.ensures c.in-Ok-open_with.ensures.1 in (
      c.in-Ok-run._place,
      record {
        story = c.in-Ok.story;
        compiled = is.playable;
        ran = ran_so (telling_of game) c.args.keep io (Leaves game nothing c.run.new.session None None) _
            (λ typed s h. h.0.session) (Ok c.in-Ok-run._place) (c.in-Ok-run.ensures game opened);
        meant = tells_meaning p c.args.fuel (telling_of game)
            (agrees_by_standard c.args.options c.in-Ok.story p h c.args.fuel c.args.keep) c.args.keep;
      },
    )

pub returns-in-Err-run : goal.returns-in-Err-run
returns-in-Err-run g c =
    let is = c.in-Ok.ensures.compiles in
    let p = resolve_program is.playable.tree in
    let io = streams (g.R.Read.remaining c.args.reader.now) (g.R.Read.remaining c.run.new.reader)
    (g.W.Write.contents c.args.writer.now) (g.W.Write.contents c.run.new.writer) in
    let game : Game = standard_game c.args.options c.in-Ok.story c.args.fuel c.args.keep in
    let bytes = subst (All (λ b. b < 256)) c.into_bytes-bytes.ensures c.are_bytes.ensures in
    let h : IsPlayableByStandard c.args.options c.in-Ok.story p =
    c.stories_play_by_standard.ensures c.args.limit c.args.version c.args.source.now c.in-Ok.story is bytes c.args.options
    c.are_bytes_of_screen.ensures in
    let opened = subst (λ b. IsSessionOf (standard_game c.args.options b c.args.fuel c.args.keep) nothing
    c.in-Ok-open_with.session) c.into_bytes-bytes.ensures c.in-Ok-open_with.ensures.1 in (
      c.run.new.session,
      record {
        story = c.in-Ok.story;
        compiled = is.playable;
        ran = ran_so (telling_of game) c.args.keep io (Leaves game nothing c.run.new.session None None) _
            (λ typed s h. h.0.session) (Err c.in-Err-run.fault) (c.in-Err-run.ensures game opened);
        meant = tells_meaning p c.args.fuel (telling_of game)
            (agrees_by_standard c.args.options c.in-Ok.story p h c.args.fuel c.args.keep) c.args.keep;
      },
    )
