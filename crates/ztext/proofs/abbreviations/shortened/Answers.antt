use Rattle.std.proofs.Common.{◌+◌, ◌++◌, ◌∙◌, ap, map, drop}
use Rattle.std.proofs.lemmas.List.{take_rest}
use Rattle.ztext.specs.Abbreviations.{longest, spelled_behind}
use Rattle.ztext.specs.Found.{found_of}
use Rattle.ztext.proofs.Longest.{spelled_already, spelled_here}
use Rattle.ztext.proofs.abbreviations.shortened.Goals as goal
use Rattle.ztext.proofs.abbreviations.shortened.Goals.{then-spelled-gt0, else-spelled-gt0+in_ok-spelled}

pub loop-place-preserved : goal.loop-place-preserved
loop-place-preserved g c =
    let texts = map g.T.AsSlice.items c.args.abbreviations.now in
    let rest = drop (c.loop-place.place + 1) c.args.text.now in
    elim c.if-spelled-gt0.branch [
      | then-spelled-gt0 w ↦
          ap (λ v. v.items ++ spelled_behind texts c.if-spelled-gt0.spelled rest) w.characters-is
          ∙ ap (λ n. c.loop-place.characters.items ++ spelled_behind texts n rest) w.spelled-is
          ∙ spelled_already texts c.loop-place.characters.items c.args.text.now c.loop-place.spelled c.loop-place.place
          c.loop-place-test.true w.if-spelled-gt0.true
          ∙ c.loop-place.invariant
      | else-spelled-gt0+in_ok-spelled w ↦
          ap (λ v. v.items ++ spelled_behind texts c.if-spelled-gt0.spelled rest) w.characters-is
          ∙ ap (λ n. w.put_found.new.characters.items ++ spelled_behind texts n rest) w.spelled-is
          ∙ spelled_here texts c.loop-place.characters.items w.put_found.new.characters.items c.args.text.now
          (found_of w.longest-found.result) c.loop-place.spelled w.in_ok-spelled.spelled c.loop-place.place
          c.loop-place-test.true w.if-spelled-gt0.false
          (w.longest-found.ensures ∙ ap (longest texts) (take_rest c.args.text.now c.loop-place.place))
          w.in_ok-spelled.ensures.spelled w.in_ok-spelled.ensures.more
          ∙ c.loop-place.invariant
    ]
