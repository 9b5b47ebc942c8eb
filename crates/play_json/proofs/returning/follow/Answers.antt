use Rattle.std.proofs.Common.{Err, refl, sym, subst, ap, ◌∙◌, map}
use Rattle.play_json.specs.Said.{held}
use Rattle.play_json.proofs.Walking.{ComesBy, follows, walked}
use Rattle.play_json.proofs.returning.follow.Goals as goal

pub returns-in-Ok : goal.returns-in-Ok
returns-in-Ok c = λ game s whole p w few.
    let h0 = held c.args.session.now c.args.lines.now in
    let h1 = held c.step_back_to.new.session c.step_back_to.new.lines in
    let h2 = held c.step_forward_to.new.session c.step_forward_to.new.lines in
    let h3 = held c.play_lines.new.session c.play_lines.new.lines in
    subst (ComesBy game s c.args.lines.now.marks whole h3) c.in-Ok.is
    (follows game s whole (map (λ rc. rc.value.given.items) c.as_slice.result.now) c.args.way.now.common h0 h2 h3
    c.play_lines.result
    (walked game s whole c.args.way.now h0 h1 h2 p w few c.step_back_to.ensures c.step_forward_to.ensures)
    (ap (λ xs. map (λ rc. rc.value.given.items) xs) c.as_slice.ensures.value ∙ w.rest)
    (λ t q. c.play_lines.ensures game t q))

pub returns-in-Err-Turn : goal.returns-in-Err-Turn
returns-in-Err-Turn c = λ game s whole p w few.
    let h0 = held c.args.session.now c.args.lines.now in
    let h1 = held c.step_back_to.new.session c.step_back_to.new.lines in
    let h2 = held c.step_forward_to.new.session c.step_forward_to.new.lines in
    let h3 = held c.play_lines.new.session c.play_lines.new.lines in
    subst (ComesBy game s c.args.lines.now.marks whole h3) (c.in-Err-Turn.is ∙ ap Err c.in-Err-Turn.field-0-is)
    (follows game s whole (map (λ rc. rc.value.given.items) c.as_slice.result.now) c.args.way.now.common h0 h2 h3
    c.play_lines.result
    (walked game s whole c.args.way.now h0 h1 h2 p w few c.step_back_to.ensures c.step_forward_to.ensures)
    (ap (λ xs. map (λ rc. rc.value.given.items) xs) c.as_slice.ensures.value ∙ w.rest)
    (λ t q. c.play_lines.ensures game t q))

pub returns-in-Err-Line : goal.returns-in-Err-Line
returns-in-Err-Line c = λ game s whole p w few.
    let h0 = held c.args.session.now c.args.lines.now in
    let h1 = held c.step_back_to.new.session c.step_back_to.new.lines in
    let h2 = held c.step_forward_to.new.session c.step_forward_to.new.lines in
    let h3 = held c.play_lines.new.session c.play_lines.new.lines in
    subst (ComesBy game s c.args.lines.now.marks whole h3) (c.in-Err-Line.is ∙ ap Err c.in-Err-Line.field-0-is)
    (follows game s whole (map (λ rc. rc.value.given.items) c.as_slice.result.now) c.args.way.now.common h0 h2 h3
    c.play_lines.result
    (walked game s whole c.args.way.now h0 h1 h2 p w few c.step_back_to.ensures c.step_forward_to.ensures)
    (ap (λ xs. map (λ rc. rc.value.given.items) xs) c.as_slice.ensures.value ∙ w.rest)
    (λ t q. c.play_lines.ensures game t q))
