use Rattle.std.proofs.Common.{◌+◌, arith, drop, map, subst, take}
use Rattle.std.proofs.lemmas.List.{length-map}
use Rattle.play_json.specs.Going.{PlaysLine}
use Rattle.play_json.specs.Said.{held}
use Rattle.play_json.proofs.Walking.{along_all, along_more, along_none, along_short, taken_next, whole_next}
use Rattle.play_json.proofs.returning.play_lines.Goals as goal

pub loop-line-init : goal.loop-line-init
loop-line-init c = λ game s p. along_none game s (held c.args.session.now c.args.lines.now) p

pub loop-line-preserved : goal.loop-line-preserved
loop-line-preserved c = λ game s p.
    let xs = c.args.rest.now in
    let i = c.loop-line.line-index in
    let all = map (λ rc. rc.value.given.items) xs in
    along_more game s c.args.lines.now.marks (take i all) (take (i + 1) all) c.line-item.result.value.given.items
    (held c.loop-line.session c.loop-line.lines) (held c.play_line.new.session c.play_line.new.lines) c.play_line.result
    (c.loop-line.invariant game s p)
    (taken_next (λ rc. rc.value.given.items) xs i c.line-item.result (omega arith) c.line-item.is) c.in-Ok.is
    (λ t q. c.play_line.ensures game t q)

pub returns-in-Err : goal.returns-in-Err
returns-in-Err c = λ game s p.
    let xs = c.args.rest.now in
    let i = c.loop-line.line-index in
    let all = map (λ rc. rc.value.given.items) xs in
    let line = c.line-item.result.value.given.items in
    let mid = held c.loop-line.session c.loop-line.lines in
    let new = held c.play_line.new.session c.play_line.new.lines in
    along_short game s c.args.lines.now.marks (take i all) (drop (i + 1) all) all line mid new c.in-Err.error
    (c.loop-line.invariant game s p)
    (whole_next (λ rc. rc.value.given.items) xs i c.line-item.result (omega arith) c.line-item.is)
    (λ t q. subst (PlaysLine game t c.loop-line.lines.marks line new) c.in-Err.is (c.play_line.ensures game t q))

pub returns : goal.returns
returns c = λ game s p.
    let xs = c.args.rest.now in
    along_all game s c.args.lines.now.marks c.loop-line.line-index (map (λ rc. rc.value.given.items) xs)
    (held c.loop-line.session c.loop-line.lines) (c.loop-line.invariant game s p)
    (omega (arith, length-map xs (λ rc. rc.value.given.items)))
