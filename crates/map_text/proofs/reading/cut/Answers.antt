use Rattle.std.proofs.Common.{◌≡◌, ◌+◌, ◌∙◌, sym, ap, take, drop, length, slice_index_or, arith}
use Rattle.std.proofs.lemmas.Grind.{common_steps}
use Rattle.map_text.proofs.Cuts.{place_is, to_end}
use Rattle.map_text.proofs.reading.cut.Goals as goal

pub returns-then-byte-divider-clause-some : goal.returns-then-byte-divider-clause-some
returns-then-byte-divider-clause-some c =
    let lt = c.loop-at-test.true in
    let is : slice_index_or c.args.bytes.now c.loop-at.at 0 ≡ c.args.divider =
    grind (arith, common_steps, c.if-byte-divider.true) in
    let e = place_is c.args.divider c.args.bytes.now c.loop-at.at (omega (arith, lt)) c.loop-at.invariant (λ _. is) in
    omega (arith, e, lt)

pub returns-then-byte-divider-clause-front : goal.returns-then-byte-divider-clause-front
returns-then-byte-divider-clause-front c =
    let lt = c.loop-at-test.true in
    let is : slice_index_or c.args.bytes.now c.loop-at.at 0 ≡ c.args.divider =
    grind (arith, common_steps, c.if-byte-divider.true) in
    let e = place_is c.args.divider c.args.bytes.now c.loop-at.at (omega (arith, lt)) c.loop-at.invariant (λ _. is) in
    ap (λ n. take n c.args.bytes.now) (sym e)

pub returns-then-byte-divider-clause-back : goal.returns-then-byte-divider-clause-back
returns-then-byte-divider-clause-back c =
    let lt = c.loop-at-test.true in
    let is : slice_index_or c.args.bytes.now c.loop-at.at 0 ≡ c.args.divider =
    grind (arith, common_steps, c.if-byte-divider.true) in
    let e = place_is c.args.divider c.args.bytes.now c.loop-at.at (omega (arith, lt)) c.loop-at.invariant (λ _. is) in
    to_end (c.loop-at.at + 1) c.args.bytes.now ∙ ap (λ n. drop (n + 1) c.args.bytes.now) (sym e)

pub returns-clause-none : goal.returns-clause-none
returns-clause-none c =
    place_is c.args.divider c.args.bytes.now (length c.args.bytes.now) (omega arith)
    (λ k lt. c.loop-at.invariant k (omega (arith, lt, c.loop-at-test.false))) (λ lt. absurd (omega (arith, lt)))
