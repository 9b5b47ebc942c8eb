use Rattle.std.proofs.Common.{◌≡◌, ◌+◌, ◌%◌, ℕ, List, Some, take, drop, ap, sym, ◌∙◌, arith, if◌then◌else◌}
use Rattle.iff_files.specs.Chunks.{first_chunk, holds, stated}
use Rattle.iff_files.specs.Steps.{first_found}
use Rattle.iff_files.proofs.FoundChunks.{left_cut, left_end, left_in, left_more}
use Rattle.iff_files.proofs.chunks.find_part.Goals as goal

pub returns-then-size-rest : goal.returns-then-size-rest
returns-then-size-rest c = sym c.loop-rest.invariant
    ∙ left_cut c.args.part c.loop-rest.found c.loop-rest.rest.now (omega (arith, c.loop-rest-test.true))
    (omega (arith, c.stated_size-size.ensures.size, c.if-size-rest.true, c.loop-rest-test.true))

pub loop-rest-preserved : goal.loop-rest-preserved
loop-rest-preserved c =
    let rest : List ℕ = c.loop-rest.rest.now in
    let size : c.stated_size-size.result ≡ stated rest = c.stated_size-size.ensures.size in
    let chunk : take (8 + c.stated_size-size.result) rest ≡ first_chunk rest = ap (λ (t : ℕ). take (8 + t) rest) size in
    let after : c.bytes_after-rest.result.now ≡ drop (8 + stated rest + stated rest % 2) rest =
    c.bytes_after-rest.ensures ∙ ap (λ (t : ℕ). drop (8 + t + t % 2) rest) size in
    ap (λ (t : List ℕ). left_in c.args.part c.first_of-found.result t) after
    ∙ left_more c.args.part c.loop-rest.found c.first_of-found.result rest (omega (arith, c.loop-rest-test.true))
    (omega (arith, size, c.if-size-rest.false, c.loop-rest-test.true))
    (λ later. c.first_of-found.ensures later ∙ ap (λ (t : List ℕ).
    first_found c.loop-rest.found (if holds c.args.part t then Some t else later)) chunk)
    ∙ c.loop-rest.invariant

pub returns : goal.returns
returns c = sym c.loop-rest.invariant
    ∙ left_end c.args.part c.loop-rest.found c.loop-rest.rest.now (omega (arith, c.loop-rest-test.false))
