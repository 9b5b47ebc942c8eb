use Rattle.std.proofs.Common.{◌≡◌, ◌+◌, ◌-◌, ◌++◌, List, ℕ, ap, length, sym, ◌∙◌, arith}
use Rattle.iff_files.specs.Differences.{packed}
use Rattle.iff_files.proofs.PackedBytes.{front_tells, packed_left, packed_same}
use Rattle.iff_files.proofs.differences.put_block.Goals as goal

pub returns-then-starts_with-clause-put : goal.returns-then-starts_with-clause-put
returns-then-starts_with-clause-put c = λ base bytes.
    let equal : ℕ = c.args.at - c.args.done in
    let was : List ℕ = c.args.was.now in
    let same : was ≡ c.args.now.now = front_tells was c.args.now.now c.requires.same
    (sym c.starts_with.ensures.value ∙ c.if-starts_with.true) in
    let long : c.args.at + length was - c.args.done ≡ equal + length was = omega (arith, c.requires.order) in
    ap (λ (t : List ℕ). c.args.out.now.items ++ t)
    (ap (λ (n : ℕ). packed n base bytes) long
    ∙ sym (ap (λ (t : List ℕ). packed equal (was ++ base) (t ++ bytes)) (sym same) ∙ packed_same equal was base bytes))

pub returns-clause-put : goal.returns-clause-put
returns-clause-put c = λ base bytes.
    packed_left (c.args.at + length c.args.was.now) _ _ base bytes
    (omega (arith, c.in_ok-left.ensures.few, c.requires.order))
    ∙ c.in_ok-left.ensures.put base bytes
