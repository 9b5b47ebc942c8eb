use Rattle.std.proofs.Common.{◌++◌, ◌∷◌, List, ℕ, [], ap, sym, ◌∙◌, append_assoc, bit_xor}
use Rattle.iff_files.specs.Differences.{packed}
use Rattle.iff_files.proofs.PackedBytes.{packed_equal, packed_other}
use Rattle.iff_files.proofs.differences.put_byte.Goals as goal

pub returns-then-was-now-clause-put : goal.returns-then-was-now-clause-put
returns-then-was-now-clause-put c = λ base bytes. ap (λ (t : List ℕ). c.args.out.now.items ++ t)
    (sym (packed_equal c.args.equal c.args.was c.args.now base bytes c.if-was-now.true))

pub returns-clause-put : goal.returns-clause-put
returns-clause-put c = λ base bytes.
    ap (λ (t : List ℕ). t ++ packed 0 base bytes) c.in_ok-push.ensures.items
    ∙ append_assoc c.put_equal.new.out.items (bit_xor c.args.was c.args.now ∷ []) (packed 0 base bytes)
    ∙ c.in_ok-put_equal.ensures (bit_xor c.args.was c.args.now ∷ packed 0 base bytes)
    ∙ ap (λ (t : List ℕ). c.args.out.now.items ++ t)
    (sym (packed_other c.args.equal c.args.was c.args.now base bytes c.if-was-now.false))
