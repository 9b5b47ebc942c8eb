use Rattle.std.proofs.Common.{◌≡◌, ◌≤◌, ◌+◌, ◌-◌, ◌++◌, List, [], ℕ, drop, length, take, ap, ◌∙◌, arith}
use Rattle.std.proofs.lemmas.List.{length-drop, length-take-le}
use Rattle.iff_files.specs.Differences.{packed}
use Rattle.iff_files.proofs.PackedBytes.{cut_twice, packed_from, packed_whole, rest_is}
use Rattle.iff_files.proofs.differences.pack.Goals as goal

pub returns : goal.returns
unfolding packed
returns c =
    let at : ℕ = c.loop-at.at in
    let equal : ℕ = at - c.loop-at.done in
    let base : List ℕ = c.args.base.now in
    let memory : List ℕ = c.args.memory.now in
    packed_whole equal c.loop-at.out.items c.put_bytes.new.out.items (take (length base - at) (drop at base))
    (take (length memory - at) (drop at memory)) (c.in_ok-put_bytes.ensures.put [] [])
    ∙ ap (λ (t : List ℕ). c.loop-at.out.items ++ packed equal t (take (length memory - at) (drop at memory)))
    (rest_is at base)
    ∙ ap (λ (t : List ℕ). c.loop-at.out.items ++ packed equal (drop at base) t) (rest_is at memory)
    ∙ c.loop-at.invariant.whole

pub loop-at-preserved : goal.loop-at-preserved
loop-at-preserved c =
    let at : ℕ = c.loop-at.at in
    let next : ℕ = at + 8 in
    let equal : ℕ = at - c.loop-at.done in
    let base : List ℕ = c.args.base.now in
    let memory : List ℕ = c.args.memory.now in
    let forward : at ≤ next = omega arith in
    let long : length (take (next - at) (drop at base)) ≡ next - at = length-take-le (next - at) (drop at base)
    (omega (arith, length-drop at base, c.loop-at-test.true, c.loop-at.invariant.blocks)) in
    record {
      within = omega (arith, c.loop-at-test.true, c.loop-at.invariant.blocks);
      blocks = omega (arith, c.loop-at.invariant.blocks);
      order = omega (arith, c.in_ok-done.ensures.order, long);
      whole = packed_from next (at + length (take (next - at) (drop at base))) _ _ (drop next base) (drop next memory)
          (omega (arith, long))
          ∙ c.in_ok-done.ensures.put (drop next base) (drop next memory)
          ∙ ap (λ (t : List ℕ). c.loop-at.out.items ++ packed equal t
          (take (next - at) (drop at memory) ++ drop next memory)) (cut_twice at next base forward)
          ∙ ap (λ (t : List ℕ). c.loop-at.out.items ++ packed equal (drop at base) t)
          (cut_twice at next memory forward)
          ∙ c.loop-at.invariant.whole;
    }
