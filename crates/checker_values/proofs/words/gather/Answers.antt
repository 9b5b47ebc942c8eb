use Rattle.std.proofs.Common.{◌≡◌, ◌≤◌, ◌^◌, ℕ, List, [], Bor, drop, length, map, ap, ◌∙◌, sym, subst, arith}
use Rattle.std.specs.Prelude.{Result, Ok, Err, IfOk}
use Rattle.std.specs.Global.{Vec}
use Rattle.std.specs.List.Sorted.{IsStrictlyIncreasing}
use Rattle.std.specs.declared.alloc.AllocError.{AllocError}
use Rattle.std.proofs.lemmas.Iterator.{items_from_collect}
use Rattle.std.proofs.lemmas.Iterator.Consumers.{YieldsList-from_rest, YieldsList-from_copied}
use Rattle.std.proofs.lemmas.List.{drop_all, length-map}
use Rattle.checker_values.specs.Keys.{with_keys, keys_of}
use Rattle.checker_values.proofs.Gathered.{few_keys, keys_ascend}
use Rattle.checker_values.proofs.words.gather.Goals as goal

-- where the keys are those of words

ascending : (r : Result (Vec ℕ) AllocError) (words : List (List ℕ)) → IfOk r (λ v. v.items ≡ keys_of words)
    → IfOk r (λ v. IsStrictlyIncreasing v.items)
ascending (Ok v) words h = subst IsStrictlyIncreasing (sym h) (keys_ascend words)
ascending (Err e) words h = tt

few : (r : Result (Vec ℕ) AllocError) (words : List (List ℕ)) (most : ℕ) → length words ≤ most
    → IfOk r (λ v. v.items ≡ keys_of words) → IfOk r (λ v. length v.items ≤ most)
few (Ok v) words most le h = let same = ap length h in omega (arith, same, le, few_keys words)
few (Err e) words most le h = tt

pub returns : goal.returns
returns c =
    let words = map (λ (w : Bor (List ℕ)). w.now) c.args.words.now in
    let set = c.loop-word.set.keys in
    let left : drop c.loop-word.word-index c.args.words.now
    ≡ [] = drop_all c.loop-word.word-index c.args.words.now c.loop-word-test.false in
    let all : set ≡ keys_of words =
    ap (λ (ws : List (Bor (List ℕ))). with_keys set (map (λ (w : Bor (List ℕ)). w.now) ws)) (sym left)
    ∙ c.loop-word.invariant in
    let made = subst (λ keys. IfOk c.collect.result (λ v. v.items ≡ keys)) all
    (items_from_collect c.collect.result c.collect.ensures.ran
    (YieldsList-from_copied
    (YieldsList-from_rest set (ap (λ s. s) (c.copied.ensures.source ∙ c.iter.ensures.rest))))) in
    let long = length-map c.args.words.now (λ (w : Bor (List ℕ)). w.now) in
    record {
      keys = made;
      ascending = ascending c.collect.result words made;
      few = few c.collect.result words (2 ^ 59) (omega (arith, long)) made;
    }
