use Rattle.std.proofs.Common.{◌+◌, ◌-◌, ◌*◌, ◌++◌, ◌∷◌, ℕ, List, [], drop, slice_index, ap, sym, ◌∙◌, append_assoc, arith}
use Rattle.iff_files.specs.Frames.{words_from}
use Rattle.iff_files.proofs.ReadFrames.{words_step}
use Rattle.iff_files.proofs.frames.read_words.Goals as goal

pub loop-i-preserved : goal.loop-i-preserved
loop-i-preserved c =
    let i : ℕ = c.loop-i.i in
    let bytes : List ℕ = c.args.bytes.now in
    let word : ℕ = slice_index bytes (2 * i) * 256 + slice_index bytes (2 * i + 1) in
    let rest : List ℕ = words_from (c.args.count - (i + 1)) (drop (2 * (i + 1)) bytes) in
    ap (λ (t : List ℕ). t ++ rest) c.in_ok-push.ensures.items
    ∙ append_assoc c.loop-i.out.items (word ∷ []) rest
    ∙ ap (λ (t : List ℕ). c.loop-i.out.items ++ t) (sym (words_step bytes c.args.count i (omega (arith, c.loop-i-test.true))))
    ∙ c.loop-i.invariant
