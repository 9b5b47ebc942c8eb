use Rattle.std.proofs.Common.{◌++◌, ◌∷◌, List, ℕ, [], ap, sym, ◌∙◌, append_assoc, add-one}
use Rattle.iff_files.specs.Differences.{full_runs}
use Rattle.iff_files.proofs.PackedBytes.{full_run_more}
use Rattle.iff_files.proofs.differences.put_full_runs.Goals as goal

pub loop-run-preserved : goal.loop-run-preserved
loop-run-preserved c = λ rest.
    ap (λ (t : List ℕ). t ++ rest) c.in_ok-extend_from_slice.ensures.items
    ∙ append_assoc c.loop-run.out.items (0 ∷ 255 ∷ []) rest
    ∙ c.loop-run.invariant (0 ∷ 255 ∷ rest)
    ∙ ap (λ (t : List ℕ). c.args.out.now.items ++ t)
    (full_run_more c.loop-run._run rest ∙ ap (λ (t : ℕ). full_runs t rest) (sym (add-one c.loop-run._run)))
