use Rattle.std.proofs.Common.{◌≡◌, ◌++◌, map, drop}
use Rattle.zcore_standard.proofs.kept_states.share_files.Given as goal

abbrev pub invariant-loop-file : goal.invariant-loop-file
invariant-loop-file l =
    map (λ rc. rc.value.items) l.copies.items ++ map (λ rc. rc.value.items) (drop l.file-index l.files)
    ≡ map (λ rc. rc.value.items) l.files
