use Rattle.std.proofs.Common.{ℕ, ◌+◌, ◌%◌, ap}
use Rattle.std.proofs.lemmas.List.Sorted.{searched}
use Rattle.checker_values.proofs.Ranks.{never_falls, rank_found, not_found}
use Rattle.checker_values.proofs.words.number_in.Goals as goal

pub returns-in-Ok : goal.returns-in-Ok
returns-in-Ok c =
    let keys = c.args.keys.now in
    let found = rw c.in-Ok.is at
    (searched keys c.args.key c.binary_search.result c.binary_search.ensures.position
    (never_falls keys c.requires.ascending)) in
    ap (λ (n : ℕ). n % 65536)
    (rank_found c.args.dictionary c.args.key c.in-Ok.rank keys c.requires.ascending found.0 found.1)

pub returns-in-Err : goal.returns-in-Err
returns-in-Err c =
    let keys = c.args.keys.now in
    let found = rw c.in-Err.is at
    (searched keys c.args.key c.binary_search.result c.binary_search.ensures.position
    (never_falls keys c.requires.ascending)) in
    ap (λ (n : ℕ). n % 65536)
    (not_found (c.args.dictionary + 7) c.args.key c.in-Err.field-0 keys found.1 found.2)
