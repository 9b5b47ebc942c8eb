use Rattle.std.proofs.Common.{◌≡◌, ◌/◌, ◌%◌, ◌++◌, ℕ, ap, sym, ◌∙◌, arith}
use Rattle.iff_files.specs.Differences.{full_runs, short_run, with_equal}
use Rattle.iff_files.proofs.differences.put_equal.Goals as goal

-- fewer than 256 are no full run
pub returns-then-equal-lt-RUN : goal.returns-then-equal-lt-RUN
unfolding with_equal
returns-then-equal-lt-RUN c = λ rest.
    let none : c.args.equal / 256 ≡ 0 = omega (arith, c.if-equal-lt-RUN.true) in
    let all : c.args.equal % 256 ≡ c.args.equal = omega (arith, c.if-equal-lt-RUN.true) in
    c.in_ok-put_short_run.ensures rest
    ∙ ap (λ (t : ℕ). c.args.out.now.items ++ short_run t rest) (sym all)
    ∙ ap (λ (t : ℕ). c.args.out.now.items ++ full_runs t (short_run (c.args.equal % 256) rest)) (sym none)
