use Rattle.derive_routines.proofs.search.+put_halves.Given as goal

abbrev pub decreases-put_halves : goal.decreases-put_halves
decreases-put_halves l = l.steps
