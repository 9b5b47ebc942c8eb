use Rattle.machine_versions_words.proofs.Locking.{letter_found, no_letter}
use Rattle.machine_versions_words.proofs.locks.letter_of.Goals as goal

pub returns-in-Some-clause-letter : goal.returns-in-Some-clause-letter
returns-in-Some-clause-letter c = letter_found c.args.version c.args.alphabet c.args.code c.first_letter-first.result
    c.alphabets_in.result.now c.place_in.result c.first_letter-first.ensures.first c.alphabets_in.ensures
    c.place_in.ensures.found c.in-Some.place c.in-Some.is

pub returns-in-None-clause-letter : goal.returns-in-None-clause-letter
returns-in-None-clause-letter c = no_letter c.args.version c.args.alphabet c.args.code c.first_letter-first.result
    c.alphabets_in.result.now c.place_in.result c.first_letter-first.ensures.first c.alphabets_in.ensures
    c.place_in.ensures.found c.in-None.is
