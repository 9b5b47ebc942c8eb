use Rattle.std.proofs.Common.{◌∙◌, get_or, refl, sym}
use Rattle.machine_versions_words.proofs.Locking.{rest_same, rest_locked, rest_shifted}
use Rattle.machine_versions_words.proofs.locks.spelling.Goals as goal

pub returns-then-alphabet-lock-clause-rest : goal.returns-then-alphabet-lock-clause-rest
returns-then-alphabet-lock-clause-rest c =
    let word = c.args.word.now in
    rest_same c.args.version word c.args.place (get_or word c.args.place 0) c.requires.place refl
    c.alphabet_of-alphabet.result c.alphabet_of-alphabet.ensures.alphabet c.args.lock _ _ c.if-alphabet-lock.true
    c.spelled.ensures.spelled c.spelled.ensures.lock

pub returns-then-begins_in-clause-rest : goal.returns-then-begins_in-clause-rest
returns-then-begins_in-clause-rest c =
    let word = c.args.word.now in
    rest_locked c.args.version word c.args.place (get_or word c.args.place 0) c.requires.place refl
    c.alphabet_of-alphabet.result c.alphabet_of-alphabet.ensures.alphabet c.args.lock _ c.lock_to-change.result _
    c.if-alphabet-lock.false (sym c.begins_in.ensures ∙ c.if-begins_in.true) c.lock_to-change.ensures.lock
    c.spelled-then-begins_in.ensures.spelled c.spelled-then-begins_in.ensures.lock

pub returns-clause-rest : goal.returns-clause-rest
returns-clause-rest c =
    let word = c.args.word.now in
    rest_shifted c.args.version word c.args.place (get_or word c.args.place 0) c.requires.place refl
    c.alphabet_of-alphabet.result c.alphabet_of-alphabet.ensures.alphabet c.args.lock _ c.shift_to-change.result _
    c.if-alphabet-lock.false (sym c.begins_in.ensures ∙ c.if-begins_in.false) c.shift_to-change.ensures.shift
    c.spelled-2.ensures.spelled c.spelled-2.ensures.lock
