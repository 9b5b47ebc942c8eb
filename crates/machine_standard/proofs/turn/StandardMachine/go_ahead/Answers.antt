use Rattle.std.proofs.Common.{sym, ◌∙◌}
use Rattle.machine_standard.specs.Loads.{story_of}
use Rattle.machine_standard.proofs.Whole.{quickly_ahead, not_ahead}
use Rattle.machine_standard.proofs.turn.StandardMachine.go_ahead.Goals as goal

pub returns-then-has_own_alphabets-clause-passed : goal.returns-then-has_own_alphabets-clause-passed
returns-then-has_own_alphabets-clause-passed c =
    not_ahead c.args.store.now (story_of c.args.self.now) c.args.here c.requires.store.sound

pub returns-clause-passed : goal.returns-clause-passed
returns-clause-passed c =
    quickly_ahead c.args.store.now c.go_quickly.new.store c.go_quickly.result (story_of c.args.self.now) c.args.here
    (sym c.has_own_alphabets.ensures ∙ c.if-has_own_alphabets.false) c.requires.version.played
    c.go_quickly.ensures.passed
