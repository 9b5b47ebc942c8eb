use Rattle.terminal.proofs.play.words.words_of.Goals as goal

pub asked_in-requires : goal.asked_in-requires
asked_in-requires c = record {
  fuel = c.in_ok-command.ensures.fuel c.in-Ok.matches c.in-Ok.ensures.parsed;
  undo = c.in_ok-command.ensures.undo c.in-Ok.matches c.in-Ok.ensures.parsed;
}
