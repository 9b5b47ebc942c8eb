use Rattle.std.proofs.Common.{◌∙◌, ap, length}
use Rattle.syntax_lexer.specs.Token.{lexemes}
use Rattle.messages_advice.proofs.Trial.{found_whole, found_stop, lengths}
use Rattle.messages_advice.proofs.fitting.fits.Goals as goal

pub returns-in-None : goal.returns-in-None
returns-in-None c =
    found_whole (lexemes c.args.front.now) c.args.kind (lexemes c.deref.result.now) c.in_ok-unfit.unfit c.requires.ends
    (ap lexemes c.deref.ensures.value ∙ c.in_ok-tokens.ensures) c.in-None.is c.in_ok-unfit.ensures

pub returns : goal.returns
returns c =
    found_stop (lexemes c.args.front.now) c.args.kind (lexemes c.deref.result.now) (length c.args.front.now)
    c.in-Some.at c.in_ok-unfit.unfit c.requires.begins c.requires.ends (lengths c.args.front.now)
    (ap lexemes c.deref.ensures.value ∙ c.in_ok-tokens.ensures) c.in-Some.is c.in_ok-unfit.ensures
