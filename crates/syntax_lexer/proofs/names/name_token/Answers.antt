use Rattle.syntax_lexer.proofs.NameTokens as names
use Rattle.syntax_lexer.proofs.names.name_token.Goals as goal

pub returns-then-length-gt-LONGEST_NAME : goal.returns-then-length-gt-LONGEST_NAME
returns-then-length-gt-LONGEST_NAME c = names.long_token c.args.bytes.now c.requires c.run_length-length.result
    c.run_length-length.ensures.value c.if-length-gt-LONGEST_NAME.true

pub returns-in-Some : goal.returns-in-Some
returns-in-Some c = names.reserved_token c.args.bytes.now c.requires c.run_length-length.result
    c.front-text.result.now c.in-Some.word c.run_length-length.ensures.value c.front-text.ensures c.in-Some.ensures

pub returns-in-None : goal.returns-in-None
returns-in-None c = names.name_token c.args.bytes.now c.requires c.run_length-length.result c.front-text.result.now
    c.run_length-length.ensures.value c.front-text.ensures c.if-length-gt-LONGEST_NAME.false c.in-None.ensures
