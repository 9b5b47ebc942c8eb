use Rattle.std.proofs.Common.{sym, ◌∙◌}
use Rattle.syntax_lexer.proofs.SignTokens as signs
use Rattle.syntax_lexer.proofs.scan.other_token.Goals as goal

pub returns-then-begins_number-clause-room : goal.returns-then-begins_number-clause-room
returns-then-begins_number-clause-room c = signs.room c.args.bytes.now c.number_token.result c.number_token.ensures

pub returns-then-first-eq34-clause-room : goal.returns-then-first-eq34-clause-room
returns-then-first-eq34-clause-room c = signs.room c.args.bytes.now c.text_token.result c.text_token.ensures

pub returns-then-first-eq39-clause-room : goal.returns-then-first-eq39-clause-room
returns-then-first-eq39-clause-room c = signs.room c.args.bytes.now c.quoted_token.result c.quoted_token.ensures

pub returns-in-Some-clause-scanned : goal.returns-in-Some-clause-scanned
returns-in-Some-clause-scanned c = signs.sign_found c.args.bytes.now c.in-Some.sign c.sign_length.result
    c.in-Some.ensures c.sign_length.ensures

pub returns-in-None-clause-scanned : goal.returns-in-None-clause-scanned
returns-in-None-clause-scanned c = signs.stray_found c.args.bytes.now c.requires.nonempty c.requires.no_divider
    c.requires.no_comment c.requires.no_letter
    (sym c.begins_number.ensures ∙ c.if-begins_number.false) c.if-first-eq34.false c.if-first-eq39.false
    c.in-None.ensures
