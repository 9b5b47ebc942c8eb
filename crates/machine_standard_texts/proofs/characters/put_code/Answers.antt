use Rattle.std.proofs.Common.{sym, ◌∙◌, arith}
use Rattle.std.specs.Prelude.{nat_le}
use Rattle.std.proofs.lemmas.Bool.{and_parts, leb-true}
use Rattle.machine_standard_texts.proofs.Printed.{ascii_put, nothing_put, tab_put, line_put, extra_put}
use Rattle.machine_standard_texts.proofs.characters.put_code.Goals as goal

pub returns-then-is_ascii-clause-prints : goal.returns-then-is_ascii-clause-prints
returns-then-is_ascii-clause-prints c =
    let code = c.args.code in
    let e = sym c.is_ascii.ensures ∙ c.if-is_ascii.true in
    ascii_put c.put_whole.result c.args.characters.now code e
    (leb-true 32 code (and_parts (nat_le 32 code) (nat_le code 126) e).0) c.put_whole.ensures.prints

pub returns-in-0-clause-prints : goal.returns-in-0-clause-prints
returns-in-0-clause-prints c = nothing_put c.args.characters.now _ c.args.code c.in-0.is

pub returns-in-9-clause-prints : goal.returns-in-9-clause-prints
returns-in-9-clause-prints c = tab_put c.put_whole-in-9.result c.args.characters.now c.args.code c.in-9.is
    c.put_whole-in-9.ensures.prints

pub returns-in-13-clause-prints : goal.returns-in-13-clause-prints
returns-in-13-clause-prints c = line_put c.put_whole-in-13.result c.args.characters.now c.args.code c.in-13.is
    c.put_whole-in-13.ensures.prints

pub returns-in_default-clause-prints : goal.returns-in_default-clause-prints
returns-in_default-clause-prints c = extra_put c.put_unicode.result c.args.characters.now c.args.code
    c.extra_character.result (sym c.is_ascii.ensures ∙ c.if-is_ascii.false) (λ h. absurd (omega (arith, h)))
    (λ h. absurd (omega (arith, h))) (λ h. absurd (omega (arith, h))) (λ h. absurd (omega (arith, h)))
    c.extra_character.ensures c.put_unicode.ensures.prints
