use Rattle.std.proofs.Common.{◌≡◌, ℕ, List, IfOk, subst}
use Rattle.code_instructions.proofs.Printable.{without}
use Rattle.code_instructions.proofs.printing.z_text.Goals as goal

pub returns-then-is_empty : goal.returns-then-is_empty
returns-then-is_empty c =
    subst (λ (zs : List ℕ). IfOk c.plain_text.result (λ v. v.items ≡ zs))
    (without c.texts.result.now c.args.abbreviations.now c.args.characters.now c.if-is_empty.ensures c.texts.ensures)
    c.plain_text.ensures
