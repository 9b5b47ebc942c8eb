use Rattle.std.proofs.Common.{◌≡◌, List, ℕ, IfOk, ap, sym, subst, ◌∙◌}
use Rattle.std.specs.Prelude.{map}
use Rattle.std.specs.List.{list_all}
use Rattle.ztext.specs.Abbreviations.{encoded_with}
use Rattle.ztext.specs.Alphabets.{is_printable}
use Rattle.meaning.specs.Places.{machine_character}
use Rattle.code_instructions.proofs.Printable.{only_printable, themselves}
use Rattle.code_instructions.proofs.printing.quoted_text.Goals as goal

pub z_text-requires : goal.z_text-requires
z_text-requires c =
    let same = themselves c.args.text.now (sym c.print_themselves.ensures ∙ c.if-print_themselves.true) in
    ap (λ (cs : List ℕ). list_all is_printable cs) (sym same) ∙ only_printable (map machine_character c.args.text.now)

pub returns-then-print_themselves : goal.returns-then-print_themselves
returns-then-print_themselves c =
    let same = themselves c.args.text.now (sym c.print_themselves.ensures ∙ c.if-print_themselves.true) in
    subst (λ (cs : List ℕ). IfOk c.z_text.result (λ v. v.items ≡ encoded_with c.args.abbreviations.now cs)) (sym same)
    c.z_text.ensures
