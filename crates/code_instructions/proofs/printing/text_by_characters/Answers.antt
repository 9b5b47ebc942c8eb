use Rattle.std.proofs.Common.{◌≡◌, List, ℕ, IfOk, ap, subst, ◌∙◌}
use Rattle.std.specs.Prelude.{map}
use Rattle.std.specs.List.{list_all}
use Rattle.ztext.specs.Abbreviations.{encoded_with}
use Rattle.ztext.specs.Alphabets.{is_printable}
use Rattle.meaning.specs.Places.{machine_character}
use Rattle.code_instructions.proofs.Printable.{only_printable}
use Rattle.code_instructions.proofs.printing.text_by_characters.Goals as goal

pub z_text-requires : goal.z_text-requires
z_text-requires c =
    ap (λ (cs : List ℕ). list_all is_printable cs) (c.deref.ensures.value ∙ c.in_ok-characters.ensures)
    ∙ only_printable (map machine_character c.args.text.now)

pub returns : goal.returns
returns c =
    subst (λ (cs : List ℕ). IfOk c.z_text.result (λ v. v.items ≡ encoded_with c.args.abbreviations.now cs))
    (c.deref.ensures.value ∙ c.in_ok-characters.ensures) c.z_text.ensures
