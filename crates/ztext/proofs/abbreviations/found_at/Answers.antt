use Rattle.std.proofs.Common.{◌≡◌, true, false, refl, sym, ◌∙◌}
use Rattle.ztext.specs.Abbreviations.{begins}
use Rattle.ztext.proofs.Longest.{begins_pointwise}
use Rattle.ztext.proofs.abbreviations.found_at.Goals as goal

pub returns-then-starts_with : goal.returns-then-starts_with
returns-then-starts_with c =
    let is : begins c.args.abbreviation.now c.args.text.now ≡ true =
    sym (begins_pointwise c.args.abbreviation.now c.args.text.now) ∙ sym c.starts_with.ensures.value
    ∙ c.if-starts_with.true in
    rw is refl

pub returns-else-starts_with : goal.returns-else-starts_with
returns-else-starts_with c =
    let is : begins c.args.abbreviation.now c.args.text.now ≡ false =
    sym (begins_pointwise c.args.abbreviation.now c.args.text.now) ∙ sym c.starts_with.ensures.value
    ∙ c.if-starts_with.false in
    rw is refl
