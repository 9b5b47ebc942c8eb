use Rattle.std.proofs.Common.{◌∙◌, List, ℕ, Result, sym, ap, subst, inr, nat_eq}
use Rattle.std.specs.List.{starts_with}
use Rattle.map_text.specs.Text.{RowOf}
use Rattle.map_text.specs.declared.fault.MapFault.{MapFault}
use Rattle.map_text.specs.Reading.{Gives}
use Rattle.map_text.proofs.Rounds.{begins, no_map, other_story}
use Rattle.map_text.proofs.reading.rows_after.Goals as goal

pub returns-in-Some : goal.returns-in-Some
returns-in-Some c =
    subst (λ (x : Result (List RowOf) MapFault). Gives c.read_rows.result x)
    (sym (begins c.args.heading.now c.args.text.now _ c.in-Some.ensures.cases.0 c.in-Some.ensures.cases.1))
    c.read_rows.ensures

pub returns-then-starts_with : goal.returns-then-starts_with
returns-then-starts_with c =
    inr (other_story c.args.heading.now c.args.text.now c.in_default.ensures.cases
    (ap (λ (l : List ℕ). starts_with nat_eq c.args.text.now l) (sym c.as_bytes.ensures.value)
    ∙ sym c.starts_with.ensures.value ∙ c.if-starts_with.true))

pub returns-else-starts_with : goal.returns-else-starts_with
returns-else-starts_with c =
    inr (no_map c.args.heading.now c.args.text.now c.in_default.ensures.cases
    (ap (λ (l : List ℕ). starts_with nat_eq c.args.text.now l) (sym c.as_bytes.ensures.value)
    ∙ sym c.starts_with.ensures.value ∙ c.if-starts_with.false))
