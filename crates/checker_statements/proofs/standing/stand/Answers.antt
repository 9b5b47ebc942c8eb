use Rattle.std.proofs.Common.{◌≡◌, ◌-◌, ℕ, List, Option, length, ap, ◌∙◌, arith}
use Rattle.std.specs.Prelude.{slice_get}
use Rattle.std.specs.Option.{option_map}
use Rattle.syntax_lexer.specs.declared.token.Position.{Position}
use Rattle.syntax_trees.specs.Views.{name_tree}
use Rattle.checker_values.specs.Noted.{noted}
use Rattle.checker_values.proofs.Noted.{noted_two}
use Rattle.checker_statements.specs.Objects.{Open, open_to, above_of, arrow_breaches, named_parent_breaches}
use Rattle.checker_statements.proofs.standing.stand.Goals as goal

pub returns-clause-breaches : goal.returns-clause-breaches
returns-clause-breaches c =
    let arrows : List Position = c.args.object.now.arrows.items in
    let chain : Open = c.args.chain.now.items in
    let count : c.len-arrows.result ≡ length arrows =
    omega (arith, c.len-arrows.ensures, c.args.object.now.arrows.ok.0) in
    let above : c.copied-above.result ≡ above_of (length arrows) chain = c.copied-above.ensures ∙ c.last.ensures.value
    ∙ ap (λ (z : Open). slice_get z (length z - 1))
    (c.deref.ensures.value ∙ c.close.ensures ∙ ap (λ (k : ℕ). open_to k chain) count) in
    noted_two c.args.tally.now c.arrow_rule.new.tally c.parent_rule.new.tally
    (arrow_breaches (above_of (length arrows) chain) arrows)
    (named_parent_breaches c.args.whole.now.entries c.args.before (option_map name_tree c.args.object.now.parent))
    (c.arrow_rule.ensures
    ∙ ap (λ (o : Option (ℕ × ℕ)). noted c.args.tally.now (arrow_breaches o c.deref-2.result.now)) above
    ∙ ap (λ (ps : List Position). noted c.args.tally.now (arrow_breaches (above_of (length arrows) chain) ps))
    c.deref-2.ensures.value)
    c.parent_rule.ensures
