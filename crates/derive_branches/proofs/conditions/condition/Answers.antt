use Rattle.std.proofs.Common.{◌≡◌, ℕ, Bool, Option, length, IfOk, subst, sym, ap, ◌∙◌, arith}
use Rattle.derive_constants.specs.Held.{known_of}
use Rattle.derive_constants.specs.Values.{Known}
use Rattle.derive_branches.proofs.Divisions.{divided_all, divided_at, divided_here, divided_on}
use Rattle.derive_branches.proofs.conditions.condition.Goals as goal

-- src/conditions.rt: at the first sign that compares
pub returns-then-compares : goal.returns-then-compares
returns-then-compares c =
    let known : Known = known_of c.args.known.now in
    subst (λ (x : Option Bool). IfOk c.compared_at.result (λ (h : Option Bool). h ≡ x))
    (sym (divided_here known c.args.tokens.now c.loop-at.at _ c.loop-at-test.true
    (sym c.compares.ensures ∙ c.if-compares.true))
    ∙ c.loop-at.invariant)
    c.compared_at.ensures

-- src/conditions.rt: one token more
pub loop-at-preserved : goal.loop-at-preserved
loop-at-preserved c =
    divided_on (known_of c.args.known.now) c.args.tokens.now c.loop-at.at _ c.loop-at-test.true
    (sym c.compares.ensures ∙ c.if-compares.false)
    ∙ c.loop-at.invariant

-- src/conditions.rt: none compares
pub returns : goal.returns
returns c =
    let known : Known = known_of c.args.known.now in
    let whole : length c.args.tokens.now ≡ c.loop-at.at = omega arith in
    subst (λ (x : Option Bool). IfOk c.is_number.result (λ (h : Option Bool). h ≡ x))
    (sym (divided_all known c.args.tokens.now)
    ∙ ap (λ (at : ℕ). divided_at known at c.args.tokens.now) whole
    ∙ c.loop-at.invariant)
    c.is_number.ensures
