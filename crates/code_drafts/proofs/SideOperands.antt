-- Which operands stand in place.
use Rattle.std.proofs.Common.{◌≡◌, ℕ}
use Rattle.std.proofs.Common.{true, false, refl, sym, ap, ◌∙◌}
use Rattle.std.specs.Prelude.{if◌then◌else◌}
use Rattle.meaning.specs.declared.resolved.Variable.{Variable}
use Rattle.meaning.specs.declared.resolved.Value as code_value
use Rattle.meaning.specs.Resolved.{Value, Values, none}
use Rattle.meaning.specs.Resolved as source
use Rattle.code_drafts.specs.Items.{Operand, pushed, number, variable, prefix_operand, operand_of}
use Rattle.code_drafts.specs.Items.{alone, change}
use Rattle.code_drafts.specs.declared.item.Operand as code

-- an operand before others
abbrev pub kept : Operand → Values → Operand
kept pushed later = pushed
kept (number n) later = number n
kept (variable x) later = if change x later then pushed else variable x

pub before_is : (v : Value) (later : Values) → operand_of v later ≡ kept (alone v) later
before_is (source.number n) later = refl
before_is (source.read x) later = refl
before_is (source.prefixed op v) later = go (operand_of v none)
  where
    go : (o : Operand) → prefix_operand op o ≡ kept (prefix_operand op o) later
    go pushed = refl
    go (number n) = refl
    go (variable x) = refl
before_is v later = refl

pub before_pushed : (v : Value) (later : Values) → pushed ≡ alone v → pushed ≡ operand_of v later
before_pushed v later e = ap (λ o. kept o later) e ∙ sym (before_is v later)

pub before_number : (v : Value) (later : Values) (n : ℕ) → number n ≡ alone v → number n ≡ operand_of v later
before_number v later n e = ap (λ o. kept o later) e ∙ sym (before_is v later)

pub before_changed : (v : Value) (later : Values) (x : Variable) → variable x ≡ alone v → change x later
    ≡ true → pushed ≡ operand_of v later
before_changed v later x e h = sym (ap (λ b. if b then pushed else variable x) h) ∙ ap (λ o. kept o later) e
    ∙ sym (before_is v later)

pub before_kept : (v : Value) (later : Values) (x : Variable) → variable x ≡ alone v → change x later
    ≡ false → variable x ≡ operand_of v later
before_kept v later x e h = sym (ap (λ b. if b then pushed else variable x) h) ∙ ap (λ o. kept o later) e
    ∙ sym (before_is v later)
