use Rattle.std.proofs.Common.{refl, arith, eq-eqb, sym}
use Rattle.std.proofs.lemmas.Bool.{ne_eqb, lt-ltb, le-ltb}
use Rattle.zcore_standard.specs.Instruction.{types_at}
use Rattle.zcore_standard.proofs.decode.read_by_form.Goals as goal

pub returns-then-first-eq-EXTENDED-clause-types : goal.returns-then-first-eq-EXTENDED-clause-types
unfolding types_at
returns-then-first-eq-EXTENDED-clause-types c = rw (eq-eqb c.args.first 190 c.if-first-eq-EXTENDED.true)
    c.read_types.ensures.types

pub returns-then-first-lt-SHORT_FORM-clause-types : goal.returns-then-first-lt-SHORT_FORM-clause-types
unfolding types_at
returns-then-first-lt-SHORT_FORM-clause-types c = rw (
  ne_eqb c.args.first 190 c.if-first-eq-EXTENDED.false,
  lt-ltb c.args.first 128 c.if-first-lt-SHORT_FORM.true,
) refl

pub returns-then-first-lt-VARIABLE_FORM-clause-types : goal.returns-then-first-lt-VARIABLE_FORM-clause-types
unfolding types_at
returns-then-first-lt-VARIABLE_FORM-clause-types c = rw (
  ne_eqb c.args.first 190 c.if-first-eq-EXTENDED.false,
  le-ltb c.args.first 128 (omega (arith, c.if-first-lt-SHORT_FORM.false)),
  lt-ltb c.args.first 192 c.if-first-lt-VARIABLE_FORM.true,
  sym c.short_types-count.ensures.types,
) refl

pub returns-else-first-lt-VARIABLE_FORM-clause-types : goal.returns-else-first-lt-VARIABLE_FORM-clause-types
unfolding types_at
returns-else-first-lt-VARIABLE_FORM-clause-types c = rw (
  ne_eqb c.args.first 190 c.if-first-eq-EXTENDED.false,
  le-ltb c.args.first 128 (omega (arith, c.if-first-lt-SHORT_FORM.false)),
  le-ltb c.args.first 192 (omega (arith, c.if-first-lt-VARIABLE_FORM.false)),
)
    c.read_types-else-first-lt-VARIABLE_FORM.ensures.types
