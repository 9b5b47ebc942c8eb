use Rattle.std.proofs.Common.{◌≡◌, ◌∙◌, ◌∷◌, [], sym, ap, map, arith}
use Rattle.map_text.specs.Reading.{address_of, digit_value}
use Rattle.map_text.proofs.Digits.{address_is, bad_digits, five_digits}
use Rattle.map_text.proofs.reading.address_in.Goals as goal
use Rattle.map_text.proofs.reading.address_in.Goals.{then-first-eq-NO_DIGIT-via-then-first-eq-NO_DIGIT}
use Rattle.map_text.proofs.reading.address_in.Goals.{then-first-eq-NO_DIGIT-via-else-first-eq-NO_DIGIT+then-second-eq-NO_DIGIT}
use Rattle.map_text.proofs.reading.address_in.Goals.{then-first-eq-NO_DIGIT-via-else-first-eq-NO_DIGIT+else-second-eq-NO_DIGIT+then-third-eq-NO_DIGIT}
use Rattle.map_text.proofs.reading.address_in.Goals.{then-first-eq-NO_DIGIT-via-else-first-eq-NO_DIGIT+else-second-eq-NO_DIGIT+else-third-eq-NO_DIGIT+then-fourth-eq-NO_DIGIT}
use Rattle.map_text.proofs.reading.address_in.Goals.{then-first-eq-NO_DIGIT-via-else-first-eq-NO_DIGIT+else-second-eq-NO_DIGIT+else-third-eq-NO_DIGIT+else-fourth-eq-NO_DIGIT+then-fifth-eq-NO_DIGIT}

pub returns : goal.returns
returns c =
    let values : map digit_value c.args.digits.now
    ≡ c.digit_value-first.result ∷ c.digit_value-second.result ∷ c.digit_value-third.result
    ∷ c.digit_value-fourth.result ∷ c.digit_value-fifth.result ∷ [] =
    cc (five_digits c.args.digits.now (omega arith)) in
    sym (ap address_of values ∙ address_is _ _ _ _ _ (omega arith) (omega arith) (omega arith) (omega arith) (omega arith))

pub returns-then-first-eq-NO_DIGIT : goal.returns-then-first-eq-NO_DIGIT
returns-then-first-eq-NO_DIGIT c =
    let values : map digit_value c.args.digits.now
    ≡ c.digit_value-first.result ∷ c.digit_value-second.result ∷ c.digit_value-third.result
    ∷ c.digit_value-fourth.result ∷ c.digit_value-fifth.result ∷ [] =
    cc (five_digits c.args.digits.now (omega arith)) in
    sym (ap address_of values ∙ bad_digits c.digit_value-first.result c.digit_value-second.result
    c.digit_value-third.result c.digit_value-fourth.result c.digit_value-fifth.result (λ a b c2 d e. elim c.then-first-eq-NO_DIGIT.branch [
      | then-first-eq-NO_DIGIT-via-then-first-eq-NO_DIGIT w ↦ omega (arith, a, w.if-first-eq-NO_DIGIT.true)
      | then-first-eq-NO_DIGIT-via-else-first-eq-NO_DIGIT+then-second-eq-NO_DIGIT w ↦ omega (arith, b, w.if-second-eq-NO_DIGIT.true)
      | then-first-eq-NO_DIGIT-via-else-first-eq-NO_DIGIT+else-second-eq-NO_DIGIT+then-third-eq-NO_DIGIT w ↦ omega (arith, c2, w.if-third-eq-NO_DIGIT.true)
      | then-first-eq-NO_DIGIT-via-else-first-eq-NO_DIGIT+else-second-eq-NO_DIGIT+else-third-eq-NO_DIGIT+then-fourth-eq-NO_DIGIT w ↦ omega (arith, d, w.if-fourth-eq-NO_DIGIT.true)
      | then-first-eq-NO_DIGIT-via-else-first-eq-NO_DIGIT+else-second-eq-NO_DIGIT+else-third-eq-NO_DIGIT+else-fourth-eq-NO_DIGIT+then-fifth-eq-NO_DIGIT w ↦ omega (arith, e, w.if-fifth-eq-NO_DIGIT.true)
    ]))
