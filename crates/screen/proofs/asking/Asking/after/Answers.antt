use Rattle.std.proofs.Common.{◌≡◌, ℕ, [], Option, Some, ap, drop, drop_of_length-le, subst, ◌∙◌}
use Rattle.std.proofs.lemmas.Bool.{ne_eqb}
use Rattle.screen.specs.Asked.{GivesByte, question}
use Rattle.screen.proofs.Questions.{last_line_ended, line_ended, line_goes_on, nothing_left}
use Rattle.screen.proofs.asking.Asking.after.Goals as goal

pub returns-then-byte-eq-NEW_LINE-clause-byte : goal.returns-then-byte-eq-NEW_LINE-clause-byte
returns-then-byte-eq-NEW_LINE-clause-byte g c =
    let none : drop c.args.self.now.asked question ≡ [] = drop_of_length-le question c.requires in
    λ old new gives.
    rw (c.end_line.ensures.asked, c.end_line.ensures.begun, c.end_line.ensures.byte)
    (line_ended c.args.self.now.asked c.args.self.now.is_begun old new none
    (subst (λ (t : Option ℕ). GivesByte old new t)
    (c.in-Some.is ∙ ap (λ (b : ℕ). Some b) c.if-byte-eq-NEW_LINE.true) gives))

pub returns-else-byte-eq-NEW_LINE-clause-byte : goal.returns-else-byte-eq-NEW_LINE-clause-byte
returns-else-byte-eq-NEW_LINE-clause-byte g c =
    let none : drop c.args.self.now.asked question ≡ [] = drop_of_length-le question c.requires in
    λ old new gives.
    line_goes_on c.args.self.now.asked c.in-Some.byte c.args.self.now.is_begun old new none
    (ne_eqb c.in-Some.byte 10 c.if-byte-eq-NEW_LINE.false)
    (subst (λ (t : Option ℕ). GivesByte old new t) c.in-Some.is gives)

pub returns-then-self-clause-byte : goal.returns-then-self-clause-byte
returns-then-self-clause-byte g c =
    let none : drop c.args.self.now.asked question ≡ [] = drop_of_length-le question c.requires in
    λ old new gives.
    rw (
      c.end_line-then-self.ensures.asked,
      c.end_line-then-self.ensures.begun,
      c.end_line-then-self.ensures.byte,
      c.if-self.true,
    ) (last_line_ended c.args.self.now.asked old new none
    (subst (λ (t : Option ℕ). GivesByte old new t) c.in-None.is gives))

pub returns-else-self-clause-byte : goal.returns-else-self-clause-byte
returns-else-self-clause-byte g c =
    let none : drop c.args.self.now.asked question ≡ [] = drop_of_length-le question c.requires in
    λ old new gives.
    rw c.if-self.false (nothing_left c.args.self.now.asked old new none
    (subst (λ (t : Option ℕ). GivesByte old new t) c.in-None.is gives))
