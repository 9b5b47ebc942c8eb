use Rattle.std.proofs.Common.{ap, sym, ◌∙◌, subst, refl, ℕ, List, [], ◌∷◌, ◌++◌}
use Rattle.session_lines.specs.Files.{Logs, recalled_if}
use Rattle.zcore_standard.specs.Saving.{no_name}
use Rattle.session_lines.proofs.Answering.{empty_line, full_line}
use Rattle.session_run.proofs.Given.{given_again, given_by_files, given_empty, given_no_name, given_nothing}
use Rattle.session_run.proofs.naming.given_for.Goals as goal

pub returns-then-is_empty : goal.returns-then-is_empty
returns-then-is_empty g c = λ game s h.
    given_empty game s.done c.args.line.now c.args.purpose (g.F.Files.log c.args.files.now) _ (c.requires game s h)
    (empty_line c.args.line.now (sym c.is_empty.ensures ∙ c.if-is_empty.true)) c.new-given.ensures.items

pub returns-then-not-is_name : goal.returns-then-not-is_name
returns-then-not-is_name g c = λ game s h.
    given_no_name game s.done c.args.line.now c.args.purpose (g.F.Files.log c.args.files.now) _ (c.requires game s h)
    (full_line c.args.line.now (sym c.is_empty.ensures ∙ c.if-is_empty.false))
    (sym c.is_name.ensures ∙ c.if-not-is_name.true)
    (c.in_ok-push.ensures.items ∙ ap (λ (xs : List ℕ). xs ++ no_name ∷ []) c.new-given.ensures.items)

pub returns-in_err-push : goal.returns-in_err-push
returns-in_err-push g c = λ game s h.
    given_nothing game s.done c.args.line.now (g.F.Files.log c.args.files.now) (g.F.Files.log c.args.files.now) _ _
    c.from_residual.ensures.1 refl

pub returns-in-Ok-true : goal.returns-in-Ok-true
returns-in-Ok-true g c = λ game s h.
    given_again game s.done c.args.line.now c.recorded.new.given.items c.args.purpose
    (g.F.Files.log c.args.files.now) (g.F.Files.log c.recorded.new.self) _ (c.requires game s h)
    (sym c.is_name.ensures ∙ c.if-not-is_name.false)
    (subst (λ b. Logs (g.F.Files.log c.args.files.now) (g.F.Files.log c.recorded.new.self)
    (recalled_if b c.recorded.new.given.items)) c.in-Ok-true.field-0-test c.in-Ok-true.ensures.ok) refl

pub returns-in-Ok-false : goal.returns-in-Ok-false
returns-in-Ok-false g c = λ game s h.
    given_by_files game s.done c.args.line.now c.args.purpose (g.F.Files.log c.args.files.now)
    (g.F.Files.log c.recorded.new.self) (g.F.Files.log c.given_by.new.files) _ (c.requires game s h)
    (sym c.is_name.ensures ∙ c.if-not-is_name.false)
    (subst (λ b. Logs (g.F.Files.log c.args.files.now) (g.F.Files.log c.recorded.new.self)
    (recalled_if b c.recorded.new.given.items)) c.in-Ok-false.field-0-test c.in-Ok-false.ensures.ok)
    (c.given_by.ensures game s h)

pub returns-in-Err-File : goal.returns-in-Err-File
returns-in-Err-File g c = λ game s h.
    given_nothing game s.done c.args.line.now (g.F.Files.log c.args.files.now) (g.F.Files.log c.recorded.new.self) _
    (λ _. Unit {0}) tt
    c.in-Err-File.ensures.err

pub returns : goal.returns
returns g c = λ game s h.
    given_nothing game s.done c.args.line.now (g.F.Files.log c.args.files.now) (g.F.Files.log c.recorded.new.self) _
    (λ _. Unit {0}) tt
    c.in-Err-Memory.ensures.err
