use Rattle.std.proofs.Common.{◌∙◌, ap, length, sym, subst, take}
use Rattle.std.specs.Io.KnownBytes.{Consumes}
use Rattle.session_keeping.proofs.Waiting.{given_on, kept_and_given, none_left}
use Rattle.session_keeping.proofs.typed.TypedRead.read.Goals as goal

pub returns-clause-bytes : goal.returns-clause-bytes
returns-clause-bytes g c =
    let ready = c.wait.new.self in
    let count = c.copy_line-count in
    let text = c.waiting.ensures in
    let reader = g.R.Read.remaining ready.reader in
    let given = given_on ready.given count.result ready.read.items reader in
    let copied = count.ensures.same ∙ ap (take count.result) text in (
      subst (Consumes _ _) (sym copied) (kept_and_given _ _ _ _ c.in_ok-wait.ensures.left given),
      (λ zero room.
          let none = sym (ap length text) ∙ count.ensures.end zero room in
          none_left ready.given count.result ready.read.items reader none (c.in_ok-wait.ensures.end none)),
    )
