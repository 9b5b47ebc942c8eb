use Rattle.std.proofs.Common.{◌≡◌, ◌≤◌, ◌∙◌, rules, arith, sym, subst, take, drop_of_length-le}
use Rattle.std.proofs.lemmas.List.{take-append-le, take-take}
use Rattle.std.specs.Io.KnownBytes.{Consumes}
use Rattle.session_keeping.proofs.Waiting.{read_waits}
use Rattle.session_keeping.proofs.typed.Typed.wait.Goals as goal

pub returns-in-Ok-clause-left : goal.returns-in-Ok-clause-left
returns-in-Ok-clause-left g c =
    let before = c.args.self.now in
    let count = c.in-Ok.count in
    let within : count ≤ c.resize.new.self.len = search rules in
    let items : c.truncate.new.self.items ≡ take count c.read.new.buf =
    c.truncate.ensures.items ∙ take-take count c.resize.new.self.len _ within
    ∙ take-append-le count c.read.new.buf _ c.in-Ok.ensures.bound.0 in
    read_waits before.given before.read.items (g.R.Read.remaining before.reader) (g.R.Read.remaining c.read.new.self)
    c.truncate.new.self.items (drop_of_length-le before.read.items (omega (arith, c.if-self-len.false)))
    (subst (Consumes _ _) (sym items) c.in-Ok.ensures.bytes.0)
