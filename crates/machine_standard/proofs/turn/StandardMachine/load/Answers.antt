use Rattle.std.proofs.Common.{List, ℕ, Option, ap, length, arith, sym, subst, ◌∙◌}
use Rattle.zcore.specs.Header.{HasHeader}
use Rattle.std.specs.Option.{option_map}
use Rattle.zcore_standard_loading.specs.Loading.{memory_for, saves_for}
use Rattle.machine_standard.proofs.Beginning.{saves_are, short_memory}
use Rattle.machine_standard.specs.Loads.{AreSaves}
use Rattle.machine_standard.proofs.turn.StandardMachine.load.Goals as goal

pub begin-requires-clause-short : goal.begin-requires-clause-short
begin-requires-clause-short c = omega (
  arith,
  short_memory c.args.options.capabilities c.args.file.items c.in-Ok.story c.in-Ok.ensures.read,
  ap length c.in-Ok.ensures.memory,
)

pub begin-requires-clause-saves : goal.begin-requires-clause-saves
begin-requires-clause-saves c =
    let file : List ℕ = c.args.file.items in
    let whole : HasHeader file = c.in-Ok.ensures.read.0.header in
    let saves = c.in-Ok-saves.ensures (subst HasHeader (sym c.deref.ensures.value) whole)
    ∙ ap (λ (f : List ℕ). saves_for f c.args.options) c.deref.ensures.value in
    subst (λ (m : List ℕ). AreSaves m (option_map (λ v. v.items) c.in-Ok-saves.saves)) (sym c.in-Ok.ensures.memory)
    (subst (λ (o : Option (List ℕ)). AreSaves (memory_for c.args.options.capabilities file) o) (sym saves)
    (saves_are c.args.options.capabilities file c.in-Ok.story c.args.options c.in-Ok.ensures.read))
