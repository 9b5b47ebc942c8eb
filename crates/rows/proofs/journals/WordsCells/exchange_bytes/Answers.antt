use Rattle.std.proofs.Common.{◌≡◌, ℕ, ◌*◌, List, [], ◌∷◌, length, refl, ap, sym, arith}
use Rattle.std.proofs.lemmas.List.{take-append-drop}
use Rattle.journal.specs.Pages.{put_run, run_of}
use Rattle.rows.proofs.journals.WordsCells.exchange_bytes.Goals as goal

put_none : (c vs : List ℕ) (first : ℕ) → length vs ≡ 0 → c ≡ put_run c first vs
put_none c [] first none = sym (take-append-drop first c)
put_none c (v ∷ vs) first none = absurd (omega (arith, none))

held_none : (c vs : List ℕ) (first : ℕ) → length vs ≡ 0 → vs ≡ run_of c first (length vs)
held_none c [] first none = refl
held_none c (v ∷ vs) first none = absurd (omega (arith, none))

pub returns-clause-cells : goal.returns-clause-cells
returns-clause-cells c =
    let few = ap (λ (t : List ℕ). length t) c.self.view_is in
    let none : length c.args._values.now ≡ 0 = omega
    (arith, c.requires.bytes, c.requires.cells, c.self.invariant, few) in
    let is = put_none c.args.self.now c.args._values.now (c.args._page * 64) none in
    cc (c.self.view_is, is)

pub returns-clause-values : goal.returns-clause-values
returns-clause-values c =
    let few = ap (λ (t : List ℕ). length t) c.self.view_is in
    let none : length c.args._values.now ≡ 0 = omega
    (arith, c.requires.bytes, c.requires.cells, c.self.invariant, few) in
    held_none c.args.self.now c.args._values.now (c.args._page * 64) none
