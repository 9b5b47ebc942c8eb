use Rattle.std.proofs.Common.{◌≡◌, ℕ, ◌+◌, Option, Some, None, slice_get, ap, sym, ◌∙◌, subst}
use Rattle.std.specs.Option.{option_map}
use Rattle.meaning.specs.Views.{CheckedProgram, program_of, routine_of}
use Rattle.meaning.specs.declared.checked.CheckedRoutine.{CheckedRoutine}
use Rattle.code.specs.Bytes.{code_size}
use Rattle.code.specs.HeldProgram.{sizes_of}
use Rattle.code.specs.Sizes.{routine_size}
use Rattle.messages_diagnosis.specs.Figures.{figures_in}
use Rattle.messages_diagnosis.specs.declared.routine_figures.RoutineFigures.{RoutineFigures}
use Rattle.messages_diagnosis.proofs.routine_figures.figures_at.Goals as goal

weight_in : Option CheckedRoutine → ℕ
weight_in None = 0
weight_in (Some r) = r.weight

abbrev figures : CheckedRoutine → ℕ → ℕ → RoutineFigures
figures r w n = record { name = r.name; weight = w; size = n }

-- the figures of the routine that is found, also where it is asked for twice
figured : (c : CheckedProgram) (found : Option CheckedRoutine) (r again : CheckedRoutine) (n : ℕ) → Some r ≡ found
    → Some again ≡ found → n ≡ routine_size (sizes_of (program_of c)) (routine_of r)
    → Some (figures r again.weight n) ≡ option_map (figures_in c) found
unfolding weight_in
figured c found r again n is is_again size =
    let weight : again.weight ≡ r.weight = ap weight_in (is_again ∙ sym is) in
    let all : Some (figures r again.weight n) ≡ Some (figures_in c r) =
    ap (λ (w : ℕ). Some (figures r w n)) weight ∙ ap (λ (k : ℕ). Some (figures r r.weight k)) size in
    subst (λ (o : Option CheckedRoutine). Some (figures r again.weight n) ≡ option_map (figures_in c) o) is all

pub returns-in-Ok : goal.returns-in-Ok
returns-in-Ok c =
    let checked = c.args.checked.now in
    let sizes = sizes_of (program_of checked) in
    let r = c.routine.result.now in
    let n = c.length.result in
    let size : n ≡ routine_size sizes (routine_of r) =
    c.length.ensures
    ∙ ap (λ s. 1 + code_size s c.in-Ok.code.items) c.in-Ok.ensures.sizes
    ∙ ap (λ xs. 1 + code_size sizes xs) c.in-Ok.ensures.items
    ∙ ap (λ x. routine_size sizes x) (sym c.routine.ensures.resolved) in
    figured checked (slice_get checked.routines c.args.routine) r c.routine-in-Ok.result.now n c.routine.ensures.given
    c.routine-in-Ok.ensures.given size
