use Rattle.std.proofs.Common.{◌+◌, ◌∙◌, ℕ, List, length, drop, set, ap, arith, length-set}
use Rattle.std.proofs.lemmas.List.{with_items_is}
use Rattle.derive_tokens.specs.declared.piece.Piece.{Piece}
use Rattle.derive_tokens.specs.Pieces.{derived_all}
use Rattle.derive_tokens.specs.Held.{names_of}
use Rattle.derive_values.specs.Values.{Numbers, valued}
use Rattle.derive_values.specs.Views.{numbers_held, reading_of}
use Rattle.derive_values.proofs.Turns.{kept_in, same_next, same_set, set_in}
use Rattle.derive_values.proofs.values.valued.Goals.{in-Copied, in_default+in-Ok}
use Rattle.derive_values.proofs.values.valued.Goals as goal

-- src/values.rt: one token more
pub loop-at-preserved : goal.loop-at-preserved
loop-at-preserved c =
    let routines : List (List ℕ) = names_of c.args.routines.now in
    let numbers : Numbers = numbers_held c.args.numbers.now in
    let pieces : List Piece = c.args.pieces.now in
    let out : List Piece = c.loop-at.out.items in
    let at : ℕ = c.loop-at.at in
    record {
      few = omega (arith, c.in_ok-step.ensures.grows, c.loop-at.invariant.few);
      size = elim c.match-used.branch [
        | in-Copied w ↦ ap (λ o. length o.items) w.out-is ∙ c.loop-at.invariant.size
        | in_default+in-Ok w ↦
            ap (λ o. length o.items) w.out-is
            ∙ ap length (with_items_is c.loop-at.out w.put_at.new.out
            (ap length w.put_at.ensures ∙ length-set w.deref_mut.result.now at w.in-Ok.value ∙ w.deref_mut.ensures.len))
            ∙ ap length w.put_at.ensures ∙ length-set w.deref_mut.result.now at w.in-Ok.value
            ∙ ap length w.deref_mut.ensures.value ∙ c.loop-at.invariant.size
      ];
      same = elim c.match-used.branch [
        | in-Copied w ↦
            ap (λ o. drop (at + 1) o.items) w.out-is
            ∙ same_next out pieces at c.loop-at.invariant.size c.loop-at-test.true c.loop-at.invariant.same
        | in_default+in-Ok w ↦
            ap (λ o. drop (at + 1) o.items) w.out-is
            ∙ ap (drop (at + 1)) (with_items_is c.loop-at.out w.put_at.new.out
            (ap length w.put_at.ensures ∙ length-set w.deref_mut.result.now at w.in-Ok.value ∙ w.deref_mut.ensures.len)
            ∙ w.put_at.ensures ∙ ap (λ xs. set xs at w.in-Ok.value) w.deref_mut.ensures.value)
            ∙ same_set out pieces at w.in-Ok.value w.in-Ok.value c.loop-at.invariant.size c.loop-at-test.true
            c.loop-at.invariant.same
      ];
      rest = elim c.match-used.branch [
        | in-Copied w ↦
            kept_in routines numbers (reading_of c.loop-at.reading) (reading_of c.step.new.self) out
            c.match-used.out.items pieces c.after.result.now at _ (valued (derived_all pieces)) c.in_ok-used.used
            c.loop-at.invariant.size c.loop-at-test.true c.loop-at.invariant.same c.loop-at.invariant.rest
            c.after.ensures.value c.in_ok-used.ensures c.in_ok-step.ensures.value (ap (λ o. o.items) w.out-is)
            w.in-Copied.is
        | in_default+in-Ok w ↦
            set_in routines numbers (reading_of c.loop-at.reading) (reading_of c.step.new.self) out
            c.match-used.out.items pieces c.after.result.now at _ w.in-Ok.value (valued (derived_all pieces))
            c.in_ok-used.used c.loop-at.invariant.size c.loop-at-test.true c.loop-at.invariant.rest
            c.after.ensures.value c.in_ok-used.ensures c.in_ok-step.ensures.value
            (ap (λ o. o.items) w.out-is ∙ with_items_is c.loop-at.out w.put_at.new.out
            (ap length w.put_at.ensures ∙ length-set w.deref_mut.result.now at w.in-Ok.value ∙ w.deref_mut.ensures.len)
            ∙ w.put_at.ensures ∙ ap (λ xs. set xs at w.in-Ok.value) w.deref_mut.ensures.value)
            w.in-Ok.ensures
      ];
    }
