use Rattle.std.proofs.Common.{◌≡◌, ◌/◌, ◌<◌, ◌∙◌, ap, sym, arith, true, length, [], ◌∷◌, ◌++◌}
use Rattle.std.proofs.lemmas.Grind.{common_steps}
use Rattle.journal.specs.Pages.{keeps}
use Rattle.journal.proofs.Recordings.{recording}
use Rattle.journal.proofs.Held.{beginning_put, keeps_push}
use Rattle.journal.proofs.recorded.Recorded.put.Goals.{else-not-is_kept-via-then-not-is_kept+else-is_err}
use Rattle.journal.proofs.recorded.Recorded.put.Goals.{else-not-is_kept-via-else-not-is_kept}
use Rattle.journal.proofs.recorded.Recorded.put.Goals as goal

pub returns-clause-beginning : goal.returns-clause-beginning
returns-clause-beginning g c =
    let now = c.args.self.now in
    let page = c.args.i / 64 in
    let facts : (c.else-not-is_kept.self.store ≡ now.store) × (c.else-not-is_kept.self.beginning ≡ now.beginning)
    × (keeps c.else-not-is_kept.self.kept page ≡ true) =
    elim c.else-not-is_kept.branch [
      | else-not-is_kept-via-then-not-is_kept+else-is_err w ↦
          let made : w.keep.new.self ≡ recording now.store now.beginning (now.kept ++ page ∷ []) = grind
          (arith, common_steps, w.keep.ensures.ok) in
          let is : c.else-not-is_kept.self ≡ recording now.store now.beginning (now.kept ++ page ∷ []) = w.self-is
          ∙ made in
          (ap (λ r. r.store) is, ap (λ r. r.beginning) is, ap (λ r. keeps r.kept page) is ∙ keeps_push now.kept page)
      | else-not-is_kept-via-else-not-is_kept w ↦
          let kept : c.is_kept.result ≡ true = grind (arith, common_steps, w.if-not-is_kept.false) in (
            ap (λ r. r.store) w.self-is,
            ap (λ r. r.beginning) w.self-is,
            ap (λ r. keeps r.kept page) w.self-is
                ∙ sym c.is_kept.ensures ∙ kept,
          )
    ] in
    let here : c.args.i < length (g.C.Cells.cells c.self-2.inside.store) = omega (
      arith,
      c.requires.cell,
      ap (λ r. length (g.C.Cells.cells r.store)) c.self-2.view_is,
      ap
          (λ s. length (g.C.Cells.cells s)) facts.0,
    ) in
    beginning_put (g.C.Cells.cells c.self-2.inside.store) (g.C.Cells.cells c.put.new.self)
    c.self-2.inside.pages c.self-2.inside.packed.items c.args.i c.args.v c.self-2.invariant.paged.size here
    (ap (λ r. keeps r.kept page) c.self-2.view_is ∙ facts.2) c.put.ensures.cells
    ∙ ap (λ r. r.beginning) c.self-2.view_is ∙ facts.1
