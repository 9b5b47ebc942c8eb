use Rattle.std.proofs.Common.{◌≡◌, ℕ, ◌<◌, ◌++◌, ◌∷◌, [], ◌*◌, ◌∙◌, Bool, List, ap, arith, length, slice_index, false}
use Rattle.std.proofs.Common.{subst, sym}
use Rattle.std.proofs.lemmas.Grind.{common_steps}
use Rattle.journal.specs.Pages.{IsHeld, keeps, page_len}
use Rattle.journal.proofs.Recordings.{same_recording}
use Rattle.journal.proofs.Held.{beginning_push, held_push}
use Rattle.journal.proofs.recorded.Recorded.keep.Goals as goal

pub invariant_of-self-2 : goal.invariant_of-self-2
invariant_of-self-2 g c =
    let cells = g.C.Cells.cells c.self.inside.store in
    let size : c.page_size.result ≡ page_len (length cells) c.args.page = c.page_size.ensures.result
    ∙ ap (λ (t : ℕ). page_len t c.args.page) c.len-len.ensures.count in
    let pages : c.push.new.self ≡ c.self.inside.pages ++ c.args.page ∷ [] = grind (arith, common_steps) in
    let named : c.args.page * 64 < length cells = omega
    (arith, c.requires.page, ap (λ r. length (g.C.Cells.cells r.store)) c.self.view_is) in
    let new : keeps c.self.inside.pages c.args.page ≡ false = ap (λ r. keeps r.kept c.args.page) c.self.view_is
    ∙ c.requires.new in
    let marked = held_push (length cells) (g.C.Cells.bounds c.self.inside.store) (slice_index cells) c.self.inside.flags
    c.cover.new.self c.self.inside.pages c.push.new.self c.self.inside.packed.items
    c.copy_page.new.packed.items
    c.args.page c.page_size.result c.self.invariant named new c.in_ok-cover.ensures.same c.in_ok-cover.ensures.room
    size c.in_ok-copy_page.ensures.within pages c.in_ok-copy_page.ensures.ok in
    subst (λ (flags : List Bool). IsHeld (length cells) (g.C.Cells.bounds c.self.inside.store) flags
    c.push.new.self c.copy_page.new.packed.items) (sym c.set.ensures) marked

pub returns-clause-ok : goal.returns-clause-ok
returns-clause-ok g c =
    let cells = g.C.Cells.cells c.self.inside.store in
    let size : c.page_size.result ≡ page_len (length cells) c.args.page = c.page_size.ensures.result
    ∙ ap (λ (t : ℕ). page_len t c.args.page) c.len-len.ensures.count in
    let pages : c.push.new.self ≡ c.self.inside.pages ++ c.args.page ∷ [] = grind (arith, common_steps) in
    same_recording _ _ _ _ _ _ (ap (λ r. r.store) c.self.view_is)
    (beginning_push cells c.self.inside.pages c.push.new.self c.self.inside.packed.items
    c.copy_page.new.packed.items c.args.page c.page_size.result c.self.invariant.paged.size size pages
    c.in_ok-copy_page.ensures.ok
    ∙ ap (λ r. r.beginning) c.self.view_is)
    (pages ∙ ap (λ r. r.kept ++ c.args.page ∷ []) c.self.view_is)
