use Rattle.std.proofs.Common.{List, ap, sym, ◌∙◌, subst}
use Rattle.std.specs.Prelude.{map}
use Rattle.std.specs.List.{All}
use Rattle.code_drafts.specs.declared.layout.BranchUse.{BranchUse}
use Rattle.code_drafts.specs.Layout.{IsShortest}
use Rattle.code_drafts.proofs.Offsets.{all_shortest}
use Rattle.code_drafts.specs.Code.{items_of}
use Rattle.code_drafts.specs.Written.{sizes_in}
use Rattle.code.specs.Bytes.{parts_of, place_of}
use Rattle.code.specs.Written.{CodeOf, branch_offsets}
use Rattle.code.proofs.Codes.{offsets_are}
use Rattle.code.proofs.routine.Code.branches.Goals as goal

pub returns-clause-offsets : goal.returns-clause-offsets
returns-clause-offsets c =
    let is = items_of c.self.inside.items.items in
    let sizes = sizes_in c.self.inside.sizes in
    ap (λ (us : List BranchUse). map (λ (u : BranchUse). u.offset) us) (c.deref.ensures.value ∙ c.self.invariant.1)
    ∙ offsets_are sizes is
    ∙ ap (λ (v : CodeOf). branch_offsets (place_of v.sizes v.items) 0 v.items) c.self.view_is

pub returns-clause-shortest : goal.returns-clause-shortest
returns-clause-shortest c = subst (All IsShortest) (sym (c.deref.ensures.value ∙ c.self.invariant.1))
    (all_shortest 0 (parts_of (sizes_in c.self.inside.sizes) (items_of c.self.inside.items.items)))
