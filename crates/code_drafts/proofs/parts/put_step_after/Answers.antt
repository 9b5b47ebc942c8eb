use Rattle.std.proofs.Common.{subst}
use Rattle.code_drafts.specs.Code.{as_destination}
use Rattle.code_drafts.specs.declared.item.Destination as code
use Rattle.code_drafts.specs.Writing.{written_in, ReducesWord}
use Rattle.code_drafts.proofs.Reductions.{stepped_nowhere, stepped_pushed, stepped_kept, stepped_aside}
use Rattle.code_drafts.proofs.parts.put_step_after.Goals as goal

pub returns-in_ok-put-in-Nowhere : goal.returns-in_ok-put-in-Nowhere
returns-in_ok-put-in-Nowhere c =
    let P : code.Destination → Type 0 = λ d. ReducesWord (written_in c.args.draft.now)
    (written_in c.put_word.new.draft) c.args.wanted (as_destination d) in
    stepped_nowhere _ _ _ c.args.wanted c.args.variable c.args.step
    (subst P c.in-Nowhere.is c.in_ok-put_word.ensures) c.in_ok-put-in-Nowhere.ensures

pub returns-in_ok-put-in-Push-2 : goal.returns-in_ok-put-in-Push-2
returns-in_ok-put-in-Push-2 c =
    let P : code.Destination → Type 0 = λ d. ReducesWord (written_in c.args.draft.now)
    (written_in c.put_word.new.draft) c.args.wanted (as_destination d) in
    stepped_pushed _ _ _ _ c.args.wanted c.args.variable c.args.step
    (subst P c.in-Push.is c.in_ok-put_word.ensures) c.in_ok-put-in-Push.ensures c.in_ok-put-in-Push-2.ensures

pub returns-in_ok-put-in-Into-3 : goal.returns-in_ok-put-in-Into-3
returns-in_ok-put-in-Into-3 c =
    let P : code.Destination → Type 0 = λ d. ReducesWord (written_in c.args.draft.now)
    (written_in c.put_word.new.draft) c.args.wanted (as_destination d) in
    stepped_kept _ _ _ _ _ c.args.wanted c.args.variable c.in-Into.other c.args.step
    (subst P c.in-Into.is c.in_ok-put_word.ensures) c.in_ok-put-in-Into.ensures c.in_ok-put-in-Into-2.ensures
    c.in_ok-put-in-Into-3.ensures

pub returns-in_ok-put-in-Aside-3 : goal.returns-in_ok-put-in-Aside-3
returns-in_ok-put-in-Aside-3 c =
    let P : code.Destination → Type 0 = λ d. ReducesWord (written_in c.args.draft.now)
    (written_in c.put_word.new.draft) c.args.wanted (as_destination d) in
    stepped_aside _ _ _ _ _ c.args.wanted c.args.variable c.args.step
    (subst P c.in-Aside.is c.in_ok-put_word.ensures) c.in_ok-put-in-Aside.ensures c.in_ok-put-in-Aside-2.ensures
    c.in_ok-put-in-Aside-3.ensures
