use Rattle.std.proofs.Common.{sym, ◌∙◌}
use Rattle.machine_frames.proofs.Steps.{store_after}
use Rattle.machine_opcodes.proofs.Transcripts.{begun_after, grew_after}
use Rattle.machine_standard_texts.proofs.Refused.{by_own, by_default, kept, anew, refused_on, still_return}
use Rattle.machine_standard_texts.proofs.printing.print_return.Goals as goal

pub returns-then-has_own_alphabets-clause-told : goal.returns-then-has_own_alphabets-clause-told
returns-then-has_own_alphabets-clause-told c = by_own _ c.args.loaded.now.own_alphabets _ _
    (sym c.has_own_alphabets.ensures ∙ c.if-has_own_alphabets.true) c.print_any_return.ensures.told

pub returns-then-not-is_refused-clause-told : goal.returns-then-not-is_refused-clause-told
returns-then-not-is_refused-clause-told c = by_default _ c.args.loaded.now.own_alphabets _ _
    (sym c.has_own_alphabets.ensures ∙ c.if-has_own_alphabets.false)
    (kept c.print_return-done.result _ _ (sym c.is_refused.ensures ∙ c.if-not-is_refused.true) c.print_return-done.ensures.told)

pub print_any_return-requires-2-clause-store : goal.print_any_return-requires-2-clause-store
print_any_return-requires-2-clause-store c = store_after c.requires.store
    (refused_on c.print_return-done.result (sym c.is_refused.ensures ∙ c.if-not-is_refused.false) c.print_return-done.ensures.told)

pub print_any_return-requires-2-clause-text : goal.print_any_return-requires-2-clause-text
print_any_return-requires-2-clause-text c = begun_after c.requires.text c.print_return-done.ensures.text

pub returns-clause-told : goal.returns-clause-told
returns-clause-told c = by_default _ c.args.loaded.now.own_alphabets _ _
    (sym c.has_own_alphabets.ensures ∙ c.if-has_own_alphabets.false)
    (anew c.print_return-done.result c.print_any_return-2.result _ _
    (still_return c.args.here c.args.after) (sym c.is_refused.ensures ∙ c.if-not-is_refused.false)
    c.print_return-done.ensures.told c.print_any_return-2.ensures.told)

pub returns-clause-text : goal.returns-clause-text
returns-clause-text c = grew_after c.print_return-done.ensures.text c.print_any_return-2.ensures.text
