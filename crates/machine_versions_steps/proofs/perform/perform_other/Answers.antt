use Rattle.std.proofs.Common.{inl, inr, sym, refl}
use Rattle.machine_frames.proofs.Steps.{told_went}
use Rattle.zcore_versions.specs.Performing.{perform_other}
use Rattle.zcore_versions.specs.Versions.{versioned}
use Rattle.machine_versions_steps.proofs.Performing.{on_small_object, text_locked}
use Rattle.machine_versions_steps.proofs.perform.perform_other.Goals as goal

pub returns-in-CallVs-clause-told : goal.returns-in-CallVs-clause-told
unfolding perform_other
returns-in-CallVs-clause-told c =
    let told = told_went _ _ c.call_older.ensures in
    elim c.in-CallVs.is [
      | inl e ↦ rw (e, sym c.value_of-x.ensures, sym c.rest_of-rest.ensures) told
      | inr (inl e) ↦ rw (e, sym c.value_of-x.ensures, sym c.rest_of-rest.ensures) told
      | inr (inr (inl e)) ↦ rw (e, sym c.value_of-x.ensures, sym c.rest_of-rest.ensures) told
      | inr (inr (inr e)) ↦ rw (e, sym c.value_of-x.ensures, sym c.rest_of-rest.ensures) told
    ]

pub returns-in-CallVn-clause-told : goal.returns-in-CallVn-clause-told
unfolding perform_other
returns-in-CallVn-clause-told c =
    let told = told_went _ _ c.call_older-in-CallVn.ensures in
    elim c.in-CallVn.is [
      | inl e ↦ rw (e, sym c.value_of-x.ensures, sym c.rest_of-rest.ensures) told
      | inr (inl e) ↦ rw (e, sym c.value_of-x.ensures, sym c.rest_of-rest.ensures) told
      | inr (inr (inl e)) ↦ rw (e, sym c.value_of-x.ensures, sym c.rest_of-rest.ensures) told
      | inr (inr (inr e)) ↦ rw (e, sym c.value_of-x.ensures, sym c.rest_of-rest.ensures) told
    ]

pub returns-in-PrintPacked-clause-told : goal.returns-in-PrintPacked-clause-told
unfolding perform_other
returns-in-PrintPacked-clause-told c =
    rw (c.in-PrintPacked.is, sym c.value_of-x.ensures) c.print_packed.ensures.told

pub returns-in-PrintObject-clause-told : goal.returns-in-PrintObject-clause-told
unfolding perform_other
returns-in-PrintObject-clause-told c =
    rw (c.in-PrintObject.is, sym c.value_of-x.ensures) c.print_object.ensures.told

pub print_inline-requires-clause-locked : goal.print_inline-requires-clause-locked
print_inline-requires-clause-locked c =
    text_locked c.args.version c.args.operation (inl c.in-Print.is) c.requires.differs

pub returns-in-Print-clause-told : goal.returns-in-Print-clause-told
unfolding perform_other
returns-in-Print-clause-told c = rw c.in-Print.is c.print_inline.ensures.told

pub print_return-requires-clause-locked : goal.print_return-requires-clause-locked
print_return-requires-clause-locked c =
    text_locked c.args.version c.args.operation (inr (inl c.in-PrintReturn.is)) c.requires.differs

pub returns-in-PrintReturn-clause-told : goal.returns-in-PrintReturn-clause-told
unfolding perform_other
returns-in-PrintReturn-clause-told c = rw c.in-PrintReturn.is c.print_return.ensures.told

pub print_address-requires-clause-locked : goal.print_address-requires-clause-locked
print_address-requires-clause-locked c =
    text_locked c.args.version c.args.operation (inr (inr c.in-PrintAddress.is)) c.requires.differs

pub returns-in-PrintAddress-clause-told : goal.returns-in-PrintAddress-clause-told
unfolding perform_other
returns-in-PrintAddress-clause-told c =
    rw (c.in-PrintAddress.is, sym c.value_of-x.ensures) c.print_address.ensures.told

pub perform_on_object-requires-clause-object : goal.perform_on_object-requires-clause-object
perform_on_object-requires-clause-object c =
    on_small_object c.args.version.number c.args.operation c.requires.differs
    c.in_default.not-CallVs c.in_default.not-CallVs2 c.in_default.not-Call1s c.in_default.not-Call2s
    c.in_default.not-CallVn c.in_default.not-CallVn2 c.in_default.not-Call1n c.in_default.not-Call2n
    c.in_default.not-PrintPacked c.in_default.not-PrintObject c.in_default.not-Print c.in_default.not-PrintReturn
    c.in_default.not-PrintAddress

pub returns-in_default-clause-told : goal.returns-in_default-clause-told
returns-in_default-clause-told c =
    told_went _ _ (c.perform_on_object.ensures (versioned c.args.loaded.now c.args.version))
