use Rattle.std.proofs.Common.{refl}
use Rattle.machine_frames.proofs.Steps.{went_then, went_no_further, went_err, went_sound, went_still}
use Rattle.zcore_versions.specs.SmallObjects.{set_attribute}
use Rattle.machine_versions.proofs.attributes.set_attribute.Goals as goal

pub returns-in_err-byte : goal.returns-in_err-byte
unfolding set_attribute
returns-in_err-byte c = went_err _ c.from_residual.ensures.1 (went_no_further _ c.in_err-byte.ensures)

pub returns-in_err-write_attributes : goal.returns-in_err-write_attributes
unfolding set_attribute
returns-in_err-write_attributes c =
    went_err _ c.from_residual-in_err-write_attributes.ensures.1
    (went_then _ c.in_ok-byte.ensures
    (went_no_further _ (rw c.attribute_bit.ensures at c.in_err-write_attributes.ensures)))

pub returns : goal.returns
unfolding set_attribute
returns c =
    went_then _ c.in_ok-byte.ensures
    (went_then _ (rw c.attribute_bit.ensures at c.in_ok-write_attributes.ensures)
    (went_still _ _ (went_sound c.in_ok-write_attributes.ensures) (λ t. refl)))
