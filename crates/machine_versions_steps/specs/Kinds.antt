-- Operations that a version performs otherwise, by their kinds.
use Rattle.std.specs.Prelude.{◌≡◌, ◌≤◌, ◌==◌, ℕ, Bool, true, false, if◌then◌else◌}
use Rattle.zcore.specs.declared.instruction.Operation.{Operation}
use Rattle.zcore.specs.declared.instruction.Operation.TheVariants.{PrintObject}
use Rattle.zcore.specs.declared.next.Next.{Next}
use Rattle.zcore.specs.Layout.{longest_story}
use Rattle.zcore.specs.Parts.{goes_on}
use Rattle.zcore.specs.State.{State, Out}
use Rattle.zcore_versions.specs.declared.version.StoryVersion.{StoryVersion}
use Rattle.zcore_versions.specs.declared.operations.VersionOperation.{VersionOperation}
use Rattle.zcore_versions.specs.declared.operations.VersionOperation.TheVariants.{Known}
use Rattle.zcore_versions.specs.Operations.{differs, uses_objects}
use Rattle.zcore_versions.specs.SmallObjects.{remove_object}
use Rattle.zcore_versions.specs.Versions.{is_late}

-- A version that performs opcodes otherwise than versions 5 and 8. What packed addresses count from is a place that a
-- word of the header can name.
pub record IsEarly (version : StoryVersion) : Type 0 where
  pub early : is_late version ≡ false
  pub routines : version.routine_offset ≤ longest_story
  pub texts : version.text_offset ≤ longest_story

-- whether an operation is on an object or a property, and prints nothing
abbrev pub is_on_small_object : Operation → Bool
is_on_small_object PrintObject = false
is_on_small_object operation = uses_objects operation

-- an object is taken out of the one that it is in; object 0 is in none
abbrev pub take_out : Next → ℕ → ℕ → State → Out Next
take_out here after object = if object == 0 then goes_on after here.fuel else remove_object here after object

-- an operation of the profile is one that the version performs otherwise
abbrev pub Differs : ℕ → VersionOperation → Type 0
Differs version (Known operation) = differs version operation ≡ true
Differs version _ = Unit {0}
