-- Whether a story is loaded, by the mode in which it is to be played.
use Rattle.std.specs.Prelude.{List, ℕ, Ok, Err}
use Rattle.zcore.specs.declared.header.Header.{Header}
use Rattle.zcore.specs.Header.{Reads}
use Rattle.zcore_standard_loading.specs.declared.loading.LoadedStory.{LoadedStory}
use Rattle.zcore_standard_loading.specs.Loading.{ReadsFile}
use Rattle.machine.specs.Loaded as profile
use Rattle.machine_standard.specs.Loads as standard
use Rattle.session.specs.declared.fault.OpenFault.{OpenFault}
use Rattle.session.specs.declared.fault.OpenFault.TheVariants as faults
use Rattle.session.specs.declared.mode.Mode.{Mode}
use Rattle.session.specs.declared.mode.Mode.TheVariants.{Profile, Standard}

-- it can be read
abbrev pub CanBeLoaded : Mode → List ℕ → Type 0
CanBeLoaded Profile story = (header : Header) × Reads story (Ok header)
CanBeLoaded (Standard options) story = (read : LoadedStory) × ReadsFile options.capabilities story (Ok read)

-- it is not loaded, for this reason
abbrev pub RefusesToLoad : Mode → List ℕ → OpenFault → Type 0
RefusesToLoad Profile story (faults.Load fault) = profile.Loads story (Err fault)
RefusesToLoad (Standard options) story (faults.Standard fault) = standard.Loads story options (Err fault)
RefusesToLoad _ story _ = ⊥
