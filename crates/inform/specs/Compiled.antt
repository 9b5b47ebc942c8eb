-- What is compiled.
use Rattle.std.specs.Prelude.{◌≡◌, ℕ, Bool, true, false, List, Option, Some, None, Ok}
use Rattle.std.specs.Global.{Vec}
use Rattle.derive.specs.Extended.{Extends}
use Rattle.inform_places.specs.Source.{source_of}
use Rattle.inform.specs.declared.compiling.Texts.{Texts}
use Rattle.inform.specs.Files.{AreFiles}

-- what was derived, or else the source that was written
abbrev pub derived_or : List ℕ → Option (Vec ℕ) → List ℕ
derived_or source None = source
derived_or source (Some derived) = derived.items

abbrev pub compiled_of : Texts → List ℕ
compiled_of texts = derived_or (source_of texts.files) texts.derived

-- of an extended source that is compiled which its files together stand for
pub record CompilesExtended (main : List ℕ) (texts : Texts) : Type 0 where
  pub files : AreFiles main texts.files
  pub extends : Extends (source_of texts.files) (Ok (compiled_of texts))

-- Any other source is compiled as the main file was written, which has these bytes.
abbrev pub Compiles : Bool → List ℕ → Texts → Type 0
Compiles false main texts = compiled_of texts ≡ main
Compiles true main texts = CompilesExtended main texts
