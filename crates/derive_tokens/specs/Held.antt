-- What the code holds.
use Rattle.std.specs.Prelude.{ℕ, List, map}
use Rattle.derive_tokens.specs.declared.names.Names.{Names}
use Rattle.derive_tokens.specs.declared.names.SmallName.{SmallName}
use Rattle.derive_tokens.specs.declared.names.SmallName.TheVariants as small_names

abbrev pub names_of : Names → List (List ℕ)
names_of names = map (λ name. name.items) names.names.keys

abbrev pub bytes_of : SmallName → List ℕ
bytes_of (small_names.Read bytes) = bytes.now
bytes_of (small_names.Made bytes) = bytes.items
