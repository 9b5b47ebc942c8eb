-- Bytes that are kept, wherever they are stored.
use Rattle.std.specs.Prelude.{ℕ, List}
use Rattle.session_lines.specs.declared.kept_bytes.Stored.{Stored}
use Rattle.session_lines.specs.declared.kept_bytes.Stored.TheVariants.{Short, Long}

abbrev pub bytes_of : Stored → List ℕ
bytes_of (Short bytes) = bytes
bytes_of (Long bytes) = bytes.items
