-- What a writer holds that begins with a text of its own.
use Rattle.std.specs.Prelude.{ℕ, if◌then◌else◌, List, Option, None, is_some}
use Rattle.session_keeping.specs.declared.preceded.Preceded.{Preceded}

-- the bytes of the writer that it passes on to, once its text is written
abbrev pub preceded_contents : {W : Type 0} → (W → Option (List ℕ)) → Preceded W → Option (List ℕ)
preceded_contents known preceded = if is_some preceded.text then None else known preceded.writer
