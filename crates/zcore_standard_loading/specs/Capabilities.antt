-- What a player shows.
use Rattle.std.specs.Prelude.{◌<◌, false}
use Rattle.zcore_standard_loading.specs.declared.options.Capabilities.{Capabilities}

-- without a screen: no styles, 80 columns, and rows without end, which 255 means (8.4.1)
abbrev pub plain : Capabilities
plain = record { has_styles = false; columns = 80; rows = 255 }

-- The header has a byte for the columns and one for the rows.
abbrev pub HasByteSize : Capabilities → Type 0
HasByteSize shown = (shown.columns < 256) × (shown.rows < 256)
