-- The files of a source.
use Rattle.std.specs.Prelude.{◌≡◌, ℕ, List, [], ◌∷◌}
use Rattle.inform_places.specs.declared.files.Files.{Files}
use Rattle.inform_places.specs.declared.files.Written.{Written}
use Rattle.inform_places.specs.Source.{IsSourceOf, all_bytes, bytes_in, source_of}

-- the first file has these bytes
abbrev pub BeginsWith : List ℕ → List Written → Type 0
BeginsWith main [] = ⊥
BeginsWith main (file ∷ files) = bytes_in file ≡ main

-- the files of a source, of which the main one has these bytes
pub record AreFiles (main : List ℕ) (files : Files) : Type 0 where
  pub begins : BeginsWith main files.written.items
  pub source : IsSourceOf (all_bytes files) (source_of files)
