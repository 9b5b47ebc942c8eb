-- The source that files are together, and of which files.
use Rattle.std.specs.Prelude.{◌≡◌, ℕ, List, [], ◌∷◌, map, Option, Some, None, slice_get}
use Rattle.derive_joined.specs.Included.{Gathers, Includes}
use Rattle.derive_joined.specs.Held.{texts_of}
use Rattle.derive_joined.specs.Joined.{joined}
use Rattle.inform_places.specs.declared.files.Files.{Files}
use Rattle.inform_places.specs.declared.files.Whole.{Whole}
use Rattle.inform_places.specs.declared.files.Written.{Written}
use Rattle.inform_places.specs.declared.gathering.Gathering.{Gathering}

-- the bytes of a file, as it was written
abbrev pub bytes_in : Written → List ℕ
bytes_in file = file.bytes.items

-- the bytes of a file that may be there
abbrev pub bytes_or_none : Option Written → List ℕ
bytes_or_none None = []
bytes_or_none (Some file) = bytes_in file

-- the bytes of the file of a number, counted from 0, which is that of the main file
abbrev pub bytes_of : Files → ℕ → List ℕ
bytes_of files number = bytes_or_none (slice_get files.written.items number)

-- the bytes of all files
abbrev pub all_bytes : Files → List (List ℕ)
all_bytes files = map bytes_in files.written.items

-- the text of several files, or else this
abbrev pub text_or : List ℕ → Option Whole → List ℕ
text_or main None = main
text_or main (Some whole) = whole.text.items

-- the source that files are together: the main file where it is the only one
abbrev pub source_of : Files → List ℕ
source_of files = text_or (bytes_of files 0) files.whole

-- The source of which these are the files: one file is the source, as it was written; of several, each stands in the place
-- of the directive that asks for it, with its texts joined.
abbrev pub IsSourceOf : List (List ℕ) → List ℕ → Type 0
IsSourceOf (file ∷ []) source = source ≡ file
IsSourceOf files source = Includes (map joined files) source

-- nothing is read
pub record IsEmpty (gathering : Gathering) : Type 0 where
  pub written : gathering.written.items ≡ []
  pub texts : gathering.texts.items ≡ []

-- the bytes of the files that are read
abbrev pub bytes_gathered : Gathering → List (List ℕ)
bytes_gathered gathering = map bytes_in gathering.written.items

-- files that are read, each with its texts joined, and the parts that they have together
pub record IsGathered (gathering : Gathering) : Type 0 where
  pub joins : texts_of gathering.texts.items ≡ map joined (bytes_gathered gathering)
  pub gathers : Gathers (texts_of gathering.texts.items) gathering.parts.items
