-- The names before which `#` is a space.
use Rattle.std.specs.Prelude.{◌&&◌, ℕ, Bool, not, List, [], ◌∷◌, length, take, slice_index, codes}
use Rattle.std.specs.List.{list_any}
use Rattle.std.specs.Str.{str_eq_ignore_ascii_case}
use Rattle.syntax_lexer.specs.Bytes.{is_name_byte}

abbrev pub directives : List (List ℕ)
directives =
    codes "abbreviate" ∷ codes "array" ∷ codes "attribute" ∷ codes "class" ∷ codes "constant" ∷ codes "default"
    ∷ codes "endif" ∷ codes "global" ∷ codes "ifdef" ∷ codes "iffalse" ∷ codes "ifndef" ∷ codes "ifnot"
    ∷ codes "iftrue" ∷ codes "include" ∷ codes "object" ∷ codes "property" ∷ codes "release" ∷ codes "serial"
    ∷ codes "statusline" ∷ codes "switches" ∷ []

-- the bytes begin with the word, in small letters or in capitals, and it ends there
abbrev pub begins_with : List ℕ → List ℕ → Bool
begins_with bs word = str_eq_ignore_ascii_case (take (length word) bs) word && not (is_name_byte (slice_index bs (length word)))

abbrev pub begins_directive : List ℕ → Bool
begins_directive bs = list_any (begins_with bs) directives
