-- What a file begins like.
use Rattle.std.specs.Prelude.{◌==◌, ◌&&◌, ◌||◌, ℕ, nat_le, Bool, if◌then◌else◌, List, [], ◌∷◌, length, take}
use Rattle.std.specs.Prelude.{slice_index, codes}
use Rattle.std.specs.List.{list_all, starts_with}
use Rattle.survey.specs.declared.beginning.Beginning.{Beginning}
use Rattle.survey.specs.declared.beginning.Beginning.TheVariants.{Version, Glulx, Blorb, Gzip, Text}

abbrev pub begins_with : List ℕ → List ℕ → Bool
begins_with file start = starts_with (λ (x y : ℕ). x == y) file start

-- a byte of a text in ASCII or UTF-8: a tab, the end of a line, or one that prints
abbrev pub is_text_byte : ℕ → Bool
is_text_byte byte =
    (byte == 9) || ((byte == 10) || ((byte == 13) || (nat_le 32 byte && (nat_le byte 126 || nat_le 128 byte))))

-- a text, as far as it is looked at
abbrev pub is_text : List ℕ → Bool
is_text file = nat_le 1 (length file) && list_all is_text_byte (take 64 file)

-- the first bytes of a Glulx story, of a Blorb file and of a gzip file; that of any other file but a text is a version
abbrev pub beginning_of : List ℕ → Beginning
beginning_of file =
    if begins_with file (codes "Glul") then Glulx
    else (if begins_with file (codes "FORM") then Blorb
    else (if begins_with file (0x1F ∷ 0x8B ∷ []) then Gzip
    else (if is_text file then Text
    else Version (slice_index file 0))))
