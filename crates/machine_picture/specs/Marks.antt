-- Text with marks where its style changes: sequences of a terminal (ECMA-48, SGR).
use Rattle.std.specs.Prelude.{ℕ, ◌==◌, ◌/◌, ◌%◌, Bool, true, false, not, if◌then◌else◌, List, [], ◌∷◌, ◌++◌, codes}
use Rattle.std.specs.List.{list_all}

abbrev pub escape : ℕ
escape = 27

-- a part of a mark, where the style has the bit with this value
abbrev pub part : ℕ → List ℕ → ℕ → List ℕ
part value text style = if style / value % 2 == 1 then text else []

-- ESC, `[0`, what is in the style, and `m`
abbrev pub mark : ℕ → List ℕ
mark style = escape ∷ codes "[0" ++ (part 1 (codes ";7") style ++ (part 2 (codes ";1") style
    ++ (part 4 (codes ";3") style ++ (part 8 (codes ";50") style ++ codes "m"))))

-- a mark where a style differs from the one before
abbrev pub changed : ℕ → ℕ → List ℕ
changed before now = if now == before then [] else mark now

-- A text after a character of a style, with the styles of its bytes, as far as these go. It ends plain.
unfoldable pub marked_after : ℕ → List ℕ → List ℕ → List ℕ
marked_after before [] each = changed before 0
marked_after before (byte ∷ bytes) [] = changed before 0 ++ byte ∷ marked_after 0 bytes []
marked_after before (byte ∷ bytes) (now ∷ each) = changed before now ++ byte ∷ marked_after now bytes each

abbrev pub marked : List ℕ → List ℕ → List ℕ
marked = marked_after 0

-- What is left without marks: from ESC to `m` each is dropped.
unfoldable pub without_marks : Bool → List ℕ → List ℕ
without_marks is_in_mark [] = []
without_marks false (byte ∷ bytes) =
    if byte == escape then without_marks true bytes else byte ∷ without_marks false bytes
without_marks true (byte ∷ bytes) = without_marks (not (byte == 109)) bytes

-- a text has no ESC, as what a story prints
abbrev pub is_free : List ℕ → Bool
is_free = list_all (λ byte. not (byte == escape))
