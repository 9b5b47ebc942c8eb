-- The numbers of keys: where the entries of a dictionary stand that we write (Z-Machine Standards Document 1.1, section
-- 13.2).
use Rattle.std.specs.Prelude.{◌==◌, ◌+◌, ℕ, if◌then◌else◌, List, [], ◌∷◌}

-- how many bytes stand before the entries: how many separators there are, the three of them, the length of an entry,
-- and a word with their number
abbrev pub head_size : ℕ
head_size = 7

-- how many bytes an entry has: those of the key, and three of data
abbrev pub entry_size : ℕ
entry_size = 9

-- the place of the entry of a key among entries that stand one behind another, or 0
abbrev pub place_in : ℕ → List ℕ → ℕ → ℕ
place_in at [] key = 0
place_in at (k ∷ ks) key = if k == key then at else place_in (at + entry_size) ks key

-- the number of a key in a dictionary of these keys at a place: of the rank n it is
-- `place + head_size + n * entry_size`; every other key has 0
abbrev pub key_number : ℕ → List ℕ → ℕ → ℕ
key_number dictionary keys key = place_in (dictionary + head_size) keys key
