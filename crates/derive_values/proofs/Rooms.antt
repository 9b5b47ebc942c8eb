-- Rows that have room.
use Rattle.std.proofs.Common.{◌≡◌, ◌≤◌, ◌<◌, ℕ, Bool, true, false, List, [], ◌∷◌, ◌++◌, length, arith, length-append}
use Rattle.std.proofs.lemmas.List.{nil_from_length}
use Rattle.std.specs.Prelude.{if◌then◌else◌}
use Rattle.derive_tokens.specs.Names.{is_among, with_name}

grown : (b : Bool) (rows : List (List ℕ)) (row : List ℕ) (most : ℕ) → length rows < most
    → length (if b then rows else rows ++ row ∷ []) ≤ most
grown true rows row most lt = omega arith
grown false rows row most lt = simp length-append (omega arith)

pub room_left : (rows : List (List ℕ)) (row : List ℕ) (most : ℕ) → length rows < most
    → length (with_name rows row) ≤ most
room_left rows row most lt = grown (is_among rows row) rows row most lt

pub none_there : (rows : List (List ℕ)) → length rows ≡ 0 → rows ≡ []
none_there rows e = nil_from_length rows e
