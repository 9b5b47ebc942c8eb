-- The short names of objects.
use Rattle.std.proofs.Common.{◌≡◌, ◌==◌, ◌+◌, ◌*◌, ◌/◌, ◌<◌, ◌^◌, ℕ, true, false, List, [], ◌∷◌, length, slice_index}
use Rattle.std.proofs.Common.{Some, Ok, refl, ap, ◌∙◌, arith}
use Rattle.std.specs.Prelude.{slice_get}
use Rattle.std.specs.List.{list_all}
use Rattle.std.proofs.lemmas.Bool.{and_parts}
use Rattle.ztext.specs.Alphabets.{is_printable}
use Rattle.ztext.specs.Text.{Holds, encoded}
use Rattle.ztext.specs.Words.{packed}
use Rattle.ztext.proofs.Spelling.{AreBytes}
use Rattle.ztext.proofs.RoundTrip.{round_trip}
use Rattle.tables.specs.declared.fault.TableFault.{TableFault}
use Rattle.tables.specs.declared.fault.TableFault.TheVariants.{NameTooLong, TooLarge, Memory}
use Rattle.tables.specs.declared.row.ObjectRow.{ObjectRow}
use Rattle.tables.specs.Rows.{name_bytes, name_words, RefusesName, RefusesRows, ReadsName}

-- Z-text is in whole words
packed_even : (zs : List ℕ) → 2 * (length (packed zs) / 2) ≡ length (packed zs)
unfolding packed
packed_even [] = refl
packed_even (a ∷ []) = refl
packed_even (a ∷ b ∷ []) = refl
packed_even (a ∷ b ∷ c ∷ zs) = let h = packed_even zs in omega arith

pub name_even : (name : List ℕ) → 2 * name_words name ≡ length (name_bytes name)
unfolding encoded
name_even [] = refl
name_even (c ∷ cs) = packed_even _

-- the Z-text of a name that is not empty is too long
pub name_long : (name bytes : List ℕ) → (length name == 0) ≡ false → bytes ≡ encoded name → 510 < length bytes
    → 255 < name_words name
name_long [] bytes some is long = absurd (cc)
name_long (c ∷ cs) bytes some is long = omega (arith, name_even (c ∷ cs), ap length is)

-- a row whose name is refused
pub row_refuses : (rows : List ObjectRow) (i at : ℕ) (row : ObjectRow) (fault : TableFault) → i < length rows
    → slice_get rows i ≡ Some row → RefusesName row.name.items fault → RefusesRows rows at fault
row_refuses rows i at row NameTooLong lt is why = (i, row, is, why)
row_refuses rows i at row TooLarge lt is why = absurd why
row_refuses rows i at row Memory lt is why = tt

-- characters that can be printed are bytes
printable_byte : (c : ℕ) → is_printable c ≡ true → c < 256
printable_byte c h = grind arith

are_bytes : (name : List ℕ) → list_all is_printable name ≡ true → AreBytes name
are_bytes [] h = tt
are_bytes (c ∷ cs) h =
    let p = and_parts (is_printable c) (list_all is_printable cs) h in
    (printable_byte c p.0, are_bytes cs p.1)

-- a short name is read back
pub name_read : (story : List ℕ) (properties : ℕ) (name : List ℕ) → list_all is_printable name ≡ true
    → slice_index story properties ≡ name_words name
    → Holds story (properties + 1) (name_bytes name) → properties + 1 + length (name_bytes name) < 2 ^ 32
    → ReadsName story properties name
name_read story properties [] printable here held lt = here
name_read story properties (c ∷ cs) printable here held lt = (
  here,
  round_trip (c ∷ cs) (encoded (c ∷ cs)) story (properties + 1) (are_bytes (c ∷ cs) printable) printable refl held lt
      ∙ ap (λ n. Ok (c ∷ cs, properties + 1 + n)) (even (name_even (c ∷ cs))),
)
  where
    even : {a b : ℕ} → a ≡ b → b ≡ a
    even e = cc
