-- Tables of names, as lists of bytes.
use Rattle.std.proofs.Common.{◌≡◌, ◌+◌, ◌||◌, ℕ, Bool, true, false, not, List, [], ◌∷◌, ◌++◌, Option, Some, None, map, refl, sym, ap}
use Rattle.std.proofs.Common.{◌∙◌, cond, length, nat_lt, get_or}
use Rattle.std.specs.Prelude.{position}
use Rattle.std.specs.Global.{Vec}
use Rattle.std.specs.List.{list_any, prefix_len, position_or_len}
use Rattle.std.specs.Str.{bytes_eq}
use Rattle.std.specs.Option.{option_map}
use Rattle.std.specs.List.{slice_get}
use Rattle.std.proofs.lemmas.List.{map-append, length-map}
use Rattle.std.proofs.lemmas.Option.{get_or_from_slice_get, slice_get-map}
use Rattle.indexmap.specs.IndexSet.{insert_key}
use Rattle.derive_tokens.specs.Names.{is_among, with_name, place_in}

abbrev pub rows : List (Vec ℕ) → List (List ℕ)
rows vs = map (λ v. v.items) vs

abbrev pub same_row : Vec ℕ → Vec ℕ → Bool
same_row a b = bytes_eq a.items b.items

-- a row of keys is tested as their bytes
pub is_there : (n : List ℕ) (vs : List (Vec ℕ)) → list_any (λ v. bytes_eq n v.items) vs ≡ is_among (rows vs) n
is_there n [] = refl
is_there n (v ∷ vs) = ap (λ b. bytes_eq n v.items || b) (is_there n vs)

pub inserted : (v : Vec ℕ) (vs : List (Vec ℕ)) → rows (insert_key same_row vs v) ≡ with_name (rows vs) v.items
inserted v vs = by (list_any (same_row v) vs) refl
  where
    by : (b : Bool) → list_any (same_row v) vs ≡ b
        → rows (cond b vs (vs ++ v ∷ [])) ≡ cond (is_among (rows vs) v.items) (rows vs) (rows vs ++ v.items ∷ [])
    by true e = rw (sym (is_there v.items vs) ∙ e) refl
    by false e = rw (sym (is_there v.items vs) ∙ e) (map-append (λ w. w.items) vs (v ∷ []))

counted : (n : List ℕ) (vs : List (Vec ℕ))
    → position_or_len (λ v. bytes_eq n v.items) vs ≡ position_or_len (bytes_eq n) (rows vs)
counted n [] = refl
counted n (v ∷ vs) = ap (λ k. cond (not (bytes_eq n v.items)) (1 + k) 0) (counted n vs)

pub place : (n : List ℕ) (vs : List (Vec ℕ)) → position (λ v. bytes_eq n v.items) vs ≡ place_in (rows vs) n
place n vs =
    ap (λ k. cond (nat_lt k (length vs)) (Some k) None) (counted n vs)
    ∙ ap
    (λ l. cond (nat_lt (position_or_len (bytes_eq n) (rows vs)) l) (Some (position_or_len (bytes_eq n) (rows vs))) None)
    (sym (length-map vs (λ v. v.items)))

pub rows_length : (vs : List (Vec ℕ)) → length vs ≡ length (rows vs)
rows_length vs = sym (length-map vs (λ v. v.items))

pub row_at : (vs : List (Vec ℕ)) (place : ℕ) (v : Vec ℕ) (d : List ℕ) → Some v ≡ slice_get vs place
    → v.items ≡ get_or (rows vs) place d
row_at vs place v d e =
    sym (get_or_from_slice_get (rows vs) place v.items d
    (slice_get-map (λ (w : Vec ℕ). w.items) vs place ∙ ap (option_map (λ (w : Vec ℕ). w.items)) (sym e)))
