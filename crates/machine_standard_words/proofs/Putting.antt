-- Letters of a line that are put into a row.
use Rattle.std.proofs.Common.{◌≡◌, ℕ, zero, suc, ◌+◌, ◌<◌, ◌≤◌, List, [], ◌∷◌, ◌++◌, length, map, take, refl, ap, sym}
use Rattle.std.proofs.Common.{◌∙◌, arith, append_assoc, append-nil}
use Rattle.std.proofs.Math.ListN.{set}
use Rattle.std.proofs.lemmas.List.{length-set, length_push, map-append, take_all, take_more_set, take-map}

-- of the characters so far, at most so many are put after the letters that the row had
pub record IsPut (f : ℕ → ℕ) (old letters characters : List ℕ) (left most end : ℕ) : Type 0 where
  pub within : end ≤ left + most
  pub some : end < left + most → end ≡ left + length characters
  pub full : left + most ≤ end → most ≤ length characters
  pub so_far : take end letters ≡ take left old ++ map f (take most characters)
  pub long : length letters ≡ 255

take_none : (most : ℕ) → take {A = ℕ} most [] ≡ []
take_none zero = refl
take_none (suc most) = refl

pub put_none : (f : ℕ → ℕ) (old : List ℕ) (left most : ℕ) → length old ≡ 255
    → IsPut f old old [] left most left
put_none f old left most long = record {
  within = omega arith;
  some = λ h. omega arith;
  full = λ h. omega arith;
  so_far = sym (ap (λ l. take left old ++ map f l) (take_none most) ∙ append-nil (take left old));
  long = long;
}

-- a character more for which there is room
pub put_more : (f : ℕ → ℕ) (old letters characters : List ℕ) (left most end character : ℕ)
    → IsPut f old letters characters left most end → end < left + most → left + most ≤ 255
    → IsPut f old (set letters end (f character)) (characters ++ character ∷ []) left most (end + 1)
put_more f old letters characters left most end character p room row =
    let is = p.some room in
    let more : length (characters ++ character ∷ []) ≡ length characters + 1 = length_push characters character in
    let before : take most characters ≡ characters = take_all most characters (omega (arith, is)) in
    let after : take most (characters ++ character ∷ []) ≡ characters ++ character ∷ [] =
    take_all most (characters ++ character ∷ []) (omega (arith, is, more)) in
    record {
      within = omega arith;
      some = λ h. omega (arith, is, more);
      full = λ h. omega (arith, is, more);
      so_far = take_more_set letters end (f character) (omega (arith, p.long))
          ∙ ap (λ l. l ++ f character ∷ []) (p.so_far ∙ ap (λ l. take left old ++ map f l) before)
          ∙ append_assoc (take left old) (map f characters) (f character ∷ [])
          ∙ ap (λ l. take left old ++ l)
          (sym (ap (map f) after ∙ map-append f characters (character ∷ [])));
      long = length-set letters end (f character) ∙ p.long;
    }

map_twice : (f g : ℕ → ℕ) (characters : List ℕ) → map f (map g characters) ≡ map (λ c. f (g c)) characters
map_twice f g [] = refl
map_twice f g (c ∷ cs) = ap (λ l. f (g c) ∷ l) (map_twice f g cs)

-- all characters
pub put_all : (f g : ℕ → ℕ) (old letters characters all : List ℕ) (left most end : ℕ)
    → IsPut (λ c. f (g c)) old letters characters left most end → characters ≡ all
    → take end letters ≡ take left old ++ map f (take most (map g all))
put_all f g old letters characters all left most end p e =
    p.so_far ∙ ap (λ l. take left old ++ l)
    (ap (λ l. map (λ c. f (g c)) (take most l)) e
    ∙ sym (ap (map f) (take-map g most all) ∙ map_twice f g (take most all)))
