-- What is written makes up a whole.
use Rattle.std.proofs.Common.{◌≡◌, ℕ, suc, ◌+◌, ◌-◌, List, [], ◌∷◌, ◌++◌, length, map, reverse, refl, sym, ap, ◌∙◌, arith}
use Rattle.std.proofs.Common.{append_assoc, append-nil, length-append}
use Rattle.std.proofs.lemmas.List.{length-map, length-reverse, map-append, reverse-append}
use Rattle.code_drafts.specs.Items.{Item, turned_back, last_back}
use Rattle.code_drafts.specs.Items as items
use Rattle.code_drafts.specs.Writing.{numbered, in_order, WritesBefore}

pub in_order_append : (n : ℕ) (a b : List Item) → in_order n (a ++ b) ≡ in_order n b ++ in_order n a
in_order_append n a b = ap (map (numbered n)) (reverse-append a b) ∙ map-append (numbered n) (reverse b) (reverse a)

in_order_length : (n : ℕ) (a : List Item) → length (in_order n a) ≡ length a
in_order_length n a = length-map (reverse a) (numbered n) ∙ length-reverse a

pub nothing : (c : List Item) → WritesBefore c c (λ n at. [])
nothing c = record { more = []; is = sym (append-nil c); are = λ n le. refl }

pub one : (c c1 : List Item) (i : Item) → c1 ≡ c ++ i ∷ [] → WritesBefore c c1 (λ n at. numbered n i ∷ [])
one c c1 i e = record { more = i ∷ []; is = e; are = λ n le. refl }

-- how many items they are
pub counted : {c c1 : List Item} {f : ℕ → ℕ → List Item} (k : ℕ) → ((n at : ℕ) → length (f n at) ≡ k)
    → WritesBefore c c1 f
    → length c1 ≡ length c + k
counted {c = c} {c1 = c1} k long w =
    omega (
      arith,
      ap length w.is,
      length-append c w.more,
      in_order_length (length c1) w.more,
      ap length (w.are (length c1) (omega arith)),
      long (length c1) (length c1 - length c1),
    )

-- what stands before others
pub both : {c c1 c2 : List Item} {f g : ℕ → ℕ → List Item} (k : ℕ) → ((n at : ℕ) → length (g n at) ≡ k)
    → WritesBefore c c1 f → WritesBefore c1 c2 g → WritesBefore c c2 (λ n at. g n at ++ f n (at + k))
both {c = c} {c1 = c1} {c2 = c2} {f = f} {g = g} k long v w = record {
  more = v.more ++ w.more;
  is = w.is ∙ ap (λ l. l ++ w.more) v.is ∙ append_assoc c v.more w.more;
  are = λ n le.
      let l = counted k long w in
      let e : n - length c1 ≡ n - length c2 + k = omega (arith, l, le) in
      in_order_append n v.more w.more ∙ ap (λ l. l ++ in_order n v.more) (w.are n le)
      ∙ ap (λ l. g n (n - length c2) ++ l) (v.are n (omega (arith, l, le)))
      ∙ ap (λ m. g n (n - length c2) ++ f n m) e;
}

pub as_items : {c c1 : List Item} {f g : ℕ → ℕ → List Item} → ((n at : ℕ) → at + length c1 ≡ n → f n at ≡ g n at)
    → WritesBefore c c1 f → WritesBefore c c1 g
as_items {c1 = c1} same w =
    record { more = w.more; is = w.is; are = λ n le. w.are n le ∙ same n (n - length c1) (omega (arith, le)) }

-- one item before what is written, and one after what is written
pub then_one : {c c1 c2 : List Item} {f : ℕ → ℕ → List Item} (i : Item) → WritesBefore c c1 f → c2 ≡ c1 ++ i ∷ []
    → WritesBefore c c2 (λ n at. numbered n i ∷ f n (at + 1))
then_one {c1 = c1} {c2 = c2} i w e = both 1 (λ n at. refl) w (one c1 c2 i e)

pub after_one : {c c1 c2 : List Item} {g : ℕ → ℕ → List Item} (k : ℕ) (i : Item) → ((n at : ℕ) → length (g n at) ≡ k)
    → c1 ≡ c ++ i ∷ [] → WritesBefore c1 c2 g → WritesBefore c c2 (λ n at. g n at ++ numbered n i ∷ [])
after_one {c = c} {c1 = c1} k i long e w = both k long (one c c1 i e) w

-- Branches that are turned back

pub last_turned : (first : ℕ) (is : List Item) (i : Item) → last_back first (is ++ i ∷ [])
    ≡ is ++ turned_back first i ∷ []
last_turned first [] i = refl
last_turned first (j ∷ []) i = refl
last_turned first (j ∷ k ∷ is) i = ap (λ l. j ∷ l) (last_turned first (k ∷ is) i)

pub last_length : (first : ℕ) (is : List Item) → length (last_back first is) ≡ length is
last_length first [] = refl
last_length first (i ∷ []) = refl
last_length first (i ∷ j ∷ is) = ap suc (last_length first (j ∷ is))

-- its target is numbered like any other
numbered_back : (n left : ℕ) (i : Item) → numbered n (turned_back left i) ≡ turned_back (n - left) (numbered n i)
numbered_back n left (items.branch test os when end) = refl
numbered_back n left (items.is_in o q when end) = refl
numbered_back n left (items.has o a when end) = refl
numbered_back n left (items.provides o p when end) = refl
numbered_back n left (items.first_object x end) = refl
numbered_back n left (items.next_object x end) = refl
numbered_back n left (items.case test ns when end) = refl
numbered_back n left (items.jump end) = refl
numbered_back n left (items.back end) = refl
numbered_back n left (items.branch_back test os when end) = refl
numbered_back n left i = refl

-- what was written first is the last in order
pub turned_first : (n left : ℕ) (i : Item) (is : List Item) → in_order n (turned_back left i ∷ is)
    ≡ last_back (n - left) (in_order n (i ∷ is))
turned_first n left i is =
    in_order_append n (turned_back left i ∷ []) is
    ∙ ap (λ j. in_order n is ++ j ∷ []) (numbered_back n left i)
    ∙ sym (last_turned (n - left) (in_order n is) (numbered n i))
    ∙ ap (last_back (n - left)) (sym (in_order_append n (i ∷ []) is))
