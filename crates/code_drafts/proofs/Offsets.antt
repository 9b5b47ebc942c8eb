-- The offset of a branch, from how many bytes are left, the last first.
use Rattle.std.proofs.Common.{◌≡◌, ℕ, zero, suc, ◌+◌, ◌-◌, ◌<◌, ◌≤◌, List, [], ◌∷◌, ◌++◌, length, reverse, take, drop}
use Rattle.std.proofs.Common.{slice_index, slice_index_or, Some, None, Option, Bool, true, false, refl, sym, ap, subst}
use Rattle.std.proofs.Common.{◌∙◌, arith, length-drop, append_assoc, append-nil}
use Rattle.std.specs.Prelude.{nat_lt, if◌then◌else◌}
use Rattle.std.proofs.Math.Seq.{drop-cons, take-append_seam}
use Rattle.std.proofs.lemmas.List.{drop_all, get_or_past, get_or-reverse, length-reverse, take-append-drop}
use Rattle.std.proofs.lemmas.List.{reverse-append, reverse-reverse}
use Rattle.code_drafts.specs.declared.layout.Form.TheVariants as form
use Rattle.code_drafts.specs.declared.layout.Part.{Part}
use Rattle.code_drafts.specs.declared.layout.BranchUse.{BranchUse}
use Rattle.std.specs.List.{All}
use Rattle.std.proofs.lemmas.List.Elements.{All-nil, All-cons}
use Rattle.std.proofs.lemmas.Bool.{ltb-true, ltb-false}
use Rattle.code_drafts.specs.Layout.{bytes_limit, first, offset_over, form_for, part_size, lefts, use_of, uses}
use Rattle.code_drafts.specs.Layout.{Shortest, IsShortest}

pub first_is : (xs : List ℕ) → slice_index xs 0 ≡ first xs
first_is [] = refl
first_is (x ∷ xs) = refl

-- the words of a list that is turned round
pub turned : (left : List ℕ) (k m : ℕ) → k < length left → m ≡ length left - 1 - k → slice_index (reverse left) k
    ≡ slice_index left m
turned left k m h e = get_or-reverse left k 0 h ∙ ap (λ i. slice_index left i) (sym e)

pub turned_past : (left : List ℕ) (k : ℕ) → length left ≤ k → slice_index (reverse left) k ≡ 0
turned_past left k h = get_or_past (reverse left) k 0 (omega (arith, h, length-reverse left))

-- Parts from the end to the beginning

abbrev pub no_part : Part
no_part = record { size = 0; target = None }

-- the parts from a number on
abbrev pub lefts_from : List Part → ℕ → List ℕ
lefts_from parts number = lefts number (drop number parts)

lefts_step : (parts : List Part) (number : ℕ) → number < length parts
    → lefts_from parts number
    ≡ (part_size number (slice_index_or parts number no_part) (lefts_from parts (suc number)) + first
    (lefts_from parts (suc number))) ∷ lefts_from parts (suc number)
lefts_step parts number h =
    let more : number + 1 ≡ suc number = omega arith in
    ap (lefts number) (drop-cons parts number no_part h)
    ∙ ap (λ k. (part_size number (slice_index_or parts number no_part) (lefts k (drop (suc number) parts)) + first
    (lefts k (drop (suc number) parts))) ∷ lefts k (drop (suc number) parts)) more

-- what holds where so many parts, the last ones, have their places
pub record Placed (parts : List Part) (left : List ℕ) (end done : ℕ) : Type 0 where
  pub within : done ≤ length parts
  pub left_is : left ≡ reverse (lefts_from parts (length parts - done))
  pub end_is : end ≡ first (lefts_from parts (length parts - done))

pub none_placed : (parts : List Part) (left : List ℕ) → left ≡ 0 ∷ [] → Placed parts left 0 0
none_placed parts left e =
    let n : length parts - 0 ≡ length parts = omega arith in
    let is : lefts_from parts (length parts - 0) ≡ 0 ∷ [] = ap (λ (k : ℕ). lefts k (drop k parts)) n
    ∙ ap (lefts (length parts)) (drop_all (length parts) parts (omega arith)) in
    record { within = omega arith; left_is = e ∙ ap reverse (sym is); end_is = ap first (sym is) }

-- fewer bytes are left from a later part on
falls : (parts : List Part) (at number : ℕ) → first (lefts (at + number) (drop number parts)) ≤ first (lefts at parts)
falls parts at zero =
    let e : at ≡ at + 0 = omega arith in
    subst (λ n. first (lefts n parts) ≤ first (lefts at parts)) e (omega arith)
falls [] at (suc number) = omega arith
falls (x ∷ xs) at (suc number) =
    let n : at + suc number ≡ at + 1 + number = omega arith in
    subst (λ k. first (lefts k (drop number xs)) ≤ first (lefts at (x ∷ xs))) (sym n)
    (omega (arith, falls xs (at + 1) number))

from_small : (parts : List Part) (number limit : ℕ) → first (lefts 0 parts) < limit
    → first (lefts_from parts number) < limit
from_small parts number limit h =
    let n : 0 + number ≡ number = omega arith in
    let e = subst (λ k. first (lefts k (drop number parts)) ≤ first (lefts 0 parts)) n (falls parts 0 number) in
    omega (arith, e, h)

-- the part that is to have its place next, and what is known of it
pub record Next (parts : List Part) (left : List ℕ) (end number : ℕ) : Type 0 where
  pub small : first (reverse left) < bytes_limit
  pub sum : end + part_size number (slice_index_or parts number no_part) (reverse left)
      ≡ first (lefts_from parts number)
  pub fits : end + part_size number (slice_index_or parts number no_part) (reverse left) < bytes_limit
  pub is : lefts_from parts number
      ≡ (end + part_size number (slice_index_or parts number no_part) (reverse left)) ∷ reverse left

pub next_part : (parts : List Part) (left : List ℕ) (end done number : ℕ) → Placed parts left end done
    → done < length parts → first (lefts 0 parts) < bytes_limit → number ≡ length parts - 1 - done
    → Next parts left end number
next_part parts left end done number p h fits e =
    let next : suc number ≡ length parts - done = omega (arith, h, e) in
    let rest = lefts_from parts (length parts - done) in
    let turned_back : reverse left ≡ rest = ap reverse p.left_is ∙ reverse-reverse rest in
    let part = slice_index_or parts number no_part in
    let is : lefts_from parts number ≡ (part_size number part rest + first rest) ∷ rest =
    lefts_step parts number (omega (arith, h, e))
    ∙ ap (λ k. (part_size number part (lefts_from parts k) + first (lefts_from parts k)) ∷ lefts_from parts k)
    next in
    let sum : end + part_size number part (reverse left) ≡ part_size number part rest + first rest =
    omega (arith, p.end_is, ap (part_size number part) turned_back) in
    let here : end + part_size number part (reverse left) ≡ first (lefts_from parts number) = sum ∙ sym (ap first is) in
    record {
      small = subst (λ l. first l < bytes_limit) (sym turned_back)
          (from_small parts (length parts - done) bytes_limit fits);
      sum = here;
      fits = subst (λ n. n < bytes_limit) (sym here) (from_small parts number bytes_limit fits);
      is = is ∙ ap (λ n. n ∷ rest) (sym sum)
          ∙ ap (λ l. (end + part_size number part (reverse left)) ∷ l) (sym turned_back);
    }

pub one_placed : (parts : List Part) (left more : List ℕ) (end size done : ℕ) → Placed parts left end done
    → done < length parts → first (lefts 0 parts) < bytes_limit
    → size ≡ part_size (length parts - 1 - done) (slice_index_or parts (length parts - 1 - done) no_part)
    (reverse left) → more ≡ left ++ (end + size) ∷ []
    → Placed parts more (end + size) (done + 1)
one_placed parts left more end size done p h fits s e =
    let next = next_part parts left end done (length parts - 1 - done) p h fits refl in
    let here : length parts - (done + 1) ≡ length parts - 1 - done = omega arith in
    let all : lefts_from parts (length parts - (done + 1)) ≡ (end + size) ∷ reverse left =
    ap (λ k. lefts_from parts k) here ∙ next.is ∙ ap (λ n. (end + n) ∷ reverse left) (sym s) in
    record {
      within = omega (arith, h);
      left_is = e ∙ ap (λ l. l ++ (end + size) ∷ []) (sym (reverse-reverse left))
          ∙ sym (reverse-append ((end + size) ∷ []) (reverse left)) ∙ ap reverse (sym all);
      end_is = ap first (sym all);
    }

-- Offsets, where all parts have their places

lefts_length : (at : ℕ) (parts : List Part) → length (lefts at parts) ≡ length parts + 1
lefts_length at [] = refl
lefts_length at (x ∷ xs) = omega (arith, lefts_length (at + 1) xs)

-- those of the later parts
lefts_drop : (at : ℕ) (parts : List Part) (number : ℕ) → number ≤ length parts → drop number (lefts at parts)
    ≡ lefts (at + number) (drop number parts)
lefts_drop at parts zero h = ap (λ n. lefts n parts) (omega arith)
lefts_drop at [] (suc number) h = absurd (omega (arith, h))
lefts_drop at (x ∷ xs) (suc number) h = lefts_drop (at + 1) xs number (omega (arith, h))
    ∙ ap (λ n. lefts n (drop number xs)) (omega arith)

front_reversed : (xs : List ℕ) (k m : ℕ) → k + m ≡ length xs → reverse (take m (reverse xs)) ≡ drop k xs
front_reversed xs k m e =
    let whole : reverse xs ≡ reverse (drop k xs) ++ reverse (take k xs) = ap reverse (sym (take-append-drop k xs))
    ∙ reverse-append (take k xs) (drop k xs) in
    let n : m ≡ length (reverse (drop k xs)) = omega (arith, e, length-reverse (drop k xs), length-drop k xs) in
    ap (λ l. reverse (take m l)) whole ∙ ap (λ i. reverse (take i (reverse (drop k xs) ++ reverse (take k xs)))) n
    ∙ ap reverse (take-append_seam (reverse (drop k xs)) (reverse (take k xs))) ∙ reverse-reverse (drop k xs)

-- what is after a part
pub behind : (parts : List Part) (left : List ℕ) (number : ℕ) → left ≡ reverse (lefts 0 parts) → number < length parts
    → reverse (take (length parts - number) left) ≡ lefts (number + 1) (drop (number + 1) parts)
behind parts left number is h =
    let n : 0 + (number + 1) ≡ number + 1 = omega arith in
    ap (λ l. reverse (take (length parts - number) l)) is
    ∙ front_reversed (lefts 0 parts) (number + 1) (length parts - number) (omega (arith, h, lefts_length 0 parts))
    ∙ lefts_drop 0 parts (number + 1) (omega (arith, h)) ∙ ap (λ k. lefts k (drop (number + 1) parts)) n

pub behind_small : (parts : List Part) (left : List ℕ) (number : ℕ) → left ≡ reverse (lefts 0 parts)
    → number < length parts → first (lefts 0 parts) < bytes_limit
    → first (reverse (take (length parts - number) left)) < bytes_limit
behind_small parts left number is h fits = subst (λ l. first l < bytes_limit) (sym (behind parts left number is h))
    (from_small parts (number + 1) bytes_limit fits)

pub offset_at : (parts : List Part) (left : List ℕ) (number target over offset : ℕ) → left ≡ reverse (lefts 0 parts)
    → number < length parts → over ≡ target - number - 1
    → offset ≡ offset_over over (reverse (take (length parts - number) left)) → offset
    ≡ offset_over (target - (number + 1)) (lefts (number + 1) (drop (number + 1) parts))
offset_at parts left number target over offset is h o e =
    let n : over ≡ target - (number + 1) = omega (arith, o) in
    e ∙ ap (offset_over over) (behind parts left number is h)
    ∙ ap (λ k. offset_over k (lefts (number + 1) (drop (number + 1) parts))) n

pub left_length : (parts : List Part) (left : List ℕ) → left ≡ reverse (lefts 0 parts)
    → length left ≡ length parts + 1
left_length parts left is = ap length is ∙ length-reverse (lefts 0 parts) ∙ lefts_length 0 parts

-- The rule

shortest_for : (offset : ℕ) → 2 ≤ offset → Shortest (form_for offset) offset
shortest_for offset some = go (nat_lt offset 64) (nat_lt offset 8192) refl refl
  where
    go : (b c : Bool) → nat_lt offset 64 ≡ b → nat_lt offset 8192
        ≡ c → Shortest (if b then form.One else (if c then form.Two else form.Far)) offset
    go true c e f = (some, omega (arith, ltb-true _ _ e))
    go false true e f = (omega (arith, ltb-false _ _ e), omega (arith, ltb-true _ _ f))
    go false false e f = omega (arith, ltb-false _ _ f)

pub all_shortest : (at : ℕ) (parts : List Part) → All IsShortest (uses at parts)
all_shortest at [] = All-nil IsShortest
all_shortest at (x ∷ xs) = go x.target (lefts (at + 1) xs) (uses (at + 1) xs) (all_shortest (at + 1) xs)
  where
    go : (target : Option ℕ) (rest : List ℕ) (more : List BranchUse) → All IsShortest more
        → All IsShortest (use_of at target rest more)
    go None rest more all = all
    go (Some target) rest more all =
        let offset = offset_over (target - (at + 1)) rest in
        All-cons IsShortest (record { form = form_for offset; offset = offset }) more
        (shortest_for offset (omega arith)) all

-- one part more
pub uses_step : (parts : List Part) (number : ℕ) → number < length parts → uses number (drop number parts)
    ≡ use_of number (slice_index_or parts number no_part).target (lefts (number + 1) (drop (number + 1) parts))
    (uses (number + 1) (drop (number + 1) parts))
uses_step parts number h =
    let more : suc number ≡ number + 1 = omega arith in
    ap (uses number) (drop-cons parts number no_part h)
    ∙ ap (λ k. use_of number (slice_index_or parts number no_part).target (lefts (number + 1) (drop k parts))
    (uses (number + 1) (drop k parts))) more

pub one_used : (parts : List Part) (number target offset : ℕ) (found more : List BranchUse) → number < length parts
    → found ++ uses number (drop number parts) ≡ uses 0 parts → (slice_index_or parts number no_part).target
    ≡ Some target
    → offset ≡ offset_over (target - (number + 1)) (lefts (number + 1) (drop (number + 1) parts)) → more
    ≡ found ++ record { form = form_for offset; offset = offset } ∷ []
    → more ++ uses (number + 1) (drop (number + 1) parts) ≡ uses 0 parts
one_used parts number target offset found more h e is o m =
    let rest = uses (number + 1) (drop (number + 1) parts) in
    let here : uses number (drop number parts) ≡ record { form = form_for offset; offset = offset } ∷ rest =
    uses_step parts number h ∙ ap (λ t. use_of number t (lefts (number + 1) (drop (number + 1) parts)) rest) is
    ∙ ap (λ (x : ℕ). record { form = form_for x; offset = x } ∷ rest) (sym o) in
    ap (λ l. l ++ rest) m ∙ append_assoc found (record { form = form_for offset; offset = offset } ∷ []) rest
    ∙ ap (λ l. found ++ l) (sym here) ∙ e

pub none_used : (parts : List Part) (number : ℕ) (found : List BranchUse) → number < length parts
    → found ++ uses number (drop number parts) ≡ uses 0 parts → (slice_index_or parts number no_part).target
    ≡ None → found ++ uses (number + 1) (drop (number + 1) parts) ≡ uses 0 parts
none_used parts number found h e is =
    let rest = uses (number + 1) (drop (number + 1) parts) in
    ap (λ l. found ++ l) (sym
    (uses_step parts number h ∙ ap (λ t. use_of number t (lefts (number + 1) (drop (number + 1) parts)) rest) is))
    ∙ e

pub all_found : (parts : List Part) (number : ℕ) (found : List BranchUse) → length parts ≤ number
    → found ++ uses number (drop number parts) ≡ uses 0 parts → found ≡ uses 0 parts
all_found parts number found h e = sym (append-nil found)
    ∙ ap (λ ps. found ++ uses number ps) (sym (drop_all number parts h)) ∙ e
