-- Operands that are named one after another.
use Rattle.std.proofs.Common.{◌≡◌, ℕ, zero, suc, ◌+◌, ◌<◌, List, [], ◌∷◌, ◌++◌, length, drop, slice_index_or, refl, sym}
use Rattle.std.proofs.Common.{ap, ◌∙◌, arith, append_assoc}
use Rattle.std.proofs.Math.Seq.{drop-cons}
use Rattle.zcore.specs.declared.instruction.Operand.{Operand}
use Rattle.zcore.specs.declared.instruction.Operand.TheVariants.{Variable}
use Rattle.code_drafts.specs.Items as items
use Rattle.code_drafts.specs.declared.item.Operand as code_operand
use Rattle.code_drafts.specs.Code.{as_operand, as_operands}
use Rattle.code_drafts.specs.Instructions.{number_of, top, constant, in_place, pushed_count, operands}
use Rattle.code_drafts.specs.Written.{named_when}

-- the first of some operands, and then the others
named_next : (o : items.Operand) (os : List items.Operand) (n : ℕ)
    → named_when n (o ∷ os) ≡ named_when n (o ∷ []) ++ named_when (n + pushed_count (o ∷ [])) os
named_next items.pushed os zero = refl
named_next items.pushed os (suc n) = let number : suc (n + 1) ≡ suc n + 1 = omega arith in
    ap (λ k. named_when (suc n) (items.pushed ∷ []) ++ named_when k os) number
named_next (items.number k) os zero = refl
named_next (items.number k) os (suc n) = let number : suc n ≡ suc n + 0 = omega arith in
    ap (λ i. named_when (suc n) (items.number k ∷ []) ++ named_when i os) number
named_next (items.variable x) os zero = refl
named_next (items.variable x) os (suc n) = let number : suc n ≡ suc n + 0 = omega arith in
    ap (λ i. named_when (suc n) (items.variable x ∷ []) ++ named_when i os) number

count_next : (o : items.Operand) (os : List items.Operand)
    → pushed_count (o ∷ os) ≡ pushed_count (o ∷ []) + pushed_count os
count_next items.pushed os = omega arith
count_next (items.number k) os = omega arith
count_next (items.variable x) os = omega arith

-- operands from one on
from_operand : (xs : List code_operand.Operand) (i : ℕ) (x : code_operand.Operand) → i < length xs
    → as_operands (drop i xs) ≡ as_operand (slice_index_or xs i x) ∷ as_operands (drop (i + 1) xs)
from_operand xs i x h = let number : suc i ≡ i + 1 = omega arith in
    ap as_operands (drop-cons xs i x h) ∙ ap (λ k. as_operand (slice_index_or xs i x) ∷ as_operands (drop k xs))
    number

pub counted_on : (xs : List code_operand.Operand) (i : ℕ) (x : code_operand.Operand) (count one total : ℕ)
    → i < length xs → count + pushed_count (as_operands (drop i xs)) ≡ total
    → one ≡ pushed_count (as_operand (slice_index_or xs i x) ∷ [])
    → count + one + pushed_count (as_operands (drop (i + 1) xs)) ≡ total
counted_on xs i x count one total h e o =
    let rest = as_operands (drop (i + 1) xs) in
    let whole = ap pushed_count (from_operand xs i x h) in
    omega (arith, e, o, whole, count_next (as_operand (slice_index_or xs i x)) rest)

pub named_on : (xs : List code_operand.Operand) (i : ℕ) (x : code_operand.Operand) (n one : ℕ)
    (b b1 total : List Operand) (o : Operand) → i < length xs → b ++ named_when n (as_operands (drop i xs)) ≡ total
    → b1 ≡ b ++ o ∷ [] → o ∷ [] ≡ named_when n (as_operand (slice_index_or xs i x) ∷ [])
    → one ≡ pushed_count (as_operand (slice_index_or xs i x) ∷ [])
    → b1 ++ named_when (n + one) (as_operands (drop (i + 1) xs)) ≡ total
named_on xs i x n one b b1 total o h e m is count =
    let rest = as_operands (drop (i + 1) xs) in
    let y = as_operand (slice_index_or xs i x) in
    ap (λ l. l ++ named_when (n + one) rest) m ∙ append_assoc b (o ∷ []) (named_when (n + one) rest)
    ∙ ap (λ l. b ++ (l ++ named_when (n + one) rest)) is
    ∙ ap (λ k. b ++ (named_when n (y ∷ []) ++ named_when (n + k) rest)) count
    ∙ ap (λ l. b ++ l) (sym (named_next y rest n)) ∙ ap (λ l. b ++ named_when n l) (sym (from_operand xs i x h)) ∙ e

-- one operand, and two
pub one_named : (o : items.Operand) → in_place o ∷ [] ≡ operands (o ∷ [])
one_named items.pushed = refl
one_named (items.number k) = refl
one_named (items.variable x) = refl

pub two_named : (o q : items.Operand) (n : ℕ) (name : Operand) → n ≡ pushed_count (o ∷ [])
    → name ∷ [] ≡ named_when n (q ∷ []) → in_place o ∷ name ∷ [] ≡ operands (o ∷ q ∷ [])
two_named items.pushed q n name e is = ap (λ l. top ∷ l) (is ∙ ap (λ k. named_when k (q ∷ [])) e)
two_named (items.number k) q n name e is = ap (λ l. constant k ∷ l) (is ∙ ap (λ i. named_when i (q ∷ [])) e)
two_named (items.variable x) q n name e is =
    ap (λ l. Variable (number_of x) ∷ l) (is ∙ ap (λ i. named_when i (q ∷ [])) e)
