-- Operands whose types are taken from their byte one by one.
use Rattle.std.proofs.Common.{◌≡◌, ℕ, suc, arith, Bool, true, false, ◌≤◌, ◌<◌, ◌+◌, ◌*◌, ◌/◌, ◌%◌, List, [], ◌∷◌, ◌++◌}
use Rattle.std.proofs.Common.{length, take, set, refl, ap, sym, ◌∙◌, append-nil, Result, Ok, Err, Some, slice_index}
use Rattle.std.specs.Prelude.{◌==◌, ◌&&◌, if◌then◌else◌}
use Rattle.std.specs.List.{list_all}
use Rattle.std.proofs.lemmas.Bool.{lt-ltb, le-leb, ne_eqb}
use Rattle.std.proofs.lemmas.List.{take_more_set, length-take-le}
use Rattle.std.proofs.lemmas.List.Folds.{list_all-append}
use Rattle.zcore.specs.declared.place.Fault.{Fault}
use Rattle.zcore.specs.declared.place.Fault.TheVariants as faults
use Rattle.zcore.specs.declared.instruction.Operation.{Operation}
use Rattle.zcore.specs.declared.instruction.Operand.{Operand}
use Rattle.zcore.specs.declared.instruction.Operand.TheVariants.{Large, Small, Variable}
use Rattle.zcore.specs.Operations.{least_operands, most_operands, has_more_types}
use Rattle.ztext.specs.Results.{◌>>=◌}
use Rattle.zcore.specs.Instruction.{byte, operand, operands, large, given_types, types_of, variable_types}
use Rattle.zcore.specs.Instruction.{opcode_of}
use Rattle.machine_decoding.specs.Decoded.{given_at, kept, listed}
use Rattle.machine_decoding.proofs.OperandsRead.{read_on, then_on}

-- the operands of the types in a byte, from an address on
abbrev pub packed : List ℕ → ℕ → ℕ → Result (List Operand × ℕ) Fault
packed story types at = given_types (types_of types) >>= λ front. operands story front at

-- an omitted type more at the end changes nothing
one_more : (omitted all : Bool) (r : Result (List ℕ) Fault) (x : ℕ)
    → (if omitted then (if all && true then Ok [] else Err faults.Opcode) else (r >>= λ more. Ok (x ∷ more)))
    ≡ (if omitted then (if all then Ok [] else Err faults.Opcode) else (r >>= λ more. Ok (x ∷ more)))
one_more omitted true r x = refl
one_more omitted false r x = refl

omitted_more : (xs : List ℕ) → given_types (xs ++ 3 ∷ []) ≡ given_types xs
omitted_more [] = refl
omitted_more (x ∷ xs) =
    rw (list_all-append (λ other. other == 3) xs (3 ∷ []), omitted_more xs)
    (one_more (x == 3) (list_all (λ other. other == 3) xs) (given_types xs) x)

-- the types behind the first
abbrev behind : ℕ → List ℕ
behind types = (types / 16 % 4) ∷ (types / 4 % 4) ∷ (types % 4) ∷ []

shifted : (types : ℕ) → types_of (types % 64 * 4 + 3) ≡ behind types ++ 3 ∷ []
shifted types =
    let a : (types % 64 * 4 + 3) / 64 ≡ types / 16 % 4 = omega arith in
    let b : (types % 64 * 4 + 3) / 16 % 4 ≡ types / 4 % 4 = omega arith in
    let c : (types % 64 * 4 + 3) / 4 % 4 ≡ types % 4 = omega arith in
    let d : (types % 64 * 4 + 3) % 4 ≡ 3 = omega arith in
    rw (a, b, c, d) refl

-- an operand that is read
then_given : (story : List ℕ) (done : List Operand) (kind at next : ℕ) (o : Operand) (r : Result (List ℕ) Fault)
    → Ok (o, next) ≡ operand story kind at
    → read_on done ((r >>= λ more. Ok (kind ∷ more)) >>= λ front. operands story front at)
    ≡ read_on (done ++ o ∷ []) (r >>= λ front. operands story front next)
unfolding operands
then_given story done kind at next o (Ok more) e = rw (sym e) (then_on done o (operands story more next))
then_given story done kind at next o (Err fault) e = refl

pub gives_more : (story : List ℕ) (ops : List Operand) (types i at next : ℕ) (o : Operand)
    (whole : Result (List Operand × ℕ) Fault) → types < 192 → i < length ops → Ok (o, next) ≡ operand story (types / 64) at
    → whole ≡ read_on (take i ops) (packed story types at)
    → whole ≡ read_on (take (i + 1) (set ops i o)) (packed story (types % 64 * 4 + 3) next)
gives_more story ops types i at next o whole lt within e h =
    let given : (types / 64 ≡ 3 → ⊥) = λ q. omega arith in
    h
    ∙ ap (λ b. read_on (take i ops)
    ((if b then (if list_all (λ other. other == 3) (behind types) then Ok [] else Err faults.Opcode)
    else (given_types (behind types) >>= λ more. Ok (types / 64 ∷ more))) >>= λ front. operands story front at))
    (ne_eqb (types / 64) 3 given)
    ∙ then_given story (take i ops) (types / 64) at next o (given_types (behind types)) e
    ∙ ap (λ r. read_on (take i ops ++ o ∷ []) (r >>= λ front. operands story front next))
    (sym (omitted_more (behind types)))
    ∙ ap (λ l. read_on (take i ops ++ o ∷ []) (given_types l >>= λ front. operands story front next))
    (sym (shifted types))
    ∙ ap (λ l. read_on l (packed story (types % 64 * 4 + 3) next)) (sym (take_more_set ops i o within))

-- the operand whose type is the first
pub reads_large : (story : List ℕ) (types at : ℕ) → at + 1 < length story → types < 64
    → Ok (Large (slice_index story at * 256 + slice_index story (at + 1)), at + 2) ≡ operand story (types / 64) at
unfolding operand large byte
reads_large story types at lt few =
    let kind : types / 64 ≡ 0 = omega arith in
    let e : at + 1 + 1 ≡ at + 2 = omega arith in
    rw (kind, lt-ltb at (length story) (omega arith), lt-ltb (at + 1) (length story) lt, e) refl

pub reads_small : (story : List ℕ) (types at : ℕ) → at < length story → 64 ≤ types → types < 128
    → Ok (Small (slice_index story at), at + 1) ≡ operand story (types / 64) at
unfolding operand byte
reads_small story types at lt le few =
    let kind : types / 64 ≡ 1 = omega arith in
    rw (kind, lt-ltb at (length story) lt) refl

pub reads_variable : (story : List ℕ) (types at : ℕ) → at < length story → 128 ≤ types → types < 192
    → Ok (Variable (slice_index story at), at + 1) ≡ operand story (types / 64) at
unfolding operand byte
reads_variable story types at lt le few =
    let kind : types / 64 ≡ 2 = omega arith in
    rw (kind, lt-ltb at (length story) lt) refl

-- nothing is read yet
on_nil : (r : Result (List Operand × ℕ) Fault) → r ≡ read_on [] r
on_nil (Ok xs) = refl
on_nil (Err fault) = refl

-- some types, and the address after them
abbrev placed : Result (List ℕ) Fault → ℕ → Result (List ℕ × ℕ) Fault
placed g at = g >>= λ front. Ok (front, at)

as_packed : (story : List ℕ) (at : ℕ) (r : Result (List ℕ) Fault)
    → (placed r at >>= λ x. operands story x.0 x.1) ≡ read_on [] (r >>= λ front. operands story front at)
as_packed story at (Ok front) = on_nil (operands story front at)
as_packed story at (Err fault) = refl

pub gives_first : (story : List ℕ) (at : ℕ) → at < length story
    → given_at story at ≡ read_on [] (packed story (slice_index story at) (at + 1))
unfolding byte
gives_first story at lt =
    rw (lt-ltb at (length story) lt) (as_packed story (at + 1) (given_types (types_of (slice_index story at))))

-- all are read
pub gives_all : (story : List ℕ) (ops : List Operand) (types at : ℕ) (whole : Result (List Operand × ℕ) Fault)
    → types ≡ 255 → whole ≡ read_on ops (packed story types at) → whole ≡ Ok (ops, at)
unfolding operands
gives_all story ops types at whole e h =
    h ∙ ap (λ t. read_on ops (packed story t at)) e ∙ ap (λ l. Ok (l, at)) (append-nil ops)

-- as many operands are read as there are types

abbrev joined : Operand → Result (List Operand × ℕ) Fault → Result (List Operand × ℕ) Fault
joined o r = r >>= λ xs. Ok (o ∷ xs.0, xs.1)

abbrev taken : Result (List Operand × ℕ) Fault → List Operand
taken (Ok xs) = xs.0
taken (Err fault) = []

counted_one : (o : Operand) (r : Result (List Operand × ℕ) Fault) (n : ℕ) (all : List Operand × ℕ)
    → ((xs : List Operand × ℕ) → r ≡ Ok xs → length xs.0 ≡ n) → joined o r ≡ Ok all → length all.0 ≡ suc n
counted_one o (Ok xs) n all below e = sym (ap (λ r. length (taken r)) e) ∙ ap suc (below xs refl)
counted_one o (Err fault) n all below e = cc

counted_more : (r : Result (Operand × ℕ) Fault) (rest : ℕ → Result (List Operand × ℕ) Fault) (n : ℕ)
    (all : List Operand × ℕ) → ((next : ℕ) (xs : List Operand × ℕ) → rest next ≡ Ok xs → length xs.0 ≡ n)
    → (r >>= λ x. joined x.0 (rest x.1)) ≡ Ok all → length all.0 ≡ suc n
counted_more (Ok x) rest n all below e = counted_one x.0 (rest x.1) n all (below x.1) e
counted_more (Err fault) rest n all below e = cc

counted : (story types : List ℕ) (at : ℕ) (all : List Operand × ℕ) → operands story types at ≡ Ok all
    → length all.0 ≡ length types
unfolding operands
counted story [] at all e = sym (ap (λ r. length (taken r)) e)
counted story (type ∷ types) at all e =
    counted_more (operand story type at) (operands story types) (length types) all
    (λ next xs f. counted story types next xs f) e

-- the operation takes so many
fits : (story types : List ℕ) (operation : Operation) (at n after : ℕ) (os : List Operand) → length os ≡ n
    → least_operands operation ≤ n → n ≤ most_operands operation → operands story types at ≡ Ok (os, after)
    → Ok (os, after) ≡ (opcode_of (Some operation) types at >>= λ c. operands story c.0.types c.1)
fits story types operation at n after os size least most e =
    let many : length os ≡ length types = counted story types at (os, after) e in
    rw (
      le-leb (least_operands operation) (length types) (omega (arith, many, size)),
      le-leb (length types) (most_operands operation) (omega (arith, many, size)),
    ) (sym e)

fits_kept : (story : List ℕ) (types : Result (List ℕ × ℕ) Fault) (operation : Operation) (n after : ℕ)
    (os : List Operand) → length os ≡ n → least_operands operation ≤ n → n ≤ most_operands operation
    → (types >>= λ x. operands story x.0 x.1) ≡ Ok (os, after)
    → Ok (os, after)
    ≡ (types >>= λ x. opcode_of (Some operation) x.0 x.1 >>= λ c. operands story c.0.types c.1)
fits_kept story (Ok x) operation n after os size least most e =
    fits story x.0 operation x.1 n after os size least most e
fits_kept story (Err fault) operation n after os size least most e = cc

pub lists_given : (story : List ℕ) (ops : List Operand) (operation : Operation) (at n after : ℕ)
    → has_more_types operation ≡ false → n ≤ length ops → least_operands operation ≤ n → n ≤ most_operands operation
    → given_at story at ≡ Ok (take n ops, after) → Ok (take n ops, after) ≡ listed story operation at
lists_given story ops operation at n after one few least most e =
    fits_kept story (kept (variable_types story false at)) operation n after (take n ops) (length-take-le n ops few)
    least most e
    ∙ ap (λ more. kept (variable_types story more at)
    >>= λ x. opcode_of (Some operation) x.0 x.1 >>= λ c. operands story c.0.types c.1) (sym one)
