-- The step that stores an entry of an array.
use Rattle.std.proofs.Common.{◌≡◌, ℕ, ◌+◌, ◌*◌, ◌%◌, ◌<◌, ◌≤◌, List, [], ◌∷◌, slice_index, None, true, refl, ap, ◌∙◌}
use Rattle.std.proofs.Common.{arith}
use Rattle.std.specs.Prelude.{nat_lt, nat_le}
use Rattle.std.proofs.lemmas.Bool.{lt-ltb, le-leb}
use Rattle.zcore.specs.declared.next.Next.{Next}
use Rattle.zcore.specs.Header.{static_base_of}
use Rattle.zcore.specs.State.{State, done}
use Rattle.zcore.specs.Parts.{write_byte, write_word}
use Rattle.zcore.specs.Execution.{perform, store_word, store_byte}
use Rattle.syntax_trees.specs.declared.tree.Width.{Width}
use Rattle.syntax_trees.specs.declared.tree.Width.TheVariants as widths
use Rattle.meaning.specs.declared.resolved.Variable as resolved
use Rattle.meaning.specs.declared.resolved.Variable.TheVariants as variables
use Rattle.meaning.specs.World.{Situation, Comes, to, over, bound, Part, value_in, with_array}
use Rattle.code_items.specs.Stack as stack
use Rattle.code.specs.ItemCode.{store_operation}
use Rattle.code.proofs.StoredEntries.{entry_address, written_at, last_byte}

-- an entry is stored
pub stores : (width : Width) (here : Next) (after place i v : ℕ) (st : State)
    → 64 ≤ entry_address width place i
    → last_byte width (entry_address width place i) < static_base_of st.memory
    → last_byte width (entry_address width place i) < 65536
    → perform (store_operation width) here after None None (place ∷ i ∷ v ∷ []) st
    ≡ done (record { program_counter = after; fuel = here.fuel })
    (record st { memory = written_at width st.memory (entry_address width place i) v })
unfolding perform store_word store_byte write_byte write_word
stores widths.Byte here after place i v st above below small =
    let whole : (place + i) % 65536 ≡ place + i = omega (arith, small) in
    let e : nat_le 64 (place + i) ≡ true = le-leb _ _ above in
    let f : nat_lt (place + i) (static_base_of st.memory) ≡ true = lt-ltb _ _ below in
    rw (whole, e, f) refl
stores widths.Word here after place i v st above below small =
    let whole : (place + 2 * i) % 65536 ≡ place + 2 * i = omega (arith, small) in
    let e : nat_le 64 (place + 2 * i) ≡ true = le-leb _ _ above in
    let f : nat_lt (place + 2 * i) (static_base_of st.memory) ≡ true = lt-ltb _ _ (omega (arith, below)) in
    let g : nat_le 64 (place + 2 * i + 1) ≡ true = le-leb _ _ (omega (arith, above)) in
    let h : nat_lt (place + 2 * i + 1) (static_base_of st.memory) ≡ true = lt-ltb _ _ below in
    rw (whole, e, f, g, h) refl

-- what follows two parts
pub after_bound : {A B : Type 0} (f : Comes A) (g : A → Part B) (k : B → Situation → stack.Next)
    → stack.after_part (bound f g) k ≡ stack.after_part f (λ x s. stack.after_part (g x s) k)
after_bound (to x s) g k = refl
after_bound (over o) g k = refl

-- static memory begins in the same place
pub static_same : (story memory : List ℕ) → ((q : ℕ) → q < 64 → slice_index memory q ≡ slice_index story q)
    → static_base_of memory ≡ static_base_of story
static_same story memory header =
    ap (λ x. x * 256 + slice_index memory 15) (header 14 (omega arith))
    ∙ ap (λ x. slice_index story 14 * 256 + x) (header 15 (omega arith))

-- a variable has the same word where an array has changed
pub value_same : (x : resolved.Variable) (n : ℕ) (bytes : List ℕ) (s : Situation)
    → value_in x (with_array n bytes s) ≡ value_in x s
value_same (variables.Local i) n bytes s = refl
value_same (variables.Global g) n bytes s = refl
