-- Items of which the last operand that does not stand in place was put aside.
use Rattle.std.proofs.Common.{◌≡◌, ℕ, ◌+◌, ◌≤◌, List, [], ◌∷◌, ◌++◌, length, Some, Bool, true, refl, subst, arith}
use Rattle.std.specs.Prelude.{slice_get}
use Rattle.meaning.specs.Limits.{operands}
use Rattle.meaning.specs.Resolved.{Value, Values}
use Rattle.meaning.specs.Accepted.{need_of, needs_of}
use Rattle.meaning.specs.World.{Situation, Part, ◌>>=◌}
use Rattle.meaning.specs.Meaning.{evaluate, evaluate_all}
use Rattle.code_drafts.specs.Items.{Item, Destination, push, branch_true, pushed, operands_of, is_any_pushed}
use Rattle.code_drafts.specs.Items.{arguments_count, arguments_items, value_items, branch_items}
use Rattle.code_drafts.proofs.Counts.{arguments_length}
use Rattle.code_items.proofs.Running.{Running, code, setting}
use Rattle.code_items.proofs.Standing.{HasAt, split}
use Rattle.code_items.proofs.Needs.{some_needed}
use Rattle.code_items.proofs.Held.{AllHeld}
use Rattle.code_items.proofs.Leads.{Leads, on, as_part, stands, lands, at_place}
use Rattle.code_items.proofs.Steps.{by_word}
use Rattle.code_items.proofs.Evaluated.{ValueOk, all_held}
use Rattle.code_items.proofs.Arguments.{arrived, ArgumentsOk}

module _ (now : Running) where
  -- an item does with the words of its operands what is to be done
  abbrev pub Does : Values → (List ℕ → Part ℕ) → (Destination → Item) → Type 0
  Does vs g item = (s : Situation) (n m : ℕ) (words : List ℕ) (d : Destination) (xs : List ℕ)
      → slice_get (code now) m ≡ Some (item d) → AllHeld (operands_of vs) xs s → length words + 1 ≤ 48
      → Leads now s n (arrived now (is_any_pushed (operands_of vs)) (operands_of vs) m words xs s) (g xs s)
      (lands now d (m + 1) words)

  module _ (vs : Values) (ok : ArgumentsOk now vs) (g : List ℕ → Part ℕ) (item : Destination → Item)
      (does : Does vs g item) where
    -- its operands, and the item
    piece : (s : Situation) (n pc m : ℕ) (words : List ℕ) (d : Destination)
        → HasAt (code now) pc (arguments_items true pc vs) m → slice_get (code now) m ≡ Some (item d)
        → length words + operands 0 (needs_of vs) ≤ 48
        → Leads now s n (stands now pc words s) ((evaluate_all (setting now) vs >>= g) s) (lands now d (m + 1) words)
    piece s n pc m words d has h le =
        let some = some_needed 0 (needs_of vs) in
        on now (evaluate_all (setting now) vs) g
        (ok.all true (is_any_pushed (operands_of vs)) refl s n (length words) 0 pc m words has (omega arith) le)
        (λ xs s1 e1. does s1 n m words d xs h (all_held now vs s s1 xs e1) (omega (arith, le, some)))

    pub last_aside_ok : (whole : Value)
        → ((at : ℕ) (d : Destination) → value_items at whole d ≡ arguments_items true at vs ++ item d ∷ [])
        → ((at t : ℕ) (when : Bool) → branch_items at whole when t
        ≡ arguments_items true at vs ++ item push ∷ branch_true pushed when t ∷ [])
        → ((s : Situation) → (evaluate_all (setting now) vs >>= g) s ≡ evaluate (setting now) whole s)
        → need_of whole ≡ operands 0 (needs_of vs) → ValueOk now whole
    last_aside_ok whole ev eb means need = record {
      value = λ s n pc q words d has le.
          let m = pc + arguments_count true vs in
          let h = split (code now) pc (arguments_items true pc vs) _ q (arguments_count true vs)
          (arguments_length true vs pc) (subst (λ l. HasAt (code now) pc l q) (ev pc d) has) in
          as_part now _ _ (means s)
          (at_place now (λ x. lands now d x words) (m + 1) q h.1.1
          (piece s n pc m words d h.0 h.1.0 (omega (arith, le, need))));
      branch = λ s n pc t q words when has before le.
          let m = pc + arguments_count true vs in
          let h = split (code now) pc (arguments_items true pc vs) _ q (arguments_count true vs)
          (arguments_length true vs pc) (subst (λ l. HasAt (code now) pc l q) (eb pc t when) has) in
          by_word now _ (m + 1) t q words when
          (as_part now _ _ (means s) (piece s n pc m words push h.0 h.1.0 (omega (arith, le, need)))) h.1.1.0
          (omega (arith, before, h.1.1.1)) h.1.1.1;
    }
