-- Numbers, variables and operations.
use Rattle.std.proofs.Common.{◌≡◌, ℕ, ◌+◌, ◌≤◌, List, [], ◌∷◌, ◌++◌, length, Some, Bool, true, false, refl, sym, ap}
use Rattle.std.proofs.Common.{◌∙◌, subst, arith}
use Rattle.std.specs.Prelude.{◌==◌, not, if◌then◌else◌, slice_get}
use Rattle.syntax_trees.specs.declared.tree.Binary.{Binary}
use Rattle.syntax_trees.specs.declared.tree.Prefix.{Prefix}
use Rattle.syntax_trees.specs.declared.tree.Prefix.TheVariants as prefixes
use Rattle.meaning.specs.declared.resolved.Variable.{Variable}
use Rattle.meaning.specs.Limits.{operands}
use Rattle.meaning.specs.Resolved.{Value, none}
use Rattle.meaning.specs.Resolved as source
use Rattle.meaning.specs.Accepted.{need_of}
use Rattle.meaning.specs.World.{Situation, to, ◌>>=◌, give, value_in}
use Rattle.meaning.specs.Meaning.{truth, is_true, operate, with_prefix, evaluate}
use Rattle.code_drafts.specs.Items.{Operand, pushed, number, variable, Destination, push, aside, right_place}
use Rattle.code_drafts.specs.Items.{operation_item, is_zero}
use Rattle.code_drafts.specs.Items.{alone, left_of, if_pushed, branch_true, agrees, operand_count}
use Rattle.code_drafts.specs.Items.{branch_count, value_items, branch_items, alone_items}
use Rattle.code_drafts.specs.Items as items
use Rattle.code_drafts.proofs.Counts.{branch_length, alone_length}
use Rattle.code_items.specs.Stack.{with_operand, deliver, gives}
use Rattle.code_items.proofs.Acts.{keeps_give, keeps_operate}
use Rattle.code_items.proofs.Running.{Running, code, setting}
use Rattle.code_items.proofs.Standing.{HasAt, split}
use Rattle.code_items.proofs.Needs.{some_needed}
use Rattle.code_items.proofs.Conditions.{truth_back, not_not, zero_agrees}
use Rattle.code_items.proofs.Held.{Held, onto, with_held, AllHeld, onto_all, place_is}
use Rattle.code_items.proofs.Leads.{Leads, on, as_part, here, here_with, stands, lands, goes_by, at_place}
use Rattle.code_items.proofs.Steps.{one, one_with, jumps, decided, tests, by_word, moved_does}
use Rattle.code_items.proofs.Truths.{not_condition, Branches, condition}
use Rattle.code_items.proofs.Evaluated.{ValueOk, operand_held, operand_does}
use Rattle.code_items.proofs.Placed.{operated_items, placed_at, placed_end, placed_operands}

module _ (now : Running) where
  open now use {p, full}

  prefix_piece : (op : Prefix) (v : Value) → ValueOk now v → (s : Situation) (n pc m : ℕ) (words : List ℕ)
      (dest : Destination) → HasAt (code now) pc (if_pushed (alone v) (value_items pc v push) []) m
      → slice_get (code now) m ≡ Some (items.apply_prefix op (alone v) dest)
      → length words + operands 0 (need_of v ∷ []) ≤ 48
      → Leads now s n (stands now pc words s) (evaluate (setting now) (source.prefixed op v) s)
      (lands now dest (m + 1) words)
  prefix_piece op v ok s n pc m words dest has h le =
      on now (evaluate (setting now) v) _ (operand_does now v none ok s n pc m words has (omega (arith, le)))
      (λ x s1 e1.
      one now m words dest (items.apply_prefix op (alone v) dest) (give (with_prefix op x)) (onto (alone v) x words) h
      (with_held (alone v) x s1 words (λ y rest. deliver dest (with_prefix op y) (here now (m + 1) rest s1))
      (operand_held now v none s s1 x e1)) (keeps_give full (with_prefix op x)) (omega (arith, le)))

  operate_item : (op : Binary) (oa ob : Operand) (x y : ℕ) (s : Situation) (n m : ℕ) (words : List ℕ)
      (dest : Destination) → slice_get (code now) m ≡ Some (items.operate op oa ob dest)
      → AllHeld (oa ∷ ob ∷ []) (x ∷ y ∷ []) s → length words + 1 ≤ 48
      → Leads now s n (stands now m (onto_all (oa ∷ ob ∷ []) (x ∷ y ∷ []) words) s) (operate op x y s)
      (lands now dest (m + 1) words)
  operate_item op oa ob x y s n m words dest h held le =
      one now m words dest (items.operate op oa ob dest) (operate op x y) (onto ob y (onto oa x words)) h
      (with_held ob y s (onto oa x words)
      (λ v rest. with_operand oa s rest
      (λ w left. gives (operate op w v) dest left (here now m (onto ob y (onto oa x words)) s))) held.1.0
      ∙ with_held oa x s words
      (λ w left. gives (operate op w y) dest left (here now m (onto ob y (onto oa x words)) s)) held.0)
      (keeps_operate full op x y) le

  -- an operation whose right operand was put aside
  aside_item : (op : Binary) (oa : Operand) (x y : ℕ) (s : Situation) (n m : ℕ) (words : List ℕ)
      (dest : Destination) → slice_get (code now) m ≡ Some (items.operate_aside op oa dest)
      → Held oa x s → length words + 1 ≤ 48
      → Leads now s n (lands now aside m (onto oa x words) y s) (operate op x y s) (lands now dest (m + 1) words)
  aside_item op oa x y s n m words dest h held le =
      one_with now (Some y) m words dest (items.operate_aside op oa dest) (operate op x y) (onto oa x words) h
      (with_held oa x s words
      (λ w left. gives (operate op w y) dest left (here_with now (Some y) m (onto oa x words) s)) held)
      (keeps_operate full op x y) le

  -- an operation, where its right operand went to its place
  module _ (op : Binary) (oa : Operand) (x y : ℕ) (s : Situation) (n m : ℕ) (words : List ℕ) (dest : Destination)
      (le : length words + 1 ≤ 48) where
    -- by that place, and the right operand
    abbrev FromPlace : Destination → Operand → Type 0
    FromPlace place ob = slice_get (code now) m ≡ Some (operation_item place op oa ob dest)
        → AllHeld (oa ∷ ob ∷ []) (x ∷ y ∷ []) s
        → Leads now s n (placed_at now place ob m (onto oa x words) y s) (operate op x y s)
        (lands now dest (m + 1) words)

    from_top : (ob : Operand) → FromPlace push ob
    from_top pushed h held = operate_item op oa pushed x y s n m words dest h held le
    from_top (number k) h held = operate_item op oa (number k) x y s n m words dest h held le
    from_top (variable z) h held = operate_item op oa (variable z) x y s n m words dest h held le

    from_aside : (ob : Operand) → FromPlace aside ob
    from_aside pushed h held = aside_item op oa x y s n m words dest h held.0 le
    from_aside (number k) h held = operate_item op oa (number k) x y s n m words dest h held le
    from_aside (variable z) h held = operate_item op oa (variable z) x y s n m words dest h held le

  operated_item : (op : Binary) (oa ob : Operand) (x y : ℕ) (s : Situation) (n m : ℕ) (words : List ℕ)
      (dest : Destination) → slice_get (code now) m ≡ Some (operation_item (right_place op oa) op oa ob dest)
      → AllHeld (oa ∷ ob ∷ []) (x ∷ y ∷ []) s → length words + 1 ≤ 48
      → Leads now s n (placed_at now (right_place op oa) ob m (onto oa x words) y s) (operate op x y s)
      (lands now dest (m + 1) words)
  operated_item op oa ob x y s n m words dest h held le =
      place_is op oa (λ place. FromPlace op oa x y s n m words dest le place ob)
      (from_top op oa x y s n m words dest le ob) (from_aside op oa x y s n m words dest le ob) h held

  pub number_ok : (k : ℕ) → ValueOk now (source.number k)
  number_ok k = record {
    value = λ s n pc q words dest has le. moved_does now (number k) k dest pc q words has (λ f. refl)
        (omega (arith, le));
    branch = λ s n pc t q words when has before le. known s n pc t q words when
        (agrees (is_true k) when) refl has before;
  }
    where
      known : (s : Situation) (n pc t q : ℕ) (words : List ℕ) (when b : Bool) → agrees (is_true k) when
          ≡ b → HasAt (code now) pc (if b then items.jump t ∷ [] else []) q → q ≤ t
          → Leads now s n (stands now pc words s) (to k s) (goes_by now when t q words)
      known s n pc t q words when true e has before = jumps now pc t words has.0 (omega (arith, before, has.1))
          (decided now k when true t q q words e refl)
      known s n pc t q words when false e has before = decided now k when false t pc q words e has

  pub read_ok : (x : Variable) → ValueOk now (source.read x)
  read_ok x = record {
    value = λ s n pc q words dest has le. moved_does now (variable x) (value_in x s) dest pc q words has (λ f. refl)
        (omega (arith, le));
    branch = λ s n pc t q words when has before le. tests now pc t q words is_zero (variable x ∷ [])
        (value_in x s ∷ []) (not when) when (value_in x s) has.0 (omega (arith, before, has.1)) has.1 (refl, tt)
        (sym (zero_agrees (value_in x s) when));
  }

  minus_ok : (op : Prefix) (v : Value) → ValueOk now v
      → ((at : ℕ) (dest : Destination) → value_items at (source.prefixed op v) dest
      ≡ if_pushed (alone v) (value_items at v push) [] ++ items.apply_prefix op (alone v) dest ∷ [])
      → ((at t : ℕ) (when : Bool) → branch_items at (source.prefixed op v) when t
      ≡ if_pushed (alone v) (value_items at v push) [] ++ items.apply_prefix op
      (alone v) push ∷ branch_true pushed when t ∷ []) → ValueOk now (source.prefixed op v)
  minus_ok op v ok ev eb = record {
    value = λ s n pc q words dest has le.
        let m = pc + operand_count v (alone v) in
        let h = split (code now) pc (alone_items pc v) _ q (operand_count v (alone v)) (alone_length v pc)
        (subst (λ l. HasAt (code now) pc l q) (ev pc dest) has) in
        at_place now (λ x. lands now dest x words) (m + 1) q h.1.1
        (prefix_piece op v ok s n pc m words dest h.0 h.1.0 le);
    branch = λ s n pc t q words when has before le.
        let m = pc + operand_count v (alone v) in
        let h = split (code now) pc (alone_items pc v) _ q (operand_count v (alone v)) (alone_length v pc)
        (subst (λ l. HasAt (code now) pc l q) (eb pc t when) has) in
        by_word now _ (m + 1) t q words when (prefix_piece op v ok s n pc m words push h.0 h.1.0 le) h.1.1.0
        (omega (arith, before, h.1.1.1)) h.1.1.1;
  }

  pub prefixed_ok : (op : Prefix) (v : Value) → ValueOk now v → ValueOk now (source.prefixed op v)
  prefixed_ok prefixes.Not v ok =
      let turned : Branches now (source.prefixed prefixes.Not v) (λ at when t. branch_items at v (not when) t) =
      λ s n pc t q words when has before le.
      on now (evaluate (setting now) v) _ (ok.branch s n pc t q words (not when) has before (omega (arith, le)))
      (λ x s1 e1.
      decided now (truth (x == 0)) when (agrees (is_true x) (not when)) t q q words
      (ap (λ b. agrees b when) (truth_back (x == 0)) ∙ ap (λ w. agrees (x == 0) w) (sym (not_not when))
      ∙ zero_agrees x (not when)) refl) in
      record {
        value = λ s n pc q words dest has le. condition now (source.prefixed prefixes.Not v) (branch_count v false)
            (λ at when t. branch_items at v (not when) t) (λ at t. branch_length v false at t)
            (not_condition now v) turned (some_needed 0 (need_of v ∷ [])) s n pc q words dest has le;
        branch = turned;
      }
  prefixed_ok prefixes.Minus v ok = minus_ok prefixes.Minus v ok (λ at dest. refl) (λ at t when. refl)
  prefixed_ok prefixes.Complement v ok = minus_ok prefixes.Complement v ok (λ at dest. refl) (λ at t when. refl)

  pub operation_ok : (op : Binary) (a b : Value) → ValueOk now a → ValueOk now b
      → ((at : ℕ) (dest : Destination) → value_items at (source.binary op a b) dest
      ≡ operated_items at op a b dest [])
      → ((at t : ℕ) (when : Bool) → branch_items at (source.binary op a b) when t
      ≡ operated_items at op a b push (branch_true pushed when t ∷ []))
      → ((s : Situation) → (evaluate (setting now) a >>= λ x. (evaluate (setting now) b >>= λ y. operate op x y)) s
      ≡ evaluate (setting now) (source.binary op a b) s) → ValueOk now (source.binary op a b)
  operation_ok op a b oka okb ev eb means = record {
    value = λ s n pc q words dest has le.
        let m = placed_end op a b pc in
        as_part now _ _ (means s)
        (placed_operands now {behind = lands now dest q words} op a b oka okb s n pc q words
        (operation_item (right_place op (left_of a b)) op (left_of a b) (alone b) dest ∷ []) (operate op)
        (subst (λ l. HasAt (code now) pc l q) (ev pc dest) has) le (λ x y s2 h held.
        at_place now (λ z. lands now dest z words) (m + 1) q h.1
        (operated_item op (left_of a b) (alone b) x y s2 n m words dest h.0 held (omega (arith, le)))));
    branch = λ s n pc t q words when has before le.
        let m = placed_end op a b pc in
        as_part now _ _ (means s)
        (placed_operands now {behind = goes_by now when t q words} op a b oka okb s n pc q words
        (operation_item (right_place op (left_of a b)) op (left_of a b) (alone b) push ∷ branch_true pushed when t ∷ [])
        (operate op)
        (subst (λ l. HasAt (code now) pc l q) (eb pc t when) has) le (λ x y s2 h held.
        by_word now _ (m + 1) t q words when
        (operated_item op (left_of a b) (alone b) x y s2 n m words push h.0 held (omega (arith, le))) h.1.0
        (omega (arith, before, h.1.1)) h.1.1));
  }
