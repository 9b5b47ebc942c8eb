-- Expressions on objects that have a word.
use Rattle.std.proofs.Common.{◌≡◌, ℕ, ◌+◌, ◌≤◌, List, [], ◌∷◌, ◌++◌, length, Some, Bool, ◌∙◌, refl, arith}
use Rattle.std.specs.Prelude.{slice_get}
use Rattle.syntax_trees.specs.declared.tree.Relative.{Relative}
use Rattle.meaning.specs.Limits.{operands}
use Rattle.meaning.specs.Accepted.{need_of}
use Rattle.meaning.specs.Resolved.{Value, none}
use Rattle.meaning.specs.Resolved as source
use Rattle.meaning.specs.World.{Situation, Part, ◌>>=◌}
use Rattle.meaning.specs.Meaning.{evaluate}
use Rattle.code_drafts.specs.Items.{Item, Operand, pushed, Destination, push, alone, left_of, first_of, if_pushed}
use Rattle.code_drafts.specs.Items.{value_items, operand_count, alone_items, branch_true}
use Rattle.code_drafts.specs.Items as items
use Rattle.code_drafts.proofs.Counts.{alone_length}
use Rattle.code_items.specs.Stack.{with_operand, gives, act, relative_to, property_of, property_bytes, ItemState}
use Rattle.code_items.specs.Stack.{word_of_property, assigned_property, assigned_property_word}
use Rattle.code_items.proofs.Acts.{Keeps}
use Rattle.code_items.proofs.ObjectParts.{keeps_relative, keeps_property, keeps_size, keeps_word, keeps_assigned}
use Rattle.code_items.proofs.ObjectParts.{keeps_assigned_word}
use Rattle.code_items.proofs.Standing.{HasAt, split}
use Rattle.code_items.proofs.Held.{onto, with_held, AllHeld, onto_all}
use Rattle.code_items.proofs.Running.{Running, code, setting}
use Rattle.code_items.proofs.Leads.{Leads, on, here, stands, lands, goes_by, at_place}
use Rattle.code_items.proofs.Steps.{one, by_word}
use Rattle.code_items.proofs.Evaluated.{ValueOk, operand_held, operand_does, two_operands, three_operands}

module _ (now : Running) where
  open now use {p, full}

  -- an item that takes one operand, and does a part of the meaning with its word
  module _ (i : Operand → Destination → Item) (f : ℕ → Part ℕ)
      (acts : (o : Operand) (d : Destination) (s : ItemState) → act p full (Some (i o d)) s
      ≡ with_operand o s.situation s.stack (λ x stack. gives (f x) d stack s))
      (keeps : (x : ℕ) → Keeps full (f x)) (v : Value) (ok : ValueOk now v) where
    piece : (s : Situation) (n pc m : ℕ) (words : List ℕ) (dest : Destination)
        → HasAt (code now) pc (alone_items pc v) m → slice_get (code now) m ≡ Some (i (alone v) dest)
        → length words + operands 0 (need_of v ∷ []) ≤ 48
        → Leads now s n (stands now pc words s) ((evaluate (setting now) v >>= f) s) (lands now dest (m + 1) words)
    piece s n pc m words dest has h le =
        on now (evaluate (setting now) v) _ (operand_does now v none ok s n pc m words has (omega (arith, le)))
        (λ x s1 e1.
        one now m words dest (i (alone v) dest) (f x) (onto (alone v) x words) h
        (acts (alone v) dest (here now m (onto (alone v) x words) s1)
        ∙ with_held (alone v) x s1 words
        (λ y rest. gives (f y) dest rest (here now m (onto (alone v) x words) s1))
        (operand_held now v none s s1 x e1)) (keeps x) (omega (arith, le)))

    goes_on : (s : Situation) (n pc q : ℕ) (words : List ℕ) (dest : Destination)
        → HasAt (code now) pc (alone_items pc v ++ i (alone v) dest ∷ []) q
        → length words + operands 0 (need_of v ∷ []) ≤ 48
        → Leads now s n (stands now pc words s) ((evaluate (setting now) v >>= f) s) (lands now dest q words)
    goes_on s n pc q words dest has le =
        let m = pc + operand_count v (alone v) in
        let h = split (code now) pc (alone_items pc v) _ q (operand_count v (alone v)) (alone_length v pc) has in
        at_place now (λ x. lands now dest x words) (m + 1) q h.1.1
        (piece s n pc m words dest h.0 h.1.0 le)

    leads_by : (s : Situation) (n pc t q : ℕ) (words : List ℕ) (when : Bool)
        → HasAt (code now) pc (alone_items pc v ++ i (alone v) push ∷ branch_true pushed when t ∷ []) q → q ≤ t
        → length words + operands 0 (need_of v ∷ []) ≤ 48
        → Leads now s n (stands now pc words s) ((evaluate (setting now) v >>= f) s) (goes_by now when t q words)
    leads_by s n pc t q words when has before le =
        let m = pc + operand_count v (alone v) in
        let h = split (code now) pc (alone_items pc v) _ q (operand_count v (alone v)) (alone_length v pc) has in
        by_word now _ (m + 1) t q words when (piece s n pc m words push h.0 h.1.0 le) h.1.1.0
        (omega (arith, before, h.1.1.1)) h.1.1.1

  -- an item that takes two operands, and does a part of the meaning with their words
  module _ (i : Operand → Operand → Destination → Item) (f : ℕ → ℕ → Part ℕ)
      (acts : (oa ob : Operand) (d : Destination) (s : ItemState) → act p full (Some (i oa ob d)) s
      ≡ with_operand ob s.situation s.stack
      (λ y rest. with_operand oa s.situation rest (λ x stack. gives (f x y) d stack s)))
      (keeps : (x y : ℕ) → Keeps full (f x y)) (a b : Value) (oka : ValueOk now a) (okb : ValueOk now b) where
    item : (oa ob : Operand) (x y : ℕ) (s : Situation) (n m : ℕ) (words : List ℕ) (dest : Destination)
        → slice_get (code now) m ≡ Some (i oa ob dest) → AllHeld (oa ∷ ob ∷ []) (x ∷ y ∷ []) s → length words + 1 ≤ 48
        → Leads now s n (stands now m (onto_all (oa ∷ ob ∷ []) (x ∷ y ∷ []) words) s) (f x y s)
        (lands now dest (m + 1) words)
    item oa ob x y s n m words dest h held le =
        one now m words dest (i oa ob dest) (f x y) (onto ob y (onto oa x words)) h
        (acts oa ob dest (here now m (onto ob y (onto oa x words)) s)
        ∙ with_held ob y s (onto oa x words)
        (λ z rest. with_operand oa s rest
        (λ w left. gives (f w z) dest left (here now m (onto ob y (onto oa x words)) s))) held.1.0
        ∙ with_held oa x s words
        (λ w left. gives (f w y) dest left (here now m (onto ob y (onto oa x words)) s)) held.0)
        (keeps x y) le

    both_go_on : (s : Situation) (n pc q : ℕ) (words : List ℕ) (dest : Destination)
        → HasAt (code now) pc (if_pushed (left_of a b) (value_items pc a push) []
        ++ (if_pushed (alone b) (value_items (pc + operand_count a (left_of a b)) b push) []
        ++ i (left_of a b) (alone b) dest ∷ [])) q
        → length words + operands 0 (need_of a ∷ need_of b ∷ []) ≤ 48
        → Leads now s n (stands now pc words s)
        ((evaluate (setting now) a >>= λ x. (evaluate (setting now) b >>= λ y. f x y)) s) (lands now dest q words)
    both_go_on s n pc q words dest has le =
        let m = pc + operand_count a (left_of a b) + operand_count b (alone b) in
        two_operands now {behind = lands now dest q words} a b oka okb s n pc q words
        (i (left_of a b) (alone b) dest ∷ []) f has le
        (λ x y s2 h held.
        at_place now (λ z. lands now dest z words) (m + 1) q h.1
        (item (left_of a b) (alone b) x y s2 n m words dest h.0 held (omega (arith, le))))

    both_lead_by : (s : Situation) (n pc t q : ℕ) (words : List ℕ) (when : Bool)
        → HasAt (code now) pc (if_pushed (left_of a b) (value_items pc a push) []
        ++ (if_pushed (alone b) (value_items (pc + operand_count a (left_of a b)) b push) []
        ++ i (left_of a b) (alone b) push ∷ branch_true pushed when t ∷ [])) q
        → q ≤ t → length words + operands 0 (need_of a ∷ need_of b ∷ []) ≤ 48
        → Leads now s n (stands now pc words s)
        ((evaluate (setting now) a >>= λ x. (evaluate (setting now) b >>= λ y. f x y)) s) (goes_by now when t q words)
    both_lead_by s n pc t q words when has before le =
        let m = pc + operand_count a (left_of a b) + operand_count b (alone b) in
        two_operands now {behind = goes_by now when t q words} a b oka okb s n pc q words
        (i (left_of a b) (alone b) push ∷ branch_true pushed when t ∷ []) f has le
        (λ x y s2 h held.
        by_word now _ (m + 1) t q words when
        (item (left_of a b) (alone b) x y s2 n m words push h.0 held (omega (arith, le))) h.1.0
        (omega (arith, before, h.1.1)) h.1.1)

  pub relative_ok : (r : Relative) (v : Value) → ValueOk now v → ValueOk now (source.relative r v)
  relative_ok r v ok = record {
    value = λ s n pc q words dest has le.
        goes_on (items.relative r) (relative_to p r) (λ o d s. refl) (keeps_relative p full r) v ok s n pc q words dest
        has le;
    branch = λ s n pc t q words when has before le.
        leads_by (items.relative r) (relative_to p r) (λ o d s. refl) (keeps_relative p full r) v ok s n pc t q words
        when has before le;
  }

  pub property_ok : (v : Value) (k : ℕ) → ValueOk now v → ValueOk now (source.property v k)
  property_ok v k ok = record {
    value = λ s n pc q words dest has le.
        goes_on (λ o d. items.property o k d) (λ o. property_of p o k) (λ o d s. refl)
        (λ o. keeps_property p full o k) v ok s n pc q words dest has le;
    branch = λ s n pc t q words when has before le.
        leads_by (λ o d. items.property o k d) (λ o. property_of p o k) (λ o d s. refl)
        (λ o. keeps_property p full o k) v ok s n pc t q words when has before le;
  }

  pub property_size_ok : (v : Value) (k : ℕ) → ValueOk now v → ValueOk now (source.property_size v k)
  property_size_ok v k ok = record {
    value = λ s n pc q words dest has le.
        goes_on (λ o d. items.property_size o k d) (λ o. property_bytes p o k) (λ o d s. refl)
        (λ o. keeps_size p full o k) v ok s n pc q words dest has le;
    branch = λ s n pc t q words when has before le.
        leads_by (λ o d. items.property_size o k d) (λ o. property_bytes p o k) (λ o d s. refl)
        (λ o. keeps_size p full o k) v ok s n pc t q words when has before le;
  }

  pub property_word_ok : (v : Value) (k : ℕ) (w : Value) → ValueOk now v → ValueOk now w
      → ValueOk now (source.property_word v k w)
  property_word_ok v k w okv okw = record {
    value = λ s n pc q words dest has le.
        both_go_on (items.property_word k) (word_of_property p k) (λ a b d s. refl) (keeps_word p full k) v w okv okw
        s n pc q words dest has le;
    branch = λ s n pc t q words when has before le.
        both_lead_by (items.property_word k) (word_of_property p k) (λ a b d s. refl) (keeps_word p full k) v w okv okw
        s n pc t q words when has before le;
  }

  pub assign_property_ok : (v : Value) (k : ℕ) (w : Value) → ValueOk now v → ValueOk now w
      → ValueOk now (source.assign_property v k w)
  assign_property_ok v k w okv okw = record {
    value = λ s n pc q words dest has le.
        both_go_on (items.assign_property k) (assigned_property p k) (λ a b d s. refl) (keeps_assigned p full k) v w
        okv okw s n pc q words dest has le;
    branch = λ s n pc t q words when has before le.
        both_lead_by (items.assign_property k) (assigned_property p k) (λ a b d s. refl) (keeps_assigned p full k) v w
        okv okw s n pc t q words when has before le;
  }

  -- a word is assigned to a word of a property: object, index and word
  assign_item : (k : ℕ) (oa ob oc : Operand) (x y z : ℕ) (s : Situation) (n m : ℕ) (words : List ℕ)
      (dest : Destination) → slice_get (code now) m ≡ Some (items.assign_property_word k oa ob oc dest)
      → AllHeld (oa ∷ ob ∷ oc ∷ []) (x ∷ y ∷ z ∷ []) s → length words + 1 ≤ 48
      → Leads now s n (stands now m (onto_all (oa ∷ ob ∷ oc ∷ []) (x ∷ y ∷ z ∷ []) words) s)
      (assigned_property_word p k x y z s) (lands now dest (m + 1) words)
  assign_item k oa ob oc x y z s n m words dest h held le =
      let there : ItemState = here now m (onto oc z (onto ob y (onto oa x words))) s in
      one now m words dest (items.assign_property_word k oa ob oc dest) (assigned_property_word p k x y z)
      (onto oc z (onto ob y (onto oa x words))) h
      (with_held oc z s (onto ob y (onto oa x words))
      (λ c rest. with_operand ob s rest (λ b left. with_operand oa s left
      (λ a last. gives (assigned_property_word p k a b c) dest last there))) held.1.1.0
      ∙ with_held ob y s (onto oa x words)
      (λ b left. with_operand oa s left (λ a last. gives (assigned_property_word p k a b z) dest last there)) held.1.0
      ∙ with_held oa x s words (λ a last. gives (assigned_property_word p k a y z) dest last there) held.0)
      (keeps_assigned_word p full k x y z) le

  pub assign_property_word_ok : (v : Value) (k : ℕ) (w z : Value) → ValueOk now v → ValueOk now w → ValueOk now z
      → ValueOk now (source.assign_property_word v k w z)
  assign_property_word_ok v k w z okv okw okz = record {
    value = λ s n pc q words dest has le.
        let m = place pc in
        three_operands now {behind = lands now dest q words} v w z okv okw okz s n pc q words
        (items.assign_property_word k (first_of v w z) (left_of w z) (alone z) dest ∷ [])
        (assigned_property_word p k) has le
        (λ x y word s3 h held.
        at_place now (λ c. lands now dest c words) (m + 1) q h.1
        (assign_item k (first_of v w z) (left_of w z) (alone z) x y word s3 n m words dest h.0 held
        (omega (arith, le))));
    branch = λ s n pc t q words when has before le.
        let m = place pc in
        three_operands now {behind = goes_by now when t q words} v w z okv okw okz s n pc q words
        (items.assign_property_word k (first_of v w z) (left_of w z) (alone z) push ∷ branch_true pushed when t ∷ [])
        (assigned_property_word p k) has le
        (λ x y word s3 h held.
        by_word now _ (m + 1) t q words when
        (assign_item k (first_of v w z) (left_of w z) (alone z) x y word s3 n m words push h.0 held
        (omega (arith, le))) h.1.0
        (omega (arith, before, h.1.1)) h.1.1);
  }
    where
      place : ℕ → ℕ
      place pc = pc + operand_count v (first_of v w z) + operand_count w (left_of w z) + operand_count z (alone z)
