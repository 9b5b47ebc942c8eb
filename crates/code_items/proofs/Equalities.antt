-- Comparisons, and `==` and `~=` with their alternatives.
use Rattle.std.proofs.Common.{◌≡◌, ℕ, ◌+◌, ◌<◌, ◌≤◌, List, [], ◌∷◌, ◌++◌, length, Bool, true, false, refl, sym, ap, ◌∙◌}
use Rattle.std.proofs.Common.{subst, arith, length-append}
use Rattle.std.specs.Prelude.{◌||◌, ◌==◌, not, nat_le, if◌then◌else◌}
use Rattle.std.specs.List.{list_any}
use Rattle.std.proofs.lemmas.Bool.{le-leb, leb-true}
use Rattle.syntax_trees.specs.declared.tree.Comparison.{Comparison}
use Rattle.syntax_trees.specs.declared.tree.Equality.{Equality}
use Rattle.meaning.specs.Limits.{operands}
use Rattle.meaning.specs.Resolved.{Value, Values, none, more}
use Rattle.meaning.specs.Resolved as source
use Rattle.meaning.specs.Accepted.{need_of, needs_of}
use Rattle.meaning.specs.World.{Situation, to, ◌>>=◌, give}
use Rattle.meaning.specs.Meaning.{truth, is_true, equated, compared, evaluate, evaluate_all}
use Rattle.code_drafts.specs.Items.{Item, Operand, pushed, push, is_zero, same, operand_of, operands_of, alone}
use Rattle.code_drafts.specs.Items.{left_of, if_pushed, agrees, is_few, is_direct, same_count, comparison_test}
use Rattle.code_drafts.specs.Items.{comparison_when, equality_when}
use Rattle.code_drafts.specs.Items.{value_count, operand_count, operands_count, many_count, truth_items, same_items}
use Rattle.code_drafts.specs.Items.{value_items, operands_items, branch_items, many_items, also_items}
use Rattle.code_drafts.specs.Items as items
use Rattle.code_drafts.proofs.CountedForms.{if_length}
use Rattle.code_drafts.proofs.Counts.{value_length, branch_length, operands_length, many_length}
use Rattle.code_drafts.proofs.InPlace.{placed, stays_placed, same_length, same_last, operands_counted}
use Rattle.code_items.specs.Stack.{stuck, holds}
use Rattle.code_items.specs.Stack as stack
use Rattle.code_items.proofs.Unchanged.{all_unchanged}
use Rattle.code_items.proofs.Running.{Running, code, setting}
use Rattle.code_items.proofs.Standing.{HasAt, split, long}
use Rattle.code_items.proofs.Needs.{some_needed, some_needed_of}
use Rattle.code_items.proofs.Conditions.{truth_back, zero_agrees, compares, closed, closes, equated_is, or-false}
use Rattle.code_items.proofs.Conditions.{or-assoc}
use Rattle.code_items.proofs.Held.{onto, onto_length, AllHeld, onto_all, with_all_held, AllPlaced, onto_placed}
use Rattle.code_items.proofs.Held.{all_placed}
use Rattle.code_items.proofs.Leads.{Leads, on, regroup, here, stands, goes_by}
use Rattle.code_items.proofs.Steps.{steps, branches, decided, tests}
use Rattle.code_items.proofs.Truths.{compare_condition, equal_condition, Branches, condition}
use Rattle.code_items.proofs.Evaluated.{ValueOk, operand_held, still_held, operand_does, ListOk, all_held, two_operands}

module _ (now : Running) where
  open now use {keep}

  compare_branches : (op : Comparison) (a b : Value) → ValueOk now a → ValueOk now b
      → Branches now (source.compare op a b) (λ at when t. branch_items at (source.compare op a b) when t)
  compare_branches op a b oka okb s n pc t q words when has before le =
      let m = pc + operand_count a (left_of a b) + operand_count b (alone b) in
      two_operands now {behind = goes_by now when t q words} a b oka okb s n pc q words
      (items.branch (comparison_test op) (left_of a b ∷ alone b ∷ []) (comparison_when op when) t ∷ [])
      (λ x y. give (truth (compared op x y))) has le (λ x y s2 h held.
      tests now m t q words (comparison_test op) (left_of a b ∷ alone b ∷ []) (x ∷ y ∷ [])
      (comparison_when op when) when (truth (compared op x y)) h.0 (omega (arith, before, h.1)) h.1 held
      (compares op x y when))

  or_three : (a b c d : Bool) → ((a || (b || (c || false))) || d) ≡ (a || (b || (c || d)))
  or_three true b c d = refl
  or_three false true c d = refl
  or_three false false true d = refl
  or_three false false false d = refl

  -- a branch where a word equals one of up to three others
  one_test : {s : Situation} {n : ℕ} (m t q : ℕ) (words : List ℕ) (o : Operand) (os : List Operand) (x : ℕ)
      (ys : List ℕ) (w when : Bool) (v : ℕ) → length os ≤ 3 → HasAt (code now) m (same_items o os m w t) q → q ≤ t
      → AllHeld (o ∷ os) (x ∷ ys) s → agrees (is_true v) when ≡ agrees (list_any (λ y. x == y) ys) w
      → Leads now s n (stands now m (onto_all (o ∷ os) (x ∷ ys) words) s) (to v s) (goes_by now when t q words)
  one_test m t q words o os x ys w when v few has ahead held is =
      let h = subst (λ is. HasAt (code now) m is q) (same_last o os m w t few) has in
      tests now m t q words same (o ∷ os) (x ∷ ys) w when v h.0 (omega (arith, ahead, h.1)) h.1 held is

  -- the same, where all stand in place
  few_tests : {s : Situation} {n : ℕ} (m t q : ℕ) (words : List ℕ) (o : Operand) (os : List Operand) (x : ℕ)
      (ys : List ℕ) (w when : Bool) (v : ℕ) → length os ≤ 3 → AllPlaced (o ∷ os)
      → HasAt (code now) m (same_items o os m w t) q → q ≤ t
      → AllHeld (o ∷ os) (x ∷ ys) s → agrees (is_true v) when ≡ agrees (list_any (λ y. x == y) ys) w
      → Leads now s n (stands now m words s) (to v s) (goes_by now when t q words)
  few_tests {s = s} {n = n} m t q words o os x ys w when v few placed has ahead held is =
      subst (λ ws. Leads now s n (stands now m ws s) (to v s) (goes_by now when t q words))
      (onto_placed (o ∷ os) (x ∷ ys) words placed) (one_test m t q words o os x ys w when v few has ahead held is)

  -- branches where a word equals one of any number of others, which stand in place
  several_tests : {s : Situation} {n : ℕ} (m t q : ℕ) (words : List ℕ) (o : Operand) (os : List Operand) (x : ℕ)
      (ys : List ℕ) (w when : Bool) (v : ℕ) → AllPlaced (o ∷ os) → HasAt (code now) m (same_items o os m w t) q → q ≤ t
      → AllHeld (o ∷ os) (x ∷ ys) s → agrees (is_true v) when ≡ agrees (list_any (λ y. x == y) ys) w
      → Leads now s n (stands now m words s) (to v s) (goes_by now when t q words)
  several_tests m t q words o [] x ys w when v placed has ahead held is =
      few_tests m t q words o [] x ys w when v (omega arith) placed has ahead held is
  several_tests m t q words o (o1 ∷ []) x ys w when v placed has ahead held is =
      few_tests m t q words o (o1 ∷ []) x ys w when v (omega arith) placed has ahead held is
  several_tests m t q words o (o1 ∷ o2 ∷ []) x ys w when v placed has ahead held is =
      few_tests m t q words o (o1 ∷ o2 ∷ []) x ys w when v (omega arith) placed has ahead held is
  several_tests m t q words o (o1 ∷ o2 ∷ o3 ∷ []) x ys w when v placed has ahead held is =
      few_tests m t q words o (o1 ∷ o2 ∷ o3 ∷ []) x ys w when v (omega arith) placed has ahead held is
  several_tests m t q words o (o1 ∷ o2 ∷ o3 ∷ o4 ∷ os) x [] w when v placed has ahead held is = absurd (held.1)
  several_tests m t q words o (o1 ∷ o2 ∷ o3 ∷ o4 ∷ os) x (y1 ∷ []) w when v placed has ahead held is =
      absurd (held.1.1)
  several_tests m t q words o (o1 ∷ o2 ∷ o3 ∷ o4 ∷ os) x (y1 ∷ y2 ∷ []) w when v placed has ahead held is =
      absurd (held.1.1.1)
  several_tests {s = s} {n = n} m t q words o (o1 ∷ o2 ∷ o3 ∷ o4 ∷ os) x (y1 ∷ y2 ∷ y3 ∷ ys) w when v placed has ahead
      held is =
      subst (λ ws. Leads now s n (stands now m ws s) (to v s) (goes_by now when t q words))
      (onto_placed first (x ∷ y1 ∷ y2 ∷ y3 ∷ []) words
      (placed.0, (placed.1.0, (placed.1.1.0, (placed.1.1.1.0, tt)))))
      (branches now m there (agrees three true) (onto_all first (x ∷ y1 ∷ y2 ∷ y3 ∷ []) words) words
      (items.branch same first true there) has.0 (ahead_of w)
      (with_all_held first (x ∷ y1 ∷ y2 ∷ y3 ∷ []) s words
      (λ taken rest. stack.branch (agrees (holds same taken) true) there rest
      (here now m (onto_all first (x ∷ y1 ∷ y2 ∷ y3 ∷ []) words) s))
      (held.0, (held.1.0, (held.1.1.0, (held.1.1.1.0, tt)))))
      (behind three refl (λ e. several_tests (m + 1) t q words o (o4 ∷ os) x ys w when v (placed.0, placed.1.1.1.1)
      has.1 ahead (held.0, held.1.1.1.1) e)))
    where
      first : List Operand
      first = o ∷ o1 ∷ o2 ∷ o3 ∷ []

      others : ℕ
      others = same_count (o4 ∷ os)

      there : ℕ
      there = if w then t else m + 1 + others

      three : Bool
      three = list_any (λ y. x == y) (y1 ∷ y2 ∷ y3 ∷ [])

      ends : m + 1 + others ≡ q
      ends = long (code now) (m + 1) (same_items o (o4 ∷ os) (m + 1) w t) q others
          (same_length o (o4 ∷ os) (m + 1) w t) has.1

      ahead_of : (b : Bool) → m < (if b then t else m + 1 + others)
      ahead_of true = omega (arith, ahead, ends)
      ahead_of false = omega arith

      asks : (b : Bool) → three ≡ b
          → agrees (is_true v) when ≡ agrees (b || list_any (λ y. x == y) ys) w
      asks b e = is ∙ ap (λ c. agrees c w)
          (sym (or_three (x == y1) (x == y2) (x == y3) (list_any (λ y. x == y) ys))
          ∙ ap (λ c. c || list_any (λ y. x == y) ys) e)

      behind : (b : Bool) → three ≡ b
          → (agrees (is_true v) when ≡ agrees (list_any (λ y. x == y) ys) w
          → Leads now s n (stands now (m + 1) words s) (to v s) (goes_by now when t q words))
          → Leads now s n (stands now (if agrees b true then there else m + 1) words s) (to v s)
          (goes_by now when t q words)
      behind true e others_do = decided now v when w t (m + 1 + others) q words (asks true e) ends
      behind false e others_do = others_do (asks false e)

  direct_branches : (op : Equality) (a : Value) (bs : Values) → is_direct a bs ≡ true → ValueOk now a → ListOk now bs
      → Branches now (source.equal op a bs)
      (λ at when t. if_pushed (operand_of a bs) (value_items at a push) []
      ++ (operands_items (at + operand_count a (operand_of a bs)) bs ++ same_items (operand_of a bs) (operands_of bs)
      (at + operand_count a (operand_of a bs) + operands_count bs) (equality_when op when) t))
  direct_branches op a bs direct oka okbs s n pc t q words when has before le =
      let o = operand_of a bs in
      let m = pc + operand_count a o in
      let e = m + operands_count bs in
      let ha = split (code now) pc (if_pushed o (value_items pc a push) []) _ q (operand_count a o)
      (if_length o _ _ (value_length a push pc)) has in
      let hb = split (code now) m (operands_items m bs) _ q (operands_count bs) (operands_length bs m) ha.1 in
      on now (evaluate (setting now) a) _ (operand_does now a bs oka s n pc m words ha.0 (omega (arith, le)))
      (λ x s1 e1.
      on now (evaluate_all (setting now) bs) _
      (okbs.all s1 n (length words) 1 m e (onto o x words) hb.0 (onto_length o x words) (omega (arith, le)))
      (λ ys s2 e2.
      by_all s2 e x ys hb.1 (
        still_held now a bs s1 s2 x (λ z f. all_unchanged (setting now) keep z bs s1 s2 ys f e2)
            (operand_held now a bs s s1 x e1),
        all_held now bs s1 s2 ys e2,
      )
      (ap (λ b. agrees (is_true (truth b)) when) (equated_is op x ys)
      ∙ closes op (list_any (λ y. x == y) ys) when)))
    where
      by_all : (last : Situation) (e x : ℕ) (ys : List ℕ)
          → HasAt (code now) e (same_items (operand_of a bs) (operands_of bs) e (equality_when op when) t) q
          → AllHeld (operand_of a bs ∷ operands_of bs) (x ∷ ys) last
          → agrees (is_true (truth (equated op x ys))) when
          ≡ agrees (list_any (λ y. x == y) ys) (equality_when op when)
          → Leads now last n (stands now e (onto_all (operand_of a bs ∷ operands_of bs) (x ∷ ys) words) last)
          (to (truth (equated op x ys)) last) (goes_by now when t q words)
      by_all last e x ys has held is = go (is_few bs) refl
        where
          go : (few : Bool) → is_few bs ≡ few
              → Leads now last n (stands now e (onto_all (operand_of a bs ∷ operands_of bs) (x ∷ ys) words) last)
              (to (truth (equated op x ys)) last) (goes_by now when t q words)
          go true few =
              one_test e t q words (operand_of a bs) (operands_of bs) x ys (equality_when op when) when
              (truth (equated op x ys)) (omega (arith, operands_counted bs, leb-true _ _ few)) has before held is
          go false many =
              let h = placed a bs many direct in
              let stand : AllPlaced (operand_of a bs ∷ operands_of bs) =
              (stays_placed a bs h.0 h.1, all_placed bs h.1) in
              subst (λ ws. Leads now last n (stands now e ws last) (to (truth (equated op x ys)) last)
              (goes_by now when t q words))
              (sym (onto_placed (operand_of a bs ∷ operands_of bs) (x ∷ ys) words stand))
              (several_tests e t q words (operand_of a bs) (operands_of bs) x ys (equality_when op when) when
              (truth (equated op x ys)) stand has before held is)

  -- the alternatives that are left, where the flag says whether one before them is equal
  pub record AlsoOk (vs : Values) : Type 0 where
    pub also : (s : Situation) (n before pc t q x : ℕ) (words : List ℕ) (op : Equality) (when b : Bool)
        (word : List ℕ → ℕ) → HasAt (code now) pc (also_items pc op vs when t) q → q ≤ t → 2 ≤ before
        → length words + 2 ≤ 48 → length words + operands before (needs_of vs) ≤ 48
        → ((ys : List ℕ) → truth (closed op (b || list_any (λ y. x == y) ys)) ≡ word ys)
        → Leads now s n (stands now pc (truth b ∷ x ∷ words) s)
        ((evaluate_all (setting now) vs >>= λ ys. give (word ys)) s)
        (goes_by now when t q words)

  pub also_none : AlsoOk none
  also_none = record {
    also = λ s n before pc t q x words op when b word has ahead two room_left le e.
        steps now pc (pc + 1) (truth b ∷ x ∷ words) (truth b ∷ words) items.drop_below has.0
        (ap (λ c. if c then stands now (pc + 1) (truth b ∷ words) s else stuck)
        (le-leb _ _ (omega (arith, room_left))))
        (tests now (pc + 1) t q words is_zero (pushed ∷ []) (truth b ∷ []) (not (equality_when op when)) when
        (word []) has.1.0 (omega (arith, ahead, has.1.1)) has.1.1 (tt, tt)
        (ap (λ w. agrees (is_true w) when) (sym (e []))
        ∙ ap (λ c. agrees (is_true (truth (closed op c))) when) (or-false b) ∙ closes op b when
        ∙ ap (λ c. agrees c (equality_when op when)) (sym (truth_back b))
        ∙ sym (zero_agrees (truth b) (equality_when op when))));
  }

  pub also_more : (v : Value) (vs : Values) → ValueOk now v → AlsoOk vs → AlsoOk (more v vs)
  also_more v vs okv okvs = record {
    also = λ s n before pc t q x words op when b word has ahead two room_left le e.
        let m = pc + value_count v push in
        let hv = split (code now) pc (value_items pc v push) _ q (value_count v push) (value_length v push pc) has in
        regroup now (evaluate (setting now) v) _ (λ ys. give (word ys))
        (on now (evaluate (setting now) v) _
        (okv.value s n pc m (truth b ∷ x ∷ words) push hv.0 (omega (arith, two, le)))
        (λ z s1 e1.
        steps now m (m + 1) (z ∷ truth b ∷ x ∷ words) (truth (b || x == z) ∷ x ∷ words) items.also_equal hv.1.0
        (ap (λ c. if nat_le (length (truth (c || x == z) ∷ x ∷ words)) 48 then stands now (m + 1)
        (truth (c || x == z) ∷ x ∷ words) s1 else stuck) (truth_back b)
        ∙ ap (λ c. if c then stands now (m + 1) (truth (b || x == z) ∷ x ∷ words) s1 else stuck)
        (le-leb _ _ (omega (arith, room_left))))
        (regroup now (evaluate_all (setting now) vs) _ (λ ys. give (word ys))
        (okvs.also s1 n (before + 1) (m + 1) t q x words op when (b || x == z) (λ ys. word (z ∷ ys)) hv.1.1 ahead
        (omega (arith, two)) room_left (omega (arith, le))
        (λ ys. ap (λ c. truth (closed op c)) (or-assoc b (x == z) (list_any (λ y. x == y) ys)) ∙ e (z ∷ ys))))));
  }

  many_branches : (op : Equality) (a v : Value) (vs : Values) → ValueOk now a → ValueOk now v → AlsoOk vs
      → Branches now (source.equal op a (more v vs))
      (λ at when t. value_items at a push ++ many_items (at + value_count a push) op (more v vs) when t)
  many_branches op a v vs oka okv okvs s n pc t q words when has before le =
      let m = pc + value_count a push in
      let e = m + value_count v push in
      let ha = split (code now) pc (value_items pc a push) _ q (value_count a push) (value_length a push pc) has in
      let hv = split (code now) m (value_items m v push) _ q (value_count v push) (value_length v push m) ha.1 in
      let some = some_needed_of v in
      on now (evaluate (setting now) a) _ (oka.value s n pc m words push ha.0 (omega (arith, le))) (λ x s1 e1.
      regroup now (evaluate (setting now) v) _ (λ ys. give (truth (equated op x ys)))
      (on now (evaluate (setting now) v) _ (okv.value s1 n m e (x ∷ words) push hv.0 (omega (arith, le))) (λ y s2 e2.
      steps now e (e + 1) (y ∷ x ∷ words) (truth (x == y) ∷ x ∷ words) items.first_equal hv.1.0
      (ap (λ c. if c then stands now (e + 1) (truth (x == y) ∷ x ∷ words) s2 else stuck)
      (le-leb _ _ (omega (arith, le, some))))
      (regroup now (evaluate_all (setting now) vs) _ (λ ys. give (truth (equated op x ys)))
      (okvs.also s2 n 2 (e + 1) t q x words op when (x == y) (λ ys. truth (equated op x (y ∷ ys))) hv.1.1 before
      (omega arith) (omega (arith, le, some)) (omega (arith, le))
      (λ ys. ap truth (sym (equated_is op x (y ∷ ys)))))))))

  pub compare_ok : (op : Comparison) (a b : Value) → ValueOk now a → ValueOk now b
      → ValueOk now (source.compare op a b)
  compare_ok op a b oka okb = record {
    value = λ s n pc q words dest has le.
        condition now (source.compare op a b) (operand_count a (left_of a b) + operand_count b (alone b) + 1)
        (λ at when t. branch_items at (source.compare op a b) when t)
        (λ at t. branch_length (source.compare op a b) true at t) (compare_condition now op a b)
        (compare_branches op a b oka okb) (some_needed 0 (need_of a ∷ need_of b ∷ [])) s n pc q words dest has
        le;
    branch = compare_branches op a b oka okb;
  }

  direct_ok : (op : Equality) (a : Value) (bs : Values) → ValueOk now a → ListOk now bs → is_direct a bs ≡ true
      → ValueOk now (source.equal op a bs)
  direct_ok op a bs oka okbs direct = record {
    value = λ s n pc q words dest has le.
        condition now (source.equal op a bs) count (λ at when t. direct_items at when t)
        (λ at t. counted at t) (equal_condition now op a bs) (direct_branches op a bs direct oka okbs)
        (some_needed 0 (need_of a ∷ needs_of bs)) s n pc q words dest
        (subst (λ b. HasAt (code now) pc
        (if b then truth_items pc count dest
        (λ t. direct_items pc true t) else truth_items pc (value_count a push + many_count bs) dest
        (λ t. value_items pc a push ++ many_items (pc + value_count a push) op bs true t)) q) direct has) le;
    branch = λ s n pc t q words when has before le.
        direct_branches op a bs direct oka okbs s n pc t q words when
        (subst (λ b. HasAt (code now) pc
        (if b then direct_items pc when t else value_items pc a push
        ++ many_items (pc + value_count a push) op bs when t) q) direct has) before le;
  }
    where
      count : ℕ
      count = operand_count a (operand_of a bs) + operands_count bs + same_count (operands_of bs)

      direct_items : ℕ → Bool → ℕ → List Item
      direct_items at when t = if_pushed (operand_of a bs) (value_items at a push) []
          ++ (operands_items (at + operand_count a (operand_of a bs)) bs
          ++ same_items (operand_of a bs) (operands_of bs)
          (at + operand_count a (operand_of a bs) + operands_count bs) (equality_when op when) t)

      counted : (at t : ℕ) → length (direct_items at true t) ≡ count
      counted at t =
          let o = operand_of a bs in
          let m = at + operand_count a o in
          let last = same_items o (operands_of bs) (m + operands_count bs) (equality_when op true) t in
          omega (
            arith,
            if_length o _ _ (value_length a push at),
            operands_length bs m,
            same_length o (operands_of bs) (m + operands_count bs) (equality_when op true) t,
            length-append (if_pushed o (value_items at a push) []) (operands_items m bs ++ last),
            length-append (operands_items m bs) last,
          )

  many_ok : (op : Equality) (a v : Value) (vs : Values) → ValueOk now a → ValueOk now v → AlsoOk vs
      → is_direct a (more v vs)
      ≡ false → ValueOk now (source.equal op a (more v vs))
  many_ok op a v vs oka okv okvs each = record {
    value = λ s n pc q words dest has le.
        condition now (source.equal op a (more v vs)) (value_count a push + many_count (more v vs))
        (λ at when t. value_items at a push ++ many_items (at + value_count a push) op (more v vs) when t)
        (λ at t. omega (
          arith,
          value_length a push at,
          many_length (more v vs) op true
              (at + value_count a push) t,
          length-append (value_items at a push)
              (many_items (at + value_count a push) op (more v vs) true t),
        ))
        (equal_condition now op a (more v vs)) (many_branches op a v vs oka okv okvs)
        (some_needed 0 (need_of a ∷ needs_of (more v vs))) s n pc q words dest
        (subst (λ b. HasAt (code now) pc
        (if b then truth_items pc
        (operand_count a (operand_of a (more v vs)) + operands_count (more v vs)
        + same_count (operands_of (more v vs))) dest
        (λ t. direct_items pc true t) else truth_items pc (value_count a push + many_count (more v vs)) dest
        (λ t. value_items pc a push ++ many_items (pc + value_count a push) op (more v vs) true t)) q) each
        has) le;
    branch = λ s n pc t q words when has before le.
        many_branches op a v vs oka okv okvs s n pc t q words when
        (subst (λ b. HasAt (code now) pc
        (if b then direct_items pc when t else value_items pc a push ++ many_items (pc + value_count a push) op
        (more v vs) when t) q) each has) before le;
  }
    where
      direct_items : ℕ → Bool → ℕ → List Item
      direct_items at when t = if_pushed (operand_of a (more v vs)) (value_items at a push) []
          ++ (operands_items (at + operand_count a (operand_of a (more v vs))) (more v vs)
          ++ same_items (operand_of a (more v vs)) (operands_of (more v vs))
          (at + operand_count a (operand_of a (more v vs)) + operands_count (more v vs)) (equality_when op when) t)

  -- of several alternatives, the first and the others
  abbrev pub SeveralOk : Values → Type 0
  SeveralOk none = Unit {0}
  SeveralOk (more v vs) = ValueOk now v × AlsoOk vs

  pub equal_ok : (op : Equality) (a : Value) (bs : Values) → ValueOk now a → ListOk now bs → SeveralOk bs
      → ValueOk now (source.equal op a bs)
  equal_ok op a none oka okbs several = direct_ok op a none oka okbs refl
  equal_ok op a (more v vs) oka okbs several = go (is_direct a (more v vs)) refl
    where
      go : (b : Bool) → is_direct a (more v vs) ≡ b → ValueOk now (source.equal op a (more v vs))
      go true direct = direct_ok op a (more v vs) oka okbs direct
      go false each = many_ok op a v vs oka several.0 several.1 each
