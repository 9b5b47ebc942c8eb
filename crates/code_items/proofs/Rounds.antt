-- What is written for `do`, `for` and `objectloop`.
use Rattle.std.proofs.Common.{◌≡◌, ℕ, ◌+◌, ◌-◌, ◌<◌, ◌≤◌, List, [], ◌∷◌, ◌++◌, length, slice_set, Bool, true, false, Option}
use Rattle.std.proofs.Common.{refl, sym, ap, ◌∙◌, arith, append_assoc, length-append, slice_index_or}
use Rattle.std.specs.Prelude.{not, if◌then◌else◌}
use Rattle.std.proofs.Math.Seq.{set-append_seam, get_or-append_seam}
use Rattle.syntax_trees.specs.declared.tree.Binary.TheVariants as binaries
use Rattle.syntax_trees.specs.declared.tree.Prefix.TheVariants as prefixes
use Rattle.syntax_trees.specs.declared.tree.Relative.TheVariants as relatives
use Rattle.meaning.specs.declared.resolved.Variable.{Variable}
use Rattle.meaning.specs.Resolved.{Value, Values, Action}
use Rattle.meaning.specs.Resolved as source
use Rattle.code_drafts.specs.Items.{Item, Operand, alone, if_pushed, push, value_count, value_items, branch_count}
use Rattle.code_drafts.specs.Items.{branch_items, is_one_test, last_back, is_direct, same_count, operand_of, operands_of}
use Rattle.code_drafts.specs.Items as items
use Rattle.code_drafts.specs.declared.wanted.Wanted.TheVariants.{Branch}
use Rattle.code_drafts.specs.Writing.{wanted_items, WritesBefore, in_order}
use Rattle.code_drafts.proofs.CountedForms.{joined}
use Rattle.code_drafts.proofs.Counts.{branch_length}
use Rattle.code_drafts.proofs.WrittenItems.{one, counted, both, as_items, then_one, turned_first}
use Rattle.code_items.specs.ValueWriting.{pushes}
use Rattle.code_items.proofs.Values.{pushes_length}
use Rattle.code_items.specs.Statements.{action_count, action_items, once_count, once_items, test_count, test_items}
use Rattle.code_items.specs.Statements.{for_items, exits_to, each_items, relative_items, children_items}
use Rattle.code_items.specs.Statements as statements
use Rattle.code_items.specs.declared.exits.Exits.{Exits}
use Rattle.code_items.specs.Writing.{exits_of}
use Rattle.code_items.proofs.StatementCounts.{action_length, once_length, test_length}

-- a condition of one test has at least the item of that
test_counted : (v : Value) → is_one_test v ≡ true → (when : Bool) → 0 < branch_count v when
test_counted (source.number n) single when = absurd (cc)
test_counted (source.prefixed prefixes.Not v) single when = test_counted v single (not when)
test_counted (source.binary binaries.AndAlso a b) single when = absurd (cc)
test_counted (source.binary binaries.OrElse a b) single when = absurd (cc)
test_counted (source.equal op a bs) single when = go (is_direct a bs)
  where
    some : (os : List Operand) → 0 < same_count os
    some [] = omega arith
    some (o ∷ []) = omega arith
    some (o ∷ p ∷ []) = omega arith
    some (o ∷ p ∷ q ∷ []) = omega arith
    some (o ∷ p ∷ q ∷ r ∷ os) = omega arith

    many : (vs : Values) → 0 < items.many_count vs
    many source.none = omega arith
    many (source.more w ws) = omega arith

    go : (b : Bool) → 0 < (if b then
        if_pushed (operand_of a bs) (value_count a push) 0 + items.operands_count bs + same_count (operands_of bs)
        else value_count a push + items.many_count bs)
    go true = omega (arith, some (operands_of bs))
    go false = omega (arith, many bs)
test_counted v single when = omega arith

-- what was written between, of which the first is turned back, and what was written after it
record Turned (c c1 c2 c3 : List Item) (f : ℕ → ℕ → List Item) (more : List Item) : Type 0 where
  between : List Item
  then_more : c3 ≡ between ++ more
  long : length between ≡ length c1
  turned : WritesBefore c between (λ n at. last_back (n - length c2) (f n at))

-- a round that ends in a way back to its first item
looped : (c c1 c2 c3 : List Item) (f : ℕ → ℕ → List Item) (k end : ℕ) → ((n at : ℕ) → length (f n at) ≡ k)
    → end ≡ length c → c1 ≡ c ++ items.back 0 ∷ [] → WritesBefore c1 c2 f
    → c3 ≡ slice_set c2 end (items.back (length c2))
    → WritesBefore c c3 (λ n at. f n at ++ items.back at ∷ [])
looped c c1 c2 c3 f k end long ee e1 w e3 =
    let there = items.back (length c2) in
    let whole : c2 ≡ c ++ items.back 0 ∷ w.more = w.is ∙ ap (λ l. l ++ w.more) e1
    ∙ append_assoc c (items.back 0 ∷ []) w.more in
    let led : c3 ≡ c ++ there ∷ w.more = e3 ∙ ap (λ l. slice_set l end there) whole
    ∙ ap (λ i. slice_set (c ++ items.back 0 ∷ w.more) i there) ee ∙ set-append_seam c (items.back 0) w.more there in
    let l3 : length c3 ≡ length c2 = ap length led
    ∙ omega (arith, length-append c (there ∷ w.more), length-append c (items.back 0 ∷ w.more))
    ∙ sym (ap length whole) in
    let w3 : WritesBefore (c ++ there ∷ []) c3 f =
    record {
      more = w.more;
      is = led ∙ sym (append_assoc c (there ∷ []) w.more);
      are = λ n le. w.are n (omega (arith, le, l3)) ∙ ap (λ i. f n (n - i)) (sym l3);
    } in
    as_items (λ n at h. let b : n - length c2 ≡ at = omega (arith, h, l3) in
    ap (λ b. f n at ++ items.back b ∷ []) b)
    (both k long (one c (c ++ there ∷ []) there refl) w3)

-- a `do`, of which the test is written so
abbrev do_items : Bool → Value → Action → ℕ → List Item
do_items single v a at =
    action_items (exits_to (at + action_count a) (at + action_count a + (if single then branch_count v true
    else branch_count v true + 1))) at a
    ++ (if single then last_back at (branch_items (at + action_count a) v true (at + action_count a + branch_count v true))
    else branch_items (at + action_count a) v true (at + action_count a + branch_count v true + 1) ++ items.back at ∷ [])

-- with a jump back
pub do_by_jump : (c c1 c2 c3 c4 : List Item) (v : Value) (a : Action) (x : Exits) → is_one_test v ≡ false
    → x.breaks ≡ length c → c1
    ≡ c ++ items.back 0 ∷ [] → WritesBefore c1 c2 (wanted_items (Branch true x.breaks) v) → x.continues ≡ length c2
    → WritesBefore c2 c3 (λ n at. action_items (exits_of n x) at a)
    → c4 ≡ slice_set c3 x.breaks (items.back (length c3)) → (y : Exits)
    → WritesBefore c c4 (λ n at. action_items (exits_of n y) at (source.do_until a v))
do_by_jump c c1 c2 c3 c4 v a x other ee e1 wv ec wa e4 y =
    let k = branch_count v true in
    let m = action_count a in
    let end = x.breaks in
    let long_v = λ (n at : ℕ). branch_length v true at (n - end) in
    let long_a = λ (n at : ℕ). action_length (exits_of n x) a at in
    let w = both m long_a wv wa in
    let long = λ (n at : ℕ). joined (action_items (exits_of n x) at a) (branch_items (at + m) v true (n - end)) m k
    (long_a n at) (long_v n (at + m)) in
    let l1 = counted 1 (λ n at. refl) (one c c1 (items.back 0) e1) in
    let l2 = counted k long_v wv in
    let around = looped c c1 c3 c4 _ (m + k) end long ee e1 w e4 in
    let l4 = counted (m + k + 1) (λ n at. joined _ (items.back at ∷ []) (m + k) 1 (long n at) refl) around in
    as_items (λ n at h.
    let t : n - end ≡ at + m + k + 1 = omega (arith, h, l4, ee) in
    let s : n - x.continues ≡ at + m = omega (arith, h, l1, l2, l4, ec) in
    let last : at + m + k + 1 ≡ at + m + (k + 1) = omega arith in
    ap (λ t. (action_items (exits_to (n - x.continues) t) at a ++ branch_items (at + m) v true t)
    ++ items.back at ∷ []) t
    ∙ ap (λ s. (action_items (exits_to s (at + m + k + 1)) at a ++ branch_items (at + m) v true (at + m + k + 1))
    ++ items.back at ∷ []) s
    ∙ append_assoc (action_items (exits_to (at + m) (at + m + k + 1)) at a)
    (branch_items (at + m) v true (at + m + k + 1)) (items.back at ∷ [])
    ∙ ap (λ l. action_items (exits_to (at + m) l) at a
    ++ (branch_items (at + m) v true (at + m + k + 1) ++ items.back at ∷ [])) last
    ∙ ap (λ single. do_items single v a at) (sym other))
    around

-- what is written first of these becomes a branch back to the first of what is written after it
turned_more : (c c1 c2 c3 : List Item) (f : ℕ → ℕ → List Item) (end : ℕ) → end ≡ length c → length c < length c1
    → WritesBefore c c1 f → (more : List Item) → c2 ≡ c1 ++ more
    → c3 ≡ slice_set c2 end (items.turned_back (length c2) (slice_index_or c2 end items.quit))
    → Turned c c1 c2 c3 f more
turned_more c c1 c2 c3 f end ee long w more e2 e3 = go w.more w.is w.are
  where
    go : (written : List Item) → c1 ≡ c ++ written
        → ((n : ℕ) → length c1 ≤ n → in_order n written ≡ f n (n - length c1)) → Turned c c1 c2 c3 f more
    go [] is are = absurd (omega (arith, long, ap length is, length-append c []))
    go (i ∷ rest) is are =
        let there = items.turned_back (length c2) i in
        let whole : c2 ≡ c ++ i ∷ (rest ++ more) = e2 ∙ ap (λ l. l ++ more) is ∙ append_assoc c (i ∷ rest) more in
        let found : slice_index_or c2 end items.quit ≡ i =
        ap (λ l. slice_index_or l end items.quit) whole
        ∙ ap (λ k. slice_index_or (c ++ i ∷ (rest ++ more)) k items.quit) ee
        ∙ get_or-append_seam c i (rest ++ more) items.quit in
        let led : c3 ≡ c ++ there ∷ (rest ++ more) =
        e3 ∙ ap (λ j. slice_set c2 end (items.turned_back (length c2) j)) found
        ∙ ap (λ l. slice_set l end there) whole ∙ ap (λ k. slice_set (c ++ i ∷ (rest ++ more)) k there) ee
        ∙ set-append_seam c i (rest ++ more) there in
        let ahead : c ++ there ∷ (rest ++ more) ≡ (c ++ there ∷ rest) ++ more =
        sym (append_assoc c (there ∷ rest) more) in
        record {
          between = c ++ there ∷ rest;
          then_more = led ∙ ahead;
          long = length-append c (there ∷ rest) ∙ sym (length-append c (i ∷ rest)) ∙ sym (ap length is);
          turned = record {
            more = there ∷ rest;
            is = refl;
            are = λ n le.
                let l : length (c ++ there ∷ rest) ≡ length c1 =
                length-append c (there ∷ rest) ∙ sym (length-append c (i ∷ rest)) ∙ sym (ap length is) in
                turned_first n (length c2) i rest
                ∙ ap (last_back (n - length c2)) (are n (omega (arith, le, l)))
                ∙ ap (λ k. last_back (n - length c2) (f n (n - k))) (sym l);
          };
        }

-- with a test that leads back itself
pub do_by_test : (c c1 c2 c3 : List Item) (v : Value) (a : Action) (x : Exits) → is_one_test v ≡ true
    → x.breaks ≡ length c → WritesBefore c c1 (wanted_items (Branch true x.breaks) v) → x.continues ≡ length c1
    → WritesBefore c1 c2 (λ n at. action_items (exits_of n x) at a)
    → c3 ≡ slice_set c2 x.breaks (items.turned_back (length c2) (slice_index_or c2 x.breaks items.quit)) → (y : Exits)
    → WritesBefore c c3 (λ n at. action_items (exits_of n y) at (source.do_until a v))
do_by_test c c1 c2 c3 v a x single ee wv ec wa e3 y =
    let k = branch_count v true in
    let m = action_count a in
    let end = x.breaks in
    let long_v = λ (n at : ℕ). branch_length v true at (n - end) in
    let long_a = λ (n at : ℕ). action_length (exits_of n x) a at in
    let l1 = counted k long_v wv in
    let l2 = counted m long_a wa in
    let some : 0 < k = test_counted v single true in
    let t = turned_more c c1 c2 c3 _ end ee (omega (arith, l1, some)) wv wa.more wa.is e3 in
    let l3 : length c3 ≡ length c2 =
    ap length t.then_more ∙ length-append t.between wa.more ∙ ap (λ j. j + length wa.more) t.long
    ∙ sym (length-append c1 wa.more) ∙ sym (ap length wa.is) in
    let body : WritesBefore t.between c3 (λ n at. action_items (exits_of n x) at a) =
    record {
      more = wa.more;
      is = t.then_more;
      are = λ n le. wa.are n (omega (arith, le, l3)) ∙ ap (λ j. action_items (exits_of n x) (n - j) a) (sym l3);
    } in
    as_items (λ n at h.
    let b : n - length c2 ≡ at = omega (arith, h, l3) in
    let e : n - end ≡ at + m + k = omega (arith, h, l1, l2, l3, ee) in
    let s : n - x.continues ≡ at + m = omega (arith, h, l2, l3, ec) in
    ap (λ b. action_items (exits_of n x) at a ++ last_back b (branch_items (at + m) v true (n - end))) b
    ∙ ap (λ e. action_items (exits_to (n - x.continues) e) at a ++ last_back at (branch_items (at + m) v true e)) e
    ∙ ap (λ s. action_items (exits_to s (at + m + k)) at a ++ last_back at (branch_items (at + m) v true (at + m + k)))
    s
    ∙ ap (λ b. do_items b v a at) (sym single))
    (both m long_a t.turned body)

-- what was written first of the test is there when the body is written
pub do_turns : (c c1 c2 : List Item) (v : Value) (a : Action) (x : Exits) (end : ℕ) → is_one_test v ≡ true
    → end ≡ length c → WritesBefore c c1 (wanted_items (Branch true end) v)
    → WritesBefore c1 c2 (λ n at. action_items (exits_of n x) at a) → end < length c2
do_turns c c1 c2 v a x end single ee wv wa =
    omega (
      arith,
      ee,
      counted (branch_count v true) (λ n at. branch_length v true at (n - end)) wv,
      counted (action_count a) (λ n at. action_length (exits_of n x) a at) wa,
      test_counted v single true,
    )

-- the test, the body, and what is done after each round
rounds_more : (c c1 c2 c3 c4 c5 : List Item) (test behind : Option Value) (a : Action) (x : Exits) → x.breaks
    ≡ length c → c1 ≡ c ++ items.back 0 ∷ [] → WritesBefore c1 c2 (λ n at. once_items at behind) → x.continues
    ≡ length c2 → WritesBefore c2 c3 (λ n at. action_items (exits_of n x) at a)
    → WritesBefore c3 c4 (λ n at. test_items at test (n - x.breaks))
    → c5 ≡ slice_set c4 x.breaks (items.back (length c4))
    → WritesBefore c c5 (λ n at. for_items at (test_count test) (action_count a) (once_count behind)
    (λ end. test_items at test end) (λ inside place. action_items inside place a) (λ place. once_items place behind))
rounds_more c c1 c2 c3 c4 c5 test behind a x ee e1 wb ec wa wt e5 =
    let k = test_count test in
    let m = action_count a in
    let d = once_count behind in
    let end = x.breaks in
    let long_b = λ (n at : ℕ). once_length behind at in
    let long_a = λ (n at : ℕ). action_length (exits_of n x) a at in
    let long_t = λ (n at : ℕ). test_length test at (n - end) in
    let w = both k long_t (both m long_a wb wa) wt in
    let long = λ (n at : ℕ). joined (test_items at test (n - end)) _ k (m + d) (long_t n at)
    (joined (action_items (exits_of n x) (at + k) a) (once_items (at + k + m) behind) m d (long_a n (at + k))
    (long_b n (at + k + m))) in
    let l1 = counted 1 (λ n at. refl) (one c c1 (items.back 0) e1) in
    let l2 = counted d long_b wb in
    let around = looped c c1 c4 c5 _ (k + (m + d)) end long ee e1 w e5 in
    let l5 = counted (k + (m + d) + 1) (λ n at. joined _ (items.back at ∷ []) (k + (m + d)) 1 (long n at) refl)
    around in
    as_items (λ n at h.
    let t : n - end ≡ at + k + m + d + 1 = omega (arith, h, l5, ee) in
    let s : n - x.continues ≡ at + k + m = omega (arith, h, l1, l2, l5, ec) in
    let last = once_items (at + k + m) behind in
    let back = items.back at ∷ [] in
    let stop = at + k + m + d + 1 in
    ap (λ t. (test_items at test t ++ (action_items (exits_to (n - x.continues) t) (at + k) a ++ last)) ++ back) t
    ∙ ap (λ s. (test_items at test stop ++ (action_items (exits_to s stop) (at + k) a ++ last)) ++ back) s
    ∙ append_assoc (test_items at test stop) (action_items (exits_to (at + k + m) stop) (at + k) a ++ last) back
    ∙ ap (λ l. test_items at test stop ++ l)
    (append_assoc (action_items (exits_to (at + k + m) stop) (at + k) a) last back))
    around

pub for_more : (c c1 c2 c3 c4 c5 c6 : List Item) (before test behind : Option Value) (a : Action) (x : Exits)
    → x.breaks ≡ length c → c1 ≡ c ++ items.back 0 ∷ [] → WritesBefore c1 c2 (λ n at. once_items at behind)
    → x.continues ≡ length c2 → WritesBefore c2 c3 (λ n at. action_items (exits_of n x) at a)
    → WritesBefore c3 c4 (λ n at. test_items at test (n - x.breaks))
    → c5 ≡ slice_set c4 x.breaks (items.back (length c4)) → WritesBefore c5 c6 (λ n at. once_items at before)
    → (y : Exits) → WritesBefore c c6 (λ n at. action_items (exits_of n y) at (source.for_loop before test behind a))
for_more c c1 c2 c3 c4 c5 c6 before test behind a x ee e1 wb ec wa wt e5 wf y =
    both (once_count before) (λ n at. once_length before at)
    (rounds_more c c1 c2 c3 c4 c5 test behind a x ee e1 wb ec wa wt e5) wf

-- `objectloop` over all objects, whose rounds have k items
pub each_more : (c c1 c2 c3 c4 : List Item) (y : Variable) (k : ℕ) (run : statements.Exits → ℕ → List Item) (x : Exits)
    (end : ℕ) → ((e : statements.Exits) (at : ℕ) → length (run e at) ≡ k) → end ≡ length c
    → c1 ≡ c ++ items.back 0 ∷ items.next_object y (length c) ∷ [] → x.breaks ≡ length c → x.continues ≡ length c1
    → WritesBefore c1 c2 (λ n at. run (exits_of n x) at) → c3 ≡ slice_set c2 end (items.back (length c2))
    → c4 ≡ c3 ++ items.first_object y end ∷ [] → WritesBefore c c4 (λ n at. each_items at y k run)
each_more c c1 c2 c3 c4 y k run x end long ee e1 eb ec w e3 e4 =
    let next = items.next_object y (length c) in
    let c0 = c ++ items.back 0 ∷ [] in
    let wn = one c0 c1 next (e1 ∙ sym (append_assoc c (items.back 0 ∷ []) (next ∷ []))) in
    let long_r = λ (n at : ℕ). long (exits_of n x) at in
    let wr = both k long_r wn w in
    let long_n = λ (n at : ℕ). joined (run (exits_of n x) at) (items.next_object y (n - length c) ∷ []) k 1
    (long_r n at) refl in
    let around = looped c c0 c2 c3 _ (k + 1) end long_n ee refl wr e3 in
    let long_w = λ (n at : ℕ). joined _ (items.back at ∷ []) (k + 1) 1 (long_n n at) refl in
    let l1 : length c1 ≡ length c + 2 = ap length e1 ∙ length-append c (items.back 0 ∷ next ∷ []) in
    let l3 = counted (k + 1 + 1) long_w around in
    let whole = then_one (items.first_object y end) around e4 in
    let l4 = counted (k + 3) (λ n at. omega (arith, long_w n (at + 1))) whole in
    as_items (λ n at h.
    let f : n - end ≡ at + 1 + k + 2 = omega (arith, h, l4, ee) in
    let t : n - length c ≡ at + 1 + k + 2 = omega (arith, h, l4) in
    let b : n - x.breaks ≡ at + 1 + k + 2 = omega (arith, h, l4, eb) in
    let s : n - x.continues ≡ at + 1 + k = omega (arith, h, l1, l4, ec) in
    let stop = at + 1 + k + 2 in
    let back = items.back (at + 1) ∷ [] in
    ap (λ f. items.first_object y f
    ∷ (run (exits_to (n - x.continues) (n - x.breaks)) (at + 1) ++ items.next_object y (n - length c) ∷ []) ++ back) f
    ∙ ap (λ b. items.first_object y stop
    ∷ (run (exits_to (n - x.continues) b) (at + 1) ++ items.next_object y (n - length c) ∷ []) ++ back) b
    ∙ ap (λ t. items.first_object y stop
    ∷ (run (exits_to (n - x.continues) stop) (at + 1) ++ items.next_object y t ∷ []) ++ back) t
    ∙ ap (λ s. items.first_object y stop
    ∷ (run (exits_to s stop) (at + 1) ++ items.next_object y stop ∷ []) ++ back) s
    ∙ ap (λ l. items.first_object y stop ∷ l)
    (append_assoc (run (exits_to (at + 1 + k) stop) (at + 1)) (items.next_object y stop ∷ []) back))
    whole

-- of which only those rounds are done where a test holds
pub each_where_more : (c c1 c2 c3 c4 c5 : List Item) (y : Variable) (v : Value) (a : Action) (x : Exits)
    (end : ℕ) → end ≡ length c
    → c1 ≡ c ++ items.back 0 ∷ items.next_object y (length c) ∷ [] → x.breaks ≡ length c → x.continues ≡ length c1
    → WritesBefore c1 c2 (λ n at. action_items (exits_of n x) at a)
    → WritesBefore c2 c3 (wanted_items (Branch false x.continues) v)
    → c4 ≡ slice_set c3 end (items.back (length c3)) → c5 ≡ c4 ++ items.first_object y end ∷ []
    → (z : Exits) → WritesBefore c c5 (λ n at. action_items (exits_of n z) at (source.each_where y v a))
each_where_more c c1 c2 c3 c4 c5 y v a x end ee e1 eb ec wa wv e4 e5 z =
    let k = branch_count v false in
    let m = action_count a in
    let long_v = λ (n at : ℕ). branch_length v false at (n - x.continues) in
    let long_a = λ (n at : ℕ). action_length (exits_of n x) a at in
    let l2 = counted m long_a wa in
    let l3 = counted k long_v wv in
    let w : WritesBefore c1 c3 (λ n at. branch_items at v false (at + k + m)
    ++ action_items (exits_of n x) (at + k) a) =
    as_items (λ n at h. let s : n - x.continues ≡ at + k + m = omega (arith, h, l2, l3, ec) in
    ap (λ s. branch_items at v false s ++ action_items (exits_of n x) (at + k) a) s) (both k long_v wa wv) in
    each_more c c1 c3 c4 c5 y (k + m)
    (λ inside place. branch_items place v false (place + k + m) ++ action_items inside (place + k) a) x end
    (λ e at. joined _ _ k m (branch_length v false at (at + k + m)) (action_length e a (at + k))) ee e1 eb ec w e4 e5

-- `objectloop` over children, whose rounds have k items, after what pushes their parent
pub children_more : (c c1 c2 c3 c4 c5 : List Item) (y : Variable) (o : Operand) (a : Action) (x : Exits)
    → x.breaks ≡ length c → c1 ≡ c ++ items.back 0 ∷ []
    → WritesBefore c1 c2 (λ n at. relative_items relatives.Sibling (items.variable y) y (n - x.breaks))
    → x.continues ≡ length c2 → WritesBefore c2 c3 (λ n at. action_items (exits_of n x) at a)
    → c4 ≡ slice_set c3 x.breaks (items.back (length c3))
    → WritesBefore c4 c5 (λ n at. relative_items relatives.Child o y (n - x.breaks))
    → WritesBefore c c5 (λ n at. children_items at y o (action_count a) (λ inside place. action_items inside place a))
children_more c c1 c2 c3 c4 c5 y o a x eb e1 ws ec wa e4 wc =
    let k = action_count a in
    let end = x.breaks in
    let long_a = λ (n at : ℕ). action_length (exits_of n x) a at in
    let w = both k long_a ws wa in
    let long = λ (n at : ℕ). joined (action_items (exits_of n x) at a)
    (relative_items relatives.Sibling (items.variable y) y (n - end)) k 3 (long_a n at) refl in
    let around = looped c c1 c3 c4 _ (k + 3) end long eb e1 w e4 in
    let long_w = λ (n at : ℕ). joined _ (items.back at ∷ []) (k + 3) 1 (long n at) refl in
    let l1 = counted 1 (λ n at. refl) (one c c1 (items.back 0) e1) in
    let l2 = counted 3 (λ n at. refl) ws in
    let l4 = counted (k + 3 + 1) long_w around in
    let l5 = counted 3 (λ n at. refl) wc in
    as_items (λ n at h.
    let t : n - end ≡ at + 3 + k + 4 = omega (arith, h, l4, l5, eb) in
    let s : n - x.continues ≡ at + 3 + k = omega (arith, h, l1, l2, l4, l5, ec) in
    let stop = at + 3 + k + 4 in
    let back = items.back (at + 3) ∷ [] in
    ap (λ t. relative_items relatives.Child o y t
    ++ ((action_items (exits_to (n - x.continues) t) (at + 3) a
    ++ relative_items relatives.Sibling (items.variable y) y t) ++ back)) t
    ∙ ap (λ s. relative_items relatives.Child o y stop
    ++ ((action_items (exits_to s stop) (at + 3) a
    ++ relative_items relatives.Sibling (items.variable y) y stop) ++ back)) s
    ∙ ap (λ l. relative_items relatives.Child o y stop ++ l)
    (append_assoc (action_items (exits_to (at + 3 + k) stop) (at + 3) a)
    (relative_items relatives.Sibling (items.variable y) y stop) back))
    (both 3 (λ n at. refl) around wc)

pub each_in_more : (c c1 c2 c3 c4 c5 c6 : List Item) (y : Variable) (o : Operand) (v : Value) (a : Action) (x : Exits)
    → x.breaks ≡ length c → c1 ≡ c ++ items.back 0 ∷ []
    → WritesBefore c1 c2 (λ n at. relative_items relatives.Sibling (items.variable y) y (n - x.breaks))
    → x.continues ≡ length c2 → WritesBefore c2 c3 (λ n at. action_items (exits_of n x) at a)
    → c4 ≡ slice_set c3 x.breaks (items.back (length c3)) → o ≡ alone v
    → WritesBefore c4 c5 (λ n at. relative_items relatives.Child o y (n - x.breaks)) → WritesBefore c5 c6 (pushes o v)
    → (z : Exits) → WritesBefore c c6 (λ n at. action_items (exits_of n z) at (source.each_in y v a))
each_in_more c c1 c2 c3 c4 c5 c6 y o v a x eb e1 ws ec wa e4 eo wc wv z =
    as_items (λ n at _. ap (λ p. if_pushed p (value_items at v push) []
    ++ children_items (at + if_pushed p (value_count v push) 0) y p (action_count a)
    (λ inside place. action_items inside place a)) eo)
    (both (if_pushed o (value_count v push) 0) (λ n at. pushes_length o v n at)
    (children_more c c1 c2 c3 c4 c5 y o a x eb e1 ws ec wa e4 wc) wv)
