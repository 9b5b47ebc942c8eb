-- What a run does at one item.
use Rattle.std.proofs.Common.{◌≡◌, ℕ, ◌+◌, ◌<◌, ◌≤◌, List, [], ◌∷◌, length, Option, Some, None, Bool, true, false, refl, sym, ap, ◌∙◌}
use Rattle.std.proofs.Common.{subst}
use Rattle.std.specs.Prelude.{not, if◌then◌else◌, slice_get}
use Rattle.std.proofs.lemmas.Bool.{lt-ltb}
use Rattle.meaning.specs.World.{Outcome, Situation, Comes, to, over, Part, ◌>>=◌, give, with_value}
use Rattle.meaning.specs.Meaning.{truth, is_true}
use Rattle.code_drafts.specs.Items.{Item, Operand, pushed, number, Destination, push, into, aside, nowhere, Test}
use Rattle.code_drafts.specs.Items.{is_zero, branch_true, agrees, move_items}
use Rattle.code_drafts.specs.Items as items
use Rattle.code_items.specs.Stack.{Next, goes, stuck, with_operand, deliver, after_part, holds, act}
use Rattle.code_items.specs.Stack as stack
use Rattle.code_items.proofs.Acts.{hand, Lower, Kept, Keeps, keeps_give}
use Rattle.code_items.proofs.Running.{ends_there, steps_on, Running, code, RunsTo}
use Rattle.code_items.proofs.Standing.{HasAt}
use Rattle.code_items.proofs.Conditions.{zero_agrees, truth_back}
use Rattle.code_items.proofs.Held.{AllHeld, onto_all, with_all_held}
use Rattle.code_items.proofs.Leads.{Leads, on, given, then_to, here, stands, lands, goes_by, delivers, at_place}
use Rattle.code_items.proofs.Leads.{begins_at, here_with}

module _ (now : Running) where
  open now use {p, full}

  -- one item that gives a word, from where a word was put aside, or none
  pub one_with : {s : Situation} {n : ℕ} (w : Option ℕ) (m : ℕ) (words : List ℕ) (d : Destination) (i : Item)
      (f : Part ℕ) (before : List ℕ)
      → slice_get (code now) m ≡ Some i
      → act p full (Some i) (here_with now w m before s) ≡ after_part (f s)
      (λ v last. deliver d v (here now (m + 1) words last))
      → Keeps full f → length words + 1 ≤ 48
      → Leads now s n (goes (here_with now w m before s)) (f s) (lands now d (m + 1) words)
  one_with {s = s} w m words d i f before h e keeps le =
      record {
        does = λ k _ hd. steps_on p full (here_with now w m before s) _ _
            (ap (λ x. act p full x (here_with now w m before s)) h ∙ e)
            (reach k (f s) hd (keeps s));
      }
    where
      reach : (k : ℕ → Situation → Outcome) (c : Comes ℕ)
          → ((v : ℕ) (last : Situation) → c ≡ to v last → Lower full s last
          → RunsTo p full (lands now d (m + 1) words v last) (k v last)) → Kept full s c
          → RunsTo p full (after_part c (λ v last. deliver d v (here now (m + 1) words last))) (hand c k)
      reach k (to v last) hd low = delivers now d (m + 1) words v last (k v last) le (hd v last refl low)
      reach k (over outcome) hd low = ends_there p full outcome

  pub one : {s : Situation} {n : ℕ} (m : ℕ) (words : List ℕ) (d : Destination) (i : Item) (f : Part ℕ)
      (before : List ℕ)
      → slice_get (code now) m ≡ Some i
      → act p full (Some i) (here now m before s) ≡ after_part (f s)
      (λ v last. deliver d v (here now (m + 1) words last))
      → Keeps full f → length words + 1 ≤ 48 → Leads now s n (stands now m before s) (f s) (lands now d (m + 1) words)
  one m words d i f before h e keeps le = one_with None m words d i f before h e keeps le

  -- one item that prints
  pub puts : {s : Situation} {n : ℕ} (m : ℕ) (words : List ℕ) (i : Item) (f : Part (Unit {0})) (before : List ℕ)
      → slice_get (code now) m ≡ Some i
      → act p full (Some i) (here now m before s) ≡ after_part (f s) (λ _ last. goes (here now (m + 1) words last))
      → Keeps full f → Leads now s n (stands now m before s) (f s) (λ _ last. stands now (m + 1) words last)
  puts {s = s} m words i f before h e keeps =
      record {
        does = λ k _ hd. steps_on p full (here now m before s) _ _ (ap (λ x. act p full x (here now m before s)) h ∙ e)
            (reach k (f s) hd (keeps s));
      }
    where
      reach : (k : Unit {0} → Situation → Outcome) (c : Comes (Unit {0}))
          → ((v : Unit {0}) (last : Situation) → c ≡ to v last → Lower full s last
          → RunsTo p full (stands now (m + 1) words last) (k v last)) → Kept full s c
          → RunsTo p full (after_part c (λ _ last. goes (here now (m + 1) words last))) (hand c k)
      reach k (to v last) hd low = hd v last refl low
      reach k (over outcome) hd low = ends_there p full outcome

  -- one item that changes no more than the stack
  pub steps : {A : Type 0} {s : Situation} {n : ℕ} {c : Comes A} {behind : A → Situation → Next} (m q : ℕ)
      (before words : List ℕ) (i : Item) → slice_get (code now) m ≡ Some i
      → act p full (Some i) (here now m before s) ≡ stands now q words s → Leads now s n (stands now q words s) c behind
      → Leads now s n (stands now m before s) c behind
  steps {s = s} m q before words i h e l =
      record {
        does = λ k le d. steps_on p full (here now m before s) _ _ (ap (λ x. act p full x (here now m before s)) h ∙ e)
            (l.does k le d);
      }

  leads_on : (m t : ℕ) (words : List ℕ) (s : Situation) → m < t → stack.jump_forward t (here now m words s)
      ≡ stands now t words s
  leads_on m t words s lt = ap (λ b. if b then stands now t words s else stuck) (lt-ltb m t lt)

  pub jumps : {A : Type 0} {s : Situation} {n : ℕ} {c : Comes A} {behind : A → Situation → Next} (m t : ℕ)
      (words : List ℕ) → slice_get (code now) m ≡ Some (items.jump t) → m < t
      → Leads now s n (stands now t words s) c behind
      → Leads now s n (stands now m words s) c behind
  jumps {s = s} m t words h lt l = steps m t words words (items.jump t) h (leads_on m t words s lt) l

  -- one branch
  pub branches : {A : Type 0} {s : Situation} {n : ℕ} {c : Comes A} {behind : A → Situation → Next} (m t : ℕ)
      (b : Bool)
      (before words : List ℕ) (i : Item) → slice_get (code now) m ≡ Some i → m < t
      → act p full (Some i) (here now m before s) ≡ stack.branch b t words (here now m before s)
      → Leads now s n (stands now (if b then t else m + 1) words s) c behind
      → Leads now s n (stands now m before s) c behind
  branches {s = s} m t true before words i h lt e l = steps m t before words i h (e ∙ leads_on m t words s lt) l
  branches {s = s} m t false before words i h lt e l = steps m (m + 1) before words i h e l

  -- a branch, of which the outcome is known
  pub decided : {s : Situation} {n : ℕ} (v : ℕ) (when b : Bool) (t m q : ℕ) (words : List ℕ) → agrees (is_true v) when
      ≡ b → m ≡ q → Leads now s n (stands now (if b then t else m) words s) (to v s) (goes_by now when t q words)
  decided {s = s} {n = n} v when b t m q words e same_place =
      subst (λ x. Leads now s n (stands now (if b then t else x) words s) (to v s) (goes_by now when t q words))
      (sym same_place)
      (subst (λ x. Leads now s n (stands now (if x then t else q) words s) (to v s) (goes_by now when t q words)) e
      (given now {behind = goes_by now when t q words} v))

  -- one branch by operands
  pub tests : {s : Situation} {n : ℕ} (m t q : ℕ) (words : List ℕ) (test : Test) (os : List Operand) (vs : List ℕ)
      (w when : Bool) (v : ℕ) → slice_get (code now) m ≡ Some (items.branch test os w t) → m < t → m + 1 ≡ q
      → AllHeld os vs s → agrees (is_true v) when ≡ agrees (holds test vs) w
      → Leads now s n (stands now m (onto_all os vs words) s) (to v s) (goes_by now when t q words)
  tests {s = s} m t q words test os vs w when v h lt e held is =
      branches m t (agrees (holds test vs) w) (onto_all os vs words) words (items.branch test os w t) h lt
      (with_all_held os vs s words
      (λ taken rest. stack.branch (agrees (holds test taken) w) t rest (here now m (onto_all os vs words) s)) held)
      (decided v when (agrees (holds test vs) w) t (m + 1) q words is e)

  -- a word, and a branch by it
  pub by_word : {s : Situation} {n : ℕ} {before : Next} (c : Comes ℕ) (m t q : ℕ) (words : List ℕ) (when : Bool)
      → Leads now s n before c (lands now push m words) → slice_get (code now) m ≡ Some (branch_true pushed when t)
      → m < t
      → m + 1 ≡ q → Leads now s n before c (goes_by now when t q words)
  by_word c m t q words when l h lt e =
      then_to now c l (λ v last _. tests m t q words is_zero (pushed ∷ []) (v ∷ []) (not when) when v h lt e (tt, tt)
      (sym (zero_agrees v when)))

  -- an operand that stands in place is moved
  pub moved_does : {s : Situation} {n : ℕ} (o : Operand) (v : ℕ) (d : Destination) (pc q : ℕ) (words : List ℕ)
      → HasAt (code now) pc (move_items o d) q → ((k : ℕ → List ℕ → Next) → with_operand o s words k ≡ k v words)
      → length words + 1 ≤ 48 → Leads now s n (stands now pc words s) (to v s) (lands now d q words)
  moved_does o v nowhere pc q words has e le =
      begins_at now q pc words (sym has) (given now {behind = lands now nowhere q words} v)
  moved_does o v push pc q words has e le = at_place now (λ x. lands now push x words) (pc + 1) q has.1
      (one pc words push (items.move o push) (give v) words has.0
      (e (λ v rest. deliver push v (here now (pc + 1) rest _))) (keeps_give full v) le)
  moved_does o v (into x) pc q words has e le = at_place now (λ y. lands now (into x) y words) (pc + 1) q has.1
      (one pc words (into x) (items.move o (into x)) (give v) words has.0
      (e (λ v rest. deliver (into x) v (here now (pc + 1) rest _))) (keeps_give full v) le)
  moved_does o v aside pc q words has e le = at_place now (λ y. lands now aside y words) (pc + 1) q has.1
      (one pc words aside (items.move o aside) (give v) words has.0
      (e (λ v rest. deliver aside v (here now (pc + 1) rest _))) (keeps_give full v) le)

  -- one item `move` of a number
  pub number_does : {s : Situation} {n : ℕ} (w : ℕ) (d : Destination) (m : ℕ) (words : List ℕ)
      → slice_get (code now) m
      ≡ Some (items.move (number w) d) → length words + 1 ≤ 48
      → Leads now s n (stands now m words s) (to w s) (lands now d (m + 1) words)
  number_does w d m words h le = one m words d (items.move (number w) d) (give w) words h refl (keeps_give full w) le

  -- a jump after a word that is where it is to go
  pub jumps_after : {s : Situation} {n : ℕ} {before : Next} {c : Comes ℕ} (d : Destination) (m t : ℕ) (words : List ℕ)
      → slice_get (code now) m ≡ Some (items.jump t) → m < t → Leads now s n before c (lands now d m words)
      → Leads now s n before c (lands now d t words)
  jumps_after {c = c} push m t words h lt l =
      then_to now c l (λ v last _. jumps m t (v ∷ words) h lt (given now {behind = lands now push t words} v))
  jumps_after {c = c} (into x) m t words h lt l =
      record {
        does = λ k le d. l.does k le
            (λ v last e low. steps_on p full (here now m words (with_value x v last)) _ _
            (ap (λ i. act p full i (here now m words (with_value x v last))) h
            ∙ leads_on m t words (with_value x v last) lt)
            (d v last e low));
      }
  jumps_after {c = c} aside m t words h lt l =
      record {
        does = λ k le d. l.does k le
            (λ v last e low. steps_on p full (here_with now (Some v) m words last) _ _
            (ap (λ i. act p full i (here_with now (Some v) m words last)) h
            ∙ ap (λ b. if b then goes (here_with now (Some v) t words last) else stuck) (lt-ltb m t lt))
            (d v last e low));
      }
  jumps_after {c = c} nowhere m t words h lt l =
      then_to now c l (λ v last _. jumps m t words h lt (given now {behind = lands now nowhere t words} v))

  -- one item that tells whether a condition holds, and leads ahead where it does, or where it does not
  pub decides : {s : Situation} {n : ℕ} (m t q : ℕ) (before words : List ℕ) (i : Item) (f : Part Bool) (w : Bool)
      → slice_get (code now) m ≡ Some i
      → act p full (Some i) (here now m before s) ≡ stack.decides f w t words (here now m before s)
      → Keeps full f → m < t → m + 1 ≡ q
      → Leads now s n (stands now m before s) (f s) (λ so last. stands now (if agrees so w then t else q) words last)
  decides {s = s} m t q before words i f w h e keeps lt is =
      record {
        does = λ k _ hd. steps_on p full (here now m before s) _ _ (ap (λ x. act p full x (here now m before s)) h ∙ e)
            (reach k (f s) hd (keeps s));
      }
    where
      goes_there : (b : Bool) (last : Situation) → stack.branch b t words (here now m before last)
          ≡ stands now (if b then t else q) words last
      goes_there true last = leads_on m t words last lt
      goes_there false last = ap (λ x. stands now x words last) is

      reach : (k : Bool → Situation → Outcome) (c : Comes Bool)
          → ((so : Bool) (last : Situation) → c ≡ to so last → Lower full s last
          → RunsTo p full (stands now (if agrees so w then t else q) words last) (k so last)) → Kept full s c
          → RunsTo p full (after_part c (λ so last. stack.branch (agrees so w) t words (here now m before last)))
          (hand c k)
      reach k (to so last) hd low =
          subst (λ x. RunsTo p full x (k so last)) (sym (goes_there (agrees so w) last)) (hd so last refl low)
      reach k (over outcome) hd low = ends_there p full outcome

  -- and a branch by the word of the condition, 1 or 0
  pub tells : {s : Situation} {n : ℕ} (m t q : ℕ) (before words : List ℕ) (i : Item) (f : Part Bool)
      (turned : Bool → Bool) (w when : Bool) → slice_get (code now) m ≡ Some i
      → act p full (Some i) (here now m before s) ≡ stack.decides f w t words (here now m before s)
      → Keeps full f → m < t → m + 1 ≡ q → ((so : Bool) → agrees (turned so) when ≡ agrees so w)
      → Leads now s n (stands now m before s) ((f >>= λ so. give (truth (turned so))) s) (goes_by now when t q words)
  tells m t q before words i f turned w when h e keeps lt is asks =
      on now f _ (decides m t q before words i f w h e keeps lt is) (λ so last _.
      decided (truth (turned so)) when (agrees so w) t q q words
      (ap (λ b. agrees b when) (truth_back (turned so)) ∙ asks so) refl)
