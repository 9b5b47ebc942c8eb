-- A run leads from one place of a routine to another.
use Rattle.std.proofs.Common.{◌≡◌, ℕ, ◌+◌, ◌≤◌, List, ◌∷◌, length, Option, Some, None, Bool, refl, ap, ◌∙◌, subst, arith}
use Rattle.std.specs.Prelude.{if◌then◌else◌}
use Rattle.meaning.specs.World.{Outcome, Situation, Comes, to, Part, bound, ◌>>=◌, units, with_value}
use Rattle.meaning.specs.Meaning.{is_true}
use Rattle.code_drafts.specs.Items.{Destination, push, into, aside, nowhere, agrees}
use Rattle.code_items.specs.Stack.{Next, goes, deliver, ItemState}
use Rattle.code_items.proofs.Acts.{hand, hand_bound, Lower, bound_bound}
use Rattle.code_items.proofs.Running.{fits, Running, RunsTo}

module _ (now : Running) where
  open now use {p, full, routine, callers}

  -- From a place, in a situation with at most n units left, the run does what a part comes to there, and comes to
  -- another place with it.
  pub record Leads {A : Type 0} (s : Situation) (n : ℕ) (before : Next) (c : Comes A)
      (behind : A → Situation → Next) : Type 0 where
    pub does : (k : A → Situation → Outcome) → units full s.world ≤ n
        → ((a : A) (last : Situation) → c ≡ to a last → Lower full s last → RunsTo p full (behind a last) (k a last))
        → RunsTo p full before (hand c k)

  -- what follows may know what the first part came to
  pub on : {A B : Type 0} {s : Situation} {n : ℕ} {before : Next} {middle : A → Situation → Next}
      {behind : B → Situation → Next} (f : Part A) (g : A → Part B) → Leads s n before (f s) middle
      → ((a : A) (last : Situation) → f s ≡ to a last → Leads last n (middle a last) (g a last) behind)
      → Leads s n before ((f >>= g) s) behind
  on {s = s} {before = before} f g hf hg = record {
    does = λ k le d. subst (RunsTo p full before) (hand_bound (f s) g k) (hf.does (λ a last. hand (g a last) k) le
        (λ a last e low. (hg a last e).does k (omega (arith, le, low))
        (λ b end e2 low2. d b end (ap (λ c. bound c g) e ∙ e2) (omega (arith, low, low2)))));
  }

  pub given : {A : Type 0} {s : Situation} {n : ℕ} {behind : A → Situation → Next} (a : A)
      → Leads s n (behind a s) (to a s) behind
  given {s = s} a = record { does = λ k le d. d a s refl (omega arith) }

  came_on : {A : Type 0} (s : Situation) (c : Comes A) (behind : A → Situation → Next) (k : A → Situation → Outcome)
      (a : A) (last : Situation) → c ≡ to a last → Lower full s last
      → ((a : A) (last : Situation) → c ≡ to a last → Lower full s last → RunsTo p full (behind a last) (k a last))
      → (b : A) (end : Situation) → to a last ≡ to b end → RunsTo p full (behind b end) (k b end)
  came_on s c behind k a last e low d b end e2 = let x : a ≡ b = cc in let y : last ≡ end = cc in
      subst (λ z. RunsTo p full (behind z end) (k z end)) x
      (subst (λ z. RunsTo p full (behind a z) (k a z)) y (d a last e low))

  -- and then to another place
  pub then_to : {A : Type 0} {s : Situation} {n : ℕ} {before : Next} {middle behind : A → Situation → Next}
      (c : Comes A)
      → Leads s n before c middle
      → ((a : A) (last : Situation) → c ≡ to a last → Leads last n (middle a last) (to a last) behind)
      → Leads s n before c behind
  then_to {s = s} {behind = behind} c hc hg =
      record {
        does = λ k le d. hc.does k le
            (λ a last e low. (hg a last e).does k (omega (arith, le, low))
            (λ b end e2 low2. came_on s c behind k a last e low d b end e2));
      }

  pub as_part : {A : Type 0} {s : Situation} {n : ℕ} {before : Next} {behind : A → Situation → Next} (c e : Comes A)
      → c
      ≡ e → Leads s n before c behind → Leads s n before e behind
  as_part {s = s} {n = n} {before = before} {behind = behind} c e is l = subst (λ x. Leads s n before x behind) is l

  pub regroup : {A B C : Type 0} {s : Situation} {n : ℕ} {before : Next} {behind : C → Situation → Next} (f : Part A)
      (g : A → Part B) (h : B → Part C) → Leads s n before ((f >>= λ a. (g a >>= h)) s) behind
      → Leads s n before (((f >>= g) >>= h) s) behind
  regroup {s = s} f g h l = as_part _ _ (bound_bound (f s) g h) l

  abbrev pub here : ℕ → List ℕ → Situation → ItemState
  here pc words s =
      record { routine = routine; place = pc; stack = words; put_aside = None; callers = callers; situation = s }

  abbrev pub stands : ℕ → List ℕ → Situation → Next
  stands pc words s = goes (here pc words s)

  -- the same with a word that was put aside, or none
  abbrev pub here_with : Option ℕ → ℕ → List ℕ → Situation → ItemState
  here_with w pc words s = record (here pc words s) { put_aside = w }

  -- a word is where it is to go
  abbrev pub lands : Destination → ℕ → List ℕ → ℕ → Situation → Next
  lands push q words v s = stands q (v ∷ words) s
  lands (into x) q words v s = stands q words (with_value x v s)
  lands aside q words v s = goes (here_with (Some v) q words s)
  lands nowhere q words v s = stands q words s

  -- at the target, or at the next place
  abbrev pub goes_by : Bool → ℕ → ℕ → List ℕ → ℕ → Situation → Next
  goes_by when t q words v s = stands (if agrees (is_true v) when then t else q) words s

  pub delivers : (d : Destination) (q : ℕ) (words : List ℕ) (v : ℕ) (s : Situation) (o : Outcome)
      → length words + 1 ≤ 48 → RunsTo p full (lands d q words v s) o → RunsTo p full (deliver d v (here q words s)) o
  delivers push q words v s o le h = fits p full (here q (v ∷ words) s) o (omega (arith, le)) h
  delivers (into x) q words v s o le h = h
  delivers aside q words v s o le h = h
  delivers nowhere q words v s o le h = h

  pub at_place : {A : Type 0} {s : Situation} {n : ℕ} {before : Next} {c : Comes A}
      (behind : ℕ → A → Situation → Next)
      (q q' : ℕ) → q ≡ q' → Leads s n before c (behind q) → Leads s n before c (behind q')
  at_place {s = s} {n = n} {before = before} {c = c} behind q q' e h = subst (λ x. Leads s n before c (behind x)) e h

  pub begins_at : {A : Type 0} {s : Situation} {n : ℕ} {c : Comes A} {behind : A → Situation → Next} (pc pc' : ℕ)
      (words : List ℕ) → pc ≡ pc' → Leads s n (stands pc words s) c behind → Leads s n (stands pc' words s) c behind
  begins_at {s = s} {n = n} {c = c} {behind = behind} pc pc' words e h =
      subst (λ x. Leads s n (stands x words s) c behind) e h
