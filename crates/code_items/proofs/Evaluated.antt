-- Operands are evaluated one after another, and stay what they were.
use Rattle.std.proofs.Common.{◌≡◌, ℕ, ◌+◌, ◌≤◌, List, [], ◌∷◌, ◌++◌, length, Bool, true, false, refl, sym, ap}
use Rattle.std.proofs.Common.{◌∙◌, subst, arith}
use Rattle.std.specs.Prelude.{◌||◌, if◌then◌else◌}
use Rattle.meaning.specs.declared.resolved.Variable.{Variable}
use Rattle.meaning.specs.Limits.{operands}
use Rattle.meaning.specs.Resolved.{Value, Values, none, more}
use Rattle.meaning.specs.Resolved as source
use Rattle.meaning.specs.Accepted.{need_of, needs_of}
use Rattle.meaning.specs.World.{Situation, Comes, to, bound, Part, ◌>>=◌, give, value_in}
use Rattle.meaning.specs.Meaning.{with_prefix, evaluate, evaluate_all}
use Rattle.code_drafts.specs.Items.{Item, Operand, pushed, number, variable, Destination, push, prefix_operand}
use Rattle.code_drafts.specs.Items.{operand_of, operands_of, alone, left_of}
use Rattle.code_drafts.specs.Items.{first_of, if_pushed, changes, change, operand_count, value_items, operands_items}
use Rattle.code_drafts.specs.Items.{branch_items}
use Rattle.code_items.specs.Stack.{Next}
use Rattle.code_drafts.proofs.CountedForms.{if_length}
use Rattle.code_drafts.proofs.Counts.{value_length}
use Rattle.code_items.proofs.Unchanged.{unchanged, all_unchanged, left, right}
use Rattle.code_items.proofs.Acts.{came}
use Rattle.code_items.proofs.Running.{Running, code, setting}
use Rattle.code_items.proofs.Standing.{HasAt, split}
use Rattle.code_items.proofs.Held.{Held, onto, onto_length, AllHeld, onto_all, held_after, not_changed}
use Rattle.code_items.proofs.Held.{prefix_held, no_variable}
use Rattle.code_items.proofs.Leads.{Leads, on, given, stands, lands, goes_by, begins_at, as_part}

module _ (now : Running) where
  open now use {keep}

  -- the items of a value put it where it is to go, and those of a branch branch by it
  pub record ValueOk (v : Value) : Type 0 where
    pub value : (s : Situation) (n pc q : ℕ) (words : List ℕ) (dest : Destination)
        → HasAt (code now) pc (value_items pc v dest) q → length words + need_of v ≤ 48
        → Leads now s n (stands now pc words s) (evaluate (setting now) v s) (lands now dest q words)
    pub branch : (s : Situation) (n pc t q : ℕ) (words : List ℕ) (when : Bool)
        → HasAt (code now) pc (branch_items pc v when t) q → q ≤ t → length words + need_of v ≤ 48
        → Leads now s n (stands now pc words s) (evaluate (setting now) v s) (goes_by now when t q words)

  pub operand_held : (v : Value) (later : Values) (s last : Situation) (a : ℕ) → evaluate (setting now) v s
      ≡ to a last → Held (operand_of v later) a last
  operand_held (source.number n) later s last a e = cc
  operand_held (source.read x) later s last a e = go (change x later)
    where
      go : (b : Bool) → Held (if b then pushed else variable x) a last
      go true = tt
      go false = let there : s ≡ last = cc in let is : value_in x s ≡ a = cc in
          subst (λ z. value_in x z ≡ a) there is
  operand_held (source.prefixed op v) later s last a e =
      let c = came (evaluate (setting now) v s) (λ x. give (with_prefix op x)) a last e in
      let is : with_prefix op c.first ≡ a = cc in
      prefix_held op (operand_of v none) c.first a c.between last (operand_held v none s c.between c.first c.is) is
  operand_held v later s last a e = tt

  -- a number that stands in place is what the value comes to, and nothing else is done
  pub comes_to : (v : Value) (n : ℕ) (s : Situation) → operand_of v none ≡ number n → evaluate (setting now) v s ≡ to n s
  comes_to (source.number k) n s e = let is : k ≡ n = cc in ap (λ (x : ℕ). to x s) is
  comes_to (source.read x) n s e = absurd (cc)
  comes_to (source.prefixed op v) n s e = go (operand_of v none) (λ k f. comes_to v k s f) e
    where
      go : (o : Operand) → ((k : ℕ) → o ≡ number k → evaluate (setting now) v s ≡ to k s)
          → prefix_operand op o ≡ number n → evaluate (setting now) (source.prefixed op v) s ≡ to n s
      go pushed f e = absurd (cc)
      go (variable x) f e = absurd (cc)
      go (number k) f e =
          let is : with_prefix op k ≡ n = cc in
          ap (λ (c : Comes ℕ). bound c (λ x. give (with_prefix op x))) (f k refl) ∙ ap (λ (x : ℕ). to x s) is
  comes_to v n s e = absurd (cc)

  -- what an operand is after what is evaluated later
  pub still_held : (v : Value) (later : Values) (s last : Situation) (a : ℕ)
      → ((x : Variable) → change x later ≡ false → value_in x last ≡ value_in x s) → Held (operand_of v later) a s
      → Held (operand_of v later) a last
  still_held v later s last a still h =
      held_after (operand_of v later) a s last (λ x e. still x (not_changed v later x e)) h

  pub operand_does : (v : Value) (later : Values) → ValueOk v → (s : Situation) (n pc q : ℕ) (words : List ℕ)
      → HasAt (code now) pc (if_pushed (operand_of v later) (value_items pc v push) []) q
      → length words + need_of v ≤ 48
      → Leads now s n (stands now pc words s) (evaluate (setting now) v s)
      (λ a last. stands now q (onto (operand_of v later) a words) last)
  operand_does (source.number k) later ok s n pc q words has le =
      begins_at now q pc words (sym has) (given now {behind = λ a last. stands now q words last} k)
  operand_does (source.read x) later ok s n pc q words has le = go (change x later) has
    where
      go : (b : Bool) → HasAt (code now) pc
          (if_pushed (if b then pushed else variable x) (value_items pc (source.read x) push) []) q
          → Leads now s n (stands now pc words s) (to (value_in x s) s)
          (λ a last. stands now q (onto (if b then pushed else variable x) a words) last)
      go true has = ok.value s n pc q words push has le
      go false has =
          begins_at now q pc words (sym has) (given now {behind = λ a last. stands now q words last} (value_in x s))
  operand_does (source.prefixed op v) later ok s n pc q words has le = go (prefix_operand op (operand_of v none)) refl has
    where
      go : (o : Operand) → prefix_operand op (operand_of v none) ≡ o
          → HasAt (code now) pc (if_pushed o (value_items pc (source.prefixed op v) push) []) q
          → Leads now s n (stands now pc words s) (evaluate (setting now) (source.prefixed op v) s)
          (λ a last. stands now q (onto o a words) last)
      go pushed e has = ok.value s n pc q words push has le
      go (variable x) e has = absurd (no_variable op (operand_of v none) x e)
      go (number k) e has = as_part now _ _ (sym (comes_to (source.prefixed op v) k s e))
          (begins_at now q pc words (sym has) (given now {behind = λ a last. stands now q words last} k))
  operand_does v later ok s n pc q words has le = ok.value s n pc q words push has le

  pub record ListOk (vs : Values) : Type 0 where
    pub all : (s : Situation) (n base before pc q : ℕ) (words : List ℕ) → HasAt (code now) pc (operands_items pc vs) q
        → length words ≤ base + before → base + operands before (needs_of vs) ≤ 48
        → Leads now s n (stands now pc words s) (evaluate_all (setting now) vs s)
        (λ xs last. stands now q (onto_all (operands_of vs) xs words) last)

  pub list_none : ListOk none
  list_none = record {
    all = λ s n base before pc q words has e le. begins_at now q pc words (sym has)
        (given now {behind = λ xs last. stands now q (onto_all [] xs words) last} []);
  }

  pub list_more : (v : Value) (vs : Values) → ValueOk v → ListOk vs → ListOk (more v vs)
  list_more v vs okv okvs = record {
    all = λ s n base before pc q words has e le.
        let o = operand_of v vs in
        let m = pc + operand_count v o in
        let h = split (code now) pc (if_pushed o (value_items pc v push) []) (operands_items m vs) q
        (operand_count v o) (if_length o _ _ (value_length v push pc)) has in
        on now (evaluate (setting now) v) _ (operand_does v vs okv s n pc m words h.0 (omega (arith, e, le)))
        (λ x s1 e1.
        on now (evaluate_all (setting now) vs) _
        (okvs.all s1 n base (before + 1) m q (onto o x words) h.1 (omega (arith, e, onto_length o x words))
        (omega (arith, le))) (λ xs s2 e2.
        given now {behind = λ ys last. stands now q (onto_all (o ∷ operands_of vs) ys words) last} (x ∷ xs)));
  }

  pub all_held : (vs : Values) (s last : Situation) (xs : List ℕ) → evaluate_all (setting now) vs s
      ≡ to xs last → AllHeld (operands_of vs) xs last
  all_held none s last xs e = let is : [] ≡ xs = cc in subst (λ z. AllHeld [] z last) is tt
  all_held (more v vs) s last xs e =
      let c = came (evaluate (setting now) v s) _ xs last e in
      let k = came (evaluate_all (setting now) vs c.between) (λ ys. give (c.first ∷ ys)) xs last c.then_is in
      let is : (c.first ∷ k.first) ≡ xs = cc in
      let there : k.between ≡ last = cc in
      let first_held = still_held v vs c.between k.between c.first
      (λ x f. all_unchanged (setting now) keep x vs c.between k.between k.first f k.is)
      (operand_held v vs s c.between c.first c.is) in
      subst (λ z. AllHeld (operand_of v vs ∷ operands_of vs) z last) is
      (subst (λ z. AllHeld (operand_of v vs ∷ operands_of vs) (c.first ∷ k.first) z) there
      (first_held, all_held vs c.between k.between k.first k.is))

  -- the left of two operands is what it was
  pub left_held : (a b : Value) (s s1 s2 : Situation) (x y : ℕ) → evaluate (setting now) a s ≡ to x s1
      → evaluate (setting now) b s1
      ≡ to y s2 → Held (left_of a b) x s2
  left_held a b s s1 s2 x y ea eb =
      still_held a (more b none) s1 s2 x
      (λ z f. unchanged (setting now) keep z b s1 s2 y (left (changes z b) false f) eb)
      (operand_held a (more b none) s s1 x ea)

  -- two operands, and what follows them
  pub two_operands : {B : Type 0} {behind : B → Situation → Next} (a b : Value) → ValueOk a → ValueOk b
      → (s : Situation) (n pc q : ℕ) (words : List ℕ) (tail : List Item) (g : ℕ → ℕ → Part B)
      → HasAt (code now) pc (if_pushed (left_of a b) (value_items pc a push) []
      ++ (if_pushed (alone b) (value_items (pc + operand_count a (left_of a b)) b push) [] ++ tail)) q
      → length words + operands 0 (need_of a ∷ need_of b ∷ []) ≤ 48
      → ((x y : ℕ) (s2 : Situation)
      → HasAt (code now) (pc + operand_count a (left_of a b) + operand_count b (alone b)) tail q
      → AllHeld (left_of a b ∷ alone b ∷ []) (x ∷ y ∷ []) s2
      → Leads now s2 n (stands now (pc + operand_count a (left_of a b) + operand_count b (alone b))
      (onto_all (left_of a b ∷ alone b ∷ []) (x ∷ y ∷ []) words) s2) (g x y s2) behind)
      → Leads now s n (stands now pc words s)
      ((evaluate (setting now) a >>= λ x. (evaluate (setting now) b >>= λ y. g x y)) s) behind
  two_operands a b oka okb s n pc q words tail g has le hg =
      let oa = left_of a b in
      let m = pc + operand_count a oa in
      let ha = split (code now) pc (if_pushed oa (value_items pc a push) []) _ q (operand_count a oa)
      (if_length oa _ _ (value_length a push pc)) has in
      let hb = split (code now) m (if_pushed (alone b) (value_items m b push) []) tail q (operand_count b (alone b))
      (if_length (alone b) _ _ (value_length b push m)) ha.1 in
      on now (evaluate (setting now) a) _ (operand_does a (more b none) oka s n pc m words ha.0 (omega (arith, le)))
      (λ x s1 e1.
      on now (evaluate (setting now) b) (g x)
      (operand_does b none okb s1 n m (m + operand_count b (alone b)) (onto oa x words) hb.0
      (omega (arith, le, onto_length oa x words))) (λ y s2 e2.
      hg x y s2 hb.1 (left_held a b s s1 s2 x y e1 e2, (operand_held b none s1 s2 y e2, tt))))

  -- the first of three is what it was
  first_held : (a b c : Value) (s s1 s2 s3 : Situation) (x y z : ℕ) → evaluate (setting now) a s ≡ to x s1
      → evaluate (setting now) b s1 ≡ to y s2 → evaluate (setting now) c s2 ≡ to z s3 → Held (first_of a b c) x s3
  first_held a b c s s1 s2 s3 x y z ea eb ec =
      let later = more b (more c none) in
      still_held a later s1 s3 x
      (λ v f.
      let behind = right (changes v b) (changes v c || false) f in
      unchanged (setting now) keep v c s2 s3 z (left (changes v c) false behind) ec
      ∙ unchanged (setting now) keep v b s1 s2 y (left (changes v b) (changes v c || false) f) eb)
      (operand_held a later s s1 x ea)

  -- three operands, and what follows them
  pub three_operands : {B : Type 0} {behind : B → Situation → Next} (a b c : Value) → ValueOk a → ValueOk b → ValueOk c
      → (s : Situation) (n pc q : ℕ) (words : List ℕ) (tail : List Item) (g : ℕ → ℕ → ℕ → Part B)
      → HasAt (code now) pc (if_pushed (first_of a b c) (value_items pc a push) []
      ++ (if_pushed (left_of b c) (value_items (pc + operand_count a (first_of a b c)) b push) []
      ++ (if_pushed (alone c)
      (value_items (pc + operand_count a (first_of a b c) + operand_count b (left_of b c)) c push) [] ++ tail))) q
      → length words + operands 0 (need_of a ∷ need_of b ∷ need_of c ∷ []) ≤ 48
      → ((x y z : ℕ) (s3 : Situation)
      → HasAt (code now) (pc + operand_count a (first_of a b c) + operand_count b (left_of b c)
      + operand_count c (alone c)) tail q
      → AllHeld (first_of a b c ∷ left_of b c ∷ alone c ∷ []) (x ∷ y ∷ z ∷ []) s3
      → Leads now s3 n (stands now (pc + operand_count a (first_of a b c) + operand_count b (left_of b c)
      + operand_count c (alone c))
      (onto_all (first_of a b c ∷ left_of b c ∷ alone c ∷ []) (x ∷ y ∷ z ∷ []) words) s3) (g x y z s3) behind)
      → Leads now s n (stands now pc words s)
      ((evaluate (setting now) a >>= λ x. (evaluate (setting now) b >>= λ y. (evaluate (setting now) c >>= λ z.
      g x y z))) s) behind
  three_operands a b c oka okb okc s n pc q words tail g has le hg =
      let oa = first_of a b c in
      let ob = left_of b c in
      let m = pc + operand_count a oa in
      let k = m + operand_count b ob in
      let ha = split (code now) pc (if_pushed oa (value_items pc a push) []) _ q (operand_count a oa)
      (if_length oa _ _ (value_length a push pc)) has in
      let hb = split (code now) m (if_pushed ob (value_items m b push) []) _ q (operand_count b ob)
      (if_length ob _ _ (value_length b push m)) ha.1 in
      let hc = split (code now) k (if_pushed (alone c) (value_items k c push) []) tail q (operand_count c (alone c))
      (if_length (alone c) _ _ (value_length c push k)) hb.1 in
      on now (evaluate (setting now) a) _
      (operand_does a (more b (more c none)) oka s n pc m words ha.0 (omega (arith, le))) (λ x s1 e1.
      on now (evaluate (setting now) b) _
      (operand_does b (more c none) okb s1 n m k (onto oa x words) hb.0 (omega (arith, le, onto_length oa x words)))
      (λ y s2 e2.
      on now (evaluate (setting now) c) (g x y)
      (operand_does c none okc s2 n k (k + operand_count c (alone c)) (onto ob y (onto oa x words)) hc.0
      (omega (arith, le, onto_length oa x words, onto_length ob y (onto oa x words)))) (λ z s3 e3.
      hg x y z s3 hc.1 (
        first_held a b c s s1 s2 s3 x y z e1 e2 e3,
        (left_held b c s1 s2 s3 y z e2 e3, (operand_held c none s2 s3 z e3, tt)),
      ))))
