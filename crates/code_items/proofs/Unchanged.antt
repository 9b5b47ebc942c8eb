-- A variable that an evaluation cannot change keeps its word.
use Rattle.std.proofs.Common.{◌≡◌, ℕ, List, [], ◌∷◌, ◌++◌, length, Bool, true, false, refl, ◌∙◌, subst}
use Rattle.std.specs.Prelude.{◌||◌, ◌&&◌, ◌==◌, nat_le, nat_lt, Option, Some, None, if◌then◌else◌, codes, slice_index}
use Rattle.std.specs.Prelude.{slice_set}
use Rattle.std.proofs.lemmas.Bool.{eqb-false}
use Rattle.std.proofs.lemmas.List.{get_or-set_other}
use Rattle.zcore.specs.Arithmetic.{quotient, remainder}
use Rattle.zcore.specs.Layout.{text_limit}
use Rattle.zcore.specs.declared.place.Place.TheVariants as places
use Rattle.syntax_trees.specs.declared.tree.Binary.{Binary}
use Rattle.syntax_trees.specs.declared.tree.Binary.TheVariants as binaries
use Rattle.syntax_trees.specs.declared.tree.Width.{Width}
use Rattle.meaning.specs.declared.cause.Cause.{Cause}
use Rattle.meaning.specs.declared.cause.Cause.TheVariants as causes
use Rattle.meaning.specs.World.{words_of, Situation, Comes, to, over, Part, bound, ◌>>=◌, give, put, fault, ends}
use Rattle.meaning.specs.World.{value_in, with_value, write_variable, array_at, is_index, read_entry, write_entry}
use Rattle.meaning.specs.World.{is_object, words_provided, test_provided, test_single, test_word, single_word}
use Rattle.meaning.specs.World.{write_words}
use Rattle.meaning.specs.declared.resolved.Variable.{Variable}
use Rattle.meaning.specs.declared.resolved.Variable.TheVariants as variables
use Rattle.meaning.specs.Resolved.{Value, Values, none, more}
use Rattle.meaning.specs.Resolved as source
use Rattle.meaning.specs.Meaning.{truth, is_true, operate, equated, compared, with_prefix, stepped, early, Setting}
use Rattle.meaning.specs.Meaning.{evaluate, evaluate_all, test_object, default_of}
use Rattle.code_drafts.specs.Items.{is_same, is_global, changes, change}
use Rattle.code_items.specs.Stack.{assigned_entry}

-- where it comes to a value, the variable has this word
abbrev pub Still : {A : Type 0} → Variable → ℕ → Comes A → Type 0
Still x w (to a s) = value_in x s ≡ w
Still x w (over outcome) = Unit {0}

abbrev pub Leaves : {A : Type 0} → Variable → Part A → Type 0
Leaves x f = (s : Situation) → Still x (value_in x s) (f s)

-- calls leave a routine's locals
abbrev pub LeaveLocals : (ℕ → List ℕ → Part ℕ) → Type 0
LeaveLocals calls = (i r : ℕ) (arguments : List ℕ) → Leaves (variables.Local i) (calls r arguments)

pub leaves_bound : {A B : Type 0} (x : Variable) (f : Part A) (g : A → Part B) → Leaves x f
    → ((a : A) → Leaves x (g a)) → Leaves x (f >>= g)
leaves_bound x f g hf hg s = go (f s) (hf s)
  where
    moved : {B : Type 0} (w v : ℕ) (c : Comes B) → v ≡ w → Still x v c → Still x w c
    moved w v (to b last) e h = h ∙ e
    moved w v (over outcome) e h = tt

    go : (c : Comes _) → Still x (value_in x s) c → Still x (value_in x s) (bound c g)
    go (to a after) h = moved (value_in x s) (value_in x after) (g a after) h (hg a after)
    go (over outcome) h = tt

leaves_give : {A : Type 0} (x : Variable) (a : A) → Leaves x (give a)
leaves_give x a s = refl

leaves_either : {A : Type 0} (x : Variable) (b : Bool) (f g : Part A) → Leaves x f → Leaves x g
    → Leaves x (if b then f else g)
leaves_either x true f g hf hg = hf
leaves_either x false f g hf hg = hg

still_either : {A : Type 0} (x : Variable) (w : ℕ) (b : Bool) (c e : Comes A) → Still x w c → Still x w e
    → Still x w (if b then c else e)
still_either x w true c e hc he = hc
still_either x w false c e hc he = he

leaves_put : (x : Variable) (bytes : List ℕ) → Leaves x (put bytes)
leaves_put (variables.Local i) bytes s =
    still_either (variables.Local i) _ (nat_le (length (s.world.text ++ bytes)) text_limit) _ _ refl tt
leaves_put (variables.Global i) bytes s =
    still_either (variables.Global i) _ (nat_le (length (s.world.text ++ bytes)) text_limit) _ _ refl tt

leaves_fault : (A : Type 0) (x : Variable) (cause : Cause) → Leaves x (fault {A = A} cause)
leaves_fault A x cause =
    leaves_bound x (put (10 ∷ codes "[Fault: " ++ words_of cause ++ codes "]" ++ 10 ∷ []))
    (λ _. ends {A = A} places.Quit) (leaves_put x _) (λ _ s. tt)

leaves_read : (width : Width) (a i : ℕ) (x : Variable) → Leaves x (read_entry width a i)
leaves_read width a i x s = still_either x _ (is_index width (array_at s.world.arrays a) i) _ _ refl
    (leaves_fault ℕ x causes.IndexOutOfRange s)

leaves_write : (width : Width) (a i v : ℕ) (x : Variable) → Leaves x (write_entry width a i v)
leaves_write width a i v (variables.Local j) s =
    still_either (variables.Local j) _ (is_index width (array_at s.world.arrays a) i) _ _ refl
    (leaves_fault (Unit {0}) (variables.Local j) causes.IndexOutOfRange s)
leaves_write width a i v (variables.Global j) s =
    still_either (variables.Global j) _ (is_index width (array_at s.world.arrays a) i) _ _ refl
    (leaves_fault (Unit {0}) (variables.Global j) causes.IndexOutOfRange s)

leaves_assigned : (width : Width) (a i v : ℕ) (x : Variable) → Leaves x (assigned_entry width a i v)
leaves_assigned width a i v x =
    leaves_bound x (write_entry width a i v) (λ _. give v) (leaves_write width a i v x) (λ _. leaves_give x v)

-- Objects

leaves_test : (b : Bool) (cause : Cause) (x : Variable) → Leaves x (if b then give {A = Unit {0}} tt else fault cause)
leaves_test b cause x =
    leaves_either x b (give {A = Unit {0}} tt) (fault cause) (leaves_give {A = Unit {0}} x tt)
    (leaves_fault (Unit {0}) x cause)

leaves_provided : (words : Option (List ℕ)) (x : Variable) → Leaves x (test_provided words)
leaves_provided None x = leaves_fault (List ℕ) x causes.NoSuchProperty
leaves_provided (Some words) x = leaves_give x words

leaves_single : (default : ℕ) (words : Option (List ℕ)) (x : Variable) → Leaves x (single_word default words)
leaves_single default None x = leaves_give x default
leaves_single default (Some words) x =
    leaves_bound x (test_single words) _ (leaves_test (length words == 1) causes.PropertyOfManyWords x)
    (λ _. leaves_give x (slice_index words 0))

leaves_words : (o p : ℕ) (words : List ℕ) (x : Variable) → Leaves x (write_words o p words)
leaves_words o p words (variables.Local j) s = refl
leaves_words o p words (variables.Global j) s = refl

leaves_operate : (op : Binary) (v w : ℕ) (x : Variable) → Leaves x (operate op v w)
leaves_operate binaries.Divide v w x = leaves_either x (w == 0) (fault causes.DivisionByZero)
    (give (quotient v w)) (leaves_fault ℕ x causes.DivisionByZero) (leaves_give x (quotient v w))
leaves_operate binaries.Remainder v w x = leaves_either x (w == 0) (fault causes.DivisionByZero)
    (give (remainder v w)) (leaves_fault ℕ x causes.DivisionByZero) (leaves_give x (remainder v w))
leaves_operate op v w x = λ s. refl

-- another place of a list keeps its word
other_word : (xs : List ℕ) (i j w : ℕ) → (i == j) ≡ false → slice_index (slice_set xs j w) i ≡ slice_index xs i
other_word xs i j w e = get_or-set_other xs j i w 0 (eqb-false i j e)

other_variable : (x y : Variable) (w : ℕ) (s : Situation) → is_same x y ≡ false → value_in x (with_value y w s)
    ≡ value_in x s
other_variable (variables.Local i) (variables.Local j) w s e = other_word s.locals i j w e
other_variable (variables.Local i) (variables.Global j) w s e = refl
other_variable (variables.Global i) (variables.Local j) w s e = refl
other_variable (variables.Global i) (variables.Global j) w s e = other_word s.world.globals i j w e

pub left : (a b : Bool) → (a || b) ≡ false → a ≡ false
left false b e = refl
left true b e = absurd (cc)

pub right : (a b : Bool) → (a || b) ≡ false → b ≡ false
right false b e = e
right true b e = absurd (cc)

module _ (here : Setting) (keep : LeaveLocals here.call) where
  called : (x : Variable) → is_global x ≡ false → (r : ℕ) (arguments : List ℕ) → Leaves x (here.call r arguments)
  called (variables.Local i) e r arguments = keep i r arguments
  called (variables.Global i) e r arguments = absurd (cc)

  leaves_early : (op : Binary) (x : Variable) (v : ℕ) (second both : Part ℕ) → Leaves x second → Leaves x both
      → Leaves x (early op v second both)
  leaves_early binaries.AndAlso x v second both hs hb =
      leaves_either x (is_true v) (second >>= λ y. give (truth (is_true y))) (give 0)
      (leaves_bound x second _ hs (λ y. leaves_give x (truth (is_true y)))) (leaves_give {A = ℕ} x 0)
  leaves_early binaries.OrElse x v second both hs hb =
      leaves_either x (is_true v) (give 1) (second >>= λ y. give (truth (is_true y))) (leaves_give {A = ℕ} x 1)
      (leaves_bound x second _ hs (λ y. leaves_give x (truth (is_true y))))
  leaves_early op x v second both hs hb = hb

  leaves_object : (o : ℕ) (x : Variable) → Leaves x (test_object here o)
  leaves_object o x = leaves_test (is_object (length here.objects) o) causes.NotAnObject x

  leaves_index : (i : ℕ) (words : List ℕ) (x : Variable) → Leaves x (test_word i words)
  leaves_index i words x = leaves_test (nat_lt i 32768 && nat_lt i (length words)) causes.IndexOutOfRange x

  stepping : (x y : Variable) (w v : ℕ) → is_same x y ≡ false → Leaves x (write_variable y w >>= λ _. give v)
  stepping x y w v e s = other_variable x y w s e

  mutual
    leaves_value : (x : Variable) (v : Value) → changes x v ≡ false → Leaves x (evaluate here v)
    leaves_value x (source.number n) e = leaves_give x n
    leaves_value x (source.read y) e = λ s. refl
    leaves_value x (source.call r vs) e =
        leaves_bound x (evaluate_all here vs) _ (leaves_values x vs (right (is_global x) (change x vs) e))
        (λ arguments. called x (left (is_global x) (change x vs) e) r arguments)
    leaves_value x (source.prefixed op v) e = leaves_bound x (evaluate here v) _ (leaves_value x v e)
        (λ a. leaves_give x (with_prefix op a))
    leaves_value x (source.step_before op y) e =
        λ s. stepping x y (stepped op (value_in y s)) (stepped op (value_in y s)) e s
    leaves_value x (source.step_after y op) e = λ s. stepping x y (stepped op (value_in y s)) (value_in y s) e s
    leaves_value x (source.binary op a b) e =
        let ha = leaves_value x a (left (changes x a) (changes x b) e) in
        let hb = leaves_value x b (right (changes x a) (changes x b) e) in
        leaves_bound x (evaluate here a) _ ha
        (λ v. leaves_early op x v (evaluate here b) (evaluate here b >>= λ w. operate op v w) hb
        (leaves_bound x (evaluate here b) _ hb (λ w. leaves_operate op v w x)))
    leaves_value x (source.compare op a b) e =
        leaves_bound x (evaluate here a) _ (leaves_value x a (left (changes x a) (changes x b) e)) (λ v.
        leaves_bound x (evaluate here b) _ (leaves_value x b (right (changes x a) (changes x b) e))
        (λ w. leaves_give x (truth (compared op v w))))
    leaves_value x (source.equal op a bs) e =
        leaves_bound x (evaluate here a) _ (leaves_value x a (left (changes x a) (change x bs) e)) (λ v.
        leaves_bound x (evaluate_all here bs) _ (leaves_values x bs (right (changes x a) (change x bs) e))
        (λ ws. leaves_give x (truth (equated op v ws))))
    leaves_value x (source.assign y v) e =
        leaves_bound x (evaluate here v) _ (leaves_value x v (right (is_same x y) (changes x v) e))
        (λ w. stepping x y w w (left (is_same x y) (changes x v) e))
    leaves_value x (source.entry width a i) e =
        leaves_bound x (evaluate here i) _ (leaves_value x i e) (λ n. leaves_read width a n x)
    leaves_value x (source.assign_entry width a i v) e =
        leaves_bound x (evaluate here i) _ (leaves_value x i (left (changes x i) (changes x v) e)) (λ n.
        leaves_bound x (evaluate here v) _ (leaves_value x v (right (changes x i) (changes x v) e))
        (λ w. leaves_assigned width a n w x))
    leaves_value x (source.relative r v) e =
        leaves_bound x (evaluate here v) _ (leaves_value x v e) (λ o.
        leaves_bound x (test_object here o) _ (leaves_object o x) (λ _ s. refl))
    leaves_value x (source.contained op a b) e =
        leaves_bound x (evaluate here a) _ (leaves_value x a (left (changes x a) (changes x b) e)) (λ o.
        leaves_bound x (evaluate here b) _ (leaves_value x b (right (changes x a) (changes x b) e)) (λ y.
        leaves_bound x (test_object here o) _ (leaves_object o x) (λ _ s. refl)))
    leaves_value x (source.has positive v a) e =
        leaves_bound x (evaluate here v) _ (leaves_value x v e) (λ o.
        leaves_bound x (test_object here o) _ (leaves_object o x) (λ _ s. refl))
    leaves_value x (source.provides v p) e =
        leaves_bound x (evaluate here v) _ (leaves_value x v e) (λ o.
        leaves_bound x (test_object here o) _ (leaves_object o x) (λ _ s. refl))
    leaves_value x (source.property v p) e =
        leaves_bound x (evaluate here v) _ (leaves_value x v e) (λ o.
        leaves_bound x (test_object here o) _ (leaves_object o x) (λ _.
        leaves_bound x (words_provided o p) _ (λ s. refl) (λ words. leaves_single (default_of here p) words x)))
    leaves_value x (source.property_size v p) e =
        leaves_bound x (evaluate here v) _ (leaves_value x v e) (λ o.
        leaves_bound x (test_object here o) _ (leaves_object o x) (λ _ s. refl))
    leaves_value x (source.property_word v p i) e =
        leaves_bound x (evaluate here v) _ (leaves_value x v (left (changes x v) (changes x i) e)) (λ o.
        leaves_bound x (evaluate here i) _ (leaves_value x i (right (changes x v) (changes x i) e)) (λ n.
        leaves_bound x (test_object here o) _ (leaves_object o x) (λ _.
        leaves_bound x (words_provided o p) _ (λ s. refl) (λ provided.
        leaves_bound x (test_provided provided) _ (leaves_provided provided x) (λ words.
        leaves_bound x (test_word n words) (λ _. give (slice_index words n)) (leaves_index n words x)
        (λ _. leaves_give x (slice_index words n)))))))
    leaves_value x (source.assign_property v p w) e =
        leaves_bound x (evaluate here v) _ (leaves_value x v (left (changes x v) (changes x w) e)) (λ o.
        leaves_bound x (evaluate here w) _ (leaves_value x w (right (changes x v) (changes x w) e)) (λ word.
        leaves_bound x (test_object here o) _ (leaves_object o x) (λ _.
        leaves_bound x (words_provided o p) _ (λ s. refl) (λ provided.
        leaves_bound x (test_provided provided) _ (leaves_provided provided x) (λ words.
        leaves_bound x (test_single words) (λ _. write_words o p (word ∷ []) >>= λ _. give word)
        (leaves_test (length words == 1) causes.PropertyOfManyWords x) (λ _.
        leaves_bound x (write_words o p (word ∷ [])) (λ _. give word) (leaves_words o p (word ∷ []) x)
        (λ _. leaves_give x word)))))))
    leaves_value x (source.assign_property_word v p i w) e =
        let later = right (changes x v) (changes x i || changes x w) e in
        leaves_bound x (evaluate here v) _ (leaves_value x v (left (changes x v) (changes x i || changes x w) e)) (λ o.
        leaves_bound x (evaluate here i) _ (leaves_value x i (left (changes x i) (changes x w) later)) (λ n.
        leaves_bound x (evaluate here w) _ (leaves_value x w (right (changes x i) (changes x w) later)) (λ word.
        leaves_bound x (test_object here o) _ (leaves_object o x) (λ _.
        leaves_bound x (words_provided o p) _ (λ s. refl) (λ provided.
        leaves_bound x (test_provided provided) _ (leaves_provided provided x) (λ words.
        leaves_bound x (test_word n words) (λ _. write_words o p (slice_set words n word) >>= λ _. give word)
        (leaves_index n words x) (λ _.
        leaves_bound x (write_words o p (slice_set words n word)) (λ _. give word)
        (leaves_words o p (slice_set words n word) x)
        (λ _. leaves_give x word))))))))

    leaves_values : (x : Variable) (vs : Values) → change x vs ≡ false → Leaves x (evaluate_all here vs)
    leaves_values x none e = λ s. refl
    leaves_values x (more v vs) e =
        leaves_bound x (evaluate here v) _ (leaves_value x v (left (changes x v) (change x vs) e)) (λ a.
        leaves_bound x (evaluate_all here vs) _ (leaves_values x vs (right (changes x v) (change x vs) e))
        (λ words. leaves_give x (a ∷ words)))

  pub unchanged : (x : Variable) (v : Value) (s after : Situation) (a : ℕ) → changes x v ≡ false → evaluate here v s
      ≡ to a after → value_in x after ≡ value_in x s
  unchanged x v s after a e f = subst (Still x (value_in x s)) f (leaves_value x v e s)

  pub all_unchanged : (x : Variable) (vs : Values) (s after : Situation) (words : List ℕ) → change x vs
      ≡ false → evaluate_all here vs s ≡ to words after → value_in x after ≡ value_in x s
  all_unchanged x vs s after words e f = subst (Still x (value_in x s)) f (leaves_values x vs e s)
