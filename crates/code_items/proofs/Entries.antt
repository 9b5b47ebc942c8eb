-- Entries of arrays.
use Rattle.std.proofs.Common.{◌≡◌, ℕ, ◌+◌, ◌≤◌, List, [], ◌∷◌, ◌++◌, length, Some, refl, sym, ap, ◌∙◌}
use Rattle.std.proofs.Common.{append_assoc, true}
use Rattle.std.specs.Prelude.{slice_get}
use Rattle.syntax_trees.specs.declared.tree.Width.{Width}
use Rattle.meaning.specs.Resolved.{Value, none, more}
use Rattle.meaning.specs.Resolved as source
use Rattle.meaning.specs.World.{Situation, Comes, to, over, Part, bound, ◌>>=◌, give, read_entry}
use Rattle.meaning.specs.Meaning.{evaluate}
use Rattle.code_drafts.specs.Items.{Item, Operand, pushed, number, variable, Destination, aside, alone, left_of}
use Rattle.code_drafts.specs.Items.{value_count, value_items, if_pushed, entry_item, index_place, assign_entry_item, branch_true, push}
use Rattle.code_drafts.specs.Items.{is_any_pushed, arguments_items}
use Rattle.code_drafts.specs.Items as items
use Rattle.code_items.specs.Stack.{goes, with_operand, gives, assigned_entry}
use Rattle.code_items.proofs.Acts.{keeps_read_entry, keeps_assigned_entry}
use Rattle.code_items.proofs.Running.{Running, code, setting}
use Rattle.code_items.proofs.Held.{onto, with_held, Held, AllHeld, onto_all}
use Rattle.code_items.proofs.Leads.{Leads, here, here_with, stands, lands}
use Rattle.code_items.proofs.Steps.{one, one_with}
use Rattle.code_items.proofs.Evaluated.{ValueOk}
use Rattle.code_items.proofs.Arguments.{arrived, arguments_none, arguments_more}
use Rattle.code_items.proofs.LastAside.{Does, last_aside_ok}

-- what is done with one word, and with two
abbrev with_one : (ℕ → Part ℕ) → List ℕ → Part ℕ
with_one g (x ∷ []) = g x
with_one g words = give 0

abbrev with_two : (ℕ → ℕ → Part ℕ) → List ℕ → Part ℕ
with_two g (x ∷ y ∷ []) = g x y
with_two g words = give 0

one_means : (c : Comes ℕ) (g : ℕ → Part ℕ)
    → bound (bound c (λ x. give [] >>= λ xs. give (x ∷ xs))) (with_one g) ≡ bound c g
one_means (to x s) g = refl
one_means (over o) g = refl

second_means : (c : Comes ℕ) (x : ℕ) (g : ℕ → ℕ → Part ℕ)
    → bound (bound (bound c (λ y. give [] >>= λ ys. give (y ∷ ys))) (λ xs. give (x ∷ xs))) (with_two g)
    ≡ bound c (g x)
second_means (to y s) x g = refl
second_means (over o) x g = refl

two_means : (c : Comes ℕ) (f : Part ℕ) (g : ℕ → ℕ → Part ℕ)
    → bound (bound c (λ x. (f >>= λ y. give [] >>= λ ys. give (y ∷ ys)) >>= λ xs. give (x ∷ xs))) (with_two g)
    ≡ bound c (λ x. f >>= λ y. g x y)
two_means (to x s) f g = second_means (f s) x g
two_means (over o) f g = refl

module _ (now : Running) where
  open now use {full}

  loads : (width : Width) (a : ℕ) (o : Operand) (x : ℕ) (s : Situation) (n m : ℕ) (words : List ℕ)
      (d : Destination) → slice_get (code now) m ≡ Some (items.entry width a o d) → Held o x s → length words + 1 ≤ 48
      → Leads now s n (stands now m (onto o x words) s) (read_entry width a x s) (lands now d (m + 1) words)
  loads width a o x s n m words d h held le =
      one now m words d (items.entry width a o d) (read_entry width a x) (onto o x words) h
      (with_held o x s words (λ y rest. gives (read_entry width a y) d rest (here now m (onto o x words) s)) held)
      (keeps_read_entry full width a x) le

  loaded_by : (width : Width) (a : ℕ) (o : Operand) (x : ℕ) (s : Situation) (n m : ℕ) (words : List ℕ)
      (d : Destination) → slice_get (code now) m ≡ Some (entry_item width a o d) → Held o x s → length words + 1 ≤ 48
      → Leads now s n (arrived now (is_any_pushed (o ∷ [])) (o ∷ []) m words (x ∷ []) s) (read_entry width a x s)
      (lands now d (m + 1) words)
  loaded_by width a pushed x s n m words d h held le =
      one_with now (Some x) m words d (items.entry_aside width a d) (read_entry width a x) words h refl
      (keeps_read_entry full width a x) le
  loaded_by width a (number k) x s n m words d h held le = loads width a (number k) x s n m words d h held le
  loaded_by width a (variable z) x s n m words d h held le = loads width a (variable z) x s n m words d h held le

  loaded_does : (width : Width) (a : ℕ) (i : Value)
      → Does now (more i none) (with_one (read_entry width a)) (entry_item width a (alone i))
  loaded_does width a i s n m words d [] h held le = absurd held
  loaded_does width a i s n m words d (x ∷ y ∷ xs) h held le = absurd held.1
  loaded_does width a i s n m words d (x ∷ []) h held le =
      loaded_by width a (alone i) x s n m words d h held.0 le

  stores : (width : Width) (a : ℕ) (o q : Operand) (x y : ℕ) (s : Situation) (n m : ℕ) (words : List ℕ)
      (d : Destination) → slice_get (code now) m ≡ Some (items.assign_entry width a o q d)
      → AllHeld (o ∷ q ∷ []) (x ∷ y ∷ []) s → length words + 1 ≤ 48
      → Leads now s n (stands now m (onto_all (o ∷ q ∷ []) (x ∷ y ∷ []) words) s) (assigned_entry width a x y s)
      (lands now d (m + 1) words)
  stores width a o q x y s n m words d h held le =
      one now m words d (items.assign_entry width a o q d) (assigned_entry width a x y) (onto q y (onto o x words)) h
      (with_held q y s (onto o x words)
      (λ v rest. with_operand o s rest
      (λ w left. gives (assigned_entry width a w v) d left (here now m (onto q y (onto o x words)) s))) held.1.0
      ∙ with_held o x s words
      (λ w left. gives (assigned_entry width a w y) d left (here now m (onto q y (onto o x words)) s)) held.0)
      (keeps_assigned_entry full width a x y) le

  -- where the last that is pushed is aside
  stores_aside : (width : Width) (a : ℕ) (o q : Operand) (x y w : ℕ) (left : List ℕ) (s : Situation) (n m : ℕ)
      (words : List ℕ) (d : Destination) → onto_all (o ∷ q ∷ []) (x ∷ y ∷ []) words ≡ w ∷ left
      → slice_get (code now) m ≡ Some (items.assign_entry_aside width a o q d)
      → AllHeld (o ∷ q ∷ []) (x ∷ y ∷ []) s → length words + 1 ≤ 48
      → Leads now s n (goes (here_with now (Some w) m left s)) (assigned_entry width a x y s) (lands now d (m + 1) words)
  stores_aside width a o q x y w left s n m words d e h held le =
      let state = here_with now (Some w) m left s in
      one_with now (Some w) m words d (items.assign_entry_aside width a o q d) (assigned_entry width a x y) left h
      (ap (λ l. with_operand q s l
      (λ v rest. with_operand o s rest (λ i stack. gives (assigned_entry width a i v) d stack state))) (sym e)
      ∙ with_held q y s (onto o x words)
      (λ v rest. with_operand o s rest (λ i stack. gives (assigned_entry width a i v) d stack state)) held.1.0
      ∙ with_held o x s words (λ i stack. gives (assigned_entry width a i y) d stack state) held.0)
      (keeps_assigned_entry full width a x y) le

  stored_by : (width : Width) (a : ℕ) (o q : Operand) (x y : ℕ) (s : Situation) (n m : ℕ) (words : List ℕ)
      (d : Destination) → slice_get (code now) m ≡ Some (assign_entry_item width a o q d) → AllHeld (o ∷ q ∷ []) (x ∷ y ∷ []) s
      → length words + 1 ≤ 48
      → Leads now s n (arrived now (is_any_pushed (o ∷ q ∷ [])) (o ∷ q ∷ []) m words (x ∷ y ∷ []) s)
      (assigned_entry width a x y s) (lands now d (m + 1) words)
  stored_by width a pushed pushed x y s n m words d h held le =
      stores_aside width a pushed pushed x y y (x ∷ words) s n m words d refl h held le
  stored_by width a pushed (number k) x y s n m words d h held le =
      stores_aside width a pushed (number k) x y x words s n m words d refl h held le
  stored_by width a pushed (variable z) x y s n m words d h held le =
      stores_aside width a pushed (variable z) x y x words s n m words d refl h held le
  stored_by width a (number k) pushed x y s n m words d h held le =
      stores_aside width a (number k) pushed x y y words s n m words d refl h held le
  stored_by width a (variable z) pushed x y s n m words d h held le =
      stores_aside width a (variable z) pushed x y y words s n m words d refl h held le
  stored_by width a (number k) (number l) x y s n m words d h held le =
      stores width a (number k) (number l) x y s n m words d h held le
  stored_by width a (number k) (variable u) x y s n m words d h held le =
      stores width a (number k) (variable u) x y s n m words d h held le
  stored_by width a (variable z) (number l) x y s n m words d h held le =
      stores width a (variable z) (number l) x y s n m words d h held le
  stored_by width a (variable z) (variable u) x y s n m words d h held le =
      stores width a (variable z) (variable u) x y s n m words d h held le

  stored_does : (width : Width) (a : ℕ) (i v : Value)
      → Does now (more i (more v none)) (with_two (assigned_entry width a)) (assign_entry_item width a (left_of i v) (alone v))
  stored_does width a i v s n m words d [] h held le = absurd held
  stored_does width a i v s n m words d (x ∷ []) h held le = absurd held.1
  stored_does width a i v s n m words d (x ∷ y ∷ z ∷ xs) h held le = absurd held.1.1
  stored_does width a i v s n m words d (x ∷ y ∷ []) h held le =
      stored_by width a (left_of i v) (alone v) x y s n m words d h held le

  pub entry_ok : (width : Width) (a : ℕ) (i : Value) → ValueOk now i → ValueOk now (source.entry width a i)
  entry_ok width a i ok =
      last_aside_ok now (more i none) (arguments_more now i none ok (arguments_none now)) (with_one (read_entry width a))
      (entry_item width a (alone i)) (loaded_does width a i) (source.entry width a i)
      (λ at d. sym (append_assoc (if_pushed (alone i) (value_items at i aside) []) [] (entry_item width a (alone i) d ∷ [])))
      (λ at t when. sym (append_assoc (if_pushed (alone i) (value_items at i aside) []) []
      (entry_item width a (alone i) push ∷ branch_true pushed when t ∷ [])))
      (λ s. one_means (evaluate (setting now) i s) (read_entry width a)) refl

  both_items : (i v : Value) (at : ℕ) (tail : List Item)
      → if_pushed (left_of i v) (value_items at i (index_place (alone v))) []
      ++ (if_pushed (alone v)
      (value_items (at + if_pushed (left_of i v) (value_count i (index_place (alone v))) 0) v aside) [] ++ tail)
      ≡ arguments_items true at (more i (more v none)) ++ tail
  both_items i v at tail =
      let xs = if_pushed (left_of i v) (value_items at i (index_place (alone v))) [] in
      let ys = if_pushed (alone v)
      (value_items (at + if_pushed (left_of i v) (value_count i (index_place (alone v))) 0) v aside) [] in
      sym (append_assoc xs (ys ++ []) tail ∙ ap (λ l. xs ++ l) (append_assoc ys [] tail))

  pub assign_entry_ok : (width : Width) (a : ℕ) (i v : Value) → ValueOk now i → ValueOk now v
      → ValueOk now (source.assign_entry width a i v)
  assign_entry_ok width a i v oki okv =
      last_aside_ok now (more i (more v none))
      (arguments_more now i (more v none) oki (arguments_more now v none okv (arguments_none now)))
      (with_two (assigned_entry width a)) (assign_entry_item width a (left_of i v) (alone v)) (stored_does width a i v)
      (source.assign_entry width a i v) (λ at d. both_items i v at (assign_entry_item width a (left_of i v) (alone v) d ∷ []))
      (λ at t when. both_items i v at (assign_entry_item width a (left_of i v) (alone v) push ∷ branch_true pushed when t ∷ []))
      (λ s. two_means (evaluate (setting now) i s) (evaluate (setting now) v) (assigned_entry width a)) refl
