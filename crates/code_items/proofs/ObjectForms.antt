-- What is written for forms of one, two or three operands: those on objects.
use Rattle.std.proofs.Common.{◌≡◌, ℕ, ◌+◌, ◌-◌, List, [], ◌∷◌, ◌++◌, Bool, sym, ap, subst, ◌∙◌, arith, append_assoc}
use Rattle.meaning.specs.declared.resolved.Value as code_value
use Rattle.meaning.specs.Resolved.{Value}
use Rattle.meaning.specs.Views.{value_of}
use Rattle.meaning.specs.Resolved as source
use Rattle.code_drafts.specs.Items.{Item, Operand, pushed, Destination, push, alone, left_of, first_of, if_pushed}
use Rattle.code_drafts.specs.Items.{branch_true, value_count, value_items, branch_items}
use Rattle.code_drafts.specs.Items as items
use Rattle.code_drafts.specs.declared.wanted.Wanted.{Wanted}
use Rattle.code_drafts.specs.Writing.{numbered, Leaves, wanted_items, IsCondition, ReducesWord, ReducesTruth}
use Rattle.code_drafts.specs.Writing.{WritesBefore}
use Rattle.code_items.specs.ValueWriting.{pushes, both_push, ReducesAssignedWord}
use Rattle.code_drafts.proofs.WrittenItems.{both, as_items, after_one}
use Rattle.code_items.proofs.Values.{pushes_length}
use Rattle.code_items.proofs.Alternatives.{both_length}

-- the items that push an operand, before others
abbrev pub one_pushed : Operand → Value → ℕ → List Item → List Item
one_pushed o v at rest = if_pushed o (value_items at v push) [] ++ rest

-- those that push two
abbrev pub two_pushed : Operand → Value → Operand → Value → ℕ → List Item → List Item
two_pushed o v ob b at rest =
    if_pushed o (value_items at v push) []
    ++ (if_pushed ob (value_items (at + if_pushed o (value_count v push) 0) b push) [] ++ rest)

-- those that push three
abbrev pub three_pushed : Operand → Value → Operand → Value → Operand → Value → ℕ → List Item → List Item
three_pushed o v q i ow w at rest =
    if_pushed o (value_items at v push) []
    ++ (if_pushed q (value_items (at + if_pushed o (value_count v push) 0) i push) []
    ++ (if_pushed ow
    (value_items (at + if_pushed o (value_count v push) 0 + if_pushed q (value_count i push) 0) w push) [] ++ rest))

-- as the code comes to them: d and so on are the trees after its boxes

pub one_boxed : (P : Value → Type 0) (t : Value) (a d : code_value.Value) (whole : Value → Value)
    → t ≡ whole (value_of a) → d ≡ a → P (whole (value_of d)) → P t
one_boxed P t a d whole is e holds = subst P (ap (λ (x : code_value.Value). whole (value_of x)) e ∙ sym is) holds

pub two_boxed : (P : Value → Type 0) (t : Value) (a b d1 d2 : code_value.Value) (whole : Value → Value → Value)
    → t ≡ whole (value_of a) (value_of b) → d1 ≡ a → d2 ≡ b → P (whole (value_of d1) (value_of d2)) → P t
two_boxed P t a b d1 d2 whole is e1 e2 holds =
    subst P (ap (λ (x : code_value.Value). whole (value_of x) (value_of d2)) e1
    ∙ ap (λ (x : code_value.Value). whole (value_of a) (value_of x)) e2 ∙ sym is) holds

pub three_boxed : (P : Value → Type 0) (t : Value) (a b c d1 d2 d3 : code_value.Value)
    (whole : Value → Value → Value → Value) → t ≡ whole (value_of a) (value_of b) (value_of c) → d1 ≡ a → d2 ≡ b
    → d3 ≡ c → P (whole (value_of d1) (value_of d2) (value_of d3)) → P t
three_boxed P t a b c d1 d2 d3 whole is e1 e2 e3 holds =
    subst P (ap (λ (x : code_value.Value). whole (value_of x) (value_of d2) (value_of d3)) e1
    ∙ ap (λ (x : code_value.Value). whole (value_of a) (value_of x) (value_of d3)) e2
    ∙ ap (λ (x : code_value.Value). whole (value_of a) (value_of b) (value_of x)) e3 ∙ sym is) holds

-- what pushes the first of two operands
pub pair_more : (c c1 c2 : List Item) (wanted : Wanted) (o : Operand) (a b : Value) (whole : Value → Value → Value)
    → o ≡ left_of a b → ((v : Value) → o ≡ left_of v b → Leaves c c1 (wanted_items wanted (whole v b)) (pushes o v))
    → WritesBefore c1 c2 (pushes o a) → WritesBefore c c2 (wanted_items wanted (whole a b))
pair_more c c1 c2 wanted o a b whole eo link w = (link a eo).with_rest c2 w

-- a word of one operand
pub one_word : (c c1 c2 c3 : List Item) (wanted : Wanted) (d : Destination) (o : Operand) (v whole : Value)
    (item : Operand → Destination → Item) → ((n : ℕ) (p : Operand) (e : Destination) → numbered n (item p e) ≡ item p e)
    → ((at : ℕ) (e : Destination) → value_items at whole e ≡ one_pushed (alone v) v at (item (alone v) e ∷ []))
    → ((at t : ℕ) (when : Bool) → branch_items at whole when t
    ≡ one_pushed (alone v) v at (item (alone v) push ∷ branch_true pushed when t ∷ []))
    → ReducesWord c c1 wanted d → o ≡ alone v → c2 ≡ c1 ++ item o d ∷ [] → WritesBefore c2 c3 (pushes o v)
    → WritesBefore c c3 (wanted_items wanted whole)
one_word c c1 c2 c3 wanted d o v whole item plain value_is branch_is reduces eo e w =
    (reduces whole
    (λ at t when. branch_is at t when
    ∙ sym (append_assoc (if_pushed (alone v) (value_items at v push) []) (item (alone v) push ∷ [])
    (branch_true pushed when t ∷ []))
    ∙ ap (λ l. l ++ branch_true pushed when t ∷ []) (sym (value_is at push)))).with_rest c3
    (as_items (λ n at _. ap (λ x. one_pushed o v at (x ∷ [])) (plain n o d)
    ∙ ap (λ p. one_pushed p v at (item p d ∷ [])) eo ∙ sym (value_is at d))
    (after_one _ (item o d) (λ n at. pushes_length o v n at) e w))

-- a condition of one operand
pub one_condition : (c c1 c2 c3 : List Item) (wanted : Wanted) (when : Bool) (target : ℕ) (o : Operand)
    (v whole : Value) (item : Operand → Bool → ℕ → Item)
    → ((n t : ℕ) (p : Operand) (b : Bool) → numbered n (item p b t) ≡ item p b (n - t)) → IsCondition whole
    → ((at t : ℕ) (b : Bool) → branch_items at whole b t ≡ one_pushed (alone v) v at (item (alone v) b t ∷ []))
    → ReducesTruth c c1 wanted when target → o ≡ alone v → c2 ≡ c1 ++ item o when target ∷ []
    → WritesBefore c2 c3 (pushes o v) → WritesBefore c c3 (wanted_items wanted whole)
one_condition c c1 c2 c3 wanted when target o v whole item told condition branch_is reduces eo e w =
    (reduces whole condition).with_rest c3
    (as_items (λ n at _. ap (λ x. one_pushed o v at (x ∷ [])) (told n target o when)
    ∙ ap (λ p. one_pushed p v at (item p when (n - target) ∷ [])) eo ∙ sym (branch_is at (n - target) when))
    (after_one _ (item o when target) (λ n at. pushes_length o v n at) e w))

two_then : (xs ys : List Item) (i : Item) (rest : List Item)
    → xs ++ (ys ++ i ∷ rest) ≡ (xs ++ (ys ++ i ∷ [])) ++ rest
two_then xs ys i rest =
    sym (append_assoc xs (ys ++ i ∷ []) rest ∙ ap (λ l. xs ++ l) (append_assoc ys (i ∷ []) rest))

-- a word of two operands
pub two_word : (c c1 c2 c3 : List Item) (wanted : Wanted) (d : Destination) (o ob : Operand) (b : Value)
    (whole : Value → Value) (item : Operand → Operand → Destination → Item)
    → ((n : ℕ) (p q : Operand) (e : Destination) → numbered n (item p q e) ≡ item p q e)
    → ((v : Value) (at : ℕ) (e : Destination) → value_items at (whole v) e
    ≡ two_pushed (left_of v b) v (alone b) b at (item (left_of v b) (alone b) e ∷ []))
    → ((v : Value) (at t : ℕ) (when : Bool) → branch_items at (whole v) when t
    ≡ two_pushed (left_of v b) v (alone b) b at
    (item (left_of v b) (alone b) push ∷ branch_true pushed when t ∷ []))
    → ReducesWord c c1 wanted d → ob ≡ alone b → c2 ≡ c1 ++ item o ob d ∷ [] → WritesBefore c2 c3 (pushes ob b)
    → (v : Value) → o ≡ left_of v b → Leaves c c3 (wanted_items wanted (whole v)) (pushes o v)
two_word c c1 c2 c3 wanted d o ob b whole item plain value_is branch_is reduces eb e wb v eo = record {
  with_rest = λ c4 w.
      (reduces (whole v)
      (λ at t when. branch_is v at t when
      ∙ two_then (if_pushed (left_of v b) (value_items at v push) [])
      (if_pushed (alone b) (value_items (at + if_pushed (left_of v b) (value_count v push) 0) b push) [])
      (item (left_of v b) (alone b) push) (branch_true pushed when t ∷ [])
      ∙ ap (λ l. l ++ branch_true pushed when t ∷ []) (sym (value_is v at push)))).with_rest c4
      (as_items (λ n at _. ap (λ x. two_pushed o v ob b at (x ∷ [])) (plain n o ob d)
      ∙ ap (λ p. two_pushed p v ob b at (item p ob d ∷ [])) eo
      ∙ ap (λ q. two_pushed (left_of v b) v q b at (item (left_of v b) q d ∷ [])) eb ∙ sym (value_is v at d))
      (both (if_pushed o (value_count v push) 0) (λ n at. pushes_length o v n at)
      (after_one _ (item o ob d) (λ n at. pushes_length ob b n at) e wb) w));
}

-- a condition of two operands
pub two_condition : (c c1 c2 c3 : List Item) (wanted : Wanted) (when : Bool) (target : ℕ) (o ob : Operand) (b : Value)
    (whole : Value → Value) (item : Operand → Operand → Bool → ℕ → Item)
    → ((n t : ℕ) (p q : Operand) (w : Bool) → numbered n (item p q w t) ≡ item p q w (n - t))
    → ((v : Value) → IsCondition (whole v))
    → ((v : Value) (at t : ℕ) (w : Bool) → branch_items at (whole v) w t
    ≡ two_pushed (left_of v b) v (alone b) b at (item (left_of v b) (alone b) w t ∷ []))
    → ReducesTruth c c1 wanted when target → ob ≡ alone b → c2 ≡ c1 ++ item o ob when target ∷ []
    → WritesBefore c2 c3 (pushes ob b)
    → (v : Value) → o ≡ left_of v b → Leaves c c3 (wanted_items wanted (whole v)) (pushes o v)
two_condition c c1 c2 c3 wanted when target o ob b whole item told condition branch_is reduces eb e wb v eo = record {
  with_rest = λ c4 w.
      (reduces (whole v) (condition v)).with_rest c4
      (as_items (λ n at _. ap (λ x. two_pushed o v ob b at (x ∷ [])) (told n target o ob when)
      ∙ ap (λ p. two_pushed p v ob b at (item p ob when (n - target) ∷ [])) eo
      ∙ ap (λ q. two_pushed (left_of v b) v q b at (item (left_of v b) q when (n - target) ∷ [])) eb
      ∙ sym (branch_is v at (n - target) when))
      (both (if_pushed o (value_count v push) 0) (λ n at. pushes_length o v n at)
      (after_one _ (item o ob when target) (λ n at. pushes_length ob b n at) e wb) w));
}

-- an assignment to a word of a property

three_then : (xs ys zs : List Item) (i : Item) (rest : List Item)
    → xs ++ (ys ++ (zs ++ i ∷ rest)) ≡ (xs ++ (ys ++ (zs ++ i ∷ []))) ++ rest
three_then xs ys zs i rest =
    ap (λ l. xs ++ l) (two_then ys zs i rest) ∙ sym (append_assoc xs (ys ++ (zs ++ i ∷ [])) rest)

abbrev word_assigned : ℕ → Operand → Value → Operand → Value → Operand → Value → ℕ → Destination → List Item
word_assigned p o v q i ow w at d = three_pushed o v q i ow w at (items.assign_property_word p o q ow d ∷ [])

pub assigned_word_link : (c c1 c2 c3 : List Item) (wanted : Wanted) (d : Destination) (p : ℕ) (o q ow : Operand)
    (w : Value) → ReducesWord c c1 wanted d → ow ≡ alone w
    → c2 ≡ c1 ++ items.assign_property_word p o q ow d ∷ [] → WritesBefore c2 c3 (pushes ow w)
    → ReducesAssignedWord c c3 wanted p o q w
assigned_word_link c c1 c2 c3 wanted d p o q ow w reduces ew e ww v i eo eq =
    let ka = if_pushed o (value_count v push) 0 in
    let kb = if_pushed q (value_count i push) 0 in
    let item = items.assign_property_word p o q ow d in
    record {
      with_rest = λ c4 wb.
          (reduces (source.assign_property_word v p i w)
          (λ at t when. three_then (if_pushed (first_of v i w) (value_items at v push) []) _ _
          (items.assign_property_word p (first_of v i w) (left_of i w) (alone w) push)
          (branch_true pushed when t ∷ []))).with_rest c4
          (as_items (λ n at _.
          let there : at + (ka + kb) ≡ at + ka + kb = omega arith in
          ap (λ m. both_push o v q i n at ++ one_pushed ow w m (item ∷ [])) there
          ∙ append_assoc (if_pushed o (value_items at v push) []) (if_pushed q (value_items (at + ka) i push) [])
          (one_pushed ow w (at + ka + kb) (item ∷ []))
          ∙ ap (λ x. word_assigned p x v q i ow w at d) eo
          ∙ ap (λ y. word_assigned p (first_of v i w) v y i ow w at d) eq
          ∙ ap (λ z. word_assigned p (first_of v i w) v (left_of i w) i z w at d) ew)
          (both (ka + kb) (λ n at. both_length o q v i n at)
          (after_one _ item (λ n at. pushes_length ow w n at) e ww) wb));
    }

pub assigned_word_more : (c c1 c2 c3 : List Item) (wanted : Wanted) (p : ℕ) (o q : Operand) (v i w : Value)
    → o ≡ first_of v i w → q ≡ left_of i w → ReducesAssignedWord c c1 wanted p o q w → WritesBefore c1 c2 (pushes q i)
    → WritesBefore c2 c3 (pushes o v) → WritesBefore c c3 (wanted_items wanted (source.assign_property_word v p i w))
assigned_word_more c c1 c2 c3 wanted p o q v i w eo eq link wi wv = (link v i eo eq).with_rest c3
    (both (if_pushed o (value_count v push) 0) (λ n at. pushes_length o v n at) wi wv)
