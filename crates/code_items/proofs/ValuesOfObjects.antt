-- What is written for values that act on objects and properties.
use Rattle.std.proofs.Common.{◌≡◌, ℕ, List, [], ◌∷◌, ◌++◌, Bool, ap, ◌∙◌, refl}
use Rattle.syntax_trees.specs.declared.tree.Containment.{Containment}
use Rattle.syntax_trees.specs.declared.tree.Relative.{Relative}
use Rattle.meaning.specs.Resolved.{Value}
use Rattle.meaning.specs.Resolved as source
use Rattle.code_drafts.specs.Items.{Item, Operand, Destination, alone, left_of, agrees, containment_when}
use Rattle.code_drafts.specs.Items as items
use Rattle.code_drafts.specs.declared.wanted.Wanted.{Wanted}
use Rattle.code_drafts.specs.Writing.{wanted_items, ReducesWord, ReducesTruth, WritesBefore}
use Rattle.code_items.specs.ValueWriting.{pushes, ReducesContained, ReducesPropertyWord, ReducesAssignedProperty}
use Rattle.code_items.proofs.ObjectForms.{one_word, one_condition, two_word, two_condition, pair_more}

-- Of one operand

pub relative_written : (c c1 c2 c3 : List Item) (wanted : Wanted) (d : Destination) (r : Relative) (o : Operand)
    (v : Value) → ReducesWord c c1 wanted d → o ≡ alone v → c2 ≡ c1 ++ items.relative r o d ∷ []
    → WritesBefore c2 c3 (pushes o v) → WritesBefore c c3 (wanted_items wanted (source.relative r v))
relative_written c c1 c2 c3 wanted d r o v =
    one_word c c1 c2 c3 wanted d o v (source.relative r v) (items.relative r) (λ n p e. refl) (λ at e. refl)
    (λ at t when. refl)

pub property_written : (c c1 c2 c3 : List Item) (wanted : Wanted) (d : Destination) (p : ℕ) (o : Operand) (v : Value)
    → ReducesWord c c1 wanted d → o ≡ alone v → c2 ≡ c1 ++ items.property o p d ∷ []
    → WritesBefore c2 c3 (pushes o v) → WritesBefore c c3 (wanted_items wanted (source.property v p))
property_written c c1 c2 c3 wanted d p o v =
    one_word c c1 c2 c3 wanted d o v (source.property v p) (λ o d. items.property o p d) (λ n q e. refl)
    (λ at e. refl) (λ at t when. refl)

pub property_size_written : (c c1 c2 c3 : List Item) (wanted : Wanted) (d : Destination) (p : ℕ) (o : Operand)
    (v : Value) → ReducesWord c c1 wanted d → o ≡ alone v → c2 ≡ c1 ++ items.property_size o p d ∷ []
    → WritesBefore c2 c3 (pushes o v) → WritesBefore c c3 (wanted_items wanted (source.property_size v p))
property_size_written c c1 c2 c3 wanted d p o v =
    one_word c c1 c2 c3 wanted d o v (source.property_size v p) (λ o d. items.property_size o p d) (λ n q e. refl)
    (λ at e. refl) (λ at t when. refl)

pub has_written : (c c1 c2 c3 : List Item) (wanted : Wanted) (when known : Bool) (target : ℕ) (positive : Bool)
    (a : ℕ) (o : Operand) (v : Value) → ReducesTruth c c1 wanted when target → o ≡ alone v
    → known ≡ agrees positive when → c2 ≡ c1 ++ items.has o a known target ∷ []
    → WritesBefore c2 c3 (pushes o v) → WritesBefore c c3 (wanted_items wanted (source.has positive v a))
has_written c c1 c2 c3 wanted when known target positive a o v reduces eo known_is e w =
    one_condition c c1 c2 c3 wanted when target o v (source.has positive v a)
    (λ o b place. items.has o a (agrees positive b) place) (λ n place p b. refl) (λ at d. refl) (λ at place b. refl)
    reduces eo (e ∙ ap (λ b. c1 ++ items.has o a b target ∷ []) known_is) w

pub provides_written : (c c1 c2 c3 : List Item) (wanted : Wanted) (when : Bool) (target p : ℕ) (o : Operand)
    (v : Value) → ReducesTruth c c1 wanted when target → o ≡ alone v → c2 ≡ c1 ++ items.provides o p when target ∷ []
    → WritesBefore c2 c3 (pushes o v) → WritesBefore c c3 (wanted_items wanted (source.provides v p))
provides_written c c1 c2 c3 wanted when target p o v =
    one_condition c c1 c2 c3 wanted when target o v (source.provides v p) (λ o b place. items.provides o p b place)
    (λ n place q b. refl) (λ at d. refl) (λ at place b. refl)

-- Of two operands, where the operand for the object is known

pub containment_written : (c c1 c2 c3 : List Item) (wanted : Wanted) (when known : Bool) (target : ℕ)
    (op : Containment) (o ob : Operand) (b : Value) → ReducesTruth c c1 wanted when target → ob ≡ alone b
    → known ≡ containment_when op when → c2 ≡ c1 ++ items.is_in o ob known target ∷ []
    → WritesBefore c2 c3 (pushes ob b)
    → ReducesContained c c3 wanted op o b
containment_written c c1 c2 c3 wanted when known target op o ob b reduces eb known_is e wb =
    two_condition c c1 c2 c3 wanted when target o ob b (λ v. source.contained op v b)
    (λ o q w place. items.is_in o q (containment_when op w) place) (λ n place p q w. refl) (λ v at d. refl)
    (λ v at place w. refl) reduces eb (e ∙ ap (λ w. c1 ++ items.is_in o ob w target ∷ []) known_is) wb

pub indexed_property_written : (c c1 c2 c3 : List Item) (wanted : Wanted) (d : Destination) (p : ℕ)
    (o oi : Operand) (i : Value) → ReducesWord c c1 wanted d → oi ≡ alone i
    → c2 ≡ c1 ++ items.property_word p o oi d ∷ [] → WritesBefore c2 c3 (pushes oi i)
    → ReducesPropertyWord c c3 wanted p o i
indexed_property_written c c1 c2 c3 wanted d p o oi i =
    two_word c c1 c2 c3 wanted d o oi i (λ v. source.property_word v p i) (λ o q d. items.property_word p o q d)
    (λ n o q e. refl) (λ v at e. refl) (λ v at t when. refl)

pub assigned_property_written : (c c1 c2 c3 : List Item) (wanted : Wanted) (d : Destination) (p : ℕ)
    (o ow : Operand) (w : Value) → ReducesWord c c1 wanted d → ow ≡ alone w
    → c2 ≡ c1 ++ items.assign_property p o ow d ∷ [] → WritesBefore c2 c3 (pushes ow w)
    → ReducesAssignedProperty c c3 wanted p o w
assigned_property_written c c1 c2 c3 wanted d p o ow w =
    two_word c c1 c2 c3 wanted d o ow w (λ v. source.assign_property v p w) (λ o q d. items.assign_property p o q d)
    (λ n o q e. refl) (λ v at e. refl) (λ v at t when. refl)

-- What pushes the object before them

pub contained_more : (c c1 c2 : List Item) (wanted : Wanted) (op : Containment) (o : Operand) (a b : Value)
    → o ≡ left_of a b → ReducesContained c c1 wanted op o b → WritesBefore c1 c2 (pushes o a)
    → WritesBefore c c2 (wanted_items wanted (source.contained op a b))
contained_more c c1 c2 wanted op o a b e link w =
    pair_more c c1 c2 wanted o a b (λ v w. source.contained op v w) e link w

pub property_word_more : (c c1 c2 : List Item) (wanted : Wanted) (p : ℕ) (o : Operand) (a i : Value)
    → o ≡ left_of a i → ReducesPropertyWord c c1 wanted p o i → WritesBefore c1 c2 (pushes o a)
    → WritesBefore c c2 (wanted_items wanted (source.property_word a p i))
property_word_more c c1 c2 wanted p o a i e link w =
    pair_more c c1 c2 wanted o a i (λ v w. source.property_word v p w) e link w

pub assign_property_more : (c c1 c2 : List Item) (wanted : Wanted) (p : ℕ) (o : Operand) (a v : Value)
    → o ≡ left_of a v → ReducesAssignedProperty c c1 wanted p o v → WritesBefore c1 c2 (pushes o a)
    → WritesBefore c c2 (wanted_items wanted (source.assign_property a p v))
assign_property_more c c1 c2 wanted p o a v e link w =
    pair_more c c1 c2 wanted o a v (λ v w. source.assign_property v p w) e link w
