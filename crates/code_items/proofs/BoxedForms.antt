-- What is written for an expression by its form, as the code comes to it: d and so on are the trees after the boxes.
use Rattle.std.proofs.Common.{◌≡◌, ℕ, List, Bool, Result, OnOk, map, sym, subst, refl}
use Rattle.std.specs.Global.{Vec, Box}
use Rattle.std.specs.Prelude.{Ok, Err}
use Rattle.syntax_trees.specs.declared.tree.Binary.{Binary}
use Rattle.syntax_trees.specs.declared.tree.Comparison.{Comparison}
use Rattle.syntax_trees.specs.declared.tree.Containment.{Containment}
use Rattle.syntax_trees.specs.declared.tree.Equality.{Equality}
use Rattle.syntax_trees.specs.declared.tree.Prefix.{Prefix}
use Rattle.syntax_trees.specs.declared.tree.Relative.{Relative}
use Rattle.syntax_trees.specs.declared.tree.Step.{Step}
use Rattle.syntax_trees.specs.declared.tree.Width.{Width}
use Rattle.meaning.specs.declared.resolved.Variable.{Variable}
use Rattle.meaning.specs.declared.resolved.Value as code_value
use Rattle.meaning.specs.declared.resolved.Value.TheVariants as forms
use Rattle.meaning.specs.Resolved.{Value, more}
use Rattle.meaning.specs.Views.{value_of, values_of, chained, propertied}
use Rattle.meaning.specs.Resolved as source
use Rattle.code_drafts.specs.Items.{Item}
use Rattle.code_drafts.specs.declared.wanted.Wanted.{Wanted}
use Rattle.code_drafts.specs.Writing.{wanted_items, link_of, WritesBefore}
use Rattle.code_drafts.proofs.Trees.{chain_is, equal_is, step_before_is, assign_property_word_is, number_is, read_is}
use Rattle.code_drafts.proofs.Trees.{call_is, prefixed_is, step_after_is, compare_is, assign_is, entry_is}
use Rattle.code_drafts.proofs.Trees.{assign_entry_is, relative_is, contained_is, has_is, provides_is, property_is}
use Rattle.code_drafts.proofs.Trees.{property_size_is, property_word_is, assign_property_is}
use Rattle.code_items.proofs.ObjectForms.{one_boxed, two_boxed, three_boxed}

-- what a call's answer leads to, if memory sufficed
pub on_ok : {T E P Q : Type 0} (result : Result T E) → (P → Q) → OnOk result P → OnOk result Q
on_ok (Ok x) next h = next h
on_ok (Err e) next h = tt

-- what is wanted of a value was written, if memory sufficed
abbrev pub WroteForm : {T E : Type 0} → Result T E → List Item → List Item → Wanted → Value → Type 0
WroteForm r c c1 wanted v = OnOk r (WritesBefore c c1 (wanted_items wanted v))

pub number_form : {T E : Type 0} (r : Result T E) (c c1 : List Item) (wanted : Wanted) (e : code_value.Value) (n : ℕ)
    → e ≡ forms.Number n → WroteForm r c c1 wanted (source.number n) → WroteForm r c c1 wanted (value_of e)
number_form r c c1 wanted e n is holds =
    subst (λ v. WroteForm r c c1 wanted v) (sym (number_is e n is)) holds

pub read_form : {T E : Type 0} (r : Result T E) (c c1 : List Item) (wanted : Wanted) (e : code_value.Value)
    (x : Variable) → e ≡ forms.Read x → WroteForm r c c1 wanted (source.read x) → WroteForm r c c1 wanted (value_of e)
read_form r c c1 wanted e x is holds =
    subst (λ v. WroteForm r c c1 wanted v) (sym (read_is e x is)) holds

pub step_before_form : {T E : Type 0} (r : Result T E) (c c1 : List Item) (wanted : Wanted) (e : code_value.Value)
    (op : Step) (x : Variable) → e ≡ forms.StepBefore op x → WroteForm r c c1 wanted (source.step_before op x)
    → WroteForm r c c1 wanted (value_of e)
step_before_form r c c1 wanted e op x is holds =
    subst (λ v. WroteForm r c c1 wanted v) (sym (step_before_is e op x is)) holds

pub step_after_form : {T E : Type 0} (r : Result T E) (c c1 : List Item) (wanted : Wanted) (e : code_value.Value)
    (x : Variable) (op : Step) → e ≡ forms.StepAfter x op → WroteForm r c c1 wanted (source.step_after x op)
    → WroteForm r c c1 wanted (value_of e)
step_after_form r c c1 wanted e x op is holds =
    subst (λ v. WroteForm r c c1 wanted v) (sym (step_after_is e x op is)) holds

pub call_form : {T E : Type 0} (r : Result T E) (c c1 : List Item) (wanted : Wanted) (e : code_value.Value) (k : ℕ)
    (es : Vec code_value.Value) (ds : List code_value.Value) → e ≡ forms.Call k es → ds ≡ es.items
    → WroteForm r c c1 wanted (source.call k (values_of (map value_of ds))) → WroteForm r c c1 wanted (value_of e)
call_form r c c1 wanted e k es ds is es_are holds =
    let P : List code_value.Value
    → Type 0 = λ l. WroteForm r c c1 wanted (source.call k (values_of (map value_of l))) in
    subst (λ v. WroteForm r c c1 wanted v) (sym (call_is e k es is)) (subst P es_are holds)

pub prefixed_form : {T E : Type 0} (r : Result T E) (c c1 : List Item) (wanted : Wanted) (e : code_value.Value)
    (op : Prefix) (b : Box code_value.Value) (d : code_value.Value) → e ≡ forms.Prefixed op b → d ≡ b.value
    → WroteForm r c c1 wanted (source.prefixed op (value_of d)) → WroteForm r c c1 wanted (value_of e)
prefixed_form r c c1 wanted e op b d is d_is holds =
    one_boxed (λ v. WroteForm r c c1 wanted v) _ _ _ (λ v. source.prefixed op v) (prefixed_is e op b is) d_is holds

pub assign_form : {T E : Type 0} (r : Result T E) (c c1 : List Item) (wanted : Wanted) (e : code_value.Value)
    (x : Variable) (b : Box code_value.Value) (d : code_value.Value) → e ≡ forms.Assign x b → d ≡ b.value
    → WroteForm r c c1 wanted (source.assign x (value_of d)) → WroteForm r c c1 wanted (value_of e)
assign_form r c c1 wanted e x b d is d_is holds =
    one_boxed (λ v. WroteForm r c c1 wanted v) _ _ _ (λ v. source.assign x v) (assign_is e x b is) d_is holds

pub entry_form : {T E : Type 0} (r : Result T E) (c c1 : List Item) (wanted : Wanted) (e : code_value.Value)
    (width : Width) (a : ℕ) (b : Box code_value.Value) (d : code_value.Value) → e ≡ forms.Entry width a b
    → d ≡ b.value → WroteForm r c c1 wanted (source.entry width a (value_of d)) → WroteForm r c c1 wanted (value_of e)
entry_form r c c1 wanted e width a b d is d_is holds =
    one_boxed (λ v. WroteForm r c c1 wanted v) _ _ _ (λ v. source.entry width a v) (entry_is e width a b is) d_is holds

pub relative_form : {T E : Type 0} (r : Result T E) (c c1 : List Item) (wanted : Wanted) (e : code_value.Value)
    (k : Relative) (b : Box code_value.Value) (d : code_value.Value) → e ≡ forms.Relative k b → d ≡ b.value
    → WroteForm r c c1 wanted (source.relative k (value_of d)) → WroteForm r c c1 wanted (value_of e)
relative_form r c c1 wanted e k b d is d_is holds =
    one_boxed (λ v. WroteForm r c c1 wanted v) _ _ _ (λ v. source.relative k v) (relative_is e k b is) d_is holds

pub has_form : {T E : Type 0} (r : Result T E) (c c1 : List Item) (wanted : Wanted) (e : code_value.Value)
    (positive : Bool) (b : Box code_value.Value) (a : ℕ) (d : code_value.Value) → e ≡ forms.Has positive b a
    → d ≡ b.value → WroteForm r c c1 wanted (source.has positive (value_of d) a) → WroteForm r c c1 wanted (value_of e)
has_form r c c1 wanted e positive b a d is d_is holds =
    one_boxed (λ v. WroteForm r c c1 wanted v) _ _ _
    (λ v. source.has positive v a) (has_is e positive b a is) d_is holds

pub provides_form : {T E : Type 0} (r : Result T E) (c c1 : List Item) (wanted : Wanted) (e : code_value.Value)
    (b : Box code_value.Value) (p : ℕ) (d : code_value.Value) → e ≡ forms.Provides b p → d ≡ b.value
    → WroteForm r c c1 wanted (source.provides (value_of d) p) → WroteForm r c c1 wanted (value_of e)
provides_form r c c1 wanted e b p d is d_is holds =
    one_boxed (λ v. WroteForm r c c1 wanted v) _ _ _ (λ v. source.provides v p) (provides_is e b p is) d_is holds

pub property_form : {T E : Type 0} (r : Result T E) (c c1 : List Item) (wanted : Wanted) (e : code_value.Value)
    (b : Box code_value.Value) (p : ℕ) (ps : Vec ℕ) (d : code_value.Value) (ds : List ℕ) → e ≡ forms.Property b p ps
    → d ≡ b.value → ds ≡ ps.items → WroteForm r c c1 wanted (propertied (source.property (value_of d) p) ds)
    → WroteForm r c c1 wanted (value_of e)
property_form r c c1 wanted e b p ps d ds is d_is ps_are holds =
    let Q : List ℕ → Type 0 = λ l. WroteForm r c c1 wanted (propertied (source.property (value_of d) p) l) in
    one_boxed (λ v. WroteForm r c c1 wanted v) _ _ _ (λ v. propertied (source.property v p) ps.items)
    (property_is e b p ps is) d_is (subst Q ps_are holds)

pub property_size_form : {T E : Type 0} (r : Result T E) (c c1 : List Item) (wanted : Wanted) (e : code_value.Value)
    (b : Box code_value.Value) (p : ℕ) (d : code_value.Value) → e ≡ forms.PropertySize b p → d ≡ b.value
    → WroteForm r c c1 wanted (source.property_size (value_of d) p) → WroteForm r c c1 wanted (value_of e)
property_size_form r c c1 wanted e b p d is d_is holds =
    one_boxed (λ v. WroteForm r c c1 wanted v) _ _ _
    (λ v. source.property_size v p) (property_size_is e b p is) d_is holds

pub compare_form : {T E : Type 0} (r : Result T E) (c c1 : List Item) (wanted : Wanted) (e : code_value.Value)
    (b1 : Box code_value.Value) (op : Comparison) (b2 : Box code_value.Value) (d1 d2 : code_value.Value)
    → e ≡ forms.Compare b1 op b2 → d1 ≡ b1.value → d2 ≡ b2.value
    → WroteForm r c c1 wanted (source.compare op (value_of d1) (value_of d2)) → WroteForm r c c1 wanted (value_of e)
compare_form r c c1 wanted e b1 op b2 d1 d2 is d1_is d2_is holds =
    two_boxed (λ v. WroteForm r c c1 wanted v) _ _ _ _ _ (λ v w. source.compare op v w)
    (compare_is e b1 op b2 is) d1_is d2_is holds

pub assign_entry_form : {T E : Type 0} (r : Result T E) (c c1 : List Item) (wanted : Wanted) (e : code_value.Value)
    (width : Width) (a : ℕ) (b1 b2 : Box code_value.Value) (d1 d2 : code_value.Value)
    → e ≡ forms.AssignEntry width a b1 b2 → d1 ≡ b1.value → d2 ≡ b2.value
    → WroteForm r c c1 wanted (source.assign_entry width a (value_of d1) (value_of d2))
    → WroteForm r c c1 wanted (value_of e)
assign_entry_form r c c1 wanted e width a b1 b2 d1 d2 is d1_is d2_is holds =
    two_boxed (λ v. WroteForm r c c1 wanted v) _ _ _ _ _ (λ v w. source.assign_entry width a v w)
    (assign_entry_is e width a b1 b2 is) d1_is d2_is holds

pub contained_form : {T E : Type 0} (r : Result T E) (c c1 : List Item) (wanted : Wanted) (e : code_value.Value)
    (b1 : Box code_value.Value) (op : Containment) (b2 : Box code_value.Value) (d1 d2 : code_value.Value)
    → e ≡ forms.Contained b1 op b2 → d1 ≡ b1.value → d2 ≡ b2.value
    → WroteForm r c c1 wanted (source.contained op (value_of d1) (value_of d2)) → WroteForm r c c1 wanted (value_of e)
contained_form r c c1 wanted e b1 op b2 d1 d2 is d1_is d2_is holds =
    two_boxed (λ v. WroteForm r c c1 wanted v) _ _ _ _ _ (λ v w. source.contained op v w)
    (contained_is e b1 op b2 is) d1_is d2_is holds

pub property_word_form : {T E : Type 0} (r : Result T E) (c c1 : List Item) (wanted : Wanted) (e : code_value.Value)
    (b1 : Box code_value.Value) (p : ℕ) (b2 : Box code_value.Value) (d1 d2 : code_value.Value)
    → e ≡ forms.PropertyWord b1 p b2 → d1 ≡ b1.value → d2 ≡ b2.value
    → WroteForm r c c1 wanted (source.property_word (value_of d1) p (value_of d2))
    → WroteForm r c c1 wanted (value_of e)
property_word_form r c c1 wanted e b1 p b2 d1 d2 is d1_is d2_is holds =
    two_boxed (λ v. WroteForm r c c1 wanted v) _ _ _ _ _ (λ v w. source.property_word v p w)
    (property_word_is e b1 p b2 is) d1_is d2_is holds

pub assign_property_form : {T E : Type 0} (r : Result T E) (c c1 : List Item) (wanted : Wanted) (e : code_value.Value)
    (b1 : Box code_value.Value) (p : ℕ) (b2 : Box code_value.Value) (d1 d2 : code_value.Value)
    → e ≡ forms.AssignProperty b1 p b2 → d1 ≡ b1.value → d2 ≡ b2.value
    → WroteForm r c c1 wanted (source.assign_property (value_of d1) p (value_of d2))
    → WroteForm r c c1 wanted (value_of e)
assign_property_form r c c1 wanted e b1 p b2 d1 d2 is d1_is d2_is holds =
    two_boxed (λ v. WroteForm r c c1 wanted v) _ _ _ _ _ (λ v w. source.assign_property v p w)
    (assign_property_is e b1 p b2 is) d1_is d2_is holds

pub assign_property_word_form : {T E : Type 0} (r : Result T E) (c c1 : List Item) (wanted : Wanted)
    (e : code_value.Value) (b1 : Box code_value.Value) (p : ℕ) (b2 b3 : Box code_value.Value)
    (d1 d2 d3 : code_value.Value) → e ≡ forms.AssignPropertyWord b1 p b2 b3 → d1 ≡ b1.value → d2 ≡ b2.value
    → d3 ≡ b3.value → WroteForm r c c1 wanted (source.assign_property_word (value_of d1) p (value_of d2) (value_of d3))
    → WroteForm r c c1 wanted (value_of e)
assign_property_word_form r c c1 wanted e b1 p b2 b3 d1 d2 d3 is d1_is d2_is d3_is holds =
    three_boxed (λ v. WroteForm r c c1 wanted v) _ _ _ _ _ _ _ (λ v i w. source.assign_property_word v p i w)
    (assign_property_word_is e b1 p b2 b3 is) d1_is d2_is d3_is holds

pub chain_form : {T E : Type 0} (r : Result T E) (c c1 : List Item) (wanted : Wanted) (e : code_value.Value)
    (b1 : Box code_value.Value) (op : Binary) (b2 : Box code_value.Value) (ls : Vec (Binary × code_value.Value))
    (d1 d2 : code_value.Value) (ds : List (Binary × code_value.Value)) → e ≡ forms.Chain b1 op b2 ls → d1 ≡ b1.value
    → d2 ≡ b2.value → ds ≡ ls.items
    → WroteForm r c c1 wanted (chained (source.binary op (value_of d1) (value_of d2)) (map link_of ds))
    → WroteForm r c c1 wanted (value_of e)
chain_form r c c1 wanted e b1 op b2 ls d1 d2 ds is d1_is d2_is ls_are holds =
    let Q : List (Binary × code_value.Value) → Type 0 = λ l.
    WroteForm r c c1 wanted (chained (source.binary op (value_of b1.value) (value_of b2.value)) (map link_of l)) in
    subst (λ v. WroteForm r c c1 wanted v) (sym (chain_is e b1 op b2 ls is)) (subst Q ls_are
    (two_boxed (λ v. WroteForm r c c1 wanted (chained v (map link_of ds))) _ _ _ _ _ (λ v w. source.binary op v w) refl
    d1_is d2_is holds))

pub equal_form : {T E : Type 0} (r : Result T E) (c c1 : List Item) (wanted : Wanted) (e : code_value.Value)
    (b1 : Box code_value.Value) (op : Equality) (b2 : Box code_value.Value) (es : Vec code_value.Value)
    (d1 d2 : code_value.Value) (ds : List code_value.Value) → e ≡ forms.Equal b1 op b2 es → d1 ≡ b1.value
    → d2 ≡ b2.value → ds ≡ es.items
    → WroteForm r c c1 wanted (source.equal op (value_of d1) (more (value_of d2) (values_of (map value_of ds))))
    → WroteForm r c c1 wanted (value_of e)
equal_form r c c1 wanted e b1 op b2 es d1 d2 ds is d1_is d2_is es_are holds =
    let Q : List code_value.Value → Type 0 = λ l.
    WroteForm r c c1 wanted (source.equal op (value_of b1.value) (more (value_of b2.value) (values_of
    (map value_of l)))) in
    subst (λ v. WroteForm r c c1 wanted v) (sym (equal_is e b1 op b2 es is)) (subst Q es_are
    (two_boxed (λ v. WroteForm r c c1 wanted v) _ _ _ _ _
    (λ v w. source.equal op v (more w (values_of (map value_of ds)))) refl d1_is d2_is holds))
