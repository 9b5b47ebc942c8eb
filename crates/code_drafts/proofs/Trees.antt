-- What a tree of the code stands for, a variant at a time.
use Rattle.std.proofs.Common.{◌≡◌, ℕ, suc, ◌+◌, ◌-◌, List, [], ◌∷◌, length, Bool, true, false, map, arith, refl, ap, sym, ◌∙◌}
use Rattle.std.specs.Prelude.{◌||◌, not, nat_le, nat_lt, slice_get, Some}
use Rattle.std.specs.Global.{Vec, Box}
use Rattle.syntax_trees.specs.declared.tree.Binary.{Binary}
use Rattle.syntax_trees.specs.declared.tree.Binary.TheVariants as binaries
use Rattle.syntax_trees.specs.declared.tree.Comparison.{Comparison}
use Rattle.syntax_trees.specs.declared.tree.Containment.{Containment}
use Rattle.syntax_trees.specs.declared.tree.Equality.{Equality}
use Rattle.syntax_trees.specs.declared.tree.Prefix.{Prefix}
use Rattle.syntax_trees.specs.declared.tree.Relative.{Relative}
use Rattle.syntax_trees.specs.declared.tree.Step.{Step}
use Rattle.syntax_trees.specs.declared.tree.Width.{Width}
use Rattle.meaning.specs.declared.resolved.Variable.{Variable}
use Rattle.meaning.specs.declared.resolved.Value as code_value
use Rattle.meaning.specs.declared.resolved.Value.TheVariants as v
use Rattle.meaning.specs.declared.resolved.Value.TheFolds.{fold-roll-Value}
use Rattle.meaning.specs.Resolved.{Value, number, read, call, prefixed, step_before, step_after, binary, compare, equal}
use Rattle.meaning.specs.Resolved.{entry, assign_entry, assign_property_word, relative, contained, has, provides}
use Rattle.meaning.specs.Resolved.{property, property_size, property_word, assign_property, assign, more}
use Rattle.meaning.specs.Views.{values_of, chained, propertied, value_of, value_layer}
use Rattle.meaning.specs.Accepted.{count_of}
use Rattle.code_drafts.specs.Items as items
use Rattle.code_drafts.specs.Writing.{link_of, change_links, is_logical, last_operator, values_in}

pub number_is : (e : code_value.Value) (n : ℕ) → e ≡ v.Number n → value_of e ≡ number n
number_is e n is = ap value_of is ∙ ap value_of (sym (v.rolls-Number n)) ∙ fold-roll-Value Value value_layer _

pub read_is : (e : code_value.Value) (x : Variable) → e ≡ v.Read x → value_of e ≡ read x
read_is e x is = ap value_of is ∙ ap value_of (sym (v.rolls-Read x)) ∙ fold-roll-Value Value value_layer _

pub call_is : (e : code_value.Value) (r : ℕ) (es : Vec code_value.Value) → e ≡ v.Call r es → value_of e
    ≡ call r (values_of (map value_of es.items))
call_is e r es is = ap value_of is ∙ ap value_of (sym (v.rolls-Call r es)) ∙ fold-roll-Value Value value_layer _

pub prefixed_is : (e : code_value.Value) (op : Prefix) (b : Box code_value.Value) → e ≡ v.Prefixed op b → value_of e
    ≡ prefixed op (value_of b.value)
prefixed_is e op b is = ap value_of is ∙ ap value_of (sym (v.rolls-Prefixed op b)) ∙ fold-roll-Value Value value_layer _

pub step_before_is : (e : code_value.Value) (op : Step) (x : Variable) → e ≡ v.StepBefore op x
    → value_of e ≡ step_before op x
step_before_is e op x is =
    ap value_of is ∙ ap value_of (sym (v.rolls-StepBefore op x)) ∙ fold-roll-Value Value value_layer _

pub step_after_is : (e : code_value.Value) (x : Variable) (op : Step) → e ≡ v.StepAfter x op
    → value_of e ≡ step_after x op
step_after_is e x op is =
    ap value_of is ∙ ap value_of (sym (v.rolls-StepAfter x op)) ∙ fold-roll-Value Value value_layer _

pub chain_is : (e : code_value.Value) (a : Box code_value.Value) (op : Binary) (b : Box code_value.Value)
    (ls : Vec (Binary × code_value.Value)) → e ≡ v.Chain a op b ls
    → value_of e ≡ chained (binary op (value_of a.value) (value_of b.value)) (map link_of ls.items)
chain_is e a op b ls is =
    ap value_of is ∙ ap value_of (sym (v.rolls-Chain a op b ls)) ∙ fold-roll-Value Value value_layer _

pub compare_is : (e : code_value.Value) (a : Box code_value.Value) (op : Comparison) (b : Box code_value.Value)
    → e ≡ v.Compare a op b
    → value_of e ≡ compare op (value_of a.value) (value_of b.value)
compare_is e a op b is =
    ap value_of is ∙ ap value_of (sym (v.rolls-Compare a op b)) ∙ fold-roll-Value Value value_layer _

pub equal_is : (e : code_value.Value) (a : Box code_value.Value) (op : Equality) (b : Box code_value.Value)
    (es : Vec code_value.Value) → e
    ≡ v.Equal a op b es
    → value_of e ≡ equal op (value_of a.value) (more (value_of b.value) (values_of (map value_of es.items)))
equal_is e a op b es is =
    ap value_of is ∙ ap value_of (sym (v.rolls-Equal a op b es)) ∙ fold-roll-Value Value value_layer _

pub assign_is : (e : code_value.Value) (x : Variable) (b : Box code_value.Value) → e ≡ v.Assign x b → value_of e
    ≡ assign x (value_of b.value)
assign_is e x b is = ap value_of is ∙ ap value_of (sym (v.rolls-Assign x b)) ∙ fold-roll-Value Value value_layer _

pub entry_is : (e : code_value.Value) (width : Width) (a : ℕ) (b : Box code_value.Value) → e ≡ v.Entry width a b
    → value_of e ≡ entry width a (value_of b.value)
entry_is e width a b is =
    ap value_of is ∙ ap value_of (sym (v.rolls-Entry width a b)) ∙ fold-roll-Value Value value_layer _

pub assign_entry_is : (e : code_value.Value) (width : Width) (a : ℕ) (b c : Box code_value.Value)
    → e ≡ v.AssignEntry width a b c → value_of e ≡ assign_entry width a (value_of b.value) (value_of c.value)
assign_entry_is e width a b c is =
    ap value_of is ∙ ap value_of (sym (v.rolls-AssignEntry width a b c)) ∙ fold-roll-Value Value value_layer _

pub relative_is : (e : code_value.Value) (r : Relative) (b : Box code_value.Value) → e ≡ v.Relative r b
    → value_of e ≡ relative r (value_of b.value)
relative_is e r b is = ap value_of is ∙ ap value_of (sym (v.rolls-Relative r b)) ∙ fold-roll-Value Value value_layer _

pub contained_is : (e : code_value.Value) (a : Box code_value.Value) (op : Containment) (b : Box code_value.Value)
    → e ≡ v.Contained a op b
    → value_of e ≡ contained op (value_of a.value) (value_of b.value)
contained_is e a op b is =
    ap value_of is ∙ ap value_of (sym (v.rolls-Contained a op b)) ∙ fold-roll-Value Value value_layer _

pub has_is : (e : code_value.Value) (positive : Bool) (b : Box code_value.Value) (a : ℕ) → e ≡ v.Has positive b a
    → value_of e ≡ has positive (value_of b.value) a
has_is e positive b a is =
    ap value_of is ∙ ap value_of (sym (v.rolls-Has positive b a)) ∙ fold-roll-Value Value value_layer _

pub provides_is : (e : code_value.Value) (b : Box code_value.Value) (p : ℕ) → e ≡ v.Provides b p
    → value_of e ≡ provides (value_of b.value) p
provides_is e b p is = ap value_of is ∙ ap value_of (sym (v.rolls-Provides b p)) ∙ fold-roll-Value Value value_layer _

pub property_is : (e : code_value.Value) (b : Box code_value.Value) (p : ℕ) (ps : Vec ℕ) → e ≡ v.Property b p ps
    → value_of e ≡ propertied (property (value_of b.value) p) ps.items
property_is e b p ps is =
    ap value_of is ∙ ap value_of (sym (v.rolls-Property b p ps)) ∙ fold-roll-Value Value value_layer _

pub property_size_is : (e : code_value.Value) (b : Box code_value.Value) (p : ℕ) → e ≡ v.PropertySize b p
    → value_of e ≡ property_size (value_of b.value) p
property_size_is e b p is =
    ap value_of is ∙ ap value_of (sym (v.rolls-PropertySize b p)) ∙ fold-roll-Value Value value_layer _

pub property_word_is : (e : code_value.Value) (b : Box code_value.Value) (p : ℕ) (i : Box code_value.Value)
    → e ≡ v.PropertyWord b p i
    → value_of e ≡ property_word (value_of b.value) p (value_of i.value)
property_word_is e b p i is =
    ap value_of is ∙ ap value_of (sym (v.rolls-PropertyWord b p i)) ∙ fold-roll-Value Value value_layer _

pub assign_property_is : (e : code_value.Value) (b : Box code_value.Value) (p : ℕ) (d : Box code_value.Value)
    → e ≡ v.AssignProperty b p d
    → value_of e ≡ assign_property (value_of b.value) p (value_of d.value)
assign_property_is e b p d is =
    ap value_of is ∙ ap value_of (sym (v.rolls-AssignProperty b p d)) ∙ fold-roll-Value Value value_layer _

pub assign_property_word_is : (e : code_value.Value) (a : Box code_value.Value) (p : ℕ) (b c : Box code_value.Value)
    → e ≡ v.AssignPropertyWord a p b c
    → value_of e ≡ assign_property_word (value_of a.value) p (value_of b.value) (value_of c.value)
assign_property_word_is e a p b c is =
    ap value_of is ∙ ap value_of (sym (v.rolls-AssignPropertyWord a p b c)) ∙ fold-roll-Value Value value_layer _

pub few_counted : (xs : List code_value.Value) → count_of (values_of (map value_of xs)) ≡ length xs
few_counted [] = refl
few_counted (x ∷ xs) = omega (arith, few_counted xs)

pub chain_pushed : (e : code_value.Value) (a : Box code_value.Value) (op : Binary) (b : Box code_value.Value)
    (ls : Vec (Binary × code_value.Value)) → e ≡ v.Chain a op b ls → items.pushed ≡ items.alone (value_of e)
chain_pushed e a op b ls is = go (value_of a.value) op (value_of b.value) (map link_of ls.items)
    ∙ ap items.alone (sym (chain_is e a op b ls is))
  where
    go : (x : Value) (op : Binary) (y : Value) (ls : List (Binary × Value)) → items.pushed
        ≡ items.alone (chained (binary op x y) ls)
    go x op y [] = refl
    go x op y (l ∷ ls) = go (binary op x y) l.0 l.1 ls

pub chain_changes : (z : Variable) (e : code_value.Value) (a : Box code_value.Value) (op : Binary)
    (b : Box code_value.Value)
    (ls : Vec (Binary × code_value.Value)) → e ≡ v.Chain a op b ls
    → items.changes z (value_of e)
    ≡ ((items.changes z (value_of a.value) || items.changes z (value_of b.value)) || change_links z
    (map link_of ls.items))
chain_changes z e a op b ls is = ap (items.changes z) (chain_is e a op b ls is)
    ∙ go (binary op (value_of a.value) (value_of b.value)) (map link_of ls.items)
  where
    false_last : (c : Bool) → c ≡ (c || false)
    false_last true = refl
    false_last false = refl

    together : (c d r : Bool) → ((c || d) || r) ≡ (c || (d || r))
    together true d r = refl
    together false d r = refl

    go : (x : Value) (ls : List (Binary × Value)) → items.changes z (chained x ls)
        ≡ (items.changes z x || change_links z ls)
    go x [] = false_last (items.changes z x)
    go x (l ∷ ls) = go (binary l.0 x l.1) ls ∙ together (items.changes z x) (items.changes z l.1) (change_links z ls)

-- Properties, of which each is one of the word before it

pub property_pushed : (e : code_value.Value) (b : Box code_value.Value) (p : ℕ) (ps : Vec ℕ) → e ≡ v.Property b p ps
    → items.pushed ≡ items.alone (value_of e)
property_pushed e b p ps is = go (value_of b.value) p ps.items ∙ ap items.alone (sym (property_is e b p ps is))
  where
    go : (x : Value) (p : ℕ) (ps : List ℕ) → items.pushed ≡ items.alone (propertied (property x p) ps)
    go x p [] = refl
    go x p (q ∷ ps) = go (property x p) q ps

pub property_changes : (z : Variable) (e : code_value.Value) (b : Box code_value.Value) (p : ℕ) (ps : Vec ℕ)
    → e ≡ v.Property b p ps → items.changes z (value_of e) ≡ items.changes z (value_of b.value)
property_changes z e b p ps is =
    ap (items.changes z) (property_is e b p ps is) ∙ go (property (value_of b.value) p) ps.items
  where
    go : (x : Value) (ps : List ℕ) → items.changes z (propertied x ps) ≡ items.changes z x
    go x [] = refl
    go x (q ∷ ps) = go (property x q) ps

-- Conditions that one test decides

pub chain_tests : (e : code_value.Value) (a : Box code_value.Value) (op : Binary) (b : Box code_value.Value)
    (ls : Vec (Binary × code_value.Value)) (single : Bool) → e ≡ v.Chain a op b ls
    → single ≡ not (is_logical (last_operator op (map link_of ls.items))) → single ≡ items.is_one_test (value_of e)
chain_tests e a op b ls single is h = h ∙ go (value_of a.value) op (value_of b.value) (map link_of ls.items)
    ∙ ap items.is_one_test (sym (chain_is e a op b ls is))
  where
    go : (x : Value) (op : Binary) (y : Value) (ls : List (Binary × Value))
        → not (is_logical (last_operator op ls)) ≡ items.is_one_test (chained (binary op x y) ls)
    go x binaries.AndAlso y [] = refl
    go x binaries.OrElse y [] = refl
    go x op y [] = refl
    go x op y (l ∷ ls) = go (binary op x y) l.0 l.1 ls

pub property_tests : (e : code_value.Value) (b : Box code_value.Value) (p : ℕ) (ps : Vec ℕ) → e ≡ v.Property b p ps
    → true ≡ items.is_one_test (value_of e)
property_tests e b p ps is = go (value_of b.value) p ps.items ∙ ap items.is_one_test (sym (property_is e b p ps is))
  where
    go : (x : Value) (p : ℕ) (ps : List ℕ) → true ≡ items.is_one_test (propertied (property x p) ps)
    go x p [] = refl
    go x p (q ∷ ps) = go (property x p) q ps

-- the operator of the last of some links
pub last_found : (op : Binary) (ls : List (Binary × code_value.Value)) (l : Binary × code_value.Value)
    → Some l ≡ slice_get ls (length ls - 1) → l.0 ≡ last_operator op (map link_of ls)
last_found op [] l is = absurd (cc)
last_found op (m ∷ ls) l is = go m ls (is ∙ ap (slice_get (m ∷ ls)) back)
  where
    back : suc (length ls) - 1 ≡ length ls
    back = omega arith

    go : (m : Binary × code_value.Value) (ls : List (Binary × code_value.Value))
        → Some l ≡ slice_get (m ∷ ls) (length ls) → l.0 ≡ last_operator m.0 (map link_of ls)
    go m [] is = let e : l ≡ m = cc in ap (λ (k : Binary × code_value.Value). k.0) e
    go m (n ∷ ls) is = go n ls is

pub equal_tests : (e : code_value.Value) (a : Box code_value.Value) (op : Equality) (b : Box code_value.Value)
    (es : Vec code_value.Value) (few : Bool) → e ≡ v.Equal a op b es
    → few ≡ nat_lt (count_of (values_in es.items)) 3 → few ≡ items.is_one_test (value_of e)
equal_tests e a op b es few is h =
    let next : suc (count_of (values_in es.items)) ≡ count_of (values_in es.items) + 1 = omega arith in
    h ∙ ap (λ n. nat_le n 3) next ∙ ap items.is_one_test (sym (equal_is e a op b es is))
