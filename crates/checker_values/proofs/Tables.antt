-- Look-ups in tables.
use Rattle.std.proofs.Common.{◌≡◌, ℕ, Bool, true, false, List, [], ◌∷◌, ◌++◌, Option, Some, None, cond, is_some, refl}
use Rattle.std.proofs.Common.{sym, ap, ◌∙◌}
use Rattle.std.specs.Map.{lookup}
use Rattle.std.proofs.lemmas.Cmp.{nat_list_eq_equiv}
use Rattle.indexmap.specs.IndexMap.{insert_entry}
use Rattle.syntax_trees.specs.Tree.{NameTree}
use Rattle.checker_values.specs.declared.binding.Binding.{Binding}
use Rattle.checker_values.specs.Names.{same_key, key_of, Table, in_table, with_name}

pub same_key_back : (a b : List ℕ) → same_key a b ≡ same_key b a
same_key_back a b = nat_list_eq_equiv.symm a b

-- a look-up of the map is one of the table
pub lookup_table : (t : Table) (k : List ℕ) → lookup (same_key k) t ≡ in_table t k
lookup_table [] k = refl
lookup_table (e ∷ es) k = rw (same_key_back k e.0, lookup_table es k) refl

some_of : (t : Bool) (b : Binding) (o : Option Binding) → is_some (cond t (Some b) o) ≡ cond t true (is_some o)
some_of true b o = refl
some_of false b o = refl

new_entry : (es : Table) (e : List ℕ × Binding) (k : List ℕ) (b : Binding) (t : Bool) → same_key k e.0 ≡ t
    → cond t true (is_some (in_table es k)) ≡ false
    → (is_some (in_table es k) ≡ false → insert_entry same_key es k b ≡ es ++ (k, b) ∷ [])
    → insert_entry same_key (e ∷ es) k b ≡ e ∷ (es ++ (k, b) ∷ [])
new_entry es e k b true q p r = absurd cc
new_entry es e k b false q p r = rw q (ap (λ x. e ∷ x) (r p))

-- a new key goes last
pub insert_new : (es : Table) (k : List ℕ) (b : Binding) → is_some (in_table es k) ≡ false
    → insert_entry same_key es k b ≡ es ++ (k, b) ∷ []
insert_new [] k b h = refl
insert_new (e ∷ es) k b h = new_entry es e k b (same_key k e.0) refl
    (sym (some_of (same_key k e.0) e.1 (in_table es k))
    ∙ ap (λ t. is_some (cond t (Some e.1) (in_table es k))) (same_key_back k e.0) ∙ h) (insert_new es k b)

abbrev value_or : Binding → Option Binding → Binding
value_or d (Some b) = b
value_or d None = d

entry_back : (x : List ℕ × Binding) (xs : Table) (k : List ℕ) (b e : Binding) (t : Bool) → same_key k x.0 ≡ t
    → cond t (Some x.1) (lookup (same_key k) xs) ≡ Some e
    → (lookup (same_key k) xs ≡ Some e → insert_entry same_key (insert_entry same_key xs k b) k e ≡ xs)
    → insert_entry same_key (insert_entry same_key (x ∷ xs) k b) k e ≡ x ∷ xs
entry_back x xs k b e true q p r = rw (q, q) (ap (λ y. (x.0, y) ∷ xs) (sym (ap (value_or x.1) p)))
entry_back x xs k b e false q p r = rw (q, q) (ap (λ y. x ∷ y) (r p))

-- a key that is there gets its earlier meaning back
put_back : (es : Table) (k : List ℕ) (b e : Binding) → lookup (same_key k) es ≡ Some e
    → insert_entry same_key (insert_entry same_key es k b) k e ≡ es
put_back [] k b e h = absurd cc
put_back (x ∷ xs) k b e h = entry_back x xs k b e (same_key k x.0) refl h (put_back xs k b e)

-- whether a name has a meaning, by what was found for its key
had_meaning : (t : Table) (n : NameTree) (k : List ℕ) (found what : Option Binding) → k ≡ key_of n.text
    → found ≡ lookup (same_key k) t → found ≡ what → is_some what ≡ is_some (in_table t (key_of n.text))
had_meaning t n k found what key f is =
    ap is_some (sym is ∙ f ∙ lookup_table t k ∙ ap (in_table t) key)

-- a name that has no meaning gets one
pub define_new : (t after : Table) (n : NameTree) (k : List ℕ) (b : Binding) (found : Option Binding)
    → k ≡ key_of n.text → found ≡ lookup (same_key k) t → found ≡ None
    → after ≡ insert_entry same_key t k b → after ≡ with_name t n b
define_new t after n k b found key f is h =
    let absent : is_some (in_table t (key_of n.text)) ≡ false = sym (had_meaning t n k found None key f is) in
    rw absent (h ∙ ap (λ x. insert_entry same_key t x b) key ∙ insert_new t (key_of n.text) b absent)

-- one that has a meaning keeps it
pub define_again : (t between after : Table) (n : NameTree) (k l : List ℕ) (b e : Binding) (found : Option Binding)
    → k ≡ key_of n.text → l ≡ key_of n.text → found ≡ lookup (same_key k) t → found ≡ Some e
    → between ≡ insert_entry same_key t k b → after ≡ insert_entry same_key between l e → after ≡ with_name t n b
define_again t between after n k l b e found key same f is put back =
    let there : is_some (in_table t (key_of n.text)) ≡ true = sym (had_meaning t n k found (Some e) key f is) in
    rw there (back ∙ ap (λ x. insert_entry same_key x l e) put
    ∙ ap (λ x. insert_entry same_key (insert_entry same_key t k b) x e) (same ∙ sym key)
    ∙ put_back t k b e (sym f ∙ is))
