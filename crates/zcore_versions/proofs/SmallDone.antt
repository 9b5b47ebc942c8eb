-- What was done on a small object was done on an object: object 0 has no small entry.
use Rattle.std.proofs.Common.{◌≡◌, ℕ, Bool, true, false, List, Option, Some, None, refl, subst, slice_index}
use Rattle.std.specs.Prelude.{◌==◌, ◌||◌}
use Rattle.std.proofs.lemmas.Bool.{ne_eqb}
use Rattle.zcore.specs.declared.instruction.Branch.{Branch}
use Rattle.zcore.specs.declared.instruction.Operation.{Operation}
use Rattle.zcore.specs.declared.instruction.Operation.TheVariants as known
use Rattle.zcore.specs.declared.next.Next.{Next}
use Rattle.zcore.specs.State.{State, Out, done, bound, ◌>>=◌}
use Rattle.zcore.proofs.KeepingReads.{never, both}
use Rattle.zcore_standard.specs.Nothing.{concerns_nothing}
use Rattle.zcore_versions.specs.Performing.{perform_small}
use Rattle.zcore_versions.specs.SmallObjects.{test_object, tested_attributes, test_attribute, set_attribute}
use Rattle.zcore_versions.specs.SmallObjects.{clear_attribute, jump_if_in, get_parent, get_sibling, get_child}
use Rattle.zcore_versions.specs.SmallObjects.{test_removal, insert_object, remove_object}
use Rattle.zcore_versions.specs.SmallProperties.{tested_property, get_property, put_property}
use Rattle.zcore_versions.specs.SmallProperties.{get_property_address, get_next_property}

not_nothing : (object : ℕ) (s t : State) (a : Unit {0}) → object ≡ 0 → test_object object s ≡ done a t → ⊥
unfolding test_object
not_nothing object s t a e h = never _ a s t (subst (λ (n : ℕ). test_object n s ≡ done a t) e h)

-- a part that tests an object first
tested_first : {A : Type 0} (object : ℕ) (f : Unit {0} → State → Out A) (s t : State) (a : A)
    → bound (test_object object s) f ≡ done a t → (object == 0) ≡ false
tested_first object f s t a h =
    let p = both (test_object object s) f a t h in
    ne_eqb object 0 (λ e. not_nothing object s p.between p.value e p.first)

-- one that does such a part first
tested_within : {A B : Type 0} (object : ℕ) (f : Unit {0} → State → Out A) (g : A → State → Out B) (s t : State) (b : B)
    → bound (bound (test_object object s) f) g ≡ done b t → (object == 0) ≡ false
tested_within object f g s t b h =
    let p = both (bound (test_object object s) f) g b t h in
    tested_first object f s p.between p.value p.first

either : (a b : Bool) → a ≡ false → b ≡ false → (a || b) ≡ false
either a b e f = rw (e, f) refl

-- the object that another is put into is tested second
tested_second : (object : ℕ) (m : Out (Option ℕ)) (f : Option ℕ → Unit {0} → State → Out Next) (next : Next) (t : State)
    → bound m (λ link. test_object object >>= f link) ≡ done next t → (object == 0) ≡ false
tested_second object m f next t h =
    let p = both m (λ link. test_object object >>= f link) next t h in
    tested_first object (f p.value) p.between t next p.second

pub small_some : (operation : Operation) (here next : Next) (after : ℕ) (result : Option ℕ) (branch : Option Branch)
    (values : List ℕ) (s t : State) → perform_small operation here after result branch values s ≡ done next t
    → concerns_nothing operation values ≡ false
unfolding perform_small tested_attributes test_attribute set_attribute clear_attribute jump_if_in get_parent get_sibling get_child test_removal insert_object remove_object tested_property get_property put_property get_property_address get_next_property
small_some known.JumpIfIn here next after result branch values s t h =
    either _ _ (tested_first (slice_index values 0) _ s t next h) refl
small_some known.TestAttribute here next after result branch values s t h =
    either _ _ (tested_within (slice_index values 0) _ _ s t next h) refl
small_some known.SetAttribute here next after result branch values s t h =
    either _ _ (tested_within (slice_index values 0) _ _ s t next h) refl
small_some known.ClearAttribute here next after result branch values s t h =
    either _ _ (tested_within (slice_index values 0) _ _ s t next h) refl
small_some known.InsertObject here next after result branch values s t h =
    either _ _ (tested_within (slice_index values 0) _ _ s t next h)
    (tested_second (slice_index values 1) (test_removal (slice_index values 0) s) _ next t h)
small_some known.RemoveObject here next after result branch values s t h =
    either _ _ (tested_within (slice_index values 0) _ _ s t next h) refl
small_some known.GetParent here next after result branch values s t h =
    either _ _ (tested_first (slice_index values 0) _ s t next h) refl
small_some known.GetSibling here next after result branch values s t h =
    either _ _ (tested_first (slice_index values 0) _ s t next h) refl
small_some known.GetChild here next after result branch values s t h =
    either _ _ (tested_first (slice_index values 0) _ s t next h) refl
small_some known.GetProperty here next after result branch values s t h =
    either _ _ (tested_within (slice_index values 0) _ _ s t next h) refl
small_some known.GetPropertyAddress here next after result branch values s t h =
    either _ _ (tested_within (slice_index values 0) _ _ s t next h) refl
small_some known.GetNextProperty here next after result branch values s t h =
    either _ _ (tested_first (slice_index values 0) _ s t next h) refl
small_some known.GetPropertyLength here next after result branch values s t h = refl
small_some known.PutProperty here next after result branch values s t h =
    either _ _ (tested_within (slice_index values 0) _ _ s t next h) refl
small_some _ here next after result branch values s t h = absurd (never _ next s t h)
