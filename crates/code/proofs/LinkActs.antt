-- The opcodes on links, in memory that holds objects.
use Rattle.std.proofs.Common.{◌≡◌, ◌==◌, ◌+◌, ◌-◌, ◌*◌, ◌/◌, ℕ, List, length, slice_index, Option, refl, ap, ◌∙◌, arith}
use Rattle.std.proofs.Common.{subst, inl, inr}
use Rattle.zcore.specs.declared.instruction.Branch.{Branch}
use Rattle.zcore.specs.declared.next.Next.{Next}
use Rattle.zcore.specs.Effects.{give_result}
use Rattle.zcore.specs.Entries.{Parent, Sibling, Child, object_entry, properties_place}
use Rattle.zcore.specs.Header.{defaults_of}
use Rattle.zcore.specs.Objects.{jump_if_in, get_parent, get_child, get_sibling, give_object, remove_object}
use Rattle.zcore.specs.Objects.{insert_object}
use Rattle.zcore.specs.Parts.{branch_on}
use Rattle.zcore.specs.State.{State}
use Rattle.syntax_trees.specs.declared.tree.Relative.TheVariants as relatives
use Rattle.meaning.specs.Forests.{IsObjectNumber, IsForest}
use Rattle.meaning.specs.Objects.{Tree, Objects, ObjectOf, relative_in, removed, moved}
use Rattle.meaning.proofs.Forests.{removed_forest, inserted_forest}
use Rattle.meaning.proofs.ObjectLists.{if_same}
use Rattle.code.specs.TableLaws.{Changes, on}
use Rattle.code.specs.Links.{links_of, HoldsTree}
use Rattle.code.specs.Region.{HasObjects, KeepsRest}
use Rattle.code.specs.Tables.{PropertyTable}
use Rattle.code.proofs.Doing.{then_is, tests_object, reads_link}
use Rattle.code.proofs.Frames.{SameHead, word_stays, attribute_stays, tables_stay, in_entry}
use Rattle.code.proofs.Frames.{before_entries, behind_entries, rest_kept}
use Rattle.code.proofs.TableMoving as moving
use Rattle.code.proofs.TablePlaces.{Relinked}
use Rattle.code.proofs.TableReading.{tells_child, tells_sibling}

module _ (definitions : List ObjectOf) (defaults : List ℕ) (objects : Objects) (tables : List PropertyTable) where
  -- memory that differs in links holds the objects of the tree that these hold
  relinked_objects : (t : Tree) (old new : List ℕ) → HasObjects definitions defaults objects tables old
      → Relinked (length definitions) old new → IsForest (length definitions) t
      → HoldsTree (length definitions) t (links_of new)
      → HasObjects definitions defaults (record objects { tree = t }) tables new
  relinked_objects t old new has relinked forest holds =
      let n = length definitions in
      let head : SameHead old new =
      record { size = relinked.size; defaults = relinked.defaults; base = relinked.base } in
      record {
        entries = relinked.entries;
        forest = forest;
        links = holds;
        attributes = λ o a i lt.
            attribute_stays old new head o a
            (relinked.kept _ (in_entry n old o (a / 8) i (inl (omega (arith, lt)))))
            ∙ has.attributes o a i lt;
        defaults_there = λ q low high.
            word_stays old new head (λ t. t + 2 * (q - 1))
            (relinked.kept _ (before_entries n old _ (omega (arith, low, high))))
            (relinked.kept _ (before_entries n old _ (omega (arith, low, high))))
            ∙ has.defaults_there q low high;
        listed = tables_stay old new head n tables has.listed
            (λ k low high. relinked.kept k (behind_entries n old k low))
            (λ o i.
            let next : object_entry (defaults_of old) o + 13 ≡ properties_place (defaults_of old) o + 1 = omega arith in
            let last : slice_index new (object_entry (defaults_of old) o + 13)
            ≡ slice_index old (object_entry (defaults_of old) o + 13) =
            relinked.kept _ (in_entry n old o 13 i (inr (omega arith, omega arith))) in
            word_stays old new head (λ t. properties_place t o)
            (relinked.kept _ (in_entry n old o 12 i (inr (omega arith, omega arith))))
            (subst (λ k. slice_index new k ≡ slice_index old k) next last));
        provided = has.provided;
        names = has.names;
        shaped = has.shaped;
      }

  relinked_rest : (old new : List ℕ) → HasObjects definitions defaults objects tables old
      → Relinked (length definitions) old new → KeepsRest old new
  relinked_rest old new has relinked =
      let n = length definitions in
      let below = has.entries.below in
      rest_kept old new relinked.size
      (λ k lt. relinked.kept k (before_entries n old k (omega (arith, lt))))
      (λ k le. relinked.kept k (behind_entries n old k (omega (arith, le, below))))

  module _ (s : State) (has : HasObjects definitions defaults objects tables s.memory) where
    pub parents : (here : Next) (after : ℕ) (result : Option ℕ) (o : ℕ) → IsObjectNumber (length definitions) o
        → get_parent here after result o s
        ≡ give_result here after result (relative_in relatives.Parent o objects.tree) s
    unfolding get_parent
    parents here after result o i =
        let n = length definitions in
        then_is _ (tests_object n s has.entries o i) ∙ then_is _ (reads_link n s has.entries (Parent o) i)
        ∙ ap (λ w. give_result here after result w s) (has.links.parents o i)

    pub children : (here : Next) (after : ℕ) (result : Option ℕ) (branch : Option Branch) (o : ℕ)
        → IsObjectNumber (length definitions) o
        → get_child here after result branch o s
        ≡ give_object here after result branch (relative_in relatives.Child o objects.tree) s
    unfolding get_child
    children here after result branch o i =
        let n = length definitions in
        then_is _ (tests_object n s has.entries o i) ∙ then_is _ (reads_link n s has.entries (Child o) i)
        ∙ ap (λ w. give_object here after result branch w s)
        (tells_child n objects.tree (links_of s.memory) o has.links i)

    pub siblings : (here : Next) (after : ℕ) (result : Option ℕ) (branch : Option Branch) (o : ℕ)
        → IsObjectNumber (length definitions) o
        → get_sibling here after result branch o s
        ≡ give_object here after result branch (relative_in relatives.Sibling o objects.tree) s
    unfolding get_sibling
    siblings here after result branch o i =
        let n = length definitions in
        then_is _ (tests_object n s has.entries o i) ∙ then_is _ (reads_link n s has.entries (Sibling o) i)
        ∙ ap (λ w. give_object here after result branch w s)
        (tells_sibling n objects.tree (links_of s.memory) o has.links i has.forest)

    pub stands_in : (here : Next) (after : ℕ) (branch : Option Branch) (o other : ℕ)
        → IsObjectNumber (length definitions) o
        → jump_if_in here after branch o other s ≡ branch_on here after branch (objects.tree.parent o == other) s
    unfolding jump_if_in
    stands_in here after branch o other i =
        let n = length definitions in
        then_is _ (tests_object n s has.entries o i) ∙ then_is _ (reads_link n s has.entries (Parent o) i)
        ∙ ap (λ w. branch_on here after branch (w == other) s) (has.links.parents o i)

    pub removes : (here : Next) (after o : ℕ) → IsObjectNumber (length definitions) o
        → Changes definitions defaults (record objects { tree = removed o objects.tree })
        (remove_object here after o) (on definitions defaults here after) s
    removes here after o i =
        let n = length definitions in
        let l = moving.removes n objects.tree s has.entries has.forest has.links o i here after in
        record {
          memory = l.memory;
          tables = tables;
          does = l.does;
          has = relinked_objects (removed o objects.tree) s.memory l.memory has l.relinked
              (removed_forest n objects.tree o has.forest) l.holds;
          keeps = relinked_rest s.memory l.memory has l.relinked;
        }

    pub moves : (here : Next) (after o into : ℕ) → IsObjectNumber (length definitions) o
        → IsObjectNumber (length definitions) into
        → Changes definitions defaults (record objects { tree = moved o into objects.tree })
        (insert_object here after o into) (on definitions defaults here after) s
    moves here after o into i j =
        let n = length definitions in
        let t = objects.tree in
        let l = moving.inserts n t s here after o into has.entries has.forest has.links i j in
        let forest = inserted_forest n (removed o t) o into (removed_forest n t o has.forest) i j
        (if_same o o 0 (t.parent o) refl) in
        record {
          memory = l.memory;
          tables = tables;
          does = l.does;
          has = relinked_objects (moved o into t) s.memory l.memory has l.relinked forest l.holds;
          keeps = relinked_rest s.memory l.memory has l.relinked;
        }
