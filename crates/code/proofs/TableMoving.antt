-- Objects that are taken out and moved, in memory that holds a tree.
use Rattle.std.proofs.Common.{◌≡◌, ◌≤◌, ℕ, Bool, if◌then◌else◌, List, Option, Some, None, refl, ap, sym, ◌∙◌, arith}
use Rattle.std.proofs.Common.{subst, inl, inr}
use Rattle.std.proofs.lemmas.Bool.{cases_eq, eq-eqb, ne_eqb}
use Rattle.zcore.specs.Entries.{Link, Parent, Sibling, Child, owner, has_entry, place_of, named_from}
use Rattle.zcore.specs.Header.{defaults_of, static_base_of}
use Rattle.zcore.specs.declared.next.Next.{Next}
use Rattle.zcore.specs.declared.place.Fault.TheVariants as faults
use Rattle.zcore.specs.State.{State, Out, done}
use Rattle.zcore.specs.Parts.{fault, write_word, with_word, goes_on}
use Rattle.zcore.specs.Objects.{is_object, write_link, most_entries, linked, test_link, test_removal, unlink}
use Rattle.zcore.specs.Objects.{link_first, remove_object, insert_object}
use Rattle.meaning.specs.Objects.{Tree, removed, inserted, moved}
use Rattle.meaning.specs.Forests.{IsObjectNumber, IsForest}
use Rattle.meaning.proofs.ObjectLists.{if_same}
use Rattle.meaning.proofs.Forests.{removed_forest}
use Rattle.code.specs.Links.{links_of, HoldsTree}
use Rattle.code.specs.Region.{HasEntries}
use Rattle.code.proofs.Chains.{found, Names, names_owner, WroteLink}
use Rattle.code.proofs.Doing.{does_then, tests_object, reads_link, writes_word, Acts}
use Rattle.code.proofs.Inserting.{inserted_holds}
use Rattle.code.proofs.TablePlaces.{Relinked, place_room, relinked, relinked_after, link_wrote}
use Rattle.code.proofs.TablePlaces.{object_has_entry, placed, named_found}
use Rattle.code.proofs.Removing.{removed_found, removed_holds, removed_alone}

-- a part of an instruction is done, and leaves memory that holds this tree
pub record LeavesTree {A : Type 0} (n : ℕ) (t : Tree) (f : State → Out A) (answer : A) (s : State) : Type 0 where
  pub memory : List ℕ
  pub does : f s ≡ done answer (record s { memory = memory })
  pub relinked : Relinked n (s.memory) memory
  pub holds : HoldsTree n t (links_of memory)

writes_place : (n : ℕ) (s : State) (c : Link) (word : ℕ) → HasEntries n s.memory → IsObjectNumber n (owner c)
    → Acts (write_word (place_of (defaults_of s.memory) c) word) tt s (record s {
      memory = with_word (s.memory) (place_of (defaults_of s.memory) c) word;
    })
writes_place n s c word entries i =
    let room = place_room n s.memory c entries i in
    writes_word s (place_of (defaults_of s.memory) c) word room.past room.before

-- a part that writes a link
pub record PutsLink (n : ℕ) (s : State) (c : Link) (word : ℕ) (f : State → Out (Unit {0})) : Type 0 where
  pub memory : List ℕ
  pub does : Acts f tt s (record s { memory = memory })
  pub relinked : Relinked n (s.memory) memory
  pub wrote : WroteLink n (links_of s.memory) c word (links_of memory)

pub puts_at : (n : ℕ) (s : State) (c : Link) (word : ℕ) → HasEntries n s.memory → IsObjectNumber n (owner c)
    → PutsLink n s c word (write_word (place_of (defaults_of s.memory) c) word)
puts_at n s c word table i = record {
  memory = with_word (s.memory) (place_of (defaults_of s.memory) c) word;
  does = writes_place n s c word table i;
  relinked = relinked n s.memory c word table i;
  wrote = link_wrote n s.memory c word table i;
}

pub puts_link : (n : ℕ) (s : State) (c : Link) (word : ℕ) → HasEntries n s.memory → IsObjectNumber n (owner c)
    → PutsLink n s c word (write_link c word)
unfolding write_link
puts_link n s c word table i =
    let p = puts_at n s c word table i in
    record { memory = p.memory; does = record { is = p.does.is }; relinked = p.relinked; wrote = p.wrote }

-- The test of a removal

module _ (n : ℕ) (t : Tree) (s : State) (table : HasEntries n s.memory) (forest : IsForest n t)
    (holds : HoldsTree n t (links_of s.memory)) (o : ℕ) (i : IsObjectNumber n o) where
  -- more objects than these find no room
  count : n ≤ 4681
  count = let a = table.start in let b = table.below in let c = table.low in omega arith

  removal_test : (r : Option ℕ) → Acts (test_link o (t.parent o)) r s s → Acts (test_removal o) r s s
  unfolding test_removal
  removal_test r is =
      does_then _ (tests_object n s table o i)
      (does_then _ (reads_link n s table (Parent o) i)
      (record { is = ap (λ p. test_link o p s) (holds.parents o i) ∙ is.is }))

  no_link : t.parent o ≡ 0 → Acts (test_link o (t.parent o)) None s s
  unfolding test_link
  no_link none =
      let m = s.memory in
      record {
        is = ap (λ (b : Bool). if b then done None s else (if is_object m (t.parent o)
            then linked (named_from m (defaults_of m) (static_base_of m) o
            (place_of (defaults_of m) (Child (t.parent o))) most_entries) s else fault faults.Object s))
            (eq-eqb (t.parent o) 0 none);
      }

  some_link : (at : Link) → (t.parent o ≡ 0 → ⊥)
      → found (has_entry (defaults_of s.memory) (static_base_of s.memory)) (links_of s.memory) o
      (Child (t.parent o)) 4681 ≡ Some at
      → Acts (test_link o (t.parent o)) (Some (place_of (defaults_of s.memory) at)) s s
  unfolding test_link
  some_link at some is =
      let m = s.memory in
      let named : Option ℕ =
      named_from m (defaults_of m) (static_base_of m) o (place_of (defaults_of m) (Child (t.parent o))) 4681 in
      let parent = (forest.parents (t.parent o) o (forest.stand o some)).1 in
      record {
        is = ap (λ (b : Bool). if b then done None s else
            (if is_object m (t.parent o) then linked named s else fault faults.Object s)) (ne_eqb (t.parent o) 0 some)
            ∙ ap (λ (b : Bool). if b then linked named s else fault faults.Object s)
            (object_has_entry n m (t.parent o) table parent)
            ∙ ap (λ (r : Option ℕ). linked r s) (named_found m (static_base_of m) o (Child (t.parent o)) 4681
            ∙ ap (placed (defaults_of m)) is);
      }

  -- what a removal leaves, and where its test stands
  pub record Unlinked : Type 0 where
    pub link : Option ℕ
    pub tests : Acts (test_removal o) link s s
    pub leaves : LeavesTree n (removed o t) (unlink link o) tt s

  unlinks_none : t.parent o ≡ 0 → LeavesTree n (removed o t) (unlink None o) tt s
  unfolding unlink
  unlinks_none none = record {
    memory = s.memory;
    does = refl;
    relinked = record { entries = table; base = refl; size = refl; defaults = refl; kept = λ k no. refl };
    holds = removed_alone n t (links_of s.memory) o forest holds none;
  }

  unlinks_some : (at : Link) → IsObjectNumber n (owner at) → (t.parent o ≡ 0 → ⊥)
      → Names o (Child (t.parent o)) (t.children (t.parent o)) at
      → LeavesTree n (removed o t) (unlink (Some (place_of (defaults_of s.memory) at)) o) tt s
  unfolding unlink
  unlinks_some at j some names =
      let a = puts_at n s at (links_of s.memory (Sibling o)) table j in
      let sa : State = record s { memory = a.memory } in
      let b = puts_link n sa (Parent o) 0 a.relinked.entries i in
      let sb : State = record s { memory = b.memory } in
      let c = puts_link n sb (Sibling o) 0 b.relinked.entries i in
      let does : Acts (unlink (Some (place_of (defaults_of s.memory) at)) o) tt s (record s { memory = c.memory }) =
      does_then _ (reads_link n s table (Sibling o) i) (does_then _ a.does (does_then _ b.does c.does)) in
      record {
        memory = c.memory;
        does = does.is;
        relinked = relinked_after a.relinked (relinked_after b.relinked c.relinked);
        holds = removed_holds n t (links_of s.memory) (links_of c.memory) o at forest holds i some names
            (record {
              first = links_of a.memory;
              second = links_of b.memory;
              unlinked = a.wrote;
              orphaned =
                  b.wrote;
              alone = c.wrote;
            });
      }

  pub unlinked : Unlinked
  unlinked = elim (cases_eq (t.parent o) 0) [
    | inl none ↦ record { link = None; tests = removal_test None (no_link none); leaves = unlinks_none none }
    | inr some ↦
        let f = removed_found (has_entry (defaults_of s.memory) (static_base_of s.memory)) n t
        (links_of s.memory) o 4681 forest holds some (λ x j. object_has_entry n s.memory x table j) count in
        let parent = (forest.parents (t.parent o) o (forest.stand o some)).1 in
        let owns : IsObjectNumber n (owner f.at) =
        elim (names_owner o (Child (t.parent o)) (t.children (t.parent o)) f.at f.names) [
          | inl e ↦ subst (λ c. IsObjectNumber n (owner c)) (sym e) parent
          | inr q ↦ subst (λ c. IsObjectNumber n (owner c)) (sym q.3) (forest.objects (t.parent o) q.0 q.1)
        ] in
        record {
          link = Some (place_of (defaults_of s.memory) f.at);
          tests =
              removal_test _ (some_link f.at some f.is);
          leaves = unlinks_some f.at owns some f.names;
        }
  ]

  pub removes : (here : Next) (after : ℕ)
      → LeavesTree n (removed o t) (remove_object here after o) (record { program_counter = after; fuel = here.fuel }) s
  unfolding remove_object
  removes here after =
      let u = unlinked in
      let l = u.leaves in
      let left : State = record s { memory = l.memory } in
      let next : Next = record { program_counter = after; fuel = here.fuel } in
      let taken : Acts (unlink u.link o) tt s left = record { is = l.does } in
      let on : Acts (goes_on after here.fuel) next left left = record { is = refl } in
      let does : Acts (remove_object here after o) next s left = does_then _ u.tests (does_then _ taken on) in
      record { memory = l.memory; does = does.is; relinked = l.relinked; holds = l.holds }

-- An insertion

pub links_first : (n : ℕ) (t : Tree) (s : State) (o into : ℕ) → HasEntries n s.memory → IsForest n t
    → HoldsTree n t (links_of s.memory) → IsObjectNumber n o → IsObjectNumber n into → t.parent o ≡ 0
    → LeavesTree n (inserted o into t) (link_first o into) tt s
unfolding link_first
links_first n t s o into table forest holds i j none =
    let a = puts_link n s (Sibling o) (links_of s.memory (Child into)) table i in
    let sa : State = record s { memory = a.memory } in
    let b = puts_link n sa (Parent o) into a.relinked.entries i in
    let sb : State = record s { memory = b.memory } in
    let c = puts_link n sb (Child into) o b.relinked.entries j in
    let does : Acts (link_first o into) tt s (record s { memory = c.memory }) =
    does_then _ (reads_link n s table (Child into) j) (does_then _ a.does (does_then _ b.does c.does)) in
    record {
      memory = c.memory;
      does = does.is;
      relinked = relinked_after a.relinked (relinked_after b.relinked c.relinked);
      holds = inserted_holds n t (links_of s.memory) (links_of c.memory) o into forest holds i j none
          (record {
            first = links_of a.memory;
            second = links_of b.memory;
            sibling = a.wrote;
            parent =
                b.wrote;
            child = c.wrote;
          });
    }

pub inserts : (n : ℕ) (t : Tree) (s : State) (here : Next) (after o into : ℕ) → HasEntries n s.memory → IsForest n t
    → HoldsTree n t (links_of s.memory) → IsObjectNumber n o → IsObjectNumber n into
    → LeavesTree n (moved o into t) (insert_object here after o into)
    (record { program_counter = after; fuel = here.fuel }) s
unfolding insert_object
inserts n t s here after o into table forest holds i j =
    let u = unlinked n t s table forest holds o i in
    let l = u.leaves in
    let left : State = record s { memory = l.memory } in
    let f = links_first n (removed o t) left o into l.relinked.entries (removed_forest n t o forest) l.holds i j
    (if_same o o 0 (t.parent o) refl) in
    let next : Next = record { program_counter = after; fuel = here.fuel } in
    let last : State = record s { memory = f.memory } in
    let taken : Acts (unlink u.link o) tt s left = record { is = l.does } in
    let put : Acts (link_first o into) tt left last = record { is = f.does } in
    let on : Acts (goes_on after here.fuel) next last last = record { is = refl } in
    let does : Acts (insert_object here after o into) next s last =
    does_then _ u.tests (does_then _ (tests_object n s table into j) (does_then _ taken (does_then _ put on))) in
    record { memory = f.memory; does = does.is; relinked = relinked_after l.relinked f.relinked; holds = f.holds }
