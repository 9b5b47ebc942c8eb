-- Each item of an accepted program that stands in a story is done where it stands, and so the story plays the
-- program.
use Rattle.std.proofs.Common.{◌≡◌, ℕ, zero, suc, ◌+◌, ◌<◌, List, [], ◌∷◌, length, slice_index, Some, refl, subst, arith}
use Rattle.std.specs.Prelude.{slice_get}
use Rattle.std.specs.List.{All}
use Rattle.std.proofs.lemmas.Option.{get_or_from_slice_get, slice_get_within}
use Rattle.std.proofs.lemmas.List.Elements.{All-head, All-tail}
use Rattle.ztext.specs.Text.{Holds}
use Rattle.ztext.proofs.Holding.{holds_byte}
use Rattle.zcore.specs.declared.instruction.Operation.TheVariants as operations
use Rattle.zcore.specs.Header.{static_base_of}
use Rattle.zcore.specs.Parts.{unpacked}
use Rattle.syntax_trees.specs.declared.tree.Binary.TheVariants as binaries
use Rattle.syntax_trees.specs.declared.tree.Prefix.TheVariants as prefixes
use Rattle.meaning.specs.Resolved.{RoutineOf, ProgramOf}
use Rattle.meaning.specs.Meaning.{routine_at}
use Rattle.meaning.specs.Accepted.{IsRoutine, IsAccepted}
use Rattle.meaning.specs.Printable.{HasPrintableTexts, ArePrintableActions}
use Rattle.code_drafts.specs.Items.{Item}
use Rattle.code_drafts.specs.Items as items
use Rattle.code_items.specs.Laws.{IsItem, ItemsAreWithin, ItemsFollow}
use Rattle.code_items.specs.Stack as stack
use Rattle.code_drafts.specs.Addresses.{Addresses}
use Rattle.code_drafts.specs.Instructions.{plain}
use Rattle.code_instructions.specs.Places.{offset_of}
use Rattle.code.specs.ItemBytes.{item_bytes}
use Rattle.code.specs.Bytes.{place_of, code_bytes, is_near}
use Rattle.code.specs.Laws.{CodePlays}
use Rattle.code.specs.HeldProgram.{sizes_of, HoldsProgram}
use Rattle.code.proofs.Play.{items_in, address, next_of, state_of, Good, LedBy, none_aside}
use Rattle.code.proofs.Memory.{holds_on}
use Rattle.code.proofs.Places.{next_place, ends_by, starts, follow, item_holds}
use Rattle.code.proofs.Ends.{quits}
use Rattle.code.proofs.Arriving.{Running, around, here, ArrivesAt}
use Rattle.code.proofs.Alone.{single}
use Rattle.code.proofs.PrintedLists.{HasPrintableText}
use Rattle.code.proofs.PrintedTexts.{texts_printable}
use Rattle.code.proofs.Moving.{move_led, keep_led, drop_below_led}
use Rattle.code.proofs.Stepping.{step_led}
use Rattle.code.proofs.Operating.{operate_led}
use Rattle.code.proofs.OperatingAside.{operate_aside_led}
use Rattle.code.proofs.CallingAside.{call_aside_led}
use Rattle.code.proofs.Arithmetic.{prefix_led}
use Rattle.code.proofs.Loading.{entry_led, entry_aside_led}
use Rattle.code.proofs.Storing.{assign_entry_led, assign_entry_aside_led}
use Rattle.code.proofs.Equalities.{first_equal_led, also_equal_led}
use Rattle.code.proofs.ItemsThatPrint.{new_line_led, print_number_led, print_text_led}
use Rattle.code.proofs.Characters.{print_character_led}
use Rattle.code.proofs.BackForms.{near_small}
use Rattle.code.proofs.Branching.{branch_led}
use Rattle.code.proofs.BranchingBack.{branch_back_led}
use Rattle.code.proofs.CaseTests.{case_led}
use Rattle.code.proofs.Jumping.{jump_led, back_led}
use Rattle.code.proofs.Calling.{call_led}
use Rattle.code.proofs.Returning.{return_led}
use Rattle.code.proofs.Reading.{read_led}
use Rattle.code.proofs.Relatives.{relative_led}
use Rattle.code.proofs.NamedObjects.{name_printable, print_name_led}
use Rattle.code.proofs.PropertySizes.{property_size_led}
use Rattle.code.proofs.PropertyReads.{property_led}
use Rattle.code.proofs.RemovedObjects.{remove_object_led}
use Rattle.code.proofs.PropertyWords.{property_word_led}
use Rattle.code.proofs.Giving.{give_led}
use Rattle.code.proofs.MovingObjects.{move_object_led}
use Rattle.code.proofs.AssigningProperties.{assign_property_led, assign_property_word_led}
use Rattle.code.proofs.FirstObject.{first_object_led}
use Rattle.code.proofs.EachObject.{next_object_led}
use Rattle.code.proofs.LabelledObjects.{has_led, is_in_led, provides_led}
use Rattle.code.proofs.KeptWorld.{is_read}
use Rattle.code.proofs.Sim.{ItemsLead}
use Rattle.code.proofs.Opening.{plays_it}

-- what holds of each holds of the one that has a number
each : (P : Item → Type 0) (xs : List Item) (k : ℕ) (x : Item) → All P xs → slice_get xs k ≡ Some x → P x
each P xs k x all e = subst P (get_or_from_slice_get xs k x x e) (all k x (slice_get_within xs k x e))

each_routine : (P : RoutineOf → Type 0) (rs : List RoutineOf) (n : ℕ) → All P rs → n < length rs → P (routine_at rs n)
each_routine P [] n all h = absurd (omega (arith, h))
each_routine P (r ∷ rs) zero all h = All-head P r rs all
each_routine P (r ∷ rs) (suc n) all h = each_routine P rs n (All-tail P r rs all) (omega (arith, h))

module _ (story : List ℕ) (a : Addresses) (p : ProgramOf) (accepted : IsAccepted p) (printable : HasPrintableTexts p)
    (holds : HoldsProgram story a p) (within : ItemsAreWithin) (full : ℕ) where
  abbrev running : (s : stack.ItemState) (m : List ℕ) (count : ℕ) (counts : List ℕ) → Good story a p s m → Running
  running s m count counts good = record {
    story = story;
    a = a;
    p = p;
    accepted = accepted;
    holds = holds;
    full = full;
    m = m;
    count = count;
    counts = counts;
    routine = s.routine;
    place = s.place;
    callers = s.callers;
    locals = s.situation.locals;
    world = s.situation.world;
    good = record {
      known = good.known;
      locals = good.locals;
      room = omega arith;
      callers = good.callers;
      few = good.few;
      globals = good.globals;
      sizes = good.sizes;
      stored = good.stored;
      put_aside = none_aside story m;
    };
  }

  -- the item at the place of a good state stands there
  stands : (s : stack.ItemState) (m : List ℕ) (count : ℕ) (counts : List ℕ) (i : Item) (good : Good story a p s m)
      → slice_get (items_in story a p s.routine) s.place ≡ Some i → ArrivesAt (running s m count counts good) i
  stands s m count counts i good e =
      let r = s.routine in
      let h = holds.routines r good.known in
      let is = items_in story a p r in
      let base = unpacked story (slice_index a.routines r) + 1 in
      let code = (holds_byte story (unpacked story (slice_index a.routines r)) (routine_at p.routines r).locals
      (code_bytes (sizes_of p) a is) h.bytes).rest in
      let begin : base ≡ base + place_of (sizes_of p) is 0 = omega (arith, starts (sizes_of p) is) in
      let near = is_near (sizes_of p) is in
      let there = item_holds (sizes_of p) story near a (place_of (sizes_of p) is) base is 0 s.place i
      (follow (sizes_of p) a is)
      (subst (λ q. Holds story q (code_bytes (sizes_of p) a is)) begin code) e in
      let zero_and : 0 + s.place ≡ s.place = omega arith in
      record {
        held = holds_on (static_base_of story) (address story a p r s.place) story m
            (item_bytes (sizes_of p) a (offset_of near (place_of (sizes_of p) is) s.place i) i) good.stored.kept
            (omega (arith, h.above))
            (subst (λ x. Holds story (base + place_of (sizes_of p) is x)
            (item_bytes (sizes_of p) a (offset_of near (place_of (sizes_of p) is) x i) i)) zero_and
            there);
        next = omega (arith, next_place (sizes_of p) a is s.place i e);
        followed = omega (arith, h.followed, ends_by (sizes_of p) is (s.place + 1), good.stored.size);
      }

  items_lead : ItemsLead story a p full
  items_lead s m count counts i good short e = go i e (stands s m count counts i good e) is_item has_text
    where
      c : Running
      c = running s m count counts good

      is : List Item
      is = items_in story a p s.routine

      routine : RoutineOf
      routine = routine_at p.routines s.routine

      is_item : IsItem p routine.locals (length is) i
      is_item = each (IsItem p routine.locals (length is)) is s.place i
          (within p routine (each_routine (IsRoutine p) p.routines s.routine accepted.routines good.known)) e

      has_text : HasPrintableText i
      has_text = each HasPrintableText is s.place i
          (texts_printable routine (each_routine (λ (r : RoutineOf). ArePrintableActions r.body) p.routines s.routine
          printable.0 good.known)) e

      words : List ℕ
      words = s.stack

      Done : Item → Type 0
      Done i =
          LedBy story a p (is_read i) full (next_of story a p s) (state_of story a p s m count counts) s.situation.world
          (stack.act p full (Some i) s)

      go : (i : Item) → slice_get is s.place ≡ Some i → ArrivesAt c i → IsItem p routine.locals (length is) i
          → HasPrintableText i → Done i
      go (items.move o d) f st is text = move_led c o d words is.0 is.1 good.room st
      go (items.apply_prefix prefixes.Not o d) f st is text = absurd is
      go (items.apply_prefix prefixes.Minus o d) f st is text =
          prefix_led c prefixes.Minus o d words is.0 is.1 (λ e. absurd (cc)) good.room st
      go (items.apply_prefix prefixes.Complement o d) f st is text =
          prefix_led c prefixes.Complement o d words is.0 is.1 (λ e. absurd (cc)) good.room st
      go (items.operate binaries.AndAlso x y d) f st is text = absurd is
      go (items.operate binaries.OrElse x y d) f st is text = absurd is
      go (items.operate op x y d) f st is text =
          operate_led c op x y d words is.0 is.1 is.2 (λ e. absurd (cc)) (λ e. absurd (cc)) good.room st
      go (items.operate_aside binaries.AndAlso x d) f st is text = absurd is
      go (items.operate_aside binaries.OrElse x d) f st is text = absurd is
      go (items.operate_aside op x d) f st is text =
          operate_aside_led c op x d s.put_aside words is.0 is.1 (λ e. absurd (cc)) (λ e. absurd (cc)) good.room
          good.put_aside st
      go (items.step op x d) f st is text = step_led c op x d words is.0 is.1 good.room st
      go (items.entry width n o d) f st is text = entry_led c width n o d words is.0 is.1 is.2 good.room st
      go (items.entry_aside width n d) f st is text =
          entry_aside_led c width n d s.put_aside words is.0 is.1 good.room good.put_aside st
      go (items.assign_entry width n o q d) f st is text =
          assign_entry_led c width n o q d words is.0 is.1 is.2 is.3 good.room st
      go (items.assign_entry_aside width n o q d) f st is text =
          assign_entry_aside_led c width n o q d s.put_aside words is.0 is.1 is.2 is.3 is.4 good.room good.put_aside st
      go (items.relative r o d) f st is text = relative_led c r o d words is.0 is.1 good.room st
      go (items.property o q d) f st is text = property_led c o q d words is.0 is.1 is.2 good.room st
      go (items.property_size o q d) f st is text =
          property_size_led c o q d words is.0 is.1 is.2 good.room st
      go (items.property_word q o i d) f st is text =
          property_word_led c q o i d words is.0 is.1 is.2 is.3 good.room st
      go (items.assign_property q o v d) f st is text =
          assign_property_led c q o v d words is.0 is.1 is.2 is.3 good.room st
      go (items.assign_property_word q o i v d) f st is text =
          assign_property_word_led c q o i v d words is.0 is.1 is.2 is.3 is.4 good.room st
      go (items.give o changes) f st is text = give_led c o changes words is.0 is.1 good.room st
      go (items.move_object o into) f st is text = move_object_led c o into words is.0 is.1 good.room st
      go (items.remove_object o) f st is text = remove_object_led c o words is good.room st
      go (items.keep x) f st is text = keep_led c x s.put_aside words is st
      go items.first_equal f st is text = first_equal_led c s.put_aside words good.room st
      go items.also_equal f st is text = also_equal_led c s.put_aside words good.room st
      go items.drop_below f st is text = drop_below_led c s.put_aside words st
      go (items.print_text bytes) f st is text = print_text_led c bytes words printable.2 text good.room st
      go (items.print_character o) f st is text = print_character_led c o words is good.room st
      go (items.print_number o) f st is text = print_number_led c o words is good.room st
      go (items.print_name o) f st is text =
          print_name_led c o words (λ v object. name_printable p.objects v printable.1 object) short is good.room st
      go items.new_line f st is text = new_line_led c words good.room st
      go (items.read_line t q) f st is text = read_led c t q words is.0 is.1 is.2 good.room st
      go items.quit f st is text = quits (around c) m s.situation.locals words s.situation.world.text full
          (here c) s.situation.world.fuel s.situation.world
          (single c items.quit (plain operations.Quit []) refl refl st).held
      go (items.branch test os when target) f st is text =
          branch_led c test os when target s.put_aside words is.0 is.1 good.room st
      go (items.is_in o q when target) f st is text =
          is_in_led c o q when target s.put_aside words is.0 is.1 good.room st
      go (items.has o n when target) f st is text = has_led c o n when target s.put_aside words is.0 is.1 good.room st
      go (items.provides o q when target) f st is text =
          provides_led c o q when target s.put_aside words is.0 is.1 good.room st
      go (items.first_object x target) f st is text =
          first_object_led c x target s.put_aside words is.0 good.room st
      go (items.next_object x target) f st is text =
          next_object_led c x target s.put_aside words is.0 good.room st
      go (items.case test ns when target) f st is text =
          case_led c test ns when target s.put_aside words is.0 is.1 good.room good.put_aside st
      go (items.jump target) f st is text = jump_led c target s.put_aside words good.room good.put_aside st
      go (items.back target) f st is text = back_led c target words good.room st
      go (items.branch_back test os when target) f st is text =
          branch_back_led c test os when target s.put_aside words is.0 is.1 good.room
          (near_small (sizes_of p) (items_in story a p s.routine) s.place (items.branch_back test os when target) f
          refl) st
      go (items.call r os d) f st is text = call_led c r os d words is.0 is.1 is.4 is.2 good.room st
      go (items.call_aside r os d) f st is text =
          call_aside_led c r os d s.put_aside words is.0 is.1 is.4 is.5 is.2 good.room good.put_aside st
      go (items.return o) f st is text = return_led c o words is st

pub code_plays_by : ItemsFollow → ItemsAreWithin → CodePlays
code_plays_by follows within story a p accepted printable holds full lines =
    plays_it story a p accepted printable holds full lines follows
    (items_lead story a p accepted printable holds within full)
