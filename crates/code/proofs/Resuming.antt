-- What is done with the word that a routine gives back.
use Rattle.std.proofs.Common.{◌≡◌, ℕ, suc, ◌+◌, ◌<◌, ◌≤◌, List, [], ◌∷◌, ◌++◌, length, Option, Some, None, Bool, true}
use Rattle.std.proofs.Common.{false, refl, sym, ap, ◌∙◌, subst, arith}
use Rattle.std.specs.Prelude.{slice_index, nat_le, if◌then◌else◌, map}
use Rattle.std.specs.List.{All}
use Rattle.std.proofs.lemmas.Bool.{leb-true}
use Rattle.std.proofs.lemmas.List.{length-reverse}
use Rattle.zcore.specs.declared.instruction.Operand.TheVariants.{Large}
use Rattle.zcore.specs.declared.instruction.Operation.TheVariants as operations
use Rattle.zcore.specs.declared.place.Place.TheVariants as places
use Rattle.ztext.specs.Bytes.{word_at}
use Rattle.zcore.specs.Header.{static_base_of}
use Rattle.zcore.specs.InstructionBytes.{bytes_of}
use Rattle.zcore.specs.State.{Frame, State, Out, done, bound}
use Rattle.zcore.specs.State as state
use Rattle.zcore.specs.Parts.{push, goes_on, give_back}
use Rattle.zcore.specs.Execution.{step}
use Rattle.zcore.specs.Turn.{first_environment}
use Rattle.ztext.proofs.Holding.{holds_byte}
use Rattle.meaning.specs.declared.resolved.Variable as source
use Rattle.meaning.specs.World.{Situation, with_value}
use Rattle.meaning.specs.Meaning.{routine_at}
use Rattle.code_drafts.specs.Items.{Destination}
use Rattle.code_drafts.specs.Items as items
use Rattle.code_items.specs.Laws.{IsDestination}
use Rattle.code_items.specs.Stack.{Caller}
use Rattle.code_items.specs.Stack as stack
use Rattle.code_drafts.specs.Instructions.{plain, number_of, aside_variable}
use Rattle.code_instructions.specs.Instructions.{call_result}
use Rattle.code.specs.HeldProgram.{sizes_of}
use Rattle.code.proofs.Behind.{Holds, holds_on}
use Rattle.code.proofs.Play.{Leads, items_in, address, frames_of, frame_of, back_of, result_of, first_count}
use Rattle.code.proofs.Play.{other_counts, IsCaller, Led, none_aside}
use Rattle.code.proofs.Memory.{with_variable}
use Rattle.code.proofs.Parts.{Around, machine as at_words, pushes, global_writes}
use Rattle.code.proofs.Steps.{point, one_step, first_held, others_held}
use Rattle.code.proofs.Ends.{does_after, quits}
use Rattle.code.proofs.Places.{ends_by}
use Rattle.code.proofs.Entering.{in_frames}
use Rattle.code.proofs.HeldRoutines.{caller_words}
use Rattle.code.proofs.Arriving.{Running, around, here, situation_here}
use Rattle.code.proofs.Variables.{memory_with, variable_held}
use Rattle.code.proofs.Temporaries.{scratch_here, scratch_with}
use Rattle.code.proofs.Delivering.{held_aside}
use Rattle.code.proofs.Moving.{fuel_same, text_same}
use Rattle.code.proofs.ReturnSteps.{inner, back_none, back_top, back_into}

module _ (c : Running) where
  open c use {story, a, p, accepted, holds, full, m, count, counts, routine, place, callers, locals, world, good}

  -- the code that begins the story ends it
  end_held : Holds m (word_at story 6 + 3) (bytes_of (plain operations.Quit []))
  unfolding bytes_of
  end_held =
      let main = slice_index a.routines p.main in
      let i = plain operations.Call1n (Large main ∷ []) in
      holds_on (static_base_of story) (word_at story 6 + 3) story m (bytes_of (plain operations.Quit []))
      good.stored.kept (omega (arith, holds.start_above))
      (first_held story (word_at story 6 + 3) (plain operations.Quit []) []
      (others_held story (word_at story 6) i (plain operations.Quit [] ∷ [])
      (omega (arith, holds.start_above, holds.globals_above, holds.globals_below), holds.start)))

  end_within : word_at story 6 + 3 < length m
  unfolding bytes_of
  end_within = (holds_byte m (word_at story 6 + 3) 186 [] end_held.1).within

  end_above : 64 ≤ word_at story 6 + 3
  end_above = omega (arith, holds.start_above, holds.globals_above, holds.globals_below)

  place_above : (r n : ℕ) → r < length p.routines → 64 ≤ address story a p r n
  place_above r n known = omega (arith, (holds.routines r known).above, holds.globals_above, holds.globals_below)

  place_within : (r n : ℕ) → r < length p.routines → address story a p r n < length m
  place_within r n known =
      omega (
        arith,
        (holds.routines r known).followed,
        ends_by (sizes_of p) (items_in story a p r) n,
        good.stored.size,
      )

  -- this routine, called by others
  abbrev called_by : List Caller → List ℕ → List ℕ → State
  called_by callers counts words = at_words (inner count (back_of story a p callers) (result_of story a p callers)
      (frames_of story a p callers counts)) m locals words world.text

  abbrev LedBy : List Caller → List ℕ → List ℕ → stack.Next → Type 0
  LedBy callers counts words next =
      Led story a p full (point (here c) world.fuel) (called_by callers counts words) world next

  -- it gives a word back
  abbrev Backs : List Caller → List ℕ → List ℕ → List ℕ → ℕ → Type 0
  Backs callers counts words left v = step (point (here c) world.fuel) (called_by callers counts words)
      ≡ give_back world.fuel v (called_by callers counts left)

  module _ (d : Caller) (callers : List Caller) (counts : List ℕ) (all : All (IsCaller story a p) (d ∷ callers))
      (few : length (d ∷ callers) < 1000) where
    here_is : IsCaller story a p d
    here_is = all 0 d (omega arith)

    rest : All (IsCaller story a p) callers
    rest k x h = all (suc k) x (omega (arith, h))

    abbrev others : List Frame
    others = frames_of story a p callers (other_counts counts)

    abbrev g : Frame
    g = frame_of story a p d.locals d.stack (first_count counts) callers

    abbrev back : ℕ
    back = address story a p d.routine d.place

    -- the caller runs again
    abbrev caller_runs : Running
    caller_runs = record {
      story = story;
      a = a;
      p = p;
      accepted = accepted;
      holds = holds;
      full = full;
      m = m;
      count = first_count counts;
      counts = other_counts counts;
      routine = d.routine;
      place = d.place;
      callers = callers;
      locals = d.locals;
      world = world;
      good = record {
        known = here_is.known;
        locals = here_is.locals;
        room = omega arith;
        callers = rest;
        few = omega (arith, few);
        globals = good.globals;
        sizes = good.sizes;
        stored = good.stored;
        put_aside = none_aside story m;
      };
    }

    abbrev e : Around
    e = around caller_runs

    abbrev resumed : List ℕ → Situation → stack.ItemState
    resumed words situation =
        record {
          routine = d.routine;
          place = d.place;
          stack = words;
          put_aside = None;
          callers = callers;
          situation = situation;
        }

    room : state.words (g ∷ others) < 65536
    room = let waiting = caller_words story a p accepted holds (d ∷ callers) counts all in omega (arith, waiting, few)

    above : 64 ≤ back
    above = place_above d.routine d.place here_is.known

    within : back < length m
    within = place_within d.routine d.place here_is.known

    pushes_back : (words left : List ℕ) (v : ℕ) → d.destination ≡ items.push → Backs (d ∷ callers) counts words left v
        → (b : Bool) → nat_le (length (v ∷ d.stack)) 48 ≡ b
        → LedBy (d ∷ callers) counts words (if b then stack.goes (resumed (v ∷ d.stack) (situation_here caller_runs))
        else stack.stuck)
    pushes_back words left v to backs false f = tt
    pushes_back words left v to backs true f =
        let end = at_words e m d.locals (v ∷ d.stack) world.text in
        let pushed : push v (in_frames m (g ∷ others) world.text) ≡ done tt end =
        pushes e m d.locals world.text d.stack v (omega (arith, room, length-reverse d.stack)) in
        let result = ap call_result to in
        let made_so = backs ∙ ap (λ (r : Option ℕ). give_back world.fuel v
        (at_words (inner count back r (g ∷ others)) m locals left world.text)) result
        ∙ back_top m locals left world.text world.fuel v count back g others above within room
        ∙ ap (λ (r : Out (Unit {0})). bound r (λ _ u. goes_on back world.fuel u)) pushed in
        record {
          memory = m;
          count = first_count counts;
          counts = other_counts counts;
          good = record {
            known = here_is.known;
            locals = here_is.locals;
            room = leb-true _ _ f;
            callers = rest;
            few = omega (arith, few);
            globals = good.globals;
            sizes = good.sizes;
            stored = good.stored;
            put_aside = none_aside story m;
          };
          leads = one_step (point (here c) world.fuel) (point back world.fuel) (called_by (d ∷ callers) counts words)
              end made_so;
        }

    goes_back : (words left : List ℕ) (v : ℕ) → d.destination ≡ items.nowhere
        → Backs (d ∷ callers) counts words left v
        → LedBy (d ∷ callers) counts words (stack.goes (resumed d.stack (situation_here caller_runs)))
    goes_back words left v to backs =
        let end = at_words e m d.locals d.stack world.text in
        let result = ap call_result to in
        let made_so = backs ∙ ap (λ (r : Option ℕ). give_back world.fuel v
        (at_words (inner count back r (g ∷ others)) m locals left world.text)) result
        ∙ back_none m locals left world.text world.fuel v count back g others above within in
        record {
          memory = m;
          count = first_count counts;
          counts = other_counts counts;
          good = record {
            known = here_is.known;
            locals = here_is.locals;
            room = here_is.room;
            callers = rest;
            few = omega (arith, few);
            globals = good.globals;
            sizes = good.sizes;
            stored = good.stored;
            put_aside = none_aside story m;
          };
          leads = one_step (point (here c) world.fuel) (point back world.fuel) (called_by (d ∷ callers) counts words)
              end made_so;
        }

    puts_back : (words left : List ℕ) (v : ℕ) → d.destination ≡ items.aside → Backs (d ∷ callers) counts words left v
        → LedBy (d ∷ callers) counts words
        (stack.goes (record (resumed d.stack (situation_here caller_runs)) { put_aside = Some v }))
    puts_back words left v to backs =
        let w = global_writes e m d.locals aside_variable v (omega arith) (omega arith) in
        let m1 = with_variable m aside_variable v in
        let after = scratch_with caller_runs m aside_variable v (scratch_here caller_runs) (omega arith) (omega arith)
        in
        let end = at_words e m1 d.locals d.stack world.text in
        let result = ap call_result to in
        let made_so = backs ∙ ap (λ (r : Option ℕ). give_back world.fuel v
        (at_words (inner count back r (g ∷ others)) m locals left world.text)) result
        ∙ back_into m locals left world.text world.fuel v count back g others above within aside_variable w.named w.can
        ∙ ap (λ (r : Out (Unit {0})). bound r (λ _ u. goes_on back world.fuel u)) (w.done_so d.stack world.text) in
        record {
          memory = m1;
          count = first_count counts;
          counts = other_counts counts;
          good = record {
            known = here_is.known;
            locals = here_is.locals;
            room = here_is.room;
            callers = rest;
            few = omega (arith, few);
            globals = good.globals;
            sizes = good.sizes;
            stored = after.stored;
            put_aside = held_aside caller_runs m v (scratch_here caller_runs);
          };
          leads = one_step (point (here c) world.fuel) (point back world.fuel) (called_by (d ∷ callers) counts words)
              end made_so;
        }

    stores_back : (x : source.Variable) (words left : List ℕ) (v : ℕ) → d.destination ≡ items.into x
        → IsDestination p (routine_at p.routines d.routine).locals (items.into x)
        → Backs (d ∷ callers) counts words left v
        → LedBy (d ∷ callers) counts words
        (stack.goes (resumed d.stack (with_value x v (situation_here caller_runs))))
    stores_back x words left v to is backs =
        let held = variable_held caller_runs m x (scratch_here caller_runs) is in
        let w = held.writes v in
        let situation = with_value x v (situation_here caller_runs) in
        let m1 = memory_with caller_runs m x v in
        let end = at_words e m1 situation.locals d.stack world.text in
        let result = ap call_result to in
        let made_so = backs ∙ ap (λ (r : Option ℕ). give_back world.fuel v
        (at_words (inner count back r (g ∷ others)) m locals left world.text)) result
        ∙ back_into m locals left world.text world.fuel v count back g others above within (number_of x) w.named w.can
        ∙ ap (λ (r : Out (Unit {0})). bound r (λ _ u. goes_on back world.fuel u)) (w.done_so d.stack world.text) in
        let leads : Leads (point (here c) world.fuel) (called_by (d ∷ callers) counts words) (point back world.fuel)
        end =
        one_step (point (here c) world.fuel) (point back world.fuel) (called_by (d ∷ callers) counts words) end
        made_so in
        let fuel = subst (λ f. Leads (point (here c) world.fuel) (called_by (d ∷ callers) counts words)
        (point back f) end) (sym (fuel_same x v (situation_here caller_runs))) leads in
        record {
          memory = m1;
          count = first_count counts;
          counts = other_counts counts;
          good = record {
            known = here_is.known;
            locals = held.locals_same v ∙ here_is.locals;
            room = here_is.room;
            callers = rest;
            few = omega (arith, few);
            globals = held.globals_same v ∙ good.globals;
            sizes = ap (map length) (held.arrays_same v) ∙ good.sizes;
            stored = held.stored v;
            put_aside = none_aside story m1;
          };
          leads = subst (λ t. Leads (point (here c) world.fuel) (called_by (d ∷ callers) counts words)
              (point back situation.world.fuel) (at_words e m1 situation.locals d.stack t))
              (sym (text_same x v (situation_here caller_runs))) fuel;
        }

    gives_back : (words left : List ℕ) (v : ℕ) → Backs (d ∷ callers) counts words left v
        → LedBy (d ∷ callers) counts words (stack.return_to (d ∷ callers) v world)
    gives_back words left v backs = go d.destination refl here_is.destination
      where
        go : (to : Destination) → d.destination ≡ to → IsDestination p (routine_at p.routines d.routine).locals to
            → LedBy (d ∷ callers) counts words (stack.deliver to v (resumed d.stack (situation_here caller_runs)))
        go items.push is h = pushes_back words left v is backs (nat_le (length (v ∷ d.stack)) 48) refl
        go (items.into x) is h = stores_back x words left v is h backs
        go items.aside is h = puts_back words left v is backs
        go items.nowhere is h = goes_back words left v is backs

  pub returns_to : (callers : List Caller) (counts words left : List ℕ) (v : ℕ) → All (IsCaller story a p) callers
      → length callers < 1000 → Backs callers counts words left v
      → LedBy callers counts words (stack.return_to callers v world)
  returns_to [] counts words left v all few backs =
      let st = called_by [] counts words in
      let end = in_frames m (first_environment ∷ []) world.text in
      does_after full world (record { texts = world.texts ++ (world.text ++ []) ∷ []; place = places.Quit })
      (point (here c) world.fuel) (point (word_at story 6 + 3) world.fuel) st end
      (one_step (point (here c) world.fuel) (point (word_at story 6 + 3) world.fuel) st end
      (backs ∙ back_none m locals left world.text world.fuel v count (word_at story 6 + 3) first_environment []
      end_above end_within))
      (quits (inner 0 0 None []) m [] [] world.text full (word_at story 6 + 3) world.fuel world end_held)
  returns_to (d ∷ callers) counts words left v all few backs = gives_back d callers counts all few words left v backs
