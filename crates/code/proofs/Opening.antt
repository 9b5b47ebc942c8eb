-- The opening of a story that holds a program: Main is called, and the rest is what the program means.
use Rattle.std.proofs.Common.{◌≡◌, ℕ, ◌+◌, ◌≤◌, List, [], ◌∷◌, slice_index, Option, Some, None, refl, sym, ap, ◌∙◌}
use Rattle.std.proofs.Common.{arith}
use Rattle.std.specs.Prelude.{map}
use Rattle.std.specs.List.{concat}
use Rattle.zcore.specs.declared.instruction.Operand.TheVariants.{Large}
use Rattle.zcore.specs.declared.instruction.Operation.TheVariants.{Call1n, Quit}
use Rattle.ztext.specs.Bytes.{word_at}
use Rattle.zcore.specs.Header.{static_base_of}
use Rattle.zcore.specs.InstructionBytes.{bytes_of}
use Rattle.zcore.specs.Execution.{step, perform, call_packed}
use Rattle.zcore.specs.Turn.{Whole, first_next, first_state, opening, entries, plays_from, last_place}
use Rattle.zcore.proofs.Turning.{turn_ends_once}
use Rattle.meaning.specs.Resolved.{ProgramOf}
use Rattle.meaning.specs.World.{Situation}
use Rattle.meaning.specs.Meaning.{first_world, meaning}
use Rattle.meaning.specs.Accepted.{IsAccepted}
use Rattle.meaning.specs.Printable.{HasPrintableTexts}
use Rattle.code_items.specs.Laws.{ItemsFollow}
use Rattle.code_items.specs.Stack as stack
use Rattle.meaning.specs.Objects.{first_objects}
use Rattle.code.specs.Region.{HasObjects}
use Rattle.code.specs.Tables.{PropertyTable}
use Rattle.code.proofs.Together.{region_laws}
use Rattle.code_drafts.specs.Addresses.{Addresses}
use Rattle.code_drafts.specs.Instructions.{plain}
use Rattle.meaning.specs.Plays.{Plays}
use Rattle.code.specs.HeldProgram.{HoldsProgram}
use Rattle.code.proofs.Regions.{held_stands}
use Rattle.code.proofs.Play.{Stored, PlaysAs}
use Rattle.code.proofs.Steps.{step_is, first_held, fits_one, one_operand, large_value}
use Rattle.code.proofs.Keeps.{enter_keeps, enter_faultless, from_no_fault, exec_no_fault}
use Rattle.code.proofs.Sim.{ItemsLead, led_on, sim}
use Rattle.code.proofs.Entering.{enter_led}

module _ (story : List ℕ) (a : Addresses) (p : ProgramOf) (accepted : IsAccepted p) (printable : HasPrintableTexts p)
    (holds : HoldsProgram story a p) (full : ℕ) (lines : List (List ℕ)) where
  abbrev begins : Situation
  begins = record { locals = []; world = first_world p full lines }

  -- the first instruction calls Main
  calls_main : step (first_next story full) (first_state story)
      ≡ call_packed (first_next story full) (word_at story 6 + 3) None (slice_index a.routines p.main) []
      (first_state story)
  unfolding perform bytes_of
  calls_main =
      let word = slice_index a.routines p.main in
      let i = plain Call1n (Large word ∷ []) in
      step_is (first_next story full) (first_state story) (first_state story) i (word ∷ [])
      (record {
        least = omega arith;
        most = omega arith;
        operands_fit = fits_one (Large word) (holds.routines p.main accepted.main).word;
        result_fits = tt;
        branch_fits = tt;
      })
      (first_held story (word_at story 6) i (plain Quit [] ∷ []) (
        omega (arith, holds.start_above, holds.globals_above, holds.globals_below),
        holds.start,
      ))
      (one_operand (first_state story) (first_state story) (Large word) word (large_value (first_state story) word))

  -- static memory begins at a word
  static_small : static_base_of story ≤ 65535
  static_small =
      let high = holds.byte_each 14 0 (omega (arith, holds.globals_above, holds.globals_below, holds.static_below)) in
      let low = holds.byte_each 15 0 (omega (arith, holds.globals_above, holds.globals_below, holds.static_below)) in
      omega (arith, high, low)

  begun : (tables : List PropertyTable) × HasObjects p.objects p.defaults (first_objects p.objects) tables story
  begun =
      region_laws.begins story p.objects p.defaults (record { each = accepted.objects; names = printable.1 })
      accepted.defaults.0 accepted.defaults.1 holds.objects holds.static_below static_small

  stored : Stored story a p p.globals p.arrays (first_objects p.objects) story
  stored = record {
    size = refl;
    header = λ q h. refl;
    below = λ q h. refl;
    kept = refl;
    values = holds.globals;
    regions = record {
      first = holds.first_array;
      above = holds.arrays_above;
      below = holds.objects_above;
      places = holds.arrays_each;
      stands = held_stands story holds.first_array (concat p.arrays)
          (omega (arith, holds.objects_above, holds.objects.below, holds.static_below)) holds.arrays;
    };
    tables = begun.0;
    has = begun.1;
  }

  module _ (follows : ItemsFollow) (led : ItemsLead story a p full) where
    does : PlaysAs full (first_next story full) (first_state story) (first_world p full lines)
        (meaning p full lines)
    does =
        let f = follows p accepted full lines in
        led_on story a p full f.count (sim story a p full led f.count) (first_next story full) (first_state story)
        (first_world p full lines) (stack.start p full lines) (meaning p full lines)
        (enter_led story a p accepted holds full (word_at story 6) (first_state story) story [] p.main [] [] begins
        accepted.main stored refl refl (λ k d h. absurd (omega (arith, h))) (omega arith) calls_main)
        (enter_keeps p p.main [] [] begins) (omega arith) f.comes

    opened : opening story full ≡ Some does.whole
    unfolding opening
    opened =
        let e = turn_ends_once (first_next story full) (first_state story) in
        e.found ∙ sym (ap Some (e.only does.whole does.turns))

    pub plays_it : Plays story p full lines
    plays_it = record {
      texts = ap
          (λ (o : Option Whole). map (λ (w : Whole). w.text) (entries o (λ whole. plays_from full whole lines)))
          opened ∙ sym does.texts;
      place = ap (λ (o : Option Whole). last_place (entries o (λ whole. plays_from full whole lines))) opened
          ∙ sym does.place;
      no_fault =
          let f = follows p accepted full lines in
          from_no_fault (stack.start p full lines) (stack.exec p full f.count) (meaning p full lines)
          (enter_faultless p p.main [] [] begins) (λ s e. exec_no_fault p full f.count s (meaning p full lines) e)
          f.comes;
    }
