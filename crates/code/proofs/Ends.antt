-- How turns go on and end: steps before the end of a turn, and printing up to the limit of text.
use Rattle.std.proofs.Common.{◌≡◌, ℕ, suc, ◌+◌, List, [], ◌∷◌, ◌++◌, length, take, Some, true, false, refl, sym, ap}
use Rattle.std.proofs.Common.{◌∙◌, arith, length-append, Bool, cond}
use Rattle.std.specs.Prelude.{nat_le, map}
use Rattle.std.specs.List.{flat_map}
use Rattle.zcore.specs.declared.instruction.Operation.TheVariants as operations
use Rattle.zcore.specs.declared.place.Place.{Place}
use Rattle.zcore.specs.declared.place.Place.TheVariants as places
use Rattle.zcore.specs.declared.place.Limit.TheVariants as limits
use Rattle.zcore.specs.declared.next.Next.{Next}
use Rattle.zcore.specs.InstructionBytes.{bytes_of}
use Rattle.zcore.specs.State.{State, Out, done, halt}
use Rattle.zcore.specs.Parts.{transcribed, print}
use Rattle.zcore.specs.Execution.{perform, print_characters, step}
use Rattle.zcore.specs.Turn.{Whole, turn_in, after_step, ended, notice, is_waiting, plays_from, last_place}
use Rattle.zcore.specs.Layout.{text_limit}
use Rattle.meaning.specs.World.{Outcome, World}
use Rattle.code_drafts.specs.Instructions.{plain}
use Rattle.code.proofs.Behind.{Holds}
use Rattle.code.proofs.Play.{Leads, stays, moves, PlaysAs}
use Rattle.code.proofs.Parts.{Around, machine as at_words}
use Rattle.code.proofs.Steps.{point, step_is, no_operand, fits_none}

-- a turn that comes to an outcome after some steps comes to it from before them
pub does_after : (full : ℕ) (w : World) (o : Outcome) (here next : Next) (s t : State) → Leads here s next t
    → PlaysAs full next t w o → PlaysAs full here s w o
does_after full w o here next s t (stays h x) d = d
does_after full w o here next s t (moves h m n x y z e rest) d =
    let r = does_after full w o m next y t rest d in
    record {
      whole = r.whole;
      turns = record {
        count = suc r.turns.count;
        ends = ap (λ out. after_step out (turn_in r.turns.count) (λ place u. Some (ended h place u))) e
            ∙ r.turns.ends;
      };
      texts = r.texts;
      place = r.place;
    }

-- nothing is played after a turn that does not wait
plays_no_more : (full : ℕ) (whole : Whole) (lines : List (List ℕ)) → is_waiting whole.place ≡ false
    → plays_from full whole lines ≡ []
plays_no_more full whole [] e = refl
plays_no_more full whole (line ∷ lines) e = rw e refl

-- a turn ends at a step
pub does_halt : (full : ℕ) (w : World) (here : Next) (s t : State) (place : Place) → is_waiting place ≡ false
    → step here s ≡ halt place t
    → PlaysAs full here s w (record { texts = w.texts ++ (t.text ++ notice place) ∷ []; place = place })
does_halt full w here s t place e h =
    let whole = ended here place t in
    let no_more = plays_no_more full whole w.lines e in
    record {
      whole = whole;
      turns = record {
        count = 1;
        ends = ap (λ out. after_step out (turn_in 0) (λ place u. Some (ended here place u))) h;
      };
      texts = sym (ap (λ ws. w.texts ++ map (λ (v : Whole). v.text) (whole ∷ ws)) no_more);
      place = sym (ap (λ ws. last_place (whole ∷ ws)) no_more);
    }

module _ (e : Around) (m l s t : List ℕ) where
  -- what is printed, by the bytes of the transcript, and whether they fit
  abbrev out : List ℕ → Bool → Out (Unit {0})
  out bytes fits = cond fits (done tt (at_words e m l s (t ++ bytes)))
      (halt (places.Limit limits.Text) (at_words e m l s (take text_limit (t ++ bytes))))

  abbrev out_of : List ℕ → Out (Unit {0})
  out_of bytes = out bytes (nat_le (length t + length bytes) text_limit)

  -- a text that fits
  pub prints : (characters bytes : List ℕ) → flat_map transcribed characters ≡ bytes
      → nat_le (length (t ++ bytes)) text_limit ≡ true
      → print characters (at_words e m l s t) ≡ done tt (at_words e m l s (t ++ bytes))
  unfolding print
  prints characters bytes is fits =
      let n : nat_le (length t + length bytes) text_limit ≡ true =
      ap (λ k. nat_le k text_limit) (sym (length-append t bytes)) ∙ fits in
      ap out_of is ∙ ap (out bytes) n

  -- one that does not
  pub prints_part : (characters bytes : List ℕ) → flat_map transcribed characters ≡ bytes
      → nat_le (length (t ++ bytes)) text_limit ≡ false
      → print characters (at_words e m l s t)
      ≡ halt (places.Limit limits.Text) (at_words e m l s (take text_limit (t ++ bytes)))
  unfolding print
  prints_part characters bytes is full =
      let n : nat_le (length t + length bytes) text_limit ≡ false =
      ap (λ k. nat_le k text_limit) (sym (length-append t bytes)) ∙ full in
      ap out_of is ∙ ap (out bytes) n

  pub prints_on : (here : Next) (after : ℕ) (characters bytes : List ℕ) → flat_map transcribed characters ≡ bytes
      → nat_le (length (t ++ bytes)) text_limit ≡ true
      → print_characters here after characters (at_words e m l s t)
      ≡ done (point after here.fuel) (at_words e m l s (t ++ bytes))
  unfolding print_characters
  prints_on here after characters bytes is fits = rw (prints characters bytes is fits) refl

  pub prints_off : (here : Next) (after : ℕ) (characters bytes : List ℕ) → flat_map transcribed characters ≡ bytes
      → nat_le (length (t ++ bytes)) text_limit ≡ false
      → print_characters here after characters (at_words e m l s t)
      ≡ halt (places.Limit limits.Text) (at_words e m l s (take text_limit (t ++ bytes)))
  unfolding print_characters
  prints_off here after characters bytes is full = rw (prints_part characters bytes is full) refl

  -- the story quits
  pub quits : (full q fuel : ℕ) (w : World) → Holds m q (bytes_of (plain operations.Quit []))
      → PlaysAs full (point q fuel) (at_words e m l s t) w
      (record { texts = w.texts ++ (t ++ []) ∷ []; place = places.Quit })
  unfolding perform
  quits full q fuel w h =
      let st = at_words e m l s t in
      does_halt full w (point q fuel) st st places.Quit refl
      (step_is (point q fuel) st st (plain operations.Quit []) []
      (record {
        least = omega arith;
        most = omega arith;
        operands_fit = fits_none;
        result_fits = tt;
        branch_fits = tt;
      })
      h (no_operand st))
