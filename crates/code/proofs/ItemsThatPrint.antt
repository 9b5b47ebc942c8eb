-- Items that print, and faults, which print their line and quit.
use Rattle.std.proofs.Common.{◌≡◌, ℕ, ◌+◌, ◌*◌, ◌≤◌, List, [], ◌∷◌, ◌++◌, codes, length, take, slice_index, Bool, true}
use Rattle.std.proofs.Common.{false, refl, sym, ap, ◌∙◌, subst, arith}
use Rattle.std.specs.Prelude.{nat_le, nat_eq, if◌then◌else◌, map, ◌==◌}
use Rattle.std.specs.List.{All, flat_map, list_all}
use Rattle.ztext.specs.Text.{encoded}
use Rattle.ztext.specs.Alphabets.{is_printable}
use Rattle.ztext.specs.Abbreviations.{encoded_with}
use Rattle.ztext.specs.Text as machine_text
use Rattle.ztext.proofs.Holding.{holds_append}
use Rattle.zcore.specs.declared.instruction.Operand.TheVariants.{Large}
use Rattle.zcore.specs.declared.instruction.Operation.TheVariants as operations
use Rattle.zcore.specs.declared.place.Place.TheVariants as places
use Rattle.zcore.specs.declared.place.Limit.TheVariants as limits
use Rattle.zcore.specs.Arithmetic.{signed_text}
use Rattle.zcore.specs.Header.{static_base_of}
use Rattle.zcore.specs.InstructionBytes.{bytes_of}
use Rattle.zcore.specs.State.{done, halt}
use Rattle.zcore.specs.Parts.{unpacked}
use Rattle.zcore.specs.Execution.{perform, step, text_at, print_inline, print_packed}
use Rattle.zcore.specs.Layout.{text_limit}
use Rattle.syntax_lexer.specs.Printable.{IsPrintable}
use Rattle.meaning.specs.declared.cause.Cause.{Cause}
use Rattle.meaning.specs.World.{Situation, Comes, to, over, bound, put, shown, words_of}
use Rattle.meaning.specs.World as source
use Rattle.code_drafts.specs.Items as items
use Rattle.code_items.specs.Stack as stack
use Rattle.code_drafts.specs.Instructions.{plain, in_place, fail}
use Rattle.meaning.specs.Places.{machine_character}
use Rattle.code.specs.ItemBytes.{text_bytes}
use Rattle.code.proofs.Behind.{Holds}
use Rattle.code.specs.HeldProgram.{fault_line, HoldsText}
use Rattle.code.proofs.Play.{Leads, stays}
use Rattle.code.proofs.Memory.{holds_on}
use Rattle.code.proofs.Parts.{machine as at_words}
use Rattle.code.proofs.Steps.{point, leads_then, one_step, first_held, others_held, no_operand, one_operand}
use Rattle.code.proofs.Steps.{large_value}
use Rattle.code.proofs.Fitting.{Shaped}
use Rattle.code.proofs.Ends.{does_after, does_halt, prints, prints_part, prints_on, prints_off, quits}
use Rattle.code.proofs.Texts.{number_prints, text_prints, text_read, printable_kept, IsLine, line_read}
use Rattle.code.proofs.Shortened.{has_all}
use Rattle.code.proofs.HeldRoutines.{unpacked_low, address_low}
use Rattle.code.proofs.Arriving.{Running, at, around, here, LedFrom, kept, code_held, arrives_on, ArrivesAt}
use Rattle.code.proofs.Arriving.{situation_here}
use Rattle.code.proofs.Temporaries.{Scratch, scratch_here, held_in, made, made_at}
use Rattle.code.proofs.Alone.{by_operand, alone_count, alone_value, IsOperandHere, next_place, single}

-- what a fault puts into the text
abbrev pub fault_bytes : List ℕ → List ℕ
fault_bytes words = 10 ∷ codes "[Fault: " ++ words ++ codes "]" ++ 10 ∷ []

module _ (c : Running) where
  open c use {story, a, p, accepted, holds, full, m, count, counts, routine, place, callers, locals, world, good}

  -- a text is put where it fits, and else what fits of it
  abbrev put_by : Bool → List ℕ → Comes (Unit {0})
  put_by b bytes =
      if b then to tt (record { locals = locals; world = record world { text = world.text ++ bytes } })
      else over (source.ended (places.Limit limits.Text) (record world { text = take text_limit (world.text ++ bytes) }))

  abbrev onward : List ℕ → List ℕ → Situation → stack.Next
  onward before words situation = stack.goes (stack.after (at c before) words situation)

  -- a step that prints
  pub printed_led : (before mid after m1 bytes : List ℕ) (q end : ℕ) → end ≡ next_place c → length after ≤ 48
      → Scratch c m1
      → Leads (point (here c) world.fuel) (at_words (around c) m locals before world.text) (point q world.fuel)
      (at_words (around c) m1 locals mid world.text)
      → (nat_le (length (world.text ++ bytes)) text_limit ≡ true
      → step (point q world.fuel) (at_words (around c) m1 locals mid world.text)
      ≡ done (point end world.fuel) (at_words (around c) m1 locals after (world.text ++ bytes)))
      → (nat_le (length (world.text ++ bytes)) text_limit ≡ false
      → step (point q world.fuel) (at_words (around c) m1 locals mid world.text)
      ≡ halt (places.Limit limits.Text) (at_words (around c) m1 locals after (take text_limit (world.text ++ bytes))))
      → LedFrom c before (stack.prints (put bytes) after (at c before))
  printed_led before mid after m1 bytes q end size room scratch leads fits over_full =
      go (nat_le (length (world.text ++ bytes)) text_limit) refl
    where
      go : (b : Bool) → nat_le (length (world.text ++ bytes)) text_limit ≡ b
          → LedFrom c before (stack.after_part (put_by b bytes) (λ _ situation. onward before after situation))
      go true e =
          arrives_on c before after m1
          (record { locals = locals; world = record world { text = world.text ++ bytes } })
          end size room scratch.stored refl refl refl
          (leads_then (point (here c) world.fuel) (point q world.fuel) (point end world.fuel)
          (at_words (around c) m locals before world.text) (at_words (around c) m1 locals mid world.text)
          (at_words (around c) m1 locals after (world.text ++ bytes))
          leads (one_step (point q world.fuel) (point end world.fuel) (at_words (around c) m1 locals mid world.text)
          (at_words (around c) m1 locals after (world.text ++ bytes)) (fits e)))
      go false e =
          does_after full world _ (point (here c) world.fuel) (point q world.fuel)
          (at_words (around c) m locals before world.text) (at_words (around c) m1 locals mid world.text) leads
          (does_halt full world (point q world.fuel) (at_words (around c) m1 locals mid world.text)
          (at_words (around c) m1 locals after (take text_limit (world.text ++ bytes))) (places.Limit limits.Text) refl
          (over_full e))

  -- Plain printing

  pub new_line_led : (s : List ℕ) → length s ≤ 48 → ArrivesAt c items.new_line
      → LedFrom c s (stack.prints (put (10 ∷ [])) s (at c s))
  unfolding perform
  new_line_led s short stands =
      let st = at_words (around c) m locals s world.text in
      let i = plain operations.NewLine [] in
      let here_is = single c items.new_line i refl refl stands in
      let shaped : Shaped i = record { least = omega arith; most = omega arith; result_fits = tt; branch_fits = tt } in
      let end = here c + length (bytes_of i) in
      let makes = made c m s s world.text (here c) i [] (scratch_here c) (omega arith) shaped here_is.held
      (no_operand st) in
      printed_led s s s m (10 ∷ []) (here c) end here_is.end short (scratch_here c)
      (stays (point (here c) world.fuel) st)
      (λ e. makes ∙ prints_on (around c) m locals s world.text (point (here c) world.fuel) end (13 ∷ [])
      (10 ∷ []) refl e)
      (λ e. makes ∙ prints_off (around c) m locals s world.text (point (here c) world.fuel) end (13 ∷ [])
      (10 ∷ []) refl e)

  pub print_number_led : (o : items.Operand) (s : List ℕ) → IsOperandHere c o → length s ≤ 48
      → ArrivesAt c (items.print_number o)
      → LedFrom c s (stack.with_operand o (situation_here c) s
      (λ v rest. stack.prints (put (signed_text v)) rest (at c s)))
  unfolding perform
  print_number_led o s is short stands =
      by_operand o (situation_here c) s (LedFrom c s) (λ v rest. stack.prints (put (signed_text v)) rest (at c s)) tt
      (λ v rest h.
      let st = at_words (around c) m locals s world.text in
      let st1 = at_words (around c) m locals rest world.text in
      let i = plain operations.PrintNumber (in_place o ∷ []) in
      let here_is = single c (items.print_number o) i refl refl stands in
      let shaped : Shaped i = record { least = omega arith; most = omega arith; result_fits = tt; branch_fits = tt } in
      let end = here c + length (bytes_of i) in
      let makes = made c m s rest world.text (here c) i (v ∷ []) (scratch_here c) (omega arith) shaped here_is.held
      (one_operand st st1 (in_place o) v (alone_value c o m world.text s v rest (scratch_here c) is h)) in
      printed_led s s rest m (signed_text v) (here c) end here_is.end
      (omega (arith, short, alone_count o (situation_here c) s v rest h)) (scratch_here c)
      (stays (point (here c) world.fuel) st)
      (λ e. makes ∙ prints_on (around c) m locals rest world.text (point (here c) world.fuel) end (signed_text v)
      (signed_text v) (number_prints v) e)
      (λ e. makes ∙ prints_off (around c) m locals rest world.text (point (here c) world.fuel) end (signed_text v)
      (signed_text v) (number_prints v) e))

  pub print_text_led : (bytes : List ℕ) (s : List ℕ)
      → All (λ (t : List ℕ). list_all is_printable t ≡ true) p.abbreviations → All IsPrintable bytes
      → length s ≤ 48 → ArrivesAt c (items.print_text bytes)
      → LedFrom c s (stack.prints (put (map shown bytes)) s (at c s))
  unfolding bytes_of perform print_inline text_at
  print_text_led bytes s texts printable short stands =
      let st = at_words (around c) m locals s world.text in
      let i = plain operations.Print [] in
      let line = map machine_character bytes in
      let shown_bytes = map shown bytes in
      let shaped : Shaped i = record { least = omega arith; most = omega arith; result_fits = tt; branch_fits = tt } in
      let same = printable_kept bytes printable in
      let h = subst (λ t. machine_text.Holds m (here c + 1) (encoded_with p.abbreviations t)) same
      (holds_append m (here c) (178 ∷ []) (text_bytes p.abbreviations (items.print_text bytes))
      stands.held).1 in
      let size : here c + 1 + length (encoded_with p.abbreviations line) ≡ next_place c =
      omega (arith, stands.next, ap (λ t. length (encoded_with p.abbreviations t)) same) in
      let has = has_all story a p holds world.globals world.arrays world.objects m good.stored texts in
      let read = text_read p.abbreviations bytes m (here c + 1) accepted.abbreviations has printable h
      (omega (arith, size, address_low story a p accepted holds routine (place + 1) good.known)) in
      let makes = made c m s s world.text (here c) i [] (scratch_here c) (omega arith) shaped
      (first_held m (here c) i [] (code_held c (items.print_text bytes) stands)) (no_operand st) in
      printed_led s s s m shown_bytes (here c) (here c + 1 + length (encoded_with p.abbreviations line)) size short
      (scratch_here c)
      (stays (point (here c) world.fuel) st)
      (λ e. makes ∙ rw (
        read,
        prints (around c) m locals s world.text line shown_bytes (text_prints bytes printable) e,
      ) refl)
      (λ e. makes ∙ rw (
        read,
        prints_part (around c) m locals s world.text line shown_bytes (text_prints bytes printable) e,
      ) refl)

  -- Faults

  -- the scale of packed addresses is the story's
  unpacked_same : (other : List ℕ) (k : ℕ) → Scratch c other → unpacked other k ≡ unpacked story k
  unpacked_same other k scratch = ap (λ b. (if b == 8 then 8 else 4) * k) (scratch.stored.header 0 (omega arith))

  -- a fault's line is printed, and the story quits
  fault_by : {A : Type 0} (cause : Cause) (before mid m1 : List ℕ) (q fuel : ℕ) (next : A → Situation → stack.Next)
      → Leads (point (here c) world.fuel) (at_words (around c) m locals before world.text) (point q fuel)
      (at_words (around c) m1 locals mid world.text)
      → (nat_le (length (world.text ++ fault_bytes (words_of cause))) text_limit ≡ true
      → step (point q fuel) (at_words (around c) m1 locals mid world.text)
      ≡ done (point (q + 3) fuel) (at_words (around c) m1 locals mid (world.text ++ fault_bytes (words_of cause))))
      → (nat_le (length (world.text ++ fault_bytes (words_of cause))) text_limit ≡ false
      → step (point q fuel) (at_words (around c) m1 locals mid world.text)
      ≡ halt (places.Limit limits.Text) (at_words (around c) m1 locals mid
      (take text_limit (world.text ++ fault_bytes (words_of cause)))))
      → Holds m1 (q + 3) (bytes_of (plain operations.Quit []))
      → LedFrom c before (stack.after_part (source.fault cause (situation_here c)) next)
  fault_by {A} cause before mid m1 q fuel next leads fits over_full h =
      go (nat_le (length (world.text ++ fault_bytes (words_of cause))) text_limit) refl
    where
      go : (b : Bool) → nat_le (length (world.text ++ fault_bytes (words_of cause))) text_limit ≡ b
          → LedFrom c before (stack.after_part (bound (put_by b (fault_bytes (words_of cause))) (λ _. source.ends {A =
          A} places.Quit)) next)
      go true e =
          does_after full world _ (point (here c) world.fuel) (point q fuel)
          (at_words (around c) m locals before world.text) (at_words (around c) m1 locals mid world.text) leads
          (does_after full world _ (point q fuel) (point (q + 3) fuel)
          (at_words (around c) m1 locals mid world.text)
          (at_words (around c) m1 locals mid (world.text ++ fault_bytes (words_of cause)))
          (one_step (point q fuel) (point (q + 3) fuel) (at_words (around c) m1 locals mid world.text)
          (at_words (around c) m1 locals mid (world.text ++ fault_bytes (words_of cause))) (fits e))
          (quits (around c) m1 locals mid (world.text ++ fault_bytes (words_of cause)) full (q + 3) fuel world h))
      go false e =
          does_after full world _ (point (here c) world.fuel) (point q fuel)
          (at_words (around c) m locals before world.text) (at_words (around c) m1 locals mid world.text) leads
          (does_halt full world (point q fuel) (at_words (around c) m1 locals mid world.text)
          (at_words (around c) m1 locals mid (take text_limit (world.text ++ fault_bytes (words_of cause))))
          (places.Limit limits.Text)
          refl (over_full e))

  -- where the machine comes to a fault's code, it does what a fault does, with whatever fuel
  pub fails_at : {A : Type 0} (cause : Cause) (k q fuel : ℕ) (before mid m1 : List ℕ)
      (next : A → Situation → stack.Next)
      → IsLine (words_of cause) → HoldsText story k (fault_line (words_of cause)) → here c ≤ q → Scratch c m1
      → Holds m q (flat_map bytes_of (fail k))
      → Leads (point (here c) world.fuel) (at_words (around c) m locals before world.text) (point q fuel)
      (at_words (around c) m1 locals mid world.text)
      → LedFrom c before (stack.after_part (source.fault cause (situation_here c)) next)
  unfolding bytes_of perform print_packed text_at
  fails_at cause k q fuel before mid m1 next line text from scratch h leads =
      let st = at_words (around c) m1 locals mid world.text in
      let i = plain operations.PrintPacked (Large k ∷ []) in
      let quit = plain operations.Quit [] in
      let first = first_held m q i (quit ∷ []) h in
      let small = text.word in
      let same = unpacked_same m1 k scratch in
      let kept1 = scratch.kept ∙ kept c in
      let line_held = holds_on (static_base_of story) (unpacked story k) story m1
      (encoded (fault_line (words_of cause))) kept1
      text.above text.bytes in
      let read = line_read (words_of cause) m1 (unpacked m1 k) line
      (subst (λ x. machine_text.Holds m1 x (encoded (fault_line (words_of cause)))) (sym same) line_held)
      (omega (arith, same, unpacked_low (nat_eq (slice_index story 0) 8) k small)) in
      let shaped : Shaped i = record { least = omega arith; most = omega arith; result_fits = tt; branch_fits = tt } in
      let makes = made_at c fuel m1 mid mid world.text q i (k ∷ []) scratch from shaped first
      (one_operand st st (Large k) k (large_value st k)) in
      let h2 = held_in c m1 (bytes_of quit) (q + 3) scratch (omega (arith, from))
      (first_held m (q + 3) quit [] (others_held m q i (quit ∷ []) h)) in
      fault_by cause before mid m1 q fuel next leads
      (λ e. makes ∙ rw read (prints_on (around c) m1 locals mid world.text (point q fuel) (q + 3)
      (fault_line (words_of cause)) (fault_bytes (words_of cause)) line.prints e))
      (λ e. makes ∙ rw read (prints_off (around c) m1 locals mid world.text (point q fuel) (q + 3)
      (fault_line (words_of cause)) (fault_bytes (words_of cause)) line.prints e))
      h2

  pub fails_led : {A : Type 0} (cause : Cause) (k q : ℕ) (before mid m1 : List ℕ) (next : A → Situation → stack.Next)
      → IsLine (words_of cause) → HoldsText story k (fault_line (words_of cause)) → here c ≤ q → Scratch c m1
      → Holds m q (flat_map bytes_of (fail k))
      → Leads (point (here c) world.fuel) (at_words (around c) m locals before world.text) (point q world.fuel)
      (at_words (around c) m1 locals mid world.text)
      → LedFrom c before (stack.after_part (source.fault cause (situation_here c)) next)
  fails_led cause k q before mid m1 next line text from scratch h leads =
      fails_at cause k q world.fuel before mid m1 next line text from scratch h leads
