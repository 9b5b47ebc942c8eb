-- What the Standard's machine tells of a compiled story is what the source means, on lines of ASCII; and the story is
-- refused for want of memory alone.
use Rattle.std.proofs.Common.{◌≡◌, ℕ, ◌<◌, List, [], ◌∷◌, refl, ap, ◌∙◌, arith, Bool, true, false, Option, None}
use Rattle.std.proofs.Common.{Some, Err, inl, inr, suc}
use Rattle.std.specs.Prelude.{◌&&◌, ◌||◌, nat_le, not, length}
use Rattle.std.specs.List.{list_all}
use Rattle.std.specs.Option.{is_none}
use Rattle.std.specs.Str.{IsAscii, is_utf8}
use Rattle.std.proofs.lemmas.Bool.{and_parts}
use Rattle.std.proofs.lemmas.Bool.Decides.{nat_tests}
use Rattle.std.proofs.lemmas.List.Elements.{All-head, All-tail}
use Rattle.std.proofs.lemmas.Str.{IsUtf8-from_ascii, chars-IsAscii, is_utf8-from_IsUtf8}
use Rattle.zcore.specs.Turn.{Whole, is_waiting, last_place, plays_of}
use Rattle.zcore_standard_loading.specs.declared.options.StandardOptions.{StandardOptions}
use Rattle.zcore_standard.specs.Input.{can_be_typed, is_typed}
use Rattle.zcore_standard.specs.Saving.{asked_by}
use Rattle.zcore_standard.specs.Unicode.{is_ascii}
use Rattle.zcore_versions.specs.StandardLaws.{is_plain_line}
use Rattle.zcore_standard_loading.specs.Loading.{memory_for, story_of}
use Rattle.zcore_versions.specs.Machine.{by_version}
use Rattle.zcore_versions.specs.Versions.{Story}
use Rattle.meaning.specs.Resolved.{ProgramOf}
use Rattle.machine_standard.specs.declared.load.StandardFault.TheVariants as loads
use Rattle.session.specs.declared.fault.OpenFault.{OpenFault}
use Rattle.session.specs.declared.fault.OpenFault.TheVariants as opens
use Rattle.session.specs.Game.{telling_of}
use Rattle.session.specs.Naming.{last_asked}
use Rattle.session.specs.Replies.{OpensSession}
use Rattle.session_lines.specs.Standing.{is_typable, is_typable_byte, longest_line}
use Rattle.session_lines.specs.Transcript.{Typed}
use Rattle.session_lines.specs.Names.{given_after}
use Rattle.story.specs.Played.{IsPlayableByStandard, asks_no_name}
use Rattle.story.proofs.StandardReading.{read_not_refused}
use Rattle.tools.specs.Headline.{last_of}
use Rattle.tools.specs.Standard.{WantsMemory, standard_game}
use Rattle.tools.proofs.Pairing.{last_said}
use Rattle.tools.proofs.Plain.{Agrees, AreTypable}

-- Lines

plain_bytes : (lines : List (List ℕ)) → AreTypable lines → list_all is_plain_line lines ≡ true
plain_bytes [] h = refl
plain_bytes (line ∷ lines) h =
    let P = λ (l : List ℕ). is_typable l ≡ true in
    let one : is_plain_line line ≡ true = (and_parts _ _ (All-head P line lines h)).1 in
    rw one (plain_bytes lines (All-tail P line lines h))

printed : (b p q r any : Bool) → p ≡ false → ((b || (p && q && r)) && (b || any)) ≡ b
printed true p q r any e = refl
printed false p q r any e = rw e refl

byte_typed : (extra : List ℕ) (byte : ℕ) → byte < 128 → is_typed extra byte ≡ is_typable_byte byte
byte_typed extra byte small =
    let far : nat_le 160 byte ≡ false = grind (arith, nat_tests) in
    printed (is_ascii byte) (nat_le 160 byte) _ _ _ far

bytes_typed : (extra line : List ℕ) → IsAscii line → list_all (is_typed extra) line ≡ list_all is_typable_byte line
bytes_typed extra [] h = refl
bytes_typed extra (byte ∷ bytes) h =
    ap (λ b. b && list_all (is_typed extra) bytes) (byte_typed extra byte (h 0))
    ∙ ap (λ b. is_typable_byte byte && b) (bytes_typed extra bytes (λ i. h (suc i)))

line_typed : (extra line : List ℕ) → IsAscii line → can_be_typed extra line ≡ list_all is_typable_byte line
line_typed extra line h =
    let whole : is_utf8 line ≡ true = is_utf8-from_IsUtf8 line (IsUtf8-from_ascii line h) in
    rw whole (ap (list_all (is_typed extra)) (chars-IsAscii line h) ∙ bytes_typed extra line h)

-- No name is asked for

is_no_some : {A : Type 0} (o : Option A) → is_none o ≡ true → o ≡ None
is_no_some None e = refl
is_no_some (Some a) e = absurd (cc)

or_none : {A : Type 0} (waits : Bool) (o : Option A) → (not waits || is_none o) ≡ true → waits ≡ true → o ≡ None
or_none true o h e = is_no_some o h
or_none false o h e = absurd (cc)

none_asked : (story : Story) (ws : List Whole) → list_all asks_no_name ws ≡ true → is_waiting (last_place ws) ≡ true
    → last_asked (Some story) ws ≡ None
none_asked story [] h e = refl
none_asked story (w ∷ []) h e = or_none (is_waiting w.place) (asked_by w.state.pending) (and_parts _ _ h).0 e
none_asked story (w ∷ v ∷ ws) h e = none_asked story (v ∷ ws) (and_parts _ _ h).1 e

-- The telling

module _ (options : StandardOptions) (story : List ℕ) (p : ProgramOf) (h : IsPlayableByStandard options story p)
    (fuel : ℕ) (keep : Option ℕ) where
  abbrev turns : List (List ℕ) → List Whole
  turns lines = plays_of (by_version (story_of story options) (memory_for options.capabilities story) fuel) lines

  given_so : (lines : List (List ℕ)) (x : Typed) → AreTypable lines → is_waiting (last_place (turns lines)) ≡ true
      → given_after (last_asked (Some (story_of story options)) (turns lines)) x.line x.answer ≡ x.line
  given_so lines x typable waits =
      ap (λ asked. given_after asked x.line x.answer)
      (none_asked (story_of story options) (turns lines) (h.plays fuel lines (plain_bytes lines typable)).asks waits)

  pub agrees_by_standard : Agrees p fuel (telling_of (standard_game options story fuel keep))
  agrees_by_standard = record {
    texts = λ lines typable. last_said (turns lines)
        ∙ ap last_of (h.plays fuel lines (plain_bytes lines typable)).texts;
    places = λ lines typable. (h.plays fuel lines (plain_bytes lines typable)).place;
    takes = λ line ascii. ap (λ b. nat_le (length line) longest_line && b)
        (line_typed (story_of story options).loaded.characters line ascii);
    given = λ lines x typable waits. given_so lines x typable waits;
    for_story = λ line for_story. rw for_story refl;
    status = (_, refl);
  }

  -- it is opened unless memory is refused
  pub wants_memory_by_standard : (f : OpenFault) → OpensSession (standard_game options story fuel keep) (Err f)
      → WantsMemory f
  wants_memory_by_standard (opens.Load f) q = absurd q
  wants_memory_by_standard (opens.Standard (loads.File cause)) q =
      absurd (read_not_refused options.capabilities story h.read.0 cause h.read.1 q)
  wants_memory_by_standard (opens.Standard loads.Memory) q = inl refl
  wants_memory_by_standard opens.Memory q = inr refl
