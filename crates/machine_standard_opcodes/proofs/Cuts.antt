-- Streams that are opened and closed.
use Rattle.std.proofs.Common.{◌≡◌, ◌≢◌, ℕ, ◌+◌, ◌-◌, ◌*◌, ◌/◌, ◌%◌, ◌<◌, ◌≤◌, List, [], ◌∷◌, ◌++◌, length}
use Rattle.std.proofs.Common.{take, drop}
use Rattle.std.proofs.Common.{get_or, set, min, refl, ap, sym, ◌∙◌, subst, arith, true, false, slice_index}
use Rattle.std.proofs.Common.{Bool, Result, Ok, Err}
use Rattle.std.specs.List.{insert, remove}
use Rattle.std.proofs.lemmas.Bool.{lt-ltb, ne_eqb}
use Rattle.std.proofs.lemmas.List.{drop_all, drop_more, take_all, take-take, length-drop, length-map}
use Rattle.std.proofs.lemmas.List.{get_or-set_other, length-set, drop-set-add, set-append_left}
use Rattle.std.proofs.Math.Seq.{drop-append_seam}
use Rattle.std.specs.Prelude.{OnOk}
use Rattle.journal.specs.Recording.{Recording}
use Rattle.zcore.specs.declared.place.Fault.TheVariants as faults
use Rattle.zcore.specs.declared.place.Place.TheVariants as places
use Rattle.zcore.specs.Parts.{test}
use Rattle.zcore.specs.State.{State, Out, done, bound, ◌>>=◌}
use Rattle.zcore.specs.Turn.{with_bytes}
use Rattle.zcore_standard.specs.declared.streams.Stream.{Stream}
use Rattle.zcore_standard.specs.Fuel.{spend_for}
use Rattle.zcore_standard.specs.Place.{Here, on}
use Rattle.zcore_standard.specs.Windows.{settled}
use Rattle.zcore_standard.specs.Streams.{most_streams, open_stream, open_table, counted, zscii_in, zscii_of, close, close_first}
use Rattle.zcore_standard.specs.Streams.{close_all, heard, with_transcript, set_transcript, output_stream}
use Rattle.zcore_standard.specs.Streams.{characters_in, between, spend_cut, test_table}
use Rattle.zcore_standard.specs.Words.{are_writable, write_bytes}
use Rattle.machine_frames.specs.Contents.{Contents, memory_of}
use Rattle.machine_frames.specs.States.{state_of, IsSound}
use Rattle.machine_frames.specs.Went.{GoesOn, Went, Told}
use Rattle.machine_frames.specs.declared.end.End.{End}
use Rattle.machine_frames.specs.declared.end.End.TheVariants as ends
use Rattle.machine_frames.proofs.Kept.{Writes, length-memory, writes_goes_on, writes_state}
use Rattle.machine_frames.proofs.Steps.{goes_on_after, given_up_after, goes_on_still, went_halt, told_as, told_halt}
use Rattle.machine_frames.proofs.Steps.{told_no_further, told_sound, told_still, told_then, told_went}
use Rattle.machine_lines.specs.Lines.{Filled, Fills}
use Rattle.machine_lines.proofs.Filling.{filled_then}
use Rattle.machine_opcodes.specs.Says.{Says}
use Rattle.machine_decoding.specs.Seen.{seen}
use Rattle.machine_opcodes.proofs.Saying.{went_says}
use Rattle.machine_standard_windows.proofs.TurnTexts.{text_cut, text_behind}

-- a text after which something was added, and which is then cut
pub cut_again : (from : ℕ) (x w y : List ℕ) → take (length x) w ≡ x → from ≤ length x → y ≡ take from w
    → y ≡ take from x
cut_again from x w y front le is =
    is ∙ sym (take-take from (length x) w le) ∙ ap (take from) front

-- A stream is opened

pub stream_opened : (s : Recording Contents) (x : List ℕ) (here : Here) (after table from : ℕ) (streams : List Stream)
    → IsSound s.store → length here.streams < most_streams → from ≡ length x
    → streams ≡ insert here.streams 0 (record { table = table; from = from })
    → Told (Ok (record here { next = record here.next { program_counter = after }; streams = streams })) s x s x
    (open_stream here after table)
unfolding open_stream
stream_opened s x here after table from streams sound lt is e = record {
  told = (goes_on_still s sound, rw (lt-ltb (length here.streams) most_streams lt, e, is) refl);
}

pub stream_refused : (s : Recording Contents) (x : List ℕ) (here : Here) (after table : ℕ) → IsSound s.store
    → length here.streams ≡ most_streams
    → Told {A = Here} (Err (ends.Stop (places.Fault faults.Buffer))) s x s x (open_stream here after table)
unfolding open_stream
stream_refused s x here after table sound full =
    told_halt s (open_stream here after table) x sound (rw full refl)

pub table_missing : (s : Recording Contents) (x : List ℕ) (here : Here) (after : ℕ) (values : List ℕ) → IsSound s.store
    → length values ≡ 1
    → Told {A = Here} (Err (ends.Stop (places.Fault faults.Opcode))) s x s x (open_table here after values)
table_missing s x here after values sound one = told_halt s (open_table here after values) x sound (rw one refl)

pub table_given : {s t : Recording Contents} {x y : List ℕ} (r : Result Here End) (here : Here) (after : ℕ)
    (values : List ℕ) → length values ≢ 1 → Told r s x t y (open_stream here after (slice_index values 1))
    → Told r s x t y (open_table here after values)
table_given {s} {t} {x} {y} r here after values more w =
    rw (ne_eqb (length values) 1 more) w

-- A stream is closed

pub stream_closed : {s t : Recording Contents} (x : List ℕ) (extra : List ℕ) (stream : Stream)
    → Went (Ok tt) s t (write_bytes stream.table (counted (zscii_in extra (drop stream.from x))))
    → Told (Ok tt) s x t (take stream.from x) (close extra stream)
unfolding close
stream_closed {s} {t} x extra stream w = record {
  told = (w.did.0, ap (λ o. bound o (λ _ u. done tt (record u { text = take stream.from u.text }))) (w.did.1 x));
}

pub stream_stays : {e : End} {s t : Recording Contents} (x : List ℕ) (extra : List ℕ) (stream : Stream)
    → Went {A = Unit {0}} (Err e) s t (write_bytes stream.table (counted (zscii_in extra (drop stream.from x))))
    → Told {A = Unit {0}} (Err e) s x t x (close extra stream)
unfolding close
stream_stays {e = ends.Memory} x extra stream w = record { told = w.did }
stream_stays {e = ends.Stop p} x extra stream w = record {
  told = (w.did.0, ap (λ o. bound o (λ _ u. done tt (record u { text = take stream.from u.text }))) (w.did.1 x));
}

-- the same in a text whose front is not of the turn, and after which something was added

pub closed_as : {s t : Recording Contents} (start kept : ℕ) (x w y extra : List ℕ) (stream : Stream) → start ≤ length x
    → kept ≡ min stream.from (length x - start) → take (length x) w ≡ x → y ≡ take (start + kept) w
    → Went (Ok tt) s t (write_bytes stream.table (counted (zscii_in extra (drop (start + kept) x))))
    → Told (Ok tt) s (drop start x) t (drop start y) (close extra stream)
closed_as {s} {t} start kept x w y extra stream begun is front cut went =
    let le : start + kept ≤ length x = omega (arith, is, begun) in
    let text : drop start y ≡ take stream.from (drop start x) =
    ap (drop start) (cut_again (start + kept) x w y front le cut) ∙ text_cut start stream.from kept x begun is in
    let behind : drop (start + kept) x ≡ drop stream.from (drop start x) =
    sym (text_behind start stream.from kept x begun is) in
    subst (λ l. Told (Ok tt) s (drop start x) t l (close extra stream)) (sym text)
    (stream_closed (drop start x) extra stream
    (subst (λ l. Went (Ok tt) s t (write_bytes stream.table (counted (zscii_in extra l)))) behind went))

pub stays_as : {s t : Recording Contents} (start kept cut : ℕ) (x w y extra : List ℕ) (stream : Stream) (e : End)
    → start ≤ length x → kept ≡ min stream.from (length x - start) → take (length x) w ≡ x → y ≡ take cut w
    → cut ≡ length x
    → Went {A = Unit {0}} (Err e) s t (write_bytes stream.table (counted (zscii_in extra (drop (start + kept) x))))
    → Told {A = Unit {0}} (Err e) s (drop start x) t (drop start y) (close extra stream)
stays_as {s} {t} start kept cut x w y extra stream e begun is front same all went =
    let text : y ≡ x = same ∙ ap (λ n. take n w) all ∙ front in
    let behind : drop (start + kept) x ≡ drop stream.from (drop start x) =
    sym (text_behind start stream.from kept x begun is) in
    subst (λ l. Told {A = Unit {0}} (Err e) s (drop start x) t (drop start l) (close extra stream)) (sym text)
    (stream_stays (drop start x) extra stream
    (subst (λ l. Went {A = Unit {0}} (Err e) s t (write_bytes stream.table (counted (zscii_in extra l)))) behind went))

-- what was added after a text
pub behind_text : (x y more : List ℕ) → y ≡ x ++ more → drop (length x) y ≡ more
behind_text x y more is = ap (drop (length x)) is ∙ drop-append_seam x more

pub behind_slice : (x y z more : List ℕ) (n : ℕ) → n ≡ length x → z ≡ y → y ≡ x ++ more
    → take (length z - n) (drop n z) ≡ more
behind_slice x y z more n all same is =
    take_all (length z - n) (drop n z) (omega (arith, length-drop n z)) ∙ ap (drop n) same
    ∙ ap (λ k. drop k y) all ∙ behind_text x y more is

-- the innermost

pub none_closed : (s : Recording Contents) (x extra : List ℕ) (here : Here) (after : ℕ) (streams : List Stream)
    → IsSound s.store → length streams ≡ 0
    → Told (Ok (record here { next = record here.next { program_counter = after } })) s x s x
    (close_first extra here after streams)
none_closed s x extra here after [] sound e = record { told = (goes_on_still s sound, refl) }
none_closed s x extra here after (a ∷ others) sound e = absurd (omega (arith, e))

-- it was given so many bytes, whatever its characters are
pub units_of_given : {s : Recording Contents} (r : Result ℕ End) (x given : List ℕ) (stream : Stream) (fuel : ℕ)
    → IsSound s.store → given ≡ drop stream.from x → Says r (spend_for (length given) fuel)
    → Told r s x s x (spend_cut stream fuel)
unfolding spend_cut
units_of_given {s} r x given stream fuel sound is h =
    let size : length x - stream.from ≡ length given = sym (ap length is ∙ length-drop stream.from x) in
    told_as r (spend_cut stream fuel) (ap (λ n. spend_for n fuel (state_of s.store x)) size)
    (told_went r x (went_says r s sound h))

-- it is closed as this one, with others after it
abbrev pub closing : List ℕ → Here → ℕ → List Stream → Stream → State → Out Here
closing extra here after others stream = do
  _ ← test_table extra stream
  fuel ← spend_cut stream here.next.fuel
  _ ← close extra stream
  settled (record (on here (record { program_counter = after; fuel = fuel })) { streams = others })

first_of : {r : Result Here End} {s t : Recording Contents} {x y : List ℕ} (extra : List ℕ) (here : Here) (after : ℕ)
    (streams seen : List Stream) (stream d : Stream) → length streams ≢ 0 → seen ≡ streams → stream ≡ get_or seen 0 d
    → Told r s x t y (closing extra here after (remove streams 0) stream)
    → Told r s x t y (close_first extra here after streams)
first_of extra here after [] seen stream d some same is w = absurd (some refl)
first_of {r} {s} {t} {x} {y} extra here after (a ∷ others) seen stream d some same is w =
    subst (λ c. Told r s x t y (closing extra here after others c)) (is ∙ ap (λ l. get_or l 0 d) same) w

module _ {s : Recording Contents} {x : List ℕ} (extra : List ℕ) (here : Here) (after : ℕ) (streams seen : List Stream)
    (stream d : Stream) (some : length streams ≢ 0) (same : seen ≡ streams) (is : stream ≡ get_or seen 0 d) where
  pub first_unfit : {e : End} → Told {A = Unit {0}} (Err e) s x s x (test_table extra stream)
      → Told {A = Here} (Err e) s x s x (close_first extra here after streams)
  first_unfit h = first_of extra here after streams seen stream d some same is (told_no_further _ h)

  pub first_unpaid : {e : End} → Told (Ok tt) s x s x (test_table extra stream)
      → Told {A = ℕ} (Err e) s x s x (spend_cut stream here.next.fuel)
      → Told {A = Here} (Err e) s x s x (close_first extra here after streams)
  first_unpaid fits h = first_of extra here after streams seen stream d some same is
      (told_then _ fits (told_no_further _ h))

  pub first_stays : {e : End} {t : Recording Contents} {y : List ℕ} {fuel : ℕ}
      → Told (Ok tt) s x s x (test_table extra stream)
      → Told (Ok fuel) s x s x (spend_cut stream here.next.fuel)
      → Told {A = Unit {0}} (Err e) s x t y (close extra stream)
      → Told {A = Here} (Err e) s x t y (close_first extra here after streams)
  first_stays fits paid w = first_of extra here after streams seen stream d some same is
      (told_then _ fits (told_then _ paid (told_no_further _ w)))

  pub first_closed : {t : Recording Contents} {y z : List ℕ} {fuel : ℕ} (left : List Stream) (there : Here)
      → left ≡ remove streams 0
      → ((u : State) → settled (record (on here (record { program_counter = after; fuel = fuel })) { streams = left })
      (record u { text = y }) ≡ done there (record u { text = z }))
      → Told (Ok tt) s x s x (test_table extra stream)
      → Told (Ok fuel) s x s x (spend_cut stream here.next.fuel)
      → Told (Ok tt) s x t y (close extra stream)
      → Told (Ok there) s x t z (close_first extra here after streams)
  first_closed {t} {y} {z} {fuel} left there rest settles fits paid w =
      let settling = λ (l : List Stream).
      settled (record (on here (record { program_counter = after; fuel = fuel })) { streams = l }) in
      first_of extra here after streams seen stream d some same is
      (told_then _ fits (told_then _ paid (told_then _ w (record {
        told = (
          goes_on_still t (told_sound w),
          ap (λ l. settling l (state_of t.store y)) (sym rest) ∙ settles (state_of t.store y),
        );
      }))))

-- each

pub record Closing (extra : List ℕ) (streams : List Stream) (s t : Recording Contents) (x y : List ℕ) (i : ℕ) : Type 0 where
  pub goes_on : GoesOn s t
  pub same : close_all extra streams (state_of s.store x) ≡ close_all extra (drop i streams) (state_of t.store y)

pub closing_none : (extra : List ℕ) (streams : List Stream) (s : Recording Contents) (x : List ℕ) → IsSound s.store
    → Closing extra streams s s x x 0
closing_none extra streams s x sound = record { goes_on = goes_on_still s sound; same = refl }

closing_at : (extra : List ℕ) (streams : List Stream) (i : ℕ) (d stream : Stream) (u : State) → i < length streams
    → stream ≡ get_or streams i d
    → close_all extra (drop i streams) u
    ≡ bound (close extra stream u) (λ _. close_all extra (drop (i + 1) streams))
unfolding close_all
closing_at extra streams i d stream u lt is = rw (drop_more streams i d lt, sym is) refl

pub closing_more : {s t u : Recording Contents} {x y z : List ℕ} (extra : List ℕ) (streams : List Stream) (i : ℕ)
    (d stream : Stream) → Closing extra streams s t x y i → i < length streams → stream ≡ get_or streams i d
    → Told (Ok tt) t y u z (close extra stream) → Closing extra streams s u x z (i + 1)
closing_more {s} {t} {u} {x} {y} {z} extra streams i d stream c lt is w = record {
  goes_on = goes_on_after c.goes_on w.told.0;
  same = c.same ∙ closing_at extra streams i d stream (state_of t.store y) lt is
      ∙ ap (λ o. bound o (λ _. close_all extra (drop (i + 1) streams))) w.told.1;
}

pub closing_stops : {e : End} {s t u : Recording Contents} {x y z : List ℕ} (extra : List ℕ) (streams : List Stream)
    (i : ℕ) (d stream : Stream) → Closing extra streams s t x y i → i < length streams → stream ≡ get_or streams i d
    → Told {A = Unit {0}} (Err e) t y u z (close extra stream)
    → Told {A = Unit {0}} (Err e) s x u z (close_all extra streams)
closing_stops {e = ends.Memory} extra streams i d stream c lt is w = record { told = given_up_after c.goes_on w.told }
closing_stops {e = ends.Stop p} {s} {t} {u} {x} {y} {z} extra streams i d stream c lt is w = record {
  told = (
    goes_on_after c.goes_on w.told.0,
    c.same ∙ closing_at extra streams i d stream (state_of t.store y) lt is
        ∙ ap (λ o. bound o (λ _. close_all extra (drop (i + 1) streams))) w.told.1,
  );
}

pub closing_done : {s t : Recording Contents} {x y : List ℕ} (extra : List ℕ) (streams : List Stream) (i : ℕ)
    → Closing extra streams s t x y i → length streams ≤ i → Told (Ok tt) s x t y (close_all extra streams)
unfolding close_all
closing_done {s} {t} {x} {y} extra streams i c le = record {
  told = (c.goes_on, c.same ∙ ap (λ l. close_all extra l (state_of t.store y)) (drop_all i streams le));
}

-- What is heard

pub heard_more : (streams : List Stream) (i from : ℕ) (d : Stream) (text x y : List ℕ) → i < length streams
    → from ≡ (get_or streams i d).from → heard (drop i streams) x ≡ heard streams text → y ≡ take from x
    → heard (drop (i + 1) streams) y ≡ heard streams text
heard_more streams i from d text x y lt is e cut =
    ap (heard (drop (i + 1) streams)) (cut ∙ ap (λ n. take n x) is)
    ∙ sym (ap (λ l. heard l x) (drop_more streams i d lt)) ∙ e

pub heard_all : (streams : List Stream) (i : ℕ) (text x : List ℕ) → heard (drop i streams) x ≡ heard streams text
    → length streams ≤ i → x ≡ heard streams text
heard_all streams i text x e le = sym (ap (λ l. heard l x) (drop_all i streams le)) ∙ e

-- A table is written

pub table_written : (s t u : Recording Contents) (at high low : ℕ) (characters : List ℕ)
    → high ≡ length characters / 256 → low ≡ length characters % 256
    → are_writable (memory_of s.store) at (length characters + 2) ≡ true
    → Fills s t at (high ∷ low ∷ []) → Fills t u (at + 2) characters
    → Went (Ok tt) s u (write_bytes at (counted characters))
unfolding write_bytes
table_written s t u at high low characters h l holds first rest =
    let m = memory_of s.store in
    let whole : Filled s u (with_bytes (with_bytes m at (high ∷ low ∷ [])) (at + 2) characters) =
    filled_then s t u (with_bytes m at (high ∷ low ∷ [])) (λ k. with_bytes k (at + 2) characters) first rest in
    let place : at + 2 ≡ at + 1 + 1 = omega arith in
    let all : with_bytes (with_bytes m at (high ∷ low ∷ [])) (at + 2) characters
    ≡ with_bytes m at (counted characters) =
    ap (λ n. with_bytes (set (set m at high) (at + 1) low) n characters) place
    ∙ ap (λ a. with_bytes (set (set m at a) (at + 1) low) (at + 1 + 1) characters) h
    ∙ ap (λ b. with_bytes (set (set m at (length characters / 256)) (at + 1) b) (at + 1 + 1) characters) l in
    let size : length (counted characters) ≡ length characters + 2 = omega arith in
    let filled : Filled s u (with_bytes m at (counted characters)) = subst (Filled s u) all whole in
    record {
      did = (
        filled.goes_on,
        λ x. rw (size, holds) (ap (λ y. done tt y) (sym (filled.state x))),
      );
    }

pub table_refused : (s : Recording Contents) (at : ℕ) (characters : List ℕ) → IsSound s.store
    → are_writable (memory_of s.store) at (length characters + 2) ≡ false
    → Went {A = Unit {0}} (Err (ends.Stop (places.Fault faults.Write))) s s (write_bytes at (counted characters))
unfolding write_bytes
table_refused s at characters sound fails =
    let size : length (counted characters) ≡ length characters + 2 = omega arith in
    went_halt s (write_bytes at (counted characters)) sound (λ t. rw (size, fails) refl)

-- what a stream was given fits in its table, or does not
fits_by : (s : Recording Contents) (extra x given : List ℕ) (stream : Stream) (count : ℕ) (b : Bool)
    → given ≡ drop stream.from x → count ≡ length (characters_in between given)
    → b ≡ are_writable (memory_of s.store) stream.table (count + 2)
    → test_table extra stream (state_of s.store x) ≡ test b faults.Write (state_of s.store x)
unfolding test_table
fits_by s extra x given stream count b is many e =
    let codes : length (zscii_in extra (drop stream.from x)) ≡ count =
    length-map (characters_in between (drop stream.from x)) (zscii_of extra)
    ∙ sym (many ∙ ap (λ l. length (characters_in between l)) is) in
    let size : length (counted (zscii_in extra (drop stream.from x))) ≡ count + 2 = omega (arith, codes) in
    ap (λ (c : Bool). test c faults.Write (state_of s.store x))
    (ap (are_writable (memory_of s.store) stream.table) size ∙ sym e)

module _ (s : Recording Contents) (extra x given : List ℕ) (stream : Stream) (count : ℕ) (sound : IsSound s.store)
    (is : given ≡ drop stream.from x) (many : count ≡ length (characters_in between given)) where
  pub given_fits : are_writable (memory_of s.store) stream.table (count + 2) ≡ true
      → Told (Ok tt) s x s x (test_table extra stream)
  given_fits e = told_still s (test_table extra stream) x sound (fits_by s extra x given stream count true is many (sym e))

  pub given_unfit : are_writable (memory_of s.store) stream.table (count + 2) ≡ false
      → Told {A = Unit {0}} (Err (ends.Stop (places.Fault faults.Write))) s x s x (test_table extra stream)
  given_unfit e = told_halt s (test_table extra stream) x sound
      (fits_by s extra x given stream count false is many (sym e))

-- The transcript

flags_dropped : (c fixed : List ℕ) (v : ℕ) → 72559 + 17 < length c
    → drop 72559 (set c (72559 + 17) v) ++ fixed ≡ set (drop 72559 c ++ fixed) 17 v
flags_dropped c fixed v inside =
    ap (λ x. x ++ fixed) (drop-set-add 72559 c 17 v)
    ∙ sym (set-append_left (drop 72559 c) fixed 17 v (omega (arith, length-drop 72559 c)))

-- the second byte of Flags 2 was written
pub flags_filled : (s t : Recording Contents) (v : ℕ) → IsSound s.store → t.store.cells ≡ set s.store.cells 72576 v
    → t.store.fixed ≡ s.store.fixed → t.beginning ≡ s.beginning → Filled s t (set (memory_of s.store) 17 v)
flags_filled s t v sound cells fixed beginning =
    let c = s.store.cells in
    let m = memory_of s.store in
    let w : Writes s t (set m 17 v) = record {
      size = ap length cells ∙ length-set c 72576 v;
      below = λ k l. ap (λ x. get_or x k 0) cells ∙ get_or-set_other c 72576 k v 0 (omega (arith, l));
      memory = ap (λ x. drop 72559 x ++ t.store.fixed) cells ∙ ap (λ x. drop 72559 (set c 72576 v) ++ x) fixed
          ∙ flags_dropped c s.store.fixed v
          (omega (arith, sound.size, sound.static_base, length-memory s.store sound));
      long = length-set m 17 v;
      header = record {
        before_flags = λ k l. get_or-set_other m 17 k v 0 (omega (arith, l));
        after_flags = λ k l r. get_or-set_other m 17 k v 0 (omega (arith, l));
      };
      fixed = fixed;
      beginning = beginning;
    } in
    record { goes_on = writes_goes_on s t _ sound w; state = λ text. writes_state s t _ text sound w }

pub transcript_told : (s t : Recording Contents) (flags bit v : ℕ) → IsSound s.store
    → flags ≡ slice_index (memory_of s.store) 17 → v ≡ flags / 2 * 2 + bit
    → t.store.cells ≡ set s.store.cells 72576 v → t.store.fixed ≡ s.store.fixed → t.beginning ≡ s.beginning
    → Filled s t (with_transcript (memory_of s.store) bit)
transcript_told s t flags bit v sound is e cells fixed beginning =
    let m = memory_of s.store in
    let same : set m 17 v ≡ with_transcript m bit = ap (set m 17) (e ∙ ap (λ f. f / 2 * 2 + bit) is) in
    subst (Filled s t) same (flags_filled s t v sound cells fixed beginning)

pub transcript_as : {E : Type 0} (r : Result (Unit {0}) E) (s t : Recording Contents) (flags bit : ℕ) → IsSound s.store
    → flags ≡ slice_index (memory_of s.store) 17
    → OnOk r (t.store.cells ≡ set s.store.cells 72576 (flags / 2 * 2 + bit)) → t.store.fixed ≡ s.store.fixed
    → OnOk r (t.beginning ≡ s.beginning) → OnOk r (Filled s t (with_transcript (memory_of s.store) bit))
transcript_as (Ok a) s t flags bit sound is cells fixed beginning =
    transcript_told s t flags bit (flags / 2 * 2 + bit) sound is refl cells fixed beginning
transcript_as (Err e) s t flags bit sound is cells fixed beginning = tt

-- output_stream, by the number

pub selects_table : {s t : Recording Contents} {x y : List ℕ} (r : Result Here End) (extra : List ℕ) (there : Bool) (here : Here)
    (after : ℕ) (values : List ℕ) → slice_index values 0 ≡ 3 → Told r s x t y (open_table here after values)
    → Told r s x t y (output_stream extra there here after values)
unfolding output_stream
selects_table r extra there here after values e w = rw e w

pub selects_closing : {s t : Recording Contents} {x y : List ℕ} (r : Result Here End) (extra : List ℕ) (there : Bool) (here : Here)
    (after : ℕ) (values : List ℕ) → slice_index values 0 ≡ 65533
    → Told r s x t y (close_first extra here after here.streams)
    → Told r s x t y (output_stream extra there here after values)
unfolding output_stream
selects_closing r extra there here after values e w = rw e w

pub selects_transcript : {s t : Recording Contents} (x extra : List ℕ) (there : Bool) (here : Here) (after bit : ℕ) (values : List ℕ)
    → Filled s t (with_transcript (memory_of s.store) bit)
    → ((u : State) → output_stream extra there here after values u ≡ set_transcript here after bit u)
    → Told (Ok (record here { next = record here.next { program_counter = after } })) s x t x
    (output_stream extra there here after values)
unfolding set_transcript
selects_transcript {s} {t} x extra there here after bit values f e = record {
  told = (
    f.goes_on,
    e (state_of s.store x) ∙ ap (λ u. done (record here { next = record here.next { program_counter = after } }) u)
        (sym (f.state x)),
  );
}

pub transcript_selected : (extra : List ℕ) (there : Bool) (here : Here) (after : ℕ) (values : List ℕ) (u : State)
    → slice_index values 0 ≡ 2 → there ≡ true
    → output_stream extra there here after values u ≡ set_transcript here after 1 u
unfolding output_stream
transcript_selected extra there here after values u e is = rw (e, is) refl

-- where the player writes none it stays off
pub transcript_missing : (s : Recording Contents) (x extra : List ℕ) (there : Bool) (here : Here) (after : ℕ)
    (values : List ℕ) → IsSound s.store → slice_index values 0 ≡ 2 → there ≡ false
    → Told (Ok (record here { next = record here.next { program_counter = after } })) s x s x
    (output_stream extra there here after values)
unfolding output_stream
transcript_missing s x extra there here after values sound e not =
    record { told = (goes_on_still s sound, rw (e, not) refl) }

pub transcript_left : (extra : List ℕ) (there : Bool) (here : Here) (after : ℕ) (values : List ℕ) (u : State)
    → slice_index values 0 ≡ 65534 → output_stream extra there here after values u ≡ set_transcript here after 0 u
unfolding output_stream
transcript_left extra there here after values u e = rw e refl

pub selects_nothing : (s : Recording Contents) (x extra : List ℕ) (there : Bool) (here : Here) (after : ℕ) (values : List ℕ)
    → IsSound s.store → slice_index values 0 ≢ 3 → slice_index values 0 ≢ 65533 → slice_index values 0 ≢ 2
    → slice_index values 0 ≢ 65534
    → Told (Ok (record here { next = record here.next { program_counter = after } })) s x s x
    (output_stream extra there here after values)
unfolding output_stream
selects_nothing s x extra there here after values sound a b c d = record {
  told = (
    goes_on_still s sound,
    rw (
      ne_eqb (slice_index values 0) 3 a,
      ne_eqb (slice_index values 0) 65533 b,
      ne_eqb (slice_index values 0) 2 c,
      ne_eqb (slice_index values 0) 65534 d,
    ) refl,
  );
}
