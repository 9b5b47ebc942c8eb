-- Frames that are read, and that those that are written are read back.
use Rattle.std.proofs.Common.{◌≡◌, ℕ, zero, suc, ◌+◌, ◌-◌, ◌*◌, ◌/◌, ◌%◌, ◌<◌, ◌≤◌, Bool, true, false, if◌then◌else◌}
use Rattle.std.proofs.Common.{List, [], ◌∷◌, ◌++◌, length, drop, slice_index, refl, ap, sym, ◌∙◌, arith}
use Rattle.std.proofs.Common.{Option, Some, None, append_assoc, nat_eq, nat_lt}
use Rattle.std.specs.Option.{is_some, option_and_then, option_map}
use Rattle.std.proofs.Math.Nat.{div-add-mod}
use Rattle.std.specs.List.{All, starts_with}
use Rattle.std.proofs.lemmas.Bool.{and_from, and_left, and_parts, and_right, false≢true, le-leb, leb-true, lt-leb, lt-ltb, le-ltb}
use Rattle.std.proofs.lemmas.List.{drop-drop, drop_at, get_or-drop, length-append}
use Rattle.iff_files.specs.declared.frames.FrameHead.{FrameHead}
use Rattle.zcore.specs.State.{Frame}
use Rattle.iff_files.specs.Frames.{CanBeWritten, Stacks, flags_of, frame_bytes, frame_in, frames_bytes, frames_in}
use Rattle.iff_files.specs.Frames.{head_for, head_of, is_frame, main_and_calls, main_frame, masks, most_frames}
use Rattle.iff_files.specs.Frames.{most_words, place_in, size_of, stacks_bytes, stacks_in, variable_of, words, words_from, words_in}
use Rattle.iff_files.specs.Frames.{words_of}

-- what is no frame

pub not_short : (size most : ℕ) (bytes : List ℕ) → length bytes < 8 → is_frame size most bytes ≡ false
unfolding is_frame
not_short size most bytes lt = and_left _ _ (and_left _ _ (and_left _ _ (and_left _ _ (and_left _ _
    (lt-leb 8 (length bytes) lt)))))

pub not_flags : (size most : ℕ) (bytes : List ℕ) → 32 ≤ slice_index bytes 3 → is_frame size most bytes ≡ false
unfolding is_frame
not_flags size most bytes le = and_left _ _ (and_left _ _ (and_left _ _ (and_left _ _ (and_right _ _
    (le-ltb (slice_index bytes 3) 32 le)))))

pub not_mask : (size most : ℕ) (bytes : List ℕ) → 8 ≤ place_in masks (slice_index bytes 5)
    → is_frame size most bytes ≡ false
unfolding is_frame
not_mask size most bytes le = and_left _ _ (and_left _ _ (and_left _ _ (and_right _ _
    (le-ltb (place_in masks (slice_index bytes 5)) 8 le))))

pub not_address : (size most : ℕ) (bytes : List ℕ) → size ≤ (head_of bytes).return_address
    → is_frame size most bytes ≡ false
unfolding is_frame
not_address size most bytes le = and_left _ _ (and_left _ _ (and_right _ _
    (le-ltb (head_of bytes).return_address size le)))

pub not_words : (size most : ℕ) (bytes : List ℕ) → most < words_of (head_of bytes) → is_frame size most bytes ≡ false
unfolding is_frame
not_words size most bytes lt = and_left _ _ (and_right _ _ (lt-leb (words_of (head_of bytes)) most lt))

pub not_whole : (size most : ℕ) (bytes : List ℕ) → length bytes < size_of (head_of bytes)
    → is_frame size most bytes ≡ false
unfolding is_frame
not_whole size most bytes lt = and_right _ _ (lt-leb (size_of (head_of bytes)) (length bytes) lt)

-- What a whole frame has.
pub record IsWhole (size : ℕ) (most : ℕ) (bytes : List ℕ) : Type 0 where
  pub head : 8 ≤ length bytes
  pub flags : slice_index bytes 3 < 32
  pub mask : place_in masks (slice_index bytes 5) < 8
  pub address : (head_of bytes).return_address < size
  pub words : words_of (head_of bytes) ≤ most
  pub end : size_of (head_of bytes) ≤ length bytes

pub is_whole : (size most : ℕ) (bytes : List ℕ) → IsWhole size most bytes → is_frame size most bytes ≡ true
unfolding is_frame
is_whole size most bytes w = and_from _ _ (and_from _ _ (and_from _ _ (and_from _ _
    (and_from _ _ (le-leb 8 (length bytes) w.head) (lt-ltb (slice_index bytes 3) 32 w.flags))
    (lt-ltb (place_in masks (slice_index bytes 5)) 8 w.mask))
    (lt-ltb (head_of bytes).return_address size w.address))
    (le-leb (words_of (head_of bytes)) most w.words))
    (le-leb (size_of (head_of bytes)) (length bytes) w.end)

-- the steps of `are_frames`

is_some_map : {A B : Type 0} (f : A → B) (o : Option A) → is_some (option_map f o) ≡ is_some o
is_some_map f None = refl
is_some_map f (Some a) = refl

abbrev frames_after : ℕ → ℕ → ℕ → List ℕ → Option (List Frame)
frames_after size frames most bytes =
    frames_in size frames (most - words_of (head_of bytes)) (drop (size_of (head_of bytes)) bytes)

abbrev with_first : List ℕ → Bool → Option (List Frame) → Option (List Frame)
with_first bytes is o = if is then option_map (λ fs. frame_in bytes ∷ fs) o else None

frames_end : (size frames most : ℕ) → frames_in size frames most [] ≡ Some []
unfolding frames_in
frames_end size zero most = refl
frames_end size (suc frames) most = refl

pub frames_done : (size frames most : ℕ) (bytes : List ℕ) → length bytes ≡ 0
    → frames_in size frames most bytes ≡ Some []
frames_done size frames most [] e = frames_end size frames most
frames_done size frames most (b ∷ bytes) e = absurd (omega (arith, e))

pub no_frames_left : (size most : ℕ) (bytes : List ℕ) → 0 < length bytes → frames_in size 0 most bytes ≡ None
unfolding frames_in
no_frames_left size most [] lt = absurd (omega (arith, lt))
no_frames_left size most (b ∷ bytes) lt = refl

frames_step : (size frames most : ℕ) (bytes : List ℕ) → 0 < length bytes
    → frames_in size (suc frames) most bytes ≡ with_first bytes (is_frame size most bytes) (frames_after size frames most bytes)
unfolding frames_in
frames_step size frames most [] lt = absurd (omega (arith, lt))
frames_step size frames most (b ∷ bytes) lt = refl

-- the same for the first frame
first_step : (size : ℕ) (b : ℕ) (bytes : List ℕ) → frames_in size most_frames most_words (b ∷ bytes)
    ≡ with_first (b ∷ bytes) (is_frame size most_words (b ∷ bytes)) (frames_after size 1000 most_words (b ∷ bytes))
first_step size b bytes = frames_step size 1000 most_words (b ∷ bytes) (omega arith)

some_main : (bytes : List ℕ) (is : Bool) (o : Option (List Frame))
    → is_some (option_and_then main_and_calls (with_first bytes is o)) ≡ is_some (with_first bytes is o)
some_main bytes false o = refl
some_main bytes true None = refl
some_main bytes true (Some fs) = refl

pub not_frames : (size frames most : ℕ) (bytes : List ℕ) → 0 < length bytes → is_frame size most bytes ≡ false
    → frames_in size (suc frames) most bytes ≡ None
not_frames size frames most bytes lt e = frames_step size frames most bytes lt
    ∙ ap (λ (t : Bool). with_first bytes t (frames_after size frames most bytes)) e

pub frames_more : (size frames most : ℕ) (bytes : List ℕ) → 0 < length bytes → is_frame size most bytes ≡ true
    → frames_in size (suc frames) most bytes ≡ option_map (λ fs. frame_in bytes ∷ fs) (frames_after size frames most bytes)
frames_more size frames most bytes lt e = frames_step size frames most bytes lt
    ∙ ap (λ (t : Bool). with_first bytes t (frames_after size frames most bytes)) e

pub some_more : (size frames most : ℕ) (bytes : List ℕ) → 0 < length bytes → is_frame size most bytes ≡ true
    → is_some (frames_in size (suc frames) most bytes) ≡ is_some (frames_after size frames most bytes)
some_more size frames most bytes lt e =
    ap (λ (t : Option (List Frame)). is_some t) (frames_more size frames most bytes lt e)
    ∙ is_some_map (λ fs. frame_in bytes ∷ fs) (frames_after size frames most bytes)

pub frame_fits : (size most : ℕ) (bytes : List ℕ) → is_frame size most bytes ≡ true → words_of (head_of bytes) ≤ most
unfolding is_frame
frame_fits size most bytes e = leb-true _ _ (and_parts _ _ (and_parts _ _ e).0).1

-- the first frame of bytes that begin with six zeros is there
pub some_stacks : (size : ℕ) (bytes : List ℕ) → starts_with nat_eq bytes (0 ∷ 0 ∷ 0 ∷ 0 ∷ 0 ∷ 0 ∷ []) ≡ true
    → is_some (stacks_in size bytes) ≡ is_some (frames_in size most_frames most_words bytes)
some_stacks size [] e = absurd (false≢true e)
some_stacks size (b ∷ bytes) e =
    let o : Option (List Frame) = frames_in size most_frames most_words (b ∷ bytes) in
    ap (λ (t : Bool). is_some (if t then option_and_then main_and_calls o else None)) e
    ∙ ap (λ (t : Option (List Frame)). is_some (option_and_then main_and_calls t)) (first_step size b bytes)
    ∙ some_main (b ∷ bytes) (is_frame size most_words (b ∷ bytes)) (frames_after size 1000 most_words (b ∷ bytes))
    ∙ ap (λ (t : Option (List Frame)). is_some t) (sym (first_step size b bytes))

-- words

length-words : (ws : List ℕ) → length (words ws) ≡ length ws * 2
length-words [] = refl
length-words (w ∷ ws) = omega (arith, length-words ws)

pub word_back : (w : ℕ) → w / 256 * 256 + w % 256 ≡ w
word_back w = omega (arith, div-add-mod w 256)

words_back : (ws rest : List ℕ) → words_from (length ws) (words ws ++ rest) ≡ ws
words_back [] rest = refl
words_back (w ∷ ws) rest = λ i. word_back w i ∷ words_back ws rest i

-- the step of `read_words`
pub words_step : (bytes : List ℕ) (count i : ℕ) → i < count → words_from (count - i) (drop (2 * i) bytes)
    ≡ (slice_index bytes (2 * i) * 256 + slice_index bytes (2 * i + 1))
    ∷ words_from (count - (i + 1)) (drop (2 * (i + 1)) bytes)
words_step bytes count i lt =
    let one : count - i ≡ suc (count - (i + 1)) = omega (arith, lt) in
    let high : slice_index (drop (2 * i) bytes) 0 ≡ slice_index bytes (2 * i) =
    get_or-drop (2 * i) bytes 0 0 ∙ ap (λ (t : ℕ). slice_index bytes t) (omega arith) in
    let low : slice_index (drop (2 * i) bytes) 1 ≡ slice_index bytes (2 * i + 1) = get_or-drop (2 * i) bytes 1 0 in
    let rest : drop 2 (drop (2 * i) bytes) ≡ drop (2 * (i + 1)) bytes =
    drop-drop 2 (2 * i) bytes ∙ ap (λ (t : ℕ). drop t bytes) (omega arith) in
    ap (λ (t : ℕ). words_from t (drop (2 * i) bytes)) one
    ∙ (λ k. (high k * 256 + low k) ∷ words_from (count - (i + 1)) (rest k))

-- the first eight bytes

mask_back : (a : ℕ) → a ≤ 7 → place_in masks (slice_index masks a) ≡ a
mask_back zero le = refl
mask_back (suc zero) le = refl
mask_back (suc (suc zero)) le = refl
mask_back (suc (suc (suc zero))) le = refl
mask_back (suc (suc (suc (suc zero)))) le = refl
mask_back (suc (suc (suc (suc (suc zero))))) le = refl
mask_back (suc (suc (suc (suc (suc (suc zero)))))) le = refl
mask_back (suc (suc (suc (suc (suc (suc (suc zero))))))) le = refl
mask_back (suc (suc (suc (suc (suc (suc (suc (suc a)))))))) le = absurd (omega (arith, le))

flags_locals : (v : Option ℕ) (n : ℕ) → n ≤ 15 → flags_of v n % 16 ≡ n
flags_locals None n le = omega (arith, le)
flags_locals (Some variable) n le = omega (arith, le)

flags_small : (v : Option ℕ) (n : ℕ) → n ≤ 15 → flags_of v n < 32
flags_small None n le = omega (arith, le)
flags_small (Some variable) n le = omega (arith, le)

flags_variable : (v : Option ℕ) (n : ℕ) → n ≤ 15
    → (if nat_lt (flags_of v n) 16 then Some (variable_of v) else None) ≡ v
flags_variable None n le =
    ap (λ (t : Bool). if t then Some 0 else None) (le-ltb (16 + n) 16 (omega arith))
flags_variable (Some variable) n le =
    ap (λ (t : Bool). if t then Some variable else None) (lt-ltb n 16 (omega (arith, le)))

pub address_back : (a : ℕ) → (a / 256 / 256 * 256 + a / 256 % 256) * 256 + a % 256 ≡ a
address_back a = ap (λ (t : ℕ). t * 256 + a % 256) (word_back (a / 256)) ∙ word_back a

head_back : (size : ℕ) (f : Frame) (rest : List ℕ) → CanBeWritten size f → head_of (frame_bytes f ++ rest) ≡ head_for f
unfolding frame_bytes
head_back size f rest can = λ i. record {
  return_address = address_back f.return_address i;
  locals = flags_locals f.result (length f.locals) can.locals i;
  variable = flags_variable f.result (length f.locals) can.locals i;
  arguments = mask_back f.arguments can.arguments i;
  words = word_back (length f.stack) i;
}

-- a whole frame

length-frame_bytes : (f : Frame) → length (frame_bytes f) ≡ size_of (head_for f)
unfolding frame_bytes
length-frame_bytes f = omega (
  arith,
  length-append (words f.locals) (words f.stack),
  length-words f.locals,
  length-words f.stack,
)

pub length-frames_bytes : (fs : List Frame) → length (frames_bytes fs) ≡ 8 * length fs + 2 * words_in fs
length-frames_bytes [] = refl
length-frames_bytes (f ∷ fs) = omega (
  arith,
  length-append (frame_bytes f) (frames_bytes fs),
  length-frame_bytes f,
  length-frames_bytes fs,
)

after_head : (f : Frame) (rest : List ℕ)
    → drop 8 (frame_bytes f ++ rest) ≡ words f.locals ++ (words f.stack ++ rest)
unfolding frame_bytes
after_head f rest = append_assoc (words f.locals) (words f.stack) rest

after_locals : (f : Frame) (rest : List ℕ)
    → drop (8 + length f.locals * 2) (frame_bytes f ++ rest) ≡ words f.stack ++ rest
after_locals f rest = sym (drop-drop (length f.locals * 2) 8 (frame_bytes f ++ rest))
    ∙ ap (λ (t : List ℕ). drop (length f.locals * 2) t) (after_head f rest)
    ∙ drop_at (words f.locals) (words f.stack ++ rest) (length f.locals * 2) (length-words f.locals)

frame_back : (size : ℕ) (f : Frame) (rest : List ℕ) → CanBeWritten size f → frame_in (frame_bytes f ++ rest) ≡ f
unfolding frame_in
frame_back size f rest can =
    let bytes : List ℕ = frame_bytes f ++ rest in
    let head : head_of bytes ≡ head_for f = head_back size f rest can in
    let locals : words_from (head_of bytes).locals (drop 8 bytes) ≡ f.locals =
    ap (λ (t : FrameHead). words_from t.locals (drop 8 bytes)) head
    ∙ ap (λ (t : List ℕ). words_from (length f.locals) t) (after_head f rest)
    ∙ words_back f.locals (words f.stack ++ rest) in
    let stack : words_from (head_of bytes).words (drop (8 + (head_of bytes).locals * 2) bytes) ≡ f.stack =
    ap (λ (t : FrameHead). words_from t.words (drop (8 + t.locals * 2) bytes)) head
    ∙ ap (λ (t : List ℕ). words_from (length f.stack) t) (after_locals f rest)
    ∙ words_back f.stack rest in
    λ i. record {
      locals = locals i;
      stack = stack i;
      arguments = (head i).arguments;
      return_address = (head i).return_address;
      result = (head i).variable;
    }

is_frame_back : (size most : ℕ) (f : Frame) (rest : List ℕ) → CanBeWritten size f
    → length f.locals + length f.stack ≤ most → is_frame size most (frame_bytes f ++ rest) ≡ true
unfolding frame_bytes
is_frame_back size most f rest can fits =
    let head : head_of (frame_bytes f ++ rest) ≡ head_for f = head_back size f rest can in
    let end : size_of (head_of (frame_bytes f ++ rest)) ≡ size_of (head_for f) =
    ap (λ (t : FrameHead). size_of t) head in
    let count : words_of (head_of (frame_bytes f ++ rest)) ≡ words_of (head_for f) =
    ap (λ (t : FrameHead). words_of t) head in
    let address : (head_of (frame_bytes f ++ rest)).return_address ≡ f.return_address =
    ap (λ (t : FrameHead). t.return_address) head in
    let long : length (frame_bytes f ++ rest) ≡ size_of (head_for f) + length rest =
    length-append (frame_bytes f) rest ∙ ap (λ (t : ℕ). t + length rest) (length-frame_bytes f) in
    is_whole size most (frame_bytes f ++ rest) (record {
      head = omega (arith, long);
      flags = flags_small f.result (length f.locals) can.locals;
      mask = omega (arith, mask_back f.arguments can.arguments, can.arguments);
      address = omega (arith, address, can.return_address);
      words = omega (arith, count, fits);
      end = omega (arith, end, long);
    })

after_frame : (size : ℕ) (f : Frame) (rest : List ℕ) → CanBeWritten size f
    → drop (size_of (head_of (frame_bytes f ++ rest))) (frame_bytes f ++ rest) ≡ rest
after_frame size f rest can =
    ap (λ (t : FrameHead). drop (size_of t) (frame_bytes f ++ rest)) (head_back size f rest can)
    ∙ drop_at (frame_bytes f) rest (size_of (head_for f)) (length-frame_bytes f)

frame_long : (f : Frame) (rest : List ℕ) → 0 < length (frame_bytes f ++ rest)
frame_long f rest = omega (arith, length-append (frame_bytes f) rest, length-frame_bytes f)

-- Frames that are written are read back.
frames_back : (size frames most : ℕ) (fs : List Frame) → length fs ≤ frames → words_in fs ≤ most
    → All (CanBeWritten size) fs → frames_in size frames most (frames_bytes fs) ≡ Some fs
frames_back size frames most [] few fits can = frames_end size frames most
frames_back size zero most (f ∷ fs) few fits can = absurd (omega (arith, few))
frames_back size (suc frames) most (f ∷ fs) few fits can =
    let first : CanBeWritten size f = can zero f (omega arith) in
    let others : All (CanBeWritten size) fs = λ k d lt. can (suc k) d (omega (arith, lt)) in
    let rest : List ℕ = frames_bytes fs in
    let bytes : List ℕ = frame_bytes f ++ rest in
    let own : ℕ = length f.locals + length f.stack in
    let count : words_of (head_of bytes) ≡ own = ap (λ (t : FrameHead). words_of t) (head_back size f rest first) in
    frames_more size frames most bytes (frame_long f rest) (is_frame_back size most f rest first (omega (arith, fits)))
    ∙ ap (λ (t : Frame). option_map (λ gs. t ∷ gs) (frames_after size frames most bytes)) (frame_back size f rest first)
    ∙ ap (λ (t : List ℕ). option_map (λ gs. f ∷ gs) (frames_in size frames (most - words_of (head_of bytes)) t))
    (after_frame size f rest first)
    ∙ ap (λ (t : ℕ). option_map (λ gs. f ∷ gs) (frames_in size frames (most - t) rest)) count
    ∙ ap (λ (t : Option (List Frame)). option_map (λ gs. f ∷ gs) t)
    (frames_back size frames (most - own) fs (omega (arith, few)) (omega (arith, fits)) others)

all_and_main : (size : ℕ) (stack : List ℕ) (calls : List Frame) → 0 < size → All (CanBeWritten size) calls
    → All (CanBeWritten size) (main_frame stack ∷ calls)
all_and_main size stack calls some can zero d lt = record {
  locals = omega arith;
  arguments = omega arith;
  return_address = some;
}
all_and_main size stack calls some can (suc k) d lt = can k d (omega (arith, lt))

begins : (stack : List ℕ) (rest : List ℕ)
    → starts_with nat_eq (frame_bytes (main_frame stack) ++ rest) (0 ∷ 0 ∷ 0 ∷ 0 ∷ 0 ∷ 0 ∷ []) ≡ true
unfolding frame_bytes
begins stack rest = refl

-- Stacks that are written are read back.
pub stacks_back : (size : ℕ) (s : Stacks) → 0 < size → length s.calls < most_frames
    → length s.stack + words_in s.calls ≤ most_words → All (CanBeWritten size) s.calls
    → stacks_in size (stacks_bytes s) ≡ Some s
stacks_back size s some few fits can =
    let fs : List Frame = main_frame s.stack ∷ s.calls in
    let o : Option Stacks = option_and_then main_and_calls (frames_in size most_frames most_words (stacks_bytes s)) in
    ap (λ (t : Bool). if t then o else None) (begins s.stack (frames_bytes s.calls))
    ∙ ap (λ (t : Option (List Frame)). option_and_then main_and_calls t)
    (frames_back size most_frames most_words fs (omega (arith, few)) (omega (arith, fits))
    (all_and_main size s.stack s.calls some can))
