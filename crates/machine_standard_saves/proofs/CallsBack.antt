-- Frames that are put back, one after another.
use Rattle.std.proofs.Common.{◌≡◌, ℕ, zero, suc, ◌+◌, ◌-◌, ◌*◌, ◌%◌, ◌<◌, ◌≤◌, Bool, true, false, if◌then◌else◌}
use Rattle.std.proofs.Common.{List, [], ◌∷◌, ◌++◌, length, reverse, take, drop, refl, ap, sym, ◌∙◌, arith, subst, slice_index}
use Rattle.std.proofs.Common.{append_assoc, Option, Some, None, Result, Ok, Err}
use Rattle.std.specs.Option.{option_and_then, option_map}
use Rattle.std.specs.List.{starts_with}
use Rattle.std.specs.Prelude.{◌&&◌, nat_eq, nat_le, nat_lt}
use Rattle.std.specs.Cmp.Lexicographic.{pointwise}
use Rattle.std.proofs.lemmas.Bool.{and_parts, eqb-true, leb-true}
use Rattle.std.proofs.lemmas.Grind.{reverse_onto}
use Rattle.std.proofs.lemmas.List.{drop-drop, drop_at, length-append, take-append-drop, take_at}
use Rattle.journal.specs.Recording.{Recording}
use Rattle.zcore.specs.State.{Frame, State, done, words, ◌>>=◌}
use Rattle.iff_files.specs.Frames.{Stacks, frame_in, frames_in, head_of, is_frame, main_and_calls, most_frames, most_words}
use Rattle.iff_files.specs.Frames.{masks, place_in, size_of, words_from, words_of}
use Rattle.iff_files.specs.declared.frames.FrameHead.{FrameHead}
use Rattle.iff_files.proofs.ReadFrames.{frames_done, frames_more, no_frames_left, not_frames}
use Rattle.machine_frames.specs.Contents.{Contents}
use Rattle.machine_frames.specs.States.{frame_count, frames_of, height_of, state_of, IsSound}
use Rattle.machine_frames.specs.Went.{GoesOn, Went}
use Rattle.machine_frames.specs.declared.end.End.{End}
use Rattle.machine_frames.proofs.Frames.{length-frames_of, words_is}
use Rattle.machine_frames.proofs.Steps.{goes_on_after, goes_on_still, went_as, went_then}
use Rattle.machine_standard_saves.specs.Restored.{AreCalls, AreStacks, add_frame, add_frames, begin_frames, frame_with}
use Rattle.machine_standard_saves.specs.Restored.{most_calls, put_back_one, with_frames}
use Rattle.machine_standard_saves.proofs.AlwaysDone.{add_is_done, added, begin_is_done, begun, gives_up}

-- The words of a frame

words_apart : (a b : ℕ) (bytes : List ℕ)
    → words_from (a + b) bytes ≡ words_from a bytes ++ words_from b (drop (a * 2) bytes)
words_apart zero b bytes =
    let e : 0 + b ≡ b = omega arith in
    ap (λ (n : ℕ). words_from n bytes) e
words_apart (suc a) b bytes =
    let e : suc a + b ≡ suc (a + b) = omega arith in
    let word : ℕ = slice_index bytes 0 * 256 + slice_index bytes 1 in
    let rest : drop (a * 2) (drop 2 bytes) ≡ drop (suc a * 2) bytes =
    drop-drop (a * 2) 2 bytes ∙ ap (λ (n : ℕ). drop n bytes) (omega arith) in
    ap (λ (n : ℕ). words_from n bytes) e
    ∙ ap (λ (t : List ℕ). word ∷ t) (words_apart a b (drop 2 bytes)
    ∙ ap (λ (t : List ℕ). words_from a (drop 2 bytes) ++ words_from b t) rest)

pub length-words_from : (count : ℕ) (bytes : List ℕ) → length (words_from count bytes) ≡ count
length-words_from zero bytes = refl
length-words_from (suc count) bytes = ap suc (length-words_from count (drop 2 bytes))

frame_is : (bytes : List ℕ)
    → frame_in bytes ≡ frame_with (head_of bytes) (words_from (words_of (head_of bytes)) (drop 8 bytes))
unfolding frame_in
frame_is bytes =
    let a : ℕ = (head_of bytes).locals in
    let b : ℕ = (head_of bytes).words in
    let own : List ℕ = words_from a (drop 8 bytes) in
    let e : words_from (a + b) (drop 8 bytes) ≡ own ++ words_from b (drop (a * 2) (drop 8 bytes)) =
    words_apart a b (drop 8 bytes) in
    let at : drop (a * 2) (drop 8 bytes) ≡ drop (8 + a * 2) bytes = drop-drop (a * 2) 8 bytes in
    let locals : own ≡ take a (words_from (a + b) (drop 8 bytes)) =
    sym (ap (λ (t : List ℕ). take a t) e
    ∙ take_at own (words_from b (drop (a * 2) (drop 8 bytes))) a (length-words_from a (drop 8 bytes))) in
    let stack : words_from b (drop (8 + a * 2) bytes) ≡ drop a (words_from (a + b) (drop 8 bytes)) =
    sym (ap (λ (t : List ℕ). drop a t) e
    ∙ drop_at own (words_from b (drop (a * 2) (drop 8 bytes))) a (length-words_from a (drop 8 bytes))
    ∙ ap (λ (t : List ℕ). words_from b t) at) in
    λ i. record {
      locals = locals i;
      stack = stack i;
      arguments = (head_of bytes).arguments;
      return_address = (head_of bytes).return_address;
      result = (head_of bytes).variable;
    }

-- A whole frame

pub record FrameParts (left : ℕ) (bytes : List ℕ) : Type 0 where
  pub head : 8 ≤ length bytes
  pub words : words_of (head_of bytes) ≤ left
  pub end : size_of (head_of bytes) ≤ length bytes

pub frame_parts : (size left : ℕ) (bytes : List ℕ) → is_frame size left bytes ≡ true → FrameParts left bytes
unfolding is_frame
frame_parts size left bytes e =
    let p : Bool = nat_le 8 (length bytes) in
    let q : Bool = nat_lt (slice_index bytes 3) 32 in
    let r : Bool = nat_lt (place_in masks (slice_index bytes 5)) 8 in
    let t : Bool = nat_lt (head_of bytes).return_address size in
    let u : Bool = nat_le (words_of (head_of bytes)) left in
    let v : Bool = nat_le (size_of (head_of bytes)) (length bytes) in
    let a = and_parts (p && q && r && t && u) v e in
    let b = and_parts (p && q && r && t) u a.0 in
    let c = and_parts (p && q && r) t b.0 in
    let d = and_parts (p && q) r c.0 in
    let f = and_parts p q d.0 in
    record {
      head = leb-true 8 (length bytes) f.0;
      words = leb-true (words_of (head_of bytes)) left b.1;
      end = leb-true (size_of (head_of bytes)) (length bytes) a.1;
    }

some_is : {A : Type 0} (a b : A) → (let o : Option A = Some a in o) ≡ Some b → a ≡ b
some_is a b e = cc

none_is_not : {A : Type 0} (a : A) → (let o : Option A = None in o) ≡ Some a → ⊥
none_is_not a e = cc

-- what comes next
record NextFrame (size frames left : ℕ) (bytes : List ℕ) (coming : List Frame) : Type 0 where
  fewer : ℕ
  count : frames ≡ suc fewer
  after : List Frame
  read : frames_in size fewer (left - words_of (head_of bytes)) (drop (size_of (head_of bytes)) bytes) ≡ Some after
  first : coming ≡ frame_in bytes ∷ after

next_of : (o : Option (List Frame)) (f : Frame) (coming : List Frame) → option_map (λ fs. f ∷ fs) o ≡ Some coming
    → (after : List Frame) × ((o ≡ Some after) × (coming ≡ f ∷ after))
next_of None f coming e = absurd (none_is_not coming e)
next_of (Some after) f coming e = (after, (refl, sym (some_is (f ∷ after) coming e)))

next_frame : (size frames left : ℕ) (bytes : List ℕ) (coming : List Frame) → is_frame size left bytes ≡ true
    → frames_in size frames left bytes ≡ Some coming → NextFrame size frames left bytes coming
next_frame size zero left bytes coming is e =
    let p = frame_parts size left bytes is in
    absurd (none_is_not coming (sym (no_frames_left size left bytes (omega (arith, p.head))) ∙ e))
next_frame size (suc fewer) left bytes coming is e =
    let p = frame_parts size left bytes is in
    let n = next_of
    (frames_in size fewer (left - words_of (head_of bytes)) (drop (size_of (head_of bytes)) bytes)) (frame_in bytes)
    coming (sym (frames_more size fewer left bytes (omega (arith, p.head)) is) ∙ e) in
    record { fewer = fewer; count = refl; after = n.0; read = n.1.0; first = n.1.1 }

none_comes : (size frames left : ℕ) (bytes : List ℕ) (coming : List Frame) → is_frame size left bytes ≡ false
    → frames_in size frames left bytes ≡ Some coming → coming ≡ []
none_comes size frames left [] coming is e =
    sym (some_is [] coming (sym (frames_done size frames left [] refl) ∙ e))
none_comes size zero left (b ∷ bytes) coming is e =
    absurd (none_is_not coming (sym (no_frames_left size left (b ∷ bytes) (omega arith)) ∙ e))
none_comes size (suc frames) left (b ∷ bytes) coming is e =
    absurd (none_is_not coming (sym (not_frames size frames left (b ∷ bytes) (omega arith) is) ∙ e))

-- The calls

-- some are put back, and others come
pub record PutsBack (s t : Recording Contents) (size most left : ℕ) (bytes rest : List ℕ) : Type 0 where
  pub calls : List Frame
  pub are : AreCalls size most bytes calls
  pub frames : ℕ
  pub coming : List Frame
  pub put : List Frame
  pub read : frames_in size frames left rest ≡ Some coming
  pub goes_on : GoesOn s t
  pub state : (text : List ℕ) → state_of t.store text ≡ record (state_of s.store text) { frames = put }
  pub all : reverse coming ++ put ≡ reverse calls ++ (state_of s.store []).frames
  pub few : length put + frames ≤ 1001
  pub room : words put + left ≤ 65536

pub puts_none : (s : Recording Contents) (size most : ℕ) (bytes : List ℕ) → IsSound s.store
    → frame_count (slice_index s.store.cells) ≡ 1 → height_of (slice_index s.store.cells) + most ≤ 65536
    → (calls : List Frame) × AreCalls size most bytes calls → PutsBack s s size most most bytes bytes
puts_none s size most bytes sound one room c =
    let f = slice_index s.store.cells in
    record {
      calls = c.0;
      are = c.1;
      frames = most_calls;
      coming = c.0;
      put = (state_of s.store []).frames;
      read = c.1;
      goes_on = goes_on_still s sound;
      state = λ text. refl;
      all = refl;
      few = omega (arith, length-frames_of f (frame_count f) (height_of f), one);
      room = omega (arith, words_is f (frame_count f) (height_of f) sound.stacked, room);
    }

pub record Stands (t : Recording Contents) (put : List Frame) : Type 0 where
  pub sound : IsSound t.store
  pub count : frame_count (slice_index t.store.cells) ≡ length put
  pub height : height_of (slice_index t.store.cells) ≡ words put

pub stands : (s t : Recording Contents) (put : List Frame) → IsSound t.store
    → state_of t.store [] ≡ record (state_of s.store []) { frames = put } → Stands t put
stands s t put sound state =
    let f = slice_index t.store.cells in
    let frames : frames_of f (frame_count f) (height_of f) ≡ put = ap (λ (x : State). x.frames) state in
    record {
      sound = sound;
      count = sym (length-frames_of f (frame_count f) (height_of f)) ∙ ap (λ (l : List Frame). length l) frames;
      height = sym (words_is f (frame_count f) (height_of f) sound.stacked) ∙ ap (λ (l : List Frame). words l) frames;
    }

-- there is room for one frame more
pub record HasRoom (t : Recording Contents) (head : FrameHead) : Type 0 where
  pub sound : IsSound t.store
  pub calls : frame_count (slice_index t.store.cells) < 1001
  pub room : height_of (slice_index t.store.cells) + words_of head ≤ 65536
  pub few : words_of head ≤ 65536

pub has_room : (s t : Recording Contents) (size most left : ℕ) (bytes rest : List ℕ) (head : FrameHead)
    → PutsBack s t size most left bytes rest → is_frame size left rest ≡ true → head ≡ head_of rest → HasRoom t head
has_room s t size most left bytes rest head p is same =
    let w = frame_parts size left rest is in
    let n = next_frame size p.frames left rest p.coming is p.read in
    let h = stands s t p.put p.goes_on.sound (p.state []) in
    let count : words_of head ≡ words_of (head_of rest) = ap (λ (x : FrameHead). words_of x) same in
    record {
      sound = p.goes_on.sound;
      calls = omega (arith, h.count, n.count, p.few);
      room = omega (arith, h.height, count, w.words, p.room);
      few = omega (arith, count, w.words, p.room);
    }

pub puts_one : (s t u : Recording Contents) (size most left : ℕ) (bytes rest : List ℕ) (head : FrameHead)
    → PutsBack s t size most left bytes rest → is_frame size left rest ≡ true → head ≡ head_of rest
    → Went (Ok tt) t u (put_back_one false head (words_from (words_of head) (drop 8 rest)))
    → PutsBack s u size most (left - words_of head) bytes (drop (size_of head) rest)
puts_one s t u size most left bytes rest head p is same went =
    let w = frame_parts size left rest is in
    let n = next_frame size p.frames left rest p.coming is p.read in
    let values : List ℕ = words_from (words_of head) (drop 8 rest) in
    let f : Frame = frame_with head values in
    let count : words_of head ≡ words_of (head_of rest) = ap (λ (x : FrameHead). words_of x) same in
    let frame : frame_in rest ≡ f = frame_is rest
    ∙ ap (λ (x : FrameHead). frame_with x (words_from (words_of x) (drop 8 rest))) (sym same) in
    let long : length f.locals + length f.stack ≡ words_of head =
    sym (length-append (take head.locals values) (drop head.locals values))
    ∙ ap (λ (l : List ℕ). length l) (take-append-drop head.locals values) ∙ length-words_from (words_of head) (drop 8 rest) in
    let coming : reverse p.coming ≡ reverse n.after ++ f ∷ [] =
    ap (λ (l : List Frame). reverse l) n.first ∙ reverse_onto n.after (frame_in rest) []
    ∙ ap (λ (x : Frame). reverse n.after ++ x ∷ []) frame in
    record {
      calls = p.calls;
      are = p.are;
      frames = n.fewer;
      coming = n.after;
      put = f ∷ p.put;
      read = ap (λ (x : FrameHead). frames_in size n.fewer (left - words_of x) (drop (size_of x) rest)) same ∙ n.read;
      goes_on = goes_on_after p.goes_on went.did.0;
      state = λ text. added t u f text went ∙ ap (λ (x : State). record x { frames = f ∷ x.frames }) (p.state text);
      all = sym (append_assoc (reverse n.after) (f ∷ []) p.put) ∙ ap (λ (l : List Frame). l ++ p.put) (sym coming) ∙ p.all;
      few = omega (arith, n.count, p.few);
      room = omega (arith, long, count, w.words, p.room);
    }

pub put_all_back : (s t : Recording Contents) (size most left : ℕ) (bytes rest : List ℕ)
    → PutsBack s t size most left bytes rest → is_frame size left rest ≡ false
    → (calls : List Frame) → AreCalls size most bytes calls → Went (Ok tt) s t (add_frames calls)
unfolding add_frames
put_all_back s t size most left bytes rest p is calls are =
    let none : p.coming ≡ [] = none_comes size p.frames left rest p.coming is p.read in
    let same : p.calls ≡ calls = some_is p.calls calls (sym p.are ∙ are) in
    let frames : p.put ≡ reverse calls ++ (state_of s.store []).frames =
    ap (λ (l : List Frame). reverse l ++ p.put) (sym none) ∙ p.all
    ∙ ap (λ (l : List Frame). reverse l ++ (state_of s.store []).frames) same in
    record {
      did = (
        p.goes_on,
        λ text. ap (λ (fs : List Frame). done tt (record (state_of s.store text) { frames = fs })) (sym frames)
            ∙ ap (λ (x : State). done tt x) (sym (p.state text)),
      );
    }

-- All frames of a file

-- the frame of the main code, and what comes after it
pub record BeginsStacks (size : ℕ) (bytes : List ℕ) (stacks : Stacks) : Type 0 where
  pub is : is_frame size 65536 bytes ≡ true
  pub locals : (head_of bytes).locals ≡ 0
  pub calls : AreCalls size (65536 - words_of (head_of bytes)) (drop (size_of (head_of bytes)) bytes) stacks.calls
  pub stack : stacks.stack ≡ words_from (words_of (head_of bytes)) (drop 8 bytes)

if_some : (b : Bool) (o : Option Stacks) (x : Stacks) → (if b then o else None) ≡ Some x → (b ≡ true) × (o ≡ Some x)
if_some true o x e = (refl, e)
if_some false o x e = absurd (let p : (let n : Option Stacks = None in n) ≡ Some x = e in cc)

stacks_is : (a b : Stacks) → (let o : Option Stacks = Some a in o) ≡ Some b → a ≡ b
stacks_is a b e = cc

main_of : (o : Option (List Frame)) (x : Stacks) → option_and_then main_and_calls o ≡ Some x
    → (main : Frame) × ((o ≡ Some (main ∷ x.calls)) × (x.stack ≡ main.stack))
main_of None x e = absurd (cc)
main_of (Some []) x e = absurd (cc)
main_of (Some (main ∷ calls)) x e =
    let made : Stacks = record { stack = main.stack; calls = calls } in
    let is : made ≡ x = stacks_is made x e in (
      main,
      (ap (λ (y : Stacks). let o : Option (List Frame) = Some (main ∷ y.calls) in o) is, sym (ap (λ (y : Stacks). y.stack) is)),
    )

fourth_part : (p q r t u : Bool) → (p && (q && (r && (t && u)))) ≡ true → t ≡ true
fourth_part p q r t u e =
    let a = and_parts p (q && (r && (t && u))) e in
    let b = and_parts q (r && (t && u)) a.1 in
    let c = and_parts r (t && u) b.1 in
    (and_parts t u c.1).0

fourth : (bytes : List ℕ) → starts_with nat_eq bytes (0 ∷ 0 ∷ 0 ∷ 0 ∷ 0 ∷ 0 ∷ []) ≡ true → slice_index bytes 3 ≡ 0
fourth [] e = refl
fourth (a ∷ []) e = refl
fourth (a ∷ b ∷ []) e = refl
fourth (a ∷ b ∷ c ∷ []) e = refl
fourth (a ∷ b ∷ c ∷ d ∷ bytes) e =
    sym (eqb-true 0 d (fourth_part (nat_eq 0 a) (nat_eq 0 b) (nat_eq 0 c) (nat_eq 0 d)
    (pointwise nat_eq (0 ∷ 0 ∷ []) (take 2 bytes)) e))

is_true : (b : Bool) → (b ≡ false → ⊥) → b ≡ true
is_true true h = refl
is_true false h = absurd (h refl)

not_nil : (f : Frame) (fs : List Frame) → (let l : List Frame = f ∷ fs in l) ≡ [] → ⊥
not_nil f fs e = cc

same_first : (f g : Frame) (fs gs : List Frame) → (let l : List Frame = f ∷ fs in l) ≡ g ∷ gs → (f ≡ g) × (fs ≡ gs)
same_first f g fs gs e = (let p : f ≡ g = cc in p, let p : fs ≡ gs = cc in p)

pub begins_stacks : (size : ℕ) (bytes : List ℕ) (stacks : Stacks) → AreStacks size bytes stacks
    → BeginsStacks size bytes stacks
begins_stacks size bytes stacks are =
    let both = if_some (starts_with nat_eq bytes (0 ∷ 0 ∷ 0 ∷ 0 ∷ 0 ∷ 0 ∷ []))
    (option_and_then main_and_calls (frames_in size most_frames most_words bytes)) stacks are in
    let m = main_of (frames_in size most_frames most_words bytes) stacks both.1 in
    let is : is_frame size 65536 bytes ≡ true = is_true (is_frame size 65536 bytes)
    (λ h. not_nil m.0 stacks.calls (none_comes size most_frames 65536 bytes (m.0 ∷ stacks.calls) h m.1.0)) in
    let n = next_frame size most_frames 65536 bytes (m.0 ∷ stacks.calls) is m.1.0 in
    let first = same_first m.0 (frame_in bytes) stacks.calls n.after n.first in
    let fewer : n.fewer ≡ 1000 = omega (arith, n.count) in
    let locals : (head_of bytes).locals ≡ 0 = ap (λ (x : ℕ). x % 16) (fourth bytes both.0) in
    let values : List ℕ = words_from (words_of (head_of bytes)) (drop 8 bytes) in
    record {
      is = is;
      locals = locals;
      calls = ap (λ (x : ℕ). frames_in size x (65536 - words_of (head_of bytes)) (drop (size_of (head_of bytes)) bytes))
          (sym fewer) ∙ n.read ∙ ap (λ (l : List Frame). let o : Option (List Frame) = Some l in o) (sym first.1);
      stack = m.1.1 ∙ ap (λ (f : Frame). f.stack) (first.0 ∙ frame_is bytes)
          ∙ ap (λ (x : ℕ). drop x values) locals;
    }

-- the frame of the main code runs alone: so many calls and so many words may follow
pub main_stands : (s t : Recording Contents) (values : List ℕ) → Went (Ok tt) s t (begin_frames values)
    → Stands t ((record { locals = []; stack = values; arguments = 0; return_address = 0; result = None }) ∷ [])
main_stands s t values w = stands s t _ w.did.0.sound (begun s t values [] w)

same_frames : (stacks : Stacks) (values : List ℕ) (calls : List Frame) (s : State) → values ≡ stacks.stack
    → calls ≡ stacks.calls → with_frames stacks s ≡ (begin_frames values >>= (λ x. add_frames calls)) s
unfolding with_frames begin_frames add_frames
same_frames stacks values calls s is are =
    let first : Frame = record { locals = []; stack = stacks.stack; arguments = 0; return_address = 0; result = None } in
    ap (λ (fs : List Frame). done tt (record s { frames = fs })) (reverse_onto stacks.calls first [])
    ∙ ap (λ (fs : List Frame). done tt (record s { frames = reverse fs ++ first ∷ [] })) (sym are)
    ∙ ap (λ (l : List ℕ). done tt (record s {
      frames = reverse calls
          ++ (record { locals = []; stack = l; arguments = 0; return_address = 0; result = None }) ∷ [];
    })) (sym is)

pub all_back : {s m t : Recording Contents} (r : Result (Unit {0}) End) (stacks : Stacks) (values : List ℕ)
    (calls : List Frame) → Went (Ok tt) s m (begin_frames values) → Went r m t (add_frames calls)
    → values ≡ stacks.stack → calls ≡ stacks.calls → Went r s t (with_frames stacks)
all_back {s} r stacks values calls w v is are =
    went_as r (with_frames stacks) (λ text. same_frames stacks values calls (state_of s.store text) is are)
    (went_then (λ x. add_frames calls) w v)

-- One frame

pub read_values : (was now slice : List ℕ) (count : ℕ) (head : FrameHead) (bytes : List ℕ)
    → now ≡ was ++ words_from count slice → was ≡ [] → count ≡ words_of head → slice ≡ drop 8 bytes
    → now ≡ words_from (words_of head) (drop 8 bytes)
read_values was now slice count head bytes is none e same =
    is ∙ ap (λ (l : List ℕ). l ++ words_from count slice) none
    ∙ ap (λ (x : ℕ). words_from x slice) e ∙ ap (λ (l : List ℕ). words_from (words_of head) l) same

pub main_back : {s t : Recording Contents} (r : Result (Unit {0}) End) (is_main : Bool) (head : FrameHead)
    (values all : List ℕ) → is_main ≡ true → values ≡ all → Went r s t (begin_frames values)
    → Went r s t (put_back_one is_main head all)
main_back {s} {t} r is_main head values all is same w =
    subst (λ (b : Bool). Went r s t (put_back_one b head all)) (sym is)
    (subst (λ (l : List ℕ). Went r s t (begin_frames l)) same w)

pub call_back : {s t : Recording Contents} (r : Result (Unit {0}) End) (is_main : Bool) (head : FrameHead)
    (values all : List ℕ) → is_main ≡ false → values ≡ all → Went r s t (add_frame (frame_with head values))
    → Went r s t (put_back_one is_main head all)
call_back {s} {t} r is_main head values all is same w =
    subst (λ (b : Bool). Went r s t (put_back_one b head all)) (sym is)
    (subst (λ (l : List ℕ). Went r s t (add_frame (frame_with head l))) same w)

-- a call that was not put back gives the turn up
pub call_gives_up : {e : End} {s t u : Recording Contents} (size most left : ℕ) (bytes rest : List ℕ)
    (head : FrameHead) (values : List ℕ) (calls : List Frame) → PutsBack s t size most left bytes rest
    → Went {A = Unit {0}} (Err e) t u (put_back_one false head values)
    → Went {A = Unit {0}} (Err e) s u (add_frames calls)
call_gives_up size most left bytes rest head values calls p w =
    gives_up (add_frame (frame_with head values)) (add_frames calls) (add_is_done (frame_with head values)) p.goes_on w

pub main_gives_up : {e : End} {s t : Recording Contents} (head : FrameHead) (values : List ℕ) (stacks : Stacks)
    → IsSound s.store → Went {A = Unit {0}} (Err e) s t (put_back_one true head values)
    → Went {A = Unit {0}} (Err e) s t (with_frames stacks)
main_gives_up {s = s} head values stacks sound w =
    gives_up (begin_frames values) (with_frames stacks) (begin_is_done values) (goes_on_still s sound) w

-- stacks that are read with the size that they are known with
pub are_read : (size known : ℕ) (bytes : List ℕ) (stacks : Stacks) → size ≡ known → AreStacks known bytes stacks
    → BeginsStacks size bytes stacks
are_read size known bytes stacks is are =
    subst (λ (n : ℕ). BeginsStacks n bytes stacks) (sym is) (begins_stacks known bytes stacks are)

pub main_values : (size : ℕ) (bytes : List ℕ) (stacks : Stacks) (head : FrameHead) → BeginsStacks size bytes stacks
    → head ≡ head_of bytes → words_from (words_of head) (drop 8 bytes) ≡ stacks.stack
main_values size bytes stacks head b same =
    ap (λ (h : FrameHead). words_from (words_of h) (drop 8 bytes)) same ∙ sym b.stack

pub calls_follow : (size most count end : ℕ) (bytes rest : List ℕ) (head : FrameHead) (stacks : Stacks)
    → BeginsStacks size bytes stacks → head ≡ head_of bytes → most ≡ 65536 - count → count ≡ words_of head
    → end ≡ size_of head → rest ≡ drop end bytes → AreCalls size most rest stacks.calls
calls_follow size most count end bytes rest head stacks b same is_most is_count is_end is_rest =
    ap (λ (l : List ℕ). frames_in size most_calls most l)
    (is_rest ∙ ap (λ (n : ℕ). drop n bytes) (is_end ∙ ap (λ (h : FrameHead). size_of h) same))
    ∙ ap (λ (n : ℕ). frames_in size most_calls n (drop (size_of (head_of bytes)) bytes))
    (is_most ∙ ap (λ (n : ℕ). 65536 - n) (is_count ∙ ap (λ (h : FrameHead). words_of h) same))
    ∙ b.calls

-- there is room for the calls
pub main_room : (s t : Recording Contents) (size most count : ℕ) (bytes : List ℕ) (head : FrameHead) (stacks : Stacks)
    → BeginsStacks size bytes stacks → head ≡ head_of bytes → most ≡ 65536 - count → count ≡ words_of head
    → Went (Ok tt) s t (begin_frames (words_from (words_of head) (drop 8 bytes)))
    → (frame_count (slice_index t.store.cells) ≡ 1) × (height_of (slice_index t.store.cells) + most ≤ 65536)
main_room s t size most count bytes head stacks b same is_most is_count w =
    let h = main_stands s t (words_from (words_of head) (drop 8 bytes)) w in
    let p = frame_parts size 65536 bytes b.is in
    let words : words_of head ≡ words_of (head_of bytes) = ap (λ (x : FrameHead). words_of x) same in (
      h.count,
      omega (arith, h.height, length-words_from (words_of head) (drop 8 bytes), p.words, words, is_most, is_count),
    )
