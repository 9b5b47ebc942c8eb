-- The frames of a store as bytes.
use Rattle.std.proofs.Common.{◌≡◌, ℕ, zero, suc, ◌+◌, ◌-◌, ◌*◌, ◌<◌, ◌≤◌, Bool, true, false, if◌then◌else◌, nat_le, nat_lt, ◌&&◌}
use Rattle.std.proofs.Common.{List, [], ◌∷◌, ◌++◌, length, reverse, refl, ap, sym, ◌∙◌, arith, subst, slice_index, inl, inr}
use Rattle.std.proofs.Common.{append_assoc, drop, take, Option, Some}
use Rattle.std.specs.List.{list_all}
use Rattle.std.proofs.lemmas.Bool.{and_from, and_left, and_parts, and_right, cases_lt, le-leb, le-ltb, leb-true, lt-leb, lt-ltb, ltb-true}
use Rattle.std.proofs.lemmas.Grind.{reverse_onto}
use Rattle.std.proofs.lemmas.List.{append-nil, get_or-drop, get_or-take, length-drop, length-reverse, length-take-le}
use Rattle.zcore.specs.State.{Frame}
use Rattle.iff_files.specs.Frames.{frame_bytes, frames_bytes, head_for, main_frame, stacks_bytes, words_in}
use Rattle.iff_files.specs.declared.frames.FrameHead.{FrameHead}
use Rattle.iff_files.proofs.ReadFrames.{length-frames_bytes}
use Rattle.zcore_standard.specs.SavedStates.{is_savable, stacks_of}
use Rattle.machine_frames.specs.Contents.{Contents, memory_of}
use Rattle.machine_frames.specs.States.{base_of, cells_from, frame_count, frame_of, frames_of, height_of, local_count, long_at}
use Rattle.machine_frames.specs.States.{variable_of, IsSound, IsStacked}
use Rattle.machine_frames.proofs.Entering.{cells_from_is}
use Rattle.machine_frames.proofs.Frames.{length-cells_from, length-frames_of}
use Rattle.machine_standard_saves.specs.Written.{IsHeadOf, WritesAll, WritesCall, WritesFrames, WritesMain, end_of, first_frames}
use Rattle.machine_standard_saves.specs.Written.{frame_at}

-- Where frames end

-- where the next one begins, or at the height
record IsEnd (f : ℕ → ℕ) (n top k end : ℕ) : Type 0 where
  inner : k + 1 < n → end ≡ base_of f (k + 1)
  last : k + 1 ≡ n → end ≡ top

end_below : (f : ℕ → ℕ) (m top k end : ℕ) → k < m → IsEnd f (suc m) top k end → IsEnd f m (base_of f m) k end
end_below f m top k end lt e =
    record {
      inner = λ l. e.inner (omega arith);
      last = λ l. e.inner (omega arith) ∙ ap (λ (x : ℕ). base_of f x) l;
    }

end_at : (f : ℕ → ℕ) (k : ℕ) → IsEnd f (frame_count f) (height_of f) k (end_of f (k + 1))
end_at f k =
    record {
      inner = λ l. ap (λ (b : Bool). if b then base_of f (k + 1) else height_of f) (lt-ltb (k + 1) (frame_count f) l);
      last = λ l. ap (λ (b : Bool). if b then base_of f (k + 1) else height_of f)
          (le-ltb (k + 1) (frame_count f) (omega arith));
    }

fits : (f : ℕ → ℕ) (n top k end : ℕ) → IsStacked f n top → k < n → IsEnd f n top k end
    → (base_of f k + local_count f k ≤ end) × (end ≤ top)
fits f zero top k end h lt e = absurd (omega arith)
fits f (suc m) top k end h lt e = elim (cases_lt k m) [
  | inl below ↦
      let r = fits f m (base_of f m) k end h.1 below (end_below f m top k end below e) in
      (r.0, omega (arith, r.1, h.0))
  | inr past ↦
      let is : k ≡ m = omega arith in
      let ends : end ≡ top = e.last (omega arith) in
      (subst (λ (x : ℕ). base_of f x + local_count f x ≤ end) (sym is) (omega (arith, h.0, ends)), omega (arith, ends))
]

pub frame_fits : (s : Contents) (k : ℕ) → IsSound s → k < frame_count (slice_index s.cells)
    → (base_of (slice_index s.cells) k + local_count (slice_index s.cells) k ≤ end_of (slice_index s.cells) (k + 1))
    × (end_of (slice_index s.cells) (k + 1) ≤ 65536)
frame_fits s k sound lt =
    let f = slice_index s.cells in
    let r = fits f (frame_count f) (height_of f) k (end_of f (k + 1)) sound.stacked lt (end_at f k) in
    (r.0, omega (arith, r.1, sound.height))

-- All frames

-- one that fails the test is among them
one_fails : (test : Frame → Bool) (f : ℕ → ℕ) (n top k end : ℕ) → k < n → IsEnd f n top k end
    → test (frame_of f k end) ≡ false → list_all test (frames_of f n top) ≡ false
one_fails test f zero top k end lt e h = absurd (omega arith)
one_fails test f (suc m) top k end lt e h = elim (cases_lt k m) [
  | inl below ↦ and_right _ _ (one_fails test f m (base_of f m) k end below (end_below f m top k end below e) h)
  | inr past ↦
      let is : k ≡ m = omega arith in
      let ends : end ≡ top = e.last (omega arith) in
      and_left _ _ (subst (λ (x : ℕ). test (frame_of f m x) ≡ false) ends
      (subst (λ (x : ℕ). test (frame_of f x end) ≡ false) is h))
]

pub not_all : (s : Contents) (k : ℕ) (before after : List ℕ) → k < frame_count (slice_index s.cells)
    → is_savable (length (memory_of s)) (frame_at s k) ≡ false → WritesAll s before after false
not_all s k before after lt h =
    let f = slice_index s.cells in
    let all : end_of f (frame_count f) ≡ height_of f =
    ap (λ (b : Bool). if b then base_of f (frame_count f) else height_of f) (le-ltb (frame_count f) (frame_count f) (omega arith)) in
    one_fails (is_savable (length (memory_of s))) f (frame_count f) (end_of f (frame_count f)) k (end_of f (k + 1)) lt
    (record { inner = (end_at f k).inner; last = λ l. (end_at f k).last l ∙ sym all }) h

-- One frame more

more_frames : (s : Contents) (k : ℕ) → k < frame_count (slice_index s.cells)
    → first_frames s (k + 1) ≡ frame_at s k ∷ first_frames s k
more_frames s k lt =
    let f = slice_index s.cells in
    let one : k + 1 ≡ suc k = omega arith in
    let end : end_of f k ≡ base_of f k =
    ap (λ (b : Bool). if b then base_of f k else height_of f) (lt-ltb k (frame_count f) lt) in
    ap (λ (x : ℕ). frames_of f x (end_of f (k + 1))) one
    ∙ ap (λ (x : ℕ). frame_at s k ∷ frames_of f k x) (sym end)

frames_bytes_push : (fs : List Frame) (f : Frame) → frames_bytes (fs ++ f ∷ []) ≡ frames_bytes fs ++ frame_bytes f
frames_bytes_push [] f = append-nil (frame_bytes f)
frames_bytes_push (g ∷ fs) f = ap (λ (t : List ℕ). frame_bytes g ++ t) (frames_bytes_push fs f)
    ∙ sym (append_assoc (frame_bytes g) (frames_bytes fs) (frame_bytes f))

stacks_bytes_push : (fs : List Frame) (f : Frame) → 0 < length fs
    → stacks_bytes (stacks_of (fs ++ f ∷ [])) ≡ stacks_bytes (stacks_of fs) ++ frame_bytes f
stacks_bytes_push [] f lt = absurd (omega arith)
stacks_bytes_push (main ∷ calls) f lt =
    ap (λ (t : List ℕ). frame_bytes (main_frame main.stack) ++ t) (frames_bytes_push calls f)
    ∙ sym (append_assoc (frame_bytes (main_frame main.stack)) (frames_bytes calls) (frame_bytes f))

bytes_more : (fs : List Frame) (f : Frame) → 0 < length fs
    → stacks_bytes (stacks_of (reverse (f ∷ fs))) ≡ stacks_bytes (stacks_of (reverse fs)) ++ frame_bytes f
bytes_more fs f lt =
    ap (λ (l : List Frame). stacks_bytes (stacks_of l)) (reverse_onto fs f [])
    ∙ stacks_bytes_push (reverse fs) f (omega (arith, length-reverse fs))

pub main_written : (s : Contents) (before after : List ℕ) → WritesMain s before after true
    → WritesFrames s 1 before after true
main_written s before after w = (
  and_from _ _ w.0 refl,
  w.1 ∙ ap (λ (t : List ℕ). before ++ t) (sym (append-nil (frame_bytes (main_frame (frame_at s 0).stack)))),
)

pub call_written : (s : Contents) (k : ℕ) (first before after : List ℕ) → 0 < k → k < frame_count (slice_index s.cells)
    → WritesFrames s k first before true → WritesCall s k before after true
    → WritesFrames s (k + 1) first after true
call_written s k first before after some lt v w =
    let f = slice_index s.cells in
    let e = more_frames s k lt in
    let old : List ℕ = stacks_bytes (stacks_of (reverse (first_frames s k))) in
    let count : 0 < length (first_frames s k) = omega (arith, length-frames_of f k (end_of f k)) in (
      ap (λ (fs : List Frame). list_all (is_savable (length (memory_of s))) fs) e ∙ and_from _ _ w.0 v.0,
      w.1 ∙ ap (λ (t : List ℕ). t ++ frame_bytes (frame_at s k)) v.1
          ∙ append_assoc first old (frame_bytes (frame_at s k))
          ∙ ap (λ (t : List ℕ). first ++ t)
          (sym (bytes_more (first_frames s k) (frame_at s k) count)
          ∙ ap (λ (fs : List Frame). stacks_bytes (stacks_of (reverse fs))) (sym e)),
    )

-- How long they are

words_in-push : (fs : List Frame) (f : Frame) → words_in (fs ++ f ∷ []) ≡ words_in fs + (length f.locals + length f.stack)
words_in-push [] f = omega arith
words_in-push (g ∷ fs) f = omega (arith, words_in-push fs f)

words_in-reverse : (fs : List Frame) → words_in (reverse fs) ≡ words_in fs
words_in-reverse [] = refl
words_in-reverse (f ∷ fs) =
    ap (λ (l : List Frame). words_in l) (reverse_onto fs f [])
    ∙ omega (arith, words_in-push (reverse fs) f, words_in-reverse fs)

words_in-frames_of : (f : ℕ → ℕ) (n top : ℕ) → IsStacked f n top → words_in (frames_of f n top) ≡ top
words_in-frames_of f zero top h = sym h
words_in-frames_of f (suc j) top h =
    let a = base_of f j in
    let b = local_count f j in
    omega (
      arith,
      length-cells_from f (7023 + a) b,
      length-cells_from f (7023 + (a + b)) (top - (a + b)),
      words_in-frames_of f j a h.1,
      h.0,
    )

length-stacks_bytes : (fs : List Frame)
    → length (stacks_bytes (stacks_of fs)) ≤ 8 + 8 * length fs + 2 * words_in fs
length-stacks_bytes [] = omega (arith, length-frames_bytes (main_frame [] ∷ []))
length-stacks_bytes (main ∷ calls) = omega (arith, length-frames_bytes (main_frame main.stack ∷ calls))

pub few_bytes : (s : Contents) → IsSound s
    → length (stacks_bytes (stacks_of (reverse (first_frames s (frame_count (slice_index s.cells)))))) < 1048576
few_bytes s sound =
    let f = slice_index s.cells in
    let all : end_of f (frame_count f) ≡ height_of f =
    ap (λ (b : Bool). if b then base_of f (frame_count f) else height_of f) (le-ltb (frame_count f) (frame_count f) (omega arith)) in
    let fs : List Frame = first_frames s (frame_count f) in
    let count : length fs ≡ frame_count f = length-frames_of f (frame_count f) (end_of f (frame_count f)) in
    let words : words_in fs ≡ end_of f (frame_count f) =
    words_in-frames_of f (frame_count f) (end_of f (frame_count f))
    (subst (λ (x : ℕ). IsStacked f (frame_count f) x) (sym all) sound.stacked) in
    omega (
      arith,
      length-stacks_bytes (reverse fs),
      length-reverse fs,
      words_in-reverse fs,
      count,
      words,
      all,
      sound.few,
      sound.height,
    )

-- What a file tells of a frame

pub many_locals : (s : Contents) (k count : ℕ) → count ≡ slice_index s.cells (16 + 7 * k + 4) → 15 < count
    → is_savable (length (memory_of s)) (frame_at s k) ≡ false
many_locals s k count is many =
    let f = slice_index s.cells in
    let at : 16 + 7 * k + 4 ≡ 20 + 7 * k = omega arith in
    and_left _ _ (and_left _ _ (and_left _ _ (lt-leb (length (frame_at s k).locals) 15
    (omega (arith, length-cells_from f (7023 + base_of f k) (local_count f k), is, ap f at)))))

pub many_arguments : (s : Contents) (k count : ℕ) → count ≡ slice_index s.cells (16 + 7 * k + 5) → 7 < count
    → is_savable (length (memory_of s)) (frame_at s k) ≡ false
many_arguments s k count is many =
    let f = slice_index s.cells in
    let at : 16 + 7 * k + 5 ≡ 21 + 7 * k = omega arith in
    and_left _ _ (and_left _ _ (and_right _ _ (lt-leb (frame_at s k).arguments 7 (omega (arith, is, ap f at)))))

pub far_address : (s : Contents) (k address : ℕ) → address ≡ long_at (slice_index s.cells) (16 + 7 * k + 2)
    → length (memory_of s) ≤ address → is_savable (length (memory_of s)) (frame_at s k) ≡ false
far_address s k address is far =
    let f = slice_index s.cells in
    let at : 16 + 7 * k + 2 ≡ 18 + 7 * k = omega arith in
    and_left _ _ (and_right _ _ (le-ltb (frame_at s k).return_address (length (memory_of s))
    (omega (arith, is, ap (λ (x : ℕ). long_at f x) at))))

pub many_words : (s : Contents) (k locals count : ℕ) → locals ≡ slice_index s.cells (16 + 7 * k + 4)
    → count ≡ end_of (slice_index s.cells) (k + 1) - (base_of (slice_index s.cells) k + locals)
    → 65536 ≤ count → is_savable (length (memory_of s)) (frame_at s k) ≡ false
many_words s k locals count is_locals is many =
    let f = slice_index s.cells in
    let at : 16 + 7 * k + 4 ≡ 20 + 7 * k = omega arith in
    let a : ℕ = base_of f k + local_count f k in
    and_right _ _ (le-ltb (length (frame_at s k).stack) 65536
    (omega (arith, length-cells_from f (7023 + a) (end_of f (k + 1) - a), is, is_locals, ap f at)))

-- what was read of a record, within the bounds of a file
pub record IsTold (s : Contents) (k address locals arguments cell words : ℕ) : Type 0 where
  pub is_address : address ≡ long_at (slice_index s.cells) (16 + 7 * k + 2)
  pub is_locals : locals ≡ slice_index s.cells (16 + 7 * k + 4)
  pub is_arguments : arguments ≡ slice_index s.cells (16 + 7 * k + 5)
  pub is_cell : cell ≡ slice_index s.cells (16 + 7 * k + 6)
  pub is_words : words ≡ end_of (slice_index s.cells) (k + 1) - (base_of (slice_index s.cells) k + locals)
  pub near : address < length (memory_of s)
  pub few_locals : locals ≤ 15
  pub few_arguments : arguments ≤ 7
  pub few_words : words < 65536

pub told : (s : Contents) (k address locals arguments cell words : ℕ) (variable : Option ℕ)
    → IsTold s k address locals arguments cell words → variable ≡ variable_of cell
    → IsHeadOf (length (memory_of s)) (frame_at s k)
    (Some (record {
      return_address = address;
      locals = locals;
      variable = variable;
      arguments = arguments;
      words = words;
    }))
told s k address locals arguments cell words variable t is_variable =
    let f = slice_index s.cells in
    let two : 16 + 7 * k + 2 ≡ 18 + 7 * k = omega arith in
    let four : 16 + 7 * k + 4 ≡ 20 + 7 * k = omega arith in
    let five : 16 + 7 * k + 5 ≡ 21 + 7 * k = omega arith in
    let six : 16 + 7 * k + 6 ≡ 22 + 7 * k = omega arith in
    let a : address ≡ (frame_at s k).return_address = t.is_address ∙ ap (λ (x : ℕ). long_at f x) two in
    let count : locals ≡ local_count f k = t.is_locals ∙ ap f four in
    let b : locals ≡ length (frame_at s k).locals =
    count ∙ sym (length-cells_from f (7023 + base_of f k) (local_count f k)) in
    let d : arguments ≡ (frame_at s k).arguments = t.is_arguments ∙ ap f five in
    let v : variable ≡ (frame_at s k).result = is_variable ∙ ap (λ (x : ℕ). variable_of x) (t.is_cell ∙ ap f six) in
    let bottom : ℕ = base_of f k + local_count f k in
    let w : words ≡ length (frame_at s k).stack =
    t.is_words ∙ ap (λ (x : ℕ). end_of f (k + 1) - (base_of f k + x)) count
    ∙ sym (length-cells_from f (7023 + bottom) (end_of f (k + 1) - bottom)) in (
      and_from _ _ (and_from _ _ (and_from _ _
          (le-leb (length (frame_at s k).locals) 15 (omega (arith, b, t.few_locals)))
          (le-leb (frame_at s k).arguments 7 (omega (arith, d, t.few_arguments))))
          (lt-ltb (frame_at s k).return_address (length (memory_of s)) (omega (arith, a, t.near))))
          (lt-ltb (length (frame_at s k).stack) 65536 (omega (arith, w, t.few_words))),
      λ i. record { return_address = a i; locals = b i; variable = v i; arguments = d i; words = w i },
    )

-- the words of the stack between two heights
pub words_between : (cells words : List ℕ) (from to : ℕ) → words ≡ take 72559 cells → from ≤ to → to ≤ 65536
    → 72559 ≤ length cells → take (7023 + to - (7023 + from)) (drop (7023 + from) words)
    ≡ cells_from (slice_index cells) (7023 + from) (to - from)
words_between cells words from to is order most long =
    let n : ℕ = 7023 + to - (7023 + from) in
    let a : ℕ = 7023 + from in
    let vs : List ℕ = take n (drop a words) in
    let all : length words ≡ 72559 = ap (λ (t : List ℕ). length t) is ∙ length-take-le 72559 cells long in
    let count : length vs ≡ n = length-take-le n (drop a words) (omega (arith, length-drop a words, all)) in
    let same : n ≡ to - from = omega arith in
    sym (cells_from_is (slice_index cells) a vs (λ k l.
    let inside : k < n = omega (arith, count, l) in
    sym (get_or-take n (drop a words) k 0 inside ∙ get_or-drop a words k 0 ∙ ap (λ (t : List ℕ). slice_index t (a + k)) is
    ∙ get_or-take 72559 cells (a + k) 0 (omega arith))))
    ∙ ap (λ (x : ℕ). cells_from (slice_index cells) a x) (count ∙ same)

-- where the words of a frame are, by its head
pub record HasWords (s : Contents) (k : ℕ) (head : FrameHead) : Type 0 where
  pub words : head.words + (base_of (slice_index s.cells) k + head.locals) ≡ end_of (slice_index s.cells) (k + 1)
  pub locals : head.locals ≡ local_count (slice_index s.cells) k
  pub most : end_of (slice_index s.cells) (k + 1) ≤ 65536

pub has_words : (s : Contents) (k : ℕ) (head : FrameHead) → IsSound s → k < frame_count (slice_index s.cells)
    → head ≡ head_for (frame_at s k) → HasWords s k head
has_words s k head sound lt is =
    let f = slice_index s.cells in
    let fit = frame_fits s k sound lt in
    let bottom : ℕ = base_of f k + local_count f k in
    let locals : head.locals ≡ local_count f k = ap (λ (h : FrameHead). h.locals) is
    ∙ length-cells_from f (7023 + base_of f k) (local_count f k) in
    let words : head.words ≡ end_of f (k + 1) - bottom = ap (λ (h : FrameHead). h.words) is
    ∙ length-cells_from f (7023 + bottom) (end_of f (k + 1) - bottom) in
    record { words = omega (arith, words, locals, fit.0); locals = locals; most = fit.1 }

stack_is : (s : Contents) (k top : ℕ) (head : FrameHead) (stack : List ℕ) → HasWords s k head
    → top ≡ end_of (slice_index s.cells) (k + 1)
    → stack ≡ cells_from (slice_index s.cells) (7023 + (top - head.words)) (top - (top - head.words))
    → stack ≡ (frame_at s k).stack
stack_is s k top head stack h is e =
    let f = slice_index s.cells in
    let bottom : top - head.words ≡ base_of f k + local_count f k = omega (arith, h.words, h.locals, is) in
    e ∙ ap (λ (x : ℕ). cells_from f (7023 + x) (top - x)) bottom
    ∙ ap (λ (x : ℕ). cells_from f (7023 + (base_of f k + local_count f k)) (x - (base_of f k + local_count f k))) is

pub main_stack : (s : Contents) (top : ℕ) (head : FrameHead) (stack : List ℕ) → IsSound s
    → head ≡ head_for (frame_at s 0) → top ≡ end_of (slice_index s.cells) 1
    → stack ≡ cells_from (slice_index s.cells) (7023 + (top - head.words)) (top - (top - head.words))
    → stack ≡ (frame_at s 0).stack
main_stack s top head stack sound same is e =
    stack_is s 0 top head stack (has_words s 0 head sound sound.some same) is e

pub frame_is : (s : Contents) (k top : ℕ) (head : FrameHead) (locals stack : List ℕ) → IsSound s
    → k < frame_count (slice_index s.cells) → head ≡ head_for (frame_at s k) → top ≡ end_of (slice_index s.cells) (k + 1)
    → locals ≡ cells_from (slice_index s.cells) (7023 + (top - head.words - head.locals))
    (top - head.words - (top - head.words - head.locals))
    → stack ≡ cells_from (slice_index s.cells) (7023 + (top - head.words)) (top - (top - head.words))
    → (let f : Frame = record {
      locals = locals;
      stack = stack;
      arguments = head.arguments;
      return_address = head.return_address;
      result = head.variable;
    } in f) ≡ frame_at s k
frame_is s k top head locals stack sound lt same is e_locals e_stack =
    let f = slice_index s.cells in
    let h = has_words s k head sound lt same in
    let base : top - head.words - head.locals ≡ base_of f k = omega (arith, h.words, is) in
    let count : top - head.words - base_of f k ≡ local_count f k = omega (arith, h.words, h.locals, is) in
    let own : locals ≡ (frame_at s k).locals =
    e_locals ∙ ap (λ (x : ℕ). cells_from f (7023 + x) (top - head.words - x)) base
    ∙ ap (λ (x : ℕ). cells_from f (7023 + base_of f k) x) count in
    let words : stack ≡ (frame_at s k).stack = stack_is s k top head stack h is e_stack in
    λ i. record {
      locals = own i;
      stack = words i;
      arguments = (same i).arguments;
      return_address = (same i).return_address;
      result = (same i).variable;
    }

-- what a frame keeps that a file can tell
pub record Bounded (size : ℕ) (head : FrameHead) : Type 0 where
  pub locals : head.locals ≤ 15
  pub arguments : head.arguments ≤ 7
  pub address : head.return_address < size
  pub words : head.words < 65536

four_parts : (p q r t : Bool) → (p && q && r && t) ≡ true → (p ≡ true) × (q ≡ true) × (r ≡ true) × (t ≡ true)
four_parts p q r t e =
    let a = and_parts (p && q && r) t e in
    let b = and_parts (p && q) r a.0 in
    let d = and_parts p q b.0 in
    (d.0, d.1, b.1, a.1)

pub bounded : (size : ℕ) (f : Frame) (head : FrameHead) → is_savable size f ≡ true → head ≡ head_for f
    → Bounded size head
bounded size f head is same =
    let h = four_parts (nat_le (length f.locals) 15) (nat_le f.arguments 7) (nat_lt f.return_address size)
    (nat_lt (length f.stack) 65536) is in
    let locals : head.locals ≡ length f.locals = ap (λ (x : FrameHead). x.locals) same in
    let arguments : head.arguments ≡ f.arguments = ap (λ (x : FrameHead). x.arguments) same in
    let address : head.return_address ≡ f.return_address = ap (λ (x : FrameHead). x.return_address) same in
    let words : head.words ≡ length f.stack = ap (λ (x : FrameHead). x.words) same in
    record {
      locals = omega (arith, leb-true (length f.locals) 15 h.0, locals);
      arguments = omega (arith, leb-true f.arguments 7 h.1, arguments);
      address = omega (arith, ltb-true f.return_address size h.2, address);
      words = omega (arith, ltb-true (length f.stack) 65536 h.3, words);
    }

-- the words of a frame that was read lie below its end
pub words_fit : (s : Contents) (k base locals top : ℕ) → IsSound s → k < frame_count (slice_index s.cells)
    → base ≡ long_at (slice_index s.cells) (16 + 7 * k) → locals ≡ slice_index s.cells (16 + 7 * k + 4)
    → top ≡ end_of (slice_index s.cells) (k + 1) → (base + locals ≤ top) × (top ≤ 65536)
words_fit s k base locals top sound lt is_base is_locals is_top =
    let f = slice_index s.cells in
    let at : 16 + 7 * k + 4 ≡ 20 + 7 * k = omega arith in
    let count : locals ≡ local_count f k = is_locals ∙ ap f at in
    let fit = frame_fits s k sound lt in
    (omega (arith, fit.0, is_base, count, is_top), omega (arith, fit.1, is_top))

pub same_words : (top end base first locals : ℕ) → top ≡ end → base ≡ first
    → top - (base + locals) ≡ end - (first + locals)
same_words top end base first locals is e = ap (λ (x : ℕ). x - (base + locals)) is ∙ ap (λ (x : ℕ). end - (x + locals)) e
