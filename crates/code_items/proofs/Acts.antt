-- What comes after a part of a source as a function, and that no part gains units.
use Rattle.std.proofs.Common.{◌≡◌, ℕ, zero, suc, ◌+◌, ◌≤◌, List, [], ◌∷◌, ◌++◌, length, Bool, true, false, refl, ◌*◌}
use Rattle.std.proofs.Common.{sym, subst, arith}
use Rattle.std.specs.Prelude.{◌&&◌, nat_le, if◌then◌else◌, ◌==◌, codes}
use Rattle.zcore.specs.Arithmetic.{quotient, remainder}
use Rattle.zcore.specs.declared.place.Place.TheVariants as places
use Rattle.zcore.specs.declared.place.Limit.TheVariants as limits
use Rattle.zcore.specs.Parts.{transcribed}
use Rattle.zcore.specs.Layout.{text_limit}
use Rattle.syntax_trees.specs.declared.tree.Binary.{Binary}
use Rattle.syntax_trees.specs.declared.tree.Binary.TheVariants as binaries
use Rattle.syntax_trees.specs.declared.tree.Width.{Width}
use Rattle.meaning.specs.declared.cause.Cause.{Cause}
use Rattle.meaning.specs.declared.cause.Cause.TheVariants as causes
use Rattle.meaning.specs.World.{words_of, Outcome, Situation, Comes, to, over, Part, bound, ◌>>=◌, give, ended, ends}
use Rattle.meaning.specs.World.{put, fault, spend_from, spend, units, with_value, array_at, is_index, read_entry}
use Rattle.meaning.specs.World.{write_entry}
use Rattle.meaning.specs.declared.resolved.Variable.{Variable}
use Rattle.meaning.specs.declared.resolved.Variable.TheVariants as variables
use Rattle.meaning.specs.Meaning.{operate, is_character, put_character}
use Rattle.meaning.specs.Reading.{holds_letters, holds_words, next_line, read_next}
use Rattle.code_items.specs.Stack.{assigned_entry}

-- what a part comes to, handed to what comes next
abbrev pub hand : {A : Type 0} → Comes A → (A → Situation → Outcome) → Outcome
hand (to a s) k = k a s
hand (over outcome) k = outcome

pub hand_bound : {A B : Type 0} (c : Comes A) (f : A → Part B) (k : B → Situation → Outcome)
    → hand c (λ a s. hand (f a s) k) ≡ hand (bound c f) k
hand_bound (to a s) f k = refl
hand_bound (over outcome) f k = refl

pub bound_bound : {A B C : Type 0} (c : Comes A) (g : A → Part B) (h : B → Part C) → bound c (λ a s. bound (g a s) h)
    ≡ bound (bound c g) h
bound_bound (to a s) g h = refl
bound_bound (over outcome) g h = refl

-- parts that come to the same after the same
pub bound_alike : {A B : Type 0} (c : Comes A) (f g : A → Part B) → ((a : A) (s : Situation) → f a s ≡ g a s)
    → bound c f ≡ bound c g
bound_alike (to a s) f g e = e a s
bound_alike (over outcome) f g e = refl

-- what came of a part and one after it
pub record Came {A B : Type 0} (c : Comes A) (g : A → Part B) (b : B) (last : Situation) : Type 0 where
  pub first : A
  pub between : Situation
  pub is : c ≡ to first between
  pub then_is : g first between ≡ to b last

pub came : {A B : Type 0} (c : Comes A) (g : A → Part B) (b : B) (last : Situation) → bound c g
    ≡ to b last → Came c g b last
came (to a s) g b last e = record { first = a; between = s; is = refl; then_is = e }
came (over outcome) g b last e = absurd (cc)

module _ (full : ℕ) where
  -- the second has no more units than the first
  abbrev pub Lower : Situation → Situation → Type 0
  Lower s after = units full after.world ≤ units full s.world

  abbrev pub Kept : {A : Type 0} → Situation → Comes A → Type 0
  Kept s (to a after) = Lower s after
  Kept s (over outcome) = Unit {0}

  abbrev pub Keeps : {A : Type 0} → Part A → Type 0
  Keeps f = (s : Situation) → Kept s (f s)

  pub keeps_give : {A : Type 0} (a : A) → Keeps (give a)
  keeps_give a s = omega arith

  pub keeps_bound : {A B : Type 0} (f : Part A) (g : A → Part B) → Keeps f → ((a : A) → Keeps (g a)) → Keeps (f >>= g)
  keeps_bound f g hf hg s = go (f s) (hf s)
    where
      lower : {B : Type 0} (s after : Situation) (c : Comes B) → Lower s after → Kept after c → Kept s c
      lower s after (to b last) low kept = omega (arith, low, kept)
      lower s after (over outcome) low kept = tt

      go : (c : Comes _) → Kept s c → Kept s (bound c g)
      go (to a after) low = lower s after (g a after) low (hg a after)
      go (over outcome) low = tt

  kept_either : {A : Type 0} (b : Bool) (s : Situation) (c e : Comes A) → Kept s c → Kept s e
      → Kept s (if b then c else e)
  kept_either true s c e hc he = hc
  kept_either false s c e hc he = he

  pub keeps_put : (bytes : List ℕ) → Keeps (put bytes)
  keeps_put bytes s = kept_either (nat_le (length (s.world.text ++ bytes)) text_limit) s _ _ (omega arith) tt

  pub keeps_fault : (A : Type 0) (cause : Cause) → Keeps (fault {A = A} cause)
  keeps_fault A cause = let line = 10 ∷ codes "[Fault: " ++ words_of cause ++ codes "]" ++ 10 ∷ [] in
      keeps_bound (put line) (λ _. ends {A = A} places.Quit) (keeps_put line) (λ a s. tt)

  pub keeps_test : {A : Type 0} (b : Bool) (f g : Part A) → Keeps f → Keeps g → Keeps (if b then f else g)
  keeps_test true f g hf hg = hf
  keeps_test false f g hf hg = hg

  divides : (y z : ℕ) → Keeps (if y == 0 then fault causes.DivisionByZero else give z)
  divides y z = keeps_test (y == 0) (fault causes.DivisionByZero) (give z)
      (keeps_fault ℕ causes.DivisionByZero) (keeps_give z)

  pub keeps_operate : (op : Binary) (x y : ℕ) → Keeps (operate op x y)
  keeps_operate binaries.Divide x y s = divides y (quotient x y) s
  keeps_operate binaries.Remainder x y s = divides y (remainder x y) s
  keeps_operate binaries.AndAlso x y s = omega arith
  keeps_operate binaries.OrElse x y s = omega arith
  keeps_operate binaries.Add x y s = omega arith
  keeps_operate binaries.Subtract x y s = omega arith
  keeps_operate binaries.Multiply x y s = omega arith
  keeps_operate binaries.And x y s = omega arith
  keeps_operate binaries.Or x y s = omega arith

  pub keeps_read_entry : (width : Width) (a i : ℕ) → Keeps (read_entry width a i)
  keeps_read_entry width a i s = kept_either (is_index width (array_at s.world.arrays a) i) s _ _ (omega arith)
      (keeps_fault ℕ causes.IndexOutOfRange s)

  keeps_write_entry : (width : Width) (a i v : ℕ) → Keeps (write_entry width a i v)
  keeps_write_entry width a i v s = kept_either (is_index width (array_at s.world.arrays a) i) s _ _ (omega arith)
      (keeps_fault (Unit {0}) causes.IndexOutOfRange s)

  pub keeps_assigned_entry : (width : Width) (a i v : ℕ) → Keeps (assigned_entry width a i v)
  keeps_assigned_entry width a i v =
      keeps_bound (write_entry width a i v) (λ _. give v) (keeps_write_entry width a i v) (λ _. keeps_give v)

  pub keeps_put_character : (c : ℕ) → Keeps (put_character c)
  keeps_put_character c = keeps_test (is_character c) (put (transcribed c)) (fault causes.NotACharacter)
      (keeps_put (transcribed c)) (keeps_fault (Unit {0}) causes.NotACharacter)

  -- the next line brings the whole fuel, which was among the units before
  keeps_next_line : (number : ℕ → ℕ) (t q : ℕ) (s : Situation) (lines : List (List ℕ)) → s.world.lines ≡ lines
      → Kept s (next_line number full t q s lines)
  keeps_next_line number t q s [] e = tt
  keeps_next_line number t q s (line ∷ lines) e =
      subst (λ l. full + full * length lines ≤ s.world.fuel + full * length l) (sym e) (omega arith)

  pub keeps_read_next : (number : ℕ → ℕ) (t q : ℕ) → Keeps (read_next number full t q)
  keeps_read_next number t q s =
      kept_either (holds_letters (array_at s.world.arrays t) && holds_words (array_at s.world.arrays q)) s _ _
      (keeps_next_line number t q s s.world.lines refl) (keeps_fault (Unit {0}) causes.BufferTooSmall s)

  -- a variable is written, and a word is given
  pub keeps_write : (x : Variable) (v : ℕ) (s : Situation) → Lower s (with_value x v s)
  keeps_write (variables.Local i) v s = omega arith
  keeps_write (variables.Global g) v s = omega arith

  -- what spending does where a unit is left, and where none is
  pub spends : (s : Situation) (P : Comes (Unit {0}) → Type 0)
      → (s.world.fuel ≡ 0 → P (over (ended (places.Limit limits.Fuel) s.world)))
      → ((after : Situation) → units full after.world + 1 ≤ units full s.world → after.locals
      ≡ s.locals → P (to tt after)) → P (spend s)
  spends s P none some = go s.world.fuel refl
    where
      go : (fuel : ℕ) → s.world.fuel ≡ fuel → P (spend_from fuel s)
      go zero e = none e
      go (suc fuel) e = some (record s { world = record (s.world) { fuel = fuel } }) (omega (arith, e)) refl
