-- Parts of items that leave the lines to come and the texts of turns before as they were.
use Rattle.std.proofs.Common.{◌≤◌, ◌≡◌, ◌≢◌, ℕ, List, [], ◌∷◌, ◌++◌, length, Option, Some, None, Bool, true, false, refl, ◌∙◌}
use Rattle.std.specs.Prelude.{nat_le, if◌then◌else◌, ◌==◌, ◌||◌}
use Rattle.std.proofs.lemmas.Bool.{leb-true}
use Rattle.zcore.specs.Parts.{transcribed}
use Rattle.zcore.specs.Layout.{text_limit}
use Rattle.zcore.specs.declared.place.Fault.{Fault}
use Rattle.zcore.specs.declared.place.Place.TheVariants as places
use Rattle.syntax_trees.specs.declared.tree.Binary.{Binary}
use Rattle.syntax_trees.specs.declared.tree.Binary.TheVariants as binaries
use Rattle.syntax_trees.specs.declared.tree.Width.{Width}
use Rattle.meaning.specs.declared.resolved.Variable.{Variable}
use Rattle.meaning.specs.declared.resolved.Variable.TheVariants as variables
use Rattle.meaning.specs.declared.cause.Cause.{Cause}
use Rattle.meaning.specs.declared.cause.Cause.TheVariants as causes
use Rattle.meaning.specs.World.{Outcome, World, Situation, Comes, to, over, Part, bound, put, fault, value_in}
use Rattle.meaning.specs.World.{with_value, give, array_at, is_index, read_entry, write_entry}
use Rattle.meaning.specs.Meaning.{operate, put_character, is_character, truth, is_true}
use Rattle.code_drafts.specs.Items.{Item, Operand, Destination}
use Rattle.code_drafts.specs.Items as items
use Rattle.code_items.specs.Stack as stack

-- lines and texts are the same, and the turn has printed no more than it may, if it had not before
pub record Same (w v : World) : Type 0 where
  pub texts : v.texts ≡ w.texts
  pub lines : v.lines ≡ w.lines
  pub short : length w.text ≤ text_limit → length v.text ≤ text_limit

abbrev pub NoFault : Outcome → Type 0
NoFault o = (cause : Fault) → o.place ≢ places.Fault cause

abbrev pub Kept : {A : Type 0} → World → Comes A → Type 0
Kept w (to a s) = Same w s.world
Kept w (over o) = NoFault o

abbrev pub Keeps : World → stack.Next → Type 0
Keeps w (stack.goes s) = Same w s.situation.world
Keeps w (stack.ends o) = NoFault o
Keeps w stack.stuck = Unit {0}

-- whether an item reads a line
abbrev pub is_read : Item → Bool
is_read (items.read_line t q) = true
is_read _ = false

abbrev pub Faultless : stack.Next → Type 0
Faultless (stack.goes s) = Unit {0}
Faultless (stack.ends o) = NoFault o
Faultless stack.stuck = Unit {0}

-- a turn that begins has printed no more than it may
abbrev pub Bounded : World → stack.Next → Type 0
Bounded w (stack.goes s) = length w.text ≤ text_limit → length s.situation.world.text ≤ text_limit
Bounded w (stack.ends o) = NoFault o
Bounded w stack.stuck = Unit {0}

abbrev pub KeepsBy : Bool → World → stack.Next → Type 0
KeepsBy true w n = Bounded w n
KeepsBy false w n = Keeps w n

pub keeps_bounded : (w : World) (n : stack.Next) → Keeps w n → Bounded w n
keeps_bounded w (stack.goes s) h = h.short
keeps_bounded w (stack.ends o) h = h
keeps_bounded w stack.stuck h = tt

bounded_faultless : (w : World) (n : stack.Next) → Bounded w n → Faultless n
bounded_faultless w (stack.goes s) h = tt
bounded_faultless w (stack.ends o) h = h
bounded_faultless w stack.stuck h = tt

pub keeps_faultless : (w : World) (n : stack.Next) → Keeps w n → Faultless n
keeps_faultless w (stack.goes s) h = tt
keeps_faultless w (stack.ends o) h = h
keeps_faultless w stack.stuck h = tt

pub faultless_by : (b : Bool) (w : World) (n : stack.Next) → KeepsBy b w n → Faultless n
faultless_by true w n h = bounded_faultless w n h
faultless_by false w n h = keeps_faultless w n h

pub same : (w : World) → Same w w
same w = record { texts = refl; lines = refl; short = λ h. h }

then_same : (u v w : World) → Same u v → Same v w → Same u w
then_same u v w a b =
    record { texts = b.texts ∙ a.texts; lines = b.lines ∙ a.lines; short = λ h. b.short (a.short h) }

-- Parts

put_by : (bytes : List ℕ) (s : Situation) (o : Outcome) → NoFault o → (fits : Bool)
    → nat_le (length (s.world.text ++ bytes)) text_limit ≡ fits
    → Kept {A = Unit {0}} s.world (if fits then to tt (record s {
      world =
          record (s.world) { text = s.world.text ++ bytes };
    }) else over o)
put_by bytes s o none true e = record { texts = refl; lines = refl; short = λ h. leb-true _ _ e }
put_by bytes s o none false e = none

pub put_keeps : (bytes : List ℕ) (s : Situation) → Kept s.world (put bytes s)
put_keeps bytes s =
    put_by bytes s _ (λ cause e. absurd (cc)) (nat_le (length (s.world.text ++ bytes)) text_limit) refl

-- a part and then another
pub bound_keeps : {A B : Type 0} (w : World) (c : Comes A) (k : A → Part B) → Kept w c
    → ((a : A) (s : Situation) → Kept s.world (k a s)) → Kept w (bound c k)
bound_keeps {A} {B} w (to a s) k h next = go (k a s) (next a s)
  where
    go : (c : Comes B) → Kept s.world c → Kept w c
    go (to b t) g = then_same w s.world t.world h g
    go (over o) g = g
bound_keeps w (over o) k h next = h

pub fault_keeps : (A : Type 0) (why : Cause) (s : Situation) → Kept {A = A} s.world (fault why s)
fault_keeps A why s = bound_keeps s.world (put _ s) _ (put_keeps _ s) (λ a t. λ cause e. absurd (cc))

-- a test between two parts
pub tested_keeps : {A : Type 0} (b : Bool) (c d : Part A) (s : Situation) → Kept s.world (c s) → Kept s.world (d s)
    → Kept s.world ((if b then c else d) s)
tested_keeps true c d s h g = h
tested_keeps false c d s h g = g

pub operate_keeps : (op : Binary) (x y : ℕ) (s : Situation) → Kept s.world (operate op x y s)
operate_keeps binaries.AndAlso x y s = same s.world
operate_keeps binaries.OrElse x y s = same s.world
operate_keeps binaries.Add x y s = same s.world
operate_keeps binaries.Subtract x y s = same s.world
operate_keeps binaries.Multiply x y s = same s.world
operate_keeps binaries.Divide x y s =
    tested_keeps (y == 0) _ _ s (fault_keeps ℕ causes.DivisionByZero s) (same s.world)
operate_keeps binaries.Remainder x y s =
    tested_keeps (y == 0) _ _ s (fault_keeps ℕ causes.DivisionByZero s) (same s.world)
operate_keeps binaries.And x y s = same s.world
operate_keeps binaries.Or x y s = same s.world

pub character_keeps : (c : ℕ) (s : Situation) → Kept s.world (put_character c s)
character_keeps c s = tested_keeps (is_character c) _ _ s (put_keeps (transcribed c) s)
    (fault_keeps (Unit {0}) causes.NotACharacter s)

-- one of two ends of a part
either_keeps : {A : Type 0} (w : World) (b : Bool) (c d : Comes A) → Kept w c → Kept w d
    → Kept w (if b then c else d)
either_keeps w true c d h g = h
either_keeps w false c d h g = g

pub read_entry_keeps : (width : Width) (n i : ℕ) (s : Situation) → Kept s.world (read_entry width n i s)
read_entry_keeps width n i s =
    either_keeps s.world (is_index width (array_at s.world.arrays n) i) _ _ (same s.world)
    (fault_keeps ℕ causes.IndexOutOfRange s)

write_entry_keeps : (width : Width) (n i v : ℕ) (s : Situation) → Kept s.world (write_entry width n i v s)
write_entry_keeps width n i v s =
    either_keeps s.world (is_index width (array_at s.world.arrays n) i) _ _
    (record { texts = refl; lines = refl; short = λ h. h }) (fault_keeps (Unit {0}) causes.IndexOutOfRange s)

pub assigned_entry_keeps : (width : Width) (n i v : ℕ) (s : Situation)
    → Kept s.world (stack.assigned_entry width n i v s)
assigned_entry_keeps width n i v s =
    bound_keeps s.world (write_entry width n i v s) (λ _. give v) (write_entry_keeps width n i v s)
    (λ _ t. same t.world)

pub value_keeps : (x : Variable) (v : ℕ) (s : Situation) → Same s.world (with_value x v s).world
value_keeps (variables.Local i) v s = same s.world
value_keeps (variables.Global g) v s = record { texts = refl; lines = refl; short = λ h. h }

pub within_keeps : (w : World) (b : Bool) (s : stack.ItemState) → Same w s.situation.world
    → Keeps w (if b then stack.goes s else stack.stuck)
within_keeps w true s h = h
within_keeps w false s h = tt

pub after_keeps : {A : Type 0} (w : World) (c : Comes A) (k : A → Situation → stack.Next) → Kept w c
    → ((a : A) (t : Situation) → Same w t.world → Keeps w (k a t)) → Keeps w (stack.after_part c k)
after_keeps w (to a s) k h next = next a s h
after_keeps w (over o) k h next = h

pub delivered_keeps : (w : World) (d : Destination) (v : ℕ) (s : stack.ItemState) → Same w s.situation.world
    → Keeps w (stack.deliver d v s)
delivered_keeps w items.push v s h = within_keeps w (nat_le (length (v ∷ s.stack)) 48) _ h
delivered_keeps w (items.into x) v s h =
    then_same w s.situation.world (with_value x v s.situation).world h (value_keeps x v s.situation)
delivered_keeps w items.aside v s h = h
delivered_keeps w items.nowhere v s h = h

pub gives_keeps : (f : Part ℕ) (d : Destination) (words : List ℕ) (s : stack.ItemState)
    → Kept s.situation.world (f s.situation)
    → Keeps s.situation.world (stack.gives f d words s)
gives_keeps f d words s h =
    after_keeps s.situation.world (f s.situation) _ h (λ v t g. delivered_keeps s.situation.world d v _ g)

pub prints_keeps : (f : Part (Unit {0})) (words : List ℕ) (s : stack.ItemState) → Kept s.situation.world (f s.situation)
    → Keeps s.situation.world (stack.prints f words s)
prints_keeps f words s h = after_keeps s.situation.world (f s.situation) _ h (λ v t g. g)

pub operand_keeps : (w : World) (o : Operand) (s : Situation) (words : List ℕ) (k : ℕ → List ℕ → stack.Next)
    → ((v : ℕ) (rest : List ℕ) → Keeps w (k v rest)) → Keeps w (stack.with_operand o s words k)
operand_keeps w items.pushed s [] k h = tt
operand_keeps w items.pushed s (v ∷ words) k h = h v words
operand_keeps w (items.number n) s words k h = h n words
operand_keeps w (items.variable x) s words k h = h (value_in x s) words

pub operands_keep : (w : World) (os : List Operand) (s : Situation) (words : List ℕ) (k : List ℕ → List ℕ → stack.Next)
    → ((vs rest : List ℕ) → Keeps w (k vs rest)) → Keeps w (stack.with_operands os s words k)
operands_keep w [] s words k h = h [] words
operands_keep w (o ∷ os) s words k h =
    operands_keep w os s words (λ vs rest. stack.with_operand o s rest (λ v left. k (v ∷ vs) left))
    (λ vs rest. operand_keeps w o s rest (λ v left. k (v ∷ vs) left) (λ v left. h (v ∷ vs) left))

pub aside_keeps : (w : World) (aside : Option ℕ) (k : ℕ → stack.Next) → ((v : ℕ) → Keeps w (k v))
    → Keeps w (stack.with_aside aside k)
aside_keeps w None k h = tt
aside_keeps w (Some v) k h = h v

pub keep_keeps : (x : Variable) (words : List ℕ) (s : stack.ItemState) → Keeps s.situation.world (stack.keep x words s)
keep_keeps x [] s = tt
keep_keeps x (v ∷ words) s =
    within_keeps s.situation.world (nat_le (length (v ∷ words)) 48) _ (value_keeps x v s.situation)

pub first_keeps : (words : List ℕ) (s : stack.ItemState) → Keeps s.situation.world (stack.first_equal words s)
first_keeps [] s = tt
first_keeps (y ∷ []) s = tt
first_keeps (y ∷ x ∷ words) s =
    within_keeps s.situation.world (nat_le (length (truth (x == y) ∷ x ∷ words)) 48) _ (same s.situation.world)

pub also_keeps : (words : List ℕ) (s : stack.ItemState) → Keeps s.situation.world (stack.also_equal words s)
also_keeps [] s = tt
also_keeps (y ∷ []) s = tt
also_keeps (y ∷ f ∷ []) s = tt
also_keeps (y ∷ f ∷ x ∷ words) s = within_keeps s.situation.world
    (nat_le (length (truth (is_true f || x == y) ∷ x ∷ words)) 48) _ (same s.situation.world)

pub below_keeps : (words : List ℕ) (s : stack.ItemState) → Keeps s.situation.world (stack.drop_below words s)
below_keeps [] s = tt
below_keeps (y ∷ []) s = tt
below_keeps (y ∷ x ∷ words) s =
    within_keeps s.situation.world (nat_le (length (y ∷ words)) 48) _ (same s.situation.world)

pub keeps_from : (u v : World) (n : stack.Next) → Same u v → Keeps v n → Keeps u n
keeps_from u v (stack.goes s) h k = then_same u v s.situation.world h k
keeps_from u v (stack.ends o) h k = k
keeps_from u v stack.stuck h k = tt
