-- Items that read no line leave the lines to come and the texts of turns before as they were, and no run of items ends
-- in a machine fault.
use Rattle.std.proofs.Common.{arith, ◌≡◌, ℕ, zero, suc, List, [], ◌∷◌, length, Option, Some, None, Bool, true, false}
use Rattle.std.proofs.Common.{refl, subst}
use Rattle.std.specs.Prelude.{nat_lt, nat_le, if◌then◌else◌, slice_get, ◌&&◌, map}
use Rattle.zcore.specs.Arithmetic.{signed_text}
use Rattle.meaning.specs.Resolved.{ProgramOf}
use Rattle.meaning.specs.declared.cause.Cause.TheVariants as causes
use Rattle.meaning.specs.World.{Outcome, World, Situation, Part, put, shown, spend, spend_from, fault, array_at}
use Rattle.meaning.specs.World.{read_entry}
use Rattle.meaning.specs.Objects.{object_at}
use Rattle.meaning.specs.Meaning.{operate, put_character, put_line, routine_at}
use Rattle.meaning.specs.Places.{number_in}
use Rattle.meaning.specs.Reading.{holds_letters, holds_words, next_line}
use Rattle.code_drafts.specs.Items.{Item, Test}
use Rattle.code_drafts.specs.Items as items
use Rattle.code_items.specs.Statements.{routine_items}
use Rattle.code_items.specs.Stack as stack
use Rattle.code.proofs.KeptWorld.{NoFault, Kept, Keeps, is_read, Faultless, Bounded, KeepsBy, keeps_bounded}
use Rattle.code.proofs.KeptWorld.{keeps_faultless, faultless_by, same, put_keeps, fault_keeps, operate_keeps}
use Rattle.code.proofs.KeptWorld.{character_keeps, read_entry_keeps, assigned_entry_keeps, value_keeps, within_keeps}
use Rattle.code.proofs.KeptWorld.{after_keeps, delivered_keeps, gives_keeps, prints_keeps, operand_keeps, operands_keep}
use Rattle.code.proofs.KeptWorld.{aside_keeps, keep_keeps, first_keeps, also_keeps, below_keeps, keeps_from}
use Rattle.code.proofs.KeptByObjects.{object_keeps, property_keeps, property_word_keeps, assigned_property_keeps}
use Rattle.code.proofs.KeptByObjects.{assigned_property_word_keeps, attributes_keep, moves_keeps, begins_keeps}
use Rattle.code.proofs.KeptByObjects.{steps_keeps}

-- Jumps, calls and returns

spend_keeps : (fuel : ℕ) (s : Situation) → Kept s.world (spend_from fuel s)
spend_keeps zero s = λ cause e. absurd (cc)
spend_keeps (suc fuel) s = record { texts = refl; lines = refl; short = λ h. h }

forward_keeps : (target : ℕ) (s : stack.ItemState) → Keeps s.situation.world (stack.jump_forward target s)
forward_keeps target s = within_keeps s.situation.world (nat_lt s.place target) _ (same s.situation.world)

if_keeps : (w : World) (b : Bool) (n m : stack.Next) → Keeps w n → Keeps w m → Keeps w (if b then n else m)
if_keeps w true n m h g = h
if_keeps w false n m h g = g

branch_keeps : (b : Bool) (target : ℕ) (words : List ℕ) (s : stack.ItemState)
    → Keeps s.situation.world (stack.branch b target words s)
branch_keeps true target words s = forward_keeps target (record s { stack = words; put_aside = None })
branch_keeps false target words s = same s.situation.world

case_keeps : (aside : Option ℕ) (test : Test) (ns : List ℕ) (when : Bool) (target : ℕ) (s : stack.ItemState)
    → Keeps s.situation.world (stack.test_case aside test ns when target s)
case_keeps None test ns when target s = tt
case_keeps (Some v) test ns when target s = go (items.agrees (stack.holds test (v ∷ ns)) when)
  where
    go : (b : Bool) → Keeps s.situation.world (stack.by_case b target s)
    go true = forward_keeps target s
    go false = same s.situation.world

back_keeps : (target : ℕ) (s : stack.ItemState) → Keeps s.situation.world (stack.go_back target s)
back_keeps target s = if_keeps s.situation.world (nat_le target s.place) _ _
    (after_keeps s.situation.world (spend s.situation) _ (spend_keeps s.situation.world.fuel s.situation)
    (λ a t g. g))
    tt

pub enter_keeps : (p : ProgramOf) (r : ℕ) (arguments : List ℕ) (callers : List stack.Caller) (s : Situation)
    → Keeps s.world (stack.enter p r arguments callers s)
enter_keeps p r arguments callers s =
    if_keeps s.world (nat_lt (length callers) 1000) _ _ (after_keeps s.world (spend s) _ (spend_keeps s.world.fuel s)
    (λ a t g. g)) (λ cause e. absurd (cc))

-- a state that is entered, or a limit
pub enter_faultless : (p : ProgramOf) (r : ℕ) (arguments : List ℕ) (callers : List stack.Caller) (s : Situation)
    → Faultless (stack.enter p r arguments callers s)
enter_faultless p r arguments callers s =
    keeps_faultless s.world (stack.enter p r arguments callers s) (enter_keeps p r arguments callers s)

return_keeps : (callers : List stack.Caller) (v : ℕ) (w : World) → Keeps w (stack.return_to callers v w)
return_keeps [] v w = λ cause e. absurd (cc)
return_keeps (c ∷ callers) v w = delivered_keeps w c.destination v _ (same w)

-- A line

lines_bounded : (numbers : ℕ → ℕ) (full t q : ℕ) (lines : List (List ℕ)) (words : List ℕ) (s : stack.ItemState)
    → Bounded s.situation.world (stack.after_part (next_line numbers full t q s.situation lines)
    (λ _ situation. stack.goes (stack.after s words situation)))
lines_bounded numbers full t q [] words s = λ cause e. absurd (cc)
lines_bounded numbers full t q (line ∷ lines) words s = λ h. omega arith

read_bounded : (numbers : ℕ → ℕ) (full t q : ℕ) (words : List ℕ) (s : stack.ItemState) (b : Bool)
    → Bounded s.situation.world (stack.after_part
    (if b then next_line numbers full t q s.situation s.situation.world.lines
    else fault causes.BufferTooSmall s.situation) (λ _ situation. stack.goes (stack.after s words situation)))
read_bounded numbers full t q words s true = lines_bounded numbers full t q s.situation.world.lines words s
read_bounded numbers full t q words s false =
    keeps_bounded s.situation.world (stack.prints (fault causes.BufferTooSmall) words s)
    (prints_keeps (fault causes.BufferTooSmall) words s
    (fault_keeps (Unit {0}) causes.BufferTooSmall s.situation))

decides_keeps : (f : Part Bool) (when : Bool) (target : ℕ) (words : List ℕ) (s : stack.ItemState)
    → Kept s.situation.world (f s.situation) → Keeps s.situation.world (stack.decides f when target words s)
decides_keeps f when target words s h =
    after_keeps s.situation.world (f s.situation) _ h (λ so t g.
    keeps_from s.situation.world t.world _ g
    (branch_keeps (items.agrees so when) target words (record s { situation = t })))

branch_back_keeps : (so : Bool) (target : ℕ) (words : List ℕ) (s : stack.ItemState)
    → Keeps s.situation.world (stack.branch_back so target words s)
branch_back_keeps so target words s = go (nat_le target s.place) so
  where
    go : (b so : Bool) → Keeps s.situation.world (if b then (if so
        then stack.go_back target (record s { stack = words }) else stack.goes (stack.after s words s.situation))
        else stack.stuck)
    go false so = tt
    go true false = same s.situation.world
    go true true = back_keeps target (record s { stack = words })

pub act_keeps : (p : ProgramOf) (full : ℕ) (i : Item) (s : stack.ItemState)
    → KeepsBy (is_read i) s.situation.world (stack.act p full (Some i) s)
act_keeps p full (items.move o d) s = operand_keeps s.situation.world o s.situation s.stack _
    (λ v rest. delivered_keeps s.situation.world d v _ (same s.situation.world))
act_keeps p full (items.apply_prefix op o d) s =
    operand_keeps s.situation.world o s.situation s.stack _
    (λ v rest. delivered_keeps s.situation.world d _ _ (same s.situation.world))
act_keeps p full (items.operate op a b d) s =
    operand_keeps s.situation.world b s.situation s.stack _
    (λ y left. operand_keeps s.situation.world a s.situation left _
    (λ x rest. gives_keeps (operate op x y) d rest s (operate_keeps op x y s.situation)))
act_keeps p full (items.operate_aside op o d) s =
    aside_keeps s.situation.world s.put_aside _
    (λ y. operand_keeps s.situation.world o s.situation s.stack _
    (λ x rest. gives_keeps (operate op x y) d rest s (operate_keeps op x y s.situation)))
act_keeps p full (items.step op x d) s = delivered_keeps s.situation.world d _ _ (value_keeps x _ s.situation)
act_keeps p full (items.entry width n o d) s =
    operand_keeps s.situation.world o s.situation s.stack _
    (λ i rest. gives_keeps (read_entry width n i) d rest s (read_entry_keeps width n i s.situation))
act_keeps p full (items.entry_aside width n d) s =
    aside_keeps s.situation.world s.put_aside _
    (λ i. gives_keeps (read_entry width n i) d s.stack s (read_entry_keeps width n i s.situation))
act_keeps p full (items.assign_entry width n o q d) s =
    operand_keeps s.situation.world q s.situation s.stack _
    (λ v left. operand_keeps s.situation.world o s.situation left _
    (λ i rest. gives_keeps (stack.assigned_entry width n i v) d rest s
    (assigned_entry_keeps width n i v s.situation)))
act_keeps p full (items.assign_entry_aside width n o q d) s =
    aside_keeps s.situation.world s.put_aside _
    (λ y. operand_keeps s.situation.world q s.situation (y ∷ s.stack) _
    (λ v left. operand_keeps s.situation.world o s.situation left _
    (λ i rest. gives_keeps (stack.assigned_entry width n i v) d rest s
    (assigned_entry_keeps width n i v s.situation))))
act_keeps p full (items.relative r o d) s =
    operand_keeps s.situation.world o s.situation s.stack _
    (λ v rest. gives_keeps (stack.relative_to p r v) d rest s
    (object_keeps p v _ s.situation (λ t. same t.world)))
act_keeps p full (items.property o q d) s =
    operand_keeps s.situation.world o s.situation s.stack _
    (λ v rest. gives_keeps (stack.property_of p v q) d rest s (property_keeps p v q s.situation))
act_keeps p full (items.property_size o q d) s =
    operand_keeps s.situation.world o s.situation s.stack _
    (λ v rest. gives_keeps (stack.property_bytes p v q) d rest s
    (object_keeps p v _ s.situation (λ t. same t.world)))
act_keeps p full (items.property_word q o i d) s =
    operand_keeps s.situation.world i s.situation s.stack _
    (λ w left. operand_keeps s.situation.world o s.situation left _
    (λ v rest. gives_keeps (stack.word_of_property p q v w) d rest s (property_word_keeps p q v w s.situation)))
act_keeps p full (items.assign_property q o x d) s =
    operand_keeps s.situation.world x s.situation s.stack _
    (λ w left. operand_keeps s.situation.world o s.situation left _
    (λ v rest. gives_keeps (stack.assigned_property p q v w) d rest s
    (assigned_property_keeps p q v w s.situation)))
act_keeps p full (items.assign_property_word q o i x d) s =
    operand_keeps s.situation.world x s.situation s.stack _
    (λ w left. operand_keeps s.situation.world i s.situation left _
    (λ k more. operand_keeps s.situation.world o s.situation more _
    (λ v rest. gives_keeps (stack.assigned_property_word p q v k w) d rest s
    (assigned_property_word_keeps p q v k w s.situation))))
act_keeps p full (items.give o changes) s =
    operand_keeps s.situation.world o s.situation s.stack _
    (λ v rest. prints_keeps (stack.gives_attributes p v changes) rest s
    (object_keeps p v _ s.situation (λ t. attributes_keep v changes t)))
act_keeps p full (items.move_object o into) s =
    operand_keeps s.situation.world into s.situation s.stack _
    (λ w left. operand_keeps s.situation.world o s.situation left _
    (λ v rest. prints_keeps (stack.moves_object p v w) rest s (moves_keeps p v w s.situation)))
act_keeps p full (items.remove_object o) s =
    operand_keeps s.situation.world o s.situation s.stack _
    (λ v rest. prints_keeps (stack.removes_object p v) rest s
    (object_keeps p v _ s.situation (λ t. record { texts = refl; lines = refl; short = λ h. h })))
act_keeps p full (items.keep x) s = keep_keeps x s.stack s
act_keeps p full items.first_equal s = first_keeps s.stack s
act_keeps p full items.also_equal s = also_keeps s.stack s
act_keeps p full items.drop_below s = below_keeps s.stack s
act_keeps p full (items.print_text bytes) s =
    prints_keeps (put (map shown bytes)) s.stack s (put_keeps (map shown bytes) s.situation)
act_keeps p full (items.print_character o) s =
    operand_keeps s.situation.world o s.situation s.stack _
    (λ v rest. prints_keeps (put_character v) rest s (character_keeps v s.situation))
act_keeps p full (items.print_number o) s =
    operand_keeps s.situation.world o s.situation s.stack _
    (λ v rest. prints_keeps (put (signed_text v)) rest s (put_keeps (signed_text v) s.situation))
act_keeps p full (items.print_name o) s =
    operand_keeps s.situation.world o s.situation s.stack _
    (λ v rest. prints_keeps (stack.put_name p v) rest s
    (object_keeps p v _ s.situation (λ t. put_keeps (map shown (object_at p.objects v).name) t)))
act_keeps p full items.new_line s = prints_keeps put_line s.stack s (put_keeps (10 ∷ []) s.situation)
act_keeps p full (items.read_line t q) s =
    read_bounded (number_in p) full t q s.stack s
    (holds_letters (array_at s.situation.world.arrays t) && holds_words (array_at s.situation.world.arrays q))
act_keeps p full items.quit s = λ cause e. absurd (cc)
act_keeps p full (items.branch test os when target) s =
    operands_keep s.situation.world os s.situation s.stack _
    (λ vs rest. branch_keeps (items.agrees (stack.holds test vs) when) target rest s)
act_keeps p full (items.is_in o q when target) s =
    operand_keeps s.situation.world q s.situation s.stack _
    (λ w left. operand_keeps s.situation.world o s.situation left _
    (λ v rest. decides_keeps (stack.stands_in p v w) when target rest s
    (object_keeps p v _ s.situation (λ t. same t.world))))
act_keeps p full (items.has o n when target) s =
    operand_keeps s.situation.world o s.situation s.stack _
    (λ v rest. decides_keeps (stack.tested_attribute p v n) when target rest s
    (object_keeps p v _ s.situation (λ t. same t.world)))
act_keeps p full (items.provides o q when target) s =
    operand_keeps s.situation.world o s.situation s.stack _
    (λ v rest. decides_keeps (stack.is_provided p v q) when target rest s
    (object_keeps p v _ s.situation (λ t. same t.world)))
act_keeps p full (items.first_object x target) s =
    decides_keeps (stack.begins_objects p x) false target s.stack s (begins_keeps p x s.situation)
act_keeps p full (items.next_object x target) s =
    decides_keeps (stack.steps_object p x) false target s.stack s (steps_keeps p x s.situation)
act_keeps p full (items.case test ns when target) s = case_keeps s.put_aside test ns when target s
act_keeps p full (items.jump target) s = forward_keeps target s
act_keeps p full (items.back target) s = back_keeps target s
act_keeps p full (items.branch_back test os when target) s =
    operands_keep s.situation.world os s.situation s.stack _
    (λ vs rest. branch_back_keeps (items.agrees (stack.holds test vs) when) target rest s)
act_keeps p full (items.call r os d) s = operands_keep s.situation.world os s.situation s.stack _
    (λ vs rest. enter_keeps p r vs (stack.caller d rest s ∷ s.callers) s.situation)
act_keeps p full (items.call_aside r os d) s =
    aside_keeps s.situation.world s.put_aside _
    (λ v. operands_keep s.situation.world os s.situation (v ∷ s.stack) _
    (λ vs rest. enter_keeps p r vs (stack.caller d rest s ∷ s.callers) s.situation))
act_keeps p full (items.return o) s =
    operand_keeps s.situation.world o s.situation s.stack _ (λ v rest. return_keeps s.callers v s.situation.world)

-- Runs

pub from_no_fault : (n : stack.Next) (k : stack.ItemState → Option Outcome) (o : Outcome) → Faultless n
    → ((s : stack.ItemState) → k s ≡ Some o → NoFault o) → stack.from n k ≡ Some o → NoFault o
from_no_fault (stack.goes s) k o h next e = next s e
from_no_fault (stack.ends x) k o h next e = let is : x ≡ o = cc in subst NoFault is h
from_no_fault stack.stuck k o h next e = absurd (cc)

pub exec_no_fault : (p : ProgramOf) (full n : ℕ) (s : stack.ItemState) (o : Outcome) → stack.exec p full n s ≡ Some o
    → NoFault o
exec_no_fault p full zero s o e = absurd (cc)
exec_no_fault p full (suc n) s o e =
    go (slice_get (routine_items (routine_at p.routines s.routine)) s.place) (λ t f. exec_no_fault p full n t o f) e
  where
    go : (i : Option Item) → ((t : stack.ItemState) → stack.exec p full n t ≡ Some o → NoFault o)
        → stack.from (stack.act p full i s) (stack.exec p full n) ≡ Some o → NoFault o
    go None next f = absurd (cc)
    go (Some i) next f =
        from_no_fault (stack.act p full (Some i) s) (stack.exec p full n) o
        (faultless_by (is_read i) s.situation.world (stack.act p full (Some i) s) (act_keeps p full i s)) next f
