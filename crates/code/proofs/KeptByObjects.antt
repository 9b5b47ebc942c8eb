-- What is done with objects leaves the lines to come and the texts of turns before as they were.
use Rattle.std.proofs.Common.{◌+◌, ◌-◌, ℕ, List, [], ◌∷◌, length, Option, Some, None, Bool, true, refl}
use Rattle.std.specs.Prelude.{nat_lt, nat_le, slice_index, slice_set, ◌==◌, ◌&&◌}
use Rattle.meaning.specs.declared.resolved.Variable.{Variable}
use Rattle.meaning.specs.Resolved.{ProgramOf}
use Rattle.meaning.specs.declared.cause.Cause.TheVariants as causes
use Rattle.meaning.specs.World.{Situation, Part, bound, value_in, give, is_object, test_object, test_single, test_word}
use Rattle.meaning.specs.World.{test_provided, single_word, write_words, write_variable, give_attribute, move_by}
use Rattle.meaning.specs.World.{move_object}
use Rattle.meaning.specs.Objects.{Climbed, clear, inside, spent, climb}
use Rattle.meaning.specs.Meaning.{give_all}
use Rattle.code_items.specs.Stack as stack
use Rattle.code.proofs.KeptWorld.{Kept, same, bound_keeps, fault_keeps, tested_keeps, value_keeps}

-- Objects

test_keeps : (p : ProgramOf) (o : ℕ) (s : Situation) → Kept s.world (test_object (length p.objects) o s)
test_keeps p o s = tested_keeps (is_object (length p.objects) o) _ _ s (same s.world)
    (fault_keeps (Unit {0}) causes.NotAnObject s)

-- a part after the test of an object
pub object_keeps : {A : Type 0} (p : ProgramOf) (o : ℕ) (f : Part A) (s : Situation)
    → ((t : Situation) → Kept t.world (f t)) → Kept s.world (bound (test_object (length p.objects) o s) (λ _. f))
object_keeps p o f s h = bound_keeps s.world (test_object (length p.objects) o s) (λ _. f) (test_keeps p o s)
    (λ _ t. h t)

single_keeps : (words : List ℕ) (s : Situation) → Kept s.world (test_single words s)
single_keeps words s = tested_keeps (length words == 1) _ _ s (same s.world)
    (fault_keeps (Unit {0}) causes.PropertyOfManyWords s)

word_keeps : (i : ℕ) (words : List ℕ) (s : Situation) → Kept s.world (test_word i words s)
word_keeps i words s = tested_keeps (nat_lt i 32768 && nat_lt i (length words)) _ _ s (same s.world)
    (fault_keeps (Unit {0}) causes.IndexOutOfRange s)

provided_keeps : (words : Option (List ℕ)) (s : Situation) → Kept s.world (test_provided words s)
provided_keeps None s = fault_keeps (List ℕ) causes.NoSuchProperty s
provided_keeps (Some words) s = same s.world

single_word_keeps : (default : ℕ) (words : Option (List ℕ)) (s : Situation) → Kept s.world (single_word default words s)
single_word_keeps default None s = same s.world
single_word_keeps default (Some words) s =
    bound_keeps s.world (test_single words s) _ (single_keeps words s) (λ _ t. same t.world)

written_keeps : (o q : ℕ) (words : List ℕ) (s : Situation) → Kept s.world (write_words o q words s)
written_keeps o q words s = record { texts = refl; lines = refl; short = λ h. h }

pub property_keeps : (p : ProgramOf) (o q : ℕ) (s : Situation) → Kept s.world (stack.property_of p o q s)
property_keeps p o q s = object_keeps p o _ s (λ t.
    single_word_keeps (slice_index p.defaults (q - 1)) (t.world.objects.properties o q) t)

-- what is done with the words of a property that is provided
words_keep : {A : Type 0} (p : ProgramOf) (o q : ℕ) (f : List ℕ → Part A) (s : Situation)
    → ((words : List ℕ) (t : Situation) → Kept t.world (f words t))
    → Kept s.world (bound (test_object (length p.objects) o s) (λ _ t.
    bound (test_provided (t.world.objects.properties o q) t) f))
words_keep p o q f s h = object_keeps p o _ s (λ t.
    bound_keeps t.world (test_provided (t.world.objects.properties o q) t) f
    (provided_keeps (t.world.objects.properties o q) t) h)

pub property_word_keeps : (p : ProgramOf) (q o i : ℕ) (s : Situation) → Kept s.world (stack.word_of_property p q o i s)
property_word_keeps p q o i s = words_keep p o q _ s (λ words t.
    bound_keeps t.world (test_word i words t) _ (word_keeps i words t) (λ _ u. same u.world))

pub assigned_property_keeps : (p : ProgramOf) (q o x : ℕ) (s : Situation)
    → Kept s.world (stack.assigned_property p q o x s)
assigned_property_keeps p q o x s = words_keep p o q _ s (λ words t.
    bound_keeps t.world (test_single words t) _ (single_keeps words t) (λ _ u.
    bound_keeps u.world (write_words o q (x ∷ []) u) (λ _. give x) (written_keeps o q (x ∷ []) u)
    (λ _ v. same v.world)))

pub assigned_property_word_keeps : (p : ProgramOf) (q o i x : ℕ) (s : Situation)
    → Kept s.world (stack.assigned_property_word p q o i x s)
assigned_property_word_keeps p q o i x s = words_keep p o q _ s (λ words t.
    bound_keeps t.world (test_word i words t) _ (word_keeps i words t) (λ _ u.
    bound_keeps u.world (write_words o q (slice_set words i x) u) (λ _. give x)
    (written_keeps o q (slice_set words i x) u) (λ _ v. same v.world)))

pub attributes_keep : (o : ℕ) (changes : List (Bool × ℕ)) (s : Situation) → Kept s.world (give_all o changes s)
attributes_keep o [] s = same s.world
attributes_keep o (x ∷ xs) s =
    bound_keeps s.world (give_attribute o x.1 x.0 s) (λ _. give_all o xs)
    (record { texts = refl; lines = refl; short = λ h. h }) (λ _ t. attributes_keep o xs t)

moved_keeps : (o into : ℕ) (climbed : Climbed) (s : Situation) → Kept s.world (move_by o into climbed s)
moved_keeps o into (clear fuel) s = record { texts = refl; lines = refl; short = λ h. h }
moved_keeps o into inside s = fault_keeps (Unit {0}) causes.ObjectInsideItself s
moved_keeps o into spent s = λ cause e. absurd (cc)

pub moves_keeps : (p : ProgramOf) (o x : ℕ) (s : Situation) → Kept s.world (stack.moves_object p o x s)
moves_keeps p o x s = object_keeps p o _ s (λ t. object_keeps p x (move_object o x) t (λ u.
    moved_keeps o x (climb u.world.objects.tree.parent o x u.world.fuel) u))

pub begins_keeps : (p : ProgramOf) (x : Variable) (s : Situation) → Kept s.world (stack.begins_objects p x s)
begins_keeps p x s = tested_keeps (length p.objects == 0) _ _ s (same s.world)
    (bound_keeps s.world (write_variable x 1 s) (λ _. give true) (value_keeps x 1 s) (λ _ t. same t.world))

pub steps_keeps : (p : ProgramOf) (x : Variable) (s : Situation) → Kept s.world (stack.steps_object p x s)
steps_keeps p x s = tested_keeps (nat_le 1 (value_in x s) && nat_lt (value_in x s) (length p.objects)) _ _ s
    (bound_keeps s.world (write_variable x (value_in x s + 1) s) (λ _. give true)
    (value_keeps x (value_in x s + 1) s) (λ _ t. same t.world)) (same s.world)
