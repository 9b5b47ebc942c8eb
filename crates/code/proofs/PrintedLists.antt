-- Items, put together, that print no texts but a routine's own.
use Rattle.std.proofs.Common.{ℕ, ◌+◌, List, [], ◌∷◌, ◌++◌, Bool, true, false}
use Rattle.std.specs.Prelude.{if◌then◌else◌}
use Rattle.std.specs.List.{All}
use Rattle.std.proofs.lemmas.List.Elements.{All-nil, All-cons, All-append}
use Rattle.syntax_lexer.specs.Printable.{IsPrintable}
use Rattle.syntax_trees.specs.declared.tree.Step.{Step}
use Rattle.meaning.specs.declared.resolved.Variable.{Variable}
use Rattle.code_drafts.specs.Items.{Item, Operand, pushed, number, variable, Destination, push, into, aside, nowhere}
use Rattle.code_drafts.specs.Items.{if_pushed, move_items, truth_items, after_items, kept_items}
use Rattle.code_drafts.specs.Items as items

-- a text that an item prints has only bytes from 32 to 126
abbrev pub HasPrintableText : Item → Type 0
HasPrintableText (items.print_text bytes) = All IsPrintable bytes
HasPrintableText _ = Unit {0}

pub record Fine (xs : List Item) : Type 0 where
  pub all : All HasPrintableText xs

pub nothing : Fine []
nothing = record { all = All-nil HasPrintableText }

pub first : (i : Item) (xs : List Item) → HasPrintableText i → Fine xs → Fine (i ∷ xs)
first i xs h hs = record { all = All-cons HasPrintableText i xs h hs.all }

pub joined : (xs ys : List Item) → Fine xs → Fine ys → Fine (xs ++ ys)
joined xs ys hx hy = record { all = All-append HasPrintableText xs ys hx.all hy.all }

pub last : (xs : List Item) (i : Item) → Fine xs → HasPrintableText i → Fine (xs ++ i ∷ [])
last xs i hx h = joined xs (i ∷ []) hx (first i [] h nothing)

-- Lists that are put together

pub pushed_fine : (o : Operand) (xs : List Item) → Fine xs → Fine (if_pushed o xs [])
pushed_fine pushed xs h = h
pushed_fine (number n) xs h = nothing
pushed_fine (variable x) xs h = nothing

pub either_fine : (b : Bool) (xs ys : List Item) → Fine xs → Fine ys → Fine (if b then xs else ys)
either_fine true xs ys h k = h
either_fine false xs ys h k = k

pub moved_fine : (o : Operand) (d : Destination) → Fine (move_items o d)
moved_fine o push = first _ _ tt nothing
moved_fine o (into x) = first _ _ tt nothing
moved_fine o aside = first _ _ tt nothing
moved_fine o nowhere = nothing

pub truth_fine : (at count : ℕ) (d : Destination) (f : ℕ → List Item) → ((t : ℕ) → Fine (f t))
    → Fine (truth_items at count d f)
truth_fine at count push f h =
    joined (f (at + count + 2)) _ (h (at + count + 2)) (first _ _ tt (first _ _ tt (first _ _ tt nothing)))
truth_fine at count (into x) f h =
    joined (f (at + count + 2)) _ (h (at + count + 2)) (first _ _ tt (first _ _ tt (first _ _ tt nothing)))
truth_fine at count aside f h =
    joined (f (at + count + 2)) _ (h (at + count + 2)) (first _ _ tt (first _ _ tt (first _ _ tt nothing)))
truth_fine at count nowhere f h = h (at + count)

pub after_fine : (x : Variable) (op : Step) (d : Destination) → Fine (after_items x op d)
after_fine x op push = first _ _ tt (first _ _ tt nothing)
after_fine x op (into y) = first _ _ tt (first _ _ tt (first _ _ tt nothing))
after_fine x op aside = first _ _ tt (first _ _ tt (first _ _ tt nothing))
after_fine x op nowhere = first _ _ tt nothing

pub kept_fine : (x : Variable) (d : Destination) (xs ys : List Item) → Fine xs → Fine ys → Fine (kept_items x d xs ys)
kept_fine x push xs ys h k = last ys _ k tt
kept_fine x (into y) xs ys h k = joined ys _ k (first _ _ tt (first _ _ tt nothing))
kept_fine x aside xs ys h k = joined ys _ k (first _ _ tt (first _ _ tt nothing))
kept_fine x nowhere xs ys h k = h

pub two_fine : (oa ob : Operand) (xs ys zs : List Item) → Fine xs → Fine ys → Fine zs
    → Fine (if_pushed oa xs [] ++ (if_pushed ob ys [] ++ zs))
two_fine oa ob xs ys zs h k l =
    joined (if_pushed oa xs []) _ (pushed_fine oa xs h) (joined (if_pushed ob ys []) zs (pushed_fine ob ys k) l)
