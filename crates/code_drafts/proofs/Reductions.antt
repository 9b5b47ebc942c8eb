-- What is written for a word, and for a condition.
use Rattle.std.proofs.Common.{◌≡◌, ℕ, ◌+◌, ◌-◌, List, [], ◌∷◌, ◌++◌, length, Bool, true, refl, sym, ap, ◌∙◌, arith}
use Rattle.syntax_trees.specs.declared.tree.Step.{Step}
use Rattle.meaning.specs.declared.resolved.Variable.{Variable}
use Rattle.meaning.specs.Resolved as source
use Rattle.code_drafts.specs.Items.{Item, pushed, number, variable, Destination, push, into, aside, nowhere}
use Rattle.code_drafts.specs.Items.{branch_true, value_count, branch_count, branch_items}
use Rattle.code_drafts.specs.Items as items
use Rattle.code_drafts.specs.Code.{as_destination}
use Rattle.code_drafts.specs.declared.item.Destination as code
use Rattle.code_drafts.specs.declared.item.Destination.TheVariants as destinations
use Rattle.code_drafts.specs.declared.wanted.Wanted.{Wanted}
use Rattle.code_drafts.specs.declared.wanted.Wanted.TheVariants.{Word, Branch}
use Rattle.code_drafts.specs.Writing.{wanted_items, ReducesWord, ReducesTruth, ReducesChoice, WritesBefore}
use Rattle.code_drafts.proofs.Counts.{value_length, branch_length}
use Rattle.code_drafts.proofs.WrittenItems.{one, counted, both, as_items, then_one, after_one}

pub word_wanted : (c : List Item) (d : code.Destination) → ReducesWord c c (Word d) (as_destination d)
word_wanted c d v isw = record { with_rest = λ end w. w }

pub word_branches : (c c1 : List Item) (when : Bool) (left : ℕ) → c1 ≡ c ++ branch_true pushed when left ∷ []
    → ReducesWord c c1 (Branch when left) push
word_branches c c1 when left e v isw = record {
  with_rest = λ end w. as_items (λ n at _. sym (isw at (n - left) when))
      (after_one (value_count v push) (branch_true pushed when left) (λ n at. value_length v push at) e w);
}

pub truth_wanted : (c : List Item) (when : Bool) (left : ℕ) → ReducesTruth c c (Branch when left) when left
truth_wanted c when left v isc = record { with_rest = λ end w. w }

pub truth_nowhere : (c : List Item) (end : ℕ) → end ≡ length c → ReducesTruth c c (Word destinations.Nowhere) true end
truth_nowhere c end e v isc = record {
  with_rest = λ c1 w.
      let l = counted (branch_count v true) (λ n at. branch_length v true at (n - end)) w in
      as_items (λ n at h. let t : n - end ≡ at + branch_count v true = omega (arith, h, l, e) in
      ap (λ t. branch_items at v true t) t ∙ sym (isc at nowhere)) w;
}

-- 0, a jump and 1
pub chosen : (c c1 c2 c3 : List Item) (d : Destination) (end left : ℕ) → end ≡ length c → c1
    ≡ c ++ items.move (number 1) d ∷ [] → left ≡ length c1 → c2 ≡ c1 ++ items.jump end ∷ [] → c3
    ≡ c2 ++ items.move (number 0) d ∷ []
    → ReducesChoice c c3 d left
chosen c c1 c2 c3 d end left e0 e1 el e2 e3 v =
    let k = branch_count v true in
    let w1 = one c c1 (items.move (number 1) d) e1 in
    let w3 = then_one (items.move (number 0) d) (then_one (items.jump end) w1 e2) e3 in
    let l1 = counted 1 (λ n at. refl) w1 in
    let l3 = counted 3 (λ n at. refl) w3 in
    record {
      with_rest = λ c4 w.
          let l4 = counted k (λ n at. branch_length v true at (n - left)) w in
          as_items (λ n at h.
          let t : n - left ≡ at + k + 2 = omega (arith, h, l1, l3, l4, el) in
          let j : n - end ≡ at + k + 3 = omega (arith, h, l3, l4, e0) in
          ap (λ t. branch_items at v true t ++ items.move (number 0) d ∷ items.jump (n - end) ∷ items.move
          (number 1) d ∷ []) t
          ∙ ap (λ j. branch_items at v true (at + k + 2) ++ items.move (number 0) d ∷ items.jump j ∷ items.move
          (number 1) d ∷ []) j)
          (both k (λ n at. branch_length v true at (n - left)) w3 w);
    }

pub truth_pushed : (c c1 : List Item) (left : ℕ) → ReducesChoice c c1 push left
    → ReducesTruth c c1 (Word destinations.Push) true left
truth_pushed c c1 left r v isc =
    record { with_rest = λ end w. as_items (λ n at _. sym (isc at push)) ((r v).with_rest end w) }

pub truth_kept : (c c1 : List Item) (x : Variable) (left : ℕ) → ReducesChoice c c1 (into x) left
    → ReducesTruth c c1 (Word (destinations.Into x)) true left
truth_kept c c1 x left r v isc =
    record { with_rest = λ end w. as_items (λ n at _. sym (isc at (into x))) ((r v).with_rest end w) }

pub truth_aside : (c c1 : List Item) (left : ℕ) → ReducesChoice c c1 aside left
    → ReducesTruth c c1 (Word destinations.Aside) true left
truth_aside c c1 left r v isc =
    record { with_rest = λ end w. as_items (λ n at _. sym (isc at aside)) ((r v).with_rest end w) }

-- a variable that is stepped, and its old word

pub stepped_nowhere : (c c1 c2 : List Item) (wanted : Wanted) (x : Variable) (op : Step)
    → ReducesWord c c1 wanted nowhere → c2 ≡ c1 ++ items.step op x nowhere ∷ []
    → WritesBefore c c2 (wanted_items wanted (source.step_after x op))
stepped_nowhere c c1 c2 wanted x op r e = (r (source.step_after x op) (λ at t when. refl)).with_rest c2
    (one c1 c2 _ e)

pub stepped_pushed : (c c1 c2 c3 : List Item) (wanted : Wanted) (x : Variable) (op : Step)
    → ReducesWord c c1 wanted push → c2 ≡ c1 ++ items.step op x nowhere ∷ [] → c3
    ≡ c2 ++ items.move (variable x) push ∷ []
    → WritesBefore c c3 (wanted_items wanted (source.step_after x op))
stepped_pushed c c1 c2 c3 wanted x op r e2 e3 = (r (source.step_after x op) (λ at t when. refl)).with_rest c3
    (then_one _ (one c1 c2 _ e2) e3)

pub stepped_kept : (c c1 c2 c3 c4 : List Item) (wanted : Wanted) (x y : Variable) (op : Step)
    → ReducesWord c c1 wanted (into y) → c2 ≡ c1 ++ items.move pushed (into y) ∷ [] → c3
    ≡ c2 ++ items.step op x nowhere ∷ []
    → c4 ≡ c3 ++ items.move (variable x) push ∷ [] → WritesBefore c c4 (wanted_items wanted (source.step_after x op))
stepped_kept c c1 c2 c3 c4 wanted x y op r e2 e3 e4 = (r (source.step_after x op) (λ at t when. refl)).with_rest c4
    (then_one _ (then_one _ (one c1 c2 _ e2) e3) e4)

pub stepped_aside : (c c1 c2 c3 c4 : List Item) (wanted : Wanted) (x : Variable) (op : Step)
    → ReducesWord c c1 wanted aside → c2 ≡ c1 ++ items.move pushed aside ∷ [] → c3
    ≡ c2 ++ items.step op x nowhere ∷ []
    → c4 ≡ c3 ++ items.move (variable x) push ∷ [] → WritesBefore c c4 (wanted_items wanted (source.step_after x op))
stepped_aside c c1 c2 c3 c4 wanted x op r e2 e3 e4 = (r (source.step_after x op) (λ at t when. refl)).with_rest c4
    (then_one _ (then_one _ (one c1 c2 _ e2) e3) e4)

-- a step before its word
pub step_more : (c c1 c2 : List Item) (wanted : Wanted) (d : Destination) (op : _) (x : Variable)
    → ReducesWord c c1 wanted d → c2 ≡ c1 ++ items.step op x d ∷ []
    → WritesBefore c c2 (wanted_items wanted (source.step_before op x))
step_more c c1 c2 wanted d op x reduces e = (reduces (source.step_before op x) (λ at t when. refl)).with_rest c2
    (one c1 c2 _ e)
