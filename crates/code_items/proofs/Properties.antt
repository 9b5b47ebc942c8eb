-- What is written for properties of which each is one of the word before it, from the last to the first.
use Rattle.std.proofs.Common.{◌≡◌, ℕ, ◌+◌, ◌-◌, ◌<◌, ◌≤◌, List, [], ◌∷◌, ◌++◌, length, drop, slice_index_or, refl}
use Rattle.std.proofs.Common.{suc, sym, ap, subst, ◌∙◌, arith}
use Rattle.std.proofs.Math.Seq.{drop-cons}
use Rattle.meaning.specs.Resolved.{Value}
use Rattle.meaning.specs.Views.{propertied}
use Rattle.meaning.specs.Resolved as source
use Rattle.code_drafts.specs.Items.{Item, Operand, pushed, Destination, alone}
use Rattle.code_drafts.specs.Items as items
use Rattle.code_drafts.specs.declared.item.Destination.TheVariants as destinations
use Rattle.code_drafts.specs.declared.wanted.Wanted.{Wanted}
use Rattle.code_drafts.specs.declared.wanted.Wanted.TheVariants.{Word}
use Rattle.code_drafts.specs.Writing.{wanted_items, ReducesWord, WritesBefore}
use Rattle.code_items.specs.ValueWriting.{pushes, ReducesProperties}
use Rattle.code_items.proofs.ValuesOfObjects.{property_written}

properties_next : (c c1 c2 c3 : List Item) (wanted w1 : Wanted) (d : Destination) (p : ℕ) (ps : List ℕ)
    → ReducesProperties c c1 wanted w1 ps → ReducesWord c1 c2 w1 d → c3 ≡ c2 ++ items.property pushed p d ∷ []
    → ReducesProperties c c3 wanted (Word destinations.Push) (p ∷ ps)
properties_next c c1 c2 c3 wanted w1 d p ps many reduces e v is =
    record {
      with_rest = λ end w. (many (source.property v p) refl).with_rest end
          (property_written c1 c2 c3 end w1 d p pushed v reduces is e w);
    }

pub property_more : (c c1 c2 c3 c4 : List Item) (wanted w1 : Wanted) (d : Destination) (p : ℕ) (o : Operand)
    (v : Value) (ps : List ℕ) → ReducesProperties c c1 wanted w1 ps → ReducesWord c1 c2 w1 d → o ≡ alone v
    → c3 ≡ c2 ++ items.property o p d ∷ [] → WritesBefore c3 c4 (pushes o v)
    → WritesBefore c c4 (wanted_items wanted (propertied (source.property v p) ps))
property_more c c1 c2 c3 c4 wanted w1 d p o v ps many reduces eo e w =
    (many (source.property v p) refl).with_rest c4 (property_written c1 c2 c3 c4 w1 d p o v reduces eo e w)

-- a round of the loop
pub properties_round : (c c1 c2 c3 : List Item) (wanted w1 : Wanted) (d : Destination) (ps : List ℕ) (done p : ℕ)
    → done < length ps → ReducesProperties c c1 wanted w1 (drop (length ps - done) ps) → ReducesWord c1 c2 w1 d
    → c3 ≡ c2 ++ items.property pushed (slice_index_or ps (length ps - 1 - done) p) d ∷ []
    → ReducesProperties c c3 wanted (Word destinations.Push) (drop (length ps - (done + 1)) ps)
properties_round c c1 c2 c3 wanted w1 d ps done p lt many reduces e =
    let i = length ps - 1 - done in
    let P : ℕ → Type 0 = λ k. ReducesProperties c c1 wanted w1 (drop k ps) in
    let Q : List ℕ → Type 0 = λ l. ReducesProperties c c3 wanted (Word destinations.Push) l in
    let before : length ps - done ≡ suc i = omega (arith, lt) in
    let after : i ≡ length ps - (done + 1) = omega arith in
    let all : slice_index_or ps i p ∷ drop (suc i) ps ≡ drop (length ps - (done + 1)) ps =
    sym (drop-cons ps i p (omega (arith, lt))) ∙ ap (λ k. drop k ps) after in
    subst Q all (properties_next c c1 c2 c3 wanted w1 d (slice_index_or ps i p) (drop (suc i) ps)
    (subst P before many) reduces e)

-- its end
pub properties_done : (c c1 : List Item) (wanted w1 : Wanted) (ps : List ℕ) (done : ℕ) → length ps ≤ done
    → ReducesProperties c c1 wanted w1 (drop (length ps - done) ps) → ReducesProperties c c1 wanted w1 ps
properties_done c c1 wanted w1 ps done end many =
    let P : ℕ → Type 0 = λ k. ReducesProperties c c1 wanted w1 (drop k ps) in
    let none : length ps - done ≡ 0 = omega (arith, end) in
    subst P none many
