-- Values that are evaluated to a word, of which a branch asks whether it is 0.
use Rattle.std.proofs.Common.{◌≡◌, ◌+◌, List, [], ◌∷◌, ◌++◌, Bool, true, false, refl, sym, ap, ◌∙◌, append_assoc}
use Rattle.syntax_trees.specs.declared.tree.Binary.TheVariants as binaries
use Rattle.syntax_trees.specs.declared.tree.Prefix.TheVariants as prefixes
use Rattle.meaning.specs.Resolved.{Value}
use Rattle.meaning.specs.Resolved as source
use Rattle.code_drafts.specs.Items.{Item, push, alone, left_of, first_of, if_pushed, operand_count, value_items}
use Rattle.code_drafts.specs.Items.{is_one_test}
use Rattle.code_drafts.specs.Writing.{IsWord}

-- a condition that is decided by one test of its word
abbrev pub is_word : Value → Bool
is_word (source.read x) = false
is_word (source.prefixed prefixes.Not v) = false
is_word (source.compare op a b) = false
is_word (source.equal op a bs) = false
is_word v = is_one_test v

-- the last of items after one, two or three others
one_before : (a : List Item) (i j : Item) → a ++ i ∷ j ∷ [] ≡ (a ++ i ∷ []) ++ j ∷ []
one_before a i j = sym (append_assoc a (i ∷ []) (j ∷ []))

two_before : (a b : List Item) (i j : Item) → a ++ (b ++ i ∷ j ∷ []) ≡ (a ++ (b ++ i ∷ [])) ++ j ∷ []
two_before a b i j = ap (λ l. a ++ l) (one_before b i j) ∙ sym (append_assoc a (b ++ i ∷ []) (j ∷ []))

three_before : (a b c : List Item) (i j : Item)
    → a ++ (b ++ (c ++ i ∷ j ∷ [])) ≡ (a ++ (b ++ (c ++ i ∷ []))) ++ j ∷ []
three_before a b c i j =
    ap (λ l. a ++ l) (two_before b c i j) ∙ sym (append_assoc a (b ++ (c ++ i ∷ [])) (j ∷ []))

pub word_items : (v : Value) → is_word v ≡ true → IsWord v
word_items (source.number n) is at t when = absurd (cc)
word_items (source.read x) is at t when = absurd (cc)
word_items (source.call r vs) is at t when = one_before _ _ _
word_items (source.prefixed prefixes.Not v) is at t when = absurd (cc)
word_items (source.prefixed op v) is at t when = one_before _ _ _
word_items (source.step_before op x) is at t when = refl
word_items (source.step_after x op) is at t when = refl
word_items (source.binary binaries.AndAlso a b) is at t when = absurd (cc)
word_items (source.binary binaries.OrElse a b) is at t when = absurd (cc)
word_items (source.binary op a b) is at t when = two_before _ _ _ _
word_items (source.compare op a b) is at t when = absurd (cc)
word_items (source.equal op a bs) is at t when = absurd (cc)
word_items (source.assign x v) is at t when = one_before _ _ _
word_items (source.entry width a i) is at t when = one_before _ _ _
word_items (source.assign_entry width a i v) is at t when = two_before _ _ _ _
word_items (source.relative r v) is at t when = one_before _ _ _
word_items (source.contained op a b) is at t when = absurd (cc)
word_items (source.has positive v a) is at t when = absurd (cc)
word_items (source.provides v p) is at t when = absurd (cc)
word_items (source.property v p) is at t when = one_before _ _ _
word_items (source.property_size v p) is at t when = one_before _ _ _
word_items (source.property_word v p i) is at t when = two_before _ _ _ _
word_items (source.assign_property v p w) is at t when = two_before _ _ _ _
word_items (source.assign_property_word v p i w) is at t when =
    let m = at + operand_count v (first_of v i w) in
    three_before (if_pushed (first_of v i w) (value_items at v push) [])
    (if_pushed (left_of i w) (value_items m i push) [])
    (if_pushed (alone w) (value_items (m + operand_count i (left_of i w)) w push) []) _ _
