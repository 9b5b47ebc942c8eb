-- The rules that arrays and objects break are broken at what stands in them.
use Rattle.std.proofs.Common.{ℕ, ◌+◌, suc, zero, nat_lt, nat_le, List, [], ◌∷◌, length, Option, Some, None}
use Rattle.std.proofs.Common.{refl}
use Rattle.std.specs.Prelude.{map, slice_get}
use Rattle.std.specs.List.{flat_map}
use Rattle.syntax_lexer.specs.declared.token.Position.{Position}
use Rattle.syntax_trees.specs.declared.tree.Width.{Width}
use Rattle.syntax_trees.specs.declared.tree.Width.TheVariants as widths
use Rattle.syntax_trees.specs.Tree.{NameTree}
use Rattle.syntax_directives.specs.declared.tree.ArrayKind.{ArrayKind}
use Rattle.syntax_directives.specs.Tree.{ValueTree, TextTree, PropertyTree, ObjectTree}
use Rattle.meaning.specs.Limits.{longest_short_name, most_property_words}
use Rattle.meaning.specs.Places.{name_words}
use Rattle.checker_values.specs.declared.known.Known.{Known}
use Rattle.checker_values.specs.declared.known.Known.TheVariants as knowns
use Rattle.checker_values.specs.Keys.{or_zero}
use Rattle.checker_values.specs.Names.{Table, key_of, in_table, literal_known}
use Rattle.checker_statements.specs.Arrays as arrays
use Rattle.checker_statements.specs.Arrays.{is_size, size_breaches, wide_breaches, width_of, entry_breaches, values_breaches}
use Rattle.checker_statements.specs.Objects as objects
use Rattle.checker_statements.specs.Objects.{Open, excess_breaches, value_breaches, provided_breaches, property_name}
use Rattle.checker_statements.specs.Objects.{given_breaches, short_breaches, object_breaches, above_of, opened, is_next}
use Rattle.checker_statements.specs.Objects.{arrow_breaches, named_parent_breaches, standing_from}
use Rattle.messages_diagnosis.proofs.Sounds.{Sounds, nothing, one, join, if_then}
use Rattle.messages_diagnosis.proofs.Names.{EachName, repeated_each, attribute_sounds, property_sounds, parent_sounds}
use Rattle.messages_diagnosis.proofs.Values.{literal_sounds}
use Rattle.messages_diagnosis.proofs.Directives.{EachPosition, EachValue, TextAt, NameAt, EachProperty, ObjectAt}
use Rattle.messages_diagnosis.proofs.Directives.{EachObject}

module _ (P : Position → Type 0) (whole : Table) where
  -- ---- arrays

  count_sounds : (p : Position) → P p → (kind : ArrayKind) (n : ℕ) → Sounds P (arrays.count_breaches p kind n)
  count_sounds p h kind n = if_then (is_size kind n) nothing (one h refl)

  size_sounds : (p : Position) → P p → (kind : ArrayKind) (k : Option Known) → Sounds P (size_breaches p kind k)
  size_sounds p h kind None = nothing
  size_sounds p h kind (Some (knowns.Number n)) = count_sounds p h kind n
  size_sounds p h kind (Some (knowns.Key key)) = one h refl

  wide_sounds : (p : Position) → P p → (width : Width) (k : Known) → Sounds P (wide_breaches p width k)
  wide_sounds p h widths.Byte (knowns.Number n) = if_then (nat_lt 255 n) (one h refl) nothing
  wide_sounds p h widths.Byte (knowns.Key key) = one h refl
  wide_sounds p h widths.Word k = nothing

  entries_sounds : (width : Width) (vs : List ValueTree) → EachValue P vs
      → Sounds P (flat_map (entry_breaches whole width) vs)
  entries_sounds width [] h = nothing
  entries_sounds width (v ∷ vs) h = join
      (join (literal_sounds P whole v.value h.1)
      (wide_sounds v.position h.0 width (or_zero (literal_known whole v.value))))
      (entries_sounds width vs h.2)

  pub array_values_sounds : (p : Position) → P p → (kind : ArrayKind) (vs : List ValueTree) → EachValue P vs
      → Sounds P (values_breaches whole p kind vs)
  array_values_sounds p h kind [] k = count_sounds p h kind 0
  array_values_sounds p h kind (v ∷ []) k = join (literal_sounds P whole v.value k.1)
      (size_sounds p h kind (literal_known whole v.value))
  array_values_sounds p h kind (v ∷ w ∷ vs) k = join (count_sounds p h kind (length (v ∷ w ∷ vs)))
      (entries_sounds (width_of kind) (v ∷ w ∷ vs) k)

  -- ---- objects

  at_index : (vs : List ValueTree) (n : ℕ) → EachValue P vs → Sounds P (excess_breaches (slice_get vs n))
  at_index [] n h = nothing
  at_index (v ∷ vs) zero h = one h.0 refl
  at_index (v ∷ vs) (suc n) h = at_index vs n h.2

  words_sounds : (p : Position) → P p → (vs : List ValueTree) → EachValue P vs
      → Sounds P (objects.count_breaches p vs)
  words_sounds p h [] k = one h refl
  words_sounds p h (v ∷ vs) k = at_index (v ∷ vs) most_property_words k

  property_values_sounds : (vs : List ValueTree) → EachValue P vs → Sounds P (flat_map (value_breaches whole) vs)
  property_values_sounds [] h = nothing
  property_values_sounds (v ∷ vs) h = join (literal_sounds P whole v.value h.1) (property_values_sounds vs h.2)

  properties_sounds : (xs : List PropertyTree) → EachProperty P xs → Sounds P (flat_map (provided_breaches whole) xs)
  properties_sounds [] h = nothing
  properties_sounds (x ∷ xs) h = join
      (join (property_sounds x.name.position h.0 (in_table whole (key_of x.name.text)))
      (join (words_sounds x.name.position h.0 x.values h.1) (property_values_sounds x.values h.1)))
      (properties_sounds xs h.2)

  names_of : (xs : List PropertyTree) → EachProperty P xs → EachName P (map property_name xs)
  names_of [] h = tt
  names_of (x ∷ xs) h = (h.0, names_of xs h.2)

  attributes_sounds : (ns : List NameTree) → EachName P ns → Sounds P (flat_map (given_breaches whole) ns)
  attributes_sounds [] h = nothing
  attributes_sounds (n ∷ ns) h = join (attribute_sounds n.position h.0 (in_table whole (key_of n.text)))
      (attributes_sounds ns h.1)

  short_sounds : (x : Option TextTree) → TextAt P x → Sounds P (short_breaches x)
  short_sounds None h = nothing
  short_sounds (Some s) h = if_then (nat_le (name_words s.bytes) longest_short_name) nothing (one h refl)

  pub object_sounds : (o : ObjectTree) → ObjectAt P o → Sounds P (object_breaches whole o)
  object_sounds o h = join (short_sounds o.short h.short)
      (join (repeated_each P [] (map property_name o.properties) (names_of o.properties h.properties))
      (join (properties_sounds o.properties h.properties) (attributes_sounds o.attributes h.attributes)))

  -- ---- where objects stand

  arrow_sounds : (above : Option (ℕ × ℕ)) (ps : List Position) → EachPosition P ps
      → Sounds P (arrow_breaches above ps)
  arrow_sounds above [] h = nothing
  arrow_sounds above (p ∷ ps) h = if_then (is_next above (length (p ∷ ps))) nothing (one h.0 refl)

  named_parent_sounds : (before : ℕ) (n : Option NameTree) → NameAt P n
      → Sounds P (named_parent_breaches whole before n)
  named_parent_sounds before None h = nothing
  named_parent_sounds before (Some n) h = parent_sounds n.position h before (in_table whole (key_of n.text))

  pub standing_sounds : (chain : Open) (before : ℕ) (os : List ObjectTree) → EachObject P os
      → Sounds P (standing_from whole chain before os)
  standing_sounds chain before [] h = nothing
  standing_sounds chain before (o ∷ os) h = join
      (join (arrow_sounds (above_of (length o.arrows) chain) o.arrows h.0.arrows)
      (named_parent_sounds before o.parent h.0.parent))
      (standing_sounds (opened (length o.arrows) before chain) (before + 1) os h.1)
