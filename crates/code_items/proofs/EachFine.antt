-- The items of each value name only what is there.
use Rattle.std.proofs.Common.{[], ◌∷◌}
use Rattle.meaning.specs.Resolved.{Value, Values, none, more}
use Rattle.meaning.specs.Resolved as source
use Rattle.meaning.specs.Accepted.{IsValue, AreValues}
use Rattle.meaning.specs.Meaning.{is_true}
use Rattle.code_drafts.specs.Items.{pushed, number, variable, agrees}
use Rattle.code_drafts.specs.Items as items
use Rattle.code_items.proofs.Fine.{Bounds, after_fine, either_fine, first, moved_fine, nothing, true_fine}
use Rattle.code_items.proofs.FineValues.{FineValue, FineList, call_fine, prefixed_fine, binary_fine, compare_fine}
use Rattle.code_items.proofs.FineValues.{equal_fine, assign_fine, entry_fine, assign_entry_fine, list_none, list_more}
use Rattle.code_items.proofs.FineObjects.{relative_fine, contained_fine, has_fine, provides_fine, property_fine}
use Rattle.code_items.proofs.FineObjects.{property_size_fine, property_word_fine, assign_property_fine}
use Rattle.code_items.proofs.FineObjects.{assign_property_word_fine}

module _ (here : Bounds) where
  open here use {p, locals}

  mutual
    pub value_fine : (v : Value) → IsValue p locals v → FineValue here v
    value_fine (source.number n) h = record {
      value = λ at d hd lt. moved_fine here (number n) d tt hd;
      branch = λ at when t lt le. either_fine here (agrees (is_true n) when) (items.jump t ∷ []) []
          (λ e. first here (items.jump t) [] le (nothing here)) (λ e. nothing here);
    }
    value_fine (source.read x) h =
        record {
          value = λ at d hd lt. moved_fine here (variable x) d h hd;
          branch =
              λ at when t lt le. first here _ _ (true_fine here (variable x) when t h le) (nothing here);
        }
    value_fine (source.call r vs) h = call_fine here r vs h (list_fine vs h.3)
    value_fine (source.prefixed op v) h = prefixed_fine here op v h (value_fine v h)
    value_fine (source.step_before op x) h =
        record {
          value = λ at d hd lt. first here _ _ (h, hd) (nothing here);
          branch =
              λ at when t lt le. first here _ _ (h, tt)
              (first here _ _ (true_fine here pushed when t tt le) (nothing here));
        }
    value_fine (source.step_after x op) h = record {
      value = λ at d hd lt. after_fine here x op d h hd;
      branch = λ at when t lt le. first here _ _ (h, tt)
          (first here _ _ (h, tt) (first here _ _ (true_fine here pushed when t tt le) (nothing here)));
    }
    value_fine (source.binary op a b) h = binary_fine here op a b h.0 h.1 (value_fine a h.0) (value_fine b h.1)
    value_fine (source.compare op a b) h = compare_fine here op a b h.0 h.1 (value_fine a h.0) (value_fine b h.1)
    value_fine (source.equal op a bs) h = equal_fine here op a bs h.0 h.1 (value_fine a h.0) (list_fine bs h.1)
    value_fine (source.assign x v) h = assign_fine here x v h.0 (value_fine v h.1)
    value_fine (source.entry width a i) h = entry_fine here width a i h.0 h.1 (value_fine i h.1)
    value_fine (source.assign_entry width a i v) h =
        assign_entry_fine here width a i v h.0 h.1 h.2 (value_fine i h.1) (value_fine v h.2)
    value_fine (source.relative r v) h = relative_fine here r v h (value_fine v h)
    value_fine (source.contained op a b) h = contained_fine here op a b h.0 h.1 (value_fine a h.0) (value_fine b h.1)
    value_fine (source.has positive v a) h = has_fine here positive v a h.0 h.1 (value_fine v h.1)
    value_fine (source.provides v n) h = provides_fine here v n h.0 h.1 (value_fine v h.1)
    value_fine (source.property v n) h = property_fine here v n h.0 h.1 (value_fine v h.1)
    value_fine (source.property_size v n) h = property_size_fine here v n h.0 h.1 (value_fine v h.1)
    value_fine (source.property_word v n i) h =
        property_word_fine here v n i h.0 h.1 h.2 (value_fine v h.1) (value_fine i h.2)
    value_fine (source.assign_property v n w) h =
        assign_property_fine here v n w h.0 h.1 h.2 (value_fine v h.1) (value_fine w h.2)
    value_fine (source.assign_property_word v n i w) h =
        assign_property_word_fine here v n i w h.0 h.1 h.2 h.3 (value_fine v h.1) (value_fine i h.2) (value_fine w h.3)

    list_fine : (vs : Values) → AreValues p locals vs → FineList here vs
    list_fine none h = list_none here
    list_fine (more v vs) h = list_more here v vs (value_fine v h.0) (list_fine vs h.1)
