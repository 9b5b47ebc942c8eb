-- Every expression does what it means.
use Rattle.meaning.specs.Resolved.{Value, Values, none, more}
use Rattle.meaning.specs.Resolved as source
use Rattle.code_items.proofs.Running.{Running}
use Rattle.code_items.proofs.Evaluated.{ValueOk, ListOk, list_none, list_more}
use Rattle.code_items.proofs.Arguments.{ArgumentsOk, arguments_none, arguments_more}
use Rattle.code_items.proofs.Calls.{call_ok}
use Rattle.code_items.proofs.Operations.{number_ok, read_ok, prefixed_ok}
use Rattle.code_items.proofs.Equalities.{AlsoOk, also_none, also_more, compare_ok, SeveralOk, equal_ok}
use Rattle.code_items.proofs.Logical.{binary_ok}
use Rattle.code_items.proofs.Assignments.{step_before_ok, step_after_ok, assign_ok}
use Rattle.code_items.proofs.Entries.{entry_ok, assign_entry_ok}
use Rattle.code_items.proofs.ObjectValues.{relative_ok, property_ok, property_size_ok, property_word_ok}
use Rattle.code_items.proofs.ObjectValues.{assign_property_ok, assign_property_word_ok}
use Rattle.code_items.proofs.ObjectConditions.{contained_ok, has_ok, provides_ok}

module _ (now : Running) where
  mutual
    pub value_ok : (v : Value) → ValueOk now v
    value_ok (source.number k) = number_ok now k
    value_ok (source.read x) = read_ok now x
    value_ok (source.call rr vs) = call_ok now rr vs (arguments_ok vs)
    value_ok (source.prefixed op v) = prefixed_ok now op v (value_ok v)
    value_ok (source.step_before op x) = step_before_ok now op x
    value_ok (source.step_after x op) = step_after_ok now x op
    value_ok (source.binary op a b) = binary_ok now op a b (value_ok a) (value_ok b)
    value_ok (source.compare op a b) = compare_ok now op a b (value_ok a) (value_ok b)
    value_ok (source.equal op a bs) = equal_ok now op a bs (value_ok a) (list_ok bs) (several_ok bs)
    value_ok (source.assign x v) = assign_ok now x v (value_ok v)
    value_ok (source.entry width a i) = entry_ok now width a i (value_ok i)
    value_ok (source.assign_entry width a i v) = assign_entry_ok now width a i v (value_ok i) (value_ok v)
    value_ok (source.relative r v) = relative_ok now r v (value_ok v)
    value_ok (source.contained op a b) = contained_ok now op a b (value_ok a) (value_ok b)
    value_ok (source.has positive v k) = has_ok now positive v k (value_ok v)
    value_ok (source.provides v k) = provides_ok now v k (value_ok v)
    value_ok (source.property v k) = property_ok now v k (value_ok v)
    value_ok (source.property_size v k) = property_size_ok now v k (value_ok v)
    value_ok (source.property_word v k w) = property_word_ok now v k w (value_ok v) (value_ok w)
    value_ok (source.assign_property v k w) = assign_property_ok now v k w (value_ok v) (value_ok w)
    value_ok (source.assign_property_word v k w z) =
        assign_property_word_ok now v k w z (value_ok v) (value_ok w) (value_ok z)

    pub list_ok : (vs : Values) → ListOk now vs
    list_ok none = list_none now
    list_ok (more v vs) = list_more now v vs (value_ok v) (list_ok vs)

    arguments_ok : (vs : Values) → ArgumentsOk now vs
    arguments_ok none = arguments_none now
    arguments_ok (more v vs) = arguments_more now v vs (value_ok v) (arguments_ok vs)

    several_ok : (vs : Values) → SeveralOk now vs
    several_ok none = tt
    several_ok (more v vs) = (value_ok v, also_ok vs)

    also_ok : (vs : Values) → AlsoOk now vs
    also_ok none = also_none now
    also_ok (more v vs) = also_more now v vs (value_ok v) (also_ok vs)
