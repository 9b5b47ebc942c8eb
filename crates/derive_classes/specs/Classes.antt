-- A class becomes an attribute of its name, and an object gets the properties and attributes of its classes.
use Rattle.std.specs.Prelude.{◌&&◌, ◌||◌, ℕ, Bool, true, false, not, List, [], ◌∷◌, ◌++◌, if◌then◌else◌, Option, Some, None}
use Rattle.std.specs.List.{flat_map}
use Rattle.syntax_lexer.specs.declared.token.Position.{Position}
use Rattle.syntax_lexer.specs.declared.token.Word.TheVariants as w
use Rattle.syntax_lexer.specs.Token.{Lexeme, reserved, head, tail, position_of}
use Rattle.derive_tokens.specs.Tokens.{is_word, found}
use Rattle.derive_tokens.specs.Names.{is_name, name_of}
use Rattle.derive_constants.specs.Cutting.{directives}
use Rattle.derive_classes.specs.declared.parts.Row.TheVariants as rows
use Rattle.derive_classes.specs.Directives.{additive_of, before_last, is_additive, is_class, is_ended, last_alone}
use Rattle.derive_classes.specs.Heads.{body_of, has_own_name, head_of, with_own_name}
use Rattle.derive_classes.specs.Merged.{merged, settled}
use Rattle.derive_classes.specs.Parts.{begins_classes, is_plain, row_of}

-- the properties and the attributes of an object, or what a class gives to its objects, its own name first
pub record Traits : Type 0 where
  pub properties : List Lexeme
  pub given : List Lexeme

-- the classes so far, by their names
abbrev pub Known : Type 0
Known = List (List ℕ × Traits)

abbrev pub properties_in : Option Traits → List Lexeme
properties_in None = []
properties_in (Some c) = c.properties

abbrev pub given_in : Lexeme → Option Traits → List Lexeme
given_in t None = t ∷ []
given_in t (Some c) = c.given

abbrev pub is_some : Option Traits → Bool
is_some None = false
is_some (Some c) = true

-- of the class of a name: its properties, and its attributes, or an attribute alone
abbrev pub properties_named : Known → List ℕ → List Lexeme
properties_named known n = properties_in (found n known)

abbrev pub given_named : Known → List ℕ → Lexeme → List Lexeme
given_named known n t = given_in t (found n known)

abbrev pub is_named_known : Known → List ℕ → Bool
is_named_known known n = is_some (found n known)

abbrev pub properties_of : Known → Lexeme → List Lexeme
properties_of known t = properties_named known (name_of t)

abbrev pub given_of : Known → Lexeme → List Lexeme
given_of known t = given_named known (name_of t) t

abbrev pub is_known : Known → Lexeme → Bool
is_known known t = is_name t && is_named_known known (name_of t)

-- own properties come first, then those of the classes, in their order
abbrev pub all_properties : List (List ℕ) → Known → List Lexeme → List Lexeme → List Lexeme
all_properties additive known classes body =
    merged additive
    (row_of rows.Properties body ++ flat_map (properties_of known) (classes ++ row_of rows.Mentions body))

-- attributes and classes count in the order of their mention
abbrev pub all_given : Known → List Lexeme → List Lexeme → List Lexeme
all_given known classes body = settled (flat_map (given_of known) (classes ++ row_of rows.Given body))

-- of an object of these classes, before its own
abbrev pub traits : List (List ℕ) → Known → List Lexeme → List Lexeme → Traits
traits additive known classes body = record {
  properties = all_properties additive known classes body;
  given = all_given known classes body;
}

-- `with` in place of the first comma
abbrev pub with_part : Position → List Lexeme → List Lexeme
with_part p [] = []
with_part p (t ∷ ts) = reserved w.With p ∷ ts

abbrev pub has_part : Position → List Lexeme → List Lexeme
has_part p [] = []
has_part p (t ∷ ts) = reserved w.Has p ∷ t ∷ ts

-- an object with these traits: its head, its parts, and what fits into none, which the profile refuses
abbrev pub object_with : Position → List Lexeme → Traits → List Lexeme
object_with p ts c =
    reserved w.Object p ∷ head_of ts
    ++ (with_part p c.properties ++ (has_part p c.given ++ row_of rows.Unfit (body_of ts)))

-- the object of these classes, before its own
abbrev pub object_of : List (List ℕ) → Known → List Lexeme → Position → List Lexeme → List Lexeme
object_of additive known classes p ts =
    object_with p (with_own_name p ts) (traits additive known classes (body_of (with_own_name p ts)))

abbrev pub attribute_of : Position → List Lexeme → List Lexeme
attribute_of p ts = reserved w.Attribute p ∷ head_of ts ++ row_of rows.Unfit (body_of ts)

-- an object that needs nothing stays as it is
abbrev pub named_object : List (List ℕ) → Known → Lexeme → List Lexeme → List Lexeme
named_object additive known t ts =
    if is_plain ts && has_own_name ts then t ∷ ts else object_of additive known [] (position_of t) ts

-- `Property additive p` is `Property p`
abbrev pub without_additive : Bool → Lexeme → List Lexeme → List Lexeme
without_additive is t ts = t ∷ (if is then tail ts else ts)

-- `C lamp` is `Object lamp class C`
abbrev pub other : List (List ℕ) → Known → Bool → Lexeme → List Lexeme → List Lexeme
other additive known is t ts =
    if is_known known t then object_of additive known (t ∷ []) (position_of t) ts else without_additive is t ts

-- a directive without its `;`
abbrev pub rewritten : List (List ℕ) → Known → Bool → Lexeme → List Lexeme → List Lexeme
rewritten additive known is t ts =
    if is_word w.Object t then named_object additive known t ts
    else if begins_classes t then attribute_of (position_of t) ts
    else other additive known is t ts

abbrev pub directive : List (List ℕ) → Known → List Lexeme → List Lexeme
directive additive known d =
    if is_ended d
    then rewritten additive known (is_additive d) (head d) (tail (before_last d)) ++ last_alone d
    else d

abbrev pub class_name : List Lexeme → List ℕ
class_name d = name_of (head (tail d))

abbrev pub class_traits : List (List ℕ) → Known → List Lexeme → Traits
class_traits additive known d =
    traits additive known (head (tail d) ∷ []) (body_of (tail (before_last d)))

-- it defines a class whose name is not known
abbrev pub is_new : Known → List Lexeme → Bool
is_new known d = is_class d && not (is_known known (head (tail d)))

-- a class is known after its directive
abbrev pub known_after : List (List ℕ) → Known → List Lexeme → Known
known_after additive known d =
    if is_new known d then known ++ (class_name d, class_traits additive known d) ∷ [] else known

abbrev pub program_from : List (List ℕ) → Known → List (List Lexeme) → List Lexeme
program_from additive known [] = []
program_from additive known (d ∷ ds) =
    directive additive known d ++ program_from additive (known_after additive known d) ds

abbrev pub with_classes : List Lexeme → List Lexeme
with_classes ts = program_from (additive_of (directives ts)) [] (directives ts)
