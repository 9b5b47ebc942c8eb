-- The routines that are made, on the last line of a derived file: each is there if it is used.
use Rattle.std.specs.Prelude.{◌+◌, ◌==◌, ◌&&◌, ◌||◌, ℕ, nat_lt, Bool, List, [], ◌∷◌, ◌++◌, length}
use Rattle.std.specs.Prelude.{if◌then◌else◌, codes, take, Option, Some, None}
use Rattle.std.specs.Fmt.{decimal}
use Rattle.std.specs.List.{slice_split}
use Rattle.std.specs.Str.{bytes_eq}
use Rattle.derive_constants.specs.Values.{Known, number_of}
use Rattle.derive_tokens.specs.Names.{is_among}
use Rattle.derive_values.specs.Values.{first_text, first_routine}
use Rattle.derive_routines.specs.Search.{Arm, Search, in_range, search_text, spaced}

-- ---- alternatives, by their key: an operator, and names or sums

-- the operator takes the names of attributes or properties
abbrev pub takes_names : List ℕ → Bool
takes_names operator = is_among (codes "has" ∷ codes "hasnt" ∷ codes "provides" ∷ []) operator

-- the operator without its `not`, and whether it has one
abbrev pub positive : List ℕ → List ℕ
positive operator =
    if bytes_eq operator (codes "hasnt") then codes "has"
    else if bytes_eq operator (codes "notin") then codes "in" else operator

abbrev pub negation : List ℕ → List ℕ
negation operator = if is_among (codes "hasnt" ∷ codes "notin" ∷ []) operator then codes "~~" else []

abbrev pub test : List ℕ → List ℕ → List ℕ
test operator n = codes "x__o " ++ operator ++ 32 ∷ n

abbrev pub or_tests : List ℕ → List (List ℕ) → List ℕ
or_tests operator [] = []
or_tests operator (n ∷ ns) = codes "||" ++ test operator n ++ or_tests operator ns

-- `x__o has a||x__o has b`
abbrev pub any_of : List ℕ → List (List ℕ) → List ℕ
any_of operator [] = []
any_of operator (n ∷ ns) = test operator n ++ or_tests operator ns

-- the alternatives that are arguments
abbrev pub sums_in : List ℕ → List (List ℕ) → List (List ℕ)
sums_in operator ns = if takes_names operator then [] else ns

abbrev pub alternatives_text : ℕ → List ℕ → List (List ℕ) → List ℕ
alternatives_text k operator ns =
    codes "[ x__or" ++ decimal k ++ codes " x__o" ++ spaced (sums_in operator ns) ++ codes ";return " ++ negation operator
    ++ codes "(" ++ any_of (positive operator) ns ++ codes ");];"

-- the routine of alternatives, the k-th
abbrev pub or_text : ℕ → List (List ℕ) → List ℕ
or_text k [] = []
or_text k (operator ∷ ns) = alternatives_text k operator ns

abbrev pub key_words : List ℕ → List (List ℕ)
key_words key = slice_split (λ b. b == 32) key

abbrev pub or_texts : ℕ → List (List ℕ) → List ℕ
or_texts k [] = []
or_texts k (key ∷ keys) = or_text k (key_words key) ++ or_texts (k + 1) keys

-- ---- messages

-- The property is read, and its value used with `self` set.
abbrev pub send_text : ℕ → List ℕ → List ℕ
send_text k property =
    codes "[ x__send" ++ decimal k ++ codes " x__o x__a x__b x__c x__d x__e x__v x__s;x__v=x__o." ++ property
    ++ codes ";x__s=x__self;x__self=x__o;x__v=x__value(x__v,x__a,x__b,x__c,x__d,x__e);x__self=x__s;return x__v;];"

abbrev pub send_texts : ℕ → List (List ℕ) → List ℕ
send_texts k [] = []
send_texts k (n ∷ ns) = send_text k n ++ send_texts (k + 1) ns

-- A text is printed with a new line, a routine called, and another value is what it is.
abbrev pub value_text : ℕ → ℕ → List ℕ
value_text texts routines =
    codes "[ x__value x__v x__a x__b x__c x__d x__e;"
    ++ in_range first_text texts (codes "x__string(x__v);new_line;rtrue;")
    ++ in_range first_routine routines (codes "return x__call(x__v,x__a,x__b,x__c,x__d,x__e);")
    ++ codes "return x__v;];"

-- ---- texts and routines that are values

-- A text has a routine of its own, named by its number.
abbrev pub text_name : ℕ → List ℕ
text_name value = codes "x__t" ++ decimal value

abbrev pub text_routine : ℕ → List ℕ → List ℕ
text_routine value text = codes "[ " ++ text_name value ++ codes ";print \"" ++ text ++ codes "\";rtrue;];"

abbrev pub text_routines : ℕ → List (List ℕ) → List ℕ
text_routines value [] = []
text_routines value (b ∷ bs) = text_routine value b ++ text_routines (value + 1) bs

abbrev pub text_arm : ℕ → Arm
text_arm value = record { value = value; routine = text_name value; skipped = 1; count = 0 }

abbrev pub text_arms : ℕ → List (List ℕ) → List Arm
text_arms value [] = []
text_arms value (b ∷ bs) = text_arm value ∷ text_arms (value + 1) bs

abbrev pub text_search : Search
text_search = record {
  routine = codes "x__string";
  locals = codes "x__v" ∷ [];
  first = [];
  notice = codes "^[Fault: not a text]^";
}

abbrev pub string_text : List (List ℕ) → List ℕ
string_text texts = text_routines first_text texts ++ search_text text_search first_text (text_arms first_text texts)

-- how many arguments a routine takes, of six at most
abbrev pub count_of : Option ℕ → ℕ
count_of None = 0
count_of (Some count) = count

abbrev pub routine_arm : Known → ℕ → List ℕ → Arm
routine_arm arities value n =
    record { value = value; routine = n; skipped = 1; count = count_of (number_of arities n) }

abbrev pub routine_arms : Known → ℕ → List (List ℕ) → List Arm
routine_arms arities value [] = []
routine_arms arities value (n ∷ ns) = routine_arm arities value n ∷ routine_arms arities (value + 1) ns

abbrev pub call_search : Search
call_search = record {
  routine = codes "x__call";
  locals =
      codes "x__v" ∷ codes "x__a" ∷ codes "x__b" ∷ codes "x__c" ∷ codes "x__d" ∷ codes "x__e" ∷ codes "x__f" ∷ [];
  first = codes "if(x__v==0)rfalse;";
  notice = codes "^[Fault: not a routine]^";
}

abbrev pub call_text : Known → List (List ℕ) → List ℕ
call_text arities routines = search_text call_search first_routine (routine_arms arities first_routine routines)

-- ---- random

-- The generator: 15 bits of two steps.
abbrev pub random_text : List ℕ
random_text =
    codes "global x__seed=12345;[ x__random x__n x__a;if(x__n<1){if(x__n<0)x__seed=-x__n;rfalse;}"
    ++ codes "x__seed=x__seed*25173+13849;x__a=x__seed/256&255;x__seed=x__seed*25173+13849;"
    ++ codes "return(x__a*128|(x__seed/256&127))%x__n+1;];"

-- The values among which `random` chooses, of which it gives the one of this number; after them the last is given.
abbrev pub choices_from : ℕ → List (List ℕ) → List ℕ
choices_from k [] = []
choices_from k (x ∷ xs) = codes "if(x__n==" ++ decimal k ++ codes ")return " ++ x ++ codes ";" ++ choices_from (k + 1) xs

abbrev pub choice_names : List (List ℕ)
choice_names =
    codes "x__a" ∷ codes "x__b" ∷ codes "x__c" ∷ codes "x__d" ∷ codes "x__e" ∷ codes "x__f" ∷ codes "x__g" ∷ []

-- the header of the routine that chooses one of so many values, and the number that it draws
abbrev pub choice_header : ℕ → List ℕ
choice_header count = codes "[ x__one" ++ decimal count ++ spaced (take count choice_names) ++ codes " x__n;"

abbrev pub drawn : ℕ → List ℕ
drawn count = codes "x__n=x__random(" ++ decimal count ++ codes ");"

-- one of so many values at random
abbrev pub choice_text : ℕ → List ℕ
choice_text count =
    choice_header count ++ drawn count ++ choices_from 1 (take count choice_names) ++ codes "];"

-- ---- what a file asks for

-- the texts and routines that are values, how many arguments each routine takes, the properties to which messages are sent,
-- the lists of alternatives, whether `Main` has locals, and all names of the file
pub record Asked : Type 0 where
  pub texts : List (List ℕ)
  pub routines : List (List ℕ)
  pub arities : Known
  pub messages : List (List ℕ)
  pub keys : List (List ℕ)
  pub apart : Bool
  pub names : List (List ℕ)

abbrev pub given : Bool → List ℕ → List ℕ
given wanted text = if wanted then text else []

abbrev pub is_used : Asked → List ℕ → Bool
is_used a n = is_among a.names n

abbrev pub sends : Asked → Bool
sends a = nat_lt 0 (length a.messages)

-- one of so many values at random
abbrev pub choice_given : Asked → List ℕ → ℕ → List ℕ
choice_given a n count = given (is_used a n) (choice_text count)

abbrev pub chooses : Asked → Bool
chooses a =
    is_used a (codes "x__one2") || (is_used a (codes "x__one3") || (is_used a (codes "x__one4")
    || (is_used a (codes "x__one5") || (is_used a (codes "x__one6") || is_used a (codes "x__one7")))))

-- of two to four values, and of five to seven
abbrev pub few_choices : Asked → List ℕ
few_choices a =
    choice_given a (codes "x__one2") 2 ++ choice_given a (codes "x__one3") 3 ++ choice_given a (codes "x__one4") 4

abbrev pub more_choices : Asked → List ℕ
more_choices a =
    choice_given a (codes "x__one5") 5 ++ choice_given a (codes "x__one6") 6 ++ choice_given a (codes "x__one7") 7

-- a number is drawn at random
abbrev pub draws : Asked → Bool
draws a = is_used a (codes "x__random") || chooses a

abbrev pub randoms_text : Asked → List ℕ
randoms_text a = few_choices a ++ more_choices a ++ given (draws a) random_text

-- the routines that need nothing of the file

abbrev pub fixed_text : Asked → List ℕ → List ℕ → List ℕ
fixed_text a routine text = given (is_used a routine) text

abbrev pub spaces : List ℕ
spaces = codes "[ x__spaces x__n;while(x__n>0){print(char)32;x__n--;}];"

abbrev pub both : List ℕ
both = codes "[ x__both x__a x__b x__c x__d x__e x__f x__g;rtrue;];"

-- A function takes one argument only: what counts and what is found on the way are locals of routines of their own.
abbrev pub children : List ℕ
children =
    codes "[ x__children x__o;return x__count(child(x__o));];"
    ++ codes "[ x__count x__o x__n;while(x__o){x__n++;x__o=sibling(x__o);}return x__n;];"

abbrev pub youngest : List ℕ
youngest =
    codes "[ x__youngest x__o;return x__last(child(x__o));];"
    ++ codes "[ x__last x__o x__n;while(x__o){x__n=x__o;x__o=sibling(x__o);}return x__n;];"

abbrev pub eldest : List ℕ
eldest = codes "[ x__eldest x__o;return child(x__o);];"

abbrev pub younger : List ℕ
younger = codes "[ x__younger x__o;return sibling(x__o);];"

abbrev pub elder : List ℕ
elder = codes "[ x__elder x__o;return x__before(x__o,parent(x__o));];"

-- the child of an object before this one, if there is one
abbrev pub before : List ℕ
before =
    codes "[ x__before x__o x__p;if(x__p==0)rfalse;x__p=child(x__p);if(x__p==x__o)rfalse;"
    ++ codes "while(sibling(x__p)~=x__o)x__p=sibling(x__p);return x__p;];"

abbrev pub child_texts : Asked → List ℕ
child_texts a =
    fixed_text a (codes "x__children") children ++ fixed_text a (codes "x__youngest") youngest
    ++ fixed_text a (codes "x__eldest") eldest

abbrev pub sibling_texts : Asked → List ℕ
sibling_texts a =
    fixed_text a (codes "x__younger") younger ++ fixed_text a (codes "x__elder") elder
    ++ fixed_text a (codes "x__elder") before

abbrev pub fixed_texts : Asked → List ℕ
fixed_texts a =
    fixed_text a (codes "x__spaces") spaces ++ fixed_text a (codes "x__both") both ++ child_texts a ++ sibling_texts a

-- `self` is held
abbrev pub has_self : Asked → Bool
has_self a = sends a || is_used a (codes "x__self")

-- what messages use
abbrev pub values_text : Asked → List ℕ
values_text a = given (sends a) (value_text (length a.texts) (length a.routines))

abbrev pub messages_text : Asked → List ℕ
messages_text a = send_texts 1 a.messages ++ given (has_self a) (codes "global x__self;") ++ values_text a

abbrev pub calls : Asked → Bool
calls a = is_used a (codes "x__call") || (sends a && nat_lt 0 (length a.routines))

abbrev pub strings : Asked → Bool
strings a = is_used a (codes "x__string") || (sends a && nat_lt 0 (length a.texts))

abbrev pub calls_text : Asked → List ℕ
calls_text a = given (calls a) (call_text a.arities a.routines)

abbrev pub strings_text : Asked → List ℕ
strings_text a = given (strings a) (string_text a.texts)

-- `Main`, and alternatives
abbrev pub opening : Asked → List ℕ
opening a = given a.apart (codes "[ Main;x__Main();];") ++ or_texts 1 a.keys

-- what uses the numbers of texts and routines
abbrev pub uses_text : Asked → List ℕ
uses_text a = messages_text a ++ calls_text a ++ strings_text a

-- all that is made for a file
abbrev pub made : Asked → List ℕ
made a = opening a ++ uses_text a ++ randoms_text a ++ fixed_texts a
