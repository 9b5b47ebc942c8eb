-- What holds of each reserved word.
use Rattle.std.proofs.Common.{◌≡◌, ℕ, ◌≤◌, Bool, true, false, cond, List, [], ◌∷◌, length, get_or, Option, Some, None}
use Rattle.std.proofs.Common.{refl, sym, ap, ◌∙◌, arith}
use Rattle.std.specs.Prelude.{if◌then◌else◌, ◌==◌}
use Rattle.std.specs.List.{Contains}
use Rattle.std.specs.Char.{to_ascii_lowercase}
use Rattle.std.specs.Str.{str_to_ascii_lowercase, str_eq_ignore_ascii_case, bytes_eq}
use Rattle.std.proofs.lemmas.Bool.Decides.{nat_tests}
use Rattle.std.proofs.lemmas.Slice.Eq.{bytes_eq-Decides}
use Rattle.syntax_lexer.specs.declared.token.Word.{Word}
use Rattle.syntax_lexer.specs.declared.token.Word.TheVariants as w
use Rattle.syntax_lexer.specs.Bytes.{is_letter, is_name_byte, Each}
use Rattle.syntax_lexer.specs.Spelling.{word_spelling, IsReserved}

abbrev all_pass : (ℕ → Bool) → List ℕ → Bool
all_pass p [] = true
all_pass p (b ∷ bs) = cond (p b) (all_pass p bs) false

abbrev find_word : List Word → List ℕ → Option Word
find_word [] bs = None
find_word (x ∷ xs) bs = cond (bytes_eq (word_spelling x) bs) (Some x) (find_word xs bs)

abbrev all_words : List Word
all_words = w.Abbreviate ∷ w.Array ∷ w.Attribute ∷ w.Break ∷ w.Char ∷ w.Child ∷ w.Constant ∷ w.Continue ∷ w.Default
    ∷ w.Do ∷ w.Else ∷ w.False ∷ w.For ∷ w.Give ∷ w.Global ∷ w.Has ∷ w.Hasnt ∷ w.If ∷ w.In ∷ w.Move ∷ w.NewLine
    ∷ w.Nothing ∷ w.Notin ∷ w.Object ∷ w.Objectloop ∷ w.Or ∷ w.Parent ∷ w.Print ∷ w.PrintRet ∷ w.Property
    ∷ w.Provides ∷ w.Quit ∷ w.Read ∷ w.Remove ∷ w.Return ∷ w.Rfalse ∷ w.Rtrue ∷ w.Sibling ∷ w.String ∷ w.Switch
    ∷ w.Table ∷ w.To ∷ w.True ∷ w.Until ∷ w.While ∷ w.With ∷ []

word_from : List ℕ → Option Word
word_from bs = find_word all_words bs

record WordFacts (x : Word) : Type 0 where
  small : str_to_ascii_lowercase (word_spelling x) ≡ word_spelling x
  first : is_letter (get_or (word_spelling x) 0 0) ≡ true
  each : all_pass is_name_byte (word_spelling x) ≡ true
  sizes : (2 ≤ length (word_spelling x)) × (length (word_spelling x) ≤ 10)
  back : word_from (word_spelling x) ≡ Some x

word_facts : (x : Word) → WordFacts x
unfolding word_from
word_facts w.Abbreviate =
    record { small = refl; first = refl; each = refl; sizes = (omega arith, omega arith); back = refl }
word_facts w.Array =
    record { small = refl; first = refl; each = refl; sizes = (omega arith, omega arith); back = refl }
word_facts w.Attribute =
    record { small = refl; first = refl; each = refl; sizes = (omega arith, omega arith); back = refl }
word_facts w.Break =
    record { small = refl; first = refl; each = refl; sizes = (omega arith, omega arith); back = refl }
word_facts w.Char =
    record { small = refl; first = refl; each = refl; sizes = (omega arith, omega arith); back = refl }
word_facts w.Child =
    record { small = refl; first = refl; each = refl; sizes = (omega arith, omega arith); back = refl }
word_facts w.Constant =
    record { small = refl; first = refl; each = refl; sizes = (omega arith, omega arith); back = refl }
word_facts w.Continue =
    record { small = refl; first = refl; each = refl; sizes = (omega arith, omega arith); back = refl }
word_facts w.Default =
    record { small = refl; first = refl; each = refl; sizes = (omega arith, omega arith); back = refl }
word_facts w.Do = record { small = refl; first = refl; each = refl; sizes = (omega arith, omega arith); back = refl }
word_facts w.Else =
    record { small = refl; first = refl; each = refl; sizes = (omega arith, omega arith); back = refl }
word_facts w.False =
    record { small = refl; first = refl; each = refl; sizes = (omega arith, omega arith); back = refl }
word_facts w.For = record { small = refl; first = refl; each = refl; sizes = (omega arith, omega arith); back = refl }
word_facts w.Give =
    record { small = refl; first = refl; each = refl; sizes = (omega arith, omega arith); back = refl }
word_facts w.Global =
    record { small = refl; first = refl; each = refl; sizes = (omega arith, omega arith); back = refl }
word_facts w.Has = record { small = refl; first = refl; each = refl; sizes = (omega arith, omega arith); back = refl }
word_facts w.Hasnt =
    record { small = refl; first = refl; each = refl; sizes = (omega arith, omega arith); back = refl }
word_facts w.If = record { small = refl; first = refl; each = refl; sizes = (omega arith, omega arith); back = refl }
word_facts w.In = record { small = refl; first = refl; each = refl; sizes = (omega arith, omega arith); back = refl }
word_facts w.Move =
    record { small = refl; first = refl; each = refl; sizes = (omega arith, omega arith); back = refl }
word_facts w.NewLine =
    record { small = refl; first = refl; each = refl; sizes = (omega arith, omega arith); back = refl }
word_facts w.Nothing =
    record { small = refl; first = refl; each = refl; sizes = (omega arith, omega arith); back = refl }
word_facts w.Notin =
    record { small = refl; first = refl; each = refl; sizes = (omega arith, omega arith); back = refl }
word_facts w.Object =
    record { small = refl; first = refl; each = refl; sizes = (omega arith, omega arith); back = refl }
word_facts w.Objectloop =
    record { small = refl; first = refl; each = refl; sizes = (omega arith, omega arith); back = refl }
word_facts w.Or = record { small = refl; first = refl; each = refl; sizes = (omega arith, omega arith); back = refl }
word_facts w.Parent =
    record { small = refl; first = refl; each = refl; sizes = (omega arith, omega arith); back = refl }
word_facts w.Print =
    record { small = refl; first = refl; each = refl; sizes = (omega arith, omega arith); back = refl }
word_facts w.PrintRet =
    record { small = refl; first = refl; each = refl; sizes = (omega arith, omega arith); back = refl }
word_facts w.Property =
    record { small = refl; first = refl; each = refl; sizes = (omega arith, omega arith); back = refl }
word_facts w.Provides =
    record { small = refl; first = refl; each = refl; sizes = (omega arith, omega arith); back = refl }
word_facts w.Quit =
    record { small = refl; first = refl; each = refl; sizes = (omega arith, omega arith); back = refl }
word_facts w.Read =
    record { small = refl; first = refl; each = refl; sizes = (omega arith, omega arith); back = refl }
word_facts w.Remove =
    record { small = refl; first = refl; each = refl; sizes = (omega arith, omega arith); back = refl }
word_facts w.Return =
    record { small = refl; first = refl; each = refl; sizes = (omega arith, omega arith); back = refl }
word_facts w.Rfalse =
    record { small = refl; first = refl; each = refl; sizes = (omega arith, omega arith); back = refl }
word_facts w.Rtrue =
    record { small = refl; first = refl; each = refl; sizes = (omega arith, omega arith); back = refl }
word_facts w.Sibling =
    record { small = refl; first = refl; each = refl; sizes = (omega arith, omega arith); back = refl }
word_facts w.String =
    record { small = refl; first = refl; each = refl; sizes = (omega arith, omega arith); back = refl }
word_facts w.Switch =
    record { small = refl; first = refl; each = refl; sizes = (omega arith, omega arith); back = refl }
word_facts w.Table =
    record { small = refl; first = refl; each = refl; sizes = (omega arith, omega arith); back = refl }
word_facts w.To = record { small = refl; first = refl; each = refl; sizes = (omega arith, omega arith); back = refl }
word_facts w.True =
    record { small = refl; first = refl; each = refl; sizes = (omega arith, omega arith); back = refl }
word_facts w.Until =
    record { small = refl; first = refl; each = refl; sizes = (omega arith, omega arith); back = refl }
word_facts w.While =
    record { small = refl; first = refl; each = refl; sizes = (omega arith, omega arith); back = refl }
word_facts w.With =
    record { small = refl; first = refl; each = refl; sizes = (omega arith, omega arith); back = refl }

-- the words that begin with a small letter
abbrev pub words_with : ℕ → List Word
words_with b =
    if b == 97 then w.Abbreviate ∷ w.Array ∷ w.Attribute ∷ []
    else (if b == 98 then w.Break ∷ []
    else (if b == 99 then w.Char ∷ w.Child ∷ w.Constant ∷ w.Continue ∷ []
    else (if b == 100 then w.Default ∷ w.Do ∷ []
    else (if b == 101 then w.Else ∷ []
    else (if b == 102 then w.False ∷ w.For ∷ []
    else (if b == 103 then w.Give ∷ w.Global ∷ []
    else (if b == 104 then w.Has ∷ w.Hasnt ∷ []
    else (if b == 105 then w.If ∷ w.In ∷ []
    else (if b == 109 then w.Move ∷ []
    else (if b == 110 then w.NewLine ∷ w.Nothing ∷ w.Notin ∷ []
    else (if b == 111 then w.Object ∷ w.Objectloop ∷ w.Or ∷ []
    else (if b == 112 then w.Parent ∷ w.Print ∷ w.PrintRet ∷ w.Property ∷ w.Provides ∷ []
    else (if b == 113 then w.Quit ∷ []
    else (if b == 114 then w.Read ∷ w.Remove ∷ w.Return ∷ w.Rfalse ∷ w.Rtrue ∷ []
    else (if b == 115 then w.Sibling ∷ w.String ∷ w.Switch ∷ []
    else (if b == 116 then w.Table ∷ w.To ∷ w.True ∷ []
    else (if b == 117 then w.Until ∷ []
    else (if b == 119 then w.While ∷ w.With ∷ []
    else []))))))))))))))))))

pub begun : (x : Word) → Contains (words_with (get_or (word_spelling x) 0 0)) x
begun w.Abbreviate = (0, omega arith, refl)
begun w.Array = (1, omega arith, refl)
begun w.Attribute = (2, omega arith, refl)
begun w.Break = (0, omega arith, refl)
begun w.Char = (0, omega arith, refl)
begun w.Child = (1, omega arith, refl)
begun w.Constant = (2, omega arith, refl)
begun w.Continue = (3, omega arith, refl)
begun w.Default = (0, omega arith, refl)
begun w.Do = (1, omega arith, refl)
begun w.Else = (0, omega arith, refl)
begun w.False = (0, omega arith, refl)
begun w.For = (1, omega arith, refl)
begun w.Give = (0, omega arith, refl)
begun w.Global = (1, omega arith, refl)
begun w.Has = (0, omega arith, refl)
begun w.Hasnt = (1, omega arith, refl)
begun w.If = (0, omega arith, refl)
begun w.In = (1, omega arith, refl)
begun w.Move = (0, omega arith, refl)
begun w.NewLine = (0, omega arith, refl)
begun w.Nothing = (1, omega arith, refl)
begun w.Notin = (2, omega arith, refl)
begun w.Object = (0, omega arith, refl)
begun w.Objectloop = (1, omega arith, refl)
begun w.Or = (2, omega arith, refl)
begun w.Parent = (0, omega arith, refl)
begun w.Print = (1, omega arith, refl)
begun w.PrintRet = (2, omega arith, refl)
begun w.Property = (3, omega arith, refl)
begun w.Provides = (4, omega arith, refl)
begun w.Quit = (0, omega arith, refl)
begun w.Read = (0, omega arith, refl)
begun w.Remove = (1, omega arith, refl)
begun w.Return = (2, omega arith, refl)
begun w.Rfalse = (3, omega arith, refl)
begun w.Rtrue = (4, omega arith, refl)
begun w.Sibling = (0, omega arith, refl)
begun w.String = (1, omega arith, refl)
begun w.Switch = (2, omega arith, refl)
begun w.Table = (0, omega arith, refl)
begun w.To = (1, omega arith, refl)
begun w.True = (2, omega arith, refl)
begun w.Until = (0, omega arith, refl)
begun w.While = (0, omega arith, refl)
begun w.With = (1, omega arith, refl)

abbrev some_word : Word → Option Word
some_word x = Some x

some_word_is : (x y : Word) → some_word x ≡ some_word y → x ≡ y
some_word_is x y e = cc

-- one spelling is of one word
pub same_word : (x y : Word) (bs : List ℕ) → IsReserved x bs → IsReserved y bs → x ≡ y
same_word x y bs p q = some_word_is x y (sym (word_facts x).back ∙ ap word_from (sym p ∙ q) ∙ (word_facts y).back)

pub word_sizes : (x : Word) → (2 ≤ length (word_spelling x)) × (length (word_spelling x) ≤ 10)
word_sizes x = (word_facts x).sizes

-- a word is compared in small letters
pub spelled_true : (bs : List ℕ) (x : Word) → str_eq_ignore_ascii_case bs (word_spelling x) ≡ true → IsReserved x bs
spelled_true bs x e = (bytes_eq-Decides (str_to_ascii_lowercase bs) (str_to_ascii_lowercase (word_spelling x))).0 e
    ∙ (word_facts x).small

true_false : (t : Bool) → t ≡ true → t ≡ false → ⊥
true_false t p q = cc

pub spelled_false : (bs : List ℕ) (x : Word) → str_eq_ignore_ascii_case bs (word_spelling x) ≡ false
    → IsReserved x bs → ⊥
spelled_false bs x e r = true_false _
    ((bytes_eq-Decides (str_to_ascii_lowercase bs) (str_to_ascii_lowercase (word_spelling x))).1
    (r ∙ sym (word_facts x).small)) e

lower_letter : (b : ℕ) → is_letter (to_ascii_lowercase b) ≡ true → is_letter b ≡ true
lower_letter b e = grind (arith, nat_tests)

lower_name_byte : (b : ℕ) → is_name_byte (to_ascii_lowercase b) ≡ true → is_name_byte b ≡ true
lower_name_byte b e = grind (arith, nat_tests)

both : (x y : Bool) → cond x y false ≡ true → (x ≡ true) × (y ≡ true)
both true y e = (refl, e)
both false y e = absurd cc

lower_each : (bs : List ℕ) → all_pass is_name_byte (str_to_ascii_lowercase bs) ≡ true → Each is_name_byte bs
lower_each [] e = tt
lower_each (b ∷ bs) e = let p = both (is_name_byte (to_ascii_lowercase b)) _ e in
    (lower_name_byte b p.0, lower_each bs p.1)

-- a reserved word is of the bytes that names are of
pub reserved_each : (x : Word) (bs : List ℕ) → IsReserved x bs → Each is_name_byte bs
reserved_each x bs r = lower_each bs (ap (all_pass is_name_byte) r ∙ (word_facts x).each)

pub reserved_first : (x : Word) (b : ℕ) (bs : List ℕ) → IsReserved x (b ∷ bs) → is_letter b ≡ true
reserved_first x b bs r = lower_letter b (ap (λ xs. is_letter (get_or xs 0 0)) r ∙ (word_facts x).first)
