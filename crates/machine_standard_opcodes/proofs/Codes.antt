-- The ZSCII codes of a text.
use Rattle.std.proofs.Common.{◌≡◌, ◌≢◌, ℕ, ◌+◌, ◌<◌, ◌≤◌, List, [], ◌∷◌, ◌++◌, length, take, drop, map, refl, ap, sym}
use Rattle.std.proofs.Common.{◌∙◌, arith, slice_index, zero, suc, subst, true, false}
use Rattle.std.specs.Prelude.{◌==◌, if◌then◌else◌}
use Rattle.std.proofs.lemmas.Bool.{ne_eqb, eq-eqb}
use Rattle.std.proofs.lemmas.List.{append-nil, append_assoc, drop_all, drop_more, get_or-take, length-map}
use Rattle.std.proofs.Math.ListN.{get_or-append}
use Rattle.std.proofs.Math.Seq.{take-append_seam}
use Rattle.zcore_standard.specs.declared.streams.Begun.{Begun}
use Rattle.zcore_standard.specs.Streams.{between, next_byte, characters_in, code_among, zscii_of, zscii_in}
use Rattle.machine_standard_opcodes.specs.Begun.{IsBegun, AddsWhole}

-- The codes that were added for the first bytes of a text

pub record Added (extra old now : List ℕ) (from i : ℕ) (begun : Begun) : Type 0 where
  pub codes : List ℕ
  pub text : now ≡ old ++ codes
  pub rest : zscii_in extra (drop from old) ≡ codes ++ map (zscii_of extra) (characters_in begun (drop i old))
  pub state : IsBegun begun

pub added_none : (extra old : List ℕ) (from : ℕ) → Added extra old old from from between
added_none extra old from = record {
  codes = [];
  text = sym (append-nil old);
  rest = refl;
  state = record { few = omega arith; whole = omega arith; one = λ h. omega (arith, h); two = λ h. omega (arith, h) };
}

-- a byte that ends a character
code_more : (extra codes bytes : List ℕ) (begun : Begun) (byte : ℕ) → (next_byte begun byte).more ≡ 0
    → codes ++ map (zscii_of extra) (characters_in begun (byte ∷ bytes))
    ≡ (codes ++ zscii_of extra (next_byte begun byte).bits ∷ [])
    ++ map (zscii_of extra) (characters_in between bytes)
unfolding characters_in
code_more extra codes bytes begun byte e =
    rw (eq-eqb (next_byte begun byte).more 0 e)
    (sym (append_assoc codes (zscii_of extra (next_byte begun byte).bits ∷ [])
    (map (zscii_of extra) (characters_in between bytes))))

-- a byte that does not
code_later : (extra codes bytes : List ℕ) (begun : Begun) (byte : ℕ) → (next_byte begun byte).more ≢ 0
    → codes ++ map (zscii_of extra) (characters_in begun (byte ∷ bytes))
    ≡ codes ++ map (zscii_of extra) (characters_in (next_byte begun byte) bytes)
unfolding characters_in
code_later extra codes bytes begun byte e = rw (ne_eqb (next_byte begun byte).more 0 e) refl

-- the byte of a text to which codes were added
byte_at : (old codes now : List ℕ) (i byte : ℕ) → now ≡ old ++ codes → i < length old → byte ≡ slice_index now i
    → drop i old ≡ byte ∷ drop (i + 1) old
byte_at old codes now i byte text lt is =
    let same : byte ≡ slice_index old i = is ∙ ap (λ l. slice_index l i) text ∙ get_or-append old codes 0 i lt in
    drop_more old i 0 lt ∙ ap (λ b. b ∷ drop (i + 1) old) (sym same)

pub added_code : (extra old now more : List ℕ) (from i byte code : ℕ) (begun after : Begun)
    → Added extra old now from i begun → i < length old → byte ≡ slice_index now i → after ≡ next_byte begun byte
    → after.more ≡ 0 → code ≡ zscii_of extra after.bits → more ≡ now ++ code ∷ []
    → Added extra old more from (i + 1) between
added_code extra old now more from i byte code begun after a lt is e none c text =
    let front = byte_at old a.codes now i byte a.text lt is in
    let done : (next_byte begun byte).more ≡ 0 = ap (λ (x : Begun). x.more) (sym e) ∙ none in
    let same : code ≡ zscii_of extra (next_byte begun byte).bits = c ∙ ap (λ (x : Begun). zscii_of extra x.bits) e in
    record {
      codes = a.codes ++ code ∷ [];
      text = text ∙ ap (λ l. l ++ code ∷ []) a.text ∙ append_assoc old a.codes (code ∷ []);
      rest = a.rest ∙ ap (λ l. a.codes ++ map (zscii_of extra) (characters_in begun l)) front
          ∙ code_more extra a.codes (drop (i + 1) old) begun byte done
          ∙ ap (λ x. (a.codes ++ x ∷ []) ++ map (zscii_of extra) (characters_in between (drop (i + 1) old))) (sym same);
      state = record {
        few = omega arith;
        whole = omega arith;
        one = λ h. omega (arith, h);
        two = λ h. omega (arith, h);
      };
    }

pub added_later : (extra old now : List ℕ) (from i byte : ℕ) (begun after : Begun)
    → Added extra old now from i begun → i < length old → byte ≡ slice_index now i → after ≡ next_byte begun byte
    → IsBegun after → after.more ≢ 0 → Added extra old now from (i + 1) after
added_later extra old now from i byte begun after a lt is e b more =
    let front = byte_at old a.codes now i byte a.text lt is in
    let later : (next_byte begun byte).more ≢ 0 = λ h. more (ap (λ (x : Begun). x.more) e ∙ h) in
    record {
      codes = a.codes;
      text = a.text;
      rest = a.rest ∙ ap (λ l. a.codes ++ map (zscii_of extra) (characters_in begun l)) front
          ∙ code_later extra a.codes (drop (i + 1) old) begun byte later
          ∙ ap (λ x. a.codes ++ map (zscii_of extra) (characters_in x (drop (i + 1) old))) (sym e);
      state = b;
    }

pub added_next : (extra old now more : List ℕ) (from i byte : ℕ) (begun after next : Begun)
    → Added extra old now from i begun → i < length old → byte ≡ slice_index now i → after ≡ next_byte begun byte
    → IsBegun after → AddsWhole extra after now more next → Added extra old more from (i + 1) next
added_next extra old now more from i byte begun after next a lt is e b w =
    elim after.more as (λ n. after.more ≡ n → Added extra old more from (i + 1) next) [
      | zero ↦ λ none.
          let x = w.whole none in
          subst (Added extra old more from (i + 1)) (sym x.1)
          (added_code extra old now more from i byte (zscii_of extra after.bits) begun after a lt is e none refl x.0)
      | suc k ↦ λ some.
          let y = w.parted (λ none. absurd (omega (arith, some, none))) in
          subst (λ l. Added extra old l from (i + 1) next) (sym y.0)
          (subst (Added extra old now from (i + 1)) (sym y.1)
          (added_later extra old now from i byte begun after a lt is e b
          (λ none. absurd (omega (arith, some, none)))))
    ] refl

pub added_all : (extra old now : List ℕ) (from i : ℕ) (begun : Begun) → Added extra old now from i begun
    → length old ≤ i → now ≡ old ++ zscii_in extra (drop from old)
unfolding characters_in
added_all extra old now from i begun a le =
    let none : map (zscii_of extra) (characters_in begun (drop i old)) ≡ [] =
    ap (λ l. map (zscii_of extra) (characters_in begun l)) (drop_all i old le) in
    a.text ∙ ap (λ l. old ++ l) (sym (a.rest ∙ ap (λ l. a.codes ++ l) none ∙ append-nil a.codes))

-- the text before the codes
pub added_front : (extra old now : List ℕ) (from i : ℕ) (begun : Begun) → Added extra old now from i begun
    → take (length old) now ≡ old
added_front extra old now from i begun a = ap (take (length old)) a.text ∙ take-append_seam old a.codes

-- The characters of the first bytes of a text, counted

abbrev pub Counted : List ℕ → ℕ → ℕ → Begun → Type 0
Counted bytes i count begun =
    count + length (characters_in begun (drop i bytes)) ≡ length (characters_in between bytes)

pub counted_none : (bytes : List ℕ) → Counted bytes 0 0 between
counted_none bytes = omega arith

-- a byte that ends a character, and one that does not
pub counted_whole : (bytes : List ℕ) (i byte count : ℕ) (begun after : Begun) → Counted bytes i count begun
    → i < length bytes → byte ≡ slice_index bytes i → after ≡ next_byte begun byte → after.more ≡ 0
    → Counted bytes (i + 1) (count + 1) between
unfolding characters_in
counted_whole bytes i byte count begun after h lt is e none =
    let ends : ((next_byte begun byte).more == 0) ≡ true = eq-eqb _ 0 (ap (λ (x : Begun). x.more) (sym e) ∙ none) in
    let front : drop i bytes ≡ byte ∷ drop (i + 1) bytes =
    drop_more bytes i 0 lt ∙ ap (λ b. b ∷ drop (i + 1) bytes) (sym is) in
    let here : characters_in begun (byte ∷ drop (i + 1) bytes)
    ≡ (next_byte begun byte).bits ∷ characters_in between (drop (i + 1) bytes) = rw ends refl in
    omega (arith, h, ap (λ l. length (characters_in begun l)) front, ap length here)

pub counted_later : (bytes : List ℕ) (i byte count : ℕ) (begun after : Begun) → Counted bytes i count begun
    → i < length bytes → byte ≡ slice_index bytes i → after ≡ next_byte begun byte → after.more ≢ 0
    → Counted bytes (i + 1) count after
unfolding characters_in
counted_later bytes i byte count begun after h lt is e more =
    let later : ((next_byte begun byte).more == 0) ≡ false =
    ne_eqb _ 0 (λ n. more (ap (λ (x : Begun). x.more) e ∙ n)) in
    let front : drop i bytes ≡ byte ∷ drop (i + 1) bytes =
    drop_more bytes i 0 lt ∙ ap (λ b. b ∷ drop (i + 1) bytes) (sym is) in
    let here : length (characters_in begun (byte ∷ drop (i + 1) bytes))
    ≡ length (characters_in (next_byte begun byte) (drop (i + 1) bytes)) = rw later refl in
    omega (
      arith,
      h,
      ap (λ l. length (characters_in begun l)) front,
      here,
      ap (λ x. length (characters_in x (drop (i + 1) bytes))) e,
    )

pub counted_all : (bytes : List ℕ) (i count : ℕ) (begun : Begun) → Counted bytes i count begun → length bytes ≤ i
    → count ≡ length (characters_in between bytes)
unfolding characters_in
counted_all bytes i count begun h le =
    let none : length (characters_in begun (drop i bytes)) ≡ 0 =
    ap (λ l. length (characters_in begun l)) (drop_all i bytes le) in
    omega (arith, h, none)

-- no character has begun
pub is_between : IsBegun between
is_between = record { few = omega arith; whole = omega arith; one = λ h. omega (arith, h); two = λ h. omega (arith, h) }

-- there are no more codes than bytes

pub fewer_characters : (begun : Begun) (bytes : List ℕ) → length (characters_in begun bytes) ≤ length bytes
unfolding characters_in
fewer_characters begun [] = omega arith
fewer_characters begun (byte ∷ bytes) = elim ((next_byte begun byte).more == 0) as (λ b.
    length (if b then (next_byte begun byte).bits ∷ characters_in between bytes
    else characters_in (next_byte begun byte) bytes) ≤ length (byte ∷ bytes)) [
      | true ↦ let h = fewer_characters between bytes in omega (arith, h)
      | false ↦ let h = fewer_characters (next_byte begun byte) bytes in omega (arith, h)
    ]

pub few_codes : (extra bytes : List ℕ) → length (zscii_in extra bytes) ≤ length bytes
few_codes extra bytes =
    let h = fewer_characters between bytes in
    omega (arith, h, length-map (characters_in between bytes) (zscii_of extra))

pub some_more : (n : ℕ) → n ≢ 0 → 1 ≤ n
some_more zero h = absurd (h refl)
some_more (suc n) h = omega arith
