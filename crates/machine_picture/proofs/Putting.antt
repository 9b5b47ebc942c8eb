-- Characters that are drawn one after another.
use Rattle.std.proofs.Common.{◌≡◌, ◌≢◌, ℕ, ◌+◌, ◌<◌, ◌≤◌, List, ◌∷◌, length, drop, refl, ap, sym, ◌∙◌, arith}
use Rattle.std.proofs.Common.{slice_index, zero, suc, subst, [], false, true, Bool}
use Rattle.std.specs.Prelude.{◌==◌, ◌&&◌, nat_lt, if◌then◌else◌}
use Rattle.std.proofs.lemmas.Bool.{ne_eqb, eq-eqb, le-ltb}
use Rattle.std.proofs.lemmas.List.{drop_all, drop_more}
use Rattle.zcore_standard.specs.declared.streams.Begun.{Begun}
use Rattle.zcore_standard.specs.Streams.{between, next_byte, characters_in}
use Rattle.machine_picture.specs.Begun.{IsBegun}
use Rattle.machine_picture.specs.Drawing.{PutsWhole}
use Rattle.machine_picture.specs.Picture.{Picture, drawn, drawn_beside, put, put_beside}

pub none_begun : IsBegun between
none_begun = record {
  few = omega arith;
  whole = omega arith;
  one = λ h. omega (arith, h);
  two = λ h. omega (arith, h);
}

-- a byte that ends a character
drawn_whole : (margin : ℕ) (bytes : List ℕ) (begun : Begun) (byte : ℕ) (p : Picture) → (next_byte begun byte).more ≡ 0
    → drawn_beside margin (characters_in begun (byte ∷ bytes)) p
    ≡ drawn_beside margin (characters_in between bytes) (put_beside margin (next_byte begun byte).bits p)
unfolding characters_in drawn_beside
drawn_whole margin bytes begun byte p e = rw (eq-eqb (next_byte begun byte).more 0 e) refl

-- a byte that does not
drawn_later : (margin : ℕ) (bytes : List ℕ) (begun : Begun) (byte : ℕ) (p : Picture) → (next_byte begun byte).more ≢ 0
    → drawn_beside margin (characters_in begun (byte ∷ bytes)) p ≡ drawn_beside margin (characters_in (next_byte begun byte) bytes) p
unfolding characters_in drawn_beside
drawn_later margin bytes begun byte p e = rw (ne_eqb (next_byte begun byte).more 0 e) refl

-- one byte of some
pub at_byte : (bytes : List ℕ) (i byte : ℕ) → i < length bytes → byte ≡ slice_index bytes i
    → drop i bytes ≡ byte ∷ drop (i + 1) bytes
at_byte bytes i byte lt is = drop_more bytes i 0 lt ∙ ap (λ b. b ∷ drop (i + 1) bytes) (sym is)

by_more : (margin : ℕ) (bytes : List ℕ) (i byte : ℕ) (begun after next : Begun) (p q : Picture) (more : ℕ)
    → i < length bytes → byte ≡ slice_index bytes i → after ≡ next_byte begun byte → PutsWhole margin after p q next
    → after.more ≡ more
    → drawn_beside margin (characters_in next (drop (i + 1) bytes)) q ≡ drawn_beside margin (characters_in begun (drop i bytes)) p
by_more margin bytes i byte begun after next p q zero lt is e w none =
    let x = w.whole none in
    let rest = drop (i + 1) bytes in
    let ended : (next_byte begun byte).more ≡ 0 = ap (λ (b : Begun). b.more) (sym e) ∙ none in
    ap (λ n. drawn_beside margin (characters_in n rest) q) x.1
    ∙ ap (drawn_beside margin (characters_in between rest)) (x.0 ∙ ap (λ (b : Begun). put_beside margin b.bits p) e)
    ∙ sym (ap (λ l. drawn_beside margin (characters_in begun l) p) (at_byte bytes i byte lt is)
    ∙ drawn_whole margin rest begun byte p ended)
by_more margin bytes i byte begun after next p q (suc k) lt is e w some =
    let rest = drop (i + 1) bytes in
    let y = w.parted (λ none. absurd (omega (arith, some, none))) in
    let later : (next_byte begun byte).more ≢ 0 =
    λ none. absurd (omega (arith, some, none, ap (λ (b : Begun). b.more) e)) in
    ap (λ n. drawn_beside margin (characters_in n rest) q) (y.1 ∙ e)
    ∙ ap (drawn_beside margin (characters_in (next_byte begun byte) rest)) y.0
    ∙ sym (ap (λ l. drawn_beside margin (characters_in begun l) p) (at_byte bytes i byte lt is)
    ∙ drawn_later margin rest begun byte p later)

pub drawn_next : (margin : ℕ) (bytes : List ℕ) (i byte : ℕ) (begun after next : Begun) (p q : Picture)
    → i < length bytes → byte ≡ slice_index bytes i → after ≡ next_byte begun byte → PutsWhole margin after p q next
    → drawn_beside margin (characters_in next (drop (i + 1) bytes)) q ≡ drawn_beside margin (characters_in begun (drop i bytes)) p
drawn_next margin bytes i byte begun after next p q lt is e w =
    by_more margin bytes i byte begun after next p q after.more lt is e w refl

-- what has begun after it
begun_by : (margin : ℕ) (after next : Begun) (p q : Picture) (more : ℕ) → IsBegun after → PutsWhole margin after p q next
    → after.more ≡ more → IsBegun next
begun_by margin after next p q zero b w none = subst IsBegun (sym (w.whole none).1) none_begun
begun_by margin after next p q (suc k) b w some =
    subst IsBegun (sym (w.parted (λ none. absurd (omega (arith, some, none)))).1) b

pub begun_next : (margin : ℕ) (after next : Begun) (p q : Picture) → IsBegun after → PutsWhole margin after p q next → IsBegun next
begun_next margin after next p q b w = begun_by margin after next p q after.more b w refl

-- none are left
pub drawn_all : (margin : ℕ) (bytes : List ℕ) (i : ℕ) (begun : Begun) (p q : Picture) → length bytes ≤ i
    → drawn_beside margin (characters_in begun (drop i bytes)) p ≡ q → p ≡ q
unfolding characters_in drawn_beside
drawn_all margin bytes i begun p q le e =
    sym (ap (λ l. drawn_beside margin (characters_in begun l) p) (drop_all i bytes le)) ∙ e

-- Where there is no margin, each character is put

put_freely : (b is_before : Bool) (p q : Picture) → is_before ≡ false → (if b && is_before then p else q) ≡ q
put_freely true false p q e = refl
put_freely false false p q e = refl
put_freely b true p q e = absurd (cc)

pub drawn_freely : (characters : List ℕ) (p : Picture) → drawn_beside 0 characters p ≡ drawn characters p
unfolding drawn drawn_beside
drawn_freely [] p = refl
drawn_freely (character ∷ characters) p =
    ap (drawn_beside 0 characters) (put_freely (character == 32) (nat_lt p.column 0) _ (put character p)
    (le-ltb p.column 0 (omega arith)))
    ∙ drawn_freely characters (put character p)
