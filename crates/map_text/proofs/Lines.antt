-- The bytes of a line.
use Rattle.std.proofs.Common.{◌≡◌, ◌<◌, ◌+◌, ◌/◌, ◌%◌, ◌^◌, ℕ, List, [], ◌∷◌, ◌++◌, length, refl, sym, ap, ◌∙◌, arith}
use Rattle.std.proofs.Common.{Option, Some, None, drop_of_length-le}
use Rattle.std.specs.List.{All}
use Rattle.std.specs.Fmt.{decimal}
use Rattle.std.proofs.lemmas.List.Elements.{All-nil, All-cons, All-append, All-weaker}
use Rattle.std.proofs.lemmas.Fmt.{decimal_by_steps}
use Rattle.map_text.specs.Text.{RowOf, IsRow, address_text, digit, row_text, space, line_feed}
use Rattle.map_text.specs.Reading.{address_in, after, before, made_row, number_in, place, row_in}
use Rattle.map_text.proofs.Cuts.{parts_at}
use Rattle.map_text.proofs.Digits.{address_of_text, number_of_text}

pub digit_above : (n : ℕ) → space < digit (n % 16)
digit_above n = omega arith

pub address_above : (a : ℕ) → All (λ b. space < b) (address_text a)
address_above a =
    let P : ℕ → Type 0 = λ b. space < b in
    let d1 = digit (a / 65536 % 16) in
    let d2 = digit (a / 4096 % 16) in
    let d3 = digit (a / 256 % 16) in
    let d4 = digit (a / 16 % 16) in
    let d5 = digit (a % 16) in
    All-cons P d1 (d2 ∷ d3 ∷ d4 ∷ d5 ∷ []) (digit_above (a / 65536))
    (All-cons P d2 (d3 ∷ d4 ∷ d5 ∷ []) (digit_above (a / 4096))
    (All-cons P d3 (d4 ∷ d5 ∷ []) (digit_above (a / 256))
    (All-cons P d4 (d5 ∷ []) (digit_above (a / 16))
    (All-cons P d5 [] (digit_above a) (All-nil P)))))

-- the digits of a number
pub decimal_above : (n : ℕ) → n < 2 ^ 64 → All (λ b. line_feed < b) (decimal n)
decimal_above n lt =
    let P : ℕ → Type 0 = λ b. line_feed < b in
    decimal_by_steps (λ m ds. All P ds) (λ m low. All-cons P (48 + m) [] (omega arith) (All-nil P))
    (λ m ds high more. All-append P ds ((48 + m % 10) ∷ []) more (All-cons P (48 + m % 10) [] (omega arith) (All-nil P)))
    n lt

higher : (b : ℕ) → space < b → line_feed < b
higher b lt = omega (arith, lt)

pub row_above : (r : RowOf) → IsRow r → All (λ b. line_feed < b) (row_text r)
row_above r ok =
    let P : ℕ → Type 0 = λ b. line_feed < b in
    let S : ℕ → Type 0 = λ b. space < b in
    let name = r.routine ++ space ∷ decimal r.line in
    All-append P (address_text r.address) (space ∷ name)
    (All-weaker S P higher (address_text r.address) (address_above r.address))
    (All-cons P space name (omega arith)
    (All-append P r.routine (space ∷ decimal r.line) (All-weaker S P higher r.routine ok.named)
    (All-cons P space (decimal r.line) (omega arith) (decimal_above r.line ok.word))))

-- The row of a line

no_number : (o : Option ℕ) (name : List ℕ) → made_row o name None ≡ None
no_number None name = refl
no_number (Some a) name = refl

pub row_is : (line digits rest name number : List ℕ) (o n : Option ℕ) → digits ≡ before space line
    → rest ≡ after space line → name ≡ before space rest → number ≡ after space rest → o ≡ address_in digits
    → n ≡ number_in number → made_row o name n ≡ row_in line
row_is line digits rest name number o n ed er en em eo el =
    ap (λ (x : Option ℕ). made_row x name n) eo ∙ ap (λ (x : Option ℕ). made_row (address_in digits) name x) el
    ∙ ap (λ (x : List ℕ). made_row (address_in x) name (number_in number)) ed
    ∙ ap (λ (x : List ℕ). made_row (address_in (before space line)) x (number_in number)) en
    ∙ ap (λ (x : List ℕ). made_row (address_in (before space line)) (before space rest) (number_in x)) em
    ∙ ap (λ (x : List ℕ). made_row (address_in (before space line)) (before space x) (number_in (after space x))) er

-- the address may be any where there is no number
pub none_is : (line rest : List ℕ) → rest ≡ after space line → place space rest ≡ length rest → None ≡ row_in line
none_is line rest er none =
    let end : after space rest ≡ [] = drop_of_length-le rest (omega (arith, none)) in
    sym (ap (λ (x : List ℕ). made_row (address_in (before space line)) (before space x) (number_in (after space x)))
    (sym er)
    ∙ ap (λ (x : List ℕ). made_row (address_in (before space line)) (before space rest) (number_in x)) end
    ∙ no_number (address_in (before space line)) (before space rest))

pub no_rest : (line : List ℕ) → place space line ≡ length line → None ≡ row_in line
no_rest line none =
    let end : after space line ≡ [] = drop_of_length-le line (omega (arith, none)) in
    none_is line [] (sym end) refl

-- a line that is written of a row
pub row_of_text : (r : RowOf) → IsRow r → row_in (row_text r) ≡ Some r
row_of_text r ok =
    let rest = r.routine ++ space ∷ decimal r.line in
    let first = parts_at space (address_text r.address) rest (address_above r.address) in
    let second = parts_at space r.routine (decimal r.line) ok.named in
    sym (row_is (row_text r) (address_text r.address) rest r.routine (decimal r.line) (Some r.address) (Some r.line)
    (sym first.0) (sym first.1) (sym second.0) (sym second.1) (sym (address_of_text r.address ok.low))
    (sym (number_of_text r.line ok.word)))
