-- The longest sign at the front.
use Rattle.std.proofs.Common.{◌≡◌, ℕ, zero, suc, ◌<◌, ◌≤◌, ◌⊎◌, Bool, true, false, eqb, ◌||◌, List, [], ◌∷◌, length}
use Rattle.std.proofs.Common.{get_or, take, Option, Some, None, Result, Ok, Err, refl, sym, ap, subst, ◌∙◌, arith}
use Rattle.std.proofs.Common.{inl, inr}
use Rattle.std.specs.Prelude.{IfOk, MatchOption}
use Rattle.std.proofs.lemmas.Bool.Decides.{nat_tests}
use Rattle.std.proofs.lemmas.List.{length-take}
use Rattle.syntax_lexer.specs.declared.fault.LexicalFault.{LexicalFault}
use Rattle.syntax_lexer.specs.declared.fault.LexicalFault.TheVariants as f
use Rattle.syntax_lexer.specs.declared.token.Kind.{Kind}
use Rattle.syntax_lexer.specs.Bytes.{is_letter, is_digit, is_divider}
use Rattle.syntax_lexer.specs.declared.token.Sign.{Sign}
use Rattle.syntax_lexer.specs.declared.token.Sign.TheVariants as s
use Rattle.syntax_lexer.specs.declared.token.Position.{Position}
use Rattle.syntax_lexer.specs.Token.{Lexeme, sign, lexeme_of}
use Rattle.syntax_lexer.specs.Spelling.{sign_spelling, Spells}
use Rattle.syntax_lexer.specs.Tokens.{IsLongest, Breaks}
use Rattle.syntax_lexer.specs.Fronts.{begins_longer, HasNoSign, IsLone, IsLongestSign, Scanned}
use Rattle.syntax_lexer.proofs.SignTables.{sign_facts, first_alone, first_alone_is, longer_first}
use Rattle.syntax_lexer.proofs.Beginnings.{class_of, class_at, begins, takes, sign_class}
use Rattle.syntax_lexer.proofs.Longest.{front_class}

pub record Exact (bs xs : List ℕ) (n : ℕ) : Type 0 where
  pub within : length xs ≤ length bs
  pub same : take (length xs) bs ≡ xs
  pub less : length xs ≤ n
  pub all : n ≤ length bs → n ≡ length xs

-- bytes that stand at the front
pub exact : (bs xs : List ℕ) (n : ℕ) → take n bs ≡ xs → Exact bs xs n
exact bs xs zero e = subst (λ ys. Exact bs ys 0) e
    (record { within = omega arith; same = refl; less = omega arith; all = λ le. refl })
exact [] xs (suc n) e = subst (λ ys. Exact [] ys (suc n)) e
    (record { within = omega arith; same = refl; less = omega arith; all = λ le. absurd (omega arith) })
exact (b ∷ bs) xs (suc n) e =
    let more = exact bs (take n bs) n refl in
    subst (λ ys. Exact (b ∷ bs) ys (suc n)) e
    (record {
      within = omega (arith, more.within);
      same = ap (λ ys. b ∷ ys) more.same;
      less = omega (arith, more.less);
      all = λ le. ap suc (more.all (omega arith));
    })

-- the first three bytes, and 0 past the end
abbrev heads : List ℕ → List ℕ
heads bs = get_or bs 0 0 ∷ get_or bs 1 0 ∷ get_or bs 2 0 ∷ []

front_one : (bs : List ℕ) → 1 ≤ length bs → take 1 bs ≡ get_or bs 0 0 ∷ []
front_one [] le = absurd (omega arith)
front_one (a ∷ bs) le = refl

front_two : (bs : List ℕ) → 2 ≤ length bs → take 2 bs ≡ get_or bs 0 0 ∷ get_or bs 1 0 ∷ []
front_two [] le = absurd (omega arith)
front_two (a ∷ []) le = absurd (omega arith)
front_two (a ∷ b ∷ bs) le = refl

front_three : (bs : List ℕ) → 3 ≤ length bs → take 3 bs ≡ heads bs
front_three [] le = absurd (omega arith)
front_three (a ∷ []) le = absurd (omega arith)
front_three (a ∷ b ∷ []) le = absurd (omega arith)
front_three (a ∷ b ∷ c ∷ bs) le = refl

-- a byte that is not 0 is within the bytes
pub byte_within : (bs : List ℕ) (n : ℕ) → 0 < get_or bs n 0 → n < length bs
byte_within [] n lt = absurd (omega arith)
byte_within (b ∷ bs) zero lt = omega arith
byte_within (b ∷ bs) (suc n) lt = omega (arith, byte_within bs n lt)

-- which sign stands at the front, by its length
record FoundSign (bs : List ℕ) (x : Sign) : Type 0 where
  sizes : ((length (sign_spelling x) ≡ 1) × (sign_spelling x ≡ get_or bs 0 0 ∷ []))
      ⊎ (((length (sign_spelling x) ≡ 2) × (sign_spelling x ≡ get_or bs 0 0 ∷ get_or bs 1 0 ∷ []))
      ⊎ ((x ≡ s.LongArrow) × (heads bs ≡ sign_spelling s.LongArrow)))

found : (bs : List ℕ) (x : Sign) (n : ℕ) → take n bs ≡ sign_spelling x → FoundSign bs x
found bs x n e = go (exact bs (sign_spelling x) n e) (sign_facts x).sizes
  where
    go : Exact bs (sign_spelling x) n → (length (sign_spelling x) ≡ 1)
        ⊎ ((length (sign_spelling x) ≡ 2) ⊎ (x ≡ s.LongArrow)) → FoundSign bs x
    go p (inl one) =
        record { sizes = inl (one, sym p.same ∙ ap (λ k. take k bs) one ∙ front_one bs (omega (arith, p.within))) }
    go p (inr (inl two)) =
        record {
          sizes = inr
              (inl (two, sym p.same ∙ ap (λ k. take k bs) two ∙ front_two bs (omega (arith, p.within))));
        }
    go p (inr (inr three)) =
        let size : length (sign_spelling x) ≡ 3 = ap (λ y. length (sign_spelling y)) three in
        record {
          sizes = inr
              (inr (
                three,
                sym (front_three bs (omega (arith, p.within))) ∙ ap (λ k. take k bs) (sym size) ∙ p.same
                    ∙ ap sign_spelling three,
              ));
        }

longest : (x : Sign) → length (sign_spelling x) ≤ 3
longest x = elim (sign_facts x).sizes [
  | inl e ↦ omega arith
  | inr e ↦ elim e [
    | inl e ↦ omega arith
    | inr e ↦ let size : length (sign_spelling x) ≡ 3 = ap (λ y. length (sign_spelling y)) e in
        omega arith
  ]
]

module _ (bs : List ℕ) where
  pub three : heads bs ≡ sign_spelling s.LongArrow → IsLongestSign s.LongArrow bs
  three e =
      let last : get_or bs 2 0 ≡ 62 = ap (λ xs. get_or xs 2 0) e in
      let within : 2 < length bs = byte_within bs 2 (omega arith) in
      record {
        within = within;
        spelled = front_three bs within ∙ e;
        no_longer = λ other n t le. omega (arith, (exact bs (sign_spelling other) n t).all le, longest other);
      }

  pub two : (x : Sign) → (heads bs ≡ sign_spelling s.LongArrow → ⊥)
      → sign_spelling x ≡ get_or bs 0 0 ∷ get_or bs 1 0 ∷ [] → IsLongestSign x bs
  two x not_three e =
      let size : length (sign_spelling x) ≡ 2 = ap length e in
      let second : get_or (sign_spelling x) 1 1 ≡ get_or bs 1 0 = ap (λ xs. get_or xs 1 1) e in
      let within : 1 < length bs = byte_within bs 1 (omega (arith, (sign_facts x).second)) in
      record {
        within = omega arith;
        spelled = ap (λ k. take k bs) size ∙ front_two bs within ∙ sym e;
        no_longer = no_longer size;
      }
    where
      no_longer : length (sign_spelling x) ≡ 2 → (other : Sign) (n : ℕ) → take n bs ≡ sign_spelling other
          → n ≤ length bs → n ≤ length (sign_spelling x)
      no_longer size other n t le =
          let same = (exact bs (sign_spelling other) n t).all le in
          elim (found bs other n t).sizes [
            | inl q ↦ omega (arith, same, q.0)
            | inr q ↦ elim q
                [ inl q ↦ omega (arith, same, q.0) | inr q ↦ absurd (not_three q.1) ]
          ]

  pub one : (x : Sign) → (heads bs ≡ sign_spelling s.LongArrow → ⊥)
      → ((y : Sign) → sign_spelling y ≡ get_or bs 0 0 ∷ get_or bs 1 0 ∷ [] → ⊥)
      → sign_spelling x ≡ get_or bs 0 0 ∷ [] → IsLongestSign x bs
  one x not_three not_two e =
      let size : length (sign_spelling x) ≡ 1 = ap length e in
      let first : get_or (sign_spelling x) 0 0 ≡ get_or bs 0 0 = ap (λ xs. get_or xs 0 0) e in
      let within : 0 < length bs = byte_within bs 0 (omega (arith, (sign_facts x).first)) in
      record {
        within = omega arith;
        spelled = ap (λ k. take k bs) size ∙ front_one bs within ∙ sym e;
        no_longer = no_longer size;
      }
    where
      no_longer : length (sign_spelling x) ≡ 1 → (other : Sign) (n : ℕ) → take n bs ≡ sign_spelling other
          → n ≤ length bs → n ≤ length (sign_spelling x)
      no_longer size other n t le =
          let same = (exact bs (sign_spelling other) n t).all le in
          elim (found bs other n t).sizes [
            | inl q ↦ omega (arith, same, q.0)
            | inr q ↦ elim q
                [ inl q ↦ absurd (not_two other q.1) | inr q ↦ absurd (not_three q.1) ]
          ]

  pub none : (heads bs ≡ sign_spelling s.LongArrow → ⊥)
      → ((y : Sign) → sign_spelling y ≡ get_or bs 0 0 ∷ get_or bs 1 0 ∷ [] → ⊥)
      → ((y : Sign) → sign_spelling y ≡ get_or bs 0 0 ∷ [] → ⊥) → HasNoSign bs
  none not_three not_two not_one other n t = elim (found bs other n t).sizes
      [ inl q ↦ not_one other q.1 | inr q ↦ elim q [ inl q ↦ not_two other q.1 | inr q ↦ not_three q.1 ] ]

-- the first byte begins no longer sign

clash : (t : Bool) → t ≡ true → t ≡ false → ⊥
clash t p q = cc

pub lone_found : (bs : List ℕ) (x : Sign) → IsLone (get_or bs 0 0) x → IsLongestSign x bs
lone_found bs x lone = one bs x
    (λ h. clash (begins_longer (get_or bs 0 0)) (ap (λ xs. begins_longer (get_or xs 0 0)) h) lone.1)
    (λ y e. clash (begins_longer (get_or bs 0 0))
    (ap (λ xs. begins_longer (get_or xs 0 0)) (sym e) ∙ longer_first y (omega (arith, ap length e))) lone.1)
    lone.0

-- the same, at three bytes that the code has read
module _ (bs : List ℕ) (a b c : ℕ) (ea : a ≡ get_or bs 0 0) (eb : b ≡ get_or bs 1 0) (ec : c ≡ get_or bs 2 0) where
  same_heads : a ∷ b ∷ c ∷ [] ≡ heads bs
  same_heads = rw (ea, eb, ec) refl

  same_two : a ∷ b ∷ [] ≡ get_or bs 0 0 ∷ get_or bs 1 0 ∷ []
  same_two = rw (ea, eb) refl

  same_one : a ∷ [] ≡ get_or bs 0 0 ∷ []
  same_one = rw ea refl

  pub three_found : a ∷ b ∷ c ∷ [] ≡ sign_spelling s.LongArrow → IsLongestSign s.LongArrow bs
  three_found e = three bs (sym same_heads ∙ e)

  module _ (not_three : a ∷ b ∷ c ∷ [] ≡ sign_spelling s.LongArrow → ⊥) where
    pub two_found : (x : Sign) → sign_spelling x ≡ a ∷ b ∷ [] → IsLongestSign x bs
    two_found x e = two bs x (λ h. not_three (same_heads ∙ h)) (e ∙ same_two)

    pub one_found : ((y : Sign) → sign_spelling y ≡ a ∷ b ∷ [] → ⊥) → (o : Option Sign)
        → MatchOption o ((y : Sign) → sign_spelling y ≡ a ∷ [] → ⊥) (λ y. sign_spelling y ≡ a ∷ [])
        → MatchOption o (HasNoSign bs) (λ y. IsLongestSign y bs)
    one_found not_two None h = none bs (λ e. not_three (same_heads ∙ e)) (λ y e. not_two y (e ∙ sym same_two))
        (λ y e. h y (e ∙ sym same_one))
    one_found not_two (Some x) h = one bs x (λ e. not_three (same_heads ∙ e)) (λ y e. not_two y (e ∙ sym same_two))
        (h ∙ same_one)

-- ---- among all tokens

pub sign_found : (bs : List ℕ) (x : Sign) (n : ℕ) → IsLongestSign x bs → n ≡ length (sign_spelling x)
    → (p : Position) → IsLongest bs (sign x p) n × Unit {0}
sign_found bs x n h e p = (
  subst (IsLongest bs (sign x p)) (sym e)
      (record {
        within = h.within;
        spelled = h.spelled;
        no_longer = λ other m lt le t. longer other m lt le t
            (sym (front_class bs other m t) ∙ front_class bs (sign x p) (length (sign_spelling x)) h.spelled);
      }),
  tt,
)
  where
    longer : (other : Lexeme) (m : ℕ) → length (sign_spelling x) < m → m ≤ length bs → Spells other (take m bs)
        → class_of other ≡ 5 → ⊥
    longer (sign y q) m lt le t c = omega (arith, h.no_longer y m t le)
    longer other m lt le t c = omega arith

-- where no sign stands, the byte begins none
stray : (b : ℕ) (bs : List ℕ) → HasNoSign (b ∷ bs) → class_at b ≡ 5 → (x : Lexeme) (more : List ℕ)
    → Spells x (b ∷ more) → ⊥
stray b bs h c x more t = go x t (sym (begins x b more t) ∙ c)
  where
    go : (x : Lexeme) → Spells x (b ∷ more) → class_of x ≡ 5 → ⊥
    go (sign y q) t e =
        let first : b ≡ get_or (sign_spelling y) 0 0 = ap (λ xs. get_or xs 0 0) t in
        h (first_alone y) 1 (ap (λ k. k ∷ []) first ∙ sym (first_alone_is y))
    go x t e = omega arith

not_equal : (a n : ℕ) → (a ≡ n → ⊥) → eqb a n ≡ false
not_equal a n h = grind (arith, nat_tests)

pub stray_found : (bs : List ℕ) → 0 < length bs → is_divider (get_or bs 0 0) ≡ false → eqb (get_or bs 0 0) 33 ≡ false
    → is_letter (get_or bs 0 0) ≡ false → (is_digit (get_or bs 0 0) || eqb (get_or bs 0 0) 36) ≡ false
    → (get_or bs 0 0 ≡ 34 → ⊥) → (get_or bs 0 0 ≡ 39 → ⊥) → HasNoSign bs → Breaks f.StrayByte bs
stray_found [] lt d c l n t q h = absurd (omega arith)
stray_found (b ∷ bs) lt d c l n t q h =
    (d, c, stray b bs h (sign_class b l n (not_equal b 34 t) (not_equal b 39 q) d c))

-- ---- a token takes a byte

pub room : (bs : List ℕ) (r : Result (Kind × ℕ) LexicalFault) → Scanned bs r
    → IfOk r (λ x. (0 < x.1) × (x.1 ≤ length bs))
room bs (Ok x) h =
    let p : Position = record { offset = 0; line = 0 } in
    let long = (h p).0 in
    (omega (arith, takes (lexeme_of x.0 p) (take x.1 bs) long.spelled, length-take x.1 bs), long.within)
room bs (Err g) h = tt
