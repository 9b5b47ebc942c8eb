-- The fault of a source has a place exactly where it stands at an offset: each token and each broken rule stands in the
-- line that it names.
use Rattle.std.proofs.Common.{◌≡◌, ◌≢◌, ◌⊎◌, ◌↔◌, inl, inr, ℕ, ◌<◌, true, List, [], ◌∷◌, ◌++◌, Option, Some, None, Ok, refl, sym}
use Rattle.std.proofs.Common.{ap, ◌∙◌, subst, arith}
use Rattle.std.specs.Prelude.{IfSome}
use Rattle.std.specs.Option.{option_map}
use Rattle.syntax_lexer.specs.declared.fault.LexicalFault.{LexicalFault}
use Rattle.syntax_lexer.specs.declared.fault.LexicalFault.TheVariants as broken
use Rattle.syntax_lexer.specs.declared.fault.PlacedFault.{PlacedFault}
use Rattle.syntax_lexer.specs.declared.fault.SourceFault.{SourceFault}
use Rattle.syntax_lexer.specs.declared.token.Position.{Position}
use Rattle.syntax_lexer.specs.Placed.{IsInLine}
use Rattle.syntax_lexer.specs.Token.{Lexeme, position_of}
use Rattle.syntax_lexer.specs.Tokens.{SourceToken, Lexes, number_of}
use Rattle.syntax_lexer.proofs.Lines.{AllInLine, tokens_in_line, fault_in_line}
use Rattle.checker_values.specs.declared.breach.Breach.{Breach}
use Rattle.checker_values.specs.Breaches.{IsAmong}
use Rattle.checker.specs.Programs.{program_breaches}
use Rattle.messages_diagnosis.proofs.Sounds.{is_rule, EachSounds, EachStands, Stand}
use Rattle.messages_diagnosis.proofs.Programs.{breaches_stand, heavy_stands}
use Rattle.messages_parts.specs.declared.diagnosis.Diagnosis.{Diagnosis}
use Rattle.messages_parts.specs.declared.place.Place.{Place}
use Rattle.story.specs.Refused.{lexemes_of, tree_weight}
use Rattle.story.specs.FaultPlaces.{IsUnplaced, StandsAt, Stands, nowhere, in_tokens, not_in_grammar}
use Rattle.story.specs.FaultPlaces.{too_deep, rule_broken, routine_too_large}
use Rattle.messages_diagnosis.specs.Diagnosed.{placed_of, IsToldExactly}

-- ---- numbers

not_one_of : (n m : ℕ) → n ≡ m → IsUnplaced n → m < 30 → ⊥
not_one_of n m e u lt = elim u [
  | inl a ↦ omega (arith, a, e, lt)
  | inr b ↦ elim b [
    | inl c ↦ omega (arith, c, e, lt)
    | inr d ↦ omega (arith, d, e, lt)
  ]
]

not_heavy : (n : ℕ) → n ≡ 32 → IsUnplaced n → ⊥
not_heavy n e u = elim u [
  | inl a ↦ omega (arith, a, e)
  | inr b ↦ elim b [
    | inl c ↦ omega (arith, c, e)
    | inr d ↦ omega (arith, d, e)
  ]
]

is_told : (n m : ℕ) → n ≡ m → is_rule n ≡ true → is_rule m ≡ true
is_told n m e h = ap is_rule (sym e) ∙ h

not_rule : (n : ℕ) → is_rule n ≡ true → IsUnplaced n → ⊥
not_rule n h u = elim u [
  | inl a ↦ (let never = is_told n 30 a h in absurd cc)
  | inr b ↦ elim b [
    | inl c ↦ (let never = is_told n 31 c h in absurd cc)
    | inr d ↦ (let never = is_told n 99 d h in absurd cc)
  ]
]

some_none : (n : ℕ) → Some n ≡ None → ⊥
some_none n e = cc

no_place : (p : Place) → Some p ≡ None → ⊥
no_place p e = cc

not_token : (g : LexicalFault) (n : ℕ) → n ≡ number_of g → IsUnplaced n → ⊥
not_token broken.StrayByte n e u = not_one_of n 1 e u (omega arith)
not_token broken.BadText n e u = not_one_of n 2 e u (omega arith)
not_token broken.BadNumber n e u = not_one_of n 3 e u (omega arith)
not_token broken.NameTooLong n e u = not_one_of n 4 e u (omega arith)

-- ---- positions

-- a position in the line that it names
abbrev InLine : List ℕ → Position → Type 0
InLine source p = IsInLine source p.line p.offset

each_stands : (source : List ℕ) (ts : List SourceToken) → AllInLine source ts
    → EachStands (InLine source) (lexemes_of ts)
each_stands source [] h = tt
each_stands source (t ∷ ts) h = (h.0, each_stands source ts h.1)

tokens_stand : (source : List ℕ) (ts : List SourceToken) → Lexes 0 1 source (Ok ts)
    → Stand (InLine source) (lexemes_of ts)
tokens_stand source ts lexed = record { each = each_stands source ts (tokens_in_line source ts lexed) }

one_stands : (P : Position → Type 0) (front : List Lexeme) (t : Lexeme) (behind : List Lexeme)
    → EachStands P (front ++ t ∷ behind) → P (position_of t)
one_stands P [] t behind h = h.0
one_stands P (u ∷ front) t behind h = one_stands P front t behind h.1

token_stands : (source : List ℕ) (tokens : List SourceToken) (front : List Lexeme) (t : Lexeme)
    (behind : List Lexeme) → Lexes 0 1 source (Ok tokens) → lexemes_of tokens ≡ front ++ t ∷ behind
    → InLine source (position_of t)
token_stands source tokens front t behind lexed is = one_stands (InLine source) front t behind
    (subst (EachStands (InLine source)) is (tokens_stand source tokens lexed).each)

among_stands : (P : Position → Type 0) (b : Breach) (xs : List Breach) → IsAmong b xs → EachSounds P xs
    → P b.position × (is_rule b.number ≡ true)
among_stands P b [] h each = absurd h
among_stands P b (x ∷ xs) h each = elim h [
  | inl is ↦ subst (λ (y : Breach). P y.position × (is_rule y.number ≡ true)) is (each.0, each.1)
  | inr rest ↦ among_stands P b xs rest each.2
]

-- ---- faults

-- at an offset in its line, and then it is a fault of which a place is named
record StandsIn (source : List ℕ) (f : PlacedFault) : Type 0 where
  at : ℕ
  offset : f.offset ≡ Some at
  in_line : IsInLine source f.fault.line at
  placed : IsUnplaced f.fault.number → ⊥

abbrev IsTold : List ℕ → PlacedFault → Type 0
IsTold source f = (IsUnplaced f.fault.number × (f.offset ≡ None)) ⊎ StandsIn source f

stands_at : (source : List ℕ) (f : PlacedFault) (p : Position) → InLine source p → StandsAt f p
    → (IsUnplaced f.fault.number → ⊥) → IsTold source f
stands_at source f p here at placed = inr (record {
  at = p.offset;
  offset = at.1;
  in_line = subst (λ n. IsInLine source n p.offset) at.0 here;
  placed = placed;
})

told : (source : List ℕ) (f : PlacedFault) → Stands source f → IsTold source f
told source f (nowhere u e) = inl (u, e)
told source f (in_tokens h) =
    let stands = fault_in_line source f h in
    inr (record {
      at = stands.at;
      offset = stands.offset;
      in_line = stands.in_line;
      placed = not_token stands.broken f.fault.number stands.number;
    })
told source f (not_in_grammar tokens lexed a ten) =
    stands_at source f (position_of a.token) (token_stands source tokens a.front a.token a.after lexed a.is) a.stands
    (λ u. not_one_of f.fault.number 10 ten u (omega arith))
told source f (too_deep tokens lexed a five) =
    stands_at source f (position_of a.token) (token_stands source tokens a.front a.token a.after lexed a.is) a.stands
    (λ u. not_one_of f.fault.number 5 five u (omega arith))
told source f (rule_broken p tree h) =
    let sounds = breaches_stand (InLine source) tree.parsed (tokens_stand source tree.tokens tree.lexed) in
    let here = among_stands (InLine source) h.0 (program_breaches p) h.1 sounds.each in
    stands_at source f h.0.position here.0 (sym h.4, h.5)
    (λ u. not_rule f.fault.number (ap is_rule h.3 ∙ here.1) u)
told source f (routine_too_large p tree place heavy at number) =
    let here = heavy_stands (InLine source) tree_weight tree.parsed (tokens_stand source tree.tokens tree.lexed) in
    stands_at source f place (subst (λ o. IfSome o (InLine source)) heavy here) at
    (not_heavy f.fault.number number)

-- ---- the place

abbrev placed : SourceFault → Option ℕ → PlacedFault
placed fault offset = record { fault = fault; offset = offset }

same_fault : (f : PlacedFault) (g : SourceFault) (o : Option ℕ) → g ≡ f.fault → f.offset ≡ o → f ≡ placed g o
same_fault f g o e h = ap (λ x. placed x f.offset) (sym e) ∙ ap (placed g) h

abbrev TellsOf : List ℕ → SourceFault → Option Place → Type 0
TellsOf source g o = Stands source (placed g (option_map (λ place. place.offset) o)) × ((o ≡ None) ↔ IsUnplaced g.number)

tells : (source : List ℕ) (f : PlacedFault) (g : SourceFault) (o : Option Place) → g ≡ f.fault
    → IfSome o (λ p. f.offset ≡ Some p.offset)
    → ((at : ℕ) → f.offset ≡ Some at → IsInLine source f.fault.line at → o ≢ None)
    → Stands source f → IsTold source f → TellsOf source g o
tells source f g None e begins there stands (inl a) = (
  subst (Stands source) (same_fault f g None e a.1) stands,
  (λ none. subst (λ (x : SourceFault). IsUnplaced x.number) (sym e) a.0, λ u. refl),
)
tells source f g None e begins there stands (inr a) = absurd (there a.at a.offset a.in_line refl)
tells source f g (Some p) e begins there stands (inl a) = absurd (some_none p.offset (sym begins ∙ a.1))
tells source f g (Some p) e begins there stands (inr a) = (
  subst (Stands source) (same_fault f g (Some p.offset) e begins) stands,
  (
    λ none. absurd (no_place p none),
    λ u. absurd (a.placed (subst (λ (x : SourceFault). IsUnplaced x.number) e u)),
  ),
)

pub diagnosed : (source : List ℕ) (f : PlacedFault) (d : Diagnosis) → d.fault ≡ f.fault
    → IfSome d.place (λ p. f.offset ≡ Some p.offset)
    → ((at : ℕ) → f.offset ≡ Some at → IsInLine source f.fault.line at → d.place ≢ None)
    → Stands source f → Stands source (placed_of d) × IsToldExactly d
diagnosed source f d e begins there stands =
    tells source f d.fault d.place e begins there stands (told source f stands)
