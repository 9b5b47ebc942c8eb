-- Broken rules that stand at positions of which P holds, with numbers of rules; and tokens that stand at such positions.
use Rattle.std.proofs.Common.{◌≡◌, ℕ, nat_lt, ◌||◌, eqb, Bool, true, false, cond, List, [], ◌∷◌, ◌++◌}
use Rattle.syntax_lexer.specs.declared.token.Position.{Position}
use Rattle.syntax_lexer.specs.Token.{Lexeme, position_of}
use Rattle.checker_values.specs.declared.breach.Breach.{Breach}

-- a number of a rule of programs: E20 to E29, and E33
abbrev pub is_rule : ℕ → Bool
is_rule n = nat_lt n 30 || eqb n 33

module _ (P : Position → Type 0) where
  abbrev pub EachSounds : List Breach → Type 0
  EachSounds [] = Unit {0}
  EachSounds (b ∷ bs) = P b.position × (is_rule b.number ≡ true) × EachSounds bs

  pub record Sounds (bs : List Breach) : Type 0 where
    pub each : EachSounds bs

  abbrev pub EachStands : List Lexeme → Type 0
  EachStands [] = Unit {0}
  EachStands (t ∷ ts) = P (position_of t) × EachStands ts

  pub record Stand (ts : List Lexeme) : Type 0 where
    pub each : EachStands ts

pub nothing : {P : Position → Type 0} → Sounds P []
nothing = record { each = tt }

pub one : {P : Position → Type 0} {b : Breach} → P b.position → is_rule b.number ≡ true → Sounds P (b ∷ [])
one h n = record { each = (h, n, tt) }

join_each : (P : Position → Type 0) (xs ys : List Breach) → EachSounds P xs → EachSounds P ys → EachSounds P (xs ++ ys)
join_each P [] ys h k = k
join_each P (x ∷ xs) ys h k = (h.0, h.1, join_each P xs ys h.2 k)

pub join : {P : Position → Type 0} {xs ys : List Breach} → Sounds P xs → Sounds P ys → Sounds P (xs ++ ys)
join {P} {xs} {ys} h k = record { each = join_each P xs ys h.each k.each }

-- where a test holds, or where it does not
pub if_then : {P : Position → Type 0} {xs ys : List Breach} (t : Bool) → Sounds P xs → Sounds P ys
    → Sounds P (cond t xs ys)
if_then true h k = h
if_then false h k = k

pub first : {P : Position → Type 0} {t : Lexeme} {ts : List Lexeme} → Stand P (t ∷ ts) → P (position_of t)
first h = h.each.0

pub after : {P : Position → Type 0} {t : Lexeme} {ts : List Lexeme} → Stand P (t ∷ ts) → Stand P ts
after h = record { each = h.each.1 }
