-- What a caller reads of an argument that may be left out, after a parse.
use Rattle.std.proofs.Common.{◌++◌, ◌||◌, ◌≡◌, ◌∙◌, ◌<◌, ◌≤◌, ap, suc, zero, ℕ, Bool, true, false, List, [], ◌∷◌}
use Rattle.std.proofs.Common.{length, Option, Some, None, refl, sym, subst, inl, inr, arith, append-nil, append_assoc}
use Rattle.std.specs.List.{All, slice_index_or}
use Rattle.std.specs.Str.{bytes_eq}
use Rattle.std.specs.Prelude.{unwrap_or, pos, IfSome, Result, ◌^◌}
use Rattle.std.specs.Str.Parse.{ParsesUnsigned}
use Rattle.std.specs.Borrow.{Bor}
use Rattle.std.proofs.lemmas.Slice.Eq.{bytes_eq-Decides}
use Rattle.std.proofs.lemmas.List.Elements.{All-get_or, All-nil, All-push}
use Rattle.clap.specs.Facts.{args_of, groups_of, Entry, EntryPasses, ValuesPass, PassesArg, HasReading}
use Rattle.clap.specs.Facts.{parser_of, parser_of_value}
use Rattle.clap.specs.Built.{NamesNoGroup, IsParsedFrom, IsAuto, AddsArg, AddsInTurn, SameRules, KeepsList}
use Rattle.clap.specs.Built.{HasDistinctIds}
use Rattle.clap.specs.Matches.{matched_of, one_text, found_of, ReadsOne}
use Rattle.clap.specs.declared.parser.matches.Found.{Found}
use Rattle.terminal.specs.Arguments.{MayRead}
use Rattle.clap.specs.Values.{Accepts, read_as, reading_of}
use Rattle.clap.specs.declared.builder.value_parser.Reading.{Reading}
use Rattle.clap.proofs.CallerReads.{signed_reads}
use Rattle.clap.proofs.CallerLemmas.{entry_by_id, same_rules_by_id}
use Rattle.clap.specs.declared.builder.arg.Arg.{Arg}
use Rattle.clap.specs.declared.builder.command.Command.{Command}
use Rattle.clap.specs.declared.builder.command.Command.TheViews.{out-Command}
use Rattle.clap.specs.declared.builder.value_parser.ValueParser.{ValueParser}
use Rattle.clap.specs.declared.builder.value_parser.ValueParser.TheVariants.{Signed}
use Rattle.clap.specs.declared.parser.matches.ArgMatches.{ArgMatches}
use Rattle.clap.specs.declared.parser.matches.MatchedArg.{MatchedArg}

-- a command without groups
abbrev pub IsUngrouped : Command → Type 0
IsUngrouped c = NamesNoGroup c × (groups_of c ≡ [])

-- what a chain asks of each argument: it is in no group and not global, and its id is its own. It may exclude others.
abbrev pub Joins : Arg → Type 0
Joins a = (a.groups.items ≡ []) × (a.global ≡ false) × (a.id.now ≡ [] → ⊥) × (IsAuto a → ⊥)

added_ungrouped : (old new : Command) (a : Arg) → AddsArg old a new → IsUngrouped old → a.groups.items ≡ []
    → IsUngrouped new
added_ungrouped old new a added none own = (
  rw added.args (All-push (λ b. b.groups.items ≡ []) (args_of old) added.arg none.0 (added.rules.groups ∙ own)),
  added.groups ∙ none.1,
)

none_at : (f : Found) (id : List ℕ) → matched_of f id ≡ None → one_text f id ≡ None
none_at f id found = rw found refl

nothing_at : (f : Found) (id : List ℕ) (x : MatchedArg) → matched_of f id ≡ Some x → x.vals.items ≡ []
    → one_text f id ≡ None
nothing_at f id x found e = rw (found, e) refl

text_at : (f : Found) (id : List ℕ) (x : MatchedArg) (how : Reading) (v : Bor (List ℕ)) (vs : List (Bor (List ℕ)))
    → matched_of f id ≡ Some x → x.reading ≡ how
    → x.vals.items ≡ v ∷ vs → one_text f id ≡ Some (read_as how v.now)
text_at f id x how v vs found is e = rw (found, is, e) refl

only_reading : (old : Command) (m : ArgMatches) (p : IsParsedFrom old m) (k : ℕ) (d : Arg) → k < length (args_of old)
    → ((j : ℕ) (e : Arg) → j < length (args_of old)
    → bytes_eq (slice_index_or (args_of old) j e).id.now (slice_index_or (args_of old) k d).id.now ≡ true → j ≡ k)
    → (IsAuto (slice_index_or (args_of old) k d) → ⊥)
    → (q : ValueParser) → (slice_index_or (args_of old) k d).value_parser ≡ Some q
    → (r : Reading) → HasReading p.built (slice_index_or (args_of old) k d).id.now r → r ≡ reading_of q
only_reading old m p k d lt unique own q parser r any =
    let s = same_rules_by_id old m p k d lt unique own any.0 any.1 any.2 any.3 any.4.0 in
    let is_q : parser_of any.1 ≡ q = ap parser_of_value (s.parser q parser) in
    sym any.4.1 ∙ ap reading_of is_q

accepts_of : (a y : Arg) (q : ValueParser) (t : List ℕ) → SameRules a y → a.value_parser ≡ Some q
    → Accepts y.ignore_case (parser_of y) t → Accepts a.ignore_case q t
accepts_of a y q t s parser read =
    let is_q : parser_of y ≡ q = ap parser_of_value (s.parser q parser) in
    let as_q : Accepts y.ignore_case q t = subst (λ (w : ValueParser). Accepts y.ignore_case w t) is_q read in
    subst (λ (b : Bool). Accepts b q t) s.ignore_case as_q

passes_read : (old : Command) (m : ArgMatches) (p : IsParsedFrom old m) (k : ℕ) (d : Arg) → k < length (args_of old)
    → ((j : ℕ) (e : Arg) → j < length (args_of old)
    → bytes_eq (slice_index_or (args_of old) j e).id.now (slice_index_or (args_of old) k d).id.now ≡ true → j ≡ k)
    → (IsAuto (slice_index_or (args_of old) k d) → ⊥)
    → (q : ValueParser) → (slice_index_or (args_of old) k d).value_parser ≡ Some q
    → (t : List ℕ) → PassesArg p.built (slice_index_or (args_of old) k d).id.now t
    → Accepts (slice_index_or (args_of old) k d).ignore_case q t
passes_read old m p k d lt unique own q parser t pass =
    accepts_of _ pass.1 q t (same_rules_by_id old m p k d lt unique own pass.0 pass.1 pass.2 pass.3 pass.4.0) parser
    pass.4.1

-- what one entry gives
read_of : (c : Command) (f : Found) (id : List ℕ) (Q : List ℕ → Type 0) (how : Reading) (x : MatchedArg) (e : Entry)
    → groups_of c ≡ [] → (id ≡ [] → ⊥) → ((r : Reading) → HasReading c id r → r ≡ how)
    → ((t : List ℕ) → PassesArg c id t → Q t) → matched_of f id ≡ Some x → e.1 ≡ x → e.0.now ≡ id → EntryPasses c e
    → MayRead f id Q how
read_of c f id Q how x e no_groups named reads read found same_x key_id pass =
    let no_group : e.1.is_group ≡ true → ⊥ = λ g. elim (pass.3 g) [
      | inl empty ↦ named (sym key_id ∙ empty)
      | inr lots ↦
          let bad : 0 < 0 = rw no_groups at lots in
          absurd (omega arith)
    ] in
    let all : All (λ v. PassesArg c id v.now) x.vals.items = elim pass.0 [
      | inl g ↦ absurd (no_group g)
      | inr vals ↦ subst (λ (w : List ℕ). All (λ v. PassesArg c w v.now) x.vals.items) key_id (rw same_x at vals)
    ] in
    let is : e.1.reading ≡ how = elim pass.4 [
      | inl g ↦ absurd (no_group g)
      | inr h ↦ reads e.1.reading (subst (λ (w : List ℕ). HasReading c w e.1.reading) key_id h)
    ] in
    first x.vals.items refl all (ap (λ (y : MatchedArg). y.reading) (sym same_x) ∙ is)
  where
    first : (vs : List (Bor (List ℕ))) → x.vals.items ≡ vs → All (λ v. PassesArg c id v.now) vs → x.reading ≡ how
        → MayRead f id Q how
    first [] e all is = inl (nothing_at f id x found e)
    first (v ∷ vs) e all is = inr (
      v.now,
      text_at f id x how v vs found is e,
      read v.now
          (All-get_or (λ v. PassesArg c id v.now) (v ∷ vs) 0 v (omega arith) all),
    )

-- what the entries give
found_read : (c : Command) (f : Found) (id : List ℕ) (Q : List ℕ → Type 0) (how : Reading) → ValuesPass c f
    → groups_of c ≡ [] → (id ≡ [] → ⊥)
    → ((r : Reading) → HasReading c id r → r ≡ how) → ((t : List ℕ) → PassesArg c id t → Q t) → MayRead f id Q how
found_read c f id Q how values no_groups named reads read = go (matched_of f id) refl
  where
    step : (x : MatchedArg) → matched_of f id ≡ Some x
        → ((e : Entry) × (e.1 ≡ x) × (bytes_eq e.0.now id ≡ true) × EntryPasses c e) → MayRead f id Q how
    step x found got = read_of c f id Q how x got.0 no_groups named reads read found got.1
        ((bytes_eq-Decides got.0.0.now id).0 got.2) got.3

    go : (o : Option MatchedArg) → matched_of f id ≡ o → MayRead f id Q how
    go None e = inl (none_at f id e)
    go (Some x) e = step x e (entry_by_id (EntryPasses c) f.entries.items id x values e)

-- an argument of the caller's is left out, or has a text that passed its parser, read as that parser says
optional_reads : (old : Command) (m : ArgMatches) (p : IsParsedFrom old m) → IsUngrouped old
    → (out-Command old).has_globals ≡ false
    → (k : ℕ) (d : Arg) → k < length (args_of old)
    → ((j : ℕ) (e : Arg) → j < length (args_of old)
    → bytes_eq (slice_index_or (args_of old) j e).id.now (slice_index_or (args_of old) k d).id.now ≡ true → j ≡ k)
    → ((slice_index_or (args_of old) k d).id.now ≡ [] → ⊥)
    → (IsAuto (slice_index_or (args_of old) k d) → ⊥)
    → (q : ValueParser) → (slice_index_or (args_of old) k d).value_parser ≡ Some q
    → MayRead (found_of m) (slice_index_or (args_of old) k d).id.now
    (Accepts (slice_index_or (args_of old) k d).ignore_case q) (reading_of q)
optional_reads old m p none globals k d lt unique named own q parser =
    let parsed = p.parsed (p.from.globals ∙ globals) in
    found_read p.built (found_of m) (slice_index_or (args_of old) k d).id.now
    (Accepts (slice_index_or (args_of old) k d).ignore_case q) (reading_of q)
    parsed.values ((p.from.same_groups none.0).1 ∙ none.1) named
    (only_reading old m p k d lt unique own q parser)
    (λ t pass. passes_read old m p k d lt unique own q parser t pass)

-- the rest of a list of which all pass
all_rest : {X : Type 0} (P : X → Type 0) (x : X) (xs : List X) → All P (x ∷ xs) → All P xs
all_rest P x xs h = λ k d lt. h (suc k) d (omega arith)

chain_places : (x y : Arg) (xs ys : List Arg) → SameRules x y
    → ((k : ℕ) (e g : Arg) → k < length xs → SameRules (slice_index_or xs k e) (slice_index_or ys k g))
    → (k : ℕ) (e g : Arg) → k < length (x ∷ xs) → SameRules (slice_index_or (x ∷ xs) k e)
    (slice_index_or (y ∷ ys) k g)
chain_places x y xs ys r rest zero e g lt = r
chain_places x y xs ys r rest (suc n) e g lt = rest n e g (omega arith)

-- what a chain of arguments keeps: the arguments that it adds, place by place, and a command of the same kind
chain_facts : (c d : Command) (xs : List Arg) → AddsInTurn AddsArg c xs d → All Joins xs → IsUngrouped c
    → (out-Command c).has_globals ≡ false
    → (ys : List Arg) × (args_of d ≡ args_of c ++ ys) × KeepsList xs ys × IsUngrouped d
    × ((out-Command d).has_globals ≡ false)
chain_facts c d [] h all none globals =
    ([], rw h (sym (append-nil _)), (refl, (λ k e f lt. absurd (omega arith))), rw (← h) none, rw (← h) globals)
chain_facts c d (x ∷ xs) h all none globals =
    let added = h.1 in
    let fit = all 0 x (omega arith) in
    let none2 = added_ungrouped c h.0 x added none fit.0 in
    let globals2 = added.globals ∙ (ap (λ b. b || x.global) globals ∙ ap (λ b. false || b) fit.1) in
    let f = chain_facts h.0 d xs h.2 (all_rest Joins x xs all) none2 globals2 in (
      added.arg ∷ f.0,
      f.1 ∙ (ap (λ l. l ++ f.0) added.args ∙ append_assoc (args_of c) (added.arg ∷ []) f.0),
      (ap suc f.2.0, chain_places x added.arg xs f.0 added.rules f.2.1),
      f.3,
      f.4,
    )

-- an argument of a chain of `.arg(..)` calls, where nothing is in a group and no two ids are one
pub optional_in_chain : (start cmd : Command) (xs : List Arg) (k : ℕ) (d : Arg) (m : ArgMatches)
    → AddsInTurn AddsArg start xs cmd
    → args_of start ≡ [] → groups_of start ≡ [] → (out-Command start).has_globals ≡ false → All Joins xs
    → HasDistinctIds xs → k < length xs
    → (q : ValueParser) → (slice_index_or xs k d).value_parser ≡ Some q → IsParsedFrom cmd m
    → MayRead (found_of m) (slice_index_or xs k d).id.now (Accepts (slice_index_or xs k d).ignore_case q)
    (reading_of q)
optional_in_chain start cmd xs k d m chain args groups globals all distinct lt q parser p =
    let start-none : IsUngrouped start =
    (subst (All (λ b. b.groups.items ≡ [])) (sym args) (All-nil (λ b. b.groups.items ≡ [])), groups) in
    let f = chain_facts start cmd xs chain all start-none globals in
    let list : args_of cmd ≡ f.0 = f.1 ∙ ap (λ l. l ++ f.0) args in
    let a = slice_index_or xs k d in
    let b = slice_index_or (args_of cmd) k d in
    let elem : b ≡ slice_index_or f.0 k d = ap (λ l. slice_index_or l k d) list in
    let rules = f.2.1 k d d lt in
    let fit = all k d lt in
    let len : length (args_of cmd) ≡ length xs = ap length list ∙ f.2.0 in
    let in-cmd : k < length (args_of cmd) = omega arith in
    let same-id : b.id ≡ a.id = ap (λ x. x.id) elem ∙ rules.id in
    let same-now : b.id.now ≡ a.id.now = ap (λ x. x.now) same-id in
    let same-case : b.ignore_case ≡ a.ignore_case = ap (λ x. x.ignore_case) elem ∙ rules.ignore_case in
    let same-parser : b.value_parser ≡ Some q = ap (λ x. x.value_parser) elem ∙ rules.parser q parser in
    let only : (j : ℕ) (e : Arg) → j < length (args_of cmd)
    → bytes_eq (slice_index_or (args_of cmd) j e).id.now b.id.now ≡ true → j ≡ k =
    λ j e low same.
    let in-xs : j < length xs = omega arith in
    let there : (slice_index_or (args_of cmd) j e).id ≡ (slice_index_or xs j e).id =
    ap (λ x. x.id) (ap (λ l. slice_index_or l j e) list) ∙ (f.2.1 j e e in-xs).id in
    distinct j k d e in-xs lt (rw (← ap (λ x. x.now) there, ← same-now) same) in
    let read : MayRead (found_of m) b.id.now (Accepts b.ignore_case q) (reading_of q) =
    optional_reads cmd m p f.3 f.4 k d in-cmd only
    (λ empty. fit.2 (sym same-now ∙ empty))
    (λ auto. fit.3 (elim auto [ inl h ↦ inl (sym same-now ∙ h) | inr h ↦ inr (sym same-now ∙ h) ]))
    q same-parser in
    subst (λ i. MayRead (found_of m) i (Accepts a.ignore_case q) (reading_of q)) same-now
    (subst (λ c. MayRead (found_of m) b.id.now (Accepts c q) (reading_of q)) same-case read)

-- what `get_one` gives of an argument with a range, where it has a value
pub number_read : (E : Type 0) (G : List ℕ → Result ℕ E → Type 0) (bits low high : ℕ) (f : Found) (id : List ℕ)
    (any_case : Bool) (r : Option ℕ)
    → MayRead f id (Accepts any_case (Signed (pos low) (pos high))) (reading_of (Signed (pos low) (pos high)))
    → (one_text f id ≡ None → r ≡ None) → ((t : List ℕ) → one_text f id ≡ Some t → ReadsOne G t r)
    → ((t : List ℕ) (x : Result ℕ E) → G t x → ParsesUnsigned bits 10 t x) → high < 2 ^ bits
    → IfSome r (λ n. (low ≤ n) × (n ≤ high))
number_read E G bits low high f id any_case r (inl none) absent value only fits = subst
    (λ o. IfSome o (λ n. (low ≤ n) × (n ≤ high))) (sym (absent none)) tt
number_read E G bits low high f id any_case r (inr text) absent value only fits =
    let got = signed_reads E G bits low high text.0 r (value _ text.1) only fits text.2 in
    subst (λ o. IfSome o (λ n. (low ≤ n) × (n ≤ high))) (sym got.1) (got.2, got.3)

-- a number, or another in the range
pub number_or : (low high d : ℕ) (r : Option ℕ) → IfSome r (λ n. (low ≤ n) × (n ≤ high)) → low ≤ d → d ≤ high
    → (low ≤ unwrap_or r d) × (unwrap_or r d ≤ high)
number_or low high d None h least most = (least, most)
number_or low high d (Some n) h least most = h
