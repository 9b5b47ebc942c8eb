-- What a statement does where it neither branches nor goes back.
use Rattle.std.proofs.Common.{◌≡◌, ℕ, ◌+◌, List, [], ◌∷◌, ◌++◌, Some, refl, sym, ap, ◌∙◌, arith}
use Rattle.std.specs.Prelude.{slice_get, map}
use Rattle.std.specs.List.{All}
use Rattle.std.proofs.lemmas.List.Elements.{All-head, All-tail}
use Rattle.zcore.specs.Arithmetic.{signed_text}
use Rattle.meaning.specs.Resolved.{Value, none, Printed}
use Rattle.meaning.specs.Resolved as source
use Rattle.meaning.specs.Accepted.{IsWhole, IsPrinted}
use Rattle.meaning.specs.World.{Situation, to, Part, ◌>>=◌, give, put, shown}
use Rattle.meaning.specs.Meaning.{put_character, put_line, evaluate, Ending, goes_on, breaks, continues, returns}
use Rattle.meaning.specs.Meaning.{print_one, print_all, follow}
use Rattle.meaning.specs.Reading.{read_next}
use Rattle.meaning.specs.Places.{number_in}
use Rattle.code_drafts.specs.Items.{Item, Operand, number, alone, operand_count, alone_items}
use Rattle.code_items.specs.Statements.{printed_count, printed_items, prints_items, return_true, Exits}
use Rattle.code_drafts.specs.Items as items
use Rattle.code_items.specs.Stack.{Next, with_operand, prints, return_to, act, put_name, ItemState}
use Rattle.code_drafts.proofs.Counts.{alone_length}
use Rattle.code_items.proofs.StatementCounts.{printed_length}
use Rattle.code_items.proofs.Acts.{Keeps, keeps_put, keeps_put_character, keeps_read_next}
use Rattle.code_items.proofs.ObjectParts.{keeps_name}
use Rattle.code_items.proofs.Running.{steps_on, Running, code, locals, setting}
use Rattle.code_items.proofs.Standing.{HasAt, split}
use Rattle.code_items.proofs.Held.{Held, onto, with_held}
use Rattle.code_items.proofs.Leads.{Leads, on, given, here, stands, at_place, begins_at}
use Rattle.code_items.proofs.Steps.{puts}
use Rattle.code_items.proofs.Evaluated.{operand_held, operand_does}
use Rattle.code_items.proofs.EachValue.{value_ok}

-- a routine that runs, and where a statement of it leads that breaks or continues
module _ (now : Running) (x : Exits) where
  open now use {p, full, routine, callers}

  -- where a statement's end leads, if it goes on from there
  abbrev pub ended_at : ℕ → Ending → Situation → Next
  ended_at q goes_on s = stands now q [] s
  ended_at q breaks s = stands now x.breaks [] s
  ended_at q continues s = stands now x.continues [] s
  ended_at q (returns v) s = return_to callers v s.world

  abbrev printed_at : ℕ → Unit {0} → Situation → Next
  printed_at q _ s = stands now q [] s

  pub goes_at : {s : Situation} {n : ℕ} (q q' : ℕ) → q ≡ q'
      → Leads now s n (stands now q [] s) (to goes_on s) (ended_at q')
  goes_at q q' e = begins_at now q' q [] (sym e) (given now {behind = ended_at q'} goes_on)

  -- what goes on, and what follows it
  pub follows_on : {s : Situation} {n : ℕ} {before : Next} (q q' : ℕ) (f rest : Part Ending)
      → Leads now s n before (f s) (ended_at q)
      → ((last : Situation) → Leads now last n (stands now q [] last) (rest last) (ended_at q'))
      → Leads now s n before ((f >>= λ e. follow e rest) s) (ended_at q')
  follows_on {n = n} q q' f rest hf hr = on now f (λ e. follow e rest) hf (λ e last _. go e last)
    where
      go : (e : Ending) (last : Situation) → Leads now last n (ended_at q e last) (follow e rest last) (ended_at q')
      go goes_on last = hr last
      go breaks last = given now {behind = ended_at q'} breaks
      go continues last = given now {behind = ended_at q'} continues
      go (returns v) last = given now {behind = ended_at q'} (returns v)

  pub returns_by : {s : Situation} {n : ℕ} (m q : ℕ) (o : Operand) (v : ℕ) → slice_get (code now) m
      ≡ Some (items.return o) → Held o v s
      → Leads now s n (stands now m (onto o v []) s) (to (returns v) s) (ended_at q)
  returns_by {s = s} m q o v h held =
      record {
        does = λ k le d. steps_on p full (here now m (onto o v []) s) _ _
            (ap (λ x. act p full x (here now m (onto o v []) s)) h
            ∙ with_held o v s [] (λ w rest. return_to callers w s.world) held) (d (returns v) s refl (omega arith));
      }

  -- an operand that stands alone
  pub alone_does : (v : Value) → IsWhole p (locals now) v → (s : Situation) (n pc q : ℕ)
      → HasAt (code now) pc (alone_items pc v) q → Leads now s n (stands now pc [] s) (evaluate (setting now) v s)
      (λ a last. stands now q (onto (alone v) a []) last)
  alone_does v fine s n pc q has = operand_does now v none (value_ok now v) s n pc q [] has (omega (arith, fine.1))

  -- an item that takes an operand which stands alone, and does a part of the meaning that has no word
  pub taken_does : (v : Value) → IsWhole p (locals now) v → (i : Operand → Item) (f : ℕ → Part (Unit {0}))
      → ((o : Operand) (s : ItemState) → act p full (Some (i o)) s
      ≡ with_operand o s.situation s.stack (λ w rest. prints (f w) rest s))
      → ((w : ℕ) → Keeps full (f w)) → (s : Situation) (n pc q : ℕ)
      → HasAt (code now) pc (alone_items pc v ++ i (alone v) ∷ []) q
      → Leads now s n (stands now pc [] s) ((evaluate (setting now) v >>= f) s) (printed_at q)
  taken_does v fine i f acts keeps s n pc q has =
      let m = pc + operand_count v (alone v) in
      let h = split (code now) pc (alone_items pc v) _ q (operand_count v (alone v)) (alone_length v pc) has in
      at_place now printed_at (m + 1) q h.1.1
      (on now (evaluate (setting now) v) f (alone_does v fine s n pc m h.0) (λ w s1 e1.
      puts now m [] (i (alone v)) (f w) (onto (alone v) w []) h.1.0
      (acts (alone v) (here now m (onto (alone v) w []) s1)
      ∙ with_held (alone v) w s1 [] (λ z rest. prints (f z) rest (here now m (onto (alone v) w []) s1))
      (operand_held now v none s s1 w e1)) (keeps w)))

  printed_does : (i : Printed) → IsPrinted p (locals now) i → (s : Situation) (n pc q : ℕ)
      → HasAt (code now) pc (printed_items pc i) q
      → Leads now s n (stands now pc [] s) (print_one (setting now) i s) (printed_at q)
  printed_does (source.text bytes) fine s n pc q has =
      at_place now printed_at (pc + 1) q has.1
      (puts now pc [] (items.print_text bytes) (put (map shown bytes)) [] has.0 refl
      (keeps_put full (map shown bytes)))
  printed_does (source.character_of v) fine s n pc q has =
      taken_does v fine items.print_character put_character (λ o s. refl) (keeps_put_character full) s n pc q has
  printed_does (source.number_of v) fine s n pc q has =
      taken_does v fine items.print_number (λ w. put (signed_text w)) (λ o s. refl)
      (λ w. keeps_put full (signed_text w)) s n pc q has
  printed_does (source.name_of v) fine s n pc q has =
      taken_does v fine items.print_name (put_name p) (λ o s. refl) (keeps_name p full) s n pc q has

  pub prints_do : (is : List Printed) → All (IsPrinted p (locals now)) is → (s : Situation) (n pc q : ℕ)
      → HasAt (code now) pc (prints_items pc is) q
      → Leads now s n (stands now pc [] s) (print_all (setting now) is s) (printed_at q)
  prints_do [] fine s n pc q has = begins_at now q pc [] (sym has) (given now {behind = printed_at q} tt)
  prints_do (i ∷ is) fine s n pc q has =
      let m = pc + printed_count i in
      let h = split (code now) pc (printed_items pc i) (prints_items m is) q (printed_count i)
      (printed_length i pc) has in
      on now (print_one (setting now) i) (λ _. print_all (setting now) is)
      (printed_does i (All-head (IsPrinted p (locals now)) i is fine) s n pc m h.0)
      (λ _ s1 _. prints_do is (All-tail (IsPrinted p (locals now)) i is fine) s1 n m q h.1)

  pub line_does : {s : Situation} {n : ℕ} (pc : ℕ) → slice_get (code now) pc ≡ Some items.new_line
      → Leads now s n (stands now pc [] s) (put_line s) (printed_at (pc + 1))
  line_does pc h = puts now pc [] items.new_line put_line [] h refl (keeps_put full (10 ∷ []))

  -- the next line goes to two arrays
  pub read_does : {s : Situation} {n : ℕ} (t w pc : ℕ) → slice_get (code now) pc ≡ Some (items.read_line t w)
      → Leads now s n (stands now pc [] s) (read_next (number_in p) full t w s) (printed_at (pc + 1))
  read_does t w pc h =
      puts now pc [] (items.read_line t w) (read_next (number_in p) full t w) [] h refl
      (keeps_read_next full (number_in p) t w)

  -- a new line, and the routine returns true
  pub end_of_line : {s : Situation} {n : ℕ} (pc q : ℕ) → HasAt (code now) pc (items.new_line ∷ return_true ∷ []) q
      → Leads now s n (stands now pc [] s) ((put_line >>= λ _. give (returns 1)) s) (ended_at q)
  end_of_line pc q has =
      on now put_line _ (line_does pc has.0) (λ _ s1 _. returns_by (pc + 1) q (number 1) 1 has.1.0 refl)
