-- The machine does what the machine of items does, where it does what each item leads to.
use Rattle.std.proofs.Common.{◌≡◌, ℕ, zero, suc, ◌≤◌, length, ◌++◌, List, [], ◌∷◌, Option, Some, None, Bool, true}
use Rattle.std.proofs.Common.{false, refl, sym, ap, ◌∙◌, subst, append_assoc}
use Rattle.std.specs.Prelude.{slice_get, map, if◌then◌else◌}
use Rattle.zcore.specs.declared.next.Next.{Next}
use Rattle.zcore.specs.State.{State}
use Rattle.zcore.specs.Turn.{Whole, Turns, turn_from, turn_on, is_waiting, entries, plays_from, last_place}
use Rattle.zcore.specs.Layout.{text_limit}
use Rattle.zcore.proofs.Turning.{turns_is}
use Rattle.meaning.specs.Resolved.{ProgramOf}
use Rattle.meaning.specs.World.{Outcome, World}
use Rattle.code_drafts.specs.Items.{Item}
use Rattle.code_items.specs.Stack as stack
use Rattle.code_drafts.specs.Addresses.{Addresses}
use Rattle.code.proofs.Play.{Good, Led, LedOn, LedBy, items_in, next_of, state_of, PlaysAs}
use Rattle.code.proofs.Ends.{does_after}
use Rattle.code.proofs.KeptWorld.{Same, Keeps, Bounded, KeepsBy, is_read}
use Rattle.code.proofs.Keeps.{act_keeps}

-- a turn goes on in the same way for worlds with the same lines and texts
pub does_same : (full : ℕ) (here : Next) (t : State) (w v : World) (o : Outcome) → Same w v → PlaysAs full here t v o
    → PlaysAs full here t w o
does_same full here t w v o same d = record {
  whole = d.whole;
  turns = d.turns;
  texts = d.texts ∙ ap (λ ts. ts ++ map (λ (x : Whole). x.text) (d.whole ∷ plays_from full d.whole v.lines))
      same.texts
      ∙ ap (λ ls. w.texts ++ map (λ (x : Whole). x.text) (d.whole ∷ plays_from full d.whole ls)) same.lines;
  place = d.place ∙ ap (λ ls. last_place (d.whole ∷ plays_from full d.whole ls)) same.lines;
}

-- the turn of a line goes on where the turn before it waits
does_await : (full : ℕ) (here next : Next) (t u : State) (w v : World) (o : Outcome) (line : List ℕ) (whole : Whole)
    → w.lines ≡ line ∷ v.lines → v.texts ≡ w.texts ++ whole.text ∷ [] → Turns here t whole
    → is_waiting whole.place ≡ true → turn_on line full whole.state ≡ turn_from next u → PlaysAs full next u v o
    → PlaysAs full here t w o
does_await full here next t u w v o line whole lines texts turns waits given d =
    let turn : turn_on line full whole.state ≡ Some d.whole = given ∙ turns_is next u d.whole d.turns in
    let rest = d.whole ∷ plays_from full d.whole v.lines in
    let on : plays_from full whole w.lines ≡ rest =
    ap (plays_from full whole) lines
    ∙ ap (λ (b : Bool). if b then entries (turn_on line full whole.state) (λ x. plays_from full x v.lines) else [])
    waits
    ∙ ap (λ (x : Option Whole). entries x (λ y. plays_from full y v.lines)) turn in
    record {
      whole = whole;
      turns = turns;
      texts = d.texts ∙ ap (λ ts. ts ++ map (λ (x : Whole). x.text) rest) texts
          ∙ append_assoc w.texts (whole.text ∷ []) (map (λ (x : Whole). x.text) rest)
          ∙ ap (λ xs. w.texts ++ whole.text ∷ map (λ (x : Whole). x.text) xs) (sym on);
      place = d.place ∙ ap (λ xs. last_place (whole ∷ xs)) (sym on);
    }

module _ (story : List ℕ) (a : Addresses) (p : ProgramOf) (full : ℕ) where
  -- each item is done where it stands
  abbrev pub ItemsLead : Type 0
  ItemsLead =
      (s : stack.ItemState) (memory : List ℕ) (count : ℕ) (counts : List ℕ) (i : Item) → Good story a p s memory
      → length s.situation.world.text ≤ text_limit
      → slice_get (items_in story a p s.routine) s.place ≡ Some i
      → LedBy story a p (is_read i) full (next_of story a p s) (state_of story a p s memory count counts)
      s.situation.world (stack.act p full (Some i) s)

  -- so many items from any good state on are done
  abbrev pub Simulated : ℕ → Type 0
  Simulated n =
      (s : stack.ItemState) (memory : List ℕ) (count : ℕ) (counts : List ℕ) (o : Outcome) → Good story a p s memory
      → length s.situation.world.text ≤ text_limit → stack.exec p full n s ≡ Some o
      → PlaysAs full (next_of story a p s) (state_of story a p s memory count counts) s.situation.world o

  -- what an item leads to, and the items after it
  pub led_on : (n : ℕ) → Simulated n → (here : Next) (t : State) (w : World) (next : stack.Next) (o : Outcome)
      → Led story a p full here t w next → Keeps w next → length w.text ≤ text_limit
      → stack.from next (stack.exec p full n) ≡ Some o → PlaysAs full here t w o
  led_on n later here t w (stack.goes s) o l keeps short e =
      does_after full w o here (next_of story a p s) t (state_of story a p s l.memory l.count l.counts) l.leads
      (does_same full (next_of story a p s) (state_of story a p s l.memory l.count l.counts) w s.situation.world o
      keeps
      (later s l.memory l.count l.counts o l.good (keeps.short short) e))
  led_on n later here t w (stack.ends x) o l keeps short e =
      let is : x ≡ o = cc in subst (λ y. PlaysAs full here t w y) is l
  led_on n later here t w stack.stuck o l keeps short e = absurd (cc)

  -- what an item that reads a line leads to
  line_led : (n : ℕ) → Simulated n → (here : Next) (t : State) (w : World) (next : stack.Next) (o : Outcome)
      → LedOn story a p full here t w next → Bounded w next → length w.text ≤ text_limit
      → stack.from next (stack.exec p full n) ≡ Some o → PlaysAs full here t w o
  line_led n later here t w (stack.goes s) o l bounded short e =
      does_await full here (next_of story a p s) t (state_of story a p s l.memory l.count l.counts) w
      s.situation.world o l.line l.whole l.lines l.texts l.turns l.waits l.given
      (later s l.memory l.count l.counts o l.good (bounded short) e)
  line_led n later here t w (stack.ends x) o l bounded short e =
      let is : x ≡ o = cc in subst (λ y. PlaysAs full here t w y) is l
  line_led n later here t w stack.stuck o l bounded short e = absurd (cc)

  led_by : (b : Bool) (n : ℕ) → Simulated n → (here : Next) (t : State) (w : World) (next : stack.Next) (o : Outcome)
      → LedBy story a p b full here t w next → KeepsBy b w next → length w.text ≤ text_limit
      → stack.from next (stack.exec p full n) ≡ Some o → PlaysAs full here t w o
  led_by true n later here t w next o l keeps short e = line_led n later here t w next o l keeps short e
  led_by false n later here t w next o l keeps short e = led_on n later here t w next o l keeps short e

  pub sim : ItemsLead → (n : ℕ) → Simulated n
  sim led zero s memory count counts o good short e = absurd (cc)
  sim led (suc n) s memory count counts o good short e =
      go (slice_get (items_in story a p s.routine) s.place) refl (sim led n) e
    where
      go : (i : Option Item) → slice_get (items_in story a p s.routine) s.place ≡ i → Simulated n
          → stack.from (stack.act p full i s) (stack.exec p full n) ≡ Some o
          → PlaysAs full (next_of story a p s) (state_of story a p s memory count counts) s.situation.world o
      go None h later f = absurd (cc)
      go (Some i) h later f =
          led_by (is_read i) n later (next_of story a p s) (state_of story a p s memory count counts)
          s.situation.world (stack.act p full (Some i) s) o (led s memory count counts i good short h)
          (act_keeps p full i s) short f
