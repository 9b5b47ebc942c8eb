-- What holds of a running routine of a program that stands in a story, and how an item leads to the next.
use Rattle.std.proofs.Common.{◌≡◌, ℕ, ◌+◌, ◌<◌, ◌≤◌, List, [], length, drop, Option, None, Bool, true, false, refl, ◌∙◌}
use Rattle.std.proofs.Common.{subst, arith}
use Rattle.std.specs.Prelude.{nat_le, if◌then◌else◌, map}
use Rattle.std.specs.List.{flat_map}
use Rattle.std.proofs.lemmas.Bool.{leb-true}
use Rattle.ztext.specs.Text as text
use Rattle.ztext.proofs.Holding.{holds_append}
use Rattle.zcore.specs.Header.{static_base_of}
use Rattle.zcore.specs.Instruction.{Instruction}
use Rattle.zcore.specs.InstructionBytes.{bytes_of}
use Rattle.zcore.specs.State.{words}
use Rattle.meaning.specs.Resolved.{ProgramOf}
use Rattle.meaning.specs.World.{World, Situation}
use Rattle.meaning.specs.Accepted.{IsAccepted}
use Rattle.code_drafts.specs.Items.{Item}
use Rattle.code_items.specs.Stack.{Caller}
use Rattle.code_items.specs.Stack as stack
use Rattle.code_drafts.specs.Addresses.{Addresses}
use Rattle.code_instructions.specs.Places.{offset_of}
use Rattle.code.specs.ItemCode.{item_code}
use Rattle.code.specs.ItemBytes.{text_bytes, item_bytes}
use Rattle.code.proofs.Behind.{Holds}
use Rattle.code.specs.Bytes.{place_of, is_near}
use Rattle.code.specs.HeldProgram.{sizes_of, HoldsProgram}
use Rattle.code.proofs.Play.{Leads, Stored, items_in, address, frames_of, back_of, result_of, state_of, next_of, Good}
use Rattle.code.proofs.Play.{Led, HoldsAside, none_aside}
use Rattle.code.proofs.Memory.{Ground}
use Rattle.code.proofs.Parts.{Around, machine as at_words}
use Rattle.code.proofs.Steps.{point}
use Rattle.code.proofs.HeldRoutines.{few_locals, caller_words, address_high, ground_is}

-- a routine that runs, with an empty stack, of a program that stands in a story
pub record Running : Type 0 where
  pub story : List ℕ
  pub a : Addresses
  pub p : ProgramOf
  pub accepted : IsAccepted p
  pub holds : HoldsProgram story a p
  pub full : ℕ
  pub m : List ℕ
  pub count : ℕ
  pub counts : List ℕ
  pub routine : ℕ
  pub place : ℕ
  pub callers : List Caller
  pub locals : List ℕ
  pub world : World
  pub good : Good story a p (record {
    routine = routine;
    place = place;
    stack = [];
    put_aside = None;
    callers = callers;
    situation = record { locals = locals; world = world };
  }) m

module _ (c : Running) where
  open c use {story, a, p, accepted, holds, full, m, count, counts, routine, place, callers, locals, world, good}

  -- the state of items with a stack
  abbrev pub at : List ℕ → stack.ItemState
  at words = record {
    routine = routine;
    place = place;
    stack = words;
    put_aside = None;
    callers = callers;
    situation = record { locals = locals; world = world };
  }

  -- and with a word that was put aside, or none
  abbrev pub at_aside : Option ℕ → List ℕ → stack.ItemState
  at_aside aside words = record (at words) { put_aside = aside }

  abbrev pub around : Around
  around = record {
    count = count;
    back = back_of story a p callers;
    result = result_of story a p callers;
    others = frames_of story a p callers counts;
  }

  abbrev pub here : ℕ
  here = address story a p routine place

  abbrev pub LedFrom : List ℕ → stack.Next → Type 0
  LedFrom words next =
      Led story a p full (next_of story a p (at words)) (state_of story a p (at words) m count counts) world next

  -- the bytes of an item that stands here
  abbrev pub offset_here : Item → ℕ
  offset_here i =
      offset_of (is_near (sizes_of p) (items_in story a p routine)) (place_of (sizes_of p) (items_in story a p routine))
      place i

  abbrev pub bytes_here : Item → List ℕ
  bytes_here i = item_bytes (sizes_of p) a (offset_here i) i

  abbrev pub code_here : Item → List Instruction
  code_here i = item_code (sizes_of p) a (offset_here i) i

  -- an item stands here
  pub record ArrivesAt (i : Item) : Type 0 where
    pub held : text.Holds m here (bytes_here i)
    pub next : address story a p routine (place + 1) ≡ here + length (bytes_here i)
    pub followed : address story a p routine (place + 1) < length m

  pub ground : Ground (static_base_of story) m
  ground = ground_is story a p accepted holds m world.globals world.arrays world.objects good.stored

  pub high : static_base_of story ≤ here
  high = address_high story a p accepted holds routine place good.known

  pub above : 64 ≤ here
  above = omega (arith, high, holds.globals_above, holds.globals_below)

  pub few : length world.globals ≤ 232
  few = omega (arith, good.globals, accepted.globals)

  pub kept : drop (static_base_of story) m ≡ drop (static_base_of story) story
  kept = good.stored.kept

  -- there is room for some words more
  pub room : length locals + words around.others ≤ 63000
  room = omega (
    arith,
    caller_words story a p accepted holds callers counts good.callers,
    good.few,
    good.locals,
    few_locals story a p accepted holds routine good.known,
  )

  pub room_for : (s : List ℕ) → length s ≤ 50 → length locals + length s + words around.others < 65536
  room_for s short = omega (arith, short, room)

  -- an item's instructions
  pub code_held : (i : Item) → ArrivesAt i → Holds m here (flat_map bytes_of (code_here i))
  code_held i stands =
      (above, (holds_append m here (flat_map bytes_of (code_here i)) (text_bytes p.abbreviations i) stands.held).0)

  -- The machine comes to the next item, with room on its stack, or where there is room
  pub arrives_with : (aside : Option ℕ) (before after m1 : List ℕ) (situation : Situation) (end : ℕ)
      → HoldsAside story m1 aside → end ≡ address story a p routine (place + 1) → length after ≤ 48
      → Stored story a p situation.world.globals situation.world.arrays situation.world.objects m1
      → length situation.locals ≡ length locals
      → length situation.world.globals ≡ length world.globals
      → map length situation.world.arrays ≡ map length world.arrays
      → Leads (point here world.fuel) (at_words around m locals before world.text) (point end situation.world.fuel)
      (at_words around m1 situation.locals after situation.world.text)
      → LedFrom before (stack.goes (record {
        routine = routine;
        place = place + 1;
        stack = after;
        put_aside = aside;
        callers = callers;
        situation = situation;
      }))
  arrives_with aside before after m1 situation end kept is room stored locals_same globals_same arrays_same leads =
      record {
        memory = m1;
        count = count;
        counts = counts;
        good = record {
          known = good.known;
          locals = locals_same ∙ good.locals;
          room = room;
          callers = good.callers;
          few = good.few;
          globals = globals_same ∙ good.globals;
          sizes = arrays_same ∙ good.sizes;
          stored = stored;
          put_aside = kept;
        };
        leads = subst (λ x. Leads (point here world.fuel) (at_words around m locals before world.text)
            (point x situation.world.fuel) (at_words around m1 situation.locals after situation.world.text)) is leads;
      }

  pub arrives_on : (before after m1 : List ℕ) (situation : Situation) (end : ℕ)
      → end ≡ address story a p routine (place + 1) → length after ≤ 48
      → Stored story a p situation.world.globals situation.world.arrays situation.world.objects m1
      → length situation.locals ≡ length locals
      → length situation.world.globals ≡ length world.globals
      → map length situation.world.arrays ≡ map length world.arrays
      → Leads (point here world.fuel) (at_words around m locals before world.text) (point end situation.world.fuel)
      (at_words around m1 situation.locals after situation.world.text)
      → LedFrom before (stack.goes (record {
        routine = routine;
        place = place + 1;
        stack = after;
        put_aside = None;
        callers = callers;
        situation = situation;
      }))
  arrives_on before after m1 situation end is room stored locals_same globals_same arrays_same leads =
      arrives_with None before after m1 situation end (none_aside story m1) is room stored locals_same globals_same
      arrays_same leads

  pub arrives : (before after m1 : List ℕ) (situation : Situation) (end : ℕ)
      → end ≡ address story a p routine (place + 1)
      → Stored story a p situation.world.globals situation.world.arrays situation.world.objects m1
      → length situation.locals ≡ length locals
      → length situation.world.globals ≡ length world.globals
      → map length situation.world.arrays ≡ map length world.arrays
      → Leads (point here world.fuel) (at_words around m locals before world.text) (point end situation.world.fuel)
      (at_words around m1 situation.locals after situation.world.text)
      → LedFrom before (stack.within (record {
        routine = routine;
        place = place + 1;
        stack = after;
        put_aside = None;
        callers = callers;
        situation = situation;
      }))
  arrives before after m1 situation end is stored locals_same globals_same arrays_same leads = go
      (nat_le (length after) 48) refl
    where
      next : stack.ItemState
      next = record {
        routine = routine;
        place = place + 1;
        stack = after;
        put_aside = None;
        callers = callers;
        situation = situation;
      }

      go : (b : Bool) → nat_le (length after) 48 ≡ b → LedFrom before (if b then stack.goes next else stack.stuck)
      go true e = arrives_on before after m1 situation end is (leb-true _ _ e) stored locals_same globals_same
          arrays_same leads
      go false e = tt

  abbrev pub situation_here : Situation
  situation_here = record { locals = locals; world = world }
