-- Names of saved games and what was done for them, computed.
use Rattle.std.proofs.Common.{◌≡◌, ℕ, Bool, true, false, List, None, Some, [], ◌∷◌, bytes_eq, codes, refl}
use Rattle.std.specs.Prelude.{replicate}
use Rattle.session_lines.specs.Files.{AreLogged, EndsWithLook, a_look, a_write, acts_for, looked, may_be_written}
use Rattle.session_lines.specs.Files.{no_act, read, wrote}
use Rattle.session_lines.specs.Names.{file_name, given_after, is_name}
use Rattle.zcore_standard.specs.declared.save_form.Purpose.TheVariants.{Saving, Restoring}

named : is_name (codes "before-the_dragon.2") ≡ true
named = refl

spaced : is_name (codes "the dragon") ≡ false
spaced = refl

hidden : is_name (codes ".dragon") ≡ false
hidden = refl

above : is_name (codes "../dragon") ≡ false
above = refl

long : is_name (replicate 60 97) ≡ true
long = refl

too_long : is_name (replicate 61 97) ≡ false
too_long = refl

ended : file_name (codes "dragon") ≡ codes "dragon.qzl"
ended = refl

ended_once : file_name (codes "dragon.qzl") ≡ codes "dragon.qzl"
ended_once = refl

short_ended : file_name (codes "zl") ≡ codes "zl.qzl"
short_ended = refl

-- what was done for names, by what was given

saved : acts_for (Some Saving) (codes "a.qzl") (1 ∷ 2 ∷ []) (0 ∷ []) ≡ wrote (codes "a.qzl") (1 ∷ 2 ∷ []) ∷ []
saved = refl

not_saved : acts_for (Some Saving) (codes "a.qzl") (1 ∷ 2 ∷ []) (3 ∷ []) ≡ []
not_saved = refl

restored : acts_for (Some Restoring) (codes "a.qzl") [] (0 ∷ 7 ∷ []) ≡ read (codes "a.qzl") (7 ∷ []) ∷ []
restored = refl

no_line_for_the_story : given_after (Some Saving) [] (0 ∷ []) ≡ []
no_line_for_the_story = refl

no_name_at_all : given_after (Some Saving) (codes "a b") (0 ∷ []) ≡ 1 ∷ []
no_name_at_all = refl

-- what may be written over

abbrev is_own : List ℕ → Bool
is_own head = bytes_eq head (codes "FORM")

over_nothing : may_be_written is_own None ≡ true
over_nothing = refl

over_own : may_be_written is_own (Some (codes "FORM")) ≡ true
over_own = refl

over_another : may_be_written is_own (Some (codes "text")) ≡ false
over_another = refl

over_what_has_no_bytes : may_be_written is_own (Some []) ≡ false
over_what_has_no_bytes = refl

-- how a saved game is logged, and one that is not saved

logged_saved : AreLogged is_own (wrote (codes "a.qzl") (1 ∷ []) ∷ [])
    (looked (codes "a.qzl") (Some (codes "FORM")) ∷ wrote (codes "a.qzl") (1 ∷ []) ∷ [])
logged_saved = a_write (codes "a.qzl") (1 ∷ []) (Some (codes "FORM")) refl no_act

logged_not_saved : AreLogged is_own [] (looked (codes "a.qzl") (Some (codes "text")) ∷ [])
logged_not_saved = a_look (codes "a.qzl") (Some (codes "text")) no_act

after_a_look : EndsWithLook (Some (looked (codes "a.qzl") None ∷ [])) (codes "a.qzl")
after_a_look = ([], (None, refl))
