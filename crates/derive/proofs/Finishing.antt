-- How passes follow one another.
use Rattle.std.proofs.Common.{◌++◌, ◌⊎◌, inl, inr, ◌≡◌, ◌∙◌, ℕ, List, Option, None, Some, Result, Ok, Err, ap, subst, sym}
use Rattle.std.specs.Global.{Vec}
use Rattle.std.specs.Result.{IsErrAnd}
use Rattle.std.proofs.lemmas.Result.{err_from_is_err_and}
use Rattle.syntax_lexer.specs.declared.fault.PlacedFault.{PlacedFault}
use Rattle.syntax_lexer.specs.FaultNumbers.{no_memory}
use Rattle.syntax_lexer.specs.Placed.{nowhere}
use Rattle.syntax_lexer.specs.Token.{Lexeme}
use Rattle.derive_tokens.specs.Tokens.{Outcome}
use Rattle.derive_statements.specs.FileNames.{FileNames, names_of}
use Rattle.derive_expressions.specs.Calls.{called, messages_of}
use Rattle.derive_operands.specs.Alternatives.{keys_of}
use Rattle.derive_routines.specs.Made.{made}
use Rattle.derive_values.specs.Values.{Numbers}
use Rattle.derive.specs.Held.{GivesBytes}
use Rattle.derive_addresses.specs.Addresses.{Placed, placed_in, places_made, settled}
use Rattle.derive_addresses.specs.Words.{words_made, words_of}
use Rattle.derive.specs.Passes.{Derived, Signatures, own_names, asking_text, branched_source, called_source}
use Rattle.derive.specs.Passes.{computed_source, entered_source, file_text, finished, formed, formed_source, operands}
use Rattle.derive.specs.Passes.{or_fault, places_text, signatures_of, stated, unclassed_source, valued_source}
use Rattle.derive_values.specs.Values.{numbers_of, valued}

-- memory is refused
pub gives_no_memory : (result : Result (Vec ℕ) PlacedFault) (derived : Derived)
    → IsErrAnd result (λ fault. fault ≡ nowhere no_memory) → GivesBytes result derived
gives_no_memory result derived h =
    let p = err_from_is_err_and result h in
    subst (λ (r : Result (Vec ℕ) PlacedFault). GivesBytes r derived) (sym p.1) (inl p.2)

-- a source with the routines for which it asks
pub asking_on : (n : Numbers) (given : Signatures) (us : List Lexeme) (messages keys names : List (List ℕ))
    (text : List ℕ)
    → text ≡ file_text us ++ made (record {
      texts = n.texts;
      routines = n.routines;
      arities = given.arities;
      messages = messages;
      keys = keys;
      apart = given.apart;
      names = names;
    })
    → names ≡ own_names us → text ≡ asking_text n given messages keys us
asking_on n given us messages keys names text e m =
    e
    ∙ ap (λ (x : List (List ℕ)). file_text us ++ made (record {
      texts = n.texts;
      routines = n.routines;
      arities = given.arities;
      messages = messages;
      keys = keys;
      apart = given.apart;
      names = x;
    })) m

-- and those of places
pub places_on : (n : Numbers) (given : Signatures) (us : List Lexeme) (messages keys names : List (List ℕ)) (p : Placed)
    (old text : List ℕ)
    → old ≡ asking_text n given messages keys us → names ≡ own_names us → text ≡ old ++ places_made names p
    → text ≡ places_text n given messages keys p us
places_on n given us messages keys names p old text o m e =
    e
    ∙ ap (λ (x : List ℕ). x ++ places_made names p) o
    ∙ ap (λ (x : List (List ℕ)). asking_text n given messages keys us ++ places_made x p) m

-- and those of words
pub called_on : (n : Numbers) (given : Signatures) (us : List Lexeme) (messages keys names words : List (List ℕ))
    (p : Placed) (old text : List ℕ)
    → old ≡ places_text n given messages keys p us → names ≡ own_names us → words ≡ words_of us
    → text ≡ old ++ words_made names words → text ≡ called_source n given messages keys p us
called_on n given us messages keys names words p old text o m w e =
    e
    ∙ ap (λ (x : List ℕ). x ++ words_made names words) o
    ∙ ap (λ (x : List (List ℕ)). places_text n given messages keys p us ++ words_made x words) m
    ∙ ap (λ (x : List (List ℕ)). places_text n given messages keys p us ++ words_made (own_names us) x) w

pub finished_on : (n : Numbers) (given : Signatures) (os rs us : List Lexeme) (file : FileNames)
    (messages keys : List (List ℕ)) (p : Placed) (text : List ℕ) → rs ≡ os → called rs ≡ Ok us
    → file ≡ names_of rs → messages ≡ messages_of file rs → text ≡ called_source n given messages keys p us
    → finished n given keys p os (called os) ≡ Ok text
finished_on n given os rs us file messages keys p text r c f m e =
    ap (λ (xs : List Lexeme). finished n given keys p xs (called xs)) (sym r)
    ∙ ap (finished n given keys p rs) c
    ∙ ap (λ (x : FileNames). Ok (called_source n given (messages_of x rs) keys p us)) (sym f)
    ∙ ap (λ (x : List (List ℕ)). Ok (called_source n given x keys p us)) (sym m)
    ∙ ap Ok (sym e)

pub finished_stop : (n : Numbers) (given : Signatures) (os rs : List Lexeme) (keys : List (List ℕ)) (p : Placed)
    (fault : PlacedFault) → rs ≡ os → (fault ≡ nowhere no_memory) ⊎ (called rs ≡ Err fault)
    → (fault ≡ nowhere no_memory) ⊎ (finished n given keys p os (called os) ≡ Err fault)
finished_stop n given os rs keys p fault r (inl h) = inl h
finished_stop n given os rs keys p fault r (inr h) =
    inr (ap (λ (xs : List Lexeme). finished n given keys p xs (called xs)) (sym r) ∙ ap (finished n given keys p rs) h)

-- operands with their places
pub entered_on : (result : Result (Vec ℕ) PlacedFault) (n : Numbers) (given : Signatures)
    (statements os es : List Lexeme) (keys : List (List ℕ)) (p : Placed) → os ≡ operands statements
    → keys ≡ keys_of statements → p ≡ placed_in os → es ≡ settled os
    → GivesBytes result (finished n given keys p es (called es)) → GivesBytes result (entered_source n given statements)
entered_on result n given statements os es keys p o k q e h =
    subst (GivesBytes result)
    (ap (λ (x : List (List ℕ)). finished n given x p es (called es)) k
    ∙ ap (λ (x : Placed). finished n given (keys_of statements) x es (called es)) (q ∙ ap placed_in o)
    ∙ ap (λ (xs : List Lexeme). finished n given (keys_of statements) (placed_in (operands statements)) xs (called xs))
    (e ∙ ap settled o))
    h

-- statements that are formed
pub formed_on : (result : Result (Vec ℕ) PlacedFault) (n : Numbers) (given : Signatures) (ts statements : List Lexeme)
    → given ≡ signatures_of ts → statements ≡ formed ts → GivesBytes result (entered_source n given statements)
    → GivesBytes result (formed_source n ts)
formed_on result n given ts statements g e h =
    subst (GivesBytes result)
    (ap (λ (x : Signatures). entered_source n x statements) g ∙ ap (entered_source n (signatures_of ts)) e) h

-- with a first fault, or without
pub or_fault_some : (fault : PlacedFault) (o : Option PlacedFault) (derived : Derived) → Some fault ≡ o
    → (fault ≡ nowhere no_memory) ⊎ (or_fault o derived ≡ Err fault)
or_fault_some fault o derived e = inr (ap (λ (x : Option PlacedFault). or_fault x derived) (sym e))

pub or_fault_none : (result : Result (Vec ℕ) PlacedFault) (o : Option PlacedFault) (derived : Derived) → None ≡ o
    → GivesBytes result derived → GivesBytes result (or_fault o derived)
or_fault_none result o derived e h =
    subst (λ (x : Option PlacedFault). GivesBytes result (or_fault x derived)) e h

pub stated_on : (result : Result (Vec ℕ) PlacedFault) (n m : Numbers) (ts : List Lexeme) (outcome : Outcome) → n ≡ m
    → outcome ≡ Ok ts → GivesBytes result (valued_source n ts) → GivesBytes result (stated m outcome)
stated_on result n m ts outcome same e h =
    subst (GivesBytes result)
    (ap (λ (x : Numbers). valued_source x ts) same ∙ ap (stated m) (sym e)) h

pub unclassed_on : (result : Result (Vec ℕ) PlacedFault) (ts : List Lexeme) (outcome : Outcome) → outcome ≡ Ok ts
    → GivesBytes result (stated (numbers_of ts) (valued ts)) → GivesBytes result (unclassed_source outcome)
unclassed_on result ts outcome e h = subst (GivesBytes result) (ap unclassed_source (sym e)) h

pub unclassed_stop : (fault : PlacedFault) (outcome : Outcome)
    → (fault ≡ nowhere no_memory) ⊎ (outcome ≡ Err fault)
    → (fault ≡ nowhere no_memory) ⊎ (unclassed_source outcome ≡ Err fault)
unclassed_stop fault outcome (inl h) = inl h
unclassed_stop fault outcome (inr h) = inr (ap unclassed_source h)

pub branched_on : (result : Result (Vec ℕ) PlacedFault) (ts : List Lexeme) (outcome : Outcome) → outcome ≡ Ok ts
    → GivesBytes result (computed_source ts) → GivesBytes result (branched_source outcome)
branched_on result ts outcome e h = subst (GivesBytes result) (ap branched_source (sym e)) h

pub branched_stop : (fault : PlacedFault) (outcome : Outcome)
    → (fault ≡ nowhere no_memory) ⊎ (outcome ≡ Err fault)
    → (fault ≡ nowhere no_memory) ⊎ (branched_source outcome ≡ Err fault)
branched_stop fault outcome (inl h) = inl h
branched_stop fault outcome (inr h) = inr (ap branched_source h)

pub stated_stop : (n : Numbers) (fault : PlacedFault) (outcome : Outcome)
    → (fault ≡ nowhere no_memory) ⊎ (outcome ≡ Err fault)
    → (fault ≡ nowhere no_memory) ⊎ (stated n outcome ≡ Err fault)
stated_stop n fault outcome (inl h) = inl h
stated_stop n fault outcome (inr h) = inr (ap (stated n) h)

-- a pass that stops, of the same tokens
pub stops_alike : (fault : PlacedFault) (pass : List Lexeme → Outcome) (us ts : List Lexeme) → us ≡ ts
    → (fault ≡ nowhere no_memory) ⊎ (pass us ≡ Err fault) → (fault ≡ nowhere no_memory) ⊎ (pass ts ≡ Err fault)
stops_alike fault pass us ts same h =
    subst (λ (x : List Lexeme). (fault ≡ nowhere no_memory) ⊎ (pass x ≡ Err fault)) same h
