use Rattle.std.proofs.Common.{◌≡◌, ◌≤◌, ◌++◌, ◌∙◌, ap, subst, arith, ℕ, List, [], Option, Some, None, length, take}
use Rattle.std.specs.Prelude.{IfSome, option_map}
use Rattle.std.specs.Io.Take.{take_remaining}
use Rattle.std.specs.declared.io.traits.Take.{Take}
use Rattle.std.proofs.lemmas.List.{length-take, take_all}
use Rattle.inform.proofs.source.read_source.Goals as goal

-- what is read up to a limit, where nothing was read before, is the beginning of the reader's bytes
start_read : {R : Type 0} (remaining : R → Option (List ℕ)) (t : Take R) (file : R) (old new : List ℕ)
    → t.limit ≡ 67108865 → t.inner ≡ file → old ≡ [] → IfSome (take_remaining remaining t) (λ xs. new ≡ old ++ xs)
    → IfSome (remaining file) (λ bytes. new ≡ take 67108865 bytes)
start_read {R} remaining t file old new limit inner empty read =
    go (remaining file)
    (subst (λ (f : R). IfSome (option_map (take t.limit) (remaining f)) (λ xs. new ≡ old ++ xs)) inner read)
  where
    go : (o : Option (List ℕ)) → IfSome (option_map (take t.limit) o) (λ xs. new ≡ old ++ xs)
        → IfSome o (λ bytes. new ≡ take 67108865 bytes)
    go None h = tt
    go (Some bytes) h = h ∙ ap (λ (l : List ℕ). l ++ take t.limit bytes) empty ∙ ap (λ n. take n bytes) limit

-- fewer bytes than the limit are all bytes
whole : (o : Option (List ℕ)) (read : List ℕ) → length read ≤ 67108864
    → IfSome o (λ bytes. read ≡ take 67108865 bytes) → IfSome o (λ bytes. read ≡ bytes)
whole None read short h = tt
whole (Some bytes) read short h =
    let count : length read ≡ length (take 67108865 bytes) = ap length h in
    h ∙ take_all 67108865 bytes (omega (arith, short, count, length-take 67108865 bytes))

pub returns : goal.returns
returns g c = whole (g.R.Read.remaining c.args.file) c.read_to_end.new.buf.items
    (omega (arith, c.len.ensures, c.if-len-gt-MOST_BYTES.false))
    (start_read g.R.Read.remaining c.take.result c.args.file c.new-source.result.items c.read_to_end.new.buf.items
    c.take.ensures.limit c.take.ensures.inner c.new-source.ensures.items c.in_ok-read_to_end.ensures.bytes)
