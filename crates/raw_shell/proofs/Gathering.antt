-- What was put on a sink that gathers, and what the sink behind it has of it.
use Rattle.std.proofs.Common.{◌≡◌, ◌⊎◌, ℕ, ◌+◌, ◌≤◌, List, [], ◌∷◌, ◌++◌, length, take, Option, None, Some, Ok, Err, refl, sym, ap, ◌∙◌, inl, inr, subst, ⊎_elim, arith, append-nil, length-append, length-take}
use Rattle.std.specs.Prelude.{Result, OnOk, OnErr}
use Rattle.std.specs.Option.{ForSome}
use Rattle.std.proofs.Math.Seq.{take-append_seam}
use Rattle.std.proofs.lemmas.List.{take-take}
use Rattle.std.specs.Io.KnownBytes.{Keeps, Appends}
use Rattle.raw_io.specs.Causes.{Rose}
use Rattle.raw_io.specs.Sights.{Sight}
use Rattle.raw_shell.specs.Seen.{Says}
use Rattle.raw_shell.specs.Gathering.{with_gathered, gathering, HoldsNothing}

-- what is told is kept from one moment to the next
pub keeps_all : (o : Option (List ℕ)) → Keeps o o
keeps_all None = tt
keeps_all (Some xs) = refl

-- Between two moments of a sink that gathers, at the first of which nothing was put yet: o and n are the bytes of the sink
-- behind it, m those that are told in between.

-- what was put is on the sink behind, once all is handed on,
pub all_behind : (o m n : Option (List ℕ)) (piece : List ℕ) → Appends (with_gathered o []) m piece → Keeps m (with_gathered n [])
    → Appends o n piece
all_behind None m n piece put keeps = tt
all_behind (Some xs) None n piece put keeps = absurd put
all_behind (Some xs) (Some ys) None piece put keeps = absurd keeps
all_behind (Some xs) (Some ys) (Some zs) piece put keeps =
    sym (append-nil zs) ∙ keeps ∙ put ∙ ap (λ ws. ws ++ piece) (append-nil xs)

-- and else a front of it, which leaves out what is gathered
pub record IsFrontBehind (o n : Option (List ℕ)) (gs piece : List ℕ) : Type 0 where
  pub count : ℕ
  pub short : count + length gs ≤ length piece
  pub put : Appends o n (take count piece)

pub front_behind : (xs : List ℕ) (m n : Option (List ℕ)) (gs piece : List ℕ) → xs ≡ [] → Appends (Some (xs ++ [])) m piece
    → Keeps m (with_gathered n gs) → IsFrontBehind (Some xs) n gs piece
front_behind [] None n gs piece none put keeps = absurd put
front_behind [] (Some ys) None gs piece none put keeps = absurd keeps
front_behind [] (Some ys) (Some zs) gs piece none put keeps =
    let whole : zs ++ gs ≡ piece = keeps ∙ put in
    record {
      count = length zs;
      short = omega (arith, length-append zs gs, ap length whole);
      put = sym (take-append_seam zs gs) ∙ ap (take (length zs)) whole;
    }
front_behind (x ∷ xs) m n gs piece none put keeps = absurd (cc none)

-- where nothing was put the sink behind is as it was
none_behind : (o n : Option (List ℕ)) (gs : List ℕ) → ForSome o (λ held. held ≡ []) → with_gathered n gs ≡ with_gathered o [] → n ≡ o
none_behind None None gs empty same = refl
none_behind None (Some ys) gs empty same = absurd (cc same)
none_behind (Some xs) None gs empty same = absurd (cc same)
none_behind (Some xs) (Some ys) gs empty same =
    let held : xs ≡ [] = empty xs refl in
    let whole : ys ++ gs ≡ xs ++ [] = cc same in
    let none : ys ≡ [] = nothing ys (whole ∙ ap (λ zs. zs ++ []) held) in
    ap Some (none ∙ sym held)
  where
    nothing : (ys : List ℕ) → ys ++ gs ≡ [] → ys ≡ []
    nothing [] e = refl
    nothing (y ∷ ys) e = absurd (cc e)

pub still_behind : (old new : Sight) (gs : List ℕ) → HoldsNothing old → gathering new gs ≡ gathering old [] → new ≡ old
still_behind old new gs empty same =
    let bytes : new.bytes ≡ old.bytes = none_behind old.bytes new.bytes gs empty (ap (λ (s : Sight). s.bytes) same) in
    let faults : new.faults ≡ old.faults = ap (λ (s : Sight). s.faults) same in
    λ i. record { bytes = bytes i; faults = faults i }

-- a fault in a later part of a call is one of the whole
pub rose_before : (a b c : ℕ) → a ≤ b → Rose b c → Rose a c
rose_before a b c le rose = omega (arith, le, rose)

pub rose_behind : (a b c : ℕ) → Rose a b → b ≤ c → Rose a c
rose_behind a b c rose le = omega (arith, rose, le)

-- a line that was put on a sink that gathers, and then handed on or a front of it
pub says_behind : (old mid new : Sight) (gs line : List ℕ) → HoldsNothing old → Says (record { old = gathering old []; new = mid }) line
    → Keeps mid.bytes (with_gathered new.bytes gs) → mid.faults ≤ new.faults → (gs ≡ []) ⊎ Rose mid.faults new.faults
    → Says (record { old = old; new = new }) line
says_behind old mid new gs line empty said keeps later (inl none) = record {
  count = said.count;
  within = said.within;
  put = all_behind old.bytes mid.bytes new.bytes (take said.count line) said.put
      (subst (λ hs. Keeps mid.bytes (with_gathered new.bytes hs)) none keeps);
  whole = ⊎_elim
      (λ (all : said.count ≡ length line). inl all)
      (λ (failed : Rose old.faults mid.faults). inr (rose_behind old.faults mid.faults new.faults failed later))
      said.whole;
  counted = omega (arith, said.counted, later);
}
says_behind old mid new gs line empty said keeps later (inr rose) = by_bytes old.bytes refl
  where
    failed : Rose old.faults new.faults
    failed = rose_before old.faults mid.faults new.faults said.counted rose

    by_bytes : (o : Option (List ℕ)) → old.bytes ≡ o → Says (record { old = old; new = new }) line
    by_bytes None e = record {
      count = 0;
      within = omega arith;
      put = subst (λ o. Appends o new.bytes (take 0 line)) (sym e) tt;
      whole = inr failed;
      counted = omega (arith, said.counted, later);
    }
    by_bytes (Some xs) e =
        let front = front_behind xs mid.bytes new.bytes gs (take said.count line) (empty xs e)
        (subst (λ o. Appends (with_gathered o []) mid.bytes (take said.count line)) e said.put) keeps in
        let few : front.count ≤ said.count = omega (arith, front.short, length-take said.count line) in
        record {
          count = front.count;
          within = omega (arith, few, said.within);
          put = subst (λ o. Appends o new.bytes (take front.count line)) (sym e)
              (subst (λ zs. Appends (Some xs) new.bytes zs) (take-take front.count said.count line few) front.put);
          whole = inr failed;
          counted = omega (arith, said.counted, later);
        }

-- a call that hands on either leaves nothing gathered or fails
pub handed_or_failed : {T E : Type 0} (result : Result T E) (gs : List ℕ) (before now : ℕ) → OnOk result (gs ≡ []) → OnErr result (Rose before now)
    → (gs ≡ []) ⊎ Rose before now
handed_or_failed (Ok x) gs before now ok err = inl ok
handed_or_failed (Err x) gs before now ok err = inr err
