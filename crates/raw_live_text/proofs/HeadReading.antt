-- The reading of the head, piece by piece.
use Rattle.std.proofs.Common.{◌≡◌, ℕ, ◌+◌, ◌≤◌, List, [], ◌++◌, length, take, drop, Option, Some, None, Result, Ok, Err, refl, sym, ap, subst, ◌∙◌, inl, inr, arith, append-nil, length-append, length-drop}
use Rattle.std.specs.Global.{Vec}
use Rattle.std.specs.Io.KnownBytes.{Consumes, Keeps, IsAtEnd}
use Rattle.std.proofs.KnownBytes.{Consumes-trans, Consumes-kept}
use Rattle.std.proofs.Math.Seq.{take-append_seam}
use Rattle.std.proofs.lemmas.List.{drop_all, length-take-le}
use Rattle.raw_io.specs.Causes.{Rose}
use Rattle.raw_io.specs.Sights.{SourceSight}
use Rattle.raw_live_text.specs.declared.fault.LineFault.{LineFault}
use Rattle.raw_live_text.specs.declared.stop.Stop.{Stop}
use Rattle.raw_live_text.specs.declared.stop.Stop.TheVariants.{At, Read, TooLong, Memory}
use Rattle.raw_live_text.specs.declared.head.HeadEnd.TheVariants.{Mark, Fault}
use Rattle.raw_live_text.specs.declared.head.Head.{Head}
use Rattle.raw_live_text.specs.declared.head.LinePlace.{LinePlace}
use Rattle.raw_live_text.specs.Feeding.{whole_lines, last_piece}
use Rattle.raw_live_text.specs.Heads.{line_end, head_of, IsMarked, IsSplit, IsWithin, HeadAs, EndsInPiece, ReadsHead, StandsAt, MarkAt, IsRest, IsCut, EndsAs}
use Rattle.raw_live_text.proofs.HeadPlaces.{end_marks_at, none_ends}

module _ (word : List ℕ) where
  -- what was cut is split at the mark
  split_as : (left : Option (List ℕ)) (bytes front behind set : List ℕ) (rest : Option (Vec ℕ)) → set ≡ front → IsRest rest behind → IsMarked word left bytes front behind → IsSplit word left bytes set rest
  split_as left bytes front behind set None same there m = absurd there
  split_as left bytes front behind set (Some rest) same there m = subst (IsMarked word left bytes set) (sym there) (subst (λ l. IsMarked word left bytes l behind) (sym same) m)

  empty_within : (rest : Option (Vec ℕ)) → IsRest rest [] → IsWithin 1 rest
  empty_within None there = absurd there
  empty_within (Some rest) there = omega (arith, ap length there)

  -- the last line is the mark
  pub cuts_last : (bytes : List ℕ) (place : LinePlace) → StandsAt word bytes (length bytes) place → (k behind : ℕ) (result : Result Head Stop) → behind ≡ length bytes
      → line_end word place.number (drop place.start bytes) ≡ Mark k → IsCut bytes place.start behind result → EndsAs word bytes result
  cuts_last bytes place s k behind (Ok head) all e cut =
      let none : drop behind bytes ≡ [] = drop_all behind bytes (omega (arith, all)) in
      let empty : IsRest head.rest [] = subst (IsRest head.rest) none cut.1 in
      (cut.2, λ left end. split_as left bytes (take place.start bytes) [] head.set.items head.rest cut.0 empty (end_marks_at word bytes place s left k end e), empty_within head.rest empty)
  cuts_last bytes place s k behind (Err (At line kind)) all e cut = absurd (grind (arith, cut))
  cuts_last bytes place s k behind (Err Read) all e cut = absurd (grind (arith, cut))
  cuts_last bytes place s k behind (Err TooLong) all e cut = absurd (grind (arith, cut))
  cuts_last bytes place s k behind (Err Memory) all e cut = tt

  -- no byte was seen yet
  pub stands_none : (bytes : List ℕ) → bytes ≡ [] → StandsAt word bytes (length bytes) (record { start = 0; number = 1 })
  unfolding whole_lines last_piece
  stands_none bytes none = subst (λ l. StandsAt word l (length l) (record { start = 0; number = 1 })) (sym none) (record {
    within = omega arith;
    few = omega arith;
    begins = record { closed = refl; unended = refl; counted = refl; free = refl };
  })

  module _ (most piece : ℕ) (some : 1 ≤ piece) (old new : SourceSight) where
    no_piece : (bytes : List ℕ) (place : LinePlace) → StandsAt word bytes (length bytes) place → EndsInPiece word piece bytes
    no_piece bytes place s = record { front = bytes; piece = []; is = sym (append-nil bytes); short = omega arith; unended = none_ends word bytes place s }

    any_within : (rest : Option (Vec ℕ)) → IsWithin 1 rest → IsWithin piece rest
    any_within None few = tt
    any_within (Some rest) few = omega (arith, few, some)

    cut_within : (bytes : List ℕ) (from start behind : ℕ) (rest : Option (Vec ℕ)) → length bytes ≤ from + piece → MarkAt word bytes from start behind → IsRest rest (drop behind bytes) → IsWithin piece rest
    cut_within bytes from start behind None near m there = absurd there
    cut_within bytes from start behind (Some rest) near m there = omega (arith, ap length there, length-drop behind bytes, near, m.later, m.within, some)

    -- a call failed, and gave nothing
    pub fails : (left : Option (List ℕ)) (bytes : List ℕ) (place : LinePlace) → length bytes ≤ most → Consumes old.left left bytes → Keeps left new.left → new.given ≡ old.given + length bytes → Rose old.faults new.faults → StandsAt word bytes (length bytes) place → ReadsHead word piece old new most (Err Read)
    fails left bytes place few taken kept counted rose s = record {
      bytes = bytes;
      taken = Consumes-kept _ _ _ _ taken kept;
      counted = counted;
      prompt = no_piece bytes place s;
      bounded = omega (arith, few);
      meant = (few, rose, none_ends word bytes place s);
    }

    ended_as : (bytes : List ℕ) (result : Result Head Stop) → IsAtEnd new.left → length bytes ≤ most → EndsAs word bytes result → HeadAs word piece old new most bytes result
    ended_as bytes (Ok head) end few h = (few, h.0, h.1 new.left end, any_within head.rest h.2)
    ended_as bytes (Err (At line kind)) end few h = inr (end, h)
    ended_as bytes (Err Memory) end few h = tt
    ended_as bytes _ end few h = absurd h

    -- the source is at its end
    pub ends_head : (left : Option (List ℕ)) (bytes : List ℕ) (place : LinePlace) (result : Result Head Stop) → Consumes old.left left bytes → Consumes left new.left [] → new.given ≡ old.given + length bytes
        → IsAtEnd new.left → length bytes ≤ most → StandsAt word bytes (length bytes) place → EndsAs word bytes result → ReadsHead word piece old new most result
    ends_head left bytes place result taken none counted end few s h = record {
      bytes = bytes;
      taken = subst (Consumes old.left new.left) (append-nil bytes) (Consumes-trans _ _ _ _ _ taken none);
      counted = counted;
      prompt = no_piece bytes place s;
      bounded = omega (arith, few);
      meant = ended_as bytes result end few h;
    }

    cut_as : (bytes : List ℕ) (from start behind : ℕ) (result : Result Head Stop) → length bytes ≤ most → length bytes ≤ from + piece → MarkAt word bytes from start behind → IsCut bytes start behind result → HeadAs word piece old new most bytes result
    cut_as bytes from start behind (Ok head) few near m cut =
        (few, cut.2, split_as new.left bytes (take start bytes) (drop behind bytes) head.set.items head.rest cut.0 cut.1 (m.marked new.left), cut_within bytes from start behind head.rest near m cut.1)
    cut_as bytes from start behind (Err Memory) few near m cut = tt
    cut_as bytes from start behind _ few near m cut = absurd (grind (arith, cut))

    module _ (left : Option (List ℕ)) (bytes buf : List ℕ) (given : ℕ) (taken : Consumes old.left left bytes) (more : Consumes left new.left (take given buf)) (room : given ≤ length buf) (short : given ≤ piece) (within : length bytes + given ≤ most + 1)
        (counted : new.given ≡ old.given + (length bytes + given)) (place : LinePlace) (s : StandsAt word bytes (length bytes) place) where
      count : length (bytes ++ take given buf) ≡ length bytes + given
      count = rw (length-append, length-take-le) refl

      reads_as : (result : Result Head Stop) → HeadAs word piece old new most (bytes ++ take given buf) result → ReadsHead word piece old new most result
      reads_as result h = record {
        bytes = bytes ++ take given buf;
        taken = Consumes-trans _ _ _ _ _ taken more;
        counted = rw count counted;
        prompt = record { front = bytes; piece = take given buf; is = refl; short = omega (arith, length-append bytes (take given buf), count, short); unended = none_ends word bytes place s };
        bounded = omega (arith, count, within);
        meant = h;
      }

      pub too_long : length bytes ≡ most → given ≡ 1 → ReadsHead word piece old new most (Err TooLong)
      too_long full one =
          let front : take most (bytes ++ take given buf) ≡ bytes = ap (λ n. take n (bytes ++ take given buf)) (sym full) ∙ take-append_seam bytes (take given buf) in
          reads_as (Err TooLong) (omega (arith, count, full, one), ap (λ l. head_of word 1 (whole_lines l)) front ∙ none_ends word bytes place s)

      pub no_memory : ReadsHead word piece old new most (Err Memory)
      no_memory = reads_as (Err Memory) tt

      -- a faulty line in the bytes that were read
      pub stops : (all : List ℕ) (line : ℕ) (kind : LineFault) → all ≡ bytes ++ take given buf → head_of word 1 (whole_lines all) ≡ Fault line kind → ReadsHead word piece old new most (Err (At line kind))
      stops all line kind is e = reads_as (Err (At line kind)) (inl (ap (λ l. head_of word 1 (whole_lines l)) (sym is) ∙ e))

      -- the mark in the bytes that were read
      pub cuts : (all : List ℕ) (from start behind : ℕ) (result : Result Head Stop) → all ≡ bytes ++ take given buf → from ≡ length bytes → length bytes + given ≤ most → MarkAt word all from start behind → IsCut all start behind result → ReadsHead word piece old new most result
      cuts all from start behind result is seen few m cut =
          reads_as result (subst (λ l. HeadAs word piece old new most l result) is (cut_as all from start behind result (omega (arith, ap length is, count, few)) (omega (arith, ap length is, count, seen, short)) m cut))
