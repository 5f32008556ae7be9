-- What lawful lists of steps from one state have in common.
use Rattle.std.proofs.Common.{◌≡◌, ℕ, zero, suc, ◌<◌, ◌≤◌, true, List, [], ◌∷◌, ◌++◌, length, take, drop, Option, Some, None, refl, sym, ap, ◌∙◌, subst, inl, inr, ⊎_elim, arith}
use Rattle.std.specs.Prelude.{slice_get}
use Rattle.std.specs.List.{flat_map, All}
use Rattle.std.proofs.lemmas.Grind.{flat_map-append}
use Rattle.std.proofs.lemmas.List.{take_all, take-append-drop}
use Rattle.std.proofs.lemmas.List.Elements.{All-nil}
use Rattle.std.proofs.lemmas.Bool.{false≢true, cases_eq}
use Rattle.raw_network.specs.Network.{Network, State, Sent, Event, count_of, fronts, is_enabled, step, event_from, event_of}
use Rattle.raw_network.specs.Runs.{IsLawful, end_of, events_of, sent_on, passed, IsQuiet}
use Rattle.raw_network.specs.Wired.{IsWired}
use Rattle.raw_network.proofs.Wires.{count_here, count_there, sent_none}
use Rattle.raw_network.proofs.Erased.{erased, count_erased_same, count_erased_other, events_here, events_at, events_there, length-events_of}
use Rattle.raw_network.proofs.Fronted.{Fronted, fronted}

module _ {L : Type 0} (net : Network L) (producer consumer : ℕ → ℕ) (wired : IsWired net producer consumer) where
  -- (b) the first steps of a processor do the same in both lists
  abbrev pub SameFirst : State L → List ℕ → List ℕ → Type 0
  SameFirst s ps qs =
      (r k : ℕ) → k ≤ count_of r ps → k ≤ count_of r qs → take k (events_of net s ps r) ≡ take k (events_of net s qs r)

  same_first_step : (s : State L) (p : ℕ) (ps qs : List ℕ) → Fronted net producer consumer wired s p qs
      → SameFirst (step net s p) ps (erased p qs) → SameFirst s (p ∷ ps) qs
  same_first_step s p ps qs front rest r zero a b = refl
  same_first_step s p ps qs front rest r (suc k) a b = ⊎_elim here there (cases_eq p r)
    where
      here : p ≡ r → take (suc k) (events_of net s (p ∷ ps) r) ≡ take (suc k) (events_of net s qs r)
      here e =
          let some : 0 < count_of p qs = subst (λ x. 0 < count_of x qs) (sym e) (omega arith) in
          let left : k ≤ count_of p ps =
          let n = count_here p ps in
          let a' : suc k ≤ count_of p (p ∷ ps) = subst (λ x. suc k ≤ count_of x (p ∷ ps)) (sym e) a in
          omega arith in
          let right : k ≤ count_of p (erased p qs) =
          let n = count_erased_same p qs some in
          let b' : suc k ≤ count_of p qs = subst (λ x. suc k ≤ count_of x qs) (sym e) b in
          omega arith in
          subst (λ x. take (suc k) (events_of net s (p ∷ ps) x) ≡ take (suc k) (events_of net s qs x)) e
          (ap (λ es. take (suc k) es) (events_here net s p ps)
          ∙ ap (λ es. event_of net s p ∷ es) (rest p k left right)
          ∙ ap (λ es. take (suc k) es) (sym (events_here net s p (erased p qs)))
          ∙ ap (λ es. take (suc k) es) (front.did p (inl some)))

      there : (p ≡ r → ⊥) → take (suc k) (events_of net s (p ∷ ps) r) ≡ take (suc k) (events_of net s qs r)
      there ne =
          ap (λ es. take (suc k) es) (events_there net s p r ps ne)
          ∙ rest r (suc k) (subst (λ n. suc k ≤ n) (count_there r p ps ne) a) (subst (λ n. suc k ≤ n) (sym (count_erased_other p r qs ne)) b)
          ∙ ap (λ es. take (suc k) es) (sym (events_there net s p r (erased p qs) ne))
          ∙ ap (λ es. take (suc k) es) (front.did r (inr ne))

  same_first_none : (s : State L) (qs : List ℕ) → SameFirst s [] qs
  same_first_none s qs r zero a b = refl
  same_first_none s qs r (suc k) a b = absurd (omega arith)

  -- the first steps of a processor agree
  pub same_first : (s : State L) (ps qs : List ℕ) → IsLawful net s ps → IsLawful net s qs → SameFirst s ps qs
  same_first s [] qs h g = same_first_none s qs
  same_first s (p ∷ ps) qs h g =
      let front = fronted net producer consumer wired s p qs h.0 g in
      same_first_step s p ps qs front (same_first (step net s p) ps (erased p qs) h.1 front.lawful)

  -- what is beyond the steps of qs after a step of q is beyond the others of qs
  before_rest : (q : ℕ) (front qs : List ℕ) → 0 < count_of q qs → ((r : ℕ) → count_of r (q ∷ front) ≤ count_of r qs)
      → (r : ℕ) → count_of r front ≤ count_of r (erased q qs)
  before_rest q front qs some before r =
      ⊎_elim
      (λ (e : q ≡ r). subst (λ x. count_of x front ≤ count_of x (erased q qs)) e
      (let a = count_here q front in let b = count_erased_same q qs some in let c = before q in omega arith))
      (λ (ne : q ≡ r → ⊥). let a = count_there r q front ne in let b = count_erased_other q r qs ne in let c = before r in omega arith)
      (cases_eq q r)

  count_rest : (q p : ℕ) (front qs : List ℕ) → 0 < count_of q qs → count_of p qs ≤ count_of p (q ∷ front)
      → count_of p (erased q qs) ≤ count_of p front
  count_rest q p front qs some beyond =
      ⊎_elim
      (λ (e : q ≡ p). subst (λ x. count_of x (erased q qs) ≤ count_of x front) e
      (let a = count_here q front in let b = count_erased_same q qs some in
      let c : count_of q qs ≤ count_of q (q ∷ front) = subst (λ x. count_of x qs ≤ count_of x (q ∷ front)) (sym e) beyond in omega arith))
      (λ (ne : q ≡ p → ⊥). let a = count_there p q front ne in let b = count_erased_other q p qs ne in omega arith)
      (cases_eq q p)

  -- (f) the first entry beyond the steps of the other list is enabled at the other's end
  pub beyond_enabled : (s : State L) (front : List ℕ) (p : ℕ) (rest qs : List ℕ) → IsLawful net s (front ++ p ∷ rest)
      → IsLawful net s qs
      → ((r : ℕ) → count_of r front ≤ count_of r qs) → count_of p qs
      ≤ count_of p front → is_enabled net (end_of net s qs) p
      ≡ true
  beyond_enabled s [] p rest qs h g before beyond = (fronted net producer consumer wired s p qs h.0 g).kept (omega arith)
  beyond_enabled s (q ∷ front) p rest qs h g before beyond =
      let first = fronted net producer consumer wired s q qs h.0 g in
      let some : 0 < count_of q qs = let a = before q in let b = count_here q front in omega arith in
      subst (λ t. is_enabled net t p ≡ true) (first.ends some)
      (beyond_enabled (step net s q) front p rest (erased q qs) h.1 first.lawful (before_rest q front qs some before) (count_rest q p front qs some beyond))

  -- (a) where the one list comes to rest, no processor has more steps in the other
  pub no_more_steps : (s : State L) (ps qs : List ℕ) → IsLawful net s ps → IsLawful net s qs
      → IsQuiet net (end_of net s qs) → (r : ℕ) → count_of r ps ≤ count_of r qs
  no_more_steps s [] qs h g quiet r = omega arith
  no_more_steps s (p ∷ ps) qs h g quiet r =
      let first = fronted net producer consumer wired s p qs h.0 g in
      ⊎_elim
      (λ (none : count_of p qs ≡ 0). absurd (false≢true (sym (quiet p) ∙ first.kept none)))
      (λ (some' : count_of p qs ≡ 0 → ⊥).
      let some : 0 < count_of p qs = omega arith in
      let rest : count_of r ps ≤ count_of r (erased p qs) =
      no_more_steps (step net s p) ps (erased p qs) h.1 first.lawful (subst (λ t. IsQuiet net t) (sym (first.ends some)) quiet) r in
      ⊎_elim
      (λ (e : p ≡ r). subst (λ x. count_of x (p ∷ ps) ≤ count_of x qs) e
      (let a = count_here p ps in let b = count_erased_same p qs some in
      let c : count_of p ps ≤ count_of p (erased p qs) = subst (λ x. count_of x ps ≤ count_of x (erased p qs)) (sym e) rest in omega arith))
      (λ (ne : p ≡ r → ⊥). let a = count_there r p ps ne in let b = count_erased_other p r qs ne in omega arith)
      (cases_eq p r))
      (cases_eq (count_of p qs) 0)

  -- (e) two lists with equal counts end alike
  counts_rest : (p : ℕ) (ps qs : List ℕ) → 0 < count_of p qs → ((r : ℕ) → count_of r (p ∷ ps) ≡ count_of r qs)
      → (r : ℕ) → count_of r ps ≡ count_of r (erased p qs)
  counts_rest p ps qs some counts r =
      ⊎_elim
      (λ e. subst (λ x. count_of x ps ≡ count_of x (erased p qs)) e (omega (arith, counts p, count_here p ps, count_erased_same p qs some)))
      (λ ne. sym (count_there r p ps ne) ∙ counts r ∙ sym (count_erased_other p r qs ne))
      (cases_eq p r)

  nil_counts : (qs : List ℕ) → ((r : ℕ) → 0 ≡ count_of r qs) → qs ≡ []
  nil_counts [] h = refl
  nil_counts (q ∷ qs) h = absurd (omega (arith, h q, count_here q qs))

  -- lists with equal counts end alike
  pub same_ends : (s : State L) (ps qs : List ℕ) → IsLawful net s ps → IsLawful net s qs
      → ((r : ℕ) → count_of r ps ≡ count_of r qs) → end_of net s ps ≡ end_of net s qs
  same_ends s [] qs h g counts = ap (λ xs. end_of net s xs) (sym (nil_counts qs counts))
  same_ends s (p ∷ ps) qs h g counts =
      let front = fronted net producer consumer wired s p qs h.0 g in
      let some : 0 < count_of p qs = omega (arith, counts p, count_here p ps) in
      same_ends (step net s p) ps (erased p qs) h.1 front.lawful (counts_rest p ps qs some counts) ∙ front.ends some

  -- where a processor has no more steps, what it did is a front of what it did in the other list
  pub events_front : (s : State L) (ps qs : List ℕ) → IsLawful net s ps → IsLawful net s qs → (r : ℕ)
      → count_of r ps ≤ count_of r qs → events_of net s ps r ≡ take (count_of r ps) (events_of net s qs r)
  events_front s ps qs h g r l =
      let short : length (events_of net s ps r) ≤ count_of r ps = let e = length-events_of net s ps r in omega arith in
      sym (take_all (count_of r ps) (events_of net s ps r) short) ∙ same_first s ps qs h g r (count_of r ps) (omega arith) l

  -- a processor with as many steps did the same
  pub same_events : (s : State L) (ps qs : List ℕ) → IsLawful net s ps → IsLawful net s qs → (r : ℕ)
      → count_of r ps ≡ count_of r qs → events_of net s ps r ≡ events_of net s qs r
  same_events s ps qs h g r e =
      let short : length (events_of net s qs r) ≤ count_of r ps = let f = length-events_of net s qs r in omega arith in
      let least : count_of r ps ≤ count_of r qs = omega arith in
      events_front s ps qs h g r least ∙ take_all (count_of r ps) (events_of net s qs r) short

  -- (c) what passes on a wire is what its producer sent there
  event_own : (s : State L) (p : ℕ) → All (λ (m : Sent). producer m.wire ≡ p) (event_of net s p).sent
  event_own s p = from (slice_get s.locals p)
    where
      from : (o : Option L) → All (λ (m : Sent). producer m.wire ≡ p) (event_from net s.wires p o).sent
      from None = All-nil (λ (m : Sent). producer m.wire ≡ p)
      from (Some l) = wired.sent_own p l (fronts (net.takes p l) s.wires)

  -- what passed on a wire is what its producer's steps sent there
  pub passed_by : (s : State L) (ps : List ℕ) (w : ℕ)
      → passed net s ps w ≡ flat_map (λ (e : Event L). sent_on w e.sent) (events_of net s ps (producer w))
  passed_by s [] w = refl
  passed_by s (p ∷ ps) w =
      ap (λ xs. sent_on w (event_of net s p).sent ++ xs) (passed_by (step net s p) ps w)
      ∙ ⊎_elim
      (λ e. ap (λ es. flat_map (λ (e : Event L). sent_on w e.sent) es) (sym (events_at net s p (producer w) ps e)))
      (λ ne. ap (λ xs. xs ++ flat_map (λ (e : Event L). sent_on w e.sent) (events_of net (step net s p) ps (producer w))) (sent_none producer p w (event_of net s p).sent (event_own s p) (λ f. ne (sym f)))
      ∙ ap (λ es. flat_map (λ (e : Event L). sent_on w e.sent) es) (sym (events_there net s p (producer w) ps ne)))
      (cases_eq p (producer w))

  -- what passed begins what passed in a list that comes to rest
  pub passed_front : (s : State L) (ps qs : List ℕ) → IsLawful net s ps → IsLawful net s qs
      → IsQuiet net (end_of net s qs) → (w : ℕ) → (rest : List ℕ) × (passed net s ps w ++ rest ≡ passed net s qs w)
  passed_front s ps qs h g quiet w =
      let n = count_of (producer w) ps in
      let f = λ (e : Event L). sent_on w e.sent in
      let all = events_of net s qs (producer w) in (
        flat_map f (drop n all),
        ap (λ xs. xs ++ flat_map f (drop n all))
            (passed_by s ps w ∙ ap (λ es. flat_map f es) (events_front s ps qs h g (producer w) (no_more_steps s ps qs h g quiet (producer w))))
            ∙ sym (flat_map-append f (take n all) (drop n all))
            ∙ ap (λ es. flat_map f es) (take-append-drop n all)
            ∙ sym (passed_by s qs w),
      )
