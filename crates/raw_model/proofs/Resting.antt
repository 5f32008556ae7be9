-- How a quiet state came to rest.
use Rattle.std.proofs.Common.{◌≡◌, ℕ, ◌<◌, ◌≤◌, Bool, true, false, Option, Some, None, List, [], ◌∷◌, length, refl, arith, ⊎_elim}
use Rattle.std.specs.Prelude.{MatchOption, IsTrue, option_map}
use Rattle.std.specs.List.{position, position_or_len}
use Rattle.std.proofs.lemmas.Bool.{cases_Bool, lt-ltb, cases_lt}
use Rattle.std.proofs.lemmas.List.Sums.{fails_before_first}
use Rattle.std.proofs.lemmas.List.Quantifiers.{position-Some}
use Rattle.raw_grid.specs.Topology.{proc_count}
use Rattle.raw_cycle.specs.Chains.{IsWithin, WaitsAlong, chain_after, last_of}
use Rattle.raw_cycle.specs.Cycles.{NoCycle, IsTheCycle}
use Rattle.raw_cycle.proofs.Ends.{chain_along, along_last}
use Rattle.raw_cycle.proofs.Reported.{cycle_law}
use Rattle.raw_model.specs.Program.{ProgramSet, IsSet}
use Rattle.raw_model.specs.Local.{Local}
use Rattle.raw_model.specs.Start.{MachineState, Fits}
use Rattle.raw_model.specs.Rest.{enabled, stopped, IsQuiet, is_trapped, is_at_limit}
use Rattle.raw_model.specs.Waits.{first_wait, waits_for, other_end}
use Rattle.raw_model.specs.Outcomes.{the_cycle, chain_end, is_unhalted, first_of, outcome, IsFirst, NoneIs, IsOutcome, ChainsEndStopped}
use Rattle.raw_model.proofs.Awaited.{none_where_enabled, waits_for_other}

-- each processor that is waited for is one of the set
pub waits_within : (set : ProgramSet) (s : MachineState) → IsSet set → IsWithin (waits_for set s) (proc_count set.topo)
waits_within set s valid = λ p q waits. (waits_for_other set s p q valid waits).1

clash : (b : Bool) → b ≡ false → IsTrue b → ⊥
clash true e h = cc e
clash false e h = cc h

-- a processor of a quiet state that waits for no wire is stopped
no_wait : (set : ProgramSet) (s : MachineState) (p : ℕ) → IsQuiet set s → p < length s.locals → first_wait set s p ≡ None → stopped set s p ≡ true
no_wait set s p quiet there none =
    ⊎_elim
    (λ (yes' : stopped set s p ≡ true). yes')
    (λ (no' : stopped set s p ≡ false).
    let may : IsTrue (enabled set s p) = (none_where_enabled set s p there no').0 none in
    let not' : enabled set s p ≡ false = quiet p in
    absurd (clash (enabled set s p) not' may))
    (cases_Bool (stopped set s p))

no_other : (f : ℕ → ℕ) (o : Option ℕ) → option_map f o ≡ None → o ≡ None
no_other f None e = refl
no_other f (Some w) e = absurd (cc e)

last_within : (next : ℕ → Option ℕ) (n p : ℕ) (ps : List ℕ) → IsWithin next n → p < n → WaitsAlong next p ps → last_of p ps < n
last_within next n p [] within h along = h
last_within next n p (q ∷ qs) within h along = last_within next n q qs within (within p q along.0) along.1

-- where there is no cycle, each chain of waits ends in a processor that is stopped
pub chain_stops : (set : ProgramSet) (s : MachineState) → IsSet set → Fits set s → IsQuiet set s → ChainsEndStopped set s
chain_stops set s valid fits quiet = λ none p h.
    let next = waits_for set s in
    let n = proc_count set.topo in
    let within = waits_within set s valid in
    let along = chain_along next n within none p h in
    let last = along_last next p (chain_after next n p) along in
    let there = last_within next n p (chain_after next n p) within h along in
    no_wait set s (chain_end set s p) quiet (omega (arith, fits.processors)) (no_other (other_end set.topo (chain_end set s p)) (first_wait set s (chain_end set s p)) last)

none_is : (test : Local → Bool) (s : MachineState) → position test s.locals ≡ None → NoneIs test s
none_is test s none = λ k d lt.
    let past : length s.locals ≤ position_or_len test s.locals =
    ⊎_elim {C = length s.locals ≤ position_or_len test s.locals}
    (λ (inside : position_or_len test s.locals < length s.locals).
    let some : position test s.locals ≡ Some (position_or_len test s.locals) = rw (lt-ltb (position_or_len test s.locals) (length s.locals) inside) refl in
    absurd (cc (none, some)))
    (λ (past : length s.locals ≤ position_or_len test s.locals). past)
    (cases_lt (position_or_len test s.locals) (length s.locals)) in
    fails_before_first test s.locals k d (omega arith)

first_is : (test : Local → Bool) (s : MachineState) (o : Option ℕ) → position test s.locals ≡ o → MatchOption o (NoneIs test s) (IsFirst test s)
first_is test s None e = none_is test s e
first_is test s (Some p) e =
    record {
      there = (position-Some test s.locals p (first s.locals e) e).0;
      passes = λ d. (position-Some test s.locals p d e).1;
      none_before = λ q d lt. (position-Some test s.locals p d e).2 q lt;
    }
  where
    first : (ls : List Local) → position test ls ≡ Some p → Local
    first [] e = absurd (cc e)
    first (l ∷ ls) e = l

combined : (set : ProgramSet) (s : MachineState) (c : Option (ℕ × List ℕ)) (t l u : Option ℕ)
    → MatchOption {T = ℕ × List ℕ} c (NoCycle (waits_for set s)) (λ cycle. IsTheCycle (waits_for set s) cycle.0 cycle.1)
    → MatchOption t (NoneIs is_trapped s) (IsFirst is_trapped s) → MatchOption l (NoneIs (is_at_limit set) s) (IsFirst (is_at_limit set) s)
    → MatchOption u (NoneIs is_unhalted s) (IsFirst is_unhalted s) → IsOutcome set s (first_of c t l u)
combined set s (Some cycle) t l u hc ht hl hu = hc
combined set s None (Some p) l u hc ht hl hu = (hc, ht)
combined set s None None (Some p) u hc ht hl hu = (hc, ht, hl)
combined set s None None None (Some p) hc ht hl hu = (hc, ht, hl, hu)
combined set s None None None None hc ht hl hu = (hc, ht, hl, hu)

-- the outcome says what it says
pub outcome_says : (set : ProgramSet) (s : MachineState) → IsSet set → IsOutcome set s (outcome set s)
unfolding outcome
outcome_says set s valid =
    combined set s (the_cycle set s) (position is_trapped s.locals) (position (is_at_limit set) s.locals) (position is_unhalted s.locals)
    (cycle_law (waits_for set s) (proc_count set.topo) (waits_within set s valid))
    (first_is is_trapped s (position is_trapped s.locals) refl) (first_is (is_at_limit set) s (position (is_at_limit set) s.locals) refl) (first_is is_unhalted s (position is_unhalted s.locals) refl)
