-- Sweeps one after another, and the turns of one sweep.
use Rattle.std.proofs.Common.{◌≡◌, ℕ, zero, suc, ◌+◌, ◌-◌, ◌<◌, ◌≤◌, Bool, true, false, List, [], ◌∷◌, ◌++◌, refl, sym, ap, ap₂, ◌∙◌, subst, append_assoc, append-nil, arith}
use Rattle.std.specs.Prelude.{if◌then◌else◌}
use Rattle.std.specs.List.{range_with_len}
use Rattle.raw_network.proofs.Steps.{end_of-append, end_of-push}
use Rattle.raw_grid.specs.Topology.{proc_count}
use Rattle.raw_model.specs.Program.{ProgramSet, IsSet}
use Rattle.raw_model.specs.Machine.{machine_of}
use Rattle.raw_model.specs.Start.{MachineState, start}
use Rattle.raw_model.specs.Rest.{enabled, step, end, end_from, IsQuiet}
use Rattle.raw_model.specs.Bounds.{most_steps}
use Rattle.raw_model.specs.Serial.{sweep_over, sweep, sweeps, serial}
use Rattle.raw_model.proofs.Sweeping.{serial_rests, sweep_of_quiet, until_quiet}
use Rattle.raw_debug.specs.Walking.{front, IsAt, NoneEnabled}

-- numbers in turn, in two parts
range_append : (a n m : ℕ) → range_with_len a (n + m) ≡ range_with_len a n ++ range_with_len (a + n) m
range_append a zero m =
    let none : zero + m ≡ m = omega arith in
    let same : a ≡ a + zero = omega arith in
    ap (range_with_len a) none ∙ ap (λ b. range_with_len b m) same
range_append a (suc n) m =
    let long : suc n + m ≡ suc (n + m) = omega arith in
    let on : a + 1 + n ≡ a + suc n = omega arith in
    ap (range_with_len a) long
    ∙ ap (λ xs. a ∷ xs) (range_append (a + 1) n m ∙ ap (λ b. range_with_len (a + 1) n ++ range_with_len b m) on)

module _ (set : ProgramSet) where
  -- a sweep over some processors and then over others
  sweep_append : (s : MachineState) (ps qs : List ℕ)
      → sweep_over set s (ps ++ qs) ≡ sweep_over set s ps ++ sweep_over set (end_from set s (sweep_over set s ps)) qs
  sweep_append s [] qs = refl
  sweep_append s (p ∷ ps) qs = by_test (sweep_append (step set s p) ps qs) (sweep_append s ps qs) (enabled set s p)
    where
      on : List ℕ
      on = sweep_over set (step set s p) ps

      off : List ℕ
      off = sweep_over set s ps

      by_test : sweep_over set (step set s p) (ps ++ qs) ≡ on ++ sweep_over set (end_from set (step set s p) on) qs
          → sweep_over set s (ps ++ qs) ≡ off ++ sweep_over set (end_from set s off) qs
          → (b : Bool) → (if b then p ∷ sweep_over set (step set s p) (ps ++ qs) else sweep_over set s (ps ++ qs))
          ≡ (if b then p ∷ on else off) ++ sweep_over set (end_from set s (if b then p ∷ on else off)) qs
      by_test stepped passed true = ap (λ xs. p ∷ xs) stepped
      by_test stepped passed false = passed

  -- a sweep over processors none of which is enabled takes no step
  sweep_idle : (s : MachineState) (a n : ℕ) → NoneEnabled set s a (a + n) → sweep_over set s (range_with_len a n) ≡ []
  sweep_idle s a zero none = refl
  sweep_idle s a (suc n) none =
      let off : enabled set s a ≡ false = none a (omega arith) (omega arith) in
      rw off (sweep_idle s (a + 1) n (λ p low high. none p (omega (arith, low)) (omega (arith, high))))

  -- one that ends with the first that is enabled takes its step
  sweep_first : (s : MachineState) (a n p : ℕ) → a + n ≡ p → NoneEnabled set s a p → enabled set s p ≡ true
      → sweep_over set s (range_with_len a (suc n)) ≡ p ∷ []
  sweep_first s a zero p is none on =
      let same : a ≡ p = omega (arith, is) in
      subst (λ b. sweep_over set s (range_with_len b (suc zero)) ≡ p ∷ []) (sym same) (rw on refl)
  sweep_first s a (suc n) p is none on =
      let off : enabled set s a ≡ false = none a (omega arith) (omega (arith, is)) in
      rw off (sweep_first s (a + 1) n p (omega (arith, is)) (λ q low high. none q (omega (arith, low)) high) on)

  -- so many sweeps and then more
  sweeps_append : (n m : ℕ) (s : MachineState) → sweeps set (n + m) s ≡ sweeps set n s ++ sweeps set m (end_from set s (sweeps set n s))
  sweeps_append zero m s = let none : zero + m ≡ m = omega arith in ap (λ k. sweeps set k s) none
  sweeps_append (suc n) m s =
      let after = end_from set s (sweep set s) in
      let long : suc n + m ≡ suc (n + m) = omega arith in
      ap (λ k. sweeps set k s) long
      ∙ ap (λ ps. sweep set s ++ ps) (sweeps_append n m after)
      ∙ sym (append_assoc (sweep set s) (sweeps set n after) (sweeps set m (end_from set after (sweeps set n after))))
      ∙ ap (λ t. (sweep set s ++ sweeps set n after) ++ sweeps set m t) (sym (end_of-append (machine_of set) s (sweep set s) (sweeps set n after)))

  -- no sweep of a quiet state takes a step
  sweeps_quiet : (n : ℕ) (s : MachineState) → IsQuiet set s → sweeps set n s ≡ []
  sweeps_quiet zero s quiet = refl
  sweeps_quiet (suc n) s quiet = rw (sweep_of_quiet set s quiet) (sweeps_quiet n s quiet)

  -- more turns of a sweep
  front_on : (whole next n : ℕ) → front set whole (next + n)
      ≡ front set whole next ++ sweep_over set (end set (front set whole next)) (range_with_len next n)
  front_on whole next n =
      let before = sweeps set whole (start set) in
      let s = end set before in
      let turns = sweep_over set s (range_with_len 0 next) in
      let from : 0 + next ≡ next = omega arith in
      ap (λ ps. before ++ sweep_over set s ps) (range_append 0 next n ∙ ap (λ a. range_with_len 0 next ++ range_with_len a n) from)
      ∙ ap (λ ps. before ++ ps) (sweep_append s (range_with_len 0 next) (range_with_len next n))
      ∙ sym (append_assoc before turns (sweep_over set (end_from set s turns) (range_with_len next n)))
      ∙ ap (λ t. (before ++ turns) ++ sweep_over set t (range_with_len next n)) (sym (end_of-append (machine_of set) (start set) before turns))

  -- a sweep whose last turn is over is one sweep more
  whole_sweep : (n : ℕ) → front set n (proc_count set.topo) ≡ sweeps set (n + 1) (start set)
  whole_sweep n =
      let s = end set (sweeps set n (start set)) in
      sym (sweeps_append n 1 (start set) ∙ ap (λ ps. sweeps set n (start set) ++ ps) (append-nil (sweep set s)))

  module _ (s : MachineState) (next : ℕ) (done : List ℕ) (at : IsAt set s next done) where
    -- more turns from where the steps lead
    turns_on : (n : ℕ) → front set at.whole (next + n) ≡ done ++ sweep_over set s (range_with_len next n)
    turns_on n =
        front_on at.whole next n
        ∙ ap₂ (λ xs t. xs ++ sweep_over set t (range_with_len next n)) (sym at.steps) (ap (end set) (sym at.steps) ∙ at.there)

    rest_of_sweep : sweeps set (at.whole + 1) (start set) ≡ done ++ sweep_over set s (range_with_len next (proc_count set.topo - next))
    rest_of_sweep =
        let to : next + (proc_count set.topo - next) ≡ proc_count set.topo = omega (arith, at.within) in
        sym (whole_sweep at.whole) ∙ ap (front set at.whole) (sym to) ∙ turns_on (proc_count set.topo - next)

    -- a sweep that ends without a step
    pub swept : NoneEnabled set s next (proc_count set.topo) → IsAt set s 0 done
    swept none =
        let to : next + (proc_count set.topo - next) ≡ proc_count set.topo = omega (arith, at.within) in
        let nothing = sweep_idle s next (proc_count set.topo - next) (λ p low high. none p low (omega (arith, high, to))) in
        record {
          whole = at.whole + 1;
          steps = sym (append-nil (sweeps set (at.whole + 1) (start set)) ∙ rest_of_sweep ∙ ap (λ ps. done ++ ps) nothing ∙ append-nil done);
          there = at.there;
          within = omega arith;
        }

    -- a step of the first that is enabled
    pub stepped : (p : ℕ) → next ≤ p → p < proc_count set.topo → NoneEnabled set s next p → enabled set s p ≡ true
        → IsAt set (step set s p) (p + 1) (done ++ p ∷ [])
    stepped p low high none on =
        let to : next + (p - next) ≡ p = omega (arith, low) in
        let upto : next + suc (p - next) ≡ p + 1 = omega (arith, low) in
        record {
          whole = at.whole;
          steps = sym (ap (front set at.whole) (sym upto) ∙ turns_on (suc (p - next)) ∙ ap (λ ps. done ++ ps) (sweep_first s next (p - next) p to none on));
          there = end_of-push (machine_of set) (start set) done p ∙ ap (λ t. step set t p) at.there;
          within = omega (arith, high);
        }

    -- the serial order begins with the steps
    pub begins : IsSet set → (rest : List ℕ) × (serial set ≡ done ++ rest)
    unfolding serial
    begins valid =
        let most = most_steps set in
        let n = at.whole + 1 in
        let sum : most + n ≡ n + most = omega arith in
        let quiet = (serial_rests set valid).quiet in
        let rest = sweep_over set s (range_with_len next (proc_count set.topo - next)) in
        let later = sweeps set most (end_from set (start set) (sweeps set n (start set))) in (
          rest ++ later,
          sym (append-nil (sweeps set most (start set)))
              ∙ ap (λ ps. sweeps set most (start set) ++ ps) (sym (sweeps_quiet n (end_from set (start set) (sweeps set most (start set))) quiet))
              ∙ sym (sweeps_append most n (start set))
              ∙ ap (λ k. sweeps set k (start set)) sum
              ∙ sweeps_append n most (start set)
              ∙ ap (λ ps. ps ++ later) rest_of_sweep
              ∙ append_assoc done rest later,
        )

    -- where no processor is enabled, they are the whole
    pub at_rest : IsSet set → IsQuiet set s → done ≡ serial set
    at_rest valid quiet =
        let none = sweep_idle s next (proc_count set.topo - next) (λ p low high. quiet p) in
        let all : sweeps set (at.whole + 1) (start set) ≡ done = rest_of_sweep ∙ ap (λ ps. done ++ ps) none ∙ append-nil done in
        sym all ∙ until_quiet set (at.whole + 1) valid (subst (IsQuiet set) (sym (ap (end set) all ∙ at.there)) quiet)

-- a machine at its start has taken no step
pub fresh_at : (set : ProgramSet) (s : MachineState) (next : ℕ) → s ≡ start set → next ≡ 0 → IsAt set s next []
fresh_at set s next is first = record { whole = 0; steps = ap (λ n. front set 0 n) (sym first); there = sym is; within = omega (arith, first) }
