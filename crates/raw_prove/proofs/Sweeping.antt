-- Turns of a machine with terms as turns of its run, sweeps, and runs.
use Rattle.std.proofs.Common.{◌≡◌, ℕ, zero, suc, ◌+◌, ◌-◌, ◌*◌, ◌^◌, ◌<◌, ◌≤◌, true, false, cond, List, [], ◌∷◌, ◌++◌, length, Option, Some, None, refl, sym, ap, ap₂, ◌∙◌, subst, ⊎_elim, arith}
use Rattle.std.proofs.Math.Nat.{mul-le-mul_left}
use Rattle.std.specs.Prelude.{IsSomeAnd}
use Rattle.std.specs.List.{range_with_len}
use Rattle.std.proofs.lemmas.Bool.{lt-leb, cases_lt}
use Rattle.std.proofs.lemmas.List.{length-map}
use Rattle.raw_grid.specs.Topology.{tile_count, proc_count}
use Rattle.raw_grid.proofs.Growth.{tiles_few}
use Rattle.raw_model.specs.Program.{ProgramSet, IsSet}
use Rattle.raw_model.specs.Bounds.{most_steps}
use Rattle.raw_model.specs.Rest.{enabled}
use Rattle.raw_serial.proofs.Leading.{quiet_is}
use Rattle.raw_term.specs.declared.limits.TheConstants.{MAX_TERMS}
use Rattle.raw_term.specs.Terms.{is_within, Overflows}
use Rattle.raw_term.specs.TermMachine.{TermState, term_step, numbered}
use Rattle.raw_term.specs.Verdicts.{Break, OnInput, OnTable, TermRun, stepped, turn_if, turned, swept, ran, first_run, EachRunIsShort}
use Rattle.raw_prove.specs.declared.machine.Machine.{Machine}
use Rattle.raw_prove.specs.declared.running.End.{End}
use Rattle.raw_prove.specs.declared.running.End.TheVariants.{Rests, Hangs, TooMany}
use Rattle.raw_prove.specs.Units.{local_of, state_of, MachineStands}
use Rattle.raw_prove.specs.Turns.{StaysIdle, TakesStep, HangsThere, NeedsMore}
use Rattle.raw_prove.specs.Runs.{going, swept_once, IsReached, IsCountedTurn, BreaksAs, IsWholeSweep, Breaks, IsEnd}

-- a list of numbers in two parts
pub range_split : (a n m : ℕ) → range_with_len a (n + m) ≡ range_with_len a n ++ range_with_len (a + n) m
range_split a zero m = ap₂ range_with_len (omega arith) (omega arith)
range_split a (suc n) m =
    let many : suc n + m ≡ suc (n + m) = omega arith in
    let there : a + 1 + n ≡ a + suc n = omega arith in
    ap (range_with_len a) many ∙ ap (λ ps. a ∷ ps) (range_split (a + 1) n m ∙ ap (λ b. range_with_len (a + 1) n ++ range_with_len b m) there)

range_push : (p : ℕ) → range_with_len 0 (p + 1) ≡ range_with_len 0 p ++ p ∷ []
range_push p = let e : 0 + p ≡ p = omega arith in range_split 0 p 1 ∙ ap (λ q. range_with_len 0 p ++ q ∷ []) e

range_at : (p n : ℕ) → p < n → range_with_len 0 n ≡ range_with_len 0 p ++ p ∷ range_with_len (p + 1) (n - (p + 1))
range_at p n below =
    let many : p + suc (n - (p + 1)) ≡ n = omega (arith, below) in
    let e : 0 + p ≡ p = omega arith in
    ap (range_with_len 0) (sym many) ∙ range_split 0 p (suc (n - (p + 1))) ∙ ap (λ q. range_with_len 0 p ++ q ∷ range_with_len (q + 1) (n - (p + 1))) e

module _ (g : ProgramSet) where
  -- a run that goes no further stays
  stays : (ps : List ℕ) (r : TermRun) (q : Break) → r.broken ≡ Some q → swept g r ps ≡ r
  stays [] r q e = refl
  stays (p ∷ ps) r q e = ap (λ (o : Option Break). swept g (turned g r p o) ps) e ∙ stays ps r q e

  swept_append : (xs ys : List ℕ) (r : TermRun) → swept g r (xs ++ ys) ≡ swept g (swept g r xs) ys
  swept_append [] ys r = refl
  swept_append (x ∷ xs) ys r = swept_append xs ys (turned g r x r.broken)

  ran_next : (n : ℕ) (r : TermRun) → ran g (suc n) r ≡ swept g (ran g n r) (range_with_len 0 (proc_count g.topo))
  ran_next zero r = refl
  ran_next (suc n) r = ran_next n (swept g r (range_with_len 0 (proc_count g.topo)))

  -- a turn, by what it comes to
  module _ (s : TermState) (steps p : ℕ) where
    idle_turn : enabled g s.state p ≡ false → turned g (going s steps) p None ≡ going s steps
    idle_turn e = ap (turn_if g (going s steps) p) e

    fired_turn : (t : TermState) → enabled g s.state p ≡ true → term_step g s p ≡ Some t → is_within t.nodes ≡ true → turned g (going s steps) p None ≡ going t (steps + 1)
    fired_turn t e does within =
        ap (turn_if g (going s steps) p) e
        ∙ ap (stepped (going s steps) p) does
        ∙ ap (λ b. cond b (record { at = t; steps = steps + 1; broken = None }) (record { at = s; steps = steps; broken = Some OnTable })) within

    hung_turn : enabled g s.state p ≡ true → term_step g s p ≡ None → turned g (going s steps) p None ≡ record { at = s; steps = steps; broken = Some (OnInput p) }
    hung_turn e wants = ap (turn_if g (going s steps) p) e ∙ ap (stepped (going s steps) p) wants

    over_turn : enabled g s.state p ≡ true → IsSomeAnd (term_step g s p) (λ (t : TermState). Overflows t.nodes) → turned g (going s steps) p None ≡ record { at = s; steps = steps; broken = Some OnTable }
    over_turn e over = ap (turn_if g (going s steps) p) e ∙ by (term_step g s p) over where
      by : (o : Option TermState) → IsSomeAnd o (λ (t : TermState). Overflows t.nodes) → stepped (going s steps) p o ≡ record { at = s; steps = steps; broken = Some OnTable }
      by None h = absurd h
      by (Some t) h =
          ap (λ b. cond b (record { at = t; steps = steps + 1; broken = None }) (record { at = s; steps = steps; broken = Some OnTable }))
          (lt-leb (length t.nodes) MAX_TERMS h)

-- a machine in a sweep that began at `old` after `before` steps: the turns of the first p processors are taken
pub record SweepAt (set_ : ProgramSet) (old : Machine) (before : ℕ) (m : Machine) (steps p : ℕ) : Type 0 where
  pub stands : MachineStands set_ m
  pub there : swept (numbered set_) (going (state_of old) before) (range_with_len 0 p) ≡ going (state_of m) steps
  pub more : before ≤ steps
  pub few : steps ≤ most_steps set_
  pub same : steps ≡ before → state_of m ≡ state_of old
  pub none : steps ≡ before → (q : ℕ) → q < p → enabled (numbered set_) (state_of old).state q ≡ false

module _ (set_ : ProgramSet) (valid : IsSet set_) (short : EachRunIsShort) (old : Machine) (before : ℕ) (reached : IsReached set_ old before) where
  abbrev g : ProgramSet
  g = numbered set_

  -- no more steps than a lawful list has
  short_at : (ps : List ℕ) (s : TermState) (steps : ℕ) → swept g (going (state_of old) before) ps ≡ going s steps → steps ≤ most_steps set_
  short_at ps s steps e =
      let all : swept g (ran g reached.sweeps (first_run set_)) ps ≡ going s steps = ap (λ r. swept g r ps) reached.there ∙ e in
      subst (λ (r : TermRun). r.steps ≤ most_steps set_) all
      (short set_ reached.sweeps ps valid (ap (λ (r : TermRun). r.broken) all))

  pub sweep_first : MachineStands set_ old → SweepAt set_ old before old before 0
  sweep_first stands = record {
    stands = stands;
    there = refl;
    more = omega arith;
    few = short_at [] (state_of old) before refl;
    same = λ e. refl;
    none = λ e q below. absurd (omega (arith, below));
  }

  module _ (m new : Machine) (steps p : ℕ) (at : SweepAt set_ old before m steps p) where
    -- the turn after those that are taken
    next_turn : swept g (going (state_of old) before) (range_with_len 0 (p + 1)) ≡ turned g (going (state_of m) steps) p None
    next_turn =
        ap (swept g (going (state_of old) before)) (range_push p)
        ∙ swept_append g (range_with_len 0 p) (p ∷ []) (going (state_of old) before)
        ∙ ap (λ (r : TermRun). swept g r (p ∷ [])) at.there

    pub sweep_idle : StaysIdle set_ p m new → SweepAt set_ old before new steps (p + 1)
    sweep_idle turn = record {
      stands = turn.stands;
      there = next_turn ∙ idle_turn g (state_of m) steps p turn.waits ∙ ap (λ s. going s steps) (sym turn.stays);
      more = at.more;
      few = at.few;
      same = λ e. turn.stays ∙ at.same e;
      none = λ e q below.
          ⊎_elim (λ (h : q < p). at.none e q h)
          (λ (h : p ≤ q).
          let is : p ≡ q = omega (arith, below, h) in
          subst (λ k. enabled g (state_of old).state k ≡ false) is (subst (λ (s : TermState). enabled g s.state p ≡ false) (at.same e) turn.waits))
          (cases_lt q p);
    }

    pub sweep_fired : TakesStep set_ p m new → SweepAt set_ old before new (steps + 1) (p + 1)
    sweep_fired turn =
        let there : swept g (going (state_of old) before) (range_with_len 0 (p + 1)) ≡ going (state_of new) (steps + 1) =
        next_turn ∙ fired_turn g (state_of m) steps p (state_of new) turn.may turn.does turn.within in
        record {
          stands = turn.stands;
          there = there;
          more = omega (arith, at.more);
          few = short_at (range_with_len 0 (p + 1)) (state_of new) (steps + 1) there;
          same = λ e. absurd (omega (arith, at.more, e));
          none = λ e. absurd (omega (arith, at.more, e));
        }

    -- the whole sweep where the run breaks off
    broken_sweep : p < proc_count set_.topo → (r : TermRun) (q : Break) → r.broken ≡ Some q → turned g (going (state_of m) steps) p None ≡ r → swept_once set_ (going (state_of old) before) ≡ r
    broken_sweep below r q broken is =
        let rest : List ℕ = range_with_len (p + 1) (proc_count set_.topo - (p + 1)) in
        ap (swept g (going (state_of old) before)) (range_at p (proc_count set_.topo) below)
        ∙ swept_append g (range_with_len 0 p) (p ∷ rest) (going (state_of old) before)
        ∙ ap (λ (k : TermRun). swept g k (p ∷ rest)) at.there
        ∙ ap (λ (k : TermRun). swept g k rest) is
        ∙ stays g rest r q broken

    pub sweep_hangs : p < proc_count set_.topo → HangsThere set_ p m → BreaksAs (swept_once set_ (going (state_of old) before)) (Hangs steps (record { 0 = p }))
    sweep_hangs below turn =
        let r : TermRun = record { at = state_of m; steps = steps; broken = Some (OnInput p) } in
        let is : swept_once set_ (going (state_of old) before) ≡ r = broken_sweep below r (OnInput p) refl (hung_turn g (state_of m) steps p turn.may turn.wants) in
        (ap (λ (k : TermRun). k.broken) is, ap (λ (k : TermRun). k.steps) is)

    pub sweep_over : p < proc_count set_.topo → NeedsMore set_ p m → BreaksAs (swept_once set_ (going (state_of old) before)) TooMany
    sweep_over below turn =
        let r : TermRun = record { at = state_of m; steps = steps; broken = Some OnTable } in
        ap (λ (k : TermRun). k.broken) (broken_sweep below r OnTable refl (over_turn g (state_of m) steps p turn.may turn.over))

  pub sweep_turn : (m new : Machine) (steps more p : ℕ) → SweepAt set_ old before m steps p → IsCountedTurn set_ p m steps None new more → SweepAt set_ old before new more (p + 1)
  sweep_turn m new steps more p at turn =
      ⊎_elim
      (λ (idle : StaysIdle set_ p m new × (more ≡ steps)). subst (λ n. SweepAt set_ old before new n (p + 1)) (sym idle.1) (sweep_idle m new steps p at idle.0))
      (λ (fired : TakesStep set_ p m new × (more ≡ steps + 1)). subst (λ n. SweepAt set_ old before new n (p + 1)) (sym fired.1) (sweep_fired m new steps p at fired.0))
      turn

  pub sweep_breaks : (m new : Machine) (steps more p : ℕ) → SweepAt set_ old before m steps p → p < proc_count set_.topo → (end : End) → IsCountedTurn set_ p m steps (Some end) new more
      → BreaksAs (swept_once set_ (going (state_of old) before)) end
  sweep_breaks m new steps more p at below Rests turn = absurd turn
  sweep_breaks m new steps more p at below (Hangs step q) turn =
      let h = sweep_hangs m new steps p at below turn.0 in
      (h.0 ∙ ap (λ k. Some (OnInput k)) (sym turn.2), h.1 ∙ sym turn.1)
  sweep_breaks m new steps more p at below TooMany turn = sweep_over m new steps p at below turn

  pub sweep_whole : (m : Machine) (steps p : ℕ) → p ≡ proc_count set_.topo → SweepAt set_ old before m steps p → IsWholeSweep set_ old before m steps
  sweep_whole m steps p all at = record {
    swept = subst (λ n. swept g (going (state_of old) before) (range_with_len 0 n) ≡ going (state_of m) steps) all at.there;
    more = at.more;
    few = at.few;
    quiet = λ e.
        quiet_is g (state_of m).state (proc_count set_.topo) (length-map m.units.items local_of ∙ at.stands.each)
        (λ q below. subst (λ (s : TermState). enabled g s.state q ≡ false) (sym (at.same e)) (at.none e q (omega (arith, below, all))));
    stands = at.stands;
  }

module _ (set_ : ProgramSet) (m : Machine) (steps : ℕ) (reached : IsReached set_ m steps) where
  next_sweep : (r : TermRun) → swept_once set_ (going (state_of m) steps) ≡ r → ran (numbered set_) (suc reached.sweeps) (first_run set_) ≡ r
  next_sweep r is = ran_next (numbered set_) reached.sweeps (first_run set_) ∙ ap (swept_once set_) reached.there ∙ is

  pub run_next : (new : Machine) (more : ℕ) → IsWholeSweep set_ m steps new more → IsReached set_ new more
  run_next new more sweep = record { sweeps = suc reached.sweeps; there = next_sweep (going (state_of new) more) sweep.swept }

  broke : (end : End) → BreaksAs (swept_once set_ (going (state_of m) steps)) end → Breaks set_ end
  broke end h = record {
    sweeps = suc reached.sweeps;
    as_said = subst (λ (r : TermRun). BreaksAs r end) (sym (next_sweep (swept_once set_ (going (state_of m) steps)) refl)) h;
  }

  pub run_breaks : (new : Machine) (end : End) → BreaksAs (swept_once set_ (going (state_of m) steps)) end → IsEnd set_ new end
  run_breaks new Rests h = absurd h
  run_breaks new (Hangs step p) h = broke (Hangs step p) h
  run_breaks new TooMany h = broke TooMany h

  pub run_rests : (new : Machine) (more : ℕ) → more ≡ steps → IsWholeSweep set_ m steps new more → IsEnd set_ new Rests
  run_rests new more e sweep = record { sweeps = suc reached.sweeps; steps = more; there = next_sweep (going (state_of new) more) sweep.swept; quiet = sweep.quiet e }

-- so few steps that their count is a number of 32 bits
pub most_small : (set_ : ProgramSet) → IsSet set_ → most_steps set_ < 2 ^ 32
unfolding most_steps
most_small set_ valid =
    let n : ℕ = tile_count set_.topo in
    let tiles : n ≤ 64 = tiles_few set_.topo.cols set_.topo.rows valid.topology.size in
    let most : set_.limit * n ≤ set_.limit * 64 = mul-le-mul_left set_.limit tiles in
    omega (arith, most, valid.few_steps, valid.totals.words, valid.totals.capacities)
