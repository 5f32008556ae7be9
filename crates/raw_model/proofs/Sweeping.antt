-- The serial order is lawful, and comes to rest: a sweep that takes no step finds no processor enabled.
use Rattle.std.proofs.Common.{◌≡◌, ℕ, zero, suc, ◌+◌, ◌-◌, ◌<◌, ◌≤◌, Bool, true, false, List, [], ◌∷◌, ◌++◌, length, Option, Some, None, refl, sym, ap, ◌∙◌, subst, ⊎_elim, zero-add, arith}
use Rattle.std.specs.Prelude.{slice_get, if◌then◌else◌}
use Rattle.std.specs.List.{All, range_with_len}
use Rattle.std.proofs.lemmas.Bool.{cases_lt}
use Rattle.std.proofs.lemmas.List.Elements.{All-nil, All-cons}
use Rattle.std.proofs.lemmas.List.FromFn.{get_or-range_with_len, length-range_with_len}
use Rattle.std.proofs.lemmas.Option.{slice_get_within, slice_get-get_or}
use Rattle.raw_network.specs.Network.{is_ready}
use Rattle.raw_network.proofs.Steps.{lawful-append, end_of-append}
use Rattle.raw_grid.specs.Topology.{proc_count}
use Rattle.raw_model.specs.Program.{ProgramSet, IsSet}
use Rattle.raw_model.specs.Local.{Local}
use Rattle.raw_model.specs.Machine.{machine_of}
use Rattle.raw_model.specs.Start.{MachineState, start, Fits}
use Rattle.raw_model.specs.Rest.{enabled, step, IsLawfulFrom, end_from, IsQuiet, IsRun}
use Rattle.raw_model.specs.Bounds.{all_left, most_steps}
use Rattle.raw_model.specs.Serial.{sweep_over, sweep, sweeps, serial}
use Rattle.raw_model.proofs.Words.{all_at}
use Rattle.raw_model.proofs.Finite.{no_longer, start_left}
use Rattle.raw_model.proofs.Fitting.{end_fits}
use Rattle.raw_model.proofs.Starting.{start_fits}

not_both : (b : Bool) → b ≡ true → b ≡ false → ⊥
not_both b e f = cc

module _ (set : ProgramSet) where
  -- each step of a sweep is of a processor that is enabled then
  sweep_lawful : (s : MachineState) (ps : List ℕ) → IsLawfulFrom set s (sweep_over set s ps)
  sweep_lawful s [] = tt
  sweep_lawful s (p ∷ ps) = from (sweep_lawful (step set s p) ps) (sweep_lawful s ps) (enabled set s p) refl
    where
      from : IsLawfulFrom set (step set s p) (sweep_over set (step set s p) ps) → IsLawfulFrom set s (sweep_over set s ps)
          → (b : Bool) → enabled set s p ≡ b
          → IsLawfulFrom set s (if b then p ∷ sweep_over set (step set s p) ps else sweep_over set s ps)
      from stepped passed true e = (e, stepped)
      from stepped passed false e = passed

  -- a sweep that takes no step found none of its processors enabled
  none_enabled : (s : MachineState) (ps : List ℕ) → sweep_over set s ps ≡ [] → All (λ p. enabled set s p ≡ false) ps
  none_enabled s [] e = All-nil (λ p. enabled set s p ≡ false)
  none_enabled s (p ∷ ps) e = from (none_enabled s ps) (enabled set s p) refl e
    where
      from : (sweep_over set s ps ≡ [] → All (λ q. enabled set s q ≡ false) ps) → (b : Bool) → enabled set s p ≡ b
          → (if b then p ∷ sweep_over set (step set s p) ps else sweep_over set s ps) ≡ [] → All (λ q. enabled set s q ≡ false) (p ∷ ps)
      from rest true on none = absurd (cc none)
      from rest false on none = All-cons (λ q. enabled set s q ≡ false) p ps on (rest none)

  -- so that a whole sweep without a step found the state quiet
  pub quiet_by : (s : MachineState) → Fits set s → sweep set s ≡ [] → IsQuiet set s
  quiet_by s fits none p = from (slice_get s.locals p) refl
    where
      count : ℕ
      count = proc_count set.topo

      from : (o : Option Local) → slice_get s.locals p ≡ o → enabled set s p ≡ false
      from None here = ap (λ o. is_ready (machine_of set) p o s.wires) here
      from (Some l) here =
          let within = slice_get_within s.locals p l here in
          let below : p < count = let many = fits.processors in omega arith in
          let inside : p < length (range_with_len 0 count) = let many = length-range_with_len 0 count in omega arith in
          all_at (λ q. enabled set s q ≡ false) (range_with_len 0 count) p p (none_enabled s (range_with_len 0 count) none)
          (slice_get-get_or (range_with_len 0 count) p 0 inside ∙ ap Some (get_or-range_with_len 0 count p 0 below ∙ (let e : 0 + p ≡ p = omega arith in e)))

  -- a quiet state has no other lawful list than that without a step
  no_more : (s : MachineState) (ps : List ℕ) → IsQuiet set s → IsLawfulFrom set s ps → ps ≡ []
  no_more s [] quiet lawful = refl
  no_more s (p ∷ ps) quiet lawful = absurd (not_both (enabled set s p) lawful.0 (quiet p))

  pub sweep_of_quiet : (s : MachineState) → IsQuiet set s → sweep set s ≡ []
  sweep_of_quiet s quiet = no_more s (sweep set s) quiet (sweep_lawful s (range_with_len 0 (proc_count set.topo)))

  sweeps_lawful : (n : ℕ) (s : MachineState) → IsLawfulFrom set s (sweeps set n s)
  sweeps_lawful zero s = tt
  sweeps_lawful (suc n) s =
      lawful-append (machine_of set) s (sweep set s) (sweeps set n (end_from set s (sweep set s))) (sweep_lawful s (range_with_len 0 (proc_count set.topo)))
      (sweeps_lawful n (end_from set s (sweep set s)))

  -- more sweeps of a quiet state take no step
  sweeps_more : (n m : ℕ) (s : MachineState) → IsQuiet set (end_from set s (sweeps set n s)) → sweeps set (n + m) s ≡ sweeps set n s
  sweeps_more zero m s quiet = ap (λ k. sweeps set k s) (zero-add m) ∙ no_more s (sweeps set m s) quiet (sweeps_lawful m s)
  sweeps_more (suc n) m s quiet =
      let after = end_from set s (sweep set s) in
      ap (λ k. sweeps set k s) (let e : suc n + m ≡ suc (n + m) = omega arith in e)
      ∙ ap (λ ps. sweep set s ++ ps)
      (sweeps_more n m after (subst (IsQuiet set) (end_of-append (machine_of set) s (sweep set s) (sweeps set n after)) quiet))

  -- two numbers of sweeps that come to rest take the same steps
  sweeps_same : (n m : ℕ) (s : MachineState) → IsQuiet set (end_from set s (sweeps set n s)) → IsQuiet set (end_from set s (sweeps set m s))
      → sweeps set n s ≡ sweeps set m s
  sweeps_same n m s by_n by_m =
      ⊎_elim
      (λ (h : n < m). sym (sweeps_more n (m - n) s by_n) ∙ ap (λ k. sweeps set k s) (let e : n + (m - n) ≡ m = omega arith in e))
      (λ (h : m ≤ n). sym (ap (λ k. sweeps set k s) (let e : m + (n - m) ≡ n = omega arith in e)) ∙ sweeps_more m (n - m) s by_m)
      (cases_lt n m)

  -- a state with no steps left is quiet
  quiet_at_end : (s : MachineState) → all_left set s ≤ 0 → IsQuiet set s
  quiet_at_end s none p = from (enabled set s p) refl
    where
      from : (b : Bool) → enabled set s p ≡ b → b ≡ false
      from true on = let left = no_longer set s (p ∷ []) (on, tt) in absurd (omega (arith, left, none))
      from false on = refl

  module _ (valid : IsSet set) where
    -- as many sweeps as there are steps left come to rest
    sweeps_rest : (n : ℕ) (s : MachineState) → Fits set s → all_left set s ≤ n → IsQuiet set (end_from set s (sweeps set n s))
    sweeps_rest zero s fits few = quiet_at_end s few
    sweeps_rest (suc n) s fits few =
        subst (IsQuiet set) (sym (end_of-append (machine_of set) s (sweep set s) (sweeps set n (end_from set s (sweep set s)))))
        (from (sweeps_rest n (end_from set s (sweep set s))) (sweep set s) refl)
      where
        whole : List ℕ
        whole = range_with_len 0 (proc_count set.topo)

        from : (Fits set (end_from set s (sweep set s)) → all_left set (end_from set s (sweep set s)) ≤ n
            → IsQuiet set (end_from set (end_from set s (sweep set s)) (sweeps set n (end_from set s (sweep set s)))))
            → (ps : List ℕ) → sweep set s ≡ ps → IsQuiet set (end_from set (end_from set s (sweep set s)) (sweeps set n (end_from set s (sweep set s))))
        from rest [] e =
            let after = end_from set s (sweep set s) in
            let same : after ≡ s = ap (end_from set s) e in
            let quiet : IsQuiet set after = subst (IsQuiet set) (sym same) (quiet_by s fits e) in
            let none = no_more after (sweeps set n after) quiet (sweeps_lawful n after) in
            subst (λ ps. IsQuiet set (end_from set after ps)) (sym none) quiet
        from rest (p ∷ ps) e =
            let lawful = sweep_lawful s whole in
            let left = no_longer set s (sweep set s) lawful in
            let some = ap length e in
            rest (end_fits set valid s (sweep set s) fits lawful) (omega (arith, left, some, few))

  pub serial_rests : (valid : IsSet set) → IsRun set (serial set)
  unfolding serial
  serial_rests valid = record {
    lawful = sweeps_lawful (most_steps set) (start set);
    quiet = sweeps_rest valid (most_steps set) (start set) (start_fits set valid) (start_left set valid);
  }

  pub until_quiet : (n : ℕ) → IsSet set → IsQuiet set (end_from set (start set) (sweeps set n (start set)))
      → sweeps set n (start set) ≡ serial set
  unfolding serial
  until_quiet n valid quiet =
      sweeps_same n (most_steps set) (start set) quiet
      (sweeps_rest valid (most_steps set) (start set) (start_fits set valid) (start_left set valid))
