-- Where each tile and each switch has halted and each port is stopped, the machine is at rest, and done.
use Rattle.std.proofs.Common.{◌≡◌, ℕ, ◌-◌, ◌*◌, ◌<◌, ◌≤◌, Bool, true, false, cond, ltb, List, [], ◌∷◌, length, get_or, Option, Some, None, refl, sym, ap, ◌∙◌, subst, ⊎_elim, arith}
use Rattle.std.specs.Prelude.{slice_get, slice_index_or, option_map}
use Rattle.std.proofs.lemmas.Bool.{cases_lt, le-ltb, false≢true}
use Rattle.std.proofs.lemmas.Option.{slice_get-get_or}
use Rattle.raw_network.specs.Network.{is_ready}
use Rattle.raw_network.specs.Waits.{wait_of}
use Rattle.raw_grid.specs.declared.parts.PortKind.{PortKind}
use Rattle.raw_grid.specs.declared.parts.PortKind.TheVariants as kind
use Rattle.raw_grid.specs.declared.parts.PortPlace.{PortPlace}
use Rattle.raw_grid.specs.declared.parts.ProcKind.TheVariants as proc
use Rattle.raw_grid.specs.Topology.{Topology, tile_count, switch_number, port_proc, kind_at}
use Rattle.raw_cycle.specs.Cycles.{WaitsRound}
use Rattle.raw_model.specs.declared.marks.Mark.TheVariants.{Halted}
use Rattle.raw_model.specs.Program.{ProgramSet}
use Rattle.raw_model.specs.Local.{Local, Tile, Switch, Source, Sink, TileLocal, SwitchLocal}
use Rattle.raw_model.specs.Machine.{machine_of, is_stopped}
use Rattle.raw_model.specs.Start.{MachineState, Fits}
use Rattle.raw_model.specs.Rest.{IsQuiet, is_trapped, is_at_limit}
use Rattle.raw_model.specs.Waits.{waits_for, other_end, inputs_at, outputs_at}
use Rattle.raw_model.specs.Outcomes.Outcome.{Done, Deadlock, Trapped, Limit, Stuck}
use Rattle.raw_model.specs.Outcomes.{Outcome, outcome, IsOutcome, is_unhalted}
use Rattle.raw_codegen.specs.Parts.{Part}
use Rattle.raw_codegen.specs.Standing.{IsScript, PartsStand, PortsAreStopped, HasHalted}
use Rattle.raw_codegen.specs.Steps.{Leads}
use Rattle.raw_codegen.proofs.Given.{Laws}
use Rattle.raw_codegen.proofs.Halting.{Halting, halt_all}
use Rattle.raw_codegen.proofs.Moves.{more, with_fits}

-- a processor that is at its end, and well
pub record IsOver (set : ProgramSet) (p : ℕ) (l : Local) : Type 0 where
  pub stopped : is_stopped set p l ≡ true
  pub trapped : is_trapped l ≡ false
  pub limit : is_at_limit set l ≡ false
  pub unhalted : is_unhalted l ≡ false

tile_over : (set : ProgramSet) (p : ℕ) (l : TileLocal) → l.mark ≡ Halted → IsOver set p (Tile l)
tile_over set p l e = record { stopped = rw e refl; trapped = rw e refl; limit = rw e refl; unhalted = rw e refl }

switch_over : (set : ProgramSet) (p : ℕ) (l : SwitchLocal) → l.mark ≡ Halted → IsOver set p (Switch l)
switch_over set p l e = record { stopped = rw e refl; trapped = rw e refl; limit = rw e refl; unhalted = rw e refl }

-- behind tiles and switches stand ports
past_tiles : (t : Topology) (p : ℕ) → 2 * tile_count t ≤ p → kind_at t p ≡ option_map (λ (place : PortPlace). port_proc place.kind) (slice_get t.places (p - 2 * tile_count t))
past_tiles t p h =
    let a : tile_count t ≤ p = omega arith in
    ap
    (λ b.
    cond b (Some proc.Tile)
    (cond (ltb p (2 * tile_count t)) (Some proc.Switch) (option_map (λ (place : PortPlace). port_proc place.kind) (slice_get t.places (p - 2 * tile_count t)))))
    (le-ltb p (tile_count t) a)
    ∙ ap (λ b. cond b (Some proc.Switch) (option_map (λ (place : PortPlace). port_proc place.kind) (slice_get t.places (p - 2 * tile_count t)))) (le-ltb p (2 * tile_count t) h)

not_tile : (o : Option PortPlace) → option_map (λ (place : PortPlace). port_proc place.kind) o ≡ Some proc.Tile → ⊥
not_tile None e = cc e
not_tile (Some place) e = by place.kind e
  where
    by : (k : PortKind) → Some (port_proc k) ≡ Some proc.Tile → ⊥
    by kind.Source e = cc e
    by kind.Sink e = cc e

not_switch : (o : Option PortPlace) → option_map (λ (place : PortPlace). port_proc place.kind) o ≡ Some proc.Switch → ⊥
not_switch None e = cc e
not_switch (Some place) e = by place.kind e
  where
    by : (k : PortKind) → Some (port_proc k) ≡ Some proc.Switch → ⊥
    by kind.Source e = cc e
    by kind.Sink e = cc e

module _ (set : ProgramSet) (all : List Part) (memories : ℕ → List ℕ) (first s : MachineState)
    (end : Halting set all memories first (tile_count set.topo) (tile_count set.topo) s) (fits : Fits set s) (ports : PortsAreStopped set first) where
  same_over : (p : ℕ) (l m : Local) → slice_get s.locals p ≡ Some l → slice_get s.locals p ≡ Some m → IsOver set p m → IsOver set p l
  same_over p l m e f o = let same : m ≡ l = cc in subst (IsOver set p) same o

  port_over : (p : ℕ) (l : Local) → 2 * tile_count set.topo ≤ p → slice_get s.locals p ≡ Some l → IsOver set p l
  port_over p (Tile l) h e = absurd (not_tile (slice_get set.topo.places (p - 2 * tile_count set.topo)) (sym (past_tiles set.topo p h) ∙ (fits.locals p (Tile l) e).0))
  port_over p (Switch l) h e = absurd (not_switch (slice_get set.topo.places (p - 2 * tile_count set.topo)) (sym (past_tiles set.topo p h) ∙ (fits.locals p (Switch l) e).0))
  port_over p (Source l) h e = record { stopped = ports.at p (Source l) h (sym (end.ports.at p h) ∙ e); trapped = refl; limit = refl; unhalted = refl }
  port_over p (Sink l) h e = record { stopped = ports.at p (Sink l) h (sym (end.ports.at p h) ∙ e); trapped = refl; limit = refl; unhalted = refl }

  pub all_over : (p : ℕ) (l : Local) → slice_get s.locals p ≡ Some l → IsOver set p l
  all_over p l e = ⊎_elim tile past (cases_lt p (tile_count set.topo))
    where
      tile : p < tile_count set.topo → IsOver set p l
      tile h = let d = end.tiles_done p h h in same_over p l (Tile d.0) e d.1 (tile_over set p d.0 d.2)

      past : tile_count set.topo ≤ p → IsOver set p l
      past k = ⊎_elim switch (λ (h : 2 * tile_count set.topo ≤ p). port_over p l h e) (cases_lt p (2 * tile_count set.topo))
        where
          switch : p < 2 * tile_count set.topo → IsOver set p l
          switch h =
              let t : ℕ = p - tile_count set.topo in
              let x : t < tile_count set.topo = omega arith in
              let at : switch_number set.topo t ≡ p = omega arith in
              let d = end.switches_done t x x in
              same_over p l (Switch d.0) e (subst (λ q. slice_get s.locals q ≡ Some (Switch d.0)) at d.1) (switch_over set p d.0 d.2)

  not_ready : (p : ℕ) (o : Option Local) → slice_get s.locals p ≡ o → is_ready (machine_of set) p o s.wires ≡ false
  unfolding machine_of
  not_ready p None e = refl
  not_ready p (Some l) e = rw (all_over p l e).stopped refl

  pub quiet : IsQuiet set s
  quiet p = not_ready p (slice_get s.locals p) refl

  wait_none : (p : ℕ) (o : Option Local) → slice_get s.locals p ≡ o → wait_of (machine_of set) (inputs_at set.topo) (outputs_at set.topo) s.wires p o ≡ None
  unfolding machine_of
  wait_none p None e = refl
  wait_none p (Some l) e = rw (all_over p l e).stopped refl

  no_waits : (p : ℕ) → waits_for set s p ≡ None
  no_waits p = ap (option_map (other_end set.topo p)) (wait_none p (slice_get s.locals p) refl)

  no_round : (start p : ℕ) (ps : List ℕ) → WaitsRound (waits_for set s) start p ps → ⊥
  no_round start p [] h = let bad : None ≡ Some start = sym (no_waits p) ∙ h in cc bad
  no_round start p (q ∷ qs) h = let bad : None ≡ Some q = sym (no_waits p) ∙ h.0 in cc bad

  none_first : (test : Local → Bool) → ((p : ℕ) (l : Local) → slice_get s.locals p ≡ Some l → test l ≡ false) → (p : ℕ) → p < length s.locals
      → ((d : Local) → test (slice_index_or s.locals p d) ≡ true) → ⊥
  none_first test none p within passes =
      let d : Local = Source (record { done = 0; got = [] }) in
      false≢true (sym (none p (get_or s.locals p d) (slice_get-get_or s.locals p d within)) ∙ passes d)

  pub done : IsOutcome set s (outcome set s) → outcome set s ≡ Done
  done says = by (outcome set s) says
    where
      by : (o : Outcome) → IsOutcome set s o → o ≡ Done
      by Done h = refl
      by (Deadlock p ps) h = absurd (no_round p p ps h.cycle.waits)
      by (Trapped p) h = absurd (none_first is_trapped (λ q l e. (all_over q l e).trapped) p h.1.there h.1.passes)
      by (Limit p) h = absurd (none_first (is_at_limit set) (λ q l e. (all_over q l e).limit) p h.2.there h.2.passes)
      by (Stuck p) h = absurd (none_first is_unhalted (λ q l e. (all_over q l e).unhalted) p h.3.there h.3.passes)

pub comes_to_rest : Laws → (set : ProgramSet) (all : List Part) (memories : ℕ → List ℕ) (s : MachineState) → IsScript set all → PartsStand set all memories s → PortsAreStopped set s
    → Leads set s (λ r. HasHalted set memories s r)
comes_to_rest laws set all memories s script old ports =
    let P : MachineState → Type 0 = Halting set all memories s (tile_count set.topo) (tile_count set.topo) in
    more set s (λ r. P r × Fits set r) (λ r. HasHalted set memories s r)
    (with_fits set laws s P script.valid old.fits (halt_all set all script memories s old))
    (λ r h. record {
      quiet = quiet set all memories s r h.0 h.1 ports;
      done = done set all memories s r h.0 h.1 ports (laws.says set r script.valid);
      tiles = λ t l. let d = h.0.tiles_done t l l in (d.0, d.1, d.3);
      ports = h.0.ports;
      wires = h.0.wires;
    })
