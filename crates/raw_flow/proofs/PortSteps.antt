-- Words come from sources, and go to sinks.
use Rattle.std.proofs.Common.{◌≡◌, ℕ, ◌+◌, ◌*◌, ◌<◌, ◌≤◌, cond, eqb, leb, List, [], ◌∷◌, ◌++◌, length, map, Option, Some, refl, sym, ap, ◌∙◌, subst, ⊎_elim, arith, length-append}
use Rattle.std.specs.Prelude.{slice_get, slice_index}
use Rattle.std.proofs.lemmas.Bool.{cases_eq, eq-eqb, ne_eqb, lt-leb}
use Rattle.raw_grid.specs.Topology.{tile_count, switch_number}
use Rattle.raw_grid.specs.Wires.{wires_of}
use Rattle.raw_model.specs.Program.{ProgramSet}
use Rattle.raw_model.specs.Local.{Local, Source, Sink}
use Rattle.raw_model.specs.Machine.{port_outputs, port_inputs, port_program, words_of, capacity_of}
use Rattle.raw_model.specs.Start.{MachineState, Fits}
use Rattle.raw_codegen.specs.Parts.{Part}
use Rattle.raw_codegen.specs.Steps.{Leads, IsNext, one_value, Changed, HasCome, IsGone}
use Rattle.raw_codegen.specs.Standing.{IsScript, PartsStand}
use Rattle.raw_codegen.proofs.Moves.{more}
use Rattle.raw_flow.specs.Places.{Holding}
use Rattle.raw_flow.proofs.Given.{Laws}
use Rattle.raw_flow.proofs.Chunks.{Rests, Sends, alone_come, idle_gone}

-- where a port has taken a step, tiles and switches stand where they stood
port_stands : (set : ProgramSet) (parts : List Part) (memories : ℕ → List ℕ) (s r : MachineState) (p : ℕ) (l : Local) → PartsStand set parts memories s → 2 * tile_count set.topo ≤ p → Changed s r p l → Fits set r
    → PartsStand set parts memories r
port_stands set parts memories s r p l old behind changed fits = record {
  tiles = λ t h. ((old.tiles t h).0, changed.others t (λ e. omega arith) ∙ (old.tiles t h).1);
  switches = λ t h. ((old.switches t h).0, changed.others (switch_number set.topo t) (λ e. omega arith) ∙ (old.switches t h).1);
  fits = fits;
}

-- the local states of the ports, when that of port q is another
abbrev pub with_port : ℕ → Local → (ℕ → Option Local) → ℕ → Option Local
with_port q l states u = cond (eqb q u) (Some l) (states u)

pub port_here : (q : ℕ) (l : Local) (states : ℕ → Option Local) → with_port q l states q ≡ Some l
port_here q l states = ap (λ b. cond b (Some l) (states q)) (eq-eqb q q refl)

pub port_there : (q : ℕ) (l : Local) (states : ℕ → Option Local) (u : ℕ) → (u ≡ q → ⊥) → with_port q l states u ≡ states u
port_there q l states u ne = ap (λ b. cond b (Some l) (states u)) (ne_eqb q u (λ e. ne (sym e)))

-- so they are after its step; ports are the processors from n on
states_after : (n : ℕ) (states : ℕ → Option Local) (s r : MachineState) (q : ℕ) (l : Local) → ((u : ℕ) → slice_get s.locals (n + u) ≡ states u) → Changed s r (n + q) l
    → (u : ℕ) → slice_get r.locals (n + u) ≡ with_port q l states u
states_after n states s r q l old changed u = ⊎_elim here there (cases_eq u q)
  where
    here : u ≡ q → slice_get r.locals (n + u) ≡ with_port q l states u
    here e = subst (λ v. slice_get r.locals (n + v) ≡ with_port q l states v) (sym e) (changed.here ∙ sym (port_here q l states))

    there : (u ≡ q → ⊥) → slice_get r.locals (n + u) ≡ with_port q l states u
    there ne = changed.others (n + u) (λ e. ne (omega (arith, e))) ∙ old u ∙ sym (port_there q l states u ne)

module _ (laws : Laws) (set : ProgramSet) (all : List Part) (script : IsScript set all) (vals : List ℕ) where
  -- what fits at first fits at the end too
  with_fits : (s : MachineState) (P : MachineState → Type 0) → Fits set s → Leads set s P → Leads set s (λ r. P r × Fits set r)
  with_fits s P fits a = record { steps = a.steps; lawful = a.lawful; holds = (a.holds, laws.end_fits set s a.steps script.valid fits a.lawful) }

  module _ (parts : List Part) (held : List Holding) (states : ℕ → Option Local) (s : MachineState) (q : ℕ) where
    abbrev p : ℕ
    p = 2 * tile_count set.topo + q

    -- source q sends a word
    pub source_chunk : (d w x : ℕ) → states q ≡ Some (Source (record { done = d; got = [] })) → port_outputs set.topo p ≡ w ∷ [] → w < length (wires_of set.topo)
        → (words : List ℕ) → words_of (port_program set p) ≡ words → d < length words → slice_index words d ≡ x
        → Rests set vals parts held states s → Leads set s (Sends set vals parts held (with_port q (Source (record { done = d + 1; got = [] })) states) w x)
    source_chunk d w x state out exists words given few is old =
        let now : Local = Source (record { done = d; got = [] }) in
        let next : Local = Source (record { done = d + 1; got = [] }) in
        let after : ℕ → Option Local = with_port q next states in
        let is_next : IsNext set s p now next [] (w ∷ []) [] (one_value w x) = record {
          here = old.has.ports q ∙ state;
          going = ap (λ xs. leb (length xs) d) given ∙ lt-leb (length words) d few;
          takes_from = refl;
          sends_to = out;
          leaves = refl;
          sent =
              ap (λ ws. map (λ u. record { wire = u; value = slice_index (words_of (port_program set p)) d }) ws) out
              ∙ ap (λ xs. one_value w (slice_index xs d)) given ∙ ap (one_value w) is;
        } in
        let some = script.valid.some_depth in
        let P : MachineState → Type 0 = λ r. Changed s r p next × HasCome w x s.wires r.wires in
        more set s (λ r. P r × Fits set r) (Sends set vals parts held after w x)
        (with_fits s P old.has.stands.fits
        (laws.step_send set s p now next w x is_next (rw (old.idle w) (omega arith)) (subst (λ n. w < n) (sym old.has.stands.fits.wires) exists)))
        (λ r h. record {
          has = record {
            memories = old.has.memories;
            stands = port_stands set parts old.has.memories s r p next old.has.stands (omega arith) h.0.0 h.1;
            know = old.has.know;
            ports = states_after (2 * tile_count set.topo) states s r q next old.has.ports h.0.0;
          };
          alone = alone_come s r w x h.0.1 old.idle;
        })

    -- sink q takes a word
    pub sink_chunk : (w x : ℕ) (got : List ℕ) → states q ≡ Some (Sink (record { done = length got; got = got })) → port_inputs set.topo p ≡ w ∷ []
        → (capacity : ℕ) → capacity_of (port_program set p) ≡ capacity → length got < capacity
        → Sends set vals parts held states w x s
        → Leads set s (Rests set vals parts held (with_port q (Sink (record { done = length (got ++ x ∷ []); got = got ++ x ∷ [] })) states))
    sink_chunk w x got state into capacity given few old =
        let now : Local = Sink (record { done = length got; got = got }) in
        let next : Local = Sink (record { done = length (got ++ x ∷ []); got = got ++ x ∷ [] }) in
        let after : ℕ → Option Local = with_port q next states in
        let longer : length got + 1 ≡ length (got ++ x ∷ []) = sym (length-append got (x ∷ [])) in
        let is_next : IsNext set s p now next (w ∷ []) [] (x ∷ []) [] = record {
          here = old.has.ports q ∙ state;
          going = ap (λ n. leb n (length got)) given ∙ lt-leb capacity (length got) few;
          takes_from = into;
          sends_to = refl;
          leaves = ap (λ n. Sink (record { done = n; got = got ++ x ∷ [] })) longer;
          sent = refl;
        } in
        let P : MachineState → Type 0 = λ r. Changed s r p next × IsGone w x s.wires r.wires in
        more set s (λ r. P r × Fits set r) (Rests set vals parts held after)
        (with_fits s P old.has.stands.fits (laws.step_take set s p now next w x [] is_next old.alone.here))
        (λ r h. record {
          has = record {
            memories = old.has.memories;
            stands = port_stands set parts old.has.memories s r p next old.has.stands (omega arith) h.0.0 h.1;
            know = old.has.know;
            ports = states_after (2 * tile_count set.topo) states s r q next old.has.ports h.0.0;
          };
          idle = idle_gone s r w x h.0.1 old.alone;
        })
