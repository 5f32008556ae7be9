-- What a run does not see: how many words sources have sent, sinks have got and processors have counted, as long as words, room and limit suffice.
use Rattle.std.proofs.Common.{◌≡◌, ℕ, zero, suc, ◌+◌, ◌<◌, ◌≤◌, Bool, true, false, not, ◌&&◌, ◌||◌, List, [], ◌∷◌, ◌++◌, length, map, set, Option, Some, None, refl, sym, ap, ◌∙◌, subst, arith, append_assoc, length-append}
use Rattle.std.specs.Prelude.{slice_get, slice_index, unwrap_or}
use Rattle.std.proofs.lemmas.Bool.{and_parts, leb-false, lt-leb}
use Rattle.raw_network.specs.Network.{Row, fronts, taken, appended, has_values, has_room, is_ready, step_from}
use Rattle.raw_tile_isa.specs.Instruction.{Instruction}
use Rattle.raw_tile_isa.specs.declared.table.TileOp.{TileOp}
use Rattle.raw_tile_isa.specs.declared.table.TileOp.TheVariants.{Lb, Lh, Lw, Lbu, Lhu, Sb, Sh, Sw}
use Rattle.raw_switch_isa.specs.declared.table.SwitchOp.{SwitchOp}
use Rattle.raw_switch_isa.specs.declared.table.SwitchOp.TheVariants as switch
use Rattle.raw_switch_isa.specs.Instruction.{SwitchInstruction}
use Rattle.raw_model.specs.declared.marks.Cause.{Cause}
use Rattle.raw_model.specs.Program.{ProgramSet, PortProgram}
use Rattle.raw_model.specs.Local.{Local, Tile, Switch, Source, Sink, TileLocal, SwitchLocal, PortLocal}
use Rattle.raw_model.specs.TileTable.{TileEffect, effect_of, row_effect, unless_fault}
use Rattle.raw_switch_isa.specs.Ends.{move_source}
use Rattle.raw_model.specs.SwitchTable.{switch_row, control, source_value, routed}
use Rattle.raw_model.specs.SwitchTable.{effect_of as switch_effect_of}
use Rattle.raw_model.specs.Machine.{machine_of, is_ended, first_operand, second_operand, port_program, words_of, capacity_of, port_outputs, is_stopped, takes, sends, row, tile_code, switch_code, tile_effect, given_to, tile_network_row, switch_network_row}
use Rattle.raw_model.specs.TileTable.{next_instruction}
use Rattle.raw_model.specs.SwitchTable.{next_instruction as next_switch_instruction}
use Rattle.raw_model.specs.Start.{MachineState}
use Rattle.raw_model.specs.Rest.{enabled, IsLawfulFrom, end_from, IsQuiet}
use Rattle.raw_model.specs.Rest.{step as machine_step}
use Rattle.raw_rows.specs.Kernels.{AtBoth, AtEach}

-- a row of a tile does the same whatever it has counted
abbrev Recounts : ℕ → TileEffect → TileEffect → Type 0
Recounts c few many = many ≡ record few { next = record few.next { count = c } }

fault_recounts : (o : Option Cause) (l : TileLocal) (c : ℕ) (e f : TileEffect) → Recounts (c + 1) e f → e.next.count ≡ l.count + 1
    → Recounts (c + 1) (unless_fault o l e) (unless_fault o (record l { count = c }) f) × ((unless_fault o l e).next.count ≡ l.count + 1)
fault_recounts None l c e f h g = (h, g)
fault_recounts (Some cause) l c e f h g = (refl, refl)

row_recounts : (op : TileOp) (size : ℕ) (l : TileLocal) (c : ℕ) (ins : Instruction) (a b : ℕ)
    → Recounts (c + 1) (row_effect op size l ins a b) (row_effect op size (record l { count = c }) ins a b) × ((row_effect op size l ins a b).next.count ≡ l.count + 1)
row_recounts Lb size l c ins a b = fault_recounts _ l c _ _ refl refl
row_recounts Lh size l c ins a b = fault_recounts _ l c _ _ refl refl
row_recounts Lw size l c ins a b = fault_recounts _ l c _ _ refl refl
row_recounts Lbu size l c ins a b = fault_recounts _ l c _ _ refl refl
row_recounts Lhu size l c ins a b = fault_recounts _ l c _ _ refl refl
row_recounts Sb size l c ins a b = fault_recounts _ l c _ _ refl refl
row_recounts Sh size l c ins a b = fault_recounts _ l c _ _ refl refl
row_recounts Sw size l c ins a b = fault_recounts _ l c _ _ refl refl
row_recounts _ size l c ins a b = (refl, refl)

effect_recounts : (o : Option Instruction) (size : ℕ) (l : TileLocal) (c a b : ℕ)
    → Recounts (c + 1) (effect_of o size l a b) (effect_of o size (record l { count = c }) a b) × ((effect_of o size l a b).next.count ≡ l.count + 1)
effect_recounts None size l c a b = (refl, refl)
effect_recounts (Some ins) size l c a b = row_recounts ins.op size l c ins a b

-- and so for a switch
control_recounts : (op : SwitchOp) (size : ℕ) (l : SwitchLocal) (c : ℕ) (ins : SwitchInstruction) (value : ℕ)
    → (control op size (record l { count = c }) ins value ≡ record (control op size l ins value) { count = c + 1 }) × ((control op size l ins value).count ≡ l.count + 1)
control_recounts switch.Nop size l c ins value = (refl, refl)
control_recounts _ size l c ins value = (refl, refl)

pub at_set : (R : ℕ → Local → Local → Type 0) (ls ms : List Local) → AtEach R ls ms → (p : ℕ) (l m : Local) → R p l m → AtEach R (set ls p l) (set ms p m)
at_set R [] [] h p l m g q = tt
at_set R [] (m' ∷ ms) h p l m g q = absurd (h 0)
at_set R (l' ∷ ls) [] h p l m g q = absurd (h 0)
at_set R (l' ∷ ls) (m' ∷ ms) h zero l m g zero = g
at_set R (l' ∷ ls) (m' ∷ ms) h zero l m g (suc q) = h (suc q)
at_set R (l' ∷ ls) (m' ∷ ms) h (suc p) l m g zero = h 0
at_set R (l' ∷ ls) (m' ∷ ms) h (suc p) l m g (suc q) = at_set (λ r. R (suc r)) ls ms (λ r. h (suc r)) p l m g q

not_true : (b : Bool) → not b ≡ true → b ≡ false
not_true true e = cc e
not_true false e = refl

or_parts : (a b : Bool) → (a || b) ≡ false → (a ≡ false) × (b ≡ false)
or_parts true b e = cc e
or_parts false b e = (refl, e)

or_back : (a b : Bool) → a ≡ false → b ≡ false → (a || b) ≡ false
or_back true b e f = cc e
or_back false b e f = f

index_front : (xs back : List ℕ) (i : ℕ) → i < length xs → slice_index (xs ++ back) i ≡ slice_index xs i
index_front [] back i h = absurd (omega arith)
index_front (x ∷ xs) back zero h = refl
index_front (x ∷ xs) back (suc i) h = index_front xs back i (omega arith)

index_behind : (front xs back : List ℕ) (n i : ℕ) → n ≡ length front + i → i < length xs → slice_index (front ++ (xs ++ back)) n ≡ slice_index xs i
index_behind [] xs back n i e h = subst (λ j. slice_index (xs ++ back) j ≡ slice_index xs i) (omega (arith, e)) (index_front xs back i h)
index_behind (y ∷ front) xs back zero i e h = absurd (omega (arith, e))
index_behind (y ∷ front) xs back (suc n) i e h = index_behind front xs back n i (omega (arith, e)) h

switch_recounts : (o : Option SwitchInstruction) (size : ℕ) (l : SwitchLocal) (c : ℕ) (given : List (Option ℕ))
    → (switch_effect_of o size (record l { count = c }) given ≡ record (switch_effect_of o size l given) { next = record (switch_effect_of o size l given).next { count = c + 1 } })
    × ((switch_effect_of o size l given).next.count ≡ l.count + 1)
switch_recounts None size l c given = (refl, refl)
switch_recounts (Some ins) size l c given =
    let value : ℕ = unwrap_or (source_value l.regs given (move_source ins)) 0 in
    let one = control_recounts ins.op size l c ins value in
    (ap (λ (k : SwitchLocal). record { next = k; sent = routed ins l.regs given }) one.0, one.1)

module _ (set_ : ProgramSet) (small : ℕ) (few : List PortProgram) (used : ℕ) (sent had : ℕ → List ℕ) where
  abbrev own : ProgramSet
  own = record set_ { limit = small; ports = few }

  -- Local states of a part of a run and of the whole. Before the part the sources have sent `sent`, the sinks have got `had`, and no processor has
  -- counted more than `used`.
  abbrev pub Framed : ℕ → Local → Local → Type 0
  Framed p (Tile l) (Tile m) = (m ≡ record l { count = m.count }) × (m.count ≤ used + l.count) × (l.count ≤ small)
  Framed p (Switch l) (Switch m) = (m ≡ record l { count = m.count }) × (m.count ≤ used + l.count) × (l.count ≤ small)
  Framed p (Source l) (Source m) = (m.done ≡ length (sent p) + l.done) × (m.got ≡ l.got) × (l.done ≤ length (words_of (port_program own p)))
  Framed p (Sink l) (Sink m) = (m.done ≡ length (had p) + l.done) × (m.got ≡ had p ++ l.got) × (l.done ≤ capacity_of (port_program own p))
  Framed p _ _ = ⊥

  pub each_framed : (P : ℕ → Local → Local → Type 0) (p : ℕ)
      → ((l m : TileLocal) → Framed p (Tile l) (Tile m) → P p (Tile l) (Tile m))
      → ((l m : SwitchLocal) → Framed p (Switch l) (Switch m) → P p (Switch l) (Switch m))
      → ((l m : PortLocal) → Framed p (Source l) (Source m) → P p (Source l) (Source m))
      → ((l m : PortLocal) → Framed p (Sink l) (Sink m) → P p (Sink l) (Sink m))
      → (l m : Local) → Framed p l m → P p l m
  each_framed P p tiles switches sources sinks (Tile l) (Tile m) h = tiles l m h
  each_framed P p tiles switches sources sinks (Tile l) (Switch m) h = absurd h
  each_framed P p tiles switches sources sinks (Tile l) (Source m) h = absurd h
  each_framed P p tiles switches sources sinks (Tile l) (Sink m) h = absurd h
  each_framed P p tiles switches sources sinks (Switch l) (Tile m) h = absurd h
  each_framed P p tiles switches sources sinks (Switch l) (Switch m) h = switches l m h
  each_framed P p tiles switches sources sinks (Switch l) (Source m) h = absurd h
  each_framed P p tiles switches sources sinks (Switch l) (Sink m) h = absurd h
  each_framed P p tiles switches sources sinks (Source l) (Tile m) h = absurd h
  each_framed P p tiles switches sources sinks (Source l) (Switch m) h = absurd h
  each_framed P p tiles switches sources sinks (Source l) (Source m) h = sources l m h
  each_framed P p tiles switches sources sinks (Source l) (Sink m) h = absurd h
  each_framed P p tiles switches sources sinks (Sink l) (Tile m) h = absurd h
  each_framed P p tiles switches sources sinks (Sink l) (Switch m) h = absurd h
  each_framed P p tiles switches sources sinks (Sink l) (Source m) h = absurd h
  each_framed P p tiles switches sources sinks (Sink l) (Sink m) h = sinks l m h

  pub record FramedState (t x : MachineState) : Type 0 where
    pub each : AtEach Framed t.locals x.locals
    pub wires : x.wires ≡ t.wires

-- Two sets that are equal but for limits and ports: `few` has what a part of a run needs, `many` what the whole needs. Before the part the
-- sources have sent `sent`, the sinks have got `had`, and no processor has counted more than `used`; behind it the sources have `later`.
pub record Frame (set_ : ProgramSet) (small large : ℕ) (few many : List PortProgram) (used : ℕ) (sent had later : ℕ → List ℕ) : Type 0 where
  pub limit : used + small ≤ large
  pub words : (p : ℕ) → words_of (port_program (record set_ { limit = large; ports = many }) p) ≡ sent p ++ (words_of (port_program (record set_ { limit = small; ports = few }) p) ++ later p)
  pub room : (p : ℕ) → length (had p) + capacity_of (port_program (record set_ { limit = small; ports = few }) p) ≤ capacity_of (port_program (record set_ { limit = large; ports = many }) p)

module _ (set_ : ProgramSet) (small large : ℕ) (few many : List PortProgram) (used : ℕ) (sent had later : ℕ → List ℕ) (frame : Frame set_ small large few many used sent had later) where
  abbrev part : ProgramSet
  part = record set_ { limit = small; ports = few }

  abbrev whole : ProgramSet
  whole = record set_ { limit = large; ports = many }

  abbrev F : ℕ → Local → Local → Type 0
  F = Framed set_ small few used sent had

  abbrev FS : MachineState → MachineState → Type 0
  FS = FramedState set_ small few used sent had

  -- they take from and send to the same wires
  takes_framed : (p : ℕ) (l m : Local) → F p l m → takes whole p m ≡ takes part p l
  takes_framed p =
      each_framed set_ small few used sent had (λ p l m. takes whole p m ≡ takes part p l) p
      (λ l m h. ap (λ k. takes whole p (Tile k)) h.0)
      (λ l m h. ap (λ k. takes whole p (Switch k)) h.0)
      (λ l m h. refl)
      (λ l m h. refl)

  sends_framed : (p : ℕ) (l m : Local) → F p l m → sends whole p m ≡ sends part p l
  sends_framed p =
      each_framed set_ small few used sent had (λ p l m. sends whole p m ≡ sends part p l) p
      (λ l m h. ap (λ k. sends whole p (Tile k)) h.0)
      (λ l m h. ap (λ k. sends whole p (Switch k)) h.0)
      (λ l m h. refl)
      (λ l m h. refl)

  -- what goes on in the part goes on in the whole
  goes_framed : (p : ℕ) (l m : Local) → F p l m → is_stopped part p l ≡ false → is_stopped whole p m ≡ false
  goes_framed p =
      each_framed set_ small few used sent had (λ p l m. is_stopped part p l ≡ false → is_stopped whole p m ≡ false) p
      (λ l m h e.
      let both = or_parts _ _ e in
      let below : l.count < small = leb-false small l.count both.1 in
      or_back _ _ (ap (λ k. is_ended k.mark) h.0 ∙ both.0) (lt-leb large m.count (omega (arith, h.1, frame.limit, below))))
      (λ l m h e.
      let both = or_parts _ _ e in
      let below : l.count < small = leb-false small l.count both.1 in
      or_back _ _ (ap (λ k. is_ended k.mark) h.0 ∙ both.0) (lt-leb large m.count (omega (arith, h.1, frame.limit, below))))
      (λ l m h e.
      let below : l.done < length (words_of (port_program part p)) = leb-false (length (words_of (port_program part p))) l.done e in
      let long = length-append (sent p) (words_of (port_program part p) ++ later p) in
      let more = length-append (words_of (port_program part p)) (later p) in
      lt-leb (length (words_of (port_program whole p))) m.done (omega (arith, h.0, below, ap length (frame.words p), long, more)))
      (λ l m h e.
      let below : l.done < capacity_of (port_program part p) = leb-false (capacity_of (port_program part p)) l.done e in
      lt-leb (capacity_of (port_program whole p)) m.done (omega (arith, h.0, below, frame.room p)))

  -- and its row does the same
  record RowFramed (p : ℕ) (r q : Row Local) : Type 0 where
    pub next : F p r.next q.next
    pub gives : q.sent ≡ r.sent

  row_framed : (p : ℕ) (l m : Local) (values : List ℕ) → F p l m → is_stopped part p l ≡ false → RowFramed p (row part p l values) (row whole p m values)
  row_framed p l m values =
      each_framed set_ small few used sent had (λ p l m. is_stopped part p l ≡ false → RowFramed p (row part p l values) (row whole p m values)) p
      (λ l m h e.
      let below : l.count < small = leb-false small l.count (or_parts _ _ e).1 in
      let code : List Instruction = tile_code part p in
      let x : ℕ = first_operand (next_instruction code l) l.regs values in
      let y : ℕ = second_operand (next_instruction code l) l.regs values in
      let one = effect_recounts (next_instruction code l) (length code) l m.count x y in
      let same : tile_effect code m values ≡ record (tile_effect code l values) { next = record (tile_effect code l values).next { count = m.count + 1 } } = ap (λ k. tile_effect code k values) h.0 ∙ one.0 in
      subst (λ f. RowFramed p (tile_network_row set_.topo p (tile_effect code l values)) (tile_network_row set_.topo p f)) (sym same)
      (record { next = (refl, omega (arith, h.1, one.1), omega (arith, one.1, below)); gives = refl }))
      (λ l m h e.
      let below : l.count < small = leb-false small l.count (or_parts _ _ e).1 in
      let code : List SwitchInstruction = switch_code part p in
      let given : List (Option ℕ) = given_to set_.topo p (next_switch_instruction code l) values in
      let one = switch_recounts (next_switch_instruction code l) (length code) l m.count given in
      let same : switch_row code m (given_to set_.topo p (next_switch_instruction code m) values) ≡ record (switch_row code l given) { next = record (switch_row code l given).next { count = m.count + 1 } } =
      ap (λ k. switch_row code k (given_to set_.topo p (next_switch_instruction code k) values)) h.0 ∙ one.0 in
      subst (λ f. RowFramed p (switch_network_row set_.topo p (switch_row code l given)) (switch_network_row set_.topo p f)) (sym same)
      (record { next = (refl, omega (arith, h.1, one.1), omega (arith, one.1, below)); gives = refl }))
      (λ l m h e.
      let below : l.done < length (words_of (port_program part p)) = leb-false (length (words_of (port_program part p))) l.done e in
      let value : slice_index (words_of (port_program whole p)) m.done ≡ slice_index (words_of (port_program part p)) l.done =
      ap (λ xs. slice_index xs m.done) (frame.words p) ∙ index_behind (sent p) (words_of (port_program part p)) (later p) m.done l.done h.0 below in
      record {
        next = (omega (arith, h.0), h.1, omega (arith, below));
        gives = ap (λ v. map (λ (w : ℕ). record { wire = w; value = v }) (port_outputs set_.topo p)) value;
      })
      (λ l m h e.
      let below : l.done < capacity_of (port_program part p) = leb-false (capacity_of (port_program part p)) l.done e in
      record {
        next = (omega (arith, h.0), ap (λ xs. xs ++ slice_index values 0 ∷ []) h.1 ∙ append_assoc (had p) l.got (slice_index values 0 ∷ []), omega (arith, below));
        gives = refl;
      }) l m

  record StepFramed (t x : MachineState) (p : ℕ) : Type 0 where
    pub ready : enabled whole x p ≡ true
    pub after : FS (machine_step part t p) (machine_step whole x p)

  step_framed : (t x : MachineState) (p : ℕ) → FS t x → enabled part t p ≡ true → StepFramed t x p
  unfolding machine_of
  step_framed t x p h on = by (slice_get t.locals p) (slice_get x.locals p) refl refl (h.each p) on where
    by : (o q : Option Local) → slice_get t.locals p ≡ o → slice_get x.locals p ≡ q → AtBoth F p o q → is_ready (machine_of part) p o t.wires ≡ true → StepFramed t x p
    by None q e f g ready = absurd (cc ready)
    by (Some l) None e f g ready = absurd g
    by (Some l) (Some m) e f g ready =
        let all = and_parts _ _ ready in
        let going : is_stopped part p l ≡ false = not_true (is_stopped part p l) all.0 in
        let from : takes whole p m ≡ takes part p l = takes_framed p l m g in
        let fronts_same : fronts (takes whole p m) x.wires ≡ fronts (takes part p l) t.wires = ap (λ ws. fronts ws x.wires) from ∙ ap (λ ws. fronts (takes part p l) ws) h.wires in
        let done : RowFramed p (row part p l (fronts (takes part p l) t.wires)) (row whole p m (fronts (takes part p l) t.wires)) = row_framed p l m (fronts (takes part p l) t.wires) g going in
        let done' : RowFramed p (row part p l (fronts (takes part p l) t.wires)) (row whole p m (fronts (takes whole p m) x.wires)) =
        subst (λ vs. RowFramed p (row part p l (fronts (takes part p l) t.wires)) (row whole p m vs)) (sym fronts_same) done in
        let ready' : is_ready (machine_of whole) p (Some m) x.wires ≡ true =
        ap (λ b. not b && (has_values (takes whole p m) x.wires && has_room set_.depth (sends whole p m) x.wires)) (goes_framed p l m g going)
        ∙ ap (λ us. has_values us x.wires && has_room set_.depth (sends whole p m) x.wires) from
        ∙ ap (λ us. has_values (takes part p l) x.wires && has_room set_.depth us x.wires) (sends_framed p l m g)
        ∙ ap (λ ws. has_values (takes part p l) ws && has_room set_.depth (sends part p l) ws) h.wires
        ∙ all.1 in
        let after' : FS (step_from (machine_of part) t p (Some l)) (step_from (machine_of whole) x p (Some m)) = record {
          each = at_set F t.locals x.locals h.each p _ _ done'.next;
          wires = ap (λ us. appended us (taken (takes whole p m) x.wires)) done'.gives
              ∙ ap (λ us. appended (row part p l (fronts (takes part p l) t.wires)).sent (taken us x.wires)) from
              ∙ ap (λ ws. appended (row part p l (fronts (takes part p l) t.wires)).sent (taken (takes part p l) ws)) h.wires;
        } in
        record {
          ready = subst (λ o. is_ready (machine_of whole) p o x.wires ≡ true) (sym f) ready';
          after = subst (λ o. FS (step_from (machine_of part) t p o) (machine_step whole x p)) (sym e)
              (subst (λ o. FS (step_from (machine_of part) t p (Some l)) (step_from (machine_of whole) x p o)) (sym f) after');
        }

  pub record RunFramed (t x : MachineState) (steps : List ℕ) : Type 0 where
    pub lawful : IsLawfulFrom whole x steps
    pub ends : FS (end_from part t steps) (end_from whole x steps)

  -- a list of steps that is lawful in the part is lawful in the whole, and does the same
  pub run_framed : (steps : List ℕ) (t x : MachineState) → FS t x → IsLawfulFrom part t steps → RunFramed t x steps
  run_framed [] t x h lawful = record { lawful = tt; ends = h }
  run_framed (p ∷ ps) t x h lawful =
      let one = step_framed t x p h lawful.0 in
      let rest = run_framed ps (machine_step part t p) (machine_step whole x p) one.after lawful.1 in
      record { lawful = (one.ready, rest.lawful); ends = rest.ends }

  -- where no processor of the part is enabled with a step more and a place more, none is in the whole, whose sources have no word more
  module _ (wide : List PortProgram) (same_words : (p : ℕ) → words_of (port_program (record set_ { limit = small + 1; ports = wide }) p) ≡ words_of (port_program part p))
      (more_room : (p n : ℕ) → n < capacity_of (port_program whole p) → capacity_of (port_program part p) < capacity_of (port_program (record set_ { limit = small + 1; ports = wide }) p)) (none_later : (p : ℕ) → later p ≡ []) where
    abbrev roomy : ProgramSet
    roomy = record set_ { limit = small + 1; ports = wide }

    back_framed : (p : ℕ) (l m : Local) → F p l m → is_stopped whole p m ≡ false → is_stopped roomy p l ≡ false
    back_framed p =
        each_framed set_ small few used sent had (λ p l m. is_stopped whole p m ≡ false → is_stopped roomy p l ≡ false) p
        (λ l m h e. or_back _ _ (sym (ap (λ k. is_ended k.mark) h.0) ∙ (or_parts _ _ e).0) (lt-leb (small + 1) l.count (omega (arith, h.2))))
        (λ l m h e. or_back _ _ (sym (ap (λ k. is_ended k.mark) h.0) ∙ (or_parts _ _ e).0) (lt-leb (small + 1) l.count (omega (arith, h.2))))
        (λ l m h e.
        let below : m.done < length (words_of (port_program whole p)) = leb-false (length (words_of (port_program whole p))) m.done e in
        let long = length-append (sent p) (words_of (port_program part p) ++ later p) in
        let more = length-append (words_of (port_program part p)) (later p) in
        let none : length (later p) ≡ 0 = ap length (none_later p) in
        lt-leb (length (words_of (port_program roomy p))) l.done (omega (arith, h.0, below, none, ap length (frame.words p), long, more, ap length (same_words p))))
        (λ l m h e. lt-leb (capacity_of (port_program roomy p)) l.done (omega (arith, h.2, more_room p m.done (leb-false (capacity_of (port_program whole p)) m.done e))))

    pub quiet_framed : (t x : MachineState) → FS t x → IsQuiet roomy t → IsQuiet whole x
    unfolding machine_of
    quiet_framed t x h quiet p = by (slice_get t.locals p) (slice_get x.locals p) (h.each p) (quiet p) where
      by : (o q : Option Local) → AtBoth F p o q → is_ready (machine_of roomy) p o t.wires ≡ false → is_ready (machine_of whole) p q x.wires ≡ false
      by o None g e = refl
      by None (Some m) g e = absurd g
      by (Some l) (Some m) g e = by_stop (is_stopped whole p m) refl where
        by_stop : (b : Bool) → is_stopped whole p m ≡ b → is_ready (machine_of whole) p (Some m) x.wires ≡ false
        by_stop true f = ap (λ b. not b && (has_values (takes whole p m) x.wires && has_room set_.depth (sends whole p m) x.wires)) f
        by_stop false f =
            ap (λ b. not b && (has_values (takes whole p m) x.wires && has_room set_.depth (sends whole p m) x.wires)) f
            ∙ ap (λ us. has_values us x.wires && has_room set_.depth (sends whole p m) x.wires) (takes_framed p l m g)
            ∙ ap (λ us. has_values (takes part p l) x.wires && has_room set_.depth us x.wires) (sends_framed p l m g)
            ∙ ap (λ ws. has_values (takes part p l) ws && has_room set_.depth (sends part p l) ws) h.wires
            ∙ sym (ap (λ b. not b && (has_values (takes roomy p l) t.wires && has_room set_.depth (sends roomy p l) t.wires)) (back_framed p l m g f))
            ∙ e
