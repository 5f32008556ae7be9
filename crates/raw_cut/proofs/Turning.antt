-- Turns of processors of a set in which numbers of terms stand as the words of sources.
use Rattle.std.proofs.Common.{◌≡◌, ℕ, ◌+◌, Bool, true, false, List, [], ◌∷◌, ◌++◌, length, Option, Some, None, refl, sym, ap, ◌∙◌, subst, arith}
use Rattle.std.specs.Prelude.{slice_index, IsSomeAnd}
use Rattle.std.proofs.lemmas.List.{length_push}
use Rattle.raw_network.specs.Network.{fronts, taken, appended}
use Rattle.raw_model.specs.Program.{ProgramSet}
use Rattle.raw_model.specs.Machine.{machine_of, is_stopped, takes}
use Rattle.raw_model.specs.Local.{Local, Tile, Switch, Source, Sink, TileLocal, SwitchLocal, PortLocal}
use Rattle.raw_serial.specs.declared.turn.Turn.{Turn as SerialTurn}
use Rattle.raw_serial.specs.declared.turn.Turn.TheVariants as serial
use Rattle.raw_serial.specs.Turns.{IsTurn as IsSerialTurn}
use Rattle.raw_serial.specs.Needs.{unmet_of}
use Rattle.raw_serial.proofs.Stepping.{fired_needs, turn_unmet}
use Rattle.raw_flow.specs.declared.node.Node.{Node}
use Rattle.raw_term.specs.Terms.{Overflows}
use Rattle.raw_term.specs.TermMachine.{TermRow, numbered}
use Rattle.raw_prove.specs.declared.turn.Turn.{Turn}
use Rattle.raw_prove.specs.declared.turn.Turn.TheVariants.{Idle, Fired, Hangs, TooMany}
use Rattle.raw_prove.specs.Turns.{ready, next_row, IsAfter, IsIdle, IsFired, IsTurn}
use Rattle.raw_prove.proofs.Ready.{ready_met, ready_stopped, ready_unmet}

-- a turn does not look at the words of sources, where the processor is none
module _ (g h : ProgramSet) (p : ℕ) (l : Local) (wires : List (List ℕ)) (before : List Node) (both_ready : ready g p l wires ≡ ready h p l wires)
    (both_rows : next_row g before p l wires ≡ next_row h before p l wires) (both_take : takes g p l ≡ takes h p l) where
  module _ (nodes : List Node) (next : Local) (later : List (List ℕ)) where
    same_after : (o : Option TermRow) → IsSomeAnd o (IsAfter g p l wires nodes next later) → IsSomeAnd o (IsAfter h p l wires nodes next later)
    same_after None is = is
    same_after (Some r) is = record {
      nodes_are = is.nodes_are;
      next_is = is.next_is;
      wires_are = ap (λ ws. appended r.row.sent (taken ws wires)) (sym both_take) ∙ is.wires_are;
    }

    pub same_turn : (turn : Turn) → IsTurn g p before l wires turn nodes next later → IsTurn h p before l wires turn nodes next later
    same_turn Idle is = record { waits = sym both_ready ∙ is.waits; nodes_stay = is.nodes_stay; local_stays = is.local_stays; wires_stay = is.wires_stay }
    same_turn Fired is = record {
      may = sym both_ready ∙ is.may;
      does = subst (λ (o : Option TermRow). IsSomeAnd o (IsAfter h p l wires nodes next later)) both_rows (same_after (next_row g before p l wires) is.does);
    }
    same_turn Hangs is = record { may = sym both_ready ∙ is.may; wants = sym both_rows ∙ is.wants }
    same_turn TooMany is = record {
      may = sym both_ready ∙ is.may;
      over = subst (λ (o : Option TermRow). IsSomeAnd o (λ r. Overflows r.nodes)) both_rows is.over;
    }

module _ (set_ : ProgramSet) (p : ℕ) (wires : List (List ℕ)) (before nodes : List Node) (later : List (List ℕ)) (turn : Turn) where
  pub tile_turn : (l next : TileLocal) → IsTurn (numbered set_) p before (Tile l) wires turn nodes (Tile next) later → IsTurn set_ p before (Tile l) wires turn nodes (Tile next) later
  unfolding machine_of
  tile_turn l next is = same_turn (numbered set_) set_ p (Tile l) wires before refl refl refl nodes (Tile next) later turn is

  pub switch_turn : (l next : SwitchLocal) → IsTurn (numbered set_) p before (Switch l) wires turn nodes (Switch next) later → IsTurn set_ p before (Switch l) wires turn nodes (Switch next) later
  unfolding machine_of
  switch_turn l next is = same_turn (numbered set_) set_ p (Switch l) wires before refl refl refl nodes (Switch next) later turn is

-- a port, by its turn in the serial machine
module _ (set_ : ProgramSet) (p : ℕ) (wires later : List (List ℕ)) (before : List Node) where
  pub source_fired : (l next : PortLocal) → IsSerialTurn set_ p false serial.Fired (Source l) (Source next) wires later
      → IsFired set_ p before (Source l) wires before (Source next) later
  unfolding machine_of
  source_fired l next turn =
      let parts = fired_needs set_ p (Source l) wires turn.answer in
      record {
        may = ready_met set_ p (Source l) wires parts.0 parts.1;
        does = record { nodes_are = refl; next_is = sym turn.local; wires_are = sym turn.wires };
      }

  pub sink_fired : (l next : PortLocal) → IsSerialTurn set_ p false serial.Fired (Sink l) (Sink next) wires later
      → IsFired set_ p before (Sink l) wires before (Sink next) later
  unfolding machine_of
  sink_fired l next turn =
      let parts = fired_needs set_ p (Sink l) wires turn.answer in
      record {
        may = ready_met set_ p (Sink l) wires parts.0 parts.1;
        does = record { nodes_are = refl; next_is = sym turn.local; wires_are = sym turn.wires };
      }

  module _ (l : Local) where
    still : (turn : SerialTurn) (next : Local) → (turn ≡ serial.Fired → ⊥) → IsSerialTurn set_ p false turn l next wires later → (next ≡ l) × (later ≡ wires)
    still serial.Fired next other turn = absurd (other refl)
    still turn next other is = (is.local, is.wires)

    pub port_idle : (turn : SerialTurn) (next : Local) → (turn ≡ serial.Fired → ⊥) → IsSerialTurn set_ p false turn l next wires later
        → IsIdle set_ p before l wires before next later
    unfolding machine_of
    port_idle turn next other is =
        let same = still turn next other is in
        record {
          waits = by (is_stopped set_ p l) (unmet_of set_ p l wires) refl refl;
          nodes_stay = refl;
          local_stays = same.0;
          wires_stay = same.1;
        }
      where
        by : (b : Bool) (o : Option ℕ) → is_stopped set_ p l ≡ b → unmet_of set_ p l wires ≡ o → ready set_ p l wires ≡ false
        by true o e f = ready_stopped set_ p l wires e
        by false (Some w) e f = ready_unmet set_ p l wires w f
        by false None e f = absurd (other (is.answer ∙ sym (turn_unmet set_ p l wires false None e refl f)))

  -- what a sink keeps
  same_sink : (k l : PortLocal) → Sink k ≡ Sink l → k ≡ l
  same_sink k l e = cc e

  pub sink_kept : (l next : PortLocal) → IsSerialTurn set_ p false serial.Fired (Sink l) (Sink next) wires later → length l.got ≡ l.done → length next.got ≡ next.done
  unfolding machine_of
  sink_kept l next turn e =
      let v : ℕ = slice_index (fronts (takes set_ p (Sink l)) wires) 0 in
      let same : next ≡ record { done = l.done + 1; got = l.got ++ v ∷ [] } = same_sink next (record { done = l.done + 1; got = l.got ++ v ∷ [] }) turn.local in
      subst (λ (k : PortLocal). length k.got ≡ k.done) (sym same) (omega (arith, e, length_push l.got v))

  pub sink_same : (l next : PortLocal) (turn : SerialTurn) → (turn ≡ serial.Fired → ⊥) → IsSerialTurn set_ p false turn (Sink l) (Sink next) wires later → next ≡ l
  sink_same l next turn other is = same_sink next l (still (Sink l) turn (Sink next) other is).0
