-- A turn of a processor as a turn of the machine.
use Rattle.std.proofs.Common.{◌≡◌, ℕ, ◌+◌, ◌-◌, ◌<◌, ◌≤◌, Bool, false, List, [], ◌∷◌, ◌++◌, map, set, get_or, Option, Some, None, refl, sym, ap, ◌∙◌, subst, ⊎_elim, arith, length-set}
use Rattle.std.specs.Prelude.{slice_get, slice_index, nat_lt}
use Rattle.std.specs.Option.{option_to_list}
use Rattle.std.proofs.Math.Logic.{∥∥₁_map}
use Rattle.std.proofs.lemmas.Bool.{cases_eq}
use Rattle.std.proofs.lemmas.List.{map-set}
use Rattle.std.proofs.lemmas.Option.{same_Some, slice_get_read}
use Rattle.raw_network.specs.Network.{event_from}
use Rattle.raw_network.proofs.Wires.{slice_get-set_other, slice_get-set_same}
use Rattle.raw_grid.specs.declared.parts.ProcKind.{ProcKind}
use Rattle.raw_grid.specs.declared.parts.ProcKind.TheVariants as proc
use Rattle.raw_grid.specs.Topology.{tile_count, proc_count, kind_at}
use Rattle.raw_model.specs.Program.{ProgramSet}
use Rattle.raw_model.specs.Local.{Tile, TileLocal}
use Rattle.raw_model.specs.TileTable.{next_instruction}
use Rattle.raw_model.specs.Machine.{machine_of, tile_code}
use Rattle.raw_model.specs.Start.{MachineState, Fits, IsFit}
use Rattle.raw_model.specs.Cache.{HeldLines, StandsFor, misses, stream_of}
use Rattle.raw_model.proofs.Finite.{tile_counts}
use Rattle.raw_processor.specs.declared.end_wires.EndWires.{EndWires}
use Rattle.raw_processor.specs.declared.processor.Processor.{Processor}
use Rattle.raw_processor.specs.declared.processor.Processor.TheVariants as a
use Rattle.raw_processor.specs.declared.processor.TileUnit.{TileUnit}
use Rattle.raw_processor.specs.Ends.{AreEndsOf}
use Rattle.raw_processor.specs.Processor.{local_of, cache_of, misses_of, owed_of, IsKept, HasFewMisses}
use Rattle.raw_serial.specs.declared.turn.Turn.{Turn}
use Rattle.raw_serial.specs.declared.turn.Turn.TheVariants.{Fired, Stalled}
use Rattle.raw_serial.specs.Turns.{IsTurn, turn_at, turn_by}
use Rattle.raw_serial.specs.Costs.{IsTileTurn, IsProcessorTurn, touches_next}
use Rattle.raw_processor.specs.Touching.{owed_after}
use Rattle.raw_serial.specs.Running.{Running, IsRunBy, IsReached, IsStep, IsTurnOf, Follows, turn_of, stalled_once}
use Rattle.raw_serial.specs.Parts.{running_of, AreParts}
use Rattle.raw_serial.proofs.Fields.{set_same, field_at, other_field, other_read, at_field}
use Rattle.raw_serial.proofs.Placed.{placed}
use Rattle.raw_serial.proofs.Owing.{owing_less, one_less}
use Rattle.raw_serial.proofs.Runs.{next_touch, AreCounted, pushed}
use Rattle.raw_serial.proofs.Tiling.{same_tile}
use Rattle.raw_serial.proofs.Turning.{turn_is, enabled_is, state_is, fits_after, state_after}

-- a processor that owes nothing never stalls
pub never_stalls : (stopped : Bool) (wait : Option ℕ) → Stalled ≡ turn_by stopped false wait → ⊥
never_stalls false None e = cc e
never_stalls stopped wait e = cc e

-- a processor of another kind than a tile stands behind the tiles
behind : (g : ProgramSet) (p : ℕ) (q : ProcKind) → kind_at g.topo p ≡ Some q → (q ≡ proc.Tile → ⊥) → tile_count g.topo ≤ p
behind g p proc.Tile is other = absurd (other refl)
behind g p proc.Switch is other = (placed g.topo p proc.Switch is).0
behind g p proc.Source is other = let back = (placed g.topo p proc.Source is).behind in omega arith
behind g p proc.Sink is other = let back = (placed g.topo p proc.Sink is).behind in omega arith

-- what a turn without a step leaves, beside the local state and the wires, where so many stall turns are owed then
record IsSameBeside (owed : ℕ) (old new : Processor) : Type 0 where
  cache : cache_of new ≡ cache_of old
  missed : misses_of new ≡ misses_of old
  owes : owed_of new ≡ owed

-- what a step costs, if the processor is a tile
record IsSteppedBeside (g : ProgramSet) (p : ℕ) (old new : Processor) (touched : List ℕ) : Type 0 where
  stands : p < tile_count g.topo → (earlier : List ℕ) → StandsFor (cache_of old) earlier → StandsFor (cache_of new) (earlier ++ touched)
  missed : p < tile_count g.topo → (earlier : List ℕ) → StandsFor (cache_of old) earlier
      → misses (earlier ++ touched) + misses_of old ≡ misses earlier + misses_of new
  owed : p < tile_count g.topo → owed_of new ≡ owed_after (stream_of g p) (misses_of old) (misses_of new)

abbrev IsBeside : Turn → ProgramSet → ℕ → Processor → Processor → List ℕ → Type 0
IsBeside Fired g p old new touched = IsSteppedBeside g p old new touched
IsBeside Stalled g p old new touched = IsSameBeside (owed_of old - 1) old new
IsBeside turn g p old new touched = IsSameBeside (owed_of old) old new

-- a turn in the words that are the same for each kind
record IsWholeTurn (g : ProgramSet) (p : ℕ) (turn : Turn) (old new : Processor) (wires later : List (List ℕ)) (touched : List ℕ) : Type 0 where
  whole : IsTurn g p (nat_lt 0 (owed_of old)) turn (local_of old) (local_of new) wires later
  beside : IsBeside turn g p old new touched

module _ (g : ProgramSet) (p : ℕ) (wires later : List (List ℕ)) (touched : List ℕ) where
  -- of a processor behind the tiles nothing stands beside
  other_beside : (turn : Turn) (old new : Processor) → tile_count g.topo ≤ p → cache_of new ≡ cache_of old → misses_of new ≡ misses_of old
      → owed_of new ≡ owed_of old → owed_of old ≡ 0 → IsBeside turn g p old new touched
  other_beside Fired old new back cache missed owed none =
      record {
        stands = λ front. absurd (omega (arith, front, back));
        missed = λ front. absurd (omega (arith, front, back));
        owed = λ front. absurd (omega (arith, front, back));
      }
  other_beside Stalled old new back cache missed owed none = record { cache = cache; missed = missed; owes = omega arith }
  other_beside turn old new back cache missed owed none = record { cache = cache; missed = missed; owes = owed }

  tile_beside : (turn : Turn) (old new : TileUnit) → touched ≡ touches_next g p old wires → IsTileTurn g p turn old new wires later
      → IsBeside turn g p (a.Tile old) (a.Tile new) touched
  tile_beside Fired old new is turned =
      record {
        stands = λ front earlier stands. subst (λ more. StandsFor new.cache (earlier ++ more)) (sym is) (turned.cost.stands earlier stands);
        missed = λ front earlier stands. ap (λ more. misses (earlier ++ more) + old.misses) is ∙ turned.cost.missed earlier stands;
        owed = λ front. turned.cost.owed;
      }
  tile_beside turn old new is turned =
      record {
        cache = ap (λ (x : TileUnit). x.cache) turned.cost;
        missed = ap (λ (x : TileUnit). x.misses) turned.cost;
        owes = ap (λ (x : TileUnit). x.owed) turned.cost;
      }

  whole_turn : (turn : Turn) (old new : Processor) → IsFit g p (local_of old)
      → ((tile : TileUnit) → local_of old ≡ Tile tile.state → touched ≡ touches_next g p tile wires)
      → IsProcessorTurn g p turn old new wires later → IsWholeTurn g p turn old new wires later touched
  whole_turn turn (a.Tile old) (a.Tile new) fit is turned =
      record { whole = turned.whole; beside = tile_beside turn old new (is old refl) turned }
  whole_turn turn (a.Switch old) (a.Switch new) fit is turned =
      record { whole = turned.whole; beside = other_beside turn (a.Switch old) (a.Switch new) (behind g p proc.Switch fit.0 (λ e. cc e)) refl refl refl refl }
  whole_turn turn (a.Source old) (a.Source new) fit is turned =
      record { whole = turned.whole; beside = other_beside turn (a.Source old) (a.Source new) (behind g p proc.Source fit.0 (λ e. cc e)) refl refl refl refl }
  whole_turn turn (a.Sink old) (a.Sink new) fit is turned =
      record { whole = turned.whole; beside = other_beside turn (a.Sink old) (a.Sink new) (behind g p proc.Sink fit.0 (λ e. cc e)) refl refl refl refl }
  whole_turn turn old new fit is turned = absurd turned

  -- a turn keeps what no step changes
  code_kept : (turn : Turn) (old new : TileUnit) → IsTileTurn g p turn old new wires later → new.code ≡ old.code
  code_kept Fired old new turned = turned.cost.code
  code_kept turn old new turned = ap (λ (x : TileUnit). x.code) turned.cost

  kept_then : (turn : Turn) (old new : Processor) → IsProcessorTurn g p turn old new wires later → IsKept g p old → IsKept g p new
  kept_then turn (a.Tile old) (a.Tile new) turned kept = ap (λ c. c.items) (code_kept turn old new turned) ∙ kept
  kept_then turn (a.Switch old) (a.Switch new) turned kept = ap (λ c. c.items) turned.code ∙ kept
  kept_then turn (a.Source old) (a.Source new) turned kept = tt
  kept_then turn (a.Sink old) (a.Sink new) turned kept = let same = turned.room in omega arith
  kept_then turn old new turned kept = absurd turned

  -- a tile does not miss more often than it steps
  few_by : (turn : Turn) (old new : TileUnit) → IsTileTurn g p turn old new wires later → old.misses ≤ old.state.count
      → new.misses ≤ new.state.count
  unfolding machine_of
  few_by Fired old new turned few =
      let more = turned.cost.few in
      let count = ap (λ (l : TileLocal). l.count) (same_tile new.state _ turned.whole.local)
      ∙ tile_counts (next_instruction (tile_code g p) old.state) _ old.state _ _ in
      omega arith
  few_by turn old new turned few = subst (λ (x : TileUnit). x.misses ≤ x.state.count) (sym turned.cost) few

  few_then : (turn : Turn) (old new : Processor) → IsProcessorTurn g p turn old new wires later → HasFewMisses old → HasFewMisses new
  few_then turn (a.Tile old) (a.Tile new) turned few = few_by turn old new turned few
  few_then turn old (a.Tile new) turned few = absurd turned
  few_then turn old new turned few = tt

module _ (g : ProgramSet) (ends : List EndWires) (processors : List Processor) (wires : List (List ℕ)) (parts : AreParts g ends processors wires)
    (p : ℕ) (old : Processor) (here : slice_get processors p ≡ Some old) where
  -- the local state of a processor
  pub local_here : slice_get (map local_of processors) p ≡ Some (local_of old)
  local_here = at_field local_of processors p old here

  pub fit_here : IsFit g p (local_of old)
  fit_here = parts.fits.locals p (local_of old) local_here

module _ (g : ProgramSet) (ends : List EndWires) (processors : List Processor) (wires later : List (List ℕ)) (parts : AreParts g ends processors wires)
    (p : ℕ) (old new : Processor) (here : slice_get processors p ≡ Some old) where
  abbrev old_run : Running
  old_run = running_of g processors wires

  abbrev new_run : Running
  new_run = running_of g (set processors p new) later

  abbrev touched : List ℕ
  touched = next_touch g old_run.state p

  there : slice_get (map local_of processors) p ≡ Some (local_of old)
  there = local_here g ends processors wires parts p old here

  abbrev IsWhole : Turn → Type 0
  IsWhole turn = IsWholeTurn g p turn old new wires later touched

  state_then : (turn : Turn) → IsWhole turn → new_run.state ≡ state_after turn g old_run.state p
  state_then turn is =
      let put = map-set local_of processors p new in
      let moved : ◌≡◌ {A = MachineState} new_run.state record { locals = set (map local_of processors) p (local_of new); wires = later } =
      λ i. record { locals = put i; wires = later } in
      moved ∙ state_is g old_run.state p (local_of old) there (nat_lt 0 (owed_of old)) turn (local_of new) later is.whole

  owed_here : slice_index old_run.owed p ≡ owed_of old
  owed_here = field_at owed_of processors p old 0 here

  answer_then : (turn : Turn) → IsWhole turn → turn ≡ turn_of old_run p
  answer_then turn is =
      turn_is g old_run.state p (local_of old) there (nat_lt 0 (slice_index old_run.owed p)) turn
      (is.whole.answer ∙ ap (λ n. turn_at g p (nat_lt 0 n) (local_of old) wires) (sym owed_here))

  -- a turn without a step
  same_field : {Y : Type 0} (f : Processor → Y) → f new ≡ f old → map f (set processors p new) ≡ map f processors
  same_field f e = map-set f processors p new ∙ ap (set (map f processors) p) e ∙ set_same (map f processors) p (f old) (at_field f processors p old here)

  same_run : (n : ℕ) (owed : List ℕ) → new_run.state ≡ old_run.state → IsSameBeside n old new → new_run.owed ≡ owed → new_run ≡ record old_run { owed = owed }
  same_run n owed es is eo =
      let caches = same_field cache_of is.cache in
      let missed = same_field misses_of is.missed in
      λ i. record { set = g; state = es i; caches = caches i; missed = missed i; owed = eo i }

  kept_run : new_run.state ≡ old_run.state → IsSameBeside (owed_of old) old new → new_run ≡ old_run
  kept_run es is = same_run (owed_of old) old_run.owed es is (same_field owed_of is.owes)

  stalled_run : new_run.state ≡ old_run.state → IsSameBeside (owed_of old - 1) old new → new_run ≡ stalled_once old_run p
  stalled_run es is =
      same_run (owed_of old - 1) (set old_run.owed p (slice_index old_run.owed p - 1)) es is
      (map-set owed_of processors p new ∙ ap (set old_run.owed p) (is.owes ∙ ap (λ n. n - 1) (sym owed_here)))

  -- a turn with a step
  abbrev after : slice_get (set processors p new) p ≡ Some new
  after = slice_get-set_same processors p new old here

  own_cost : IsSteppedBeside g p old new touched → p < tile_count g.topo
      → slice_index new_run.owed p ≡ owed_after (stream_of g p) (slice_index old_run.missed p) (slice_index new_run.missed p)
  own_cost cost within =
      let misses_old = field_at misses_of processors p old 0 here in
      let misses_new = field_at misses_of (set processors p new) p new 0 after in
      field_at owed_of (set processors p new) p new 0 after ∙ cost.owed within
      ∙ ap (λ n. owed_after (stream_of g p) n (misses_of new)) (sym misses_old)
      ∙ ap (λ n. owed_after (stream_of g p) (slice_index old_run.missed p) n) (sym misses_new)

  counted_then : IsSteppedBeside g p old new touched → AreCounted old_run new_run p
  counted_then cost =
      let cache_old = field_at cache_of processors p old [] here in
      let cache_new = field_at cache_of (set processors p new) p new [] after in
      let misses_old = field_at misses_of processors p old 0 here in
      let misses_new = field_at misses_of (set processors p new) p new 0 after in
      record {
        stands = λ within earlier stands.
            subst (λ (cache : List HeldLines). StandsFor cache (earlier ++ touched)) (sym cache_new)
            (cost.stands within earlier (subst (λ (cache : List HeldLines). StandsFor cache earlier) cache_old stands));
        missed = λ within earlier stands.
            ap (λ n. misses (earlier ++ touched) + n) misses_old
            ∙ cost.missed within earlier (subst (λ (cache : List HeldLines). StandsFor cache earlier) cache_old stands)
            ∙ ap (λ n. misses earlier + n) (sym misses_new);
        other_caches = λ u other. other_read cache_of processors p u new [] other;
        other_misses = λ u other. other_read misses_of processors p u new 0 other;
        owed = λ within. own_cost cost within;
        other_owed = λ u other. other_read owed_of processors p u new 0 other;
      }

  stepped_run : IsWhole Fired → IsStep old_run new_run p
  stepped_run is =
      let on = enabled_is g old_run.state p (local_of old) there (nat_lt 0 (owed_of old)) is.whole.answer in
      record {
        set = refl;
        state = state_then Fired is;
        run = λ steps run. pushed old_run new_run p (state_then Fired is) on (counted_then is.beside) steps run;
        owed = λ u same within.
            ap (slice_index new_run.owed) same ∙ own_cost is.beside (subst (λ n. n < tile_count g.topo) same within)
            ∙ sym (ap (λ n. owed_after (stream_of g n) (slice_index old_run.missed n) (slice_index new_run.missed n)) same);
        other_caches = λ u other. other_field cache_of processors p u new other;
        other_misses = λ u other. other_field misses_of processors p u new other;
        other_owed = λ u other. other_field owed_of processors p u new other;
      }

  follows_then : (turn : Turn) → IsWhole turn → Follows turn old_run new_run p
  follows_then Fired is = stepped_run is
  follows_then Stalled is = stalled_run (state_then Stalled is) is.beside
  follows_then turn is = kept_run (state_then turn is) is.beside

  -- what a turn leaves is reached
  reached_then : (turn : Turn) → IsWhole turn → IsReached new_run
  reached_then Fired is =
      let step = stepped_run is in
      ∥∥₁_map parts.reached (λ (r : (steps : List ℕ) × IsRunBy old_run steps). (r.0 ++ p ∷ [], step.run r.0 r.1))
  reached_then Stalled is =
      subst IsReached (sym (stalled_run (state_then Stalled is) is.beside))
      (∥∥₁_map parts.reached (λ (r : (steps : List ℕ) × IsRunBy old_run steps). (
        r.0,
        owing_less old_run (set old_run.owed p (slice_index old_run.owed p - 1)) r.0 (one_less old_run.owed p) r.1,
      )))
  reached_then turn is = subst IsReached (sym (kept_run (state_then turn is) is.beside)) parts.reached

  touch_is : (tile : TileUnit) → local_of old ≡ Tile tile.state → touched ≡ touches_next g p tile wires
  touch_is tile e = ap (λ o. option_to_list (event_from (machine_of g) wires p o).touched) (there ∙ ap Some e)

  wholly : (turn : Turn) → IsProcessorTurn g p turn old new wires later → IsWhole turn
  wholly turn is = whole_turn g p wires later touched turn old new (fit_here g ends processors wires parts p old here) touch_is is

  -- the turn of a processor is the turn of the machine
  pub turned : (turn : Turn) → IsProcessorTurn g p turn old new wires later → IsTurnOf old_run new_run p turn
  turned turn is = record { answer = answer_then turn (wholly turn is); set = refl; after = follows_then turn (wholly turn is) }

  -- the parts after its turn
  pub parts_then : (turn : Turn) → IsProcessorTurn g p turn old new wires later → AreParts g ends (set processors p new) later
  parts_then turn is =
      record {
        valid = parts.valid;
        each_end = parts.each_end;
        each = length-set processors p new ∙ parts.each;
        ends_are = parts.ends_are;
        kept = λ u x at.
            ⊎_elim
            (λ same.
            let y = same_Some new x (sym after ∙ ap (slice_get (set processors p new)) (sym same) ∙ at) in
            subst (λ n. IsKept g n x) (sym same) (subst (IsKept g p) y (kept_then g p wires later touched turn old new is (parts.kept p old here))))
            (λ other. parts.kept u x (sym (slice_get-set_other processors p u new other) ∙ at))
            (cases_eq u p);
        few = λ u x at.
            ⊎_elim
            (λ same.
            let y = same_Some new x (sym after ∙ ap (slice_get (set processors p new)) (sym same) ∙ at) in
            subst HasFewMisses y (few_then g p wires later touched turn old new is (parts.few p old here)))
            (λ other. parts.few u x (sym (slice_get-set_other processors p u new other) ∙ at))
            (cases_eq u p);
        fits = subst (Fits g) (sym (state_then turn (wholly turn is)))
            (fits_after g old_run.state p (local_of old) there parts.valid (nat_lt 0 (owed_of old)) turn (wholly turn is).whole.answer parts.fits);
        reached = reached_then turn (wholly turn is);
      }

-- the wires at the ends of a processor, among those of all, and the processor among all
module _ (g : ProgramSet) (ends : List EndWires) (processors : List Processor) (wires : List (List ℕ)) (parts : AreParts g ends processors wires)
    (p : ℕ) (below : p < proc_count g.topo) where
  pub ends_at : (e : EndWires) → e ≡ get_or ends p e → AreEndsOf g.topo p e
  ends_at e is = parts.ends_are p e (slice_get_read ends (proc_count g.topo) p e (sym parts.each_end) below is)

  pub processor_at : (x : Processor) → x ≡ get_or processors p x → slice_get processors p ≡ Some x
  processor_at x is = slice_get_read processors (proc_count g.topo) p x (sym parts.each) below is
