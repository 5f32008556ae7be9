-- What is so of a machine since its state is reached: the state fits, and no tile missed more often than it
-- stepped. That a state is reached names no list of steps, so each fact is taken from it on its own.
use Rattle.std.proofs.Common.{◌≡◌, ℕ, suc, ◌+◌, ◌<◌, ◌≤◌, List, [], ◌∷◌, length, map, take, Option, Some, None, refl, sym, ap, subst, ◌∙◌, ⊎_elim, arith}
use Rattle.std.specs.Prelude.{slice_get, slice_index}
use Rattle.std.specs.List.{filter_map, cons_option, range_with_len}
use Rattle.std.proofs.Math.Logic.{∥∥₁_map, ∥∥₁_elim}
use Rattle.std.proofs.lemmas.Bool.{cases_eq, cases_lt}
use Rattle.std.proofs.lemmas.List.FromFn.{length-range_with_len}
use Rattle.std.proofs.lemmas.List.Sums.{count_by-le-length}
use Rattle.std.proofs.lemmas.Option.{same_Some}
use Rattle.raw_network.specs.Network.{Event, step_from, row_at, event_of}
use Rattle.raw_network.specs.Runs.{events_of}
use Rattle.raw_network.proofs.Erased.{events_here, events_there}
use Rattle.raw_network.proofs.Kth.{local_other}
use Rattle.raw_network.proofs.Wires.{slice_get-set_same}
use Rattle.raw_grid.specs.declared.parts.ProcKind.{ProcKind}
use Rattle.raw_grid.specs.declared.parts.ProcKind.TheVariants as proc
use Rattle.raw_grid.specs.Topology.{tile_count, kind_at}
use Rattle.raw_model.specs.Program.{ProgramSet, TileProgram, IsSet}
use Rattle.raw_model.specs.Local.{Local, Tile, Switch, Source, Sink, TileLocal}
use Rattle.raw_model.specs.TileTable.{next_instruction}
use Rattle.raw_model.specs.Machine.{machine_of, tile_code}
use Rattle.raw_model.specs.Start.{MachineState, start, first_tile, Fits, IsFit}
use Rattle.raw_model.specs.Rest.{step, end_from}
use Rattle.raw_model.specs.Cache.{touches_of, misses, is_miss}
use Rattle.raw_model.proofs.Finite.{tile_counts}
use Rattle.raw_model.proofs.Fitting.{end_fits}
use Rattle.raw_model.proofs.Starting.{start_fits}
use Rattle.raw_processor.specs.declared.processor.Processor.{Processor}
use Rattle.raw_processor.specs.declared.processor.Processor.TheVariants as a
use Rattle.raw_processor.specs.declared.processor.TileUnit.{TileUnit}
use Rattle.raw_processor.specs.Processor.{local_of, misses_of, HasFewMisses}
use Rattle.raw_serial.specs.Running.{Running, IsRunBy, IsReached}
use Rattle.raw_serial.specs.declared.parts.Parts.{Parts}
use Rattle.raw_serial.specs.Parts.{running_of, AreParts}
use Rattle.raw_serial.specs.Taken.{made_of, IsWhole}
use Rattle.raw_serial.proofs.Fields.{some_at, at_field, field_at}
use Rattle.raw_serial.proofs.Placed.{placed}
use Rattle.raw_serial.proofs.Starts.{tile_there}
use Rattle.raw_serial.proofs.Tiling.{same_tile}

-- a fact that can be tested is so if it follows from what is so of some list of steps
never : {A : Type 0} → ∥ A ∥₁ → (A → ⊥) → ⊥
never some f = ∥∥₁_elim some (λ x y. absurd x) f

out_eq : {A : Type 0} (a b : ℕ) → ∥ A ∥₁ → (A → a ≡ b) → a ≡ b
out_eq a b some f = ⊎_elim (λ e. e) (λ (ne : a ≡ b → ⊥). absurd (never some (λ r. ne (f r)))) (cases_eq a b)

out_lt : {A : Type 0} (a b : ℕ) → ∥ A ∥₁ → (A → a < b) → a < b
out_lt a b some f =
    ⊎_elim (λ (h : a < b). h) (λ (past : b ≤ a). absurd (never some (λ r. let below = f r in let no : ⊥ = omega (arith, below, past) in no))) (cases_lt a b)

out_le : {A : Type 0} (a b : ℕ) → ∥ A ∥₁ → (A → a ≤ b) → a ≤ b
out_le a b some f =
    ⊎_elim (λ (past : b < a). absurd (never some (λ r. let below = f r in let no : ⊥ = omega (arith, below, past) in no))) (λ (h : a ≤ b). h) (cases_lt b a)

out_nil : {A : Type 0} (xs : List ℕ) → ∥ A ∥₁ → (A → xs ≡ []) → xs ≡ []
out_nil [] some f = refl
out_nil (x ∷ xs) some f = absurd (never some (λ r. let e = f r in let no : ⊥ = cc e in no))

-- a number for each kind, by which kinds are told apart
kind_number : Option ProcKind → ℕ
kind_number None = 0
kind_number (Some proc.Tile) = 1
kind_number (Some proc.Switch) = 2
kind_number (Some proc.Source) = 3
kind_number (Some proc.Sink) = 4

kind_by : (o : Option ProcKind) (k : ProcKind) → kind_number o ≡ kind_number (Some k) → o ≡ Some k
unfolding kind_number
kind_by None proc.Tile e = absurd (cc e)
kind_by (Some proc.Tile) proc.Tile e = refl
kind_by (Some proc.Switch) proc.Switch e = refl
kind_by (Some proc.Source) proc.Source e = refl
kind_by (Some proc.Sink) proc.Sink e = refl
kind_by o k e = absurd (cc e)

out_kind : {A : Type 0} (o : Option ProcKind) (k : ProcKind) → ∥ A ∥₁ → (A → o ≡ Some k) → o ≡ Some k
out_kind o k some f = kind_by o k (out_eq (kind_number o) (kind_number (Some k)) some (λ r. ap kind_number (f r)))

-- so that a state fits
module _ (g : ProgramSet) (s : MachineState) (some : ∥ Fits g s ∥₁) where
  fit_of : (p : ℕ) (l : Local) → slice_get s.locals p ≡ Some l → IsFit g p l
  fit_of p (Tile l) here =
      let each : Fits g s → IsFit g p (Tile l) = λ f. f.locals p (Tile l) here in (
        out_kind (kind_at g.topo p) proc.Tile some (λ f. (each f).0),
        record {
          registers = out_eq _ _ some (λ f. (each f).1.registers);
          words = λ k d below. out_lt _ _ some (λ f. (each f).1.words k d below);
          register_0 = out_eq _ _ some (λ f. (each f).1.register_0);
          register_24 = out_eq _ _ some (λ f. (each f).1.register_24);
          register_25 = out_eq _ _ some (λ f. (each f).1.register_25);
          pc = out_lt _ _ some (λ f. (each f).1.pc);
          inside = λ going. out_lt _ _ some (λ f. (each f).1.inside going);
          count = out_le _ _ some (λ f. (each f).1.count);
          memory = out_eq _ _ some (λ f. (each f).1.memory);
          bytes = λ k d below. out_lt _ _ some (λ f. (each f).1.bytes k d below);
        },
      )
  fit_of p (Switch l) here =
      let each : Fits g s → IsFit g p (Switch l) = λ f. f.locals p (Switch l) here in (
        out_kind (kind_at g.topo p) proc.Switch some (λ f. (each f).0),
        record {
          registers = out_eq _ _ some (λ f. (each f).1.registers);
          words = λ k d below. out_lt _ _ some (λ f. (each f).1.words k d below);
          pc = out_lt _ _ some (λ f. (each f).1.pc);
          inside = λ going. out_lt _ _ some (λ f. (each f).1.inside going);
          count = out_le _ _ some (λ f. (each f).1.count);
        },
      )
  fit_of p (Source l) here =
      let each : Fits g s → IsFit g p (Source l) = λ f. f.locals p (Source l) here in (
        out_kind (kind_at g.topo p) proc.Source some (λ f. (each f).0),
        record { done = out_le _ _ some (λ f. (each f).1.done); got = out_nil l.got some (λ f. (each f).1.got) },
      )
  fit_of p (Sink l) here =
      let each : Fits g s → IsFit g p (Sink l) = λ f. f.locals p (Sink l) here in (
        out_kind (kind_at g.topo p) proc.Sink some (λ f. (each f).0),
        record {
          done = out_le _ _ some (λ f. (each f).1.done);
          got = out_eq _ _ some (λ f. (each f).1.got);
          words = λ k d below. out_lt _ _ some (λ f. (each f).1.words k d below);
        },
      )

  fits_out : Fits g s
  fits_out =
      record {
        processors = out_eq _ _ some (λ f. f.processors);
        locals = fit_of;
        wires = out_eq _ _ some (λ f. f.wires);
        depth = λ w. out_le _ _ some (λ f. f.depth w);
        values = λ w k d below. out_lt _ _ some (λ f. f.values w k d below);
      }

-- a state that is reached fits
pub fits_reached : (m : Running) → IsSet m.set → IsReached m → Fits m.set m.state
fits_reached m valid reached =
    fits_out m.set m.state
    (∥∥₁_map reached (λ (r : (steps : List ℕ) × IsRunBy m steps). subst (Fits m.set) r.1.there (end_fits m.set valid (start m.set) r.0 (start_fits m.set valid) r.1.lawful)))

-- no list of touches has more misses than touches
misses_few : (touched : List ℕ) → misses touched ≤ length touched
unfolding misses
misses_few touched =
    let few = count_by-le-length (λ place. is_miss (take place touched) (slice_index touched place)) (range_with_len 0 (length touched)) in
    let many = length-range_with_len 0 (length touched) in
    omega (arith, few, many)

one_more : {X Y : Type 0} (h : X → Option Y) (x : X) (xs : List X) → length (filter_map h (x ∷ xs)) ≤ suc (length (filter_map h xs))
one_more {Y = Y} h x xs = by_case (h x)
  where
    by_case : (o : Option Y) → length (cons_option o (filter_map h xs)) ≤ suc (length (filter_map h xs))
    by_case None = omega arith
    by_case (Some y) = omega arith

-- a tile touches no more addresses in a list of steps than it executes instructions there
module _ (g : ProgramSet) (t : ℕ) where
  tile_next : (s : MachineState) (l : TileLocal) → slice_get s.locals t ≡ Some (Tile l)
      → (n : TileLocal) × (slice_get (step g s t).locals t ≡ Some (Tile n)) × (n.count ≡ l.count + 1)
  unfolding machine_of
  tile_next s l here = (
    _,
    ap (λ o. slice_get (step_from (machine_of g) s t o).locals t) here
        ∙ slice_get-set_same s.locals t (row_at (machine_of g) t (Tile l) s.wires).next (Tile l) here,
    tile_counts (next_instruction (tile_code g t) l) _ l _ _,
  )

  touches_few : (ps : List ℕ) (s : MachineState) (l m : TileLocal) → slice_get s.locals t ≡ Some (Tile l)
      → slice_get (end_from g s ps).locals t ≡ Some (Tile m) → length (touches_of g s ps t) + l.count ≤ m.count
  touches_few [] s l m here there =
      let same = ap (λ (x : TileLocal). x.count) (same_tile l m (same_Some (Tile l) (Tile m) (sym here ∙ there))) in omega (arith, same)
  touches_few (p ∷ ps) s l m here there =
      ⊎_elim
      (λ (is : p ≡ t).
      let next = tile_next s l here in
      let rest = touches_few ps (step g s t) next.0 m next.1 (ap (λ q. slice_get (end_from g s (q ∷ ps)).locals t) (sym is) ∙ there) in
      let same = ap (λ q. length (touches_of g s (q ∷ ps) t)) is in
      let own = ap (λ es. length (filter_map (λ (e : Event Local). e.touched) es)) (events_here (machine_of g) s t ps) in
      let more = one_more (λ (e : Event Local). e.touched) (event_of (machine_of g) s t) (events_of (machine_of g) (step g s t) ps t) in
      let counts = next.2 in
      omega (arith, rest, same, own, more, counts))
      (λ (away : p ≡ t → ⊥).
      let rest = touches_few ps (step g s p) l m (local_other (machine_of g) s p t (λ e. away (sym e)) ∙ here) there in
      let same = ap (λ es. length (filter_map (λ (e : Event Local). e.touched) es)) (events_there (machine_of g) s p t ps away) in
      omega (arith, rest, same))
      (cases_eq p t)

module _ (g : ProgramSet) (valid : IsSet g) (processors : List Processor) (wires : List (List ℕ)) where
  first_there : (t : ℕ) → t < tile_count g.topo → (program : TileProgram) × (slice_get (start g).locals t ≡ Some (Tile (first_tile program)))
  first_there t within =
      let each = valid.each_tile in
      let program = some_at g.tiles t (omega (arith, each, within)) in (program.0, tile_there g valid t program.0 program.1)

  few_by : (t : ℕ) (tile : TileUnit) → t < tile_count g.topo → slice_get processors t ≡ Some (a.Tile tile) → (steps : List ℕ)
      → IsRunBy (running_of g processors wires) steps → tile.misses ≤ tile.state.count
  few_by t tile within here steps run =
      let first = first_there t within in
      let few = touches_few g t steps (start g) (first_tile first.0) tile.state first.1
      (ap (λ (s : MachineState). slice_get s.locals t) run.there ∙ at_field local_of processors t (a.Tile tile) here) in
      let fewer = misses_few (touches_of g (start g) steps t) in
      let missed = run.missed t within in
      let is = field_at misses_of processors t (a.Tile tile) 0 here in
      omega (arith, few, fewer, missed, is)

  -- no tile of a machine that is reached missed more often than it stepped
  pub few_reached : IsReached (running_of g processors wires) → Fits g (running_of g processors wires).state → (t : ℕ) (x : Processor)
      → slice_get processors t ≡ Some x → HasFewMisses x
  few_reached reached fits t (a.Tile tile) here =
      let within = placed g.topo t proc.Tile (fits.locals t (Tile tile.state) (at_field local_of processors t (a.Tile tile) here)).0 in
      out_le tile.misses tile.state.count reached (λ (r : (steps : List ℕ) × IsRunBy (running_of g processors wires) steps). few_by t tile within here r.0 r.1)
  few_reached reached fits t x here = tt

-- whole parts are the parts of a machine
pub made_whole : (g : ProgramSet) → IsSet g → (parts : Parts) → IsWhole g parts
    → AreParts g parts.ends.items parts.processors.items (map (λ queue. queue.items) parts.wires.items)
made_whole g valid parts whole =
    record {
      valid = valid;
      each_end = whole.ends.each_end;
      each = whole.each;
      ends_are = whole.ends.ends_are;
      kept = whole.kept;
      few = few_reached g valid parts.processors.items (map (λ queue. queue.items) parts.wires.items) whole.reached
          (fits_reached (made_of g parts) valid whole.reached);
      fits = fits_reached (made_of g parts) valid whole.reached;
      reached = whole.reached;
    }

-- the parts of a machine are whole
pub parts_whole : (g : ProgramSet) (parts : Parts)
    → AreParts g parts.ends.items parts.processors.items (map (λ queue. queue.items) parts.wires.items)
    → IsWhole g parts
parts_whole g parts are =
    record {
      ends = record { each_end = are.each_end; ends_are = are.ends_are };
      each = are.each;
      kept = are.kept;
      reached = are.reached;
    }
