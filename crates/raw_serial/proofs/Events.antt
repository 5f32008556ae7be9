-- What is told of a step is its event, and its miss.
use Rattle.std.proofs.Common.{◌≡◌, ℕ, Bool, true, false, cond, eqb, ltb, List, map, set, Option, Some, None, refl, sym, ap, ◌∙◌}
use Rattle.std.specs.Prelude.{slice_get, slice_index, ◌==◌, if◌then◌else◌}
use Rattle.std.proofs.lemmas.Bool.{lt-ltb}
use Rattle.raw_network.specs.Network.{Sent}
use Rattle.raw_network.proofs.Wires.{slice_get-set_same}
use Rattle.raw_grid.specs.declared.parts.ProcKind.TheVariants as proc
use Rattle.raw_grid.specs.Topology.{tile_count}
use Rattle.raw_model.specs.Program.{ProgramSet}
use Rattle.raw_model.specs.Local.{Local}
use Rattle.raw_model.specs.Machine.{machine_of, takes, row}
use Rattle.raw_model.specs.Start.{IsFit}
use Rattle.raw_model.specs.Cache.{stream_of}
use Rattle.raw_processor.specs.declared.processor.Processor.{Processor}
use Rattle.raw_processor.specs.declared.processor.Processor.TheVariants as a
use Rattle.raw_processor.specs.Processor.{local_of, misses_of}
use Rattle.raw_processor.specs.Touching.{owed_after}
use Rattle.raw_serial.specs.declared.turn.Turn.{Turn}
use Rattle.raw_serial.specs.Needs.{IsTaken}
use Rattle.raw_serial.specs.Costs.{IsProcessorTurn}
use Rattle.raw_serial.specs.Told.{Told, missed_by, missed_at, told_from, told_of}
use Rattle.raw_serial.specs.Parts.{running_of}
use Rattle.raw_serial.proofs.Fields.{at_field, field_at}
use Rattle.raw_serial.proofs.Placed.{placed}

-- what is taken and sent is so of the event, where the row was done with the values taken
pub told_is : (set : ProgramSet) (p : ℕ) (l : Local) (wires left : List (List ℕ)) (values from : List ℕ) (sent : List Sent) (touched missed miss : Option ℕ)
    → IsTaken set p l wires left values → from ≡ takes set p l → sent ≡ (row set p l values).sent → touched ≡ (row set p l values).touched → missed ≡ miss
    → ◌≡◌ {A = Told} record { from = from; sent = sent; touched = touched; missed = missed } (told_from set p (Some l) wires miss)
unfolding machine_of
told_is set p l wires left values from sent touched missed miss took is_from is_sent is_touched is_missed =
    let all_sent = is_sent ∙ ap (λ vs. (row set p l vs).sent) took.values in
    let all_touched = is_touched ∙ ap (λ vs. (row set p l vs).touched) took.values in
    λ i. record { from = is_from i; sent = all_sent i; touched = all_touched i; missed = is_missed i }

never : (b : Bool) → ◌≡◌ {A = Option ℕ} None (cond b None None)
never true = refl
never false = refl

-- what a tile owes after a step that missed is the number of the miss
pub miss_is : (stream : List ℕ) (before after owed : ℕ) → owed ≡ owed_after stream before after
    → (if before == after then None else Some owed) ≡ missed_by stream before after
miss_is stream before after owed is = by_test (eqb before after) is
  where
    by_test : (b : Bool) → owed ≡ cond b 0 (slice_index stream before) → cond b None (Some owed) ≡ cond b None (Some (slice_index stream before))
    by_test true e = refl
    by_test false e = ap Some e

-- a tile's miss is that of a processor, and no other processor has one
missed_there : (g : ProgramSet) (p : ℕ) (turn : Turn) (old new : Processor) (wires later : List (List ℕ)) → IsFit g p (local_of old)
    → IsProcessorTurn g p turn old new wires later
    → missed_by (stream_of g p) (misses_of old) (misses_of new) ≡ missed_at g p (misses_of old) (misses_of new)
missed_there g p turn (a.Tile old) (a.Tile new) wires later fit is =
    sym (ap (λ b. cond b (missed_by (stream_of g p) old.misses new.misses) None) (lt-ltb p (tile_count g.topo) (placed g.topo p proc.Tile fit.0)))
missed_there g p turn (a.Switch old) (a.Switch new) wires later fit is = never (ltb p (tile_count g.topo))
missed_there g p turn (a.Source old) (a.Source new) wires later fit is = never (ltb p (tile_count g.topo))
missed_there g p turn (a.Sink old) (a.Sink new) wires later fit is = never (ltb p (tile_count g.topo))
missed_there g p turn old new wires later fit is = absurd is

-- what is told of the turn of a processor is what is told of the step of the machine
pub told_there : (g : ProgramSet) (processors : List Processor) (wires later : List (List ℕ)) (p : ℕ) (turn : Turn) (old new : Processor)
    → slice_get processors p ≡ Some old → IsFit g p (local_of old) → IsProcessorTurn g p turn old new wires later
    → told_from g p (Some (local_of old)) wires (missed_by (stream_of g p) (misses_of old) (misses_of new))
    ≡ told_of (running_of g processors wires) (running_of g (set processors p new) later) p
told_there g processors wires later p turn old new here fit is =
    let after = slice_get-set_same processors p new old here in
    ap (told_from g p (Some (local_of old)) wires) (missed_there g p turn old new wires later fit is)
    ∙ ap (λ l. told_from g p l wires (missed_at g p (misses_of old) (misses_of new))) (sym (at_field local_of processors p old here))
    ∙ ap (λ n. told_from g p (slice_get (map local_of processors) p) wires (missed_at g p n (misses_of new))) (sym (field_at misses_of processors p old 0 here))
    ∙ ap (λ n. told_from g p (slice_get (map local_of processors) p) wires (missed_at g p (slice_index (map misses_of processors) p) n))
    (sym (field_at misses_of (set processors p new) p new 0 after))
