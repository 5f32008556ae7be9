-- At the start the pc of each processor is 0, and nothing is known.
use Rattle.std.proofs.Common.{◌≡◌, ℕ, List, [], length, replicate, Option, Some, None, refl, sym, ap, ◌∙◌, arith}
use Rattle.std.specs.Prelude.{slice_get, slice_index_or}
use Rattle.std.proofs.lemmas.List.{length-replicate, get_or-replicate}
use Rattle.std.proofs.lemmas.Option.{slice_get_within, get_or_from_slice_get}
use Rattle.raw_lockstep.proofs.Stalling.{without_unpaid}
use Rattle.raw_grid.specs.Topology.{proc_count}
use Rattle.raw_model.specs.Program.{ProgramSet}
use Rattle.raw_model.specs.Local.{Local}
use Rattle.raw_model.specs.Start.{MachineState, start}
use Rattle.raw_serial.specs.declared.turn.Turn.TheVariants.{Fired}
use Rattle.raw_trace.specs.Parts.{pc_of}
use Rattle.raw_trace.proofs.Told.{start_pc}
use Rattle.raw_path.specs.declared.seen.Seen.{Seen}
use Rattle.raw_path.specs.Path.{pc_at}
use Rattle.raw_path.specs.Known.{AreKnown}

pub first_pc : (set : ProgramSet) (p : ℕ) → pc_at set 0 p ≡ 0
first_pc set p =
    ap (λ (s : MachineState). pc_of (slice_get s.locals p)) (without_unpaid (start set)) ∙ from (slice_get (start set).locals p) refl
  where
    from : (o : Option Local) → slice_get (start set).locals p ≡ o → pc_of (slice_get (start set).locals p) ≡ 0
    from None is = ap pc_of is
    from (Some l) is = ap pc_of is ∙ start_pc set p l is

-- what is known of each before the first cycle
pub none_known : (set : ProgramSet) (n : ℕ) (s : Seen) (seen : List Seen) → n ≡ proc_count set.topo → seen ≡ replicate n s → s.turn ≡ Fired → s.pc ≡ 0
    → s.end.stalled ≡ 0 → s.end.hop ≡ None → AreKnown set [] 0 seen
none_known set n s seen many are turn pc stalled hop =
    record {
      many = ap length are ∙ length-replicate {A = Seen} n s ∙ many;
      each =
          λ p x here.
          let there = slice_get_within seen p x here in
          let long = ap length are ∙ length-replicate {A = Seen} n s in
          let same : s ≡ x =
          sym (get_or-replicate n p s s (omega (arith, there, long))) ∙ ap (λ xs. slice_index_or xs p s) (sym are) ∙ get_or_from_slice_get seen p x s here in (
            ap (λ (y : Seen). y.turn) (sym same) ∙ turn,
            ap (λ (y : Seen). y.pc) (sym same) ∙ pc ∙ sym (first_pc set p),
            ap (λ (y : Seen). y.end.stalled) (sym same) ∙ stalled,
            ap (λ (y : Seen). y.end.hop) (sym same) ∙ hop,
          );
    }
