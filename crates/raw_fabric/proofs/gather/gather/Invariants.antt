use Rattle.std.proofs.Common.{◌≡◌, ℕ, ◌<◌, Some}
use Rattle.std.specs.Prelude.{slice_get, vec_len}
use Rattle.raw_fabric.specs.declared.pass.Pass.{Pass}
use Rattle.raw_fabric.specs.Closed.{AreGathered}
use Rattle.raw_fabric.proofs.Gathered.{KeptFrom}
use Rattle.raw_fabric.proofs.gather.gather.Given as goal

abbrev pub invariant-loop-pass : goal.invariant-loop-pass
invariant-loop-pass l = record {
  few : vec_len l.passes < l.words.key.workers;
  passes : (k : ℕ) (pass : Pass) → slice_get l.passes.items k ≡ Some pass → slice_get l.fn.passes.items k ≡ Some pass;
  gathered : AreGathered l.words.key (vec_len l.passes) l.keeper.me.0 l.processors l.logs;
  kept : KeptFrom l.words.key.workers (vec_len l.passes) l.fn.passes.items l.processors l.logs;
  seat_table : l.keeper.table_id ≡ l.words.table_id;
}

abbrev pub decreases-loop-pass : goal.decreases-loop-pass
decreases-loop-pass l = vec_len l.passes
