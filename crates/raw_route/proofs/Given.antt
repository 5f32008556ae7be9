-- The laws of the crates below that the theorem of planned sets uses.
use Rattle.std.proofs.Common.{◌≡◌, ℕ, ◌+◌, ◌*◌, ◌^◌, ◌<◌, ◌≤◌, List, [], ◌∷◌, ◌++◌, length}
use Rattle.std.specs.Prelude.{slice_index}
use Rattle.raw_codegen.specs.declared.limits.TheConstants.{WORDS_IN_REACH}
use Rattle.raw_switch_isa.specs.declared.limits.TheConstants.{MAX_SWITCH_CODE}
use Rattle.raw_tile_isa.specs.Load.{load}
use Rattle.raw_switch_isa.specs.Made as switch
use Rattle.raw_grid.specs.declared.parts.Net.{Net}
use Rattle.raw_grid.specs.Topology.{tile_count, switch_number}
use Rattle.raw_model.specs.Program.{ProgramSet, IsSet}
use Rattle.raw_model.specs.TileTable.{word_at}
use Rattle.raw_model.specs.Machine.{switch_code}
use Rattle.raw_model.specs.Start.{MachineState, Fits}
use Rattle.raw_model.specs.Laws.{ComesToRest}
use Rattle.raw_model.specs.Rest.{IsLawfulFrom, end_from}
use Rattle.raw_codegen.specs.Parts.{Part, switch_part}
use Rattle.raw_codegen.specs.Straight.{Core, IsCore, core_with, nothing, only, Does, IsSender, IsTaker, Runs}
use Rattle.raw_codegen.specs.Standing.{IsScript}
use Rattle.raw_codegen.specs.Laws.{PartsGive, StartsWithNone, StartsIdle, EachSendRuns, EachTakeRuns, EachHalts}
use Rattle.raw_codegen.specs.Rows.{register_of, IsKeeping, send_ins, store_ins, written, with_word}

-- the laws by which the parts of a tree run
pub record TreeLaws : Type 0 where
  pub end_fits : (set : ProgramSet) (s : MachineState) (h : List ℕ) → IsSet set → Fits set s → IsLawfulFrom set s h → Fits set (end_from set s h)
  pub parts : PartsGive
  pub switch_is : (set : ProgramSet) (all : List Part) → IsScript set all → (t : ℕ) → t < tile_count set.topo → switch_code set (switch_number set.topo t) ≡ switch_part t all ++ switch.halt ∷ []
  pub few_switch : (set : ProgramSet) (all : List Part) → IsScript set all → (t : ℕ) → t < tile_count set.topo → length (switch_code set (switch_number set.topo t)) ≤ MAX_SWITCH_CODE

pub record Laws : Type 0 where
  pub tree : TreeLaws
  pub same_rest : (set : ProgramSet) (s : MachineState) (h g : List ℕ) → IsSet set → ComesToRest set s h → ComesToRest set s g → end_from set s g ≡ end_from set s h
  pub start : StartsWithNone
  pub start_idle : StartsIdle
  pub send : EachSendRuns
  pub take : EachTakeRuns
  pub halts : EachHalts
  pub li : (r w : ℕ) (a : Core) → IsKeeping r → IsCore a → w < 2 ^ 32 → Runs (load r w) a (written a r w)
  pub sends : (net : Net) (r x : ℕ) (a : Core) → IsKeeping r → IsCore a → x < 2 ^ 32 → slice_index a.regs r ≡ x → Does (send_ins net r) [] a a (only net x)
  pub sender : (net : Net) (r : ℕ) → IsKeeping r → IsSender net (send_ins net r)
  pub store_take : (net : Net) (v x : ℕ) (a : Core) → IsCore a → v < WORDS_IN_REACH → Does (store_ins (register_of net) v) (x ∷ []) a (core_with a.regs (with_word a.memory v x)) nothing
  pub store_taker : (net : Net) (v : ℕ) → IsTaker net (store_ins (register_of net) v)
  pub there : (memory : List ℕ) (v x : ℕ) → 4 * v + 4 ≤ length memory → x < 2 ^ 32 → word_at (with_word memory v x) (4 * v) ≡ x
  pub elsewhere : (memory : List ℕ) (v x u : ℕ) → (u ≡ v → ⊥) → word_at (with_word memory v x) (4 * u) ≡ word_at memory (4 * u)
