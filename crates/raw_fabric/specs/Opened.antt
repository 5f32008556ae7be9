-- A fabric and its passes.
use Rattle.std.specs.Prelude.{◌≡◌, ℕ, ◌+◌, ◌*◌, ◌/◌, ◌%◌, ◌<◌, ◌≤◌, Some, List, [], length, slice_get, slice_index, slice_index_or, vec_len, vec_capacity}
use Rattle.atomic_table.specs.Seated.{TableId}
use Rattle.raw_model.specs.Program.{ProgramSet, IsSet}
use Rattle.raw_processor.specs.declared.processor.Processor.{Processor}
use Rattle.raw_processor.specs.Processor.{local_of, cache_of, misses_of, owed_of}
use Rattle.raw_serial.specs.Running.{Running, IsReached}
use Rattle.raw_serial.specs.Fresh.{AreAllEnds}
use Rattle.raw_fabric_rule.specs.declared.layout.TheConstants.{SIDES}
use Rattle.raw_fabric_rule.specs.Views.{About}
use Rattle.raw_fabric_rule.specs.ByEnds.{procs, wires, wire_at, local}
use Rattle.raw_fabric_rule.specs.Word.{word_count}
use Rattle.raw_fabric_rule.specs.Opening.{share}
use Rattle.raw_fabric_step.specs.declared.post.Side.{Side}
use Rattle.raw_fabric_step.specs.declared.post.Post.{Post}
use Rattle.raw_fabric_step.specs.Posts.{IsSide, IsPost}
use Rattle.raw_fabric_step.specs.Units.{Sits, mine, first_log, IsReady}
use Rattle.raw_steps.specs.Taking.{numbers}
use Rattle.raw_fabric.specs.declared.pass.Pass.{Pass}
use Rattle.raw_fabric.specs.declared.fabric.Fabric.{Fabric}
use Rattle.raw_fabric.specs.Holding.{IsUnitOf}

-- what stands at the other side of each end of processor p that has a wire
abbrev pub AreSides : ProgramSet → ℕ → List Side → Type 0
AreSides set p sides = (end : ℕ) (none : Side) → end < SIDES → wire_at set p end < wires set → IsSide set p end (slice_index_or sides end none)

-- the same of each processor
pub record AreAllSides (set : ProgramSet) (sides : List (List Side)) : Type 0 where
  pub each : length sides ≡ procs set
  pub sides_are : (p : ℕ) (s : List Side) → slice_get sides p ≡ Some s → AreSides set p s

-- the machine that was opened
abbrev pub machine_before : About → Running
machine_before about = record { set = about.set; state = about.opened; caches = about.caches; missed = about.missed; owed = about.owed }

-- what a fabric is opened for: a machine, and so many workers
abbrev pub about_before : Running → ℕ → About
about_before m workers = record { set = m.set; opened = m.state; caches = m.caches; missed = m.missed; owed = m.owed; workers = workers }

-- what the table of a fabric was opened for
abbrev pub about_of : Fabric → About
about_of fabric = fabric.table.shared.key

abbrev pub id_of : Fabric → TableId
id_of fabric = fabric.table.shared.table_id

-- A fabric that is open: it stands for a machine that was reached, and has the memory for making a machine again.
pub record IsOpen (fabric : Fabric) : Type 0 where
  pub set_is : (about_of fabric).set ≡ fabric.set.now
  pub valid : IsSet (about_of fabric).set
  pub reached : IsReached (machine_before (about_of fabric))
  pub workers_are : (about_of fabric).workers ≡ fabric.workers
  pub some_worker : 0 < (about_of fabric).workers
  pub words_are : (id_of fabric).words ≡ word_count (about_of fabric).set
  pub no_slots : (id_of fabric).slots ≡ 0
  pub sides : AreAllSides (about_of fabric).set fabric.sides.items
  pub ends : AreAllEnds (about_of fabric).set.topo fabric.parts.ends.items
  pub processors : length fabric.parts.processors.items ≡ procs (about_of fabric).set
  pub wires : length fabric.parts.wires.items ≡ wires (about_of fabric).set
  pub logs : length fabric.logs.items ≡ (about_of fabric).workers

-- the post of a processor of the fabric, with its place in its pass
pub record IsPostOf (fabric : Fabric) (post : Post) : Type 0 where
  pub post_is : IsPost (about_of fabric) (id_of fabric).words post
  pub index_is : post.index ≡ post.p / (about_of fabric).workers

-- The pass of worker k of a fabric: it holds the processors k, k + n, k + 2 n and so on of n workers, as its view says.
pub record IsPass (about : About) (id : TableId) (k : ℕ) (pass : Pass) : Type 0 where
  pub table_is : pass.seat.table_id ≡ id
  pub no_slots : pass.seat.me.1 ≡ []
  pub worker_is : pass.log.worker ≡ k
  pub worker_in : k < about.workers
  pub workers_are : pass.workers ≡ about.workers
  pub sits : Sits about k (share (procs about.set) about.workers k) pass.seat.me.0
  pub processors_many : length pass.processors.items ≡ share (procs about.set) about.workers k
  pub statuses_many : length pass.statuses.items ≡ share (procs about.set) about.workers k
  pub units : (j : ℕ) (x : Processor) → slice_get pass.processors.items j ≡ Some x → IsUnitOf about (k + j * about.workers) x (mine pass.seat.me.0 j)
  pub statuses : (j word : ℕ) → slice_get pass.statuses.items j ≡ Some word → IsReady word (mine pass.seat.me.0 j)
  pub log_is : first_log pass.seat.me.0.parts ≡ numbers pass.log.steps.items
  pub log_room : pass.room ≤ vec_capacity pass.log.steps
  pub log_short : vec_len pass.log.steps ≤ pass.room

-- the passes of a fabric, in order of worker
pub record ArePasses (about : About) (id : TableId) (passes : List Pass) : Type 0 where
  pub many : length passes ≡ about.workers
  pub each : (k : ℕ) (pass : Pass) → slice_get passes k ≡ Some pass → IsPass about id k pass

-- processor p is one of the processors of the pass
pub record Holds (about : About) (pass : Pass) (p : ℕ) : Type 0 where
  pub there : p < procs about.set
  pub own : p % about.workers ≡ pass.log.worker

-- what stands before a call for processor p of a pass of the fabric
pub record CallStands (f : Fabric) (w : Pass) (p : ℕ) : Type 0 where
  pub fabric : IsOpen f
  pub pass : IsPass (about_of f) (id_of f) w.log.worker w
  -- the pass holds the processor
  pub holds : Holds (about_of f) w p

-- a pass that has done nothing yet holds its processors as the machine had them, and its log has room for so many steps
pub record IsFreshPass (m : Running) (n log_steps k : ℕ) (pass : Pass) : Type 0 where
  pub no_log : pass.log.steps.items ≡ []
  pub room_is : pass.room ≡ log_steps
  pub locals : (j : ℕ) (x : Processor) → slice_get pass.processors.items j ≡ Some x → local_of x ≡ local m.state (k + j * n)
  pub caches : (j : ℕ) (x : Processor) → slice_get pass.processors.items j ≡ Some x → cache_of x ≡ slice_index_or m.caches (k + j * n) []
  pub missed : (j : ℕ) (x : Processor) → slice_get pass.processors.items j ≡ Some x → misses_of x ≡ slice_index m.missed (k + j * n)
  pub owed : (j : ℕ) (x : Processor) → slice_get pass.processors.items j ≡ Some x → owed_of x ≡ slice_index m.owed (k + j * n)

-- each pass of n workers does
abbrev pub AreFreshPasses : Running → ℕ → ℕ → List Pass → Type 0
AreFreshPasses m n log_steps passes = (k : ℕ) (pass : Pass) → slice_get passes k ≡ Some pass → IsFreshPass m n log_steps k pass
