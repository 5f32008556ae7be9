-- A pass: its view has one part, and each unit of it by its place.
use Rattle.std.specs.Prelude.{◌≡◌, ◌≢◌, ℕ, ◌+◌, ◌*◌, ◌<◌, ◌≤◌, List, [], ◌∷◌, ◌++◌, length, slice_index, slice_index_or}
use Rattle.raw_fabric_rule.specs.declared.layout.TheConstants.{SIDES}
use Rattle.raw_fabric_rule.specs.Views.{About, Hold, Part, View}
use Rattle.raw_fabric_rule.specs.ByEnds.{nobody}
use Rattle.raw_fabric_rule.specs.Word.{pack}
use Rattle.raw_fabric_rule.specs.Plays.{Rises, held}

-- the view has the one part of a worker, with so many units
pub record Sits (about : About) (worker many : ℕ) (v : View) : Type 0 where
  pub part : Part
  pub alone : v.parts ≡ part ∷ []
  pub about_is : part.about ≡ about
  pub worker_is : part.worker ≡ worker
  pub long : length part.units ≡ many

abbrev pub no_hold : Hold
no_hold = record { local = nobody; touches = []; counts = []; seen = []; fetched = []; staged = [] }

abbrev pub first_units : List Part → List Hold
first_units [] = []
first_units (y ∷ ys) = y.units

abbrev pub first_log : List Part → List ℕ
first_log [] = []
first_log (y ∷ ys) = y.log

-- unit number i of a pass
unfoldable pub mine : View → ℕ → Hold
mine v i = slice_index_or (first_units v.parts) i no_hold

-- nothing is fetched and nothing is staged
pub record IsIdle (u : Hold) : Type 0 where
  pub fetched : u.fetched ≡ []
  pub staged : u.staged ≡ []

-- processor p has number i among the units of the view
pub record Placed (about : About) (v : View) (p i : ℕ) : Type 0 where
  pub worker : ℕ
  pub many : ℕ
  pub sits : Sits about worker many v
  pub within : i < many
  pub worker_in : worker < about.workers
  pub number : p ≡ worker + i * about.workers

-- loads of status words took u to z
pub record IsLooked (about : About) (p : ℕ) (u z : Hold) : Type 0 where
  pub local_same : z.local ≡ u.local
  pub touches_same : z.touches ≡ u.touches
  pub counts_same : z.counts ≡ u.counts
  pub fetched_same : z.fetched ≡ u.fetched
  pub staged_same : z.staged ≡ u.staged
  pub long : length z.seen ≡ length u.seen
  pub rises : Rises about p u z

-- from v to w the log is as before, and each unit but that of p was at most looked for
pub record Steady (about : About) (p : ℕ) (v w : View) : Type 0 where
  pub sits : (k many : ℕ) → Sits about k many v → Sits about k many w
  pub log_same : first_log w.parts ≡ first_log v.parts
  pub looks_rise : v.looks ≤ w.looks
  pub others : (q j : ℕ) → q ≢ p → Placed about v q j → IsLooked about q (mine v j) (mine w j)

-- the same, and the log has p at its end
pub record Logged (about : About) (p : ℕ) (v w : View) : Type 0 where
  pub sits : (k many : ℕ) → Sits about k many v → Sits about k many w
  pub log_more : first_log w.parts ≡ first_log v.parts ++ p ∷ []
  pub others : (q j : ℕ) → q ≢ p → Placed about v q j → IsLooked about q (mine v j) (mine w j)

-- the own status word packs the exact counts
pub record IsReady (status : ℕ) (u : Hold) : Type 0 where
  pub counted : length u.counts ≡ SIDES
  pub watched : length u.seen ≡ SIDES
  pub status_is : status ≡ pack u.counts

-- a unit with one operand more, from the place behind so many others from the same input
abbrev pub fetched_unit : Hold → ℕ → ℕ → ℕ → Hold
fetched_unit u end before value = record u { fetched = u.fetched ++ held end (slice_index u.counts end + before) value ∷ [] }

-- a unit with one word more staged for an output
abbrev pub staged_unit : Hold → ℕ → ℕ → Hold
staged_unit u end value = record u { staged = u.staged ++ held end (slice_index u.counts end) value ∷ [] }
