-- What each step at the table does to the view of its seat.
use Rattle.std.specs.Prelude.{◌≡◌, ℕ, suc, ◌+◌, ◌-◌, ◌*◌, ◌/◌, ◌%◌, ◌^◌, ◌<◌, ◌≤◌, ◌==◌, nat_lt, List, [], ◌∷◌, ◌++◌, map, length, take, drop, slice_index, slice_set, if◌then◌else◌}
use mathlib.Core.Option.{some}
use Rattle.std.specs.List.{All}
use lib.ListN.{get_elem?}
use Rattle.atomic_table.specs.Table.{Me, Step}
use Rattle.raw_model.specs.Program.{ProgramSet}
use Rattle.raw_fabric_rule.specs.declared.layout.TheConstants.{STRIDE, PLACES, END_COUNT}
use Rattle.raw_fabric_rule.specs.Views.{About, Held, Hold, Part, View}
use Rattle.raw_fabric_rule.specs.ByEnds.{procs, wires, producer, producer_end, consumer, consumer_end, wire_at, local, wire, needs, fills, next_local, touched_by}
use Rattle.raw_fabric_rule.specs.Word.{field, status_at}
use Rattle.raw_fabric_rule.specs.Rule.{HasStood}

-- f at each unit of a part, where the first is of processor p and each next of the processor n further on
abbrev pub touched : (ℕ → Hold → Hold) → ℕ → ℕ → List Hold → List Hold
touched f p n [] = []
touched f p n (u ∷ us) = f p u ∷ touched f (p + n) n us

abbrev pub touch_part : (About → ℕ → Hold → Hold) → Part → Part
touch_part f y = record y { units = touched (f y.about) y.worker y.about.workers y.units }

abbrev pub touch : (About → ℕ → Hold → Hold) → View → View
touch f v = record v { parts = map (touch_part f) v.parts }

-- ---- a load of the status word of processor q, which was x
-- the processor at the other side of an end
abbrev pub other_side : ProgramSet → ℕ → ℕ → ℕ
other_side set p end = if nat_lt end END_COUNT then producer set (wire_at set p end) else consumer set (wire_at set p end)

-- the count of the other side of an end, where the own count is c
abbrev pub newest : ProgramSet → ℕ → ℕ → ℕ → ℕ → ℕ
newest set p x end c =
    if nat_lt end END_COUNT then c + (field (producer_end set (wire_at set p end)) x + PLACES - c % PLACES) % PLACES
    else c - (c % PLACES + PLACES - field (consumer_end set (wire_at set p end)) x) % PLACES

-- the counts seen at the ends from this one on: new at those that lead to q, and as before at the others
abbrev pub seen_from : ProgramSet → ℕ → ℕ → ℕ → List ℕ → ℕ → List ℕ → List ℕ
seen_from set p q x counts end [] = []
seen_from set p q x counts end (old ∷ olds) =
    (if other_side set p end == q then newest set p x end (slice_index counts end) else old) ∷ seen_from set p q x counts (suc end) olds

abbrev pub see : ℕ → ℕ → About → ℕ → Hold → Hold
see q x about p u = record u { seen = seen_from about.set p q x u.counts 0 u.seen }

unfoldable pub looked : ℕ → ℕ → View → View
looked q x v = record (touch (see q x) v) { looks = suc v.looks; look_at = q; look_word = x }

-- ---- a load of data word k of wire w, which was x
abbrev pub held : ℕ → ℕ → ℕ → Held
held end place value = record { end = end; place = place; value = value }

-- the least place from c on that stands in word k
abbrev pub place_from : ℕ → ℕ → ℕ
place_from c k = c + (k + PLACES - c % PLACES) % PLACES

abbrev pub fetch : ℕ → ℕ → ℕ → About → ℕ → Hold → Hold
fetch w k x about p u =
    if consumer about.set w == p then record u { fetched = u.fetched ++ held (consumer_end about.set w) (place_from (slice_index u.counts (consumer_end about.set w)) k) x ∷ [] }
    else u

-- the same at word i of the table
abbrev pub fetch_at : ℕ → ℕ → About → ℕ → Hold → Hold
fetch_at i x about = fetch (i / STRIDE - procs about.set) (i % STRIDE) x about

unfoldable pub fetched : ℕ → ℕ → View → View
fetched i x v = touch (fetch_at i x) v

-- ---- a store of x to a data word of wire w
abbrev pub stage : ℕ → ℕ → About → ℕ → Hold → Hold
stage w x about p u =
    if producer about.set w == p then record u { staged = u.staged ++ held (producer_end about.set w) (slice_index u.counts (producer_end about.set w)) x ∷ [] }
    else u

-- the same at word i of the table
abbrev pub stage_at : ℕ → ℕ → About → ℕ → Hold → Hold
stage_at i x about = stage (i / STRIDE - procs about.set) x about

unfoldable pub staged : ℕ → ℕ → View → View
staged i x v = touch (stage_at i x) v

-- ---- a store of the status word of processor p
-- the counts with one more at each of these ends
abbrev pub bumped : List ℕ → List ℕ → List ℕ
bumped [] counts = counts
bumped (end ∷ ends) counts = bumped ends (slice_set counts end (suc (slice_index counts end)))

abbrev pub held_value : Held → ℕ
held_value f = f.value

-- the values that are fetched
abbrev pub values_of : Hold → List ℕ
values_of u = map held_value u.fetched

-- the counts after the next row of p with these operands
abbrev pub counts_with : ProgramSet → ℕ → Hold → List ℕ → List ℕ
counts_with set p u values = bumped (fills set p u.local values) (bumped (needs set p u.local) u.counts)

abbrev pub counts_after : ProgramSet → ℕ → Hold → List ℕ
counts_after set p u = counts_with set p u (values_of u)

-- the unit of p after its next row with these operands
abbrev pub fired_unit : ProgramSet → ℕ → Hold → List ℕ → Hold
fired_unit set p u values =
    record {
      local = next_local set p u.local values;
      touches = u.touches ++ touched_by set p u.local values ∷ [];
      counts = counts_with set p u values;
      seen = u.seen;
      fetched = [];
      staged = [];
    }

abbrev pub fire : ℕ → About → ℕ → Hold → Hold
fire p about q u = if q == p then fired_unit about.set p u (values_of u) else u

abbrev pub log_after : ℕ → Part → List ℕ
log_after p y = if p % y.about.workers == y.worker then y.log ++ p ∷ [] else y.log

abbrev pub fire_part : ℕ → Part → Part
fire_part p y = record (touch_part (fire p) y) { log = log_after p y }

unfoldable pub fired : ℕ → View → View
fired p v = record v { parts = map (fire_part p) v.parts }

-- ---- a seat that is split off takes the first part, and one that is joined gives all its parts
unfoldable pub rest_of : View → View
rest_of v = record v { parts = drop 1 v.parts }

unfoldable pub first_of : View → View
first_of v = record { parts = take 1 v.parts; looks = 0; look_at = 0; look_word = 0 }

unfoldable pub both_of : View → View → View
both_of v w = record v { parts = v.parts ++ w.parts }

-- the unit u of processor p stands in the view
pub record HasHold (v : View) (p : ℕ) (u : Hold) : Type 0 where
  pub part : Part
  pub at : ℕ
  pub index : ℕ
  pub part_at : get_elem? v.parts at ≡ some part
  pub unit_at : get_elem? part.units index ≡ some u
  pub number : p ≡ part.worker + index * part.about.workers

-- no seen count of p falls
pub record Rises (about : About) (p : ℕ) (u z : Hold) : Type 0 where
  pub sent : (w : ℕ) → w < wires about.set → consumer about.set w ≡ p → slice_index u.seen (consumer_end about.set w) ≤ slice_index z.seen (consumer_end about.set w)
  pub taken : (w : ℕ) → w < wires about.set → producer about.set w ≡ p → slice_index u.seen (producer_end about.set w) ≤ slice_index z.seen (producer_end about.set w)

-- where the view holds both ends of a wire, the count that p has now seen of q's end is q's exact count
pub record BothEnds (about : About) (v : View) (p q : ℕ) (z : Hold) : Type 0 where
  pub sent : (w : ℕ) (o : Hold) → w < wires about.set → consumer about.set w ≡ p → producer about.set w ≡ q → HasHold v q o →
      slice_index z.seen (consumer_end about.set w) ≡ slice_index o.counts (producer_end about.set w)
  pub taken : (w : ℕ) (o : Hold) → w < wires about.set → producer about.set w ≡ p → consumer about.set w ≡ q → HasHold v q o →
      slice_index z.seen (producer_end about.set w) ≡ slice_index o.counts (consumer_end about.set w)

-- modulo PLACES the count that p has now seen of q's end is the one in the word x
pub record SeesWord (about : About) (p q x : ℕ) (z : Hold) : Type 0 where
  pub sent : (w : ℕ) → w < wires about.set → consumer about.set w ≡ p → producer about.set w ≡ q →
      slice_index z.seen (consumer_end about.set w) % PLACES ≡ field (producer_end about.set w) x
  pub taken : (w : ℕ) → w < wires about.set → producer about.set w ≡ p → consumer about.set w ≡ q →
      slice_index z.seen (producer_end about.set w) % PLACES ≡ field (consumer_end about.set w) x

-- A state of the machine that stood with the view at a look at q: p was in its local state there, and each wire between the two held as
-- many values as lie between p's own count and the count that it has now seen of q's end.
pub record StoodThen (about : About) (v : View) (p q : ℕ) (u z : Hold) : Type 0 where
  pub stood : HasStood about v
  pub local_is : local stood.state p ≡ u.local
  pub sent : (w : ℕ) → w < wires about.set → consumer about.set w ≡ p → producer about.set w ≡ q →
      slice_index z.seen (consumer_end about.set w) ≡ slice_index u.counts (consumer_end about.set w) + length (wire stood.state w)
  pub taken : (w : ℕ) → w < wires about.set → producer about.set w ≡ p → consumer about.set w ≡ q →
      slice_index u.counts (producer_end about.set w) ≡ slice_index z.seen (producer_end about.set w) + length (wire stood.state w)

-- what a load of the status word of q, which was x, tells of the unit u of p, which is then z
pub record LookTells (about : About) (v : View) (p q x : ℕ) (u z : Hold) : Type 0 where
  pub rises : Rises about p u z
  pub both : BothEnds about v p q z
  pub word : SeesWord about p q x z
  pub stood : StoodThen about v p q u z

-- ---- what each step tells
module _ {S : Type 0} where
  abbrev pub Looked : Step S → Me S View → ℕ → Me S View → Type 0
  Looked st me x me' = (q : ℕ) → st.word ≡ status_at q →
      (me' ≡ (looked q x me.0, me.1)) × ((p : ℕ) (u : Hold) (h : HasHold me.0 p u) → LookTells h.part.about me.0 p q x u (see q x h.part.about p u))

  abbrev pub Fetched : Step S → Me S View → ℕ → Me S View → Type 0
  Fetched st me x me' = (me' ≡ (fetched st.word x me.0, me.1)) × (x < 2 ^ 32)

  abbrev pub Staged : Step S → Me S View → ℕ → Me S View → Type 0
  Staged st me x me' = me' ≡ (staged st.word x me.0, me.1)

  abbrev pub Fired : Step S → Me S View → ℕ → Me S View → Type 0
  Fired st me x me' = (p : ℕ) → st.word ≡ status_at p →
      (me' ≡ (fired p me.0, me.1)) × ((u : Hold) → HasHold me.0 p u → All (λ value. value < 2 ^ 32) (values_of u)) × ((u : Hold) (h : HasHold me.0 p u) → HasStood h.part.about me.0)
