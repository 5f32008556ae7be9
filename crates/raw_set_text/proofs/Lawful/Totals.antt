-- The totals, the depth and the shown words of a lawful text.
use Rattle.std.proofs.Common.{◌≡◌, ℕ, ◌+◌, ◌*◌, ◌<◌, ◌≤◌, List, length, Some, refl, ◌∙◌, subst, arith, sum_by, mul_comm, mul-le-mul_right}
use Rattle.std.specs.List.{All}
use Rattle.std.proofs.lemmas.Bool.{or_parts, ltb-false}
use Rattle.std.proofs.lemmas.Option.{none-some, same_Some}
use Rattle.std.proofs.lemmas.List.Sums.{sum_by_push}
use Rattle.raw_model.specs.declared.limits.TheConstants.{MAX_DEPTH, MAX_ALL_CODE, MAX_ALL_SWITCH_CODE, MAX_ALL_CELLS, MAX_ALL_MISSES, MAX_ALL_WORDS, MAX_ALL_CAPACITIES, MAX_SHOWS, MAX_ALL_SHOWN, DEFAULT_DEPTH}
use Rattle.raw_model.specs.declared.program.Show.{Show as Shown}
use Rattle.raw_model.specs.Program.{IsShow}
use Rattle.raw_set_text.specs.declared.declaration.Position.{Position}
use Rattle.raw_set_text.specs.Entry.{Entry}
use Rattle.raw_set_text.specs.Entry.Entry.{Grid, Limit, Depth, Port, Feed, Data, Misses, Show, Tile, Switch}
use Rattle.raw_set_text.specs.Entries.{first_or, depth_in, depths_of, show_in, shows_of, topology_of}
use Rattle.raw_set_text.specs.Faults.{capacity_in, fed_in, cells_in, turns_in, shows_in, shown_in, instructions_in, routed_in}
use Rattle.raw_set_text.proofs.Lawful.Lists.{all_filter_map, first_holds, sum_same, size_or, sum_filter_map, length_sum}
use Rattle.raw_set_text.proofs.Lawful.Entries.{Passes, whole, Good, start, more, IsOn, Plain, all_plain}

-- an entry that passes keeps its total within this most
abbrev Keeps : (Entry → ℕ) → ℕ → Type 0
Keeps adds most = (front : List Entry) (entry : Entry) → Passes front entry → sum_by adds front ≤ most → sum_by adds front + adds entry ≤ most

-- so do all of them
total_within : (adds : Entry → ℕ) (most columns rows limit : ℕ) → Keeps adds most → adds (Grid columns rows) ≡ 0 → adds (Limit limit) ≡ 0 → (rest : List Entry) → Good columns rows limit rest
    → sum_by adds (whole columns rows limit rest) ≤ most
total_within adds most columns rows limit keeps first second _ start = omega (arith, first, second)
total_within adds most columns rows limit keeps first second _ (more front entry good h) =
    let before = total_within adds most columns rows limit keeps first second front good in
    omega (arith, sum_by_push adds (whole columns rows limit front) entry, keeps (whole columns rows limit front) entry h.passes before)

capacity_keeps : Keeps capacity_in MAX_ALL_CAPACITIES
capacity_keeps front (Port place capacity) p before = ltb-false MAX_ALL_CAPACITIES _ (or_parts _ _ p.within).1
capacity_keeps front entry p before = omega (arith, before)

fed_keeps : Keeps fed_in MAX_ALL_WORDS
fed_keeps front (Feed place words) p before = ltb-false MAX_ALL_WORDS _ p.within
fed_keeps front entry p before = omega (arith, before)

cells_keeps : Keeps cells_in MAX_ALL_CELLS
cells_keeps front (Data tile address words) p before = ltb-false MAX_ALL_CELLS _ (or_parts _ _ p.within).1
cells_keeps front entry p before = omega (arith, before)

turns_keeps : Keeps turns_in MAX_ALL_MISSES
turns_keeps front (Misses tile turns) p before = ltb-false MAX_ALL_MISSES _ (or_parts _ _ p.within).1
turns_keeps front entry p before = omega (arith, before)

shows_keeps : Keeps shows_in MAX_SHOWS
shows_keeps front (Show tile address words) p before = ltb-false MAX_SHOWS _ (or_parts _ _ (or_parts _ _ p.within).0).1
shows_keeps front entry p before = omega (arith, before)

shown_keeps : Keeps shown_in MAX_ALL_SHOWN
shown_keeps front (Show tile address words) p before = ltb-false MAX_ALL_SHOWN _ (or_parts _ _ p.within).1
shown_keeps front entry p before = omega (arith, before)

instructions_keep : Keeps instructions_in MAX_ALL_CODE
instructions_keep front (Tile tile code) p before = ltb-false MAX_ALL_CODE _ p.within
instructions_keep front entry p before = omega (arith, before)

routed_keep : Keeps routed_in MAX_ALL_SWITCH_CODE
routed_keep front (Switch tile code) p before = ltb-false MAX_ALL_SWITCH_CODE _ p.within
routed_keep front entry p before = omega (arith, before)

-- the totals of entries are within their limits
pub record AreFew (entries : List Entry) : Type 0 where
  pub capacity : sum_by capacity_in entries ≤ MAX_ALL_CAPACITIES
  pub fed : sum_by fed_in entries ≤ MAX_ALL_WORDS
  pub cells : sum_by cells_in entries ≤ MAX_ALL_CELLS
  pub turns : sum_by turns_in entries ≤ MAX_ALL_MISSES
  pub shows : sum_by shows_in entries ≤ MAX_SHOWS
  pub shown : sum_by shown_in entries ≤ MAX_ALL_SHOWN
  pub instructions : sum_by instructions_in entries ≤ MAX_ALL_CODE
  pub routed : sum_by routed_in entries ≤ MAX_ALL_SWITCH_CODE

pub all_few : (columns rows limit : ℕ) (rest : List Entry) → Good columns rows limit rest → AreFew (whole columns rows limit rest)
all_few columns rows limit rest good = record {
  capacity = total_within capacity_in MAX_ALL_CAPACITIES columns rows limit capacity_keeps refl refl rest good;
  fed = total_within fed_in MAX_ALL_WORDS columns rows limit fed_keeps refl refl rest good;
  cells = total_within cells_in MAX_ALL_CELLS columns rows limit cells_keeps refl refl rest good;
  turns = total_within turns_in MAX_ALL_MISSES columns rows limit turns_keeps refl refl rest good;
  shows = total_within shows_in MAX_SHOWS columns rows limit shows_keeps refl refl rest good;
  shown = total_within shown_in MAX_ALL_SHOWN columns rows limit shown_keeps refl refl rest good;
  instructions = total_within instructions_in MAX_ALL_CODE columns rows limit instructions_keep refl refl rest good;
  routed = total_within routed_in MAX_ALL_SWITCH_CODE columns rows limit routed_keep refl refl rest good;
}

-- a depth is 1 to 7
abbrev pub IsDepth : ℕ → Type 0
IsDepth n = (1 ≤ n) × (n ≤ MAX_DEPTH)

depth_each : (columns rows : ℕ) (entry : Entry) (n : ℕ) → Plain columns rows entry → depth_in entry ≡ Some n → IsDepth n
depth_each columns rows (Depth m) n h e = subst IsDepth (same_Some m n e) h
depth_each columns rows entry n h e = absurd (none-some n e)

pub lawful_depth : (columns rows : ℕ) (entries : List Entry) → All (Plain columns rows) entries → IsDepth (first_or DEFAULT_DEPTH (depths_of entries))
lawful_depth columns rows entries all = first_holds IsDepth 4 (depths_of entries) (omega arith, omega arith) (all_filter_map (Plain columns rows) IsDepth depth_in (depth_each columns rows) entries all)

-- the number of a tile that is on the grid
pub number_below : (columns rows : ℕ) (tile : Position) → IsOn columns rows tile → tile.y * columns + tile.x < columns * rows
number_below columns rows tile on =
    let below : tile.y + 1 ≤ rows = omega (arith, on.row) in
    let product : (tile.y + 1) * columns ≤ rows * columns = mul-le-mul_right columns below in
    omega (arith, product, on.column, mul_comm rows columns)

show_each : (columns rows limit : ℕ) (rest : List Entry) (entry : Entry) (show : Shown) → Plain columns rows entry → show_in columns entry ≡ Some show → IsShow (topology_of (whole columns rows limit rest)) show
unfolding topology_of
show_each columns rows limit rest (Show tile address words) show h e =
    subst (IsShow (topology_of (whole columns rows limit rest))) (same_Some _ show e) (record { tile = number_below columns rows tile h.0; aligned = h.1; some = h.2; inside = h.3 })
show_each columns rows limit rest entry show h e = absurd (none-some show e)

pub lawful_shows : (columns rows limit : ℕ) (rest : List Entry) → Good columns rows limit rest → All (IsShow (topology_of (whole columns rows limit rest))) (shows_of (whole columns rows limit rest))
lawful_shows columns rows limit rest good =
    all_filter_map (Plain columns rows) (IsShow (topology_of (whole columns rows limit rest))) (show_in columns) (show_each columns rows limit rest) (whole columns rows limit rest) (all_plain columns rows limit rest good)

shows_size : (columns : ℕ) (x : Entry) → size_or (λ (show : Shown). 1) (show_in columns x) ≡ shows_in x
shows_size columns (Show tile address words) = refl
shows_size columns x = refl

shown_size : (columns : ℕ) (x : Entry) → size_or (λ (show : Shown). show.words) (show_in columns x) ≡ shown_in x
shown_size columns (Show tile address words) = refl
shown_size columns x = refl

pub shows_total : (columns rows limit : ℕ) (rest : List Entry) → length (shows_of (whole columns rows limit rest)) ≡ sum_by shows_in (whole columns rows limit rest)
shows_total columns rows limit rest =
    length_sum (shows_of (whole columns rows limit rest))
    ∙ sum_filter_map (λ (show : Shown). 1) (show_in columns) (whole columns rows limit rest)
    ∙ sum_same (λ x. size_or (λ (show : Shown). 1) (show_in columns x)) shows_in (shows_size columns) (whole columns rows limit rest)

pub shown_total : (columns rows limit : ℕ) (rest : List Entry) → sum_by (λ (show : Shown). show.words) (shows_of (whole columns rows limit rest)) ≡ sum_by shown_in (whole columns rows limit rest)
shown_total columns rows limit rest =
    sum_filter_map (λ (show : Shown). show.words) (show_in columns) (whole columns rows limit rest)
    ∙ sum_same (λ x. size_or (λ (show : Shown). show.words) (show_in columns x)) shown_in (shown_size columns) (whole columns rows limit rest)
