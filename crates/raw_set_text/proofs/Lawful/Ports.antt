-- The grid and the ports of a lawful text.
use Rattle.std.proofs.Common.{◌≡◌, ◌≢◌, ℕ, zero, suc, ◌<◌, ◌≤◌, true, false, cond, List, [], ◌∷◌, ◌++◌, length, get_or, Some, None, refl, sym, ap, ◌∙◌, subst, arith, ⊎_elim, sum_by}
use Rattle.std.specs.Prelude.{IsNone}
use Rattle.std.specs.List.{All, AllPairs, Contains, filter_map, list_any}
use Rattle.std.proofs.lemmas.Bool.{cases_Bool, both_ways}
use Rattle.std.proofs.lemmas.Option.{none-some, same_Some}
use Rattle.std.proofs.lemmas.List.{append-nil, get_or_default}
use Rattle.std.proofs.lemmas.List.Concat.{length-flat_map}
use Rattle.std.proofs.lemmas.List.Elements.{All-nil, All-push, All-weaker, All-head, All-tail, filter_map-append}
use Rattle.std.proofs.lemmas.List.Folds.{list_any_at}
use Rattle.std.proofs.lemmas.List.Quantifiers.{all_pairs_push}
use Rattle.raw_grid.specs.declared.parts.PortKind.{PortKind}
use Rattle.raw_grid.specs.declared.parts.PortKind.TheVariants as kind
use Rattle.raw_grid.specs.declared.parts.PortPlace.{PortPlace}
use Rattle.raw_grid.specs.Topology.{Topology, IsSize, IsAtEdge, IsTopology, neighbour}
use Rattle.raw_model.specs.Program.{PortProgram, IsPortProgram, IsOfKind, AreOfKinds}
use Rattle.raw_set_text.specs.Entry.{Entry, same_place}
use Rattle.raw_set_text.specs.Entry.Entry.{Port, Feed}
use Rattle.raw_set_text.specs.Entries.{place_in, words_in, port_in, places_of, words_of, ports_of, topology_of}
use Rattle.raw_set_text.specs.Faults.{capacity_in, fed_in}
use Rattle.raw_set_text.proofs.Places.{places_equal, place_itself}
use Rattle.raw_set_text.proofs.Lawful.Lists.{all_if, length_if, all_filter_map, all_flat_map, sum_same, sum_none, sum_swap, sum_le, size_or, sum_filter_map, same_once}
use Rattle.raw_set_text.proofs.Lawful.Entries.{IsWord, Passes, whole, Good, start, more, Plain, inside_parts}

-- a place that no port has is not among the places
pub is_free : (places : List PortPlace) (place : PortPlace) → list_any (same_place place) places ≡ false → Contains places place → ⊥
is_free places place e h =
    let same : same_place place (get_or places h.0 place) ≡ true = ap (same_place place) h.2 ∙ place_itself place in
    both_ways _ e (list_any_at (same_place place) places h.0 place h.1 same)

-- a grid with these ports
abbrev pub grid_with : ℕ → ℕ → List PortPlace → Topology
grid_with columns rows places = record { cols = columns; rows = rows; places = places }

one_port_more : (columns rows : ℕ) (places : List PortPlace) (place : PortPlace) → IsTopology (grid_with columns rows places) → place.x < columns → place.y < rows → IsNone (neighbour (grid_with columns rows places) place.x place.y place.side)
    → (Contains places place → ⊥) → IsTopology (grid_with columns rows (places ++ place ∷ []))
one_port_more columns rows places place h column row edge free =
    let before = grid_with columns rows places in
    let after = grid_with columns rows (places ++ place ∷ []) in
    record {
      size = h.size;
      at_edges = All-push (IsAtEdge after) places place
          (All-weaker (IsAtEdge before) (IsAtEdge after) (λ p at. record { column = at.column; row = at.row; edge = at.edge }) places h.at_edges)
          (record { column = column; row = row; edge = edge });
      distinct = all_pairs_push (λ a b. a ≢ b) places place h.distinct (λ k d l e. free (k, l, get_or_default places k place d l ∙ e));
    }

-- an entry that declares no port
pub places_kept : (front : List Entry) (entry : Entry) → place_in entry ≡ None → places_of (front ++ entry ∷ []) ≡ places_of front
places_kept front entry e = filter_map-append place_in front (entry ∷ []) ∙ rw e (append-nil (places_of front))

topology_kept : (columns rows limit : ℕ) (front : List Entry) (entry : Entry) → place_in entry ≡ None → IsTopology (topology_of (whole columns rows limit front)) → IsTopology (topology_of (whole columns rows limit (front ++ entry ∷ [])))
unfolding topology_of
topology_kept columns rows limit front entry e h = subst (λ ps. IsTopology (grid_with columns rows ps)) (sym (places_kept front entry e)) h

topology_step : (columns rows limit : ℕ) (front : List Entry) (entry : Entry) → IsTopology (topology_of (whole columns rows limit front)) → Passes (whole columns rows limit front) entry
    → IsTopology (topology_of (whole columns rows limit (front ++ entry ∷ [])))
unfolding topology_of
topology_step columns rows limit front (Port place capacity) h p =
    let on = inside_parts columns rows (record { x = place.x; y = place.y }) p.on_grid in
    subst (λ ps. IsTopology (grid_with columns rows ps)) (sym (filter_map-append place_in front (Port place capacity ∷ [])))
    (one_port_more columns rows (places_of front) place h on.column on.row p.at_edge (is_free (places_of front) place p.new_port))
topology_step columns rows limit front entry h p = topology_kept columns rows limit front entry refl h

-- the grid is lawful, and so are the places of its ports
pub lawful_topology : (columns rows limit : ℕ) (rest : List Entry) → IsSize columns rows → Good columns rows limit rest → IsTopology (topology_of (whole columns rows limit rest))
unfolding topology_of
lawful_topology columns rows limit _ size start = record { size = size; at_edges = All-nil (IsAtEdge (grid_with columns rows [])); distinct = λ i j d l m. absurd (omega arith) }
lawful_topology columns rows limit _ size (more front entry good h) = topology_step columns rows limit front entry (lawful_topology columns rows limit front size good) h.passes

ports_count : (entries xs : List Entry) → length (filter_map (port_in entries) xs) ≡ length (filter_map place_in xs)
ports_count entries [] = refl
ports_count entries (Port place capacity ∷ xs) = ap suc (ports_count entries xs)
ports_count entries (x ∷ xs) = ports_count entries xs

-- each port is given something
pub each_port : (entries : List Entry) → length (ports_of entries) ≡ length (topology_of entries).places
unfolding ports_of topology_of
each_port entries = ports_count entries entries

words_each : (columns rows : ℕ) (place : PortPlace) (entry : Entry) → Plain columns rows entry → All IsWord (words_in place entry)
words_each columns rows place (Feed source words) h = all_if IsWord (same_place place source) words h.1
words_each columns rows place entry h = All-nil IsWord

program_of : (columns rows : ℕ) (entries : List Entry) → All (Plain columns rows) entries → (entry : Entry) (port : PortProgram) → Plain columns rows entry → port_in entries entry ≡ Some port → IsPortProgram port
program_of columns rows entries all (Port place capacity) port h e =
    subst IsPortProgram (same_Some _ port e) (record { words = all_flat_map (Plain columns rows) IsWord (words_in place) (words_each columns rows place) entries all; capacity = h.0 })
program_of columns rows entries all entry port h e = absurd (none-some port e)

-- what it is given is words of 32 bits and a capacity within its limit
pub port_programs : (columns rows : ℕ) (entries : List Entry) → All (Plain columns rows) entries → All IsPortProgram (ports_of entries)
unfolding ports_of
port_programs columns rows entries all = all_filter_map (Plain columns rows) IsPortProgram (port_in entries) (program_of columns rows entries all) entries all

nil_from_none : {Y : Type 0} (ys : List Y) → All (λ (y : Y). ⊥) ys → length ys ≡ 0
nil_from_none [] h = refl
nil_from_none (y ∷ ys) h = absurd (h 0 y (omega arith))

none_fed : (columns rows : ℕ) (place : PortPlace) → place.kind ≡ kind.Sink → (entry : Entry) → Plain columns rows entry → All (λ (w : ℕ). ⊥) (words_in place entry)
none_fed columns rows place is (Feed source words) h =
    ⊎_elim
    (λ (yes : same_place place source ≡ true). let same = ap (λ (p : PortPlace). p.kind) (places_equal place source yes) in absurd (cc (same, is, h.0)))
    (λ (no : same_place place source ≡ false). rw no (All-nil (λ (w : ℕ). ⊥)))
    (cases_Bool (same_place place source))
none_fed columns rows place is entry h = All-nil (λ (w : ℕ). ⊥)

of_kind : (columns rows : ℕ) (entries : List Entry) → All (Plain columns rows) entries → (place : PortPlace) (capacity : ℕ) (k : PortKind) → place.kind ≡ k → (k ≡ kind.Source → capacity ≡ 0)
    → IsOfKind k (record { words = words_of entries place; capacity = capacity })
of_kind columns rows entries all place capacity kind.Source is none = none refl
of_kind columns rows entries all place capacity kind.Sink is none =
    nil_from_none (words_of entries place) (all_flat_map (Plain columns rows) (λ (w : ℕ). ⊥) (words_in place) (none_fed columns rows place is) entries all)

kinds_of : (columns rows : ℕ) (entries : List Entry) → All (Plain columns rows) entries → (xs : List Entry) → All (Plain columns rows) xs → AreOfKinds (filter_map place_in xs) (filter_map (port_in entries) xs)
kinds_of columns rows entries all [] h i place port e f = absurd (none-some place e)
kinds_of columns rows entries all (Port at capacity ∷ xs) h zero place port e f =
    let plain = All-head (Plain columns rows) (Port at capacity) xs h in
    let here : IsOfKind at.kind (record { words = words_of entries at; capacity = capacity }) = of_kind columns rows entries all at capacity at.kind refl plain.1 in
    subst (λ (p : PortPlace). IsOfKind p.kind port) (same_Some at place e) (subst (IsOfKind at.kind) (same_Some _ port f) here)
kinds_of columns rows entries all (Port at capacity ∷ xs) h (suc i) place port e f = kinds_of columns rows entries all xs (All-tail (Plain columns rows) (Port at capacity) xs h) i place port e f
kinds_of columns rows entries all (x ∷ xs) h i place port e f = kinds_of columns rows entries all xs (All-tail (Plain columns rows) x xs h) i place port e f

-- a source has no capacity, and a sink no words
pub port_kinds : (columns rows : ℕ) (entries : List Entry) → All (Plain columns rows) entries → AreOfKinds (topology_of entries).places (ports_of entries)
unfolding topology_of ports_of
port_kinds columns rows entries all = kinds_of columns rows entries all entries all

fed_once : (places : List PortPlace) → AllPairs (λ a b. a ≢ b) places → (entry : Entry) → sum_by (λ place. length (words_in place entry)) places ≤ fed_in entry
fed_once places apart (Feed source words) =
    let equal = sum_same (λ place. length (words_in place (Feed source words))) (λ place. cond (same_place place source) (length words) 0) (λ place. length_if (same_place place source) words) places in
    let once = same_once (λ place. same_place place source) (length words) (λ y z p q. places_equal y source p ∙ sym (places_equal z source q)) places apart in
    omega (arith, equal, once)
fed_once places apart entry = omega (arith, sum_none places)

words_size : (entries : List Entry) (x : Entry) → size_or (λ (port : PortProgram). length port.words) (port_in entries x) ≡ size_or (λ place. length (words_of entries place)) (place_in x)
words_size entries (Port place capacity) = refl
words_size entries x = refl

-- the words of all ports are words that entries feed
pub words_total : (columns rows : ℕ) (entries : List Entry) → All (Plain columns rows) entries → IsTopology (topology_of entries) → sum_by (λ (port : PortProgram). length port.words) (ports_of entries) ≤ sum_by fed_in entries
unfolding topology_of ports_of
words_total columns rows entries all topology =
    let places = places_of entries in
    let size : PortPlace → ℕ = λ place. length (words_of entries place) in
    let by_entry = sum_filter_map (λ (port : PortProgram). length port.words) (port_in entries) entries in
    let by_place = sum_filter_map size place_in entries in
    let equal = sum_same (λ x. size_or (λ (port : PortProgram). length port.words) (port_in entries x)) (λ x. size_or size (place_in x)) (words_size entries) entries in
    let parts = sum_same size (λ place. sum_by (λ x. length (words_in place x)) entries) (λ place. length-flat_map (words_in place) entries) places in
    let swapped = sum_swap (λ place x. length (words_in place x)) places entries in
    let most = sum_le (Plain columns rows) (λ x. sum_by (λ place. length (words_in place x)) places) fed_in (λ x h. fed_once places topology.distinct x) entries all in
    omega (arith, by_entry, by_place, equal, parts, swapped, most)

capacity_size : (entries : List Entry) (x : Entry) → size_or (λ (port : PortProgram). port.capacity) (port_in entries x) ≡ capacity_in x
capacity_size entries (Port place capacity) = refl
capacity_size entries x = refl

pub capacities_total : (entries : List Entry) → sum_by (λ (port : PortProgram). port.capacity) (ports_of entries) ≡ sum_by capacity_in entries
unfolding ports_of
capacities_total entries =
    sum_filter_map (λ (port : PortProgram). port.capacity) (port_in entries) entries
    ∙ sum_same (λ x. size_or (λ (port : PortProgram). port.capacity) (port_in entries x)) capacity_in (capacity_size entries) entries
