-- A port more: the grid without ports, what is wrong with a place, and what the ports are given then.
use Rattle.std.proofs.Common.{◌≡◌, ◌↔◌, ℕ, ◌+◌, ◌<◌, true, false, List, [], ◌∷◌, ◌++◌, map, length, get_or, None, Result, Ok, Err, refl, sym, ap, ap₂, ◌∙◌, ◌⊎◌, subst, inl, inr, arith}
use Rattle.std.specs.Prelude.{Contains}
use Rattle.std.specs.Option.{is_some}
use Rattle.std.specs.List.{flat_map, list_any}
use Rattle.std.proofs.lemmas.Bool.{false≢true, cases_Bool, false_from_ne_true}
use Rattle.std.proofs.lemmas.List.{map_push}
use Rattle.std.proofs.lemmas.List.Elements.{Contains-append_right}
use Rattle.std.proofs.lemmas.List.Folds.{Any-from_list_any}
use Rattle.std.proofs.lemmas.List.Sums.{sum_by_push}
use Rattle.raw_grid.specs.declared.parts.PortPlace.{PortPlace}
use Rattle.raw_grid.specs.declared.parts.ProcId.{ProcId}
use Rattle.raw_grid.specs.declared.grid.PortRefusal.{PortRefusal}
use Rattle.raw_grid.specs.declared.grid.PortRefusal.TheVariants.{OffEdge, Double}
use Rattle.raw_grid.specs.Topology.{Topology, without_ports, with_port, neighbour, IsAtEdge}
use Rattle.raw_model.specs.Program.{PortProgram}
use Rattle.raw_set_text.specs.declared.ports.Ports.{Ports}
use Rattle.raw_set_text.specs.Entry.{Entry, same_place}
use Rattle.raw_set_text.specs.Entry.Entry.{Grid, Port, Feed}
use Rattle.raw_set_text.specs.Entries.{place_in, words_in, words_of, sizes_of, places_of, topology_of, ports_of}
use Rattle.raw_set_text.specs.Faults.{has_port, capacity_in, fed_in}
use Rattle.raw_set_text.specs.Answers.{with_entry}
use Rattle.raw_set_text.specs.Building.{PortsStand, AreDeclared}
use Rattle.raw_set_text.proofs.Places.{places_equal, place_other}
use Rattle.raw_set_text.proofs.Building.PortsGiven.{given_by, declared_in, declared_of, ports_are, filter_map_some, map_agree, given_same, declared_still}
use Rattle.raw_set_text.proofs.Building.PortsKeep.{places_stand, grid_of, sizes_keep, total_keeps}
use Rattle.raw_set_text.proofs.Building.PortsFaults.{place_fault}

-- a grid without ports stands for its entry alone
pub ports_begin : (ports : Ports) (columns rows : ℕ) → ports.topo ≡ without_ports columns rows → ports.programs.items ≡ [] → ports.capacity ≡ 0 → ports.words ≡ 0 → PortsStand ports (Grid columns rows ∷ [])
unfolding topology_of ports_of
ports_begin ports columns rows topo programs capacity words =
    record {
      sized = omega arith;
      topo = topo;
      programs = programs;
      capacity = capacity;
      words = words;
      declared = none_fed;
    }
  where
    none_fed : AreDeclared (Grid columns rows ∷ [])
    none_fed place given h = absurd (case h.0 h.1 h.2)
      where
        case : (k : ℕ) → k < 1 → get_or (Grid columns rows ∷ []) k (Feed place given) ≡ Feed place given → ⊥
        case k less e =
            let first : k ≡ 0 = omega arith in
            let at : Grid columns rows ≡ Feed place given = subst (λ (n : ℕ). get_or (Grid columns rows ∷ []) n (Feed place given) ≡ Feed place given) first e in
            cc

-- a port stands at a place that passes the test
found_place : (place : PortPlace) (places : List PortPlace) → list_any (same_place place) places ≡ true → Contains places place
found_place place places h =
    let any = Any-from_list_any (same_place place) places h in
    let e : place ≡ any.1 = places_equal place any.1 any.4 in
    (any.0, any.2, subst (λ p. get_or places any.0 p ≡ p) (sym e) any.3)

-- what `add_port` says of a place of the grid that it takes
pub placed : (topo : Topology) (place : PortPlace) (added : Result ProcId PortRefusal) (port : ProcId) → added ≡ Ok port → place.x < topo.cols → place.y < topo.rows → (added ≡ Err OffEdge ↔ ¬ (IsAtEdge topo place)) → (added ≡ Err Double ↔ (IsAtEdge topo place × Contains topo.places place)) → place_fault topo place None ≡ None
placed topo place added port done column row off_edge double =
    edge_case (cases_Bool (is_some (neighbour topo place.x place.y place.side)))
  where
    edge_case : (is_some (neighbour topo place.x place.y place.side) ≡ true) ⊎ (is_some (neighbour topo place.x place.y place.side) ≡ false) → place_fault topo place None ≡ None
    edge_case (inl h) = let e = off_edge.1 (λ edge. false≢true (sym edge.edge ∙ h)) in cc
    edge_case (inr h) =
        let edge : IsAtEdge topo place = record { column = column; row = row; edge = h } in
        rw (h, false_from_ne_true (list_any (same_place place) topo.places) (λ some. let e = double.1 (edge, found_place place topo.places some) in cc))

-- no words are given where no source was declared
unfed_in : (entries : List Entry) (place : PortPlace) → ((source : PortPlace) (words : List ℕ) → Contains entries (Feed source words) → same_place place source ≡ false) → flat_map (words_in place) entries ≡ []
unfed_in [] place apart = refl
unfed_in (Feed source words ∷ entries) place apart =
    rw (apart source words (0, omega arith, refl)) (unfed_in entries place (λ other given h. apart other given (Contains-append_right (Feed source words ∷ []) entries (Feed other given) h)))
unfed_in (entry ∷ entries) place apart =
    unfed_in entries place (λ other given h. apart other given (Contains-append_right (entry ∷ []) entries (Feed other given) h))

pub unfed : (entries : List Entry) (place : PortPlace) → AreDeclared entries → has_port entries place ≡ false → words_of entries place ≡ []
unfed entries place declared new = unfed_in entries place apart
  where
    apart : (source : PortPlace) (words : List ℕ) → Contains entries (Feed source words) → same_place place source ≡ false
    apart source words h =
        place_other place source (λ same. false≢true (sym new ∙ subst (λ p. has_port entries p ≡ true) (sym same) (declared source words h)))

pub topology_adds : (entries : List Entry) (place : PortPlace) (capacity : ℕ) → topology_of (with_entry entries (Port place capacity)) ≡ with_port (topology_of entries) place
unfolding topology_of
topology_adds entries place capacity =
    ap (λ sizes. grid_of sizes (places_of (with_entry entries (Port place capacity)))) (sizes_keep entries (Port place capacity) refl)
    ∙ ap (grid_of (sizes_of entries)) (filter_map_some place_in entries (Port place capacity) place refl)

pub programs_add : (entries : List Entry) (place : PortPlace) (capacity : ℕ) → words_of entries place ≡ [] → ports_of (with_entry entries (Port place capacity)) ≡ ports_of entries ++ (record { words = []; capacity = capacity }) ∷ []
programs_add entries place capacity none =
    ports_are all
    ∙ ap (map (given_by all)) (filter_map_some declared_in entries (Port place capacity) (place, capacity) refl)
    ∙ map_push (given_by all) (declared_of entries) (place, capacity)
    ∙ ap₂ (λ (ports : List PortProgram) (port : PortProgram). ports ++ port ∷ []) others (given_same entries (Port place capacity) (place, capacity) refl ∙ ap (λ (ws : List ℕ). let p : PortProgram = record { words = ws; capacity = capacity } in p) none)
  where
    all : List Entry
    all = with_entry entries (Port place capacity)

    others : map (given_by all) (declared_of entries) ≡ ports_of entries
    others = map_agree (given_by all) (given_by entries) (λ port. given_same entries (Port place capacity) port refl) (declared_of entries) ∙ sym (ports_are entries)

-- the ports with one more
pub ports_added : (old new : Ports) (entries : List Entry) (at place : PortPlace) (capacity : ℕ) → PortsStand old entries → at ≡ place → list_any (same_place at) old.topo.places ≡ false → new.topo ≡ with_port old.topo at → new.programs.items ≡ old.programs.items ++ (record { words = []; capacity = capacity }) ∷ [] → new.capacity ≡ old.capacity + capacity → new.words ≡ old.words → PortsStand new (with_entry entries (Port place capacity))
ports_added old new entries at place capacity stands same apart topo programs total words =
    record {
      sized = subst (λ sizes. 0 < length sizes) (sym (sizes_keep entries (Port place capacity) refl)) stands.sized;
      topo = topo ∙ ap₂ with_port stands.topo same ∙ sym (topology_adds entries place capacity);
      programs = programs ∙ ap (λ (ports : List PortProgram). ports ++ (record { words = []; capacity = capacity }) ∷ []) stands.programs ∙ sym (programs_add entries place capacity (unfed entries place stands.declared fresh));
      capacity = omega (arith, total, stands.capacity, sum_by_push capacity_in entries (Port place capacity));
      words = words ∙ total_keeps fed_in entries (Port place capacity) old.words refl stands.words;
      declared = declared_still entries (Port place capacity) refl stands.declared;
    }
  where
    fresh : has_port entries place ≡ false
    fresh = ap₂ (λ p places. list_any (same_place p) places) (sym same) (sym (places_stand old entries stands)) ∙ apart
