-- An entry that has nothing to do with ports leaves them as they are.
use Rattle.std.proofs.Common.{◌≡◌, ℕ, ◌<◌, false, List, [], map, length, None, sym, ap, ◌∙◌, subst, arith}
use Rattle.std.specs.Prelude.{sum_by}
use Rattle.std.proofs.lemmas.List.Sums.{sum_by_push}
use Rattle.raw_grid.specs.declared.parts.PortPlace.{PortPlace}
use Rattle.raw_grid.specs.Topology.{Topology}
use Rattle.raw_set_text.specs.declared.ports.Ports.{Ports}
use Rattle.raw_set_text.specs.Entry.{Entry}
use Rattle.raw_set_text.specs.Entries.{size_in, place_in, words_in, sizes_of, places_of, topology_of, ports_of, first_or}
use Rattle.raw_set_text.specs.Faults.{capacity_in, fed_in, is_undeclared}
use Rattle.raw_set_text.specs.Answers.{with_entry}
use Rattle.raw_set_text.specs.Building.{PortsStand}
use Rattle.raw_set_text.proofs.Building.PortsGiven.{given_by, declared_in, declared_of, ports_are, filter_map_none, map_agree, declares_none, given_same, declared_still}

-- the grid that entries declare, of their sizes and places
abbrev pub grid_of : List (ℕ × ℕ) → List PortPlace → Topology
grid_of sizes places = record { cols = (first_or (0, 0) sizes).0; rows = (first_or (0, 0) sizes).1; places = places }

-- the places of the built grid
pub places_stand : (ports : Ports) (entries : List Entry) → PortsStand ports entries → ports.topo.places ≡ places_of entries
unfolding topology_of
places_stand ports entries stands = ap (λ topo. topo.places) stands.topo

pub sizes_keep : (entries : List Entry) (entry : Entry) → size_in entry ≡ None → sizes_of (with_entry entries entry) ≡ sizes_of entries
sizes_keep entries entry h = filter_map_none size_in entries entry h

pub topology_keeps : (entries : List Entry) (entry : Entry) → size_in entry ≡ None → place_in entry ≡ None → topology_of (with_entry entries entry) ≡ topology_of entries
unfolding topology_of
topology_keeps entries entry no_size no_place =
    ap (λ sizes. grid_of sizes (places_of (with_entry entries entry))) (sizes_keep entries entry no_size)
    ∙ ap (grid_of (sizes_of entries)) (filter_map_none place_in entries entry no_place)

pub programs_keep : (entries : List Entry) (entry : Entry) → place_in entry ≡ None → ((place : PortPlace) → words_in place entry ≡ []) → ports_of (with_entry entries entry) ≡ ports_of entries
programs_keep entries entry no_place no_words =
    ports_are (with_entry entries entry)
    ∙ ap (λ ports. map (given_by (with_entry entries entry)) ports) (filter_map_none declared_in entries entry (declares_none entry no_place))
    ∙ map_agree (given_by (with_entry entries entry)) (given_by entries) (λ port. given_same entries entry port (no_words port.0)) (declared_of entries)
    ∙ sym (ports_are entries)

-- a total with an entry that adds nothing
pub total_keeps : (adds : Entry → ℕ) (entries : List Entry) (entry : Entry) (total : ℕ) → adds entry ≡ 0 → total ≡ sum_by adds entries → total ≡ sum_by adds (with_entry entries entry)
total_keeps adds entries entry total none e = omega (arith, sum_by_push adds entries entry)

-- what the ports stand for stays with an entry that neither declares nor feeds one
pub ports_keep : (ports : Ports) (entries : List Entry) (entry : Entry) → size_in entry ≡ None → place_in entry ≡ None → ((place : PortPlace) → words_in place entry ≡ []) → capacity_in entry ≡ 0 → fed_in entry ≡ 0 → is_undeclared entries entry ≡ false → PortsStand ports entries → PortsStand ports (with_entry entries entry)
ports_keep ports entries entry no_size no_place no_words no_capacity not_fed not_undeclared stands =
    record {
      sized = subst (λ sizes. 0 < length sizes) (sym (sizes_keep entries entry no_size)) stands.sized;
      topo = stands.topo ∙ sym (topology_keeps entries entry no_size no_place);
      programs = stands.programs ∙ sym (programs_keep entries entry no_place no_words);
      capacity = total_keeps capacity_in entries entry ports.capacity no_capacity stands.capacity;
      words = total_keeps fed_in entries entry ports.words not_fed stands.words;
      declared = declared_still entries entry not_undeclared stands.declared;
    }
