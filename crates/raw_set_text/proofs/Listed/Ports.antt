-- The entries of a set declare its ports, and what these are given.
use Rattle.std.proofs.Common.{◌≡◌, ◌≢◌, ℕ, Bool, true, false, List, [], ◌∷◌, length, map, refl, sym, ap, ◌∙◌, arith, append-nil}
use Rattle.std.specs.Prelude.{if◌then◌else◌}
use Rattle.std.specs.Option.{option_to_list}
use Rattle.std.specs.List.{flat_map, AllByRecursion}
use Rattle.raw_grid.specs.declared.parts.PortPlace.{PortPlace}
use Rattle.raw_grid.specs.Topology.{Topology}
use Rattle.raw_model.specs.Program.{ProgramSet, PortProgram, IsSet}
use Rattle.raw_set_text.specs.Entry.{Entry, same_place}
use Rattle.raw_set_text.specs.Entry.Entry.{Feed}
use Rattle.raw_set_text.specs.Entries.{place_in, words_in, places_of, topology_of, words_of, port_in, ports_of}
use Rattle.raw_set_text.specs.Listing.{pieces, paired, placed_ports}
use Rattle.raw_set_text.proofs.Places.{place_itself, place_other}
use Rattle.raw_set_text.proofs.Listed.Lists.{AllLater, later_is, all_gives}
use Rattle.raw_set_text.proofs.Listed.Entries.{port_entry, feed_entries, set_entries}
use Rattle.raw_set_text.proofs.Listed.Parts.{flat_flat, flat_same, flat_none, flat_of_map, filter_map_is, only_ports, only_feeds, pieces_join}

-- elements that all differ
abbrev pub AllDiffer : {X : Type 0} → List X → Type 0
AllDiffer xs = AllLater (λ a b. a ≢ b) xs

-- the words that one port gives the source at a place
abbrev fed : PortPlace → PortPlace × PortProgram → List ℕ
fed place port = if same_place place port.0 then port.1.words else []

fed_by : (place : PortPlace) (port : PortPlace × PortProgram) (test : Bool) → same_place place port.0 ≡ test → flat_map (words_in place) (feed_entries port) ≡ (if test then port.1.words else [])
fed_by place port true e =
    flat_of_map (words_in place) (Feed port.0) (pieces 8 port.1.words)
    ∙ flat_same (λ words. words_in place (Feed port.0 words)) (λ words. words) (λ words. rw e refl) (pieces 8 port.1.words)
    ∙ pieces_join 8 port.1.words (omega arith)
fed_by place port false e =
    flat_of_map (words_in place) (Feed port.0) (pieces 8 port.1.words)
    ∙ flat_none (λ words. words_in place (Feed port.0 words)) (λ words. rw e refl) (pieces 8 port.1.words)

words_are : (set : ProgramSet) (place : PortPlace) → words_of (set_entries set) place ≡ flat_map (fed place) (placed_ports set)
words_are set place =
    only_feeds (words_in place) set refl (λ d. refl) (λ p c. refl) (λ t a w. refl) (λ t w. refl) (λ t a n. refl) (λ t w. refl) (λ t w. refl)
    ∙ flat_flat (words_in place) feed_entries (placed_ports set)
    ∙ flat_same (λ p. flat_map (words_in place) (feed_entries p)) (fed place) (λ p. fed_by place p (same_place place p.0) refl) (placed_ports set)

-- other ports give nothing
none_fed : (place : PortPlace) (places : List PortPlace) (ports : List PortProgram) → AllByRecursion (λ other. place ≢ other) places → flat_map (fed place) (paired places ports) ≡ []
none_fed place [] ports others = refl
none_fed place (other ∷ places) [] others = refl
none_fed place (other ∷ places) (port ∷ ports) others = rw (place_other place other others.0) (none_fed place places ports others.1)

-- each port gives its own words
each_fed : (places : List PortPlace) (ports : List PortProgram) → AllDiffer places → AllByRecursion (λ p. flat_map (fed p.0) (paired places ports) ≡ p.1.words) (paired places ports)
each_fed [] ports differ = tt
each_fed (place ∷ places) [] differ = tt
each_fed (place ∷ places) (port ∷ ports) differ = (
  rw (place_itself place, none_fed place places ports differ.0) (append-nil port.words),
  later places ports differ.0 (λ p. flat_map (fed p.0) (paired places ports) ≡ p.1.words) (λ p. flat_map (fed p.0) (paired (place ∷ places) (port ∷ ports)) ≡ p.1.words)
      (λ q words other e. rw (place_other q place (λ same. other (sym same))) e) (each_fed places ports differ.1),
)
  where
    later : (qs : List PortPlace) (words : List PortProgram) → AllByRecursion (λ other. place ≢ other) qs → (P Q : PortPlace × PortProgram → Type 0)
        → ((q : PortPlace) (w : PortProgram) → place ≢ q → P (q, w) → Q (q, w)) → AllByRecursion P (paired qs words) → AllByRecursion Q (paired qs words)
    later [] words others P Q gives all = tt
    later (q ∷ qs) [] others P Q gives all = tt
    later (q ∷ qs) (w ∷ words) others P Q gives all = (gives q w others.0 all.0, later qs words others.1 P Q gives all.1)

-- the places of ports
places_back : (places : List PortPlace) (ports : List PortProgram) → length ports ≡ length places → flat_map (λ e. option_to_list (place_in e)) (map port_entry (paired places ports)) ≡ places
places_back [] ports same = refl
places_back (place ∷ places) [] same = absurd (omega arith)
places_back (place ∷ places) (port ∷ ports) same = ap (λ l. place ∷ l) (places_back places ports (omega arith))

pub places_are : (set : ProgramSet) → IsSet set → places_of (set_entries set) ≡ set.topo.places
places_are set is =
    filter_map_is place_in (set_entries set)
    ∙ only_ports (λ e. option_to_list (place_in e)) set refl (λ d. refl) (λ p w. refl) (λ t a w. refl) (λ t w. refl) (λ t a n. refl) (λ t w. refl) (λ t w. refl)
    ∙ places_back set.topo.places set.ports is.each_port

abbrev pub the_topology : ProgramSet → List PortPlace → Topology
the_topology s places = record { cols = s.topo.cols; rows = s.topo.rows; places = places }

pub topology_is : (set : ProgramSet) → IsSet set → topology_of (set_entries set) ≡ set.topo
unfolding topology_of
topology_is set is = let e : places_of (set_entries set) ≡ set.topo.places = places_are set is in ap (λ places. the_topology set places) e

ports_back : (entries : List Entry) (places : List PortPlace) (ports : List PortProgram) → length ports ≡ length places → AllByRecursion (λ p. words_of entries p.0 ≡ p.1.words) (paired places ports)
    → flat_map (λ e. option_to_list (port_in entries e)) (map port_entry (paired places ports)) ≡ ports
ports_back entries [] [] same all = refl
ports_back entries [] (port ∷ ports) same all = absurd (omega arith)
ports_back entries (place ∷ places) [] same all = absurd (omega arith)
ports_back entries (place ∷ places) (port ∷ ports) same all = rw (all.0) (ap (λ l. port ∷ l) (ports_back entries places ports (omega arith) all.1))

pub ports_are : (set : ProgramSet) → IsSet set → ports_of (set_entries set) ≡ set.ports
unfolding ports_of
ports_are set is =
    let entries = set_entries set in
    let fed_all = each_fed set.topo.places set.ports (later_is (λ a b. a ≢ b) set.topo.places is.topology.distinct) in
    filter_map_is (port_in entries) entries
    ∙ only_ports (λ e. option_to_list (port_in entries e)) set refl (λ d. refl) (λ p w. refl) (λ t a w. refl) (λ t w. refl) (λ t a n. refl) (λ t w. refl) (λ t w. refl)
    ∙ ports_back entries set.topo.places set.ports is.each_port
    (all_gives (λ p. flat_map (fed p.0) (placed_ports set) ≡ p.1.words) (λ p. words_of entries p.0 ≡ p.1.words) (λ p e. words_are set p.0 ∙ e) (placed_ports set) fed_all)
