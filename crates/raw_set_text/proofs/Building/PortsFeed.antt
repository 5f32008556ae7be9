-- Words more for a source: only the program of its port grows.
use Rattle.std.proofs.Common.{◌≡◌, ◌≢◌, ℕ, ◌+◌, ◌<◌, true, List, [], ◌++◌, map, length, get_or, set, Some, refl, sym, ap, ◌∙◌, ◌⊎◌, subst, inl, inr, arith}
use Rattle.std.specs.Prelude.{slice_get}
use Rattle.std.specs.List.{list_any, AllPairs}
use Rattle.std.proofs.lemmas.Bool.{cases_eq, cases_order}
use Rattle.std.proofs.lemmas.List.{same_lists, length-map, length-set, get_or-map, get_or-set_same, get_or-set_other}
use Rattle.std.proofs.lemmas.Option.{slice_get_within, get_or_from_slice_get}
use Rattle.std.proofs.lemmas.List.Sums.{sum_by_push}
use Rattle.raw_grid.specs.declared.parts.PortPlace.{PortPlace}
use Rattle.raw_grid.specs.Topology.{IsTopology}
use Rattle.raw_model.specs.Program.{PortProgram}
use Rattle.raw_set_text.specs.declared.ports.Ports.{Ports}
use Rattle.raw_set_text.specs.Entry.{Entry, same_place}
use Rattle.raw_set_text.specs.Entry.Entry.{Feed}
use Rattle.raw_set_text.specs.Entries.{words_in, words_of, places_of, ports_of}
use Rattle.raw_set_text.specs.Faults.{has_port, capacity_in, fed_in}
use Rattle.raw_set_text.specs.Answers.{with_entry}
use Rattle.raw_set_text.specs.Building.{PortsStand}
use Rattle.raw_set_text.proofs.Places.{place_itself, place_other}
use Rattle.raw_set_text.proofs.Building.PortsFound.{found_any}
use Rattle.raw_set_text.proofs.Building.PortsGiven.{given_by, declared_in, declared_of, places_are, ports_are, filter_map_none, words_with, given_same, declared_still}
use Rattle.raw_set_text.proofs.Building.PortsKeep.{places_stand, sizes_keep, topology_keeps, total_keeps}

-- the place of a port that is declared
abbrev place_at : PortPlace × ℕ → PortPlace
place_at port = port.0

-- a port with more words
abbrev pub grown : PortProgram → List ℕ → PortProgram
grown program words = record program { words = program.words ++ words }

-- what a port is given with an entry more that gives it these words
given_grown : (entries : List Entry) (entry : Entry) (port : PortPlace × ℕ) (words : List ℕ) → words_in port.0 entry ≡ words → given_by (with_entry entries entry) port ≡ grown (given_by entries port) words
given_grown entries entry port words h =
    ap (λ (ws : List ℕ). let p : PortProgram = record { words = ws; capacity = port.1 } in p) (words_with entries entry port.0 ∙ ap (λ ws. words_of entries port.0 ++ ws) h)

words_itself : (source : PortPlace) (words : List ℕ) → words_in source (Feed source words) ≡ words
words_itself source words = rw (place_itself source)

words_other : (place source : PortPlace) (words : List ℕ) → place ≢ source → words_in place (Feed source words) ≡ []
words_other place source words other = rw (place_other place source other)

-- no other place is that of port i
others_differ : (places : List PortPlace) (i k : ℕ) (d : PortPlace) → AllPairs (λ a b. a ≢ b) places → i < length places → k < length places → k ≢ i → get_or places k d ≢ get_or places i d
others_differ places i k d distinct low high differ same = case (cases_order k i)
  where
    case : (k ≡ i) ⊎ ((k < i) ⊎ (i < k)) → ⊥
    case (inl e) = differ e
    case (inr (inl h)) = distinct k i d h low same
    case (inr (inr h)) = distinct i k d h high (sym same)

-- the programs of declared ports, with an entry more that feeds the one at place i
grows : (entries : List Entry) (source : PortPlace) (words : List ℕ) (ports : List (PortPlace × ℕ)) (i : ℕ) (program : PortProgram) → AllPairs (λ a b. a ≢ b) (map place_at ports) → i < length ports → source ≡ get_or (map place_at ports) i source → program ≡ get_or (map (given_by entries) ports) i program → map (given_by (with_entry entries (Feed source words))) ports ≡ set (map (given_by entries) ports) i (grown program words)
grows entries source words ports i program distinct within at_place is_program =
    same_lists (map (given_by all) ports) (set (map (given_by entries) ports) i (grown program words)) same_length each
  where
    all : List Entry
    all = with_entry entries (Feed source words)

    none : PortPlace × ℕ
    none = (source, 0)

    same_length : length (map (given_by all) ports) ≡ length (set (map (given_by entries) ports) i (grown program words))
    same_length = length-map ports (given_by all) ∙ sym (length-set (map (given_by entries) ports) i (grown program words) ∙ length-map ports (given_by entries))

    place_is : (k : ℕ) → k < length ports → get_or (map place_at ports) k source ≡ (get_or ports k none).0
    place_is k h = get_or-map place_at ports k none source h

    here : (d : PortProgram) → get_or (map (given_by all) ports) i d ≡ get_or (set (map (given_by entries) ports) i (grown program words)) i d
    here d =
        let within' : i < length (map (given_by entries) ports) = omega (arith, length-map ports (given_by entries)) in
        let source_is : source ≡ (get_or ports i none).0 = at_place ∙ place_is i within in
        let program_is : program ≡ given_by entries (get_or ports i none) = is_program ∙ get_or-map (given_by entries) ports i none program within in
        get_or-map (given_by all) ports i none d within
        ∙ given_grown entries (Feed source words) (get_or ports i none) words (subst (λ place. words_in place (Feed source words) ≡ words) source_is (words_itself source words))
        ∙ ap (λ p. grown p words) (sym program_is)
        ∙ sym (get_or-set_same (map (given_by entries) ports) i (grown program words) d within')

    elsewhere : (k : ℕ) (d : PortProgram) → k < length ports → k ≢ i → get_or (map (given_by all) ports) k d ≡ get_or (set (map (given_by entries) ports) i (grown program words)) k d
    elsewhere k d h differ =
        let low : i < length (map place_at ports) = omega (arith, length-map ports place_at) in
        let high : k < length (map place_at ports) = omega (arith, length-map ports place_at) in
        let apart : get_or (map place_at ports) k source ≢ source = λ e. others_differ (map place_at ports) i k source distinct low high differ (e ∙ at_place) in
        get_or-map (given_by all) ports k none d h
        ∙ given_same entries (Feed source words) (get_or ports k none) (subst (λ place. words_in place (Feed source words) ≡ []) (place_is k h) (words_other (get_or (map place_at ports) k source) source words apart))
        ∙ sym (get_or-map (given_by entries) ports k none d h)
        ∙ sym (get_or-set_other (map (given_by entries) ports) i k (grown program words) d differ)

    each : (k : ℕ) (d : PortProgram) → k < length (map (given_by all) ports) → get_or (map (given_by all) ports) k d ≡ get_or (set (map (given_by entries) ports) i (grown program words)) k d
    each k d h = case (cases_eq k i)
      where
        case : (k ≡ i) ⊎ (k ≡ i → ⊥) → get_or (map (given_by all) ports) k d ≡ get_or (set (map (given_by entries) ports) i (grown program words)) k d
        case (inl e) = subst (λ (n : ℕ). get_or (map (given_by all) ports) n d ≡ get_or (set (map (given_by entries) ports) i (grown program words)) n d) (sym e) (here d)
        case (inr differ) = elsewhere k d (omega (arith, length-map ports (given_by all))) differ

programs_feed : (entries : List Entry) (source : PortPlace) (words : List ℕ) (i : ℕ) (program : PortProgram) → AllPairs (λ a b. a ≢ b) (places_of entries) → i < length (places_of entries) → source ≡ get_or (places_of entries) i source → program ≡ get_or (ports_of entries) i program → ports_of (with_entry entries (Feed source words)) ≡ set (ports_of entries) i (grown program words)
programs_feed entries source words i program distinct within at_place is_program =
    ports_are all
    ∙ ap (map (given_by all)) (filter_map_none declared_in entries (Feed source words) refl)
    ∙ grows entries source words ports i program
    (subst (λ ps. AllPairs (λ a b. a ≢ b) ps) (places_are entries) distinct)
    (omega (arith, ap length (places_are entries), length-map ports place_at))
    (subst (λ ps. source ≡ get_or ps i source) (places_are entries) at_place)
    (subst (λ ps. program ≡ get_or ps i program) (ports_are entries) is_program)
    ∙ ap (λ ps. set ps i (grown program words)) (sym (ports_are entries))
  where
    all : List Entry
    all = with_entry entries (Feed source words)

    ports : List (PortPlace × ℕ)
    ports = declared_of entries

-- the ports with more words for the source at place i
pub ports_fed : (old new : Ports) (entries : List Entry) (at source : PortPlace) (words : List ℕ) (i : ℕ) (program : PortProgram) → PortsStand old entries → IsTopology old.topo → at ≡ source → slice_get old.topo.places i ≡ Some at → program ≡ get_or old.programs.items i program → new.topo ≡ old.topo → new.programs.items ≡ set old.programs.items i (grown program words) → new.capacity ≡ old.capacity → new.words ≡ old.words + length words → PortsStand new (with_entry entries (Feed source words))
ports_fed old new entries given source words i program stands valid same found is_program topo programs capacity total =
    record {
      sized = subst (λ sizes. 0 < length sizes) (sym (sizes_keep entries (Feed source words) refl)) stands.sized;
      topo = topo ∙ stands.topo ∙ sym (topology_keeps entries (Feed source words) refl refl);
      programs = programs ∙ ap (λ ps. set ps i (grown program words)) stands.programs ∙ sym (programs_feed entries source words i program distinct (omega (arith, slice_get_within old.topo.places i source at, ap length places)) at_place (subst (λ ps. program ≡ get_or ps i program) stands.programs is_program));
      capacity = capacity ∙ total_keeps capacity_in entries (Feed source words) old.capacity refl stands.capacity;
      words = omega (arith, total, stands.words, sum_by_push fed_in entries (Feed source words));
      declared = declared_still entries (Feed source words) (rw has refl) stands.declared;
    }
  where
    places : old.topo.places ≡ places_of entries
    places = places_stand old entries stands

    at : slice_get old.topo.places i ≡ Some source
    at = found ∙ ap Some same

    distinct : AllPairs (λ a b. a ≢ b) (places_of entries)
    distinct = subst (λ ps. AllPairs (λ a b. a ≢ b) ps) places valid.distinct

    at_place : source ≡ get_or (places_of entries) i source
    at_place = subst (λ ps. source ≡ get_or ps i source) places (sym (get_or_from_slice_get old.topo.places i source source at))

    has : has_port entries source ≡ true
    has = subst (λ ps. list_any (same_place source) ps ≡ true) places (found_any source old.topo.places i at)
