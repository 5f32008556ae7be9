-- The listing of a set means the set.
use Rattle.std.proofs.Common.{◌≡◌, ℕ, Bool, true, false, List, [], ◌∷◌, ◌++◌, length, map, None, refl, sym, ap, ◌∙◌, subst, arith, append_assoc, append-nil, length-append}
use Rattle.std.specs.Prelude.{◌==◌, nat_lt, if◌then◌else◌}
use Rattle.std.specs.Option.{option_to_list}
use Rattle.std.specs.List.{AllByRecursion}
use Rattle.std.proofs.lemmas.Bool.Decides.{nat_tests}
use Rattle.std.proofs.lemmas.List.{map-append}
use Rattle.std.proofs.lemmas.List.Elements.{filter_map-append}
use Rattle.raw_text.specs.Lines.{tokens_of, IsLine}
use Rattle.raw_text.proofs.WrittenLines.{lines_back, no_fault, plain_lines}
use Rattle.raw_model.specs.declared.limits.TheConstants.{MAX_STEPS, DEFAULT_DEPTH}
use Rattle.raw_model.specs.Program.{ProgramSet, IsSet}
use Rattle.raw_grid.specs.declared.limits.TheConstants.{MAX_SIZE}
use Rattle.raw_set_text.specs.Entry.{Entry}
use Rattle.raw_set_text.specs.Entry.Entry.{Grid, Limit, Depth}
use Rattle.raw_set_text.specs.Entries.{place_in, places_of, set_of}
use Rattle.raw_set_text.specs.Faults.{entry_fault}
use Rattle.raw_set_text.specs.Sections.{head_of, entries_before, end_fault}
use Rattle.raw_set_text.specs.Meaning.{AreFaultless, IsMeaning}
use Rattle.raw_set_text.specs.Listing.{placed_ports, set_lines, listing}
use Rattle.raw_set_text.specs.Texts.{Meaning}
use Rattle.raw_set_text.proofs.Listed.Lists.{is_most, all_join, at_place, nothing_left}
use Rattle.raw_set_text.proofs.Listed.Entries.{port_entry, depth_entries, first_entries, port_entries, later_entries, set_entries}
use Rattle.raw_set_text.proofs.Listed.Places.{ListingStands}
use Rattle.raw_set_text.proofs.Listed.Sections.{ListingLaws}
use Rattle.raw_set_text.proofs.Listed.Steps.{CanFollow, entries_step}
use Rattle.raw_set_text.proofs.Listed.Whole.{all_lines, lines_are, lines_whole, entries_whole}
use Rattle.raw_set_text.proofs.Listed.Parts.{port_part, filter_map_is, later_quiet}
use Rattle.raw_set_text.proofs.Listed.Ports.{places_are}
use Rattle.raw_set_text.proofs.Listed.Set.{set_is}
use Rattle.raw_set_text.proofs.Listed.Good.{IsGood, ports_good, later_good, first_writable, ports_writable, later_writable, set_writable}
use Rattle.raw_set_text.proofs.Listed.Faults.{IsLate, can_follow}

parts_of_none : {X : Type 0} (a b : List X) → [] ≡ a ++ b → a ≡ []
parts_of_none [] b e = refl
parts_of_none (x ∷ a) b e = absurd (cc)

module _ (laws : ListingLaws) (set : ProgramSet) (is : IsSet set) where
  abbrev lines : List (List (List ℕ))
  lines = map tokens_of (set_lines set)

  abbrev tokens : List Entry → List (List (List ℕ))
  tokens entries = map tokens_of (all_lines entries)

  -- the lines in three parts
  cut : lines ≡ tokens (first_entries set) ++ (tokens (port_entries set) ++ (tokens (later_entries set) ++ []))
  cut =
      ap (map tokens_of) (lines_are set)
      ∙ map-append tokens_of (all_lines (first_entries set)) (all_lines (port_entries set) ++ all_lines (later_entries set))
      ∙ ap (λ l. tokens (first_entries set) ++ l) (map-append tokens_of (all_lines (port_entries set)) (all_lines (later_entries set))
      ∙ ap (λ l. tokens (port_entries set) ++ l) (sym (append-nil (tokens (later_entries set)))))

  begins : ListingStands lines lines []
  begins = record { k = 0; within = omega arith; behind = refl; outside = refl; so_far = refl; faultless = λ j lt. absurd (omega arith) }

  grid_follows : CanFollow [] (Grid set.topo.cols set.topo.rows)
  unfolding entry_fault
  grid_follows =
      let size = is.topology.size in
      let free : entry_fault [] (Grid set.topo.cols set.topo.rows) ≡ None =
      rw (is_most 1 set.topo.cols size.some_cols, is_most set.topo.cols MAX_SIZE size.most_cols, is_most 1 set.topo.rows size.some_rows, is_most set.topo.rows MAX_SIZE size.most_rows) refl in
      record { due = refl; head = free; lawful = free; wired = tt }

  limit_follows : CanFollow (Grid set.topo.cols set.topo.rows ∷ []) (Limit set.limit)
  unfolding entry_fault
  limit_follows =
      let free : entry_fault (Grid set.topo.cols set.topo.rows ∷ []) (Limit set.limit) ≡ None =
      rw (is_most 1 set.limit is.some_steps, is_most set.limit MAX_STEPS is.few_steps) refl in
      record { due = refl; head = free; lawful = free; wired = tt }

  not_late : AllByRecursion (λ e. IsLate e → ⊥) (port_entries set)
  not_late = all_join (λ e. IsLate e → ⊥) (depth_entries set.depth) (port_part set) (no_depth (set.depth == DEFAULT_DEPTH)) (no_ports (placed_ports set))
    where
      no_depth : (test : Bool) → AllByRecursion (λ e. IsLate e → ⊥) (if test then [] else Depth set.depth ∷ [])
      no_depth true = tt
      no_depth false = (λ late. late, tt)

      no_ports : (ps : List _) → AllByRecursion (λ e. IsLate e → ⊥) (map port_entry ps)
      no_ports [] = tt
      no_ports (p ∷ ps) = (λ late. late, no_ports ps)

  ports_follow : (front : List Entry) (entry : Entry) (back : List Entry) → port_entries set ≡ front ++ entry ∷ back → CanFollow (first_entries set ++ front) entry
  ports_follow front entry back e =
      let whole : set_entries set ≡ (first_entries set ++ front) ++ entry ∷ (back ++ later_entries set) =
      ap (λ es. first_entries set ++ (es ++ later_entries set)) e ∙ ap (λ es. first_entries set ++ es) (append_assoc front (entry ∷ back) (later_entries set)) in
      let late = at_place (λ x. IsLate x → ⊥) front entry back (subst (λ es. AllByRecursion (λ x. IsLate x → ⊥) es) e not_late) in
      can_follow set is front (back ++ later_entries set) entry whole (at_place (IsGood set) front entry back (subst (λ es. AllByRecursion (IsGood set) es) e (ports_good set is))) (λ l. absurd (late l))

  no_places : places_of (later_entries set) ≡ []
  no_places =
      filter_map_is place_in (later_entries set)
      ∙ later_quiet (λ e. option_to_list (place_in e)) set (λ p w. refl) (λ t a w. refl) (λ t w. refl) (λ t a n. refl) (λ t w. refl) (λ t w. refl)

  all_placed : places_of (first_entries set ++ port_entries set) ≡ set.topo.places
  all_placed =
      let whole = places_are set is in
      let apart = filter_map-append place_in (first_entries set ++ port_entries set) (later_entries set) in
      sym (append-nil (places_of (first_entries set ++ port_entries set))) ∙ ap (λ l. places_of (first_entries set ++ port_entries set) ++ l) (sym no_places) ∙ sym apart ∙ whole

  later_follow : (front : List Entry) (entry : Entry) (back : List Entry) → later_entries set ≡ front ++ entry ∷ back → CanFollow ((first_entries set ++ port_entries set) ++ front) entry
  later_follow front entry back e =
      let before = port_entries set ++ front in
      let whole : set_entries set ≡ (first_entries set ++ before) ++ entry ∷ back =
      ap (λ es. first_entries set ++ (port_entries set ++ es)) e ∙ ap (λ es. first_entries set ++ es) (sym (append_assoc (port_entries set) front (entry ∷ back))) in
      let none : places_of front ≡ [] = parts_of_none (places_of front) (places_of (entry ∷ back)) (sym no_places ∙ ap places_of e ∙ filter_map-append place_in front (entry ∷ back)) in
      let placed : places_of (first_entries set ++ before) ≡ set.topo.places =
      filter_map-append place_in (first_entries set ++ port_entries set) front ∙ ap (λ l. places_of (first_entries set ++ port_entries set) ++ l) none
      ∙ append-nil (places_of (first_entries set ++ port_entries set)) ∙ all_placed in
      can_follow set is before back entry whole (at_place (IsGood set) front entry back (subst (λ es. AllByRecursion (IsGood set) es) e (later_good set is))) (λ l. placed)

  -- all lines are read, and declare the entries of the set
  ends : ListingStands lines [] (set_entries set)
  ends =
      let third = tokens (later_entries set) ++ [] in
      let second = tokens (port_entries set) ++ third in
      let start = subst (λ l. ListingStands lines l []) cut begins in
      let one = entries_step laws lines second (first_entries set) [] (first_writable set is) first_follow start in
      let two = entries_step laws lines third (port_entries set) (first_entries set) (ports_writable set is) ports_follow one in
      entries_step laws lines [] (later_entries set) (first_entries set ++ port_entries set) (later_writable set is) later_follow two
    where
      first_follow : (front : List Entry) (entry : Entry) (back : List Entry) → first_entries set ≡ front ++ entry ∷ back → CanFollow front entry
      first_follow [] entry back e = let same : Grid set.topo.cols set.topo.rows ≡ entry = cc in subst (λ x. CanFollow [] x) same grid_follows
      first_follow (x ∷ []) entry back e =
          let one : Grid set.topo.cols set.topo.rows ≡ x = cc in
          let two : Limit set.limit ≡ entry = cc in
          subst (λ v. CanFollow (v ∷ []) entry) one (subst (λ v. CanFollow (Grid set.topo.cols set.topo.rows ∷ []) v) two limit_follows)
      first_follow (x ∷ y ∷ front) entry back e = (let count = ap length e in let long = length-append front (entry ∷ back) in absurd (omega arith))

  means : IsMeaning (map tokens_of (set_lines set)) set
  unfolding end_fault
  means =
      let last : ends.k ≡ length lines = (let le = ends.within in let more = nothing_left lines ends.k ends.behind in omega arith) in
      let so_far : entries_before lines (length lines) ≡ set_entries set = ap (entries_before lines) (sym last) ∙ ends.so_far in
      let outside : head_of lines (length lines) ≡ None = ap (head_of lines) (sym last) ∙ ends.outside in
      let some : nat_lt (length (set_entries set)) 2 ≡ false = grind (arith, nat_tests) in
      record {
        faultless = subst (λ n. AreFaultless lines n) last ends.faultless;
        ended = rw (outside, so_far, some) refl;
        set_is = sym (ap set_of so_far ∙ set_is set is);
      }

  whole : AllByRecursion IsLine (set_lines set)
  whole = subst (λ l. AllByRecursion IsLine l) (sym (lines_whole set)) (entries_whole (set_entries set) (set_writable set is))

-- a listing means its set
pub read_back : ListingLaws → (set : ProgramSet) → IsSet set → Meaning (listing set) set
unfolding listing
read_back laws set is =
    let e = lines_back (set_lines set) (plain_lines (set_lines set) (whole laws set is)) in
    record {
      plain = rw e (no_fault 1 (set_lines set) (whole laws set is));
      meaning = rw e (means laws set is);
    }
