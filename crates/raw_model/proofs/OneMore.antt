-- A set in which one source has one word more.
use Rattle.std.proofs.Common.{◌≡◌, ◌⊎◌, inl, inr, ℕ, zero, suc, ◌<◌, ◌^◌, List, [], ◌∷◌, length, set, get_or, Option, Some, None, refl, sym, ap, ◌∙◌, subst, arith, append-nil, length-append, OnOk, OnErr, Result, Ok, Err}
use Rattle.std.specs.Prelude.{slice_get}
use Rattle.std.specs.List.{All}
use Rattle.std.specs.Option.{option_map}
use Rattle.std.proofs.lemmas.List.{length-set, set-get_or}
use Rattle.std.proofs.lemmas.List.Sums.{sum_by-set}
use Rattle.std.proofs.lemmas.List.Elements.{All-set, All-get_or, All-append}
use Rattle.std.proofs.lemmas.Option.{slice_get_within, get_or_from_slice_get, slice_get-get_or}
use Rattle.raw_grid.specs.declared.parts.PortPlace.{PortPlace}
use Rattle.raw_grid.specs.declared.parts.PortKind.TheVariants.{Source}
use Rattle.raw_model.specs.declared.limits.TheConstants.{MAX_ALL_WORDS}
use Rattle.raw_model.specs.Program.{ProgramSet, PortProgram, IsSet, IsPortProgram, IsOfKind, AreOfKinds}
use Rattle.raw_model.specs.MoreWords.{HasMoreWords, AreAlikeButMoreWords, IsSourceOf, port_with_word, with_word}
use Rattle.raw_model.specs.Bounds.{all_words}

abbrev none : PortProgram
none = record { words = []; capacity = 0 }

-- what stands at a place of a list of which one place was written anew
stands : {X : Type 0} (xs : List X) (i : ℕ) (y : X) (j : ℕ) (z : X) → slice_get (set xs i y) j ≡ Some z
    → ((j ≡ i) × (z ≡ y)) ⊎ (slice_get xs j ≡ Some z)
stands [] i y j z is = inr is
stands (x ∷ xs) zero y zero z is = inl (refl, cc is)
stands (x ∷ xs) zero y (suc j) z is = inr is
stands (x ∷ xs) (suc i) y zero z is = inr is
stands (x ∷ xs) (suc i) y (suc j) z is = later (stands xs i y j z is)
  where
    later : ((j ≡ i) × (z ≡ y)) ⊎ (slice_get xs j ≡ Some z) → ((suc j ≡ suc i) × (z ≡ y)) ⊎ (slice_get xs j ≡ Some z)
    later (inl (same, value)) = inl (ap suc same, value)
    later (inr there) = inr there

is_source : (place : Option PortPlace) → option_map (λ (p : PortPlace). p.kind) place ≡ Some Source → (p : PortPlace) × (place ≡ Some p) × (p.kind ≡ Source)
is_source (Some p) is = (p, refl, cc is)
is_source None is = absurd (cc is)

-- the ports before and after
alike_with_word : (programs : ProgramSet) (i word : ℕ) → AreAlikeButMoreWords programs (with_word programs i word)
alike_with_word programs i word = record {
  rest = refl;
  many = sym (length-set ports i new);
  each = each_port;
}
  where
    ports : List PortProgram
    ports = programs.ports

    old : PortProgram
    old = get_or ports i none

    new : PortProgram
    new = port_with_word old word

    same : (f : PortProgram) → HasMoreWords f f
    same f = record { capacity = refl; words = ([], append-nil f.words) }

    each_port : (j : ℕ) (f m : PortProgram) → slice_get ports j ≡ Some f → slice_get (set ports i new) j ≡ Some m → HasMoreWords f m
    each_port j f m before after = by_place (stands ports i new j m after)
      where
        by_place : ((j ≡ i) × (m ≡ new)) ⊎ (slice_get ports j ≡ Some m) → HasMoreWords f m
        by_place (inl (place, is)) =
            let was : old ≡ f = get_or_from_slice_get ports i f none (subst (λ k. slice_get ports k ≡ Some f) place before) in
            subst (λ x. HasMoreWords f x) (sym is)
            (subst (λ x. HasMoreWords x new) was (record { capacity = refl; words = (word ∷ [], refl) }))
        by_place (inr there) = subst (λ x. HasMoreWords f x) (cc (before, there)) (same f)

-- a source of a set has a place among the ports
source_within : (programs : ProgramSet) (i : ℕ) → IsSet programs → IsSourceOf programs i → i < length programs.ports
source_within programs i valid source =
    let (place, at, kind) = is_source (slice_get programs.topo.places i) source in
    omega (arith, slice_get_within programs.topo.places i place at, valid.each_port)

set_with_word : (programs : ProgramSet) (i word : ℕ) → IsSet programs → IsSourceOf programs i → all_words programs < MAX_ALL_WORDS → word < 2 ^ 32
    → IsSet (with_word programs i word)
set_with_word programs i word valid source few fits = record {
  topology = valid.topology;
  some_steps = valid.some_steps;
  few_steps = valid.few_steps;
  some_depth = valid.some_depth;
  small_depth = valid.small_depth;
  each_port = length-set ports i new ∙ valid.each_port;
  each_tile = valid.each_tile;
  port_programs = All-set IsPortProgram ports i new new_is valid.port_programs;
  port_kinds = kinds;
  tile_programs = valid.tile_programs;
  wires = valid.wires;
  shows = valid.shows;
  totals = record {
    instructions = valid.totals.instructions;
    switch_instructions = valid.totals.switch_instructions;
    cells = valid.totals.cells;
    misses = valid.totals.misses;
    shows = valid.totals.shows;
    shown = valid.totals.shown;
    words = omega (arith, few, sum_by-set (λ (port : PortProgram). length port.words) ports i new none within, length-append old.words (word ∷ []));
    capacities = omega (arith, valid.totals.capacities, sum_by-set (λ (port : PortProgram). port.capacity) ports i new none within);
  };
}
  where
    ports : List PortProgram
    ports = programs.ports

    old : PortProgram
    old = get_or ports i none

    new : PortProgram
    new = port_with_word old word

    within : i < length ports
    within = source_within programs i valid source

    old_is : IsPortProgram old
    old_is = All-get_or IsPortProgram ports i none within valid.port_programs

    fits_too : All (λ word. word < 2 ^ 32) (word ∷ [])
    fits_too zero d lt = fits
    fits_too (suc k) d lt = absurd (omega (arith, lt))

    new_is : IsPortProgram new
    new_is = record { words = All-append (λ word. word < 2 ^ 32) old.words (word ∷ []) old_is.words fits_too; capacity = old_is.capacity }

    kinds : AreOfKinds programs.topo.places (set ports i new)
    kinds j place port at stands_at = by_place (stands ports i new j port stands_at)
      where
        by_place : ((j ≡ i) × (port ≡ new)) ⊎ (slice_get ports j ≡ Some port) → IsOfKind place.kind port
        by_place (inl (same, is)) =
            let (there, is_there, kind) = is_source (slice_get programs.topo.places i) source in
            let at_i : slice_get programs.topo.places i ≡ Some place = subst (λ k. slice_get programs.topo.places k ≡ Some place) same at in
            let place_is : place.kind ≡ Source = cc (at_i, is_there, kind) in
            let old_at : slice_get ports i ≡ Some old = slice_get-get_or ports i none within in
            let idle : IsOfKind place.kind old = valid.port_kinds i place old at_i old_at in
            subst (λ k. IsOfKind k port) (sym place_is)
            (subst (λ x. IsOfKind Source x) (sym is) (subst (λ k. IsOfKind k old) place_is idle))
        by_place (inr there) = valid.port_kinds j place port at there

-- what stands at a port is written anew with one word more
as_with_word : (programs : ProgramSet) (i word : ℕ) (old new : PortProgram) → IsSet programs → IsSourceOf programs i
    → old ≡ get_or programs.ports i old → new ≡ port_with_word old word
    → record programs { ports = set programs.ports i new } ≡ with_word programs i word
as_with_word programs i word old new valid source at is =
    let ports = programs.ports in
    let within = source_within programs i valid source in
    let first : old ≡ get_or ports i none =
    at ∙ sym (get_or_from_slice_get ports i (get_or ports i old) none (slice_get-get_or ports i old within)) in
    ap (λ p. record programs { ports = set ports i p }) (is ∙ ap (λ o. port_with_word o word) first)

-- or is written anew as it was
as_it_was : (programs : ProgramSet) (i : ℕ) (old new : PortProgram) → old ≡ get_or programs.ports i old → new ≡ old
    → record programs { ports = set programs.ports i new } ≡ programs
as_it_was programs i old new at is =
    ap (λ p. record programs { ports = set programs.ports i p }) (is ∙ at) ∙ ap (λ ps. record programs { ports = ps }) (set-get_or programs.ports i old)

pub is_set : {T E : Type 0} (r : Result T E) (programs : ProgramSet) (i word : ℕ) (old new : PortProgram) → IsSet programs → IsSourceOf programs i
    → all_words programs < MAX_ALL_WORDS → word < 2 ^ 32 → old ≡ get_or programs.ports i old
    → OnOk r (new ≡ port_with_word old word) → OnErr r (new ≡ old) → IsSet (record programs { ports = set programs.ports i new })
is_set (Ok x) programs i word old new valid source few fits at added same =
    subst IsSet (sym (as_with_word programs i word old new valid source at added)) (set_with_word programs i word valid source few fits)
is_set (Err e) programs i word old new valid source few fits at added same = subst IsSet (sym (as_it_was programs i old new at same)) valid

pub alike : {T E : Type 0} (r : Result T E) (programs : ProgramSet) (i word : ℕ) (old new : PortProgram) → IsSet programs → IsSourceOf programs i
    → old ≡ get_or programs.ports i old → OnOk r (new ≡ port_with_word old word)
    → OnOk r (AreAlikeButMoreWords programs (record programs { ports = set programs.ports i new }))
alike (Ok x) programs i word old new valid source at added =
    subst (AreAlikeButMoreWords programs) (sym (as_with_word programs i word old new valid source at added)) (alike_with_word programs i word)
alike (Err e) programs i word old new valid source at added = tt
