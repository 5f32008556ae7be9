-- A set with other words in its sources is a set.
use Rattle.std.proofs.Common.{◌≡◌, ℕ, zero, suc, ◌+◌, ◌^◌, ◌<◌, ◌≤◌, List, [], ◌∷◌, length, take, drop, Some, refl, sym, ap, ◌∙◌, subst, arith, le_trans}
use Rattle.std.specs.Prelude.{slice_get, slice_index_or, sum_by}
use Rattle.std.specs.List.{All, fold}
use Rattle.std.proofs.lemmas.Option.{none-some, same_Some, slice_get_within, get_or_from_slice_get, slice_get-get_or}
use Rattle.raw_grid.specs.declared.parts.PortKind.{PortKind}
use Rattle.raw_grid.specs.declared.parts.PortKind.TheVariants as kind
use Rattle.raw_model.specs.declared.limits.TheConstants.{MAX_CAPACITY, MAX_ALL_CAPACITIES}
use Rattle.raw_model.specs.Program.{ProgramSet, PortProgram, IsSet, IsPortProgram, IsOfKind}
use Rattle.raw_model.specs.Fed.{fed, fed_ports}

pub all_at : {A : Type 0} (P : A → Type 0) (xs : List A) → All P xs → (i : ℕ) (x : A) → slice_get xs i ≡ Some x → P x
all_at P xs all i x e = subst P (get_or_from_slice_get xs i x x e) (all i x (slice_get_within xs i x e))

abbrev pub AllWords : List ℕ → Type 0
AllWords words = (i x : ℕ) → slice_get words i ≡ Some x → x < 2 ^ 32

taken_words : (n : ℕ) (words : List ℕ) → AllWords words → AllWords (take n words)
taken_words zero words h i x e = absurd (none-some x e)
taken_words (suc n) [] h i x e = absurd (none-some x e)
taken_words (suc n) (w ∷ words) h zero x e = h 0 x e
taken_words (suc n) (w ∷ words) h (suc i) x e = taken_words n words (λ j y f. h (suc j) y f) i x e

left_words : (n : ℕ) (words : List ℕ) → AllWords words → AllWords (drop n words)
left_words zero words h = h
left_words (suc n) [] h = h
left_words (suc n) (w ∷ words) h = left_words n words (λ j y f. h (suc j) y f)

taken_many : (n : ℕ) (words : List ℕ) → length (take n words) ≤ n
taken_many zero words = omega arith
taken_many (suc n) [] = omega arith
taken_many (suc n) (w ∷ words) = omega (arith, taken_many n words)

-- a port of the set with other words
record FedPort (ports : List PortProgram) (i : ℕ) (port : PortProgram) : Type 0 where
  pub old : PortProgram
  pub at : slice_get ports i ≡ Some old
  pub capacity : port.capacity ≡ old.capacity
  pub few : length port.words ≤ length old.words
  pub words : AllWords port.words

fed_at : (ports : List PortProgram) (words : List ℕ) (i : ℕ) (port : PortProgram) → AllWords words → slice_get (fed_ports ports words) i ≡ Some port → FedPort ports i port
fed_at [] words i port h e = absurd (none-some port e)
fed_at (old ∷ ports) words zero port h e =
    subst (λ k. FedPort (old ∷ ports) 0 k) (same_Some (record old { words = take (length old.words) words }) port e)
    (record { old = old; at = refl; capacity = refl; few = taken_many (length old.words) words; words = taken_words (length old.words) words h })
fed_at (old ∷ ports) words (suc i) port h e =
    let more = fed_at ports (drop (length old.words) words) i port (left_words (length old.words) words h) e in
    record { old = more.old; at = more.at; capacity = more.capacity; few = more.few; words = more.words }

fed_many : (ports : List PortProgram) (words : List ℕ) → length (fed_ports ports words) ≡ length ports
fed_many [] words = refl
fed_many (port ∷ ports) words = ap suc (fed_many ports (drop (length port.words) words))

more_total : (ports : List PortProgram) (words : List ℕ) (a b : ℕ) → a ≤ b
    → fold (λ (c : ℕ) (port : PortProgram). c + length port.words) a (fed_ports ports words) ≤ fold (λ (c : ℕ) (port : PortProgram). c + length port.words) b ports
more_total [] words a b h = h
more_total (port ∷ ports) words a b h =
    more_total ports (drop (length port.words) words) (a + length (take (length port.words) words)) (b + length port.words) (omega (arith, taken_many (length port.words) words, h))

fed_total : (ports : List PortProgram) (words : List ℕ) → sum_by (λ (port : PortProgram). length port.words) (fed_ports ports words) ≤ sum_by (λ (port : PortProgram). length port.words) ports
fed_total ports words = more_total ports words 0 0 (omega arith)

same_total : (ports : List PortProgram) (words : List ℕ) (a : ℕ)
    → fold (λ (c : ℕ) (port : PortProgram). c + port.capacity) a (fed_ports ports words) ≡ fold (λ (c : ℕ) (port : PortProgram). c + port.capacity) a ports
same_total [] words a = refl
same_total (port ∷ ports) words a = same_total ports (drop (length port.words) words) (a + port.capacity)

fed_capacities : (ports : List PortProgram) (words : List ℕ) → sum_by (λ (port : PortProgram). port.capacity) (fed_ports ports words) ≡ sum_by (λ (port : PortProgram). port.capacity) ports
fed_capacities ports words = same_total ports words 0

of_kind : (k : PortKind) (port old : PortProgram) → port.capacity ≡ old.capacity → length port.words ≤ length old.words → IsOfKind k old → IsOfKind k port
of_kind kind.Source port old same few h = same ∙ h
of_kind kind.Sink port old same few h = omega (arith, few, h)

pub fed_set : (set : ProgramSet) (words : List ℕ) → AllWords words → IsSet set → IsSet (fed set words)
fed_set set words all is = record {
  topology = is.topology;
  some_steps = is.some_steps;
  few_steps = is.few_steps;
  some_depth = is.some_depth;
  small_depth = is.small_depth;
  each_tile = is.each_tile;
  tile_programs = is.tile_programs;
  wires = is.wires;
  shows = is.shows;
  each_port = fed_many set.ports words ∙ is.each_port;
  port_programs = λ i d l.
      let port : PortProgram = slice_index_or (fed_ports set.ports words) i d in
      let at : FedPort set.ports i port = fed_at set.ports words i port all (slice_get-get_or (fed_ports set.ports words) i d l) in
      let old : IsPortProgram at.old = all_at IsPortProgram set.ports is.port_programs i at.old at.at in
      record { words = λ j x k. at.words j (slice_index_or port.words j x) (slice_get-get_or port.words j x k); capacity = subst (λ n. n ≤ MAX_CAPACITY) (sym at.capacity) old.capacity };
  port_kinds = λ i place port e f.
      let at : FedPort set.ports i port = fed_at set.ports words i port all f in
      of_kind place.kind port at.old at.capacity at.few (is.port_kinds i place at.old e at.at);
  totals = record {
    instructions = is.totals.instructions;
    switch_instructions = is.totals.switch_instructions;
    cells = is.totals.cells;
    misses = is.totals.misses;
    shows = is.totals.shows;
    shown = is.totals.shown;
    words = le_trans (fed_total set.ports words) is.totals.words;
    capacities = subst (λ n. n ≤ MAX_ALL_CAPACITIES) (sym (fed_capacities set.ports words)) is.totals.capacities;
  };
}
