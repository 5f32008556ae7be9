-- What all sinks of a state have received, port by port.
use Rattle.std.proofs.Common.{◌≡◌, ℕ, zero, suc, ◌+◌, ◌-◌, ◌*◌, ◌<◌, Bool, true, false, cond, List, [], ◌∷◌, ◌++◌, length, Option, Some, None, refl, sym, ap, ◌∙◌, arith}
use Rattle.std.specs.Prelude.{slice_get, nat_lt}
use Rattle.std.specs.List.{flat_map, range_with_len}
use Rattle.std.specs.Option.{option_map}
use Rattle.std.proofs.lemmas.Bool.{lt-ltb}
use Rattle.raw_grid.specs.declared.parts.ProcKind.TheVariants as proc
use Rattle.raw_grid.specs.Topology.{Topology, tile_count, port_proc, kind_at}
use Rattle.raw_model.specs.Program.{ProgramSet}
use Rattle.raw_model.specs.Local.{Local, Tile, Switch, Source, Sink}
use Rattle.raw_model.specs.Start.{MachineState, Fits}
use Rattle.raw_model.specs.Parts.{got_of, got_by, received}
use Rattle.raw_term.proofs.Terms.{some_is}
use Rattle.raw_row_terms.specs.RowClaims.{got_at}

one_got : (l : Local) → got_of (Some l) ≡ got_by l
one_got (Tile l) = refl
one_got (Switch l) = refl
one_got (Source l) = refl
one_got (Sink l) = refl

all_got : (ls : List Local) (f : ℕ → List ℕ) (k : ℕ) → ((i : ℕ) → f (k + i) ≡ got_of (slice_get ls i)) → flat_map got_by ls ≡ flat_map f (range_with_len k (length ls))
all_got [] f k h = refl
all_got (l ∷ ls) f k h =
    let here : k + 0 ≡ k = omega arith in
    let own : got_by l ≡ f k = sym (one_got l) ∙ sym (h 0) ∙ ap f here in
    ap (λ xs. xs ++ flat_map got_by ls) own ∙ ap (λ xs. f k ++ xs) (all_got ls f (k + 1) later)
  where
    later : (i : ℕ) → f (k + 1 + i) ≡ got_of (slice_get ls i)
    later i = let same : k + 1 + i ≡ k + suc i = omega arith in ap f same ∙ h (suc i)

-- numbers that are counted from another one on
counted_from : (f : ℕ → List ℕ) (m j i x : ℕ) → x ≡ j + i → flat_map f (range_with_len x m) ≡ flat_map (λ q. f (j + q)) (range_with_len i m)
counted_from f zero j i x e = refl
counted_from f (suc m) j i x e =
    ap (λ n. f n ++ flat_map f (range_with_len (x + 1) m)) e ∙ ap (λ xs. f (j + i) ++ xs) (counted_from f m j (i + 1) (x + 1) (omega (arith, e)))

-- without the first processors, which receive nothing
without_first : (f : ℕ → List ℕ) (k n m j : ℕ) → j ≡ k + n → ((i : ℕ) → i < n → f (k + i) ≡ []) → flat_map f (range_with_len k (n + m)) ≡ flat_map (λ q. f (j + q)) (range_with_len 0 m)
without_first f k zero m j e none =
    let same : 0 + m ≡ m = omega arith in
    ap (λ n. flat_map f (range_with_len k n)) same ∙ counted_from f m j 0 k (omega (arith, e))
without_first f k (suc n) m j e none =
    let here : k + 0 ≡ k = omega arith in
    let own : f k ≡ [] = sym (ap f here) ∙ none 0 (omega arith) in
    let split : suc n + m ≡ suc (n + m) = omega arith in
    ap (λ i. flat_map f (range_with_len k i)) split
    ∙ ap (λ xs. xs ++ flat_map f (range_with_len (k + 1) (n + m))) own
    ∙ without_first f (k + 1) n m j (omega (arith, e)) later
  where
    later : (i : ℕ) → i < n → f (k + 1 + i) ≡ []
    later i lt = let same : k + 1 + i ≡ k + suc i = omega arith in ap f same ∙ none (suc i) (omega (arith, lt))

tile_sink : proc.Tile ≡ proc.Sink → ⊥
tile_sink e = cc e

switch_sink : proc.Switch ≡ proc.Sink → ⊥
switch_sink e = cc e

-- tiles and switches are no sinks
kind_below : (topo : Topology) (p : ℕ) → p < 2 * tile_count topo → kind_at topo p ≡ Some proc.Sink → ⊥
kind_below topo p lt e = by (nat_lt p (tile_count topo)) (nat_lt p (2 * tile_count topo)) (lt-ltb p (2 * tile_count topo) lt) e where
  by : (b c : Bool) → c ≡ true → cond b (Some proc.Tile) (cond c (Some proc.Switch) (option_map (λ place. port_proc place.kind) (slice_get topo.places (p - 2 * tile_count topo)))) ≡ Some proc.Sink → ⊥
  by true c is f = tile_sink (some_is proc.Tile proc.Sink f)
  by false true is f = switch_sink (some_is proc.Switch proc.Sink f)
  by false false is f = cc is

module _ (set : ProgramSet) (t : MachineState) (fits : Fits set t) (m : ℕ) (many : m ≡ length set.topo.places) where
  none_below : (p : ℕ) → p < 2 * tile_count set.topo → got_of (slice_get t.locals (0 + p)) ≡ []
  none_below p lt = let same : 0 + p ≡ p = omega arith in ap (λ j. got_of (slice_get t.locals j)) same ∙ by (slice_get t.locals p) refl where
    by : (o : Option Local) → slice_get t.locals p ≡ o → got_of o ≡ []
    by None e = refl
    by (Some (Tile l)) e = refl
    by (Some (Switch l)) e = refl
    by (Some (Source l)) e = refl
    by (Some (Sink l)) e = absurd (kind_below set.topo p lt (fits.locals p (Sink l) e).0)

  pub received_at : received t ≡ flat_map (got_at set t) (range_with_len 0 m)
  received_at =
      let f : ℕ → List ℕ = λ p. got_of (slice_get t.locals p) in
      let n : ℕ = 2 * tile_count set.topo in
      let long : length t.locals ≡ n + m = omega (arith, fits.processors, many) in
      let from_none : n ≡ 0 + n = omega arith in
      all_got t.locals f 0 here
      ∙ ap (λ k. flat_map f (range_with_len 0 k)) long
      ∙ without_first f 0 n m n from_none none_below
    where
      here : (i : ℕ) → got_of (slice_get t.locals (0 + i)) ≡ got_of (slice_get t.locals i)
      here i = let same : 0 + i ≡ i = omega arith in ap (λ j. got_of (slice_get t.locals j)) same
