-- The words that the sinks of a set for a stream have received are those of its sinks, one behind the other.
use Rattle.std.proofs.Common.{◌≡◌, ℕ, zero, suc, ◌+◌, ◌-◌, ◌*◌, ◌<◌, ◌≤◌, Bool, true, false, cond, List, [], ◌∷◌, ◌++◌, length, drop, Option, Some, None, refl, ap, sym, ◌∙◌, arith}
use Rattle.std.specs.Prelude.{slice_get, nat_lt}
use Rattle.std.specs.List.{All, flat_map, range_with_len}
use Rattle.std.specs.Option.{option_map}
use Rattle.std.proofs.lemmas.Bool.{ltb-false}
use Rattle.std.proofs.lemmas.List.Elements.{All-head, All-tail}
use Rattle.raw_grid.specs.declared.parts.PortKind.TheVariants as port
use Rattle.raw_grid.specs.declared.parts.PortPlace.{PortPlace}
use Rattle.raw_grid.specs.declared.parts.ProcKind.TheVariants as proc
use Rattle.raw_grid.specs.Topology.{kind_at, port_proc}
use Rattle.raw_model.specs.Program.{ProgramSet}
use Rattle.raw_model.specs.Local.{Local, Tile, Switch, Source, Sink}
use Rattle.raw_model.specs.Start.{MachineState, Fits, IsFit}
use Rattle.raw_model.specs.Parts.{got_of, got_by, received}
use Rattle.raw_flow.proofs.Picked.{drop_next, drop_past}
use Rattle.raw_stream.specs.Streams.{Stream}
use Rattle.raw_stream_choice.specs.StreamSets.{stream_topo}

-- ---- lists of numbers in turn
pub same_each : {X : Type 0} (f g : ℕ → List X) (m a : ℕ) → ((q : ℕ) → a ≤ q → q < a + m → f q ≡ g q) → flat_map f (range_with_len a m) ≡ flat_map g (range_with_len a m)
same_each f g zero a same = refl
same_each f g (suc m) a same =
    ap (λ xs. xs ++ flat_map f (range_with_len (a + 1) m)) (same a (omega arith) (omega arith))
    ∙ ap (λ xs. g a ++ xs) (same_each f g m (a + 1) (λ q low high. same q (omega (arith, low)) (omega (arith, high))))

shifted : {X : Type 0} (f : ℕ → List X) (n m a : ℕ) → flat_map f (range_with_len (n + a) m) ≡ flat_map (λ q. f (n + q)) (range_with_len a m)
shifted f n zero a = refl
shifted f n (suc m) a =
    let next : (n + a) + 1 ≡ n + (a + 1) = omega arith in
    ap (λ xs. f (n + a) ++ xs) (ap (λ k. flat_map f (range_with_len k m)) next ∙ shifted f n m (a + 1))

-- ---- the words of sinks
got_is : (l : Local) → got_by l ≡ got_of (Some l)
got_is (Tile l) = refl
got_is (Switch l) = refl
got_is (Source l) = refl
got_is (Sink l) = refl

-- where none before number n has got a word, all words are those of the others
none_before : (n : ℕ) (locals : List Local) → ((i : ℕ) (l : Local) → slice_get locals i ≡ Some l → i < n → got_by l ≡ []) → flat_map got_by locals ≡ flat_map got_by (drop n locals)
none_before zero locals none = refl
none_before (suc n) [] none = refl
none_before (suc n) (l ∷ locals) none =
    ap (λ words. words ++ flat_map got_by locals) (none 0 l refl (omega arith))
    ∙ none_before n locals (λ i other at less. none (suc i) other at (omega (arith, less)))

past : {X : Type 0} (xs : List X) (i : ℕ) → slice_get xs i ≡ None → length xs ≤ i
past [] i e = omega arith
past (x ∷ xs) zero e = cc e
past (x ∷ xs) (suc i) e = omega (arith, past xs i e)

each_got : (m n : ℕ) (locals : List Local) → length locals ≡ n + m → flat_map got_by (drop n locals) ≡ flat_map (λ p. got_of (slice_get locals p)) (range_with_len n m)
each_got zero n locals many = ap (flat_map got_by) (drop_past locals n (omega (arith, many)))
each_got (suc m) n locals many = by (each_got m (n + 1) locals (omega (arith, many))) (slice_get locals n) refl where
  by : flat_map got_by (drop (n + 1) locals) ≡ flat_map (λ p. got_of (slice_get locals p)) (range_with_len (n + 1) m)
      → (o : Option Local) → slice_get locals n ≡ o → flat_map got_by (drop n locals) ≡ flat_map (λ p. got_of (slice_get locals p)) (range_with_len n (suc m))
  by rest (Some l) at =
      ap (flat_map got_by) (drop_next locals n l at)
      ∙ ap (λ words. words ++ flat_map got_by (drop (n + 1) locals)) (got_is l ∙ ap got_of (sym at))
      ∙ ap (λ words. got_of (slice_get locals n) ++ words) rest
  by rest None at = absurd (omega (arith, many, past locals n at))

-- ---- of a set for a stream
-- a source stands at each of the first places
source_there : (sources sinks : List PortPlace) (k : ℕ) → k < length sources → All (λ (place : PortPlace). place.kind ≡ port.Source) sources
    → option_map (λ (place : PortPlace). port_proc place.kind) (slice_get (sources ++ sinks) k) ≡ Some proc.Source
source_there [] sinks k less kinds = absurd (omega (arith, less))
source_there (place ∷ sources) sinks zero less kinds =
    ap (λ kind. Some (port_proc kind)) (All-head (λ (place : PortPlace). place.kind ≡ port.Source) place sources kinds)
source_there (place ∷ sources) sinks (suc k) less kinds =
    source_there sources sinks k (omega (arith, less)) (All-tail (λ (place : PortPlace). place.kind ≡ port.Source) place sources kinds)

module _ (s : Stream) (kinds : All (λ (place : PortPlace). place.kind ≡ port.Source) s.sources) where
  abbrev tiles : ℕ
  tiles = s.cols * s.rows

  abbrev before : ℕ
  before = 2 * tiles + length s.sources

  -- no processor before the sinks is one
  no_sink : (p : ℕ) → p < before → kind_at (stream_topo s) p ≡ Some proc.Sink → ⊥
  no_sink p less is = by (nat_lt p tiles) (nat_lt p (2 * tiles)) refl refl is where
    by : (b c : Bool) → nat_lt p tiles ≡ b → nat_lt p (2 * tiles) ≡ c
        → cond b (Some proc.Tile) (cond c (Some proc.Switch) (option_map (λ (place : PortPlace). port_proc place.kind) (slice_get (s.sources ++ s.sinks) (p - 2 * tiles)))) ≡ Some proc.Sink → ⊥
    by true c e f g = absurd (cc g)
    by false true e f g = absurd (cc g)
    by false false e f g =
        let high : 2 * tiles ≤ p = ltb-false p (2 * tiles) f in
        let low : p - 2 * tiles < length s.sources = omega (arith, less, high) in
        let there : Some proc.Source ≡ Some proc.Sink = sym (source_there s.sources s.sinks (p - 2 * tiles) low kinds) ∙ g in
        absurd (cc there)

  module _ (set : ProgramSet) (same : set.topo ≡ stream_topo s) (state : MachineState) (fits : Fits set state) where
    nothing_before : (p : ℕ) (l : Local) → slice_get state.locals p ≡ Some l → p < before → got_by l ≡ []
    nothing_before p l at less = by l (fits.locals p l at) where
      by : (l : Local) → IsFit set p l → got_by l ≡ []
      by (Tile l) fit = refl
      by (Switch l) fit = refl
      by (Source l) fit = refl
      by (Sink l) fit = absurd (no_sink p less (ap (λ t. kind_at t p) (sym same) ∙ fit.0))

    -- what is received, sink by sink
    pub received_by_sinks : length state.locals ≡ before + length s.sinks
        → received state ≡ flat_map (λ q. got_of (slice_get state.locals (2 * tiles + (length s.sources + q)))) (range_with_len 0 (length s.sinks))
    received_by_sinks many =
        let first : before ≡ before + 0 = omega arith in
        none_before before state.locals nothing_before
        ∙ each_got (length s.sinks) before state.locals many
        ∙ ap (λ n. flat_map (λ p. got_of (slice_get state.locals p)) (range_with_len n (length s.sinks))) first
        ∙ shifted (λ p. got_of (slice_get state.locals p)) before (length s.sinks) 0
        ∙ same_each (λ q. got_of (slice_get state.locals (before + q))) (λ q. got_of (slice_get state.locals (2 * tiles + (length s.sources + q)))) (length s.sinks) 0
        (λ q low high. let index : before + q ≡ 2 * tiles + (length s.sources + q) = omega arith in ap (λ p. got_of (slice_get state.locals p)) index)
