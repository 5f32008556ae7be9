-- The ports of a set at places: one more, and that they are seats of their own.
use Rattle.std.proofs.Common.{◌≡◌, ℕ, zero, suc, ◌+◌, ◌<◌, ◌≤◌, List, [], ◌∷◌, ◌++◌, length, map, Some, refl, sym, ap, ◌∙◌, subst, arith, ⊎_elim}
use Rattle.std.specs.Prelude.{◌≢◌, slice_get, slice_index, AllPairs}
use Rattle.std.proofs.lemmas.Bool.{cases_lt}
use Rattle.std.proofs.lemmas.List.{length_push, get_or_push, get_or_append_left, get_or_default}
use Rattle.std.proofs.lemmas.Option.{slice_get_within, get_or_from_slice_get}
use Rattle.raw_grid.specs.declared.parts.PortPlace.{PortPlace}
use Rattle.raw_grid.specs.Topology.{Topology}
use Rattle.raw_model.specs.Program.{ProgramSet}
use Rattle.raw_stream.specs.declared.out.StreamOut.{StreamOut}
use Rattle.raw_stream.specs.declared.row_node.RowNode.{RowNode}
use Rattle.raw_stream.specs.Streams.{Stream}
use Rattle.raw_stream.specs.Kept.{IsStream}
use Rattle.raw_row_terms.specs.Seated.{AreSeats, reseated, reseated_out, seated}
use Rattle.raw_row_claim_text.specs.Seats.{AreSeatsUpTo, IsSeatedAs}

pub seats_more : (topo : Topology) (places : List PortPlace) (n seat : ℕ) (seats : List ℕ) → AreSeatsUpTo topo places n seats → slice_get topo.places seat ≡ slice_get places n → AreSeatsUpTo topo places (n + 1) (seats ++ seat ∷ [])
seats_more topo places n seat seats are is = record {
  each = let long = length_push seats seat in omega (arith, long, are.each);
  there = λ q less.
      ⊎_elim
      (λ (low : q < n). ap (slice_get topo.places) (get_or_append_left seats (seat ∷ []) 0 q (omega (arith, low, are.each))) ∙ are.there q low)
      (λ (high : n ≤ q).
      let same : q ≡ n = omega (arith, high, less) in
      subst (λ j. slice_get topo.places (slice_index (seats ++ seat ∷ []) j) ≡ slice_get places j) (sym same) (ap (slice_get topo.places) (get_or_push seats seat 0 n are.each) ∙ is))
      (cases_lt q n);
}

there_is : (places : List PortPlace) (q : ℕ) → q < length places → (x : PortPlace) × (slice_get places q ≡ Some x)
there_is [] q lt = absurd (omega (arith, lt))
there_is (x ∷ places) zero lt = (x, refl)
there_is (x ∷ places) (suc q) lt = there_is places q (omega (arith, lt))

-- two places of which no two are one
not_one : (places : List PortPlace) → AllPairs (λ (a : PortPlace) b. a ≢ b) places → (q r : ℕ) → q < r → r < length places → slice_get places q ≡ slice_get places r → ⊥
not_one places distinct q r less within same =
    let read = there_is places r within in
    distinct q r read.0 less within (get_or_from_slice_get places q read.0 read.0 (same ∙ read.1) ∙ sym (get_or_from_slice_get places r read.0 read.0 read.1))

-- so they are seats, each at a place of its own
pub are_seats : (topo : Topology) (places : List PortPlace) (seats : List ℕ) → AllPairs (λ (a : PortPlace) b. a ≢ b) places → AreSeatsUpTo topo places (length places) seats → AreSeats topo places seats
are_seats topo places seats distinct up = record {
  each = up.each;
  within = λ k d lt.
      let read = there_is places k (omega (arith, lt, up.each)) in
      let inside : slice_index seats k < length topo.places = slice_get_within topo.places (slice_index seats k) read.0 (up.there k (omega (arith, lt, up.each)) ∙ read.1) in
      subst (λ p. p < length topo.places) (get_or_default seats k 0 d lt) inside;
  there = up.there;
  apart = λ q r q_lt r_lt same.
      let one : slice_get places q ≡ slice_get places r = sym (up.there q q_lt) ∙ ap (slice_get topo.places) same ∙ up.there r r_lt in
      ⊎_elim
      (λ (low : q < r). absurd (not_one places distinct q r low r_lt one))
      (λ (high : r ≤ q). ⊎_elim (λ (lower : r < q). absurd (not_one places distinct r q lower q_lt (sym one))) (λ (equal : q ≤ r). omega (arith, high, equal)) (cases_lt r q))
      (cases_lt q r);
}

-- ---- a stream with the numbers of its seats
pub seated_so : (set : ProgramSet) (s : Stream) (topo : Topology) (sources sinks : List PortPlace) (seats order : List ℕ) (there : Stream) → topo ≡ set.topo → sources ≡ s.sources → sinks ≡ s.sinks → IsStream s
    → AreSeatsUpTo topo sources (length sources) seats → AreSeatsUpTo topo sinks (length sinks) order → there ≡ seated set.topo seats order s → IsSeatedAs set.topo s there order
seated_so set s topo sources sinks seats order there same from to is one other made = record {
  seats = seats;
  sources = are_seats set.topo s.sources seats is.sources.distinct (subst (λ (t : Topology). AreSeatsUpTo t s.sources (length s.sources) seats) same (subst (λ ps. AreSeatsUpTo topo ps (length ps) seats) from one));
  sinks = are_seats set.topo s.sinks order is.sinks.distinct (subst (λ (t : Topology). AreSeatsUpTo t s.sinks (length s.sinks) order) same (subst (λ ps. AreSeatsUpTo topo ps (length ps) order) to other));
  is = made;
}

abbrev made : ℕ → ℕ → ℕ → List PortPlace → List PortPlace → List RowNode → List StreamOut → Stream
made cols rows count sources sinks nodes outs = record { cols = cols; rows = rows; count = count; sources = sources; sinks = sinks; nodes = nodes; outs = outs }

pub made_so : (topo : Topology) (seats order : List ℕ) (s : Stream) {cols rows count : ℕ} {sources sinks : List PortPlace} {nodes : List RowNode} {outs : List StreamOut} → cols ≡ s.cols → rows ≡ s.rows → count ≡ s.count
    → sources ≡ topo.places → sinks ≡ topo.places → nodes ≡ map (reseated seats) s.nodes → outs ≡ map (reseated_out order) s.outs → made cols rows count sources sinks nodes outs ≡ seated topo seats order s
made_so topo seats order s a b c d e f g = λ t. made (a t) (b t) (c t) (d t) (e t) (f t) (g t)
