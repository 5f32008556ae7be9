-- What makes a network one whose laws hold.
use Rattle.std.specs.Prelude.{◌≡◌, ◌≢◌, ℕ, ◌<◌, ◌≤◌, false, List, length}
use Rattle.std.specs.List.{All}
use Rattle.raw_network.specs.Network.{Network, Sent, count_of}
use Rattle.raw_network.specs.Runs.{sent_on}

-- Each wire has one producer and one consumer, and these differ; a processor takes only from wires
-- that it consumes, and asks for room on, and sends to, only wires that it produces.
pub record IsWired {L : Type 0} (net : Network L) (producer consumer : ℕ → ℕ) : Type 0 where
  pub apart : (w : ℕ) → producer w ≢ consumer w
  pub takes_own : (p : ℕ) (l : L) → All (λ w. consumer w ≡ p) (net.takes p l)
  pub sends_own : (p : ℕ) (l : L) → All (λ w. producer w ≡ p) (net.sends p l)
  pub sent_own : (p : ℕ) (l : L) (values : List ℕ) → All (λ (m : Sent). producer m.wire ≡ p) (net.row p l values).sent

-- A row names each wire that it may send to once, and sends at most one value there; to a wire that
-- it does not name it sends nothing.
pub record SendsOnce {L : Type 0} (net : Network L) : Type 0 where
  pub named_once : (p : ℕ) (l : L) (w : ℕ) → count_of w (net.sends p l) ≤ 1
  pub sent_named : (p : ℕ) (l : L) (values : List ℕ) (w : ℕ) →
      length (sent_on w (net.row p l values).sent) ≤ count_of w (net.sends p l)

-- Where `fit` tells which local states fit a processor and `left` how much it has left to do: a row of a
-- processor that is not stopped keeps it fit, and leaves less to do.
pub record IsBounded {L : Type 0} (net : Network L) (fit : ℕ → L → Type 0) (left : ℕ → L → ℕ) : Type 0 where
  pub kept : (p : ℕ) (l : L) (values : List ℕ) → fit p l → net.is_stopped p l ≡ false → fit p (net.row p l values).next
  pub less : (p : ℕ) (l : L) (values : List ℕ) → fit p l → net.is_stopped p l ≡ false →
      left p (net.row p l values).next < left p l

-- Where `fit` tells which local states fit a processor and `fine` which values are fine: a row of a
-- processor that is not stopped, given fine values, as many as it takes, keeps it fit and sends fine values.
pub record IsInvariant {L : Type 0} (net : Network L) (fit : ℕ → L → Type 0) (fine : ℕ → Type 0) : Type 0 where
  pub next : (p : ℕ) (l : L) (values : List ℕ) → fit p l → net.is_stopped p l ≡ false →
      length values ≡ length (net.takes p l) → All fine values → fit p (net.row p l values).next
  pub sent : (p : ℕ) (l : L) (values : List ℕ) → fit p l → net.is_stopped p l ≡ false →
      length values ≡ length (net.takes p l) → All fine values → All (λ (m : Sent). fine m.value) (net.row p l values).sent
