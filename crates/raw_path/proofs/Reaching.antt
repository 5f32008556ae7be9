-- The end of the stretch of a turn that goes on.
use Rattle.std.proofs.Common.{◌≡◌, ℕ, zero, suc, ◌+◌, ◌<◌, ◌≤◌, Bool, true, false, List, [], ◌∷◌, ◌++◌, length, Option, Some, None, refl, sym, ap, ◌∙◌, subst, ⊎_elim, arith}
use Rattle.std.specs.Prelude.{slice_index_or}
use Rattle.std.proofs.lemmas.Bool.{cases_eq}
use Rattle.std.proofs.lemmas.Option.{same_Some, slice_get-get_or, none-some}
use Rattle.raw_grid.specs.Topology.{Topology, proc_count}
use Rattle.raw_grid.specs.Wires.{wires_of, producer_of, consumer_of}
use Rattle.raw_model.specs.Program.{ProgramSet, IsSet}
use Rattle.raw_serial.specs.declared.turn.Turn.{Turn}
use Rattle.raw_serial.specs.declared.turn.Turn.TheVariants.{Fired, Stalled, Stopped, Waits}
use Rattle.raw_pace.specs.Path.{far_end, far_or}
use Rattle.raw_clock.specs.Clock.{clock, turn_in, is_stalled}
use Rattle.raw_clock.specs.Tally.{WaitsThere}
use Rattle.raw_clock.proofs.Tallying.{at_ends, waits_there}
use Rattle.raw_path.specs.declared.hops.End.{End}
use Rattle.raw_path.specs.declared.hops.Hop.{Hop}
use Rattle.raw_path.specs.declared.seen.Seen.{Seen}
use Rattle.raw_path.specs.Path.{wire_of, wire_in, goes_in, before, one_stall, stalls_to}
use Rattle.raw_path.specs.Known.{WaitsForNone, Begins, IsEnd, IsReached, IsKnown, AreKnown}
use Rattle.raw_path.proofs.Waited.{goes_before}
use Rattle.raw_path.proofs.Kept.{last_push}

-- one cycle more without a wait
more_none : (set : ProgramSet) (from k p : ℕ) → WaitsForNone set from k p → wire_in set k p ≡ None → WaitsForNone set from (suc k) p
more_none set from k p none now j low high =
    ⊎_elim
    (λ (here : k ≡ j). subst (λ i. wire_in set i p ≡ None) here now)
    (λ (ne : k ≡ j → ⊥). none j low (omega (arith, high, ne)))
    (cases_eq k j)

longer : (set : ProgramSet) (hops : List Hop) (o : Option ℕ) (k p : ℕ) → Begins set hops o k p → wire_in set k p ≡ None → Begins set hops o (suc k) p
longer set hops None k p is now = more_none set 0 k p is now
longer set hops (Some i) k p is now =
    let leads = is.2 in
    let early = leads.early in (
      is.0,
      is.1,
      record {
        some = leads.some;
        early = omega (arith, early);
        none = more_none set is.0.from k p leads.none now;
        waited = leads.waited;
        first = leads.first;
        other = leads.other;
      },
    )

pub one_at_most : (b : Bool) → one_stall b ≤ 1
one_at_most true = omega arith
one_at_most false = omega arith

few_stalls : (set : ProgramSet) (k p : ℕ) → stalls_to set k p ≤ suc k
few_stalls set zero p = one_at_most (is_stalled (turn_in set (clock set 0) p))
few_stalls set (suc k) p = omega (arith, few_stalls set k (before set k p), one_at_most (is_stalled (turn_in set (clock set (suc k)) p)))

wire_within : (topo : Topology) (turn : Turn) (w : ℕ) → WaitsThere topo turn → wire_of turn ≡ Some w → w < length (wires_of topo)
wire_within topo (Waits wire) w there is = subst (λ v. v < length (wires_of topo)) (same_Some wire.0 w is) there
wire_within topo Fired w there is = absurd (none-some w is)
wire_within topo Stalled w there is = absurd (none-some w is)
wire_within topo Stopped w there is = absurd (none-some w is)

-- what a list tells of a processor
abbrev pub unseen : Seen
unseen = record { turn = Fired; pc = 0; end = record { p = 0; to = 0; last = 0; stalled = 0; hop = None } }

abbrev pub seen_at : List Seen → ℕ → Seen
seen_at seen p = slice_index_or seen p unseen

pub known_at : (set : ProgramSet) (hops : List Hop) (n : ℕ) (seen : List Seen) (p : ℕ) → AreKnown set hops n seen → p < proc_count set.topo
    → IsKnown set hops n p (seen_at seen p)
known_at set hops n seen p are below =
    let many = are.many in are.each p (seen_at seen p) (slice_get-get_or seen p unseen (omega (arith, below, many)))

module _ (set : ProgramSet) (valid : IsSet set) (hops : List Hop) where
  abbrev stall : ℕ → ℕ → ℕ
  stall n p = one_stall (is_stalled (turn_in set (clock set n) p))

  abbrev far : ℕ → ℕ → ℕ
  far p w = far_end (producer_of set.topo) (consumer_of set.topo) p w

  -- of one that went on in the cycle before
  own_was : (k p : ℕ) (own : Seen) → IsKnown set hops (suc k) p own → p < proc_count set.topo → wire_of own.turn ≡ None → goes_in set (suc k) p ≡ true
      → (wire_in set k p ≡ None) × (before set k p ≡ p) × IsReached set hops k p own.end
  own_was k p own is below none on =
      let now : wire_in set k p ≡ None = ap wire_of (sym is.0) ∙ none in
      let same : before set k p ≡ p = ap (λ o. far_or (producer_of set.topo) (consumer_of set.topo) p o) now in
      (now, same, is.2 (subst (λ q. goes_in set k q ≡ true) same (goes_before set valid k p below on).goes))

  pub own_few : (n p : ℕ) (own : Seen) → IsKnown set hops n p own → p < proc_count set.topo → wire_of own.turn ≡ None → goes_in set n p ≡ true
      → own.end.stalled ≤ n
  own_few zero p own is below none on = let zero_is = is.2 in omega (arith, zero_is)
  own_few (suc k) p own is below none on =
      let stalls = (own_was k p own is below none on).2.stalls in
      omega (arith, stalls, few_stalls set k p)

  -- its stretch goes on
  pub own_reached : (n p : ℕ) (own : Seen) → IsKnown set hops n p own → p < proc_count set.topo → wire_of own.turn ≡ None → goes_in set n p ≡ true
      → IsReached set hops n p (record { p = p; to = n; last = own.pc; stalled = own.end.stalled + stall n p; hop = own.end.hop })
  own_reached zero p own is below none on =
      let nothing = is.2 in
      record {
        stalls = omega (arith, nothing);
        own = refl;
        now = refl;
        end = record { there = below; last = is.1; begins = subst (λ o. Begins set hops o 0 p) (sym is.3) (λ k low high. absurd (omega (arith, high))) };
      }
  own_reached (suc k) p own is below none on =
      let was = own_was k p own is below none on in
      let begun : Begins set hops own.end.hop k p =
      subst (λ q. Begins set hops own.end.hop k q) was.2.own (subst (λ i. Begins set hops own.end.hop i own.end.p) was.2.now was.2.end.begins) in
      record {
        stalls = ap (λ n. n + stall (suc k) p) (was.2.stalls ∙ ap (stalls_to set k) (sym was.1));
        own = refl;
        now = refl;
        end = record { there = below; last = is.1; begins = longer set hops own.end.hop k p begun was.0 };
      }

  -- a wire for which a processor waits is there
  pub wire_there : (k p w : ℕ) → p < proc_count set.topo → wire_in set k p ≡ Some w → w < length (wires_of set.topo)
  wire_there k p w below waited =
      wire_within set.topo (turn_in set (clock set k) p) w (waits_there set valid p (turn_in set (clock set k) p) (at_ends set valid k p below (turn_in set (clock set k) p) refl)) waited

  -- what is known of one that waited in the cycle before: there was one, its wire is there, and the other end went on
  pub record HasWaited (n p w : ℕ) : Type 0 where
    pub k : ℕ
    pub next : suc k ≡ n
    pub waited : wire_in set k p ≡ Some w
    pub wire : w < length (wires_of set.topo)
    pub far : before set k p ≡ far_end (producer_of set.topo) (consumer_of set.topo) p w
    pub there : far_end (producer_of set.topo) (consumer_of set.topo) p w < proc_count set.topo
    pub goes : goes_in set k (far_end (producer_of set.topo) (consumer_of set.topo) p w) ≡ true

  pub has_waited : (n p w : ℕ) (own : Seen) → IsKnown set hops n p own → p < proc_count set.topo → wire_of own.turn ≡ Some w → goes_in set n p ≡ true
      → HasWaited n p w
  has_waited zero p w own is below waits on = absurd (none-some w (ap wire_of (sym is.0) ∙ waits))
  has_waited (suc k) p w own is below waits on =
      let waited : wire_in set k p ≡ Some w = ap wire_of (sym is.0) ∙ waits in
      let same : before set k p ≡ far p w = ap (λ o. far_or (producer_of set.topo) (consumer_of set.topo) p o) waited in
      let went = goes_before set valid k p below on in
      record {
        k = k;
        next = refl;
        waited = waited;
        wire = wire_there k p w below waited;
        far = same;
        there = subst (λ q. q < proc_count set.topo) same went.there;
        goes = subst (λ q. goes_in set k q ≡ true) same went.goes;
      }

  -- the other end
  far_was : (n p w : ℕ) → HasWaited n p w → (other : Seen) → IsKnown set hops n (far p w) other → (k : ℕ) → suc k ≡ n → goes_in set k (far p w) ≡ true
      → IsReached set hops k (far p w) other.end
  far_was n p w has other is k next on =
      let known : IsKnown set hops (suc k) (far p w) other = subst (λ m. IsKnown set hops m (far p w) other) (sym next) is in
      known.2 on

  pub far_few : (n p w : ℕ) → HasWaited n p w → (other : Seen) → IsKnown set hops n (far p w) other → other.end.stalled ≤ n
  far_few n p w has other is =
      let was = far_was n p w has other is has.k has.next has.goes in
      let stalls = was.stalls in
      let next = has.next in
      omega (arith, stalls, next, few_stalls set has.k (far p w))

  pub far_end_is : (n p w : ℕ) → HasWaited n p w → (other : Seen) → IsKnown set hops n (far p w) other → IsEnd set hops other.end
  far_end_is n p w has other is = (far_was n p w has other is has.k has.next has.goes).end

  -- the hop to the other end
  abbrev pub hop_to : ℕ → ℕ → Seen → Seen → Hop
  hop_to n w own other = record { from = n; wire = w; first = own.pc; before = other.end }

  -- the end of the stretch that begins with it
  abbrev pub end_by : ℕ → ℕ → Seen → Seen → End
  end_by n p own other = record { p = p; to = n; last = own.pc; stalled = other.end.stalled + stall n p; hop = Some (length hops) }

  jump : (k p w : ℕ) (own other : Seen) → wire_in set k p ≡ Some w → before set k p ≡ far p w → IsReached set hops k (far p w) other.end
      → p < proc_count set.topo → IsKnown set hops (suc k) p own → IsReached set (hops ++ hop_to (suc k) w own other ∷ []) (suc k) p (end_by (suc k) p own other)
  jump k p w own other waited same was below is =
      record {
        stalls = ap (λ n. n + stall (suc k) p) (was.stalls ∙ ap (stalls_to set k) (sym same));
        own = refl;
        now = refl;
        end = record {
          there = below;
          last = is.1;
          begins = (
            hop_to (suc k) w own other,
            last_push hops (hop_to (suc k) w own other),
            record {
              some = ap suc was.now;
              early = omega arith;
              none = λ j low high. absurd (omega (arith, low, high));
              waited = subst (λ i. wire_in set i p ≡ Some w) (sym was.now) waited;
              first = is.1;
              other = was.own;
            },
          );
        };
      }

  pub far_reached : (n p w : ℕ) (own other : Seen) → HasWaited n p w → IsKnown set hops n p own → IsKnown set hops n (far p w) other
      → p < proc_count set.topo → IsReached set (hops ++ hop_to n w own other ∷ []) n p (end_by n p own other)
  far_reached n p w own other has own_is is below =
      let was = far_was n p w has other is has.k has.next has.goes in
      subst (λ m. IsKnown set hops m p own → IsReached set (hops ++ hop_to m w own other ∷ []) m p (end_by m p own other)) has.next
      (λ known. jump has.k p w own other has.waited has.far was below known) own_is
