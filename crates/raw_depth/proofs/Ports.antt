-- The processor at the other end of a port's wire is a switch.
use Rattle.std.proofs.Common.{◌≡◌, ℕ, ◌+◌, ◌-◌, ◌*◌, ◌<◌, ◌≤◌, Bool, true, false, cond, [], ◌++◌, Option, Some, None, refl, sym, ap, ◌∙◌, subst, ⊎_elim, arith}
use Rattle.std.specs.Prelude.{nat_lt, slice_get, option_map}
use Rattle.std.specs.Option.{option_to_list}
use Rattle.std.proofs.lemmas.Bool.{cases_eq, cases_lt, ltb-false, lt-ltb, le-ltb}
use Rattle.std.proofs.lemmas.Option.{same_Some, slice_get_within, get_or_from_slice_get}
use Rattle.raw_network.specs.Network.{count_of}
use Rattle.raw_network.proofs.Wires.{count_there}
use Rattle.raw_grid.specs.declared.parts.PortKind.{PortKind}
use Rattle.raw_grid.specs.declared.parts.PortKind.TheVariants as kind
use Rattle.raw_grid.specs.declared.parts.PortPlace.{PortPlace}
use Rattle.raw_grid.specs.declared.parts.ProcKind.TheVariants as proc
use Rattle.raw_grid.specs.Topology.{Topology, IsTopology, IsAtEdge, tile_count, switch_at, port_proc, kind_at}
use Rattle.raw_grid.specs.Wires.{input_wire, output_wire, producer_of, consumer_of}
use Rattle.raw_grid.proofs.Apart.{tile_below}
use Rattle.raw_grid.proofs.Edges.{no_place}
use Rattle.raw_grid.proofs.EndLaws.{source_joined, sink_joined}
use Rattle.raw_grid.proofs.NoWire.{port_input, port_output}
use Rattle.raw_grid.proofs.WireLaws.{input_owner, output_owner}
use Rattle.raw_model.specs.Machine.{port_inputs, port_outputs}
use Rattle.raw_model.proofs.Counts.{count-append}

-- processor q stands where switches do
pub record IsSwitchPlace (t : Topology) (q : ℕ) : Type 0 where
  pub from : tile_count t ≤ q
  pub below : q < 2 * tile_count t

pub switch_kind : (t : Topology) (q : ℕ) → IsSwitchPlace t q → kind_at t q ≡ Some proc.Switch
switch_kind t q is =
    ap (λ b. cond b (Some proc.Tile) (cond (nat_lt q (2 * tile_count t)) (Some proc.Switch) (option_map (λ (place : PortPlace). port_proc place.kind) (slice_get t.places (q - 2 * tile_count t)))))
    (le-ltb q (tile_count t) is.from)
    ∙ ap (λ b. cond b (Some proc.Switch) (option_map (λ (place : PortPlace). port_proc place.kind) (slice_get t.places (q - 2 * tile_count t))))
    (lt-ltb q (2 * tile_count t) is.below)

-- processor p is the port at this place
record IsPortAt (t : Topology) (p : ℕ) (k : PortKind) : Type 0 where
  pub behind : 2 * tile_count t ≤ p
  pub place : PortPlace
  pub here : slice_get t.places (p - 2 * tile_count t) ≡ Some place
  pub is_kind : place.kind ≡ k

kind_same : (j k : PortKind) → Some (port_proc j) ≡ Some (port_proc k) → j ≡ k
kind_same kind.Source kind.Source e = refl
kind_same kind.Sink kind.Sink e = refl
kind_same j k e = absurd (cc e)

not_tile : (k : PortKind) → Some proc.Tile ≡ Some (port_proc k) → ⊥
not_tile kind.Source e = cc e
not_tile kind.Sink e = cc e

not_switch : (k : PortKind) → Some proc.Switch ≡ Some (port_proc k) → ⊥
not_switch kind.Source e = cc e
not_switch kind.Sink e = cc e

module _ (t : Topology) (p : ℕ) (k : PortKind) where
  by_place : (o : Option PortPlace) → 2 * tile_count t ≤ p → slice_get t.places (p - 2 * tile_count t) ≡ o
      → option_map (λ (place : PortPlace). port_proc place.kind) o ≡ Some (port_proc k) → IsPortAt t p k
  by_place None behind here e = absurd (cc e)
  by_place (Some place) behind here e = record { behind = behind; place = place; here = here; is_kind = kind_same place.kind k e }

  by_switch : (b : Bool) → nat_lt p (2 * tile_count t) ≡ b
      → cond b (Some proc.Switch) (option_map (λ (place : PortPlace). port_proc place.kind) (slice_get t.places (p - 2 * tile_count t))) ≡ Some (port_proc k) → IsPortAt t p k
  by_switch true is e = absurd (not_switch k e)
  by_switch false is e = by_place (slice_get t.places (p - 2 * tile_count t)) (ltb-false p (2 * tile_count t) is) refl e

  by_tile : (b : Bool) → nat_lt p (tile_count t) ≡ b
      → cond b (Some proc.Tile) (cond (nat_lt p (2 * tile_count t)) (Some proc.Switch) (option_map (λ (place : PortPlace). port_proc place.kind) (slice_get t.places (p - 2 * tile_count t)))) ≡ Some (port_proc k)
      → IsPortAt t p k
  by_tile true is e = absurd (not_tile k e)
  by_tile false is e = by_switch (nat_lt p (2 * tile_count t)) refl e

  port_at : kind_at t p ≡ Some (port_proc k) → IsPortAt t p k
  port_at e = by_tile (nat_lt p (tile_count t)) refl e

-- a wire of a port is at one of its ends
at_end : (w : ℕ) (o : Option ℕ) → 0 < count_of w (option_to_list o) → o ≡ Some w
at_end w None some = absurd (omega arith)
at_end w (Some v) some =
    ⊎_elim
    (λ (same : v ≡ w). ap Some same)
    (λ (ne : v ≡ w → ⊥). let none = count_there w v [] ne in absurd (omega arith))
    (cases_eq v w)

of_two : (own : ℕ → Option ℕ) (w : ℕ) → 0 < count_of w (option_to_list (own 4) ++ option_to_list (own 9)) → (i : ℕ) × (own i ≡ Some w)
of_two own w some =
    let sum' = count-append w (option_to_list (own 4)) (option_to_list (own 9)) in
    ⊎_elim
    (λ (first : 0 < count_of w (option_to_list (own 4))). (4, at_end w (own 4) first))
    (λ (none : count_of w (option_to_list (own 4)) ≤ 0). (9, at_end w (own 9) (omega arith)))
    (cases_lt 0 (count_of w (option_to_list (own 4))))

module _ (t : Topology) (valid : IsTopology t) where
  switch_there : (i : ℕ) (place : PortPlace) → slice_get t.places i ≡ Some place → IsSwitchPlace t (switch_at t place.x place.y)
  switch_there i place here =
      let edge : IsAtEdge t place =
      subst (IsAtEdge t) (get_or_from_slice_get t.places i place no_place here) (valid.at_edges i no_place (slice_get_within t.places i place here)) in
      let below = tile_below t place.x place.y edge.column edge.row in
      record { from = omega arith; below = omega arith }

  -- the wire of a sink comes from a switch,
  pub sink_fed : (p w : ℕ) → kind_at t p ≡ Some proc.Sink → 0 < count_of w (port_inputs t p) → IsSwitchPlace t (producer_of t w)
  sink_fed p w is some =
      let port = port_at t p kind.Sink is in
      let k : ℕ = p - 2 * tile_count t in
      let number : 2 * tile_count t + k ≡ p = let behind = port.behind in omega arith in
      let found = of_two (input_wire t p) w some in
      let own : input_wire t (2 * tile_count t + k) found.0 ≡ Some w = ap (λ q. input_wire t q found.0) number ∙ found.1 in
      let end' = (port_input t k port.place port.here found.0 w valid own).1 in
      let joined = sink_joined t k port.place valid port.here port.is_kind in
      let same : joined.0 ≡ w = same_Some joined.0 w (sym joined.2.1 ∙ ap (input_wire t (2 * tile_count t + k)) (sym end') ∙ own) in
      let from = output_owner t joined.0 (switch_at t port.place.x port.place.y) _ joined.2.0 in
      subst (IsSwitchPlace t) (sym from ∙ ap (producer_of t) same) (switch_there k port.place port.here)

  -- and that of a source leads to one
  pub source_read : (p w : ℕ) → kind_at t p ≡ Some proc.Source → 0 < count_of w (port_outputs t p) → IsSwitchPlace t (consumer_of t w)
  source_read p w is some =
      let port = port_at t p kind.Source is in
      let k : ℕ = p - 2 * tile_count t in
      let number : 2 * tile_count t + k ≡ p = let behind = port.behind in omega arith in
      let found = of_two (output_wire t p) w some in
      let own : output_wire t (2 * tile_count t + k) found.0 ≡ Some w = ap (λ q. output_wire t q found.0) number ∙ found.1 in
      let end' = (port_output t k port.place port.here found.0 w valid own).1 in
      let joined = source_joined t k port.place valid port.here port.is_kind in
      let same : joined.0 ≡ w = same_Some joined.0 w (sym joined.2.0 ∙ ap (output_wire t (2 * tile_count t + k)) (sym end') ∙ own) in
      let to = input_owner t joined.0 (switch_at t port.place.x port.place.y) _ joined.2.1 in
      subst (IsSwitchPlace t) (sym to ∙ ap (consumer_of t) same) (switch_there k port.place port.here)
