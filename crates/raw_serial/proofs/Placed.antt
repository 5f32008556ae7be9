-- Where a processor of each kind stands.
use Rattle.std.proofs.Common.{◌≡◌, ℕ, ◌-◌, ◌*◌, ◌<◌, ◌≤◌, Bool, true, false, cond, Option, Some, None, refl, sym}
use Rattle.std.specs.Prelude.{nat_lt, slice_get, option_map}
use Rattle.std.proofs.lemmas.Bool.{ltb-true, ltb-false}
use Rattle.raw_grid.specs.declared.parts.PortKind.{PortKind}
use Rattle.raw_grid.specs.declared.parts.PortKind.TheVariants as kind
use Rattle.raw_grid.specs.declared.parts.PortPlace.{PortPlace}
use Rattle.raw_grid.specs.declared.parts.ProcKind.{ProcKind}
use Rattle.raw_grid.specs.declared.parts.ProcKind.TheVariants.{Tile, Switch, Source, Sink}
use Rattle.raw_grid.specs.Topology.{Topology, tile_count, port_proc, kind_at}

-- the place of port i is there, and of this kind
pub record IsPortAt (t : Topology) (p : ℕ) (k : PortKind) : Type 0 where
  pub behind : 2 * tile_count t ≤ p
  pub place : PortPlace
  pub here : slice_get t.places (p - 2 * tile_count t) ≡ Some place
  pub is_kind : place.kind ≡ k

-- processor p stands where those of its kind do
abbrev pub IsPlaced : Topology → ℕ → ProcKind → Type 0
IsPlaced t p Tile = p < tile_count t
IsPlaced t p Switch = (tile_count t ≤ p) × (p < 2 * tile_count t)
IsPlaced t p Source = IsPortAt t p kind.Source
IsPlaced t p Sink = IsPortAt t p kind.Sink

module _ (t : Topology) (p : ℕ) where
  port_by : (place : PortPlace) (k : PortKind) (q : ProcKind) → k ≡ place.kind → 2 * tile_count t ≤ p
      → slice_get t.places (p - 2 * tile_count t) ≡ Some place → Some (port_proc k) ≡ Some q → IsPlaced t p q
  port_by place kind.Source Source is behind here e = record { behind = behind; place = place; here = here; is_kind = sym is }
  port_by place kind.Sink Sink is behind here e = record { behind = behind; place = place; here = here; is_kind = sym is }
  port_by place k q is behind here e = absurd (cc e)

  place_by : (o : Option PortPlace) (q : ProcKind) → 2 * tile_count t ≤ p → slice_get t.places (p - 2 * tile_count t) ≡ o
      → option_map (λ (place : PortPlace). port_proc place.kind) o ≡ Some q → IsPlaced t p q
  place_by None q behind here e = absurd (cc e)
  place_by (Some place) q behind here e = port_by place place.kind q refl behind here e

  switch_by : (q : ProcKind) → tile_count t ≤ p → p < 2 * tile_count t → Some Switch ≡ Some q → IsPlaced t p q
  switch_by Switch from below e = (from, below)
  switch_by q from below e = absurd (cc e)

  tile_by : (q : ProcKind) → p < tile_count t → Some Tile ≡ Some q → IsPlaced t p q
  tile_by Tile below e = below
  tile_by q below e = absurd (cc e)

  behind_by : (b : Bool) (q : ProcKind) → nat_lt p (2 * tile_count t) ≡ b → tile_count t ≤ p
      → cond b (Some Switch) (option_map (λ (place : PortPlace). port_proc place.kind) (slice_get t.places (p - 2 * tile_count t))) ≡ Some q → IsPlaced t p q
  behind_by true q is from e = switch_by q from (ltb-true p (2 * tile_count t) is) e
  behind_by false q is from e = place_by (slice_get t.places (p - 2 * tile_count t)) q (ltb-false p (2 * tile_count t) is) refl e

  all_by : (b : Bool) (q : ProcKind) → nat_lt p (tile_count t) ≡ b
      → cond b (Some Tile) (cond (nat_lt p (2 * tile_count t)) (Some Switch) (option_map (λ (place : PortPlace). port_proc place.kind) (slice_get t.places (p - 2 * tile_count t)))) ≡ Some q → IsPlaced t p q
  all_by true q is e = tile_by q (ltb-true p (tile_count t) is) e
  all_by false q is e = behind_by (nat_lt p (2 * tile_count t)) q refl (ltb-false p (tile_count t) is) e

  -- a processor of a kind stands where those of its kind do
  pub placed : (q : ProcKind) → kind_at t p ≡ Some q → IsPlaced t p q
  placed q e = all_by (nat_lt p (tile_count t)) q refl e
