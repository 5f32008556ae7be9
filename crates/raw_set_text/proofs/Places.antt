-- The test that two places of ports are equal: it is true of equal places, and of no others.
use Rattle.std.proofs.Common.{◌≡◌, ◌≢◌, true, false, eqb, refl, eqb-true, eq-eqb}
use Rattle.std.proofs.lemmas.Bool.{false≢true, and_parts, false_from_ne_true}
use Rattle.raw_grid.specs.declared.parts.Net.{Net}
use Rattle.raw_grid.specs.declared.parts.Net.TheVariants as net
use Rattle.raw_grid.specs.declared.parts.Side.{Side}
use Rattle.raw_grid.specs.declared.parts.Side.TheVariants as side
use Rattle.raw_grid.specs.declared.parts.PortKind.{PortKind}
use Rattle.raw_grid.specs.declared.parts.PortKind.TheVariants as kind
use Rattle.raw_grid.specs.declared.parts.PortPlace.{PortPlace}
use Rattle.raw_grid.specs.Names.{same_net, same_side}
use Rattle.raw_set_text.specs.Entry.{same_kind, same_place}

kinds_equal : (a b : PortKind) → same_kind a b ≡ true → a ≡ b
kinds_equal kind.Source kind.Source h = refl
kinds_equal kind.Sink kind.Sink h = refl
kinds_equal a b h = absurd (false≢true h)

nets_equal : (a b : Net) → same_net a b ≡ true → a ≡ b
nets_equal net.One net.One h = refl
nets_equal net.Two net.Two h = refl
nets_equal a b h = absurd (false≢true h)

sides_equal : (a b : Side) → same_side a b ≡ true → a ≡ b
sides_equal side.N side.N h = refl
sides_equal side.E side.E h = refl
sides_equal side.S side.S h = refl
sides_equal side.W side.W h = refl
sides_equal a b h = absurd (false≢true h)

kind_itself : (a : PortKind) → same_kind a a ≡ true
kind_itself kind.Source = refl
kind_itself kind.Sink = refl

net_itself : (a : Net) → same_net a a ≡ true
net_itself net.One = refl
net_itself net.Two = refl

side_itself : (a : Side) → same_side a a ≡ true
side_itself side.N = refl
side_itself a = refl

-- places that pass the test are equal
pub places_equal : (a b : PortPlace) → same_place a b ≡ true → a ≡ b
places_equal a b h =
    let sides = and_parts _ (same_side a.side b.side) h in
    let rows = and_parts _ (eqb a.y b.y) sides.0 in
    let columns = and_parts _ (eqb a.x b.x) rows.0 in
    let nets = and_parts (same_kind a.kind b.kind) (same_net a.net b.net) columns.0 in
    λ i. record {
      kind = kinds_equal a.kind b.kind nets.0 i;
      net = nets_equal a.net b.net nets.1 i;
      x = eqb-true a.x b.x columns.1 i;
      y = eqb-true a.y b.y rows.1 i;
      side = sides_equal a.side b.side sides.1 i;
    }

-- a place passes the test at itself
pub place_itself : (a : PortPlace) → same_place a a ≡ true
place_itself a = rw (kind_itself a.kind, net_itself a.net, eq-eqb a.x a.x refl, eq-eqb a.y a.y refl, side_itself a.side) refl

-- other places don't pass it
pub place_other : (a b : PortPlace) → a ≢ b → same_place a b ≡ false
place_other a b differ = false_from_ne_true (same_place a b) (λ e. differ (places_equal a b e))
