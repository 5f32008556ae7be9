-- What is found in the list of a topology's wires.
use Rattle.std.proofs.Common.{◌≡◌, ℕ, ◌<◌, List, length, get_or, Option, eqb, ◌&&◌, sym, ◌∙◌, ap}
use Rattle.std.specs.List.{position}
use Rattle.std.proofs.lemmas.List.{get_or_default}
use Rattle.raw_grid.specs.declared.parts.Net.{Net}
use Rattle.raw_grid.specs.declared.parts.Dir.{Dir}
use Rattle.raw_grid.specs.declared.parts.Way.{Way}
use Rattle.raw_grid.specs.declared.parts.Way.TheVariants.{In, Out}
use Rattle.raw_grid.specs.Ends.{end_index}
use Rattle.raw_grid.specs.Topology.{Topology}
use Rattle.raw_grid.specs.Wires.{Wire, wires_of, input_wire, output_wire, wire_at, wire_at_end, no_wire, producer_of, consumer_of, producer_end, consumer_end}

pub input_found : (t : Topology) (wires : List Wire) (p i : ℕ) (o : Option ℕ) → wires ≡ wires_of t → o ≡ position (λ w. eqb w.to p && eqb w.input i) wires → o ≡ input_wire t p i
unfolding input_wire
input_found t wires p i o same e = e ∙ ap (position (λ w. eqb w.to p && eqb w.input i)) same

pub output_found : (t : Topology) (wires : List Wire) (p i : ℕ) (o : Option ℕ) → wires ≡ wires_of t → o ≡ position (λ w. eqb w.from p && eqb w.output i) wires → o ≡ output_wire t p i
unfolding output_wire
output_found t wires p i o same e = e ∙ ap (position (λ w. eqb w.from p && eqb w.output i)) same

pub in_found : (t : Topology) (wires : List Wire) (p i : ℕ) (way : Way) (o : Option ℕ) → way ≡ In → wires ≡ wires_of t → o ≡ position (λ w. eqb w.to p && eqb w.input i) wires → o ≡ wire_at_end t p way i
in_found t wires p i way o is same e = input_found t wires p i o same e ∙ ap (λ u. wire_at_end t p u i) (sym is)

pub out_found : (t : Topology) (wires : List Wire) (p i : ℕ) (way : Way) (o : Option ℕ) → way ≡ Out → wires ≡ wires_of t → o ≡ position (λ w. eqb w.from p && eqb w.output i) wires → o ≡ wire_at_end t p way i
out_found t wires p i way o is same e = output_found t wires p i o same e ∙ ap (λ u. wire_at_end t p u i) (sym is)

-- an end by its network and direction, and by its index
pub wire_at_index : (t : Topology) (p i : ℕ) (way : Way) (net : Net) (dir : Dir) → i ≡ end_index net dir → wire_at_end t p way i ≡ wire_at t p way net dir
wire_at_index t p i In net dir e = ap (input_wire t p) e
wire_at_index t p i Out net dir e = ap (output_wire t p) e

pub producer_found : (t : Topology) (wires : List Wire) (w : ℕ) (x : Wire) → wires ≡ wires_of t → w < length wires → x ≡ get_or wires w x → x.from ≡ producer_of t w
unfolding producer_of
producer_found t wires w x same l e =
    ap (λ (u : Wire). u.from) (e ∙ get_or_default wires w x no_wire l ∙ ap (λ ws. get_or ws w no_wire) same)

pub consumer_found : (t : Topology) (wires : List Wire) (w : ℕ) (x : Wire) → wires ≡ wires_of t → w < length wires → x ≡ get_or wires w x → x.to ≡ consumer_of t w
unfolding consumer_of
consumer_found t wires w x same l e =
    ap (λ (u : Wire). u.to) (e ∙ get_or_default wires w x no_wire l ∙ ap (λ ws. get_or ws w no_wire) same)

pub producer_end_found : (t : Topology) (wires : List Wire) (w : ℕ) (x : Wire) → wires ≡ wires_of t → w < length wires → x ≡ get_or wires w x → x.output ≡ producer_end t w
unfolding producer_end
producer_end_found t wires w x same l e =
    ap (λ (u : Wire). u.output) (e ∙ get_or_default wires w x no_wire l ∙ ap (λ ws. get_or ws w no_wire) same)

pub consumer_end_found : (t : Topology) (wires : List Wire) (w : ℕ) (x : Wire) → wires ≡ wires_of t → w < length wires → x ≡ get_or wires w x → x.input ≡ consumer_end t w
unfolding consumer_end
consumer_end_found t wires w x same l e =
    ap (λ (u : Wire). u.input) (e ∙ get_or_default wires w x no_wire l ∙ ap (λ ws. get_or ws w no_wire) same)
