-- From each end of a wire the other is found.
use Rattle.std.proofs.Common.{◌≡◌, ◌≢◌, ℕ, ◌<◌, length, Option, Some, None, refl, sym, ◌∙◌, ap, subst}
use Rattle.std.specs.Prelude.{option_map}
use Rattle.raw_grid.specs.declared.parts.Way.{Way}
use Rattle.raw_grid.specs.declared.parts.Way.TheVariants.{In, Out}
use Rattle.raw_grid.specs.Topology.{Topology, IsTopology, proc_count}
use Rattle.raw_grid.specs.Wires.{wires_of, input_wire, output_wire, producer_of, consumer_of, producer_end, consumer_end, far_end, other_end}
use Rattle.raw_grid.proofs.WireLaws.{the_wire, input_at, output_at, input_ends, output_ends, input_within, output_within, ten_inputs, ten_outputs, producer_few, consumer_few, ends_apart}

pub output_joined : (t : Topology) (w : ℕ) → IsTopology t → w < length (wires_of t) → output_wire t (producer_of t w) (producer_end t w) ≡ Some w
unfolding producer_of producer_end the_wire
output_joined t w h l = output_at t w h l

pub input_joined : (t : Topology) (w : ℕ) → IsTopology t → w < length (wires_of t) → input_wire t (consumer_of t w) (consumer_end t w) ≡ Some w
unfolding consumer_of consumer_end the_wire
input_joined t w h l = input_at t w h l

-- where there is another end, there is a wire
wire_there : (o : Option ℕ) (f : ℕ → ℕ × ℕ) (r : ℕ × ℕ) → option_map f o ≡ Some r → (w : ℕ) × (o ≡ Some w) × (f w ≡ r)
wire_there None f r e = absurd (cc e)
wire_there (Some w) f r e = (w, refl, cc e)

ends_in : (t : Topology) (w p i : ℕ) → input_wire t p i ≡ Some w → (consumer_of t w ≡ p) × (consumer_end t w ≡ i)
unfolding consumer_of consumer_end the_wire
ends_in t w p i e = input_ends t w p i e

ends_out : (t : Topology) (w p i : ℕ) → output_wire t p i ≡ Some w → (producer_of t w ≡ p) × (producer_end t w ≡ i)
unfolding producer_of producer_end the_wire
ends_out t w p i e = output_ends t w p i e

abbrev pair : ℕ → ℕ → ℕ × ℕ
pair a b = (a, b)

same_pair : (a b p i : ℕ) → a ≡ p → b ≡ i → pair a b ≡ pair p i
same_pair a b p i e f = λ k. pair (e k) (f k)

pub from_input : (t : Topology) (p i q j : ℕ) → IsTopology t → other_end t p In i ≡ Some (q, j) → other_end t q Out j ≡ Some (p, i)
from_input t p i q j h e =
    let found = wire_there (input_wire t p i) (far_end t In) (q, j) e in
    let w = found.0 in
    let there : output_wire t (producer_of t w) (producer_end t w) ≡ Some w = output_joined t w h (input_within t w p i found.1) in
    let same : output_wire t q j ≡ Some w = subst (λ (r : ℕ × ℕ). output_wire t r.0 r.1 ≡ Some w) found.2 there in
    let own = ends_in t w p i found.1 in
    ap (option_map (far_end t Out)) same ∙ ap Some (same_pair (consumer_of t w) (consumer_end t w) p i own.0 own.1)

pub from_output : (t : Topology) (p i q j : ℕ) → IsTopology t → other_end t p Out i ≡ Some (q, j) → other_end t q In j ≡ Some (p, i)
from_output t p i q j h e =
    let found = wire_there (output_wire t p i) (far_end t Out) (q, j) e in
    let w = found.0 in
    let there : input_wire t (consumer_of t w) (consumer_end t w) ≡ Some w = input_joined t w h (output_within t w p i found.1) in
    let same : input_wire t q j ≡ Some w = subst (λ (r : ℕ × ℕ). input_wire t r.0 r.1 ≡ Some w) found.2 there in
    let own = ends_out t w p i found.1 in
    ap (option_map (far_end t In)) same ∙ ap Some (same_pair (producer_of t w) (producer_end t w) p i own.0 own.1)

pub other_proc : (t : Topology) (p : ℕ) (way : Way) (i q j : ℕ) → IsTopology t → other_end t p way i ≡ Some (q, j) → q < proc_count t
other_proc t p In i q j h e =
    let found = wire_there (input_wire t p i) (far_end t In) (q, j) e in
    subst (λ (r : ℕ × ℕ). r.0 < proc_count t) found.2 (producer_few t found.0 h (input_within t found.0 p i found.1))
other_proc t p Out i q j h e =
    let found = wire_there (output_wire t p i) (far_end t Out) (q, j) e in
    subst (λ (r : ℕ × ℕ). r.0 < proc_count t) found.2 (consumer_few t found.0 h (output_within t found.0 p i found.1))

pub other_ten : (t : Topology) (p : ℕ) (way : Way) (i q j : ℕ) → IsTopology t → other_end t p way i ≡ Some (q, j) → j < 10
other_ten t p In i q j h e =
    let found = wire_there (input_wire t p i) (far_end t In) (q, j) e in
    subst (λ (r : ℕ × ℕ). r.1 < 10) found.2 (ten_outputs t found.0 (producer_of t found.0) (producer_end t found.0) h (output_joined t found.0 h (input_within t found.0 p i found.1)))
other_ten t p Out i q j h e =
    let found = wire_there (output_wire t p i) (far_end t Out) (q, j) e in
    subst (λ (r : ℕ × ℕ). r.1 < 10) found.2 (ten_inputs t found.0 (consumer_of t found.0) (consumer_end t found.0) h (input_joined t found.0 h (output_within t found.0 p i found.1)))

pub other_apart : (t : Topology) (p : ℕ) (way : Way) (i q j : ℕ) → IsTopology t → other_end t p way i ≡ Some (q, j) → q ≢ p
other_apart t p In i q j h e same =
    let found = wire_there (input_wire t p i) (far_end t In) (q, j) e in
    let w = found.0 in
    ends_apart t w h (ap (λ (r : ℕ × ℕ). r.0) found.2 ∙ same ∙ sym (ends_in t w p i found.1).0)
other_apart t p Out i q j h e same =
    let found = wire_there (output_wire t p i) (far_end t Out) (q, j) e in
    let w = found.0 in
    ends_apart t w h ((ends_out t w p i found.1).0 ∙ sym same ∙ sym (ap (λ (r : ℕ × ℕ). r.0) found.2))
