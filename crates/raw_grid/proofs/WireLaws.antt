-- The wire of an end, and the ends of a wire.
use Rattle.std.proofs.Common.{◌≡◌, ◌≢◌, ℕ, ◌<◌, ◌≤◌, Bool, true, false, cond, ◌&&◌, eqb, ltb, List, length, get_or, Option, Some, None, refl, sym, ◌∙◌, ap, subst, ⊎_elim, arith}
use Rattle.std.specs.Prelude.{◌↔◌, is_some, IsSome, IsBitSet}
use Rattle.std.specs.Int.{bit_at}
use Rattle.std.specs.List.{position}
use Rattle.std.proofs.lemmas.Bool.{false≢true, cases_lt, eq-eqb, eqb-true, and_parts, and_from, lt-ltb, false_from_ne_true}
use Rattle.std.proofs.lemmas.List.{get_or_past}
use Rattle.std.proofs.lemmas.List.Elements.{All-get_or}
use Rattle.std.proofs.lemmas.List.Quantifiers.{position-Some}
use Rattle.std.proofs.lemmas.List.Sums.{position_or_len_is}
use Rattle.raw_grid.specs.Topology.{Topology, IsTopology, proc_count}
use Rattle.raw_grid.specs.Wires.{Wire, wires_of, input_wire, output_wire, no_wire, producer_of, consumer_of}
use Rattle.raw_grid.proofs.Bits.{set_from, set_at}
use Rattle.raw_grid.proofs.Whole.{IsSound, all_apart, all_sound}

-- the first element that passes is found
position_is : {X : Type 0} (p : X → Bool) (xs : List X) (i : ℕ) (d : X) → i < length xs → p (get_or xs i d) ≡ true → ((k : ℕ) → k < i → p (get_or xs k d) ≡ false) → position p xs ≡ Some i
position_is p xs i d l here before =
    let e = position_or_len_is p xs i d (omega arith) before (λ m. here) in
    ap (λ n. cond (ltb n (length xs)) (Some n) None) e ∙ ap (λ b. cond b (Some i) None) (lt-ltb i (length xs) l)

module _ (t : Topology) (w : ℕ) where
  unfoldable pub the_wire : Wire
  the_wire = get_or (wires_of t) w no_wire

  pub input_within : (p i : ℕ) → input_wire t p i ≡ Some w → w < length (wires_of t)
  unfolding input_wire
  input_within p i e = (position-Some (λ (x : Wire). eqb x.to p && eqb x.input i) (wires_of t) w no_wire e).0

  pub output_within : (p i : ℕ) → output_wire t p i ≡ Some w → w < length (wires_of t)
  unfolding output_wire
  output_within p i e = (position-Some (λ (x : Wire). eqb x.from p && eqb x.output i) (wires_of t) w no_wire e).0

  pub input_ends : (p i : ℕ) → input_wire t p i ≡ Some w → (the_wire.to ≡ p) × (the_wire.input ≡ i)
  unfolding input_wire the_wire
  input_ends p i e =
      let found = position-Some (λ (x : Wire). eqb x.to p && eqb x.input i) (wires_of t) w no_wire e in
      let parts = and_parts (eqb (get_or (wires_of t) w no_wire).to p) (eqb (get_or (wires_of t) w no_wire).input i) found.1 in
      (eqb-true _ p parts.0, eqb-true _ i parts.1)

  pub output_ends : (p i : ℕ) → output_wire t p i ≡ Some w → (the_wire.from ≡ p) × (the_wire.output ≡ i)
  unfolding output_wire the_wire
  output_ends p i e =
      let found = position-Some (λ (x : Wire). eqb x.from p && eqb x.output i) (wires_of t) w no_wire e in
      let parts = and_parts (eqb (get_or (wires_of t) w no_wire).from p) (eqb (get_or (wires_of t) w no_wire).output i) found.1 in
      (eqb-true _ p parts.0, eqb-true _ i parts.1)

  pub input_owner : (p i : ℕ) → input_wire t p i ≡ Some w → consumer_of t w ≡ p
  unfolding consumer_of the_wire
  input_owner p i e = (input_ends p i e).0

  pub output_owner : (p i : ℕ) → output_wire t p i ≡ Some w → producer_of t w ≡ p
  unfolding producer_of the_wire
  output_owner p i e = (output_ends p i e).0

  pub one_input : (p q i j : ℕ) → input_wire t p i ≡ Some w → input_wire t q j ≡ Some w → i ≡ j
  one_input p q i j e f = sym (input_ends p i e).1 ∙ (input_ends q j f).1

  pub one_output : (p q i j : ℕ) → output_wire t p i ≡ Some w → output_wire t q j ≡ Some w → i ≡ j
  one_output p q i j e f = sym (output_ends p i e).1 ∙ (output_ends q j f).1

  module _ (h : IsTopology t) (l : w < length (wires_of t)) where
    sound : IsSound t the_wire
    unfolding the_wire
    sound = All-get_or (IsSound t) (wires_of t) w no_wire l (all_sound t h)

    pub input_at : input_wire t the_wire.to the_wire.input ≡ Some w
    unfolding input_wire the_wire
    input_at =
        let own = get_or (wires_of t) w no_wire in
        position_is (λ (x : Wire). eqb x.to own.to && eqb x.input own.input) (wires_of t) w no_wire l
        (and_from _ _ (eq-eqb own.to own.to refl) (eq-eqb own.input own.input refl))
        (λ k m.
        let other = get_or (wires_of t) k no_wire in
        false_from_ne_true (eqb other.to own.to && eqb other.input own.input)
        (λ e. let parts = and_parts (eqb other.to own.to) (eqb other.input own.input) e in (all_apart t h k w no_wire m l).inputs (eqb-true other.to own.to parts.0) (eqb-true other.input own.input parts.1)))

    pub output_at : output_wire t the_wire.from the_wire.output ≡ Some w
    unfolding output_wire the_wire
    output_at =
        let own = get_or (wires_of t) w no_wire in
        position_is (λ (x : Wire). eqb x.from own.from && eqb x.output own.output) (wires_of t) w no_wire l
        (and_from _ _ (eq-eqb own.from own.from refl) (eq-eqb own.output own.output refl))
        (λ k m.
        let other = get_or (wires_of t) k no_wire in
        false_from_ne_true (eqb other.from own.from && eqb other.output own.output)
        (λ e. let parts = and_parts (eqb other.from own.from) (eqb other.output own.output) e in (all_apart t h k w no_wire m l).outputs (eqb-true other.from own.from parts.0) (eqb-true other.output own.output parts.1)))

    -- the one input end to which a wire leads
    pub input_is : (i : ℕ) × (i < 10) × (input_wire t (consumer_of t w) i ≡ Some w)
    unfolding consumer_of the_wire
    input_is = (the_wire.input, sound.input_few, input_at)

    -- the one output end from which a wire comes
    pub output_is : (i : ℕ) × (i < 10) × (output_wire t (producer_of t w) i ≡ Some w)
    unfolding producer_of the_wire
    output_is = (the_wire.output, sound.output_few, output_at)

    pub consumer_few : consumer_of t w < proc_count t
    unfolding consumer_of the_wire
    consumer_few = sound.to_few

    pub producer_few : producer_of t w < proc_count t
    unfolding producer_of the_wire
    producer_few = sound.from_few

  pub ends_apart : IsTopology t → producer_of t w ≢ consumer_of t w
  unfolding producer_of consumer_of the_wire
  ends_apart h =
      ⊎_elim (λ l. (sound h l).apart) (λ past. subst (λ (a : Wire). a.from ≢ a.to) (sym (get_or_past (wires_of t) w no_wire past)) (λ (e : 1 ≡ 0). absurd (omega arith))) (cases_lt w (length (wires_of t)))

  -- a processor has ten input ends and ten output ends
  pub ten_inputs : (p i : ℕ) → IsTopology t → input_wire t p i ≡ Some w → i < 10
  ten_inputs p i h e = subst (λ n. n < 10) (input_ends p i e).1 (sound h (input_within p i e)).input_few

  pub ten_outputs : (p i : ℕ) → IsTopology t → output_wire t p i ≡ Some w → i < 10
  ten_outputs p i h e = subst (λ n. n < 10) (output_ends p i e).1 (sound h (output_within p i e)).output_few

some_is : {A : Type 0} (o : Option A) → is_some o ≡ true → (x : A) × (o ≡ Some x)
some_is None e = cc
some_is (Some x) e = (x, refl)

-- the bits of the ends that have a wire
pub inputs_are : (t : Topology) (wires : List Wire) (p bits : ℕ) → IsTopology t → wires ≡ wires_of t → ((i : ℕ) → i < 10 → bit_at bits i ≡ cond (is_some (position (λ (x : Wire). eqb x.to p && eqb x.input i) wires)) 1 0) → ((i : ℕ) → 10 ≤ i → bit_at bits i ≡ 0) → (i : ℕ) → IsBitSet bits i ↔ IsSome (input_wire t p i)
unfolding input_wire
inputs_are t wires p bits h same below above i =
    let found = position (λ (x : Wire). eqb x.to p && eqb x.input i) in
    ⊎_elim
    (λ l.
    let e : bit_at bits i ≡ cond (is_some (found (wires_of t))) 1 0 = below i l ∙ ap (λ ws. cond (is_some (found ws)) 1 0) same in
    (set_from bits i (is_some (found (wires_of t))) e, set_at bits i (is_some (found (wires_of t))) e))
    (λ m. (
      λ set. absurd (false≢true (set_from bits i false (above i m) set)),
      λ some. let w = some_is (found (wires_of t)) some in absurd (omega (arith, ten_inputs t w.0 p i h w.1)),
    ))
    (cases_lt i 10)

pub outputs_are : (t : Topology) (wires : List Wire) (p bits : ℕ) → IsTopology t → wires ≡ wires_of t → ((i : ℕ) → i < 10 → bit_at bits i ≡ cond (is_some (position (λ (x : Wire). eqb x.from p && eqb x.output i) wires)) 1 0) → ((i : ℕ) → 10 ≤ i → bit_at bits i ≡ 0) → (i : ℕ) → IsBitSet bits i ↔ IsSome (output_wire t p i)
unfolding output_wire
outputs_are t wires p bits h same below above i =
    let found = position (λ (x : Wire). eqb x.from p && eqb x.output i) in
    ⊎_elim
    (λ l.
    let e : bit_at bits i ≡ cond (is_some (found (wires_of t))) 1 0 = below i l ∙ ap (λ ws. cond (is_some (found ws)) 1 0) same in
    (set_from bits i (is_some (found (wires_of t))) e, set_at bits i (is_some (found (wires_of t))) e))
    (λ m. (
      λ set. absurd (false≢true (set_from bits i false (above i m) set)),
      λ some. let w = some_is (found (wires_of t)) some in absurd (omega (arith, ten_outputs t w.0 p i h w.1)),
    ))
    (cases_lt i 10)
