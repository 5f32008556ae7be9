-- The ports of a set that is to be fed with the rows of a stream, and a copy of such a set.
use Rattle.std.proofs.Common.{◌≡◌, ℕ, zero, suc, ◌+◌, ◌*◌, ◌/◌, ◌^◌, ◌<◌, ◌≤◌, min, List, [], ◌∷◌, ◌++◌, length, get_or, map, refl, sym, ap, ◌∙◌, subst, arith, sum_by, le_trans}
use Rattle.std.specs.List.{All}
use Rattle.std.proofs.Math.Nat.{mul-div-le, mul-le-mul_left, suc-mul}
use Rattle.std.proofs.lemmas.List.{length-map}
use Rattle.std.proofs.lemmas.List.Elements.{All-nil, All-map, All-head, All-tail}
use Rattle.std.proofs.lemmas.List.Sums.{sum_by-cons}
use Rattle.raw_grid.specs.declared.parts.PortKind.{PortKind}
use Rattle.raw_grid.specs.declared.parts.PortKind.TheVariants.{Source, Sink}
use Rattle.raw_grid.specs.declared.parts.PortPlace.{PortPlace}
use Rattle.raw_model.specs.declared.limits.TheConstants.{MAX_CAPACITY, MAX_ALL_CAPACITIES}
use Rattle.raw_model.specs.Program.{PortProgram, IsPortProgram, IsOfKind, AreOfKinds}
use Rattle.raw_stream.specs.Streams.{Stream}
use Rattle.raw_stream.specs.Kept.{IsStream}
use Rattle.raw_stream_choice.specs.StreamSets.{ArePortsFor}
use Rattle.raw_stream_choice.specs.Endless.{room_among, room_at, endless_port, endless_ports}

abbrev words_in : PortProgram → ℕ
words_in port = length port.words

abbrev room_in : PortProgram → ℕ
room_in port = port.capacity

-- ---- one port
room_within : (room most : ℕ) → room ≤ most → (kind : PortKind) → room_at room kind ≤ most
room_within room most few Source = omega arith
room_within room most few Sink = few

of_kind : (room : ℕ) (kind : PortKind) → IsOfKind kind (record { words = []; capacity = room_at room kind })
of_kind room Source = refl
of_kind room Sink = refl

-- ---- ports at places
module _ (room : ℕ) where
  kinds_are : (places : List PortPlace) → AreOfKinds places (map (endless_port room) places)
  kinds_are [] i place port e f = absurd (cc e)
  kinds_are (p ∷ places) zero place port e f =
      let at : p ≡ place = cc e in
      let is : endless_port room p ≡ port = cc f in
      subst (λ (o : PortProgram). IsOfKind place.kind o) (sym (ap (endless_port room) at) ∙ is) (of_kind room place.kind)
  kinds_are (p ∷ places) (suc i) place port e f = kinds_are places i place port e f

  no_words : (places : List PortPlace) → sum_by words_in (map (endless_port room) places) ≡ 0
  no_words [] = refl
  no_words (p ∷ places) = let rest = no_words places in sum_by-cons words_in (endless_port room p) (map (endless_port room) places) ∙ omega (arith, rest)

  room_of_sinks : (places : List PortPlace) → sum_by room_in (map (endless_port room) places) ≤ length places * room
  room_of_sinks [] = omega arith
  room_of_sinks (p ∷ places) =
      let rest = room_of_sinks places in
      let cons = sum_by-cons room_in (endless_port room p) (map (endless_port room) places) in
      let here = room_within room room (omega arith) p.kind in
      last (sum_by room_in (map (endless_port room) (p ∷ places))) (room_at room p.kind) (sum_by room_in (map (endless_port room) places)) (length places * room) room
      (suc (length places) * room) cons here rest (suc-mul (length places) room)
    where
      last : (a b c d e f : ℕ) → a ≡ b + c → b ≤ e → c ≤ d → f ≡ d + e → a ≤ f
      last a b c d e f x y z w = omega (arith, x, y, z, w)

  abbrev IsSource : PortPlace → Type 0
  IsSource place = place.kind ≡ Source

  room_of_all : (sources sinks : List PortPlace) → All (λ (place : PortPlace). place.kind ≡ Source) sources
      → sum_by room_in (map (endless_port room) (sources ++ sinks)) ≤ length sinks * room
  room_of_all [] sinks are = room_of_sinks sinks
  room_of_all (p ∷ sources) sinks are =
      let rest = room_of_all sources sinks (All-tail IsSource p sources are) in
      let cons = sum_by-cons room_in (endless_port room p) (map (endless_port room) (sources ++ sinks)) in
      let none : room_at room p.kind ≡ room_at room Source = ap (room_at room) (All-head IsSource p sources are) in
      last (sum_by room_in (map (endless_port room) (p ∷ sources ++ sinks))) (room_at room p.kind) (sum_by room_in (map (endless_port room) (sources ++ sinks))) (length sinks * room) cons none rest
    where
      last : (a b c d : ℕ) → a ≡ b + c → b ≡ 0 → c ≤ d → a ≤ d
      last a b c d x y z = omega (arith, x, y, z)

-- ---- those of a stream
room_is_small : (sinks : ℕ) → room_among sinks ≤ MAX_CAPACITY
room_is_small sinks = omega arith

room_is_enough : (sinks : ℕ) → sinks * room_among sinks ≤ MAX_ALL_CAPACITIES
room_is_enough sinks =
    let most : ℕ = MAX_ALL_CAPACITIES / sinks in
    let less : min MAX_CAPACITY most ≤ most = omega arith in
    le_trans (mul-le-mul_left sinks less) (mul-div-le MAX_ALL_CAPACITIES sinks)

endless_ports_lawful : (s : Stream) → IsStream s → ArePortsFor s (endless_ports s)
endless_ports_lawful s is = record {
  each = length-map (s.sources ++ s.sinks) (endless_port room);
  programs = All-map IsPortProgram (endless_port room) (s.sources ++ s.sinks) (λ k d lt. lawful (get_or (s.sources ++ s.sinks) k d));
  kinds = kinds_are room (s.sources ++ s.sinks);
  words = let none = no_words room (s.sources ++ s.sinks) in omega (arith, none);
  room = let all = room_of_all room s.sources s.sinks is.sources.kinds in let few = room_is_enough (length s.sinks) in omega (arith, all, few);
}
  where
    room : ℕ
    room = room_among (length s.sinks)

    lawful : (place : PortPlace) → IsPortProgram (endless_port room place)
    lawful place = record { words = All-nil (λ word. word < 2 ^ 32); capacity = room_within room MAX_CAPACITY (room_is_small (length s.sinks)) place.kind }

pub are_endless_ports : (s : Stream) (ports : List PortProgram) → IsStream s → ports ≡ endless_ports s → ArePortsFor s ports
are_endless_ports s ports is same = subst (ArePortsFor s) (sym same) (endless_ports_lawful s is)
