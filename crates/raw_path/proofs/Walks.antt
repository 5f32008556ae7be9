-- The way back, stretch by stretch.
use Rattle.std.proofs.Common.{◌≡◌, ℕ, zero, suc, ◌+◌, ◌-◌, ◌<◌, ◌≤◌, List, [], ◌∷◌, ◌++◌, length, Some, None, sym, ap, ap₂, ◌∙◌, subst, arith, append_assoc}
use Rattle.std.specs.Prelude.{slice_get, slice_index_or}
use Rattle.std.proofs.lemmas.List.Sums.{sum_by_push}
use Rattle.std.proofs.lemmas.Option.{slice_get_within, slice_get-get_or, same_Some}
use Rattle.raw_grid.specs.Wires.{producer_of, consumer_of}
use Rattle.raw_model.specs.Program.{ProgramSet}
use Rattle.raw_pace.specs.Path.{far_end}
use Rattle.raw_path.specs.declared.hops.End.{End}
use Rattle.raw_path.specs.declared.hops.Hop.{Hop}
use Rattle.raw_path.specs.declared.stretch.Stretch.{Stretch}
use Rattle.raw_path.specs.declared.stretch.WaitedFor.{WaitedFor}
use Rattle.raw_path.specs.declared.stretch.WaitedFor.TheVariants.{Nothing, Value, Room}
use Rattle.raw_path.specs.Path.{wire_in, pc_at, waited_for, stretch_of, by_wait, stretches, one_value, one_room, values_in, room_in, all_turns}
use Rattle.raw_path.specs.Known.{WaitsForNone, Leads, Begins, IsEnd, AreHops}
use Rattle.raw_path.proofs.Starting.{first_pc}

one_wait : (w : WaitedFor) → one_value w + one_room w ≤ 1
one_wait Nothing = omega arith
one_wait (Value w) = omega arith
one_wait (Room w) = omega arith

-- what a list tells of a hop
abbrev pub no_hop : Hop
no_hop = record { from = 0; wire = 0; first = 0; before = record { p = 0; to = 0; last = 0; stalled = 0; hop = None } }

abbrev pub hop_at : List Hop → ℕ → Hop
hop_at hops i = slice_index_or hops i no_hop

module _ (set : ProgramSet) where
  abbrev far : ℕ → ℕ → ℕ
  far p w = far_end (producer_of set.topo) (consumer_of set.topo) p w

  -- over cycles without a wait the way goes on with own turns
  skip : (to p from d : ℕ) → WaitsForNone set from (from + d) p → stretches set to (from + d) p ≡ stretches set to from p
  skip to p from zero none = let same : from + zero ≡ from = omega arith in ap (λ k. stretches set to k p) same
  skip to p from (suc d) none =
      let next : from + suc d ≡ suc (from + d) = omega arith in
      let own : wire_in set (from + d) p ≡ None = none (from + d) (omega arith) (omega arith) in
      ap (λ k. stretches set to k p) next
      ∙ ap (λ o. by_wait o (stretches set to (from + d) p) (λ w. stretch_of set (suc (from + d)) to p (waited_for set.topo p w) ∷ stretches set (from + d) (from + d) (far p w))) own
      ∙ skip to p from d (λ k low high. none k low (omega (arith, high)))

  skip_to : (to k p from : ℕ) → from ≤ k → WaitsForNone set from k p → stretches set to k p ≡ stretches set to from p
  skip_to to k p from early none =
      let whole : from + (k - from) ≡ k = omega (arith, early) in
      ap (λ j. stretches set to j p) (sym whole) ∙ skip to p from (k - from) (subst (λ j. WaitsForNone set from j p) (sym whole) none)

  -- one that begins with cycle 0 is the last one of the walk
  pub first_one : (k p : ℕ) → WaitsForNone set 0 k p → stretches set k k p ≡ stretch_of set 0 k p Nothing ∷ []
  first_one k p none = skip_to k k p 0 (omega arith) none

  at_hop : (to j p w : ℕ) → wire_in set j p ≡ Some w
      → stretches set to (suc j) p ≡ stretch_of set (suc j) to p (waited_for set.topo p w) ∷ stretches set j j (far p w)
  at_hop to j p w waited =
      ap (λ o. by_wait o (stretches set to j p) (λ w. stretch_of set (suc j) to p (waited_for set.topo p w) ∷ stretches set j j (far p w))) waited

  -- one that begins with a hop comes before those of the way from its other end
  pub one_by_hop : (h : Hop) (k p : ℕ) → Leads set h k p
      → stretches set k k p ≡ stretch_of set h.from k p (waited_for set.topo p h.wire) ∷ stretches set h.before.to h.before.to h.before.p
  one_by_hop h k p leads =
      skip_to k k p h.from leads.early leads.none
      ∙ ap (λ j. stretches set k j p) (sym leads.some)
      ∙ at_hop k h.before.to p h.wire leads.waited
      ∙ ap₂ (λ from q. stretch_of set from k p (waited_for set.topo p h.wire) ∷ stretches set h.before.to h.before.to q) leads.some (sym leads.other)

  pub made_first : (hops : List Hop) (e : End) → IsEnd set hops e
      → (let s : Stretch = record { p = e.p; from = 0; turns = e.to + 1; first = 0; last = e.last; wait = Nothing } in s) ≡ stretch_of set 0 e.to e.p Nothing
  made_first hops e is =
      let all : e.to + 1 ≡ e.to + 1 - 0 = omega arith in
      ap₂ (λ (turns first : ℕ). let s : Stretch = record { p = e.p; from = 0; turns = turns; first = first; last = e.last; wait = Nothing } in s) all (sym (first_pc set e.p))
      ∙ ap (λ (last : ℕ). let s : Stretch = record { p = e.p; from = 0; turns = e.to + 1 - 0; first = pc_at set 0 e.p; last = last; wait = Nothing } in s) is.last

  -- the stretch as the walk makes it
  pub made_by_hop : (hops : List Hop) (e : End) (h : Hop) → IsEnd set hops e → Leads set h e.to e.p
      → (let s : Stretch = record { p = e.p; from = h.from; turns = e.to + 1 - h.from; first = h.first; last = e.last; wait = waited_for set.topo e.p h.wire } in s)
      ≡ stretch_of set h.from e.to e.p (waited_for set.topo e.p h.wire)
  made_by_hop hops e h is leads =
      ap₂
      (λ (first last : ℕ).
      let s : Stretch = record { p = e.p; from = h.from; turns = e.to + 1 - h.from; first = first; last = last; wait = waited_for set.topo e.p h.wire } in s)
      leads.first is.last

  -- the hop of an end leads to it
  pub leads_of : (hops : List Hop) (e : End) (i : ℕ) (h : Hop) → IsEnd set hops e → e.hop ≡ Some i → slice_get hops i ≡ Some h → Leads set h e.to e.p
  leads_of hops e i h is hop here =
      let begins : Begins set hops (Some i) e.to e.p = subst (λ o. Begins set hops o e.to e.p) hop is.begins in
      subst (λ x. Leads set x e.to e.p) (same_Some begins.0 h (sym begins.1 ∙ here)) begins.2

  pub hop_there : (hops : List Hop) (e : End) (i : ℕ) → IsEnd set hops e → e.hop ≡ Some i → i < length hops
  hop_there hops e i is hop =
      let begins : Begins set hops (Some i) e.to e.p = subst (λ o. Begins set hops o e.to e.p) hop is.begins in
      slice_get_within hops i begins.0 begins.1

  pub hop_here : (hops : List Hop) (e : End) (i : ℕ) → IsEnd set hops e → e.hop ≡ Some i → slice_get hops i ≡ Some (hop_at hops i)
  hop_here hops e i is hop = slice_get-get_or hops i no_hop (hop_there hops e i is hop)

  -- A walk that stands at the end of a stretch: the stretches before it in the list are told, and it leads on.
  pub record IsWalked (hops : List Hop) (last e : End) (done : List Stretch) : Type 0 where
    pub joined : done ++ stretches set e.to e.to e.p ≡ stretches set last.to last.to last.p
    pub turns : all_turns done + e.to ≡ last.to
    pub waits : values_in done + room_in done ≤ all_turns done
    pub end : IsEnd set hops e

  -- where the stretch begins with a hop, it is told, and the walk goes on at the other end
  pub walked_on : (hops : List Hop) (last e : End) (done : List Stretch) (i : ℕ) (h : Hop) (s : Stretch) → IsWalked hops last e done → AreHops set hops
      → e.hop ≡ Some i → slice_get hops i ≡ Some h
      → s ≡ (let s : Stretch = record { p = e.p; from = h.from; turns = e.to + 1 - h.from; first = h.first; last = e.last; wait = waited_for set.topo e.p h.wire } in s)
      → IsWalked hops last h.before (done ++ s ∷ [])
  walked_on hops last e done i h s is hops_are hop here made =
      let leads = leads_of hops e i h is.end hop here in
      let some = leads.some in
      let early = leads.early in
      let turns = is.turns in
      let waits = is.waits in
      let many : s.turns ≡ e.to + 1 - h.from = ap (λ (s : Stretch). s.turns) made in
      record {
        joined =
            append_assoc done (s ∷ []) (stretches set h.before.to h.before.to h.before.p)
            ∙ ap (λ x. done ++ x ∷ stretches set h.before.to h.before.to h.before.p) (made ∙ made_by_hop hops e h is.end leads)
            ∙ ap (λ xs. done ++ xs) (sym (one_by_hop h e.to e.p leads))
            ∙ is.joined;
        turns = omega (arith, sum_by_push (λ (s : Stretch). s.turns) done s, many, some, early, turns);
        waits = omega (
          arith,
          sum_by_push (λ (s : Stretch). s.turns) done s,
          sum_by_push (λ (s : Stretch). one_value s.wait) done s,
          sum_by_push (λ (s : Stretch). one_room s.wait) done s,
          many,
          early,
          waits,
          one_wait s.wait,
        );
        end = hops_are i h here;
      }

  -- and where it begins with cycle 0, all are told with it
  pub walked_all : (hops : List Hop) (last e : End) (done : List Stretch) (s : Stretch) → IsWalked hops last e done → e.hop ≡ None
      → s ≡ (let s : Stretch = record { p = e.p; from = 0; turns = e.to + 1; first = 0; last = e.last; wait = Nothing } in s)
      → done ++ s ∷ [] ≡ stretches set last.to last.to last.p
  walked_all hops last e done s is hop made =
      let none : WaitsForNone set 0 e.to e.p = subst (λ o. Begins set hops o e.to e.p) hop is.end.begins in
      ap (λ x. done ++ x ∷ []) (made ∙ made_first hops e is.end) ∙ ap (λ xs. done ++ xs) (sym (first_one e.to e.p none)) ∙ is.joined
