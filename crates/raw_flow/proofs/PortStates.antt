-- What sources have sent and sinks have got, while the parts of inputs and of outs run.
use Rattle.std.proofs.Common.{◌≡◌, ℕ, ◌+◌, ◌<◌, ◌≤◌, List, [], ◌∷◌, ◌++◌, length, map, drop, Option, Some, refl, sym, ap, ◌∙◌, subst, ⊎_elim, arith, append_assoc}
use Rattle.std.specs.Prelude.{slice_get, slice_index, slice_index_or}
use Rattle.std.proofs.lemmas.Bool.{cases_eq}
use Rattle.std.proofs.lemmas.List.{append-nil}
use Rattle.std.proofs.lemmas.Option.{slice_get-get_or, slice_get-map}
use Rattle.std.specs.Option.{option_map}
use Rattle.raw_grid.specs.declared.parts.PortPlace.{PortPlace}
use Rattle.raw_model.specs.Local.{Local, Source, Sink}
use Rattle.raw_model.specs.Start.{first_port}
use Rattle.raw_flow.specs.Flows.{Dataflow}
use Rattle.raw_flow.specs.Ports.{FlowPorts, ArePorts, source_place, sink_place, picked}
use Rattle.raw_flow.proofs.Homes.{source_port, sink_port, source_kind, sink_kind}
use Rattle.raw_flow.proofs.Picked.{picked_none, picked_own, picked_other, drop_past, is_there, none_left}
use Rattle.raw_flow.proofs.PortSteps.{with_port, port_here, port_there}

-- of all its words a source has these left
pub record HasLeft (all rest : List ℕ) (state : Option Local) : Type 0 where
  pub done : ℕ
  pub is : state ≡ Some (Source (record { done = done; got = [] }))
  pub left : drop done all ≡ rest

-- of all its words a sink has these to come
pub record HasGot (all rest : List ℕ) (state : Option Local) : Type 0 where
  pub got : List ℕ
  pub is : state ≡ Some (Sink (record { done = length got; got = got }))
  pub left : got ++ rest ≡ all

-- the first i inputs have come, and the first j of these values are gone
pub record AreAt (ports : FlowPorts) (inputs values : List ℕ) (i j : ℕ) (states : ℕ → Option Local) : Type 0 where
  pub sources : (q : ℕ) → q < length ports.sources → HasLeft (picked q ports.comes inputs) (picked q (drop i ports.comes) (drop i inputs)) (states q)
  pub sinks : (q : ℕ) → q < length ports.sinks → HasGot (picked q ports.goes values) (picked q (drop j ports.goes) (drop j values)) (states (length ports.sources + q))

module _ (flow : Dataflow) (ports : FlowPorts) (inputs values : List ℕ) where
  -- at the start
  abbrev pub first_states : ℕ → Option Local
  first_states q = slice_get (map (λ (place : PortPlace). first_port place.kind) (ports.sources ++ ports.sinks)) q

  pub at_first : ArePorts flow ports → AreAt ports inputs values 0 0 first_states
  at_first are = record {
    sources = λ q h.
        let place : PortPlace = slice_index_or ports.sources q source_place in
        let at : slice_get ports.sources q ≡ Some place = slice_get-get_or ports.sources q source_place h in
        record {
          done = 0;
          is =
              slice_get-map (λ (place : PortPlace). first_port place.kind) (ports.sources ++ ports.sinks) q
              ∙ ap (option_map (λ (place : PortPlace). first_port place.kind)) (source_port flow ports are q place at)
              ∙ ap (λ kind. Some (first_port kind)) (source_kind flow ports are q place at);
          left = refl;
        };
    sinks = λ q h.
        let place : PortPlace = slice_index_or ports.sinks q sink_place in
        let at : slice_get ports.sinks q ≡ Some place = slice_get-get_or ports.sinks q sink_place h in
        record {
          got = [];
          is =
              slice_get-map (λ (place : PortPlace). first_port place.kind) (ports.sources ++ ports.sinks) (length ports.sources + q)
              ∙ ap (option_map (λ (place : PortPlace). first_port place.kind)) (sink_port flow ports are q place at)
              ∙ ap (λ kind. Some (first_port kind)) (sink_kind flow ports are q place at);
          left = refl;
        };
  }

  module _ (i j : ℕ) (states : ℕ → Option Local) (at : AreAt ports inputs values i j states) (x : ℕ) where
    -- one input more
    module _ (here : slice_get inputs i ≡ Some x) (some : slice_index ports.comes i < length ports.sources) where
      abbrev q : ℕ
      q = slice_index ports.comes i

      pub sent : HasLeft (picked q ports.comes inputs) (x ∷ picked q (drop (i + 1) ports.comes) (drop (i + 1) inputs)) (states q)
      sent =
          let old = at.sources q some in
          record { done = old.done; is = old.is; left = old.left ∙ picked_own q ports.comes inputs i x here refl }

      pub sent_more : AreAt ports inputs values (i + 1) j (with_port q (Source (record { done = sent.done + 1; got = [] })) states)
      sent_more = record { sources = λ u h. ⊎_elim own (other u h) (cases_eq u q); sinks = sinks }
        where
          next : Local
          next = Source (record { done = sent.done + 1; got = [] })

          own : {u : ℕ} → u ≡ q → HasLeft (picked u ports.comes inputs) (picked u (drop (i + 1) ports.comes) (drop (i + 1) inputs)) (with_port q next states u)
          own e =
              let there = is_there (picked q ports.comes inputs) sent.done x (picked q (drop (i + 1) ports.comes) (drop (i + 1) inputs)) sent.left in
              subst (λ u. HasLeft (picked u ports.comes inputs) (picked u (drop (i + 1) ports.comes) (drop (i + 1) inputs)) (with_port q next states u)) (sym e)
              (record { done = sent.done + 1; is = port_here q next states; left = there.2 })

          other : (u : ℕ) → u < length ports.sources → (u ≡ q → ⊥) → HasLeft (picked u ports.comes inputs) (picked u (drop (i + 1) ports.comes) (drop (i + 1) inputs)) (with_port q next states u)
          other u h ne =
              let old = at.sources u h in
              record {
                done = old.done;
                is = port_there q next states u ne ∙ old.is;
                left = old.left ∙ picked_other u ports.comes inputs i x here (λ e. ne (sym e));
              }

          sinks : (u : ℕ) → u < length ports.sinks → HasGot (picked u ports.goes values) (picked u (drop j ports.goes) (drop j values)) (with_port q next states (length ports.sources + u))
          sinks u h =
              let old = at.sinks u h in
              record { got = old.got; is = port_there q next states (length ports.sources + u) (λ e. omega (arith, e, some)) ∙ old.is; left = old.left }

    -- one out more
    module _ (here : slice_get values j ≡ Some x) (some : slice_index ports.goes j < length ports.sinks) where
      abbrev r : ℕ
      r = slice_index ports.goes j

      pub got : HasGot (picked r ports.goes values) (x ∷ picked r (drop (j + 1) ports.goes) (drop (j + 1) values)) (states (length ports.sources + r))
      got =
          let old = at.sinks r some in
          record { got = old.got; is = old.is; left = ap (λ xs. old.got ++ xs) (sym (picked_own r ports.goes values j x here refl)) ∙ old.left }

      pub got_more : AreAt ports inputs values i (j + 1) (with_port (length ports.sources + r) (Sink (record { done = length (got.got ++ x ∷ []); got = got.got ++ x ∷ [] })) states)
      got_more = record { sources = sources; sinks = λ u h. ⊎_elim own (other u h) (cases_eq u r) }
        where
          p : ℕ
          p = length ports.sources + r

          next : Local
          next = Sink (record { done = length (got.got ++ x ∷ []); got = got.got ++ x ∷ [] })

          own : {u : ℕ} → u ≡ r → HasGot (picked u ports.goes values) (picked u (drop (j + 1) ports.goes) (drop (j + 1) values)) (with_port p next states (length ports.sources + u))
          own e =
              subst (λ u. HasGot (picked u ports.goes values) (picked u (drop (j + 1) ports.goes) (drop (j + 1) values)) (with_port p next states (length ports.sources + u))) (sym e)
              (record {
                got = got.got ++ x ∷ [];
                is = port_here p next states;
                left = append_assoc got.got (x ∷ []) (picked r (drop (j + 1) ports.goes) (drop (j + 1) values)) ∙ got.left;
              })

          other : (u : ℕ) → u < length ports.sinks → (u ≡ r → ⊥) → HasGot (picked u ports.goes values) (picked u (drop (j + 1) ports.goes) (drop (j + 1) values)) (with_port p next states (length ports.sources + u))
          other u h ne =
              let old = at.sinks u h in
              record {
                got = old.got;
                is = port_there p next states (length ports.sources + u) (λ e. ne (omega (arith, e))) ∙ old.is;
                left = ap (λ xs. old.got ++ xs) (sym (picked_other u ports.goes values j x here (λ e. ne (sym e)))) ∙ old.left;
              }

          sources : (u : ℕ) → u < length ports.sources → HasLeft (picked u ports.comes inputs) (picked u (drop i ports.comes) (drop i inputs)) (with_port p next states u)
          sources u h =
              let old = at.sources u h in
              record { done = old.done; is = port_there p next states u (λ e. omega (arith, e, h)) ∙ old.is; left = old.left }

  -- at the end
  module _ (states : ℕ → Option Local) (at : AreAt ports inputs values (length inputs) (length values) states) where
    pub all_sent : (q : ℕ) (some : q < length ports.sources) → length (picked q ports.comes inputs) ≤ (at.sources q some).done
    all_sent q some =
        let old = at.sources q some in
        none_left (picked q ports.comes inputs) old.done
        (old.left ∙ ap (picked q (drop (length inputs) ports.comes)) (drop_past inputs (length inputs) (omega arith)) ∙ picked_none q (drop (length inputs) ports.comes))

    pub all_got : (q : ℕ) (some : q < length ports.sinks) → (at.sinks q some).got ≡ picked q ports.goes values
    all_got q some =
        let old = at.sinks q some in
        sym (append-nil old.got)
        ∙ ap (λ xs. old.got ++ xs) (sym (ap (picked q (drop (length values) ports.goes)) (drop_past values (length values) (omega arith)) ∙ picked_none q (drop (length values) ports.goes)))
        ∙ old.left
