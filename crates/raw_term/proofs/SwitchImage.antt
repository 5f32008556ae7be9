-- What a switch sends: of values that stand for one another it sends such again.
use Rattle.std.proofs.Common.{◌≡◌, ℕ, zero, suc, List, [], ◌∷◌, ◌++◌, length, get_or, set, map, drop, Option, Some, None, refl}
use Rattle.std.specs.Prelude.{slice_index_or, unwrap_or}
use Rattle.std.specs.List.{flat_map}
use Rattle.raw_network.specs.Network.{Sent}
use Rattle.raw_switch_isa.specs.declared.instruction.SwitchSource.{SwitchSource}
use Rattle.raw_switch_isa.specs.declared.instruction.SwitchSource.TheVariants.{Register, Input}
use Rattle.raw_switch_isa.specs.Instruction.{SwitchInstruction}
use Rattle.raw_switch_isa.specs.Ends.{ends, route_source}
use Rattle.raw_grid.specs.Topology.{Topology}
use Rattle.raw_grid.specs.Wires.{output_wire}
use Rattle.raw_model.specs.Local.{SwitchLocal}
use Rattle.raw_model.specs.SwitchTable.{source_value, routed, effect_of}
use Rattle.raw_model.specs.Machine.{taken_at, given_first, given_at, given_to, sent_to, switch_network_row}
use Rattle.raw_term.proofs.Image.{Pairs, PairsSent}

abbrev pub Maybe : (ℕ → ℕ → Type 0) → Option ℕ → Option ℕ → Type 0
Maybe H None None = Unit {0}
Maybe H None (Some y) = ⊥
Maybe H (Some x) None = ⊥
Maybe H (Some x) (Some y) = H x y

abbrev pub Maybes : (ℕ → ℕ → Type 0) → List (Option ℕ) → List (Option ℕ) → Type 0
Maybes H [] [] = Unit {0}
Maybes H [] (q ∷ qs) = ⊥
Maybes H (o ∷ os) [] = ⊥
Maybes H (o ∷ os) (q ∷ qs) = Maybe H o q × Maybes H os qs

-- switches at the same place, whose registers stand for one another
pub record AlikeSwitch (H : ℕ → ℕ → Type 0) (l m : SwitchLocal) : Type 0 where
  pub regs : Pairs H l.regs m.regs
  pub rest : record l { regs = [] } ≡ record m { regs = [] }

module _ (H : ℕ → ℕ → Type 0) (none : H 0 0) where
  pairs_drop : (n : ℕ) (xs ys : List ℕ) → Pairs H xs ys → Pairs H (drop n xs) (drop n ys)
  pairs_drop zero xs ys h = h
  pairs_drop (suc n) [] [] h = tt
  pairs_drop (suc n) [] (y ∷ ys) h = absurd h
  pairs_drop (suc n) (x ∷ xs) [] h = absurd h
  pairs_drop (suc n) (x ∷ xs) (y ∷ ys) h = pairs_drop n xs ys h.1

  pub pairs_at : (xs ys : List ℕ) → Pairs H xs ys → (i : ℕ) → H (get_or xs i 0) (get_or ys i 0)
  pairs_at [] [] h i = none
  pairs_at [] (y ∷ ys) h i = absurd h
  pairs_at (x ∷ xs) [] h i = absurd h
  pairs_at (x ∷ xs) (y ∷ ys) h zero = h.0
  pairs_at (x ∷ xs) (y ∷ ys) h (suc i) = pairs_at xs ys h.1 i

  pub pairs_set : (xs ys : List ℕ) → Pairs H xs ys → (i x y : ℕ) → H x y → Pairs H (set xs i x) (set ys i y)
  pairs_set [] [] h i a b g = tt
  pairs_set [] (y ∷ ys) h i a b g = absurd h
  pairs_set (x ∷ xs) [] h i a b g = absurd h
  pairs_set (x ∷ xs) (y ∷ ys) h zero a b g = (g, h.1)
  pairs_set (x ∷ xs) (y ∷ ys) h (suc i) a b g = (h.0, pairs_set xs ys h.1 i a b g)

  pub maybe_at : (os qs : List (Option ℕ)) → Maybes H os qs → (i : ℕ) → Maybe H (get_or os i None) (get_or qs i None)
  maybe_at [] [] h i = tt
  maybe_at [] (q ∷ qs) h i = absurd h
  maybe_at (o ∷ os) [] h i = absurd h
  maybe_at (o ∷ os) (q ∷ qs) h zero = h.0
  maybe_at (o ∷ os) (q ∷ qs) h (suc i) = maybe_at os qs h.1 i

  first_alike : (wires xs ys : List ℕ) → Pairs H xs ys → Maybe H (given_first wires xs) (given_first wires ys)
  first_alike [] xs ys h = tt
  first_alike (w ∷ wires) xs ys h = pairs_at xs ys h 0

  pub given_alike : (topo : Topology) (p : ℕ) (ins : SwitchInstruction) (es xs ys : List ℕ) → Pairs H xs ys → Maybes H (given_at topo p ins es xs) (given_at topo p ins es ys)
  given_alike topo p ins [] xs ys h = tt
  given_alike topo p ins (e ∷ es) xs ys h =
      let n : ℕ = length (taken_at topo p ins e) in
      (first_alike (taken_at topo p ins e) xs ys h, given_alike topo p ins es (drop n xs) (drop n ys) (pairs_drop n xs ys h))

  pub source_alike : (rs qs : List ℕ) (gs hs : List (Option ℕ)) → Pairs H rs qs → Maybes H gs hs → (o : Option SwitchSource) → Maybe H (source_value rs gs o) (source_value qs hs o)
  source_alike rs qs gs hs r g None = tt
  source_alike rs qs gs hs r g (Some (Register i)) = pairs_at rs qs r i
  source_alike rs qs gs hs r g (Some (Input i)) = maybe_at gs hs g i

  routes_alike : (ins : SwitchInstruction) (rs qs : List ℕ) (gs hs : List (Option ℕ)) → Pairs H rs qs → Maybes H gs hs → (es : List ℕ)
      → Maybes H (map (λ o. source_value rs gs (route_source ins o)) es) (map (λ o. source_value qs hs (route_source ins o)) es)
  routes_alike ins rs qs gs hs r g [] = tt
  routes_alike ins rs qs gs hs r g (e ∷ es) = (source_alike rs qs gs hs r g (route_source ins e), routes_alike ins rs qs gs hs r g es)

  nothing_alike : (es : List ℕ) → Maybes H (map (λ (e : ℕ). None) es) (map (λ (e : ℕ). None) es)
  nothing_alike [] = tt
  nothing_alike (e ∷ es) = (tt, nothing_alike es)

  pub sent_append : (ms ns os qs : List Sent) → PairsSent H ms ns → PairsSent H os qs → PairsSent H (ms ++ os) (ns ++ qs)
  sent_append [] [] os qs g h = h
  sent_append [] (n ∷ ns) os qs g h = absurd g
  sent_append (m ∷ ms) [] os qs g h = absurd g
  sent_append (m ∷ ms) (n ∷ ns) os qs g h = (g.0, g.1, sent_append ms ns os qs g.2 h)

  pub to_alike : (wire v u : Option ℕ) → Maybe H v u → PairsSent H (sent_to wire v) (sent_to wire u)
  to_alike None v u h = tt
  to_alike (Some w) None None h = tt
  to_alike (Some w) None (Some y) h = absurd h
  to_alike (Some w) (Some x) None h = absurd h
  to_alike (Some w) (Some x) (Some y) h = (refl, h, tt)

  all_alike : (topo : Topology) (p : ℕ) (os qs : List (Option ℕ)) → Maybes H os qs → (es : List ℕ)
      → PairsSent H (flat_map (λ e. sent_to (output_wire topo p e) (slice_index_or os e None)) es) (flat_map (λ e. sent_to (output_wire topo p e) (slice_index_or qs e None)) es)
  all_alike topo p os qs h [] = tt
  all_alike topo p os qs h (e ∷ es) =
      sent_append (sent_to (output_wire topo p e) (get_or os e None)) (sent_to (output_wire topo p e) (get_or qs e None))
      (flat_map (λ e. sent_to (output_wire topo p e) (slice_index_or os e None)) es) (flat_map (λ e. sent_to (output_wire topo p e) (slice_index_or qs e None)) es)
      (to_alike (output_wire topo p e) (get_or os e None) (get_or qs e None) (maybe_at os qs h e)) (all_alike topo p os qs h es)

  -- what the row sends
  pub switch_sent : (topo : Topology) (p size : ℕ) (o : Option SwitchInstruction) (l m : SwitchLocal) (xs ys : List ℕ) → AlikeSwitch H l m → Pairs H xs ys
      → PairsSent H (switch_network_row topo p (effect_of o size l (given_to topo p o xs))).sent (switch_network_row topo p (effect_of o size m (given_to topo p o ys))).sent
  switch_sent topo p size None l m xs ys r h = all_alike topo p (map (λ (e : ℕ). None) ends) (map (λ (e : ℕ). None) ends) (nothing_alike ends) ends
  switch_sent topo p size (Some ins) l m xs ys r h =
      all_alike topo p (routed ins l.regs (given_to topo p (Some ins) xs)) (routed ins m.regs (given_to topo p (Some ins) ys))
      (routes_alike ins l.regs m.regs (given_to topo p (Some ins) xs) (given_to topo p (Some ins) ys) r.regs (given_alike topo p ins ends xs ys h) ends) ends

  pub value_alike : (o q : Option ℕ) → Maybe H o q → H (unwrap_or o 0) (unwrap_or q 0)
  value_alike None None h = none
  value_alike None (Some y) h = absurd h
  value_alike (Some x) None h = absurd h
  value_alike (Some x) (Some y) h = h
