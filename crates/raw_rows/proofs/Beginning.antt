-- The start of a set stands at the cut that sees no row.
use Rattle.std.proofs.Common.{◌≡◌, ℕ, zero, suc, ◌*◌, ◌^◌, ◌<◌, List, [], ◌∷◌, ◌++◌, length, map, replicate, Option, Some, None, refl, sym, ap, ◌∙◌, subst, arith}
use Rattle.std.specs.Prelude.{slice_get, slice_index}
use Rattle.std.proofs.lemmas.Option.{get_or_from_slice_get}
use Rattle.raw_tile_isa.specs.Words.{EachGivesWords}
use Rattle.raw_grid.specs.Wires.{wires_of}
use Rattle.raw_grid.specs.declared.parts.PortKind.{PortKind}
use Rattle.raw_grid.specs.declared.parts.PortKind.TheVariants as kind
use Rattle.raw_grid.specs.declared.parts.PortPlace.{PortPlace}
use Rattle.raw_model.specs.Program.{ProgramSet, TileProgram, IsSet}
use Rattle.raw_model.specs.Local.{Local, Tile, Switch, Source, Sink}
use Rattle.raw_model.specs.TileTable.{word_at}
use Rattle.raw_model.specs.Start.{MachineState, first_tile, first_switch, first_port, start}
use Rattle.raw_flow.specs.declared.node.Node.{Node}
use Rattle.raw_flow.specs.declared.node.Node.TheVariants.{Const}
use Rattle.raw_flow.specs.Flows.{IsNode}
use Rattle.raw_term.specs.TermMachine.{first_nodes, first_term_tiles}
use Rattle.raw_term.proofs.Terms.{Holds, AreTerms, some_is, none_some, term_values}
use Rattle.raw_term.proofs.Image.{Pairs, AlikeLocals, AlikeAt, local_at}
use Rattle.raw_term.proofs.TileTerms.{none_holds}
use Rattle.raw_term.proofs.Rows.{AlikeLocal}
use Rattle.raw_term.proofs.Claims.{cells_of}
use Rattle.raw_term.proofs.Start.{TilesMade, tiles_made, locals_append, switches_stand, ports_stand}
use Rattle.raw_stream.specs.Streams.{Stream, valued, first_words}
use Rattle.raw_row_terms.specs.RowTerms.{AreWordNodes}
use Rattle.raw_rows.specs.Kernels.{joined, run_ports, start_cut, AtBoth, fed_rows}
use Rattle.raw_rows.proofs.Frames.{Framed}
use Rattle.raw_rows.proofs.Locals.{IsValued}
use Rattle.raw_rows.proofs.Kernels.{Each, each_append}
use Rattle.raw_rows.proofs.Led.{StandsAt, sent_of, had_of}

-- a local state that has counted nothing
abbrev IsFresh : Local → Type 0
IsFresh (Tile m) = m.count ≡ 0
IsFresh (Switch m) = m.count ≡ 0
IsFresh (Source m) = m.done ≡ 0
IsFresh (Sink m) = (m.done ≡ 0) × (m.got ≡ [])

index_valued : (V xs : List ℕ) (i : ℕ) → i < length xs → slice_index V (slice_index xs i) ≡ slice_index (valued V xs) i
index_valued V [] i h = absurd (omega (arith, h))
index_valued V (x ∷ xs) zero h = refl
index_valued V (x ∷ xs) (suc i) h = index_valued V xs i (omega (arith, h))

held_values : (V xs ys : List ℕ) → Pairs (Holds V) xs ys → ys ≡ valued V xs
held_values V [] [] h = refl
held_values V [] (y ∷ ys) h = absurd h
held_values V (x ∷ xs) [] h = absurd h
held_values V (x ∷ xs) (y ∷ ys) h = ap (λ z. z ∷ ys) (sym (get_or_from_slice_get V x y 0 h.0)) ∙ ap (λ zs. slice_index V x ∷ zs) (held_values V xs ys h.1)

-- what stands for a fresh local state has its values
alike_valued : (V : List ℕ) (p : ℕ) (l m : Local) → AlikeLocal V l m → IsFresh m → IsValued V p l m
alike_valued V p (Tile l) (Tile m) h fresh = record {
  is = λ i. record { regs = held_values V l.regs m.regs h.core.each i; pc = sym (ap (λ k. k.pc) h.rest) i; count = fresh i; mark = sym (ap (λ k. k.mark) h.rest) i; memory = m.memory };
  many = h.core.many;
  size = h.core.size;
  bytes = h.core.bytes;
  words = λ i lt. sym (get_or_from_slice_get V (slice_index l.memory i) (word_at m.memory (4 * i)) 0 (h.core.words i lt)) ∙ index_valued V l.memory i (omega (arith, lt, h.core.many));
}
alike_valued V p (Switch l) (Switch m) h fresh =
    λ i. record { regs = held_values V l.regs m.regs h.1 i; pc = sym (ap (λ k. k.pc) h.0) i; count = fresh i; mark = sym (ap (λ k. k.mark) h.0) i }
alike_valued V p (Source l) (Source m) h fresh = sym h
alike_valued V p (Sink l) (Sink m) h fresh = λ i. record { done = sym h.0 i; got = held_values V l.got m.got h.1 i }
alike_valued V p _ _ h fresh = absurd h

-- the local states of a start are fresh
tiles_fresh : (tiles : List TileProgram) → Each IsFresh (map (λ (tile : TileProgram). Tile (first_tile tile)) tiles)
tiles_fresh [] i x e = none_some x e
tiles_fresh (tile ∷ tiles) zero x e = subst IsFresh (some_is (Tile (first_tile tile)) x e) refl
tiles_fresh (tile ∷ tiles) (suc i) x e = tiles_fresh tiles i x e

switches_fresh : (tiles : List TileProgram) → Each IsFresh (map (λ (tile : TileProgram). Switch (first_switch tile.switch)) tiles)
switches_fresh [] i x e = none_some x e
switches_fresh (tile ∷ tiles) zero x e = subst IsFresh (some_is (Switch (first_switch tile.switch)) x e) refl
switches_fresh (tile ∷ tiles) (suc i) x e = switches_fresh tiles i x e

port_fresh : (k : PortKind) → IsFresh (first_port k)
port_fresh kind.Source = refl
port_fresh kind.Sink = (refl, refl)

ports_fresh : (places : List PortPlace) → Each IsFresh (map (λ (place : PortPlace). first_port place.kind) places)
ports_fresh [] i x e = none_some x e
ports_fresh (place ∷ places) zero x e = subst IsFresh (some_is (first_port place.kind) x e) (port_fresh place.kind)
ports_fresh (place ∷ places) (suc i) x e = ports_fresh places i x e

valued_wires : (V : List ℕ) (n : ℕ) → replicate n [] ≡ map (valued V) (replicate n [])
valued_wires V zero = refl
valued_wires V (suc n) = ap (λ ws. [] ∷ ws) (valued_wires V n)

-- a table with 0 alone
one_node : (v : ℕ) (node : Node) → slice_get (first_nodes 0) v ≡ Some node → IsNode v node
one_node zero node e = let small : 0 < 2 ^ 32 = omega arith in subst (λ m. IsNode 0 m) (some_is (Const 0) node e) small
one_node (suc v) node e = none_some node e

one_word : (c x : ℕ) → slice_get (0 ∷ []) c ≡ Some x → x < 2 ^ 32
one_word zero x e = subst (λ v. v < 2 ^ 32) (some_is 0 x e) (omega arith)
one_word (suc c) x e = none_some x e

one_term : (inputs : List ℕ) → AreTerms inputs (first_nodes 0)
one_term inputs = record { none = refl; are = one_node; words = one_word }

module _ (each : EachGivesWords) (set_ : ProgramSet) (s : Stream) (valid : IsSet set_) where
  made : (inputs : List ℕ) → TilesMade inputs (first_nodes 0) (first_term_tiles (first_nodes 0) set_.tiles) (map (λ (tile : TileProgram). Tile (first_tile tile)) set_.tiles)
  made inputs = tiles_made inputs (first_nodes 0) set_.tiles (cells_of inputs set_ valid) (one_term inputs)

  pub start_constants : AreWordNodes (start_cut set_).at.nodes
  start_constants v word e = (made []).terms.are v (Const word) e

  pub start_stands_at : (all : List (List ℕ)) → StandsAt each set_ s valid (start_cut set_) [] [] 0 (start (fed_rows set_ s all))
  unfolding start
  start_stands_at all =
      let inputs : List ℕ = first_words s ++ joined [] in
      let t : MachineState = start (fed_rows set_ s all) in
      let made_ = made inputs in
      let nodes : List Node = (first_term_tiles (first_nodes 0) set_.tiles).nodes in
      let V : List ℕ = term_values inputs nodes in
      let none : Holds V 0 0 = none_holds inputs nodes made_.terms in
      let tiles : List Local = map (λ (tile : TileProgram). Tile (first_tile tile)) set_.tiles in
      let switches : List Local = map (λ (tile : TileProgram). Switch (first_switch tile.switch)) set_.tiles in
      let ports : List Local = map (λ (place : PortPlace). first_port place.kind) set_.topo.places in
      let alike : AlikeLocals (AlikeLocal V) ((first_term_tiles (first_nodes 0) set_.tiles).tiles ++ (switches ++ ports)) (tiles ++ (switches ++ ports)) =
      locals_append (AlikeLocal V) (first_term_tiles (first_nodes 0) set_.tiles).tiles tiles (switches ++ ports) (switches ++ ports) made_.tiles
      (locals_append (AlikeLocal V) switches switches ports ports (switches_stand V none set_.tiles) (ports_stand V set_.topo.places)) in
      let fresh : Each IsFresh (tiles ++ (switches ++ ports)) = each_append IsFresh tiles (switches ++ ports) (tiles_fresh set_.tiles) (each_append IsFresh switches ports (switches_fresh set_.tiles) (ports_fresh set_.topo.places)) in
      record {
        part = t;
        locals = λ p. by_values V p (slice_get ((first_term_tiles (first_nodes 0) set_.tiles).tiles ++ (switches ++ ports)) p) (slice_get (tiles ++ (switches ++ ports)) p)
            (local_at (AlikeLocal V) ((first_term_tiles (first_nodes 0) set_.tiles).tiles ++ (switches ++ ports)) (tiles ++ (switches ++ ports)) alike p) (λ m e. fresh p m e);
        wires = valued_wires V (length (wires_of set_.topo));
        framed = record { each = λ p. by_frame p (slice_get (tiles ++ (switches ++ ports)) p) (λ m e. fresh p m e); wires = refl };
      }
    where
      by_values : (V : List ℕ) (p : ℕ) (o q : Option Local) → AlikeAt (AlikeLocal V) o q → ((m : Local) → q ≡ Some m → IsFresh m) → AtBoth (IsValued V) p o q
      by_values V p None None h fresh = tt
      by_values V p None (Some m) h fresh = absurd h
      by_values V p (Some l) None h fresh = absurd h
      by_values V p (Some l) (Some m) h fresh = alike_valued V p l m h (fresh m refl)

      by_local : (p : ℕ) (m : Local) → IsFresh m → Framed set_ 0 (run_ports s (length set_.ports) []) 0 (sent_of each set_ s valid []) (had_of each set_ s valid (first_words s) []) p m m
      by_local p (Tile m) fresh = (refl, omega arith, omega (arith, fresh))
      by_local p (Switch m) fresh = (refl, omega arith, omega (arith, fresh))
      by_local p (Source m) fresh = (omega arith, refl, omega (arith, fresh))
      by_local p (Sink m) fresh = (omega arith, refl, omega (arith, fresh.0))

      by_frame : (p : ℕ) (o : Option Local) → ((m : Local) → o ≡ Some m → IsFresh m) → AtBoth (Framed set_ 0 (run_ports s (length set_.ports) []) 0 (sent_of each set_ s valid []) (had_of each set_ s valid (first_words s) [])) p o o
      by_frame p None fresh = tt
      by_frame p (Some m) fresh = by_local p m (fresh m refl)
