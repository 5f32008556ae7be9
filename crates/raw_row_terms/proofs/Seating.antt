-- A stream with the ports of a set is the same stream.
use Rattle.std.proofs.Common.{◌≡◌, ℕ, zero, suc, ◌+◌, ◌<◌, Bool, true, false, cond, List, [], ◌∷◌, ◌++◌, length, get_or, map, drop, Option, Some, None, refl, sym, ap, ◌∙◌, subst, arith, eq-eqb}
use Rattle.std.specs.Prelude.{◌==◌, ◌||◌, slice_get, slice_index}
use Rattle.std.specs.List.{All, filter_map, cons_option, flat_map, list_any, range_with_len}
use Rattle.std.specs.Option.{option_map}
use Rattle.std.proofs.lemmas.Bool.{eqb-true, ne_eqb}
use Rattle.std.proofs.lemmas.List.{length-map, get_or-map}
use Rattle.std.proofs.lemmas.Option.{slice_get-map}
use Rattle.raw_grid.specs.Topology.{Topology}
use Rattle.raw_stream.specs.declared.out.StreamOut.{StreamOut}
use Rattle.raw_stream.specs.declared.row_node.RowNode.{RowNode}
use Rattle.raw_stream.specs.declared.row_node.RowNode.TheVariants.{Input, Const, Apply, Pre}
use Rattle.raw_stream.specs.Streams.{Stream, IsRowNode, AreRowNodes, IsOut, AreNamed, plain, taken, row_of, valued, next_of, carried_after, rows_of, due_of, due_to}
use Rattle.raw_stream.specs.Unrolled.{all_due}
use Rattle.raw_flow.specs.Flows.{values_from}
use Rattle.raw_term.proofs.Terms.{some_is, none_some}
use Rattle.raw_row_terms.specs.RowClaims.{due_in}
use Rattle.raw_row_terms.specs.Seated.{AreSeats, reseated, reseated_out, seated, IsSeated, EachIsSeated}

-- ---- rows do not look at ports
same_taken : (seats : List ℕ) (nodes : List RowNode) (carried words : List ℕ) → taken (map (reseated seats) nodes) carried words ≡ taken nodes carried words
same_taken seats [] carried words = refl
same_taken seats (Input q ∷ nodes) carried words = ap (λ xs. slice_index words 0 ∷ xs) (same_taken seats nodes carried (drop 1 words))
same_taken seats (Const w ∷ nodes) carried words = same_taken seats nodes carried words
same_taken seats (Apply op a b ∷ nodes) carried words = same_taken seats nodes carried words
same_taken seats (Pre a w ∷ nodes) carried words = ap (λ xs. slice_index carried 0 ∷ xs) (same_taken seats nodes (drop 1 carried) words)

same_plain : (seats : List ℕ) (nodes : List RowNode) → map plain (map (reseated seats) nodes) ≡ map plain nodes
same_plain seats [] = refl
same_plain seats (Input q ∷ nodes) = ap (λ ns. plain (Input q) ∷ ns) (same_plain seats nodes)
same_plain seats (Const w ∷ nodes) = ap (λ ns. plain (Const w) ∷ ns) (same_plain seats nodes)
same_plain seats (Apply op a b ∷ nodes) = ap (λ ns. plain (Apply op a b) ∷ ns) (same_plain seats nodes)
same_plain seats (Pre a w ∷ nodes) = ap (λ ns. plain (Pre a w) ∷ ns) (same_plain seats nodes)

same_next : (seats : List ℕ) (nodes : List RowNode) → filter_map next_of (map (reseated seats) nodes) ≡ filter_map next_of nodes
same_next seats [] = refl
same_next seats (Input q ∷ nodes) = same_next seats nodes
same_next seats (Const w ∷ nodes) = same_next seats nodes
same_next seats (Apply op a b ∷ nodes) = same_next seats nodes
same_next seats (Pre a w ∷ nodes) = ap (λ ns. a ∷ ns) (same_next seats nodes)

module _ (topo : Topology) (sources sinks : List ℕ) (s : Stream) where
  abbrev there : Stream
  there = seated topo sources sinks s

  same_row : (carried words : List ℕ) → row_of there carried words ≡ row_of s carried words
  same_row carried words =
      ap (λ ins. values_from ins 0 [] (map plain (map (reseated sources) s.nodes))) (same_taken sources s.nodes carried words)
      ∙ ap (λ ns. values_from (taken s.nodes carried words) 0 [] ns) (same_plain sources s.nodes)

  same_carried : (carried words : List ℕ) → carried_after there carried words ≡ carried_after s carried words
  same_carried carried words =
      ap (λ xs. valued xs (filter_map next_of (map (reseated sources) s.nodes))) (same_row carried words) ∙ ap (valued (row_of s carried words)) (same_next sources s.nodes)

  same_rows : (carried : List ℕ) (words : List (List ℕ)) → rows_of there carried words ≡ rows_of s carried words
  same_rows carried [] = refl
  same_rows carried (row ∷ words) =
      ap (λ xs. xs ∷ rows_of there (carried_after there carried row) words) (same_row carried row)
      ∙ ap (λ xs. row_of s carried row ∷ xs) (ap (λ cs. rows_of there cs words) (same_carried carried row) ∙ same_rows (carried_after s carried row) words)

  module _ (named : AreNamed s) (from : AreSeats topo s.sources sources) (to : AreSeats topo s.sinks sinks) where
    -- ---- it names what there is
    seated_node : (v : ℕ) (n : RowNode) → IsRowNode (length s.sources) (length s.nodes) v n → IsRowNode (length topo.places) (length (map (reseated sources) s.nodes)) v (reseated sources n)
    seated_node v (Input q) h = from.within q 0 (omega (arith, h, from.each))
    seated_node v (Const w) h = h
    seated_node v (Apply op a b) h = h
    seated_node v (Pre a w) h = (omega (arith, h.0, length-map s.nodes (reseated sources)), h.1)

    seated_nodes : AreRowNodes (length topo.places) (map (reseated sources) s.nodes)
    seated_nodes v node e = by (slice_get s.nodes v) refl where
      by : (o : Option RowNode) → slice_get s.nodes v ≡ o → IsRowNode (length topo.places) (length (map (reseated sources) s.nodes)) v node
      by None f = none_some node (sym (slice_get-map (reseated sources) s.nodes v ∙ ap (option_map (reseated sources)) f) ∙ e)
      by (Some n) f =
          subst (IsRowNode (length topo.places) (length (map (reseated sources) s.nodes)) v)
          (some_is (reseated sources n) node (sym (slice_get-map (reseated sources) s.nodes v ∙ ap (option_map (reseated sources)) f) ∙ e)) (seated_node v n (named.nodes v n f))

    seated_outs : All (IsOut (length topo.places) (length (map (reseated sources) s.nodes))) (map (reseated_out sinks) s.outs)
    seated_outs k d lt =
        let below : k < length s.outs = omega (arith, lt, length-map s.outs (reseated_out sinks)) in
        let out : StreamOut = get_or s.outs k d in
        let is : IsOut (length s.sinks) (length s.nodes) out = named.outs k d below in
        let port : slice_index sinks out.port < length topo.places = to.within out.port 0 (omega (arith, is.port, to.each)) in
        let node : out.node < length (map (reseated sources) s.nodes) = omega (arith, is.node, length-map s.nodes (reseated sources)) in
        subst (IsOut (length topo.places) (length (map (reseated sources) s.nodes))) (sym (get_or-map (reseated_out sinks) s.outs k d d below)) (record { port = port; node = node })

    -- ---- what its sinks are due
    not_among : (xs : List ℕ) (q : ℕ) → list_any (λ p. p == q) xs ≡ false → (i : ℕ) → i < length xs → (slice_index xs i == q) ≡ false
    not_among [] q e i lt = absurd (omega (arith, lt))
    not_among (x ∷ xs) q e i lt = by (x == q) refl e i lt (λ rest j below. not_among xs q rest j below) where
      by : (b : Bool) → (x == q) ≡ b → (b || list_any (λ p. p == q) xs) ≡ false → (i : ℕ) → i < suc (length xs) → (list_any (λ p. p == q) xs ≡ false → (j : ℕ) → j < length xs → (slice_index xs j == q) ≡ false)
          → (slice_index (x ∷ xs) i == q) ≡ false
      by true is f i lt later = cc f
      by false is f zero lt later = is
      by false is f (suc i) lt later = later f i (omega (arith, lt))

    tail_outs : (out : StreamOut) (outs : List StreamOut) → All (IsOut (length s.sinks) (length s.nodes)) (out ∷ outs) → All (IsOut (length s.sinks) (length s.nodes)) outs
    tail_outs out outs all k d lt = all (suc k) d (omega (arith, lt))

    none_due : (q : ℕ) → list_any (λ p. p == q) sinks ≡ false → (outs : List StreamOut) → All (IsOut (length s.sinks) (length s.nodes)) outs → filter_map (due_of q) (map (reseated_out sinks) outs) ≡ []
    none_due q none [] all = refl
    none_due q none (out ∷ outs) all =
        let is : IsOut (length s.sinks) (length s.nodes) out = all 0 out (omega arith) in
        let other : (slice_index sinks out.port == q) ≡ false = not_among sinks q none out.port (omega (arith, is.port, to.each)) in
        ap (λ b. cons_option (cond b (Some out.node) None) (filter_map (due_of q) (map (reseated_out sinks) outs))) other ∙ none_due q none outs (tail_outs out outs all)

    same_test : (p q : ℕ) → p < length s.sinks → q < length s.sinks → (slice_index sinks p == slice_index sinks q) ≡ (p == q)
    same_test p q p_lt q_lt = by (p == q) refl where
      by : (b : Bool) → (p == q) ≡ b → (slice_index sinks p == slice_index sinks q) ≡ (p == q)
      by true is = eq-eqb (slice_index sinks p) (slice_index sinks q) (ap (slice_index sinks) (eqb-true p q is)) ∙ sym is
      by false is =
          ne_eqb (slice_index sinks p) (slice_index sinks q) (λ same. differ is (to.apart p q p_lt q_lt same)) ∙ sym is
        where
          differ : (p == q) ≡ false → p ≡ q → ⊥
          differ other same = cc (sym other ∙ eq-eqb p q same)

    same_due : (q : ℕ) → q < length s.sinks → (outs : List StreamOut) → All (IsOut (length s.sinks) (length s.nodes)) outs
        → filter_map (due_of (slice_index sinks q)) (map (reseated_out sinks) outs) ≡ filter_map (due_of q) outs
    same_due q lt [] all = refl
    same_due q lt (out ∷ outs) all =
        let is : IsOut (length s.sinks) (length s.nodes) out = all 0 out (omega arith) in
        ap (λ b. cons_option (cond b (Some out.node) None) (filter_map (due_of (slice_index sinks q)) (map (reseated_out sinks) outs))) (same_test out.port q is.port lt)
        ∙ ap (λ rest. cons_option (cond (out.port == q) (Some out.node) None) rest) (same_due q lt outs (tail_outs out outs all))

    in_order : (g h : ℕ → List ℕ) (xs : List ℕ) (k : ℕ) → ((i : ℕ) → i < length xs → g (slice_index xs i) ≡ h (k + i)) → flat_map g xs ≡ flat_map h (range_with_len k (length xs))
    in_order g h [] k same = refl
    in_order g h (x ∷ xs) k same =
        let here : k + 0 ≡ k = omega arith in
        let own : g x ≡ h k = same 0 (omega arith) ∙ ap h here in
        ap (λ ys. ys ++ flat_map g xs) own ∙ ap (λ ys. h k ++ ys) (in_order g h xs (k + 1) later)
      where
        later : (i : ℕ) → i < length xs → g (slice_index xs i) ≡ h (k + 1 + i)
        later i lt = let moved : k + suc i ≡ k + 1 + i = omega arith in same (suc i) (omega (arith, lt)) ∙ ap h moved

    due_same : (values : List (List ℕ)) → due_in there sinks values ≡ all_due s values
    due_same values =
        in_order (λ q. due_to there q values) (λ q. due_to s q values) sinks 0 each
        ∙ ap (λ n. flat_map (λ q. due_to s q values) (range_with_len 0 n)) to.each
      where
        each : (i : ℕ) → i < length sinks → due_to there (slice_index sinks i) values ≡ due_to s (0 + i) values
        each i lt =
            let none : i ≡ 0 + i = omega arith in
            ap (λ nodes. flat_map (λ (row : List ℕ). valued row nodes) values) (same_due i (omega (arith, lt, to.each)) s.outs named.outs) ∙ ap (λ q. due_to s q values) none

    pub is_seated : IsSeated topo sources sinks s
    is_seated = record {
      named = record { nodes = seated_nodes; outs = seated_outs };
      ports = record { within = to.within; others = λ q none. none_due q none s.outs named.outs };
      rows = same_rows;
      due = due_same;
    }

pub each_is_seated : EachIsSeated
each_is_seated topo sources sinks s named from to = is_seated topo sources sinks s named from to
