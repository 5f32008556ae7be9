-- A stream with the numbers of the ports of a set is the same flow when it is unrolled.
use Rattle.std.proofs.Common.{◌≡◌, ◌≢◌, ℕ, zero, suc, ◌+◌, ◌*◌, ◌^◌, ◌<◌, ◌≤◌, Bool, true, false, cond, eqb, List, [], ◌∷◌, ◌++◌, length, get_or, map, replicate, Option, Some, None, refl, sym, ap, ◌∙◌, subst, arith, inl, inr, ◌⊎◌, ◌-◌}
use Rattle.std.specs.Prelude.{slice_get, sum_by}
use Rattle.std.specs.List.{All, filter_map, cons_option, flat_map, list_any, range_with_len}
use Rattle.std.proofs.lemmas.Bool.{both_ways, cases_lt, eq-eqb, eqb-true, ne_eqb}
use Rattle.std.proofs.lemmas.List.{length-append, length-map}
use Rattle.std.proofs.lemmas.List.Elements.{All-map}
use Rattle.std.proofs.lemmas.List.FromFn.{length-range_with_len, get_or-range_with_len}
use Rattle.std.proofs.lemmas.List.Sums.{sum_by-cons}
use Rattle.std.proofs.lemmas.Grind.{flat_map-append}
use Rattle.raw_flow.specs.declared.node.Node.TheVariants as flow_node
use Rattle.raw_stream.specs.declared.out.StreamOut.{StreamOut}
use Rattle.raw_stream.specs.declared.row_node.RowNode.{RowNode}
use Rattle.raw_stream.specs.declared.row_node.RowNode.TheVariants.{Input, Const, Apply, Pre}
use Rattle.raw_stream.specs.Streams.{Stream, IsRowNode, IsOut, AreNamed, due_of, due_at}
use Rattle.raw_stream.specs.Unrolled.{takes, width, rank, first, word_count, word_place, own, first_place, later_place, place, node_at, row_nodes, due_places, unrolled}
use Rattle.raw_grid.specs.declared.parts.PortPlace.{PortPlace}
use Rattle.raw_grid.specs.Topology.{Topology}
use Rattle.raw_model.specs.Program.{ProgramSet, IsSet}
use Rattle.raw_stream.specs.Kept.{IsStream}
use Rattle.raw_term.specs.Claims.{Meets}
use Rattle.raw_row_terms.specs.RowClaims.{AreSinksOf, HasRows, HasPortsOf}
use Rattle.raw_stream_choice.specs.StreamSets.{stream_topo}
use Rattle.raw_stream_choice.specs.PortNumbers.{out_behind, numbered}

-- numbers in two parts
range_split : (n k a : ℕ) → range_with_len a (n + k) ≡ range_with_len a n ++ range_with_len (a + n) k
range_split zero k a =
    let none : a ≡ a + 0 = omega arith in
    let all : 0 + k ≡ k = omega arith in
    ap (range_with_len a) all ∙ ap (λ b. range_with_len b k) none
range_split (suc n) k a =
    let more : suc n + k ≡ suc (n + k) = omega arith in
    let next : (a + 1) + n ≡ a + suc n = omega arith in
    ap (range_with_len a) more ∙ ap (λ xs. a ∷ xs) (range_split n k (a + 1) ∙ ap (λ b. range_with_len (a + 1) n ++ range_with_len b k) next)

-- ---- the same with other ports and outs
-- a stream with the same nodes
abbrev with_ports : Stream → Stream → Stream
with_ports s t = record { cols = s.cols; rows = s.rows; count = s.count; sources = t.sources; sinks = t.sinks; nodes = s.nodes; outs = t.outs }

module _ (s t : Stream) where
  abbrev other : Stream
  other = with_ports s t

  same_first : (q : ℕ) → first other q ≡ first s q
  same_first zero = refl
  same_first (suc q) = ap (λ n. n + s.count * width s q) (same_first q)

  same_word_place : (r q v : ℕ) → word_place other r q v ≡ word_place s r q v
  same_word_place r q v = ap (λ n. n + r * width s q + rank s q v) (same_first q)

  module _ (many : word_count other ≡ word_count s) where
    same_own : (r v : ℕ) → own other r v ≡ own s r v
    same_own r v = ap (λ n. n + r * length s.nodes + v) many

    same_first_place : (v : ℕ) (node : Option RowNode) → first_place other v node ≡ first_place s v node
    same_first_place v (Some (Input q)) = same_word_place 0 q v
    same_first_place v (Some (Const w)) = same_own 0 v
    same_first_place v (Some (Apply op a b)) = same_own 0 v
    same_first_place v (Some (Pre a w)) = same_own 0 v
    same_first_place v None = same_own 0 v

    same_later_place : (r : ℕ) (f g : ℕ → ℕ) → ((a : ℕ) → f a ≡ g a) → (v : ℕ) (node : Option RowNode) → later_place other r f v node ≡ later_place s r g v node
    same_later_place r f g same v (Some (Input q)) = same_word_place r q v
    same_later_place r f g same v (Some (Const w)) = same_own r v
    same_later_place r f g same v (Some (Apply op a b)) = same_own r v
    same_later_place r f g same v (Some (Pre a w)) = same a
    same_later_place r f g same v None = same_own r v

    same_place : (r v : ℕ) → place other r v ≡ place s r v
    same_place zero v = same_first_place v (slice_get s.nodes v)
    same_place (suc r) v = same_later_place (suc r) (λ a. place other r a) (λ a. place s r a) (λ a. same_place r a) v (slice_get s.nodes v)

    same_node : (r : ℕ) (node : RowNode) → node_at other r node ≡ node_at s r node
    same_node r (Input q) = refl
    same_node r (Const w) = refl
    same_node r (Apply op a b) = λ i. flow_node.Apply op (same_place r a i) (same_place r b i)
    same_node r (Pre a w) = refl

    same_nodes : (r : ℕ) (nodes : List RowNode) → map (node_at other r) nodes ≡ map (node_at s r) nodes
    same_nodes r [] = refl
    same_nodes r (node ∷ nodes) = λ i. same_node r node i ∷ same_nodes r nodes i

    same_rows : (rs : List ℕ) → flat_map (row_nodes other) rs ≡ flat_map (row_nodes s) rs
    same_rows [] = refl
    same_rows (r ∷ rs) = λ i. same_nodes r s.nodes i ++ same_rows rs i

    same_places : (r : ℕ) (nodes : List ℕ) → map (place other r) nodes ≡ map (place s r) nodes
    same_places r [] = refl
    same_places r (v ∷ nodes) = λ i. same_place r v i ∷ same_places r nodes i

    due_in_rows : (nodes : List ℕ) (rs : List ℕ) → flat_map (λ r. map (place other r) nodes) rs ≡ flat_map (λ r. map (place s r) nodes) rs
    due_in_rows nodes [] = refl
    due_in_rows nodes (r ∷ rs) = λ i. same_places r nodes i ++ due_in_rows nodes rs i

-- ---- ports that no node names give no words
module _ (s : Stream) (named : AreNamed s) where
  -- no node from v on takes words of port q
  takes_none : (q : ℕ) → length s.sources ≤ q → (nodes : List RowNode) → ((v : ℕ) (node : RowNode) → slice_get nodes v ≡ Some node → (p : ℕ) → node ≡ Input p → p < length s.sources)
      → sum_by (takes q) nodes ≡ 0
  takes_none q above [] few = refl
  takes_none q above (node ∷ nodes) few =
      sum_by-cons (takes q) node nodes ∙ both (takes q node) (sum_by (takes q) nodes) (here node (few 0 node refl)) (takes_none q above nodes (λ v other e. few (suc v) other e))
    where
      both : (a b : ℕ) → a ≡ 0 → b ≡ 0 → a + b ≡ 0
      both a b x y = omega (arith, x, y)

      here : (node : RowNode) → ((p : ℕ) → node ≡ Input p → p < length s.sources) → takes q node ≡ 0
      here (Input p) low =
          let apart : p ≢ q = λ e. let lt = low p refl in omega (arith, lt, above, e) in
          ap (λ b. cond b 1 0) (ne_eqb p q apart)
      here (Const w) low = refl
      here (Apply op a b) low = refl
      here (Pre a w) low = refl

  low_inputs : (v : ℕ) (node : RowNode) → slice_get s.nodes v ≡ Some node → (p : ℕ) → node ≡ Input p → p < length s.sources
  low_inputs v node e p is = subst (IsRowNode (length s.sources) (length s.nodes) v) is (named.nodes v node e)

  pub none_wide : (q : ℕ) → length s.sources ≤ q → width s q ≡ 0
  none_wide q above = takes_none q above s.nodes low_inputs

  no_more_words : (k : ℕ) → first s (length s.sources + k) ≡ first s (length s.sources)
  no_more_words zero = ap (first s) (omega arith)
  no_more_words (suc k) =
      let n : ℕ = length s.sources in
      let next : n + suc k ≡ suc (n + k) = omega arith in
      let none : width s (n + k) ≡ 0 = none_wide (n + k) (omega arith) in
      let nothing : s.count * width s (n + k) ≡ 0 = rw none (omega arith) in
      ap (first s) next ∙ omega (arith, nothing, no_more_words k)

  -- ---- what its sinks are due
  abbrev ports : ℕ
  ports = length s.sources

  none_due : (q : ℕ) → q < ports → (outs : List StreamOut) → filter_map (due_of q) (map (out_behind ports) outs) ≡ []
  none_due q low [] = refl
  none_due q low (out ∷ outs) =
      let apart : ports + out.port ≢ q = λ e. omega (arith, low, e) in
      ap (λ b. cons_option (cond b (Some out.node) None) (filter_map (due_of q) (map (out_behind ports) outs))) (ne_eqb (ports + out.port) q apart) ∙ none_due q low outs

  same_test : (p q : ℕ) → (eqb (ports + p) (ports + q)) ≡ (eqb p q)
  same_test p q = by (eqb p q) refl where
    by : (b : Bool) → eqb p q ≡ b → eqb (ports + p) (ports + q) ≡ eqb p q
    by true is = eq-eqb (ports + p) (ports + q) (ap (λ n. ports + n) (eqb-true p q is)) ∙ sym is
    by false is = ne_eqb (ports + p) (ports + q) (λ e. differ (omega (arith, e))) ∙ sym is where
      differ : p ≡ q → ⊥
      differ e = cc (sym is ∙ eq-eqb p q e)

  same_due : (q : ℕ) (outs : List StreamOut) → filter_map (due_of (ports + q)) (map (out_behind ports) outs) ≡ filter_map (due_of q) outs
  same_due q [] = refl
  same_due q (out ∷ outs) =
      λ i. cons_option (cond (same_test out.port q i) (Some out.node) None) (same_due q outs i)

  -- ---- it is the same flow
  abbrev there : Stream
  there = record {
    cols = s.cols;
    rows = s.rows;
    count = s.count;
    sources = s.sources ++ s.sinks;
    sinks = s.sources ++ s.sinks;
    nodes = s.nodes;
    outs = map (out_behind ports) s.outs;
  }

  long : length (s.sources ++ s.sinks) ≡ ports + length s.sinks
  long = length-append s.sources s.sinks

  many : word_count there ≡ word_count s
  many = ap (first there) long ∙ same_first s there (ports + length s.sinks) ∙ no_more_words (length s.sinks)

  nothing_in_rows : (rs : List ℕ) → flat_map (λ r. map (place there r) []) rs ≡ []
  nothing_in_rows [] = refl
  nothing_in_rows (r ∷ rs) = nothing_in_rows rs

  none_placed : (q : ℕ) → q < ports → due_places there q ≡ []
  none_placed q low = ap (λ nodes. flat_map (λ r. map (place there r) nodes) (range_with_len 0 s.count)) (none_due q low s.outs) ∙ nothing_in_rows (range_with_len 0 s.count)

  none_of_sources : (m a : ℕ) → a + m ≤ ports → flat_map (due_places there) (range_with_len a m) ≡ []
  none_of_sources zero a within = refl
  none_of_sources (suc m) a within =
      ap (λ xs. xs ++ flat_map (due_places there) (range_with_len (a + 1) m)) (none_placed a (omega (arith, within))) ∙ none_of_sources m (a + 1) (omega (arith, within))

  same_placed : (q : ℕ) → due_places there (ports + q) ≡ due_places s q
  same_placed q =
      ap (λ nodes. flat_map (λ r. map (place there r) nodes) (range_with_len 0 s.count)) (same_due q s.outs) ∙ due_in_rows s there many (due_at s q) (range_with_len 0 s.count)

  same_of_sinks : (m a : ℕ) → flat_map (due_places there) (range_with_len (ports + a) m) ≡ flat_map (due_places s) (range_with_len a m)
  same_of_sinks zero a = refl
  same_of_sinks (suc m) a =
      let next : (ports + a) + 1 ≡ ports + (a + 1) = omega arith in
      ap (λ xs. xs ++ flat_map (due_places there) (range_with_len ((ports + a) + 1) m)) (same_placed a)
      ∙ ap (λ xs. due_places s a ++ xs) (ap (λ k. flat_map (due_places there) (range_with_len k m)) next ∙ same_of_sinks m (a + 1))

  same_outs : (unrolled there).outs ≡ (unrolled s).outs
  same_outs =
      let none : 0 + ports ≡ ports + 0 = omega arith in
      ap (λ n. flat_map (due_places there) (range_with_len 0 n)) long
      ∙ ap (flat_map (due_places there)) (range_split ports (length s.sinks) 0)
      ∙ flat_map-append (due_places there) (range_with_len 0 ports) (range_with_len (0 + ports) (length s.sinks))
      ∙ ap (λ xs. xs ++ flat_map (due_places there) (range_with_len (0 + ports) (length s.sinks))) (none_of_sources ports 0 (omega arith))
      ∙ ap (λ k. flat_map (due_places there) (range_with_len k (length s.sinks))) none
      ∙ same_of_sinks (length s.sinks) 0

  same_unrolled_nodes : (unrolled there).nodes ≡ (unrolled s).nodes
  same_unrolled_nodes = λ i. replicate (many i) flow_node.Input ++ same_rows s there many (range_with_len 0 s.count) i

  same_flow : unrolled there ≡ unrolled s
  same_flow = λ i. record { cols = s.cols; rows = s.rows; nodes = same_unrolled_nodes i; outs = same_outs i }

  -- ---- it names what there is
  named_node : (v : ℕ) (node : RowNode) → IsRowNode (length s.sources) (length s.nodes) v node → IsRowNode (length (s.sources ++ s.sinks)) (length s.nodes) v node
  named_node v (Input q) h = omega (arith, h, long)
  named_node v (Const w) h = h
  named_node v (Apply op a b) h = h
  named_node v (Pre a w) h = h

  named_out : (out : StreamOut) → IsOut (length s.sinks) (length s.nodes) out → IsOut (length (s.sources ++ s.sinks)) (length s.nodes) (out_behind ports out)
  named_out out is = record { port = omega (arith, is.port, long); node = is.node }

  named_there : AreNamed there
  named_there = record {
    nodes = λ v node e. named_node v node (named.nodes v node e);
    outs = All-map (IsOut (length (s.sources ++ s.sinks)) (length s.nodes)) (out_behind ports) s.outs (λ k d lt. named_out (get_or s.outs k d) (named.outs k d lt));
  }

  -- ---- and its sinks are those behind the sources
  abbrev order : List ℕ
  order = range_with_len ports (length s.sinks)

  found : (m a q : ℕ) → a ≤ q → q < a + m → list_any (λ p. eqb p q) (range_with_len a m) ≡ true
  found zero a q low high = absurd (omega (arith, low, high))
  found (suc m) a q low high = by (eqb a q) refl (λ apart. found m (a + 1) q (omega (arith, low, apart)) (omega (arith, high))) where
    by : (b : Bool) → eqb a q ≡ b → (a ≢ q → list_any (λ p. eqb p q) (range_with_len (a + 1) m) ≡ true) → list_any (λ p. eqb p q) (a ∷ range_with_len (a + 1) m) ≡ true
    by true is later = rw is refl
    by false is later = rw is (later (λ e. both is (eq-eqb a q e))) where
      both : eqb a q ≡ false → eqb a q ≡ true → ⊥
      both x y = cc (sym x ∙ y)

  none_above : (k : ℕ) → length s.sinks ≤ k → (outs : List StreamOut) → All (IsOut (length s.sinks) (length s.nodes)) outs → filter_map (due_of (ports + k)) (map (out_behind ports) outs) ≡ []
  none_above k above [] all = refl
  none_above k above (out ∷ outs) all =
      let is : IsOut (length s.sinks) (length s.nodes) out = all 0 out (omega arith) in
      let apart : ports + out.port ≢ ports + k = λ e. let lt = is.port in omega (arith, lt, above, e) in
      ap (λ b. cons_option (cond b (Some out.node) None) (filter_map (due_of (ports + k)) (map (out_behind ports) outs))) (ne_eqb (ports + out.port) (ports + k) apart)
      ∙ none_above k above outs (λ i d lt. all (suc i) d (omega (arith, lt)))

  others : (q : ℕ) → list_any (λ p. eqb p q) order ≡ false → due_at there q ≡ []
  others q none = by (cases_lt q ports) where
    by : (q < ports) ⊎ (ports ≤ q) → due_at there q ≡ []
    by (inl low) = none_due q low s.outs
    by (inr high) = past (cases_lt q (ports + length s.sinks)) where
      past : (q < ports + length s.sinks) ⊎ (ports + length s.sinks ≤ q) → due_at there q ≡ []
      past (inl within) = absurd (both_ways _ none (found (length s.sinks) ports q high within))
      past (inr above) =
          let k : ℕ = q - ports in
          let same : q ≡ ports + k = omega (arith, high) in
          rw same (none_above k (omega (arith, above, same)) s.outs named.outs)

  sinks_there : AreSinksOf there order
  sinks_there = record {
    within = λ k d lt. let is = get_or-range_with_len ports (length s.sinks) k d (omega (arith, lt, length-range_with_len ports (length s.sinks))) in
        let few = length-range_with_len ports (length s.sinks) in omega (arith, lt, is, few, long);
    others = others;
  }

-- ---- of the stream as it is made
is_there : (s : Stream) (named : AreNamed s) → numbered s ≡ there s named
unfolding numbered
is_there s named = refl

pub same_unrolled : (s : Stream) → AreNamed s → unrolled (numbered s) ≡ unrolled s
same_unrolled s named = ap unrolled (is_there s named) ∙ same_flow s named

pub is_named : (s : Stream) → AreNamed s → AreNamed (numbered s)
is_named s named = subst AreNamed (sym (is_there s named)) (named_there s named)

pub are_sinks : (s : Stream) → AreNamed s → AreSinksOf (numbered s) (range_with_len (length s.sources) (length s.sinks))
are_sinks s named = subst (λ t. AreSinksOf t (range_with_len (length s.sources) (length s.sinks))) (sym (is_there s named)) (sinks_there s named)

pub numbered_is : (s : Stream) (cols rows count : ℕ) (sources sinks : List PortPlace) (nodes : List RowNode) (outs : List StreamOut) → cols ≡ s.cols → rows ≡ s.rows → count ≡ s.count
    → sources ≡ s.sources ++ s.sinks → sinks ≡ s.sources ++ s.sinks → nodes ≡ s.nodes → outs ≡ map (out_behind (length s.sources)) s.outs
    → ◌≡◌ {A = Stream} (record { cols = cols; rows = rows; count = count; sources = sources; sinks = sinks; nodes = nodes; outs = outs }) (numbered s)
unfolding numbered
numbered_is s cols rows count sources sinks nodes outs a b c d e f g =
    λ i. record { cols = a i; rows = b i; count = c i; sources = d i; sinks = e i; nodes = f i; outs = g i }

-- what is the same of both
pub record IsTwin (s t : Stream) : Type 0 where
  pub count : t.count ≡ s.count
  pub nodes : t.nodes ≡ s.nodes
  pub sources : t.sources ≡ s.sources ++ s.sinks
  pub sinks : t.sinks ≡ s.sources ++ s.sinks
  pub outs : length t.outs ≡ length s.outs

pub is_twin : (s : Stream) → IsTwin s (numbered s)
unfolding numbered
is_twin s = record { count = refl; nodes = refl; sources = refl; sinks = refl; outs = length-map s.outs (out_behind (length s.sources)) }

-- ---- so a set for it may be compared with it
pub has_rows : (s : Stream) → IsStream s → length s.outs < 2 ^ 32 → HasRows (numbered s)
has_rows s is few =
    let twin : IsTwin s (numbered s) = is_twin s in
    record {
      named = is_named s is.named;
      some = subst (λ n. 1 ≤ n) (sym twin.count) is.some_rows;
      few_nodes = subst (λ (nodes : List RowNode). length nodes < 2 ^ 32) (sym twin.nodes) (let n = is.few_nodes in omega (arith, n));
      few_outs = omega (arith, twin.outs, few);
    }

pub has_ports : (set : ProgramSet) (s : Stream) → IsSet set → set.topo ≡ stream_topo s → HasPortsOf set (numbered s)
has_ports set s is same =
    let twin : IsTwin s (numbered s) = is_twin s in
    let ports : length (s.sources ++ s.sinks) ≡ length set.ports = sym (is.each_port ∙ ap (λ (t : Topology). length t.places) same) in
    record { sources = ap length twin.sources ∙ ports; sinks = ap length twin.sinks ∙ ports }

pub meets_stream : (set : ProgramSet) (s : Stream) → AreNamed s → Meets set (unrolled (numbered s)) → Meets set (unrolled s)
meets_stream set s named meets = subst (λ flow. Meets set flow) (same_unrolled s named) meets
