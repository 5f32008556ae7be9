-- A stream that carries counters has the rows of the stream, and the counters beside.
use Rattle.std.proofs.Common.{◌≡◌, ℕ, zero, suc, ◌+◌, ◌<◌, ◌≤◌, List, [], ◌∷◌, ◌++◌, length, map, replicate, get_or, Some, refl, sym, ap, ◌∙◌, subst, arith, append_assoc, length-append}
use Rattle.std.specs.Prelude.{slice_get, slice_index, All, sum_by, if◌then◌else◌, ◌==◌, take, drop}
use Rattle.std.specs.List.{filter_map}
use Rattle.std.proofs.lemmas.List.{append-nil, map-append, length-map, get_or_append_left, get_or-append-add}
use Rattle.std.proofs.lemmas.List.Elements.{filter_map-append}
use Rattle.std.proofs.lemmas.List.Sums.{sum_by-cons, sum_by-append}
use Rattle.raw_flow.specs.declared.node.Node.{Node}
use Rattle.raw_flow.specs.declared.node.Node.TheVariants as node
use Rattle.raw_flow.specs.Flows.{with_input, applied, value_of, values_from}
use Rattle.raw_term.proofs.Terms.{none_some, some_is, values_many}
use Rattle.raw_term.proofs.Start.{inputs_follow}
use Rattle.raw_stream.specs.declared.out.StreamOut.{StreamOut}
use Rattle.raw_stream.specs.declared.row_node.RowNode.{RowNode}
use Rattle.raw_stream.specs.declared.row_node.RowNode.TheVariants.{Input, Const, Apply, Pre}
use Rattle.raw_stream.specs.Streams.{Stream, IsRowNode, AreRowNodes, AreNamed, IsOut, plain, plain_nodes, taken, row_of, valued, first_of, first_words, next_of, next_nodes, carried_after, rows_of, due_at, due_to}
use Rattle.raw_stream.proofs.Within.{due_known}
use Rattle.raw_row_terms.specs.RowTerms.{carried_over}
use Rattle.raw_row_terms.proofs.Firsts.{constants_follow}
use Rattle.raw_rows.specs.Given.{takes_words, row_width, part, given_by}
use Rattle.raw_rows.proofs.Opening.{next_as_many}
use Rattle.raw_rows.specs.Lengths.{moved, with_counters, counting, counted}

-- ---- values of nodes behind others
abbrev inputs_then : ℕ → List Node → ℕ
inputs_then k [] = k
inputs_then k (n ∷ nodes) = inputs_then (with_input n k) nodes

inputs_grow : (nodes : List Node) (k : ℕ) → k ≤ inputs_then k nodes
inputs_grow [] k = omega arith
inputs_grow (node.Input ∷ nodes) k = omega (arith, inputs_grow nodes (k + 1))
inputs_grow (node.Const word ∷ nodes) k = inputs_grow nodes k
inputs_grow (node.Apply op a b ∷ nodes) k = inputs_grow nodes k

values_append : (ins : List ℕ) (xs ys : List Node) (k : ℕ) (before : List ℕ) → values_from ins k before (xs ++ ys) ≡ values_from ins (inputs_then k xs) (values_from ins k before xs) ys
values_append ins [] ys k before = refl
values_append ins (n ∷ xs) ys k before = values_append ins xs ys (with_input n k) (before ++ value_of ins k before n ∷ [])

-- no more inputs are looked at than there are
values_fewer : (ins more : List ℕ) (nodes : List Node) (k : ℕ) (before : List ℕ) → inputs_then k nodes ≤ length ins → values_from (ins ++ more) k before nodes ≡ values_from ins k before nodes
values_fewer ins more [] k before h = refl
values_fewer ins more (node.Input ∷ nodes) k before h =
    let below : k < length ins = omega (arith, h, inputs_grow nodes (k + 1)) in
    ap (λ x. values_from (ins ++ more) (k + 1) (before ++ x ∷ []) nodes) (get_or_append_left ins more 0 k below) ∙ values_fewer ins more nodes (k + 1) (before ++ slice_index ins k ∷ []) h
values_fewer ins more (node.Const word ∷ nodes) k before h = values_fewer ins more nodes k (before ++ word ∷ []) h
values_fewer ins more (node.Apply op a b ∷ nodes) k before h = values_fewer ins more nodes k (before ++ value_of ins k before (node.Apply op a b) ∷ []) h

taken_inputs : (nodes : List RowNode) (carried words : List ℕ) (k : ℕ) → inputs_then k (map plain nodes) ≡ k + length (taken nodes carried words)
taken_inputs [] carried words k = omega arith
taken_inputs (Input q ∷ nodes) carried words k = omega (arith, taken_inputs nodes carried (drop 1 words) (k + 1))
taken_inputs (Const word ∷ nodes) carried words k = taken_inputs nodes carried words k
taken_inputs (Apply op a b ∷ nodes) carried words k = taken_inputs nodes carried words k
taken_inputs (Pre a word ∷ nodes) carried words k = omega (arith, taken_inputs nodes (drop 1 carried) words (k + 1))

-- behind an input
at_input : (n : ℕ) (ins own before done : List ℕ) (k : ℕ) (nodes : List RowNode) → length before ≡ n
    → values_from (ins ++ own) (length ins + (k + 1)) (before ++ (done ++ slice_index own k ∷ [])) (map plain (map (moved n) nodes)) ≡ before ++ values_from own (k + 1) (done ++ slice_index own k ∷ []) (map plain nodes)
    → values_from (ins ++ own) (length ins + k + 1) ((before ++ done) ++ slice_index (ins ++ own) (length ins + k) ∷ []) (map plain (map (moved n) nodes)) ≡ before ++ values_from own (k + 1) (done ++ slice_index own k ∷ []) (map plain nodes)
at_input n ins own before done k nodes long rest =
    let next : length ins + k + 1 ≡ length ins + (k + 1) = omega arith in
    ap (λ x. values_from (ins ++ own) (length ins + k + 1) ((before ++ done) ++ x ∷ []) (map plain (map (moved n) nodes))) (get_or-append-add ins own k 0)
    ∙ ap (λ vs. values_from (ins ++ own) (length ins + k + 1) vs (map plain (map (moved n) nodes))) (append_assoc before done (slice_index own k ∷ []))
    ∙ ap (λ j. values_from (ins ++ own) j (before ++ (done ++ slice_index own k ∷ [])) (map plain (map (moved n) nodes))) next
    ∙ rest

-- nodes that name each other alone have the values that they have by themselves
values_moved : (n : ℕ) (ins own before done : List ℕ) (k : ℕ) (nodes : List RowNode) → length before ≡ n
    → values_from (ins ++ own) (length ins + k) (before ++ done) (map plain (map (moved n) nodes)) ≡ before ++ values_from own k done (map plain nodes)
values_moved n ins own before done k [] long = refl
values_moved n ins own before done k (Input q ∷ nodes) long = at_input n ins own before done k nodes long (values_moved n ins own before (done ++ slice_index own k ∷ []) (k + 1) nodes long)
values_moved n ins own before done k (Const word ∷ nodes) long =
    ap (λ vs. values_from (ins ++ own) (length ins + k) vs (map plain (map (moved n) nodes))) (append_assoc before done (word ∷ [])) ∙ values_moved n ins own before (done ++ word ∷ []) k nodes long
values_moved n ins own before done k (Apply op a b ∷ nodes) long =
    let at : (c : ℕ) → slice_index (before ++ done) (n + c) ≡ slice_index done c = λ c. subst (λ m. slice_index (before ++ done) (m + c) ≡ slice_index done c) long (get_or-append-add before done c 0) in
    let x : ℕ = value_of own k done (node.Apply op a b) in
    let same : value_of (ins ++ own) (length ins + k) (before ++ done) (node.Apply op (n + a) (n + b)) ≡ x =
    ap (λ v. applied op v (slice_index (before ++ done) (n + b))) (at a) ∙ ap (λ v. applied op (slice_index done a) v) (at b) in
    ap (λ v. values_from (ins ++ own) (length ins + k) ((before ++ done) ++ v ∷ []) (map plain (map (moved n) nodes))) same
    ∙ ap (λ vs. values_from (ins ++ own) (length ins + k) vs (map plain (map (moved n) nodes))) (append_assoc before done (x ∷ []))
    ∙ values_moved n ins own before (done ++ x ∷ []) k nodes long
values_moved n ins own before done k (Pre a word ∷ nodes) long = at_input n ins own before done k nodes long (values_moved n ins own before (done ++ slice_index own k ∷ []) (k + 1) nodes long)

-- ---- nodes that take no words
abbrev pub TakeNone : List RowNode → Type 0
TakeNone nodes = (v q : ℕ) → slice_get nodes v ≡ Some (Input q) → ⊥

pub take_none : (nodes : List RowNode) → AreRowNodes 0 nodes → TakeNone nodes
take_none nodes are v q e = let below : q < 0 = are v (Input q) e in omega (arith, below)

taken_moved : (n : ℕ) (nodes : List RowNode) → TakeNone nodes → (carried words others : List ℕ) → taken (map (moved n) nodes) carried words ≡ taken nodes carried others
taken_moved n [] none carried words others = refl
taken_moved n (Input q ∷ nodes) none carried words others = absurd (none 0 q refl)
taken_moved n (Const word ∷ nodes) none carried words others = taken_moved n nodes (λ v. none (suc v)) carried words others
taken_moved n (Apply op a b ∷ nodes) none carried words others = taken_moved n nodes (λ v. none (suc v)) carried words others
taken_moved n (Pre a word ∷ nodes) none carried words others = ap (λ xs. slice_index carried 0 ∷ xs) (taken_moved n nodes (λ v. none (suc v)) (drop 1 carried) words others)

taken_both : (n : ℕ) (nodes more : List RowNode) → TakeNone more → (carried others words : List ℕ) → length carried ≡ length (filter_map first_of nodes)
    → taken (nodes ++ map (moved n) more) (carried ++ others) words ≡ taken nodes carried words ++ taken more others []
taken_both n [] more none [] others words long = taken_moved n more none others words []
taken_both n [] more none (x ∷ carried) others words long = cc long
taken_both n (Input q ∷ nodes) more none carried others words long = ap (λ xs. slice_index words 0 ∷ xs) (taken_both n nodes more none carried others (drop 1 words) long)
taken_both n (Const word ∷ nodes) more none carried others words long = taken_both n nodes more none carried others words long
taken_both n (Apply op a b ∷ nodes) more none carried others words long = taken_both n nodes more none carried others words long
taken_both n (Pre a word ∷ nodes) more none [] others words long = cc long
taken_both n (Pre a word ∷ nodes) more none (x ∷ carried) others words long = ap (λ xs. x ∷ xs) (taken_both n nodes more none carried others words (cc long))

first_moved : (n : ℕ) (nodes : List RowNode) → filter_map first_of (map (moved n) nodes) ≡ filter_map first_of nodes
first_moved n [] = refl
first_moved n (Input q ∷ nodes) = first_moved n nodes
first_moved n (Const word ∷ nodes) = first_moved n nodes
first_moved n (Apply op a b ∷ nodes) = first_moved n nodes
first_moved n (Pre a word ∷ nodes) = ap (λ xs. word ∷ xs) (first_moved n nodes)

next_moved : (n : ℕ) (values own : List ℕ) (nodes : List RowNode) → length values ≡ n → valued (values ++ own) (filter_map next_of (map (moved n) nodes)) ≡ valued own (filter_map next_of nodes)
next_moved n values own [] long = refl
next_moved n values own (Input q ∷ nodes) long = next_moved n values own nodes long
next_moved n values own (Const word ∷ nodes) long = next_moved n values own nodes long
next_moved n values own (Apply op a b ∷ nodes) long = next_moved n values own nodes long
next_moved n values own (Pre a word ∷ nodes) long =
    ap (λ x. x ∷ valued (values ++ own) (filter_map next_of (map (moved n) nodes))) (subst (λ m. slice_index (values ++ own) (m + a) ≡ slice_index own a) long (get_or-append-add values own a 0))
    ∙ ap (λ xs. slice_index own a ∷ xs) (next_moved n values own nodes long)

-- values of nodes that stand in front
valued_front : (n : ℕ) (values own : List ℕ) (nodes : List ℕ) → length values ≡ n → All (λ v. v < n) nodes → valued (values ++ own) nodes ≡ valued values nodes
valued_front n values own [] long low = refl
valued_front n values own (v ∷ nodes) long low =
    let here : v < n = low 0 0 (omega arith) in
    ap (λ x. x ∷ valued (values ++ own) nodes) (get_or_append_left values own 0 v (omega (arith, here, long)))
    ∙ ap (λ xs. slice_index values v ∷ xs) (valued_front n values own nodes long (λ i d lt. low (suc i) d (omega (arith, lt))))

next_known : (n : ℕ) (nodes : List RowNode) → ((v a word : ℕ) → slice_get nodes v ≡ Some (Pre a word) → a < n) → All (λ v. v < n) (filter_map next_of nodes)
next_known n [] low i d lt = absurd (omega (arith, lt))
next_known n (Input q ∷ nodes) low i d lt = next_known n nodes (λ v. low (suc v)) i d lt
next_known n (Const word ∷ nodes) low i d lt = next_known n nodes (λ v. low (suc v)) i d lt
next_known n (Apply op a b ∷ nodes) low i d lt = next_known n nodes (λ v. low (suc v)) i d lt
next_known n (Pre a word ∷ nodes) low zero d lt = low 0 a word refl
next_known n (Pre a word ∷ nodes) low (suc i) d lt = next_known n nodes (λ v. low (suc v)) i d (omega (arith, lt))

-- ---- the words of rows
width_moved : (n : ℕ) (nodes : List RowNode) → TakeNone nodes → sum_by takes_words (map (moved n) nodes) ≡ 0
width_moved n [] none = refl
width_moved n (Input q ∷ nodes) none = absurd (none 0 q refl)
width_moved n (Const word ∷ nodes) none = let rest = width_moved n nodes (λ v. none (suc v)) in omega (arith, rest, sum_by-cons takes_words (Const word) (map (moved n) nodes))
width_moved n (Apply op a b ∷ nodes) none = let rest = width_moved n nodes (λ v. none (suc v)) in omega (arith, rest, sum_by-cons takes_words (Apply op (n + a) (n + b)) (map (moved n) nodes))
width_moved n (Pre a word ∷ nodes) none = let rest = width_moved n nodes (λ v. none (suc v)) in omega (arith, rest, sum_by-cons takes_words (Pre (n + a) word) (map (moved n) nodes))

part_moved : (n q : ℕ) (nodes : List RowNode) → TakeNone nodes → (words : List ℕ) → part q (map (moved n) nodes) words ≡ []
part_moved n q [] none words = refl
part_moved n q (Input p ∷ nodes) none words = absurd (none 0 p refl)
part_moved n q (Const word ∷ nodes) none words = part_moved n q nodes (λ v. none (suc v)) words
part_moved n q (Apply op a b ∷ nodes) none words = part_moved n q nodes (λ v. none (suc v)) words
part_moved n q (Pre a word ∷ nodes) none words = part_moved n q nodes (λ v. none (suc v)) words

part_both : (n q : ℕ) (nodes more : List RowNode) → TakeNone more → (words : List ℕ) → part q (nodes ++ map (moved n) more) words ≡ part q nodes words
part_both n q [] more none words = part_moved n q more none words
part_both n q (Input p ∷ nodes) more none words = ap (λ xs. (if p == q then take 1 words else []) ++ xs) (part_both n q nodes more none (drop 1 words))
part_both n q (Const word ∷ nodes) more none words = part_both n q nodes more none words
part_both n q (Apply op a b ∷ nodes) more none words = part_both n q nodes more none words
part_both n q (Pre a word ∷ nodes) more none words = part_both n q nodes more none words

-- ---- names
moved_node : (sources n v w : ℕ) (m : RowNode) → IsRowNode 0 w v m → IsRowNode sources (n + w) (n + v) (moved n m)
moved_node sources n v w (Input q) is = absurd (omega (arith, is))
moved_node sources n v w (Const word) is = is
moved_node sources n v w (Apply op a b) is = (omega (arith, is.0), omega (arith, is.1))
moved_node sources n v w (Pre a word) is = (omega (arith, is.0), is.1)

more_node : (sources n v more : ℕ) (m : RowNode) → IsRowNode sources n v m → IsRowNode sources (n + more) v m
more_node sources n v more (Input q) is = is
more_node sources n v more (Const word) is = is
more_node sources n v more (Apply op a b) is = is
more_node sources n v more (Pre a word) is = (omega (arith, is.0), is.1)

module _ (s : Stream) (named : AreNamed s) (counters : List RowNode) (are : AreRowNodes 0 counters) where
  abbrev with : Stream
  with = with_counters s counters

  abbrev alone : Stream
  alone = counting s counters

  abbrev none : TakeNone counters
  none = take_none counters are

  nodes_long : length with.nodes ≡ length s.nodes + length counters
  nodes_long = length-append s.nodes (map (moved (length s.nodes)) counters) ∙ ap (λ m. length s.nodes + m) (length-map counters (moved (length s.nodes)))

  pub with_named : AreNamed with
  with_named = record { nodes = λ v m e. subst (λ w. IsRowNode (length s.sources) w v m) (sym nodes_long) (by s.nodes 0 v v m (omega arith) (λ i k f. let same : i ≡ 0 + i = omega arith in subst (λ j. IsRowNode (length s.sources) (length s.nodes) j k) same (named.nodes i k f)) e (omega arith)); outs = λ k d lt. more_out (get_or s.outs k d) (named.outs k d lt) } where
    more_out : (out : StreamOut) → IsOut (length s.sinks) (length s.nodes) out → IsOut (length s.sinks) (length with.nodes) out
    more_out out is = record { port = is.port; node = omega (arith, is.node, nodes_long) }

    moved_at : (nodes : List RowNode) (at v u : ℕ) (m : RowNode) → v ≡ length s.nodes + (at + u) → ((i : ℕ) (k : RowNode) → slice_get nodes i ≡ Some k → IsRowNode 0 (length counters) (at + i) k)
        → slice_get (map (moved (length s.nodes)) nodes) u ≡ Some m → IsRowNode (length s.sources) (length s.nodes + length counters) v m
    moved_at [] at v u m same each e = none_some m e
    moved_at (n ∷ nodes) at v zero m same each e =
        let here : at + 0 ≡ at = omega arith in
        let place : length s.nodes + at ≡ v = omega (arith, same) in
        subst (λ w. IsRowNode (length s.sources) (length s.nodes + length counters) w m) place
        (subst (λ k. IsRowNode (length s.sources) (length s.nodes + length counters) (length s.nodes + at) k) (some_is (moved (length s.nodes) n) m e)
        (moved_node (length s.sources) (length s.nodes) at (length counters) n (subst (λ j. IsRowNode 0 (length counters) j n) here (each 0 n refl))))
    moved_at (n ∷ nodes) at v (suc u) m same each e =
        moved_at nodes (at + 1) v u m (omega (arith, same)) (λ i k f. let next : at + suc i ≡ at + 1 + i = omega arith in subst (λ j. IsRowNode 0 (length counters) j k) next (each (suc i) k f)) e

    by : (nodes : List RowNode) (at v u : ℕ) (m : RowNode) → v ≡ at + u → ((i : ℕ) (k : RowNode) → slice_get nodes i ≡ Some k → IsRowNode (length s.sources) (length s.nodes) (at + i) k)
        → slice_get (nodes ++ map (moved (length s.nodes)) counters) u ≡ Some m → at + length nodes ≡ length s.nodes → IsRowNode (length s.sources) (length s.nodes + length counters) v m
    by [] at v u m same each e whole = moved_at counters 0 v u m (omega (arith, same, whole)) (λ i k f. let none_ : i ≡ 0 + i = omega arith in subst (λ j. IsRowNode 0 (length counters) j k) none_ (are i k f)) e
    by (n ∷ nodes) at v zero m same each e whole =
        let place : at + 0 ≡ v = omega (arith, same) in
        subst (λ w. IsRowNode (length s.sources) (length s.nodes + length counters) w m) place
        (subst (λ k. IsRowNode (length s.sources) (length s.nodes + length counters) (at + 0) k) (some_is n m e) (more_node (length s.sources) (length s.nodes) (at + 0) (length counters) n (each 0 n refl)))
    by (n ∷ nodes) at v (suc u) m same each e whole =
        by nodes (at + 1) v u m (omega (arith, same)) (λ i k f. let next : at + suc i ≡ at + 1 + i = omega arith in subst (λ j. IsRowNode (length s.sources) (length s.nodes) j k) next (each (suc i) k f)) e (omega (arith, whole))

  pub with_first : first_words with ≡ first_words s ++ first_words alone
  with_first = filter_map-append first_of s.nodes (map (moved (length s.nodes)) counters) ∙ ap (λ xs. first_words s ++ xs) (first_moved (length s.nodes) counters)

  row_long : (carried words : List ℕ) → length (row_of s carried words) ≡ length s.nodes
  row_long carried words = values_many (taken s.nodes carried words) (plain_nodes s) 0 [] ∙ omega (arith, length-map s.nodes plain)

  -- a row
  row_both : (carried others words : List ℕ) → length carried ≡ length (first_words s) → row_of with (carried ++ others) words ≡ row_of s carried words ++ row_of alone others []
  row_both carried others words long =
      let A : List ℕ = taken s.nodes carried words in
      let B : List ℕ = taken counters others [] in
      let R : List ℕ = row_of s carried words in
      let many : inputs_then 0 (plain_nodes s) ≡ length A + 0 = taken_inputs s.nodes carried words 0 ∙ omega arith in
      let enough : inputs_then 0 (plain_nodes s) ≤ length A = omega (arith, many) in
      ap (λ ns. values_from (taken with.nodes (carried ++ others) words) 0 [] ns) (map-append plain s.nodes (map (moved (length s.nodes)) counters))
      ∙ ap (λ ins. values_from ins 0 [] (plain_nodes s ++ map plain (map (moved (length s.nodes)) counters))) (taken_both (length s.nodes) s.nodes counters none carried others words long)
      ∙ values_append (A ++ B) (plain_nodes s) (map plain (map (moved (length s.nodes)) counters)) 0 []
      ∙ ap (λ k. values_from (A ++ B) k (values_from (A ++ B) 0 [] (plain_nodes s)) (map plain (map (moved (length s.nodes)) counters))) many
      ∙ ap (λ vs. values_from (A ++ B) (length A + 0) vs (map plain (map (moved (length s.nodes)) counters))) (values_fewer A B (plain_nodes s) 0 [] enough ∙ sym (append-nil R))
      ∙ values_moved (length s.nodes) A B R [] 0 counters (row_long carried words)

  next_low : All (λ v. v < length s.nodes) (next_nodes s)
  next_low = next_known (length s.nodes) s.nodes (λ v a word e. (named.nodes v (Pre a word) e).0)

  carried_both : (carried others words : List ℕ) → length carried ≡ length (first_words s) → carried_after with (carried ++ others) words ≡ carried_after s carried words ++ carried_after alone others []
  carried_both carried others words long =
      let R : List ℕ = row_of s carried words in
      let K : List ℕ = row_of alone others [] in
      ap (λ vs. valued vs (next_nodes with)) (row_both carried others words long)
      ∙ ap (λ ns. valued (R ++ K) ns) (filter_map-append next_of s.nodes (map (moved (length s.nodes)) counters))
      ∙ map-append (slice_index (R ++ K)) (next_nodes s) (filter_map next_of (map (moved (length s.nodes)) counters))
      ∙ ap (λ xs. xs ++ valued (R ++ K) (filter_map next_of (map (moved (length s.nodes)) counters))) (valued_front (length s.nodes) R K (next_nodes s) (row_long carried words) next_low)
      ∙ ap (λ xs. valued R (next_nodes s) ++ xs) (next_moved (length s.nodes) R K counters (row_long carried words))

  carried_many : (carried words : List ℕ) → length (carried_after s carried words) ≡ length (first_words s)
  carried_many carried words = length-map (next_nodes s) (slice_index (row_of s carried words)) ∙ next_as_many s

  over_both : (carried : List ℕ) (b : ℕ) (rows : List (List ℕ)) → length carried ≡ length (first_words s)
      → carried_over with (carried ++ counted s counters b) rows ≡ carried_over s carried rows ++ counted s counters (b + length rows)
  over_both carried b [] long = let same : b ≡ b + 0 = omega arith in ap (λ k. carried ++ counted s counters k) same
  over_both carried b (words ∷ rows) long =
      let same : suc b + length rows ≡ b + suc (length rows) = omega arith in
      ap (λ c. carried_over with c rows) (carried_both carried (counted s counters b) words long)
      ∙ over_both (carried_after s carried words) (suc b) rows (carried_many carried words)
      ∙ ap (λ k. carried_over s (carried_after s carried words) rows ++ counted s counters k) same

  -- what is carried behind rows
  pub with_carried : (rows : List (List ℕ)) → carried_over with (first_words with) rows ≡ carried_over s (first_words s) rows ++ counted s counters (length rows)
  with_carried rows =
      let none : 0 + length rows ≡ length rows = omega arith in
      ap (λ c. carried_over with c rows) with_first ∙ over_both (first_words s) 0 rows refl ∙ ap (λ n. carried_over s (first_words s) rows ++ counted s counters n) none

  due_both : (carried : List ℕ) (b : ℕ) (rows : List (List ℕ)) (q : ℕ) → length carried ≡ length (first_words s)
      → due_to with q (rows_of with (carried ++ counted s counters b) rows) ≡ due_to s q (rows_of s carried rows)
  due_both carried b [] q long = refl
  due_both carried b (words ∷ rows) q long =
      let R : List ℕ = row_of s carried words in
      let K : List ℕ = row_of alone (counted s counters b) [] in
      ap (λ vs. valued vs (due_at s q) ++ due_to with q (rows_of with (carried_after with (carried ++ counted s counters b) words) rows)) (row_both carried (counted s counters b) words long)
      ∙ ap (λ xs. xs ++ due_to with q (rows_of with (carried_after with (carried ++ counted s counters b) words) rows)) (valued_front (length s.nodes) R K (due_at s q) (row_long carried words) (due_known s named q))
      ∙ ap (λ c. valued R (due_at s q) ++ due_to with q (rows_of with c rows)) (carried_both carried (counted s counters b) words long)
      ∙ ap (λ xs. valued R (due_at s q) ++ xs) (due_both (carried_after s carried words) (suc b) rows q (carried_many carried words))

  -- what ports are due
  pub with_due : (rows : List (List ℕ)) (q : ℕ) → due_to with q (rows_of with (first_words with) rows) ≡ due_to s q (rows_of s (first_words s) rows)
  with_due rows q = ap (λ c. due_to with q (rows_of with c rows)) with_first ∙ due_both (first_words s) 0 rows q refl

  -- what they give
  pub with_width : row_width with ≡ row_width s
  with_width =
      sum_by-append takes_words s.nodes (map (moved (length s.nodes)) counters) ∙ ap (λ n. row_width s + n) (width_moved (length s.nodes) counters none) ∙ omega arith

  pub with_given : (q : ℕ) (rows : List (List ℕ)) → given_by with q rows ≡ given_by s q rows
  with_given q [] = refl
  with_given q (words ∷ rows) = ap (λ xs. xs ++ given_by with q rows) (part_both (length s.nodes) q s.nodes counters none words) ∙ ap (λ xs. part q s.nodes words ++ xs) (with_given q rows)

  -- as many counters are carried behind rows as before them
  pub counted_long : (b : ℕ) → length (counted s counters b) ≡ length (first_words alone)
  counted_long zero = refl
  counted_long (suc b) = length-map (next_nodes alone) (slice_index (row_of alone (counted s counters b) [])) ∙ next_as_many alone

inputs_many : (n k : ℕ) → inputs_then k (replicate n node.Input) ≡ k + n
inputs_many zero k = omega arith
inputs_many (suc n) k = omega (arith, inputs_many n (k + 1))

-- inputs, and then words
pub then_known : (carried words : List ℕ) (n : ℕ) → length carried ≡ n → values_from (carried ++ words) 0 [] (replicate n node.Input ++ map (λ (word : ℕ). node.Const word) words) ≡ carried ++ words
then_known carried words n long =
    let more : List Node = map (λ (word : ℕ). node.Const word) words in
    let enough : inputs_then 0 (replicate n node.Input) ≤ length carried = omega (arith, inputs_many n 0, long) in
    let front : values_from carried 0 [] (replicate n node.Input) ≡ carried = subst (λ m. values_from carried 0 [] (replicate m node.Input) ≡ carried) long (inputs_follow carried (length carried) 0 [] (omega arith)) in
    values_append (carried ++ words) (replicate n node.Input) more 0 []
    ∙ ap (λ vs. values_from (carried ++ words) (inputs_then 0 (replicate n node.Input)) vs more) (values_fewer carried words (replicate n node.Input) 0 [] enough ∙ front)
    ∙ constants_follow (carried ++ words) (inputs_then 0 (replicate n node.Input)) carried words
