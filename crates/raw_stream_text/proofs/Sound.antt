-- What lines without a fault say keeps all that streams keep.
use Rattle.std.proofs.Common.{◌≡◌, ℕ, ◌^◌, ◌<◌, ◌≤◌, Bool, true, false, not, ◌&&◌, ◌||◌, cond, leb, List, [], ◌∷◌, ◌++◌, length, get_or, drop, Option, Some, None, refl, sym, ap, ◌∙◌, subst, arith, append-nil, ⊎_elim, unwrap_or}
use Rattle.std.specs.Prelude.{slice_get, IfSome}
use Rattle.std.specs.Option.{option_to_list, is_some, option_map}
use Rattle.std.specs.List.{All, filter_map}
use Rattle.std.specs.Str.{bytes_eq}
use Rattle.std.proofs.lemmas.Bool.{and_parts, or_parts, leb-true, cases_lt}
use Rattle.std.proofs.lemmas.List.{length_push, length-append}
use Rattle.std.proofs.lemmas.List.Elements.{All-nil, All-cons, All-append, filter_map-append}
use Rattle.std.proofs.lemmas.List.Quantifiers.{position-Some}
use Rattle.std.proofs.lemmas.Option.{slice_get_within, get_or_from_slice_get, slice_get-get_or}
use Rattle.std.proofs.Math.Seq.{get_or-append_seam}
use Rattle.std.proofs.Math.ListN.{get_or-append}
use Rattle.raw_asm.specs.declared.kind.AsmKind.TheVariants.{UnknownName}
use Rattle.raw_asm.specs.NameTable.{named_in}
use Rattle.raw_grid.specs.declared.limits.TheConstants.{MAX_SIZE}
use Rattle.raw_grid.specs.declared.parts.PortKind.{PortKind}
use Rattle.raw_grid.specs.declared.parts.PortKind.TheVariants as kind
use Rattle.raw_grid.specs.Topology.{Topology, IsSize}
use Rattle.raw_set_text.specs.declared.declaration.Edge.{Edge}
use Rattle.raw_set_text.specs.declared.kind.SetKind.TheVariants.{BadSize, PortOffEdge, UndeclaredEdge, Repeated, OverLimit, Asm}
use Rattle.raw_set_text.specs.Forms.{◌>>=◌, number_at, edge_in, numbers_of}
use Rattle.raw_set_text.specs.Faults.{fault_if, is_within}
use Rattle.raw_set_text.proofs.Lawful.Entries.{none_if}
use Rattle.raw_set_text.proofs.Lawful.Forms.{numbers_small}
use Rattle.raw_flow_text.specs.Statement.{Statement as FlowStatement}
use Rattle.raw_flow_text.specs.Statement.Statement.{Grid as FlowGrid, Input as FlowInput, Const as FlowConst, Apply as FlowApply, Out as FlowOut}
use Rattle.raw_flow_text.specs.Forms as flow
use Rattle.raw_flow_text.specs.Flows.{number_in, node_number}
use Rattle.raw_flow_text.proofs.Next.{filter_next}
use Rattle.raw_flow_text.proofs.Sound.{IsWritten as IsFlowWritten, line_written as flow_line_written, number_word, known_number, size_fits, not_false}
use Rattle.raw_stream.specs.declared.limits.TheConstants.{MAX_ROWS}
use Rattle.raw_stream.specs.declared.row_node.RowNode.{RowNode}
use Rattle.raw_stream.specs.Streams.{IsRowNode, IsOut}
use Rattle.raw_stream_text.specs.declared.word.Word.{Word}
use Rattle.raw_stream_text.specs.declared.word.Word.TheVariants as word
use Rattle.raw_stream_text.specs.Edges.{edge_number, port_number, same_edge, each_once}
use Rattle.raw_stream_text.specs.Statement.{Statement}
use Rattle.raw_stream_text.specs.Statement.Statement.{Flow, Rows, Input, Pre, Out, Feed}
use Rattle.raw_stream_text.specs.Forms.{word_name, all_words, edge_behind, rows_form, input_form, out_form, feed_form, is_pre, pre_form, stated, line_statement}
use Rattle.raw_stream_text.specs.Streams.{size_of, size_in, count_of, count_in, name_of, names_in, source_of, sink_of, sources_in, sinks_in, node_of, out_of, feed_of}
use Rattle.raw_stream_text.specs.Faults.{is_off_edge, is_unclaimed, is_unwanted, has_name, statement_fault}
use Rattle.raw_stream_text.proofs.Edges.{there}
use Rattle.raw_stream_text.proofs.Fronts.{front_number, below_is}
use Rattle.raw_stream_text.proofs.Standing.{count}

-- ---- the words in a statement fit
abbrev pub IsWritten : Statement → Type 0
IsWritten (Flow said) = IsFlowWritten said
IsWritten (Pre name a word) = word < 2 ^ 32
IsWritten (Feed edge words) = All (λ word. word < 2 ^ 32) words
IsWritten _ = Unit {0}

if_some : (test : Bool) (form : Option Statement) → IfSome form IsWritten → IfSome (cond test form None) IsWritten
if_some true form is = is
if_some false form is = tt

bind_some : {A : Type 0} (o : Option A) (f : A → Option Statement) → ((x : A) → o ≡ Some x → IfSome (f x) IsWritten) → IfSome (o >>= f) IsWritten
bind_some None f is = tt
bind_some (Some x) f is = is x refl

rows_written : (operands : List (List ℕ)) → IfSome (rows_form operands) IsWritten
unfolding rows_form
rows_written operands = if_some _ _ (bind_some (number_at operands 0) _ (λ many _. tt))

input_written : (operands : List (List ℕ)) → IfSome (input_form operands) IsWritten
unfolding input_form
input_written operands = bind_some (edge_behind operands) _ (λ edge _. bind_some (flow.name_at operands 0) _ (λ name _. tt))

out_written : (operands : List (List ℕ)) → IfSome (out_form operands) IsWritten
unfolding out_form
out_written operands = bind_some (edge_behind operands) _ (λ edge _. bind_some (flow.name_at operands 0) _ (λ name _. tt))

feed_written : (operands : List (List ℕ)) → IfSome (feed_form operands) IsWritten
unfolding feed_form
feed_written operands = if_some _ _ (bind_some (edge_in operands) _ (λ edge _. bind_some (numbers_of (drop 4 operands)) _ (λ words e. numbers_small (drop 4 operands) words e)))

pre_written : (operands : List (List ℕ)) → IfSome (pre_form operands) IsWritten
unfolding pre_form
pre_written operands = bind_some (flow.name_at operands 0) _ (λ name _. bind_some (flow.name_at operands 2) _ (λ a _. bind_some (number_at operands 3) _ (λ word e. number_word operands 3 word e)))

as_flow : (form : Option FlowStatement) → IfSome form IsFlowWritten → IfSome (option_map Flow form) IsWritten
as_flow None is = tt
as_flow (Some said) is = is

other_written : (line : List (List ℕ)) (test : Bool) → IfSome (cond test (pre_form (drop 1 line)) (option_map Flow (flow.line_statement line))) IsWritten
other_written line true = pre_written (drop 1 line)
other_written line false = as_flow (flow.line_statement line) (flow_line_written line)

stated_written : (first : Option Word) (line : List (List ℕ)) → IfSome (stated first line) IsWritten
stated_written None line = other_written line (is_pre line)
stated_written (Some word.Rows) line = rows_written (drop 1 line)
stated_written (Some word.Input) line = input_written (drop 1 line)
stated_written (Some word.Out) line = out_written (drop 1 line)
stated_written (Some word.Feed) line = feed_written (drop 1 line)

pub line_written : (line : List (List ℕ)) → IfSome (line_statement line) IsWritten
unfolding line_statement
line_written line = stated_written (named_in word_name all_words (get_or line 0 [])) line

-- ---- what a statement without a fault gives, in a text that has all of these, behind those that were said
abbrev pub IsGrid : ℕ × ℕ → Type 0
IsGrid size = IsSize size.0 size.1

abbrev pub IsCount : ℕ → Type 0
IsCount many = (1 ≤ many) × (many ≤ MAX_ROWS)

abbrev pub IsSeat : Option (ℕ × ℕ) → Edge → Type 0
IsSeat size edge = is_off_edge size edge ≡ false

abbrev pub IsClaimed : Option Topology → PortKind → Edge → Type 0
IsClaimed claimed which edge = is_unclaimed claimed which edge ≡ false

abbrev pub AreWords : ℕ × List ℕ → Type 0
AreWords fed = All (λ word. word < 2 ^ 32) fed.1

record IsGood (claimed : Option Topology) (all said : List Statement) (statement : Statement) : Type 0 where
  size : IfSome (size_of statement) IsGrid
  count : IfSome (count_of statement) IsCount
  node : IfSome (node_of (names_in all) (sources_in all) statement) (IsRowNode (length (sources_in all)) (length (names_in all)) (length (names_in said)))
  out : IfSome (out_of (names_in all) (sinks_in all) statement) (IsOut (length (sinks_in all)) (length (names_in all)))
  source : IfSome (source_of statement) (IsSeat (size_in said))
  sink : IfSome (sink_of statement) (IsSeat (size_in said))
  claimed_source : IfSome (source_of statement) (IsClaimed claimed kind.Source)
  claimed_sink : IfSome (sink_of statement) (IsClaimed claimed kind.Sink)
  words : IfSome (feed_of (sources_in all) statement) AreWords

abbrev pub Splits : List Statement → List Statement → Statement → Type 0
Splits all said statement = (rest : List Statement) × (all ≡ said ++ statement ∷ rest)

-- the number of a name that is known in a front
front_known : (xs ys : List (List ℕ)) (name : List ℕ) → is_some (number_in xs name) ≡ true → (node_number (xs ++ ys) name < length xs) × (node_number (xs ++ ys) name ≡ node_number xs name)
front_known xs ys name some = by (number_in xs name) refl some where
  by : (o : Option ℕ) → number_in xs name ≡ o → is_some o ≡ true → (node_number (xs ++ ys) name < length xs) × (node_number (xs ++ ys) name ≡ node_number xs name)
  by None e none = absurd (cc none)
  by (Some i) e yes' =
      let low = (position-Some (λ other. bytes_eq other name) xs i [] e).0 in
      let whole : number_in (xs ++ ys) name ≡ Some i = below_is (length xs) (number_in (xs ++ ys) name) i (front_number (λ other. bytes_eq other name) xs ys ∙ e) in
      let is : node_number (xs ++ ys) name ≡ i = ap (λ o. unwrap_or o 0) whole in
      (subst (λ j. j < length xs) (sym is) low, is ∙ sym (ap (λ o. unwrap_or o 0) e))

names_split : (all said : List Statement) (statement : Statement) (split : Splits all said statement) → names_in all ≡ names_in said ++ filter_map name_of (statement ∷ split.0)
names_split all said statement split = ap names_in split.1 ∙ filter_map-append name_of said (statement ∷ split.0)

-- a name that a statement before defines
known_before : (all said : List Statement) (statement : Statement) (split : Splits all said statement) (name : List ℕ) → has_name said name ≡ true
    → (node_number (names_in all) name < length (names_in said)) × (length (names_in said) ≤ length (names_in all))
known_before all said statement split name some =
    let more = filter_map name_of (statement ∷ split.0) in
    let whole = names_split all said statement split in
    let front = front_known (names_in said) more name some in
    (subst (λ names. node_number names name < length (names_in said)) (sym whole) front.0, subst (λ names. length (names_in said) ≤ length names) (sym whole) (omega (arith, length-append (names_in said) more)))

-- the edge of a source or a sink that a statement names
seat_there : (edges : List Edge) (edge : Edge) (found : (i : ℕ) × (edge_number edges edge ≡ Some i)) → port_number edges edge < length edges
seat_there edges edge found =
    subst (λ j. j < length edges) (sym (ap (λ o. unwrap_or o 0) found.1)) (position-Some (λ other. same_edge other edge) edges found.0 edge found.1).0

pub source_there : (all said : List Statement) (name : List ℕ) (edge : Edge) → Splits all said (Input name edge) → (i : ℕ) × (edge_number (sources_in all) edge ≡ Some i)
source_there all said name edge split =
    subst (λ (edges : List Edge). (i : ℕ) × (edge_number (each_once [] edges) edge ≡ Some i)) (sym (ap (filter_map source_of) split.1 ∙ filter_map-append source_of said (Input name edge ∷ split.0)))
    (there [] (filter_map source_of said) (filter_map source_of split.0) edge)

pub sink_there : (all said : List Statement) (name : List ℕ) (edge : Edge) → Splits all said (Out name edge) → (i : ℕ) × (edge_number (sinks_in all) edge ≡ Some i)
sink_there all said name edge split =
    subst (λ (edges : List Edge). (i : ℕ) × (edge_number (each_once [] edges) edge ≡ Some i)) (sym (ap (filter_map sink_of) split.1 ∙ filter_map-append sink_of said (Out name edge ∷ split.0)))
    (there [] (filter_map sink_of said) (filter_map sink_of split.0) edge)

-- each statement
good : (claimed : Option Topology) (all said : List Statement) (statement : Statement) → Splits all said statement → IsWritten statement → statement_fault claimed all said statement ≡ None → IsGood claimed all said statement
unfolding statement_fault
good claimed all said (Flow (FlowGrid columns rows)) split is none =
    let bad : Bool = not (is_within 1 MAX_SIZE columns && is_within 1 MAX_SIZE rows) in
    let sized = none_if (bad || is_unwanted claimed columns rows) BadSize (fault_if (is_some (size_in said)) Repeated None) none in
    record { size = size_fits columns rows (or_parts bad (is_unwanted claimed columns rows) sized.0).0; count = tt; node = tt; out = tt; source = tt; sink = tt; claimed_source = tt; claimed_sink = tt; words = tt }
good claimed all said (Flow (FlowInput name word)) split is none = record { size = tt; count = tt; node = tt; out = tt; source = tt; sink = tt; claimed_source = tt; claimed_sink = tt; words = tt }
good claimed all said (Flow (FlowConst name word)) split is none = record { size = tt; count = tt; node = is; out = tt; source = tt; sink = tt; claimed_source = tt; claimed_sink = tt; words = tt }
good claimed all said (Flow (FlowApply name op a b)) split is none =
    let new = none_if (has_name said name) Repeated (fault_if (not (has_name said a && has_name said b)) (Asm UnknownName) None) none in
    let known = none_if (not (has_name said a && has_name said b)) (Asm UnknownName) None new.1 in
    let both = and_parts (has_name said a) (has_name said b) (not_false _ known.0) in
    let low = known_before all said (Flow (FlowApply name op a b)) split a both.0 in
    let high = known_before all said (Flow (FlowApply name op a b)) split b both.1 in
    record { size = tt; count = tt; node = (low.0, high.0); out = tt; source = tt; sink = tt; claimed_source = tt; claimed_sink = tt; words = tt }
good claimed all said (Flow (FlowOut name)) split is none = record { size = tt; count = tt; node = tt; out = tt; source = tt; sink = tt; claimed_source = tt; claimed_sink = tt; words = tt }
good claimed all said (Rows many) split is none =
    let new = none_if (is_some (count_in said)) Repeated (fault_if (not (is_within 1 MAX_ROWS many)) OverLimit None) none in
    let within = none_if (not (is_within 1 MAX_ROWS many)) OverLimit None new.1 in
    let both = and_parts (leb 1 many) (leb many MAX_ROWS) (not_false _ within.0) in
    record { size = tt; count = (leb-true 1 many both.0, leb-true many MAX_ROWS both.1); node = tt; out = tt; source = tt; sink = tt; claimed_source = tt; claimed_sink = tt; words = tt }
good claimed all said (Input name edge) split is none =
    let seated = none_if (is_off_edge (size_in said) edge) PortOffEdge (fault_if (is_unclaimed claimed kind.Source edge) UndeclaredEdge (fault_if (has_name said name) Repeated None)) none in
    let claims = none_if (is_unclaimed claimed kind.Source edge) UndeclaredEdge (fault_if (has_name said name) Repeated None) seated.1 in
    record { size = tt; count = tt; node = seat_there (sources_in all) edge (source_there all said name edge split); out = tt; source = seated.0; sink = tt; claimed_source = claims.0; claimed_sink = tt; words = tt }
good claimed all said (Pre name a word) split is none =
    let new = none_if (has_name said name) Repeated (fault_if (not (has_name all a)) (Asm UnknownName) None) none in
    let known = none_if (not (has_name all a)) (Asm UnknownName) None new.1 in
    record { size = tt; count = tt; node = (known_number (names_in all) a (number_in (names_in all) a) refl (not_false _ known.0), is); out = tt; source = tt; sink = tt; claimed_source = tt; claimed_sink = tt; words = tt }
good claimed all said (Out name edge) split is none =
    let next = fault_if (not (has_name said name)) (Asm UnknownName) None in
    let seated = none_if (is_off_edge (size_in said) edge) PortOffEdge (fault_if (is_unclaimed claimed kind.Sink edge) UndeclaredEdge next) none in
    let claims = none_if (is_unclaimed claimed kind.Sink edge) UndeclaredEdge next seated.1 in
    let known = none_if (not (has_name said name)) (Asm UnknownName) None claims.1 in
    let low = known_before all said (Out name edge) split name (not_false _ known.0) in
    record {
      size = tt;
      count = tt;
      node = tt;
      out = record { port = seat_there (sinks_in all) edge (sink_there all said name edge split); node = omega (arith, low.0, low.1) };
      source = tt;
      sink = seated.0;
      claimed_source = tt;
      claimed_sink = claims.0;
      words = tt;
    }
good claimed all said (Feed edge words) split is none = record { size = tt; count = tt; node = tt; out = tt; source = tt; sink = tt; claimed_source = tt; claimed_sink = tt; words = is }

-- ---- what statements without a fault give together
pub record AreSound (claimed : Option Topology) (all said : List Statement) : Type 0 where
  pub sizes : All IsGrid (filter_map size_of said)
  pub counts : All IsCount (filter_map count_of said)
  pub nodes : (v : ℕ) (node : RowNode) → slice_get (filter_map (node_of (names_in all) (sources_in all)) said) v ≡ Some node → IsRowNode (length (sources_in all)) (length (names_in all)) v node
  pub outs : All (IsOut (length (sinks_in all)) (length (names_in all))) (filter_map (out_of (names_in all) (sinks_in all)) said)
  pub sources : All (IsSeat (size_in said)) (filter_map source_of said)
  pub sinks : All (IsSeat (size_in said)) (filter_map sink_of said)
  pub claimed_sources : All (IsClaimed claimed kind.Source) (filter_map source_of said)
  pub claimed_sinks : All (IsClaimed claimed kind.Sink) (filter_map sink_of said)
  pub words : All AreWords (filter_map (feed_of (sources_in all)) said)

all_next : {X : Type 0} (P : X → Type 0) (f : Statement → Option X) (said : List Statement) (statement : Statement) → All P (filter_map f said) → IfSome (f statement) P → All P (filter_map f (said ++ statement ∷ []))
all_next {X = X} P f said statement all one = subst (All P) (sym (filter_next f said statement)) (by (f statement) one) where
  by : (o : Option X) → IfSome o P → All P (filter_map f said ++ option_to_list o)
  by None is = subst (All P) (sym (append-nil (filter_map f said))) all
  by (Some x) is = All-append P (filter_map f said) (x ∷ []) all (All-cons P x [] is (All-nil P))

nodes_push : (P : ℕ → RowNode → Type 0) (nodes : List RowNode) (last : RowNode) → ((v : ℕ) (node : RowNode) → slice_get nodes v ≡ Some node → P v node) → P (length nodes) last
    → (v : ℕ) (node : RowNode) → slice_get (nodes ++ last ∷ []) v ≡ Some node → P v node
nodes_push P nodes last are is v other e =
    let within = slice_get_within (nodes ++ last ∷ []) v other e in
    let there = get_or_from_slice_get (nodes ++ last ∷ []) v other last e in
    ⊎_elim
    (λ (lt : v < length nodes). are v other (slice_get-get_or nodes v last lt ∙ ap Some (sym (get_or-append nodes (last ∷ []) last v lt) ∙ there)))
    (λ (ge : length nodes ≤ v).
    let same : v ≡ length nodes = omega (arith, length_push nodes last, within, ge) in
    let is_last : last ≡ other = sym (get_or-append_seam nodes last [] last) ∙ ap (λ k. get_or (nodes ++ last ∷ []) k last) (sym same) ∙ there in
    subst (λ x. P v x) is_last (subst (λ k. P k last) (sym same) is))
    (cases_lt v (length nodes))

nodes_next : (P : ℕ → RowNode → Type 0) (f : Statement → Option RowNode) (said : List Statement) (statement : Statement) (n : ℕ) → length (filter_map f said) ≡ n
    → ((v : ℕ) (node : RowNode) → slice_get (filter_map f said) v ≡ Some node → P v node) → IfSome (f statement) (P n)
    → (v : ℕ) (node : RowNode) → slice_get (filter_map f (said ++ statement ∷ [])) v ≡ Some node → P v node
nodes_next P f said statement n long are one v node e = by (f statement) one (subst (λ nodes. slice_get nodes v ≡ Some node) (filter_next f said statement) e) where
  by : (o : Option RowNode) → IfSome o (P n) → slice_get (filter_map f said ++ option_to_list o) v ≡ Some node → P v node
  by None is e = are v node (subst (λ nodes. slice_get nodes v ≡ Some node) (append-nil (filter_map f said)) e)
  by (Some last) is e = nodes_push P (filter_map f said) last are (subst (λ k. P k last) (sym long) is) v node e

-- a seat stays one with more statements
seat_more : (xs ys : List (ℕ × ℕ)) (edge : Edge) → is_off_edge (slice_get xs 0) edge ≡ false → is_off_edge (slice_get (xs ++ ys) 0) edge ≡ false
seat_more [] ys edge off = absurd (cc off)
seat_more (size ∷ xs) ys edge off = off

seats_more : (said : List Statement) (statement : Statement) (edges : List Edge) → All (IsSeat (size_in said)) edges → All (IsSeat (size_in (said ++ statement ∷ []))) edges
seats_more said statement edges all k d within =
    subst (λ sizes. is_off_edge (slice_get sizes 0) (get_or edges k d) ≡ false) (sym (filter_next size_of said statement)) (seat_more (filter_map size_of said) (option_to_list (size_of statement)) (get_or edges k d) (all k d within))

one_seat : (said : List Statement) (statement : Statement) (o : Option Edge) → IfSome o (IsSeat (size_in said)) → IfSome o (IsSeat (size_in (said ++ statement ∷ [])))
one_seat said statement None is = tt
one_seat said statement (Some edge) is =
    subst (λ sizes. is_off_edge (slice_get sizes 0) edge ≡ false) (sym (filter_next size_of said statement)) (seat_more (filter_map size_of said) (option_to_list (size_of statement)) edge is)

pub sound_next : (claimed : Option Topology) (all said : List Statement) (statement : Statement) → Splits all said statement → IsWritten statement → AreSound claimed all said → statement_fault claimed all said statement ≡ None
    → AreSound claimed all (said ++ statement ∷ [])
sound_next claimed all said statement split is are none =
    let fine = good claimed all said statement split is none in
    record {
      sizes = all_next IsGrid size_of said statement are.sizes fine.size;
      counts = all_next IsCount count_of said statement are.counts fine.count;
      nodes = nodes_next (IsRowNode (length (sources_in all)) (length (names_in all))) (node_of (names_in all) (sources_in all)) said statement (length (names_in said))
          (count (names_in all) (sources_in all) said) are.nodes fine.node;
      outs = all_next (IsOut (length (sinks_in all)) (length (names_in all))) (out_of (names_in all) (sinks_in all)) said statement are.outs fine.out;
      sources = all_next (IsSeat (size_in (said ++ statement ∷ []))) source_of said statement (seats_more said statement (filter_map source_of said) are.sources) (one_seat said statement (source_of statement) fine.source);
      sinks = all_next (IsSeat (size_in (said ++ statement ∷ []))) sink_of said statement (seats_more said statement (filter_map sink_of said) are.sinks) (one_seat said statement (sink_of statement) fine.sink);
      claimed_sources = all_next (IsClaimed claimed kind.Source) source_of said statement are.claimed_sources fine.claimed_source;
      claimed_sinks = all_next (IsClaimed claimed kind.Sink) sink_of said statement are.claimed_sinks fine.claimed_sink;
      words = all_next AreWords (feed_of (sources_in all)) said statement are.words fine.words;
    }
