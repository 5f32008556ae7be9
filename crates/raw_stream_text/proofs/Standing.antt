-- What a stream that is being built stands for with one statement more, and the statement's fault.
use Rattle.std.proofs.Common.{◌≡◌, ℕ, suc, ◌<◌, arith, cond, eqb, get_or, Bool, true, false, not, ◌&&◌, ◌||◌, List, [], ◌∷◌, ◌++◌, length, map, Option, Some, None, unwrap_or, refl, sym, ap, ◌∙◌, subst, append-nil}
use Rattle.std.specs.Prelude.{slice_get, Result, Ok, Err, OnOk}
use Rattle.std.specs.Result.{IsErrAnd}
use Rattle.std.specs.Option.{option_or, option_to_list, is_some, is_none}
use Rattle.std.specs.List.{filter_map}
use Rattle.std.specs.Str.{bytes_eq}
use Rattle.std.proofs.lemmas.Bool.Decides.{nat_tests}
use Rattle.std.proofs.lemmas.List.Elements.{filter_map-append}
use Rattle.raw_asm.specs.declared.kind.AsmKind.TheVariants.{UnknownName}
use Rattle.raw_asm.specs.NameTable.{value_in}
use Rattle.raw_grid.specs.declared.limits.TheConstants.{MAX_SIZE}
use Rattle.raw_grid.specs.declared.parts.PortKind.TheVariants as kind
use Rattle.raw_grid.specs.Topology.{Topology}
use Rattle.raw_set_text.specs.declared.declaration.Edge.{Edge}
use Rattle.raw_set_text.specs.declared.kind.SetKind.{SetKind}
use Rattle.raw_set_text.specs.declared.kind.SetKind.TheVariants.{Missing, BadLine, PortOffEdge, UndeclaredEdge, Repeated, OverLimit, BadSize, Asm}
use Rattle.raw_set_text.specs.declared.kind.SetRefusal.{SetRefusal}
use Rattle.raw_set_text.specs.declared.kind.SetRefusal.TheVariants.{At, Memory}
use Rattle.raw_set_text.specs.Faults.{fault_if, is_within}
use Rattle.raw_flow.specs.declared.node.FlowOp.{FlowOp}
use Rattle.raw_flow_text.specs.Statement.Statement.{Grid as FlowGrid, Input as FlowInput, Const as FlowConst, Apply as FlowApply, Out as FlowOut}
use Rattle.raw_flow_text.specs.Flows.{number_in, node_number}
use Rattle.raw_flow_text.specs.Building.{Answers}
use Rattle.raw_flow_text.proofs.Next.{filter_next}
use Rattle.raw_stream.specs.declared.limits.TheConstants.{MAX_ROWS}
use Rattle.raw_stream.specs.declared.out.StreamOut.{StreamOut}
use Rattle.raw_stream.specs.declared.row_node.RowNode.{RowNode}
use Rattle.raw_stream_text.specs.declared.builder.Builder.{Builder}
use Rattle.raw_stream_text.specs.declared.named.Named.{Named}
use Rattle.raw_stream_text.specs.Edges.{edge_number}
use Rattle.raw_stream_text.specs.Statement.{Statement}
use Rattle.raw_stream_text.specs.Statement.Statement.{Flow, Rows, Input, Pre, Out, Feed}
use Rattle.raw_stream_text.specs.Forms.{line_statement}
use Rattle.raw_stream_text.specs.Streams.{size_of, size_in, count_of, count_in, name_of, names_in, sources_in, sinks_in, node_of, out_of, feed_of}
use Rattle.raw_stream_text.specs.Faults.{is_off_edge, is_unclaimed, is_unwanted, has_name, statement_fault, form_fault, due_word, is_missing, line_fault}
use Rattle.raw_stream_text.specs.Building.{IsNamed, feed_in, BuilderStands, AddsNode, AddsOut, AddsFeed, Adds, number_below, seat_fault}
use Rattle.raw_stream_text.proofs.Fronts.{front_number, below_is}

-- ---- one statement more
none_more : {X : Type 0} (xs : List X) (o : Option X) → o ≡ None → xs ≡ xs ++ option_to_list o
none_more xs o none = sym (append-nil xs) ∙ ap (λ p. xs ++ option_to_list p) (sym none)

first_same : {X : Type 0} (xs : List X) (o : Option X) → o ≡ None → slice_get xs 0 ≡ slice_get (xs ++ option_to_list o) 0
first_same xs o none = ap (λ ys. slice_get ys 0) (none_more xs o none)

first_push : {X : Type 0} (xs : List X) (x : X) → is_some (slice_get xs 0) ≡ false → slice_get (xs ++ x ∷ []) 0 ≡ Some x
first_push [] x none = refl
first_push (y ∷ xs) x none = absurd (cc none)

module _ (old new : Builder) (all said : List Statement) (statement : Statement) (stands : BuilderStands old all said) where
  extended : new.size ≡ slice_get (filter_map size_of said ++ option_to_list (size_of statement)) 0
      → new.count ≡ slice_get (filter_map count_of said ++ option_to_list (count_of statement)) 0
      → new.nodes.items ≡ old.nodes.items ++ option_to_list (node_of (names_in all) (sources_in all) statement)
      → new.outs.items ≡ old.outs.items ++ option_to_list (out_of (names_in all) (sinks_in all) statement)
      → map feed_in new.feeds.items ≡ map feed_in old.feeds.items ++ option_to_list (feed_of (sources_in all) statement)
      → BuilderStands new all (said ++ statement ∷ [])
  extended size count nodes outs feeds = record {
    size = size ∙ ap (λ sizes. slice_get sizes 0) (sym (filter_next size_of said statement));
    count = count ∙ ap (λ counts. slice_get counts 0) (sym (filter_next count_of said statement));
    nodes = nodes ∙ ap (λ front. front ++ option_to_list (node_of (names_in all) (sources_in all) statement)) stands.nodes ∙ sym (filter_next (node_of (names_in all) (sources_in all)) said statement);
    outs = outs ∙ ap (λ front. front ++ option_to_list (out_of (names_in all) (sinks_in all) statement)) stands.outs ∙ sym (filter_next (out_of (names_in all) (sinks_in all)) said statement);
    feeds = feeds ∙ ap (λ front. front ++ option_to_list (feed_of (sources_in all) statement)) stands.feeds ∙ sym (filter_next (feed_of (sources_in all)) said statement);
  }

  same_size : new.size ≡ old.size → size_of statement ≡ None → new.size ≡ slice_get (filter_map size_of said ++ option_to_list (size_of statement)) 0
  same_size same none = same ∙ stands.size ∙ first_same (filter_map size_of said) (size_of statement) none

  same_count : new.count ≡ old.count → count_of statement ≡ None → new.count ≡ slice_get (filter_map count_of said ++ option_to_list (count_of statement)) 0
  same_count same none = same ∙ stands.count ∙ first_same (filter_map count_of said) (count_of statement) none

  same_nodes : new.nodes ≡ old.nodes → node_of (names_in all) (sources_in all) statement ≡ None → new.nodes.items ≡ old.nodes.items ++ option_to_list (node_of (names_in all) (sources_in all) statement)
  same_nodes same none = ap (λ v. v.items) same ∙ none_more old.nodes.items (node_of (names_in all) (sources_in all) statement) none

  same_outs : new.outs ≡ old.outs → out_of (names_in all) (sinks_in all) statement ≡ None → new.outs.items ≡ old.outs.items ++ option_to_list (out_of (names_in all) (sinks_in all) statement)
  same_outs same none = ap (λ v. v.items) same ∙ none_more old.outs.items (out_of (names_in all) (sinks_in all) statement) none

  same_feeds : new.feeds ≡ old.feeds → feed_of (sources_in all) statement ≡ None → map feed_in new.feeds.items ≡ map feed_in old.feeds.items ++ option_to_list (feed_of (sources_in all) statement)
  same_feeds same none = ap (λ v. map feed_in v.items) same ∙ none_more (map feed_in old.feeds.items) (feed_of (sources_in all) statement) none

  -- nothing is added
  pub nothing_added : new ≡ old → size_of statement ≡ None → count_of statement ≡ None → node_of (names_in all) (sources_in all) statement ≡ None
      → out_of (names_in all) (sinks_in all) statement ≡ None → feed_of (sources_in all) statement ≡ None → BuilderStands new all (said ++ statement ∷ [])
  nothing_added same size count node out feed =
      extended (same_size (ap (λ b. b.size) same) size) (same_count (ap (λ b. b.count) same) count) (same_nodes (ap (λ b. b.nodes) same) node) (same_outs (ap (λ b. b.outs) same) out)
      (same_feeds (ap (λ b. b.feeds) same) feed)

  pub grid_added : (size : ℕ × ℕ) → is_some (size_in said) ≡ false → new.size ≡ Some size → new.count ≡ old.count → new.nodes ≡ old.nodes → new.outs ≡ old.outs → new.feeds ≡ old.feeds
      → size_of statement ≡ Some size → count_of statement ≡ None → node_of (names_in all) (sources_in all) statement ≡ None
      → out_of (names_in all) (sinks_in all) statement ≡ None → feed_of (sources_in all) statement ≡ None → BuilderStands new all (said ++ statement ∷ [])
  grid_added size free is counts nodes outs feeds says count node out feed =
      extended (is ∙ sym (first_push (filter_map size_of said) size free) ∙ ap (λ o. slice_get (filter_map size_of said ++ option_to_list o) 0) (sym says))
      (same_count counts count) (same_nodes nodes node) (same_outs outs out) (same_feeds feeds feed)

  pub rows_added : (many : ℕ) → is_some (count_in said) ≡ false → new.count ≡ Some many → new.size ≡ old.size → new.nodes ≡ old.nodes → new.outs ≡ old.outs → new.feeds ≡ old.feeds
      → count_of statement ≡ Some many → size_of statement ≡ None → node_of (names_in all) (sources_in all) statement ≡ None
      → out_of (names_in all) (sinks_in all) statement ≡ None → feed_of (sources_in all) statement ≡ None → BuilderStands new all (said ++ statement ∷ [])
  rows_added many free is sizes nodes outs feeds says size node out feed =
      extended (same_size sizes size) (is ∙ sym (first_push (filter_map count_of said) many free) ∙ ap (λ o. slice_get (filter_map count_of said ++ option_to_list o) 0) (sym says))
      (same_nodes nodes node) (same_outs outs out) (same_feeds feeds feed)

  pub node_added : (node : RowNode) → AddsNode old new node → node_of (names_in all) (sources_in all) statement ≡ Some node → size_of statement ≡ None → count_of statement ≡ None
      → out_of (names_in all) (sinks_in all) statement ≡ None → feed_of (sources_in all) statement ≡ None → BuilderStands new all (said ++ statement ∷ [])
  node_added node adds says size count out feed =
      extended (same_size adds.size size) (same_count adds.count count) (adds.nodes ∙ ap (λ o. old.nodes.items ++ option_to_list o) (sym says)) (same_outs adds.outs out) (same_feeds adds.feeds feed)

  pub out_added : (out : StreamOut) → AddsOut old new out → out_of (names_in all) (sinks_in all) statement ≡ Some out → size_of statement ≡ None → count_of statement ≡ None
      → node_of (names_in all) (sources_in all) statement ≡ None → feed_of (sources_in all) statement ≡ None → BuilderStands new all (said ++ statement ∷ [])
  out_added out adds says size count node feed =
      extended (same_size adds.size size) (same_count adds.count count) (same_nodes adds.nodes node) (adds.outs ∙ ap (λ o. old.outs.items ++ option_to_list o) (sym says)) (same_feeds adds.feeds feed)

  pub feed_added : (fed : ℕ × List ℕ) → AddsFeed old new fed → feed_of (sources_in all) statement ≡ Some fed → size_of statement ≡ None → count_of statement ≡ None
      → node_of (names_in all) (sources_in all) statement ≡ None → out_of (names_in all) (sinks_in all) statement ≡ None → BuilderStands new all (said ++ statement ∷ [])
  feed_added fed adds says size count node out =
      extended (same_size adds.size size) (same_count adds.count count) (same_nodes adds.nodes node) (same_outs adds.outs out) (adds.feeds ∙ ap (λ o. map feed_in old.feeds.items ++ option_to_list o) (sym says))

-- ---- names
-- each name has a node
pub count : (names : List (List ℕ)) (sources : List Edge) (said : List Statement) → length (filter_map (node_of names sources) said) ≡ length (names_in said)
count names sources [] = refl
count names sources (Flow (FlowGrid columns rows) ∷ said) = count names sources said
count names sources (Flow (FlowInput name word) ∷ said) = count names sources said
count names sources (Flow (FlowConst name word) ∷ said) = ap suc (count names sources said)
count names sources (Flow (FlowApply name op a b) ∷ said) = ap suc (count names sources said)
count names sources (Flow (FlowOut name) ∷ said) = count names sources said
count names sources (Rows many ∷ said) = count names sources said
count names sources (Input name edge ∷ said) = ap suc (count names sources said)
count names sources (Pre name a word ∷ said) = ap suc (count names sources said)
count names sources (Out name edge ∷ said) = count names sources said
count names sources (Feed edge words ∷ said) = count names sources said

-- the number of a name that a line before defines
module _ (builder : Builder) (named : Named) (all said rest : List Statement) (split : all ≡ said ++ rest) (is : IsNamed named all) (stands : BuilderStands builder all said) where
  pub found : (name : List ℕ) → number_below (length builder.nodes.items) (value_in named.numbers name) ≡ number_in (names_in said) name
  found name =
      let long : length builder.nodes.items ≡ length (names_in said) = ap length stands.nodes ∙ count (names_in all) (sources_in all) said in
      let whole : names_in all ≡ names_in said ++ names_in rest = ap names_in split ∙ filter_map-append name_of said rest in
      ap (λ n. number_below n (value_in named.numbers name)) long
      ∙ ap (number_below (length (names_in said))) (is.numbers name ∙ ap (λ names. number_in names name) whole)
      ∙ front_number (λ other. bytes_eq other name) (names_in said) (names_in rest)

  pub known : (name : List ℕ) (number : Option ℕ) (test : Bool) → number ≡ number_below (length builder.nodes.items) (value_in named.numbers name) → is_some number ≡ test → has_name said name ≡ test
  known name number test read there = ap is_some (sym (found name) ∙ sym read) ∙ there

  pub numbered : (name : List ℕ) (number : ℕ) → number_below (length builder.nodes.items) (value_in named.numbers name) ≡ Some number → node_number (names_in all) name ≡ number
  numbered name number read = ap (λ o. unwrap_or o 0) (sym (is.numbers name) ∙ below_is (length builder.nodes.items) (value_in named.numbers name) number read)

-- the number of a name in the whole text
pub named_has : (named : Named) (all : List Statement) (name : List ℕ) (number : Option ℕ) (test : Bool) → IsNamed named all → number ≡ value_in named.numbers name → is_some number ≡ test → has_name all name ≡ test
named_has named all name number test is read there = ap is_some (sym (is.numbers name) ∙ sym read) ∙ there

pub named_number : (named : Named) (all : List Statement) (name : List ℕ) (number : ℕ) → IsNamed named all → value_in named.numbers name ≡ Some number → node_number (names_in all) name ≡ number
named_number named all name number is read = ap (λ o. unwrap_or o 0) (sym (is.numbers name) ∙ read)

-- ---- answers
-- the first answer that names a fault is passed on
pub told : (refusal : SetRefusal) (number : ℕ) (first next whole : Option SetKind) → whole ≡ option_or first next → Answers {T = Unit {0}} (Err refusal) number first → Answers {T = Unit {0}} (Err refusal) number whole
told (At line kind) number first next whole same answers = (answers.0, same ∙ ap (λ o. option_or o next) answers.1)
told Memory number first next whole same answers = tt

pub refused : {T : Type 0} (old new : Builder) (claimed : Option Topology) (all : List Statement) (line : ℕ) (result : Result T SetRefusal) (refusal : SetRefusal) (statement : Statement) → IsErrAnd result (λ other. other ≡ refusal)
    → ((said rest : List Statement) → all ≡ said ++ statement ∷ rest → BuilderStands old all said → Answers {T = T} (Err refusal) line (statement_fault claimed all said statement))
    → Adds old new claimed all line result statement
refused old new claimed all line (Ok done) refusal statement is fault = absurd is
refused {T} old new claimed all line (Err other) refusal statement is fault =
    subst (λ r. Adds {T = T} old new claimed all line (Err r) statement) (sym is) (record { fault = fault; stands = λ said rest split stands. tt })

-- a refusal by its kind
pub says : (old new : Builder) (claimed : Option Topology) (all : List Statement) (line : ℕ) (why : SetRefusal) (statement : Statement) (kind : SetKind) → why ≡ At line kind
    → ((said rest : List Statement) → all ≡ said ++ statement ∷ rest → BuilderStands old all said → statement_fault claimed all said statement ≡ Some kind)
    → Adds {T = Unit {0}} old new claimed all line (Err why) statement
says old new claimed all line why statement kind is fault =
    subst (λ r. Adds {T = Unit {0}} old new claimed all line (Err r) statement) (sym is) (record { fault = λ said rest split stands. (refl, fault said rest split stands); stands = λ said rest split stands. tt })

-- ---- faults of statements
pub one_fault : (a : Bool) (x : SetKind) (next : Option SetKind) → fault_if a x next ≡ option_or (fault_if a x None) next
one_fault true x next = refl
one_fault false x next = refl

two_faults : (a b : Bool) (x y : SetKind) (next : Option SetKind) → fault_if a x (fault_if b y next) ≡ option_or (fault_if a x (fault_if b y None)) next
two_faults true b x y next = refl
two_faults false true x y next = refl
two_faults false false x y next = refl

-- a name that is new
pub new_first : (builder : Builder) (named : Named) (all said rest : List Statement) → all ≡ said ++ rest → IsNamed named all → BuilderStands builder all said → (name : List ℕ) (next : Option SetKind)
    → fault_if (has_name said name) Repeated next ≡ option_or (fault_if (is_some (number_below (length builder.nodes.items) (value_in named.numbers name))) Repeated None) next
new_first builder named all said rest split is stands name next =
    let read = number_below (length builder.nodes.items) (value_in named.numbers name) in
    ap (λ o. fault_if (is_some o) Repeated next) (sym (found builder named all said rest split is stands name)) ∙ one_fault (is_some read) Repeated next

module _ (claimed : Option Topology) (all said : List Statement) where
  pub input_fault : (name : List ℕ) (edge : Edge) → statement_fault claimed all said (Input name edge) ≡ option_or (seat_fault claimed (size_in said) kind.Source edge) (fault_if (has_name said name) Repeated None)
  unfolding statement_fault
  input_fault name edge = two_faults (is_off_edge (size_in said) edge) (is_unclaimed claimed kind.Source edge) PortOffEdge UndeclaredEdge (fault_if (has_name said name) Repeated None)

  pub out_fault : (name : List ℕ) (edge : Edge) → statement_fault claimed all said (Out name edge) ≡ option_or (seat_fault claimed (size_in said) kind.Sink edge) (fault_if (not (has_name said name)) (Asm UnknownName) None)
  unfolding statement_fault
  out_fault name edge = two_faults (is_off_edge (size_in said) edge) (is_unclaimed claimed kind.Sink edge) PortOffEdge UndeclaredEdge (fault_if (not (has_name said name)) (Asm UnknownName) None)

  pub pre_fault : (name a : List ℕ) (word : ℕ) → statement_fault claimed all said (Pre name a word) ≡ fault_if (has_name said name) Repeated (fault_if (not (has_name all a)) (Asm UnknownName) None)
  unfolding statement_fault
  pre_fault name a word = refl

  pub const_fault : (name : List ℕ) (word : ℕ) → statement_fault claimed all said (Flow (FlowConst name word)) ≡ fault_if (has_name said name) Repeated None
  unfolding statement_fault
  const_fault name word = refl

  pub apply_fault : (name : List ℕ) (op : FlowOp) (a b : List ℕ) → statement_fault claimed all said (Flow (FlowApply name op a b)) ≡ fault_if (has_name said name) Repeated (fault_if (not (has_name said a && has_name said b)) (Asm UnknownName) None)
  unfolding statement_fault
  apply_fault name op a b = refl

  pub grid_fault : (columns rows : ℕ) → statement_fault claimed all said (Flow (FlowGrid columns rows))
      ≡ fault_if (not (is_within 1 MAX_SIZE columns && is_within 1 MAX_SIZE rows) || is_unwanted claimed columns rows) BadSize (fault_if (is_some (size_in said)) Repeated None)
  unfolding statement_fault
  grid_fault columns rows = refl

  pub rows_fault : (many : ℕ) → statement_fault claimed all said (Rows many) ≡ fault_if (is_some (count_in said)) Repeated (fault_if (not (is_within 1 MAX_ROWS many)) OverLimit None)
  unfolding statement_fault
  rows_fault many = refl

  pub feed_fault : (edge : Edge) (words : List ℕ) → statement_fault claimed all said (Feed edge words) ≡ fault_if (is_none (edge_number (sources_in all) edge)) UndeclaredEdge None
  unfolding statement_fault
  feed_fault edge words = refl

-- lines of a flow that no stream has
pub idle_input : (builder : Builder) (claimed : Option Topology) (all : List Statement) (line : ℕ) (name : List ℕ) (word : ℕ) → Adds {T = Unit {0}} builder builder claimed all line (Ok tt) (Flow (FlowInput name word))
unfolding statement_fault
idle_input builder claimed all line name word =
    record { fault = λ said rest split stands. refl; stands = λ said rest split stands. nothing_added builder builder all said (Flow (FlowInput name word)) stands refl refl refl refl refl refl }

pub idle_out : (builder : Builder) (claimed : Option Topology) (all : List Statement) (line : ℕ) (name : List ℕ) → Adds {T = Unit {0}} builder builder claimed all line (Ok tt) (Flow (FlowOut name))
unfolding statement_fault
idle_out builder claimed all line name =
    record { fault = λ said rest split stands. refl; stands = λ said rest split stands. nothing_added builder builder all said (Flow (FlowOut name)) stands refl refl refl refl refl refl }

-- ---- lines
module _ (claimed : Option Topology) (builder : Builder) (all said : List Statement) (line : List (List ℕ)) where
  pub line_blank : length line ≡ 0 → line_fault claimed all said line ≡ None
  unfolding line_fault
  line_blank none =
      ap (λ n. cond (eqb n 0) None (cond (is_missing (due_word (size_in said) (count_in said)) (get_or line 0 [])) (Some Missing) (form_fault claimed all said (line_statement line)))) none

  -- a line with tokens, by the word that is due
  begun : BuilderStands builder all said → 0 < length line → (test : Bool) → is_missing (due_word builder.size builder.count) (get_or line 0 []) ≡ test
      → line_fault claimed all said line ≡ cond test (Some Missing) (form_fault claimed all said (line_statement line))
  unfolding line_fault
  begun stands some test due =
      let tokens : eqb (length line) 0 ≡ false = grind (arith, nat_tests) in
      ap (λ b. cond b None (cond (is_missing (due_word (size_in said) (count_in said)) (get_or line 0 [])) (Some Missing) (form_fault claimed all said (line_statement line)))) tokens
      ∙ ap (λ size. cond (is_missing (due_word size (count_in said)) (get_or line 0 [])) (Some Missing) (form_fault claimed all said (line_statement line))) (sym stands.size)
      ∙ ap (λ many. cond (is_missing (due_word builder.size many) (get_or line 0 [])) (Some Missing) (form_fault claimed all said (line_statement line))) (sym stands.count)
      ∙ ap (λ b. cond b (Some Missing) (form_fault claimed all said (line_statement line))) due

  pub line_missing : BuilderStands builder all said → 0 < length line → is_missing (due_word builder.size builder.count) (get_or line 0 []) ≡ true → line_fault claimed all said line ≡ Some Missing
  line_missing stands some due = begun stands some true due

  pub line_bad : BuilderStands builder all said → 0 < length line → is_missing (due_word builder.size builder.count) (get_or line 0 []) ≡ false → line_statement line ≡ None → line_fault claimed all said line ≡ Some BadLine
  line_bad stands some due none = begun stands some false due ∙ ap (form_fault claimed all said) none

  module _ {T : Type 0} (new : Builder) (number : ℕ) (result : Result T SetRefusal) (statement : Statement) (rest : List Statement) (says_it : line_statement line ≡ Some statement)
      (adds : Adds builder new claimed all number result statement) (split : all ≡ said ++ (option_to_list (line_statement line) ++ rest)) (stands : BuilderStands builder all said) where
    split_is : all ≡ said ++ statement ∷ rest
    split_is = split ∙ ap (λ o. said ++ (option_to_list o ++ rest)) says_it

    pub line_answers : 0 < length line → is_missing (due_word builder.size builder.count) (get_or line 0 []) ≡ false → Answers result number (line_fault claimed all said line)
    line_answers some due =
        subst (Answers result number) (sym (begun stands some false due ∙ ap (form_fault claimed all said) says_it)) (adds.fault said rest split_is stands)

    pub line_stands : OnOk result (BuilderStands new all (said ++ option_to_list (line_statement line)))
    line_stands = subst (λ o. OnOk result (BuilderStands new all (said ++ option_to_list o))) (sym says_it) (adds.stands said rest split_is stands)
