-- The induction on kernels.
use Rattle.std.proofs.Common.{◌≡◌, ℕ, zero, suc, ◌+◌, ◌-◌, ◌*◌, ◌^◌, ◌<◌, ◌≤◌, List, [], ◌∷◌, ◌++◌, length, map, take, drop, Some, refl, sym, ap, ◌∙◌, subst, arith}
use Rattle.std.specs.Prelude.{slice_get, slice_index, if◌then◌else◌}
use Rattle.std.specs.List.{range_with_len}
use Rattle.std.proofs.lemmas.Bool.{ne_eqb}
use Rattle.std.proofs.Math.Nat.{suc-mul}
use Rattle.std.proofs.lemmas.List.{take-append-drop, drop-take, length-map, length-take-le, length-drop}
use Rattle.raw_tile_isa.specs.Words.{EachGivesWords}
use Rattle.raw_grid.specs.Topology.{tile_count}
use Rattle.raw_model.specs.Program.{ProgramSet, PortProgram, IsSet}
use Rattle.raw_model.specs.Machine.{words_of, capacity_of}
use Rattle.raw_model.specs.Start.{MachineState}
use Rattle.raw_model.specs.Rest.{step, IsLawfulFrom, end_from}
use Rattle.raw_flow.specs.declared.node.Node.{Node}
use Rattle.raw_flow.specs.declared.node.Node.TheVariants.{Const}
use Rattle.raw_flow.specs.Flows.{values_from}
use Rattle.raw_term.proofs.Terms.{Holds, none_some, term_values}
use Rattle.raw_term.proofs.Image.{Pairs}
use Rattle.raw_stream.specs.declared.row_node.RowNode.{RowNode}
use Rattle.raw_stream.specs.declared.row_node.RowNode.TheVariants as row
use Rattle.raw_stream.specs.Streams.{Stream, AreNamed, row_of, due_to, first_words, next_nodes, carried_after, rows_of}
use Rattle.raw_row_terms.specs.RowTerms.{placed, RowTerms, row_terms, carried_over, AreWordNodes, AllWords}
use Rattle.raw_row_terms.proofs.Placing.{RowsPlaced, rows_placed, rows_many}
use Rattle.raw_row_terms.proofs.Firsts.{first_are_words, row_constants}
use Rattle.raw_rows.specs.Given.{row_width, part, given_by}
use Rattle.raw_rows.specs.Kernels.{joined, room_for, run_port, run_ports, Cut, unknown, open_nodes, open_rows, carried_in, begun, Leads, LeadsNoting, IsRow, AreRows, fed_by, fed_rows}
use Rattle.raw_rows.proofs.Frames.{Frame}
use Rattle.raw_rows.proofs.Inputs.{AreWide}
use Rattle.raw_rows.proofs.Ports.{words_append, rooms_few, due_room, room_append}
use Rattle.raw_rows.proofs.Opening.{Opened, opened, open_terms, open_inputs, unknown_is, unknown_constants, next_as_many}
use Rattle.raw_rows.proofs.Led.{StandsAt, LedTo, led, sent_of, had_of}

-- parts of lists
pub take_take : {A : Type 0} (a b : ℕ) (xs : List A) → a ≤ b → take a (take b xs) ≡ take a xs
take_take zero b xs h = refl
take_take (suc a) zero xs h = absurd (omega (arith, h))
take_take (suc a) (suc b) [] h = refl
take_take (suc a) (suc b) (x ∷ xs) h = ap (λ ys. x ∷ ys) (take_take a b xs (omega (arith, h)))

pub take_more : {A : Type 0} (a b c : ℕ) (xs : List A) → c ≡ a + b → take a xs ++ take b (drop a xs) ≡ take c xs
take_more zero b c xs e = ap (λ n. take n xs) (omega (arith, e))
take_more (suc a) zero zero [] e = absurd (omega (arith, e))
take_more (suc a) (suc b) zero [] e = absurd (omega (arith, e))
take_more (suc a) zero (suc c) [] e = refl
take_more (suc a) (suc b) (suc c) [] e = refl
take_more (suc a) b zero (x ∷ xs) e = absurd (omega (arith, e))
take_more (suc a) b (suc c) (x ∷ xs) e = ap (λ ys. x ∷ ys) (take_more a b c xs (omega (arith, e)))

pub drop_more : {A : Type 0} (a b c : ℕ) (xs : List A) → c ≡ a + b → drop b (drop a xs) ≡ drop c xs
drop_more zero b c xs e = ap (λ n. drop n xs) (omega (arith, e))
drop_more (suc a) zero zero [] e = absurd (omega (arith, e))
drop_more (suc a) (suc b) zero [] e = absurd (omega (arith, e))
drop_more (suc a) zero (suc c) [] e = refl
drop_more (suc a) (suc b) (suc c) [] e = refl
drop_more (suc a) b zero (x ∷ xs) e = absurd (omega (arith, e))
drop_more (suc a) b (suc c) (x ∷ xs) e = drop_more a b c xs (omega (arith, e))

module _ {A : Type 0} (P : A → Type 0) where
  abbrev pub Each : List A → Type 0
  Each xs = (i : ℕ) (x : A) → slice_get xs i ≡ Some x → P x

  pub each_take : (n : ℕ) (xs : List A) → Each xs → Each (take n xs)
  each_take zero xs h i x e = none_some x e
  each_take (suc n) [] h i x e = none_some x e
  each_take (suc n) (y ∷ xs) h zero x e = h 0 x e
  each_take (suc n) (y ∷ xs) h (suc i) x e = each_take n xs (λ j z f. h (suc j) z f) i x e

  pub each_drop : (n : ℕ) (xs : List A) → Each xs → Each (drop n xs)
  each_drop zero xs h i x e = h i x e
  each_drop (suc n) [] h i x e = h i x e
  each_drop (suc n) (y ∷ xs) h i x e = each_drop n xs (λ j z f. h (suc j) z f) i x e

  pub each_append : (xs ys : List A) → Each xs → Each ys → Each (xs ++ ys)
  each_append [] ys h g i z e = g i z e
  each_append (x ∷ xs) ys h g zero z e = h 0 z e
  each_append (x ∷ xs) ys h g (suc i) z e = each_append xs ys (λ j y f. h (suc j) y f) g i z e

-- words of rows
pub joined_words : (s : Stream) (rows : List (List ℕ)) → AreRows s rows → AllWords (joined rows)
joined_words s [] h i x e = none_some x e
joined_words s (words ∷ rows) h i x e = each_append (λ y. y < 2 ^ 32) words (joined rows) (h 0 words refl).small (joined_words s rows (λ j w f. h (suc j) w f)) i x e

pairs_words : (W cs xs : List ℕ) → ((c x : ℕ) → Holds W c x → x < 2 ^ 32) → Pairs (Holds W) cs xs → AllWords xs
pairs_words W [] [] words h i x e = none_some x e
pairs_words W [] (y ∷ xs) words h i x e = absurd h
pairs_words W (c ∷ cs) [] words h i x e = absurd h
pairs_words W (c ∷ cs) (y ∷ xs) words h zero x e = words c x (subst (λ z. Holds W c z) (same e) h.0) where
  same : Some y ≡ Some x → y ≡ x
  same f = cc f
pairs_words W (c ∷ cs) (y ∷ xs) words h (suc i) x e = pairs_words W cs xs words h.1 i x e

-- ports that are fed
part_past : (n q : ℕ) (nodes : List RowNode) (words : List ℕ) → ((v p : ℕ) → slice_get nodes v ≡ Some (row.Input p) → p < n) → n ≤ q → part q nodes words ≡ []
part_past n q [] words low h = refl
part_past n q (row.Input p ∷ nodes) words low h =
    let less : p < n = low 0 p refl in
    ap (λ b. (if b then take 1 words else []) ++ part q nodes (drop 1 words)) (ne_eqb p q (λ same. omega (arith, same, less, h)))
    ∙ part_past n q nodes (drop 1 words) (λ v. low (suc v)) h
part_past n q (row.Const word ∷ nodes) words low h = part_past n q nodes words (λ v. low (suc v)) h
part_past n q (row.Apply op a b ∷ nodes) words low h = part_past n q nodes words (λ v. low (suc v)) h
part_past n q (row.Pre a word ∷ nodes) words low h = part_past n q nodes words (λ v. low (suc v)) h

module _ (s : Stream) (named : AreNamed s) where
  given_past : (q : ℕ) (rows : List (List ℕ)) → length s.sources ≤ q → given_by s q rows ≡ []
  given_past q [] h = refl
  given_past q (words ∷ rows) h = ap (λ xs. xs ++ given_by s q rows) (part_past (length s.sources) q s.nodes words (λ v p e. named.nodes v (row.Input p) e) h) ∙ given_past q rows h

  words_are : (rows : List (List ℕ)) (k n i : ℕ) → length s.sources ≤ k + n → words_of (slice_get (map (run_port s rows) (range_with_len k n)) i) ≡ given_by s (k + i) rows
  words_are rows k zero i h = sym (given_past (k + i) rows (omega (arith, h)))
  words_are rows k (suc n) zero h = let e : k ≡ k + 0 = omega arith in ap (λ j. given_by s j rows) e
  words_are rows k (suc n) (suc i) h = let e : k + 1 + i ≡ k + suc i = omega arith in words_are rows (k + 1) n i (omega (arith, h)) ∙ ap (λ j. given_by s j rows) e

module _ (s : Stream) where
  pub fed_words : (rows : List (List ℕ)) (ports : List PortProgram) (k i : ℕ) → words_of (slice_get (fed_by s rows k ports) i) ≡ words_of (slice_get (map (run_port s rows) (range_with_len k (length ports))) i)
  fed_words rows [] k i = refl
  fed_words rows (port ∷ ports) k zero = refl
  fed_words rows (port ∷ ports) k (suc i) = fed_words rows ports (k + 1) i

  pub fed_rooms : (rows : List (List ℕ)) (ports : List PortProgram) (k i : ℕ) → capacity_of (slice_get (fed_by s rows k ports) i) ≡ capacity_of (slice_get ports i)
  fed_rooms rows [] k i = refl
  fed_rooms rows (port ∷ ports) k zero = refl
  fed_rooms rows (port ∷ ports) k (suc i) = fed_rooms rows ports (k + 1) i

  pub carried_long : (carried : List ℕ) (rows : List (List ℕ)) → length (next_nodes s) ≡ length (first_words s) → length carried ≡ length (first_words s) → length (carried_over s carried rows) ≡ length (first_words s)
  carried_long carried [] next h = h
  carried_long carried (words ∷ rows) next h = carried_long (carried_after s carried words) rows next (length-map (next_nodes s) (λ v. slice_index (row_of s carried words) v) ∙ next)

  pub wide_rows : (rows : List (List ℕ)) → AreRows s rows → AreWide (row_width s) rows
  wide_rows rows h i words e = (h i words e).many

module _ (each : EachGivesWords) (set_ : ProgramSet) (s : Stream) (valid : IsSet set_) (named : AreNamed s) (ports : length s.sources ≤ length set_.ports) where
  -- what is carried is words
  pub carried_words : (rows : List (List ℕ)) → AreRows s rows → AllWords (carried_over s (first_words s) rows)
  carried_words rows are =
      let small : AllWords (first_words s ++ joined rows) = each_append (λ x. x < 2 ^ 32) (first_words s) (joined rows) (first_are_words s named) (joined_words s rows are) in
      let wide : AreWide (row_width s) rows = wide_rows s rows are in
      let table : Opened each s (first_words s) rows refl wide small (unknown s) (unknown_constants (length (first_words s))) (unknown_is s (first_words s) refl) (open_nodes s (length rows)) =
      opened each s (first_words s) rows refl wide small (unknown s) (unknown_constants (length (first_words s))) (unknown_is s (first_words s) refl) (open_nodes s (length rows)) (open_terms each s (first_words s) rows refl wide small) (open_inputs each s (first_words s) rows refl wide small) in
      let nodes : List Node = (carried_in s (open_nodes s (length rows)) (unknown s)).nodes in
      let cs : List ℕ = (carried_in s (open_nodes s (length rows)) (unknown s)).numbers in
      let R : RowTerms = row_terms s nodes cs (open_rows s (length rows)) in
      let rows_are : RowsPlaced each (first_words s ++ joined rows) s (row_constants s named) nodes R (carried_over s (first_words s) rows) (rows_of s (first_words s) rows) =
      rows_placed each (first_words s ++ joined rows) s (row_constants s named) nodes cs (first_words s) (open_rows s (length rows)) rows table.terms table.carries table.each_row in
      pairs_words (term_values (first_words s ++ joined rows) R.nodes) R.carried (carried_over s (first_words s) rows) rows_are.terms.words rows_are.carries

  module _ (all : List (List ℕ)) (are : AreRows s all) (room : (q : ℕ) → room_for s q all ≤ capacity_of (slice_get set_.ports q)) where
    abbrev many : List PortProgram
    many = fed_by s all 0 set_.ports

    -- the machine stands at the cut, b rows behind it
    abbrev pub At : Cut → ℕ → ℕ → MachineState → Type 0
    At cut b used x = StandsAt each set_ s valid cut (take b all) (take cut.window (drop b all)) used x

    -- what the whole run has before and behind the part that sees m rows from row b on
    pub frame_at : (b m : ℕ) (limit used : ℕ) → used + limit ≤ set_.limit
        → Frame set_ limit set_.limit (run_ports s (length set_.ports) (take m (drop b all))) many used (sent_of each set_ s valid (take b all)) (had_of each set_ s valid (first_words s) (take b all))
        (λ p. words_of (slice_get (run_ports s (length set_.ports) (drop m (drop b all))) (p - 2 * tile_count set_.topo)))
    frame_at b m limit used enough =
        let split : take b all ++ (take m (drop b all) ++ drop m (drop b all)) ≡ all = ap (λ xs. take b all ++ xs) (take-append-drop m (drop b all)) ∙ take-append-drop b all in
        let qs : List ℕ = range_with_len 0 (length set_.ports) in
        record {
          limit = enough;
          words = λ p.
              let q : ℕ = p - 2 * tile_count set_.topo in
              let none : 0 + q ≡ q = omega arith in
              fed_words s all set_.ports 0 q
              ∙ ap (λ xs. words_of (slice_get (map (run_port s xs) qs) q)) (sym split)
              ∙ words_append s (take b all) (take m (drop b all) ++ drop m (drop b all)) qs q
              ∙ ap (λ xs. xs ++ words_of (slice_get (map (run_port s (take m (drop b all) ++ drop m (drop b all))) qs) q))
              (words_are s named (take b all) 0 (length set_.ports) q (omega (arith, ports)) ∙ ap (λ j. given_by s j (take b all)) none)
              ∙ ap (λ xs. given_by s q (take b all) ++ xs) (words_append s (take m (drop b all)) (drop m (drop b all)) qs q);
          room = λ p.
              let q : ℕ = p - 2 * tile_count set_.topo in
              let none : 0 + q ≡ q = omega arith in
              let had : length (due_to s q (rows_of s (first_words s) (take b all))) ≡ room_for s q (take b all) = due_room s (rows_of s (first_words s) (take b all)) (take b all) (rows_many s (first_words s) (take b all)) q in
              let part_ : capacity_of (slice_get (map (run_port s (take m (drop b all))) qs) q) ≤ room_for s q (take m (drop b all)) =
              subst (λ j. capacity_of (slice_get (map (run_port s (take m (drop b all))) qs) q) ≤ room_for s j (take m (drop b all))) none (rooms_few s (take m (drop b all)) 0 (length set_.ports) q) in
              let sum : room_for s q all ≡ room_for s q (take b all) + (room_for s q (take m (drop b all)) + room_for s q (drop m (drop b all))) =
              ap (λ xs. room_for s q xs) (sym split) ∙ room_append s (take b all) (take m (drop b all) ++ drop m (drop b all)) q
              ∙ ap (λ k. room_for s q (take b all) + k) (room_append s (take m (drop b all)) (drop m (drop b all)) q) in
              let whole : capacity_of (slice_get (fed_by s all 0 set_.ports) q) ≡ capacity_of (slice_get set_.ports q) = fed_rooms s all set_.ports 0 q in
              omega (arith, had, part_, sum, whole, room q);
        }

    -- steps that lead to a cut
    pub record Reaches (x : MachineState) (cut : Cut) (b used : ℕ) : Type 0 where
      pub steps : List ℕ
      pub lawful : IsLawfulFrom (fed_rows set_ s all) x steps
      pub stands : At cut b used (end_from (fed_rows set_ s all) x steps)

    abbrev pub before_words : (b : ℕ) → AllWords (carried_over s (first_words s) (take b all))
    before_words b = carried_words (take b all) (each_take (IsRow s) b all are)

    pub before_long : (b : ℕ) → length (carried_over s (first_words s) (take b all)) ≡ length (first_words s)
    before_long b = carried_long s (first_words s) (take b all) (next_as_many s) refl

    pub seen_small : (b m : ℕ) → AllWords (carried_over s (first_words s) (take b all) ++ joined (take m (drop b all)))
    seen_small b m =
        each_append (λ x. x < 2 ^ 32) (carried_over s (first_words s) (take b all)) (joined (take m (drop b all))) (before_words b) (joined_words s (take m (drop b all)) (each_take (IsRow s) m (drop b all) (each_drop (IsRow s) b all are)))

    pub seen_wide : (b m : ℕ) → AreWide (row_width s) (take m (drop b all))
    seen_wide b m = wide_rows s (take m (drop b all)) (each_take (IsRow s) m (drop b all) (each_drop (IsRow s) b all are))

    pub seen_long : (b m : ℕ) → b + m ≤ length all → length (take m (drop b all)) ≡ m
    seen_long b m h = length-take-le m (drop b all) (omega (arith, h, length-drop b all))

    -- a run with terms leads from one cut to another, and notes no term that is 0: these terms name these words, and nodes over them are not 0
    pub record Passes (from to : Cut) (limit : ℕ) (carried : List Node) (steps : List ℕ) (r b : ℕ) : Type 0 where
      pub ins : List ℕ
      pub vals : List ℕ
      pub looks : List Node
      pub words : AreWordNodes looks
      pub name : (W : List ℕ) → ((i x : ℕ) → slice_get (carried_over s (first_words s) (take b all) ++ joined (take (r + to.window) (drop b all))) i ≡ Some x → Holds W (1 + i) x) → Pairs (Holds W) ins vals
      pub terms : List ℕ
      pub leads : LeadsNoting set_ s limit carried (record { nodes = (placed (begun s carried (r + to.window) from).nodes ins looks).nodes; state = (begun s carried (r + to.window) from).state }) steps r to (r + to.window) terms
      pub some :
          (i : ℕ) → i < length terms
          → (k : ℕ) × (slice_index (placed (begun s carried (r + to.window) from).nodes ins looks).numbers k ≡ slice_index terms i) × (slice_index (values_from vals 0 [] looks) k ≡ 0 → ⊥)

    -- it notes none
    pub passes : (from to : Cut) (limit : ℕ) (carried : List Node) (steps : List ℕ) (r b : ℕ) → Leads set_ s limit carried from steps r to → Passes from to limit carried steps r b
    passes from to limit carried steps r b leads =
        record { ins = []; vals = []; looks = []; words = λ v word e. none_some (Const word) e; name = λ W h. tt; terms = []; leads = leads; some = λ i lt. absurd (omega (arith, lt)) }

    pub reach : (from to : Cut) (limit : ℕ) (carried : List Node) (steps : List ℕ) (r : ℕ) → AreWordNodes carried → AreWordNodes from.at.nodes → AreWordNodes to.at.nodes → from.window ≤ r + to.window
        → (b used : ℕ) → Passes from to limit carried steps r b → values_from (carried_over s (first_words s) (take b all)) 0 [] carried ≡ carried_over s (first_words s) (take b all)
        → b + (r + to.window) ≤ length all → used + limit ≤ set_.limit → (x : MachineState) → At from b used x → Reaches x to (b + r) (used + limit)
    reach from to limit carried steps r carried_nodes from_words to_words sees b used it are_c enough few x at =
        let m : ℕ = r + to.window in
        let rows : List (List ℕ) = take m (drop b all) in
        let long : length rows ≡ m = seen_long b m enough in
        let at' : StandsAt each set_ s valid from (take b all) (take from.window rows) used x = subst (λ w. StandsAt each set_ s valid from (take b all) w used x) (sym (take_take from.window m (drop b all) sees)) at in
        let leads' : LeadsNoting set_ s limit carried (record { nodes = (placed (begun s carried (length rows) from).nodes it.ins it.looks).nodes; state = (begun s carried (length rows) from).state }) steps r to (length rows) it.terms =
        subst (λ k. LeadsNoting set_ s limit carried (record { nodes = (placed (begun s carried k from).nodes it.ins it.looks).nodes; state = (begun s carried k from).state }) steps r to k it.terms) (sym long) it.leads in
        let some' : (i : ℕ) → i < length it.terms → (k : ℕ) × (slice_index (placed (begun s carried (length rows) from).nodes it.ins it.looks).numbers k ≡ slice_index it.terms i) × (slice_index (values_from it.vals 0 [] it.looks) k ≡ 0 → ⊥) =
        subst (λ n. (i : ℕ) → i < length it.terms → (k : ℕ) × (slice_index (placed (begun s carried n from).nodes it.ins it.looks).numbers k ≡ slice_index it.terms i) × (slice_index (values_from it.vals 0 [] it.looks) k ≡ 0 → ⊥)) (sym long) it.some in
        let one : LedTo each set_ s valid set_.limit many x steps to (take b all ++ take r rows) (drop r rows) (used + limit) =
        led each set_ s valid (take b all) rows (before_long b) (seen_wide b m) (seen_small b m) (row_constants s named) limit carried carried_nodes are_c r from to from_words to_words
        it.ins it.vals it.looks it.words (λ nodes has. it.name (term_values (carried_over s (first_words s) (take b all) ++ joined rows) nodes) has) steps it.terms leads' some' used x at' set_.limit many
        (λ p. words_of (slice_get (run_ports s (length set_.ports) (drop m (drop b all))) (p - 2 * tile_count set_.topo))) (frame_at b m limit used few) in
        let behind : take b all ++ take r rows ≡ take (b + r) all = ap (λ xs. take b all ++ xs) (take_take r m (drop b all) (omega arith)) ∙ take_more b r (b + r) all refl in
        let ahead : drop r rows ≡ take to.window (drop (b + r) all) = drop-take r to.window (drop b all) ∙ ap (λ xs. take to.window xs) (drop_more b r (b + r) all refl) in
        record {
          steps = steps;
          lawful = one.lawful;
          stands = subst (λ w. StandsAt each set_ s valid to (take (b + r) all) w (used + limit) (end_from (fed_rows set_ s all) x steps)) ahead
              (subst (λ ws. StandsAt each set_ s valid to ws (drop r rows) (used + limit) (end_from (fed_rows set_ s all) x steps)) behind one.stands);
        }

    pub lawful_append : (xs ys : List ℕ) (t : MachineState) → IsLawfulFrom (fed_rows set_ s all) t xs → IsLawfulFrom (fed_rows set_ s all) (end_from (fed_rows set_ s all) t xs) ys → IsLawfulFrom (fed_rows set_ s all) t (xs ++ ys)
    lawful_append [] ys t h g = g
    lawful_append (x ∷ xs) ys t h g = (h.0, lawful_append xs ys (step (fed_rows set_ s all) t x) h.1 g)

    pub end_append : (xs ys : List ℕ) (t : MachineState) → end_from (fed_rows set_ s all) (end_from (fed_rows set_ s all) t xs) ys ≡ end_from (fed_rows set_ s all) t (xs ++ ys)
    end_append [] ys t = refl
    end_append (x ∷ xs) ys t = end_append xs ys (step (fed_rows set_ s all) t x)

    pub then_reaches : (x : MachineState) (one two : Cut) (b c used more : ℕ) → (h : Reaches x one b used) → Reaches (end_from (fed_rows set_ s all) x h.steps) two c more → Reaches x two c more
    then_reaches x one two b c used more h g = record {
      steps = h.steps ++ g.steps;
      lawful = lawful_append h.steps g.steps x h.lawful g.lawful;
      stands = subst (λ t. At two c more t) (end_append h.steps g.steps x) g.stands;
    }

    -- n kernels
    pub kernels : (cut : Cut) (limit r : ℕ) (kernel : List ℕ) (n b used : ℕ) → AreWordNodes cut.at.nodes → ((j : ℕ) → j < n → Passes cut cut limit (unknown s) kernel r (b + j * r))
        → b + n * r + cut.window ≤ length all → used + n * limit ≤ set_.limit → (x : MachineState) → At cut b used x → Reaches x cut (b + n * r) (used + n * limit)
    kernels cut limit r kernel zero b used words each_passes long few x at =
        let e : b ≡ b + 0 * r = omega arith in
        let f : used ≡ used + 0 * limit = omega arith in
        record { steps = []; lawful = tt; stands = subst (λ k. At cut k (used + 0 * limit) x) e (subst (λ k. At cut b k x) f at) }
    kernels cut limit r kernel (suc n) b used words each_passes long few x at =
        let c : ℕ = b + n * r in
        let so_far : Reaches x cut c (used + n * limit) =
        kernels cut limit r kernel n b used words (λ j lt. each_passes j (omega (arith, lt))) (omega (arith, long, suc-mul n r)) (omega (arith, few, suc-mul n limit)) x at in
        let one : Reaches (end_from (fed_rows set_ s all) x so_far.steps) cut (c + r) (used + n * limit + limit) =
        reach cut cut limit (unknown s) kernel r (unknown_constants (length (first_words s))) words words (omega arith) c (used + n * limit) (each_passes n (omega arith))
        (unknown_is s (carried_over s (first_words s) (take c all)) (before_long c)) (omega (arith, long, suc-mul n r)) (omega (arith, few, suc-mul n limit)) (end_from (fed_rows set_ s all) x so_far.steps) so_far.stands in
        let e : c + r ≡ b + suc n * r = omega (arith, suc-mul n r) in
        let f : used + n * limit + limit ≡ used + suc n * limit = omega (arith, suc-mul n limit) in
        subst (λ k. Reaches x cut k (used + suc n * limit)) e (subst (λ k. Reaches x cut (c + r) k) f (then_reaches x cut cut c (c + r) (used + n * limit) (used + n * limit + limit) so_far one))
