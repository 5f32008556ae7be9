-- The planned set of lawful hauls keeps all that sets keep, where its programs are within the limits.
use Rattle.std.proofs.Common.{◌≡◌, ℕ, zero, suc, ◌+◌, ◌*◌, ◌^◌, ◌<◌, ◌≤◌, Bool, true, false, cond, ltb, List, [], ◌∷◌, ◌++◌, length, map, Option, Some, None, refl, sym, ◌∙◌, subst, arith, sum_by, append_assoc, length-append}
use Rattle.std.specs.List.{All, AllByRecursion, filter_map, cons_option, range_with_len}
use Rattle.std.proofs.lemmas.Bool.{ltb-true}
use Rattle.std.proofs.Math.Nat.{mul-le-mul_left, mul-le-mul_right}
use Rattle.std.proofs.lemmas.List.Elements.{All-nil, All-cons}
use Rattle.std.proofs.lemmas.List.Sums.{sum_by-cons}
use Rattle.std.proofs.lemmas.List.FromFn.{length-map-range_with_len, get_or-map-range_with_len, length-range_with_len}
use Rattle.std.proofs.lemmas.Option.{same_Some}
use Rattle.raw_model.specs.declared.limits.TheConstants.{MEMORY_SIZE}
use Rattle.raw_switch_isa.specs.declared.limits.TheConstants.{MAX_SWITCH_CODE}
use Rattle.raw_tile_isa.specs.Instruction.{Instruction, IsTileIns}
use Rattle.raw_tile_isa.specs.Load.{load}
use Rattle.raw_switch_isa.specs.Made as switch
use Rattle.raw_grid.specs.declared.parts.Net.{Net}
use Rattle.raw_grid.specs.declared.parts.Net.TheVariants.{One, Two}
use Rattle.raw_grid.specs.Topology.{Topology, IsTopology, IsSize, IsAtEdge, without_ports}
use Rattle.raw_model.specs.declared.program.Show.{Show}
use Rattle.raw_model.specs.Program.{TileProgram, IsTileProgram, HaveWires, IsPortProgram, IsShow, IsSet, memory_size}
use Rattle.raw_codegen.specs.Parts.{Part, switch_part, to_tile, to_switches, script_program, script_programs}
use Rattle.raw_codegen.specs.Lawful.{AreParts}
use Rattle.raw_codegen.specs.Limits.{IsShort, AreShort}
use Rattle.raw_codegen.specs.Rows.{register_of, send_ins, store_ins}
use Rattle.raw_route.specs.Tree.{tree_ins}
use Rattle.raw_route.specs.Planned.{Sending, IsSending, words_to, send_code, store_part, parts_from, show_of, plan_parts, planned}
use Rattle.raw_route.proofs.Lawful.{tree_parts}
use Rattle.raw_route.proofs.Members.{In, in_range}
use Rattle.raw_route.proofs.Relay.{entry_first, entry_behind}
use Rattle.raw_route.proofs.Trees.{target_inside}
use Rattle.raw_route.proofs.Words.{words_before, words_short}
use Rattle.raw_codegen.specs.Laws.{PartsGive}

-- what is known of lawful parts
pub record PartsLaws : Type 0 where
  pub give : PartsGive
  pub append : (topo : Topology) (xs ys : List Part) → AreParts topo xs → AreParts topo ys → AreParts topo (xs ++ ys)
  pub block : (topo : Topology) (t : ℕ) (code : List Instruction) → AllByRecursion IsTileIns code → AreParts topo (to_tile t code)
  pub programs : (topo : Topology) (n : ℕ) (parts : List Part) → AreParts topo parts → AreShort (script_programs n parts) → All IsTileProgram (script_programs n parts)
  pub wires : (topo : Topology) (n : ℕ) (parts : List Part) → AreParts topo parts → HaveWires topo (script_programs n parts)
  pub cells : (n : ℕ) (parts : List Part) → sum_by (λ (tile : TileProgram). length tile.cells) (script_programs n parts) ≡ 0
  pub misses : (n : ℕ) (parts : List Part) → sum_by (λ (tile : TileProgram). length tile.misses) (script_programs n parts) ≡ 0
  pub li : (r w : ℕ) → r < 32 → w < 2 ^ 32 → AllByRecursion IsTileIns (load r w)
  pub send : (net : Net) (r : ℕ) → r < 32 → IsTileIns (send_ins net r)
  pub store : (r v : ℕ) → r < 32 → v < 2 ^ 14 → IsTileIns (store_ins r v)

register_below : (net : Net) → register_of net < 32
register_below One = omega arith
register_below Two = omega arith

pub rules_append : (xs ys : List Instruction) → AllByRecursion IsTileIns xs → AllByRecursion IsTileIns ys → AllByRecursion IsTileIns (xs ++ ys)
rules_append [] ys h g = g
rules_append (x ∷ xs) ys h g = (h.0, rules_append xs ys h.1 g)

-- the grid
pub grid_lawful : (cols rows : ℕ) → IsSize cols rows → IsTopology (without_ports cols rows)
grid_lawful cols rows size = record { size = size; at_edges = All-nil (IsAtEdge (without_ports cols rows)); distinct = λ i j d l m. absurd (omega arith) }

shows_few : (f : ℕ → Option Show) (ks : List ℕ) → length (filter_map f ks) ≤ length ks
shows_few f [] = omega arith
shows_few f (k ∷ ks) = by (f k) (shows_few f ks)
  where
    by : (o : Option Show) → length (filter_map f ks) ≤ length ks → length (cons_option o (filter_map f ks)) ≤ suc (length ks)
    by None h = omega arith
    by (Some s) h = omega arith

all_shows : (Q : Show → Type 0) (f : ℕ → Option Show) (ks : List ℕ) → ((t : ℕ) (s : Show) → In t ks → f t ≡ Some s → Q s) → All Q (filter_map f ks)
all_shows Q f [] h = All-nil Q
all_shows Q f (k ∷ ks) h = by (f k) refl (all_shows Q f ks (λ t s m. h t s (entry_behind t k ks m)))
  where
    by : (o : Option Show) → f k ≡ o → All Q (filter_map f ks) → All Q (cons_option o (filter_map f ks))
    by None e rest = rest
    by (Some s) e rest = All-cons Q s (filter_map f ks) (h k s (entry_first k ks) e) rest

show_is : (xs : List Sending) (t : ℕ) (s : Show) (b : Bool) → ltb 0 (length (words_to t xs)) ≡ b → cond b (Some (record { tile = t; address = 0; words = length (words_to t xs) })) None ≡ Some s
    → (0 < length (words_to t xs)) × (record { tile = t; address = 0; words = length (words_to t xs) } ≡ s)
show_is xs t s true e f = (ltb-true 0 (length (words_to t xs)) e, same_Some (record { tile = t; address = 0; words = length (words_to t xs) }) s f)
show_is xs t s false e f = absurd (cc f)

size_is : memory_size ≡ MEMORY_SIZE
unfolding memory_size
size_is = refl

product_few : (a b : ℕ) → a ≤ 8 → b ≤ 8 → a * b ≤ 64
product_few a b h k = let x = mul-le-mul_right b h in let y = mul-le-mul_left 8 k in omega arith

module _ (laws : PartsLaws) (cols rows : ℕ) (size : IsSize cols rows) where
  abbrev topo : Topology
  topo = without_ports cols rows

  valid : IsTopology topo
  valid = grid_lawful cols rows size

  store_parts : (earlier : List Sending) (net : Net) (ts : List ℕ) → ((t : ℕ) → In t ts → length (words_to t earlier) < 2 ^ 14) → AreParts topo (map (store_part earlier net) ts)
  store_parts earlier net [] few = tt
  store_parts earlier net (t ∷ ts) few =
      (laws.store (register_of net) (length (words_to t earlier)) (register_below net) (few t (entry_first t ts)), store_parts earlier net ts (λ u m. few u (entry_behind u t ts m)))

  module _ (xs : List Sending) (oks : AllByRecursion (IsSending (cols * rows)) xs) (short : AreShort (script_programs (cols * rows) (parts_from cols rows [] xs))) where
    abbrev all : List Part
    all = parts_from cols rows [] xs

    short_at : (t : ℕ) → t < cols * rows → IsShort (script_program all t)
    short_at t h =
        let first : 0 + t ≡ t = omega arith in
        subst IsShort (get_or-map-range_with_len (script_program all) 0 (cols * rows) t t (script_program all t) h first)
        (short.each t (script_program all t) (subst (λ m. t < m) (sym (length-map-range_with_len (script_program all) 0 (cols * rows))) h))

    few_words : (t : ℕ) → t < cols * rows → length (words_to t xs) < MAX_SWITCH_CODE
    few_words t h =
        let a = words_short laws.give topo valid [] xs oks t h in
        let b = (short_at t h).switch in
        let c = length-append (switch_part t all) (switch.halt ∷ []) in
        omega arith

    few_before : (earlier ys : List Sending) (x : Sending) → xs ≡ earlier ++ x ∷ ys → (t : ℕ) → t < cols * rows → In t x.haul.to → length (words_to t earlier) < 2 ^ 14
    few_before earlier ys x e t h m = let a = few_words t h in let b = words_before xs earlier ys x t e m in omega arith

    lawful_from : (earlier ys : List Sending) → xs ≡ earlier ++ ys → AllByRecursion (IsSending (cols * rows)) ys → AreParts topo (parts_from cols rows earlier ys)
    lawful_from earlier [] e ok = tt
    lawful_from earlier (x ∷ ys) e ok =
        let A : List Part = to_tile x.haul.from (send_code x.haul.net x.word) in
        let B : List Part = to_switches (cols * rows) (tree_ins cols x.haul) in
        let C : List Part = map (store_part earlier x.haul.net) x.haul.to in
        laws.append topo (A ++ (B ++ C)) (parts_from cols rows (earlier ++ x ∷ []) ys)
        (laws.append topo A (B ++ C)
        (laws.block topo x.haul.from (send_code x.haul.net x.word)
        (rules_append (load 5 x.word) (send_ins x.haul.net 5 ∷ []) (laws.li 5 x.word (omega arith) ok.0.word) (laws.send x.haul.net 5 (omega arith), tt)))
        (laws.append topo B C (tree_parts laws.append topo valid x.haul ok.0.haul)
        (store_parts earlier x.haul.net x.haul.to (λ t m. few_before earlier ys x e t (target_inside topo valid x.haul ok.0.haul t m) m))))
        (lawful_from (earlier ++ x ∷ []) ys (e ∙ sym (append_assoc earlier (x ∷ []) ys)) ok.1)

    all_lawful : AreParts topo all
    all_lawful = lawful_from [] xs refl oks

    -- as many words are shown as the switches have instructions, at most
    show_words : (t : ℕ) (b : Bool) (rest : List Show) (r n : ℕ) → sum_by (λ (s : Show). s.words) rest ≤ r → length (words_to t xs) ≤ n
        → sum_by (λ (s : Show). s.words) (cons_option (cond b (Some (record { tile = t; address = 0; words = length (words_to t xs) })) None) rest) ≤ n + r
    show_words t true rest r n h l = let a = sum_by-cons (λ (s : Show). s.words) (record { tile = t; address = 0; words = length (words_to t xs) }) rest in omega arith
    show_words t false rest r n h l = omega arith

    shown_few : (a n : ℕ) → a + n ≤ cols * rows
        → sum_by (λ (s : Show). s.words) (filter_map (show_of xs) (range_with_len a n)) ≤ sum_by (λ (tile : TileProgram). length tile.switch) (map (script_program all) (range_with_len a n))
    shown_few a zero h = omega arith
    shown_few a (suc n) h =
        let b = sum_by-cons (λ (tile : TileProgram). length tile.switch) (script_program all a) (map (script_program all) (range_with_len (a + 1) n)) in
        let c = words_short laws.give topo valid [] xs oks a (omega arith) in
        let d = length-append (switch_part a all) (switch.halt ∷ []) in
        let few : length (words_to a xs) ≤ length (switch_part a all ++ switch.halt ∷ []) = omega arith in
        let k = show_words a (ltb 0 (length (words_to a xs))) (filter_map (show_of xs) (range_with_len (a + 1) n))
        (sum_by (λ (tile : TileProgram). length tile.switch) (map (script_program all) (range_with_len (a + 1) n))) (length (switch_part a all ++ switch.halt ∷ []))
        (shown_few (a + 1) n (omega arith)) few in
        omega arith

    show_lawful : (t : ℕ) (s : Show) → In t (range_with_len 0 (cols * rows)) → show_of xs t ≡ Some s → IsShow topo s
    show_lawful t s m e =
        let k = show_is xs t s (ltb 0 (length (words_to t xs))) refl e in
        let b = in_range t 0 (cols * rows) m in
        let inside : t < cols * rows = omega (arith, b.1) in
        let d = few_words t inside in
        let z = size_is in
        subst (λ x. IsShow topo x) k.1 (record { tile = inside; aligned = refl; some = k.0; inside = omega arith })

    pub planned_is_set : IsSet (planned cols rows xs)
    unfolding planned plan_parts
    planned_is_set = record {
      topology = valid;
      some_steps = omega arith;
      few_steps = omega arith;
      some_depth = omega arith;
      small_depth = omega arith;
      each_port = refl;
      each_tile = length-map-range_with_len (script_program all) 0 (cols * rows);
      port_programs = All-nil IsPortProgram;
      port_kinds = λ i place port e f. absurd (cc e);
      tile_programs = laws.programs topo (cols * rows) all all_lawful short;
      wires = laws.wires topo (cols * rows) all all_lawful;
      shows = all_shows (IsShow topo) (show_of xs) (range_with_len 0 (cols * rows)) show_lawful;
      totals = record {
        instructions = short.all_code;
        switch_instructions = short.all_switch;
        cells = let a = laws.cells (cols * rows) all in omega arith;
        misses = let a = laws.misses (cols * rows) all in omega arith;
        words = omega arith;
        capacities = omega arith;
        shows = let a = shows_few (show_of xs) (range_with_len 0 (cols * rows)) in let b = length-range_with_len 0 (cols * rows) in let c = product_few cols rows size.most_cols size.most_rows in omega arith;
        shown = let a = shown_few 0 (cols * rows) (omega arith) in let b = short.all_switch in omega arith;
      };
    }
