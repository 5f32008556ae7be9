-- The words that are sent to a tile, and the parts of hauls.
use Rattle.std.proofs.Common.{◌≡◌, ◌≢◌, ℕ, suc, ◌*◌, ◌<◌, ◌≤◌, Bool, true, false, cond, eqb, List, [], ◌∷◌, ◌++◌, length, map, Some, None, refl, sym, ap, ◌∙◌, subst, ⊎_elim, arith, append_assoc, length-append}
use Rattle.std.specs.Prelude.{slice_get}
use Rattle.std.specs.List.{AllPairs, AllByRecursion}
use Rattle.std.specs.Option.{option_to_list}
use Rattle.std.proofs.lemmas.Bool.{cases_lt, eq-eqb, eqb-true, false_from_ne_true}
use Rattle.std.proofs.lemmas.List.{append-nil}
use Rattle.raw_switch_isa.specs.Instruction.{SwitchInstruction}
use Rattle.raw_grid.specs.declared.parts.Net.{Net}
use Rattle.raw_grid.specs.declared.parts.Dir.TheVariants.{P}
use Rattle.raw_grid.specs.Topology.{Topology, IsTopology, tile_count}
use Rattle.raw_codegen.specs.Parts.{Part, switch_part, to_tile, to_switches}
use Rattle.raw_route.specs.Tree.{in_tree, tree_instruction, tree_ins}
use Rattle.raw_route.specs.Planned.{Sending, IsSending, is_among, words_to, send_code, store_part, haul_parts, parts_from}
use Rattle.raw_route.proofs.Members.{In, any_in, in_any, in_contains, Ordered}
use Rattle.raw_route.proofs.Trees.{target_inside, left_passed, target_left}
use Rattle.raw_codegen.specs.Laws.{PartsGive}

-- no entry is as one behind it
pub distinct_from : (xs : List ℕ) → AllPairs (λ a b. a ≢ b) xs → Ordered (λ a b. a ≡ b → ⊥) xs
distinct_from [] h = tt
distinct_from (x ∷ xs) h = (
  λ y m. let c = in_contains y xs m in λ e. h 0 (suc c.0) y (omega arith) (omega (arith, c.1)) (e ∙ sym c.2),
  distinct_from xs (λ i j d l m. h (suc i) (suc j) d (omega arith) (omega arith)),
)

-- the tests of members as statements
pub among_is : (xs : List ℕ) (t : ℕ) → is_among xs t ≡ true → In t xs
among_is xs t h = let r = any_in (λ x. eqb x t) xs h in subst (λ x. In x xs) (eqb-true r.0 t r.2) r.1

pub among_from : (xs : List ℕ) (t : ℕ) → In t xs → is_among xs t ≡ true
among_from xs t m = in_any (λ x. eqb x t) t xs m (eq-eqb t t refl)

pub not_among : (xs : List ℕ) (t : ℕ) → (In t xs → ⊥) → is_among xs t ≡ false
not_among xs t ne = false_from_ne_true (is_among xs t) (λ h. ne (among_is xs t h))

-- the words of one haul and then of others
by_append : (b : Bool) (word : ℕ) (us vs : List ℕ) → cond b (word ∷ (us ++ vs)) (us ++ vs) ≡ cond b (word ∷ us) us ++ vs
by_append true word us vs = refl
by_append false word us vs = refl

pub words_append : (t : ℕ) (xs ys : List Sending) → words_to t (xs ++ ys) ≡ words_to t xs ++ words_to t ys
words_append t [] ys = refl
words_append t (x ∷ xs) ys =
    ap (λ ws. cond (is_among x.haul.to t) (x.word ∷ ws) ws) (words_append t xs ys) ∙ by_append (is_among x.haul.to t) x.word (words_to t xs) (words_to t ys)

one_more : (b : Bool) (word : ℕ) (ws : List ℕ) → ws ++ cond b (word ∷ []) [] ≡ cond b (ws ++ word ∷ []) ws
one_more true word ws = refl
one_more false word ws = append-nil ws

-- of one haul more
pub words_more : (t : ℕ) (xs : List Sending) (x : Sending) → words_to t (xs ++ x ∷ []) ≡ cond (is_among x.haul.to t) (words_to t xs ++ x.word ∷ []) (words_to t xs)
words_more t xs x = words_append t xs (x ∷ []) ∙ one_more (is_among x.haul.to t) x.word (words_to t xs)

-- the parts of hauls and then of others
pub parts_append : (cols rows : ℕ) (earlier xs ys : List Sending) → parts_from cols rows earlier (xs ++ ys) ≡ parts_from cols rows earlier xs ++ parts_from cols rows (earlier ++ xs) ys
parts_append cols rows earlier [] ys = ap (λ es. parts_from cols rows es ys) (sym (append-nil earlier))
parts_append cols rows earlier (x ∷ xs) ys =
    ap (λ ps. haul_parts cols rows earlier x ++ ps)
    (parts_append cols rows (earlier ++ x ∷ []) xs ys ∙ ap (λ es. parts_from cols rows (earlier ++ x ∷ []) xs ++ parts_from cols rows es ys) (append_assoc earlier (x ∷ []) xs))
    ∙ sym (append_assoc (haul_parts cols rows earlier x) (parts_from cols rows (earlier ++ x ∷ []) xs) (parts_from cols rows (earlier ++ (x ∷ xs)) ys))

-- of words to a tile among those of a haul, and others behind them, there are more than before that haul
one_longer : (b : Bool) (word : ℕ) (us vs : List ℕ) → b ≡ true → length us < length (us ++ cond b (word ∷ vs) vs)
one_longer true word us vs e = let a = length-append us (word ∷ vs) in omega arith
one_longer false word us vs e = absurd (cc e)

pub words_before : (xs earlier ys : List Sending) (x : Sending) (t : ℕ) → xs ≡ earlier ++ x ∷ ys → In t x.haul.to → length (words_to t earlier) < length (words_to t xs)
words_before xs earlier ys x t e m =
    let b = ap (λ zs. length (words_to t zs)) e ∙ ap length (words_append t earlier (x ∷ ys)) in
    let c = one_longer (is_among x.haul.to t) x.word (words_to t earlier) (words_to t ys) (among_from x.haul.to t m) in
    omega arith

none_by : (b : Bool) (ws : List ℕ) (word : ℕ) → b ≡ false → ws ≡ [] → cond b (word ∷ ws) ws ≡ []
none_by true ws word e f = absurd (cc e)
none_by false ws word e f = f

-- nothing is sent off the grid
pub none_past : (topo : Topology) (valid : IsTopology topo) (ys : List Sending) → AllByRecursion (IsSending (tile_count topo)) ys → (t : ℕ) → tile_count topo ≤ t → words_to t ys ≡ []
none_past topo valid [] oks t m = refl
none_past topo valid (y ∷ ys) oks t m =
    none_by (is_among y.haul.to t) (words_to t ys) y.word
    (false_from_ne_true (is_among y.haul.to t) (λ e. let l = target_inside topo valid y.haul oks.0.haul t (among_is y.haul.to t e) in omega arith)) (none_past topo valid ys oks.1 t m)

pub words_inside : (topo : Topology) (valid : IsTopology topo) (ys : List Sending) → AllByRecursion (IsSending (tile_count topo)) ys → (t i word : ℕ) → slice_get (words_to t ys) i ≡ Some word → t < tile_count topo
words_inside topo valid ys oks t i word e =
    ⊎_elim (λ (l : t < tile_count topo). l)
    (λ (m : tile_count topo ≤ t). absurd (let z = sym (ap (λ ws. slice_get ws i) (none_past topo valid ys oks t m)) ∙ e in cc z)) (cases_lt t (tile_count topo))

module _ (give : PartsGive) where
  -- stores give nothing to switches
  no_switch : (earlier : List Sending) (net : Net) (ts : List ℕ) (u : ℕ) → switch_part u (map (store_part earlier net) ts) ≡ []
  no_switch earlier net [] u = refl
  no_switch earlier net (t ∷ ts) u = no_switch earlier net ts u

  -- what a haul gives to a switch
  pub haul_switch : (cols rows : ℕ) (earlier : List Sending) (x : Sending) (t : ℕ) → t < cols * rows → switch_part t (haul_parts cols rows earlier x) ≡ option_to_list (tree_ins cols x.haul t)
  haul_switch cols rows earlier x t l =
      give.switch_append t (to_tile x.haul.from (send_code x.haul.net x.word)) (to_switches (cols * rows) (tree_ins cols x.haul) ++ map (store_part earlier x.haul.net) x.haul.to)
      ∙ ap (λ xs. xs ++ switch_part t (to_switches (cols * rows) (tree_ins cols x.haul) ++ map (store_part earlier x.haul.net) x.haul.to)) (give.block_switch x.haul.from t (send_code x.haul.net x.word))
      ∙ give.switch_append t (to_switches (cols * rows) (tree_ins cols x.haul)) (map (store_part earlier x.haul.net) x.haul.to)
      ∙ ap (λ xs. switch_part t (to_switches (cols * rows) (tree_ins cols x.haul)) ++ xs) (no_switch earlier x.haul.net x.haul.to t)
      ∙ append-nil (switch_part t (to_switches (cols * rows) (tree_ins cols x.haul)))
      ∙ give.switches (tree_ins cols x.haul) t (cols * rows) l

  -- a switch is given as many instructions as words are sent to its tile, at least
  words_by : (b c : Bool) (word : ℕ) (ins : SwitchInstruction) (ws : List ℕ) (rest : List SwitchInstruction) → (b ≡ true → c ≡ true) → length ws ≤ length rest
      → length (cond b (word ∷ ws) ws) ≤ length (option_to_list (cond c (Some ins) None) ++ rest)
  words_by true true word ins ws rest h l = omega arith
  words_by true false word ins ws rest h l = absurd (let z = h refl in cc z)
  words_by false true word ins ws rest h l = omega arith
  words_by false false word ins ws rest h l = l

  pub words_short : (topo : Topology) (valid : IsTopology topo) (earlier ys : List Sending) → AllByRecursion (IsSending (tile_count topo)) ys → (t : ℕ) → t < tile_count topo
      → length (words_to t ys) ≤ length (switch_part t (parts_from topo.cols topo.rows earlier ys))
  words_short topo valid earlier [] oks t l = omega arith
  words_short topo valid earlier (y ∷ ys) oks t l =
      let later : List Part = parts_from topo.cols topo.rows (earlier ++ y ∷ []) ys in
      let is : switch_part t (haul_parts topo.cols topo.rows earlier y ++ later) ≡ option_to_list (tree_ins topo.cols y.haul t) ++ switch_part t later =
      give.switch_append t (haul_parts topo.cols topo.rows earlier y) later ∙ ap (λ xs. xs ++ switch_part t later) (haul_switch topo.cols topo.rows earlier y t l) in
      subst (λ code. length (words_to t (y ∷ ys)) ≤ length code) (sym is)
      (words_by (is_among y.haul.to t) (in_tree topo.cols y.haul t) y.word (tree_instruction topo.cols y.haul t) (words_to t ys) (switch_part t later)
      (λ e. left_passed topo valid y.haul oks.0.haul t P (target_left topo valid y.haul oks.0.haul t (among_is y.haul.to t e)))
      (words_short topo valid (earlier ++ y ∷ []) ys oks.1 t l))
