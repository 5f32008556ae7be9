-- Hauls are given part by part.
use Rattle.std.proofs.Common.{◌≡◌, ◌≢◌, ℕ, zero, suc, ◌+◌, ◌-◌, ◌<◌, Bool, true, false, cond, eqb, ◌||◌, List, [], ◌∷◌, ◌++◌, length, get_or, map, set, take, drop, Option, Some, None, refl, sym, ap, ◌∙◌, subst, ⊎_elim, arith, length-append, take-suc, add-one}
use Rattle.std.specs.Prelude.{option_map}
use Rattle.std.specs.List.{AllPairs, flat_map, range_with_len}
use Rattle.std.specs.Option.{option_to_list}
use Rattle.std.proofs.lemmas.Bool.{cases_eq, eq-eqb, ne_eqb, false_from_ne_true}
use Rattle.std.proofs.lemmas.Grind.{flat_map-append}
use Rattle.std.proofs.lemmas.List.{append-nil, length-take-le, get_or-take, take-append-drop, length-set, get_or-set_same, get_or-set_other, same_lists}
use Rattle.std.proofs.lemmas.List.FromFn.{length-map-range_with_len, get_or-map-range_with_len}
use Rattle.raw_tile_isa.specs.declared.table.TileOp.TheVariants as tile
use Rattle.raw_tile_isa.specs.Instruction.{Instruction}
use Rattle.raw_tile_isa.specs.Load.{load}
use Rattle.raw_tile_isa.specs.Made.{registers}
use Rattle.raw_switch_isa.specs.Instruction.{SwitchInstruction}
use Rattle.raw_grid.specs.declared.parts.Net.{Net}
use Rattle.raw_model.specs.Program.{TileProgram}
use Rattle.raw_codegen.specs.Parts.{Part, ToTile, ToSwitch, to_tile, to_switches, Gives}
use Rattle.raw_codegen.specs.Limits.{Overflows}
use Rattle.raw_codegen.specs.Rows.{register_of, send_ins, store_ins}
use Rattle.raw_route.specs.Hauls.{Haulage}
use Rattle.raw_route.specs.Planned.{Sending, is_among, words_to, send_code, store_part}
use Rattle.raw_route.specs.Counts.{AreCounts}
use Rattle.raw_route.proofs.Members.{in_contains}
use Rattle.raw_route.proofs.Words.{among_is, words_more}
use Rattle.raw_codegen.specs.Laws.{GivingLaws}

pub to_tile_split : (t : ℕ) (xs ys : List Instruction) → to_tile t (xs ++ ys) ≡ to_tile t xs ++ to_tile t ys
to_tile_split t [] ys = refl
to_tile_split t (x ∷ xs) ys = ap (λ zs. ToTile t x ∷ zs) (to_tile_split t xs ys)

-- a range and the one behind it
range_split : (c a b : ℕ) → range_with_len c (a + b) ≡ range_with_len c a ++ range_with_len (c + a) b
range_split c zero b = (let e : 0 + b ≡ b = omega arith in ap (λ n. range_with_len c n) e) ∙ (let f : c ≡ c + 0 = omega arith in ap (λ n. range_with_len n b) f)
range_split c (suc a) b =
    let e : suc a + b ≡ suc (a + b) = omega arith in
    let f : c + 1 + a ≡ c + suc a = omega arith in
    ap (range_with_len c) e ∙ ap (λ xs. c ∷ xs) (range_split (c + 1) a b ∙ ap (λ n. range_with_len (c + 1) a ++ range_with_len n b) f)

abbrev one_for : (ℕ → Option SwitchInstruction) → ℕ → List Part
one_for given t = option_to_list (option_map (ToSwitch t) (given t))

pub switches_split : (given : ℕ → Option SwitchInstruction) (a b : ℕ) → to_switches (a + b) given ≡ to_switches a given ++ flat_map (one_for given) (range_with_len a b)
switches_split given a b =
    let zero_more : 0 + a ≡ a = omega arith in
    ap (flat_map (one_for given)) (range_split 0 a b ∙ ap (λ k. range_with_len 0 a ++ range_with_len k b) zero_more) ∙ flat_map-append (one_for given) (range_with_len 0 a) (range_with_len a b)

switches_more : (given : ℕ → Option SwitchInstruction) (t : ℕ) → to_switches (t + 1) given ≡ to_switches t given ++ one_for given t
switches_more given t = switches_split given t 1 ∙ ap (λ xs. to_switches t given ++ xs) (append-nil (one_for given t))

module _ (laws : GivingLaws) where
  -- the switch of one tile more has been asked: it got an instruction, or there is none for it
  pub tree_some : (n t : ℕ) (given : ℕ → Option SwitchInstruction) (ins : SwitchInstruction) (a b c : List TileProgram) → Gives n (to_switches t given) a b → given t ≡ Some ins
      → Gives n (ToSwitch t ins ∷ []) b c → Gives n (to_switches (t + 1) given) a c
  tree_some n t given ins a b c g is h =
      subst (λ (ps : List Part). Gives n ps a c) (sym (switches_more given t ∙ ap (λ o. to_switches t given ++ option_to_list (option_map (ToSwitch t) o)) is))
      (laws.both n (to_switches t given) (ToSwitch t ins ∷ []) a b c g h)

  pub tree_none : (n t : ℕ) (given : ℕ → Option SwitchInstruction) (a b : List TileProgram) → Gives n (to_switches t given) a b → given t ≡ None → Gives n (to_switches (t + 1) given) a b
  tree_none n t given a b g is =
      subst (λ (ps : List Part). Gives n ps a b)
      (sym (switches_more given t ∙ ap (λ o. to_switches t given ++ option_to_list (option_map (ToSwitch t) o)) is ∙ append-nil (to_switches t given))) g

  pub tree_full : (n m t : ℕ) (given : ℕ → Option SwitchInstruction) (ins : SwitchInstruction) (a b : List TileProgram) → t < m → Gives n (to_switches t given) a b → given t ≡ Some ins
      → Overflows n (ToSwitch t ins ∷ []) b → Overflows n (to_switches m given) a
  tree_full n m t given ins a b h g is full =
      let k : ℕ = m - (t + 1) in
      let total : t + 1 + k ≡ m = omega arith in
      let this : Overflows n (to_switches (t + 1) given) a =
      subst (λ (ps : List Part). Overflows n ps a) (sym (switches_more given t ∙ ap (λ o. to_switches t given ++ option_to_list (option_map (ToSwitch t) o)) is))
      (laws.later n (to_switches t given) (ToSwitch t ins ∷ []) a b g full) in
      subst (λ (ps : List Part). Overflows n ps a) (sym (ap (λ j. to_switches j given) (sym total) ∙ switches_split given (t + 1) k))
      (laws.more n (to_switches (t + 1) given) (flat_map (one_for given) (range_with_len (t + 1) k)) a this)

-- targets before a place
map_split : {X Y : Type 0} (f : X → Y) (xs ys : List X) → map f (xs ++ ys) ≡ map f xs ++ map f ys
map_split f [] ys = refl
map_split f (x ∷ xs) ys = ap (λ zs. f x ∷ zs) (map_split f xs ys)

among_split : (xs ys : List ℕ) (t : ℕ) → is_among (xs ++ ys) t ≡ (is_among xs t || is_among ys t)
among_split [] ys t = refl
among_split (x ∷ xs) ys t = by (eqb x t) (is_among xs t) (is_among ys t) (among_split xs ys t)
  where
    by : (a b c : Bool) → is_among (xs ++ ys) t ≡ (b || c) → (a || is_among (xs ++ ys) t) ≡ ((a || b) || c)
    by true b c e = refl
    by false b c e = e

-- how many words there are to a tile with one haul more
pub count_more : (t : ℕ) (earlier : List Sending) (x : Sending) → length (words_to t (earlier ++ x ∷ [])) ≡ cond (is_among x.haul.to t) (length (words_to t earlier) + 1) (length (words_to t earlier))
count_more t earlier x = ap length (words_more t earlier x) ∙ by (is_among x.haul.to t)
  where
    by : (b : Bool) → length (cond b (words_to t earlier ++ x.word ∷ []) (words_to t earlier)) ≡ cond b (length (words_to t earlier) + 1) (length (words_to t earlier))
    by true = length-append (words_to t earlier) (x.word ∷ [])
    by false = refl

-- the haul to its first targets alone
abbrev pub first_targets : Haulage → ℕ → ℕ → Sending
first_targets haul word i = record { haul = record { from = haul.from; net = haul.net; to = take i haul.to }; word = word }

pub count_at : (n : ℕ) (counts : List ℕ) (earlier : List Sending) (t d : ℕ) → AreCounts n counts earlier → t < n → get_or counts t d ≡ length (words_to t earlier)
count_at n counts earlier t d are h =
    let first : 0 + t ≡ t = omega arith in
    ap (λ cs. get_or cs t d) are ∙ get_or-map-range_with_len (λ u. length (words_to u earlier)) 0 n t t d h first

take_more : (xs : List ℕ) (i x : ℕ) → i < length xs → x ≡ get_or xs i x → take (i + 1) xs ≡ take i xs ++ x ∷ []
take_more xs i x h is = rw add-one (take-suc xs i x h) ∙ ap (λ y. take i xs ++ y ∷ []) (sym is)

-- no target stands among those before it
not_before : (xs : List ℕ) (i x : ℕ) → AllPairs (λ a b. a ≢ b) xs → i < length xs → x ≡ get_or xs i x → is_among (take i xs) x ≡ false
not_before xs i x distinct h is =
    false_from_ne_true (is_among (take i xs) x) (λ e.
    let c = in_contains x (take i xs) (among_is (take i xs) x e) in
    let short : length (take i xs) ≡ i = length-take-le i xs (omega arith) in
    let k : c.0 < i = omega (arith, c.1) in
    distinct c.0 i x k h (sym (get_or-take i xs c.0 x k) ∙ c.2 ∙ is))

module _ (n : ℕ) (counts : List ℕ) (earlier : List Sending) (haul : Haulage) (word i tile : ℕ) (distinct : AllPairs (λ a b. a ≢ b) haul.to) (h : i < length haul.to) (is : tile ≡ get_or haul.to i tile)
    (within : tile < n) (are : AreCounts n counts (earlier ++ first_targets haul word i ∷ [])) where
  -- the count of a target at its turn is that of the earlier hauls
  pub count_is : (count : ℕ) → count ≡ get_or counts tile count → count ≡ length (words_to tile earlier)
  count_is count there =
      there ∙ count_at n counts (earlier ++ first_targets haul word i ∷ []) tile count are within ∙ count_more tile earlier (first_targets haul word i)
      ∙ ap (λ b. cond b (length (words_to tile earlier) + 1) (length (words_to tile earlier))) (not_before haul.to i tile distinct h is)

  -- the counts with that target
  pub counts_more : (count : ℕ) → count ≡ get_or counts tile count → AreCounts n (set counts tile (count + 1)) (earlier ++ first_targets haul word (i + 1) ∷ [])
  counts_more count there =
      same_lists (set counts tile (count + 1)) (map f (range_with_len 0 n)) (length-set counts tile (count + 1) ∙ size ∙ sym (length-map-range_with_len f 0 n))
      (λ k d l. at k d (subst (λ m. k < m) (length-set counts tile (count + 1) ∙ size) l))
    where
      f : ℕ → ℕ
      f t = length (words_to t (earlier ++ first_targets haul word (i + 1) ∷ []))

      size : length counts ≡ n
      size = ap length are ∙ length-map-range_with_len (λ t. length (words_to t (earlier ++ first_targets haul word i ∷ []))) 0 n

      now : (t : ℕ) → is_among (take (i + 1) haul.to) t ≡ (is_among (take i haul.to) t || (eqb tile t || false))
      now t = ap (λ ts. is_among ts t) (take_more haul.to i tile h is) ∙ among_split (take i haul.to) (tile ∷ []) t

      f_is : (t : ℕ) → f t ≡ cond (is_among (take i haul.to) t || (eqb tile t || false)) (length (words_to t earlier) + 1) (length (words_to t earlier))
      f_is t = count_more t earlier (first_targets haul word (i + 1)) ∙ ap (λ b. cond b (length (words_to t earlier) + 1) (length (words_to t earlier))) (now t)

      here : count + 1 ≡ f tile
      here =
          ap (λ c. c + 1) (count_is count there)
          ∙ sym (f_is tile ∙ ap (λ b. cond (is_among (take i haul.to) tile || (b || false)) (length (words_to tile earlier) + 1) (length (words_to tile earlier))) (eq-eqb tile tile refl) ∙ either (is_among (take i haul.to) tile))
        where
          either : (b : Bool) → cond (b || true) (length (words_to tile earlier) + 1) (length (words_to tile earlier)) ≡ length (words_to tile earlier) + 1
          either true = refl
          either false = refl

      elsewhere : (t d : ℕ) → t < n → (t ≡ tile → ⊥) → get_or counts t d ≡ f t
      elsewhere t d l ne =
          count_at n counts (earlier ++ first_targets haul word i ∷ []) t d are l ∙ count_more t earlier (first_targets haul word i)
          ∙ sym (f_is t ∙ ap (λ b. cond (is_among (take i haul.to) t || (b || false)) (length (words_to t earlier) + 1) (length (words_to t earlier))) (ne_eqb tile t (λ e. ne (sym e))) ∙ either (is_among (take i haul.to) t))
        where
          either : (b : Bool) → cond (b || false) (length (words_to t earlier) + 1) (length (words_to t earlier)) ≡ cond b (length (words_to t earlier) + 1) (length (words_to t earlier))
          either true = refl
          either false = refl

      at : (k d : ℕ) → k < n → get_or (set counts tile (count + 1)) k d ≡ get_or (map f (range_with_len 0 n)) k d
      at k d l =
          let first : 0 + k ≡ k = omega arith in
          let made : get_or (map f (range_with_len 0 n)) k d ≡ f k = get_or-map-range_with_len f 0 n k k d l first in
          ⊎_elim
          (λ (e : k ≡ tile).
          ap (λ u. get_or (set counts tile (count + 1)) u d) e ∙ get_or-set_same counts tile (count + 1) d (omega (arith, size)) ∙ here ∙ ap f (sym e) ∙ sym made)
          (λ (ne : k ≡ tile → ⊥). get_or-set_other counts tile k (count + 1) d ne ∙ elsewhere k d l ne ∙ sym made)
          (cases_eq k tile)

  module _ (laws : GivingLaws) (a b : List TileProgram) (gives : Gives n (map (store_part earlier haul.net) (take i haul.to)) a b) where
    -- the stores with that of this target
    pub stores_more : (count : ℕ) (c : List TileProgram) → count ≡ get_or counts tile count → Gives n (ToTile tile (store_ins (register_of haul.net) count) ∷ []) b c
        → Gives n (map (store_part earlier haul.net) (take (i + 1) haul.to)) a c
    stores_more count c there given =
        subst (λ (ps : List Part). Gives n ps a c) (sym (ap (map (store_part earlier haul.net)) (take_more haul.to i tile h is) ∙ map_split (store_part earlier haul.net) (take i haul.to) (tile ∷ [])))
        (laws.both n (map (store_part earlier haul.net) (take i haul.to)) (store_part earlier haul.net tile ∷ []) a b c gives
        (subst (λ v. Gives n (ToTile tile (store_ins (register_of haul.net) v) ∷ []) b c) (count_is count there) given))

    pub stores_full : (count : ℕ) → count ≡ get_or counts tile count → Overflows n (ToTile tile (store_ins (register_of haul.net) count) ∷ []) b → Overflows n (map (store_part earlier haul.net) haul.to) a
    stores_full count there full =
        let front : List Part = map (store_part earlier haul.net) (take (i + 1) haul.to) in
        let back : List Part = map (store_part earlier haul.net) (drop (i + 1) haul.to) in
        let this : Overflows n front a =
        subst (λ (ps : List Part). Overflows n ps a) (sym (ap (map (store_part earlier haul.net)) (take_more haul.to i tile h is) ∙ map_split (store_part earlier haul.net) (take i haul.to) (tile ∷ [])))
        (laws.later n (map (store_part earlier haul.net) (take i haul.to)) (store_part earlier haul.net tile ∷ []) a b gives
        (subst (λ v. Overflows n (ToTile tile (store_ins (register_of haul.net) v) ∷ []) b) (count_is count there) full)) in
        subst (λ (ps : List Part). Overflows n ps a) (sym (map_split (store_part earlier haul.net) (take (i + 1) haul.to) (drop (i + 1) haul.to)) ∙ ap (map (store_part earlier haul.net)) (take-append-drop (i + 1) haul.to))
        (laws.more n front back a this)

-- 'li' and then 'addu'
pub send_parts : (t u : ℕ) (net other : Net) (word r : ℕ) (ins : Instruction) → t ≡ u → other ≡ net → ins ≡ registers tile.Addu r 5 0 → r ≡ register_of other
    → to_tile t (load 5 word) ++ ToTile t ins ∷ [] ≡ to_tile u (send_code net word)
send_parts t u net other word r ins e f g h =
    ap (λ k. to_tile k (load 5 word) ++ ToTile k ins ∷ []) e
    ∙ ap (λ i. to_tile u (load 5 word) ++ ToTile u i ∷ []) (g ∙ ap (λ k. registers tile.Addu k 5 0) (h ∙ ap register_of f))
    ∙ sym (to_tile_split u (load 5 word) (send_ins net 5 ∷ []))

-- before the first target
pub no_targets : (n : ℕ) (counts : List ℕ) (earlier : List Sending) (haul : Haulage) (word : ℕ) → AreCounts n counts earlier → AreCounts n counts (earlier ++ first_targets haul word 0 ∷ [])
no_targets n counts earlier haul word are =
    are
    ∙ same_lists (map f (range_with_len 0 n)) (map g (range_with_len 0 n)) (length-map-range_with_len f 0 n ∙ sym (length-map-range_with_len g 0 n))
    (λ k d l.
    let h : k < n = subst (λ m. k < m) (length-map-range_with_len f 0 n) l in
    let first : 0 + k ≡ k = omega arith in
    get_or-map-range_with_len f 0 n k k d h first ∙ sym (count_more k earlier (first_targets haul word 0)) ∙ sym (get_or-map-range_with_len g 0 n k k d h first))
  where
    f : ℕ → ℕ
    f t = length (words_to t earlier)

    g : ℕ → ℕ
    g t = length (words_to t (earlier ++ first_targets haul word 0 ∷ []))

-- so many tiles have counts
pub tiles_are : (n : ℕ) (counts : List ℕ) (earlier : List Sending) → AreCounts n counts earlier → length counts ≡ n
tiles_are n counts earlier are = ap length are ∙ length-map-range_with_len (λ t. length (words_to t earlier)) 0 n
