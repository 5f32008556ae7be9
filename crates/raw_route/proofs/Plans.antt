-- All hauls give their parts, one after another.
use Rattle.std.proofs.Common.{◌≡◌, ℕ, zero, suc, ◌+◌, ◌*◌, ◌^◌, ◌<◌, ◌≤◌, ◌⊎◌, List, [], ◌∷◌, ◌++◌, length, get_or, map, take, drop, Option, Some, None, inr, refl, sym, ap, ◌∙◌, subst, ⊎_elim, arith}
use Rattle.std.specs.List.{All, AllByRecursion, filter_map, cons_option, range_with_len}
use Rattle.std.specs.Option.{option_to_list}
use Rattle.std.specs.Prelude.{replicate}
use Rattle.std.proofs.Math.Nat.{mul-le-mul_left, mul-le-mul_right}
use Rattle.std.proofs.lemmas.List.{append-nil, take-append-drop}
use Rattle.std.proofs.lemmas.List.Elements.{All-from_recursion}
use Rattle.raw_model.specs.declared.limits.TheConstants.{DEFAULT_DEPTH}
use Rattle.raw_codegen.specs.declared.limits.TheConstants.{PARTS_LIMIT}
use Rattle.raw_grid.specs.Topology.{Topology, IsSize, without_ports}
use Rattle.raw_model.specs.declared.program.Show.{Show}
use Rattle.raw_model.specs.Program.{ProgramSet, TileProgram, PortProgram}
use Rattle.raw_codegen.specs.Parts.{Part, programs_of, script_programs, Gives}
use Rattle.raw_codegen.specs.Limits.{AreShort, IsTooLong, Overflows}
use Rattle.raw_route.specs.Hauls.{Haulage, IsHaul}
use Rattle.raw_route.specs.Planned.{Sending, IsSending, sendings, words_to, haul_parts, parts_from, show_of, plan_parts, planned}
use Rattle.raw_route.specs.Counts.{AreCounts, HasManyWords}
use Rattle.raw_route.specs.Refusals.{fault_of, first_fault, AreLawful}
use Rattle.raw_route.proofs.Faultless.{is_haul, placed_none, all_sendings}
use Rattle.raw_route.proofs.PlannedSets.{grid_lawful}
use Rattle.raw_route.proofs.Words.{parts_append, words_short}
use Rattle.raw_codegen.specs.Laws.{PartsGive}

-- the haul at a place is lawful
pub haul_at : (tiles place : ℕ) (hauls : List Haulage) (i : ℕ) (d : Haulage) → first_fault tiles place hauls ≡ None → i < length hauls → IsHaul tiles (get_or hauls i d)
haul_at tiles place [] i d e l = absurd (omega arith)
haul_at tiles place (h ∷ hs) zero d e l = is_haul tiles h (placed_none place (fault_of tiles h) (first_fault tiles (place + 1) hs) e).0
haul_at tiles place (h ∷ hs) (suc i) d e l = haul_at tiles (place + 1) hs i d (placed_none place (fault_of tiles h) (first_fault tiles (place + 1) hs) e).1 (omega arith)

-- one haul more
pub sendings_more : (hauls : List Haulage) (words : List ℕ) (i : ℕ) (d : Haulage) → length words ≡ length hauls → i < length hauls
    → take (i + 1) (sendings hauls words) ≡ take i (sendings hauls words) ++ record { haul = get_or hauls i d; word = get_or words i 0 } ∷ []
sendings_more [] words i d e l = absurd (omega arith)
sendings_more (h ∷ hs) [] i d e l = absurd (omega arith)
sendings_more (h ∷ hs) (w ∷ ws) zero d e l = refl
sendings_more (h ∷ hs) (w ∷ ws) (suc i) d e l =
    let next : suc i + 1 ≡ suc (i + 1) = omega arith in
    ap (λ n. take n (sendings (h ∷ hs) (w ∷ ws))) next ∙ ap (λ xs. record { haul = h; word = w } ∷ xs) (sendings_more hs ws i d (omega arith) (omega arith))

pub sendings_taken : (hauls : List Haulage) (words : List ℕ) (i : ℕ) → length words ≡ length hauls → length hauls ≤ i → take i (sendings hauls words) ≡ sendings hauls words
sendings_taken [] words zero e l = refl
sendings_taken [] words (suc i) e l = refl
sendings_taken (h ∷ hs) [] i e l = absurd (omega arith)
sendings_taken (h ∷ hs) (w ∷ ws) zero e l = absurd (omega arith)
sendings_taken (h ∷ hs) (w ∷ ws) (suc i) e l = ap (λ xs. record { haul = h; word = w } ∷ xs) (sendings_taken hs ws i (omega arith) (omega arith))

all_take : (tiles i : ℕ) (xs : List Sending) → AllByRecursion (IsSending tiles) xs → AllByRecursion (IsSending tiles) (take i xs)
all_take tiles zero xs oks = tt
all_take tiles (suc i) [] oks = tt
all_take tiles (suc i) (x ∷ xs) oks = (oks.0, all_take tiles i xs oks.1)

-- the parts of one haul more
pub parts_more : (cols rows : ℕ) (earlier : List Sending) (x : Sending) → parts_from cols rows [] (earlier ++ x ∷ []) ≡ parts_from cols rows [] earlier ++ haul_parts cols rows earlier x
parts_more cols rows earlier x =
    parts_append cols rows [] earlier (x ∷ []) ∙ ap (λ ps. parts_from cols rows [] earlier ++ ps) (append-nil (haul_parts cols rows earlier x))

-- the programs with those of one haul more
pub programs_more : (cols rows i : ℕ) (xs : List Sending) (x : Sending) (a b : List TileProgram) → take (i + 1) xs ≡ take i xs ++ x ∷ []
    → a ≡ programs_of (cols * rows) (parts_from cols rows [] (take i xs)) → Gives (cols * rows) (haul_parts cols rows (take i xs) x) a b
    → b ≡ programs_of (cols * rows) (parts_from cols rows [] (take (i + 1) xs))
programs_more cols rows i xs x a b next before gives =
    gives (parts_from cols rows [] (take i xs)) before
    ∙ ap (λ ps. programs_of (cols * rows) ps) (sym (ap (parts_from cols rows []) next ∙ parts_more cols rows (take i xs) x))

module _ (give : PartsGive) (longer : (n : ℕ) (parts more : List Part) → IsTooLong n parts → IsTooLong n (parts ++ more))
    (too_long : (n : ℕ) (parts : List Part) → IsTooLong n parts → AreShort (script_programs n parts) → ⊥) (cols rows : ℕ) (size : IsSize cols rows)
    (xs : List Sending) (oks : AllByRecursion (IsSending (cols * rows)) xs) where
  -- what is too long for some hauls is so for all
  front_long : (i : ℕ) → IsTooLong (cols * rows) (parts_from cols rows [] (take i xs)) → IsTooLong (cols * rows) (parts_from cols rows [] xs)
  front_long i h =
      subst (λ (ps : List Part). IsTooLong (cols * rows) ps)
      (sym (parts_append cols rows [] (take i xs) (drop i xs)) ∙ ap (parts_from cols rows []) (take-append-drop i xs))
      (longer (cols * rows) (parts_from cols rows [] (take i xs)) (parts_from cols rows (take i xs) (drop i xs)) h)

  -- no set has more words to a tile than its switch has instructions
  many_long : (i : ℕ) → HasManyWords (cols * rows) (take i xs) → IsTooLong (cols * rows) (parts_from cols rows [] (take i xs))
  many_long i h =
      let a = words_short give (without_ports cols rows) (grid_lawful cols rows size) [] (take i xs) (all_take (cols * rows) i xs oks) h.0 h.1 in
      let b = h.2 in
      (h.0, h.1, inr (omega arith))

  pub too_many : (i : ℕ) (x : Sending) (programs : List TileProgram) → take (i + 1) xs ≡ take i xs ++ x ∷ [] → programs ≡ programs_of (cols * rows) (parts_from cols rows [] (take i xs))
      → Overflows (cols * rows) (haul_parts cols rows (take i xs) x) programs ⊎ HasManyWords (cols * rows) (take i xs) → AreShort (script_programs (cols * rows) (plan_parts cols rows xs)) → ⊥
  unfolding plan_parts
  too_many i x programs next are why =
      too_long (cols * rows) (parts_from cols rows [] xs)
      (⊎_elim
      (λ (full : Overflows (cols * rows) (haul_parts cols rows (take i xs) x) programs).
      front_long (i + 1)
      (subst (λ (ps : List Part). IsTooLong (cols * rows) ps) (sym (ap (parts_from cols rows []) next ∙ parts_more cols rows (take i xs) x)) (full (parts_from cols rows [] (take i xs)) are)))
      (λ (many : HasManyWords (cols * rows) (take i xs)). front_long i (many_long i many)) why)

-- all hauls
pub all_given : (cols rows i : ℕ) (hauls : List Haulage) (words : List ℕ) (a : List TileProgram) → length words ≡ length hauls → length hauls ≤ i
    → a ≡ programs_of (cols * rows) (parts_from cols rows [] (take i (sendings hauls words))) → a ≡ programs_of (cols * rows) (plan_parts cols rows (sendings hauls words))
unfolding plan_parts
all_given cols rows i hauls words a e l is = is ∙ ap (λ xs. programs_of (cols * rows) (parts_from cols rows [] xs)) (sendings_taken hauls words i e l)

-- what is shown of one tile more
option_range : {X : Type 0} (f : ℕ → Option X) (a n : ℕ) → filter_map f (range_with_len a (n + 1)) ≡ filter_map f (range_with_len a n) ++ option_to_list (f (a + n))
option_range f a zero = by (f a) ∙ ap (λ k. option_to_list (f k)) (omega arith)
  where
    by : {X : Type 0} (o : Option X) → cons_option o [] ≡ option_to_list o
    by None = refl
    by (Some x) = refl
option_range f a (suc n) =
    ap (λ k. filter_map f (range_with_len a k)) (let e : suc n + 1 ≡ suc (n + 1) = omega arith in e)
    ∙ ap (λ ys. cons_option (f a) ys) (option_range f (a + 1) n)
    ∙ joined (f a) (filter_map f (range_with_len (a + 1) n)) (option_to_list (f (a + 1 + n)))
    ∙ ap (λ k. cons_option (f a) (filter_map f (range_with_len (a + 1) n)) ++ option_to_list (f k)) (omega arith)
  where
    joined : {X : Type 0} (o : Option X) (xs ys : List X) → cons_option o (xs ++ ys) ≡ cons_option o xs ++ ys
    joined None xs ys = refl
    joined (Some x) xs ys = refl

pub option_more : {X : Type 0} (f : ℕ → Option X) (t : ℕ) → filter_map f (range_with_len 0 (t + 1)) ≡ filter_map f (range_with_len 0 t) ++ option_to_list (f t)
option_more f t = option_range f 0 t ∙ ap (λ k. filter_map f (range_with_len 0 t) ++ option_to_list (f k)) (let e : 0 + t ≡ t = omega arith in e)

-- at first no word has been sent
pub zero_counts : (n m : ℕ) (counts : List ℕ) → m ≡ n → counts ≡ replicate m 0 → AreCounts n counts []
zero_counts n m counts e is = is ∙ ap (λ k. replicate k 0) e ∙ none 0 n
  where
    none : (a n : ℕ) → replicate n 0 ≡ map (λ t. length (words_to t [])) (range_with_len a n)
    none a zero = refl
    none a (suc n) = ap (λ xs. 0 ∷ xs) (none (a + 1) n)

-- the planned set of parts
pub set_is : (cols rows : ℕ) (xs : List Sending) (topo : Topology) (ports : List PortProgram) (tiles : List TileProgram) (shows : List Show)
    → topo ≡ without_ports cols rows → ports ≡ [] → tiles ≡ script_programs (cols * rows) (plan_parts cols rows xs) → shows ≡ filter_map (show_of xs) (range_with_len 0 (cols * rows))
    → ◌≡◌ {A = ProgramSet} (record { topo = topo; limit = PARTS_LIMIT; depth = DEFAULT_DEPTH; ports = ports; tiles = tiles; shows = shows }) (planned cols rows xs)
unfolding planned
set_is cols rows xs topo ports tiles shows a b c d = λ i. record { topo = a i; limit = PARTS_LIMIT; depth = DEFAULT_DEPTH; ports = b i; tiles = c i; shows = d i }

pub tiles_are_short : (cols rows : ℕ) (xs : List Sending) → AreShort (script_programs (cols * rows) (plan_parts cols rows xs)) → AreShort (planned cols rows xs).tiles
unfolding planned
tiles_are_short cols rows xs h = h

pub tiles_not_short : (cols rows : ℕ) (xs : List Sending) → (AreShort (script_programs (cols * rows) (plan_parts cols rows xs)) → ⊥) → AreShort (planned cols rows xs).tiles → ⊥
unfolding planned
tiles_not_short cols rows xs h = h

pub each_sending : (cols rows : ℕ) (hauls : List Haulage) (words : List ℕ) → AreLawful cols rows hauls → All (λ w. w < 2 ^ 32) words → All (IsSending (cols * rows)) (sendings hauls words)
each_sending cols rows hauls words lawful fit =
    All-from_recursion (IsSending (cols * rows)) (sendings hauls words) (all_sendings (cols * rows) 0 hauls words lawful.faultless fit)

pub few_tiles : (cols rows : ℕ) → IsSize cols rows → cols * rows < 2 ^ 32
few_tiles cols rows size = let a = mul-le-mul_right rows size.most_cols in let b = mul-le-mul_left 8 size.most_rows in omega arith
