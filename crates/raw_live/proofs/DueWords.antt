-- What comes out of a set that is fed words, by what its sinks have at rest.
use Rattle.std.proofs.Common.{◌≡◌, ℕ, zero, suc, ◌-◌, ◌*◌, ◌^◌, ◌<◌, ◌≤◌, ◌==◌, if◌then◌else◌, false, List, [], ◌∷◌, ◌++◌, length, drop, All, Option, Some, None, refl, sym, ap, subst, ◌∙◌, append_assoc, append-nil, true≢false, eq-eqb, ne_eqb, arith, ⊎_elim}
use Rattle.std.specs.Prelude.{slice_get}
use Rattle.std.proofs.Math.Seq.{drop-append_seam}
use Rattle.std.proofs.lemmas.Bool.{cases_eq, cases_lt}
use Rattle.std.proofs.lemmas.Option.{slice_get_past}
use Rattle.raw_grid.specs.Topology.{tile_count, proc_count}
use Rattle.raw_grid.proofs.Growth.{procs_few}
use Rattle.raw_network.specs.Laws.{IsPrefix}
use Rattle.raw_model.specs.Program.{ProgramSet, IsSet}
use Rattle.raw_model.specs.Local.{Local, Tile, Switch, Source, Sink}
use Rattle.raw_model.specs.Start.{start, IsFit, Fits}
use Rattle.raw_model.specs.Rest.{end, IsRun}
use Rattle.raw_model.specs.Serial.{serial}
use Rattle.raw_model.proofs.Fitting.{end_fits}
use Rattle.raw_model.proofs.Starting.{start_fits}
use Rattle.raw_model.proofs.Orders.{same_rest}
use Rattle.raw_model.proofs.Sweeping.{serial_rests}
use Rattle.raw_model.specs.Parts.{got_of}
use Rattle.raw_queue.specs.declared.item.Item.{Item}
use Rattle.raw_queue.specs.declared.item.Item.TheVariants.{Word, End}
use Rattle.raw_live_text.specs.Feeding.{BeginsItems}
use Rattle.raw_live.specs.Items.{words_at, has_end}
use Rattle.raw_live.specs.Gots.{AreSmall}
use Rattle.raw_live.specs.Engine.{got_at, with_put, with_items, AreSets, words_to}
use Rattle.raw_live.specs.Due.{rest_of, words_behind, first_words, new_words, words_after, live_items}
use Rattle.raw_live.proofs.Fronts.{has_end-append}
use Rattle.raw_live.proofs.Smalls.{small_append}
use Rattle.raw_live.proofs.Growth.{rest_grows}
use Rattle.raw_live.proofs.AtRest.{alike_with, live_append}

pub rests_there : (set : ProgramSet) (h : List ℕ) → IsSet set → IsRun set h → end set h ≡ rest_of set
rests_there set h valid run =
    let own = serial_rests set valid in
    same_rest set valid (start set) (serial set) h (record { lawful = own.lawful; quiet = own.quiet }) (record { lawful = run.lawful; quiet = run.quiet })

words_at-append : (q : ℕ) (xs ys : List Item) → has_end xs ≡ false → words_at q (xs ++ ys) ≡ words_at q xs ++ words_at q ys
words_at-append q [] ys endless = refl
words_at-append q (Word port word ∷ xs) ys endless =
    let own = if port == q then word ∷ [] else [] in
    ap (λ l. own ++ l) (words_at-append q xs ys endless) ∙ sym (append_assoc own (words_at q xs) (words_at q ys))
words_at-append q (End ∷ xs) ys endless = absurd (true≢false endless)

at_own : (port : ℕ) (words : List ℕ) → words_at port (words_to port words) ≡ words
at_own port [] = refl
at_own port (word ∷ words) = rw (eq-eqb port port refl) (ap (λ l. word ∷ l) (at_own port words))

at_other : (q port : ℕ) (words : List ℕ) → (port ≡ q → ⊥) → words_at q (words_to port words) ≡ []
at_other q port [] ne = refl
at_other q port (word ∷ words) ne = rw (ne_eqb port q ne) (at_other q port words ne)

endless_to : (port : ℕ) (words : List ℕ) → has_end (words_to port words) ≡ false
endless_to port [] = refl
endless_to port (word ∷ words) = endless_to port words

module _ (counts : ℕ → ℕ) (words : ℕ → List ℕ) where
  endless_behind : (n : ℕ) → has_end (words_behind n counts words) ≡ false
  endless_behind zero = refl
  endless_behind (suc n) = has_end-append (words_behind n counts words) (words_to n (drop (counts n) (words n))) (endless_behind n) ∙ endless_to n (drop (counts n) (words n))

  one_behind : (q n : ℕ) → words_at q (words_behind (suc n) counts words) ≡ words_at q (words_behind n counts words) ++ words_at q (words_to n (drop (counts n) (words n)))
  one_behind q n = words_at-append q (words_behind n counts words) (words_to n (drop (counts n) (words n))) (endless_behind n)

  -- of a processor that is not below n there is no word
  none_behind : (q n : ℕ) → n ≤ q → words_at q (words_behind n counts words) ≡ []
  none_behind q zero past = refl
  none_behind q (suc n) past =
      one_behind q n ∙ ap (λ l. l ++ words_at q (words_to n (drop (counts n) (words n)))) (none_behind q n (omega (arith, past))) ∙ at_other q n (drop (counts n) (words n)) (λ same. absurd (omega (arith, past, same)))

  -- and of one below n there are those behind so many
  those_behind : (q n : ℕ) → q < n → words_at q (words_behind n counts words) ≡ drop (counts q) (words q)
  those_behind q zero within = absurd (omega (arith, within))
  those_behind q (suc n) within =
      ⊎_elim {C = words_at q (words_behind (suc n) counts words) ≡ drop (counts q) (words q)}
      (λ same. subst (λ k. words_at q (words_behind (suc k) counts words) ≡ drop (counts q) (words q)) same
      (one_behind q q ∙ ap (λ l. l ++ words_at q (words_to q (drop (counts q) (words q)))) (none_behind q q (omega arith)) ∙ at_own q (drop (counts q) (words q))))
      (λ other. one_behind q n ∙ ap (λ l. l ++ words_at q (words_to n (drop (counts n) (words n)))) (those_behind q n (omega (arith, within, other)))
      ∙ ap (λ l. drop (counts q) (words q) ++ l) (at_other q n (drop (counts n) (words n)) (λ same. other (sym same))) ∙ append-nil (drop (counts q) (words q)))
      (cases_eq q n)

  -- the words of small processors
  small_behind : (n : ℕ) → n ≤ 2 ^ 32 → ((p : ℕ) → All (λ word. word < 2 ^ 32) (words p)) → AreSmall (words_behind n counts words)
  small_behind zero few small = tt
  small_behind (suc n) few small = small_append (words_behind n counts words) (words_to n (drop (counts n) (words n))) (small_behind n (omega (arith, few)) small) (small_to n (drop (counts n) (words n)) (omega (arith, few)) (small_drop (counts n) (words n) (small n)))
    where
      small_drop : (k : ℕ) (xs : List ℕ) → All (λ word. word < 2 ^ 32) xs → All (λ word. word < 2 ^ 32) (drop k xs)
      small_drop zero [] a = a
      small_drop zero (x ∷ xs) a = a
      small_drop (suc k) [] a = a
      small_drop (suc k) (x ∷ xs) a = small_drop k xs (λ i d within. a (suc i) d (omega (arith, within)))

      small_to : (port : ℕ) (xs : List ℕ) → port < 2 ^ 32 → All (λ word. word < 2 ^ 32) xs → AreSmall (words_to port xs)
      small_to port [] p a = tt
      small_to port (x ∷ xs) p a = (p, a 0 0 (omega arith), small_to port xs p (λ i d within. a (suc i) d (omega (arith, within))))

module _ (set : ProgramSet) (valid : IsSet set) where
  fits : Fits set (rest_of set)
  fits = end_fits set valid (start set) (serial set) (start_fits set valid) (serial_rests set valid).lawful

  -- no processor past the last has a word
  none_past : (q : ℕ) → proc_count set.topo ≤ q → got_at (rest_of set) q ≡ []
  none_past q past = ap got_of (slice_get_past (rest_of set).locals q (omega (arith, past, fits.processors)))

  small_got : (q : ℕ) → All (λ word. word < 2 ^ 32) (got_at (rest_of set) q)
  small_got q = by_local (slice_get (rest_of set).locals q) (fits.locals q)
    where
      by_local : (o : Option Local) → ((l : Local) → o ≡ Some l → IsFit set q l) → All (λ word. word < 2 ^ 32) (got_of o)
      by_local None f = λ i d within. absurd (omega (arith, within))
      by_local (Some (Tile l)) f = λ i d within. absurd (omega (arith, within))
      by_local (Some (Switch l)) f = λ i d within. absurd (omega (arith, within))
      by_local (Some (Source l)) f = λ i d within. absurd (omega (arith, within))
      by_local (Some (Sink l)) f = (f (Sink l) refl).1.words

-- what comes out first is what there is at the first rest
module _ (set : ProgramSet) (valid : IsSet set) where
  says_first : (q : ℕ) → words_at q (first_words set) ≡ got_at (rest_of set) q
  says_first q = ⊎_elim {C = words_at q (first_words set) ≡ got_at (rest_of set) q}
      (λ within. those_behind (λ p. 0) (got_at (rest_of set)) q (proc_count set.topo) within ∙ drop-append_seam [] (got_at (rest_of set) q))
      (λ past. none_behind (λ p. 0) (got_at (rest_of set)) q (proc_count set.topo) past ∙ sym (none_past set valid q past))
      (cases_lt q (proc_count set.topo))

-- and once a word was put, what there is more at the next
module _ (set : ProgramSet) (port word : ℕ) (valid : IsSet set) (valid_next : IsSet (with_put set port word)) where
  abbrev next : ProgramSet
  next = with_put set port word

  grows : (q : ℕ) → IsPrefix (got_at (rest_of set) q) (got_at (rest_of next) q)
  grows q = rest_grows set next (alike_with set (port - 2 * tile_count set.topo) word) valid_next (serial set) (serial next) (serial_rests set valid).lawful (serial_rests next valid_next) q

  says_new : (q : ℕ) → got_at (rest_of set) q ++ words_at q (new_words set next) ≡ got_at (rest_of next) q
  says_new q =
      let counts : ℕ → ℕ = λ p. length (got_at (rest_of set) p) in
      let before = got_at (rest_of set) q in
      ⊎_elim {C = before ++ words_at q (new_words set next) ≡ got_at (rest_of next) q}
      (λ within.
      ap (λ l. before ++ l) (those_behind counts (got_at (rest_of next)) q (proc_count next.topo) within ∙ ap (drop (length before)) (sym (grows q).1) ∙ drop-append_seam before (grows q).0)
      ∙ (grows q).1)
      (λ past.
      ap (λ l. before ++ l) (none_behind counts (got_at (rest_of next)) q (proc_count next.topo) past) ∙ append-nil before ∙ none_past set valid q past ∙ sym (none_past next valid_next q past))
      (cases_lt q (proc_count next.topo))

-- with each front of the words there is a set
first_set : (set : ProgramSet) (words : List Item) → AreSets set words → IsSet set
first_set set words sets = sets [] words refl

next_sets : (set : ProgramSet) (port word : ℕ) (words : List Item) → AreSets set (Word port word ∷ words) → AreSets (with_put set port word) words
next_sets set port word words sets = λ front rest e. sets (Word port word ∷ front) rest (ap (λ l. Word port word ∷ l) e)

endless_new : (before set : ProgramSet) → has_end (new_words before set) ≡ false
endless_new before set = endless_behind (λ p. length (got_at (rest_of before) p)) (got_at (rest_of set)) (proc_count set.topo)

says_after : (set : ProgramSet) (words : List Item) (q : ℕ) → AreSets set words → got_at (rest_of set) q ++ words_at q (words_after set words) ≡ got_at (rest_of (with_items set words)) q
says_after set [] q sets = append-nil (got_at (rest_of set) q)
says_after set (End ∷ words) q sets = append-nil (got_at (rest_of set) q)
says_after set (Word port word ∷ words) q sets =
    let next = with_put set port word in
    let later = next_sets set port word words sets in
    let before = got_at (rest_of set) q in
    ap (λ l. before ++ l) (words_at-append q (new_words set next) (words_after next words) (endless_new set next)) ∙ sym (append_assoc before (words_at q (new_words set next)) (words_at q (words_after next words)))
    ∙ ap (λ l. l ++ words_at q (words_after next words)) (says_new set port word (first_set set (Word port word ∷ words) sets) (first_set next words later) q) ∙ says_after next words q later

pub says_all : (set : ProgramSet) (words : List Item) (p : ℕ) → AreSets set words → words_at p (live_items set words) ≡ got_at (rest_of (with_items set words)) p
says_all set words p sets =
    words_at-append p (first_words set) (words_after set words) (endless_behind (λ q. 0) (got_at (rest_of set)) (proc_count set.topo))
    ∙ ap (λ l. l ++ words_at p (words_after set words)) (says_first set (first_set set words sets) p) ∙ says_after set words p sets

-- numbers of 32 bits
few_procs : (set : ProgramSet) → IsSet set → proc_count set.topo ≤ 2 ^ 32
few_procs set valid = let few = procs_few set.topo valid.topology in omega (arith, few)

small_after : (set : ProgramSet) (words : List Item) → AreSets set words → AreSmall (words_after set words)
small_after set [] sets = tt
small_after set (End ∷ words) sets = tt
small_after set (Word port word ∷ words) sets =
    let next = with_put set port word in
    let later = next_sets set port word words sets in
    let valid = first_set next words later in
    small_append (new_words set next) (words_after next words) (small_behind (λ p. length (got_at (rest_of set) p)) (got_at (rest_of next)) (proc_count next.topo) (few_procs next valid) (small_got next valid)) (small_after next words later)

pub all_small : (set : ProgramSet) (words : List Item) → AreSets set words → AreSmall (live_items set words)
all_small set words sets =
    let valid = first_set set words sets in
    small_append (first_words set) (words_after set words) (small_behind (λ p. 0) (got_at (rest_of set)) (proc_count set.topo) (few_procs set valid) (small_got set valid)) (small_after set words sets)

pub front_first : (set : ProgramSet) (front back : List Item) → has_end front ≡ false → BeginsItems (live_items set front) (live_items set (front ++ back))
front_first set front back endless = record { rest = words_after (with_items set front) back; is = live_append set front back endless }
