-- What the engine handed on, and what its sinks have at rest.
use Rattle.std.proofs.Common.{◌≡◌, ℕ, ◌-◌, ◌*◌, false, List, [], ◌∷◌, ◌++◌, length, map, take, drop, Some, Result, Ok, Err, refl, sym, ap, subst, ◌∙◌, append_assoc, append-nil, true≢false, Vec, Global, ◌==◌, if◌then◌else◌, arith, ⊎_elim, length-append, length-set}
use Rattle.std.specs.Prelude.{slice_get, slice_index, set, get_or}
use mathlib.Core.List.{is_set}
use Rattle.std.proofs.Math.Nat.{ℕ_set}
use Rattle.std.proofs.Math.Logic.{∥∥₁_elim}
use Rattle.std.proofs.Math.Seq.{take-append_seam}
use Rattle.std.proofs.lemmas.Bool.{cases_eq}
use Rattle.std.proofs.lemmas.List.{take-append-drop}
use Rattle.std.proofs.lemmas.Option.{same_Some, get_or_from_slice_get}
use Rattle.std.specs.declared.alloc.AllocError.{AllocError}
use Rattle.raw_network.proofs.Wires.{slice_get-set_same, slice_get-set_other}
use Rattle.raw_grid.specs.Topology.{tile_count, proc_count}
use Rattle.raw_network.specs.Laws.{IsPrefix}
use Rattle.raw_model.specs.Program.{ProgramSet, PortProgram, IsSet}
use Rattle.raw_model.specs.Start.{MachineState, start}
use Rattle.raw_model.specs.MoreWords.{AreAlikeButMoreWords, HasMoreWords, with_word, port_with_word}
use Rattle.raw_model.specs.Rest.{IsQuiet}
use Rattle.raw_model.specs.Serial.{serial}
use Rattle.raw_model.specs.Outcomes.{outcome, ending_of}
use Rattle.raw_model.proofs.Orders.{same_rest}
use Rattle.raw_model.proofs.Sweeping.{serial_rests}
use Rattle.raw_processor.specs.declared.processor.Processor.{Processor}
use Rattle.raw_processor.specs.Processor.{local_of}
use Rattle.raw_serial.specs.declared.parts.Parts.{Parts}
use Rattle.raw_serial.specs.Running.{Running, IsRunBy}
use Rattle.raw_serial.specs.Leading.{Leads, LeadsBy}
use Rattle.raw_serial.specs.Taken.{made_of, IsMadeOf, IsWhole}
use Rattle.raw_queue.specs.declared.item.Item.{Item}
use Rattle.raw_queue.specs.declared.item.Item.TheVariants.{Word, End}
use Rattle.raw_live_text.specs.Feeding.{BeginsItems}
use Rattle.raw_live.specs.declared.engine.Engine.{Engine}
use Rattle.raw_model.specs.declared.ending.Ending.{Ending}
use Rattle.raw_model.specs.declared.ending.Ending.TheVariants as ending
use Rattle.raw_live.specs.declared.writer.Finish.{Finish}
use Rattle.raw_live.specs.declared.writer.Finish.TheVariants.{Ended, HungUp}
use Rattle.raw_live.specs.Items.{has_end}
use Rattle.raw_live.specs.Engine.{got_from, got_at, with_put, with_items, AreAtRest, PutsItems, AreNoMore, AreAll}
use Rattle.raw_live.specs.Due.{rest_of, ending_at, words_behind, first_words, new_words, words_after, live_items}
use Rattle.raw_live.specs.Running.{FedWith, HasSentSome, Rests, RunsAs, EndedAs, Runs}
use Rattle.raw_live.proofs.Growth.{end_grows}
use Rattle.raw_live.proofs.HandedOn.{behind_same}

-- the number of an ending, and the ending with a number
abbrev number_of : Ending → ℕ
number_of ending.Done = 0
number_of ending.Deadlock = 1
number_of ending.Stuck = 2
number_of ending.Trapped = 3
number_of ending.Limit = 4

abbrev with_number : ℕ → Ending
with_number n = if n == 0 then ending.Done else (if n == 1 then ending.Deadlock else (if n == 2 then ending.Stuck else (if n == 3 then ending.Trapped else ending.Limit)))

back : (e : Ending) → with_number (number_of e) ≡ e
back ending.Done = refl
back _ = refl

same_ending : (a b : Ending) → number_of a ≡ number_of b → a ≡ b
same_ending a b e = sym (back a) ∙ ap with_number e ∙ back b

puts_same : {T E : Type 0} (a b old new : List Item) (result : Result T E) → a ≡ b → PutsItems a old new result → PutsItems b old new result
puts_same a b old new result e puts = subst (λ l. PutsItems l old new result) e puts

begins_take : (front whole : List ℕ) → IsPrefix front whole → take (length front) whole ≡ front
begins_take front whole b = ap (take (length front)) (sym b.1) ∙ take-append_seam front b.0

-- a front that something unknown shows
pub front_from : {A : Type 0} (front whole : List ℕ) → ∥ A ∥₁ → (A → IsPrefix front whole) → IsPrefix front whole
front_from front whole some f =
    let e : take (length front) whole ≡ front = ∥∥₁_elim some (is_set ℕ_set _ _) (λ x. begins_take front whole (f x)) in
    (drop (length front) whole, sym (sym (take-append-drop (length front) whole) ∙ ap (λ l. l ++ drop (length front) whole) e))

has_more : (f m : PortProgram) → f ≡ m → HasMoreWords f m
has_more f m e = subst (λ (x : PortProgram). HasMoreWords f x) e (record { capacity = refl; words = ([], append-nil f.words) })

-- one word more
module _ (programs : ProgramSet) (i word : ℕ) where
  given : PortProgram
  given = port_with_word (get_or programs.ports i (record { words = []; capacity = 0 })) word

  each_more : (j : ℕ) (f m : PortProgram) → slice_get programs.ports j ≡ Some f → slice_get (set programs.ports i given) j ≡ Some m → HasMoreWords f m
  unfolding given
  each_more j f m here there =
      ⊎_elim
      (λ same.
      let at : slice_get programs.ports i ≡ Some f = subst (λ k. slice_get programs.ports k ≡ Some f) same here in
      let is : given ≡ m = same_Some given m (sym (slice_get-set_same programs.ports i given f at) ∙ subst (λ k. slice_get (set programs.ports i given) k ≡ Some m) same there) in
      let old : get_or programs.ports i (record { words = []; capacity = 0 }) ≡ f = get_or_from_slice_get programs.ports i f (record { words = []; capacity = 0 }) at in
      subst (λ (m : PortProgram). HasMoreWords f m) (ap (λ (x : PortProgram). port_with_word x word) (sym old) ∙ is) (record { capacity = refl; words = (word ∷ [], refl) }))
      (λ other. has_more f m (same_Some f m (sym here ∙ sym (slice_get-set_other programs.ports i j given other) ∙ there)))
      (cases_eq j i)

  pub alike_with : AreAlikeButMoreWords programs (with_word programs i word)
  unfolding given
  alike_with = record { rest = refl; many = sym (length-set programs.ports i given); each = each_more }

-- the set with one word more, and with the end
pub items_more : (programs : ProgramSet) (items : List Item) (port word : ℕ) → has_end items ≡ false
    → with_items programs (items ++ Word port word ∷ []) ≡ with_word (with_items programs items) (port - 2 * tile_count (with_items programs items).topo) word
items_more programs [] port word endless = refl
items_more programs (Word p w ∷ items) port word endless = items_more (with_word programs (p - 2 * tile_count programs.topo) w) items port word endless
items_more programs (End ∷ items) port word endless = absurd (true≢false endless)

pub items_end : (programs : ProgramSet) (items : List Item) → has_end items ≡ false → with_items programs (items ++ End ∷ []) ≡ with_items programs items
items_end programs [] endless = refl
items_end programs (Word p w ∷ items) endless = items_end (with_word programs (p - 2 * tile_count programs.topo) w) items endless
items_end programs (End ∷ items) endless = absurd (true≢false endless)

-- what comes out with more words
pub after_append : (programs : ProgramSet) (xs ys : List Item) → has_end xs ≡ false → words_after programs (xs ++ ys) ≡ words_after programs xs ++ words_after (with_items programs xs) ys
after_append programs [] ys endless = refl
after_append programs (Word port word ∷ xs) ys endless =
    let next = with_put programs port word in
    ap (λ l. new_words programs next ++ l) (after_append next xs ys endless) ∙ sym (append_assoc (new_words programs next) (words_after next xs) (words_after (with_items next xs) ys))
after_append programs (End ∷ xs) ys endless = absurd (true≢false endless)

pub live_append : (programs : ProgramSet) (xs ys : List Item) → has_end xs ≡ false → live_items programs (xs ++ ys) ≡ live_items programs xs ++ words_after (with_items programs xs) ys
live_append programs xs ys endless =
    ap (λ l. first_words programs ++ l) (after_append programs xs ys endless) ∙ sym (append_assoc (first_words programs) (words_after programs xs) (words_after (with_items programs xs) ys))

-- one word more, and the end
pub live_more : (first programs : ProgramSet) (old new : List Item) (item : Item) (port word : ℕ) → has_end old ≡ false → programs ≡ with_items first old → new ≡ old ++ item ∷ [] → item ≡ Word port word
    → live_items first old ++ new_words programs (with_put programs port word) ≡ live_items first new
live_more first programs old new item port word endless e put is =
    let last : words_after (with_items first old) (Word port word ∷ []) ≡ new_words programs (with_put programs port word) =
    append-nil (new_words (with_items first old) (with_put (with_items first old) port word)) ∙ ap (λ (x : ProgramSet). new_words x (with_put x port word)) (sym e) in
    ap (λ l. live_items first old ++ l) (sym last) ∙ sym (live_append first old (Word port word ∷ []) endless) ∙ ap (live_items first) (sym (put ∙ ap (λ x. old ++ x ∷ []) is))

pub live_end : (first : ProgramSet) (old new : List Item) (item : Item) → has_end old ≡ false → new ≡ old ++ item ∷ [] → item ≡ End → live_items first old ≡ live_items first new
live_end first old new item endless put is =
    sym (append-nil (live_items first old)) ∙ sym (live_append first old (End ∷ []) endless) ∙ ap (live_items first) (sym (put ∙ ap (λ x. old ++ x ∷ []) is))

pub word_fed : (first programs : ProgramSet) (old new : List Item) (item : Item) (port word : ℕ) → has_end old ≡ false → programs ≡ with_items first old → new ≡ old ++ item ∷ [] → item ≡ Word port word
    → with_word programs (port - 2 * tile_count programs.topo) word ≡ with_items first new
word_fed first programs old new item port word endless e put is =
    ap (λ (x : ProgramSet). with_word x (port - 2 * tile_count x.topo) word) e ∙ sym (items_more first old port word endless) ∙ ap (with_items first) (sym (put ∙ ap (λ x. old ++ x ∷ []) is))

pub end_fed : (first : ProgramSet) (old new : List Item) (item : Item) → has_end old ≡ false → new ≡ old ++ item ∷ [] → item ≡ End → with_items first old ≡ with_items first new
end_fed first old new item endless put is = sym (items_end first old endless) ∙ ap (with_items first) (sym (put ∙ ap (λ x. old ++ x ∷ []) is))

-- what was all that the sinks had is no more than they have after more steps
pub sent_grown : (programs : ProgramSet) (old new : Parts) (sent : List ℕ) → AreAll sent (map local_of old.processors.items)
    → Leads programs (made_of programs old).state (made_of programs new).state → AreNoMore sent (map local_of new.processors.items)
sent_grown programs old new sent all led =
    let was : ℕ → List ℕ = got_from (map local_of old.processors.items) in
    let is : ℕ → List ℕ = got_from (map local_of new.processors.items) in
    let grows : (q : ℕ) → IsPrefix (was q) (is q) = λ q. front_from (was q) (is q) led
    (λ (r : (steps : List ℕ) × LeadsBy programs (made_of programs old).state (made_of programs new).state steps).
    subst (λ (s : MachineState). IsPrefix (was q) (got_at s q)) r.1.there (end_grows programs (made_of programs old).state r.0 q)) in
    λ q. omega (arith, all q, ap length (grows q).1, length-append (was q) (grows q).0)

-- a machine that was made of parts, ran to rest and was taken apart
pub settled_rest : (programs : ProgramSet) (last : Running) (new : Parts) → last.set ≡ programs → IsMadeOf last new → IsQuiet last.set last.state → IsWhole last.set new → AreAtRest programs new
settled_rest programs last new same made quiet whole =
    subst (λ g. AreAtRest g new) same (record { whole = whole; quiet = subst (IsQuiet last.set) (ap (λ (m : Running). m.state) made) quiet })

pub settled_led : (programs : ProgramSet) (first last : Running) (old lent new : Parts) → lent ≡ old → first.set ≡ programs → IsMadeOf first lent → IsMadeOf last new → Leads first.set first.state last.state
    → Leads programs (made_of programs old).state (made_of programs new).state
settled_led programs first last old lent new is same made there led =
    let from : first.state ≡ (made_of programs old).state = ap (λ (m : Running). m.state) made ∙ ap (λ (parts : Parts). (made_of programs parts).state) is in
    let to : last.state ≡ (made_of programs new).state = ap (λ (m : Running). m.state) there in
    subst (λ s. Leads programs (made_of programs old).state s) to (subst (λ s. Leads programs s last.state) from (subst (λ g. Leads g first.state last.state) same led))

-- and after a word was fed
pub next_sent : (old new : Engine) (port word : ℕ) → Rests old → FedWith old new port word → HasSentSome new
next_sent old new port word rests fed =
    let same : new.sent.items ≡ old.sent.items = ap (λ (v : Vec ℕ Global). v.items) fed.sent in
    record {
      rest = fed.rest;
      each = ap length same ∙ rests.each ∙ rests.rest.whole.each ∙ ap (λ (g : ProgramSet). proc_count g.topo) (sym fed.set) ∙ sym fed.rest.whole.each;
      sent = subst (λ l. AreNoMore l (map local_of new.parts.processors.items)) (sym same) (sent_grown new.set old.parts new.parts old.sent.items rests.sent fed.led);
    }

-- The machine of a set that is at rest has of each sink what there is at the rest of the set.
module _ (programs : ProgramSet) (parts : Parts) (rest : AreAtRest programs parts) (valid : IsSet programs) where
  abbrev state : MachineState
  state = (made_of programs parts).state

  same_rests : (steps : List ℕ) → IsRunBy (made_of programs parts) steps → rest_of programs ≡ state
  same_rests steps r =
      let run = serial_rests programs valid in
      same_rest programs valid (start programs) steps (serial programs) (record { lawful = r.lawful; quiet = subst (IsQuiet programs) (sym r.there) rest.quiet })
      (record { lawful = run.lawful; quiet = run.quiet })
      ∙ r.there

  pub same_got : (p : ℕ) → got_at state p ≡ got_at (rest_of programs) p
  same_got p = ∥∥₁_elim rest.whole.reached (is_set ℕ_set _ _) (λ (r : (steps : List ℕ) × IsRunBy (made_of programs parts) steps). ap (λ s. got_at s p) (sym (same_rests r.0 r.1)))

  -- and ends alike
  pub same_outcome : ending_of (outcome programs state) ≡ ending_at programs
  same_outcome =
      same_ending _ _
      (∥∥₁_elim rest.whole.reached (ℕ_set _ _)
      (λ (r : (steps : List ℕ) × IsRunBy (made_of programs parts) steps). ap (λ s. number_of (ending_of (outcome programs s))) (sym (same_rests r.0 r.1))))

-- what was handed on of a machine at rest
pub handed_on : {T E : Type 0} (engine : Engine) (rest : AreAtRest engine.set engine.parts) (valid : IsSet engine.set) (processors : List Processor) → processors ≡ engine.parts.processors.items
    → (many : ℕ) → many ≡ proc_count engine.set.topo → (old new : List Item) (result : Result T E)
    → PutsItems (words_behind many (λ q. slice_index engine.sent.items q) (got_from (map local_of processors))) old new result
    → PutsItems (words_behind (proc_count engine.set.topo) (λ q. slice_index engine.sent.items q) (got_at (rest_of engine.set))) old new result
handed_on engine rest valid processors same many are old new result puts =
    let counts : ℕ → ℕ = λ q. slice_index engine.sent.items q in
    puts_same _ _ old new result
    (ap (λ n. words_behind n counts (got_from (map local_of processors))) are
    ∙ behind_same (proc_count engine.set.topo) counts counts (got_from (map local_of processors)) (got_at (rest_of engine.set)) (λ p. refl)
    (λ p. ap (λ l. got_from (map local_of l) p) same ∙ same_got engine.set engine.parts rest valid p))
    puts

-- and after a word was fed
pub next_put : {T E : Type 0} (old new : Engine) (port word : ℕ) → Rests old → FedWith old new port word → (before put : List Item) (result : Result T E)
    → PutsItems (words_behind (proc_count new.set.topo) (λ q. slice_index new.sent.items q) (got_at (rest_of new.set))) before put result
    → PutsItems (new_words old.set (with_put old.set port word)) before put result
next_put old new port word rests fed before put result puts =
    let counts : ℕ → ℕ = λ q. slice_index new.sent.items q in
    let sent : (p : ℕ) → counts p ≡ length (got_at (rest_of old.set) p) =
    λ p. ap (λ (v : Vec ℕ Global). slice_index v.items p) fed.sent ∙ rests.sent p ∙ ap length (same_got old.set old.parts rests.rest rests.valid p) in
    puts_same _ _ before put result
    (behind_same (proc_count new.set.topo) counts (λ p. length (got_at (rest_of old.set) p)) (got_at (rest_of new.set)) (got_at (rest_of new.set)) sent (λ p. refl)
    ∙ ap (new_words old.set) fed.set)
    puts

-- what was run, with the end behind it
pub ran_ended : (first : ProgramSet) (engine : Engine) (taken old new : List Item) (ran result : Result Finish AllocError) → RunsAs first engine taken old ran → EndedAs old new ran result → Runs first engine taken new result
ran_ended first engine taken old new ran (Ok Ended) h e =
    let r = subst (λ x. RunsAs first engine taken old x) e.0 h in (r.0, r.1, r.2, e.1 ∙ ap (λ l. l ++ End ∷ []) r.3)
ran_ended first engine taken old new ran (Ok HungUp) h e =
    subst (λ l. BeginsItems l (live_items first taken)) (sym e.1) (subst (λ x. RunsAs first engine taken old x) e.0 h)
ran_ended first engine taken old new (Ok Ended) (Err x) h e = record { rest = []; is = sym h.3 ∙ sym e ∙ sym (append-nil new) }
ran_ended first engine taken old new (Ok HungUp) (Err x) h e = subst (λ l. BeginsItems l (live_items first taken)) (sym e) h
ran_ended first engine taken old new (Err y) (Err x) h e = subst (λ l. BeginsItems l (live_items first taken)) (sym e) h
