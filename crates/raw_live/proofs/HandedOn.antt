-- The words that processors have more, put one processor after another.
use Rattle.std.proofs.Common.{◌≡◌, ℕ, zero, suc, ◌+◌, ◌-◌, ◌<◌, ◌≤◌, List, [], ◌∷◌, ◌++◌, length, map, take, drop, get_or, Option, Some, refl, sym, ap, subst, ◌∙◌, append_assoc, arith, ⊎_elim}
use Rattle.std.specs.Prelude.{slice_get, slice_index, set}
use Rattle.std.proofs.lemmas.Bool.{cases_eq, cases_lt}
use Rattle.std.proofs.lemmas.List.{take-append-drop, take_more, get_or-set_same, get_or-set_other, get_or_default, get_or_past}
use Rattle.std.specs.Option.{option_map}
use Rattle.std.proofs.lemmas.Option.{slice_get_past, slice_get-map, slice_get_read}
use Rattle.raw_processor.specs.declared.processor.Processor.{Processor}
use Rattle.raw_processor.specs.Processor.{local_of}
use Rattle.raw_model.specs.Local.{Local}
use Rattle.raw_model.specs.Parts.{got_of}
use Rattle.raw_queue.specs.declared.item.Item.{Item}
use Rattle.raw_queue.specs.declared.item.Item.TheVariants.{Word}
use Rattle.raw_live_text.specs.Feeding.{BeginsItems}
use Rattle.raw_live_text.proofs.Feeds.{begins_same, begins_over}
use Rattle.raw_live.specs.Engine.{got_from, words_to, AreAll, AreNoMore}
use Rattle.raw_live.specs.Due.{words_behind}

to-append : (port : ℕ) (xs ys : List ℕ) → words_to port (xs ++ ys) ≡ words_to port xs ++ words_to port ys
to-append port [] ys = refl
to-append port (x ∷ xs) ys = ap (λ l. Word port x ∷ l) (to-append port xs ys)

-- one word more
pub to_more : (port : ℕ) (words : List ℕ) (n : ℕ) (items now : List Item) (old : List Item) → n < length words → items ≡ old ++ words_to port (take n words)
    → now ≡ items ++ Word port (get_or words n 0) ∷ [] → now ≡ old ++ words_to port (take (n + 1) words)
to_more port words n items now old within e f =
    f ∙ ap (λ l. l ++ Word port (get_or words n 0) ∷ []) e ∙ append_assoc old (words_to port (take n words)) (Word port (get_or words n 0) ∷ [])
    ∙ ap (λ l. old ++ l) (sym (to-append port (take n words) (get_or words n 0 ∷ [])) ∙ ap (words_to port) (sym (take_more words n 0 within)))

-- behind the same items
pub begins_behind : (front xs ys : List Item) → BeginsItems xs ys → BeginsItems (front ++ xs) (front ++ ys)
begins_behind front xs ys b = record { rest = b.rest; is = ap (λ l. front ++ l) b.is ∙ sym (append_assoc front xs b.rest) }

-- one processor more
behind_next : (n : ℕ) (counts : ℕ → ℕ) (words : ℕ → List ℕ) → words_behind (n + 1) counts words ≡ words_behind n counts words ++ words_to n (drop (counts n) (words n))
behind_next n counts words = let e : n + 1 ≡ suc n = omega arith in ap (λ k. words_behind k counts words) e

-- those of fewer processors come first
behind_begins : (n more : ℕ) (counts : ℕ → ℕ) (words : ℕ → List ℕ) → BeginsItems (words_behind n counts words) (words_behind (n + more) counts words)
behind_begins n zero counts words = let e : n ≡ n + 0 = omega arith in subst (λ k. BeginsItems (words_behind n counts words) (words_behind k counts words)) e (begins_same (words_behind n counts words))
behind_begins n (suc more) counts words =
    let e : suc (n + more) ≡ n + suc more = omega arith in
    subst (λ k. BeginsItems (words_behind n counts words) (words_behind k counts words)) e
    (begins_over _ _ _ (behind_begins n more counts words) (record { rest = words_to (n + more) (drop (counts (n + more)) (words (n + more))); is = refl }))

-- of the same counts and words
pub behind_same : (n : ℕ) (a b : ℕ → ℕ) (v w : ℕ → List ℕ) → ((p : ℕ) → a p ≡ b p) → ((p : ℕ) → v p ≡ w p) → words_behind n a v ≡ words_behind n b w
behind_same zero a b v w counts words = refl
behind_same (suc n) a b v w counts words =
    ap (λ l. l ++ words_to n (drop (a n) (v n))) (behind_same n a b v w counts words) ∙ ap (λ l. words_behind n b w ++ words_to n l) (ap (λ k. drop k (v n)) (counts n) ∙ ap (drop (b n)) (words n))

-- all that processor p has more was put behind what those below it have more
module _ (locals : List Local) (first old : List Item) (before sent : List ℕ) (p : ℕ) (l : Local) (from : ℕ) (here : p < length sent) (at : slice_get locals p ≡ Some l) (read : from ≡ get_or sent p from)
    (same : slice_index sent p ≡ slice_index before p) (is : old ≡ first ++ words_behind p (λ q. slice_index before q) (got_from locals)) where
  abbrev more : List ℕ
  more = drop (slice_index before p) (got_from locals p)

  the_rest : drop from (got_of (Some l)) ≡ more
  the_rest = ap (λ n. drop n (got_of (Some l))) (read ∙ sym (get_or_default sent p 0 from here) ∙ same) ∙ ap (λ (o : Option Local). drop (slice_index before p) (got_of o)) (sym at)

  pub put_more : (new : List Item) → new ≡ old ++ words_to p (drop from (got_of (Some l))) → new ≡ first ++ words_behind (p + 1) (λ q. slice_index before q) (got_from locals)
  put_more new e =
      e ∙ ap (λ words. old ++ words_to p words) the_rest ∙ ap (λ l. l ++ words_to p more) is ∙ append_assoc first (words_behind p (λ q. slice_index before q) (got_from locals)) (words_to p more)
      ∙ ap (λ l. first ++ l) (sym (behind_next p (λ q. slice_index before q) (got_from locals)))

  -- or a front of it
  pub put_part : (new : List Item) (n all : ℕ) → p < all → new ≡ old ++ words_to p (take n (drop from (got_of (Some l)))) → BeginsItems new (first ++ words_behind all (λ q. slice_index before q) (got_from locals))
  put_part new n all within e =
      let before_p = words_behind p (λ q. slice_index before q) (got_from locals) in
      let part = words_to p (take n more) in
      let is_part : new ≡ first ++ (before_p ++ part) = e ∙ ap (λ words. old ++ words_to p (take n words)) the_rest ∙ ap (λ l. l ++ part) is ∙ append_assoc first before_p part in
      let own : BeginsItems part (words_to p more) = record { rest = words_to p (drop n more); is = ap (words_to p) (sym (take-append-drop n more)) ∙ to-append p (take n more) (drop n more) } in
      let next : BeginsItems (before_p ++ part) (words_behind (p + 1) (λ q. slice_index before q) (got_from locals)) =
      subst (BeginsItems (before_p ++ part)) (sym (behind_next p (λ q. slice_index before q) (got_from locals))) (begins_behind before_p part (words_to p more) own) in
      let e_all : p + 1 + (all - (p + 1)) ≡ all = omega (arith, within) in
      let whole : BeginsItems (before_p ++ part) (words_behind all (λ q. slice_index before q) (got_from locals)) =
      begins_over _ _ _ next (subst (λ k. BeginsItems (words_behind (p + 1) (λ q. slice_index before q) (got_from locals)) (words_behind k (λ q. slice_index before q) (got_from locals))) e_all (behind_begins (p + 1) (all - (p + 1)) (λ q. slice_index before q) (got_from locals))) in
      subst (λ l. BeginsItems l (first ++ words_behind all (λ q. slice_index before q) (got_from locals))) (sym is_part) (begins_behind first (before_p ++ part) (words_behind all (λ q. slice_index before q) (got_from locals)) whole)

-- so many of the processor that is looked at were handed on
pub no_more : (locals : List Local) (before sent : List ℕ) (p from : ℕ) (l : Local) → p < length sent → slice_get locals p ≡ Some l → from ≡ get_or sent p from → slice_index sent p ≡ slice_index before p → AreNoMore before locals
    → from ≤ length (got_of (Some l))
no_more locals before sent p from l here at read same few =
    let is : from ≡ slice_index before p = read ∙ sym (get_or_default sent p 0 from here) ∙ same in
    let n = few p in
    omega (arith, is, n, ap (λ (o : Option Local). length (got_of o)) at)

-- one processor more was looked at
pub one_done : (locals : List Local) (sent : List ℕ) (p count : ℕ) (l : Local) → p < length sent → slice_get locals p ≡ Some l → count ≡ length (got_of (Some l))
    → ((q : ℕ) → q < p → slice_index sent q ≡ length (got_from locals q)) → (q : ℕ) → q < p + 1 → slice_index (set sent p count) q ≡ length (got_from locals q)
one_done locals sent p count l here at is done q within =
    ⊎_elim {C = slice_index (set sent p count) q ≡ length (got_from locals q)}
    (λ same. subst (λ r. slice_index (set sent p count) r ≡ length (got_from locals r)) (sym same)
    (get_or-set_same sent p count 0 here ∙ is ∙ ap (λ (o : Option Local). length (got_of o)) (sym at)))
    (λ other. get_or-set_other sent p q count 0 other ∙ done q (omega (arith, within, other)))
    (cases_eq q p)

pub others_stay : (sent before : List ℕ) (p count : ℕ) → ((q : ℕ) → p ≤ q → slice_index sent q ≡ slice_index before q) → (q : ℕ) → p + 1 ≤ q → slice_index (set sent p count) q ≡ slice_index before q
others_stay sent before p count later q past =
    let other : q ≡ p → ⊥ = λ same. absurd (omega (arith, past, same)) in get_or-set_other sent p q count 0 other ∙ later q (omega (arith, past))

pub local_at : (processors : List Processor) (n p : ℕ) (x : Processor) → n ≡ length processors → p < n → x ≡ get_or processors p x → slice_get (map local_of processors) p ≡ Some (local_of x)
local_at processors n p x many within e = slice_get-map local_of processors p ∙ ap (option_map local_of) (slice_get_read processors n p x many within e)

-- every processor was looked at
pub all_sent : (locals : List Local) (sent : List ℕ) → length sent ≡ length locals → ((p : ℕ) → p < length locals → slice_index sent p ≡ length (got_from locals p)) → AreAll sent locals
all_sent locals sent each done = λ p. ⊎_elim {C = slice_index sent p ≡ length (got_from locals p)}
    (λ within. done p within)
    (λ past. get_or_past sent p 0 (omega (arith, past, each)) ∙ ap (λ (o : Option Local). length (got_of o)) (sym (slice_get_past locals p past)))
    (cases_lt p (length locals))
