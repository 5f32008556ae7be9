-- A processor of a pass after its turn.
use Rattle.std.proofs.Common.{◌≡◌, ℕ, ◌+◌, false, Option, List, [], ◌∷◌, ◌++◌, length, refl, sym, ap, ◌∙◌, subst, append-nil, append_assoc, arith}
use Rattle.std.specs.List.{concat}
use Rattle.std.proofs.lemmas.List.{length-map}
use Rattle.std.proofs.lemmas.List.Folds.{concat-append}
use Rattle.raw_model.specs.Program.{IsSet}
use Rattle.raw_model.specs.Local.{Tile, TileLocal, steps_of}
use Rattle.raw_model.specs.TileTable.{next_instruction}
use Rattle.raw_model.specs.Machine.{machine_of, is_stopped, takes, tile_code}
use Rattle.raw_model.specs.Start.{IsFit}
use Rattle.raw_model.specs.Cache.{HeldLines, StandsFor, misses, stream_of}
use Rattle.raw_model.proofs.Fitting.{invariant}
use Rattle.raw_model.proofs.Finite.{tile_counts}
use Rattle.raw_processor.specs.declared.processor.Processor.{Processor}
use Rattle.raw_processor.specs.Processor.{local_of, cache_of, misses_of, owed_of, IsKept, HasFewMisses}
use Rattle.raw_processor.specs.Touching.{owed_after}
use Rattle.raw_fabric_rule.specs.Views.{About, Hold, View}
use Rattle.raw_fabric_rule.specs.ByEnds.{needs, next_local, consumer_end}
use Rattle.raw_fabric_rule.specs.Word.{pack}
use Rattle.raw_fabric_rule.proofs.ByKind.{next_tile}
use Rattle.raw_fabric_step.specs.Units.{mine, IsLooked, IsReady}
use Rattle.raw_fabric_step.specs.Fired.{HasStepped}
use Rattle.raw_fabric_step.proofs.Rows.{idle_looked}
use Rattle.raw_fabric.specs.Holding.{CountsTouches, OwesSince, IsUnitOf}

-- ---- touches
concat_more : (before after : List (List ℕ)) (t : List ℕ) → after ≡ before ++ t ∷ [] → concat after ≡ concat before ++ t
concat_more before after t is = ap concat is ∙ concat-append before (t ∷ []) ∙ ap (λ l. concat before ++ l) (append-nil t)

pub counts_more : (about : About) (p : ℕ) (before after : List (List ℕ)) (t : List ℕ) (old new : List HeldLines) (m n : ℕ) → after ≡ before ++ t ∷ []
    → ((earlier : List ℕ) → StandsFor old earlier → StandsFor new (earlier ++ t))
    → ((earlier : List ℕ) → StandsFor old earlier → misses (earlier ++ t) + m ≡ misses earlier + n)
    → CountsTouches about p (concat before) old m → CountsTouches about p (concat after) new n
counts_more about p before after t old new m n is stands missed c =
    let joined : (earlier : List ℕ) → (earlier ++ concat before) ++ t ≡ earlier ++ concat after =
    λ earlier. append_assoc earlier (concat before) t ∙ ap (λ l. earlier ++ l) (sym (concat_more before after t is)) in
    record {
      stands = λ earlier s. subst (StandsFor new) (joined earlier) (stands (earlier ++ concat before) (c.stands earlier s));
      missed_is = λ earlier s.
          let a = c.missed_is earlier s in
          let b = missed (earlier ++ concat before) (c.stands earlier s) in
          let same : misses ((earlier ++ concat before) ++ t) ≡ misses (earlier ++ concat after) = ap misses (joined earlier) in
          omega arith;
    }

pub counts_none : (about : About) (p : ℕ) (before after : List (List ℕ)) (cache : List HeldLines) (m : ℕ) → after ≡ before ++ [] ∷ []
    → CountsTouches about p (concat before) cache m → CountsTouches about p (concat after) cache m
counts_none about p before after cache m is c = subst (λ l. CountsTouches about p l cache m) (sym (concat_more before after [] is ∙ append-nil (concat before))) c

-- ---- stall turns
some : (before : List (List ℕ)) (t : List ℕ) → before ++ t ∷ [] ≡ [] → ⊥
some [] t e = cc e
some (xs ∷ before) t e = cc e

same_front : (xs ys : List (List ℕ)) (x y : List ℕ) → xs ++ x ∷ [] ≡ ys ++ y ∷ [] → xs ≡ ys
same_front [] [] x y e = refl
same_front [] (b ∷ ys) x y e = let rest : [] ≡ ys ++ y ∷ [] = cc e in absurd (some ys y (sym rest))
same_front (a ∷ xs) [] x y e = let rest : xs ++ x ∷ [] ≡ [] = cc e in absurd (some xs x rest)
same_front (a ∷ xs) (b ∷ ys) x y e =
    let first : a ≡ b = cc e in
    let rest : xs ++ x ∷ [] ≡ ys ++ y ∷ [] = cc e in
    let fronts = same_front xs ys x y rest in
    λ i. first i ∷ fronts i

-- a step costs what its miss costs, where so often was missed before it and after it
pub owes_more : (about : About) (p : ℕ) (before after : List (List ℕ)) (t : List ℕ) (old new : List HeldLines) (m n owed : ℕ) → after ≡ before ++ t ∷ []
    → CountsTouches about p (concat before) old m → CountsTouches about p (concat after) new n → owed ≡ owed_after (stream_of about.set p) m n
    → OwesSince about p after owed
owes_more about p before after t old new m n owed is b a cost = record {
  none = λ e. absurd (some before t (sym is ∙ e));
  last = λ front own e earlier s missed.
      let fronts = same_front before front t own (sym is ∙ e) in
      let was = b.missed_is earlier s in
      let now = a.missed_is earlier s in
      let before_is : m ≡ misses (earlier ++ concat before) = omega (arith, was, missed) in
      let after_is : n ≡ misses (earlier ++ concat after) = omega (arith, now, missed) in
      let is : owed ≡ owed_after (stream_of about.set p) (misses (earlier ++ concat front)) (misses (earlier ++ concat after)) =
      cost ∙ (λ i. owed_after (stream_of about.set p) (before_is i) (after_is i))
      ∙ ap (λ l. owed_after (stream_of about.set p) (misses (earlier ++ concat l)) (misses (earlier ++ concat after))) fronts in
      omega arith;
}

pub owes_nothing : (about : About) (p : ℕ) (touched : List (List ℕ)) → OwesSince about p touched 0
owes_nothing about p touched = record { none = λ e. omega arith; last = λ front own e earlier s missed. omega arith }

-- ---- after a step
module _ (about : About) (is : IsSet about.set) (p i status : ℕ) (x y : Processor) (touched : Option ℕ) (v w : View) (u : IsUnitOf about p x (mine v i))
    (going : is_stopped about.set p (local_of x) ≡ false) (h : HasStepped about p i status (local_of y) touched v w) where
  many : length h.values ≡ length (takes about.set p (local_of x))
  unfolding needs
  many =
      h.has_fired.many ∙ ap (λ l. length (needs about.set p l)) u.local_is ∙ length-map (takes about.set p (local_of x)) (consumer_end about.set)

  fits_after : IsFit about.set p (local_of y)
  unfolding next_local machine_of
  fits_after =
      subst (IsFit about.set p)
      (ap (λ l. next_local about.set p l h.values) (sym u.local_is) ∙ sym h.has_fired.local_is ∙ h.now_is)
      ((invariant about.set is).next p (local_of x) h.values u.fits going many h.has_fired.words)

  pub unit_stepped : IsKept about.set p y → HasFewMisses y → CountsTouches about p (concat (mine w i).touches) (cache_of y) (misses_of y) → OwesSince about p (mine w i).touches (owed_of y)
      → IsUnitOf about p y (mine w i)
  unit_stepped kept few counts owes = record {
    local_is = h.now_is;
    kept = kept;
    fits = fits_after;
    few = few;
    counts_touches = counts;
    owes = owes;
    idle = h.has_fired.idle;
  }

-- a tile has executed one instruction more
pub tile_counted : (about : About) (p i status : ℕ) (l next : TileLocal) (touched : Option ℕ) (v w : View) → (mine v i).local ≡ Tile l → HasStepped about p i status (Tile next) touched v w
    → next.count ≡ l.count + 1
tile_counted about p i status l next touched v w local_is h =
    ap steps_of (sym h.now_is ∙ h.has_fired.local_is ∙ ap (λ k. next_local about.set p k h.values) local_is ∙ next_tile about.set p l h.values)
    ∙ tile_counts (next_instruction (tile_code about.set p) l) _ l _ _

-- ---- after a look
pub unit_looked : (about : About) (p : ℕ) (x : Processor) (u z : Hold) → IsLooked about p u z → IsUnitOf about p x u → IsUnitOf about p x z
unit_looked about p x u z l is = record {
  local_is = l.local_same ∙ is.local_is;
  kept = is.kept;
  fits = is.fits;
  few = is.few;
  counts_touches = subst (λ t. CountsTouches about p (concat t) (cache_of x) (misses_of x)) (sym l.touches_same) is.counts_touches;
  owes = subst (λ t. OwesSince about p t (owed_of x)) (sym l.touches_same) is.owes;
  idle = idle_looked about p u z is.idle l;
}

pub ready_looked : (about : About) (p status : ℕ) (u z : Hold) → IsLooked about p u z → IsReady status u → IsReady status z
ready_looked about p status u z l ready = record {
  counted = ap length l.counts_same ∙ ready.counted;
  watched = l.long ∙ ready.watched;
  status_is = ready.status_is ∙ ap pack (sym l.counts_same);
}
