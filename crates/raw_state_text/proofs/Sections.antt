-- Texts that are written part by part.
use Rattle.std.proofs.Common.{◌≡◌, ℕ, ◌+◌, ◌<◌, ◌≤◌, List, [], ◌++◌, length, take, drop, get_or, Some, Result, Ok, Err, IsErr, refl, subst, sym, ap, ◌∙◌, arith, append_assoc, append-nil}
use Rattle.std.specs.Prelude.{slice_get}
use Rattle.std.specs.List.{flat_map, range_with_len, enumerate_from}
use Rattle.std.specs.Io.KnownBytes.{Appends}
use Rattle.std.proofs.KnownBytes.{Appends-nil, Appends-trans}
use Rattle.std.proofs.Math.Seq.{take-append_seam}
use Rattle.std.proofs.lemmas.List.{at_drop_more, at_drop_all}
use Rattle.std.proofs.lemmas.List.FromFn.{get_or-range_with_len, length-range_with_len, get_or-enumerate_from, length-enumerate_from}
use Rattle.std.proofs.lemmas.Option.{slice_get_within, get_or_from_slice_get}
use Rattle.raw_io.specs.Causes.{Rose}
use Rattle.raw_io.specs.Sights.{Sight}
use Rattle.raw_io.specs.Writing.{Writes}
use Rattle.raw_io.proofs.Chains.{AppendsProperFront-after}

-- of a whole text all but the rest was written
pub record Begun (old now : Sight) (rest whole : List ℕ) : Type 0 where
  pub text : List ℕ
  pub appended : Appends old.bytes now.bytes text
  pub joined : text ++ rest ≡ whole
  pub later : old.faults ≤ now.faults

-- nothing was written yet
pub nothing_yet : (s : Sight) (whole : List ℕ) → Begun s s whole whole
nothing_yet s whole = record { text = []; appended = Appends-nil s.bytes; joined = refl; later = omega arith }

rose_later : (old mid new : ℕ) → old ≤ mid → mid ≤ new → Rose mid new → Rose old new
rose_later old mid new first second rose = grind arith

-- no part is left
pub all_written : {T E : Type 0} (old now : Sight) (rest whole : List ℕ) (x : T) → Begun old now rest whole → rest ≡ [] → Writes {T = T} {E = E} old now whole (Ok x)
all_written old now rest whole x before is = record {
  ok = subst (λ text. Appends old.bytes now.bytes text) (sym (append-nil before.text) ∙ ap (λ z. before.text ++ z) (sym is) ∙ before.joined) before.appended;
  front = tt;
  fault = tt;
  count = before.later;
}

module _ (old mid new : Sight) (rest next later whole : List ℕ) (before : Begun old mid rest whole) (is : rest ≡ next ++ later) where
  -- the next part was written
  pub one_more : {T E : Type 0} (x : T) → Writes {T = T} {E = E} mid new next (Ok x) → Begun old new later whole
  one_more x more = record {
    text = before.text ++ next;
    appended = Appends-trans old.bytes mid.bytes new.bytes before.text next before.appended more.ok;
    joined = append_assoc before.text next later ∙ ap (λ z. before.text ++ z) (sym is) ∙ before.joined;
    later = omega (arith, before.later, more.count);
  }

  begins : take (length (before.text ++ next)) whole ≡ before.text ++ next
  begins =
      ap (take (length (before.text ++ next)))
      (sym before.joined ∙ ap (λ z. before.text ++ z) is ∙ sym (append_assoc before.text next later))
      ∙ take-append_seam (before.text ++ next) later

  -- the next part failed
  pub failed : {S F T E : Type 0} (e : F) (r : Result T E) → IsErr r → Writes {T = S} {E = F} mid new next (Err e) → Writes old new whole r
  failed e (Ok x) err more = absurd (cc err)
  failed e (Err other) err more = record {
    ok = tt;
    front = AppendsProperFront-after old.bytes mid.bytes new.bytes before.text next whole before.appended more.front begins;
    fault = rose_later old.faults mid.faults new.faults before.later more.count more.fault;
    count = omega (arith, before.later, more.count);
  }

-- the last part is written as the whole is
pub last_part : {T E : Type 0} (old mid new : Sight) (rest next whole : List ℕ) (r : Result T E) → Begun old mid rest whole → rest ≡ next → Writes mid new next r → Writes old new whole r
last_part old mid new rest next whole (Ok x) before is last =
    all_written old new [] whole x (one_more old mid new rest next [] whole before (is ∙ sym (append-nil next)) x last) refl
last_part old mid new rest next whole (Err e) before is last =
    failed old mid new rest next [] whole before (is ∙ sym (append-nil next)) e (Err e) refl last

-- the same text, said in another way
pub same_text : {T E : Type 0} (old new : Sight) (a b : List ℕ) (r : Result T E) → a ≡ b → Writes old new a r → Writes old new b r
same_text old new a b r is written = subst (λ text. Writes old new text r) is written

-- the texts of what is left of a list: that of the next one, and those of the others
pub next_text : {A : Type 0} (f : A → List ℕ) (xs : List A) (i : ℕ) (d : A) → i < length xs → flat_map f (drop i xs) ≡ f (get_or xs i d) ++ flat_map f (drop (i + 1) xs)
next_text f xs i d lt = at_drop_more (flat_map f) xs i d lt

-- past the list nothing is left
pub no_text : {A : Type 0} (f : A → List ℕ) (xs : List A) (i : ℕ) → length xs ≤ i → flat_map f (drop i xs) ≡ []
no_text f xs i le = at_drop_all (flat_map f) xs i le

-- the same of numbers in turn
pub next_number : (f : ℕ → List ℕ) (n i : ℕ) → i < n → flat_map f (drop i (range_with_len 0 n)) ≡ f i ++ flat_map f (drop (i + 1) (range_with_len 0 n))
next_number f n i lt =
    let numbers = range_with_len 0 n in
    let is : get_or numbers i 0 ≡ i = omega (arith, get_or-range_with_len 0 n i 0 lt) in
    subst (λ k. flat_map f (drop i numbers) ≡ f k ++ flat_map f (drop (i + 1) numbers)) is
    (next_text f numbers i 0 (omega (arith, lt, length-range_with_len 0 n)))

pub no_number : (f : ℕ → List ℕ) (n i : ℕ) → n ≤ i → flat_map f (drop i (range_with_len 0 n)) ≡ []
no_number f n i le = no_text f (range_with_len 0 n) i (omega (arith, le, length-range_with_len 0 n))

-- a loop that writes the texts of the things of a list, in turn: those before place i were written
abbrev pub Listed : {A : Type 0} → Sight → Sight → (A → List ℕ) → List A → ℕ → Type 0
Listed old now f xs i = Begun old now (flat_map f (drop i xs)) (flat_map f xs)

pub more_listed : {A T E : Type 0} {old mid new : Sight} (f : A → List ℕ) (xs : List A) {i : ℕ} (d : A) {x : T} → Listed old mid f xs i → i < length xs → Writes {T = T} {E = E} mid new (f (get_or xs i d)) (Ok x) → Listed old new f xs (i + 1)
more_listed f xs {i} d before lt more = one_more _ _ _ _ _ _ _ before (next_text f xs i d lt) _ more

pub failed_listed : {A S F T E : Type 0} {old mid new : Sight} (f : A → List ℕ) (xs : List A) {i : ℕ} (d : A) {e : F} {r : Result T E} → Listed old mid f xs i → i < length xs → Writes {T = S} {E = F} mid new (f (get_or xs i d)) (Err e) → IsErr r → Writes old new (flat_map f xs) r
failed_listed f xs {i} d {e} {r} before lt more err = failed _ _ _ _ _ _ _ before (next_text f xs i d lt) e r err more

pub all_listed : {A T E : Type 0} {old now : Sight} (f : A → List ℕ) (xs : List A) {i : ℕ} {x : T} → Listed old now f xs i → length xs ≤ i → Writes {T = T} {E = E} old now (flat_map f xs) (Ok x)
all_listed f xs {i} before le = all_written _ _ _ _ _ before (no_text f xs i le)

-- the same of the numbers below n
abbrev pub Numbered : Sight → Sight → (ℕ → List ℕ) → ℕ → ℕ → Type 0
Numbered old now f n i = Listed old now f (range_with_len 0 n) i

pub more_numbered : {T E : Type 0} {old mid new : Sight} (f : ℕ → List ℕ) (n i : ℕ) {x : T} → Numbered old mid f n i → i < n → Writes {T = T} {E = E} mid new (f i) (Ok x) → Numbered old new f n (i + 1)
more_numbered f n i before lt more = one_more _ _ _ _ _ _ _ before (next_number f n i lt) _ more

pub failed_numbered : {S F T E : Type 0} {old mid new : Sight} (f : ℕ → List ℕ) (n i : ℕ) {e : F} {r : Result T E} → Numbered old mid f n i → i < n → Writes {T = S} {E = F} mid new (f i) (Err e) → IsErr r → Writes old new (flat_map f (range_with_len 0 n)) r
failed_numbered f n i {e} {r} before lt more err = failed _ _ _ _ _ _ _ before (next_number f n i lt) e r err more

pub all_numbered : {T E : Type 0} {old now : Sight} (f : ℕ → List ℕ) (n i : ℕ) {x : T} → Numbered old now f n i → n ≤ i → Writes {T = T} {E = E} old now (flat_map f (range_with_len 0 n)) (Ok x)
all_numbered f n i before le = all_written _ _ _ _ _ before (no_number f n i le)

-- and of things with their places
pub next_placed : {A : Type 0} (f : ℕ × A → List ℕ) (from : ℕ) (xs : List A) (i : ℕ) (x : A) → slice_get xs i ≡ Some x
    → flat_map f (drop i (enumerate_from from xs)) ≡ f (from + i, x) ++ flat_map f (drop (i + 1) (enumerate_from from xs))
next_placed f from xs i x is =
    let placed = enumerate_from from xs in
    let lt : i < length xs = slice_get_within xs i x is in
    let at : get_or placed i (0, x) ≡ (from + i, x) =
    get_or-enumerate_from from xs i (0, x) lt ∙ ap (λ y. (from + i, y)) (get_or_from_slice_get xs i x x is) in
    subst (λ here. flat_map f (drop i placed) ≡ f here ++ flat_map f (drop (i + 1) placed)) at
    (next_text f placed i (0, x) (omega (arith, lt, length-enumerate_from from xs)))

pub no_placed : {A : Type 0} (f : ℕ × A → List ℕ) (from : ℕ) (xs : List A) (i : ℕ) → length xs ≤ i → flat_map f (drop i (enumerate_from from xs)) ≡ []
no_placed f from xs i le = no_text f (enumerate_from from xs) i (omega (arith, le, length-enumerate_from from xs))

-- seven parts, one after another
pub seven_parts : (a b c d e f g : List ℕ) → a ++ b ++ c ++ d ++ e ++ f ++ g ≡ a ++ (b ++ (c ++ (d ++ (e ++ (f ++ g)))))
seven_parts a b c d e f g =
    append_assoc (a ++ b ++ c ++ d ++ e) f g
    ∙ append_assoc (a ++ b ++ c ++ d) e (f ++ g)
    ∙ append_assoc (a ++ b ++ c) d (e ++ (f ++ g))
    ∙ append_assoc (a ++ b) c (d ++ (e ++ (f ++ g)))
    ∙ append_assoc a b (c ++ (d ++ (e ++ (f ++ g))))
