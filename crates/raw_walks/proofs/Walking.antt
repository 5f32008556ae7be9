-- Walks go where the tree of a haul says.
use Rattle.std.proofs.Common.{◌≡◌, ◌≢◌, ℕ, zero, suc, ◌+◌, ◌-◌, ◌<◌, ◌≤◌, ◌⊎◌, inl, inr, Bool, true, false, cond, ◌&&◌, ◌||◌, ltb, leb, eqb, List, [], ◌∷◌, Some, refl, sym, ap, ◌∙◌, subst, ⊎_elim, arith}
use Rattle.std.specs.Prelude.{◌↔◌, slice_get}
use Rattle.std.specs.List.{list_any}
use Rattle.std.proofs.lemmas.Bool.{cases_eq, cases_lt, lt-ltb, le-ltb, le-leb, eq-eqb, ne_eqb, eqb-true, leb-true, ltb-true, and_parts, and_from, or_left, or_right, false≢true}
use Rattle.std.proofs.lemmas.Option.{same_Some}
use Rattle.raw_grid.specs.declared.parts.Dir.{Dir}
use Rattle.raw_grid.specs.declared.parts.Dir.TheVariants.{N, E, S, W, P}
use Rattle.raw_route.specs.Hauls.{Haulage, Place, place_of}
use Rattle.raw_route.specs.Tree.{is_between, passes, leaves, entered, in_tree}
use Rattle.raw_walks.specs.Walks.{heading, beyond, walked, IsOn, IsOnTree}

-- two places in one column and one row are one
one_place : (p q : Place) → p.x ≡ q.x → p.y ≡ q.y → p ≡ q
one_place p q ex ey = λ i. record { x = ex i; y = ey i }

-- what a direction says of the way to a target
abbrev IsHeaded : Dir → Place → Place → Type 0
IsHeaded N at to = (at.x ≡ to.x) × (to.y < at.y)
IsHeaded E at to = at.x < to.x
IsHeaded S at to = (at.x ≡ to.x) × (at.y < to.y)
IsHeaded W at to = to.x < at.x
IsHeaded P at to = (at.x ≡ to.x) × (at.y ≡ to.y)

headed : (at to : Place) → IsHeaded (heading at to) at to
headed at to =
    ⊎_elim
    (λ (east : at.x < to.x). subst (λ d. IsHeaded d at to) (sym (ap (λ b. cond b E (cond (ltb to.x at.x) W down)) (lt-ltb at.x to.x east))) east)
    (λ (e : to.x ≤ at.x).
    subst (λ d. IsHeaded d at to) (sym (ap (λ b. cond b E (cond (ltb to.x at.x) W down)) (le-ltb at.x to.x e)))
    (⊎_elim
    (λ (west : to.x < at.x). subst (λ d. IsHeaded d at to) (sym (ap (λ b. cond b W down) (lt-ltb to.x at.x west))) west)
    (λ (w : at.x ≤ to.x).
    subst (λ d. IsHeaded d at to) (sym (ap (λ b. cond b W down) (le-ltb to.x at.x w)))
    (let here : at.x ≡ to.x = omega (arith, e, w) in
    ⊎_elim
    (λ (south : at.y < to.y). subst (λ d. IsHeaded d at to) (sym (ap (λ b. cond b S (cond (ltb to.y at.y) N P)) (lt-ltb at.y to.y south))) (here, south))
    (λ (s : to.y ≤ at.y).
    subst (λ d. IsHeaded d at to) (sym (ap (λ b. cond b S (cond (ltb to.y at.y) N P)) (le-ltb at.y to.y s)))
    (⊎_elim
    (λ (north : to.y < at.y). subst (λ d. IsHeaded d at to) (sym (ap (λ b. cond b N P) (lt-ltb to.y at.y north))) (here, north))
    (λ (n : at.y ≤ to.y). subst (λ d. IsHeaded d at to) (sym (ap (λ b. cond b N P) (le-ltb to.y at.y n))) (here, omega (arith, s, n)))
    (cases_lt to.y at.y)))
    (cases_lt at.y to.y)))
    (cases_lt to.x at.x)))
    (cases_lt at.x to.x)
  where
    down : Dir
    down = cond (ltb at.y to.y) S (cond (ltb to.y at.y) N P)

one_heading : (d e : Dir) (at to : Place) → IsHeaded d at to → IsHeaded e at to → d ≡ e
one_heading N N at to h g = refl
one_heading E E at to h g = refl
one_heading S S at to h g = refl
one_heading W W at to h g = refl
one_heading P P at to h g = refl
one_heading N E at to h g = absurd (omega (arith, h.0, g))
one_heading N S at to h g = absurd (omega (arith, h.1, g.1))
one_heading N W at to h g = absurd (omega (arith, h.0, g))
one_heading N P at to h g = absurd (omega (arith, h.1, g.1))
one_heading E N at to h g = absurd (omega (arith, h, g.0))
one_heading E S at to h g = absurd (omega (arith, h, g.0))
one_heading E W at to h g = absurd (omega (arith, h, g))
one_heading E P at to h g = absurd (omega (arith, h, g.0))
one_heading S N at to h g = absurd (omega (arith, h.1, g.1))
one_heading S E at to h g = absurd (omega (arith, h.0, g))
one_heading S W at to h g = absurd (omega (arith, h.0, g))
one_heading S P at to h g = absurd (omega (arith, h.1, g.1))
one_heading W N at to h g = absurd (omega (arith, h, g.0))
one_heading W E at to h g = absurd (omega (arith, h, g))
one_heading W S at to h g = absurd (omega (arith, h, g.0))
one_heading W P at to h g = absurd (omega (arith, h, g.0))
one_heading P N at to h g = absurd (omega (arith, h.1, g.1))
one_heading P E at to h g = absurd (omega (arith, h.0, g))
one_heading P S at to h g = absurd (omega (arith, h.1, g.1))
one_heading P W at to h g = absurd (omega (arith, h.0, g))

-- between two numbers
abbrev Between : ℕ → ℕ → ℕ → Type 0
Between a b n = ((a ≤ n) × (n ≤ b)) ⊎ ((b ≤ n) × (n ≤ a))

-- on the way, in the row of the origin or in the column of the target
abbrev IsPassed : Place → Place → Place → Type 0
IsPassed from to at = ((at.y ≡ from.y) × Between from.x to.x at.x) ⊎ ((at.x ≡ to.x) × Between from.y to.y at.y)

or_cases : (b c : Bool) → (b || c) ≡ true → (b ≡ true) ⊎ (c ≡ true)
or_cases true c e = inl refl
or_cases false c e = inr e

between : (a b n : ℕ) → is_between a b n ≡ true → Between a b n
between a b n e =
    ⊎_elim
    (λ (up : (leb a n && leb n b) ≡ true). let parts = and_parts (leb a n) (leb n b) up in inl (leb-true a n parts.0, leb-true n b parts.1))
    (λ (down : (leb b n && leb n a) ≡ true). let parts = and_parts (leb b n) (leb n a) down in inr (leb-true b n parts.0, leb-true n a parts.1))
    (or_cases (leb a n && leb n b) (leb b n && leb n a) e)

between_from : (a b n : ℕ) → Between a b n → is_between a b n ≡ true
between_from a b n h =
    ⊎_elim
    (λ (up : (a ≤ n) × (n ≤ b)). or_left (leb a n && leb n b) (leb b n && leb n a) (and_from (leb a n) (leb n b) (le-leb a n up.0) (le-leb n b up.1)))
    (λ (down : (b ≤ n) × (n ≤ a)). or_right (leb a n && leb n b) (leb b n && leb n a) (and_from (leb b n) (leb n a) (le-leb b n down.0) (le-leb n a down.1)))
    h

passed : (from to at : Place) → passes from to at ≡ true → IsPassed from to at
passed from to at e =
    ⊎_elim
    (λ (row : (eqb at.y from.y && is_between from.x to.x at.x) ≡ true).
    let parts = and_parts (eqb at.y from.y) (is_between from.x to.x at.x) row in inl (eqb-true at.y from.y parts.0, between from.x to.x at.x parts.1))
    (λ (column : (eqb at.x to.x && is_between from.y to.y at.y) ≡ true).
    let parts = and_parts (eqb at.x to.x) (is_between from.y to.y at.y) column in inr (eqb-true at.x to.x parts.0, between from.y to.y at.y parts.1))
    (or_cases (eqb at.y from.y && is_between from.x to.x at.x) (eqb at.x to.x && is_between from.y to.y at.y) e)

passed_from : (from to at : Place) → IsPassed from to at → passes from to at ≡ true
passed_from from to at h =
    ⊎_elim
    (λ (row : (at.y ≡ from.y) × Between from.x to.x at.x).
    or_left (eqb at.y from.y && is_between from.x to.x at.x) (eqb at.x to.x && is_between from.y to.y at.y)
    (and_from (eqb at.y from.y) (is_between from.x to.x at.x) (eq-eqb at.y from.y row.0) (between_from from.x to.x at.x row.1)))
    (λ (column : (at.x ≡ to.x) × Between from.y to.y at.y).
    or_right (eqb at.y from.y && is_between from.x to.x at.x) (eqb at.x to.x && is_between from.y to.y at.y)
    (and_from (eqb at.x to.x) (is_between from.y to.y at.y) (eq-eqb at.x to.x column.0) (between_from from.y to.y at.y column.1)))
    h

-- the four cases of a place on the way
by_way : (from to at : Place) (Q : Type 0) → IsPassed from to at
    → (at.y ≡ from.y → from.x ≤ at.x → at.x ≤ to.x → Q) → (at.y ≡ from.y → to.x ≤ at.x → at.x ≤ from.x → Q)
    → (at.x ≡ to.x → from.y ≤ at.y → at.y ≤ to.y → Q) → (at.x ≡ to.x → to.y ≤ at.y → at.y ≤ from.y → Q) → Q
by_way from to at Q h east west south north =
    ⊎_elim
    (λ (row : (at.y ≡ from.y) × Between from.x to.x at.x).
    ⊎_elim (λ (up : (from.x ≤ at.x) × (at.x ≤ to.x)). east row.0 up.0 up.1) (λ (down : (to.x ≤ at.x) × (at.x ≤ from.x)). west row.0 down.0 down.1) row.1)
    (λ (column : (at.x ≡ to.x) × Between from.y to.y at.y).
    ⊎_elim (λ (up : (from.y ≤ at.y) × (at.y ≤ to.y)). south column.0 up.0 up.1) (λ (down : (to.y ≤ at.y) × (at.y ≤ from.y)). north column.0 down.0 down.1) column.1)
    h

-- where a direction is that of the way on, the next place is on the way too
on_by : (d : Dir) (from to at : Place) → IsHeaded d at to → IsPassed from to at → IsPassed from to (beyond d at)
on_by E from to at h on =
    by_way from to at _ on
    (λ row low high. inl (row, inl (omega (arith, low), omega (arith, h))))
    (λ row low high. absurd (omega (arith, h, low)))
    (λ column low high. absurd (omega (arith, h, column)))
    (λ column low high. absurd (omega (arith, h, column)))
on_by W from to at h on =
    by_way from to at _ on
    (λ row low high. absurd (omega (arith, h, high)))
    (λ row low high. inl (row, inr (omega (arith, h), omega (arith, high))))
    (λ column low high. absurd (omega (arith, h, column)))
    (λ column low high. absurd (omega (arith, h, column)))
on_by S from to at h on =
    by_way from to at _ on
    (λ row low high. inr (h.0, inl (omega (arith, row), omega (arith, h.1))))
    (λ row low high. inr (h.0, inl (omega (arith, row), omega (arith, h.1))))
    (λ column low high. inr (h.0, inl (omega (arith, low), omega (arith, h.1))))
    (λ column low high. absurd (omega (arith, h.1, low)))
on_by N from to at h on =
    by_way from to at _ on
    (λ row low high. inr (h.0, inr (omega (arith, h.1), omega (arith, row))))
    (λ row low high. inr (h.0, inr (omega (arith, h.1), omega (arith, row))))
    (λ column low high. absurd (omega (arith, h.1, high)))
    (λ column low high. inr (h.0, inr (omega (arith, h.1), omega (arith, high))))
on_by P from to at h on = on

begins_on : (from to : Place) → IsPassed from to from
begins_on from to =
    ⊎_elim
    (λ (up : from.x < to.x). inl (refl, inl (omega arith, omega (arith, up))))
    (λ (down : to.x ≤ from.x). inl (refl, inr (down, omega arith)))
    (cases_lt from.x to.x)

walk_passes : (from to : Place) (k : ℕ) → IsPassed from to (walked from to k)
walk_passes from to zero = begins_on from to
walk_passes from to (suc k) =
    let at = walked from to k in
    on_by (heading at to) from to at (headed at to) (walk_passes from to k)

-- what the direction says from which a place is entered
abbrev IsEntered : Dir → Place → Place → Type 0
IsEntered N from at = from.y < at.y
IsEntered E from at = (at.y ≡ from.y) × (at.x < from.x)
IsEntered S from at = at.y < from.y
IsEntered W from at = (at.y ≡ from.y) × (from.x < at.x)
IsEntered P from at = (at.y ≡ from.y) × (at.x ≡ from.x)

entered_is : (from at : Place) → IsEntered (entered from at) from at
entered_is from at =
    ⊎_elim
    (λ (row : at.y ≡ from.y).
    subst (λ d. IsEntered d from at) (sym (ap (λ b. cond b side (cond (ltb from.y at.y) N S)) (eq-eqb at.y from.y row)))
    (⊎_elim
    (λ (same : at.x ≡ from.x). subst (λ d. IsEntered d from at) (sym (ap (λ b. cond b P (cond (ltb from.x at.x) W E)) (eq-eqb at.x from.x same))) (row, same))
    (λ (other : at.x ≡ from.x → ⊥).
    subst (λ d. IsEntered d from at) (sym (ap (λ b. cond b P (cond (ltb from.x at.x) W E)) (ne_eqb at.x from.x other)))
    (⊎_elim
    (λ (west : from.x < at.x). subst (λ d. IsEntered d from at) (sym (ap (λ b. cond b W E) (lt-ltb from.x at.x west))) (row, west))
    (λ (east : at.x ≤ from.x). subst (λ d. IsEntered d from at) (sym (ap (λ b. cond b W E) (le-ltb from.x at.x east))) (row, omega (arith, east, other)))
    (cases_lt from.x at.x)))
    (cases_eq at.x from.x)))
    (λ (column : at.y ≡ from.y → ⊥).
    subst (λ d. IsEntered d from at) (sym (ap (λ b. cond b side (cond (ltb from.y at.y) N S)) (ne_eqb at.y from.y column)))
    (⊎_elim
    (λ (north : from.y < at.y). subst (λ d. IsEntered d from at) (sym (ap (λ b. cond b N S) (lt-ltb from.y at.y north))) north)
    (λ (south : at.y ≤ from.y). subst (λ d. IsEntered d from at) (sym (ap (λ b. cond b N S) (le-ltb from.y at.y south))) (omega (arith, south, column)))
    (cases_lt from.y at.y)))
    (cases_eq at.y from.y)
  where
    side : Dir
    side = cond (eqb at.x from.x) P (cond (ltb from.x at.x) W E)

-- the place before one on the way: it is on the way too, from it the way leads on to that place, and it is nearer to the origin
record IsBefore (from to at before : Place) : Type 0 where
  on : IsPassed from to before
  next : (d : Dir) × IsHeaded d before to × (beyond d before ≡ at)

abbrev apart : ℕ → ℕ → ℕ
apart a b = (a - b) + (b - a)

abbrev far : Place → Place → ℕ
far from at = apart from.x at.x + apart from.y at.y

before_by : (d : Dir) (from to at : Place) → IsEntered d from at → IsPassed from to at → at ≢ from
    → IsBefore from to at (beyond d at) × (far from (beyond d at) + 1 ≡ far from at)
before_by W from to at h on ne =
    by_way from to at _ on
    (λ row low high. (record { on = inl (row, inl (omega (arith, h.1), omega (arith, high))); next = (E, omega (arith, h.1, high), one_place _ at (omega (arith, h.1)) refl) }, omega (arith, h.1)))
    (λ row low high. absurd (omega (arith, h.1, high)))
    (λ column low high.
    (record { on = inl (h.0, inl (omega (arith, h.1), omega (arith, column))); next = (E, omega (arith, h.1, column), one_place _ at (omega (arith, h.1)) refl) }, omega (arith, h.1)))
    (λ column low high.
    (record { on = inl (h.0, inl (omega (arith, h.1), omega (arith, column))); next = (E, omega (arith, h.1, column), one_place _ at (omega (arith, h.1)) refl) }, omega (arith, h.1)))
before_by E from to at h on ne =
    by_way from to at _ on
    (λ row low high. absurd (omega (arith, h.1, low)))
    (λ row low high. (record { on = inl (row, inr (omega (arith, low), omega (arith, h.1))); next = (W, omega (arith, low), one_place _ at (omega arith) refl) }, omega (arith, h.1)))
    (λ column low high.
    (record { on = inl (h.0, inr (omega (arith, column), omega (arith, h.1))); next = (W, omega (arith, column), one_place _ at (omega arith) refl) }, omega (arith, h.1)))
    (λ column low high.
    (record { on = inl (h.0, inr (omega (arith, column), omega (arith, h.1))); next = (W, omega (arith, column), one_place _ at (omega arith) refl) }, omega (arith, h.1)))
before_by N from to at h on ne =
    by_way from to at _ on
    (λ row low high. absurd (omega (arith, h, row)))
    (λ row low high. absurd (omega (arith, h, row)))
    (λ column low high. (record { on = inr (column, inl (omega (arith, h), omega (arith, high))); next = (S, (column, omega (arith, h, high)), one_place _ at refl (omega (arith, h))) }, omega (arith, h)))
    (λ column low high. absurd (omega (arith, h, high)))
before_by S from to at h on ne =
    by_way from to at _ on
    (λ row low high. absurd (omega (arith, h, row)))
    (λ row low high. absurd (omega (arith, h, row)))
    (λ column low high. absurd (omega (arith, h, low)))
    (λ column low high. (record { on = inr (column, inr (omega (arith, low), omega (arith, h))); next = (N, (column, omega (arith, low)), one_place _ at refl (omega arith)) }, omega (arith, h)))
before_by P from to at h on ne = absurd (ne (one_place at from h.1 h.0))

-- a walk comes to each place on the way
comes : (fuel : ℕ) (from to at : Place) → far from at ≡ fuel → IsPassed from to at → IsOn from to at
comes zero from to at none on = (0, one_place from at (near from.x at.x (far_x none)) (near from.y at.y (far_y none)))
  where
    near : (a b : ℕ) → (a - b) + (b - a) ≡ 0 → a ≡ b
    near a b e = omega (arith, e)

    far_x : far from at ≡ 0 → (from.x - at.x) + (at.x - from.x) ≡ 0
    far_x e = omega (arith, e)

    far_y : far from at ≡ 0 → (from.y - at.y) + (at.y - from.y) ≡ 0
    far_y e = omega (arith, e)
comes (suc fuel) from to at some on =
    let apart_from : at ≢ from = λ same. absurd (omega (arith, some, none_far same)) in
    let before = before_by (entered from at) from to at (entered_is from at) on apart_from in
    let there = comes fuel from to (beyond (entered from at) at) (omega (arith, some, before.1)) before.0.on in
    let d = before.0.next.0 in
    let leads : heading (beyond (entered from at) at) to ≡ d =
    one_heading (heading (beyond (entered from at) at) to) d (beyond (entered from at) at) to (headed (beyond (entered from at) at) to) before.0.next.1 in
    (suc there.0, ap (λ p. beyond (heading p to) p) there.1 ∙ ap (λ e. beyond e (beyond (entered from at) at)) leads ∙ before.0.next.2)
  where
    none_far : at ≡ from → far from at ≡ 0
    none_far same = subst (λ p. far from p ≡ 0) (sym same) (omega arith)

pub law_passes : (from to at : Place) → (passes from to at ≡ true) ↔ IsOn from to at
law_passes from to at = (
  λ e. comes (far from at) from to at refl (passed from to at e),
  λ on. subst (λ p. passes from to p ≡ true) on.1 (passed_from from to (walked from to on.0) (walk_passes from to on.0)),
)

ends_on : (from to : Place) → IsPassed from to to
ends_on from to =
    ⊎_elim
    (λ (up : from.y < to.y). inr (refl, inl (omega (arith, up), omega arith)))
    (λ (down : to.y ≤ from.y). inr (refl, inr (omega arith, down)))
    (cases_lt from.y to.y)

pub law_arrives : (from to : Place) → IsOn from to to
law_arrives from to = comes (far from to) from to to refl (ends_on from to)

-- what leaves a place goes on
leaves_by : (d : Dir) (from to at : Place) → leaves d from to at ≡ true → IsPassed from to at × IsHeaded d at to
leaves_by N from to at e =
    let p = and_parts (eqb at.x to.x) (leb at.y from.y && ltb to.y at.y) e in
    let q = and_parts (leb at.y from.y) (ltb to.y at.y) p.1 in
    let column = eqb-true at.x to.x p.0 in
    let low = leb-true at.y from.y q.0 in
    let less = ltb-true to.y at.y q.1 in
    (inr (column, inr (omega (arith, less), low)), (column, less))
leaves_by E from to at e =
    let p = and_parts (eqb at.y from.y) (leb from.x at.x && ltb at.x to.x) e in
    let q = and_parts (leb from.x at.x) (ltb at.x to.x) p.1 in
    let less = ltb-true at.x to.x q.1 in
    (inl (eqb-true at.y from.y p.0, inl (leb-true from.x at.x q.0, omega (arith, less))), less)
leaves_by S from to at e =
    let p = and_parts (eqb at.x to.x) (leb from.y at.y && ltb at.y to.y) e in
    let q = and_parts (leb from.y at.y) (ltb at.y to.y) p.1 in
    let column = eqb-true at.x to.x p.0 in
    let less = ltb-true at.y to.y q.1 in
    (inr (column, inl (leb-true from.y at.y q.0, omega (arith, less))), (column, less))
leaves_by W from to at e =
    let p = and_parts (eqb at.y from.y) (leb at.x from.x && ltb to.x at.x) e in
    let q = and_parts (leb at.x from.x) (ltb to.x at.x) p.1 in
    let less = ltb-true to.x at.x q.1 in
    (inl (eqb-true at.y from.y p.0, inr (omega (arith, less), leb-true at.x from.x q.0)), less)
leaves_by P from to at e =
    let p = and_parts (eqb at.x to.x) (eqb at.y to.y) e in
    let column = eqb-true at.x to.x p.0 in
    let row = eqb-true at.y to.y p.1 in
    (subst (λ q. IsPassed from to q) (sym (one_place at to column row)) (ends_on from to), (column, row))

leaves_from : (d : Dir) (from to at : Place) → IsPassed from to at → IsHeaded d at to → leaves d from to at ≡ true
leaves_from N from to at on h =
    let low : at.y ≤ from.y =
    by_way from to at _ on (λ row a b. omega (arith, row)) (λ row a b. omega (arith, row)) (λ column a b. absurd (omega (arith, h.1, b))) (λ column a b. b) in
    and_from (eqb at.x to.x) (leb at.y from.y && ltb to.y at.y) (eq-eqb at.x to.x h.0)
    (and_from (leb at.y from.y) (ltb to.y at.y) (le-leb at.y from.y low) (lt-ltb to.y at.y h.1))
leaves_from E from to at on h =
    let both : (at.y ≡ from.y) × (from.x ≤ at.x) =
    by_way from to at _ on (λ row a b. (row, a)) (λ row a b. absurd (omega (arith, h, a))) (λ column a b. absurd (omega (arith, h, column))) (λ column a b. absurd (omega (arith, h, column))) in
    and_from (eqb at.y from.y) (leb from.x at.x && ltb at.x to.x) (eq-eqb at.y from.y both.0)
    (and_from (leb from.x at.x) (ltb at.x to.x) (le-leb from.x at.x both.1) (lt-ltb at.x to.x h))
leaves_from S from to at on h =
    let high : from.y ≤ at.y =
    by_way from to at _ on (λ row a b. omega (arith, row)) (λ row a b. omega (arith, row)) (λ column a b. a) (λ column a b. absurd (omega (arith, h.1, a))) in
    and_from (eqb at.x to.x) (leb from.y at.y && ltb at.y to.y) (eq-eqb at.x to.x h.0)
    (and_from (leb from.y at.y) (ltb at.y to.y) (le-leb from.y at.y high) (lt-ltb at.y to.y h.1))
leaves_from W from to at on h =
    let both : (at.y ≡ from.y) × (at.x ≤ from.x) =
    by_way from to at _ on (λ row a b. absurd (omega (arith, h, b))) (λ row a b. (row, b)) (λ column a b. absurd (omega (arith, h, column))) (λ column a b. absurd (omega (arith, h, column))) in
    and_from (eqb at.y from.y) (leb at.x from.x && ltb to.x at.x) (eq-eqb at.y from.y both.0)
    (and_from (leb at.x from.x) (ltb to.x at.x) (le-leb at.x from.x both.1) (lt-ltb to.x at.x h))
leaves_from P from to at on h = and_from (eqb at.x to.x) (eqb at.y to.y) (eq-eqb at.x to.x h.0) (eq-eqb at.y to.y h.1)

pub law_leaves : (d : Dir) (from to at : Place) → (leaves d from to at ≡ true) ↔ (IsOn from to at × (d ≡ heading at to))
law_leaves d from to at = (
  λ e.
      let is = leaves_by d from to at e in
      ((law_passes from to at).0 (passed_from from to at is.0), one_heading d (heading at to) at to is.1 (headed at to)),
  λ is.
      leaves_from d from to at (passed from to at ((law_passes from to at).1 is.0)) (subst (λ e. IsHeaded e at to) (sym is.1) (headed at to)),
)

-- the next place is entered from the one before it
entered_by : (d e : Dir) (from to at : Place) → IsPassed from to at → IsHeaded d at to → IsEntered e from (beyond d at) → at ≢ to
    → beyond e (beyond d at) ≡ at
entered_by E e from to at on h came ne =
    let row : (at.y ≡ from.y) × (from.x ≤ at.x) =
    by_way from to at _ on (λ row a b. (row, a)) (λ row a b. absurd (omega (arith, h, a))) (λ column a b. absurd (omega (arith, h, column))) (λ column a b. absurd (omega (arith, h, column))) in
    by_entry e came row
  where
    by_entry : (e : Dir) → IsEntered e from (beyond E at) → (at.y ≡ from.y) × (from.x ≤ at.x) → beyond e (beyond E at) ≡ at
    by_entry N came row = absurd (omega (arith, came, row.0))
    by_entry E came row = absurd (omega (arith, came.1, row.1))
    by_entry S came row = absurd (omega (arith, came, row.0))
    by_entry W came row = one_place _ at (omega arith) refl
    by_entry P came row = absurd (omega (arith, came.1, row.1))
entered_by W e from to at on h came ne =
    let row : (at.y ≡ from.y) × (at.x ≤ from.x) =
    by_way from to at _ on (λ row a b. absurd (omega (arith, h, b))) (λ row a b. (row, b)) (λ column a b. absurd (omega (arith, h, column))) (λ column a b. absurd (omega (arith, h, column))) in
    by_entry e came row
  where
    by_entry : (e : Dir) → IsEntered e from (beyond W at) → (at.y ≡ from.y) × (at.x ≤ from.x) → beyond e (beyond W at) ≡ at
    by_entry N came row = absurd (omega (arith, came, row.0))
    by_entry E came row = one_place _ at (omega (arith, h)) refl
    by_entry S came row = absurd (omega (arith, came, row.0))
    by_entry W came row = absurd (omega (arith, came.1, row.1, h))
    by_entry P came row = absurd (omega (arith, came.1, row.1, h))
entered_by S e from to at on h came ne =
    let high : from.y ≤ at.y =
    by_way from to at _ on (λ row a b. omega (arith, row)) (λ row a b. omega (arith, row)) (λ column a b. a) (λ column a b. absurd (omega (arith, h.1, a))) in
    by_entry e came high
  where
    by_entry : (e : Dir) → IsEntered e from (beyond S at) → from.y ≤ at.y → beyond e (beyond S at) ≡ at
    by_entry N came high = one_place _ at refl (omega arith)
    by_entry E came high = absurd (omega (arith, came.0, high))
    by_entry S came high = absurd (omega (arith, came, high))
    by_entry W came high = absurd (omega (arith, came.0, high))
    by_entry P came high = absurd (omega (arith, came.0, high))
entered_by N e from to at on h came ne =
    let low : at.y ≤ from.y =
    by_way from to at _ on (λ row a b. omega (arith, row)) (λ row a b. omega (arith, row)) (λ column a b. absurd (omega (arith, h.1, b))) (λ column a b. b) in
    by_entry e came low
  where
    by_entry : (e : Dir) → IsEntered e from (beyond N at) → at.y ≤ from.y → beyond e (beyond N at) ≡ at
    by_entry N came low = absurd (omega (arith, came, low))
    by_entry E came low = absurd (omega (arith, came.0, low, h.1))
    by_entry S came low = one_place _ at refl (omega (arith, h.1))
    by_entry W came low = absurd (omega (arith, came.0, low, h.1))
    by_entry P came low = absurd (omega (arith, came.0, low, h.1))
entered_by P e from to at on h came ne = absurd (ne (one_place at to h.0 h.1))

pub law_entered : (from to : Place) (k : ℕ) → walked from to k ≢ to
    → beyond (entered from (walked from to (suc k))) (walked from to (suc k)) ≡ walked from to k
law_entered from to k ne =
    let at = walked from to k in
    let next = walked from to (suc k) in
    entered_by (heading at to) (entered from next) from to at (walk_passes from to k) (headed at to) (entered_is from next) ne

pub law_begins : (from : Place) → entered from from ≡ P
law_begins from =
    ap (λ b. cond b (cond (eqb from.x from.x) P (cond (ltb from.x from.x) W E)) (cond (ltb from.y from.y) N S)) (eq-eqb from.y from.y refl)
    ∙ ap (λ b. cond b P (cond (ltb from.x from.x) W E)) (eq-eqb from.x from.x refl)

-- some element passes a test
any_there : {A : Type 0} (f : A → Bool) (xs : List A) → list_any f xs ≡ true → (i : ℕ) × (x : A) × (slice_get xs i ≡ Some x) × (f x ≡ true)
any_there f [] e = absurd (false≢true e)
any_there f (x ∷ xs) e =
    ⊎_elim
    (λ (here : f x ≡ true). (0, x, refl, here))
    (λ (later : list_any f xs ≡ true). let found = any_there f xs later in (suc found.0, found.1, found.2, found.3))
    (or_cases (f x) (list_any f xs) e)

any_from : {A : Type 0} (f : A → Bool) (xs : List A) (i : ℕ) (x : A) → slice_get xs i ≡ Some x → f x ≡ true → list_any f xs ≡ true
any_from f [] i x e is = absurd (cc e)
any_from f (y ∷ ys) zero x e is = or_left (f y) (list_any f ys) (ap f (same_Some y x e) ∙ is)
any_from f (y ∷ ys) (suc i) x e is = or_right (f y) (list_any f ys) (any_from f ys i x e is)

pub law_tree_walks : (cols : ℕ) (haul : Haulage) (tile : ℕ) → (in_tree cols haul tile ≡ true) ↔ IsOnTree cols haul tile
unfolding in_tree
law_tree_walks cols haul tile =
    let f : ℕ → Bool = λ to. passes (place_of cols haul.from) (place_of cols to) (place_of cols tile) in (
      λ e.
          let found = any_there f haul.to e in
          (found.0, found.1, found.2, (law_passes (place_of cols haul.from) (place_of cols found.1) (place_of cols tile)).0 found.3),
      λ on.
          any_from f haul.to on.0 on.1 on.2 ((law_passes (place_of cols haul.from) (place_of cols on.1) (place_of cols tile)).1 on.3),
    )
