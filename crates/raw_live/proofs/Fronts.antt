-- The lines of items that grow by one, and of the items taken of those put.
use Rattle.std.proofs.Common.{◌≡◌, ℕ, true, false, List, [], ◌∷◌, ◌++◌, refl, sym, ap, ◌∙◌, append_assoc, append-nil, true≢false}
use Rattle.raw_network.specs.Laws.{IsPrefix}
use Rattle.raw_queue.specs.declared.item.Item.{Item}
use Rattle.raw_queue.specs.declared.item.Item.TheVariants.{Word, End}
use Rattle.raw_live.specs.Items.{has_end, got_line, got_text}

-- the lines of items taken begin those of the items put
pub taken_begin : (put taken rest : List Item) → put ≡ taken ++ rest → IsPrefix (got_text taken) (got_text put)
taken_begin put taken rest e = let r = front taken rest in (r.0, sym (ap got_text e ∙ r.1))
  where
    front : (xs ys : List Item) → (more : List ℕ) × (got_text (xs ++ ys) ≡ got_text xs ++ more)
    front [] ys = (got_text ys, refl)
    front (Word port word ∷ xs) ys = let r = front xs ys in (r.0, ap (λ l. got_line port word ++ l) r.1 ∙ sym (append_assoc (got_line port word) (got_text xs) r.0))
    front (End ∷ xs) ys = ([], refl)

-- where the end was taken, they are all of them
pub taken_whole : (put taken rest : List Item) → put ≡ taken ++ rest → has_end taken ≡ true → got_text put ≡ got_text taken
taken_whole put taken rest e ended = ap got_text e ∙ whole taken rest ended
  where
    whole : (xs ys : List Item) → has_end xs ≡ true → got_text (xs ++ ys) ≡ got_text xs
    whole [] ys ended = absurd (true≢false (sym ended))
    whole (Word port word ∷ xs) ys ended = ap (λ l. got_line port word ++ l) (whole xs ys ended)
    whole (End ∷ xs) ys ended = refl

-- an end adds no line
pub end_adds_none : (xs : List Item) → got_text (xs ++ End ∷ []) ≡ got_text xs
end_adds_none (Word port word ∷ xs) = ap (λ l. got_line port word ++ l) (end_adds_none xs)
end_adds_none _ = refl

-- what follows items with no end
pub has_end-append : (xs ys : List Item) → has_end xs ≡ false → has_end (xs ++ ys) ≡ has_end ys
has_end-append [] ys endless = refl
has_end-append (Word port word ∷ xs) ys endless = has_end-append xs ys endless
has_end-append (End ∷ xs) ys endless = absurd (true≢false endless)

pub got_text-append : (xs ys : List Item) → has_end xs ≡ false → got_text (xs ++ ys) ≡ got_text xs ++ got_text ys
got_text-append [] ys endless = refl
got_text-append (Word port word ∷ xs) ys endless = ap (λ l. got_line port word ++ l) (got_text-append xs ys endless) ∙ sym (append_assoc (got_line port word) (got_text xs) (got_text ys))
got_text-append (End ∷ xs) ys endless = absurd (true≢false endless)

-- one word more
pub record WordMore (xs ys : List Item) (port word : ℕ) : Type 0 where
  pub items : ys ≡ xs ++ Word port word ∷ []
  pub text : got_text ys ≡ got_text xs ++ got_line port word
  pub endless : has_end ys ≡ false

pub word_more : (xs ys : List Item) (item : Item) (port word : ℕ) → has_end xs ≡ false → ys ≡ xs ++ item ∷ [] → item ≡ Word port word → WordMore xs ys port word
word_more xs ys item port word endless e is =
    let items : ys ≡ xs ++ Word port word ∷ [] = e ∙ ap (λ x. xs ++ x ∷ []) is in record {
      items = items;
      text = ap got_text items ∙ got_text-append xs (Word port word ∷ []) endless ∙ ap (λ l. got_text xs ++ l) (append-nil (got_line port word));
      endless = ap has_end items ∙ has_end-append xs (Word port word ∷ []) endless;
    }

-- the end
pub record EndMore (xs ys : List Item) : Type 0 where
  pub text : got_text ys ≡ got_text xs
  pub ended : has_end ys ≡ true

pub end_more : (xs ys : List Item) (item : Item) → has_end xs ≡ false → ys ≡ xs ++ item ∷ [] → item ≡ End → EndMore xs ys
end_more xs ys item endless e is =
    let items : ys ≡ xs ++ End ∷ [] = e ∙ ap (λ x. xs ++ x ∷ []) is in record {
      text = ap got_text items ∙ got_text-append xs (End ∷ []) endless ∙ append-nil (got_text xs);
      ended = ap has_end items ∙ has_end-append xs (End ∷ []) endless;
    }
