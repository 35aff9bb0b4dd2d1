-- Strikes, and then entries for which there is room, change a history as they should.
use Rattle.std.proofs.Common.{◌≡◌, ℕ, ◌+◌, ◌<◌, ◌≤◌, Bool, true, false, cond, ◌&&◌, eqb, List, [], ◌∷◌, is_some, is_ok, Some, None, Option, sym, refl, ap, ◌∙◌, subst, ⊎_elim, arith}
use Rattle.std.specs.Map.{update}
use Rattle.std.proofs.lemmas.Map.{update_here, update_apart}
use Rattle.std.proofs.lemmas.Bool.{false≢true, cases_Bool, cond_both, cond-true, cond-false, eq-eqb, eqb-true, and_from, and_left, and_right, or_right}
use Rattle.std.proofs.lemmas.Cmp.{nat_eq_equiv}
use Rattle.measures.specs.declared.price.Price.{Price}
use Rattle.price_history.specs.Keys.{span}
use Rattle.price_history.specs.Views.{View, tallied}
use Rattle.price_history.proofs.Tallies.{one, tallied_same, tallied_update}
use Rattle.price_keeping.specs.Changes.{with_price, strike_of, entered, struck}
use Rattle.price_keeping.proofs.Changing.{view_path, entry_granted, is_entered}
use Rattle.pricing.specs.Changes.{Change}
use Rattle.price_changes.specs.Changed.{touched, overlaid, changed, changed_view}
use Rattle.price_changes.specs.Counts.{struck_count, entered_count}
use Rattle.price_changes.specs.Steps.{strike_one, strikes, enter_at, enters}
use Rattle.price_changes.proofs.Apart.{Off, Apart}
use Rattle.price_changes.proofs.Counted.{cleared_count}
use Rattle.price_changes.proofs.Overlay.{Shown, none, overlaid_off, overlaid_like, none_stays}

abbrev cleared : Shown → List Change → Shown
cleared = overlaid touched none

abbrev fresh : Change → Bool
fresh c = is_some c.new

abbrev added : Shown → List Change → Shown
added = overlaid fresh (λ c. c.new)

-- a strike leaves nothing at its rank, whether or not a price was there
struck_shown : (v : View) (k q : ℕ) (o : Option Price) → v.shown k ≡ o → (cond (is_ok (strike_of o)) (with_price v k None) v).shown q ≡ cond (eqb q k) None (v.shown q)
struck_shown v k q (Some p) e = ap (λ b. cond b None (v.shown q)) (nat_eq_equiv.symm k q)
struck_shown v k q None e = cond_both (eqb q k) None (v.shown q) (λ o. v.shown q ≡ o) (λ same. ap v.shown (eqb-true q k same) ∙ e) (λ _. refl)

struck_limit : (v : View) (k : ℕ) (o : Option Price) → (cond (is_ok (strike_of o)) (with_price v k None) v).limit ≡ v.limit
struck_limit v k (Some p) = refl
struck_limit v k None = refl

strike_shown : (v : View) (c : Change) (q : ℕ) (b : Bool) → (cond b (struck v c.rank) v).shown q ≡ cond (b && eqb q c.rank) None (v.shown q)
strike_shown v c q true = struck_shown v c.rank q (v.shown c.rank) refl
strike_shown v c q false = refl

strike_limit : (v : View) (c : Change) (b : Bool) → (cond b (struck v c.rank) v).limit ≡ v.limit
strike_limit v c true = struck_limit v c.rank (v.shown c.rank)
strike_limit v c false = refl

-- what is struck first is struck
struck_first : (f g : Shown) (c : Change) (cs : List Change) (r : ℕ) (b : Bool) → g r ≡ cond b None (f r) → cleared g cs r ≡ cond b None (cleared f cs r)
struck_first f g c cs r true e = none_stays touched r g cs e
struck_first f g c cs r false e = overlaid_like touched none r g f cs e

pub strikes_shown : (v : View) (cs : List Change) (r : ℕ) → (strikes v cs).shown r ≡ cleared v.shown cs r
strikes_shown v [] r = refl
strikes_shown v (c ∷ cs) r =
    strikes_shown (strike_one v c) cs r
    ∙ struck_first v.shown (strike_one v c).shown c cs r (touched c && eqb r c.rank) (strike_shown v c r (touched c))

pub strikes_limit : (v : View) (cs : List Change) → (strikes v cs).limit ≡ v.limit
strikes_limit v [] = refl
strikes_limit v (c ∷ cs) = strikes_limit (strike_one v c) cs ∙ strike_limit v c (touched c)

-- nothing is shown where a price is to be entered
abbrev Free : Shown → List Change → Type 0
Free f [] = Unit {0}
Free f (c ∷ cs) = (is_some c.new ≡ true → f c.rank ≡ None) × Free f cs

free_apart : (f : Shown) (k : ℕ) (w : Option Price) (cs : List Change) → Off k cs → Free f cs → Free (update eqb f k w) cs
free_apart f k w [] off free = tt
free_apart f k w (c ∷ cs) off free = ((λ e. update_apart f k w c.rank (λ same. off.0 (sym same)) ∙ free.0 e), free_apart f k w cs off.1 free.1)

record Entered (v u : View) (cs : List Change) : Type 0 where
  shown : (r : ℕ) → u.shown r ≡ added v.shown cs r
  limit : u.limit ≡ v.limit

-- one price entered, and then the others
entered_first : (v u : View) (k : ℕ) (old : Option Price) (p : Price) (cs : List Change) → Off k cs → Entered (with_price v k (Some p)) u cs → Entered v u (record { rank = k; old = old; new = Some p } ∷ cs)
entered_first v u k old p cs off after = record {
  shown = λ r. after.shown r ∙
      cond_both (eqb r k) (Some p) (added v.shown cs r) (λ o. added (update eqb v.shown k (Some p)) cs r ≡ o)
      (λ same.
      let is = eqb-true r k same in
      ap (added (update eqb v.shown k (Some p)) cs) is
      ∙ overlaid_off fresh (λ c. c.new) k (update eqb v.shown k (Some p)) cs off
      ∙ update_here v.shown k (Some p))
      (λ other. overlaid_like fresh (λ c. c.new) r (update eqb v.shown k (Some p)) v.shown cs (cond-false (eqb k r) (Some p) (v.shown r) (nat_eq_equiv.symm k r ∙ other)));
  limit = after.limit;
}

-- by what is to be entered; what holds of the others is handed in
enter_as : (v : View) (k : ℕ) (old new : Option Price) (cs : List Change) → ((w : View) → Free w.shown cs → tallied w.shown span + entered_count cs ≤ w.limit → Entered w (enters w cs) cs)
    → k < span → Off k cs → (is_some new ≡ true → v.shown k ≡ None) → Free v.shown cs
    → tallied v.shown span + (cond (is_some new) 1 0 + entered_count cs) ≤ v.limit → Entered v (enters (enter_at v k new) cs) (record { rank = k; old = old; new = new } ∷ cs)
enter_as v k old None cs others below off here free room =
    let after = others v free (omega arith) in
    record { shown = after.shown; limit = after.limit }
enter_as v k old (Some p) cs others below off here free room =
    let w = with_price v k (Some p) in
    let empty : one (v.shown k) ≡ 0 = ap one (here refl) in
    let count = tallied_update v.shown k (Some p) span below in
    let granted = entry_granted v k (here refl) (λ full. omega arith) in
    let is : entered v k p ≡ w = sym (is_entered v k w p granted (λ q. refl) refl) in
    let after = others w (free_apart v.shown k (Some p) cs off free) (omega arith) in
    entered_first v (enters (entered v k p) cs) k old p cs off (subst (λ (z : View). Entered w (enters z cs) cs) (sym is) after)

enters_as : (v : View) (cs : List Change) → Apart cs → Free v.shown cs → tallied v.shown span + entered_count cs ≤ v.limit → Entered v (enters v cs) cs
enters_as v [] apart free room = record { shown = λ r. refl; limit = refl }
enters_as v (c ∷ cs) apart free room = enter_as v c.rank c.old c.new cs (λ w. enters_as w cs apart.2) apart.0 apart.1 free.0 free.1 room

free_weaker : (f g : Shown) (cs : List Change) → ((r : ℕ) → f r ≡ None → g r ≡ None) → Free f cs → Free g cs
free_weaker f g [] weaker free = tt
free_weaker f g (c ∷ cs) weaker free = ((λ e. weaker c.rank (free.0 e)), free_weaker f g cs weaker free.1)

-- what is struck is free
cleared_free : (f : Shown) (cs : List Change) → Free (cleared f cs) cs
cleared_free f [] = tt
cleared_free f (c ∷ cs) = (
  (λ e. cond-true (touched c && eqb c.rank c.rank) None _ (and_from (touched c) _ (or_right (is_some c.old) (is_some c.new) e) (eq-eqb c.rank c.rank refl))),
  free_weaker (cleared f cs) (cleared f (c ∷ cs)) cs
      (λ r e. cond_both (touched c && eqb r c.rank) None (cleared f cs r) (λ o. o ≡ None) (λ _. refl) (λ _. e))
      (cleared_free f cs),
)

none_is : (o : Option Price) → is_some o ≡ false → None ≡ o
none_is None e = refl
none_is (Some p) e = absurd (false≢true (sym e))

-- struck and then entered is changed
added_changed : (f : Shown) (cs : List Change) → Apart cs → (r : ℕ) → added (cleared f cs) cs r ≡ changed f cs r
added_changed f [] apart r = refl
added_changed f (c ∷ cs) apart r =
    let t = touched c && eqb r c.rank in
    ⊎_elim
    (λ (same : eqb r c.rank ≡ true).
    let off : Off r cs = subst (λ (k : ℕ). Off k cs) (sym (eqb-true r c.rank same)) apart.1 in
    ⊎_elim
    (λ (some : fresh c ≡ true).
    cond-true (fresh c && eqb r c.rank) _ _ (and_from (fresh c) _ some same)
    ∙ sym (cond-true t _ _ (and_from (touched c) _ (or_right (is_some c.old) (fresh c) some) same)))
    (λ (no : fresh c ≡ false).
    cond-false (fresh c && eqb r c.rank) _ _ (and_left (fresh c) _ no)
    ∙ overlaid_off fresh (λ x. x.new) r (cleared f (c ∷ cs)) cs off
    ∙ ap (λ o. cond t o (cleared f cs r)) (none_is c.new no)
    ∙ ap (λ o. cond t c.new o) (overlaid_off touched none r f cs off ∙ sym (overlaid_off touched (λ x. x.new) r f cs off)))
    (cases_Bool (fresh c)))
    (λ (other : eqb r c.rank ≡ false).
    cond-false (fresh c && eqb r c.rank) _ _ (and_right (fresh c) _ other)
    ∙ overlaid_like fresh (λ x. x.new) r (cleared f (c ∷ cs)) (cleared f cs) cs (cond-false t _ _ (and_right (touched c) _ other))
    ∙ added_changed f cs apart.2 r
    ∙ sym (cond-false t _ _ (and_right (touched c) _ other)))
    (cases_Bool (eqb r c.rank))

pub stepped : (v w u : View) (cs : List Change) → Apart cs → tallied v.shown span + entered_count cs ≤ v.limit + struck_count v.shown cs → w ≡ strikes v cs → u ≡ enters w cs → u ≡ changed_view v cs
stepped v w u cs apart room struck entered =
    let f = v.shown in
    let s = strikes v cs in
    let free : Free s.shown cs = free_weaker (cleared f cs) s.shown cs (λ r e. strikes_shown v cs r ∙ e) (cleared_free f cs) in
    let count = tallied_same s.shown (cleared f cs) span (λ r _. strikes_shown v cs r) in
    let fits : tallied s.shown span + entered_count cs ≤ s.limit = omega (arith, count, cleared_count f cs apart, strikes_limit v cs) in
    let after = enters_as s cs apart free fits in
    let is : u ≡ enters s cs = entered ∙ ap (λ (z : View). enters z cs) struck in
    is ∙ view_path (enters s cs) (changed_view v cs)
    (λ r. after.shown r ∙ overlaid_like fresh (λ x. x.new) r s.shown (cleared f cs) cs (strikes_shown v cs r) ∙ added_changed f cs apart r)
    (after.limit ∙ strikes_limit v cs)
