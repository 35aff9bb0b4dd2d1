-- A list of prices that is changed counts the prices that it shows.
use Rattle.std.proofs.Common.{◌≡◌, ℕ, ◌<◌, true, is_ok, Some, None, Option, sym, refl, subst, ⊎_elim, arith}
use Rattle.std.proofs.lemmas.Bool.{cases_Bool, cond-true, cond-false, false≢true}
use Rattle.measures.specs.declared.price.Price.{Price}
use Rattle.ordered_list.specs.Listings as list
use Rattle.price_history.specs.Keys.{span}
use Rattle.price_history.proofs.Tallies.{one, tallied_update}
use Rattle.price_keeping.specs.Counts.{Counted}

-- what is granted to enter was not there, and what is granted to strike was
entry_absent : (o : Option Price) (count places : ℕ) → is_ok (list.entry_to o count places) ≡ true → one o ≡ 0
entry_absent (Some _) count places ok = absurd (false≢true ok)
entry_absent None count places ok = refl

strike_present : (o : Option Price) → is_ok (list.strike_of o) ≡ true → one o ≡ 1
strike_present (Some _) ok = refl
strike_present None ok = absurd (false≢true ok)

module _ (l : list.Listing Price) (counted : Counted l) (rank : ℕ) (below : rank < span) where
  pub entered_counted : (price : Price) → Counted (list.entered l rank price)
  entered_counted price =
      let ok = is_ok (list.entry_answer l rank) in
      ⊎_elim
      (λ yes-ok.
      let none = entry_absent (l.shown rank) l.count l.places yes-ok in
      subst Counted (sym (cond-true ok _ l yes-ok)) (omega (arith, none, counted, tallied_update l.shown rank (Some price) span below)))
      (λ not-ok. subst Counted (sym (cond-false ok _ l not-ok)) counted)
      (cases_Bool ok)

  pub struck_counted : Counted (list.struck l rank)
  struck_counted =
      let ok = is_ok (list.strike_answer l rank) in
      ⊎_elim
      (λ yes-ok.
      let some = strike_present (l.shown rank) yes-ok in
      subst Counted (sym (cond-true ok _ l yes-ok)) (omega (arith, some, counted, tallied_update l.shown rank None span below)))
      (λ not-ok. subst Counted (sym (cond-false ok _ l not-ok)) counted)
      (cases_Bool ok)
