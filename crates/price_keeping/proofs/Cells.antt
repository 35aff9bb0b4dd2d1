-- What a table shows after one of its places is written.
use Rattle.std.proofs.Common.{◌≡◌, ℕ, ◌+◌, ◌<◌, ◌≤◌, false, cond, eqb, ltb, List, length, get_or, drop, set, is_some, Some, None, Option, sym, refl, ap, ◌∙◌, ⊎_elim, arith, length-set}
use Rattle.std.specs.Map.{update}
use Rattle.std.proofs.lemmas.List.{get_or-set_same, get_or-set_other, drop-set-lt}
use Rattle.std.proofs.lemmas.Map.{update_here, update_apart}
use Rattle.std.proofs.lemmas.Bool.{cases_eq, cases_lt, cond-true, cond-false, lt-ltb, le-ltb, true≢false}
use Rattle.measures.specs.declared.price.Price.{Price}
use Rattle.price_history.specs.Keys.{span}
use Rattle.price_history.specs.Views.{tallied}
use Rattle.price_history.proofs.Tallies.{one, tallied_same, tallied_update}
use Rattle.price_keeping.specs.Places.{places_over, kept_in}
use Rattle.price_keeping.specs.Tables.{table_view, beyond, kept_past, kept_within}
use Rattle.price_keeping.specs.declared.table.PriceTable.{PriceTable}

module _ (n places : ℕ) (placed : places ≡ places_over n) where
  pub places_inside : places ≤ n
  places_inside = ⊎_elim (λ lt. omega (arith, cond-true (ltb n span) 0 span (lt-ltb n span lt))) (λ le. omega (arith, cond-false (ltb n span) 0 span (le-ltb n span le))) (cases_lt n span)

  pub places_whole : 0 < places → places ≡ span
  places_whole some = ⊎_elim (λ lt. absurd (omega (arith, cond-true (ltb n span) 0 span (lt-ltb n span lt)))) (λ le. omega (arith, cond-false (ltb n span) 0 span (le-ltb n span le))) (cases_lt n span)

module _ (places : ℕ) (memory : List (Option Price)) (rank : ℕ) where
  pub kept_inside : (price : Price) → Some price ≡ kept_in places memory rank → rank < places
  kept_inside price some =
      ⊎_elim (λ lt. lt) (λ le. absurd (true≢false (ap is_some (some ∙ kept_past places memory rank le)))) (cases_lt rank places)

  module _ (w : Option Price) (fits : places ≤ length memory) (inside : rank < places) where
    pub kept_set : (q : ℕ) → kept_in places (set memory rank w) q ≡ update eqb (kept_in places memory) rank w q
    kept_set q =
        ⊎_elim
        (λ e.
        ap (kept_in places (set memory rank w)) e
        ∙ cond-true (ltb rank places) (get_or (set memory rank w) rank None) None (lt-ltb rank places inside)
        ∙ get_or-set_same memory rank w None (omega arith)
        ∙ sym (update_here (kept_in places memory) rank w)
        ∙ ap (update eqb (kept_in places memory) rank w) (sym e))
        (λ ne. ap (λ o. cond (ltb q places) o None) (get_or-set_other memory rank q w None ne) ∙ sym (update_apart (kept_in places memory) rank w q ne))
        (cases_eq q rank)

    pub count_set : rank < span → tallied (kept_in places (set memory rank w)) span + one (kept_in places memory rank) ≡ tallied (kept_in places memory) span + one w
    count_set below =
        omega (arith, tallied_same (kept_in places (set memory rank w)) (update eqb (kept_in places memory) rank w) span (λ q lt. kept_set q), tallied_update (kept_in places memory) rank w span below)

-- a table after a place was written
pub record Written (table : PriceTable) (rank : ℕ) (w : Option Price) : Type 0 where
  pub index : rank < length table.memory.now
  pub placed : table.places ≡ places_over (length (set table.memory.now rank w))
  pub counts : tallied (kept_in table.places (set table.memory.now rank w)) span + one ((table_view table).shown rank) ≡ table.count + one w
  pub shows : (q : ℕ) → kept_in table.places (set table.memory.now rank w) q ≡ update eqb (table_view table).shown rank w q
  pub kept : drop table.places (set table.memory.now rank w) ≡ beyond table

module _ (table : PriceTable) (rank : ℕ) (below : rank < span) where
  -- a table that is not full has a place for each rank
  pub roomy : (table.count ≡ table.places → ⊥) → rank < table.places
  roomy free =
      let few = kept_within table.places table.memory.now span in
      let some : 0 < table.places = omega (arith, table.counted) in
      omega (arith, places_whole (length table.memory.now) table.places table.placed some)

  pub written : (w : Option Price) → rank < table.places → Written table rank w
  written w inside =
      let memory = table.memory.now in
      let fits = places_inside (length memory) table.places table.placed in
      record {
        index = omega arith;
        placed = table.placed ∙ ap places_over (sym (length-set memory rank w));
        counts = count_set table.places memory rank w fits inside below ∙ ap (λ n. n + one w) (sym table.counted);
        shows = kept_set table.places memory rank w fits inside;
        kept = drop-set-lt table.places memory rank w inside;
      }

-- what is not some is none
pub none_from : {A : Type 0} (o : Option A) → is_some o ≡ false → o ≡ None
none_from None e = refl
none_from (Some x) e = absurd (true≢false e)
