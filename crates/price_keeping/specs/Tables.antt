-- What a table shows.
use Rattle.std.specs.Prelude.{◌≡◌, ℕ, zero, suc, ◌<◌, ◌≤◌, List, drop, None, Option, nat_lt, slice_index_or}
use Rattle.std.proofs.Common.{ap, ⊎_elim, arith}
use Rattle.std.proofs.lemmas.Bool.{cases_lt, cond-false, le-ltb}
use Rattle.measures.specs.declared.price.Price.{Price}
use Rattle.price_history.specs.Keys.{span}
use Rattle.price_history.specs.Views.{View, tallied}
use Rattle.price_history.proofs.Tallies.{one, one_le, tallied_le}
use Rattle.price_keeping.specs.declared.table.PriceTable.{PriceTable}
use Rattle.price_keeping.specs.Places.{kept_in}

abbrev pub table_view : PriceTable → View
table_view table = record { shown = kept_in table.places table.memory.now; limit = table.places }

-- the memory past the places of a table
abbrev pub beyond : PriceTable → List (Option Price)
beyond table = drop table.places table.memory.now

pub kept_past : (places : ℕ) (memory : List (Option Price)) (rank : ℕ) → places ≤ rank → kept_in places memory rank ≡ None
kept_past places memory rank le = cond-false (nat_lt rank places) (slice_index_or memory rank None) None (le-ltb rank places le)

-- no more prices than places
pub kept_within : (places : ℕ) (memory : List (Option Price)) (n : ℕ) → tallied (kept_in places memory) n ≤ places
unfolding tallied
kept_within places memory zero = omega arith
kept_within places memory (suc n) =
    let f = kept_in places memory in
    ⊎_elim
    (λ (lt : n < places). omega (arith, tallied_le f n, one_le (f n)))
    (λ (le : places ≤ n). let none : one (f n) ≡ 0 = ap one (kept_past places memory n le) in omega (arith, none, kept_within places memory n))
    (cases_lt n places)

pub table_within : (table : PriceTable) → tallied (table_view table).shown span ≤ (table_view table).limit
table_within table = kept_within table.places table.memory.now span
