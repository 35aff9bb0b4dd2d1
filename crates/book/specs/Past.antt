-- Entering a price of a day before the month.
use Rattle.std.specs.Prelude.{ℕ, cond, List, [], ◌∷◌, is_some, is_ok, Some, None, Err, Option, Result, ◌==◌, nat_lt}
use Rattle.measures.specs.Limits.{price_of}
use Rattle.measures.specs.declared.price.Price.{Price}
use Rattle.price_history.specs.Keys.{span, key_of, rank_of}
use Rattle.price_history.specs.Views.{tallied}
use Rattle.price_history.specs.declared.key.PriceKey.{PriceKey}
use Rattle.price_keeping.specs.Changes.{with_price}
use Rattle.book.specs.Checks.{Check, verdict}
use Rattle.book.specs.Memory.{Memory}
use Rattle.book.specs.declared.refusal.BookRefusal.{BookRefusal}
use Rattle.book.specs.declared.refusal.BookRefusal.TheVariants.{DecadeClosed, PriceEntered, HistoryFull, BeyondLimits}
use Rattle.book.specs.declared.stated.StatedKey.{StatedKey}
use Rattle.book.specs.declared.stated.StatedPrice.{StatedPrice}

-- history days 1 to 90 are those before the month; zones are 1 to 2 in every book
abbrev pub past_key : StatedKey → Option PriceKey
past_key k = cond (nat_lt 90 k.day) None (key_of k.series k.zone k.day k.slot)

abbrev pub both : {A B : Type 0} → Option A → Option B → Option (A × B)
both None b = None
both (Some x) None = None
both (Some x) (Some y) = Some (x, y)

-- a key and a price, where both are within their limits
abbrev pub past_entry : StatedKey → StatedPrice → Option (PriceKey × Price)
past_entry k p = both (past_key k) (price_of p.kop)

abbrev pub past_checks : Memory → ℕ → List Check
past_checks m rank =
    (nat_lt 0 m.book.closed, DecadeClosed)
    ∷ (is_some (m.history.shown rank), PriceEntered)
    ∷ ((tallied m.history.shown span == m.history.limit), HistoryFull)
    ∷ []

abbrev pub with_past : Memory → PriceKey × Price → Memory
with_past m e = record { book = m.book; history = with_price m.history (rank_of e.0) (Some e.1); register = m.register; rows = m.rows }

abbrev pub entry_answer : Memory → Option (PriceKey × Price) → Result Unit BookRefusal
entry_answer m None = Err BeyondLimits
entry_answer m (Some e) = verdict (past_checks m (rank_of e.0)) (tt {0})

abbrev pub entry_after : Memory → Option (PriceKey × Price) → Memory
entry_after m None = m
entry_after m (Some e) = cond (is_ok (verdict (past_checks m (rank_of e.0)) (tt {0}))) (with_past m e) m

abbrev pub past_answer : Memory → StatedKey → StatedPrice → Result Unit BookRefusal
past_answer m k p = entry_answer m (past_entry k p)

abbrev pub past_after : Memory → StatedKey → StatedPrice → Memory
past_after m k p = entry_after m (past_entry k p)
