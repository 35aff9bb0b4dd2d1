-- How entering and striking change what a history shows.
use Rattle.std.specs.Prelude.{ℕ, cond, is_ok, Some, None, Ok, Err, Option, Result, ◌==◌, nat_eq}
use Rattle.std.specs.Map.{update}
use Rattle.measures.specs.declared.price.Price.{Price}
use Rattle.price_history.specs.Keys.{span}
use Rattle.price_history.specs.Views.{View, tallied}
use Rattle.price_keeping.specs.declared.refusal.KeepRefusal.{KeepRefusal}
use Rattle.price_keeping.specs.declared.refusal.KeepRefusal.TheVariants.{Present, Full, Absent}

-- nothing is shown, and there can be so many entries
abbrev pub fresh_view : ℕ → View
fresh_view limit = record { shown = λ _. None; limit = limit }

-- another price at a rank, or none, and all else as it was
abbrev pub with_price : View → ℕ → Option Price → View
with_price view rank price = record { shown = update nat_eq view.shown rank price; limit = view.limit }

-- a key with a price is refused first, then one for which no place is free
abbrev pub entry_to : Option Price → ℕ → ℕ → Result Unit KeepRefusal
entry_to (Some _) count limit = Err Present
entry_to None count limit = cond (count == limit) (Err Full) (Ok tt)

abbrev pub entry_answer : View → ℕ → Result Unit KeepRefusal
entry_answer view rank = entry_to (view.shown rank) (tallied view.shown span) view.limit

abbrev pub entered : View → ℕ → Price → View
entered view rank price = cond (is_ok (entry_answer view rank)) (with_price view rank (Some price)) view

abbrev pub strike_of : Option Price → Result Price KeepRefusal
strike_of (Some price) = Ok price
strike_of None = Err Absent

abbrev pub strike_answer : View → ℕ → Result Price KeepRefusal
strike_answer view rank = strike_of (view.shown rank)

abbrev pub struck : View → ℕ → View
struck view rank = cond (is_ok (strike_answer view rank)) (with_price view rank None) view
