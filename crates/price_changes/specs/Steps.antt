-- Strikes and entries, one after another, each as the history answers it.
use Rattle.std.specs.Prelude.{ℕ, cond, List, [], ◌∷◌, Some, None, Option}
use Rattle.measures.specs.declared.price.Price.{Price}
use Rattle.price_history.specs.Views.{View}
use Rattle.price_keeping.specs.Changes.{entered, struck}
use Rattle.pricing.specs.Changes.{Change}
use Rattle.price_changes.specs.Changed.{touched}

abbrev pub strike_one : View → Change → View
strike_one view c = cond (touched c) (struck view c.rank) view

abbrev pub strikes : View → List Change → View
strikes view [] = view
strikes view (c ∷ cs) = strikes (strike_one view c) cs

abbrev pub enter_at : View → ℕ → Option Price → View
enter_at view rank None = view
enter_at view rank (Some price) = entered view rank price

abbrev pub enters : View → List Change → View
enters view [] = view
enters view (c ∷ cs) = enters (enter_at view c.rank c.new) cs
