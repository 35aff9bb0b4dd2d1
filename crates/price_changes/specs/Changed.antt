-- A history with the prices of one sheet struck and those of another entered.
use Rattle.std.specs.Prelude.{ℕ, Bool, cond, ◌&&◌, ◌||◌, List, [], ◌∷◌, is_some, is_ok, Ok, Err, Option, Result, ◌==◌, nat_lt}
use Rattle.measures.specs.declared.price.Price.{Price}
use Rattle.price_history.specs.Keys.{span}
use Rattle.price_history.specs.Views.{View, tallied}
use Rattle.pricing.specs.Changes.{Change}
use Rattle.price_changes.specs.declared.refusal.ChangeRefusal.{ChangeRefusal}
use Rattle.price_changes.specs.declared.refusal.ChangeRefusal.TheVariants.{Full}

-- the older sheet formed a price there, or the newer one forms one
abbrev pub touched : Change → Bool
touched c = is_some c.old || is_some c.new

-- at the ranks of the changes that are picked, what is told of them; at every other rank, what was shown
abbrev pub overlaid : (Change → Bool) → (Change → Option Price) → (ℕ → Option Price) → List Change → ℕ → Option Price
overlaid picked told shown [] rank = shown rank
overlaid picked told shown (c ∷ cs) rank = cond (picked c && rank == c.rank) (told c) (overlaid picked told shown cs rank)

-- what the newer sheet forms at the ranks that are touched, and all else as it was
abbrev pub changed : (ℕ → Option Price) → List Change → ℕ → Option Price
changed = overlaid touched (λ c. c.new)

abbrev pub changed_view : View → List Change → View
changed_view view cs = record { shown = changed view.shown cs; limit = view.limit }

-- more prices would be shown than the greatest number
abbrev pub overfull : View → Bool
overfull view = nat_lt view.limit (tallied view.shown span)

abbrev pub change_answer : View → List Change → Result Unit ChangeRefusal
change_answer view cs = cond (overfull (changed_view view cs)) (Err Full) (Ok tt)

abbrev pub change_after : View → List Change → View
change_after view cs = cond (is_ok (change_answer view cs)) (changed_view view cs) view
