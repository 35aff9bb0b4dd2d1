-- When entering and striking are granted, and what a history shows then.
use Rattle.std.proofs.Common.{◌≡◌, ℕ, eqb, is_ok, Some, None, Ok, Err, sym, ap, ◌∙◌}
use mathlib.Core.Path.{fun_ext}
use Rattle.std.specs.Map.{update}
use Rattle.std.proofs.lemmas.Bool.{cond-true, cond-false, ne_eqb}
use Rattle.measures.specs.declared.price.Price.{Price}
use Rattle.price_history.specs.Keys.{span}
use Rattle.price_history.specs.Views.{View, tallied}
use Rattle.price_keeping.specs.declared.refusal.KeepRefusal.TheVariants.{Full}
use Rattle.price_keeping.specs.Changes.{with_price, entry_to, entry_answer, entered, strike_answer, struck}

pub view_path : (view other : View) → ((rank : ℕ) → view.shown rank ≡ other.shown rank) → view.limit ≡ other.limit → view ≡ other
view_path view other shown limit = λ i. record { shown = fun_ext shown i; limit = limit i }

module _ (view : View) (rank : ℕ) where
  pub entry_granted : view.shown rank ≡ None → (tallied view.shown span ≡ view.limit → ⊥) → Ok tt ≡ entry_answer view rank
  entry_granted none free =
      let count = tallied view.shown span in
      sym (cond-false (eqb count view.limit) (Err Full) (Ok tt) (ne_eqb count view.limit free))
      ∙ ap (λ o. entry_to o count view.limit) (sym none)

  pub is_entered : (other : View) (price : Price) → Ok tt ≡ entry_answer view rank → ((q : ℕ) → other.shown q ≡ update eqb view.shown rank (Some price) q) → other.limit ≡ view.limit → other ≡ entered view rank price
  is_entered other price granted shown limit =
      view_path other (with_price view rank (Some price)) shown limit
      ∙ sym (cond-true (is_ok (entry_answer view rank)) (with_price view rank (Some price)) view (ap is_ok (sym granted)))

  pub is_struck : (other : View) (price : Price) → Ok price ≡ strike_answer view rank → ((q : ℕ) → other.shown q ≡ update eqb view.shown rank None q) → other.limit ≡ view.limit → other ≡ struck view rank
  is_struck other price granted shown limit =
      view_path other (with_price view rank None) shown limit
      ∙ sym (cond-true (is_ok (strike_answer view rank)) (with_price view rank None) view (ap is_ok (sym granted)))
