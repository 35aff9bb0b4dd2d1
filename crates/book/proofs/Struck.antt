-- Where prices are struck and none is entered, no room is wanted.
use Rattle.std.proofs.Common.{◌≡◌, ℕ, zero, suc, ◌≤◌, false, ◌&&◌, eqb, ◌⊎◌, List, [], ◌∷◌, None, Option, refl, ap, inl, inr, ⊎_elim, arith}
use Rattle.std.specs.List.{AllByRecursion}
use Rattle.std.proofs.lemmas.Bool.{cond_both, le-ltb}
use Rattle.measures.specs.declared.price.Price.{Price}
use Rattle.price_history.specs.Keys.{span}
use Rattle.price_history.specs.Views.{View, tallied}
use Rattle.price_history.proofs.Tallies.{one}
use Rattle.sheet.specs.Figures.{Figures}
use Rattle.pricing.specs.Changes.{Change, changes_at}
use Rattle.price_changes.specs.Changed.{touched, changed, changed_view, overfull}

abbrev NothingNew : List Change → Type 0
NothingNew cs = AllByRecursion (λ c. c.new ≡ None) cs

gone_or_kept : (f : ℕ → Option Price) (cs : List Change) (r : ℕ) → NothingNew cs → (changed f cs r ≡ None) ⊎ (changed f cs r ≡ f r)
gone_or_kept f [] r none = inr refl
gone_or_kept f (c ∷ cs) r none =
    cond_both (touched c && eqb r c.rank) c.new (changed f cs r) (λ o. (o ≡ None) ⊎ (o ≡ f r))
    (λ _. inl none.0)
    (λ _. gone_or_kept f cs r none.1)

fewer : {V : Type 0} (f g : ℕ → Option V) (n : ℕ) → ((r : ℕ) → (f r ≡ None) ⊎ (f r ≡ g r)) → tallied f n ≤ tallied g n
unfolding tallied
fewer f g zero h = omega arith
fewer f g (suc n) h =
    let rest = fewer f g n h in
    ⊎_elim
    (λ (gone : f n ≡ None). let here : one (f n) ≡ 0 = ap one gone in omega (arith, here))
    (λ (kept : f n ≡ g n). let here : one (f n) ≡ one (g n) = ap one kept in omega (arith, here))
    (h n)

pub room_to_strike : (view : View) (zone day period : ℕ) (old : Option Figures) → tallied view.shown span ≤ view.limit → overfull (changed_view view (changes_at zone day period old None)) ≡ false
room_to_strike view zone day period old within =
    let cs = changes_at zone day period old None in
    let none : NothingNew cs = (refl, (refl, (refl, (refl, (refl, (refl, (refl, (refl, (refl, (refl, tt)))))))))) in
    let few = fewer (changed view.shown cs) view.shown span (λ r. gone_or_kept view.shown cs r none) in
    le-ltb view.limit (tallied (changed view.shown cs) span) (omega arith)
