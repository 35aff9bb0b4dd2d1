-- What is shown at one rank under changes.
use Rattle.std.proofs.Common.{◌≡◌, ℕ, Bool, cond, ◌&&◌, eqb, List, [], ◌∷◌, None, Option, refl, ap, ◌∙◌}
use Rattle.std.proofs.lemmas.Bool.{cond_both, cond-false, and_right, ne_eqb}
use Rattle.measures.specs.declared.price.Price.{Price}
use Rattle.pricing.specs.Changes.{Change}
use Rattle.price_changes.specs.Changed.{overlaid}
use Rattle.price_changes.proofs.Apart.{Off}

abbrev pub Shown : Type 0
Shown = ℕ → Option Price

abbrev pub none : Change → Option Price
none c = None

module _ (picked : Change → Bool) (told : Change → Option Price) (r : ℕ) where
  pub overlaid_off : (f : Shown) (cs : List Change) → Off r cs → overlaid picked told f cs r ≡ f r
  overlaid_off f [] off = refl
  overlaid_off f (c ∷ cs) off =
      cond-false (picked c && eqb r c.rank) (told c) _ (and_right (picked c) (eqb r c.rank) (ne_eqb r c.rank off.0))
      ∙ overlaid_off f cs off.1

  -- it depends on what was shown at that rank alone
  pub overlaid_like : (f g : Shown) (cs : List Change) → f r ≡ g r → overlaid picked told f cs r ≡ overlaid picked told g cs r
  overlaid_like f g [] e = e
  overlaid_like f g (c ∷ cs) e = ap (λ o. cond (picked c && eqb r c.rank) (told c) o) (overlaid_like f g cs e)

-- where nothing was shown, and nothing is told, nothing is shown
pub none_stays : (picked : Change → Bool) (r : ℕ) (f : Shown) (cs : List Change) → f r ≡ None → overlaid picked none f cs r ≡ None
none_stays picked r f [] e = e
none_stays picked r f (c ∷ cs) e =
    cond_both (picked c && eqb r c.rank) None (overlaid picked none f cs r) (λ o. o ≡ None) (λ _. refl) (λ _. none_stays picked r f cs e)
